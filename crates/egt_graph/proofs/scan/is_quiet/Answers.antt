use Rattle.std.proofs.Common.{◌≡◌, ℕ, ◌+◌, ◌*◌, ◌<◌, ◌≤◌, length, eqb, true, cond, replicate, ◌%◌, ◌^◌, List, get_or, false, sym, ◌∙◌, map, arith, w16}
use Rattle.std.proofs.lemmas.Bool.{OnTrue_from, eqb-true, or_from}
use Rattle.std.proofs.lemmas.Simd.{bitmask_splat, none_from_empty_mask, length-chunk}
use lib.Lanes.{chunk, mask_l, top, zip2}
use Rattle.egt_graph.proofs.scan.is_quiet.Goals as goal

-- an empty mask of a comparison with y: no entry under the load is y
none_is : (xs : List ℕ) (i y : ℕ) → i + 16 ≤ length xs → mask_l (map (λ x. eqb x y) (chunk i 16 xs)) ≡ 0 → (k : ℕ) → i ≤ k → k < i + 16 → eqb (get_or xs k 0) y ≡ false
none_is xs i y room e = none_from_empty_mask (λ x. eqb x y) xs i 16 0 room e

pub returns-then-wins-eq0 : goal.returns-then-wins-eq0
returns-then-wins-eq0 c =
    let xs = c.args.entries.now in
    let room : c.args.from + 16 ≤ length xs = c.requires.within in
    let long : length (chunk c.args.from 16 xs) ≡ 16 = length-chunk c.args.from 16 xs room in
    OnTrue_from _ _ (λ (e : eqb (mask_l (map (top 15) (zip2 (λ a b. cond (eqb a b) 65535 0) (chunk c.args.from 16 xs) (replicate 16 (3 + 2 * c.args.round)))) % 2 ^ 64) 0 ≡ true). λ k low high. or_from _ _
    (none_is xs c.args.from (2 + 2 * c.args.round) room (sym (bitmask_splat w16 eqb (chunk c.args.from 16 xs) 16 (2 + 2 * c.args.round) long (omega arith)) ∙ c.if-wins-eq0.true) k low high)
    (none_is xs c.args.from (3 + 2 * c.args.round) room (sym (bitmask_splat w16 eqb (chunk c.args.from 16 xs) 16 (3 + 2 * c.args.round) long (omega arith)) ∙ eqb-true _ _ e) k low high))
