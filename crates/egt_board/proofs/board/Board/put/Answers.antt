use Rattle.std.proofs.Common.{◌≡◌, ℕ, ◌-◌, ◌≤◌, Bool, cond, arith, refl, sym, ap, ◌∙◌, inl, inr}
use Rattle.egt_board.specs.Prelude.{nat_cmp_total, cases_eq, Man, Placement, same_men, get-insert_same}
use Rattle.egt_board.specs.Prelude.{get-insert_other, get-remove_same, get-remove_other}
use Rattle.std.specs.FinMap as map
use Rattle.egt_board.proofs.board.Board.put.Goals as goal

no_more : (m : Placement) (s : ℕ) → map.len (map.remove m s) ≤ map.len m
no_more m s = of_test (map.contains_key m s) (map.len-remove nat_cmp_total m s)
  where
    of_test : (b : Bool) → map.len (map.remove m s) ≡ cond b (map.len m - 1) (map.len m) → map.len (map.remove m s) ≤ map.len m
    of_test b e = grind arith

in_place : (m : Placement) (s : ℕ) (man : Man) → map.insert (map.remove m s) s man ≡ map.insert m s man
in_place m s man = same_men _ _ (λ q. elim (cases_eq q s) [
  | inl here ↦ get-insert_same (map.remove m s) s man q here ∙ sym (get-insert_same m s man q here)
  | inr apart ↦ get-insert_other (map.remove m s) s man q apart ∙ get-remove_other m s q apart ∙ sym (get-insert_other m s man q apart)
])

pub with_man-requires-clause-free : goal.with_man-requires-clause-free
with_man-requires-clause-free c = rw c.clear.ensures (get-remove_same c.args.self.now c.args.square c.args.square refl)

pub with_man-requires-clause-room : goal.with_man-requires-clause-room
with_man-requires-clause-room c = rw c.clear.ensures (let few = no_more c.args.self.now c.args.square in omega (arith, few, c.requires))

pub returns : goal.returns
returns c = c.with_man.ensures ∙ ap (λ m. map.insert m c.args.square c.args.man) c.clear.ensures ∙ in_place c.args.self.now c.args.square c.args.man
