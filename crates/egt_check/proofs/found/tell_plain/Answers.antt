use Rattle.std.proofs.Common.{◌≡◌, ◌∙◌, ◌+◌, ◌*◌, ◌-◌, ℕ, List, ap, arith, drop, length, sym, slice_index, take}
use Rattle.egt_check.specs.Prelude.{code_of, code_plain, kind_less, number_in, piece_at, places, side_few}
use Rattle.egt_check.specs.Prelude.{side_number, square_in, told, White, Black}
use Rattle.egt_check.proofs.FoundTold.{piece_long, put_told, shelf_told, told_alike}
use Rattle.egt_check.proofs.found.tell_plain.Goals as goal

pub put-requires-clause-within : goal.put-requires-clause-within
put-requires-clause-within c = grind (arith, number_in, piece_long, c.class.ensures.class, c.first_of-first.ensures, c.from-from.ensures, c.first_square.ensures, c.from-len.ensures, c.digits_of.ensures, c.requires.shelf.len, c.requires.within)

pub returns : goal.returns
returns c =
    let t = c.args.table.now in
    let cl : ℕ = t.class in
    let column = c.args.column in
    let scores = c.args.scores.now.scores in
    let shelf = c.args.shelf in
    let kind = c.args.men.now.last.kind in
    let from : ℕ = 2 * c.from-from.result in
    let len : ℕ = 2 * c.from-len.result in
    let entries = c.woven-entries.result in
    let piece : List ℕ = take (from + len - from) (drop from entries) in
    let less = c.from-from.ensures ∙ c.first_square.ensures in
    let digits = c.from-len.ensures ∙ c.digits_of.ensures in
    let few = c.requires.shelf.len in
    let first : c.first_of-first.result ≡ shelf * (2 * places cl) = (let is = c.first_of-first.ensures ∙ ap (λ n. number_in n shelf White 0) c.class.ensures.class in omega (arith, is)) in
    let long : length piece ≡ len = piece_long entries kind from len (omega (arith, c.woven-entries.type_inv)) (omega (arith, less)) (omega (arith, digits)) in
    let put = c.put.ensures in
    let more =
    put_told column scores t t c.put.new.self c.first_of-first.result piece (told_alike column scores t)
    (λ k below.
    piece_at entries from len k (omega (arith, below, long))
    ∙ shelf_told column scores cl shelf kind c.requires.targets c.told_row-white.result c.told_row-black.result entries
    (λ k below. c.told_row-white.ensures (k + kind_less kind) (square_in kind k below) ∙ ap (told column) (c.row.ensures.digits k below ∙ ap (λ n. slice_index scores (code_of n (number_in n shelf White k))) c.requires.class))
    (λ k below. c.told_row-black.ensures (k + kind_less kind) (square_in kind k below) ∙ ap (told column) (c.row-2.ensures.digits k below ∙ ap (λ n. slice_index scores (code_of n (number_in n shelf Black k))) c.requires.class))
    c.woven-entries.ensures k (from + k) (omega (arith, below, long, digits)) (omega (arith, less))
    ∙ ap (λ n. told column (slice_index scores (n + k))) (sym first))
    put.class put.there put.columns put.reach put.here put.others in
    record {
      kept = more.0;
      told = λ side k k_in.
          let one = side_few side in
          let number : c.first_of-first.result + (side_number side + 2 * k) ≡ number_in cl shelf side k = omega (arith, first) in
          more.2 _ (side_number side + 2 * k) (number ∙ sym (code_plain cl (number_in cl shelf side k) c.requires.targets)) (omega (arith, one, k_in, long, digits, few));
    }
