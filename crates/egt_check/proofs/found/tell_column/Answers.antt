use Rattle.std.proofs.Common.{◌≡◌, ◌∙◌, ◌*◌, ◌/◌, ◌%◌, ◌<◌, ℕ, List, length, map, ap, arith, sym, subst}
use Rattle.egt_check.specs.Prelude.{ext_get_or, length-map, places, size_of, TableValue, entries_of, IsToldEntry, told}
use Rattle.egt_check.proofs.FoundTold.{told_at, told_none}
use Rattle.egt_check.proofs.ScoreRowsRead.{whole_class}
use Rattle.egt_check.proofs.ScoresDrawn.{of_code}
use Rattle.egt_check.proofs.found.tell_column.Goals as goal

pub returns-clause-told : goal.returns-clause-told
returns-clause-told c =
    let column = c.args.column in
    let scores : List ℕ = c.args.scores.now.scores in
    let cl : ℕ = c.args.table.now.class in
    let new : TableValue = c.loop-shelf.table in
    let few = c.class-class.ensures.table.class_in in
    let laws = c.numbers_stand_for_codes.ensures in
    let same = c.class-class.ensures.class in
    let digits = c.last_digits.ensures.is ∙ ap places same in
    let some = c.last_digits.ensures.some in
    let shelves = whole_class cl c.size.result c.last_digits.result (c.size.ensures ∙ ap (λ n. size_of n) same) digits (subst (λ n. size_of n % (2 * places n) ≡ 0) same c.last_digits.ensures.whole) in
    let end = c.loop-shelf-test.false in
    let there = c.loop-shelf.invariant.from.there column c.requires.there in
    let long : length (entries_of column new) ≡ size_of cl = c.class-whole.ensures.table.sizes column there ∙ ap (λ n. size_of n) c.loop-shelf.invariant.from.class in
    let also : length (map (told column) scores) ≡ size_of cl = length-map scores (told column) ∙ c.class-scores.ensures.size ∙ ap (λ n. size_of n) c.requires.class in
    ext_get_or 0 (entries_of column new) (map (told column) scores) (long ∙ sym also) (λ i i_in.
    let below : i < size_of cl = subst (λ n. i < n) long i_in in
    of_code cl (c.size.result / (2 * c.last_digits.result)) (IsToldEntry column scores new) (omega (arith, some, digits)) shelves
    (λ shelf less side k k_in. c.loop-shelf.invariant.told shelf (omega (arith, less, end)) side k k_in) i (laws.code cl i few below) (laws.within cl i few below)
    ∙ sym (told_at column scores i (told_none column)))
