use Rattle.std.proofs.Common.{◌≡◌, ◌/◌, ◌%◌, ◌+◌, ◌*◌, ℕ, false, cond, eqb, arith}
use Rattle.egt_index.specs.Prelude.{turned_square, HasKingsOn, Stand}
use Rattle.egt_index.proofs.Beating.{beaten_by_kings, kept_by_kings, same_by_kings, spelled_home}
use Rattle.egt_index.proofs.FirstMan.{beaten_by, kept_by, plain_if}
use Rattle.egt_index.proofs.least_code.minimality_after.Goals.{After-minimality_by_first}
use Rattle.egt_index.proofs.least_code.minimality_after.Goals as goal

-- the kings' squares as a number, before the turn and after it
abbrev own : ℕ → ℕ → ℕ → ℕ
own turn white black = cond (eqb (turn / 8) 1) (64 * black + white) (64 * white + black)

abbrev after : ℕ → ℕ → ℕ → ℕ
after turn white black = 64 * turned_square (turn % 8) (eqb (turn / 8) 1) white + turned_square (turn % 8) (eqb (turn / 8) 1) black

pub returns-then-image-own-clause-beats : goal.returns-then-image-own-clause-beats
returns-then-image-own-clause-beats c = λ h stand prefix p side targeted code has keeps brings s.
    beaten_by_kings c.facts.ensures c.args.class code c.args.turn stand p c.kings-own.result c.kings_after-image.result (omega (arith, c.number-number.ensures.below, c.number-number.ensures.value)) c.requires.turn has.admissible has.settled has.is_of keeps has.stood.all
    s brings (same_by_kings (own c.args.turn) c.kings-own.result c.args.white c.args.black stand prefix.0 c.kings-own.ensures)
    (same_by_kings (after c.args.turn) c.kings_after-image.result c.args.white c.args.black stand prefix.0 c.kings_after-image.ensures) c.if-image-own.true

pub returns-then-own-image-clause-keeps : goal.returns-then-own-image-clause-keeps
returns-then-own-image-clause-keeps c = λ h stand prefix p side targeted code has keeps s.
    kept_by_kings c.facts.ensures c.args.class code c.args.turn stand p c.kings-own.result c.kings_after-image.result has.admissible has.stood.all s
    (same_by_kings (own c.args.turn) c.kings-own.result c.args.white c.args.black stand prefix.0 c.kings-own.ensures)
    (same_by_kings (after c.args.turn) c.kings_after-image.result c.args.white c.args.black stand prefix.0 c.kings_after-image.ensures) c.if-own-image.true

-- the image has the kings on the same squares, and exchanges no colours
same_kings : (c : After-minimality_by_first) (stand : Stand) → HasKingsOn c.args.white c.args.black stand → eqb (c.args.turn / 8) 1 ≡ false
    → 64 * stand.white + stand.black ≡ after c.args.turn stand.white stand.black
same_kings c stand on plain = grind (arith, same_by_kings)

pub returns-clause-beats : goal.returns-clause-beats
returns-clause-beats c = λ h stand prefix p side targeted code has keeps brings s.
    let moved = c.minimality_by_first.ensures.beaten h in
    beaten_by c.facts.ensures c.args.class code c.args.turn stand p c.args.first c.requires.first prefix.1 moved has.admissible has.stood.all s (same_kings c stand prefix.0 (plain_if _ c.args.first c.args.turn moved))
    (spelled_home c.facts.ensures c.args.class c.args.turn stand p (omega (arith, c.number-number.ensures.below, c.number-number.ensures.value)) has.admissible has.settled has.is_of keeps has.stood.all brings)

pub returns-clause-keeps : goal.returns-clause-keeps
returns-clause-keeps c = λ h stand prefix p side targeted code has keeps s.
    let moved = c.minimality_by_first.ensures.least h in
    kept_by c.facts.ensures c.args.class code c.args.turn stand p c.args.first c.requires.first prefix.1 moved has.admissible has.stood.all s (same_kings c stand prefix.0 (plain_if _ c.args.first c.args.turn moved))
