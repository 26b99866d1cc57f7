use Rattle.std.proofs.Common.{arith, ◌<◌, Bool, false, Option, ℕ, Some, None, IfSome, subst}
use Rattle.egt_index.specs.Prelude.{Setup, Side, material_of, HasKingsOn, Keeps, SpellsAt, AreHome, has_pawns, HasStand}
use Rattle.egt_index.specs.Prelude.{IsInOrder, Stand}
use Rattle.egt_index.proofs.Beating.{keeps_with, turn_beaten, turn_kept, white_home}
use Rattle.egt_index.proofs.Swapping.{keeps_in_order, least_in_order}
use Rattle.egt_index.proofs.least_code.minimality_straight.Goals.{After-still_home}
use Rattle.egt_index.proofs.least_code.minimality_straight.Goals as goal

pub minimality_after-requires-clause-turn : goal.minimality_after-requires-clause-turn
minimality_after-requires-clause-turn c = subst (λ (o : Option ℕ). IfSome o (λ t. t < 16)) c.in-Some.is c.still_home.ensures.below

-- the turns that leave the king at home
home : (c : After-still_home) (stand : Stand) (p : Setup) (side : Side) (targeted : Bool) (code : ℕ) → HasKingsOn c.args.white c.args.black stand → HasStand c.args.class false stand side targeted p → SpellsAt c.args.class code stand p
    → AreHome (has_pawns (material_of c.args.class)) false stand.white 0 c.still_home.result
home c stand p side targeted code on has s = grind (arith, white_home)

-- the turn that changes nothing
kept_still : (c : After-still_home) (stand : Stand) (p : Setup) (side : Side) (targeted : Bool) (code : ℕ) → IsInOrder stand.first stand.last → HasStand c.args.class false stand side targeted p → SpellsAt c.args.class code stand p → Keeps c.args.class p 0 code
kept_still c stand p side targeted code in_order has s =
    keeps_in_order c.facts.ensures c.args.class code p has.admissible (least_in_order c.args.class code stand p has.admissible has.stood.all in_order has.stood.are has.is_of s)

pub returns-in-Some-clause-beats : goal.returns-in-Some-clause-beats
returns-in-Some-clause-beats c = λ h stand prefix p side targeted code has s.
    let home : AreHome (has_pawns (material_of c.args.class)) false stand.white 0 (Some c.in-Some.turn) = subst (AreHome (has_pawns (material_of c.args.class)) false stand.white 0) c.in-Some.is (home c.before.before stand p side targeted code prefix.0 has s) in
    turn_beaten c.args.class false stand c.in-Some.turn p side targeted code home.other home.other_brings (c.minimality_after.ensures.beats h stand prefix) has s.spells

pub returns-in-Some-clause-keeps : goal.returns-in-Some-clause-keeps
returns-in-Some-clause-keeps c = λ h stand prefix in_order p side targeted code has s.
    let home : AreHome (has_pawns (material_of c.args.class)) false stand.white 0 (Some c.in-Some.turn) = subst (AreHome (has_pawns (material_of c.args.class)) false stand.white 0) c.in-Some.is (home c.before.before stand p side targeted code prefix.0 has s) in
    keeps_with c.facts.ensures c.args.class p false stand.white 0 (Some c.in-Some.turn) code has.admissible has.is_of has.stood.all.1 home (kept_still c.before.before stand p side targeted code in_order has s)
    (turn_kept c.args.class false stand c.in-Some.turn p side targeted code home.other (c.minimality_after.ensures.keeps h stand prefix) has s.spells)

pub returns-in-None-clause-keeps : goal.returns-in-None-clause-keeps
returns-in-None-clause-keeps c = λ h stand prefix in_order p side targeted code has s.
    keeps_with c.facts.ensures c.args.class p false stand.white 0 None code has.admissible has.is_of has.stood.all.1 (subst (AreHome (has_pawns (material_of c.args.class)) false stand.white 0) c.in-None.is (home c.before stand p side targeted code prefix.0 has s))
    (kept_still c.before stand p side targeted code in_order has s) tt
