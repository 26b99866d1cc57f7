use Rattle.std.proofs.Common.{◌∙◌, ap, arith, sym}
use Rattle.egt_check.specs.Prelude.{bit_at-zero, false≢true, is_pawn, sides_differ}
use Rattle.egt_blocks.proofs.AdvanceRaising.{lacked}
use Rattle.egt_check.proofs.lone_judging.quiet_lanes.Goals as goal

pub returns-then-not-is_of : goal.returns-then-not-is_of
returns-then-not-is_of c = λ s s_in has. record {
  own = λ his. absurd (false≢true (sym c.if-not-is_of.true ∙ c.is_of.ensures.1 his));
  other = λ theirs beside. let off = (lacked c.beside_king.result.bits _ s s_in (c.difference.ensures.squares s)).0 has in let on = (c.beside_king.ensures s s_in).1 beside in omega (arith, off, on);
}

pub returns-then-is_pawn : goal.returns-then-is_pawn
returns-then-is_pawn c = λ s s_in has. absurd (let none = bit_at-zero s in omega (arith, has, none))

pub returns-else-is_pawn : goal.returns-else-is_pawn
returns-else-is_pawn c = λ s s_in has. record {
  own = λ his pawn. false≢true (sym c.if-is_pawn.false ∙ c.is_pawn.ensures ∙ ap is_pawn pawn);
  other = λ theirs beside. sides_differ c.args.side (sym (c.is_of.ensures.0 c.if-not-is_of.false) ∙ theirs);
}
