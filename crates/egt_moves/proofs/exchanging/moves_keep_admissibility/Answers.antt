use Rattle.std.proofs.Common.{subst, sym}
use Rattle.egt_moves.specs.Prelude.{IsInCheck, Setup, IsAdmissible}
use Rattle.egt_moves.proofs.Admissible.{admissible_after}
use Rattle.egt_moves.proofs.exchanging.moves_keep_admissibility.Goals as goal

pub returns : goal.returns
returns c p q m ok step =
    let safe = subst (λ (r : Setup). IsInCheck r.men p.side → ⊥) step.becomes step.safe in
    subst IsAdmissible (sym step.becomes) (admissible_after p step.man m step.stands step.mine step.goes step.promotion ok safe)
