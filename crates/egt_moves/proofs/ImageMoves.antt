-- Positions that mirrors lead to, one after another, play alike.
use Rattle.std.specs.Prelude.{ℕ, zero, suc}
use Rattle.egt_moves.specs.Prelude.{Mirror, Setup, AreMirrored, Reflects, chess, Alike, Chain}
use Rattle.egt_moves.proofs.Likeness.{alike_chain}
use Rattle.egt_moves.proofs.MirroredMoves.{mirrored_alike}

-- the one is the other in some mirror
abbrev pub AreReflected : Setup → Setup → Type 0
AreReflected p q = (m : Mirror) × AreMirrored m p q

reflected_alike : Alike chess AreReflected
reflected_alike = record {
  checkmate = λ p p' r. (mirrored_alike r.0).checkmate p p' r.1;
  there = λ p p' q r step. let s = (mirrored_alike r.0).there p p' q r.1 step in (s.0, s.1, (r.0, s.2), s.3);
  back = λ p p' q' r step. let s = (mirrored_alike r.0).back p p' q' r.1 step in (s.0, s.1, (r.0, s.2), s.3);
}

pub reflections_alike : (n : ℕ) → Alike chess (Chain AreReflected n)
reflections_alike n = alike_chain chess AreReflected reflected_alike n

pub chain_of : (n : ℕ) (p q : Setup) → Reflects n p q → Chain AreReflected n p q
chain_of zero p q same = same
chain_of (suc n) p q step = (step.0, step.1, chain_of n step.0 q step.2)
