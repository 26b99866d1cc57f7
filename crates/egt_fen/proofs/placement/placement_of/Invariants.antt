use Rattle.std.specs.Prelude.{◌≡◌, drop}
use Rattle.egt_fen.specs.Prelude.{placement_of, walked}
use Rattle.egt_fen.proofs.placement.placement_of.Given as goal

abbrev pub invariant-loop-byte : goal.invariant-loop-byte
invariant-loop-byte l = walked l.walk (drop l.byte-index l.field) ≡ placement_of l.field
