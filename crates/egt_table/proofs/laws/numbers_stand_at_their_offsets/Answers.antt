use Rattle.std.proofs.Common.{ℕ, ◌<◌, ◌^◌, sym, subst, arith}
use Rattle.egt_table.specs.Prelude.{size_of}
use Rattle.egt_table.proofs.Offsets.{entries_in_place, header_in_place}
use Rattle.egt_table.proofs.laws.numbers_stand_at_their_offsets.Goals as goal

pub returns-clause-header : goal.returns-clause-header
returns-clause-header c t h e =
    header_in_place t h (subst (λ (n : ℕ). size_of n < 2 ^ 32) (sym e) (omega (arith, c.size-fits.ensures)))

pub returns-clause-entries : goal.returns-clause-entries
returns-clause-entries c t h e fit = entries_in_place t h fit
