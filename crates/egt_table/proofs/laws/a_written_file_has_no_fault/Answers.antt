use Rattle.std.proofs.Common.{◌≡◌, ℕ, ◌<◌, ◌^◌, sym, subst, arith, None}
use Rattle.egt_table.specs.Prelude.{size_of, bytes_of, file_fault}
use Rattle.egt_table.proofs.Answers.{written_right}
use Rattle.egt_table.proofs.laws.a_written_file_has_no_fault.Goals as goal

pub returns : goal.returns
returns c t h e =
    let fits : size_of t.class < 2 ^ 32 = subst (λ (n : ℕ). size_of n < 2 ^ 32) (sym e) (omega (arith, c.size-fits.ensures)) in
    subst (λ (n : ℕ). file_fault n (bytes_of t) ≡ None) e (written_right t h fits)
