use Rattle.std.proofs.Common.{ℕ, List, subst, sym, ◌∙◌, arith}
use Rattle.egt_table.specs.Prelude.{Consumes, take_all}
use Rattle.egt_table.proofs.Entries.{entries_read}
use Rattle.egt_table.proofs.reading.read_piece.Goals as goal

pub returns-clause-bytes : goal.returns-clause-bytes
returns-clause-bytes g c =
    subst (λ (w : List ℕ). Consumes (g.S.Source.left c.args.source.now) (g.S.Source.left c.fill.new.source) w)
    (take_all c.in_ok-n.n c.fill.new.buffer (omega arith) ∙ sym (entries_read c.fill.new.buffer c.read_u16_into.new.dst (omega arith) c.fill.ensures.range c.read_u16_into.ensures)) c.in_ok-n.ensures.bytes
