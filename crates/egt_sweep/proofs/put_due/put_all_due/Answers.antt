use Rattle.std.proofs.Common.{◌∙◌, sym, subst}
use Rattle.egt_sweep.specs.FillPrelude.{AreMenOf, column_of}
use Rattle.egt_sweep.proofs.put_due.put_all_due.Goals as goal

pub all_are_covered-requires-clause-own : goal.all_are_covered-requires-clause-own
all_are_covered-requires-clause-own c =
    let mended = c.mend_items.ensures.mended in
    record {
      is_table = c.class-class.ensures.table;
      class_is = mended.class ∙ c.requires.table.class_is;
      there = mended.there (column_of c.args.f.now.part) c.requires.table.there;
      bytes = mended.bytes;
      men_of = subst (λ k. AreMenOf k c.args.f.now.men) (sym mended.class) c.requires.table.men_of;
    }

pub all_are_covered-requires-clause-due : goal.all_are_covered-requires-clause-due
all_are_covered-requires-clause-due c = c.in_ok-taken.ensures.due
