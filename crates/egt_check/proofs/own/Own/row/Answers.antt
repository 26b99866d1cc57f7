use Rattle.std.proofs.Common.{◌∙◌, ap, sym, subst}
use Rattle.egt_check.specs.Prelude.{IsShelfOf, TableValue, entries_seen}
use Rattle.egt_check.proofs.own.Own.row.Goals as goal

pub row_of-requires-clause-shelf : goal.row_of-requires-clause-shelf
row_of-requires-clause-shelf c = subst (λ (u : TableValue). IsShelfOf c.args.targeted u.class c.args.shelf c.args.men.now) (sym (ap entries_seen (sym c.in-OfTable.is) ∙ c.self.view_is)) c.requires.shelf

pub row-requires-clause-shelf : goal.row-requires-clause-shelf
row-requires-clause-shelf c = subst (λ (u : TableValue). IsShelfOf c.args.targeted u.class c.args.shelf c.args.men.now) (sym (ap entries_seen (sym c.in-OfFound.is) ∙ c.self.view_is)) c.requires.shelf
