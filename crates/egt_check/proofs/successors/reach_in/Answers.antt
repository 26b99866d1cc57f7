use Rattle.std.proofs.Common.{◌≡◌, ◌<◌, Some, refl, sym, subst, ◌∙◌, IsSome}
use Rattle.egt_check.specs.Prelude.{size_of, TableValue}
use Rattle.egt_check.proofs.successors.reach_in.Goals as goal

pub table_of-requires : goal.table_of-requires
table_of-requires c = subst IsSome (sym c.requires.there.1) refl

one_some : (a b : TableValue) → Some a ≡ Some b → a ≡ b
one_some a b e = cc

pub entry-requires-clause-there : goal.entry-requires-clause-there
entry-requires-clause-there c =
    let same = one_some _ _ (sym c.requires.there.1 ∙ c.table_of.ensures.found) in
    subst (λ (t : TableValue). IsSome t.reach) same c.requires.there.2

pub entry-requires-clause-index : goal.entry-requires-clause-index
entry-requires-clause-index c = subst (λ k. c.args.place.index < size_of k) (sym c.table_of.ensures.class) c.requires.below

pub returns : goal.returns
returns c = λ q at. record {
  class = c.args.place.class;
  below = at.below;
  flipped = at.flipped;
  of = at.of;
  table = c.table_of.result.now;
  found = c.table_of.ensures.found;
  index = c.args.place.index;
  is_index = at.is_index;
  is = c.entry.ensures;
}
