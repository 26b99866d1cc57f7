use Rattle.std.proofs.Common.{◌≡◌, ◌∙◌, ap, not, refl, sym, subst, true, false, Option, Some, None}
use Rattle.egt_check.specs.Prelude.{false≢true, is_some, KeepsPart, Part, Metric, Mate, Zeroing, IsJudged, Rule, Tables}
use Rattle.egt_check.specs.Prelude.{TableValue, beside, table_at}
use Rattle.egt_check.proofs.lone_judging.keeps_alone.Goals as goal

none_is : (o : Option Rule) → is_some o ≡ false → o ≡ None
none_is None none = refl
none_is (Some rule) none = absurd (false≢true (sym none))

pub returns-then-is_none : goal.returns-then-is_none
returns-then-is_none c = λ told. subst (λ (part : Part). KeepsPart part tables t c.args.code) (sym c.in-Values.is) (right told)
  where
    t : TableValue
    t = c.args.three.now.table.now

    tables : Tables
    tables = beside (table_at c.args.three.now.library.now) t

    right : c.is_none-then-is_none.result ≡ true → (metric : Metric) → IsJudged tables t metric c.args.code None
    right told Mate = subst (IsJudged tables t Mate c.args.code) (none_is c.judge-mate.result.0 (c.is_none.ensures ∙ ap not c.if-is_none.true)) c.judge-mate.ensures.mate
    right told Zeroing = subst (IsJudged tables t Zeroing c.args.code) (none_is c.judge-mate.result.1 (c.is_none-then-is_none.ensures ∙ ap not told)) c.judge-mate.ensures.zeroing
