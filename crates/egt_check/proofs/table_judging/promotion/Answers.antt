use Rattle.std.proofs.Common.{◌≢◌, ◌∙◌, sym, subst}
use Rattle.egt_check.specs.Prelude.{turned_man, Man, officer_of, AreNamed, table_at}
use Rattle.egt_check.proofs.PromotionTables.{table_after}
use Rattle.egt_check.proofs.TablePairs.{table_left}
use Rattle.egt_check.proofs.table_judging.promotion.Goals as goal

pub returns-clause-has : goal.returns-clause-has
returns-clause-has c = λ t same.
    let tables = table_at c.args.library.now in
    let men = c.args.men.now in
    let officer = officer_of men.last.side c.args.kind in
    let both = c.in_ok-both.both.now in
    let both_flips = c.of_men-both_class.result.1 in
    let alone = c.in_ok-alone.alone.now in
    let (there, are, before) = c.in_ok-before.ensures in
    let named =
    subst (λ (m : Man). AreNamed c.in_ok-before.before there (turned_man both_flips men.first) m) c.turned_man-2.ensures (subst (λ (m : Man). AreNamed c.in_ok-before.before there m c.turned_man-2.result) c.turned_man.ensures before) in
    let both_apart : both.class ≢ t.class = λ is. c.if-number.false (c.number.ensures.value ∙ sym c.in_ok-both.ensures.shelved.class ∙ is ∙ same ∙ sym c.number-2.ensures.value) in
    let alone_apart : alone.class ≢ t.class = λ is. c.is_left.ensures.apart c.if-not-is_left.false (is ∙ same) in
    record {
      both = table_after c.args.part tables t both c.of_men-both_class.result.0 c.in_ok-before.before both_flips men.first officer there c.in_ok-both.ensures.shelved c.in_ok-both.ensures.is both_apart
          c.in_ok-both.ensures.there c.in_ok-both.ensures.bytes c.of_men-both_class.ensures.class are named;
      alone = table_left c.args.part tables t alone c.of_men-alone_class.result.0 c.of_men-alone_class.result.1 officer c.in_ok-alone.ensures.shelved c.in_ok-alone.ensures.is alone_apart
          c.in_ok-alone.ensures.there (c.is_left.ensures.lone c.if-not-is_left.false) c.in_ok-alone.ensures.bytes c.of_men-alone_class.ensures.class;
    }
