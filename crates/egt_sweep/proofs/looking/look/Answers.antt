use Rattle.std.proofs.Common.{◌∙◌}
use Rattle.egt_sweep.proofs.ItemSeen.{item_seen, told_of}
use Rattle.egt_sweep.proofs.looking.look.Goals as goal

pub returns-clause-seen : goal.returns-clause-seen
returns-clause-seen c = λ told.
    let f = c.args.f.now in
    let old = c.args.table.now in
    let new = c.mend_item.new.table in
    let item = c.mend_item.new.item in
    item_seen f old new item c.item_scores.new.out (c.mend_item.ensures.mended.class ∙ c.requires.table.class_is) (λ n n_in. c.numbers_stand_for_codes.ensures.coded f.class n c.requires.filling.below n_in)
    (c.mend_item.ensures.item told) (c.mend_item.ensures.right told)
    (told_of f old c.args.item.now item c.with_kings-men.result c.item_scores.new.out c.mend_item.ensures.same c.with_kings-men.ensures (c.item_scores.ensures.scores c.if-not-item_scores.false))
