use Rattle.std.proofs.Common.{◌≡◌, ◌<◌, ◌≤◌, length, count_by, sym, ap, subst, ◌∙◌, arith}
use Rattle.egt_commands.specs.Prelude.{take_all, size_of, entries_of, shows}
use Rattle.egt_commands.proofs.Tallying.{count_more, count_same}
use Rattle.egt_commands.proofs.tally.count.Goals as goal
use Rattle.egt_commands.proofs.tally.count.Goals.{then-shows, else-shows}

pub loop-index-preserved : goal.loop-index-preserved
loop-index-preserved c =
    let xs = entries_of c.args.column c.args.table.now in
    let size : length xs ≡ c.size-index-end.result = c.class.ensures.table.sizes c.args.column c.requires ∙ sym (c.size-index-end.ensures ∙ ap size_of c.class.ensures.class) in
    let inside : c.loop-index.index < length xs = subst (λ n. c.loop-index.index < n) (sym size) c.loop-index-test.true in
    elim c.if-shows.branch [
      | then-shows w ↦ (let few = c.loop-index.invariant.few in let is = w.count-is in record {
        counted = w.count-is ∙ count_more (shows c.args.shown) xs c.loop-index.index c.entry.result inside c.entry.ensures c.loop-index.count (sym c.shows.ensures ∙ w.if-shows.true) c.loop-index.invariant.counted;
        few = omega arith;
      })
      | else-shows w ↦ (let few = c.loop-index.invariant.few in let is = w.count-is in record {
        counted = w.count-is ∙ count_same (shows c.args.shown) xs c.loop-index.index c.entry.result inside c.entry.ensures c.loop-index.count (sym c.shows.ensures ∙ w.if-shows.false) c.loop-index.invariant.counted;
        few = omega arith;
      })
    ]

pub returns : goal.returns
returns c =
    let xs = entries_of c.args.column c.args.table.now in
    let size : length xs ≡ c.size-index-end.result = c.class.ensures.table.sizes c.args.column c.requires ∙ sym (c.size-index-end.ensures ∙ ap size_of c.class.ensures.class) in
    let all : length xs ≤ c.loop-index.index = subst (λ n. n ≤ c.loop-index.index) (sym size) c.loop-index-test.false in
    c.loop-index.invariant.counted ∙ ap (λ ys. count_by (shows c.args.shown) ys) (take_all c.loop-index.index xs all)
