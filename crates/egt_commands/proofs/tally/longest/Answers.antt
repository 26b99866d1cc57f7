use Rattle.std.proofs.Common.{◌≡◌, ℕ, ◌<◌, ◌+◌, length, sym, ap, subst, ◌∙◌, arith}
use Rattle.egt_commands.specs.Prelude.{size_of, entries_of, Mate, shows, IsLongest}
use Rattle.egt_commands.proofs.Tallying.{longest_more, longest_same}
use Rattle.egt_commands.proofs.tally.longest.Goals as goal
use Rattle.egt_commands.proofs.tally.longest.Goals.{then-shows, else-shows}

pub loop-index-preserved : goal.loop-index-preserved
loop-index-preserved c =
    let xs = entries_of Mate c.args.table.now in
    let size : length xs ≡ c.size-index-end.result = c.class.ensures.table.sizes Mate tt ∙ sym (c.size-index-end.ensures ∙ ap size_of c.class.ensures.class) in
    let inside : c.loop-index.index < length xs = subst (λ n. c.loop-index.index < n) (sym size) c.loop-index-test.true in
    elim c.if-shows.branch [
      | then-shows w ↦
          subst (IsLongest (shows c.args.shown) xs (c.loop-index.index + 1)) (sym w.longest-is)
          (longest_more (shows c.args.shown) xs c.loop-index.index c.entry-entry.result inside c.entry-entry.ensures c.loop-index.longest w.longer.result (sym c.shows.ensures ∙ w.if-shows.true) w.longer.ensures c.loop-index.invariant)
      | else-shows w ↦
          subst (IsLongest (shows c.args.shown) xs (c.loop-index.index + 1)) (sym w.longest-is)
          (longest_same (shows c.args.shown) xs c.loop-index.index c.entry-entry.result inside c.entry-entry.ensures c.loop-index.longest (sym c.shows.ensures ∙ w.if-shows.false) c.loop-index.invariant)
    ]

pub returns : goal.returns
returns c =
    let xs = entries_of Mate c.args.table.now in
    let size : length xs ≡ c.size-index-end.result = c.class.ensures.table.sizes Mate tt ∙ sym (c.size-index-end.ensures ∙ ap size_of c.class.ensures.class) in
    let at_most = c.loop-index.auto.index-end in
    let at_least = c.loop-index-test.false in
    let all : c.loop-index.index ≡ length xs = omega (arith, size, at_most, at_least) in
    subst (λ (n : ℕ). IsLongest (shows c.args.shown) xs n c.loop-index.longest) all c.loop-index.invariant
