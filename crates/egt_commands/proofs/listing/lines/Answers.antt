use Rattle.std.proofs.Common.{◌≡◌, ℕ, ◌+◌, ◌++◌, add-one, refl}
use Rattle.egt_commands.specs.Prelude.{class_line, lines_below}
use Rattle.egt_commands.proofs.listing.lines.Goals as goal

lines_more : (c : ℕ) → lines_below (c + 1) ≡ lines_below c ++ class_line c
unfolding lines_below
lines_more c = rw add-one refl

pub loop-number-init : goal.loop-number-init
unfolding lines_below
loop-number-init c = c.new-text.ensures.items

pub loop-number-preserved : goal.loop-number-preserved
loop-number-preserved c =
    let more = lines_more c.loop-number.number in
    rw (c.in_ok-push_line.ensures, c.loop-number.invariant, c.at.ensures, more) refl
