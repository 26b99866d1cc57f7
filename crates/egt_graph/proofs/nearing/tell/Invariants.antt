use Rattle.std.specs.Prelude.{◌≡◌, ℕ, ◌<◌, ◌≤◌, length, slice_index}
use Rattle.egt_graph.specs.Prelude.{near_of_entry}
use Rattle.egt_graph.proofs.nearing.tell.Given as goal

abbrev pub invariant-loop-i : goal.invariant-loop-i
invariant-loop-i l = record {
  long : length l.entries ≡ length l.initial.entries;
  done : (i : ℕ) → i < l.i → slice_index l.entries i ≡ near_of_entry (slice_index l.initial.entries i);
  left : (i : ℕ) → l.i ≤ i → slice_index l.entries i ≡ slice_index l.initial.entries i;
}
