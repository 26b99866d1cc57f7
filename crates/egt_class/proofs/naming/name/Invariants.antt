use Rattle.std.specs.Prelude.{◌≡◌, ◌≤◌, take}
use Rattle.egt_class.specs.Prelude.{filter, array_string_len, is_letter}
use Rattle.egt_class.proofs.naming.name.Given as goal

abbrev pub invariant-loop-letter : goal.invariant-loop-letter
invariant-loop-letter l = record {
  letters : l.name.bytes ≡ filter is_letter (take l.letter-index l.letter-items);
  room : array_string_len l.name ≤ l.letter-index;
}
