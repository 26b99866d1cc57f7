-- Where men stand after one of them went.
use Rattle.std.specs.Prelude.{ℕ}
use Rattle.egt_index.specs.Went.{moved_entry, moved_square}
use Rattle.egt_index.specs.declared.stand.Stand.{Stand}

-- the men after the one on `from` went to `to`
abbrev pub moved_stand : (from to : ℕ) → Stand → Stand
moved_stand from to s = record { white = moved_square from to s.white; black = moved_square from to s.black; first = moved_entry from to s.first; last = moved_entry from to s.last }
