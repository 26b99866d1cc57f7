use Rattle.std.specs.Prelude.{◌≡◌, take, Some}
use Rattle.egt_c.specs.Prelude.{array_vec_len, men_of}
use Rattle.egt_c.proofs.men.men_of.Given as goal

-- the men so far are named
abbrev pub invariant-loop-man : goal.invariant-loop-man
invariant-loop-man l = record {
  len : array_vec_len l.told ≡ l.man-index;
  named : men_of (take l.man-index l.men) ≡ Some l.told.items;
}
