-- The first man of a class's name tells in what colours a position of the class is.
use Rattle.std.proofs.Common.{◌≡◌, ℕ, ◌<◌, ◌++◌, not, Bool, true, false, List, Option, Some, None, arith, refl, subst}
use Rattle.std.proofs.Common.{inl, inr, ◌↔◌, IsTrue, slice_index_or}
use Rattle.egt_index.specs.Prelude.{option_to_list, eqb-true, false≢true, get_or_default, Man, White, Black, HasBeside}
use Rattle.egt_index.specs.Prelude.{StandsBeside, Stands, Setup, IsAdmissible, all_below, passes_below, materials}
use Rattle.egt_index.specs.Prelude.{material_of, men_in, has_equal_sides, IsOf, Facts, tells_colours, men_beside, Entry}
use Rattle.egt_index.specs.Prelude.{Holds, IsAmong, NON_KINGS}
use Rattle.egt_index.proofs.Counted.{counted_some}
use Rattle.egt_index.proofs.MenPlaced.{kings_on, among_own}
use Rattle.egt_index.proofs.Tested.{one_of}

all_tell : all_below (λ c. tells_colours c (slice_index_or NON_KINGS c (None, None)).0) 36 ≡ true
unfolding all_below tells_colours has_equal_sides men_in material_of materials
all_tell = refl

pub first_tells : (c : ℕ) (d : Option Man × Option Man) → c < 36 → tells_colours c (slice_index_or NON_KINGS c d).0 ≡ true
first_tells c d c_in = subst (λ row. tells_colours c row.0 ≡ true) (get_or_default NON_KINGS c (None, None) d c_in) (passes_below (λ c. tells_colours c (slice_index_or NON_KINGS c (None, None)).0) 36 c all_tell c_in)

unflipped : Facts → (c : ℕ) (flipped : Bool) (p : Setup) → c < 36 → IsOf c flipped p → tells_colours c None ≡ true → IsOf c false p
unfolding tells_colours
unflipped facts c flipped p c_in is_of equal = facts.both_flips p c flipped false c_in equal is_of

-- where he stands
found_first : Facts → (c : ℕ) (flipped : Bool) (p : Setup) (man : Man) (s : ℕ) → c < 36 → IsAdmissible p → IsOf c flipped p → tells_colours c (Some man) ≡ true → Stands p.men s man → IsOf c false p
unfolding tells_colours
found_first facts c flipped p man s c_in ok is_of tell stands = grind (arith, one_of, counted_some, eqb-true)

-- by the two men beside the kings
pub colours_told : Facts → (c : ℕ) (flipped : Bool) (p : Setup) (first : Option Man) (rest : List Man) (one other : Entry) (among : Bool) → c < 36 → IsAdmissible p → IsOf c flipped p → tells_colours c first ≡ true
    → option_to_list first ++ rest ≡ men_beside (material_of c) → HasBeside p.men one other → IsTrue among ↔ IsAmong first one other → IsOf c (not among) p
colours_told facts c flipped p None rest one other true c_in ok is_of tell are beside test = unflipped facts c flipped p c_in is_of tell
colours_told facts c flipped p (Some man) rest one other true c_in ok is_of tell are beside test = elim (test.0 refl) [
  | inl holds ↦ of_entry one beside.one holds
  | inr holds ↦ of_entry other beside.other holds
]
  where
    of_entry : (entry : Entry) → StandsBeside p.men entry → Holds entry man → IsOf c false p
    of_entry entry stands holds = grind (arith, found_first)
colours_told facts c true p first rest one other false c_in ok is_of tell are beside test = is_of
colours_told facts c false p first rest one other false c_in ok is_of tell are beside test =
    absurd (false≢true (test.1 (among_own c p ok.kings.white ok.kings.black first rest one other are is_of (kings_on false p White Black ok.kings.white ok.kings.black ok refl refl ok.kings.white_there ok.kings.black_there) beside)))
