-- The code after a step spells: the men who stood there, but for the one who went.
use Rattle.std.proofs.Common.{◌≡◌, ◌≢◌, ℕ, List, [], ◌∷◌, ◌++◌, map, refl, sym, ap, ◌∙◌, inl, inr, subst, arith}
use Rattle.egt_steps.specs.Prelude.{option_to_list, cases_eq, king_of, men_of, get-insert_other, get-insert_same}
use Rattle.egt_steps.specs.Prelude.{get-remove_other, get-remove_same, same_men, Man, White, Black, IsListed, AllApart}
use Rattle.egt_steps.specs.Prelude.{Entry, IsOff, list_of, moved_entry, moved_square, Stand, AreApart, get_here}
use Rattle.egt_steps.specs.Prelude.{get_later, listed_stands, free_of}
use Rattle.egt_steps.proofs.Carried.{went, stayed}
use Rattle.egt_steps.proofs.Moved.{after_of}
use Rattle.std.specs.FinMap as placement

off_listed : (list : List (Man × ℕ)) (man : Man) (s : ℕ) → IsOff list s → IsListed list man s → ⊥
off_listed [] man s off h = h
off_listed (e ∷ list) man s off (inl h) = off.0 h.1
off_listed (e ∷ list) man s off (inr h) = off_listed list man s off.1 h

-- men of whom the one on `from` goes to another square
module _ (from to : ℕ) (apart : to ≢ from) where
  abbrev pub moved_list : List (Man × ℕ) → List (Man × ℕ)
  moved_list list = map (λ e. (e.0, moved_square from to e.1)) list

  stays_on : (s : ℕ) → s ≡ to → moved_square from to s ≡ to
  stays_on s same = stayed from to s (λ here. apart (sym same ∙ here)) ∙ same

  -- nobody is left where he stood
  not_from : (s : ℕ) → moved_square from to s ≢ from
  not_from s same = elim (cases_eq s from) [
    | inl here ↦ apart (sym (went from to s here) ∙ same)
    | inr other ↦ other (sym (stayed from to s other) ∙ same)
  ]

  off_from : (list : List (Man × ℕ)) → IsOff (moved_list list) from
  off_from [] = tt
  off_from (e ∷ list) = (not_from e.1, off_from list)

  off_to : (list : List (Man × ℕ)) → IsOff (moved_list list) to → IsOff list to
  off_to [] off = tt
  off_to (e ∷ list) off = ((λ same. off.0 (stays_on e.1 same)), off_to list off.1)

  listed_to : (list : List (Man × ℕ)) (man : Man) → IsListed list man from → IsListed (moved_list list) man to
  listed_to [] man h = h
  listed_to (e ∷ list) man (inl h) = inl (h.0, went from to e.1 h.1)
  listed_to (e ∷ list) man (inr h) = inr (listed_to list man h)

  -- where none shares his new square, none stood there
  pub free_before : (list : List (Man × ℕ)) (man : Man) → AllApart (moved_list list) → IsListed list man from → IsOff list to
  free_before [] man all h = absurd h
  free_before (e ∷ list) man all (inl h) = ((λ same. apart (sym same ∙ h.1)), off_to list (subst (IsOff (moved_list list)) (went from to e.1 h.1) all.0))
  free_before (e ∷ list) man all (inr h) =
      ((λ same. off_listed (moved_list list) man to (subst (IsOff (moved_list list)) (stays_on e.1 same) all.0) (listed_to list man h)), free_before list man all.1 h)

  not_there : (s t : ℕ) → s ≢ to → s ≢ t → s ≢ moved_square from to t
  not_there s t off other same = elim (cases_eq t from) [
    | inl here ↦ off (same ∙ went from to t here)
    | inr stays ↦ other (same ∙ stayed from to t stays)
  ]

  elsewhere : (list : List (Man × ℕ)) (s : ℕ) → s ≢ from → s ≢ to → placement.get (men_of (moved_list list)) s ≡ placement.get (men_of list) s
  elsewhere [] s other off = refl
  elsewhere (e ∷ list) s other off = elim (cases_eq s e.1) [
    | inl here ↦ get_here (e.0, moved_square from to e.1) (moved_list list) s (here ∙ sym (stayed from to e.1 (λ same. other (here ∙ same)))) ∙ sym (get_here e list s here)
    | inr later ↦ get_later (e.0, moved_square from to e.1) (moved_list list) s (not_there s e.1 off later) ∙ elsewhere list s other off ∙ sym (get_later e list s later)
  ]

  pub men_moved : (list : List (Man × ℕ)) (man : Man) → AreApart (moved_list list) → IsListed list man from → men_of (moved_list list) ≡ placement.insert (placement.remove (men_of list) from) to man
  men_moved list man all h = same_men _ _ (λ s. elim (cases_eq s to) [
    | inl here ↦ ap (placement.get (men_of (moved_list list))) here ∙ listed_stands (moved_list list) man to all (listed_to list man h) ∙ sym (get-insert_same (placement.remove (men_of list) from) to man s here)
    | inr off ↦ elim (cases_eq s from) [
      | inl here ↦ ap (placement.get (men_of (moved_list list))) here ∙ free_of (moved_list list) from (off_from list)
          ∙ sym (get-insert_other (placement.remove (men_of list) from) to man s off ∙ get-remove_same (men_of list) from s here)
      | inr other ↦ elsewhere list s other off ∙ sym (get-insert_other (placement.remove (men_of list) from) to man s off ∙ get-remove_other (men_of list) from s other)
    ]
  ])

  both_listed : (x y : Entry) → option_to_list (moved_entry from to x) ++ option_to_list (moved_entry from to y) ≡ moved_list (option_to_list x ++ option_to_list y)
  both_listed x y = grind arith

  pub list_moved : (s : Stand) → list_of (after_of from to s) ≡ moved_list (list_of s)
  list_moved s = ap (λ l. (king_of White, moved_square from to s.white) ∷ (king_of Black, moved_square from to s.black) ∷ l) (both_listed s.first s.last)
