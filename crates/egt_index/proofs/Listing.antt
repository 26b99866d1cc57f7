-- Placements given by a list of men.
use Rattle.std.proofs.Common.{◌≡◌, ◌≢◌, ℕ, zero, suc, ◌<◌, List, [], ◌∷◌, ◌++◌, length, map, cond, Some, None, arith}
use Rattle.std.proofs.Common.{sym, ap, ◌∙◌, inl, inr, subst, slice_index}
use Rattle.egt_index.specs.Prelude.{nat_cmp, nat_cmp_total, cases_eq, map-append, Man, Placement, Stands, IsFree}
use Rattle.egt_index.specs.Prelude.{same_men, tied, untied, get-remove_same, get-remove_other, men_of, entry_of}
use Rattle.egt_index.specs.Prelude.{squares_of, IsListed}
use Rattle.std.specs.FinMap as placement

-- no two men on one square: none of those behind stands where one does
abbrev pub AreApart : List (Man × ℕ) → Type 0
AreApart [] = Unit {0}
AreApart (e ∷ list) = IsFree (men_of list) e.1 × AreApart list

pub get_here : (e : Man × ℕ) (list : List (Man × ℕ)) (q : ℕ) → q ≡ e.1 → placement.get (men_of (e ∷ list)) q ≡ Some e.0
unfolding men_of
get_here e list q same =
    placement.get-from_entries nat_cmp_total (map entry_of (e ∷ list)) q
    ∙ ap (λ b. cond b (Some e.0) (placement.find nat_cmp q (map entry_of list))) (tied q e.1 same)

pub get_later : (e : Man × ℕ) (list : List (Man × ℕ)) (q : ℕ) → q ≢ e.1 → placement.get (men_of (e ∷ list)) q ≡ placement.get (men_of list) q
unfolding men_of
get_later e list q other =
    placement.get-from_entries nat_cmp_total (map entry_of (e ∷ list)) q
    ∙ ap (λ b. cond b (Some e.0) (placement.find nat_cmp q (map entry_of list))) (untied q e.1 other)
    ∙ sym (placement.get-from_entries nat_cmp_total (map entry_of list) q)

pub get_none : (q : ℕ) → placement.get (men_of []) q ≡ None
unfolding men_of
get_none q = placement.get-from_entries nat_cmp_total [] q

pub listed : (list : List (Man × ℕ)) (man : Man) (s : ℕ) → Stands (men_of list) s man → IsListed list man s
listed [] man s stands = absurd (let h = sym (get_none s) ∙ stands in cc)
listed (e ∷ list) man s stands = elim (cases_eq s e.1) [
  | inl same ↦ inl (let h = sym (get_here e list s same) ∙ stands in cc, sym same)
  | inr other ↦ inr (listed list man s (sym (get_later e list s other) ∙ stands))
]

pub listed_stands : (list : List (Man × ℕ)) (man : Man) (s : ℕ) → AreApart list → IsListed list man s → Stands (men_of list) s man
listed_stands [] man s apart h = absurd h
listed_stands (e ∷ list) man s apart (inl h) = get_here e list s (sym h.1) ∙ ap Some h.0
listed_stands (e ∷ list) man s apart (inr h) =
    let stands = listed_stands list man s apart.1 h in
    get_later e list s (λ same. not_free (sym apart.0 ∙ subst (λ q. placement.get (men_of list) q ≡ Some man) same stands)) ∙ stands
  where
    not_free : None ≡ Some man → ⊥
    not_free x = cc

-- the first man taken off leaves the others
pub remove_first : (e : Man × ℕ) (list : List (Man × ℕ)) → IsFree (men_of list) e.1 → placement.remove (men_of (e ∷ list)) e.1 ≡ men_of list
remove_first e list free = same_men _ _ (λ q. elim (cases_eq q e.1) [
  | inl same ↦ get-remove_same (men_of (e ∷ list)) e.1 q same ∙ sym free ∙ ap (placement.get (men_of list)) (sym same)
  | inr other ↦ get-remove_other (men_of (e ∷ list)) e.1 q other ∙ get_later e list q other
])

-- a man put in front of the others comes back
pub first_back : (men : Placement) (e : Man × ℕ) (list : List (Man × ℕ)) → Stands men e.1 e.0 → placement.remove men e.1 ≡ men_of list → men ≡ men_of (e ∷ list)
first_back men e list stands rest = same_men _ _ (λ q. elim (cases_eq q e.1) [
  | inl same ↦ ap (placement.get men) same ∙ stands ∙ sym (get_here e list q same)
  | inr other ↦ sym (get-remove_other men e.1 q other) ∙ ap (λ m. placement.get m q) rest ∙ sym (get_later e list q other)
])

-- nothing stands off the squares of the list
pub free_off : (list : List (Man × ℕ)) (q : ℕ) → ((k : ℕ) → k < length list → slice_index (squares_of list) k ≢ q) → IsFree (men_of list) q
free_off [] q off = get_none q
free_off (e ∷ list) q off = get_later e list q (λ same. off 0 (omega arith) (sym same)) ∙ free_off list q (λ k k_in. off (suc k) (omega arith))

pub off_free : (list : List (Man × ℕ)) (q : ℕ) → IsFree (men_of list) q → (k : ℕ) → k < length list → slice_index (squares_of list) k ≢ q
off_free [] q free k k_in same = absurd (omega arith)
off_free (e ∷ list) q free zero k_in same = let h = sym (get_here e list q (sym same)) ∙ free in cc
off_free (e ∷ list) q free (suc k) k_in same = elim (cases_eq q e.1) [
  | inl here ↦ let h = sym (get_here e list q here) ∙ free in cc
  | inr other ↦ off_free list q (sym (get_later e list q other) ∙ free) k (omega arith) same
]

pub apart_of : (list : List (Man × ℕ)) → ((i j : ℕ) → i < j → j < length list → slice_index (squares_of list) i ≢ slice_index (squares_of list) j) → AreApart list
apart_of [] h = tt
apart_of (e ∷ list) h = (
  free_off list e.1 (λ k k_in same. h 0 (suc k) (omega arith) (omega arith) (sym same)),
  apart_of list (λ i j lt j_in. h (suc i) (suc j) (omega arith) (omega arith)),
)

pub fits_of : (list : List (Man × ℕ)) → AreApart list → (i j : ℕ) → i < j → j < length list → slice_index (squares_of list) i ≢ slice_index (squares_of list) j
fits_of [] apart i j lt j_in same = absurd (omega arith)
fits_of (e ∷ list) apart i zero lt j_in same = absurd (omega arith)
fits_of (e ∷ list) apart zero (suc j) lt j_in same = off_free list e.1 apart.0 j (omega arith) (sym same)
fits_of (e ∷ list) apart (suc i) (suc j) lt j_in same = fits_of list apart.1 i j (omega arith) (omega arith) same

-- a man put behind the others
pub pushed : (list : List (Man × ℕ)) (e : Man × ℕ) → IsFree (men_of list) e.1 → men_of (list ++ e ∷ []) ≡ placement.insert (men_of list) e.1 e.0
unfolding men_of
pushed list e free =
    ap placement.from_entries (map-append entry_of list (e ∷ []))
    ∙ placement.from_entries_push nat_cmp_total placement.nat_cmp-IsAntisymmetric (map entry_of list) e.1 e.0 (sym (placement.get-from_entries nat_cmp_total (map entry_of list) e.1) ∙ free)
