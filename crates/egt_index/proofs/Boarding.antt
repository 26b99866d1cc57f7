-- The board of a stand: the kings', with the other men put on it one by one.
use Rattle.std.proofs.Common.{◌≡◌, ℕ, ◌≤◌, List, [], ◌∷◌, ◌++◌, length, Some, None, IfSome, arith, refl, sym, ap}
use Rattle.egt_index.specs.Prelude.{option_to_list, Man, men_of, IsFree, Entry, IsOff, AllApart, with_entry}
use Rattle.egt_index.proofs.Listing.{pushed}
use Rattle.egt_index.proofs.Setups.{free_of}

pub off_all : (list : List (Man × ℕ)) (e : Man × ℕ) → AllApart (list ++ e ∷ []) → IsOff list e.1
off_all [] e apart = tt
off_all (d ∷ list) e apart = ((λ same. off d list e apart.0 (sym same)), off_all list e apart.1)
  where
    off : (d : Man × ℕ) (list : List (Man × ℕ)) (e : Man × ℕ) → IsOff (list ++ e ∷ []) d.1 → e.1 ≡ d.1 → ⊥
    off d [] e h = h.0
    off d (c ∷ list) e h = off d list e h.1

-- an entry's square is free before it is put there
pub entry_free : (list : List (Man × ℕ)) (entry : Entry) → AllApart (list ++ option_to_list entry) → IfSome entry (λ e. IsFree (men_of list) e.1)
entry_free list entry apart = grind (arith, free_of, off_all)

pub entry_put : (list : List (Man × ℕ)) (entry : Entry) → AllApart (list ++ option_to_list entry) → with_entry (men_of list) entry ≡ men_of (list ++ option_to_list entry)
entry_put list None apart = ap men_of (sym (with_none list))
  where
    with_none : (list : List (Man × ℕ)) → list ++ [] ≡ list
    with_none [] = refl
    with_none (e ∷ list) = ap (λ l. e ∷ l) (with_none list)
entry_put list (Some e) apart = sym (pushed list e (free_of list e.1 (off_all list e apart)))

-- the first of two entries put behind a list
pub apart_before : (list more : List (Man × ℕ)) → AllApart (list ++ more) → AllApart list
apart_before [] more apart = tt
apart_before (e ∷ list) more apart = (off_before e.1 list more apart.0, apart_before list more apart.1)
  where
    off_before : (q : ℕ) (list more : List (Man × ℕ)) → IsOff (list ++ more) q → IsOff list q
    off_before q [] more off = tt
    off_before q (e ∷ list) more off = (off.0, off_before q list more off.1)

pub one_at_most : (entry : Entry) → length (option_to_list entry) ≤ 1
one_at_most entry = grind arith

pub two_at_most : (x y : Entry) → length (option_to_list x ++ option_to_list y) ≤ 2
two_at_most x y = grind (arith, one_at_most)
