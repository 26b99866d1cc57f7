-- The men before the last one.
use Rattle.std.proofs.Common.{◌≡◌, ◌≢◌, ℕ, ◌<◌, ◌≤◌, Bool, List, [], ◌∷◌, ◌++◌, Option, None, IfSome, arith, refl, sym}
use Rattle.std.proofs.Common.{ap, ◌∙◌, subst}
use Rattle.egt_index.specs.Prelude.{option_to_list, Man, material_of, king_square, IsNoneBefore, men_beside, before_last}
use Rattle.egt_index.specs.Prelude.{king_of, TellsLast, IsBefore, king_base, has_pawns, AllApart, with_entry, with_last}
use Rattle.egt_index.specs.Prelude.{men_of, IsFree, Black, last_of, Splits, Tells, Entry, IsOff, list_of, Stand}
use Rattle.std.specs.FinMap as map
use Rattle.egt_index.proofs.Boarding.{apart_before, entry_free, entry_put, off_all, one_at_most, two_at_most}
use Rattle.egt_index.proofs.DigitsTaken.{all_told, spells_men, spells_no_men}
use Rattle.egt_board.proofs.Lists.{len-men_of}

-- the last of one or two men, or of none
pub last_beside : (first second : Option Man) (men : List Man) → option_to_list first ++ option_to_list second ≡ men → (first ≡ None → second ≡ None) → last_of men ≡ second
last_beside first second men are from = grind (arith, last_of)

-- where there is no last man there is no entry of one
no_entry : (pawns : Bool) (n high : ℕ) (man : Option Man) (last : Entry) → man ≡ None → Tells pawns n (option_to_list man) high (option_to_list last) → last ≡ None
no_entry pawns n high man last none tells = grind arith

-- the digits of the men before the last one, and then his
module _ (c number first_high king black : ℕ) (first second : Option Man) (next : Entry) (are : option_to_list first ++ option_to_list second ≡ men_beside (material_of c)) (from : first ≡ None → second ≡ None)
    (tells : Tells (has_pawns (material_of c)) number (option_to_list first) first_high (option_to_list next)) (splits : Splits first_high (king_of Black) king black) where
  told : (n : ℕ) (last : Entry) → TellsLast c n number last → Tells (has_pawns (material_of c)) n (king_of Black ∷ men_beside (material_of c)) king ((king_of Black, black) ∷ (option_to_list next ++ option_to_list last))
  told n last low =
      all_told (has_pawns (material_of c)) n first_high number king black (men_beside (material_of c)) (option_to_list first) (option_to_list (last_of (men_beside (material_of c)))) (option_to_list next) (option_to_list last)
      (ap (λ (second : Option Man). option_to_list first ++ option_to_list second) (last_beside first second (men_beside (material_of c)) are from) ∙ are) (low (has_pawns (material_of c))) tells splits

  pub is_before : (white : ℕ) → king < king_base (has_pawns (material_of c)) → white ≡ king_square (has_pawns (material_of c)) king → (next ≡ None → first ≡ None)
      → IsBefore c number (record { white = white; black = black; first = next; last = None })
  is_before white below on none = record {
    men = λ n last low. spells_men (material_of c) n king white ((king_of Black, black) ∷ (option_to_list next ++ option_to_list last)) below on (told n last low);
    filled = λ n last low is. no_entry (has_pawns (material_of c)) n number (last_of (men_beside (material_of c))) last (last_beside first second (men_beside (material_of c)) are from ∙ from (none is)) (low (has_pawns (material_of c)));
    no_last = refl;
  }

  pub none_before : king_base (has_pawns (material_of c)) ≤ king → IsNoneBefore c number
  none_before past = λ n last low. spells_no_men (material_of c) n king ((king_of Black, black) ∷ (option_to_list next ++ option_to_list last)) past (told n last low)

-- the men with the last one are those before him and him
with_none : (next : Entry) → option_to_list next ++ [] ≡ option_to_list next
with_none first = grind arith

pub list_before : (stand : Stand) → stand.last ≡ None → list_of stand ≡ before_last stand
list_before stand none = grind (arith, with_none)

-- no more than three men
pub few_before : (stand : Stand) → stand.last ≡ None → map.len (men_of (list_of stand)) < 4
few_before stand none =
    let few = len-men_of (before_last stand) in
    let one = one_at_most stand.first in
    subst (λ (list : List (Man × ℕ)). map.len (men_of list) < 4) (sym (list_before stand none)) (omega arith)

-- where the last man stands with the others each on a square of his own, so do they, and his is free
pub apart_all : (stand : Stand) (last : Entry) → stand.last ≡ None → AllApart (list_of (with_last stand last)) → AllApart (list_of stand) × IfSome last (λ e. IsOff (before_last stand) e.1)
apart_all stand last none apart = (
  subst AllApart (sym (list_before stand none)) (apart_before (before_last stand) (option_to_list last) apart),
  of_last last apart,
)
  where
    of_last : (last : Entry) → AllApart (list_of (with_last stand last)) → IfSome last (λ e. IsOff (before_last stand) e.1)
    of_last last apart = grind (arith, off_all, before_last)

off_pushed : (list : List (Man × ℕ)) (e d : Man × ℕ) → IsOff list d.1 → e.1 ≢ d.1 → IsOff (list ++ e ∷ []) d.1
off_pushed [] e d off other = (other, tt)
off_pushed (f ∷ list) e d off other = (off.0, off_pushed list e d off.1 other)

apart_pushed : (list : List (Man × ℕ)) (e : Man × ℕ) → AllApart list → IsOff list e.1 → AllApart (list ++ e ∷ [])
apart_pushed [] e apart off = (tt, tt)
apart_pushed (d ∷ list) e apart off = (off_pushed list e d apart.0 (λ same. off.0 (sym same)), apart_pushed list e apart.1 off.1)

-- and where they do, and his is free, he does
pub all_apart : (stand : Stand) (last : Entry) → stand.last ≡ None → AllApart (list_of stand) → IfSome last (λ e. IsOff (before_last stand) e.1) → AllApart (list_of (with_last stand last))
all_apart stand last none apart off = grind (arith, before_last, list_before, apart_pushed)

-- the board with the last man
pub board_with : (stand : Stand) (last : Entry) → stand.last ≡ None → AllApart (list_of (with_last stand last)) → with_entry (men_of (list_of stand)) last ≡ men_of (list_of (with_last stand last))
board_with stand last none apart =
    ap (λ (list : List (Man × ℕ)). with_entry (men_of list) last) (list_before stand none) ∙ entry_put (before_last stand) last apart

pub free_before : (stand : Stand) (last : Entry) → stand.last ≡ None → AllApart (list_of (with_last stand last)) → IfSome last (λ e. IsFree (men_of (list_of stand)) e.1)
free_before stand last none apart =
    subst (λ (list : List (Man × ℕ)). IfSome last (λ e. IsFree (men_of list) e.1)) (sym (list_before stand none)) (entry_free (before_last stand) last apart)

pub few_with : (stand : Stand) → map.len (men_of (list_of stand)) ≤ 4
few_with stand = let few = len-men_of (list_of stand) in let two = two_at_most stand.first stand.last in omega arith
