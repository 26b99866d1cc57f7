-- The digits of equal men in order make the least code of a position, and in the other order one that is not.
use Rattle.std.proofs.Common.{◌≡◌, ℕ, ◌<◌, Bool, false, List, [], ◌∷◌, ◌++◌, map, Some, None, arith, refl, sym, ap, ◌∙◌}
use Rattle.std.proofs.Common.{inr, subst}
use Rattle.egt_index.specs.Prelude.{option_to_list, White, Black, Man, king_of, men_of, Setup, IsAdmissible, Material}
use Rattle.egt_index.specs.Prelude.{material_of, IsOf, SpellsAt, Beats, Keeps, AreBehind, Spells, square_of, placed}
use Rattle.egt_index.specs.Prelude.{men_at, number_from, number_of, AreDigits, Facts, IsLeastCode, Picks, AreCounted}
use Rattle.egt_index.specs.Prelude.{base_of, bases, men_bases, men_in_order, has_pawns, has_target, Entry, list_of}
use Rattle.egt_index.specs.Prelude.{rest_of, men_among, AllStand, IsInOrder, IsTurn, Stand}
use Rattle.egt_index.proofs.After.{AreSorted, all_there, listed_there, ordered, picks_sorted, sorted_rest}
use Rattle.egt_index.proofs.Coded.{ends_by, last_by, few_men, number_append, picks_code, placed_few}
use Rattle.egt_index.proofs.Coding.{last_digits}
use Rattle.egt_index.proofs.Listing.{AreApart, fits_of}
use Rattle.egt_index.proofs.MixedDigits.{number_from-lt}
use Rattle.egt_index.proofs.Picking.{lesser_digit}
use Rattle.egt_index.proofs.ImageCodes.{counted_of}

-- the turn that changes nothing
pub stays : (p : Setup) → IsAdmissible p → IsTurn 0 p p
stays p ok = grind arith

sorted_list : (p : Setup) (stand : Stand) → IsAdmissible p → AllStand false p.men (list_of stand) → IsInOrder stand.first stand.last → AreSorted (list_of stand)
sorted_list p stand ok all order = grind (arith, listed_there, rest_of, sorted_rest)

-- digits of equal men in order make the least code
pub least_in_order : (c code : ℕ) (stand : Stand) (p : Setup) → IsAdmissible p → AllStand false p.men (list_of stand) → IsInOrder stand.first stand.last → (men_among (list_of stand) ≡ men_in_order (material_of c))
    → IsOf c false p → SpellsAt c code stand p → IsLeastCode c p code
least_in_order c code stand p ok all order are is_of s =
    let there = all_there p.men (list_of stand) ok.on_board (subst (AreCounted p.men) (sym are) (counted_of c p is_of)) all in
    let picks = picks_sorted (has_pawns m) (men_in_order m) s.spells.digits s.spells.are_digits (subst AreApart s.list_is there.1) (subst AreSorted s.list_is (sorted_list p stand ok all order)) in
    subst (IsLeastCode c p) (sym s.spells.number)
    (picks_code c p s.spells.digits ok (counted_of c p is_of) s.spells.target s.spells.are_digits (subst (λ men. Picks (has_pawns m) men (men_in_order m) s.spells.digits) (sym s.spells.men) picks))
  where
    m : Material
    m = material_of c

pub keeps_in_order : Facts → (c code : ℕ) (p : Setup) → IsAdmissible p → IsLeastCode c p code → Keeps c p 0 code
keeps_in_order facts c code p ok coded q other turn spells = coded.least other (subst (Spells c other) (facts.once 0 false p q p turn.1 (stays p ok).1) spells)

-- the digits of two equal men, exchanged
record Exchanged (pawns : Bool) (men : List Man) (digits : List ℕ) (list : List (Man × ℕ)) : Type 0 where
  others : List ℕ
  are : AreDigits (map (base_of pawns) men) others
  list_is : list ≡ placed pawns men others
  less : number_from 0 (map (base_of pawns) men) others < number_from 0 (map (base_of pawns) men) digits

exchange : (pawns : Bool) (men : List Man) (digits : List ℕ) (e f x y : Man × ℕ) → x.0 ≡ y.0 → y.1 < x.1 → AreDigits (map (base_of pawns) men) digits → e ∷ f ∷ x ∷ y ∷ [] ≡ placed pawns men digits → Exchanged pawns men digits (e ∷ f ∷ y ∷ x ∷ [])
exchange pawns [] digits e f x y same lt are is = absurd (cc)
exchange pawns (a ∷ men) [] e f x y same lt are is = absurd are
exchange pawns (a ∷ []) (i ∷ digits) e f x y same lt are is = absurd (cc)
exchange pawns (a ∷ b ∷ men) (i ∷ []) e f x y same lt are is = absurd are.1
exchange pawns (a ∷ b ∷ []) (i ∷ j ∷ digits) e f x y same lt are is = absurd (cc)
exchange pawns (a ∷ b ∷ g ∷ men) (i ∷ j ∷ []) e f x y same lt are is = absurd are.1.1
exchange pawns (a ∷ b ∷ g ∷ []) (i ∷ j ∷ k ∷ digits) e f x y same lt are is = absurd (cc)
exchange pawns (a ∷ b ∷ g ∷ h ∷ men) (i ∷ j ∷ k ∷ []) e f x y same lt are is = absurd are.1.1.1
exchange pawns (a ∷ b ∷ g ∷ h ∷ o ∷ men) (i ∷ j ∷ k ∷ l ∷ []) e f x y same lt are is = absurd are.1.1.1.1
exchange pawns (a ∷ b ∷ g ∷ h ∷ o ∷ men) (i ∷ j ∷ k ∷ l ∷ n ∷ digits) e f x y same lt are is = absurd (cc)
exchange pawns (a ∷ b ∷ g ∷ h ∷ []) (i ∷ j ∷ k ∷ l ∷ n ∷ digits) e f x y same lt are is = absurd are.1.1.1.1
exchange pawns (a ∷ b ∷ g ∷ h ∷ []) (i ∷ j ∷ k ∷ l ∷ []) e f x y same lt are is =
    let first : e ≡ (a, square_of pawns a i) = cc in
    let second : f ≡ (b, square_of pawns b j) = cc in
    let third : x ≡ (g, square_of pawns g k) = cc in
    let fourth : y ≡ (h, square_of pawns h l) = cc in
    let equal : g ≡ h = sym (ap (λ (z : Man × ℕ). z.0) third) ∙ same ∙ ap (λ (z : Man × ℕ). z.0) fourth in
    let lower : square_of pawns h l < square_of pawns h k = subst (λ n. n < square_of pawns h k) (ap (λ (z : Man × ℕ). z.1) fourth) (subst (λ n. y.1 < n) (ap (λ (z : Man × ℕ). z.1) third ∙ ap (λ z. square_of pawns z k) equal) lt) in
    let k_in : k < base_of pawns h = subst (λ z. k < base_of pawns z) equal are.1.1.0 in
    let l_in : l < base_of pawns h = are.1.1.1.0 in
    let less : l < k = lesser_digit pawns h l k l_in lower in
    let here : y ≡ (g, square_of pawns g l) = fourth ∙ ap (λ z. (z, square_of pawns z l)) (sym equal) in
    let there : x ≡ (h, square_of pawns h k) = third ∙ ap (λ z. (z, square_of pawns z k)) equal in
    let last : AreDigits (base_of pawns h ∷ []) (k ∷ []) = (k_in, tt) in
    let before : AreDigits (base_of pawns h ∷ []) (l ∷ []) = (l_in, tt) in
    record {
      others = i ∷ j ∷ l ∷ k ∷ [];
      are = (are.0, (are.1.0, (subst (λ z. l < base_of pawns z) (sym equal) l_in, last)));
      list_is = of_four first second here there;
      less = number_from-lt (base_of pawns h ∷ []) (k ∷ []) (l ∷ []) _ _ last before (omega (arith, less));
    }
  where
    of_four : {a b g h e f y x : Man × ℕ} → e ≡ a → f ≡ b → y ≡ g → x ≡ h → e ∷ f ∷ y ∷ x ∷ [] ≡ a ∷ b ∷ g ∷ h ∷ []
    of_four p q r s = cc

-- in the other order they do not
pub beaten_behind : (c code : ℕ) (stand : Stand) (p : Setup) → IsAdmissible p → AllStand false p.men (list_of stand) → AreBehind stand.first stand.last → (men_among (list_of stand) ≡ men_in_order (material_of c))
    → IsOf c false p → SpellsAt c code stand p → Beats c p 0 code
beaten_behind c code stand p ok all behind are is_of s = of_entries stand.first stand.last refl refl behind
  where
    m : Material
    m = material_of c

    of_two : (x y : Man × ℕ) → stand.first ≡ Some x → stand.last ≡ Some y → x.0 ≡ y.0 → y.1 < x.1 → Beats c p 0 code
    of_two x y next_is last_is same lt =
        let list_is : list_of stand ≡ (king_of White, stand.white) ∷ (king_of Black, stand.black) ∷ x ∷ y ∷ [] =
        ap (λ (z : Entry). (king_of White, stand.white) ∷ (king_of Black, stand.black) ∷ (option_to_list z ++ option_to_list stand.last)) next_is ∙ ap (λ (z : Entry). (king_of White, stand.white) ∷ (king_of Black, stand.black) ∷ x ∷ option_to_list z) last_is in
        let it = exchange (has_pawns m) (men_in_order m) s.spells.digits (king_of White, stand.white) (king_of Black, stand.black) x y same lt s.spells.are_digits (sym list_is ∙ s.list_is) in
        let all' = ordered false p.men stand.white stand.black (Some x) (Some y) (Some y) (Some x) (inr (refl, refl, ap (λ z. z ∷ []) same)) (subst (AllStand false p.men) list_is all) in
        let among : men_among ((king_of White, stand.white) ∷ (king_of Black, stand.black) ∷ y ∷ x ∷ []) ≡ men_in_order m =
        exchanged_men x y same ∙ sym (ap men_among list_is) ∙ are in
        let there = all_there p.men ((king_of White, stand.white) ∷ (king_of Black, stand.black) ∷ y ∷ x ∷ []) ok.on_board (subst (AreCounted p.men) (sym among) (counted_of c p is_of)) all' in
        record {
          image = p;
          turned = stays p ok;
          other = number_of (bases m) (it.others ++ last_by m p);
          spells = record {
            admissible = ok;
            digits = it.others;
            are_digits = it.are;
            apart = record { few = let few = few_men c in let le = placed_few (has_pawns m) (men_in_order m) it.others in omega arith; apart = fits_of (men_at m it.others) (subst AreApart it.list_is there.1) };
            men = there.0 ∙ ap men_of it.list_is;
            target = s.spells.target;
            number = refl;
          };
          less =
              let here = number_append (men_bases m) s.spells.digits (ends_by m) (last_by m p) 0 s.spells.are_digits in
              let behind = number_append (men_bases m) it.others (ends_by m) (last_by m p) 0 it.are in
              let fits = last_digits (has_target m) p.side p.target in
              let lt = number_from-lt (ends_by m) (last_by m p) (last_by m p) _ _ fits fits it.less in
              let is = s.spells.number in omega arith;
        }
      where
        exchanged_men : (x y : Man × ℕ) → x.0 ≡ y.0 → men_among ((king_of White, stand.white) ∷ (king_of Black, stand.black) ∷ y ∷ x ∷ []) ≡ men_among ((king_of White, stand.white) ∷ (king_of Black, stand.black) ∷ x ∷ y ∷ [])
        exchanged_men x y same = ap (λ z. king_of White ∷ king_of Black ∷ z ∷ x.0 ∷ []) (sym same) ∙ ap (λ z. king_of White ∷ king_of Black ∷ x.0 ∷ z ∷ []) same

    of_entries : (a b : Entry) → stand.first ≡ a → stand.last ≡ b → AreBehind a b → Beats c p 0 code
    of_entries None b next_is last_is h = absurd h
    of_entries (Some x) None next_is last_is h = absurd h
    of_entries (Some x) (Some y) next_is last_is h = of_two x y next_is last_is h.0 h.1
