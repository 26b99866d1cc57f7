-- Which codes of the numbers of a shelf are indexes.
use Rattle.std.proofs.Common.{◌≡◌, ◌≢◌, ◌↔◌, ℕ, ◌+◌, ◌*◌, ◌/◌, ◌<◌, Bool, true, false, if◌then◌else◌, Some, arith, sym}
use Rattle.std.proofs.Common.{ap, ◌∙◌, subst, inl, inr}
use Rattle.egt_index.specs.Prelude.{bit_at, cases_eq, bit_at-zero, king_of, side_number, pawn_of, IsSettled}
use Rattle.egt_index.specs.Prelude.{IsAdmissible, Setup, Man, Side, White, Black, Material, material_of, AreBehind}
use Rattle.egt_index.specs.Prelude.{SpellsAt, Spells, Facts, TellsLast, IsPrefix, IsVoidPrefix, IsIndex, IsVoid}
use Rattle.egt_index.specs.Prelude.{IsNumbered, code_of, places, AreInOrder, AreMade, IsMade, TellsIndex, row_len}
use Rattle.egt_index.specs.Prelude.{kind_digits, kind_less, last_of, AreIndexed, AreIndexes, IsShelfBehind, IsWithin}
use Rattle.egt_index.specs.Prelude.{PassesNothing, has_target, men_beside, size_of, Ends, TellsMen, Entry, HasStand}
use Rattle.egt_index.specs.Prelude.{IsInOrder, list_of, with_last, Prefix, Places, Stand}
use Rattle.egt_index.proofs.Beating.{no_index}
use Rattle.egt_index.proofs.Decoded.{list_spelled}
use Rattle.egt_index.proofs.Exists.{index_settled, index_spelled}
use Rattle.egt_index.proofs.NumbersOfCodes.{ends_behind, places_of_last}
use Rattle.egt_index.proofs.TargetsMade.{last_pawn}
use Rattle.egt_index.proofs.Placing.{tells}
use Rattle.egt_index.proofs.RowMen.{row_number}
use Rattle.egt_index.proofs.ToldMen.{stands_told, told_stands}
use Rattle.egt_index.proofs.Swapping.{beaten_behind}
use Rattle.egt_board.proofs.Bits.{not_both}

no_bits : {P : ℕ → Type 0} (word : ℕ) → word ≡ 0 → ((k : ℕ) → P k → ⊥) → (k : ℕ) → (bit_at word k ≡ 1) ↔ P k
no_bits word none not k = (λ one. not_both (bit_at 0 k) (bit_at-zero k) (sym (ap (λ w. bit_at w k) none) ∙ one), λ there. absurd (not k there))

-- equal men are in order but where the first stands on the greater square
in_order : (x : Entry) (man : Man) (s : ℕ) → ¬ AreBehind x (Some (man, s)) → IsInOrder x (Some (man, s))
in_order x man s not = grind arith

-- the first number of a shelf with that side to move
both_first : (P : ℕ → ℕ → Type 0) (n white black : ℕ) → P (n + side_number White) white → P (n + side_number Black) black → P n white × P (n + 1) black
both_first P n white black here there = grind arith

module _ (targeted : Bool) (c shelf high : ℕ) (man : Man) (c_in : c < 36) (last : last_of (men_beside (material_of c)) ≡ Some man) (other : man ≢ king_of White) (at : IsShelfBehind targeted c shelf high) where
  abbrev m : Material
  m = material_of c

  abbrev number : ℕ → ℕ
  number k = high * kind_digits man.kind + k

  abbrev entry : ℕ → Entry
  entry k = Some (man, k + kind_less man.kind)

  abbrev first : Side → ℕ
  first mover = shelf * (2 * places c) + side_number mover

  pub len : places c ≡ kind_digits man.kind
  len = places_of_last c man last

  pub ends : (mover : Side) (k : ℕ) → k < kind_digits man.kind → Ends m (code_of c (first mover + 2 * k)) (number k) mover targeted
  ends mover k below = grind (arith, code_of, len, ends_behind)

  module _ (prefix : Prefix) (is : IsPrefix c high prefix) where
    abbrev stand : ℕ → Stand
    stand k = with_last prefix.stand (entry k)

    told : (mover : Side) (k : ℕ) → k < kind_digits man.kind → TellsMen targeted c (code_of c (first mover + 2 * k)) (stand k) mover
    told mover k below = record {
      number = number k;
      men = is.before.men (number k) (entry k) (tells c high man c_in last other k below);
      filled = is.before.filled (number k) (entry k) (tells c high man c_in last other k below);
      ends = ends mover k below;
    }

    made : (mover : Side) (k : ℕ) (p : Setup) → k < kind_digits man.kind → IsNumbered c (first mover + 2 * k) p → IsMade targeted c prefix.stand man mover k
    made mover k p below is = record { below = below; position = p; has = told_stands targeted c (code_of c (first mover + 2 * k)) p (stand k) mover is.spells is.settled (told mover k below) }

    spelled : (mover : Side) (k : ℕ) (made : IsMade targeted c prefix.stand man mover k) → Spells c (code_of c (first mover + 2 * k)) made.position
    spelled mover k made = stands_told targeted c (code_of c (first mover + 2 * k)) made.position (stand k) mover made.has (told mover k made.below)

    -- where each is the least of its images, if equal men are in order
    module _ (facts : Facts) (alone : prefix.tied ≡ false) where
      indexed : (mover : Side) (all word : ℕ) → ((k : ℕ) → (bit_at all k ≡ 1) ↔ IsMade targeted c prefix.stand man mover k) → ((k : ℕ) → (bit_at word k ≡ 1) ↔ ((bit_at all k ≡ 1) × IsInOrder prefix.stand.first (entry k))) → AreIndexed c (first mover) word
      unfolding told
      indexed mover all word are_made bits k = (there, back)
        where
          code : ℕ
          code = code_of c (first mover + 2 * k)

          spelled_there : (p : Setup) → k < kind_digits man.kind → Spells c code p → SpellsAt c code (stand k) p
          spelled_there p below spells = record { spells = spells; list_is = list_spelled c code (number k) mover targeted (list_of (stand k)) p (ends mover k below) (told mover k below).men spells }

          there : bit_at word k ≡ 1 → (k < places c) × ¬ IsVoid c code
          there one = (subst (λ d. k < d) (sym len) here.below, λ void. void here.position here.has.admissible index)
            where
              here : IsMade targeted c prefix.stand man mover k
              here = (are_made k).0 ((bits k).0 one).0

              index : IsIndex c here.position code
              index = is.least alone (entry k) ((bits k).0 one).1 here.position mover targeted code here.has (spelled_there here.position here.below (spelled mover k here))

          back : (k < places c) × ¬ IsVoid c code → bit_at word k ≡ 1
          back some = elim (cases_eq (bit_at word k) 1) [
            | inl one ↦ one
            | inr not ↦ absurd (some.1 (λ p ok index. not (of_index p ok index)))
          ]
            where
              below : k < kind_digits man.kind
              below = subst (λ d. k < d) len some.0

              of_index : (p : Setup) → IsAdmissible p → IsIndex c p code → bit_at word k ≡ 1
              of_index p ok index = (bits k).1 ((are_made k).1 (made mover k index.image below (record { spells = index.spells; settled = settled })), in_order prefix.stand.first man (k + kind_less man.kind) not_behind)
                where
                  settled : IsSettled index.image
                  settled = index_settled facts p index.image c code ok index index.spells

                  has : HasStand c false (stand k) mover targeted index.image
                  has = told_stands targeted c code index.image (stand k) mover index.spells settled (told mover k below)

                  not_behind : ¬ AreBehind prefix.stand.first (entry k)
                  not_behind behind =
                      no_index facts c code index.image has.admissible settled (0, omega arith, beaten_behind c code (stand k) index.image has.admissible has.stood.all behind has.stood.are has.is_of (spelled_there index.image below index.spells))
                      (index_spelled facts p index.image c code ok index index.spells)

      pub indexes_behind : (all found : Places) → AreMade targeted c prefix.stand man all → AreInOrder prefix.stand.first man all found → AreIndexes c shelf found
      indexes_behind all found are in_order =
          let both = both_first (AreIndexed c) (shelf * (2 * places c)) found.white found.black (indexed White all.white found.white are.white in_order.white) (indexed Black all.black found.black are.black in_order.black) in
          record { white = both.0; black = both.1 }

  -- where there is no prefix
  in_row : (mover : Side) (k : ℕ) → k < places c → code_of c (first mover + 2 * k) / row_len c ≡ number k
  in_row mover k below = row_number m (code_of c (first mover + 2 * k)) (number k) mover targeted (ends mover k (subst (λ d. k < d) len below))

  lasts : (k : ℕ) → k < places c → TellsLast c (number k) high (entry k)
  lasts k below = tells c high man c_in last other k (subst (λ d. k < d) len below)

  pub none_indexed : IsVoidPrefix c high → (found : Places) → found.white ≡ 0 → found.black ≡ 0 → AreIndexes c shelf found
  none_indexed void found white black =
      let both = both_first (AreIndexed c) (shelf * (2 * places c)) found.white found.black (of White found.white white) (of Black found.black black) in
      record { white = both.0; black = both.1 }
    where
      of : (mover : Side) (word : ℕ) → word ≡ 0 → AreIndexed c (first mover) word
      of mover word none = no_bits word none (λ k there. there.1 (void (number k) (entry k) (lasts k there.0) (code_of c (first mover + 2 * k)) (in_row mover k there.0)))

-- where none of the men before him has a target
module _ (c shelf high : ℕ) (c_in : c < 36) (has : has_target (material_of c) ≡ true) (at : IsShelfBehind true c shelf high) (nothing : PassesNothing c high) (found : Places) (white : found.white ≡ 0) (black : found.black ≡ 0) where
  no_king : pawn_of Black ≢ king_of White
  no_king e = let sides = ap (λ (man : Man). man.side) e in cc

  not_settled : (mover : Side) (k : ℕ) (p : Setup) → k < places c → Spells c (code_of c (shelf * (2 * places c) + side_number mover + 2 * k)) p → IsSettled p → ⊥
  not_settled mover k p below spells settled =
      nothing (high * 48 + k) (Some (pawn_of Black, k + 8)) (code_of c (shelf * (2 * places c) + side_number mover + 2 * k)) mover p (tells c high (pawn_of Black) c_in (last_pawn c has) no_king k few)
      (ends true c shelf high (pawn_of Black) c_in (last_pawn c has) no_king at mover k few) spells settled
    where
      few : k < 48
      few = subst (λ d. k < d) (places_of_last c (pawn_of Black) (last_pawn c has)) below

  pub no_indexes : Facts → AreIndexes c shelf found
  no_indexes facts =
      let both = both_first (AreIndexed c) (shelf * (2 * places c)) found.white found.black (of White found.white white) (of Black found.black black) in
      record { white = both.0; black = both.1 }
    where
      of : (mover : Side) (word : ℕ) → word ≡ 0 → AreIndexed c (shelf * (2 * places c) + side_number mover) word
      of mover word none = no_bits word none (λ k there. there.1 (λ p ok index.
          not_settled mover k index.image there.0 index.spells (index_settled facts p index.image c (code_of c (shelf * (2 * places c) + side_number mover + 2 * k)) ok index index.spells)))

-- numbers that are told one after the other
abbrev pub IndexedTo : (c first len bits : ℕ) → Type 0
IndexedTo c first len bits = (k : ℕ) → (bit_at bits k ≡ 1) ↔ ((k < len) × ¬ IsVoid c (code_of c (first + 2 * k)))

pub indexed_more : (c first k bits more : ℕ) (here : Bool) → IndexedTo c first k bits → bit_at more k ≡ (if here then 1 else 0) → ((t : ℕ) → t ≢ k → bit_at more t ≡ bit_at bits t) → TellsIndex here c (code_of c (first + 2 * k)) → IndexedTo c first (k + 1) more
indexed_more c first k bits more here are same others tells j = elim (cases_eq j k) [
  | inl e ↦ subst (λ n. (bit_at more n ≡ 1) ↔ ((n < k + 1) × ¬ IsVoid c (code_of c (first + 2 * n)))) (sym e) (told here tells same)
  | inr other ↦ (
    λ one. let there = (are j).0 (sym (others j other) ∙ one) in let below = there.0 in ((omega arith), there.1),
    λ there. let below = there.0 in others j other ∙ (are j).1 ((omega arith), there.1),
  )
]
  where
    told : (here : Bool) → TellsIndex here c (code_of c (first + 2 * k)) → bit_at more k ≡ (if here then 1 else 0) → (bit_at more k ≡ 1) ↔ ((k < k + 1) × ¬ IsVoid c (code_of c (first + 2 * k)))
    told here tells is = grind (arith, not_both)

pub indexed_all : (c shelf start digits : ℕ) (found : Places) → start ≡ shelf * (2 * places c) → digits ≡ places c → IndexedTo c start digits found.white → IndexedTo c (start + 1) digits found.black → AreIndexes c shelf found
indexed_all c shelf start digits found start_is digits_is whites blacks = record {
  white = subst (λ n. IndexedTo c n (places c) found.white) start_is (subst (λ d. IndexedTo c start d found.white) digits_is whites);
  black = subst (λ n. IndexedTo c (n + 1) (places c) found.black) start_is (subst (λ d. IndexedTo c (start + 1) d found.black) digits_is blacks);
}

-- they are of the class
pub place_within : (c shelf digits k : ℕ) → IsWithin c shelf → digits ≡ places c → k < digits → shelf * (2 * digits) + 2 * k + 1 < size_of c
place_within c shelf digits k within is = subst (λ d. k < d → shelf * (2 * d) + 2 * k + 1 < size_of c) (sym is) (λ below. omega arith)
