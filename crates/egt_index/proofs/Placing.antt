-- Which codes of a shelf are positions' indexes, by where the last man may stand.
use Rattle.std.proofs.Common.{◌≡◌, Bool, false, if◌then◌else◌, List, [], Option, Some, None, bit_and, arith, refl, subst}
use Rattle.std.proofs.Common.{◌≢◌, ◌↔◌, ℕ, ◌+◌, ◌-◌, ◌*◌, ◌/◌, ◌%◌, ◌^◌, ◌<◌, ◌≤◌, ◌∷◌, min, sym, ap, ◌∙◌, inl, inr}
use Rattle.egt_index.specs.Prelude.{bit_at, option_to_list, bit_at_above, bit_at_cat_high, IsAdmissible, square_by_digit}
use Rattle.egt_index.specs.Prelude.{cases_eq, bit_at_mask_below, bit_at_mask_inside, bit_at_ones_above, get-insert_other}
use Rattle.egt_index.specs.Prelude.{cases_lt, ones_shl, Placement, TellsLast, kind_less, SpellsMen, IsInOrder, with_last}
use Rattle.egt_index.specs.Prelude.{bit_at-lt, IsAttacked, IsInCheck, other_side, IsKeptFrom, P, has_target, men_beside}
use Rattle.egt_index.specs.Prelude.{bit_at_and, bit_at_ones, king_of, side_number, material_of, number_from, kind_digits}
use Rattle.egt_index.specs.Prelude.{men_of, setup_of, Material, IsPrefix, IsPlaced, waiting, last_of, AllApart, AreEqual}
use Rattle.egt_index.specs.Prelude.{Stands, IsFree, Kind, White, Black, IsMade, base_by, man_of, Splits, list_of, Prefix}
use Rattle.egt_index.specs.Prelude.{Man, Side, Tells, Entry, IsOff, Stand}
use Rattle.std.specs.FinMap as map
use Rattle.egt_index.proofs.FrameMen.{men_are}
use Rattle.egt_index.proofs.Prefixes.{all_apart, board_with, few_with, free_before, list_before}
use Rattle.egt_index.proofs.After.{all_apart as stood_apart}
use Rattle.egt_index.proofs.Setups.{AreKings, kings_spelled, off_of, pawns_spelled, setup_spelled, stand_spelled}
use Rattle.egt_index.proofs.DigitsTaken.{tells_one}
use Rattle.egt_board.proofs.Bits.{not_both}

-- the digits of a man and his squares
pub within : (kind : Kind) → kind_digits kind + kind_less kind ≤ 64
within kind = grind arith

pub twice_within : (kind : Kind) → kind_digits kind + 2 * kind_less kind ≤ 64
twice_within kind = grind arith

pub some_digits : (kind : Kind) → 0 < kind_digits kind
some_digits kind = grind arith

-- of a pawn the bits from the second rank on
shifted : (n k : ℕ) → bit_at (n / 256) k ≡ bit_at n (k + 8)
shifted n k =
    let whole : n / 256 * 2 ^ 8 + n % 256 ≡ n = omega arith in
    let less : k + 8 - 8 ≡ k = omega arith in
    sym (sym (ap (λ m. bit_at m (k + 8)) whole) ∙ bit_at_cat_high (n / 256) 8 (n % 256) (k + 8) (omega arith) (omega arith) ∙ ap (bit_at (n / 256)) less)

pub pawn_bits : (n k : ℕ) → (bit_at (bit_and (n / 256) 281474976710655) k ≡ 1) ↔ ((k < 48) × (bit_at n (k + 8) ≡ 1))
pawn_bits n k = elim (cases_lt k 48) [
  | inl lt ↦
      let ones = bit_at_ones 48 k lt in
      let is = bit_at_and (n / 256) 281474976710655 k in
      let here = shifted n k in
      let few = bit_at-lt (n / 256) k in (λ one. (lt, omega arith), λ h. let bit = h.1 in omega arith)
  | inr past ↦
      let none = bit_at_ones_above 48 k past in
      let is = bit_at_and (n / 256) 281474976710655 k in (λ one. absurd (omega arith), λ h. let lt = h.0 in absurd (omega arith))
]

-- of another man all
all_bits : (n k : ℕ) → n < 2 ^ 64 → (bit_at n k ≡ 1) ↔ ((k < 64) × (bit_at n (k + 0) ≡ 1))
all_bits n k small = (
  λ one. elim (cases_lt k 64) [
    | inl lt ↦ (lt, ap (bit_at n) same ∙ one)
    | inr past ↦ not_both (bit_at n k) (bit_at_above n 64 k small past) one
  ],
  λ h. sym (ap (bit_at n) same) ∙ h.1,
)
  where
    same : k + 0 ≡ k
    same = omega arith

pub man_bits : (kind : Kind) (n k : ℕ) → kind ≢ P → n < 2 ^ 64 → (bit_at n k ≡ 1) ↔ ((k < kind_digits kind) × (bit_at n (k + kind_less kind) ≡ 1))
man_bits kind n k not small = grind (arith, all_bits)

-- the digits from some one on
from_on : (d k : ℕ) → d ≤ 64 → k < 64 → (bit_at (2 ^ 64 - 2 ^ d) k ≡ 1) ↔ (d ≤ k)
from_on d k d_in k_in = elim (cases_lt k d) [
  | inl lt ↦ (λ one. not_both (bit_at (2 ^ 64 - 2 ^ d) k) (bit_at_mask_below d 64 k lt) one, λ le. absurd (omega arith))
  | inr le ↦ (λ one. le, λ h. bit_at_mask_inside d 64 k le k_in)
]

-- by these two equal men are in order
pub ordered_bits : (x : Entry) (e : Man × ℕ) (man : Man) (d k : ℕ) → x ≡ Some e → e.0 ≡ man → d ≡ e.1 - kind_less man.kind → d < 64 → k < 64
    → (bit_at ((2 ^ 64 - 1) * 2 ^ d % 2 ^ 64) k ≡ 1) ↔ IsInOrder x (Some (man, k + kind_less man.kind))
ordered_bits x e man d k is same digit d_in k_in =
    subst (λ n. (bit_at n k ≡ 1) ↔ IsInOrder x (Some (man, k + kind_less man.kind))) (sym (ones_shl 64 d (omega arith)))
    (subst (λ (x : Entry). (bit_at (2 ^ 64 - 2 ^ d) k ≡ 1) ↔ IsInOrder x (Some (man, k + kind_less man.kind))) (sym is) (
      λ one. λ _. let le = (from_on d k (omega arith) k_in).0 one in omega arith,
      λ order. let le = order same in (from_on d k (omega arith) k_in).1 (omega arith),
    ))

-- other men are so by all
pub free_bits : (x : Entry) (man : Man) (k s : ℕ) → ¬ AreEqual x (Some (man, s)) → k < 64 → (bit_at (2 ^ 64 - 1) k ≡ 1) ↔ IsInOrder x (Some (man, s))
free_bits None man k s apart k_in = (λ one. tt, λ order. bit_at_ones 64 k k_in)
free_bits (Some e) man k s apart k_in = (λ one. λ same. absurd (apart same), λ order. bit_at_ones 64 k k_in)

-- the bits of one word where something holds of them
pub bits_among : (all order k : ℕ) (Tells : Type 0) → all < 2 ^ 64 → (k < 64 → (bit_at order k ≡ 1) ↔ Tells) → (bit_at (bit_and all order) k ≡ 1) ↔ ((bit_at all k ≡ 1) × Tells)
bits_among all order k Tells small tells =
    let both = bit_at_and all order k in
    let few = bit_at-lt all k in
    let few_more = bit_at-lt order k in
    elim (cases_lt k 64) [
      | inl lt ↦ (λ one. (omega arith, (tells lt).0 (omega arith)), λ h. let here = h.0 in let there = (tells lt).1 h.1 in omega arith)
      | inr past ↦ let none = bit_at_above all 64 k small past in (λ one. absurd (omega arith), λ h. not_both (bit_at all k) none h.0)
    ]

-- where the last man may stand, by three sets
pub placed_bits : (prefix : Prefix) (man : Man) (mover : Side) (king k word kept occupied without : ℕ) → king ≡ waiting mover prefix.stand
    → (bit_at word k ≡ 1) ↔ ((k < kind_digits man.kind) × (bit_at without (k + kind_less man.kind) ≡ 1))
    → ((t : ℕ) → bit_at without t ≡ min (bit_at kept t) (1 - bit_at occupied t))
    → ((t : ℕ) → t < 64 → (bit_at kept t ≡ 1) ↔ IsKeptFrom prefix.board t man king mover)
    → ((t : ℕ) → (bit_at occupied t ≡ 0) ↔ IsFree prefix.board t)
    → (bit_at word k ≡ 1) ↔ IsPlaced prefix man mover k
placed_bits prefix man mover king k word kept occupied without king_is digits is safe free = (there, back)
  where
    there : bit_at word k ≡ 1 → IsPlaced prefix man mover k
    there one =
        let h = digits.0 one in
        let bit = h.1 in
        let in_digits = h.0 in
        let bits = is (k + kind_less man.kind) in
        let few = bit_at-lt kept (k + kind_less man.kind) in
        record {
          below = h.0;
          free = (free (k + kind_less man.kind)).0 (omega arith);
          kept = subst (λ s. IsKeptFrom prefix.board (k + kind_less man.kind) man s mover) king_is ((safe (k + kind_less man.kind) (omega (arith, within man.kind))).0 (omega arith));
        }

    back : IsPlaced prefix man mover k → bit_at word k ≡ 1
    back placed =
        let below = placed.below in
        let bits = is (k + kind_less man.kind) in
        let none = (free (k + kind_less man.kind)).1 placed.free in
        let one = (safe (k + kind_less man.kind) (omega (arith, within man.kind))).1 (subst (λ s. IsKeptFrom prefix.board (k + kind_less man.kind) man s mover) (sym king_is) placed.kept) in
        digits.1 (placed.below, omega arith)

pub digit_on : (pawns : Bool) (side : Side) (kind : Kind) (d : ℕ) → man_of side kind ≢ king_of White → (base_by pawns side kind ≡ kind_digits kind) × (square_by_digit pawns side kind d ≡ d + kind_less kind)
digit_on pawns side kind d not = grind arith

-- the last man behind a prefix
module _ (c high : ℕ) (man : Man) (c_in : c < 36) (last : last_of (men_beside (material_of c)) ≡ Some man) (other : man ≢ king_of White) where
  abbrev m : Material
  m = material_of c

  -- the number of the row with this digit, and where the last man stands there
  abbrev number : ℕ → ℕ
  number k = high * kind_digits man.kind + k

  abbrev square : ℕ → ℕ
  square k = k + kind_less man.kind

  abbrev entry : ℕ → Entry
  entry k = Some (man, square k)

  pub tells : (k : ℕ) → k < kind_digits man.kind → TellsLast c (number k) high (entry k)
  tells k below = λ pawns. subst (λ (o : Option Man). Tells pawns (number k) (option_to_list o) high ((man, square k) ∷ [])) (sym last) (tells_one pawns (number k) man high (square k) splits)
    where
      splits : Splits (number k) man high (square k)
      splits = record {
        digit = k;
        below = λ pawns. subst (λ b. k < b) (sym (digit_on pawns man.side man.kind k other).0) below;
        is = λ pawns. (digit_on pawns man.side man.kind k other).1;
        number_is = λ pawns. ap (λ b. high * b + k) (sym (digit_on pawns man.side man.kind k other).0);
      }

  module _ (prefix : Prefix) (is : IsPrefix c high prefix) (k : ℕ) (mover : Side) where
    abbrev stand : Stand
    stand = with_last prefix.stand (entry k)

    men : k < kind_digits man.kind → SpellsMen m (number k) (list_of stand)
    men below = is.before.men (number k) (entry k) (tells k below)

    board : AllApart (list_of stand) → map.insert prefix.board (square k) man ≡ men_of (list_of stand)
    board apart = ap (λ (men : Placement). map.insert men (square k) man) is.board ∙ board_with prefix.stand (entry k) is.before.no_last apart

    in_check : AllApart (list_of stand) → AreKings stand → (side : Side) → IsAttacked (map.insert prefix.board (square k) man) (waiting side prefix.stand) side → IsInCheck (men_of (list_of stand)) (other_side side)
    in_check apart kings White attacked = record {
      square = prefix.stand.black;
      stands = kings.black.stands;
      attacked = subst (λ (men : Placement). IsAttacked men prefix.stand.black White) (board apart) attacked;
    }
    in_check apart kings Black attacked = record {
      square = prefix.stand.white;
      stands = kings.white.stands;
      attacked = subst (λ (men : Placement). IsAttacked men prefix.stand.white Black) (board apart) attacked;
    }

    attacked_in : AllApart (list_of stand) → AreKings stand → (side : Side) → IsInCheck (men_of (list_of stand)) (other_side side) → IsAttacked (map.insert prefix.board (square k) man) (waiting side prefix.stand) side
    attacked_in apart kings h2 check = grind (arith, apart, kings, men, board, men_of, list_of)

    -- in a position without a target he stands where he may
    placed_where : IsMade false c prefix.stand man mover k → IsPlaced prefix man mover k
    placed_where made =
        let men_is = men_are c stand mover false made.position made.has in
        let apart = stood_apart false made.position.men (list_of stand) made.has.stood.all in
        record {
          below = made.below;
          free = subst (λ (men : Placement). IsFree men (square k)) (sym is.board) (free_before prefix.stand (entry k) is.before.no_last apart);
          kept = λ attacked. made.has.admissible.quiet
              (subst (λ (side : Side). IsInCheck made.position.men (other_side side)) (sym made.has.side_is)
              (subst (λ (men : Placement). IsInCheck men (other_side mover)) (sym men_is) (in_check apart (kings_spelled c (number k) stand c_in (men made.below) apart) mover attacked)));
        }

    -- and where he may stand there is one
    module _ (on_board : (s : ℕ) (m : Man) → Stands prefix.board s m → s < 64) (placed : IsPlaced prefix man mover k) where
      apart : AllApart (list_of stand)
      apart =
          all_apart prefix.stand (entry k) is.before.no_last is.apart
          (subst (λ (list : List (Man × ℕ)). IsOff list (square k)) (list_before prefix.stand is.before.no_last)
          (off_of (list_of prefix.stand) (square k) (subst (λ (men : Placement). IsFree men (square k)) is.board placed.free)))

      all_on_board : (s : ℕ) (m : Man) → Stands (map.insert prefix.board (square k) man) s m → s < 64
      all_on_board s m stands = grind (arith, cases_eq, within, get-insert_other)

      spelled : SpellsMen m (number k) (list_of stand)
      spelled = men placed.below

      kings : AreKings stand
      kings = kings_spelled c (number k) stand c_in spelled apart

      admissible : IsAdmissible (setup_of (list_of stand) mover None)
      admissible = record {
        few = few_with stand;
        on_board = λ s m stands. all_on_board s m (subst (λ (men : Placement). Stands men s m) (sym (board apart)) stands);
        kings = record { white = stand.white; black = stand.black; white_there = kings.white; black_there = kings.black };
        pawns = pawns_spelled c (number k) (list_of stand) spelled;
        target = tt;
        quiet = λ check. placed.kept (attacked_in apart kings mover check);
      }

      -- some code has these digits
      abbrev code : ℕ
      code = number_from (number k) (2 ∷ (if has_target m then 2 ∷ [] else [])) (side_number mover ∷ (if has_target m then 0 ∷ [] else []))

      made : IsMade false c prefix.stand man mover k
      made = record {
        below = placed.below;
        position = setup_of (list_of stand) mover None;
        has = stand_spelled c code (number k) stand mover false None spelled apart refl
            (setup_spelled c code (number k) mover false (list_of stand) None (setup_of (list_of stand) mover None) (record { number_is = refl; never = λ e. refl }) spelled refl apart refl admissible) tt;
      }

  pub made_bits : (prefix : Prefix) → IsPrefix c high prefix → (mover : Side) (word : ℕ) → ((s : ℕ) (m : Man) → Stands prefix.board s m → s < 64) → ((k : ℕ) → (bit_at word k ≡ 1) ↔ IsPlaced prefix man mover k)
      → (k : ℕ) → (bit_at word k ≡ 1) ↔ IsMade false c prefix.stand man mover k
  made_bits prefix is mover word on_board placed k = (λ one. made prefix is k mover on_board ((placed k).0 one), λ there. (placed k).1 (placed_where prefix is k mover there))
