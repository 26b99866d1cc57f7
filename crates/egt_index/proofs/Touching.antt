-- Kings on neighbouring squares attack one another, so no code spells a position with them there.
use Rattle.std.proofs.Common.{◌≡◌, ◌≢◌, ◌⊎◌, ℕ, ◌+◌, ◌<◌, ◌≤◌, ◌/◌, Bool, arith, refl, sym, subst}
use Rattle.egt_index.specs.Prelude.{cases_eq, Side, White, Black, Step, king_of, IsInCheck, Reaches, Rides, Placement}
use Rattle.egt_index.specs.Prelude.{IsFree, IsKingOn, Setup, Away, material_of, Spells, row_len, SpellsMen, AreNear}
use Rattle.egt_index.specs.Prelude.{HasStand, list_of, Stand}
use Rattle.egt_index.proofs.RowMen.{apart_in_row, men_on_row}
use Rattle.egt_index.proofs.Setups.{kings_spelled}

-- the same, one more or one less
ways : (a b : ℕ) → a ≤ b + 1 → b ≤ a + 1 → (b ≡ a) ⊎ ((b ≡ a + 1) ⊎ (a ≡ b + 1))
ways a b le ge = grind (arith, cases_eq)

once : (F : ℕ → Type 0) (s t : ℕ) (d : Step) → Away d 1 s t → Rides F 1 s t d
once F s t d away = record { count = 1; moves = omega arith; within = omega arith; away = away; clear = λ k u some less on. absurd (omega (arith, some, less)) }

reached : (F : ℕ → Type 0) (side : Side) (s t : ℕ) → t < 64 → s ≢ t → AreNear s t → Reaches F (king_of side) s t
reached F side s t t_in apart near = grind (arith, ways, once)

turned_near : (s t : ℕ) → AreNear s t → AreNear t s
turned_near s t near = let f = near.files in let r = near.ranks in record { files = omega arith; ranks = omega arith }

-- either king is in check
checked : (men : Placement) (white black : ℕ) → IsKingOn men White white → IsKingOn men Black black → white < 64 → black < 64 → black ≢ white → AreNear white black → (side : Side) → IsInCheck men side
checked men white black white_on black_on white_in black_in apart near White = record {
  square = white;
  stands = white_on.stands;
  attacked = record { from = black; man = king_of Black; stands = black_on.stands; theirs = refl; reaches = reached (IsFree men) Black black white white_in apart (turned_near white black near) };
}
checked men white black white_on black_on white_in black_in apart near Black = record {
  square = black;
  stands = black_on.stands;
  attacked = record { from = white; man = king_of White; stands = white_on.stands; theirs = refl; reaches = reached (IsFree men) White white black black_in (λ e. apart (sym e)) near };
}

-- so no position of a class has them there
pub apart_kings : (c : ℕ) (flips : Bool) (stand : Stand) (side : Side) (targeted : Bool) (p : Setup) → HasStand c flips stand side targeted p → AreNear stand.white stand.black → ⊥
apart_kings c flips stand side targeted p has near = grind (arith, checked, turned_near)

-- no code of the row spells a position
pub none_near : (c n code : ℕ) (stand : Stand) (p : Setup) → c < 36 → code / row_len c ≡ n → SpellsMen (material_of c) n (list_of stand) → Spells c code p → AreNear stand.white stand.black → ⊥
none_near c n code stand p c_in row men s near =
    let apart = apart_in_row c n code stand p row men s in
    let kings = kings_spelled c n stand c_in men apart in
    let same = men_on_row c n code stand p row men s in
    let white = subst (λ (m : Placement). IsKingOn m White stand.white) (sym same) kings.white in
    let black = subst (λ (m : Placement). IsKingOn m Black stand.black) (sym same) kings.black in
    s.admissible.quiet (checked p.men stand.white stand.black white black (s.admissible.on_board stand.white _ white.stands) (s.admissible.on_board stand.black _ black.stands) apart.0.0 near _)
