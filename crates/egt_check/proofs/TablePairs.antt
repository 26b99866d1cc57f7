-- Whole tables of classes with two men beside the kings: what holds at all codes, shelf by shelf, and the tables that moves lead to.
use Rattle.std.proofs.Common.{◌≡◌, ◌≢◌, ℕ, ◌+◌, ◌-◌, ◌*◌, ◌/◌, ◌%◌, ◌<◌, ◌≤◌, ◌⊎◌, Bool, inl, inr, Some, None, sym, ap}
use Rattle.std.proofs.Common.{◌∙◌, subst, arith}
use Rattle.egt_check.specs.Prelude.{ne_eqb, cases_lt, Setup, turned_man, side_number, Kind, Man, Side}
use Rattle.egt_check.specs.Prelude.{White, Black, IsOf, AreNonKings, IsLoneMan, code_of, places, kind_digits}
use Rattle.egt_check.specs.Prelude.{number_in, HasColumn, TableValue, Part, column_of, table_in, tables_in}
use Rattle.egt_check.specs.Prelude.{IsShelved, Tables, beside, IsTableOf, HasBytes}
use Rattle.egt_check.proofs.TableFound.{beside_other}
use Rattle.egt_check.proofs.NearReading.{found_in, is_table_in}

-- a code of shelves that each have so many digits
pub record IsLane (wide first many i : ℕ) : Type 0 where
  pub x : ℕ
  pub y : ℕ
  pub side : Side
  pub x_in : x < many
  pub y_in : y < wide
  pub is : (first + x) * (2 * wide) + side_number side + 2 * y ≡ i

digits_are : (kind : Kind) → (kind_digits kind ≡ 64) ⊎ (kind_digits kind ≡ 48)
digits_are kind = grind arith

lane_of_64 : (first many i : ℕ) → first * 128 ≤ i → i < (first + many) * 128 → IsLane 64 first many i
lane_of_64 first many i from below = elim (cases_lt (i % 2) 1) [
  | inl even ↦ record { x = i / 128 - first; y = i % 128 / 2; side = White; x_in = omega arith; y_in = omega arith; is = omega arith }
  | inr odd ↦ record { x = i / 128 - first; y = i % 128 / 2; side = Black; x_in = omega arith; y_in = omega arith; is = omega arith }
]

lane_of_48 : (first many i : ℕ) → first * 96 ≤ i → i < (first + many) * 96 → IsLane 48 first many i
lane_of_48 first many i from below = elim (cases_lt (i % 2) 1) [
  | inl even ↦ record { x = i / 96 - first; y = i % 96 / 2; side = White; x_in = omega arith; y_in = omega arith; is = omega arith }
  | inr odd ↦ record { x = i / 96 - first; y = i % 96 / 2; side = Black; x_in = omega arith; y_in = omega arith; is = omega arith }
]

-- each code of these shelves is that of a digit of either man, with a side to move
lane_at : (kind : Kind) (first many i : ℕ) → first * (2 * kind_digits kind) ≤ i → i < (first + many) * (2 * kind_digits kind) → IsLane (kind_digits kind) first many i
lane_at kind first many i = grind (arith, digits_are, lane_of_64, lane_of_48)

-- what holds at the codes of all digits of these shelves holds at that of each of their numbers
pub shelves_keep : (Right : ℕ → Type 0) (c : ℕ) (kind : Kind) (first many n i : ℕ) → places c ≡ kind_digits kind → ((x y : ℕ) (side : Side) → x < many → y < kind_digits kind → Right (code_of c (number_in c (first + x) side y)))
    → first * (2 * kind_digits kind) ≤ n → n < (first + many) * (2 * kind_digits kind) → code_of c n ≡ i → Right i
shelves_keep Right c kind first many n i wide judged from under is =
    let lane = lane_at kind first many n from under in
    let there : number_in c (first + lane.x) lane.side lane.y ≡ n = ap (λ w. (first + lane.x) * (2 * w) + side_number lane.side + 2 * lane.y) wide ∙ lane.is in
    subst Right is (subst (λ m. Right (code_of c m)) there (judged lane.x lane.y lane.side lane.x_in lane.y_in))

-- the table of a class that a move leads to, beside that of another class
pub found_beside : (part : Part) (tables : Tables) (t u : TableValue) → u.class ≢ t.class → tables u.class ≡ Some u → HasColumn (column_of part) u → tables_in part (beside tables t) u.class ≡ Some (table_in part u)
found_beside part tables t u apart found there = found_in part (beside tables t) u there (beside_other tables t u.class (ne_eqb u.class t.class apart) ∙ found)

-- the same where a capture leaves one man
pub table_left : (part : Part) (tables : Tables) (t u : TableValue) (c : ℕ) (flips : Bool) (man : Man) → IsShelved tables c u → tables c ≡ Some u → u.class ≢ t.class → HasColumn (column_of part) u
    → IsLoneMan u.class (turned_man flips man) → HasBytes (table_in part u) → ((p : Setup) → AreNonKings p (Some man) None → IsOf c flips p) → IsTableOf (tables_in part (beside tables t)) (table_in part u) flips man
table_left part tables t u c flips man shelved found apart there lone bytes of = record {
  is_table = is_table_in part u there shelved.table;
  found = found_beside part tables t u apart (ap tables shelved.class ∙ found) there;
  bytes = bytes;
  class_of = record {
    below = shelved.table.class_in;
    of = λ p beside. subst (λ (k : ℕ). IsOf k flips p) (sym shelved.class) (of p beside);
    order = sym lone.are;
  };
}
