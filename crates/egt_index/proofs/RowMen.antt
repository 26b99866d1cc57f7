-- The codes of a row spell the same men.
use Rattle.std.proofs.Common.{◌≡◌, ℕ, ◌/◌, ◌%◌, ◌<◌, Bool, true, false, cond, [], ◌∷◌, arith, refl, sym, ap, ◌∙◌, inl}
use Rattle.std.proofs.Common.{inr, subst}
use Rattle.egt_index.specs.Prelude.{is_some, FitsBoard, IsSettled, Material, SpellsAt, SpellsMen, AllApart, HasStand}
use Rattle.egt_index.specs.Prelude.{cases_eq, false≢true, side_number, material_of, number_from, has_target, SpellsNoMen}
use Rattle.egt_index.specs.Prelude.{Side, White, Black, men_of, Setup, Spells, ends_of, row_len, Ends, list_of, Stand}
use Rattle.egt_index.proofs.Classes.{spells_class}
use Rattle.egt_index.proofs.Decoded.{list_spelled, no_men}
use Rattle.egt_index.proofs.Setups.{fits_apart, stood_spelled}

-- the ends of a code, in a class with targets or without
record EndsWith (targets : Bool) (code high : ℕ) (side : Side) (targeted : Bool) : Type 0 where
  is : code ≡ number_from high (2 ∷ cond targets (2 ∷ []) []) (side_number side ∷ cond targets (cond targeted 1 0 ∷ []) [])
  never : targets ≡ false → targeted ≡ false

-- what stands before the ends is the number of the row
number_with : (targets : Bool) (code high : ℕ) (side : Side) (targeted : Bool) → EndsWith targets code high side targeted → code / cond {A = ℕ} targets 4 2 ≡ high
number_with targets code high side targeted ends = grind arith

pub row_number : (m : Material) (code high : ℕ) (side : Side) (targeted : Bool) → Ends m code high side targeted → code / ends_of m ≡ high
row_number m code high side targeted ends = number_with (has_target m) code high side targeted (record { is = ends.number_is; never = ends.never })

side_of : (k : ℕ) → k < 2 → (side : Side) × (side_number side ≡ k)
side_of k lt = elim (cases_eq k 0) [
  | inl e ↦ (White, sym e)
  | inr not ↦ (Black, omega arith)
]

flag_of : (k : ℕ) → k < 2 → (targeted : Bool) × (cond {A = ℕ} targeted 1 0 ≡ k)
flag_of k lt = elim (cases_eq k 0) [
  | inl e ↦ (false, sym e)
  | inr not ↦ (true, omega arith)
]

-- each code has its ends
ends_with : (targets : Bool) (code : ℕ) → (side : Side) × (targeted : Bool) × EndsWith targets code (code / cond {A = ℕ} targets 4 2) side targeted
ends_with true code =
    let side = side_of (code / 2 % 2) (omega arith) in
    let flag = flag_of (code % 2) (omega arith) in
    let s = side.1 in
    let f = flag.1 in (side.0, flag.0, record { is = omega arith; never = λ e. absurd (false≢true (sym e)) })
ends_with false code =
    let side = side_of (code % 2) (omega arith) in
    let s = side.1 in (side.0, false, record { is = omega arith; never = λ e. refl })

pub ends_there : (m : Material) (code : ℕ) → (side : Side) × (targeted : Bool) × Ends m code (code / ends_of m) side targeted
ends_there m code = let ends = ends_with (has_target m) code in (ends.0, ends.1, record { number_is = ends.2.is; never = ends.2.never })

-- where the row's number spells no men, no code of the row spells a position
pub nothing_in_row : (c n code : ℕ) (p : Setup) → SpellsNoMen (material_of c) n → code / row_len c ≡ n → Spells c code p → ⊥
nothing_in_row c n code p none same spells =
    let ends = ends_there (material_of c) code in
    no_men (material_of c) code (code / row_len c) ends.0 ends.1 p ends.2 (subst (SpellsNoMen (material_of c)) (sym same) none) spells

-- what a position has that a code of the row spells
module _ (c n code : ℕ) (stand : Stand) (p : Setup) (row : code / row_len c ≡ n) (men : SpellsMen (material_of c) n (list_of stand)) (s : Spells c code p) where
  pub list_in_row : SpellsAt c code stand p
  list_in_row =
      let ends = ends_there (material_of c) code in
      record { spells = s; list_is = list_spelled c code n ends.0 ends.1 (list_of stand) p (subst (λ h. Ends (material_of c) code h ends.0 ends.1) row ends.2) men s }

  pub apart_in_row : AllApart (list_of stand)
  unfolding list_in_row
  apart_in_row = fits_apart (list_of stand) (subst FitsBoard (sym list_in_row.list_is) s.apart)

  pub men_on_row : p.men ≡ men_of (list_of stand)
  unfolding list_in_row
  men_on_row = s.men ∙ ap men_of (sym list_in_row.list_is)

  pub stand_in_row : IsSettled p → HasStand c false stand p.side (is_some p.target) p
  stand_in_row settled = record {
    admissible = s.admissible;
    settled = settled;
    is_of = spells_class c code p s;
    stood = stood_spelled c n stand p men apart_in_row s.admissible men_on_row;
    side_is = refl;
    target_is = refl;
  }
