-- Counts of men that agree at every man but the kings.
use Rattle.std.proofs.Common.{◌≡◌, ◌≢◌, ℕ, Bool, true, false, eqb, List, [], ◌∷◌, refl, ap, ◌∙◌, arith}
use Rattle.egt_class.specs.Prelude.{eq-eqb, eqb-true, Side, Kind, K, Man, men_beside, agree_at, man_of}

abbrev Agree : List Man → (Man → ℕ) → (Man → ℕ) → Type 0
Agree [] f g = Unit {0}
Agree (man ∷ men) f g = (f man ≡ g man) × Agree men f g

and_so : Bool → Bool → Bool
and_so b rest = elim b [ true ↦ rest | false ↦ false ]

told_first : (b rest : Bool) → and_so b rest ≡ true → b ≡ true
unfolding and_so
told_first b rest told = grind arith

told_rest : (b rest : Bool) → and_so b rest ≡ true → rest ≡ true
unfolding and_so
told_rest b rest told = grind arith

agree-told : (men : List Man) (f g : Man → ℕ) → agree_at men f g ≡ true → Agree men f g
unfolding and_so
agree-told [] f g told = tt
agree-told (man ∷ men) f g told =
    (eqb-true (f man) (g man) (told_first (eqb (f man) (g man)) (agree_at men f g) told), agree-told men f g (told_rest (eqb (f man) (g man)) (agree_at men f g) told))

-- every man but a king is among those that are compared
pub all_agree : (f g : Man → ℕ) → agree_at men_beside f g ≡ true → (side : Side) (kind : Kind) → kind ≢ K → f (man_of side kind) ≡ g (man_of side kind)
all_agree f g told side kind beside = grind arith

-- counts that are the same agree
agree-same : (men : List Man) (f g : Man → ℕ) → Agree men f g → agree_at men f g ≡ true
agree-same [] f g same = refl
agree-same (man ∷ men) f g same =
    ap (λ b. elim b [ true ↦ agree_at men f g | false ↦ false ]) (eq-eqb (f man) (g man) same.0) ∙ agree-same men f g same.1

pub same_agree : (f g : Man → ℕ) → ((man : Man) → f man ≡ g man) → agree_at men_beside f g ≡ true
same_agree f g same = grind (arith, agree-same, men_beside)
