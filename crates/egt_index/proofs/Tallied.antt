-- The men of a class in order are those that its sides have.
use Rattle.std.proofs.Common.{◌≡◌, ℕ, ◌+◌, false, cond, eqb, List, [], ◌∷◌, ◌++◌, map, count_by, arith, refl, sym, ap}
use Rattle.std.proofs.Common.{◌∙◌}
use Rattle.egt_index.specs.Prelude.{eq-eqb, eqb_tells, sum_by-cons, sum_by-append, Side, White, Black, Kind, K, Man}
use Rattle.egt_index.specs.Prelude.{side_number, Material, material_of, is_kind, kinds_of, men_in, men_in_order, man_of}
use Rattle.egt_index.specs.Prelude.{is_man, tally}
use Rattle.egt_board.proofs.Sides.{kind_few}

-- equal tests of what is equal alike
pub tests_alike : (a b x y : ℕ) → (a ≡ b → x ≡ y) → (x ≡ y → a ≡ b) → eqb a b ≡ eqb x y
tests_alike a b x y there back = grind (arith, eqb_tells, eq-eqb)

same_side : (side : Side) (k other : Kind) → is_man (man_of side k) (man_of side other) ≡ is_kind k other
same_side side k other = grind (arith, tests_alike)

apart_of : (side other : Side) (k l : Kind) → (side_number side ≡ side_number other → ⊥) → is_man (man_of side k) (man_of other l) ≡ false
apart_of side other k l differ = grind (arith, eqb_tells, kind_few)

own : (side : Side) (k : Kind) (kinds : List Kind) → tally (man_of side k) (map (man_of side) kinds) ≡ count_by (is_kind k) kinds
own side k [] = refl
own side k (other ∷ kinds) =
    sum_by-cons (λ x. cond {A = ℕ} (is_man (man_of side k) x) 1 0) (man_of side other) (map (man_of side) kinds)
    ∙ add_same (ap (λ b. cond {A = ℕ} b 1 0) (same_side side k other)) (own side k kinds)
    ∙ sym (sum_by-cons (λ x. cond {A = ℕ} (is_kind k x) 1 0) other kinds)
  where
    add_same : {a b x y : ℕ} → a ≡ b → x ≡ y → a + x ≡ b + y
    add_same e f = omega arith

others : (side other : Side) (k : Kind) (kinds : List Kind) → (side_number side ≡ side_number other → ⊥) → tally (man_of side k) (map (man_of other) kinds) ≡ 0
others side other k [] differ = refl
others side other k (l ∷ kinds) differ =
    let is = sum_by-cons (λ x. cond {A = ℕ} (is_man (man_of side k) x) 1 0) (man_of other l) (map (man_of other) kinds) in
    let none = ap (λ b. cond {A = ℕ} b 1 0) (apart_of side other k l differ) in
    let rest = others side other k kinds differ in omega arith

pub tallied : (m : Material) (side : Side) (k : Kind) → tally (man_of side k) (men_in_order m) ≡ count_by (is_kind k) (kinds_of m side)
tallied m side k = of_side side
  where
    split : (side : Side) → tally (man_of side k) (men_in_order m)
        ≡ cond {A = ℕ} (is_man (man_of side k) (man_of White K)) 1 0 + (cond {A = ℕ} (is_man (man_of side k) (man_of Black K)) 1 0 + (tally (man_of side k) (map (man_of White) m.strong) + tally (man_of side k) (map (man_of Black) m.weak)))
    split side =
        let f : Man → ℕ = λ x. cond {A = ℕ} (is_man (man_of side k) x) 1 0 in
        let rest = map (man_of White) m.strong ++ map (man_of Black) m.weak in
        let first = sum_by-cons f (man_of White K) (man_of Black K ∷ rest) in
        let second = sum_by-cons f (man_of Black K) rest in
        let both = sum_by-append f (map (man_of White) m.strong) (map (man_of Black) m.weak) in omega arith

    of_side : (side : Side) → tally (man_of side k) (men_in_order m) ≡ count_by (is_kind k) (kinds_of m side)
    of_side White =
        let all = split White in
        let king = ap (λ b. cond {A = ℕ} b 1 0) (same_side White k K) in
        let other = ap (λ b. cond {A = ℕ} b 1 0) (apart_of White Black k K (λ e. omega arith)) in
        let mine = own White k m.strong in
        let theirs = others White Black k m.weak (λ e. omega arith) in
        let sum = sum_by-cons (λ x. cond {A = ℕ} (is_kind k x) 1 0) K m.strong in omega arith
    of_side Black =
        let all = split Black in
        let king = ap (λ b. cond {A = ℕ} b 1 0) (same_side Black k K) in
        let other = ap (λ b. cond {A = ℕ} b 1 0) (apart_of Black White k K (λ e. omega arith)) in
        let mine = own Black k m.weak in
        let theirs = others Black White k m.strong (λ e. omega arith) in
        let sum = sum_by-cons (λ x. cond {A = ℕ} (is_kind k x) 1 0) K m.weak in omega arith

-- so they are in the class
pub in_class : (c : ℕ) (man : Man) → tally man (men_in_order (material_of c)) ≡ men_in c man.side man.kind
unfolding men_in
in_class c man = tallied (material_of c) man.side man.kind
