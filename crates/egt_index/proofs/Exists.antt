-- Each position of a class has one index, and positions have one index where they settle to images of one another.
use Rattle.std.proofs.Common.{◌≡◌, ◌≢◌, ℕ, zero, suc, ◌+◌, ◌/◌, ◌%◌, ◌<◌, ◌⊎◌, Bool, true, false, eqb, Option, Some}
use Rattle.std.proofs.Common.{None, arith, refl, sym, inl, inr, subst}
use Rattle.egt_index.specs.Prelude.{cases_eq, White, king_of, Setup, IsAdmissible, IsSettled, SettlesTo, KeepsPlay}
use Rattle.egt_index.specs.Prelude.{AreImages, Decided, decided_eq, some_or_none_below, material_of, IsOf, size_of}
use Rattle.egt_index.specs.Prelude.{base_of, has_pawns, Spells, square_of, Facts, IsIndex, SettleAlike, CodeOf, Best}
use Rattle.egt_index.specs.Prelude.{CodeAfter, lesser}
use Rattle.egt_index.proofs.Best.{code_found, code_missing, after_turn, best_none, best_after, index_found, index_there}
use Rattle.egt_index.proofs.Classes.{pawns_there, spells_class}
use Rattle.egt_index.proofs.Coding.{code_below}
use Rattle.egt_index.proofs.OnePosition.{spells_once}
use Rattle.egt_index.proofs.ImageCodes.{no_pawns, settled_class}

code_told : (c : ℕ) (p : Setup) → IsAdmissible p → IsSettled p → IsOf c false p → (o : Option ℕ) × CodeOf c p o
code_told c p ok settled is_of = elim (some_or_none_below (λ d. square_of (has_pawns (material_of c)) (king_of White) d ≡ ok.kings.white) (λ d. decided_eq _ _) (base_of (has_pawns (material_of c)) (king_of White))) [
  | inl found ↦ let code = code_found c p ok.kings.white ok settled is_of ok.kings.white_there (record { digit = found.0; below = found.1; is = found.2 }) in (Some code.0, code.1)
  | inr none ↦ (None, code_missing c p ok.kings.white ok.kings.white_there none)
]

in_colours : Facts → (c : ℕ) (p : Setup) → c < 36 → IsAdmissible p → Decided (IsOf c false p)
in_colours facts c p c_in ok = grind (arith, cases_eq)

after_told : Facts → (c : ℕ) (flipped : Bool) (s : Setup) (t : ℕ) → c < 36 → IsAdmissible s → IsSettled s → IsOf c flipped s → (o : Option ℕ) × CodeAfter c s t o
after_told facts c flipped s t c_in ok settled is_of = of_pawns (has_pawns (material_of c)) refl (cases_eq ((t % 8) / 2) 0)
  where
    kept : KeepsPlay (t % 8) s.men → (o : Option ℕ) × CodeAfter c s t o
    kept keeps =
        let made = facts.made (t % 8) (eqb (t / 8) 1) s ok in
        let images = facts.images s made.0 (t % 8) (eqb (t / 8) 1) ok (omega arith) keeps made.1 in
        let admissible = facts.admissible s made.0 ok images in
        elim (in_colours facts c made.0 c_in admissible) [
          | inl is ↦ let code = code_told c made.0 admissible ((facts.settled s made.0 ok images).0 settled) is in (code.0, after_turn facts c s made.0 t code.0 (keeps, made.1) code.1)
          | inr not ↦ (None, λ q code turn spells. not (spells_class c code made.0 (subst (Spells c code) (facts.once (t % 8) (eqb (t / 8) 1) s q made.0 turn.1 made.1) spells)))
        ]

    of_pawns : (b : Bool) → has_pawns (material_of c) ≡ b → ((t % 8) / 2 ≡ 0) ⊎ ((t % 8) / 2 ≢ 0) → (o : Option ℕ) × CodeAfter c s t o
    of_pawns b is (inl low) = kept (inr (omega arith))
    of_pawns false is (inr high) = kept (inl (no_pawns c flipped s ok is_of is))
    of_pawns true is (inr high) = (None, λ q code turn spells. elim turn.0 [ inl none ↦ pawns_there c flipped s is_of is none | inr lt ↦ high (omega arith) ])

best_told : Facts → (c : ℕ) (flipped : Bool) (s : Setup) (k : ℕ) → c < 36 → IsAdmissible s → IsSettled s → IsOf c flipped s → (o : Option ℕ) × Best c s k o
best_told facts c flipped s zero c_in ok settled is_of = (None, best_none c s)
best_told facts c flipped s (suc k) c_in ok settled is_of =
    let rest = best_told facts c flipped s k c_in ok settled is_of in
    let code = after_told facts c flipped s k c_in ok settled is_of in
    (lesser rest.0 code.0, subst (λ n. Best c s n (lesser rest.0 code.0)) (add_one k) (best_after facts c s k rest.0 code.0 rest.1 code.1))
  where
    add_one : (k : ℕ) → k + 1 ≡ suc k
    add_one k = omega arith

-- each position of a class has an index
pub index_exists : Facts → (p : Setup) (c : ℕ) (flipped : Bool) → c < 36 → IsAdmissible p → IsOf c flipped p → (i : ℕ) × IsIndex c p i
index_exists facts p c flipped c_in ok is_of = of_best (best_told facts c flipped settled.0 16 c_in admissible is_settled is_class)
  where
    settled : (q : Setup) × SettlesTo p q
    settled = facts.settles p

    admissible : IsAdmissible settled.0
    admissible = facts.settled_admissible p settled.0 ok settled.1

    is_settled : IsSettled settled.0
    is_settled = facts.is_settled p settled.0 settled.1

    is_class : IsOf c flipped settled.0
    is_class = settled_class facts c flipped p settled.0 settled.1 is_of

    of_option : (o : Option ℕ) → Best c settled.0 16 o → (i : ℕ) × IsIndex c p i
    of_option None best = absurd (index_there facts c flipped settled.0 admissible is_settled is_class best)
    of_option (Some code) best = (code, index_found facts c p settled.0 code admissible settled.1 best)

    of_best : (o : Option ℕ) × Best c settled.0 16 o → (i : ℕ) × IsIndex c p i
    of_best best = of_option best.0 best.1

pub index_below : (p : Setup) (c i : ℕ) → IsIndex c p i → i < size_of c
index_below p c i index = code_below c i index.image index.spells

-- positions that settle to images of one another have one index
pub alike_same : Facts → (p q : Setup) (c i j : ℕ) → IsAdmissible p → IsAdmissible q → IsIndex c p i → IsIndex c q j → SettleAlike p q → i ≡ j
alike_same facts p q c i j ok ok' index other alike =
    let here = facts.settles_once p index.settled alike.here index.settles alike.settles_here in
    let there = facts.settles_once q other.settled alike.there other.settles alike.settles_there in
    let between : AreImages index.settled other.settled = subst (λ x. AreImages x other.settled) (sym here) (subst (AreImages alike.here) (sym there) alike.images) in
    let admissible = facts.settled_admissible p index.settled ok index.settles in
    let back = facts.back index.settled other.settled admissible between in
    let le = index.least other.image j (facts.on index.settled other.settled other.image between other.images) other.spells in
    let ge = other.least index.image i (facts.on other.settled index.settled index.image back index.images) index.spells in omega arith

pub same_alike : Facts → (p q : Setup) (c i j : ℕ) → IsAdmissible p → IsAdmissible q → IsIndex c p i → IsIndex c q j → i ≡ j → SettleAlike p q
same_alike facts p q c i j ok ok' index other same =
    let one = spells_once c j index.image other.image (subst (λ n. Spells c n index.image) same index.spells) other.spells in
    let admissible = facts.settled_admissible q other.settled ok' other.settles in
    record {
      here = index.settled;
      there = other.settled;
      settles_here = index.settles;
      settles_there = other.settles;
      images = facts.on index.settled index.image other.settled index.images (subst (λ x. AreImages x other.settled) (sym one) (facts.back other.settled other.image admissible other.images));
    }

-- the position that an index spells has that index, and is an image of each settled position that has it
pub index_spelled : Facts → (p q : Setup) (c i : ℕ) → IsAdmissible p → IsIndex c p i → Spells c i q → IsIndex c q i
index_spelled facts p q c i ok index spells = subst (λ x. IsIndex c x i) (spells_once c i index.image q index.spells spells) (record {
  settled = index.image;
  settles = inl (is_settled, refl);
  image = index.image;
  images = facts.same index.image;
  spells = index.spells;
  least = λ other code images spells. index.least other code (facts.on index.settled index.image other index.images images) spells;
})
  where
    admissible : IsAdmissible index.settled
    admissible = facts.settled_admissible p index.settled ok index.settles

    is_settled : IsSettled index.image
    is_settled = (facts.settled index.settled index.image admissible index.images).0 (facts.is_settled p index.settled index.settles)

-- what an index spells is settled
pub index_settled : Facts → (p q : Setup) (c i : ℕ) → IsAdmissible p → IsIndex c p i → Spells c i q → IsSettled q
index_settled facts p q c i ok index spells =
    subst IsSettled (spells_once c i index.image q index.spells spells)
    ((facts.settled index.settled index.image (facts.settled_admissible p index.settled ok index.settles) index.images).0 (facts.is_settled p index.settled index.settles))

pub one_index : Facts → (p : Setup) (c i j : ℕ) → IsAdmissible p → IsIndex c p i → IsIndex c p j → i ≡ j
one_index facts p c i j ok index other =
    alike_same facts p p c i j ok ok index other
    (record { here = index.settled; there = index.settled; settles_here = index.settles; settles_there = index.settles; images = facts.same index.settled })
