-- The least code of all images, turn by turn.
use Rattle.std.proofs.Common.{◌≡◌, ℕ, ◌+◌, ◌/◌, ◌%◌, ◌<◌, ◌≤◌, ◌⊎◌, Bool, true, false, cond, eqb, min, List, [], ◌∷◌}
use Rattle.std.proofs.Common.{Option, Some, None, arith, refl, sym, ap, ◌∙◌, inl, inr, subst}
use Rattle.egt_index.specs.Prelude.{option_map, IsSome, cases_eq, cases_lt, eq-eqb, eqb_tells, White, Black, Man}
use Rattle.egt_index.specs.Prelude.{king_of, Stands, get-remove_same, men_of, Setup, IsAdmissible, IsKingOn, IsSettled}
use Rattle.egt_index.specs.Prelude.{SettlesTo, KeepsPlay, IsTurnedBy, turned_square, turned_man, Material, material_of}
use Rattle.egt_index.specs.Prelude.{IsOf, AreDigits, base_of, men_bases, men_in_order, has_pawns, Spells, square_of}
use Rattle.egt_index.specs.Prelude.{men_at, IsIndex, Least, DigitOf, Fits, IsLeastCode, CodeOf, IsTurn, Best, BestOf}
use Rattle.egt_index.specs.Prelude.{CodeAfter, lesser, Facts, symmetries}
use Rattle.std.specs.FinMap as placement
use Rattle.egt_index.proofs.Listing.{get_here}
use Rattle.egt_index.proofs.Counted.{counted_rest}
use Rattle.egt_index.proofs.Coded.{digits_more, digits_exist, picks_code, stands_before}
use Rattle.egt_index.proofs.ImageCodes.{differ, turned_class, counted_of, target_has_digit, no_pawns}
use Rattle.egt_index.proofs.Kings.{king_turn}

-- the board without the white king
pub fits_rest : (p : Setup) (s : ℕ) → IsAdmissible p → IsKingOn p.men White s → Fits (placement.remove p.men s)
fits_rest p s ok king = grind (arith, stands_before, get-remove_same)

pub least_king : (p : Setup) (s : ℕ) → IsKingOn p.men White s → Least p.men (king_of White) s
least_king p s king = record { stands = king.stands; least = λ t lt stands. let same = king.only t stands in omega arith }

-- the white king's digit begins the code
pub code_found : (c : ℕ) (p : Setup) (s : ℕ) → IsAdmissible p → IsSettled p → IsOf c false p → IsKingOn p.men White s → DigitOf (has_pawns (material_of c)) (king_of White) s → (code : ℕ) × IsLeastCode c p code
code_found c p s ok settled is_of king digit =
    let counted = counted_of c p is_of in
    let s_in = ok.on_board s (king_of White) king.stands in
    let all = digits_more (has_pawns m) p.men (king_of White) rest s s_in (least_king p s king) digit
    (digits_exist (has_pawns m) (placement.remove p.men s) rest (fits_rest p s ok king) (counted_rest p.men (king_of White) rest s s_in king.stands counted)) in
    (_, picks_code c p all.digits ok counted (target_has_digit c p ok settled is_of) all.are all.picks)
  where
    m : Material
    m = material_of c

    rest : List Man
    rest = rest_of (men_in_order m)
      where
        rest_of : List Man → List Man
        rest_of [] = []
        rest_of (man ∷ men) = men

-- without one there is no code
pub code_missing : (c : ℕ) (p : Setup) (s : ℕ) → IsKingOn p.men White s → ((d : ℕ) → d < base_of (has_pawns (material_of c)) (king_of White) → square_of (has_pawns (material_of c)) (king_of White) d ≡ s → ⊥)
    → (code : ℕ) → Spells c code p → ⊥
code_missing c p s king none code spells = of_digits spells.digits spells.are_digits spells.men
  where
    m : Material
    m = material_of c

    of_digits : (digits : List ℕ) → AreDigits (men_bases m) digits → p.men ≡ men_of (men_at m digits) → ⊥
    of_digits [] are is = are
    of_digits (d ∷ ds) are is =
        none d are.0 (king.only _ (ap (λ men. placement.get men (square_of (has_pawns m) (king_of White) d)) is ∙ get_here (king_of White, square_of (has_pawns m) (king_of White) d) _ _ refl))

pub best_none : (c : ℕ) (p : Setup) → Best c p 0 None
best_none c p t q code t_in turn spells = omega arith

-- one more turn: none of its images has a code
pub best_same : (c : ℕ) (p : Setup) (k : ℕ) (o : Option ℕ) → Best c p k o → ((q : Setup) (code : ℕ) → IsTurn k p q → Spells c code q → ⊥) → Best c p (k + 1) o
best_same c p k None best none = λ t q code t_in turn spells. elim (cases_eq t k) [
  | inl e ↦ none q code (subst (λ j. IsTurn j p q) e turn) spells
  | inr other ↦ best t q code (omega arith) turn spells
]
best_same c p k (Some code) best none = record {
  turn = best.turn;
  below = let lt = best.below in omega arith;
  image = best.image;
  turned = best.turned;
  spells = best.spells;
  least = λ t q other t_in turn spells. elim (cases_eq t k) [
    | inl e ↦ absurd (none q other (subst (λ j. IsTurn j p q) e turn) spells)
    | inr apart ↦ best.least t q other (omega arith) turn spells
  ];
}

-- or its image has one
pub best_more : Facts → (c : ℕ) (p : Setup) (k : ℕ) (o : Option ℕ) (q : Setup) (code least : ℕ) → Best c p k o → IsTurn k p q → IsLeastCode c q code
    → ((o ≡ None) × (least ≡ code)) ⊎ ((l : ℕ) × (o ≡ Some l) × (least ≡ min l code)) → Best c p (k + 1) (Some least)
best_more facts c p k o q code least best turn coded (inl h) = record {
  turn = k;
  below = omega arith;
  image = q;
  turned = turn;
  spells = subst (λ n. Spells c n q) (sym h.1) coded.spells;
  least = λ t r other t_in turned spells. elim (cases_eq t k) [
    | inl e ↦
        let same = facts.once (k % 8) (eqb (k / 8) 1) p r q (subst (λ j. IsTurn j p r) e turned).1 turn.1 in
        let le = coded.least other (subst (λ x. Spells c other x) same spells) in let is = h.1 in omega arith
    | inr apart ↦ absurd (let none = subst (Best c p k) h.0 best in none t r other (omega arith) turned spells)
  ];
}
best_more facts c p k o q code least best turn coded (inr h) = of_less (cases_lt code h.0)
  where
    before : BestOf c p k h.0
    before = subst (Best c p k) h.1 best

    both : (t : ℕ) (r : Setup) (other : ℕ) → t < k + 1 → IsTurn t p r → Spells c other r → least ≤ other
    both t r other t_in turned spells = elim (cases_eq t k) [
      | inl e ↦
          let same = facts.once (k % 8) (eqb (k / 8) 1) p r q (subst (λ j. IsTurn j p r) e turned).1 turn.1 in
          let le = coded.least other (subst (λ x. Spells c other x) same spells) in let is = h.2 in omega arith
      | inr apart ↦ let le = before.least t r other (omega arith) turned spells in let is = h.2 in omega arith
    ]

    of_less : (code < h.0) ⊎ (h.0 ≤ code) → BestOf c p (k + 1) least
    of_less (inl lt) = record {
      turn = k;
      below = omega arith;
      image = q;
      turned = turn;
      spells = let is = h.2 in let same : code ≡ least = omega arith in subst (λ n. Spells c n q) same coded.spells;
      least = both;
    }
    of_less (inr le) = record {
      turn = before.turn;
      below = let lt = before.below in omega arith;
      image = before.image;
      turned = before.turned;
      spells = let is = h.2 in let same : h.0 ≡ least = omega arith in subst (λ n. Spells c n before.image) same before.spells;
      least = both;
    }

-- each turn has a number below sixteen
pub turn_number : (n : ℕ) (flipped : Bool) → n < 8 → (t : ℕ) × (t < 16) × (t % 8 ≡ n) × (eqb (t / 8) 1 ≡ flipped)
turn_number n false n_in = (n, omega arith, omega arith, not_one)
  where
    not_one : eqb (n / 8) 1 ≡ false
    not_one = elim (eqb_tells (n / 8) 1) [ inl h ↦ absurd (let e = h.1 in omega arith) | inr h ↦ h.0 ]
turn_number n true n_in = (n + 8, omega arith, omega arith, eq-eqb ((n + 8) / 8) 1 (omega arith))

pub turn_of : (n : ℕ) (flipped : Bool) (p q : Setup) (t : ℕ) → t % 8 ≡ n → eqb (t / 8) 1 ≡ flipped → KeepsPlay n p.men → IsTurnedBy n flipped p q → IsTurn t p q
turn_of n flipped p q t number flips keeps turned = grind arith

-- the least code of all sixteen is the index
pub index_found : Facts → (c : ℕ) (p s : Setup) (code : ℕ) → IsAdmissible s → SettlesTo p s → Best c s 16 (Some code) → IsIndex c p code
index_found facts c p s code ok settles best = record {
  settled = s;
  settles = settles;
  image = best.image;
  images = facts.images s best.image (best.turn % 8) (eqb (best.turn / 8) 1) ok (omega arith) best.turned.0 best.turned.1;
  spells = best.spells;
  least = λ other n images spells.
      let turn = facts.turns s other ok images in
      let number = turn_number turn.0 turn.1 turn.2 in
      best.least number.0 other n number.1 (turn_of turn.0 turn.1 s other number.0 number.2 number.3 turn.3 turn.4) spells;
}

-- and there is one
pub index_there : Facts → (c : ℕ) (flipped : Bool) (s : Setup) → IsAdmissible s → IsSettled s → IsOf c flipped s → Best c s 16 None → ⊥
index_there facts c flipped s ok settled is_of best = of_king (king_there flipped)
  where
    m : Material
    m = material_of c

    king_there : (flipped : Bool) → (k : ℕ) × Stands s.men k (king_of (cond flipped Black White))
    king_there true = (ok.kings.black, ok.kings.black_there.stands)
    king_there false = (ok.kings.white, ok.kings.white_there.stands)

    keeps : (pawns : Bool) → has_pawns m ≡ pawns → (n : ℕ) → n < symmetries pawns → KeepsPlay n s.men × (n < 8)
    keeps pawns is n n_in = grind (arith, no_pawns)

    becomes : (flipped : Bool) → turned_man flipped (king_of (cond flipped Black White)) ≡ king_of White
    becomes flipped = grind arith

    cancels : (flipped : Bool) → differ flipped flipped ≡ false
    cancels flipped = grind arith

    of_king : (k : ℕ) × Stands s.men k (king_of (cond flipped Black White)) → ⊥
    of_king king =
        let k_in = ok.on_board king.0 _ king.1 in
        let turn = king_turn (has_pawns m) flipped king.0 k_in in
        let kept = keeps (has_pawns m) refl turn.turn turn.below in
        let made = facts.made turn.turn flipped s ok in
        let images = facts.images s made.0 turn.turn flipped ok kept.1 kept.0 made.1 in
        let admissible = facts.admissible s made.0 ok images in
        let set = facts.set turn.turn flipped s made.0 ok made.1 in
        let stands : Stands made.0.men (turned_square turn.turn flipped king.0) (king_of White) =
        set.men king.0 k_in ∙ ap (option_map (turned_man flipped)) king.1 ∙ ap Some (becomes flipped) in
        let there = admissible.kings.white_there in
        let square : turned_square turn.turn flipped king.0 ≡ admissible.kings.white = there.only _ stands in
        let is_class = subst (λ f. IsOf c f made.0) (cancels flipped) (turned_class facts c flipped flipped turn.turn s made.0 ok kept.1 kept.0 made.1 is_of) in
        let code = code_found c made.0 admissible.kings.white admissible ((facts.settled s made.0 ok images).0 settled) is_class there
        (record { digit = turn.digit; below = turn.digit_below; is = turn.is ∙ square }) in
        let number = turn_number turn.turn flipped kept.1 in
        best number.0 made.0 code.0 number.1 (turn_of turn.turn flipped s made.0 number.0 number.2 number.3 kept.0 made.1) code.1.spells

-- the code of the one image that a turn makes
pub after_turn : Facts → (c : ℕ) (p q : Setup) (t : ℕ) (o : Option ℕ) → IsTurn t p q → CodeOf c q o → CodeAfter c p t o
after_turn facts c p q t None turn coded = λ r code turned spells. coded code (subst (λ x. Spells c code x) (facts.once (t % 8) (eqb (t / 8) 1) p r q turned.1 turn.1) spells)
after_turn facts c p q t (Some code) turn coded = record { image = q; turned = turn; coded = coded }

pub best_after : Facts → (c : ℕ) (p : Setup) (k : ℕ) (o code : Option ℕ) → Best c p k o → CodeAfter c p k code → Best c p (k + 1) (lesser o code)
best_after facts c p k o None best none = best_same c p k o best none
best_after facts c p k None (Some code) best after = best_more facts c p k None after.image code code best after.turned after.coded (inl (refl, refl))
best_after facts c p k (Some least) (Some code) best after = best_more facts c p k (Some least) after.image code (min least code) best after.turned after.coded (inr (least, refl, refl))

pub best_at_last : Facts → (c : ℕ) (flipped : Bool) (s : Setup) (o : Option ℕ) → IsAdmissible s → IsSettled s → IsOf c flipped s → Best c s 16 o → IsSome o
best_at_last facts c flipped s o ok settled is_of best = grind (arith, index_there)

-- the king that a turn makes white
pub king_after : Facts → (p q : Setup) (t k s : ℕ) → IsAdmissible p → IsTurn t p q → Stands p.men k (king_of (cond (eqb (t / 8) 1) Black White)) → s ≡ turned_square (t % 8) (eqb (t / 8) 1) k → IsKingOn q.men White s
king_after facts p q t k s ok turn king is = subst (IsKingOn q.men White) (sym (is ∙ there.only _ stands)) there
  where
    becomes : (flipped : Bool) → turned_man flipped (king_of (cond flipped Black White)) ≡ king_of White
    becomes true = refl
    becomes false = refl

    admissible : IsAdmissible q
    admissible = facts.admissible p q ok (facts.images p q (t % 8) (eqb (t / 8) 1) ok (omega arith) turn.0 turn.1)

    there : IsKingOn q.men White admissible.kings.white
    there = admissible.kings.white_there

    stands : Stands q.men (turned_square (t % 8) (eqb (t / 8) 1) k) (king_of White)
    stands =
        (facts.set (t % 8) (eqb (t / 8) 1) p q ok turn.1).men k (ok.on_board k (king_of (cond (eqb (t / 8) 1) Black White)) king)
        ∙ ap (option_map (turned_man (eqb (t / 8) 1))) king ∙ ap Some (becomes (eqb (t / 8) 1))

-- a turn after which the white king has no digit makes nothing that has a code
pub none_after : (c : ℕ) (p : Setup) (t s : ℕ) → ((q : Setup) → IsTurn t p q → IsKingOn q.men White s)
    → ((d : ℕ) → d < base_of (has_pawns (material_of c)) (king_of White) → square_of (has_pawns (material_of c)) (king_of White) d ≡ s → ⊥) → CodeAfter c p t None
none_after c p t s king none = λ q code turn spells. code_missing c q s (king q turn) none code spells
