-- The least code over the turns that bring the white king home, which is that over all.
use Rattle.std.proofs.Common.{◌≡◌, ◌≢◌, ℕ, ◌/◌, ◌%◌, ◌<◌, ◌≤◌, ◌⊎◌, not, Bool, true, false, cond, eqb, min, Option}
use Rattle.std.proofs.Common.{Some, None, IfSome, arith, sym, ap, ◌∙◌, inl, inr, subst}
use Rattle.egt_index.specs.Prelude.{cases_eq, cases_lt, false≢true, White, Black, king_of, Stands, Setup, IsAdmissible}
use Rattle.egt_index.specs.Prelude.{KeepsPlay, turned_man, turned_square, material_of, has_equal_sides, IsOf, Spells}
use Rattle.egt_index.specs.Prelude.{Facts, symmetries, AreHome, FlipCode, LeastWith, has_pawns, IsTurn, TurnCode}
use Rattle.egt_index.specs.Prelude.{CodeAfter, Best, BestOf, lesser, IsInColours}
use Rattle.egt_index.proofs.Best.{king_after, none_after}
use Rattle.egt_index.proofs.Classes.{image_in_others, pawns_there}
use Rattle.egt_index.proofs.ImageCodes.{no_pawns}

pub least_at : Facts → (c : ℕ) (p : Setup) (u code t : ℕ) (q : Setup) (other : ℕ) → TurnCode c p u code → t ≡ u → IsTurn t p q → Spells c other q → code ≤ other
least_at facts c p u code t q other after same turn spells =
    after.coded.least other (subst (Spells c other) (facts.once (u % 8) (eqb (u / 8) 1) p q after.image (subst (λ j. IsTurn j p q) same turn).1 after.turned.1) spells)

-- the turns without codes but for one
pub least_of_one : Facts → (c : ℕ) (p : Setup) (flips : Bool) (u : ℕ) (o : Option ℕ) → u < 16 → CodeAfter c p u o
    → ((t : ℕ) → t < 16 → eqb (t / 8) 1 ≡ flips → t ≢ u → CodeAfter c p t None) → LeastWith c p flips o
least_of_one facts c p flips u None u_in after none = λ t q code flips_is t_in turn spells. elim (cases_eq t u) [
  | inl e ↦ after q code (subst (λ j. IsTurn j p q) e turn) spells
  | inr apart ↦ none t t_in flips_is apart q code turn spells
]
least_of_one facts c p flips u (Some code) u_in after none = record {
  turn = u;
  below = u_in;
  image = after.image;
  turned = after.turned;
  spells = after.coded.spells;
  least = λ t q other flips_is t_in turn spells. elim (cases_eq t u) [
    | inl e ↦ least_at facts c p u code t q other after e turn spells
    | inr apart ↦ absurd (none t t_in flips_is apart q other turn spells)
  ];
}

-- or two
pub least_of_two : Facts → (c : ℕ) (p : Setup) (flips : Bool) (u v : ℕ) (a b : Option ℕ) → u < 16 → v < 16 → CodeAfter c p u a → CodeAfter c p v b
    → ((t : ℕ) → t < 16 → eqb (t / 8) 1 ≡ flips → t ≢ u → t ≢ v → CodeAfter c p t None) → LeastWith c p flips (lesser a b)
least_of_two facts c p flips u v a None u_in v_in first second none = least_of_one facts c p flips u a u_in first (λ t t_in flips_is apart q code turn spells. elim (cases_eq t v) [
  | inl e ↦ second q code (subst (λ j. IsTurn j p q) e turn) spells
  | inr other ↦ none t t_in flips_is apart other q code turn spells
])
least_of_two facts c p flips u v None (Some b) u_in v_in first second none = least_of_one facts c p flips v (Some b) v_in second (λ t t_in flips_is apart q code turn spells. elim (cases_eq t u) [
  | inl e ↦ first q code (subst (λ j. IsTurn j p q) e turn) spells
  | inr other ↦ none t t_in flips_is other apart q code turn spells
])
least_of_two facts c p flips u v (Some a) (Some b) u_in v_in first second none = of_less (cases_lt b a)
  where
    both : (t : ℕ) (q : Setup) (other : ℕ) → eqb (t / 8) 1 ≡ flips → t < 16 → IsTurn t p q → Spells c other q → min a b ≤ other
    both t q other flips_is t_in turn spells = elim (cases_eq t u) [
      | inl e ↦ let le = least_at facts c p u a t q other first e turn spells in omega arith
      | inr apart ↦ elim (cases_eq t v) [
        | inl e ↦ let le = least_at facts c p v b t q other second e turn spells in omega arith
        | inr not ↦ absurd (none t t_in flips_is apart not q other turn spells)
      ]
    ]

    of_less : (b < a) ⊎ (a ≤ b) → FlipCode c p flips (min a b)
    of_less (inl lt) = record {
      turn = v;
      below = v_in;
      image = second.image;
      turned = second.turned;
      spells = let same : b ≡ min a b = omega arith in subst (λ n. Spells c n second.image) same second.coded.spells;
      least = both;
    }
    of_less (inr le) = record {
      turn = u;
      below = u_in;
      image = first.image;
      turned = first.turned;
      spells = let same : a ≡ min a b = omega arith in subst (λ n. Spells c n first.image) same first.coded.spells;
      least = both;
    }

-- a symmetry among those of the class keeps play, and no other does
pub keeps_play : (c : ℕ) (flips : Bool) (p : Setup) (n : ℕ) → IsAdmissible p → IsOf c flips p → n < symmetries (has_pawns (material_of c)) → KeepsPlay n p.men
keeps_play c flips p n ok is_of n_in = grind (arith, no_pawns)

pub kept : (c : ℕ) (flips : Bool) (p : Setup) (n : ℕ) → n < 8 → IsOf c flips p → KeepsPlay n p.men → n < symmetries (has_pawns (material_of c))
kept c flips p n n_in is_of keeps = grind (arith, pawns_there)

pub king_is : (flips : Bool) → turned_man flips (king_of White) ≡ king_of (cond flips Black White)
king_is flips = grind arith

-- a turn that does not bring the king home makes nothing that has a code
pub none_away : Facts → (c : ℕ) (p : Setup) (flips : Bool) (king first : ℕ) (second : Option ℕ) → IsAdmissible p → IsOf c flips p → Stands p.men king (turned_man flips (king_of White))
    → AreHome (has_pawns (material_of c)) flips king first second → (t : ℕ) → t < 16 → eqb (t / 8) 1 ≡ flips → t ≢ first → IfSome second (λ u. t ≢ u) → CodeAfter c p t None
none_away facts c p flips king first second ok is_of stands home t t_in flips_is apart others q code turn spells =
    none_after c p t (turned_square (t % 8) flips king)
    (λ r turned. king_after facts p r t king (turned_square (t % 8) flips king) ok turned
    (subst (λ f. Stands p.men king (king_of (cond f Black White))) (sym flips_is) (stands ∙ ap Some (king_is flips)))
    (ap (λ f. turned_square (t % 8) f king) (sym flips_is)))
    (home.none t (record { below = t_in; flips_is = flips_is; keeps = kept c flips p (t % 8) (omega arith) is_of turn.0 }) apart others) q code turn spells

-- in colours that are not the class's there is no code
pub none_in_others : Facts → (c : ℕ) (flipped flips : Bool) (p : Setup) → c < 36 → IsAdmissible p → IsOf c flipped p → (IsInColours c flipped flips → ⊥) → LeastWith c p flips None
none_in_others facts c flipped flips p c_in ok is_of not = λ t q code flips_is t_in turn spells.
    image_in_others facts c flipped p q t code c_in ok is_of turn (λ colours. not (subst (IsInColours c flipped) flips_is colours)) spells

-- the least of all sixteen turns
pub best_of_both : (c : ℕ) (p : Setup) (a b : Option ℕ) → LeastWith c p false a → LeastWith c p true b → Best c p 16 (lesser a b)
best_of_both c p a b straight exchanged = of_codes a b straight exchanged
  where
    told : (t : ℕ) → (eqb (t / 8) 1 ≡ false) ⊎ (eqb (t / 8) 1 ≡ true)
    told t = of_test (eqb (t / 8) 1)
      where
        of_test : (b : Bool) → (b ≡ false) ⊎ (b ≡ true)
        of_test b = grind arith

    best : (code : ℕ) (flips : Bool) → FlipCode c p flips code → ((t : ℕ) (q : Setup) (other : ℕ) → t < 16 → IsTurn t p q → Spells c other q → code ≤ other) → BestOf c p 16 code
    best code flips f least = record { turn = f.turn; below = f.below; image = f.image; turned = f.turned; spells = f.spells; least = least }

    as_min : (code k : ℕ) (flips : Bool) → code ≡ k → FlipCode c p flips code → ((t : ℕ) (q : Setup) (other : ℕ) → t < 16 → IsTurn t p q → Spells c other q → k ≤ other) → BestOf c p 16 k
    as_min code k flips same f least = record { turn = f.turn; below = f.below; image = f.image; turned = f.turned; spells = subst (λ n. Spells c n f.image) same f.spells; least = least }

    of_codes : (a b : Option ℕ) → LeastWith c p false a → LeastWith c p true b → Best c p 16 (lesser a b)
    of_codes None None f g = λ t q code t_in turn spells. elim (told t) [
      | inl e ↦ f t q code e t_in turn spells
      | inr e ↦ g t q code e t_in turn spells
    ]
    of_codes (Some a) None f g = best a false f (λ t q other t_in turn spells. elim (told t) [
      | inl e ↦ f.least t q other e t_in turn spells
      | inr e ↦ absurd (g t q other e t_in turn spells)
    ])
    of_codes None (Some b) f g = best b true g (λ t q other t_in turn spells. elim (told t) [
      | inl e ↦ absurd (f t q other e t_in turn spells)
      | inr e ↦ g.least t q other e t_in turn spells
    ])
    of_codes (Some a) (Some b) f g = elim (cases_lt b a) [
      | inl lt ↦ as_min b (min a b) true (omega arith) g both
      | inr le ↦ as_min a (min a b) false (omega arith) f both
    ]
      where
        both : (t : ℕ) (q : Setup) (other : ℕ) → t < 16 → IsTurn t p q → Spells c other q → min a b ≤ other
        both t q other t_in turn spells = elim (told t) [
          | inl e ↦ let le = f.least t q other e t_in turn spells in omega arith
          | inr e ↦ let le = g.least t q other e t_in turn spells in omega arith
        ]

lesser_either_way : (a b : Option ℕ) → lesser a b ≡ lesser b a
lesser_either_way a b = grind arith

-- the colours in either order
pub best_of_colours : (c : ℕ) (p : Setup) (flipped : Bool) (a b : Option ℕ) → LeastWith c p flipped a → LeastWith c p (not flipped) b → Best c p 16 (lesser a b)
best_of_colours c p false a b own other = best_of_both c p a b own other
best_of_colours c p true a b own other = subst (Best c p 16) (lesser_either_way b a) (best_of_both c p b a other own)

-- where the sides differ the others have no code
pub none_exchanged : Facts → (c : ℕ) (flipped : Bool) (p : Setup) → c < 36 → IsAdmissible p → IsOf c flipped p → has_equal_sides c ≡ false → LeastWith c p (not flipped) None
none_exchanged facts c flipped p c_in ok is_of differ = none_in_others facts c flipped (not flipped) p c_in ok is_of (λ colours. elim colours [
  | inl equal ↦ false≢true (sym differ ∙ equal)
  | inr same ↦ other flipped same
])
  where
    other : (flipped : Bool) → not flipped ≡ flipped → ⊥
    other true e = false≢true e
    other false e = false≢true (sym e)
