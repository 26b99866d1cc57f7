-- A man attacks the squares from which it is attacked: of a pawn the enemy's attacks his.
use Rattle.std.proofs.Common.{◌≡◌, ◌≢◌, ◌↔◌, ◌⊎◌, ℕ, ◌-◌, ◌<◌, min, arith, refl, sym, ap, ◌∙◌, inl, inr, subst}
use Rattle.egt_index.specs.Prelude.{bit_at, cases_eq, bit_at-lt, Man, IsAttacked, Reaches, Reaches-free, other_side}
use Rattle.egt_index.specs.Prelude.{facing, Placement, Stands, IsFree, get-insert_same, get-insert_other, one_man}
use Rattle.egt_index.specs.Prelude.{IsKeptFrom, PassesOver, attacks_back, sides_differ, man_of}
use Rattle.std.specs.FinMap as map

-- which squares are free does not hang on which man comes
free_alike : (men : Placement) (t u : ℕ) (a b : Man) → IsFree (map.insert men t a) u → IsFree (map.insert men t b) u
free_alike men t u a b free = grind (arith, cases_eq, get-insert_same, get-insert_other)

-- a man comes to t: his side attacks a square where it would without him, with a man of the other side on t, or where he does
module _ (men : Placement) (man : Man) (t to : ℕ) where
  abbrev enemy : Man
  enemy = man_of (other_side man.side) man.kind

  his_or_theirs : IsAttacked (map.insert men t man) to man.side → IsAttacked (map.insert men t enemy) to man.side ⊎ Reaches (IsFree (map.insert men t man)) man t to
  his_or_theirs attacked = elim (cases_eq attacked.from t) [
    | inl e ↦
        let same : attacked.man ≡ man = one_man (map.insert men t man) t attacked.man man (subst (λ s. Stands (map.insert men t man) s attacked.man) e attacked.stands) (get-insert_same men t man t refl) in
        inr (subst (λ m. Reaches (IsFree (map.insert men t man)) m t to) same (subst (λ s. Reaches (IsFree (map.insert men t man)) attacked.man s to) e attacked.reaches))
    | inr other ↦ inl (record {
      from = attacked.from;
      man = attacked.man;
      stands = get-insert_other men t enemy attacked.from other ∙ sym (get-insert_other men t man attacked.from other) ∙ attacked.stands;
      theirs = attacked.theirs;
      reaches = Reaches-free (IsFree (map.insert men t man)) (IsFree (map.insert men t enemy)) attacked.man attacked.from to (λ u u_in. free_alike men t u man enemy) attacked.reaches;
    })
  ]

  by_him : Reaches (IsFree (map.insert men t man)) man t to → IsAttacked (map.insert men t man) to man.side
  by_him reaches = record { from = t; man = man; stands = get-insert_same men t man t refl; theirs = refl; reaches = reaches }

  by_theirs : IsAttacked (map.insert men t enemy) to man.side → IsAttacked (map.insert men t man) to man.side
  by_theirs attacked = elim (cases_eq attacked.from t) [
    | inl e ↦
        let same : attacked.man ≡ enemy = one_man (map.insert men t enemy) t attacked.man enemy (subst (λ s. Stands (map.insert men t enemy) s attacked.man) e attacked.stands) (get-insert_same men t enemy t refl) in
        absurd (sides_differ man.side (sym attacked.theirs ∙ ap (λ (m : Man). m.side) same))
    | inr other ↦ record {
      from = attacked.from;
      man = attacked.man;
      stands = get-insert_other men t man attacked.from other ∙ sym (get-insert_other men t enemy attacked.from other) ∙ attacked.stands;
      theirs = attacked.theirs;
      reaches = Reaches-free (IsFree (map.insert men t enemy)) (IsFree (map.insert men t man)) attacked.man attacked.from to (λ u u_in. free_alike men t u enemy man) attacked.reaches;
    }
  ]

  -- so the squares are those on which the others leave it unattacked, without those from which he attacks it
  pub kept_own : PassesOver → t < 64 → to < 64 → (kept attacking occupied without : ℕ) → ((newcomer : Man) → newcomer.side ≢ man.side → (bit_at kept t ≡ 1) ↔ IsKeptFrom men t newcomer to man.side)
      → ((bit_at attacking t ≡ 1) ↔ Reaches (λ u. bit_at occupied u ≡ 0) (facing man) to t) → ((u : ℕ) → (bit_at occupied u ≡ 0) ↔ IsFree men u) → bit_at without t ≡ min (bit_at kept t) (1 - bit_at attacking t)
      → (bit_at without t ≡ 1) ↔ IsKeptFrom men t man to man.side
  kept_own law t_in to_in kept attacking occupied without theirs his free is = (there, back)
    where
      differ : enemy.side ≢ man.side
      differ e = sides_differ man.side (sym e)

      attacks : (bit_at attacking t ≡ 1) ↔ Reaches (IsFree (map.insert men t man)) man t to
      attacks =
          let turned = attacks_back men man t to law t_in to_in in (
            λ one. turned.0 (Reaches-free (λ u. bit_at occupied u ≡ 0) (IsFree men) (facing man) to t (λ u u_in. (free u).0) (his.0 one)),
            λ r. his.1 (Reaches-free (IsFree men) (λ u. bit_at occupied u ≡ 0) (facing man) to t (λ u u_in. (free u).1) (turned.1 r)),
          )

      there : bit_at without t ≡ 1 → IsKeptFrom men t man to man.side
      there one attacked = elim (his_or_theirs attacked) [
        | inl others ↦ (theirs enemy differ).0 (let few = bit_at-lt kept t in omega arith) others
        | inr reaches ↦ let hit = attacks.1 reaches in absurd (omega arith)
      ]

      back : IsKeptFrom men t man to man.side → bit_at without t ≡ 1
      back safe = grind (arith, bit_at, differ, by_theirs, cases_eq, by_him, attacks, bit_at-lt)
