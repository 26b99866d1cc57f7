-- Entries of the nearest mates that are due to the greatest scores of all moves keep the rules.
use Rattle.std.proofs.Common.{◌≡◌, ◌≢◌, ℕ, zero, suc, ◌+◌, ◌<◌, ◌≤◌, ◌⊎◌, List, Option, Some, None, arith, refl, sym}
use Rattle.std.proofs.Common.{ap, ◌∙◌, inl, inr, subst, slice_index}
use Rattle.egt_check.specs.Prelude.{get_or-map, nat_tests, Setup, Spells, IsVoid, byte_score, reach_due_score}
use Rattle.egt_check.specs.Prelude.{reach_score, NoMove, chess, Move, TableValue, entries_or_none, Mate, Facts}
use Rattle.egt_check.specs.Prelude.{AreGiven, HasScores, IsKnown, near_entry, near_if, near_of, near_table, near_tables}
use Rattle.egt_check.specs.Prelude.{FitsReachBeside, HasReachEntry, ShowsReachOf, reach_entry_of, IsJudgedBy}
use Rattle.egt_check.specs.Prelude.{KeepsReach, IsAtEnd, HasEntry, Tables, entry_at, reach_at}
use Rattle.egt_entries.specs.declared.rule.Rule.TheVariants as rules
use Rattle.egt_check.proofs.NearestStep.{one_reach_entry}

-- ---- entries as they are read

near_back : (c : ℕ) (reach : Option (List ℕ)) (u : TableValue) → near_if c reach ≡ Some u → (i : ℕ) → slice_index u.mate i ≡ near_entry (slice_index (entries_or_none reach) i)
near_back c None u found i = absurd (cc)
near_back c (Some entries) u found i = let is : near_table c entries ≡ u = cc in ap (λ (t : TableValue). slice_index t.mate i) (sym is) ∙ get_or-map near_entry entries i 0

-- a table that is read so comes of one that is there
read_back : (o : Option TableValue) (u : TableValue) → near_of o ≡ Some u → (t : TableValue) × (o ≡ Some t) × ((i : ℕ) → entry_at u Mate i ≡ near_entry (reach_at t i))
read_back o u found = grind (arith, near_back)

-- a position's entry as it is read comes of its own
entry_back : (tables : Tables) (q : Setup) (x : ℕ) → HasEntry (near_tables tables) Mate q x → (r : ℕ) × HasReachEntry tables q r × (x ≡ near_entry r)
entry_back tables q x has =
    let back = read_back (tables has.class) has.table has.found in (
      reach_at back.0 has.index,
      record { class = has.class; below = has.below; flipped = has.flipped; of = has.of; table = back.0; found = back.1; index = has.index; is_index = has.is_index; is = refl },
      has.is ∙ back.2 has.index,
    )

-- the score of an entry that has a byte of its own
Near : (r g : ℕ) → Type 0
Near r g = ((r ≡ 1) × (g ≡ 128)) ⊎ ((2 ≤ r) × (r ≤ 127) × (g + r ≡ 257))

near_of_entry : (r : ℕ) → r ≢ 0 → r < 128 → Near r (byte_score (near_entry r))
unfolding Near
near_of_entry r some low = grind (arith, nat_tests)

known_near : (r : ℕ) → IsKnown (near_entry r) → Near r (byte_score (near_entry r))
known_near r known = let some = known.some in let low = known.low in near_of_entry r (λ none. some (ap near_entry none)) (omega (arith, low))

-- the entry e and the soonest one r, which scores g: both dead, or the one of one ply more
abbrev pub IsOneMore : (e g r : ℕ) → Type 0
IsOneMore e g r = ((e ≡ 1) × (r ≡ 1) × (g ≡ 128)) ⊎ ((e ≡ r + 1) × (2 ≤ r) × (r ≤ 127) × (g + r ≡ 257))

due_to : (e score g r : ℕ) → Near e score → Near r g → score ≡ reach_due_score g → IsOneMore e g r
unfolding Near
due_to e score g r own first due = grind (arith, nat_tests)

-- a move to the soonest of the successors
record IsSoonest (tables : Tables) (p : Setup) (g : ℕ) : Type 0 where
  pub next : Setup
  pub step : chess.Move p next
  pub entry : ℕ
  pub has : HasReachEntry tables next entry
  pub near : Near entry g

-- ---- the rules

module _ (tables : Tables) (t : TableValue) (i : ℕ) where
  -- an entry of no position
  pub void_kept : IsVoid t.class i → reach_at t i ≡ 0 → IsJudgedBy (KeepsReach tables t i) None
  void_kept void none h = grind (arith, rules.Void, rules.Range, rules.Kind)

  module _ (p : Setup) (spells : Spells t.class i p) (alone : (q : Setup) → Spells t.class i q → q ≡ p) (index : ¬ IsVoid t.class i) where
    -- an entry whose number fits
    fitting_kept : reach_at t i ≢ 0 → reach_at t i < 128 → ((number : Option ℕ) → reach_at t i ≡ reach_entry_of number → FitsReachBeside (ShowsReachOf tables) p number) → IsJudgedBy (KeepsReach tables t i) None
    fitting_kept some low fits rules.Void = ((λ none. absurd (some none)), (λ void. absurd (index void)))
    fitting_kept some low fits rules.Range = omega (arith, low)
    fitting_kept some low fits rules.Kind = tt
    fitting_kept some low fits rules.Win = tt
    fitting_kept some low fits rules.Loss = tt
    fitting_kept some low fits rules.Draw = tt
    fitting_kept some low fits rules.Reach = λ n shows q there. subst (λ (s : Setup). FitsReachBeside (ShowsReachOf tables) s (Some n)) (sym (alone q there)) (fits (Some n) shows.1)
    fitting_kept some low fits rules.Dead = λ shows q there. subst (λ (s : Setup). FitsReachBeside (ShowsReachOf tables) s None) (sym (alone q there)) (fits None shows.1)

    -- checkmate and stalemate
    end_fits : (x : ℕ) → NoMove chess p → IsAtEnd p x → near_entry (reach_at t i) ≡ x → (number : Option ℕ) → reach_at t i ≡ reach_entry_of number → FitsReachBeside (ShowsReachOf tables) p number
    end_fits x stuck (inl (mate, entry)) is (Some zero) shows = mate
    end_fits x stuck (inl (mate, entry)) is (Some (suc n)) shows = absurd (omega (arith, entry, is, shows))
    end_fits x stuck (inl (mate, entry)) is None shows = absurd (omega (arith, entry, is, shows))
    end_fits x stuck (inr (stale, entry)) is (Some zero) shows = absurd (omega (arith, entry, is, shows))
    end_fits x stuck (inr (stale, entry)) is (Some (suc n)) shows = absurd (omega (arith, entry, is, shows))
    end_fits x stuck (inr (stale, entry)) is None shows = (stale.1, λ q step. absurd (stuck q step))

    end_low : (x e : ℕ) → IsAtEnd p x → near_entry e ≡ x → (e ≢ 0) × (e < 128)
    end_low x e end is = grind arith

    pub end_kept : (x : ℕ) → NoMove chess p → IsAtEnd p x → near_entry (reach_at t i) ≡ x → IsJudgedBy (KeepsReach tables t i) None
    end_kept x stuck end is = let low = end_low x (reach_at t i) end is in fitting_kept low.0 low.1 (end_fits x stuck end is)

    -- ---- entries due to the greatest scores

    module _ (facts : Facts) (g z : ℕ) (given : AreGiven (near_tables tables) p (λ m. Unit {0}) g z) (some_move : g ≢ 0) where
      -- what a move scores
      score_of : (q : Setup) (m : Move) (x z : ℕ) → HasScores (near_tables tables) p q m x z → (r : ℕ) × HasReachEntry tables q r × Near r x
      score_of q m x z scores =
          let back = entry_back tables q scores.first scores.has_first in (
            back.0,
            back.1,
            subst (Near back.0) (sym (scores.mate_is ∙ ap byte_score back.2)) (known_near back.0 (subst IsKnown back.2 scores.known)),
          )

      soonest : IsSoonest tables p g
      soonest = elim given.mate_given [
        | inl none ↦ absurd (some_move none)
        | inr h ↦ let score = score_of h.1.next h.1.move g h.0 h.1.scores in record { next = h.1.next; step = (h.1.move, h.1.leads); entry = score.0; has = score.1; near = score.2 }
      ]

      -- no number that a successor shows is less
      least : (q : Setup) → chess.Move p q → (k : ℕ) → ShowsReachOf tables q (Some k) → (255 ≤ g + k) × (k ≤ 125)
      unfolding Near
      least q step k shows =
          let h = given.above q step.0 step.1 tt in
          let score = score_of q step.0 h.0 h.1 h.2 in
          let ok = facts.step_admissible p q step.0 spells.admissible step.1 in
          let same : score.0 ≡ 2 + k = one_reach_entry facts tables q ok score.0 shows.0 score.1 shows.1 ∙ shows.2.1 in
          let le = h.3 in
          elim score.2 [
            | inl dead ↦ absurd (let one = dead.0 in omega (arith, one, same))
            | inr far ↦ let most = far.1 in let sum = far.2 in (omega (arith, sum, same, le), omega (arith, most, same))
          ]

      moves : ¬ (chess.Checkmate p)
      moves mate = mate.stuck soonest.step.0 (soonest.next, soonest.step.1)

      fits : reach_at t i ≢ 0 → reach_at t i < 128 → reach_score (reach_at t i) ≡ reach_due_score g → (number : Option ℕ) → reach_at t i ≡ reach_entry_of number → FitsReachBeside (ShowsReachOf tables) p number
      fits some low due number is = of number (due_to (reach_at t i) (reach_score (reach_at t i)) g soonest.entry (near_of_entry (reach_at t i) some low) soonest.near due) is
        where
          of : (number : Option ℕ) → IsOneMore (reach_at t i) g soonest.entry → reach_at t i ≡ reach_entry_of number → FitsReachBeside (ShowsReachOf tables) p number
          of (Some zero) (inl (own, dead, g_is)) is = absurd (omega (arith, own, is))
          of (Some zero) (inr (own, some, few, g_is)) is = absurd (omega (arith, own, some, is))
          of (Some (suc n)) (inl (own, dead, g_is)) is = absurd (omega (arith, own, is))
          of (Some (suc n)) (inr (own, some, few, g_is)) is = (
            moves,
            ((soonest.next, soonest.step, (soonest.entry, soonest.has, (omega (arith, own, is, few), omega (arith, own, is)))), λ q step k shows. let more = (least q step k shows).0 in omega (arith, own, is, g_is, more)),
          )
          of None (inl (own, dead, g_is)) is = (moves, λ q step k shows. let more = least q step k shows in let far = more.0 in let near = more.1 in omega (arith, g_is, far, near))
          of None (inr (own, some, few, g_is)) is = absurd (omega (arith, own, some, is))

      pub due_kept : reach_at t i ≢ 0 → reach_at t i < 128 → reach_score (reach_at t i) ≡ reach_due_score g → IsJudgedBy (KeepsReach tables t i) None
      due_kept some low due = fitting_kept some low (fits some low due)
