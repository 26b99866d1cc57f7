-- The greatest scores of the codes of quiet steps are those of the quiet moves.
use Rattle.std.proofs.Common.{◌≡◌, ℕ, ◌%◌, ◌<◌, ◌≤◌, false, Some, arith, sym, ap, inl, inr, subst}
use Rattle.egt_check.specs.Prelude.{Setup, Side, Stand, Leads, Move, IsTable, Metric, Mate, Zeroing, Facts, Tables}
use Rattle.egt_check.specs.Prelude.{IsIndex, list_of, Zeroes, AreGiven, HasEntry, entry_at, HasBytes, IsBestOf, score_at}
use Rattle.egt_check.specs.Prelude.{AllStand, HasStand, ShelfMen, IsRaised, stand_on, with_king, AreAlike, HasScores}
use Rattle.egt_check.specs.Prelude.{IsSomeTurnedCode, byte_score, TableValue, IsQuietAlone, IsQuietStand, stand_alone}
use Rattle.egt_check.proofs.Told.{entry_there}
use Rattle.egt_check.proofs.GreatestScores.{AreWhole, Turning, best_of}

pub low_score : (e : ℕ) → e < 254 → byte_score (e % 256) ≡ byte_score e
low_score e low = let same : e % 256 ≡ e = omega arith in ap byte_score same

-- ---- the men after a quiet step are on the board

pub quiet_whole : (men : ShelfMen) (side : Side) (a b : ℕ) (p : Setup) → AllStand false p.men (list_of (stand_on men a b)) → (stand : Stand) → IsQuietStand men side a b stand → AreWhole stand
quiet_whole men side a b p apart stand h = grind (arith, stand_on, with_king)

pub alone_whole : (men : ShelfMen) (side : Side) (s : ℕ) (p : Setup) → AllStand false p.men (list_of (stand_alone men s)) → (stand : Stand) → IsQuietAlone men side s stand → AreWhole stand
alone_whole men side s p apart stand h = grind (arith, stand_alone, with_king)

-- the moves that do not zero lead to these men with that side to move, and to all positions of them
module _ (facts : Facts) (turning : Turning) (tables : Tables) (t : TableValue) (is_table : IsTable t) (found : tables t.class ≡ Some t) (bytes : HasBytes t)
    (side : Side) (p : Setup) (In : Stand → Type 0) (whole : (stand : Stand) → In stand → AreWhole stand)
    (goes : (q : Setup) (m : Move) → Leads p m q → ¬ Zeroes p m → (stand : Stand) × In stand × HasStand t.class false stand side false q)
    (comes : (q : Setup) (stand : Stand) → In stand → HasStand t.class false stand side false q → (m : Move) × Leads p m q × ¬ Zeroes p m) where
  -- ---- the scores of a quiet move

  module _ (q : Setup) (stand : Stand) (there : HasStand t.class false stand side false q) (i : ℕ) (index : IsIndex t.class q i) where
    alike : AreAlike (entry_at t Mate i) (entry_at t Zeroing i)
    alike = bytes.alike i (facts.index_below q t.class i index) (λ void. void q there.admissible index)

    entry : (metric : Metric) → HasEntry tables metric q (entry_at t metric i)
    entry metric = entry_there tables metric t t.class false q i is_table.class_in found there.is_of index

    scores : (m : Move) → ¬ Zeroes p m → HasScores tables p q m (score_at t Mate i) (score_at t Zeroing i)
    scores m quiet = record {
      first = entry_at t Mate i;
      second = entry_at t Zeroing i;
      has_first = entry Mate;
      has_second = entry Zeroing;
      known = alike.mate_known;
      mate_is = low_score (entry_at t Mate i) alike.mate_known.low;
      zeroes = false;
      zeroes_is = ((λ no. absurd (let e = no in cc)), (λ zeroes. absurd (quiet zeroes)));
      zeroing_is = (alike, low_score (entry_at t Zeroing i) alike.zeroing_known.low);
    }

  module _ (mate zeroing : ℕ) (by_mate : IsBestOf t Mate In false side mate) (by_zeroing : IsBestOf t Zeroing In false side zeroing) where
    above : (q : Setup) (m : Move) → Leads p m q → ¬ Zeroes p m → (x z : ℕ) × HasScores tables p q m x z × (x ≤ mate) × (z ≤ zeroing)
    above q m leads quiet =
        let (stand, is, there) = goes q m leads quiet in
        let (i, index, mate_above) = by_mate.above stand q is there in
        let (j, other, zeroing_above) = by_zeroing.above stand q is there in (
          score_at t Mate i,
          score_at t Zeroing i,
          scores q stand there i index m quiet,
          mate_above,
          subst (λ k. score_at t Zeroing k ≤ zeroing) (facts.one_index q t.class j i there.admissible other index) zeroing_above,
        )

    pub given : AreGiven tables p (λ m. ¬ Zeroes p m) mate zeroing
    given = record {
      above = above;
      mate_given = elim by_mate.reached [
        | inl none ↦ inl none
        | inr h ↦
            let (m, leads, quiet) = comes h.position h.stand h.in_stands h.has in
            inr (
              score_at t Zeroing h.index,
              record { move = m; next = h.position; leads = leads; among = quiet; scores = subst (λ x. HasScores tables p h.position m x (score_at t Zeroing h.index)) (sym h.is) (scores h.position h.stand h.has h.index h.is_index m quiet) },
            )
      ];
      zeroing_given = elim by_zeroing.reached [
        | inl none ↦ inl none
        | inr h ↦
            let (m, leads, quiet) = comes h.position h.stand h.in_stands h.has in
            inr (
              score_at t Mate h.index,
              record { move = m; next = h.position; leads = leads; among = quiet; scores = subst (HasScores tables p h.position m (score_at t Mate h.index)) (sym h.is) (scores h.position h.stand h.has h.index h.is_index m quiet) },
            )
      ];
    }

  abbrev Codes : ℕ → Type 0
  Codes code = (stand : Stand) × In stand × IsSomeTurnedCode t.class code false stand side

  pub quiet_given : (mate zeroing : ℕ) → IsRaised 0 Codes (score_at t Mate) mate → IsRaised 0 Codes (score_at t Zeroing) zeroing → AreGiven tables p (λ m. ¬ Zeroes p m) mate zeroing
  quiet_given mate zeroing by_mate by_zeroing =
      given mate zeroing (best_of facts turning t Mate is_table bytes In false side mate whole by_mate) (best_of facts turning t Zeroing is_table bytes In false side zeroing whole by_zeroing)
