-- Where moves that zero lead to the positions with some men, and to all of them, the greatest score of the codes of
-- these men is that of the moves.
use Rattle.std.proofs.Common.{◌≡◌, ℕ, ◌≤◌, Bool, true, false, Some, refl, sym, ap, subst, inl, inr}
use Rattle.egt_check.specs.Prelude.{false≢true, other_side, SettlesTo, Setup, IsAdmissible, Side, IsIndex, HasStand}
use Rattle.egt_check.specs.Prelude.{IsSomeTurnedCode, IsSomeTurnedCodeWith, Stand, IsRaised, zeroing_score, Zeroes}
use Rattle.egt_check.specs.Prelude.{Leads, Move, IsTable, TableValue, Metric, Mate, Zeroing, Facts, AreAlike, AreGiven}
use Rattle.egt_check.specs.Prelude.{HasScores, IsGiven, HasEntry, Tables, entry_at, HasBytes, IsBestWith, IsScoreWith}
use Rattle.egt_check.specs.Prelude.{score_at, settled_index}
use Rattle.egt_check.proofs.ByteJudged.{zeroing_above}
use Rattle.egt_check.proofs.QuietGiven.{low_score}
use Rattle.egt_check.proofs.Told.{entry_there}
use Rattle.egt_check.proofs.GreatestScores.{AreWhole, SpellsSettled, Turning, best_with}

-- the moves among these zero, and lead to the positions with men of some stand, and a target where one is left, and to all
-- of them
pub record PartsWith (left : Bool) (p : Setup) (side : Side) (d : ℕ) (flips : Bool) (In : Stand → Type 0) (Among : Move → Type 0) : Type 0 where
  pub zeroes : (q : Setup) (m : Move) → Leads p m q → Among m → Zeroes p m
  pub whole : (stand : Stand) → In stand → AreWhole stand
  pub goes : (q : Setup) (m : Move) → Leads p m q → Among m → (stand : Stand) × In stand × (r : Setup) × SettlesTo q r × HasStand d flips stand (other_side side) left r
  pub comes : (stand : Stand) (r : Setup) → In stand → HasStand d flips stand (other_side side) left r → (m : Move) × (q : Setup) × Leads p m q × SettlesTo q r × Among m

-- and where none is left
abbrev pub Parts : Setup → Side → ℕ → Bool → (Stand → Type 0) → (Move → Type 0) → Type 0
Parts = PartsWith false

module _ (facts : Facts) (turning : Turning) (tables : Tables) (t : TableValue) (is_table : IsTable t) (found : tables t.class ≡ Some t) (bytes : HasBytes t) (p : Setup) (ok : IsAdmissible p) (side : Side) (left : Bool) (settled : left ≡ true → SpellsSettled) (flips : Bool)
    (In : Stand → Type 0) (Among : Move → Type 0) (parts : PartsWith left p side t.class flips In Among) where
  -- ---- the scores of one move

  module _ (q r : Setup) (stand : Stand) (settles : SettlesTo q r) (there : HasStand t.class flips stand (other_side side) left r) (i : ℕ) (index : IsIndex t.class r i) where
    alike : AreAlike (entry_at t Mate i) (entry_at t Zeroing i)
    alike = bytes.alike i (facts.index_below r t.class i index) (λ void. void r there.admissible index)

    entry : (metric : Metric) → HasEntry tables metric q (entry_at t metric i)
    entry metric =
        let of = (facts.settled_class q r t.class flips settles).1 there.is_of in
        let same = settled_index t.class i q r settles there.settled index in
        entry_there tables metric t t.class flips q i is_table.class_in found of same

    scores : (m : Move) → Zeroes p m → HasScores tables p q m (score_at t Mate i) (zeroing_score (score_at t Mate i))
    scores m zeroes = record {
      first = entry_at t Mate i;
      second = entry_at t Zeroing i;
      has_first = entry Mate;
      has_second = entry Zeroing;
      known = alike.mate_known;
      mate_is = low_score (entry_at t Mate i) alike.mate_known.low;
      zeroes = true;
      zeroes_is = ((λ yes. zeroes), (λ _. refl));
      zeroing_is = refl;
    }

  -- ---- the greatest of them

  module _ (w : ℕ) (best : IsBestWith left t Mate In flips (other_side side) w) where
    abbrev pub Above : Setup → Move → Type 0
    Above q m = (x z : ℕ) × HasScores tables p q m x z × (x ≤ w) × (z ≤ zeroing_score w)

    above : (q : Setup) (m : Move) → Leads p m q → Among m → Above q m
    above q m leads among =
        let (stand, in_stands, r, settles, there) = parts.goes q m leads among in
        let (i, index, le) = best.above stand r in_stands there in (
          score_at t Mate i,
          zeroing_score (score_at t Mate i),
          scores q r stand settles there i index m (parts.zeroes q m leads among),
          le,
          zeroing_above (score_at t Mate i) w le,
        )

    reached : IsScoreWith left t Mate In flips (other_side side) w → IsGiven tables p Among w (zeroing_score w)
    reached h =
        let (m, q, leads, settles, among) = parts.comes h.stand h.position h.in_stands h.has in
        record {
          move = m;
          next = q;
          leads = leads;
          among = among;
          scores = subst (λ x. HasScores tables p q m x (zeroing_score x)) (sym h.is) (scores q h.position h.stand settles h.has h.index h.is_index m (parts.zeroes q m leads among));
        }

    given : AreGiven tables p Among w (zeroing_score w)
    given = record {
      above = above;
      mate_given = elim best.reached [ inl none ↦ inl none | inr h ↦ inr (zeroing_score w, reached h) ];
      zeroing_given = elim best.reached [ inl none ↦ inl (ap zeroing_score none) | inr h ↦ inr (w, reached h) ];
    }

  pub part_given_with : (w : ℕ) → IsRaised 0 (λ code. (stand : Stand) × In stand × IsSomeTurnedCodeWith left t.class code flips stand (other_side side)) (score_at t Mate) w → AreGiven tables p Among w (zeroing_score w)
  part_given_with w raised = given w (best_with facts turning t Mate is_table bytes left settled In flips (other_side side) w parts.whole raised)

-- the same where no target is left
pub part_given : (facts : Facts) (turning : Turning) (tables : Tables) (t : TableValue) → IsTable t → tables t.class ≡ Some t → HasBytes t → (p : Setup) → IsAdmissible p → (side : Side) (flips : Bool) (In : Stand → Type 0) (Among : Move → Type 0)
    → Parts p side t.class flips In Among → (w : ℕ) → IsRaised 0 (λ code. (stand : Stand) × In stand × IsSomeTurnedCode t.class code flips stand (other_side side)) (score_at t Mate) w → AreGiven tables p Among w (zeroing_score w)
part_given facts turning tables t is_table found bytes p ok side = part_given_with facts turning tables t is_table found bytes p ok side false (λ some. absurd (false≢true some))
