-- Statements about the men on a board that can be decided: who stands where, what is reached, and whether a king is in check.
use Rattle.std.proofs.Common.{◌≡◌, ℕ, suc, ◌+◌, ◌*◌, ◌<◌, inl, inr, List, [], ◌∷◌, Option, Some, None, cond, refl, sym, ap, subst, arith, ◌∙◌}
use Rattle.std.specs.FinMap as map
use Rattle.std.proofs.Math.Logic.{⊎_elim}
use Rattle.egt_board.specs.contracts.man.Kind as kind_row
use Rattle.egt_board.specs.contracts.man.Man as man_row
use Rattle.egt_board.specs.contracts.man.Side as side_row
use Rattle.std.specs.Ordering.{nat_cmp}
use Rattle.std.specs.List.{Any}
use Rattle.std.proofs.lemmas.Bool.{cases_eq}
use Rattle.egt_board.specs.declared.man.Side.{Side}
use Rattle.egt_board.specs.declared.man.Kind.{Kind}
use Rattle.egt_board.specs.declared.man.Man.{Man}
use Rattle.egt_board.specs.declared.step.Way.{Way}
use Rattle.egt_board.specs.declared.step.Way.TheVariants.{Up, Down, Still}
use Rattle.egt_board.specs.declared.step.Step.{Step}
use Rattle.egt_board.specs.Man.{other_side}
use Rattle.egt_board.specs.Attack.{king_of, IsAttacked, IsInCheck}
use Rattle.egt_board.specs.Coordinate.{Further}
use Rattle.egt_board.specs.AttackLines.{OneOf, Rides, Reaches, steps_of, farthest}
use Rattle.egt_board.specs.Pawn.{Advances, farthest_advance, forward}
use Rattle.egt_board.specs.Placement.{Placement, Stands, IsFree, IsOccupiedBy, one_man, untied}
use Rattle.egt_board.specs.Square.{file_of, rank_of}
use Rattle.egt_board.specs.Step.{Away}
use Rattle.egt_board.specs.Among.{any_here, any_there}
use Rattle.egt_board.specs.Decided.{Decided, decided_as, decided_not, decided_both, decided_either, decided_implies, decided_eq, decided_lt, decided_below, decided_some_below, decided_among, decided_same}

pub decided_side : (a b : Side) → Decided (a ≡ b)
decided_side = decided_same side_row.the_row.coded

pub decided_kind : (a b : Kind) → Decided (a ≡ b)
decided_kind = decided_same kind_row.the_row.coded

pub decided_man : (a b : Man) → Decided (a ≡ b)
decided_man = decided_same man_row.the_row.coded

-- a man stands on the square, and what can be told of it holds
pub decided_on : (men : Placement) (s : ℕ) (Holds : Man → Type 0) → ((man : Man) → Decided (Holds man)) → Decided ((man : Man) × Stands men s man × Holds man)
decided_on men s Holds each = go (map.get men s) refl
  where
    go : (o : Option Man) → map.get men s ≡ o → Decided ((man : Man) × Stands men s man × Holds man)
    go None e = inr (λ h. let both : None ≡ Some h.0 = sym e ∙ h.1 in cc)
    go (Some man) e = decided_as (λ (h : Holds man). (man, e, h)) (λ h. subst Holds (one_man men s h.0 man h.1 e) h.2) (each man)

-- this man stands on the square
pub decided_stands : (men : Placement) (s : ℕ) (man : Man) → Decided (Stands men s man)
decided_stands men s man = decided_as
    (λ (h : (other : Man) × Stands men s other × (other ≡ man)). h.1 ∙ ap Some h.2)
    (λ (there : Stands men s man). (man, there, refl))
    (decided_on men s (λ other. other ≡ man) (λ other. decided_man other man))

pub decided_free : (men : Placement) (s : ℕ) → Decided (IsFree men s)
decided_free men s = go (map.get men s) refl
  where
    go : (o : Option Man) → map.get men s ≡ o → Decided (IsFree men s)
    go None e = inl e
    go (Some man) e = inr (λ free. let both : None ≡ Some man = sym free ∙ e in cc)

pub decided_held : (men : Placement) (s : ℕ) (side : Side) → Decided (IsOccupiedBy men s side)
decided_held men s side = decided_as
    (λ (h : (man : Man) × Stands men s man × (man.side ≡ side)). record { man = h.0; stands = h.1; theirs = h.2 })
    (λ (h : IsOccupiedBy men s side). (h.man, h.stands, h.theirs))
    (decided_on men s (λ man. man.side ≡ side) (λ man. decided_side man.side side))

-- the squares of these entries
pub squares : List (ℕ × Man) → List ℕ
squares [] = []
squares (e ∷ es) = e.0 ∷ squares es

-- a square where a man stands is one of them
on_entry : (Holds : ℕ → Type 0) (es : List (ℕ × Man)) (s : ℕ) (man : Man) → map.find nat_cmp s es ≡ Some man → Holds s → Any Holds (squares es)
unfolding squares
on_entry Holds [] s man found h = absurd (cc)
on_entry Holds (e ∷ es) s man found h = elim (cases_eq s e.0) [
  | inl same ↦ any_here Holds e.0 (squares es) (subst Holds same h)
  | inr other ↦
      let later : map.find nat_cmp s es ≡ Some man = sym (ap (λ b. cond b (Some e.1) (map.find nat_cmp s es)) (untied s e.0 other)) ∙ found in
      any_there Holds e.0 (squares es) (on_entry Holds es s man later h)
]

-- the squares where men stand
pub squares_of : Placement → List ℕ
squares_of men = squares (map.entries men)

pub on_square : (Holds : ℕ → Type 0) (men : Placement) (s : ℕ) (man : Man) → Stands men s man → Holds s → Any Holds (squares_of men)
unfolding squares_of
on_square Holds men s man stands h = on_entry Holds (map.entries men) s man (sym (map.get-entries men s) ∙ stands) h

-- some man on the board
pub decided_anywhere : (men : Placement) (Holds : ℕ → Man → Type 0) → ((s : ℕ) (man : Man) → Decided (Holds s man)) → Decided ((s : ℕ) × (man : Man) × Stands men s man × Holds s man)
decided_anywhere men Holds each = decided_as
    (λ (h : Any Here (squares_of men)). (h.1, h.4.0, h.4.1, h.4.2))
    (λ (h : (s : ℕ) × (man : Man) × Stands men s man × Holds s man). on_square Here men h.0 h.1 h.2 (h.1, h.2, h.3))
    (decided_among Here (λ s. decided_on men s (Holds s) (each s)) (squares_of men))
  where
    Here : ℕ → Type 0
    Here s = (man : Man) × Stands men s man × Holds s man

-- each man on the board
pub decided_everywhere : (men : Placement) (Holds : ℕ → Man → Type 0) → ((s : ℕ) (man : Man) → Decided (Holds s man)) → Decided ((s : ℕ) (man : Man) → Stands men s man → Holds s man)
decided_everywhere men Holds each = decided_as
    (λ (none : ¬ ((s : ℕ) × (man : Man) × Stands men s man × ¬ (Holds s man))) (s : ℕ) (man : Man) (stands : Stands men s man).
    ⊎_elim (λ (h : Holds s man). h) (λ (fails : ¬ (Holds s man)). absurd (none (s, man, stands, fails))) (each s man))
    (λ (all : (s : ℕ) (man : Man) → Stands men s man → Holds s man) (some : (s : ℕ) × (man : Man) × Stands men s man × ¬ (Holds s man)). some.3 (all some.0 some.1 some.2))
    (decided_not (decided_anywhere men (λ s man. ¬ (Holds s man)) (λ s man. decided_not (each s man))))

decided_further : (way : Way) (n a b : ℕ) → Decided (Further way n a b)
decided_further Up n a b = decided_eq b (a + n)
decided_further Down n a b = decided_eq a (b + n)
decided_further Still n a b = decided_eq b a

decided_away : (d : Step) (n s t : ℕ) → Decided (Away d n s t)
decided_away d n s t = decided_as
    (λ (h : (t < 64) × (Further d.files (n * d.wide) (file_of s) (file_of t) × Further d.ranks (n * d.high) (rank_of s) (rank_of t))). record { on_board = h.0; across = h.1.0; along = h.1.1 })
    (λ (away : Away d n s t). (away.on_board, (away.across, away.along)))
    (decided_both (decided_lt t 64) (λ _. decided_both (decided_further d.files (n * d.wide) (file_of s) (file_of t)) (λ _. decided_further d.ranks (n * d.high) (rank_of s) (rank_of t))))

module _ (Free : ℕ → Type 0) (free : (s : ℕ) → Decided (Free s)) where
  decided_rides : (most s t : ℕ) (d : Step) → Decided (Rides Free most s t d)
  decided_rides most s t d = decided_as there back
      (decided_some_below Ride (λ n. decided_both (decided_lt 0 n) (λ _. decided_both (decided_away d n s t) (λ _. clear n))) (suc most))
    where
      -- the squares that are passed are on the board
      Clear : ℕ → Type 0
      Clear n = (k : ℕ) → k < n → (u : ℕ) → u < 64 → 0 < k → Away d k s u → Free u

      Ride : ℕ → Type 0
      Ride n = (0 < n) × (Away d n s t × Clear n)

      clear : (n : ℕ) → Decided (Clear n)
      clear = decided_below (λ k. (u : ℕ) → u < 64 → 0 < k → Away d k s u → Free u)
          (λ k. decided_below (λ u. 0 < k → Away d k s u → Free u)
          (λ u. decided_implies (decided_lt 0 k) (λ _. decided_implies (decided_away d k s u) (λ _. free u))) 64)

      there : (n : ℕ) × (n < suc most) × Ride n → Rides Free most s t d
      there h = record {
        count = h.0;
        moves = h.2.0;
        within = omega (arith, h.1);
        away = h.2.1.0;
        clear = λ k u some less away. h.2.1.1 k less u away.on_board some away;
      }

      back : Rides Free most s t d → (n : ℕ) × (n < suc most) × Ride n
      back r = (r.count, omega (arith, r.within), (r.moves, (r.away, λ k less u u_in some away. r.clear k u some less away)))

  decided_one_of : (Holds : Step → Type 0) → ((d : Step) → Decided (Holds d)) → (ds : List Step) → Decided (OneOf Holds ds)
  decided_one_of Holds each [] = inr (λ h. h)
  decided_one_of Holds each (d ∷ ds) = decided_either (each d) (decided_one_of Holds each ds)

  pub decided_reaches : (man : Man) (s t : ℕ) → Decided (Reaches Free man s t)
  decided_reaches man s t = decided_one_of (Rides Free (farthest man.kind) s t) (decided_rides (farthest man.kind) s t) (steps_of man.side man.kind)

  pub decided_advances : (side : Side) (s t : ℕ) → Decided (Advances Free side s t)
  decided_advances side s t = decided_as
      (λ (h : Rides Free (farthest_advance side s) s t (forward side) × Free t). record { rides = h.0; free = h.1 })
      (λ (a : Advances Free side s t). (a.rides, a.free))
      (decided_both (decided_rides (farthest_advance side s) s t (forward side)) (λ _. free t))

decided_attacked : (men : Placement) (t : ℕ) (side : Side) → Decided (IsAttacked men t side)
decided_attacked men t side = decided_as
    (λ (h : (s : ℕ) × (man : Man) × Stands men s man × By s man). record { from = h.0; man = h.1; stands = h.2; theirs = h.3.0; reaches = h.3.1 })
    (λ (a : IsAttacked men t side). (a.from, a.man, a.stands, (a.theirs, a.reaches)))
    (decided_anywhere men By (λ s man. decided_both (decided_side man.side side) (λ _. decided_reaches (IsFree men) (decided_free men) man s t)))
  where
    By : ℕ → Man → Type 0
    By s man = (man.side ≡ side) × Reaches (IsFree men) man s t

pub decided_check : (men : Placement) (side : Side) → Decided (IsInCheck men side)
decided_check men side = decided_as
    (λ (h : (s : ℕ) × (man : Man) × Stands men s man × Attacked s man). record { square = h.0; stands = h.2 ∙ ap Some h.3.0; attacked = h.3.1 })
    (λ (c : IsInCheck men side). (c.square, king_of side, c.stands, (refl, c.attacked)))
    (decided_anywhere men Attacked (λ s man. decided_both (decided_man man (king_of side)) (λ _. decided_attacked men s (other_side side))))
  where
    Attacked : ℕ → Man → Type 0
    Attacked s man = (man ≡ king_of side) × IsAttacked men s (other_side side)
