-- A legal move leads to an admissible position.
use Rattle.std.proofs.Common.{◌≡◌, ◌≢◌, ℕ, ◌<◌, ◌≤◌, ◌+◌, ◌-◌, ◌/◌, ◌⊎◌, ◌&&◌, Option, Some, None, cond, true}
use Rattle.std.proofs.Common.{false, Bool, arith, refl, sym, ap, ◌∙◌, inl, inr, subst, if◌then◌else◌}
use Rattle.egt_moves.specs.Prelude.{is_some, nat_cmp_total, false≢true, and_parts, eqb_tells, Side, White}
use Rattle.egt_moves.specs.Prelude.{Black, Kind, Q, R, B, N, P, K, Man, other_side, file_of, rank_of, Stands, IsFree}
use Rattle.egt_moves.specs.Prelude.{ahead, pawn_of, last_rank, home_rank, farthest_advance, Advances, PawnsFit}
use Rattle.egt_moves.specs.Prelude.{IsTarget, FitsTarget, target_rank, Rides, OneOf, farthest, steps_of, pawn_steps}
use Rattle.egt_moves.specs.Prelude.{IsInCheck, Setup, IsAdmissible, IsKingOn, HasKings, side_twice, sides_differ, Move}
use Rattle.egt_moves.specs.Prelude.{Goes, PawnTakes, is_pawn, promotes, IsOfficer, FitsPromotion, arriving, men_left}
use Rattle.egt_moves.specs.Prelude.{men_after, is_two_ranks, passed, after, goes_on_board}
use Rattle.std.specs.FinMap as map
use Rattle.egt_moves.proofs.MenAfter.{left_cases, left_keeps, left_free, after_to, after_from, after_other, after_cases, king_moves, king_stays, other_king_stays, may_become}

-- no more men than before
len_left : (p : Setup) (man : Man) (to : ℕ) → IsAdmissible p → map.len (men_left p man to) ≤ map.len p.men
len_left p man to ok = elim (left_cases p man to ok) [
  | inl same ↦ let e = ap map.len same in omega arith
  | inr passing ↦
      let e = ap map.len passing.left in
      let less = shorter (is_some (map.get p.men (ahead (other_side p.side) to))) _ _ (map.len-remove nat_cmp_total p.men (ahead (other_side p.side) to)) in
      omega arith
]
  where
    shorter : (b : Bool) (l n : ℕ) → l ≡ cond b (n - 1) n → l ≤ n
    shorter b l n e = grind arith

-- once the man is lifted there is room for it on its new square
pub len_lifted : (p : Setup) (man : Man) (from to : ℕ) → IsAdmissible p → man.side ≡ p.side → Stands p.men from man → map.len (map.remove (men_left p man to) from) < 4
len_lifted p man from to ok mine stands =
    let left = men_left p man to in
    let there : map.get left from ≡ Some man = left_keeps p man to from man ok (λ e. sides_differ p.side (sym mine ∙ ap (λ (x : Man). x.side) e)) stands in
    let removed : map.len (map.remove left from) ≡ cond (is_some (map.get left from)) (map.len left - 1) (map.len left) = map.len-remove nat_cmp_total left from in
    let less : map.len (map.remove left from) ≡ map.len left - 1 = removed ∙ ap (λ o. cond (is_some o) (map.len left - 1) (map.len left)) there in
    let few = len_left p man to ok in
    let four = ok.few in
    omega arith

len_after : (p : Setup) (man : Man) (m : Move) → IsAdmissible p → man.side ≡ p.side → Stands p.men m.from man → map.len (men_after p man m) ≤ 4
len_after p man m ok mine stands =
    let left = men_left p man m.to in
    let few = len_lifted p man m.from m.to ok mine stands in
    bound (map.contains_key (map.remove left m.from) m.to) _ _ (map.len-insert nat_cmp_total (map.remove left m.from) m.to (arriving man m.promo)) (omega arith)
  where
    bound : (b : Bool) (l n : ℕ) → l ≡ cond b n (n + 1) → n ≤ 3 → l ≤ 4
    bound b l n e le = grind arith

-- a king is not promoted
pub no_promotion : (man : Man) (to : ℕ) (promo : Option Kind) → is_pawn man.kind ≡ false → FitsPromotion (promotes man to) promo → promo ≡ None
no_promotion man to promo no_pawn fits = grind (arith, rank_of, last_rank)

own_king_after : (p : Setup) (man : Man) (m : Move) (k : ℕ) → IsAdmissible p → Stands p.men m.from man → man.side ≡ p.side → Goes p man m.from m.to → FitsPromotion (promotes man m.to) m.promo → IsKingOn p.men p.side k → (s : ℕ) × IsKingOn (men_after p man m) p.side s
own_king_after p man m k ok stands mine goes fits king = subst (λ side. IsKingOn p.men side k → (s : ℕ) × IsKingOn (men_after p man m) side s) mine (by_kind man.kind refl) king
  where
    another : man.kind ≢ K → IsKingOn p.men man.side k → (s : ℕ) × IsKingOn (men_after p man m) man.side s
    another not_king there = (k, king_stays p man m k ok stands mine goes (may_become _ m.promo fits) there not_king)

    by_kind : (kind : Kind) → man.kind ≡ kind → IsKingOn p.men man.side k → (s : ℕ) × IsKingOn (men_after p man m) man.side s
    by_kind K e there = (m.to, king_moves p man m k ok stands there e (no_promotion man m.to m.promo (ap is_pawn e) fits))
    by_kind Q e there = another (λ f. let bad = sym e ∙ f in cc) there
    by_kind R e there = another (λ f. let bad = sym e ∙ f in cc) there
    by_kind B e there = another (λ f. let bad = sym e ∙ f in cc) there
    by_kind N e there = another (λ f. let bad = sym e ∙ f in cc) there
    by_kind P e there = another (λ f. let bad = sym e ∙ f in cc) there

-- one king a side is there after the move as before
kings_after : (p : Setup) (man : Man) (m : Move) → Stands p.men m.from man → man.side ≡ p.side → Goes p man m.from m.to → FitsPromotion (promotes man m.to) m.promo → IsAdmissible p → HasKings (men_after p man m)
kings_after p man m stands mine goes fits ok = by_side p.side refl
  where
    own : (k : ℕ) (side : Side) → p.side ≡ side → IsKingOn p.men side k → (s : ℕ) × IsKingOn (men_after p man m) side s
    own k side e king = subst (λ x. IsKingOn p.men x k → (s : ℕ) × IsKingOn (men_after p man m) x s) e (own_king_after p man m k ok stands mine goes fits) king

    theirs : (k : ℕ) (side : Side) → other_side p.side ≡ side → IsKingOn p.men side k → IsKingOn (men_after p man m) side k
    theirs k side e king = subst (λ x. IsKingOn p.men x k → IsKingOn (men_after p man m) x k) e (other_king_stays p man m k stands mine goes ok) king

    by_side : (side : Side) → p.side ≡ side → HasKings (men_after p man m)
    by_side White e =
        let mine_there = own ok.kings.white White e ok.kings.white_there in
        record { white = mine_there.0; black = ok.kings.black; white_there = mine_there.1; black_there = theirs ok.kings.black Black (ap other_side e) ok.kings.black_there }
    by_side Black e =
        let mine_there = own ok.kings.black Black e ok.kings.black_there in
        record { white = ok.kings.white; black = mine_there.0; white_there = theirs ok.kings.white White (ap other_side e) ok.kings.white_there; black_there = mine_there.1 }

-- how far forward a pawn goes
unfoldable pub Forward : Side → ℕ → ℕ → ℕ → Type 0
Forward White n from to = rank_of to ≡ rank_of from + n
Forward Black n from to = rank_of from ≡ rank_of to + n

takes_forward : (F : ℕ → Type 0) (side : Side) (from to : ℕ) → OneOf (Rides F 1 from to) (pawn_steps side) → Forward side 1 from to
unfolding Forward
takes_forward F side from to h = grind arith

pub advances_forward : (F : ℕ → Type 0) (side : Side) (from to : ℕ) (a : Advances F side from to) → Forward side a.rides.count from to
unfolding Forward
advances_forward F side from to a = grind arith

-- the steps of a pawn that takes
pub pawn_reaches : (p : Setup) (man : Man) (from to : ℕ) → PawnTakes p man from to → OneOf (Rides (IsFree p.men) 1 from to) (pawn_steps man.side)
pawn_reaches p man from to takes = subst (λ kind. OneOf (Rides (IsFree p.men) (farthest kind) from to) (steps_of man.side kind)) takes.pawn takes.reaches

pub takes_forward_of : (p : Setup) (man : Man) (from to : ℕ) → PawnTakes p man from to → Forward man.side 1 from to
takes_forward_of p man from to takes = takes_forward (IsFree p.men) man.side from to (pawn_reaches p man from to takes)

-- a pawn goes forward
pawn_forward : (p : Setup) (man : Man) (from to : ℕ) → man.kind ≡ P → Goes p man from to → (n : ℕ) × (0 < n) × Forward man.side n from to
pawn_forward p man from to pawn (inl piece) = absurd (piece.piece pawn)
pawn_forward p man from to pawn (inr (inl advance)) = (advance.advances.rides.count, advance.advances.rides.moves, advances_forward (IsFree p.men) man.side from to advance.advances)
pawn_forward p man from to pawn (inr (inr takes)) =
    (1, omega arith, takes_forward_of p man from to takes)

-- a pawn that goes forward arrives on no first rank
rank_between : (side : Side) (n from to : ℕ) → to < 64 → (0 < rank_of from) × (rank_of from < 7) → 0 < n → Forward side n from to → rank_of to ≢ last_rank side → (0 < rank_of to) × (rank_of to < 7)
unfolding Forward
rank_between side n from to to_in h some f not_last = grind arith

-- a pawn that arrives as one is not promoted
pub arrived_pawn : (man : Man) (to : ℕ) (promo : Option Kind) → FitsPromotion (promotes man to) promo → (arriving man promo).kind ≡ P → (man.kind ≡ P) × (promotes man to ≡ false)
arrived_pawn man to None fits pawn = (pawn, by_test (promotes man to) fits)
  where
    by_test : (b : Bool) → FitsPromotion b None → b ≡ false
    by_test b none = grind arith
arrived_pawn man to (Some kind) fits pawn = absurd (by_test (promotes man to) fits)
  where
    by_test : (b : Bool) → FitsPromotion b (Some kind) → ⊥
    by_test true officer = subst IsOfficer pawn officer
    by_test false none = none

not_last_rank : (man : Man) (to : ℕ) → man.kind ≡ P → promotes man to ≡ false → rank_of to ≢ last_rank man.side
not_last_rank man to pawn untrue last = grind (arith, false≢true, is_pawn, rank_of)

-- no pawn stands on the first rank or the last
pawns_after : (p : Setup) (man : Man) (m : Move) → Stands p.men m.from man → Goes p man m.from m.to → FitsPromotion (promotes man m.to) m.promo → IsAdmissible p → PawnsFit (men_after p man m)
pawns_after p man m stands goes fits ok s other there pawn = elim (after_cases p man m s other ok there) [
  | inl h ↦
      let arrived = arrived_pawn man m.to m.promo fits (ap (λ (x : Man). x.kind) (sym h.1) ∙ pawn) in
      let ahead = pawn_forward p man m.from m.to arrived.0 goes in
      subst (λ t. (0 < rank_of t) × (rank_of t < 7)) (sym h.0)
      (rank_between man.side ahead.0 m.from m.to (goes_on_board p man m.from m.to goes) (ok.pawns m.from man stands arrived.0) ahead.1 ahead.2 (not_last_rank man m.to arrived.0 arrived.1))
  | inr h ↦ ok.pawns s other h.2 pawn
]

pub pawn_told : (kind : Kind) → is_pawn kind ≡ true → kind ≡ P
pawn_told kind e = grind arith

-- two ranks lie between
pub two_ranks_told : (s t : ℕ) → is_two_ranks s t ≡ true → (rank_of t ≡ rank_of s + 2) ⊎ (rank_of s ≡ rank_of t + 2)
two_ranks_told s t e = grind (arith, eqb_tells, rank_of, false≢true)

pub two_forward : (side : Side) (n from to : ℕ) → Forward side n from to → (rank_of to ≡ rank_of from + 2) ⊎ (rank_of from ≡ rank_of to + 2) → n ≡ 2
unfolding Forward
two_forward side n from to f h = grind arith

-- a pawn that advances two squares begins on its original rank
pub from_home : (side : Side) (from : ℕ) → 2 ≤ farthest_advance side from → rank_of from ≡ home_rank side
from_home side from le = grind (arith, eqb_tells, rank_of, home_rank)

-- the squares of an advance of two
pub record Leap (F : ℕ → Type 0) (side : Side) (from to : ℕ) : Type 0 where
  pub home : rank_of from ≡ home_rank side
  pub file : file_of to ≡ file_of from
  pub two : Forward side 2 from to
  pub between : F ((from + to) / 2)

pub leap : (F : ℕ → Type 0) (side : Side) (from to : ℕ) → Advances F side from to → (rank_of to ≡ rank_of from + 2) ⊎ (rank_of from ≡ rank_of to + 2) → Leap F side from to
unfolding Forward
leap F White from to a ranks =
    let two = two_forward White a.rides.count from to (advances_forward F White from to a) ranks in
    let h = a.rides.away.along in let g = a.rides.away.across in let to_in = a.rides.away.on_board in
    let home : rank_of from ≡ 1 = from_home White from (let w = a.rides.within in omega arith) in
    record {
      home = home;
      file = omega arith;
      two = omega arith;
      between = a.rides.clear 1 ((from + to) / 2) (omega arith) (omega arith) (record { on_board = omega arith; across = omega arith; along = omega arith });
    }
leap F Black from to a ranks =
    let two = two_forward Black a.rides.count from to (advances_forward F Black from to a) ranks in
    let h = a.rides.away.along in let g = a.rides.away.across in let to_in = a.rides.away.on_board in
    let home : rank_of from ≡ 6 = from_home Black from (let w = a.rides.within in omega arith) in
    record {
      home = home;
      file = omega arith;
      two = omega arith;
      between = a.rides.clear 1 ((from + to) / 2) (omega arith) (omega arith) (record { on_board = omega arith; across = omega arith; along = omega arith });
    }

-- the square halfway
record Halfway (side : Side) (from to : ℕ) : Type 0 where
  pub rank : rank_of ((from + to) / 2) ≡ target_rank (other_side side)
  pub behind : ahead (other_side side) ((from + to) / 2) ≡ from
  pub before : ahead (other_side (other_side side)) ((from + to) / 2) ≡ to
  pub not_from : (from + to) / 2 ≢ from
  pub not_to : (from + to) / 2 ≢ to
  pub apart : from ≢ to
  pub not_last : rank_of to ≢ last_rank side

halfway : (F : ℕ → Type 0) (side : Side) (from to : ℕ) → Leap F side from to → Halfway side from to
unfolding Forward
halfway F White from to l =
    let h = l.home in let g = l.file in let t = l.two in
    record { rank = omega arith; behind = omega arith; before = omega arith; not_from = λ e. omega arith; not_to = λ e. omega arith; apart = λ e. omega arith; not_last = λ e. omega arith }
halfway F Black from to l =
    let h = l.home in let g = l.file in let t = l.two in
    record { rank = omega arith; behind = omega arith; before = omega arith; not_from = λ e. omega arith; not_to = λ e. omega arith; apart = λ e. omega arith; not_last = λ e. omega arith }

not_promoted : (man : Man) (to : ℕ) (promo : Option Kind) → rank_of to ≢ last_rank man.side → FitsPromotion (promotes man to) promo → promo ≡ None
not_promoted man to promo not_last fits = grind (arith, promotes, eqb_tells, rank_of)

pub not_two : (n : ℕ) → n ≡ 1 → n ≡ 2 → ⊥
not_two n one two = omega arith

-- the square that was passed is a target
target_there : (p : Setup) (man : Man) (m : Move) → Goes p man m.from m.to → FitsPromotion (promotes man m.to) m.promo → IsAdmissible p → man.kind ≡ P → (rank_of m.to ≡ rank_of m.from + 2) ⊎ (rank_of m.from ≡ rank_of m.to + 2)
    → IsTarget (men_after p man m) (other_side man.side) ((m.from + m.to) / 2)
target_there p man m (inl piece) fits ok pawn ranks = absurd (piece.piece pawn)
target_there p man m (inr (inr takes)) fits ok pawn ranks =
    let one = takes_forward_of p man m.from m.to takes in
    absurd (not_two 1 refl (two_forward man.side 1 m.from m.to one ranks))
target_there p man m (inr (inl advance)) fits ok pawn ranks =
    let l = leap (IsFree p.men) man.side m.from m.to advance.advances ranks in
    let h = halfway (IsFree p.men) man.side m.from m.to l in
    let none = not_promoted man m.to m.promo h.not_last fits in
    record {
      rank = h.rank;
      empty = after_other p man m ((m.from + m.to) / 2) h.not_from h.not_to ∙ left_free p man m.to ((m.from + m.to) / 2) ok l.between;
      left = subst (IsFree (men_after p man m)) (sym h.behind) (after_from p man m h.apart);
      advanced = subst (λ s. Stands (men_after p man m) s (pawn_of (other_side (other_side man.side)))) (sym h.before)
          (after_to p man m ∙ ap (λ o. Some (arriving man o)) none ∙ ap Some (λ i. record { side = sym (side_twice man.side) i; kind = pawn i }));
    }

target_after : (p : Setup) (man : Man) (m : Move) → man.side ≡ p.side → Goes p man m.from m.to → FitsPromotion (promotes man m.to) m.promo → IsAdmissible p → FitsTarget (men_after p man m) (other_side p.side) (passed man m.from m.to)
target_after p man m mine goes fits ok = by_test (is_pawn man.kind && is_two_ranks m.from m.to) refl
  where
    by_test : (b : Bool) → (is_pawn man.kind && is_two_ranks m.from m.to) ≡ b → FitsTarget (men_after p man m) (other_side p.side) (if b then Some ((m.from + m.to) / 2) else None)
    by_test false e = tt
    by_test true e =
        subst (λ side. IsTarget (men_after p man m) (other_side side) ((m.from + m.to) / 2)) mine
        (target_there p man m goes fits ok (pawn_told man.kind (and_parts (is_pawn man.kind) _ e).0) (two_ranks_told m.from m.to (and_parts (is_pawn man.kind) _ e).1))

-- what a legal move leads to is admissible
pub admissible_after : (p : Setup) (man : Man) (m : Move) → Stands p.men m.from man → man.side ≡ p.side → Goes p man m.from m.to → FitsPromotion (promotes man m.to) m.promo → IsAdmissible p → ¬ IsInCheck (men_after p man m) p.side → IsAdmissible (after p man m)
admissible_after p man m stands mine goes fits ok safe = record {
  few = len_after p man m ok mine stands;
  on_board = λ s other there. elim (after_cases p man m s other ok there) [
    | inl h ↦ subst (λ x. x < 64) (sym h.0) (goes_on_board p man m.from m.to goes)
    | inr h ↦ ok.on_board s other h.2
  ];
  kings = kings_after p man m stands mine goes fits ok;
  pawns = pawns_after p man m stands goes fits ok;
  target = target_after p man m mine goes fits ok;
  quiet = λ check. safe (subst (IsInCheck (men_after p man m)) (side_twice p.side) check);
}
