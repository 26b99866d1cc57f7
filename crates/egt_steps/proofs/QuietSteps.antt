-- A quiet move takes one man past free squares, and each such step to a position is a quiet move.
use Rattle.std.proofs.Common.{◌≡◌, ◌≢◌, ℕ, ◌<◌, ◌↔◌, if◌then◌else◌, Bool, false, sym, ap, ◌∙◌, subst, inl, inr, arith}
use Rattle.egt_steps.specs.Prelude.{eqb_tells, IsInCheck, king_of, Reaches, Reaches-free, Reaches-on_board, other_side}
use Rattle.egt_steps.specs.Prelude.{Placement, Stands, IsFree, one_man, Setup, IsAdmissible, P, Man, Side, side_twice}
use Rattle.egt_steps.specs.Prelude.{IsMoved, IsListed, HasStand, IsOff, list_of, IsMovedStand, moved_square, Stand}
use Rattle.egt_steps.specs.Prelude.{Zeroes, Goes, Leads, plain, Move, Facts, IsQuietTarget}
use Rattle.std.specs.FinMap as map
use Rattle.egt_steps.proofs.Fanned.{goes_quietly}
use Rattle.egt_steps.proofs.Passed.{departs}
use Rattle.egt_steps.proofs.Still.{KeepsClass, is_moved}

-- how stands follow moves, by the law of egt_index
pub record Following : Type 0 where
  pub listed : (c : ℕ) (stand : Stand) (side : Side) (targeted : Bool) (p : Setup) (s : ℕ) (man : Man) → HasStand c false stand side targeted p → Stands p.men s man ↔ IsListed (list_of stand) man s
  pub free : (c : ℕ) (stand : Stand) (side : Side) (targeted : Bool) (p : Setup) (s : ℕ) → HasStand c false stand side targeted p → IsFree p.men s ↔ IsOff (list_of stand) s
  pub moved : (c from to : ℕ) (p q : Setup) (stand after : Stand) (side : Side) (targeted : Bool) → HasStand c false stand side targeted p → IsMovedStand from to stand after → IsMoved c p from to q → HasStand c false after (other_side side) false q
  pub back : (c from to : ℕ) (p q : Setup) (man : Man) (stand after : Stand) (side : Side) (targeted : Bool) → c < 36 → to < 64 → to ≢ from → Stands p.men from man → HasStand c false stand side targeted p → IsMovedStand from to stand after
      → HasStand c false after (other_side side) false q → IsMoved c p from to q
  pub quiet_moved : (c : ℕ) (p q : Setup) (m : Move) → IsAdmissible p → Leads p m q → ¬ Zeroes p m → IsMoved c p m.from m.to q

-- a man who went, and one who stood elsewhere
pub went : (from to s : ℕ) → s ≡ from → moved_square from to s ≡ to
went from to s here = elim (eqb_tells s from) [ inl same ↦ ap (λ b. if b then to else s) same.0 | inr apart ↦ absurd (apart.1 here) ]

pub stayed : (from to s : ℕ) → s ≢ from → moved_square from to s ≡ s
stayed from to s other = elim (eqb_tells s from) [ inl same ↦ absurd (other same.1) | inr apart ↦ ap (λ b. if b then to else s) apart.0 ]

-- one position after a man went there
one_moved : (c from to : ℕ) (p q r : Setup) → IsMoved c p from to q → IsMoved c p from to r → q ≡ r
one_moved c from to p q r one other = grind (arith, one_man)

-- a side's king is no pawn
pub king_piece : (side : Side) → (king_of side).kind ≢ P
king_piece side e = grind arith

-- a piece of that side went past squares on which none stood, after which the men stand so
pub record Went (c : ℕ) (here : Stand) (side : Side) (man : Man) (from to : ℕ) (after : Stand) (q : Setup) : Type 0 where
  pub on_board : to < 64
  pub own : man.side ≡ side
  pub piece : man.kind ≢ P
  pub reaches : Reaches (IsOff (list_of here)) man from to
  pub there : HasStand c false after (other_side side) false q

module _ (facts : Facts) (keeps : KeepsClass) (follow : Following) (c : ℕ) (class_in : c < 36) (here : Stand) (side : Side) (targeted : Bool) (p : Setup) (has : HasStand c false here side targeted p) where
  stands : (s : ℕ) (man : Man) → IsListed (list_of here) man s → Stands p.men s man
  stands s man listed = (follow.listed c here side targeted p s man has).1 listed

  -- ---- a step of a man to where a position has him

  module _ (man : Man) (from : ℕ) (listed : IsListed (list_of here) man from) (of : man.side ≡ side) (piece : man.kind ≢ P) (F : ℕ → Type 0) (clear : (u : ℕ) → F u → u ≢ from → IsOff (list_of here) u)
      (to : ℕ) (reaches : Reaches F man from to) (after : Stand) (moves : IsMovedStand from to here after) (q : Setup) (there : HasStand c false after (other_side side) false q) where
    gone : IsMoved c p from to q
    gone = follow.back c from to p q man here after side targeted class_in (Reaches-on_board F man from to reaches) (departs F man from to reaches).0 (stands from man listed) has moves there

    past_free : Reaches (IsFree p.men) man from to
    past_free = Reaches-free (λ u. (u ≢ from) × F u) (IsFree p.men) man from to (λ u u_in is. (follow.free c here side targeted p u has).1 (clear u is.1 is.0)) (departs F man from to reaches).1

    safe : ¬ IsInCheck (map.insert (map.remove p.men from) to man) p.side
    safe check =
        let his : gone.man ≡ man = one_man p.men from gone.man man gone.stands (stands from man listed) in
        let placed : q.men ≡ map.insert (map.remove p.men from) to man = gone.men ∙ ap (λ (x : Man). map.insert (map.remove p.men from) to x) his in
        let turn : other_side q.side ≡ p.side = ap other_side gone.side ∙ side_twice p.side in
        there.admissible.quiet (subst (λ (s : Side). IsInCheck q.men s) (sym turn) (subst (λ (m : Placement). IsInCheck m p.side) (sym placed) check))

    quiet : IsQuietTarget p false from to
    quiet = goes_quietly p man from to (stands from man listed) (of ∙ sym has.side_is) piece past_free gone.free safe

    pub steps : (m : Move) × Leads p m q × ¬ Zeroes p m
    steps =
        let (r, leads) = quiet.legal in
        let same : r ≡ q = one_moved c from to p r q (is_moved keeps c p r false from to has.admissible (facts.step_admissible p r (plain from to) has.admissible leads) leads quiet) gone in
        (plain from to, subst (Leads p (plain from to)) same leads, λ zeroes. let no = quiet.zeroes.1 zeroes in cc)

  -- ---- from a move to where the man went

  module _ (q : Setup) (m : Move) (leads : Leads p m q) (keeps_count : ¬ Zeroes p m) where
    moved : IsMoved c p m.from m.to q
    moved = follow.quiet_moved c p q m has.admissible leads keeps_count

    -- a piece, since a pawn's moves zero, attacks where it goes
    module _ (man : Man) (from : ℕ) (is : man ≡ leads.man) (at : from ≡ m.from) where
      piece_is : man.kind ≢ P
      piece_is pawn = keeps_count (inr (record { man = leads.man; stands = leads.stands; pawn = ap (λ (x : Man). x.kind) (sym is) ∙ pawn }))

      reached : Goes p man from m.to → Reaches (IsFree p.men) man from m.to
      reached (inl goes) = goes.reaches
      reached (inr (inl advances)) = absurd (piece_is advances.pawn)
      reached (inr (inr takes)) = absurd (piece_is takes.pawn)

      pub went_to : (after : Stand) → IsMovedStand from m.to here after → Went c here side man from m.to after q
      went_to after moves = record {
        on_board = moved.on_board;
        own = ap (λ (x : Man). x.side) is ∙ leads.mine ∙ has.side_is;
        piece = piece_is;
        reaches = Reaches-free (IsFree p.men) (IsOff (list_of here)) man from m.to (λ u u_in free. (follow.free c here side targeted p u has).0 free)
            (reached (subst (λ (x : Man). Goes p x from m.to) (sym is) (subst (λ s. Goes p leads.man s m.to) (sym at) leads.goes)));
        there = follow.moved c from m.to p q here after side targeted has moves (subst (λ s. IsMoved c p s m.to q) (sym at) moved);
      }
