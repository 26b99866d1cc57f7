-- The quiet steps of a man who stands still on a shelf: which are legal, and where they lead.
use Rattle.std.proofs.Common.{◌≡◌, ◌≢◌, ℕ, ◌&&◌, ◌==◌, Bool, false, if◌then◌else◌, List, [], ◌∷◌, Some, None, refl, sym}
use Rattle.std.proofs.Common.{ap, ◌∙◌, subst, inl, inr, arith}
use Rattle.egt_steps.specs.Prelude.{P, K, Man, Step, IsInCheck, OneOf, Reaches, Rides, other_side, ahead, last_rank}
use Rattle.egt_steps.specs.Prelude.{Placement, Stands, IsFree, Setup, rank_of, plain, after, is_target, men_after}
use Rattle.egt_steps.specs.Prelude.{FitsPromotion, IsQuietTarget}
use Rattle.std.specs.FinMap as map
use Rattle.egt_steps.proofs.Still.{quiet_piece, no_pawn}

-- a king goes one step, so that it passes no square
pub king_bare : (F G : ℕ → Type 0) (s t : ℕ) (ds : List Step) → OneOf (Rides F 1 s t) ds → OneOf (Rides G 1 s t) ds
king_bare F G s t [] none = none
king_bare F G s t (d ∷ ds) some = elim some [
  | inl r ↦
      let within = r.within in
      inl (record { count = r.count; moves = r.moves; within = r.within; away = r.away; clear = λ k u k_some less away. absurd (omega arith) })
  | inr rest ↦ inr (king_bare F G s t ds rest)
]

pub king_reaches : (F G : ℕ → Type 0) (man : Man) (s t : ℕ) → man.kind ≡ K → Reaches F man s t → Reaches G man s t
king_reaches F G man s t king r = grind (arith, king_bare)

-- ---- one piece on the move in one position

module _ (p : Setup) (man : Man) (from to : ℕ) (stands : Stands p.men from man) (mine : man.side ≡ p.side) (piece : man.kind ≢ P) where
  -- the men once he went there
  abbrev pub men_there : Placement
  men_there = map.insert (map.remove p.men from) to man

  pub men_after_is : men_after p man (plain from to) ≡ men_there
  men_after_is = ap (λ (b : Bool). map.insert (map.remove (if b && is_target p.target to then map.remove p.men (ahead (other_side p.side) to) else p.men) from) to man) (no_pawn man.kind piece)

  taken_not : {x : Man} → Some x ≡ None → ⊥
  taken_not e = cc

  -- past free squares to a free one, and not into check: he goes there, and takes nothing
  pub goes_quietly : Reaches (IsFree p.men) man from to → IsFree p.men to → ¬ IsInCheck men_there p.side → IsQuietTarget p false from to
  goes_quietly reaches free safe =
      quiet_piece p from to man stands piece (λ held. taken_not (sym held.stands ∙ free)) (
        None,
        (
          after p man (plain from to),
          record {
            man = man;
            stands = stands;
            mine = mine;
            goes = inl (record { piece = piece; reaches = reaches; not_own = λ held. taken_not (sym held.stands ∙ free) });
            promotion = subst (λ (b : Bool). FitsPromotion (b && (rank_of to == last_rank man.side)) None) (sym (no_pawn man.kind piece)) tt;
            becomes = refl;
            safe = subst (λ (men : Placement). ¬ IsInCheck men p.side) (sym men_after_is) safe;
          },
        ),
      )
