-- The captures by which a pawn is promoted lead to the three men who are left, and to all positions of them.
use Rattle.std.proofs.Common.{◌≡◌, ◌≢◌, ℕ, Bool, true, false, Option, Some, None, refl, sym, ap, ◌∙◌, subst, inl, inr}
use Rattle.std.proofs.Common.{arith}
use Rattle.egt_steps.specs.Prelude.{IsInCheck, king_of, OneOf, Reaches, Rides, pawn_steps, other_side, ahead, Placement}
use Rattle.egt_steps.specs.Prelude.{Stands, IsFree, IsOccupiedBy, one_man, Setup, Kind, P, K, Man, Side, White, Black}
use Rattle.egt_steps.specs.Prelude.{side_twice, sides_differ, HasStand, ShelfMen, Goes, Leads, after, is_two_ranks}
use Rattle.egt_steps.specs.Prelude.{men_after, men_left, passed, FitsPromotion, IsOfficer, arriving, is_pawn, promotes}
use Rattle.egt_steps.specs.Prelude.{Move, not_free, target_is, Facts, IsPromotingCapture, IsPromotingCaptureFrom}
use Rattle.egt_steps.specs.Prelude.{officer_of, stand_in, IsClassOf, IsPastKings, Left, left_of, stand_left}
use Rattle.std.specs.FinMap as placement
use Rattle.egt_steps.proofs.Fanned.{king_bare}
use Rattle.egt_steps.proofs.Leaping.{and_false}
use Rattle.egt_steps.proofs.PawnAdvances.{none_of}
use Rattle.egt_steps.proofs.Still.{not_passing}
use Rattle.egt_steps.proofs.Takings.{AreLeft, Telling, are_left, arrives, empties, one_left, placed, stands_left, stays}
use Rattle.egt_steps.proofs.MenListed.{AreTwo, are_in, who}

-- a pawn attacks squares of the next rank alone, and passes none
one_rank : (F : ℕ → Type 0) (side : Side) (s t : ℕ) → OneOf (Rides F 1 s t) (pawn_steps side) → is_two_ranks s t ≡ false
one_rank F side s t h = grind arith

module _ (man : Man) (pawn : man.kind ≡ P) (s t : ℕ) where
  pub takes_unpassed : (F : ℕ → Type 0) → Reaches F man s t → passed man s t ≡ None
  takes_unpassed F reaches = grind (arith, and_false, is_pawn, one_rank)

  pub takes_bare : (F G : ℕ → Type 0) → Reaches F man s t → Reaches G man s t
  takes_bare F G reaches = grind (arith, king_bare)

-- a pawn is promoted to an officer, and only where he arrives on his last rank
pub promoted : (b : Bool) (kind : Kind) → FitsPromotion b (Some kind) → (b ≡ true) × IsOfficer kind
promoted b kind fits = grind arith

no_king_made : (kind : Kind) → IsOfficer kind → kind ≢ K
no_king_made kind officer king = subst IsOfficer king officer

module _ (facts : Facts) (telling : Telling) (c : ℕ) (men : ShelfMen) (first : Bool) (side : Side) (targeted : Bool) (a b : ℕ) (p : Setup) (pawn : men.last.kind ≡ P) (has : HasStand c false (stand_in first men a b) side targeted p) (kind : Kind) where
  there : AreTwo p.men men.white men.black men.first a men.last b
  there = are_in c men first side targeted a b p has

  -- the pawn's side's new man where the first man stood
  abbrev left : Left
  left = left_of men (officer_of side kind) a

  takes_so : AreLeft (placed p.men b a (officer_of side kind)) left
  takes_so = record {
    white = stays p.men b a (officer_of side kind) men.white (king_of White) (λ e. there.one_white (sym e)) (λ e. there.other_white (sym e)) there.white_there;
    black = stays p.men b a (officer_of side kind) men.black (king_of Black) (λ e. there.one_black (sym e)) (λ e. there.other_black (sym e)) there.black_there;
    man = arrives p.men b a (officer_of side kind);
    kings_apart = there.kings_apart;
    off_white = there.one_white;
    off_black = there.one_black;
    free = λ s w k o. empties p.men b a (officer_of side kind) s o (λ off. there.free s w k o off);
  }

  -- nobody is taken in passing where a man stands
  left_so : (man other : Man) (t : ℕ) → Stands p.men t other → men_left p man t ≡ p.men
  left_so man other t stands = grind (arith, ahead, not_passing, not_free, target_is)

  -- ---- from the move to the men left

  module _ (q : Setup) (m : Move) (leads : Leads p m q) (from_is : m.from ≡ b) (held : IsOccupiedBy p.men m.to (other_side p.side)) (promo_is : m.promo ≡ Some kind) where
    his : leads.man ≡ men.last
    his = one_man p.men b leads.man men.last (subst (λ s. Stands p.men s leads.man) from_is leads.stands) there.other_there

    own : men.last.side ≡ side
    own = ap (λ (x : Man). x.side) (sym his) ∙ leads.mine ∙ has.side_is

    pawn_here : leads.man.kind ≡ P
    pawn_here = ap (λ (x : Man). x.kind) his ∙ pawn

    attacks : Goes p leads.man m.from m.to → Reaches (IsFree p.men) leads.man m.from m.to
    attacks (inl piece) = piece.reaches
    attacks (inr (inl advances)) = not_free p.men m.to held.man advances.advances.free held.stands
    attacks (inr (inr takes)) = takes.reaches

    -- the side that waits is not in check, so that no king is taken
    no_king : (s : Side) → held.man ≡ king_of s → ⊥
    no_king s is = has.admissible.quiet (record {
      square = m.to;
      stands = held.stands ∙ ap Some (is ∙ ap king_of (ap (λ (x : Man). x.side) (sym is) ∙ held.theirs));
      attacked = record { from = m.from; man = leads.man; stands = leads.stands; theirs = leads.mine ∙ sym (side_twice p.side); reaches = attacks leads.goes };
    })

    -- the first man is taken
    taken : (m.to ≡ a) × (held.man ≡ men.first)
    taken = elim (who p.men men.white men.black men.first a men.last b there m.to held.man held.stands) [
      | inl h ↦ absurd (no_king White h.1)
      | inr rest ↦ elim rest [
        | inl h ↦ absurd (no_king Black h.1)
        | inr more ↦ elim more [
          | inl h ↦ h
          | inr h ↦ absurd (sides_differ side (sym own ∙ ap (λ (x : Man). x.side) (sym h.1) ∙ held.theirs ∙ ap other_side has.side_is))
        ]
      ]
    ]

    reached : Reaches (IsFree p.men) men.last b a
    reached =
        subst (λ (x : Man). Reaches (IsFree p.men) x b a) his
        (subst (λ s. Reaches (IsFree p.men) leads.man s a) from_is (subst (λ s. Reaches (IsFree p.men) leads.man m.from s) taken.0 (attacks leads.goes)))

    fits : FitsPromotion (promotes men.last a) (Some kind)
    fits = grind (arith, his, taken)

    is_capture : IsPromotingCapture men side kind a b
    is_capture = record {
      pawn = pawn;
      mine = own;
      theirs = ap (λ (x : Man). x.side) (sym taken.1) ∙ held.theirs ∙ ap other_side has.side_is;
      reaches = takes_bare men.last pawn b a (IsFree p.men) (IsPastKings men) reached;
      last = (promoted (promotes men.last a) kind fits).0;
      officer = (promoted (promotes men.last a) kind fits).1;
    }

    made : officer_of side kind ≡ arriving leads.man m.promo
    made = ap (λ (s : Side). officer_of s kind) (sym own) ∙ ap (λ (o : Option Kind). arriving men.last o) (sym promo_is) ∙ ap (λ (x : Man). arriving x m.promo) (sym his)

    men_are : placed p.men b a (officer_of side kind) ≡ q.men
    men_are =
        (λ i. placed p.men (sym from_is i) (sym taken.0 i) (made i))
        ∙ ap (λ (x : Placement). placed x m.from m.to (arriving leads.man m.promo)) (sym (left_so leads.man held.man m.to held.stands))
        ∙ ap (λ (s : Setup). s.men) (sym leads.becomes)

    target_none : q.target ≡ None
    target_none =
        ap (λ (s : Setup). s.target) leads.becomes
        ∙ takes_unpassed leads.man pawn_here m.from m.to (IsFree p.men) (attacks leads.goes)

    pub goes : IsPromotingCapture men side kind a b
        × ((d : ℕ) (flips : Bool) → IsClassOf d flips (officer_of side kind) → HasStand d flips (stand_left flips (left_of men (officer_of side kind) a)) (other_side side) false q)
    goes = (
      is_capture,
      λ d flips class. stands_left telling d flips left (other_side side) q (facts.step_admissible p q m has.admissible leads) (subst (λ (x : Placement). AreLeft x left) men_are takes_so) (no_king_made kind is_capture.officer)
          (ap (λ (s : Setup). s.side) leads.becomes ∙ ap other_side has.side_is) target_none class,
    )

  -- ---- from the men left to the move

  module _ (is : IsPromotingCapture men side kind a b) (d : ℕ) (flips : Bool) (q : Setup) (has_left : HasStand d flips (stand_left flips (left_of men (officer_of side kind) a)) (other_side side) false q) where
    abbrev move : Move
    move = record { from = b; to = a; promo = Some kind }

    held_there : IsOccupiedBy p.men a (other_side p.side)
    held_there = record { man = men.first; stands = there.one_there; theirs = is.theirs ∙ ap other_side (sym has.side_is) }

    reaches : Reaches (IsFree p.men) men.last b a
    reaches = takes_bare men.last pawn b a (IsPastKings men) (IsFree p.men) is.reaches

    men_are_so : q.men ≡ men_after p men.last move
    men_are_so =
        one_left q.men (placed p.men b a (officer_of side kind)) left (are_left d flips left (other_side side) q has_left) takes_so
        ∙ ap (λ (s : Side). placed p.men b a (officer_of s kind)) (sym is.mine)
        ∙ ap (λ (x : Placement). placed x b a (officer_of men.last.side kind)) (sym (left_so men.last men.first a there.one_there))

    turn : q.side ≡ other_side p.side
    turn = has_left.side_is ∙ ap other_side (sym has.side_is)

    target : q.target ≡ (after p men.last move).target
    target = none_of q.target has_left.target_is ∙ sym (takes_unpassed men.last pawn b a (IsFree p.men) reaches)

    leads_so : Leads p move q
    leads_so = record {
      man = men.last;
      stands = there.other_there;
      mine = is.mine ∙ sym has.side_is;
      goes = inr (inr (record { pawn = pawn; reaches = reaches; takes = inl held_there }));
      promotion = subst (λ (b : Bool). FitsPromotion b (Some kind)) (sym is.last) is.officer;
      becomes = λ i. record { men = men_are_so i; side = turn i; target = target i };
      safe = λ check. has_left.admissible.quiet (subst (λ (s : Side). IsInCheck q.men s) (sym (ap other_side turn ∙ side_twice p.side)) check);
    }

    pub comes : (m : Move) × Leads p m q × IsPromotingCaptureFrom p b kind m
    comes = (move, leads_so, record { from = refl; takes = held_there; promo_is = refl })
