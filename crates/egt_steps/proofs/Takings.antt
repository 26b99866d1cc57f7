-- The captures from a position that promote no pawn and are not in passing lead to the three men who are left, and to all positions of them.
use Rattle.std.proofs.Common.{◌≡◌, ◌≢◌, ℕ, ◌+◌, ◌/◌, ◌<◌, ◌⊎◌, ◌↔◌, ◌&&◌, if◌then◌else◌, Bool, true, false, List, []}
use Rattle.std.proofs.Common.{◌∷◌, map, Option, Some, None, arith, refl, sym, ap, ◌∙◌, subst, inl, inr}
use Rattle.egt_steps.specs.Prelude.{bit_at, Stands, IsFree, Setup, K, White, Black, IsOff, Stand, Leads, passed, left_of}
use Rattle.egt_steps.specs.Prelude.{is_some, ahead, IsListed, AllStand, HasStand, ShelfMen, arriving, promotes, stand_on}
use Rattle.egt_steps.specs.Prelude.{option_map, eqb_tells, other_side, turned_man, not_passing, king_of_men, IsPastKings}
use Rattle.egt_steps.specs.Prelude.{and_parts, IsOccupiedBy, IsAdmissible, FitsPromotion, two_ranks_told, IsPlainCapture}
use Rattle.egt_steps.specs.Prelude.{cases_eq, same_men, men_among, all_there, men_after, pawn_told, with_king, IsClassOf}
use Rattle.egt_steps.specs.Prelude.{HasBeside, IsInCheck, last_rank, Placement, Kind, side_twice, AreCounted, stand_left}
use Rattle.egt_steps.specs.Prelude.{king_of, Reaches, one_man, rank_of, P, list_of, free_of, is_pawn, not_two, IsTaken}
use Rattle.egt_steps.specs.Prelude.{Reaches-free, Reaches-on_board, get-insert_other, get-remove_other, takes_in_passing}
use Rattle.egt_steps.specs.Prelude.{get-insert_same, get-remove_same, Reaches-target, counted_turned, takes_forward_of}
use Rattle.egt_steps.specs.Prelude.{Man, AreNonKings, turned_back, is_two_ranks, two_forward, IsBesideKing, sides_differ}
use Rattle.egt_steps.specs.Prelude.{Side, Goes, after, plain, Move, Facts, Left}
use Rattle.egt_index.proofs.ByMen.{no_target}
use Rattle.egt_steps.proofs.Fanned.{king_reaches}
use Rattle.egt_steps.proofs.Passed.{departs}
use Rattle.egt_steps.proofs.Still.{no_pawn_is}
use Rattle.std.specs.FinMap as placement

-- the men of a stand, and those beside the kings, by the laws of egt_index and egt_class
pub record Telling : Type 0 where
  pub listed : (c : ℕ) (stand : Stand) (side : Side) (targeted : Bool) (p : Setup) (s : ℕ) (man : Man) → HasStand c false stand side targeted p → Stands p.men s man ↔ IsListed (list_of stand) man s
  pub free : (c : ℕ) (stand : Stand) (side : Side) (targeted : Bool) (p : Setup) (s : ℕ) → HasStand c false stand side targeted p → IsFree p.men s ↔ IsOff (list_of stand) s
  pub counted : (p : Setup) (one other : Option (Man × ℕ)) → IsAdmissible p → HasBeside p.men one other → AreNonKings p (option_map (λ e. e.0) one) (option_map (λ e. e.0) other)

-- ---- three men

-- they stand there, and no others
pub record AreLeft (men : Placement) (left : Left) : Type 0 where
  pub white : Stands men left.white (king_of White)
  pub black : Stands men left.black (king_of Black)
  pub man : Stands men left.square left.man
  pub kings_apart : left.black ≢ left.white
  pub off_white : left.square ≢ left.white
  pub off_black : left.square ≢ left.black
  pub free : (s : ℕ) → s ≢ left.white → s ≢ left.black → s ≢ left.square → IsFree men s

-- the men that are left stand in one placement alone
pub one_left : (m n : Placement) (left : Left) → AreLeft m left → AreLeft n left → m ≡ n
one_left m n left one other = same_men m n (λ s. elim (cases_eq s left.white) [
  | inl here ↦ ap (placement.get m) here ∙ one.white ∙ sym (ap (placement.get n) here ∙ other.white)
  | inr off_white ↦ elim (cases_eq s left.black) [
    | inl here ↦ ap (placement.get m) here ∙ one.black ∙ sym (ap (placement.get n) here ∙ other.black)
    | inr off_black ↦ elim (cases_eq s left.square) [
      | inl here ↦ ap (placement.get m) here ∙ one.man ∙ sym (ap (placement.get n) here ∙ other.man)
      | inr off ↦ one.free s off_white off_black off ∙ sym (other.free s off_white off_black off)
    ]
  ]
])

-- no man stands off their squares in a position of a class of three
free_left : (d : ℕ) (flips : Bool) (left : Left) (side : Side) (q : Setup) → HasStand d flips (stand_left flips left) side false q → (s : ℕ) → IsOff (list_of (stand_left flips left)) s → IsFree q.men s
free_left d flips left side q has s off = subst (λ (m : Placement). IsFree m s) (sym (all_there q.men there has.admissible.on_board counted has.stood.all).0) (free_of there s off)
  where
    there : List (Man × ℕ)
    there =
        (turned_man flips (king_of White), (stand_left flips left).white)
        ∷ (turned_man flips (king_of Black), (stand_left flips left).black)
        ∷ (turned_man flips (turned_man flips left.man), left.square)
        ∷ []

    counted : AreCounted q.men (men_among there)
    counted = subst (λ (l : List Man). AreCounted q.men (map (turned_man flips) l)) (sym has.stood.are) (counted_turned d flips q has.is_of)

-- such a position has these men
pub are_left : (d : ℕ) (flips : Bool) (left : Left) (side : Side) (q : Setup) → HasStand d flips (stand_left flips left) side false q → AreLeft q.men left
are_left d false left side q has = record {
  white = has.stood.all.1;
  black = has.stood.all.3.1;
  man = has.stood.all.3.3.1;
  kings_apart = has.stood.all.2.0;
  off_white = has.stood.all.2.1.0;
  off_black = has.stood.all.3.2.0;
  free = λ s w b m. free_left d false left side q has s ((λ e. w (sym e)), ((λ e. b (sym e)), ((λ e. m (sym e)), tt)));
}
are_left d true left side q has = record {
  white = has.stood.all.3.1;
  black = has.stood.all.1;
  man = has.stood.all.3.3.1 ∙ ap Some (turned_back true left.man);
  kings_apart = λ e. has.stood.all.2.0 (sym e);
  off_white = has.stood.all.3.2.0;
  off_black = has.stood.all.2.1.0;
  free = λ s w b m. free_left d true left side q has s ((λ e. b (sym e)), ((λ e. w (sym e)), ((λ e. m (sym e)), tt)));
}

-- and a position with these is of the class
pub stands_left : Telling → (d : ℕ) (flips : Bool) (left : Left) (side : Side) (q : Setup) → IsAdmissible q → AreLeft q.men left → left.man.kind ≢ K → q.side ≡ side → q.target ≡ None → IsClassOf d flips left.man
    → HasStand d flips (stand_left flips left) side false q
stands_left telling d flips left side q ok are no_king side_is none class = record {
  admissible = ok;
  settled = no_target q none;
  is_of = class.of q (telling.counted q (Some (left.man, left.square)) None ok beside);
  stood = record { are = sym class.order; all = all flips };
  side_is = side_is;
  target_is = ap (λ (o : Option ℕ). is_some o) none;
}
  where
    taken_not : {x : Man} → Some x ≡ None → ⊥
    taken_not e = cc

    beside : HasBeside q.men (Some (left.man, left.square)) None
    beside = grind (arith, cases_eq, one_man, taken_not)

    all : (flips : Bool) → AllStand flips q.men (list_of (stand_left flips left))
    all flips = grind (arith, turned_back)

-- ---- one man on another's square

module _ (men : Placement) (from to : ℕ) (man : Man) where
  abbrev pub placed : Placement
  placed = placement.insert (placement.remove men from) to man

  pub arrives : Stands placed to man
  arrives = get-insert_same (placement.remove men from) to man to refl

  pub stays : (s : ℕ) (other : Man) → s ≢ to → s ≢ from → Stands men s other → Stands placed s other
  stays s other off_to off_from stands = get-insert_other (placement.remove men from) to man s off_to ∙ get-remove_other men from s off_from ∙ stands

  pub empties : (s : ℕ) → s ≢ to → (s ≢ from → IsFree men s) → IsFree placed s
  empties s off_to free = grind (arith, get-insert_other, cases_eq, get-remove_same, get-remove_other)

-- ---- a man takes where he attacks, a pawn among others

module _ (p : Setup) (man : Man) (from to : ℕ) (held : IsOccupiedBy p.men to (other_side p.side)) where
  -- a pawn takes one rank ahead, so that none passes a square
  none_passed : Reaches (IsFree p.men) man from to → passed man from to ≡ None
  none_passed reaches = by_test (is_pawn man.kind && is_two_ranks from to) refl
    where
      by_test : (b : Bool) → (is_pawn man.kind && is_two_ranks from to) ≡ b → (if b then Some ((from + to) / 2) else None) ≡ None
      by_test h0 e = grind (arith, and_parts, is_pawn, is_two_ranks, takes_forward_of, pawn_told, held, not_two, two_forward, two_ranks_told)

  -- no man stands on the target
  not_in_passing : IsAdmissible p → takes_in_passing p man to ≡ false
  not_in_passing ok = grind (arith, not_passing)

  taking_goes : Reaches (IsFree p.men) man from to → ¬ IsOccupiedBy p.men to p.side → Goes p man from to
  taking_goes reaches not_own = grind (arith, is_pawn, pawn_told, no_pawn_is)

  -- who takes a man attacks him
  pub taking_reaches : Goes p man from to → Reaches (IsFree p.men) man from to
  taking_reaches h = grind arith

-- the side that waits is not in check, so that no king is taken
pub no_king_taken : (p q : Setup) (m : Move) → IsAdmissible p → Leads p m q → (held : IsOccupiedBy p.men m.to (other_side p.side)) → (s : Side) → king_of s ≡ held.man → ⊥
no_king_taken p q m ok leads held s is = grind (arith, side_twice)

-- a pawn does not stay one on its last rank
within_ranks : (side : Side) (to : ℕ) → 0 < rank_of to → rank_of to < 7 → rank_of to ≢ last_rank side
within_ranks side to low high e = grind arith

pub not_promoting : (man : Man) (to : ℕ) → (man.kind ≡ P → (0 < rank_of to) × (rank_of to < 7)) → promotes man to ≡ false
not_promoting man to fits = grind (arith, is_pawn, pawn_told, eqb_tells, within_ranks)

module _ (facts : Facts) (telling : Telling) (c : ℕ) (men : ShelfMen) (one_other : men.first.kind ≢ K) (last_other : men.last.kind ≢ K)
    (side : Side) (targeted : Bool) (a b : ℕ) (p : Setup) (has : HasStand c false (stand_on men a b) side targeted p) where
  abbrev pub here : Stand
  here = stand_on men a b

  mine : side ≡ p.side
  mine = sym has.side_is

  apart : AllStand false p.men (list_of here)
  apart = has.stood.all

  black_not_white : men.black ≢ men.white
  black_not_white = apart.2.0

  one_not_white : a ≢ men.white
  one_not_white = apart.2.1.0

  last_not_white : b ≢ men.white
  last_not_white = apart.2.1.1.0

  one_not_black : a ≢ men.black
  one_not_black = apart.3.2.0

  last_not_black : b ≢ men.black
  last_not_black = apart.3.2.1.0

  last_not_one : b ≢ a
  last_not_one = apart.3.3.2.0

  one_not_last : a ≢ b
  one_not_last e = last_not_one (sym e)

  white_stands : Stands p.men men.white (king_of White)
  white_stands = apart.1

  black_stands : Stands p.men men.black (king_of Black)
  black_stands = apart.3.1

  one_stands : Stands p.men a men.first
  one_stands = apart.3.3.1

  last_stands : Stands p.men b men.last
  last_stands = apart.3.3.3.1

  free_of_all : (s : ℕ) → s ≢ men.white → s ≢ men.black → s ≢ a → s ≢ b → IsFree p.men s
  free_of_all s off_white off_black off_one off_last = (telling.free c here side targeted p s has).1 ((λ e. off_white (sym e)), ((λ e. off_black (sym e)), ((λ e. off_one (sym e)), ((λ e. off_last (sym e)), tt))))

  off : (s : ℕ) → IsFree p.men s → IsOff (list_of here) s
  off s free = (telling.free c here side targeted p s has).0 free

  -- ---- who is left

  -- a king takes the man on `to`, and another stays on `at`
  king_leaves : (s : Side) (to at : ℕ) (man : Man) → to ≢ men.white → to ≢ men.black → at ≢ men.white → at ≢ men.black → at ≢ to → Stands p.men at man → ((u : ℕ) → u ≢ men.white → u ≢ men.black → u ≢ to → u ≢ at → IsFree p.men u)
      → AreLeft (placed p.men (king_of_men men s) to (king_of s)) (left_of (with_king men s to) man at)
  king_leaves White to at man to_white to_black at_white at_black at_to stands free = record {
    white = arrives p.men men.white to (king_of White);
    black = stays p.men men.white to (king_of White) men.black (king_of Black) (λ e. to_black (sym e)) black_not_white black_stands;
    man = stays p.men men.white to (king_of White) at man at_to at_white stands;
    kings_apart = λ e. to_black (sym e);
    off_white = at_to;
    off_black = at_black;
    free = λ u off_to off_black off_at. empties p.men men.white to (king_of White) u off_to (λ off_white. free u off_white off_black off_to off_at);
  }
  king_leaves Black to at man to_white to_black at_white at_black at_to stands free = record {
    white = stays p.men men.black to (king_of Black) men.white (king_of White) (λ e. to_white (sym e)) (λ e. black_not_white (sym e)) white_stands;
    black = arrives p.men men.black to (king_of Black);
    man = stays p.men men.black to (king_of Black) at man at_to at_black stands;
    kings_apart = to_white;
    off_white = at_white;
    off_black = at_to;
    free = λ u off_white off_to off_at. empties p.men men.black to (king_of Black) u off_to (λ off_black. free u off_white off_black off_to off_at);
  }

  -- a man on `from` takes the one on `to`
  man_leaves : (from to : ℕ) (man : Man) → from ≢ men.white → from ≢ men.black → to ≢ men.white → to ≢ men.black → ((u : ℕ) → u ≢ men.white → u ≢ men.black → u ≢ from → u ≢ to → IsFree p.men u)
      → AreLeft (placed p.men from to man) (left_of men man to)
  man_leaves from to man from_white from_black to_white to_black free = record {
    white = stays p.men from to man men.white (king_of White) (λ e. to_white (sym e)) (λ e. from_white (sym e)) white_stands;
    black = stays p.men from to man men.black (king_of Black) (λ e. to_black (sym e)) (λ e. from_black (sym e)) black_stands;
    man = arrives p.men from to man;
    kings_apart = black_not_white;
    off_white = to_white;
    off_black = to_black;
    free = λ u off_white off_black off_to. empties p.men from to man u off_to (λ off_from. free u off_white off_black off_from off_to);
  }

  king_takes_one : AreLeft (placed p.men (king_of_men men side) a (king_of side)) (left_of (with_king men side a) men.last b)
  king_takes_one = king_leaves side a b men.last one_not_white one_not_black last_not_white last_not_black last_not_one last_stands free_of_all

  king_takes_last : AreLeft (placed p.men (king_of_men men side) b (king_of side)) (left_of (with_king men side b) men.first a)
  king_takes_last = king_leaves side b a men.first last_not_white last_not_black one_not_white one_not_black one_not_last one_stands (λ u w k l o. free_of_all u w k o l)

  one_takes : AreLeft (placed p.men a b men.first) (left_of men men.first b)
  one_takes = man_leaves a b men.first one_not_white one_not_black last_not_white last_not_black free_of_all

  last_takes : AreLeft (placed p.men b a men.last) (left_of men men.last a)
  last_takes = man_leaves b a men.last last_not_white last_not_black one_not_white one_not_black (λ u w k l o. free_of_all u w k o l)

  king_stands : Stands p.men (king_of_men men side) (king_of side)
  king_stands = of_side side
    where
      of_side : (s : Side) → Stands p.men (king_of_men men s) (king_of s)
      of_side White = white_stands
      of_side Black = black_stands

  -- ---- from the men left to the move

  -- a man of the side to move takes one of the other
  record Taking (left : Left) : Type 0 where
    from : ℕ
    to : ℕ
    man : Man
    taken : Man
    stands : Stands p.men from man
    there : Stands p.men to taken
    own : man.side ≡ side
    theirs : taken.side ≡ other_side side
    reaches : Reaches (IsFree p.men) man from to
    leaves : AreLeft (placed p.men from to man) left

  -- past the kings, and so past all men
  past_all : (man : Man) (from to : ℕ) → Reaches (IsPastKings men) man from to → ((u : ℕ) → u ≢ men.white → u ≢ men.black → u ≢ from → u ≢ to → IsFree p.men u) → Reaches (IsFree p.men) man from to
  past_all man from to reaches free = Reaches-target (λ u. (u ≢ from) × IsPastKings men u) (IsFree p.men) man from to (λ u u_in not_to is. free u is.1.0 is.1.1 is.0 not_to) (departs (IsPastKings men) man from to reaches).1

  beside : (to : ℕ) → IsBesideKing men side to → Reaches (IsFree p.men) (king_of side) (king_of_men men side) to
  beside to is = king_reaches (λ u. bit_at 0 u ≡ 0) (IsFree p.men) (king_of side) (king_of_men men side) to refl is.1

  taking : (left : Left) → IsTaken men side a b left → Taking left
  taking left (inl (theirs, near, is)) = subst Taking (sym is) (record {
    from = king_of_men men side;
    to = a;
    man = king_of side;
    taken = men.first;
    stands = king_stands;
    there = one_stands;
    own = refl;
    theirs = theirs;
    reaches = beside a near;
    leaves = king_takes_one;
  })
  taking left (inr (inl (theirs, near, is))) = subst Taking (sym is) (record {
    from = king_of_men men side;
    to = b;
    man = king_of side;
    taken = men.last;
    stands = king_stands;
    there = last_stands;
    own = refl;
    theirs = theirs;
    reaches = beside b near;
    leaves = king_takes_last;
  })
  taking left (inr (inr (inl (own, theirs, reaches, is)))) = subst Taking (sym is) (record {
    from = a;
    to = b;
    man = men.first;
    taken = men.last;
    stands = one_stands;
    there = last_stands;
    own = own;
    theirs = theirs;
    reaches = past_all men.first a b reaches free_of_all;
    leaves = one_takes;
  })
  taking left (inr (inr (inr (own, theirs, reaches, is)))) = subst Taking (sym is) (record {
    from = b;
    to = a;
    man = men.last;
    taken = men.first;
    stands = last_stands;
    there = one_stands;
    own = own;
    theirs = theirs;
    reaches = past_all men.last b a reaches (λ u w k l o. free_of_all u w k o l);
    leaves = last_takes;
  })

  pub comes : (left : Left) → IsTaken men side a b left → (d : ℕ) (flips : Bool) → IsClassOf d flips left.man → (q : Setup) → HasStand d flips (stand_left flips left) (other_side side) false q → (m : Move) × Leads p m q × IsPlainCapture p m
  comes left is d flips class q there = (plain t.from t.to, leads, (held, refl))
    where
      t : Taking left
      t = taking left is

      held : IsOccupiedBy p.men t.to (other_side p.side)
      held = record { man = t.taken; stands = t.there; theirs = t.theirs ∙ ap other_side mine }

      stays_so : q.men ≡ placed p.men t.from t.to t.man
      stays_so = one_left q.men (placed p.men t.from t.to t.man) left (are_left d flips left (other_side side) q there) t.leaves

      -- in a position no pawn stands on its last rank
      fits : t.man.kind ≡ P → (0 < rank_of t.to) × (rank_of t.to < 7)
      fits pawn = there.admissible.pawns t.to t.man (ap (λ (x : Placement). placement.get x t.to) stays_so ∙ arrives p.men t.from t.to t.man) pawn

      placed_there : q.men ≡ men_after p t.man (plain t.from t.to)
      placed_there = grind (arith, stays_so, ahead, other_side, t, not_in_passing, held)

      turn : q.side ≡ other_side p.side
      turn = there.side_is ∙ ap other_side mine

      none : (o : Option ℕ) → is_some o ≡ false → o ≡ None
      none None e = refl
      none (Some s) e = absurd (let no = e in cc)

      target : q.target ≡ (after p t.man (plain t.from t.to)).target
      target = none q.target there.target_is ∙ sym (none_passed p t.man t.from t.to held t.reaches)

      leads : Leads p (plain t.from t.to) q
      leads = record {
        man = t.man;
        stands = t.stands;
        mine = t.own ∙ mine;
        goes = taking_goes p t.man t.from t.to held t.reaches
            (λ (h : IsOccupiedBy p.men t.to p.side). sides_differ side (mine ∙ sym h.theirs ∙ ap (λ (x : Man). x.side) (one_man p.men t.to h.man t.taken h.stands t.there) ∙ t.theirs));
        promotion = subst (λ (b : Bool). FitsPromotion b None) (sym (not_promoting t.man t.to fits)) tt;
        becomes = λ i. record { men = placed_there i; side = turn i; target = target i };
        safe = λ check. there.admissible.quiet (subst (λ (s : Side). IsInCheck q.men s) (sym (ap other_side turn ∙ side_twice p.side)) check);
      }

  -- ---- from the move to the men left

  module _ (q : Setup) (m : Move) (leads : Leads p m q) (plain_capture : IsPlainCapture p m) where
    own : leads.man.side ≡ side
    own = leads.mine ∙ sym mine

    -- the king of the side to move, the first man beside the kings or the last
    abbrev pub Mover : Type 0
    Mover = ((king_of side ≡ leads.man) × (king_of_men men side ≡ m.from)) ⊎ ((men.first ≡ leads.man) × (a ≡ m.from)) ⊎ ((men.last ≡ leads.man) × (b ≡ m.from))

    some_king : (s : Side) → king_of s ≡ leads.man → king_of_men men s ≡ m.from → Mover
    some_king s is h = grind (arith, own)

    mover : Mover
    mover = of_man ((telling.listed c here side targeted p m.from leads.man has).0 leads.stands)
      where
        of_man : IsListed (list_of here) leads.man m.from → Mover
        of_man (inl k) = some_king White k.0 k.1
        of_man (inr (inl k)) = some_king Black k.0 k.1
        of_man (inr (inr (inl k))) = inr (inl k)
        of_man (inr (inr (inr (inl k)))) = inr (inr k)
        of_man (inr (inr (inr (inr none)))) = absurd none

    held : IsOccupiedBy p.men m.to (other_side p.side)
    held = plain_capture.0

    attacks : Reaches (IsFree p.men) leads.man m.from m.to
    attacks = taking_reaches p leads.man m.from m.to held leads.goes

    reached : (man : Man) (from to : ℕ) → man ≡ leads.man → from ≡ m.from → to ≡ m.to → Reaches (IsFree p.men) man from to
    reached man from to is h there = grind (arith, attacks)

    theirs : held.man.side ≡ other_side side
    theirs = held.theirs ∙ ap other_side (sym mine)

    -- the first man beside the kings or the last
    abbrev pub Victim : Type 0
    Victim = ((men.first.side ≡ other_side side) × (a ≡ m.to)) ⊎ ((men.last.side ≡ other_side side) × (b ≡ m.to))

    victim : Victim
    victim = of_man ((telling.listed c here side targeted p m.to held.man has).0 held.stands)
      where
        of_man : IsListed (list_of here) held.man m.to → Victim
        of_man (inl k) = absurd (no_king_taken p q m has.admissible leads held White k.0)
        of_man (inr (inl k)) = absurd (no_king_taken p q m has.admissible leads held Black k.0)
        of_man (inr (inr (inl k))) = inl (ap (λ (x : Man). x.side) k.0 ∙ theirs, k.1)
        of_man (inr (inr (inr (inl k)))) = inr (ap (λ (x : Man). x.side) k.0 ∙ theirs, k.1)
        of_man (inr (inr (inr (inr none)))) = absurd none

    placed_so : (man : Man) (from to : ℕ) → man ≡ leads.man → from ≡ m.from → to ≡ m.to → placed p.men from to man ≡ q.men
    placed_so man from to is at there =
        (λ i. placed p.men (at i) (there i) (is i))
        ∙ ap (λ (o : Option Kind). placed p.men m.from m.to (arriving leads.man o)) (sym plain_capture.1)
        ∙ ap (λ (b : Bool). placed (if b then placement.remove p.men (ahead (other_side p.side) m.to) else p.men) m.from m.to (arriving leads.man m.promo)) (sym (not_in_passing p leads.man m.from m.to held has.admissible))
        ∙ ap (λ (s : Setup). s.men) (sym leads.becomes)

    abbrev pub Result : Type 0
    Result = (left : Left) × IsTaken men side a b left × ((d : ℕ) (flips : Bool) → IsClassOf d flips left.man → HasStand d flips (stand_left flips left) (other_side side) false q)

    result : (left : Left) → IsTaken men side a b left → left.man.kind ≢ K → AreLeft q.men left → Result
    result left is no_other are = (
      left,
      is,
      λ d flips class. stands_left telling d flips left (other_side side) q (facts.step_admissible p q m has.admissible leads) are no_other
          (ap (λ (s : Setup). s.side) leads.becomes ∙ ap other_side (sym mine)) (ap (λ (s : Setup). s.target) leads.becomes ∙ none_passed p leads.man m.from m.to held attacks) class,
    )

    near : (to : ℕ) → king_of side ≡ leads.man → king_of_men men side ≡ m.from → to ≡ m.to → IsBesideKing men side to
    near to is at there =
        let reaches = reached (king_of side) (king_of_men men side) to is at there in
        (Reaches-on_board (IsFree p.men) (king_of side) (king_of_men men side) to reaches, king_reaches (IsFree p.men) (λ u. bit_at 0 u ≡ 0) (king_of side) (king_of_men men side) to refl reaches)

    past : (man : Man) (from to : ℕ) → man ≡ leads.man → from ≡ m.from → to ≡ m.to → Reaches (IsPastKings men) man from to
    past man from to is at there = Reaches-free (IsFree p.men) (IsPastKings men) man from to (λ u u_in free. let o = off u free in ((λ e. o.0 (sym e)), (λ e. o.1.0 (sym e)))) (reached man from to is at there)

    left_so : (left : Left) (man : Man) (from to : ℕ) → man ≡ leads.man → from ≡ m.from → to ≡ m.to → AreLeft (placed p.men from to man) left → AreLeft q.men left
    left_so left man from to is at there are = subst (λ (x : Placement). AreLeft x left) (placed_so man from to is at there) are

    by_king : king_of side ≡ leads.man → king_of_men men side ≡ m.from → Victim → Result
    by_king is at (inl (enemy, there)) =
        result (left_of (with_king men side a) men.last b) (inl (enemy, near a is at there, refl)) last_other
        (left_so (left_of (with_king men side a) men.last b) (king_of side) (king_of_men men side) a is at there king_takes_one)
    by_king is at (inr (enemy, there)) =
        result (left_of (with_king men side b) men.first a) (inr (inl (enemy, near b is at there, refl))) one_other
        (left_so (left_of (with_king men side b) men.first a) (king_of side) (king_of_men men side) b is at there king_takes_last)

    by_one : men.first ≡ leads.man → a ≡ m.from → Victim → Result
    by_one is at (inl (enemy, there)) = absurd (sides_differ side (sym own ∙ ap (λ (x : Man). x.side) (sym is) ∙ enemy))
    by_one is at (inr (enemy, there)) =
        result (left_of men men.first b) (inr (inr (inl (ap (λ (x : Man). x.side) is ∙ own, enemy, past men.first a b is at there, refl)))) one_other
        (left_so (left_of men men.first b) men.first a b is at there one_takes)

    by_last : men.last ≡ leads.man → b ≡ m.from → Victim → Result
    by_last is at (inl (enemy, there)) =
        result (left_of men men.last a) (inr (inr (inr (ap (λ (x : Man). x.side) is ∙ own, enemy, past men.last b a is at there, refl)))) last_other
        (left_so (left_of men men.last a) men.last b a is at there last_takes)
    by_last is at (inr (enemy, there)) = absurd (sides_differ side (sym own ∙ ap (λ (x : Man). x.side) (sym is) ∙ enemy))

    pub goes : Result
    goes = elim mover [
      | inl k ↦ by_king k.0 k.1 victim
      | inr other ↦ elim other [
        | inl k ↦ by_one k.0 k.1 victim
        | inr k ↦ by_last k.0 k.1 victim
      ]
    ]
