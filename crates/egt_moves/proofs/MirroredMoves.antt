-- In a mirror each legal move has its like.
use Rattle.std.proofs.Common.{◌≡◌, ◌≢◌, ℕ, ◌<◌, Bool, true, false, if◌then◌else◌, Option, Some, None, arith, refl, sym}
use Rattle.std.proofs.Common.{ap, ◌∙◌, subst, inl, inr}
use Rattle.egt_moves.specs.Prelude.{option_map, cases_eq, false≢true, and_parts, eqb_tells, Mirror, Files, Ranks}
use Rattle.egt_moves.specs.Prelude.{Diagonal, Colours, Side, Kind, Man, other_side, rank_of, Placement, Stands, IsFree}
use Rattle.egt_moves.specs.Prelude.{IsOccupiedBy, get-remove_same, get-remove_other, ahead, HasNoPawn, king_of, IsAttacked}
use Rattle.egt_moves.specs.Prelude.{IsInCheck, Setup, IsAdmissible, square_by, side_by, man_by, IsMirrored, Allows}
use Rattle.egt_moves.specs.Prelude.{Move, chess, Zeroes, Goes, is_pawn, promotes, FitsPromotion, arriving, Leads}
use Rattle.egt_moves.specs.Prelude.{is_target, takes_in_passing, men_left, men_after, is_two_ranks, passed, after}
use Rattle.egt_moves.specs.Prelude.{Alike, HasLike, AreMirrored, IsCheckmate, goes_on_board}
use Rattle.std.specs.FinMap as map
use Rattle.egt_board.specs.MirrorLaws as mirrors
use Rattle.egt_moves.proofs.MenAfter.{target_is, after_to, after_from, after_other, after_cases}
use Rattle.egt_moves.proofs.Admissible.{admissible_after, arrived_pawn, pawn_told}

-- a mirror that the men allow is allowed by their image
allows_by : (m : Mirror) (men men' : Placement) → mirrors.ShowsMen m men men' → mirrors.OnBoard men' → Allows m men → Allows m men'
allows_by Files men men' shows ok' allows = tt
allows_by Ranks men men' shows ok' allows = mirrors.no_pawn_by Ranks men men' shows ok' allows
allows_by Diagonal men men' shows ok' allows = mirrors.no_pawn_by Diagonal men men' shows ok' allows
allows_by Colours men men' shows ok' allows = tt

target_within : (p : Setup) (t : ℕ) → IsAdmissible p → p.target ≡ Some t → t < 64
target_within p t ok e = let high = (mirrors.target_between p.side t (target_is p t ok e).rank).1 in omega arith

-- the mirror seen from its other side
pub back_again : (m : Mirror) (p p' : Setup) → AreMirrored m p p' → AreMirrored m p' p
back_again m p p' r = record {
  here = r.there;
  there = r.here;
  mirrored = record {
    men = λ t t_in. option_twice (map.get p'.men t) (map.get p.men (square_by m t)) (mirrors.shows_back m p.men p'.men r.mirrored.men t t_in);
    side = sym (mirrors.side_by-twice m p.side) ∙ ap (side_by m) (sym r.mirrored.side);
    target = target_back p.target refl;
    on_board = r.here.on_board;
  };
  allowed = allows_by m p.men p'.men r.mirrored.men r.there.on_board r.allowed;
}
  where
    option_twice : (x y : Option Man) → x ≡ option_map (man_by m) y → y ≡ option_map (man_by m) x
    option_twice x None e = sym (ap (option_map (man_by m)) e)
    option_twice x (Some man) e = ap Some (sym (mirrors.man_by-twice m man)) ∙ sym (ap (option_map (man_by m)) e)

    target_there : (o : Option ℕ) → p.target ≡ o → option_map (square_by m) p'.target ≡ option_map (square_by m) (option_map (square_by m) o)
    target_there o e = ap (option_map (square_by m)) (r.mirrored.target ∙ ap (option_map (square_by m)) e)

    target_back : (o : Option ℕ) → p.target ≡ o → p.target ≡ option_map (square_by m) p'.target
    target_back None e = e ∙ sym (target_there None e)
    target_back (Some t) e = e ∙ ap Some (sym (mirrors.square_by-twice m t (target_within p t r.here e))) ∙ sym (target_there (Some t) e)

stands_there : (m : Mirror) (p p' : Setup) (s : ℕ) (man : Man) → AreMirrored m p p' → Stands p.men s man → Stands p'.men (square_by m s) (man_by m man)
stands_there m p p' s man r stands = r.mirrored.men s (r.here.on_board s man stands) ∙ ap (option_map (man_by m)) stands

free_there : (m : Mirror) (p p' : Setup) (s : ℕ) → AreMirrored m p p' → s < 64 → IsFree p.men s → IsFree p'.men (square_by m s)
free_there m p p' s r s_in free = r.mirrored.men s s_in ∙ ap (option_map (man_by m)) free

held_there : (m : Mirror) (p p' : Setup) (s : ℕ) (side : Side) → AreMirrored m p p' → IsOccupiedBy p.men s side → IsOccupiedBy p'.men (square_by m s) (side_by m side)
held_there m p p' s side r held = record {
  man = man_by m held.man;
  stands = stands_there m p p' s held.man r held.stands;
  theirs = ap (side_by m) held.theirs;
}

check_there : (m : Mirror) (men men' : Placement) (side : Side) → Allows m men' → mirrors.ShowsMen m men' men → mirrors.OnBoard men → IsInCheck men side → IsInCheck men' (side_by m side)
check_there m men men' side allows shows ok check =
    let t_in = ok check.square _ check.stands in
    record {
      square = square_by m check.square;
      stands = mirrors.stands_back m men' men shows check.square (king_of side) t_in check.stands;
      attacked = subst (IsAttacked men' (square_by m check.square)) (mirrors.side_by-other m side) (mirrors.attacked_back m men' men (other_side side) check.square allows shows ok check.attacked);
    }

-- a move in the mirror
unfoldable pub move_by : Mirror → Move → Move
move_by m x = record { from = square_by m x.from; to = square_by m x.to; promo = x.promo }

apart_there : (m : Mirror) (a b : ℕ) → a < 64 → b < 64 → a ≢ b → square_by m a ≢ square_by m b
apart_there m a b a_in b_in apart = λ e. apart (sym (mirrors.square_by-twice m a a_in) ∙ ap (square_by m) e ∙ mirrors.square_by-twice m b b_in)

other_side_there : (m : Mirror) (p p' : Setup) → AreMirrored m p p' → side_by m (other_side p.side) ≡ other_side p'.side
other_side_there m p p' r = mirrors.side_by-other m p.side ∙ ap other_side (sym r.mirrored.side)

-- a man of this side, there of the side that it becomes
held_back : (m : Mirror) (p p' : Setup) (s : ℕ) → AreMirrored m p p' → s < 64 → IsOccupiedBy p'.men (square_by m s) p'.side → IsOccupiedBy p.men s p.side
held_back m p p' s r s_in held = grind (arith, mirrors.square_by-twice, square_by, side_by)

goes_there : (m : Mirror) (p p' : Setup) (man : Man) (from to : ℕ) → AreMirrored m p p' → Stands p.men from man → Goes p man from to → Goes p' (man_by m man) (square_by m from) (square_by m to)
goes_there m p p' man from to r stands goes = by_way goes
  where
    from_in : from < 64
    from_in = r.here.on_board from man stands

    suits : mirrors.Suits m man.kind
    suits = mirrors.suits_of m p.men from man r.allowed stands

    free : (u : ℕ) → u < 64 → IsFree p.men u → IsFree p'.men (square_by m u)
    free u u_in = free_there m p p' u r u_in

    by_way : Goes p man from to → Goes p' (man_by m man) (square_by m from) (square_by m to)
    by_way (inl piece) = inl (record {
      piece = piece.piece;
      reaches = mirrors.Reaches-by m (IsFree p.men) (IsFree p'.men) man from to suits from_in free piece.reaches;
      not_own = λ held. piece.not_own (held_back m p p' to r (goes_on_board p man from to goes) held);
    })
    by_way (inr (inl advance)) = inr (inl (record {
      pawn = advance.pawn;
      advances = mirrors.Advances-by m (IsFree p.men) (IsFree p'.men) man.side from to (subst (mirrors.Suits m) advance.pawn suits) from_in free advance.advances;
    }))
    by_way (inr (inr takes)) = inr (inr (record {
      pawn = takes.pawn;
      reaches = mirrors.Reaches-by m (IsFree p.men) (IsFree p'.men) man from to suits from_in free takes.reaches;
      takes = elim takes.takes [
        | inl held ↦ inl (subst (IsOccupiedBy p'.men (square_by m to)) (other_side_there m p p' r) (held_there m p p' to (other_side p.side) r held))
        | inr target ↦ inr (r.mirrored.target ∙ ap (option_map (square_by m)) target)
      ];
    }))

-- a pawn is promoted in the mirror where it is promoted here
promotes_there : (m : Mirror) (man : Man) (to : ℕ) → mirrors.Suits m man.kind → to < 64 → promotes (man_by m man) (square_by m to) ≡ promotes man to
promotes_there m man to suits to_in = grind (arith, mirrors.Suits, is_pawn, rank_of)

arriving_there : (m : Mirror) (man : Man) (promo : Option Kind) → arriving (man_by m man) promo ≡ man_by m (arriving man promo)
arriving_there m man promo = grind arith

target_told : (target : Option ℕ) (to : ℕ) → is_target target to ≡ true → target ≡ Some to
target_told target to e = grind (arith, false≢true, eqb_tells)

takes_in_passing_there : (m : Mirror) (p p' : Setup) (man : Man) (to : ℕ) → AreMirrored m p p' → to < 64 → takes_in_passing p' (man_by m man) (square_by m to) ≡ takes_in_passing p man to
takes_in_passing_there m p p' man to r to_in = grind (arith, is_pawn, is_target, square_by)

-- the men without a pawn taken in passing, here and in the mirror
left_there : (m : Mirror) (p p' : Setup) (man : Man) (to t : ℕ) → AreMirrored m p p' → mirrors.Suits m man.kind → to < 64 → t < 64 → map.get (men_left p' (man_by m man) (square_by m to)) (square_by m t) ≡ option_map (man_by m) (map.get (men_left p man to) t)
left_there m p p' man to t r suits to_in t_in = by_test (takes_in_passing p man to) refl (takes_in_passing_there m p p' man to r to_in)
  where
    taken : ℕ
    taken = ahead (other_side p.side) to

    taken' : ℕ
    taken' = ahead (other_side p'.side) (square_by m to)

    either : Bool → Type 0
    either b = map.get (if b then map.remove p'.men taken' else p'.men) (square_by m t) ≡ option_map (man_by m) (map.get (if b then map.remove p.men taken else p.men) t)

    removed : takes_in_passing p man to ≡ true → either true
    removed e =
        let pawn = pawn_told man.kind (and_parts (is_pawn man.kind) _ e).0 in
        let between = mirrors.target_between p.side to (target_is p to r.here (target_told p.target to (and_parts (is_pawn man.kind) _ e).1)).rank in
        let same : taken' ≡ square_by m taken =
        ap (λ side. ahead side (square_by m to)) (sym (other_side_there m p p' r)) ∙ sym (mirrors.ahead_by m (other_side p.side) to (subst (mirrors.Suits m) pawn suits) between.0 between.1) in
        let taken_in = ahead_within (other_side p.side) to between.0 between.1 in
        elim (cases_eq t taken) [
          | inl f ↦ get-remove_same p'.men taken' (square_by m t) (ap (square_by m) f ∙ sym same) ∙ sym (ap (option_map (man_by m)) (get-remove_same p.men taken t f))
          | inr apart ↦
              get-remove_other p'.men taken' (square_by m t) (λ f. apart_there m t taken t_in taken_in apart (f ∙ same))
              ∙ r.mirrored.men t t_in ∙ sym (ap (option_map (man_by m)) (get-remove_other p.men taken t apart))
        ]
      where
        ahead_within : (side : Side) (s : ℕ) → 0 < rank_of s → rank_of s < 7 → ahead side s < 64
        ahead_within side s low high = grind arith

    by_test : (b : Bool) → takes_in_passing p man to ≡ b → takes_in_passing p' (man_by m man) (square_by m to) ≡ takes_in_passing p man to → map.get (men_left p' (man_by m man) (square_by m to)) (square_by m t) ≡ option_map (man_by m) (map.get (men_left p man to) t)
    by_test false e e' =
        ap (λ b. map.get (if b then map.remove p'.men taken' else p'.men) (square_by m t)) (e' ∙ e)
        ∙ r.mirrored.men t t_in ∙ sym (ap (λ b. option_map (man_by m) (map.get (if b then map.remove p.men taken else p.men) t)) e)
    by_test true e e' =
        ap (λ b. map.get (if b then map.remove p'.men taken' else p'.men) (square_by m t)) (e' ∙ e)
        ∙ removed e ∙ sym (ap (λ b. option_map (man_by m) (map.get (if b then map.remove p.men taken else p.men) t)) e)

-- the men after a move and after its like in the mirror
men_there : (m : Mirror) (p p' : Setup) (man : Man) (x : Move) → AreMirrored m p p' → mirrors.Suits m man.kind → x.from < 64 → x.to < 64 → mirrors.ShowsMen m (men_after p man x) (men_after p' (man_by m man) (move_by m x))
unfolding move_by
men_there m p p' man x r suits from_in to_in = λ t t_in. elim (cases_eq t x.to) [
  | inl e ↦
      ap (map.get (men_after p' (man_by m man) (move_by m x))) (ap (square_by m) e) ∙ after_to p' (man_by m man) (move_by m x)
      ∙ ap Some (arriving_there m man x.promo)
      ∙ sym (ap (option_map (man_by m)) (ap (map.get (men_after p man x)) e ∙ after_to p man x))
  | inr not_to ↦ elim (cases_eq t x.from) [
    | inl e ↦
        let apart : x.from ≢ x.to = λ f. not_to (e ∙ f) in
        ap (map.get (men_after p' (man_by m man) (move_by m x))) (ap (square_by m) e) ∙ after_from p' (man_by m man) (move_by m x) (apart_there m x.from x.to from_in to_in apart)
        ∙ sym (ap (option_map (man_by m)) (ap (map.get (men_after p man x)) e ∙ after_from p man x apart))
    | inr not_from ↦
        after_other p' (man_by m man) (move_by m x) (square_by m t) (apart_there m t x.from t_in from_in not_from) (apart_there m t x.to t_in to_in not_to)
        ∙ left_there m p p' man x.to t r suits to_in t_in ∙ sym (ap (option_map (man_by m)) (after_other p man x t not_from not_to))
  ]
]

on_board_after : (p : Setup) (man : Man) (x : Move) → IsAdmissible p → x.to < 64 → mirrors.OnBoard (men_after p man x)
on_board_after p man x ok to_in s other there = grind (arith, after_cases)

-- no move makes a pawn
pub no_pawn_after : (p : Setup) (man : Man) (x : Move) → IsAdmissible p → Stands p.men x.from man → FitsPromotion (promotes man x.to) x.promo → HasNoPawn p.men → HasNoPawn (men_after p man x)
no_pawn_after p man x ok stands fits none s other there pawn = grind (arith, after_cases, arrived_pawn)

allows_after : (m : Mirror) (p : Setup) (man : Man) (x : Move) → IsAdmissible p → Stands p.men x.from man → FitsPromotion (promotes man x.to) x.promo → Allows m p.men → Allows m (men_after p man x)
allows_after m p man x ok stands fits allows = grind (arith, no_pawn_after)

-- the square that a pawn passes, here and in the mirror
passed_there : (m : Mirror) (p : Setup) (man : Man) (from to : ℕ) → mirrors.Suits m man.kind → from < 64 → Goes p man from to → passed (man_by m man) (square_by m from) (square_by m to) ≡ option_map (square_by m) (passed man from to)
passed_there m p man from to suits from_in goes = grind (arith, is_pawn, is_two_ranks, mirrors.Suits)

-- a legal move has its like in the mirror
pub leads_there : (m : Mirror) (p p' q : Setup) (x : Move) → AreMirrored m p p' → Leads p x q → (q' : Setup) × Leads p' (move_by m x) q' × AreMirrored m q q'
unfolding move_by
leads_there m p p' q x r l = (
  after p' man' x',
  record { man = man'; stands = stands'; mine = mine'; goes = goes'; promotion = promotion'; becomes = refl; safe = safe' },
  record {
    here = subst IsAdmissible (sym l.becomes) (admissible_after p man x l.stands l.mine l.goes l.promotion r.here safe);
    there = admissible_after p' man' x' stands' mine' goes' promotion' r.there safe';
    mirrored = subst (λ y. IsMirrored m y (after p' man' x')) (sym l.becomes) (record {
      men = shows;
      side = sym (other_side_there m p p' r);
      target = passed_there m p man x.from x.to suits from_in l.goes;
      on_board = on_board_after p' man' x' r.there (mirrors.square_by-within m x.to to_in);
    });
    allowed = subst (λ (y : Setup). Allows m y.men) (sym l.becomes) allows;
  },
)
  where
    man : Man
    man = l.man

    man' : Man
    man' = man_by m l.man

    x' : Move
    x' = move_by m x

    from_in : x.from < 64
    from_in = r.here.on_board x.from l.man l.stands

    to_in : x.to < 64
    to_in = goes_on_board p l.man x.from x.to l.goes

    suits : mirrors.Suits m l.man.kind
    suits = mirrors.suits_of m p.men x.from l.man r.allowed l.stands

    allows : Allows m (men_after p l.man x)
    allows = allows_after m p l.man x r.here l.stands l.promotion r.allowed

    stands' : Stands p'.men x'.from man'
    stands' = stands_there m p p' x.from l.man r l.stands

    mine' : man'.side ≡ p'.side
    mine' = ap (side_by m) l.mine ∙ sym r.mirrored.side

    goes' : Goes p' man' x'.from x'.to
    goes' = goes_there m p p' l.man x.from x.to r l.stands l.goes

    promotion' : FitsPromotion (promotes man' x'.to) x'.promo
    promotion' = subst (λ b. FitsPromotion b x.promo) (sym (promotes_there m l.man x.to suits to_in)) l.promotion

    shows : mirrors.ShowsMen m (men_after p man x) (men_after p' man' x')
    shows = men_there m p p' l.man x r suits from_in to_in

    safe : ¬ IsInCheck (men_after p man x) p.side
    safe = subst (λ (y : Setup). ¬ IsInCheck y.men p.side) l.becomes l.safe

    safe' : ¬ IsInCheck (men_after p' man' x') p'.side
    safe' check = safe (subst (IsInCheck (men_after p man x)) (ap (side_by m) r.mirrored.side ∙ mirrors.side_by-twice m p.side)
        (check_there m (men_after p' man' x') (men_after p man x) p'.side allows shows (on_board_after p' man' x' r.there (mirrors.square_by-within m x.to to_in)) check))

pub zeroes_there : (m : Mirror) (p p' : Setup) (x : Move) → AreMirrored m p p' → Zeroes p x → Zeroes p' (move_by m x)
unfolding move_by
zeroes_there m p p' x r zeroes = elim zeroes [
  | inl held ↦ inl (subst (IsOccupiedBy p'.men (square_by m x.to)) (other_side_there m p p' r) (held_there m p p' x.to (other_side p.side) r held))
  | inr pawn ↦ inr (record { man = man_by m pawn.man; stands = stands_there m p p' x.from pawn.man r pawn.stands; pawn = pawn.pawn })
]

-- and the like of the like is the move
pub zeroes_back : (m : Mirror) (p p' : Setup) (x : Move) → x.from < 64 → x.to < 64 → AreMirrored m p p' → Zeroes p' (move_by m x) → Zeroes p x
unfolding move_by
zeroes_back m p p' x from_in to_in r zeroes = subst (Zeroes p) same (zeroes_there m p' p (move_by m x) (back_again m p p' r) zeroes)
  where
    same : move_by m (move_by m x) ≡ x
    same = λ i. record { from = mirrors.square_by-twice m x.from from_in i; to = mirrors.square_by-twice m x.to to_in i; promo = x.promo }

like_there : (m : Mirror) (p p' q : Setup) → AreMirrored m p p' → (step : (x : Move) × Leads p x q) → HasLike chess (AreMirrored m) p p' q step
like_there m p p' q r step =
    let there = leads_there m p p' q step.0 r step.1 in
    let from_in = r.here.on_board step.0.from step.1.man step.1.stands in
    let to_in = goes_on_board p step.1.man step.0.from step.0.to step.1.goes in
    (there.0, (move_by m step.0, there.1), there.2, (zeroes_there m p p' step.0 r, zeroes_back m p p' step.0 from_in to_in r))

mate_there : (m : Mirror) (p p' : Setup) → AreMirrored m p p' → IsCheckmate p → IsCheckmate p'
mate_there m p p' r mate = record {
  stuck = λ x legal.
      let back = leads_there m p' p legal.0 x (back_again m p p' r) legal.1 in
      mate.stuck (move_by m x) (back.0, back.1);
  check =
      let back = back_again m p p' r in
      subst (IsInCheck p'.men) (sym r.mirrored.side) (check_there m p.men p'.men p.side back.allowed (λ t t_in. back.mirrored.men t t_in) r.here.on_board mate.check);
}

-- positions of which the one is the other in a mirror play alike
pub mirrored_alike : (m : Mirror) → Alike chess (AreMirrored m)
mirrored_alike m = record {
  checkmate = λ p p' r. (mate_there m p p' r, mate_there m p' p (back_again m p p' r));
  there = λ p p' q r step. like_there m p p' q r step;
  back = λ p p' q' r step.
      let like = like_there m p' p q' (back_again m p p' r) step in
      (like.0, like.1, back_again m q' like.0 like.2, like.3);
}
