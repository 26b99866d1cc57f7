-- Blocks of scores after a capture in passing.
use Rattle.std.proofs.Common.{◌||◌, ℕ, false, if◌then◌else◌, length, get_or, get_or-set_other, arith, subst, slice_index}
use Rattle.std.proofs.Common.{◌≡◌, ◌+◌, ◌/◌, ◌%◌, ◌<◌, Bool, true, not, ltb, eqb, List, [], refl, sym, ap, ◌∙◌, inl, inr}
use Rattle.egt_blocks.specs.Prelude.{list_any, cases_eq, cases_lt, MayStand, all_below, materials, IsLoneMan, has_pawns}
use Rattle.egt_blocks.specs.Prelude.{false≢true, le-ltb, length-set, passes_below, material_of, IsPastPawns, IsPastKings}
use Rattle.egt_blocks.specs.Prelude.{lt-ltb, set, ahead, P, Man, Side, Stand, at, left_of, IsRead}
use Rattle.egt_blocks.specs.Prelude.{get_or-set_at, Reaches-on_board, turned_square, IsSomeTurnedCode, ArePassingCodes}
use Rattle.egt_blocks.specs.Prelude.{Reaches, pawn_of, rank_of, IsListed, TellsMen, list_of, ShelfMen, IsRaised, is_pawn}
use Rattle.egt_blocks.specs.Prelude.{other_side, turned_man, symmetries, lone_stand, men_beside, IsAtPassed, stand_left}
use Rattle.egt_blocks.proofs.BlockRaising.{raised_alike, raised_by_none}
use Rattle.egt_blocks.proofs.LoneRead.{some_home}
use Rattle.egt_blocks.proofs.QuietRaising.{raised_through}
use Rattle.egt_board.proofs.Parts.{tails}

-- ---- no code has a pawn on the first rank or the last

edge : ℕ → Bool
edge t = ltb t 8 || not (ltb t 56)

-- a turn of a class with pawns leaves those ranks in their place, or exchanges them
edge_stays : Bool → ℕ → ℕ → Bool
edge_stays flips n t = not (edge t) || edge (turned_square n flips t)

edges_stay : (flips : Bool) → all_below (λ n. all_below (edge_stays flips n) 64) 2 ≡ true
unfolding all_below edge_stays edge
edges_stay true = refl
edges_stay false = refl

or_true : (b : Bool) → (b || true) ≡ true
or_true b = grind arith

past_pawns : (t : ℕ) → IsPastPawns t → edge t ≡ true
unfolding edge
past_pawns t (inl low) = ap (λ b. b || not (ltb t 56)) (lt-ltb t 8 low)
past_pawns t (inr high) = ap (λ b. ltb t 8 || not b) (le-ltb t 56 high) ∙ or_true (ltb t 8)

no_edge : (t : ℕ) → edge t ≡ true → 0 < rank_of t → rank_of t < 7 → ⊥
unfolding edge
no_edge t is low high = elim (cases_lt t 8) [
  | inl less ↦ omega (arith, less, low)
  | inr from ↦ elim (cases_lt t 56) [
    | inl to ↦ false≢true (sym (ap (λ b. b || not (ltb t 56)) (le-ltb t 8 from) ∙ ap not (lt-ltb t 56 to)) ∙ is)
    | inr over ↦ omega (arith, over, high)
  ]
]

turned_edge : (flips : Bool) (n t : ℕ) → n < 2 → t < 64 → edge t ≡ true → edge (turned_square n flips t) ≡ true
unfolding edge_stays
turned_edge flips n t n_in t_in is = sym (ap (λ b. not b || edge (turned_square n flips t)) is) ∙ passes_below (edge_stays flips n) 64 t (passes_below (λ n. all_below (edge_stays flips n) 64) 2 n (edges_stay flips) n_in) t_in

-- a pawn beside the kings makes a class one with pawns
shows_pawns : ℕ → Bool
shows_pawns c = not (list_any (λ (m : Man). is_pawn m.kind) (men_beside (material_of c))) || has_pawns (material_of c)

all_show : all_below shows_pawns 36 ≡ true
unfolding all_below shows_pawns material_of materials
all_show = refl

lone_pawn : (c : ℕ) (man : Man) → c < 36 → IsLoneMan c man → man.kind ≡ P → has_pawns (material_of c) ≡ true
unfolding shows_pawns
lone_pawn c man c_in is pawn =
    let any : list_any (λ (m : Man). is_pawn m.kind) (men_beside (material_of c)) ≡ true = ap (list_any (λ (m : Man). is_pawn m.kind)) (sym (tails (tails is.are))) ∙ ap (λ k. is_pawn k || false) pawn in
    sym (ap (λ b. not b || has_pawns (material_of c)) any) ∙ passes_below shows_pawns 36 c all_show c_in

turned_kind : (flips : Bool) (man : Man) → (turned_man flips man).kind ≡ man.kind
turned_kind flips man = grind arith

module _ (c : ℕ) (worth : ℕ → ℕ) (flips : Bool) (man : Man) (pawn : man.kind ≡ P) (c_in : c < 36) (lone : IsLoneMan c (turned_man flips man))
    (pawns : (targeted : Bool) (c code : ℕ) (stand : Stand) (side : Side) (man : Man) (s : ℕ) → TellsMen targeted c code stand side → IsListed (list_of stand) man s → MayStand man s) where
  pub none_past : (white black s : ℕ) (side : Side) (code : ℕ) → s < 64 → IsPastPawns s → ¬ IsSomeTurnedCode c code flips (lone_stand white black (turned_man flips man) s) side
  none_past white black s side code s_in past some =
      let kind : (turned_man flips man).kind ≡ P = turned_kind flips man ∙ pawn in
      let home = some_home c worth (turned_man flips man) white black flips side c_in lone s code some in
      let few : home.0 % 8 < 2 = subst (λ b. home.0 % 8 < symmetries b) (lone_pawn c (turned_man flips man) c_in lone kind) home.1.keeps in
      let there : ℕ = turned_square (home.0 % 8) (eqb (home.0 / 8) 1) s in
      let may = pawns false c code _ _ (turned_man flips man) there home.2 (inr (inr (inl (refl, refl)))) kind in
      no_edge there (turned_edge (eqb (home.0 / 8) 1) (home.0 % 8) s few s_in (past_pawns s past)) may.0 may.1

-- ---- rows set one by one

pub record RowsAre (Is : (a b v : ℕ) → Type 0) (out : List (List ℕ)) (n : ℕ) : Type 0 where
  pub long : length out ≡ 64
  pub done : (a b : ℕ) → a < n → b < 64 → Is a b (at out a b)

pub rows_set : (Is : (a b v : ℕ) → Type 0) (out : List (List ℕ)) (n : ℕ) (row : List ℕ) → n < 64 → RowsAre Is out n → ((b : ℕ) → b < 64 → Is n b (get_or row b 0)) → RowsAre Is (set out n row) (n + 1)
rows_set Is out n row n_in r here = record {
  long = omega (arith, r.long, length-set {A = List ℕ});
  done = λ a b a_in b_in. elim (cases_eq a n) [
    | inl e ↦
        let now : at (set out n row) a b ≡ get_or row b 0 = ap (λ x. get_or x b 0) (get_or-set_at out n a row [] e (omega (arith, r.long))) in
        subst (Is a b) (sym now) (subst (λ m. Is m b (get_or row b 0)) (sym e) (here b b_in))
    | inr other ↦
        let same : at (set out n row) a b ≡ at out a b = ap (λ x. get_or x b 0) (get_or-set_other out n a row [] other) in
        subst (Is a b) (sym same) (r.done a b (omega arith) b_in)
  ];
}

-- ---- captures in passing

module _ (c : ℕ) (worth : ℕ → ℕ) (flips : Bool) (men : ShelfMen) (side : Side) (a b : ℕ) where
  abbrev pub Passing : ℕ → Type 0
  Passing = ArePassingCodes c flips men side a b

  module _ (mine : men.last ≡ pawn_of side) (theirs : men.first ≡ pawn_of (other_side side)) (c_in : c < 36) (lone : IsLoneMan c (turned_man flips men.last))
      (pawns : (targeted : Bool) (c code : ℕ) (stand : Stand) (side : Side) (man : Man) (s : ℕ) → TellsMen targeted c code stand side → IsListed (list_of stand) man s → MayStand man s)
      (scores : List ℕ) (read : (u : ℕ) → u < 64 → IsRead c worth flips (stand_left flips (left_of men men.last u)) (other_side side) (slice_index scores u)) where
    abbrev to : ℕ
    to = ahead side a

    abbrev Takes : ℕ → Type 0
    Takes u = (u ≡ to) × Reaches (IsPastKings men) men.last b u

    abbrev Left : (u code : ℕ) → Type 0
    Left u code = IsSomeTurnedCode c code flips (stand_left flips (left_of men men.last u)) (other_side side)

    passing_back : (code : ℕ) → (u : ℕ) × Takes u × Left u code → Passing code
    passing_back code h = (
      record {
        pawn = ap (λ (x : Man). x.kind) mine;
        mine = ap (λ (x : Man). x.side) mine;
        other_pawn = ap (λ (x : Man). x.kind) theirs;
        theirs = ap (λ (x : Man). x.side) theirs;
        reaches = subst (Reaches (IsPastKings men) men.last b) h.1.0 h.1.1;
      },
      subst (λ u. Left u code) h.1.0 h.2,
    )

    pub all_passing : (arrived takes nothings : List (List ℕ)) → ((u v : ℕ) → u < 64 → v < 64 → at nothings u v ≡ 0) → b < 64 → ((u : ℕ) → u < 64 → at arrived u b ≡ at takes b u)
        → ((u : ℕ) → u < 64 → IsRaised (at nothings b u) (λ v. (v ≡ u) × Reaches (IsPastKings men) men.last b v) (slice_index scores) (at takes b u)) → (v : ℕ) → IsAtPassed side arrived a b v → IsRaised 0 Passing worth v
    all_passing arrived takes nothings none b_in turned raised v (inl here) =
        let zero = none b to b_in here.0 in
        let is : v ≡ at takes b to = here.1 ∙ turned to here.0 in
        subst (IsRaised 0 Passing worth) (sym is)
        (raised_alike 0 (at takes b to) (λ code. (u : ℕ) × Takes u × Left u code) Passing worth
        (raised_through 0 (at takes b to) Takes Left worth (slice_index scores) (λ u h. read u (let same = h.0 in let in_board = here.0 in omega (arith, same, in_board))) (subst (λ n. IsRaised n Takes (slice_index scores) (at takes b to)) zero (raised to here.0)))
        (λ code h. (to, (refl, h.0.reaches), h.1))
        passing_back)
    all_passing arrived takes nothings none b_in turned raised v (inr past) =
        subst (IsRaised 0 Passing worth) (sym past.1)
        (raised_by_none 0 Passing worth
        (λ code h. none_past c worth flips men.last (ap (λ (x : Man). x.kind) mine) c_in lone pawns (if flips then men.black else men.white) (if flips then men.white else men.black) to (other_side side) code (Reaches-on_board (IsPastKings men) men.last b to h.0.reaches) past.0 h.1))
