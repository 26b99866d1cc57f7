-- The list of moves backwards as it grows.
use Rattle.std.proofs.Common.{◌≡◌, ℕ, ◌+◌, ◌*◌, ◌<◌, ◌≤◌, ◌↔◌, List, [], ◌∷◌, ◌++◌, arith, refl, ap, inl, inr, subst}
use Rattle.std.proofs.Common.{suc, Option}
use Rattle.egt_unmoves.specs.Prelude.{Contains, cases_lt, Contains-push, Contains-push_cases, Contains-append_left}
use Rattle.egt_unmoves.specs.Prelude.{Setup, Move, goes_on_board, Unmove, ComesBy, TakesBack, IsUnmove, place_of}
use Rattle.egt_unmoves.specs.Prelude.{target_place, ComesFirst, IsInOrder, ListsBelow}
use Rattle.egt_unmoves.proofs.Came.{same_move}

-- both squares of a move are on the board
pub squares_within : (b : Setup) (m : Move) (q : Setup) → ComesBy b m q → (m.from < 64) × (m.to < 64)
squares_within b m q c = (c.admissible.on_board m.from c.leads.man c.leads.stands, goes_on_board b c.leads.man m.from m.to c.leads.goes)

pub target_place_small : (o : Option ℕ) → target_place o < 2
target_place_small o = grind arith

Contains-none : {A : Type 0} (u : Unmove) → Contains [] u → A
Contains-none u h = absurd (omega (arith, h.1))

Contains-head : (u : Unmove) (us : List Unmove) → Contains (u ∷ us) u
Contains-head u us = (0, omega arith, refl)

Contains-tail : (u w : Unmove) (us : List Unmove) → Contains us w → Contains (u ∷ us) w
Contains-tail u w us h = (suc h.0, omega (arith, h.1), h.2)

-- an unmove that comes after all others may stand last
IsInOrder-push : (q : Setup) (us : List Unmove) (w : Unmove) → IsInOrder q us → ((u : Unmove) → Contains us u → ComesFirst q u w) → IsInOrder q (us ++ w ∷ [])
IsInOrder-push q [] w ordered before = ((λ u none. Contains-none u none), tt)
IsInOrder-push q (x ∷ us) w ordered before = (
  (λ u there. elim (Contains-push_cases us w u there) [
    | inl old ↦ ordered.0 u old
    | inr e ↦ subst (λ y. ComesFirst q x y) e (before x (Contains-head x us))
  ]),
  IsInOrder-push q us w ordered.1 (λ u there. before u (Contains-tail x u us there)),
)

-- no unmove comes before the first
pub ListsBelow-none : (q : Setup) → ListsBelow q 0 []
ListsBelow-none q = record {
  ordered = tt;
  exact = λ u. (λ none. Contains-none u none, λ h. let less = h.2 in absurd (omega arith));
}

-- the only unmove of its place may stand last
pub ListsBelow-push : (q : Setup) (k : ℕ) (us : List Unmove) (u : Unmove) (m : Move) → ListsBelow q k us → TakesBack u m q → place_of u m ≡ k
    → ((w : Unmove) (n : Move) → TakesBack w n q → place_of w n ≡ k → u ≡ w) → ListsBelow q (k + 1) (us ++ u ∷ [])
ListsBelow-push q k us u m lists takes here only = record {
  ordered = IsInOrder-push q us u lists.ordered (λ w there a b first second.
      let h = (lists.exact w).0 there in
      let less : place_of w h.0 < k = h.2 in
      let e : place_of w h.0 ≡ place_of w a = ap (place_of w) (same_move w.before h.0 a q h.1.comes first.comes) in
      let f : place_of u m ≡ place_of u b = ap (place_of u) (same_move u.before m b q takes.comes second.comes) in
      omega arith);
  exact = λ w. (
    λ there. elim (Contains-push_cases us u w there) [
      | inl old ↦ let h = (lists.exact w).0 old in let less = h.2 in (h.0, h.1, omega arith)
      | inr e ↦ subst (λ x. (n : Move) × TakesBack x n q × (place_of x n < k + 1)) e (m, takes, omega arith)
    ],
    λ h. elim (cases_lt (place_of w h.0) k) [
      | inl less ↦ Contains-append_left us (u ∷ []) w ((lists.exact w).1 (h.0, h.1, less))
      | inr most ↦
          let less = h.2 in
          let e : u ≡ w = only w h.0 h.1 (omega arith) in
          subst (Contains (us ++ u ∷ [])) e (Contains-push us u)
    ],
  );
}

-- where no unmove has one of these places, none is left out
pub ListsBelow-skip : (q : Setup) (k n : ℕ) (us : List Unmove) → k ≤ n → ListsBelow q k us
    → ((w : Unmove) (m : Move) → TakesBack w m q → k ≤ place_of w m → place_of w m < n → ⊥) → ListsBelow q n us
ListsBelow-skip q k n us le lists none = record {
  ordered = lists.ordered;
  exact = λ w. (
    λ there. let h = (lists.exact w).0 there in let less = h.2 in (h.0, h.1, omega arith),
    λ h. elim (cases_lt (place_of w h.0) k) [
      | inl less ↦ (lists.exact w).1 (h.0, h.1, less)
      | inr most ↦ absurd (none w h.0 h.1 most h.2)
    ],
  );
}

-- all places are less than this
pub ListsBelow-all : (q : Setup) (us : List Unmove) → ListsBelow q (64 * 128) us → (u : Unmove) → Contains us u ↔ IsUnmove q u
ListsBelow-all q us lists u = (
  λ there. let h = (lists.exact u).0 there in (h.0, h.1),
  λ h. (lists.exact u).1 (
    h.0,
    h.1,
    let within = squares_within u.before h.0 q h.1.comes in
        let from_in = within.0 in
        let to_in = within.1 in
        let small = target_place_small u.before.target in
        omega arith,
  ),
)
