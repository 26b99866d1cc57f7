-- A position's fields and the setup that they show.
use Rattle.std.specs.Prelude.{◌≡◌, ℕ, Bool, true, false, cond, ◌&&◌, List, [], ◌∷◌, Some, None, T, refl}
use Rattle.std.proofs.Common.{ap, sym, ◌∙◌, inl, inr}
use Rattle.std.proofs.lemmas.Bool.{cases_eq}
use Rattle.std.specs.Ordering.{nat_cmp, is_lt, is_eq}
use Rattle.std.specs.declared.cmp.Ordering.{Ordering}
use Rattle.std.specs.declared.cmp.Ordering.TheVariants.{Less, Equal, Greater}
use Rattle.std.specs.FinMap as map
use Rattle.std.specs.FinMap.Entries.{below_all}
use Rattle.egt_board.specs.declared.position.Position.TheInside.{Inside}
use Rattle.egt_board.specs.declared.man.Side.{Side}
use Rattle.egt_board.specs.declared.man.Side.TheVariants.{White, Black}
use Rattle.egt_board.specs.declared.man.Kind.{Kind}
use Rattle.egt_board.specs.declared.man.Kind.TheVariants.{Q, R, B, N, P, K}
use Rattle.egt_board.specs.declared.man.Man.{Man}
use Rattle.egt_board.specs.Attack.{king_of}
use Rattle.egt_board.specs.Placement.{Placement, tied, untied}
use Rattle.egt_board.specs.Board.{InOrder}
use Rattle.egt_board.specs.Setup.{Setup, IsAdmissible, IsKingOn}

abbrev pub shown : Inside → Setup
shown a = record { men = a.board; side = a.side; target = a.target }

-- the setup is admissible, and the kings are where the fields say
pub record IsWhole (a : Inside) : Type 0 where
  pub admissible : IsAdmissible (shown a)
  pub white : IsKingOn a.board White a.white_king
  pub black : IsKingOn a.board Black a.black_king

abbrev pub are_same_side : Side → Side → Bool
are_same_side White White = true
are_same_side Black Black = true
are_same_side White Black = false
are_same_side Black White = false

abbrev pub is_king_kind : Kind → Bool
is_king_kind K = true
is_king_kind Q = false
is_king_kind R = false
is_king_kind B = false
is_king_kind N = false
is_king_kind P = false

-- the square of that side's king among these men, and 0 where there is none
abbrev pub king_among : Side → List (ℕ × Man) → ℕ
king_among side [] = 0
king_among side (e ∷ es) = cond (are_same_side side e.1.side && is_king_kind e.1.kind) e.0 (king_among side es)

-- the fields that show the setup
abbrev pub fields_of : Setup → Inside
fields_of p = record {
  board = p.men;
  side = p.side;
  target = p.target;
  white_king = king_among White (map.entries p.men);
  black_king = king_among Black (map.entries p.men);
}

is_king : (side : Side) (man : Man) → (are_same_side side man.side && is_king_kind man.kind) ≡ true → man ≡ king_of side
is_king side man h = λ i. record { side = same side man.side man.kind h i; kind = kind side man.side man.kind h i }
  where
    bad : {A : Type 0} → false ≡ true → A
    bad e = absurd (cc)

    same : (a b : Side) (k : Kind) → (are_same_side a b && is_king_kind k) ≡ true → b ≡ a
    same White White k h = refl
    same Black Black k h = refl
    same White Black k h = bad h
    same Black White k h = bad h

    of_kind : (k : Kind) → is_king_kind k ≡ true → k ≡ K
    of_kind K h = refl
    of_kind Q h = bad h
    of_kind R h = bad h
    of_kind B h = bad h
    of_kind N h = bad h
    of_kind P h = bad h

    kind : (a b : Side) (k : Kind) → (are_same_side a b && is_king_kind k) ≡ true → k ≡ K
    kind White White k h = of_kind k h
    kind Black Black k h = of_kind k h
    kind White Black k h = bad h
    kind Black White k h = bad h

king_itself : (side : Side) → (are_same_side side side && is_king_kind K) ≡ true
king_itself White = refl
king_itself Black = refl

-- below the first of them there is none
pub find-below : (q : ℕ) (es : List (ℕ × Man)) → T (below_all nat_cmp q es) → map.find nat_cmp q es ≡ None
find-below q [] h = refl
find-below q (e ∷ es) h = go (nat_cmp q e.0) h (find-below q es)
  where
    go : (o : Ordering) → T (is_lt o && below_all nat_cmp q es) → (T (below_all nat_cmp q es) → map.find nat_cmp q es ≡ None) → cond (is_eq o) (Some e.1) (map.find nat_cmp q es) ≡ None
    go Less h rest = rest h
    go Equal h rest = absurd h
    go Greater h rest = absurd h

pub first_half : (a b : Bool) → T (a && b) → T a
first_half true b h = tt
first_half false b h = absurd h

pub second_half : (a b : Bool) → T (a && b) → T b
second_half true b h = h
second_half false b h = absurd h

-- the king that stands there alone is the one that is found
king_found : (side : Side) (s : ℕ) (es : List (ℕ × Man)) → InOrder es → map.find nat_cmp s es ≡ Some (king_of side)
    → ((t : ℕ) → map.find nat_cmp t es ≡ Some (king_of side) → t ≡ s) → king_among side es ≡ s
king_found side s [] sorted there only = let bad : None ≡ Some (king_of side) = there in absurd (cc)
king_found side s (e ∷ es) sorted there only =
    elim (are_same_side side e.1.side && is_king_kind e.1.kind) as (λ b. (are_same_side side e.1.side && is_king_kind e.1.kind) ≡ b → cond b e.0 (king_among side es) ≡ s) [
      | true ↦ λ h. only e.0 (ap (λ b. cond b (Some e.1) (map.find nat_cmp e.0 es)) (tied e.0 e.0 refl) ∙ ap Some (is_king side e.1 h))
      | false ↦ λ h. elim (cases_eq s e.0) [
        | inl here ↦
            let both : Some e.1 ≡ Some (king_of side) = sym (ap (λ b. cond b (Some e.1) (map.find nat_cmp s es)) (tied s e.0 here)) ∙ there in
            let same : e.1 ≡ king_of side = cc in
            let bad : false ≡ true = sym h ∙ ap (λ (m : Man). are_same_side side m.side && is_king_kind m.kind) same ∙ king_itself side in
            absurd (cc)
        | inr other ↦ king_found side s es (second_half _ _ sorted)
            (sym (ap (λ b. cond b (Some e.1) (map.find nat_cmp s es)) (untied s e.0 other)) ∙ there)
            (λ t found. elim (cases_eq t e.0) [
              | inl same ↦
                  let none : map.find nat_cmp t es ≡ None = ap (λ q. map.find nat_cmp q es) same ∙ find-below e.0 es (first_half _ _ sorted) in
                  let bad : None ≡ Some (king_of side) = sym none ∙ found in absurd (cc)
              | inr apart ↦ only t (ap (λ b. cond b (Some e.1) (map.find nat_cmp t es)) (untied t e.0 apart) ∙ found)
            ])
      ]
    ] refl

king_back : (men : Placement) (side : Side) (s : ℕ) → IsKingOn men side s → king_among side (map.entries men) ≡ s
king_back men side s king =
    king_found side s (map.entries men) (map.entries_sorted men) (sym (map.get-entries men s) ∙ king.stands)
    (λ t found. king.only t (map.get-entries men t ∙ found))

-- the fields come back from what they show
pub fields_of-shown : (a : Inside) → IsWhole a → fields_of (shown a) ≡ a
fields_of-shown a whole = λ i. record {
  board = a.board;
  side = a.side;
  target = a.target;
  white_king = king_back a.board White a.white_king whole.white i;
  black_king = king_back a.board Black a.black_king whole.black i;
}
