-- Two kings in the corners are a position.
use Rattle.std.proofs.Common.{◌≡◌, ◌≢◌, ℕ, ◌+◌, ◌≤◌, ◌⊎◌, Some, None, arith, refl, sym, ap, ◌∙◌, inl, inr}
use Rattle.egt_unmoves.specs.Prelude.{is_some, nat_cmp, cases_eq, Side, White, Black, P, K, Man, king_of, IsInCheck}
use Rattle.egt_unmoves.specs.Prelude.{corners, Reaches, Placement, Stands, IsFree, get-insert_same, get-insert_other}
use Rattle.egt_unmoves.specs.Prelude.{IsAdmissible, IsKingOn}
use Rattle.std.specs.FinMap as map

no_more : (m : Placement) (s : ℕ) (man : Man) → map.len (map.insert m s man) ≤ map.len m + 1
no_more m s man = grind (arith, is_some, map.get, map.len-insert)

kings_differ : king_of White ≢ king_of Black
kings_differ e = let bad : White ≡ Black = ap (λ (x : Man). x.side) e in cc

on_white : Stands corners 0 (king_of White)
on_white = get-insert_other (map.insert map.empty 0 (king_of White)) 63 (king_of Black) 0 (omega arith) ∙ get-insert_same map.empty 0 (king_of White) 0 refl

on_black : Stands corners 63 (king_of Black)
on_black = get-insert_same (map.insert map.empty 0 (king_of White)) 63 (king_of Black) 63 refl

same : (a b : Man) → Some a ≡ Some b → a ≡ b
same a b e = cc

two_men : (s : ℕ) (man : Man) → Stands corners s man → ((s ≡ 0) × (man ≡ king_of White)) ⊎ ((s ≡ 63) × (man ≡ king_of Black))
two_men s man stands = elim (cases_eq s 63) [
  | inl e ↦ inr (e, same man (king_of Black) (sym stands ∙ get-insert_same (map.insert map.empty 0 (king_of White)) 63 (king_of Black) s e))
  | inr not_black ↦ elim (cases_eq s 0) [
    | inl e ↦
        inl (e, same man (king_of White) (sym stands ∙ get-insert_other (map.insert map.empty 0 (king_of White)) 63 (king_of Black) s not_black ∙ get-insert_same map.empty 0 (king_of White) s e))
    | inr not_white ↦
        let none : map.get corners s ≡ None = get-insert_other (map.insert map.empty 0 (king_of White)) 63 (king_of Black) s not_black
        ∙ get-insert_other map.empty 0 (king_of White) s not_white ∙ map.get-empty nat_cmp s in
        let bad : Some man ≡ None = sym stands ∙ none in absurd (cc)
  ]
]

pub white_there : IsKingOn corners White 0
white_there = grind (arith, on_white, corners, king_of, two_men, kings_differ)

pub black_there : IsKingOn corners Black 63
black_there = grind (arith, on_black, corners, king_of, two_men, kings_differ)

-- a king does not reach the other corner
too_far : Reaches (IsFree corners) (king_of White) 0 63 → ⊥
too_far h = grind arith

no_check : ¬ IsInCheck corners Black
no_check check = grind (arith, too_far, corners, king_of, black_there, two_men)

pub corners-admissible : IsAdmissible (record { men = corners; side = White; target = None })
corners-admissible = record {
  few = few;
  on_board = λ s man stands. elim (two_men s man stands) [ inl w ↦ let e = w.0 in omega arith | inr b ↦ let e = b.0 in omega arith ];
  kings = record { white = 0; black = 63; white_there = white_there; black_there = black_there };
  pawns = λ s man stands pawn. elim (two_men s man stands) [
    | inl w ↦ absurd (no_pawn man White w.1 pawn)
    | inr b ↦ absurd (no_pawn man Black b.1 pawn)
  ];
  target = tt;
  quiet = no_check;
}
  where
    few : map.len corners ≤ 4
    few =
        let none = map.len-empty nat_cmp Man in
        let one = no_more map.empty 0 (king_of White) in
        let two = no_more (map.insert map.empty 0 (king_of White)) 63 (king_of Black) in
        omega arith

    no_pawn : (man : Man) (side : Side) → man ≡ king_of side → man.kind ≡ P → ⊥
    no_pawn man side e pawn = let bad : K ≡ P = sym (ap (λ (x : Man). x.kind) e) ∙ pawn in cc
