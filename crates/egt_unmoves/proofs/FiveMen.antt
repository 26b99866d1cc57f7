-- Four men leave room for one target that a pawn stands ready to take.
use Rattle.std.proofs.Common.{◌≡◌, ◌≢◌, ℕ, suc, zero, ◌-◌, ◌≤◌, ◌⊎◌, Option, Some, None, cond, arith, refl, sym, ap}
use Rattle.std.proofs.Common.{◌∙◌, inl, inr, subst}
use Rattle.egt_unmoves.specs.Prelude.{is_some, nat_cmp_total, nat_cmp, cases_eq, Side, Man, other_side, pawn_of, ahead}
use Rattle.egt_unmoves.specs.Prelude.{HasPawnBeside, Placement, Stands, one_man, get-remove_other, Setup, IsAdmissible}
use Rattle.egt_unmoves.specs.Prelude.{IsSettled, rank_of, IsTarget, target_rank, Move, advanced_rank, ComesBy}
use Rattle.egt_unmoves.specs.Prelude.{MayComeFrom, side_twice, sides_differ}
use Rattle.std.specs.FinMap as map
use Rattle.egt_unmoves.proofs.Came.{Came, came, not_free}
use Rattle.egt_unmoves.proofs.Went.{elsewhere, stood}

-- a man less
fewer : (men : Placement) (s : ℕ) (man : Man) → Stands men s man → suc (map.len (map.remove men s)) ≡ map.len men
fewer men s man stands = by_len (map.len men) refl
  where
    gone : map.len (map.remove men s) ≡ map.len men - 1
    gone = map.len-remove nat_cmp_total men s ∙ ap (λ (o : Option Man). cond (is_some o) (map.len men - 1) (map.len men)) stands

    by_len : (n : ℕ) → map.len men ≡ n → suc (map.len (map.remove men s)) ≡ map.len men
    by_len zero e =
        let none : map.get men s ≡ None = ap (λ m. map.get m s) (map.empty_of_len men e) ∙ map.get-empty nat_cmp s in
        let bad : Some man ≡ None = sym stands ∙ none in absurd (cc)
    by_len (suc n) e = let g = gone in omega arith

-- different men stand apart
apart : (men : Placement) (s t : ℕ) (x y : Man) → x ≢ y → Stands men s x → Stands men t y → s ≢ t
apart men s t x y other a b e = other (one_man men s x y a (ap (map.get men) e ∙ b))

-- men on five squares are five
pub five_men : (men : Placement) (a b c d e : ℕ) (v w x y z : Man) → Stands men a v → Stands men b w → Stands men c x → Stands men d y → Stands men e z
    → a ≢ b → a ≢ c → a ≢ d → a ≢ e → b ≢ c → b ≢ d → b ≢ e → c ≢ d → c ≢ e → d ≢ e → 5 ≤ map.len men
five_men men a b c d e v w x y z on_a on_b on_c on_d on_e ab ac ad ae bc bd be cd ce de =
    let one = fewer men a v on_a in
    let m1 = map.remove men a in
    let two = fewer m1 b w (stays men a b w ab on_b) in
    let m2 = map.remove m1 b in
    let three = fewer m2 c x (stays m1 b c x bc (stays men a c x ac on_c)) in
    let m3 = map.remove m2 c in
    let four = fewer m3 d y (stays m2 c d y cd (stays m1 b d y bd (stays men a d y ad on_d))) in
    let m4 = map.remove m3 d in
    let five = fewer m4 e z (stays m3 d e z de (stays m2 c e z ce (stays m1 b e z be (stays men a e z ae on_e)))) in
    omega arith
  where
    stays : (m : Placement) (s t : ℕ) (man : Man) → s ≢ t → Stands m t man → Stands (map.remove m s) t man
    stays m s t man other stands = get-remove_other m s t (λ same. other (sym same)) ∙ stands

-- with a pawn of the side to move, the other side has one pawn at most
one_pawn : (p : Setup) (x y z : ℕ) → IsAdmissible p → Stands p.men x (pawn_of (other_side p.side)) → Stands p.men y (pawn_of (other_side p.side)) → Stands p.men z (pawn_of p.side) → x ≡ y
one_pawn p x y z ok c d e = grind (arith, cases_eq, five_men, apart)

-- the target, if there is one, is one that a pawn stands ready to take
pub target_of : (p : Setup) (t : ℕ) → IsAdmissible p → IsSettled p → p.target ≡ Some t → IsTarget p.men p.side t × HasPawnBeside p.men p.side (ahead (other_side p.side) t)
target_of p t ok settled is = grind (arith, ahead, other_side)

-- a target is ahead of its pawn for the other side
rank_advanced : (side : Side) (t : ℕ) → rank_of t ≡ target_rank (other_side side) → rank_of (ahead side t) ≡ advanced_rank side
rank_advanced side t e = grind arith

ahead_back : (side : Side) (t : ℕ) → rank_of t ≡ target_rank (other_side side) → ahead (other_side side) (ahead side t) ≡ t
ahead_back side t e = grind arith

module _ (b q : Setup) (m : Move) (comes : ComesBy b m q) where
  x : Came b m q
  x = came b m q comes

  may : MayComeFrom q x.man m.to m.from
  may = record { stands = x.stands; theirs = x.mine ∙ x.side; free = x.free_from }

  mover : other_side b.side ≡ q.side
  mover = ap other_side x.side ∙ side_twice q.side

  not_moved : pawn_of q.side ≢ x.man
  not_moved e = sides_differ q.side (ap (λ (y : Man). y.side) e ∙ may.theirs)

  -- a pawn of the side to move now has not moved
  pawn_then : (s : ℕ) → Stands q.men s (pawn_of q.side) → Stands b.men s (pawn_of q.side)
  pawn_then s stands = ap (λ (men : Placement). map.get men s) x.men ∙ elsewhere q x.man m.to m.from may s
      (λ e. not_free q.men m.from (pawn_of q.side) x.free_from (subst (λ u. Stands q.men u (pawn_of q.side)) e stands))
      (λ e. not_moved (one_man q.men m.to (pawn_of q.side) x.man (subst (λ u. Stands q.men u (pawn_of q.side)) e stands) x.stands)) ∙ stands

  pawn_now : (s : ℕ) → Stands b.men s (pawn_of q.side) → Stands q.men s (pawn_of q.side)
  pawn_now s stands = elim (stood q x.man m.to m.from may s (pawn_of q.side) (ap (λ (men : Placement). map.get men s) (sym x.men) ∙ stands)) [
    | inl h ↦ absurd (not_moved h.1)
    | inr h ↦ h.2
  ]

  -- the pawn that had advanced to be passed
  advanced : (t : ℕ) → b.target ≡ Some t → Stands q.men (ahead q.side t) (pawn_of q.side) × (rank_of t ≡ target_rank (other_side q.side))
  advanced t is =
      let ready = target_of b t comes.admissible comes.settled is in (
        pawn_now (ahead q.side t) (subst (λ side. Stands b.men (ahead side t) (pawn_of side)) mover ready.0.advanced),
        ready.0.rank ∙ ap target_rank x.side,
      )

  -- it is the one pawn of its side
  pub target_found : (square : ℕ) → Stands q.men square (pawn_of q.side) → (b.target ≡ None) ⊎ (b.target ≡ Some (ahead (other_side q.side) square))
  target_found square stands = by_target b.target refl
    where
      by_target : (o : Option ℕ) → b.target ≡ o → (b.target ≡ None) ⊎ (b.target ≡ Some (ahead (other_side q.side) square))
      by_target None is = inl is
      by_target (Some t) is =
          let here = advanced t is in
          let ready = target_of b t comes.admissible comes.settled is in
          let same : ahead q.side t ≡ square = one_pawn b (ahead q.side t) square ready.1.square comes.admissible
          (subst (λ side. Stands b.men (ahead q.side t) (pawn_of side)) (sym mover) (pawn_then (ahead q.side t) here.0))
          (subst (λ side. Stands b.men square (pawn_of side)) (sym mover) (pawn_then square stands)) ready.1.stands in
          inr (is ∙ ap Some (sym (ahead_back q.side t here.1) ∙ ap (ahead (other_side q.side)) same))

  -- where no pawn has advanced, there was no target
  pub no_target_before : ((s : ℕ) → Stands q.men s (pawn_of q.side) → rank_of s ≡ advanced_rank q.side → ⊥) → b.target ≡ None
  no_target_before none = grind (arith, advanced, ahead, rank_advanced)
