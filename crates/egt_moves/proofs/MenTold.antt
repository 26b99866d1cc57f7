-- The men after a move, told by those before.
use Rattle.std.proofs.Common.{◌≡◌, ◌≢◌, ℕ, ◌⊎◌, Option, Some, None, sym, ap, ◌∙◌, inl}
use Rattle.std.proofs.Common.{inr, subst, if◌then◌else◌, ◌==◌, arith}
use Rattle.egt_moves.specs.Prelude.{eqb_tells, Side, White, Black, Kind, K, Man, HasAllMen, AreApart, king_of}
use Rattle.egt_moves.specs.Prelude.{IsInCheck, StandsBeside, other_side, ahead, last_rank, rank_of, Placement, Stands}
use Rattle.egt_moves.specs.Prelude.{one_man, Setup, IsAdmissible, IsKingOn, Move, entry_after, square_after, Leads}
use Rattle.egt_moves.specs.Prelude.{after, men_left, men_after, is_pawn, promotes, FitsPromotion, arriving}
use Rattle.egt_moves.proofs.Admissible.{admissible_after}
use Rattle.egt_moves.proofs.MenAfter.{after_to, after_other, after_cases, MayBecome, may_become, not_king_of}
use Rattle.std.specs.FinMap as map

abbrev Entry : Type 0
Entry = Option (Man × ℕ)

-- a move that does not arrive on the target takes nothing in passing
not_passing : (p : Setup) (man : Man) (to : ℕ) → p.target ≢ Some to → men_left p man to ≡ p.men
not_passing p man to off = grind (arith, map.remove, ahead, other_side)

-- who neither moves nor is taken stays
stays : (p : Setup) (man : Man) (m : Move) (t : ℕ) (other : Man) → p.target ≢ Some m.to → t ≢ m.from → t ≢ m.to → Stands p.men t other → Stands (men_after p man m) t other
stays p man m t other off not_from not_to stands = after_other p man m t not_from not_to ∙ ap (λ men. map.get men t) (not_passing p man m.to off) ∙ stands

-- what arrives is no king where no king moved
arrives_beside : (man : Man) (promo : Option Kind) → MayBecome promo → man.kind ≢ K → (arriving man promo).kind ≢ K
arrives_beside man promo may other is = not_king_of man promo (arriving man promo).side may other (λ i. record { side = (arriving man promo).side; kind = sym is i })

-- and a king where one did
king_stays_king : (man : Man) (to : ℕ) (promo : Option Kind) → FitsPromotion (promotes man to) promo → (arriving man promo).kind ≢ K → man.kind ≢ K
king_stays_king man to promo fits other is = grind (arith, is_pawn, rank_of, last_rank)

entry_stands : (p : Setup) (man : Man) (m : Move) (entry : Entry) → Stands p.men m.from man → MayBecome m.promo → p.target ≢ Some m.to → StandsBeside p.men entry → StandsBeside (men_after p man m) (entry_after entry m)
entry_stands p man m None stands may off beside = tt
entry_stands p man m (Some e) stands may off beside = elim (eqb_tells e.1 m.from) [
  | inl from ↦ subst (λ b. StandsBeside (men_after p man m) (if b then Some (arriving e.0 m.promo, m.to) else (if e.1 == m.to then None else Some e))) (sym from.0)
      (let same : man ≡ e.0 = one_man p.men m.from man e.0 stands (ap (map.get p.men) (sym from.1) ∙ beside.0) in
      (after_to p man m ∙ ap (λ x. Some (arriving x m.promo)) same, arrives_beside e.0 m.promo may beside.1))
  | inr not_from ↦ subst (λ b. StandsBeside (men_after p man m) (if b then Some (arriving e.0 m.promo, m.to) else (if e.1 == m.to then None else Some e))) (sym not_from.0)
      (elim (eqb_tells e.1 m.to) [
        | inl to ↦ subst (λ b. StandsBeside (men_after p man m) (if b then None else Some e)) (sym to.0) tt
        | inr not_to ↦ subst (λ b. StandsBeside (men_after p man m) (if b then None else Some e)) (sym not_to.0) (stays p man m e.1 e.0 off not_from.1 not_to.1 beside.0, beside.1)
      ])
]

-- who left is where he arrived, and who stood elsewhere is there
entry_moved : (entry : Entry) (man : Man) (m : Move) → entry ≡ Some (man, m.from) → entry_after entry m ≡ Some (arriving man m.promo, m.to)
entry_moved entry man m is = grind (arith, entry_after, eqb_tells, arriving)

entry_kept : (entry : Entry) (man : Man) (s : ℕ) (m : Move) → s ≢ m.from → s ≢ m.to → entry ≡ Some (man, s) → entry_after entry m ≡ Some (man, s)
entry_kept entry man s m not_from not_to is = grind (arith, entry_after, eqb_tells, arriving)

-- men on squares of their own go to squares of their own
entries_apart : (one other : Entry) (m : Move) → AreApart one other → AreApart (entry_after one m) (entry_after other m)
entries_apart one other m apart = grind (arith, entry_after, eqb_tells, arriving)

-- the king's square after the move, of which it is known that he has one
king_told : (p : Setup) (man : Man) (m : Move) (side : Side) (k s : ℕ) → IsAdmissible p → Stands p.men m.from man → MayBecome m.promo → IsKingOn p.men side k → IsKingOn (men_after p man m) side s → IsKingOn (men_after p man m) side (square_after k m)
king_told p man m side k s ok stands may king there = subst (IsKingOn (men_after p man m) side) (sym is) there
  where
    is : square_after k m ≡ s
    is = elim (after_cases p man m s (king_of side) ok there.stands) [
      | inl moved ↦
          let left : m.from ≡ k = king.only m.from (stands ∙ ap Some (king_moved moved.1)) in
          elim (eqb_tells k m.from) [
            | inl h ↦ ap (λ b. if b then m.to else k) h.0 ∙ sym moved.0
            | inr h ↦ absurd (h.1 (sym left))
          ]
      | inr stayed ↦
          let same : s ≡ k = king.only s stayed.2 in
          elim (eqb_tells k m.from) [
            | inl h ↦ absurd (stayed.0 (same ∙ h.1))
            | inr h ↦ ap (λ b. if b then m.to else k) h.0 ∙ sym same
          ]
    ]
      where
        king_moved : king_of side ≡ arriving man m.promo → man ≡ king_of side
        king_moved arrives = of_promo m.promo may arrives
          where
            of_promo : (promo : Option Kind) → MayBecome promo → king_of side ≡ arriving man promo → man ≡ king_of side
            of_promo promo none e = grind arith

pub men_told : (p q : Setup) (m : Move) (white black : ℕ) (one other : Entry) → IsAdmissible p → HasAllMen p.men white black one other → Leads p m q → p.target ≢ Some m.to
    → HasAllMen q.men (square_after white m) (square_after black m) (entry_after one m) (entry_after other m)
men_told p q m white black one other ok all leads off = subst (λ (men : Placement). HasAllMen men (square_after white m) (square_after black m) (entry_after one m) (entry_after other m)) (sym (ap (λ (s : Setup). s.men) leads.becomes)) (record {
  white_there = king_told p man m White white next.kings.white ok leads.stands may all.white_there next.kings.white_there;
  black_there = king_told p man m Black black next.kings.black ok leads.stands may all.black_there next.kings.black_there;
  beside = record {
    one = entry_stands p man m one leads.stands may off all.beside.one;
    other = entry_stands p man m other leads.stands may off all.beside.other;
    all = every;
    apart = entries_apart one other m all.beside.apart;
  };
})
  where
    man : Man
    man = leads.man

    may : MayBecome m.promo
    may = may_become _ m.promo leads.promotion

    next : IsAdmissible (after p man m)
    next = admissible_after p man m leads.stands leads.mine leads.goes leads.promotion ok (subst (λ (s : Setup). ¬ IsInCheck s.men p.side) leads.becomes leads.safe)

    every : (s : ℕ) (x : Man) → Stands (men_after p man m) s x → x.kind ≢ K → (entry_after one m ≡ Some (x, s)) ⊎ (entry_after other m ≡ Some (x, s))
    every s x stands beside = elim (after_cases p man m s x ok stands) [
      | inl moved ↦
          let was = king_stays_king man m.to m.promo leads.promotion (λ is. beside (ap (λ (y : Man). y.kind) moved.1 ∙ is)) in
          let now : ◌≡◌ {A = Entry} (Some (arriving man m.promo, m.to)) (Some (x, s)) = λ i. Some (sym moved.1 i, sym moved.0 i) in
          elim (all.beside.all m.from man leads.stands was) [
            | inl e ↦ inl (entry_moved one man m e ∙ now)
            | inr e ↦ inr (entry_moved other man m e ∙ now)
          ]
      | inr stayed ↦ elim (all.beside.all s x stayed.2 beside) [
        | inl e ↦ inl (entry_kept one x s m stayed.0 stayed.1 e)
        | inr e ↦ inr (entry_kept other x s m stayed.0 stayed.1 e)
      ]
    ]
