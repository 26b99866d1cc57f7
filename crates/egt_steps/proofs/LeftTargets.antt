-- Which advances of a pawn leave a target, and what the positions after them settle to.
use Rattle.std.proofs.Common.{◌≡◌, ◌≢◌, ℕ, ◌/◌, ◌+◌, ◌&&◌, ◌⊎◌, ◌↔◌, if◌then◌else◌, true, false, Option, Some, None}
use Rattle.std.proofs.Common.{IfSome, IsTrue, refl, sym, ap, ◌∙◌, subst, inl, inr, arith}
use Rattle.egt_steps.specs.Prelude.{is_some, eqb_tells, other_side, Advances, HasPawnBeside, ahead, last_rank, pawn_of}
use Rattle.egt_steps.specs.Prelude.{Stands, SettlesTo, Setup, IsAdmissible, rank_of, IsTarget, target_rank, Kind, P}
use Rattle.egt_steps.specs.Prelude.{Man, Side, settles_admissible, settles_men, side_twice, sides_differ, ShelfMen}
use Rattle.egt_steps.specs.Prelude.{is_two_ranks, passed, is_pawn, target_is, Facts, AreTwoRanksApart, LeavesTarget}
use Rattle.egt_steps.proofs.Leaping.{one_off_home}
use Rattle.egt_steps.proofs.MenListed.{AreTwo, one_two, who}

-- in an advance by two squares the pawn stands right ahead of the square that he passed
past_half : (F : ℕ → Type 0) (side : Side) (s t : ℕ) → Advances F side s t → AreTwoRanksApart s t → ahead side ((s + t) / 2) ≡ t
past_half F side s t advances h = grind arith

-- and that square alone is a target
half_alone : (F : ℕ → Type 0) (side : Side) (s t u : ℕ) → Advances F side s t → AreTwoRanksApart s t → rank_of u ≡ target_rank (other_side side) → ahead side u ≡ t → u ≡ (s + t) / 2
half_alone F side s t u advances two rank here = grind (arith, past_half, ahead)

-- nor is he promoted
pub unpromoted : (F : ℕ → Type 0) (side : Side) (s t : ℕ) → Advances F side s t → AreTwoRanksApart s t → rank_of t ≢ last_rank side
unpromoted h0 h1 s t advances two last = grind (arith, one_off_home, rank_of)

two_told : (s t : ℕ) → AreTwoRanksApart s t → is_two_ranks s t ≡ true
two_told s t h = grind (arith, eqb_tells)

-- a pawn passes a square in an advance by two squares, and in no other
pub passes : (man : Man) (s t : ℕ) → man.kind ≡ P → AreTwoRanksApart s t → passed man s t ≡ Some ((s + t) / 2)
passes man s t pawn two = ap (λ b. if b then Some ((s + t) / 2) else None) (ap (λ (k : Kind). is_pawn k && is_two_ranks s t) pawn ∙ two_told s t two)

-- the men beside the kings: the first stands on a, and this one, who was the last one on b, has advanced to t
module _ (men : ShelfMen) (side : Side) (a b t : ℕ) (man : Man) (pawn : men.last.kind ≡ P) (mine : man.side ≡ side) (F : ℕ → Type 0) (advances : Advances F side b t) where
  abbrev half : ℕ
  half = (b + t) / 2

  abbrev IsReady : Setup → Option ℕ → Type 0
  IsReady q o = IfSome o (λ u. HasPawnBeside q.men q.side (ahead (other_side q.side) u))

  -- a position after the advance
  pub record IsAfter (q : Setup) : Type 0 where
    pub are : AreTwo q.men men.white men.black men.first a man t
    pub side_is : q.side ≡ other_side side

  -- a pawn in it is the first man or this one
  pawn_on : (q : Setup) (owner : Side) (s : ℕ) → IsAfter q → Stands q.men s (pawn_of owner) → ((s ≡ a) × (pawn_of owner ≡ men.first)) ⊎ ((s ≡ t) × (pawn_of owner ≡ man))
  pawn_on q owner s is stands = grind (arith, who)

  before_half : (q : Setup) → IsAfter q → AreTwoRanksApart b t → ahead (other_side q.side) half ≡ t
  before_half q is two = ap (λ (x : Side). ahead (other_side x) half) is.side_is ∙ ap (λ (x : Side). ahead x half) (side_twice side) ∙ past_half F side b t advances two

  -- the first man stands ready to take
  ready : (q : Setup) → IsAfter q → LeavesTarget men side a b t → IsReady q (Some half)
  ready q is leaves = grind (arith, before_half)

  -- a target is left by such an advance alone
  pub told : (q r : Setup) → IsAfter q → q.target ≡ passed men.last b t → SettlesTo q r → IsTrue (is_some r.target) ↔ LeavesTarget men side a b t
  told q r is target h = grind (arith, is_some, passes, ready)

  -- that target is the square that was passed
  target_half : (r : Setup) (u : ℕ) → IsAfter r → IsAdmissible r → LeavesTarget men side a b t → r.target ≡ Some u → u ≡ half
  target_half r u is ok leaves e = half_alone F side b t u advances leaves.two (set.rank ∙ ap target_rank is.side_is) there
    where
      set : IsTarget r.men r.side u
      set = target_is r u ok e

      there : ahead side u ≡ t
      there = elim (pawn_on r (other_side r.side) (ahead (other_side r.side) u) is set.advanced) [
        | inl h ↦ absurd (sides_differ side (sym (side_twice side) ∙ ap other_side (sym is.side_is) ∙ ap (λ (x : Man). x.side) h.1 ∙ leaves.theirs))
        | inr h ↦ ap (λ (x : Side). ahead x u) (sym (side_twice side)) ∙ ap (λ (x : Side). ahead (other_side x) u) (sym is.side_is) ∙ h.0
      ]

  -- and the position settles to the one with these men that has a target where one is left
  pub settles_so : Facts → (q r : Setup) → IsAfter q → IsAfter r → IsAdmissible q → IsAdmissible r → q.target ≡ passed men.last b t → IsTrue (is_some r.target) ↔ LeavesTarget men side a b t → SettlesTo q r
  settles_so facts q r is after ok fine target as_told = subst (SettlesTo q) same form.1
    where
      form : (s : Setup) × SettlesTo q s
      form = facts.settles q

      form_told : IsTrue (is_some form.0.target) ↔ LeavesTarget men side a b t
      form_told = told q form.0 is target form.1

      form_side : (s : Setup) → SettlesTo q s → s.side ≡ q.side
      form_side s h = grind arith

      form_after : IsAfter form.0
      form_after = grind (arith, settles_men, form, form_side)

      targets : (o u : Option ℕ) → form.0.target ≡ o → r.target ≡ u → o ≡ u
      targets None None e d = refl
      targets (Some x) (Some y) e d =
          let leaves = as_told.0 (ap is_some d) in
          ap Some (target_half form.0 x form_after (settles_admissible q form.0 ok form.1) leaves e ∙ sym (target_half r y after fine leaves d))
      targets None (Some y) e d = absurd (let no : false ≡ true = sym (ap is_some e) ∙ form_told.1 (as_told.0 (ap is_some d)) in cc)
      targets (Some x) None e d = absurd (let no : false ≡ true = sym (ap is_some d) ∙ as_told.1 (form_told.0 (ap is_some e)) in cc)

      same : form.0 ≡ r
      same = λ i. record {
        men = one_two form.0.men r.men men.white men.black men.first a man t form_after.are after.are i;
        side = (form_after.side_is ∙ sym after.side_is) i;
        target = targets form.0.target r.target refl refl i;
      }
