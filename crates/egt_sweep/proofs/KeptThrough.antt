-- Readings of positions stay when entries of others are put.
use Rattle.std.proofs.Common.{◌≡◌, ℕ, ◌/◌, ◌%◌, ◌<◌, Bool, true, false, eqb, List, [], length, Option, Some, None}
use Rattle.std.proofs.Common.{IfSome, sym, ap, ◌∙◌, inl, inr, slice_index_or, arith}
use Rattle.egt_sweep.specs.FillPrelude.{other_side, turned_side, turned_square, Side, IsInEitherOrder}
use Rattle.egt_sweep.specs.FillPrelude.{IsSeenBy, IsSomeTurnedCodeWith, turned_by, ShelfMen, Stand, at, IsRaised, stand_on}
use Rattle.egt_sweep.specs.FillPrelude.{TableValue, Column, with_kings, AreKept, IsKept, BlockKey, column_score, entry_score}
use Rattle.egt_sweep.specs.FillPrelude.{Part, IsMended, IsOfKings, TakesKings, TurnsTo}
use Rattle.egt_sweep.proofs.ToldOnce.{kings_told, side_told}

-- ---- a code that is read tells the kings where a turn takes them

either_kings : (before after : Stand) → IsInEitherOrder before after → (after.white ≡ before.white) × (after.black ≡ before.black)
either_kings before after h2 = grind arith

side_same : (side : Side) → turned_side false side ≡ side
side_same side = grind arith

side_other : (side : Side) → turned_side true side ≡ other_side side
side_other side = grind arith

pub read_of_kings : (targeted : Bool) (c code : ℕ) (stand : Stand) (side : Side) (w b : ℕ) (s : Side) → IsSomeTurnedCodeWith targeted c code false stand side → IsOfKings c w b s code → TurnsTo c stand.white stand.black side w b s
read_of_kings targeted c code stand side w b s read of = record { turn = read.turn; below = read.is.below; keeps = read.is.keeps; takes = takes read.seen }
  where
    kings : ((turned_by read.turn read.after).white ≡ of.stand.white) × ((turned_by read.turn read.after).black ≡ of.stand.black)
    kings = kings_told c code targeted of.targeted (turned_by read.turn read.after) of.stand (turned_side (eqb (read.turn / 8) 1) side) s read.is.tells of.tells

    sides : turned_side (eqb (read.turn / 8) 1) side ≡ s
    sides = side_told c code targeted of.targeted (turned_by read.turn read.after) of.stand (turned_side (eqb (read.turn / 8) 1) side) s read.is.tells of.tells

    white : w ≡ turned_square (read.turn % 8) (eqb (read.turn / 8) 1) read.after.white
    white = sym (kings.0 ∙ of.white_is)

    black : b ≡ turned_square (read.turn % 8) (eqb (read.turn / 8) 1) read.after.black
    black = sym (kings.1 ∙ of.black_is)

    takes : IsSeenBy c false (eqb (read.turn / 8) 1) stand read.after → TakesKings c read.turn stand.white stand.black side w b s
    takes (inl own) =
        let there = either_kings stand read.after own.1 in inl (
          own.0,
          white ∙ ap (λ (f : Bool). turned_square (read.turn % 8) f read.after.white) own.0 ∙ ap (turned_square (read.turn % 8) false) there.0,
          black ∙ ap (λ (f : Bool). turned_square (read.turn % 8) f read.after.black) own.0 ∙ ap (turned_square (read.turn % 8) false) there.1,
          sym sides ∙ ap (λ (f : Bool). turned_side f side) own.0 ∙ side_same side,
        )
    takes (inr across) = inr (
      across.0,
      across.1,
      white ∙ ap (λ (f : Bool). turned_square (read.turn % 8) f read.after.white) across.1 ∙ ap (λ (o : Stand). turned_square (read.turn % 8) true o.white) across.2,
      black ∙ ap (λ (f : Bool). turned_square (read.turn % 8) f read.after.black) across.1 ∙ ap (λ (o : Stand). turned_square (read.turn % 8) true o.black) across.2,
      sym sides ∙ ap (λ (f : Bool). turned_side f side) across.1 ∙ side_other side,
    )

-- ---- what is read stays

pub raised_worth : (low high : ℕ) (In : ℕ → Type 0) (f g : ℕ → ℕ) → ((code : ℕ) → In code → g code ≡ f code) → IsRaised low In f high → IsRaised low In g high
raised_worth low high In f g same raised = record {
  kept = raised.kept;
  above = λ code is. let le = raised.above code is in let e = same code is in omega (arith, le, e);
  reached = elim raised.reached [ inl none ↦ inl none | inr r ↦ inr (r.0, r.1, r.2 ∙ sym (same r.0 r.1)) ];
}

module _ (part : Part) (white black : ℕ) (side : Side) (old new : TableValue) (mended : IsMended part white black side old new) where
  -- the score of a code of other kings
  pub score_stays : (column : Column) (code : ℕ) → ¬ IsOfKings old.class white black side code → column_score new column code ≡ column_score old column code
  score_stays column code other = elim (mended.same column code) [
    | inl same ↦ ap (λ n. entry_score column (n % 256)) same
    | inr of ↦ absurd (other of)
  ]

  -- the greatest score of positions whose kings no turn takes there
  pub read_stays : (column : Column) (targeted : Bool) (low high : ℕ) (stand : Stand) (s : Side) → ¬ TurnsTo old.class stand.white stand.black s white black side
      → IsRaised low (λ code. IsSomeTurnedCodeWith targeted old.class code false stand s) (column_score old column) high → IsRaised low (λ code. IsSomeTurnedCodeWith targeted old.class code false stand s) (column_score new column) high
  read_stays column targeted low high stand s apart = raised_worth low high (λ code. IsSomeTurnedCodeWith targeted old.class code false stand s) (column_score old column) (column_score new column)
      (λ code is. score_stays column code (λ of. apart (read_of_kings targeted old.class code stand s white black side is of)))

  kept_stays : (men : ShelfMen) (s : Side) (key : Option BlockKey) (block : List (List ℕ)) → IfSome key (λ k. ¬ TurnsTo old.class k.white k.black s white black side)
      → IsKept old.class (column_score old) men s key block → IsKept old.class (column_score new) men s key block
  kept_stays men s None block apart kept = kept
  kept_stays men s (Some k) block apart kept = λ a b a_in b_in. read_stays k.column false 0 (at block a b) (stand_on (with_kings men k.white k.black) a b) s apart (kept a b a_in b_in)

  -- so do blocks that are kept
  pub all_kept : (men : ShelfMen) (s : Side) (keys : List (Option BlockKey)) (blocks : List (List (List ℕ))) → ((i : ℕ) → i < length keys → IfSome (slice_index_or keys i None) (λ k. ¬ TurnsTo old.class k.white k.black s white black side))
      → AreKept old.class (column_score old) men s keys blocks → AreKept old.class (column_score new) men s keys blocks
  all_kept men s keys blocks apart kept = record {
    some = kept.some;
    as_many = kept.as_many;
    each = λ i i_in. kept_stays men s (slice_index_or keys i None) (slice_index_or blocks i []) (apart i i_in) (kept.each i i_in);
    placed = kept.placed;
  }
