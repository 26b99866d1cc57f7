-- Entries that scores of draws tell.
use Rattle.std.proofs.Common.{◌≡◌, ◌∙◌, ℕ, ◌<◌, length, map, ap, sym, subst, inl, inr, arith}
use Rattle.egt_sweep.specs.FillPrelude.{IsVoid, size_of, Column, TellColumn, TellsEntry, told, AreDrawnOrNone}
use Rattle.egt_sweep.specs.FillPrelude.{CodeScores, HasNoVoidScore, IsDrawnIndex, told_at, told_none, IsDrawn}

draw_told : (column : Column) → told column 128 ≡ 1
draw_told column = grind arith

none_tells : (column : Column) → TellsEntry column 0
none_tells column = grind arith

draw_tells : (column : Column) → TellsEntry column 128
draw_tells column = grind arith

module _ (column : Column) (c : ℕ) (v : CodeScores) (class : v.class ≡ c) where
  pub drawn_told : HasNoVoidScore v → ((code : ℕ) → code < size_of c → IsDrawnIndex v code) → IsDrawn c (map (told column) v.scores)
  drawn_told none drawn i below = record {
    void = λ is. told_at column v.scores i (told_none column) ∙ ap (told column) (none i (subst (λ n. IsVoid n i) (sym class) is)) ∙ told_none column;
    index = λ is. told_at column v.scores i (told_none column) ∙ ap (told column) (drawn i below (subst (λ n. ¬ IsVoid n i) (sym class) is)) ∙ draw_told column;
  }

  pub drawn_tell : length v.scores ≡ size_of c → AreDrawnOrNone v → TellColumn column c v
  drawn_tell long few = record {
    class_is = class;
    long = long;
    tell = λ code. elim (few code) [ inl none ↦ subst (TellsEntry column) (sym none) (none_tells column) | inr draw ↦ subst (TellsEntry column) (sym draw) (draw_tells column) ];
  }
