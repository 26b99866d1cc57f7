-- Tables with some entries put anew.
use Rattle.std.proofs.Common.{◌≡◌, ℕ, ◌*◌, ◌-◌, ◌%◌, refl, ap, ◌∙◌, inl, inr, slice_index, subst}
use Rattle.egt_sweep.specs.FillPrelude.{Spells, TableValue, entries_of, Column, byte_score, reach_score, table_in}
use Rattle.egt_sweep.specs.FillPrelude.{IsRightEndOf, HasBytes, Part, IsMendedAt, IsPutAt}
use Rattle.egt_table.specs.declared.column.Column.TheVariants as columns
use Rattle.egt_check.specs.declared.part.Part.TheVariants as parts

-- nothing is put
pub stays : (part : Part) (At : ℕ → Type 0) (t : TableValue) → HasBytes (table_in part t) → IsMendedAt part At t t
stays part At t bytes = record {
  class = refl;
  there = λ column has. has;
  same = λ column code. inl refl;
  mate = λ is. refl;
  zeroing = λ is. refl;
  reach = λ is. refl;
  bytes = bytes;
}

pub mended_after : (part : Part) (At Bt : ℕ → Type 0) (old mid new : TableValue) → IsMendedAt part At old mid → IsMendedAt part Bt mid new → ((i : ℕ) → Bt i → At i) → IsMendedAt part At old new
mended_after part At Bt old mid new first second within = record {
  class = second.class ∙ first.class;
  there = λ column has. second.there column (first.there column has);
  same = λ column code. elim (second.same column code) [
    | inl kept ↦ elim (first.same column code) [ inl before ↦ inl (kept ∙ before) | inr at ↦ inr at ]
    | inr at ↦ inr (within code at)
  ];
  mate = λ is. second.mate is ∙ first.mate is;
  zeroing = λ is. second.zeroing is ∙ first.zeroing is;
  reach = λ is. second.reach is ∙ first.reach is;
  bytes = second.bytes;
}

-- what was put elsewhere stays
pub put_stays : (part : Part) (old new : TableValue) (At : ℕ → Type 0) (i score clock : ℕ) → IsMendedAt part At old new → ¬ At i → IsPutAt part old i score clock → IsPutAt part new i score clock
put_stays part old new At i score clock mended other = of_part part
  where
    kept : (column : Column) → slice_index (entries_of column new) i ≡ slice_index (entries_of column old) i
    kept column = elim (mended.same column i) [ inl same ↦ same | inr is ↦ absurd (other is) ]

    of_part : (p : Part) → IsPutAt p old i score clock → IsPutAt p new i score clock
    of_part parts.Values put = (ap (λ n. byte_score (n % 256)) (kept columns.Mate) ∙ put.0, ap (λ n. byte_score (n % 256)) (kept columns.Zeroing) ∙ put.1)
    of_part parts.Reach put = ap (λ n. reach_score (n % 256)) (kept columns.Reach) ∙ put

-- and entries that tell checkmate or stalemate
pub end_stays : (part : Part) (old new : TableValue) (At : ℕ → Type 0) (i : ℕ) → IsMendedAt part At old new → ¬ At i → IsRightEndOf part old i → IsRightEndOf part new i
end_stays part old new At i mended other = of_part part
  where
    kept : (column : Column) → slice_index (entries_of column new) i ≡ slice_index (entries_of column old) i
    kept column = elim (mended.same column i) [ inl same ↦ same | inr is ↦ absurd (other is) ]

    of_part : (p : Part) → IsRightEndOf p old i → IsRightEndOf p new i
    of_part parts.Values right = λ p spells. let end = right p (subst (λ k. Spells k i p) mended.class spells) in (end.0, end.1, kept columns.Mate ∙ end.2, kept columns.Zeroing ∙ end.3)
    of_part parts.Reach right = λ p spells. let end = right p (subst (λ k. Spells k i p) mended.class spells) in (end.0, end.1, ap (λ n. 2 * n - 1) (kept columns.Reach) ∙ end.2)

-- at more codes
pub widened : (part : Part) (At Bt : ℕ → Type 0) (old new : TableValue) → IsMendedAt part At old new → ((i : ℕ) → At i → Bt i) → IsMendedAt part Bt old new
widened part At Bt old new mended within = record {
  class = mended.class;
  there = mended.there;
  same = λ column code. elim (mended.same column code) [ inl same ↦ inl same | inr at ↦ inr (within code at) ];
  mate = mended.mate;
  zeroing = mended.zeroing;
  reach = mended.reach;
  bytes = mended.bytes;
}
