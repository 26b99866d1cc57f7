-- Blocks that are kept, one of them anew.
use Rattle.std.proofs.Common.{◌≡◌, ◌≢◌, ◌∙◌, ℕ, List, [], length, Option, None, slice_index_or, arith, subst, sym, inl}
use Rattle.std.proofs.Common.{inr}
use Rattle.egt_blocks.specs.Prelude.{cases_eq, Side, ShelfMen, Column, AreKept, IsKept, IsPlaced, BlockKey}

pub kept_anew : (c : ℕ) (worth : Column → ℕ → ℕ) (men : ShelfMen) (side : Side) (keys after : List (Option BlockKey)) (blocks raised : List (List (List ℕ))) (place : ℕ) → AreKept c worth men side keys blocks → length after ≡ length keys → length raised ≡ length blocks
    → ((i : ℕ) → i ≢ place → slice_index_or after i None ≡ slice_index_or keys i None) → ((i : ℕ) → i ≢ place → slice_index_or raised i [] ≡ slice_index_or blocks i [])
    → IsKept c worth men side (slice_index_or after place None) (slice_index_or raised place []) → IsPlaced (length keys) (slice_index_or after place None) place
    → AreKept c worth men side after raised
kept_anew c worth men side keys after blocks raised place kept long many other_keys other_blocks here placed = record {
  some = let some = kept.some in omega (arith, some, long);
  as_many = many ∙ kept.as_many ∙ sym long;
  each = λ i i_in. elim (cases_eq i place) [
    | inl same ↦ subst (λ n. IsKept c worth men side (slice_index_or after n None) (slice_index_or raised n [])) (sym same) here
    | inr other ↦
        subst (λ (key : Option BlockKey). IsKept c worth men side key (slice_index_or raised i [])) (sym (other_keys i other))
        (subst (IsKept c worth men side (slice_index_or keys i None)) (sym (other_blocks i other)) (kept.each i (omega (arith, i_in, long))))
  ];
  placed = λ i i_in. elim (cases_eq i place) [
    | inl same ↦ subst (λ n. IsPlaced n (slice_index_or after i None) i) (sym long) (subst (λ n. IsPlaced (length keys) (slice_index_or after n None) n) (sym same) placed)
    | inr other ↦
        subst (λ n. IsPlaced n (slice_index_or after i None) i) (sym long)
        (subst (λ (key : Option BlockKey). IsPlaced (length keys) key i) (sym (other_keys i other)) (kept.placed i (omega (arith, i_in, long))))
  ];
}
