use Rattle.std.proofs.Common.{◌≡◌, ◌<◌, ℕ, [], Option, None, arith, replicate, slice_index_or, subst, sym}
use Rattle.egt_blocks.specs.Prelude.{get_or-replicate, IsKept, IsPlaced, BlockKey}
use Rattle.egt_blocks.proofs.kept_blocks.no_keys.Goals as goal

pub returns : goal.returns
returns c = λ number worth men side blocks many.
    let none : (i : ℕ) → i < 38 → slice_index_or (replicate {A = Option BlockKey} 38 None) i None ≡ None = λ i i_in. get_or-replicate 38 i None None i_in in
    record {
      some = omega (arith);
      as_many = many;
      each = λ i i_in. subst (λ (key : Option BlockKey). IsKept number worth men side key (slice_index_or blocks i [])) (sym (none i i_in)) tt;
      placed = λ i i_in. subst (λ (key : Option BlockKey). IsPlaced 38 key i) (sym (none i i_in)) tt;
    }
