-- The list in which the children of all classes stand one after another.
use Rattle.std.specs.Prelude.{ℕ, List, slice_index, slice_range}
use Rattle.egt_class.specs.declared.descent.TheConstants.{CHILDREN}

-- the number at a place
unfoldable pub child_at : ℕ → ℕ
child_at k = slice_index CHILDREN k

-- the numbers from one place to before another
unfoldable pub listed : ℕ → ℕ → List ℕ
listed start end = slice_range CHILDREN start end
