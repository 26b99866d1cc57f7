-- The table of children is right at each class.
use Rattle.std.proofs.Common.{◌≡◌, ℕ, ◌<◌, ◌≤◌, ◌+◌, ◌++◌, ◌∷◌, ◌&&◌, Bool, true, [], leb, refl, lit<, slice_index}
use Rattle.egt_class.specs.Prelude.{and_parts, leb-true, all_below, passes_below, materials, material_of, children_of}
use Rattle.egt_class.specs.Prelude.{child_at, listed, CHILDREN, STARTS}
use Rattle.egt_class.proofs.Tables.{same_list, same_list-equal, all_less, all_less-at, part_none, part_more}

abbrev start_of : ℕ → ℕ
start_of c = slice_index STARTS c

abbrev is_right : ℕ → Bool
is_right c = same_list (listed (start_of c) (start_of (c + 1))) (children_of c)

all_right : all_below is_right 36 ≡ true
unfolding all_below listed same_list children_of material_of materials
all_right = refl

abbrev is_span : ℕ → Bool
is_span c = leb (start_of c) (start_of (c + 1)) && (leb (start_of (c + 1)) 111 && leb (start_of (c + 1)) (start_of c + 9))

all_spans : all_below is_span 36 ≡ true
unfolding all_below
all_spans = refl

pub children_are_right : (c : ℕ) → c < 36 → listed (slice_index STARTS c) (slice_index STARTS (c + 1)) ≡ children_of c
children_are_right c c_in = same_list-equal _ _ (passes_below is_right 36 c all_right c_in)

pub record IsSpan (first last : ℕ) : Type 0 where
  pub order : first ≤ last
  pub within : last ≤ 111
  pub few : last ≤ first + 9

pub spans_are_right : (c : ℕ) → c < 36 → IsSpan (slice_index STARTS c) (slice_index STARTS (c + 1))
spans_are_right c c_in =
    let both = and_parts _ _ (passes_below is_span 36 c all_spans c_in) in
    let rest = and_parts _ _ both.1 in
    record { order = leb-true _ _ both.0; within = leb-true _ _ rest.0; few = leb-true _ _ rest.1 }

all_numbers : all_less CHILDREN 36 ≡ true
unfolding all_less
all_numbers = refl

pub child_below : (k : ℕ) → child_at k < 36
unfolding child_at
child_below k = all_less-at CHILDREN 36 k (lit< tt) all_numbers

pub listed_none : (start : ℕ) → listed start start ≡ []
unfolding listed
listed_none start = part_none CHILDREN start

pub listed_more : (start at : ℕ) → start ≤ at → at < 111 → listed start (at + 1) ≡ listed start at ++ child_at at ∷ []
unfolding listed child_at
listed_more start at from at_in = part_more CHILDREN start at from at_in
