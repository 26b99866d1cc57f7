-- Tables with the entries of a row's squares put anew.
use Rattle.std.proofs.Common.{◌≡◌, ◌≢◌, ◌∙◌, ℕ, ◌+◌, ◌*◌, ◌-◌, ◌%◌, ◌<◌, ◌==◌, if◌then◌else◌, Bool, true, false, List}
use Rattle.std.proofs.Common.{arith, refl, sym, ap, inl, inr, replicate, slice_index, subst}
use Rattle.egt_sweep.specs.FillPrelude.{cases_eq, get_or-replicate, nat_tests, Has, SquareSet, IsVoid, code_of, kind_digits, kind_less}
use Rattle.egt_sweep.specs.FillPrelude.{number_in, size_of, byte_score, reach_score, TableValue, near_entry, entry_at}
use Rattle.egt_sweep.specs.FillPrelude.{reach_at, Metric, Mate, Zeroing, IsPutIn, IsToldAt, AreAlike, IsKnown, column_of}
use Rattle.egt_sweep.specs.FillPrelude.{table_in, IsRightEndOf, IsLaneIn, HasBytes, column_score, Part, if_not}
use Rattle.egt_sweep.specs.FillPrelude.{near_at, AreOfEnd, IsEndScore, IsLaneOf, IsMendedAt, IsPutAt, Shelf}
use Rattle.egt_table.specs.declared.column.Column.TheVariants as columns
use Rattle.egt_check.specs.declared.part.Part.TheVariants as parts
use Rattle.egt_sweep.proofs.PutEntries.{stays}

-- rows are the same where the set of the squares at which they differ has none
pub same_there : (x y b n bit : ℕ) → b < 64 → n ≡ (if x == y then 0 else slice_index (replicate 64 1) b) → bit ≡ (if n == 0 then 0 else 1) → bit ≡ 0 → x ≡ y
same_there x y b n bit b_in differs is none = elim (cases_eq x y) [
  | inl same ↦ same
  | inr other ↦
      let one : n ≡ 1 = differs ∙ if_not x y 0 (slice_index (replicate 64 1) b) other ∙ get_or-replicate 64 b 1 0 b_in in
      let has = is ∙ if_not n 0 0 1 (λ e. omega (arith, one, e)) in
      absurd (omega (arith, has, none))
]

-- ---- bytes stay

module _ (old new : TableValue) (At : ℕ → Type 0) (put : IsPutIn parts.Values At old new) (bytes : HasBytes (table_in parts.Values old)) (index_put : (i : ℕ) → i < size_of old.class → IsVoid old.class i → ¬ At i)
    (told : (i : ℕ) → At i → AreAlike (slice_index new.mate i) (slice_index new.zeroing i)) where
  void_there : (metric : Metric) (i : ℕ) → i < size_of old.class → IsVoid old.class i → entry_at new metric i ≡ 0
  void_there Mate i i_in void = elim (put.same columns.Mate i) [ inl same ↦ same ∙ bytes.void Mate i i_in void | inr at ↦ absurd (index_put i i_in void at) ]
  void_there Zeroing i i_in void = elim (put.same columns.Zeroing i) [ inl same ↦ same ∙ bytes.void Zeroing i i_in void | inr at ↦ absurd (index_put i i_in void at) ]

  alike_there : (i : ℕ) → i < size_of old.class → ¬ IsVoid old.class i → AreAlike (slice_index new.mate i) (slice_index new.zeroing i)
  alike_there i i_in index = elim (put.same columns.Mate i) [
    | inr at ↦ told i at
    | inl mate ↦ elim (put.same columns.Zeroing i) [
      | inr at ↦ told i at
      | inl zeroing ↦ subst (λ n. AreAlike n (slice_index new.zeroing i)) (sym mate) (subst (λ n. AreAlike (slice_index old.mate i) n) (sym zeroing) (bytes.alike i i_in index))
    ]
  ]

  pub values_bytes : HasBytes (table_in parts.Values new)
  values_bytes = record {
    void = λ metric i i_in void. void_there metric i (subst (λ c. i < size_of c) put.class i_in) (subst (λ c. IsVoid c i) put.class void);
    alike = λ i i_in index. alike_there i (subst (λ c. i < size_of c) put.class i_in) (subst (λ c. ¬ IsVoid c i) put.class index);
  }

-- an entry of the nearest mates as it is read
near_known : (read entry : ℕ) → read ≡ 2 * entry - 1 → entry ≢ 0 → entry < 128 → IsKnown read
near_known read entry is some low = record {
  some = λ none. omega (arith, is, none, some);
  other = λ two. omega (arith, is, two);
  low = omega (arith, is, low);
}

pub known_alike : (read : ℕ) → IsKnown read → AreAlike read read
known_alike read known = record { mate_known = known; zeroing_known = known; parity = refl; drawn = (λ is. is, λ is. is) }

pub none_there : (t : TableValue) → HasBytes (table_in parts.Reach t) → (i : ℕ) → i < size_of t.class → IsVoid t.class i → reach_at t i ≡ 0
none_there t bytes i i_in void = let read = near_at t i in let none = bytes.void Mate i i_in void in omega (arith, read, none)

module _ (old new : TableValue) (At : ℕ → Type 0) (put : IsPutIn parts.Reach At old new) (bytes : HasBytes (table_in parts.Reach old)) (index_put : (i : ℕ) → i < size_of old.class → IsVoid old.class i → ¬ At i)
    (told : (i : ℕ) → At i → (reach_at new i ≢ 0) × (reach_at new i < 128)) where
  near_void : (i : ℕ) → i < size_of old.class → IsVoid old.class i → entry_at (table_in parts.Reach new) Mate i ≡ 0
  near_void i i_in void = elim (put.same columns.Reach i) [
    | inl same ↦ let read = near_at new i in let before = none_there old bytes i i_in void in omega (arith, read, same, before)
    | inr at ↦ absurd (index_put i i_in void at)
  ]

  near_voids : (metric : Metric) (i : ℕ) → i < size_of old.class → IsVoid old.class i → entry_at (table_in parts.Reach new) metric i ≡ 0
  near_voids h0 = grind (arith, near_void)

  near_alike : (i : ℕ) → i < size_of old.class → ¬ IsVoid old.class i → AreAlike (entry_at (table_in parts.Reach new) Mate i) (entry_at (table_in parts.Reach new) Zeroing i)
  near_alike i i_in index = known_alike (entry_at (table_in parts.Reach new) Mate i) (elim (put.same columns.Reach i) [
    | inr at ↦ let known = told i at in near_known (entry_at (table_in parts.Reach new) Mate i) (reach_at new i) (near_at new i) known.0 known.1
    | inl same ↦ subst IsKnown (sym (near_at new i ∙ ap (λ n. 2 * n - 1) same ∙ sym (near_at old i))) (bytes.alike i i_in index).mate_known
  ])

  pub reach_bytes : HasBytes (table_in parts.Reach new)
  reach_bytes = record {
    void = λ metric i i_in void. near_voids metric i (subst (λ c. i < size_of c) put.class i_in) (subst (λ c. IsVoid c i) put.class void);
    alike = λ i i_in index. near_alike i (subst (λ c. i < size_of c) put.class i_in) (subst (λ c. ¬ IsVoid c i) put.class index);
  }

-- ---- lanes that are put

pub mended_of : (part : Part) (At : ℕ → Type 0) (old new : TableValue) → IsPutIn part At old new → HasBytes (table_in part new) → IsMendedAt part At old new
mended_of part At old new put bytes = record { class = put.class; there = put.there; same = put.same; mate = put.mate; zeroing = put.zeroing; reach = put.reach; bytes = bytes }

module _ (old new : TableValue) (shelf : Shelf) (lanes : SquareSet) (scores clocks : List ℕ) where
  code : ℕ → ℕ
  code digit = code_of old.class (number_in old.class shelf.number shelf.side digit)

  pub lanes_mended : (part : Part) (result : Bool) → HasBytes (table_in part old) → IsPutIn part (IsLaneIn old.class shelf.men shelf.number shelf.side lanes) old new → (result ≡ false → new ≡ old)
      → (result ≡ true → (digit : ℕ) → digit < kind_digits shelf.men.last.kind → Has lanes (digit + kind_less shelf.men.last.kind) → column_score old (column_of part) (code_of old.class (number_in old.class shelf.number shelf.side digit)) ≢ 0)
      → (result ≡ true → (digit : ℕ) → digit < kind_digits shelf.men.last.kind → Has lanes (digit + kind_less shelf.men.last.kind) → IsToldAt part new (code_of old.class (number_in old.class shelf.number shelf.side digit)) (slice_index scores (digit + kind_less shelf.men.last.kind)) (slice_index clocks (digit + kind_less shelf.men.last.kind)))
      → IsMendedAt part (IsLaneOf old.class shelf lanes) old new
  lanes_mended part false bytes put kept some told = subst (λ (u : TableValue). IsMendedAt part (IsLaneOf old.class shelf lanes) old u) (sym (kept refl)) (stays part (IsLaneOf old.class shelf lanes) old bytes)
  lanes_mended parts.Values true bytes put kept some told = mended_of parts.Values (IsLaneOf old.class shelf lanes) old new put (values_bytes old new (IsLaneOf old.class shelf lanes) put bytes
      (λ i i_in void lane. some refl lane.0 lane.1 lane.2 (ap (column_score old columns.Mate) (sym lane.3) ∙ ap (λ n. byte_score (n % 256)) (bytes.void Mate i i_in void)))
      (λ i lane. subst (λ n. AreAlike (slice_index new.mate n) (slice_index new.zeroing n)) (sym lane.3) (told refl lane.0 lane.1 lane.2).2))
  lanes_mended parts.Reach true bytes put kept some told = mended_of parts.Reach (IsLaneOf old.class shelf lanes) old new put (reach_bytes old new (IsLaneOf old.class shelf lanes) put bytes
      (λ i i_in void lane. some refl lane.0 lane.1 lane.2 (ap (column_score old columns.Reach) (sym lane.3) ∙ ap (λ n. reach_score (n % 256)) (none_there old bytes i i_in void)))
      (λ i lane. subst (λ n. (reach_at new n ≢ 0) × (reach_at new n < 128)) (sym lane.3) (let at = told refl lane.0 lane.1 lane.2 in (at.1, at.2))))

pub put_told : (part : Part) (t : TableValue) (code score clock : ℕ) → IsToldAt part t code score clock → IsPutAt part t code score clock
put_told h0 t code score clock told = grind (arith, code)

-- ---- ends

value_mated : (e : ℕ) → IsKnown e → byte_score (e % 256) ≡ 255 → e ≡ 3
value_mated e known is = let some = known.some in let other = known.other in let low = known.low in grind (arith, nat_tests, some, other, low, is)

value_drawn : (e : ℕ) → IsKnown e → byte_score (e % 256) ≡ 128 → e ≡ 1
value_drawn e known is = let some = known.some in let other = known.other in let low = known.low in grind (arith, nat_tests, some, other, low, is)

near_mated : (e : ℕ) → e ≢ 0 → e < 128 → reach_score (e % 256) ≡ 255 → near_entry e ≡ 3
near_mated e some low is = grind (arith, nat_tests, some, low, is)

near_drawn : (e : ℕ) → e ≢ 0 → e < 128 → reach_score (e % 256) ≡ 128 → near_entry e ≡ 1
near_drawn e some low is = grind (arith, nat_tests, some, low, is)

value_end : (e entry score : ℕ) → IsKnown e → byte_score (e % 256) ≡ score → AreOfEnd entry score → e ≡ entry
value_end e entry score known is of = elim of [
  | inl mated ↦ value_mated e known (is ∙ mated.1) ∙ sym mated.0
  | inr drawn ↦ value_drawn e known (is ∙ drawn.1) ∙ sym drawn.0
]

near_end : (e entry score : ℕ) → e ≢ 0 → e < 128 → reach_score (e % 256) ≡ score → AreOfEnd entry score → near_entry e ≡ entry
near_end e entry score some low is of = elim of [
  | inl mated ↦ near_mated e some low (is ∙ mated.1) ∙ sym mated.0
  | inr drawn ↦ near_drawn e some low (is ∙ drawn.1) ∙ sym drawn.0
]

pub end_told : (part : Part) (t : TableValue) (code score : ℕ) → IsToldAt part t code score score → IsEndScore t.class code score → IsRightEndOf part t code
end_told parts.Values t code score told end = λ p spells.
    let at = end p spells in
    (at.0, at.1, value_end (slice_index t.mate code) at.0 score told.2.mate_known told.0 at.2, value_end (slice_index t.zeroing code) at.0 score told.2.zeroing_known told.1 at.2)
end_told parts.Reach t code score told end = λ p spells.
    let at = end p spells in
    (at.0, at.1, near_end (reach_at t code) at.0 score told.1 told.2 told.0 at.2)
