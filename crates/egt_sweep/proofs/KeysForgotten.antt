-- Blocks that are forgotten where entries are put: those that stay were read from others.
use Rattle.std.proofs.Common.{◌≡◌, ◌≢◌, ◌∙◌, ℕ, ◌/◌, ◌%◌, ◌==◌, ◌<◌, Bool, true, false, List, [], length, Option, Some}
use Rattle.std.proofs.Common.{None, IfSome, arith, ap, refl, sym, subst, inl, inr, slice_index_or}
use Rattle.egt_sweep.specs.FillPrelude.{false≢true, other_side, turned_square, Side, has_equal_sides}
use Rattle.egt_sweep.specs.FillPrelude.{material_of, IsTurnWith, symmetries, has_pawns, ShelfMen, turn_number, eight}
use Rattle.egt_sweep.specs.FillPrelude.{undoing, undoing_in, undone, TableValue, Column, AreKept, IsKept, IsPlaced}
use Rattle.egt_sweep.specs.FillPrelude.{wide_place, BlockKey, column_score, Part, AreAllKept, AreFewer, AreForgotten}
use Rattle.egt_sweep.specs.FillPrelude.{Filling, IsMended, Near, TurnsTo, with_items, with_items_is}
use Rattle.egt_sweep.proofs.KeptThrough.{all_kept}

other_apart : (side : Side) → side ≢ other_side side
other_apart side e = grind arith

-- at the places of these kings after each turn that exchanges colours so there is no key
abbrev pub AreGone : (c : ℕ) (flips : Bool) (white black places : ℕ) (keys : List (Option BlockKey)) → Type 0
AreGone c flips white black places keys = (t : ℕ) (column : Column) → IsTurnWith (has_pawns (material_of c)) flips t → slice_index_or keys (wide_place column (turned_square (t % 8) flips white) (turned_square (t % 8) flips black) places) None ≡ None

-- so no key is left of the kings whom such a turn takes to these
gone_there : (c : ℕ) (flips : Bool) (white black w b n : ℕ) (column : Column) (places i : ℕ) (keys : List (Option BlockKey)) → w < 64 → b < 64 → n < symmetries (has_pawns (material_of c)) → white ≡ turned_square n flips w → black ≡ turned_square n flips b
    → i ≡ wide_place column w b places → AreGone c flips white black places keys → slice_index_or keys i None ≡ None
gone_there c flips white black w b n column places i keys w_in b_in n_in white_is black_is at gone =
    ap (λ p. slice_index_or keys p None) (at ∙ ap (λ k. wide_place column k b places) (sym w_back) ∙ ap (λ k. wide_place column (turned_square (t.0 % 8) flips white) k places) (sym b_back)) ∙ gone t.0 column turn
  where
    u : ℕ
    u = undoing flips n

    u_in : u < symmetries (has_pawns (material_of c))
    u_in = undoing_in (has_pawns (material_of c)) flips n n_in

    t : (t : ℕ) × (t < 16) × (t % 8 ≡ u) × ((t / 8 == 1) ≡ flips)
    t = turn_number u flips (eight (has_pawns (material_of c)) u u_in)

    turn : IsTurnWith (has_pawns (material_of c)) flips t.0
    turn = record { below = t.1; flips_is = t.3; keeps = subst (λ k. k < symmetries (has_pawns (material_of c))) (sym t.2) u_in }

    w_back : turned_square (t.0 % 8) flips white ≡ w
    w_back = ap (λ k. turned_square k flips white) t.2 ∙ ap (turned_square u flips) white_is ∙ (undone flips n w (eight (has_pawns (material_of c)) n n_in) w_in).1

    b_back : turned_square (t.0 % 8) flips black ≡ b
    b_back = ap (λ k. turned_square k flips black) t.2 ∙ ap (turned_square u flips) black_is ∙ (undone flips n b (eight (has_pawns (material_of c)) n n_in) b_in).1

module _ (c white black : ℕ) (side s : Side) (old new : List (Option BlockKey)) (fewer : AreFewer old new)
    (none : (k : BlockKey) (i : ℕ) → k.white < 64 → k.black < 64 → i ≡ wide_place k.column k.white k.black (length old) → TurnsTo c k.white k.black s white black side → slice_index_or new i None ≡ None) where
  left_apart : (i : ℕ) (key : Option BlockKey) → slice_index_or new i None ≡ key → IsPlaced (length old) (slice_index_or old i None) i → IfSome key (λ k. ¬ TurnsTo c k.white k.black s white black side)
  left_apart i None is placed = tt
  left_apart i (Some k) is placed = λ to. elim (fewer i) [
    | inl same ↦ let at = subst (λ (key : Option BlockKey). IsPlaced (length old) key i) (sym same ∙ is) placed in let gone = sym is ∙ none k i at.0 at.1 at.2 to in cc
    | inr gone ↦ let both = sym is ∙ gone in cc
  ]

  pub forgotten : AreForgotten c white black side s old new
  forgotten = record { fewer = fewer; apart = λ placed i i_in. left_apart i (slice_index_or new i None) refl (placed i i_in) }

-- of positions with the same side to move
pub same_forgotten : (c white black : ℕ) (side : Side) (old new : List (Option BlockKey)) → AreFewer old new → AreGone c false white black (length old) new → AreForgotten c white black side side old new
same_forgotten c white black side old new fewer gone = forgotten c white black side side old new fewer (λ k i w_in b_in at to. elim to.takes [
  | inl own ↦ gone_there c false white black k.white k.black (to.turn % 8) k.column (length old) i new w_in b_in to.keeps own.1 own.2 at gone
  | inr across ↦ absurd (other_apart side across.4)
])

-- and with the other side to move, where both sides have the same men
pub others_forgotten : (c white black : ℕ) (side : Side) (old new : List (Option BlockKey)) → AreFewer old new → AreGone c true black white (length old) new → AreForgotten c white black side (other_side side) old new
others_forgotten c white black side old new fewer gone = forgotten c white black side (other_side side) old new fewer (λ k i w_in b_in at to. elim to.takes [
  | inl own ↦ absurd (other_apart side own.3)
  | inr across ↦ gone_there c true black white k.white k.black (to.turn % 8) k.column (length old) i new w_in b_in to.keeps across.3 across.2 at gone
])

-- or where they have not, so that none is
pub none_forgotten : (c white black : ℕ) (side : Side) (keys : List (Option BlockKey)) → has_equal_sides c ≡ false → AreForgotten c white black side (other_side side) keys keys
none_forgotten c white black side keys unlike = forgotten c white black side (other_side side) keys keys (λ i. inl refl) (λ k i w_in b_in at to. elim to.takes [
  | inl own ↦ absurd (other_apart side own.3)
  | inr across ↦ absurd (false≢true (sym unlike ∙ across.0))
])

-- by other names of the squares and keys
pub forgotten_at : (c : ℕ) (side s : Side) (new : List (Option BlockKey)) → {w b x y : ℕ} → {old keys : List (Option BlockKey)} → w ≡ x → b ≡ y → old ≡ keys → AreForgotten c w b side s old new → AreForgotten c x y side s keys new
forgotten_at c side s new {w} {b} {x} {y} {old} {keys} ew eb eo gone =
    subst (λ (l : List (Option BlockKey)). AreForgotten c x y side s l new) eo (subst (λ v. AreForgotten c x v side s old new) eb (subst (λ v. AreForgotten c v b side s old new) ew gone))

-- what is left holds of the new table
kept_after : (part : Part) (c white black : ℕ) (side s : Side) (old new : TableValue) (men : ShelfMen) (keys after : List (Option BlockKey)) (blocks : List (List (List ℕ))) → old.class ≡ c → IsMended part white black side old new
    → AreForgotten c white black side s keys after → length after ≡ length keys → 12 < length keys → AreKept c (column_score old) men s keys blocks → AreKept c (column_score new) men s after blocks
kept_after part c white black side s old new men keys after blocks class mended gone long wide kept =
    subst (λ d. AreKept d (column_score new) men s after blocks) class
    (all_kept part white black side old new mended men s after blocks (λ i i_in. subst (λ d. IfSome (slice_index_or after i None) (λ k. ¬ TurnsTo d k.white k.black s white black side)) (sym class) (gone.apart kept.placed i (omega (arith, i_in, long))))
    (subst (λ d. AreKept d (column_score old) men s after blocks) (sym class) fewer_kept))
  where
    -- a place whose key is gone holds whatever it holds
    key_kept : (i : ℕ) → i < length keys → IsKept c (column_score old) men s (slice_index_or after i None) (slice_index_or blocks i [])
    key_kept i i_in = elim (gone.fewer i) [
      | inl same ↦ subst (λ (key : Option BlockKey). IsKept c (column_score old) men s key (slice_index_or blocks i [])) (sym same) (kept.each i i_in)
      | inr none ↦ subst (λ (key : Option BlockKey). IsKept c (column_score old) men s key (slice_index_or blocks i [])) (sym none) tt
    ]

    key_placed : (i : ℕ) → i < length keys → IsPlaced (length keys) (slice_index_or after i None) i
    key_placed i i_in = elim (gone.fewer i) [
      | inl same ↦ subst (λ (key : Option BlockKey). IsPlaced (length keys) key i) (sym same) (kept.placed i i_in)
      | inr none ↦ subst (λ (key : Option BlockKey). IsPlaced (length keys) key i) (sym none) tt
    ]

    fewer_kept : AreKept c (column_score old) men s after blocks
    fewer_kept = record {
      some = omega (arith, wide, long);
      as_many = kept.as_many ∙ sym long;
      each = λ i i_in. key_kept i (omega (arith, i_in, long));
      placed = λ i i_in. subst (λ n. IsPlaced n (slice_index_or after i None) i) (sym long) (key_placed i (omega (arith, i_in, long)));
    }

pub near_after : (f : Filling) (white black : ℕ) (side s : Side) (old new : TableValue) (near : Near) (after : List (Option BlockKey)) → old.class ≡ f.class → IsMended f.part white black side old new
    → AreForgotten f.class white black side s near.keys.items after → length after ≡ length near.keys.items → AreAllKept f old s near → AreAllKept f new s (record { keys = with_items near.keys after; blocks = near.blocks })
near_after f white black side s old new near after class mended gone long all =
    let same = with_items_is near.keys after (long ∙ sym near.keys.ok.0) in
    record {
      kept = subst (λ (keys : List (Option BlockKey)). AreKept f.class (column_score new) f.men s keys near.blocks.items) (sym same) (kept_after f.part f.class white black side s old new f.men near.keys.items after near.blocks.items class mended gone long all.wide all.kept);
      wide = subst (λ (keys : List (Option BlockKey)). 12 < length keys) (sym same) (let wide = all.wide in omega (arith, wide, long));
    }
