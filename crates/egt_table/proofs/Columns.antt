-- The bytes of columns, one after the other.
use Rattle.std.proofs.Common.{◌≡◌, ℕ, zero, suc, ◌<◌, List, [], ◌∷◌, ◌++◌, length, take, drop, get_or, refl, sym, ap}
use Rattle.std.proofs.Common.{◌∙◌, arith, append_assoc}
use Rattle.egt_table.specs.Prelude.{common_steps, flat_map}

-- the pieces before place i, the one there, and those behind it
pieces_at : {A : Type 0} (f : A → List ℕ) (items : List A) (i : ℕ) (d : A) → i < length items
    → (flat_map f (take (suc i) items) ≡ flat_map f (take i items) ++ f (get_or items i d)) × (flat_map f items ≡ flat_map f (take i items) ++ (f (get_or items i d) ++ flat_map f (drop (suc i) items)))
pieces_at f [] i d h = absurd (omega arith)
pieces_at f (x ∷ items) zero d h = (grind (arith, common_steps), refl)
pieces_at f (x ∷ items) (suc i) d h =
    let p = pieces_at f items i d (omega arith) in (
      ap (λ (w : List ℕ). f x ++ w) p.0 ∙ sym (append_assoc (f x) (flat_map f (take i items)) (f (get_or items i d))),
      ap (λ (w : List ℕ). f x ++ w) p.1 ∙ sym (append_assoc (f x) (flat_map f (take i items)) (f (get_or items i d) ++ flat_map f (drop (suc i) items))),
    )

pub pieces_split : {A : Type 0} (f : A → List ℕ) (items : List A) (i : ℕ) (d : A) → i < length items
    → flat_map f items ≡ flat_map f (take i items) ++ (f (get_or items i d) ++ flat_map f (drop (suc i) items))
pieces_split f items i d h = (pieces_at f items i d h).1
