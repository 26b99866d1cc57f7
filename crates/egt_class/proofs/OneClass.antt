-- Positions of a class: one class, the settled form, the images.
use Rattle.std.proofs.Common.{◌≡◌, ℕ, ◌<◌, ◌⊎◌, ◌↔◌, Bool, true, not, if◌then◌else◌, sym, ap, ◌∙◌, inl, inr, arith}
use Rattle.egt_class.specs.Prelude.{Side, Kind, Man, other_side, Setup, SettlesTo, count_of}
use Rattle.egt_class.specs.Prelude.{SameMen, ExchangedMen, men_in, has_equal_sides, IsOf}
use Rattle.egt_class.proofs.ClassTests.{one_class, equal_sides}
use Rattle.egt_board.proofs.SettledForms.{settles_men}
use Rattle.egt_board.proofs.Sides.{side_twice}

pub same_class : (p : Setup) (c d : ℕ) (flipped turned : Bool) → c < 36 → d < 36 → IsOf c flipped p → IsOf d turned p → (c ≡ d) × ((flipped ≡ turned) ⊎ (has_equal_sides c ≡ true))
unfolding men_in
same_class p c d flipped turned c_in d_in is other = one_class c d flipped turned c_in d_in (λ man. sym (is.men man) ∙ other.men man)

-- either side has the same men
either_side : (c : ℕ) → c < 36 → has_equal_sides c ≡ true → (s t : Side) (kind : Kind) → men_in c s kind ≡ men_in c t kind
either_side c c_in equal s t kind = grind (arith, equal_sides)

pub either_flip : (p : Setup) (c : ℕ) (flipped turned : Bool) → c < 36 → has_equal_sides c ≡ true → IsOf c flipped p → IsOf c turned p
either_flip p c flipped turned c_in equal is = record { men = λ man. is.men man ∙ either_side c c_in equal _ _ man.kind }

-- positions with as many of each man are of one class
pub by_men : (p q : Setup) (c : ℕ) (flipped : Bool) → ((man : Man) → count_of q.men man ≡ count_of p.men man) → IsOf c flipped p → IsOf c flipped q
by_men p q c flipped same is = record { men = λ man. same man ∙ is.men man }

pub settled_class : (p q : Setup) (c : ℕ) (flipped : Bool) → SettlesTo p q → IsOf c flipped p ↔ IsOf c flipped q
settled_class p q c flipped settles = grind (arith, settles_men, by_men, count_of)

-- with colours exchanged the other flip is taken
exchanged_side : (flipped : Bool) (side : Side) → (if flipped then other_side (other_side side) else other_side side) ≡ (if not flipped then other_side side else side)
exchanged_side flipped side = grind arith

pub image_class : (p q : Setup) (c : ℕ) (flipped : Bool) → SameMen p q ⊎ ExchangedMen p q → IsOf c flipped p → (IsOf c flipped q × (q.side ≡ p.side)) ⊎ (IsOf c (not flipped) q × (q.side ≡ other_side p.side))
image_class p q c flipped (inl same) is = inl (by_men p q c flipped same.men is, same.side)
image_class p q c flipped (inr exchanged) is = inr (record { men = λ man. by_side man.side man.kind }, exchanged.side)
  where
    by_side : (side : Side) (kind : Kind) → let man : Man = record { side = side; kind = kind } in count_of q.men man ≡ men_in c (if not flipped then other_side side else side) kind
    by_side side kind =
        let man = λ (s : Side). let made : Man = record { side = s; kind = kind } in made in
        ap (λ s. count_of q.men (man s)) (sym (side_twice side))
        ∙ exchanged.men (man (other_side side))
        ∙ is.men (man (other_side side))
        ∙ ap (λ s. men_in c s kind) (exchanged_side flipped side)
