-- The column of the nearest mates as a function of positions.
use Rattle.std.proofs.Common.{◌≡◌, ◌≢◌, ℕ, zero, suc, ◌-◌, ◌≤◌, ◌↔◌, false, nat_lt, le-ltb, if◌then◌else◌, Option, Some}
use Rattle.std.proofs.Common.{None, refl, sym, ap, ◌∙◌, subst, inl, inr, arith}
use Rattle.egt_check.specs.Prelude.{cases_eq, Decided, Setup, IsIndex, longest, Facts, ShowsReach, Tables, reach_at}
use Rattle.egt_check.specs.Prelude.{decided_admissible, AreImages, IsAdmissible, TableValue, HasReachEntry, ShowsReachOf}
use Rattle.egt_check.proofs.Alike.{image_index}

-- the number that an entry shows, if it shows one
pub reach_read : ℕ → Option ℕ
reach_read zero = None
reach_read (suc zero) = None
reach_read (suc (suc n)) = if nat_lt longest n then None else Some n

pub reach_read_shown : (x : ℕ) (number : Option ℕ) → ShowsReach x number → reach_read x ≡ number
unfolding reach_read
reach_read_shown x (Some n) s =
    let here : x ≡ suc (suc n) = omega (arith, s.1) in
    let few : nat_lt longest n ≡ false = le-ltb longest n s.0 in
    rw (here, few) refl
reach_read_shown x None s = let here : x ≡ suc zero = s.1 in rw here refl

-- an entry that is not 0 and at most 32,002 shows something, and one that shows something is such
pub reach_in_range : (x : ℕ) → x ≢ 0 → x ≤ 32002 → (number : Option ℕ) × ShowsReach x number
reach_in_range x some le = elim (cases_eq x 1) [
  | inl one ↦ (None, (tt, one))
  | inr other ↦ (Some (x - 2), (omega arith, omega arith))
]

pub reach_range : (x : ℕ) (number : Option ℕ) → ShowsReach x number → (x ≢ 0) × (x ≤ 32002)
reach_range x number s = grind arith

module _ (facts : Facts) (tables : Tables) where
  number_in : ℕ → Option TableValue → Option ℕ
  number_in i None = None
  number_in i (Some t) = reach_read (reach_at t i)

  number_of : (p : Setup) → Decided (IsAdmissible p) → Option ℕ
  number_of p (inl ok) =
      let own = facts.classes p ok in
      number_in (facts.some_index p own.0 own.1 own.2 ok own.3).0 (tables own.0)
  number_of p (inr not) = None

  -- the number that the position's entry shows, if there is an entry and it shows one
  pub number_at : Setup → Option ℕ
  number_at p = number_of p (decided_admissible p)

  entry_number : (p : Setup) (x : ℕ) → IsAdmissible p → (d : Decided (IsAdmissible p)) → HasReachEntry tables p x → number_of p d ≡ reach_read x
  unfolding number_of number_in
  entry_number p x ok (inr not) e = absurd (not ok)
  entry_number p x ok (inl own_ok) e =
      let own = facts.classes p own_ok in
      let index = facts.some_index p own.0 own.1 own.2 own_ok own.3 in
      let same : own.0 ≡ e.class = facts.one_class p own.0 e.class own.1 e.flipped own.2 e.below own.3 e.of in
      let one : index.0 ≡ e.index = facts.one_index p e.class index.0 e.index ok (subst (λ c. IsIndex c p index.0) same index.1) e.is_index in
      ap (number_in index.0) (ap tables same ∙ e.found) ∙ ap (λ k. reach_read (reach_at e.table k)) one
      ∙ ap reach_read (sym e.is)

  -- what is shown of a position is told
  pub reach_shown_told : (p : Setup) (number : Option ℕ) → IsAdmissible p → ShowsReachOf tables p number → number_at p ≡ number
  unfolding number_at
  reach_shown_told p number ok shown = entry_number p shown.0 ok (decided_admissible p) shown.1 ∙ reach_read_shown shown.0 number shown.2

  -- and what is told is shown, of a position of which anything is shown
  pub reach_told_shown : (p : Setup) (number : Option ℕ) → IsAdmissible p → (other : Option ℕ) × ShowsReachOf tables p other → number_at p ≡ number → ShowsReachOf tables p number
  reach_told_shown p number ok some told = subst (ShowsReachOf tables p) (sym (reach_shown_told p some.0 ok some.1) ∙ told) some.1

  -- the same is shown of images
  image_shows : (number : Option ℕ) (p q : Setup) → IsAdmissible p → AreImages p q → ShowsReachOf tables p number → ShowsReachOf tables q number
  image_shows number p q ok images shown =
      let e = shown.1 in
      let turned = facts.image_class p q e.class e.flipped ok images e.of in (
        shown.0,
        record {
          class = e.class;
          below = e.below;
          flipped = turned.0;
          of = turned.1;
          table = e.table;
          found = e.found;
          index = e.index;
          is_index = image_index facts e.class e.index p q e.below ok images e.is_index;
          is = e.is;
        },
        shown.2,
      )

  pub images_show_reach : (number : Option ℕ) (p q : Setup) → IsAdmissible p → AreImages p q → ShowsReachOf tables p number ↔ ShowsReachOf tables q number
  images_show_reach number p q ok images =
      (image_shows number p q ok images, image_shows number q p (facts.image_admissible p q ok images) (facts.images_back p q ok images))
