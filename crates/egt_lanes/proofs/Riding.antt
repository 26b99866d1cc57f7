-- Rows raised along rays: the last man's moves.
use Rattle.std.proofs.Common.{arith, ◌≡◌, ℕ, ◌+◌, ◌<◌, ◌==◌, ◌⊎◌, if◌then◌else◌, Bool, true, false, eqb, cond, max, List, []}
use Rattle.std.proofs.Common.{◌∷◌, ◌++◌, get_or, take, length, refl, sym, ap, ◌∙◌, subst, inl, inr, eqb-true}
use Rattle.egt_lanes.specs.Prelude.{eqb-false, take_more, bit_at, Side, Kind, Step, Away, Rides, OneOf, farthest}
use Rattle.egt_lanes.specs.Prelude.{steps_of, P, K, IsPiece, IsRaised}
use Rattle.egt_lanes.proofs.RaisedTwice.{raised_by_none, first_raised, raised_more, raised_again, raised_as, raised_is}
use Rattle.egt_lanes.proofs.Rays.{IsRidden, first_step, same_end, next_square, one_step, more_steps, fewer_steps, Rides-more, Rides-last, Rides-none}

-- what a shift by one step ensures
pub record IsShifted (d : Step) (from to : List ℕ) : Type 0 where
  pub moved : (s t : ℕ) → s < 64 → Away d 1 s t → get_or to s 0 ≡ get_or from t 0
  pub off_board : (s : ℕ) → s < 64 → ((t : ℕ) → Away d 1 s t → ⊥) → get_or to s 0 ≡ 0

abbrev pub HasBit : ℕ → ℕ → Type 0
HasBit bits u = bit_at bits u ≡ 1

-- each square of `last` is raised by the squares n steps away, and of `best` by those at most n steps away
pub record AreRidden (bits : ℕ) (d : Step) (row last best : List ℕ) (n : ℕ) : Type 0 where
  pub ends : (s : ℕ) → s < 64 → IsRaised 0 (λ t. IsRidden (HasBit bits) n s t d) (λ t. get_or row t 0) (get_or last s 0)
  pub all : (s : ℕ) → s < 64 → IsRaised 0 (λ t. Rides (HasBit bits) n s t d) (λ t. get_or row t 0) (get_or best s 0)

pub step_end : (d : Step) (row to : List ℕ) → IsShifted d row to → (s : ℕ) → s < 64 → IsRaised 0 (λ t. Away d 1 s t) (λ t. get_or row t 0) (get_or to s 0)
step_end d row to shift s s_in =
    let f : ℕ → ℕ = λ t. get_or row t 0 in
    elim (next_square d s s_in) [
      | inl h ↦ raised_is 0 (f h.0) (get_or to s 0) (λ t. Away d 1 s t) f (shift.moved s h.0 s_in h.1) (first_raised h.0 (λ t. Away d 1 s t) f h.1 (λ t a. same_end d 1 s t h.0 a h.1))
      | inr none ↦ raised_is 0 0 (get_or to s 0) (λ t. Away d 1 s t) f (shift.off_board s s_in none) (raised_by_none 0 (λ t. Away d 1 s t) f none)
    ]

one_end : (bits : ℕ) (d : Step) (row to : List ℕ) → IsShifted d row to → (s : ℕ) → s < 64
    → IsRaised 0 (λ t. IsRidden (HasBit bits) 1 s t d) (λ t. get_or row t 0) (get_or to s 0)
one_end bits d row to shift s s_in = grind (arith, raised_as, one_step, step_end)

pub ridden_first : (bits : ℕ) (d : Step) (row to : List ℕ) → IsShifted d row to → AreRidden bits d row to to 1
ridden_first bits d row to shift = record {
  ends = one_end bits d row to shift;
  all = λ s s_in.
      raised_as 0 (get_or to s 0) (λ t. IsRidden (HasBit bits) 1 s t d) (λ t. Rides (HasBit bits) 1 s t d) (λ t. get_or row t 0)
      (λ t r. Rides-more (HasBit bits) 0 s t d (inl r))
      (λ t r. elim (Rides-last (HasBit bits) 0 s t d r) [ inl r ↦ r | inr n ↦ absurd (Rides-none (HasBit bits) s t d n) ])
      (one_end bits d row to shift s s_in);
}

pub more_ends : (bits : ℕ) (d : Step) (row last kept to : List ℕ) (n : ℕ) → 0 < n
    → ((s : ℕ) → s < 64 → IsRaised 0 (λ t. IsRidden (HasBit bits) n s t d) (λ t. get_or row t 0) (get_or last s 0))
    → ((s : ℕ) → s < 64 → get_or kept s 0 ≡ (if bit_at bits s == 1 then get_or last s 0 else 0))
    → IsShifted d kept to → (s : ℕ) → s < 64 → IsRaised 0 (λ t. IsRidden (HasBit bits) (n + 1) s t d) (λ t. get_or row t 0) (get_or to s 0)
more_ends bits d row last kept to n some ends keeps shift s s_in =
    elim (next_square d s s_in) [
      | inl h ↦ at h.0 h.1 (eqb (bit_at bits h.0) 1) refl
      | inr none ↦ raised_is 0 0 (get_or to s 0) In f (shift.off_board s s_in none) (raised_by_none 0 In f (λ t r. let h = first_step d n s t s_in r.away in none h.0 h.1))
    ]
  where
    In : ℕ → Type 0
    In t = IsRidden (HasBit bits) (n + 1) s t d

    f : ℕ → ℕ
    f t = get_or row t 0

    at : (u : ℕ) → Away d 1 s u → (b : Bool) → eqb (bit_at bits u) 1 ≡ b → IsRaised 0 (λ t. IsRidden (HasBit bits) (n + 1) s t d) (λ t. get_or row t 0) (get_or to s 0)
    at u a true e =
        let is : get_or to s 0 ≡ get_or last u 0 = shift.moved s u s_in a ∙ keeps u a.on_board ∙ ap (λ b. cond b (get_or last u 0) 0) e in
        raised_is 0 (get_or last u 0) (get_or to s 0) (λ t. IsRidden (HasBit bits) (n + 1) s t d) (λ t. get_or row t 0) is
        (raised_as 0 (get_or last u 0) (λ t. IsRidden (HasBit bits) n u t d) (λ t. IsRidden (HasBit bits) (n + 1) s t d) (λ t. get_or row t 0)
        (λ t r. more_steps (HasBit bits) n s u t d s_in a (eqb-true _ _ e) r)
        (λ t r. (fewer_steps (HasBit bits) n s u t d s_in some a r).1)
        (ends u a.on_board))
    at u a false e =
        let is : get_or to s 0 ≡ 0 = shift.moved s u s_in a ∙ keeps u a.on_board ∙ ap (λ b. cond b (get_or last u 0) 0) e in
        raised_is 0 0 (get_or to s 0) (λ t. IsRidden (HasBit bits) (n + 1) s t d) (λ t. get_or row t 0) is
        (raised_by_none 0 (λ t. IsRidden (HasBit bits) (n + 1) s t d) (λ t. get_or row t 0) (λ t r. eqb-false _ _ e ((fewer_steps (HasBit bits) n s u t d s_in some a r).0)))

pub ridden_more : (bits : ℕ) (d : Step) (row last best kept to top : List ℕ) (n : ℕ) → 0 < n → AreRidden bits d row last best n
    → ((s : ℕ) → s < 64 → get_or kept s 0 ≡ (if bit_at bits s == 1 then get_or last s 0 else 0))
    → IsShifted d kept to → ((s : ℕ) → s < 64 → get_or top s 0 ≡ max (get_or best s 0) (get_or to s 0)) → AreRidden bits d row to top (n + 1)
ridden_more bits d row last best kept to top n some before keeps shift raises =
    let ends = more_ends bits d row last kept to n some before.ends keeps shift in record {
      ends = ends;
      all = λ s s_in.
          let f : ℕ → ℕ = λ t. get_or row t 0 in
          let New : ℕ → Type 0 = λ t. IsRidden (HasBit bits) (n + 1) s t d in
          let Old : ℕ → Type 0 = λ t. Rides (HasBit bits) n s t d in
          raised_as 0 (get_or top s 0) (λ t. New t ⊎ Old t) (λ t. Rides (HasBit bits) (n + 1) s t d) f
          (λ t r. Rides-more (HasBit bits) n s t d r) (λ t r. Rides-last (HasBit bits) n s t d r)
          (raised_more 0 (get_or best s 0) (get_or to s 0) (get_or top s 0) Old New f (before.all s s_in) (ends s s_in) (raises s s_in));
    }

-- ---- over several steps

pub raised_over : (low v w : ℕ) (In : ℕ → Type 0) (f : ℕ → ℕ) → IsRaised 0 In f v → w ≡ max low v → IsRaised low In f w
raised_over low v w h3 f h is = grind (arith, raised_by_none, raised_as, raised_more)

pub no_steps : (low : ℕ) (H : ℕ → Step → Type 0) (f : ℕ → ℕ) → IsRaised low (λ t. OneOf (H t) []) f low
no_steps low H f = raised_by_none low (λ t. OneOf (H t) []) f (λ t n. n)

pub one_more_step : (low v w : ℕ) (H : ℕ → Step → Type 0) (f : ℕ → ℕ) (d d' : Step) (ds : List Step) → d' ≡ d
    → IsRaised low (λ t. OneOf (H t) ds) f v → IsRaised v (λ t. H t d') f w → IsRaised low (λ t. OneOf (H t) (d ∷ ds)) f w
one_more_step low v w H f d d' ds e old new = raised_again low v w (λ t. OneOf (H t) ds) (λ t. H t d) f old (subst (λ x. IsRaised v (λ t. H t x) f w) e new)

-- one after the other by four steps more
pub four_more_steps : {low u v w x y : ℕ} {a a' b b' c c' d d' : Step} (H : ℕ → Step → Type 0) (f : ℕ → ℕ) (ds : List Step) → a' ≡ a → b' ≡ b → c' ≡ c → d' ≡ d
    → IsRaised low (λ t. OneOf (H t) ds) f u → IsRaised u (λ t. H t a') f v → IsRaised v (λ t. H t b') f w → IsRaised w (λ t. H t c') f x → IsRaised x (λ t. H t d') f y
    → IsRaised low (λ t. OneOf (H t) (d ∷ c ∷ b ∷ a ∷ ds)) f y
four_more_steps H f ds is_a is_b is_c is_d old first second third fourth = grind (arith, one_more_step)

OneOf-left : (H : Step → Type 0) (ds es : List Step) → OneOf H ds → OneOf H (ds ++ es)
OneOf-left H [] es none = absurd none
OneOf-left H (d ∷ ds) es some = elim some [ inl p ↦ inl p | inr r ↦ inr (OneOf-left H ds es r) ]

OneOf-right : (H : Step → Type 0) (ds es : List Step) → OneOf H es → OneOf H (ds ++ es)
OneOf-right H [] es some = some
OneOf-right H (d ∷ ds) es some = inr (OneOf-right H ds es some)

OneOf-either : (H : Step → Type 0) (ds es : List Step) → OneOf H (ds ++ es) → OneOf H ds ⊎ OneOf H es
OneOf-either H [] es some = inr some
OneOf-either H (d ∷ ds) es some = elim some [ inl p ↦ inl (inl p) | inr r ↦ elim (OneOf-either H ds es r) [ inl a ↦ inl (inr a) | inr b ↦ inr b ] ]

pub OneOf-as : (H G : Step → Type 0) (ds : List Step) → ((d : Step) → H d → G d) → OneOf H ds → OneOf G ds
OneOf-as H G [] h none = none
OneOf-as H G (d ∷ ds) h some = elim some [ inl p ↦ inl (h d p) | inr r ↦ inr (OneOf-as H G ds h r) ]

pub both_lists : (low v w : ℕ) (H : ℕ → Step → Type 0) (f : ℕ → ℕ) (ds es : List Step)
    → IsRaised low (λ t. OneOf (H t) es) f v → IsRaised v (λ t. OneOf (H t) ds) f w → IsRaised low (λ t. OneOf (H t) (ds ++ es)) f w
both_lists low v w H f ds es old new =
    raised_as low w (λ t. OneOf (H t) ds ⊎ OneOf (H t) es) (λ t. OneOf (H t) (ds ++ es)) f
    (λ t r. elim r [ inl a ↦ OneOf-left (H t) ds es a | inr b ↦ OneOf-right (H t) ds es b ]) (λ t r. OneOf-either (H t) ds es r)
    (raised_again low v w (λ t. OneOf (H t) es) (λ t. OneOf (H t) ds) f old new)

pub lists_both : (low v w : ℕ) (H : ℕ → Step → Type 0) (f : ℕ → ℕ) (ds es : List Step)
    → IsRaised low (λ t. OneOf (H t) ds) f v → IsRaised v (λ t. OneOf (H t) es) f w → IsRaised low (λ t. OneOf (H t) (ds ++ es)) f w
lists_both low v w H f ds es old new =
    raised_as low w (λ t. OneOf (H t) es ⊎ OneOf (H t) ds) (λ t. OneOf (H t) (ds ++ es)) f
    (λ t r. elim r [ inl b ↦ OneOf-right (H t) ds es b | inr a ↦ OneOf-left (H t) ds es a ])
    (λ t r. elim (OneOf-either (H t) ds es r) [ inl a ↦ inr a | inr b ↦ inl b ])
    (raised_again low v w (λ t. OneOf (H t) ds) (λ t. OneOf (H t) es) f old new)

-- the next step of a list
pub next_of_list : (low v w : ℕ) (H : ℕ → Step → Type 0) (f : ℕ → ℕ) (steps : List Step) (i : ℕ) (d : Step) → i < length steps
    → IsRaised low (λ t. OneOf (H t) (take i steps)) f v → IsRaised v (λ t. H t (get_or steps i d)) f w → IsRaised low (λ t. OneOf (H t) (take (i + 1) steps)) f w
next_of_list low v w H f steps i d i_in old new =
    let one : List Step = get_or steps i d ∷ [] in
    let new' : IsRaised v (λ t. OneOf (H t) one) f w =
    raised_as v w (λ t. H t (get_or steps i d)) (λ t. OneOf (H t) one) f (λ t h. inl h) (λ t r. elim r [ inl h ↦ h | inr n ↦ absurd n ]) new in
    subst (λ ds. IsRaised low (λ t. OneOf (H t) ds) f w) (sym (take_more steps i d i_in)) (lists_both low v w H f (take i steps) one old new')

-- a ride of at most one step is the step
pub one_ride : (Free : ℕ → Type 0) (s t : ℕ) (d : Step) → Away d 1 s t → Rides Free 1 s t d
one_ride Free s t d a = Rides-more Free 0 s t d (inl (one_step Free s t d a))

pub ride_one : (Free : ℕ → Type 0) (s t : ℕ) (d : Step) → Rides Free 1 s t d → Away d 1 s t
ride_one Free s t d r = elim (Rides-last Free 0 s t d r) [ inl r ↦ r.away | inr n ↦ absurd (Rides-none Free s t d n) ]

-- what a man of this kind reaches
pub reached_by : (low v w s : ℕ) (Free : ℕ → Type 0) (side : Side) (kind k : Kind) (f : ℕ → ℕ) → kind ≡ k → w ≡ v
    → IsRaised low (λ t. OneOf (Rides Free (farthest k) s t) (steps_of side k)) f v → IsRaised low (λ t. OneOf (Rides Free (farthest kind) s t) (steps_of side kind)) f w
reached_by low v w s Free side kind k f e is h = grind (arith, raised_is)

pub no_piece : (kind : Kind) → (kind ≡ P) ⊎ (kind ≡ K) → IsPiece kind → ⊥
no_piece kind either piece = elim either [ inl e ↦ subst IsPiece e piece | inr e ↦ subst IsPiece e piece ]
