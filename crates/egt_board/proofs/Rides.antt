-- The squares along one step, as a loop finds them.
use Rattle.std.proofs.Common.{◌≡◌, ◌≢◌, ℕ, ◌+◌, ◌<◌, ◌≤◌, ◌↔◌, arith, sym, ap, ◌∙◌, subst, inl, inr}
use Rattle.egt_board.specs.Prelude.{bit_at, bit_at-zero, cases_eq, cases_lt, Step, Away, Rides}
use Rattle.egt_board.proofs.Geometry.{Away-zero, Away-more, Away-same, Away-next}

abbrev Open : ℕ → ℕ → Type 0
Open occupied u = bit_at occupied u ≡ 0

-- the set has the squares along the step that are at most n times away
abbrev pub AreReached : (occupied set n s : ℕ) → Step → Type 0
AreReached occupied set n s d = (t : ℕ) → t < 64 → (bit_at set t ≡ 1) ↔ Rides (Open occupied) n s t d

-- after n steps from s along d, with nothing in the way, we are at a
pub record Rode (occupied set n s a : ℕ) (d : Step) : Type 0 where
  pub here : Away d n s a
  pub on_board : a < 64
  pub clear : (k u : ℕ) → 0 < k → k ≤ n → Away d k s u → Open occupied u
  pub reached : AreReached occupied set n s d

pub Rode-none : (occupied s : ℕ) (d : Step) → s < 64 → Rode occupied 0 0 s s d
Rode-none occupied s d s_in = grind (arith, Away-zero, bit_at-zero)

Rides-more : (occupied n m s t : ℕ) (d : Step) → n ≤ m → Rides (Open occupied) n s t d → Rides (Open occupied) m s t d
Rides-more occupied n m s t d le r = grind arith

Rides-fewer : (occupied n m s t : ℕ) (d : Step) (r : Rides (Open occupied) m s t d) → r.count ≤ n → Rides (Open occupied) n s t d
Rides-fewer occupied n m s t d r within = grind arith

-- one more square
pub reach_more : (occupied set set' n s a b : ℕ) (d : Step) → Rode occupied set n s a d → Away d 1 a b → bit_at set' b ≡ 1 → ((t : ℕ) → t ≢ b → bit_at set' t ≡ bit_at set t) → AreReached occupied set' (n + 1) s d
reach_more occupied set set' n s a b d rode away same others = λ t t_in. (there t t_in, back t t_in)
  where
    end : Away d (n + 1) s b
    end = Away-more d n s a b rode.here away

    last : Rides (Open occupied) (n + 1) s b d
    last = grind (arith, end)

    there : (t : ℕ) → t < 64 → bit_at set' t ≡ 1 → Rides (Open occupied) (n + 1) s t d
    there t t_in bit = elim (cases_eq t b) [
      | inl e ↦ subst (λ x. Rides (Open occupied) (n + 1) s x d) (sym e) last
      | inr other ↦ Rides-more occupied n (n + 1) s t d (omega arith) ((rode.reached t t_in).0 (sym (others t other) ∙ bit))
    ]

    back : (t : ℕ) → t < 64 → Rides (Open occupied) (n + 1) s t d → bit_at set' t ≡ 1
    back t t_in r = elim (cases_eq t b) [
      | inl e ↦ ap (bit_at set') e ∙ same
      | inr other ↦ elim (cases_lt n r.count) [
        | inl more ↦ let within = r.within in
            let e : r.count ≡ n + 1 = omega arith in
            absurd (other (Away-same d (n + 1) s t b (subst (λ k. Away d k s t) e r.away) end))
        | inr few ↦ others t other ∙ (rode.reached t t_in).1 (Rides-fewer occupied n (n + 1) s t d r few)
      ]
    ]

pub Rode-more : (occupied set set' n s a b : ℕ) (d : Step) → Rode occupied set n s a d → Away d 1 a b → bit_at set' b ≡ 1 → ((t : ℕ) → t ≢ b → bit_at set' t ≡ bit_at set t) → bit_at occupied b ≡ 0 → Rode occupied set' (n + 1) s b d
Rode-more occupied set set' n s a b d rode away same others free = record {
  here = Away-more d n s a b rode.here away;
  on_board = away.on_board;
  clear = λ k u some most u_away. elim (cases_lt n k) [
    | inl last ↦
        let e : k ≡ n + 1 = omega arith in
        let u_is = Away-same d (n + 1) s u b (subst (λ j. Away d j s u) e u_away) (Away-more d n s a b rode.here away) in
        ap (bit_at occupied) u_is ∙ free
    | inr early ↦ rode.clear k u some early u_away
  ];
  reached = reach_more occupied set set' n s a b d rode away same others;
}

-- where no more can be reached than n times away, that is all
reach_all : (occupied set n most s : ℕ) (d : Step) → n ≤ most → AreReached occupied set n s d → ((t : ℕ) (r : Rides (Open occupied) most s t d) → n < r.count → ⊥) → AreReached occupied set most s d
reach_all occupied set n most s d le reached no_more = λ t t_in. (
  λ bit. Rides-more occupied n most s t d le ((reached t t_in).0 bit),
  λ r. elim (cases_lt n r.count) [
    | inl more ↦ absurd (no_more t r more)
    | inr few ↦ (reached t t_in).1 (Rides-fewer occupied n most s t d r few)
  ],
)

-- nothing is reached past an occupied square
pub reach_stopped : (occupied set n most s b : ℕ) (d : Step) → 0 < n → n ≤ most → Away d n s b → bit_at occupied b ≡ 1 → AreReached occupied set n s d → AreReached occupied set most s d
reach_stopped occupied set n most s b d some le away taken reached = grind (arith, reach_all)

-- nor past the edge
pub reach_edge : (occupied set n most s a : ℕ) (d : Step) → n ≤ most → Rode occupied set n s a d → ((u : ℕ) → Away d 1 a u → ⊥) → AreReached occupied set most s d
reach_edge occupied set n most s a d le rode edge =
    reach_all occupied set n most s d le rode.reached (λ t r more.
    let u = Away-next d n r.count s a t more rode.on_board rode.here r.away in edge u.0 u.1)
