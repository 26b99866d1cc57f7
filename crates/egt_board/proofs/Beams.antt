-- The squares along steps on the bare board, computed.
use Rattle.std.proofs.Common.{◌≡◌, ◌≢◌, ◌↔◌, ℕ, zero, suc, ◌+◌, ◌-◌, ◌*◌, ◌^◌, ◌<◌, true, false, ltb, List, [], ◌∷◌}
use Rattle.std.proofs.Common.{Option, Some, None, arith, zero-add, refl, sym, subst, inl, inr}
use Rattle.egt_board.specs.Prelude.{bit_at, bit_or, ltb-true, ltb-false, bit_at_or, bit_at-zero, bit_at-lt}
use Rattle.egt_board.specs.Prelude.{bit_at-pow_same, bit_at-pow_other, Way, Up, Down, Still, Step, file_of, rank_of}
use Rattle.egt_board.specs.Prelude.{Further, Away, Rides, OneOf}
use Rattle.egt_board.proofs.Rides.{AreReached, Rode, Rode-none, Rode-more, reach_edge}
use Rattle.egt_board.proofs.Steps.{bit_of_either}

-- one coordinate further, on the board
unfoldable pub further_on : Way → ℕ → ℕ → Option ℕ
further_on Up by a = elim (ltb (a + by) 8) as (λ _. Option ℕ) [ true ↦ Some (a + by) | false ↦ None ]
further_on Down by a = elim (ltb a by) as (λ _. Option ℕ) [ true ↦ None | false ↦ Some (a - by) ]
further_on Still by a = Some a

unfoldable pub joint : Option ℕ → Option ℕ → Option ℕ
joint None r = None
joint (Some f) None = None
joint (Some f) (Some r) = Some (8 * r + f)

-- the square one step further
unfoldable pub next_square : Step → ℕ → Option ℕ
next_square d s = joint (further_on d.files d.wide (file_of s)) (further_on d.ranks d.high (rank_of s))

-- the set and the squares at most n steps further
unfoldable pub beam : ℕ → Step → ℕ → ℕ → ℕ
beam zero d a set = set
beam (suc n) d a set = elim (next_square d a) as (λ _. ℕ) [ None ↦ set | Some b ↦ beam n d b (bit_or set (2 ^ b)) ]

-- the squares at most so many of one of these steps away
unfoldable pub beams : ℕ → List Step → ℕ → ℕ
beams most [] s = 0
beams most (d ∷ ds) s = bit_or (beam most d s 0) (beams most ds s)

further_found : (w : Way) (by a b : ℕ) → a < 8 → further_on w by a ≡ Some b → (b < 8) × Further w (1 * by) a b
unfolding further_on
further_found w by a b a_in e = grind (arith, ltb-true, ltb-false)

further_none : (w : Way) (by a b : ℕ) → further_on w by a ≡ None → b < 8 → Further w (1 * by) a b → ⊥
unfolding further_on
further_none w by a b e b_in f = grind (arith, ltb-false, ltb-true)

file_at : (f r : ℕ) → f < 8 → file_of (8 * r + f) ≡ f
file_at f r h = omega arith

rank_at : (f r : ℕ) → f < 8 → rank_of (8 * r + f) ≡ r
rank_at f r h = omega arith

next_found : (d : Step) (s t : ℕ) → s < 64 → next_square d s ≡ Some t → Away d 1 s t
unfolding next_square joint
next_found d s t s_in e = go (further_on d.files d.wide (file_of s)) (further_on d.ranks d.high (rank_of s)) refl refl e
  where
    go : (f r : Option ℕ) → further_on d.files d.wide (file_of s) ≡ f → further_on d.ranks d.high (rank_of s) ≡ r → joint f r ≡ Some t → Away d 1 s t
    go None r hf hr e = absurd (cc)
    go (Some f) None hf hr e = absurd (cc)
    go (Some f) (Some r) hf hr e =
        let across = further_found d.files d.wide (file_of s) f (omega arith) hf in
        let along = further_found d.ranks d.high (rank_of s) r (omega arith) hr in
        let same : 8 * r + f ≡ t = cc in
        subst (Away d 1 s) same (record {
          on_board = omega (arith, across.0, along.0);
          across = subst (Further d.files (1 * d.wide) (file_of s)) (sym (file_at f r across.0)) across.1;
          along = subst (Further d.ranks (1 * d.high) (rank_of s)) (sym (rank_at f r across.0)) along.1;
        })

next_none : (d : Step) (s t : ℕ) → next_square d s ≡ None → Away d 1 s t → ⊥
unfolding next_square joint
next_none d s t e away = grind (arith, further_none)

-- the bits of a beam are what a ride over the bare board reaches
beam_reached : (n k s a set : ℕ) (d : Step) → Rode 0 set k s a d → AreReached 0 (beam n d a set) (k + n) s d
unfolding beam
beam_reached zero k s a set d rode = subst (λ m. AreReached 0 set m s d) (plain k) rode.reached
  where
    plain : (k : ℕ) → k ≡ k + 0
    plain k = omega arith
beam_reached (suc n) k s a set d rode = go (next_square d a) refl (λ b. beam_reached n (k + 1) s b (bit_or set (2 ^ b)) d)
  where
    here : (b : ℕ) → bit_at (bit_or set (2 ^ b)) b ≡ 1
    here b = let or = bit_at_or set (2 ^ b) b in let one = bit_at-pow_same b in let small = bit_at-lt set b in omega arith

    there : (b t : ℕ) → t ≢ b → bit_at (bit_or set (2 ^ b)) t ≡ bit_at set t
    there b t other = let or = bit_at_or set (2 ^ b) t in let none = bit_at-pow_other b t other in omega arith

    go : (o : Option ℕ) → next_square d a ≡ o → ((b : ℕ) → Rode 0 (bit_or set (2 ^ b)) (k + 1) s b d → AreReached 0 (beam n d b (bit_or set (2 ^ b))) ((k + 1) + n) s d)
        → AreReached 0 (elim o as (λ _. ℕ) [ None ↦ set | Some b ↦ beam n d b (bit_or set (2 ^ b)) ]) (k + suc n) s d
    go None e rest = reach_edge 0 set k (k + suc n) s a d (omega arith) rode (λ u. next_none d a u e)
    go (Some b) e rest =
        let same : (k + 1) + n ≡ k + suc n = omega arith in
        subst (λ m. AreReached 0 (beam n d b (bit_or set (2 ^ b))) m s d) same
        (rest b (Rode-more 0 set (bit_or set (2 ^ b)) k s a b d rode (next_found d a b rode.on_board e) (here b) (λ t other. there b t other) (bit_at-zero b)))

pub beam-reached : (n s : ℕ) (d : Step) → s < 64 → AreReached 0 (beam n d s 0) n s d
beam-reached n s d s_in = subst (λ m. AreReached 0 (beam n d s 0) m s d) (zero-add n) (beam_reached n 0 s s 0 d (Rode-none 0 s d s_in))

pub beams-reached : (most s : ℕ) (ds : List Step) → s < 64 → (t : ℕ) → t < 64 → (bit_at (beams most ds s) t ≡ 1) ↔ OneOf (Rides (λ u. bit_at 0 u ≡ 0) most s t) ds
unfolding beams
beams-reached most s [] s_in t t_in = (λ one. let none = bit_at-zero t in absurd (omega arith), λ none. absurd none)
beams-reached most s (d ∷ ds) s_in t t_in =
    let here = beam-reached most s d s_in t t_in in
    let rest = beams-reached most s ds s_in t t_in in
    let either = bit_of_either _ _ _ (bit_at-lt (beam most d s 0) t) (bit_at-lt (beams most ds s) t) (bit_at_or (beam most d s 0) (beams most ds s) t) in (
      λ one. elim (either.0 one) [ inl h ↦ inl (here.0 h) | inr h ↦ inr (rest.0 h) ],
      λ some. elim some [ inl h ↦ either.1 (inl (here.1 h)) | inr h ↦ either.1 (inr (rest.1 h)) ],
    )
