-- Values that fit beside the successors of one position fit beside those of another that plays like it.
use Rattle.std.specs.Prelude.{ℕ, zero, suc, ◌≤◌, ◌↔◌}
use Rattle.egt_entries.specs.Prelude.{⊎_map, Setup, Value, Win, Loss, Draw, SomeMove, IsStalemate, chess, Metric, Mate}
use Rattle.egt_entries.specs.Prelude.{Zeroing, Shown, Counts, FitsBeside}

-- whatever is shown of the one position is shown of the other
abbrev pub ShownAlike : Shown → Shown → Setup → Setup → Type 0
ShownAlike shows shows' q q' = (metric : Metric) (v : Value) → shows metric q v ↔ shows' metric q' v

-- each step from p has its like from p', to where the same is shown
abbrev pub HasLikeSteps : Shown → Shown → Setup → Setup → Type 0
HasLikeSteps shows shows' p p' = (q : Setup) (m : chess.Move p q) →
    (q' : Setup) × (m' : chess.Move p' q') × (chess.Zeroes p q m ↔ chess.Zeroes p' q' m') × ShownAlike shows shows' q q'

pub record PlaysLike (shows shows' : Shown) (p p' : Setup) : Type 0 where
  pub checkmate : chess.Checkmate p ↔ chess.Checkmate p'
  pub there : HasLikeSteps shows shows' p p'
  pub back : HasLikeSteps shows' shows p' p

module _ (shows shows' : Shown) where
  counts_like : (metric : Metric) (kind : ℕ → Value) (p p' q q' : Setup) (m : chess.Move p q) (m' : chess.Move p' q') (k : ℕ) →
      (chess.Zeroes p q m ↔ chess.Zeroes p' q' m') → ShownAlike shows shows' q q' → Counts shows metric kind p q m k → Counts shows' metric kind p' q' m' k
  counts_like Mate kind p p' q q' m m' k zeroes alike h = (alike Mate (kind k)).0 h
  counts_like Zeroing kind p p' q q' m m' k zeroes alike h =
      ((h.0.0, (alike Mate (kind h.0.0)).0 h.0.1), ⊎_map (λ z. (zeroes.0 z.0, z.1)) (λ n. (λ z'. n.0 (zeroes.1 z'), (alike Zeroing (kind k)).0 n.1)) h.1)

module _ (shows shows' : Shown) (p p' : Setup) (like : PlaysLike shows shows' p p') where
  there : (metric : Metric) (kind : ℕ → Value) (k : ℕ) → (q : Setup) × (m : chess.Move p q) × Counts shows metric kind p q m k →
      (q' : Setup) × (m' : chess.Move p' q') × Counts shows' metric kind p' q' m' k
  there metric kind k h =
      let l = like.there h.0 h.1 in
      (l.0, l.1, counts_like shows shows' metric kind p p' h.0 l.0 h.1 l.1 k l.2 l.3 h.2)

  back : (metric : Metric) (kind : ℕ → Value) (k : ℕ) (q' : Setup) (m' : chess.Move p' q') → Counts shows' metric kind p' q' m' k →
      (q : Setup) × (m : chess.Move p q) × Counts shows metric kind p q m k
  back metric kind k q' m' h =
      let l = like.back q' m' in
      (l.0, l.1, counts_like shows' shows metric kind p' p q' l.0 m' l.1 k l.2 l.3 h)

  greatest : (metric : Metric) (n : ℕ) (q' : Setup) (m' : chess.Move p' q') → FitsBeside shows metric p (Loss (suc n)) → (k : ℕ) × Counts shows' metric Win p' q' m' k × (k ≤ n)
  greatest metric n q' m' h =
      let l = like.back q' m' in
      let own = h.1 l.0 l.1 in
      (own.0, counts_like shows shows' metric Win p p' l.0 q' l.1 m' own.0 (l.2.1, l.2.0) (λ c v. ((l.3 c v).1, (l.3 c v).0)) own.1, own.2)

  pub carry : (metric : Metric) (v : Value) → FitsBeside shows metric p v → FitsBeside shows' metric p' v
  carry metric (Win zero) h = h
  carry metric (Win (suc n)) h = (there metric Loss n h.0, λ q' m' k c. let b = back metric Loss k q' m' c in h.1 b.0 b.1 k b.2)
  carry metric (Loss zero) h = like.checkmate.0 h
  carry metric (Loss (suc n)) h = (there metric Win n h.0, λ q' m'. greatest metric n q' m' h)
  carry Mate Draw h = (
    λ q' m' k lost. let l = like.back q' m' in h.0 l.0 l.1 k ((l.3 Mate (Loss k)).0 lost),
    ⊎_map
        (λ (s : IsStalemate chess p). (λ q' m'. let l = like.back q' m' in s.0 l.0 l.1, λ mate. s.1 (like.checkmate.1 mate)))
        (λ (s : SomeMove chess p (λ q. shows Mate q Draw)). let l = like.there s.0 s.1 in (l.0, l.1, (l.3 Mate Draw).0 s.2)) h.1,
  )
  carry Zeroing Draw h = h
