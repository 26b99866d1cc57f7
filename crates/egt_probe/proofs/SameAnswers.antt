-- One answer to a position wherever the same classes are loaded, with the same columns.
use Rattle.std.proofs.Common.{◌≡◌, ◌≢◌, ℕ, List, [], ◌∷◌, Option, Some, None, Result, Ok, Err, refl, subst}
use Rattle.egt_probe.specs.Prelude.{Setup, IsAdmissible, Value, Draw, HasValue, chess, mate_by, Move, HoldFault}
use Rattle.egt_probe.specs.Prelude.{LineFault, Missing, Outcome, Verdict, TellsHold, TellsLine, TellsVerdict, Facts}
use Rattle.egt_probe.specs.Prelude.{IsDecisive, IsHold, IsLine, Loaded, IsLoaded, IsMissing, verdict_of, IsVerdict}
use Rattle.egt_probe.specs.declared.fault.HoldFault.TheVariants as holds
use Rattle.egt_probe.specs.declared.fault.LineFault.TheVariants as lines
use Rattle.egt_probe.specs.declared.outcome.Outcome.TheVariants as outcomes
use Rattle.egt_probe.proofs.OneReport.{won_by, not_drawn, one_line, one_hold, same_class, not_both, dead_or_drawn}

-- no line begins at a draw
no_line : (p : Setup) (ms : List Move) → IsLine p Draw ms → ⊥
no_line p [] line = absurd (cc)
no_line p (m ∷ ms) line = let bad : ◌≡◌ {A = Option Value} None (Some line.1.0) = line.1.2 in absurd (cc)

held_drawn : (p : Setup) (held : Option Move) → IsHold p held → HasValue chess p Draw
held_drawn p None hold = hold.0
held_drawn p (Some m) hold = hold.0

module _ (facts : Facts) (loaded : Loaded) (p : Setup) (ok : IsAdmissible p) where
  one_outcome : (c d : ℕ) (o u : Outcome) → IsVerdict loaded p (verdict_of c o) → IsVerdict loaded p (verdict_of d u) → o ≡ u
  one_outcome c d outcomes.Draw outcomes.Draw v w = refl
  one_outcome c d outcomes.Draw outcomes.Dead v w = absurd (dead_or_drawn facts loaded p d c w v)
  one_outcome c d outcomes.Draw (outcomes.Decided x k y) v w = absurd (not_drawn p.side x k (facts.one_value p (mate_by p.side x k) Draw w.mate v.mate))
  one_outcome c d outcomes.Dead outcomes.Draw v w = absurd (dead_or_drawn facts loaded p c d v w)
  one_outcome c d outcomes.Dead outcomes.Dead v w = refl
  one_outcome c d outcomes.Dead (outcomes.Decided x k y) v w = absurd (not_drawn p.side x k (facts.one_value p (mate_by p.side x k) Draw w.mate v.mate))
  one_outcome c d (outcomes.Decided x k y) outcomes.Draw v w = absurd (not_drawn p.side x k (facts.one_value p (mate_by p.side x k) Draw v.mate w.mate))
  one_outcome c d (outcomes.Decided x k y) outcomes.Dead v w = absurd (not_drawn p.side x k (facts.one_value p (mate_by p.side x k) Draw v.mate w.mate))
  one_outcome c d (outcomes.Decided s n z) (outcomes.Decided x k y) v w =
      let mates = won_by p.side s x n k (facts.one_value p (mate_by p.side s n) (mate_by p.side x k) v.mate w.mate) in
      let zeroes = won_by p.side s x z y (facts.one_zeroing p (mate_by p.side s z) (mate_by p.side x y) v.zeroing w.zeroing) in
      λ i. outcomes.Decided (mates.0 i) (mates.1 i) (zeroes.1 i)

  missing_or_there : (c : ℕ) → IsMissing loaded p c → IsLoaded loaded p → ⊥
  missing_or_there c missing there = not_both facts loaded p c there.class missing there.of there.there

  drawn_or_decisive : HasValue chess p Draw → IsDecisive p → ⊥
  drawn_or_decisive drawn decisive =
      not_drawn p.side decisive.winner decisive.plies (facts.one_value p (mate_by p.side decisive.winner decisive.plies) Draw decisive.value drawn)

  one_verdict : (one other : Result Verdict Missing) → TellsVerdict loaded p one → TellsVerdict loaded p other → one ≡ other
  one_verdict (Ok v) (Ok w) here there =
      let class = same_class facts p v.class w.class here.0.class there.0.class in
      let value = one_outcome v.class w.class v.value w.value here.0 there.0 in
      λ i. Ok (record { class = class i; value = value i })
  one_verdict (Ok v) (Err missing) here there = absurd (not_both facts loaded p missing.class v.class there here.0.class here.1)
  one_verdict (Err missing) (Ok w) here there = absurd (not_both facts loaded p missing.class w.class here there.0.class there.1)
  one_verdict (Err missing) (Err absent) here there =
      let class = same_class facts p missing.class absent.class here.of there.of in λ i. Err (record { class = class i })

  drawn_line : (ms : List Move) → TellsLine loaded p (Ok ms) → HasValue chess p Draw → ⊥
  drawn_line ms here drawn = no_line p ms (subst (λ (v : Value). IsLine p v ms) (facts.one_value p here.0.value Draw here.0.has drawn) here.0.line)

  one_play : (one other : Result (List Move) LineFault) → TellsLine loaded p one → TellsLine loaded p other → one ≢ Err lines.NoMemory → other ≢ Err lines.NoMemory → one ≡ other
  one_play (Ok ms) (Ok ns) here there room space =
      let value = facts.one_value p there.0.value here.0.value there.0.has here.0.has in
      let moves : ms ≡ ns = one_line facts p here.0.value ms ns ok here.0.line (subst (λ (v : Value). IsLine p v ns) value there.0.line) in
      λ i. Ok (moves i)
  one_play one (Err lines.NoMemory) here there room space = absurd (space refl)
  one_play (Err lines.NoMemory) other here there room space = absurd (room refl)
  one_play (Ok ms) (Err (lines.Missing c)) here there room space = absurd (missing_or_there c there here.1)
  one_play (Ok ms) (Err lines.Drawn) here there room space = absurd (drawn_line ms here there.1)
  one_play (Err (lines.Missing c)) (Ok ns) here there room space = absurd (missing_or_there c here there.1)
  one_play (Err (lines.Missing c)) (Err (lines.Missing d)) here there room space = let class = same_class facts p c d here.of there.of in λ i. Err (lines.Missing (class i))
  one_play (Err (lines.Missing c)) (Err lines.Drawn) here there room space = absurd (missing_or_there c here there.0)
  one_play (Err lines.Drawn) (Ok ns) here there room space = absurd (drawn_line ns there here.1)
  one_play (Err lines.Drawn) (Err (lines.Missing d)) here there room space = absurd (missing_or_there d there here.0)
  one_play (Err lines.Drawn) (Err lines.Drawn) here there room space = refl

  one_held : (one other : Result (Option Move) HoldFault) → TellsHold loaded p one → TellsHold loaded p other → one ≡ other
  one_held (Ok held) (Ok kept) here there = let move = one_hold facts p held kept ok here.0 there.0 in λ i. Ok (move i)
  one_held (Ok held) (Err (holds.Missing c)) here there = absurd (missing_or_there c there here.1)
  one_held (Ok held) (Err holds.Decisive) here there = absurd (drawn_or_decisive (held_drawn p held here.0) there.1)
  one_held (Err (holds.Missing c)) (Ok kept) here there = absurd (missing_or_there c here there.1)
  one_held (Err (holds.Missing c)) (Err (holds.Missing d)) here there = let class = same_class facts p c d here.of there.of in λ i. Err (holds.Missing (class i))
  one_held (Err (holds.Missing c)) (Err holds.Decisive) here there = absurd (missing_or_there c here there.0)
  one_held (Err holds.Decisive) (Ok kept) here there = absurd (drawn_or_decisive (held_drawn p kept there.0) here.1)
  one_held (Err holds.Decisive) (Err (holds.Missing d)) here there = absurd (missing_or_there d there here.0)
  one_held (Err holds.Decisive) (Err holds.Decisive) here there = refl

module _ (facts : Facts) (loaded others : Loaded) (p : Setup) (ok : IsAdmissible p) (same : (c : ℕ) → loaded c ≡ others c) where
  alike : loaded ≡ others
  alike i c = same c i

  pub same_verdict : (one other : Result Verdict Missing) → TellsVerdict loaded p one → TellsVerdict others p other → one ≡ other
  same_verdict one other here there = one_verdict facts others p ok one other (subst (λ (l : Loaded). TellsVerdict l p one) alike here) there

  pub same_line : (one other : Result (List Move) LineFault) → TellsLine loaded p one → TellsLine others p other → one ≢ Err lines.NoMemory → other ≢ Err lines.NoMemory → one ≡ other
  same_line one other here there room space = one_play facts others p ok one other (subst (λ (l : Loaded). TellsLine l p one) alike here) there room space

  pub same_hold : (one other : Result (Option Move) HoldFault) → TellsHold loaded p one → TellsHold others p other → one ≡ other
  same_hold one other here there = one_held facts others p ok one other (subst (λ (l : Loaded). TellsHold l p one) alike here) there
