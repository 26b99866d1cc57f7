-- A line has one report.
use Rattle.std.proofs.Common.{◌≡◌, ℕ, zero, suc, ◌<◌, ◌≤◌, ◌⊎◌, is_some, IsSome, List, [], ◌∷◌, ◌++◌}
use Rattle.std.proofs.Common.{length, Option, Some, None, refl, sym, ap, ◌∙◌, subst, inl, inr, arith}
use Rattle.egt_probe.specs.Prelude.{cases_lt, Kind, mate_by, place_of, plies_of, Unloaded, Decisive, Answered, IsVerdict}
use Rattle.egt_probe.specs.Prelude.{Q, next_value, IsOfClass, IsMissing, verdict_of, dead_text, drawn_text, refused_text}
use Rattle.egt_probe.specs.Prelude.{R, B, N, P, K, Side, Fen, Draw, Move, Dead, Long}
use Rattle.egt_probe.specs.Prelude.{Setup, Value, Leads, Reports, Facts, IsHold, IsLine, Loaded, Drawn, Report, Refused}
use Rattle.egt_probe.specs.Prelude.{IsAdmissible, promotion_place, IsFirstTo, PositionReport, decided_text, missing_text}
use Rattle.egt_probe.specs.declared.outcome.Outcome.TheVariants as outcomes

-- the next value is one ply nearer
next_plies : (v w : Value) → next_value v ≡ Some w → plies_of v ≡ suc (plies_of w)
next_plies v w e = grind (arith, plies_of)

-- a line has a move a ply
pub as_long : (p : Setup) (v : Value) (ms : List Move) → IsLine p v ms → length ms ≡ plies_of v
as_long p v [] line = sym (ap plies_of line.0)
as_long p v (m ∷ ms) line = ap (λ (n : ℕ). suc n) (as_long line.1.1 line.1.0 ms line.1.4) ∙ sym (next_plies v line.1.0 line.1.2)

promotion_at : ℕ → Option Kind
promotion_at zero = None
promotion_at (suc zero) = Some Q
promotion_at (suc (suc zero)) = Some R
promotion_at (suc (suc (suc zero))) = Some B
promotion_at (suc (suc (suc (suc zero)))) = Some N
promotion_at (suc (suc (suc (suc (suc zero))))) = Some P
promotion_at (suc (suc (suc (suc (suc (suc n)))))) = Some K

promotion_back : (o : Option Kind) → promotion_at (promotion_place o) ≡ o
unfolding promotion_at
promotion_back o = grind arith

promotion_below : (o : Option Kind) → promotion_place o < 8
promotion_below o = grind arith

-- moves on the board with one place are one move
same_place : (m n : Move) → m.to < 64 → n.to < 64 → place_of m ≡ place_of n → m ≡ n
same_place m n m_in n_in e = grind (arith, promotion_below, promotion_place, promotion_back)

-- the winner and the plies of a value
pub won_by : (s w x : Side) (n k : ℕ) → mate_by s w n ≡ mate_by s x k → (w ≡ x) × (n ≡ k)
won_by s w x n k e = grind arith

pub not_drawn : (s w : Side) (n : ℕ) → mate_by s w n ≡ Draw → ⊥
not_drawn s w n e = grind arith

module _ (facts : Facts) where
  one_first : (p q r : Setup) (v : Value) (m n : Move) → IsAdmissible p → IsFirstTo v p m q → IsFirstTo v p n r → m ≡ n
  one_first p q r v m n ok here there = same_place m n (facts.within p q m ok here.leads).1 (facts.within p r n ok there.leads).1 (of_order (cases_lt (place_of m) (place_of n)) (cases_lt (place_of n) (place_of m)))
    where
      of_order : (place_of m < place_of n) ⊎ (place_of n ≤ place_of m) → (place_of n < place_of m) ⊎ (place_of m ≤ place_of n) → place_of m ≡ place_of n
      of_order (inl lt) behind = absurd (there.first m q lt here.leads here.value)
      of_order (inr ge) (inl lt) = absurd (here.first n r lt there.leads there.value)
      of_order (inr ge) (inr le) = omega (arith, ge, le)

  pub one_line : (p : Setup) (v : Value) (ms ns : List Move) → IsAdmissible p → IsLine p v ms → IsLine p v ns → ms ≡ ns
  one_line p v [] [] ok here there = refl
  one_line p v [] (n ∷ ns) ok here there = let bad : None ≡ Some there.1.0 = sym (ap next_value here.0) ∙ there.1.2 in absurd (cc)
  one_line p v (m ∷ ms) [] ok here there = let bad : None ≡ Some here.1.0 = sym (ap next_value there.0) ∙ here.1.2 in absurd (cc)
  one_line p v (m ∷ ms) (n ∷ ns) ok here there =
      let w = here.1.0 in
      let q = here.1.1 in
      let r = there.1.1 in
      let next : Some there.1.0 ≡ Some w = sym there.1.2 ∙ here.1.2 in
      let same : there.1.0 ≡ w = cc in
      let first = subst (λ (u : Value). IsFirstTo u p n r) same there.1.3 in
      let move : m ≡ n = one_first p q r w m n ok here.1.3 first in
      let leads = subst (λ (k : Move). Leads p k r) (sym move) first.leads in
      let to : r ≡ q = facts.one_next p r q m leads here.1.3.leads in
      let rest = subst (λ (s : Setup). IsLine s w ns) to (subst (λ (u : Value). IsLine r u ns) same there.1.4) in
      let tails : ms ≡ ns = one_line q w ms ns (facts.step_admissible p q m ok here.1.3.leads) here.1.4 rest in
      ap (λ (k : Move). k ∷ ms) move ∙ ap (λ (ks : List Move). n ∷ ks) tails

  pub one_hold : (p : Setup) (h k : Option Move) → IsAdmissible p → IsHold p h → IsHold p k → h ≡ k
  one_hold p None None ok here there = refl
  one_hold p None (Some n) ok here there = absurd (here.1.stuck n (there.1.0, there.1.1.leads))
  one_hold p (Some m) None ok here there = absurd (there.1.stuck m (here.1.0, here.1.1.leads))
  one_hold p (Some m) (Some n) ok here there = ap (λ (k : Move). Some k) (one_first p here.1.0 there.1.0 Draw m n ok here.1.1 there.1.1)

  pub same_class : (p : Setup) (c d : ℕ) → IsOfClass c p → IsOfClass d p → c ≡ d
  same_class p c d here there = facts.one_class p c d here.flipped there.flipped here.below there.below here.of there.of

  pub not_both : (loaded : Loaded) (p : Setup) (c d : ℕ) → IsMissing loaded p c → IsOfClass d p → IsSome (loaded d) → ⊥
  not_both loaded p c d missing of there = grind (arith, same_class, is_some)

  -- no dead position with a legal move is told to be drawn alone
  pub dead_or_drawn : (loaded : Loaded) (p : Setup) (c d : ℕ) → IsVerdict loaded p (verdict_of c outcomes.Dead) → IsVerdict loaded p (verdict_of d outcomes.Draw) → ⊥
  dead_or_drawn loaded p c d dead drawn =
      let column = ap loaded (same_class p d c drawn.class dead.class) ∙ dead.dead.0 in
      (drawn.dead column dead.dead.1).stuck dead.dead.2.move dead.dead.2.legal

  one_position_report : (loaded : Loaded) (p : Setup) (one other : List ℕ) → IsAdmissible p → PositionReport loaded p one → PositionReport loaded p other → one ≡ other
  one_position_report loaded p one other ok (Unloaded c miss e) (Unloaded d miss' e') = e ∙ ap missing_text (same_class p c d miss.of miss'.of) ∙ sym e'
  one_position_report loaded p one other ok (Unloaded c miss e) (Decisive d w n z ms there v line e') = absurd (not_both loaded p c d miss v.class there)
  one_position_report loaded p one other ok (Unloaded c miss e) (Dead d held v hold e') = absurd (not_both loaded p c d miss v.class (ap is_some v.dead.0))
  one_position_report loaded p one other ok (Unloaded c miss e) (Drawn d held there v hold e') = absurd (not_both loaded p c d miss v.class there)
  one_position_report loaded p one other ok (Decisive c w n z ms there v line e) (Unloaded d miss e') = absurd (not_both loaded p d c miss v.class there)
  one_position_report loaded p one other ok (Decisive c w n z ms there v line e) (Decisive d x k y ns there' v' line' e') =
      let mates = won_by p.side w x n k (facts.one_value p (mate_by p.side w n) (mate_by p.side x k) v.mate v'.mate) in
      let zeroes = won_by p.side w x z y (facts.one_zeroing p (mate_by p.side w z) (mate_by p.side x y) v.zeroing v'.zeroing) in
      let class = same_class p c d v.class v'.class in
      let back = subst (λ (j : ℕ). IsLine p (mate_by p.side w j) ns) (sym mates.1) (subst (λ (s : Side). IsLine p (mate_by p.side s k) ns) (sym mates.0) line') in
      let moves : ms ≡ ns = one_line p (mate_by p.side w n) ms ns ok line back in
      e ∙ ap (λ (a : ℕ). decided_text a w n z ms) class ∙ ap (λ (s : Side). decided_text d s n z ms) mates.0 ∙ ap (λ (j : ℕ). decided_text d x j z ms) mates.1 ∙ ap (λ (j : ℕ). decided_text d x k j ms) zeroes.1
      ∙ ap (decided_text d x k y) moves ∙ sym e'
  one_position_report loaded p one other ok (Decisive c w n z ms there v line e) (Dead d held v' hold e') =
      absurd (not_drawn p.side w n (facts.one_value p (mate_by p.side w n) Draw v.mate v'.mate))
  one_position_report loaded p one other ok (Decisive c w n z ms there v line e) (Drawn d held there' v' hold e') =
      absurd (not_drawn p.side w n (facts.one_value p (mate_by p.side w n) Draw v.mate v'.mate))
  one_position_report loaded p one other ok (Dead c held v hold e) (Unloaded d miss e') = absurd (not_both loaded p d c miss v.class (ap is_some v.dead.0))
  one_position_report loaded p one other ok (Dead c held v hold e) (Decisive d x k y ns there' v' line' e') =
      absurd (not_drawn p.side x k (facts.one_value p (mate_by p.side x k) Draw v'.mate v.mate))
  one_position_report loaded p one other ok (Dead c held v hold e) (Dead d held' v' hold' e') =
      let holds = one_hold p (Some held) (Some held') ok hold hold' in
      let moves : held ≡ held' = cc in
      e ∙ ap (λ (a : ℕ). dead_text a held) (same_class p c d v.class v'.class) ∙ ap (dead_text d) moves ∙ sym e'
  one_position_report loaded p one other ok (Dead c held v hold e) (Drawn d held' there' v' hold' e') = absurd (dead_or_drawn loaded p c d v v')
  one_position_report loaded p one other ok (Drawn c held there v hold e) (Unloaded d miss e') = absurd (not_both loaded p d c miss v.class there)
  one_position_report loaded p one other ok (Drawn c held there v hold e) (Decisive d x k y ns there' v' line' e') =
      absurd (not_drawn p.side x k (facts.one_value p (mate_by p.side x k) Draw v'.mate v.mate))
  one_position_report loaded p one other ok (Drawn c held there v hold e) (Dead d held' v' hold' e') = absurd (dead_or_drawn loaded p d c v' v)
  one_position_report loaded p one other ok (Drawn c held there v hold e) (Drawn d held' there' v' hold' e') =
      e ∙ ap (λ (a : ℕ). drawn_text a held) (same_class p c d v.class v'.class) ∙ ap (drawn_text d) (one_hold p held held' ok hold hold') ∙ sym e'

  pub one_report : (loaded : Loaded) (line one other : List ℕ) → Report loaded line one → Report loaded line other → one ≡ other
  one_report loaded line one other (Long long e) (Long long' e') = e ∙ sym e'
  one_report loaded line one other (Long long e) (Refused fault short first e') = absurd (omega (arith, long, short))
  one_report loaded line one other (Long long e) (Answered fen short spells told) = absurd (omega (arith, long, short))
  one_report loaded line one other (Refused fault short first e) (Long long e') = absurd (omega (arith, long, short))
  one_report loaded line one other (Refused fault short first e) (Refused fault' short' first' e') = e ∙ ap refused_text (facts.one_fault line fault fault' first first') ∙ sym e'
  one_report loaded line one other (Refused fault short first e) (Answered fen short' spells told) = absurd (facts.no_fault line fen fault spells first)
  one_report loaded line one other (Answered fen short spells told) (Long long e') = absurd (omega (arith, long, short))
  one_report loaded line one other (Answered fen short spells told) (Refused fault short' first e') = absurd (facts.no_fault line fen fault spells first)
  one_report loaded line one other (Answered fen short spells told) (Answered fen' short' spells' told') =
      let same : fen' ≡ fen = facts.one_meaning line fen' fen spells' spells in
      one_position_report loaded fen.position one other spells.admissible told (subst (λ (f : Fen). PositionReport loaded f.position other) same told')

module _ (facts : Facts) (loaded others : Loaded) (same : (c : ℕ) → loaded c ≡ others c) where
  -- the reports of some lines are the same wherever the same classes are loaded, with the same columns
  pub one_answer : (lines : List (List ℕ)) (one other : List ℕ) → Reports loaded lines one → Reports others lines other → one ≡ other
  one_answer [] one other here there = here ∙ sym there
  one_answer (line ∷ lines) one other here there =
      let alike : loaded ≡ others = λ i c. same c i in
      let first : here.0 ≡ there.0 = one_report facts others line here.0 there.0 (subst (λ (l : Loaded). Report l line here.0) alike here.2) there.2 in
      let rest : here.1 ≡ there.1 = one_answer lines here.1 there.1 here.3 there.3 in
      here.4 ∙ ap (λ (t : List ℕ). t ++ 10 ∷ here.1) first ∙ ap (λ (t : List ℕ). there.0 ++ 10 ∷ t) rest ∙ sym there.4
