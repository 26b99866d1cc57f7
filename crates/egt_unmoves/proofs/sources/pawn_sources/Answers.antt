use Rattle.std.proofs.Common.{◌≡◌, ℕ, ◌<◌, max, arith, inl, inr, subst, sym}
use Rattle.egt_unmoves.specs.Prelude.{bit_at-lt, IsFree, Advances, ahead}
use Rattle.std.specs.FinMap as map
use Rattle.egt_unmoves.proofs.Ways.{Advances-back}
use Rattle.egt_unmoves.proofs.sources.pawn_sources.Goals as goal

in_first : (a b m : ℕ) → m ≡ max a b → a ≡ 1 → b < 2 → m ≡ 1
in_first a b m e one small = omega arith

in_second : (a b m : ℕ) → m ≡ max a b → a < 2 → b ≡ 1 → m ≡ 1
in_second a b m e small one = omega arith

pub returns-clause-sources : goal.returns-clause-sources
returns-clause-sources c s s_in free advances = elim (Advances-back (IsFree (map.insert c.args.left.now s c.args.man)) (IsFree c.args.left.now) c.args.man.side s c.args.to s_in c.requires.not_first free advances) [
  | inl near ↦ in_first _ _ _ (c.union.ensures.squares s)
      ((c.advances.ensures.advances s).1 (subst (λ x. Advances (IsFree c.args.left.now) x c.args.to s) (sym c.other-back.ensures) near)) (bit_at-lt c.advances-2.result.bits s)
  | inr far ↦ in_second _ _ _ (c.union.ensures.squares s) (bit_at-lt c.advances.result.bits s)
      ((c.advances-2.ensures.advances s).1 (subst (λ x. Advances (IsFree c.args.left.now) c.other-back.result x s) (sym c.ahead-behind.ensures)
      (subst (λ x. Advances (IsFree c.args.left.now) x (ahead x c.args.to) s) (sym c.other-back.ensures) far)))
]
