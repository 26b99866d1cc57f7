use Rattle.std.proofs.Common.{◌≡◌, ℕ, suc, ◌+◌, take, Some, sym, ap, ◌∙◌, subst, arith}
use Rattle.egt_c.specs.Prelude.{men_of}
use Rattle.egt_c.proofs.Named.{one_named, none_named}
use Rattle.egt_c.proofs.men.men_of.Goals as goal

pub returns-in-None : goal.returns-in-None
returns-in-None c = sym (none_named c.args.men.now c.loop-man.man-index _ c.loop-man-test.true (sym c.man_of.ensures ∙ c.in-None.is))

pub loop-man-preserved : goal.loop-man-preserved
loop-man-preserved c = let next : suc c.loop-man.man-index ≡ c.loop-man.man-index + 1 = omega arith in record {
  len = c.push.ensures.len ∙ ap (λ (n : ℕ). n + 1) c.loop-man.invariant.len;
  named = subst (λ (n : ℕ). men_of (take n c.args.men.now) ≡ Some c.push.new.self.items) next
      (one_named c.args.men.now c.loop-man.man-index _ c.in-Some.entry c.loop-man.told.items c.loop-man-test.true (sym c.man_of.ensures ∙ c.in-Some.is) c.loop-man.invariant.named ∙ ap Some (sym c.push.ensures.items));
}
