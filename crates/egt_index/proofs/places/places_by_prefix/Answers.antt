use Rattle.std.proofs.Common.{◌≢◌, Option, IfSome, arith, subst, ◌∙◌}
use Rattle.egt_index.specs.Prelude.{king_of, Man, White, material_of, IsPrefixOf, men_beside, Prefix}
use Rattle.egt_index.proofs.Prefixes.{last_beside}
use Rattle.egt_index.proofs.Numbered.{none_indexed}
use Rattle.egt_index.proofs.places.places_by_prefix.Goals as goal

pub places_behind-requires-clause-before : goal.places_behind-requires-clause-before
places_behind-requires-clause-before c = record {
  last = last_beside _ _ (men_beside (material_of c.args.class)) c.non_kings-last.ensures.men c.non_kings-last.ensures.from_first ∙ c.in_ok-man.was;
  other = subst (λ (o : Option Man). IfSome o (λ man. man ≢ king_of White)) c.in_ok-man.was c.non_kings-last.ensures.second;
  high = c.args.number;
  is = subst (λ (o : Option Prefix). IsPrefixOf c.args.class c.args.number o) c.in-Some.is c.requires.prefix;
}

pub returns-in-Some : goal.returns-in-Some
returns-in-Some c = grind (arith, c.places_behind.ensures, c.in-Some.is, c.requires.prefix)

-- without a prefix all codes are void
pub returns-in-None : goal.returns-in-None
returns-in-None c = λ shelf at.
    none_indexed c.args.targeted c.args.class shelf c.args.number c.in_ok-man.man (omega (arith, c.number-number.ensures.below, c.number-number.ensures.value))
    (last_beside _ _ (men_beside (material_of c.args.class)) c.non_kings-last.ensures.men c.non_kings-last.ensures.from_first ∙ c.in_ok-man.was)
    (subst (λ (o : Option Man). IfSome o (λ man. man ≢ king_of White)) c.in_ok-man.was c.non_kings-last.ensures.second) at
    (subst (λ (o : Option Prefix). IsPrefixOf c.args.class c.args.number o) c.in-None.is c.requires.prefix) c.default.result c.default.ensures.0 c.default.ensures.1
