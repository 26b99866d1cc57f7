use Rattle.std.proofs.Common.{arith, ◌≡◌, Option, Some, None, IfNone, IfSome, subst, refl}
use Rattle.egt_index.specs.Prelude.{false≢true, IsSome, material_of, SpellsMen, SpellsNoMen, IsFilled, list_of, Stand}
use Rattle.egt_index.proofs.AtIndex.{taken}
use Rattle.egt_index.proofs.Decoded.{has_pawns_list, no_men}
use Rattle.egt_index.proofs.NumbersOfCodes.{of_targets}
use Rattle.egt_index.proofs.spelling.spelled_stand.Goals.{After-unwrap-stand}
use Rattle.egt_index.proofs.spelling.spelled_stand.Goals as goal

pub unwrap-stand-requires : goal.unwrap-stand-requires
unwrap-stand-requires c = of c.stand_on.result c.stand_on.ensures.none
  where
    of : (o : Option Stand) → IfNone o (SpellsNoMen (material_of c.args.class) c.ends-number.result.0) → IsSome o
    of (Some stand) none = refl
    of None none =
        absurd (no_men (material_of c.args.class) c.args.code c.ends-number.result.0 c.ends-number.result.1 c.ends-number.result.2 c.requires.0 c.ends-number.ensures none c.requires.1)

men : (c : After-unwrap-stand) → SpellsMen (material_of c.args.class) c.ends-number.result.0 (list_of c.unwrap-stand.result)
men c = taken (material_of c.args.class) c.ends-number.result.0 c.stand_on.result c.unwrap-stand.result c.stand_on.ensures.some c.unwrap-stand.ensures

filled : (o : Option Stand) (stand : Stand) → IfSome o IsFilled → o ≡ Some stand → IsFilled stand
filled o stand some is = subst (λ (x : Option Stand). IfSome x IsFilled) is some

pub returns-clause-tells : goal.returns-clause-tells
returns-clause-tells c = record {
  number = c.ends-number.result.0;
  men = men c;
  filled = filled c.stand_on.result c.unwrap-stand.result c.stand_on.ensures.filled c.unwrap-stand.ensures;
  ends = c.ends-number.ensures;
}

pub returns-clause-pawns : goal.returns-clause-pawns
returns-clause-pawns c = grind (arith, of_targets, false≢true, has_pawns_list, list_of, men, c.ends-number.ensures.never)
