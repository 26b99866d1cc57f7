use Rattle.std.proofs.Common.{subst, arith}
use Rattle.egt_index.specs.Prelude.{option_to_list, HasBeside, in_any_order, Placement}
use Rattle.egt_index.proofs.Flipped.{colours_told}
use Rattle.egt_index.proofs.stand.arrangement_of.Goals as goal

beside : (c : goal.After-stand_by) → HasBeside c.args.position.now.men c.non_kings-one.result.0 c.non_kings-one.result.1
beside c = subst (λ (men : Placement). HasBeside men c.non_kings-one.result.0 c.non_kings-one.result.1) c.board.ensures (in_any_order _ _ _ c.non_kings-one.ensures)

pub returns-clause-is_of : goal.returns-clause-is_of
returns-clause-is_of c =
    colours_told c.facts.ensures c.args.class c.requires.0 c.args.position.now c.non_kings-first.result.0 (option_to_list c.non_kings-first.result.1) c.non_kings-one.result.0 c.non_kings-one.result.1 c.is_among-flipped.result
    (omega (arith, c.number-number.ensures.below, c.number-number.ensures.value)) c.side-side.ensures.admissible c.requires.1 c.non_kings-first.ensures.colours c.non_kings-first.ensures.men (beside c) c.is_among-flipped.ensures

pub returns-clause-stood : goal.returns-clause-stood
returns-clause-stood c =
    c.stand_by.ensures c.args.position.now c.side-side.ensures.admissible (returns-clause-is_of c) (record {
      white_there = record { stands = c.king-white.ensures.stands; only = c.king-white.ensures.only };
      black_there = record { stands = c.king-black.ensures.stands; only = c.king-black.ensures.only };
      beside = beside c;
    })
