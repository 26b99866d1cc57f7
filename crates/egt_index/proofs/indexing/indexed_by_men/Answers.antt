use Rattle.std.proofs.Common.{subst}
use Rattle.egt_index.specs.Prelude.{Best}
use Rattle.egt_index.proofs.Best.{best_at_last, index_found}
use Rattle.egt_index.proofs.ByMen.{no_target, settles_to_itself, found_beside, stand_of_men}
use Rattle.egt_index.proofs.indexing.indexed_by_men.Goals as goal

pub unwrap-index-requires : goal.unwrap-index-requires
unwrap-index-requires c =
    let (p, ok, all, side, none) = c.requires in
    let (class, flipped) = c.of_men-class.result in
    let arrangement = c.arrangement_by-arrangement.result in
    let is_of = c.of_men-class.ensures.class p (found_beside p c.args.one c.args.other c.man_of.result c.man_of-2.result c.man_of.ensures c.man_of-2.ensures (c.men_beside_are_counted.ensures p c.args.one c.args.other ok all.beside)) in
    let has = stand_of_men c.facts.ensures class flipped arrangement.flipped p arrangement.stand c.args.side c.arrangement_by-arrangement.ensures.flipped ok is_of (c.arrangement_by-arrangement.ensures.stood p ok is_of all) side none in
    best_at_last c.facts.ensures class flipped p c.least_arranged.result ok (no_target p none) is_of (c.least_arranged.ensures p has)

pub returns : goal.returns
returns c = λ p ok all side none.
    let (class, flipped) = c.of_men-class.result in
    let arrangement = c.arrangement_by-arrangement.result in
    let is_of = c.of_men-class.ensures.class p (found_beside p c.args.one c.args.other c.man_of.result c.man_of-2.result c.man_of.ensures c.man_of-2.ensures (c.men_beside_are_counted.ensures p c.args.one c.args.other ok all.beside)) in
    let has = stand_of_men c.facts.ensures class flipped arrangement.flipped p arrangement.stand c.args.side c.arrangement_by-arrangement.ensures.flipped ok is_of (c.arrangement_by-arrangement.ensures.stood p ok is_of all) side none in
    ((flipped, is_of), index_found c.facts.ensures class p p c.unwrap-index.result ok (settles_to_itself p none) (subst (Best class p 16) c.unwrap-index.ensures (c.least_arranged.ensures p has)))
