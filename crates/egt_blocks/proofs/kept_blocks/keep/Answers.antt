use Rattle.std.proofs.Common.{◌≡◌, ◌∙◌, ◌<◌, [], Option, None, length, slice_index_or, slice_set, arith, subst, sym}
use Rattle.std.proofs.Common.{get_or-set_other}
use Rattle.egt_blocks.specs.Prelude.{get_or_default, get_or-set_same, length-set, IsKept, IsPlaced, key_of, BlockKey}
use Rattle.egt_blocks.proofs.Keeping.{kept_anew}
use Rattle.egt_blocks.proofs.kept_blocks.keep.Goals as goal

pub returns-then-is_of-clause-read : goal.returns-then-is_of-clause-read
returns-then-is_of-clause-read g c = grind (arith, get_or_default, c.index-keys-place.is, c.requires.place, c.is_of.ensures, c.if-is_of.true, c.requires.kept.each)

pub returns-clause-kept : goal.returns-clause-kept
returns-clause-kept g c =
    let number = g.S.ShelfScores.number c.args.source.now in
    let worth = g.S.ShelfScores.worth c.args.source.now in
    let keys = c.args.keys.now in
    let blocks = c.args.blocks.now in
    let place = c.args.place in
    let key = key_of c.args.column c.args.men.now in
    let none = slice_set keys place None in
    let after = slice_set none place key in
    let raised = slice_set blocks place c.read_all.new.out in
    let in_none : place < length none = let long = length-set keys place None in let inside = c.requires.place in omega (arith, long, inside) in
    let at : slice_index_or after place None ≡ key = get_or-set_same none place key None in_none in
    let block : slice_index_or raised place [] ≡ c.read_all.new.out = get_or-set_same blocks place c.read_all.new.out [] (let inside = c.requires.place in let many = c.requires.kept.as_many in omega (arith, inside, many)) in
    kept_anew number worth c.args.men.now c.args.side keys after blocks raised place c.requires.kept (length-set none place key ∙ length-set keys place None) (length-set blocks place c.read_all.new.out)
    (λ i other. get_or-set_other none place i key None other ∙ get_or-set_other keys place i None None other) (λ i other. get_or-set_other blocks place i c.read_all.new.out [] other)
    (subst (λ (k : Option BlockKey). IsKept number worth c.args.men.now c.args.side k (slice_index_or raised place [])) (sym at) (subst (IsKept number worth c.args.men.now c.args.side key) (sym block) (c.read_all.ensures c.if-not-read_all.false)))
    (subst (λ (k : Option BlockKey). IsPlaced (length keys) k place) (sym at) c.requires.placed)
