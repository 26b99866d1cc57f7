use Rattle.std.proofs.Common.{ℕ, false, arith, sym, subst, slice_index}
use Rattle.egt_blocks.specs.Prelude.{get_or-replicate, other_side, Side, IsSomeTurnedCode, ShelfMen, IsRaised}
use Rattle.egt_blocks.specs.Prelude.{AreKingCodesAlone, stand_alone, IsBesideKing, with_king, IsRead}
use Rattle.egt_blocks.proofs.BlockRaising.{GoneKing, gone_after, gone_before, left_beside, one_more, raised_alike}
use Rattle.egt_blocks.proofs.BlockRaising.{raised_by_none, raised_max, same_beside}
use Rattle.egt_blocks.proofs.lone_quiet.king_row.Goals as goal

pub loop-to-init : goal.loop-to-init
loop-to-init g c =
    let men = c.args.men.now in
    let side = c.args.side in (
      λ s s_in.
          let codes = AreKingCodesAlone (g.S.LoneScores.number c.args.source.now) men side (GoneKing men side c.beside_king-rest.result) s in
          let worth = g.S.LoneScores.worth c.args.source.now c.args.column in
          subst (IsRaised 0 codes worth) (sym (get_or-replicate 64 s 0 0 s_in))
          (raised_by_none 0 codes worth (λ code h. let gone = h.1 in let has = (c.beside_king-rest.ensures h.0 gone.0.0).1 gone.0 in let none = gone.1 in omega (arith, has, none))),
      λ k k_in has. (c.beside_king-rest.ensures k k_in).0 has,
    )

pub read_lone-requires-clause-man : goal.read_lone-requires-clause-man
read_lone-requires-clause-man g c = grind (arith, same_beside, c.with_king-there.ensures, c.requires.man)

pub loop-to-preserved : goal.loop-to-preserved
loop-to-preserved g c =
    let number = g.S.LoneScores.number c.args.source.now in
    let worth = g.S.LoneScores.worth c.args.source.now c.args.column in
    let men = c.args.men.now in
    let side = c.args.side in
    let to = c.in-Some.to in
    let here : IsBesideKing men side to = c.loop-to.invariant.1 to (omega arith) c.in-Some.ensures.had in (
      λ s s_in.
          let low : ℕ = slice_index c.loop-to.out s in
          let read : ℕ = slice_index c.read_lone.new.out s in
          one_more (λ k code. IsSomeTurnedCode number code false (stand_alone (with_king men side k) s) (other_side side)) (GoneKing men side c.loop-to.rest) (GoneKing men side c.pop_first.new.self) to low (slice_index c.greater.result s) worth (c.loop-to.invariant.0 s s_in)
          (raised_max low (λ code. IsSomeTurnedCode number code false (stand_alone (with_king men side to) s) (other_side side)) worth read (slice_index c.greater.result s)
          (subst (λ (x : Side). IsRead number worth false (stand_alone (with_king men side to) s) x read) c.other.ensures
          (subst (λ (m : ShelfMen). IsRead number worth false (stand_alone m s) c.other.result read) c.with_king-there.ensures (c.read_lone.ensures c.if-not-read_lone.false s s_in)))
          (c.greater.ensures s s_in))
          (gone_before men side c.loop-to.rest c.pop_first.new.self to c.in-Some.ensures.gone c.in-Some.ensures.others) (gone_after men side c.loop-to.rest c.pop_first.new.self to c.in-Some.ensures.gone c.in-Some.ensures.others)
          (here, c.in-Some.ensures.gone),
      left_beside men side c.loop-to.rest c.pop_first.new.self to c.in-Some.ensures.gone c.in-Some.ensures.others c.loop-to.invariant.1,
    )

pub returns : goal.returns
returns g c = λ told s s_in.
    let number = g.S.LoneScores.number c.args.source.now in
    let men = c.args.men.now in
    let side = c.args.side in
    raised_alike 0 (slice_index c.loop-to.out s) (AreKingCodesAlone number men side (GoneKing men side c.loop-to.rest) s) (AreKingCodesAlone number men side (IsBesideKing men side) s) (g.S.LoneScores.worth c.args.source.now c.args.column) (c.loop-to.invariant.0 s s_in)
    (λ code h. (h.0, (h.1, c.in_default.ensures.empty h.0), h.2)) (λ code h. (h.0, h.1.0, h.2))
