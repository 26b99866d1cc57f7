use Rattle.std.proofs.Common.{◌≡◌, ℕ, List, Option, false, arith, sym, subst}
use Rattle.egt_blocks.specs.Prelude.{other_side, Side, Column, ShelfMen, IsSomeTurnedCode, at}
use Rattle.egt_blocks.specs.Prelude.{IsRaised, IsBesideKing, stand_on, with_king, AreKingCodes, AreKept, BlockKey}
use Rattle.egt_blocks.proofs.BlockRaising.{GoneKing, gone_after, gone_before, kept_beside, left_beside, one_more, raised_alike, raised_by_none}
use Rattle.egt_blocks.proofs.king_blocks.king_block.Goals as goal

-- what is kept after a step
kept_after : (c : ℕ) (worth : Column → ℕ → ℕ) (men : ShelfMen) (side : Side) (to : ℕ) (other : Side) (stepped : ShelfMen) (keys : List (Option BlockKey)) (blocks : List (List (List ℕ))) → other ≡ other_side side → stepped ≡ with_king men side to
    → AreKept c worth stepped other keys blocks → AreKept c worth men (other_side side) keys blocks
kept_after c worth men side to other stepped keys blocks is_other is_stepped kept =
    (kept_beside c worth men side to (other_side side) keys blocks).1 (subst (λ (s : Side). AreKept c worth (with_king men side to) s keys blocks) is_other (subst (λ (m : ShelfMen). AreKept c worth m other keys blocks) is_stepped kept))

pub loop-to-init : goal.loop-to-init
loop-to-init g c =
    let number = g.S.ShelfScores.number c.args.source.now in
    let worth = g.S.ShelfScores.worth c.args.source.now c.args.column in
    let men = c.args.men.now in
    let side = c.args.side in (
      λ a b a_in b_in.
          let codes = AreKingCodes number men side (GoneKing men side c.beside_king-rest.result) a b in
          subst (IsRaised 0 codes worth) (sym (c.nothing.ensures a b a_in b_in))
          (raised_by_none 0 codes worth (λ code h. let gone = h.1 in let has = (c.beside_king-rest.ensures h.0 gone.0.0).1 gone.0 in let none = gone.1 in omega (arith, has, none))),
      λ k k_in has. (c.beside_king-rest.ensures k k_in).0 has,
      c.requires.kept,
    )

pub raise_kept-requires-clause-kept : goal.raise_kept-requires-clause-kept
raise_kept-requires-clause-kept g c =
    let number = g.S.ShelfScores.number c.args.source.now in
    let worth = g.S.ShelfScores.worth c.args.source.now c.args.column in
    subst (λ (m : ShelfMen). AreKept number (g.S.ShelfScores.worth c.args.source.now) m c.other.result c.loop-to.keys c.loop-to.blocks) (sym c.with_king-stepped.ensures)
    (subst (λ (s : Side). AreKept number (g.S.ShelfScores.worth c.args.source.now) (with_king c.args.men.now c.args.side c.in-Some.to) s c.loop-to.keys c.loop-to.blocks) (sym c.other.ensures)
    ((kept_beside number (g.S.ShelfScores.worth c.args.source.now) c.args.men.now c.args.side c.in-Some.to (other_side c.args.side) c.loop-to.keys c.loop-to.blocks).0 c.loop-to.invariant.2))

pub loop-to-preserved : goal.loop-to-preserved
loop-to-preserved g c =
    let number = g.S.ShelfScores.number c.args.source.now in
    let worth = g.S.ShelfScores.worth c.args.source.now c.args.column in
    let men = c.args.men.now in
    let side = c.args.side in
    let to = c.in-Some.to in
    let here : IsBesideKing men side to = c.loop-to.invariant.1 to (omega arith) c.in-Some.ensures.had in (
      λ a b a_in b_in. one_more (λ k code. IsSomeTurnedCode number code false (stand_on (with_king men side k) a b) (other_side side)) (GoneKing men side c.loop-to.rest) (GoneKing men side c.pop_first.new.self) to (at c.loop-to.out a b) (at c.raise_kept.new.out a b) worth (c.loop-to.invariant.0 a b a_in b_in)
          (subst (λ (s : Side). IsRaised (at c.loop-to.out a b) (λ code. IsSomeTurnedCode number code false (stand_on (with_king men side to) a b) s) worth (at c.raise_kept.new.out a b)) c.other.ensures
          (subst (λ (m : ShelfMen). IsRaised (at c.loop-to.out a b) (λ code. IsSomeTurnedCode number code false (stand_on m a b) c.other.result) worth (at c.raise_kept.new.out a b)) c.with_king-stepped.ensures
          (c.raise_kept.ensures.raised c.if-not-raise_kept.false a b a_in b_in)))
          (gone_before men side c.loop-to.rest c.pop_first.new.self to c.in-Some.ensures.gone c.in-Some.ensures.others) (gone_after men side c.loop-to.rest c.pop_first.new.self to c.in-Some.ensures.gone c.in-Some.ensures.others)
          (here, c.in-Some.ensures.gone),
      left_beside men side c.loop-to.rest c.pop_first.new.self to c.in-Some.ensures.gone c.in-Some.ensures.others c.loop-to.invariant.1,
      kept_after number (g.S.ShelfScores.worth c.args.source.now) men side to c.other.result c.with_king-stepped.result c.raise_kept.new.keys c.raise_kept.new.blocks c.other.ensures c.with_king-stepped.ensures c.raise_kept.ensures.kept,
    )

pub returns-clause-raised : goal.returns-clause-raised
returns-clause-raised g c = λ told a b a_in b_in.
    let number = g.S.ShelfScores.number c.args.source.now in
    let worth = g.S.ShelfScores.worth c.args.source.now c.args.column in
    let men = c.args.men.now in
    let side = c.args.side in
    raised_alike 0 (at c.loop-to.out a b) (AreKingCodes number men side (GoneKing men side c.loop-to.rest) a b) (AreKingCodes number men side (IsBesideKing men side) a b) worth (c.loop-to.invariant.0 a b a_in b_in)
    (λ code h. (h.0, (h.1, c.in_default.ensures.empty h.0), h.2)) (λ code h. (h.0, h.1.0, h.2))

pub returns-then-not-raise_kept-clause-kept : goal.returns-then-not-raise_kept-clause-kept
returns-then-not-raise_kept-clause-kept g c = grind (arith, kept_after, c.other.ensures, c.with_king-stepped.ensures, c.raise_kept.ensures.kept)
