use Rattle.std.proofs.Common.{ℕ, filter, take, length, ap, arith}
use Rattle.std.proofs.lemmas.List.{length-map, length-take}
use Rattle.std.proofs.lemmas.List.Sums.{length-filter, count_by-le-length}
use Rattle.egt_checker_tests.specs.Stairs.{is_exit_of}
use Rattle.egt_graph.specs.declared.game.Exit.{Exit}
use Rattle.egt_checker_tests.proofs.graph.games.StairsGame.exits.Goals as goal

pub push-requires : goal.push-requires
push-requires c =
    let s = c.args.self.now in
    let seen = take c.loop-pair.pair-index s.exits.now in (
      omega arith,
      omega (
        arith,
        s.few,
        ap length c.loop-pair.invariant,
        length-map (filter (is_exit_of c.args.i) seen) (λ (e : ℕ × Exit). e.1),
        length-filter (is_exit_of c.args.i) seen,
        count_by-le-length (is_exit_of c.args.i) seen,
        length-take c.loop-pair.pair-index s.exits.now,
      ),
    )
