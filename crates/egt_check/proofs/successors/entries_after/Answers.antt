use Rattle.std.specs.Prelude.{ℕ, IsSome}
use Rattle.egt_check.specs.Prelude.{table_at, beside}
use Rattle.egt_check.proofs.TableFound.{after_step, beside_some, own_some, place_below}
use Rattle.egt_check.proofs.successors.entries_after.Goals as goal

pub entries_in-requires-clause-there : goal.entries_in-requires-clause-there
entries_in-requires-clause-there c =
    let t = c.args.table.now in
    let tables = table_at c.args.library.now in
    let (q, leads) = c.requires.legal in
    after_step c.facts.ensures (λ (k : ℕ). IsSome (beside tables t k)) t.class c.args.position.now q c.args.chess_move.now c.class-class.ensures.table.class_in c.side-side.ensures.admissible c.requires.own leads
    (own_some tables t) (λ d child. beside_some tables t d (c.requires.children d child)) c.place_after.result (c.place_after.ensures q leads)

pub entries_in-requires-clause-below : goal.entries_in-requires-clause-below
entries_in-requires-clause-below c =
    let (q, leads) = c.requires.legal in
    place_below c.facts.ensures q c.place_after.result (c.place_after.ensures q leads)

pub returns : goal.returns
returns c = λ metric q leads. c.entries_in.ensures metric q (c.place_after.ensures q leads)
