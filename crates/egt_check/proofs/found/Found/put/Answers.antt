use Rattle.std.specs.Prelude.{true}
use Rattle.egt_check.specs.Prelude.{AreFound, table_told, IsPut, Inside}
use Rattle.egt_check.proofs.FoundPut.{IsRowPut, near_put, values_put}
use Rattle.egt_check.proofs.found.Found.put.Goals.{in-Values-Some, in-Reach-None}
use Rattle.egt_check.proofs.found.Found.put.Goals as goal

is_put : (c : goal.After-put-2) → AreFound c.match-part.self-inside.table c.put-2.new.self c.match-part.self-inside.clocks
    × IsPut c.args.part c.args.shelf.now.men c.args.shelf.now.number c.args.shelf.now.side c.args.lanes c.args.scores c.args.clocks c.args.self.now (table_told c.match-part.self-inside.table c.put-2.new.self c.match-part.self-inside.clocks) true
is_put c =
    let a = c.args in
    let f : Inside = c.self.inside in
    let g : Inside = c.match-part.self-inside in
    let ok = c.are_told.ensures c.if-not-are_told.false in
    let is = c.put-2.ensures in
    let put : IsRowPut a.shelf.now.men a.shelf.now.number a.shelf.now.side a.lanes a.scores g.scores c.put-2.new.self = record { class = is.class; long = is.long; put = is.put; others = is.others } in
    elim c.match-part.branch [
      | in-Values-Some w ↦
          let arm = w.in-Values-Some in
          let also = w.put.ensures in
          values_put a.shelf.now.men a.shelf.now.number a.shelf.now.side a.lanes c.row-own.result a.scores a.clocks f.table a.self.now f.scores c.fits-scores c.fits-clocks c.row-own.ensures
          a.part f.clocks g arm.rows w.put.new.self arm.is-0 arm.is-1 w.self-inside-is (record { class = also.class; long = also.long; put = also.put; others = also.others })
          c.self.view_is c.self.invariant ok c.put-2.new.self put
      | in-Reach-None w ↦
          let arm = w.in-Reach-None in
          near_put a.shelf.now.men a.shelf.now.number a.shelf.now.side a.lanes c.row-own.result a.scores a.clocks f.table a.self.now f.scores c.fits-scores c.fits-clocks c.row-own.ensures
          a.part f.clocks g arm.is-0 arm.is-1 w.self-inside-is c.self.view_is c.self.invariant ok c.put-2.new.self put
    ]

pub invariant_of-self-2 : goal.invariant_of-self-2
invariant_of-self-2 c = (is_put c).0

pub returns : goal.returns
returns c = (is_put c).1
