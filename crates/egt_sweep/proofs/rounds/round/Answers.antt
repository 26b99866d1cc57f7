use Rattle.std.proofs.Common.{◌≡◌, ◌≢◌, ◌∙◌, ◌+◌, ◌<◌, sym, subst, length, slice_index_or, slice_set, arith, Some}
use Rattle.egt_sweep.specs.FillPrelude.{get_or_default, Visited}
use Rattle.egt_sweep.specs.declared.rounds.Visited.TheVariants as visits
use Rattle.egt_sweep.proofs.RoundKept.{Passed, left_alone, looked_at}
use Rattle.egt_sweep.proofs.rounds.round.Goals as goal
use Rattle.egt_sweep.proofs.rounds.round.Goals.{in-Left, in-Looked}

-- what a visit came to is one thing
left_told : (v : Visited) → v ≡ visits.Left → v ≢ visits.Untold
left_told v is told = cc

looked_told : (v : Visited) → v ≡ visits.Looked → v ≢ visits.Untold
looked_told v is told = cc

pub loop-i-preserved : goal.loop-i-preserved
loop-i-preserved c =
    let f = c.args.f.now in
    let l = c.loop-i in
    let v = c.visit.new in
    let test = c.loop-i-test.true in
    let long = l.invariant.3 in
    let i_in : l.i < length l.items = omega (arith, test, long) in
    let here = slice_index_or l.items l.i c.index-items-i.result in
    let at = get_or_default l.items l.i c.index-items-i.result here i_in in
    elim c.match-visit.branch [
      | in-Left w ↦
          let told = c.visit.ensures.left w.in-Left.is in
          subst (λ looks. Passed f c.args.table.now c.args.items.now v.table (slice_set l.items l.i v.item) v.marks v.kept looks (l.i + 1)) (sym w.looks-is)
          (left_alone f c.args.table.now c.args.items.now l.table l.items l.marks l.kept l.looks l.i l.invariant i_in here at v.table v.item v.marks v.kept
          (c.visit.ensures.kept (left_told c.visit.result w.in-Left.is)) told.0 told.1)
      | in-Looked w ↦
          subst (λ looks. Passed f c.args.table.now c.args.items.now v.table (slice_set l.items l.i v.item) v.marks v.kept looks (l.i + 1)) (sym w.looks-is)
          (looked_at f c.args.table.now c.args.items.now l.table l.items l.marks l.kept l.looks l.i l.invariant i_in here at v.table v.item v.marks v.kept
          (c.visit.ensures.kept (looked_told c.visit.result w.in-Looked.is)) c.requires.filling.below (l.invariant.0.class ∙ c.requires.table.class_is) (c.visit.ensures.looked w.in-Looked.is) (c.visit.ensures.stamped w.in-Looked.is))
    ]

pub returns-clause-fresh : goal.returns-clause-fresh
returns-clause-fresh c = λ told k d k_in _.
    let l = c.loop-i in
    let long = l.invariant.3 in
    let past = c.loop-i-test.false in
    l.invariant.5 (let same : Some l.looks ≡ Some 0 = told in cc) k d (omega (arith, k_in, long, past)) k_in
