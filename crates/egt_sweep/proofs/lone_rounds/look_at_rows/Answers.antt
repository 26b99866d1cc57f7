use Rattle.std.proofs.Common.{◌≡◌, ◌≢◌, ◌∙◌, ◌+◌, ◌-◌, ◌*◌, ◌/◌, ◌%◌, ℕ, arith, ap, inl, inr, refl, sym, subst}
use Rattle.egt_sweep.specs.FillPrelude.{cases_lt, size_of, KeepsPart, IsDueRow, Mended, beside, table_at, TableValue}
use Rattle.egt_sweep.proofs.LonePut.{Anywhere, still_filling}
use Rattle.egt_sweep.proofs.PutEntries.{mended_after, stays}
use Rattle.egt_sweep.specs.declared.mending.Mended.TheVariants as mends
use Rattle.egt_sweep.proofs.lone_rounds.look_at_rows.Goals as goal
use Rattle.egt_sweep.proofs.lone_rounds.look_at_rows.Goals.{in-Due, in-Put}

put_due : (m : Mended) → m ≡ mends.Put → m ≢ mends.Due
put_due m is due = cc

pub mend_lone_row-requires : goal.mend_lone_row-requires
mend_lone_row-requires c = record { filling = still_filling c.args.f.now c.args.table.now c.loop-row.table c.loop-row.invariant.0 c.class-class.ensures.table c.requires.filling }

pub loop-row-init : goal.loop-row-init
loop-row-init c = (stays c.args.f.now.part Anywhere c.args.table.now c.requires.filling.told.bytes, λ due. refl, λ due all r below. absurd (omega (arith, below)))

pub loop-row-preserved : goal.loop-row-preserved
loop-row-preserved c = (
  mended_after c.args.f.now.part Anywhere Anywhere c.args.table.now c.loop-row.table c.mend_lone_row.new.table c.loop-row.invariant.0 c.mend_lone_row.ensures.mended (λ i at. at),
  λ is. elim c.match-mend_lone_row.branch [
    | in-Due w ↦ c.mend_lone_row.ensures.same w.in-Due.is ∙ c.loop-row.invariant.1 (sym w.found-is ∙ is)
    | in-Put w ↦ absurd (put_due c.match-mend_lone_row.found w.found-is is)
  ],
  λ is all r below. elim c.match-mend_lone_row.branch [
    | in-Due w ↦ elim (cases_lt r c.loop-row.row) [
      | inl early ↦ subst (λ (t : TableValue). IsDueRow c.args.f.now t r) (sym (c.mend_lone_row.ensures.same w.in-Due.is)) (c.loop-row.invariant.2 (sym w.found-is ∙ is) all r early)
      | inr late ↦ let here : c.loop-row.row ≡ r = omega (arith, below, late) in subst (IsDueRow c.args.f.now c.mend_lone_row.new.table) here (c.mend_lone_row.ensures.due w.in-Due.is all)
    ]
    | in-Put w ↦ absurd (put_due c.match-mend_lone_row.found w.found-is is)
  ],
)

pub returns-in-Untold-clause-mended : goal.returns-in-Untold-clause-mended
returns-in-Untold-clause-mended c = mended_after c.args.f.now.part Anywhere Anywhere c.args.table.now c.loop-row.table c.mend_lone_row.new.table c.loop-row.invariant.0 c.mend_lone_row.ensures.mended (λ i at. at)

pub returns-clause-due : goal.returns-clause-due
returns-clause-due c = λ is all i below.
    let f = c.args.f.now in
    let t = c.loop-row.table in
    let past = c.loop-row-test.false in
    let even = c.if-codes-ne0.false in
    let size = c.size-codes.ensures ∙ ap (λ k. size_of k) (c.class.ensures.class ∙ sym c.loop-row.invariant.0.class) in
    let row : ℕ = i / 128 * 2 + (1 - i % 2) in
    subst (λ n. KeepsPart f.part (beside (table_at f.library.now) t) t n) (omega arith) (c.loop-row.invariant.2 is all row (omega (arith, below, past, even, size)) (i % 128 / 2) (omega arith))
