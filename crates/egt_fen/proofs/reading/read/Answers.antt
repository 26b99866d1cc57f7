use Rattle.std.proofs.Common.{sym, ap, ◌∙◌, refl}
use Rattle.egt_fen.specs.Prelude.{false≢true, setup_of, shown_parts}
use Rattle.egt_fen.proofs.Spelling.{not_both, not_refused, spelled_admits, says_spells, admits_from, admits_to}
use Rattle.egt_fen.proofs.reading.read.Goals as goal

pub returns-in_err-parts-clause-reads : goal.returns-in_err-parts-clause-reads
returns-in_err-parts-clause-reads c = (
  λ ok. absurd (not_both c.from_residual.result c.from_residual.ensures.0 ok),
  λ w. absurd (not_refused c.args.text.now w.0 c.in_err-parts.field-0.0 w.1 (sym c.in_err-parts.ensures)),
)

pub returns-in_err-position-clause-reads : goal.returns-in_err-position-clause-reads
returns-in_err-position-clause-reads c =
    let parts = shown_parts c.in_ok-parts.parts in (
      λ ok. absurd (not_both c.from_residual-in_err-position.result c.from_residual-in_err-position.ensures.0 ok),
      λ w. absurd (false≢true (c.in_err-position.ensures.admits.1
          (admits_to c.deref.result.now parts c.deref.ensures.0 (spelled_admits c.args.text.now w.0 parts w.1 (sym c.in_ok-parts.ensures))))),
    )

pub returns-clause-spells : goal.returns-clause-spells
returns-clause-spells c =
    let parts = shown_parts c.in_ok-parts.parts in
    says_spells c.args.text.now _ parts (sym c.in_ok-parts.ensures)
    (c.in_ok-position.ensures.setup ∙ ap (λ m. setup_of m parts.side parts.target) c.deref.ensures.0) refl refl
    (admits_from c.deref.result.now parts c.deref.ensures.0 (c.in_ok-position.ensures.admits.0 refl))

pub returns-clause-reads : goal.returns-clause-reads
returns-clause-reads c = (λ _. (_, returns-clause-spells c), λ _. refl)
