use Rattle.std.proofs.Common.{◌≤◌, ℕ, List, Option, length, take, subst, arith}
use Rattle.egt_table.specs.Prelude.{Consumes, take_all, err_from_is_err_and}
use Rattle.egt_table.proofs.Answers.{header_answer, header_is, header_is_right, not_counted, of_field}
use Rattle.egt_table.proofs.reading.read_header.Goals as goal

whole : (left new : Option (List ℕ)) (n : ℕ) (bytes : List ℕ) → Consumes left new (take n bytes) → length bytes ≤ n → Consumes left new bytes
whole left new n bytes p h = subst (λ (w : List ℕ). Consumes left new w) (take_all n bytes h) p

pub returns-in_err-check_header-clause-fault : goal.returns-in_err-check_header-clause-fault
returns-in_err-check_header-clause-fault g c =
    let consumed = whole _ _ c.in_ok-n.n c.fill.new.buffer c.in_ok-n.ensures.bytes (omega arith) in
    let p = err_from_is_err_and c.from_residual-in_err-check_header.result c.from_residual-in_err-check_header.ensures.1 in
    rw (p.1, p.2)
    (header_answer c.version_in-version.result c.args.class _ _ c.fill.new.buffer c.in_err-check_header.field-0.0 consumed (omega arith) c.version_in-version.ensures c.in_err-check_header.ensures.fault)

pub returns-in_err-check_header-clause-failures : goal.returns-in_err-check_header-clause-failures
returns-in_err-check_header-clause-failures g c =
    let p = err_from_is_err_and c.from_residual-in_err-check_header.result c.from_residual-in_err-check_header.ensures.1 in
    rw (p.1, p.2)
    (not_counted c.in_err-check_header.field-0.0 _ _ (of_field c.version_in-version.result c.args.class c.fill.new.buffer c.in_err-check_header.field-0.0 c.in_err-check_header.ensures.fault) c.in_ok-n.ensures.failures)

pub returns-clause-header : goal.returns-clause-header
returns-clause-header g c =
    let consumed = whole _ _ c.in_ok-n.n c.fill.new.buffer c.in_ok-n.ensures.bytes (omega arith) in
    subst (λ (w : List ℕ). Consumes (g.S.Source.left c.args.source.now) (g.S.Source.left c.fill.new.source) w)
    (header_is c.version_in-version.result c.args.class c.fill.new.buffer c.fill.ensures.range (omega arith) c.in_ok-check_header.ensures.right) consumed

pub returns-clause-right : goal.returns-clause-right
returns-clause-right g c =
    let consumed = whole _ _ c.in_ok-n.n c.fill.new.buffer c.in_ok-n.ensures.bytes (omega arith) in
    header_is_right c.version_in-version.result c.args.class _ _ c.fill.new.buffer consumed (omega arith) c.version_in-version.ensures c.in_ok-check_header.ensures.right
