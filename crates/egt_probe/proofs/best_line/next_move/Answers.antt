use Rattle.std.proofs.Common.{◌≡◌, ℕ, ◌+◌, suc, Option, IfSome, ap, ◌∙◌, subst, arith}
use Rattle.egt_probe.specs.Prelude.{Side, other_side, Setup, SomeMove, HasValue, chess, mate_by, Move, entry_of, Facts}
use Rattle.egt_probe.specs.Prelude.{IsFirstWith}
use Rattle.egt_probe.proofs.Best.{short, goes_on, some_found, first_to}
use Rattle.egt_probe.proofs.best_line.next_move.Goals as goal

-- one ply more, as it is written
ahead : Facts → (p : Setup) (winner : Side) (n k : ℕ) → k ≡ suc n → HasValue chess p (mate_by p.side winner k) → SomeMove chess p (λ q. HasValue chess q (mate_by (other_side p.side) winner n))
ahead facts p winner n k e has = goes_on facts p.side winner n p (subst (λ (j : ℕ). HasValue chess p (mate_by p.side winner j)) e has)

-- the entry that is looked for is that of the next value
entry_is : (x : ℕ) (side turned other winner : Side) (n : ℕ) → turned ≡ side → other ≡ other_side turned → x ≡ entry_of (mate_by other winner n) → x ≡ entry_of (mate_by (other_side side) winner n)
entry_is x side turned other winner n same changed e = e ∙ ap (λ (s : Side). entry_of (mate_by s winner n)) (changed ∙ ap other_side same)

pub unwrap-requires : goal.unwrap-requires
unwrap-requires c =
    let p = c.args.position.now in
    let e = entry_is c.decided_entry-entry.result p.side c.side.result c.other.result c.args.winner c.args.plies c.side.ensures.side c.other.ensures c.decided_entry-entry.ensures in
    some_found c.facts.ensures p c.decided_entry-entry.result (mate_by (other_side p.side) c.args.winner c.args.plies) c.first_with.result e
    (ahead c.facts.ensures p c.args.winner c.args.plies (c.args.plies + 1) (omega arith) c.requires.value) c.first_with.ensures.none

pub returns-clause-first : goal.returns-clause-first
returns-clause-first c =
    let p = c.args.position.now in
    let e = entry_is c.decided_entry-entry.result p.side c.side.result c.other.result c.args.winner c.args.plies c.side.ensures.side c.other.ensures c.decided_entry-entry.ensures in
    let some = ahead c.facts.ensures p c.args.winner c.args.plies (c.args.plies + 1) (omega arith) c.requires.value in
    let brief = short (other_side p.side) c.args.winner c.args.plies some.0 some.2 (omega arith) in
    first_to c.facts.ensures p c.unwrap.result.1 c.unwrap.result.0 c.decided_entry-entry.result (mate_by (other_side p.side) c.args.winner c.args.plies) (brief, e)
    (subst (λ (o : Option (Move × Setup)). IfSome o (λ f. IsFirstWith p c.decided_entry-entry.result f.0 f.1)) c.unwrap.ensures c.first_with.ensures.some)

pub returns-clause-loaded : goal.returns-clause-loaded
returns-clause-loaded c =
    let p = c.args.position.now in
    let found = subst (λ (o : Option (Move × Setup)). IfSome o (λ f. IsFirstWith p c.decided_entry-entry.result f.0 f.1)) c.unwrap.ensures c.first_with.ensures.some in
    c.moves_stay_loaded.ensures c.unwrap.result.0 c.unwrap.result.1 found.leads
