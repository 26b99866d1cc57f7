use Rattle.std.proofs.Common.{◌≡◌, ℕ, ◌<◌, List, false, sym, subst}
use Rattle.egt_check.specs.Prelude.{other_side, Side, IsSomeTurnedCode, ShelfMen, at, IsRaised, TableValue, Column}
use Rattle.egt_check.specs.Prelude.{stand_on, AreKept, AreStill, column_score, IsRead}
use Rattle.egt_check.proofs.move_scores.advances.Goals as goal

-- ---- the men where they stand

still_of : (t : TableValue) (column : Column) (men : ShelfMen) (side other : Side) → other ≡ other_side side → (low high : List (List ℕ)) → ((a b : ℕ) → a < 64 → b < 64 → at low a b ≡ 0)
    → ((a b : ℕ) → a < 64 → b < 64 → IsRaised (at low a b) (λ code. IsSomeTurnedCode t.class code false (stand_on men a b) other) (column_score t column) (at high a b)) → AreStill t.class (column_score t column) false men side high
still_of t column men side other is low high none raised = λ a b a_in b_in.
    subst (λ (s : Side). IsRead t.class (column_score t column) false (stand_on men a b) s (at high a b)) is
    (subst (λ n. IsRaised n (λ code. IsSomeTurnedCode t.class code false (stand_on men a b) other) (column_score t column) (at high a b)) (none a b a_in b_in) (raised a b a_in b_in))

pub raise_kept-requires-clause-kept : goal.raise_kept-requires-clause-kept
raise_kept-requires-clause-kept c = subst (λ (s : Side). AreKept c.args.own.now.class (column_score c.args.own.now) c.args.men.now s c.args.keys.now c.args.blocks.now) (sym c.other.ensures) c.requires.kept

pub own_pawn_moves-requires-clause-still : goal.own_pawn_moves-requires-clause-still
own_pawn_moves-requires-clause-still c =
    still_of c.args.own.now c.args.column c.args.men.now c.args.side c.other.result c.other.ensures c.nothing-still.result c.raise_kept.new.out c.nothing-still.ensures (c.raise_kept.ensures.raised c.if-not-raise_kept.false)
