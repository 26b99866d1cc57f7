use Rattle.std.proofs.Common.{◌≡◌, ℕ, false, subst, slice_index}
use Rattle.egt_blocks.specs.Prelude.{bit_at, Side, IsRead, IsPastKings, stand_alone}
use Rattle.egt_blocks.proofs.AloneRaising.{king_only, with_man}
use Rattle.egt_blocks.proofs.QuietRaising.{no_pawn, no_piece, steps_raised}
use Rattle.egt_blocks.proofs.lone_quiet.quiet_row.Goals as goal

pub returns-then-not-is_own_piece : goal.returns-then-not-is_own_piece
returns-then-not-is_own_piece g c = λ told s s_in.
    let men = c.args.men.now in
    king_only (g.S.LoneScores.number c.args.source.now) (g.S.LoneScores.worth c.args.source.now c.args.column) men c.args.side s (slice_index c.king_row.new.out s) (c.king_row.ensures c.if-not-king_row.false s s_in)
    (λ own. no_piece men.last.kind (c.is_own_piece.ensures.no c.if-not-is_own_piece.true own) c.requires.last)

pub returns : goal.returns
returns g c = λ told s s_in.
    let number = g.S.LoneScores.number c.args.source.now in
    let worth = g.S.LoneScores.worth c.args.source.now c.args.column in
    let men = c.args.men.now in
    let low : ℕ = slice_index c.king_row.new.out s in
    let high : ℕ = slice_index c.last_man_raised.result s in
    let scores : ℕ → ℕ = λ t. slice_index c.read_lone.new.out t in
    let own = c.is_own_piece.ensures.yes c.if-not-is_own_piece.false in
    with_man number worth men c.args.side s low (c.king_row.ensures c.if-not-king_row.false s s_in) own.0 (no_pawn men.last.kind own.1) scores high
    (λ t t_in. subst (λ (x : Side). IsRead number worth false (stand_alone men t) x (scores t)) c.other.ensures (c.read_lone.ensures c.if-not-read_lone.false t t_in))
    (steps_raised (λ u. bit_at c.past_kings.result.bits u ≡ 1) (IsPastKings men) men.last s scores low high c.past_kings.ensures (c.last_man_raised.ensures s s_in))
