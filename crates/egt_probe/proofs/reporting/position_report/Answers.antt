use Rattle.std.proofs.Common.{List, sym, subst}
use Rattle.egt_probe.specs.Prelude.{IfOk-weaker, mate_by, Move, Outcome, IsLine, Unloaded, Decisive, Dead, Drawn}
use Rattle.egt_probe.specs.Prelude.{verdict_of, loaded_in, IsVerdict}
use Rattle.egt_probe.proofs.reporting.position_report.Goals as goal

pub returns-in-Err : goal.returns-in-Err
returns-in-Err c = IfOk-weaker c.missing_text.result _ _ (λ text e. Unloaded c.in-Err.missing.class c.in-Err.ensures.missing e) c.missing_text.ensures

pub returns-in-Draw : goal.returns-in-Draw
returns-in-Draw c =
    let verdict = c.in-Ok.verdict in
    let drawn = subst (λ (v : Outcome). IsVerdict (loaded_in c.args.library.now) c.args.position.now (verdict_of verdict.class v)) c.in-Draw.is c.in-Ok.ensures.verdict in
    IfOk-weaker c.drawn_text.result _ _ (λ text e. Drawn verdict.class c.drawing_move.result c.in-Ok.ensures.there drawn c.drawing_move.ensures e) c.drawn_text.ensures

pub returns-in-Dead : goal.returns-in-Dead
returns-in-Dead c =
    let verdict = c.in-Ok.verdict in
    let dead = subst (λ (v : Outcome). IsVerdict (loaded_in c.args.library.now) c.args.position.now (verdict_of verdict.class v)) c.in-Dead.is c.in-Ok.ensures.verdict in
    IfOk-weaker c.dead_text.result _ _ (λ text e. Dead verdict.class c.holding_move.result dead c.holding_move.ensures e) c.dead_text.ensures

pub returns-in_ok-moves-in-Decided : goal.returns-in_ok-moves-in-Decided
returns-in_ok-moves-in-Decided c =
    let verdict = c.in-Ok.verdict in
    let winner = c.in-Decided.winner in
    let plies = c.in-Decided.plies in
    let zeroing = c.in-Decided.zeroing in
    let ms = c.deref.result.now in
    let p = c.args.position.now in
    let decided = subst (λ (v : Outcome). IsVerdict (loaded_in c.args.library.now) p (verdict_of verdict.class v)) c.in-Decided.is c.in-Ok.ensures.verdict in
    let line = subst (λ (l : List Move). IsLine p (mate_by p.side winner plies) l) (sym c.deref.ensures.value) c.in_ok-moves-in-Decided.ensures in
    IfOk-weaker c.decided_text.result _ _ (λ text e. Decisive verdict.class winner plies zeroing ms c.in-Ok.ensures.there decided line e) c.decided_text.ensures
