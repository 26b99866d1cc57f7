use Rattle.std.proofs.Common.{sym}
use Rattle.egt_c.specs.Prelude.{arc_value, loaded_in, OfText, TellsRoot, Places, contents}
use Rattle.egt_c.proofs.Kept.{if_held, told_of}
use Rattle.egt_c.proofs.position_calls.egtb_root.Goals as goal

pub returns-in-Some-clause-told : goal.returns-in-Some-clause-told
returns-in-Some-clause-told c = let told = c.tell_root in
    if_held (contents c.args.library.now) (arc_value c.in-Some.owner.now) c.deref.result.now (λ (places : Places). OfText (TellsRoot (loaded_in places)) c.args.fen.now told.result c.args.moves.now told.new.moves)
    (sym c.in-Some.ensures.owner) c.deref.ensures (told_of c.position_in.result c.position_in.ensures.position c.position_in.ensures.fault told.ensures)
