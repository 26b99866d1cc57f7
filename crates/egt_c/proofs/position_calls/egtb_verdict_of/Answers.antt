use Rattle.std.proofs.Common.{sym}
use Rattle.egt_c.specs.Prelude.{arc_value, loaded_in, OfMen, TellsVerdict, Places, contents}
use Rattle.egt_c.proofs.Kept.{if_held, told_of}
use Rattle.egt_c.proofs.position_calls.egtb_verdict_of.Goals as goal

pub returns-in-Some-clause-told : goal.returns-in-Some-clause-told
returns-in-Some-clause-told c = let told = c.tell_verdict in
    if_held (contents c.args.library.now) (arc_value c.in-Some.owner.now) c.deref.result.now (λ (places : Places). OfMen (TellsVerdict (loaded_in places)) c.args.position.now told.result c.args.answer.now told.new.answer)
    (sym c.in-Some.ensures.owner) c.deref.ensures (told_of c.position_of.result c.position_of.ensures.position c.position_of.ensures.fault told.ensures)
