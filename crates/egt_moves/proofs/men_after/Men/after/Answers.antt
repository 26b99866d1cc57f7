use Rattle.std.proofs.Common.{sym, ap, ◌∙◌}
use Rattle.egt_moves.specs.Prelude.{other_side, Setup}
use Rattle.egt_moves.proofs.MenTold.{men_told}
use Rattle.egt_moves.proofs.men_after.Men.after.Goals as goal

pub returns : goal.returns
returns c = λ p q ok are leads off. record {
  men = rw (c.square_after.ensures, c.square_after-2.ensures, c.entry_after.ensures, c.entry_after-2.ensures)
      (men_told p q c.args.chess_move.now c.args.self.now.white c.args.self.now.black c.args.self.now.first c.args.self.now.other ok are.men leads off);
  side = ap (λ (s : Setup). s.side) leads.becomes ∙ ap other_side are.side ∙ sym c.other.ensures;
}
