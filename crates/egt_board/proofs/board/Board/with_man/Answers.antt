use Rattle.std.proofs.Common.{◌∙◌, sym, arith}
use Rattle.egt_board.proofs.Slots.{comes_to, placed_of, kept_of}
use Rattle.egt_board.proofs.board.Board.with_man.Goals as goal

pub invariant_of-result : goal.invariant_of-result
invariant_of-result c =
    kept_of _ _ ((comes_to c.self.inside c.args.self.now c.args.square c.args.man c.filled-new.result c.filled-new.ensures c.self.invariant c.self.view_is c.requires.room (omega arith) c.requires.free).first
    (sym c.is_ahead.ensures ∙ c.if-not-is_ahead.true))

pub returns-then-not-is_ahead : goal.returns-then-not-is_ahead
returns-then-not-is_ahead c =
    placed_of _ _ ((comes_to c.self.inside c.args.self.now c.args.square c.args.man c.filled-new.result c.filled-new.ensures c.self.invariant c.self.view_is c.requires.room (omega arith) c.requires.free).first
    (sym c.is_ahead.ensures ∙ c.if-not-is_ahead.true))

pub invariant_of-result-then-not-is_ahead-2 : goal.invariant_of-result-then-not-is_ahead-2
invariant_of-result-then-not-is_ahead-2 c =
    kept_of _ _ ((comes_to c.self.inside c.args.self.now c.args.square c.args.man c.filled-new.result c.filled-new.ensures c.self.invariant c.self.view_is c.requires.room (omega arith) c.requires.free).second
    (sym c.is_ahead.ensures ∙ c.if-not-is_ahead.false) (sym c.is_ahead-2.ensures ∙ c.if-not-is_ahead-2.true))

pub returns-then-not-is_ahead-2 : goal.returns-then-not-is_ahead-2
returns-then-not-is_ahead-2 c =
    placed_of _ _ ((comes_to c.self.inside c.args.self.now c.args.square c.args.man c.filled-new.result c.filled-new.ensures c.self.invariant c.self.view_is c.requires.room (omega arith) c.requires.free).second
    (sym c.is_ahead.ensures ∙ c.if-not-is_ahead.false) (sym c.is_ahead-2.ensures ∙ c.if-not-is_ahead-2.true))

pub invariant_of-result-then-not-is_ahead-3 : goal.invariant_of-result-then-not-is_ahead-3
invariant_of-result-then-not-is_ahead-3 c =
    kept_of _ _ ((comes_to c.self.inside c.args.self.now c.args.square c.args.man c.filled-new.result c.filled-new.ensures c.self.invariant c.self.view_is c.requires.room (omega arith) c.requires.free).third
    (sym c.is_ahead.ensures ∙ c.if-not-is_ahead.false) (sym c.is_ahead-2.ensures ∙ c.if-not-is_ahead-2.false) (sym c.is_ahead-3.ensures ∙ c.if-not-is_ahead-3.true))

pub returns-then-not-is_ahead-3 : goal.returns-then-not-is_ahead-3
returns-then-not-is_ahead-3 c =
    placed_of _ _ ((comes_to c.self.inside c.args.self.now c.args.square c.args.man c.filled-new.result c.filled-new.ensures c.self.invariant c.self.view_is c.requires.room (omega arith) c.requires.free).third
    (sym c.is_ahead.ensures ∙ c.if-not-is_ahead.false) (sym c.is_ahead-2.ensures ∙ c.if-not-is_ahead-2.false) (sym c.is_ahead-3.ensures ∙ c.if-not-is_ahead-3.true))

pub returns : goal.returns
returns c =
    placed_of _ _ ((comes_to c.self.inside c.args.self.now c.args.square c.args.man c.filled-new.result c.filled-new.ensures c.self.invariant c.self.view_is c.requires.room (omega arith) c.requires.free).fourth
    (sym c.is_ahead.ensures ∙ c.if-not-is_ahead.false) (sym c.is_ahead-2.ensures ∙ c.if-not-is_ahead-2.false) (sym c.is_ahead-3.ensures ∙ c.if-not-is_ahead-3.false))
