use Rattle.std.proofs.Common.{sym, ◌∙◌, inl}
use Rattle.egt_checker_tests.proofs.rules.board.image_of.Goals as goal

pub image-requires : goal.image-requires
image-requires c = inl (c.a_class_without_pawns_has_none.ensures _ _ _ c.side-side.ensures.admissible c.of-class.ensures.class (sym c.has_pawns.ensures ∙ c.if-has_pawns.false))
