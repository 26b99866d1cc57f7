use Rattle.std.proofs.Common.{Some, None, cond, refl, ap, sym, inl, inr, true, false}
use Rattle.egt_index.proofs.ComesHome.{still_told, tied_is}
use Rattle.egt_index.proofs.home.still_home.Goals as goal

pub returns-then-pawns-file-clause-home : goal.returns-then-pawns-file-clause-home
returns-then-pawns-file-clause-home c = λ digit below is.
    still_told c.args.pawns c.args.king 4 digit (Some 4)
    (sym (ap (λ b. cond b 4 0) (tied_is c.args.pawns c.args.king c.file.result c.rank.result true c.file.ensures.value c.rank.ensures.value c.if-pawns-file.true))) (inr refl) below is

pub returns-else-pawns-file-clause-home : goal.returns-else-pawns-file-clause-home
returns-else-pawns-file-clause-home c = λ digit below is.
    still_told c.args.pawns c.args.king 0 digit None
    (sym (ap (λ b. cond b 4 0) (tied_is c.args.pawns c.args.king c.file.result c.rank.result false c.file.ensures.value c.rank.ensures.value c.if-pawns-file.false))) (inl (refl, refl)) below is
