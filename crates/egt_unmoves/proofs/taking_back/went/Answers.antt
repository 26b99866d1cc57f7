use Rattle.std.proofs.Common.{arith, sym, inl, inr, subst}
use Rattle.egt_unmoves.specs.Prelude.{Advances, Placement, IsFree, Went}
use Rattle.egt_unmoves.proofs.taking_back.went.Goals as goal

pub returns-then-is_pawn : goal.returns-then-is_pawn
returns-then-is_pawn c =
    let pawn = c.is_pawn.ensures.0 c.if-is_pawn.true in (
      λ one.
          let h = c.advanced.ensures.0 one in
          record {
            within = omega arith;
            free = c.requires.may.free;
            fits = h.0;
            goes = inr (pawn, subst (λ (men : Placement). Advances (IsFree men) c.args.man.side c.args.from c.args.to) c.requires.board h.1);
            quiet = c.requires.left.quiet;
            settles = h.2;
          },
      λ (w : Went c.args.position.now c.args.man c.args.to c.args.from). c.advanced.ensures.1 (
        w.fits,
        elim w.goes [
          | inl piece ↦ absurd (piece.0 pawn)
          | inr advance ↦ subst (λ (men : Placement). Advances (IsFree men) c.args.man.side c.args.from c.args.to) (sym c.requires.board) advance.1
        ],
        w.settles,
      ),
    )
