use Rattle.std.proofs.Common.{Option, refl, sym, ◌∙◌, subst}
use Rattle.egt_moves.specs.Prelude.{IsSome, Man}
use Rattle.egt_moves.proofs.playing.play_legal.Goals as goal

pub unwrap-man-requires : goal.unwrap-man-requires
unwrap-man-requires c = subst (λ (o : Option Man). IsSome o) (sym (c.at.ensures ∙ c.requires.1.stands)) refl
