use Rattle.std.specs.Prelude.{◌≡◌, refl}
use Rattle.egt_moves.specs.Prelude.{Setup, IsAdmissible, chess}
use Rattle.egt_moves.proofs.Likeness.{alike_by_mirror}
use Rattle.egt_moves.proofs.AlikeWorth.{same_worth, same_distance}
use Rattle.egt_moves.proofs.laws.mirrors_are_alike.Goals as goal

-- q is the image of p, an admissible position
abbrev Image : (Setup → Setup) → Setup → Setup → Type 0
Image f p q = IsAdmissible p × (q ≡ f p)

pub returns-clause-values : goal.returns-clause-values
returns-clause-values c f mirror p good v = same_worth chess (Image f) (alike_by_mirror chess IsAdmissible f mirror) p (f p) v (good, refl)

pub returns-clause-distances : goal.returns-clause-distances
returns-clause-distances c f mirror p good v = same_distance chess (Image f) (alike_by_mirror chess IsAdmissible f mirror) p (f p) v (good, refl)
