-- Of what class a position is.
use Rattle.std.specs.Prelude.{◌≡◌, ℕ, Bool, if◌then◌else◌}
use Rattle.egt_board.specs.Prelude.{other_side, Setup, count_of}
use Rattle.egt_board.specs.declared.man.Man.{Man}
use Rattle.egt_class.specs.Material.{men_in}

-- the men of p are those of the class, White being the side named first, or those with colours exchanged where flipped
pub record IsOf (c : ℕ) (flipped : Bool) (p : Setup) : Type 0 where
  pub men : (man : Man) → count_of p.men man ≡ men_in c (if flipped then other_side man.side else man.side) man.kind
