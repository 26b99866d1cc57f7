-- A text as the code keeps it, seen as the lists that its definitions speak of.
use Rattle.std.specs.Prelude.{Result, Ok, Err}
use Rattle.std.specs.Option.{option_map}
use Rattle.egt_fen.specs.declared.fault.FenFault.{FenFault}
use Rattle.egt_fen.specs.declared.fields.Fields.{Fields}
use Rattle.egt_fen.specs.declared.parts.Parts.{Parts}
use Rattle.egt_fen.specs.Fields as fields
use Rattle.egt_fen.specs.Parts as parts

abbrev pub shown_fields : Fields → fields.Fields
shown_fields f = record {
  placement = f.placement.now;
  side = f.side.now;
  castling = f.castling.now;
  target = f.target.now;
  clocks = option_map (λ pair. (pair.0.now, pair.1.now)) f.clocks;
}

abbrev pub shown_parts : Parts → parts.Parts
shown_parts p = record {
  men = p.men.items;
  side = p.side;
  target = p.target;
  halfmove = p.halfmove;
  fullmove = p.fullmove;
}

abbrev pub shown_result : Result Parts FenFault → Result parts.Parts FenFault
shown_result (Ok p) = Ok (shown_parts p)
shown_result (Err fault) = Err fault
