-- The texts that spell a position with its clocks (PGN standard of 1994, section 16.1), and the first fault of
-- any other text.
use Rattle.std.specs.Prelude.{◌≡◌, ℕ, List, Some, MatchResult}
use Rattle.egt_board.specs.declared.fault.PosFault.{PosFault}
use Rattle.egt_board.specs.declared.man.Man.{Man}
use Rattle.egt_board.specs.Listed as listed
use Rattle.egt_board.specs.Setup.{IsAdmissible}
use Rattle.egt_fen.specs.declared.fault.FenFault.{FenFault}
use Rattle.egt_fen.specs.declared.fen.Fen.{Fen}
use Rattle.egt_fen.specs.Fault.{fault_of}
use Rattle.egt_fen.specs.Fields.{Fields, fields_of}
use Rattle.egt_fen.specs.Placement.{placement_of}
use Rattle.egt_fen.specs.Side.{side_of}
use Rattle.egt_fen.specs.Castling.{castling_of}
use Rattle.egt_fen.specs.Target.{target_of}
use Rattle.egt_fen.specs.Counter.{clocks_of}
use Rattle.egt_fen.specs.Parts.{Parts, parts_of}

-- the text has six fields or four, each says its part of the position, and the position is admissible
pub record Spells (text : List ℕ) (fen : Fen) : Type 0 where
  pub fields : Fields
  pub men : List (Man × ℕ)
  pub split : fields_of text ≡ Some fields
  pub placement : placement_of fields.placement ≡ Some men
  pub side : side_of fields.side ≡ Some fen.position.side
  pub castling : castling_of fields.castling ≡ Some tt
  pub target : target_of fields.target ≡ Some fen.position.target
  pub clocks : clocks_of fields.clocks ≡ Some (fen.halfmove, fen.fullmove)
  pub board : fen.position.men ≡ listed.men_of men
  pub fits : listed.FitsBoard men
  pub admissible : IsAdmissible fen.position

-- the first fault of a setup that is no position, as a fault of the text
pub record IsSetupFault (p : Parts) (fault : FenFault) : Type 0 where
  pub of : PosFault
  pub named : fault ≡ fault_of of
  pub first : listed.IsFirstFault of p.men (listed.setup_of p.men p.side p.target)

-- the first fault of a text: from the left the first field that says nothing, else the first of its setup
abbrev pub IsFirstFault : List ℕ → FenFault → Type 0
IsFirstFault text fault = MatchResult (parts_of text) (λ parts. IsSetupFault parts fault) (λ first. fault ≡ first)
