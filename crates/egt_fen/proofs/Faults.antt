-- A text has one first fault at most, and none where it spells a position.
use Rattle.std.proofs.Common.{◌≡◌, ℕ, List, subst, arith}
use Rattle.egt_fen.specs.Prelude.{MatchResult, PosFault, Man, Setup, IsAdmissible, FenFault, Fen, fault_of, parts_of}
use Rattle.egt_fen.specs.Prelude.{Spells, IsSetupFault, IsFirstFault}
use Rattle.egt_fen.proofs.Spelling.{parts_with, spelled_read, spelled_admits}
use Rattle.egt_board.specs.Listed as listed

one_setup_fault : (list : List (Man × ℕ)) (p : Setup) (a b : PosFault) → listed.IsFirstFault a list p → listed.IsFirstFault b list p → a ≡ b
one_setup_fault list p a b x y = grind arith

pub one_fault : (text : List ℕ) (one other : FenFault) → IsFirstFault text one → IsFirstFault text other → one ≡ other
one_fault text one other x y = grind (arith, parts_of, fault_of, one_setup_fault)

admissible_fault : (list : List (Man × ℕ)) (p : Setup) (fault : PosFault) → listed.FitsBoard list → IsAdmissible p → listed.IsFirstFault fault list p → ⊥
admissible_fault list p h2 fits admissible x = grind arith

pub spelled_faultless : (text : List ℕ) (fen : Fen) (fault : FenFault) → Spells text fen → IsFirstFault text fault → ⊥
spelled_faultless text fen fault s x =
    let p = parts_with s.men fen in
    let admits = spelled_admits text fen p s (spelled_read text fen s) in
    let setup : IsSetupFault p fault = subst (λ r. MatchResult r (λ parts. IsSetupFault parts fault) (λ first. fault ≡ first)) (spelled_read text fen s) x in
    admissible_fault p.men (listed.setup_of p.men p.side p.target) setup.of admits.fits admits.admissible setup.first
