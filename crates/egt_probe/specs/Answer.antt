-- The answer to a text, line by line.
use Rattle.std.specs.Prelude.{◌≡◌, ℕ, ◌<◌, ◌≤◌, ◌⊎◌, List, [], ◌∷◌, ◌++◌, length, Option, Result, Ok, Err, MatchBool, IfSome}
use Rattle.std.specs.Io.KnownBytes.{Appends, IsAtEnd}
use Rattle.egt_table.specs.Stream.{AppendsFront, risen}
use Rattle.egt_probe.specs.declared.fault.AnswerFault.{AnswerFault}
use Rattle.egt_probe.specs.declared.fault.AnswerFault.TheVariants.{Device, NoMemory}
use Rattle.egt_probe.specs.declared.open_line.OpenLine.{OpenLine}
use Rattle.egt_probe.specs.Lines.{lines_of, with_front}
use Rattle.egt_probe.specs.Loaded.{Loaded}
use Rattle.egt_probe.specs.Report.{Report, most}

-- the text is the report of each line in order, each followed by a line feed
abbrev pub Reports : Loaded → List (List ℕ) → List ℕ → Type 0
Reports loaded [] text = text ≡ []
Reports loaded (line ∷ lines) text = (report : List ℕ) × (rest : List ℕ) × Report loaded line report × Reports loaded lines rest × (text ≡ report ++ 10 ∷ rest)

-- the reports of these lines were added, whole
pub record Wrote (loaded : Loaded) (lines : List (List ℕ)) (old new : Option (List ℕ)) : Type 0 where
  pub text : List ℕ
  pub reports : Reports loaded lines text
  pub written : Appends old new text

-- a beginning of the reports of these lines was added
pub record WroteFront (loaded : Loaded) (lines : List (List ℕ)) (old new : Option (List ℕ)) : Type 0 where
  pub text : List ℕ
  pub reports : Reports loaded lines text
  pub written : AppendsFront old new text

-- for want of memory the reports are whole; where the device failed, they are a beginning
abbrev pub WroteBy : AnswerFault → Loaded → List (List ℕ) → Option (List ℕ) → Option (List ℕ) → Type 0
WroteBy NoMemory loaded lines old new = Wrote loaded lines old new
WroteBy Device loaded lines old new = WroteFront loaded lines old new

-- a fault kept these lines from being answered: so were those of a beginning of them
pub record Stopped (loaded : Loaded) (fault : AnswerFault) (lines : List (List ℕ)) (old new : Option (List ℕ)) : Type 0 where
  pub answered : List (List ℕ)
  pub rest : List (List ℕ)
  pub split : lines ≡ answered ++ rest
  pub wrote : WroteBy fault loaded answered old new

-- these are the lines of the input, where its bytes are known
abbrev pub AreLinesOf : Option (List ℕ) → List (List ℕ) → Type 0
AreLinesOf left lines = IfSome left (λ input. lines ≡ lines_of input)

-- all of the input was read, and each of its lines was answered
pub record AnsweredAll (loaded : Loaded) (left rest old new : Option (List ℕ)) : Type 0 where
  pub lines : List (List ℕ)
  pub of : AreLinesOf left lines
  pub wrote : Wrote loaded lines old new
  pub end : IsAtEnd rest

-- a fault kept the lines of the input from being answered
pub record AnsweredSome (loaded : Loaded) (fault : AnswerFault) (left old new : Option (List ℕ)) : Type 0 where
  pub lines : List (List ℕ)
  pub of : AreLinesOf left lines
  pub stopped : Stopped loaded fault lines old new

-- `Device` comes with a failure of the sink that is counted, and no other answer does
abbrev pub CountsSink : Result (Unit {0}) AnswerFault → ℕ → ℕ → Type 0
CountsSink (Ok _) old new = new ≡ old
CountsSink (Err NoMemory) old new = new ≡ old
CountsSink (Err Device) old new = new ≡ risen old

-- with a failure of the source or of the sink
abbrev pub CountsEither : Result (Unit {0}) AnswerFault → ℕ → ℕ → ℕ → ℕ → Type 0
CountsEither (Ok _) old new sink_old sink_new = (new ≡ old) × (sink_new ≡ sink_old)
CountsEither (Err NoMemory) old new sink_old sink_new = (new ≡ old) × (sink_new ≡ sink_old)
CountsEither (Err Device) old new sink_old sink_new = ((new ≡ risen old) × (sink_new ≡ sink_old)) ⊎ ((new ≡ old) × (sink_new ≡ risen sink_old))

-- the line as far as it was read, or that it is long
abbrev pub Holds : OpenLine → List ℕ → Type 0
Holds kept line = MatchBool kept.is_long (most < length line) ((kept.bytes.items ≡ line) × (length line ≤ most))

-- the piece ended these lines, which were answered, and began the next one, which is kept
pub record Advanced (loaded : Loaded) (line piece : List ℕ) (kept : OpenLine) (old new : Option (List ℕ)) : Type 0 where
  pub ended : List (List ℕ)
  pub next : List ℕ
  pub holds : Holds kept next
  pub split : (more : List ℕ) → with_front line (lines_of (piece ++ more)) ≡ ended ++ with_front next (lines_of more)
  pub wrote : Wrote loaded ended old new

-- a fault kept the lines that the piece ends from being answered, whatever comes behind it
abbrev pub StoppedIn : Loaded → AnswerFault → List ℕ → List ℕ → Option (List ℕ) → Option (List ℕ) → Type 0
StoppedIn loaded fault line piece old new = (more : List ℕ) → Stopped loaded fault (with_front line (lines_of (piece ++ more))) old new
