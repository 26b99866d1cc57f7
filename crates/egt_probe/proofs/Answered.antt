-- Lines answered one after the other.
use Rattle.std.proofs.Common.{◌≡◌, ◌≢◌, ℕ, ◌+◌, List, [], ◌∷◌, ◌++◌, length, take, Option, Some, None, refl, sym, ap}
use Rattle.std.proofs.Common.{◌∙◌, subst, append_assoc, append-nil, arith}
use Rattle.egt_probe.specs.Prelude.{Appends-nil, Appends-trans, Consumes-trans, take_all, take-append-add, Appends}
use Rattle.egt_probe.specs.Prelude.{Consumes, IsAtEnd, AppendsFront, AnswerFault, OpenLine, Reports, Wrote, WroteFront}
use Rattle.egt_probe.specs.Prelude.{WroteBy, Stopped, AreLinesOf, AnsweredAll, AnsweredSome, Holds, Advanced, StoppedIn}
use Rattle.egt_probe.specs.Prelude.{lines_of, with_front, Loaded, Report}
use Rattle.egt_probe.specs.declared.fault.AnswerFault.TheVariants.{Device, NoMemory}
use Rattle.egt_probe.proofs.LinesRead.{front_last, fed, grown}

module _ (loaded : Loaded) where
  reports_more : (lines others : List (List ℕ)) (text more : List ℕ) → Reports loaded lines text → Reports loaded others more → Reports loaded (lines ++ others) (text ++ more)
  reports_more [] others text more e second = subst (λ (t : List ℕ). Reports loaded others (t ++ more)) (sym e) second
  reports_more (line ∷ lines) others text more first second =
      (first.0, first.1 ++ more, first.2, reports_more lines others first.1 more first.3 second, ap (λ (t : List ℕ). t ++ more) first.4 ∙ append_assoc first.0 (10 ∷ first.1) more)

  pub wrote_none : (old : Option (List ℕ)) → Wrote loaded [] old old
  wrote_none old = record { text = []; reports = refl; written = Appends-nil old }

  -- the report of one line
  pub wrote_one : (line report text : List ℕ) (old new : Option (List ℕ)) → Report loaded line report → text ≡ report ++ 10 ∷ [] → Appends old new text → Wrote loaded (line ∷ []) old new
  wrote_one line report text old new told e written = record { text = text; reports = (report, [], told, refl, e); written = written }

  pub wrote_more : (lines others : List (List ℕ)) (old mid new : Option (List ℕ)) → Wrote loaded lines old mid → Wrote loaded others mid new → Wrote loaded (lines ++ others) old new
  wrote_more lines others old mid new first second = record {
    text = first.text ++ second.text;
    reports = reports_more lines others first.text second.text first.reports second.reports;
    written = Appends-trans old mid new first.text second.text first.written second.written;
  }

  front_more : (lines others : List (List ℕ)) (old mid new : Option (List ℕ)) → Wrote loaded lines old mid → WroteFront loaded others mid new → WroteFront loaded (lines ++ others) old new
  front_more lines others old mid new first second = record {
    text = first.text ++ second.text;
    reports = reports_more lines others first.text second.text first.reports second.reports;
    written = (
      length first.text + second.written.0,
      subst (λ (t : List ℕ). Appends old new t) (sym (take-append-add first.text second.text second.written.0)) (Appends-trans old mid new first.text (take second.written.0 second.text) first.written second.written.1),
    );
  }

  by_more : (fault : AnswerFault) (lines others : List (List ℕ)) (old mid new : Option (List ℕ)) → Wrote loaded lines old mid → WroteBy fault loaded others mid new → WroteBy fault loaded (lines ++ others) old new
  by_more NoMemory lines others old mid new first second = wrote_more lines others old mid new first second
  by_more Device lines others old mid new first second = front_more lines others old mid new first second

  -- a fault behind lines that were answered
  pub stopped_behind : (fault : AnswerFault) (lines others : List (List ℕ)) (old mid new : Option (List ℕ)) → Wrote loaded lines old mid → Stopped loaded fault others mid new → Stopped loaded fault (lines ++ others) old new
  stopped_behind fault lines others old mid new first second = record {
    answered = lines ++ second.answered;
    rest = second.rest;
    split = ap (λ (l : List (List ℕ)). lines ++ l) second.split ∙ sym (append_assoc lines second.answered second.rest);
    wrote = by_more fault lines second.answered old mid new first second.wrote;
  }

  -- a fault before lines that were not
  pub stopped_before : (fault : AnswerFault) (lines others : List (List ℕ)) (old new : Option (List ℕ)) → Stopped loaded fault lines old new → Stopped loaded fault (lines ++ others) old new
  stopped_before fault lines others old new stopped = record {
    answered = stopped.answered;
    rest = stopped.rest ++ others;
    split = ap (λ (l : List (List ℕ)). l ++ others) stopped.split ∙ append_assoc stopped.answered stopped.rest others;
    wrote = stopped.wrote;
  }

  -- and in the midst of one
  pub stopped_within : (line report text : List ℕ) (old new : Option (List ℕ)) → Report loaded line report → text ≡ report ++ 10 ∷ [] → AppendsFront old new text → Stopped loaded Device (line ∷ []) old new
  stopped_within line report text old new told e written = record {
    answered = line ∷ [];
    rest = [];
    split = refl;
    wrote = record { text = text; reports = (report, [], told, refl, e); written = written };
  }

  -- no byte yet
  pub advanced_none : (line : List ℕ) (kept : OpenLine) (old : Option (List ℕ)) → Holds kept line → Advanced loaded line [] kept old old
  advanced_none line kept old holds = record { ended = []; next = line; holds = holds; split = λ more. refl; wrote = wrote_none old }

  -- one byte that goes on with the line
  pub advanced_on : (line : List ℕ) (x : ℕ) (kept : OpenLine) (old : Option (List ℕ)) → x ≢ 10 → Holds kept (line ++ x ∷ []) → Advanced loaded line (x ∷ []) kept old old
  advanced_on line x kept old other holds = record { ended = []; next = line ++ x ∷ []; holds = holds; split = λ more. grown line x more other; wrote = wrote_none old }

  -- a line feed
  pub advanced_fed : (line : List ℕ) (x : ℕ) (kept : OpenLine) (old new : Option (List ℕ)) → x ≡ 10 → Holds kept [] → Wrote loaded (line ∷ []) old new → Advanced loaded line (x ∷ []) kept old new
  advanced_fed line x kept old new feed holds wrote = record { ended = line ∷ []; next = []; holds = holds; split = λ more. fed line x more feed; wrote = wrote }

  pub stopped_fed : (fault : AnswerFault) (line : List ℕ) (x : ℕ) (old new : Option (List ℕ)) → x ≡ 10 → Stopped loaded fault (line ∷ []) old new → StoppedIn loaded fault line (x ∷ []) old new
  stopped_fed fault line x old new feed stopped more = subst (λ (l : List (List ℕ)). Stopped loaded fault l old new) (sym (fed line x more feed)) (stopped_before fault (line ∷ []) (lines_of more) old new stopped)

  -- a piece behind a piece
  pub advanced_more : (line piece behind both : List ℕ) (kept longer : OpenLine) (old mid new : Option (List ℕ)) → (first : Advanced loaded line piece kept old mid) → Advanced loaded first.next behind longer mid new → both ≡ piece ++ behind
      → Advanced loaded line both longer old new
  advanced_more line piece behind both kept longer old mid new first second e = record {
    ended = first.ended ++ second.ended;
    next = second.next;
    holds = second.holds;
    split = λ more. ap (λ (b : List ℕ). with_front line (lines_of (b ++ more))) e ∙ ap (λ (t : List ℕ). with_front line (lines_of t)) (append_assoc piece behind more) ∙ first.split (behind ++ more)
        ∙ ap (λ (l : List (List ℕ)). first.ended ++ l) (second.split more) ∙ sym (append_assoc first.ended second.ended (with_front second.next (lines_of more)));
    wrote = wrote_more first.ended second.ended old mid new first.wrote second.wrote;
  }

  -- a fault in a piece behind a piece
  pub stopped_more : (fault : AnswerFault) (line piece behind rest both : List ℕ) (kept : OpenLine) (old mid new : Option (List ℕ)) → (first : Advanced loaded line piece kept old mid) → StoppedIn loaded fault first.next behind mid new
      → both ≡ piece ++ (behind ++ rest) → StoppedIn loaded fault line both old new
  stopped_more fault line piece behind rest both kept old mid new first second e more =
      let lines : with_front line (lines_of (both ++ more)) ≡ first.ended ++ with_front first.next (lines_of (behind ++ (rest ++ more))) =
      ap (λ (b : List ℕ). with_front line (lines_of (b ++ more))) e ∙ ap (λ (t : List ℕ). with_front line (lines_of t)) (append_assoc piece (behind ++ rest) more ∙ ap (λ (t : List ℕ). piece ++ t) (append_assoc behind rest more))
      ∙ first.split (behind ++ (rest ++ more)) in
      subst (λ (l : List (List ℕ)). Stopped loaded fault l old new) (sym lines) (stopped_behind fault first.ended (with_front first.next (lines_of (behind ++ (rest ++ more)))) old mid new first.wrote (second (rest ++ more)))

  -- the lines of known input, of which a piece was read
  pub some_answered : (fault : AnswerFault) (piece : List ℕ) (left rest old new : Option (List ℕ)) → Consumes left rest piece → StoppedIn loaded fault [] piece old new → AnsweredSome loaded fault left old new
  some_answered fault piece None rest old new consumed stopped = record { lines = lines_of (piece ++ []); of = tt; stopped = stopped [] }
  some_answered fault piece (Some input) None old new consumed stopped = absurd consumed
  some_answered fault piece (Some input) (Some more) old new consumed stopped = record {
    lines = lines_of (piece ++ more);
    of = ap lines_of (sym consumed);
    stopped = stopped more;
  }

  whole : (piece : List ℕ) (left rest : Option (List ℕ)) → Consumes left rest piece → IsAtEnd rest → AreLinesOf left (lines_of (piece ++ []))
  whole piece left rest consumed end = grind (arith, lines_of)

  -- of which all was read
  pub all_answered : (piece : List ℕ) (kept : OpenLine) (left rest old mid new : Option (List ℕ)) → (first : Advanced loaded [] piece kept old mid) → Wrote loaded (with_front first.next []) mid new → Consumes left rest piece → IsAtEnd rest
      → AnsweredAll loaded left rest old new
  all_answered piece kept left rest old mid new first last consumed end = record {
    lines = first.ended ++ with_front first.next [];
    of = subst (AreLinesOf left) (first.split []) (whole piece left rest consumed end);
    wrote = wrote_more first.ended (with_front first.next []) old mid new first.wrote last;
    end = end;
  }

  -- but for its last line
  pub last_stopped : (fault : AnswerFault) (piece : List ℕ) (kept : OpenLine) (left rest old mid new : Option (List ℕ)) → (first : Advanced loaded [] piece kept old mid) → Stopped loaded fault (with_front first.next []) mid new → Consumes left rest piece → IsAtEnd rest
      → AnsweredSome loaded fault left old new
  last_stopped fault piece kept left rest old mid new first last consumed end = record {
    lines = first.ended ++ with_front first.next [];
    of = subst (AreLinesOf left) (first.split []) (whole piece left rest consumed end);
    stopped = stopped_behind fault first.ended (with_front first.next []) old mid new first.wrote last;
  }

-- the last line, where it is not empty
pub last_line : (line : List ℕ) → (line ≡ [] → ⊥) → with_front line [] ≡ line ∷ []
last_line [] other = absurd (other refl)
last_line (x ∷ xs) other = front_last x xs

-- the source failed between two pieces
pub stopped_reading : (loaded : Loaded) (piece : List ℕ) (kept : OpenLine) (old new : Option (List ℕ)) → Advanced loaded [] piece kept old new → StoppedIn loaded Device [] piece old new
stopped_reading loaded piece kept old new first more = record {
  answered = first.ended;
  rest = with_front first.next (lines_of more);
  split = first.split more;
  wrote = record {
    text = first.wrote.text;
    reports = first.wrote.reports;
    written = (length first.wrote.text, subst (λ (t : List ℕ). Appends old new t) (sym (take_all (length first.wrote.text) first.wrote.text (omega arith))) first.wrote.written);
  };
}

-- a pull of nothing takes nothing
pub nothing_more : (a b c : Option (List ℕ)) (input buffer : List ℕ) (n : ℕ) → Consumes a b input → Consumes b c (take n buffer) → n ≡ 0 → Consumes a c input
nothing_more a b c input buffer n first second e =
    subst (λ (t : List ℕ). Consumes a c t) (ap (λ (k : ℕ). input ++ take k buffer) e ∙ append-nil input) (Consumes-trans a b c input (take n buffer) first second)
