-- Moves of best play, by the entries of where they lead.
use Rattle.std.proofs.Common.{◌≡◌, ℕ, suc, ◌≤◌, Option, Some, None, IfNone, IsSome, List, [], ◌∷◌, ◌++◌, refl}
use Rattle.std.proofs.Common.{sym, ap, ◌∙◌, subst, arith, append_assoc, append-nil}
use Rattle.egt_probe.specs.Prelude.{Side, White, Black, other_side, Setup, Value, SomeMove, HasValue, chess, mate_by}
use Rattle.egt_probe.specs.Prelude.{Leads, Move, IsShort, Shows, entry_of, shown_once, Facts, IsFirstTo, next_value}
use Rattle.egt_probe.specs.Prelude.{IsLine, Misses, IsFirstWith}

-- a value that a position has, of few plies, has an entry
pub short : (s w : Side) (n : ℕ) (q : Setup) → HasValue chess q (mate_by s w n) → n ≤ 32000 → IsShort (mate_by s w n)
short s w n q h le = grind arith

-- the next value of one more ply
pub next_is : (s w : Side) (n : ℕ) → next_value (mate_by s w (suc n)) ≡ Some (mate_by (other_side s) w n)
next_is s w n = grind arith

-- the side to move changes
pub turned : (p q : Setup) (m : Move) → Leads p m q → q.side ≡ other_side p.side
turned p q m leads = ap (λ (x : Setup). x.side) leads.becomes

-- in no plies to mate it is checkmate
pub at_mate : (s w : Side) (p : Setup) → HasValue chess p (mate_by s w 0) → IsLine p (mate_by s w 0) []
at_mate s w p h = grind arith

module _ (facts : Facts) where
  -- a position won or lost in n + 1 plies has a move to one in n
  pub goes_on : (s w : Side) (n : ℕ) (p : Setup) → HasValue chess p (mate_by s w (suc n)) → SomeMove chess p (λ q. HasValue chess q (mate_by (other_side s) w n))
  goes_on White White n p h = facts.win_goes_on n p h
  goes_on White Black n p h = facts.loss_goes_on n p h
  goes_on Black White n p h = facts.loss_goes_on n p h
  goes_on Black Black n p h = facts.win_goes_on n p h

  -- where all moves miss the entry of a value, none leads to it
  pub missed : (p q : Setup) (m : Move) (x : ℕ) (v : Value) → x ≡ entry_of v → Misses p x m → Leads p m q → HasValue chess q v → ⊥
  missed p q m x v e misses leads has =
      let miss = misses q leads in
      let same : miss.1.value ≡ v = facts.one_value q miss.1.value v miss.1.has has in
      miss.2 (miss.1.shows.1 ∙ ap entry_of same ∙ sym e)

  -- some move shows the value
  pub some_found : (p : Setup) (x : ℕ) (v : Value) (o : Option (Move × Setup)) → x ≡ entry_of v → SomeMove chess p (λ q. HasValue chess q v) → IfNone o ((m : Move) → Misses p x m) → IsSome o
  some_found p x v None e some none = absurd (missed p some.0 some.1.0 x v e (none some.1.0) some.1.1 some.2)
  some_found p x v (Some found) e some none = refl

  -- the first with an entry is the first to its value
  pub first_to : (p q : Setup) (m : Move) (x : ℕ) (v : Value) → Shows x v → IsFirstWith p x m q → IsFirstTo v p m q
  first_to p q m x v shows found = record {
    leads = found.leads;
    value = subst (HasValue chess q) (shown_once x found.shows.value v found.shows.shows shows) found.shows.has;
    first = λ n r lt leads has. missed p r n x v shows.1 (found.first n lt) leads has;
  }

-- a move more of the line
pub line_more : (p q : Setup) (m : Move) (w : Side) (n : ℕ) (rest : List Move) → HasValue chess p (mate_by p.side w (suc n)) → IsFirstTo (mate_by (other_side p.side) w n) p m q → IsLine q (mate_by (other_side p.side) w n) rest
    → IsLine p (mate_by p.side w (suc n)) (m ∷ rest)
line_more p q m w n rest has first line = (has, (mate_by (other_side p.side) w n, q, next_is p.side w n, first, line))

-- what is left of the line from a position is so from the next one, behind the move between them
pub line_step : (p here q : Setup) (v : Value) (m : Move) (w : Side) (left n : ℕ) (moves longer : List Move) → left ≡ suc n → HasValue chess here (mate_by here.side w left) → IsFirstTo (mate_by (other_side here.side) w n) here m q → longer ≡ moves ++ m ∷ []
    → ((rest : List Move) → IsLine here (mate_by here.side w left) rest → IsLine p v (moves ++ rest)) → (rest : List Move) → IsLine q (mate_by q.side w n) rest → IsLine p v (longer ++ rest)
line_step p here q v m w left n moves longer e has first same before rest line =
    let has_now = subst (λ (k : ℕ). HasValue chess here (mate_by here.side w k)) e has in
    let line_now = subst (λ (s : Side). IsLine q (mate_by s w n) rest) (turned here q m first.leads) line in
    let whole = before (m ∷ rest) (subst (λ (k : ℕ). IsLine here (mate_by here.side w k) (m ∷ rest)) (sym e) (line_more here q m w n rest has_now first line_now)) in
    subst (IsLine p v) (sym (ap (λ (ms : List Move). ms ++ rest) same ∙ append_assoc moves (m ∷ []) rest)) whole

-- and nothing is left at checkmate
pub line_end : (p here : Setup) (v : Value) (w : Side) (left : ℕ) (moves : List Move) → left ≡ 0 → HasValue chess here (mate_by here.side w left)
    → ((rest : List Move) → IsLine here (mate_by here.side w left) rest → IsLine p v (moves ++ rest)) → IsLine p v moves
line_end p here v w left moves e has before =
    let has_now = subst (λ (k : ℕ). HasValue chess here (mate_by here.side w k)) e has in
    let whole = before [] (subst (λ (k : ℕ). IsLine here (mate_by here.side w k) []) (sym e) (at_mate here.side w here has_now)) in
    subst (IsLine p v) (append-nil moves) whole
