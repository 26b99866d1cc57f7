-- The number of the digits of men on their squares.
use Rattle.std.proofs.Common.{◌≡◌, ◌≢◌, ℕ, ◌+◌, ◌-◌, ◌*◌, ◌/◌, ◌<◌, ◌≤◌, Bool, [], ◌++◌, Some, None, IfSome, arith}
use Rattle.std.proofs.Common.{refl, sym, ap, ◌∙◌, subst}
use Rattle.egt_index.specs.Prelude.{map-append, option_to_list, Kind, P, K, Man, Side, White, Black, king_of}
use Rattle.egt_index.specs.Prelude.{side_number, kind_number, MayStand, square_by_digit, kind_digits, kind_less}
use Rattle.egt_index.specs.Prelude.{base_by, Splits, Tells, Entry, HasDigit, men_among, rest_of, Stand}
use Rattle.egt_index.proofs.DigitsTaken.{all_told, tells_one}

-- the digit of a square
record Digit (pawns : Bool) (side : Side) (kind : Kind) (s : ℕ) : Type 0 where
  below : s - kind_less kind < base_by pawns side kind
  is : square_by_digit pawns side kind (s - kind_less kind) ≡ s
  base : kind_digits kind ≡ base_by pawns side kind

digit_at : (pawns : Bool) (side : Side) (kind : Kind) (s : ℕ) → (side ≡ White → kind ≡ K → ⊥) → (kind ≡ P → (1 ≤ s / 8) × (s / 8 < 7)) → s < 64 → Digit pawns side kind s
digit_at pawns side kind s not may s_in = grind arith

splits_by : (man : Man) (n s : ℕ) → man ≢ king_of White → MayStand man s → s < 64 → Splits (n * kind_digits man.kind + (s - kind_less man.kind)) man n s
splits_by man n s other may s_in = record {
  digit = s - kind_less man.kind;
  below = λ pawns. (digit pawns).below;
  is = λ pawns. (digit pawns).is;
  number_is = λ pawns. ap (λ b. n * b + (s - kind_less man.kind)) (digit pawns).base;
}
  where
    of : Side → Kind → Man
    of side kind = record { side = side; kind = kind }

    digit : (pawns : Bool) → Digit pawns man.side man.kind s
    digit pawns = digit_at pawns man.side man.kind s (λ white king. other (ap (λ z. of z man.kind) white ∙ ap (of White) king)) may s_in

-- the number with the man's digit behind it
abbrev pub entry_number : Entry → ℕ → ℕ
entry_number None n = n
entry_number (Some e) n = n * kind_digits e.0.kind + (e.1 - kind_less e.0.kind)

tells_entry : (pawns : Bool) (entry : Entry) (n : ℕ) → HasDigit entry → IfSome entry (λ e. e.1 < 64) → Tells pawns (entry_number entry n) (men_among (option_to_list entry)) n (option_to_list entry)
tells_entry pawns None n has on = record { digits = []; are = tt; list_is = refl; number_is = refl }
tells_entry pawns (Some e) n has on = tells_one pawns (n * kind_digits e.0.kind + (e.1 - kind_less e.0.kind)) e.0 n e.1 (splits_by e.0 n e.1 has.0 has.1 on)

abbrev pub number_on : ℕ → Stand → ℕ
number_on high s = entry_number s.last (entry_number s.first (high * 64 + s.black))

king_other : king_of Black ≢ king_of White
king_other e = let sides = ap (λ m. side_number m.side) e in omega arith

king_stands : (s : ℕ) → MayStand (king_of Black) s
king_stands s e = absurd (let kinds = ap kind_number e in omega arith)

no_less : (s : ℕ) → s - 0 ≡ s
no_less s = omega arith

pub number_told : (pawns : Bool) (high : ℕ) (s : Stand) → HasDigit s.first → HasDigit s.last → s.black < 64 → IfSome s.first (λ e. e.1 < 64) → IfSome s.last (λ e. e.1 < 64)
    → Tells pawns (number_on high s) (men_among (rest_of s)) high (rest_of s)
number_told pawns high s next last black next_in last_in =
    all_told pawns (number_on high s) (high * 64 + s.black) (entry_number s.first (high * 64 + s.black)) high s.black (men_among (option_to_list s.first ++ option_to_list s.last))
    (men_among (option_to_list s.first)) (men_among (option_to_list s.last)) (option_to_list s.first) (option_to_list s.last)
    (sym (map-append (λ e. e.0) (option_to_list s.first) (option_to_list s.last)))
    (tells_entry pawns s.last (entry_number s.first (high * 64 + s.black)) last last_in)
    (tells_entry pawns s.first (high * 64 + s.black) next next_in)
    (subst (λ k. Splits (high * 64 + k) (king_of Black) high s.black) (no_less s.black) (splits_by (king_of Black) high s.black king_other (king_stands s.black) black))
