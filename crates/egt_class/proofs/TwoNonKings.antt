-- The men beside the kings, counted by taking them off the board.
use Rattle.std.proofs.Common.{◌≡◌, ◌≢◌, ℕ, zero, suc, ◌+◌, ◌<◌, Bool, Option, Some, None, IfSome, arith}
use Rattle.std.proofs.Common.{refl, sym, ap, ◌∙◌, inl, inr}
use Rattle.egt_class.specs.Prelude.{option_map, K, Man, HasBeside, stands_here, count_of, Placement, Stands}
use Rattle.egt_class.specs.Prelude.{get-remove_same, get-remove_other, total, Setup, AreNonKings}
use Rattle.std.specs.FinMap as placement
use Rattle.egt_class.proofs.NonKings.{OneKing, is_king}

total_none : (f : ℕ → ℕ) (n : ℕ) → ((t : ℕ) → f t ≡ 0) → total f n ≡ 0
total_none f zero none = refl
total_none f (suc n) none = let rest = total_none f n none in let last = none n in omega arith

-- no man like him stands on the board
counted_none : (men : Placement) (man : Man) → ((t : ℕ) (other : Man) → Stands men t other → stands_here man (Some other) ≡ 0) → count_of men man ≡ 0
unfolding count_of
counted_none men man none = total_none (λ s. stands_here man (placement.get men s)) 64 (λ t. of_option (placement.get men t) (none t))
  where
    of_option : (o : Option Man) → ((other : Man) → o ≡ Some other → stands_here man (Some other) ≡ 0) → stands_here man o ≡ 0
    of_option o not = grind arith

-- what the board has when the man is taken off a square
abbrev Clears : Type 0
Clears = (men : Placement) (s : ℕ) (man : Man) → s < 64 → count_of (placement.remove men s) man + stands_here man (placement.get men s) ≡ count_of men man

taken_off : Clears → (men : Placement) (s : ℕ) (there man : Man) → s < 64 → Stands men s there → count_of (placement.remove men s) man + stands_here man (Some there) ≡ count_of men man
taken_off clears men s there man s_in stands = ap (λ o. count_of (placement.remove men s) man + stands_here man o) (sym stands) ∙ clears men s man s_in

-- who stands on the board still stood there, on another square
still : (men : Placement) (s t : ℕ) (man : Man) → Stands (placement.remove men s) t man → Stands men t man × (t ≢ s)
still men s t man stands = grind (arith, get-remove_same, get-remove_other)

-- where nobody stands but kings there is no man like one who is no king
kings_alone : (men : Placement) (man : Man) → man.kind ≢ K → ((t : ℕ) (other : Man) → Stands men t other → other.kind ≢ K → ⊥) → count_of men man ≡ 0
kings_alone men man not_king none = counted_none men man (λ t other stands. of_kind t other stands (is_king other.kind) refl)
  where
    of_kind : (t : ℕ) (other : Man) → Stands men t other → (b : Bool) → is_king other.kind ≡ b → stands_here man (Some other) ≡ 0
    of_kind t other stands test e = grind arith

square_in : Option (Man × ℕ) → ℕ
square_in None = 0
square_in (Some e) = e.1

man_in : Option (Man × ℕ) → Option Man
man_in o = option_map (λ e. e.0) o

nobody : {e : Man × ℕ} → None ≡ Some e → ⊥
nobody is = cc

abbrev OnBoard : Placement → Type 0
OnBoard men = (s : ℕ) (man : Man) → Stands men s man → s < 64

counted : Clears → (men : Placement) (first second : Option (Man × ℕ)) → OnBoard men → HasBeside men first second → (man : Man) → man.kind ≢ K
    → count_of men man ≡ stands_here man (man_in first) + stands_here man (man_in second)
unfolding man_in square_in
counted clears men None None on_board are man not_king =
    let none = kings_alone men man not_king (λ t other stands not. elim (are.all t other stands not) [ inl e ↦ nobody e | inr e ↦ nobody e ]) in omega arith
counted clears men None (Some (b, t)) on_board are man not_king =
    let one = taken_off clears men t b man (on_board t b are.other.0) are.other.0 in
    let none = kings_alone (placement.remove men t) man not_king (λ u other stands not.
    let there = still men t u other stands in
    elim (are.all u other there.0 not) [ inl e ↦ nobody e | inr e ↦ there.1 (sym (ap square_in e)) ]) in omega arith
counted clears men (Some (a, s)) None on_board are man not_king =
    let one = taken_off clears men s a man (on_board s a are.one.0) are.one.0 in
    let none = kings_alone (placement.remove men s) man not_king (λ u other stands not.
    let there = still men s u other stands in
    elim (are.all u other there.0 not) [ inl e ↦ there.1 (sym (ap square_in e)) | inr e ↦ nobody e ]) in omega arith
counted clears men (Some (a, s)) (Some (b, t)) on_board are man not_king =
    let apart : t ≢ s = λ e. are.apart (sym e) in
    let one = taken_off clears men s a man (on_board s a are.one.0) are.one.0 in
    let there = get-remove_other men s t apart ∙ are.other.0 in
    let two = taken_off clears (placement.remove men s) t b man (on_board t b are.other.0) there in
    let none = kings_alone (placement.remove (placement.remove men s) t) man not_king (λ u other stands not.
    let later = still (placement.remove men s) t u other stands in
    let first = still men s u other later.0 in
    elim (are.all u other first.0 not) [
      | inl e ↦ first.1 (sym (ap square_in e))
      | inr e ↦ later.1 (sym (ap square_in e))
    ]) in omega arith

no_king : (men : Placement) (o : Option (Man × ℕ)) → IfSome o (λ e. Stands men e.1 e.0 × (e.0.kind ≢ K)) → IfSome (man_in o) (λ man. man.kind ≢ K)
unfolding man_in
no_king men o there = grind arith

-- the men beside the kings of an admissible position
pub are_beside : Clears → (p : Setup) (first second : Option (Man × ℕ)) → OnBoard p.men → OneKing p.men → HasBeside p.men first second → AreNonKings p (option_map (λ e. e.0) first) (option_map (λ e. e.0) second)
unfolding man_in
are_beside clears p first second on_board kings are = record {
  kings = kings;
  others = λ man not_king. counted clears p.men first second on_board are man not_king;
  first_other = no_king p.men first are.one;
  second_other = no_king p.men second are.other;
}
