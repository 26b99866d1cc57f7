-- The men beside the kings, gathered from a list.
use Rattle.std.proofs.Common.{◌≡◌, ◌≢◌, ℕ, ◌+◌, ◌<◌, ◌≤◌, List, [], ◌∷◌, map, length, Option, Some, None, IfSome}
use Rattle.std.proofs.Common.{Bool, true, false, cond, arith, add-zero, refl, sym, ap, ◌∙◌, count_by}
use Rattle.egt_class.specs.Prelude.{sum_by, length-map, sum_by-cons, false≢true, eqb_tells, Side, White, Black, Kind, Q}
use Rattle.egt_class.specs.Prelude.{R, B, N, P, K, Man, king_of, Placement, man_entry, Setup, IsAdmissible, IsKingOn}
use Rattle.egt_class.specs.Prelude.{kind_number, man_number, stands_here, count_of, is_man, AreNonKings}
use Rattle.std.specs.FinMap as placement

abbrev pub is_king : Kind → Bool
is_king Q = false
is_king R = false
is_king B = false
is_king N = false
is_king P = false
is_king K = true

-- the last two men that are no kings, the last first
abbrev pub last_two : Option Man → Option Man → List (Man × ℕ) → Option Man × Option Man
last_two first second [] = (first, second)
last_two first second (x ∷ xs) = cond (is_king x.0.kind) (last_two first second xs) (last_two (Some x.0) first xs)

-- how many of this man are listed
listed : Man → List (Man × ℕ) → ℕ
listed man xs = sum_by (λ x. stands_here man (Some x.0)) xs

other_than_king : Kind → ℕ
other_than_king kind = cond (is_king kind) 0 1

others : List (Man × ℕ) → ℕ
others xs = sum_by (λ x. other_than_king x.0.kind) xs

-- one man is a king of the one side, of the other, or none
one_of_three : (side : Side) (kind : Kind) → let man : Man = record { side = side; kind = kind } in
    other_than_king kind + stands_here (king_of White) (Some man) + stands_here (king_of Black) (Some man) ≡ 1
unfolding other_than_king
one_of_three side kind = grind arith

three_parts : (xs : List (Man × ℕ)) → others xs + listed (king_of White) xs + listed (king_of Black) xs ≡ length xs
unfolding others listed
three_parts [] = refl
three_parts (x ∷ xs) =
    let rest = three_parts xs in
    let one = one_of_three x.0.side x.0.kind in
    let a = sum_by-cons (λ (x : Man × ℕ). other_than_king x.0.kind) x xs in
    let b = sum_by-cons (λ (x : Man × ℕ). stands_here (king_of White) (Some x.0)) x xs in
    let c = sum_by-cons (λ (x : Man × ℕ). stands_here (king_of Black) (Some x.0)) x xs in
    omega arith

pub king_told : (kind : Kind) → is_king kind ≡ true → kind ≡ K
king_told kind e = grind arith

pub other_told : (kind : Kind) → is_king kind ≡ false → kind ≢ K
other_told kind e is = false≢true (sym e ∙ ap is_king is)

pub kind_few : (kind : Kind) → kind ≢ K → kind_number kind < 5
kind_few kind other = grind arith

-- a king is no other man
not_a_king : (man : Man) (side : Side) → man.kind ≢ K → stands_here man (Some (king_of side)) ≡ 0
not_a_king man side other = grind (arith, eqb_tells, man_number, king_of)

number_of : Option Man → ℕ
number_of None = 0
number_of (Some man) = 1

at_most_one : (o : Option Man) → number_of o ≤ 1
unfolding number_of
at_most_one o = grind arith

none_stands : (man : Man) (o : Option Man) → number_of o ≡ 0 → stands_here man o ≡ 0
unfolding number_of
none_stands man o e = grind arith

pub king_stands : (man : Man) (side : Side) (kind : Kind) → man.kind ≢ K → kind ≡ K → let other : Man = record { side = side; kind = kind } in stands_here man (Some other) ≡ 0
king_stands man side kind not_king is = ap (λ k. let other : Man = record { side = side; kind = k } in stands_here man (Some other)) is ∙ not_a_king man side not_king

-- both of these are beside the kings
abbrev pub AreOthers : Option Man × Option Man → Type 0
AreOthers r = IfSome r.0 (λ man. man.kind ≢ K) × IfSome r.1 (λ man. man.kind ≢ K)

pub last_two-others : (xs : List (Man × ℕ)) (first second : Option Man) → AreOthers (first, second) → AreOthers (last_two first second xs)
last_two-others [] first second ok = ok
last_two-others (x ∷ xs) first second ok = go (is_king x.0.kind) refl (last_two-others xs first second ok) (λ other. last_two-others xs (Some x.0) first (other, ok.0))
  where
    go : (b : Bool) → is_king x.0.kind ≡ b → AreOthers (last_two first second xs) → (x.0.kind ≢ K → AreOthers (last_two (Some x.0) first xs)) → AreOthers (cond b (last_two first second xs) (last_two (Some x.0) first xs))
    go b e same more = grind (arith, other_told)

-- the two men, and those that are still listed, are as many of each man as at the end
abbrev Ends : Man → Option Man → Option Man → List (Man × ℕ) → Option Man × Option Man → Type 0
Ends man first second xs r = stands_here man r.0 + stands_here man r.1 ≡ stands_here man first + stands_here man second + listed man xs

last_two-counts : (xs : List (Man × ℕ)) (first second : Option Man) (man : Man) → man.kind ≢ K → number_of second ≤ number_of first → number_of first + number_of second + others xs ≤ 2 → Ends man first second xs (last_two first second xs)
unfolding listed others number_of other_than_king
last_two-counts [] first second man not_king order room = sym (add-zero _)
last_two-counts (x ∷ xs) first second man not_king order room = go (is_king x.0.kind) refl
    (λ ok. last_two-counts xs first second man not_king order ok)
    (λ o ok. last_two-counts xs (Some x.0) first man not_king o ok)
  where
    go : (b : Bool) → is_king x.0.kind ≡ b
        → (number_of first + number_of second + others xs ≤ 2 → Ends man first second xs (last_two first second xs))
        → (number_of first ≤ number_of (Some x.0) → number_of (Some x.0) + number_of first + others xs ≤ 2 → Ends man (Some x.0) first xs (last_two (Some x.0) first xs))
        → Ends man first second (x ∷ xs) (cond b (last_two first second xs) (last_two (Some x.0) first xs))
    go true e same more =
        let kings : other_than_king x.0.kind ≡ 0 = ap (λ b. cond b 0 1) e in
        let a : others (x ∷ xs) ≡ other_than_king x.0.kind + others xs = sum_by-cons (λ (x : Man × ℕ). other_than_king x.0.kind) x xs in
        let b : listed man (x ∷ xs) ≡ stands_here man (Some x.0) + listed man xs = sum_by-cons (λ (x : Man × ℕ). stands_here man (Some x.0)) x xs in
        let none : stands_here man (Some x.0) ≡ 0 = king_stands man x.0.side x.0.kind not_king (king_told x.0.kind e) in
        let rest = same (omega arith) in
        omega arith
    go false e same more =
        let kings : other_than_king x.0.kind ≡ 1 = ap (λ b. cond b 0 1) e in
        let a : others (x ∷ xs) ≡ other_than_king x.0.kind + others xs = sum_by-cons (λ (x : Man × ℕ). other_than_king x.0.kind) x xs in
        let b : listed man (x ∷ xs) ≡ stands_here man (Some x.0) + listed man xs = sum_by-cons (λ (x : Man × ℕ). stands_here man (Some x.0)) x xs in
        let one = at_most_one first in
        let empty : number_of second ≡ 0 = omega arith in
        let none : stands_here man second ≡ 0 = none_stands man second empty in
        let rest = more (omega arith) (omega arith) in
        omega arith

-- the list of a placement has the men that are counted on it
listed-entries : (es : List (ℕ × Man)) (man : Man) → listed man (map man_entry es) ≡ count_by (is_man man) (map (λ e. e.1) es)
unfolding listed
listed-entries [] man = refl
listed-entries (e ∷ es) man =
    sum_by-cons (λ (x : Man × ℕ). stands_here man (Some x.0)) (man_entry e) (map man_entry es)
    ∙ ap (λ n. stands_here man (Some e.1) + n) (listed-entries es man)
    ∙ sym (sum_by-cons (λ other. cond (is_man man other) 1 0) e.1 (map (λ e. e.1) es))

abbrev pub Counted : Placement → Type 0
Counted men = (man : Man) → count_of men man ≡ count_by (is_man man) (placement.values men)

abbrev pub OneKing : Placement → Type 0
OneKing men = (side : Side) → count_of men (king_of side) ≡ 1

-- the men beside the kings of an admissible position
pub last_two-beside : (p : Setup) → placement.len p.men ≤ 4 → Counted p.men → OneKing p.men
    → let r = last_two None None (map man_entry (placement.entries p.men)) in AreNonKings p r.0 r.1
unfolding number_of others listed
last_two-beside p few counted one_king = record {
  kings = one_king;
  others = λ man not_king.
      let a = counted man in
      let b = listed-entries (placement.entries p.men) man in
      let c = last_two-counts xs None None man not_king (omega arith) room in omega arith;
  first_other = (last_two-others xs None None (tt, tt)).0;
  second_other = (last_two-others xs None None (tt, tt)).1;
}
  where
    xs : List (Man × ℕ)
    xs = map man_entry (placement.entries p.men)

    room : 0 + 0 + others xs ≤ 2
    room =
        let parts = three_parts xs in
        let white : listed (king_of White) xs ≡ 1 = listed-entries (placement.entries p.men) (king_of White) ∙ sym (counted (king_of White)) ∙ one_king White in
        let black : listed (king_of Black) xs ≡ 1 = listed-entries (placement.entries p.men) (king_of Black) ∙ sym (counted (king_of Black)) ∙ one_king Black in
        let long : length xs ≡ placement.len p.men = length-map (placement.entries p.men) man_entry ∙ sym (placement.len-entries p.men) in
        omega arith

-- one king a side is counted
pub one_king_each : (p : Setup) → IsAdmissible p → ((men : Placement) (side : Side) (s : ℕ) → s < 64 → IsKingOn men side s → count_of men (king_of side) ≡ 1) → OneKing p.men
one_king_each p ok counted h = grind (arith, king_of)
