-- The men of a class on their squares in a position, and after a turn.
use Rattle.std.specs.Prelude.{◌≡◌, ◌≢◌, ℕ, ◌<◌, ◌≤◌, ◌⊎◌, Bool, List, [], ◌∷◌, ◌++◌, map, Option, Some, None, IfSome}
use Rattle.std.specs.Option.{option_to_list}
use Rattle.std.specs.Int.{abs_diff}
use Rattle.egt_board.specs.Prelude.{option_map, is_some, king_of, MayStand, Placement, Stands, IsSettled, Setup}
use Rattle.egt_board.specs.Prelude.{IsAdmissible, file_of, rank_of, turned_square, turned_man}
use Rattle.egt_class.specs.Prelude.{material_of, IsOf}
use Rattle.egt_board.specs.declared.man.Side.{Side}
use Rattle.egt_board.specs.declared.man.Side.TheVariants.{White, Black}
use Rattle.egt_board.specs.declared.man.Man.{Man}
use Rattle.egt_class.specs.Size.{men_in_order}
use Rattle.egt_index.specs.declared.stand.Stand.{Stand}
use Rattle.std.specs.FinMap as placement

-- a man of the class and its square, if there is one
abbrev pub Entry : Type 0
Entry = Option (Man × ℕ)

abbrev pub men_among : List (Man × ℕ) → List Man
men_among list = map (λ e. e.0) list

-- the men beside the white king
abbrev pub rest_of : Stand → List (Man × ℕ)
rest_of s = (king_of Black, s.black) ∷ (option_to_list s.first ++ option_to_list s.last)

abbrev pub list_of : Stand → List (Man × ℕ)
list_of s = (king_of White, s.white) ∷ rest_of s

abbrev pub before_last : Stand → List (Man × ℕ)
before_last s = (king_of White, s.white) ∷ (king_of Black, s.black) ∷ option_to_list s.first

abbrev pub with_last : Stand → Entry → Stand
with_last s last = record { white = s.white; black = s.black; first = s.first; last = last }

-- the last man of the name is not there alone
abbrev pub IsFilled : Stand → Type 0
IsFilled s = s.first ≡ None → s.last ≡ None

-- none of these stands on the square
abbrev pub IsOff : List (Man × ℕ) → ℕ → Type 0
IsOff [] q = Unit {0}
IsOff (e ∷ list) q = (e.1 ≢ q) × IsOff list q

-- no two of these stand on one square
abbrev pub AllApart : List (Man × ℕ) → Type 0
AllApart [] = Unit {0}
AllApart (e ∷ list) = IsOff list e.1 × AllApart list

-- neither the files of the squares nor their ranks are further apart than one
pub record AreNear (one other : ℕ) : Type 0 where
  pub files : abs_diff (file_of one) (file_of other) ≤ 1
  pub ranks : abs_diff (rank_of one) (rank_of other) ≤ 1

-- all of these stand on their squares, in colours exchanged where `flips`, each on a square of its own
abbrev pub AllStand : Bool → Placement → List (Man × ℕ) → Type 0
AllStand flips men [] = Unit {0}
AllStand flips men (e ∷ list) = (e.1 < 64) × Stands men e.1 (turned_man flips e.0) × IsOff list e.1 × AllStand flips men list

-- the list is of the men of the class, as they stand
pub record Stood (c : ℕ) (flips : Bool) (men : Placement) (list : List (Man × ℕ)) : Type 0 where
  pub are : men_among list ≡ men_in_order (material_of c)
  pub all : AllStand flips men list

-- the man, if there is one, stands on the square
abbrev pub IsOn : Entry → ℕ → Type 0
IsOn entry s = IfSome entry (λ e. e.1 ≡ s)

-- the entry is of this man
abbrev pub Holds : Entry → Man → Type 0
Holds None man = ⊥
Holds (Some e) man = e.0 ≡ man

-- the man, if there is one, is one of these two
abbrev pub IsAmong : Option Man → Entry → Entry → Type 0
IsAmong None one other = Unit {0}
IsAmong (Some man) one other = Holds one man ⊎ Holds other man

-- the man of the class, if there is one, is this one
abbrev pub IsFirst : Option Man → Bool → Entry → Type 0
IsFirst first flips one = IfSome first (λ man. Holds one (turned_man flips man))

-- the two men, of which this one is the first, if there is one
abbrev pub IsInNameOrder : Option Man → Bool → Entry → Entry → Entry → Entry → Type 0
IsInNameOrder first flips one other next last =
    (IsFirst first flips one × (next ≡ one) × (last ≡ other)) ⊎ (¬ IsFirst first flips one × (next ≡ other) × (last ≡ one))

-- p is settled and of the class, in colours exchanged where `flips`, with these men on their squares, this side to move
-- and a target where one was passed
pub record HasStand (c : ℕ) (flips : Bool) (stand : Stand) (side : Side) (targeted : Bool) (p : Setup) : Type 0 where
  pub admissible : IsAdmissible p
  pub settled : IsSettled p
  pub is_of : IsOf c flips p
  pub stood : Stood c flips p.men (list_of stand)
  pub side_is : p.side ≡ side
  pub target_is : is_some p.target ≡ targeted

-- the man of the one entry on the square of the other, if there are both
abbrev pub on_square_of : Entry → Entry → Entry
on_square_of None other = None
on_square_of (Some e) None = Some e
on_square_of (Some e) (Some d) = Some (e.0, d.1)

-- where a turn takes a man
abbrev pub entry_after : ℕ → Bool → Entry → Entry
entry_after n flips entry = option_map (λ e. (e.0, turned_square n flips e.1)) entry

-- two equal men
abbrev pub AreEqual : Entry → Entry → Type 0
AreEqual None y = ⊥
AreEqual (Some x) None = ⊥
AreEqual (Some x) (Some y) = x.0 ≡ y.0

-- of two equal men the first stands on the lesser square
abbrev pub IsInOrder : Entry → Entry → Type 0
IsInOrder None y = Unit {0}
IsInOrder (Some x) None = Unit {0}
IsInOrder (Some x) (Some y) = x.0 ≡ y.0 → x.1 ≤ y.1

-- equal men, in order once they are exchanged
pub record AreExchanged (x y : Entry) : Type 0 where
  pub equal : men_among (option_to_list x) ≡ men_among (option_to_list y)
  pub in_order : IsInOrder y x

-- the two as they were, or equal men exchanged
abbrev pub IsOrdered : Entry → Entry → Entry → Entry → Type 0
IsOrdered x y first second =
    ((first ≡ x) × (second ≡ y)) ⊎ ((first ≡ y) × (second ≡ x) × (men_among (option_to_list x) ≡ men_among (option_to_list y)))

-- the men where the turn takes them
pub record IsStandAfter (n : ℕ) (flips : Bool) (before after : Stand) : Type 0 where
  pub white : after.white ≡ turned_square n flips before.white
  pub black : after.black ≡ turned_square n flips before.black
  pub both : IsOrdered (entry_after n flips before.first) (entry_after n flips before.last) after.first after.last
  pub in_order : IsInOrder after.first after.last

-- the men where the turn takes them, in the order in which they were
pub record IsTurned (n : ℕ) (flips : Bool) (before after : Stand) : Type 0 where
  pub white : after.white ≡ turned_square n flips before.white
  pub black : after.black ≡ turned_square n flips before.black
  pub first : after.first ≡ entry_after n flips before.first
  pub last : after.last ≡ entry_after n flips before.last

-- the man has a digit on its square
abbrev pub HasDigit : Entry → Type 0
HasDigit entry = IfSome entry (λ e. (e.0 ≢ king_of White) × MayStand e.0 e.1)

-- the placement with one man more, if there is one
abbrev pub with_entry : Placement → Entry → Placement
with_entry men None = men
with_entry men (Some e) = placement.insert men e.1 e.0
