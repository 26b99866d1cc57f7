-- The kings and two men beside them on their squares.
use Rattle.std.proofs.Common.{arith, ◌≡◌, ◌≢◌, ℕ, ◌⊎◌, Bool, true, false, List, [], ◌∷◌, map, Option, Some, sym, ap}
use Rattle.std.proofs.Common.{◌∙◌, subst, inl, inr}
use Rattle.egt_steps.specs.Prelude.{is_some, option_map, cases_eq, HasBeside, king_of, Placement, Stands, IsFree}
use Rattle.egt_steps.specs.Prelude.{one_man, same_men, IsSettled, Setup, IsAdmissible, turned_man, K, Man, Side, White}
use Rattle.egt_steps.specs.Prelude.{Black, AreNonKings, AreCounted, AllStand, HasStand, IsOff, list_of, men_among}
use Rattle.egt_steps.specs.Prelude.{ShelfMen, all_there, free_of, counted_turned, turned_back, IsClassAfter}
use Rattle.egt_steps.specs.Prelude.{IsClassOfTwo, stand_after, stand_in, stand_two}
use Rattle.std.specs.FinMap as placement

-- the men beside the kings are counted, by the law of egt_class
abbrev pub Counting : Type 0
Counting = (p : Setup) (one other : Option (Man × ℕ)) → IsAdmissible p → HasBeside p.men one other → AreNonKings p (option_map (λ e. e.0) one) (option_map (λ e. e.0) other)

-- they stand there, and no others
pub record AreTwo (men : Placement) (white black : ℕ) (one : Man) (a : ℕ) (other : Man) (b : ℕ) : Type 0 where
  pub white_there : Stands men white (king_of White)
  pub black_there : Stands men black (king_of Black)
  pub one_there : Stands men a one
  pub other_there : Stands men b other
  pub kings_apart : black ≢ white
  pub one_white : a ≢ white
  pub one_black : a ≢ black
  pub other_white : b ≢ white
  pub other_black : b ≢ black
  pub apart : b ≢ a
  pub free : (s : ℕ) → s ≢ white → s ≢ black → s ≢ a → s ≢ b → IsFree men s

-- in the other order they are the same
pub exchanged : (men : Placement) (white black : ℕ) (one : Man) (a : ℕ) (other : Man) (b : ℕ) → AreTwo men white black one a other b → AreTwo men white black other b one a
exchanged men white black one a other b are = grind arith

-- whoever stands on the board is one of them
pub who : (men : Placement) (white black : ℕ) (one : Man) (a : ℕ) (other : Man) (b : ℕ) → AreTwo men white black one a other b → (s : ℕ) (man : Man) → Stands men s man
    → ((s ≡ white) × (man ≡ king_of White)) ⊎ ((s ≡ black) × (man ≡ king_of Black)) ⊎ ((s ≡ a) × (man ≡ one)) ⊎ ((s ≡ b) × (man ≡ other))
who men white black one a other b are s man stands = grind (arith, cases_eq, one_man)

-- two men and the kings stand in one placement alone
pub one_two : (m n : Placement) (white black : ℕ) (one : Man) (a : ℕ) (other : Man) (b : ℕ) → AreTwo m white black one a other b → AreTwo n white black one a other b → m ≡ n
one_two m n white black one a other b here there = same_men m n (λ s. elim (cases_eq s white) [
  | inl is ↦ ap (placement.get m) is ∙ here.white_there ∙ sym (ap (placement.get n) is ∙ there.white_there)
  | inr off_white ↦ elim (cases_eq s black) [
    | inl is ↦ ap (placement.get m) is ∙ here.black_there ∙ sym (ap (placement.get n) is ∙ there.black_there)
    | inr off_black ↦ elim (cases_eq s a) [
      | inl is ↦ ap (placement.get m) is ∙ here.one_there ∙ sym (ap (placement.get n) is ∙ there.one_there)
      | inr off_one ↦ elim (cases_eq s b) [
        | inl is ↦ ap (placement.get m) is ∙ here.other_there ∙ sym (ap (placement.get n) is ∙ there.other_there)
        | inr off_other ↦ here.free s off_white off_black off_one off_other ∙ sym (there.free s off_white off_black off_one off_other)
      ]
    ]
  ]
])

-- no man stands off their squares in a position of a class of four
free_two : (d : ℕ) (flips : Bool) (men : ShelfMen) (one : Man) (a : ℕ) (other : Man) (b : ℕ) (side : Side) (targeted : Bool) (q : Setup) → HasStand d flips (stand_two flips men (one, a) (other, b)) side targeted q → (s : ℕ)
    → IsOff (list_of (stand_two flips men (one, a) (other, b))) s → IsFree q.men s
free_two d flips men one a other b side targeted q has s off = subst (λ (m : Placement). IsFree m s) (sym (all_there q.men there has.admissible.on_board counted has.stood.all).0) (free_of there s off)
  where
    there : List (Man × ℕ)
    there =
        (turned_man flips (king_of White), (stand_two flips men (one, a) (other, b)).white)
        ∷ (turned_man flips (king_of Black), (stand_two flips men (one, a) (other, b)).black)
        ∷ (turned_man flips (turned_man flips one), a)
        ∷ (turned_man flips (turned_man flips other), b)
        ∷ []

    counted : AreCounted q.men (men_among there)
    counted = subst (λ (l : List Man). AreCounted q.men (map (turned_man flips) l)) (sym has.stood.are) (counted_turned d flips q has.is_of)

-- such a position has these men
pub are_two : (d : ℕ) (flips : Bool) (men : ShelfMen) (one : Man) (a : ℕ) (other : Man) (b : ℕ) (side : Side) (targeted : Bool) (q : Setup) → HasStand d flips (stand_two flips men (one, a) (other, b)) side targeted q
    → AreTwo q.men men.white men.black one a other b
are_two d false men one a other b side targeted q has = record {
  white_there = has.stood.all.1;
  black_there = has.stood.all.3.1;
  one_there = has.stood.all.3.3.1;
  other_there = has.stood.all.3.3.3.1;
  kings_apart = has.stood.all.2.0;
  one_white = has.stood.all.2.1.0;
  one_black = has.stood.all.3.2.0;
  other_white = has.stood.all.2.1.1.0;
  other_black = has.stood.all.3.2.1.0;
  apart = has.stood.all.3.3.2.0;
  free = λ s w k o l. free_two d false men one a other b side targeted q has s ((λ e. w (sym e)), ((λ e. k (sym e)), ((λ e. o (sym e)), ((λ e. l (sym e)), tt))));
}
are_two d true men one a other b side targeted q has = record {
  white_there = has.stood.all.3.1;
  black_there = has.stood.all.1;
  one_there = has.stood.all.3.3.1 ∙ ap Some (turned_back true one);
  other_there = has.stood.all.3.3.3.1 ∙ ap Some (turned_back true other);
  kings_apart = λ e. has.stood.all.2.0 (sym e);
  one_white = has.stood.all.3.2.0;
  one_black = has.stood.all.2.1.0;
  other_white = has.stood.all.3.2.1.0;
  other_black = has.stood.all.2.1.1.0;
  apart = has.stood.all.3.3.2.0;
  free = λ s w k o l. free_two d true men one a other b side targeted q has s ((λ e. k (sym e)), ((λ e. w (sym e)), ((λ e. o (sym e)), ((λ e. l (sym e)), tt))));
}

-- and a position with these is of the class
pub stands_two : Counting → (d : ℕ) (flips : Bool) (men : ShelfMen) (one : Man) (a : ℕ) (other : Man) (b : ℕ) (side : Side) (targeted : Bool) (q : Setup) → IsAdmissible q → AreTwo q.men men.white men.black one a other b → one.kind ≢ K
    → other.kind ≢ K → q.side ≡ side → IsSettled q → is_some q.target ≡ targeted → IsClassOfTwo d flips one other → HasStand d flips (stand_two flips men (one, a) (other, b)) side targeted q
stands_two counting d flips men one a other b side targeted q ok are one_no other_no side_is settled target_is class = record {
  admissible = ok;
  settled = settled;
  is_of = class.of q (counting q (Some (one, a)) (Some (other, b)) ok beside);
  stood = record { are = sym class.order; all = all flips };
  side_is = side_is;
  target_is = target_is;
}
  where
    king_is : (s : Side) (man : Man) → man.kind ≢ K → man ≡ king_of s → ⊥
    king_is s man not is = not (ap (λ (x : Man). x.kind) is)

    beside : HasBeside q.men (Some (one, a)) (Some (other, b))
    beside = record {
      one = (are.one_there, one_no);
      other = (are.other_there, other_no);
      all = λ s man stands not. elim (who q.men men.white men.black one a other b are s man stands) [
        | inl h ↦ absurd (king_is White man not h.1)
        | inr rest ↦ elim rest [
          | inl h ↦ absurd (king_is Black man not h.1)
          | inr more ↦ elim more [
            | inl h ↦ inl (λ i. Some (sym h.1 i, sym h.0 i))
            | inr h ↦ inr (λ i. Some (sym h.1 i, sym h.0 i))
          ]
        ]
      ];
      apart = λ e. are.apart (sym e);
    }

    all : (flips : Bool) → AllStand flips q.men (list_of (stand_two flips men (one, a) (other, b)))
    all false = (
      ok.on_board men.white (king_of White) are.white_there,
      are.white_there,
      (are.kings_apart, (are.one_white, (are.other_white, tt))),
      (
        ok.on_board men.black (king_of Black) are.black_there,
        are.black_there,
        (are.one_black, (are.other_black, tt)),
        (ok.on_board a one are.one_there, are.one_there, (are.apart, tt), (ok.on_board b other are.other_there, are.other_there, tt, tt)),
      ),
    )
    all true = (
      ok.on_board men.black (king_of Black) are.black_there,
      are.black_there,
      ((λ e. are.kings_apart (sym e)), (are.one_black, (are.other_black, tt))),
      (
        ok.on_board men.white (king_of White) are.white_there,
        are.white_there,
        (are.one_white, (are.other_white, tt)),
        (
          ok.on_board a one are.one_there,
          are.one_there ∙ ap Some (sym (turned_back true one)),
          (are.apart, tt),
          (ok.on_board b other are.other_there, are.other_there ∙ ap Some (sym (turned_back true other)), tt, tt),
        ),
      ),
    )

-- ---- the men as their class names them

pub are_in : (c : ℕ) (men : ShelfMen) (first : Bool) (side : Side) (targeted : Bool) (a b : ℕ) (p : Setup) → HasStand c false (stand_in first men a b) side targeted p → AreTwo p.men men.white men.black men.first a men.last b
are_in c men false side targeted a b p has = are_two c false men men.first a men.last b side targeted p has
are_in c men true side targeted a b p has = exchanged p.men men.white men.black men.last b men.first a (are_two c false men men.last b men.first a side targeted p has)

pub are_after : (d : ℕ) (before flips : Bool) (men : ShelfMen) (a : ℕ) (man : Man) (t : ℕ) (side : Side) (targeted : Bool) (q : Setup) → HasStand d flips (stand_after before flips men a man t) side targeted q → AreTwo q.men men.white men.black men.first a man t
are_after d false flips men a man t side targeted q has = are_two d flips men men.first a man t side targeted q has
are_after d true flips men a man t side targeted q has = exchanged q.men men.white men.black man t men.first a (are_two d flips men man t men.first a side targeted q has)

pub stands_after : Counting → (d : ℕ) (before flips : Bool) (men : ShelfMen) (a : ℕ) (man : Man) (t : ℕ) (side : Side) (targeted : Bool) (q : Setup) → IsAdmissible q → AreTwo q.men men.white men.black men.first a man t → men.first.kind ≢ K
    → man.kind ≢ K → q.side ≡ side → IsSettled q → is_some q.target ≡ targeted → IsClassAfter before d flips men.first man → HasStand d flips (stand_after before flips men a man t) side targeted q
stands_after counting d false flips men a man t side targeted q ok are one_no man_no side_is settled target_is class =
    stands_two counting d flips men men.first a man t side targeted q ok are one_no man_no side_is settled target_is class
stands_after counting d true flips men a man t side targeted q ok are one_no man_no side_is settled target_is class =
    stands_two counting d flips men man t men.first a side targeted q ok (exchanged q.men men.white men.black men.first a man t are) man_no one_no side_is settled target_is class
