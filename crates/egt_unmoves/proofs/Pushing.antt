-- The unmoves of one place, of one square before, and of one man.
use Rattle.std.proofs.Common.{◌≡◌, ◌≢◌, ℕ, ◌+◌, ◌*◌, ◌<◌, ◌≤◌, ◌↔◌, ◌⊎◌, List, [], ◌∷◌, ◌++◌, length, Bool}
use Rattle.std.proofs.Common.{IsTrue, Option, Some, None, arith, sym, ap, ◌∙◌, inl, inr, subst}
use Rattle.egt_unmoves.specs.Prelude.{bit_at, cases_eq, P, Man, SquareSet, Side, other_side}
use Rattle.egt_unmoves.specs.Prelude.{ahead, HasPawnBeside, Placement, Stands, one_man, IsTarget, Has, size_of, Setup}
use Rattle.egt_unmoves.specs.Prelude.{Move, IsPawnOn, plain, most_goals, Unmove, ComesBy, TakesBack, MayComeFrom, Went}
use Rattle.egt_unmoves.specs.Prelude.{men_before, place_of, target_place, ListsBelow}
use Rattle.egt_unmoves.proofs.Came.{Came, came, before_is}
use Rattle.egt_unmoves.proofs.FiveMen.{target_of}
use Rattle.egt_unmoves.proofs.Went.{comes_went}
use Rattle.egt_unmoves.proofs.UnmoveList.{squares_within, target_place_small, ListsBelow-push, ListsBelow-skip}
use Rattle.egt_board.proofs.Bits.{not_both}

-- a place tells the squares
pub placed : (w : Unmove) (n : Move) (q : Setup) (from to k : ℕ) → from < 64 → k < 2 → TakesBack w n q → place_of w n ≡ (to * 64 + from) * 2 + k
    → (n ≡ plain from to) × (target_place w.before.target ≡ k)
placed w n q from to k from_in small takes e =
    let within = squares_within w.before n q takes.comes in
    let n_in = within.0 in
    let few = target_place_small w.before.target in
    let same_from : n.from ≡ from = omega arith in
    let same_to : n.to ≡ to = omega arith in
    ((λ i. record { from = same_from i; to = same_to i; promo = takes.comes.no_promotion i }), omega arith)

-- flags that tell the same are the same
same_flag : (a b : Bool) (X : Type 0) → IsTrue a ↔ X → IsTrue b ↔ X → a ≡ b
same_flag a b X f g = grind arith

-- it tells whether the man is a pawn
pub told : (b q : Setup) (man : Man) (from to : ℕ) (flag : Bool) → MayComeFrom q man to from → ComesBy b (plain from to) q → IsTrue flag ↔ (man.kind ≡ P) → IsTrue flag ↔ IsPawnOn b.men from
told b q man from to flag may c is = (
  λ h. record { man = x.man; stands = x.stood; pawn = ap (λ (y : Man). y.kind) same ∙ is.0 h },
  λ (on : IsPawnOn b.men from). is.1 (sym (ap (λ (y : Man). y.kind) same) ∙ ap (λ (y : Man). y.kind) (one_man b.men from x.man on.man x.stood on.stands) ∙ on.pawn),
)
  where
    x : Came b (plain from to) q
    x = came b (plain from to) q c

    same : x.man ≡ man
    same = one_man q.men to x.man man x.stands may.stands

module _ (q : Setup) (man : Man) (from to : ℕ) (target : Option ℕ) (may : MayComeFrom q man to from) (from_in : from < 64)
    (only : (b : Setup) → ComesBy b (plain from to) q → target_place b.target ≡ target_place target → b.target ≡ target) where
  -- the position of this place is this one
  place_is : (w : Unmove) (n : Move) → TakesBack w n q → place_of w n ≡ (to * 64 + from) * 2 + target_place target
      → ComesBy w.before (plain from to) q × (w.before.target ≡ target) × (IsTrue w.pawn ↔ IsPawnOn w.before.men from)
  place_is w n takes e =
      let here = placed w n q from to (target_place target) from_in (target_place_small target) takes e in
      let comes : ComesBy w.before (plain from to) q = subst (λ x. ComesBy w.before x q) here.0 takes.comes in
      let pawn : IsTrue w.pawn ↔ IsPawnOn w.before.men from = subst (λ (x : Move). IsTrue w.pawn ↔ IsPawnOn w.before.men x.from) here.0 takes.pawn in
      (comes, only w.before comes here.1, pawn)

  -- it is listed
  pub pushed : (us : List Unmove) (b : Setup) (flag : Bool) → ListsBelow q ((to * 64 + from) * 2 + target_place target) us → ComesBy b (plain from to) q → b.target ≡ target → IsTrue flag ↔ (man.kind ≡ P)
      → ListsBelow q ((to * 64 + from) * 2 + target_place target + 1) (us ++ record { before = b; pawn = flag } ∷ [])
  pushed us b flag lists comes is flag_is = ListsBelow-push q _ us u (plain from to) lists takes (ap (λ o. (to * 64 + from) * 2 + target_place o) is) same
    where
      u : Unmove
      u = record { before = b; pawn = flag }

      takes : TakesBack u (plain from to) q
      takes = record { comes = comes; pawn = told b q man from to flag may comes flag_is }

      same : (w : Unmove) (n : Move) → TakesBack w n q → place_of w n ≡ (to * 64 + from) * 2 + target_place target → u ≡ w
      same w n there e =
          let h = place_is w n there e in
          let before : b ≡ w.before = before_is b q man from to target may is comes ∙ sym (before_is w.before q man from to target may h.1 h.0) in
          let pawn : flag ≡ w.pawn = same_flag flag w.pawn (IsPawnOn b.men from) takes.pawn (subst (λ (x : Setup). IsTrue w.pawn ↔ IsPawnOn x.men from) (sym before) h.2) in
          (λ i. record { before = before i; pawn = pawn i })

-- a position before with a target has the one that it may have
pub this_one : (o : Option ℕ) (passed : Option ℕ) (t : ℕ) → (o ≡ None) ⊎ (o ≡ passed) → passed ≡ Some t → target_place o ≡ 1 → o ≡ Some t
this_one o passed t may is some = grind (arith, target_place)

-- where it may have none, it has none
pub none_of : (o passed : Option ℕ) → (o ≡ None) ⊎ (o ≡ passed) → passed ≡ None → o ≡ None
none_of o passed may is = elim may [ inl none ↦ none | inr here ↦ here ∙ is ]

-- where the man did not go so, no place counts
pub not_pushed : (q : Setup) (man : Man) (from to : ℕ) (us : List Unmove) → from < 64 → Stands q.men to man → (¬ Went q man to from) → ListsBelow q ((to * 64 + from) * 2) us → ListsBelow q ((to * 64 + from + 1) * 2) us
not_pushed q man from to us from_in stands none lists = ListsBelow-skip q _ _ us (omega arith) lists (λ w n takes low high.
    let within = squares_within w.before n q takes.comes in
    let n_in = within.0 in
    let few = target_place_small w.before.target in
    let here = placed w n q from to (target_place w.before.target) from_in few takes (omega arith) in
    none (comes_went w.before q (plain from to) man stands (subst (λ x. ComesBy w.before x q) here.0 takes.comes)))

-- where a pawn does not stand ready to take it, no place with a target counts
pub not_ready : (b q : Setup) (man : Man) (from to t : ℕ) (board : Placement) (side : Side) → MayComeFrom q man to from → board ≡ men_before q.men man to from → side ≡ man.side
    → (¬ (IsTarget board side t × HasPawnBeside board side (ahead (other_side side) t))) → ComesBy b (plain from to) q → b.target ≡ Some t → ⊥
not_ready b q man from to t board side may is same none comes e =
    let before = before_is b q man from to (Some t) may e comes in
    let men : b.men ≡ board = ap (λ (x : Setup). x.men) before ∙ sym is in
    let mover : b.side ≡ side = ap (λ (x : Setup). x.side) before ∙ sym may.theirs ∙ sym same in
    none (subst (λ x. IsTarget x side t × HasPawnBeside x side (ahead (other_side side) t)) men
    (subst (λ x. IsTarget b.men x t × HasPawnBeside b.men x (ahead (other_side x) t)) mover (target_of b t comes.admissible comes.settled e)))

-- where no target is possible, only the place without one counts
pub no_target : (q : Setup) (man : Man) (from to : ℕ) (us : List Unmove) → from < 64 → ListsBelow q ((to * 64 + from) * 2 + 1) us
    → ((b : Setup) → ComesBy b (plain from to) q → b.target ≡ None) → ListsBelow q ((to * 64 + from + 1) * 2) us
no_target q man from to us from_in lists none = ListsBelow-skip q _ _ us (omega arith) lists (λ w n takes low high.
    let here = placed w n q from to 1 from_in (omega arith) takes (omega arith) in
    let comes : ComesBy w.before (plain from to) q = subst (λ x. ComesBy w.before x q) here.0 takes.comes in
    let e : target_place w.before.target ≡ 0 = ap target_place (none w.before comes) in
    let f = here.1 in
    omega arith)

-- the unmoves of one man from the squares before `next` are listed, and the others are left
pub record ListsTo (q : Setup) (man : Man) (to : ℕ) (sources : SquareSet) (old now : List Unmove) (left : SquareSet) : Type 0 where
  pub next : ℕ
  pub within : next ≤ 64
  pub listed : ListsBelow q ((to * 64 + next) * 2) now
  pub left_is : (t : ℕ) → Has left t ↔ (Has sources t × (next ≤ t))
  pub room : length now + 2 * size_of left ≤ length old + 2 * most_goals man.kind

pub ListsTo-none : (q : Setup) (man : Man) (to : ℕ) (sources : SquareSet) (old : List Unmove) → ListsBelow q (to * 128) old → size_of sources ≤ most_goals man.kind → ListsTo q man to sources old old sources
ListsTo-none q man to sources old lists few = record {
  next = 0;
  within = omega arith;
  listed = subst (λ k. ListsBelow q k old) (omega arith) lists;
  left_is = λ t. (λ h. (h, omega arith), λ h. h.0);
  room = omega arith;
}

module _ (q : Setup) (man : Man) (to : ℕ) (sources : SquareSet) (complete : (b : Setup) (m : Move) → m.to ≡ to → ComesBy b m q → Has sources m.from) where
  -- no unmove comes from a square between
  skipped : (old now : List Unmove) (left : SquareSet) (n : ℕ) → n ≤ 64 → (l : ListsTo q man to sources old now left) → l.next ≤ n → ((t : ℕ) → t < n → bit_at left.bits t ≡ 0)
      → ListsBelow q ((to * 64 + n) * 2) now
  skipped old now left n n_in l le least = ListsBelow-skip q _ _ now (omega arith) l.listed (λ w m takes low high.
      let within = squares_within w.before m q takes.comes in
      let m_in = within.0 in
      let few = target_place_small w.before.target in
      let same : m.to ≡ to = omega arith in
      let from_low : l.next ≤ m.from = omega arith in
      let from_high : m.from < n = omega arith in
      not_both (bit_at left.bits m.from) (least m.from from_high) ((l.left_is m.from).1 (complete w.before m same takes.comes, from_low)))

  -- before the first square that is left
  pub ListsTo-before : (old now : List Unmove) (left : SquareSet) (s : ℕ) → s < 64 → Has left s → ((t : ℕ) → t < s → bit_at left.bits t ≡ 0) → ListsTo q man to sources old now left
      → ListsBelow q ((to * 64 + s) * 2) now
  ListsTo-before old now left s s_in has least l = skipped old now left s (omega arith) l ((l.left_is s).0 has).1 least

  -- one square less is left
  pub ListsTo-more : (old now new : List Unmove) (left left' : SquareSet) (s : ℕ) → s < 64 → Has left s → ((t : ℕ) → t < s → bit_at left.bits t ≡ 0) → bit_at left'.bits s ≡ 0
      → ((t : ℕ) → t ≢ s → bit_at left'.bits t ≡ bit_at left.bits t) → size_of left' + 1 ≡ size_of left → ListsBelow q ((to * 64 + s + 1) * 2) new → length new ≤ length now + 2
      → ListsTo q man to sources old now left → ListsTo q man to sources old new left'
  ListsTo-more old now new left left' s s_in has least gone others size lists few l = record {
    next = s + 1;
    within = omega arith;
    listed = subst (λ k. ListsBelow q k new) (omega arith) lists;
    left_is = λ t. (there t, back t);
    room = let r = l.room in omega arith;
  }
    where
      there : (t : ℕ) → Has left' t → Has sources t × (s + 1 ≤ t)
      there t h = grind (arith, cases_eq, not_both, bit_at)

      back : (t : ℕ) → Has sources t × (s + 1 ≤ t) → Has left' t
      back t h = grind arith

  -- no square is left
  pub ListsTo-all : (old now : List Unmove) (left : SquareSet) → ListsTo q man to sources old now left → ((t : ℕ) → bit_at left.bits t ≡ 0) → ListsBelow q ((to + 1) * 128) now
  ListsTo-all old now left l none = subst (λ k. ListsBelow q k now) (omega arith) (skipped old now left 64 (omega arith) l l.within (λ t _. none t))
