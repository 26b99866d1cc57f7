-- The men after a move that neither captures nor promotes, and taking it back.
use Rattle.std.proofs.Common.{◌≡◌, ◌≢◌, ℕ, Option, Some, None, refl, sym, ap, ◌∙◌, inl, inr, arith}
use Rattle.egt_unmoves.specs.Prelude.{cases_eq, eqb_tells, P, Man, other_side, ahead, Placement, Stands, IsFree}
use Rattle.egt_unmoves.specs.Prelude.{one_man, same_men, get-insert_same, get-insert_other, get-remove_same}
use Rattle.egt_unmoves.specs.Prelude.{get-remove_other, Setup, SettlesTo, Move, Goes, plain, is_target}
use Rattle.egt_unmoves.specs.Prelude.{takes_in_passing, men_left, is_pawn, arriving, ComesBy, MayComeFrom, GoesOver}
use Rattle.egt_unmoves.specs.Prelude.{men_before, setup_before, side_twice, side_cases}
use Rattle.std.specs.FinMap as map
pub use Rattle.egt_board.proofs.Facing.{unput_free}

pub not_free : {A : Type 0} (men : Placement) (s : ℕ) (man : Man) → IsFree men s → Stands men s man → A
not_free men s man free stands = let bad : Some man ≡ None = sym stands ∙ free in absurd (cc)

-- no man is taken in passing but by a pawn that arrives on the target
pub left_whole : (b : Setup) (man : Man) (to : ℕ) → (man.kind ≡ P → b.target ≡ Some to → ⊥) → men_left b man to ≡ b.men
left_whole b man to never = grind (arith, never, takes_in_passing, men_left, ahead, other_side, is_pawn, is_target, eqb_tells)

-- settling changes neither the men nor the side to move
pub settles_men : (p q : Setup) → SettlesTo p q → q.men ≡ p.men
settles_men p q h2 = grind arith

pub settles_side : (p q : Setup) → SettlesTo p q → q.side ≡ p.side
settles_side p q h2 = grind arith

pub settles_once : (p q r : Setup) → SettlesTo p q → SettlesTo p r → q ≡ r
settles_once p q r h h' = grind arith

-- a man that moved, and nothing else: where it stood and stands
pub record Came (b : Setup) (m : Move) (q : Setup) : Type 0 where
  pub man : Man
  pub stood : Stands b.men m.from man
  pub mine : man.side ≡ b.side
  pub free_to : IsFree b.men m.to
  pub stands : Stands q.men m.to man
  pub free_from : IsFree q.men m.from
  pub side : b.side ≡ other_side q.side
  pub men : b.men ≡ men_before q.men man m.to m.from
  pub goes : GoesOver b.men man m.from m.to

-- where a man has moved and all others stay, moving him back gives the men before
pub moved_on : (a c : Placement) (man : Man) (s t : ℕ) → Stands a s man → IsFree a t → c ≡ map.insert (map.remove a s) t man
    → Stands c t man × IsFree c s × (a ≡ map.insert (map.remove c t) s man)
moved_on a c man s t stands free e = (stands_t, free_s, same_men a _ there)
  where
    apart : s ≢ t
    apart same = not_free a t man free (ap (map.get a) (sym same) ∙ stands)

    stands_t : Stands c t man
    stands_t = ap (λ m. map.get m t) e ∙ get-insert_same (map.remove a s) t man t refl

    free_s : IsFree c s
    free_s = ap (λ m. map.get m s) e ∙ get-insert_other (map.remove a s) t man s apart ∙ get-remove_same a s s refl

    there : (u : ℕ) → map.get a u ≡ map.get (map.insert (map.remove c t) s man) u
    there u = elim (cases_eq u s) [
      | inl here ↦ ap (map.get a) here ∙ stands ∙ sym (get-insert_same (map.remove c t) s man u here)
      | inr not_s ↦ elim (cases_eq u t) [
        | inl here ↦ ap (map.get a) here ∙ free ∙ sym (get-insert_other (map.remove c t) s man u not_s ∙ get-remove_same c t u here)
        | inr not_t ↦
            sym (get-insert_other (map.remove c t) s man u not_s ∙ get-remove_other c t u not_t ∙ ap (λ m. map.get m u) e
            ∙ get-insert_other (map.remove a s) t man u not_t ∙ get-remove_other a s u not_s)
      ]
    ]

pub came : (b : Setup) (m : Move) (q : Setup) → ComesBy b m q → Came b m q
came b m q c = record {
  man = c.leads.man;
  stood = c.leads.stands;
  mine = c.leads.mine;
  free_to = free;
  stands = moved.0;
  free_from = moved.1;
  side = sym (side_twice b.side) ∙ sym (ap other_side (settles_side c.led q c.settles ∙ ap (λ (x : Setup). x.side) c.leads.becomes));
  men = moved.2;
  goes = by_going c.leads.goes;
}
  where
    never : c.leads.man.kind ≡ P → b.target ≡ Some m.to → ⊥
    never pawn target = c.no_capture (inr (record { man = c.leads.man; stands = c.leads.stands; pawn = pawn }, target))

    not_held : (other : Man) → Stands b.men m.to other → other.side ≡ b.side → Goes b c.leads.man m.from m.to → ⊥
    not_held other there own (inl piece) = piece.not_own (record { man = other; stands = there; theirs = own })
    not_held other there own (inr (inl advance)) = not_free b.men m.to other advance.advances.free there
    not_held other there own (inr (inr takes)) = elim takes.takes [
      | inl enemy ↦ c.no_capture (inl enemy)
      | inr target ↦ never takes.pawn target
    ]

    free_or : (o : Option Man) → map.get b.men m.to ≡ o → IsFree b.men m.to
    free_or None e = e
    free_or (Some other) e = elim (side_cases other.side b.side) [
      | inl own ↦ absurd (not_held other e own c.leads.goes)
      | inr enemy ↦ absurd (c.no_capture (inl (record { man = other; stands = e; theirs = enemy })))
    ]

    free : IsFree b.men m.to
    free = free_or (map.get b.men m.to) refl

    men_now : q.men ≡ map.insert (map.remove b.men m.from) m.to c.leads.man
    men_now = grind (arith, settles_men, arriving, left_whole, never)

    moved : Stands q.men m.to c.leads.man × IsFree q.men m.from × (b.men ≡ men_before q.men c.leads.man m.to m.from)
    moved = moved_on b.men q.men c.leads.man m.from m.to c.leads.stands free men_now

    by_going : Goes b c.leads.man m.from m.to → GoesOver b.men c.leads.man m.from m.to
    by_going h = grind (arith, never)

-- the man that stands where the move ends is the one that moved
pub came_man : (b : Setup) (m : Move) (q : Setup) (man : Man) (c : Came b m q) → Stands q.men m.to man → c.man ≡ man
came_man b m q man c stands = one_man q.men m.to c.man man c.stands stands

-- no position comes by two moves
pub same_move : (b : Setup) (m n : Move) (q : Setup) → ComesBy b m q → ComesBy b n q → m ≡ n
same_move b m n q c d = λ i. record { from = same_from i; to = same_to i; promo = (c.no_promotion ∙ sym d.no_promotion) i }
  where
    x : Came b m q
    x = came b m q c

    y : Came b n q
    y = came b n q d

    -- what differs are the two squares of the move
    same_else : (s : ℕ) → s ≢ n.from → s ≢ n.to → map.get b.men s ≡ map.get q.men s
    same_else s not_from not_to =
        ap (λ men. map.get men s) y.men ∙ get-insert_other (map.remove q.men n.to) n.from y.man s not_from ∙ get-remove_other q.men n.to s not_to

    same_from : m.from ≡ n.from
    same_from = elim (cases_eq m.from n.from) [
      | inl e ↦ e
      | inr not_from ↦ elim (cases_eq m.from n.to) [
        | inl e ↦ not_free b.men m.from x.man (ap (map.get b.men) e ∙ y.free_to) x.stood
        | inr not_to ↦ not_free b.men m.from x.man (same_else m.from not_from not_to ∙ x.free_from) x.stood
      ]
    ]

    same_to : m.to ≡ n.to
    same_to = elim (cases_eq m.to n.to) [
      | inl e ↦ e
      | inr not_to ↦ elim (cases_eq m.to n.from) [
        | inl e ↦ not_free b.men m.to y.man x.free_to (ap (map.get b.men) e ∙ y.stood)
        | inr not_from ↦ not_free q.men m.to x.man (sym (same_else m.to not_from not_to) ∙ x.free_to) x.stands
      ]
    ]

-- the position before, but for its target
pub before_is : (b : Setup) (q : Setup) (man : Man) (from to : ℕ) (target : Option ℕ) → MayComeFrom q man to from → b.target ≡ target → ComesBy b (plain from to) q
    → b ≡ setup_before q man to from target
before_is b q man from to target may e c = λ i. record { men = men i; side = x.side i; target = e i }
  where
    x : Came b (plain from to) q
    x = came b (plain from to) q c

    men : b.men ≡ men_before q.men man to from
    men = x.men ∙ ap (λ y. men_before q.men y to from) (came_man b (plain from to) q man x may.stands)
