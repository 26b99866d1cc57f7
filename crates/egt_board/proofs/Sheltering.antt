-- Attacks of a side, and where a newcomer keeps it from attacking a square.
use Rattle.std.proofs.Common.{◌≡◌, ◌≢◌, ◌↔◌, ◌⊎◌, ℕ, ◌*◌, ◌<◌, List, [], ◌∷◌, Some, None, max, min, arith, refl, sym}
use Rattle.std.proofs.Common.{ap, ◌∙◌, subst, inl, inr}
use Rattle.egt_board.specs.Prelude.{bit_at, nat_cmp, cases_eq, Inside, Side, Kind, Man, Way, Up, Down, Still, Step}
use Rattle.egt_board.specs.Prelude.{Further, file_of, rank_of, Placement, Stands, IsFree, get-insert_same}
use Rattle.egt_board.specs.Prelude.{get-insert_other, Rides, OneOf, Reaches, Reaches-free, steps_of, farthest, Slot}
use Rattle.egt_board.specs.Prelude.{listed, placed, InOrder, AreKept, slots_of, find-below, first_half, second_half}
use Rattle.egt_board.specs.Prelude.{IsAttacked, IsKeptFrom, IsSeenAs, Stops, StopsSlot}
use Rattle.std.specs.FinMap as map
use Rattle.egt_board.proofs.Placed.{find-here, find-later}
use Rattle.egt_board.proofs.Slots.{shown, listed-shown}
use Rattle.egt_board.proofs.Hiding.{Reaches-target}

-- a bit of one of four sets, and of all four
pub any_of_four : (W X Y Z : Type 0) (p q r s n : ℕ) → p < 2 → q < 2 → r < 2 → s < 2 → n ≡ max (max p q) (max r s)
    → (p ≡ 1) ↔ W → (q ≡ 1) ↔ X → (r ≡ 1) ↔ Y → (s ≡ 1) ↔ Z → (n ≡ 1) ↔ (W ⊎ (X ⊎ (Y ⊎ Z)))
any_of_four W X Y Z p q r s n p_bit q_bit r_bit s_bit is a b c d = grind (arith, cases_eq)

pub all_of_four : (W X Y Z : Type 0) (p q r s n : ℕ) → p < 2 → q < 2 → r < 2 → s < 2 → n ≡ min (min p q) (min r s)
    → (p ≡ 1) ↔ W → (q ≡ 1) ↔ X → (r ≡ 1) ↔ Y → (s ≡ 1) ↔ Z → (n ≡ 1) ↔ (W × X × Y × Z)
all_of_four W X Y Z p q r s n p_bit q_bit r_bit s_bit is a b c d = grind arith

AllStop : ℕ → Side → ℕ → ℕ → List Slot → Type 0
AllStop occupied side square t [] = Unit {0}
AllStop occupied side square t (x ∷ xs) = StopsSlot occupied side square t x × AllStop occupied side square t xs

slots_stop : (occupied : ℕ) (side : Side) (square t : ℕ) (xs : List Slot) → AllStop occupied side square t xs → (s : ℕ) (man : Man) → map.find nat_cmp s (listed xs) ≡ Some man → man.side ≡ side → Stops occupied man s square t
unfolding AllStop
slots_stop occupied side square t [] all s man found own = let bad : None ≡ Some man = found in absurd (cc)
slots_stop occupied side square t (None ∷ xs) all s man found own = slots_stop occupied side square t xs all.1 s man found own
slots_stop occupied side square t (Some e ∷ xs) all s man found own = elim (cases_eq s e.0) [
  | inl same ↦
      let both : Some e.1 ≡ Some man = sym (find-here s e.0 e.1 (listed xs) same) ∙ found in
      let is : e.1 ≡ man = cc in
      let stopped : Stops occupied e.1 e.0 square t = all.0 (ap (λ (m : Man). m.side) is ∙ own) in
      subst (λ (m : Man). Stops occupied m s square t) is (subst (λ k. Stops occupied e.1 k square t) (sym same) stopped)
  | inr other ↦ slots_stop occupied side square t xs all.1 s man (sym (find-later s e.0 e.1 (listed xs) other) ∙ found) own
]

found_stop : (occupied : ℕ) (side : Side) (square t : ℕ) (xs : List Slot) → InOrder (listed xs)
    → ((s : ℕ) (man : Man) → map.find nat_cmp s (listed xs) ≡ Some man → man.side ≡ side → Stops occupied man s square t) → AllStop occupied side square t xs
unfolding AllStop
found_stop occupied side square t [] sorted stop = tt
found_stop occupied side square t (None ∷ xs) sorted stop = (tt, found_stop occupied side square t xs sorted stop)
found_stop occupied side square t (Some e ∷ xs) sorted stop = (
  λ own. stop e.0 e.1 (find-here e.0 e.0 e.1 (listed xs) refl) own,
  found_stop occupied side square t xs (second_half _ _ sorted) (λ s man found own. elim (cases_eq s e.0) [
    | inl same ↦
        let none : map.find nat_cmp s (listed xs) ≡ None = ap (λ q. map.find nat_cmp q (listed xs)) same ∙ find-below e.0 (listed xs) (first_half _ _ sorted) in
        let bad : None ≡ Some man = sym none ∙ found in absurd (cc)
    | inr other ↦ stop s man (find-later s e.0 e.1 (listed xs) other ∙ found) own
  ]),
)

-- what stands on the square of a newcomer is the newcomer
newcomer_stands : (men : Placement) (t : ℕ) (newcomer man : Man) (side : Side) → newcomer.side ≢ side → man.side ≡ side → (s : ℕ) → Stands (map.insert men t newcomer) s man → s ≢ t
newcomer_stands men t newcomer man side foreign own s stands e = grind (arith, get-insert_same)

free_before : (men : Placement) (t u : ℕ) (newcomer : Man) → IsFree (map.insert men t newcomer) u → u ≢ t
free_before men t u newcomer free e = let bad : Some newcomer ≡ None = sym (get-insert_same men t newcomer u e) ∙ free in cc

-- the slots' men are all stopped exactly where the side is kept from attacking the square, among the men as which the board is seen
pub kept_as : (a : Inside) (board men : Placement) (occupied : ℕ) (side : Side) (square t : ℕ) (newcomer : Man) → AreKept (slots_of a) → placed (slots_of a) ≡ board → IsSeenAs board side occupied men → newcomer.side ≢ side
    → (StopsSlot occupied side square t a.first × StopsSlot occupied side square t a.second × StopsSlot occupied side square t a.third × StopsSlot occupied side square t a.fourth) ↔ IsKeptFrom men t newcomer square side
unfolding AllStop
kept_as a board men occupied side square t newcomer kept is seen foreign =
    let xs = slots_of a in
    let same = listed-shown xs board (shown xs board kept is) in (
      λ all attacked.
          let apart = newcomer_stands men t newcomer attacked.man side foreign attacked.theirs attacked.from attacked.stands in
          let stands : Stands board attacked.from attacked.man = (seen.stand attacked.from attacked.man attacked.theirs).0 (sym (get-insert_other men t newcomer attacked.from apart) ∙ attacked.stands) in
          elim (slots_stop occupied side square t xs (all.0, (all.1, (all.2, (all.3, tt)))) attacked.from attacked.man (ap (map.find nat_cmp attacked.from) same ∙ sym (map.get-entries board attacked.from) ∙ stands) attacked.theirs) [
            | inl e ↦ apart (sym e)
            | inr none ↦ none (Reaches-free (IsFree (map.insert men t newcomer)) (λ u. (bit_at occupied u ≡ 0) × (u ≢ t)) attacked.man attacked.from square
                (λ u u_in clear. let other = free_before men t u newcomer clear in ((seen.free u).1 (sym (get-insert_other men t newcomer u other) ∙ clear), other)) attacked.reaches)
          ],
      λ none.
          let all = found_stop occupied side square t xs kept.in_order (λ s man found own. elim (cases_eq t s) [
            | inl e ↦ inl e
            | inr other ↦ inr (λ r. none (record {
              from = s;
              man = man;
              stands = get-insert_other men t newcomer s (λ e. other (sym e)) ∙ (seen.stand s man own).1 (map.get-entries board s ∙ ap (map.find nat_cmp s) (sym same) ∙ found);
              theirs = own;
              reaches = Reaches-free (λ u. (bit_at occupied u ≡ 0) × (u ≢ t)) (IsFree (map.insert men t newcomer)) man s square
                  (λ u u_in clear. get-insert_other men t newcomer u clear.1 ∙ (seen.free u).0 clear.0) r;
            }))
          ]) in
          (all.0, all.1.0, all.1.1.0, all.1.1.1.0),
    )

-- no man attacks the square that it stands on
Shifts : Way → ℕ → Type 0
Shifts Up by = (by ≡ 1) ⊎ (by ≡ 2)
Shifts Down by = (by ≡ 1) ⊎ (by ≡ 2)
Shifts Still by = ⊥

Moves : Step → Type 0
Moves d = Shifts d.files d.wide ⊎ Shifts d.ranks d.high

AllMove : List Step → Type 0
AllMove [] = Unit {0}
AllMove (d ∷ ds) = Moves d × AllMove ds

shifts_off : (w : Way) (n by a : ℕ) → 0 < n → Shifts w by → Further w (n * by) a a → ⊥
unfolding Shifts
shifts_off w n by a some s f = grind arith

all_move : (side : Side) (kind : Kind) → AllMove (steps_of side kind)
unfolding AllMove Moves Shifts
all_move side kind = grind arith

none_moves : (F : ℕ → Type 0) (most s : ℕ) (ds : List Step) → AllMove ds → OneOf (Rides F most s s) ds → ⊥
unfolding AllMove Moves
none_moves F most s [] all none = none
none_moves F most s (d ∷ ds) all some = elim some [
  | inl r ↦ elim all.0 [
    | inl across ↦ shifts_off d.files r.count d.wide (file_of s) r.moves across r.away.across
    | inr along ↦ shifts_off d.ranks r.count d.high (rank_of s) r.moves along r.away.along
  ]
  | inr rest ↦ none_moves F most s ds all.1 rest
]

-- what of the other side's stands on a square plays no part in attacks on it
pub no_occupant : (men : Placement) (t : ℕ) (side : Side) (occupant : Man) → occupant.side ≢ side → IsAttacked (map.insert men t occupant) t side ↔ IsAttacked men t side
no_occupant men t side occupant foreign = (
  λ attacked.
      let apart = newcomer_stands men t occupant attacked.man side foreign attacked.theirs attacked.from attacked.stands in
      record {
        from = attacked.from;
        man = attacked.man;
        stands = sym (get-insert_other men t occupant attacked.from apart) ∙ attacked.stands;
        theirs = attacked.theirs;
        reaches = Reaches-target (IsFree (map.insert men t occupant)) (IsFree men) attacked.man attacked.from t (λ u u_in other free. sym (get-insert_other men t occupant u other) ∙ free) attacked.reaches;
      },
  λ attacked.
      let apart : attacked.from ≢ t = λ e. none_moves (IsFree men) (farthest attacked.man.kind) t (steps_of attacked.man.side attacked.man.kind) (all_move attacked.man.side attacked.man.kind) (subst (λ s. Reaches (IsFree men) attacked.man s t) e attacked.reaches) in
      record {
        from = attacked.from;
        man = attacked.man;
        stands = get-insert_other men t occupant attacked.from apart ∙ attacked.stands;
        theirs = attacked.theirs;
        reaches = Reaches-target (IsFree men) (IsFree (map.insert men t occupant)) attacked.man attacked.from t (λ u u_in other free. get-insert_other men t occupant u other ∙ free) attacked.reaches;
      },
)
