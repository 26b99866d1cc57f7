-- The men of a class after one of them went to a free square.
use Rattle.std.proofs.Common.{◌≡◌, ◌≢◌, ℕ, ◌<◌, Bool, false, List, [], ◌∷◌, ◌++◌, map, Some, refl, sym, ap, ◌∙◌, inl}
use Rattle.std.proofs.Common.{inr, subst, arith}
use Rattle.egt_steps.specs.Prelude.{option_to_list, is_some, cases_eq, Side, Man, other_side, Placement, Stands}
use Rattle.egt_steps.specs.Prelude.{one_man, get-remove_other, get-insert_same, get-insert_other, IsSettled, Setup}
use Rattle.egt_steps.specs.Prelude.{turned_man, IsMoved, moved_square, moved_entry, IsMovedStand, Entry, men_among}
use Rattle.egt_steps.specs.Prelude.{IsOff, AllStand, Stood, HasStand, list_of, Stand}
use Rattle.egt_steps.proofs.Carried.{went, stayed}
use Rattle.std.specs.FinMap as placement

module _ (c : ℕ) (p : Setup) (from to : ℕ) (q : Setup) (moved : IsMoved c p from to q) where
  abbrev move_one : Man × ℕ → Man × ℕ
  move_one e = (e.0, moved_square from to e.1)

  not_to : (s : ℕ) (man : Man) → Stands p.men s man → s ≢ to
  not_to s man stands same = let h = sym stands ∙ ap (placement.get p.men) same ∙ moved.free in cc

  at_to : Stands q.men to moved.man
  at_to = ap (λ (m : Placement). placement.get m to) moved.men ∙ get-insert_same (placement.remove p.men from) to moved.man to refl

  at_other : (s : ℕ) (man : Man) → s ≢ from → Stands p.men s man → Stands q.men s man
  at_other s man other stands = grind (arith, get-insert_other, not_to, get-remove_other)

  -- a man off a square of the list is off it after the move
  off_one : (e s : ℕ) (man other : Man) → Stands p.men e man → Stands p.men s other → e ≢ s → moved_square from to e ≢ moved_square from to s
  off_one e s man other here there apart same = elim (cases_eq e from) [
    | inl e_from ↦ elim (cases_eq s from) [
      | inl s_from ↦ apart (e_from ∙ sym s_from)
      | inr s_other ↦ not_to s other there (sym (stayed from to s s_other) ∙ sym same ∙ went from to e e_from)
    ]
    | inr e_other ↦ elim (cases_eq s from) [
      | inl s_from ↦ not_to e man here (sym (stayed from to e e_other) ∙ same ∙ went from to s s_from)
      | inr s_other ↦ apart (sym (stayed from to e e_other) ∙ same ∙ stayed from to s s_other)
    ]
  ]

  off_moved : (flips : Bool) (list : List (Man × ℕ)) (s : ℕ) (man : Man) → AllStand flips p.men list → Stands p.men s man → IsOff list s → IsOff (map move_one list) (moved_square from to s)
  off_moved flips [] s man all stands off = tt
  off_moved flips (e ∷ list) s man all stands off = (off_one e.1 s _ man all.1 stands off.0, off_moved flips list s man all.3 stands off.1)

  below : (s : ℕ) → s < 64 → moved_square from to s < 64
  below s s_in = grind (arith, cases_eq, went, stayed)

  stands_moved : (s : ℕ) (man : Man) → Stands p.men s man → Stands q.men (moved_square from to s) man
  stands_moved s man stands = elim (cases_eq s from) [
    | inl same ↦ ap (placement.get q.men) (went from to s same) ∙ at_to ∙ ap Some (one_man p.men from moved.man man moved.stands (ap (placement.get p.men) (sym same) ∙ stands))
    | inr other ↦ ap (placement.get q.men) (stayed from to s other) ∙ at_other s man other stands
  ]

  all_moved : (flips : Bool) (list : List (Man × ℕ)) → AllStand flips p.men list → AllStand flips q.men (map move_one list)
  all_moved flips [] all = tt
  all_moved flips (e ∷ list) all = (
    below e.1 all.0,
    stands_moved e.1 (turned_man flips e.0) all.1,
    off_moved flips list e.1 (turned_man flips e.0) all.3 all.1 all.2,
    all_moved flips list all.3,
  )

  men_kept : (list : List (Man × ℕ)) → men_among (map move_one list) ≡ men_among list
  men_kept [] = refl
  men_kept (e ∷ list) = ap (λ l. e.0 ∷ l) (men_kept list)

  entry_listed : (entry : Entry) → map move_one (option_to_list entry) ≡ option_to_list (moved_entry from to entry)
  entry_listed entry = grind arith

  both_listed : (x y : Entry) → map move_one (option_to_list x ++ option_to_list y) ≡ option_to_list (moved_entry from to x) ++ option_to_list (moved_entry from to y)
  both_listed x y = grind (arith, entry_listed)

  list_moved : (before after : Stand) → after.white ≡ moved_square from to before.white → after.black ≡ moved_square from to before.black
      → after.first ≡ moved_entry from to before.first → after.last ≡ moved_entry from to before.last → map move_one (list_of before) ≡ list_of after
  list_moved before after white black next last = grind (arith, both_listed)

  stood_moved : (flips : Bool) (before after : Stand) → map move_one (list_of before) ≡ list_of after → Stood c flips p.men (list_of before) → Stood c flips q.men (list_of after)
  stood_moved flips before after listed stood = record {
    are = ap men_among (sym listed) ∙ men_kept (list_of before) ∙ stood.are;
    all = subst (AllStand flips q.men) listed (all_moved flips (list_of before) stood.all);
  }

-- the men stand as a move leaves them
pub stand_moved : (c : ℕ) (flips targeted : Bool) (p q : Setup) (from to : ℕ) (before after : Stand) (old side : Side) → HasStand c flips before old targeted p → IsMoved c p from to q → IsSettled q
    → side ≡ other_side old → IsMovedStand from to before after → HasStand c flips after side false q
stand_moved c flips targeted p q from to before after old side has moved settled side_is is = record {
  admissible = moved.admissible;
  settled = settled;
  is_of = moved.class flips has.is_of;
  stood = stood_moved c p from to q moved flips before after (list_moved c p from to q moved before after is.white is.black is.first is.last) has.stood;
  side_is = moved.side ∙ ap other_side has.side_is ∙ sym side_is;
  target_is = ap is_some moved.target;
}

-- where the men stand after the man on `from` went to `to`
abbrev pub after_of : ℕ → ℕ → Stand → Stand
after_of from to s = record {
  white = moved_square from to s.white;
  black = moved_square from to s.black;
  first = moved_entry from to s.first;
  last = moved_entry from to s.last;
}
