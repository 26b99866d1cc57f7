-- A king alone attacks no king.
use Rattle.std.proofs.Common.{◌≡◌, ◌≢◌, ℕ, ◌<◌, sym, ap, ◌∙◌, subst}
use Rattle.egt_moves.specs.Prelude.{Side, Man, other_side, king_of, IsOccupancy, Reaches, Placement, Stands, IsFree}
use Rattle.egt_moves.specs.Prelude.{one_man, get-insert_same, get-insert_other, get-remove_same, get-remove_other}
use Rattle.egt_moves.specs.Prelude.{IsKeptFrom, Setup, IsAdmissible, IsKingOn, Has, Occupancy, sides_differ, side_twice}
use Rattle.std.specs.FinMap as map
use Rattle.egt_moves.proofs.MenAfter.{not_free}

-- kings attack each other
abbrev pub BothAttack : Type 0
BothAttack = (men others : Placement) (side other : Side) (s t : ℕ) → s < 64 → Reaches (IsFree men) (king_of side) s t → Reaches (IsFree others) (king_of other) t s

pub lone_king_kept : BothAttack → (p : Setup) → IsAdmissible p → (occupancy : Occupancy) → IsOccupancy p occupancy → (man : Man) (from t king lone : ℕ) → man.side ≡ p.side
    → IsKingOn p.men p.side king → IsKingOn p.men (other_side p.side) lone → ((s : ℕ) → Has occupancy.enemy s → s ≡ lone)
    → IsKeptFrom (map.remove p.men from) t man king (other_side p.side)
lone_king_kept both p ok occupancy are man from t king lone mine home away alone attack = ok.quiet (record {
  square = lone;
  stands = away.stands;
  attacked = record { from = king; man = king_of p.side; stands = home.stands; theirs = sym (side_twice p.side); reaches = back };
})
  where
    -- the attacker is no newcomer, so he stood there
    here : attack.from ≢ t
    here e = sides_differ p.side (sym mine ∙ ap (λ (m : Man). m.side) (one_man _ attack.from man attack.man (get-insert_same _ t man attack.from e) attack.stands) ∙ attack.theirs)

    stays : attack.from ≢ from
    stays e = not_free (map.remove p.men from) attack.from attack.man (get-remove_same p.men from attack.from e) (sym (get-insert_other _ t man attack.from here) ∙ attack.stands)

    stood : Stands p.men attack.from attack.man
    stood = sym (get-remove_other p.men from attack.from stays) ∙ sym (get-insert_other _ t man attack.from here) ∙ attack.stands

    on_lone : attack.from ≡ lone
    on_lone = alone attack.from ((are.enemy attack.from).1 (record { man = attack.man; stands = stood; theirs = attack.theirs }))

    is_king : attack.man ≡ king_of (other_side p.side)
    is_king = one_man p.men lone attack.man (king_of (other_side p.side)) (subst (λ s. Stands p.men s attack.man) on_lone stood) away.stands

    attacks : Reaches (IsFree (map.insert (map.remove p.men from) t man)) (king_of (other_side p.side)) lone king
    attacks = subst (λ (m : Man). Reaches (IsFree (map.insert (map.remove p.men from) t man)) m lone king) is_king (subst (λ s. Reaches (IsFree (map.insert (map.remove p.men from) t man)) attack.man s king) on_lone attack.reaches)

    back : Reaches (IsFree p.men) (king_of p.side) king lone
    back = both (map.insert (map.remove p.men from) t man) p.men (other_side p.side) p.side lone king (ok.on_board lone _ away.stands) attacks
