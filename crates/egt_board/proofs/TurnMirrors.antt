-- A turn as mirrors, one after another.
use Rattle.std.proofs.Common.{◌≡◌, ℕ, ◌/◌, ◌%◌, ◌==◌, Bool, true, false, arith, refl, sym, subst, inl, inr}
use Rattle.egt_board.specs.Prelude.{eqb-true, Mirror, Files, Ranks, Diagonal, Colours, HasNoPawn, Setup, IsAdmissible}
use Rattle.egt_board.specs.Prelude.{Allows, OnBoard, no_pawn_by, AreMirroredIf, ComesByMirrors, square_if}
use Rattle.egt_board.specs.Prelude.{IsKeepingSides, KeepsPlay, IsCarried, IsImage, IsTurnedBy, setup_if, turned_by}
use Rattle.egt_board.proofs.Reflected.{setup_by-is}
use Rattle.egt_board.proofs.Images.{setup_by-kept, carried_of, carried_on, square_if-within}
use Rattle.egt_board.proofs.Turns.{turned_made}

-- one mirror, taken or not
mirrored_if : (turns : Bool) (m : Mirror) (p : Setup) → IsAdmissible p → (turns ≡ true → Allows m p.men) → AreMirroredIf turns m p (setup_if turns m p)
unfolding setup_if
mirrored_if true m p ok allows = record { here = ok; there = (setup_by-kept m p ok (allows refl)).admissible; mirrored = setup_by-is m p; allowed = allows refl }
mirrored_if false m p ok allows = refl

admissible_if : (turns : Bool) (m : Mirror) (p q : Setup) → IsAdmissible p → AreMirroredIf turns m p q → IsAdmissible q
admissible_if turns m p q ok are = grind arith

no_pawn_if : (turns : Bool) (m : Mirror) (p q : Setup) → AreMirroredIf turns m p q → HasNoPawn p.men → HasNoPawn q.men
no_pawn_if true m p q are none = no_pawn_by m p.men q.men are.mirrored.men are.there.on_board none
no_pawn_if false m p q same none = subst (λ (x : Setup). HasNoPawn x.men) same none

pub turned_mirrors : (n : ℕ) (flipped : Bool) (p q : Setup) → IsAdmissible p → KeepsPlay n p.men → IsTurnedBy n flipped p q → ComesByMirrors n flipped p q
unfolding turned_by
turned_mirrors n flipped p q ok keeps is = record {
  first = p1;
  second = p2;
  third = p3;
  files = files;
  ranks = ranks;
  diagonal = diagonal;
  colours = subst (AreMirroredIf flipped Colours p3) (sym ((turned_made n flipped p q ok.on_board).0 is)) (mirrored_if flipped Colours p3 ok3 (λ _. tt));
}
  where
    p1 : Setup
    p1 = setup_if (n % 2 == 1) Files p

    files : AreMirroredIf (n % 2 == 1) Files p p1
    files = mirrored_if (n % 2 == 1) Files p ok (λ _. tt)

    ok1 : IsAdmissible p1
    ok1 = admissible_if (n % 2 == 1) Files p p1 ok files

    p2 : Setup
    p2 = setup_if (n / 2 % 2 == 1) Ranks p1

    ranks : AreMirroredIf (n / 2 % 2 == 1) Ranks p1 p2
    ranks = mirrored_if (n / 2 % 2 == 1) Ranks p1 ok1 (λ turns. elim keeps [
      | inl none ↦ no_pawn_if (n % 2 == 1) Files p p1 files none
      | inr less ↦ let e = eqb-true (n / 2 % 2) 1 turns in absurd (omega arith)
    ])

    ok2 : IsAdmissible p2
    ok2 = admissible_if (n / 2 % 2 == 1) Ranks p1 p2 ok1 ranks

    p3 : Setup
    p3 = setup_if (n / 4 == 1) Diagonal p2

    diagonal : AreMirroredIf (n / 4 == 1) Diagonal p2 p3
    diagonal = mirrored_if (n / 4 == 1) Diagonal p2 ok2 (λ turns. elim keeps [
      | inl none ↦ no_pawn_if (n / 2 % 2 == 1) Ranks p1 p2 ranks (no_pawn_if (n % 2 == 1) Files p p1 files none)
      | inr less ↦ let e = eqb-true (n / 4) 1 turns in absurd (omega arith)
    ])

    ok3 : IsAdmissible p3
    ok3 = admissible_if (n / 4 == 1) Diagonal p2 p3 ok2 diagonal

-- a mirror that keeps sides carries the men
carried_if : (turns : Bool) (m : Mirror) (p q : Setup) → IsKeepingSides m → OnBoard p.men → AreMirroredIf turns m p q → IsCarried (square_if turns m) p q
carried_if turns m p q keeps ok are = grind (arith, carried_of)

pub mirrors_turn : (n : ℕ) (flipped : Bool) (p q : Setup) → IsAdmissible p → ComesByMirrors n flipped p q → IsTurnedBy n flipped p q
mirrors_turn n flipped p q ok comes = by_colours flipped comes.colours
  where
    ok1 : IsAdmissible comes.first
    ok1 = admissible_if (n % 2 == 1) Files p comes.first ok comes.files

    ok2 : IsAdmissible comes.second
    ok2 = admissible_if (n / 2 % 2 == 1) Ranks comes.first comes.second ok1 comes.ranks

    is2 : IsCarried (λ s. square_if (n / 2 % 2 == 1) Ranks (square_if (n % 2 == 1) Files s)) p comes.second
    is2 = carried_on (square_if (n % 2 == 1) Files) (square_if (n / 2 % 2 == 1) Ranks) p comes.first comes.second (square_if-within (n % 2 == 1) Files)
        (carried_if (n % 2 == 1) Files p comes.first tt ok.on_board comes.files) (carried_if (n / 2 % 2 == 1) Ranks comes.first comes.second tt ok1.on_board comes.ranks)

    is3 : IsImage n p comes.third
    is3 = carried_on _ (square_if (n / 4 == 1) Diagonal) p comes.second comes.third (λ t t_in. square_if-within (n / 2 % 2 == 1) Ranks _ (square_if-within (n % 2 == 1) Files t t_in)) is2
        (carried_if (n / 4 == 1) Diagonal comes.second comes.third tt ok2.on_board comes.diagonal)

    by_colours : (flipped : Bool) → AreMirroredIf flipped Colours comes.third q → IsTurnedBy n flipped p q
    by_colours false same = subst (IsImage n p) same is3
    by_colours true are = (comes.third, is3, are.mirrored)
