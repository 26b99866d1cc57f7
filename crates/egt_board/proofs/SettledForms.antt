-- The settled form of a position, and those of its images.
use Rattle.std.proofs.Common.{arith, ◌≡◌, ℕ, Bool, true, false, if◌then◌else◌, refl, sym, subst, inl, inr}
use Rattle.egt_board.specs.Prelude.{Decided, tells, decided_settled, settled_form, AreImages, Setup, IsAdmissible}
use Rattle.egt_board.specs.Prelude.{IsSettled, SettlesTo, untargeted, KeepsPlay, IsTurnedBy}
use Rattle.egt_board.proofs.Turns.{turned_kept, turned_is_image, images_turned}

settles_as_told : (p : Setup) (d : Decided (IsSettled p)) → SettlesTo p (if tells d then p else untargeted p)
settles_as_told p (inl settled) = inl (settled, refl)
settles_as_told p (inr unsettled) = inr (unsettled, refl)

settled_form-is : (p : Setup) → SettlesTo p (settled_form p)
unfolding settled_form
settled_form-is p = settles_as_told p (decided_settled p)

settles_once : (p q r : Setup) → SettlesTo p q → SettlesTo p r → q ≡ r
settles_once p q r h e = grind arith

pub settles_made : (p q : Setup) → (SettlesTo p q → q ≡ settled_form p) × (q ≡ settled_form p → SettlesTo p q)
settles_made p q = (
  λ settles. settles_once p q (settled_form p) settles (settled_form-is p),
  λ e. subst (SettlesTo p) (sym e) (settled_form-is p),
)

untargeted_admissible : (p : Setup) → IsAdmissible p → IsAdmissible (untargeted p)
untargeted_admissible p ok = record { few = ok.few; on_board = ok.on_board; kings = ok.kings; pawns = ok.pawns; target = tt; quiet = ok.quiet }

pub settles_admissible : (p q : Setup) → IsAdmissible p → SettlesTo p q → IsAdmissible q
settles_admissible p q ok h = grind (arith, untargeted_admissible)

pub settles_settled : (p q : Setup) → SettlesTo p q → IsSettled q
settles_settled p q h = grind arith

pub settles_men : (p q : Setup) → SettlesTo p q → q.men ≡ p.men
settles_men p q h = grind arith

-- a turn takes the position without its target to the turned one without its target
untargeted_turned : (n : ℕ) (flipped : Bool) (p q : Setup) → IsTurnedBy n flipped p q → IsTurnedBy n flipped (untargeted p) (untargeted q)
untargeted_turned n false p q is = record { men = is.men; side = is.side; target = refl; on_board = is.on_board }
untargeted_turned n true p q is = (
  untargeted is.0,
  record { men = is.1.men; side = is.1.side; target = refl; on_board = is.1.on_board },
  record { men = is.2.men; side = is.2.side; target = refl; on_board = is.2.on_board },
)

pub turned_settles : (n : ℕ) (flipped : Bool) (p p' q q' : Setup) → IsAdmissible p → KeepsPlay n p.men → IsTurnedBy n flipped p p' → SettlesTo p q → SettlesTo p' q' → IsTurnedBy n flipped q q'
turned_settles n flipped p p' q q' ok keeps is first second = by_form first second
  where
    alike : (IsSettled p → IsSettled p') × (IsSettled p' → IsSettled p)
    alike = (turned_kept n flipped p p' ok keeps is).settled

    same : (x x' : Setup) → q ≡ x → q' ≡ x' → IsTurnedBy n flipped x x' → IsTurnedBy n flipped q q'
    same x x' e e' h = subst (λ y. IsTurnedBy n flipped y q') (sym e) (subst (IsTurnedBy n flipped x) (sym e') h)

    by_form : SettlesTo p q → SettlesTo p' q' → IsTurnedBy n flipped q q'
    by_form (inl here) (inl there) = same p p' here.1 there.1 is
    by_form (inl here) (inr there) = absurd (there.0 (alike.0 here.0))
    by_form (inr here) (inl there) = absurd (here.0 (alike.1 there.0))
    by_form (inr here) (inr there) = same (untargeted p) (untargeted p') here.1 there.1 (untargeted_turned n flipped p p' is)

pub images_settle : (p p' q q' : Setup) → IsAdmissible p → AreImages p p' → SettlesTo p q → SettlesTo p' q' → AreImages q q'
images_settle p p' q q' ok images first second =
    let t = images_turned p p' ok images in
    turned_is_image t.0 t.1 q q' t.2 (subst (KeepsPlay t.0) (sym (settles_men p q first)) t.3) (turned_settles t.0 t.1 p p' q q' ok t.3 t.4 first second)
