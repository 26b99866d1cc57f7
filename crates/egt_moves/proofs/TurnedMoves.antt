-- Each move of a position has its like in the turned position.
use Rattle.std.proofs.Common.{ℕ, ◌↔◌, ◌/◌, ◌%◌, ◌==◌, Bool, true, false, refl, sym, subst, inl, inr}
use Rattle.egt_moves.specs.Prelude.{Mirror, Files, Ranks, Diagonal, Colours, IsInCheck, HasNoPawn, Setup, IsAdmissible}
use Rattle.egt_moves.specs.Prelude.{AreMirroredIf, ComesByMirrors, square_if, KeepsPlay, Move, Zeroes, Leads}
use Rattle.egt_moves.specs.Prelude.{turned_move, goes_on_board}
use Rattle.egt_moves.proofs.Admissible.{admissible_after}
use Rattle.egt_moves.proofs.MirroredMoves.{move_by, leads_there, zeroes_there, zeroes_back, no_pawn_after}

-- what a legal move leads to is a position
pub leads_admissible : (p q : Setup) (x : Move) → IsAdmissible p → Leads p x q → IsAdmissible q
leads_admissible p q x ok l = subst IsAdmissible (sym l.becomes)
    (admissible_after p l.man x l.stands l.mine l.goes l.promotion ok (subst (λ (y : Setup). ¬ IsInCheck y.men p.side) l.becomes l.safe))

-- whose symmetries are the same at least
pub leads_keeps : (n : ℕ) (p q : Setup) (x : Move) → IsAdmissible p → Leads p x q → KeepsPlay n p.men → KeepsPlay n q.men
leads_keeps n p q x ok l (inl none) = inl (subst (λ (y : Setup). HasNoPawn y.men) (sym l.becomes) (no_pawn_after p l.man x ok l.stands l.promotion none))
leads_keeps n p q x ok l (inr less) = inr less

-- the move in the mirror, or as it is
abbrev move_if : Bool → Mirror → Move → Move
move_if turns m x = record { from = square_if turns m x.from; to = square_if turns m x.to; promo = x.promo }

-- the step to q and its like to q', which zero both or neither
record AreLike (turns : Bool) (m : Mirror) (p p' q : Setup) (x : Move) : Type 0 where
  there : Setup
  leads : Leads p' (move_if turns m x) there
  mirrored : AreMirroredIf turns m q there
  zeroes : Zeroes p x ↔ Zeroes p' (move_if turns m x)

like_if : (turns : Bool) (m : Mirror) (p p' q : Setup) (x : Move) → AreMirroredIf turns m p p' → Leads p x q → AreLike turns m p p' q x
unfolding move_by
like_if true m p p' q x are l =
    let there = leads_there m p p' q x are l in
    let from_in = are.here.on_board x.from l.man l.stands in
    let to_in = goes_on_board p l.man x.from x.to l.goes in
    record { there = there.0; leads = there.1; mirrored = there.2; zeroes = (zeroes_there m p p' x are, zeroes_back m p p' x from_in to_in are) }
like_if false m p p' q x same l = subst (λ y. AreLike false m p y q x) same (record { there = q; leads = l; mirrored = refl; zeroes = (λ z. z, λ z. z) })

-- mirror by mirror
pub like_turned : (n : ℕ) (flipped : Bool) (p p' q : Setup) (x : Move) → ComesByMirrors n flipped p p' → Leads p x q
    → (q' : Setup) × Leads p' (turned_move n flipped x) q' × ComesByMirrors n flipped q q' × (Zeroes p x ↔ Zeroes p' (turned_move n flipped x))
like_turned n flipped p p' q x comes l = (
  d.there,
  d.leads,
  record { first = a.there; second = b.there; third = c.there; files = a.mirrored; ranks = b.mirrored; diagonal = c.mirrored; colours = d.mirrored },
  (λ z. d.zeroes.0 (c.zeroes.0 (b.zeroes.0 (a.zeroes.0 z))), λ z. a.zeroes.1 (b.zeroes.1 (c.zeroes.1 (d.zeroes.1 z)))),
)
  where
    a : AreLike (n % 2 == 1) Files p comes.first q x
    a = like_if (n % 2 == 1) Files p comes.first q x comes.files l

    xa : Move
    xa = move_if (n % 2 == 1) Files x

    b : AreLike (n / 2 % 2 == 1) Ranks comes.first comes.second a.there xa
    b = like_if (n / 2 % 2 == 1) Ranks comes.first comes.second a.there xa comes.ranks a.leads

    xb : Move
    xb = move_if (n / 2 % 2 == 1) Ranks xa

    c : AreLike (n / 4 == 1) Diagonal comes.second comes.third b.there xb
    c = like_if (n / 4 == 1) Diagonal comes.second comes.third b.there xb comes.diagonal b.leads

    xc : Move
    xc = move_if (n / 4 == 1) Diagonal xb

    d : AreLike flipped Colours comes.third p' c.there xc
    d = like_if flipped Colours comes.third p' c.there xc comes.colours c.leads
