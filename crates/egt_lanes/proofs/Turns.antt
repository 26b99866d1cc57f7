-- Rows in a mirror.
use Rattle.std.proofs.Common.{◌≡◌, ℕ, ◌<◌, T, eqb, List, ◌++◌, length, get_or, sym, ap, ◌∙◌}
use Rattle.egt_lanes.specs.Prelude.{Mirror, square_by}
use lib.Lanes.{pick_l}
use Rattle.egt_lanes.proofs.Tests.{passes_below}
use Rattle.egt_lanes.proofs.Picks.{picked}
use Rattle.egt_board.specs.MirrorLaws.{square_by-within}

pub mirrored_at : (row result ks : List ℕ) (m mirror : Mirror) → length row ≡ 64 → length ks ≡ 64 → T (passes_below (λ s. eqb (get_or ks s 0) (square_by m s)) 64)
    → mirror ≡ m → result ≡ pick_l 0 (row ++ row) ks → (s : ℕ) → s < 64 → get_or result s 0 ≡ get_or row (square_by mirror s) 0
mirrored_at row result ks m mirror long all right is e s s_in =
    ap (λ r. get_or r s 0) e ∙ picked row row ks (square_by m) long all right s s_in (square_by-within m s s_in) ∙ ap (λ m. get_or row (square_by m s) 0) (sym is)
