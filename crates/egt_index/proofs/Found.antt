-- The code that a position's digits make.
use Rattle.std.proofs.Common.{◌≡◌, ℕ, ◌<◌, false, cond, [], ◌∷◌, ◌++◌, arith, subst}
use Rattle.egt_index.specs.Prelude.{White, Black, king_of, side_number, Setup, IsAdmissible, IsKingOn, IsSettled}
use Rattle.egt_index.specs.Prelude.{Material, material_of, IsOf, number_from, number_of, king_base, bases, men_beside}
use Rattle.egt_index.specs.Prelude.{has_pawns, has_target, king_square, target_digits, Goes, IsLeastCode}
use Rattle.std.specs.FinMap as placement
use Rattle.egt_index.proofs.Coded.{digits_more, ends_by, last_by, number_append, picks_code}
use Rattle.egt_index.proofs.ImageCodes.{counted_of, target_has_digit}
use Rattle.egt_index.proofs.Best.{least_king}

pub code_made : (c : ℕ) (p : Setup) (s high number code : ℕ) → IsAdmissible p → IsSettled p → IsOf c false p → IsKingOn p.men White s
    → high < king_base (has_pawns (material_of c)) → king_square (has_pawns (material_of c)) high ≡ s
    → Goes (has_pawns (material_of c)) high (placement.remove p.men s) (king_of Black ∷ men_beside (material_of c)) number
    → code ≡ number_from number (2 ∷ cond (has_target (material_of c)) (2 ∷ []) []) (side_number p.side ∷ target_digits (material_of c) p.target)
    → IsLeastCode c p code
unfolding digits_more
code_made c p s high number code ok settled is_of king below is goes coded =
    let all = digits_more (has_pawns m) p.men (king_of White) (king_of Black ∷ men_beside m) s (ok.on_board s (king_of White) king.stands) (least_king p s king)
    (record { digit = high; below = below; is = is }) (record { digits = goes.digits; are = goes.are; picks = goes.picks }) in
    subst (IsLeastCode c p) same (picks_code c p (high ∷ goes.digits) ok (counted_of c p is_of) (target_has_digit c p ok settled is_of) all.are all.picks)
  where
    m : Material
    m = material_of c

    same : number_of (bases m) ((high ∷ goes.digits) ++ last_by m p) ≡ code
    same = grind (arith, number_append, ends_by, last_by)
