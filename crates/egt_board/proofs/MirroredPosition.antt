-- A position in a mirror.
use Rattle.std.proofs.Common.{◌≡◌, ◌≢◌, ℕ, ◌+◌, ◌<◌, ◌≤◌, ◌↔◌, Bool, true, cond, Option, Some, None, arith, refl}
use Rattle.std.proofs.Common.{sym, ap, ◌∙◌, subst, inl, inr}
use Rattle.egt_board.specs.Prelude.{bit_at, option_map, other_side, IsAdmissible, target_rank, stands_back, man_by-twice}
use Rattle.egt_board.specs.Prelude.{is_some, nat_cmp, Colours, size_of, PawnsFit, IsTarget, ahead_by, suits_of, ShowsMen}
use Rattle.egt_board.specs.Prelude.{nat_cmp_total, Files, target_between, square_by-twice, attacked_back, side_by-turned}
use Rattle.egt_board.specs.Prelude.{cases_eq, Diagonal, Placement, IsAttacked, IsKingOn, HasKings, square_by, FitsTarget}
use Rattle.egt_board.specs.Prelude.{Mirror, Stands, IsFree, king_of, side_by, man_by, Allows, rank_of, pawn_of, OnBoard}
use Rattle.egt_board.specs.Prelude.{Ranks, Side, White, Black, Kind, P, K, Man, Has, Setup, ahead, Suits}
use Rattle.egt_board.specs.Prelude.{SquareSet, get-insert_same, get-insert_other, square_by-within, side_by-turned_twice}
use Rattle.std.specs.FinMap as map
use Rattle.egt_board.proofs.Bits.{not_both}

-- the men on squares that are no longer left stand in the mirror
pub record Turns (m : Mirror) (men board : Placement) (rest : SquareSet) : Type 0 where
  pub done : (t : ℕ) → t < 64 → bit_at rest.bits t ≡ 0 → map.get board (square_by m t) ≡ option_map (man_by m) (map.get men t)
  pub stands : (t : ℕ) → Has rest t → is_some (map.get men t) ≡ true
  pub on_board : OnBoard board
  pub few : map.len board + size_of rest ≤ map.len men

king_by : (m : Mirror) (men men' : Placement) (side : Side) (k : ℕ) → ShowsMen m men men' → OnBoard men → OnBoard men' → IsKingOn men side k → IsKingOn men' (side_by m side) (square_by m k)
king_by m men men' side k shows ok ok' king = record {
  stands = shows k (ok k _ king.stands) ∙ ap (option_map (man_by m)) king.stands;
  only = λ t there.
      let t_in = ok' t _ there in
      let back = stands_back m men men' shows t (king_of (side_by m side)) t_in there in
      let here : Stands men (square_by m t) (king_of side) = subst (λ x. Stands men (square_by m t) x) (man_by-twice m (king_of side)) back in
      sym (square_by-twice m t t_in) ∙ ap (square_by m) (king.only (square_by m t) here);
}

kings_by : (m : Mirror) (men men' : Placement) → ShowsMen m men men' → OnBoard men → OnBoard men' → HasKings men → HasKings men'
kings_by Files men men' shows ok ok' kings = record { white = square_by Files kings.white; black = square_by Files kings.black; white_there = king_by Files men men' White kings.white shows ok ok' kings.white_there; black_there = king_by Files men men' Black kings.black shows ok ok' kings.black_there }
kings_by Ranks men men' shows ok ok' kings = record { white = square_by Ranks kings.white; black = square_by Ranks kings.black; white_there = king_by Ranks men men' White kings.white shows ok ok' kings.white_there; black_there = king_by Ranks men men' Black kings.black shows ok ok' kings.black_there }
kings_by Diagonal men men' shows ok ok' kings = record { white = square_by Diagonal kings.white; black = square_by Diagonal kings.black; white_there = king_by Diagonal men men' White kings.white shows ok ok' kings.white_there; black_there = king_by Diagonal men men' Black kings.black shows ok ok' kings.black_there }
kings_by Colours men men' shows ok ok' kings = record { white = square_by Colours kings.black; black = square_by Colours kings.white; white_there = king_by Colours men men' Black kings.black shows ok ok' kings.black_there; black_there = king_by Colours men men' White kings.white shows ok ok' kings.white_there }

-- a rank stays between the first and the last
between_by : (m : Mirror) (kind : Kind) (s : ℕ) → s < 64 → Suits m kind → kind ≡ P → (0 < rank_of s) × (rank_of s < 7) → (0 < rank_of (square_by m s)) × (rank_of (square_by m s) < 7)
between_by m kind s s_in suits pawn h = grind arith

-- pawns stay off the first rank and the last
pawns_by : (m : Mirror) (men men' : Placement) → Allows m men → ShowsMen m men men' → OnBoard men' → PawnsFit men → PawnsFit men'
pawns_by m men men' allows shows ok' fit = λ t man stands pawn.
    let t_in = ok' t man stands in
    let back = stands_back m men men' shows t man t_in stands in
    subst (λ x. (0 < rank_of x) × (rank_of x < 7)) (square_by-twice m t t_in)
    (between_by m man.kind (square_by m t) (square_by-within m t t_in) (suits_of m men (square_by m t) (man_by m man) allows back) pawn (fit (square_by m t) (man_by m man) back pawn))

pub stands_by : (m : Mirror) (men men' : Placement) (s : ℕ) (man : Man) → ShowsMen m men men' → s < 64 → Stands men s man → Stands men' (square_by m s) (man_by m man)
stands_by m men men' s man shows s_in stands = shows s s_in ∙ ap (option_map (man_by m)) stands

free_by : (m : Mirror) (men men' : Placement) (s : ℕ) → ShowsMen m men men' → s < 64 → IsFree men s → IsFree men' (square_by m s)
free_by m men men' s shows s_in free = shows s s_in ∙ ap (option_map (man_by m)) free

pub ahead_within : (side : Side) (t : ℕ) → 0 < rank_of t → rank_of t < 7 → ahead side t < 64
ahead_within side t low high = grind arith

rank_colours : (mover : Side) (t : ℕ) → rank_of t ≡ target_rank mover → rank_of (square_by Colours t) ≡ target_rank (other_side mover)
rank_colours mover t e = grind arith

-- a target stays one
target_by : (m : Mirror) (men men' : Placement) (mover : Side) (t : ℕ) → Allows m men → ShowsMen m men men' → IsTarget men mover t → IsTarget men' (side_by m mover) (square_by m t)
target_by Files men men' mover t allows shows is =
    let b = target_between mover t is.rank in
    record {
      rank = (let e = is.rank in omega arith);
      empty = free_by Files men men' t shows (let h = b.1 in omega arith) is.empty;
      left = subst (IsFree men') (ahead_by Files mover t tt b.0 b.1) (free_by Files men men' (ahead mover t) shows (ahead_within mover t b.0 b.1) is.left);
      advanced = subst (λ x. Stands men' x (pawn_of (other_side mover))) (ahead_by Files (other_side mover) t tt b.0 b.1) (stands_by Files men men' (ahead (other_side mover) t) (pawn_of (other_side mover)) shows (ahead_within (other_side mover) t b.0 b.1) is.advanced);
    }
target_by Ranks men men' mover t allows shows is = absurd (allows _ _ is.advanced refl)
target_by Diagonal men men' mover t allows shows is = absurd (allows _ _ is.advanced refl)
target_by Colours men men' mover t allows shows is =
    let b = target_between mover t is.rank in
    record {
      rank = rank_colours mover t is.rank;
      empty = free_by Colours men men' t shows (let h = b.1 in omega arith) is.empty;
      left = subst (IsFree men') (ahead_by Colours mover t tt b.0 b.1) (free_by Colours men men' (ahead mover t) shows (ahead_within mover t b.0 b.1) is.left);
      advanced = subst (λ x. Stands men' x (pawn_of (other_side (other_side mover)))) (ahead_by Colours (other_side mover) t tt b.0 b.1) (stands_by Colours men men' (ahead (other_side mover) t) (pawn_of (other_side mover)) shows (ahead_within (other_side mover) t b.0 b.1) is.advanced);
    }

targets_by : (m : Mirror) (men men' : Placement) (mover : Side) (target : Option ℕ) → Allows m men → ShowsMen m men men' → FitsTarget men mover target → FitsTarget men' (side_by m mover) (option_map (square_by m) target)
targets_by m men men' mover target allows shows fits = grind (arith, target_by)

-- a mirrored position is admissible
pub admissible_by : (m : Mirror) (p : Setup) (men' : Placement) (target : Option ℕ) → IsAdmissible p → Allows m p.men → ShowsMen m p.men men' → OnBoard men' → map.len men' ≤ map.len p.men → target ≡ option_map (square_by m) p.target
    → IsAdmissible (record { men = men'; side = side_by m p.side; target = target })
admissible_by m p men' target ok allows shows ok' few is = record {
  few = let le = ok.few in omega arith;
  on_board = ok';
  kings = kings_by m p.men men' shows ok.on_board ok' ok.kings;
  pawns = pawns_by m p.men men' allows shows ok' ok.pawns;
  target = subst (FitsTarget men' (side_by m p.side)) (sym is) (targets_by m p.men men' p.side p.target allows shows ok.target);
  quiet = λ check.
      let t_in = ok' check.square _ check.stands in
      let back = stands_back m p.men men' shows check.square (king_of (other_side (side_by m p.side))) t_in check.stands in
      ok.quiet (record {
        square = square_by m check.square;
        stands = back ∙ ap Some (λ i. record { side = side_by-turned m p.side i; kind = K });
        attacked = subst (IsAttacked p.men (square_by m check.square)) (side_by-turned_twice m p.side) (attacked_back m p.men men' _ check.square allows shows ok' check.attacked);
      });
}

-- at first nothing stands in the mirror
pub Turns-none : (m : Mirror) (men : Placement) (rest : SquareSet) → ((t : ℕ) → (bit_at rest.bits t ≡ 0) ↔ IsFree men t) → size_of rest ≤ map.len men → Turns m men map.empty rest
Turns-none m men rest free few = record {
  done = λ t t_in none. map.get-empty nat_cmp (square_by m t) ∙ sym (ap (option_map (man_by m)) ((free t).0 none));
  stands = λ t has. held (map.get men t) (λ e. not_both (bit_at rest.bits t) ((free t).1 e) has);
  on_board = λ s man there. let bad : Some man ≡ None = sym there ∙ map.get-empty nat_cmp s in absurd (cc);
  few = let none = map.len-empty nat_cmp Man in omega arith;
}
  where
    held : (o : Option Man) → (o ≡ None → ⊥) → is_some o ≡ true
    held o h = grind arith

pub Turns-more : (m : Mirror) (men board : Placement) (rest rest' : SquareSet) (s : ℕ) (man : Man) → s < 64 → OnBoard men → Has rest s → bit_at rest'.bits s ≡ 0 → ((t : ℕ) → t ≢ s → bit_at rest'.bits t ≡ bit_at rest.bits t) → size_of rest' + 1 ≡ size_of rest
    → Stands men s man → Turns m men board rest → Turns m men (map.insert board (square_by m s) (man_by m man)) rest'
Turns-more m men board rest rest' s man s_in ok has gone others size there turns = record {
  done = λ t t_in none. elim (cases_eq t s) [
    | inl e ↦ get-insert_same board (square_by m s) (man_by m man) (square_by m t) (ap (square_by m) e) ∙ sym (ap (option_map (man_by m)) (ap (map.get men) e ∙ there))
    | inr other ↦
        get-insert_other board (square_by m s) (man_by m man) (square_by m t) (λ same. other (sym (square_by-twice m t t_in) ∙ ap (square_by m) same ∙ square_by-twice m s s_in))
        ∙ turns.done t t_in (sym (others t other) ∙ none)
  ];
  stands = λ t left. elim (cases_eq t s) [
    | inl e ↦ not_both (bit_at rest'.bits s) gone (ap (bit_at rest'.bits) (sym e) ∙ left)
    | inr other ↦ turns.stands t (sym (others t other) ∙ left)
  ];
  on_board = λ t other_man stands. elim (cases_eq t (square_by m s)) [
    | inl e ↦ subst (λ x. x < 64) (sym e) (square_by-within m s s_in)
    | inr other ↦ turns.on_board t other_man (sym (get-insert_other board (square_by m s) (man_by m man) t other) ∙ stands)
  ];
  few =
      let before = turns.few in
      let more = longer (map.contains_key board (square_by m s)) _ _ (map.len-insert nat_cmp_total board (square_by m s) (man_by m man)) in
      omega arith;
}
  where
    longer : (b : Bool) (l n : ℕ) → l ≡ cond b n (n + 1) → l ≤ n + 1
    longer b l n e = grind arith
