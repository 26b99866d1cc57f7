-- The written text of a position with its clocks spells it, and no bytes spell two.
use Rattle.std.proofs.Common.{◌≡◌, ℕ, ◌-◌, ◌<◌, ◌⊎◌, leb, List, [], ◌∷◌, Option, Some, None, arith, refl, sym, ap, ◌∙◌}
use Rattle.std.proofs.Common.{subst}
use Rattle.egt_fen.specs.Prelude.{and_from, le-leb, props, setup_of, Setup, IsAdmissible, Placement, FitsTarget}
use Rattle.egt_fen.specs.Prelude.{target_rank, Fen, Side, Fields, fields_of, named, runs_of, side_of, file_of, rank_of}
use Rattle.egt_fen.specs.Prelude.{is_file, is_passed_rank, target_of, both, counter_of, clocks_of, Parts, canonical}
use Rattle.egt_fen.specs.Prelude.{fields_text, placement_text, side_text, target_text, Spells, decimal}
use Rattle.egt_fen.proofs.Found.{listed_ranks, men_of-ranks, ranks-FitsBoard}
use Rattle.egt_fen.proofs.Ink.{AreWords, placement_word, side_word, target_word, decimal_word, runs_of-words}
use Rattle.egt_fen.proofs.Ink.{line_of-words, counter_read}
use Rattle.egt_fen.proofs.Parsed.{placement_read}
use Rattle.egt_fen.proofs.Spelling.{parts_with, spelled_read, ok_is}

words : (fen : Fen) → AreWords (fields_text fen)
words fen = (
  placement_word fen.position.men,
  (
    side_word fen.position.side,
    (
      record { ink = refl; some = omega arith },
      (
        target_word fen.position.target,
        (
          decimal_word fen.halfmove fen.halfmove_small,
          (decimal_word fen.fullmove fen.fullmove_small, tt),
        ),
      ),
    ),
  ),
)

abbrev fields_with : Fen → Fields
fields_with fen = record {
  placement = placement_text fen.position.men;
  side = side_text fen.position.side;
  castling = 45 ∷ [];
  target = target_text fen.position.target;
  clocks = Some (decimal fen.halfmove, decimal fen.fullmove);
}

fields_read : (fen : Fen) → fields_of (canonical fen) ≡ Some (fields_with fen)
unfolding canonical
fields_read fen = ap (λ line. named (runs_of line)) (line_of-words (fields_text fen) (words fen)) ∙ ap named (runs_of-words (fields_text fen) (words fen))

side_read : (side : Side) → side_of (side_text side) ≡ Some side
side_read side = grind arith

-- a target that can be written: none, or a square of the third or the sixth rank
abbrev IsWritable : Option ℕ → Type 0
IsWritable None = Unit {0}
IsWritable (Some s) = (rank_of s ≡ 2) ⊎ (rank_of s ≡ 5)

square_read : (s : ℕ) → IsWritable (Some s) → target_of (target_text (Some s)) ≡ Some (Some s)
square_read s passed = grind (arith, rank_of, file_of, and_from, is_file, is_passed_rank, leb, le-leb)

target_read : (target : Option ℕ) → IsWritable target → target_of (target_text target) ≡ Some target
target_read h0 writable = grind (arith, square_read)

-- the ranks that a target has with either side to move
rank_writable : (side : Side) (s : ℕ) → rank_of s ≡ target_rank side → IsWritable (Some s)
rank_writable h0 s rank = grind arith

-- so the target of an admissible position can be written
target_writable : (men : Placement) (side : Side) (target : Option ℕ) → FitsTarget men side target → IsWritable target
target_writable men side h2 fits = grind (arith, rank_writable)

clocks_read : (fen : Fen) → clocks_of (Some (decimal fen.halfmove, decimal fen.fullmove)) ≡ Some (fen.halfmove, fen.fullmove)
clocks_read fen =
    ap (λ o. both o (counter_of (decimal fen.fullmove))) (counter_read fen.halfmove fen.halfmove_small)
    ∙ ap (both (Some fen.halfmove)) (counter_read fen.fullmove fen.fullmove_small)

pub written_spells : (fen : Fen) → IsAdmissible fen.position → Spells (canonical fen) fen
written_spells fen admissible = record {
  fields = fields_with fen;
  men = listed_ranks fen.position.men 7;
  split = fields_read fen;
  placement = placement_read fen.position.men;
  side = side_read fen.position.side;
  castling = refl;
  target = target_read fen.position.target (target_writable fen.position.men fen.position.side fen.position.target admissible.target);
  clocks = clocks_read fen;
  board = sym (men_of-ranks fen.position.men admissible.on_board);
  fits = ranks-FitsBoard fen.position.men admissible.on_board admissible.few;
  admissible = admissible;
}

abbrev position_of : Parts → Setup
position_of p = setup_of p.men p.side p.target

-- the parts of a text are those of what it spells
position_is : (text : List ℕ) (fen : Fen) (s : Spells text fen) → fen.position ≡ position_of (parts_with s.men fen)
position_is text fen s = ap (λ m. record { men = m; side = fen.position.side; target = fen.position.target }) s.board

abbrev fen_of : (p : Setup) (half full : ℕ) → half < 1000000000 → full < 1000000000 → Fen
fen_of p half full half_small full_small = record { position = p; halfmove = half; fullmove = full; halfmove_small = half_small; fullmove_small = full_small }

-- that a clock is small has one proof
small-prop : (n : ℕ) (a b : n < 1000000000) → a ≡ b
small-prop n a b = let prop : IsProp (n < 1000000000) = hlevel props in prop a b

same_clocks : (p : Setup) (h f x y : ℕ) → h ≡ x → f ≡ y → (hs : h < 1000000000) (fs : f < 1000000000) (xs : x < 1000000000) (ys : y < 1000000000) → fen_of p h f hs fs ≡ fen_of p x y xs ys
same_clocks p h f x y half full hs fs xs ys =
    subst (λ m. (ms : m < 1000000000) → fen_of p h f hs fs ≡ fen_of p m y ms ys) half
    (subst (λ n. (ns : n < 1000000000) (ms : h < 1000000000) → fen_of p h f hs fs ≡ fen_of p h n ms ns) full
    (λ ns ms. ap (λ a. fen_of p h f a fs) (small-prop h hs ms) ∙ ap (λ a. fen_of p h f ms a) (small-prop f fs ns)) ys) xs

same_fen : (one other : Fen) → one.position ≡ other.position → one.halfmove ≡ other.halfmove → one.fullmove ≡ other.fullmove → one ≡ other
same_fen one other p half full =
    same_clocks one.position one.halfmove one.fullmove other.halfmove other.fullmove half full one.halfmove_small one.fullmove_small other.halfmove_small other.fullmove_small
    ∙ ap (λ q. fen_of q other.halfmove other.fullmove other.halfmove_small other.fullmove_small) p

-- no bytes spell two
pub one_meaning : (text : List ℕ) (one other : Fen) → Spells text one → Spells text other → one ≡ other
one_meaning text one other s t =
    let same = ok_is (parts_with s.men one) (parts_with t.men other) (sym (spelled_read text one s) ∙ spelled_read text other t) in
    same_fen one other (position_is text one s ∙ ap position_of same ∙ sym (position_is text other t)) (ap (λ (p : Parts). p.halfmove) same) (ap (λ (p : Parts). p.fullmove) same)
