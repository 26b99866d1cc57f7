-- A placement read from its front is the placement read by ranks.
use Rattle.std.proofs.Common.{◌≡◌, ◌≢◌, ℕ, zero, suc, ◌+◌, ◌-◌, ◌*◌, ◌<◌, Bool, true, false, cond, ◌&&◌, eqb, ltb, leb}
use Rattle.std.proofs.Common.{List, [], ◌∷◌, ◌++◌, length, Option, Some, None, arith, refl, sym, ap, ◌∙◌, inl, inr}
use Rattle.std.proofs.Common.{add_assoc}
use Rattle.egt_fen.specs.Prelude.{slice_split, list_all, onto_first, sum_by, option_map, add-zero, zero-add, cases_Bool}
use Rattle.egt_fen.specs.Prelude.{lt-ltb, eqb-true, eqb-false, eq-eqb, ne_eqb, leb-false, append_assoc, sum_by-cons}
use Rattle.egt_fen.specs.Prelude.{Man, man_of, is_slash, width_of, has_width, is_rank, on_square, men_from}
use Rattle.egt_fen.specs.Prelude.{men_of_ranks, ranks_of, placement_of, men_left}

abbrev Men : Type 0
Men = List (Man × ℕ)

cond_and : {A : Type 0} (a b : Bool) (x y : A) → cond (a && b) x y ≡ cond a (cond b x y) y
cond_and a b x y = grind arith

cond_same : {A : Type 0} (a : Bool) (x : A) → cond a x x ≡ x
cond_same a x = grind arith

cond_swap : {A : Type 0} (a b : Bool) (x y : A) → cond a (cond b x y) y ≡ cond b (cond a x y) y
cond_swap h0 b x y = grind (arith, cond_same)

-- the rest of a rank from this file on
abbrev fills : ℕ → List ℕ → Bool
fills file part = list_all has_width part && eqb (file + sum_by width_of part) 8

-- the men of the rest of a rank, of which f files are behind, and of as many ranks below it as its number says
abbrev rest_of : ℕ → ℕ → List (List ℕ) → Option Men
rest_of rank file [] = None
rest_of rank file (part ∷ parts) =
    cond (eqb (length parts) rank) (cond (fills file part) (cond (list_all is_rank parts) (Some (men_from (8 * rank + file) part ++ men_of_ranks parts)) None) None) None

-- whole ranks, as many as their number says
abbrev whole : ℕ → List (List ℕ) → Option Men
whole count ranks = cond (eqb (length ranks) count) (cond (list_all is_rank ranks) (Some (men_of_ranks ranks)) None) None

-- the beginning of a rank is a whole one
rest_of-start : (rank : ℕ) (part : List ℕ) (parts : List (List ℕ)) → rest_of rank 0 (part ∷ parts) ≡ whole (suc rank) (part ∷ parts)
rest_of-start rank part parts = elim (cases_Bool (eqb (length parts) rank)) [
  | inl equal ↦
      let same : length parts ≡ rank = eqb-true (length parts) rank equal in
      ap (λ b. cond b (cond (fills 0 part) (cond (list_all is_rank parts) (Some (men_from (8 * rank + 0) part ++ men_of_ranks parts)) None) None) None) equal
      ∙ ap (λ n. cond (list_all has_width part && eqb n 8) (cond (list_all is_rank parts) (Some (men_from (8 * rank + 0) part ++ men_of_ranks parts)) None) None) (zero-add (sum_by width_of part))
      ∙ ap (λ n. cond (is_rank part) (cond (list_all is_rank parts) (Some (men_from n part ++ men_of_ranks parts)) None) None) (square rank (length parts) same)
      ∙ sym (cond_and (is_rank part) (list_all is_rank parts) (Some (men_of_ranks (part ∷ parts))) None)
      ∙ sym (ap (λ b. cond b (cond (list_all is_rank (part ∷ parts)) (Some (men_of_ranks (part ∷ parts))) None) None) (eq-eqb (suc (length parts)) (suc rank) (ap suc same)))
  | inr differs ↦
      ap (λ b. cond b (cond (fills 0 part) (cond (list_all is_rank parts) (Some (men_from (8 * rank + 0) part ++ men_of_ranks parts)) None) None) None) differs
      ∙ sym (ap (λ b. cond b (cond (list_all is_rank (part ∷ parts)) (Some (men_of_ranks (part ∷ parts))) None) None) (ne_eqb (suc (length parts)) (suc rank) (other rank (length parts) (eqb-false (length parts) rank differs))))
]
  where
    square : (r n : ℕ) → n ≡ r → 8 * r + 0 ≡ 8 * n
    square r n e = omega arith

    other : (r n : ℕ) → n ≢ r → suc n ≢ suc r
    other r n ne e = ne (omega arith)

-- the end of a rank leaves whole ones
rest_of-end : (rank file : ℕ) (parts : List (List ℕ)) → rest_of rank file ([] ∷ parts) ≡ cond (eqb file 8) (whole rank parts) None
rest_of-end rank file parts = grind (arith, eqb, list_all, is_rank, men_of_ranks, add-zero, cond_swap)

-- there is a first part
split_some : (cs : List ℕ) → (part : List ℕ) × (parts : List (List ℕ)) × (slice_split is_slash cs ≡ part ∷ parts)
split_some [] = ([], [], refl)
split_some (c ∷ cs) = elim (is_slash c) as (λ b. (part : List ℕ) × (parts : List (List ℕ)) × (cond b ([] ∷ slice_split is_slash cs) (onto_first c (slice_split is_slash cs)) ≡ part ∷ parts)) [
  | true ↦ ([], slice_split is_slash cs, refl)
  | false ↦ onto (slice_split is_slash cs)
]
  where
    onto : (parts : List (List ℕ)) → (part : List ℕ) × (others : List (List ℕ)) × (onto_first c parts ≡ part ∷ others)
    onto [] = (c ∷ [], [], refl)
    onto (p ∷ ps) = (c ∷ p, ps, refl)

-- a slash ends a rank
slash : (rank file : ℕ) (part : List ℕ) (parts : List (List ℕ)) → cond (eqb file 8 && ltb 0 rank) (rest_of (rank - 1) 0 (part ∷ parts)) None ≡ rest_of rank file ([] ∷ part ∷ parts)
slash rank file part parts = grind (arith, cond_and, eqb, ltb, rest_of-end, list_all, is_rank, men_of_ranks, ne_eqb, lt-ltb, rest_of-start)

-- the tests of a byte and of what is left of its rank
tests : (wide all room equal ranks full : Bool) (first row rows : Men) → (room ≡ false → full ≡ false)
    → cond (wide && room) (option_map (λ men. first ++ men) (cond equal (cond (all && full) (cond ranks (Some (row ++ rows)) None) None) None)) None
    ≡ cond equal (cond (wide && all && full) (cond ranks (Some ((first ++ row) ++ rows)) None) None) None
tests h0 all room equal ranks full first row rows narrow = grind (arith, cond_same, append_assoc)

-- a byte that stands for squares goes on with its rank
byte : (rank file : ℕ) (c : ℕ) (part : List ℕ) (parts : List (List ℕ))
    → cond (has_width c && leb (file + width_of c) 8) (option_map (λ men. on_square (8 * rank + file) (man_of c) ++ men) (rest_of rank (file + width_of c) (part ∷ parts))) None
    ≡ rest_of rank file ((c ∷ part) ∷ parts)
byte rank file c part parts =
    tests (has_width c) (list_all has_width part) (leb (file + width_of c) 8) (eqb (length parts) rank) (list_all is_rank parts) (eqb (file + width_of c + sum_by width_of part) 8)
    (on_square (8 * rank + file) (man_of c)) (men_from (8 * rank + (file + width_of c)) part) (men_of_ranks parts) narrow
    ∙ ap (λ n. cond (eqb (length parts) rank) (cond (has_width c && list_all has_width part && eqb (file + width_of c + sum_by width_of part) 8)
    (cond (list_all is_rank parts) (Some ((on_square (8 * rank + file) (man_of c) ++ men_from n part) ++ men_of_ranks parts)) None) None) None) (sym (add_assoc (8 * rank) file (width_of c)))
    ∙ ap (λ n. cond (eqb (length parts) rank) (cond (has_width c && list_all has_width part && eqb n 8)
    (cond (list_all is_rank parts) (Some ((on_square (8 * rank + file) (man_of c) ++ men_from (8 * rank + file + width_of c) part) ++ men_of_ranks parts)) None) None) None)
    (add_assoc file (width_of c) (sum_by width_of part) ∙ sym (ap (λ n. file + n) (sum_by-cons width_of c part)))
  where
    beyond : (a b : ℕ) → 8 < a → a + b ≢ 8
    beyond a b h = λ e. omega arith

    narrow : leb (file + width_of c) 8 ≡ false → eqb (file + width_of c + sum_by width_of part) 8 ≡ false
    narrow h = ne_eqb (file + width_of c + sum_by width_of part) 8 (beyond (file + width_of c) (sum_by width_of part) (leb-false (file + width_of c) 8 h))

eqb_comm : (n : ℕ) → eqb n 0 ≡ eqb 0 n
eqb_comm zero = refl
eqb_comm (suc n) = ne_eqb (suc n) 0 (λ e. omega arith) ∙ sym (ne_eqb 0 (suc n) (λ e. omega arith))

men_left_by_rank : (cs : List ℕ) (rank file : ℕ) → men_left cs rank file ≡ rest_of rank file (slice_split is_slash cs)
men_left_by_rank [] rank file =
    cond_and (eqb rank 0) (eqb file 8) (Some []) None
    ∙ ap (λ b. cond b (cond (eqb file 8) (Some []) None) None) (eqb_comm rank)
    ∙ ap (λ n. cond (eqb 0 rank) (cond (eqb n 8) (Some []) None) None) (sym (add-zero file))
men_left_by_rank (c ∷ cs) rank file =
    let some = split_some cs in
    elim (is_slash c) as (λ b. cond b (cond (eqb file 8 && ltb 0 rank) (men_left cs (rank - 1) 0) None)
    (cond (has_width c && leb (file + width_of c) 8) (option_map (λ men. on_square (8 * rank + file) (man_of c) ++ men) (men_left cs rank (file + width_of c))) None)
    ≡ rest_of rank file (cond b ([] ∷ slice_split is_slash cs) (onto_first c (slice_split is_slash cs)))) [
      | true ↦ ap (λ x. cond (eqb file 8 && ltb 0 rank) x None) (men_left_by_rank cs (rank - 1) 0 ∙ ap (rest_of (rank - 1) 0) some.2)
          ∙ slash rank file some.0 some.1
          ∙ ap (λ ps. rest_of rank file ([] ∷ ps)) (sym some.2)
      | false ↦ ap (λ x. cond (has_width c && leb (file + width_of c) 8) (option_map (λ men. on_square (8 * rank + file) (man_of c) ++ men) x) None)
          (men_left_by_rank cs rank (file + width_of c) ∙ ap (rest_of rank (file + width_of c)) some.2)
          ∙ byte rank file c some.0 some.1
          ∙ ap (λ ps. rest_of rank file (onto_first c ps)) (sym some.2)
    ]

pub men_left_is : (field : List ℕ) → men_left field 7 0 ≡ placement_of field
unfolding placement_of
men_left_is field = grind (arith, split_some, men_left_by_rank, rest_of-start, cond_and, eqb, ranks_of, list_all, is_rank, men_of_ranks)
