-- Positions with a target that the last man makes with the men before him.
use Rattle.std.proofs.Common.{◌≡◌, ◌≢◌, ◌↔◌, ◌⊎◌, ℕ, ◌+◌, ◌-◌, ◌*◌, ◌<◌, ◌≤◌, Bool, true, false, List, [], ◌∷◌, ◌++◌}
use Rattle.std.proofs.Common.{Option, Some, None, IfSome, if◌then◌else◌, arith, refl, sym, ap, ◌∙◌, subst, inl, inr}
use Rattle.egt_index.specs.Prelude.{bit_at, IsSome, is_some, option_to_list, false≢true, bit_at-zero, king_of}
use Rattle.egt_index.specs.Prelude.{side_number, men_of, setup_of, other_side, HasPawnBeside, IsBeside, PawnsFit, ahead}
use Rattle.egt_index.specs.Prelude.{pawn_of, IsFree, Placement, Stands, IsSettled, Setup, IsAdmissible, file_of}
use Rattle.egt_index.specs.Prelude.{rank_of, FitsTarget, IsTarget, Man, Side, White, Black, Material, material_of}
use Rattle.egt_index.specs.Prelude.{Spells, number_from, IsBefore, IsPrefixBefore, IsMade, IsNewDigit, taking_rank}
use Rattle.egt_index.specs.Prelude.{kind_digits, kind_less, last_of, PassesNothing, has_target, men_beside, HasPawns}
use Rattle.egt_index.specs.Prelude.{IsListed, IsTold, SpellsMen, TellsMen, AllApart, Entry, HasStand, IsFilled, IsOff}
use Rattle.egt_index.specs.Prelude.{before_last, list_of, with_entry, with_last, Prefix, Stand}
use Rattle.egt_index.proofs.Decoded.{has_pawns_list, spelled_setup}
use Rattle.egt_index.proofs.FrameMen.{men_are}
use Rattle.egt_index.proofs.Prefixes.{all_apart, apart_all, board_with, free_before}
use Rattle.egt_index.proofs.After.{all_apart as stood_apart}
use Rattle.egt_index.proofs.Listing.{listed}
use Rattle.egt_index.proofs.OnePosition.{one_pawn_each}
use Rattle.egt_index.proofs.Placing.{tells}
use Rattle.egt_index.proofs.Setups.{AreKings, kings_spelled, pawns_spelled, setup_spelled, stand_spelled}
use Rattle.egt_index.proofs.ToldMen.{stands_told, told_stands}
use Rattle.egt_board.proofs.Bits.{not_both}

-- the last man of a class with targets
pub last_pawn : (c : ℕ) → has_target (material_of c) ≡ true → last_of (men_beside (material_of c)) ≡ Some (pawn_of Black)
last_pawn c has = ap (λ (m : Material). last_of (men_beside m)) (one_pawn_each c has)

-- both pawns stand behind the kings
pub record ArePawns (stand : Stand) : Type 0 where
  pub white : ℕ
  pub black : ℕ
  pub first : stand.first ≡ Some (pawn_of White, white)
  pub last : stand.last ≡ Some (pawn_of Black, black)

pub are_pawns : (stand : Stand) → HasPawns (list_of stand) → ArePawns stand
are_pawns stand has = of stand.first stand.last refl refl has.list_is
  where
    of : (next last : Entry) → stand.first ≡ next → stand.last ≡ last
        → (king_of White, stand.white) ∷ (king_of Black, stand.black) ∷ (option_to_list next ++ option_to_list last) ≡ (king_of White, has.white_king) ∷ (king_of Black, has.black_king) ∷ (pawn_of White, has.white) ∷ (pawn_of Black, has.black) ∷ []
        → ArePawns stand
    of None None next last is = absurd (cc)
    of None (Some d) next last is = absurd (cc)
    of (Some e) None next last is = absurd (cc)
    of (Some e) (Some d) next last is = record { white = has.white; black = has.black; first = next ∙ ap Some (third is); last = last ∙ ap Some (fourth is) }
      where
        third : {a b c d e f g h : Man × ℕ} → a ∷ b ∷ c ∷ d ∷ [] ≡ e ∷ f ∷ g ∷ h ∷ [] → c ≡ g
        third e = cc

        fourth : {a b c d e f g h : Man × ℕ} → a ∷ b ∷ c ∷ d ∷ [] ≡ e ∷ f ∷ g ∷ h ∷ [] → d ≡ h
        fourth e = cc

-- the other square is the next one on its rank
abbrev pub IsNext : ℕ → ℕ → Type 0
IsNext s t = ((t ≡ s + 1) × (file_of s < 7)) ⊎ ((s ≡ t + 1) × (0 < file_of s))

beside_next : (s t : ℕ) → IsBeside s t → IsNext s t
beside_next s t h = grind arith

beside_back : (s t : ℕ) → IsBeside s t → IsNext t s
beside_back s t h = grind arith

pub record AreSideBySide (mover : Side) (on s : ℕ) : Type 0 where
  pub rank : rank_of on ≡ taking_rank mover
  pub beside : IsNext on s

no_king : (side other : Side) → king_of side ≡ pawn_of other → ⊥
no_king side other h = let kinds = ap (λ (man : Man). man.kind) h in cc

not_other : (side : Side) → pawn_of (other_side side) ≡ pawn_of side → ⊥
not_other side h = grind arith

white_listed : (w b x y s : ℕ) → IsListed ((king_of White, w) ∷ (king_of Black, b) ∷ (pawn_of White, x) ∷ (pawn_of Black, y) ∷ []) (pawn_of White) s → s ≡ x
white_listed w b x y s h = grind (arith, no_king)

black_listed : (w b x y s : ℕ) → IsListed ((king_of White, w) ∷ (king_of Black, b) ∷ (pawn_of White, x) ∷ (pawn_of Black, y) ∷ []) (pawn_of Black) s → s ≡ y
black_listed w b x y s h = grind (arith, no_king, not_other)

-- in a settled position with a target they stand so
pub side_by_side : (c : ℕ) (stand : Stand) (mover : Side) (p : Setup) → HasStand c false stand mover true p → (pawns : ArePawns stand) → AreSideBySide mover pawns.white pawns.black
side_by_side c stand mover p there pawns = of_target p.target refl there.target_is
  where
    list_is : list_of stand ≡ (king_of White, stand.white) ∷ (king_of Black, stand.black) ∷ (pawn_of White, pawns.white) ∷ (pawn_of Black, pawns.black) ∷ []
    list_is = grind arith

    found : (side : Side) (s : ℕ) → Stands p.men s (pawn_of side) → IsListed ((king_of White, stand.white) ∷ (king_of Black, stand.black) ∷ (pawn_of White, pawns.white) ∷ (pawn_of Black, pawns.black) ∷ []) (pawn_of side) s
    found side s stands =
        subst (λ (l : List (Man × ℕ)). IsListed l (pawn_of side) s) list_is (listed (list_of stand) (pawn_of side) s (subst (λ (men : Placement). Stands men s (pawn_of side)) (men_are c stand mover true p there) stands))

    white_on : (s : ℕ) → Stands p.men s (pawn_of White) → s ≡ pawns.white
    white_on s stands = white_listed stand.white stand.black pawns.white pawns.black s (found White s stands)

    black_on : (s : ℕ) → Stands p.men s (pawn_of Black) → s ≡ pawns.black
    black_on s stands = black_listed stand.white stand.black pawns.white pawns.black s (found Black s stands)

    of_mover : (mover : Side) (t : ℕ) → IsTarget p.men mover t → HasPawnBeside p.men mover (ahead (other_side mover) t) → AreSideBySide mover pawns.white pawns.black
    of_mover White t target beside =
        let white = white_on beside.square beside.stands in
        let black = black_on (t - 8) target.advanced in
        let rank = target.rank in
        let ranks : rank_of beside.square ≡ rank_of (t - 8) = beside.beside.0 in
        let same = ap rank_of white in
        record { rank = omega arith; beside = subst (λ s. IsNext s pawns.black) white (subst (IsNext beside.square) black (beside_next beside.square (t - 8) beside.beside)) }
    of_mover Black t target beside =
        let white = white_on (t + 8) target.advanced in
        let black = black_on beside.square beside.stands in
        let rank = target.rank in
        let same = ap rank_of white in
        record { rank = omega arith; beside = subst (λ s. IsNext s pawns.black) white (subst (IsNext (t + 8)) black (beside_back beside.square (t + 8) beside.beside)) }

    of_target : (o : Option ℕ) → p.target ≡ o → is_some o ≡ true → AreSideBySide mover pawns.white pawns.black
    of_target None is some = absurd (false≢true some)
    of_target (Some t) is some =
        of_mover mover t (subst (λ (side : Side). IsTarget p.men side t) there.side_is (subst (λ (o : Option ℕ). FitsTarget p.men p.side o) is there.admissible.target))
        (subst (λ (side : Side). HasPawnBeside p.men side (ahead (other_side side) t)) there.side_is (subst (λ (o : Option ℕ). IfSome o (λ t. HasPawnBeside p.men p.side (ahead (other_side p.side) t))) is there.settled))

-- men whom a number spells, with a target
module _ (c number : ℕ) (stand : Stand) (mover : Side) (has : has_target (material_of c) ≡ true) (men : SpellsMen (material_of c) number (list_of stand)) (filled : IsFilled stand) where
  abbrev code : ℕ
  code = number_from number (2 ∷ (if has_target (material_of c) then 2 ∷ [] else [])) (side_number mover ∷ (if has_target (material_of c) then 1 ∷ [] else []))

  told : TellsMen true c code stand mover
  told = record { number = number; men = men; filled = filled; ends = record { number_is = refl; never = λ none. absurd (false≢true (sym none ∙ has)) } }

  -- the setup of a position that has them
  pub has_setup : (p : Setup) (target : Option ℕ) → IsTold true mover (list_of stand) target → HasStand c false stand mover true p → p ≡ setup_of (list_of stand) mover target
  unfolding told
  has_setup p target is there = (spelled_setup c code number mover true (list_of stand) target p told.ends men is (stands_told true c code p stand mover there told)).1

  pub setup_has : (p : Setup) (target : Option ℕ) → IsTold true mover (list_of stand) target → AllApart (list_of stand) → p ≡ setup_of (list_of stand) mover target → IsAdmissible p → IsSettled p
      → HasStand c false stand mover true p
  unfolding told
  setup_has p target is apart same admissible settled =
      subst (HasStand c false stand mover true) (sym same)
      (stand_spelled c code number stand mover true target men apart is (subst (Spells c code) same (setup_spelled c code number mover true (list_of stand) target p told.ends men is apart same admissible)) (subst IsSettled same settled))

-- the men behind a prefix with the last man on the square of this digit
pub record IsAtDigit (c : ℕ) (prefix : Prefix) (man : Man) (k : ℕ) (stand : Stand) : Type 0 where
  pub class_in : c < 36
  pub has : has_target (material_of c) ≡ true
  pub before : IsPrefixBefore c prefix man
  pub below : k < 48
  pub is : stand ≡ with_last prefix.stand (Some (man, k + 8))

pub at_digit : (c : ℕ) (prefix : Prefix) (man : Man) (k square : ℕ) (stand : Stand) → c < 36 → has_target (material_of c) ≡ true → IsPrefixBefore c prefix man → k < 48 → stand ≡ with_last prefix.stand (Some (man, square)) → square ≡ k + 8
    → IsAtDigit c prefix man k stand
at_digit c prefix man k square stand c_in has before below is same = grind arith

module _ (c : ℕ) (prefix : Prefix) (man : Man) (mover : Side) (k : ℕ) (stand : Stand) (at : IsAtDigit c prefix man k stand) where
  abbrev before : IsPrefixBefore c prefix man
  before = at.before

  his : man ≡ pawn_of Black
  his = grind (arith, before, last_pawn)

  abbrev entry : Entry
  entry = Some (man, k + kind_less man.kind)

  abbrev row : ℕ
  row = before.high * kind_digits man.kind + k

  pub below : k < kind_digits man.kind
  below = subst (λ (m : Man). k < kind_digits m.kind) (sym his) at.below

  pub stand_is : stand ≡ with_last prefix.stand entry
  stand_is = at.is ∙ ap (λ (m : Man). with_last prefix.stand (Some (man, k + kind_less m.kind))) (sym his)

  pub men_there : SpellsMen (material_of c) row (list_of stand)
  men_there = subst (λ (s : Stand). SpellsMen (material_of c) row (list_of s)) (sym stand_is) (before.is.before.men row entry (tells c before.high man at.class_in before.last before.other k below))

  pub filled_there : IsFilled stand
  filled_there = subst IsFilled (sym stand_is) (before.is.before.filled row entry (tells c before.high man at.class_in before.last before.other k below))

  pub pawns_there : HasPawns (list_of stand)
  pawns_there = has_pawns_list c row (list_of stand) at.has men_there

  pub made_has : (made : IsMade true c prefix.stand man mover k) → HasStand c false stand mover true made.position
  made_has made = subst (λ (s : Stand). HasStand c false s mover true made.position) (sym stand_is) made.has

  pub has_made : (p : Setup) → HasStand c false stand mover true p → IsMade true c prefix.stand man mover k
  has_made p there = record { below = below; position = p; has = subst (λ (s : Stand). HasStand c false s mover true p) stand_is there }

  abbrev IsLastOff : Stand → Type 0
  IsLastOff s = IfSome s.last (λ e. IsOff (before_last s) e.1)

  pub made_off : IsMade true c prefix.stand man mover k → IsLastOff stand
  made_off made = subst IsLastOff (sym stand_is) (apart_all prefix.stand entry before.is.before.no_last (stood_apart false made.position.men (list_of (with_last prefix.stand entry)) made.has.stood.all)).1

  pub off_apart : IsLastOff stand → AllApart (list_of stand)
  off_apart off = subst (λ (s : Stand). AllApart (list_of s)) (sym stand_is) (all_apart prefix.stand entry before.is.before.no_last before.is.apart (subst IsLastOff stand_is off))

  pub off_free : IsLastOff stand → IfSome stand.last (λ e. IsFree prefix.board e.1)
  off_free off =
      subst (λ (s : Stand). IfSome s.last (λ e. IsFree prefix.board e.1)) (sym stand_is)
      (subst (λ (men : Placement). IfSome entry (λ e. IsFree men e.1)) (sym before.is.board)
      (free_before prefix.stand entry before.is.before.no_last (all_apart prefix.stand entry before.is.before.no_last before.is.apart (subst IsLastOff stand_is off))))

  board_there : IsLastOff stand → with_entry prefix.board stand.last ≡ men_of (list_of stand)
  board_there off =
      ap (λ (men : Placement). with_entry men stand.last) before.is.board
      ∙ ap (λ (s : Stand). with_entry (men_of (list_of prefix.stand)) s.last) stand_is
      ∙ board_with prefix.stand entry before.is.before.no_last (all_apart prefix.stand entry before.is.before.no_last before.is.apart (subst IsLastOff stand_is off))
      ∙ ap (λ (s : Stand). men_of (list_of s)) (sym stand_is)

  pub board_made : (copied board : Placement) → copied ≡ prefix.board → board ≡ with_entry copied stand.last → IsLastOff stand → board ≡ men_of (list_of stand)
  board_made copied board same made off = made ∙ ap (λ (men : Placement). with_entry men stand.last) same ∙ board_there off

  pub kings_there : IsLastOff stand → AreKings stand
  kings_there off = kings_spelled c row stand at.class_in men_there (off_apart off)

  pub pawns_fit : PawnsFit (men_of (list_of stand))
  pawns_fit = pawns_spelled c row (list_of stand) men_there

  -- a position with these men, by its setup
  pub made_setup : (target : Option ℕ) → IsTold true mover (list_of stand) target → (made : IsMade true c prefix.stand man mover k) → made.position ≡ setup_of (list_of stand) mover target
  made_setup target told made = has_setup c row stand mover at.has men_there filled_there made.position target told (made_has made)

  pub setup_made : (p : Setup) (target : Option ℕ) → IsTold true mover (list_of stand) target → IsLastOff stand → p ≡ setup_of (list_of stand) mover target → IsAdmissible p → IsSettled p → IsMade true c prefix.stand man mover k
  setup_made p target told off same admissible settled = has_made p (setup_has c row stand mover at.has men_there filled_there p target told (off_apart off) same admissible settled)

-- whatever his digit, both pawns stand behind the kings, and the last is his
module _ (c : ℕ) (prefix : Prefix) (man : Man) (c_in : c < 36) (has : has_target (material_of c) ≡ true) (before : IsPrefixBefore c prefix man) where
  pawn : man ≡ pawn_of Black
  pawn = grind (arith, before, last_pawn, has)

  pawns_behind : (k : ℕ) → k < kind_digits man.kind → ArePawns (with_last prefix.stand (Some (man, k + kind_less man.kind)))
  pawns_behind k below = are_pawns (with_last prefix.stand (Some (man, k + kind_less man.kind)))
      (has_pawns_list c (before.high * kind_digits man.kind + k) (list_of (with_last prefix.stand (Some (man, k + kind_less man.kind)))) has
      (before.is.before.men (before.high * kind_digits man.kind + k) (Some (man, k + kind_less man.kind)) (tells c before.high man c_in before.last before.other k below)))

  pub next_there : IsSome prefix.stand.first
  next_there = subst (λ (e : Entry). IsSome e) (sym (pawns_behind 0 (subst (λ (m : Man). 0 < kind_digits m.kind) (sym pawn) (omega arith))).first) refl

  -- where he makes one, he stands beside the pawn before him
  pub made_beside : (one : Man) (mover : Side) (k on : ℕ) → prefix.stand.first ≡ Some (one, on) → IsMade true c prefix.stand man mover k → AreSideBySide mover on (k + 8)
  made_beside one mover k on next made = subst (λ s. AreSideBySide mover s (k + 8)) (square _ _ (sym pawns.first ∙ next)) (subst (AreSideBySide mover pawns.white) black (side_by_side c _ mover made.position made.has pawns))
    where
      pawns : ArePawns (with_last prefix.stand (Some (man, k + kind_less man.kind)))
      pawns = pawns_behind k made.below

      square : (e d : Man × ℕ) → Some e ≡ Some d → e.1 ≡ d.1
      square e d same = cc

      black : pawns.black ≡ k + 8
      black = sym (square _ _ pawns.last) ∙ ap (λ (m : Man). k + kind_less m.kind) pawn

  pub none_made : (one : Man) (mover : Side) (on : ℕ) → prefix.stand.first ≡ Some (one, on) → rank_of on ≢ taking_rank mover → (k : ℕ) → (bit_at 0 k ≡ 1) ↔ IsMade true c prefix.stand man mover k
  none_made one mover on next other k = (λ bit. not_both (bit_at 0 k) (bit_at-zero k) bit, λ made. absurd (other (made_beside one mover k on next made).rank))

  pub both_made : (one : Man) (mover : Side) (on digit west both : ℕ) (is_west is_east : Bool) → prefix.stand.first ≡ Some (one, on) → rank_of on ≡ taking_rank mover → digit ≡ on - 8 → (0 < file_of on → is_west ≡ true) → (file_of on < 7 → is_east ≡ true)
      → ((k : ℕ) → (bit_at west k ≡ 1) ↔ ((bit_at 0 k ≡ 1) ⊎ IsNewDigit c prefix.stand man mover is_west (digit - 1) k)) → ((k : ℕ) → (bit_at both k ≡ 1) ↔ ((bit_at west k ≡ 1) ⊎ IsNewDigit c prefix.stand man mover is_east (digit + 1) k))
      → (k : ℕ) → (bit_at both k ≡ 1) ↔ IsMade true c prefix.stand man mover k
  both_made one mover on digit west both is_west is_east next rank digit_is west_on east_on wests boths k = (there, back)
    where
      of_west : (bit_at 0 k ≡ 1) ⊎ IsNewDigit c prefix.stand man mover is_west (digit - 1) k → IsMade true c prefix.stand man mover k
      of_west (inl bit) = not_both (bit_at 0 k) (bit_at-zero k) bit
      of_west (inr new) = new.made

      of_both : (bit_at west k ≡ 1) ⊎ IsNewDigit c prefix.stand man mover is_east (digit + 1) k → IsMade true c prefix.stand man mover k
      of_both (inl bit) = of_west ((wests k).0 bit)
      of_both (inr new) = new.made

      there : bit_at both k ≡ 1 → IsMade true c prefix.stand man mover k
      there bit = of_both ((boths k).0 bit)

      third : (mover : Side) → 3 ≤ taking_rank mover
      third mover = grind arith

      back : IsMade true c prefix.stand man mover k → bit_at both k ≡ 1
      back made = of_next (made_beside one mover k on next made).beside
        where
          of_next : IsNext on (k + 8) → bit_at both k ≡ 1
          of_next (inl (same, file)) = let high = third mover in (boths k).1 (inr (record { there_is = east_on file; same = omega arith; made = made }))
          of_next (inr (same, file)) = let high = third mover in (boths k).1 (inl ((wests k).1 (inr (record { there_is = west_on file; same = omega arith; made = made }))))

-- off those ranks nothing has a target
pub passes_nothing : (c high : ℕ) (stand : Stand) → has_target (material_of c) ≡ true → IsBefore c high stand → ((one : Man) (s : ℕ) → stand.first ≡ Some (one, s) → (rank_of s ≢ 3) × (rank_of s ≢ 4)) → PassesNothing c high
passes_nothing c high stand has before off n last code side p tells ends spells settled = of_side side (side_by_side c (with_last stand last) side p there pawns).rank
  where
    men : SpellsMen (material_of c) n (list_of (with_last stand last))
    men = before.men n last tells

    pawns : ArePawns (with_last stand last)
    pawns = are_pawns (with_last stand last) (has_pawns_list c n (list_of (with_last stand last)) has men)

    there : HasStand c false (with_last stand last) side true p
    there = told_stands true c code p (with_last stand last) side spells settled (record { number = n; men = men; filled = before.filled n last tells; ends = ends })

    of_side : (side : Side) → rank_of pawns.white ≡ taking_rank side → ⊥
    of_side White rank = (off (pawn_of White) pawns.white pawns.first).1 rank
    of_side Black rank = (off (pawn_of White) pawns.white pawns.first).0 rank
