-- Codes of images compared with a code that spells the position.
use Rattle.std.proofs.Common.{◌≡◌, ◌≢◌, ℕ, ◌+◌, ◌*◌, ◌/◌, ◌%◌, ◌<◌, ◌≤◌, not, Bool, true, false, cond, eqb, List, []}
use Rattle.std.proofs.Common.{◌∷◌, ◌++◌, map, Option, Some, None, IfSome, arith, refl, sym, ap, ◌∙◌, inl, inr, subst}
use Rattle.egt_index.specs.Prelude.{option_map, cases_eq, cases_lt, Side, White, Black, Man, king_of, side_number}
use Rattle.egt_index.specs.Prelude.{AreImages, men_of, Stands, IsSettled, Setup, IsAdmissible, KeepsPlay, turned_square}
use Rattle.egt_index.specs.Prelude.{turned_man, Material, material_of, has_equal_sides, IsOf, Beats, HasKingsOn, Keeps}
use Rattle.egt_index.specs.Prelude.{KeepsWith, IsBeaten, TurnBeats, TurnKeeps, Spells, king_square, men_at}
use Rattle.egt_index.specs.Prelude.{target_digits, number_from, number_of, AreDigits, Facts, BringsHome, AreHome}
use Rattle.egt_index.specs.Prelude.{IsTurnWith, IsIndex, base_of, bases, king_base, men_bases, men_beside, has_pawns}
use Rattle.egt_index.specs.Prelude.{has_target, HasStand, list_of, AllStand, on_square_of, IsTurn, Stand}
use Rattle.std.specs.FinMap as placement
use Rattle.egt_index.proofs.Best.{code_found, turn_number, turn_of}
use Rattle.egt_index.proofs.Classes.{image_in_colours}
use Rattle.egt_index.proofs.Coding.{all_digits}
use Rattle.egt_index.proofs.Exchanged.{stood_exchanged}
use Rattle.egt_index.proofs.LeastTurn.{keeps_play, none_away, none_exchanged}
use Rattle.egt_index.proofs.Listing.{AreApart, apart_of, get_here, listed_stands}
use Rattle.egt_index.proofs.MixedDigits.{number_from-lt}
use Rattle.egt_index.proofs.Picking.{lesser_digit, same_digit}
use Rattle.egt_index.proofs.MenPlaced.{turned_back}

-- the digits behind those of the kings
abbrev rest_bases : Material → List ℕ
rest_bases m = map (base_of (has_pawns m)) (men_beside m) ++ 2 ∷ cond (has_target m) (2 ∷ []) []

-- the kings' squares are told by the highest digits of the code
record KingsTold (m : Material) (code w b : ℕ) : Type 0 where
  digit : ℕ
  below : digit < king_base (has_pawns m)
  is : king_square (has_pawns m) digit ≡ w
  rest : List ℕ
  are : AreDigits (rest_bases m) rest
  number : code ≡ number_from (digit * 64 + b) (rest_bases m) rest

none_before : (b n : ℕ) → 0 * b + n ≡ n
none_before b n = omega arith

kings_told : (c code : ℕ) (p : Setup) (w b : ℕ) → Spells c code p → Stands p.men w (king_of White) → Stands p.men b (king_of Black) → KingsTold (material_of c) code w b
kings_told c code p w b s white black = of_digits s.digits s.are_digits s.men (apart_of (men_at m s.digits) s.apart.apart) (s.number) (all_digits m s.digits p s.are_digits)
  where
    m : Material
    m = material_of c

    last : List ℕ
    last = side_number p.side ∷ target_digits m p.target

    of_digits : (digits : List ℕ) → AreDigits (men_bases m) digits → p.men ≡ men_of (men_at m digits) → AreApart (men_at m digits) → code ≡ number_of (bases m) (digits ++ last) → AreDigits (bases m) (digits ++ last) → KingsTold m code w b
    of_digits [] are is apart number all = absurd are
    of_digits (d ∷ []) are is apart number all = absurd are.1
    of_digits (d ∷ e ∷ ds) are is apart number all =
        let kings = s.admissible.kings in
        let one : Stands p.men (king_square (has_pawns m) d) (king_of White) = ap (λ men. placement.get men (king_square (has_pawns m) d)) is ∙ get_here (king_of White, king_square (has_pawns m) d) _ _ refl in
        let two : Stands p.men e (king_of Black) = ap (λ men. placement.get men e) is ∙ listed_stands (men_at m (d ∷ e ∷ ds)) (king_of Black) e apart (inr (inl (refl, refl))) in
        let there : e ≡ b = kings.black_there.only e two ∙ sym (kings.black_there.only b black) in
        record {
          digit = d;
          below = are.0;
          is = kings.white_there.only _ one ∙ sym (kings.white_there.only w white);
          rest = ds ++ last;
          are = all.1.1;
          number = number ∙ ap (λ h. number_from (h * 64 + e) (rest_bases m) (ds ++ last)) (none_before (king_base (has_pawns m)) d) ∙ ap (λ x. number_from (d * 64 + x) (rest_bases m) (ds ++ last)) there;
        }

-- the white king is at home
pub white_home : (c code : ℕ) (p : Setup) (w b : ℕ) → Spells c code p → Stands p.men w (king_of White) → Stands p.men b (king_of Black)
    → (d : ℕ) × (d < king_base (has_pawns (material_of c))) × (king_square (has_pawns (material_of c)) d ≡ w)
white_home c code p w b s white black = let told = kings_told c code p w b s white black in (told.digit, told.below, told.is)

-- of two codes that is less whose position has its kings on lesser squares
pub kings_less : (c code other : ℕ) (p q : Setup) (w b x y : ℕ) → Spells c code p → Spells c other q → Stands p.men w (king_of White) → Stands p.men b (king_of Black) → Stands q.men x (king_of White) → Stands q.men y (king_of Black)
    → 64 * w + b < 64 * x + y → code < other
kings_less c code other p q w b x y s t white black white' black' lt =
    let here = kings_told c code p w b s white black in
    let there = kings_told c other q x y t white' black' in
    let b_in = s.admissible.on_board b _ black in
    let y_in = t.admissible.on_board y _ black' in
    let less = number_from-lt (rest_bases m) here.rest there.rest (here.digit * 64 + b) (there.digit * 64 + y) here.are there.are (higher here.digit there.digit here.below there.below here.is there.is b_in y_in) in
    subst (λ n. n < other) (sym here.number) (subst (λ n. number_from (here.digit * 64 + b) (rest_bases m) here.rest < n) (sym there.number) less)
  where
    m : Material
    m = material_of c

    higher : (d e : ℕ) → d < king_base (has_pawns m) → e < king_base (has_pawns m) → king_square (has_pawns m) d ≡ w → king_square (has_pawns m) e ≡ x → b < 64 → y < 64 → d * 64 + b < e * 64 + y
    higher d e d_in e_in is is' b_in y_in = elim (cases_lt w x) [
      | inl less ↦ let lt : d < e = lesser_digit (has_pawns m) (king_of White) d e d_in (subst (λ n. n < king_square (has_pawns m) e) (sym is) (subst (λ n. w < n) (sym is') less)) in omega arith
      | inr le ↦ let same : w ≡ x = omega arith in let e : d ≡ e = same_digit (has_pawns m) (king_of White) d e d_in e_in (is ∙ same ∙ sym is') in omega arith
    ]

-- where a turn takes a man
pub stands_after : Facts → (p q : Setup) (t s : ℕ) (man : Man) → IsAdmissible p → IsTurn t p q → Stands p.men s (turned_man (eqb (t / 8) 1) man) → Stands q.men (turned_square (t % 8) (eqb (t / 8) 1) s) man
stands_after facts p q t s man ok turn stands =
    (facts.set (t % 8) (eqb (t / 8) 1) p q ok turn.1).men s (ok.on_board s _ stands) ∙ ap (option_map (turned_man (eqb (t / 8) 1))) stands ∙ ap Some (turned_back (eqb (t / 8) 1) man)

-- the kings of p, as a stand in these colours has them
pub own_kings : (c : ℕ) (flips : Bool) (stand : Stand) (p : Setup) → AllStand flips p.men (list_of stand) → Stands p.men (cond flips stand.black stand.white) (king_of White) × Stands p.men (cond flips stand.white stand.black) (king_of Black)
own_kings c flips stand p all = grind arith

pair_of : (flips : Bool) (w b : ℕ) → cond {A = ℕ} flips (64 * b + w) (64 * w + b) ≡ 64 * cond flips b w + cond flips w b
pair_of flips w b = grind arith

-- the kings on greater squares after the turn
pub kept_by_kings : Facts → (c code t : ℕ) (stand : Stand) (p : Setup) (own image : ℕ) → IsAdmissible p → AllStand (eqb (t / 8) 1) p.men (list_of stand) → Spells c code p
    → own ≡ cond (eqb (t / 8) 1) (64 * stand.black + stand.white) (64 * stand.white + stand.black)
    → image ≡ 64 * turned_square (t % 8) (eqb (t / 8) 1) stand.white + turned_square (t % 8) (eqb (t / 8) 1) stand.black → own < image → Keeps c p t code
kept_by_kings facts c code t stand p own image ok all s own_is image_is lt q other turn spells =
    let kings = own_kings c (eqb (t / 8) 1) stand p all in
    let less = kings_less c code other p q _ _ _ _ s spells kings.0 kings.1 (stands_after facts p q t stand.white (king_of White) ok turn all.1) (stands_after facts p q t stand.black (king_of Black) ok turn all.3.1)
    (subst (λ n. n < 64 * turned_square (t % 8) (eqb (t / 8) 1) stand.white + turned_square (t % 8) (eqb (t / 8) 1) stand.black) (own_is ∙ pair_of (eqb (t / 8) 1) stand.white stand.black) (subst (λ n. own < n) image_is lt)) in omega arith

-- what a turn that brings the king home makes is spelled by a code, and where its kings stand
pub record SpelledHome (c t : ℕ) (stand : Stand) (p : Setup) : Type 0 where
  pub image : Setup
  pub turned : IsTurn t p image
  pub code : ℕ
  pub spells : Spells c code image
  pub white : Stands image.men (turned_square (t % 8) (eqb (t / 8) 1) stand.white) (king_of White)
  pub black : Stands image.men (turned_square (t % 8) (eqb (t / 8) 1) stand.black) (king_of Black)

pub spelled_home : Facts → (c t : ℕ) (stand : Stand) (p : Setup) → c < 36 → IsAdmissible p → IsSettled p → IsOf c (eqb (t / 8) 1) p → KeepsPlay (t % 8) p.men → AllStand (eqb (t / 8) 1) p.men (list_of stand)
    → BringsHome (has_pawns (material_of c)) (eqb (t / 8) 1) stand.white t → SpelledHome c t stand p
spelled_home facts c t stand p c_in ok settled is_of keeps all brings =
    let made = facts.made (t % 8) (eqb (t / 8) 1) p ok in
    let images = facts.images p made.0 (t % 8) (eqb (t / 8) 1) ok (omega arith) keeps made.1 in
    let admissible = facts.admissible p made.0 ok images in
    let there = admissible.kings.white_there in
    let white = stands_after facts p made.0 t stand.white (king_of White) ok (keeps, made.1) all.1 in
    let black = stands_after facts p made.0 t stand.black (king_of Black) ok (keeps, made.1) all.3.1 in
    let is_class = image_in_colours facts c (eqb (t / 8) 1) p made.0 t c_in ok is_of (keeps, made.1) (inr refl) in
    let code = code_found c made.0 admissible.kings.white admissible ((facts.settled p made.0 ok images).0 settled) is_class there
    (record { digit = brings.0; below = brings.1; is = brings.2 ∙ there.only _ white }) in
    record { image = made.0; turned = (keeps, made.1); code = code.0; spells = code.1.spells; white = white; black = black }

-- or on lesser ones
pub beaten_by_kings : Facts → (c code t : ℕ) (stand : Stand) (p : Setup) (own image : ℕ) → c < 36 → t < 16 → IsAdmissible p → IsSettled p → IsOf c (eqb (t / 8) 1) p → KeepsPlay (t % 8) p.men → AllStand (eqb (t / 8) 1) p.men (list_of stand)
    → Spells c code p → BringsHome (has_pawns (material_of c)) (eqb (t / 8) 1) stand.white t
    → own ≡ cond (eqb (t / 8) 1) (64 * stand.black + stand.white) (64 * stand.white + stand.black)
    → image ≡ 64 * turned_square (t % 8) (eqb (t / 8) 1) stand.white + turned_square (t % 8) (eqb (t / 8) 1) stand.black → image < own → Beats c p t code
beaten_by_kings facts c code t stand p own image c_in t_in ok settled is_of keeps all s brings own_is image_is lt =
    let made = spelled_home facts c t stand p c_in ok settled is_of keeps all brings in
    let kings = own_kings c (eqb (t / 8) 1) stand p all in
    record {
      image = made.image;
      turned = made.turned;
      other = made.code;
      spells = made.spells;
      less = kings_less c made.code code made.image p _ _ _ _ made.spells s made.white made.black kings.0 kings.1
          (subst (λ n. 64 * turned_square (t % 8) (eqb (t / 8) 1) stand.white + turned_square (t % 8) (eqb (t / 8) 1) stand.black < n) (own_is ∙ pair_of (eqb (t / 8) 1) stand.white stand.black) (subst (λ n. n < own) image_is lt));
    }

-- all turns of some colours
pub keeps_with : Facts → (c : ℕ) (p : Setup) (flips : Bool) (king first : ℕ) (second : Option ℕ) (code : ℕ) → IsAdmissible p → IsOf c flips p → Stands p.men king (turned_man flips (king_of White))
    → AreHome (has_pawns (material_of c)) flips king first second → Keeps c p first code → IfSome second (λ t. Keeps c p t code) → KeepsWith c p flips code
keeps_with facts c p flips king first second code ok is_of stands home one other t t_in flips_is q n turn spells = elim (cases_eq t first) [
  | inl e ↦ one q n (subst (λ j. IsTurn j p q) e turn) spells
  | inr apart ↦ of_second second refl apart
]
  where
    of_second : (o : Option ℕ) → second ≡ o → t ≢ first → code ≤ n
    of_second None is apart = absurd (none_away facts c p flips king first second ok is_of stands home t t_in flips_is apart (subst (λ o. IfSome o (λ u. t ≢ u)) (sym is) tt) q n turn spells)
    of_second (Some u) is apart = elim (cases_eq t u) [
      | inl e ↦ subst (λ o. IfSome o (λ t. Keeps c p t code)) is other q n (subst (λ j. IsTurn j p q) e turn) spells
      | inr not ↦ absurd (none_away facts c p flips king first second ok is_of stands home t t_in flips_is apart (subst (λ o. IfSome o (λ u. t ≢ u)) (sym is) not) q n turn spells)
    ]

-- where the sides differ, images in other colours have no code
pub keeps_exchanged : Facts → (c code : ℕ) (p : Setup) → c < 36 → IsAdmissible p → IsOf c false p → has_equal_sides c ≡ false → KeepsWith c p true code
keeps_exchanged facts c code p c_in ok is_of differ t t_in flips_is q n turn spells = absurd (none_exchanged facts c false p c_in ok is_of differ t q n flips_is t_in turn spells)

-- a code that no image beats is the index
pub index_kept : Facts → (c code : ℕ) (p : Setup) → IsAdmissible p → IsSettled p → Spells c code p → KeepsWith c p false code → KeepsWith c p true code → IsIndex c p code
index_kept facts c code p ok settled s straight exchanged = record {
  settled = p;
  settles = inl (settled, refl);
  image = p;
  images = facts.same p;
  spells = s;
  least = λ other n images spells.
      let turn = facts.turns p other ok images in
      let number = turn_number turn.0 turn.1 turn.2 in
      of_colours number.0 number.1 other n (turn_of turn.0 turn.1 p other number.0 number.2 number.3 turn.3 turn.4) spells;
}
  where
    of_colours : (t : ℕ) → t < 16 → Keeps c p t code
    of_colours t t_in = of_test (eqb (t / 8) 1) refl
      where
        of_test : (b : Bool) → eqb (t / 8) 1 ≡ b → Keeps c p t code
        of_test true is = exchanged t t_in is
        of_test false is = straight t t_in is

-- and one that is beaten is not
pub no_index : Facts → (c code : ℕ) (p : Setup) → IsAdmissible p → IsSettled p → IsBeaten c p code → IsIndex c p code → ⊥
no_index facts c code p ok settled (t, t_in, beats) index =
    let same = facts.settles_once p index.settled p index.settles (inl (settled, refl)) in
    let images = facts.images p beats.image (t % 8) (eqb (t / 8) 1) ok (omega arith) beats.turned.0 beats.turned.1 in
    let le = index.least beats.image beats.other (subst (λ q. AreImages q beats.image) (sym same) images) beats.spells in
    let lt = beats.less in omega arith

-- a position of a class whose sides have the same men, seen with colours exchanged
pub has_exchanged : Facts → (c : ℕ) (flipped : Bool) (stand other : Stand) (side : Side) (targeted : Bool) (p : Setup) → c < 36 → has_equal_sides c ≡ true → other.white ≡ stand.black → other.black ≡ stand.white
    → other.first ≡ on_square_of stand.first stand.last → other.last ≡ on_square_of stand.last stand.first → HasStand c flipped stand side targeted p → HasStand c (not flipped) other side targeted p
has_exchanged facts c flipped stand other side targeted p c_in equal white black next last has = record {
  admissible = has.admissible;
  settled = has.settled;
  is_of = facts.both_flips p c flipped (not flipped) c_in equal has.is_of;
  stood = stood_exchanged c flipped p.men stand other c_in equal white black next last has.stood;
  side_is = has.side_is;
  target_is = has.target_is;
}

-- what hangs on the kings' squares alone
pub same_by_kings : (F : ℕ → ℕ → ℕ) (n white black : ℕ) (stand : Stand) → HasKingsOn white black stand → n ≡ F white black → n ≡ F stand.white stand.black
same_by_kings F n white black stand on is = is ∙ sym (ap (λ (w : ℕ). F w stand.black) on.0 ∙ ap (λ (b : ℕ). F white b) on.1)

-- what a turn tells that exchanges colours so and brings the king home
module _ (c : ℕ) (flips : Bool) (stand : Stand) (t : ℕ) (p : Setup) (side : Side) (targeted : Bool) (code : ℕ) where
  in_colours : IsTurnWith (has_pawns (material_of c)) flips t → HasStand c flips stand side targeted p → HasStand c (eqb (t / 8) 1) stand side targeted p
  in_colours turn has = subst (λ f. HasStand c f stand side targeted p) (sym turn.flips_is) has

  plays : IsTurnWith (has_pawns (material_of c)) flips t → HasStand c flips stand side targeted p → KeepsPlay (t % 8) p.men
  plays turn has = keeps_play c flips p (t % 8) has.admissible has.is_of turn.keeps

  pub turn_beaten : IsTurnWith (has_pawns (material_of c)) flips t → BringsHome (has_pawns (material_of c)) flips stand.white t → TurnBeats c stand t
      → HasStand c flips stand side targeted p → Spells c code p → IsBeaten c p code
  turn_beaten turn brings beats has s = (
    t,
    turn.below,
    beats p side targeted code (in_colours turn has) (plays turn has) (subst (λ f. BringsHome (has_pawns (material_of c)) f stand.white t) (sym turn.flips_is) brings) s,
  )

  pub turn_kept : IsTurnWith (has_pawns (material_of c)) flips t → TurnKeeps c stand t → HasStand c flips stand side targeted p → Spells c code p → Keeps c p t code
  turn_kept turn keeps has s = keeps p side targeted code (in_colours turn has) (plays turn has) s
