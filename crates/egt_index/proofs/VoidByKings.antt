-- Codes after a turn that the kings' squares, their highest digits, tell to be void.
use Rattle.std.proofs.Common.{◌≡◌, ◌≢◌, ◌⊎◌, ℕ, ◌+◌, ◌*◌, ◌/◌, ◌%◌, ◌<◌, ◌≤◌, not, Bool, true, eqb, min, Option, Some}
use Rattle.std.proofs.Common.{None, IfSome, arith, refl, sym, ap, ◌∙◌, subst, inl, inr}
use Rattle.egt_index.specs.Prelude.{cases_eq, cases_lt, Side, White, Black, king_of, Stands, IsAdmissible, Setup}
use Rattle.egt_index.specs.Prelude.{turned_square, has_equal_sides, material_of, Spells, Facts, IsTurnWith, BringsHome}
use Rattle.egt_index.specs.Prelude.{AreHome, IsIndex, KingsHome, AreNearest, IsVoidAfter, has_pawns, AreNear, HasStand}
use Rattle.egt_index.specs.Prelude.{IsTurnedCodeWith, seen_across, IsTurn, AreOnBoard, Stand}
use Rattle.egt_index.proofs.Beating.{has_exchanged, kings_less, spelled_home, stands_after}
use Rattle.egt_index.proofs.Exists.{index_settled}
use Rattle.egt_index.proofs.LeastTurn.{keeps_play, none_away}
use Rattle.egt_index.proofs.Touching.{apart_kings}
use Rattle.egt_index.proofs.TurnedMen.{image_told, spelled_after}

-- the kings after a turn, as a number
abbrev pub kings_after : Stand → ℕ → ℕ
kings_after stand t = 64 * turned_square (t % 8) (eqb (t / 8) 1) stand.white + turned_square (t % 8) (eqb (t / 8) 1) stand.black

-- the kings of what the turn makes are there
kings_there : Facts → (c : ℕ) (flips : Bool) (stand : Stand) (side : Side) (targeted : Bool) (p q : Setup) (t other x y : ℕ) → HasStand c flips stand side targeted p → eqb (t / 8) 1 ≡ flips → IsTurn t p q → Spells c other q
    → Stands q.men x (king_of White) → Stands q.men y (king_of Black) → kings_after stand t ≡ 64 * x + y
kings_there facts c flips stand side targeted p q t other x y has flips_is turn spells white black =
    let stood = subst (λ f. HasStand c f stand side targeted p) (sym flips_is) has in
    let kings = spells.admissible.kings in
    let w = stands_after facts p q t stand.white (king_of White) has.admissible turn stood.stood.all.1 in
    let b = stands_after facts p q t stand.black (king_of Black) has.admissible turn stood.stood.all.3.1 in
    let x_is = kings.white_there.only _ w ∙ sym (kings.white_there.only x white) in
    let y_is = kings.black_there.only _ b ∙ sym (kings.black_there.only y black) in
    ap (λ n. 64 * n + turned_square (t % 8) (eqb (t / 8) 1) stand.black) x_is ∙ ap (λ n. 64 * x + n) y_is

-- a turn whose kings stand on squares as little as those after the turns that bring the king home
least_home : Facts → (c : ℕ) (flips : Bool) (stand : Stand) (side : Side) (targeted : Bool) (p : Setup) (first : ℕ) (second : Option ℕ) (kings u : ℕ) → c < 36 → HasStand c flips stand side targeted p
    → AreHome (has_pawns (material_of c)) flips stand.white first second → IsTurnWith (has_pawns (material_of c)) flips u → BringsHome (has_pawns (material_of c)) flips stand.white u
    → kings ≡ kings_after stand u → kings ≤ kings_after stand first → IfSome second (λ v. kings ≤ kings_after stand v) → KingsHome c p flips kings
least_home facts c flips stand side targeted p first second kings u c_in has home turn brings kings_is le le' =
    let stood = subst (λ f. HasStand c f stand side targeted p) (sym turn.flips_is) has in
    let made = spelled_home facts c u stand p c_in has.admissible has.settled stood.is_of (keeps_play c flips p (u % 8) has.admissible has.is_of turn.keeps) stood.stood.all
    (subst (λ f. BringsHome (has_pawns (material_of c)) f stand.white u) (sym turn.flips_is) brings) in
    record {
      turn = u;
      below = turn.below;
      flips_is = turn.flips_is;
      image = made.image;
      turned = made.turned;
      code = made.code;
      spells = made.spells;
      white = turned_square (u % 8) (eqb (u / 8) 1) stand.white;
      black = turned_square (u % 8) (eqb (u / 8) 1) stand.black;
      white_there = made.white;
      black_there = made.black;
      is = kings_is;
      least = λ t q other x y t_in flips_is turned spells white black.
          let there = kings_there facts c flips stand side targeted p q t other x y has flips_is turned spells white black in
          elim (cases_eq t first) [
            | inl e ↦ subst (λ n. kings ≤ n) there (subst (λ v. kings ≤ kings_after stand v) (sym e) le)
            | inr apart ↦ subst (λ n. kings ≤ n) there (of_second second refl t q other t_in flips_is turned spells apart)
          ];
    }
  where
    of_second : (o : Option ℕ) → second ≡ o → (t : ℕ) (q : Setup) (other : ℕ) → t < 16 → eqb (t / 8) 1 ≡ flips → IsTurn t p q → Spells c other q → t ≢ first → kings ≤ kings_after stand t
    of_second None is t q other t_in flips_is turned spells apart =
        absurd (none_away facts c p flips stand.white first second has.admissible has.is_of has.stood.all.1 home t t_in flips_is apart (subst (λ o. IfSome o (λ u. t ≢ u)) (sym is) tt) q other turned spells)
    of_second (Some v) is t q other t_in flips_is turned spells apart = elim (cases_eq t v) [
      | inl e ↦ subst (λ n. kings ≤ kings_after stand n) (sym e) (subst (λ o. IfSome o (λ v. kings ≤ kings_after stand v)) is le')
      | inr not ↦ absurd (none_away facts c p flips stand.white first second has.admissible has.is_of has.stood.all.1 home t t_in flips_is apart (subst (λ o. IfSome o (λ u. t ≢ u)) (sym is) not) q other turned spells)
    ]

-- of one such turn, or of two
pub kings_of_one : Facts → (c : ℕ) (flips : Bool) (stand : Stand) (side : Side) (targeted : Bool) (p : Setup) (first : ℕ) → c < 36 → HasStand c flips stand side targeted p → AreHome (has_pawns (material_of c)) flips stand.white first None
    → KingsHome c p flips (kings_after stand first)
kings_of_one facts c flips stand side targeted p first c_in has home = least_home facts c flips stand side targeted p first None (kings_after stand first) first c_in has home home.one home.brings refl (omega arith) tt

pub kings_of_two : Facts → (c : ℕ) (flips : Bool) (stand : Stand) (side : Side) (targeted : Bool) (p : Setup) (first second : ℕ) → c < 36 → HasStand c flips stand side targeted p → AreHome (has_pawns (material_of c)) flips stand.white first (Some second)
    → KingsHome c p flips (min (kings_after stand first) (kings_after stand second))
kings_of_two facts c flips stand side targeted p first second c_in has home = elim (either (kings_after stand first) (kings_after stand second)) [
  | inl e ↦ least_home facts c flips stand side targeted p first (Some second) _ first c_in has home home.one home.brings e (few (kings_after stand first) (kings_after stand second)).0 (few (kings_after stand first) (kings_after stand second)).1
  | inr e ↦ least_home facts c flips stand side targeted p first (Some second) _ second c_in has home home.other home.other_brings e (few (kings_after stand first) (kings_after stand second)).0 (few (kings_after stand first) (kings_after stand second)).1
]
  where
    either : (a b : ℕ) → (min a b ≡ a) ⊎ (min a b ≡ b)
    either a b = elim (cases_eq (min a b) a) [ inl e ↦ inl e | inr not ↦ inr (omega arith) ]

    few : (a b : ℕ) → (min a b ≤ a) × (min a b ≤ b)
    few a b = (omega arith, omega arith)

-- kings on the same squares come to the same
same_kings : (stand : Stand) (t white black : ℕ) → stand.white ≡ white → stand.black ≡ black → kings_after stand t ≡ 64 * turned_square (t % 8) (eqb (t / 8) 1) white + turned_square (t % 8) (eqb (t / 8) 1) black
same_kings stand t white black white_is black_is = grind (arith, turned_square, eqb)

-- where one turn brings the white king home, or two do
pub nearest_of_one : Facts → (c : ℕ) (flips : Bool) (white black first kings : ℕ) → c < 36 → AreHome (has_pawns (material_of c)) flips white first None
    → kings ≡ 64 * turned_square (first % 8) (eqb (first / 8) 1) white + turned_square (first % 8) (eqb (first / 8) 1) black → AreNearest c flips white black kings
nearest_of_one facts c flips white black first kings c_in home kings_is stand side targeted p white_is black_is has =
    subst (KingsHome c p flips) (same_kings stand first white black white_is black_is ∙ sym kings_is)
    (kings_of_one facts c flips stand side targeted p first c_in has (subst (λ w. AreHome (has_pawns (material_of c)) flips w first None) (sym white_is) home))

pub nearest_of_two : Facts → (c : ℕ) (flips : Bool) (white black first second kings : ℕ) → c < 36 → AreHome (has_pawns (material_of c)) flips white first (Some second)
    → kings ≡ 64 * turned_square (first % 8) (eqb (first / 8) 1) white + turned_square (first % 8) (eqb (first / 8) 1) black
    → AreNearest c flips white black (min kings (64 * turned_square (second % 8) (eqb (second / 8) 1) white + turned_square (second % 8) (eqb (second / 8) 1) black))
nearest_of_two facts c flips white black first second kings c_in home kings_is stand side targeted p white_is black_is has =
    subst (λ k. KingsHome c p flips (min k (64 * turned_square (second % 8) (eqb (second / 8) 1) white + turned_square (second % 8) (eqb (second / 8) 1) black))) (same_kings stand first white black white_is black_is ∙ sym kings_is)
    (subst (λ k. KingsHome c p flips (min (kings_after stand first) k)) (same_kings stand second white black white_is black_is)
    (kings_of_two facts c flips stand side targeted p first second c_in has (subst (λ w. AreHome (has_pawns (material_of c)) flips w first (Some second)) (sym white_is) home)))

-- a position before the turn, and what the turn makes of it: the code is the least of its images
record IsMade (targeted : Bool) (c turn code : ℕ) (stand : Stand) (side : Side) : Type 0 where
  before : Setup
  has : HasStand c (eqb (turn / 8) 1) stand side targeted before
  after : Setup
  turned : IsTurn turn before after
  spells : Spells c code after
  least : (t : ℕ) (q : Setup) (other : ℕ) → t < 16 → IsTurn t before q → Spells c other q → code ≤ other

-- there is one where the code is an index
made : Facts → (targeted : Bool) (c turn code : ℕ) (stand : Stand) (side : Side) (p : Setup) → c < 36 → AreOnBoard stand → IsTurnedCodeWith targeted c turn code stand side → IsAdmissible p → IsIndex c p code → IsMade targeted c turn code stand side
made facts targeted c turn code stand side p c_in board told ok index =
    let settled = index_settled facts p index.image c code ok index index.spells in
    let before = image_told facts targeted c (turn % 8) code (eqb (turn / 8) 1) stand side index.image c_in told.keeps board told.tells index.spells (λ _. settled) in
    let has : HasStand c (eqb (turn / 8) 1) stand side targeted before.0 = before.1 in
    let after = spelled_after facts targeted c turn code stand side before.0 has told in
    let images = facts.on index.settled index.image before.0 index.images (facts.back before.0 index.image has.admissible before.2) in
    record {
      before = before.0;
      has = has;
      after = after.0;
      turned = after.1.turned;
      spells = after.1.spells;
      least = λ t q other t_in turned spells.
          index.least q other (facts.on index.settled before.0 q images (facts.images before.0 q (t % 8) (eqb (t / 8) 1) has.admissible (omega arith) turned.0 turned.1)) spells;
    }

-- the kings' squares after the turn are the least
module _ (facts : Facts) (targeted : Bool) (c turn code : ℕ) (stand : Stand) (side : Side) (is : IsMade targeted c turn code stand side) where
  none_nearer : (flips : Bool) (kings : ℕ) → KingsHome c is.before flips kings → kings_after stand turn ≤ kings
  none_nearer flips kings home = elim (cases_lt kings (kings_after stand turn)) [
    | inr le ↦ le
    | inl lt ↦
        let kings_are = home.is in
        let least = is.least home.turn home.image home.code home.below home.turned home.spells in
        let less =
        kings_less c home.code code home.image is.after _ _ _ _ home.spells is.spells home.white_there home.black_there
        (stands_after facts is.before is.after turn stand.white (king_of White) is.has.admissible is.turned is.has.stood.all.1)
        (stands_after facts is.before is.after turn stand.black (king_of Black) is.has.admissible is.turned is.has.stood.all.3.1) (omega arith) in absurd (omega (arith, least, less))
  ]

-- where other turns bring the kings to lesser squares
pub void_within : Facts → (c white black turn kings : ℕ) → c < 36 → AreNearest c (eqb (turn / 8) 1) white black kings
    → kings < 64 * turned_square (turn % 8) (eqb (turn / 8) 1) white + turned_square (turn % 8) (eqb (turn / 8) 1) black → IsVoidAfter c white black turn
void_within facts c white black turn kings c_in nearest less targeted code stand side board white_is black_is told p ok index =
    let is = made facts targeted c turn code stand side p c_in board told ok index in
    let le = none_nearer facts targeted c turn code stand side is (eqb (turn / 8) 1) kings (nearest stand side targeted is.before white_is black_is is.has) in
    let same = same_kings stand turn white black white_is black_is in omega arith

-- or turns that exchange colours the other way
pub void_across : Facts → (c white black turn kings : ℕ) → c < 36 → has_equal_sides c ≡ true → AreNearest c (not (eqb (turn / 8) 1)) black white kings
    → kings < 64 * turned_square (turn % 8) (eqb (turn / 8) 1) white + turned_square (turn % 8) (eqb (turn / 8) 1) black → IsVoidAfter c white black turn
void_across facts c white black turn kings c_in equal nearest less targeted code stand side board white_is black_is told p ok index =
    let is = made facts targeted c turn code stand side p c_in board told ok index in
    let across = has_exchanged facts c (eqb (turn / 8) 1) stand (seen_across stand) side targeted is.before c_in equal refl refl refl refl is.has in
    let le = none_nearer facts targeted c turn code stand side is (not (eqb (turn / 8) 1)) kings (nearest (seen_across stand) side targeted is.before black_is white_is across) in
    let same = same_kings stand turn white black white_is black_is in omega arith

-- or where the kings stand beside one another
pub void_near : Facts → (c white black turn : ℕ) → c < 36 → AreNear white black → IsVoidAfter c white black turn
void_near facts c white black turn c_in near targeted code stand side board white_is black_is told p ok index =
    let is = made facts targeted c turn code stand side p c_in board told ok index in
    apart_kings c (eqb (turn / 8) 1) stand side targeted is.before is.has (subst (AreNear stand.white) (sym black_is) (subst (λ s. AreNear s black) (sym white_is) near))
