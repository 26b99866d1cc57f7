-- The greatest scores of all moves of pawns: their advances, and the captures by which they are promoted.
use Rattle.std.proofs.Common.{◌≡◌, ◌≢◌, ℕ, ◌⊎◌, max, Bool, true, false, Option, Some, None, IfSome, arith, refl, sym}
use Rattle.std.proofs.Common.{ap, ◌∙◌, inl, inr, subst}
use Rattle.egt_check.specs.Prelude.{other_side, R, pawn_told, TableValue, officer_of, IsTableOf, men_swapped, Promotions}
use Rattle.egt_check.specs.Prelude.{Stands, AreAdvancedCodes, ArePromotedCodes, IsPromotingCaptureFrom, AreRaisedByPawns}
use Rattle.egt_check.specs.Prelude.{IsOccupiedBy, AreLeapCodes, AreStepCodes, IsTableAfter, HasPromotion, HasPromotions}
use Rattle.egt_check.specs.Prelude.{one_man, Setup, Kind, B, Side, Zeroes, Leads, is_pawn, Move, Tables, AreTwo, are_in}
use Rattle.egt_check.specs.Prelude.{Q, zeroing_score, ArePassingCodes, IsPromotionScore, IsRaisedByPawn, IsPlainCapture}
use Rattle.egt_check.specs.Prelude.{N, P, Mate, who}
use Rattle.egt_check.specs.Prelude.{Man, HasStand, ShelfMen, IsRaised, promotes, stand_on, AreGiven, score_at, Promotion}
use Rattle.egt_check.specs.Prelude.{FitsPromotion, IsOfficer, IsOfFourKinds, IsPassingFrom, IsAdvanceFrom, ArePawnScores}
use Rattle.egt_table.specs.declared.column.Column.TheVariants as columns
use Rattle.egt_check.proofs.EitherGiven.{same_given, union_given}
use Rattle.egt_check.proofs.ByteJudged.{zeroing_max}

-- ---- moves of two kinds that zero

-- the greatest scores of moves that are of one kind or of the other
pub either_zeroing : (tables : Tables) (p : Setup) (C One Other : Move → Type 0) (u v w : ℕ) → AreGiven tables p One u (zeroing_score u) → AreGiven tables p Other v (zeroing_score v) → w ≡ max u v
    → ((q : Setup) (m : Move) → Leads p m q → C m → One m ⊎ Other m) → ((m : Move) → One m → C m) → ((m : Move) → Other m → C m) → AreGiven tables p C w (zeroing_score w)
either_zeroing tables p C One Other u v w one other is either from_one from_other =
    subst (λ n. AreGiven tables p C n (zeroing_score n)) (sym is)
    (subst (AreGiven tables p C (max u v)) (zeroing_max u v) (union_given tables p C One Other u (zeroing_score u) v (zeroing_score v) one other either from_one from_other))

-- ---- the moves of a pawn

-- those before, and the pawn's moves from b by which he is promoted to this kind
abbrev pub WithPromotions : (C : Move → Type 0) → Setup → ℕ → Kind → Move → Type 0
WithPromotions C p b kind m = (C m ⊎ IsAdvanceFrom p b (Some kind) m) ⊎ IsPromotingCaptureFrom p b kind m

-- all his moves but the captures that promote nothing
abbrev pub IsMoveFrom : Setup → ℕ → Move → Type 0
IsMoveFrom p b = WithPromotions (WithPromotions (WithPromotions (WithPromotions (IsAdvanceFrom p b None) p b Q) p b R) p b B) p b N

-- such a move of the last man, a pawn of that side on b
abbrev pub IsPawnMove : ShelfMen → Side → Setup → ℕ → Move → Type 0
IsPawnMove men side p b m = (men.last.kind ≡ P) × (men.last.side ≡ side) × IsMoveFrom p b m

-- what the laws on moves of pawns say of this position, whose class names the last man first where `first`
pub record PawnLaws (tables : Tables) (men : ShelfMen) (first : Bool) (side : Side) (a b : ℕ) (p : Setup) : Type 0 where
  pub advances : (t : TableValue) (u v : ℕ) → IsTableAfter tables t first false men.first men.last → IsRaised 0 (AreStepCodes t.class first men side a b) (score_at t Mate) u → IsRaised 0 (AreLeapCodes t.class first men side a b) (score_at t Mate) v
      → AreGiven tables p (IsAdvanceFrom p b None) (max u v) (zeroing_score (max u v))
  pub promotions : (kind : Kind) (t : TableValue) (before flips : Bool) (w : ℕ) → IsTableAfter tables t before flips men.first (officer_of men.last.side kind) → IsRaised 0 (AreAdvancedCodes t.class before flips men side (Some kind) a b) (score_at t Mate) w
      → AreGiven tables p (IsAdvanceFrom p b (Some kind)) w (zeroing_score w)
  pub captures : (kind : Kind) (t : TableValue) (flips : Bool) (w : ℕ) → IsTableOf tables t flips (officer_of side kind) → IsRaised 0 (ArePromotedCodes t.class flips men side kind a b) (score_at t Mate) w
      → AreGiven tables p (IsPromotingCaptureFrom p b kind) w (zeroing_score w)

module _ (tables : Tables) (men : ShelfMen) (first : Bool) (side : Side) (a b : ℕ) (p : Setup) where
  module _ (laws : PawnLaws tables men first side a b p) (mine : men.last.side ≡ side) where
    promoted_given : (C : Move → Type 0) (promotion : Promotion) (kind : Kind) (low high : ℕ) → AreGiven tables p C low (zeroing_score low) → HasPromotion tables promotion men → promotion.kind ≡ kind
        → IsPromotionScore columns.Mate promotion men side a b low high → AreGiven tables p (WithPromotions C p b kind) high (zeroing_score high)
    promoted_given C promotion kind low high given has kind_is score =
        either_zeroing tables p (WithPromotions C p b kind) (λ m. C m ⊎ IsAdvanceFrom p b (Some kind) m) (IsPromotingCaptureFrom p b kind) (max low score.advanced) score.taken high
        (either_zeroing tables p (λ m. C m ⊎ IsAdvanceFrom p b (Some kind) m) C (IsAdvanceFrom p b (Some kind)) low score.advanced (max low score.advanced) given
        (subst (λ (k : Kind). AreGiven tables p (IsAdvanceFrom p b (Some k)) score.advanced (zeroing_score score.advanced)) kind_is
        (laws.promotions promotion.kind promotion.both.now promotion.before promotion.both_flips score.advanced has.both score.advanced_raised)) refl (λ q m leads is. is) (λ m is. inl is) (λ m is. inr is))
        (subst (λ (k : Kind). AreGiven tables p (IsPromotingCaptureFrom p b k) score.taken (zeroing_score score.taken)) kind_is
        (laws.captures promotion.kind promotion.alone.now promotion.alone_flips score.taken (subst (λ (s : Side). IsTableOf tables promotion.alone.now promotion.alone_flips (officer_of s promotion.kind)) mine has.alone) score.taken_raised))
        score.is (λ q m leads is. is) (λ m is. inl is) (λ m is. inr is)

    moves_given : (own : TableValue) (promotions : Promotions) (score : ℕ) → IsTableAfter tables own first false men.first men.last → HasPromotions tables promotions men
        → ArePawnScores columns.Mate own first promotions men side a b score → AreGiven tables p (IsMoveFrom p b) score (zeroing_score score)
    moves_given own promotions score after has s =
        let plain = laws.advances own s.stepped s.leapt after s.stepped_raised s.leapt_raised in
        let queen = promoted_given (IsAdvanceFrom p b None) promotions.queen Q (max s.stepped s.leapt) s.queen plain has.queen has.queen_is s.queen_is in
        let rook = promoted_given (WithPromotions (IsAdvanceFrom p b None) p b Q) promotions.rook R s.queen s.rook queen has.rook has.rook_is s.rook_is in
        let bishop = promoted_given (WithPromotions (WithPromotions (IsAdvanceFrom p b None) p b Q) p b R) promotions.bishop B s.rook s.bishop rook has.bishop has.bishop_is s.bishop_is in
        promoted_given (WithPromotions (WithPromotions (WithPromotions (IsAdvanceFrom p b None) p b Q) p b R) p b B) promotions.knight N s.bishop score bishop has.knight has.knight_is s.knight_is

  -- no move of his where he is no pawn of that side
  none_given : ¬ ((men.last.kind ≡ P) × (men.last.side ≡ side)) → AreGiven tables p (IsPawnMove men side p b) 0 (zeroing_score 0)
  none_given none = record { above = λ q m leads is. absurd (none (is.0, is.1)); mate_given = inl refl; zeroing_given = inl refl }

  pub raised_given : (men.last.kind ≡ P → men.last.side ≡ side → PawnLaws tables men first side a b p) → (own : TableValue) (promotions : Option Promotions) (high : ℕ) → IsTableAfter tables own first false men.first men.last
      → IfSome promotions (λ kinds. HasPromotions tables kinds men) → IsRaisedByPawn columns.Mate own first promotions men side a b 0 high → AreGiven tables p (IsPawnMove men side p b) high (zeroing_score high)
  raised_given laws own promotions high after has (inl (same, none)) = subst (λ n. AreGiven tables p (IsPawnMove men side p b) n (zeroing_score n)) (sym same) (none_given none)
  raised_given laws own promotions high after has (inr (pawn, mine, kinds, some, score, scores, is)) =
      let same : high ≡ score = omega (arith, is) in
      let given = moves_given (laws pawn mine) mine own kinds score after (subst (λ (o : Option Promotions). IfSome o (λ kinds. HasPromotions tables kinds men)) some has) scores in
      subst (λ n. AreGiven tables p (IsPawnMove men side p b) n (zeroing_score n)) (sym same)
      (same_given tables p (IsPawnMove men side p b) (IsMoveFrom p b) score (zeroing_score score) given (λ q m leads is. is.2) (λ m is. (pawn, mine, is)))

-- ---- the moves that zero

-- who is promoted is a pawn, and becomes an officer
fits_pawn : (man : Man) (to : ℕ) (kind : Kind) → FitsPromotion (promotes man to) (Some kind) → (man.kind ≡ P) × IsOfficer kind
fits_pawn man to kind fits = grind (arith, promotes, is_pawn, pawn_told)

module _ (p : Setup) (b : ℕ) (m : Move) where
  advanced : (man : Man) (promo : Option Kind) → FitsPromotion (promotes man m.to) promo → IsAdvanceFrom p b promo m → IsMoveFrom p b m
  advanced man promo fits is = grind (arith, fits_pawn)

  -- they are all from b
  from_there : IsMoveFrom p b m → m.from ≡ b
  from_there is = grind arith

-- of either man
abbrev pub IsEitherPawnMove : ShelfMen → Side → Setup → (a b : ℕ) → Move → Type 0
IsEitherPawnMove men side p a b m = IsPawnMove men side p b m ⊎ IsPawnMove (men_swapped men) side p a m

-- a capture in passing by the last man, and by either
abbrev pub IsPawnPassing : ShelfMen → Setup → (b : ℕ) → Move → Type 0
IsPawnPassing men p b m = (men.last.kind ≡ P) × IsPassingFrom p b m

abbrev pub IsEitherPassing : ShelfMen → Setup → (a b : ℕ) → Move → Type 0
IsEitherPassing men p a b m = IsPawnPassing men p b m ⊎ IsPawnPassing (men_swapped men) p a m

-- the moves of a pawn that zero, of each kind
abbrev pub IsLoud : ShelfMen → Side → Setup → (a b : ℕ) → Move → Type 0
IsLoud men side p a b m = (IsPlainCapture p m ⊎ IsEitherPawnMove men side p a b m) ⊎ IsEitherPassing men p a b m

module _ (c : ℕ) (men : ShelfMen) (side : Side) (targeted : Bool) (a b : ℕ) (p : Setup) (has : HasStand c false (stand_on men a b) side targeted p) where
  there : AreTwo p.men men.white men.black men.first a men.last b
  there = are_in c men false side targeted a b p has

  module _ (q : Setup) (m : Move) (leads : Leads p m q) (kinds : IsOfFourKinds p m.from m) where
    mine : leads.man.side ≡ side
    mine = leads.mine ∙ has.side_is

    -- the pawn is one of these two
    whose : leads.man.kind ≡ P → ((m.from ≡ a) × (men.first.kind ≡ P) × (men.first.side ≡ side)) ⊎ ((m.from ≡ b) × (men.last.kind ≡ P) × (men.last.side ≡ side))
    whose pawn = grind (arith, who, there, mine)

    by_pawn : leads.man.kind ≡ P → ((s : ℕ) → m.from ≡ s → IsMoveFrom p s m) → IsEitherPawnMove men side p a b m
    by_pawn pawn moves = elim (whose pawn) [
      | inl h ↦ inr (h.1, h.2, moves a h.0)
      | inr h ↦ inl (h.1, h.2, moves b h.0)
    ]

    by_passing : leads.man.kind ≡ P → IsPassingFrom p m.from m → IsEitherPassing men p a b m
    by_passing pawn is = grind (arith, whose)

    -- a capture that promotes nothing, or a pawn's
    captures : IsOccupiedBy p.men m.to (other_side p.side) → (promo : Option Kind) → m.promo ≡ promo → IsPlainCapture p m ⊎ IsEitherPawnMove men side p a b m
    captures held promo is = grind (arith, fits_pawn, promotes, by_pawn)

    of_pawn : leads.man.kind ≡ P → IsLoud men side p a b m
    of_pawn pawn = elim kinds [
      | inl advancing ↦ inl (inr (by_pawn pawn (λ s from. advanced p s m leads.man m.promo leads.promotion (record { from = from; quiet = advancing.0.quiet; promo_is = refl }))))
      | inr rest ↦ elim rest [
        | inl plain ↦ inl (inl plain.1)
        | inr more ↦ elim more [
          | inl promoting ↦ inl (captures promoting.2.takes m.promo refl)
          | inr passing ↦ inr (by_passing pawn passing)
        ]
      ]
    ]

    pub zeroing_moves : Zeroes p m → IsLoud men side p a b m
    zeroing_moves h = grind (arith, captures, of_pawn, one_man)

  -- a pawn's moves zero
  last_zeroes : (m : Move) → men.last.kind ≡ P → m.from ≡ b → Zeroes p m
  last_zeroes m pawn from = inr (record { man = men.last; stands = subst (λ s. Stands p.men s men.last) (sym from) there.other_there; pawn = pawn })

  one_zeroes : (m : Move) → men.first.kind ≡ P → m.from ≡ a → Zeroes p m
  one_zeroes m pawn from = inr (record { man = men.first; stands = subst (λ s. Stands p.men s men.first) (sym from) there.one_there; pawn = pawn })

  pub pawns_zero : (m : Move) → IsEitherPawnMove men side p a b m → Zeroes p m
  pawns_zero m h = grind (arith, last_zeroes, from_there, one_zeroes)

  pub passing_zeroes : (m : Move) → IsEitherPassing men p a b m → Zeroes p m
  passing_zeroes m h = grind (arith, last_zeroes, one_zeroes)

-- ---- captures in passing

-- none where the last man is no pawn
no_passing : (men : ShelfMen) (d : ℕ) (flips : Bool) (side : Side) (t : TableValue) (a b w : ℕ) → men.last.kind ≢ P → IsRaised 0 (ArePassingCodes d flips men side a b) (score_at t Mate) w → w ≡ 0
no_passing men d flips side t a b w none raised = grind arith

passing_of : (tables : Tables) (men : ShelfMen) (side : Side) (a b : ℕ) (p : Setup) (t : TableValue) (flips : Bool) (w : ℕ)
    → (men.last.kind ≡ P → IsRaised 0 (ArePassingCodes t.class flips men side a b) (score_at t Mate) w → AreGiven tables p (IsPassingFrom p b) w (zeroing_score w)) → IsRaised 0 (ArePassingCodes t.class flips men side a b) (score_at t Mate) w
    → AreGiven tables p (IsPawnPassing men p b) w (zeroing_score w)
passing_of tables men side a b p t flips w law raised = by_kind (is_pawn men.last.kind) refl
  where
    by_kind : (pawn : Bool) → is_pawn men.last.kind ≡ pawn → AreGiven tables p (IsPawnPassing men p b) w (zeroing_score w)
    by_kind true is =
        let pawn = pawn_told men.last.kind is in
        same_given tables p (IsPawnPassing men p b) (IsPassingFrom p b) w (zeroing_score w) (law pawn raised) (λ q m leads is. is.1) (λ m is. (pawn, is))
    by_kind false is =
        let none : men.last.kind ≢ P = λ pawn. let yes = ap is_pawn pawn in cc in
        subst (λ n. AreGiven tables p (IsPawnPassing men p b) n (zeroing_score n)) (sym (no_passing men t.class flips side t a b w none raised))
        (record { above = λ q m leads is. absurd (none is.0); mate_given = inl refl; zeroing_given = inl refl })

-- of either man
pub passing_given : (tables : Tables) (men : ShelfMen) (side : Side) (a b : ℕ) (p : Setup) (first last : TableValue) (first_flips last_flips : Bool) (u v : ℕ)
    → (men.last.kind ≡ P → IsRaised 0 (ArePassingCodes last.class last_flips men side a b) (score_at last Mate) u → AreGiven tables p (IsPassingFrom p b) u (zeroing_score u))
    → (men.first.kind ≡ P → IsRaised 0 (ArePassingCodes first.class first_flips (men_swapped men) side b a) (score_at first Mate) v → AreGiven tables p (IsPassingFrom p a) v (zeroing_score v))
    → IsRaised 0 (ArePassingCodes last.class last_flips men side a b) (score_at last Mate) u → IsRaised 0 (ArePassingCodes first.class first_flips (men_swapped men) side b a) (score_at first Mate) v
    → AreGiven tables p (IsEitherPassing men p a b) (max u v) (zeroing_score (max u v))
passing_given tables men side a b p first last first_flips last_flips u v last_law first_law last_raised first_raised =
    either_zeroing tables p (IsEitherPassing men p a b) (IsPawnPassing men p b) (IsPawnPassing (men_swapped men) p a) u v (max u v)
    (passing_of tables men side a b p last last_flips u last_law last_raised) (passing_of tables (men_swapped men) side b a p first first_flips v first_law first_raised)
    refl (λ q m leads is. is) (λ m is. inl is) (λ m is. inr is)

-- where there is no target
pub nothing_passing : (tables : Tables) (men : ShelfMen) (a b : ℕ) (p : Setup) → ((s : ℕ) (m : Move) → ¬ IsPassingFrom p s m) → AreGiven tables p (IsEitherPassing men p a b) 0 (zeroing_score 0)
nothing_passing tables men a b p none = record {
  above = λ q m leads is. absurd (elim is [ inl last ↦ none b m last.1 | inr one ↦ none a m one.1 ]);
  mate_given = inl refl;
  zeroing_given = inl refl;
}

-- ---- all moves that zero

-- the captures, and the pawns' other moves
pub loud_given : (tables : Tables) (c : ℕ) (men : ShelfMen) (side : Side) (targeted : Bool) (a b : ℕ) (p : Setup) → HasStand c false (stand_on men a b) side targeted p
    → ((q : Setup) (m : Move) → Leads p m q → IsOfFourKinds p m.from m) → (own : TableValue) (first last : Option Promotions) (taken pawns passing : ℕ)
    → (men.last.kind ≡ P → men.last.side ≡ side → PawnLaws tables men false side a b p) → (men.first.kind ≡ P → men.first.side ≡ side → PawnLaws tables (men_swapped men) true side b a p)
    → IsTableAfter tables own false false men.first men.last
    → IfSome first (λ kinds. HasPromotions tables kinds (men_swapped men)) → IfSome last (λ kinds. HasPromotions tables kinds men) → AreGiven tables p (IsPlainCapture p) taken (zeroing_score taken)
    → AreRaisedByPawns columns.Mate own first last men side a b pawns → AreGiven tables p (IsEitherPassing men p a b) passing (zeroing_score passing)
    → AreGiven tables p (Zeroes p) (max (max taken pawns) passing) (zeroing_score (max (max taken pawns) passing))
loud_given tables c men side targeted a b p has kinds own first last taken pawns passing last_laws first_laws after has_first has_last captures s by_passing =
    either_zeroing tables p (Zeroes p) (λ m. IsPlainCapture p m ⊎ IsEitherPawnMove men side p a b m) (IsEitherPassing men p a b) (max taken pawns) passing (max (max taken pawns) passing)
    (either_zeroing tables p (λ m. IsPlainCapture p m ⊎ IsEitherPawnMove men side p a b m) (IsPlainCapture p) (IsEitherPawnMove men side p a b) taken pawns (max taken pawns) captures
    (either_zeroing tables p (IsEitherPawnMove men side p a b) (IsPawnMove men side p b) (IsPawnMove (men_swapped men) side p a) s.by_last s.by_first pawns
    (raised_given tables men false side a b p last_laws own last s.by_last after has_last s.last_is)
    (raised_given tables (men_swapped men) true side b a p first_laws own first s.by_first
    (record { is_table = after.is_table; found = after.found; bytes = after.bytes; class_after = after.class_after }) has_first s.first_is)
    s.is (λ q m leads is. is) (λ m is. inl is) (λ m is. inr is))
    refl (λ q m leads is. is) (λ m is. inl is) (λ m is. inr is))
    by_passing refl (λ q m leads zeroes. zeroing_moves c men side targeted a b p has q m leads (kinds q m leads) zeroes)
    (λ m is. elim is [ inl takes ↦ inl takes.0 | inr pawns ↦ pawns_zero c men side targeted a b p has m pawns ]) (passing_zeroes c men side targeted a b p has)
