-- Where moves lead: into the class or a child of it.
use Rattle.std.proofs.Common.{◌≡◌, ◌≢◌, ℕ, ◌+◌, ◌*◌, ◌<◌, ◌&&◌, ◌⊎◌, Bool, true, false, not, cond, eqb, ltb, Option}
use Rattle.std.proofs.Common.{Some, None, IfSome, IsSome, refl, sym, ap, ap₂, ◌∙◌, inl, inr, arith, if◌then◌else◌}
use Rattle.egt_steps.specs.Prelude.{Contains, option_map, is_some, eq-eqb, lt-ltb, eqb_tells, Side, Kind, Q, R, B, N, P}
use Rattle.egt_steps.specs.Prelude.{K, Man, other_side, pawn_of, Setup, kind_number, side_number, man_number}
use Rattle.egt_steps.specs.Prelude.{stands_here, count_of, Move, Captures, Exchanges, IsOfficer, arriving, material_of}
use Rattle.egt_steps.specs.Prelude.{men_in, IsOf, all_agree, OneKing, covered, smaller, either, one_king_in}
use Rattle.egt_class.specs.Children.{Change, man_of, man_taken, pawn_promoted, man_promoted, side_if, men_of, is_change}
use Rattle.egt_class.specs.Children.{is_possible, has_man, follows_as, children_of}
use Rattle.egt_board.proofs.Sides.{kind_few}

-- a man in the class's colours, and back
turned : Bool → Man → Man
turned f man = man_of (side_if f man.side) man.kind

side_twice : (f : Bool) (side : Side) → side_if f (side_if f side) ≡ side
side_twice f side = grind arith

turned_twice : (f : Bool) (man : Man) → turned f (turned f man) ≡ man
unfolding turned
turned_twice f man = ap (λ side. man_of side man.kind) (side_twice f man.side)

one_where : ℕ → ℕ → ℕ
one_where a b = cond (eqb a b) 1 0

same_test : (a b c d : ℕ) → (a ≡ b → c ≡ d) → (c ≡ d → a ≡ b) → one_where a b ≡ one_where c d
unfolding one_where
same_test a b c d f g = grind (arith, eqb_tells, eq-eqb)

-- men of the other sides are the same where the men are
numbers_exchanged : (s t : Side) (k l : Kind) → one_where (6 * side_number (other_side s) + kind_number k) (6 * side_number (other_side t) + kind_number l) ≡ one_where (6 * side_number s + kind_number k) (6 * side_number t + kind_number l)
numbers_exchanged s t k l = grind (arith, same_test, kind_few)

here_turned : (f : Bool) (man : Man) (o : Option Man) → stands_here (turned f man) (option_map (turned f) o) ≡ stands_here man o
unfolding turned one_where
here_turned f man o = grind (arith, numbers_exchanged)

here_back : (f : Bool) (man : Man) (o : Option Man) → stands_here (turned f man) o ≡ stands_here man (option_map (turned f) o)
here_back f man o = sym (here_turned f (turned f man) o) ∙ ap (λ x. stands_here x (option_map (turned f) o)) (turned_twice f man)

here_self : (man : Man) → stands_here man (Some man) ≡ 1
here_self man = ap (λ b. cond b 1 0) (eq-eqb (man_number man) (man_number man) refl)

-- a man of the other side is another
here_other_side : (side : Side) (k l : Kind) → stands_here (man_of (other_side side) k) (Some (man_of side l)) ≡ 0
here_other_side side k l = grind (arith, eqb_tells)

-- an officer is no pawn
here_officer : (side : Side) (kind : Kind) → IsOfficer kind → stands_here (pawn_of side) (Some (man_of side kind)) ≡ 0
here_officer side kind officer = grind arith

-- one flip and then another
abbrev flip_by : Bool → Bool → Bool
flip_by f g = if f then not g else g

sides_both : (f g : Bool) (side : Side) → side_if g (side_if f side) ≡ side_if (flip_by f g) side
sides_both f g side = grind arith

change_told : (taken : Option Kind) (becomes : Option Kind) → IsSome taken ⊎ IsSome becomes → (IsSome becomes → IfSome taken (λ kind. kind ≢ P)) → is_change taken becomes ≡ true
change_told taken becomes some no_pawn = grind arith

all_three : (a b c : Bool) → a ≡ true → b ≡ true → c ≡ true → (a && b && c) ≡ true
all_three a b c p q r = ap₂ (λ x y. x && y) (ap₂ (λ x y. x && y) p q) r

mapped_some : (o : Option Man) → IsSome o → IsSome (option_map (λ (man : Man). man.kind) o)
mapped_some o some = grind arith

module _ (p q : Setup) (m : Move) (c : ℕ) (f : Bool) (is : IsOf c f p) (x : Exchanges p m q) where
  -- a move that neither captures nor promotes
  pub stays : ¬ Captures p m → m.promo ≡ None → IsOf c f q
  stays quiet plain = record { men = λ man. same man ∙ is.men man }
    where
      nothing : (o : Option Man) → x.taken ≡ o → x.taken ≡ None
      nothing o e = grind arith

      same : (man : Man) → count_of q.men man ≡ count_of p.men man
      same man = grind (arith, nothing)

  abbrev mover : Side
  mover = side_if f p.side

  abbrev change : Change
  change = record { mover = side_if f p.side; taken = option_map (λ (man : Man). man.kind) x.taken; becomes = m.promo }

  -- how many of a man of the class's colours there are after the move
  left : Man → ℕ
  left man = count_of q.men (turned f man)

  taken_is : (o : Option Man) → IfSome o (λ other. (other.side ≡ other_side p.side) × (other.kind ≢ K)) → option_map (turned f) o ≡ option_map (man_of (other_side (side_if f p.side))) (option_map (λ (man : Man). man.kind) o)
  unfolding turned
  taken_is o ok = grind arith

  before : (man : Man) → count_of p.men (turned f man) ≡ men_of (material_of c) false man
  unfolding turned men_in
  before man = is.men (turned f man) ∙ ap (λ side. men_in c side man.kind) (side_twice f man.side)

  -- the men in the class's colours
  counts : (man : Man) → left man + stands_here man (man_taken change) + stands_here man (pawn_promoted change) ≡ men_of (material_of c) false man + stands_here man (man_promoted change)
  unfolding turned left
  counts man = by_promotion m.promo refl x.promoted
    where
      taken_here : stands_here (turned f man) x.taken ≡ stands_here man (man_taken change)
      taken_here = here_back f man x.taken ∙ ap (stands_here man) (taken_is x.taken x.enemy)

      by_promotion : (promo : Option Kind) → m.promo ≡ promo → IfSome promo (λ kind. (x.man.kind ≡ P) × IsOfficer kind × IfSome x.taken (λ other. other.kind ≢ P))
          → left man + stands_here man (man_taken change) + stands_here man (option_map (λ _. pawn_of mover) promo) ≡ men_of (material_of c) false man + stands_here man (option_map (man_of mover) promo)
      by_promotion None e ok =
          let all = x.counts (turned f man) in
          let here : stands_here (turned f man) (Some (arriving x.man m.promo)) ≡ stands_here (turned f man) (Some x.man) = ap (λ o. stands_here (turned f man) (Some (arriving x.man o))) e in
          let taken = taken_here in
          let were = before man in
          omega arith
      by_promotion (Some kind) e ok =
          let all = x.counts (turned f man) in
          let here : stands_here (turned f man) (Some (arriving x.man m.promo)) ≡ stands_here man (Some (man_of mover kind)) =
          ap (λ o. stands_here (turned f man) (Some (arriving x.man o))) e
          ∙ here_back f man (Some (man_of x.man.side kind))
          ∙ ap (λ side. stands_here man (Some (man_of (side_if f side) kind))) x.mine in
          let pawn : stands_here (turned f man) (Some x.man) ≡ stands_here man (Some (pawn_of mover)) =
          here_back f man (Some x.man)
          ∙ ap (λ side. stands_here man (Some (man_of (side_if f side) x.man.kind))) x.mine
          ∙ ap (λ k. stands_here man (Some (man_of (side_if f p.side) k))) ok.0 in
          let taken = taken_here in
          let were = before man in
          omega arith

  there : (man : Man) → 0 < men_of (material_of c) false man → ltb 0 (men_of (material_of c) false man) ≡ true
  there man some = lt-ltb _ _ some

  officer_told : (promo : Option Kind) → IfSome promo (λ kind. (x.man.kind ≡ P) × IsOfficer kind × IfSome x.taken (λ other. other.kind ≢ P)) → IfSome promo IsOfficer
  officer_told promo ok = grind arith

  kinds_told : (o : Option Man) → IfSome o (λ other. (other.side ≡ other_side p.side) × (other.kind ≢ K)) → IfSome (option_map (λ (man : Man). man.kind) o) (λ kind. kind ≢ K)
  kinds_told o ok = grind arith

  -- the man that is taken was there
  has_taken : (o : Option Kind) → change.taken ≡ o → has_man (material_of c) (option_map (man_of (other_side mover)) o) ≡ true
  has_taken None e = refl
  has_taken (Some kind) e =
      let man = man_of (other_side mover) kind in
      let all = counts man in
      let here : stands_here man (man_taken change) ≡ 1 = ap (λ o. stands_here man (option_map (man_of (other_side mover)) o)) e ∙ here_self man in
      let none = not_promoted kind m.promo in
      there man (omega arith)
    where
      not_promoted : (kind : Kind) (promo : Option Kind) → stands_here (man_of (other_side mover) kind) (option_map (man_of mover) promo) ≡ 0
      not_promoted kind promo = grind (arith, here_other_side)

  -- the pawn that is promoted was there
  has_pawn : (promo : Option Kind) → m.promo ≡ promo → IfSome promo IsOfficer → has_man (material_of c) (option_map (λ _. pawn_of mover) promo) ≡ true
  has_pawn None e ok = refl
  has_pawn (Some kind) e ok =
      let all = counts (pawn_of mover) in
      let here : stands_here (pawn_of mover) (pawn_promoted change) ≡ 1 = ap (λ o. stands_here (pawn_of mover) (option_map (λ _. pawn_of mover) o)) e ∙ here_self (pawn_of mover) in
      let none : stands_here (pawn_of mover) (man_promoted change) ≡ 0 = ap (λ o. stands_here (pawn_of mover) (option_map (man_of mover) o)) e ∙ here_officer mover kind ok in
      there (pawn_of mover) (omega arith)

  no_pawn_taken : (promo : Option Kind) → IfSome promo (λ kind. (x.man.kind ≡ P) × IsOfficer kind × IfSome x.taken (λ other. other.kind ≢ P)) → IsSome promo → (o : Option Man) → x.taken ≡ o → IfSome (option_map (λ (man : Man). man.kind) o) (λ kind. kind ≢ P)
  no_pawn_taken promo ok some o e = grind arith

  possible : Captures p m ⊎ IsSome m.promo → is_possible (material_of c) change ≡ true
  possible other =
      all_three _ _ _
      (change_told change.taken change.becomes (elim other [ inl captures ↦ inl (mapped_some x.taken (x.captures.0 captures)) | inr promotes ↦ inr promotes ]) (λ some. no_pawn_taken m.promo x.promoted some x.taken refl))
      (has_taken change.taken refl) (has_pawn m.promo refl (officer_told m.promo x.promoted))

  -- whatever follows the change is of that class
  follows_is_of : (d : ℕ) (g : Bool) → d < 36 → OneKing q.men → follows_as g (material_of c) change (material_of d) ≡ true → IsOf d (flip_by f g) q
  unfolding left turned men_in
  follows_is_of d g d_in kings told = record { men = λ man. by_kind man.side man.kind }
    where
      after : (side : Side) (kind : Kind) → kind ≢ K → count_of q.men (man_of side kind) ≡ men_in d (side_if (flip_by f g) side) kind
      after side kind not_king =
          let turned_man = man_of (side_if f side) kind in
          let all = counts turned_man in
          let told_at = all_agree
          (λ man. men_of (material_of d) g man + stands_here man (man_taken change) + stands_here man (pawn_promoted change))
          (λ man. men_of (material_of c) false man + stands_here man (man_promoted change)) told (side_if f side) kind not_king in
          let same : left turned_man ≡ men_of (material_of d) g turned_man = omega arith in
          ap (λ s. count_of q.men (man_of s kind)) (sym (side_twice f side)) ∙ same ∙ ap (λ s. men_in d s kind) (sides_both f g side)

      by_kind : (side : Side) (kind : Kind) → count_of q.men (man_of side kind) ≡ men_in d (side_if (flip_by f g) side) kind
      by_kind side K = kings side ∙ sym (one_king_in d (side_if (flip_by f g) side) d_in)
      by_kind side Q = after side Q (λ e. cc)
      by_kind side R = after side R (λ e. cc)
      by_kind side B = after side B (λ e. cc)
      by_kind side N = after side N (λ e. cc)
      by_kind side P = after side P (λ e. cc)

  promoted_told : (promo : Option Kind) → IfSome promo IsOfficer → IfSome promo (λ kind. (kind ≢ P) × (kind ≢ K))
  promoted_told promo officer = grind arith

  -- a capture or a promotion
  pub leaves : c < 36 → OneKing q.men → Captures p m ⊎ IsSome m.promo → (d : ℕ) × (turned : Bool) × Contains (children_of c) d × IsOf d turned q
  leaves c_in kings other =
      let found = covered c change c_in (kinds_told x.taken x.enemy) (promoted_told m.promo (officer_told m.promo x.promoted)) (possible other) in
      let less = smaller c found.0 c_in found.1 in
      let d_in : found.0 < 36 = omega arith in
      elim (either _ _ found.2) [
        | inl same ↦ (found.0, flip_by f false, found.1, follows_is_of found.0 false d_in kings same)
        | inr exchanged ↦ (found.0, flip_by f true, found.1, follows_is_of found.0 true d_in kings exchanged)
      ]

  -- either the class or a child
  pub leads : c < 36 → OneKing q.men → IsOf c f q ⊎ ((d : ℕ) × (turned : Bool) × Contains (children_of c) d × IsOf d turned q)
  leads c_in kings = grind (arith, turned, stays, is_some, leaves)
