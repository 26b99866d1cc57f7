-- The unmoves of an image.
use Rattle.std.proofs.Common.{◌≡◌, ℕ, ◌<◌, ◌↔◌, ◌/◌, ◌%◌, ◌==◌, Bool, Option, Some, None, IfSome, arith}
use Rattle.std.proofs.Common.{refl, sym, ap, ◌∙◌, inl, inr, subst}
use Rattle.egt_unmoves.specs.Prelude.{option_map, cases_eq, Side, Man, Mirror, Files, Ranks, Diagonal}
use Rattle.egt_unmoves.specs.Prelude.{Colours, square_by, square_by-twice, HasNoPawn, Stands, IsFree, one_man}
use Rattle.egt_unmoves.specs.Prelude.{get-insert_other, get-remove_other, Setup, IsAdmissible, IsSettled, SettlesTo}
use Rattle.egt_unmoves.specs.Prelude.{rank_of, square_if, square_of, KeepsPlay, IsTarget, target_rank, turned_square}
use Rattle.egt_unmoves.specs.Prelude.{turned_man, IsSetBy, Move, IsPawnOn, Leads, turned_move, ComesBy}
use Rattle.std.specs.FinMap as map
use Rattle.egt_unmoves.proofs.Came.{Came, came, not_free}
use Rattle.egt_unmoves.proofs.UnmoveList.{squares_within}
use Rattle.egt_board.proofs.Images.{square_if-within}

-- no two squares of the board become one
apart_if : (b : Bool) (m : Mirror) (s t : ℕ) → s < 64 → t < 64 → square_if b m s ≡ square_if b m t → s ≡ t
apart_if b m s t s_in t_in e = grind (arith, square_by-twice, square_by)

turned_apart : (n : ℕ) (flipped : Bool) (s t : ℕ) → s < 64 → t < 64 → turned_square n flipped s ≡ turned_square n flipped t → s ≡ t
turned_apart n flipped s t s_in t_in e =
    apart_if (n % 2 == 1) Files s t s_in t_in
    (apart_if (n / 2 % 2 == 1) Ranks _ _ (one s s_in) (one t t_in)
    (apart_if (n / 4 == 1) Diagonal _ _ (two s s_in) (two t t_in)
    (apart_if flipped Colours _ _ (three s s_in) (three t t_in) e)))
  where
    one : (u : ℕ) → u < 64 → square_if (n % 2 == 1) Files u < 64
    one u u_in = square_if-within (n % 2 == 1) Files u u_in

    two : (u : ℕ) → u < 64 → square_if (n / 2 % 2 == 1) Ranks (square_if (n % 2 == 1) Files u) < 64
    two u u_in = square_if-within (n / 2 % 2 == 1) Ranks _ (one u u_in)

    three : (u : ℕ) → u < 64 → square_of n u < 64
    three u u_in = square_if-within (n / 4 == 1) Diagonal _ (two u u_in)

turned_kind : (flipped : Bool) (man : Man) → (turned_man flipped man).kind ≡ man.kind
turned_kind flipped man = grind arith

-- a target is a square of the board
target_within : (side : Side) (t : ℕ) → rank_of t ≡ target_rank side → t < 64
target_within side t e = grind arith

-- the turn is one that the men before allow too
pub keeps_before : (n : ℕ) (b : Setup) (m : Move) (q : Setup) → ComesBy b m q → KeepsPlay n q.men → KeepsPlay n b.men
keeps_before n b m q c (inr less) = inr less
keeps_before n b m q c (inl none) = inl no_pawn
  where
    x : Came b m q
    x = came b m q c

    no_pawn : HasNoPawn b.men
    no_pawn s man stands pawn = elim (cases_eq s m.from) [
      | inl e ↦ none m.to x.man x.stands (ap (λ (y : Man). y.kind) (one_man b.men m.from x.man man x.stood (ap (map.get b.men) (sym e) ∙ stands)) ∙ pawn)
      | inr not_from ↦ elim (cases_eq s m.to) [
        | inl e ↦ not_free b.men m.to man x.free_to (ap (map.get b.men) (sym e) ∙ stands)
        | inr not_to ↦
            none s man (sym (get-remove_other q.men m.to s not_to) ∙ sym (get-insert_other (map.remove q.men m.to) m.from x.man s not_from)
            ∙ sym (ap (λ men. map.get men s) x.men) ∙ stands) pawn
      ]
    ]

module _ (n : ℕ) (flipped : Bool) (b b' : Setup) (set : IsSetBy n flipped b b') where
  -- a pawn stands on the square where it did before the turn
  pub pawn_turned : (s : ℕ) (man : Man) → s < 64 → Stands b.men s man → IsPawnOn b.men s ↔ IsPawnOn b'.men (turned_square n flipped s)
  pawn_turned s man s_in stands = (
    λ on. record {
      man = turned_man flipped man;
      stands = there;
      pawn = turned_kind flipped man ∙ ap (λ (y : Man). y.kind) (one_man b.men s man on.man stands on.stands) ∙ on.pawn;
    },
    λ on. record {
      man = man;
      stands = stands;
      pawn = sym (turned_kind flipped man) ∙ ap (λ (y : Man). y.kind) (one_man b'.men _ (turned_man flipped man) on.man there on.stands) ∙ on.pawn;
    },
  )
    where
      there : Stands b'.men (turned_square n flipped s) (turned_man flipped man)
      there = set.men s s_in ∙ ap (option_map (turned_man flipped)) stands

  -- the turned move leads from the turned position
  pub comes_turned : (m : Move) (q q' led' : Setup) → ComesBy b m q → IsAdmissible b' → IsSettled b' → Leads b' (turned_move n flipped m) led' → SettlesTo led' q' → ComesBy b' (turned_move n flipped m) q'
  comes_turned m q q' led' c ok settled leads settles = record {
    admissible = ok;
    settled = settled;
    led = led';
    leads = leads;
    no_capture = λ captures. elim captures [
      | inl held ↦ not_free b'.men (turned_square n flipped m.to) held.man free held.stands
      | inr taken ↦ never b.target refl taken.0 taken.1
    ];
    no_promotion = c.no_promotion;
    settles = settles;
  }
    where
      x : Came b m q
      x = came b m q c

      within : (m.from < 64) × (m.to < 64)
      within = squares_within b m q c

      free : IsFree b'.men (turned_square n flipped m.to)
      free = set.men m.to within.1 ∙ ap (option_map (turned_man flipped)) x.free_to

      never : (o : Option ℕ) → b.target ≡ o → IsPawnOn b'.men (turned_square n flipped m.from) → b'.target ≡ Some (turned_square n flipped m.to) → ⊥
      never None e on is = let bad : None ≡ Some (turned_square n flipped m.to) = sym (set.target ∙ ap (option_map (turned_square n flipped)) e) ∙ is in cc
      never (Some t) e on is =
          let both : Some (turned_square n flipped t) ≡ Some (turned_square n flipped m.to) = sym (set.target ∙ ap (option_map (turned_square n flipped)) e) ∙ is in
          let same : turned_square n flipped t ≡ turned_square n flipped m.to = cc in
          let target : IsTarget b.men b.side t = subst (λ (o : Option ℕ). IfSome o (IsTarget b.men b.side)) e c.admissible.target in
          let here : t ≡ m.to = turned_apart n flipped t m.to (target_within b.side t target.rank) within.1 same in
          c.no_capture (inr ((pawn_turned m.from x.man within.0 x.stood).1 on, e ∙ ap Some here))
