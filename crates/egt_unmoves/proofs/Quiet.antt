-- Squares on which a man leaves the king of the side to move unattacked.
use Rattle.std.proofs.Common.{◌≡◌, ◌≢◌, ◌↔◌, ℕ, refl, sym, ap, ◌∙◌, inl, inr, subst}
use Rattle.egt_unmoves.specs.Prelude.{cases_eq, Side, Man, king_of, IsAttacked, IsInCheck, Reaches, Reaches-free}
use Rattle.egt_unmoves.specs.Prelude.{other_side, Placement, Stands, IsFree, one_man, get-insert_same, get-insert_other}
use Rattle.egt_unmoves.specs.Prelude.{get-remove_same, get-remove_other, IsKeptFrom, Setup, IsKingOn, sides_differ}
use Rattle.std.specs.FinMap as map
use Rattle.egt_unmoves.proofs.Came.{not_free}

-- which man stands on a square plays no part in which squares are free
free_alike : (left : Placement) (one other : Man) (s u : ℕ) → IsFree (map.insert left s one) u → IsFree (map.insert left s other) u
free_alike left one other s u free = elim (cases_eq u s) [
  | inl e ↦ not_free (map.insert left s one) u one free (get-insert_same left s one u e)
  | inr apart ↦ get-insert_other left s other u apart ∙ (sym (get-insert_other left s one u apart) ∙ free)
]

-- attacks by others than the man on that square are attacks with another man there
others_attack : (left : Placement) (one other : Man) (s k f : ℕ) (man : Man) (side : Side) → f ≢ s → Stands (map.insert left s one) f man → man.side ≡ side → Reaches (IsFree (map.insert left s one)) man f k
    → IsAttacked (map.insert left s other) k side
others_attack left one other s k f man side apart stands theirs reaches = record {
  from = f;
  man = man;
  stands = get-insert_other left s other f apart ∙ (sym (get-insert_other left s one f apart) ∙ stands);
  theirs = theirs;
  reaches = Reaches-free (IsFree (map.insert left s one)) (IsFree (map.insert left s other)) man f k (λ u u_in. free_alike left one other s u) reaches;
}

module _ (left : Placement) (mover : Side) (man guest : Man) (s k : ℕ) (theirs : man.side ≡ other_side mover) (foreign : guest.side ≢ man.side) (free : IsFree left s) (king : IsKingOn left mover k) where
  king_there : IsKingOn (map.insert left s man) mover k
  king_there = record {
    stands = get-insert_other left s man k (λ e. not_free left s (king_of mover) free (subst (λ t. Stands left t (king_of mover)) e king.stands)) ∙ king.stands;
    only = λ t stands. elim (cases_eq t s) [
      | inl e ↦
          let same : man ≡ king_of mover = one_man (map.insert left s man) t man (king_of mover) (get-insert_same left s man t e) stands in
          absurd (sides_differ mover (sym (ap (λ (y : Man). y.side) same) ∙ theirs))
      | inr apart ↦ king.only t (sym (get-insert_other left s man t apart) ∙ stands)
    ];
  }

  -- the man leaves the king unattacked where any man keeps the others from it, and the man itself does not attack it
  pub quiet_at : (¬ IsInCheck (map.insert left s man) mover) ↔ (IsKeptFrom left s guest k man.side × (¬ Reaches (IsFree (map.insert left s man)) man s k))
  quiet_at = (
    λ safe. (
      λ attacked. safe (in_check (others_attack left guest man s k attacked.from attacked.man (other_side mover)
          (λ e. foreign (ap (λ (y : Man). y.side) (one_man (map.insert left s guest) attacked.from guest attacked.man (get-insert_same left s guest attacked.from e) attacked.stands) ∙ attacked.theirs))
          attacked.stands (attacked.theirs ∙ theirs) attacked.reaches)),
      λ reaches. safe (in_check (record { from = s; man = man; stands = get-insert_same left s man s refl; theirs = theirs; reaches = reaches })),
    ),
    λ h check.
        let there : IsAttacked (map.insert left s man) k (other_side mover) = subst (λ t. IsAttacked (map.insert left s man) t (other_side mover)) (king_there.only check.square check.stands) check.attacked in
        elim (cases_eq there.from s) [
          | inl e ↦
              let same : there.man ≡ man = one_man (map.insert left s man) there.from there.man man there.stands (get-insert_same left s man there.from e) in
              h.1 (subst (λ (y : Man). Reaches (IsFree (map.insert left s man)) y s k) same (subst (λ t. Reaches (IsFree (map.insert left s man)) there.man t k) e there.reaches))
          | inr apart ↦ h.0 (others_attack left man guest s k there.from there.man man.side apart there.stands (there.theirs ∙ sym theirs) there.reaches)
        ],
  )
    where
      in_check : IsAttacked (map.insert left s man) k (other_side mover) → IsInCheck (map.insert left s man) mover
      in_check attacked = record { square = k; stands = king_there.stands; attacked = attacked }

-- the king of the side to move stands where it did when a man of the other side is taken off
pub king_left : (q : Setup) (man : Man) (to k : ℕ) → Stands q.men to man → man.side ≡ other_side q.side → IsKingOn q.men q.side k → IsKingOn (map.remove q.men to) q.side k
king_left q man to k stands theirs king = record {
  stands = get-remove_other q.men to k apart ∙ king.stands;
  only = λ t there. elim (cases_eq t to) [
    | inl e ↦ not_free (map.remove q.men to) t (king_of q.side) (get-remove_same q.men to t e) there
    | inr other ↦ king.only t (sym (get-remove_other q.men to t other) ∙ there)
  ];
}
  where
    apart : k ≢ to
    apart e =
        let same : man ≡ king_of q.side = one_man q.men to man (king_of q.side) stands (subst (λ t. Stands q.men t (king_of q.side)) e king.stands) in
        sides_differ q.side (sym (ap (λ (y : Man). y.side) same) ∙ theirs)

-- what is free stays free when a man is taken off
pub free_left : (men : Placement) (to s : ℕ) → IsFree men s → IsFree (map.remove men to) s
free_left men to s free = elim (cases_eq s to) [
  | inl e ↦ get-remove_same men to s e
  | inr other ↦ get-remove_other men to s other ∙ free
]
