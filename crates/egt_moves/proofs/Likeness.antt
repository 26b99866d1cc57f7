-- How likenesses of positions are made: of one another, of maps, and of changes that leave the steps as they are.
use Rattle.std.proofs.Common.{◌≡◌, ℕ, zero, suc, ◌⊎◌, inl, refl, sym, subst}
use Rattle.egt_moves.specs.Prelude.{⊎_elim, Arena, HasLike, Alike, Chain, IsMirror, KeepsSteps}

module _ {S : Type 0} (a : Arena S) where
  -- a likeness read backwards
  pub alike_backwards : (R : S → S → Type 0) → Alike a R → Alike a (λ p' p. R p p')
  alike_backwards R like = record {
    checkmate = λ p' p r. let e = like.checkmate p p' r in (e.1, e.0);
    there = λ p' p. like.back p p';
    back = λ p' p. like.there p p';
  }

  -- a step is like itself, from wherever the position is the same
  like_itself : (p p' q : S) (m : a.Move p q) → p ≡ p' → HasLike a (λ x y. x ≡ y) p p' q m
  like_itself p p' q m e = subst (λ x. HasLike a (λ y z. y ≡ z) p x q m) e (q, m, refl, (λ z. z, λ z. z))

  -- a step that has its like by one relation has it by a wider one
  like_wider : (R Q : S → S → Type 0) → ((x y : S) → R x y → Q x y) → (p p' q : S) (m : a.Move p q) → HasLike a R p p' q m → HasLike a Q p p' q m
  like_wider R Q wider p p' q m s = (s.0, s.1, wider q s.0 s.2, s.3)

  -- each position plays like itself
  pub alike_same : Alike a (λ p p'. p ≡ p')
  alike_same = record {
    checkmate = λ p p' e. (subst a.Checkmate e, subst a.Checkmate (sym e));
    there = λ p p' q e m. like_itself p p' q m e;
    back = λ p p' q e m. like_wider (λ x y. x ≡ y) (λ x y. y ≡ x) (λ x y. sym) p' p q m (like_itself p' p q m (sym e));
  }

  -- one likeness, and then another
  pub alike_then : (R Q : S → S → Type 0) → Alike a R → Alike a Q → Alike a (λ p p''. (p' : S) × R p p' × Q p' p'')
  alike_then R Q r q = record {
    checkmate = λ p p'' t.
        let e = r.checkmate p t.0 t.1 in
        let f = q.checkmate t.0 p'' t.2 in
        (λ c. f.0 (e.0 c), λ c. e.1 (f.1 c));
    there = λ p p'' x t m.
        let s = r.there p t.0 x t.1 m in
        let u = q.there t.0 p'' s.0 t.2 s.1 in
        (u.0, u.1, (s.0, s.2, u.2), (λ z. u.3.0 (s.3.0 z), λ z. s.3.1 (u.3.1 z)));
    back = λ p p'' x t m.
        let u = q.back t.0 p'' x t.2 m in
        let s = r.back p t.0 u.0 t.1 u.1 in
        (s.0, s.1, (u.0, s.2, u.2), (λ z. s.3.0 (u.3.0 z), λ z. u.3.1 (s.3.1 z)));
  }

  -- any number of steps of a likeness is a likeness
  pub alike_chain : (R : S → S → Type 0) → Alike a R → (n : ℕ) → Alike a (Chain R n)
  alike_chain R like zero = alike_same
  alike_chain R like (suc n) = alike_then R (Chain R n) like (alike_chain R like n)

  -- a map that is its own inverse owes its steps one way alone
  pub alike_by_mirror : (Good : S → Type 0) (f : S → S) → IsMirror a Good f → Alike a (λ p p'. Good p × (p' ≡ f p))
  alike_by_mirror Good f mirror = record {
    checkmate = λ p p' r. (
      λ c. subst a.Checkmate (sym r.1) (mirror.checkmate p r.0 c),
      λ c. subst a.Checkmate (mirror.twice p r.0) (mirror.checkmate (f p) (mirror.stays p r.0) (subst a.Checkmate r.1 c)),
    );
    there = λ p p' q r m.
        let s = mirror.step p q r.0 m in
        subst (λ x. HasLike a Image p x q m) (sym r.1) (f q, s.0, (mirror.goes_on p q r.0 m, refl), s.1);
    back = λ p p' q' r.
        subst (λ x. (m : a.Move x q') → HasLike a (λ y' y. Image y y') x p q' m) (sym r.1)
        (λ m.
        let good = mirror.goes_on (f p) q' (mirror.stays p r.0) m in
        let s = mirror.step (f p) q' (mirror.stays p r.0) m in
        subst (λ x. HasLike a (λ y' y. Image y y') (f p) x q' m) (mirror.twice p r.0) (f q', s.0, (mirror.stays q' good, sym (mirror.twice q' good)), s.1));
  }
    where
      Image : S → S → Type 0
      Image p p' = Good p × (p' ≡ f p)

  -- a change that leaves each step and checkmate as they are
  pub alike_by_steps : (T : S → S → Type 0) → KeepsSteps a T → Alike a (λ p p'. (p ≡ p') ⊎ T p p')
  alike_by_steps T keeps = record {
    checkmate = λ p p'. ⊎_elim (λ (e : p ≡ p'). (subst a.Checkmate e, subst a.Checkmate (sym e))) (λ (t : T p p'). keeps.checkmate p p' t);
    there = λ p p' q r m. ⊎_elim
        (λ (e : p ≡ p'). like_wider (λ x y. x ≡ y) SameOr (λ x y. inl) p p' q m (like_itself p p' q m e))
        (λ (t : T p p'). let s = keeps.there p p' q t m in (q, s.0, inl refl, s.1)) r;
    back = λ p p' q' r m. ⊎_elim
        (λ (e : p ≡ p'). like_wider (λ x y. x ≡ y) (λ y x. SameOr x y) (λ x y k. inl (sym k)) p' p q' m (like_itself p' p q' m (sym e)))
        (λ (t : T p p'). let s = keeps.back p p' q' t m in (q', s.0, inl refl, s.1)) r;
  }
    where
      SameOr : S → S → Type 0
      SameOr p p' = (p ≡ p') ⊎ T p p'
