-- Classes marked as descendants: the children of this class, and those of each marked class that is not less than a bound.
use Rattle.std.proofs.Common.{◌≡◌, ℕ, zero, suc, ◌+◌, ◌<◌, ◌≤◌, ◌⊎◌, ◌↔◌, inl, inr, Bool, true, false, List, [], ◌∷◌}
use Rattle.std.proofs.Common.{◌++◌, length, get_or, set, take, replicate, refl, sym, ap, subst, ◌∙◌, arith}
use Rattle.egt_commands.specs.Prelude.{Contains, cases_lt, eqb_tells, get_or-set_other, get_or-set_same, length-set}
use Rattle.egt_commands.specs.Prelude.{take_more, Contains-append_left, Contains-push, Contains-push_cases, children_of}
use Rattle.egt_commands.specs.Prelude.{Descends, DescendsBy, IsMarked}

-- the marks of these classes are added
abbrev pub Marks : List Bool → List Bool → List ℕ → Type 0
Marks old new ds = (d : ℕ) → IsMarked new d ↔ (IsMarked old d ⊎ Contains ds d)

abbrev pub Adds : List Bool → List Bool → List ℕ → Type 0
Adds old new ds = (length new ≡ 36) × Marks old new ds

-- only descendants are marked, the children of c are, and so are those of each marked class from n on, below c
pub record IsMarkedFrom (c n : ℕ) (marks : List Bool) : Type 0 where
  pub within : n ≤ c
  pub sound : (d : ℕ) → IsMarked marks d → Descends c d
  pub first : (d : ℕ) → Contains (children_of c) d → IsMarked marks d
  pub closed : (e d : ℕ) → n ≤ e → IsMarked marks e → Contains (children_of e) d → IsMarked marks d

-- a child of a descendant is one
further : (n c e d : ℕ) → DescendsBy n c e → Contains (children_of e) d → DescendsBy (suc n) c d
further zero c e d here child = (d, subst (λ x. Contains (children_of x) d) (sym here) child, refl)
further (suc n) c e d (f, step, on) child = (f, step, further n f e d on child)

pub descends_further : (c e d : ℕ) → Descends c e → Contains (children_of e) d → Descends c d
descends_further c e d (n, by) child = (suc n, further (suc n) c e d by child)

-- the mark of one class more is added
module _ (old marks : List Bool) (ds : List ℕ) (i e : ℕ) (inside : i < length ds) (there : get_or ds i e ≡ e) (below : e < 36) where
  own : length marks ≡ 36 → IsMarked (set marks e true) e
  own sized = get_or-set_same marks e true false (subst (λ n. e < n) (sym sized) below)

  before : length marks ≡ 36 → (d : ℕ) → IsMarked marks d → IsMarked (set marks e true) d
  before sized d marked = elim (eqb_tells d e) [
    | inl same ↦ subst (IsMarked (set marks e true)) (sym same.1) (own sized)
    | inr other ↦ get_or-set_other marks e d true false other.1 ∙ marked
  ]

  after : (d : ℕ) → IsMarked (set marks e true) d → IsMarked marks d ⊎ (e ≡ d)
  after d marked = elim (eqb_tells d e) [
    | inl same ↦ inr (sym same.1)
    | inr other ↦ inl (sym (get_or-set_other marks e d true false other.1) ∙ marked)
  ]

  more : take (i + 1) ds ≡ take i ds ++ e ∷ []
  more = take_more ds i e inside ∙ ap (λ x. take i ds ++ x ∷ []) there

  listed : (d : ℕ) → Contains (take i ds ++ e ∷ []) d → IsMarked old d ⊎ Contains (take (i + 1) ds) d
  listed d there = inr (subst (λ xs. Contains xs d) (sym more) there)

  unlisted : (d : ℕ) → Contains (take (i + 1) ds) d → Contains (take i ds) d ⊎ (e ≡ d)
  unlisted d there = Contains-push_cases (take i ds) e d (subst (λ xs. Contains xs d) more there)

  pub adds_more : Adds old marks (take i ds) → Adds old (set marks e true) (take (i + 1) ds)
  adds_more (sized, so_far) = (
    length-set marks e true ∙ sized,
    λ d. (
      (λ marked. elim (after d marked) [
        | inl marked_before ↦ elim ((so_far d).0 marked_before) [
          | inl at_first ↦ inl at_first
          | inr child ↦ listed d (Contains-append_left (take i ds) (e ∷ []) d child)
        ]
        | inr same ↦ listed d (subst (Contains (take i ds ++ e ∷ [])) same (Contains-push (take i ds) e))
      ]),
      (λ wanted. elim wanted [
        | inl at_first ↦ before sized d ((so_far d).1 (inl at_first))
        | inr child ↦ elim (unlisted d child) [
          | inl earlier ↦ before sized d ((so_far d).1 (inr earlier))
          | inr same ↦ subst (IsMarked (set marks e true)) same (own sized)
        ]
      ]),
    ),
  )

-- the children are descendants
pub descends_first : (c d : ℕ) → Contains (children_of c) d → Descends c d
descends_first c d child = (zero, (d, child, refl))

-- marks that are closed from 0 on have all descendants
module _ (c : ℕ) (marks : List Bool) (m : IsMarkedFrom c 0 marks) where
  along : (n e d : ℕ) → IsMarked marks e → DescendsBy n e d → IsMarked marks d
  along zero e d marked here = subst (IsMarked marks) here marked
  along (suc n) e d marked (f, child, on) = along n f d (m.closed e f (omega arith) marked child) on

  pub all_marked : (d : ℕ) → Descends c d → IsMarked marks d
  all_marked d (n, (f, child, on)) = along n f d (m.first f child) on

-- at first the children alone are marked; none is c or above
pub marked_first : (c : ℕ) (old marks : List Bool) → ((d : ℕ) → ¬ IsMarked old d) → ((d : ℕ) → Contains (children_of c) d → d < c)
    → Marks old marks (children_of c) → IsMarkedFrom c c marks
marked_first c old marks none less adds = record {
  within = omega arith;
  sound = λ d marked. elim ((adds d).0 marked) [ inl before ↦ absurd (none d before) | inr child ↦ descends_first c d child ];
  first = λ d child. (adds d).1 (inr child);
  closed = λ e d above marked child. elim ((adds e).0 marked) [
    | inl before ↦ absurd (none e before)
    | inr lower ↦ (let under : e < c = less e lower in absurd (omega arith))
  ];
}

-- m or above is m, or above it
split : (m e : ℕ) → m ≤ e → (e ≡ m) ⊎ (m + 1 ≤ e)
split m e above = elim (cases_lt m e) [ inl less ↦ inr (omega arith) | inr not_less ↦ inl (omega arith) ]

-- where m is marked and its children are added, the bound goes down to m
pub marked_next : (c m : ℕ) (old marks : List Bool) → ((d : ℕ) → Contains (children_of m) d → d < m)
    → IsMarkedFrom c (m + 1) old → IsMarked old m → Marks old marks (children_of m) → IsMarkedFrom c m marks
marked_next c m old marks less from marked adds = record {
  within = (let within = from.within in omega arith);
  sound = λ d there. elim ((adds d).0 there) [ inl before ↦ from.sound d before | inr child ↦ descends_further c m d (from.sound m marked) child ];
  first = λ d child. (adds d).1 (inl (from.first d child));
  closed = λ e d above there child. elim ((adds e).0 there) [
    | inl before ↦ elim (split m e above) [
      | inl same ↦ (adds d).1 (inr (subst (λ x. Contains (children_of x) d) same child))
      | inr higher ↦ (adds d).1 (inl (from.closed e d higher before child))
    ]
    | inr lower ↦ (let under : e < m = less e lower in absurd (omega arith))
  ];
}

-- at first no class is marked
pub none_marked : (n d : ℕ) → get_or (replicate n false) d false ≡ false
none_marked zero d = refl
none_marked (suc n) zero = refl
none_marked (suc n) (suc d) = none_marked n d

-- descendants have smaller numbers
module _ (less : (c d : ℕ) → c < 36 → Contains (children_of c) d → d < c) where
  lower_by : (n c d : ℕ) → c < 36 → DescendsBy n c d → d ≤ c
  lower_by zero c d below here = subst (λ x. x ≤ c) here (omega arith)
  lower_by (suc n) c d below (e, child, on) =
      let first : e < c = less c e below child in
      let rest : d ≤ e = lower_by n e d (omega arith) on in
      omega arith

  pub descendants_below : (c d : ℕ) → c < 36 → Descends c d → d < c
  descendants_below c d below (n, (e, child, on)) =
      let first : e < c = less c e below child in
      let rest : d ≤ e = lower_by n e d (omega arith) on in
      omega arith
