-- Known bytes over several calls.
use Rattle.std.proofs.Common.{◌≡◌, ℕ, ◌+◌, ◌≤◌, min, List, [], ◌++◌, length, take, Option, sym, ap, subst, ◌∙◌, arith}
use Rattle.std.proofs.KnownBytes.{Appends-kept, Appends-nil, Appends-trans, Consumes-trans}
use Rattle.egt_table.specs.Prelude.{Consumes, Appends, Keeps, take-append-le, take_min, take-append-add}
use Rattle.egt_table.specs.Prelude.{take-append_seam, AppendsFront}

-- what two calls took, one after the other
pub consumes_more : (a b c : Option (List ℕ)) (x y z : List ℕ) → Consumes a b x → Consumes b c y → z ≡ x ++ y → Consumes a c z
consumes_more a b c x y z p q e = subst (Consumes a c) (sym e) (Consumes-trans a b c x y p q)

-- what two calls added, one after the other
pub appends_more : (a b c : Option (List ℕ)) (x y z : List ℕ) → Appends a b x → Appends b c y → z ≡ x ++ y → Appends a c z
appends_more a b c x y z p q e = subst (Appends a c) (sym e) (Appends-trans a b c x y p q)

-- the front of what was put behind the first a
pub take_across : (a n : ℕ) (us vs ws : List ℕ) → length us ≡ a → n ≤ length vs → take (a + n) (us ++ (vs ++ ws)) ≡ us ++ take n vs
take_across a n us vs ws e h = grind (arith, take, take-append-add, take-append-le)

-- a call that failed left a beginning of the piece
pub front_kept : (a b c : Option (List ℕ)) (taken rest piece : List ℕ) → Appends a b taken → Keeps b c → piece ≡ taken ++ rest → AppendsFront a c piece
front_kept a b c taken rest piece p q e =
    (length taken, subst (λ (w : List ℕ). Appends a c w) (sym (ap (take (length taken)) e ∙ take-append_seam taken rest)) (Appends-kept a b c taken p q))

-- what was added, and then a beginning of what comes next
pub front_more : (a b c : Option (List ℕ)) (x y w z : List ℕ) → Appends a b x → AppendsFront b c y → z ≡ x ++ (y ++ w) → AppendsFront a c z
front_more a b c x y w z p q e =
    let k = min q.0 (length y) in
    let short : take k (y ++ w) ≡ take q.0 y = take-append-le k y w (omega arith) ∙ take_min q.0 y in
    let whole : take (length x + k) z ≡ x ++ take q.0 y =
    ap (take (length x + k)) e ∙ take-append-add x (y ++ w) k ∙ ap (λ (v : List ℕ). x ++ v) short in
    (length x + k, appends_more a b c x (take q.0 y) (take (length x + k) z) p q.1 whole)

-- a beginning of a beginning
pub front_longer : (a b : Option (List ℕ)) (x w z : List ℕ) → AppendsFront a b x → z ≡ x ++ w → AppendsFront a b z
front_longer a b x w z p e = front_more a a b [] x w z (Appends-nil a) p e
