-- Members of lists, one by one.
use Rattle.std.proofs.Common.{◌≡◌, zero, suc, ◌⊎◌, ◌&&◌, ◌||◌, Bool, true, false, List, [], ◌∷◌, ◌++◌, Option, Some}
use Rattle.std.proofs.Common.{None, refl, sym, ◌∙◌, subst, inl, inr, arith}
use Rattle.egt_sweep.specs.Prelude.{⊎_elim, ⊎_map, false≢true, and_parts, Contains, list_all, list_any, flat_map}
use Rattle.egt_sweep.specs.Prelude.{option_to_list}

abbrev pub In : {X : Type 0} → X → List X → Type 0
In x [] = ⊥
In x (y ∷ ys) = (x ≡ y) ⊎ In x ys

pub contains_in : {X : Type 0} (x : X) (xs : List X) → Contains xs x → In x xs
contains_in x [] c = absurd (omega (arith, c.1))
contains_in x (y ∷ ys) (zero, lt, is) = inl (sym is)
contains_in x (y ∷ ys) (suc k, lt, is) = inr (contains_in x ys (k, omega (arith, lt), is))

pub in_contains : {X : Type 0} (x : X) (xs : List X) → In x xs → Contains xs x
in_contains x [] h = absurd h
in_contains x (y ∷ ys) (inl e) = (0, omega arith, sym e)
in_contains x (y ∷ ys) (inr h) = let c = in_contains x ys h in (suc c.0, omega (arith, c.1), c.2)

pub all_in : {X : Type 0} (p : X → Bool) (xs : List X) → list_all p xs ≡ true → (x : X) → In x xs → p x ≡ true
all_in p [] t x h = absurd h
all_in p (y ∷ ys) t x (inl e) = λ i. (let same : p x ≡ true = (let parts = and_parts (p y) (list_all p ys) t in (λ j. p (e j)) ∙ parts.0) in same i)
all_in p (y ∷ ys) t x (inr h) = all_in p ys (and_parts (p y) (list_all p ys) t).1 x h

pub both : (a b : Bool) → a ≡ true → b ≡ true → (a && b) ≡ true
both h0 b t u = grind arith

pub in_all : {X : Type 0} (p : X → Bool) (xs : List X) → ((x : X) → In x xs → p x ≡ true) → list_all p xs ≡ true
in_all p [] h = refl
in_all p (y ∷ ys) h = both (p y) (list_all p ys) (h y (inl refl)) (in_all p ys (λ x i. h x (inr i)))

pub either : (a b : Bool) → (a || b) ≡ true → (a ≡ true) ⊎ (b ≡ true)
either h0 b t = grind arith

pub or_left : (a b : Bool) → a ≡ true → (a || b) ≡ true
or_left h0 b t = grind (arith, false≢true)

pub or_right : (a b : Bool) → b ≡ true → (a || b) ≡ true
or_right h0 b t = grind arith

pub any_in : {X : Type 0} (p : X → Bool) (xs : List X) → list_any p xs ≡ true → (x : X) × In x xs × (p x ≡ true)
any_in p [] t = absurd (false≢true t)
any_in p (y ∷ ys) t = ⊎_elim (λ (here : p y ≡ true). (y, inl refl, here)) (λ (on : list_any p ys ≡ true). let h = any_in p ys on in (h.0, inr h.1, h.2)) (either (p y) (list_any p ys) t)

pub in_any : {X : Type 0} (p : X → Bool) (xs : List X) (x : X) → In x xs → p x ≡ true → list_any p xs ≡ true
in_any p [] x h t = absurd h
in_any p (y ∷ ys) x (inl e) t = or_left (p y) (list_any p ys) ((λ j. p (sym e j)) ∙ t)
in_any p (y ∷ ys) x (inr h) t = or_right (p y) (list_any p ys) (in_any p ys x h t)

pub in_append : {X : Type 0} (x : X) (xs ys : List X) → In x (xs ++ ys) → In x xs ⊎ In x ys
in_append x [] ys h = inr h
in_append x (z ∷ zs) ys (inl e) = inl (inl e)
in_append x (z ∷ zs) ys (inr h) = ⊎_map (λ i. inr i) (λ i. i) (in_append x zs ys h)

pub append_in : {X : Type 0} (x : X) (xs ys : List X) → In x xs ⊎ In x ys → In x (xs ++ ys)
append_in x [] ys (inl h) = absurd h
append_in x [] ys (inr h) = h
append_in x (z ∷ zs) ys (inl (inl e)) = inl e
append_in x (z ∷ zs) ys (inl (inr h)) = inr (append_in x zs ys (inl h))
append_in x (z ∷ zs) ys (inr h) = inr (append_in x zs ys (inr h))

-- of the lists that it gives
pub in_flat : {X Y : Type 0} (f : X → List Y) (xs : List X) (y : Y) → In y (flat_map f xs) → (x : X) × In x xs × In y (f x)
in_flat f [] y h = absurd h
in_flat {X} {Y} f (x ∷ xs) y h = ⊎_elim
    (λ (i : In y (f x)). (x, inl refl, i))
    (λ (i : In y (flat_map f xs)). let r = in_flat f xs y i in (r.0, inr r.1, r.2))
    (in_append y (f x) (flat_map f xs) h)

pub flat_in : {X Y : Type 0} (f : X → List Y) (xs : List X) (x : X) (y : Y) → In x xs → In y (f x) → In y (flat_map f xs)
flat_in f [] x y h i = absurd h
flat_in f (z ∷ zs) x y (inl same) i = append_in y (f z) (flat_map f zs) (inl (subst (λ w. In y (f w)) same i))
flat_in f (z ∷ zs) x y (inr on) i = append_in y (f z) (flat_map f zs) (inr (flat_in f zs x y on i))

-- of an option
pub in_option : {Y : Type 0} (o : Option Y) (y : Y) → In y (option_to_list o) → o ≡ Some y
in_option h0 y i = grind arith

option_in : {Y : Type 0} (o : Option Y) (y : Y) → o ≡ Some y → In y (option_to_list o)
option_in {Y} None y i = absurd (let c : None ≡ Some y = i in cc)
option_in (Some w) y i = inl (sym (let c : Some w ≡ Some y = i in cc))

-- of the options that it gives
pub in_given : {X Y : Type 0} (f : X → Option Y) (xs : List X) (y : Y) → In y (flat_map (λ x. option_to_list (f x)) xs) → (x : X) × In x xs × (f x ≡ Some y)
in_given f xs y h = let r = in_flat (λ x. option_to_list (f x)) xs y h in (r.0, r.1, in_option (f r.0) y r.2)

pub given_in : {X Y : Type 0} (f : X → Option Y) (xs : List X) (x : X) (y : Y) → In x xs → f x ≡ Some y → In y (flat_map (λ x. option_to_list (f x)) xs)
given_in f xs x y h e = flat_in (λ z. option_to_list (f z)) xs x y h (option_in (f x) y e)
