-- The one setup that a mirror makes of another.
use Rattle.std.proofs.Common.{◌≡◌, ◌≢◌, ℕ, zero, suc, ◌+◌, ◌<◌, ◌≤◌, Bool, cond, Option, Some, None, arith}
use Rattle.std.proofs.Common.{refl, sym, ap, ◌∙◌, subst, inl, inr}
use Rattle.egt_board.specs.Prelude.{option_map, is_some, nat_cmp, nat_cmp_total, cases_eq, Mirror, Man, Placement}
use Rattle.egt_board.specs.Prelude.{same_men, get-insert_same, get-insert_other, total, Setup, IsMirrored, square_by}
use Rattle.egt_board.specs.Prelude.{man_by, put_some, men_below, men_by, setup_by, square_by-within, square_by-twice}
use Rattle.egt_board.specs.Prelude.{ShowsMen, OnBoard, shows_back, side_by-twice, man_by-twice}
use Rattle.std.specs.FinMap as map
use Rattle.egt_board.proofs.Gather.{IsKey}
use Rattle.egt_board.proofs.Counts.{covered}

one_if : Option Man → ℕ
one_if None = 0
one_if (Some man) = 1

put_same : (men : Placement) (s q : ℕ) (o : Option Man) → q ≡ s → map.get men q ≡ None → map.get (put_some men s o) q ≡ o
unfolding put_some
put_same men s q o e none = grind (arith, get-insert_same)

put_other : (men : Placement) (s q : ℕ) (o : Option Man) → q ≢ s → map.get (put_some men s o) q ≡ map.get men q
unfolding put_some
put_other men s q o other = grind (arith, get-insert_other)

put_len : (m : Mirror) (men : Placement) (s : ℕ) (o : Option Man) → map.len (put_some men s (option_map (man_by m) o)) ≤ map.len men + one_if o
unfolding put_some one_if
put_len m men s None = omega arith
put_len m men s (Some man) = longer (map.contains_key men s) _ _ (map.len-insert nat_cmp_total men s (man_by m man))
  where
    longer : (b : Bool) (l n : ℕ) → l ≡ cond b n (n + 1) → l ≤ n + 1
    longer b l n e = grind arith

apart_by : (m : Mirror) (s t : ℕ) → s < 64 → t < 64 → t ≢ s → square_by m t ≢ square_by m s
apart_by m s t s_in t_in other same = other (sym (square_by-twice m t t_in) ∙ ap (square_by m) same ∙ square_by-twice m s s_in)

below_none : (m : Mirror) (men : Placement) (n t : ℕ) → n ≤ t → t < 64 → map.get (men_below m men n) (square_by m t) ≡ None
unfolding men_below
below_none m men zero t past t_in = map.get-empty nat_cmp (square_by m t)
below_none m men (suc n) t past t_in =
    put_other (men_below m men n) (square_by m n) (square_by m t) (option_map (man_by m) (map.get men n)) (apart_by m n t (omega arith) t_in (λ same. omega arith))
    ∙ below_none m men n t (omega arith) t_in

below_shows : (m : Mirror) (men : Placement) (n t : ℕ) → n ≤ 64 → t < n → map.get (men_below m men n) (square_by m t) ≡ option_map (man_by m) (map.get men t)
unfolding men_below
below_shows m men zero t n_in less = absurd (omega arith)
below_shows m men (suc n) t n_in less = elim (cases_eq t n) [
  | inl e ↦
      put_same (men_below m men n) (square_by m n) (square_by m t) (option_map (man_by m) (map.get men n)) (ap (square_by m) e) (below_none m men n t (omega arith) (omega arith))
      ∙ ap (λ s. option_map (man_by m) (map.get men s)) (sym e)
  | inr other ↦
      put_other (men_below m men n) (square_by m n) (square_by m t) (option_map (man_by m) (map.get men n)) (apart_by m n t (omega arith) (omega arith) other)
      ∙ below_shows m men n t (omega arith) (omega arith)
]

below_on_board : (m : Mirror) (men : Placement) (n : ℕ) → n ≤ 64 → OnBoard (men_below m men n)
unfolding men_below
below_on_board m men zero n_in = λ s man there. let bad : Some man ≡ None = sym there ∙ map.get-empty nat_cmp s in absurd (cc)
below_on_board m men (suc n) n_in = λ s man there. elim (cases_eq s (square_by m n)) [
  | inl e ↦ subst (λ x. x < 64) (sym e) (square_by-within m n (omega arith))
  | inr other ↦
      below_on_board m men n (omega arith) s man
      (sym (put_other (men_below m men n) (square_by m n) s (option_map (man_by m) (map.get men n)) other) ∙ there)
]

below_len : (m : Mirror) (men : Placement) (n : ℕ) → map.len (men_below m men n) ≤ total (λ s. one_if (map.get men s)) n
unfolding men_below
below_len m men zero = let none = map.len-empty nat_cmp Man in omega arith
below_len m men (suc n) =
    let rest = below_len m men n in
    let more = put_len m (men_below m men n) (square_by m n) (map.get men n) in omega arith

-- as many squares hold a man as there are men, or fewer
held_few : (men : Placement) → total (λ s. one_if (map.get men s)) 64 ≤ map.len men
unfolding one_if
held_few men =
    let le : total (λ s. one_if (map.get men s)) 64 ≤ _ = covered (map.entries men) (λ s. one_if (map.get men s)) 64 (λ t. small (map.get men t)) (λ t one. key t (map.get men t) refl one) in
    let size = map.len-entries men in omega arith
  where
    small : (o : Option Man) → one_if o ≤ 1
    small o = grind arith

    key : (t : ℕ) (o : Option Man) → map.get men t ≡ o → one_if o ≡ 1 → IsKey t (map.entries men)
    key t None e one = absurd (omega arith)
    key t (Some man) e one = ap is_some (sym (map.get-entries men t) ∙ e)

pub men_by-shows : (m : Mirror) (men : Placement) → ShowsMen m men (men_by m men)
unfolding men_by
men_by-shows m men = λ t t_in. below_shows m men 64 t (omega arith) t_in

pub men_by-on_board : (m : Mirror) (men : Placement) → OnBoard (men_by m men)
unfolding men_by
men_by-on_board m men = below_on_board m men 64 (omega arith)

pub men_by-few : (m : Mirror) (men : Placement) → map.len (men_by m men) ≤ map.len men
unfolding men_by
men_by-few m men = let le = below_len m men 64 in let few = held_few men in omega arith

-- placements on the board that agree on its squares are the same
pub same_on_board : (men men' : Placement) → OnBoard men → OnBoard men' → ((t : ℕ) → t < 64 → map.get men t ≡ map.get men' t) → men ≡ men'
same_on_board men men' ok ok' same = same_men men men' (λ t. here t (map.get men t) (map.get men' t) refl refl)
  where
    here : (t : ℕ) (o o' : Option Man) → map.get men t ≡ o → map.get men' t ≡ o' → map.get men t ≡ map.get men' t
    here t None None e e' = e ∙ sym e'
    here t (Some man) o' e e' = same t (ok t man e)
    here t None (Some man) e e' = same t (ok' t man e')

pub setup_by-is : (m : Mirror) (p : Setup) → IsMirrored m p (setup_by m p)
setup_by-is m p = record { men = men_by-shows m p.men; side = refl; target = refl; on_board = men_by-on_board m p.men }

-- and nothing else is its mirror image
pub setup_by-only : (m : Mirror) (p q : Setup) → IsMirrored m p q → q ≡ setup_by m p
setup_by-only m p q is = λ i. record { men = men i; side = is.side i; target = is.target i }
  where
    men : q.men ≡ men_by m p.men
    men = same_on_board q.men (men_by m p.men) is.on_board (men_by-on_board m p.men)
        (λ t t_in. shows_back m p.men q.men is.men t t_in ∙ sym (shows_back m p.men (men_by m p.men) (men_by-shows m p.men) t t_in))

-- a mirror leads back
pub setup_by-back : (m : Mirror) (p : Setup) → OnBoard p.men → ((t : ℕ) → p.target ≡ Some t → t < 64) → IsMirrored m (setup_by m p) p
setup_by-back m p ok target_in = record {
  men = λ t t_in. seen (map.get p.men (square_by m t)) ∙ ap (option_map (man_by m)) (sym (shows_back m p.men (men_by m p.men) (men_by-shows m p.men) t t_in));
  side = sym (side_by-twice m p.side);
  target = again p.target target_in;
  on_board = ok;
}
  where
    seen : (o : Option Man) → o ≡ option_map (man_by m) (option_map (man_by m) o)
    seen o = grind (arith, man_by-twice)

    again : (o : Option ℕ) → ((t : ℕ) → o ≡ Some t → t < 64) → o ≡ option_map (square_by m) (option_map (square_by m) o)
    again o h = grind (arith, square_by-twice)
