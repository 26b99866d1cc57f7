-- A man on a line hides squares: a square is attacked along it exactly where no square between is taken.
use Rattle.std.proofs.Common.{◌≡◌, ◌≢◌, ◌↔◌, ℕ, ◌-◌, ◌<◌, Bool, true, false, List, [], ◌∷◌, ◌++◌, min, arith, refl, sym}
use Rattle.std.proofs.Common.{ap, ◌∙◌, subst, inl, inr, ◌+◌, ◌⊎◌}
use Rattle.egt_board.specs.Prelude.{bit_at, cases_eq, false≢true, bit_at-lt, bit_at-zero, Side, Man, Step, file_of}
use Rattle.egt_board.specs.Prelude.{rank_of, Away, Rides, OneOf, Reaches, Rides-free, Reaches-free, steps_of, farthest}
use Rattle.egt_board.specs.Prelude.{is_slider, straight_steps, diagonal_steps, knight_steps, pawn_steps, Stops, IsRoyal}
use Rattle.egt_board.specs.Prelude.{IsBetween}
use Rattle.egt_board.proofs.Bits.{not_both}
use Rattle.egt_board.proofs.Towards.{apart, gap_of, joined}

AllRoyal : List Step → Type 0
AllRoyal [] = Unit {0}
AllRoyal (d ∷ ds) = IsRoyal d × AllRoyal ds

straight_royal : AllRoyal straight_steps
unfolding AllRoyal
straight_royal = grind arith

diagonal_royal : AllRoyal diagonal_steps
unfolding AllRoyal
diagonal_royal = grind arith

queen_royal : AllRoyal (straight_steps ++ diagonal_steps)
unfolding AllRoyal straight_royal diagonal_royal
queen_royal = (straight_royal.0, (straight_royal.1.0, (straight_royal.1.1.0, (straight_royal.1.1.1.0, diagonal_royal))))

sliders_royal : (man : Man) → is_slider man.kind ≡ true → AllRoyal (steps_of man.side man.kind)
sliders_royal man h = grind (arith, queen_royal, straight_royal, diagonal_royal)

-- between what is reached and the man every square is free
ride_between : (Free : ℕ → Type 0) (most s t u : ℕ) (d : Step) → IsRoyal d → Rides Free most s t d → IsBetween s t u → Free u
ride_between Free most s t u d royal r b = grind (arith, joined)

-- and where they are free it is reached
ride_clear : (Free Bare : ℕ → Type 0) (most s t : ℕ) (d : Step) → IsRoyal d → Rides Bare most s t d → ((u : ℕ) → IsBetween s t u → Free u) → Rides Free most s t d
ride_clear Free Bare most s t d royal r free = grind arith

-- what stands between is on the line too
ride_nearer : (Bare : ℕ → Type 0) (most s t u : ℕ) (d : Step) → IsRoyal d → ((v : ℕ) → Bare v) → Rides Bare most s t d → IsBetween s t u → Rides Bare most s u d
ride_nearer Bare most s t u d royal bare r b = grind (arith, joined)

reach_between : (Free : ℕ → Type 0) (most s t u : ℕ) (ds : List Step) → AllRoyal ds → OneOf (Rides Free most s t) ds → IsBetween s t u → Free u
unfolding AllRoyal
reach_between Free most s t u [] royal none b = absurd none
reach_between Free most s t u (d ∷ ds) royal some b = elim some [
  | inl r ↦ ride_between Free most s t u d royal.0 r b
  | inr rest ↦ reach_between Free most s t u ds royal.1 rest b
]

reach_clear : (Free Bare : ℕ → Type 0) (most s t : ℕ) (ds : List Step) → AllRoyal ds → OneOf (Rides Bare most s t) ds → ((u : ℕ) → IsBetween s t u → Free u) → OneOf (Rides Free most s t) ds
unfolding AllRoyal
reach_clear Free Bare most s t [] royal none free = absurd none
reach_clear Free Bare most s t (d ∷ ds) royal some free = elim some [
  | inl r ↦ inl (ride_clear Free Bare most s t d royal.0 r free)
  | inr rest ↦ inr (reach_clear Free Bare most s t ds royal.1 rest free)
]

reach_nearer : (Bare : ℕ → Type 0) (most s t u : ℕ) (ds : List Step) → AllRoyal ds → ((v : ℕ) → Bare v) → OneOf (Rides Bare most s t) ds → IsBetween s t u → OneOf (Rides Bare most s u) ds
unfolding AllRoyal
reach_nearer Bare most s t u [] royal bare none b = absurd none
reach_nearer Bare most s t u (d ∷ ds) royal bare some b = elim some [
  | inl r ↦ inl (ride_nearer Bare most s t u d royal.0 bare r b)
  | inr rest ↦ inr (reach_nearer Bare most s t u ds royal.1 bare rest b)
]

-- a square between is neither end
pub between_apart : (s t u : ℕ) → IsBetween s t u → u ≢ t
between_apart s t u b e =
    let some = b.some in
    let less = b.less in
    let here = joined b.step b.near s t b.royal b.some (subst (Away b.step b.near s) e b.here) in
    let there = joined b.step b.far s t b.royal (omega arith) b.there in
    let near = here.count in
    let far = there.count in
    omega arith

-- a set of squares that are not taken
abbrev pub Open : ℕ → ℕ → Type 0
Open occupied u = bit_at occupied u ≡ 0

open_or_taken : (occupied u : ℕ) → bit_at occupied u ≢ 1 → Open occupied u
open_or_taken occupied u other = let small = bit_at-lt occupied u in omega arith

bare_open : (u : ℕ) → Open 0 u
bare_open u = bit_at-zero u

Rides-bare : (Free : ℕ → Type 0) (most s t : ℕ) (ds : List Step) → OneOf (Rides Free most s t) ds → OneOf (Rides (Open 0) most s t) ds
Rides-bare Free most s t [] none = none
Rides-bare Free most s t (d ∷ ds) some = elim some [
  | inl r ↦ inl (Rides-free Free (Open 0) most s t d (λ u u_in free. bare_open u) r)
  | inr rest ↦ inr (Rides-bare Free most s t ds rest)
]

-- any other man goes one step, which nothing hides
near : (F G : ℕ → Type 0) (s t : ℕ) (ds : List Step) → OneOf (Rides F 1 s t) ds → OneOf (Rides G 1 s t) ds
near F G s t [] none = none
near F G s t (d ∷ ds) some = elim some [
  | inl r ↦
      let within = r.within in
      inl (record { count = r.count; moves = r.moves; within = r.within; away = r.away; clear = λ k u k_some less away. absurd (omega arith) })
  | inr rest ↦ inr (near F G s t ds rest)
]

leaper_attacks : (F G : ℕ → Type 0) (man : Man) (s t : ℕ) → is_slider man.kind ≡ false → Reaches F man s t → Reaches G man s t
leaper_attacks F G man s t leaps r = grind (arith, near)

-- the step of a man that is no slider leads to no square with others between
royal_near : (F : ℕ → Type 0) (s t u : ℕ) (ds : List Step) → AllRoyal ds → OneOf (Rides F 1 s t) ds → IsBetween s t u → ⊥
unfolding AllRoyal
royal_near F s t u [] royal none b = none
royal_near F s t u (d ∷ ds) royal some b = elim some [
  | inl r ↦
      let near_some = b.some in
      let less = b.less in
      let within = r.within in
      let here = joined d r.count s t royal.0 r.moves r.away in
      let there = joined b.step b.far s t b.royal (omega arith) b.there in
      let count = here.count in
      let far = there.count in
      omega arith
  | inr rest ↦ royal_near F s t u ds royal.1 rest b
]

pawn_royal : (side : Side) → AllRoyal (pawn_steps side)
unfolding AllRoyal
pawn_royal side = grind arith

up_apart : (n a b : ℕ) → b ≡ a + n → apart a b ≡ n
up_apart n a b h = omega arith

down_apart : (n a b : ℕ) → a ≡ b + n → apart a b ≡ n
down_apart n a b h = omega arith

-- squares one and two apart are on no line
off_the_line : (s t u : ℕ) → (((apart (file_of s) (file_of t) ≡ 1) × (apart (rank_of s) (rank_of t) ≡ 2)) ⊎ ((apart (file_of s) (file_of t) ≡ 2) × (apart (rank_of s) (rank_of t) ≡ 1))) → IsBetween s t u → ⊥
off_the_line s t u h b = grind (arith, gap_of, joined)

-- one step of a knight
one_step : (F : ℕ → Type 0) (s t : ℕ) (d : Step) → Rides F 1 s t d → Away d 1 s t
one_step F s t d r = grind arith

knight_off : (F : ℕ → Type 0) (s t u : ℕ) → OneOf (Rides F 1 s t) knight_steps → IsBetween s t u → ⊥
knight_off h0 s t u h4 b = grind (arith, one_step, off_the_line, up_apart, down_apart)

leaper_between : (F : ℕ → Type 0) (man : Man) (s t u : ℕ) → is_slider man.kind ≡ false → Reaches F man s t → IsBetween s t u → ⊥
leaper_between h0 man s t u leaps r b = grind (arith, is_slider, farthest, steps_of, false≢true, knight_off, royal_near, pawn_steps, pawn_royal, straight_steps, diagonal_steps, queen_royal)

-- so one rule serves all men: between what is attacked and the man every square is free
pub free_between : (F : ℕ → Type 0) (man : Man) (s t u : ℕ) → Reaches F man s t → IsBetween s t u → F u
free_between F man s t u r b = go (is_slider man.kind) refl
  where
    go : (slides : Bool) → is_slider man.kind ≡ slides → F u
    go true h = reach_between F (farthest man.kind) s t u (steps_of man.side man.kind) (sliders_royal man h) r b
    go false h = absurd (leaper_between F man s t u h r b)

pub clear_reach : (F : ℕ → Type 0) (man : Man) (s t : ℕ) → Reaches (Open 0) man s t → ((u : ℕ) → IsBetween s t u → F u) → Reaches F man s t
clear_reach F man s t bare free = grind (arith, reach_clear, sliders_royal, leaper_attacks)

nearer_reach : (man : Man) (s t u : ℕ) → Reaches (Open 0) man s t → IsBetween s t u → Reaches (Open 0) man s u
nearer_reach man s t u bare b = go (is_slider man.kind) refl
  where
    go : (slides : Bool) → is_slider man.kind ≡ slides → Reaches (Open 0) man s u
    go true h = reach_nearer (Open 0) (farthest man.kind) s t u (steps_of man.side man.kind) (sliders_royal man h) bare_open bare b
    go false h = absurd (leaper_between (Open 0) man s t u h bare b)

-- a man attacks what it attacks on the bare board and nothing hides
attacks_seen : (man : Man) (s t occupied : ℕ) → (Reaches (Open 0) man s t × ((u : ℕ) → IsBetween s t u → Open occupied u)) ↔ Reaches (Open occupied) man s t
attacks_seen man s t occupied = (
  λ h. clear_reach (Open occupied) man s t h.0 h.1,
  λ r. (Rides-bare (Open occupied) (farthest man.kind) s t (steps_of man.side man.kind) r, λ u b. free_between (Open occupied) man s t u r b),
)

-- those of its squares that are taken are all that counts
pub sees : (man : Man) (s occupied lone : ℕ) → ((t : ℕ) → t < 64 → (bit_at lone t ≡ 1) ↔ Reaches (Open 0) man s t) → (t n : ℕ) → t < 64
    → (n ≡ 1) ↔ ((bit_at lone t ≡ 1) × ((u : ℕ) → bit_at lone u ≡ 1 → bit_at occupied u ≡ 1 → ¬ IsBetween s t u)) → (n ≡ 1) ↔ Reaches (Open occupied) man s t
sees man s occupied lone shows t n t_in is =
    let attacks = attacks_seen man s t occupied in (
      λ one.
          let h = is.0 one in
          let bare = (shows t t_in).0 h.0 in
          attacks.0 (
            bare,
            λ u b. elim (cases_eq (bit_at occupied u) 1) [
              | inl taken ↦ absurd (h.1 u ((shows u b.here.on_board).1 (nearer_reach man s t u bare b)) taken b)
              | inr other ↦ open_or_taken occupied u other
            ],
          ),
      λ r.
          let h = attacks.1 r in
          is.1 ((shows t t_in).1 h.0, λ u on_lone taken b. not_both (bit_at occupied u) (h.1 u b) taken),
    )

-- the squares of a line, less those that the men met so far hide
pub record Sees (from squares occupied left blockers : ℕ) : Type 0 where
  pub ahead : (u : ℕ) → bit_at blockers u ≡ 1 → (bit_at squares u ≡ 1) × (bit_at occupied u ≡ 1)
  pub seen : (t : ℕ) → (bit_at left t ≡ 1) ↔ ((bit_at squares t ≡ 1) × ((u : ℕ) → bit_at squares u ≡ 1 → bit_at occupied u ≡ 1 → bit_at blockers u ≡ 0 → ¬ IsBetween from t u))

both_of : (a b m : ℕ) → a < 2 → b < 2 → m ≡ min a b → (m ≡ 1) ↔ ((a ≡ 1) × (b ≡ 1))
both_of a b m a_bit b_bit e = (λ one. (omega arith, omega arith), λ h. let p = h.0 in let q = h.1 in omega arith)

pub Sees-none : (from squares occupied blockers : ℕ) → ((t : ℕ) → bit_at blockers t ≡ min (bit_at squares t) (bit_at occupied t)) → Sees from squares occupied squares blockers
Sees-none from squares occupied blockers common = record {
  ahead = λ u one. (both_of _ _ _ (bit_at-lt squares u) (bit_at-lt occupied u) (common u)).0 one;
  seen = λ t. (
    λ one. (one, λ u on taken gone b. not_both _ gone ((both_of _ _ _ (bit_at-lt squares u) (bit_at-lt occupied u) (common u)).1 (on, taken))),
    λ h. h.0,
  );
}

pub Sees-more : (from squares occupied left left' blockers blockers' hidden blocker : ℕ) → bit_at blockers blocker ≡ 1 → bit_at blockers' blocker ≡ 0
    → ((u : ℕ) → u ≢ blocker → bit_at blockers' u ≡ bit_at blockers u) → ((t : ℕ) → (bit_at hidden t ≡ 1) ↔ IsBetween from t blocker)
    → ((t : ℕ) → bit_at left' t ≡ min (bit_at left t) (1 - bit_at hidden t)) → Sees from squares occupied left blockers → Sees from squares occupied left' blockers'
Sees-more from squares occupied left left' blockers blockers' hidden blocker had gone others hides less sees = record {
  ahead = λ u one. elim (cases_eq u blocker) [
    | inl e ↦ not_both _ gone (ap (bit_at blockers') (sym e) ∙ one)
    | inr other ↦ sees.ahead u (sym (others u other) ∙ one)
  ];
  seen = λ t.
      let is = less t in
      let left_bit = bit_at-lt left t in
      let hidden_bit = bit_at-lt hidden t in (
        λ one.
            let was : bit_at left t ≡ 1 = omega arith in
            let plain : bit_at hidden t ≡ 0 = omega arith in
            let h = (sees.seen t).0 was in (
              h.0,
              λ u on taken past b. elim (cases_eq u blocker) [
                | inl e ↦ not_both _ plain ((hides t).1 (subst (IsBetween from t) e b))
                | inr other ↦ h.1 u on taken (sym (others u other) ∙ past) b
              ],
            ),
        λ h.
            let own = sees.ahead blocker had in
            let was : bit_at left t ≡ 1 = (sees.seen t).1 (
              h.0,
              λ u on taken past b. elim (cases_eq u blocker) [
                | inl e ↦ not_both _ past (ap (bit_at blockers) e ∙ had)
                | inr other ↦ h.1 u on taken (others u other ∙ past) b
              ],
            ) in
            let plain : bit_at hidden t ≢ 1 = λ one. h.1 blocker own.0 own.1 gone ((hides t).0 one) in
            omega arith,
      );
}

pub Sees-all : (from squares occupied left blockers : ℕ) → Sees from squares occupied left blockers → ((u : ℕ) → bit_at blockers u ≡ 0)
    → (t : ℕ) → (bit_at left t ≡ 1) ↔ ((bit_at squares t ≡ 1) × ((u : ℕ) → bit_at squares u ≡ 1 → bit_at occupied u ≡ 1 → ¬ IsBetween from t u))
Sees-all from squares occupied left blockers sees none t = (
  λ one. let h = (sees.seen t).0 one in (h.0, λ u on taken. h.1 u on taken (none u)),
  λ h. (sees.seen t).1 (h.0, λ u on taken past. h.1 u on taken),
)

pub Reaches-bare : (man : Man) (s t occupied : ℕ) → Reaches (Open occupied) man s t → Reaches (Open 0) man s t
Reaches-bare man s t occupied r = Rides-bare (Open occupied) (farthest man.kind) s t (steps_of man.side man.kind) r

-- a square is attacked exactly where it is on the bare board and no square between is taken
pub attacks_open : (man : Man) (s t occupied between both : ℕ) → Reaches (Open 0) man s t → ((u : ℕ) → (bit_at between u ≡ 1) ↔ IsBetween s t u)
    → ((u : ℕ) → bit_at both u ≡ min (bit_at between u) (bit_at occupied u)) → {b : Bool} → (b ≡ true) ↔ ((u : ℕ) → bit_at both u ≡ 0) → (b ≡ true) ↔ Reaches (Open occupied) man s t
attacks_open man s t occupied between both bare shows common empty =
    let attacks = attacks_seen man s t occupied in (
      λ none. attacks.0 (
        bare,
        λ u b. open_or_taken occupied u (λ taken.
            not_both (bit_at both u) (empty.0 none u) ((both_of _ _ _ (bit_at-lt between u) (bit_at-lt occupied u) (common u)).1 ((shows u).1 b, taken))),
      ),
      λ r.
          let h = attacks.1 r in
          empty.1 (λ u. elim (cases_eq (bit_at both u) 1) [
            | inl one ↦
                let b = (both_of _ _ _ (bit_at-lt between u) (bit_at-lt occupied u) (common u)).0 one in
                not_both (bit_at occupied u) (h.1 u ((shows u).0 b.0)) b.1
            | inr other ↦ let small = bit_at-lt both u in omega arith
          ]),
    )

-- what a man come to t leaves open
abbrev OpenBut : ℕ → ℕ → ℕ → Type 0
OpenBut occupied t u = Open occupied u × (u ≢ t)

-- a man that does not attack the square is not in need of being stopped
pub stops_none : (man : Man) (s square t occupied : ℕ) → ¬ Reaches (Open occupied) man s square → Stops occupied man s square t
stops_none man s square t occupied none = inr (λ r. none (Reaches-free (OpenBut occupied t) (Open occupied) man s square (λ u u_in free. free.0) r))

-- another is stopped between, or taken
pub stops_between : (man : Man) (s square t occupied between : ℕ) → Reaches (Open occupied) man s square → ((u : ℕ) → (bit_at between u ≡ 1) ↔ IsBetween s square u)
    → (n : ℕ) → (t ≡ s → n ≡ 1) → (t ≢ s → n ≡ bit_at between t) → (n ≡ 1) ↔ Stops occupied man s square t
stops_between man s square t occupied between attacks shows n here other =
    let both = (attacks_seen man s square occupied).1 attacks in (
      λ one. elim (cases_eq t s) [
        | inl e ↦ inl e
        | inr apart ↦ inr (λ r. (free_between (OpenBut occupied t) man s square t r ((shows t).0 (sym (other apart) ∙ one))).1 refl)
      ],
      λ stopped. elim (cases_eq t s) [
        | inl e ↦ here e
        | inr apart ↦ elim (cases_eq (bit_at between t) 1) [
          | inl one ↦ other apart ∙ one
          | inr not_between ↦ elim stopped [
            | inl e ↦ absurd (apart e)
            | inr none ↦ absurd (none (clear_reach (OpenBut occupied t) man s square both.0 (λ u b. (both.1 u b, λ e. not_between ((shows t).1 (subst (IsBetween s square) e b))))))
          ]
        ]
      ],
    )

-- what stands on the square that is attacked plays no part
pub Reaches-target : (F G : ℕ → Type 0) (man : Man) (s t : ℕ) → ((u : ℕ) → u < 64 → u ≢ t → F u → G u) → Reaches F man s t → Reaches G man s t
Reaches-target F G man s t free r =
    clear_reach G man s t (Rides-bare F (farthest man.kind) s t (steps_of man.side man.kind) r)
    (λ u b. free u b.here.on_board (λ e. between_apart s t u b e) (free_between F man s t u r b))
