use Rattle.std.specs.Prelude.{ℕ, List, refl}
use Rattle.egt_lanes.specs.Prelude.{Q, R, B, N, Step, Away, Rides, OneOf, diagonal_steps, knight_steps, straight_steps}
use Rattle.egt_lanes.specs.Prelude.{at, IsOpen}
use Rattle.egt_lanes.proofs.RaisedTwice.{raised_as}
use Rattle.egt_lanes.proofs.Riding.{OneOf-as, both_lists, one_ride, reached_by, ride_one}
use Rattle.egt_lanes.proofs.walk.raise_rows.Goals as goal

pub returns-in-Q : goal.returns-in-Q
returns-in-Q c = λ a b a_in b_in.
    let F : ℕ → Type 0 = IsOpen c.args.kings.bits b in
    let H : ℕ → Step → Type 0 = λ t. Rides F 7 a t in
    let f : ℕ → ℕ = λ t. at c.args.from.now t b in
    let lane : List (List ℕ) → ℕ = λ block. at block a b in
    reached_by (lane c.args.out.now) (lane c.raise_straight.new.out) (lane c.raise_straight.new.out) a F c.args.man.side c.args.man.kind Q f c.in-Q.is refl
    (both_lists (lane c.args.out.now) (lane c.raise_diagonal.new.out) (lane c.raise_straight.new.out) H f straight_steps diagonal_steps (c.raise_diagonal.ensures a b a_in b_in) (c.raise_straight.ensures a b a_in b_in))

pub returns-in-R : goal.returns-in-R
returns-in-R c = λ a b a_in b_in.
    let f : ℕ → ℕ = λ t. at c.args.from.now t b in
    reached_by (at c.args.out.now a b) (at c.raise_straight-in-R.new.out a b) (at c.raise_straight-in-R.new.out a b) a (IsOpen c.args.kings.bits b) c.args.man.side c.args.man.kind R f c.in-R.is refl (c.raise_straight-in-R.ensures a b a_in b_in)

pub returns-in-B : goal.returns-in-B
returns-in-B c = λ a b a_in b_in.
    let f : ℕ → ℕ = λ t. at c.args.from.now t b in
    reached_by (at c.args.out.now a b) (at c.raise_diagonal-in-B.new.out a b) (at c.raise_diagonal-in-B.new.out a b) a (IsOpen c.args.kings.bits b) c.args.man.side c.args.man.kind B f c.in-B.is refl (c.raise_diagonal-in-B.ensures a b a_in b_in)

pub returns-in-N : goal.returns-in-N
returns-in-N c = λ a b a_in b_in.
    let F : ℕ → Type 0 = IsOpen c.args.kings.bits b in
    let f : ℕ → ℕ = λ t. at c.args.from.now t b in
    let high = at c.raise_hops.new.out a b in
    reached_by (at c.args.out.now a b) high high a F c.args.man.side c.args.man.kind N f c.in-N.is refl
    (raised_as (at c.args.out.now a b) high (λ t. OneOf (λ d. Away d 1 a t) knight_steps) (λ t. OneOf (Rides F 1 a t) knight_steps) f
    (λ t. OneOf-as (λ d. Away d 1 a t) (Rides F 1 a t) knight_steps (one_ride F a t))
    (λ t. OneOf-as (Rides F 1 a t) (λ d. Away d 1 a t) knight_steps (ride_one F a t))
    (c.raise_hops.ensures a b a_in b_in))
