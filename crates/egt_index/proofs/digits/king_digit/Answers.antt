use Rattle.std.proofs.Common.{◌≡◌, sym, subst, ℕ, IfSome, IfNone, ◌<◌, ◌≢◌}
use Rattle.egt_index.specs.Prelude.{king_square, king_base}
use Rattle.egt_index.proofs.digits.king_digit.Goals as goal

pub returns-then-not-pawns : goal.returns-then-not-pawns
returns-then-not-pawns c =
    let pawns = sym c.if-not-pawns.true in
    record {
      found = subst (λ b. IfSome c.place.result (λ digit. digit < king_base b)) pawns c.place.ensures.found;
      is = subst (λ b. IfSome c.place.result (λ digit. king_square b digit ≡ c.args.king)) pawns c.place.ensures.is;
      none = subst (λ b. IfNone c.place.result ((digit : ℕ) → digit < king_base b → king_square b digit ≢ c.args.king)) pawns c.place.ensures.none;
    }
