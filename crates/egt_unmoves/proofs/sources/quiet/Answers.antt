use Rattle.std.proofs.Common.{◌≡◌, ◌≢◌, ℕ, ◌-◌, ◌<◌, ◌↔◌, min, arith, ◌∙◌, subst}
use Rattle.egt_unmoves.specs.Prelude.{bit_at-lt, king_of, IsKingOn, sides_differ}
use Rattle.egt_unmoves.proofs.Quiet.{quiet_at}
use Rattle.egt_unmoves.proofs.sources.quiet.Goals as goal

-- a bit of the one set and not of the other
kept : (X Y : Type 0) (a o m : ℕ) → a < 2 → o < 2 → m ≡ min a (1 - o) → (a ≡ 1) ↔ X → (o ≡ 1) ↔ Y → (m ≡ 1) ↔ (X × (¬ Y))
kept X Y a o m a_bit o_bit e in_a in_o = grind arith

pub returns : goal.returns
returns c = λ s s_in free.
    let q = c.args.position.now in
    let foreign : q.side ≢ c.args.man.side = λ e. sides_differ q.side (e ∙ c.requires.theirs) in
    let king : IsKingOn c.args.left.now q.side c.king-king.result = c.requires.king c.king-king.result (subst (λ side. IsKingOn q.men side c.king-king.result) c.side.ensures.side c.king-king.ensures) in
    let is = quiet_at c.args.left.now q.side c.args.man (king_of q.side) s c.king-king.result c.requires.theirs foreign free king in
    let bits = kept _ _ _ _ _ (bit_at-lt c.shelter.result.bits s) (bit_at-lt c.attackers.result.bits s) (c.difference.ensures.squares s) (c.shelter.ensures s (king_of q.side) s_in foreign) (c.attackers.ensures.attackers s s_in) in
    (λ has. is.1 (bits.0 has), λ safe. bits.1 (is.0 safe))
