use Rattle.std.proofs.Common.{◌-◌, ◌∙◌, ◌≡◌, ◌↔◌, IfSome, Option, ap, cond, eqb, min, subst, sym}
use Rattle.egt_blocks.specs.Prelude.{bit_at, bit_at_ones, last_rank, rank_of, Kind, FitsPromotion, IsOfficer}
use Rattle.egt_blocks.proofs.AdvanceRaising.{arrives_promoted, arrives_unpromoted}
use Rattle.egt_blocks.proofs.advance_blocks.arrivals.Goals as goal

pub returns-in-Some : goal.returns-in-Some
returns-in-Some c = λ t t_in.
    let last = eqb (rank_of t) (last_rank c.args.side) in
    let bit = bit_at c.rank_squares-last.result.bits t in
    let officer = subst (λ (o : Option Kind). IfSome o IsOfficer) c.in-Some.is c.requires in
    subst (λ (o : Option Kind). (bit ≡ 1) ↔ FitsPromotion last o) (sym c.in-Some.is)
    (arrives_promoted last bit c.in-Some._kind officer (c.rank_squares-last.ensures t t_in ∙ ap (λ r. cond (eqb (rank_of t) r) 1 0) c.last_rank.ensures))

pub returns-in-None : goal.returns-in-None
returns-in-None c = λ t t_in.
    let last = eqb (rank_of t) (last_rank c.args.side) in
    let bit = bit_at c.difference.result.bits t in
    let lasts = c.rank_squares-last.ensures t t_in ∙ ap (λ r. cond (eqb (rank_of t) r) 1 0) c.last_rank.ensures in
    subst (λ (o : Option Kind). (bit ≡ 1) ↔ FitsPromotion last o) (sym c.in-None.is)
    (arrives_unpromoted last bit (c.difference.ensures.squares t ∙ ap (λ all. min all (1 - bit_at c.rank_squares-last.result.bits t)) (bit_at_ones 64 t t_in) ∙ ap (λ n. min 1 (1 - n)) lasts))
