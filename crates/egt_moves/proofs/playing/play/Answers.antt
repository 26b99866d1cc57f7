use Rattle.std.proofs.Common.{◌≡◌, ◌∙◌, sym, subst, rules}
use Rattle.egt_moves.specs.Prelude.{Stands, Setup, IsInCheck, Goes, FitsPromotion, promotes, men_after, after, plain}
use Rattle.egt_moves.specs.Prelude.{false≢true}
use Rattle.egt_moves.proofs.ListGrows.{goes_of, fits_of, safe_of, same_safety}
use Rattle.egt_moves.proofs.playing.play.Goals as goal

pub played-requires-clause-safe : goal.played-requires-clause-safe
played-requires-clause-safe c =
    let p = c.args.position.now in
    let man = c.in_ok-man.man in
    let m = c.args.chess_move in
    let mine : man.side ≡ p.side = search rules in
    let fits : FitsPromotion (promotes man m.to) m.promo = search rules in
    let safe : ¬ IsInCheck (men_after p man (plain m.from m.to)) p.side = search rules in
    λ check. safe ((same_safety p man m.from m.to m.promo mine fits).0 check)

pub returns-clause-leads : goal.returns-clause-leads
returns-clause-leads c =
    let p = c.args.position.now in
    let man = c.in_ok-man.man in
    let m = c.args.chess_move in
    let stands : Stands p.men m.from man = search rules in
    let mine : man.side ≡ p.side = search rules in
    let goes : Goes p man m.from m.to = search rules in
    let fits : FitsPromotion (promotes man m.to) m.promo = search rules in
    let safe : ¬ IsInCheck (men_after p man (plain m.from m.to)) p.side = search rules in
    let becomes : c.played.result ≡ after p man m = c.played.ensures in
    record {
      man = man;
      stands = stands;
      mine = mine;
      goes = goes;
      promotion = fits;
      becomes = becomes;
      safe = subst (λ (q : Setup). ¬ IsInCheck q.men p.side) (sym becomes) (λ check. safe ((same_safety p man m.from m.to m.promo mine fits).0 check));
    }

pub returns-then-not-contains-clause-illegal : goal.returns-then-not-contains-clause-illegal
returns-then-not-contains-clause-illegal c = λ q leads.
    let p = c.args.position.now in
    let man = c.in_ok-man.man in
    let m = c.args.chess_move in
    let stands : Stands p.men m.from man = search rules in
    let mine : man.side ≡ p.side = search rules in
    let goes = goes_of p man m stands (q, leads) in
    let safe = safe_of p man m stands (q, leads) in
    let fits = fits_of p man m stands (q, leads) in
    false≢true (sym c.if-not-contains.true ∙ c.contains.ensures.1 ((c.legal_goals.ensures.safe m.to).1 (goes, λ check. safe ((same_safety p man m.from m.to m.promo mine fits).1 check))))
