use Rattle.std.proofs.Common.{rules, sym, ap, ◌∙◌, map, lit<}
use Rattle.egt_board.specs.Prelude.{bit_at-lt, Setup, man_entry}
use Rattle.std.specs.FinMap as placement
use Rattle.egt_board.proofs.Gather.{Gathered-none, Gathered-more, Gathered-all, next_stands, next_room}
use Rattle.egt_board.proofs.position.Position.men.Goals as goal

pub loop-square-init : goal.loop-square-init
loop-square-init c =
    rw c.new-men.ensures (Gathered-none c.self.inside.board c.occupied-rest.result.bits c.occupied-rest.ensures.free (bit_at-lt c.occupied-rest.result.bits))

pub unwrap-man-requires : goal.unwrap-man-requires
unwrap-man-requires c =
    let there = next_stands c.self.inside.board c.loop-square.men.items c.loop-square.rest.bits c.in-Some.square c.loop-square.invariant c.in-Some.ensures.had c.in-Some.ensures.least in
    rw (c.at.ensures, there.1) (search rules)

pub push-requires : goal.push-requires
push-requires c =
    (lit< tt, next_room c.self.inside.board c.loop-square.men.items c.loop-square.rest.bits c.in-Some.square c.loop-square.invariant c.in-Some.ensures.had c.in-Some.ensures.least c.self.invariant.admissible.few)

pub loop-square-preserved : goal.loop-square-preserved
loop-square-preserved c =
    rw c.push.ensures.items (Gathered-more c.self.inside.board c.loop-square.men.items c.loop-square.rest.bits _ c.in-Some.square c.unwrap-man.result
    c.loop-square.invariant c.in-Some.ensures.had c.in-Some.ensures.least c.in-Some.ensures.gone c.in-Some.ensures.others (sym c.at.ensures ∙ c.unwrap-man.ensures))

pub returns : goal.returns
returns c =
    Gathered-all c.self.inside.board c.loop-square.men.items c.loop-square.rest.bits c.loop-square.invariant c.in_default.ensures.empty
    ∙ ap (λ (p : Setup). map man_entry (placement.entries p.men)) c.self.view_is
