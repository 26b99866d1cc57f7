use Rattle.std.proofs.Common.{refl, inl, inr}
use Rattle.egt_lanes.specs.Prelude.{Files, Ranks, Diagonal, Colours}
use Rattle.egt_lanes.specs.declared.turn.TheConstants as table
use Rattle.egt_lanes.proofs.Turns.{mirrored_at}
use Rattle.egt_lanes.proofs.turn.mirrored.Goals as goal
use Rattle.egt_lanes.proofs.turn.mirrored.Goals.{in-Files, in-Ranks, in-Diagonal}

pub returns : goal.returns
returns c s s_in = elim c.match-mirror.branch [
  | in-Files w ↦ mirrored_at c.args.row c.match-mirror.result table.FILES Files c.args.mirror c.fits-row.0 refl tt w.in-Files.is w.result-is s s_in
  | in-Ranks w ↦ elim w.in-Ranks.is [
    | inl ranks ↦ mirrored_at c.args.row c.match-mirror.result table.RANKS Ranks c.args.mirror c.fits-row.0 refl tt ranks w.result-is s s_in
    | inr colours ↦ mirrored_at c.args.row c.match-mirror.result table.RANKS Colours c.args.mirror c.fits-row.0 refl tt colours w.result-is s s_in
  ]
  | in-Diagonal w ↦ mirrored_at c.args.row c.match-mirror.result table.DIAGONAL Diagonal c.args.mirror c.fits-row.0 refl tt w.in-Diagonal.is w.result-is s s_in
]
