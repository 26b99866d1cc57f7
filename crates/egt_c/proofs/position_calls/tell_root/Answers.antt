use Rattle.std.proofs.Common.{◌≡◌, List, length, map, take, ap, ◌∙◌, refl, subst}
use Rattle.egt_c.specs.Prelude.{RootMove, NoTable, Ranked, shown_root}
use Rattle.egt_c.proofs.position_calls.tell_root.Goals as goal

pub returns-in-Ok-root : goal.returns-in-Ok-root
returns-in-Ok-root c =
    let same = c.as_slice.ensures.value in
    rw c.in-Ok.is (Ranked c.in-Ok-root.told.items c.in-Ok-root.ensures.root (record {
      count = c.of.ensures.count ∙ ap length same;
      moves = subst (λ (rs : List RootMove). take (length rs) c.of.result.moves ≡ map shown_root rs) same c.of.ensures.moves;
    }) c.none.ensures)

pub returns-in-Err-root : goal.returns-in-Err-root
returns-in-Err-root c =
    rw c.in-Ok.is (NoTable c.in-Err-root.missing.class c.in-Err-root.ensures.missing c.missing.ensures refl)
