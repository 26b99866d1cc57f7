use Rattle.std.proofs.Common.{◌≡◌, ℕ, ◌<◌, ◌+◌, ◌⊎◌, sym, subst, ◌∙◌, arith, IsSome}
use Rattle.egt_commands.specs.Prelude.{false≢true, table_at, Descends, HasExactly, IsMarked}
use Rattle.egt_commands.proofs.Marking.{descendants_below}
use Rattle.egt_commands.proofs.Loaded.{one_more, none_more, all_there}
use Rattle.egt_commands.proofs.loading.load_below.Goals as goal
use Rattle.egt_commands.proofs.loading.load_below.Goals.{then-wanted-from+in_ok-load, else-wanted-from}

pub loop-number-preserved : goal.loop-number-preserved
loop-number-preserved g c =
    let n = c.loop-number.number in
    let P = Descends c.args.class in
    elim c.if-wanted-from.branch [
      | then-wanted-from+in_ok-load w ↦ (
          let marked = (c.descendants-wanted.ensures n).0 (subst (λ (k : ℕ). IsMarked c.descendants-wanted.result k) c.from.ensures w.if-wanted-from.true) in
          subst (λ l. HasExactly (table_at l) (λ d. (d < n + 1) × P d)) (sym w.library-is)
          (one_more (table_at c.loop-number.library) (table_at w.load.new.library) n P marked c.loop-number.invariant
          (subst (λ (k : ℕ). HasExactly (table_at w.load.new.library) (λ d. IsSome (table_at c.loop-number.library d) ⊎ (d ≡ k))) w.at.ensures w.in_ok-load.ensures)))
      | else-wanted-from w ↦ (
          let never = λ (descends : P n). false≢true (sym w.if-wanted-from.false ∙ subst (λ (k : ℕ). IsMarked c.descendants-wanted.result k) (sym c.from.ensures) ((c.descendants-wanted.ensures n).1 descends)) in
          subst (λ l. HasExactly (table_at l) (λ d. (d < n + 1) × P d)) (sym w.library-is) (none_more (table_at c.loop-number.library) n P never c.loop-number.invariant))
    ]

pub returns : goal.returns
returns g c =
    let P = Descends c.args.class in
    let all : c.loop-number.number ≡ 36 = (let at_most = c.loop-number.auto.number-end in let at_least = c.loop-number-test.false in omega arith) in
    let class_below : c.args.class < 36 = subst (λ (n : ℕ). n < 36) c.number-below.ensures.value c.number-below.ensures.below in
    let below : (d : ℕ) → P d → d < c.loop-number.number = λ d descends. (let less = descendants_below c.children_have_smaller_numbers.ensures.smaller c.args.class d class_below descends in omega arith) in
    all_there (table_at c.loop-number.library) c.loop-number.number P below c.loop-number.invariant
