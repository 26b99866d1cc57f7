use Rattle.std.proofs.Common.{ℕ, ◌<◌, Option, is_some, option_map, IfSome, IsSome, subst, arith}
use Rattle.egt_probe.specs.Prelude.{IsShelved, table_at, TableValue, loaded_in}
use Rattle.egt_probe.proofs.Shelved.{step_loaded}
use Rattle.egt_probe.proofs.looking.moves_stay_loaded.Goals as goal

-- a class with a table is loaded
shelf_loaded : (o : Option TableValue) → IsSome o → IsSome (option_map (λ t. is_some t.reach) o)
shelf_loaded o there = grind arith

pub returns : goal.returns
returns c m q leads =
    let shelved = subst (λ (o : Option _). IfSome o (λ t. IsShelved (table_at c.args.library.now) c.of-class.result.0 t.now)) c.unwrap-table.ensures c.get.ensures.shelved in
    let below = subst (λ (n : ℕ). n < 36) c.number-number.ensures.value c.number-number.ensures.below in
    let same = c.facts.ensures.one_class c.args.position.now c.requires.class c.of-class.result.0 c.requires.of.flipped c.of-class.result.1 c.requires.of.below below c.requires.of.of c.of-class.ensures.class in
    step_loaded (table_at c.args.library.now) c.of-class.result.0 c.unwrap-table.result.now shelved c.facts.ensures (loaded_in c.args.library.now) c.args.position.now q m c.of-class.result.1 (λ d there. shelf_loaded (table_at c.args.library.now d) there)
    (subst (λ (d : ℕ). IsSome (loaded_in c.args.library.now d)) same c.requires.there) below c.side-side.ensures.admissible c.of-class.ensures.class leads
