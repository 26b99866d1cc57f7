-- Rules by name, and refusals by number and by name.
use Rattle.std.specs.Prelude.{ℕ, List, codes}
use Rattle.egt_entries.specs.declared.rule.Rule.{Rule}
use Rattle.egt_entries.specs.declared.rule.Rule.TheVariants as rules
use Rattle.egt_entries.specs.declared.reject.Reject.{Reject}
use Rattle.egt_entries.specs.declared.reject.Reject.TheVariants.{Missing, NoReach, Rejected, AlreadyThere}

abbrev pub rule_name : Rule → List ℕ
rule_name rules.Void = codes "void"
rule_name rules.Range = codes "range"
rule_name rules.Kind = codes "kind"
rule_name rules.Win = codes "win"
rule_name rules.Loss = codes "loss"
rule_name rules.Draw = codes "draw"
rule_name rules.Reach = codes "reach"
rule_name rules.Dead = codes "dead"

abbrev pub number_of : Reject → ℕ
number_of (Missing d) = 11
number_of (NoReach d) = 17
number_of (Rejected metric i rule) = 12
number_of AlreadyThere = 13

abbrev pub name_of : Reject → List ℕ
name_of (Missing d) = codes "Missing"
name_of (NoReach d) = codes "NoReach"
name_of (Rejected metric i rule) = codes "Rejected"
name_of AlreadyThere = codes "AlreadyThere"
