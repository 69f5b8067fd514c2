-- Whether the rules among some definitions have few premises.
use Rattle.std.specs.Prelude.{◌<◌, ◌^◌, List, length, All}
use Rattle.st_il.specs.declared.definition.IlDef.{IlDef}
use Rattle.st_il.specs.declared.definition.IlDef.TheVariants as def
use Rattle.st_il.specs.declared.definition.RuleDef.{RuleDef}
use Rattle.st_il.specs.Definitions.{rules_in}

-- the definition has fewer than 2^32 premises, where it is a rule
abbrev pub HasFewPremises : IlDef → Type 0
HasFewPremises (def.Rule r) = length r.premises < 2 ^ 32
HasFewPremises definition = Unit {0}

-- all rules among these definitions have
abbrev pub AllHaveFew : List IlDef → Type 0
AllHaveFew defs = All (λ (r : RuleDef). length r.premises < 2 ^ 32) (rules_in defs)
