use Rattle.std.proofs.Common.{◌++◌, List, drop}
use Rattle.st_il.specs.declared.type_rule.TypeRule.{TypeRule}
use Rattle.st_ilcheck.specs.Premises.{PremsBreak}
use Rattle.st_ilcheck.proofs.premises.broken_in_premises.Given as goal

abbrev pub invariant-loop-premise : goal.invariant-loop-premise
invariant-loop-premise l =
    (bs : List TypeRule) → PremsBreak l.language l.listed (drop l.premise-index l.premises) bs → PremsBreak l.language l.listed l.premises (l.broken ++ bs)
