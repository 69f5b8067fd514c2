use Rattle.std.proofs.Common.{◌++◌, ◌+◌, List, Option, drop, max}
use Rattle.st_il.specs.declared.ty.Ty.{Ty}
use Rattle.st_il.specs.declared.type_rule.TypeRule.{TypeRule}
use Rattle.st_semantics.specs.Iterations.{count_of}
use Rattle.st_ilcheck.specs.Parts.{standing}
use Rattle.st_ilcheck.specs.Typings.{HaveTypings}
use Rattle.st_semantics.specs.References.{exps_now}
use Rattle.st_semantics.specs.inner.Weight.{weight, heaviest}
use Rattle.st_ilcheck.proofs.typing.+typing.Given as goal

abbrev pub decreases-typing_of : goal.decreases-typing_of
decreases-typing_of l = weight l.exp.now

abbrev pub decreases-typings_of : goal.decreases-typings_of
decreases-typings_of l = 1 + heaviest (exps_now l.exps.now)

abbrev pub decreases-iterated : goal.decreases-iterated
decreases-iterated l = 2 + max (heaviest (count_of l.how.now)) (weight l.body.now)

abbrev pub invariant-typings_of-loop-i : goal.invariant-typings_of-loop-i
invariant-typings_of-loop-i l =
    (os : List (Option Ty)) (bs : List TypeRule) → HaveTypings l.language (standing l.listed (exps_now (drop l.i l.exps))) os bs
    → HaveTypings l.language (standing l.listed (exps_now l.exps)) (l.types ++ os) (l.broken ++ bs)
