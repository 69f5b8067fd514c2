use Rattle.std.proofs.Common.{sym, subst, List, [], ◌∷◌}
use Rattle.std.specs.Prelude.{IfOk}
use Rattle.st_num.specs.declared.rule.RuleId.TheVariants.{M3, M4, M6, M7}
use Rattle.st_semantics.specs.Calls.{ValueAt}
use Rattle.st_semantics.proofs.Modes.{clauses_keep}
use Rattle.st_eval.specs.Evaluable.{IsEvaluable}
use Rattle.st_commands.proofs.query.closed_value.Goals as goal

pub value-requires-clause-language : goal.value-requires-clause-language
value-requires-clause-language c =
    subst (IsEvaluable c.args.il.now) (sym c.requires.types)
    (c.typed_languages_are_evaluable.ensures.languages c.args.il.now c.requires.typed (clauses_keep c.args.il.now (M3 ∷ M4 ∷ M6 ∷ M7 ∷ []) c.requires.modes))

pub returns : goal.returns
returns c =
    subst (λ (z : List _). IfOk c.value.result (ValueAt c.args.il.now c.args.depth (record { entries = z }) c.args.query.now)) c.new.ensures c.value.ensures
