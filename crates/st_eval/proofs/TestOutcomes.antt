-- A test by its outcome.
use Rattle.std.proofs.Common.{◌≡◌, ℕ, sym, subst, List, true}
use Rattle.st_il.specs.declared.definition.Il.{Il}
use Rattle.st_il.specs.declared.definition.Listed.{Listed}
use Rattle.st_il.specs.declared.expression.IlExp.{IlExp}
use Rattle.st_il.specs.declared.expression.IlPrem.{IlPrem, out-IlPrem}
use Rattle.st_il.specs.declared.expression.IlPrem.TheOpen.{IlPrem-F}
use Rattle.st_il.specs.declared.value.Env.{Env}
use Rattle.st_il.specs.declared.value.Value.{Value}
use Rattle.st_il.specs.declared.value.Value.TheVariants as value
use Rattle.st_semantics.specs.declared.outcome.Outcome.{Outcome}
use Rattle.st_semantics.specs.declared.outcome.Outcome.TheVariants as outcome
use Rattle.st_il.specs.Names.{Name, all_known}
use Rattle.st_semantics.specs.Variables.{vars}
use Rattle.st_semantics.specs.Calls.{ValueAt}
use Rattle.st_semantics.specs.Laws.{CallsAreSingle}
use Rattle.st_eval.specs.Steps.{HasOnly, HoldsWith}
use Rattle.st_eval.specs.declared.condition.Met.{Met}
use Rattle.st_eval.specs.declared.condition.Met.TheVariants as met
use Rattle.st_eval.specs.Meeting.{IsTested, IsMet}
use Rattle.st_eval.proofs.Conditions.{law_of_tests}

pub tested_is : (il : Il) → CallsAreSingle il → (n : ℕ) (bound : List Name) (ls : List Listed) (env : Env) (p : IlPrem) (e : IlExp) (o : Outcome) (m : Met) → out-IlPrem p ≡ IlPrem-F.If e → all_known bound (vars e) ≡ true
    → HasOnly il ls bound env → ValueAt il n env e o → IsTested env o m → IsMet il n bound ls env p m
tested_is il single n bound ls env p e o (met.Holds more) is known only gives t =
    subst (HoldsWith il n bound ls env p) (sym t.1) ((law_of_tests il single n bound ls env p e o is known gives).0 t.0 only)
tested_is il single n bound ls env p e o met.Fails is known only gives t = (law_of_tests il single n bound ls env p e o is known gives).2 t.0 t.1
tested_is il single n bound ls env p e o met.Deep is known only gives t = (law_of_tests il single n bound ls env p e o is known gives).1 t

-- a value that is not `true`
pub not_true_value : (v : Value) → (v ≡ value.Bool true → ⊥) → outcome.Val v ≡ outcome.Val (value.Bool true) → ⊥
not_true_value v untrue e = let same : v ≡ value.Bool true = cc in untrue same
