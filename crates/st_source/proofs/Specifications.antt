-- What is read of the files of a specification.
use Rattle.std.proofs.Common.{◌≡◌, ◌≢◌, ◌<◌, ◌^◌, ℕ, List, [], Option, length, refl, sym, subst, arith}
use Rattle.std.specs.Prelude.{Result, Ok, Err, IfOk}
use Rattle.std.proofs.lemmas.List.Elements.{All-nil}
use Rattle.st_el.specs.declared.definition.Def.{Def}
use Rattle.st_il.specs.declared.definition.IlDef.{IlDef}
use Rattle.st_il.specs.declared.definition.RuleDef.{RuleDef}
use Rattle.st_num.specs.declared.memory.NoMemory.{NoMemory}
use Rattle.st_num.specs.declared.rule.RuleId.{RuleId}
use Rattle.st_num.specs.declared.token.Token.{Token}
use Rattle.st_parse.specs.Source.{IsSource}
use Rattle.st_semantics.specs.Breaches.{Standing, Breaks}
use Rattle.st_semantics.specs.declared.unfit.Unfit.{Unfit}
use Rattle.st_source.specs.Faults.{AllTokens}
use Rattle.st_source.specs.Refused.{parsed}
use Rattle.st_source.specs.Specification.{nothing}
use Rattle.st_source.specs.Specification as files
use Rattle.st_answers.specs.declared.answer.Answer.{Answer}
use Rattle.st_source.specs.declared.specification.Specification.{Specification}
use Rattle.st_source.specs.declared.specification.Specification.TheVariants.{Accepted, Refused}
use Rattle.st_answers.specs.declared.status.Status.TheVariants as status
use Rattle.st_source.specs.inner.Specifying.{IsAccepted, RefusesSource, RefusesFiles, AreSpecified, SpecifiesSource, Specifies}
use Rattle.st_source.proofs.Checks.{TellsSource, TellsFiles}

-- ---- refusals

pub refuses_source : (names : List (List ℕ)) (defs : List Def) (result : Result Answer NoMemory) → IfOk result (λ answer. answer.status ≡ status.Specification)
    → TellsSource names defs result → IfOk result (RefusesSource names defs)
refuses_source names defs (Err e) is says = tt
refuses_source names defs (Ok answer) is says = record { status = is; refused = says }

pub refuses_files : (names texts : List (List ℕ)) (result : Result Answer NoMemory) → IfOk result (λ answer. answer.status ≡ status.Specification)
    → TellsFiles names texts result → IfOk result (RefusesFiles names texts)
refuses_files names texts (Err e) is says = tt
refuses_files names texts (Ok answer) is says = record { status = is; refused = says }

-- ---- what is accepted

-- what is known of definitions is known of the files that they are read from
pub source_specifies : (names texts : List (List ℕ)) (tokens : List Token) (defs : List Def) (result : Result Specification NoMemory) → AllTokens 0 texts tokens → tokens ≢ []
    → IsSource tokens defs → IfOk result (SpecifiesSource names defs) → IfOk result (Specifies names texts)
source_specifies names texts tokens defs (Err e) all some is specified = tt
source_specifies names texts tokens defs (Ok (Accepted given e modes)) all some is h = record {
  specification =
      subst (λ (ds : List Def). files.IsSpecification texts ds e) (sym h.0) (files.source tokens all some is h.1.elaborated h.1.erased h.1.sound.typed h.1.sound.keeps);
  sound = h.1.sound;
}
source_specifies names texts tokens defs (Ok (Refused given)) all some is h =
    record { status = h.status; refused = parsed tokens defs all some is h.refused }

-- ---- where there are no definitions

nothing_sound : IsAccepted nothing.il (record { marks = []; orders = [] })
nothing_sound = record {
  typed = tt;
  keeps = All-nil (λ (at : Standing). (m : RuleId) → Breaks nothing.il at m → ⊥);
  few = (omega arith, All-nil (λ (r : RuleDef). length r.premises < 2 ^ 32));
  modes_are = record { marks = tt; orders = refl };
}

pub nothing_specified : (texts : List (List ℕ)) (defs : List Def) (ds : List IlDef) (sources : List ℕ) (marks : List (Option Unfit)) (orders : List (List (Option (List ℕ)))) → defs ≡ []
    → ds ≡ [] → sources ≡ [] → marks ≡ [] → orders ≡ [] → AllTokens 0 texts []
    → AreSpecified texts defs (record { il = record { defs = ds }; sources = sources }) (record { marks = marks; orders = orders })
nothing_specified texts defs ds sources marks orders none no_defs no_sources no_marks no_orders all =
    subst (λ (z : List Def). AreSpecified texts z (record { il = record { defs = ds }; sources = sources }) (record { marks = marks; orders = orders })) (sym none)
    (subst (λ (z : List IlDef). AreSpecified texts [] (record { il = record { defs = z }; sources = sources }) (record { marks = marks; orders = orders })) (sym no_defs)
    (subst (λ (z : List ℕ). AreSpecified texts [] (record { il = record { defs = [] }; sources = z }) (record { marks = marks; orders = orders })) (sym no_sources)
    (subst (λ (z : List (Option Unfit)). AreSpecified texts [] nothing (record { marks = z; orders = orders })) (sym no_marks)
    (subst (λ (z : List (List (Option (List ℕ)))). AreSpecified texts [] nothing (record { marks = []; orders = z })) (sym no_orders)
    (record { specification = files.empty all; sound = nothing_sound })))))
