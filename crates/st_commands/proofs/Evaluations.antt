-- What a query comes to over an internal language, and what is said of it.
use Rattle.std.proofs.Common.{◌≡◌, ℕ, List, ap, subst, sym, ◌∙◌}
use Rattle.std.specs.Prelude.{Result, Ok, Err, IfOk, IfErr}
use Rattle.st_il.specs.declared.definition.Il.{Il}
use Rattle.st_il.specs.declared.definition.SyntaxDef.{SyntaxDef}
use Rattle.st_il.specs.declared.expression.IlExp.{IlExp}
use Rattle.st_num.specs.declared.fault.Fault.{Fault}
use Rattle.st_num.specs.declared.fault.Fault.TheVariants.{Refused, Memory}
use Rattle.st_semantics.specs.Calls.{ValueAt}
use Rattle.st_il.specs.Definitions.{syntaxes}
use Rattle.st_semantics.specs.Formed.{IsFormed}
use Rattle.st_semantics.specs.declared.outcome.Outcome.{Outcome}
use Rattle.st_elab_law.specs.Agreement.{decls_in}
use Rattle.st_elab_rows.specs.Told.{Told}
use Rattle.st_elab_table.specs.declared.decls.Decls.{Decls}
use Rattle.st_term.specs.Reading.{IsQuery, IsQueryBreach}
use Rattle.st_term.specs.TermValue.{nothing}
use Rattle.st_el.specs.declared.definition.Def.{Def}
use Rattle.st_elab_def.specs.declared.elaborated.Elaborated.{Elaborated}
use Rattle.st_num.specs.declared.memory.NoMemory.{NoMemory}
use Rattle.st_num.specs.declared.rule.RuleId.{RuleId}
use Rattle.st_num.specs.declared.span.Span.{Span}
use Rattle.st_order.specs.declared.relation_modes.Modes.{Modes}
use Rattle.st_commands.specs.Queries.{evaluation_depth, OutcomeGives, QueryGives, refused, evaluated, EvalGives, unspecified, specified}
use Rattle.st_commands.specs.QueryOutcome.{ComesTo}
use Rattle.st_answers.specs.RefusalTexts.{refused_term_text}
use Rattle.st_answers.specs.declared.answer.Answer.{Answer}
use Rattle.st_answers.specs.declared.status.Status.TheVariants as status
use Rattle.st_source.specs.inner.Specifying.{RefusesFiles, AreSpecified}
use Rattle.st_commands.proofs.TypedTables.{syntaxes-same}

-- ---- what a query comes to

-- the types that are declared are those of the language
pub types_are : (il : Il) (D : Decls) → D ≡ decls_in il.defs → D.types ≡ syntaxes il
types_are il D is = ap (λ (d : Decls). d.types) is ∙ syntaxes-same il.defs

pub formed_are : (il : Il) (D : Decls) (x : IlExp) → D ≡ decls_in il.defs → IsFormed D.types x → IsFormed (syntaxes il) x
formed_are il D x is formed = subst (λ (ts : List SyntaxDef). IsFormed ts x) (types_are il D is) formed

-- what is told of a query over these declarations
abbrev pub Comes : Il → ℕ → List ℕ → Result Outcome Fault → Type 0
Comes il depth bytes result = Told (ComesTo il depth bytes) (IsQueryBreach (decls_in il.defs) bytes) result

pub told_value : (il : Il) (D : Decls) (depth : ℕ) (bytes : List ℕ) (found : Result IlExp Fault) (x : IlExp) (result : Result Outcome Fault) → D ≡ decls_in il.defs → found ≡ Ok x
    → Told (IsQuery D bytes) (IsQueryBreach D bytes) found → IfOk result (ValueAt il depth nothing x) → IfErr result (λ fault. fault ≡ Memory) → Comes il depth bytes result
told_value il D depth bytes found x (Ok o) is found_is told comes memory =
    record { query = x; read = subst (λ d. IsQuery d bytes x) is (subst (Told (IsQuery D bytes) (IsQueryBreach D bytes)) found_is told); comes = comes }
told_value il D depth bytes found x (Err Memory) is found_is told comes memory = tt
told_value il D depth bytes found x (Err (Refused at rule)) is found_is told comes memory = let bad : Refused at rule ≡ Memory = memory in absurd (cc)

pub told_breach : (il : Il) (D : Decls) (depth : ℕ) (bytes : List ℕ) (found : Result IlExp Fault) (fault : Fault) → D ≡ decls_in il.defs → found ≡ Err fault
    → Told (IsQuery D bytes) (IsQueryBreach D bytes) found → Comes il depth bytes (Err fault)
told_breach il D depth bytes found Memory is found_is told = tt
told_breach il D depth bytes found (Refused at rule) is found_is told =
    subst (λ d. IsQueryBreach d bytes (record { at = at; rule = rule })) is (subst (Told (IsQuery D bytes) (IsQueryBreach D bytes)) found_is told)

-- ---- what is said of it

-- what is said of a query in an answer
abbrev pub SaysQuery : Il → ℕ → List ℕ → Result Answer NoMemory → Type 0
SaysQuery il depth query result = IfOk result (λ answer. QueryGives il depth query answer.status answer.bytes.items)

pub says_outcome : (il : Il) (depth : ℕ) (query : List ℕ) (found : Result Outcome Fault) (o : Outcome) (result : Result Answer NoMemory) → found ≡ Ok o → Comes il depth query found
    → IfOk result (λ answer. OutcomeGives depth o answer.status answer.bytes.items) → SaysQuery il depth query result
says_outcome il depth query found o (Err e) is comes gives = tt
says_outcome il depth query found o (Ok answer) is comes gives = evaluated o (subst (Comes il depth query) is comes) gives

pub says_breach : (il : Il) (depth : ℕ) (query : List ℕ) (found : Result Outcome Fault) (at : Span) (rule : RuleId) (result : Result Answer NoMemory) → found ≡ Err (Refused at rule)
    → Comes il depth query found → IfOk result (λ answer. answer.status ≡ status.Term) → IfOk result (λ answer. answer.bytes.items ≡ refused_term_text at rule)
    → SaysQuery il depth query result
says_breach il depth query found at rule (Err e) is comes status_is bytes = tt
says_breach il depth query found at rule (Ok answer) is comes status_is bytes =
    subst (λ s. QueryGives il depth query s answer.bytes.items) (sym status_is) (refused (record { at = at; rule = rule }) (subst (Comes il depth query) is comes) bytes)

-- ---- over files

-- what is said of a query over files in an answer
abbrev pub SaysEval : List (List ℕ) → List ℕ → List (List ℕ) → Result Answer NoMemory → Type 0
SaysEval names query texts result = IfOk result (λ answer. EvalGives names query texts answer.status answer.bytes.items)

pub says_specified : (names texts : List (List ℕ)) (query : List ℕ) (defs : List Def) (e : Elaborated) (modes : Modes) (depth : ℕ) (result : Result Answer NoMemory)
    → AreSpecified texts defs e modes → depth ≡ evaluation_depth → SaysQuery e.il depth query result → SaysEval names query texts result
says_specified names texts query defs e modes depth (Err f) are same says = tt
says_specified names texts query defs e modes depth (Ok answer) are same says =
    specified defs e are.specification (subst (λ n. QueryGives e.il n query answer.status answer.bytes.items) same says)

pub says_refused : (names texts : List (List ℕ)) (query : List ℕ) (given : Answer) → RefusesFiles names texts given → EvalGives names query texts given.status given.bytes.items
says_refused names texts query given refuses =
    subst (λ s. EvalGives names query texts s given.bytes.items) (sym refuses.status) (unspecified refuses.refused)
