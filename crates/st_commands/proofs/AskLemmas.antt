-- What is asked of a relation: that it is declared and led on by its mark, and the types of its inputs.
use Rattle.std.proofs.Common.{◌≡◌, refl, sym, ◌∙◌, ap, subst, ℕ, Bool, true, false, List, [], ◌∷◌, ◌++◌, length, map, not, None}
use Rattle.std.specs.Prelude.{All, IsSomeAnd, Result, Ok, Err, IfOk}
use Rattle.std.specs.List.{AllByRecursion}
use Rattle.std.proofs.lemmas.List.Elements.{All-from_recursion, All-head}
use Rattle.st_num.specs.declared.memory.NoMemory.{NoMemory}
use Rattle.st_il.specs.declared.definition.Il.{Il}
use Rattle.st_il.specs.declared.definition.IlDef.{IlDef}
use Rattle.st_il.specs.declared.definition.IlDef.TheVariants.{Syntax, Var, Relation, Rule, Fun, Clause}
use Rattle.st_il.specs.declared.definition.RelationDef.{RelationDef}
use Rattle.st_il.specs.declared.ty.Ty.{Ty}
use Rattle.st_il.specs.declared.value.Value.{Value}
use Rattle.st_elab_law.specs.Agreement.{decls_in}
use Rattle.st_elab_table.specs.declared.decls.Decls.{Decls}
use Rattle.st_eval.proofs.IsFormedLemmas.{Told-holds, none-left}
use Rattle.st_ilcheck.specs.Declarations.{IsTag}
use Rattle.st_ilcheck.specs.Typed.{Typed, AllKeep, Breaks}
use Rattle.st_order.specs.Tagged.{IsTagged}
use Rattle.st_il.specs.Names.{Name}
use Rattle.st_il.specs.Definitions.{syntaxes, relations, relations_in}
use Rattle.st_semantics.specs.Directions.{mask, inputs_of, outputs_of}
use Rattle.st_semantics.specs.Environments.{AreTypedValues}
use Rattle.st_semantics.specs.Goals.{AreInputs}
use Rattle.st_semantics.specs.Laws.{LawOfTerms, LawOfJudgements}
use Rattle.st_semantics.specs.Marks.{HasMark}
use Rattle.st_semantics.specs.Typing.{ResultsAreTyped, ConclusionsAreTyped}
use Rattle.st_semantics.proofs.TypedTerms.{some_typed}
use Rattle.st_commands.specs.Searches.{AreInputTypes}
use Rattle.st_answers.specs.declared.answer.Answer.{Answer}
use Rattle.st_commands.specs.declared.searches.Asked.{Asked}
use Rattle.st_commands.specs.declared.searches.Asked.TheVariants.{Next, Run}
use Rattle.st_commands.specs.inner.Asking.{IsDeclared, depth_of, asked_says}
use Rattle.st_runs.specs.Runs.{RunSays, NextSays}
use Rattle.st_runs.specs.inner.Searching.{LeadsOn, GivesTyped}
use Rattle.st_commands.proofs.TypedTables.{syntaxes-same}

-- ---- tags of declared relations

relation_tagged : (il : Il) (before : List IlDef) (r : RelationDef) → Breaks il before (Relation r) [] → IsTagged r
relation_tagged il before r h =
    let named = Told-holds _ _ h.by_names h.names (none-left h.by_names (h.by_variables ++ (h.by_indices ++ h.by_types)) [] h.whole refl) in
    let is = All-head IsTag (r.tag, length r.holes) [] named.tagged in
    (is.template, is.tag)

relations_tagged : (il : Il) (before ds : List IlDef) → AllKeep il before ds → AllByRecursion IsTagged (relations_in ds)
relations_tagged il before [] h = tt
relations_tagged il before (Syntax s ∷ ds) h = relations_tagged il (before ++ Syntax s ∷ []) ds h.1
relations_tagged il before (Var x t ∷ ds) h = relations_tagged il (before ++ Var x t ∷ []) ds h.1
relations_tagged il before (Relation r ∷ ds) h = (relation_tagged il before r h.0, relations_tagged il (before ++ Relation r ∷ []) ds h.1)
relations_tagged il before (Rule r ∷ ds) h = relations_tagged il (before ++ Rule r ∷ []) ds h.1
relations_tagged il before (Fun f ∷ ds) h = relations_tagged il (before ++ Fun f ∷ []) ds h.1
relations_tagged il before (Clause c ∷ ds) h = relations_tagged il (before ++ Clause c ∷ []) ds h.1

pub all_tagged : (il : Il) → Typed il → All IsTagged (relations il)
all_tagged il typed = All-from_recursion IsTagged (relations il) (relations_tagged il [] il.defs typed)

-- ---- relations without a mark

pub is_declared : (il : Il) (steps : Bool) (relation : Name) → HasMark il steps relation None → IsDeclared il relation
is_declared il steps relation (HasMark.u0 missing is) = absurd (cc)
is_declared il steps relation (HasMark.searched declared one found unfit is) = absurd (cc)
is_declared il steps relation (HasMark.u5 declared found unfit asked not_stepping is) = absurd (cc)
is_declared il steps relation (HasMark.none declared found unfit stepping is) = (declared, found)

-- what has no mark where it is run has none where it is searched
pub without_steps : (il : Il) (steps : Bool) (relation : Name) → HasMark il steps relation None → HasMark il false relation None
without_steps il steps relation (HasMark.u0 missing is) = absurd (cc)
without_steps il steps relation (HasMark.searched declared one found unfit is) = absurd (cc)
without_steps il steps relation (HasMark.u5 declared found unfit asked not_stepping is) = absurd (cc)
without_steps il steps relation (HasMark.none declared found unfit stepping is) = HasMark.none declared found unfit (λ asked. absurd (cc)) refl

-- what follows a term is a term
pub leads_on : (il : Il) (relation : Name) → LawOfTerms → ResultsAreTyped il → ConclusionsAreTyped il → HasMark il true relation None → LeadsOn il relation
leads_on il relation law results conclusions (HasMark.u0 missing is) = absurd (cc)
leads_on il relation law results conclusions (HasMark.searched declared one found unfit is) = absurd (cc)
leads_on il relation law results conclusions (HasMark.u5 declared found unfit asked not_stepping is) = absurd (cc)
leads_on il relation law results conclusions (HasMark.none declared found unfit stepping is) = law il results conclusions relation declared found (stepping refl)

-- what is derivable has the types of the outputs
pub gives_typed : (il : Il) (relation : Name) → LawOfJudgements → ResultsAreTyped il → ConclusionsAreTyped il → IsDeclared il relation → GivesTyped il relation
gives_typed il relation law results conclusions (declared, found) term next from =
    let typed : AreTypedValues (syntaxes il) declared.holes from.values = law il results conclusions relation from.values from.is_derived declared found in
    let outputs : AreTypedValues (syntaxes il) (outputs_of il relation declared.holes) next =
    subst (AreTypedValues (syntaxes il) (outputs_of il relation declared.holes)) from.outputs_are (some_typed (syntaxes il) (map not (mask il relation)) declared.holes from.values typed) in
    subst (λ o. IsSomeAnd o (λ (r : RelationDef). AreTypedValues (syntaxes il) (outputs_of il relation r.holes) next)) (sym found) outputs

-- ---- inputs

-- values of the types of the inputs are inputs
pub are_inputs : (il : Il) (relation : Name) (D : Decls) (types : List Ty) (term : List Value) → D ≡ decls_in il.defs → AreInputTypes il relation types
    → AreTypedValues D.types types term → AreInputs il relation term
are_inputs il relation D types term is (declared, found, types_are) typed =
    let table : D.types ≡ syntaxes il = ap (λ (d : Decls). d.types) is ∙ syntaxes-same il.defs in
    let here : AreTypedValues (syntaxes il) (inputs_of il relation declared.holes) term =
    subst (λ ts. AreTypedValues (syntaxes il) ts term) types_are (subst (λ defs. AreTypedValues defs types term) table typed) in
    subst (λ o. IsSomeAnd o (λ (r : RelationDef). AreTypedValues (syntaxes il) (inputs_of il relation r.holes) term)) (sym found) here

-- the table of the declarations
pub table_of : (il : Il) (D : Decls) → D ≡ decls_in il.defs → D.types ≡ syntaxes il
table_of il D is = ap (λ (d : Decls). d.types) is ∙ syntaxes-same il.defs

-- ---- what is asked

pub next_is_said : (asked : Asked) (il : Il) (relation : Name) (depth said : ℕ) (term : List Value) (result : Result Answer NoMemory) → asked ≡ Next said → depth ≡ depth_of asked
    → IfOk result (λ given. NextSays il relation depth term given.status given.bytes.items) → IfOk result (λ given. asked_says asked relation il term given.status given.bytes.items)
next_is_said asked il relation depth said term (Err e) is deep says = tt
next_is_said asked il relation depth said term (Ok given) is deep says =
    subst (λ a. asked_says a relation il term given.status given.bytes.items) (sym is)
    (subst (λ n. NextSays il relation n term given.status given.bytes.items) (deep ∙ ap depth_of is) says)

pub run_is_said : (asked : Asked) (il : Il) (relation : Name) (fuel depth said : ℕ) (term : List Value) (result : Result Answer NoMemory) → asked ≡ Run fuel said → depth ≡ depth_of asked
    → IfOk result (λ given. RunSays il relation fuel depth term given.status given.bytes.items) → IfOk result (λ given. asked_says asked relation il term given.status given.bytes.items)
run_is_said asked il relation fuel depth said term (Err e) is deep says = tt
run_is_said asked il relation fuel depth said term (Ok given) is deep says =
    subst (λ a. asked_says a relation il term given.status given.bytes.items) (sym is)
    (subst (λ n. RunSays il relation fuel n term given.status given.bytes.items) (deep ∙ ap depth_of is) says)
