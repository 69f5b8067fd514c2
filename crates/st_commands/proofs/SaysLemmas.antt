-- What is said of a relation, of a term and of files, by what answers say.
use Rattle.std.proofs.Common.{◌≡◌, sym, ◌∙◌, ap, subst, ℕ, Bool, List, ◌++◌, codes, Option, Some, None}
use Rattle.std.specs.Prelude.{Result, Ok, Err, IfOk}
use Rattle.std.specs.Option.{option_map}
use Rattle.st_num.specs.declared.memory.NoMemory.{NoMemory}
use Rattle.st_num.specs.declared.fault.Fault.{Fault}
use Rattle.st_num.specs.declared.fault.Fault.TheVariants.{Refused as Faulty, Memory as Wanting}
use Rattle.st_num.specs.declared.rule.RuleId.{RuleId}
use Rattle.st_num.specs.declared.span.Span.{Span}
use Rattle.st_il.specs.declared.definition.Il.{Il}
use Rattle.st_il.specs.declared.ty.Ty.{Ty}
use Rattle.st_il.specs.declared.value.Value.{Value}
use Rattle.st_elab_rows.specs.Told.{Told}
use Rattle.st_elab_law.specs.Agreement.{decls_in}
use Rattle.st_elab_table.specs.declared.decls.Decls.{Decls}
use Rattle.st_order.specs.declared.relation_modes.Modes.{Modes}
use Rattle.st_search.specs.Searchable.{HasNoOtherwise}
use Rattle.st_il.specs.Names.{Name}
use Rattle.st_semantics.specs.Goals.{AreInputs}
use Rattle.st_semantics.specs.Marks.{HasMark}
use Rattle.st_semantics.specs.Transcript.{Term}
use Rattle.st_term.specs.Reading.{IsTerm, IsTermBreach}
use Rattle.st_el.specs.declared.definition.Def.{Def}
use Rattle.st_elab_def.specs.declared.elaborated.Elaborated.{Elaborated}
use Rattle.st_answers.specs.declared.answer.Answer.{Answer}
use Rattle.st_commands.specs.declared.searches.Asked.{Asked}
use Rattle.st_source.specs.declared.specification.Specification.{Specification}
use Rattle.st_source.specs.declared.specification.Specification.TheVariants.{Accepted, Refused}
use Rattle.st_answers.specs.declared.status.Status.TheVariants as answer
use Rattle.st_answers.specs.Unbuilt.{IsUnbuilt}
use Rattle.st_commands.specs.Searches.{Says, AreInputTypes, RelationSays, marked, unbuilt, refused, searched, SearchGives, unspecified, specified}
use Rattle.st_answers.specs.RefusalTexts.{refused_term_text}
use Rattle.st_commands.specs.inner.Asking.{asks_steps, asked_says, TellsTermFault}
use Rattle.st_answers.specs.MarkTexts.{IsMarkText}
use Rattle.st_source.specs.inner.Specifying.{IsAccepted, AreSpecified, RefusesFiles, Specifies}

-- the text of a mark that was found, or that there is none
pub mark_at : {T : Type 0} (items : T → List ℕ) (il : Il) (said steps : Bool) (relation : Name) (found : Option T) (mark : T) (text : List ℕ) → found ≡ Some mark → said ≡ steps → text ≡ items mark
    → IsMarkText il said relation (option_map items found) → IsMarkText il steps relation (Some text)
mark_at items il said steps relation found mark text is same shown has =
    subst (λ t. IsMarkText il steps relation (Some t)) (sym shown)
    (subst (λ s. IsMarkText il s relation (Some (items mark))) same (subst (λ o. IsMarkText il said relation (option_map items o)) is has))

pub no_mark : {T : Type 0} (items : T → List ℕ) (il : Il) (said steps : Bool) (relation : Name) (found : Option T) → found ≡ None → said ≡ steps
    → IsMarkText il said relation (option_map items found) → HasMark il steps relation None
no_mark items il said steps relation found is same has =
    subst (λ s. HasMark il s relation None) same (subst (λ o. IsMarkText il said relation (option_map items o)) is has)

-- what is said of a relation by an answer
abbrev pub SaysOf : Bool → Says → Il → Name → List ℕ → Result Answer NoMemory → Type 0
SaysOf steps Is il relation text result = IfOk result (λ given. RelationSays steps Is il relation text given.status given.bytes.items)

module _ (steps : Bool) (Is : Says) (il : Il) (relation : Name) (text : List ℕ) where
  pub says_mark : (mark : List ℕ) (result : Result Answer NoMemory) → IsMarkText il steps relation (Some mark) → IfOk result (λ given. given.status ≡ answer.NotRunnable)
      → IfOk result (λ given. given.bytes.items ≡ codes "not runnable " ++ relation ++ codes " " ++ mark ++ codes "\n") → SaysOf steps Is il relation text result
  says_mark mark (Err e) has status bytes = tt
  says_mark mark (Ok given) (one, has, is) status bytes =
      subst (λ s. RelationSays steps Is il relation text s given.bytes.items) (sym status)
      (marked one has (bytes ∙ ap (λ m. codes "not runnable " ++ relation ++ codes " " ++ m ++ codes "\n") is))

  pub says_unbuilt : (result : Result Answer NoMemory) → HasMark il steps relation None → (HasNoOtherwise il relation → ⊥) → IfOk result (λ given. IsUnbuilt given.status given.bytes.items)
      → SaysOf steps Is il relation text result
  says_unbuilt (Err e) mark needs is = tt
  says_unbuilt (Ok given) mark needs is = subst (λ s. RelationSays steps Is il relation text s given.bytes.items) (sym is.0) (unbuilt mark needs is.1)

  pub says_refused : (D : Decls) (types : List Ty) (fault : Fault) (result : Result Answer NoMemory) → HasMark il steps relation None → HasNoOtherwise il relation
      → AreInputTypes il relation types → D ≡ decls_in il.defs → Told {A = List Value} (IsTerm D types text) (IsTermBreach D types text) (Err fault)
      → IfOk result (λ given. TellsTermFault fault given.status given.bytes.items) → SaysOf steps Is il relation text result
  says_refused D types fault (Err e) mark plain typed is told tells = tt
  says_refused D types Wanting (Ok given) mark plain typed is told tells = absurd tells
  says_refused D types (Faulty at rule) (Ok given) mark plain typed is breach tells =
      subst (λ s. RelationSays steps Is il relation text s given.bytes.items) (sym tells.0)
      (refused types (record { at = at; rule = rule }) mark plain typed (subst (λ d. IsTermBreach d types text (record { at = at; rule = rule })) is breach) tells.1)

  pub says_searched : (D : Decls) (types : List Ty) (term : Term) (result : Result Answer NoMemory) → HasMark il steps relation None → HasNoOtherwise il relation → AreInputTypes il relation types
      → D ≡ decls_in il.defs → IsTerm D types text term → AreInputs il relation term → IfOk result (λ given. Is il term given.status given.bytes.items) → SaysOf steps Is il relation text result
  says_searched D types term (Err e) mark plain typed is read inputs says = tt
  says_searched D types term (Ok given) mark plain typed is read inputs says =
      searched types term mark plain typed (subst (λ d. IsTerm d types text term) is read) inputs says

-- the fault of a term is told
pub tells_fault : (fault : Fault) (at : Span) (rule : RuleId) (result : Result Answer NoMemory) → fault ≡ Faulty at rule → IfOk result (λ given. given.status ≡ answer.Term)
    → IfOk result (λ given. given.bytes.items ≡ refused_term_text at rule) → IfOk result (λ given. TellsTermFault fault given.status given.bytes.items)
tells_fault fault at rule (Err e) is status bytes = tt
tells_fault fault at rule (Ok given) is status bytes = subst (λ f. TellsTermFault f given.status given.bytes.items) (sym is) (status, bytes)

-- ---- of files

-- what is said of a relation over files by an answer
abbrev pub GivesOf : Bool → Says → List (List ℕ) → Name → List ℕ → List (List ℕ) → Result Answer NoMemory → Type 0
GivesOf steps Is names relation text files result = IfOk result (λ given. SearchGives steps Is names relation text files given.status given.bytes.items)

module _ (steps : Bool) (Is : Says) (names : List (List ℕ)) (relation : Name) (text : List ℕ) (files : List (List ℕ)) where
  -- the files are refused
  pub are_refused : (s : Specification) (given : Answer) → Specifies names files s → s ≡ Refused given → SearchGives steps Is names relation text files given.status given.bytes.items
  are_refused s given tells is =
      let refuses : RefusesFiles names files given = subst (Specifies names files) is tells in
      subst (λ z. SearchGives steps Is names relation text files z given.bytes.items) (sym refuses.status) (unspecified refuses.refused)

  -- they are a specification
  pub are_specified : (s : Specification) (defs : List Def) (e : Elaborated) (modes : Modes) (result : Result Answer NoMemory) → Specifies names files s → s ≡ Accepted defs e modes
      → SaysOf steps Is e.il relation text result → GivesOf steps Is names relation text files result
  are_specified s defs e modes (Err none) tells is says = tt
  are_specified s defs e modes (Ok given) tells is says =
      let has : AreSpecified files defs e modes = subst (Specifies names files) is tells in
      specified defs e has.specification says

-- the language of a specification breaks no rule
pub accepted : (names files : List (List ℕ)) (s : Specification) (defs : List Def) (e : Elaborated) (modes : Modes) → Specifies names files s → s ≡ Accepted defs e modes → IsAccepted e.il modes
accepted names files s defs e modes tells is =
    let has : AreSpecified files defs e modes = subst (Specifies names files) is tells in has.sound

-- the name that was copied is the relation's
pub of_name : (asked : Asked) (names : List (List ℕ)) (copied relation : Name) (text : List ℕ) (files : List (List ℕ)) (result : Result Answer NoMemory) → copied ≡ relation
    → GivesOf (asks_steps asked) (asked_says asked copied) names copied text files result → GivesOf (asks_steps asked) (asked_says asked relation) names relation text files result
of_name asked names copied relation text files result is gives =
    subst (λ (z : Name). GivesOf (asks_steps asked) (asked_says asked z) names z text files result) is gives
