-- What can be asked of a relation and searched, and what is derivable then.
use Rattle.std.proofs.Common.{◌≡◌, sym, ◌∙◌, subst, true, false, List, None}
use Rattle.st_algo.specs.declared.algorithm.Algos.{Algos}
use Rattle.st_algo.specs.Lowered.{AreLowered}
use Rattle.st_il.specs.declared.definition.Il.{Il}
use Rattle.st_il.specs.declared.definition.SyntaxDef.{SyntaxDef}
use Rattle.st_ilcheck.specs.Typed.{Typed}
use Rattle.st_order.specs.Modes.{HasFew, AreModes}
use Rattle.st_order.specs.declared.relation_modes.Modes.{Modes}
use Rattle.st_search.specs.Proper.{IsProper}
use Rattle.st_search.specs.Searchable.{IsSearchable}
use Rattle.st_semantics.specs.Breaches.{KeepModes}
use Rattle.st_il.specs.Definitions.{syntaxes}
use Rattle.st_semantics.specs.Laws.{LawOfTerms, LawOfJudgements}
use Rattle.st_semantics.specs.Marks.{HasMark}
use Rattle.st_semantics.specs.Typing.{ConclusionsAreTyped}
use Rattle.st_commands.specs.declared.searches.Question.{Question}
use Rattle.st_commands.specs.inner.Asking.{asks_steps, CanBeAsked, CanBeSearched}
use Rattle.st_runs.specs.inner.Searching.{LeadsOn, GivesTyped}
use Rattle.st_commands.proofs.AskLemmas.{is_declared, without_steps, leads_on, gives_typed, table_of}

-- what is known of languages that are typed, keep the rules on modes and are proper
abbrev LawOfLanguages : Type 0
LawOfLanguages =
    (il : Il) (modes : Modes) (algos : Algos) → Typed il → IsProper il → KeepModes il → HasFew il → AreModes il modes → AreLowered il modes algos → IsSearchable il (syntaxes il) algos

abbrev LawOfConclusions : Type 0
LawOfConclusions = (il : Il) → Typed il → IsProper il → ConclusionsAreTyped il

module _ (q : Question) (can : CanBeAsked q) (searched : CanBeSearched q) (languages : LawOfLanguages) (algos : Algos) (lowered : AreLowered q.il.now q.modes.now algos) where
  language : IsSearchable q.il.now (syntaxes q.il.now) algos
  language = languages q.il.now q.modes.now algos can.accepted.typed can.proper can.accepted.keeps can.accepted.few can.accepted.modes_are lowered

  -- the language can be searched by these algorithms, over the declared types
  pub CanBeAsked-language : (types : List SyntaxDef) → types ≡ q.decls.now.types → IsSearchable q.il.now types algos
  CanBeAsked-language types is = subst (λ ts. IsSearchable q.il.now ts algos) (sym (is ∙ table_of q.il.now q.decls.now can.decls)) language

  -- the relation has no mark in a language that is this one, whether or not it is to be run
  pub CanBeAsked-marked : (il : Il) → il ≡ q.il.now → HasMark il false q.relation.now None
  CanBeAsked-marked il is = subst (λ z. HasMark z false q.relation.now None) (sym is) (without_steps q.il.now (asks_steps q.asked) q.relation.now searched.mark)

  -- what is derivable has the types of the outputs
  pub CanBeAsked-typed : LawOfJudgements → LawOfConclusions → GivesTyped q.il.now q.relation.now
  CanBeAsked-typed law conclusions =
      gives_typed q.il.now q.relation.now law language.results (conclusions q.il.now can.accepted.typed can.proper) (is_declared q.il.now (asks_steps q.asked) q.relation.now searched.mark)

  -- where the relation is to be run, what follows a term is a term
  pub CanBeAsked-leads : LawOfTerms → LawOfConclusions → asks_steps q.asked ≡ true → LeadsOn q.il.now q.relation.now
  CanBeAsked-leads law conclusions runs =
      leads_on q.il.now q.relation.now law language.results (conclusions q.il.now can.accepted.typed can.proper) (subst (λ b. HasMark q.il.now b q.relation.now None) runs searched.mark)
