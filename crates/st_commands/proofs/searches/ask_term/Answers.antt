use Rattle.std.proofs.Common.{refl, sym, subst}
use Rattle.std.specs.Prelude.{IfOk}
use Rattle.st_il.specs.declared.definition.Il.{Il}
use Rattle.st_runs.specs.inner.Searching.{LeadsOn, GivesTyped}
use Rattle.st_search.specs.Searchable.{HasNoOtherwise}
use Rattle.st_semantics.specs.Goals.{AreInputs}
use Rattle.st_commands.specs.inner.Asking.{asked_says}
use Rattle.st_commands.proofs.CanBeAsked.{CanBeAsked-language, CanBeAsked-marked, CanBeAsked-typed, CanBeAsked-leads}
use Rattle.st_commands.proofs.searches.ask_term.Goals as goal

pub searched_language-requires : goal.searched_language-requires
searched_language-requires c =
    let q = c.args.question.now in
    CanBeAsked-language q c.requires.can c.requires.searched c.typed_languages_are_searchable.ensures.languages c.in_ok-algos.algos c.in_ok-algos.ensures _ refl

pub ask_known-requires : goal.ask_known-requires
ask_known-requires c =
    let q = c.args.question.now in
    let laws = c.typed_languages_are_searchable.ensures in
    let same = sym c.in_ok-language.ensures in
    record {
      mark = CanBeAsked-marked q c.requires.can c.requires.searched laws.languages c.in_ok-algos.algos c.in_ok-algos.ensures _ c.in_ok-language.ensures;
      plain = subst (λ il. HasNoOtherwise il q.relation.now) same c.requires.searched.plain;
      depth = c.requires.can.depth;
      typed = subst (λ il. GivesTyped il q.relation.now) same
          (CanBeAsked-typed q c.requires.can c.requires.searched laws.languages c.in_ok-algos.algos c.in_ok-algos.ensures c.meaning_of_rules.ensures.judgements laws.conclusions);
      leads = λ runs. subst (λ il. LeadsOn il q.relation.now) same
          (CanBeAsked-leads q c.requires.can c.requires.searched laws.languages c.in_ok-algos.algos c.in_ok-algos.ensures c.meaning_of_rules.ensures.terms laws.conclusions runs);
      term = subst (λ il. AreInputs il q.relation.now c.args.term) same c.requires.term;
    }

pub returns : goal.returns
returns c =
    let q = c.args.question.now in
    subst (λ (il : Il). IfOk c.ask_known.result (λ given. asked_says q.asked q.relation.now il c.args.term given.status given.bytes.items)) c.in_ok-language.ensures c.ask_known.ensures
