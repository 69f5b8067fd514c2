use Rattle.std.proofs.Common.{sym, subst}
use Rattle.st_search.specs.Answers.{goal_of, AreOutputs}
use Rattle.st_runs.specs.declared.searching.Searched.TheVariants as searched
use Rattle.st_runs.specs.inner.Searching.{SearchesTo}
use Rattle.st_runs.proofs.NextLemmas.{says_outputs, says_deep}
use Rattle.st_runs.proofs.nexts.next.Goals as goal

pub returns-in-Outputs : goal.returns-in-Outputs
returns-in-Outputs c =
    let s = c.args.searching.now in
    let term = c.args.term.now in
    let has : SearchesTo s.language.now s.relation.now s.depth term (searched.Outputs c.in-Outputs.outputs) = subst (SearchesTo s.language.now s.relation.now s.depth term) c.in-Outputs.is c.in_ok-outputs.ensures in
    says_outputs s.language.now s.relation.now s.depth term c.as_slice.result.now c.listed.result c.meaning_of_rules.ensures.trees has.0
    (subst (AreOutputs s.language.now s.depth (goal_of s.relation.now term)) (sym c.as_slice.ensures) has.1) c.requires.typed c.listed.ensures.status c.listed.ensures.bytes

pub returns-in-Deep : goal.returns-in-Deep
returns-in-Deep c =
    let s = c.args.searching.now in
    let term = c.args.term.now in
    let has : SearchesTo s.language.now s.relation.now s.depth term (searched.Deep c.in-Deep.chain) = subst (SearchesTo s.language.now s.relation.now s.depth term) c.in-Deep.is c.in_ok-outputs.ensures in
    says_deep s.language.now s.relation.now s.depth term c.in-Deep.chain c.new.result.items c.deep.result c.new.ensures.items has c.deep.ensures.status c.deep.ensures.bytes
