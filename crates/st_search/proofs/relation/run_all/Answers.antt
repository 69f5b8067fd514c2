use Rattle.st_search.proofs.NumberedFinds.{derived_numbered}
use Rattle.st_search.proofs.RunRules.{run_step, run_all}
use Rattle.st_search.proofs.relation.run_all.Goals as goal

pub loop-i-preserved : goal.loop-i-preserved
loop-i-preserved g c =
    run_step c.args.search.now.setting.index.now c.args.search.now.setting.depth (g.F.Finder.answers c.args.finder.now) c.args.relation c.args.inputs.now c.args.rules.now c.loop-i.i c.index-rules-i.result c.loop-i.longest c.in_ok-found.found.longest c.greater-longest.result c.loop-i.items
    c.in_ok-found.found.items c.in_ok-items.items c.loop-i-test.true c.index-rules-i.is c.loop-i.invariant c.in_ok-found.ensures.short c.in_ok-found.ensures.found c.in_ok-items.ensures c.greater-longest.ensures.first c.greater-longest.ensures.second c.greater-longest.ensures.one

pub returns-clause-found : goal.returns-clause-found
returns-clause-found g c =
    run_all c.args.search.now.setting.index.now c.args.search.now.setting.depth (g.F.Finder.answers c.args.finder.now) c.args.relation c.args.inputs.now c.args.rules.now c.loop-i.i c.loop-i.longest c.loop-i.items c.loop-i-test.false c.requires.rules c.loop-i.invariant
    (derived_numbered c.args.search.now.setting.index.now c.args.search.now.setting.depth c.requires.search.searchable.rules)
