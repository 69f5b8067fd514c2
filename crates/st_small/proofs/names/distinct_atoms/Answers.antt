use Rattle.st_small.proofs.NameSets.{names_more}
use Rattle.st_small.proofs.names.distinct_atoms.Goals as goal

pub loop-atom-preserved : goal.loop-atom-preserved
loop-atom-preserved c =
    let more = names_more c.args.atoms.now c.loop-atom.atom-index c.atom-item.result _ _ _ c.loop-atom-test.true c.atom-item.is
    c.loop-atom.invariant.kept c.loop-atom.invariant.distinct c.in_ok-add_name.ensures c.if-not-branch.false in
    record { kept = more.0; distinct = more.1 }
