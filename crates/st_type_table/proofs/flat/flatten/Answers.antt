use Rattle.std.proofs.Common.{◌≡◌, subst, true, false}
use Rattle.st_type_table.specs.Cases.{Flatten}
use Rattle.st_type_table.specs.inner.Flat.{TriesAlternative}
use Rattle.st_type_table.proofs.FlatLemmas.{grown}
use Rattle.st_type_table.proofs.PartLemmas.{read-at}
use Rattle.st_type_table.proofs.ReachLemmas.{stop-here, stop-nowhere}
use Rattle.st_type_table.proofs.flat.flatten.Goals as goal

pub loop-reach-init : goal.loop-reach-init
loop-reach-init c = (Flatten.none c.new-cases.ensures.none, c.new-cases.ensures.keyed)

pub try_alternative-requires-clause-known : goal.try_alternative-requires-clause-known
try_alternative-requires-clause-known c = c.requires.known c.loop-reach.reach c.index-alternatives-reach.result
    (read-at c.args.alternatives.now c.loop-reach.reach c.index-alternatives-reach.result c.loop-reach-test.true c.index-alternatives-reach.is)

pub returns-then-not-branch : goal.returns-then-not-branch
returns-then-not-branch c =
    let there = read-at c.args.alternatives.now c.loop-reach.reach c.index-alternatives-reach.result c.loop-reach-test.true c.index-alternatives-reach.is in record {
      reached = stop-here c.args.defs.now c.args.alternatives.now c.loop-reach.reach c.loop-reach.cases.items c.try_alternative.new.cases.items c.index-alternatives-reach.result
          c.loop-reach.invariant.0 c.loop-reach.invariant.1.differ c.loop-reach-test.true c.index-alternatives-reach.is there
          (subst (TriesAlternative c.args.defs.now c.loop-reach.cases.items c.try_alternative.new.cases.items c.index-alternatives-reach.result) c.if-not-branch.true c.in_ok-try_alternative.ensures.added);
      whole = λ e. let f : false ≡ true = e in cc;
      stopped = λ e. (c.index-alternatives-reach.result, there);
    }

pub loop-reach-preserved : goal.loop-reach-preserved
loop-reach-preserved c =
    let a = subst (TriesAlternative c.args.defs.now c.loop-reach.cases.items c.try_alternative.new.cases.items c.index-alternatives-reach.result) c.if-not-branch.false c.in_ok-try_alternative.ensures.added in (
      grown c.args.defs.now c.args.alternatives.now c.loop-reach.reach c.index-alternatives-reach.result c.loop-reach.cases.items a.0 c.try_alternative.new.cases.items
          c.loop-reach-test.true c.index-alternatives-reach.is c.loop-reach.invariant.0 a.1.0 a.1.1.0,
      c.in_ok-try_alternative.ensures.keyed,
    )

pub returns : goal.returns
returns c =
    let r = stop-nowhere c.args.defs.now c.args.alternatives.now c.loop-reach.reach c.loop-reach.cases.items c.loop-reach.invariant.0 c.loop-reach.invariant.1.differ c.loop-reach-test.false in record {
      reached = r.0;
      whole = λ e. (r.1, c.loop-reach.invariant.1);
      stopped = λ e. let f : true ≡ false = e in cc;
    }
