use Rattle.std.proofs.Common.{arith, ◌≡◌, [], ◌∷◌, Some, take, reverse, option_and_then, sym, ap, subst, ◌∙◌}
use Rattle.st_parse_builder.specs.inner.NotationBuilding.{run}
use Rattle.st_parse_builder.specs.inner.NotationEntries.{entries}
use Rattle.st_parse_builder.specs.inner.HaveTrees.{HaveTrees}
use Rattle.st_parse_builder.proofs.HaveTrees.{no_trees}
use Rattle.st_parse_builder.proofs.Lists.{next_taken, all_taken}
use Rattle.st_parse_builder.proofs.NotationBuilds.{chain}
use Rattle.st_parse_builder.proofs.Steps.{notations_first, notation_run_at}
use Rattle.st_parse_builder.proofs.notation_builder.apply_all.Goals as goal

pub actions-init : goal.actions-init
actions-init c = record {
  fits = λ s h. subst (λ v. reverse v ≡ entries s) (sym c.new-stack.ensures) (notations_first s h);
  trees = λ u h. ap Some (no_trees u (subst (λ v. HaveTrees (reverse v) u) c.new-stack.ensures h));
}

pub actions-preserved : goal.actions-preserved
actions-preserved c =
    let next = next_taken c.args.actions.now c.actions.action-index c.action-item.result c.actions-test.true c.action-item.is in
    record {
      fits = λ s h.
          notation_run_at (take c.actions.action-index c.args.actions.now) c.action-item.result [] [] s
          (ap (λ l. run l []) (sym next) ∙ h)
          (λ v w i j k. c.in_ok-apply.ensures.fits v s (j ∙ k) (c.actions.invariant.fits v i));
      trees = λ u h.
          let come = c.in_ok-apply.ensures.trees u h in
          ap (λ l. run l []) next
          ∙ chain (take c.actions.action-index c.args.actions.now) (c.action-item.result ∷ []) [] come.0 (Some u)
          (c.actions.invariant.trees come.0 come.1) (ap (option_and_then (run [])) come.2);
    }

pub returns-clause-fits : goal.returns-clause-fits
returns-clause-fits c s h =
    c.actions.invariant.fits s (ap (λ l. run l []) (all_taken c.args.actions.now c.actions.action-index (omega (arith, c.actions-test.false))) ∙ h)

pub returns-clause-trees : goal.returns-clause-trees
returns-clause-trees c u h =
    ap (λ l. run l []) (sym (all_taken c.args.actions.now c.actions.action-index (omega (arith, c.actions-test.false))))
    ∙ c.actions.invariant.trees u h
