use Rattle.std.proofs.Common.{arith, ◌≡◌, [], ◌∷◌, Some, length, reverse, take, option_and_then, sym, ap, subst, ◌∙◌}
use Rattle.std.proofs.lemmas.List.{length-map}
use Rattle.st_parse_builder.specs.declared.piece.Piece.TheVariants.{Done}
use Rattle.st_parse_builder.specs.Meaning.{meaning}
use Rattle.st_parse_builder.specs.Variables.{occurrence, occurrences}
use Rattle.st_parse_builder.specs.inner.Building.{run}
use Rattle.st_parse_builder.specs.inner.Entries.{Stands, the_exp, exp_part}
use Rattle.st_parse_builder.specs.inner.HaveTrees.{HaveTrees, lone_exp, exp_built}
use Rattle.st_parse_builder.proofs.Builds.{builds, chain}
use Rattle.st_parse_builder.proofs.HaveTrees.{no_trees, exp_has, no_tree}
use Rattle.st_parse_builder.proofs.Lists.{next_taken, all_taken}
use Rattle.st_parse_builder.proofs.PartLemmas.{given}
use Rattle.st_parse_builder.proofs.Steps.{stands_first, run_at, exp_given}
use Rattle.st_parse_builder.proofs.builder.build.Goals as goal

pub actions-init : goal.actions-init
actions-init c = record {
  fits = λ s h. subst (λ v. Stands (occurrences c.args.seen.now) s v c.args.seen.now) (sym c.new-stack.ensures) (stands_first c.args.seen.now s h);
  trees = λ u h. ap Some (no_trees u (subst (λ v. HaveTrees (reverse v) u) c.new-stack.ensures h));
}

pub actions-preserved : goal.actions-preserved
actions-preserved c =
    let next = next_taken c.args.actions.now c.actions.action-index c.action-item.result c.actions-test.true c.action-item.is in
    record {
      fits = λ s h.
          run_at (take c.actions.action-index c.args.actions.now) c.action-item.result [] [] s
          (ap (λ l. run l []) (sym next) ∙ h)
          (λ v w i j k. c.in_ok-apply.ensures.fits (occurrences c.args.seen.now) v s (j ∙ k) (c.actions.invariant.fits v i));
      trees = λ u h.
          let come = c.in_ok-apply.ensures.trees u h in
          ap (λ l. run l []) next
          ∙ chain (take c.actions.action-index c.args.actions.now) (c.action-item.result ∷ []) [] come.0 (Some u)
          (c.actions.invariant.trees come.0 come.1) (ap (option_and_then (run [])) come.2);
    }

pub returns-clause-seen : goal.returns-clause-seen
returns-clause-seen c s h =
    (c.actions.invariant.fits s (ap (λ l. run l []) (all_taken c.args.actions.now c.actions.action-index (omega (arith, c.actions-test.false))) ∙ h)).1

pub returns-clause-exact : goal.returns-clause-exact
returns-clause-exact c e h =
    let stands = c.actions.invariant.fits (Done e ∷ []) (ap (λ l. run l []) (all_taken c.args.actions.now c.actions.action-index (omega (arith, c.actions-test.false))) ∙ h) in
    given _ c.only.ensures (ap the_exp stands.0 ∙ exp_given (length (occurrences c.args.seen.now)) e)
    ∙ ap (λ n. exp_part n e) (length-map c.args.seen.now occurrence)

pub returns-clause-none : goal.returns-clause-none
returns-clause-none c h =
    no_tree c.only.result.tree (exp_built c.args.actions.now)
    (λ e i. ap (option_and_then lone_exp)
    (ap (λ l. run l []) (sym (all_taken c.args.actions.now c.actions.action-index (omega (arith, c.actions-test.false))))
    ∙ c.actions.invariant.trees (Done e ∷ []) (exp_has (reverse c.actions.stack) c.only.result e _ c.only.ensures i)))
    h

pub returns-clause-tree : goal.returns-clause-tree
returns-clause-tree c σ t f e =
    let built : run c.args.actions.now [] ≡ Some (Done (meaning t) ∷ []) = ap (λ l. run l []) e ∙ builds σ t f [] in
    (returns-clause-exact c (meaning t) built, returns-clause-seen c (Done (meaning t) ∷ []) built)
