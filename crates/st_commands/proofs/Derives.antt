-- What a small specification derives is what its rules give.
use Rattle.std.proofs.Common.{◌≡◌, ℕ, List, [], Option, Some, None, ap, ◌∙◌, sym, refl, subst, ⊎_elim, length, ◌<◌}
use Rattle.std.specs.Prelude.{slice_get, MatchOption}
use Rattle.std.specs.Option.{option_copied}
use Rattle.std.specs.Ordering.{is_gt}
use Rattle.st_il.specs.Order.{values_cmp}
use denote.Ref.{Bor}
use Rattle.std.proofs.lemmas.Option.{slice_get_cases}
use Rattle.st_il.specs.declared.small.Small.{Small}
use Rattle.st_il.specs.declared.small.SmallRule.{SmallRule}
use Rattle.st_il.specs.declared.value.Value.TheVariants.{Case as CaseOf}
use Rattle.st_il.specs.Small.{il_of}
use Rattle.st_semantics.specs.Derivation.{Derivable}
use Rattle.st_semantics.specs.Transcript.{Term}
use Rattle.st_commands.specs.Derivation.{IsNodeOf, IsStepTree}
use Rattle.st_commands.specs.inner.Nodes.{rule_node}
use Rattle.st_runs.specs.inner.Reaches.{IsStuck}
use Rattle.st_commands.specs.inner.Step.{Gives, IsLeastOf, IsAtMost, IsNextRule}
use Rattle.st_runs.specs.Transcript.{atom_term}
use Rattle.st_commands.proofs.Atoms.{atom_name, values_cmp-atoms}
use Rattle.st_verify.proofs.SmallIl.{rule_of, is_relation}
use Rattle.st_verify.proofs.SmallTrees.{tree_of_rule, is_rule_at, rule_is_valid, inputs-small, outputs-small, derivable_step, step_derivable}

-- the tree of a rule takes its step
pub step_tree : (s : Small) (k : ℕ) (rule : SmallRule) → slice_get s.rules k ≡ Some rule
    → IsStepTree (il_of s) s.relation (atom_term rule.from) (atom_term rule.to) (tree_of_rule k rule)
step_tree s k rule at = record {
  valid = rule_is_valid s k rule at;
  relation_is = is_relation s;
  inputs_are = inputs-small s (CaseOf rule.from []) (CaseOf rule.to []);
  outputs_are = outputs-small s (CaseOf rule.from []) (CaseOf rule.to []);
}

-- its node
pub node_of_rule : (s : Small) (k : ℕ) (rule : SmallRule) → slice_get s.rules k ≡ Some rule → IsNodeOf (il_of s) (tree_of_rule k rule) (rule_node s.relation rule)
node_of_rule s k rule at = record {
  relation = is_relation s;
  rule = rule_of s.relation s.syntax rule;
  is_rule = is_rule_at s k rule at;
  rule_is = refl;
  env = refl;
  values = refl;
  no_child = refl;
  no_reference = refl;
  no_evidence = refl;
}

pub gives_derivable : (s : Small) (from to : List ℕ) → Gives s.rules from to → Derivable (il_of s) s.relation (atom_term from) (atom_term to)
gives_derivable s from to (k, rule, at, f, t) =
    step_derivable s (atom_term from) (atom_term to) (record { number = k; rule = rule; is_rule = at; term_is = ap atom_term (sym f); next_is = ap atom_term (sym t) })

pub derivable_gives : (s : Small) (from : List ℕ) (next : Term) → Derivable (il_of s) s.relation (atom_term from) next → (to : List ℕ) × (next ≡ atom_term to) × Gives s.rules from to
derivable_gives s from next derivable =
    let step = derivable_step s (atom_term from) next derivable in
    let head : CaseOf from [] ≡ CaseOf step.rule.from [] = let all = step.term_is in cc in
    (step.rule.to, step.next_is, (step.number, step.rule, step.is_rule, sym (atom_name from step.rule.from head), refl))

slice_get-lt : (xs : List SmallRule) (k : ℕ) (x : SmallRule) → slice_get xs k ≡ Some x → k < length xs
slice_get-lt xs k x e = ⊎_elim (λ p. p.1) (λ p. cc) (slice_get_cases xs k).1

-- what the least of the rules says of the relation
none_is_stuck : (s : Small) (from : List ℕ) → IsLeastOf s.rules from (length s.rules) None → IsStuck (il_of s) s.relation (atom_term from)
none_is_stuck s from least (next, derivable) =
    let (to, is, gives) = derivable_gives s from next derivable in
    least.none refl gives.0 gives.1 (slice_get-lt s.rules gives.0 gives.1 gives.2) gives.2 gives.3

least_is_next : (s : Small) (from : List ℕ) (rule : SmallRule) → IsLeastOf s.rules from (length s.rules) (Some rule) → IsNextRule s from rule
least_is_next s from rule least =
    let here = least.some rule refl in
    record {
      number = here.0;
      is_rule = here.1;
      goes = here.2;
      next = record {
        derivable = gives_derivable s from rule.to (here.0, rule, here.1, here.2, refl);
        least = λ next derivable.
            let (other, is, gives) = derivable_gives s from next derivable in
            let at_most = subst (λ x. IsAtMost rule.to x) gives.4 (least.least rule refl gives.0 gives.1 (slice_get-lt s.rules gives.0 gives.1 gives.2) gives.2 gives.3) in
            ap is_gt (ap (λ n. values_cmp (atom_term rule.to) n) is ∙ values_cmp-atoms rule.to other) ∙ at_most;
      };
    }

-- what the least of the rules answers, said of the relation
pub least_says : (s : Small) (rules : List SmallRule) (from : List ℕ) (best : Option (Bor SmallRule)) → rules ≡ s.rules
    → IsLeastOf rules from (length rules) (option_copied best)
    → MatchOption best (IsStuck (il_of s) s.relation (atom_term from)) (λ rule. IsNextRule s from rule.now)
least_says s rules from None e least = none_is_stuck s from (subst (λ rs. IsLeastOf rs from (length rs) None) e least)
least_says s rules from (Some rule) e least = least_is_next s from rule.now (subst (λ rs. IsLeastOf rs from (length rs) (Some rule.now)) e least)
