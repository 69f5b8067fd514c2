-- On a small specification the verdict on a line is the first rule that it breaks.
use Rattle.std.proofs.Common.{◌≡◌, ℕ, List, [], ◌∷◌, Some, None, ap, sym, refl, subst, ◌⊎◌, inl, inr, length, lit≤}
use Rattle.std.specs.Prelude.{All, IsSomeAnd}
use Rattle.std.proofs.lemmas.List.Elements.{All-nil, All-cons}
use Rattle.st_deriv.specs.declared.line.Line.{Line}
use Rattle.st_deriv.specs.declared.line.Line.TheVariants.{Head, From, Node, Step, End}
use Rattle.st_deriv.specs.declared.line.Ending.{Ending}
use Rattle.st_deriv.specs.declared.line.NodeLine.{NodeLine}
use Rattle.st_il.specs.declared.small.Small.{Small}
use Rattle.st_il.specs.declared.value.Value.{Value}
use Rattle.st_il.specs.Small.{il_of, IsSmall}
use Rattle.st_semantics.specs.declared.notes.Judgement.{Judgement}
use Rattle.st_semantics.specs.declared.notes.Notes.{Notes}
use Rattle.st_semantics.specs.declared.verify_rule.VerifyRule.{VerifyRule}
use Rattle.st_semantics.specs.declared.verify_rule.VerifyRule.TheVariants.{V3, V4, V5, V6, V7, V9, V10, V11}
use Rattle.st_il.specs.Names.{Name}
use Rattle.st_il.specs.Definitions.{syntaxes}
use Rattle.st_semantics.specs.Environments.{EnvOk}
use Rattle.st_semantics.specs.Goals.{AreInputs}
use Rattle.st_semantics.specs.Checks.{Answer, and_then, asks, accepts, evaluate_each}
use Rattle.st_semantics.specs.Derivation.{HasTree}
use Rattle.st_semantics.specs.Evidence.{excludes}
use Rattle.st_semantics.specs.Notes.{judgement_on}
use Rattle.st_semantics.specs.Verdict.{IsInPlace, IsNode, CanStep, Continues, rule_named, tests, tests_node, Verdict, lines_cited as lines_of_children}
use Rattle.st_semantics.specs.Walks.{Walks}
use Rattle.st_verify.specs.SmallVerdict.{Keeps, FirstBroken, FirstBreach}
use Rattle.st_verify.proofs.FirstBroken.{all_kept, passed}
use Rattle.st_verify.proofs.SmallDefinitions.{named_relation, relation_there}
use Rattle.st_verify.proofs.SmallIl.{rule_of}
use Rattle.st_verify.proofs.SmallLines.{can_step, steps_by, term_inputs, inputs_term, AreTrees, judgement_noted, continues, goes_on}
use Rattle.st_verify.proofs.SmallNodes.{Names, named_or_not, names_known, concluded, concludes, each_evaluated, values_refused, no_children, some_children, no_evidence, some_evidence}
use Rattle.st_verify.proofs.SmallValues.{env_empty, empty_env}

-- ---- one rule after another

-- a fact decides: the rest follows, or the rule is the answer
abbrev Decides : Type 0 → Type 0 → VerifyRule → Answer → Type 0
Decides P X rule broken = (P × X) ⊎ ((P → ⊥) × (broken ≡ Some rule))

asked_then : (P Q X : Type 0) (rule : VerifyRule) (T : Answer → Type 0) (broken : Answer) → (P → Q) → (Q → P) → (P → X → T broken) → Decides P X rule broken
    → and_then (asks Q rule) T broken
asked_then P Q X rule T broken to back behind (inl (p, x)) = inl (inl (to p, refl), behind p x)
asked_then P Q X rule T broken to back behind (inr (never, is)) = inr (rule, inr ((λ q. never (back q)), refl), is)

asked_last : (P Q X : Type 0) (rule : VerifyRule) (broken : Answer) → (P → Q) → (Q → P) → (X → broken ≡ None) → Decides P X rule broken → asks Q rule broken
asked_last P Q X rule broken to back behind (inl (p, x)) = inl (to p, behind x)
asked_last P Q X rule broken to back behind (inr (never, is)) = inr ((λ q. never (back q)), is)

module _ (s : Small) (small : IsSmall s) (notes : Notes) (broken : Answer) where
  -- ---- the first two lines and the last

  head_verdict : (format : ℕ) (relation : Name) → FirstBreach (il_of s) notes (Head format relation) broken → Verdict (il_of s) notes (Head format relation) broken
  head_verdict format relation first =
      let line = Head format relation in
      let K = Keeps (il_of s) notes line in
      asked_then (K V3) (IsInPlace notes line) (FirstBroken K (V5 ∷ V6 ∷ V4 ∷ V7 ∷ V9 ∷ V10 ∷ V11 ∷ []) broken) V3 (tests (il_of s) notes line) broken (λ p. p) (λ p. p)
      (λ place behind.
      asked_last (K V5) (CanStep (il_of s) relation) (FirstBroken K (V6 ∷ V4 ∷ V7 ∷ V9 ∷ V10 ∷ V11 ∷ []) broken) V5 broken
      (λ known. can_step s relation (named_relation s relation known))
      (λ can. subst (λ n. Keeps (il_of s) notes (Head format n) V5) (sym (steps_by s relation can)) (relation_there s))
      (all_kept K (V6 ∷ V4 ∷ V7 ∷ V9 ∷ V10 ∷ V11 ∷ []) broken (tt, (All-nil (IsNode notes), (tt, (tt, (tt, (tt, tt))))))) behind)
      first

  from_verdict : (values : List Value) → FirstBreach (il_of s) notes (From values) broken → Verdict (il_of s) notes (From values) broken
  from_verdict values first =
      let line = From values in
      let K = Keeps (il_of s) notes line in
      let Inputs = IsSomeAnd notes.relation (λ (relation : Name). AreInputs (il_of s) relation values) in
      asked_then (K V3) (IsInPlace notes line) (FirstBroken K (V5 ∷ V6 ∷ V4 ∷ V7 ∷ V9 ∷ V10 ∷ V11 ∷ []) broken) V3 (tests (il_of s) notes line) broken (λ p. p) (λ p. p)
      (λ place behind.
      asked_last (K V6) Inputs (FirstBroken K (V4 ∷ V7 ∷ V9 ∷ V10 ∷ V11 ∷ []) broken) V6 broken
      (term_inputs s small notes.relation values) (inputs_term s notes.relation values)
      (all_kept K (V4 ∷ V7 ∷ V9 ∷ V10 ∷ V11 ∷ []) broken (All-nil (IsNode notes), (tt, (tt, (tt, (tt, tt))))))
      (passed K V5 (V6 ∷ V4 ∷ V7 ∷ V9 ∷ V10 ∷ V11 ∷ []) broken tt behind))
      first

  end_verdict : (ending : Ending) → FirstBreach (il_of s) notes (End ending) broken → Verdict (il_of s) notes (End ending) broken
  end_verdict ending first =
      let line = End ending in
      let K = Keeps (il_of s) notes line in
      asked_then (K V3) (IsInPlace notes line) (FirstBroken K (V5 ∷ V6 ∷ V4 ∷ V7 ∷ V9 ∷ V10 ∷ V11 ∷ []) broken) V3 accepts broken (λ p. p) (λ p. p)
      (λ place. all_kept K (V5 ∷ V6 ∷ V4 ∷ V7 ∷ V9 ∷ V10 ∷ V11 ∷ []) broken (tt, (tt, (All-nil (IsNode notes), (tt, (tt, (tt, (tt, tt))))))))
      first

  -- ---- steps

  one_line : (line : ℕ) → IsNode notes line → All (IsNode notes) (line ∷ [])
  one_line line is = All-cons (IsNode notes) line [] is (All-nil (IsNode notes))

  step_verdict : (line : ℕ) → AreTrees (il_of s) notes → FirstBreach (il_of s) notes (Step line) broken → Verdict (il_of s) notes (Step line) broken
  step_verdict number trees first =
      let line = Step number in
      let K = Keeps (il_of s) notes line in
      let found = judgement_on notes number in
      let tree : (j : Judgement) → judgement_on notes number ≡ Some j → HasTree (il_of s) j.relation j.values = λ j is. trees j (judgement_noted notes number j is) in
      let Goes = IsSomeAnd found (Continues (il_of s) notes) in
      asked_then (K V3) (IsInPlace notes line) (FirstBroken K (V5 ∷ V6 ∷ V4 ∷ V7 ∷ V9 ∷ V10 ∷ V11 ∷ []) broken) V3 (tests (il_of s) notes line) broken (λ p. p) (λ p. p)
      (λ place behind.
      asked_then (K V4) (IsNode notes number) (FirstBroken K (V7 ∷ V9 ∷ V10 ∷ V11 ∷ []) broken) V4 (asks Goes V11) broken
      (λ all. all 0 0 (lit≤ tt)) (one_line number)
      (λ is later.
      asked_last (K V11) Goes (FirstBroken K [] broken) V11 broken (continues s notes found tree) (goes_on s notes found tree) (λ none. none)
      (passed K V10 (V11 ∷ []) broken tt (passed K V9 (V10 ∷ V11 ∷ []) broken tt (passed K V7 (V9 ∷ V10 ∷ V11 ∷ []) broken tt later))))
      (passed K V6 (V4 ∷ V7 ∷ V9 ∷ V10 ∷ V11 ∷ []) broken tt (passed K V5 (V6 ∷ V4 ∷ V7 ∷ V9 ∷ V10 ∷ V11 ∷ []) broken tt behind)))
      first

  -- ---- nodes

  module _ (node : NodeLine) (names : Names s node) where
    abbrev K : VerifyRule → Type 0
    K = Keeps (il_of s) notes (Node node)

    abbrev Excludes : Answer → Type 0
    Excludes = excludes (il_of s) node names.number (rule_of s.relation s.syntax names.rule)

    evidence_verdict : FirstBroken K (V10 ∷ V11 ∷ []) broken → Excludes broken
    evidence_verdict (inl (none, behind)) =
        no_evidence (il_of s) node names.number s.relation s.syntax names.rule broken (all_kept K (V11 ∷ []) broken (tt, tt) behind) none
    evidence_verdict (inr (some, is)) = some_evidence (il_of s) node names.number s.relation s.syntax names.rule broken is some

    children_verdict : FirstBroken K (V9 ∷ V10 ∷ V11 ∷ []) broken → and_then (Walks (il_of s) notes [] node.children) Excludes broken
    children_verdict (inl (none, behind)) = inl (no_children (il_of s) notes node.children none, evidence_verdict behind)
    children_verdict (inr (some, is)) = inr (V9, some_children (il_of s) notes node.children some, is)

    abbrev Rest : Answer → Type 0
    Rest = and_then (Walks (il_of s) notes [] node.children) Excludes

    abbrev Evaluates : Answer → Type 0
    Evaluates = evaluate_each (il_of s) node.env (rule_of s.relation s.syntax names.rule).conclusion node.values

    values_verdict : FirstBroken K (V7 ∷ V9 ∷ V10 ∷ V11 ∷ []) broken → and_then (asks (length node.values ≡ 2) V7) (and_then Evaluates Rest) broken
    values_verdict (inl (any, behind)) =
        let values = concluded s node small names any in
        inl (inl (ap length values, refl), inl (each_evaluated s node.env names.rule.from names.rule.to node.values values, children_verdict behind))
    values_verdict (inr (never, is)) =
        values_refused s node.env names.rule.from names.rule.to node.values Rest broken is (λ values. never (concludes s node names values))

    named_verdict : FirstBroken K (V6 ∷ V4 ∷ V7 ∷ V9 ∷ V10 ∷ V11 ∷ []) broken
        → tests_node (il_of s) notes node (Some (names.number, rule_of s.relation s.syntax names.rule)) broken
    named_verdict first =
        let values = and_then (asks (length node.values ≡ 2) V7) (and_then Evaluates Rest) in
        let lines = and_then (asks (All (IsNode notes) (lines_of_children node.children)) V4) values in
        asked_then (K V6) (EnvOk (syntaxes (il_of s)) [] node.env) (FirstBroken K (V4 ∷ V7 ∷ V9 ∷ V10 ∷ V11 ∷ []) broken) V6 lines broken
        (empty_env (syntaxes (il_of s)) node.env) (env_empty (syntaxes (il_of s)) node.env)
        (λ typed behind.
        asked_then (K V4) (All (IsNode notes) (lines_of_children node.children)) (FirstBroken K (V7 ∷ V9 ∷ V10 ∷ V11 ∷ []) broken) V4 values broken (λ p. p) (λ p. p)
        (λ all later. values_verdict later) behind)
        first

    node_named : FirstBroken K (V5 ∷ V6 ∷ V4 ∷ V7 ∷ V9 ∷ V10 ∷ V11 ∷ []) broken → tests_node (il_of s) notes node (rule_named (il_of s) node) broken
    node_named first =
        subst (λ found. tests_node (il_of s) notes node found broken) (sym names.found)
        (named_verdict (passed K V5 (V6 ∷ V4 ∷ V7 ∷ V9 ∷ V10 ∷ V11 ∷ []) broken (names_known s node names) first))

  abbrev OfNode : NodeLine → List VerifyRule → Type 0
  OfNode node rules = FirstBroken (Keeps (il_of s) notes (Node node)) rules broken

  not_known : (node : NodeLine) → (Keeps (il_of s) notes (Node node) V5 → ⊥) → OfNode node (V5 ∷ V6 ∷ V4 ∷ V7 ∷ V9 ∷ V10 ∷ V11 ∷ []) → broken ≡ Some V5
  not_known node never (inl (knows, behind)) = absurd (never knows)
  not_known node never (inr (unknown, is)) = is

  node_tested : (node : NodeLine) → Names s node ⊎ ((rule_named (il_of s) node ≡ None) × (Keeps (il_of s) notes (Node node) V5 → ⊥))
      → OfNode node (V5 ∷ V6 ∷ V4 ∷ V7 ∷ V9 ∷ V10 ∷ V11 ∷ []) → tests_node (il_of s) notes node (rule_named (il_of s) node) broken
  node_tested node (inl names) first = node_named node names first
  node_tested node (inr (none, never)) first = subst (λ found. tests_node (il_of s) notes node found broken) (sym none) (not_known node never first)

  pub node_verdict : (node : NodeLine) → FirstBreach (il_of s) notes (Node node) broken → Verdict (il_of s) notes (Node node) broken
  node_verdict node first =
      let line = Node node in
      asked_then (Keeps (il_of s) notes line V3) (IsInPlace notes line) (OfNode node (V5 ∷ V6 ∷ V4 ∷ V7 ∷ V9 ∷ V10 ∷ V11 ∷ [])) V3 (tests (il_of s) notes line) broken
      (λ p. p) (λ p. p) (λ place behind. node_tested node (named_or_not s node) behind) first

  -- ---- all lines

  pub verdict_of_breach : (line : Line) → AreTrees (il_of s) notes → FirstBreach (il_of s) notes line broken → Verdict (il_of s) notes line broken
  verdict_of_breach (Head format relation) trees first = head_verdict format relation first
  verdict_of_breach (From values) trees first = from_verdict values first
  verdict_of_breach (Node node) trees first = node_verdict node first
  verdict_of_breach (Step line) trees first = step_verdict line trees first
  verdict_of_breach (End ending) trees first = end_verdict ending first
