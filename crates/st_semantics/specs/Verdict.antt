-- What is said of a line of a derivation after the lines before it: nothing against it, or the rule
-- by which it is refused.
use Rattle.std.specs.Prelude.{◌≡◌, ℕ, ◌≤◌, false, List, [], ◌∷◌, length, flat_map, Option, Some, None, IsSome, IsSomeAnd, is_some, All, bytes_eq, if◌then◌else◌}
use Rattle.std.specs.List.{enumerate_from}
use Rattle.st_deriv.specs.declared.line.Line.{Line}
use Rattle.st_deriv.specs.declared.line.Line.TheVariants.{Head, From, Node, Step, End}
use Rattle.st_deriv.specs.declared.line.NodeLine.{NodeLine}
use Rattle.st_deriv.specs.declared.line.Ref.{Ref, fold-Ref}
use Rattle.st_deriv.specs.declared.line.Ref.TheOpen.{Ref-F}
use Rattle.st_il.specs.declared.definition.Il.{Il}
use Rattle.st_il.specs.declared.definition.RuleDef.{RuleDef}
use Rattle.st_semantics.specs.declared.verify_rule.VerifyRule.TheVariants.{V3, V4, V5, V6, V7, V11}
use Rattle.st_semantics.specs.declared.notes.Judgement.{Judgement}
use Rattle.st_semantics.specs.declared.notes.Notes.{Notes}
use Rattle.st_il.specs.Names.{Name}
use Rattle.st_il.specs.Definitions.{relation_named, rules_of, syntaxes}
use Rattle.st_semantics.specs.Directions.{inputs_of, IsStepping}
use Rattle.st_semantics.specs.Environments.{EnvOk}
use Rattle.st_semantics.specs.Goals.{AreInputs}
use Rattle.st_semantics.specs.Holding.{instances}
use Rattle.st_semantics.specs.Notes.{judgement_on}
use Rattle.st_semantics.specs.Checks.{Test, accepts, refuses, asks, and_then, evaluate_each}
use Rattle.st_semantics.specs.Walks.{Walks}
use Rattle.st_semantics.specs.Evidence.{excludes}

-- ---- V3: a line stands where one of its kind belongs, and before the end

-- The first line names format 1, the term is on the second, and all others stand behind these; an
-- end line has no line behind it.
abbrev pub IsInPlace : Notes → Line → Type 0
IsInPlace notes (Head format relation) =
    (length notes.lines ≡ 0) × (notes.ended ≡ false) × (format ≡ 1)
IsInPlace notes (From values) = (length notes.lines ≡ 1) × (notes.ended ≡ false)
IsInPlace notes (Node node) = (2 ≤ length notes.lines) × (notes.ended ≡ false)
IsInPlace notes (Step line) = (2 ≤ length notes.lines) × (notes.ended ≡ false)
IsInPlace notes (End ending) = (2 ≤ length notes.lines) × (notes.ended ≡ false)

-- ---- V5 of the first line

-- the relation is declared, directed, and its outputs have the types of its inputs
abbrev pub CanStep : Il → Name → Type 0
CanStep il relation = IsSomeAnd (relation_named il relation) (IsStepping il)

-- ---- V4: the lines that are cited are those of nodes

-- the lines in a level of children, whose parts have these lines in them
abbrev pub lines_cited_at : Ref-F (List ℕ) → List ℕ
lines_cited_at (Ref-F.Line line) = line ∷ []
lines_cited_at (Ref-F.Many children) = flat_map (λ (lines : List ℕ). lines) children

-- the lines that stand in the children of a node, in order
abbrev pub lines_cited : List Ref → List ℕ
lines_cited children = flat_map (fold-Ref (List ℕ) lines_cited_at) children

-- the line of this number is that of a node
abbrev pub IsNode : Notes → ℕ → Type 0
IsNode notes line = IsSome (judgement_on notes line)

-- ---- nodes

-- a rule with its number in its relation
abbrev pub Found : Type 0
Found = ℕ × RuleDef

-- the first of these rules that has this name
abbrev pub find_rule : Name → List Found → Option Found
find_rule name [] = None
find_rule name (r ∷ rs) = if bytes_eq name r.1.name then Some r else find_rule name rs

-- the rule that a node names, where its relation is there too
abbrev pub rule_named : Il → NodeLine → Option Found
rule_named il node =
    if is_some (relation_named il node.relation)
    then find_rule node.rule (enumerate_from 0 (rules_of il node.relation)) else None

-- V6, V4, V7, the premises in written order, V10
abbrev pub tests_node : Il → Notes → NodeLine → Option Found → Test
tests_node il notes node None = refuses V5
tests_node il notes node (Some (number, rule)) =
    and_then (asks (EnvOk (syntaxes il) rule.variables node.env) V6)
    (and_then (asks (All (IsNode notes) (lines_cited node.children)) V4)
    (and_then (asks (length node.values ≡ length rule.conclusion) V7)
    (and_then (evaluate_each il node.env rule.conclusion node.values)
    (and_then (Walks il notes (instances node.env rule.premises) node.children)
    (excludes il node number rule)))))

-- ---- steps

-- the node is of the relation of the first line, and its inputs are the current term
abbrev pub Continues : Il → Notes → Judgement → Type 0
Continues il notes j =
    (notes.relation ≡ Some j.relation) × (notes.term ≡ Some (inputs_of il j.relation j.values))

-- ---- lines

-- what is asked of a line that is in place, by its kind
abbrev pub tests : Il → Notes → Line → Test
tests il notes (Head format relation) = asks (CanStep il relation) V5
tests il notes (From values) = asks (IsSomeAnd notes.relation
    (λ (relation : Name). AreInputs il relation values)) V6
tests il notes (Node node) = tests_node il notes node (rule_named il node)
tests il notes (Step line) =
    and_then (asks (IsNode notes line) V4)
    (asks (IsSomeAnd (judgement_on notes line) (Continues il notes)) V11)
tests il notes (End ending) = accepts

-- The verdict on a line: it is in place, and then what is asked of its kind.
abbrev pub Verdict : Il → Notes → Line → Test
Verdict il notes line = and_then (asks (IsInPlace notes line) V3) (tests il notes line)
