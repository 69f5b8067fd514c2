-- What the code asks of a line, one rule after another: what the rules of derivations come to on a
-- small specification.
use Rattle.std.specs.Prelude.{◌≡◌, ◌⊎◌, ℕ, List, [], ◌∷◌, Option, Some, None, IsSomeAnd, slice_get, take, All, Any}
use Rattle.st_deriv.specs.declared.line.Line.{Line}
use Rattle.st_deriv.specs.declared.line.Line.TheVariants.{Head, From, Node, Step}
use Rattle.st_deriv.specs.declared.line.NodeLine.{NodeLine}
use Rattle.st_deriv.specs.declared.line.Ref.{Ref, fold-Ref}
use Rattle.st_il.specs.declared.definition.Alternative.{Alternative}
use Rattle.st_il.specs.declared.definition.Alternative.TheVariants as alternative
use Rattle.st_il.specs.declared.definition.Il.{Il}
use Rattle.st_il.specs.declared.definition.IlDef.{IlDef}
use Rattle.st_il.specs.declared.definition.IlDef.TheVariants.{Syntax, Relation, Rule}
use Rattle.st_il.specs.declared.definition.SyntaxBody.{SyntaxBody}
use Rattle.st_il.specs.declared.definition.SyntaxBody.TheVariants.{Variant}
use Rattle.st_il.specs.declared.ty.Ty.{Ty}
use Rattle.st_il.specs.declared.ty.Ty.TheVariants as ty
use Rattle.st_il.specs.declared.value.Value.{Value}
use Rattle.st_il.specs.declared.value.Value.TheVariants as value
use Rattle.st_semantics.specs.declared.verify_rule.VerifyRule.{VerifyRule}
use Rattle.st_semantics.specs.declared.verify_rule.VerifyRule.TheVariants.{V3, V4, V5, V6, V7, V9, V10, V11}
use Rattle.st_semantics.specs.declared.notes.Judgement.{Judgement}
use Rattle.st_semantics.specs.declared.notes.Notes.{Notes}
use Rattle.st_semantics.specs.Notes.{judgement_on}
use Rattle.st_semantics.specs.Verdict.{IsInPlace, IsNode, lines_cited_at, lines_cited as lines_of_children}
use Rattle.st_verify.specs.SmallValues.{AreCaseValues}

-- a definition is the relation of that name
abbrev pub IsRelationNamed : List ℕ → IlDef → Type 0
IsRelationNamed name (Relation relation) = relation.name ≡ name
IsRelationNamed name _ = ⊥

-- a definition is the rule of that name of a relation
abbrev pub IsRuleNamed : List ℕ → List ℕ → IlDef → Type 0
IsRuleNamed relation name (Rule rule) = (rule.relation ≡ relation) × (rule.name ≡ name)
IsRuleNamed relation name _ = ⊥

-- the relation and the rule that a line names are there
abbrev pub IsKnown : Il → Line → Type 0
IsKnown il (Head format relation) = Any (IsRelationNamed relation) il.defs
IsKnown il (Node node) =
    Any (IsRelationNamed node.relation) il.defs × Any (IsRuleNamed node.relation node.rule) il.defs
IsKnown il _ = Unit {0}

-- an alternative is the case of that tag without operands
abbrev pub IsCase : List ℕ → Alternative → Type 0
IsCase tag one = one ≡ alternative.Case tag []

-- a syntax's body has the case of that tag without operands
abbrev pub BodyHasCase : List ℕ → SyntaxBody → Type 0
BodyHasCase tag (Variant alternatives) = Any (IsCase tag) alternatives
BodyHasCase tag _ = ⊥

-- a definition is a syntax of that name, with that case
abbrev pub HasCase : List ℕ → List ℕ → IlDef → Type 0
HasCase name tag (Syntax syntax) = (syntax.name ≡ name) × BodyHasCase tag syntax.body
HasCase name tag _ = ⊥

-- a value is of a type: so far, a case without operands of the syntax of that name
abbrev pub IsTyped : Il → Ty → Value → Type 0
IsTyped il type val =
    (name tag : List ℕ) × (type ≡ ty.Name name) × (val ≡ value.Case tag [])
    × Any (HasCase name tag) il.defs

-- a definition is the relation of that name, and the value is of the type of its input:
-- so far, of its first hole
abbrev pub TakesInput : Il → List ℕ → Value → IlDef → Type 0
TakesInput il name val (Relation relation) =
    (relation.name ≡ name) × IsSomeAnd (slice_get relation.holes 0) (λ hole. IsTyped il hole val)
TakesInput il name val _ = ⊥

-- the values are one for each input of the relation, of its type: so far, one
abbrev pub IsTerm : Il → Option (List ℕ) → List Value → Type 0
IsTerm il (Some name) (val ∷ []) = Any (TakesInput il name val) il.defs
IsTerm il relation values = ⊥

-- the values that a line gives to inputs or variables are typed: so far, no rule has a variable
abbrev pub HasTypedValues : Il → Notes → Line → Type 0
HasTypedValues il notes (From values) = IsTerm il notes.relation values
HasTypedValues il notes (Node node) = node.env.entries ≡ []
HasTypedValues il notes _ = Unit {0}

-- the lines that a child of a node refers to
abbrev pub child_lines : Ref → List ℕ
child_lines = fold-Ref (List ℕ) lines_cited_at

-- the lines that a line refers to
abbrev pub lines_cited : Line → List ℕ
lines_cited (Step line) = line ∷ []
lines_cited (Node node) = lines_of_children node.children
lines_cited _ = []

-- the conclusion of a rule of that name has the values that the node states
abbrev pub Concludes : NodeLine → IlDef → Type 0
Concludes node (Rule rule) =
    IsRuleNamed node.relation node.rule (Rule rule)
    × AreCaseValues rule.conclusion node.values
Concludes node _ = ⊥

-- a node states the values of the conclusion of its rule
abbrev pub HasItsValues : Il → Line → Type 0
HasItsValues il (Node node) = Any (Concludes node) il.defs
HasItsValues il _ = Unit {0}

-- a node has a child for each premise that cites a relation: so far, no rule has a premise
abbrev pub HasItsChildren : Line → Type 0
HasItsChildren (Node node) = node.children ≡ []
HasItsChildren _ = Unit {0}

-- a node has evidence where its rule has an `otherwise`: so far, no rule has one
abbrev pub HasItsEvidence : Line → Type 0
HasItsEvidence (Node node) = node.evidence ≡ None
HasItsEvidence _ = Unit {0}

-- the values of the first hole, if any
abbrev pub small_inputs : List Value → List Value
small_inputs values = take 1 values

-- a step's node is of the relation of the first line, and its inputs are the current term
abbrev pub GoesOn : Notes → Line → Type 0
GoesOn notes (Step line) =
    IsSomeAnd (judgement_on notes line)
    (λ (judgement : Judgement). (notes.relation ≡ Some judgement.relation)
    × (notes.term ≡ Some (small_inputs judgement.values)))
GoesOn notes _ = Unit {0}

-- a line keeps a rule
abbrev pub Keeps : Il → Notes → Line → VerifyRule → Type 0
Keeps il notes line V3 = IsInPlace notes line
Keeps il notes line V5 = IsKnown il line
Keeps il notes line V6 = HasTypedValues il notes line
Keeps il notes line V4 = All (IsNode notes) (lines_cited line)
Keeps il notes line V7 = HasItsValues il line
Keeps il notes line V9 = HasItsChildren line
Keeps il notes line V10 = HasItsEvidence line
Keeps il notes line V11 = GoesOn notes line
Keeps il notes line _ = Unit {0}

-- the first of the rules that is not kept, if any is not
abbrev pub FirstBroken : (VerifyRule → Type 0) → List VerifyRule → Option VerifyRule → Type 0
FirstBroken K [] broken = broken ≡ None
FirstBroken K (rule ∷ rules) broken =
    (K rule × FirstBroken K rules broken) ⊎ ((¬ K rule) × (broken ≡ Some rule))

-- the rules on a line, in the order in which they are asked
abbrev pub rules_on_lines : List VerifyRule
rules_on_lines = V3 ∷ V5 ∷ V6 ∷ V4 ∷ V7 ∷ V9 ∷ V10 ∷ V11 ∷ []

-- the first rule that a line breaks, if any
abbrev pub FirstBreach : Il → Notes → Line → Option VerifyRule → Type 0
FirstBreach il notes line broken = FirstBroken (Keeps il notes line) rules_on_lines broken
