-- The laws of these definitions, as statements: each is a clause of `meaning_of_rules`. `Typed` is
-- the typing of an internal language.
use Rattle.std.specs.Prelude.{◌≡◌, ◌↔◌, ℕ, ◌≤◌, true, List, [], ◌∷◌, Option, Some, Ok, Contains}
use Rattle.st_num.specs.declared.rule.RuleId.TheVariants.{M3, M4, M6}
use Rattle.st_deriv.specs.declared.line.Line.{Line}
use Rattle.st_il.specs.declared.definition.ClauseDef.{ClauseDef}
use Rattle.st_il.specs.declared.definition.Il.{Il}
use Rattle.st_il.specs.declared.definition.RelationDef.{RelationDef}
use Rattle.st_il.specs.declared.definition.RuleDef.{RuleDef}
use Rattle.st_il.specs.declared.definition.Listed.{Listed}
use Rattle.st_il.specs.declared.definition.SyntaxDef.{SyntaxDef}
use Rattle.st_il.specs.declared.expression.IlExp.{IlExp, out-IlExp}
use Rattle.st_il.specs.declared.tree.Tree.{Tree}
use Rattle.st_il.specs.declared.ty.Ty.{Ty}
use Rattle.st_type_table.specs.Meaning.{Means}
use Rattle.st_type_table.specs.Same.{Same}
use Rattle.st_il.specs.declared.value.Env.{Env}
use Rattle.st_il.specs.declared.value.Value.{Value}
use Rattle.st_semantics.specs.declared.verify_rule.VerifyRule.{VerifyRule}
use Rattle.st_semantics.specs.declared.notes.Notes.{Notes}
use Rattle.st_semantics.specs.declared.outcome.Outcome.{Outcome}
use Rattle.st_semantics.specs.declared.outcome.Outcome.TheVariants.{Val, Deep}
use Rattle.st_il.specs.Names.{Name}
use Rattle.st_il.specs.Definitions.{syntaxes, relation_named, clauses_in, count_of_rules}
use Rattle.st_semantics.specs.Directions.{IsStepping}
use Rattle.st_semantics.specs.Goals.{AreInputs}
use Rattle.st_semantics.specs.Environments.{AgreeOn, EnvOk, IsTypedValue, AreTypedValues}
use Rattle.st_semantics.specs.Orders.{is_order}
use Rattle.st_semantics.specs.OrderOf.{order_of}
use Rattle.st_semantics.specs.Formed.{IsFormed, ResultsAreFormed, RulesAreFormed}
use Rattle.st_semantics.specs.Parts.{Operation}
use Rattle.st_semantics.specs.Forms.{HasForm, Strict}
use Rattle.st_semantics.specs.Typing.{ExpHasType, ResultsAreTyped, ConclusionsAreTyped}
use Rattle.st_semantics.specs.OperationTypes.{OperationType, KeepsTypes}
use Rattle.st_semantics.specs.Variables.{vars}
use Rattle.st_semantics.specs.ModeRules.{IsOtherwise, bound_in_clause}
use Rattle.st_semantics.specs.Breaches.{KeepModes, ClausesKeep}
use Rattle.st_semantics.specs.Kinds.{AreKinded, ClausesAreKinded, ClausesNameOccurring}
use Rattle.st_semantics.specs.Kinds.{ListsOccurring}
use Rattle.st_semantics.specs.Calls.{Chosen, TooDeep, CallAt, ValueAt, has_value}
use Rattle.st_semantics.specs.Derivation.{Root, Valid, NoneBefore, exclusion_to, excluded}
use Rattle.st_semantics.specs.Derivation.{IsValid, HasTree, Derivable}
use Rattle.st_semantics.specs.Chains.{IsValidAt}
use Rattle.st_semantics.specs.Transcript.{Term, Ending, Transcript}
use Rattle.st_semantics.specs.Verdict.{Verdict}
use Rattle.st_semantics.specs.Accepts.{ReadsTo, Accepts, AreSound}

-- ---- evaluation

-- an outcome that is not Deep is the outcome at every larger depth
abbrev pub IsStable : Il → Type 0
IsStable il =
    (n m : ℕ) → n ≤ m → (env : Env) (e : IlExp) (o : Outcome) → ValueAt il n env e o
    → (o ≡ Deep → ⊥) → ValueAt il m env e o

-- what is Deep at a depth cannot but be so at a smaller one
abbrev pub IsDeepBelow : Il → Type 0
IsDeepBelow il =
    (n m : ℕ) → n ≤ m → (env : Env) (e : IlExp) → ValueAt il m env e Deep
    → (ValueAt il n env e Deep → ⊥) → ⊥

-- a call comes to one outcome at most
abbrev pub CallsAreSingle : Il → Type 0
CallsAreSingle il =
    (n : ℕ) (fun : Name) (vs : List Value) (o p : Outcome) → CallAt il n fun vs o
    → CallAt il n fun vs p → o ≡ p

-- an expression comes to one outcome at most
abbrev pub ExpressionsAreSingle : Il → Type 0
ExpressionsAreSingle il =
    (n : ℕ) (env : Env) (e : IlExp) (o p : Outcome) → ValueAt il n env e o → ValueAt il n env e p
    → o ≡ p

-- Two environments that choose a clause agree on all that it binds, and they are one where all
-- variables that it lists occur in it.
abbrev pub ChoosesOnce : Il → Type 0
ChoosesOnce il =
    (n : ℕ) (c : ClauseDef) → Contains (clauses_in il.defs) c → (vs : List Value) (a b : Env)
    → Chosen il (CallAt il n) c vs a → Chosen il (CallAt il n) c vs b
    → AgreeOn (bound_in_clause c c.premises) a b × (ListsOccurring c → a ≡ b)

-- a clause that is chosen does not meet Deep
abbrev pub ChosenIsNotDeep : Il → Type 0
ChosenIsNotDeep il =
    (n : ℕ) (c : ClauseDef) → Contains (clauses_in il.defs) c → (vs : List Value) (env : Env)
    → Chosen il (CallAt il n) c vs env → TooDeep il (CallAt il n) c vs → ⊥

-- Where clauses keep the rules M3 and M4 and their iterated premises name only variables of their
-- kind, an outcome that is not Deep is the outcome at every larger depth.
abbrev pub LawOfDepths : Type 0
LawOfDepths =
    (il : Il) → ClausesKeep il (M3 ∷ M4 ∷ []) → ClausesAreKinded il
    → IsStable il × IsDeepBelow il

-- Where clauses keep the rules M3, M4 and M6 and their iterated premises name only variables that
-- occur inside, two environments that choose a clause agree on all that it binds, and are one where
-- all variables that it lists occur in it; a clause that is chosen does not meet Deep; and calls
-- and expressions come to one outcome at most.
abbrev pub LawOfChoice : Type 0
LawOfChoice =
    (il : Il) → ClausesKeep il (M3 ∷ M4 ∷ M6 ∷ []) → ClausesNameOccurring il
    → ChoosesOnce il × ChosenIsNotDeep il × CallsAreSingle il × ExpressionsAreSingle il

-- an outcome depends only on the values of the variables that occur in the expression
abbrev pub LawOfVariables : Type 0
LawOfVariables =
    (il : Il) (n : ℕ) (a b : Env) (e : IlExp) (o : Outcome) → AgreeOn (vars e) a b
    → ValueAt il n a e o → ValueAt il n b e o

-- Where each record and each absent part of an expression fits its type, and so in the results of
-- clauses, it is not that the expression comes to no outcome.
abbrev pub LawOfOutcomes : Type 0
LawOfOutcomes =
    (il : Il) → ResultsAreFormed il → (n : ℕ) (env : Env) (e : IlExp) → IsFormed (syntaxes il) e
    → ((o : Outcome) → ValueAt il n env e o → ⊥) → ⊥

-- In an expression that has a type each record and each absent part fits its type.
abbrev pub LawOfForms : Type 0
LawOfForms =
    (il : Il) (ls : List Listed) (e : IlExp) (t : Ty) → ExpHasType il ls e t
    → IsFormed (syntaxes il) e

-- Where the results of clauses have the declared types, the value of an expression has its type.
abbrev pub LawOfTypes : Type 0
LawOfTypes =
    (il : Il) → ResultsAreTyped il → (n : ℕ) (ls : List Listed) (env : Env) (e : IlExp) (t : Ty)
    (v : Value) → ExpHasType il ls e t → EnvOk (syntaxes il) ls env → ValueAt il n env e (Val v)
    → IsTypedValue (syntaxes il) t v

-- Where every type means something, an expression has one type, up to equality through aliases.
abbrev pub LawOfOneType : Type 0
LawOfOneType =
    (il : Il) → ((t : Ty) → (u : Ty) × Means (syntaxes il) t u) → (ls : List Listed) (e : IlExp)
    (t u : Ty) → ExpHasType il ls e t → ExpHasType il ls e u → Same (syntaxes il) t u

-- an operation keeps the types that are told of an expression of its level
abbrev pub LawOfOperations : Type 0
LawOfOperations =
    (defs : List SyntaxDef) (e : IlExp) (es : List IlExp) (f : Operation) (ts : List Ty) (t : Ty)
    → HasForm defs e (Strict es f) → OperationType defs (out-IlExp e) ts t → KeepsTypes defs f ts t

-- ---- derivation

-- Where the rules M1 to M7 are kept, what the `otherwise` of a rule says is that no valid tree has
-- an earlier rule and these inputs.
abbrev pub LawOfOtherwise : Type 0
LawOfOtherwise =
    (il : Il) → KeepModes il → (root : Root) (rule : RuleDef)
    → IsOtherwise il root.relation root.rule rule
    → excluded il root ↔ NoneBefore il (IsValid il) root

-- Where they are kept, a tree that is valid where an `otherwise` is decided at a level is valid at
-- every other level too, if no level is below the number of all rules.
abbrev pub LawOfLevels : Type 0
LawOfLevels =
    (il : Il) → KeepModes il → (n : ℕ) → count_of_rules il ≤ n → (tree : Tree)
    → Valid il (has_value il) (exclusion_to il (has_value il) n) tree ↔ IsValid il tree

-- a tree that is valid at a depth is valid
abbrev pub LawOfDepthOfTrees : Type 0
LawOfDepthOfTrees = (il : Il) (n : ℕ) (tree : Tree) → IsValidAt il n tree → IsValid il tree

-- Where the conclusions of rules have the types of their relations, and results of clauses those of
-- their functions, the values of a judgement that some valid tree has are of the relation's types.
abbrev pub LawOfJudgements : Type 0
LawOfJudgements =
    (il : Il) → ResultsAreTyped il → ConclusionsAreTyped il → (relation : Name)
    (values : List Value) → HasTree il relation values → (declared : RelationDef)
    → relation_named il relation ≡ Some declared
    → AreTypedValues (syntaxes il) declared.holes values

-- So what is derivable by a relation that is run step by step is one value for each of its inputs,
-- of its type.
abbrev pub LawOfTerms : Type 0
LawOfTerms =
    (il : Il) → ResultsAreTyped il → ConclusionsAreTyped il → (relation : Name)
    (declared : RelationDef) → relation_named il relation ≡ Some declared → IsStepping il declared
    → (term next : Term) → Derivable il relation term next → AreInputs il relation next

-- ---- runs and verdicts

-- a run has one transcript at most
abbrev pub LawOfTranscripts : Type 0
LawOfTranscripts =
    (il : Il) (relation : Name) (fuel : ℕ) (term : Term) (terms others : List Term)
    (ending other : Ending)
    → Transcript il relation fuel term terms ending → Transcript il relation fuel term others other
    → (terms ≡ others) × (ending ≡ other)

-- Where records and absent parts in rules and in the results of clauses fit their types, it is not
-- that a line has no verdict.
abbrev pub LawOfSomeVerdict : Type 0
LawOfSomeVerdict =
    (il : Il) → ResultsAreFormed il → RulesAreFormed il → (notes : Notes) (line : Line)
    → ((answer : Option VerifyRule) → Verdict il notes line answer → ⊥) → ⊥

-- Where calls come to one outcome at most, a line has one verdict at most.
abbrev pub LawOfVerdicts : Type 0
LawOfVerdicts =
    (il : Il) → CallsAreSingle il → (notes : Notes) (line : Line) (a b : Option VerifyRule)
    → Verdict il notes line a → Verdict il notes line b → a ≡ b

-- Lines that are taken vouch for their nodes and steps, where the rules M1 to M7 are kept and
-- iterated premises name only variables of their kind.
abbrev pub LawOfReading : Type 0
LawOfReading =
    (il : Il) → KeepModes il → AreKinded il → (lines : List Line) (notes : Notes)
    → ReadsTo il lines notes → AreSound il lines

-- Accepted lines vouch for their nodes and steps.
abbrev pub LawOfAcceptance : (Il → Type 0) → Type 0
LawOfAcceptance Typed =
    (il : Il) → AreKinded il → (lines : List Line) → Accepts Typed il lines → AreSound il lines

-- ---- orders

-- The order that a rule is run in is an executable one, and there is one wherever there is an
-- executable order.
abbrev pub LawOfOrders : Type 0
LawOfOrders =
    (il : Il) (rule : RuleDef)
    → ((order : List ℕ) → order_of il rule ≡ Ok order → is_order il rule order ≡ true)
    × ((order : List ℕ) → is_order il rule order ≡ true
    → (chosen : List ℕ) × (order_of il rule ≡ Ok chosen))
