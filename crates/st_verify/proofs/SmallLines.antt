-- What the code asks of the first two lines and of steps, and what it notes, on a small specification.
use Rattle.std.proofs.Common.{◌+◌, ◌≡◌, ℕ, zero, suc, ◌<◌, ◌≤◌, List, [], ◌∷◌, ◌++◌, Option, Some, None, Bool, true, false, ap, ◌∙◌, sym, refl, subst, arith, ◌⊎◌, inl, inr, ⊎_elim, length, get_or}
use Rattle.std.specs.Prelude.{slice_get, bytes_eq, Any, Contains, IsSomeAnd}
use Rattle.std.specs.Option.{option_map}
use Rattle.std.specs.Cmp.Lexicographic.{same_text}
use Rattle.std.proofs.lemmas.Option.{slice_get_cases, get_or_from_slice_get, option_and_then_some}
use Rattle.st_deriv.specs.declared.line.Line.{Line}
use Rattle.st_deriv.specs.declared.line.Line.TheVariants.{Head, From, Node, Step, End}
use Rattle.st_il.specs.declared.definition.Il.{Il}
use Rattle.st_il.specs.declared.definition.RelationDef.{RelationDef}
use Rattle.st_il.specs.declared.small.Small.{Small}
use Rattle.st_il.specs.declared.ty.Ty.{Ty}
use Rattle.st_il.specs.declared.ty.Ty.TheVariants as ty
use Rattle.st_il.specs.declared.value.Value.{Value}
use Rattle.st_il.specs.declared.value.Value.TheVariants as value
use Rattle.st_il.specs.Small.{il_of, relation_def, syntax_def, rule_def, IsSmall}
use Rattle.st_type_table.specs.Meaning.{itself as means}
use Rattle.st_type_table.specs.Same.{SameAll, equal, none, more}
use Rattle.st_semantics.specs.declared.notes.Judgement.{Judgement}
use Rattle.st_semantics.specs.declared.notes.Notes.{Notes}
use Rattle.st_il.specs.Names.{Name}
use Rattle.st_il.specs.Definitions.{relation_named, syntaxes}
use Rattle.st_semantics.specs.Directions.{inputs_of, outputs_of, inputs_by, IsStepping}
use Rattle.st_semantics.specs.Environments.{AreTypedValues}
use Rattle.st_semantics.specs.Goals.{AreInputs}
use Rattle.st_semantics.specs.Derivation.{HasTree}
use Rattle.st_semantics.specs.Notes.{judgement_on, noted}
use Rattle.st_semantics.specs.Verdict.{CanStep, Continues}
use Rattle.st_verify.specs.SmallNotes.{small_noted, small_outputs}
use Rattle.st_verify.specs.SmallVerdict.{small_inputs, IsTyped, TakesInput, IsTerm}
use Rattle.st_verify.proofs.SmallDefinitions.{RuleWith, any_def, case_known, known_case}
use Rattle.st_verify.proofs.SmallIl.{arrow, relation_of, syntax_of, relation-named, relation-here, mask-small, syntaxes-small}
use Rattle.st_verify.proofs.SmallTrees.{has_tree_rule, inputs-small, outputs-small}
use Rattle.st_verify.proofs.SmallTypes.{no_alias, typed_atom, is_typed_atom}

-- ---- the relation can be run step by step

same_syntax : (s : Small) → SameAll (syntax_of s ∷ []) (ty.Name s.syntax ∷ []) (ty.Name s.syntax ∷ [])
same_syntax s =
    let itself_means = means (no_alias s.syntax s.atoms) refl in
    more (equal (ty.Name s.syntax) itself_means itself_means) none

steps : (s : Small) → IsStepping (il_of s) (relation_of s)
steps s = (true ∷ false ∷ [], arrow, subst (λ defs. SameAll defs (ty.Name s.syntax ∷ []) (ty.Name s.syntax ∷ [])) (sym (syntaxes-small s)) (same_syntax s))

pub can_step : (s : Small) (name : Name) → name ≡ s.relation → CanStep (il_of s) name
can_step s name is =
    subst (λ n. CanStep (il_of s) n) (sym is) (subst (λ found. IsSomeAnd found (IsStepping (il_of s))) (sym (relation-here s)) (steps s))

-- a relation of which something holds is that of the specification
is_found : (s : Small) (name : Name) (P : RelationDef → Type 0) (b : Bool) → bytes_eq name s.relation ≡ b → IsSomeAnd (relation_named (il_of s) name) P → name ≡ s.relation
is_found s name P true same found = same_text name s.relation (sym same)
is_found s name P false same found = absurd (subst (λ r. IsSomeAnd r P) (relation-named s name false same) found)

pub steps_by : (s : Small) (name : Name) → CanStep (il_of s) name → name ≡ s.relation
steps_by s name can = is_found s name (IsStepping (il_of s)) (bytes_eq name s.relation) refl can

-- ---- the term of the second line

abbrev TakesValues : Small → List Value → RelationDef → Type 0
TakesValues s values r = AreTypedValues (syntaxes (il_of s)) (inputs_of (il_of s) s.relation r.holes) values

inputs_of_relation : (s : Small) → inputs_of (il_of s) s.relation (relation_of s).holes ≡ ty.Name s.syntax ∷ []
inputs_of_relation s = ap (λ inputs. inputs_by inputs (relation_of s).holes) (mask-small s)

are_inputs : (s : Small) (values : List Value) → AreTypedValues (syntax_of s ∷ []) (ty.Name s.syntax ∷ []) values → AreInputs (il_of s) s.relation values
are_inputs s values typed =
    subst (λ found. IsSomeAnd found (TakesValues s values)) (sym (relation-here s))
    (subst (λ types. AreTypedValues (syntaxes (il_of s)) types values) (sym (inputs_of_relation s))
    (subst (λ defs. AreTypedValues defs (ty.Name s.syntax ∷ []) values) (sym (syntaxes-small s)) typed))

inputs_are : (s : Small) (values : List Value) → AreInputs (il_of s) s.relation values → AreTypedValues (syntax_of s ∷ []) (ty.Name s.syntax ∷ []) values
inputs_are s values are =
    subst (λ defs. AreTypedValues defs (ty.Name s.syntax ∷ []) values) (syntaxes-small s)
    (subst (λ types. AreTypedValues (syntaxes (il_of s)) types values) (inputs_of_relation s)
    (subst (λ found. IsSomeAnd found (TakesValues s values)) (relation-here s) are))

pub atom_inputs : (s : Small) (atom : List ℕ) → IsSmall s → Contains s.atoms atom → AreInputs (il_of s) s.relation (value.Case atom [] ∷ [])
atom_inputs s atom small known = are_inputs s (value.Case atom [] ∷ []) (is_typed_atom s.syntax s.atoms atom small.atoms known, tt)

abbrev IsAtomInput : Small → List ℕ → Value → Type 0
IsAtomInput s name v = (name ≡ s.relation) × (tag : List ℕ) × (v ≡ value.Case tag []) × Contains s.atoms tag

of_hole : (s : Small) (name : List ℕ) (v : Value) (hole : Ty) → name ≡ s.relation → IsTyped (il_of s) hole v → IsAtomInput s name v
of_hole s name v hole named (syntax, tag, hole_is, is, known) = (named, tag, is, case_known s syntax tag known)

takes : (s : Small) (name : List ℕ) (v : Value) → Any (TakesInput (il_of s) name v) (il_of s).defs → IsAtomInput s name v
takes s name v any = of_one (any_def s (TakesInput (il_of s) name v) any)
  where
    of_one : TakesInput (il_of s) name v (syntax_def s.syntax s.atoms) ⊎ TakesInput (il_of s) name v (relation_def s.relation s.syntax)
        ⊎ RuleWith s.rules (λ rule. TakesInput (il_of s) name v (rule_def s.relation s.syntax rule)) → IsAtomInput s name v
    of_one (inl never) = absurd never
    of_one (inr (inl is)) = of_hole s name v (ty.Name s.syntax) (sym is.0) is.1
    of_one (inr (inr never)) = absurd never.3

pub term_inputs : (s : Small) → IsSmall s → (relation : Option Name) (values : List Value) → IsTerm (il_of s) relation values
    → IsSomeAnd relation (λ (r : Name). AreInputs (il_of s) r values)
term_inputs s small None values never = absurd never
term_inputs s small (Some name) [] never = absurd never
term_inputs s small (Some name) (v ∷ w ∷ values) never = absurd never
term_inputs s small (Some name) (v ∷ []) any =
    let (named, tag, is, known) = takes s name v any in
    subst (λ n. AreInputs (il_of s) n (v ∷ [])) (sym named)
    (subst (λ one. AreInputs (il_of s) s.relation (one ∷ [])) (sym is) (atom_inputs s tag small known))

term_of : (s : Small) (name : Name) (values : List Value) → name ≡ s.relation → AreTypedValues (syntax_of s ∷ []) (ty.Name s.syntax ∷ []) values → IsTerm (il_of s) (Some name) values
term_of s name [] named never = absurd never
term_of s name (v ∷ w ∷ values) named never = absurd never.1
term_of s name (v ∷ []) named typed =
    let (tag, is, known) = typed_atom s.syntax s.atoms v typed.0.form in
    (1, relation_def s.relation s.syntax, omega arith, refl, (sym named, (s.syntax, tag, refl, is, known_case s tag known)))

pub inputs_term : (s : Small) (relation : Option Name) (values : List Value) → IsSomeAnd relation (λ (r : Name). AreInputs (il_of s) r values) → IsTerm (il_of s) relation values
inputs_term s None values never = absurd never
inputs_term s (Some name) values are =
    let named = is_found s name (λ (r : RelationDef). AreTypedValues (syntaxes (il_of s)) (inputs_of (il_of s) name r.holes) values) (bytes_eq name s.relation) refl are in
    term_of s name values named (inputs_are s values (subst (λ n. AreInputs (il_of s) n values) named are))

-- ---- what is noted

-- each judgement that is noted has a valid tree
abbrev pub AreTrees : Il → Notes → Type 0
AreTrees il notes = (judgement : Judgement) → Contains notes.lines (Some judgement) → HasTree il judgement.relation judgement.values

-- the judgement of a node is noted
pub judgement_noted : (notes : Notes) (line : ℕ) (judgement : Judgement) → judgement_on notes line ≡ Some judgement → Contains notes.lines (Some judgement)
judgement_noted notes zero judgement is = cc
judgement_noted notes (suc before) judgement is =
    option_and_then_some (λ noted. noted) (slice_get notes.lines before) judgement is
    (λ noted here same. found notes.lines before (Some judgement) (here ∙ ap Some same) (slice_get_cases notes.lines before).1)
  where
    found : {X : Type 0} (xs : List X) (k : ℕ) (x : X) → slice_get xs k ≡ Some x
        → ((y : X) × (k < length xs) × (slice_get xs k ≡ Some y) × (get_or xs k y ≡ y)) ⊎ ((length xs ≤ k) × (slice_get xs k ≡ None)) → Contains xs x
    found xs k x here cases = (k, ⊎_elim (λ inside. inside.1) (λ past. cc) cases, get_or_from_slice_get xs k x x here)

-- the inputs of a judgement with a tree are its first value, and the outputs are the second
pub inputs_same : (s : Small) (name : Name) (values : List Value) → HasTree (il_of s) name values → inputs_of (il_of s) name values ≡ small_inputs values
inputs_same s name values has =
    let t = has_tree_rule s name values has in
    let first = value.Case t.rule.from [] in
    let second = value.Case t.rule.to [] in
    ap (λ n. inputs_of (il_of s) n values) t.relation_is ∙ ap (inputs_of (il_of s) s.relation) t.values_are ∙ inputs-small s first second ∙ sym (ap small_inputs t.values_are)

pub outputs_same : (s : Small) (name : Name) (values : List Value) → HasTree (il_of s) name values → outputs_of (il_of s) name values ≡ small_outputs values
outputs_same s name values has =
    let t = has_tree_rule s name values has in
    let first = value.Case t.rule.from [] in
    let second = value.Case t.rule.to [] in
    ap (λ n. outputs_of (il_of s) n values) t.relation_is ∙ ap (outputs_of (il_of s) s.relation) t.values_are ∙ outputs-small s first second ∙ sym (ap small_outputs t.values_are)

abbrev OutputsOf : Il → Option Judgement → Option (List Value)
OutputsOf il found = option_map (λ (j : Judgement). outputs_of il j.relation j.values) found

abbrev SmallOutputs : Option Judgement → Option (List Value)
SmallOutputs found = option_map (λ (j : Judgement). small_outputs j.values) found

term_same : (s : Small) (found : Option Judgement) → ((j : Judgement) → found ≡ Some j → HasTree (il_of s) j.relation j.values) → OutputsOf (il_of s) found ≡ SmallOutputs found
term_same s None tree = refl
term_same s (Some j) tree = ap Some (outputs_same s j.relation j.values (tree j refl))

-- the code notes what is noted
pub noted_same : (s : Small) (notes : Notes) (line : Line) → AreTrees (il_of s) notes → small_noted notes line ≡ noted (il_of s) notes line
noted_same s notes (Head format relation) trees = refl
noted_same s notes (From values) trees = refl
noted_same s notes (Node node) trees = refl
noted_same s notes (End ending) trees = refl
noted_same s notes (Step line) trees =
    let same = term_same s (judgement_on notes line) (λ j is. trees j (judgement_noted notes line j is)) in
    ap (λ term. record notes { lines = notes.lines ++ None ∷ []; term = term; steps = notes.steps + 1 }) (sym same)

-- ---- a step goes on where the code says so

abbrev pub GoesOnBy : Notes → Judgement → Type 0
GoesOnBy notes j = (notes.relation ≡ Some j.relation) × (notes.term ≡ Some (small_inputs j.values))

pub continues : (s : Small) (notes : Notes) (found : Option Judgement) → ((j : Judgement) → found ≡ Some j → HasTree (il_of s) j.relation j.values)
    → IsSomeAnd found (GoesOnBy notes) → IsSomeAnd found (Continues (il_of s) notes)
continues s notes None tree never = absurd never
continues s notes (Some j) tree goes = (goes.0, goes.1 ∙ ap Some (sym (inputs_same s j.relation j.values (tree j refl))))

pub goes_on : (s : Small) (notes : Notes) (found : Option Judgement) → ((j : Judgement) → found ≡ Some j → HasTree (il_of s) j.relation j.values)
    → IsSomeAnd found (Continues (il_of s) notes) → IsSomeAnd found (GoesOnBy notes)
goes_on s notes None tree never = absurd never
goes_on s notes (Some j) tree goes = (goes.0, goes.1 ∙ ap Some (inputs_same s j.relation j.values (tree j refl)))
