-- The internal language of a small specification is typed.
use Rattle.std.proofs.Common.{◌≡◌, ℕ, zero, suc, List, [], ◌∷◌, ◌++◌, Option, Some, Bool, true, false, map, refl, sym, ap, ap₂, ◌∙◌, subst, inl, arith, rules, codes, append_assoc}
use Rattle.std.specs.Prelude.{All, Contains, bytes_eq, if◌then◌else◌}
use Rattle.std.specs.List.{flat_map}
use Rattle.std.specs.Cmp.Lexicographic.{same_text}
use Rattle.std.proofs.lemmas.List.{map-append}
use Rattle.std.proofs.lemmas.List.Elements.{All-nil, All-cons, All-contains}
use Rattle.std.proofs.lemmas.Map.Views.{Contains-from_any}
use Rattle.st_il.specs.declared.definition.Il.{Il}
use Rattle.st_il.specs.declared.definition.IlDef.{IlDef}
use Rattle.st_il.specs.declared.definition.RelationDef.{RelationDef}
use Rattle.st_il.specs.declared.definition.RuleDef.{RuleDef}
use Rattle.st_il.specs.declared.definition.SyntaxDef.{SyntaxDef}
use Rattle.st_il.specs.declared.expression.IlExp.{IlExp, out-IlExp, the_lemmas}
use Rattle.st_il.specs.declared.expression.IlExp.TheOpen.{IlExp-F}
use Rattle.st_il.specs.declared.expression.IlExp.TheVariants as exp
use Rattle.st_il.specs.declared.small.Small.{Small}
use Rattle.st_il.specs.declared.small.SmallRule.{SmallRule}
use Rattle.st_il.specs.declared.ty.Ty.{Ty}
use Rattle.st_il.specs.declared.ty.Ty.TheVariants as ty
use Rattle.st_il.specs.Small.{IsUpper, IsWordOf, IsSmall, IsSmallRule, IsSmallIl, AreDistinct, atom_exp, rule_def, syntax_def, relation_def, il_of}
use Rattle.st_il.specs.Small.{rule_names as names_of}
use Rattle.st_type_table.specs.Cases.{HasCases}
use Rattle.st_type_table.specs.Leads.{names_in}
use Rattle.st_type_table.specs.Meaning.{Means}
use Rattle.st_type_table.specs.Meaning.{itself as means_itself}
use Rattle.st_type_table.specs.Same.{Same}
use Rattle.st_type_table.proofs.PositionLemmas.{names-Name}
use Rattle.st_il.specs.Definitions.{syntaxes, rules_from}
use Rattle.st_il.specs.Names.{Name, has_name, flattened}
use Rattle.st_semantics.specs.OperationTypes.{Level}
use Rattle.st_semantics.specs.Variables.{called}
use Rattle.st_semantics.proofs.Elements.{All-back}
use Rattle.st_ilcheck.specs.Declarations.{IsTag, tags, syntaxes_cited, alternative_cited, alternative_tags, IsOnceIn, times, syntax_names, relation_names, function_names, rule_names, AreNamed}
use Rattle.st_ilcheck.specs.Definitions.{RuleBreaks}
use Rattle.st_ilcheck.specs.FoundTypes.{origin, TypeFrom}
use Rattle.st_ilcheck.specs.Parts.{parts_at}
use Rattle.st_ilcheck.specs.Premises.{IsJudgementOf, PremsBreak}
use Rattle.st_ilcheck.specs.Rules.{IsCaseOf}
use Rattle.st_ilcheck.specs.Typings.{HasTyping, HaveTypings, BreaksHere, typing, none, more}
use Rattle.st_ilcheck.specs.Typed.{Breaks, AllKeep, Typed}
use Rattle.st_ilcheck.specs.Variables.{occurrences, indices, IsListed, all_occurrences, all_indices, names_of as occurring}
use Rattle.st_verify.proofs.SmallIl.{relation_of, rule_of, itself, relation-here, syntaxes-small, relations-small, rules-rules, rules_from-rules}
use Rattle.st_verify.proofs.SmallTags.{atom_tag, arrow_tag, atoms_hold, first_apart, others_distinct}
use Rattle.st_verify.proofs.SmallTypes.{one_syntax, alternatives, case_of, no_alias, has_atoms, atom_found}

-- ---- what stands in an atom

no_occurrence : (x atom : List ℕ) → occurrences (atom_exp x atom) ≡ []
no_occurrence x atom = search (rules, the_lemmas)

no_index : (x atom : List ℕ) → indices (atom_exp x atom) ≡ []
no_index x atom = search (rules, the_lemmas)

no_call : (x atom : List ℕ) → called (atom_exp x atom) ≡ []
no_call x atom = search (rules, the_lemmas)

one_name : (x atom : List ℕ) → syntaxes_cited (atom_exp x atom) ≡ x ∷ []
one_name x atom = search (rules, the_lemmas)

one_tag : (x atom : List ℕ) → tags (atom_exp x atom) ≡ (atom, 0) ∷ []
one_tag x atom = search (rules, the_lemmas)

-- what stands in two expressions, and in no premise
two : {A : Type 0} (f : IlExp → List A) (e g : IlExp) (as' bs : List A) → f e ≡ as' → f g ≡ bs → flattened (map f (e ∷ g ∷ [])) ++ [] ≡ (as' ++ (bs ++ [])) ++ []
two f e g as' bs p q = ap₂ (λ as' bs. (as' ++ (bs ++ [])) ++ []) p q

-- ---- names

once : (name : Name) → IsOnceIn (name ∷ []) name
once name = ap (λ b. if b then suc (times name []) else times name []) (itself name)

syntax_once : (s : Small) → IsOnceIn (syntax_names (il_of s).defs) s.syntax
syntax_once s = subst (λ names. IsOnceIn names s.syntax) (sym (ap (map (λ (d : SyntaxDef). d.name)) (syntaxes-small s))) (once s.syntax)

relation_once : (s : Small) → IsOnceIn (relation_names (il_of s).defs) s.relation
relation_once s = subst (λ names. IsOnceIn names s.relation) (sym (ap (map (λ (r : RelationDef). r.name)) (relations-small s))) (once s.relation)

abbrev SyntaxesOnce : Small → List Name → Type 0
SyntaxesOnce s = All (IsOnceIn (syntax_names (il_of s).defs))

-- the name of the syntax is cited twice
twice_once : (s : Small) (names : List Name) → names ≡ s.syntax ∷ s.syntax ∷ [] → SyntaxesOnce s names
twice_once s names are =
    let P = IsOnceIn (syntax_names (il_of s).defs) in
    subst (All P) (sym are) (All-cons P s.syntax (s.syntax ∷ []) (syntax_once s) (All-cons P s.syntax [] (syntax_once s) (All-nil P)))

-- ---- the syntax

none_cited : (atoms : List (List ℕ)) → flat_map alternative_cited (alternatives atoms) ≡ []
none_cited [] = refl
none_cited (atom ∷ atoms) = none_cited atoms

atoms_tagged : (atoms : List (List ℕ)) → All (IsWordOf IsUpper) atoms → All IsTag (flat_map alternative_tags (alternatives atoms))
atoms_tagged [] words = All-nil IsTag
atoms_tagged (atom ∷ atoms) words =
    All-cons IsTag (atom, 0) (flat_map alternative_tags (alternatives atoms)) (atom_tag atom (words 0 atom (omega arith))) (atoms_tagged atoms (λ k d below. words (suc k) d (omega arith)))

syntax_named : (s : Small) → IsSmall s → AreNamed (il_of s) [] (syntax_def s.syntax s.atoms)
syntax_named s small = record {
  declared = (refl, atoms_hold (syntaxes (il_of s)) s.syntax s.atoms small.atoms small.distinct);
  syntaxes_once = subst (SyntaxesOnce s) (sym (none_cited s.atoms)) (All-nil (IsOnceIn (syntax_names (il_of s).defs)));
  relations_once = All-nil (IsOnceIn (relation_names (il_of s).defs));
  functions_once = All-nil (IsOnceIn (function_names (il_of s).defs));
  tagged = atoms_tagged s.atoms small.atoms;
}

syntax_keeps : (s : Small) → IsSmall s → Breaks (il_of s) [] (syntax_def s.syntax s.atoms) []
syntax_keeps s small = record {
  by_names = [];
  by_variables = [];
  by_indices = [];
  by_types = [];
  names = inl (syntax_named s small, refl);
  variables = inl (tt, refl);
  indices = inl (tt, refl);
  types = refl;
  whole = refl;
}

-- ---- the relation

relation_named : (s : Small) → AreNamed (il_of s) (syntax_def s.syntax s.atoms ∷ []) (relation_def s.relation s.syntax)
relation_named s = record {
  declared = (refl, inl refl);
  syntaxes_once = twice_once s (flattened (map names_in (ty.Name s.syntax ∷ ty.Name s.syntax ∷ []))) (ap (λ names. names ++ (names ++ [])) (names-Name [] s.syntax));
  relations_once = All-nil (IsOnceIn (relation_names (il_of s).defs));
  functions_once = All-nil (IsOnceIn (function_names (il_of s).defs));
  tagged = All-cons IsTag (codes "% ~> %", 2) [] arrow_tag (All-nil IsTag);
}

relation_keeps : (s : Small) → Breaks (il_of s) (syntax_def s.syntax s.atoms ∷ []) (relation_def s.relation s.syntax) []
relation_keeps s = record {
  by_names = [];
  by_variables = [];
  by_indices = [];
  by_types = [];
  names = inl (relation_named s, refl);
  variables = inl (tt, refl);
  indices = inl (tt, refl);
  types = refl;
  whole = refl;
}

-- ---- a rule: its types

abbrev Known : Small → List ℕ → Type 0
Known s atom = Contains s.atoms atom

is_case : (s : Small) (atom : List ℕ) → Known s atom → IsCaseOf (syntaxes (il_of s)) (ty.Name s.syntax) atom []
is_case s atom known = record {
  cases = map case_of s.atoms;
  operands = [];
  has = subst (λ defs. HasCases defs (ty.Name s.syntax) (map case_of s.atoms)) (sym (syntaxes-small s)) (has_atoms s.syntax s.atoms);
  found = atom_found s.atoms atom known;
  typed = tt;
}

atom_typing : (s : Small) (atom : List ℕ) → Known s atom → HasTyping (il_of s) [] (atom_exp s.syntax atom) (Some (ty.Name s.syntax)) []
atom_typing s atom known =
    let form : out-IlExp (atom_exp s.syntax atom) ≡ IlExp-F.Case s.syntax atom [] = exp.outs-Case s.syntax atom [] in
    typing [] [] [] (subst (λ (level : Level). HaveTypings (il_of s) (parts_at [] level) [] []) (sym form) none)
    (subst (λ (level : Level). TypeFrom (syntaxes (il_of s)) (origin (il_of s) [] level) [] (Some (ty.Name s.syntax))) (sym form) refl)
    (subst (λ (level : Level). BreaksHere (il_of s) [] level [] []) (sym form)
    (record { by_form = []; by_path = []; by_names = []; form = inl (is_case s atom known, refl); path = inl (tt, refl); names = inl (refl, refl); whole = refl })) refl

same_syntax : (s : Small) → Same (syntaxes (il_of s)) (ty.Name s.syntax) (ty.Name s.syntax)
same_syntax s =
    let means : Means (one_syntax s.syntax s.atoms) (ty.Name s.syntax) (ty.Name s.syntax) = means_itself (no_alias s.syntax s.atoms) refl in
    subst (λ defs. Same defs (ty.Name s.syntax) (ty.Name s.syntax)) (sym (syntaxes-small s)) (Same.equal (ty.Name s.syntax) means means)

abbrev sides : Small → List (Option Ty)
sides s = Some (ty.Name s.syntax) ∷ Some (ty.Name s.syntax) ∷ []

is_judgement : (s : Small) → IsJudgementOf (il_of s) s.relation (sides s)
is_judgement s = record { declared = relation_of s; found = relation-here s; typed = (same_syntax s, (same_syntax s, tt)) }

rule_typed : (s : Small) (rule : SmallRule) → IsSmallRule s.atoms rule → RuleBreaks (il_of s) (rule_of s.relation s.syntax rule) []
rule_typed s rule is = record {
  os = sides s;
  inside = [];
  here = [];
  premises = [];
  conclusion = more [] [] (atom_typing s rule.from is.from) (more [] [] (atom_typing s rule.to is.to) none refl) refl;
  concluded = inl (is_judgement s, refl);
  met = PremsBreak.none;
  whole = refl;
}

-- ---- a rule: its names

-- the definitions before a rule, behind those rules
abbrev definitions_before : Small → List SmallRule → List IlDef
definitions_before s before = syntax_def s.syntax s.atoms ∷ relation_def s.relation s.syntax ∷ map (rule_def s.relation s.syntax) before

own_names : (relation syntax : List ℕ) (some : List SmallRule) → map (λ (r : RuleDef). r.name) (map (rule_of relation syntax) some) ≡ names_of some
own_names relation syntax [] = refl
own_names relation syntax (rule ∷ some) = ap (λ names. rule.name ∷ names) (own_names relation syntax some)

names_before : (s : Small) (before : List SmallRule) → rule_names s.relation (definitions_before s before) ≡ names_of before
names_before s before =
    ap (λ (rules : List RuleDef). map (λ (r : RuleDef). r.name) (rules_from s.relation rules)) (rules-rules s.relation s.syntax before)
    ∙ ap (map (λ (r : RuleDef). r.name)) (rules_from-rules s.relation s.syntax before)
    ∙ own_names s.relation s.syntax before

there : (before after : List SmallRule) (rule : SmallRule) → Contains (names_of (before ++ rule ∷ after)) rule.name
there [] after rule = (0, omega arith, refl)
there (first ∷ before) after rule = let (k, below, is) = there before after rule in (suc k, omega arith, is)

-- rules before a rule have other names
apart : (before after : List SmallRule) (rule : SmallRule) → AreDistinct (names_of (before ++ rule ∷ after)) → Contains (names_of before) rule.name → ⊥
apart [] after rule distinct found = omega (arith, found.1)
apart (first ∷ before) after rule distinct (zero, below, is) =
    let names = names_of (before ++ rule ∷ after) in
    first_apart first.name names distinct (subst (Contains names) (sym is) (there before after rule))
apart (first ∷ before) after rule distinct (suc k, below, is) =
    apart before after rule (others_distinct first.name (names_of (before ++ rule ∷ after)) distinct) (k, omega arith, is)

new_name : (names : List Name) (name : Name) (b : Bool) → has_name names name ≡ b → (Contains names name → ⊥) → has_name names name ≡ false
new_name names name false is apart = is
new_name names name true is apart = absurd (apart (Contains-from_any {eq = bytes_eq} (λ x y e. same_text x y (sym e)) name names is))

rule_named : (s : Small) (before after : List SmallRule) (rule : SmallRule) → IsSmall s → AreDistinct (names_of (before ++ rule ∷ after)) → IsSmallRule s.atoms rule
    → AreNamed (il_of s) (definitions_before s before) (rule_def s.relation s.syntax rule)
rule_named s before after rule small distinct is =
    let from = atom_exp s.syntax rule.from in
    let to = atom_exp s.syntax rule.to in
    let defs = (il_of s).defs in
    record {
      declared = ap (λ names. has_name names rule.name) (names_before s before) ∙ new_name (names_of before) rule.name (has_name (names_of before) rule.name) refl (apart before after rule distinct);
      syntaxes_once = twice_once s (flattened (map syntaxes_cited (from ∷ to ∷ [])) ++ [])
          (two syntaxes_cited from to (s.syntax ∷ []) (s.syntax ∷ []) (one_name s.syntax rule.from) (one_name s.syntax rule.to));
      relations_once = All-cons (IsOnceIn (relation_names defs)) s.relation [] (relation_once s) (All-nil (IsOnceIn (relation_names defs)));
      functions_once = subst (All (IsOnceIn (function_names defs))) (sym (two called from to [] [] (no_call s.syntax rule.from) (no_call s.syntax rule.to)))
          (All-nil (IsOnceIn (function_names defs)));
      tagged = subst (All IsTag) (sym (two tags from to ((rule.from, 0) ∷ []) ((rule.to, 0) ∷ []) (one_tag s.syntax rule.from) (one_tag s.syntax rule.to)))
          (All-cons IsTag (rule.from, 0) ((rule.to, 0) ∷ []) (atom_tag rule.from (All-contains (IsWordOf IsUpper) s.atoms rule.from small.atoms is.from))
          (All-cons IsTag (rule.to, 0) [] (atom_tag rule.to (All-contains (IsWordOf IsUpper) s.atoms rule.to small.atoms is.to)) (All-nil IsTag)));
    }

-- ---- all rules

abbrev IsNoVariable : Small → SmallRule → Name → Type 0
IsNoVariable s rule i = has_name (occurring (all_occurrences (atom_exp s.syntax rule.from ∷ atom_exp s.syntax rule.to ∷ []) [])) i ≡ false

rule_keeps : (s : Small) (before after : List SmallRule) (rule : SmallRule) → IsSmall s → AreDistinct (names_of (before ++ rule ∷ after)) → IsSmallRule s.atoms rule
    → Breaks (il_of s) (definitions_before s before) (rule_def s.relation s.syntax rule) []
rule_keeps s before after rule small distinct is =
    let from = atom_exp s.syntax rule.from in
    let to = atom_exp s.syntax rule.to in
    let none_occurs : all_occurrences (from ∷ to ∷ []) [] ≡ [] = two occurrences from to [] [] (no_occurrence s.syntax rule.from) (no_occurrence s.syntax rule.to) in
    let none_counts : all_indices (from ∷ to ∷ []) [] ≡ [] = two indices from to [] [] (no_index s.syntax rule.from) (no_index s.syntax rule.to) in
    record {
      by_names = [];
      by_variables = [];
      by_indices = [];
      by_types = [];
      names = inl (rule_named s before after rule small distinct is, refl);
      variables = inl (record { once = refl; listed = subst (All (IsListed [])) (sym none_occurs) (All-nil (IsListed [])); occur = λ k d below. absurd (omega arith) }, refl);
      indices = inl (subst (All (IsNoVariable s rule)) (sym none_counts) (All-nil (IsNoVariable s rule)), refl);
      types = rule_typed s rule is;
      whole = refl;
    }

one_more : (s : Small) (before : List SmallRule) (rule : SmallRule) → definitions_before s (before ++ rule ∷ []) ≡ definitions_before s before ++ rule_def s.relation s.syntax rule ∷ []
one_more s before rule =
    ap (λ rules. syntax_def s.syntax s.atoms ∷ relation_def s.relation s.syntax ∷ rules) (map-append (rule_def s.relation s.syntax) before (rule ∷ []))

rules_keep : (s : Small) (before after : List SmallRule) → IsSmall s → s.rules ≡ before ++ after → AllKeep (il_of s) (definitions_before s before) (map (rule_def s.relation s.syntax) after)
rules_keep s before [] small are = tt
rules_keep s before (rule ∷ after) small are =
    let distinct : AreDistinct (names_of (before ++ rule ∷ after)) = subst (λ (rules : List SmallRule). AreDistinct (names_of rules)) are small.distinct_rules in
    let rest : All (IsSmallRule s.atoms) (rule ∷ after) = All-back (IsSmallRule s.atoms) before (rule ∷ after) (subst (All (IsSmallRule s.atoms)) are small.rules) in (
      rule_keeps s before after rule small distinct (rest 0 rule (omega arith)),
      subst (λ defs. AllKeep (il_of s) defs (map (rule_def s.relation s.syntax) after)) (one_more s before rule)
          (rules_keep s (before ++ rule ∷ []) after small (are ∙ sym (append_assoc before (rule ∷ []) after))),
    )

-- no definition of it breaks a typing rule
pub keeps_types : (s : Small) → IsSmall s → Typed (il_of s)
keeps_types s small = (syntax_keeps s small, (relation_keeps s, rules_keep s [] s.rules small refl))

pub small_typed : (il : Il) → IsSmallIl il → Typed il
small_typed il small = subst Typed (sym small.means) (keeps_types small.source small.small)
