-- What stands in the internal language of a small specification: one relation, whose first hole is
-- its input, and its rules.
use Rattle.std.proofs.Common.{◌≡◌, ℕ, zero, suc, List, [], ◌∷◌, Some, None, Bool, true, false, nat_eq, map, ap, ◌∙◌, sym, refl, cond, rules}
use Rattle.std.specs.Prelude.{codes, slice_get, find, bytes_eq, unwrap_or, replicate}
use Rattle.std.specs.Cmp.Lexicographic.{pointwise}
use Rattle.std.proofs.lemmas.Cmp.{nat_list_eq_equiv}
use Rattle.st_num.specs.declared.mark.Mark.{Mark}
use Rattle.st_num.specs.declared.mark.Mark.TheVariants.{SquigglyArrow}
use Rattle.st_il.specs.declared.definition.Alternative.TheVariants.{Case as CaseAlternative}
use Rattle.st_il.specs.declared.definition.RelationDef.{RelationDef}
use Rattle.st_il.specs.declared.definition.RuleDef.{RuleDef}
use Rattle.st_il.specs.declared.definition.SyntaxBody.TheVariants.{Variant}
use Rattle.st_il.specs.declared.definition.SyntaxDef.{SyntaxDef}
use Rattle.st_il.specs.declared.small.Small.{Small}
use Rattle.st_il.specs.declared.small.SmallRule.{SmallRule}
use Rattle.st_il.specs.declared.template.Template.{the_lemmas}
use Rattle.st_il.specs.declared.template.Template.TheVariants as template
use Rattle.st_il.specs.declared.ty.Ty.TheVariants.{Name as NameOf}
use Rattle.st_il.specs.Small.{atom_exp, rule_def, il_of}
use Rattle.st_il.specs.Template.{template_height, holes}
use Rattle.st_il.specs.Names.{Name}
use Rattle.st_il.specs.Definitions.{relations_in, syntaxes_in, clauses_in, rules_in, rules_from, relations, syntaxes, relation_named, IsRelation, rules_of}
use Rattle.st_semantics.specs.Directions.{direction_by, inputs_or_all, mask}

-- its definitions
abbrev pub syntax_of : Small → SyntaxDef
syntax_of s = record { name = s.syntax; body = Variant (map (λ atom. CaseAlternative atom []) s.atoms) }

abbrev pub relation_of : Small → RelationDef
relation_of s = record { name = s.relation; tag = codes "% ~> %"; holes = NameOf s.syntax ∷ NameOf s.syntax ∷ []; mode = [] }

abbrev pub rule_of : List ℕ → List ℕ → SmallRule → RuleDef
rule_of relation syntax rule =
    record {
      relation = relation;
      name = rule.name;
      variables = [];
      conclusion = atom_exp syntax rule.from ∷ atom_exp syntax rule.to ∷ [];
      premises = [];
    }

-- rules are no relations, no syntaxes and no clauses
relations-rules : (relation syntax : List ℕ) (some : List SmallRule) → relations_in (map (rule_def relation syntax) some) ≡ []
relations-rules relation syntax [] = refl
relations-rules relation syntax (rule ∷ some) = relations-rules relation syntax some

syntaxes-rules : (relation syntax : List ℕ) (some : List SmallRule) → syntaxes_in (map (rule_def relation syntax) some) ≡ []
syntaxes-rules relation syntax [] = refl
syntaxes-rules relation syntax (rule ∷ some) = syntaxes-rules relation syntax some

clauses-rules : (relation syntax : List ℕ) (some : List SmallRule) → clauses_in (map (rule_def relation syntax) some) ≡ []
clauses-rules relation syntax [] = refl
clauses-rules relation syntax (rule ∷ some) = clauses-rules relation syntax some

pub rules-rules : (relation syntax : List ℕ) (some : List SmallRule) → rules_in (map (rule_def relation syntax) some) ≡ map (rule_of relation syntax) some
rules-rules relation syntax [] = refl
rules-rules relation syntax (rule ∷ some) = ap (λ rest. rule_of relation syntax rule ∷ rest) (rules-rules relation syntax some)

pub relations-small : (s : Small) → relations (il_of s) ≡ relation_of s ∷ []
relations-small s = ap (λ rest. relation_of s ∷ rest) (relations-rules s.relation s.syntax s.rules)

pub syntaxes-small : (s : Small) → syntaxes (il_of s) ≡ syntax_of s ∷ []
syntaxes-small s = ap (λ rest. syntax_of s ∷ rest) (syntaxes-rules s.relation s.syntax s.rules)

pub clauses-small : (s : Small) → clauses_in (il_of s).defs ≡ []
clauses-small s = clauses-rules s.relation s.syntax s.rules

pub all_rules-small : (s : Small) → rules_in (il_of s).defs ≡ map (rule_of s.relation s.syntax) s.rules
all_rules-small s = rules-rules s.relation s.syntax s.rules

-- ---- the relation

pub itself : (name : List ℕ) → bytes_eq name name ≡ true
itself name = nat_list_eq_equiv.refl name

pub relation-named : (s : Small) (name : Name) (b : Bool) → bytes_eq name s.relation ≡ b → relation_named (il_of s) name ≡ cond b (Some (relation_of s)) None
relation-named s name b is =
    ap (find (λ (r : RelationDef). bytes_eq name r.name)) (relations-small s)
    ∙ ap (λ c. cond c (Some (relation_of s)) None) is

pub relation-here : (s : Small) → relation_named (il_of s) s.relation ≡ Some (relation_of s)
relation-here s = relation-named s s.relation true (itself s.relation)

pub is_relation : (s : Small) → IsRelation (il_of s) 0 s.relation
is_relation s = (relation_of s, refl, refl)

relation_at : (s : Small) (k : ℕ) (relation : RelationDef) → slice_get (relation_of s ∷ []) k ≡ Some relation → (k ≡ 0) × (relation ≡ relation_of s)
relation_at s zero relation at = (refl, cc)
relation_at s (suc k) relation at = cc

pub relation_zero : (s : Small) (k : ℕ) (name : Name) → IsRelation (il_of s) k name → (k ≡ 0) × (name ≡ s.relation)
relation_zero s k name (relation, at, is) =
    let found = relation_at s k relation (ap (λ all. slice_get all k) (sym (relations-small s)) ∙ at) in
    (found.0, sym is ∙ ap (λ (r : RelationDef). r.name) found.1)

-- ---- its direction

arrow_height : (sign : Mark) → template_height (template.Infix template.Hole sign template.Hole) ≡ 2
arrow_height sign = search (rules, the_lemmas)

one_hole : holes template.Hole ≡ 1
one_hole = search (rules, the_lemmas)

pub arrow : direction_by [] (codes "% ~> %") ≡ Some (true ∷ false ∷ [])
arrow = simp (arrow_height SquigglyArrow, template.outs-Infix template.Hole SquigglyArrow template.Hole, template.outs-Hole, one_hole) refl

-- the first hole is an input, and the second an output
pub mask-small : (s : Small) → mask (il_of s) s.relation ≡ true ∷ false ∷ []
mask-small s = ap inputs_or_all (relation-here s) ∙ ap (λ known. unwrap_or known (replicate 2 true)) arrow

-- ---- the rules

pub rules_from-rules : (relation syntax : List ℕ) (some : List SmallRule) → rules_from relation (map (rule_of relation syntax) some) ≡ map (rule_of relation syntax) some
rules_from-rules relation syntax [] = refl
rules_from-rules relation syntax (rule ∷ some) =
    let same : pointwise nat_eq relation relation ≡ true = itself relation in
    rw (same, rules_from-rules relation syntax some) refl

pub rules-small : (s : Small) → rules_of (il_of s) s.relation ≡ map (rule_of s.relation s.syntax) s.rules
rules-small s = ap (rules_from s.relation) (all_rules-small s) ∙ rules_from-rules s.relation s.syntax s.rules
