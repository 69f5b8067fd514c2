-- An internal language is that of one small specification at most.
use Rattle.std.proofs.Common.{◌≡◌, ℕ, List, [], ◌∷◌, map, refl, sym, ap, ap₂, ◌∙◌}
use Rattle.st_il.specs.declared.definition.Alternative.{Alternative}
use Rattle.st_il.specs.declared.definition.Il.{Il}
use Rattle.st_il.specs.declared.definition.IlDef.TheVariants.{Syntax, Relation, Rule}
use Rattle.st_il.specs.declared.definition.RelationDef.{RelationDef}
use Rattle.st_il.specs.declared.definition.RuleDef.{RuleDef}
use Rattle.st_il.specs.declared.definition.SyntaxBody.TheVariants.{Variant}
use Rattle.st_il.specs.declared.definition.SyntaxDef.{SyntaxDef}
use Rattle.st_il.specs.declared.expression.IlExp.{out-IlExp}
use Rattle.st_il.specs.declared.expression.IlExp.TheVariants.{outs-Case}
use Rattle.st_il.specs.declared.small.Small.{Small}
use Rattle.st_il.specs.declared.small.SmallRule.{SmallRule}
use Rattle.st_il.specs.Small.{atom_exp, rule_def, il_of}
use Rattle.st_small.specs.inner.Parts.{atom_alternative, rule_of}
use Rattle.st_small.proofs.Elements.{first-of, rest-of}

-- ---- definitions of one form

syntax_parts : {d e : SyntaxDef} → Syntax d ≡ Syntax e → d ≡ e
syntax_parts e = cc

variant_parts : {xs ys : List Alternative} → Variant xs ≡ Variant ys → xs ≡ ys
variant_parts e = cc

relation_parts : {d e : RelationDef} → Relation d ≡ Relation e → d ≡ e
relation_parts e = cc

rule_parts : {d e : RuleDef} → Rule d ≡ Rule e → d ≡ e
rule_parts e = cc

-- ---- atoms

atom_alternative-same : {a b : List ℕ} → atom_alternative a ≡ atom_alternative b → a ≡ b
atom_alternative-same e = cc

atom_alternatives-same : (xs ys : List (List ℕ)) → map atom_alternative xs ≡ map atom_alternative ys → xs ≡ ys
atom_alternatives-same [] [] e = refl
atom_alternatives-same [] (y ∷ ys) e = cc e
atom_alternatives-same (x ∷ xs) [] e = cc e
atom_alternatives-same (x ∷ xs) (y ∷ ys) e = ap₂ ◌∷◌ (atom_alternative-same (first-of e)) (atom_alternatives-same xs ys (rest-of e))

atom_exp-same : (x y a b : List ℕ) → atom_exp x a ≡ atom_exp y b → a ≡ b
atom_exp-same x y a b e = cc (sym (outs-Case x a []) ∙ ap out-IlExp e ∙ outs-Case y b [])

-- ---- rules

rule_same : (n m f g t u : List ℕ) → n ≡ m → f ≡ g → t ≡ u → rule_of n f t ≡ rule_of m g u
rule_same n m f g t u a b c = cc

rule_def-same : (r s x y : List ℕ) (a b : SmallRule) → rule_def r x a ≡ rule_def s y b → a ≡ b
rule_def-same r s x y a b e =
    let d = rule_parts e in
    let ends = ap (λ (rule : RuleDef). rule.conclusion) d in
    rule_same a.name b.name a.from b.from a.to b.to (ap (λ (rule : RuleDef). rule.name) d)
    (atom_exp-same x y a.from b.from (first-of ends)) (atom_exp-same x y a.to b.to (first-of (rest-of ends)))

rule_defs-same : (r s x y : List ℕ) (ones others : List SmallRule) → map (rule_def r x) ones ≡ map (rule_def s y) others → ones ≡ others
rule_defs-same r s x y [] [] e = refl
rule_defs-same r s x y [] (b ∷ others) e = cc e
rule_defs-same r s x y (a ∷ ones) [] e = cc e
rule_defs-same r s x y (a ∷ ones) (b ∷ others) e = ap₂ ◌∷◌ (rule_def-same r s x y a b (first-of e)) (rule_defs-same r s x y ones others (rest-of e))

-- ---- specifications

abbrev small_with : List ℕ → List (List ℕ) → List ℕ → List SmallRule → Small
small_with x atoms r rules = record { syntax = x; atoms = atoms; relation = r; rules = rules }

small_same : (x y r s : List ℕ) (atoms tags : List (List ℕ)) (rules others : List SmallRule) → x ≡ y → atoms ≡ tags → r ≡ s → rules ≡ others
    → small_with x atoms r rules ≡ small_with y tags s others
small_same x y r s atoms tags rules others a b c d = cc

pub il_of-same : (a b : Small) → il_of a ≡ il_of b → a ≡ b
il_of-same a b e =
    let defs = ap (λ (il : Il). il.defs) e in
    let syntax = syntax_parts (first-of defs) in
    let relation = relation_parts (first-of (rest-of defs)) in
    small_same a.syntax b.syntax a.relation b.relation a.atoms b.atoms a.rules b.rules
    (ap (λ (d : SyntaxDef). d.name) syntax)
    (atom_alternatives-same a.atoms b.atoms (variant_parts (ap (λ (d : SyntaxDef). d.body) syntax)))
    (ap (λ (d : RelationDef). d.name) relation)
    (rule_defs-same a.relation b.relation a.syntax b.syntax a.rules b.rules (rest-of (rest-of defs)))
