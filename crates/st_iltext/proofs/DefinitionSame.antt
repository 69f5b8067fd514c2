-- Definitions are equal where their trees are.
use Rattle.std.proofs.Common.{◌≡◌, ℕ, List, Bool, true, false, refl, ap, ap₂, ◌∙◌, arith}
use Rattle.st_num.specs.declared.dim.Kind.{Kind}
use Rattle.st_num.specs.declared.dim.Kind.TheVariants as kind
use Rattle.st_il.specs.declared.definition.Alternative.{Alternative}
use Rattle.st_il.specs.declared.definition.Alternative.TheVariants.{Case, Incl}
use Rattle.st_il.specs.declared.definition.ClauseDef.{ClauseDef}
use Rattle.st_il.specs.declared.definition.FunDef.{FunDef}
use Rattle.st_il.specs.declared.definition.IlDef.{IlDef}
use Rattle.st_il.specs.declared.definition.IlDef.TheVariants.{Syntax, Var, Relation, Rule, Fun, Clause}
use Rattle.st_il.specs.declared.definition.Listed.{Listed}
use Rattle.st_il.specs.declared.definition.RelationDef.{RelationDef}
use Rattle.st_il.specs.declared.definition.RuleDef.{RuleDef}
use Rattle.st_il.specs.declared.definition.SyntaxDef.{SyntaxDef}
use Rattle.st_il.specs.declared.definition.SyntaxBody.{SyntaxBody}
use Rattle.st_il.specs.declared.definition.SyntaxBody.TheVariants.{Alias, Variant, Fields}
use Rattle.st_il.specs.declared.expression.IlExp.{IlExp}
use Rattle.st_il.specs.declared.expression.IlPrem.{IlPrem}
use Rattle.st_il.specs.declared.ty.Ty.{Ty}
use Rattle.st_text.proofs.Bytes.{heads}
use Rattle.st_iltext.specs.Definitions.{alternative_tree, field_tree, body_tree, kind_word, listed_tree, mode_word, definition_tree}
use Rattle.st_iltext.specs.Written.{written}
use Rattle.st_iltext.proofs.Rows.{first_of, rest_of, parts_of, word_of, quote_of, both, rows_same}
use Rattle.st_iltext.proofs.TySame.{ty_same, tys_same}
use Rattle.st_iltext.proofs.ExpSame.{exp_same, exps_same}
use Rattle.st_iltext.proofs.PremSame.{head, prems_same}

alternative_same : (a b : Alternative) → alternative_tree a ≡ alternative_tree b → a ≡ b
alternative_same (Case t ts) (Case u us) e = let j = rest_of (parts_of e) in ap₂ Case (quote_of (first_of j)) (tys_same ts us (rest_of j))
alternative_same (Case t ts) (Incl u) e = absurd (omega (arith, ap head e))
alternative_same (Incl t) (Case u us) e = absurd (omega (arith, ap head e))
alternative_same (Incl t) (Incl u) e = ap Incl (quote_of (first_of (rest_of (parts_of e))))

field_same : (a b : List ℕ × Ty) → field_tree a ≡ field_tree b → a ≡ b
field_same (x, t) (y, u) e = let j = parts_of e in ap₂ (λ (n : List ℕ) (s : Ty). (n, s)) (quote_of (first_of j)) (ty_same t u (first_of (rest_of j)))

body_same : (a b : SyntaxBody) → body_tree a ≡ body_tree b → a ≡ b
body_same (Alias t) (Alias u) e = ap Alias (ty_same t u (first_of (rest_of (parts_of e))))
body_same (Variant xs) (Variant ys) e = ap Variant (rows_same alternative_tree xs ys alternative_same (rest_of (parts_of e)))
body_same (Fields xs) (Fields ys) e = ap Fields (rows_same field_tree xs ys field_same (rest_of (parts_of e)))
body_same (Alias t) (Variant ys) e = absurd (omega (arith, ap head e))
body_same (Alias t) (Fields ys) e = absurd (omega (arith, ap head e))
body_same (Variant xs) (Alias u) e = absurd (omega (arith, ap head e))
body_same (Variant xs) (Fields ys) e = absurd (omega (arith, ap head e))
body_same (Fields xs) (Alias u) e = absurd (omega (arith, ap head e))
body_same (Fields xs) (Variant ys) e = absurd (omega (arith, ap head e))

kind_same : (a b : Kind) → kind_word a ≡ kind_word b → a ≡ b
kind_same kind.List kind.List e = refl
kind_same kind.List kind.Opt e = absurd (omega (arith, heads (word_of e)))
kind_same kind.Opt kind.List e = absurd (omega (arith, heads (word_of e)))
kind_same kind.Opt kind.Opt e = refl

mode_same : (a b : Bool) → mode_word a ≡ mode_word b → a ≡ b
mode_same true true e = refl
mode_same true false e = absurd (omega (arith, heads (word_of e)))
mode_same false true e = absurd (omega (arith, heads (word_of e)))
mode_same false false e = refl

pub listed_same : (a b : Listed) → listed_tree a ≡ listed_tree b → a ≡ b
listed_same a b e =
    let j = parts_of e in
    ap₂ (λ (n : List ℕ) (t : Ty). record { name = n; ty = t; dim = a.dim }) (quote_of (first_of j)) (ty_same a.ty b.ty (first_of (rest_of j)))
    ∙ ap (λ (d : List Kind). record { name = b.name; ty = b.ty; dim = d }) (rows_same kind_word a.dim b.dim kind_same (rest_of (rest_of j)))

syntax_same : (a b : SyntaxDef) → definition_tree (Syntax a) ≡ definition_tree (Syntax b) → a ≡ b
syntax_same a b e =
    let j = rest_of (parts_of e) in
    ap₂ (λ (n : List ℕ) (s : SyntaxBody). record { name = n; body = s }) (quote_of (first_of j)) (body_same a.body b.body (first_of (rest_of j)))

relation_same : (a b : RelationDef) → definition_tree (Relation a) ≡ definition_tree (Relation b) → a ≡ b
relation_same a b e =
    let j = rest_of (parts_of e) in
    let k = rest_of (rest_of j) in
    ap₂ (λ (n t : List ℕ). record { name = n; tag = t; holes = a.holes; mode = a.mode }) (quote_of (first_of j)) (quote_of (first_of (rest_of j)))
    ∙ ap₂ (λ (hs : List Ty) (m : List Bool). record { name = b.name; tag = b.tag; holes = hs; mode = m }) (tys_same a.holes b.holes (parts_of (first_of k)))
    (rows_same mode_word a.mode b.mode mode_same (rest_of (parts_of (first_of (rest_of k)))))

fun_same : (a b : FunDef) → definition_tree (Fun a) ≡ definition_tree (Fun b) → a ≡ b
fun_same a b e =
    let j = rest_of (parts_of e) in
    ap (λ (n : List ℕ). record { name = n; params = a.params; result = a.result }) (quote_of (first_of j))
    ∙ ap₂ (λ (ps : List Ty) (r : Ty). record { name = b.name; params = ps; result = r }) (tys_same a.params b.params (parts_of (first_of (rest_of j)))) (ty_same a.result b.result (first_of (rest_of (rest_of j))))

rule_same : (a b : RuleDef) → written (Rule a) ≡ true → written (Rule b) ≡ true → definition_tree (Rule a) ≡ definition_tree (Rule b) → a ≡ b
rule_same a b p q e =
    let j = rest_of (parts_of e) in
    let k = rest_of (rest_of j) in
    let u = both _ _ p in
    let v = both _ _ q in
    ap₂ (λ (r n : List ℕ). record { relation = r; name = n; variables = a.variables; conclusion = a.conclusion; premises = a.premises }) (quote_of (first_of j)) (quote_of (first_of (rest_of j)))
    ∙ ap₂ (λ (ls : List Listed) (es : List IlExp). record { relation = b.relation; name = b.name; variables = ls; conclusion = es; premises = a.premises })
    (rows_same listed_tree a.variables b.variables listed_same (parts_of (first_of k))) (exps_same a.conclusion b.conclusion (both _ _ u.0).1 (both _ _ v.0).1 (parts_of (first_of (rest_of k))))
    ∙ ap (λ (ps : List IlPrem). record { relation = b.relation; name = b.name; variables = b.variables; conclusion = b.conclusion; premises = ps }) (prems_same a.premises b.premises u.1 v.1 (rest_of (rest_of k)))

clause_same : (a b : ClauseDef) → written (Clause a) ≡ true → written (Clause b) ≡ true → definition_tree (Clause a) ≡ definition_tree (Clause b) → a ≡ b
clause_same a b p q e =
    let j = rest_of (parts_of e) in
    let k = rest_of j in
    let u = both _ _ p in
    let v = both _ _ q in
    let us = both _ _ u.0 in
    let vs = both _ _ v.0 in
    ap₂ (λ (f : List ℕ) (ls : List Listed). record { fun = f; variables = ls; args = a.args; result = a.result; premises = a.premises }) (quote_of (first_of j)) (rows_same listed_tree a.variables b.variables listed_same (parts_of (first_of k)))
    ∙ ap₂ (λ (es : List IlExp) (r : IlExp). record { fun = b.fun; variables = b.variables; args = es; result = r; premises = a.premises })
    (exps_same a.args b.args (both _ _ us.0).1 (both _ _ vs.0).1 (parts_of (first_of (rest_of k)))) (exp_same a.result b.result us.1 vs.1 (first_of (rest_of (rest_of k))))
    ∙ ap (λ (ps : List IlPrem). record { fun = b.fun; variables = b.variables; args = b.args; result = b.result; premises = ps }) (prems_same a.premises b.premises u.1 v.1 (rest_of (rest_of (rest_of k))))

-- definitions whose trees are the same are so
pub definition_same : (a b : IlDef) → written a ≡ true → written b ≡ true → definition_tree a ≡ definition_tree b → a ≡ b
definition_same (Syntax a) (Syntax b) p q e = ap Syntax (syntax_same a b e)
definition_same (Var x t) (Var y u) p q e = let j = rest_of (parts_of e) in ap₂ Var (quote_of (first_of j)) (ty_same t u (first_of (rest_of j)))
definition_same (Relation a) (Relation b) p q e = ap Relation (relation_same a b e)
definition_same (Rule a) (Rule b) p q e = ap Rule (rule_same a b p q e)
definition_same (Fun a) (Fun b) p q e = ap Fun (fun_same a b e)
definition_same (Clause a) (Clause b) p q e = ap Clause (clause_same a b p q e)
definition_same (Syntax a) (Var y u) p q e = absurd (omega (arith, ap head e))
definition_same (Syntax a) (Relation b) p q e = absurd (omega (arith, ap head e))
definition_same (Syntax a) (Rule b) p q e = absurd (omega (arith, ap head e))
definition_same (Syntax a) (Fun b) p q e = absurd (omega (arith, ap head e))
definition_same (Syntax a) (Clause b) p q e = absurd (omega (arith, ap head e))
definition_same (Var x t) (Syntax b) p q e = absurd (omega (arith, ap head e))
definition_same (Var x t) (Relation b) p q e = absurd (omega (arith, ap head e))
definition_same (Var x t) (Rule b) p q e = absurd (omega (arith, ap head e))
definition_same (Var x t) (Fun b) p q e = absurd (omega (arith, ap head e))
definition_same (Var x t) (Clause b) p q e = absurd (omega (arith, ap head e))
definition_same (Relation a) (Syntax b) p q e = absurd (omega (arith, ap head e))
definition_same (Relation a) (Var y u) p q e = absurd (omega (arith, ap head e))
definition_same (Relation a) (Rule b) p q e = absurd (omega (arith, ap head e))
definition_same (Relation a) (Fun b) p q e = absurd (omega (arith, ap head e))
definition_same (Relation a) (Clause b) p q e = absurd (omega (arith, ap head e))
definition_same (Rule a) (Syntax b) p q e = absurd (omega (arith, ap head e))
definition_same (Rule a) (Var y u) p q e = absurd (omega (arith, ap head e))
definition_same (Rule a) (Relation b) p q e = absurd (omega (arith, ap head e))
definition_same (Rule a) (Fun b) p q e = absurd (omega (arith, ap head e))
definition_same (Rule a) (Clause b) p q e = absurd (omega (arith, ap head e))
definition_same (Fun a) (Syntax b) p q e = absurd (omega (arith, ap head e))
definition_same (Fun a) (Var y u) p q e = absurd (omega (arith, ap head e))
definition_same (Fun a) (Relation b) p q e = absurd (omega (arith, ap head e))
definition_same (Fun a) (Rule b) p q e = absurd (omega (arith, ap head e))
definition_same (Fun a) (Clause b) p q e = absurd (omega (arith, ap head e))
definition_same (Clause a) (Syntax b) p q e = absurd (omega (arith, ap head e))
definition_same (Clause a) (Var y u) p q e = absurd (omega (arith, ap head e))
definition_same (Clause a) (Relation b) p q e = absurd (omega (arith, ap head e))
definition_same (Clause a) (Rule b) p q e = absurd (omega (arith, ap head e))
definition_same (Clause a) (Fun b) p q e = absurd (omega (arith, ap head e))
