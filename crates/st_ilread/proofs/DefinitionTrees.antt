-- Trees of definitions.
use Rattle.std.proofs.Common.{◌≡◌, ℕ, List, map, codes, Bool, true, false, Result, Ok, Err, refl, sym, ap, ◌∙◌, arith}
use Rattle.std.specs.List.{list_all}
use Rattle.st_il.specs.declared.definition.IlDef.{IlDef}
use Rattle.st_il.specs.declared.definition.IlDef.TheVariants.{Syntax, Var, Relation, Rule, Fun, Clause}
use Rattle.st_il.specs.declared.definition.Listed.{Listed}
use Rattle.st_il.specs.declared.definition.SyntaxBody.{SyntaxBody}
use Rattle.st_il.specs.declared.expression.IlExp.{IlExp}
use Rattle.st_il.specs.declared.expression.IlPrem.{IlPrem}
use Rattle.st_il.specs.declared.ty.Ty.{Ty}
use Rattle.st_text.specs.declared.fault.TextFault.{TextFault}
use Rattle.st_text.specs.declared.fault.TextFault.TheVariants.{Malformed, Memory}
use Rattle.st_text.specs.Text.{TextTree, TextTrees, word, quote, list, none, more}
use Rattle.st_text.specs.Trees.{row_of}
use Rattle.st_iltext.specs.Definitions.{body_tree, listed_tree, mode_word, definition_tree}
use Rattle.st_iltext.specs.Expressions.{ty_tree, exp_tree, prem_tree}
use Rattle.st_iltext.specs.Written.{ty_written, exp_written, prem_written, body_written, variables_written, written}
use Rattle.st_iltext.specs.inner.Reading.{IsOf, IsOfNone, AreOf, AreOfNone, Reads, ReadsAll}
use Rattle.st_iltext.proofs.Rows.{rest_of, parts_of, both}
use Rattle.st_iltext.proofs.PremSame.{head}
use Rattle.st_ilread.specs.inner.Parts.{any, mode_tree, row_tree}
use Rattle.st_ilread.proofs.Passed.{all_true_of, all_any}

-- ---- modes

pub direction_none : (t : TextTree) → (t ≡ word (codes "in") → ⊥) → (t ≡ word (codes "out") → ⊥) → IsOfNone mode_word any t
direction_none t input output = record { never = go }
  where
    go : (b : Bool) → any b ≡ true → t ≡ mode_word b → ⊥
    go true p e = input e
    go false p e = output e

pub direction_is : (t : TextTree) (b : Bool) → t ≡ mode_word b → IsOf mode_word any t b
direction_is t b e = record { fits = refl; is = e }

pub mode_none : (t : TextTree) (ts : TextTrees) → t ≡ list (more (word (codes "mode")) ts) → AreOfNone mode_word any ts → IsOfNone mode_tree any t
mode_none t ts e n = record { never = λ mode p f. n.never mode (all_any mode) (rest_of (parts_of (sym e ∙ f))) }

pub mode_no_form : (t : TextTree) → ((ts : TextTrees) → t ≡ list (more (word (codes "mode")) ts) → ⊥) → IsOfNone mode_tree any t
mode_no_form t n = record { never = λ mode p f. n _ f }

pub mode_is : (t : TextTree) (ts : TextTrees) (mode : List Bool) → t ≡ list (more (word (codes "mode")) ts) → AreOf mode_word any ts mode → IsOf mode_tree any t mode
mode_is t ts mode e a = record { fits = refl; is = e ∙ ap (λ us. list (more (word (codes "mode")) us)) a.are }

pub mode_read : (t : TextTree) (ts : TextTrees) (result : Result (List Bool) TextFault) → t ≡ list (more (word (codes "mode")) ts) → ReadsAll mode_word any ts result → Reads mode_tree any t result
mode_read t ts (Ok mode) e r = mode_is t ts mode e r
mode_read t ts (Err (Malformed line)) e r = (r.0, mode_none t ts e r.1)
mode_read t ts (Err Memory) e r = tt

-- ---- words

-- a tree that begins with none of the six words is that of no definition
pub definition_none : (t : TextTree)
    → ((ts : TextTrees) → t ≡ list (more (word (codes "syntax")) ts) → ⊥)
    → ((ts : TextTrees) → t ≡ list (more (word (codes "var")) ts) → ⊥)
    → ((ts : TextTrees) → t ≡ list (more (word (codes "relation")) ts) → ⊥)
    → ((ts : TextTrees) → t ≡ list (more (word (codes "rule")) ts) → ⊥)
    → ((ts : TextTrees) → t ≡ list (more (word (codes "fun")) ts) → ⊥)
    → ((ts : TextTrees) → t ≡ list (more (word (codes "clause")) ts) → ⊥)
    → IsOfNone definition_tree written t
definition_none t no_syntax no_var no_relation no_rule no_fun no_clause = record { never = go }
  where
    go : (d : IlDef) → written d ≡ true → t ≡ definition_tree d → ⊥
    go (Syntax d) p e = no_syntax _ e
    go (Var x u) p e = no_var _ e
    go (Relation d) p e = no_relation _ e
    go (Rule d) p e = no_rule _ e
    go (Fun d) p e = no_fun _ e
    go (Clause d) p e = no_clause _ e

-- ---- syntaxes

pub syntax_none : (ts : TextTrees) → ((x : List ℕ) (b : SyntaxBody) → body_written b ≡ true → ts ≡ more (quote x) (more (body_tree b) none) → ⊥)
    → IsOfNone definition_tree written (list (more (word (codes "syntax")) ts))
syntax_none ts n = record { never = go }
  where
    go : (d : IlDef) → written d ≡ true → list (more (word (codes "syntax")) ts) ≡ definition_tree d → ⊥
    go (Syntax d) p e = n d.name d.body p (rest_of (parts_of e))
    go (Var x u) p e = omega (arith, ap head e)
    go (Relation d) p e = omega (arith, ap head e)
    go (Rule d) p e = omega (arith, ap head e)
    go (Fun d) p e = omega (arith, ap head e)
    go (Clause d) p e = omega (arith, ap head e)

pub syntax_is : (ts : TextTrees) (x : List ℕ) (b : SyntaxBody) → body_written b ≡ true → ts ≡ more (quote x) (more (body_tree b) none)
    → IsOf definition_tree written (list (more (word (codes "syntax")) ts)) (Syntax (record { name = x; body = b }))
syntax_is ts x b p e = record { fits = p; is = ap (λ us. list (more (word (codes "syntax")) us)) e }

-- ---- names of variables

pub var_none : (ts : TextTrees) → ((x : List ℕ) (u : Ty) → ty_written u ≡ true → ts ≡ more (quote x) (more (ty_tree u) none) → ⊥)
    → IsOfNone definition_tree written (list (more (word (codes "var")) ts))
var_none ts n = record { never = go }
  where
    go : (d : IlDef) → written d ≡ true → list (more (word (codes "var")) ts) ≡ definition_tree d → ⊥
    go (Syntax d) p e = omega (arith, ap head e)
    go (Var x u) p e = n x u p (rest_of (parts_of e))
    go (Relation d) p e = omega (arith, ap head e)
    go (Rule d) p e = omega (arith, ap head e)
    go (Fun d) p e = omega (arith, ap head e)
    go (Clause d) p e = omega (arith, ap head e)

pub var_is : (ts : TextTrees) (x : List ℕ) (u : Ty) → ty_written u ≡ true → ts ≡ more (quote x) (more (ty_tree u) none)
    → IsOf definition_tree written (list (more (word (codes "var")) ts)) (Var x u)
var_is ts x u p e = record { fits = p; is = ap (λ us. list (more (word (codes "var")) us)) e }

-- ---- relations

pub relation_none : (ts : TextTrees) → ((x tag : List ℕ) (hs : List Ty) (mode : List Bool) → list_all ty_written hs ≡ true → ts ≡ more (quote x) (more (quote tag) (more (row_tree ty_tree hs) (more (mode_tree mode) none))) → ⊥)
    → IsOfNone definition_tree written (list (more (word (codes "relation")) ts))
relation_none ts n = record { never = go }
  where
    go : (d : IlDef) → written d ≡ true → list (more (word (codes "relation")) ts) ≡ definition_tree d → ⊥
    go (Syntax d) p e = omega (arith, ap head e)
    go (Var x u) p e = omega (arith, ap head e)
    go (Relation d) p e = n d.name d.tag d.holes d.mode p (rest_of (parts_of e))
    go (Rule d) p e = omega (arith, ap head e)
    go (Fun d) p e = omega (arith, ap head e)
    go (Clause d) p e = omega (arith, ap head e)

pub relation_is : (ts : TextTrees) (x tag : List ℕ) (hs : List Ty) (mode : List Bool) → list_all ty_written hs ≡ true → ts ≡ more (quote x) (more (quote tag) (more (row_tree ty_tree hs) (more (mode_tree mode) none)))
    → IsOf definition_tree written (list (more (word (codes "relation")) ts)) (Relation (record { name = x; tag = tag; holes = hs; mode = mode }))
relation_is ts x tag hs mode p e = record { fits = p; is = ap (λ us. list (more (word (codes "relation")) us)) e }

-- ---- rules

pub rule_none : (ts : TextTrees) → ((r x : List ℕ) (vs : List Listed) (es : List IlExp) (ps : List IlPrem) → variables_written vs ≡ true → list_all exp_written es ≡ true → list_all prem_written ps ≡ true → ts ≡ more (quote r) (more (quote x) (more (row_tree listed_tree vs) (more (row_tree exp_tree es) (row_of (map prem_tree ps))))) → ⊥)
    → IsOfNone definition_tree written (list (more (word (codes "rule")) ts))
rule_none ts n = record { never = go }
  where
    go : (d : IlDef) → written d ≡ true → list (more (word (codes "rule")) ts) ≡ definition_tree d → ⊥
    go (Syntax d) p e = omega (arith, ap head e)
    go (Var x u) p e = omega (arith, ap head e)
    go (Relation d) p e = omega (arith, ap head e)
    go (Rule d) p e = let q = both _ _ p in let r = both _ _ q.0 in n d.relation d.name d.variables d.conclusion d.premises r.0 r.1 q.1 (rest_of (parts_of e))
    go (Fun d) p e = omega (arith, ap head e)
    go (Clause d) p e = omega (arith, ap head e)

pub rule_is : (ts : TextTrees) (r x : List ℕ) (vs : List Listed) (es : List IlExp) (ps : List IlPrem) → variables_written vs ≡ true → list_all exp_written es ≡ true → list_all prem_written ps ≡ true → ts ≡ more (quote r) (more (quote x) (more (row_tree listed_tree vs) (more (row_tree exp_tree es) (row_of (map prem_tree ps)))))
    → IsOf definition_tree written (list (more (word (codes "rule")) ts)) (Rule (record { relation = r; name = x; variables = vs; conclusion = es; premises = ps }))
rule_is ts r x vs es ps p q s e = record { fits = all_true_of _ _ (all_true_of _ _ p q) s; is = ap (λ us. list (more (word (codes "rule")) us)) e }

-- ---- functions

pub fun_none : (ts : TextTrees) → ((f : List ℕ) (us : List Ty) (u : Ty) → list_all ty_written us ≡ true → ty_written u ≡ true → ts ≡ more (quote f) (more (row_tree ty_tree us) (more (ty_tree u) none)) → ⊥)
    → IsOfNone definition_tree written (list (more (word (codes "fun")) ts))
fun_none ts n = record { never = go }
  where
    go : (d : IlDef) → written d ≡ true → list (more (word (codes "fun")) ts) ≡ definition_tree d → ⊥
    go (Syntax d) p e = omega (arith, ap head e)
    go (Var x u) p e = omega (arith, ap head e)
    go (Relation d) p e = omega (arith, ap head e)
    go (Rule d) p e = omega (arith, ap head e)
    go (Fun d) p e = let q = both _ _ p in n d.name d.params d.result q.0 q.1 (rest_of (parts_of e))
    go (Clause d) p e = omega (arith, ap head e)

pub fun_is : (ts : TextTrees) (f : List ℕ) (us : List Ty) (u : Ty) → list_all ty_written us ≡ true → ty_written u ≡ true → ts ≡ more (quote f) (more (row_tree ty_tree us) (more (ty_tree u) none))
    → IsOf definition_tree written (list (more (word (codes "fun")) ts)) (Fun (record { name = f; params = us; result = u }))
fun_is ts f us u p q e = record { fits = all_true_of _ _ p q; is = ap (λ us. list (more (word (codes "fun")) us)) e }

-- ---- clauses

pub clause_none : (ts : TextTrees) → ((f : List ℕ) (vs : List Listed) (es : List IlExp) (x : IlExp) (ps : List IlPrem) → variables_written vs ≡ true → list_all exp_written es ≡ true → exp_written x ≡ true → list_all prem_written ps ≡ true → ts ≡ more (quote f) (more (row_tree listed_tree vs) (more (row_tree exp_tree es) (more (exp_tree x) (row_of (map prem_tree ps))))) → ⊥)
    → IsOfNone definition_tree written (list (more (word (codes "clause")) ts))
clause_none ts n = record { never = go }
  where
    go : (d : IlDef) → written d ≡ true → list (more (word (codes "clause")) ts) ≡ definition_tree d → ⊥
    go (Syntax d) p e = omega (arith, ap head e)
    go (Var x u) p e = omega (arith, ap head e)
    go (Relation d) p e = omega (arith, ap head e)
    go (Rule d) p e = omega (arith, ap head e)
    go (Fun d) p e = omega (arith, ap head e)
    go (Clause d) p e =
        let q = both _ _ p in
        let r = both _ _ q.0 in
        let s = both _ _ r.0 in
        n d.fun d.variables d.args d.result d.premises s.0 s.1 r.1 q.1 (rest_of (parts_of e))

pub clause_is : (ts : TextTrees) (f : List ℕ) (vs : List Listed) (es : List IlExp) (x : IlExp) (ps : List IlPrem) → variables_written vs ≡ true → list_all exp_written es ≡ true → exp_written x ≡ true → list_all prem_written ps ≡ true → ts ≡ more (quote f) (more (row_tree listed_tree vs) (more (row_tree exp_tree es) (more (exp_tree x) (row_of (map prem_tree ps)))))
    → IsOf definition_tree written (list (more (word (codes "clause")) ts)) (Clause (record { fun = f; variables = vs; args = es; result = x; premises = ps }))
clause_is ts f vs es x ps p q r s e = record { fits = all_true_of _ _ (all_true_of _ _ (all_true_of _ _ p q) r) s; is = ap (λ us. list (more (word (codes "clause")) us)) e }
