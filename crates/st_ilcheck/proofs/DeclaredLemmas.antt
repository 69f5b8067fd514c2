-- What definitions declare, one definition at a time.
use Rattle.std.proofs.Common.{◌≡◌, ℕ, zero, suc, ◌+◌, ◌<◌, ◌≤◌, add-one, take, Some, None, refl, sym, ap, ◌∙◌, subst, List, [], ◌∷◌, ◌++◌, length, drop, get_or, append_assoc, append-nil}
use Rattle.std.specs.Prelude.{slice_get}
use Rattle.std.proofs.lemmas.List.{drop_all}
use Rattle.st_il.specs.declared.definition.IlDef.{IlDef}
use Rattle.st_il.specs.declared.definition.IlDef.TheVariants.{Syntax, Var, Relation, Rule, Fun, Clause}
use Rattle.st_ilcheck.specs.declared.declaring.Declared.{Declared}
use Rattle.st_ilcheck.specs.Declarations.{syntax_names, variable_names, relation_names, function_names}
use Rattle.st_ilcheck.specs.inner.Declared.{nothing_declared, declaring, rule_pairs, AreDeclared, AreLeft}
use Rattle.st_ilcheck.proofs.Drops.{from}

module _ (defs rest : List IlDef) (d longer : Declared) where
  next : (x : IlDef) → longer ≡ declaring x d → AreLeft defs (x ∷ rest) d → AreLeft defs rest longer
  next (Syntax s) e h = record {
    syntaxes = ap (λ (z : Declared). z.syntaxes ++ syntax_names rest) e ∙ (append_assoc d.syntaxes (s.name ∷ []) (syntax_names rest) ∙ h.syntaxes);
    variables = ap (λ (z : Declared). z.variables ++ variable_names rest) e ∙ h.variables;
    relations = ap (λ (z : Declared). z.relations ++ relation_names rest) e ∙ h.relations;
    rules = ap (λ (z : Declared). z.rules ++ rule_pairs rest) e ∙ h.rules;
    functions = ap (λ (z : Declared). z.functions ++ function_names rest) e ∙ h.functions;
  }
  next (Var x t) e h = record {
    syntaxes = ap (λ (z : Declared). z.syntaxes ++ syntax_names rest) e ∙ h.syntaxes;
    variables = ap (λ (z : Declared). z.variables ++ variable_names rest) e ∙ (append_assoc d.variables (x ∷ []) (variable_names rest) ∙ h.variables);
    relations = ap (λ (z : Declared). z.relations ++ relation_names rest) e ∙ h.relations;
    rules = ap (λ (z : Declared). z.rules ++ rule_pairs rest) e ∙ h.rules;
    functions = ap (λ (z : Declared). z.functions ++ function_names rest) e ∙ h.functions;
  }
  next (Relation r) e h = record {
    syntaxes = ap (λ (z : Declared). z.syntaxes ++ syntax_names rest) e ∙ h.syntaxes;
    variables = ap (λ (z : Declared). z.variables ++ variable_names rest) e ∙ h.variables;
    relations = ap (λ (z : Declared). z.relations ++ relation_names rest) e ∙ (append_assoc d.relations (r.name ∷ []) (relation_names rest) ∙ h.relations);
    rules = ap (λ (z : Declared). z.rules ++ rule_pairs rest) e ∙ h.rules;
    functions = ap (λ (z : Declared). z.functions ++ function_names rest) e ∙ h.functions;
  }
  next (Rule r) e h = record {
    syntaxes = ap (λ (z : Declared). z.syntaxes ++ syntax_names rest) e ∙ h.syntaxes;
    variables = ap (λ (z : Declared). z.variables ++ variable_names rest) e ∙ h.variables;
    relations = ap (λ (z : Declared). z.relations ++ relation_names rest) e ∙ h.relations;
    rules = ap (λ (z : Declared). z.rules ++ rule_pairs rest) e ∙ (append_assoc d.rules ((r.relation, r.name) ∷ []) (rule_pairs rest) ∙ h.rules);
    functions = ap (λ (z : Declared). z.functions ++ function_names rest) e ∙ h.functions;
  }
  next (Fun f) e h = record {
    syntaxes = ap (λ (z : Declared). z.syntaxes ++ syntax_names rest) e ∙ h.syntaxes;
    variables = ap (λ (z : Declared). z.variables ++ variable_names rest) e ∙ h.variables;
    relations = ap (λ (z : Declared). z.relations ++ relation_names rest) e ∙ h.relations;
    rules = ap (λ (z : Declared). z.rules ++ rule_pairs rest) e ∙ h.rules;
    functions = ap (λ (z : Declared). z.functions ++ function_names rest) e ∙ (append_assoc d.functions (f.name ∷ []) (function_names rest) ∙ h.functions);
  }
  next (Clause c) e h = record {
    syntaxes = ap (λ (z : Declared). z.syntaxes ++ syntax_names rest) e ∙ h.syntaxes;
    variables = ap (λ (z : Declared). z.variables ++ variable_names rest) e ∙ h.variables;
    relations = ap (λ (z : Declared). z.relations ++ relation_names rest) e ∙ h.relations;
    rules = ap (λ (z : Declared). z.rules ++ rule_pairs rest) e ∙ h.rules;
    functions = ap (λ (z : Declared). z.functions ++ function_names rest) e ∙ h.functions;
  }

pub declared-next : (defs : List IlDef) (i : ℕ) (x : IlDef) (d longer : Declared) → i < length defs → x ≡ get_or defs i x → longer ≡ declaring x d → AreLeft defs (drop i defs) d → AreLeft defs (drop (i + 1) defs) longer
declared-next defs i x d longer h is e k = next defs (drop (i + 1) defs) d longer x e (subst (λ z. AreLeft defs z d) (from defs i x h is) k)

pub declared-start : (defs : List IlDef) (d : Declared) → d ≡ nothing_declared → AreLeft defs defs d
declared-start defs d e = subst (AreLeft defs defs) (sym e) (record { syntaxes = refl; variables = refl; relations = refl; rules = refl; functions = refl })

pub declared-end : (defs : List IlDef) (i : ℕ) (d : Declared) → length defs ≤ i → AreLeft defs (drop i defs) d → AreDeclared defs d
declared-end defs i d h k =
    let n : AreLeft defs [] d = subst (λ z. AreLeft defs z d) (drop_all i defs h) k in record {
      syntaxes = sym (append-nil d.syntaxes) ∙ n.syntaxes;
      variables = sym (append-nil d.variables) ∙ n.variables;
      relations = sym (append-nil d.relations) ∙ n.relations;
      rules = sym (append-nil d.rules) ∙ n.rules;
      functions = sym (append-nil d.functions) ∙ n.functions;
    }

-- ---- what the first definitions declare

pub declared-none : (d : Declared) → d ≡ nothing_declared → AreDeclared [] d
declared-none d e = subst (AreDeclared []) (sym e) (record { syntaxes = refl; variables = refl; relations = refl; rules = refl; functions = refl })

syntaxes-append : (xs ys : List IlDef) → syntax_names (xs ++ ys) ≡ syntax_names xs ++ syntax_names ys
syntaxes-append [] ys = refl
syntaxes-append (Syntax s ∷ xs) ys = ap (λ z. s.name ∷ z) (syntaxes-append xs ys)
syntaxes-append (_ ∷ xs) ys = syntaxes-append xs ys

variables-append : (xs ys : List IlDef) → variable_names (xs ++ ys) ≡ variable_names xs ++ variable_names ys
variables-append [] ys = refl
variables-append (Var x t ∷ xs) ys = ap (λ z. x ∷ z) (variables-append xs ys)
variables-append (_ ∷ xs) ys = variables-append xs ys

relations-append : (xs ys : List IlDef) → relation_names (xs ++ ys) ≡ relation_names xs ++ relation_names ys
relations-append [] ys = refl
relations-append (Relation r ∷ xs) ys = ap (λ z. r.name ∷ z) (relations-append xs ys)
relations-append (_ ∷ xs) ys = relations-append xs ys

rules-append : (xs ys : List IlDef) → rule_pairs (xs ++ ys) ≡ rule_pairs xs ++ rule_pairs ys
rules-append [] ys = refl
rules-append (Rule r ∷ xs) ys = ap (λ z. (r.relation, r.name) ∷ z) (rules-append xs ys)
rules-append (_ ∷ xs) ys = rules-append xs ys

functions-append : (xs ys : List IlDef) → function_names (xs ++ ys) ≡ function_names xs ++ function_names ys
functions-append [] ys = refl
functions-append (Fun f ∷ xs) ys = ap (λ z. f.name ∷ z) (functions-append xs ys)
functions-append (_ ∷ xs) ys = functions-append xs ys

taken-more : (defs : List IlDef) (i : ℕ) (x : IlDef) → slice_get defs i ≡ Some x → take (suc i) defs ≡ take i defs ++ x ∷ []
taken-more [] i x h = let bad : None ≡ Some x = h in cc
taken-more (y ∷ defs) zero x h = let same : y ≡ x = cc in ap (λ z. z ∷ []) same
taken-more (y ∷ defs) (suc i) x h = ap (λ z. y ∷ z) (taken-more defs i x h)

-- one more definition behind the first
pub declared-more : (defs : List IlDef) (i : ℕ) (x : IlDef) (d longer : Declared) → slice_get defs i ≡ Some x → longer ≡ declaring x d → AreDeclared (take i defs) d → AreDeclared (take (i + 1) defs) longer
declared-more defs i x d longer there e h = subst (λ ds. AreDeclared ds longer) (sym (ap (λ n. take n defs) (add-one i) ∙ taken-more defs i x there)) (whole (next front [] d longer x e left))
  where
    front : List IlDef
    front = take i defs ++ x ∷ []

    left : AreLeft front (x ∷ []) d
    left = record {
      syntaxes = ap (λ z. z ++ syntax_names (x ∷ [])) h.syntaxes ∙ sym (syntaxes-append (take i defs) (x ∷ []));
      variables = ap (λ z. z ++ variable_names (x ∷ [])) h.variables ∙ sym (variables-append (take i defs) (x ∷ []));
      relations = ap (λ z. z ++ relation_names (x ∷ [])) h.relations ∙ sym (relations-append (take i defs) (x ∷ []));
      rules = ap (λ z. z ++ rule_pairs (x ∷ [])) h.rules ∙ sym (rules-append (take i defs) (x ∷ []));
      functions = ap (λ z. z ++ function_names (x ∷ [])) h.functions ∙ sym (functions-append (take i defs) (x ∷ []));
    }

    whole : AreLeft front [] longer → AreDeclared front longer
    whole n = record {
      syntaxes = sym (append-nil longer.syntaxes) ∙ n.syntaxes;
      variables = sym (append-nil longer.variables) ∙ n.variables;
      relations = sym (append-nil longer.relations) ∙ n.relations;
      rules = sym (append-nil longer.rules) ∙ n.rules;
      functions = sym (append-nil longer.functions) ∙ n.functions;
    }
