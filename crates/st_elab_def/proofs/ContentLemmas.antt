-- What rules and clauses are made to, as contents of their definitions.
use Rattle.std.proofs.Common.{◌≡◌, sym, ap, ◌∙◌, subst, ℕ, List, [], Some, None, false}
use Rattle.std.specs.Prelude.{Result, Ok, Err, Option, OnOk, IsSomeAnd}
use Rattle.st_num.specs.declared.fault.Fault.{Fault}
use Rattle.st_num.specs.declared.fault.Fault.TheVariants as fault
use Rattle.st_elab_rows.specs.Told.{Told}
use Rattle.st_el.specs.declared.definition.DefNode.{DefNode}
use Rattle.st_el.specs.declared.definition.DefNode.TheVariants.{Rule, Clause}
use Rattle.st_el.specs.declared.definition.Prem.{Prem}
use Rattle.st_el.specs.declared.expression.Exp.{Exp}
use Rattle.st_il.specs.declared.definition.IlDef.{IlDef}
use Rattle.st_elab_table.specs.declared.decls.Decls.{Decls}
use Rattle.st_elab_table.specs.Questions.{Breach as PartBreach}
use Rattle.st_elab_table.specs.Clauses.{parts_of}
use Rattle.st_elab_def.specs.Definitions.{Definition}
use Rattle.st_elab_def.specs.Elaboration.{rule as rule_def, clause as clause_def}
use Rattle.st_elab_def.specs.Phases.{on_rule, on_clause, on_content, on_content_at}
use Rattle.st_elab_def.specs.inner.Contents.{MakesRule, MakesClause, is_content, MakesContent}
use Rattle.st_elab_def.specs.inner.Walk.{AllPassAt, FirstBreachAt}

module _ (D : Decls) (d : Definition) where
  pub content_rule : (r name : List ℕ) (e : Exp) (ps : List Prem) (x : IlDef) → d.def.node ≡ Rule r name e ps
      → MakesRule D d.before d.def.at r name e ps x → MakesContent D d (Some x)
  content_rule r name e ps x is m = record {
    passes = subst (λ n. AllPassAt D (on_content_at d n)) (sym is) m.passes;
    makes = (ap is_content is, rule_def r name e ps m.rule is m.elaborated m.is);
  }

  pub rule_content_breach : (r name : List ℕ) (e : Exp) (ps : List Prem) (b : PartBreach) → d.def.node ≡ Rule r name e ps
      → FirstBreachAt D (on_rule d.before d.def.at r name e ps) b → FirstBreachAt D (on_content d) b
  rule_content_breach r name e ps b is h = subst (λ n. FirstBreachAt D (on_content_at d n) b) (sym is) h

  pub content_clause : (name : List ℕ) (args : List Exp) (e : Exp) (ps : List Prem) (x : IlDef) → d.def.node ≡ Clause name args e ps
      → MakesClause D d.def.at name (parts_of args e ps) x → MakesContent D d (Some x)
  content_clause name args e ps x is m = record {
    passes = subst (λ n. AllPassAt D (on_content_at d n)) (sym is) m.passes;
    makes = (ap is_content is, clause_def name args e ps m.clause is m.elaborated m.is);
  }

  pub clause_content_breach : (name : List ℕ) (args : List Exp) (e : Exp) (ps : List Prem) (b : PartBreach) → d.def.node ≡ Clause name args e ps
      → FirstBreachAt D (on_clause d.def.at name (parts_of args e ps)) b → FirstBreachAt D (on_content d) b
  clause_content_breach name args e ps b is h = subst (λ n. FirstBreachAt D (on_content_at d n) b) (sym is) h

  pub some_rule : (r name : List ℕ) (e : Exp) (ps : List Prem) (made : Option IlDef) → d.def.node ≡ Rule r name e ps
      → IsSomeAnd made (MakesRule D d.before d.def.at r name e ps) → MakesContent D d made
  some_rule r name e ps (Some x) is m = content_rule r name e ps x is m
  some_rule r name e ps None is m = absurd m

  pub some_clause : (name : List ℕ) (args : List Exp) (e : Exp) (ps : List Prem) (made : Option IlDef) → d.def.node ≡ Clause name args e ps
      → IsSomeAnd made (MakesClause D d.def.at name (parts_of args e ps)) → MakesContent D d made
  some_clause name args e ps (Some x) is m = content_clause name args e ps x is m
  some_clause name args e ps None is m = absurd m

  pub no_content : (node : DefNode) → d.def.node ≡ node → is_content node ≡ false → on_content_at d node ≡ [] → MakesContent D d None
  no_content node is none asked = record {
    passes = subst (AllPassAt D) (sym (ap (on_content_at d) is ∙ asked)) tt;
    makes = ap is_content is ∙ none;
  }

-- what is told, in other words
pub told_both : {A : Type 0} (P Q : A → Type 0) (F G : PartBreach → Type 0) (r : Result A Fault) → ((x : A) → P x → Q x) → ((b : PartBreach) → F b → G b)
    → Told P F r → Told Q G r
told_both P Q F G (Ok x) f g h = f x h
told_both P Q F G (Err (fault.Refused at rule)) f g h = g (record { at = at; rule = rule }) h
told_both P Q F G (Err fault.Memory) f g h = tt

pub ok_both : {A E P Q : Type 0} (r : Result A E) → (P → Q) → OnOk r P → OnOk r Q
ok_both (Ok x) f h = f h
ok_both (Err e) f h = tt

pub ok_any : {A E Q : Type 0} (r : Result A E) → Q → OnOk r Q
ok_any (Ok x) q = q
ok_any (Err e) q = tt
