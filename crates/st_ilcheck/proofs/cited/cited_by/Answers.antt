use Rattle.std.proofs.Common.{sym, ap, ◌∙◌, subst}
use Rattle.st_il.specs.declared.definition.IlDef.TheVariants.{Syntax, Var, Relation, Fun}
use Rattle.st_ilcheck.specs.inner.Cited.{AreCited}
use Rattle.st_ilcheck.proofs.CitedLemmas.{plainly-cited, relation_citations, function_citations}
use Rattle.st_ilcheck.proofs.cited.cited_by.Goals as goal

pub returns-in_ok-found-in-Syntax : goal.returns-in_ok-found-in-Syntax
returns-in_ok-found-in-Syntax c =
    subst (λ d. AreCited d c.in_ok-found-in-Syntax.found) (sym c.in-Syntax.is) (plainly-cited (Syntax c.in-Syntax.syntax) c.in_ok-found-in-Syntax.found c.in_ok-found-in-Syntax.ensures)

pub returns-in_ok-found-in-Var : goal.returns-in_ok-found-in-Var
returns-in_ok-found-in-Var c =
    subst (λ d. AreCited d c.in_ok-found-in-Var.found) (sym c.in-Var.is) (plainly-cited (Var c.in-Var.field-0 c.in-Var.ty) c.in_ok-found-in-Var.found c.in_ok-found-in-Var.ensures)

pub returns-in_ok-found-in-Relation : goal.returns-in_ok-found-in-Relation
returns-in_ok-found-in-Relation c =
    subst (λ d. AreCited d c.in_ok-found-in-Relation.found) (sym c.in-Relation.is)
    (plainly-cited (Relation c.in-Relation.relation) c.in_ok-found-in-Relation.found (c.in_ok-found-in-Relation.ensures ∙ ap (relation_citations c.in-Relation.relation.tag) c.as_slice.ensures))

pub returns-in_ok-found-in-Rule : goal.returns-in_ok-found-in-Rule
returns-in_ok-found-in-Rule c = subst (λ d. AreCited d c.in_ok-found-in-Rule.found) (sym c.in-Rule.is) c.in_ok-found-in-Rule.ensures

pub returns-in_ok-found-in-Fun : goal.returns-in_ok-found-in-Fun
returns-in_ok-found-in-Fun c =
    subst (λ d. AreCited d c.in_ok-found-in-Fun.found) (sym c.in-Fun.is)
    (plainly-cited (Fun c.in-Fun.fun) c.in_ok-found-in-Fun.found (c.in_ok-found-in-Fun.ensures ∙ ap (function_citations c.in-Fun.fun.result) c.as_slice-in-Fun.ensures))

pub returns-in_ok-found-in-Clause : goal.returns-in_ok-found-in-Clause
returns-in_ok-found-in-Clause c = subst (λ d. AreCited d c.in_ok-found-in-Clause.found) (sym c.in-Clause.is) c.in_ok-found-in-Clause.ensures
