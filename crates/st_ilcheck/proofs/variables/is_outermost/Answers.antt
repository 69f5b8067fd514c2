use Rattle.std.proofs.Common.{rules, sym, ap, ap₂, ◌∙◌, ℕ, List}
use Rattle.st_num.specs.declared.dim.Kind.{Kind}
use Rattle.st_ilcheck.specs.Variables.{Occurrence}
use Rattle.st_ilcheck.proofs.variables.is_outermost.Goals as goal

pub returns-then-not-is_name : goal.returns-then-not-is_name
returns-then-not-is_name c = (λ f. search rules, λ e. c.if-not-is_name.ensures.1 (ap (λ (o : Occurrence). o.0) e))

pub returns : goal.returns
returns c = (
  λ y. ap₂ (λ (n : List ℕ) (k : List Kind). (n, k)) (c.if-not-is_name.ensures.0 (search rules)) (sym c.as_slice-2.ensures ∙ (c.are_kinds.ensures.0 y ∙ c.as_slice.ensures)),
  λ e. c.are_kinds.ensures.1 (c.as_slice-2.ensures ∙ (ap (λ (o : Occurrence). o.1) e ∙ sym c.as_slice.ensures)),
)
