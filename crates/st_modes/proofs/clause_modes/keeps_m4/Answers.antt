use Rattle.std.proofs.Common.{sym, ap, ap₂, ◌∙◌, not}
use Rattle.std.specs.List.{list_all}
use Rattle.st_il.specs.declared.expression.IlExp.{IlExp}
use Rattle.st_il.specs.Names.{all_known}
use Rattle.st_semantics.specs.OpenParts.{is_doubly_open}
use Rattle.st_semantics.specs.Patterns.{is_pattern, bound_by}
use Rattle.st_semantics.specs.ModeRules.{patterns_have_one_open}
use Rattle.st_modes.proofs.ClauseParts.{m4_no_pattern, m4_unbound, m4_doubly_open, m4_premises}
use Rattle.st_modes.proofs.clause_modes.keeps_m4.Goals as goal

pub returns-then-not-are_patterns : goal.returns-then-not-are_patterns
returns-then-not-are_patterns c il =
    m4_no_pattern il c.args.clause.now (ap (list_all is_pattern) (sym c.as_slice-args.ensures) ∙ sym c.are_patterns.ensures ∙ c.if-not-are_patterns.true)

pub returns-then-not-binding : goal.returns-then-not-binding
returns-then-not-binding c il =
    m4_unbound il c.args.clause.now (ap (list_all is_pattern) (sym c.as_slice-args.ensures) ∙ sym c.are_patterns.ensures ∙ c.if-not-are_patterns.false)
    (ap₂ (λ x y. all_known (bound_by x) y) (sym c.as_slice-args.ensures) (sym c.requires) ∙ sym c.in_ok-binding.ensures ∙ c.if-not-binding.true)

pub returns-then-not-have_one_open : goal.returns-then-not-have_one_open
returns-then-not-have_one_open c il =
    m4_doubly_open il c.args.clause.now (ap (list_all is_pattern) (sym c.as_slice-args.ensures) ∙ sym c.are_patterns.ensures ∙ c.if-not-are_patterns.false)
    (ap₂ (λ x y. all_known (bound_by x) y) (sym c.as_slice-args.ensures) (sym c.requires) ∙ sym c.in_ok-binding.ensures ∙ c.if-not-binding.false)
    (ap (list_all (λ (e : IlExp). not (is_doubly_open e))) (sym c.as_slice-args.ensures) ∙ sym c.have_one_open.ensures ∙ c.if-not-have_one_open.true)

pub returns : goal.returns
returns c il =
    m4_premises il c.args.clause.now (ap (list_all is_pattern) (sym c.as_slice-args.ensures) ∙ sym c.are_patterns.ensures ∙ c.if-not-are_patterns.false)
    (ap₂ (λ x y. all_known (bound_by x) y) (sym c.as_slice-args.ensures) (sym c.requires) ∙ sym c.in_ok-binding.ensures ∙ c.if-not-binding.false)
    (ap (list_all (λ (e : IlExp). not (is_doubly_open e))) (sym c.as_slice-args.ensures) ∙ sym c.have_one_open.ensures ∙ c.if-not-have_one_open.false)
    c.in_ok-have.have (c.in_ok-have.ensures il ∙ ap₂ (λ x y. patterns_have_one_open il x y) c.requires c.as_slice.ensures)
