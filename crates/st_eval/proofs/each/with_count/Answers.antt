use Rattle.std.proofs.Common.{sym, ◌∙◌, refl, inl, inr}
use Rattle.st_semantics.proofs.Names.{true_false}
use Rattle.st_eval.proofs.each.with_count.Goals as goal

pub returns-in-None : goal.returns-in-None
returns-in-None c = inl (c.in-None.ensures, refl)

pub returns-then-not-may_be_number : goal.returns-then-not-may_be_number
returns-then-not-may_be_number c =
    (c.in-Some.name.now, c.in-Some.ensures, λ typed. true_false (sym (c.may_be_number.ensures.1 typed) ∙ c.if-not-may_be_number.true))

pub returns-in_ok-more-in-Some : goal.returns-in_ok-more-in-Some
returns-in_ok-more-in-Some c = inr (c.in-Some.name.now, c.in-Some.ensures, c.may_be_number.ensures.0 c.if-not-may_be_number.false, c.in_ok-more-in-Some.ensures)
