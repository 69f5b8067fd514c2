use Rattle.std.proofs.Common.{sym, ◌∙◌, ap, arith}
use Rattle.st_il.specs.declared.value.Value.{Value, out-Value}
use Rattle.st_semantics.specs.Operators.{join}
use Rattle.st_match.specs.inner.Joined.{list_joined, record_joined}
use Rattle.st_match.proofs.Joins.{join-List, join-Opt, join-Fields, fields_joined-longer}
use Rattle.st_match.proofs.joining.+join.Goals as goal

pub join_fields-returns-then-fields-others : goal.join_fields-returns-then-fields-others
join_fields-returns-then-fields-others t c = sym (fields_joined-longer c.args.fields.now c.args.others.now (λ e. absurd (omega (arith, e))))

pub join_of-returns-in_ok-joined-in-List : goal.join_of-returns-in_ok-joined-in-List
join_of-returns-in_ok-joined-in-List t c =
    c.in_ok-joined-in-List.ensures
    ∙ (ap (λ xs. list_joined xs (out-Value c.args.other.now)) c.as_slice.ensures
    ∙ (sym (join-List c.in-List.parts c.args.other.now) ∙ ap (λ (v : Value). join v c.args.other.now) (sym c.in-List.is)))

pub join_of-returns-in_ok-joined-in-Opt : goal.join_of-returns-in_ok-joined-in-Opt
join_of-returns-in_ok-joined-in-Opt t c =
    c.in_ok-joined-in-Opt.ensures ∙ (sym (join-Opt c.in-Opt.part c.args.other.now) ∙ ap (λ (v : Value). join v c.args.other.now) (sym c.in-Opt.is))

pub join_of-returns-in_ok-joined-in-Fields : goal.join_of-returns-in_ok-joined-in-Fields
join_of-returns-in_ok-joined-in-Fields t c =
    c.in_ok-joined-in-Fields.ensures
    ∙ (ap (λ fs. record_joined fs (out-Value c.args.other.now)) c.as_slice-in-Fields.ensures
    ∙ (sym (join-Fields c.in-Fields.fields c.args.other.now) ∙ ap (λ (v : Value). join v c.args.other.now) (sym c.in-Fields.is)))
