use Rattle.std.proofs.Common.{rules, sym, ◌∙◌, ap, map}
use Rattle.st_semantics.specs.Paths.{replaced}
use Rattle.st_match.specs.inner.Changes.{keeps, replacing, step_of, with_value}
use Rattle.st_match.proofs.PathSteps.{in_field-found}
use Rattle.st_match.proofs.path.+replace.Goals as goal

pub in_field-returns-then-eq : goal.in_field-returns-then-eq
in_field-returns-then-eq t c =
    c.in_ok-found.ensures
    ∙ (ap (with_value c.loop-i.i c.args.fields.now c.index-fields-i.result.0) c.in_ok-value.ensures
    ∙ (sym (in_field-found c.args.name.now (replaced (keeps c.args.how) (replacing c.args.how c.args.new.now) (map step_of c.args.rest.now)) c.args.fields.now c.loop-i.i c.index-fields-i.result
    c.loop-i-test.true c.index-fields-i.is (search rules)) ∙ sym c.loop-i.invariant))
