use Rattle.std.proofs.Common.{◌∙◌, ap, map}
use Rattle.st_semantics.specs.Iterations.{index_of, heads}
use Rattle.st_match.specs.inner.Scope.{value_held, columns_now, columns_from}
use Rattle.st_match.proofs.HeadElements.{entries_of-element}
use Rattle.st_eval.specs.inner.Known.{names_now}
use Rattle.st_eval.proofs.element.bound_inside.Goals as goal

pub returns : goal.returns
returns c =
    entries_of-element (index_of c.args.how.now) (names_now c.args.names.now) c.args.at (heads (columns_from c.args.at (columns_now c.args.columns.now))) (map value_held c.as_slice.result.now)
    c.in_ok-inner.inner c.in_ok-inner-2.inner c.in_ok-inner-3.inner c.args.scope.now c.in_ok-inner.ensures c.in_ok-inner-2.ensures c.in_ok-inner-3.ensures
    (ap (map value_held) c.as_slice.ensures ∙ c.in_ok-heads.ensures)
