use Rattle.std.proofs.Common.{◌++◌, ◌∙◌, ap}
use Rattle.st_il.specs.Names.{has_name}
use Rattle.st_semantics.specs.Variables.{prem_vars}
use Rattle.st_semantics.specs.OrderOf.{but_for}
use Rattle.st_order.specs.inner.Index.{names_in}
use Rattle.st_order.specs.inner.Selections.{all_numbered}
use Rattle.st_order.proofs.SameNames.{names_made}
use Rattle.st_order.proofs.selection.take.Goals as goal

pub returns : goal.returns
returns c = record {
  order = c.in_ok-push.ensures.ok;
  left = ap all_numbered c.replace-old.ensures.after ∙ c.in_ok-left.ensures ∙ ap (λ z. but_for c.args.next.number (all_numbered z)) c.as_slice.ensures;
  bound = λ q.
      c.in_ok-add_all.ensures q
      ∙ ap (λ z. has_name (names_in c.args.selection.now.bound.keys ++ z) q) (names_made c.as_slice-2.result.now c.push_prem_vars.new.names c.new-names.result (prem_vars c.args.next.premise.now) c.as_slice-2.ensures c.in_ok-push_prem_vars.ensures c.new-names.ensures);
}
