use Rattle.std.proofs.Common.{ap, ◌∙◌, subst, map}
use Rattle.st_il.specs.declared.definition.RelationDef.{RelationDef}
use Rattle.st_il.specs.Names.{has_name}
use Rattle.st_order.specs.Known.{all_now}
use Rattle.st_modes.specs.inner.Citations.{cited_by_relation}
use Rattle.st_order.specs.inner.Index.{names_in}
use Rattle.st_modes.specs.inner.Reaching.{Reached, cited_under}
use Rattle.st_modes.specs.inner.Targets.{IsLeastOf, least_first}
use Rattle.st_modes.proofs.TargetParts.{least-reached}
use Rattle.st_modes.proofs.needs.marked_of.Goals as goal

pub returns : goal.returns
returns c = record {
  unfit = c.requires;
  firsts = λ start.
      subst (λ ts. IsLeastOf (Reached start (λ q. cited_by_relation q c.args.indexed.now.directions.il.now.defs)) ts (least_first c.in_ok-firsts.firsts.entries start))
      (ap names_in c.as_slice-3.ensures ∙ c.in_ok-names.ensures ∙ ap (λ rs. map (λ (r : RelationDef). r.name) (all_now rs)) c.as_slice-2.ensures)
      (least-reached (λ q. cited_by_relation q c.args.indexed.now.directions.il.now.defs) (cited_under c.in_ok-citing.citing.entries)
      (λ p q. c.in_ok-citing.ensures p q ∙ ap (λ ds. has_name (cited_by_relation p ds) q) c.as_slice.ensures) (names_in c.as_slice-3.result.now) c.in_ok-firsts.firsts.entries c.in_ok-firsts.ensures start);
}
