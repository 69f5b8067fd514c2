use Rattle.std.proofs.Common.{sym, subst}
use Rattle.st_il.specs.Definitions.{relations}
use Rattle.st_semantics.specs.Marks.{IsUnfit}
use Rattle.st_order.specs.Known.{all_now}
use Rattle.st_modes.specs.inner.Sifted.{Sifted}
use Rattle.st_modes.proofs.NeedsFun.{leads_to_none, leads_within, leads_to}
use Rattle.st_modes.proofs.needs.mark_by_relations.Goals as goal

pub returns-in_default : goal.returns-in_default
returns-in_default c =
    leads_to_none c.args.indexed.now c.requires.indexed c.args.relation.now c.args.marked.now c.requires.marked c.first_under-found.result c.first_under-found.ensures c.in_default.is

pub relation_at-other-requires : goal.relation_at-other-requires
relation_at-other-requires c =
    leads_within c.args.indexed.now c.requires.indexed c.args.relation.now c.args.marked.now c.requires.marked c.first_under-found.result c.first_under-found.ensures c.in-Some.number c.as_slice-unfit.result.now c.as_slice-unfit.ensures
    c.in-Some.is

pub mark_by_walk-requires : goal.mark_by_walk-requires
mark_by_walk-requires c = record {
  indexed = c.requires.indexed;
  unfit = subst (λ rs. Sifted (IsUnfit c.args.indexed.now.directions.il.now) (relations c.args.indexed.now.directions.il.now) (all_now rs)) (sym c.as_slice-unfit.ensures) c.requires.marked.unfit;
}

pub returns : goal.returns
returns c =
    leads_to c.args.indexed.now c.requires.indexed c.args.relation.now c.args.marked.now c.requires.marked c.first_under-found.result c.first_under-found.ensures c.in-Some.number c.as_slice-unfit.result.now c.relation_at-other.result.now
    c.in_ok-copy.field-0 c.is_namesake.result c.as_slice-unfit.ensures c.in-Some.is c.relation_at-other.ensures c.is_namesake.ensures c.if-is_namesake.false c.in_ok-copy.ensures
