use Rattle.std.proofs.Common.{List, [], ap, ◌∙◌, replicate, subst}
use Rattle.st_graph.specs.Graph.{IsNumbering}
use Rattle.st_il.specs.declared.definition.IlDef.{IlDef}
use Rattle.st_modes.specs.inner.Circles.{count_of, all_citations, KnowsAll}
use Rattle.st_modes.proofs.CircleParts.{edges_within, circular_is}
use Rattle.st_modes.proofs.circles.circles_of.Goals as goal

pub numbering-requires : goal.numbering-requires
numbering-requires c =
    let citers = c.in_ok-citers.citers in record {
      graph =
          edges_within c.args.il.now citers (subst (KnowsAll citers) c.as_slice-defs.ensures c.in_ok-citers.ensures) c.deref.result.now
          (c.deref.ensures.value ∙ c.in_ok-rows.ensures ∙ ap (λ (ds : List IlDef). all_citations citers (replicate (count_of citers) []) ds) c.as_slice-defs.ensures);
    }

pub returns : goal.returns
returns c =
    let citers = c.in_ok-citers.citers in
    circular_is c.args.il.now citers (subst (KnowsAll citers) c.as_slice-defs.ensures c.in_ok-citers.ensures) c.in_ok-rows.rows.items
    (c.in_ok-rows.ensures ∙ ap (λ (ds : List IlDef). all_citations citers (replicate (count_of citers) []) ds) c.as_slice-defs.ensures)
    c.in_ok-components.components.numbers.items c.in_ok-components.components.count
    (subst (λ g. IsNumbering g c.in_ok-components.components.numbers.items c.in_ok-components.components.count) c.deref.ensures.value c.in_ok-components.ensures)
