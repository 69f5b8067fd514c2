use Rattle.std.proofs.Common.{◌≡◌, sym, ap, ◌∙◌, subst, length}
use Rattle.std.proofs.lemmas.List.{length-map}
use Rattle.st_type_table.specs.Breach.{IsSound}
use Rattle.st_type_table.specs.inner.Graph.{AreRanks, graph_of, node_of}
use Rattle.st_type_table.specs.inner.JoinGraph.{join_graph, join_node}
use Rattle.st_type_table.specs.inner.Flat.{AreFlats}
use Rattle.st_type_table.specs.inner.Kept.{AllSettled, defs_of}
use Rattle.st_type_table.proofs.FillLemmas.{kept-right, kept-whole}
use Rattle.st_type_table.proofs.build.settled_entries.Goals as goal

pub returns-clause-kept : goal.returns-clause-kept
returns-clause-kept c =
    let right : AreRanks (graph_of c.args.defs.now) c.as_slice-ranks.result.now = subst (AreRanks (graph_of c.args.defs.now)) (sym c.as_slice-ranks.ensures) c.requires.survey.ranked in
    let known : AreFlats c.args.defs.now c.as_slice-ranks.result.now (length c.args.defs.now) c.args.survey.flats =
    subst (λ rs. AreFlats c.args.defs.now rs (length c.args.defs.now) c.args.survey.flats) (sym c.as_slice-ranks.ensures) c.requires.survey.flat in
    let join_right : AreRanks (join_graph c.args.defs.now) c.as_slice-joins.result.now =
    subst (λ g. AreRanks g c.as_slice-joins.result.now) (c.as_slice.ensures ∙ c.in_ok-graph.ensures) (subst (AreRanks c.as_slice.result.now) (sym c.as_slice-joins.ensures) c.in_ok-joins.ensures) in
    let whole : defs_of c.in_ok-entries.entries.entries ≡ c.args.defs.now =
    ap defs_of c.in_ok-entries.ensures ∙ kept-whole c.args.defs.now c.as_slice-ranks.result.now c.args.survey.flats c.as_slice-joins.result.now
    (right.size ∙ length-map c.args.defs.now (node_of c.args.defs.now)) known.size (join_right.size ∙ length-map c.args.defs.now (join_node c.args.defs.now)) in record {
      sound = subst IsSound (sym whole) c.requires.sound;
      settled = subst AllSettled (sym c.in_ok-entries.ensures) (kept-right c.args.defs.now c.as_slice-ranks.result.now c.args.survey.flats c.as_slice-joins.result.now c.requires.sound right known join_right
          (right.size ∙ length-map c.args.defs.now (node_of c.args.defs.now)) known.size (join_right.size ∙ length-map c.args.defs.now (join_node c.args.defs.now)));
    }

pub returns-clause-whole : goal.returns-clause-whole
returns-clause-whole c =
    let right : AreRanks (graph_of c.args.defs.now) c.as_slice-ranks.result.now = subst (AreRanks (graph_of c.args.defs.now)) (sym c.as_slice-ranks.ensures) c.requires.survey.ranked in
    let known = c.requires.survey.flat in
    let join_right : AreRanks (join_graph c.args.defs.now) c.as_slice-joins.result.now =
    subst (λ g. AreRanks g c.as_slice-joins.result.now) (c.as_slice.ensures ∙ c.in_ok-graph.ensures) (subst (AreRanks c.as_slice.result.now) (sym c.as_slice-joins.ensures) c.in_ok-joins.ensures) in
    ap defs_of c.in_ok-entries.ensures ∙ kept-whole c.args.defs.now c.as_slice-ranks.result.now c.args.survey.flats c.as_slice-joins.result.now
    (right.size ∙ length-map c.args.defs.now (node_of c.args.defs.now)) known.size (join_right.size ∙ length-map c.args.defs.now (join_node c.args.defs.now))
