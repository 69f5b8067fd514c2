use Rattle.std.proofs.Common.{◌≡◌, ℕ, List, [], sym, ◌∙◌, subst, Some}
use Rattle.st_dims.specs.Mentions.{occurrences_in, indices_in}
use Rattle.st_dims.specs.Dimensions.{Table, HasDimensions}
use Rattle.st_dims.specs.Breaches.{IsFirst, misplaced, idle}
use Rattle.st_dims.proofs.Unique.{only_table}
use Rattle.st_dims.proofs.dimension.dimensions_of.Goals as goal

pub returns-clause-dimensions : goal.returns-clause-dimensions
returns-clause-dimensions c =
    only_table c.args.mentions.now c.in_ok-table.table c.in_ok-table.ensures.ordered
    (subst (λ (table : Table). HasDimensions (occurrences_in c.args.mentions.now) table) (sym c.in_ok-table.ensures.entries) c.in_ok-shortest.ensures)

pub returns-in-Some-clause-fault : goal.returns-in-Some-clause-fault
returns-in-Some-clause-fault c =
    let indices = c.as_slice.ensures ∙ c.in_ok-indices.ensures in
    record {
      table = c.in_ok-table.table;
      dimensions = only_table c.args.mentions.now c.in_ok-table.table c.in_ok-table.ensures.ordered
          (subst (λ (table : Table). HasDimensions (occurrences_in c.args.mentions.now) table) (sym c.in_ok-table.ensures.entries) c.in_ok-shortest.ensures);
      first = subst (λ (table : Table). IsFirst (Some c.in-Some.at) (misplaced (indices_in c.args.mentions.now) c.args.mentions.now table)) (sym c.in_ok-table.ensures.entries)
          (subst (λ (names : List (List ℕ)). IsFirst (Some c.in-Some.at) (misplaced names c.args.mentions.now c.in_ok-shortest.shortest.entries)) indices c.in-Some.ensures);
    }

pub returns-in-Some-idle-clause-fault : goal.returns-in-Some-idle-clause-fault
returns-in-Some-idle-clause-fault c =
    let indices = c.as_slice.ensures ∙ c.in_ok-indices.ensures in
    record {
      table = c.in_ok-table.table;
      dimensions = only_table c.args.mentions.now c.in_ok-table.table c.in_ok-table.ensures.ordered
          (subst (λ (table : Table). HasDimensions (occurrences_in c.args.mentions.now) table) (sym c.in_ok-table.ensures.entries) c.in_ok-shortest.ensures);
      placed = subst (λ (table : Table). misplaced (indices_in c.args.mentions.now) c.args.mentions.now table ≡ []) (sym c.in_ok-table.ensures.entries)
          (subst (λ (names : List (List ℕ)). misplaced names c.args.mentions.now c.in_ok-shortest.shortest.entries ≡ []) indices c.in_default.ensures);
      first = subst (λ (table : Table). IsFirst (Some c.in-Some-idle.at) (idle c.args.mentions.now table)) (sym c.in_ok-table.ensures.entries) c.in-Some-idle.ensures;
    }
