use Rattle.std.proofs.Common.{◌≡◌, List, ◌++◌, drop}
use Rattle.std.specs.Option.{option_map}
use Rattle.st_notation.specs.Fits.{Filling}
use Rattle.st_notation.specs.Fitted.{fillings}
use Rattle.st_elab_table.specs.Records.{aligned, field_names}
use Rattle.st_elab_exp.proofs.record_row.aligned.Given as goal

abbrev pub invariant-loop-field : goal.invariant-loop-field
invariant-loop-field l =
    aligned (field_names l.fields) l.shapes l.written
    ≡ option_map (λ (fs : List Filling). fillings l.filled ++ fs) (aligned (field_names (drop l.field-index l.fields)) l.left l.rest)
