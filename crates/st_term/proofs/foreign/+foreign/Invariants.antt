use Rattle.std.proofs.Common.{◌≡◌, map, drop}
use Rattle.st_term.specs.Foreign.{first_foreign, first_place, field_foreign, field_part}
use Rattle.st_term.proofs.foreign.+foreign.Given as goal

abbrev pub invariant-first_foreign-loop-exp : goal.invariant-first_foreign-loop-exp
invariant-first_foreign-loop-exp l = first_foreign l.exps ≡ first_foreign (drop l.exp-index l.exps)

abbrev pub invariant-first_in_fields-loop-field : goal.invariant-first_in_fields-loop-field
invariant-first_in_fields-loop-field l =
    first_place (map field_foreign (map field_part l.fields)) ≡ first_place (map field_foreign (map field_part (drop l.field-index l.fields)))
