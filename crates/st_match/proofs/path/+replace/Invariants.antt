use Rattle.std.proofs.Common.{◌≡◌, ◌+◌, length, drop, map, take, ◌++◌, option_map, List, ℕ}
use Rattle.st_il.specs.declared.value.Value.{Value}
use Rattle.st_semantics.specs.Paths.{in_field, replaced}
use Rattle.st_match.specs.inner.Changes.{keeps, replacing, step_of}
use Rattle.st_match.proofs.path.+replace.Given as goal

abbrev pub decreases-replaced : goal.decreases-replaced
decreases-replaced l = length l.steps.now + length l.steps.now

abbrev pub decreases-in_field : goal.decreases-in_field
decreases-in_field l = 1 + (length l.rest.now + length l.rest.now)

abbrev pub decreases-in_element : goal.decreases-in_element
decreases-in_element l = 1 + (length l.rest.now + length l.rest.now)

abbrev pub decreases-in_part : goal.decreases-in_part
decreases-in_part l = 1 + (length l.rest.now + length l.rest.now)

abbrev pub invariant-in_field-loop-i : goal.invariant-in_field-loop-i
invariant-in_field-loop-i l =
    in_field l.name (replaced (keeps l.how) (replacing l.how l.new) (map step_of l.rest)) l.fields
    ≡ option_map (λ (more : List (List ℕ × Value)). take l.i l.fields ++ more) (in_field l.name (replaced (keeps l.how) (replacing l.how l.new) (map step_of l.rest)) (drop l.i l.fields))
