use Rattle.std.proofs.Common.{◌≡◌, length, reverse}
use Rattle.st_il.specs.Reading as spec
use Rattle.st_il.proofs.reading.reduce.Given as goal

abbrev pub invariant-frames : goal.invariant-frames
invariant-frames l = spec.reduce l.level l.fn.template (reverse l.initial.frames) ≡ spec.reduce l.level l.template (reverse l.frames)

abbrev pub decreases-frames : goal.decreases-frames
decreases-frames l = length l.frames
