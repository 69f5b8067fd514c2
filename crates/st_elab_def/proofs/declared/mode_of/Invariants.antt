use Rattle.std.proofs.Common.{◌≡◌, [], filter, take}
use Rattle.st_el.specs.Erasure.{is_mode}
use Rattle.st_elab_def.proofs.declared.mode_of.Given as goal

abbrev pub invariant-loop-hint : goal.invariant-loop-hint
invariant-loop-hint l = filter is_mode (take l.hint-index l.hints) ≡ []
