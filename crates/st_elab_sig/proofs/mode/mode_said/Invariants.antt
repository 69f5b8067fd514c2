use Rattle.std.proofs.Common.{◌≡◌, map, take}
use Rattle.st_elab_sig.specs.Modes.{mode_kind}
use Rattle.st_elab_sig.proofs.mode.mode_said.Given as goal

abbrev pub invariant-loop-word : goal.invariant-loop-word
invariant-loop-word l = map (λ word. word.kind) (take l.word-index l.words) ≡ map mode_kind l.mode
