use Rattle.std.proofs.Common.{◌≡◌, map, take}
use Rattle.st_num.specs.declared.token.Token.{Token}
use Rattle.st_elab_def.specs.DeclsOf.{is_input_kind}
use Rattle.st_elab_def.proofs.declared.inputs_of.Given as goal

abbrev pub invariant-loop-word : goal.invariant-loop-word
invariant-loop-word l = l.mode ≡ map (λ (word : Token). is_input_kind word.kind) (take l.word-index l.words)
