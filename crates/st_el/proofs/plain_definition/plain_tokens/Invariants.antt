use Rattle.std.proofs.Common.{◌≡◌, map, take}
use Rattle.st_el.specs.Erasure.{plain_token}
use Rattle.st_el.proofs.plain_definition.plain_tokens.Given as goal

abbrev pub invariant-loop-token : goal.invariant-loop-token
invariant-loop-token l = l.plain ≡ map plain_token (take l.token-index l.tokens)
