use Rattle.std.proofs.Common.{◌≡◌, [], ◌∷◌, ◌++◌, length, reverse}
use Rattle.st_parse_builder.specs.Variables.{occurrences, without}
use Rattle.st_parse_builder.proofs.leave.put_others.Given as goal

abbrev pub invariant-tokens : goal.invariant-tokens
invariant-tokens l =
    occurrences l.initial.seen ++ without (l.name ∷ []) (occurrences (reverse l.initial.behind))
    ≡ occurrences l.seen ++ without (l.name ∷ []) (occurrences (reverse l.behind))

abbrev pub decreases-tokens : goal.decreases-tokens
decreases-tokens l = length l.behind
