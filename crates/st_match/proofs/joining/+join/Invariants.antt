use Rattle.std.proofs.Common.{◌≡◌, drop}
use Rattle.st_match.specs.inner.Joined.{fields_joined, fields_of}
use Rattle.st_match.proofs.joining.+join.Given as goal

abbrev pub invariant-join_fields-loop-i : goal.invariant-join_fields-loop-i
invariant-join_fields-loop-i l = fields_joined l.fields l.others ≡ fields_of l.joined (fields_joined (drop l.i l.fields) (drop l.i l.others))
