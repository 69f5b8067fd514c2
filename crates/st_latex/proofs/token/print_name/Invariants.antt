use Rattle.std.proofs.Common.{◌≡◌, ◌++◌, flat_map, take}
use Rattle.st_latex.specs.Tokens.{name_byte}
use Rattle.st_latex.proofs.token.print_name.Given as goal

abbrev pub invariant-loop-byte : goal.invariant-loop-byte
invariant-loop-byte l = l.out.items ≡ l.initial.out.items ++ flat_map name_byte (take l.byte-index l.name)
