use Rattle.std.proofs.Common.{◌≡◌, ◌++◌, flat_map, take}
use Rattle.st_num.specs.Texts.{escaped}
use Rattle.st_latex.specs.Tokens.{text_byte}
use Rattle.st_latex.proofs.token.print_text.Given as goal

abbrev pub invariant-loop-byte : goal.invariant-loop-byte
invariant-loop-byte l =
    l.out.items ≡ l.initial.out.items ++ flat_map text_byte (flat_map escaped (take l.byte-index l.bytes))
