use Rattle.std.proofs.Common.{◌≡◌, ◌∷◌, ◌++◌, length, true}
use Rattle.std.specs.List.{flat_map, list_all}
use Rattle.st_scan.specs.Bytes.{is_text_byte}
use Rattle.st_num.specs.Texts.{escaped}
use Rattle.st_scan.proofs.text.read_text.Given as goal

-- a quote, the bytes so far and the rest are the whole
abbrev pub invariant-pieces : goal.invariant-pieces
invariant-pieces l = record {
  split : l.bytes ≡ 34 ∷ flat_map escaped l.text ++ l.rest;
  right : list_all is_text_byte l.text ≡ true;
}

abbrev pub decreases-pieces : goal.decreases-pieces
decreases-pieces l = length l.rest
