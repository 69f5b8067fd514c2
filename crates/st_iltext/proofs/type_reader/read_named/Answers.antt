use Rattle.std.proofs.Common.{refl, codes, arith}
use Rattle.st_text.proofs.Bytes.{heads}
use Rattle.st_iltext.proofs.TyReading.{one_part, more_parts, ty_long, named_is}
use Rattle.st_iltext.proofs.type_reader.read_named.Goals as goal

pub returns-then-not-is_empty : goal.returns-then-not-is_empty
returns-then-not-is_empty c =
    (refl, ty_long (codes "n") _ (λ e. omega (arith, heads e)) (more_parts _ _ _ _ c.in-Some.ensures.cases.0 c.is_empty.ensures c.if-not-is_empty.true))

pub returns : goal.returns
returns c =
    named_is _ _ _ _ (one_part _ _ _ _ c.in-Some.ensures.cases.0 c.is_empty.ensures c.if-not-is_empty.false) c.in-Some-quoted.ensures c.in_ok-copy.ensures
