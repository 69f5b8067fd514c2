use Rattle.std.proofs.Common.{sym, subst, length, arith}
use Rattle.st_scan.specs.Faults.{no_token}
use Rattle.st_scan.specs.inner.Readings.{IsReading}
use Rattle.st_num.specs.declared.token.TokenKind.TheVariants.{Sign}
use Rattle.st_scan.proofs.Readings.{begins_sign, sign_reading, unquoted, unsigned_token}
use Rattle.st_scan.proofs.read.read_sign.Goals as goal

pub returns-in-Some : goal.returns-in-Some
returns-in-Some c =
    subst (λ u. IsReading c.args.bytes.now (record { kind = Sign c.in-Some.mark; length = length u })) (sym c.spelling.ensures)
    (sign_reading _ c.in-Some.mark (begins_sign c.args.bytes.now c.requires) c.requires.no_comment c.in-Some.ensures)

pub returns-in-None : goal.returns-in-None
returns-in-None c =
    (no_token c.requires.some (unsigned_token _ (begins_sign c.args.bytes.now c.requires) c.in-None.ensures) c.requires.no_comment (unquoted _ c.requires.no_quote), omega arith)
