use Rattle.std.proofs.Common.{ap, drop}
use Rattle.st_num.specs.declared.fault.Fault.TheVariants.{Refused}
use Rattle.st_scan.proofs.Steps.{at_skipped, place_is}
use Rattle.st_scan.proofs.scanner.refusal.Goals as goal

pub returns : goal.returns
returns c =
    let file = c.args.bytes.now in
    let n = c.args.skipped in
    ap (λ at. Refused at c.args.rule)
    (place_is c.args.file file (drop n file) c.behind-here.result c.span.result c.span.ensures (at_skipped file n c.start.result c.behind-here.result c.start.ensures c.behind-here.ensures.same))
