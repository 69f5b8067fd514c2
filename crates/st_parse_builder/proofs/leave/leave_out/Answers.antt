use Rattle.std.proofs.Common.{List, ◌≡◌, OnOk, subst}
use Rattle.st_parse_builder.specs.Variables.{Occurrence, occurrences}
use Rattle.st_parse_builder.proofs.Leaving.{parts_left}
use Rattle.st_parse_builder.proofs.leave.leave_out.Goals as goal

pub returns : goal.returns
returns c =
    let P : List Occurrence → Type 0 = λ os. OnOk c.put_others.result (occurrences c.put_others.new.seen ≡ os) in
    subst P (parts_left c.args.name.now c.args.seen.now c.take_off.new.seen c.in_ok-behind.behind c.args.from c.in_ok-behind.ensures.0 c.in_ok-behind.ensures.1) c.put_others.ensures
