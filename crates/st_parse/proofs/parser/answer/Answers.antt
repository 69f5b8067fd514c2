use Rattle.std.proofs.Common.{Err, sym, subst}
use Rattle.st_parse.specs.Source.{Answers}
use Rattle.st_parse.proofs.Fronts.{many, token_fault}
use Rattle.st_parse.proofs.parser.answer.Goals as goal

pub returns-in-Some : goal.returns-in-Some
returns-in-Some c = many c.args.tokens.now c.args.fault c.args.kept c.in-Some.at c.requires c.in-Some.is

pub returns-in-Some-fault : goal.returns-in-Some-fault
returns-in-Some-fault c =
    subst (λ e. Answers c.args.tokens.now (Err e)) (sym c.refused.ensures)
    (token_fault c.args.tokens.now c.args.fault c.args.kept c.in-Some-fault.fault c.requires c.in_default.is c.in-Some-fault.is)
