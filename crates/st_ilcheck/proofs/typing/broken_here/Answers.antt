use Rattle.st_il.specs.declared.expression.IlExp.{out-IlExp}
use Rattle.st_ilcheck.proofs.Builds.{here-breaks}
use Rattle.st_ilcheck.proofs.typing.broken_here.Goals as goal

pub returns : goal.returns
returns c =
    here-breaks c.args.language.now c.args.listed.now (out-IlExp c.args.exp.now) c.args.types.now c.in_ok-form.form c.in_ok-path.path c.names_kept.result c.rule_of.result
    c.new.result c.in_ok-first.first c.in_ok-second.second c.in_ok-third.third
    c.in_ok-form.ensures c.in_ok-path.ensures c.names_kept.ensures c.rule_of.ensures c.new.ensures c.in_ok-first.ensures c.in_ok-second.ensures c.in_ok-third.ensures
