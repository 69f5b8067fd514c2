use Rattle.std.proofs.Common.{refl, ap, ◌∙◌}
use Rattle.st_order.specs.Known.{all_now}
use Rattle.st_order.proofs.RuleParts.{all_now_append}
use Rattle.st_modes.proofs.HasRead.{reads_clause, reads_fun, reads_silent}
use Rattle.st_modes.proofs.citations.read.Goals as goal

pub returns-in_ok-add_calls-in-Clause : goal.returns-in_ok-add_calls-in-Clause
returns-in_ok-add_calls-in-Clause c defs h =
    reads_clause defs c.args.definition.now c.in-Clause.clause c.args.citations.now _ c.in-Clause.is h c.in_ok-add_calls-in-Clause.ensures.names c.in_ok-add_calls-in-Clause.ensures.there refl refl refl refl

pub returns-in_ok-push-in-Fun : goal.returns-in_ok-push-in-Fun
returns-in_ok-push-in-Fun c defs h =
    reads_fun defs c.args.definition.now c.in-Fun.fun c.args.citations.now _ c.in-Fun.is h (ap all_now c.in_ok-push-in-Fun.ensures.ok ∙ all_now_append c.args.citations.now.funs _) refl refl refl refl

pub returns-in-Syntax : goal.returns-in-Syntax
returns-in-Syntax c defs h = reads_silent defs c.args.definition.now c.args.citations.now c.in-Syntax.is h

pub returns-in-Syntax-2 : goal.returns-in-Syntax-2
returns-in-Syntax-2 c defs h = reads_silent defs c.args.definition.now c.args.citations.now c.in-Syntax.is h

pub returns-in-Syntax-3 : goal.returns-in-Syntax-3
returns-in-Syntax-3 c defs h = reads_silent defs c.args.definition.now c.args.citations.now c.in-Syntax.is h
