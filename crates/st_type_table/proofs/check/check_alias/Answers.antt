use Rattle.std.proofs.Common.{sym, subst, drop, Some}
use Rattle.st_type_table.specs.Breach.{FirstFalse, on_alias}
use Rattle.st_type_table.specs.inner.Checking.{NameBreaks}
use Rattle.st_type_table.proofs.CheckLemmas.{alias-breaks}
use Rattle.st_type_table.proofs.PartLemmas.{suc-drop}
use Rattle.st_type_table.proofs.check.check_alias.Goals as goal

pub returns-in-Some : goal.returns-in-Some
returns-in-Some c = c.loop-k.invariant.0 (Some (record { part = 0; name = c.in_ok-name-in-Some.name; rule = c.in-Some.rule }))
    (subst (λ n. FirstFalse c.args.defs.now (on_alias c.args.target.now c.loop-k.k (drop c.loop-k.k c.args.names.now)) (record { part = 0; name = n; rule = c.in-Some.rule })) (sym c.in_ok-name-in-Some.ensures)
    (subst (λ z. FirstFalse c.args.defs.now (on_alias c.args.target.now c.loop-k.k z) (record { part = 0; name = c.loop-k.k; rule = c.in-Some.rule }))
    (sym (suc-drop c.args.names.now c.loop-k.k c.index-names-k.result c.loop-k-test.true c.index-names-k.is))
    (alias-breaks c.args.defs.now c.args.target.now c.index-names-k.result c.loop-k.k _ c.in-Some.rule
    (subst (NameBreaks c.args.defs.now c.args.target.now c.index-names-k.result) c.in-Some.is c.rule_of_name.ensures))))
