use Rattle.std.proofs.Common.{refl, sym, subst, drop, add-one, Some, inl}
use Rattle.st_num.specs.declared.rule.RuleId.TheVariants.{B2}
use Rattle.st_type_table.specs.Breach.{Finds, FirstFalse, all_declared, declared, asked_name}
use Rattle.st_type_table.proofs.PositionLemmas.{unplaced}
use Rattle.st_type_table.proofs.CheckLemmas.{Finds-hold, is-declared}
use Rattle.st_type_table.proofs.PartLemmas.{suc-drop}
use Rattle.st_type_table.proofs.check.check_declared.Goals as goal

pub returns-in-None : goal.returns-in-None
returns-in-None c = c.loop-k.invariant (Some (record { part = c.args.part; name = c.in_ok-name-in-None.name; rule = B2 }))
    (subst (λ n. FirstFalse c.args.defs.now (all_declared c.args.part c.loop-k.k (drop c.loop-k.k c.args.names.now)) (record { part = c.args.part; name = n; rule = B2 })) (sym c.in_ok-name-in-None.ensures)
    (subst (λ z. FirstFalse c.args.defs.now (all_declared c.args.part c.loop-k.k z) (record { part = c.args.part; name = c.loop-k.k; rule = B2 }))
    (sym (suc-drop c.args.names.now c.loop-k.k c.index-names-k.result c.loop-k-test.true c.index-names-k.is))
    (inl ((λ h. h (unplaced c.args.defs.now c.index-names-k.result (sym c.in-None.ensures))), refl))))

pub loop-k-preserved : goal.loop-k-preserved
loop-k-preserved c = λ found f. c.loop-k.invariant found
    (subst (λ z. Finds c.args.defs.now (all_declared c.args.part c.loop-k.k z) found)
    (sym (suc-drop c.args.names.now c.loop-k.k c.index-names-k.result c.loop-k-test.true c.index-names-k.is))
    (Finds-hold c.args.defs.now (asked_name c.args.part c.loop-k.k (declared c.index-names-k.result)) _ found (is-declared c.args.defs.now c.index-names-k.result c.in-Some.field-0 (sym c.in-Some.ensures))
    (subst (λ n. Finds c.args.defs.now (all_declared c.args.part n (drop n c.args.names.now)) found) (add-one c.loop-k.k) f)))
