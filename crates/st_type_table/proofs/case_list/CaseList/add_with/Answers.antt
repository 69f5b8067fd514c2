use Rattle.std.proofs.Common.{◌≡◌, sym, subst, [], ◌∷◌, ◌++◌}
use Rattle.st_il.specs.Key.{plain}
use Rattle.st_type_table.specs.declared.entry.CaseDef.{CaseDef}
use Rattle.st_type_table.specs.Keys.{HasKey}
use Rattle.st_type_table.proofs.CaseKeyLemmas.{IsKeyed-push}
use Rattle.st_type_table.proofs.KeyIndexLemmas.{clash-found, clash-none}
use Rattle.st_type_table.proofs.case_list.CaseList.add_with.Goals as goal

pub returns-in-Some-clause-added : goal.returns-in-Some-clause-added
returns-in-Some-clause-added c = clash-found c.args.self.now.items c.args.self.now.index c.args.tag.now (plain c.args.key.now) c.in-Some.field-0 c.requires.keyed.indexed c.requires.key c.in-Some.ensures

pub returns-clause-added : goal.returns-clause-added
returns-clause-added c = (
  subst (λ (x : CaseDef). c.push-2.new.self ≡ c.args.self.now.items ++ x ∷ []) c.in_ok-case.ensures c.in_ok-push-2.ensures.ok,
  clash-none c.args.self.now.items c.args.self.now.index c.args.tag.now (plain c.args.key.now) c.requires.keyed.indexed c.requires.key c.in_default.ensures,
)

pub returns-clause-keyed : goal.returns-clause-keyed
returns-clause-keyed c = IsKeyed-push c.args.self.now c.in_ok-case.case c.in_ok-kept.kept (plain c.args.key.now) c.len-number.result c.push-2.new.self c.push.new.self c.insert.new.self c.requires.keyed
    (subst (λ (x : CaseDef). HasKey x.tag (plain c.args.key.now)) (sym c.in_ok-case.ensures) c.requires.key) c.in_ok-kept.ensures c.in_default.ensures c.len-number.ensures c.in_ok-insert.ensures
    c.in_ok-push-2.ensures.ok c.in_ok-push.ensures.ok
