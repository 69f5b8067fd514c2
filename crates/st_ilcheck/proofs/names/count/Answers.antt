use Rattle.std.proofs.Common.{sym, ap, ◌∙◌}
use Rattle.std.specs.Option.{is_some}
use Rattle.st_ilcheck.specs.inner.Names.{names_at}
use Rattle.st_ilcheck.proofs.NamesLemmas.{names-more, counted-more}
use Rattle.st_ilcheck.proofs.names.count.Goals as goal

pub returns-in-Ok-clause-counted : goal.returns-in-Ok-clause-counted
returns-in-Ok-clause-counted c =
    counted-more (names_at c.args.listed.now.items) (names_at c.push.new.self.items) c.args.single.now.entries c.put.new.map.entries c.args.name.now c.is_none-is_first.result
    c.requires (sym (ap is_some c.at.ensures) ∙ c.is_none-is_first.ensures) c.in-Ok.ensures.more (names-more c.args.listed.now.items c.push.new.self.items c.args.name c.in_ok-push.ensures.items)
