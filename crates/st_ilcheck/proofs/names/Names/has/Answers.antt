use Rattle.std.proofs.Common.{◌≡◌, ap, ◌∙◌}
use Rattle.st_il.specs.Names.{has_name}
use Rattle.st_ilcheck.specs.inner.Names.{names_at}
use Rattle.st_ilcheck.proofs.NamesLemmas.{has-exact}
use Rattle.st_ilcheck.proofs.names.Names.has.Goals as goal

pub returns : goal.returns
returns c = let same : names_at c.self.inside.listed.items ≡ c.args.self.now = cc in
    has-exact (names_at c.self.inside.listed.items) c.self.inside.single.entries c.args.name.now c.at.result c.is_some.result c.self.invariant c.at.ensures c.is_some.ensures
    ∙ ap (λ ns. has_name ns c.args.name.now) same
