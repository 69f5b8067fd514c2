use Rattle.std.proofs.Common.{refl, subst, take}
use Rattle.st_ilcheck.specs.Typed.{Breaks, BreaksByTypes}
use Rattle.st_ilcheck.proofs.SyntaxLemmas.{read-there, same-there}
use Rattle.st_ilcheck.proofs.TypedLemmas.{breaks-made}
use Rattle.st_ilcheck.proofs.breach.broken_at.Goals as goal

pub returns : goal.returns
returns c = λ d e.
    let there = read-there c.args.il.now.defs c.as_slice-defs.result.now c.args.at c.index-defs-at.result c.index-defs-at.result c.as_slice-defs.ensures c.requires.within c.index-defs-at.is refl in
    subst (λ z. Breaks c.args.il.now (take c.args.at c.args.il.now.defs) z c.in_ok-all.all) (same-there c.args.il.now.defs c.args.at c.index-defs-at.result d there e)
    (breaks-made c.args.il.now (take c.args.at c.args.il.now.defs) c.index-defs-at.result c.in_ok-names.names c.in_ok-variables.variables c.in_ok-indices.indices
    c.new.result c.in_ok-first.first c.in_ok-second.second c.in_ok-third.third c.in_ok-by_types.by_types c.in_ok-all.all
    (c.in_ok-names.ensures c.index-defs-at.result there) c.in_ok-variables.ensures c.in_ok-indices.ensures (subst (λ z. BreaksByTypes z c.index-defs-at.result c.in_ok-by_types.by_types) c.requires.language c.in_ok-by_types.ensures) c.new.ensures c.in_ok-first.ensures c.in_ok-second.ensures c.in_ok-third.ensures c.in_ok-all.ensures)
