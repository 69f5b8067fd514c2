use Rattle.st_ilcheck.proofs.SyntaxLemmas.{cites-kept}
use Rattle.st_ilcheck.proofs.declarations.cites_once.Goals as goal

pub returns : goal.returns
returns c = cites-kept c.args.il.now c.args.def.now c.args.whole.now c.in_ok-cited.cited c.requires c.in_ok-cited.ensures c.in_ok-kept.kept c.in_ok-kept.ensures
