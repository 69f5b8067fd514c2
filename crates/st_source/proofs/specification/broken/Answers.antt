use Rattle.st_elab_def.proofs.IsBreach.{IsBreach-within}
use Rattle.st_source.proofs.Checks.{source_broken}
use Rattle.st_source.proofs.Specifications.{refuses_source}
use Rattle.st_source.proofs.specification.broken.Goals as goal

pub bounds-defs-breach : goal.bounds-defs-breach
bounds-defs-breach c = IsBreach-within c.args.defs.now c.args.breach c.requires.first

pub returns : goal.returns
returns c =
    refuses_source c.args.names.now c.args.defs.now c.refused_in.result c.refused_in.ensures.status
    (source_broken c.args.names.now c.args.defs.now c.args.breach c.index-defs-breach.result c.refused_in.result c.requires.first c.index-defs-breach.is c.refused_in.ensures.bytes)
