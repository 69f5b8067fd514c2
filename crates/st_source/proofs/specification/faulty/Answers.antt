use Rattle.std.proofs.Common.{subst}
use Rattle.st_source.specs.inner.Placing.{TellsSourceFault}
use Rattle.st_source.proofs.Checks.{fault_within, files_refused}
use Rattle.st_source.proofs.Specifications.{refuses_files}
use Rattle.st_source.proofs.specification.faulty.Goals as goal

pub bounds-names-at : goal.bounds-names-at
bounds-names-at c =
    fault_within c.args.files.now c.args.names.now c.in-Refused.at c.in-Refused.rule (subst (TellsSourceFault c.args.files.now) c.in-Refused.is c.requires.stands) c.requires.named

pub returns-in-Refused : goal.returns-in-Refused
returns-in-Refused c =
    refuses_files c.args.names.now c.args.files.now c.refused.result c.refused.ensures.status
    (files_refused c.args.names.now c.args.files.now c.index-names-at.result c.as_str-name.result.now c.in-Refused.at c.in-Refused.rule c.refused.result
    (subst (TellsSourceFault c.args.files.now) c.in-Refused.is c.requires.stands) c.requires.named c.index-names-at.is c.as_str-name.ensures c.refused.ensures.bytes)
