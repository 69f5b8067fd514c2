use Rattle.st_il.proofs.TagTemplates.{is_template}
use Rattle.st_erase.proofs.source.erase_exp.Goals as goal

pub returns-in_err-source-clause-templates : goal.returns-in_err-source-clause-templates
returns-in_err-source-clause-templates c = is_template

pub returns-clause-templates : goal.returns-clause-templates
returns-clause-templates c = is_template
