use Rattle.st_il.proofs.TagParts.{no_sign}
use Rattle.st_il.proofs.tag_part.sign_of.Goals as goal

pub returns-clause-none : goal.returns-clause-none
returns-clause-none c = no_sign c.find_sign.result c.args.text.now c.find_sign.ensures.none
