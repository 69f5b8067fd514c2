use Rattle.st_parse_law.proofs.TextLaw.{file_proper, expressions_kept}
use Rattle.st_parse_law.proofs.DefTexts.{definitions_kept}
use Rattle.st_parse_law.proofs.PlainTexts.{plain_texts}
use Rattle.st_parse_law.proofs.laws.texts_are_kept.Goals as goal

pub returns-clause-of_files : goal.returns-clause-of_files
returns-clause-of_files c number file tokens scanned = file_proper number file tokens scanned

pub returns-clause-of_expressions : goal.returns-clause-of_expressions
returns-clause-of_expressions c names tokens es proper parsed = expressions_kept names tokens es proper parsed

pub returns-clause-of_definitions : goal.returns-clause-of_definitions
returns-clause-of_definitions c names tokens defs proper parsed = definitions_kept names tokens defs proper parsed

pub returns-clause-of_plain : goal.returns-clause-of_plain
returns-clause-of_plain c e = plain_texts e
