use Rattle.st_parse_law.proofs.Law.{file_tokens, more_tokens}
use Rattle.st_parse_law.proofs.laws.tokens_of_files.Goals as goal

pub returns-clause-one : goal.returns-clause-one
returns-clause-one c number file tokens scanned = file_tokens number file tokens scanned

pub returns-clause-more : goal.returns-clause-more
returns-clause-more c first later h k = more_tokens first later h k
