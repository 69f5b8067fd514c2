use Rattle.st_parse_law.proofs.Scanned.{written_tokens}
use Rattle.st_parse_law.proofs.laws.written_tokens.Goals as goal

pub returns : goal.returns
returns c number pieces h = written_tokens number pieces h
