use Rattle.std.proofs.Common.{sym, ◌∙◌, arith}
use Rattle.st_scan.specs.Faults.{comment_open}
use Rattle.st_scan.proofs.read.read_token.Goals as goal

pub returns-then-opens_comment : goal.returns-then-opens_comment
returns-then-opens_comment c = (comment_open (sym c.opens_comment.ensures ∙ c.if-opens_comment.true), omega arith)
