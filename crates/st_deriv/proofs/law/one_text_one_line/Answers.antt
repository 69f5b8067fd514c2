use Rattle.st_deriv.proofs.LineFeeds.{no_line_feed}
use Rattle.st_deriv.proofs.Whole.{one_text, one_line, printed_is_read}
use Rattle.st_deriv.proofs.law.one_text_one_line.Goals as goal

pub returns-clause-text : goal.returns-clause-text
returns-clause-text c = one_text

pub returns-clause-line : goal.returns-clause-line
returns-clause-line c = one_line

pub returns-clause-printed : goal.returns-clause-printed
returns-clause-printed c = printed_is_read

pub returns-clause-feed : goal.returns-clause-feed
returns-clause-feed c = no_line_feed
