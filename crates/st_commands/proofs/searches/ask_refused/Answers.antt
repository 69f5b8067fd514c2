use Rattle.st_commands.proofs.SaysLemmas.{tells_fault}
use Rattle.st_commands.proofs.searches.ask_refused.Goals as goal

pub returns-in-Refused : goal.returns-in-Refused
returns-in-Refused c =
    tells_fault c.args.fault c.in-Refused.at c.in-Refused.rule c.refused_term.result c.in-Refused.is c.refused_term.ensures.status c.refused_term.ensures.bytes
