use Rattle.st_parse_law.proofs.Law.{list_back}
use Rattle.st_parse_law.proofs.DefLaw.{defs_back}
use Rattle.st_parse_law.proofs.laws.printed_is_read_back.Goals as goal

pub returns-clause-in_list : goal.returns-clause-in_list
returns-clause-in_list c names again tokens es e files parsed among = list_back names again tokens es e files parsed among

pub returns-clause-in_definitions : goal.returns-clause-in_definitions
returns-clause-in_definitions c names again tokens defs e files parsed among = defs_back names again tokens defs e files parsed among
