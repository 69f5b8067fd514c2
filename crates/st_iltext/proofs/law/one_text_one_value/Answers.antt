use Rattle.st_iltext.proofs.ValueTexts.{one_value_text, one_value, no_value_begins_another}
use Rattle.st_iltext.proofs.law.one_text_one_value.Goals as goal

pub returns-clause-text : goal.returns-clause-text
returns-clause-text c = one_value_text

pub returns-clause-value : goal.returns-clause-value
returns-clause-value c = one_value

pub returns-clause-no_front : goal.returns-clause-no_front
returns-clause-no_front c = no_value_begins_another
