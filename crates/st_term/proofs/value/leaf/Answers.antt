use Rattle.st_term.proofs.TermValues.{value_Bool, value_Number, value_Text, value_Empty, value_Absent}
use Rattle.st_term.proofs.value.leaf.Goals as goal

pub returns-in-Bool : goal.returns-in-Bool
returns-in-Bool c = value_Bool c.args.types.now c.args.exp.now c.in-Bool.truth c.in-Bool.is

pub returns-in_ok-value-in-Number : goal.returns-in_ok-value-in-Number
returns-in_ok-value-in-Number c = value_Number c.args.types.now c.args.exp.now c.in-Number.number c.in_ok-value-in-Number.value c.in-Number.is c.in_ok-value-in-Number.ensures

pub returns-in_ok-text-in-Text : goal.returns-in_ok-text-in-Text
returns-in_ok-text-in-Text c = value_Text c.args.types.now c.args.exp.now c.in-Text.text c.in_ok-text-in-Text.text c.in-Text.is c.in_ok-text-in-Text.ensures

pub returns-in-Empty : goal.returns-in-Empty
returns-in-Empty c = value_Empty c.args.types.now c.args.exp.now c.in-Empty.field-0 c.in-Empty.is

pub returns-in_ok-value-in-Absent : goal.returns-in_ok-value-in-Absent
returns-in_ok-value-in-Absent c = value_Absent c.args.types.now c.args.exp.now c.in-Absent.ty c.in_ok-value-in-Absent.value c.in-Absent.is c.in_ok-value-in-Absent.ensures
