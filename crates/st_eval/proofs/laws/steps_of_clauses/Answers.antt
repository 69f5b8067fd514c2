use Rattle.st_eval.proofs.Trying.{law_of_arguments, law_of_next, law_of_failure, law_of_deepness, law_of_results}
use Rattle.st_eval.proofs.Conditions.{law_of_tests, law_of_equations, law_of_sides}
use Rattle.st_eval.proofs.Iterations.{law_of_counts, law_of_elements, law_of_gathering}
use Rattle.st_eval.proofs.Lists.{law_of_lists, law_of_gathered}
use Rattle.st_eval.proofs.CanMeet.{law_of_meeting}
use Rattle.st_eval.proofs.laws.steps_of_clauses.Goals as goal

pub returns-clause-arguments : goal.returns-clause-arguments
returns-clause-arguments c = law_of_arguments

pub returns-clause-next : goal.returns-clause-next
returns-clause-next c = law_of_next

pub returns-clause-failure : goal.returns-clause-failure
returns-clause-failure c = law_of_failure

pub returns-clause-deepness : goal.returns-clause-deepness
returns-clause-deepness c = law_of_deepness

pub returns-clause-results : goal.returns-clause-results
returns-clause-results c = law_of_results

pub returns-clause-tests : goal.returns-clause-tests
returns-clause-tests c = law_of_tests

pub returns-clause-equations : goal.returns-clause-equations
returns-clause-equations c = law_of_equations

pub returns-clause-sides : goal.returns-clause-sides
returns-clause-sides c = law_of_sides

pub returns-clause-counts : goal.returns-clause-counts
returns-clause-counts c = law_of_counts

pub returns-clause-elements : goal.returns-clause-elements
returns-clause-elements c = law_of_elements

pub returns-clause-gathering : goal.returns-clause-gathering
returns-clause-gathering c = law_of_gathering

pub returns-clause-lists : goal.returns-clause-lists
returns-clause-lists c = law_of_lists

pub returns-clause-meeting : goal.returns-clause-meeting
returns-clause-meeting c = law_of_meeting

pub returns-clause-gathered : goal.returns-clause-gathered
returns-clause-gathered c = law_of_gathered
