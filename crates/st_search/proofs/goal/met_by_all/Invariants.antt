use Rattle.std.proofs.Common.{take}
use Rattle.st_il.specs.Definitions.{syntaxes}
use Rattle.st_match.specs.inner.Scope.{scope_env}
use Rattle.st_search.specs.inner.Meeting.{AllMeetings}
use Rattle.st_search.proofs.goal.met_by_all.Given as goal

abbrev pub invariant-loop-answer : goal.invariant-loop-answer
invariant-loop-answer l = AllMeetings (syntaxes l.search.setting.index.now) l.variables (scope_env l.scope) l.holes l.patterns (take l.answer-index l.answers) l.found
