-- How the tokens of expressions are read, one after another: each expression as a part by itself,
-- and the commas between them.
use Rattle.std.specs.Prelude.{List, [], ◌∷◌, false, Option, Some, None, option_and_then, if◌then◌else◌}
use Rattle.st_grammar.specs.declared.sort.Sort.TheVariants.{Expression as expression}
use Rattle.st_grammar.specs.Terminals.{Terminal}
use Rattle.st_grammar.specs.Levels.{is_comma}
use Rattle.st_grammar.specs.Trees.{Tree, Trees, none, more}
use Rattle.st_grammar.specs.Definitions.{signed}
use Rattle.st_grammar.specs.Reading as part

-- the expressions that are read, what sets off the next one, and how far that is read
pub record State : Type 0 where
  pub before : Trees
  pub apart : List Terminal
  pub here : part.State

-- how far it is read where a next expression begins, behind these
abbrev pub begun : Trees → List Terminal → State
begun ts pre = record { before = ts; apart = pre; here = part.start (expression false) }

-- A comma behind a whole expression begins the next one.
abbrev pub turn : State → Terminal → Option Tree → Option State
turn st l None = None
turn st l (Some t) =
    if signed is_comma l then Some (begun (more st.before st.apart t) (l ∷ [])) else None

-- how far it is read behind a token, which the open expression takes or which ends that one
abbrev pub goes : State → Terminal → Option part.State → Option State
goes st l (Some next) =
    Some (record { before = st.before; apart = st.apart; here = next })
goes st l None = turn st l (part.finish st.here)

-- how far the tokens are read behind one more, where it may stand there
abbrev pub step : State → Terminal → Option State
step st l = goes st l (part.step st.here l)

-- the expressions so far with the open one, where that is whole
abbrev pub whole : State → Option Tree → Option Trees
whole st None = None
whole st (Some t) = Some (more st.before st.apart t)

-- the expressions, where they may end here
abbrev pub finish : State → Option Trees
finish st = whole st (part.finish st.here)

-- how far some more tokens are read, where each may stand
abbrev pub reading : State → List Terminal → Option State
reading st [] = Some st
reading st (l ∷ w) = option_and_then (λ next. reading next w) (step st l)

-- the expressions that some more tokens complete
abbrev pub reads : State → List Terminal → Option Trees
reads st w = option_and_then finish (reading st w)

-- Before the first token an expression is due.
abbrev pub start : State
start = begun none []
