-- T14: which variables an iteration names, and where no `otherwise` stands.
use Rattle.std.specs.Prelude.{Bool, true, false, not, ◌&&◌, ◌||◌, List, [], ◌∷◌, Option, Some, None}
use Rattle.std.specs.List.{list_all}
use Rattle.st_num.specs.declared.dim.Kind.{Kind}
use Rattle.st_il.specs.declared.definition.Listed.{Listed}
use Rattle.st_il.specs.Occurrences.{occurs, occurs_in_prem}
use Rattle.st_il.specs.declared.expression.IlExp.{IlExp}
use Rattle.st_il.specs.declared.expression.IlExp.TheOpen.{IlExp-F}
use Rattle.st_il.specs.declared.expression.IlPrem.{IlPrem}
use Rattle.st_il.specs.declared.expression.Iteration.{Iteration}
use Rattle.st_il.specs.Names.{Name, has_name}
use Rattle.st_semantics.specs.Environments.{listed_as}
use Rattle.st_semantics.specs.Iterations.{count_of, index_of}
use Rattle.st_semantics.specs.OperationTypes.{Level}
use Rattle.st_semantics.specs.Variables.{has_otherwise}

-- whether a kind is left of a dimension
abbrev pub is_left : List Kind → Bool
is_left [] = false
is_left (k ∷ ks) = true

-- whether a listed variable has a dimension left where it is listed so
abbrev pub has_dimension : Option Listed → Bool
has_dimension None = false
has_dimension (Some l) = is_left l.dim

-- Whether an iteration goes over a variable: it has a dimension left, and occurs in the body, of
-- which each variable is told whether it does; and it is not the index.
abbrev pub goes_over : Iteration → List Listed → (Name → Bool) → Name → Bool
goes_over how ls occurs x =
    has_dimension (listed_as x ls) && (not (has_name (index_of how) x) && occurs x)

-- whether no name stands twice
abbrev pub is_once : List Name → Bool
is_once [] = true
is_once (x ∷ xs) = not (has_name xs x) && is_once xs

-- whether something is named or counted
abbrev pub is_repeated : List Name → List IlExp → Bool
is_repeated [] [] = false
is_repeated [] (e ∷ es) = true
is_repeated (x ∷ xs) es = true

-- whether a listed variable is named where the iteration goes over it
abbrev pub is_named : Iteration → List Name → List Listed → (Name → Bool) → Listed → Bool
is_named how xs ls occurs l = not (goes_over how ls occurs l.name) || has_name xs l.name

-- Whether an iteration names exactly the variables of its body that it goes over, each once, and
-- at least one unless it has a count.
abbrev pub names_exactly : Iteration → List Name → List Listed → (Name → Bool) → Bool
names_exactly how xs ls occurs =
    is_once xs && (list_all (goes_over how ls occurs) xs
    && (list_all (is_named how xs ls occurs) ls && is_repeated xs (count_of how)))

-- whether an expression that is an iteration names them so
abbrev pub names_kept : List Listed → Level → Bool
names_kept ls (IlExp-F.Iter how xs body) = names_exactly how xs ls (λ x. occurs x body)
names_kept ls _ = true

-- whether an iterated premise names them so, and is no `otherwise`
abbrev pub each_kept : Iteration → List Name → List Listed → IlPrem → Bool
each_kept how xs ls body =
    names_exactly how xs ls (λ x. occurs_in_prem x body) && not (has_otherwise body)
