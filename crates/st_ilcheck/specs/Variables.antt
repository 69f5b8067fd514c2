-- T2 and T14: the variables of a rule or a clause, and the iterations round them.
use Rattle.std.specs.Prelude.{◌≡◌, true, false, not, List, [], ◌∷◌, ◌++◌, map, filter, All, Contains, Some}
use Rattle.st_num.specs.declared.dim.Kind.{Kind}
use Rattle.st_il.specs.declared.definition.Listed.{Listed}
use Rattle.st_il.specs.declared.expression.IlExp.{IlExp, fold-IlExp}
use Rattle.st_il.specs.declared.expression.IlExp.TheOpen.{IlExp-F, Iteration-F}
use Rattle.st_il.specs.declared.expression.IlPrem.{IlPrem, fold-IlPrem}
use Rattle.st_il.specs.declared.expression.IlPrem.TheOpen.{IlPrem-F}
use Rattle.st_il.specs.Names.{Name, has_name, flattened}
use Rattle.st_semantics.specs.Environments.{listed_as, listed_names}
use Rattle.st_semantics.specs.Operands.{operands_at, item_at, segment_at}
use Rattle.st_semantics.specs.Iterations.{count_of, index_of, kind_of, count_at, index_at, kind_at}
use Rattle.st_ilcheck.specs.Naming.{is_once}

-- ---- occurrences

-- an occurrence of a variable: its name, and the kinds of the iterations round it, outermost first
abbrev pub Occurrence : Type 0
Occurrence = Name × List Kind

-- what is told of an iteration: the occurrences in its count, its index and its kind
pub record Repeated : Type 0 where
  pub count : List Occurrence
  pub index : List Name
  pub kind : Kind

-- an occurrence with one more iteration round it
abbrev pub deeper : Kind → Occurrence → Occurrence
deeper kind o = (o.0, kind ∷ o.1)

-- the occurrences in the body of an iteration of this kind, without those of its index
abbrev pub inside : List Name → Kind → List Occurrence → List Occurrence
inside index kind occurrences =
    map (deeper kind) (filter (λ (o : Occurrence). not (has_name index o.0)) occurrences)

-- what is told of an iteration whose count has these occurrences in it
abbrev pub repeated_at : {L S : Type 0} → Iteration-F (List Occurrence) Repeated L S → Repeated
repeated_at how =
    record { count = flattened (count_at how); index = index_at how; kind = kind_at how }

-- the occurrences in a level whose parts have these
abbrev pub occurrences_at : IlExp-F (List Occurrence) Repeated (List Occurrence)
    (List (List Occurrence)) → List Occurrence
occurrences_at (IlExp-F.Var x) = (x, []) ∷ []
occurrences_at (IlExp-F.Iter how xs body) = how.count ++ inside how.index how.kind body
occurrences_at level = flattened
    (operands_at (λ (os : List Occurrence). os) (λ (oss : List (List Occurrence)). oss) level)

-- The occurrences of variables in an expression, from left to right. The count of an iteration
-- stands outside of it, and an index is no variable in its body.
abbrev pub occurrences : IlExp → List Occurrence
occurrences = fold-IlExp (List Occurrence) Repeated (List Occurrence)
    (List (List Occurrence)) occurrences_at repeated_at item_at segment_at

-- the occurrences in several expressions
abbrev pub occurrences_in : List IlExp → List Occurrence
occurrences_in es = flattened (map occurrences es)

-- the occurrences in a level of premises
abbrev pub prem_occurrences_at : IlPrem-F (List Occurrence) → List Occurrence
prem_occurrences_at (IlPrem-F.If e) = occurrences e
prem_occurrences_at (IlPrem-F.Goal relation es) = occurrences_in es
prem_occurrences_at IlPrem-F.Otherwise = []
prem_occurrences_at (IlPrem-F.Each how xs body) =
    occurrences_in (count_of how) ++ inside (index_of how) (kind_of how) body

-- the occurrences of variables in a premise
abbrev pub prem_occurrences : IlPrem → List Occurrence
prem_occurrences = fold-IlPrem (List Occurrence) prem_occurrences_at

-- the occurrences in some expressions, and then in some premises
abbrev pub all_occurrences : List IlExp → List IlPrem → List Occurrence
all_occurrences es ps = occurrences_in es ++ flattened (map prem_occurrences ps)

-- ---- T2

-- the first kinds of these are those
pub record BeginsWith (dim kinds : List Kind) : Type 0 where
  pub rest : List Kind
  pub whole : kinds ≡ dim ++ rest

-- an occurrence is of a listed variable, and the iterations round it begin with its dimension
pub record IsListed (ls : List Listed) (o : Occurrence) : Type 0 where
  pub variable : Listed
  pub found : listed_as o.0 ls ≡ Some variable
  pub begins : BeginsWith variable.dim o.1

-- T2: each variable is listed once. Each occurrence is of a listed one, and the iterations round it
-- begin with its dimension; and these are all that are round one of its occurrences.
pub record AreListed (ls : List Listed) (os : List Occurrence) : Type 0 where
  pub once : is_once (listed_names ls) ≡ true
  pub listed : All (IsListed ls) os
  pub occur : All (λ (l : Listed). Contains os (l.name, l.dim)) ls

-- ---- T14

-- the indices in a level, where it is told of each iteration in its parts which they have
abbrev pub indices_at : IlExp-F (List Name) (List Name) (List Name) (List (List Name)) → List Name
indices_at (IlExp-F.Iter how xs body) = how ++ body
indices_at level =
    flattened (operands_at (λ (xs : List Name). xs) (λ (xss : List (List Name)). xss) level)

-- the index of an iteration, and those in its count
abbrev pub count_indices_at : {L S : Type 0} → Iteration-F (List Name) (List Name) L S → List Name
count_indices_at how = index_at how ++ flattened (count_at how)

-- the indices of all iterations in an expression
abbrev pub indices : IlExp → List Name
indices = fold-IlExp (List Name) (List Name) (List Name)
    (List (List Name)) indices_at count_indices_at item_at segment_at

-- the indices in several expressions
abbrev pub indices_in : List IlExp → List Name
indices_in es = flattened (map indices es)

-- the indices in a level of premises
abbrev pub prem_indices_at : IlPrem-F (List Name) → List Name
prem_indices_at (IlPrem-F.If e) = indices e
prem_indices_at (IlPrem-F.Goal relation es) = indices_in es
prem_indices_at IlPrem-F.Otherwise = []
prem_indices_at (IlPrem-F.Each how xs body) = index_of how ++ (indices_in (count_of how) ++ body)

-- the indices in a premise
abbrev pub prem_indices : IlPrem → List Name
prem_indices = fold-IlPrem (List Name) prem_indices_at

-- the indices in some expressions, and then in some premises
abbrev pub all_indices : List IlExp → List IlPrem → List Name
all_indices es ps = indices_in es ++ flattened (map prem_indices ps)

-- the names of occurrences
abbrev pub names_of : List Occurrence → List Name
names_of os = map (λ (o : Occurrence). o.0) os

-- T14: an index occurs only in bodies that have it as their index
abbrev pub IndicesStayInside : List IlExp → List IlPrem → Type 0
IndicesStayInside es ps =
    All (λ (i : Name). has_name (names_of (all_occurrences es ps)) i ≡ false) (all_indices es ps)
