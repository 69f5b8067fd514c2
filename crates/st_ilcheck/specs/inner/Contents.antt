-- What stands in expressions, told together.
use Rattle.std.specs.Prelude.{◌≡◌, List, [], ◌∷◌, ◌++◌, map, length}
use Rattle.st_il.specs.declared.expression.IlExp.{IlExp}
use Rattle.st_il.specs.declared.expression.IlExp.TheOpen.{IlExp-F}
use Rattle.st_il.specs.declared.expression.IlPrem.{IlPrem}
use Rattle.st_il.specs.declared.expression.Iteration.{Iteration}
use Rattle.st_type_table.specs.Leads.{names_in}
use Rattle.st_il.specs.Names.{Name, flattened}
use Rattle.st_semantics.specs.Iterations.{count_of, index_of, kind_of}
use Rattle.st_semantics.specs.OperationTypes.{Level}
use Rattle.st_semantics.specs.Variables.{called, called_in, prem_called}
use Rattle.st_ilcheck.specs.declared.contents.Contents.{Contents}
use Rattle.st_ilcheck.specs.Declarations.{tags, tags_in, prem_tags, syntaxes_cited, syntaxes_cited_in, prem_syntaxes}
use Rattle.st_ilcheck.specs.Variables.{occurrences, occurrences_in, prem_occurrences, inside, indices, indices_in, prem_indices}

-- nothing at all
abbrev pub nothing : Contents
nothing = record { syntaxes = []; functions = []; tags = []; indices = []; occurrences = [] }

-- what stands in either
abbrev pub joined : Contents → Contents → Contents
joined a b = record {
  syntaxes = a.syntaxes ++ b.syntaxes;
  functions = a.functions ++ b.functions;
  tags = a.tags ++ b.tags;
  indices = a.indices ++ b.indices;
  occurrences = a.occurrences ++ b.occurrences;
}

-- names of syntaxes alone
abbrev pub citing : List Name → Contents
citing names = record { syntaxes = names; functions = []; tags = []; indices = []; occurrences = [] }

-- what stands in a level itself, and not in its parts
abbrev pub own_at : Level → Contents
own_at (IlExp-F.Var x) =
    record { syntaxes = []; functions = []; tags = []; indices = []; occurrences = (x, []) ∷ [] }
own_at (IlExp-F.Case type tag es) = record {
  syntaxes = type ∷ [];
  functions = [];
  tags = (tag, length es) ∷ [];
  indices = [];
  occurrences = [];
}
own_at (IlExp-F.Fields type es) = citing (type ∷ [])
own_at (IlExp-F.List t items) = citing (names_in t)
own_at (IlExp-F.Empty t) = citing (names_in t)
own_at (IlExp-F.Absent t) = citing (names_in t)
own_at (IlExp-F.Up t e) = citing (names_in t)
own_at (IlExp-F.Call fun es) =
    record { syntaxes = []; functions = fun ∷ []; tags = []; indices = []; occurrences = [] }
own_at (IlExp-F.Iter how xs body) =
    record { syntaxes = []; functions = []; tags = []; indices = index_of how; occurrences = [] }
own_at level = nothing

-- what stands in the body of an iteration: the occurrences in it have one more iteration round them
abbrev pub within : Iteration → Contents → Contents
within how c = record {
  syntaxes = c.syntaxes;
  functions = c.functions;
  tags = c.tags;
  indices = c.indices;
  occurrences = inside (index_of how) (kind_of how) c.occurrences;
}

-- that is what stands in an expression
pub record IsContents (e : IlExp) (c : Contents) : Type 0 where
  pub syntaxes : c.syntaxes ≡ syntaxes_cited e
  pub functions : c.functions ≡ called e
  pub tagged : c.tags ≡ tags e
  pub counting : c.indices ≡ indices e
  pub variables : c.occurrences ≡ occurrences e

-- that is what stands in several expressions
pub record AreContents (es : List IlExp) (c : Contents) : Type 0 where
  pub syntaxes : c.syntaxes ≡ syntaxes_cited_in es
  pub functions : c.functions ≡ called_in es
  pub tagged : c.tags ≡ tags_in es
  pub counting : c.indices ≡ indices_in es
  pub variables : c.occurrences ≡ occurrences_in es

-- that is what stands in the count of an iteration and in its body
pub record IsWithin (how : Iteration) (body : IlExp) (c : Contents) : Type 0 where
  pub counted : Contents
  pub inner : Contents
  pub count : AreContents (count_of how) counted
  pub repeated : IsContents body inner
  pub whole : c ≡ joined counted (within how inner)

-- that is what stands in a premise
pub record IsPremContents (p : IlPrem) (c : Contents) : Type 0 where
  pub syntaxes : c.syntaxes ≡ prem_syntaxes p
  pub functions : c.functions ≡ prem_called p
  pub tagged : c.tags ≡ prem_tags p
  pub counting : c.indices ≡ prem_indices p
  pub variables : c.occurrences ≡ prem_occurrences p

-- that is what stands in several premises
pub record ArePremContents (ps : List IlPrem) (c : Contents) : Type 0 where
  pub syntaxes : c.syntaxes ≡ flattened (map prem_syntaxes ps)
  pub functions : c.functions ≡ flattened (map prem_called ps)
  pub tagged : c.tags ≡ flattened (map prem_tags ps)
  pub counting : c.indices ≡ flattened (map prem_indices ps)
  pub variables : c.occurrences ≡ flattened (map prem_occurrences ps)

-- that is what stands in some expressions and then in some premises
pub record AreAllContents (es : List IlExp) (ps : List IlPrem) (c : Contents) : Type 0 where
  pub expressions : Contents
  pub premises : Contents
  pub first : AreContents es expressions
  pub then_premises : ArePremContents ps premises
  pub whole : c ≡ joined expressions premises
