-- What is noted of the internal language, as it is of a source.
use Rattle.std.specs.Prelude.{ℕ, List, [], ◌∷◌, ◌++◌, length, map, Bool, true, false, if◌then◌else◌}
use Rattle.st_num.specs.Names.{is_among}
use Rattle.st_num.specs.declared.dim.Kind.{Kind}
use Rattle.st_num.specs.declared.dim.Kind.TheVariants as kind
use Rattle.st_il.specs.declared.expression.IlExp.{IlExp, fold-IlExp}
use Rattle.st_il.specs.declared.expression.IlExp.TheOpen.{IlExp-F, Iteration-F, ListItem-F, PathSeg-F}
use Rattle.st_il.specs.declared.expression.Iteration.{Iteration, fold-Iteration}
use Rattle.st_il.specs.declared.expression.ListItem.{ListItem, fold-ListItem}
use Rattle.st_il.specs.declared.expression.PathSeg.{PathSeg, fold-PathSeg}
use Rattle.st_il.specs.declared.expression.IlPrem.{IlPrem, fold-IlPrem}
use Rattle.st_il.specs.declared.expression.IlPrem.TheOpen.{IlPrem-F}
use Rattle.st_dims.specs.Around.{outside, entered}
use Rattle.st_elab_law.specs.Notes.{Note, occurs, indexes, iterates, Notes, names_of, nothing, beside, all_of}

-- an iteration: what it makes of its body, its index, whether it has to iterate something, and what
-- is noted of its count
pub record Round : Type 0 where
  pub kind : Kind
  pub index : List (List ℕ)
  pub must : Bool
  pub count : Notes

-- a variable, but for an index of an iteration round it
abbrev pub variable : List ℕ → Notes
variable name within =
    if is_among name within.indices then [] else occurs name within.kinds ∷ []

-- an iteration inside of so many others, where it has to iterate something, by what is noted of
-- its body
abbrev pub iteration_note : Bool → ℕ → List Note → List Note
iteration_note must depth body = if must then iterates depth (names_of body) ∷ [] else []

-- an iteration, its index, what is noted of its body, and then of its count, which stands outside
abbrev pub iterated : Round → Notes → Notes
iterated round body within =
    iteration_note round.must (length within.kinds) (body (entered round.kind round.index within))
    ++ map indexes round.index ++ body (entered round.kind round.index within)
    ++ round.count within

-- what is noted of an expression, by what is noted of its parts
abbrev pub noted_at : IlExp-F Notes Round Notes Notes → Notes
noted_at (IlExp-F.Bool truth) = nothing
noted_at (IlExp-F.Number n) = nothing
noted_at (IlExp-F.Text text) = nothing
noted_at (IlExp-F.Var name) = variable name
noted_at (IlExp-F.Not x) = x
noted_at (IlExp-F.And x y) = beside x y
noted_at (IlExp-F.Or x y) = beside x y
noted_at (IlExp-F.Imp x y) = beside x y
noted_at (IlExp-F.Iff x y) = beside x y
noted_at (IlExp-F.Neg x) = x
noted_at (IlExp-F.Add n x y) = beside x y
noted_at (IlExp-F.Sub n x y) = beside x y
noted_at (IlExp-F.Mul n x y) = beside x y
noted_at (IlExp-F.Div n x y) = beside x y
noted_at (IlExp-F.Rem n x y) = beside x y
noted_at (IlExp-F.Pow n x y) = beside x y
noted_at (IlExp-F.Eq x y) = beside x y
noted_at (IlExp-F.Ne x y) = beside x y
noted_at (IlExp-F.Lt x y) = beside x y
noted_at (IlExp-F.Gt x y) = beside x y
noted_at (IlExp-F.Le x y) = beside x y
noted_at (IlExp-F.Ge x y) = beside x y
noted_at (IlExp-F.Member x y) = beside x y
noted_at (IlExp-F.Case t tag xs) = all_of xs
noted_at (IlExp-F.Fields t xs) = all_of xs
noted_at (IlExp-F.Dot x field) = x
noted_at (IlExp-F.Set x path y) = beside (beside x (all_of path)) y
noted_at (IlExp-F.Extend x path y) = beside (beside x (all_of path)) y
noted_at (IlExp-F.Tuple xs) = all_of xs
noted_at (IlExp-F.List t items) = all_of items
noted_at (IlExp-F.Cat x y) = beside x y
noted_at (IlExp-F.Join x y) = beside x y
noted_at (IlExp-F.Empty t) = nothing
noted_at (IlExp-F.Present x) = x
noted_at (IlExp-F.Absent t) = nothing
noted_at (IlExp-F.Len x) = x
noted_at (IlExp-F.IlExp::At x y) = beside x y
noted_at (IlExp-F.IlExp::Slice x y z) = beside (beside x y) z
noted_at (IlExp-F.Call f xs) = all_of xs
noted_at (IlExp-F.Up t x) = x
noted_at (IlExp-F.Iter round names x) = iterated round x

-- whether an iteration has to iterate something: all but those that say how often they go
abbrev pub must_at : {E K L S : Type 0} → Iteration-F E K L S → Bool
must_at (Iteration-F.Times x) = false
must_at (Iteration-F.Below index x) = false
must_at _ = true

-- an iteration over a list that has no index, with what is noted of its count
abbrev pub over_list : Bool → Notes → Round
over_list must count = record { kind = kind.List; index = []; must = must; count = count }

-- what an iteration is to the variables in it, by what is noted of its count
abbrev pub round_at : Iteration-F Notes Round Notes Notes → Round
round_at Iteration-F.Star = over_list true nothing
round_at Iteration-F.Plus = over_list true nothing
round_at Iteration-F.Quest = record { kind = kind.Opt; index = []; must = true; count = nothing }
round_at (Iteration-F.Times x) = over_list false x
round_at (Iteration-F.Below index x) =
    record { kind = kind.List; index = index ∷ []; must = false; count = x }

-- what is noted of a part of a list, by what is noted of its expression
abbrev pub noted_item_at : ListItem-F Notes Round Notes Notes → Notes
noted_item_at (ListItem-F.One x) = x
noted_item_at (ListItem-F.All x) = x

-- what is noted of a step of a path, by what is noted of its expressions
abbrev pub noted_step_at : PathSeg-F Notes Round Notes Notes → Notes
noted_step_at (PathSeg-F.Field name) = nothing
noted_step_at (PathSeg-F.PathSeg::At x) = x
noted_step_at (PathSeg-F.PathSeg::Slice x y) = beside x y

-- what is noted of an expression of the internal language
abbrev pub noted : IlExp → Notes
noted = fold-IlExp Notes Round Notes Notes noted_at round_at noted_item_at noted_step_at

-- what an iteration is to the variables in it
abbrev pub round_of : Iteration → Round
round_of = fold-Iteration Notes Round Notes Notes noted_at round_at noted_item_at noted_step_at

-- what is noted of a part of a list
abbrev pub noted_item : ListItem → Notes
noted_item = fold-ListItem Notes Round Notes Notes noted_at round_at noted_item_at noted_step_at

-- what is noted of a step of a path
abbrev pub noted_step : PathSeg → Notes
noted_step = fold-PathSeg Notes Round Notes Notes noted_at round_at noted_item_at noted_step_at

-- ---- premises

-- what is noted of a premise, by what is noted of the premise that it repeats
abbrev pub prem_noted_at : IlPrem-F Notes → Notes
prem_noted_at (IlPrem-F.If x) = noted x
prem_noted_at (IlPrem-F.Goal relation xs) = all_of (map noted xs)
prem_noted_at IlPrem-F.Otherwise = nothing
prem_noted_at (IlPrem-F.Each k names x) = iterated (round_of k) x

-- what is noted of a premise of the internal language
abbrev pub prem_noted : IlPrem → Notes
prem_noted = fold-IlPrem Notes prem_noted_at

-- what is noted of some expressions, and then of some premises, from outside of all iterations
abbrev pub all_noted : List IlExp → List IlPrem → List Note
all_noted xs ps = beside (all_of (map noted xs)) (all_of (map prem_noted ps)) outside
