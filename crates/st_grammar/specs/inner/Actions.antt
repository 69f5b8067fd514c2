-- The actions that build the meaning of a tree.
use Rattle.std.specs.Prelude.{List, [], ◌∷◌, ◌++◌}
use Rattle.st_grammar.specs.declared.sort.Bracket.TheVariants.{Round as round, Brace as brace}
use Rattle.st_grammar.specs.declared.sort.Leaf.TheVariants.{Function as function}
use Rattle.st_grammar.specs.Terminals.{Terminal, dot, sign}
use Rattle.st_grammar.specs.Trees.{Tree, operand, post, times, bracket, led, Lead, left, ahead, items, Trees, none, more, Heading, plain, length, arguments, index, segment, update, below, Path, head, field, part}
use Rattle.st_grammar.specs.Definitions.{token_in}
use Rattle.st_grammar.specs.declared.action.Action.{Action}
use Rattle.st_grammar.specs.declared.action.Action.TheVariants as action

-- the action of a dot or an iteration sign behind a part
abbrev pub post_acts : Terminal → List Action
post_acts (dot x) = action.Dot x ∷ []
post_acts (sign m x) = action.Mark m ∷ []
post_acts l = []

-- the name of the index stands before a count that has one
abbrev pub index_acts : Tree → List Action
index_acts (bracket (below o i m x) ts c) = action.Label i ∷ []
index_acts t = []

-- the action that makes the part on top the count of the one below it, with an index or without
abbrev pub count_act : Tree → Action
count_act (bracket (below o i m x) ts c) = action.Below
count_act t = action.Times

-- the action that puts the name before a field on the stack
abbrev pub label_acts : List Terminal → List Action
label_acts [] = []
label_acts (l ∷ []) = action.Label (token_in l) ∷ []
label_acts (k ∷ ls) = label_acts ls

-- the action of a position in a part, or of a position and how many elements
abbrev pub at_act : Trees → Action
at_act (more (more ts q u) pre t) = action.Slice
at_act ts = action.At

-- the action that makes the same a step of a path
abbrev pub step_act : Trees → Action
step_act (more (more ts q u) pre t) = action.StepSlice
step_act ts = action.StepAt

-- The first element of a sequence begins it, and the next ones go on.
abbrev pub item_act : Trees → Action
item_act none = action.First
item_act (more ts pre t) = action.Part

-- what ends what leads to a last part
abbrev pub end_acts : Lead → List Action
end_acts (left l m x) = action.Join m ∷ []
end_acts (ahead m x) = action.Prefix m ∷ []
end_acts (items ts) = action.Part ∷ action.EndSequence ∷ []

-- what ends a bracket with these parts
abbrev pub closing_acts : Heading → Trees → List Action
closing_acts (plain round o) ts = action.EndParens ∷ []
closing_acts (plain brace o) ts = action.EndFields ∷ []
closing_acts (plain k o) ts = action.Enclose k ∷ []
closing_acts (length o) ts = action.Length ∷ []
closing_acts (arguments f o) ts = action.EndCall ∷ []
closing_acts (index t o) ts = at_act ts ∷ []
closing_acts (segment p o) ts = step_act ts ∷ []
closing_acts (update p m x) ts = action.Change m ∷ []
closing_acts (below o i m x) ts = []

-- the actions of the parts: each alone, each behind those before it, or each with its name
abbrev pub inner_acts : Heading → List Action → List Action → List Action → List Action
inner_acts (plain round o) each parts fields = parts
inner_acts (plain brace o) each parts fields = fields
inner_acts (arguments f o) each parts fields = parts
inner_acts h each parts fields = each

abbrev mutual
  -- the actions that build the meaning of a tree
  pub acts : Tree → List Action
  acts (operand k x) = action.Operand k x ∷ []
  acts (post t l) = acts t ++ post_acts l
  acts (times t m x c) = acts t ++ (index_acts c ++ (acts c ++ count_act c ∷ []))
  acts (bracket h ts c) =
      opening_acts h
      ++ (inner_acts h (each_acts ts) (part_acts ts) (field_acts ts) ++ closing_acts h ts)
  acts (led g t) = lead_acts g ++ (acts t ++ end_acts g)

  -- what stands before the last part
  pub lead_acts : Lead → List Action
  lead_acts (left l m x) = acts l
  lead_acts (ahead m x) = action.Here x.at ∷ []
  lead_acts (items ts) = item_acts ts

  -- the actions before the parts of a bracket: where it begins, or those of what it stands behind
  pub opening_acts : Heading → List Action
  opening_acts (plain round o) = action.Open o.at ∷ []
  opening_acts (plain brace o) = action.OpenFields o.at ∷ []
  opening_acts (plain k o) = action.Here o.at ∷ []
  opening_acts (length o) = action.Here o.at ∷ []
  opening_acts (arguments f o) = action.Operand function f ∷ action.Open o.at ∷ []
  opening_acts (index t o) = acts t ++ action.OpenPath ∷ []
  opening_acts (segment p o) = path_acts p
  opening_acts (update p m x) = path_acts p
  opening_acts (below o i m x) = []

  -- the actions of a path: those of what it goes into, and those of its steps
  pub path_acts : Path → List Action
  path_acts (head t o) = acts t ++ action.OpenPath ∷ []
  path_acts (field p x) = path_acts p ++ action.StepField x ∷ []
  path_acts (part p o ts c) = path_acts p ++ (each_acts ts ++ step_act ts ∷ [])

  -- parts one behind the other
  pub each_acts : Trees → List Action
  each_acts none = []
  each_acts (more ts pre t) = each_acts ts ++ acts t

  -- parts of which each is put behind those before it
  pub part_acts : Trees → List Action
  part_acts none = []
  part_acts (more ts pre t) = part_acts ts ++ (acts t ++ action.Part ∷ [])

  -- fields of which each is put behind those before it, with its name
  pub field_acts : Trees → List Action
  field_acts none = []
  field_acts (more ts pre t) = field_acts ts ++ (label_acts pre ++ (acts t ++ action.Field ∷ []))

  -- the elements of a sequence before the last one
  pub item_acts : Trees → List Action
  item_acts none = []
  item_acts (more ts pre t) = item_acts ts ++ (acts t ++ item_act ts ∷ [])
