-- What bears on dimensions in expressions and premises, in the order of the text.
use Rattle.std.specs.Prelude.{ℕ, List, [], ◌∷◌, ◌++◌, length, map, flat_map, Bool, true, false, if◌then◌else◌}
use Rattle.st_num.specs.declared.span.Span.{Span}
use Rattle.st_num.specs.declared.dim.Kind.{Kind}
use Rattle.st_el.specs.declared.expression.Exp.{Exp, Exp-F, fold-Exp}
use Rattle.st_el.specs.declared.expression.Node.{Node, fold-Node}
use Rattle.st_el.specs.declared.expression.Count.{Count, fold-Count}
use Rattle.st_el.specs.declared.expression.Count.TheOpen.{Count-F, Node-F, Seg-F}
use Rattle.st_el.specs.declared.expression.Seg.{Seg, fold-Seg}
use Rattle.st_el.specs.declared.definition.Prem.{Prem, Prem-F, fold-Prem}
use Rattle.st_el.specs.declared.definition.PremNode.{PremNode, fold-PremNode}
use Rattle.st_el.specs.declared.definition.PremNode.TheOpen.{PremNode-F}
use Rattle.st_dims.specs.declared.within.Within.{Within}
use Rattle.st_dims.specs.Around.{kind_at, index_at, outside, entered}
use Rattle.st_dims.specs.declared.mention.Occurrence.{Occurrence}
use Rattle.st_dims.specs.declared.mention.Iteration.{Iteration}
use Rattle.st_dims.specs.declared.mention.Mention.{Mention}
use Rattle.st_dims.specs.declared.mention.Mention.TheVariants.{Occurs, Indexes, Iterates}
use Rattle.st_num.specs.Names.{is_among}

-- the occurrence of a variable that is mentioned here, where one is
abbrev pub occurrence_of : Mention → List Occurrence
occurrence_of (Occurs occurrence) = occurrence ∷ []
occurrence_of mention = []

-- the name of an index that is mentioned here, where one is
abbrev pub index_of : Mention → List (List ℕ)
index_of (Indexes name) = name ∷ []
index_of mention = []

-- the iteration that is mentioned here, where one is
abbrev pub iteration_of : Mention → List Iteration
iteration_of (Iterates iteration) = iteration ∷ []
iteration_of mention = []

-- the occurrences of variables among what is mentioned
abbrev pub occurrences_in : List Mention → List Occurrence
occurrences_in mentions = flat_map occurrence_of mentions

-- the names of indices among what is mentioned
abbrev pub indices_in : List Mention → List (List ℕ)
indices_in mentions = flat_map index_of mentions

-- the iterations among what is mentioned
abbrev pub iterations_in : List Mention → List Iteration
iterations_in mentions = flat_map iteration_of mentions

-- the names of the variables that occur, in the order of the text
abbrev pub names_in : List Mention → List (List ℕ)
names_in mentions = map (λ occurrence. occurrence.name) (occurrences_in mentions)

-- ---- expressions

-- what is mentioned in a part, by what stands round it
abbrev pub Sees : Type 0
Sees = Within → List Mention

-- what an iteration is to dimensions: what it makes of its body, its index, whether it has to
-- iterate something, and its count
pub record CountMeaning : Type 0 where
  pub kind : Kind
  pub index : List (List ℕ)
  pub must_iterate : Bool
  pub count : Sees

-- what stands round the body of this iteration
abbrev pub body_round : CountMeaning → Within → Within
body_round mark within = entered mark.kind mark.index within

-- a name belongs to a body that has it as its index, and is else a variable
abbrev pub occurrence : List ℕ → Span → Within → List Mention
occurrence name at within =
    if is_among name within.indices then []
    else Occurs (record { name = name; at = at; chain = within.kinds }) ∷ []

-- an iteration that has to iterate something, with what is mentioned in its body
abbrev pub iteration : CountMeaning → Span → Within → List Mention → List Mention
iteration mark at within body =
    if mark.must_iterate
    then Iterates (record { at = at; depth = length within.kinds; names = names_in body }) ∷ []
    else []

-- An iteration, its index and its body. The count of the iteration stands outside of it.
abbrev pub iterated : CountMeaning → Sees → Span → Within → List Mention
iterated mark body at within =
    iteration mark at within (body (body_round mark within)) ++ map Indexes mark.index
    ++ body (body_round mark within) ++ mark.count within

-- an iteration has to iterate something, unless it says how often it goes
abbrev pub must_iterate_at : {C N S E : Type 0} → Count-F C N S E → Bool
must_iterate_at (Count-F.Times count) = false
must_iterate_at (Count-F.Below index count) = false
must_iterate_at _ = true

-- what is mentioned in the count of an iteration, which is nothing where it has none
abbrev pub count_at : Count-F CountMeaning (Span → Sees) Sees Sees → Sees
count_at (Count-F.Times count) = count
count_at (Count-F.Below index count) = count
count_at _ = λ within. []

-- what an iteration is to dimensions, by what is mentioned in its count
abbrev pub count_meaning_at : Count-F CountMeaning (Span → Sees) Sees Sees → CountMeaning
count_meaning_at level =
    record {
      kind = kind_at level;
      index = index_at level;
      must_iterate = must_iterate_at level;
      count = count_at level;
    }

-- what is mentioned in parts, from left to right
abbrev pub seen_in : List Sees → Within → List Mention
seen_in parts within = flat_map (λ part. part within) parts

-- what is mentioned in the fields of a record, from left to right
abbrev pub fields_seen : List (List ℕ × Sees) → Within → List Mention
fields_seen fields within = flat_map (λ field. field.1 within) fields

-- what is mentioned in an expression of this place, by what is mentioned in its parts
abbrev pub mentions_node_at : Node-F CountMeaning (Span → Sees) Sees Sees → Span → Within
    → List Mention
mentions_node_at (Node-F.Name name) at within = occurrence name at within
mentions_node_at (Node-F.Seq parts) at within = seen_in parts within
mentions_node_at (Node-F.Infix left sign right) at within = left within ++ right within
mentions_node_at (Node-F.Binary left sign right) at within = left within ++ right within
mentions_node_at (Node-F.Not e) at within = e within
mentions_node_at (Node-F.Neg e) at within = e within
mentions_node_at (Node-F.Arith e) at within = e within
mentions_node_at (Node-F.Paren e) at within = e within
mentions_node_at (Node-F.Bracket sign e) at within = e within
mentions_node_at (Node-F.Tuple parts) at within = seen_in parts within
mentions_node_at (Node-F.Fields fields) at within = fields_seen fields within
mentions_node_at (Node-F.Dot e field) at within = e within
mentions_node_at (Node-F.Node::At e from) at within = e within ++ from within
mentions_node_at (Node-F.Node::Slice e from length) at within =
    e within ++ from within ++ length within
mentions_node_at (Node-F.Update e path part) at within =
    e within ++ seen_in path within ++ part within
mentions_node_at (Node-F.Extend e path part) at within =
    e within ++ seen_in path within ++ part within
mentions_node_at (Node-F.Len e) at within = e within
mentions_node_at (Node-F.Call name parts) at within = seen_in parts within
mentions_node_at (Node-F.Iter e mark) at within = iterated mark e at within
mentions_node_at node at within = []

-- what is mentioned in a step of a path, by what is mentioned in its parts
abbrev pub mentions_seg_at : Seg-F CountMeaning (Span → Sees) Sees Sees → Sees
mentions_seg_at (Seg-F.Field name) within = []
mentions_seg_at (Seg-F.Seg::At from) within = from within
mentions_seg_at (Seg-F.Seg::Slice from length) within = from within ++ length within

-- what is mentioned in an expression, by what it is and its place
abbrev pub mentions_exp_at : Exp-F CountMeaning (Span → Sees) Sees Sees → Sees
mentions_exp_at e within = e.node e.at within

-- what is mentioned in an expression
abbrev pub mentions_exp : Exp → Sees
mentions_exp =
    fold-Exp CountMeaning (Span → Sees) Sees Sees
    count_meaning_at mentions_node_at mentions_seg_at mentions_exp_at

-- what is mentioned in what an expression of this place is
abbrev pub mentions_node : Node → Span → Sees
mentions_node =
    fold-Node CountMeaning (Span → Sees) Sees Sees
    count_meaning_at mentions_node_at mentions_seg_at mentions_exp_at

-- what is mentioned in a step of a path
abbrev pub mentions_seg : Seg → Sees
mentions_seg =
    fold-Seg CountMeaning (Span → Sees) Sees Sees
    count_meaning_at mentions_node_at mentions_seg_at mentions_exp_at

-- what an iteration is to dimensions, from the source tree
abbrev pub count_meaning : Count → CountMeaning
count_meaning =
    fold-Count CountMeaning (Span → Sees) Sees Sees
    count_meaning_at mentions_node_at mentions_seg_at mentions_exp_at

-- a field of a record, with what is mentioned in it
abbrev pub field_mentions : List ℕ × Exp → List ℕ × Sees
field_mentions field = (field.0, mentions_exp field.1)

-- ---- premises

-- what is mentioned in a premise of this place, by what is mentioned in the premise it repeats
abbrev pub mentions_prem_node_at : PremNode-F (Span → Sees) Sees → Span → Within → List Mention
mentions_prem_node_at (PremNode-F.If e) at within = mentions_exp e within
mentions_prem_node_at (PremNode-F.Goal name e) at within = mentions_exp e within
mentions_prem_node_at PremNode-F.Otherwise at within = []
mentions_prem_node_at (PremNode-F.Each prem count) at within =
    iterated (count_meaning count) prem at within

-- what is mentioned in a premise, by what it is and its place
abbrev pub mentions_prem_at : Prem-F (Span → Sees) Sees → Sees
mentions_prem_at prem within = prem.node prem.at within

-- what is mentioned in a premise
abbrev pub mentions_prem : Prem → Sees
mentions_prem = fold-Prem (Span → Sees) Sees mentions_prem_node_at mentions_prem_at

-- what is mentioned in what a premise of this place is
abbrev pub mentions_prem_node : PremNode → Span → Sees
mentions_prem_node = fold-PremNode (Span → Sees) Sees mentions_prem_node_at mentions_prem_at

-- what is mentioned in a rule or clause with these parts and premises
abbrev pub mentions_in : List Exp → List Prem → List Mention
mentions_in parts premises =
    seen_in (map mentions_exp parts) outside ++ seen_in (map mentions_prem premises) outside
