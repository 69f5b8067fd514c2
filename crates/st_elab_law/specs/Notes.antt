-- What is mentioned in a source, without places.
use Rattle.std.specs.Prelude.{ℕ, List, [], ◌∷◌, ◌++◌, map, flat_map}
use Rattle.st_num.specs.declared.dim.Kind.{Kind}
use Rattle.st_el.specs.declared.expression.Exp.{Exp}
use Rattle.st_dims.specs.declared.within.Within.{Within}
use Rattle.st_dims.specs.declared.mention.Mention.{Mention}
use Rattle.st_dims.specs.declared.mention.Mention.TheVariants as mention
use Rattle.st_dims.specs.Mentions.{mentions_exp}
use Rattle.st_notation.specs.Fits.{Filling, one, run, missing}
use Rattle.st_elab_table.specs.Questions.{Question, check, infer, item, hole}

-- what bears on iterations: a variable that occurs, with the kinds of the iterations round it; the
-- index of an iteration; or an iteration that has to iterate something, with the number of those
-- round it and the variables that occur in its body
pub data Note : Type 0 where
  occurs : (name : List ℕ) (chain : List Kind) → Note
  indexes : (name : List ℕ) → Note
  iterates : (depth : ℕ) (names : List (List ℕ)) → Note

-- what is noted of a part, in order, by what stands round it
abbrev pub Notes : Type 0
Notes = Within → List Note

-- the variable that a note is of, where it is of one
abbrev pub name_of : Note → List (List ℕ)
name_of (occurs name chain) = name ∷ []
name_of note = []

-- the variables that occur, in order
abbrev pub names_of : List Note → List (List ℕ)
names_of notes = flat_map name_of notes

-- nothing
abbrev pub nothing : Notes
nothing within = []

-- what is noted of one part, and then of another
abbrev pub beside : Notes → Notes → Notes
beside first second within = first within ++ second within

-- what is noted of several parts, in order
abbrev pub all_of : List Notes → Notes
all_of parts within = flat_map (λ (part : Notes). part within) parts

-- ---- in a source

-- what is mentioned, without its place
abbrev pub note : Mention → Note
note (mention.Occurs o) = occurs o.name o.chain
note (mention.Indexes name) = indexes name
note (mention.Iterates i) = iterates i.depth i.names

-- what is mentioned, without places
abbrev pub mentioned : List Mention → List Note
mentioned mentions = map note mentions

-- what is noted of an expression of a source
abbrev pub written : Exp → Notes
written e within = mentioned (mentions_exp e within)

-- ---- what fills holes, and questions

-- what is noted of what fills a hole
abbrev pub filling_written : Filling → Notes
filling_written (one e) = written e
filling_written (run es) = all_of (map written es)
filling_written missing = nothing

-- what is noted of what a question is about
abbrev pub asked_written : Question → Notes
asked_written (check w at p e t) = written e
asked_written (infer w at e) = written e
asked_written (item w t element e) = written e
asked_written (hole w at passed filling t) = filling_written filling
