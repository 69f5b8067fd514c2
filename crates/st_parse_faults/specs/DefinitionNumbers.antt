-- What each token of definitions begins, with its numbers: a list parallel to their text.
use Rattle.std.specs.Prelude.{ℕ, ◌+◌, ◌-◌, List, [], ◌∷◌, ◌++◌, map, length, false}
use Rattle.st_grammar.specs.declared.sort.Sort.{Sort}
use Rattle.st_grammar.specs.declared.sort.Sort.TheVariants.{Expression as expression, Notation as notation, Typ as typ, Count as count}
use Rattle.st_grammar.specs.Terminals.{Terminal, opening}
use Rattle.st_grammar.specs.Trees.{Trees, none, more}
use Rattle.st_grammar.specs.Grammar.{size}
use Rattle.st_grammar.specs.Definitions.{hint, Hint, Hints, no_hints, more_hints, Members, no_members, member, Body, fields, cases, Iterations, no_iterations, closed, marked, counted, closings, Premise, default, given, Premises, no_premises, more_premises, Args, no_args, args, Def, syntax_def, var_def, relation_def, rule_def, fun_def, clause_def, Defs, no_defs, more_defs}
use Rattle.st_parse_faults.specs.Nesting.{nesting_after}
use Rattle.st_parse_faults.specs.Number as number
use Rattle.st_parse_faults.specs.Number.{Number}
use Rattle.st_parse_faults.specs.Numbers.{Context, context, label_entry, no_entries, open_entry, numbers}
use Rattle.st_parse_faults.specs.Signs.{all_signs}

-- ---- how many there are

-- how many alternatives or fields these are
abbrev pub members_size : Members → ℕ
members_size no_members = 0
members_size (member ms pre t hs) = members_size ms + 1

-- how many premises these are
abbrev pub premises_size : Premises → ℕ
premises_size no_premises = 0
premises_size (more_premises ps p) = premises_size ps + 1

-- how many definitions these are
abbrev pub defs_size : Defs → ℕ
defs_size no_defs = 0
defs_size (more_defs ds d) = defs_size ds + 1

-- how many iterations stand in a row at the end
abbrev pub iterations_row : Iterations → ℕ
iterations_row no_iterations = 0
iterations_row (closed i l) = 0
iterations_row (marked i l) = iterations_row i + 1
iterations_row (counted i l t) = iterations_row i + 1

-- ---- hints

-- what a token in a hint begins, where so many brackets are open
abbrev pub word_entry : ℕ → Terminal → List Number
word_entry k (opening b x) = open_entry [] (k + 1)
word_entry k l = []

-- what each token in a hint begins, where so many brackets are open before them
abbrev pub word_numbers : ℕ → List Terminal → List (List Number)
word_numbers k [] = []
word_numbers k (l ∷ ls) = word_entry k l ∷ word_numbers (nesting_after k l) ls

-- what each token of a hint begins, in so many brackets
abbrev pub hint_numbers : ℕ → Hint → List (List Number)
hint_numbers k (hint w o n ws c) =
    [] ∷ open_entry [] (k + 1) ∷ [] ∷ (word_numbers (k + 1) ws ++ [] ∷ [])

-- what each token of hints begins, in so many brackets
abbrev pub hints_numbers : ℕ → Hints → List (List Number)
hints_numbers k no_hints = []
hints_numbers k (more_hints hs h) = hints_numbers k hs ++ hint_numbers k h

-- ---- bodies

-- the context of a part in so many brackets, which begins this
abbrev pub alone : Sort → ℕ → List Number → Context
alone σ k b = context σ 0 0 k b

-- a next member begins behind these
abbrev pub member_begins : Members → List Number
member_begins ms = number.member (members_size ms + 1) ∷ []

-- what each token of fields begins; the name of a field begins it
abbrev pub field_numbers : Members → List (List Number)
field_numbers no_members = []
field_numbers (member ms pre t hs) =
    field_numbers ms
    ++ (map (label_entry (member_begins ms)) pre
    ++ (numbers (alone typ 1 []) t ++ hints_numbers 1 hs))

-- what each token of alternatives begins
abbrev pub case_numbers : Members → List (List Number)
case_numbers no_members = []
case_numbers (member ms pre t hs) =
    case_numbers ms
    ++ (no_entries pre ++ (numbers (alone notation 0 (member_begins ms)) t ++ hints_numbers 0 hs))

-- what each token of a body begins
abbrev pub body_numbers : Body → List (List Number)
body_numbers (fields o ms c) = open_entry [] 1 ∷ (field_numbers ms ++ [] ∷ [])
body_numbers (cases ms ls) = case_numbers ms ++ no_entries ls

-- ---- premises

-- what each `(` before a condition begins, where so many are open before them
abbrev pub paren_numbers : ℕ → List Terminal → List (List Number)
paren_numbers k [] = []
paren_numbers k (o ∷ os) = open_entry [] (k + 1) ∷ paren_numbers (k + 1) os

-- a next iteration begins behind these
abbrev pub iteration_begins : Iterations → List Number
iteration_begins i = number.iteration (iterations_row i + 1) ∷ []

-- what each token behind a condition begins, where so many `(` stand before it
abbrev pub iteration_numbers : ℕ → Iterations → List (List Number)
iteration_numbers k no_iterations = []
iteration_numbers k (closed i l) = iteration_numbers k i ++ [] ∷ []
iteration_numbers k (marked i l) = iteration_numbers k i ++ iteration_begins i ∷ []
iteration_numbers k (counted i l t) =
    iteration_numbers k i ++ (iteration_begins i ∷ numbers (alone count (k - closings i) []) t)

-- what each token of a premise begins, where its `--` begins this
abbrev pub premise_numbers : List Number → Premise → List (List Number)
premise_numbers b (default d o) = b ∷ [] ∷ []
premise_numbers b (given d os ls t i) =
    b
    ∷ (paren_numbers 0 os
    ++ (no_entries ls
    ++ (numbers (alone (expression false) (length os) []) t ++ iteration_numbers (length os) i)))

-- a next premise begins behind these
abbrev pub premise_begins : Premises → List Number
premise_begins ps = number.premise (premises_size ps + 1) ∷ []

-- what each token of premises begins
abbrev pub premises_numbers : Premises → List (List Number)
premises_numbers no_premises = []
premises_numbers (more_premises ps p) =
    premises_numbers ps ++ premise_numbers (premise_begins ps) p

-- ---- definitions

-- the context of the argument behind these: the signs of all arguments are counted together
abbrev pub next_argument : Trees → Context
next_argument ts =
    context (expression false) (all_signs ts) 0 1 (number.member (size ts + 1) ∷ [])

-- what each token of arguments begins
abbrev pub argument_numbers : Trees → List (List Number)
argument_numbers none = []
argument_numbers (more ts pre t) =
    argument_numbers ts ++ (no_entries pre ++ numbers (next_argument ts) t)

-- what each token of arguments and their parentheses begins
abbrev pub args_numbers : Args → List (List Number)
args_numbers no_args = []
args_numbers (args o ts c) = open_entry [] 1 ∷ (argument_numbers ts ++ [] ∷ [])

-- what each token of a definition begins, where its word begins this
abbrev pub def_numbers : List Number → Def → List (List Number)
def_numbers b (syntax_def w x ls hs e y) =
    b ∷ [] ∷ (no_entries ls ++ (hints_numbers 0 hs ++ ([] ∷ body_numbers y)))
def_numbers b (var_def w x c t hs) =
    b ∷ [] ∷ [] ∷ (numbers (alone typ 0 []) t ++ hints_numbers 0 hs)
def_numbers b (relation_def w r hs c t ks) =
    b ∷ [] ∷ (hints_numbers 0 hs ++ ([] ∷ (numbers (alone notation 0 []) t ++ hints_numbers 0 ks)))
def_numbers b (rule_def w r ls c t ps) =
    b
    ∷ [] ∷ (no_entries ls
    ++ ([] ∷ (numbers (alone (expression false) 0 []) t ++ premises_numbers ps)))
def_numbers b (fun_def w f a c t hs) =
    b ∷ [] ∷ (args_numbers a ++ ([] ∷ (numbers (alone typ 0 []) t ++ hints_numbers 0 hs)))
def_numbers b (clause_def w f a e t ps) =
    b
    ∷ [] ∷ (args_numbers a
    ++ ([] ∷ (numbers (alone (expression false) 0 []) t ++ premises_numbers ps)))

-- a next definition begins behind these
abbrev pub def_begins : Defs → List Number
def_begins ds = number.definition (defs_size ds + 1) ∷ []

-- what each token of definitions begins
abbrev pub defs_numbers : Defs → List (List Number)
defs_numbers no_defs = []
defs_numbers (more_defs ds d) = defs_numbers ds ++ def_numbers (def_begins ds) d
