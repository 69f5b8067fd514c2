-- What each token of a tree begins, with its numbers: a list parallel to the text of the tree.
use Rattle.std.specs.Prelude.{ℕ, ◌+◌, List, [], ◌∷◌, ◌++◌, map, if◌then◌else◌}
use Rattle.st_num.specs.declared.mark.Mark.{Mark}
use Rattle.st_grammar.specs.declared.sort.Sort.{Sort}
use Rattle.st_grammar.specs.declared.sort.Sort.TheVariants.{Count as count}
use Rattle.st_grammar.specs.Terminals.{Terminal}
use Rattle.st_grammar.specs.Trees.{Tree, operand, post, times, bracket, led, Lead, left, ahead, items, Trees, none, more, Heading, plain, length, arguments, index, segment, update, below, Path, head, field, part}
use Rattle.st_grammar.specs.Grammar.{is_label, size, sort_in}
use Rattle.st_parse_faults.specs.Number as number
use Rattle.st_parse_faults.specs.Number.{Number}
use Rattle.st_parse_faults.specs.Signs.{is_in_name, posts, is_turnstile, in_bars, ahead_signs, signs, lead_signs, all_signs, ends_with_label}

-- ---- where a tree stands

-- what is known where a tree begins
pub record Context : Type 0 where
  -- the sort of part
  pub sort : Sort
  -- the signs between two sides before it, between the same brackets
  pub before : ℕ
  -- the prefix signs directly before it, in a row
  pub row : ℕ
  -- the brackets and lengths that are open round it
  pub depth : ℕ
  -- what begins with it
  pub begins : List Number

-- the context with these
abbrev pub context : Sort → ℕ → ℕ → ℕ → List Number → Context
context σ n r k b = record { sort = σ; before = n; row = r; depth = k; begins = b }

-- how many brackets and lengths are open behind what stands before the parts of a bracket
abbrev pub opened_by : Heading → ℕ
opened_by (segment p o) = 2
opened_by h = 1

-- the context in a bracket that stands there; the bars of a length are no brackets for signs
abbrev pub in_bracket : Context → Heading → Context
in_bracket c h = context (sort_in c.sort h) (in_bars h c.before 0) 0 (c.depth + opened_by h) []

-- what the part behind these begins; where a name stands before it, that has begun it
abbrev pub part_begins : Trees → List Terminal → List Number
part_begins ts pre = if ends_with_label pre then [] else number.part (size ts + 1) ∷ []

-- the context of the part behind these of a bracket, which is set off so
abbrev pub next_part : Context → Trees → List Terminal → Context
next_part c ts pre = context c.sort (c.before + all_signs ts) 0 c.depth (part_begins ts pre)

-- the context of the element behind these
abbrev pub next_element : Context → Trees → Context
next_element c none = c
next_element c (more ts pre t) =
    context c.sort (c.before + all_signs (more ts pre t)) 0 c.depth
    (number.element (size (more ts pre t) + 1) ∷ [])

-- the context of the last part behind what leads to it
abbrev pub behind : Context → Lead → Context
behind c (left l m x) = context c.sort (c.before + lead_signs (left l m x)) 0 c.depth []
behind c (ahead m x) =
    context c.sort (c.before + ahead_signs m) (if is_turnstile m then 0 else c.row + 1) c.depth []
behind c (items ts) = next_element c ts

-- the context of the count behind this tree and `^`
abbrev pub in_count : Context → Tree → Context
in_count c t = context count (c.before + signs t) 0 c.depth []

-- ---- what a token begins

-- a sign that has no left side; only `|-` is one between two sides even so
abbrev pub ahead_number : Context → Mark → Number
ahead_number c m =
    if is_turnstile m then number.sign (c.before + 1) else number.row (c.row + 1)

-- a postfix sign behind a tree, where it is none that goes on with a name
abbrev pub post_entry : Sort → Tree → Terminal → List Number
post_entry σ t l = if is_in_name σ t l then [] else number.row (posts σ t + 1) ∷ []

-- the name of a field begins its part, and no other sign before a part begins anything
abbrev pub label_entry : List Number → Terminal → List Number
label_entry b l = if is_label l then b else []

-- none of these tokens begins anything
abbrev pub no_entries : List Terminal → List (List Number)
no_entries [] = []
no_entries (l ∷ ls) = [] ∷ no_entries ls

-- a bracket or length that opens, so many with it, where this begins too
abbrev pub open_entry : List Number → ℕ → List Number
open_entry b n = b ++ number.opened n ∷ []

-- ---- the entries of a tree

abbrev mutual
  -- what each token of a tree begins
  pub numbers : Context → Tree → List (List Number)
  numbers c (operand k x) = c.begins ∷ []
  numbers c (post t l) = numbers c t ++ post_entry c.sort t l ∷ []
  numbers c (times t m x d) =
      numbers c t ++ ((number.row (posts c.sort t + 1) ∷ []) ∷ numbers (in_count c t) d)
  numbers c (bracket h ts x) =
      heading_numbers c h ++ (part_numbers (in_bracket c h) ts ++ [] ∷ [])
  numbers c (led g t) = lead_numbers c g ++ numbers (behind c g) t

  -- what each token before a last part begins
  pub lead_numbers : Context → Lead → List (List Number)
  lead_numbers c (left l m x) =
      numbers c l ++ (number.sign (c.before + lead_signs (left l m x)) ∷ []) ∷ []
  lead_numbers c (ahead m x) = (c.begins ++ ahead_number c m ∷ []) ∷ []
  lead_numbers c (items ts) = element_numbers c ts

  -- what each token before the parts of a bracket begins
  pub heading_numbers : Context → Heading → List (List Number)
  heading_numbers c (plain k o) = open_entry c.begins (c.depth + 1) ∷ []
  heading_numbers c (length o) = open_entry c.begins (c.depth + 1) ∷ []
  heading_numbers c (arguments f o) = c.begins ∷ open_entry [] (c.depth + 1) ∷ []
  heading_numbers c (index t o) =
      numbers c t ++ open_entry (number.row (posts c.sort t + 1) ∷ []) (c.depth + 1) ∷ []
  heading_numbers c (segment p o) = path_numbers c p ++ open_entry [] (c.depth + 2) ∷ []
  heading_numbers c (update p m x) = path_numbers c p ++ [] ∷ []
  heading_numbers c (below o i m x) = open_entry c.begins (c.depth + 1) ∷ [] ∷ [] ∷ []

  -- what each token of a path begins
  pub path_numbers : Context → Path → List (List Number)
  path_numbers c (head t o) =
      numbers c t ++ open_entry (number.row (posts c.sort t + 1) ∷ []) (c.depth + 1) ∷ []
  path_numbers c (field p x) = path_numbers c p ++ [] ∷ []
  path_numbers c (part p o ts x) =
      path_numbers c p
      ++ (open_entry [] (c.depth + 2) ∷ (part_numbers (in_bracket c (segment p o)) ts ++ [] ∷ []))

  -- what each token of the parts of a bracket begins
  pub part_numbers : Context → Trees → List (List Number)
  part_numbers c none = []
  part_numbers c (more ts pre t) =
      part_numbers c ts
      ++ (map (label_entry (number.part (size ts + 1) ∷ [])) pre ++ numbers (next_part c ts pre) t)

  -- what each token of the elements of a sequence before the last one begins
  pub element_numbers : Context → Trees → List (List Number)
  element_numbers c none = []
  element_numbers c (more ts pre t) =
      element_numbers c ts ++ (no_entries pre ++ numbers (next_element c ts) t)
