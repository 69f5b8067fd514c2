-- The variables of definitions stand at tokens of their text, and so do the definitions.
use Rattle.std.proofs.Common.{◌≡◌, ℕ, List, [], ◌∷◌, ◌++◌, flat_map, map, zero, suc, Bool, true, false, nat_lt, Option, Some, None, sym, ap, ◌∙◌, subst, if◌then◌else◌}
use Rattle.std.specs.Prelude.{slice_get, not}
use Rattle.std.specs.Option.{option_or}
use Rattle.st_num.specs.declared.limit.TheConstants.{HIGHEST_TREE, MOST_PREMISES}
use Rattle.st_num.specs.declared.mark.Mark.TheVariants as mark
use Rattle.st_num.specs.declared.span.Span.{Span}
use Rattle.st_grammar.specs.Terminals.{Terminal, leaf, dot, sign, opening, closing, other}
use Rattle.st_grammar.specs.Trees.{Tree, operand, post, times, bracket, led, plain, length as length_of, arguments, index, segment, update, below, text, texts}
use Rattle.st_grammar.specs.Definitions.{token_in, Iterations, no_iterations, closed, marked, counted, iterations_text, closings, Premise, default, given, premise_text, Premises, no_premises, more_premises, premises_text, Args, no_args, args, args_text, Def as Tokens, syntax_def, var_def, relation_def, rule_def, fun_def, clause_def, def_text, Defs, no_defs, more_defs, defs_text}
use Rattle.st_el.specs.declared.expression.Exp.{Exp}
use Rattle.st_el.specs.declared.expression.Count.{Count}
use Rattle.st_el.specs.declared.definition.Prem.{Prem}
use Rattle.st_el.specs.declared.definition.PremNode.TheVariants as prem
use Rattle.st_el.specs.declared.definition.Def.{Def}
use Rattle.st_parse_builder.specs.Meaning.{meaning, count_of}
use Rattle.st_parse_builder.specs.Names.{name_of}
use Rattle.st_parse_builder.specs.Definitions.{name_in, prem_at, condition, opened_at, sign_count, iterated, premise_meaning, premises_meaning, patterns, def_meaning, defs_meaning}
use Rattle.st_num.specs.Names.{same_name}
use Rattle.st_parse_builder.specs.Variables.{Occurrence, Times, without, variables, times as times_of, iterated as repeated, prem_variables, def_variables}
use Rattle.st_parse_builder.specs.Limits.{first_of_each, place_past}
use Rattle.st_parse_builder.specs.DefHeights.{def_height}
use Rattle.st_parse_builder.proofs.Occurring.{one_behind}
use Rattle.st_parse_builder.proofs.Premises.{in_if, in_goal, in_otherwise, in_each, times_mark, times_times, times_below}
use Rattle.st_parse.proofs.Endings.{variables_at}
use Rattle.st_parse.proofs.Notes.{first_behind}
use Rattle.st_parse.specs.Limits.{variable_past, too_tall, first_that}
use Rattle.st_parse.proofs.Standing.{Stand, Occur, first, last, two, moved, filtered, fewer, tree_occurs, trees_occur}

module _ (P : Span → Type 0) where
  -- ---- premises

  repeated_occurs : (p : Prem) (c : Count) (t : Times) → times_of c ≡ t → Occur P (prem_variables p) → Occur P t.count → Occur P (repeated (prem_variables p) (times_of c))
  repeated_occurs p c t e h k =
      moved P _ _ (ap (repeated (prem_variables p)) e) (two P (without t.index (prem_variables p)) t.count (fewer P t.index (prem_variables p) h) k)

  each_occurs : (at : Span) (p : Prem) (c : Count) (t : Times) → times_of c ≡ t → Occur P (prem_variables p) → Occur P t.count → Occur P (prem_variables (prem_at at (prem.Each p c)))
  each_occurs at p c t e h k = moved P _ _ (in_each at p c) (repeated_occurs p c t e h k)

  timed : (at : Span) (p : Prem) (t : Tree) (e : Exp) → Occur P (prem_variables p) → Occur P (variables e) → Occur P (prem_variables (prem_at at (prem.Each p (count_of t e))))
  timed at p (operand k x) e h c = each_occurs at p _ _ (times_times e) h c
  timed at p (post t l) e h c = each_occurs at p _ _ (times_times e) h c
  timed at p (times t m x u) e h c = each_occurs at p _ _ (times_times e) h c
  timed at p (led g t) e h c = each_occurs at p _ _ (times_times e) h c
  timed at p (bracket (plain k o) ts x) e h c = each_occurs at p _ _ (times_times e) h c
  timed at p (bracket (length_of o) ts x) e h c = each_occurs at p _ _ (times_times e) h c
  timed at p (bracket (arguments f o) ts x) e h c = each_occurs at p _ _ (times_times e) h c
  timed at p (bracket (index t o) ts x) e h c = each_occurs at p _ _ (times_times e) h c
  timed at p (bracket (segment q o) ts x) e h c = each_occurs at p _ _ (times_times e) h c
  timed at p (bracket (update q m o) ts x) e h c = each_occurs at p _ _ (times_times e) h c
  timed at p (bracket (below o i m y) ts x) e h c = each_occurs at p _ _ (times_below (name_of i.kind) e) h c

  marked_occurs : (at : Span) (p : Prem) (l : Terminal) → Occur P (prem_variables p) → Occur P (prem_variables (prem_at at (prem.Each p (sign_count l))))
  marked_occurs at p (sign m x) h = each_occurs at p _ _ (times_mark m) h tt
  marked_occurs at p (leaf k x) h = each_occurs at p _ _ (times_mark mark.Question) h tt
  marked_occurs at p (dot x) h = each_occurs at p _ _ (times_mark mark.Question) h tt
  marked_occurs at p (opening k x) h = each_occurs at p _ _ (times_mark mark.Question) h tt
  marked_occurs at p (closing c x) h = each_occurs at p _ _ (times_mark mark.Question) h tt
  marked_occurs at p (other x) h = each_occurs at p _ _ (times_mark mark.Question) h tt

  pub iterated_occurs : (os : List Terminal) (p : Prem) (i : Iterations) → Occur P (prem_variables p) → Stand P (iterations_text i) → Occur P (prem_variables (iterated os p i))
  iterated_occurs os p no_iterations h s = h
  iterated_occurs os p (closed i l) h s = iterated_occurs os p i h (first P (iterations_text i) (l ∷ []) s)
  iterated_occurs os p (marked i l) h s =
      marked_occurs (opened_at os (closings i)) (iterated os p i) l (iterated_occurs os p i h (first P (iterations_text i) (l ∷ []) s))
  iterated_occurs os p (counted i l t) h s =
      timed (opened_at os (closings i)) (iterated os p i) t (meaning t)
      (iterated_occurs os p i h (first P (iterations_text i) (l ∷ text t) s)) (tree_occurs P t (last P (iterations_text i) (l ∷ text t) s).1)

  pub condition_occurs : (ls : List Terminal) (e : Exp) → Occur P (variables e) → Occur P (prem_variables (condition ls e))
  condition_occurs [] e h = moved P _ _ (in_if _ e) h
  condition_occurs (r ∷ []) e h = moved P _ _ (in_if _ e) h
  condition_occurs (r ∷ c ∷ ls) e h = moved P _ _ (in_goal _ (name_in r) e) h

  premise_occurs : (p : Premise) → Stand P (premise_text p) → Occur P (prem_variables (premise_meaning p))
  premise_occurs (default d o) s = moved P _ _ (in_otherwise (token_in d).at) tt
  premise_occurs (given d os ls t i) s =
      let words = last P os (ls ++ (text t ++ iterations_text i)) s.1 in
      let rest = last P ls (text t ++ iterations_text i) words in
      moved P _ _ (variables_at (token_in d).at (iterated os (condition ls (meaning t)) i))
      (iterated_occurs os (condition ls (meaning t)) i (condition_occurs ls (meaning t) (tree_occurs P t (first P (text t) (iterations_text i) rest))) (last P (text t) (iterations_text i) rest))

  pub premises_occur : (ps : Premises) → Stand P (premises_text ps) → Occur P (flat_map prem_variables (premises_meaning ps))
  premises_occur no_premises s = tt
  premises_occur (more_premises ps p) s =
      moved P _ _ (one_behind prem_variables (premises_meaning ps) (premise_meaning p))
      (two P _ _ (premises_occur ps (first P (premises_text ps) (premise_text p) s)) (premise_occurs p (last P (premises_text ps) (premise_text p) s)))

  -- ---- definitions

  pub patterns_occur : (a : Args) → Stand P (args_text a) → Occur P (flat_map variables (patterns a))
  patterns_occur no_args s = tt
  patterns_occur (args o ts c) s = trees_occur P ts (first P (texts ts) (c ∷ []) s.1)

  def_occurs : (d : Tokens) → Stand P (def_text d) → Occur P (def_variables (def_meaning d))
  def_occurs (syntax_def w x ls hs e b) s = tt
  def_occurs (var_def w x c t hs) s = tt
  def_occurs (relation_def w r hs c t ks) s = tt
  def_occurs (rule_def w r ls c t ps) s =
      let rest : Stand P (text t ++ premises_text ps) = (last P ls (c ∷ (text t ++ premises_text ps)) s.1.1).1 in
      two P _ _ (tree_occurs P t (first P (text t) (premises_text ps) rest)) (premises_occur ps (last P (text t) (premises_text ps) rest))
  def_occurs (fun_def w f a c t hs) s = tt
  def_occurs (clause_def w f a e t ps) s =
      let rest : Stand P (text t ++ premises_text ps) = (last P (args_text a) (e ∷ (text t ++ premises_text ps)) s.1.1).1 in
      two P _ _ (two P _ _ (patterns_occur a (first P (args_text a) (e ∷ (text t ++ premises_text ps)) s.1.1)) (tree_occurs P t (first P (text t) (premises_text ps) rest)))
      (premises_occur ps (last P (text t) (premises_text ps) rest))

  def_stands : (d : Tokens) → Stand P (def_text d) → P (def_meaning d).at
  def_stands (syntax_def w x ls hs e b) s = s.0
  def_stands (var_def w x c t hs) s = s.0
  def_stands (relation_def w r hs c t ks) s = s.0
  def_stands (rule_def w r ls c t ps) s = s.0
  def_stands (fun_def w f a c t hs) s = s.0
  def_stands (clause_def w f a e t ps) s = s.0

  -- ---- what passes a limit

  each_once : (os : List Occurrence) → Occur P os → Occur P (first_of_each os)
  each_once [] h = tt
  each_once (o ∷ os) h = (h.0, filtered P (λ (other : Occurrence). not (same_name other.0 o.0)) (first_of_each os) (each_once os h.1))

  at_number : (os : List Occurrence) (k : ℕ) (at : Span) → Occur P os → slice_get (map (λ (o : Occurrence). o.1) os) k ≡ Some at → P at
  at_number [] k at h e = absurd (cc)
  at_number (o ∷ os) zero at h e = let same : o.1 ≡ at = cc in subst P same h.0
  at_number (o ∷ os) (suc k) at h e = at_number os k at h.1 e

  -- the first of these variables that passes the limit
  pub place_stands : (os : List Occurrence) (at : Span) → Occur P os → place_past MOST_PREMISES os ≡ Some at → P at
  place_stands os at h e = at_number (first_of_each os) MOST_PREMISES at (each_once os h) e

  tall_stands : (b : Bool) (at place : Span) → P place → (if b then Some place else None) ≡ Some at → P at
  tall_stands true at place h e = let same : place ≡ at = cc in subst P same h
  tall_stands false at place h e = absurd (cc)

  -- where this is told of a definition that stands at such places, it is such a place
  abbrev pub Tells : (Def → Option Span) → Type 0
  Tells f = (d : Tokens) (at : Span) → Stand P (def_text d) → f (def_meaning d) ≡ Some at → P at

  pub past_stands : Tells variable_past
  past_stands d at s e = place_stands (def_variables (def_meaning d)) at (def_occurs d s) e

  pub tall_is_there : Tells too_tall
  tall_is_there d at s e = tall_stands (nat_lt HIGHEST_TREE (def_height (def_meaning d))) at (def_meaning d).at (def_stands d s) e

  pub told : (o p : Option Span) (at : Span) → (o ≡ Some at → P at) → (p ≡ Some at → P at) → option_or o p ≡ Some at → P at
  told (Some s) p at h k e = h e
  told None (Some s) at h k e = k e
  told None None at h k e = absurd (cc)

  pub first_stands : (f : Def → Option Span) (ds : Defs) (at : Span) → Tells f → Stand P (defs_text ds) → first_that f (defs_meaning ds) ≡ Some at → P at
  first_stands f no_defs at h s e = absurd (cc)
  first_stands f (more_defs ds d) at h s e =
      told (first_that f (defs_meaning ds)) (f (def_meaning d)) at
      (first_stands f ds at h (first P (defs_text ds) (def_text d) s))
      (h d at (last P (defs_text ds) (def_text d) s))
      (sym (first_behind f (defs_meaning ds) (def_meaning d)) ∙ e)
