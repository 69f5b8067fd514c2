-- What is printed of an expression of definitions that were read is read as this expression.
use Rattle.std.proofs.Common.{◌≡◌, ℕ, List, [], ◌∷◌, ◌++◌, false, All, Contains, flat_map, rules, sym, ap, ◌∙◌, subst, append_assoc}
use Rattle.std.proofs.lemmas.List.{append-nil}
use Rattle.std.proofs.lemmas.List.Elements.{All-nil, All-cons, All-append, All-same, All-contains}
use Rattle.st_num.specs.declared.span.Span.{Span}
use Rattle.st_num.specs.declared.token.Token.{Token}
use Rattle.st_grammar.specs.declared.sort.Sort.TheVariants.{Expression as expression}
use Rattle.st_grammar.specs.Terminals.{Terminal}
use Rattle.st_grammar.specs.Trees.{text, texts}
use Rattle.st_grammar.specs.Definitions.{Iterations, no_iterations, closed, marked, counted, iterations_text, closings, IterationsFit, Premise, default, given, premise_text, PremiseFits, Premises, no_premises, more_premises, premises_text, PremisesFit, Args, no_args, args, args_text, ArgsFit, Def as Tokens, syntax_def, var_def, relation_def, rule_def, fun_def, clause_def, def_text, DefFits, Defs, no_defs, more_defs, defs_text, DefsFit}
use Rattle.st_el.specs.declared.expression.Exp.{Exp}
use Rattle.st_el.specs.declared.expression.Count.{Count}
use Rattle.st_el.specs.declared.definition.Prem.{Prem, out-Prem, roll-out-Prem, the_lemmas}
use Rattle.st_el.specs.declared.definition.PremNode.{PremNode, fold-PremNode}
use Rattle.st_el.specs.declared.definition.PremNode.TheVariants as prem
use Rattle.st_el.specs.declared.definition.Def.{Def}
use Rattle.st_parse_builder.specs.Meaning.{meaning, count_of}
use Rattle.st_parse_builder.specs.Definitions.{name_in, prem_at, condition, opened_at, sign_count, iterated, premise_meaning, premises_meaning, patterns, def_meaning, defs_meaning, Parse}
use Rattle.st_parse_law.specs.ReadBack.{AreOfFiles, ReadBack}
use Rattle.st_parse_law.specs.DefExps.{count_exps, prem_exps_at, prem_exps, exps_of}
use Rattle.st_parse_law.proofs.AtomTrees.{AreReal, real_left, real_right}
use Rattle.st_parse_law.proofs.Printing.{expression_tree}
use Rattle.st_parse_law.proofs.CountLaw.{in_sign, in_count, count_printed}
use Rattle.st_parse_law.proofs.Law.{files_real, IsPrinted, printed_back, trees_printed}

-- ---- the expressions of a premise

one_behind : {A B : Type 0} (f : A → List B) (xs : List A) (x : A) → flat_map f (xs ++ x ∷ []) ≡ flat_map f xs ++ f x
one_behind f [] x = append-nil (f x)
one_behind f (y ∷ ys) x = ap (λ zs. f y ++ zs) (one_behind f ys x) ∙ sym (append_assoc (f y) (flat_map f ys) (f x))

in_if : (at : Span) (e : Exp) → prem_exps (prem_at at (prem.If e)) ≡ e ∷ []
in_if at e = search (rules, the_lemmas)

in_goal : (at : Span) (name : List ℕ) (e : Exp) → prem_exps (prem_at at (prem.Goal name e)) ≡ e ∷ []
in_goal at name e = search (rules, the_lemmas)

in_otherwise : (at : Span) → prem_exps (prem_at at prem.Otherwise) ≡ []
in_otherwise at = search (rules, the_lemmas)

in_each : (at : Span) (p : Prem) (c : Count) → prem_exps (prem_at at (prem.Each p c)) ≡ prem_exps p ++ count_exps c
in_each at p c = search (rules, the_lemmas)

in_node : (at : Span) (n : PremNode) → prem_exps (prem_at at n) ≡ fold-PremNode (List Exp) (List Exp) prem_exps_at (λ p. p.node) n
in_node at n = search (rules, the_lemmas)

-- those of the premise at another place
at_place : (at : Span) (p : Prem) → prem_exps (prem_at at (out-Prem p).node) ≡ prem_exps p
at_place at p =
    let n : PremNode = (out-Prem p).node in
    in_node at n ∙ sym (in_node (out-Prem p).at n) ∙ ap prem_exps (roll-out-Prem p)

in_condition : (ls : List Terminal) (e : Exp) → prem_exps (condition ls e) ≡ e ∷ []
in_condition [] e = in_if _ e
in_condition (r ∷ []) e = in_if _ e
in_condition (r ∷ c ∷ ls) e = in_goal _ (name_in r) e

module _ (names : List (List ℕ)) where
  abbrev ArePrinted : List Exp → Type 0
  ArePrinted es = All (IsPrinted names) es

  same : (es fs : List Exp) → es ≡ fs → ArePrinted fs → ArePrinted es
  same es fs e h = All-same (IsPrinted names) es fs e h

  both : (es fs : List Exp) → ArePrinted es → ArePrinted fs → ArePrinted (es ++ fs)
  both es fs h k = All-append (IsPrinted names) es fs h k

  -- ---- premises

  each_printed : (at : Span) (p : Prem) (c : Count) (es : List Exp) → count_exps c ≡ es → ArePrinted (prem_exps p) → ArePrinted es → ArePrinted (prem_exps (prem_at at (prem.Each p c)))
  each_printed at p c es e h k = same _ _ (in_each at p c) (both (prem_exps p) (count_exps c) h (same (count_exps c) es e k))

  iterated_printed : (os : List Terminal) (p : Prem) (i : Iterations) → IterationsFit i → AreReal names (iterations_text i) → ArePrinted (prem_exps p) → ArePrinted (prem_exps (iterated os p i))
  iterated_printed os p no_iterations f r h = h
  iterated_printed os p (closed i l) f r h = iterated_printed os p i f.0 (real_left names (iterations_text i) (l ∷ []) r) h
  iterated_printed os p (marked i l) f r h =
      each_printed (opened_at os (closings i)) (iterated os p i) (sign_count l) [] (in_sign l)
      (iterated_printed os p i f.0 (real_left names (iterations_text i) (l ∷ []) r) h) (All-nil (IsPrinted names))
  iterated_printed os p (counted i l t) f r h =
      each_printed (opened_at os (closings i)) (iterated os p i) (count_of t (meaning t)) (meaning t ∷ []) (in_count t (meaning t))
      (iterated_printed os p i f.0 (real_left names (iterations_text i) (l ∷ text t) r) h)
      (All-cons (IsPrinted names) (meaning t) [] (count_printed names t f.3 (real_right names (iterations_text i) (l ∷ text t) r).1) (All-nil (IsPrinted names)))

  premise_printed : (p : Premise) → PremiseFits p → AreReal names (premise_text p) → ArePrinted (prem_exps (premise_meaning p))
  premise_printed (default d o) f r = same _ [] (in_otherwise _) (All-nil (IsPrinted names))
  premise_printed (given d os ls t i) f r =
      let words = real_right names os (ls ++ (text t ++ iterations_text i)) r.1 in
      let rest = real_right names ls (text t ++ iterations_text i) words in
      let asked = All-cons (IsPrinted names) (meaning t) [] (expression_tree names false t f.3 (real_left names (text t) (iterations_text i) rest)) (All-nil (IsPrinted names)) in
      same _ _ (at_place _ (iterated os (condition ls (meaning t)) i))
      (iterated_printed os (condition ls (meaning t)) i f.4 (real_right names (text t) (iterations_text i) rest) (same _ (meaning t ∷ []) (in_condition ls (meaning t)) asked))

  premises_printed : (ps : Premises) → PremisesFit ps → AreReal names (premises_text ps) → ArePrinted (flat_map prem_exps (premises_meaning ps))
  premises_printed no_premises f r = All-nil (IsPrinted names)
  premises_printed (more_premises ps p) f r =
      same _ _ (one_behind prem_exps (premises_meaning ps) (premise_meaning p))
      (both _ _ (premises_printed ps f.0 (real_left names (premises_text ps) (premise_text p) r)) (premise_printed p f.1 (real_right names (premises_text ps) (premise_text p) r)))

  -- ---- definitions

  patterns_printed : (a : Args) → ArgsFit (expression false) a → AreReal names (args_text a) → ArePrinted (patterns a)
  patterns_printed no_args f r = All-nil (IsPrinted names)
  patterns_printed (args o ts c) f r = trees_printed names ts f.2 (real_left names (texts ts) (c ∷ []) r.1)

  def_printed : (d : Tokens) → DefFits d → AreReal names (def_text d) → ArePrinted (exps_of (def_meaning d))
  def_printed (syntax_def w x ls hs e b) f r = All-nil (IsPrinted names)
  def_printed (var_def w x c t hs) f r = All-nil (IsPrinted names)
  def_printed (relation_def w q hs c t ks) f r = All-nil (IsPrinted names)
  def_printed (rule_def w q ls c t ps) f r =
      let rest : AreReal names (text t ++ premises_text ps) = (real_right names ls (c ∷ (text t ++ premises_text ps)) r.1.1).1 in
      All-cons (IsPrinted names) (meaning t) (flat_map prem_exps (premises_meaning ps))
      (expression_tree names false t f.4 (real_left names (text t) (premises_text ps) rest))
      (premises_printed ps f.5 (real_right names (text t) (premises_text ps) rest))
  def_printed (fun_def w g a c t hs) f r = All-nil (IsPrinted names)
  def_printed (clause_def w g a e t ps) f r =
      let front = real_left names (args_text a) (e ∷ (text t ++ premises_text ps)) r.1.1 in
      let rest : AreReal names (text t ++ premises_text ps) = (real_right names (args_text a) (e ∷ (text t ++ premises_text ps)) r.1.1).1 in
      both (patterns a) (meaning t ∷ flat_map prem_exps (premises_meaning ps)) (patterns_printed a f.2 front)
      (All-cons (IsPrinted names) (meaning t) (flat_map prem_exps (premises_meaning ps))
      (expression_tree names false t f.4 (real_left names (text t) (premises_text ps) rest))
      (premises_printed ps f.5 (real_right names (text t) (premises_text ps) rest)))

  defs_printed : (ds : Defs) → DefsFit ds → AreReal names (defs_text ds) → ArePrinted (flat_map exps_of (defs_meaning ds))
  defs_printed no_defs f r = All-nil (IsPrinted names)
  defs_printed (more_defs ds d) f r =
      same _ _ (one_behind exps_of (defs_meaning ds) (def_meaning d))
      (both _ _ (defs_printed ds f.0 (real_left names (defs_text ds) (def_text d) r)) (def_printed d f.1 (real_right names (defs_text ds) (def_text d) r)))

  pub defs_back : (number : ℕ) (xs : List Token) (defs : List Def) (e : Exp) → AreOfFiles xs → Parse names xs defs → Contains (flat_map exps_of defs) e → ReadBack names number e
  defs_back number xs defs e h p among =
      let real : AreReal names (defs_text p.trees) = subst (AreReal names) p.grammar.spelled (files_real names xs h) in
      let all : ArePrinted (flat_map exps_of defs) = subst (λ ds. ArePrinted (flat_map exps_of ds)) p.meant (defs_printed p.trees p.grammar.fits real) in
      printed_back names number e (All-contains (IsPrinted names) (flat_map exps_of defs) e all among)
