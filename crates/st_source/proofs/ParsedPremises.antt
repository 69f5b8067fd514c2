-- No premise of a source that is parsed repeats an `otherwise`.
use Rattle.std.proofs.Common.{◌≡◌, ap, ◌∙◌, subst, ℕ, List, [], ◌∷◌, false}
use Rattle.std.specs.List.{AllByRecursion}
use Rattle.st_num.specs.declared.span.Span.{Span}
use Rattle.st_num.specs.declared.token.Token.{Token}
use Rattle.st_grammar.specs.Terminals.{Terminal}
use Rattle.st_grammar.specs.Definitions.{token_in, closings, Iterations, no_iterations, closed, marked, counted, Premise, default, given, Premises, no_premises, more_premises, syntax_def, var_def, relation_def, rule_def, fun_def, clause_def, Defs, no_defs, more_defs}
use Rattle.st_grammar.specs.Definitions as grammar
use Rattle.st_el.specs.declared.expression.Exp.{Exp}
use Rattle.st_el.specs.declared.definition.Def.{Def}
use Rattle.st_el.specs.declared.definition.Prem.{Prem, out-Prem, out-roll-Prem}
use Rattle.st_el.specs.declared.definition.PremNode.{PremNode, out-PremNode}
use Rattle.st_el.specs.declared.definition.PremNode.TheOpen.{PremNode-F}
use Rattle.st_el.specs.declared.definition.PremNode.TheVariants as prem
use Rattle.st_parse_builder.specs.Meaning.{meaning, count_of}
use Rattle.st_parse_builder.specs.Definitions.{name_in, place_in, prem_at, opened_at, sign_count, condition, iterated, premise_meaning, premises_meaning, def_meaning, defs_meaning, Parse}
use Rattle.st_elab_table.specs.Premises.{node_of}
use Rattle.st_elab_typed.specs.Sources.{is_otherwise, repeats_otherwise, RepeatsNoOtherwise}
use Rattle.st_elab_typed.proofs.Members.{Each-append}
use Rattle.st_elab_typed.proofs.PremNamesKept.{source_level, repeats_none}
use Rattle.st_elab_def.specs.Sources.{NodeRepeatsNoOtherwise, RepeatNoOtherwise}

node_of-at : (at : Span) (n : PremNode) → node_of (prem_at at n) ≡ out-PremNode n
node_of-at at n = ap (λ z. out-PremNode z.node) (out-roll-Prem (record { at = at; node = n }))

-- a condition is no `otherwise`
condition-none : (ls : List Terminal) (e : Exp) → is_otherwise (condition ls e) ≡ false
condition-none [] e = source_level (condition [] e) (PremNode-F.If e) (node_of-at (place_in []) (prem.If e) ∙ prem.outs-If e)
condition-none (r ∷ []) e = source_level (condition (r ∷ []) e) (PremNode-F.If e) (node_of-at (place_in (r ∷ [])) (prem.If e) ∙ prem.outs-If e)
condition-none (r ∷ c ∷ ls) e = source_level (condition (r ∷ c ∷ ls) e) _ (node_of-at (place_in (r ∷ c ∷ ls)) (prem.Goal (name_in r) e) ∙ prem.outs-Goal (name_in r) e)

-- so is none that iterates one
iterated-none : (os : List Terminal) (p : Prem) (i : Iterations) → is_otherwise p ≡ false → is_otherwise (iterated os p i) ≡ false
iterated-none os p no_iterations h = h
iterated-none os p (closed i l) h = iterated-none os p i h
iterated-none os p (marked i l) h = source_level (iterated os p (marked i l)) _ (node_of-at (opened_at os (closings i)) (prem.Each (iterated os p i) (sign_count l)) ∙ prem.outs-Each (iterated os p i) (sign_count l)) ∙ iterated-none os p i h
iterated-none os p (counted i l t) h = source_level (iterated os p (counted i l t)) _ (node_of-at (opened_at os (closings i)) (prem.Each (iterated os p i) (count_of t (meaning t))) ∙ prem.outs-Each (iterated os p i) (count_of t (meaning t))) ∙ iterated-none os p i h

premise-none : (p : Premise) → RepeatsNoOtherwise (premise_meaning p)
premise-none (default d o) = ap repeats_otherwise (node_of-at (token_in d).at prem.Otherwise ∙ prem.outs-Otherwise)
premise-none (given d os ls t i) =
    let q : Prem = iterated os (condition ls (meaning t)) i in
    ap repeats_otherwise (node_of-at (token_in d).at (out-Prem q).node) ∙ repeats_none q (iterated-none os (condition ls (meaning t)) i (condition-none ls (meaning t)))

-- ---- whole sources

premises-none : (ps : Premises) → AllByRecursion RepeatsNoOtherwise (premises_meaning ps)
premises-none no_premises = tt
premises-none (more_premises ps p) = Each-append RepeatsNoOtherwise (premises_meaning ps) (premise_meaning p ∷ []) (premises-none ps) (premise-none p, tt)

def-none : (d : grammar.Def) → NodeRepeatsNoOtherwise (def_meaning d).node
def-none (syntax_def w x ls hs e b) = tt
def-none (var_def w x c t hs) = tt
def-none (relation_def w r hs c t ks) = tt
def-none (rule_def w r ls c t ps) = premises-none ps
def-none (fun_def w f a c t hs) = tt
def-none (clause_def w f a e t ps) = premises-none ps

defs-none : (ds : Defs) → RepeatNoOtherwise (defs_meaning ds)
defs-none no_defs = tt
defs-none (more_defs ds d) = Each-append (λ (def : Def). NodeRepeatsNoOtherwise def.node) (defs_meaning ds) (def_meaning d ∷ []) (defs-none ds) (def-none d, tt)

pub parsed_repeat_none : (names : List (List ℕ)) (tokens : List Token) (defs : List Def) → Parse names tokens defs → RepeatNoOtherwise defs
parsed_repeat_none names tokens defs h = subst RepeatNoOtherwise h.meant (defs-none h.trees)
