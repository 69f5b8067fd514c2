-- Tokens without a fault mean the definitions that they are read as.
use Rattle.std.proofs.Common.{◌≡◌, List, length, map, Some, refl, sym, ap, ◌∙◌, arith}
use Rattle.std.proofs.lemmas.List.{take_all, length-map}
use Rattle.st_num.specs.declared.token.Token.{Token}
use Rattle.st_grammar.specs.Terminals.{terminal, declared_names}
use Rattle.st_grammar.specs.Positions.{reading, start}
use Rattle.st_grammar.proofs.PositionReading.{sound_defs}
use Rattle.st_grammar.proofs.PositionComplete.{one_list_of_defs}
use Rattle.st_parse_automaton.specs.Refusal.{terminals_of}
use Rattle.st_parse_faults.specs.inner.Folding.{AllPass}
use Rattle.st_parse_faults.proofs.Verdicts.{verdict_reads}
use Rattle.st_parse_faults.proofs.BrokenFirst.{all_kept}
use Rattle.st_el.specs.declared.definition.Def.{Def}
use Rattle.st_parse_builder.specs.Definitions.{defs_meaning}
use Rattle.st_parse.specs.Source.{IsParsed}

pub reads_all : (tokens : List Token) (h : AllPass tokens) → reading start (map (terminal (declared_names tokens)) tokens) ≡ Some h.0.state
reads_all tokens h =
    ap (reading start) (sym (take_all (length tokens) (terminals_of tokens) (omega (arith, length-map tokens (terminal (declared_names tokens))))))
    ∙ verdict_reads tokens (length tokens) h.0 h.2

pub parsed : (tokens : List Token) (h : AllPass tokens) → IsParsed tokens (defs_meaning h.1)
parsed tokens h = (all_kept tokens h, record { trees = h.1; grammar = sound_defs (terminals_of tokens) h.0.state h.1 (reads_all tokens h) h.3; meant = refl })

-- They mean no other definitions.
pub meant : (tokens : List Token) (defs : List Def) → IsParsed tokens defs → (h : AllPass tokens) → defs_meaning h.1 ≡ defs
meant tokens defs (k, p) h =
    let us = terminals_of tokens in
    let one : h.1 ≡ p.trees = one_list_of_defs us h.1 p.trees (sound_defs us h.0.state h.1 (reads_all tokens h) h.3) p.grammar in
    ap defs_meaning one ∙ p.meant

pub one_meant : (tokens : List Token) (a b : List Def) → IsParsed tokens a → IsParsed tokens b → a ≡ b
one_meant tokens a b (h, p) (k, q) = sym p.meant ∙ ap defs_meaning (one_list_of_defs (terminals_of tokens) p.trees q.trees p.grammar q.grammar) ∙ q.meant
