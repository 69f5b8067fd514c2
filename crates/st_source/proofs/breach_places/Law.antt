-- Breaches and definitions stand in files of the tokens of their source.
use Rattle.std.proofs.Common.{sym, subst, ℕ, ◌<◌, List, [], ◌∷◌, map}
use Rattle.std.specs.List.{AllByRecursion}
use Rattle.st_num.specs.declared.span.Span.{Span}
use Rattle.st_num.specs.declared.token.Token.{Token}
use Rattle.st_grammar.specs.Terminals.{terminal, declared_names}
use Rattle.st_grammar.proofs.TerminalTokens.{terminal_token}
use Rattle.st_el.specs.declared.definition.Def.{Def}
use Rattle.st_parse_builder.specs.Definitions.{Parse}
use Rattle.st_parse.proofs.Standing.{Stand}
use Rattle.st_source.specs.BreachesStand.{StandBefore, BreachesStand}
use Rattle.st_source.proofs.breach_places.Definitions.{DefStands}
use Rattle.st_source.proofs.breach_places.DefMeaning.{DefStands-meaning}
use Rattle.st_source.proofs.breach_places.IsBreach.{IsBreach-stands}

-- the place is in a file before number n
abbrev pub IsBefore : ℕ → Span → Type 0
IsBefore n at = at.file < n

terminals_stand : (n : ℕ) (names : List (List ℕ)) (xs : List Token) → StandBefore n xs → Stand (IsBefore n) (map (terminal names) xs)
terminals_stand n names [] h = tt
terminals_stand n names (x ∷ xs) h = (subst (λ (y : Token). IsBefore n y.at) (sym (terminal_token names x)) h.0, terminals_stand n names xs h.1)

pub definitions-stand : (n : ℕ) (tokens : List Token) (defs : List Def) → 0 < n → StandBefore n tokens → Parse (declared_names tokens) tokens defs → AllByRecursion (DefStands (IsBefore n)) defs
definitions-stand n tokens defs some all parsed =
    let read = subst (Stand (IsBefore n)) parsed.grammar.spelled (terminals_stand n (declared_names tokens) tokens all) in
    subst (AllByRecursion (DefStands (IsBefore n))) parsed.meant (DefStands-meaning (IsBefore n) some parsed.trees read)

pub breaches-stand : BreachesStand
breaches-stand n tokens defs b some all parsed breach = IsBreach-stands (IsBefore n) defs b (definitions-stand n tokens defs some all parsed) breach
