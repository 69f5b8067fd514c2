-- The law that breaches stand in the files of their source.
use Rattle.std.specs.Prelude.{ℕ, ◌<◌, List}
use Rattle.std.specs.List.{AllByRecursion}
use Rattle.st_num.specs.declared.token.Token.{Token}
use Rattle.st_grammar.specs.Terminals.{declared_names}
use Rattle.st_el.specs.declared.definition.Def.{Def}
use Rattle.st_parse_builder.specs.Definitions.{Parse}
use Rattle.st_elab_def.specs.declared.breach.Breach.{Breach}
use Rattle.st_elab_def.specs.Breaches.{IsBreach}

-- each token stands in a file before number n
abbrev pub StandBefore : ℕ → List Token → Type 0
StandBefore n tokens = AllByRecursion (λ (t : Token). t.at.file < n) tokens

-- Where tokens stand in files before number n, so does each breach of the definitions that they
-- mean.
abbrev pub BreachesStand : Type 0
BreachesStand = (n : ℕ) (tokens : List Token) (defs : List Def) (b : Breach) → 0 < n
    → StandBefore n tokens → Parse (declared_names tokens) tokens defs → IsBreach defs b
    → b.at.file < n
