-- The first token of definitions that breaks a rule, and the rule.
use Rattle.std.specs.Prelude.{ℕ, List}
use Rattle.st_num.specs.declared.rule.RuleId.{RuleId}
use Rattle.st_num.specs.declared.token.Token.{Token}
use Rattle.st_grammar.specs.Terminals.{declared_names}
use Rattle.st_grammar.specs.Definitions.{Defs, ParseDefs}
use Rattle.st_parse_automaton.specs.Refusal.{RefusedAt}
use Rattle.st_parse_faults.specs.DefinitionNumbers.{defs_numbers}
use Rattle.st_parse_faults.specs.FormsLeftOut.{LeftOut}
use Rattle.st_parse_faults.specs.Faults as fault
use Rattle.st_parse_faults.specs.Faults.{Text}

-- tokens that are to be definitions
abbrev pub definition_text : List Token → Text
definition_text tokens = record {
  tokens = tokens;
  names = declared_names tokens;
  Trees = Defs;
  Parse = ParseDefs;
  numbers = defs_numbers;
  Refuses = RefusedAt tokens;
  LeavesOut = LeftOut (declared_names tokens);
}

-- No token has a fault: the tokens are definitions, and none passes a limit.
abbrev pub Faultless : List Token → Type 0
Faultless tokens = fault.Faultless (definition_text tokens)

-- Definitions begin with the first k tokens, and none of these passes a limit.
abbrev pub FrontKept : List Token → ℕ → Type 0
FrontKept tokens k = fault.FrontKept (definition_text tokens) k

-- The first token that breaks a rule is token k, or the end there, and it breaks this one.
abbrev pub FirstFault : List Token → ℕ → RuleId → Type 0
FirstFault tokens k r = fault.FirstFault (definition_text tokens) k r
