-- The first token of expressions that breaks a rule, and the rule.
use Rattle.std.specs.Prelude.{◌≡◌, ℕ, List, [], ◌++◌, false}
use Rattle.st_num.specs.declared.mark.Mark.{Mark}
use Rattle.st_num.specs.declared.mark.Mark.TheVariants as mark
use Rattle.st_num.specs.declared.word.Word.{Word}
use Rattle.st_num.specs.declared.word.Word.TheVariants as word
use Rattle.st_num.specs.declared.rule.RuleId.{RuleId}
use Rattle.st_num.specs.declared.token.Token.{Token}
use Rattle.st_num.specs.declared.token.TokenKind.{TokenKind}
use Rattle.st_num.specs.declared.token.TokenKind.TheVariants as kind
use Rattle.st_grammar.specs.declared.sort.Sort.TheVariants.{Expression as expression}
use Rattle.st_grammar.specs.Terminals.{Terminal}
use Rattle.st_grammar.specs.Trees.{Tree, Trees, none, more}
use Rattle.st_parse_faults.specs.Nesting.{brackets_behind}
use Rattle.st_parse_faults.specs.Number.{Number}
use Rattle.st_parse_faults.specs.Numbers.{no_entries, numbers}
use Rattle.st_parse_faults.specs.DefinitionNumbers.{alone}
use Rattle.st_parse_faults.specs.Faults as fault
use Rattle.st_parse_faults.specs.Faults.{Text}
use Rattle.st_parse.specs.Expressions.{ParseExpressions, RefusedAt}

-- ---- numbers

-- what each token of an expression begins: nothing stands before it, and no bracket is open
abbrev pub expression_numbers : Tree → List (List Number)
expression_numbers t = numbers (alone (expression false) 0 []) t

-- what each token of expressions begins; a comma between them begins nothing, and nothing is
-- counted across it
abbrev pub expressions_numbers : Trees → List (List Number)
expressions_numbers none = []
expressions_numbers (more ts pre t) =
    expressions_numbers ts ++ (no_entries pre ++ expression_numbers t)

-- ---- forms that are left out of the grammar

-- a sign that is refused behind these tokens begins such a form: `,` where as many brackets are
-- closed as opened, and `...`
abbrev pub SignLeftOut : List Terminal → Mark → Type 0
SignLeftOut us mark.Comma = brackets_behind 0 us ≡ 0
SignLeftOut us mark.Ellipsis = Unit {0}
SignLeftOut us m = ⊥

-- a word that is refused does: `grammar`, `rat` or `real`
abbrev pub WordLeftOut : Word → Type 0
WordLeftOut word.Grammar = Unit {0}
WordLeftOut word.Rat = Unit {0}
WordLeftOut word.Real = Unit {0}
WordLeftOut w = ⊥

-- A token of this kind that is refused behind these tokens begins a form that is left out. No
-- syntax, premise or type stands before it.
abbrev pub LeftOut : List Terminal → TokenKind → Type 0
LeftOut us (kind.Sign m) = SignLeftOut us m
LeftOut us (kind.Reserved w) = WordLeftOut w
LeftOut us k = ⊥

-- ---- faults

-- tokens that are to be expressions, where these names are declared by `var`
abbrev pub expression_text : List (List ℕ) → List Token → Text
expression_text names tokens = record {
  tokens = tokens;
  names = names;
  Trees = Trees;
  Parse = ParseExpressions;
  numbers = expressions_numbers;
  Refuses = RefusedAt names tokens;
  LeavesOut = λ us (x : Token). LeftOut us x.kind;
}

-- No token has a fault: the tokens are expressions, and none passes a limit.
abbrev pub Faultless : List (List ℕ) → List Token → Type 0
Faultless names tokens = fault.Faultless (expression_text names tokens)

-- Expressions begin with the first k tokens, and none of these passes a limit.
abbrev pub FrontKept : List (List ℕ) → List Token → ℕ → Type 0
FrontKept names tokens k = fault.FrontKept (expression_text names tokens) k

-- The first token that breaks a rule is token k, or the end there, and it breaks this one.
abbrev pub FirstFault : List (List ℕ) → List Token → ℕ → RuleId → Type 0
FirstFault names tokens k r = fault.FirstFault (expression_text names tokens) k r
