-- The printed texts of refusals: of a place in a specification, with its definition and the rule, and
-- of one in a term.
use Rattle.std.specs.Prelude.{ℕ, List, [], ◌∷◌, ◌++◌, Option, Some, None, codes, decimal}
use Rattle.st_el.specs.declared.definition.DefNode.{DefNode}
use Rattle.st_el.specs.declared.definition.DefNode.TheVariants.{Syntax, Var, Relation, Rule, Fun, Clause}
use Rattle.st_num.specs.declared.rule.RuleId.{RuleId}
use Rattle.st_num.specs.declared.rule.RuleId.TheVariants as id
use Rattle.st_num.specs.declared.span.Span.{Span}

-- the name of a rule on specifications, as it is printed
abbrev pub rule_id_word : RuleId → List ℕ
rule_id_word id.L1 = codes "L1"
rule_id_word id.L2 = codes "L2"
rule_id_word id.L3 = codes "L3"
rule_id_word id.L4 = codes "L4"
rule_id_word id.S1 = codes "S1"
rule_id_word id.S2 = codes "S2"
rule_id_word id.S3 = codes "S3"
rule_id_word id.S4 = codes "S4"
rule_id_word id.B1 = codes "B1"
rule_id_word id.B2 = codes "B2"
rule_id_word id.B3 = codes "B3"
rule_id_word id.B4 = codes "B4"
rule_id_word id.B5 = codes "B5"
rule_id_word id.B6 = codes "B6"
rule_id_word id.Y1 = codes "Y1"
rule_id_word id.Y2 = codes "Y2"
rule_id_word id.Y3 = codes "Y3"
rule_id_word id.Y4 = codes "Y4"
rule_id_word id.Y5 = codes "Y5"
rule_id_word id.Y6 = codes "Y6"
rule_id_word id.Y7 = codes "Y7"
rule_id_word id.Y8 = codes "Y8"
rule_id_word id.I1 = codes "I1"
rule_id_word id.I2 = codes "I2"
rule_id_word id.M1 = codes "M1"
rule_id_word id.M2 = codes "M2"
rule_id_word id.M3 = codes "M3"
rule_id_word id.M4 = codes "M4"
rule_id_word id.M5 = codes "M5"
rule_id_word id.M6 = codes "M6"
rule_id_word id.M7 = codes "M7"

-- the part of a rule's name behind that of its relation, as it is printed: a slash and the name, or
-- nothing where it has none
abbrev pub part_words : List ℕ → List ℕ
part_words [] = []
part_words (byte ∷ name) = codes "/" ++ byte ∷ name

-- the part of a fragment's name behind that of its syntax, as it is printed
abbrev pub fragment_words : Option (List ℕ) → List ℕ
fragment_words None = []
fragment_words (Some name) = codes "/" ++ name

-- how a definition is named where it is refused: by its kind and its name
abbrev pub definition_words : DefNode → List ℕ
definition_words (Syntax name fragment body) = codes "syntax " ++ name ++ fragment_words fragment
definition_words (Var name typ) = codes "var " ++ name
definition_words (Relation name notation) = codes "relation " ++ name
definition_words (Rule relation name conclusion premises) =
    codes "rule " ++ relation ++ part_words name
definition_words (Fun name params result) = codes "def $" ++ name
definition_words (Clause name args result premises) = codes "def $" ++ name

-- how it is said that no definition is named
abbrev pub no_definition : List ℕ
no_definition = codes "-"

-- a place in the file of this name, in the definition of these words, is refused by a rule
abbrev pub refused_source_text : List ℕ → Span → List ℕ → RuleId → List ℕ
refused_source_text name at definition rule =
    codes "refused " ++ name ++ codes ":" ++ decimal at.line ++ codes ":" ++ decimal at.column
    ++ codes " " ++ definition ++ codes " " ++ rule_id_word rule ++ codes "\n"

-- a place in a term or a query is refused by a rule
abbrev pub refused_term_text : Span → RuleId → List ℕ
refused_term_text at rule =
    codes "term refused " ++ decimal at.line ++ codes ":" ++ decimal at.column ++ codes " "
    ++ rule_id_word rule ++ codes "\n"
