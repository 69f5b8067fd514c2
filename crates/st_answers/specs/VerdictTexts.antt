-- The printed texts of verdicts: on a derivation, and on the text of an internal language.
use Rattle.std.specs.Prelude.{ℕ, List, ◌++◌, codes, decimal}
use Rattle.st_il.specs.declared.type_rule.TypeRule.{TypeRule}
use Rattle.st_il.specs.declared.type_rule.TypeRule.TheVariants.{T1, T2, T3, T4, T5, T6, T7, T8, T9, T10, T11, T12, T13, T14}
use Rattle.st_semantics.specs.declared.verify_rule.VerifyRule.{VerifyRule}
use Rattle.st_semantics.specs.declared.verify_rule.VerifyRule.TheVariants.{V1, V2, V3, V4, V5, V6, V7, V8, V9, V10, V11, V12, V13}

-- a derivation is accepted: its lines, and the steps among them
abbrev pub accepted_text : ℕ → ℕ → List ℕ
accepted_text lines steps =
    codes "accepted " ++ decimal lines ++ codes " lines " ++ decimal steps ++ codes " steps\n"

-- the name of a rule on derivations, as it is printed
abbrev pub rule_word : VerifyRule → List ℕ
rule_word V1 = codes "V1"
rule_word V2 = codes "V2"
rule_word V3 = codes "V3"
rule_word V4 = codes "V4"
rule_word V5 = codes "V5"
rule_word V6 = codes "V6"
rule_word V7 = codes "V7"
rule_word V8 = codes "V8"
rule_word V9 = codes "V9"
rule_word V10 = codes "V10"
rule_word V11 = codes "V11"
rule_word V12 = codes "V12"
rule_word V13 = codes "V13"

-- a line of a derivation is refused by a rule
abbrev pub refused_text : ℕ → VerifyRule → List ℕ
refused_text line rule =
    codes "refused derivation " ++ decimal line ++ codes " " ++ rule_word rule ++ codes "\n"

-- a line of the text of an internal language is refused by a rule
abbrev pub refused_il_text : ℕ → VerifyRule → List ℕ
refused_il_text line rule =
    codes "refused il " ++ decimal line ++ codes " " ++ rule_word rule ++ codes "\n"

-- the name of a rule on types, as it is printed
abbrev pub type_rule_word : TypeRule → List ℕ
type_rule_word T1 = codes "T1"
type_rule_word T2 = codes "T2"
type_rule_word T3 = codes "T3"
type_rule_word T4 = codes "T4"
type_rule_word T5 = codes "T5"
type_rule_word T6 = codes "T6"
type_rule_word T7 = codes "T7"
type_rule_word T8 = codes "T8"
type_rule_word T9 = codes "T9"
type_rule_word T10 = codes "T10"
type_rule_word T11 = codes "T11"
type_rule_word T12 = codes "T12"
type_rule_word T13 = codes "T13"
type_rule_word T14 = codes "T14"

-- the definition in a line of the text of an internal language breaks a rule on types
abbrev pub untyped_text : ℕ → TypeRule → List ℕ
untyped_text line rule =
    codes "refused il " ++ decimal line ++ codes " V2 " ++ type_rule_word rule ++ codes "\n"
