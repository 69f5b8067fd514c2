-- The answer that refuses a definition, in a file of these names.
use Rattle.std.proofs.Common.{◌≡◌, ℕ, ◌<◌, List, length, get_or, ap, ◌∙◌, sym}
use Rattle.std.specs.Prelude.{Result, Ok, Err, IfOk, Some, slice_get}
use Rattle.std.proofs.lemmas.Option.{slice_get-get_or}
use Rattle.st_el.specs.declared.definition.Def.{Def}
use Rattle.st_num.specs.declared.memory.NoMemory.{NoMemory}
use Rattle.st_num.specs.declared.rule.RuleId.{RuleId}
use Rattle.st_num.specs.declared.span.Span.{Span}
use Rattle.st_answers.specs.declared.answer.Answer.{Answer}
use Rattle.st_answers.specs.RefusalTexts.{definition_words, refused_source_text}

-- the answer names a file, in which a definition is refused
abbrev pub RefusesIn : List (List ℕ) → Def → Span → RuleId → Answer → Type 0
RefusesIn names def at rule answer =
    (name : List ℕ) × (slice_get names at.file ≡ Some name) × (answer.bytes.items ≡ refused_source_text name at (definition_words def.node) rule)

pub refused_in_file : (names : List (List ℕ)) (def : Def) (at : Span) (rule : RuleId) (words name text : List ℕ) (result : Result Answer NoMemory) → at.file < length names
    → words ≡ definition_words def.node → name ≡ get_or names at.file name → text ≡ name → IfOk result (λ answer. answer.bytes.items ≡ refused_source_text text at words rule)
    → IfOk result (RefusesIn names def at rule)
refused_in_file names def at rule words name text (Err fault) within worded named same bytes = tt
refused_in_file names def at rule words name text (Ok answer) within worded named same bytes = (
  name,
  slice_get-get_or names at.file name within ∙ ap Some (sym named),
  bytes ∙ ap (λ n. refused_source_text n at words rule) same ∙ ap (λ w. refused_source_text name at w rule) worded,
)
