-- How the files of a specification are refused: by their first fault or breach, which is told.
use Rattle.std.specs.Prelude.{◌≡◌, ◌≢◌, ℕ, List, [], Some, slice_get}
use Rattle.st_answers.specs.RefusalTexts.{definition_words, no_definition, refused_source_text}
use Rattle.st_el.specs.declared.definition.Def.{Def}
use Rattle.st_elab_def.specs.Breaches.{IsBreach}
use Rattle.st_elab_def.specs.Elaboration.{IsElaborated}
use Rattle.st_elab_def.specs.declared.breach.Breach.{Breach}
use Rattle.st_elab_def.specs.declared.elaborated.Elaborated.{Elaborated}
use Rattle.st_num.specs.declared.rule.RuleId.{RuleId}
use Rattle.st_num.specs.declared.span.Span.{Span}
use Rattle.st_num.specs.declared.token.Token.{Token}
use Rattle.st_parse.specs.Source.{IsSource}
use Rattle.st_semantics.specs.Breaches.{IsModeBreach}
use Rattle.st_source.specs.Faults.{AllTokens, IsSourceFault}

-- The definitions of a source, in files of these names, are refused, and this text tells why.
pub data IsRefused (names : List (List ℕ)) (defs : List Def) : List ℕ → Type 0 where
  -- the first breach, with its place, in the file of this name, and the definition that it is in
  broken : {bytes : List ℕ} (b : Breach) (def : Def) (name : List ℕ) → IsBreach defs b
      → slice_get defs b.definition ≡ Some def → slice_get names b.at.file ≡ Some name
      → bytes ≡ refused_source_text name b.at (definition_words def.node) b.rule
      → IsRefused names defs bytes
  -- There is none, but a rule on modes is broken in what they are elaborated to: the first
  -- definition that breaks one, with its place, in the file of this name, and the least that it
  -- breaks.
  unmoded : {bytes : List ℕ} (e : Elaborated) (place number : ℕ) (rule : RuleId) (def : Def)
      (name : List ℕ) → IsElaborated defs e → IsModeBreach e.il place rule
      → slice_get e.sources place ≡ Some number → slice_get defs number ≡ Some def
      → slice_get names def.at.file ≡ Some name
      → bytes ≡ refused_source_text name def.at (definition_words def.node) rule
      → IsRefused names defs bytes

-- The files of these names are refused, and this text tells why.
pub data AreRefused (names files : List (List ℕ)) : List ℕ → Type 0 where
  -- the first fault, with its place, in the file of this name
  faulty : {bytes : List ℕ} (name : List ℕ) (at : Span) (rule : RuleId)
      → IsSourceFault files at rule → slice_get names at.file ≡ Some name
      → bytes ≡ refused_source_text name at no_definition rule → AreRefused names files bytes
  -- the tokens of the files are those of a source, whose definitions are refused
  parsed : {bytes : List ℕ} (tokens : List Token) (defs : List Def) → AllTokens 0 files tokens
      → tokens ≢ [] → IsSource tokens defs → IsRefused names defs bytes
      → AreRefused names files bytes
