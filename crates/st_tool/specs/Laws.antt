-- What the outcomes of commands have to do with each other.
use Rattle.std.specs.Prelude.{ℕ, List, [], flat_map, Contains}
use Rattle.st_deriv.specs.declared.line.Line.{Line}
use Rattle.st_el.specs.declared.definition.Def.{Def}
use Rattle.st_el.specs.declared.expression.Exp.{Exp}
use Rattle.st_grammar.specs.Terminals.{declared_names}
use Rattle.st_il.specs.declared.definition.Il.{Il}
use Rattle.st_il.specs.declared.small.Small.{Small}
use Rattle.st_il.specs.Small.{il_of}
use Rattle.st_iltext.specs.IlText.{IlText}
use Rattle.st_num.specs.declared.token.Token.{Token}
use Rattle.st_parse_builder.specs.Definitions.{Parse}
use Rattle.st_parse_law.specs.DefExps.{exps_of}
use Rattle.st_parse_law.specs.ReadBack.{ReadBack}
use Rattle.st_source.specs.Faults.{AllTokens}
use Rattle.st_answers.specs.declared.status.Status.{Status}
use Rattle.st_answers.specs.declared.status.Status.TheVariants as answer
use Rattle.st_commands.specs.Derived.{IsDerivationText}
use Rattle.st_answers.specs.Verification.{VerifyGives, AreTexts}
use Rattle.st_semantics.specs.Accepts.{AreSound}
use Rattle.st_answers.specs.VerdictTexts.{accepted_text}

-- What `derive` prints is accepted by `verify`, with what `il` prints for the same specification.
abbrev pub DerivedIsAccepted : Type 0
DerivedIsAccepted =
    (small : Small) (atom il derivation : List ℕ) (status : Status) → IlText (il_of small) il
    → IsDerivationText small atom status derivation
    → (lines steps : ℕ) × VerifyGives il derivation answer.Done (accepted_text lines steps)

-- What `verify` accepts shows nothing that is not derivable: the files are the texts of an internal
-- language and of lines, each node line of which has a valid tree, and each step of which goes from
-- a term to one that is derivable from it.
abbrev pub AcceptedIsSound : Type 0
AcceptedIsSound =
    (il_bytes derivation bytes : List ℕ) → VerifyGives il_bytes derivation answer.Done bytes
    → (il : Il) × (lines : List Line) × AreTexts il_bytes derivation il lines [] × AreSound il lines

-- Where the tokens of files mean these definitions, the source text of each expression in them is
-- read back as this expression, with the names that the files declare: places, parentheses and
-- `$( )` aside.
abbrev pub PrintedIsReadBack : Type 0
PrintedIsReadBack =
    (files : List (List ℕ)) (tokens : List Token) (defs : List Def) → AllTokens 0 files tokens
    → Parse (declared_names tokens) tokens defs → (file : ℕ) (e : Exp)
    → Contains (flat_map exps_of defs) e → ReadBack (declared_names tokens) file e
