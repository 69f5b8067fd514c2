-- What is printed of the expressions of files is read back.
use Rattle.std.proofs.Common.{◌≡◌, ℕ, List, [], ◌∷◌, suc, subst, sym}
use Rattle.std.proofs.lemmas.List.Elements.{All-nil}
use Rattle.st_num.specs.declared.token.Token.{Token}
use Rattle.st_parse_law.specs.ReadBack.{IsOfFile, AreOfFiles}
use Rattle.st_parse_law.proofs.Law.{file_tokens, more_tokens}
use Rattle.st_parse_law.proofs.DefLaw.{defs_back}
use Rattle.st_grammar.specs.Terminals.{declared_names}
use Rattle.st_source.specs.Faults.{AllTokens}
use Rattle.st_tool.specs.Laws.{PrintedIsReadBack}

-- the tokens of files one behind another are of files
AllTokens-of_files : (number : ℕ) (files : List (List ℕ)) (tokens : List Token) → AllTokens number files tokens → AreOfFiles tokens
AllTokens-of_files number [] tokens none = subst AreOfFiles (sym none) (All-nil IsOfFile)
AllTokens-of_files number (file ∷ files) tokens (first, later, one, more, is) =
    subst AreOfFiles (sym is) (more_tokens first later (file_tokens number file first one) (AllTokens-of_files (suc number) files later more))

pub printed_is_read_back : PrintedIsReadBack
printed_is_read_back files tokens defs all parsed file e among =
    defs_back (declared_names tokens) file tokens defs e (AllTokens-of_files 0 files tokens all) parsed among
