-- What holds of the texts of all lines.
use Rattle.std.specs.Prelude.{◌≡◌, ◌≢◌, ℕ, List}
use Rattle.st_deriv.specs.declared.line.Line.{Line}
use Rattle.std.specs.List.{All}
use Rattle.st_deriv.specs.LineText.{HasText, LineText, lines_text, LinesText}

-- a line has at most one text
abbrev pub OneText : Type 0
OneText =
    (line : Line) (bytes others : List ℕ) → LineText line bytes → LineText line others
    → bytes ≡ others

-- bytes are the text of at most one line
abbrev pub OneLine : Type 0
OneLine =
    (line other : Line) (bytes : List ℕ) → LineText line bytes → LineText other bytes → line ≡ other

-- what is printed of lines that have texts is the texts of these lines, and of no others
abbrev pub PrintedIsRead : Type 0
PrintedIsRead = (lines : List Line) → All HasText lines
    → LinesText lines (lines_text lines)
    × ((others : List Line) → LinesText others (lines_text lines) → lines ≡ others)

-- a text has no line feed, so lines end at the line feeds alone
abbrev pub NoLineFeed : Type 0
NoLineFeed = (line : Line) (bytes : List ℕ) → LineText line bytes → All (λ byte. byte ≢ 10) bytes
