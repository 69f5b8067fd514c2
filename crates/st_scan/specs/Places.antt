-- Places in a file.
use Rattle.std.specs.Prelude.{◌≡◌, ℕ, ◌+◌, ◌-◌, List, length, take, count_by}
use Rattle.std.specs.List.{after_last}
use Rattle.st_num.specs.declared.span.Span.{Span}
use Rattle.st_scan.specs.declared.line_column.LineColumn.{LineColumn}
use Rattle.st_scan.specs.Bytes.{is_line_feed, begins_character}

-- how many bytes of the file stand before its rest
abbrev pub offset : List ℕ → List ℕ → ℕ
offset file rest = length file - length rest

-- the line of what stands behind these bytes: one more than the line feeds
abbrev pub line_behind : List ℕ → ℕ
line_behind before = count_by is_line_feed before + 1

-- the column of what stands behind these bytes: one more than the characters on its line
abbrev pub column_behind : List ℕ → ℕ
column_behind before = count_by begins_character (after_last is_line_feed before) + 1

-- the place where the rest of the file of this number begins
abbrev pub place : ℕ → List ℕ → List ℕ → Span
place number file rest =
    let before = take (offset file rest) file in
    record { file = number; line = line_behind before; column = column_behind before }

-- these are the line and the column of what stands behind these bytes
pub record IsBehind (before : List ℕ) (here : LineColumn) : Type 0 where
  pub line : here.line ≡ line_behind before
  pub column : here.column ≡ column_behind before
