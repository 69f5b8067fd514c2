use Rattle.std.proofs.Common.{refl, sym, ◌∙◌}
use Rattle.st_scan.proofs.Places.{behind_feed, behind_first, behind_other}
use Rattle.st_scan.proofs.line_column.LineColumn.behind_byte.Goals as goal

pub returns-then-byte-eq10-clause-same : goal.returns-then-byte-eq10-clause-same
returns-then-byte-eq10-clause-same c = λ before h. behind_feed before _ _ _ h c.if-byte-eq10.true refl refl

pub returns-then-begins_character-clause-same : goal.returns-then-begins_character-clause-same
returns-then-begins_character-clause-same c = λ before h. behind_first before _ _ _ h c.if-byte-eq10.false (sym c.begins_character.ensures ∙ c.if-begins_character.true) refl refl

pub returns-else-begins_character-clause-same : goal.returns-else-begins_character-clause-same
returns-else-begins_character-clause-same c = λ before h. behind_other before _ _ _ h c.if-byte-eq10.false (sym c.begins_character.ensures ∙ c.if-begins_character.false) refl refl
