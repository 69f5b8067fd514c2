-- What stands before the next token is told by the tokens that are read.
use Rattle.std.proofs.Common.{◌≡◌, [], ◌∷◌, ◌++◌, Bool, true, false, refl, append-nil}
use Rattle.st_grammar.specs.Trees.{Tree}
use Rattle.st_grammar.specs.Definitions.{defs_text, no_hints}
use Rattle.st_grammar.specs.Reading.{Frames, got, sort}
use Rattle.st_grammar.specs.Positions.{of_syntax, Slot, hinted, premise_open, State, at, inside}
use Rattle.st_grammar.proofs.PositionTexts as texts
use Rattle.st_grammar.proofs.PositionTexts.{Holds}
use Rattle.st_parse_faults.specs.declared.before.Before.{Before}
use Rattle.st_parse_faults.specs.declared.before.Before.TheVariants as before
use Rattle.st_parse_faults.specs.inner.LeftOut.{is_type_in, type_or_other, before_next, is_syntax_name, is_dashes, is_typ}
use Rattle.st_parse_faults.specs.FormsLeftOut.{EndWithSyntax, EndWithDashes}
use Rattle.st_parse_faults.proofs.PositionNumberFacts.{no_way}

-- what stands before the next token, by the tokens that are read
abbrev pub Told : State → Before → Type 0
Told st before.SyntaxName = EndWithSyntax (texts.seen st)
Told st before.Dashes = EndWithDashes (texts.seen st)
Told st before.Typ = (s : Slot) × (t : Tree) × (fs : Frames) × (st ≡ inside s (got t fs)) × (is_type_in (sort fs) t ≡ true)
Told st before.Other = Unit {0}

told_got : (s : Slot) (t : Tree) (fs : Frames) → Told (inside s (got t fs)) (type_or_other (is_type_in (sort fs) t))
told_got s t fs = go (is_type_in (sort fs) t) refl
  where
    go : (b : Bool) → is_type_in (sort fs) t ≡ b → Told (inside s (got t fs)) (type_or_other b)
    go true e = (s, t, fs, refl, e)
    go false e = tt

pub told : (st : State) → Holds st → Told st (before_next st)
told (at (hinted (of_syntax ds w x []) no_hints)) h = (defs_text ds, w, x, append-nil (defs_text ds ++ w ∷ x ∷ []), h.0.1, h.0.2)
told (at (premise_open r t ps d [])) h = (texts.ruled_text r t ps, d, refl, h.3)
told (inside s (got t fs)) h = told_got s t fs
told st h = tt

pub syntax_told : (st : State) (b : Before) → Told st b → is_syntax_name b ≡ true → EndWithSyntax (texts.seen st)
syntax_told st before.SyntaxName t e = t
syntax_told st before.Dashes t e = absurd (no_way e)
syntax_told st before.Typ t e = absurd (no_way e)
syntax_told st before.Other t e = absurd (no_way e)

pub dashes_told : (st : State) (b : Before) → Told st b → is_dashes b ≡ true → EndWithDashes (texts.seen st)
dashes_told st before.SyntaxName t e = absurd (no_way e)
dashes_told st before.Dashes t e = t
dashes_told st before.Typ t e = absurd (no_way e)
dashes_told st before.Other t e = absurd (no_way e)

pub typ_told : (st : State) (b : Before) → Told st b → is_typ b ≡ true → Told st before.Typ
typ_told st before.SyntaxName t e = absurd (no_way e)
typ_told st before.Dashes t e = absurd (no_way e)
typ_told st before.Typ t e = t
typ_told st before.Other t e = absurd (no_way e)
