use Rattle.std.proofs.Common.{◌∷◌, [], ◌++◌, refl, ◌∙◌, ap, codes}
use Rattle.std.specs.List.{flat_map}
use Rattle.st_il.specs.Small.{IsUpper, IsWordOf}
use Rattle.st_small.specs.SmallText.{alternative_text}
use Rattle.st_small.proofs.ReaderRows.{Leaves-end, Leaves-none, IsRead-start, IsRead-more}
use Rattle.st_small.proofs.ReaderLines.{IsLineEnd, Stops-alternatives, no_alternative, atom_front, peel}
use Rattle.st_small.proofs.reader.line.read_atoms.Goals as goal

pub loop-alternative-init : goal.loop-alternative-init
loop-alternative-init c =
    IsRead-start alternative_text (IsWordOf IsUpper) IsLineEnd c.args.bytes.now c.new-atoms.result c.new-atoms.ensures

pub loop-alternative-preserved : goal.loop-alternative-preserved
loop-alternative-preserved c =
    IsRead-more alternative_text (IsWordOf IsUpper) IsLineEnd c.args.bytes.now c.loop-alternative.atoms _
    c.loop-alternative.rest.now c.in-Some-read_word.atom.now c.in-Some-read_word.after.now
    c.loop-alternative.invariant
    (no_alternative _ _ c.in-Some.ensures)
    c.in-Some-read_word.ensures.read.0
    (c.in-Some.ensures ∙ ap (λ r. codes " | " ++ r) c.in-Some-read_word.ensures.read.1)
    (λ x more tail fits is_tail e.
    c.in-Some-read_word.ensures.only x (flat_map alternative_text more ++ tail) fits (Stops-alternatives more tail is_tail)
    (atom_front _ _ x more tail c.in-Some.ensures e))
    (c.in_ok-push.ensures.ok ∙ ap (λ n. c.loop-alternative.atoms ++ n ∷ []) c.in_ok-from_slice.ensures)

pub returns-in_default-read_word-clause-only : goal.returns-in_default-read_word-clause-only
returns-in_default-read_word-clause-only c = λ atoms rest words e.
    Leaves-none alternative_text (IsWordOf IsUpper) IsLineEnd c.args.bytes.now c.loop-alternative.atoms
    c.loop-alternative.rest.now c.loop-alternative.invariant.leaves
    (λ x more tail fits is_tail e.
    c.in_default-read_word.ensures.only x (flat_map alternative_text more ++ tail) fits (Stops-alternatives more tail is_tail)
    (atom_front _ _ x more tail c.in-Some.ensures e))
    (no_alternative _ _ c.in-Some.ensures)
    atoms (codes "\n" ++ rest) words (rest, refl) e

pub returns-in-Some-behind-clause-only : goal.returns-in-Some-behind-clause-only
returns-in-Some-behind-clause-only c = λ atoms rest words e.
    let found = Leaves-end alternative_text (IsWordOf IsUpper) IsLineEnd c.args.bytes.now c.loop-alternative.atoms
    c.loop-alternative.rest.now c.loop-alternative.invariant.leaves
    (λ x more tail fits is_tail e. c.in_default.ensures _ e)
    atoms (codes "\n" ++ rest) words (rest, refl) e in
    (found.0, peel (codes "\n") _ _ _ c.in-Some-behind.ensures found.1)

pub returns-clause-only : goal.returns-clause-only
returns-clause-only c = λ atoms rest words e.
    let found = Leaves-end alternative_text (IsWordOf IsUpper) IsLineEnd c.args.bytes.now c.loop-alternative.atoms
    c.loop-alternative.rest.now c.loop-alternative.invariant.leaves
    (λ x more tail fits is_tail e. c.in_default.ensures _ e)
    atoms (codes "\n" ++ rest) words (rest, refl) e in
    c.in-None.ensures rest found.1
