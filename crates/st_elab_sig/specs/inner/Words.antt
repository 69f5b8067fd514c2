-- How the code builds a tag: its words, with a space behind each.
use Rattle.std.specs.Prelude.{ℕ, List, [], ◌∷◌, ◌++◌, flat_map}
use Rattle.st_el.specs.declared.notation.Notation.{Notation}
use Rattle.st_il.specs.declared.template.TagPart.{TagPart}
use Rattle.st_il.specs.Template.{tag_parts_of, written}
use Rattle.st_elab_sig.specs.Signatures.{template_of}

-- ---- how a tag is built

-- the words of a notation, in order
abbrev pub words_in : Notation → List TagPart
words_in notation = tag_parts_of (template_of notation)

-- words with a space behind each
abbrev pub trailed : List TagPart → List ℕ
trailed words = flat_map (λ word. written word ++ 32 ∷ []) words
