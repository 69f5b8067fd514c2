-- A text has one internal language.
use Rattle.std.proofs.Common.{◌≡◌, ℕ, suc, List, [], ◌∷◌, ◌++◌, length, flat_map, refl, sym, ap, ap₂, ◌∙◌, append_assoc, arith}
use Rattle.std.specs.List.{All}
use Rattle.std.proofs.lemmas.List.{length-append}
use Rattle.st_il.specs.declared.definition.IlDef.{IlDef}
use Rattle.st_text.specs.Text.{text}
use Rattle.st_text.proofs.Unique.{one_tree}
use Rattle.st_iltext.specs.Definitions.{definition_tree}
use Rattle.st_iltext.specs.IlText.{HasDefinitionText, definition_line}
use Rattle.st_iltext.specs.IlLaws.{OneIlText, OneIl}
use Rattle.st_iltext.proofs.DefinitionSame.{definition_same}
use Rattle.st_iltext.proofs.Feeds.{text-line}
use Rattle.st_iltext.proofs.Lines.{line_unique}

-- definitions with one text are the same
one_definition : (d e : IlDef) → HasDefinitionText d → HasDefinitionText e → text (definition_tree d) ≡ text (definition_tree e) → d ≡ e
one_definition d e p q same =
    definition_same d e p.fits q.fits (one_tree (definition_tree d) (definition_tree e) (text (definition_tree d)) (record { has = p.tree; is = refl }) (record { has = q.tree; is = same }))

line-behind : (d : IlDef) (w : List ℕ) → definition_line d ++ w ≡ text (definition_tree d) ++ 10 ∷ w
line-behind d w = append_assoc (text (definition_tree d)) (10 ∷ []) w

no_line : (d : IlDef) (w : List ℕ) → [] ≡ definition_line d ++ w → ⊥
no_line d w e = omega (arith, ap length (e ∙ line-behind d w), length-append (text (definition_tree d)) (10 ∷ w))

lines_same : (ds es : List IlDef) → All HasDefinitionText ds → All HasDefinitionText es → flat_map definition_line ds ≡ flat_map definition_line es → ds ≡ es
lines_same [] [] p q h = refl
lines_same [] (e ∷ es) p q h = absurd (no_line e (flat_map definition_line es) h)
lines_same (d ∷ ds) [] p q h = absurd (no_line d (flat_map definition_line ds) (sym h))
lines_same (d ∷ ds) (e ∷ es) p q h =
    let here = p 0 d (omega arith) in
    let there = q 0 e (omega arith) in
    let first = line_unique (text (definition_tree d)) (text (definition_tree e)) (flat_map definition_line ds) (flat_map definition_line es) (text-line _ here.tree) (text-line _ there.tree)
    (sym (line-behind d (flat_map definition_line ds)) ∙ h ∙ line-behind e (flat_map definition_line es)) in
    ap₂ ◌∷◌ (one_definition d e here there first.0) (lines_same ds es (λ k x g. p (suc k) x (omega arith)) (λ k x g. q (suc k) x (omega arith)) first.1)

pub one_il_text : OneIlText
one_il_text il bytes others p q = p.is ∙ sym q.is

pub one_il : OneIl
one_il il other bytes p q = ap (λ (ds : List IlDef). record { defs = ds }) (lines_same il.defs other.defs p.has q.has (sym p.is ∙ q.is))
