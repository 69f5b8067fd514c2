-- What definitions declare, one behind another.
use Rattle.std.proofs.Common.{◌≡◌, refl, sym, ap, ◌∙◌, ℕ, ◌<◌, true, if◌then◌else◌, List, [], ◌∷◌, ◌++◌, map, filter, length, take, drop, get_or, ◌+◌}
use Rattle.std.proofs.lemmas.List.Elements.{filter-append}
use Rattle.st_num.specs.declared.token.Token.{Token}
use Rattle.st_el.specs.Erasure.{is_mode}
use Rattle.st_el.specs.declared.definition.Hint.{Hint}
use Rattle.st_il.specs.declared.definition.IlDef.{IlDef}
use Rattle.st_il.specs.declared.definition.IlDef.TheVariants as il
use Rattle.st_dims.proofs.Lists.{cut}
use Rattle.st_elab_law.specs.Agreement.{syntaxes}
use Rattle.st_elab_def.specs.DeclsOf.{is_input_kind, mode_by, mode_of}

pub syntaxes-append : (ds es : List IlDef) → syntaxes (ds ++ es) ≡ syntaxes ds ++ syntaxes es
syntaxes-append [] es = refl
syntaxes-append (il.Syntax s ∷ ds) es = ap (λ xs. s ∷ xs) (syntaxes-append ds es)
syntaxes-append (il.Var name t ∷ ds) es = syntaxes-append ds es
syntaxes-append (il.Relation R ∷ ds) es = syntaxes-append ds es
syntaxes-append (il.Rule r ∷ ds) es = syntaxes-append ds es
syntaxes-append (il.Fun f ∷ ds) es = syntaxes-append ds es
syntaxes-append (il.Clause k ∷ ds) es = syntaxes-append ds es

-- the mode that the first `mode` hint says
pub mode-first : (hints : List Hint) (i : ℕ) (hint : Hint) → i < length hints → hint ≡ get_or hints i hint → filter is_mode (take i hints) ≡ [] → is_mode hint ≡ true
    → map (λ (word : Token). is_input_kind word.kind) hint.words ≡ mode_of hints
mode-first hints i hint h is before found =
    let rest = drop (i + 1) hints in
    sym (ap (λ hs. mode_by (filter is_mode hs)) (cut hints i hint h is)
    ∙ ap mode_by (filter-append is_mode (take i hints) (hint ∷ rest))
    ∙ ap (λ hs. mode_by (hs ++ filter is_mode (hint ∷ rest))) before
    ∙ ap (λ b. mode_by (if b then hint ∷ filter is_mode rest else filter is_mode rest)) found)
