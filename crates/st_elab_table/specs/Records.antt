-- The table: expressions at record and variant types.
use Rattle.std.specs.Prelude.{ℕ, List, [], ◌∷◌, ◌++◌, map, Bool, true, false, if◌then◌else◌, Option, Some, None}
use Rattle.std.specs.Option.{option_map}
use Rattle.st_num.specs.declared.span.Span.{Span}
use Rattle.st_num.specs.declared.rule.RuleId.TheVariants.{Y2, Y4}
use Rattle.st_num.specs.Names.{same_name, is_among}
use Rattle.st_el.specs.declared.expression.Exp.{Exp}
use Rattle.st_il.specs.declared.ty.Ty.{Ty, out-Ty}
use Rattle.st_il.specs.declared.ty.Ty.TheOpen.{Ty-F}
use Rattle.st_il.specs.declared.expression.IlExp.TheVariants as il
use Rattle.st_type_table.specs.Meaning.{fields_of}
use Rattle.st_notation.specs.declared.filled.Shape.{Shape}
use Rattle.st_notation.specs.declared.filled.Shape.TheVariants as shape
use Rattle.st_notation.specs.Fits.{Filling, one, missing}
use Rattle.st_elab_table.specs.declared.decls.Decls.{Decls}
use Rattle.st_dims.specs.declared.within.Within.{Within}
use Rattle.st_elab_table.specs.Choice.{shape_of}
use Rattle.st_elab_table.specs.Questions.{Manner, is_variant, Step, Tests, Opens, Fills, asks}
use Rattle.st_elab_table.specs.Steps.{breach, give, holes, holes_behind, exps}
use Rattle.st_elab_table.specs.Collections.{other_row}

-- ---- records

-- a field of this shape may be left out
abbrev pub is_omissible : Shape → Bool
is_omissible shape.Plain = false
is_omissible _ = true

-- what fills a field of this shape and those behind it, where it is not written;
-- none where it may not be left out
abbrev pub omitted : Shape → Option (List Filling) → Option (List Filling)
omitted s rest =
    if is_omissible s then option_map (λ (fs : List Filling). missing ∷ fs) rest else None

-- What fills the declared fields of these shapes, in their order;
-- or none where a field is unknown, missing, twice or out of order.
abbrev pub aligned : List (List ℕ) → List Shape → List (List ℕ × Exp) → Option (List Filling)
aligned [] ss [] = Some []
aligned [] ss (w ∷ written) = None
aligned (name ∷ names) [] written = None
aligned (name ∷ names) (s ∷ ss) [] = omitted s (aligned names ss [])
aligned (name ∷ names) (s ∷ ss) (w ∷ written) =
    if same_name name w.0
    then option_map (λ (fs : List Filling). one w.1 ∷ fs) (aligned names ss written)
    else omitted s (aligned names ss (w ∷ written))

-- what follows from the shapes of these types
abbrev pub shaped : List Ty → (List Shape → Step) → Step
shaped [] next = next []
shaped (t ∷ ts) next = Opens t (λ u. shaped ts (λ ss. next (shape_of u ∷ ss)))

-- the names of declared fields
abbrev pub field_names : List (List ℕ × Ty) → List (List ℕ)
field_names fields = map (λ (f : List ℕ × Ty). f.0) fields

-- the types of declared fields
abbrev pub field_types : List (List ℕ × Ty) → List Ty
field_types fields = map (λ (f : List ℕ × Ty). f.1) fields

-- a record of this name and the type t, its fields filled with these; Y4 here where none are
abbrev pub filled_fields : Within → Span → List ℕ → List Ty → Ty → Option (List Filling) → Step
filled_fields w at name ts t None = breach at Y4
filled_fields w at name ts t (Some fs) =
    asks (holes w at fs ts) (λ ms. give (il.Fields name (exps ms)) t)

-- the written fields, at the record type of this name
abbrev pub fields_of_record : Within → Span → List ℕ → List (List ℕ × Exp) → Ty
    → List (List ℕ × Ty) → Step
fields_of_record w at name written t fields =
    shaped (field_types fields)
    (λ ss. filled_fields w at name (field_types fields) t (aligned (field_names fields) ss written))

-- written fields: a record where the type t is a name and means declared fields,
-- and else one element of a list or an option
abbrev pub record_by : Within → Span → Manner → Exp → List (List ℕ × Exp) → Ty → Ty → Ty-F Ty
    → Option (List (List ℕ × Ty)) → Step
record_by w at p e written t u (Ty-F.Name name) (Some fields) =
    fields_of_record w at name written t fields
record_by w at p e written t u _ _ = other_row w at p e t (out-Ty u)

-- a record, at the type t that means u
abbrev pub record_row : Decls → Within → Span → Manner → Exp → List (List ℕ × Exp) → Ty → Ty → Step
record_row D w at p e written t u = record_by w at p e written t u (out-Ty t) (fields_of D.types u)

-- ---- variants

-- at which variants what fills the holes of a case of this variant is being asked already:
-- where a hole takes the whole of the expression, it is this very expression
abbrev pub passed_on : Bool → List (List ℕ) → List ℕ → List (List ℕ)
passed_on whole passed variant = if whole then passed ++ variant ∷ [] else []

-- a case of the variant of this name, which t means, by its notation;
-- Y2 where the expression fits none
abbrev pub case_row : Within → Span → List (List ℕ) → Exp → Ty → List ℕ → Step
case_row w at passed e t variant =
    Fills t e
    (λ c. asks (holes_behind w at (passed_on c.whole passed variant) c.fillings c.operands)
    (λ ms. give (il.Case c.name c.tag (exps ms)) t))
    (breach at Y2)

-- a case of the variant t, of which this is what it means;
-- Y2 where the expression itself is being asked at this variant already
abbrev pub variant_row : Within → Span → List (List ℕ) → Exp → Ty → Ty-F Ty → Step
variant_row w at passed e t (Ty-F.Name variant) =
    if is_among variant passed then breach at Y2 else case_row w at passed e t variant
variant_row w at passed e t _ = breach at Y2

-- an atom, a sequence, a sign of notation or a bracket, at the type t that means u
abbrev pub notation_row : Within → Span → Manner → Exp → Ty → Ty → Step
notation_row w at p e t u =
    Tests (is_variant t) (variant_row w at p.passed e t (out-Ty u))
    (other_row w at p e t (out-Ty u))
