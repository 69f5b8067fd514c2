-- Which values have the type of the syntax of a small specification: its atoms.
use Rattle.std.proofs.Common.{inl, ◌≡◌, ℕ, zero, suc, ◌≤◌, List, [], ◌∷◌, ◌++◌, Option, Some, None, Bool, true, false, nat_eq, map, ap, ◌∙◌, sym, refl, subst, arith, rules, cond}
use Rattle.std.specs.Prelude.{Contains, All}
use Rattle.std.specs.Cmp.Lexicographic.{pointwise, same_text}
use Rattle.std.specs.Str.{IsAscii}
use Rattle.std.proofs.lemmas.List.Elements.{All-nil, All-cons, All-contains}
use Rattle.std.proofs.lemmas.Str.{IsUtf8-from_ascii}
use Rattle.st_num.specs.Number.{IsNumber}
use Rattle.st_num.specs.Texts.{IsText}
use Rattle.st_il.specs.declared.definition.Alternative.{Alternative}
use Rattle.st_il.specs.declared.definition.Alternative.TheVariants as alternative
use Rattle.st_il.specs.declared.definition.SyntaxBody.{SyntaxBody}
use Rattle.st_il.specs.declared.definition.SyntaxBody.TheVariants.{Variant}
use Rattle.st_il.specs.declared.definition.SyntaxDef.{SyntaxDef}
use Rattle.st_il.specs.declared.ty.Ty.{Ty, out-Ty}
use Rattle.st_il.specs.declared.ty.Ty.TheOpen.{Ty-F}
use Rattle.st_il.specs.declared.ty.Ty.TheVariants as ty
use Rattle.st_il.specs.declared.value.Value.{Value, the_lemmas}
use Rattle.st_il.specs.declared.value.Value.TheVariants as value
use Rattle.st_il.specs.Height.{height}
use Rattle.st_il.specs.Small.{IsUpper, IsWordOf}
use Rattle.st_il.specs.Value.{texts_of}
use Rattle.st_type_table.specs.declared.entry.CaseDef.{CaseDef}
use Rattle.st_type_table.specs.Meaning.{Means, itself, alias, alias_of, aliased, alternatives_of, listed, recorded, fields_of, body_of, named, named_at}
use Rattle.st_type_table.specs.Cases.{Brings, Flatten, own, included, none, more, HasCases, operands_of}
use Rattle.st_type_table.specs.HasType as has
use Rattle.st_type_table.specs.HasType.{HasType, HaveTypes}
use Rattle.st_semantics.specs.Environments.{IsTypedValue, numbers_of}
use Rattle.st_verify.proofs.SmallIl.{itself as name_itself}

-- the definitions of one syntax of atoms
abbrev pub atoms_body : List (List ℕ) → SyntaxBody
atoms_body atoms = Variant (map (λ atom. alternative.Case atom []) atoms)

abbrev pub one_syntax : List ℕ → List (List ℕ) → List SyntaxDef
one_syntax name atoms = record { name = name; body = atoms_body atoms } ∷ []

body_here : (name : List ℕ) (atoms : List (List ℕ)) → body_of (one_syntax name atoms) name ≡ Some (atoms_body atoms)
body_here name atoms =
    let same : pointwise nat_eq name name ≡ true = name_itself name in
    rw same refl

named_here : (name : List ℕ) (atoms : List (List ℕ)) → named (one_syntax name atoms) (ty.Name name) ≡ Some (atoms_body atoms)
named_here name atoms = ap (named_at (one_syntax name atoms)) (ty.outs-Name name) ∙ body_here name atoms

-- its name is no alias
pub no_alias : (name : List ℕ) (atoms : List (List ℕ)) → alias_of (one_syntax name atoms) (ty.Name name) ≡ None
no_alias name atoms = ap aliased (named_here name atoms)

means_itself : (name : List ℕ) (atoms : List (List ℕ)) (t u : Ty) → t ≡ ty.Name name → Means (one_syntax name atoms) t u → u ≡ ty.Name name
means_itself name atoms t u is (itself never same) = sym same ∙ is
means_itself name atoms t u is (alias written some rest) =
    let never : alias_of (one_syntax name atoms) t ≡ None = ap (alias_of (one_syntax name atoms)) is ∙ no_alias name atoms in cc

-- it has a case for each atom
abbrev pub case_of : List ℕ → CaseDef
case_of atom = record { tag = atom; operands = [] }

own_case : (defs : List SyntaxDef) (atom : List ℕ) (a : Alternative) (cases : List CaseDef) → a ≡ alternative.Case atom [] → Brings defs a cases → cases ≡ case_of atom ∷ []
own_case defs atom a cases is (own tag operands a_is cases_are) =
    let same_tag : tag ≡ atom = cc in
    let same_operands : operands ≡ [] = cc in
    cases_are ∙ ap (λ t. record { tag = t; operands = operands } ∷ []) same_tag ∙ ap (λ os. record { tag = atom; operands = os } ∷ []) same_operands
own_case defs atom a cases is (included name t a_is means flat) = cc

abbrev pub alternatives : List (List ℕ) → List Alternative
alternatives atoms = map (λ atom. alternative.Case atom []) atoms

pub flat_cases : (defs : List SyntaxDef) (atoms : List (List ℕ)) (cases : List CaseDef) → Flatten defs (alternatives atoms) cases → cases ≡ map case_of atoms
flat_cases defs [] cases (none are) = are
flat_cases defs (atom ∷ atoms) cases (more first rest brings flat are) =
    are ∙ ap (λ f. f ++ rest) (own_case defs atom (alternative.Case atom []) first refl brings) ∙ ap (λ r. case_of atom ∷ r) (flat_cases defs atoms rest flat)

cases_flat : (defs : List SyntaxDef) (atoms : List (List ℕ)) → Flatten defs (alternatives atoms) (map case_of atoms)
cases_flat defs [] = none refl
cases_flat defs (atom ∷ atoms) = more (case_of atom ∷ []) (map case_of atoms) (own atom [] refl refl) (cases_flat defs atoms) refl

abbrev FindsAtom : List (List ℕ) → List ℕ → List Ty → Type 0
FindsAtom atoms tag operands = Contains atoms tag × (operands ≡ [])

finds_next : (atom : List ℕ) (atoms : List (List ℕ)) (tag : List ℕ) (operands : List Ty) → FindsAtom atoms tag operands → FindsAtom (atom ∷ atoms) tag operands
finds_next atom atoms tag operands ((k, below, is), empty) = ((suc k, omega arith, is), empty)

finds : (atom : List ℕ) (atoms : List (List ℕ)) (tag : List ℕ) (operands : List Ty) (b : Bool) → pointwise nat_eq atom tag ≡ b
    → cond b (Some []) (operands_of (map case_of atoms) tag) ≡ Some operands
    → (operands_of (map case_of atoms) tag ≡ Some operands → FindsAtom atoms tag operands) → FindsAtom (atom ∷ atoms) tag operands
finds atom atoms tag operands true same found later =
    ((0, omega arith, same_text atom tag (sym same)), cc)
finds atom atoms tag operands false same found later = finds_next atom atoms tag operands (later found)

found_atom : (atoms : List (List ℕ)) (tag : List ℕ) (operands : List Ty) → operands_of (map case_of atoms) tag ≡ Some operands → FindsAtom atoms tag operands
found_atom [] tag operands found = cc
found_atom (atom ∷ atoms) tag operands found = finds atom atoms tag operands (pointwise nat_eq atom tag) refl found (found_atom atoms tag operands)

abbrev HasNone : List (List ℕ) → List ℕ → Type 0
HasNone atoms tag = operands_of (map case_of atoms) tag ≡ Some []

has_none : (atom : List ℕ) (atoms : List (List ℕ)) (tag : List ℕ) (b : Bool) → HasNone atoms tag → ◌≡◌ {A = Option (List Ty)} (cond b (Some []) (operands_of (map case_of atoms) tag)) (Some [])
has_none atom atoms tag true later = refl
has_none atom atoms tag false later = later

pub atom_found : (atoms : List (List ℕ)) (tag : List ℕ) → Contains atoms tag → HasNone atoms tag
atom_found [] tag (k, below, is) = absurd (omega arith)
atom_found (atom ∷ atoms) tag (zero, below, is) =
    let same : pointwise nat_eq atom tag ≡ true = ap (λ t. pointwise nat_eq atom t) (sym is) ∙ name_itself atom in
    rw same refl
atom_found (atom ∷ atoms) tag (suc k, below, is) = has_none atom atoms tag (pointwise nat_eq atom tag) (atom_found atoms tag (k, omega arith, is))

-- ---- the values of the type are the atoms

abbrev IsAtomOf : List (List ℕ) → Value → Type 0
IsAtomOf atoms v = (tag : List ℕ) × (v ≡ value.Case tag []) × Contains atoms tag

none_typed : (defs : List SyntaxDef) (parts : List Value) (operands : List Ty) → operands ≡ [] → HaveTypes defs parts operands → parts ≡ []
none_typed defs parts operands empty has.none = refl
none_typed defs parts operands empty (has.more first rest) = cc

of_case : (name : List ℕ) (atoms : List (List ℕ)) (v : Value) (tag : List ℕ) (parts : List Value) (cases : List CaseDef) (operands : List Ty)
    → v ≡ value.Case tag parts → HasCases (one_syntax name atoms) (ty.Name name) cases → operands_of cases tag ≡ Some operands
    → HaveTypes (one_syntax name atoms) parts operands → IsAtomOf atoms v
of_case name atoms v tag parts cases operands is has_cases found typed =
    let defs = one_syntax name atoms in
    let variant = means_itself name atoms (ty.Name name) has_cases.variant refl has_cases.means in
    let declared = sym (ap listed (named_here name atoms)) ∙ ap (alternatives_of defs) (sym variant) ∙ has_cases.declared in
    let are : has_cases.alternatives ≡ alternatives atoms = cc in
    let flat = flat_cases defs atoms cases (subst (λ some. Flatten defs some cases) are has_cases.flattened) in
    let finding = found_atom atoms tag operands (subst (λ some. operands_of some tag ≡ Some operands) flat found) in
    (tag, is ∙ ap (value.Case tag) (none_typed defs parts operands finding.1 typed), finding.0)

-- another form of type is not the name of the syntax
abbrev IsNoName : Ty → Type 0
IsNoName t = (name : List ℕ) → t ≡ ty.Name name → ⊥

named_level : (name : List ℕ) (t : Ty) (level : Ty-F Ty) → out-Ty t ≡ level → t ≡ ty.Name name → level ≡ Ty-F.Name name
named_level name t level at is = sym at ∙ ap out-Ty is ∙ ty.outs-Name name

pub typed_atom : (name : List ℕ) (atoms : List (List ℕ)) (v : Value) → HasType (one_syntax name atoms) v (ty.Name name) → IsAtomOf atoms v
typed_atom name atoms v (has.truth b is means) =
    let never = named_level name ty.Bool Ty-F.Bool ty.outs-Bool (means_itself name atoms _ _ refl means) in cc
typed_atom name atoms v (has.natural n is means) =
    let never = named_level name ty.Nat Ty-F.Nat ty.outs-Nat (means_itself name atoms _ _ refl means) in cc
typed_atom name atoms v (has.number z is means) =
    let never = named_level name ty.Int Ty-F.Int ty.outs-Int (means_itself name atoms _ _ refl means) in cc
typed_atom name atoms v (has.text bytes is means) =
    let never = named_level name ty.Text Ty-F.Text ty.outs-Text (means_itself name atoms _ _ refl means) in cc
typed_atom name atoms v (has.case tag parts cases operands is has_cases found typed) =
    of_case name atoms v tag parts cases operands is has_cases found typed
typed_atom name atoms v (has.fields parts declared is has_fields typed) =
    let structure = means_itself name atoms (ty.Name name) has_fields.structure refl has_fields.means in
    let never = sym (ap recorded (named_here name atoms)) ∙ ap (fields_of (one_syntax name atoms)) (sym structure) ∙ has_fields.declared in cc
typed_atom name atoms v (has.tuple parts types is means typed) =
    let never = named_level name (ty.Tuple types) (Ty-F.Tuple types) (ty.outs-Tuple types) (means_itself name atoms _ _ refl means) in cc
typed_atom name atoms v (has.list parts element is means typed) =
    let never = named_level name (ty.List element) (Ty-F.List element) (ty.outs-List element) (means_itself name atoms _ _ refl means) in cc
typed_atom name atoms v (has.absent element is means) =
    let never = named_level name (ty.Opt element) (Ty-F.Opt element) (ty.outs-Opt element) (means_itself name atoms _ _ refl means) in cc
typed_atom name atoms v (has.present part element is means typed) =
    let never = named_level name (ty.Opt element) (Ty-F.Opt element) (ty.outs-Opt element) (means_itself name atoms _ _ refl means) in cc

pub has_atoms : (name : List ℕ) (atoms : List (List ℕ)) → HasCases (one_syntax name atoms) (ty.Name name) (map case_of atoms)
has_atoms name atoms = record {
  variant = ty.Name name;
  alternatives = alternatives atoms;
  means = itself (no_alias name atoms) refl;
  declared = ap listed (named_here name atoms);
  flattened = cases_flat (one_syntax name atoms) atoms;
}

atom_typed : (name : List ℕ) (atoms : List (List ℕ)) (tag : List ℕ) → Contains atoms tag → HasType (one_syntax name atoms) (value.Case tag []) (ty.Name name)
atom_typed name atoms tag known = has.case tag [] (map case_of atoms) [] refl (has_atoms name atoms) (atom_found atoms tag known) has.none

-- ---- atoms are values: they are low, and texts

upper_ascii : (word : List ℕ) → All IsUpper word → IsAscii word
upper_ascii [] upper i = omega arith
upper_ascii (b ∷ word) upper zero = let first = upper 0 b (omega arith) in omega (arith, first.1)
upper_ascii (b ∷ word) upper (suc i) = upper_ascii word (λ k d below. upper (suc k) d (omega arith)) i

pub upper_text : (word : List ℕ) → IsWordOf IsUpper word → IsText word
upper_text word is = record {
  utf8 = IsUtf8-from_ascii word (upper_ascii word is.1);
  printable = λ k d below. let letter = is.1 k d below in inl (omega (arith, letter.0));
}

atom_height : (atom : List ℕ) → height (value.Case atom []) ≡ 1
atom_height atom = search (rules, the_lemmas)

atom_texts : (atom : List ℕ) → texts_of (value.Case atom []) ≡ atom ∷ []
atom_texts atom = search (rules, the_lemmas)

atom_numbers : (atom : List ℕ) → numbers_of (value.Case atom []) ≡ []
atom_numbers atom = search (rules, the_lemmas)

-- an atom is a typed value
pub is_typed_atom : (name : List ℕ) (atoms : List (List ℕ)) (tag : List ℕ) → All (IsWordOf IsUpper) atoms → Contains atoms tag
    → IsTypedValue (one_syntax name atoms) (ty.Name name) (value.Case tag [])
is_typed_atom name atoms tag words known = record {
  form = atom_typed name atoms tag known;
  value = record {
    height = subst (λ h. h ≤ 1000) (sym (atom_height tag)) (omega arith);
    texts = subst (All IsText) (sym (atom_texts tag)) (All-cons IsText tag [] (upper_text tag (All-contains (IsWordOf IsUpper) atoms tag words known)) (All-nil IsText));
  };
  numbers = subst (All IsNumber) (sym (atom_numbers tag)) (All-nil IsNumber);
}
