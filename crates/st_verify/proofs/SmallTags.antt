-- The tags of a small specification are templates, and different atoms have different keys.
use Rattle.std.proofs.Common.{◌≡◌, ℕ, suc, ◌≤◌, List, [], ◌∷◌, ◌++◌, map, refl, sym, ap, ap₂, ◌∙◌, subst, arith, rules, codes, append_assoc}
use Rattle.std.specs.Prelude.{All, Contains, IsTrue}
use Rattle.std.specs.Char.{is_ascii_uppercase}
use Rattle.std.specs.List.{AllByRecursion}
use Rattle.std.proofs.lemmas.Bool.Decides.{nat_tests}
use Rattle.std.proofs.lemmas.List.{map-append}
use Rattle.st_num.specs.declared.limit.TheConstants.{HIGHEST_TREE}
use Rattle.st_num.specs.declared.mark.Mark.TheVariants.{SquigglyArrow}
use Rattle.st_il.specs.declared.definition.Alternative.TheVariants as alternative
use Rattle.st_il.specs.declared.definition.SyntaxDef.{SyntaxDef}
use Rattle.st_il.specs.declared.template.Template.{Template, the_lemmas}
use Rattle.st_il.specs.declared.template.Template.TheVariants as template
use Rattle.st_il.specs.declared.template.TagPart.TheVariants as tag_part
use Rattle.st_il.specs.Key.{PlainKey, key, key_at}
use Rattle.st_il.specs.Notation.{is_name_byte, IsUpName, single, atom, hole, divided}
use Rattle.st_il.specs.Small.{IsUpper, IsWordOf, AreDistinct}
use Rattle.st_il.specs.Template.{HasTag, holes, spaced}
use Rattle.st_il.proofs.Tags.{one_template}
use Rattle.st_il.proofs.TemplateForms.{tag_parts-Atom, tag_parts-Hole, tag_parts-Infix, height-Atom, height-Hole, height-Infix}
use Rattle.st_type_table.specs.declared.entry.CaseDef.{CaseDef}
use Rattle.st_type_table.specs.Breach.{keys, Holds, asked, on_alternatives, AllHold}
use Rattle.st_type_table.specs.Keys.{HasKey, SameKey, KeysDiffer}
use Rattle.st_type_table.proofs.KeyLemmas.{HasKey-single, KeysDiffer-front}
use Rattle.st_ilcheck.specs.Declarations.{IsTag}
use Rattle.st_verify.proofs.SmallTypes.{alternatives, case_of, flat_cases}

-- ---- atoms

up_letter : (byte : ℕ) → IsUpper byte → IsTrue (is_ascii_uppercase byte)
up_letter byte (low, high) = grind (arith, nat_tests)

up_byte : (byte : ℕ) → IsUpper byte → IsTrue (is_name_byte byte)
up_byte byte (low, high) = grind (arith, nat_tests)

up_bytes : (bytes : List ℕ) → All IsUpper bytes → AllByRecursion (λ b. IsTrue (is_name_byte b)) bytes
up_bytes [] upper = tt
up_bytes (byte ∷ bytes) upper = (up_byte byte (upper 0 byte (omega arith)), up_bytes bytes (λ k d below. upper (suc k) d (omega arith)))

up_name : (word : List ℕ) → IsWordOf IsUpper word → IsUpName word
up_name [] is = absurd (is.0 refl)
up_name (byte ∷ bytes) is = (up_letter byte (is.1 0 byte (omega arith)), up_bytes bytes (λ k d below. is.1 (suc k) d (omega arith)))

atom_has_tag : (word : List ℕ) → IsWordOf IsUpper word → HasTag (template.Atom word) word
atom_has_tag word is = record {
  template = record {
    notation = atom word refl (single (up_name word is));
    height = subst (λ h. h ≤ HIGHEST_TREE) (sym (height-Atom word)) (omega arith);
  };
  spelled = ap spaced (tag_parts-Atom word);
}

no_holes : (word : List ℕ) → holes (template.Atom word) ≡ 0
no_holes word = search (rules, the_lemmas)

-- an atom is a template without holes
pub atom_tag : (word : List ℕ) → IsWordOf IsUpper word → IsTag (word, 0)
atom_tag word is = record { template = template.Atom word; tag = atom_has_tag word is; filled = no_holes word }

-- ---- the tag of the relation

abbrev arrow : Template
arrow = template.Infix template.Hole SquigglyArrow template.Hole

two_holes : holes arrow ≡ 2
two_holes = search (rules, the_lemmas)

arrow_has_tag : HasTag arrow (codes "% ~> %")
arrow_has_tag = record {
  template = record {
    notation = divided 8 template.Hole SquigglyArrow template.Hole (omega arith) refl refl (hole refl) (hole refl);
    height = omega (arith, height-Infix template.Hole SquigglyArrow template.Hole, height-Hole);
  };
  spelled = ap spaced (tag_parts-Infix template.Hole SquigglyArrow template.Hole ∙ ap₂ (λ left right. left ++ tag_part.Sign SquigglyArrow ∷ right) tag_parts-Hole tag_parts-Hole);
}

-- it is a template with two holes
pub arrow_tag : IsTag (codes "% ~> %", 2)
arrow_tag = record { template = arrow; tag = arrow_has_tag; filled = two_holes }

-- ---- keys

key_of_atom : (word : List ℕ) (k : PlainKey) → IsWordOf IsUpper word → HasKey word k → k ≡ PlainKey.atom word
key_of_atom word k is has =
    HasKey-single word k (key (template.Atom word)) (one_template word) has (HasKey.template (template.Atom word) (atom_has_tag word is) refl)
    ∙ ap key_at (template.outs-Atom word)

keys_apart : (one other : List ℕ) → IsWordOf IsUpper one → IsWordOf IsUpper other → SameKey one other → one ≡ other
keys_apart one other is also same =
    let both : PlainKey.atom one ≡ PlainKey.atom other = sym (key_of_atom one same.key is same.one) ∙ key_of_atom other same.key also same.other in
    cc

others_differ : (word : List ℕ) (atoms : List (List ℕ)) → IsWordOf IsUpper word → All (IsWordOf IsUpper) atoms → (Contains atoms word → ⊥)
    → AllByRecursion (λ (d : CaseDef). SameKey word d.tag → ⊥) (map case_of atoms)
others_differ word [] is words apart = tt
others_differ word (one ∷ atoms) is words apart = (
  λ same. apart (0, omega arith, sym (keys_apart word one is (words 0 one (omega arith)) same)),
  others_differ word atoms is (λ k d below. words (suc k) d (omega arith)) (λ found. apart (suc found.0, omega (arith, found.1), found.2)),
)

-- the first of different names is none of the others, which are different
pub first_apart : (name : List ℕ) (names : List (List ℕ)) → AreDistinct (name ∷ names) → Contains names name → ⊥
first_apart name names distinct found = distinct 0 (suc found.0) name (omega arith) (omega (arith, found.1)) (sym found.2)

pub others_distinct : (name : List ℕ) (names : List (List ℕ)) → AreDistinct (name ∷ names) → AreDistinct names
others_distinct name names distinct = λ i j d less below. distinct (suc i) (suc j) d (omega arith) (omega arith)

keys_differ : (atoms : List (List ℕ)) → All (IsWordOf IsUpper) atoms → AreDistinct atoms → KeysDiffer (map case_of atoms)
keys_differ [] words distinct = tt
keys_differ (word ∷ atoms) words distinct =
    let others : All (IsWordOf IsUpper) atoms = λ k d below. words (suc k) d (omega arith) in (
      others_differ word atoms (words 0 word (omega arith)) others (first_apart word atoms distinct),
      keys_differ atoms others (others_distinct word atoms distinct),
    )

-- ---- the conditions on the syntax

front_holds : (defs : List SyntaxDef) (front behind : List (List ℕ)) → KeysDiffer (map case_of (front ++ behind)) → Holds defs (keys (alternatives front))
front_holds defs front behind differ = λ cases flat.
    subst KeysDiffer (sym (flat_cases defs front cases flat)) (KeysDiffer-front (map case_of front) (map case_of behind) (subst KeysDiffer (map-append case_of front behind) differ))

alternatives_hold : (defs : List SyntaxDef) (name : List ℕ) (part : ℕ) (front behind : List (List ℕ)) → KeysDiffer (map case_of (front ++ behind))
    → AllHold defs (on_alternatives name part (alternatives front) (alternatives behind))
alternatives_hold defs name part front [] differ = tt
alternatives_hold defs name part front (word ∷ behind) differ =
    let longer : KeysDiffer (map case_of ((front ++ word ∷ []) ++ behind)) = subst (λ all. KeysDiffer (map case_of all)) (sym (append_assoc front (word ∷ []) behind)) differ in
    subst (λ so_far. AllHold defs (asked part (keys so_far) ∷ on_alternatives name (suc part) so_far (alternatives behind)))
    (map-append (λ (a : List ℕ). alternative.Case a []) front (word ∷ []))
    (front_holds defs (front ++ word ∷ []) behind longer, alternatives_hold defs name (suc part) (front ++ word ∷ []) behind longer)

-- the conditions on cases without operands hold where their tags are different words
pub atoms_hold : (defs : List SyntaxDef) (name : List ℕ) (atoms : List (List ℕ)) → All (IsWordOf IsUpper) atoms → AreDistinct atoms
    → AllHold defs (on_alternatives name 0 [] (alternatives atoms))
atoms_hold defs name atoms words distinct = alternatives_hold defs name 0 [] atoms (keys_differ atoms words distinct)
