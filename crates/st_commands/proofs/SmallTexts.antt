-- The internal language of a small specification has a text.
use Rattle.std.proofs.Common.{◌≡◌, ℕ, suc, ◌≤◌, ◌<◌, List, [], ◌∷◌, ◌++◌, length, map, true, codes, refl, sym, subst, ap, ap₂, ◌∙◌, arith, inl, nat_le, nat_lt, ◌&&◌, get_or}
use Rattle.std.specs.List.{All, list_all}
use Rattle.std.proofs.lemmas.Bool.{le-leb}
use Rattle.std.proofs.lemmas.List.{length-map}
use Rattle.std.proofs.lemmas.List.Elements.{All-cons, All-map, All-contains}
use Rattle.std.proofs.lemmas.List.Sums.{AllPass-from_list_all}
use Rattle.std.proofs.lemmas.Str.{IsUtf8-from_ascii}
use Rattle.std.proofs.lemmas.Str.Ascii.{IsAscii-from_all}
use Rattle.st_il.specs.declared.definition.Alternative.TheVariants.{Case as AlternativeCase}
use Rattle.st_il.specs.declared.definition.Il.{Il}
use Rattle.st_il.specs.declared.small.Small.{Small}
use Rattle.st_il.specs.declared.small.SmallRule.{SmallRule}
use Rattle.st_il.specs.declared.ty.Ty.TheOpen.{Ty-F}
use Rattle.st_il.specs.declared.ty.Ty.TheVariants.{Name, rolls-Name}
use Rattle.st_il.specs.Small.{IsLower, IsUpper, IsWordOf, IsSmall, IsSmallRule, syntax_def, relation_def, rule_def, il_of}
use Rattle.st_num.specs.Texts.{IsText}
use Rattle.st_text.specs.Text.{TextTree, quote, IsSpelled, AreSpelled, HasText, row_depth}
use Rattle.st_text.specs.Trees.{row_of}
use Rattle.st_iltext.specs.Expressions.{form, group, ty_tree}
use Rattle.st_iltext.specs.Definitions.{definition_tree, alternative_tree}
use Rattle.st_iltext.specs.Written.{written, ty_written, alternative_written}
use Rattle.st_iltext.specs.IlText.{HasDefinitionText, IlText, il_text}
use Rattle.st_iltext.proofs.ExpLevels.{tree-Case, written-Case}
use Rattle.st_iltext.proofs.TyForms.{ty-written}
use Rattle.st_iltext.proofs.TySame.{ty-tree}

-- ---- words

letters_text : (w : List ℕ) → All (λ b. (65 ≤ b) × (b ≤ 122)) w → IsText w
letters_text w all = record {
  utf8 = IsUtf8-from_ascii w (IsAscii-from_all w (λ k d h. omega (arith, all k d h)));
  printable = λ k d h. inl (omega (arith, all k d h));
}

pub lower_text : (w : List ℕ) → IsWordOf IsLower w → IsText w
lower_text w is = letters_text w (λ k d h. let l = is.1 k d h in (omega arith, omega arith))

pub upper_text : (w : List ℕ) → IsWordOf IsUpper w → IsText w
upper_text w is = letters_text w (λ k d h. let l = is.1 k d h in (omega arith, omega arith))

printable_text : (w : List ℕ) → list_all (λ b. nat_le 32 b && nat_lt b 128) w ≡ true → IsText w
printable_text w e = record {
  utf8 = IsUtf8-from_ascii w (IsAscii-from_all w (λ k d h. grind (arith, passes k d h)));
  printable = λ k d h. inl (grind (arith, passes k d h));
}
  where
    passes : (k d : ℕ) → k < length w → (nat_le 32 (get_or w k d) && nat_lt (get_or w k d) 128) ≡ true
    passes = AllPass-from_list_all (λ b. nat_le 32 b && nat_lt b 128) w e

tag_text : IsText (codes "% ~> %")
tag_text = printable_text (codes "% ~> %") refl

-- ---- the trees of small definitions

-- the tree of a case without operands, as an alternative
abbrev atom_alternative : List ℕ → TextTree
atom_alternative atom = form (codes "case") (quote atom ∷ [])

-- the tree of the type of this name
abbrev name_tree : List ℕ → TextTree
name_tree x = form (codes "n") (quote x ∷ [])

-- the tree of an atom of the syntax x
abbrev atom_tree : List ℕ → List ℕ → TextTree
atom_tree x atom = form (codes "case") (quote x ∷ quote atom ∷ [])

ty_tree-Name : (x : List ℕ) → ty_tree (Name x) ≡ name_tree x
ty_tree-Name x = ap ty_tree (sym (rolls-Name x)) ∙ ty-tree (Ty-F.Name x)

ty_written-Name : (x : List ℕ) → ty_written (Name x) ≡ true
ty_written-Name x = ap ty_written (sym (rolls-Name x)) ∙ ty-written (Ty-F.Name x)

alternative_trees : (atoms : List (List ℕ)) → map alternative_tree (map (λ atom. AlternativeCase atom []) atoms) ≡ map atom_alternative atoms
alternative_trees [] = refl
alternative_trees (a ∷ atoms) = ap (λ ts. atom_alternative a ∷ ts) (alternative_trees atoms)

alternatives_written : (atoms : List (List ℕ)) → list_all alternative_written (map (λ atom. AlternativeCase atom []) atoms) ≡ true
alternatives_written [] = refl
alternatives_written (a ∷ atoms) = alternatives_written atoms

syntax_tree : (x : List ℕ) (atoms : List (List ℕ)) → definition_tree (syntax_def x atoms) ≡ form (codes "syntax") (quote x ∷ form (codes "variant") (map atom_alternative atoms) ∷ [])
syntax_tree x atoms = ap (λ ts. form (codes "syntax") (quote x ∷ form (codes "variant") ts ∷ [])) (alternative_trees atoms)

relation_tree : (r x : List ℕ) → definition_tree (relation_def r x)
    ≡ form (codes "relation") (quote r ∷ quote (codes "% ~> %") ∷ group (name_tree x ∷ name_tree x ∷ []) ∷ form (codes "mode") [] ∷ [])
relation_tree r x = ap (λ t. form (codes "relation") (quote r ∷ quote (codes "% ~> %") ∷ group (t ∷ t ∷ []) ∷ form (codes "mode") [] ∷ [])) (ty_tree-Name x)

rule_tree : (r x : List ℕ) (rule : SmallRule) → definition_tree (rule_def r x rule)
    ≡ form (codes "rule") (quote r ∷ quote rule.name ∷ group [] ∷ group (atom_tree x rule.from ∷ atom_tree x rule.to ∷ []) ∷ [])
rule_tree r x rule =
    ap₂ (λ from to. form (codes "rule") (quote r ∷ quote rule.name ∷ group [] ∷ group (from ∷ to ∷ []) ∷ [])) (tree-Case x rule.from []) (tree-Case x rule.to [])

-- ---- they have texts

spelled_atoms : (atoms : List (List ℕ)) → All (IsWordOf IsUpper) atoms → AreSpelled (row_of (map atom_alternative atoms))
spelled_atoms [] all = tt
spelled_atoms (a ∷ atoms) all =
    (((omega arith, refl), (upper_text a (all 0 [] (omega arith)), tt)), spelled_atoms atoms (λ k d h. all (suc k) d (omega arith)))

shallow_atoms : (atoms : List (List ℕ)) → row_depth (row_of (map atom_alternative atoms)) ≤ 1
shallow_atoms [] = omega arith
shallow_atoms (a ∷ atoms) = omega (arith, shallow_atoms atoms)

syntax_written : (x : List ℕ) (atoms : List (List ℕ)) → 1 ≤ length atoms → written (syntax_def x atoms) ≡ true
syntax_written x atoms some =
    let more : 1 ≤ length (map (λ (atom : List ℕ). AlternativeCase atom []) atoms) = rw length-map some in
    ap₂ (λ a b. a && b) (le-leb 1 (length (map (λ (atom : List ℕ). AlternativeCase atom []) atoms)) more) (alternatives_written atoms)

syntax_has_text : (x : List ℕ) (atoms : List (List ℕ)) → IsWordOf IsLower x → All (IsWordOf IsUpper) atoms → 1 ≤ length atoms → HasDefinitionText (syntax_def x atoms)
syntax_has_text x atoms lower upper some = record {
  fits = syntax_written x atoms some;
  tree = subst HasText (sym (syntax_tree x atoms)) (record {
    spelled = ((omega arith, refl), (lower_text x lower, (((omega arith, refl), spelled_atoms atoms upper), tt)));
    shallow = omega (arith, shallow_atoms atoms);
  });
}

relation_has_text : (r x : List ℕ) → IsWordOf IsUpper r → IsWordOf IsLower x → HasDefinitionText (relation_def r x)
relation_has_text r x upper lower =
    let hole : IsSpelled (name_tree x) = ((omega arith, refl), (lower_text x lower, tt)) in
    record {
      fits = ap (λ b. b && (b && true)) (ty_written-Name x);
      tree = subst HasText (sym (relation_tree r x)) (record {
        spelled = ((omega arith, refl), (upper_text r upper, (tag_text, ((hole, (hole, tt)), (((omega arith, refl), tt), tt)))));
        shallow = omega arith;
      });
    }

rule_has_text : (r x : List ℕ) (atoms : List (List ℕ)) (rule : SmallRule) → IsWordOf IsUpper r → IsWordOf IsLower x → All (IsWordOf IsUpper) atoms → IsSmallRule atoms rule
    → HasDefinitionText (rule_def r x rule)
rule_has_text r x atoms rule upper lower words small =
    let from : IsSpelled (atom_tree x rule.from) = ((omega arith, refl), (lower_text x lower, (upper_text rule.from (All-contains (IsWordOf IsUpper) atoms rule.from words small.from), tt))) in
    let to : IsSpelled (atom_tree x rule.to) = ((omega arith, refl), (lower_text x lower, (upper_text rule.to (All-contains (IsWordOf IsUpper) atoms rule.to words small.to), tt))) in
    record {
      fits = ap₂ (λ a b. (a && (b && true)) && true) (written-Case x rule.from []) (written-Case x rule.to []);
      tree = subst HasText (sym (rule_tree r x rule)) (record {
        spelled = ((omega arith, refl), (upper_text r upper, (lower_text rule.name small.name, (tt, ((from, (to, tt)), tt)))));
        shallow = omega arith;
      });
    }

small_has_text : (s : Small) → IsSmall s → All HasDefinitionText (il_of s).defs
small_has_text s small =
    All-cons HasDefinitionText (syntax_def s.syntax s.atoms) (relation_def s.relation s.syntax ∷ map (rule_def s.relation s.syntax) s.rules) (syntax_has_text s.syntax s.atoms small.syntax small.atoms small.some)
    (All-cons HasDefinitionText (relation_def s.relation s.syntax) (map (rule_def s.relation s.syntax) s.rules) (relation_has_text s.relation s.syntax small.relation small.syntax)
    (All-map HasDefinitionText (rule_def s.relation s.syntax) s.rules
    (λ k d h. rule_has_text s.relation s.syntax s.atoms _ small.relation small.syntax small.atoms (small.rules k d h))))

-- what is printed of it is its text
pub small_il_text : (s : Small) (il : Il) (front bytes : List ℕ) → IsSmall s → il ≡ il_of s → front ≡ [] → bytes ≡ front ++ il_text il → IlText (il_of s) bytes
small_il_text s il front bytes small means empty is =
    record { has = small_has_text s small; is = is ∙ ap (λ (f : List ℕ). f ++ il_text il) empty ∙ ap il_text means }
