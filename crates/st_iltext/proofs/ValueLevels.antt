-- The trees and the conditions of values, level by level.
use Rattle.std.proofs.Common.{◌≡◌, ℕ, ◌^◌, List, [], ◌∷◌, ◌++◌, map, codes, Bool, true, ◌&&◌, nat_lt, Some, None, ℤ, refl, sym, ap, ap₂, ◌∙◌, unsigned_abs, flat_map}
use Rattle.std.specs.Fmt.{signed_decimal}
use Rattle.std.specs.List.{list_all}
use Rattle.st_il.specs.declared.value.Value.{Value, roll-Value, map-Value, fold-roll-Value}
use Rattle.st_il.specs.declared.value.Value.TheOpen.{Value-F}
use Rattle.st_il.specs.declared.value.Value.TheVariants as val
use Rattle.st_text.specs.declared.tree.TextTree as program
use Rattle.st_text.specs.declared.tree.TextTree.{List as ListTree}
use Rattle.st_text.specs.Text.{TextTree, word, quote, list}
use Rattle.st_text.specs.Trees.{row_of, tree_of}
use Rattle.st_iltext.specs.Expressions.{form, truth}
use Rattle.st_iltext.specs.Values.{value_at, value_tree, field_trees, value_written_at, value_written}
use Rattle.st_iltext.specs.inner.Fields.{fields_row, field_fits}
use Rattle.st_iltext.proofs.Rows.{tree_of-List, all_map}

pub tree-roll : (l : Value-F Value) → value_tree (roll-Value l) ≡ value_at (map-Value Value TextTree value_tree l)
tree-roll l = fold-roll-Value TextTree value_at l

pub written-roll : (l : Value-F Value) → value_written (roll-Value l) ≡ value_written_at (map-Value Value Bool value_written l)
written-roll l = fold-roll-Value Bool value_written_at l

pub fields_row-is : (fields : List (List ℕ × Value)) → flat_map field_trees (map (λ (y : List ℕ × Value). (y.0, value_tree y.1)) fields) ≡ fields_row fields
fields_row-is [] = refl
fields_row-is (field ∷ fields) = ap (λ ts. quote field.0 ∷ value_tree field.1 ∷ ts) (fields_row-is fields)

pub fields_fit-is : (fields : List (List ℕ × Value)) → list_all (λ (y : List ℕ × Bool). y.1) (map (λ (y : List ℕ × Value). (y.0, value_written y.1)) fields) ≡ list_all field_fits fields
fields_fit-is [] = refl
fields_fit-is (field ∷ fields) = ap (λ b. value_written field.1 && b) (fields_fit-is fields)

pub tree-Bool : (b : Bool) → value_tree (val.Bool b) ≡ truth b
tree-Bool b = ap value_tree (sym (val.rolls-Bool b)) ∙ tree-roll (Value-F.Bool b)

pub tree-Num : (z : ℤ) → value_tree (val.Num z) ≡ word (signed_decimal z)
tree-Num z = ap value_tree (sym (val.rolls-Num z)) ∙ tree-roll (Value-F.Num z)

pub tree-Text : (s : List ℕ) → value_tree (val.Text s) ≡ quote s
tree-Text s = ap value_tree (sym (val.rolls-Text s)) ∙ tree-roll (Value-F.Text s)

pub tree-Case : (tag : List ℕ) (vs : List Value) → value_tree (val.Case tag vs) ≡ form (codes "c") (quote tag ∷ map value_tree vs)
tree-Case tag vs = ap value_tree (sym (val.rolls-Case tag vs)) ∙ tree-roll (Value-F.Case tag vs)

pub tree-Fields : (fields : List (List ℕ × Value)) → value_tree (val.Fields fields) ≡ form (codes "r") (fields_row fields)
tree-Fields fields = ap value_tree (sym (val.rolls-Fields fields)) ∙ tree-roll (Value-F.Fields fields) ∙ ap (form (codes "r")) (fields_row-is fields)

pub tree-Tuple : (vs : List Value) → value_tree (val.Tuple vs) ≡ form (codes "t") (map value_tree vs)
tree-Tuple vs = ap value_tree (sym (val.rolls-Tuple vs)) ∙ tree-roll (Value-F.Tuple vs)

pub tree-List : (vs : List Value) → value_tree (val.List vs) ≡ form (codes "l") (map value_tree vs)
tree-List vs = ap value_tree (sym (val.rolls-List vs)) ∙ tree-roll (Value-F.List vs)

pub tree-None : value_tree (val.Opt None) ≡ form (codes "o") []
tree-None = ap value_tree (sym (val.rolls-Opt None)) ∙ tree-roll (Value-F.Opt None)

pub tree-Some : (v : Value) → value_tree (val.Opt (Some v)) ≡ form (codes "o") (value_tree v ∷ [])
tree-Some v = ap value_tree (sym (val.rolls-Opt (Some v))) ∙ tree-roll (Value-F.Opt (Some v))

pub written-Bool : (b : Bool) → value_written (val.Bool b) ≡ true
written-Bool b = ap value_written (sym (val.rolls-Bool b)) ∙ written-roll (Value-F.Bool b)

pub written-Num : (z : ℤ) → value_written (val.Num z) ≡ nat_lt (unsigned_abs z) (2 ^ 128)
written-Num z = ap value_written (sym (val.rolls-Num z)) ∙ written-roll (Value-F.Num z)

pub written-Text : (s : List ℕ) → value_written (val.Text s) ≡ true
written-Text s = ap value_written (sym (val.rolls-Text s)) ∙ written-roll (Value-F.Text s)

pub written-Case : (tag : List ℕ) (vs : List Value) → value_written (val.Case tag vs) ≡ list_all value_written vs
written-Case tag vs = ap value_written (sym (val.rolls-Case tag vs)) ∙ written-roll (Value-F.Case tag vs) ∙ all_map value_written vs

pub written-Fields : (fields : List (List ℕ × Value)) → value_written (val.Fields fields) ≡ list_all field_fits fields
written-Fields fields = ap value_written (sym (val.rolls-Fields fields)) ∙ written-roll (Value-F.Fields fields) ∙ fields_fit-is fields

pub written-Tuple : (vs : List Value) → value_written (val.Tuple vs) ≡ list_all value_written vs
written-Tuple vs = ap value_written (sym (val.rolls-Tuple vs)) ∙ written-roll (Value-F.Tuple vs) ∙ all_map value_written vs

pub written-List : (vs : List Value) → value_written (val.List vs) ≡ list_all value_written vs
written-List vs = ap value_written (sym (val.rolls-List vs)) ∙ written-roll (Value-F.List vs) ∙ all_map value_written vs

pub written-None : value_written (val.Opt None) ≡ true
written-None = ap value_written (sym (val.rolls-Opt None)) ∙ written-roll (Value-F.Opt None)

pub written-Some : (v : Value) → value_written (val.Opt (Some v)) ≡ value_written v
written-Some v = ap value_written (sym (val.rolls-Opt (Some v))) ∙ written-roll (Value-F.Opt (Some v))

-- the tree of a record, by the trees that its list has
pub record_tree : (trees old : List program.TextTree) (slice fields : List (List ℕ × Value)) (v : Value) → map tree_of trees ≡ map tree_of old ++ fields_row slice
    → map tree_of old ≡ word (codes "r") ∷ [] → slice ≡ fields → v ≡ val.Fields fields → tree_of (ListTree trees) ≡ value_tree v
record_tree trees old slice fields v pushed headed same is =
    tree_of-List trees ∙ ap (λ us. list (row_of us)) (pushed ∙ ap₂ (λ us fs. us ++ fields_row fs) headed same) ∙ sym (tree-Fields fields) ∙ ap value_tree (sym is)
