-- What a value is whose tree is known.
use Rattle.std.proofs.Common.{◌≡◌, ℕ, List, [], ◌∷◌, map, codes, true, false, Some, None, ℤ, refl, sym, ap, subst, ◌∙◌, ◌⊎◌, inl, inr, arith}
use Rattle.std.specs.Fmt.{signed_decimal}
use Rattle.st_il.specs.declared.value.Value.{Value, roll-Value, out-Value, roll-out-Value}
use Rattle.st_il.specs.declared.value.Value.TheOpen.{Value-F}
use Rattle.st_il.specs.declared.value.Value.TheVariants as val
use Rattle.st_text.specs.Text.{TextTrees, word, quote, list, none, more}
use Rattle.st_text.specs.Trees.{row_of}
use Rattle.st_iltext.specs.declared.value_form.ValueForm.{ValueForm}
use Rattle.st_iltext.specs.declared.value_form.ValueForm.TheVariants as form
use Rattle.st_iltext.specs.Values.{value_tree}
use Rattle.st_iltext.specs.inner.Fields.{fields_row}
use Rattle.st_iltext.specs.inner.Forms.{form_word}
use Rattle.st_iltext.proofs.Rows.{first_of, rest_of, parts_of, word_of, quote_of}
use Rattle.st_iltext.proofs.ValueLevels.{tree-roll, tree-Fields}

-- the value has this form, and its parts have these trees behind the word of the form
abbrev pub ValueParts : ValueForm → TextTrees → Value → Type 0
ValueParts form.Case ts v = (tag : List ℕ) × (vs : List Value) × (v ≡ val.Case tag vs) × (ts ≡ more (quote tag) (row_of (map value_tree vs)))
ValueParts form.Fields ts v = (fields : List (List ℕ × Value)) × (v ≡ val.Fields fields) × (ts ≡ row_of (fields_row fields))
ValueParts form.Tuple ts v = (vs : List Value) × (v ≡ val.Tuple vs) × (ts ≡ row_of (map value_tree vs))
ValueParts form.List ts v = (vs : List Value) × (v ≡ val.List vs) × (ts ≡ row_of (map value_tree vs))
ValueParts form.Opt ts v = ((v ≡ val.Opt None) × (ts ≡ none)) ⊎ ((x : Value) × (v ≡ val.Opt (Some x)) × (ts ≡ more (value_tree x) none))

-- a value whose tree is a list
pub record Formed (v : Value) (ts : TextTrees) : Type 0 where
  pub form : ValueForm
  pub parts : TextTrees
  pub begins : ts ≡ more (word (form_word form)) parts
  pub made : ValueParts form parts v

formed_at : (l : Value-F Value) (ts : TextTrees) → value_tree (roll-Value l) ≡ list ts → Formed (roll-Value l) ts
formed_at (Value-F.Bool true) ts e = absurd (cc (tree-roll (Value-F.Bool true)))
formed_at (Value-F.Bool false) ts e = absurd (cc (tree-roll (Value-F.Bool false)))
formed_at (Value-F.Num z) ts e = absurd (cc (tree-roll (Value-F.Num z)))
formed_at (Value-F.Text s) ts e = absurd (cc (tree-roll (Value-F.Text s)))
formed_at (Value-F.Case tag vs) ts e = record {
  form = form.Case;
  parts = more (quote tag) (row_of (map value_tree vs));
  begins = sym (parts_of (sym (tree-roll (Value-F.Case tag vs)) ∙ e));
  made = (tag, vs, val.rolls-Case tag vs, refl);
}
formed_at (Value-F.Fields fields) ts e = record {
  form = form.Fields;
  parts = row_of (fields_row fields);
  begins = sym (parts_of (sym (tree-Fields fields) ∙ ap value_tree (sym (val.rolls-Fields fields)) ∙ e));
  made = (fields, val.rolls-Fields fields, refl);
}
formed_at (Value-F.Tuple vs) ts e = record {
  form = form.Tuple;
  parts = row_of (map value_tree vs);
  begins = sym (parts_of (sym (tree-roll (Value-F.Tuple vs)) ∙ e));
  made = (vs, val.rolls-Tuple vs, refl);
}
formed_at (Value-F.List vs) ts e = record {
  form = form.List;
  parts = row_of (map value_tree vs);
  begins = sym (parts_of (sym (tree-roll (Value-F.List vs)) ∙ e));
  made = (vs, val.rolls-List vs, refl);
}
formed_at (Value-F.Opt None) ts e = record {
  form = form.Opt;
  parts = none;
  begins = sym (parts_of (sym (tree-roll (Value-F.Opt None)) ∙ e));
  made = inl (val.rolls-Opt None, refl);
}
formed_at (Value-F.Opt (Some x)) ts e = record {
  form = form.Opt;
  parts = more (value_tree x) none;
  begins = sym (parts_of (sym (tree-roll (Value-F.Opt (Some x))) ∙ e));
  made = inr (x, val.rolls-Opt (Some x), refl);
}

pub formed : (v : Value) (ts : TextTrees) → value_tree v ≡ list ts → Formed v ts
formed v ts = subst (λ (x : Value). value_tree x ≡ list ts → Formed x ts) (roll-out-Value v) (formed_at (out-Value v) ts)

-- forms have words of their own
pub form_same : (f g : ValueForm) → form_word f ≡ form_word g → f ≡ g
form_same f g e = back f g (byte f ∙ ap first e ∙ sym (byte g))
  where
    first : List ℕ → ℕ
    first [] = 0
    first (b ∷ bs) = b

    code : ValueForm → ℕ
    code form.Case = 99
    code form.Fields = 114
    code form.Tuple = 116
    code form.List = 108
    code form.Opt = 111

    byte : (h : ValueForm) → code h ≡ first (form_word h)
    byte form.Case = refl
    byte form.Fields = refl
    byte form.Tuple = refl
    byte form.List = refl
    byte form.Opt = refl

    back : (h k : ValueForm) → code h ≡ code k → h ≡ k
    back form.Case form.Case e = refl
    back form.Case form.Fields e = absurd (omega (arith, e))
    back form.Case form.Tuple e = absurd (omega (arith, e))
    back form.Case form.List e = absurd (omega (arith, e))
    back form.Case form.Opt e = absurd (omega (arith, e))
    back form.Fields form.Case e = absurd (omega (arith, e))
    back form.Fields form.Fields e = refl
    back form.Fields form.Tuple e = absurd (omega (arith, e))
    back form.Fields form.List e = absurd (omega (arith, e))
    back form.Fields form.Opt e = absurd (omega (arith, e))
    back form.Tuple form.Case e = absurd (omega (arith, e))
    back form.Tuple form.Fields e = absurd (omega (arith, e))
    back form.Tuple form.Tuple e = refl
    back form.Tuple form.List e = absurd (omega (arith, e))
    back form.Tuple form.Opt e = absurd (omega (arith, e))
    back form.List form.Case e = absurd (omega (arith, e))
    back form.List form.Fields e = absurd (omega (arith, e))
    back form.List form.Tuple e = absurd (omega (arith, e))
    back form.List form.List e = refl
    back form.List form.Opt e = absurd (omega (arith, e))
    back form.Opt form.Case e = absurd (omega (arith, e))
    back form.Opt form.Fields e = absurd (omega (arith, e))
    back form.Opt form.Tuple e = absurd (omega (arith, e))
    back form.Opt form.List e = absurd (omega (arith, e))
    back form.Opt form.Opt e = refl

-- a value whose tree begins with the word of a form has that form
pub inverted : (f : ValueForm) (ts : TextTrees) (v : Value) → list (more (word (form_word f)) ts) ≡ value_tree v → ValueParts f ts v
inverted f ts v e =
    let d = formed v (more (word (form_word f)) ts) (sym e) in
    let same : f ≡ d.form = form_same f d.form (word_of (first_of d.begins)) in
    subst (λ (g : ValueForm). ValueParts g ts v) (sym same) (subst (λ us. ValueParts d.form us v) (sym (rest_of d.begins)) d.made)

-- a value whose tree is a word
abbrev pub Worded : Value → List ℕ → Type 0
Worded v w = ((v ≡ val.Bool true) × (w ≡ codes "true")) ⊎ ((v ≡ val.Bool false) × (w ≡ codes "false")) ⊎ ((z : ℤ) × (v ≡ val.Num z) × (w ≡ signed_decimal z))

worded_at : (l : Value-F Value) (w : List ℕ) → value_tree (roll-Value l) ≡ word w → Worded (roll-Value l) w
worded_at (Value-F.Bool true) w e = inl (val.rolls-Bool true, word_of (sym e ∙ tree-roll (Value-F.Bool true)))
worded_at (Value-F.Bool false) w e = inr (inl (val.rolls-Bool false, word_of (sym e ∙ tree-roll (Value-F.Bool false))))
worded_at (Value-F.Num z) w e = inr (inr (z, val.rolls-Num z, word_of (sym e ∙ tree-roll (Value-F.Num z))))
worded_at (Value-F.Text s) w e = absurd (cc (tree-roll (Value-F.Text s)))
worded_at (Value-F.Case tag vs) w e = absurd (cc (tree-roll (Value-F.Case tag vs)))
worded_at (Value-F.Fields fields) w e = absurd (cc (tree-roll (Value-F.Fields fields)))
worded_at (Value-F.Tuple vs) w e = absurd (cc (tree-roll (Value-F.Tuple vs)))
worded_at (Value-F.List vs) w e = absurd (cc (tree-roll (Value-F.List vs)))
worded_at (Value-F.Opt None) w e = absurd (cc (tree-roll (Value-F.Opt None)))
worded_at (Value-F.Opt (Some x)) w e = absurd (cc (tree-roll (Value-F.Opt (Some x))))

pub worded : (v : Value) (w : List ℕ) → word w ≡ value_tree v → Worded v w
worded v w e = subst (λ (x : Value). value_tree x ≡ word w → Worded x w) (roll-out-Value v) (worded_at (out-Value v) w) (sym e)

quoted_at : (l : Value-F Value) (s : List ℕ) → value_tree (roll-Value l) ≡ quote s → roll-Value l ≡ val.Text s
quoted_at (Value-F.Bool true) s e = absurd (cc (tree-roll (Value-F.Bool true)))
quoted_at (Value-F.Bool false) s e = absurd (cc (tree-roll (Value-F.Bool false)))
quoted_at (Value-F.Num z) s e = absurd (cc (tree-roll (Value-F.Num z)))
quoted_at (Value-F.Text r) s e = val.rolls-Text r ∙ ap val.Text (quote_of (sym (tree-roll (Value-F.Text r)) ∙ e))
quoted_at (Value-F.Case tag vs) s e = absurd (cc (tree-roll (Value-F.Case tag vs)))
quoted_at (Value-F.Fields fields) s e = absurd (cc (tree-roll (Value-F.Fields fields)))
quoted_at (Value-F.Tuple vs) s e = absurd (cc (tree-roll (Value-F.Tuple vs)))
quoted_at (Value-F.List vs) s e = absurd (cc (tree-roll (Value-F.List vs)))
quoted_at (Value-F.Opt None) s e = absurd (cc (tree-roll (Value-F.Opt None)))
quoted_at (Value-F.Opt (Some x)) s e = absurd (cc (tree-roll (Value-F.Opt (Some x))))

pub quoted : (v : Value) (s : List ℕ) → quote s ≡ value_tree v → v ≡ val.Text s
quoted v s e = subst (λ (x : Value). value_tree x ≡ quote s → x ≡ val.Text s) (roll-out-Value v) (quoted_at (out-Value v) s) (sym e)
