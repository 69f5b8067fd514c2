-- Values are equal where their trees are.
use Rattle.std.proofs.Common.{◌≡◌, ℕ, suc, ◌^◌, ◌<◌, List, [], ◌∷◌, map, codes, true, false, nat_lt, Some, None, ℤ, pos, negsuc, refl, sym, ap, ap₂, subst, ◌∙◌, inl, inr, arith, unsigned_abs}
use Rattle.std.specs.Fmt.{decimal, signed_decimal}
use Rattle.std.specs.List.{list_all}
use Rattle.std.specs.Str.Parse.{IsNumeral}
use Rattle.std.proofs.lemmas.Fmt.{decimal_is_IsNumeral_wide}
use Rattle.st_num.specs.Number.{IsNumber}
use Rattle.st_il.specs.declared.value.Value.{Value, roll-Value}
use Rattle.st_il.specs.declared.value.Value.TheOpen.{Value-F}
use Rattle.st_il.specs.declared.value.Value.TheVariants as val
use Rattle.st_il.proofs.Induction.{Every, OfField, Parts, value-ind}
use Rattle.st_text.specs.Text.{none, more}
use Rattle.st_text.specs.Trees.{row_of}
use Rattle.st_text.proofs.Bytes.{heads, tails}
use Rattle.st_text.proofs.NumberWords.{decimal-unique}
use Rattle.st_iltext.specs.declared.value_form.ValueForm.TheVariants as form
use Rattle.st_iltext.specs.Values.{value_tree, value_written}
use Rattle.st_iltext.specs.inner.Fields.{fields_row, field_fits}
use Rattle.st_iltext.proofs.Rows.{first_of, rest_of, quote_of, both, all_map}
use Rattle.st_iltext.proofs.ValueLevels.{tree-roll, written-roll, tree-Fields, written-Num, written-Case, written-Fields, written-Tuple, written-List, written-Some, fields_fit-is}
use Rattle.st_iltext.proofs.ValueForms.{inverted, worded, quoted}

-- ---- numbers as words

pub within : (z : ℤ) → nat_lt (unsigned_abs z) (2 ^ 128) ≡ true → IsNumber z
within z e = grind arith

numeral_first : (n b : ℕ) (w : List ℕ) → n < 2 ^ 128 → decimal n ≡ b ∷ w → IsNumeral 10 (b ∷ w)
numeral_first n b w small e = subst (IsNumeral 10) e (decimal_is_IsNumeral_wide n (omega arith)).0

no_sign : (n : ℕ) (w : List ℕ) → n < 2 ^ 128 → decimal n ≡ 45 ∷ w → ⊥
no_sign n w small e = let numeral = numeral_first n 45 w small e in omega (arith, numeral.1.0)

pub no_true : (z : ℤ) → IsNumber z → signed_decimal z ≡ codes "true" → ⊥
no_true (pos n) small e = let numeral = numeral_first n 116 (codes "rue") small e in omega (arith, numeral.1.0)
no_true (negsuc n) small e = omega (arith, heads e)

pub no_false : (z : ℤ) → IsNumber z → signed_decimal z ≡ codes "false" → ⊥
no_false (pos n) small e = let numeral = numeral_first n 102 (codes "alse") small e in omega (arith, numeral.1.0)
no_false (negsuc n) small e = omega (arith, heads e)

pub integer_same : (y z : ℤ) → IsNumber y → IsNumber z → signed_decimal y ≡ signed_decimal z → y ≡ z
integer_same (pos n) (pos m) p q e = ap pos (decimal-unique n m p q e)
integer_same (pos n) (negsuc m) p q e = absurd (no_sign n (decimal (suc m)) p e)
integer_same (negsuc n) (pos m) p q e = absurd (no_sign m (decimal (suc n)) q (sym e))
integer_same (negsuc n) (negsuc m) p q e = ap negsuc (less (decimal-unique (suc n) (suc m) p q (tails e)))
  where
    less : suc n ≡ suc m → n ≡ m
    less f = omega (arith, f)

pub true_other : codes "true" ≡ codes "false" → ⊥
true_other e = omega (arith, heads e)

-- ---- the induction

-- the value is equal to each whose tree is the same
abbrev IsOne : Value → Type 0
IsOne v = (w : Value) → value_written v ≡ true → value_written w ≡ true → value_tree v ≡ value_tree w → v ≡ w

values_one : (vs ws : List Value) → Every IsOne vs → list_all value_written vs ≡ true → list_all value_written ws ≡ true → row_of (map value_tree vs) ≡ row_of (map value_tree ws) → vs ≡ ws
values_one [] [] h p q e = refl
values_one [] (w ∷ ws) h p q e = cc e
values_one (v ∷ vs) [] h p q e = cc e
values_one (v ∷ vs) (w ∷ ws) h p q e =
    ap₂ ◌∷◌ (h.0 w (both _ _ p).0 (both _ _ q).0 (first_of e)) (values_one vs ws h.1 (both _ _ p).1 (both _ _ q).1 (rest_of e))

fields_one : (fs gs : List (List ℕ × Value)) → Every (OfField IsOne) fs → list_all field_fits fs ≡ true → list_all field_fits gs ≡ true → row_of (fields_row fs) ≡ row_of (fields_row gs) → fs ≡ gs
fields_one [] [] h p q e = refl
fields_one [] (g ∷ gs) h p q e = cc e
fields_one (f ∷ fs) [] h p q e = cc e
fields_one ((x, v) ∷ fs) ((y, w) ∷ gs) h p q e =
    ap₂ ◌∷◌ (ap₂ (λ (n : List ℕ) (u : Value). (n, u)) (quote_of (first_of e)) (h.0 w (both _ _ p).0 (both _ _ q).0 (first_of (rest_of e))))
    (fields_one fs gs h.1 (both _ _ p).1 (both _ _ q).1 (rest_of (rest_of e)))

level : (x : Value-F Value) → Parts IsOne x → IsOne (roll-Value x)
level (Value-F.Bool true) h w p q e = elim (worded w (codes "true") (sym (tree-roll (Value-F.Bool true)) ∙ e)) [
  | inl f ↦ val.rolls-Bool true ∙ sym f.0
  | inr (inl f) ↦ absurd (true_other f.1)
  | inr (inr f) ↦ absurd (no_true f.0 (within f.0 (sym (written-Num f.0) ∙ ap value_written (sym f.1) ∙ q)) (sym f.2))
]
level (Value-F.Bool false) h w p q e = elim (worded w (codes "false") (sym (tree-roll (Value-F.Bool false)) ∙ e)) [
  | inl f ↦ absurd (true_other (sym f.1))
  | inr (inl f) ↦ val.rolls-Bool false ∙ sym f.0
  | inr (inr f) ↦ absurd (no_false f.0 (within f.0 (sym (written-Num f.0) ∙ ap value_written (sym f.1) ∙ q)) (sym f.2))
]
level (Value-F.Num z) h w p q e =
    let small = within z (sym (written-roll (Value-F.Num z)) ∙ p) in
    elim (worded w (signed_decimal z) (sym (tree-roll (Value-F.Num z)) ∙ e)) [
      | inl f ↦ absurd (no_true z small f.1)
      | inr (inl f) ↦ absurd (no_false z small f.1)
      | inr (inr f) ↦ val.rolls-Num z ∙ ap val.Num (integer_same z f.0 small (within f.0 (sym (written-Num f.0) ∙ ap value_written (sym f.1) ∙ q)) f.2) ∙ sym f.1
    ]
level (Value-F.Text s) h w p q e = val.rolls-Text s ∙ sym (quoted w s (sym (tree-roll (Value-F.Text s)) ∙ e))
level (Value-F.Case tag vs) h w p q e =
    let f = inverted form.Case _ w (sym (tree-roll (Value-F.Case tag vs)) ∙ e) in
    let same = values_one vs f.1 h (sym (written-roll (Value-F.Case tag vs) ∙ all_map value_written vs) ∙ p) (sym (written-Case f.0 f.1) ∙ ap value_written (sym f.2) ∙ q) (rest_of f.3) in
    val.rolls-Case tag vs ∙ ap₂ val.Case (quote_of (first_of f.3)) same ∙ sym f.2
level (Value-F.Fields fs) h w p q e =
    let f = inverted form.Fields _ w (sym (tree-Fields fs) ∙ ap value_tree (sym (val.rolls-Fields fs)) ∙ e) in
    let same = fields_one fs f.0 h (sym (written-roll (Value-F.Fields fs) ∙ fields_fit-is fs) ∙ p) (sym (written-Fields f.0) ∙ ap value_written (sym f.1) ∙ q) f.2 in
    val.rolls-Fields fs ∙ ap val.Fields same ∙ sym f.1
level (Value-F.Tuple vs) h w p q e =
    let f = inverted form.Tuple _ w (sym (tree-roll (Value-F.Tuple vs)) ∙ e) in
    let same = values_one vs f.0 h (sym (written-roll (Value-F.Tuple vs) ∙ all_map value_written vs) ∙ p) (sym (written-Tuple f.0) ∙ ap value_written (sym f.1) ∙ q) f.2 in
    val.rolls-Tuple vs ∙ ap val.Tuple same ∙ sym f.1
level (Value-F.List vs) h w p q e =
    let f = inverted form.List _ w (sym (tree-roll (Value-F.List vs)) ∙ e) in
    let same = values_one vs f.0 h (sym (written-roll (Value-F.List vs) ∙ all_map value_written vs) ∙ p) (sym (written-List f.0) ∙ ap value_written (sym f.1) ∙ q) f.2 in
    val.rolls-List vs ∙ ap val.List same ∙ sym f.1
level (Value-F.Opt None) h w p q e = elim (inverted form.Opt none w (sym (tree-roll (Value-F.Opt None)) ∙ e)) [
  | inl f ↦ val.rolls-Opt None ∙ sym f.0
  | inr f ↦ cc (f.2)
]
level (Value-F.Opt (Some x)) h w p q e = elim (inverted form.Opt (more (value_tree x) none) w (sym (tree-roll (Value-F.Opt (Some x))) ∙ e)) [
  | inl f ↦ cc (f.1)
  | inr f ↦ (
      let same = h f.0 (sym (written-roll (Value-F.Opt (Some x))) ∙ p) (sym (written-Some f.0) ∙ ap value_written (sym f.1) ∙ q) (first_of f.2) in
      val.rolls-Opt (Some x) ∙ ap (λ (y : Value). val.Opt (Some y)) same ∙ sym f.1)
]

-- values whose trees are the same are so
pub value_same : (v w : Value) → value_written v ≡ true → value_written w ≡ true → value_tree v ≡ value_tree w → v ≡ w
value_same = value-ind IsOne level
