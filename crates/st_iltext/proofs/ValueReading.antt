-- What the readers of values need.
use Rattle.std.proofs.Common.{◌≡◌, ◌≢◌, ℕ, zero, suc, ◌^◌, ◌<◌, ◌==◌, length, Result, Err, List, [], ◌∷◌, ◌++◌, map, codes, Bool, true, false, ◌&&◌, append-nil, nat_lt, Some, None, ℤ, refl, sym, ap, ap₂, subst, ◌∙◌, inl, inr, arith, unsigned_abs}
use Rattle.std.specs.Fmt.{signed_decimal}
use Rattle.std.specs.List.{list_all}
use Rattle.st_num.specs.Number.{IsNumber}
use Rattle.st_il.specs.declared.value.Value.{Value}
use Rattle.st_il.specs.declared.value.Value.TheVariants as val
use Rattle.st_text.specs.Numbers.{IsNoInteger}
use Rattle.st_text.specs.Reading.{Answers}
use Rattle.st_text.specs.declared.fault.TextFault.{TextFault}
use Rattle.st_text.specs.declared.fault.TextFault.TheVariants.{Malformed, Memory}
use Rattle.st_text.specs.Text.{TextTree, TextTrees, word, quote, list, none, more}
use Rattle.st_text.specs.Trees.{row_of, tree_of, trees_of}
use Rattle.st_text.specs.declared.tree.TextTree as program
use Rattle.st_iltext.specs.declared.value_form.ValueForm.{ValueForm}
use Rattle.st_iltext.specs.declared.value_form.ValueForm.TheVariants as form
use Rattle.st_iltext.specs.Values.{value_tree, value_written}
use Rattle.st_iltext.specs.inner.Forms.{form_word}
use Rattle.st_iltext.specs.inner.Fields.{fields_row, field_fits, AreFields, AreNoFields}
use Rattle.st_iltext.specs.inner.Reading.{IsOf, IsOfNone, AreOf, AreOfNone, Reads, ReadsAll}
use Rattle.st_iltext.proofs.Rows.{first_of, rest_of, both}
use Rattle.st_iltext.proofs.ValueLevels.{tree-Bool, tree-Num, tree-Text, tree-Case, tree-Fields, tree-Tuple, tree-List, tree-None, tree-Some, written-Bool, written-Num, written-Text, written-Case, written-Fields, written-Tuple, written-List, written-None, written-Some}
use Rattle.st_iltext.proofs.ValueForms.{ValueParts, formed, inverted, worded}
use Rattle.st_iltext.proofs.ValuesSame.{within}

-- the tree is that of this value
abbrev pub IsValue : TextTree → Value → Type 0
IsValue = IsOf value_tree value_written

-- the tree is that of no value
abbrev pub IsNone : TextTree → Type 0
IsNone = IsOfNone value_tree value_written

-- the trees are those of these values
abbrev pub AreValues : TextTrees → List Value → Type 0
AreValues = AreOf value_tree value_written

-- ---- words and quoted texts

pub value_true : (w : List ℕ) → w ≡ codes "true" → IsValue (word w) (val.Bool true)
value_true w e = record { fits = written-Bool true; is = ap word e ∙ sym (tree-Bool true) }

pub value_false : (w : List ℕ) → w ≡ codes "false" → IsValue (word w) (val.Bool false)
value_false w e = record { fits = written-Bool false; is = ap word e ∙ sym (tree-Bool false) }

within_test : (n : ℕ) → n < 2 ^ 128 → nat_lt n (2 ^ 128) ≡ true
within_test n h = grind arith

pub value_number : (w : List ℕ) (z : ℤ) → IsNumber z → w ≡ signed_decimal z → IsValue (word w) (val.Num z)
value_number w z small e = record { fits = written-Num z ∙ within_test (unsigned_abs z) small; is = ap word e ∙ sym (tree-Num z) }

pub value_no_word : (w : List ℕ) → w ≢ codes "true" → w ≢ codes "false" → IsNoInteger w → IsNone (word w)
value_no_word w t f n = record {
  never = λ v p e. elim (worded v w e) [
    | inl g ↦ t g.1
    | inr (inl g) ↦ f g.1
    | inr (inr g) ↦ n g.0 (within g.0 (sym (written-Num g.0) ∙ ap value_written (sym g.1) ∙ p)) g.2
  ];
}

pub value_text : (t : TextTree) (s r : List ℕ) → t ≡ quote s → r ≡ s → IsValue t (val.Text r)
value_text t s r e f = record { fits = written-Text r; is = e ∙ ap quote (sym f) ∙ sym (tree-Text r) }

-- ---- lists

pub value_empty : (t : TextTree) → t ≡ list none → IsNone t
value_empty t e = record { never = λ v p f. cc ((formed v none (sym f ∙ e)).begins) }

pub value_no_form : (t h : TextTree) (ts : TextTrees) → t ≡ list (more h ts) → ((f : ValueForm) → h ≢ word (form_word f)) → IsNone t
value_no_form t h ts e n = record { never = λ v p f. let d = formed v (more h ts) (sym f ∙ e) in n d.form (first_of d.begins) }

-- no value has the word of a form and these trees behind it
pub no_form : (f : ValueForm) (ts : TextTrees) → ((v : Value) → value_written v ≡ true → ValueParts f ts v → ⊥) → IsNone (list (more (word (form_word f)) ts))
no_form f ts n = record { never = λ v p e. n v p (inverted f ts v e) }

pub case_none : (ts : TextTrees) → ts ≡ none → IsNone (list (more (word (codes "c")) ts))
case_none ts e = no_form form.Case ts (λ v p d. cc (e, d.3))

pub case_no_tag : (ts us : TextTrees) (t : TextTree) → ts ≡ more t us → ((s : List ℕ) → t ≢ quote s) → IsNone (list (more (word (codes "c")) ts))
case_no_tag ts us t e n = no_form form.Case ts (λ v p d. n d.0 (first_of (sym e ∙ d.3)))

pub case_no_parts : (ts us : TextTrees) (t : TextTree) → ts ≡ more t us → AreOfNone value_tree value_written us → IsNone (list (more (word (codes "c")) ts))
case_no_parts ts us t e n = no_form form.Case ts (λ v p d. n.never d.1 (sym (written-Case d.0 d.1) ∙ ap value_written (sym d.2) ∙ p) (rest_of (sym e ∙ d.3)))

pub case_is : (ts us : TextTrees) (t : TextTree) (tag copy : List ℕ) (vs : List Value) → ts ≡ more t us → t ≡ quote tag → copy ≡ tag → AreValues us vs → IsValue (list (more (word (codes "c")) ts)) (val.Case copy vs)
case_is ts us t tag copy vs e f g a = record {
  fits = written-Case copy vs ∙ a.fit;
  is = ap (λ rs. list (more (word (codes "c")) rs)) (e ∙ ap₂ more (f ∙ ap quote (sym g)) a.are) ∙ sym (tree-Case copy vs);
}

pub tuple_none : (ts : TextTrees) → AreOfNone value_tree value_written ts → IsNone (list (more (word (codes "t")) ts))
tuple_none ts n = no_form form.Tuple ts (λ v p d. n.never d.0 (sym (written-Tuple d.0) ∙ ap value_written (sym d.1) ∙ p) d.2)

pub tuple_is : (ts : TextTrees) (vs : List Value) → AreValues ts vs → IsValue (list (more (word (codes "t")) ts)) (val.Tuple vs)
tuple_is ts vs a = record { fits = written-Tuple vs ∙ a.fit; is = ap (λ rs. list (more (word (codes "t")) rs)) a.are ∙ sym (tree-Tuple vs) }

pub list_none : (ts : TextTrees) → AreOfNone value_tree value_written ts → IsNone (list (more (word (codes "l")) ts))
list_none ts n = no_form form.List ts (λ v p d. n.never d.0 (sym (written-List d.0) ∙ ap value_written (sym d.1) ∙ p) d.2)

pub list_is : (ts : TextTrees) (vs : List Value) → AreValues ts vs → IsValue (list (more (word (codes "l")) ts)) (val.List vs)
list_is ts vs a = record { fits = written-List vs ∙ a.fit; is = ap (λ rs. list (more (word (codes "l")) rs)) a.are ∙ sym (tree-List vs) }

-- ---- options

pub option_empty : (ts : TextTrees) → ts ≡ none → IsValue (list (more (word (codes "o")) ts)) (val.Opt None)
option_empty ts e = record { fits = written-None; is = ap (λ rs. list (more (word (codes "o")) rs)) e ∙ sym tree-None }

pub option_more : (ts us : TextTrees) (t u : TextTree) → ts ≡ more t (more u us) → IsNone (list (more (word (codes "o")) ts))
option_more ts us t u e = no_form form.Opt ts (λ v p d. elim d [ inl f ↦ cc (e, f.1) | inr f ↦ cc (e, f.2) ])

pub option_none : (ts : TextTrees) (t : TextTree) → ts ≡ more t none → IsNone t → IsNone (list (more (word (codes "o")) ts))
option_none ts t e n = no_form form.Opt ts (λ v p d. elim d [
  | inl f ↦ cc (e, f.1)
  | inr f ↦ n.never f.0 (sym (written-Some f.0) ∙ ap value_written (sym f.1) ∙ p) (first_of (sym e ∙ f.2))
])

pub option_is : (ts : TextTrees) (t : TextTree) (v : Value) → ts ≡ more t none → IsValue t v → IsValue (list (more (word (codes "o")) ts)) (val.Opt (Some v))
option_is ts t v e i = record {
  fits = written-Some v ∙ i.fits;
  is = ap (λ rs. list (more (word (codes "o")) rs)) (e ∙ ap (λ u. more u none) i.is) ∙ sym (tree-Some v);
}

-- ---- records

pub record_none : (ts : TextTrees) → AreNoFields ts → IsNone (list (more (word (codes "r")) ts))
record_none ts n = no_form form.Fields ts (λ v p d. n.never d.0 (sym (written-Fields d.0) ∙ ap value_written (sym d.1) ∙ p) d.2)

pub record_is : (ts : TextTrees) (fs : List (List ℕ × Value)) → AreFields ts fs → IsValue (list (more (word (codes "r")) ts)) (val.Fields fs)
record_is ts fs a = record { fits = written-Fields fs ∙ a.fit; is = ap (λ rs. list (more (word (codes "r")) rs)) a.are ∙ sym (tree-Fields fs) }

-- these fields stand before the rest of the trees
pub record FieldsSoFar (fs : List (List ℕ × Value)) (trees rest : List program.TextTree) : Type 0 where
  pub fit : list_all field_fits fs ≡ true
  pub are : map tree_of trees ≡ fields_row fs ++ map tree_of rest

pub fields_start : (fs : List (List ℕ × Value)) (trees : List program.TextTree) → fs ≡ [] → FieldsSoFar fs trees trees
fields_start fs trees e = subst (λ gs. FieldsSoFar gs trees trees) (sym e) (record { fit = refl; are = refl })

fit_push : (fs : List (List ℕ × Value)) (x : List ℕ) (v : Value) → list_all field_fits fs ≡ true → value_written v ≡ true → list_all field_fits (fs ++ (x, v) ∷ []) ≡ true
fit_push [] x v p q = ap (λ b. b && true) q
fit_push (f ∷ fs) x v p q = ap₂ ◌&&◌ (both _ _ p).0 (fit_push fs x v (both _ _ p).1 q)

row_push : (fs : List (List ℕ × Value)) (x : List ℕ) (v : Value) (ts : List TextTree) → fields_row fs ++ (quote x ∷ value_tree v ∷ ts) ≡ fields_row (fs ++ (x, v) ∷ []) ++ ts
row_push [] x v ts = refl
row_push (f ∷ fs) x v ts = ap (λ us. quote f.0 ∷ value_tree f.1 ∷ us) (row_push fs x v ts)

pub fields_step : (fs longer : List (List ℕ × Value)) (trees rest behind others : List program.TextTree) (n t : program.TextTree) (s x : List ℕ) (v : Value)
    → FieldsSoFar fs trees rest → rest ≡ n ∷ behind → behind ≡ t ∷ others → tree_of n ≡ quote s → x ≡ s → IsValue (tree_of t) v → longer ≡ fs ++ (x, v) ∷ [] → FieldsSoFar longer trees others
fields_step fs longer trees rest behind others n t s x v so e f g h i l = subst (λ gs. FieldsSoFar gs trees others) (sym l) (record {
  fit = fit_push fs x v so.fit i.fits;
  are = so.are ∙ ap (λ us. fields_row fs ++ us) (ap (map tree_of) (e ∙ ap (λ us. n ∷ us) f) ∙ ap₂ (λ a b. a ∷ b ∷ map tree_of others) (g ∙ ap quote (sym h)) i.is) ∙ row_push fs x v (map tree_of others);
})

pub fields_end : (fs : List (List ℕ × Value)) (trees rest : List program.TextTree) → FieldsSoFar fs trees rest → rest ≡ [] → AreFields (trees_of trees) fs
fields_end fs trees rest so e = record { fit = so.fit; are = ap row_of (so.are ∙ ap (λ us. fields_row fs ++ map tree_of us) e ∙ append-nil (fields_row fs)) }

-- what stands behind some fields is the trees of fields
behind_fields : (fs gs : List (List ℕ × Value)) (ts : List TextTree) → list_all field_fits gs ≡ true → row_of (fields_row fs ++ ts) ≡ row_of (fields_row gs)
    → (hs : List (List ℕ × Value)) × (list_all field_fits hs ≡ true) × (row_of ts ≡ row_of (fields_row hs))
behind_fields [] gs ts p e = (gs, p, e)
behind_fields (f ∷ fs) [] ts p e = absurd (cc e)
behind_fields (f ∷ fs) (g ∷ gs) ts p e = behind_fields fs gs ts (both _ _ p).1 (rest_of (rest_of e))

-- no fields go on as the rest does
pub no_fields : (fs : List (List ℕ × Value)) (trees rest : List program.TextTree) → FieldsSoFar fs trees rest
    → ((hs : List (List ℕ × Value)) → list_all field_fits hs ≡ true → trees_of rest ≡ row_of (fields_row hs) → ⊥) → AreNoFields (trees_of trees)
no_fields fs trees rest so n = record { never = λ gs p e. let k = behind_fields fs gs (map tree_of rest) p (sym (ap row_of so.are) ∙ e) in n k.0 k.1 k.2 }

pub fields_no_name : (fs : List (List ℕ × Value)) (trees rest behind : List program.TextTree) (t : program.TextTree) → FieldsSoFar fs trees rest → rest ≡ t ∷ behind
    → ((s : List ℕ) → tree_of t ≢ quote s) → AreNoFields (trees_of trees)
fields_no_name fs trees rest behind t so e n = no_fields fs trees rest so (go rest e)
  where
    go : (us : List program.TextTree) → us ≡ t ∷ behind → (hs : List (List ℕ × Value)) → list_all field_fits hs ≡ true → trees_of us ≡ row_of (fields_row hs) → ⊥
    go us e [] p f = cc (sym (ap trees_of e) ∙ f)
    go us e (h ∷ hs) p f = n h.0 (first_of (sym (ap trees_of e) ∙ f))

pub fields_no_value : (fs : List (List ℕ × Value)) (trees rest behind : List program.TextTree) (t : program.TextTree) → FieldsSoFar fs trees rest → rest ≡ t ∷ behind
    → behind ≡ [] → AreNoFields (trees_of trees)
fields_no_value fs trees rest behind t so e z = no_fields fs trees rest so (go rest e)
  where
    go : (us : List program.TextTree) → us ≡ t ∷ behind → (hs : List (List ℕ × Value)) → list_all field_fits hs ≡ true → trees_of us ≡ row_of (fields_row hs) → ⊥
    go us e [] p f = cc (sym (ap trees_of e) ∙ f)
    go us e (h ∷ hs) p f = cc (rest_of (sym (ap trees_of (e ∙ ap (λ ws. t ∷ ws) z)) ∙ f))

pub fields_none : (fs : List (List ℕ × Value)) (trees rest behind others : List program.TextTree) (n t : program.TextTree) → FieldsSoFar fs trees rest → rest ≡ n ∷ behind → behind ≡ t ∷ others
    → IsNone (tree_of t) → AreNoFields (trees_of trees)
fields_none fs trees rest behind others n t so e f i = no_fields fs trees rest so (go rest (e ∙ ap (λ us. n ∷ us) f))
  where
    go : (us : List program.TextTree) → us ≡ n ∷ t ∷ others → (hs : List (List ℕ × Value)) → list_all field_fits hs ≡ true → trees_of us ≡ row_of (fields_row hs) → ⊥
    go us e [] p f = cc (sym (ap trees_of e) ∙ f)
    go us e (h ∷ hs) p f = i.never h.1 (both _ _ p).0 (first_of (rest_of (sym (ap trees_of e) ∙ f)))

-- ---- answers that are passed on

pub passed_value : {X : Type 0} (P : X → Type 0) (t : TextTree) (Q : Type 0) (fault : TextFault) (result : Result Value TextFault) → (Q → IsNone t) → Answers {T = X} (Err fault) P Q → result ≡ Err fault
    → Reads value_tree value_written t result
passed_value P t Q (Malformed line) result n said is = subst (Reads value_tree value_written t) (sym is) (said.0, n said.1)
passed_value P t Q Memory result n said is = subst (Reads value_tree value_written t) (sym is) tt

pub passed_values : {X : Type 0} (P : X → Type 0) (ts : TextTrees) (Q : Type 0) (fault : TextFault) (result : Result (List Value) TextFault) → (Q → AreOfNone value_tree value_written ts) → Answers {T = X} (Err fault) P Q → result ≡ Err fault
    → ReadsAll value_tree value_written ts result
passed_values P ts Q (Malformed line) result n said is = subst (ReadsAll value_tree value_written ts) (sym is) (said.0, n said.1)
passed_values P ts Q Memory result n said is = subst (ReadsAll value_tree value_written ts) (sym is) tt

-- what is read of fields
abbrev pub ReadsFields : TextTrees → Result (List (List ℕ × Value)) TextFault → Type 0
ReadsFields ts result = Answers result (AreFields ts) (AreNoFields ts)

pub passed_fields : {X : Type 0} (P : X → Type 0) (ts : TextTrees) (Q : Type 0) (fault : TextFault) (result : Result (List (List ℕ × Value)) TextFault) → (Q → AreNoFields ts) → Answers {T = X} (Err fault) P Q → result ≡ Err fault
    → ReadsFields ts result
passed_fields P ts Q (Malformed line) result n said is = subst (ReadsFields ts) (sym is) (said.0, n said.1)
passed_fields P ts Q Memory result n said is = subst (ReadsFields ts) (sym is) tt

-- ---- options, by whether a tree stands behind the first

pub option_long : (parts others : List program.TextTree) (t : program.TextTree) (b : Bool) → parts ≡ t ∷ others → b ≡ (length others == 0) → b ≡ false → IsNone (list (more (word (codes "o")) (trees_of parts)))
option_long parts [] t b e test fails = absurd (cc)
option_long parts (u ∷ others) t b e test fails = option_more (trees_of parts) (trees_of others) (tree_of t) (tree_of u) (ap trees_of e)

pub option_short : (parts others : List program.TextTree) (t : program.TextTree) (b : Bool) (v boxed : Value) → parts ≡ t ∷ others → b ≡ (length others == 0) → b ≡ true → IsValue (tree_of t) v → boxed ≡ v
    → IsValue (list (more (word (codes "o")) (trees_of parts))) (val.Opt (Some boxed))
option_short parts [] t b v boxed e test holds i f = subst (λ (x : Value). IsValue (list (more (word (codes "o")) (trees_of parts))) (val.Opt (Some x))) (sym f) (option_is (trees_of parts) (tree_of t) v (ap trees_of e) i)
option_short parts (u ∷ others) t b v boxed e test holds i f = absurd (omega (arith, zero_test (length (u ∷ others)) b test holds))
  where
    zero_test : (n : ℕ) (c : Bool) → c ≡ (n == 0) → c ≡ true → n ≡ 0
    zero_test zero c g h = refl
    zero_test (suc n) c g h = grind arith

pub nothing : {A : Type 0} (xs : List A) → length xs ≡ 0 → xs ≡ []
nothing [] e = refl
nothing (x ∷ xs) e = absurd (omega (arith, e))
