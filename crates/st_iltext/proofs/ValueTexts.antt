-- From the tree of a value to its text.
use Rattle.std.proofs.Common.{◌≡◌, ℕ, ◌≤◌, List, Bool, true, false, nat_le, Result, Err, sym, ap, subst, ◌∙◌, arith}
use Rattle.st_num.specs.declared.limit.TheConstants.{HIGHEST_VALUE}
use Rattle.st_il.specs.Height.{height}
use Rattle.st_il.specs.declared.value.Value.{Value}
use Rattle.st_text.specs.Text.{TextTree, text, HasText, TreeText}
use Rattle.st_text.specs.Reading.{Answers, IsNoTree}
use Rattle.st_text.specs.declared.fault.TextFault.{TextFault}
use Rattle.st_text.specs.declared.fault.TextFault.TheVariants.{Malformed, Memory}
use Rattle.st_text.proofs.Unique.{one_tree, no_front_of_another}
use Rattle.st_iltext.specs.Values.{value_tree, ValueText, IsNoValue}
use Rattle.st_iltext.specs.ValueLaws.{OneValueText, OneValue, NoValueBeginsAnother}
use Rattle.st_iltext.proofs.ValueReading.{IsValue, IsNone}
use Rattle.st_iltext.proofs.ValuesSame.{value_same}

-- the tree of a value that has a text
as_tree : (v : Value) (bytes : List ℕ) → ValueText v bytes → TreeText (value_tree v) bytes
as_tree v bytes t = record { has = t.has.tree; is = t.is }

pub text_no_tree : (bytes : List ℕ) → IsNoTree bytes → IsNoValue bytes
text_no_tree bytes n = record { never = λ v t. n.never (value_tree v) (as_tree v bytes t) }

pub text_no_value : (bytes : List ℕ) (t : TextTree) → TreeText t bytes → IsNone t → IsNoValue bytes
text_no_value bytes t is n = record { never = λ v has. n.never v has.has.written (one_tree t (value_tree v) bytes is (as_tree v bytes has)) }

pub text_too_high : (bytes : List ℕ) (t : TextTree) (v : Value) (low : Bool) → TreeText t bytes → IsValue t v → low ≡ nat_le (height v) HIGHEST_VALUE → low ≡ false → IsNoValue bytes
text_too_high bytes t v low is read test fails = record { never = go }
  where
    tall : (n : ℕ) → low ≡ nat_le n HIGHEST_VALUE → n ≤ HIGHEST_VALUE → ⊥
    tall n e h = grind arith

    go : (w : Value) → ValueText w bytes → ⊥
    go w has =
        let same = value_same v w read.fits has.has.written (sym read.is ∙ one_tree t (value_tree w) bytes is (as_tree w bytes has)) in
        tall (height v) test (subst (λ (x : Value). height x ≤ HIGHEST_VALUE) (sym same) has.has.height)

pub text_is_value : (bytes : List ℕ) (t : TextTree) (v : Value) (low : Bool) → TreeText t bytes → IsValue t v → low ≡ nat_le (height v) HIGHEST_VALUE → low ≡ true → ValueText v bytes
text_is_value bytes t v low is read test holds = record {
  has = record { height = short (height v) test; written = read.fits; tree = subst HasText read.is is.has };
  is = is.is ∙ ap text read.is;
}
  where
    short : (n : ℕ) → low ≡ nat_le n HIGHEST_VALUE → n ≤ HIGHEST_VALUE
    short n e = grind arith

pub passed_text : {X : Type 0} (P : X → Type 0) (bytes : List ℕ) (Q : Type 0) (fault : TextFault) (result : Result Value TextFault) → (Q → IsNoValue bytes) → Answers {T = X} (Err fault) P Q → result ≡ Err fault
    → Answers result (λ v. ValueText v bytes) (IsNoValue bytes)
passed_text P bytes Q (Malformed line) result n said is = subst (λ r. Answers r (λ v. ValueText v bytes) (IsNoValue bytes)) (sym is) (said.0, n said.1)
passed_text P bytes Q Memory result n said is = subst (λ r. Answers r (λ v. ValueText v bytes) (IsNoValue bytes)) (sym is) tt

-- ---- laws

pub one_value_text : OneValueText
one_value_text v bytes others p q = p.is ∙ sym q.is

pub one_value : OneValue
one_value v w bytes p q = value_same v w p.has.written q.has.written (one_tree (value_tree v) (value_tree w) bytes (as_tree v bytes p) (as_tree w bytes q))

pub no_value_begins_another : NoValueBeginsAnother
no_value_begins_another v w b c rest p q e f is =
    let trees = no_front_of_another (value_tree v) (value_tree w) b c rest p.tree q.tree e f is in
    (value_same v w p.written q.written trees.0, trees.1, trees.2)
