-- The order of values is total, and tells all values apart.
use Rattle.std.proofs.Common.{◌≡◌, refl, sym, ◌∙◌, ap, subst, ℕ, zero, suc, ◌+◌, ◌≤◌, List, [], ◌∷◌, map, Bool, true, false, arith}
use Rattle.std.specs.Prelude.{Some, None, ℤ, pos}
use Rattle.std.specs.Ordering.{ordering_then, nat_cmp, int_cmp, bool_cmp, then_cmp, on}
use Rattle.std.specs.Cmp.{IsTotalOrder}
use Rattle.std.specs.Cmp.Lexicographic.{slice_cmp}
use Rattle.std.specs.Cmp.Derive.Recursive.{limit_total}
use Rattle.std.proofs.lemmas.Cmp.{then_total, on_total, nat_cmp_total, int_cmp_total, lists_total, nat_list_cmp_total, tied_itself, ranked, int_ranked}
use Rattle.std.specs.declared.cmp.Ordering.{Ordering}
use Rattle.std.specs.declared.cmp.Ordering.TheVariants.{Less as Below, Equal, Greater}
use Rattle.st_il.specs.declared.value.Env.{Env}
use Rattle.st_il.specs.declared.value.Value.{Value, out-Value, roll-Value, out-roll-Value, roll-out-Value, fold-roll-Value, map-Value}
use Rattle.st_il.specs.declared.value.Value.TheOpen.{Value-F}
use Rattle.st_il.specs.Height.{height, height_at, highest}
use Rattle.st_il.specs.Order.{level_cmp, field_cmp, text_cmp, kind_of, value_cmp, values_cmp, env_cmp, IsOrder}
use Rattle.st_il.proofs.Induction.{Every, OfField, Parts, value-ind, every_value, every_field}
use Rattle.st_il.proofs.OrderLemmas.{value_cmp-levels}

-- ---- a level is ordered as its code is: the kind, a number, a text and parts with names

abbrev number_in : Value-F Value → ℤ
number_in (Value-F.Bool true) = pos 1
number_in (Value-F.Num number) = number
number_in _ = pos 0

abbrev text_in : Value-F Value → List ℕ
text_in (Value-F.Text text) = text
text_in (Value-F.Case tag parts) = tag
text_in _ = []

abbrev unnamed : List Value → List (List ℕ × Value)
unnamed = map (λ x. ([], x))

abbrev parts_in : Value-F Value → List (List ℕ × Value)
parts_in (Value-F.Case tag parts) = unnamed parts
parts_in (Value-F.Fields fields) = fields
parts_in (Value-F.Tuple parts) = unnamed parts
parts_in (Value-F.List parts) = unnamed parts
parts_in (Value-F.Opt (Some part)) = ([], part) ∷ []
parts_in _ = []

then_Equal : (o : Ordering) → ordering_then o Equal ≡ o
then_Equal Below = refl
then_Equal Equal = refl
then_Equal Greater = refl

module _ (R : Value → Value → Ordering) where
  abbrev code_cmp : Value-F Value → Value-F Value → Ordering
  code_cmp = then_cmp (on kind_of nat_cmp) (then_cmp (on number_in int_cmp) (then_cmp (on text_in text_cmp) (on parts_in (slice_cmp (field_cmp R)))))

  unnamed_cmp : (xs ys : List Value) → slice_cmp (field_cmp R) (unnamed xs) (unnamed ys) ≡ slice_cmp R xs ys
  unnamed_cmp [] [] = refl
  unnamed_cmp [] (y ∷ ys) = refl
  unnamed_cmp (x ∷ xs) [] = refl
  unnamed_cmp (x ∷ xs) (y ∷ ys) = ap (ordering_then (R x y)) (unnamed_cmp xs ys)

  code-is : (x y : Value-F Value) → code_cmp x y ≡ level_cmp R x y
  code-is (Value-F.Bool true) (Value-F.Bool true) = refl
  code-is (Value-F.Bool true) (Value-F.Bool false) = refl
  code-is (Value-F.Bool false) (Value-F.Bool true) = refl
  code-is (Value-F.Bool false) (Value-F.Bool false) = refl
  code-is (Value-F.Num number) (Value-F.Num other) = then_Equal (int_cmp number other)
  code-is (Value-F.Text text) (Value-F.Text other) = then_Equal (text_cmp text other)
  code-is (Value-F.Case tag xs) (Value-F.Case other ys) = ap (ordering_then (text_cmp tag other)) (unnamed_cmp xs ys)
  code-is (Value-F.Fields xs) (Value-F.Fields ys) = refl
  code-is (Value-F.Tuple xs) (Value-F.Tuple ys) = unnamed_cmp xs ys
  code-is (Value-F.List xs) (Value-F.List ys) = unnamed_cmp xs ys
  code-is (Value-F.Opt None) (Value-F.Opt None) = refl
  code-is (Value-F.Opt None) (Value-F.Opt (Some y)) = refl
  code-is (Value-F.Opt (Some x)) (Value-F.Opt None) = refl
  code-is (Value-F.Opt (Some x)) (Value-F.Opt (Some y)) = then_Equal (R x y)
  code-is _ _ = refl

  fields_total : IsTotalOrder R → IsTotalOrder (field_cmp R)
  fields_total total = then_total (on_total (λ (x : List ℕ × Value). x.0) nat_list_cmp_total) (on_total (λ (x : List ℕ × Value). x.1) total)

  level_total : IsTotalOrder R → IsTotalOrder (level_cmp R)
  level_total total =
      let parts : IsTotalOrder (on parts_in (slice_cmp (field_cmp R))) = on_total parts_in (lists_total (fields_total total)) in
      let code : IsTotalOrder code_cmp = then_total (on_total kind_of nat_cmp_total) (then_total (on_total number_in int_cmp_total) (then_total (on_total text_in nat_list_cmp_total) parts)) in
      subst IsTotalOrder (λ i x y. code-is x y i) code

-- ---- the order of values is what orders by more and more levels come to

abbrev levels_cmp : ℕ → Value → Value → Ordering
levels_cmp zero x y = Equal
levels_cmp (suc n) x y = level_cmp (levels_cmp n) (out-Value x) (out-Value y)

no_levels_total : IsTotalOrder (levels_cmp zero)
no_levels_total = record { antisymm = λ x y. refl; trans = λ x y z e f. absurd (cc); congr = λ x y z e. refl }

levels_total : (n : ℕ) → IsTotalOrder (levels_cmp n)
levels_total zero = no_levels_total
levels_total (suc n) = on_total out-Value (level_total (levels_cmp n) (levels_total n))

abbrev Settles : Value → Type 0
Settles x = (n : ℕ) (y : Value) → height x ≤ n → levels_cmp n x y ≡ value_cmp x y

parts_settle : (n : ℕ) (xs ys : List Value) → Every Settles xs → highest (map height xs) ≤ n → slice_cmp (levels_cmp n) xs ys ≡ values_cmp xs ys
parts_settle n [] [] h k = refl
parts_settle n [] (y ∷ ys) h k = refl
parts_settle n (x ∷ xs) [] h k = refl
parts_settle n (x ∷ xs) (y ∷ ys) h k =
    let first : height x ≤ n = omega arith in
    let rest : highest (map height xs) ≤ n = omega arith in
    (λ i. ordering_then (h.0 n y first i) (parts_settle n xs ys h.1 rest i))

abbrev heights_in : List (List ℕ × Value) → List ℕ
heights_in xs = map (λ (x : List ℕ × ℕ). x.1) (map (λ (x : List ℕ × Value). (x.0, height x.1)) xs)

fields_settle : (n : ℕ) (xs ys : List (List ℕ × Value)) → Every (OfField Settles) xs → highest (heights_in xs) ≤ n
    → slice_cmp (field_cmp (levels_cmp n)) xs ys ≡ slice_cmp (field_cmp value_cmp) xs ys
fields_settle n [] [] h k = refl
fields_settle n [] (y ∷ ys) h k = refl
fields_settle n (x ∷ xs) [] h k = refl
fields_settle n (x ∷ xs) (y ∷ ys) h k =
    let first : height x.1 ≤ n = omega arith in
    let rest : highest (heights_in xs) ≤ n = omega arith in
    (λ i. ordering_then (ordering_then (text_cmp x.0 y.0) (h.0 n y.1 first i)) (fields_settle n xs ys h.1 rest i))

level_settles : (n : ℕ) (x y : Value-F Value) → Parts Settles x → height_at (map-Value Value ℕ height x) ≤ n + 1 → level_cmp (levels_cmp n) x y ≡ level_cmp value_cmp x y
level_settles n (Value-F.Case tag xs) (Value-F.Case other ys) h k = ap (ordering_then (text_cmp tag other)) (parts_settle n xs ys h (omega arith))
level_settles n (Value-F.Fields xs) (Value-F.Fields ys) h k = fields_settle n xs ys h (omega arith)
level_settles n (Value-F.Tuple xs) (Value-F.Tuple ys) h k = parts_settle n xs ys h (omega arith)
level_settles n (Value-F.List xs) (Value-F.List ys) h k = parts_settle n xs ys h (omega arith)
level_settles n (Value-F.Opt None) (Value-F.Opt None) h k = refl
level_settles n (Value-F.Opt None) (Value-F.Opt (Some y)) h k = refl
level_settles n (Value-F.Opt (Some x)) (Value-F.Opt None) h k = refl
level_settles n (Value-F.Opt (Some x)) (Value-F.Opt (Some y)) h k = h n y (omega arith)
level_settles n _ _ h k = refl

height-positive : (x : Value-F ℕ) → 1 ≤ height_at x
height-positive (Value-F.Opt None) = omega arith
height-positive (Value-F.Opt (Some x)) = omega arith
height-positive _ = omega arith

value_settles : (x : Value-F Value) → Parts Settles x → Settles (roll-Value x)
value_settles x h zero y k =
    let e : height (roll-Value x) ≡ height_at (map-Value Value ℕ height x) = fold-roll-Value ℕ height_at x in
    absurd (omega (arith, height-positive (map-Value Value ℕ height x)))
value_settles x h (suc n) y k =
    let e : height (roll-Value x) ≡ height_at (map-Value Value ℕ height x) = fold-roll-Value ℕ height_at x in
    ap (λ z. level_cmp (levels_cmp n) z (out-Value y)) (out-roll-Value x)
    ∙ level_settles n x (out-Value y) h (omega arith)
    ∙ sym (value_cmp-levels (roll-Value x) y ∙ ap (λ z. level_cmp value_cmp z (out-Value y)) (out-roll-Value x))

settles : (x : Value) → Settles x
settles = value-ind Settles value_settles

pub value_cmp_total : IsTotalOrder value_cmp
value_cmp_total = limit_total height levels_cmp value_cmp (λ n x y h k. settles x n y (omega arith)) levels_total

-- ---- it answers Equal at equal values alone

abbrev IsExact : Value → Type 0
IsExact x = (y : Value) → value_cmp x y ≡ Equal → x ≡ y

both_equal : (o p : Ordering) → ordering_then o p ≡ Equal → (o ≡ Equal) × (p ≡ Equal)
both_equal Below p e = absurd (cc)
both_equal Equal p e = (refl, e)
both_equal Greater p e = absurd (cc)

bool-exact : (b c : Bool) → bool_cmp b c ≡ Equal → b ≡ c
bool-exact true true e = refl
bool-exact true false e = absurd (cc)
bool-exact false true e = absurd (cc)
bool-exact false false e = refl

int-exact : (m n : ℤ) → int_cmp m n ≡ Equal → m ≡ n
int-exact m n e = int_ranked m n Equal (sym e)

text-exact : (s t : List ℕ) → text_cmp s t ≡ Equal → s ≡ t
text-exact [] [] e = refl
text-exact [] (y ∷ ys) e = absurd (cc)
text-exact (x ∷ xs) [] e = absurd (cc)
text-exact (x ∷ xs) (y ∷ ys) e =
    let b = both_equal (nat_cmp x y) (text_cmp xs ys) e in
    let first : x ≡ y = ranked x y Equal (sym b.0) in
    let rest : xs ≡ ys = text-exact xs ys b.1 in
    cc

pub parts-exact : (xs ys : List Value) → Every IsExact xs → values_cmp xs ys ≡ Equal → xs ≡ ys
parts-exact [] [] h e = refl
parts-exact [] (y ∷ ys) h e = absurd (cc)
parts-exact (x ∷ xs) [] h e = absurd (cc)
parts-exact (x ∷ xs) (y ∷ ys) h e =
    let b = both_equal (value_cmp x y) (values_cmp xs ys) e in
    let first : x ≡ y = h.0 y b.0 in
    let rest : xs ≡ ys = parts-exact xs ys h.1 b.1 in
    cc

fields-exact : (xs ys : List (List ℕ × Value)) → Every (OfField IsExact) xs → slice_cmp (field_cmp value_cmp) xs ys ≡ Equal → xs ≡ ys
fields-exact [] [] h e = refl
fields-exact [] (y ∷ ys) h e = absurd (cc)
fields-exact (x ∷ xs) [] h e = absurd (cc)
fields-exact (x ∷ xs) (y ∷ ys) h e =
    let b = both_equal (field_cmp value_cmp x y) (slice_cmp (field_cmp value_cmp) xs ys) e in
    let d = both_equal (text_cmp x.0 y.0) (value_cmp x.1 y.1) b.0 in
    let name : x.0 ≡ y.0 = text-exact x.0 y.0 d.0 in
    let value : x.1 ≡ y.1 = h.0 y.1 d.1 in
    let rest : xs ≡ ys = fields-exact xs ys h.1 b.1 in
    (λ i. (name i, value i) ∷ rest i)

level-exact : (x y : Value-F Value) → Parts IsExact x → level_cmp value_cmp x y ≡ Equal → x ≡ y
level-exact (Value-F.Bool truth) (Value-F.Bool other) h e = ap Value-F.Bool (bool-exact truth other e)
level-exact (Value-F.Num number) (Value-F.Num other) h e = ap Value-F.Num (int-exact number other e)
level-exact (Value-F.Text text) (Value-F.Text other) h e = ap Value-F.Text (text-exact text other e)
level-exact (Value-F.Case tag xs) (Value-F.Case other ys) h e =
    let b = both_equal (text_cmp tag other) (values_cmp xs ys) e in
    let tags : tag ≡ other = text-exact tag other b.0 in
    let parts : xs ≡ ys = parts-exact xs ys h b.1 in
    cc
level-exact (Value-F.Fields xs) (Value-F.Fields ys) h e = ap Value-F.Fields (fields-exact xs ys h e)
level-exact (Value-F.Tuple xs) (Value-F.Tuple ys) h e = ap Value-F.Tuple (parts-exact xs ys h e)
level-exact (Value-F.List xs) (Value-F.List ys) h e = ap Value-F.List (parts-exact xs ys h e)
level-exact (Value-F.Opt None) (Value-F.Opt None) h e = refl
level-exact (Value-F.Opt (Some x)) (Value-F.Opt (Some y)) h e = ap (λ z. Value-F.Opt (Some z)) (h y e)
level-exact _ _ h e = absurd (cc)

pub value_cmp-exact : (x : Value) → IsExact x
value_cmp-exact = value-ind IsExact (λ x h y e.
    ap roll-Value (level-exact x (out-Value y) h (sym (value_cmp-levels (roll-Value x) y ∙ ap (λ z. level_cmp value_cmp z (out-Value y)) (out-roll-Value x)) ∙ e)) ∙ roll-out-Value y)

pub value_cmp_order : IsOrder value_cmp
value_cmp_order = record {
  total = value_cmp_total;
  equal = λ x y. (value_cmp-exact x y, λ e. subst (λ z. value_cmp x z ≡ Equal) e (tied_itself value_cmp_total x));
}

pub values_cmp_order : IsOrder values_cmp
values_cmp_order = record {
  total = lists_total value_cmp_total;
  equal = λ xs ys. (parts-exact xs ys (every_value IsExact value_cmp-exact xs), λ e. subst (λ z. values_cmp xs z ≡ Equal) e (tied_itself (lists_total value_cmp_total) xs));
}

env_cmp_total : IsTotalOrder env_cmp
env_cmp_total = on_total (λ (env : Env). env.entries) (lists_total (fields_total value_cmp value_cmp_total))

env-exact : (a b : Env) → a.entries ≡ b.entries → a ≡ b
env-exact a b e = ap (λ z. record { entries = z }) e

pub env_cmp_order : IsOrder env_cmp
env_cmp_order = record {
  total = env_cmp_total;
  equal = λ a b. (
    λ e. env-exact a b (fields-exact a.entries b.entries (every_field IsExact value_cmp-exact a.entries) e),
    λ e. subst (λ z. env_cmp a z ≡ Equal) e (tied_itself env_cmp_total a),
  );
}
