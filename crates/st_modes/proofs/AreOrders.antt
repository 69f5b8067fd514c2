-- The orders of several rules, one after another, and those of the rules of a relation.
use Rattle.std.proofs.Common.{◌≡◌, ◌≢◌, refl, sym, ◌∙◌, ap, ap₂, subst, ℕ, ◌+◌, ◌<◌, ◌^◌, Bool, true, false, true≢false, if◌then◌else◌, List, [], ◌∷◌, ◌++◌, append_assoc, length, get_or, take, map, bytes_eq, Option, Some, None, Result, Ok, Err, All, is_some, IsTrue, ◌↔◌}
use Rattle.std.specs.Prelude.{unwrap_or, option_and_then}
use Rattle.std.specs.Borrow.{Bor}
use Rattle.std.specs.Result.{result_ok}
use Rattle.std.proofs.lemmas.List.{map-append, take_more}
use Rattle.std.proofs.lemmas.List.Elements.{All-nil, All-cons, All-head, All-tail, All-push}
use Rattle.st_il.specs.declared.definition.Il.{Il}
use Rattle.st_il.specs.declared.definition.RelationDef.{RelationDef}
use Rattle.st_il.specs.declared.definition.RuleDef.{RuleDef}
use Rattle.st_semantics.specs.declared.unfit.Unfit.{Unfit}
use Rattle.st_semantics.specs.declared.unfit.Unfit.TheVariants as unfit
use Rattle.st_semantics.specs.declared.unfit.Unordered.{Unordered}
use Rattle.st_il.specs.Names.{Name}
use Rattle.st_il.specs.Definitions.{rules_in, rules_from, rules_of, IsFirst}
use Rattle.st_semantics.specs.Directions.{direction}
use Rattle.st_semantics.specs.OrderOf.{order_of}
use Rattle.st_semantics.specs.Marks.{rule_name_of, full_name, IsUnordered, HasOwn}
use Rattle.st_modes.specs.declared.all_orders.Ordered.{Ordered}
use Rattle.st_modes.specs.declared.indexed.Indexed.{Indexed}
use Rattle.st_order.specs.Modes.{order_in}
use Rattle.st_order.specs.Known.{all_now, at}
use Rattle.st_modes.specs.inner.Needs.{IsIndexed}
use Rattle.st_modes.specs.inner.Orders.{first_mark, no_order, IsUnorderedMark, AreOrders, IsOrdered, HasOrderMark, HasOrders}
use Rattle.st_order.proofs.RuleParts.{all_now_append}

-- ---- full names

pub named_alone : (relation name : Name) → name ≡ [] → relation ≡ rule_name_of relation name
named_alone relation name e = ap (rule_name_of relation) (sym e)

pub named_behind : (relation name : Name) → (name ≡ [] → ⊥) → (relation ++ 47 ∷ []) ++ name ≡ rule_name_of relation name
named_behind relation [] n = absurd (n refl)
named_behind relation (b ∷ bs) n = refl

-- what is not empty, by its test
pub not_empty : (b : Bool) (xs : Name) → IsTrue b ↔ (xs ≡ []) → b ≡ false → xs ≡ [] → ⊥
not_empty true xs h e none = true≢false e
not_empty false xs h e none = true≢false (sym (h.1 none))

-- ---- one more rule

module _ {A : Type 0} (P : A → Type 0) where
  -- one more behind the first
  first_before : (xs : List A) (x y : A) → IsFirst P xs x → IsFirst P (xs ++ y ∷ []) x
  first_before xs x y f = record {
    before = f.before;
    after = f.after ++ y ∷ [];
    split = ap (λ z. z ++ y ∷ []) f.split ∙ append_assoc f.before (x ∷ f.after) (y ∷ []);
    not_before = f.not_before;
    holds = f.holds;
  }

-- what is referred to by one more
pub all_now_next : {A : Type 0} (xs : List (Bor A)) (i : ℕ) (x : Bor A) → i < length xs → x ≡ get_or xs i x → all_now (take i xs) ++ x.now ∷ [] ≡ all_now (take (i + 1) xs)
all_now_next xs i x within is =
    sym (ap all_now (take_more xs i x within ∙ ap (λ z. take i xs ++ z ∷ []) (sym is)) ∙ all_now_append (take i xs) (x ∷ []))

module _ (il : Il) where
  abbrev the_order : RuleDef → Option (List ℕ)
  the_order rule = result_ok (order_of il rule)

  abbrev HasOrder : RuleDef → Type 0
  HasOrder rule = IsUnordered il rule → ⊥

  marks_ordered : (rules : List RuleDef) (r : RuleDef) (numbers : List ℕ) → order_of il r ≡ Ok numbers → (mark : Option Unfit) → IsUnorderedMark il rules mark → IsUnorderedMark il (rules ++ r ∷ []) mark
  marks_ordered rules r numbers e None h = All-push HasOrder rules r h (λ u. let bad : Ok numbers ≡ Err u.0 = sym e ∙ u.1 in cc)
  marks_ordered rules r numbers e (Some mark) h = (h.0, h.1, first_before (IsUnordered il) rules h.0 r h.2, h.3, h.4)

  marks_unordered : (rules : List RuleDef) (r : RuleDef) (fault : Unordered) → order_of il r ≡ Err fault → (old : Option Unfit) → IsUnorderedMark il rules old
      → IsUnorderedMark il (rules ++ r ∷ []) (first_mark old (unfit.U2 (full_name r) fault.premise fault.variable))
  marks_unordered rules r fault e None h =
      (r, fault, record { before = rules; after = []; split = refl; not_before = h; holds = (fault, e) }, e, refl)
  marks_unordered rules r fault e (Some mark) h = (h.0, h.1, first_before (IsUnordered il) rules h.0 r h.2, h.3, h.4)

  orders_next : (rules : List RuleDef) (r : RuleDef) (old new : List (Option (List ℕ))) (o : Option (List ℕ)) → old ≡ map the_order rules → new ≡ old ++ o ∷ [] → o ≡ the_order r
      → new ≡ map the_order (rules ++ r ∷ [])
  orders_next rules r old new o h n is = n ∙ ap₂ (λ a b. a ++ b ∷ []) h is ∙ sym (map-append the_order rules (r ∷ []))

  pub adds_ordered : (rules : List RuleDef) (r : RuleDef) (old new : Ordered) (order : Result (List ℕ) Unordered) (numbers : List ℕ) → order ≡ order_of il r → order ≡ Ok numbers
      → new.orders ≡ old.orders ++ Some numbers ∷ [] → new.mark ≡ old.mark → AreOrders il rules old → AreOrders il (rules ++ r ∷ []) new
  adds_ordered rules r old new order numbers a is n m h =
      let e : order_of il r ≡ Ok numbers = sym a ∙ is in
      record {
        orders = orders_next rules r old.orders new.orders (Some numbers) h.orders n (ap result_ok (sym e));
        mark = subst (IsUnorderedMark il (rules ++ r ∷ [])) (sym m) (marks_ordered rules r numbers e old.mark h.mark);
      }

  pub adds_unordered : (rules : List RuleDef) (r : RuleDef) (old new : Ordered) (order : Result (List ℕ) Unordered) (fault : Unordered) → order ≡ order_of il r → order ≡ Err fault
      → new.orders ≡ old.orders ++ None ∷ [] → new.mark ≡ first_mark old.mark (unfit.U2 (full_name r) fault.premise fault.variable) → AreOrders il rules old → AreOrders il (rules ++ r ∷ []) new
  adds_unordered rules r old new order fault a is n m h =
      let e : order_of il r ≡ Err fault = sym a ∙ is in
      record {
        orders = orders_next rules r old.orders new.orders None h.orders n (ap result_ok (sym e));
        mark = subst (IsUnorderedMark il (rules ++ r ∷ [])) (sym m) (marks_unordered rules r fault e old.mark h.mark);
      }

  pub no_rules : (found : Ordered) → found.orders ≡ [] → found.mark ≡ None → AreOrders il [] found
  no_rules found o m = record { orders = o; mark = subst (IsUnorderedMark il []) (sym m) (All-nil HasOrder) }

-- ---- the rules of a relation

map_same : {A B : Type 0} (f g : A → B) → ((x : A) → f x ≡ g x) → (xs : List A) → map f xs ≡ map g xs
map_same f g h [] = refl
map_same f g h (x ∷ xs) = ap₂ (λ a b. a ∷ b) (h x) (map_same f g h xs)

module _ (il : Il) (relation : RelationDef) where
  abbrev those : List RuleDef
  those = rules_of il relation.name

  own_mark : direction relation ≢ None → (mark : Option Unfit) → IsUnorderedMark il those mark → HasOrderMark il relation mark
  own_mark n None h = (n, h)
  own_mark n (Some mark) h = HasOwn.u2 h.0 h.1 n h.2 h.3 h.4

  pub has_orders : (directed : Bool) (rules : List RuleDef) (found : Ordered) → directed ≡ is_some (direction relation) → rules ≡ those → IsOrdered il directed rules found → HasOrders il relation found
  has_orders directed rules found d are h = by (direction relation) refl directed d (subst (λ z. IsOrdered il directed z found) are h)
    where
      by : (o : Option (List Bool)) → direction relation ≡ o → (directed : Bool) → directed ≡ is_some o → IsOrdered il directed those found → HasOrders il relation found
      by None e true d h = absurd (true≢false d)
      by None e false d h = record {
        orders = h.0 ∙ map_same no_order (order_in il relation) (λ rule. ap (λ o. option_and_then (λ (inputs : List Bool). the_order il rule) o) (sym e)) those;
        mark = subst (HasOrderMark il relation) (sym h.1) (HasOwn.u1 e refl);
      }
      by (Some inputs) e true d h = record {
        orders = h.orders ∙ map_same (the_order il) (order_in il relation) (λ rule. ap (λ o. option_and_then (λ (inputs : List Bool). the_order il rule) o) (sym e)) those;
        mark = own_mark (λ none. let bad : Some inputs ≡ None = sym e ∙ none in cc) found.mark h.mark;
      }
      by (Some inputs) e false d h = absurd (true≢false (sym d))

-- ---- the rules that stand under a name

few_from : (P : RuleDef → Type 0) (name : Name) (rs : List RuleDef) → All P rs → All P (rules_from name rs)
few_from P name [] h = All-nil P
few_from P name (r ∷ rs) h = by (bytes_eq name r.relation) (few_from P name rs (All-tail P r rs h))
  where
    by : (b : Bool) → All P (rules_from name rs) → All P (if b then r ∷ rules_from name rs else rules_from name rs)
    by true more = All-cons P r (rules_from name rs) (All-head P r rs h) more
    by false more = more

of_references : {A : Type 0} (P : A → Type 0) (rs : List (Bor A)) → All P (all_now rs) → All (λ (r : Bor A). P r.now) rs
of_references P [] h = All-nil (λ r. P r.now)
of_references P (r ∷ rs) h = All-cons (λ r. P r.now) r rs (All-head P r.now (all_now rs) h) (of_references P rs (All-tail P r.now (all_now rs) h))

module _ (x : Indexed) (h : IsIndexed x) (name : Name) where
  abbrev rules_there : List RuleDef
  rules_there = rules_of x.directions.il.now name

  pub rules_are : (o : Option (List (Bor RuleDef))) → at x.citations.rules.entries name ≡ o → all_now (unwrap_or o []) ≡ rules_there
  rules_are o e = ap (λ o. all_now (unwrap_or o [])) (sym e) ∙ h.read.rules name

  pub few_under : (rules : List (Bor RuleDef)) → all_now rules ≡ rules_there → All (λ (r : Bor RuleDef). length r.now.premises < 2 ^ 32) rules
  few_under rules are =
      of_references (λ (r : RuleDef). length r.premises < 2 ^ 32) rules
      (subst (All (λ (r : RuleDef). length r.premises < 2 ^ 32)) (sym are) (few_from (λ (r : RuleDef). length r.premises < 2 ^ 32) name (rules_in x.directions.il.now.defs) h.few))
