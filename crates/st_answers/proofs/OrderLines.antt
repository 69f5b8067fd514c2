-- The lines of the orders of rules.
use Rattle.std.proofs.Common.{◌≡◌, ◌≢◌, refl, sym, ◌∙◌, ap, subst, ℕ, zero, suc, ◌+◌, ◌<◌, ◌≤◌, ◌^◌, Bool, true, false, true≢false, if◌then◌else◌, List, [], ◌∷◌, ◌++◌, length, map, take, get_or, append_assoc, append-nil, add-one, bytes_eq, codes, arith}
use Rattle.std.specs.Prelude.{Option, Some, None, Result, Ok, Err, flat_map, option_and_then, unwrap_or}
use Rattle.std.specs.Borrow.{Bor}
use Rattle.std.specs.List.{AllZip}
use Rattle.std.specs.Option.{option_copied}
use Rattle.std.specs.Result.{result_ok}
use Rattle.std.proofs.Math.Seq.{take-suc}
use Rattle.std.proofs.lemmas.Grind.{flat_map-append}
use Rattle.std.proofs.lemmas.List.{length-map, get_or-map, take_all}
use Rattle.std.proofs.lemmas.List.Elements.{All-cons, All-head, All-tail}
use Rattle.st_il.specs.declared.definition.Il.{Il}
use Rattle.st_il.specs.declared.definition.IlDef.{IlDef}
use Rattle.st_il.specs.declared.definition.IlDef.TheVariants.{Syntax, Var, Relation, Rule, Fun, Clause}
use Rattle.st_il.specs.declared.definition.RelationDef.{RelationDef}
use Rattle.st_il.specs.declared.definition.RuleDef.{RuleDef}
use Rattle.st_order.specs.declared.relation_modes.Modes.{Modes}
use Rattle.st_order.specs.Modes.{HasFew, AreModes, orders_in}
use Rattle.st_modes.specs.inner.Citations.{rules_under}
use Rattle.st_order.specs.Known.{all_now, at}
use Rattle.st_semantics.specs.declared.unfit.Unfit.{Unfit}
use Rattle.st_semantics.specs.declared.unfit.Unfit.TheVariants as unfit
use Rattle.st_semantics.specs.declared.unfit.Unordered.{Unordered}
use Rattle.st_il.specs.Names.{Name}
use Rattle.st_il.specs.Definitions.{relations, relations_in, rules_in, rules_of, rules_from}
use Rattle.st_semantics.specs.Directions.{direction}
use Rattle.st_semantics.specs.Marks.{rule_name_of, HasOwn, HasUnfit}
use Rattle.st_semantics.specs.OrderOf.{order_of}
use Rattle.st_answers.specs.OrderTexts.{rule_line, lines_by, relation_lines}
use Rattle.st_answers.specs.RefusalTexts.{part_words}
use Rattle.st_answers.specs.inner.Relations.{HaveFew, order_of_rule}

-- ---- names and orders

-- the full name of a rule is that of its relation and its own part
pub full_name_parts : (relation name : Name) → relation ++ part_words name ≡ rule_name_of relation name
full_name_parts relation [] = append-nil relation
full_name_parts relation (byte ∷ name) = sym (append_assoc relation (codes "/") (byte ∷ name))

-- where there is an order, it is what is answered
pub is_ordered : (order : Result (List ℕ) Unordered) (numbers : List ℕ) → Some numbers ≡ result_ok order → order ≡ Ok numbers
is_ordered (Ok found) numbers is = ap is_found (sym is)
  where
    is_found : Option (List ℕ) → Result (List ℕ) Unordered
    is_found (Some xs) = Ok xs
    is_found None = Ok []
is_ordered (Err fault) numbers is = absurd (true≢false (ap is_there is))
  where
    is_there : Option (List ℕ) → Bool
    is_there (Some xs) = true
    is_there None = false

-- ---- lines one behind another

-- what is told of one member more
pub one_more : {A : Type 0} (f : A → List ℕ) (xs : List A) (k : ℕ) (x : A) (old now new : List ℕ) → k < length xs → x ≡ get_or xs k x → now ≡ old ++ flat_map f (take k xs) → new ≡ now ++ f x
    → new ≡ old ++ flat_map f (take (k + 1) xs)
one_more f xs k x old now new within is so_far added =
    let front : take (k + 1) xs ≡ take k xs ++ x ∷ [] = ap (λ n. take n xs) (add-one k) ∙ take-suc xs k x within ∙ ap (λ y. take k xs ++ y ∷ []) (sym is) in
    added ∙ ap (λ bytes. bytes ++ f x) so_far ∙ append_assoc old (flat_map f (take k xs)) (f x)
    ∙ ap (λ bytes. old ++ (flat_map f (take k xs) ++ bytes)) (sym (append-nil (f x)))
    ∙ ap (λ bytes. old ++ bytes) (sym (flat_map-append f (take k xs) (x ∷ []))) ∙ ap (λ ys. old ++ flat_map f ys) (sym front)

-- the member that a reference among others refers to
pub now_at : {A : Type 0} (rs : List (Bor A)) (k : ℕ) (r d : Bor A) → r ≡ get_or rs k d → r.now ≡ get_or (all_now rs) k d.now
now_at {A = A} [] k r d is = ap (λ (x : Bor A). x.now) is
now_at {A = A} (x ∷ rs) zero r d is = ap (λ (y : Bor A). y.now) is
now_at (x ∷ rs) (suc k) r d is = now_at rs k r d is

pub now_long : {A : Type 0} (rs : List (Bor A)) → length (all_now rs) ≡ length rs
now_long {A = A} rs = length-map rs (λ (r : Bor A). r.now)

-- ---- marks

abbrev is_u1 : Option Unfit → Bool
is_u1 (Some unfit.U1) = true
is_u1 (Some (unfit.U2 rule premise variable)) = false
is_u1 (Some (unfit.U3 fun)) = false
is_u1 (Some (unfit.U4 relation)) = false
is_u1 None = false

own_u1 : (il : Il) (r : RelationDef) (one : Unfit) → HasOwn il r one → one ≡ unfit.U1 → direction r ≡ None
own_u1 il r one (HasOwn.u1 none is) e = none
own_u1 il r one (HasOwn.u2 rule fault some first ordered is) e = absurd (true≢false (sym (ap (λ m. is_u1 (Some m)) e) ∙ ap (λ m. is_u1 (Some m)) is))
own_u1 il r one (HasOwn.u3 fun some ordered first is) e = absurd (true≢false (sym (ap (λ m. is_u1 (Some m)) e) ∙ ap (λ m. is_u1 (Some m)) is))

-- a relation with the mark U1 has no direction
pub undirected : (il : Il) (r : RelationDef) (mark : Option Unfit) → HasUnfit il r mark → mark ≡ Some unfit.U1 → direction r ≡ None
undirected il r mark (HasUnfit.own one has is) e = own_u1 il r one has (first_of one (sym is ∙ e))
  where
    told : Option Unfit → Unfit
    told (Some m) = m
    told None = unfit.U1

    first_of : (m : Unfit) → Some m ≡ Some unfit.U1 → m ≡ unfit.U1
    first_of m same = ap told same
undirected il r mark (HasUnfit.u4 other fit first is) e = absurd (true≢false (sym (ap is_u1 e) ∙ ap is_u1 is))
undirected il r mark (HasUnfit.none fit all is) e = absurd (true≢false (sym (ap is_u1 e) ∙ ap is_u1 is))

only_undirected : (il : Il) (r : RelationDef) (mark : Option Unfit) → HasUnfit il r mark → direction r ≡ None → mark ≡ Some unfit.U1
only_undirected il r mark (HasUnfit.own one (HasOwn.u1 none is) marked) e = marked ∙ ap Some is
only_undirected il r mark (HasUnfit.own one (HasOwn.u2 rule fault some first ordered is) marked) e = absurd (some e)
only_undirected il r mark (HasUnfit.own one (HasOwn.u3 fun some ordered first is) marked) e = absurd (some e)
only_undirected il r mark (HasUnfit.u4 other fit first is) e = absurd (fit (unfit.U1, HasOwn.u1 e refl))
only_undirected il r mark (HasUnfit.none fit all is) e = absurd (fit (unfit.U1, HasOwn.u1 e refl))

-- a relation with another mark, or none, has one
pub directed : (il : Il) (r : RelationDef) (mark : Option Unfit) → HasUnfit il r mark → mark ≢ Some unfit.U1 → (inputs : List Bool) × (direction r ≡ Some inputs)
directed il r mark has other = by (direction r) refl
  where
    by : (d : Option (List Bool)) → direction r ≡ d → (inputs : List Bool) × (direction r ≡ Some inputs)
    by (Some inputs) e = (inputs, e)
    by None e = absurd (other (only_undirected il r mark has e))

-- ---- what is told of a relation

-- the rules of a relation are no more than all rules
abbrev IsFew : RuleDef → Type 0
IsFew rule = length rule.premises < 2 ^ 32

pub few_of : (name : Name) (rules : List RuleDef) → HaveFew rules → HaveFew (rules_from name rules)
few_of name [] few = few
few_of name (rule ∷ rules) few = by (bytes_eq name rule.relation) (few_of name rules (All-tail IsFew rule rules few))
  where
    by : (b : Bool) → HaveFew (rules_from name rules) → HaveFew (if b then rule ∷ rules_from name rules else rules_from name rules)
    by true more = All-cons IsFew rule (rules_from name rules) (All-head IsFew rule rules few) more
    by false more = more

-- the orders of a relation with a direction are those of its rules
pub orders_directed : (il : Il) (r : RelationDef) (inputs : List Bool) → direction r ≡ Some inputs → orders_in il r ≡ map (order_of_rule il) (rules_of il r.name)
orders_directed il r inputs is = ap (λ d. map (λ (rule : RuleDef). option_and_then (λ (mask : List Bool). result_ok (order_of il rule)) d) (rules_of il r.name)) is

lines_directed : (il : Il) (r : RelationDef) (inputs : List Bool) → direction r ≡ Some inputs
    → relation_lines il r ≡ r.name ++ codes " directed\n" ++ flat_map (rule_line il) (rules_of il r.name)
lines_directed il r inputs is = ap (lines_by il r) is

-- the lines of a relation that has no direction
pub undirected_lines : (il : Il) (r : RelationDef) (mark : Option Unfit) (name old between new : List ℕ) → HasUnfit il r mark → mark ≡ Some unfit.U1 → name ≡ r.name → between ≡ old ++ name
    → new ≡ between ++ codes " U1\n" → new ≡ old ++ relation_lines il r
undirected_lines il r mark name old between new has e named first last =
    last ∙ ap (λ bytes. bytes ++ codes " U1\n") (first ∙ ap (λ n. old ++ n) named) ∙ append_assoc old r.name (codes " U1\n")
    ∙ ap (λ bytes. old ++ bytes) (sym (ap (lines_by il r) (undirected il r mark has e)))

-- the lines of one that has a direction
pub directed_lines : (il : Il) (r : RelationDef) (mark : Option Unfit) (rules : List RuleDef) (name old between front new : List ℕ) → HasUnfit il r mark → mark ≢ Some unfit.U1 → name ≡ r.name
    → between ≡ old ++ name → front ≡ between ++ codes " directed\n" → rules ≡ rules_of il r.name → new ≡ front ++ flat_map (rule_line il) rules → new ≡ old ++ relation_lines il r
directed_lines il r mark rules name old between front new has other named first second are last =
    let found = directed il r mark has other in
    last ∙ ap (λ rs. front ++ flat_map (rule_line il) rs) are
    ∙ ap (λ bytes. bytes ++ flat_map (rule_line il) (rules_of il r.name)) (second ∙ ap (λ bytes. bytes ++ codes " directed\n") (first ∙ ap (λ n. old ++ n) named))
    ∙ ap (λ bytes. bytes ++ flat_map (rule_line il) (rules_of il r.name)) (append_assoc old r.name (codes " directed\n"))
    ∙ append_assoc old (r.name ++ codes " directed\n") (flat_map (rule_line il) (rules_of il r.name)) ∙ ap (λ bytes. old ++ bytes) (sym (lines_directed il r found.0 found.1))

-- the orders of a relation that has a direction, and its rules, are short enough
pub orders_known : (il : Il) (r : RelationDef) (mark : Option Unfit) (rules : List RuleDef) (orders : List (Option (List ℕ))) → HasUnfit il r mark → mark ≢ Some unfit.U1 → rules ≡ rules_of il r.name
    → orders ≡ orders_in il r → orders ≡ map (order_of_rule il) rules
orders_known il r mark rules orders has other are is =
    let found = directed il r mark has other in is ∙ orders_directed il r found.0 found.1 ∙ ap (map (order_of_rule il)) (sym are)

pub few_known : (il : Il) (name : Name) (rules : List RuleDef) → rules ≡ rules_of il name → HaveFew (rules_in il.defs) → HaveFew rules
few_known il name rules are few = subst HaveFew (sym are) (few_of name (rules_in il.defs) few)

-- ---- rules among others

pub few_at : (rs : List (Bor RuleDef)) (k : ℕ) (r : Bor RuleDef) → HaveFew (all_now rs) → k < length rs → r ≡ get_or rs k r → length r.now.premises < 2 ^ 32
few_at rs k r few within is =
    let there : k < length (all_now rs) = omega (arith, within, now_long rs) in
    subst (λ (x : RuleDef). length x.premises < 2 ^ 32) (sym (now_at rs k r r is)) (few k r.now there)

pub order_at : (il : Il) (rs : List (Bor RuleDef)) (orders : List (Option (List ℕ))) (k : ℕ) (r : Bor RuleDef) (order : Option (List ℕ)) → orders ≡ map (order_of_rule il) (all_now rs) → k < length rs
    → r ≡ get_or rs k r → order ≡ get_or orders k order → order ≡ order_of_rule il r.now
order_at il rs orders k r order are within is also =
    let there : k < length (all_now rs) = omega (arith, within, now_long rs) in
    also ∙ ap (λ os. get_or os k order) are ∙ get_or-map (order_of_rule il) (all_now rs) k r.now order there ∙ ap (order_of_rule il) (sym (now_at rs k r r is))

-- the lines of one rule more
pub one_more_now : {A : Type 0} (f : A → List ℕ) (rs : List (Bor A)) (k : ℕ) (r : Bor A) (old now new : List ℕ) → k < length rs → r ≡ get_or rs k r → now ≡ old ++ flat_map f (take k (all_now rs))
    → new ≡ now ++ f r.now → new ≡ old ++ flat_map f (take (k + 1) (all_now rs))
one_more_now f rs k r old now new within is so_far added =
    let there : k < length (all_now rs) = omega (arith, within, now_long rs) in one_more f (all_now rs) k r.now old now new there (now_at rs k r r is) so_far added

-- ---- rules that stand under a name

pub found_rules : (entries : List (Bor Name × List (Bor RuleDef))) (name : Name) (found : Option (Bor (List (Bor RuleDef)))) (rules : Bor (List (Bor RuleDef))) (slice : List (Bor RuleDef))
    → option_copied found ≡ at entries name → found ≡ Some rules → slice ≡ rules.now → rules_under entries name ≡ all_now slice
found_rules entries name found rules slice at_is is same = ap (λ o. all_now (unwrap_or o [])) (sym at_is ∙ ap option_copied is) ∙ ap all_now (sym same)

pub none_found : (f : RuleDef → List ℕ) (entries : List (Bor Name × List (Bor RuleDef))) (name : Name) (found : Option (Bor (List (Bor RuleDef)))) (bytes : List ℕ)
    → option_copied found ≡ at entries name → found ≡ None → bytes ≡ bytes ++ flat_map f (rules_under entries name)
none_found f entries name found bytes at_is is =
    sym (append-nil bytes) ∙ ap (λ o. bytes ++ flat_map f (all_now (unwrap_or o []))) (sym (ap option_copied is) ∙ at_is)

-- ---- marks and relations side by side

pub zip_long : {A B : Type 0} (R : A → B → Type 0) (xs : List A) (ys : List B) → AllZip R xs ys → length ys ≡ length xs
zip_long R [] [] h = refl
zip_long R [] (y ∷ ys) h = absurd h
zip_long R (x ∷ xs) [] h = absurd h
zip_long R (x ∷ xs) (y ∷ ys) h = ap suc (zip_long R xs ys h.1)

pub zip_at : {A B : Type 0} (R : A → B → Type 0) (xs : List A) (ys : List B) (k : ℕ) (x d : A) (y e : B) → AllZip R xs ys → k < length xs → x ≡ get_or xs k d → y ≡ get_or ys k e → R x y
zip_at R [] ys k x d y e h within is also = let none : ⊥ = omega (arith, within) in absurd none
zip_at R (a ∷ xs) [] k x d y e h within is also = absurd h
zip_at R (a ∷ xs) (b ∷ ys) zero x d y e h within is also = subst (λ z. R z y) (sym is) (subst (λ z. R a z) (sym also) h.0)
zip_at R (a ∷ xs) (b ∷ ys) (suc k) x d y e h within is also = zip_at R xs ys k x d y e h.1 (omega (arith, within)) is also

pub relations_long : (ds : List IlDef) → length (relations_in ds) ≤ length ds
relations_long [] = omega arith
relations_long (Syntax s ∷ ds) = omega (arith, relations_long ds)
relations_long (Var x t ∷ ds) = omega (arith, relations_long ds)
relations_long (Relation r ∷ ds) = omega (arith, relations_long ds)
relations_long (Rule r ∷ ds) = omega (arith, relations_long ds)
relations_long (Fun f ∷ ds) = omega (arith, relations_long ds)
relations_long (Clause c ∷ ds) = omega (arith, relations_long ds)

-- what is known of a relation among the declared ones
module _ (il : Il) (declared : List (Bor RelationDef)) (modes : Modes) (known : AreModes il modes) (are : all_now declared ≡ relations il) (k : ℕ) (within : k < length declared) where
  there : k < length (relations il)
  there = omega (arith, within, now_long declared, ap length are)

  pub within_marks : (marks : List (Option Unfit)) → marks ≡ modes.marks → k < length marks
  within_marks marks same = omega (arith, there, ap length same, zip_long (HasUnfit il) (relations il) modes.marks known.marks)

  pub within_few : HasFew il → k < 2 ^ 32
  within_few few = omega (arith, there, relations_long il.defs, few.0)

  pub within_orders : (orders : List (List (Option (List ℕ)))) → orders ≡ modes.orders → k < length orders
  within_orders orders same = omega (arith, there, ap length same, ap length known.orders, length-map (relations il) (orders_in il))

  relation_at : (r : Bor RelationDef) → r ≡ get_or declared k r → r.now ≡ get_or (relations il) k r.now
  relation_at r is = now_at declared k r r is ∙ ap (λ rs. get_or rs k r.now) are

  pub mark_at : (marks : List (Option Unfit)) (r : Bor RelationDef) (mark : Option Unfit) → marks ≡ modes.marks → r ≡ get_or declared k r → mark ≡ get_or marks k mark → HasUnfit il r.now mark
  mark_at marks r mark same is also =
      zip_at (HasUnfit il) (relations il) marks k r.now r.now mark mark (subst (AllZip (HasUnfit il) (relations il)) (sym same) known.marks) there (relation_at r is) also

  pub orders_at : (orders : List (List (Option (List ℕ)))) (r : Bor RelationDef) (its : List (Option (List ℕ))) → orders ≡ modes.orders → r ≡ get_or declared k r → its ≡ get_or orders k its
      → its ≡ orders_in il r.now
  orders_at orders r its same is also =
      also ∙ ap (λ os. get_or os k its) (same ∙ known.orders) ∙ get_or-map (orders_in il) (relations il) k r.now its there ∙ ap (orders_in il) (sym (relation_at r is))

-- the lines of all
pub all_lines : {A : Type 0} (f : A → List ℕ) (rs : List (Bor A)) (xs : List A) (k : ℕ) (old now : List ℕ) → all_now rs ≡ xs → length rs ≤ k → now ≡ old ++ flat_map f (take k (all_now rs))
    → now ≡ old ++ flat_map f xs
all_lines f rs xs k old now are past so_far =
    let whole : length (all_now rs) ≤ k = omega (arith, past, now_long rs) in
    so_far ∙ ap (λ ys. old ++ flat_map f ys) (take_all k (all_now rs) whole ∙ are)
