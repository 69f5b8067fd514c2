-- What is found at one part of a definition.
use Rattle.std.proofs.Common.{◌≡◌, ◌↔◌, refl, sym, ap, ◌∙◌, subst, ℕ, zero, suc, ◌+◌, ◌<◌, List, [], ◌∷◌, ◌++◌, map, length, take, drop, get_or, drop-cons, add-one, Bool, true, false, Option, Some, None, nat_eq, if◌then◌else◌, arith, inl, inr, ◌⊎◌}
use Rattle.std.specs.Prelude.{slice_get}
use Rattle.std.specs.List.{flat_map}
use Rattle.std.specs.Option.{option_map}
use Rattle.std.specs.Cmp.Lexicographic.{pointwise}
use Rattle.std.proofs.Math.Seq.{take-length}
use Rattle.std.proofs.lemmas.Slice.Eq.{bytes_eq-Decides}
use Rattle.st_num.specs.declared.rule.RuleId.TheVariants.{B1, Y7}
use Rattle.st_il.specs.declared.ty.Ty.{Ty}
use Rattle.st_il.specs.declared.definition.SyntaxDef.{SyntaxDef}
use Rattle.st_il.specs.declared.definition.SyntaxBody.{SyntaxBody}
use Rattle.st_il.specs.declared.definition.SyntaxBody.TheVariants as body
use Rattle.st_il.specs.declared.definition.Alternative.{Alternative}
use Rattle.st_il.specs.declared.definition.Alternative.TheVariants as alternative
use Rattle.st_type_table.specs.declared.fault.Broken.{Broken}
use Rattle.st_type_table.specs.Leads.{Among, Ends, included, joined, names_in, leads_to}
use Rattle.st_type_table.specs.inner.Flat.{IsReached, IsEndless}
use Rattle.st_type_table.specs.inner.Graph.{graph_of, position_of, positions_of, LeadsAt}
use Rattle.st_type_table.specs.inner.Components.{AreComponents}
use Rattle.st_type_table.specs.Breach.{Holds, keys, asked, broken, Finds, FindsAt, all_declared, on_alias, on_included, on_alternative, on_alternatives, on_field, on_fields, on_body, on_parts, run, conditions_on, new_name}
use Rattle.st_type_table.specs.inner.Checking.{Returns, ChecksAt, CheckedAt, part_count}
use Rattle.st_type_table.proofs.PositionLemmas.{unplaced, node_at, position-among, LeadsAt-Leads, Leads-LeadsAt}
use Rattle.st_type_table.proofs.ComponentsLemmas.{components-back}
use Rattle.st_type_table.proofs.FlatLemmas.{append_nil, take-suc}
use Rattle.st_type_table.proofs.CheckLemmas.{Finds-hold, Finds-false, Finds-front, Finds-back, is-declared}
use Rattle.st_type_table.proofs.ReachLemmas.{run-step, reach-keys, reach-clash}

-- an item that is read
pub read-at : {A : Type 0} (xs : List A) (i : ℕ) (x : A) → i < length xs → x ≡ get_or xs i x → slice_get xs i ≡ Some x
read-at [] i x h e = absurd (omega arith)
read-at (y ∷ ys) zero x h e = ap Some (sym e)
read-at (y ∷ ys) (suc i) x h e = read-at ys i x (omega arith) e

pub item-at : {A : Type 0} (xs : List A) (i : ℕ) → i < length xs → (x : A) × (x ≡ get_or xs i x) × (slice_get xs i ≡ Some x)
item-at [] i h = absurd (omega arith)
item-at (y ∷ ys) zero h = (y, refl, refl)
item-at (y ∷ ys) (suc i) h = item-at ys i (omega arith)

-- what is known of all is known of an inclusion
among-front : (xs ys : List (List ℕ)) (x : List ℕ) → Among xs x → Among (xs ++ ys) x
among-front [] ys x h = absurd h
among-front (z ∷ xs) ys x (inl e) = inl e
among-front (z ∷ xs) ys x (inr h) = inr (among-front xs ys x h)

among-behind : (xs ys : List (List ℕ)) (x : List ℕ) → Among ys x → Among (xs ++ ys) x
among-behind [] ys x h = h
among-behind (z ∷ xs) ys x h = inr (among-behind xs ys x h)

pub included-among : (parts : List Alternative) (at : ℕ) (name : List ℕ) → slice_get parts at ≡ Some (alternative.Incl name) → Among (flat_map included parts) name
included-among [] at name e = cc
included-among (a ∷ parts) zero name e =
    let s : alternative.Incl name ≡ a = cc in
    among-front (included a) (flat_map included parts) name (subst (λ z. Among (included z) name) s (inl refl))
included-among (a ∷ parts) (suc at) name e = among-behind (included a) (flat_map included parts) name (included-among parts at name e)

pub Returns-one : (defs : List SyntaxDef) (target : List ℕ) (numbers : List ℕ) (own : ℕ) (parts : List Alternative) (at : ℕ) (name : List ℕ) → slice_get parts at ≡ Some (alternative.Incl name)
    → Returns defs target numbers own (flat_map included parts) → Returns defs target numbers own (name ∷ [])
Returns-one defs target numbers own parts at name e r x p (inl q) f = r x p (subst (Among (flat_map included parts)) (sym q) (included-among parts at name e)) f
Returns-one defs target numbers own parts at name e r x p (inr q) f = absurd q

module _ (defs : List SyntaxDef) (target : List ℕ) (parts : List Alternative) (reach at : ℕ) (a : Alternative) (there : slice_get parts at ≡ Some a) (reached : IsReached defs parts reach) where
  one : (b : Alternative) → slice_get parts at ≡ Some b → a ≡ b
  one b g = let s : Some a ≡ Some b = sym there ∙ g in cc

  -- the keys up to this alternative
  clash : at ≡ reach → (IsEndless defs a → ⊥) → Holds defs (keys (take (suc at) parts)) → ⊥
  clash e ends h = reach-clash defs parts reach a reached (ap (slice_get parts) (sym e) ∙ there) ends (subst (λ n. Holds defs (keys (take (suc n) parts))) e h)

  differ : at < reach → Holds defs (keys (take (suc at) parts))
  differ h = reach-keys defs parts reach (suc at) reached (omega (arith, h))

  pub case-keys : (tag : List ℕ) (operands : List Ty) (b : Broken) → a ≡ alternative.Case tag operands → broken (asked at (keys (take (suc at) parts))) ≡ b → at ≡ reach
      → ChecksAt defs target parts reach at (Some b)
  case-keys tag operands b e is h = subst (λ x. ChecksAt defs target parts reach at (Some x)) is (
    λ other g. subst (λ z. Finds defs (on_alternative target at (take (suc at) parts) z) (Some (broken (asked at (keys (take (suc at) parts)))))) (sym e ∙ one other g)
        (Finds-false defs (asked at (keys (take (suc at) parts))) (all_declared at 0 (joined (map names_in operands))) (clash h (λ (name, q, never). let z : alternative.Case tag operands ≡ alternative.Incl name = sym e ∙ q in cc))),
    tt,
  )

  finds-of : (tag : List ℕ) (operands : List Ty) (found : Option Broken) → Holds defs (keys (take (suc at) parts)) → Finds defs (all_declared at 0 (joined (map names_in operands))) found
      → Finds defs (on_alternative target at (take (suc at) parts) (alternative.Case tag operands)) found
  finds-of tag operands found k f = Finds-hold defs (asked at (keys (take (suc at) parts))) (all_declared at 0 (joined (map names_in operands))) found k f

  pub case-types : (tag : List ℕ) (operands : List Ty) (found : Option Broken) → a ≡ alternative.Case tag operands → at < reach
      → Finds defs (all_declared at 0 (joined (map names_in operands))) found → ChecksAt defs target parts reach at found
  case-types tag operands None e h f = (
    λ b g. subst (λ z. Finds defs (on_alternative target at (take (suc at) parts) z) None) (sym e ∙ one b g) (finds-of tag operands None (differ h) f),
    h,
  )
  case-types tag operands (Some x) e h f = (
    λ b g. subst (λ z. Finds defs (on_alternative target at (take (suc at) parts) z) (Some x)) (sym e ∙ one b g) (finds-of tag operands (Some x) (differ h) f),
    tt,
  )

  pub incl-found : (name : List ℕ) (x : Broken) → a ≡ alternative.Incl name → Finds defs (on_included target at name) (Some x) → ChecksAt defs target parts reach at (Some x)
  incl-found name x e f = (
    λ b g. subst (λ z. Finds defs (on_alternative target at (take (suc at) parts) z) (Some x)) (sym e ∙ one b g)
        (Finds-front defs (on_included target at name) ((asked at (keys (take (suc at) parts))) ∷ []) x f),
    tt,
  )

  ends-there : (name : List ℕ) → a ≡ alternative.Incl name → Finds defs (on_included target at name) None → IsEndless defs a → ⊥
  ends-there name e f (other, q, never) =
      let z : alternative.Incl name ≡ alternative.Incl other = sym e ∙ q in
      let y : name ≡ other = cc in
      never (subst (Ends defs) y (f.1.1.0).ends)

  pub incl-keys : (name : List ℕ) (b : Broken) → a ≡ alternative.Incl name → broken (asked at (keys (take (suc at) parts))) ≡ b → Finds defs (on_included target at name) None → at ≡ reach
      → ChecksAt defs target parts reach at (Some b)
  incl-keys name b e is f h = subst (λ x. ChecksAt defs target parts reach at (Some x)) is (
    λ other g. subst (λ z. Finds defs (on_alternative target at (take (suc at) parts) z) (Some (broken (asked at (keys (take (suc at) parts)))))) (sym e ∙ one other g)
        (Finds-back defs (on_included target at name) (asked at (keys (take (suc at) parts)) ∷ []) (Some (broken (asked at (keys (take (suc at) parts))))) f
        (Finds-false defs (asked at (keys (take (suc at) parts))) [] (clash h (ends-there name e f)))),
    tt,
  )

  pub incl-whole : (name : List ℕ) → a ≡ alternative.Incl name → Finds defs (on_included target at name) None → at < reach → ChecksAt defs target parts reach at None
  incl-whole name e f h = (
    λ b g. subst (λ z. Finds defs (on_alternative target at (take (suc at) parts) z) None) (sym e ∙ one b g)
        (Finds-back defs (on_included target at name) ((asked at (keys (take (suc at) parts))) ∷ []) None f (differ h, tt)),
    h,
  )

-- ---- part by part

pub suc-drop : {A : Type 0} (xs : List A) (i : ℕ) (x : A) → i < length xs → x ≡ get_or xs i x → drop i xs ≡ x ∷ drop (suc i) xs
suc-drop xs i x h e = drop-cons xs i x h ∙ ap (λ z. z ∷ drop (suc i) xs) (sym e)

module _ (defs : List SyntaxDef) (target : List ℕ) (parts : List Alternative) (at to : ℕ) (a : Alternative) (before_to : at < to) (h : at < length parts) (e : a ≡ get_or parts at a) where
  pub alternatives-found : (x : Broken) → Finds defs (on_alternative target at (take (suc at) parts) a) (Some x)
      → Finds defs (on_alternatives target at (take at parts) (run at to parts)) (Some x)
  alternatives-found x f = subst (λ z. Finds defs (on_alternatives target at (take at parts) z) (Some x)) (sym (run-step parts at to a before_to h e))
      (Finds-front defs (on_alternative target at (take at parts ++ a ∷ []) a) (on_alternatives target (suc at) (take at parts ++ a ∷ []) (run (suc at) to parts)) x
      (subst (λ z. Finds defs (on_alternative target at z a) (Some x)) (take-suc parts at a h e) f))

  pub alternatives-step : (found : Option Broken) → Finds defs (on_alternative target at (take (suc at) parts) a) None
      → Finds defs (on_alternatives target (at + 1) (take (at + 1) parts) (run (at + 1) to parts)) found → Finds defs (on_alternatives target at (take at parts) (run at to parts)) found
  alternatives-step found f g = subst (λ z. Finds defs (on_alternatives target at (take at parts) z) found) (sym (run-step parts at to a before_to h e))
      (Finds-back defs (on_alternative target at (take at parts ++ a ∷ []) a) (on_alternatives target (suc at) (take at parts ++ a ∷ []) (run (suc at) to parts)) found
      (subst (λ z. Finds defs (on_alternative target at z a) None) (take-suc parts at a h e) f)
      (subst (λ z. Finds defs (on_alternatives target (suc at) z (run (suc at) to parts)) found) (take-suc parts at a h e)
      (subst (λ n. Finds defs (on_alternatives target n (take n parts) (run n to parts)) found) (add-one at) g)))

module _ (defs : List SyntaxDef) (fields : List (List ℕ × Ty)) (at to : ℕ) (f : List ℕ × Ty) (before_to : at < to) (h : at < length fields) (e : f ≡ get_or fields at f) where
  pub fields-found : (x : Broken) → Finds defs (on_field at (take at fields) f) (Some x) → Finds defs (on_fields at (take at fields) (run at to fields)) (Some x)
  fields-found x g = subst (λ z. Finds defs (on_fields at (take at fields) z) (Some x)) (sym (run-step fields at to f before_to h e))
      (Finds-front defs (on_field at (take at fields) f) (on_fields (suc at) (take at fields ++ f ∷ []) (run (suc at) to fields)) x g)

  pub fields-step : (found : Option Broken) → Finds defs (on_field at (take at fields) f) None
      → Finds defs (on_fields (at + 1) (take (at + 1) fields) (run (at + 1) to fields)) found → Finds defs (on_fields at (take at fields) (run at to fields)) found
  fields-step found g k = subst (λ z. Finds defs (on_fields at (take at fields) z) found) (sym (run-step fields at to f before_to h e))
      (Finds-back defs (on_field at (take at fields) f) (on_fields (suc at) (take at fields ++ f ∷ []) (run (suc at) to fields)) found g
      (subst (λ z. Finds defs (on_fields (suc at) z (run (suc at) to fields)) found) (take-suc fields at f h e)
      (subst (λ n. Finds defs (on_fields n (take n fields) (run n to fields)) found) (add-one at) k)))

-- a breach of keys, by its numbers
pub keys-broken : (part at : ℕ) (so_far : List Alternative) (b : Broken) → b ≡ record { part = part; name = 0; rule = Y7 } → part ≡ at → broken (asked at (keys so_far)) ≡ b
keys-broken part at so_far b e same = ap (λ n. record { part = n; name = 0; rule = Y7 }) (sym same) ∙ sym e

-- ---- a definition behind those before it

-- where no definition before this one has its name, its position is that of its name
pub position-here : (defs : List SyntaxDef) (at : ℕ) (d : SyntaxDef) → slice_get defs at ≡ Some d → position_of (take at defs) d.name ≡ None → position_of defs d.name ≡ Some at
position-here [] at d e h = cc
position-here (x ∷ xs) zero d e h =
    let s : x ≡ d = cc in
    ap (λ b. if b then Some 0 else option_map suc (position_of xs d.name)) ((bytes_eq-Decides d.name x.name).1 (ap (λ z. z.name) (sym s)))
position-here (x ∷ xs) (suc at) d e h = by (pointwise nat_eq d.name x.name) (position_of (take at xs) d.name) refl h (position-here xs at d e)
  where
    by : (b : Bool) (o : Option ℕ) → position_of (take at xs) d.name ≡ o → (if b then Some 0 else option_map suc o) ≡ None
        → (position_of (take at xs) d.name ≡ None → position_of xs d.name ≡ Some at) → (if b then Some 0 else option_map suc (position_of xs d.name)) ≡ Some (suc at)
    by true o g h next = cc
    by false None g h next = ap (option_map suc) (next g)
    by false (Some q) g h next = cc

-- where an earlier definition has the name, its position is that of the name
pub position-front : (defs : List SyntaxDef) (at : ℕ) (name : List ℕ) (p : ℕ) → position_of (take at defs) name ≡ Some p → position_of defs name ≡ Some p
position-front defs zero name p e = cc
position-front [] (suc at) name p e = cc
position-front (x ∷ xs) (suc at) name p e = by (pointwise nat_eq name x.name) (position_of (take at xs) name) refl e (position-front xs at name)
  where
    by : (b : Bool) (o : Option ℕ) → position_of (take at xs) name ≡ o → (if b then Some 0 else option_map suc o) ≡ Some p
        → ((q : ℕ) → position_of (take at xs) name ≡ Some q → position_of xs name ≡ Some q) → (if b then Some 0 else option_map suc (position_of xs name)) ≡ Some p
    by true o g h next = h
    by false None g h next = cc
    by false (Some q) g h next = ap (option_map suc) (next q g) ∙ h

-- what leads back is in the component of the first definition with the name
pub Returns-first : (defs : List SyntaxDef) (numbers : List ℕ) (own at : ℕ) (d : SyntaxDef) → slice_get defs at ≡ Some d → position_of defs d.name ≡ Some at
    → AreComponents (graph_of defs) numbers → slice_get numbers at ≡ Some own → Returns defs d.name numbers own (leads_to d.body)
Returns-first defs numbers own at d e here n p name position a q =
    let b = components-back (graph_of defs) numbers n at position own (positions_of defs (leads_to d.body), (node_at defs defs at d e, position-among defs (leads_to d.body) name position a q)) p in
    (λ m. LeadsAt-Leads defs position at (b.0 m) name d.name q here, λ l. b.1 (Leads-LeadsAt defs name d.name l position at q here))

pub check-whole : (defs : List SyntaxDef) (at : ℕ) (d : SyntaxDef) (found : Option Broken) → position_of (take at defs) d.name ≡ None → Finds defs (on_body d.name d.body) found
    → Finds defs (conditions_on (take at defs) d) found
check-whole defs at d found h f = Finds-hold defs (asked 0 (new_name (take at defs) d.name)) (on_body d.name d.body) found (unplaced (take at defs) d.name h) f

-- the parts of a definition that is found at its position
pub parts-at : (defs : List SyntaxDef) (at from to : ℕ) (d : SyntaxDef) (found : Option Broken) → slice_get defs at ≡ Some d → Finds defs (on_parts d.name d.body from to) found → FindsAt defs at from to found
parts-at defs at from to d found e f other g =
    let s : Some d ≡ Some other = sym e ∙ g in
    let t : d ≡ other = cc in
    subst (λ z. Finds defs (on_parts z.name z.body from to) found) t f

-- an alias is one part
take-nil : (A : Type 0) (n : ℕ) → take {A = A} n [] ≡ []
take-nil A zero = refl
take-nil A (suc n) = refl

drop-nil : (A : Type 0) (n : ℕ) → drop {A = A} n [] ≡ []
drop-nil A zero = refl
drop-nil A (suc n) = refl

pub alias-part : (defs : List SyntaxDef) (name : List ℕ) (t : Ty) (to : ℕ) (found : Option Broken) → 0 < to → Finds defs (on_alias name 0 (names_in t)) found → Finds defs (on_parts name (body.Alias t) 0 to) found
alias-part defs name t zero found h f = absurd (omega arith)
alias-part defs name t (suc to) found h f = subst (λ ts. Finds defs (flat_map (λ u. on_alias name 0 (names_in u)) (t ∷ ts)) found) (sym (take-nil Ty to))
    (subst (λ ps. Finds defs ps found) (sym (append_nil (on_alias name 0 (names_in t)))) f)

pub no-part : (defs : List SyntaxDef) (name : List ℕ) (t : Ty) (from to : ℕ) → (0 < from) ⊎ (to ≡ 0) → Finds defs (on_parts name (body.Alias t) from to) None
no-part defs name t from to h = subst (λ ts. Finds defs (flat_map (λ u. on_alias name 0 (names_in u)) ts) None) (sym (none from to h)) tt
  where
    none : (from to : ℕ) → (0 < from) ⊎ (to ≡ 0) → run from to (t ∷ []) ≡ []
    none zero to (inl h) = absurd (omega arith)
    none (suc from) zero (inl h) = refl
    none (suc from) (suc to) (inl h) = ap (drop from) (take-nil Ty to) ∙ drop-nil Ty from
    none from to (inr e) = ap (λ n. run from n (t ∷ [])) e ∙ drop-nil Ty from

-- all parts together are the body
pub on_parts-whole : (name : List ℕ) (b : SyntaxBody) → on_parts name b 0 (part_count b) ≡ on_body name b
on_parts-whole name (body.Alias t) = append_nil (on_alias name 0 (names_in t))
on_parts-whole name (body.Variant parts) = ap (on_alternatives name 0 []) (take-length parts)
on_parts-whole name (body.Fields fields) = ap (on_fields 0 []) (take-length fields)

-- where another definition has the name, what leads to that one leads back
pub Returns-other : (defs : List SyntaxDef) (numbers : List ℕ) (own first : ℕ) (d : SyntaxDef) → position_of defs d.name ≡ Some first
    → ((i : ℕ) → (slice_get numbers i ≡ Some own) ↔ LeadsAt (graph_of defs) i first) → Returns defs d.name numbers own (leads_to d.body)
Returns-other defs numbers own first d there back name position a p =
    (λ m. LeadsAt-Leads defs position first ((back position).0 m) name d.name p there, λ l. (back position).1 (Leads-LeadsAt defs name d.name l position first p there))

pub check-twice : (defs : List SyntaxDef) (at : ℕ) (d : SyntaxDef) (p : ℕ) (b : Broken) → position_of (take at defs) d.name ≡ Some p → b ≡ record { part = 0; name = 0; rule = B1 }
    → Finds defs (conditions_on (take at defs) d) (Some b)
check-twice defs at d p b e is = subst (λ x. Finds defs (conditions_on (take at defs) d) (Some x)) (sym is)
    (Finds-false defs (asked 0 (new_name (take at defs) d.name)) (on_body d.name d.body) (λ h. is-declared (take at defs) d.name p e h))

pub checked-at : (defs : List SyntaxDef) (at : ℕ) (d : SyntaxDef) → slice_get defs at ≡ Some d → (found : Option Broken) → Finds defs (conditions_on (take at defs) d) found → CheckedAt defs at found
checked-at defs at d e found f other g =
    let s : Some d ≡ Some other = sym e ∙ g in
    let t : d ≡ other = cc in
    subst (λ z. Finds defs (conditions_on (take at defs) z) found) t f

pub same-item : {A : Type 0} (xs : List A) (i : ℕ) (x y : A) → slice_get xs i ≡ Some x → slice_get xs i ≡ Some y → x ≡ y
same-item xs i x y p q = let s : Some x ≡ Some y = sym p ∙ q in cc
