-- What is known of the operands of a pattern: what they bind, and that its value tells their values.
use Rattle.std.proofs.Common.{◌≡◌, ℕ, suc, ◌≤◌, pos, refl, sym, ◌∙◌, ap, ap₂, subst, List, [], ◌∷◌, ◌++◌, map, length, zip, Bool, true, false, ◌||◌, Option, Some, None, nat_lt, arith}
use Rattle.std.proofs.lemmas.Bool.{eqb-true, ltb-false}
use Rattle.st_il.specs.declared.definition.SyntaxDef.{SyntaxDef}
use Rattle.st_il.specs.declared.expression.IlExp.{IlExp, out-IlExp, fold-IlExp, fold_out-IlExp, map-IlExp}
use Rattle.st_il.specs.declared.expression.IlExp.TheOpen.{IlExp-F, Iteration-F, ListItem-F}
use Rattle.st_il.specs.declared.expression.Iteration.{Iteration, out-Iteration, fold-Iteration, fold_out-Iteration, map-Iteration}
use Rattle.st_il.specs.declared.expression.ListItem.{ListItem, out-ListItem, fold-ListItem, fold_out-ListItem, map-ListItem}
use Rattle.st_il.specs.declared.expression.PathSeg.{PathSeg, fold-PathSeg}
use Rattle.st_il.specs.declared.ty.Ty.{Ty}
use Rattle.st_il.specs.declared.value.Value.{Value, out-Value}
use Rattle.st_il.specs.declared.value.Value.TheOpen.{Value-F}
use Rattle.st_il.specs.declared.value.Value.TheVariants as value
use Rattle.st_il.specs.Names.{Name, has_name, flattened, among, without}
use Rattle.st_semantics.specs.Parts.{Operation, constant}
use Rattle.st_semantics.specs.Operands.{item_at, segment_at, item_exp}
use Rattle.st_semantics.specs.Forms.{Form, Strict, Variable, Calls, Iterates, form_at, building, HasForm, by_itself, structure, absent_list, absent_option}
use Rattle.st_semantics.specs.Iterations.{count_of, index_of, count_at, index_at}
use Rattle.st_semantics.specs.Patterns.{Told, told, told_at, told_item, is_pattern, has_simple_count, Bound, BoundCount, bound_count_at, bound_at, binds}
use Rattle.st_semantics.specs.OpenParts.{Lengths, open_parts, any_doubly_open, is_doubly_open}
use Rattle.st_semantics.proofs.PatternParts.{told_segment, told-level}
use Rattle.st_semantics.proofs.Lengths.{lengths, item_lengths, lengths_of, lengths-level, IsLiteral, literal_is, LengthsAgree, SameOperands, SameLengths, limited_is, same_none, same_case, same_tuple, same_present, same_up, same_list, lengths_list, same_cat, lengths_cat, lengths_up, lengths_constant, open_of, item-open}

-- ---- what is bound, by levels

abbrev pub bound : IlExp → Bound
bound = fold-IlExp Bound BoundCount Bound (List Bound) bound_at bound_count_at item_at segment_at

abbrev pub item_bound : ListItem → Bound
item_bound = fold-ListItem Bound BoundCount Bound (List Bound) bound_at bound_count_at item_at segment_at

abbrev pub segment_bound : PathSeg → List Bound
segment_bound = fold-PathSeg Bound BoundCount Bound (List Bound) bound_at bound_count_at item_at segment_at

abbrev pub count_bound : Iteration → BoundCount
count_bound = fold-Iteration Bound BoundCount Bound (List Bound) bound_at bound_count_at item_at segment_at

-- one level of what is bound
abbrev pub bound_of : IlExp-F IlExp Iteration ListItem PathSeg → Bound
bound_of y = bound_at (map-IlExp IlExp Iteration ListItem PathSeg Bound BoundCount Bound (List Bound) bound count_bound item_bound segment_bound y)

bound-level : (e : IlExp) (y : IlExp-F IlExp Iteration ListItem PathSeg) → out-IlExp e ≡ y → bound e ≡ bound_of y
bound-level e y h = fold_out-IlExp Bound BoundCount Bound (List Bound) bound_at bound_count_at item_at segment_at e ∙ ap bound_of h

pub binds-level : (e : IlExp) (y : IlExp-F IlExp Iteration ListItem PathSeg) → out-IlExp e ≡ y → binds e ≡ (bound_of y).names
binds-level e y h = ap (λ (b : Bound). b.names) (bound-level e y h)

item-bound : (i : ListItem) → item_bound i ≡ bound (item_exp i)
item-bound i = fold_out-ListItem Bound BoundCount Bound (List Bound) bound_at bound_count_at item_at segment_at i ∙ at (out-ListItem i)
  where
    at : (y : ListItem-F IlExp Iteration ListItem PathSeg) → item_at (map-ListItem IlExp Iteration ListItem PathSeg Bound BoundCount Bound (List Bound) bound count_bound item_bound segment_bound y) ≡ bound (item_at y)
    at (ListItem-F.One e) = refl
    at (ListItem-F.All e) = refl

pub names-map : (es : List IlExp) → map (λ (b : Bound). b.names) (map bound es) ≡ map binds es
names-map [] = refl
names-map (e ∷ es) = ap (λ z. binds e ∷ z) (names-map es)

pub items-names : (is : List ListItem) → map (λ (b : Bound). b.names) (map (λ (b : Bound). b) (map item_bound is)) ≡ map binds (map item_exp is)
items-names [] = refl
items-names (i ∷ is) = ap₂ (λ a b. a ∷ b) (ap (λ (b : Bound). b.names) (item-bound i)) (items-names is)

-- the names that are counts by themselves
abbrev pub own_of : Iteration → List Name
own_of how = flattened (map (λ (e : IlExp). (bound e).own) (count_of how))

own_at : (y : IlExp-F IlExp Iteration ListItem PathSeg) (x : Name) → has_name (bound_of y).own x ≡ true → (z : Name) × (y ≡ IlExp-F.Var z)
own_at (IlExp-F.Var z) x h = (z, refl)
own_at _ x h = cc

pub own_variable : (e : IlExp) (x : Name) → has_name (bound e).own x ≡ true → (z : Name) × (out-IlExp e ≡ IlExp-F.Var z) × ((bound e).own ≡ z ∷ [])
own_variable e x h =
    let level = bound-level e (out-IlExp e) refl in
    let found = own_at (out-IlExp e) x (ap (λ (b : Bound). has_name b.own x) (sym level) ∙ h) in
    (found.0, found.1, ap (λ (b : Bound). b.own) (level ∙ ap bound_of found.1))

pub iteration-own : (how : Iteration) → (count_bound how).own ≡ own_of how
iteration-own how = ap (λ (b : BoundCount). b.own) (fold_out-Iteration Bound BoundCount Bound (List Bound) bound_at bound_count_at item_at segment_at how) ∙ at (out-Iteration how)
  where
    at : (y : Iteration-F IlExp Iteration ListItem PathSeg)
        → (bound_count_at (map-Iteration IlExp Iteration ListItem PathSeg Bound BoundCount Bound (List Bound) bound count_bound item_bound segment_bound y)).own ≡ flattened (map (λ (e : IlExp). (bound e).own) (count_at y))
    at Iteration-F.Star = refl
    at Iteration-F.Plus = refl
    at Iteration-F.Quest = refl
    at (Iteration-F.Times e) = refl
    at (Iteration-F.Below i e) = refl

pub iteration-index : (how : Iteration) → (count_bound how).index ≡ index_of how
iteration-index how = ap (λ (b : BoundCount). b.index) (fold_out-Iteration Bound BoundCount Bound (List Bound) bound_at bound_count_at item_at segment_at how) ∙ at (out-Iteration how)
  where
    at : (y : Iteration-F IlExp Iteration ListItem PathSeg)
        → (bound_count_at (map-Iteration IlExp Iteration ListItem PathSeg Bound BoundCount Bound (List Bound) bound count_bound item_bound segment_bound y)).index ≡ index_at y
    at Iteration-F.Star = refl
    at Iteration-F.Plus = refl
    at Iteration-F.Quest = refl
    at (Iteration-F.Times e) = refl
    at (Iteration-F.Below i e) = refl

-- ---- parts that are not doubly open

abbrev pub AllSingly : List IlExp → Type 0
AllSingly [] = Unit {0}
AllSingly (e ∷ es) = (is_doubly_open e ≡ false) × AllSingly es

or_parts : (a b : Bool) → (a || b) ≡ false → (a ≡ false) × (b ≡ false)
or_parts true b h = cc
or_parts false b h = (refl, h)

all_singly : (es : List IlExp) → any_doubly_open (map lengths es) ≡ false → AllSingly es
all_singly [] h = tt
all_singly (e ∷ es) h = let b = or_parts (lengths e).doubly_open (any_doubly_open (map lengths es)) h in (b.0, all_singly es b.1)

items_singly : (is : List ListItem) → any_doubly_open (map item_lengths is) ≡ false → AllSingly (map item_exp is)
items_singly [] h = tt
items_singly (i ∷ is) h =
    let b = or_parts (item_lengths i).doubly_open (any_doubly_open (map item_lengths is)) h in
    (sym (item-open i) ∙ b.0, items_singly is b.1)

not_more : (n : ℕ) → nat_lt 1 n ≡ false → n ≤ 1
not_more n h = ltb-false 1 n h

-- ---- the form of a pattern

abbrev pattern_of : IlExp-F IlExp Iteration ListItem PathSeg → Bool
pattern_of y = (told_at (map-IlExp IlExp Iteration ListItem PathSeg Told Bool Told (List Told) told has_simple_count told_item told_segment y)).pattern

-- the operands of a pattern
pub record Known (es : List IlExp) (f : Operation) (names : List Name) : Type 0 where
  pub singly : AllSingly es
  pub same : SameOperands es f
  pub binding : names ≡ flattened (map binds es)

-- the elements of one
pub record KnownEach (how : Iteration) (xs : List Name) (body : IlExp) (names : List Name) : Type 0 where
  pub singly : is_doubly_open body ≡ false
  pub binding : names ≡ own_of how ++ among xs (without (index_of how) (binds body))

abbrev pub FormKnown : List Name → Form → Type 0
FormKnown names (Strict es f) = Known es f names
FormKnown names (Variable x) = names ≡ x ∷ []
FormKnown names (Calls fun es) = Unit {0}
FormKnown names (Iterates how xs body) = KnownEach how xs body names

abbrev LevelKnown : IlExp-F IlExp Iteration ListItem PathSeg → Option Form → Type 0
LevelKnown y None = Unit {0}
LevelKnown y (Some f) = pattern_of y ≡ true → (lengths_of y).doubly_open ≡ false → FormKnown (bound_of y).names f

no : false ≡ true → ⊥
no e = cc

level_known : (y : IlExp-F IlExp Iteration ListItem PathSeg) → LevelKnown y (form_at y)
level_known (IlExp-F.Bool truth) = λ h o. record { singly = tt; same = same_none (constant (value.Bool truth)); binding = refl }
level_known (IlExp-F.Number n) = λ h o. record { singly = tt; same = same_none (constant (value.Num (pos n))); binding = refl }
level_known (IlExp-F.Text text) = λ h o. record { singly = tt; same = same_none (constant (value.Text text)); binding = refl }
level_known (IlExp-F.Var x) = λ h o. refl
level_known (IlExp-F.Case type tag es) = λ h o. record { singly = all_singly es o; same = same_case es tag; binding = ap flattened (names-map es) }
level_known (IlExp-F.Fields type es) = tt
level_known (IlExp-F.Tuple es) = λ h o. record { singly = all_singly es o; same = same_tuple es; binding = ap flattened (names-map es) }
level_known (IlExp-F.List type items) = λ h o.
    let b = or_parts (nat_lt 1 (open_of items)) (any_doubly_open (map item_lengths items)) o in
    record { singly = items_singly items b.1; same = same_list items (not_more (open_of items) b.0); binding = ap flattened (items-names items) }
level_known (IlExp-F.Cat e g) = λ h o.
    let b = or_parts (nat_lt 1 (open_parts (lengths e ∷ lengths g ∷ []))) (any_doubly_open (lengths e ∷ lengths g ∷ [])) o in
    record { singly = all_singly (e ∷ g ∷ []) b.1; same = same_cat e g (not_more (open_parts (lengths e ∷ lengths g ∷ [])) b.0); binding = refl }
level_known (IlExp-F.Empty type) = λ h o. record { singly = tt; same = same_none (constant (value.Opt None)); binding = refl }
level_known (IlExp-F.Present e) = λ h o. record { singly = all_singly (e ∷ []) o; same = same_present e; binding = refl }
level_known (IlExp-F.Absent type) = tt
level_known (IlExp-F.Call fun es) = λ h o. tt
level_known (IlExp-F.Up type e) = λ h o. record { singly = (o, tt); same = same_up e; binding = refl }
level_known (IlExp-F.Iter how xs body) = λ h o. record {
  singly = o;
  binding = ap₂ (λ a b. a ++ among xs (without b (binds body))) (iteration-own how) (iteration-index how);
}
level_known _ = λ h o. absurd (no h)

-- the record of some values tells them
lengths_equal : (es : List IlExp) (vs ws : List Value) → LengthsAgree es vs ws → (length vs ≡ length es) × (length ws ≡ length es)
lengths_equal [] [] [] l = (refl, refl)
lengths_equal [] [] (w ∷ ws) l = absurd l
lengths_equal [] (v ∷ vs) ws l = absurd l
lengths_equal (e ∷ es) [] ws l = absurd l
lengths_equal (e ∷ es) (v ∷ vs) [] l = absurd l
lengths_equal (e ∷ es) (v ∷ vs) (w ∷ ws) l = let more = lengths_equal es vs ws l.1 in (ap suc more.0, ap suc more.1)

cons_parts : {A : Type 0} (x y : A) (xs ys : List A) → x ∷ xs ≡ y ∷ ys → (x ≡ y) × (xs ≡ ys)
cons_parts x y xs ys e = (cc, cc)

zip_same : (names : List Name) (vs ws : List Value) → length vs ≡ length names → length ws ≡ length names → zip names vs ≡ zip names ws → vs ≡ ws
zip_same [] [] [] p q e = refl
zip_same [] [] (w ∷ ws) p q e = absurd (omega (arith, q))
zip_same [] (v ∷ vs) ws p q e = absurd (omega (arith, p))
zip_same (n ∷ ns) [] ws p q e = absurd (omega (arith, p))
zip_same (n ∷ ns) (v ∷ vs) [] p q e = absurd (omega (arith, q))
zip_same (n ∷ ns) (v ∷ vs) (w ∷ ws) p q e =
    let parts = cons_parts (n, v) (n, w) (zip ns vs) (zip ns ws) e in
    let first : v ≡ w = ap (λ (p : Name × Value). p.1) parts.0 in
    let rest : zip ns vs ≡ zip ns ws = parts.1 in
    ap₂ (λ y z. y ∷ z) first (zip_same ns vs ws (omega (arith, p)) (omega (arith, q)) rest)

declared-length : (declared : List (Name × Ty)) → length (map (λ (d : Name × Ty). d.0) declared) ≡ length declared
declared-length [] = refl
declared-length (d ∷ ds) = ap suc (declared-length ds)

same_fields : (es : List IlExp) (declared : List (Name × Ty)) → length es ≡ length declared → SameOperands es (building declared)
same_fields es declared long vs ws v l p q =
    let names : List Name = map (λ (d : Name × Ty). d.0) declared in
    let both : value.Fields (zip names vs) ≡ value.Fields (zip names ws) = limited_is (value.Fields (zip names vs)) v p ∙ sym (limited_is (value.Fields (zip names ws)) v q) in
    let opened : Value-F.Fields (zip names vs) ≡ Value-F.Fields (zip names ws) = sym (value.outs-Fields (zip names vs)) ∙ (ap out-Value both ∙ value.outs-Fields (zip names ws)) in
    let zips : zip names vs ≡ zip names ws = cc in
    let n = lengths_equal es vs ws l in
    let d = declared-length declared in
    zip_same names vs ws (n.0 ∙ (long ∙ sym d)) (n.1 ∙ (long ∙ sym d)) zips

pub form_known : (defs : List SyntaxDef) (e : IlExp) (f : Form) → HasForm defs e f → is_pattern e ≡ true → is_doubly_open e ≡ false → FormKnown (binds e) f
form_known defs e f (by_itself is) h o =
    subst (λ z. FormKnown z f) (sym (binds-level e (out-IlExp e) refl))
    (subst (LevelKnown (out-IlExp e)) is (level_known (out-IlExp e)) (ap (λ (t : Told). t.pattern) (sym (told-level e (out-IlExp e) refl)) ∙ h)
    (ap (λ (l : Lengths). l.doubly_open) (sym (lengths-level e (out-IlExp e) refl)) ∙ o))
form_known defs e f (structure type es declared is has long k) h o =
    subst (FormKnown (binds e)) (sym k) (record {
      singly = all_singly es (ap (λ (l : Lengths). l.doubly_open) (sym (lengths-level e (IlExp-F.Fields type es) is)) ∙ o);
      same = same_fields es declared long;
      binding = binds-level e (IlExp-F.Fields type es) is ∙ ap flattened (names-map es);
    })
form_known defs e f (absent_list type element is means k) h o =
    subst (FormKnown (binds e)) (sym k) (record { singly = tt; same = same_none (constant (value.List [])); binding = binds-level e (IlExp-F.Absent type) is })
form_known defs e f (absent_option type element is means k) h o =
    subst (FormKnown (binds e)) (sym k) (record { singly = tt; same = same_none (constant (value.Opt None)); binding = binds-level e (IlExp-F.Absent type) is })

-- ---- the form of a part of fixed length

abbrev pub FormFixed : Form → Type 0
FormFixed (Strict es f) = SameLengths es f
FormFixed (Variable x) = ⊥
FormFixed (Calls fun es) = ⊥
FormFixed (Iterates how xs body) = IsLiteral how

abbrev LevelFixed : IlExp-F IlExp Iteration ListItem PathSeg → Option Form → Type 0
LevelFixed y None = Unit {0}
LevelFixed y (Some f) = (lengths_of y).fixed ≡ true → FormFixed f

level_fixed : (y : IlExp-F IlExp Iteration ListItem PathSeg) → LevelFixed y (form_at y)
level_fixed (IlExp-F.Fields type es) = tt
level_fixed (IlExp-F.List type items) = λ h. lengths_list items (eqb-true (open_of items) 0 h)
level_fixed (IlExp-F.Cat e g) = λ h. lengths_cat e g (eqb-true (open_parts (lengths e ∷ lengths g ∷ [])) 0 h)
level_fixed (IlExp-F.Absent type) = tt
level_fixed (IlExp-F.Up type e) = λ h. lengths_up e h
level_fixed (IlExp-F.Iter how xs body) = λ h. literal_is how h
level_fixed _ = λ h. absurd (no h)

pub form_fixed : (defs : List SyntaxDef) (e : IlExp) (f : Form) → HasForm defs e f → (lengths e).fixed ≡ true → FormFixed f
form_fixed defs e f (by_itself is) h = subst (LevelFixed (out-IlExp e)) is (level_fixed (out-IlExp e)) (ap (λ (l : Lengths). l.fixed) (sym (lengths-level e (out-IlExp e) refl)) ∙ h)
form_fixed defs e f (structure type es declared is has long k) h = absurd (no (ap (λ (l : Lengths). l.fixed) (sym (lengths-level e (IlExp-F.Fields type es) is)) ∙ h))
form_fixed defs e f (absent_list type element is means k) h = subst FormFixed (sym k) (lengths_constant [] (constant (value.List [])) (value.List []) (λ vs. refl))
form_fixed defs e f (absent_option type element is means k) h = subst FormFixed (sym k) (lengths_constant [] (constant (value.Opt None)) (value.Opt None) (λ vs. refl))
