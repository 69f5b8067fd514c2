-- What a pattern binds, by what its parts bind.
use Rattle.std.proofs.Common.{◌≡◌, refl, sym, ◌∙◌, ap, ap₂, subst, List, [], ◌∷◌, ◌++◌, map, inl, inr, Bool, true, false}
use Rattle.st_il.specs.declared.expression.IlExp.{IlExp, out-IlExp, roll-IlExp, roll-out-IlExp, map-IlExp}
use Rattle.st_il.specs.declared.expression.IlExp.TheVariants as exp
use Rattle.st_il.specs.declared.expression.IlExp.TheOpen.{IlExp-F}
use Rattle.st_il.specs.declared.expression.Iteration.{Iteration}
use Rattle.st_il.specs.declared.expression.ListItem.{ListItem}
use Rattle.st_il.specs.declared.expression.PathSeg.{PathSeg}
use Rattle.st_il.specs.declared.ty.Ty.{Ty}
use Rattle.st_il.specs.Names.{Name, has_name, flattened, among, without}
use Rattle.st_semantics.specs.Operands.{item_exp}
use Rattle.st_semantics.specs.Iterations.{count_of, index_of}
use Rattle.st_semantics.specs.Patterns.{Told, told, told_at, told_item, is_pattern, has_simple_count, binds}
use Rattle.st_semantics.proofs.Names.{within-cases, within-left, within-right, or-left, or-right}
use Rattle.st_semantics.proofs.PatternParts.{told_segment, told-level}
use Rattle.st_semantics.proofs.PatternForms.{bound as what_is_bound, bound_of, binds-level, names-map, items-names, own_of, own_variable, iteration-own, iteration-index}
use Rattle.st_match.specs.inner.Covering.{joined, bound, all_bound}

same_bound : (xs ys : List Name) (x : Name) → xs ≡ ys → has_name xs x ≡ true → has_name ys x ≡ true
same_bound xs ys x e h = subst (λ z. has_name z x ≡ true) e h

-- ---- by forms

pub binds-Var : (p : IlExp) (y : Name) → out-IlExp p ≡ IlExp-F.Var y → (x : Name) → bound p x ≡ true → has_name (y ∷ []) x ≡ true
binds-Var p y o x h = same_bound (binds p) (y ∷ []) x (binds-level p (IlExp-F.Var y) o) h

pub binds-Case : (p : IlExp) (t tag : Name) (ps : List IlExp) → out-IlExp p ≡ IlExp-F.Case t tag ps → (x : Name) → bound p x ≡ true → all_bound ps x ≡ true
binds-Case p t tag ps o x h = same_bound (binds p) (flattened (map binds ps)) x (binds-level p (IlExp-F.Case t tag ps) o ∙ ap flattened (names-map ps)) h

pub binds-Fields : (p : IlExp) (t : Name) (ps : List IlExp) → out-IlExp p ≡ IlExp-F.Fields t ps → (x : Name) → bound p x ≡ true → all_bound ps x ≡ true
binds-Fields p t ps o x h = same_bound (binds p) (flattened (map binds ps)) x (binds-level p (IlExp-F.Fields t ps) o ∙ ap flattened (names-map ps)) h

pub binds-Tuple : (p : IlExp) (ps : List IlExp) → out-IlExp p ≡ IlExp-F.Tuple ps → (x : Name) → bound p x ≡ true → all_bound ps x ≡ true
binds-Tuple p ps o x h = same_bound (binds p) (flattened (map binds ps)) x (binds-level p (IlExp-F.Tuple ps) o ∙ ap flattened (names-map ps)) h

pub binds-List : (p : IlExp) (t : Ty) (items : List ListItem) → out-IlExp p ≡ IlExp-F.List t items → (x : Name) → bound p x ≡ true → all_bound (map item_exp items) x ≡ true
binds-List p t items o x h = same_bound (binds p) (flattened (map binds (map item_exp items))) x (binds-level p (IlExp-F.List t items) o ∙ ap flattened (items-names items)) h

pub only_part : (e : IlExp) (x : Name) → all_bound (e ∷ []) x ≡ true → bound e x ≡ true
only_part e x h = elim (within-cases (binds e) [] x h) [ inl k ↦ k | inr k ↦ cc ]

pub first_part : (e : IlExp) (es : List IlExp) (x : Name) → all_bound (e ∷ es) x ≡ true → joined (bound e) (all_bound es) x ≡ true
first_part e es x h = elim (within-cases (binds e) (flattened (map binds es)) x h) [ inl k ↦ or-left (bound e x) (all_bound es x) k | inr k ↦ or-right (bound e x) (all_bound es x) k ]

pub binds-Up : (p : IlExp) (t : Ty) (e : IlExp) → out-IlExp p ≡ IlExp-F.Up t e → (x : Name) → bound p x ≡ true → bound e x ≡ true
binds-Up p t e o x h = only_part e x (same_bound (binds p) (flattened (map binds (e ∷ []))) x (binds-level p (IlExp-F.Up t e) o) h)

pub binds-Present : (p e : IlExp) → out-IlExp p ≡ IlExp-F.Present e → (x : Name) → bound p x ≡ true → bound e x ≡ true
binds-Present p e o x h = only_part e x (same_bound (binds p) (flattened (map binds (e ∷ []))) x (binds-level p (IlExp-F.Present e) o) h)

pub binds-Cat : (p e g : IlExp) → out-IlExp p ≡ IlExp-F.Cat e g → (x : Name) → bound p x ≡ true → joined (bound e) (bound g) x ≡ true
binds-Cat p e g o x h = elim (within-cases (binds e) (flattened (map binds (g ∷ []))) x (same_bound (binds p) (flattened (map binds (e ∷ g ∷ []))) x (binds-level p (IlExp-F.Cat e g) o) h)) [
  | inl k ↦ or-left (bound e x) (bound g x) k
  | inr k ↦ or-right (bound e x) (bound g x) (only_part g x k)
]

-- ---- iterations

-- what is bound as a count is bound by the count
own_bound : (es : List IlExp) (x : Name) → has_name (flattened (map (λ (e : IlExp). (what_is_bound e).own) es)) x ≡ true → all_bound es x ≡ true
own_bound [] x h = cc
own_bound (e ∷ es) x h = elim (within-cases (what_is_bound e).own (flattened (map (λ (e : IlExp). (what_is_bound e).own) es)) x h) [
  | inl k ↦ (let v = own_variable e x k in
      within-left (binds e) (flattened (map binds es)) x (same_bound (what_is_bound e).own (binds e) x (v.2 ∙ sym (binds-level e (IlExp-F.Var v.0) v.1)) k))
  | inr k ↦ within-right (binds e) (flattened (map binds es)) x (own_bound es x k)
]

-- the iterated variables that the body binds
abbrev pub iterated : Iteration → List Name → IlExp → List Name
iterated how xs body = among xs (without (index_of how) (binds body))

pub binds-Iter : (p : IlExp) (how : Iteration) (xs : List Name) (body : IlExp) → out-IlExp p ≡ IlExp-F.Iter how xs body → (x : Name) → bound p x ≡ true
    → joined (all_bound (count_of how)) (has_name (iterated how xs body)) x ≡ true
binds-Iter p how xs body o x h = elim (within-cases (own_of how) (iterated how xs body) x
    (same_bound (binds p) (own_of how ++ iterated how xs body) x
    (binds-level p (IlExp-F.Iter how xs body) o ∙ ap₂ (λ a b. a ++ among xs (without b (binds body))) (iteration-own how) (iteration-index how)) h)) [
      | inl k ↦ or-left (all_bound (count_of how) x) (has_name (iterated how xs body) x) (own_bound (count_of how) x k)
      | inr k ↦ or-right (all_bound (count_of how) x) (has_name (iterated how xs body) x) k
    ]

-- ---- a pattern of no other form binds nothing

no : false ≡ true → ⊥
no e = cc

whole : (p : IlExp) (y : IlExp-F IlExp Iteration ListItem PathSeg) → out-IlExp p ≡ y → p ≡ roll-IlExp y
whole p y o = sym (roll-out-IlExp p) ∙ ap roll-IlExp o

module _ (p : IlExp) (x : Name) (nv : (y : Name) → p ≡ exp.Var y → ⊥) (nu : (t : Ty) (e : IlExp) → p ≡ exp.Up t e → ⊥) (nc : (t tag : Name) (ps : List IlExp) → p ≡ exp.Case t tag ps → ⊥)
    (nf : (t : Name) (ps : List IlExp) → p ≡ exp.Fields t ps → ⊥) (nt : (ps : List IlExp) → p ≡ exp.Tuple ps → ⊥) (np : (e : IlExp) → p ≡ exp.Present e → ⊥)
    (nl : (t : Ty) (items : List ListItem) → p ≡ exp.List t items → ⊥) (nk : (e g : IlExp) → p ≡ exp.Cat e g → ⊥) (ni : (how : Iteration) (xs : List Name) (e : IlExp) → p ≡ exp.Iter how xs e → ⊥) where
  other_level : (y : IlExp-F IlExp Iteration ListItem PathSeg) → out-IlExp p ≡ y
      → (told_at (map-IlExp IlExp Iteration ListItem PathSeg Told Bool Told (List Told) told has_simple_count told_item told_segment y)).pattern ≡ true → has_name ((bound_of y).names) x ≡ true → ⊥
  other_level (IlExp-F.Var y) o pat h = nv y (whole p (IlExp-F.Var y) o ∙ exp.rolls-Var y)
  other_level (IlExp-F.Up t e) o pat h = nu t e (whole p (IlExp-F.Up t e) o ∙ exp.rolls-Up t e)
  other_level (IlExp-F.Case t tag ps) o pat h = nc t tag ps (whole p (IlExp-F.Case t tag ps) o ∙ exp.rolls-Case t tag ps)
  other_level (IlExp-F.Fields t ps) o pat h = nf t ps (whole p (IlExp-F.Fields t ps) o ∙ exp.rolls-Fields t ps)
  other_level (IlExp-F.Tuple ps) o pat h = nt ps (whole p (IlExp-F.Tuple ps) o ∙ exp.rolls-Tuple ps)
  other_level (IlExp-F.Present e) o pat h = np e (whole p (IlExp-F.Present e) o ∙ exp.rolls-Present e)
  other_level (IlExp-F.List t items) o pat h = nl t items (whole p (IlExp-F.List t items) o ∙ exp.rolls-List t items)
  other_level (IlExp-F.Cat e g) o pat h = nk e g (whole p (IlExp-F.Cat e g) o ∙ exp.rolls-Cat e g)
  other_level (IlExp-F.Iter how xs e) o pat h = ni how xs e (whole p (IlExp-F.Iter how xs e) o ∙ exp.rolls-Iter how xs e)
  other_level (IlExp-F.Bool b) o pat h = no h
  other_level (IlExp-F.Number n) o pat h = no h
  other_level (IlExp-F.Text b) o pat h = no h
  other_level (IlExp-F.Empty t) o pat h = no h
  other_level (IlExp-F.Absent t) o pat h = no h
  other_level _ o pat h = no pat

  pub binds-other : is_pattern p ≡ true → bound p x ≡ true → ⊥
  binds-other pat h = other_level (out-IlExp p) refl (ap (λ (t : Told). t.pattern) (sym (told-level p (out-IlExp p) refl)) ∙ pat) (same_bound (binds p) ((bound_of (out-IlExp p)).names) x (binds-level p (out-IlExp p) refl) h)
