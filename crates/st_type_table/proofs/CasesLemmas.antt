-- A variant has one list of cases and a record one list of fields, and what is neither has none.
use Rattle.std.proofs.Common.{◌≡◌, sym, ap, ◌∙◌, subst, ℕ, List, [], ◌∷◌, ◌++◌, Option, Some, None}
use Rattle.std.specs.Prelude.{MatchOption, IfNone, IfSome}
use Rattle.std.specs.Borrow.{Bor}
use Rattle.st_il.specs.Key.{PlainKey}
use Rattle.st_il.specs.declared.ty.Ty.{Ty, out-Ty}
use Rattle.st_il.specs.declared.ty.Ty.TheOpen.{Ty-F}
use Rattle.st_il.specs.declared.ty.Ty.TheVariants as ty
use Rattle.st_il.specs.declared.definition.SyntaxDef.{SyntaxDef}
use Rattle.st_il.specs.declared.definition.SyntaxBody.{SyntaxBody}
use Rattle.st_il.specs.declared.definition.Alternative.{Alternative}
use Rattle.st_il.specs.declared.definition.Alternative.TheVariants as alternative
use Rattle.st_type_table.specs.declared.entry.CaseDef.{CaseDef}
use Rattle.st_type_table.specs.declared.entry.Entry.{Entry}
use Rattle.st_type_table.specs.Meaning.{Means, alias_of, alternatives_of, fields_of, listed, recorded, aliased}
use Rattle.st_type_table.specs.Keys.{NoneHasKey, IsFirstWith, IsCaseWith}
use Rattle.st_type_table.specs.Cases.{Brings, Flatten, HasCases, HasFields, or_none}
use Rattle.st_type_table.specs.inner.Kept.{Kept, defs_of, entry_named, entry_at, IsKept, AllSettled, IsSettled}
use Rattle.st_type_table.proofs.KeptLemmas.{named-kept, bodied}
use Rattle.st_type_table.proofs.MeansLemmas.{Means-single}

-- ---- options

pub match_none : {T : Type 0} (P : Type 0) (Q : T → Type 0) (o : Option T) → MatchOption o P Q → IfNone o P
match_none P Q None h = h
match_none P Q (Some x) h = tt

pub match_some : {T : Type 0} (P : Type 0) (Q R : T → Type 0) (o : Option T) → MatchOption o P Q → ((x : T) → Q x → R x) → IfSome o R
match_some P Q R None h f = tt
match_some P Q R (Some x) h f = f x h

module _ (defs : List SyntaxDef) where
  tag_of : Alternative → List ℕ
  tag_of (alternative.Case tag operands) = tag
  tag_of (alternative.Incl name) = name

  -- the case of a list of one
  one_case : (tag rag : List ℕ) (operands others : List Ty) → alternative.Case tag operands ≡ alternative.Case rag others
      → (tag ≡ rag) × (operands ≡ others)
  one_case tag rag operands others e = (cc, cc)

  mutual
    Brings-single : (a : Alternative) (xs ys : List CaseDef) → Brings defs a xs → Brings defs a ys → xs ≡ ys
    Brings-single a xs ys (Brings.own tag operands p q) (Brings.own rag others r s) =
        let both = one_case tag rag operands others (sym p ∙ r) in
        q ∙ (λ i. record { tag = both.0 i; operands = both.1 i } ∷ []) ∙ sym s
    Brings-single a xs ys (Brings.own tag operands p q) (Brings.included name t r m s) = cc
    Brings-single a xs ys (Brings.included name t p m q) (Brings.own tag operands r s) = cc
    Brings-single a xs ys (Brings.included name t p m q) (Brings.included other u r n s) =
        let e : name ≡ other = cc in
        let f : t ≡ u = Means-single defs (ty.Name name) t u m (subst (λ z. Means defs (ty.Name z) u) (sym e) n) in
        Flatten-single (or_none (alternatives_of defs t)) xs ys q (subst (λ z. Flatten defs (or_none (alternatives_of defs z)) ys) (sym f) s)

    pub Flatten-single : (as' : List Alternative) (xs ys : List CaseDef) → Flatten defs as' xs → Flatten defs as' ys → xs ≡ ys
    Flatten-single [] xs ys (Flatten.none p) (Flatten.none q) = p ∙ sym q
    Flatten-single (a ∷ as') xs ys (Flatten.more f r b s p) (Flatten.more g t c u q) =
        let e = Brings-single a f g b c in
        let h = Flatten-single as' r t s u in
        p ∙ (λ i. e i ++ h i) ∙ sym q

  pub HasCases-single : (t : Ty) (xs ys : List CaseDef) → HasCases defs t xs → HasCases defs t ys → xs ≡ ys
  HasCases-single t xs ys p q =
      let e = Means-single defs t p.variant q.variant p.means q.means in
      let d : Some p.alternatives ≡ Some q.alternatives = sym p.declared ∙ ap (alternatives_of defs) e ∙ q.declared in
      let f : p.alternatives ≡ q.alternatives = cc in
      Flatten-single p.alternatives xs ys p.flattened (subst (λ as'. Flatten defs as' ys) (sym f) q.flattened)

  -- the first case with a key, by the cases of the type
  pub CaseWith-found : (t : Ty) (k : PlainKey) (cs : List CaseDef) (o : Option (Bor CaseDef)) → HasCases defs t cs → MatchOption o (NoneHasKey k cs) (λ c. IsFirstWith k cs c.now)
      → MatchOption o ((xs : List CaseDef) → HasCases defs t xs → NoneHasKey k xs) (λ c. IsCaseWith defs t k c.now)
  CaseWith-found t k cs None has none = λ xs h. subst (NoneHasKey k) (HasCases-single t cs xs has h) none
  CaseWith-found t k cs (Some c) has first = record { cases = cs; has = has; first = first }

  pub HasFields-single : (t : Ty) (xs ys : List (List ℕ × Ty)) → HasFields defs t xs → HasFields defs t ys → xs ≡ ys
  HasFields-single t xs ys p q =
      let e = Means-single defs t p.structure q.structure p.means q.means in
      let d : Some xs ≡ Some ys = sym p.declared ∙ ap (fields_of defs) e ∙ q.declared in
      cc

  -- a type whose meaning names no variant has no cases
  pub no_cases : (t u : Ty) → Means defs t u → alternatives_of defs u ≡ None → (cs : List CaseDef) → HasCases defs t cs → ⊥
  no_cases t u m e cs h =
      let s = Means-single defs t u h.variant m h.means in
      let d : None ≡ Some h.alternatives = sym e ∙ ap (alternatives_of defs) s ∙ h.declared in
      cc

  pub no_fields : (t u : Ty) → Means defs t u → fields_of defs u ≡ None → (fs : List (List ℕ × Ty)) → HasFields defs t fs → ⊥
  no_fields t u m e fs h =
      let s = Means-single defs t u h.structure m h.means in
      let d : None ≡ Some fs = sym e ∙ ap (fields_of defs) s ∙ h.declared in
      cc

  -- what means the same has the same cases and fields
  pub moved_cases : (a b t : Ty) → Means defs a t → Means defs b t → (cs : List CaseDef) → HasCases defs a cs → HasCases defs b cs
  moved_cases a b t m n cs h =
      let e = Means-single defs a t h.variant m h.means in
      record { variant = h.variant; alternatives = h.alternatives; means = subst (Means defs b) e n; declared = h.declared; flattened = h.flattened }

  pub moved_fields : (a b t : Ty) → Means defs a t → Means defs b t → (fs : List (List ℕ × Ty)) → HasFields defs a fs → HasFields defs b fs
  moved_fields a b t m n fs h =
      let e = Means-single defs a t h.structure m h.means in
      record { structure = h.structure; means = subst (Means defs b) e n; declared = h.declared }

-- ---- what is kept

pub alias_of-entry : (kept : Kept) (t : Ty) (o : Option Entry) → o ≡ entry_named kept t → aliased (bodied o) ≡ alias_of (defs_of kept) t
alias_of-entry kept t o e = ap (λ z. aliased (bodied z)) e ∙ ap aliased (sym (named-kept kept t))

pub alternatives_of-entry : (kept : Kept) (t : Ty) (o : Option Entry) → o ≡ entry_named kept t → listed (bodied o) ≡ alternatives_of (defs_of kept) t
alternatives_of-entry kept t o e = ap (λ z. listed (bodied z)) e ∙ ap listed (sym (named-kept kept t))

pub fields_of-entry : (kept : Kept) (t : Ty) (o : Option Entry) → o ≡ entry_named kept t → recorded (bodied o) ≡ fields_of (defs_of kept) t
fields_of-entry kept t o e = ap (λ z. recorded (bodied z)) e ∙ ap recorded (sym (named-kept kept t))

settled_at : (kept : Kept) → AllSettled kept → (l : Ty-F Ty) (e : Entry) → Some e ≡ entry_at kept l → IsSettled kept e e.body
settled_at kept right (Ty-F.Name name) e p = right name e (sym p)
settled_at kept right Ty-F.Bool e p = cc
settled_at kept right Ty-F.Nat e p = cc
settled_at kept right Ty-F.Int e p = cc
settled_at kept right Ty-F.Text e p = cc
settled_at kept right (Ty-F.List x) e p = cc
settled_at kept right (Ty-F.Opt x) e p = cc
settled_at kept right (Ty-F.Tuple xs) e p = cc

-- the entry that a type names is right
pub settled : (kept : Kept) → IsKept kept → (t : Ty) (e : Entry) (b : SyntaxBody) → Some e ≡ entry_named kept t → e.body ≡ b → IsSettled kept e b
settled kept right t e b p q = subst (IsSettled kept e) q (settled_at kept right.settled (out-Ty t) e p)
