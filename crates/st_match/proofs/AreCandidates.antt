-- What the parts of a pattern are given covers what the pattern is given.
use Rattle.std.proofs.Common.{◌≡◌, ℕ, suc, ◌+◌, ◌<◌, ◌≤◌, pos, refl, sym, ◌∙◌, ap, subst, List, [], ◌∷◌, ◌++◌, map, length, take, drop, zip, get_or, Bool, true, false, not, ◌&&◌, nat_eq, Some, None, arith, length-append}
use Rattle.std.specs.List.{list_all}
use Rattle.std.specs.Cmp.Lexicographic.{pointwise}
use Rattle.std.proofs.lemmas.Slice.Eq.{bytes_eq-Decides}
use Rattle.std.proofs.lemmas.List.{take_at, drop_at, drop_more, drop_all}
use Rattle.st_il.specs.declared.definition.SyntaxDef.{SyntaxDef}
use Rattle.st_il.specs.declared.expression.IlExp.{IlExp, out-IlExp}
use Rattle.st_il.specs.declared.expression.IlExp.TheOpen.{IlExp-F, ListItem-F}
use Rattle.st_il.specs.declared.expression.IlExp.TheVariants as exp
use Rattle.st_il.specs.declared.expression.Iteration.{Iteration}
use Rattle.st_il.specs.declared.expression.ListItem.{ListItem, out-ListItem}
use Rattle.st_il.specs.declared.ty.Ty.{Ty}
use Rattle.st_il.specs.declared.value.Env.{Env}
use Rattle.st_il.specs.declared.value.Value.{Value, out-Value}
use Rattle.st_il.specs.declared.value.Value.TheOpen.{Value-F}
use Rattle.st_il.specs.declared.value.Value.TheVariants as value
use Rattle.st_il.specs.Names.{Name, has_name}
use Rattle.st_semantics.specs.Operands.{item_at, item_exp}
use Rattle.st_semantics.specs.Forms.{Strict, form_at, by_itself}
use Rattle.st_semantics.specs.Iterations.{count_of}
use Rattle.st_semantics.specs.Patterns.{is_pattern}
use Rattle.st_semantics.proofs.Names.{and-both}
use Rattle.st_semantics.proofs.PatternParts.{pattern-form}
use Rattle.st_match.specs.inner.Fitting.{Fits, FitAll, FitItems, FitSplit, FitCut, FitCount, HasValue, field_values}
use Rattle.st_match.specs.inner.Covering.{Names, joined, bound, all_bound, Stands, OneOf, Covers, AreCandidates, AreCandidatesOfAll, AreCandidatesOfItems, AreCandidatesOfSplit, AreCandidatesOfCut, AreCandidatesOfCount, AreCandidatesOfEach, AreCandidatesOfCuts}
use Rattle.st_match.proofs.Covers.{OneOf-fewer, Covers-none, Covers-never, Covers-nothing, Covers-same, Covers-then, Covers-weaken, Covers-left, Covers-right, each_number, joined_more}
use Rattle.st_match.proofs.Binds.{binds-Var, binds-Case, binds-Fields, binds-Tuple, binds-List, binds-Up, binds-Present, binds-Cat, first_part, only_part}
use Rattle.st_match.proofs.Fits.{Fits-Var, Fits-Case, Fits-Tuple, Fits-List, Fits-Present, Fits-Up, Fits-Cat, Fits-Fields, FitItems-none, FitItems-One, FitItems-All}

-- ---- a whole from its parts

-- what covers a fact that follows covers the pattern
pub AreCandidates-by : (p : IlExp) (v : Value) (G : List SyntaxDef → Env → Type 0) (n : Names) (es fs : List Env) → ((x : Name) → bound p x ≡ true → n x ≡ true)
    → ((defs : List SyntaxDef) (s : Env) → is_pattern p ≡ true → Fits defs p v s → G defs s × Covers (G defs) n es fs) → AreCandidates p v es fs
AreCandidates-by p v G n es fs names inverse = record {
  cover = λ defs pat. record {
    covers = λ s b f a.
        let r = inverse defs s pat f in
        OneOf-fewer s (joined b n) (joined b (bound p)) fs (joined_more b n (bound p) names) (r.1.covers s b r.0 a);
  };
}

pub AreCandidates-none : (p : IlExp) (v : Value) (es fs : List Env) → fs ≡ [] → ((defs : List SyntaxDef) (s : Env) → Fits defs p v s → ⊥) → AreCandidates p v es fs
AreCandidates-none p v es fs is h = subst (AreCandidates p v es) (sym is) (record { cover = λ defs pat. Covers-none (Fits defs p v) (bound p) es (h defs) })

-- a pattern that binds nothing
pub AreCandidates-same : (p : IlExp) (v : Value) (es fs : List Env) → fs ≡ es → (is_pattern p ≡ true → (x : Name) → bound p x ≡ true → ⊥) → AreCandidates p v es fs
AreCandidates-same p v es fs is h = subst (AreCandidates p v es) (sym is) (record { cover = λ defs pat. Covers-same (Fits defs p v) (bound p) es (h pat) })

-- ---- names

names_apart : (b : Bool) → true ≡ not b → b ≡ true → ⊥
names_apart true e h = cc
names_apart false e h = cc

pub names-differ : (x y : Name) → true ≡ not (pointwise nat_eq x y) → x ≡ y → ⊥
names-differ x y e p = names_apart (pointwise nat_eq x y) e ((bytes_eq-Decides x y).1 p)

-- ---- parts of equal values

pub Case-parts : (a b : Name) (xs ys : List Value) → value.Case a xs ≡ value.Case b ys → (a ≡ b) × (xs ≡ ys)
Case-parts a b xs ys e =
    let o : Value-F.Case a xs ≡ Value-F.Case b ys = sym (value.outs-Case a xs) ∙ (ap out-Value e ∙ value.outs-Case b ys) in (cc, cc)

pub Tuple-parts : (xs ys : List Value) → value.Tuple xs ≡ value.Tuple ys → xs ≡ ys
Tuple-parts xs ys e = let o : Value-F.Tuple xs ≡ Value-F.Tuple ys = sym (value.outs-Tuple xs) ∙ (ap out-Value e ∙ value.outs-Tuple ys) in cc

pub List-parts : (xs ys : List Value) → value.List xs ≡ value.List ys → xs ≡ ys
List-parts xs ys e = let o : Value-F.List xs ≡ Value-F.List ys = sym (value.outs-List xs) ∙ (ap out-Value e ∙ value.outs-List ys) in cc

pub Fields-parts : (xs ys : List (Name × Value)) → value.Fields xs ≡ value.Fields ys → xs ≡ ys
Fields-parts xs ys e = let o : Value-F.Fields xs ≡ Value-F.Fields ys = sym (value.outs-Fields xs) ∙ (ap out-Value e ∙ value.outs-Fields ys) in cc

pub Present-part : (x y : Value) → value.Opt (Some x) ≡ value.Opt (Some y) → x ≡ y
Present-part x y e = let o : Value-F.Opt (Some x) ≡ Value-F.Opt (Some y) = sym (value.outs-Opt (Some x)) ∙ (ap out-Value e ∙ value.outs-Opt (Some y)) in cc

absent_part : (x : Value) → value.Opt None ≡ value.Opt (Some x) → ⊥
absent_part x e = let o : Value-F.Opt None ≡ Value-F.Opt (Some x) = sym (value.outs-Opt None) ∙ (ap out-Value e ∙ value.outs-Opt (Some x)) in cc

-- a pattern that differs from others in a type alone
pub AreCandidates-form : {T X : Type 0} (form : T → X → IlExp) (p : IlExp) (type : T) (x y : X) (v : Value) (es fs : List Env) → p ≡ form type x → y ≡ x
    → AreCandidatesOfEach (λ t. form t y) v es fs → AreCandidates p v es fs
AreCandidates-form form p type x y v es fs is same c = subst (λ z. AreCandidates z v es fs) (ap (form type) same ∙ sym is) (c.are type)

-- a pattern that is another one
pub AreCandidates-equal : (p q : IlExp) (v : Value) (es fs : List Env) → q ≡ p → AreCandidates q v es fs → AreCandidates p v es fs
AreCandidates-equal p q v es fs same c = subst (λ z. AreCandidates z v es fs) same c

-- ---- the forms

pub candidates-Var : (p : IlExp) (x : Name) (v : Value) (es fs : List Env) → out-IlExp p ≡ IlExp-F.Var x → Covers (HasValue x v) (has_name (x ∷ [])) es fs → AreCandidates p v es fs
candidates-Var p x v es fs o c = AreCandidates-by p v (λ defs s. HasValue x v s) (has_name (x ∷ [])) es fs (binds-Var p x o) (λ defs s pat f. (Fits-Var defs s p x v o f, c))

pub candidates-Up : (p : IlExp) (t : Ty) (e g : IlExp) (v : Value) (es fs : List Env) → out-IlExp p ≡ IlExp-F.Up t e → g ≡ e → AreCandidates g v es fs → AreCandidates p v es fs
candidates-Up p t e g v es fs o same c = AreCandidates-by p v (λ defs s. Fits defs e v s) (bound e) es fs (binds-Up p t e o)
    (λ defs s pat f. (
      Fits-Up defs s p t e v o f,
      (subst (λ z. AreCandidates z v es fs) same c).cover defs (and-both (is_pattern e) true (pattern-form defs p (Strict (e ∷ []) _) (by_itself (ap form_at o)) pat)).0,
    ))

pub candidates-Case : (p : IlExp) (t tag other : Name) (ps : List IlExp) (v : Value) (vs ws : List Value) (es fs : List Env) → out-IlExp p ≡ IlExp-F.Case t tag ps → v ≡ value.Case other vs → ws ≡ vs
    → AreCandidatesOfAll ps ws es fs → AreCandidates p v es fs
candidates-Case p t tag other ps v vs ws es fs o is same c = AreCandidates-by p v (λ defs s. FitAll defs ps vs s) (all_bound ps) es fs (binds-Case p t tag ps o)
    (λ defs s pat f.
    let r = Fits-Case defs s p t tag ps v o f in (
      subst (λ z. FitAll defs ps z s) (Case-parts tag other r.0 vs (r.2 ∙ is)).1 r.1,
      (subst (λ z. AreCandidatesOfAll ps z es fs) same c).cover defs (pattern-form defs p (Strict ps _) (by_itself (ap form_at o)) pat),
    ))

pub candidates-Case-other : (p : IlExp) (t tag other : Name) (ps : List IlExp) (v : Value) (vs : List Value) (es fs : List Env) → out-IlExp p ≡ IlExp-F.Case t tag ps → v ≡ value.Case other vs
    → (tag ≡ other → ⊥) → fs ≡ [] → AreCandidates p v es fs
candidates-Case-other p t tag other ps v vs es fs o is differ none = AreCandidates-none p v es fs none
    (λ defs s f. let r = Fits-Case defs s p t tag ps v o f in differ (Case-parts tag other r.0 vs (r.2 ∙ is)).0)

pub candidates-Case-none : (p : IlExp) (t tag : Name) (ps : List IlExp) (v : Value) (es fs : List Env) → out-IlExp p ≡ IlExp-F.Case t tag ps → ((tag : Name) (vs : List Value) → v ≡ value.Case tag vs → ⊥)
    → fs ≡ [] → AreCandidates p v es fs
candidates-Case-none p t tag ps v es fs o not none = AreCandidates-none p v es fs none (λ defs s f. let r = Fits-Case defs s p t tag ps v o f in not tag r.0 (sym r.2))

pub candidates-Tuple : (p : IlExp) (ps : List IlExp) (v : Value) (vs ws : List Value) (es fs : List Env) → out-IlExp p ≡ IlExp-F.Tuple ps → v ≡ value.Tuple vs → ws ≡ vs
    → AreCandidatesOfAll ps ws es fs → AreCandidates p v es fs
candidates-Tuple p ps v vs ws es fs o is same c = AreCandidates-by p v (λ defs s. FitAll defs ps vs s) (all_bound ps) es fs (binds-Tuple p ps o)
    (λ defs s pat f.
    let r = Fits-Tuple defs s p ps v o f in (
      subst (λ z. FitAll defs ps z s) (Tuple-parts r.0 vs (r.2 ∙ is)) r.1,
      (subst (λ z. AreCandidatesOfAll ps z es fs) same c).cover defs (pattern-form defs p (Strict ps _) (by_itself (ap form_at o)) pat),
    ))

pub candidates-Tuple-none : (p : IlExp) (ps : List IlExp) (v : Value) (es fs : List Env) → out-IlExp p ≡ IlExp-F.Tuple ps → ((vs : List Value) → v ≡ value.Tuple vs → ⊥) → fs ≡ [] → AreCandidates p v es fs
candidates-Tuple-none p ps v es fs o not none = AreCandidates-none p v es fs none (λ defs s f. let r = Fits-Tuple defs s p ps v o f in not r.0 (sym r.2))

zip_values : (names : List Name) (vs : List Value) → length names ≡ length vs → field_values (zip names vs) ≡ vs
zip_values [] [] e = refl
zip_values [] (v ∷ vs) e = absurd (omega (arith, e))
zip_values (n ∷ ns) [] e = absurd (omega (arith, e))
zip_values (n ∷ ns) (v ∷ vs) e = ap (λ z. v ∷ z) (zip_values ns vs (omega (arith, e)))

pub candidates-Fields : (p : IlExp) (t : Name) (ps : List IlExp) (v : Value) (xs ys : List (Name × Value)) (es fs : List Env) → out-IlExp p ≡ IlExp-F.Fields t ps → v ≡ value.Fields xs → ys ≡ xs
    → AreCandidatesOfAll ps (field_values ys) es fs → AreCandidates p v es fs
candidates-Fields p t ps v xs ys es fs o is same c = AreCandidates-by p v (λ defs s. FitAll defs ps (field_values xs) s) (all_bound ps) es fs (binds-Fields p t ps o)
    (λ defs s pat f.
    let r = Fits-Fields defs s p t ps v o pat f in
    let values : r.2 ≡ field_values xs = sym (zip_values r.1 r.2 r.4) ∙ ap field_values (Fields-parts (zip r.1 r.2) xs (r.5 ∙ is)) in (
      subst (λ z. FitAll defs ps z s) values r.3,
      (subst (λ z. AreCandidatesOfAll ps (field_values z) es fs) same c).cover defs r.0,
    ))

pub candidates-Fields-none : (p : IlExp) (t : Name) (ps : List IlExp) (v : Value) (es fs : List Env) → out-IlExp p ≡ IlExp-F.Fields t ps → ((xs : List (Name × Value)) → v ≡ value.Fields xs → ⊥)
    → fs ≡ [] → AreCandidates p v es fs
candidates-Fields-none p t ps v es fs o not none = subst (AreCandidates p v es) (sym none) (AreCandidates-by p v (λ defs s. ⊥) (all_bound ps) es [] (binds-Fields p t ps o)
    (λ defs s pat f. let r = Fits-Fields defs s p t ps v o pat f in absurd (not (zip r.1 r.2) (sym r.5))))

pub candidates-Present : (p e : IlExp) (v w z : Value) (es fs : List Env) → out-IlExp p ≡ IlExp-F.Present e → v ≡ value.Opt (Some w) → z ≡ w → AreCandidates e z es fs → AreCandidates p v es fs
candidates-Present p e v w z es fs o is same c = AreCandidates-by p v (λ defs s. Fits defs e w s) (bound e) es fs (binds-Present p e o)
    (λ defs s pat f.
    let r = Fits-Present defs s p e v o f in (
      subst (λ z. Fits defs e z s) (Present-part r.0 w (r.2 ∙ is)) r.1,
      (subst (λ z. AreCandidates e z es fs) same c).cover defs (and-both (is_pattern e) true (pattern-form defs p (Strict (e ∷ []) _) (by_itself (ap form_at o)) pat)).0,
    ))

pub candidates-Present-absent : (p e : IlExp) (v : Value) (es fs : List Env) → out-IlExp p ≡ IlExp-F.Present e → v ≡ value.Opt None → fs ≡ [] → AreCandidates p v es fs
candidates-Present-absent p e v es fs o is none = AreCandidates-none p v es fs none (λ defs s f. let r = Fits-Present defs s p e v o f in absent_part r.0 (sym is ∙ sym r.2))

pub candidates-Present-none : (p e : IlExp) (v : Value) (es fs : List Env) → out-IlExp p ≡ IlExp-F.Present e → ((w : Value) → v ≡ value.Opt (Some w) → ⊥) → fs ≡ [] → AreCandidates p v es fs
candidates-Present-none p e v es fs o not none = AreCandidates-none p v es fs none (λ defs s f. let r = Fits-Present defs s p e v o f in not r.0 (sym r.2))

pub candidates-List : (p : IlExp) (t : Ty) (items : List ListItem) (v : Value) (vs ws : List Value) (es fs : List Env) → out-IlExp p ≡ IlExp-F.List t items → v ≡ value.List vs → ws ≡ vs
    → AreCandidatesOfItems items ws es fs → AreCandidates p v es fs
candidates-List p t items v vs ws es fs o is same c = AreCandidates-by p v (λ defs s. FitItems defs items vs s) (all_bound (map item_exp items)) es fs (binds-List p t items o)
    (λ defs s pat f.
    let r = Fits-List defs s p t items v o f in (
      subst (λ z. FitItems defs items z s) (List-parts r.0 vs (r.2 ∙ is)) r.1,
      (subst (λ z. AreCandidatesOfItems items z es fs) same c).cover defs (pattern-form defs p (Strict (map item_exp items) _) (by_itself (ap form_at o)) pat),
    ))

pub candidates-List-none : (p : IlExp) (t : Ty) (items : List ListItem) (v : Value) (es fs : List Env) → out-IlExp p ≡ IlExp-F.List t items → ((vs : List Value) → v ≡ value.List vs → ⊥) → fs ≡ [] → AreCandidates p v es fs
candidates-List-none p t items v es fs o not none = AreCandidates-none p v es fs none (λ defs s f. let r = Fits-List defs s p t items v o f in not r.0 (sym r.2))

append_front : (xs ys vs : List Value) → xs ++ ys ≡ vs → (xs ≡ take (length xs) vs) × (ys ≡ drop (length xs) vs)
append_front xs ys vs is = (sym (take_at xs ys (length xs) refl) ∙ ap (take (length xs)) is, sym (drop_at xs ys (length xs) refl) ∙ ap (drop (length xs)) is)

pub candidates-Cat : (p e g : IlExp) (v : Value) (vs ws : List Value) (es fs : List Env) → out-IlExp p ≡ IlExp-F.Cat e g → v ≡ value.List vs → ws ≡ vs
    → ((k : ℕ) → k ≤ length ws → AreCandidatesOfCut e g ws k es fs) → AreCandidates p v es fs
candidates-Cat p e g v vs ws es fs o is same c = record {
  cover = λ defs pat. record {
    covers = λ s b f a.
        let r = Fits-Cat defs s p e g v o f in
        let pats = and-both (is_pattern e) (is_pattern g && true) (pattern-form defs p (Strict (e ∷ g ∷ []) _) (by_itself (ap form_at o)) pat) in
        let whole : r.0 ++ r.1 ≡ ws = List-parts (r.0 ++ r.1) vs (r.4 ∙ is) ∙ sym same in
        let parts = append_front r.0 r.1 ws whole in
        let few : length r.0 ≤ length ws = omega (arith, length-append r.0 r.1, ap length whole) in
        let cut = (c (length r.0) few).cover defs pats.0 (and-both (is_pattern g) true pats.1).0 in
        let fit : FitCut defs e g ws (length r.0) s = (subst (λ z. Fits defs e (value.List z) s) parts.0 r.2, subst (λ z. Fits defs g (value.List z) s) parts.1 r.3) in
        OneOf-fewer s (joined b (joined (bound e) (bound g))) (joined b (bound p)) fs (joined_more b (joined (bound e) (bound g)) (bound p) (binds-Cat p e g o)) (cut.covers s b fit a);
  };
}

pub candidates-Cat-none : (p e g : IlExp) (v : Value) (es fs : List Env) → out-IlExp p ≡ IlExp-F.Cat e g → ((vs : List Value) → v ≡ value.List vs → ⊥) → fs ≡ [] → AreCandidates p v es fs
candidates-Cat-none p e g v es fs o not none = AreCandidates-none p v es fs none (λ defs s f. let r = Fits-Cat defs s p e g v o f in not (r.0 ++ r.1) (sym r.4))

-- ---- a cut and a split

pub cut_here : (e g : IlExp) (vs : List Value) (k : ℕ) (v w : Value) (es hs gs fs : List Env) → v ≡ value.List (take k vs) → w ≡ value.List (drop k vs) → gs ≡ hs
    → AreCandidates e v es hs → AreCandidates g w gs fs → AreCandidatesOfCut e g vs k es fs
cut_here e g vs k v w es hs gs fs iv iw ih c d = record {
  cover = λ defs pe pg. Covers-then (Fits defs e (value.List (take k vs))) (Fits defs g (value.List (drop k vs))) (bound e) (bound g) es hs fs
      ((subst (λ z. AreCandidates e z es hs) iv c).cover defs pe)
      ((subst (λ z. AreCandidates g z hs fs) iw (subst (λ z. AreCandidates g w z fs) ih d)).cover defs pg);
}

-- the same of the sides of a pattern
pub cut_of : (p e g a b left right : IlExp) (vs : List Value) (k : ℕ) (ws : List Value) (es hs gs fs : List Env) → p ≡ exp.Cat e g → p ≡ exp.Cat left right → a ≡ e → b ≡ g → ws ≡ drop k vs → gs ≡ hs
    → AreCandidates a (value.List (take k vs)) es hs → AreCandidates b (value.List ws) gs fs → AreCandidatesOfCut left right vs k es fs
cut_of p e g a b left right vs k ws es hs gs fs is same ea eb ew eg c d =
    let both : IlExp-F.Cat e g ≡ IlExp-F.Cat left right = sym (exp.outs-Cat e g) ∙ (ap out-IlExp (sym is ∙ same) ∙ exp.outs-Cat left right) in
    let first : a ≡ left = ea ∙ cc in
    let second : b ≡ right = eb ∙ cc in
    cut_here left right vs k (value.List (take k vs)) (value.List ws) es hs gs fs refl (ap value.List ew) eg (subst (λ z. AreCandidates z (value.List (take k vs)) es hs) first c) (subst (λ z. AreCandidates z (value.List ws) gs fs) second d)

pub cut_left : (e g : IlExp) (vs : List Value) (es : List Env) (k : ℕ) (fs gs : List Env) → AreCandidatesOfCut e g vs k es fs → AreCandidatesOfCut e g vs k es (fs ++ gs)
cut_left e g vs es k fs gs c = record { cover = λ defs pe pg. Covers-left (FitCut defs e g vs k) (joined (bound e) (bound g)) es fs gs (c.cover defs pe pg) }

pub cut_right : (e g : IlExp) (vs : List Value) (es : List Env) (k : ℕ) (fs gs : List Env) → AreCandidatesOfCut e g vs k es gs → AreCandidatesOfCut e g vs k es (fs ++ gs)
cut_right e g vs es k fs gs c = record { cover = λ defs pe pg. Covers-right (FitCut defs e g vs k) (joined (bound e) (bound g)) es fs gs (c.cover defs pe pg) }

pub split_here : (e : IlExp) (rest : List ListItem) (vs ws : List Value) (k : ℕ) (v : Value) (es hs gs fs : List Env) → v ≡ value.List (take k vs) → ws ≡ drop k vs → gs ≡ hs
    → AreCandidates e v es hs → AreCandidatesOfItems rest ws gs fs → AreCandidatesOfSplit e rest vs k es fs
split_here e rest vs ws k v es hs gs fs iv iw ih c d = record {
  cover = λ defs pats.
      let b = and-both (is_pattern e) (list_all is_pattern (map item_exp rest)) pats in
      Covers-weaken (FitSplit defs e rest vs k) (FitSplit defs e rest vs k) (joined (bound e) (all_bound (map item_exp rest))) (all_bound (e ∷ map item_exp rest)) es fs (λ s f. f)
      (first_part e (map item_exp rest))
      (Covers-then (Fits defs e (value.List (take k vs))) (FitItems defs rest (drop k vs)) (bound e) (all_bound (map item_exp rest)) es hs fs
      ((subst (λ z. AreCandidates e z es hs) iv c).cover defs b.0)
      ((subst (λ z. AreCandidatesOfItems rest z hs fs) iw (subst (λ z. AreCandidatesOfItems rest ws z fs) ih d)).cover defs b.1));
}

pub split_left : (e : IlExp) (rest : List ListItem) (vs : List Value) (es : List Env) (k : ℕ) (fs gs : List Env) → AreCandidatesOfSplit e rest vs k es fs → AreCandidatesOfSplit e rest vs k es (fs ++ gs)
split_left e rest vs es k fs gs c = record { cover = λ defs p. Covers-left (FitSplit defs e rest vs k) (all_bound (e ∷ map item_exp rest)) es fs gs (c.cover defs p) }

pub split_right : (e : IlExp) (rest : List ListItem) (vs : List Value) (es : List Env) (k : ℕ) (fs gs : List Env) → AreCandidatesOfSplit e rest vs k es gs → AreCandidatesOfSplit e rest vs k es (fs ++ gs)
split_right e rest vs es k fs gs c = record { cover = λ defs p. Covers-right (FitSplit defs e rest vs k) (all_bound (e ∷ map item_exp rest)) es fs gs (c.cover defs p) }

-- what follows fits where the split does
pub split_within : (e : IlExp) (rest : List ListItem) (vs : List Value) (k : ℕ) (es fs : List Env)
    → ((defs : List SyntaxDef) (s : Env) → FitItems defs rest (drop k vs) s → AreCandidatesOfSplit e rest vs k es fs) → AreCandidatesOfSplit e rest vs k es fs
split_within e rest vs k es fs c = record { cover = λ defs pats. record { covers = λ s b f a. ((c defs s f.1).cover defs pats).covers s b f a } }

-- one more of the cuts
pub cuts_step : (e g : IlExp) (vs : List Value) (es found more after : List Env) (n : ℕ) → after ≡ found ++ more → ((k : ℕ) → k < n → AreCandidatesOfCut e g vs k es found)
    → AreCandidatesOfCut e g vs n es more → (k : ℕ) → k < n + 1 → AreCandidatesOfCut e g vs k es after
cuts_step e g vs es found more after n made c d =
    each_number (λ (k : ℕ) (fs : List Env). AreCandidatesOfCut e g vs k es fs) (cut_left e g vs es) (cut_right e g vs es) found more after n made c d

pub cuts_end : (e g : IlExp) (vs : List Value) (es found : List Env) (n : ℕ) → length vs < n → ((k : ℕ) → k < n → AreCandidatesOfCut e g vs k es found) → AreCandidatesOfCuts e g vs es found
cuts_end e g vs es found n h c = record { are = λ k le. c k (omega (arith, h, le)) }

-- ---- several patterns

pub all_end : (ps : List IlExp) (vs : List Value) (es fs : List Env) → ps ≡ [] → fs ≡ es → AreCandidatesOfAll ps vs es fs
all_end ps vs es fs is same = subst (λ z. AreCandidatesOfAll z vs es fs) (sym is) (subst (AreCandidatesOfAll [] vs es) (sym same)
    (record { cover = λ defs p. Covers-same (FitAll defs [] vs) (all_bound []) es (λ x k. cc) }))

pub all_short : (ps qs : List IlExp) (p : IlExp) (vs : List Value) (es fs : List Env) → ps ≡ p ∷ qs → vs ≡ [] → fs ≡ [] → AreCandidatesOfAll ps vs es fs
all_short ps qs p vs es fs is short none = subst (λ z. AreCandidatesOfAll z vs es fs) (sym is) (subst (λ z. AreCandidatesOfAll (p ∷ qs) z es fs) (sym short) (subst (AreCandidatesOfAll (p ∷ qs) [] es) (sym none)
    (record { cover = λ defs pats. Covers-none (FitAll defs (p ∷ qs) []) (all_bound (p ∷ qs)) es (λ s f. f) })))

pub all_more : (ps qs : List IlExp) (p : IlExp) (vs ws : List Value) (v : Value) (es hs gs fs : List Env) → ps ≡ p ∷ qs → vs ≡ v ∷ ws → gs ≡ hs
    → AreCandidates p v es hs → AreCandidatesOfAll qs ws gs fs → AreCandidatesOfAll ps vs es fs
all_more ps qs p vs ws v es hs gs fs is at same c d = subst (λ z. AreCandidatesOfAll z vs es fs) (sym is) (subst (λ z. AreCandidatesOfAll (p ∷ qs) z es fs) (sym at) (record {
  cover = λ defs pats.
      let b = and-both (is_pattern p) (list_all is_pattern qs) pats in
      Covers-weaken (λ s. Fits defs p v s × FitAll defs qs ws s) (FitAll defs (p ∷ qs) (v ∷ ws)) (joined (bound p) (all_bound qs)) (all_bound (p ∷ qs)) es fs (λ s f. f) (first_part p qs)
      (Covers-then (Fits defs p v) (FitAll defs qs ws) (bound p) (all_bound qs) es hs fs (c.cover defs b.0) ((subst (λ z. AreCandidatesOfAll qs ws z fs) same d).cover defs b.1));
}))

FitAll-length : (defs : List SyntaxDef) (s : Env) (ps : List IlExp) (vs : List Value) → FitAll defs ps vs s → length ps ≡ length vs
FitAll-length defs s [] [] f = refl
FitAll-length defs s [] (v ∷ vs) f = absurd f
FitAll-length defs s (p ∷ ps) [] f = absurd f
FitAll-length defs s (p ∷ ps) (v ∷ vs) f = ap suc (FitAll-length defs s ps vs f.1)

pub all_unequal : (ps : List IlExp) (vs : List Value) (es fs : List Env) (n : ℕ) → n ≡ length vs → (length ps ≡ n → ⊥) → AreCandidatesOfAll ps vs es fs
all_unequal ps vs es fs n is differ = record { cover = λ defs p. Covers-never (FitAll defs ps vs) (all_bound ps) es fs (λ s f. differ (FitAll-length defs s ps vs f ∙ sym is)) }

pub all_begin : (ps : List IlExp) (vs : List Value) (es found : List Env) → found ≡ es → (after : List Env) → AreCandidatesOfAll ps vs found after → AreCandidatesOfAll ps vs es after
all_begin ps vs es found same after c = subst (λ z. AreCandidatesOfAll ps vs z after) same c

-- one more of the patterns
pub all_step : (ps qs : List IlExp) (vs us ws : List Value) (es found before next : List Env) (i : ℕ) (p : IlExp) (v : Value) → i < length ps → p ≡ get_or ps i p → us ≡ v ∷ ws → before ≡ found
    → AreCandidates p v before next → ((after : List Env) → AreCandidatesOfAll (drop i ps) us found after → AreCandidatesOfAll qs vs es after)
    → (after : List Env) → AreCandidatesOfAll (drop (i + 1) ps) ws next after → AreCandidatesOfAll qs vs es after
all_step ps qs vs us ws es found before next i p v h is values same c inv after d =
    inv after (all_more (drop i ps) (drop (i + 1) ps) p us ws v found next next after (drop_more ps i p h ∙ ap (λ z. z ∷ drop (i + 1) ps) (sym is)) values refl
    (subst (λ z. AreCandidates p v z next) same c) d)

pub all_done : (ps qs : List IlExp) (vs us : List Value) (es found : List Env) (i : ℕ) → length ps ≤ i → ((after : List Env) → AreCandidatesOfAll (drop i ps) us found after → AreCandidatesOfAll qs vs es after)
    → AreCandidatesOfAll qs vs es found
all_done ps qs vs us es found i h inv = inv found (all_end (drop i ps) us found found (drop_all i ps h) refl)

-- ---- the parts of a list

pub items_never : (items : List ListItem) (vs : List Value) (es fs : List Env) → ((defs : List SyntaxDef) (s : Env) → FitItems defs items vs s → ⊥) → AreCandidatesOfItems items vs es fs
items_never items vs es fs h = record { cover = λ defs p. Covers-never (FitItems defs items vs) (all_bound (map item_exp items)) es fs (h defs) }

pub items_wider : (items : List ListItem) (vs : List Value) (es fs gs : List Env) → AreCandidatesOfItems items vs es fs → AreCandidatesOfItems items vs es (fs ++ gs)
items_wider items vs es fs gs c = record { cover = λ defs p. Covers-left (FitItems defs items vs) (all_bound (map item_exp items)) es fs gs (c.cover defs p) }

pub items_later : (items : List ListItem) (vs : List Value) (es fs gs : List Env) → AreCandidatesOfItems items vs es gs → AreCandidatesOfItems items vs es (fs ++ gs)
items_later items vs es fs gs c = record { cover = λ defs p. Covers-right (FitItems defs items vs) (all_bound (map item_exp items)) es fs gs (c.cover defs p) }

pub items_nothing : (items : List ListItem) (vs : List Value) (es fs : List Env) → es ≡ [] → AreCandidatesOfItems items vs es fs
items_nothing items vs es fs is = subst (λ z. AreCandidatesOfItems items vs z fs) (sym is) (record { cover = λ defs p. Covers-nothing (FitItems defs items vs) (all_bound (map item_exp items)) fs })

pub items_end : (items : List ListItem) (vs : List Value) (es fs : List Env) → items ≡ [] → fs ≡ es → AreCandidatesOfItems items vs es fs
items_end items vs es fs is same = subst (λ z. AreCandidatesOfItems z vs es fs) (sym is) (subst (AreCandidatesOfItems [] vs es) (sym same)
    (record { cover = λ defs p. Covers-same (FitItems defs [] vs) (all_bound []) es (λ x k. cc) }))

pub items_left : (items : List ListItem) (vs : List Value) (es fs : List Env) → items ≡ [] → (vs ≡ [] → ⊥) → fs ≡ [] → AreCandidatesOfItems items vs es fs
items_left items vs es fs is more none = subst (λ z. AreCandidatesOfItems z vs es fs) (sym is) (subst (AreCandidatesOfItems [] vs es) (sym none)
    (record { cover = λ defs p. Covers-none (FitItems defs [] vs) (all_bound []) es (λ s f. more (FitItems-none defs s vs f)) }))

pub items_short : (items rest : List ListItem) (i : ListItem) (e : IlExp) (vs : List Value) (es fs : List Env) → items ≡ i ∷ rest → out-ListItem i ≡ ListItem-F.One e → vs ≡ [] → fs ≡ []
    → AreCandidatesOfItems items vs es fs
items_short items rest i e vs es fs is o short none = subst (λ z. AreCandidatesOfItems z vs es fs) (sym is) (subst (λ z. AreCandidatesOfItems (i ∷ rest) z es fs) (sym short) (subst (AreCandidatesOfItems (i ∷ rest) [] es) (sym none)
    (record { cover = λ defs p. Covers-none (FitItems defs (i ∷ rest) []) (all_bound (map item_exp (i ∷ rest))) es (λ s f. let r = FitItems-One defs s i e rest [] o f in let bad : r.0 ∷ r.1 ≡ [] = r.2 in cc) })))

pub items_One : (items rest : List ListItem) (i : ListItem) (e : IlExp) (vs ws : List Value) (v : Value) (es hs gs fs : List Env) → items ≡ i ∷ rest → out-ListItem i ≡ ListItem-F.One e → vs ≡ v ∷ ws → gs ≡ hs
    → AreCandidates e v es hs → AreCandidatesOfItems rest ws gs fs → AreCandidatesOfItems items vs es fs
items_One items rest i e vs ws v es hs gs fs is o at same c d = subst (λ z. AreCandidatesOfItems z vs es fs) (sym is) (subst (λ z. AreCandidatesOfItems (i ∷ rest) z es fs) (sym at) (record {
  cover = λ defs pats.
      let part : item_exp i ≡ e = ap item_at o in
      let b = and-both (is_pattern e) (list_all is_pattern (map item_exp rest)) (subst (λ z. list_all is_pattern (z ∷ map item_exp rest) ≡ true) part pats) in
      Covers-weaken (λ s. Fits defs e v s × FitItems defs rest ws s) (FitItems defs (i ∷ rest) (v ∷ ws)) (joined (bound e) (all_bound (map item_exp rest))) (all_bound (map item_exp (i ∷ rest))) es fs
      (λ s f.
      let r = FitItems-One defs s i e rest (v ∷ ws) o f in
      let both : r.0 ∷ r.1 ≡ v ∷ ws = r.2 in
      let first : r.0 ≡ v = cc in
      let others : r.1 ≡ ws = cc in
      (subst (λ z. Fits defs e z s) first r.3, subst (λ z. FitItems defs rest z s) others r.4))
      (λ x k. first_part e (map item_exp rest) x (subst (λ z. all_bound (z ∷ map item_exp rest) x ≡ true) part k))
      (Covers-then (Fits defs e v) (FitItems defs rest ws) (bound e) (all_bound (map item_exp rest)) es hs fs (c.cover defs b.0)
      ((subst (λ z. AreCandidatesOfItems rest ws z fs) same d).cover defs b.1));
}))

pub items_All : (items rest : List ListItem) (i : ListItem) (e : IlExp) (vs : List Value) (es fs : List Env) → items ≡ i ∷ rest → out-ListItem i ≡ ListItem-F.All e
    → ((k : ℕ) → k ≤ length vs → AreCandidatesOfSplit e rest vs k es fs) → AreCandidatesOfItems items vs es fs
items_All items rest i e vs es fs is o c = subst (λ z. AreCandidatesOfItems z vs es fs) (sym is) (record {
  cover = λ defs pats. record {
    covers = λ s b f a.
        let part : item_exp i ≡ e = ap item_at o in
        let r = FitItems-All defs s i e rest vs o f in
        let here = (c r.0 r.1).cover defs (subst (λ z. list_all is_pattern (z ∷ map item_exp rest) ≡ true) part pats) in
        subst (λ z. OneOf (Stands s (joined b (all_bound (z ∷ map item_exp rest)))) fs) (sym part) (here.covers s b r.2 a);
  };
})

-- ---- counts

pub count_none : (how : Iteration) (n : ℕ) (es fs : List Env) → count_of how ≡ [] → fs ≡ es → AreCandidatesOfCount how n es fs
count_none how n es fs is same = subst (AreCandidatesOfCount how n es) (sym same)
    (record { cover = λ defs p. Covers-same (FitCount defs how n) (all_bound (count_of how)) es (λ x k. let bad : false ≡ true = subst (λ z. all_bound z x ≡ true) is k in cc) })

pub count_one : (how : Iteration) (n : ℕ) (e : IlExp) (es fs : List Env) → count_of how ≡ e ∷ [] → AreCandidates e (value.Num (pos n)) es fs → AreCandidatesOfCount how n es fs
count_one how n e es fs is c = record {
  cover = λ defs pats.
      let p = and-both (is_pattern e) true (subst (λ z. list_all is_pattern z ≡ true) is pats) in
      Covers-weaken (Fits defs e (value.Num (pos n))) (FitCount defs how n) (bound e) (all_bound (count_of how)) es fs
      (λ s f. (subst (λ z. FitAll defs z (map (λ (g : IlExp). value.Num (pos n)) z) s) is f).0)
      (λ x k. only_part e x (subst (λ z. all_bound z x ≡ true) is k))
      (c.cover defs p.0);
}

-- the same of parts that are equal to those of the iteration
pub count_by : (how : Iteration) (n : ℕ) (e g : IlExp) (v : Value) (es fs : List Env) → count_of how ≡ e ∷ [] → g ≡ e → v ≡ value.Num (pos n) → AreCandidates g v es fs → AreCandidatesOfCount how n es fs
count_by how n e g v es fs is same number c = count_one how n e es fs is (subst (λ z. AreCandidates e z es fs) number (subst (λ z. AreCandidates z v es fs) same c))
