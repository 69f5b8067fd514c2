-- The conditions on a syntax, and whether a definition declares what is new, by what is found.
use Rattle.std.proofs.Common.{◌≡◌, ◌↔◌, ℕ, zero, suc, ◌<◌, refl, sym, ap, ◌∙◌, subst, cond, List, [], ◌∷◌, ◌++◌, map, Bool, true, false, true≢false, ◌&&◌, Option, Some, None, inl, inr, length, take, drop, get_or, arith}
use Rattle.std.specs.Prelude.{IsTrue, All, slice_get, bytes_eq, ◌||◌}
use Rattle.std.proofs.lemmas.List.{length-map}
use Rattle.st_il.specs.declared.definition.Il.{Il}
use Rattle.st_il.specs.declared.definition.IlDef.{IlDef}
use Rattle.st_il.specs.declared.definition.IlDef.TheVariants.{Syntax, Var, Relation, Rule, Fun, Clause}
use Rattle.st_il.specs.declared.definition.RuleDef.{RuleDef}
use Rattle.st_il.specs.declared.definition.SyntaxDef.{SyntaxDef}
use Rattle.st_type_table.specs.declared.fault.Broken.{Broken}
use Rattle.st_type_table.specs.Meaning.{body_of}
use Rattle.st_type_table.specs.Breach.{AllHold, FirstFalse, Finds, FindsAt, Asked, on_body, on_parts, conditions_on}
use Rattle.st_type_table.specs.inner.Checking.{part_count}
use Rattle.st_type_table.proofs.PartLemmas.{on_parts-whole}
use Rattle.st_il.specs.Names.{Name, has_name}
use Rattle.st_il.specs.Definitions.{syntaxes, syntaxes_in, rules_in, rules_from}
use Rattle.st_ilcheck.specs.declared.cited.Citations.{Citations}
use Rattle.st_ilcheck.specs.declared.declaring.Declared.{Declared}
use Rattle.st_ilcheck.specs.Declarations.{IsDeclared, AreNamed, IsOnceIn, IsTag, rule_names, cited}
use Rattle.st_ilcheck.specs.inner.Cited.{AreCited, AreCitedOnce, CitesOnce}
use Rattle.st_ilcheck.specs.inner.Declared.{AreDeclared, IsNew, rule_pairs}
use Rattle.st_ilcheck.specs.inner.Names.{is_pair}

-- ---- names of syntaxes

by_head : (b c : Bool) (s : SyntaxDef) (ds : List SyntaxDef) (name : Name) → (c ≡ false → body_of ds name ≡ None) → (b || c) ≡ false → cond b (Some s.body) (body_of ds name) ≡ None
by_head true c s ds name r h = absurd (true≢false h)
by_head false c s ds name r h = r h

pub unnamed : (ds : List SyntaxDef) (name : Name) → has_name (map (λ (s : SyntaxDef). s.name) ds) name ≡ false → body_of ds name ≡ None
unnamed [] name h = refl
unnamed (d ∷ ds) name h = by_head (bytes_eq name d.name) (has_name (map (λ (s : SyntaxDef). s.name) ds) name) d ds name (unnamed ds name) h

by_tail : (b c : Bool) (s : SyntaxDef) (ds : List SyntaxDef) (name : Name) → (c ≡ true → body_of ds name ≡ None → ⊥) → (b || c) ≡ true → cond b (Some s.body) (body_of ds name) ≡ None → ⊥
by_tail true c s ds name r h e = let bad : Some s.body ≡ None = e in cc
by_tail false c s ds name r h e = r h e

pub named_before : (ds : List SyntaxDef) (name : Name) → has_name (map (λ (s : SyntaxDef). s.name) ds) name ≡ true → body_of ds name ≡ None → ⊥
named_before [] name h e = true≢false (sym h)
named_before (d ∷ ds) name h e = by_tail (bytes_eq name d.name) (has_name (map (λ (s : SyntaxDef). s.name) ds) name) d ds name (named_before ds name) h e

-- ---- the conditions on a syntax

module _ (defs : List SyntaxDef) where
  refuted : (ps : List Asked) (b : Broken) → FirstFalse defs ps b → AllHold defs ps → ⊥
  refuted [] b f a = f
  refuted (p ∷ ps) b (inl h) a = h.0 a.0
  refuted (p ∷ ps) b (inr h) a = refuted ps b h.1 a.1

  none-found : (ps : List Asked) (found : Option Broken) → Finds defs ps found → AllHold defs ps → found ≡ None
  none-found ps None f a = refl
  none-found ps (Some b) f a = absurd (refuted ps b f a)

  pub syntax-kept : (number : ℕ) (s : SyntaxDef) (n : ℕ) (found : Option Broken) (kept : Bool) → slice_get defs number ≡ Some s → n ≡ part_count s.body → FindsAt defs number 0 n found
      → (IsTrue kept ↔ (found ≡ None)) → body_of (take number defs) s.name ≡ None → IsTrue kept ↔ AllHold defs (conditions_on (take number defs) s)
  syntax-kept number s n found kept there e finds k new =
      let f : Finds defs (on_body s.name s.body) found =
      subst (λ z. Finds defs z found) (on_parts-whole s.name s.body) (subst (λ m. Finds defs (on_parts s.name s.body 0 m) found) e (finds s there)) in (
        λ y. (new, subst (λ z. Finds defs (on_body s.name s.body) z) (k.0 y) f),
        λ a. k.1 (none-found (on_body s.name s.body) found f a.1),
      )

-- ---- the place of a syntax among the syntaxes

syntaxes-append : (xs ys : List IlDef) → syntaxes_in (xs ++ ys) ≡ syntaxes_in xs ++ syntaxes_in ys
syntaxes-append [] ys = refl
syntaxes-append (Syntax s ∷ xs) ys = ap (λ z. s ∷ z) (syntaxes-append xs ys)
syntaxes-append (Var x t ∷ xs) ys = syntaxes-append xs ys
syntaxes-append (Relation r ∷ xs) ys = syntaxes-append xs ys
syntaxes-append (Rule r ∷ xs) ys = syntaxes-append xs ys
syntaxes-append (Fun f ∷ xs) ys = syntaxes-append xs ys
syntaxes-append (Clause c ∷ xs) ys = syntaxes-append xs ys

pub syntaxes-step : (x : IlDef) (rest : List IlDef) → syntaxes_in (x ∷ rest) ≡ syntaxes_in (x ∷ []) ++ syntaxes_in rest
syntaxes-step x rest = syntaxes-append (x ∷ []) rest

-- the definitions before one, it, and those behind it
divided : (defs : List IlDef) (at : ℕ) (d : IlDef) → slice_get defs at ≡ Some d → defs ≡ take at defs ++ d ∷ drop (suc at) defs
divided [] at d h = let bad : None ≡ Some d = h in cc
divided (x ∷ defs) zero d h = let same : x ≡ d = cc in ap (λ z. z ∷ defs) same
divided (x ∷ defs) (suc at) d h = ap (λ z. x ∷ z) (divided defs at d h)

taken : {A : Type 0} (xs ys : List A) → take (length xs) (xs ++ ys) ≡ xs
taken [] [] = refl
taken [] (y ∷ ys) = refl
taken (x ∷ xs) ys = ap (λ z. x ∷ z) (taken xs ys)

reached : {A : Type 0} (xs : List A) (y : A) (ys : List A) → slice_get (xs ++ y ∷ ys) (length xs) ≡ Some y
reached [] y ys = refl
reached (x ∷ xs) y ys = reached xs y ys

long : {A : Type 0} (xs : List A) (y : A) (ys : List A) → length xs < length (xs ++ y ∷ ys)
long [] y ys = omega arith
long (x ∷ xs) y ys = let h = long xs y ys in omega (arith, h)

module _ (il : Il) (at : ℕ) (s : SyntaxDef) (there : slice_get il.defs at ≡ Some (Syntax s)) where
  abbrev prefix : List SyntaxDef
  prefix = syntaxes_in (take at il.defs)

  abbrev suffix : List SyntaxDef
  suffix = syntaxes_in (drop (suc at) il.defs)

  whole : syntaxes il ≡ prefix ++ s ∷ suffix
  whole = ap syntaxes_in (divided il.defs at (Syntax s) there) ∙ syntaxes-append (take at il.defs) (Syntax s ∷ drop (suc at) il.defs)

  pub prefix-is : take (length prefix) (syntaxes il) ≡ prefix
  prefix-is = ap (take (length prefix)) whole ∙ taken prefix (s ∷ suffix)

  pub syntax-there : slice_get (syntaxes il) (length prefix) ≡ Some s
  syntax-there = ap (λ z. slice_get z (length prefix)) whole ∙ reached prefix s suffix

  pub syntax-within : length prefix < length (syntaxes il)
  syntax-within = subst (λ z. length prefix < length z) (sym whole) (long prefix s suffix)

-- ---- what is new

module _ (relation name : Name) where
  by_relation : (b : Bool) (r : RuleDef) (rs : List RuleDef) (pairs : Bool) → has_name (map (λ (z : RuleDef). z.name) (rules_from relation rs)) name ≡ pairs
      → has_name (map (λ (z : RuleDef). z.name) (cond b (r ∷ rules_from relation rs) (rules_from relation rs))) name ≡ ((b && bytes_eq name r.name) || pairs)
  by_relation true r rs pairs e = ap (λ z. bytes_eq name r.name || z) e
  by_relation false r rs pairs e = e

  pairs-are : (rs : List RuleDef) → has_name (map (λ (z : RuleDef). z.name) (rules_from relation rs)) name ≡ is_pair relation name (map (λ (r : RuleDef). (r.relation, r.name)) rs)
  pairs-are [] = refl
  pairs-are (r ∷ rs) = by_relation (bytes_eq relation r.relation) r rs (is_pair relation name (map (λ (z : RuleDef). (z.relation, z.name)) rs)) (pairs-are rs)

  pub rules-are : (defs : List IlDef) → has_name (rule_names relation defs) name ≡ is_pair relation name (rule_pairs defs)
  rules-are defs = pairs-are (rules_in defs)

to_equal : (a b c : Bool) → a ≡ b → (b ≡ c) ↔ (a ≡ c)
to_equal a b c e = (λ h. e ∙ h, λ h. sym e ∙ h)

module _ (il : Il) (before : List IlDef) (b : Declared) (h : AreDeclared before b) where
  pub new-declared : (d : IlDef) → ((s : SyntaxDef) → d ≡ Syntax s → ⊥) → IsNew b d ↔ IsDeclared il before d
  new-declared (Syntax s) n = absurd (n s refl)
  new-declared (Var x t) n = to_equal _ _ false (ap (λ names. has_name names x) (sym h.variables))
  new-declared (Relation r) n =
      let e = to_equal _ _ false (ap (λ names. has_name names r.name) (sym h.relations)) in (λ k. (e.0 k.0, k.1), λ k. (e.1 k.0, k.1))
  new-declared (Rule r) n = to_equal _ _ false (rules-are r.relation r.name before ∙ ap (is_pair r.relation r.name) (sym h.rules))
  new-declared (Fun f) n = to_equal _ _ false (ap (λ names. has_name names f.name) (sym h.functions))
  new-declared (Clause c) n = (λ k. k, λ k. k)

-- ---- what is cited

module _ (il : Il) (d : IlDef) (w : Declared) (c : Citations) (all : AreDeclared il.defs w) (k : AreCited d c) where
  cites-whole : AreCitedOnce w c → CitesOnce il d
  cites-whole once = record {
    syntaxes_once = subst (λ z. All (IsOnceIn z) (cited d).syntaxes) all.syntaxes (subst (All (IsOnceIn w.syntaxes)) k.syntaxes once.syntaxes);
    relations_once = subst (λ z. All (IsOnceIn z) (cited d).relations) all.relations (subst (All (IsOnceIn w.relations)) k.relations once.relations);
    functions_once = subst (λ z. All (IsOnceIn z) (cited d).functions) all.functions (subst (All (IsOnceIn w.functions)) k.functions once.functions);
    tagged = subst (All IsTag) k.tagged once.tagged;
  }

  cites-back : CitesOnce il d → AreCitedOnce w c
  cites-back n = record {
    syntaxes = subst (All (IsOnceIn w.syntaxes)) (sym k.syntaxes) (subst (λ z. All (IsOnceIn z) (cited d).syntaxes) (sym all.syntaxes) n.syntaxes_once);
    relations = subst (All (IsOnceIn w.relations)) (sym k.relations) (subst (λ z. All (IsOnceIn z) (cited d).relations) (sym all.relations) n.relations_once);
    functions = subst (All (IsOnceIn w.functions)) (sym k.functions) (subst (λ z. All (IsOnceIn z) (cited d).functions) (sym all.functions) n.functions_once);
    tagged = subst (All IsTag) (sym k.tagged) n.tagged;
  }

  pub cites-kept : (kept : Bool) → (IsTrue kept ↔ AreCitedOnce w c) → IsTrue kept ↔ CitesOnce il d
  cites-kept kept h = (λ y. cites-whole (h.0 y), λ n. h.1 (cites-back n))

-- ---- the definition at a place

got : (xs : List IlDef) (i : ℕ) (x : IlDef) → i < length xs → x ≡ get_or xs i x → slice_get xs i ≡ Some x
got [] i x h e = absurd (omega (arith, h))
got (y ∷ ys) zero x h e = ap Some (sym e)
got (y ∷ ys) (suc i) x h e = got ys i x (omega (arith, h)) e

pub read-there : (defs slice : List IlDef) (at : ℕ) (x y : IlDef) → slice ≡ defs → at < length defs → x ≡ get_or slice at x → x ≡ y → slice_get defs at ≡ Some y
read-there defs slice at x y e h is same =
    let within : at < length slice = subst (λ z. at < length z) (sym e) h in
    subst (λ z. slice_get z at ≡ Some y) e (got slice at x within is ∙ ap Some same)

pub same-there : (defs : List IlDef) (at : ℕ) (x d : IlDef) → slice_get defs at ≡ Some x → slice_get defs at ≡ Some d → x ≡ d
same-there defs at x d h k = let both : Some x ≡ Some d = sym h ∙ k in cc

module _ (il : Il) (at : ℕ) (s : SyntaxDef) (there : slice_get il.defs at ≡ Some (Syntax s)) (b : Declared) (h : AreDeclared (take at il.defs) b) (n : ℕ) (count : n ≡ length b.syntaxes)
    (bodies : List SyntaxDef) (are : bodies ≡ syntaxes il) where
  number-is : n ≡ length (syntaxes_in (take at il.defs))
  number-is = count ∙ (ap length h.syntaxes ∙ length-map (syntaxes_in (take at il.defs)) (λ (z : SyntaxDef). z.name))

  pub place-within : n < length bodies
  place-within =
      subst (λ z. z < length bodies) (sym number-is) (subst (λ (z : List SyntaxDef). length (syntaxes_in (take at il.defs)) < length z) (sym are) (syntax-within il at s there))

  pub place-there : slice_get bodies n ≡ Some s
  place-there = ap (slice_get bodies) number-is ∙ (ap (λ (z : List SyntaxDef). slice_get z (length (syntaxes_in (take at il.defs)))) are ∙ syntax-there il at s there)

  taken-is : take n bodies ≡ syntaxes_in (take at il.defs)
  taken-is = ap (λ z. take z bodies) number-is ∙ (ap (take (length (syntaxes_in (take at il.defs)))) are ∙ prefix-is il at s there)

  pub place-names : (names : List Name) → names ≡ b.syntaxes → names ≡ map (λ (z : SyntaxDef). z.name) (take n bodies)
  place-names names e = e ∙ (h.syntaxes ∙ sym (ap (map (λ (z : SyntaxDef). z.name)) taken-is))

  pub place-declared : (kept : Bool) → (IsTrue kept ↔ AllHold bodies (conditions_on (take n bodies) s)) → (d : IlDef) → slice_get il.defs at ≡ Some d → IsTrue kept ↔ IsDeclared il (take at il.defs) d
  place-declared kept k d e =
      let whole : IsTrue kept ↔ AllHold (syntaxes il) (conditions_on (syntaxes_in (take at il.defs)) s) =
      subst (λ z. IsTrue kept ↔ AllHold z (conditions_on (syntaxes_in (take at il.defs)) s)) are (subst (λ z. IsTrue kept ↔ AllHold bodies (conditions_on z s)) taken-is k) in
      subst (λ z. IsTrue kept ↔ IsDeclared il (take at il.defs) z) (same-there il.defs at (Syntax s) d there e) whole

pub other-declared : (il : Il) (at : ℕ) (x : IlDef) (there : slice_get il.defs at ≡ Some x) (b : Declared) (h : AreDeclared (take at il.defs) b) → ((s : SyntaxDef) → x ≡ Syntax s → ⊥) → (kept : Bool) → (IsTrue kept ↔ IsNew b x)
    → (d : IlDef) → slice_get il.defs at ≡ Some d → IsTrue kept ↔ IsDeclared il (take at il.defs) d
other-declared il at x there b h n kept k d e =
    let same = new-declared il (take at il.defs) b h x n in
    subst (λ z. IsTrue kept ↔ IsDeclared il (take at il.defs) z) (same-there il.defs at x d there e) (λ y. same.0 (k.0 y), λ g. k.1 (same.1 g))

-- all of T1, where what is declared is asked first
pub named-asked : (il : Il) (at : ℕ) (x : IlDef) (there : slice_get il.defs at ≡ Some x) (kept : Bool) → (IsTrue kept ↔ CitesOnce il x) → (d : IlDef) → slice_get il.defs at ≡ Some d → IsDeclared il (take at il.defs) d
    → IsTrue kept ↔ AreNamed il (take at il.defs) d
named-asked il at x there kept h d e declared =
    let k : IsTrue kept ↔ CitesOnce il d = subst (λ z. IsTrue kept ↔ CitesOnce il z) (same-there il.defs at x d there e) h in (
      λ y. let o = k.0 y in record { declared = declared; syntaxes_once = o.syntaxes_once; relations_once = o.relations_once; functions_once = o.functions_once; tagged = o.tagged },
      λ n. k.1 (record { syntaxes_once = n.syntaxes_once; relations_once = n.relations_once; functions_once = n.functions_once; tagged = n.tagged }),
    )
