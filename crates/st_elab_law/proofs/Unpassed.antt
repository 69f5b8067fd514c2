-- How many syntaxes have names that are not among those that are passed.
use Rattle.std.proofs.Common.{◌≡◌, refl, sym, ◌∙◌, ap, ℕ, ◌+◌, ◌<◌, ◌≤◌, List, [], ◌∷◌, ◌++◌, Bool, true, false, true≢false, ◌||◌, arith}
use Rattle.std.specs.Prelude.{Some, if◌then◌else◌}
use Rattle.std.proofs.lemmas.Slice.Eq.{bytes_eq-Decides}
use Rattle.st_num.specs.Names.{same_name, is_among}
use Rattle.st_il.specs.declared.definition.SyntaxDef.{SyntaxDef}
use Rattle.st_il.specs.declared.definition.SyntaxBody.{SyntaxBody}
use Rattle.st_type_table.proofs.InsertionLemmas.{same-equal}
use Rattle.st_type_table.specs.Meaning.{body_of}

-- how many of these syntaxes have names that are not among the passed ones
abbrev pub unpassed : List SyntaxDef → List (List ℕ) → ℕ
unpassed [] passed = 0
unpassed (d ∷ ds) passed = (if is_among d.name passed then 0 else 1) + unpassed ds passed

among-more : (name v : List ℕ) (passed : List (List ℕ)) → is_among name passed ≡ true → is_among name (passed ++ v ∷ []) ≡ true
among-more name v [] h = absurd (true≢false (sym h))
among-more name v (p ∷ ps) h = by (same_name name p) h (among-more name v ps)
  where
    by : (b : Bool) → (b || is_among name ps) ≡ true → (is_among name ps ≡ true → is_among name (ps ++ v ∷ []) ≡ true) → (b || is_among name (ps ++ v ∷ [])) ≡ true
    by true k more = refl
    by false k more = more k

among-last : (name v : List ℕ) (passed : List (List ℕ)) → same_name name v ≡ true → is_among name (passed ++ v ∷ []) ≡ true
among-last name v [] h = ap (λ b. b || false) h
among-last name v (p ∷ ps) h = by (same_name name p) (among-last name v ps h)
  where
    by : (b : Bool) → is_among name (ps ++ v ∷ []) ≡ true → (b || is_among name (ps ++ v ∷ [])) ≡ true
    by true k = refl
    by false k = k

abbrev counts : Bool → ℕ
counts b = if b then 0 else 1

counts-less : (a b : Bool) → (a ≡ true → b ≡ true) → counts b ≤ counts a
counts-less true b h = let same : b ≡ true = h refl in let l : counts b ≡ 0 = ap counts same in omega (arith, l)
counts-less false true h = omega arith
counts-less false false h = omega arith

unpassed-less : (ds : List SyntaxDef) (passed : List (List ℕ)) (v : List ℕ) → unpassed ds (passed ++ v ∷ []) ≤ unpassed ds passed
unpassed-less [] passed v = omega arith
unpassed-less (d ∷ ds) passed v =
    let rest = unpassed-less ds passed v in
    let first : counts (is_among d.name (passed ++ v ∷ [])) ≤ counts (is_among d.name passed) = counts-less (is_among d.name passed) (is_among d.name (passed ++ v ∷ [])) (among-more d.name v passed) in
    omega (arith, rest, first)

same-refl : (p : List ℕ) → same_name p p ≡ true
same-refl p = (bytes_eq-Decides p p).1 refl

-- a declared variant that is passed now is one less
pub unpassed-fewer : (ds : List SyntaxDef) (passed : List (List ℕ)) (v : List ℕ) (b : SyntaxBody) → body_of ds v ≡ Some b → is_among v passed ≡ false → unpassed ds (passed ++ v ∷ []) < unpassed ds passed
unpassed-fewer [] passed v b is fresh = absurd (cc)
unpassed-fewer (d ∷ ds) passed v b is fresh = by (same_name v d.name) refl is (unpassed-fewer ds passed v b)
  where
    by : (c : Bool) → same_name v d.name ≡ c → (if c then Some d.body else body_of ds v) ≡ Some b
        → (body_of ds v ≡ Some b → is_among v passed ≡ false → unpassed ds (passed ++ v ∷ []) < unpassed ds passed) → unpassed (d ∷ ds) (passed ++ v ∷ []) < unpassed (d ∷ ds) passed
    by true same k later =
        let equal : v ≡ d.name = same-equal v d.name same in
        let before : counts (is_among d.name passed) ≡ 1 = ap counts (ap (λ z. is_among z passed) (sym equal) ∙ fresh) in
        let after : counts (is_among d.name (passed ++ v ∷ [])) ≡ 0 = ap counts (among-last d.name v passed (ap (λ z. same_name z v) (sym equal) ∙ same-refl v)) in
        let rest = unpassed-less ds passed v in
        omega (arith, before, after, rest)
    by false same k later =
        let first : counts (is_among d.name (passed ++ v ∷ [])) ≤ counts (is_among d.name passed) = counts-less (is_among d.name passed) (is_among d.name (passed ++ v ∷ [])) (among-more d.name v passed) in
        let rest : unpassed ds (passed ++ v ∷ []) < unpassed ds passed = later k fresh in
        omega (arith, first, rest)
