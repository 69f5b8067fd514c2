-- The whole internal language is put together, definition by definition.
use Rattle.std.proofs.Common.{◌≡◌, refl, sym, ap, ◌∙◌, subst, ℕ, ◌+◌, ◌<◌, Bool, true, false, not, true≢false, if◌then◌else◌, Some, None, List, [], ◌∷◌, ◌++◌, length, map, filter, take, drop, get_or, append-nil}
use Rattle.std.specs.Prelude.{Option, MatchOption, reverse, flat_map}
use Rattle.std.proofs.lemmas.Grind.{common_steps, flat_map-append}
use Rattle.std.proofs.Common.{arith}
use Rattle.st_el.specs.Erasure.{joined_at, joined_node, joined_behind, joined, alternatives}
use Rattle.st_el.specs.declared.definition.Def.{Def}
use Rattle.st_el.specs.declared.definition.DefNode.{DefNode}
use Rattle.st_el.specs.declared.definition.DefNode.TheVariants.{Syntax, Var, Relation, Rule, Fun, Clause}
use Rattle.st_el.specs.declared.definition.Hint.{Hint}
use Rattle.st_il.specs.declared.definition.IlDef.{IlDef}
use Rattle.st_elab_table.specs.declared.decls.Decls.{Decls}
use Rattle.st_elab_def.specs.declared.elaborated.Elaborated.{Elaborated}
use Rattle.st_elab_def.specs.Definitions.{Definition, number_of, definitions_from, definitions}
use Rattle.st_elab_def.specs.DeclsOf.{declared_at, declared_by}
use Rattle.st_elab_def.specs.Elaboration.{ElabDef, declaration, ElabDefs}
use Rattle.st_elab_def.specs.Fragments.{is_later_at, is_later}
use Rattle.st_elab_def.specs.inner.Contents.{is_content, Makes}
use Rattle.st_elab_def.specs.inner.Joining.{joined_one, joined_of}
use Rattle.st_elab_def.specs.inner.Walk.{standing}
use Rattle.st_elab_def.specs.inner.Whole.{with_one, PlacesOne}
use Rattle.st_elab_def.proofs.Leaves.{left_of, left_of-next}

-- ---- what a definition stands for

pub joined-definitions : (before ds : List Def) → joined_behind before ds ≡ flat_map joined_of (definitions_from before ds)
joined-definitions before [] = refl
joined-definitions before (d ∷ ds) = ap (λ xs. joined_at before d ds ++ xs) (joined-definitions (before ++ d ∷ []) ds)

later-node : (d : Definition) (node : DefNode) → is_later_at d node ≡ true → joined_node d.before node d.behind ≡ []
later-node d (Syntax name None body) h = absurd (true≢false (sym h))
later-node d (Syntax name (Some fragment) body) h =
    ap (λ c. if c then [] else Syntax name None (joined body (alternatives name d.behind)) ∷ []) h
later-node d (Var name typ) h = absurd (true≢false (sym h))
later-node d (Relation name notation) h = absurd (true≢false (sym h))
later-node d (Rule relation name conclusion premises) h = absurd (true≢false (sym h))
later-node d (Fun name params value) h = absurd (true≢false (sym h))
later-node d (Clause name args value premises) h = absurd (true≢false (sym h))

first-node : (d : Definition) (node : DefNode) → is_later_at d node ≡ false → joined_node d.before node d.behind ≡ joined_one node d.behind ∷ []
first-node d (Syntax name None body) h = refl
first-node d (Syntax name (Some fragment) body) h =
    ap (λ c. if c then [] else Syntax name None (joined body (alternatives name d.behind)) ∷ []) h
first-node d (Var name typ) h = refl
first-node d (Relation name notation) h = refl
first-node d (Rule relation name conclusion premises) h = refl
first-node d (Fun name params value) h = refl
first-node d (Clause name args value premises) h = refl

pub joined-later : (d : Definition) → is_later d ≡ true → joined_of d ≡ []
joined-later d h = ap (map (λ node. record d.def { node = node })) (later-node d d.def.node h)

-- the definition that one which is no later fragment stands for
abbrev pub stood_for : Definition → Def
stood_for d = record d.def { node = joined_one d.def.node d.behind }

pub joined-first : (d : Definition) → is_later d ≡ false → joined_of d ≡ stood_for d ∷ []
joined-first d h = ap (map (λ node. record d.def { node = node })) (first-node d d.def.node h)

declares_one : (hints : List Hint) (node : DefNode) (behind : List Def) → is_content node ≡ false
    → (x : IlDef) × (declared_at hints (joined_one node behind) ≡ x ∷ [])
declares_one hints (Syntax name None body) behind h = (_, refl)
declares_one hints (Syntax name (Some fragment) body) behind h = (_, refl)
declares_one hints (Var name typ) behind h = (_, refl)
declares_one hints (Relation name notation) behind h = (_, refl)
declares_one hints (Rule relation name conclusion premises) behind h = absurd (true≢false h)
declares_one hints (Fun name params value) behind h = (_, refl)
declares_one hints (Clause name args value premises) behind h = absurd (true≢false h)

content-declares : (hints : List Hint) (node : DefNode) (behind : List Def) → is_content node ≡ true → declared_at hints (joined_one node behind) ≡ []
content-declares hints (Syntax name None body) behind h = absurd (true≢false (sym h))
content-declares hints (Syntax name (Some fragment) body) behind h = absurd (true≢false (sym h))
content-declares hints (Var name typ) behind h = absurd (true≢false (sym h))
content-declares hints (Relation name notation) behind h = absurd (true≢false (sym h))
content-declares hints (Rule relation name conclusion premises) behind h = refl
content-declares hints (Fun name params value) behind h = absurd (true≢false (sym h))
content-declares hints (Clause name args value premises) behind h = refl

content-own : (node : DefNode) (behind : List Def) → is_content node ≡ true → joined_one node behind ≡ node
content-own (Syntax name None body) behind h = absurd (true≢false (sym h))
content-own (Syntax name (Some fragment) body) behind h = absurd (true≢false (sym h))
content-own (Var name typ) behind h = refl
content-own (Relation name notation) behind h = refl
content-own (Rule relation name conclusion premises) behind h = refl
content-own (Fun name params value) behind h = refl
content-own (Clause name args value premises) behind h = refl

-- what was popped stood last
pub popped : (declared left : List IlDef) (last : Option IlDef) (x : IlDef) → last ≡ Some x → MatchOption last ((declared ≡ []) × (left ≡ [])) (λ x. declared ≡ left ++ x ∷ [])
    → declared ≡ left ++ x ∷ []
popped declared left last x is h = subst (λ o. MatchOption o ((declared ≡ []) × (left ≡ [])) (λ x. declared ≡ left ++ x ∷ [])) is h

content-first : (d : Definition) (node : DefNode) → is_content node ≡ true → is_later_at d node ≡ false
content-first d (Syntax name fragment body) h = absurd (true≢false (sym h))
content-first d (Var name typ) h = refl
content-first d (Relation name notation) h = refl
content-first d (Rule relation name conclusion premises) h = refl
content-first d (Fun name params value) h = refl
content-first d (Clause name args value premises) h = refl

-- ---- one definition is placed

reverse-last : (xs : List IlDef) (x : IlDef) → reverse (xs ++ x ∷ []) ≡ x ∷ reverse xs
reverse-last xs x = grind (arith, common_steps)

module _ (D : Decls) (d : Definition) (rest : List IlDef) where
  pub places-later : (declared : List IlDef) (old : Elaborated) → is_later d ≡ true
      → reverse declared ≡ flat_map declared_by (joined_of d) ++ rest → PlacesOne D d rest declared old old
  places-later declared old later is = record {
    rest_is = is ∙ ap (λ js. flat_map declared_by js ++ rest) (joined-later d later);
    added = [];
    defs = sym (append-nil old.il.defs);
    elaborated = subst (λ js. ElabDefs D js []) (sym (joined-later d later)) tt;
    sources = sym (append-nil old.sources) ∙ ap (λ b. old.sources ++ (if b then [] else number_of d ∷ [])) (sym later);
  }

  -- what is declared where it is not later
  declared-first : is_later d ≡ false → flat_map declared_by (joined_of d) ++ rest ≡ (declared_by (stood_for d) ++ []) ++ rest
  declared-first first = ap (λ js. flat_map declared_by js ++ rest) (joined-first d first)

  placed-by : (x : IlDef) (declared : List IlDef) (number : ℕ) (old new : Elaborated) → is_later d ≡ false → number ≡ number_of d
      → new.il.defs ≡ old.il.defs ++ x ∷ [] → new.sources ≡ old.sources ++ number ∷ []
      → reverse declared ≡ rest → ElabDef D (stood_for d) x → PlacesOne D d rest declared old new
  placed-by x declared number old new first numbered defs sources rest_is one = record {
    rest_is = rest_is;
    added = x ∷ [];
    defs = defs;
    elaborated = subst (λ js. ElabDefs D js (x ∷ [])) (sym (joined-first d first)) (one, tt);
    sources = sources ∙ ap (λ n. old.sources ++ n ∷ []) numbered ∙ ap (λ b. old.sources ++ (if b then [] else number_of d ∷ [])) (sym first);
  }

  -- a rule or a clause is added as what was made of it
  pub places-made : (x : IlDef) (declared : List IlDef) (number : ℕ) (old : Elaborated) → number ≡ number_of d → Makes D d (Some x)
      → reverse declared ≡ flat_map declared_by (joined_of d) ++ rest → PlacesOne D d rest declared old (with_one old x number)
  places-made x declared number old numbered (content, made) is =
      let first = content-first d d.def.node content in
      placed-by x declared number old (with_one old x number) first numbered refl refl
      (is ∙ declared-first first ∙ ap (λ xs. (xs ++ []) ++ rest) (content-declares d.def.hints d.def.node d.behind content))
      (subst (λ node. ElabDef D (record d.def { node = node }) x) (sym (content-own d.def.node d.behind content)) made)

  -- a declaration is added as what is declared next
  pub places-declared : (x : IlDef) (declared left : List IlDef) (number : ℕ) (old : Elaborated) → is_later d ≡ false → number ≡ number_of d → Makes D d None
      → declared ≡ left ++ x ∷ [] → reverse declared ≡ flat_map declared_by (joined_of d) ++ rest → PlacesOne D d rest left old (with_one old x number)
  places-declared x declared left number old first numbered content last is =
      let one = declares_one d.def.hints d.def.node d.behind content in
      let all : x ∷ reverse left ≡ one.0 ∷ rest =
      sym (reverse-last left x) ∙ sym (ap reverse last) ∙ is ∙ declared-first first ∙ ap (λ xs. (xs ++ []) ++ rest) one.1 in
      let head : one.0 ≡ x = cc in
      let tail : reverse left ≡ rest = cc in
      placed-by x left number old (with_one old x number) first numbered refl refl tail (declaration (one.1 ∙ ap (λ y. y ∷ []) head))

  -- there is a next declaration, where the definition is one
  pub places-none : (declared left : List IlDef) (last : Option IlDef) → last ≡ None → MatchOption last ((declared ≡ []) × (left ≡ [])) (λ x. declared ≡ left ++ x ∷ [])
      → is_later d ≡ false → Makes D d None → reverse declared ≡ flat_map declared_by (joined_of d) ++ rest → ⊥
  places-none declared left last none h first content is =
      let empty : declared ≡ [] = (subst (λ o. MatchOption o ((declared ≡ []) × (left ≡ [])) (λ x. declared ≡ left ++ x ∷ [])) none h).0 in
      let one = declares_one d.def.hints d.def.node d.behind content in
      let is_none : [] ≡ one.0 ∷ rest = sym (ap reverse empty) ∙ is ∙ declared-first first ∙ ap (λ xs. (xs ++ []) ++ rest) one.1 in
      cc

-- ---- all of them

ElabDefs-append : (D : Decls) (ds es : List Def) (xs ys : List IlDef) → ElabDefs D ds xs → ElabDefs D es ys → ElabDefs D (ds ++ es) (xs ++ ys)
ElabDefs-append D [] es [] ys h k = k
ElabDefs-append D [] es (x ∷ xs) ys h k = absurd h
ElabDefs-append D (d ∷ ds) es [] ys h k = absurd h
ElabDefs-append D (d ∷ ds) es (x ∷ xs) ys (h, hs) k = (h, ElabDefs-append D ds es xs ys hs k)

abbrev pub sources_in : List Definition → List ℕ
sources_in ds = map number_of (filter (λ (d : Definition). not (is_later d)) ds)

-- what is still to be added makes the whole of what was added
abbrev pub Continues : Decls → List Def → ℕ → Elaborated → Type 0
Continues D defs i out =
    (xs : List IlDef) → ElabDefs D (flat_map joined_of (left_of defs i)) xs
    → ElabDefs D (flat_map joined_of (definitions defs)) (out.il.defs ++ xs)

module _ (D : Decls) (defs : List Def) (i : ℕ) (def : Def) (h : i < length defs) (is : def ≡ get_or defs i def) where
  abbrev here : Definition
  here = standing (take i defs) def (drop (i + 1) defs)

  abbrev ahead : List Definition
  ahead = left_of defs (i + 1)

  -- what is declared from here on
  pub declared_here : (declared : List IlDef) → reverse declared ≡ flat_map declared_by (flat_map joined_of (left_of defs i))
      → reverse declared ≡ flat_map declared_by (joined_of here) ++ flat_map declared_by (flat_map joined_of ahead)
  declared_here declared k =
      k ∙ ap (λ ds. flat_map declared_by (flat_map joined_of ds)) (left_of-next defs i def h is)
      ∙ flat_map-append declared_by (joined_of here) (flat_map joined_of ahead)

  pub Continues-next : (rest declared : List IlDef) (old new : Elaborated) → PlacesOne D here rest declared old new → Continues D defs i old → Continues D defs (i + 1) new
  Continues-next rest declared old new one k xs others =
      subst (ElabDefs D (flat_map joined_of (definitions defs))) (sym (ap (λ ys. ys ++ xs) one.defs ∙ joined-up old.il.defs one.added xs))
      (k (one.added ++ xs)
      (subst (λ ds. ElabDefs D (flat_map joined_of ds) (one.added ++ xs)) (sym (left_of-next defs i def h is))
      (ElabDefs-append D (joined_of here) (flat_map joined_of ahead) one.added xs one.elaborated others)))
    where
      joined-up : (a b c : List IlDef) → (a ++ b) ++ c ≡ a ++ (b ++ c)
      joined-up a b c = grind (arith, common_steps)

  sources-by : (b : Bool) → (if not b then here ∷ filter (λ (d : Definition). not (is_later d)) ahead else filter (λ (d : Definition). not (is_later d)) ahead)
      ≡ (if b then [] else here ∷ []) ++ filter (λ (d : Definition). not (is_later d)) ahead
  sources-by true = refl
  sources-by false = refl

  numbers-by : (b : Bool) → map number_of (if b then [] else here ∷ []) ≡ (if b then [] else number_of here ∷ [])
  numbers-by true = refl
  numbers-by false = refl

  pub sources-next : (rest declared : List IlDef) (old new : Elaborated) → PlacesOne D here rest declared old new
      → old.sources ++ sources_in (left_of defs i) ≡ sources_in (definitions defs) → new.sources ++ sources_in ahead ≡ sources_in (definitions defs)
  sources-next rest declared old new one k =
      ap (λ ns. ns ++ sources_in ahead) one.sources
      ∙ joined-up old.sources (if is_later here then [] else number_of here ∷ []) (sources_in ahead)
      ∙ ap (λ ns. old.sources ++ (ns ++ sources_in ahead)) (sym (numbers-by (is_later here)))
      ∙ ap (λ ns. old.sources ++ ns) (sym (mapped (if is_later here then [] else here ∷ []) (filter (λ (d : Definition). not (is_later d)) ahead)))
      ∙ ap (λ ds. old.sources ++ map number_of ds) (sym (sources-by (is_later here)))
      ∙ ap (λ ds. old.sources ++ sources_in ds) (sym (left_of-next defs i def h is))
      ∙ k
    where
      joined-up : (a b c : List ℕ) → (a ++ b) ++ c ≡ a ++ (b ++ c)
      joined-up a b c = grind (arith, common_steps)

      mapped : (a b : List Definition) → map number_of (a ++ b) ≡ map number_of a ++ map number_of b
      mapped a b = grind (arith, common_steps)
