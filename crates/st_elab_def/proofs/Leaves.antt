-- A source is walked, definition by definition.
use Rattle.std.proofs.Common.{◌≡◌, refl, sym, ap, ◌∙◌, subst, ℕ, ◌+◌, ◌<◌, ◌≤◌, List, [], ◌∷◌, ◌++◌, length, map, take, drop, get_or, inl, inr, arith}
use Rattle.std.specs.Prelude.{Result, Ok, Err}
use Rattle.std.proofs.lemmas.Grind.{common_steps}
use Rattle.st_num.specs.declared.fault.Fault.{Fault}
use Rattle.st_num.specs.declared.fault.Fault.TheVariants as fault
use Rattle.st_el.specs.declared.definition.Def.{Def}
use Rattle.st_dims.proofs.Lists.{next_taken}
use Rattle.st_elab_table.specs.declared.decls.Decls.{Decls}
use Rattle.st_elab_table.specs.Questions.{Breach as PartBreach}
use Rattle.st_elab_rows.specs.Told.{Told}
use Rattle.st_elab_rows.proofs.Builds.{from_place}
use Rattle.st_elab_def.specs.declared.breach.Breach.{Breach}
use Rattle.st_elab_def.specs.Definitions.{Definition, number_of, definitions_from, definitions}
use Rattle.st_elab_def.specs.Phases.{Placed, Question, of_definition, phase}
use Rattle.st_elab_def.specs.Breaches.{AllPass, FirstBreach}
use Rattle.st_elab_def.specs.Answers.{Told as ToldOfAll}
use Rattle.st_elab_def.specs.inner.Walk.{standing, AllPassAt, FirstBreachAt, asked_of, numbered}

-- ---- questions in a row

module _ (D : Decls) where
  pub AllPass-append : (qs rs : List Question) → AllPass D qs → AllPass D rs → AllPass D (qs ++ rs)
  AllPass-append [] rs h k = k
  AllPass-append (q ∷ qs) rs (a, h) k = (a, AllPass-append qs rs h k)

  pub FirstBreach-front : (qs rs : List Question) (b : Breach) → FirstBreach D qs b → FirstBreach D (qs ++ rs) b
  FirstBreach-front [] rs b h = absurd h
  FirstBreach-front (q ∷ qs) rs b (inl h) = inl h
  FirstBreach-front (q ∷ qs) rs b (inr (a, h)) = inr (a, FirstBreach-front qs rs b h)

  pub FirstBreach-behind : (qs rs : List Question) (b : Breach) → AllPass D qs → FirstBreach D rs b → FirstBreach D (qs ++ rs) b
  FirstBreach-behind [] rs b h k = k
  FirstBreach-behind (q ∷ qs) rs b (a, h) k = inr (a, FirstBreach-behind qs rs b h k)

  -- ---- the parts of one definition

  pub AllPassAt-append : (ps rs : List Placed) → AllPassAt D ps → AllPassAt D rs → AllPassAt D (ps ++ rs)
  AllPassAt-append [] rs h k = k
  AllPassAt-append (p ∷ ps) rs (a, h) k = (a, AllPassAt-append ps rs h k)

  pub FirstBreachAt-front : (ps rs : List Placed) (b : PartBreach) → FirstBreachAt D ps b → FirstBreachAt D (ps ++ rs) b
  FirstBreachAt-front [] rs b h = absurd h
  FirstBreachAt-front (p ∷ ps) rs b (inl h) = inl h
  FirstBreachAt-front (p ∷ ps) rs b (inr (a, h)) = inr (a, FirstBreachAt-front ps rs b h)

  pub FirstBreachAt-behind : (ps rs : List Placed) (b : PartBreach) → AllPassAt D ps → FirstBreachAt D rs b → FirstBreachAt D (ps ++ rs) b
  FirstBreachAt-behind [] rs b h k = k
  FirstBreachAt-behind (p ∷ ps) rs b (a, h) k = inr (a, FirstBreachAt-behind ps rs b h k)

  -- ---- the questions of one definition

  pub AllPass-of : (d : Definition) (ps : List Placed) → AllPassAt D ps → AllPass D (map (of_definition d) ps)
  AllPass-of d [] h = tt
  AllPass-of d (p ∷ ps) (a, h) = (a, AllPass-of d ps h)

  pub FirstBreach-of : (d : Definition) (ps : List Placed) (b : PartBreach) → FirstBreachAt D ps b
      → FirstBreach D (map (of_definition d) ps) (record { definition = number_of d; at = b.at; rule = b.rule })
  FirstBreach-of d [] b h = absurd h
  FirstBreach-of d (p ∷ ps) b (inl h) = inl (refl, h)
  FirstBreach-of d (p ∷ ps) b (inr (a, h)) = inr (a, FirstBreach-of d ps b h)

  -- what is told of the parts of a definition is told of its questions
  pub numbered-told : {A : Type 0} (on : Definition → List Placed) (d : Definition) (number : ℕ) (P : A → Type 0) (r : Result A Fault) → number ≡ number_of d
      → Told P (FirstBreachAt D (on d)) r → ToldOfAll P (FirstBreach D (asked_of on d)) (numbered number r)
  numbered-told on d number P (Ok x) e h = h
  numbered-told on d number P (Err (fault.Refused at rule)) e h =
      subst (λ n. FirstBreach D (asked_of on d) (record { definition = n; at = at; rule = rule })) (sym e)
      (FirstBreach-of d (on d) (record { at = at; rule = rule }) h)
  numbered-told on d number P (Err fault.Memory) e h = tt

-- ---- how far a walk has come

-- the definitions from this place on
abbrev pub left_of : List Def → ℕ → List Definition
left_of defs i = definitions_from (take i defs) (drop i defs)

pub left_of-next : (defs : List Def) (i : ℕ) (def : Def) → i < length defs → def ≡ get_or defs i def
    → left_of defs i ≡ standing (take i defs) def (drop (i + 1) defs) ∷ left_of defs (i + 1)
left_of-next defs i def h is =
    ap (definitions_from (take i defs)) (from_place defs i def h is)
    ∙ ap (λ front. standing (take i defs) def (drop (i + 1) defs) ∷ definitions_from front (drop (i + 1) defs)) (sym (next_taken defs i def h is))

pub left_of-end : (defs : List Def) (i : ℕ) → length defs ≤ i → left_of defs i ≡ []
left_of-end defs i h =
    let none : drop i defs ≡ [] = grind (arith, common_steps) in
    ap (definitions_from (take i defs)) none

pub number-here : (defs : List Def) (i : ℕ) (def : Def) → i < length defs → i ≡ number_of (standing (take i defs) def (drop (i + 1) defs))
number-here defs i def h = grind (arith, common_steps)

module _ (D : Decls) (on : Definition → List Placed) (defs : List Def) where
  -- What is still asked in a phase settles the phase.
  pub record Leaves (i : ℕ) : Type 0 where
    pub all : AllPass D (phase on (left_of defs i)) → AllPass D (phase on (definitions defs))
    pub first : (b : Breach) → FirstBreach D (phase on (left_of defs i)) b → FirstBreach D (phase on (definitions defs)) b

  pub Leaves-start : Leaves 0
  Leaves-start = record { all = λ h. h; first = λ b h. h }

  module _ (i : ℕ) (def : Def) (h : i < length defs) (is : def ≡ get_or defs i def) (left : Leaves i) where
    abbrev here : Definition
    here = standing (take i defs) def (drop (i + 1) defs)

    abbrev ahead : List Question
    ahead = phase on (left_of defs (i + 1))

    next : phase on (left_of defs i) ≡ asked_of on here ++ ahead
    next = ap (phase on) (left_of-next defs i def h is)

    -- what a definition asks passes
    pub Leaves-next : AllPass D (asked_of on here) → Leaves (i + 1)
    Leaves-next passes = record {
      all = λ rest. left.all (subst (AllPass D) (sym next) (AllPass-append D (asked_of on here) ahead passes rest));
      first = λ b rest. left.first b (subst (λ qs. FirstBreach D qs b) (sym next) (FirstBreach-behind D (asked_of on here) ahead b passes rest));
    }

    -- the first breach is in what a definition asks
    pub Leaves-stop : (b : Breach) → FirstBreach D (asked_of on here) b → FirstBreach D (phase on (definitions defs)) b
    Leaves-stop b broken = left.first b (subst (λ qs. FirstBreach D qs b) (sym next) (FirstBreach-front D (asked_of on here) ahead b broken))

  pub Leaves-end : (i : ℕ) → length defs ≤ i → Leaves i → AllPass D (phase on (definitions defs))
  Leaves-end i h left = left.all (subst (λ ds. AllPass D (phase on ds)) (sym (left_of-end defs i h)) tt)
