-- The numbers of questions and of breaches are those of definitions.
use Rattle.std.proofs.Common.{◌≡◌, sym, subst, ℕ, ◌+◌, ◌<◌, List, [], ◌∷◌, ◌++◌, length, map, flat_map, inl, inr, arith}
use Rattle.std.specs.List.{AllByRecursion}
use Rattle.std.proofs.lemmas.List.{length-append}
use Rattle.st_el.specs.declared.definition.Def.{Def}
use Rattle.st_elab_table.specs.declared.decls.Decls.{Decls}
use Rattle.st_elab_def.specs.declared.breach.Breach.{Breach}
use Rattle.st_elab_def.specs.Breaches.{FirstBreach, IsBreach}
use Rattle.st_elab_def.specs.Definitions.{Definition, number_of, definitions_from, definitions}
use Rattle.st_elab_def.specs.DeclsOf.{decls_of}
use Rattle.st_elab_def.specs.Phases.{Placed, Question, of_definition, phase, phases, questions}

-- the numbers of the questions are below n
abbrev pub QuestionsBelow : ℕ → List Question → Type 0
QuestionsBelow n qs = AllByRecursion (λ (q : Question). q.definition < n) qs

-- the numbers of the definitions are below n
abbrev pub DefinitionsBelow : ℕ → List Definition → Type 0
DefinitionsBelow n ds = AllByRecursion (λ (d : Definition). number_of d < n) ds

QuestionsBelow-append : (n : ℕ) (qs rs : List Question) → QuestionsBelow n qs → QuestionsBelow n rs → QuestionsBelow n (qs ++ rs)
QuestionsBelow-append n [] rs h k = k
QuestionsBelow-append n (q ∷ qs) rs (a, h) k = (a, QuestionsBelow-append n qs rs h k)

QuestionsBelow-of : (n : ℕ) (d : Definition) (ps : List Placed) → number_of d < n → QuestionsBelow n (map (of_definition d) ps)
QuestionsBelow-of n d [] h = tt
QuestionsBelow-of n d (p ∷ ps) h = (h, QuestionsBelow-of n d ps h)

QuestionsBelow-phase : (n : ℕ) (on : Definition → List Placed) (ds : List Definition) → DefinitionsBelow n ds → QuestionsBelow n (phase on ds)
QuestionsBelow-phase n on [] h = tt
QuestionsBelow-phase n on (d ∷ ds) (a, h) = QuestionsBelow-append n (map (of_definition d) (on d)) (phase on ds) (QuestionsBelow-of n d (on d) a) (QuestionsBelow-phase n on ds h)

QuestionsBelow-phases : (n : ℕ) (ons : List (Definition → List Placed)) (ds : List Definition) → DefinitionsBelow n ds
    → QuestionsBelow n (flat_map (λ (on : Definition → List Placed). phase on ds) ons)
QuestionsBelow-phases n [] ds h = tt
QuestionsBelow-phases n (on ∷ ons) ds h =
    QuestionsBelow-append n (phase on ds) (flat_map (λ (on : Definition → List Placed). phase on ds) ons) (QuestionsBelow-phase n on ds h) (QuestionsBelow-phases n ons ds h)

DefinitionsBelow-from : (n : ℕ) (before defs : List Def) → length before + length defs ≡ n → DefinitionsBelow n (definitions_from before defs)
DefinitionsBelow-from n before [] is = tt
DefinitionsBelow-from n before (def ∷ behind) is =
    let here : length before < n = omega (arith, is) in
    let next : length (before ++ def ∷ []) + length behind ≡ n = omega (arith, is, length-append before (def ∷ [])) in
    (here, DefinitionsBelow-from n (before ++ def ∷ []) behind next)

FirstBreach-below : (D : Decls) (n : ℕ) (qs : List Question) (b : Breach) → QuestionsBelow n qs → FirstBreach D qs b → b.definition < n
FirstBreach-below D n [] b below h = absurd h
FirstBreach-below D n (q ∷ qs) b (a, below) (inl broken) = subst (λ k. k < n) (sym broken.0) a
FirstBreach-below D n (q ∷ qs) b (a, below) (inr later) = FirstBreach-below D n qs b below later.1

-- a breach is in one of the definitions
pub IsBreach-within : (defs : List Def) (b : Breach) → IsBreach defs b → b.definition < length defs
IsBreach-within defs b h =
    FirstBreach-below (decls_of defs) (length defs) (questions defs) b
    (QuestionsBelow-phases (length defs) phases (definitions defs) (DefinitionsBelow-from (length defs) [] defs (omega arith))) h
