-- The parts of a syntax pass, one run behind another.
use Rattle.std.proofs.Common.{[], ◌≡◌, sym, ap, ◌∙◌, subst, ℕ, ◌+◌, ◌-◌, ◌≤◌, List, ◌++◌, length, map, take, drop, arith}
use Rattle.std.specs.Prelude.{flat_map, Option, Some, None}
use Rattle.std.specs.List.{AllByRecursion}
use Rattle.std.proofs.lemmas.Grind.{common_steps, flat_map-append}
use Rattle.std.proofs.lemmas.List.{take-append-drop}
use Rattle.st_num.specs.declared.span.Span.{Span}
use Rattle.st_el.specs.declared.notation.Notation.{Notation}
use Rattle.st_el.specs.declared.ty.Typ.{Typ}
use Rattle.st_il.specs.declared.definition.Alternative.{Alternative}
use Rattle.st_il.specs.declared.definition.SyntaxDef.{SyntaxDef}
use Rattle.st_il.specs.declared.definition.SyntaxBody.TheVariants as body
use Rattle.st_type_table.specs.declared.fault.Broken.{Broken}
use Rattle.st_type_table.specs.Breach.{FindsAt}
use Rattle.st_type_table.proofs.PartsLemmas.{AllHold-parts}
use Rattle.st_elab_sig.specs.Types.{ty_of}
use Rattle.st_elab_table.specs.declared.decls.Decls.{Decls}
use Rattle.st_elab_table.specs.Judgements.{broken}
use Rattle.st_elab_def.specs.DeclsOf.{alternative_of, field_of}
use Rattle.st_elab_def.specs.Phases.{names_in, on_alias_name, on_alternatives, on_fields}
use Rattle.st_elab_def.specs.inner.Bodies.{IsSyntax, HaveBeen}
use Rattle.st_elab_def.specs.inner.Places.{name_place, cases_place, fields_place, IsAlternative}
use Rattle.st_elab_def.specs.inner.Walk.{AllPassAt, FirstBreachAt}
use Rattle.st_elab_def.proofs.PartsAsked.{alias-asked, fields-asked, cases-asked, flat-length}

-- what is found in these definitions, which are the declared syntaxes
module _ (D : Decls) (S : List SyntaxDef) (same : D.types ≡ S) (k : ℕ) where
  found-there : (from to : ℕ) (found : Option Broken) → FindsAt S k from to found → FindsAt D.types k from to found
  found-there from to found h = subst (λ s. FindsAt s k from to found) (sym same) h

  -- ---- an alias

  module _ (name : List ℕ) (t : Typ) (whole : Span) (there : IsSyntax D k name (body.Alias (ty_of t))) where
    pub alias-passes : FindsAt S k 0 1 None → AllPassAt D (flat_map (on_alias_name name) (names_in t))
    alias-passes h = alias-asked D k name t whole None there (found-there 0 1 None h)

    pub alias-breach : (b : Broken) (at : Span) → at ≡ name_place (names_in t) b.name whole → FindsAt S k 0 1 (Some b)
        → FirstBreachAt D (flat_map (on_alias_name name) (names_in t)) (broken at b.rule)
    alias-breach b at is h =
        subst (λ a. FirstBreachAt D (flat_map (on_alias_name name) (names_in t)) (broken a b.rule)) (sym is)
        (alias-asked D k name t whole (Some b) there (found-there 0 1 (Some b) h))

  -- ---- fields

  module _ (name : List ℕ) (fs : List (List ℕ × Typ)) (whole : Span) (there : IsSyntax D k name (body.Fields (map field_of fs))) where
    pub fields-pass : (count : ℕ) → count ≡ length fs → FindsAt S k 0 count None → AllPassAt D (on_fields whole [] fs)
    fields-pass count all h = fields-asked D k name fs whole None there (subst (λ n. FindsAt D.types k 0 n None) all (found-there 0 count None h))

    pub fields-breach : (count : ℕ) → count ≡ length fs → (b : Broken) (at : Span) → at ≡ fields_place fs b.part b.name b.rule whole → FindsAt S k 0 count (Some b)
        → FirstBreachAt D (on_fields whole [] fs) (broken at b.rule)
    fields-breach count all b at is h =
        subst (λ a. FirstBreachAt D (on_fields whole [] fs) (broken a b.rule)) (sym is)
        (fields-asked D k name fs whole (Some b) there (subst (λ n. FindsAt D.types k 0 n (Some b)) all (found-there 0 count (Some b) h)))

  -- ---- alternatives

  FindsAt-more : (from to : ℕ) → from ≤ to → FindsAt D.types k 0 from None → FindsAt D.types k from to None → FindsAt D.types k 0 to None
  FindsAt-more from to h one two d there = AllHold-parts D.types d.name d.body 0 from to (omega arith) h (one d there) (two d there)

  module _ (name : List ℕ) (before later : List Alternative) (ns : List Notation) (from to : ℕ) (whole : Span) (e : length before ≡ from) (all : from + length ns ≡ to)
      (alone : AllByRecursion IsAlternative ns) (there : IsSyntax D k name (body.Variant (before ++ (flat_map alternative_of ns ++ later)))) where
    counted : length (before ++ flat_map alternative_of ns) ≡ to
    counted = let n : length (flat_map alternative_of ns) ≡ length ns = flat-length D ns alone in grind (arith, common_steps)

    pub run-passes : FindsAt S k 0 from None → FindsAt S k from to None
        → AllPassAt D (on_alternatives name before ns) × HaveBeen D k (before ++ flat_map alternative_of ns) to
    run-passes been h = (
      cases-asked D k from name before later ns whole None e alone there (subst (λ n. FindsAt D.types k from n None) (sym all) (found-there from to None h)),
      record {
        asked = FindsAt-more from to (omega arith) (found-there 0 from None been) (found-there from to None h);
        count = counted;
      },
    )

    pub run-breach : (b : Broken) (at : Span) → at ≡ cases_place ns (b.part - from) b.name b.rule whole → FindsAt S k from to (Some b)
        → FirstBreachAt D (on_alternatives name before ns) (broken at b.rule)
    run-breach b at is h =
        subst (λ a. FirstBreachAt D (on_alternatives name before ns) (broken a b.rule)) (sym is)
        (cases-asked D k from name before later ns whole (Some b) e alone there (subst (λ n. FindsAt D.types k from n (Some b)) (sym all) (found-there from to (Some b) h)))

-- ---- the alternatives before one that is none

pub front-there : (before later : List Alternative) (ns : List Notation) (count : ℕ)
    → before ++ (flat_map alternative_of ns ++ later) ≡ before ++ (flat_map alternative_of (take count ns) ++ (flat_map alternative_of (drop count ns) ++ later))
front-there before later ns count =
    ap (λ as'. before ++ (as' ++ later)) (ap (flat_map alternative_of) (sym (take-append-drop count ns)) ∙ flat_map-append alternative_of (take count ns) (drop count ns))
    ∙ ap (λ as'. before ++ as') (joined-up (flat_map alternative_of (take count ns)) (flat_map alternative_of (drop count ns)) later)
  where
    joined-up : (a b c : List Alternative) → (a ++ b) ++ c ≡ a ++ (b ++ c)
    joined-up a b c = grind (arith, common_steps)

pub front-length : (ns : List Notation) (from count to : ℕ) → count ≤ length ns → from + count ≡ to → from + length (take count ns) ≡ to
front-length ns from count to h e = grind (arith, common_steps)

module _ (D : Decls) (k : ℕ) (name : List ℕ) (before : List Alternative) (ns : List Notation) (count to : ℕ) where
  pub whole-passes : length ns ≤ count → AllPassAt D (on_alternatives name before (take count ns)) × HaveBeen D k (before ++ flat_map alternative_of (take count ns)) to
      → AllPassAt D (on_alternatives name before ns) × HaveBeen D k (before ++ flat_map alternative_of ns) to
  whole-passes h (passes, been) =
      let whole : take count ns ≡ ns = grind (arith, common_steps) in
      (subst (λ ms. AllPassAt D (on_alternatives name before ms)) whole passes, subst (λ ms. HaveBeen D k (before ++ flat_map alternative_of ms) to) whole been)
