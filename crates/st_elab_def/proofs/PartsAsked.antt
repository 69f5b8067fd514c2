-- What is found at the parts of a syntax, as the source is asked.
use Rattle.std.proofs.Common.{[], ◌≡◌, refl, sym, ap, ◌∙◌, subst, ℕ, zero, suc, ◌+◌, ◌-◌, ◌≤◌, inl, List, ◌∷◌, ◌++◌, map, length, take, drop, append-nil, true, true≢false, arith}
use Rattle.std.specs.Prelude.{flat_map, Option, Some, None, slice_get, MatchOption}
use Rattle.std.specs.List.{AllByRecursion}
use Rattle.std.proofs.lemmas.Grind.{common_steps}
use Rattle.std.proofs.lemmas.Option.{slice_get_within, get_or_from_slice_get}
use Rattle.st_num.specs.declared.rule.RuleId.TheVariants.{B5}
use Rattle.st_num.specs.declared.span.Span.{Span}
use Rattle.st_dims.proofs.Lists.{cut}
use Rattle.st_el.specs.declared.notation.Notation.{Notation, out-Notation}
use Rattle.st_el.specs.declared.notation.NotNode.{NotNode}
use Rattle.st_el.specs.declared.notation.NotNode.TheOpen.{NotNode-F}
use Rattle.st_el.specs.declared.ty.Typ.{Typ}
use Rattle.st_el.specs.declared.ty.TypNode.{TypNode}
use Rattle.st_el.specs.declared.ty.TypNode.TheOpen.{TypNode-F}
use Rattle.st_il.specs.declared.definition.Alternative.{Alternative}
use Rattle.st_il.specs.declared.definition.SyntaxBody.TheVariants as body
use Rattle.st_type_table.specs.declared.fault.Broken.{Broken}
use Rattle.st_type_table.specs.Breach as types
use Rattle.st_type_table.specs.Leads.{names_in as type_names}
use Rattle.st_elab_sig.specs.Types.{ty_of}
use Rattle.st_elab_table.specs.declared.decls.Decls.{Decls}
use Rattle.st_elab_table.specs.Questions.{Breach as PartBreach}
use Rattle.st_elab_table.specs.Judgements.{broken}
use Rattle.st_elab_def.specs.DeclsOf.{type_node, not_node, alternative_of, field_of}
use Rattle.st_elab_def.specs.Phases.{Placed, names_in, on_alias_name, on_bare, on_alternative, on_alternative_at, on_alternatives, on_fields}
use Rattle.st_elab_def.specs.inner.Places.{name_place, cases_place, fields_place, is_nameless, is_bare_at, is_bare, IsAlternative}
use Rattle.st_elab_def.specs.inner.Walk.{AllPassAt, FirstBreachAt}
use Rattle.st_elab_def.proofs.Same.{Same, same-all, same-first, Same-alias, Same-cases, Same-fields, plain_names, names-back}
use Rattle.st_elab_def.proofs.Leaves.{FirstBreachAt-front, FirstBreachAt-behind}

-- ---- what is found

module _ (D : Decls) where
  -- what is found among the conditions on a definition tells what is asked in the source
  abbrev pub Asked : List Placed → (Broken → Span) → Option Broken → Type 0
  Asked ps place found = MatchOption found (AllPassAt D ps) (λ (b : Broken). FirstBreachAt D ps (broken (place b) b.rule))

  asked-by : (place : Broken → Span) (ps : List Placed) (qs : List types.Asked) (found : Option Broken) → Same place ps qs → types.Finds D.types qs found → Asked ps place found
  asked-by place ps qs None same h = same-all D place ps qs same h
  asked-by place ps qs (Some b) same h = same-first D place ps qs b same h

  pub alias-asked : (k : ℕ) (name : List ℕ) (t : Typ) (whole : Span) (found : Option Broken)
      → slice_get D.types k ≡ Some (record { name = name; body = body.Alias (ty_of t) }) → types.FindsAt D.types k 0 1 found
      → Asked (flat_map (on_alias_name name) (names_in t)) (λ b. name_place (names_in t) b.name whole) found
  alias-asked k name t whole found there h =
      asked-by (λ b. name_place (names_in t) b.name whole) (flat_map (on_alias_name name) (names_in t)) (types.on_alias name 0 (plain_names (names_in t))) found
      (Same-alias name whole (names_in t) [] (names_in t) refl)
      (subst (λ names. types.Finds D.types (types.on_alias name 0 names) found) (names-back t)
      (subst (λ qs. types.Finds D.types qs found) (append-nil (types.on_alias name 0 (type_names (ty_of t)))) (h (record { name = name; body = body.Alias (ty_of t) }) there)))

  all-fields : (fs : List (List ℕ × Typ)) → types.run 0 (length fs) (map field_of fs) ≡ map field_of fs
  all-fields fs = grind (arith, common_steps)

  pub fields-asked : (k : ℕ) (name : List ℕ) (fs : List (List ℕ × Typ)) (whole : Span) (found : Option Broken)
      → slice_get D.types k ≡ Some (record { name = name; body = body.Fields (map field_of fs) }) → types.FindsAt D.types k 0 (length fs) found
      → Asked (on_fields whole [] fs) (λ b. fields_place fs b.part b.name b.rule whole) found
  fields-asked k name fs whole found there h =
      asked-by (λ b. fields_place fs b.part b.name b.rule whole) (on_fields whole [] fs) (types.on_fields 0 [] (map field_of fs)) found
      (Same-fields whole fs [] fs [] refl)
      (subst (λ xs. types.Finds D.types (types.on_fields 0 [] xs) found) (all-fields fs) (h (record { name = name; body = body.Fields (map field_of fs) }) there))

  -- ---- alternatives

  pub flat-length : (ns : List Notation) → AllByRecursion IsAlternative ns → length (flat_map alternative_of ns) ≡ length ns
  flat-length [] h = refl
  flat-length (n ∷ ns) h = ap (λ as'. length (as' ++ flat_map alternative_of ns)) h.0.1 ∙ ap suc (flat-length ns h.1)

  front-taken : (before xs behind : List Alternative) (from : ℕ) → length before ≡ from → take from (before ++ (xs ++ behind)) ≡ before
  front-taken before xs behind from e = grind (arith, common_steps)

  run-is : (before xs behind : List Alternative) (from count : ℕ) → length before ≡ from → length xs ≡ count → types.run from (from + count) (before ++ (xs ++ behind)) ≡ xs
  run-is [] xs behind from count e c = subst (λ n. types.run n (n + count) (xs ++ behind) ≡ xs) e (front-taken' xs behind count c)
    where
      front-taken' : (xs behind : List Alternative) (count : ℕ) → length xs ≡ count → drop 0 (take (0 + count) (xs ++ behind)) ≡ xs
      front-taken' xs behind count c = grind (arith, common_steps)
  run-is (b ∷ before) xs behind zero count e c = absurd (omega arith)
  run-is (b ∷ before) xs behind (suc from) count e c =
      subst (λ n. drop (suc from) (take n (b ∷ (before ++ (xs ++ behind)))) ≡ xs) (sum from count) (run-is before xs behind from count (omega arith) c)
    where
      sum : (m n : ℕ) → suc (m + n) ≡ suc m + n
      sum m n = omega arith

  pub cases-asked : (k from : ℕ) (name : List ℕ) (before behind : List Alternative) (ns : List Notation) (whole : Span) (found : Option Broken)
      → length before ≡ from → AllByRecursion IsAlternative ns
      → slice_get D.types k ≡ Some (record { name = name; body = body.Variant (before ++ (flat_map alternative_of ns ++ behind)) })
      → types.FindsAt D.types k from (from + length ns) found
      → Asked (on_alternatives name before ns) (λ b. cases_place ns (b.part - from) b.name b.rule whole) found
  cases-asked k from name before behind ns whole found e alone there h =
      asked-by (λ b. cases_place ns (b.part - from) b.name b.rule whole) (on_alternatives name before ns) (types.on_alternatives name from before (flat_map alternative_of ns)) found
      (subst (λ n. Same (λ b. cases_place ns (b.part - from) b.name b.rule whole) (on_alternatives name before ns) (types.on_alternatives name n before (flat_map alternative_of ns)))
      (no_more from) (Same-cases name from whole ns [] ns before refl alone))
      (subst (λ zs. types.Finds D.types (types.on_alternatives name from zs (flat_map alternative_of ns)) found)
      (front-taken before (flat_map alternative_of ns) behind from e)
      (subst (λ ys. types.Finds D.types (types.on_alternatives name from (take from (before ++ (flat_map alternative_of ns ++ behind))) ys) found)
      (run-is before (flat_map alternative_of ns) behind from (length ns) e (flat-length ns alone))
      (h (record { name = name; body = body.Variant (before ++ (flat_map alternative_of ns ++ behind)) }) there)))
    where
      no_more : (n : ℕ) → n + 0 ≡ n
      no_more n = omega arith

  -- ---- a type by itself that is no name

  bare-breach-at : (name : List ℕ) (so_far : List Alternative) (at : Span) (t : Typ) (y : TypNode-F TypNode Typ) → type_node t ≡ y → is_nameless y ≡ true
      → FirstBreachAt D (on_bare name so_far at t y) (broken at B5)
  bare-breach-at name so_far at t (TypNode-F.Name nm) is h = absurd (true≢false (sym h))
  bare-breach-at name so_far at t TypNode-F.Bool is h = inl ((λ named. differ named.0 named.1), refl)
    where
      differ : (nm : List ℕ) → type_node t ≡ TypNode-F.Name nm → ⊥
      differ nm e = cc
  bare-breach-at name so_far at t TypNode-F.Nat is h = inl ((λ named. differ named.0 named.1), refl)
    where
      differ : (nm : List ℕ) → type_node t ≡ TypNode-F.Name nm → ⊥
      differ nm e = cc
  bare-breach-at name so_far at t TypNode-F.Int is h = inl ((λ named. differ named.0 named.1), refl)
    where
      differ : (nm : List ℕ) → type_node t ≡ TypNode-F.Name nm → ⊥
      differ nm e = cc
  bare-breach-at name so_far at t TypNode-F.Text is h = inl ((λ named. differ named.0 named.1), refl)
    where
      differ : (nm : List ℕ) → type_node t ≡ TypNode-F.Name nm → ⊥
      differ nm e = cc
  bare-breach-at name so_far at t (TypNode-F.Star u) is h = inl ((λ named. differ named.0 named.1), refl)
    where
      differ : (nm : List ℕ) → type_node t ≡ TypNode-F.Name nm → ⊥
      differ nm e = cc
  bare-breach-at name so_far at t (TypNode-F.Quest u) is h = inl ((λ named. differ named.0 named.1), refl)
    where
      differ : (nm : List ℕ) → type_node t ≡ TypNode-F.Name nm → ⊥
      differ nm e = cc
  bare-breach-at name so_far at t (TypNode-F.Tuple us) is h = inl ((λ named. differ named.0 named.1), refl)
    where
      differ : (nm : List ℕ) → type_node t ≡ TypNode-F.Name nm → ⊥
      differ nm e = cc

  bare-by : (name : List ℕ) (so_far : List Alternative) (n : Notation) (x : NotNode-F NotNode Notation) → is_bare_at x ≡ true
      → FirstBreachAt D (on_alternative_at name so_far n x) (broken (out-Notation n).at B5)
  bare-by name so_far n (NotNode-F.Hole t) h = bare-breach-at name so_far (out-Notation n).at t (type_node t) refl h
  bare-by name so_far n (NotNode-F.Atom word) h = absurd (true≢false (sym h))
  bare-by name so_far n (NotNode-F.Seq ns) h = absurd (true≢false (sym h))
  bare-by name so_far n (NotNode-F.Infix left sign right) h = absurd (true≢false (sym h))
  bare-by name so_far n (NotNode-F.Bracket opening inside) h = absurd (true≢false (sym h))

  pub alternatives-append : (name : List ℕ) (before : List Alternative) (ns ms : List Notation)
      → on_alternatives name before (ns ++ ms) ≡ on_alternatives name before ns ++ on_alternatives name (before ++ flat_map alternative_of ns) ms
  alternatives-append name before [] ms = ap (λ zs. on_alternatives name zs ms) (sym (append-nil before))
  alternatives-append name before (n ∷ ns) ms =
      ap (λ ps. on_alternative name (before ++ alternative_of n) n ++ ps) (alternatives-append name (before ++ alternative_of n) ns ms)
      ∙ ap (λ zs. on_alternative name (before ++ alternative_of n) n ++ (on_alternatives name (before ++ alternative_of n) ns ++ on_alternatives name zs ms)) (joined-up before (alternative_of n) (flat_map alternative_of ns))
      ∙ sym (joined-asked (on_alternative name (before ++ alternative_of n) n) (on_alternatives name (before ++ alternative_of n) ns)
      (on_alternatives name (before ++ (alternative_of n ++ flat_map alternative_of ns)) ms))
    where
      joined-up : (a b c : List Alternative) → (a ++ b) ++ c ≡ a ++ (b ++ c)
      joined-up a b c = grind (arith, common_steps)

      joined-asked : (a b c : List Placed) → (a ++ b) ++ c ≡ a ++ (b ++ c)
      joined-asked a b c = grind (arith, common_steps)

  -- a breach in the first alternatives
  pub front-breach : (name : List ℕ) (before : List Alternative) (ns : List Notation) (count : ℕ) (b : PartBreach)
      → FirstBreachAt D (on_alternatives name before (take count ns)) b → FirstBreachAt D (on_alternatives name before ns) b
  front-breach name before ns count b h =
      subst (λ ms. FirstBreachAt D (on_alternatives name before ms) b) (halves ns count)
      (subst (λ ps. FirstBreachAt D ps b) (sym (alternatives-append name before (take count ns) (drop count ns)))
      (FirstBreachAt-front D (on_alternatives name before (take count ns)) (on_alternatives name (before ++ flat_map alternative_of (take count ns)) (drop count ns)) b h))
    where
      halves : (ns : List Notation) (count : ℕ) → take count ns ++ drop count ns ≡ ns
      halves ns count = grind (arith, common_steps)

  -- a type by itself behind alternatives that pass
  pub bare-breach : (name : List ℕ) (before : List Alternative) (ns : List Notation) (count : ℕ) (n : Notation) → slice_get ns count ≡ Some n → is_bare n ≡ true
      → AllPassAt D (on_alternatives name before (take count ns)) → FirstBreachAt D (on_alternatives name before ns) (broken (out-Notation n).at B5)
  bare-breach name before ns count n there bare h =
      subst (λ ms. FirstBreachAt D (on_alternatives name before ms) b) (sym (cut-at ns count n there))
      (subst (λ ps. FirstBreachAt D ps b) (sym (alternatives-append name before (take count ns) (n ∷ drop (count + 1) ns)))
      (FirstBreachAt-behind D (on_alternatives name before (take count ns)) (on_alternatives name so_far (n ∷ drop (count + 1) ns)) b h
      (FirstBreachAt-front D (on_alternative name (so_far ++ alternative_of n) n) (on_alternatives name (so_far ++ alternative_of n) (drop (count + 1) ns)) b
      (bare-by name (so_far ++ alternative_of n) n (not_node n) bare))))
    where
      b : PartBreach
      b = broken (out-Notation n).at B5

      so_far : List Alternative
      so_far = before ++ flat_map alternative_of (take count ns)

      cut-at : (ns : List Notation) (count : ℕ) (n : Notation) → slice_get ns count ≡ Some n → ns ≡ take count ns ++ n ∷ drop (count + 1) ns
      cut-at ns count n there = cut ns count n (slice_get_within ns count n there) (sym (get_or_from_slice_get ns count n n there))

  -- all alternatives pass
  pub all-alternatives : (name : List ℕ) (before : List Alternative) (ns : List Notation) (count : ℕ) → length ns ≤ count
      → AllPassAt D (on_alternatives name before (take count ns)) → AllPassAt D (on_alternatives name before ns)
  all-alternatives name before ns count h k = subst (λ ms. AllPassAt D (on_alternatives name before ms)) (whole ns count h) k
    where
      whole : (ns : List Notation) (count : ℕ) → length ns ≤ count → take count ns ≡ ns
      whole ns count h = grind (arith, common_steps)
