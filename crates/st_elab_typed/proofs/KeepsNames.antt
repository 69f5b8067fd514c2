-- The iterations of an elaborated rule or clause name exactly what they go over.
use Rattle.std.proofs.Common.{◌≡◌, inl, inr, refl, sym, ap, ◌∙◌, subst, ℕ, ◌<◌, List, [], ◌∷◌, ◌++◌, map, filter, length, drop, Bool, true, false, not, ◌||◌, nat_lt, Option, Some, None, arith}
use Rattle.std.specs.Prelude.{if◌then◌else◌, bytes_eq}
use Rattle.std.specs.List.{AllByRecursion, list_any}
use Rattle.std.proofs.lemmas.Bool.{true≢false}
use Rattle.st_num.specs.declared.dim.Kind.{Kind}
use Rattle.st_el.specs.declared.expression.Exp.{Exp}
use Rattle.st_el.specs.declared.definition.Prem.{Prem}
use Rattle.st_il.specs.declared.definition.ClauseDef.{ClauseDef}
use Rattle.st_il.specs.declared.definition.FunDef.{FunDef}
use Rattle.st_il.specs.declared.definition.IlDef.TheVariants as def
use Rattle.st_il.specs.declared.definition.RelationDef.{RelationDef}
use Rattle.st_il.specs.declared.definition.RuleDef.{RuleDef}
use Rattle.st_il.specs.declared.expression.IlExp.{IlExp}
use Rattle.st_il.specs.declared.expression.IlPrem.{IlPrem}
use Rattle.st_il.specs.Occurrences.{occurs, occurs_in_prem}
use Rattle.st_dims.specs.declared.within.Within.{Within}
use Rattle.st_dims.specs.declared.mention.Mention.{Mention}
use Rattle.st_dims.specs.declared.mention.Mention.TheVariants.{Occurs, Indexes, Iterates}
use Rattle.st_dims.specs.declared.mention.Iteration.{Iteration as Iterating}
use Rattle.st_dims.specs.Around.{outside}
use Rattle.st_dims.specs.Mentions.{mentions_in, occurrences_in, indices_in, iterations_in}
use Rattle.st_dims.specs.Dimensions.{Table, dimension_in}
use Rattle.st_dims.specs.Breaches.{is_longer, is_idle}
use Rattle.st_semantics.specs.Environments.{listed_as}
use Rattle.st_ilcheck.specs.Naming.{has_dimension}
use Rattle.st_ilcheck.specs.Parts.{standing}
use Rattle.st_ilcheck.specs.Variables.{Occurrence}
use Rattle.st_elab_table.specs.declared.decls.Decls.{Decls}
use Rattle.st_elab_table.specs.declared.decls.Scope.{Scope}
use Rattle.st_elab_table.specs.Elaboration.{around}
use Rattle.st_elab_table.specs.Iterations.{Variable}
use Rattle.st_elab_table.specs.Steps.{each_asked}
use Rattle.st_elab_table.specs.Premises.{ElabPrems}
use Rattle.st_elab_table.specs.Clauses.{ClauseParts, mentions_of, ElabClause}
use Rattle.st_elab_table.specs.Rules.{ElabRule}
use Rattle.st_elab_table.specs.Scopes.{IsScope, table_of, listed}
use Rattle.st_elab_typed.specs.KeepsNames.{AllKeepNames}
use Rattle.st_elab_typed.specs.RuleNames.{PremKeepsNames, DefKeepsNames}
use Rattle.st_elab_typed.specs.Sources.{RepeatsNoOtherwise}
use Rattle.st_elab_law.specs.Notes.{Note, occurs as occurring, indexes, iterates, mentioned, all_of}
use Rattle.st_elab_law.specs.Noted.{noted, prem_noted, all_noted}
use Rattle.st_elab_typed.specs.inner.Named.{AllName, none as no_names, more as more_names}
use Rattle.st_elab_typed.proofs.Members.{Has, Has-left, Has-right, Has-from_map, map_none, filter_none, any_from_Has, same_path}
use Rattle.st_elab_typed.proofs.AreListed.{Rises, dimension_of, listed_with, placed, chained, variables_in, shortest_of}
use Rattle.st_elab_typed.proofs.KeepsIndices.{indexes-mentioned}
use Rattle.st_elab_typed.proofs.NamedRows.{each_names}
use Rattle.st_elab_typed.proofs.NamesKept.{AreFine, Fits, fits_part, all-kept}
use Rattle.st_elab_law.proofs.NotesOfRules.{rule_notes, clause_notes}
use Rattle.st_elab_typed.proofs.PremNamesKept.{inside_named, judged_named, claims, prem-names-kept}

-- ---- what is noted of a source is fine

longer_than : (depth : ℕ) (o : Option (List Kind)) → is_longer depth o ≡ true → (d : List Kind) × (o ≡ Some d) × (nat_lt depth (length d) ≡ true)
longer_than depth None h = absurd (true≢false (sym h))
longer_than depth (Some d) h = (d, refl, h)

some_longer : (table : Table) (depth : ℕ) (names : List (List ℕ)) → list_any (λ name. is_longer depth (dimension_in table name)) names ≡ true
    → (n : List ℕ) × (Has names n) × (is_longer depth (dimension_in table n) ≡ true)
some_longer table depth [] h = absurd (true≢false (sym h))
some_longer table depth (n ∷ ns) h = by (is_longer depth (dimension_in table n)) refl h (some_longer table depth ns)
  where
    by : (b : Bool) → is_longer depth (dimension_in table n) ≡ b → (b || list_any (λ name. is_longer depth (dimension_in table name)) ns) ≡ true
        → (list_any (λ name. is_longer depth (dimension_in table name)) ns ≡ true → (m : List ℕ) × (Has ns m) × (is_longer depth (dimension_in table m) ≡ true))
        → (m : List ℕ) × (Has (n ∷ ns) m) × (is_longer depth (dimension_in table m) ≡ true)
    by true s k rest = (n, inl refl, s)
    by false s k rest = let r = rest k in (r.0, inr r.1, r.2)

not_idle : (b : Bool) → not b ≡ false → b ≡ true
not_idle true h = refl
not_idle false h = absurd (true≢false h)

below : (a b : ℕ) → nat_lt a b ≡ true → a < b
below a b h = grind (arith, h)

-- where a note is of an iteration, that is mentioned
iterates-mentioned : (ms : List Mention) (depth : ℕ) (names : List (List ℕ)) → Has (mentioned ms) (iterates depth names) → (j : Iterating) × (Has (iterations_in ms) j) × (j.depth ≡ depth) × (j.names ≡ names)
iterates-mentioned [] depth names h = absurd h
iterates-mentioned (Occurs o ∷ ms) depth names (inl e) = absurd (cc)
iterates-mentioned (Occurs o ∷ ms) depth names (inr h) = iterates-mentioned ms depth names h
iterates-mentioned (Indexes i ∷ ms) depth names (inl e) = absurd (cc)
iterates-mentioned (Indexes i ∷ ms) depth names (inr h) = iterates-mentioned ms depth names h
iterates-mentioned (Iterates j ∷ ms) depth names (inl e) = (j, inl refl, cc, cc)
iterates-mentioned (Iterates j ∷ ms) depth names (inr h) = let r = iterates-mentioned ms depth names h in (r.0, inr r.1, r.2, r.3)

module _ (D : Decls) (mentions : List Mention) (S : Scope) (is : IsScope D mentions S) where
  abbrev rises : Rises S.variables
  rises = is.dimensions.is.ordered

  -- an index is no variable
  index_fine : (i : List ℕ) → Has (indices_in mentions) i → (v : Variable) → Has S.variables v → v.0 ≡ i → ⊥
  index_fine i h v k e =
      let there : Has (variables_in mentions) (v.0, v.2) = shortest_of D mentions S is v k in
      let o = Has-from_map chained (occurrences_in mentions) (v.0, v.2) there in
      let free = (placed mentions (table_of S.variables) is.sound.placed o.0 o.1).no_index in
      let name : o.0.name ≡ i = ap (λ (z : Occurrence). z.0) o.2 ∙ e in
      true≢false (sym (any_from_Has o.0.name (indices_in mentions) (subst (Has (indices_in mentions)) (sym name) h)) ∙ free)

  iteration_fine : (j : Iterating) → Has (iterations_in mentions) j → (v : Variable) × (Has S.variables v) × (Has j.names v.0) × (j.depth < length v.2)
  iteration_fine j h =
      let none = map_none (λ (z : Iterating). z.at) (filter (is_idle (table_of S.variables)) (iterations_in mentions)) is.sound.iterating in
      let busy = not_idle _ (filter_none (is_idle (table_of S.variables)) (iterations_in mentions) none j h) in
      let n = some_longer (table_of S.variables) j.depth j.names busy in
      let d = longer_than j.depth (dimension_in (table_of S.variables) n.0) n.2 in
      let l = listed_with S.variables n.0 d.0 d.1 in
      (l.variable, l.member, subst (Has j.names) (sym l.named) n.1, subst (λ z. j.depth < length z) (sym l.dim) (below j.depth (length d.0) d.2))

  source_fine : AreFine S rises (mentioned mentions)
  source_fine (occurring n c) h = tt
  source_fine (indexes i) h = index_fine i (indexes-mentioned mentions i h)
  source_fine (iterates depth names) h =
      let j = iterates-mentioned mentions depth names h in
      let v = iteration_fine j.0 j.1 in
      (v.0, v.1, subst (λ ns. Has ns v.0.0) j.3 v.2, subst (λ n. n < length v.0.2) j.2 v.3)

  -- ---- the variables as they are listed

  whole : (ks : List Kind) → ks ≡ drop 0 ks
  whole [] = refl
  whole (k ∷ ks) = refl

  known_in : (vs : List Variable) (n : List ℕ) → has_dimension (listed_as n (map listed vs)) ≡ true → (v : Variable) × (Has vs v) × (v.0 ≡ n)
  known_in [] n h = absurd (true≢false (sym h))
  known_in (v ∷ vs) n h = by (bytes_eq n v.0) refl h (known_in vs n)
    where
      by : (b : Bool) → bytes_eq n v.0 ≡ b → has_dimension (if b then Some (listed v) else listed_as n (map listed vs)) ≡ true
          → (has_dimension (listed_as n (map listed vs)) ≡ true → (u : Variable) × (Has vs u) × (u.0 ≡ n)) → (u : Variable) × (Has (v ∷ vs) u) × (u.0 ≡ n)
      by true s k rest = (v, inl refl, sym (same_path n v.0 s))
      by false s k rest = let r = rest k in (r.0, inr r.1, r.2)

  fits_outside : Fits S rises outside (map listed S.variables) (λ n. true)
  fits_outside = record {
    left = λ v h o.
        let l = listed_with S.variables v.0 v.2 (dimension_of S.variables rises v h) in
        (listed l.variable, l.found, l.dim ∙ whole v.2);
    known = λ n h. known_in S.variables n h;
    free = λ v h. refl;
  }

  -- ---- a rule or a clause

  fine_left : (xs ys : List Note) → AreFine S rises (xs ++ ys) → AreFine S rises xs
  fine_left xs ys h n k = h n (Has-left xs ys n k)

  fine_right : (xs ys : List Note) → AreFine S rises (xs ++ ys) → AreFine S rises ys
  fine_right xs ys h n k = h n (Has-right xs ys n k)

  prems_kept : (ps : List Prem) (xs : List IlPrem) → AllByRecursion RepeatsNoOtherwise ps → ElabPrems D S outside ps xs → AreFine S rises (all_of (map prem_noted xs) outside)
      → AllByRecursion (PremKeepsNames (map listed S.variables)) xs
  prems_kept [] [] r h fine = tt
  prems_kept [] (x ∷ xs) r h fine = absurd h
  prems_kept (p ∷ ps) [] r h fine = absurd h
  prems_kept (p ∷ ps) (x ∷ xs) r h fine = (
    prem-names-kept D S rises outside p x (map listed S.variables) h.0 r.0 (fits_part S rises outside (map listed S.variables) (λ n. true) (λ n. occurs_in_prem n x) (λ n o. refl) fits_outside)
        (fine_left (prem_noted x outside) (all_of (map prem_noted xs) outside) fine),
    prems_kept ps xs r.1 h.1 (fine_right (prem_noted x outside) (all_of (map prem_noted xs) outside) fine),
  )

  abbrev Kept : List IlExp → List IlPrem → Type 0
  Kept es xs = AllKeepNames (standing (map listed S.variables) es) × AllByRecursion (PremKeepsNames (map listed S.variables)) xs

  all_kept : (es : List IlExp) (ps : List Prem) (xs : List IlPrem) → AllName S (around S) es → AllByRecursion RepeatsNoOtherwise ps → ElabPrems D S (around S) ps xs
      → all_noted es xs ≡ mentioned mentions → Kept es xs
  all_kept es ps xs named r h same =
      let from : around S ≡ outside = λ i. record { kinds = is.around i; indices = [] } in
      let fine : AreFine S rises (all_noted es xs) = λ n k. source_fine n (subst (λ z. Has z n) same k) in (
        all-kept S rises outside es (map listed S.variables) (subst (λ w. AllName S w es) from named)
            (λ x k. fits_part S rises outside (map listed S.variables) (λ n. true) (λ n. occurs n x) (λ n o. refl) fits_outside)
            (fine_left (all_of (map noted es) outside) (all_of (map prem_noted xs) outside) fine),
        prems_kept ps xs r (subst (λ w. ElabPrems D S w ps xs) from h) (fine_right (all_of (map noted es) outside) (all_of (map prem_noted xs) outside) fine),
      )

pub rule_names : (D : Decls) (R : RelationDef) (name : List ℕ) (conclusion : Exp) (premises : List Prem) (rule : RuleDef) → AllByRecursion RepeatsNoOtherwise premises
    → ElabRule D R name conclusion premises rule → DefKeepsNames (def.Rule rule)
rule_names D R name conclusion premises rule r h =
    subst (λ ls. AllKeepNames (standing ls rule.conclusion) × AllByRecursion (PremKeepsNames ls) rule.premises) (sym h.variables_are)
    (all_kept D (mentions_in (conclusion ∷ []) premises) h.scope h.is_scope rule.conclusion premises rule.premises
    (judged_named D h.scope (around h.scope) R conclusion rule.conclusion h.judged) r h.holding (rule_notes D R name conclusion premises rule h))

all_last : (S : Scope) (w : Within) (xs : List IlExp) (y : IlExp) → AllName S w xs → AllName S w (y ∷ []) → AllName S w (xs ++ y ∷ [])
all_last S w [] y no_names k = k
all_last S w (x ∷ xs) y (more_names h hs) k = more_names h (all_last S w xs y hs k)

pub clause_names : (D : Decls) (f : FunDef) (c : ClauseParts) (clause : ClauseDef) → AllByRecursion RepeatsNoOtherwise c.premises → ElabClause D f c clause → DefKeepsNames (def.Clause clause)
clause_names D f c clause r h =
    let w = around h.scope in
    let args : AllName h.scope w clause.args = subst (AllName h.scope w) h.arguments.parts
    (each_names D h.scope w c.args f.params h.arguments.mades (claims D h.scope (each_asked w c.args f.params) h.arguments.mades h.arguments.asked)) in
    let result : AllName h.scope w (clause.result ∷ []) = more_names (inside_named D h.scope w c.result f.result clause.result h.result_is) no_names in
    subst (λ ls. AllKeepNames (standing ls (clause.args ++ clause.result ∷ [])) × AllByRecursion (PremKeepsNames ls) clause.premises) (sym h.variables_are)
    (all_kept D (mentions_of c) h.scope h.is_scope (clause.args ++ clause.result ∷ []) c.premises clause.premises (all_last h.scope w clause.args clause.result args result) r h.holding
    (clause_notes D f c clause h))
