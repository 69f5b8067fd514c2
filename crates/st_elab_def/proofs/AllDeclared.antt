-- Names are checked, one after another.
use Rattle.std.proofs.Common.{◌≡◌, refl, sym, subst, ℕ, ◌+◌, ◌<◌, ◌≤◌, true, false, true≢false, inl, List, [], ◌∷◌, length, take, drop, get_or}
use Rattle.std.specs.Prelude.{Option, Some, None, is_some}
use Rattle.st_num.specs.declared.rule.RuleId.TheVariants.{B2}
use Rattle.st_il.specs.declared.definition.SyntaxBody.{SyntaxBody}
use Rattle.st_dims.proofs.Lists.{next_taken, all_taken, cut}
use Rattle.st_type_table.specs.Meaning.{body_of}
use Rattle.st_elab_table.specs.declared.decls.Decls.{Decls}
use Rattle.st_elab_table.specs.Judgements.{broken}
use Rattle.st_elab_def.specs.declared.names.Named.{Named}
use Rattle.st_elab_def.specs.Phases.{all_declared}
use Rattle.st_elab_def.specs.inner.Walk.{AllPassAt, FirstBreachAt}
use Rattle.st_elab_def.proofs.NamesIn.{all_declared-append}
use Rattle.st_elab_def.proofs.Leaves.{AllPassAt-append, FirstBreachAt-behind}

there : (o : Option SyntaxBody) → is_some o ≡ true → o ≡ None → ⊥
there (Some b) h e = cc
there None h e = true≢false (sym h)

missing : (o : Option SyntaxBody) → is_some o ≡ false → (o ≡ None → ⊥) → ⊥
missing (Some b) h some = true≢false h
missing None h some = some refl

module _ (D : Decls) (names : List Named) (i : ℕ) where
  pub declared-next : (n : Named) → i < length names → n ≡ get_or names i n → is_some (body_of D.types n.name) ≡ true
      → AllPassAt D (all_declared (take i names)) → AllPassAt D (all_declared (take (i + 1) names))
  declared-next n h is found before =
      subst (λ ns. AllPassAt D (all_declared ns)) (sym (next_taken names i n h is))
      (subst (AllPassAt D) (sym (all_declared-append (take i names) (n ∷ [])))
      (AllPassAt-append D (all_declared (take i names)) (all_declared (n ∷ [])) before (there (body_of D.types n.name) found, tt)))

  pub declared-stop : (n : Named) → i < length names → n ≡ get_or names i n → is_some (body_of D.types n.name) ≡ false
      → AllPassAt D (all_declared (take i names)) → FirstBreachAt D (all_declared names) (broken n.at B2)
  declared-stop n h is absent before =
      subst (λ ns. FirstBreachAt D (all_declared ns) (broken n.at B2)) (sym (cut names i n h is))
      (subst (λ ps. FirstBreachAt D ps (broken n.at B2)) (sym (all_declared-append (take i names) (n ∷ drop (i + 1) names)))
      (FirstBreachAt-behind D (all_declared (take i names)) (all_declared (n ∷ drop (i + 1) names)) (broken n.at B2) before
      (inl (missing (body_of D.types n.name) absent, refl))))

  pub declared-end : length names ≤ i → AllPassAt D (all_declared (take i names)) → AllPassAt D (all_declared names)
  declared-end h before = subst (λ ns. AllPassAt D (all_declared ns)) (all_taken names i h) before
