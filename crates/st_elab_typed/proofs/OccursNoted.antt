-- A name that is noted of an expression occurs in it.
use Rattle.std.proofs.Common.{◌≡◌, inl, inr, refl, ◌∙◌, subst, ℕ, List, [], ◌∷◌, map, Bool, true, false}
use Rattle.std.specs.Prelude.{if◌then◌else◌}
use Rattle.std.specs.List.{AllByRecursion}
use Rattle.st_num.specs.Names.{same_name, is_among}
use Rattle.st_num.specs.declared.dim.Kind.{Kind}
use Rattle.st_il.specs.declared.expression.IlExp.{IlExp, out-IlExp}
use Rattle.st_il.specs.declared.expression.IlExp.TheOpen.{IlExp-F}
use Rattle.st_il.specs.Occurrences.{occurs}
use Rattle.st_dims.specs.declared.within.Within.{Within}
use Rattle.st_dims.specs.Around.{entered}
use Rattle.st_semantics.specs.Iterations.{count_of, index_of, kind_of}
use Rattle.st_elab_law.specs.Notes.{Note, Notes, all_of, occurs as occurring}
use Rattle.st_elab_law.specs.Noted.{noted}
use Rattle.st_elab_typed.proofs.ExpInduction.{Level, parts_at, exp_induction}
use Rattle.st_elab_typed.proofs.Members.{Has, Has-either, Has_recursive, path_same}
use Rattle.st_elab_typed.proofs.Occurring.{occurs-level, occurs-plain, occurs-count, occurs-body, in_member}
use Rattle.st_elab_typed.proofs.OccurrencesSeen.{outside_some, outside_index}
use Rattle.st_elab_typed.proofs.NotedParts.{noted-level, noted-parts, noted-Iter, in_iteration}

module _ (n : List ℕ) where
  -- the name occurs where it is noted, and is no index there
  abbrev pub Shown : (Bool) → Notes → Type 0
  Shown b notes = (w : Within) (c : List Kind) → Has (notes w) (occurring n c) → (b ≡ true) × (is_among n w.indices ≡ false)

  -- a note in several parts is one in some part
  pub in_part : {A : Type 0} (g : A → Notes) (xs : List A) (w : Within) (o : Note) → Has (all_of (map g xs) w) o → (x : A) × (Has xs x) × Has (g x w) o
  in_part g [] w o h = absurd h
  in_part g (x ∷ xs) w o h = elim (Has-either (g x w) (all_of (map g xs) w) o h) [
    | inl a ↦ (x, inl refl, a)
    | inr b ↦ (let r = in_part g xs w o b in (r.0, inr r.1, r.2))
  ]

  -- what is noted of an expression occurs in it
  pub occurs-noted : (x : IlExp) → Shown (occurs n x) (noted x)
  occurs-noted = exp_induction (λ x. Shown (occurs n x) (noted x)) (λ x h. by x (out-IlExp x) refl h)
    where
      variable_by : (name : List ℕ) (w : Within) (c : List Kind) (b : Bool) → is_among name w.indices ≡ b → Has {A = Note} (if b then [] else occurring name w.kinds ∷ []) (occurring n c)
          → (same_name n name ≡ true) × (is_among n w.indices ≡ false)
      variable_by name w c true is h = absurd h
      variable_by name w c false is (inl e) =
          let same : name ≡ n = cc in
          (subst (λ z. same_name z name ≡ true) same (path_same name name refl), subst (λ z. is_among z w.indices ≡ false) same is)
      variable_by name w c false is (inr h) = absurd h

      at : (x : IlExp) (y : Level) → out-IlExp x ≡ y → AllByRecursion (λ z. Shown (occurs n z) (noted z)) (parts_at y) → Shown (occurs n x) (noted x)
      at x (IlExp-F.Var name) is h w c m =
          let k = variable_by name w c (is_among name w.indices) refl (subst (λ (z : Notes). Has (z w) (occurring n c)) (noted-level x (IlExp-F.Var name) is) m) in
          (occurs-level n x (IlExp-F.Var name) is ∙ k.0, k.1)
      at x (IlExp-F.Iter how names body) is h w c m =
          elim (in_iteration n how (noted body) w c (subst (λ (z : Notes). Has (z w) (occurring n c)) (noted-Iter x how names body is) m)) [
            | inl a ↦ (let k = h.0 (entered (kind_of how) (index_of how) w) c a in
                (occurs-body n x how names body is (outside_index n w.indices (index_of how) k.1) k.0, outside_some n w.indices (index_of how) k.1))
            | inr b ↦ (let r = in_part noted (count_of how) w (occurring n c) b in
                let k = Has_recursive (λ z. Shown (occurs n z) (noted z)) (count_of how) r.0 h.1 r.1 w c r.2 in
                (occurs-count n x how names body is (in_member n (count_of how) r.0 r.1 k.0), k.1))
          ]
      at x y is h w c m =
          let r = in_part noted (parts_at y) w (occurring n c) (subst (λ (z : Notes). Has (z w) (occurring n c)) (noted-level x y is ∙ noted-parts y tt) m) in
          let k = Has_recursive (λ z. Shown (occurs n z) (noted z)) (parts_at y) r.0 h r.1 w c r.2 in
          (occurs-plain n x y is tt (in_member n (parts_at y) r.0 r.1 k.0), k.1)

      by : (x : IlExp) (y : Level) → out-IlExp x ≡ y → AllByRecursion (λ z. Shown (occurs n z) (noted z)) (parts_at (out-IlExp x)) → Shown (occurs n x) (noted x)
      by x y is h = at x y is (subst (λ z. AllByRecursion (λ v. Shown (occurs n v) (noted v)) (parts_at z)) is h)
