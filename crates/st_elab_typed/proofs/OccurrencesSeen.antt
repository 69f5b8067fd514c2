-- The occurrences in what is elaborated are those that are noted of it.
use Rattle.std.proofs.Common.{◌≡◌, inl, inr, refl, sym, ap, ◌∙◌, subst, ℕ, List, [], ◌∷◌, ◌++◌, map, filter, length, Bool, true, false, not, ◌||◌, append_assoc, append-nil}
use Rattle.std.specs.Prelude.{if◌then◌else◌}
use Rattle.std.specs.List.{AllByRecursion}
use Rattle.std.proofs.lemmas.Bool.{true≢false}
use Rattle.std.proofs.lemmas.List.Folds.{list_any-append}
use Rattle.st_num.specs.Names.{is_among}
use Rattle.st_num.specs.declared.dim.Kind.{Kind}
use Rattle.st_il.specs.declared.expression.IlExp.{IlExp, out-IlExp}
use Rattle.st_il.specs.declared.expression.IlExp.TheOpen.{IlExp-F}
use Rattle.st_il.specs.declared.expression.Iteration.{Iteration, out-Iteration}
use Rattle.st_dims.specs.declared.within.Within.{Within}
use Rattle.st_dims.specs.Around.{entered}
use Rattle.st_il.specs.Names.{flattened, has_name}
use Rattle.st_semantics.specs.Iterations.{count_of, index_of, kind_of}
use Rattle.st_ilcheck.specs.Variables.{Occurrence, deeper, inside, occurrences, occurrences_in}
use Rattle.st_elab_law.specs.Notes.{Note, occurs as occurring, indexes, Notes, nothing, beside, all_of}
use Rattle.st_elab_law.specs.Noted.{variable, iteration_note, iterated, must_at, noted}
use Rattle.st_elab_typed.proofs.ExpInduction.{Level, parts_at, exp_induction}
use Rattle.st_elab_typed.proofs.Members.{Has, Has-left, Has-right, Has-either, Has-map, Has-from_map, Has-filter, Has-from_filter}
use Rattle.st_elab_typed.proofs.Occurring.{occurrences-Var, occurrences-plain, occurrences-Iter}
use Rattle.st_elab_typed.proofs.NotedParts.{noted-level, noted-parts, noted-Iter, in_iteration}

-- ---- whether a name is an index of an iteration round a part

not_false : (b : Bool) → not b ≡ true → b ≡ false
not_false true h = absurd (true≢false (sym h))
not_false false h = refl

or_false : (a b : Bool) → a ≡ false → b ≡ false → (a || b) ≡ false
or_false true b h k = h
or_false false b h k = k

false_left : (a b : Bool) → (a || b) ≡ false → a ≡ false
false_left true b h = h
false_left false b h = refl

false_right : (a b : Bool) → (a || b) ≡ false → b ≡ false
false_right true b h = absurd (true≢false h)
false_right false b h = h

pub outside_both : (name : List ℕ) (some index : List (List ℕ)) → is_among name some ≡ false → has_name index name ≡ false → is_among name (some ++ index) ≡ false
outside_both name some index h k = list_any-append _ some index ∙ or_false (is_among name some) (is_among name index) h k

pub outside_some : (name : List ℕ) (some index : List (List ℕ)) → is_among name (some ++ index) ≡ false → is_among name some ≡ false
outside_some name some index h = false_left (is_among name some) (is_among name index) (sym (list_any-append _ some index) ∙ h)

pub outside_index : (name : List ℕ) (some index : List (List ℕ)) → is_among name (some ++ index) ≡ false → has_name index name ≡ false
outside_index name some index h = false_right (is_among name some) (is_among name index) (sym (list_any-append _ some index) ∙ h)

-- ---- what occurs is noted, and what is noted occurs

-- what is noted is one of these occurrences, inside of this, and of no index there
pub record IsInside (w : Within) (os : List Occurrence) (o : Occurrence) : Type 0 where
  pub chain : List Kind
  pub longer : o.1 ≡ w.kinds ++ chain
  pub occurs : Has os (o.0, chain)
  pub free : is_among o.0 w.indices ≡ false

-- each occurrence in an expression is noted, unless it is of an index; and what is noted occurs
pub record IsSeen (os : List Occurrence) (s : Notes) : Type 0 where
  pub shows : (w : Within) (o : Occurrence) → Has os o → is_among o.0 w.indices ≡ false → Has (s w) (occurring o.0 (w.kinds ++ o.1))
  pub comes : (w : Within) (o : Occurrence) → Has (s w) (occurring o.0 o.1) → IsInside w os o

inside_more : (w : Within) (os qs : List Occurrence) (o : Occurrence) → ((z : Occurrence) → Has os z → Has qs z) → IsInside w os o → IsInside w qs o
inside_more w os qs o h k = record { chain = k.chain; longer = k.longer; occurs = h (o.0, k.chain) k.occurs; free = k.free }

pub seen_none : IsSeen [] nothing
seen_none = record { shows = λ w o h f. absurd h; comes = λ w o h. absurd h }

pub seen_both : (os qs : List Occurrence) (s t : Notes) → IsSeen os s → IsSeen qs t → IsSeen (os ++ qs) (beside s t)
seen_both os qs s t h k = record {
  shows = λ w o m f. elim (Has-either os qs o m) [
    | inl a ↦ Has-left (s w) (t w) (occurring o.0 (w.kinds ++ o.1)) (h.shows w o a f)
    | inr b ↦ Has-right (s w) (t w) (occurring o.0 (w.kinds ++ o.1)) (k.shows w o b f)
  ];
  comes = λ w o m. elim (Has-either (s w) (t w) (occurring o.0 o.1) m) [
    | inl a ↦ inside_more w os (os ++ qs) o (λ z. Has-left os qs z) (h.comes w o a)
    | inr b ↦ inside_more w qs (os ++ qs) o (λ z. Has-right os qs z) (k.comes w o b)
  ];
}

pub seen_all : {A : Type 0} (f : A → List Occurrence) (g : A → Notes) (xs : List A) → AllByRecursion (λ (x : A). IsSeen (f x) (g x)) xs → IsSeen (flattened (map f xs)) (all_of (map g xs))
seen_all f g [] h = seen_none
seen_all f g (x ∷ xs) h = seen_both (f x) (flattened (map f xs)) (g x) (all_of (map g xs)) h.0 (seen_all f g xs h.1)

deeper_chain : (w : List Kind) (k : Kind) (c : List Kind) → (w ++ k ∷ []) ++ c ≡ w ++ k ∷ c
deeper_chain w k c = append_assoc w (k ∷ []) c

-- the body of an iteration, where it is noted
seen_inside : (k : Kind) (index : List (List ℕ)) (os : List Occurrence) (s : Notes) → IsSeen os s → IsSeen (inside index k os) (λ w. s (entered k index w))
seen_inside k index os s h = record {
  shows = λ w o m f.
      let from = Has-from_map (deeper k) (filter (λ (z : Occurrence). not (has_name index z.0)) os) o m in
      let kept = Has-from_filter (λ (z : Occurrence). not (has_name index z.0)) os from.0 from.1 in
      let free : is_among from.0.0 w.indices ≡ false = subst (λ (z : Occurrence). is_among z.0 w.indices ≡ false) (sym from.2) f in
      let there : Has (s (entered k index w)) (occurring from.0.0 ((w.kinds ++ k ∷ []) ++ from.0.1)) =
      h.shows (entered k index w) from.0 kept.0 (outside_both from.0.0 w.indices index free (not_false (has_name index from.0.0) kept.1)) in
      subst (λ (z : Occurrence). Has (s (entered k index w)) (occurring z.0 (w.kinds ++ z.1))) from.2
      (subst (λ c. Has (s (entered k index w)) (occurring from.0.0 c)) (deeper_chain w.kinds k from.0.1) there);
  comes = λ w o m.
      let i = h.comes (entered k index w) o m in
      let passes : not (has_name index o.0) ≡ true = ap not (outside_index o.0 w.indices index i.free) in
      record {
        chain = k ∷ i.chain;
        longer = i.longer ∙ deeper_chain w.kinds k i.chain;
        occurs = Has-map (deeper k) (filter (λ (z : Occurrence). not (has_name index z.0)) os) (o.0, i.chain)
            (Has-filter (λ (z : Occurrence). not (has_name index z.0)) os (o.0, i.chain) i.occurs passes);
        free = outside_some o.0 w.indices index i.free;
      };
}

-- an iteration, where its body and its count are noted
pub seen_iterated : (how : Iteration) (os counts : List Occurrence) (body : Notes) → IsSeen os body → IsSeen counts (all_of (map noted (count_of how)))
    → IsSeen (counts ++ inside (index_of how) (kind_of how) os) (iterated (record { kind = kind_of how; index = index_of how; must = must_at (out-Iteration how); count = all_of (map noted (count_of how)) }) body)
seen_iterated how os counts body h k =
    let inner : List Occurrence = inside (index_of how) (kind_of how) os in
    let r = seen_inside (kind_of how) (index_of how) os body h in
    record {
      shows = λ w o m f.
          let e : Within = entered (kind_of how) (index_of how) w in
          let first : List Note = iteration_note (must_at (out-Iteration how)) (length w.kinds) (body e) ++ map indexes (index_of how) in
          let last : List Note = all_of (map noted (count_of how)) w in
          elim (Has-either counts inner o m) [
            | inl a ↦ Has-right (first ++ body e) last (occurring o.0 (w.kinds ++ o.1)) (k.shows w o a f)
            | inr b ↦ Has-left (first ++ body e) last (occurring o.0 (w.kinds ++ o.1)) (Has-right first (body e) (occurring o.0 (w.kinds ++ o.1)) (r.shows w o b f))
          ];
      comes = λ w o m. elim (in_iteration o.0 how body w o.1 m) [
        | inl a ↦ inside_more w inner (counts ++ inner) o (λ z. Has-right counts inner z) (r.comes w o a)
        | inr b ↦ inside_more w counts (counts ++ inner) o (λ z. Has-left counts inner z) (k.comes w o b)
      ];
    }

variable_seen : (name : List ℕ) → IsSeen ((name, []) ∷ []) (variable name)
variable_seen name = record {
  shows = λ w o m f. elim m [
    | inl e ↦ subst (λ (z : Occurrence). Has (variable name w) (occurring z.0 (w.kinds ++ z.1))) e (shows_by w (is_among name w.indices) (subst (λ (z : Occurrence). is_among z.0 w.indices ≡ false) (sym e) f))
    | inr n ↦ absurd n
  ];
  comes = λ w o m. comes_by w o (is_among name w.indices) refl m;
}
  where
    shows_by : (w : Within) (b : Bool) → b ≡ false → Has {A = Note} (if b then [] else occurring name w.kinds ∷ []) (occurring name (w.kinds ++ []))
    shows_by w true f = absurd (true≢false f)
    shows_by w false f = inl (λ i. occurring name (sym (append-nil w.kinds) i))

    comes_by : (w : Within) (o : Occurrence) (b : Bool) → is_among name w.indices ≡ b → Has {A = Note} (if b then [] else occurring name w.kinds ∷ []) (occurring o.0 o.1) → IsInside w ((name, []) ∷ []) o
    comes_by w o true f m = absurd m
    comes_by w o false f (inl e) =
        let same : name ≡ o.0 = cc in
        let kinds : w.kinds ≡ o.1 = cc in
        record { chain = []; longer = sym kinds ∙ sym (append-nil w.kinds); occurs = inl (λ i. (same i, [])); free = subst (λ z. is_among z w.indices ≡ false) same f }
    comes_by w o false f (inr n) = absurd n

-- the occurrences in an expression are what is noted of it
pub occurrences-seen : (x : IlExp) → IsSeen (occurrences x) (noted x)
occurrences-seen = exp_induction (λ x. IsSeen (occurrences x) (noted x)) (λ x h. by x (out-IlExp x) refl h)
  where
    at : (x : IlExp) (y : Level) → out-IlExp x ≡ y → AllByRecursion (λ z. IsSeen (occurrences z) (noted z)) (parts_at y) → IsSeen (occurrences x) (noted x)
    at x (IlExp-F.Var name) is h =
        subst (λ os. IsSeen os (noted x)) (sym (occurrences-Var x name is)) (subst (IsSeen ((name, []) ∷ [])) (sym (noted-level x (IlExp-F.Var name) is)) (variable_seen name))
    at x (IlExp-F.Iter how xs body) is h =
        subst (λ os. IsSeen os (noted x)) (sym (occurrences-Iter x how xs body is))
        (subst (IsSeen (occurrences_in (count_of how) ++ inside (index_of how) (kind_of how) (occurrences body))) (sym (noted-Iter x how xs body is))
        (seen_iterated how (occurrences body) (occurrences_in (count_of how)) (noted body) h.0 (seen_all occurrences noted (count_of how) h.1)))
    at x y is h =
        subst (λ os. IsSeen os (noted x)) (sym (occurrences-plain x y is tt))
        (subst (IsSeen (occurrences_in (parts_at y))) (sym (noted-level x y is ∙ noted-parts y tt)) (seen_all occurrences noted (parts_at y) h))

    by : (x : IlExp) (y : Level) → out-IlExp x ≡ y → AllByRecursion (λ z. IsSeen (occurrences z) (noted z)) (parts_at (out-IlExp x)) → IsSeen (occurrences x) (noted x)
    by x y is h = at x y is (subst (λ z. AllByRecursion (λ v. IsSeen (occurrences v) (noted v)) (parts_at z)) is h)

-- so are those in several expressions
pub occurrences_in-seen : (xs : List IlExp) → IsSeen (occurrences_in xs) (all_of (map noted xs))
occurrences_in-seen xs = seen_all occurrences noted xs (each xs)
  where
    each : (xs : List IlExp) → AllByRecursion (λ z. IsSeen (occurrences z) (noted z)) xs
    each [] = tt
    each (x ∷ xs) = (occurrences-seen x, each xs)
