-- Alternatives before a type by itself that is no name.
use Rattle.std.proofs.Common.{[], ◌≡◌, refl, sym, ap, ◌∙◌, subst, ℕ, ◌+◌, ◌<◌, ◌≤◌, true, false, true≢false, List, ◌∷◌, ◌++◌, length, take, get_or, arith}
use Rattle.std.specs.Prelude.{slice_get, Some, None}
use Rattle.std.specs.List.{AllByRecursion}
use Rattle.std.proofs.lemmas.Option.{slice_get_past, slice_get-get_or}
use Rattle.st_dims.proofs.Lists.{next_taken, all_taken}
use Rattle.st_el.specs.declared.notation.Notation.{Notation}
use Rattle.st_el.specs.declared.notation.NotNode.{NotNode}
use Rattle.st_el.specs.declared.notation.NotNode.TheOpen.{NotNode-F}
use Rattle.st_el.specs.declared.ty.Typ.{Typ}
use Rattle.st_el.specs.declared.ty.TypNode.{TypNode}
use Rattle.st_el.specs.declared.ty.TypNode.TheOpen.{TypNode-F}
use Rattle.st_il.specs.declared.definition.Alternative.{Alternative}
use Rattle.st_elab_def.specs.DeclsOf.{type_node, not_node, bare_alternative, alternative_at}
use Rattle.st_elab_def.specs.inner.Places.{is_nameless, is_bare_at, is_bare, IsAlternative, StandBeforeBare}

named-alone : (y : TypNode-F TypNode Typ) → is_nameless y ≡ false → (a : Alternative) × (bare_alternative y ≡ a ∷ [])
named-alone (TypNode-F.Name name) h = (_, refl)
named-alone TypNode-F.Bool h = absurd (true≢false h)
named-alone TypNode-F.Nat h = absurd (true≢false h)
named-alone TypNode-F.Int h = absurd (true≢false h)
named-alone TypNode-F.Text h = absurd (true≢false h)
named-alone (TypNode-F.Star t) h = absurd (true≢false h)
named-alone (TypNode-F.Quest t) h = absurd (true≢false h)
named-alone (TypNode-F.Tuple ts) h = absurd (true≢false h)

alone-at : (n : Notation) (x : NotNode-F NotNode Notation) → is_bare_at x ≡ false → (a : Alternative) × (alternative_at n x ≡ a ∷ [])
alone-at n (NotNode-F.Hole t) h = named-alone (type_node t) h
alone-at n (NotNode-F.Atom name) h = (_, refl)
alone-at n (NotNode-F.Seq ns) h = (_, refl)
alone-at n (NotNode-F.Infix left sign right) h = (_, refl)
alone-at n (NotNode-F.Bracket opening inside) h = (_, refl)

-- a notation that is no type by itself, or a name, is an alternative
alone : (n : Notation) → is_bare n ≡ false → IsAlternative n
alone n h = alone-at n (not_node n) h

all-more : {A : Type 0} (P : A → Type 0) (xs : List A) (x : A) → AllByRecursion P xs → P x → AllByRecursion P (xs ++ x ∷ [])
all-more P [] x h p = (p, tt)
all-more P (y ∷ ys) x h p = (h.0, all-more P ys x h.1 p)

module _ (ns : List Notation) (i : ℕ) where
  pub stand-next : (n : Notation) → i < length ns → n ≡ get_or ns i n → AllByRecursion IsAlternative (take i ns) → is_bare n ≡ false
      → AllByRecursion IsAlternative (take (i + 1) ns)
  stand-next n h is before bare = subst (AllByRecursion IsAlternative) (sym (next_taken ns i n h is)) (all-more IsAlternative (take i ns) n before (alone n bare))

  pub stand-stop : (n : Notation) → i < length ns → n ≡ get_or ns i n → AllByRecursion IsAlternative (take i ns) → is_bare n ≡ true → StandBeforeBare ns i
  stand-stop n h is before bare = record {
    within = omega arith;
    alternatives = before;
    bare = λ m there. let same : n ≡ m = is_one m there in subst (λ m. is_bare m ≡ true) same bare;
  }
    where
      is_one : (m : Notation) → slice_get ns i ≡ Some m → n ≡ m
      is_one m there =
          let here : slice_get ns i ≡ Some n = slice_get-get_or ns i n h ∙ ap Some (sym is) in cc

  pub stand-end : length ns ≤ i → AllByRecursion IsAlternative (take i ns) → StandBeforeBare ns (length ns)
  stand-end h before = record {
    within = omega arith;
    alternatives = subst (AllByRecursion IsAlternative) (all_taken ns i h ∙ sym (all_taken ns (length ns) (omega arith))) before;
    bare = λ m there. none m (sym (slice_get_past ns (length ns) (omega arith)) ∙ there);
  }
    where
      none : (m : Notation) → None ≡ Some m → is_bare m ≡ true
      none m e = cc
