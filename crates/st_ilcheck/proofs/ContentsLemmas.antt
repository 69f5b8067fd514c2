-- What stands in an expression or a premise, by what stands in its parts.
use Rattle.std.proofs.Common.{◌≡◌, ℕ, ◌+◌, ◌<◌, ◌≤◌, refl, sym, ap, ap₂, ◌∙◌, subst, List, [], ◌∷◌, ◌++◌, map, length, drop, get_or, append_assoc, append-nil}
use Rattle.std.specs.Borrow.{Bor}
use Rattle.std.proofs.lemmas.List.{length-map, drop_all}
use Rattle.st_il.specs.declared.expression.IlExp.{IlExp, out-IlExp, roll-IlExp, roll-out-IlExp, fold-IlExp, fold_out-IlExp, map-IlExp}
use Rattle.st_il.specs.declared.expression.IlExp.TheOpen.{IlExp-F, Iteration-F, ListItem-F, PathSeg-F}
use Rattle.st_il.specs.declared.expression.IlExp.TheVariants as exp
use Rattle.st_il.specs.declared.expression.IlPrem.{IlPrem, out-IlPrem, fold_out-IlPrem, map-IlPrem}
use Rattle.st_il.specs.declared.expression.IlPrem.TheOpen.{IlPrem-F}
use Rattle.st_il.specs.declared.expression.Iteration.{Iteration, out-Iteration, fold-Iteration, fold_out-Iteration, map-Iteration}
use Rattle.st_il.specs.declared.expression.ListItem.{ListItem, out-ListItem, fold-ListItem, fold_out-ListItem, map-ListItem}
use Rattle.st_il.specs.declared.expression.PathSeg.{PathSeg, out-PathSeg, fold-PathSeg, fold_out-PathSeg, map-PathSeg}
use Rattle.st_type_table.specs.Leads.{names_in}
use Rattle.st_il.specs.Names.{Name, flattened}
use Rattle.st_semantics.specs.Iterations.{count_of, index_of, kind_of, count_at, index_at, kind_at}
use Rattle.st_semantics.specs.Operands.{operands_at, item_at, segment_at, item_exp, segment_exps}
use Rattle.st_semantics.specs.OperationTypes.{Level}
use Rattle.st_semantics.specs.Variables.{Counted, counted_at, called, called_at, called_in, prem_called, prem_called_at}
use Rattle.st_semantics.proofs.Names.{map-same}
use Rattle.st_ilcheck.specs.declared.contents.Contents.{Contents}
use Rattle.st_ilcheck.specs.Declarations.{Tagged, tags, tags_at, tags_in, count_tags_at, prem_tags, prem_tags_at, syntaxes_at, syntaxes_cited, syntaxes_cited_in, prem_syntaxes, prem_syntaxes_at}
use Rattle.st_ilcheck.specs.Variables.{Occurrence, Repeated, repeated_at, occurrences, occurrences_at, occurrences_in, prem_occurrences, prem_occurrences_at, inside, indices, indices_at, indices_in, count_indices_at, prem_indices, prem_indices_at, all_occurrences, all_indices}
use Rattle.st_ilcheck.specs.inner.Contents.{nothing, joined, own_at, within, IsContents, AreContents, IsWithin, IsPremContents, ArePremContents, AreAllContents}
use Rattle.st_semantics.specs.References.{exps_now}
use Rattle.st_ilcheck.proofs.Drops.{from}

map-append : {A B : Type 0} (f : A → B) (xs ys : List A) → map f (xs ++ ys) ≡ map f xs ++ map f ys
map-append f [] ys = refl
map-append f (x ∷ xs) ys = ap (λ z. f x ∷ z) (map-append f xs ys)

-- ---- what is collected from the parts of an expression

module _ {X K : Type 0} (at : IlExp-F (List X) K (List X) (List (List X)) → List X) (count : Iteration-F (List X) K (List X) (List (List X)) → K) where
  abbrev all_in : IlExp → List X
  all_in = fold-IlExp (List X) K (List X) (List (List X)) at count item_at segment_at

  abbrev of_item : ListItem → List X
  of_item = fold-ListItem (List X) K (List X) (List (List X)) at count item_at segment_at

  abbrev of_segment : PathSeg → List (List X)
  of_segment = fold-PathSeg (List X) K (List X) (List (List X)) at count item_at segment_at

  abbrev of_count : Iteration → K
  of_count = fold-Iteration (List X) K (List X) (List (List X)) at count item_at segment_at

  abbrev mapped : Level → IlExp-F (List X) K (List X) (List (List X))
  mapped y = map-IlExp IlExp Iteration ListItem PathSeg (List X) K (List X) (List (List X)) all_in of_count of_item of_segment y

  abbrev mapped_count : Iteration-F IlExp Iteration ListItem PathSeg → Iteration-F (List X) K (List X) (List (List X))
  mapped_count y = map-Iteration IlExp Iteration ListItem PathSeg (List X) K (List X) (List (List X)) all_in of_count of_item of_segment y

  item-is : (i : ListItem) → of_item i ≡ all_in (item_exp i)
  item-is i = fold_out-ListItem (List X) K (List X) (List (List X)) at count item_at segment_at i ∙ by (out-ListItem i)
    where
      by : (y : ListItem-F IlExp Iteration ListItem PathSeg)
          → item_at (map-ListItem IlExp Iteration ListItem PathSeg (List X) K (List X) (List (List X)) all_in of_count of_item of_segment y) ≡ all_in (item_at y)
      by (ListItem-F.One e) = refl
      by (ListItem-F.All e) = refl

  items-are : (is : List ListItem) → map of_item is ≡ map all_in (map item_exp is)
  items-are [] = refl
  items-are (i ∷ is) = ap₂ (λ a b. a ∷ b) (item-is i) (items-are is)

  segment-is : (s : PathSeg) → of_segment s ≡ map all_in (segment_exps s)
  segment-is s = fold_out-PathSeg (List X) K (List X) (List (List X)) at count item_at segment_at s ∙ by (out-PathSeg s)
    where
      by : (y : PathSeg-F IlExp Iteration ListItem PathSeg)
          → segment_at (map-PathSeg IlExp Iteration ListItem PathSeg (List X) K (List X) (List (List X)) all_in of_count of_item of_segment y) ≡ map all_in (segment_at y)
      by (PathSeg-F.Field name) = refl
      by (PathSeg-F.PathSeg::At e) = refl
      by (PathSeg-F.PathSeg::Slice e g) = refl

  path-is : (path : List PathSeg) (last : IlExp) → flattened (map (λ (s : List (List X)). s) (map of_segment path)) ++ all_in last ∷ [] ≡ map all_in (flattened (map segment_exps path) ++ last ∷ [])
  path-is path last = ap (λ z. z ++ all_in last ∷ []) (by path) ∙ sym (map-append all_in (flattened (map segment_exps path)) (last ∷ []))
    where
      by : (path : List PathSeg) → flattened (map (λ (s : List (List X)). s) (map of_segment path)) ≡ map all_in (flattened (map segment_exps path))
      by [] = refl
      by (s ∷ ss) = ap₂ (λ a b. a ++ b) (segment-is s) (by ss) ∙ sym (map-append all_in (segment_exps s) (flattened (map segment_exps ss)))

  operands-are : (y : Level) → operands_at (λ (z : List X). z) (λ (z : List (List X)). z) (mapped y) ≡ map all_in (operands_at item_exp segment_exps y)
  operands-are (IlExp-F.Set e path g) = ap (λ z. all_in e ∷ z) (path-is path g)
  operands-are (IlExp-F.Extend e path g) = ap (λ z. all_in e ∷ z) (path-is path g)
  operands-are (IlExp-F.List t items) = map-same (map of_item items) ∙ items-are items
  operands-are _ = refl

  opened : (e : IlExp) → all_in e ≡ at (mapped (out-IlExp e))
  opened e = fold_out-IlExp (List X) K (List X) (List (List X)) at count item_at segment_at e

  opened-count : (how : Iteration) → of_count how ≡ count (mapped_count (out-Iteration how))
  opened-count how = fold_out-Iteration (List X) K (List X) (List (List X)) at count item_at segment_at how

  counted-are : (y : Iteration-F IlExp Iteration ListItem PathSeg) → flattened (count_at (mapped_count y)) ≡ flattened (map all_in (count_at y))
  counted-are Iteration-F.Star = refl
  counted-are Iteration-F.Plus = refl
  counted-are Iteration-F.Quest = refl
  counted-are (Iteration-F.Times e) = refl
  counted-are (Iteration-F.Below index e) = refl

  index-is : (y : Iteration-F IlExp Iteration ListItem PathSeg) → index_at (mapped_count y) ≡ index_at y
  index-is Iteration-F.Star = refl
  index-is Iteration-F.Plus = refl
  index-is Iteration-F.Quest = refl
  index-is (Iteration-F.Times e) = refl
  index-is (Iteration-F.Below index e) = refl

  kind-is : (y : Iteration-F IlExp Iteration ListItem PathSeg) → kind_at (mapped_count y) ≡ kind_at y
  kind-is Iteration-F.Star = refl
  kind-is Iteration-F.Plus = refl
  kind-is Iteration-F.Quest = refl
  kind-is (Iteration-F.Times e) = refl
  kind-is (Iteration-F.Below index e) = refl

-- ---- levels that are no iterations

abbrev NoIteration : Level → Type 0
NoIteration y = (how : Iteration) (xs : List Name) (body : IlExp) → y ≡ IlExp-F.Iter how xs body → ⊥

tags-plain : (y : Level) → NoIteration y → tags_at (mapped tags_at count_tags_at y) ≡ (own_at y).tags ++ tags_in (operands_at item_exp segment_exps y)
tags-plain (IlExp-F.Iter how xs body) n = absurd (n how xs body refl)
tags-plain (IlExp-F.Case type tag es) n = ap (λ k. (tag, k) ∷ flattened (map tags es)) (length-map es tags)
tags-plain y n = ap flattened (operands-are tags_at count_tags_at y)

called-plain : (y : Level) → NoIteration y → called_at (mapped called_at counted_at y) ≡ (own_at y).functions ++ called_in (operands_at item_exp segment_exps y)
called-plain (IlExp-F.Iter how xs body) n = absurd (n how xs body refl)
called-plain (IlExp-F.Call fun es) n = refl
called-plain y n = ap flattened (operands-are called_at counted_at y)

indices-plain : (y : Level) → NoIteration y → indices_at (mapped indices_at count_indices_at y) ≡ (own_at y).indices ++ indices_in (operands_at item_exp segment_exps y)
indices-plain (IlExp-F.Iter how xs body) n = absurd (n how xs body refl)
indices-plain y n = ap flattened (operands-are indices_at count_indices_at y)

occurrences-plain : (y : Level) → NoIteration y → occurrences_at (mapped occurrences_at repeated_at y) ≡ (own_at y).occurrences ++ occurrences_in (operands_at item_exp segment_exps y)
occurrences-plain (IlExp-F.Iter how xs body) n = absurd (n how xs body refl)
occurrences-plain (IlExp-F.Var x) n = refl
occurrences-plain y n = ap flattened (operands-are occurrences_at repeated_at y)

syntaxes-plain : (y : Level) → NoIteration y → syntaxes_at (mapped syntaxes_at counted_at y) ≡ (own_at y).syntaxes ++ syntaxes_cited_in (operands_at item_exp segment_exps y)
syntaxes-plain (IlExp-F.Iter how xs body) n = absurd (n how xs body refl)
syntaxes-plain (IlExp-F.Case type tag es) n = refl
syntaxes-plain (IlExp-F.Fields type es) n = refl
syntaxes-plain (IlExp-F.List t items) n = ap (λ z. names_in t ++ flattened z) (items-are syntaxes_at counted_at items)
syntaxes-plain (IlExp-F.Empty t) n = sym (append-nil (names_in t))
syntaxes-plain (IlExp-F.Absent t) n = sym (append-nil (names_in t))
syntaxes-plain (IlExp-F.Up t e) n = ap (λ z. names_in t ++ z) (sym (append-nil (syntaxes_cited e)))
syntaxes-plain y n = ap flattened (operands-are syntaxes_at counted_at y)

-- ---- iterations

tags-counted : (how : Iteration) → of_count tags_at count_tags_at how ≡ tags_in (count_of how)
tags-counted how = opened-count tags_at count_tags_at how ∙ counted-are tags_at count_tags_at (out-Iteration how)

indices-counted : (how : Iteration) → of_count indices_at count_indices_at how ≡ index_of how ++ indices_in (count_of how)
indices-counted how =
    opened-count indices_at count_indices_at how
    ∙ ap₂ (λ a b. a ++ b) (index-is indices_at count_indices_at (out-Iteration how)) (counted-are indices_at count_indices_at (out-Iteration how))

called-counted : (how : Iteration) → (of_count called_at counted_at how).count ≡ called_in (count_of how)
called-counted how = ap (λ (z : Counted). z.count) (opened-count called_at counted_at how) ∙ counted-are called_at counted_at (out-Iteration how)

syntaxes-counted : (how : Iteration) → (of_count syntaxes_at counted_at how).count ≡ syntaxes_cited_in (count_of how)
syntaxes-counted how = ap (λ (z : Counted). z.count) (opened-count syntaxes_at counted_at how) ∙ counted-are syntaxes_at counted_at (out-Iteration how)

occurrences-counted : (how : Iteration) (os : List Occurrence) → (let z : Repeated = of_count occurrences_at repeated_at how in z.count ++ inside z.index z.kind os) ≡ occurrences_in (count_of how) ++ inside (index_of how) (kind_of how) os
occurrences-counted how os =
    ap (λ (z : Repeated). z.count ++ inside z.index z.kind os) (opened-count occurrences_at repeated_at how)
    ∙ (ap (λ z. z ++ inside (index_at (mapped_count occurrences_at repeated_at (out-Iteration how))) (kind_at (mapped_count occurrences_at repeated_at (out-Iteration how))) os) (counted-are occurrences_at repeated_at (out-Iteration how))
    ∙ ap₂ (λ i k. occurrences_in (count_of how) ++ inside i k os) (index-is occurrences_at repeated_at (out-Iteration how)) (kind-is occurrences_at repeated_at (out-Iteration how)))

-- ---- what stands in an expression

abbrev of_syntaxes : Contents → List Name
of_syntaxes c = c.syntaxes

abbrev of_functions : Contents → List Name
of_functions c = c.functions

abbrev of_tags : Contents → List Tagged
of_tags c = c.tags

abbrev of_indices : Contents → List Name
of_indices c = c.indices

abbrev of_occurrences : Contents → List Occurrence
of_occurrences c = c.occurrences

both : {A : Type 0} {a b c d : List A} → a ≡ c → b ≡ d → a ++ b ≡ c ++ d
both p q = ap₂ (λ x y. x ++ y) p q

pub contents-plain : (e : IlExp) (es : List IlExp) (own parts all : Contents) → own ≡ own_at (out-IlExp e) → ((how : Iteration) (xs : List Name) (body : IlExp) → e ≡ exp.Iter how xs body → ⊥)
    → es ≡ operands_at item_exp segment_exps (out-IlExp e) → AreContents es parts → all ≡ joined own parts → IsContents e all
contents-plain e es own parts all o n is p w = record {
  syntaxes = ap of_syntaxes w ∙ (both (ap of_syntaxes o) (p.syntaxes ∙ ap syntaxes_cited_in is) ∙ sym (opened syntaxes_at counted_at e ∙ syntaxes-plain (out-IlExp e) no_iteration));
  functions = ap of_functions w ∙ (both (ap of_functions o) (p.functions ∙ ap called_in is) ∙ sym (opened called_at counted_at e ∙ called-plain (out-IlExp e) no_iteration));
  tagged = ap of_tags w ∙ (both (ap of_tags o) (p.tagged ∙ ap tags_in is) ∙ sym (opened tags_at count_tags_at e ∙ tags-plain (out-IlExp e) no_iteration));
  counting = ap of_indices w ∙ (both (ap of_indices o) (p.counting ∙ ap indices_in is) ∙ sym (opened indices_at count_indices_at e ∙ indices-plain (out-IlExp e) no_iteration));
  variables = ap of_occurrences w ∙ (both (ap of_occurrences o) (p.variables ∙ ap occurrences_in is) ∙ sym (opened occurrences_at repeated_at e ∙ occurrences-plain (out-IlExp e) no_iteration));
}
  where
    no_iteration : NoIteration (out-IlExp e)
    no_iteration how xs body h = n how xs body (sym (roll-out-IlExp e) ∙ (ap roll-IlExp h ∙ exp.rolls-Iter how xs body))

pub contents-iterated : (e : IlExp) (how : Iteration) (xs : List Name) (body b : IlExp) (own parts all : Contents) → e ≡ exp.Iter how xs body → b ≡ body → own ≡ own_at (out-IlExp e) → IsWithin how b parts → all ≡ joined own parts → IsContents e all
contents-iterated e how xs body b own parts all e_is b_is o p w =
    let is : out-IlExp e ≡ IlExp-F.Iter how xs body = ap out-IlExp e_is ∙ exp.outs-Iter how xs body in
    let own_is : own ≡ own_at (IlExp-F.Iter how xs body) = o ∙ ap own_at is in
    let c = p.count in
    let r : IsContents body p.inner = subst (λ z. IsContents z p.inner) b_is p.repeated in
    let whole : all ≡ joined (own_at (IlExp-F.Iter how xs body)) (joined p.counted (within how p.inner)) = w ∙ ap₂ joined own_is p.whole in record {
      syntaxes = ap of_syntaxes whole ∙ (both c.syntaxes r.syntaxes ∙ sym (opened syntaxes_at counted_at e ∙ (ap (λ y. syntaxes_at (mapped syntaxes_at counted_at y)) is ∙ ap (λ z. z ++ syntaxes_cited body) (syntaxes-counted how))));
      functions = ap of_functions whole ∙ (both c.functions r.functions ∙ sym (opened called_at counted_at e ∙ (ap (λ y. called_at (mapped called_at counted_at y)) is ∙ ap (λ z. z ++ called body) (called-counted how))));
      tagged = ap of_tags whole ∙ (both c.tagged r.tagged ∙ sym (opened tags_at count_tags_at e ∙ (ap (λ y. tags_at (mapped tags_at count_tags_at y)) is ∙ ap (λ z. z ++ tags body) (tags-counted how))));
      counting = ap of_indices whole ∙ (ap (λ z. index_of how ++ z) (both c.counting r.counting) ∙ sym (opened indices_at count_indices_at e
          ∙ (ap (λ y. indices_at (mapped indices_at count_indices_at y)) is ∙ (ap (λ z. z ++ indices body) (indices-counted how) ∙ append_assoc (index_of how) (indices_in (count_of how)) (indices body)))));
      variables = ap of_occurrences whole ∙ (both c.variables (ap (inside (index_of how) (kind_of how)) r.variables) ∙ sym (opened occurrences_at repeated_at e
          ∙ (ap (λ y. occurrences_at (mapped occurrences_at repeated_at y)) is ∙ occurrences-counted how (occurrences body))));
    }

-- ---- what stands in several

module _ (es : List (Bor IlExp)) (i : ℕ) (found : Contents) (so_far : (c : Contents) → AreContents (exps_now (drop i es)) c → AreContents (exps_now es) (joined found c)) where
  pub contents-next : (x : Bor IlExp) (more longer : Contents) → i < length es → x ≡ get_or es i x → IsContents x.now more → longer ≡ joined found more
      → (c : Contents) → AreContents (exps_now (drop (i + 1) es)) c → AreContents (exps_now es) (joined longer c)
  contents-next x more longer h is m w c k =
      let first : AreContents (exps_now (x ∷ drop (i + 1) es)) (joined more c) = record {
        syntaxes = both m.syntaxes k.syntaxes;
        functions = both m.functions k.functions;
        tagged = both m.tagged k.tagged;
        counting = both m.counting k.counting;
        variables = both m.variables k.variables;
      } in
      let whole = so_far (joined more c) (subst (λ z. AreContents (exps_now z) (joined more c)) (sym (from es i x h is)) first) in record {
        syntaxes = ap (λ (z : Contents). z.syntaxes ++ c.syntaxes) w ∙ (append_assoc found.syntaxes more.syntaxes c.syntaxes ∙ whole.syntaxes);
        functions = ap (λ (z : Contents). z.functions ++ c.functions) w ∙ (append_assoc found.functions more.functions c.functions ∙ whole.functions);
        tagged = ap (λ (z : Contents). z.tags ++ c.tags) w ∙ (append_assoc found.tags more.tags c.tags ∙ whole.tagged);
        counting = ap (λ (z : Contents). z.indices ++ c.indices) w ∙ (append_assoc found.indices more.indices c.indices ∙ whole.counting);
        variables = ap (λ (z : Contents). z.occurrences ++ c.occurrences) w ∙ (append_assoc found.occurrences more.occurrences c.occurrences ∙ whole.variables);
      }

  pub contents-end : length es ≤ i → AreContents (exps_now es) found
  contents-end h =
      let none : AreContents (exps_now (drop i es)) nothing =
      subst (λ z. AreContents (exps_now z) nothing) (sym (drop_all i es h)) (record { syntaxes = refl; functions = refl; tagged = refl; counting = refl; variables = refl }) in
      let whole = so_far nothing none in record {
        syntaxes = sym (append-nil found.syntaxes) ∙ whole.syntaxes;
        functions = sym (append-nil found.functions) ∙ whole.functions;
        tagged = sym (append-nil found.tags) ∙ whole.tagged;
        counting = sym (append-nil found.indices) ∙ whole.counting;
        variables = sym (append-nil found.occurrences) ∙ whole.variables;
      }

pub contents-start : (es : List (Bor IlExp)) (found : Contents) → found ≡ nothing → (c : Contents) → AreContents (exps_now es) c → AreContents (exps_now es) (joined found c)
contents-start es found e c k = record {
  syntaxes = ap (λ (z : Contents). z.syntaxes ++ c.syntaxes) e ∙ k.syntaxes;
  functions = ap (λ (z : Contents). z.functions ++ c.functions) e ∙ k.functions;
  tagged = ap (λ (z : Contents). z.tags ++ c.tags) e ∙ k.tagged;
  counting = ap (λ (z : Contents). z.indices ++ c.indices) e ∙ k.counting;
  variables = ap (λ (z : Contents). z.occurrences ++ c.occurrences) e ∙ k.variables;
}

pub contents-moved : (es gs : List IlExp) (c : Contents) → es ≡ gs → AreContents es c → AreContents gs c
contents-moved es gs c e k = subst (λ z. AreContents z c) e k

pub within-made : (how : Iteration) (body : IlExp) (es : List IlExp) (counted found inner all : Contents) → es ≡ count_of how → AreContents es counted → IsContents body found → inner ≡ within how found → all ≡ joined counted inner → IsWithin how body all
within-made how body es counted found inner all e c f i w = record {
  counted = counted;
  inner = found;
  count = subst (λ z. AreContents z counted) e c;
  repeated = f;
  whole = w ∙ ap (joined counted) i;
}

-- ---- premises

module _ (p : IlPrem) (y : IlPrem-F IlPrem) (is : out-IlPrem p ≡ y) where
  prem-syntaxes : prem_syntaxes p ≡ prem_syntaxes_at (map-IlPrem IlPrem (List Name) prem_syntaxes y)
  prem-syntaxes = fold_out-IlPrem (List Name) prem_syntaxes_at p ∙ ap (λ z. prem_syntaxes_at (map-IlPrem IlPrem (List Name) prem_syntaxes z)) is

  prem-called : prem_called p ≡ prem_called_at (map-IlPrem IlPrem (List Name) prem_called y)
  prem-called = fold_out-IlPrem (List Name) prem_called_at p ∙ ap (λ z. prem_called_at (map-IlPrem IlPrem (List Name) prem_called z)) is

  prem-tags : prem_tags p ≡ prem_tags_at (map-IlPrem IlPrem (List Tagged) prem_tags y)
  prem-tags = fold_out-IlPrem (List Tagged) prem_tags_at p ∙ ap (λ z. prem_tags_at (map-IlPrem IlPrem (List Tagged) prem_tags z)) is

  prem-indices : prem_indices p ≡ prem_indices_at (map-IlPrem IlPrem (List Name) prem_indices y)
  prem-indices = fold_out-IlPrem (List Name) prem_indices_at p ∙ ap (λ z. prem_indices_at (map-IlPrem IlPrem (List Name) prem_indices z)) is

  prem-occurrences : prem_occurrences p ≡ prem_occurrences_at (map-IlPrem IlPrem (List Occurrence) prem_occurrences y)
  prem-occurrences = fold_out-IlPrem (List Occurrence) prem_occurrences_at p ∙ ap (λ z. prem_occurrences_at (map-IlPrem IlPrem (List Occurrence) prem_occurrences z)) is

pub condition-contents : (p : IlPrem) (e : IlExp) (c : Contents) → out-IlPrem p ≡ IlPrem-F.If e → IsContents e c → IsPremContents p c
condition-contents p e c is k = record {
  syntaxes = k.syntaxes ∙ sym (prem-syntaxes p (IlPrem-F.If e) is);
  functions = k.functions ∙ sym (prem-called p (IlPrem-F.If e) is);
  tagged = k.tagged ∙ sym (prem-tags p (IlPrem-F.If e) is);
  counting = k.counting ∙ sym (prem-indices p (IlPrem-F.If e) is);
  variables = k.variables ∙ sym (prem-occurrences p (IlPrem-F.If e) is);
}

pub goal-contents : (p : IlPrem) (relation : Name) (es gs : List IlExp) (c : Contents) → out-IlPrem p ≡ IlPrem-F.Goal relation es → gs ≡ es → AreContents gs c → IsPremContents p c
goal-contents p relation es gs c is e h =
    let k : AreContents es c = subst (λ z. AreContents z c) e h in record {
      syntaxes = k.syntaxes ∙ sym (prem-syntaxes p (IlPrem-F.Goal relation es) is);
      functions = k.functions ∙ sym (prem-called p (IlPrem-F.Goal relation es) is);
      tagged = k.tagged ∙ sym (prem-tags p (IlPrem-F.Goal relation es) is);
      counting = k.counting ∙ sym (prem-indices p (IlPrem-F.Goal relation es) is);
      variables = k.variables ∙ sym (prem-occurrences p (IlPrem-F.Goal relation es) is);
    }

pub otherwise-contents : (p : IlPrem) (c : Contents) → out-IlPrem p ≡ IlPrem-F.Otherwise → c ≡ nothing → IsPremContents p c
otherwise-contents p c is e = record {
  syntaxes = ap of_syntaxes e ∙ sym (prem-syntaxes p IlPrem-F.Otherwise is);
  functions = ap of_functions e ∙ sym (prem-called p IlPrem-F.Otherwise is);
  tagged = ap of_tags e ∙ sym (prem-tags p IlPrem-F.Otherwise is);
  counting = ap of_indices e ∙ sym (prem-indices p IlPrem-F.Otherwise is);
  variables = ap of_occurrences e ∙ sym (prem-occurrences p IlPrem-F.Otherwise is);
}

abbrev counting_by : List Name → Contents
counting_by index = record { syntaxes = []; functions = []; tags = []; indices = index; occurrences = [] }

pub each-contents : (p : IlPrem) (how : Iteration) (xs : List Name) (body b : IlPrem) (es : List IlExp) (own counted found inner parts all : Contents) → out-IlPrem p ≡ IlPrem-F.Each how xs body → b ≡ body
    → own ≡ record { syntaxes = []; functions = []; tags = []; indices = index_of how; occurrences = [] } → es ≡ count_of how → AreContents es counted → IsPremContents b found → inner ≡ within how found
    → parts ≡ joined counted inner → all ≡ joined own parts → IsPremContents p all
each-contents p how xs body b es own counted found inner parts all is b_is o e c' f' i q w =
    let c : AreContents (count_of how) counted = subst (λ z. AreContents z counted) e c' in
    let f : IsPremContents body found = subst (λ z. IsPremContents z found) b_is f' in
    let whole : all ≡ joined (counting_by (index_of how)) (joined counted (within how found)) = w ∙ ap₂ joined o (q ∙ ap (joined counted) i) in record {
      syntaxes = ap of_syntaxes whole ∙ (both c.syntaxes f.syntaxes ∙ sym (prem-syntaxes p (IlPrem-F.Each how xs body) is));
      functions = ap of_functions whole ∙ (both c.functions f.functions ∙ sym (prem-called p (IlPrem-F.Each how xs body) is));
      tagged = ap of_tags whole ∙ (both c.tagged f.tagged ∙ sym (prem-tags p (IlPrem-F.Each how xs body) is));
      counting = ap of_indices whole ∙ (ap (λ z. index_of how ++ z) (both c.counting f.counting) ∙ sym (prem-indices p (IlPrem-F.Each how xs body) is));
      variables = ap of_occurrences whole ∙ (both c.variables (ap (inside (index_of how) (kind_of how)) f.variables) ∙ sym (prem-occurrences p (IlPrem-F.Each how xs body) is));
    }

module _ (ps : List IlPrem) (i : ℕ) (found : Contents) (so_far : (c : Contents) → ArePremContents (drop i ps) c → ArePremContents ps (joined found c)) where
  pub prem-contents-next : (p : IlPrem) (more longer : Contents) → i < length ps → p ≡ get_or ps i p → IsPremContents p more → longer ≡ joined found more
      → (c : Contents) → ArePremContents (drop (i + 1) ps) c → ArePremContents ps (joined longer c)
  prem-contents-next p more longer h is m w c k =
      let first : ArePremContents (p ∷ drop (i + 1) ps) (joined more c) = record {
        syntaxes = both m.syntaxes k.syntaxes;
        functions = both m.functions k.functions;
        tagged = both m.tagged k.tagged;
        counting = both m.counting k.counting;
        variables = both m.variables k.variables;
      } in
      let whole = so_far (joined more c) (subst (λ z. ArePremContents z (joined more c)) (sym (from ps i p h is)) first) in record {
        syntaxes = ap (λ (z : Contents). z.syntaxes ++ c.syntaxes) w ∙ (append_assoc found.syntaxes more.syntaxes c.syntaxes ∙ whole.syntaxes);
        functions = ap (λ (z : Contents). z.functions ++ c.functions) w ∙ (append_assoc found.functions more.functions c.functions ∙ whole.functions);
        tagged = ap (λ (z : Contents). z.tags ++ c.tags) w ∙ (append_assoc found.tags more.tags c.tags ∙ whole.tagged);
        counting = ap (λ (z : Contents). z.indices ++ c.indices) w ∙ (append_assoc found.indices more.indices c.indices ∙ whole.counting);
        variables = ap (λ (z : Contents). z.occurrences ++ c.occurrences) w ∙ (append_assoc found.occurrences more.occurrences c.occurrences ∙ whole.variables);
      }

  pub prem-contents-end : length ps ≤ i → ArePremContents ps found
  prem-contents-end h =
      let none : ArePremContents (drop i ps) nothing =
      subst (λ z. ArePremContents z nothing) (sym (drop_all i ps h)) (record { syntaxes = refl; functions = refl; tagged = refl; counting = refl; variables = refl }) in
      let whole = so_far nothing none in record {
        syntaxes = sym (append-nil found.syntaxes) ∙ whole.syntaxes;
        functions = sym (append-nil found.functions) ∙ whole.functions;
        tagged = sym (append-nil found.tags) ∙ whole.tagged;
        counting = sym (append-nil found.indices) ∙ whole.counting;
        variables = sym (append-nil found.occurrences) ∙ whole.variables;
      }

pub prem-contents-start : (ps : List IlPrem) (found : Contents) → found ≡ nothing → (c : Contents) → ArePremContents ps c → ArePremContents ps (joined found c)
prem-contents-start ps found e c k = record {
  syntaxes = ap (λ (z : Contents). z.syntaxes ++ c.syntaxes) e ∙ k.syntaxes;
  functions = ap (λ (z : Contents). z.functions ++ c.functions) e ∙ k.functions;
  tagged = ap (λ (z : Contents). z.tags ++ c.tags) e ∙ k.tagged;
  counting = ap (λ (z : Contents). z.indices ++ c.indices) e ∙ k.counting;
  variables = ap (λ (z : Contents). z.occurrences ++ c.occurrences) e ∙ k.variables;
}

-- ---- rules and clauses

snoc : {A B : Type 0} (f : A → List B) (xs : List A) (x : A) → flattened (map f (xs ++ x ∷ [])) ≡ flattened (map f xs) ++ f x
snoc f [] x = append-nil (f x)
snoc f (y ∷ ys) x = ap (λ z. f y ++ z) (snoc f ys x) ∙ sym (append_assoc (f y) (flattened (map f ys)) (f x))

contents-snoc : (es : List IlExp) (e : IlExp) (a b : Contents) → AreContents es a → IsContents e b → AreContents (es ++ e ∷ []) (joined a b)
contents-snoc es e a b h k = record {
  syntaxes = both h.syntaxes k.syntaxes ∙ sym (snoc syntaxes_cited es e);
  functions = both h.functions k.functions ∙ sym (snoc called es e);
  tagged = both h.tagged k.tagged ∙ sym (snoc tags es e);
  counting = both h.counting k.counting ∙ sym (snoc indices es e);
  variables = both h.variables k.variables ∙ sym (snoc occurrences es e);
}

pub rule-contents : (es gs : List IlExp) (ps qs : List IlPrem) (a b all : Contents) → es ≡ gs → ps ≡ qs → AreContents es a → ArePremContents ps b → all ≡ joined a b → AreAllContents gs qs all
rule-contents es gs ps qs a b all e f h k w =
    record { expressions = a; premises = b; first = subst (λ z. AreContents z a) e h; then_premises = subst (λ z. ArePremContents z b) f k; whole = w }

pub clause-contents : (es gs : List IlExp) (e : IlExp) (ps qs : List IlPrem) (a r b both' all : Contents) → es ≡ gs → ps ≡ qs → AreContents es a → IsContents e r → ArePremContents ps b → both' ≡ joined a r → all ≡ joined both' b
    → AreAllContents (gs ++ e ∷ []) qs all
clause-contents es gs e ps qs a r b both' all p q h g k v w =
    record { expressions = joined a r; premises = b; first = contents-snoc gs e a r (subst (λ z. AreContents z a) p h) g; then_premises = subst (λ z. ArePremContents z b) q k; whole = w ∙ ap (λ z. joined z b) v }

pub all-occurrences : (es : List IlExp) (ps : List IlPrem) (c : Contents) → AreAllContents es ps c → c.occurrences ≡ all_occurrences es ps
all-occurrences es ps c h = ap of_occurrences h.whole ∙ both h.first.variables h.then_premises.variables

pub all-indices : (es : List IlExp) (ps : List IlPrem) (c : Contents) → AreAllContents es ps c → c.indices ≡ all_indices es ps
all-indices es ps c h = ap of_indices h.whole ∙ both h.first.counting h.then_premises.counting
