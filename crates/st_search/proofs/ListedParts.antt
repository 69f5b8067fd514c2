-- The parts of an expression whose occurrences are of listed variables: so are theirs, and an iteration goes over variables of its kind.
use Rattle.std.proofs.Common.{◌≡◌, sym, ap, ◌∙◌, subst, List, [], ◌∷◌, ◌++◌, map, true, Option, Some}
use Rattle.std.specs.Prelude.{IsTrue}
use Rattle.std.specs.List.{AllByRecursion}
use Rattle.st_il.specs.Occurrences.{occurs}
use Rattle.st_il.specs.declared.definition.Il.{Il}
use Rattle.st_il.specs.declared.definition.Listed.{Listed}
use Rattle.st_il.specs.declared.expression.IlExp.{IlExp, out-IlExp}
use Rattle.st_il.specs.declared.expression.IlExp.TheOpen.{IlExp-F}
use Rattle.st_il.specs.declared.expression.Iteration.{Iteration}
use Rattle.st_il.specs.declared.ty.Ty.{Ty}
use Rattle.st_il.specs.declared.type_rule.TypeRule.{TypeRule}
use Rattle.st_il.specs.Names.{Name, has_name, flattened}
use Rattle.st_semantics.specs.Iterations.{count_of, index_of, kind_of}
use Rattle.st_semantics.specs.Kinds.{AreOfItsKind}
use Rattle.st_semantics.specs.Operands.{operands_at, item_exp, segment_exps}
use Rattle.st_semantics.specs.OperationTypes.{Level}
use Rattle.st_semantics.specs.Scopes.{listed_inside}
use Rattle.st_ilcheck.specs.Naming.{has_dimension, names_exactly, names_kept}
use Rattle.st_ilcheck.specs.Parts.{Part, parts_at, standing}
use Rattle.st_ilcheck.specs.Typings as typings
use Rattle.st_ilcheck.specs.Typings.{HaveTypings}
use Rattle.st_ilcheck.specs.Variables.{Occurrence, inside, occurrences, names_of, BeginsWith, IsListed}
use Rattle.st_eval.proofs.IsFormedLemmas.{none-left, none-right}
use Rattle.st_eval.proofs.NamesKept.{KeepsNames, names_exactly-named, KeepsNames-occurs, KeepsNames-typed, Each-split}
use Rattle.st_eval.proofs.Occurring.{occurrences-plain, occurrences-Iter}
use Rattle.st_eval.proofs.Standing.{Each-weaken, body_listed, own_names, found_inside, begins_kind}

-- the occurrences in a part are of variables that are listed where it stands
abbrev pub PartListed : Part → Type 0
PartListed p = AllByRecursion (IsListed p.0) (occurrences p.1)

-- the iterations of a part name what they go over
abbrev pub PartKeeps : Part → Type 0
PartKeeps p = KeepsNames p.0 p.1

pub parts_keep : (il : Il) {ps : List Part} {os : List (Option Ty)} {bs : List TypeRule} → HaveTypings il ps os bs → bs ≡ [] → AllByRecursion PartKeeps ps
parts_keep il typings.none clean = tt
parts_keep il (typings.more first rest t h whole) clean = (KeepsNames-typed il t (none-left first rest _ whole clean), parts_keep il h (none-right first rest _ whole clean))

both_hold : {X : Type 0} (P : X → Type 0) (xs ys : List X) → AllByRecursion P xs → AllByRecursion P ys → AllByRecursion P (xs ++ ys)
both_hold P [] ys h k = k
both_hold P (x ∷ xs) ys h k = (h.0, both_hold P xs ys h.1 k)

pub standing_listed : (ls : List Listed) (es : List IlExp) → AllByRecursion (IsListed ls) (flattened (map occurrences es)) → AllByRecursion PartListed (standing ls es)
standing_listed ls [] h = tt
standing_listed ls (e ∷ es) h = let parts = Each-split (IsListed ls) (occurrences e) (flattened (map occurrences es)) h in (parts.0, standing_listed ls es parts.1)

-- ---- an iteration

module _ (ls : List Listed) (how : Iteration) (xs : List Name) (body : IlExp) (exact : names_exactly how xs ls (λ x. occurs x body) ≡ true) (keeps : KeepsNames (listed_inside how xs ls) body)
    (listed : AllByRecursion (IsListed ls) (inside (index_of how) (kind_of how) (occurrences body))) where
  of_its_kind : AreOfItsKind how xs ls
  of_its_kind x i l e =
      let g = names_exactly-named how xs ls (λ z. occurs z body) exact x i in
      let found = found_inside ls (index_of how) (kind_of how) x g.1 (occurrences body) listed (sym (KeepsNames-occurs keeps x) ∙ g.2) in
      let both : Some (found.1).variable ≡ Some l = sym (found.1).found ∙ e in
      let same : (found.1).variable ≡ l = cc in
      begins_kind l.dim (kind_of how) found.0 (sym (ap has_dimension e) ∙ g.0) (subst (λ (z : Listed). BeginsWith z.dim (kind_of how ∷ found.0)) same (found.1).begins)

  inside_listed : AllByRecursion (IsListed (listed_inside how xs ls)) (occurrences body)
  inside_listed = body_listed how xs ls (λ z. occurs z body) exact (occurrences body)
      (Each-weaken (λ (o : Occurrence). has_name (names_of (occurrences body)) o.0 ≡ true) (λ (o : Occurrence). occurs o.0 body ≡ true) (occurrences body) (λ o i. KeepsNames-occurs keeps o.0 ∙ i) (own_names (occurrences body))) listed

-- ---- levels

-- an iteration goes over variables of its kind
abbrev pub IsKindedAt : List Listed → Level → Type 0
IsKindedAt ls (IlExp-F.Iter how xs body) = AreOfItsKind how xs ls
IsKindedAt ls _ = Unit {0}

iterated : (ls : List Listed) (e : IlExp) (how : Iteration) (xs : List Name) (body : IlExp) → out-IlExp e ≡ IlExp-F.Iter how xs body → AllByRecursion (IsListed ls) (occurrences e)
    → AllByRecursion (IsListed ls) (flattened (map occurrences (count_of how))) × AllByRecursion (IsListed ls) (inside (index_of how) (kind_of how) (occurrences body))
iterated ls e how xs body is h =
    Each-split (IsListed ls) (flattened (map occurrences (count_of how))) (inside (index_of how) (kind_of how) (occurrences body)) (subst (AllByRecursion (IsListed ls)) (occurrences-Iter e how xs body is) h)

pub parts_listed : (ls : List Listed) (e : IlExp) (y : Level) → out-IlExp e ≡ y → IsTrue (names_kept ls y) → AllByRecursion PartKeeps (parts_at ls y) → AllByRecursion (IsListed ls) (occurrences e) → AllByRecursion PartListed (parts_at ls y)
parts_listed ls e (IlExp-F.Var x) is n k h = tt
parts_listed ls e (IlExp-F.Iter how xs body) is n k h =
    let parts = iterated ls e how xs body is h in
    let keeps = Each-split PartKeeps (standing ls (count_of how)) ((listed_inside how xs ls, body) ∷ []) k in
    both_hold PartListed (standing ls (count_of how)) ((listed_inside how xs ls, body) ∷ []) (standing_listed ls (count_of how) parts.0) (inside_listed ls how xs body n keeps.1.0 parts.1, tt)
parts_listed ls e y is n k h = standing_listed ls (operands_at item_exp segment_exps y) (subst (AllByRecursion (IsListed ls)) (occurrences-plain e y is tt) h)

pub kinded_at : (ls : List Listed) (e : IlExp) (y : Level) → out-IlExp e ≡ y → IsTrue (names_kept ls y) → AllByRecursion PartKeeps (parts_at ls y) → AllByRecursion (IsListed ls) (occurrences e) → IsKindedAt ls y
kinded_at ls e (IlExp-F.Iter how xs body) is n k h =
    let keeps = Each-split PartKeeps (standing ls (count_of how)) ((listed_inside how xs ls, body) ∷ []) k in
    of_its_kind ls how xs body n keeps.1.0 (iterated ls e how xs body is h).1
kinded_at ls e y is n k h = tt
