-- Names in the order of their ranks: those in an alias have numbers when its turn comes.
use Rattle.std.proofs.Common.{◌≡◌, refl, sym, ap, ◌∙◌, subst, ℕ, zero, suc, ◌<◌, ◌≤◌, List, [], ◌∷◌, map, length, get_or, Bool, true, false, Option, Some, None, arith, inl, inr}
use Rattle.std.specs.Prelude.{slice_get, nat_lt}
use Rattle.std.specs.Borrow.{Bor}
use Rattle.std.specs.List.Sorted.{IsNonDecreasingBy}
use Rattle.std.proofs.lemmas.Option.{slice_get_within, get_or_from_slice_get}
use Rattle.st_il.specs.declared.ty.Ty.{Ty}
use Rattle.st_il.specs.declared.definition.SyntaxDef.{SyntaxDef}
use Rattle.st_il.specs.declared.definition.SyntaxBody.{SyntaxBody}
use Rattle.st_il.specs.declared.definition.SyntaxBody.TheVariants as body
use Rattle.st_type_table.specs.declared.entry.Entry.{Entry}
use Rattle.st_type_table.specs.Meaning.{aliased, body_of}
use Rattle.st_type_table.specs.Leads.{Among, names_in, joined}
use Rattle.st_type_table.specs.Breach.{IsSound, AllHold, on_alias, on_body}
use Rattle.st_type_table.specs.inner.Graph.{position_of}
use Rattle.st_type_table.specs.inner.Kept.{Kept, defs_of, entry_of, rank_of, ranked, IsKept, IsSettled}
use Rattle.st_type_table.specs.inner.Forms.{Numbers, alias_named, HasNumber}
use Rattle.st_type_table.specs.inner.Numbering.{AreAllNames, AreNamesNumbered}
use Rattle.st_type_table.proofs.FormLemmas.{none-some}
use Rattle.st_type_table.proofs.PositionLemmas.{placed, unplaced}
use Rattle.st_type_table.proofs.Measure.{among-left, among-right}
use Rattle.st_type_table.proofs.NumberingLemmas.{HaveNumbers, alias-kept}

-- a name in one of several types is one of theirs
pub among-part : (xs : List Ty) (k : ℕ) (x : Ty) → k < length xs → get_or xs k x ≡ x → (name : List ℕ) → Among (names_in x) name → Among (joined (map names_in xs)) name
among-part [] k x h e name a = absurd (omega arith)
among-part (y ∷ ys) zero x h e name a = among-left (names_in y) (joined (map names_in ys)) name (subst (λ z. Among (names_in z) name) (sym e) a)
among-part (y ∷ ys) (suc k) x h e name a = among-right (names_in y) (joined (map names_in ys)) name (among-part ys k x (omega arith) e name a)

-- the body that is an alias of this type
body-aliased : (o : Option SyntaxBody) (t : Ty) → aliased o ≡ Some t → o ≡ Some (body.Alias t)
body-aliased None t e = none-some e _
body-aliased (Some (body.Alias s)) t e = let q : s ≡ t = cc in ap (λ z. Some (body.Alias z)) q
body-aliased (Some (body.Variant alternatives)) t e = none-some e _
body-aliased (Some (body.Fields fields)) t e = none-some e _

-- ---- the names in an alias are declared

alias-declared : (defs : List SyntaxDef) (target : List ℕ) (number : ℕ) (names : List (List ℕ)) → AllHold defs (on_alias target number names) → (name : List ℕ) → Among names name → body_of defs name ≡ None → ⊥
alias-declared defs target number [] h name a e = absurd a
alias-declared defs target number (x ∷ names) h name (inl q) e = h.0 (subst (λ n. body_of defs n ≡ None) q e)
alias-declared defs target number (x ∷ names) h name (inr a) e = alias-declared defs target (suc number) names h.1.1 name a e

names-declared : (defs : List SyntaxDef) → IsSound defs → (name : List ℕ) (t : Ty) → alias_named defs name ≡ Some t → (other : List ℕ) → Among (names_in t) other → body_of defs other ≡ None → ⊥
names-declared defs sound name t e other a = by (position_of defs name) refl
  where
    is : body_of defs name ≡ Some (body.Alias t)
    is = body-aliased (body_of defs name) t e

    by : (o : Option ℕ) → position_of defs name ≡ o → body_of defs other ≡ None → ⊥
    by None f = none-some (sym (unplaced defs name f) ∙ is) _
    by (Some p) f =
        let r = placed defs name p f in
        let s : Some r.definition.body ≡ Some (body.Alias t) = sym r.body_is ∙ is in
        let q : r.definition.body ≡ body.Alias t = cc in
        alias-declared defs r.definition.name 0 (names_in t)
        (subst (λ b. AllHold defs (on_body r.definition.name b)) q (sound p (slice_get_within defs p r.definition r.there) r.definition r.there).1) other a

-- ---- and have smaller ranks

module _ (kept : Kept) (right : IsKept kept) where
  ranks-fall : (name : List ℕ) (t : Ty) → alias_named (defs_of kept) name ≡ Some t → (other : List ℕ) → Among (names_in t) other → rank_of kept other < rank_of kept name
  ranks-fall name t e other a = by (entry_of kept name) refl
    where
      by : (o : Option Entry) → entry_of kept name ≡ o → rank_of kept other < rank_of kept name
      by None f = none-some (sym (alias-kept kept name None (sym f)) ∙ e) _
      by (Some entry) f =
          let s = body-aliased (Some entry.body) t (sym (alias-kept kept name (Some entry) (sym f)) ∙ e) in
          let q : entry.body ≡ body.Alias t = cc in
          let falls : rank_of kept other < entry.rank = subst (IsSettled kept entry) q (right.settled name entry f) other a in
          let rank : rank_of kept name ≡ entry.rank = ap ranked f in
          omega (arith, falls, rank)

  -- what has a smaller rank comes before
  earlier : (names : List (Bor (List ℕ))) (at k : ℕ) (b c : Bor (List ℕ)) → IsNonDecreasingBy (λ z. rank_of kept z.now) names → slice_get names at ≡ Some b → slice_get names k ≡ Some c
      → rank_of kept c.now < rank_of kept b.now → k < at
  earlier names at k b c ordered e f falls = by (nat_lt k at) refl
    where
      by : (z : Bool) → nat_lt k at ≡ z → k < at
      by true h = grind arith
      by false h =
          let behind : at ≤ k = grind arith in
          let o = ordered at k b behind (slice_get_within names k c f) in
          let p = ap (λ z. rank_of kept z.now) (get_or_from_slice_get names at b b e) in
          let q = ap (λ z. rank_of kept z.now) (get_or_from_slice_get names k c b f) in
          omega (arith, o, p, q, falls)

  pub names-ready : (numbers : Numbers) (names : List (Bor (List ℕ))) (at : ℕ) (b : Bor (List ℕ)) → slice_get names at ≡ Some b → AreAllNames (defs_of kept) names
      → IsNonDecreasingBy (λ z. rank_of kept z.now) names → HaveNumbers (defs_of kept) numbers names at → AreNamesNumbered numbers (alias_named (defs_of kept) b.now)
  names-ready numbers names at b e all ordered have = by (alias_named (defs_of kept) b.now) refl
    where
      by : (o : Option Ty) → alias_named (defs_of kept) b.now ≡ o → AreNamesNumbered numbers o
      by None f = tt
      by (Some t) f = λ name among none.
          let declared = names-declared (defs_of kept) right.sound b.now t f name among in
          let k = all name declared in
          let falls = ranks-fall b.now t f name among in
          let less = earlier names at k.0 b k.1 ordered e k.2 (subst (λ n. rank_of kept n < rank_of kept b.now) (sym k.3) falls) in
          declared (subst (λ n. HasNumber (defs_of kept) numbers n) k.3 (have k.0 k.1 less k.2) none)
