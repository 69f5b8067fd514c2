-- What the readers of types need.
use Rattle.std.proofs.Common.{◌≡◌, ◌≢◌, ℕ, ◌<◌, ◌≤◌, ◌==◌, List, [], ◌∷◌, map, length, codes, Bool, true, false, ◌&&◌, nat_le, Result, Err, refl, sym, ap, ap₂, subst, ◌∙◌, inl, inr, arith}
use Rattle.std.specs.List.{list_all}
use Rattle.st_il.specs.declared.ty.Ty.{Ty}
use Rattle.st_il.specs.declared.ty.Ty.TheVariants as ty
use Rattle.st_text.specs.declared.fault.TextFault.{TextFault}
use Rattle.st_text.specs.declared.fault.TextFault.TheVariants.{Malformed, Memory}
use Rattle.st_text.specs.declared.tree.TextTree as program
use Rattle.st_text.specs.Reading.{Answers}
use Rattle.st_text.specs.Text.{TextTree, TextTrees, word, quote, list, none, more}
use Rattle.st_text.specs.Trees.{row_of, tree_of, trees_of}
use Rattle.st_text.proofs.Bytes.{heads}
use Rattle.st_iltext.specs.Expressions.{ty_tree}
use Rattle.st_iltext.specs.Written.{ty_written}
use Rattle.st_iltext.specs.inner.Reading.{AreOf, AreOfNone, Reads, ReadsAll}
use Rattle.st_iltext.proofs.Rows.{rest_of, word_of, both}
use Rattle.st_iltext.proofs.TySame.{ty-tree, tys_same}
use Rattle.st_iltext.proofs.TyForms.{IsTy, IsNoTy, ty_parts, ty-written, written-List, written-Opt, written-Tuple}
use Rattle.st_il.specs.declared.ty.Ty.TheOpen.{Ty-F}

-- ---- one part

empty_of : {X : Type 0} (xs : List X) (answer : Bool) → answer ≡ (length xs == 0) → answer ≡ true → xs ≡ []
empty_of [] answer told is = refl
empty_of (x ∷ xs) answer told is = grind arith

pub one_part : (parts others : List program.TextTree) (t : program.TextTree) (b : Bool) → parts ≡ t ∷ others → b ≡ (length others == 0) → b ≡ true → trees_of parts ≡ more (tree_of t) none
one_part parts [] t b e test holds = ap trees_of e
one_part parts (u ∷ others) t b e test holds = absurd (omega (arith, ap length (empty_of (u ∷ others) b test holds)))

pub more_parts : (parts others : List program.TextTree) (t : program.TextTree) (b : Bool) → parts ≡ t ∷ others → b ≡ (length others == 0) → b ≡ false → (u : TextTree) → trees_of parts ≡ more u none → ⊥
more_parts parts [] t b e test fails u f = absurd (cc)
more_parts parts (x ∷ others) t b e test fails u f = absurd (cc (rest_of (sym (ap trees_of e) ∙ f)))

-- ---- names, lists and options

pub ty_long : (w : List ℕ) (ts : TextTrees) → w ≢ codes "t" → ((u : TextTree) → ts ≡ more u none → ⊥) → IsNoTy (list (more (word w) ts))
ty_long w ts n long = record {
  never = λ x p e. elim (ty_parts x (word w) ts (sym e)) [
    | inl d ↦ long _ d.1.2
    | inr (inl d) ↦ long _ d.1.2
    | inr (inr (inl d)) ↦ long _ d.1.2
    | inr (inr (inr d)) ↦ n (word_of d.0)
  ];
}

pub named_is : (ts : TextTrees) (t : TextTree) (name copy : List ℕ) → ts ≡ more t none → t ≡ quote name → copy ≡ name → IsTy (list (more (word (codes "n")) ts)) (ty.Name copy)
named_is ts t name copy e f g = record {
  fits = ap ty_written (sym (ty.rolls-Name copy)) ∙ ty-written (Ty-F.Name copy);
  is = ap (λ us. list (more (word (codes "n")) us)) (e ∙ ap (λ u. more u none) (f ∙ ap quote (sym g))) ∙ sym (ap ty_tree (sym (ty.rolls-Name copy)) ∙ ty-tree (Ty-F.Name copy));
}

pub list_is : (ts : TextTrees) (t : TextTree) (u boxed : Ty) → ts ≡ more t none → IsTy t u → boxed ≡ u → IsTy (list (more (word (codes "l")) ts)) (ty.List boxed)
list_is ts t u boxed e i f = subst (λ (x : Ty). IsTy (list (more (word (codes "l")) ts)) (ty.List x)) (sym f) (record {
  fits = written-List u ∙ i.fits;
  is = ap (λ us. list (more (word (codes "l")) us)) (e ∙ ap (λ x. more x none) i.is) ∙ sym (ap ty_tree (sym (ty.rolls-List u)) ∙ ty-tree (Ty-F.List u));
})

pub option_is : (ts : TextTrees) (t : TextTree) (u boxed : Ty) → ts ≡ more t none → IsTy t u → boxed ≡ u → IsTy (list (more (word (codes "o")) ts)) (ty.Opt boxed)
option_is ts t u boxed e i f = subst (λ (x : Ty). IsTy (list (more (word (codes "o")) ts)) (ty.Opt x)) (sym f) (record {
  fits = written-Opt u ∙ i.fits;
  is = ap (λ us. list (more (word (codes "o")) us)) (e ∙ ap (λ x. more x none) i.is) ∙ sym (ap ty_tree (sym (ty.rolls-Opt u)) ∙ ty-tree (Ty-F.Opt u));
})

-- ---- tuples

-- what begins with the word of a tuple is one
tuple_only : (ts : TextTrees) → ((us : List Ty) → (nat_le 2 (length us) && list_all ty_written us) ≡ true → ts ≡ row_of (map ty_tree us) → ⊥) → IsNoTy (list (more (word (codes "t")) ts))
tuple_only ts n = record {
  never = λ x p e. elim (ty_parts x (word (codes "t")) ts (sym e)) [
    | inl d ↦ absurd (omega (arith, heads (word_of d.0)))
    | inr (inl d) ↦ absurd (omega (arith, heads (word_of d.0)))
    | inr (inr (inl d)) ↦ absurd (omega (arith, heads (word_of d.0)))
    | inr (inr (inr d)) ↦ n d.1.0 (sym (written-Tuple d.1.0) ∙ ap ty_written (sym d.1.1) ∙ p) d.1.2
  ];
}

pub tuple_none : (ts : TextTrees) → AreOfNone ty_tree ty_written ts → IsNoTy (list (more (word (codes "t")) ts))
tuple_none ts n = tuple_only ts (λ us p e. n.never us (both _ _ p).1 e)

at_least : (n : ℕ) → nat_le 2 n ≡ true → 2 ≤ n
at_least n e = grind arith

at_least_test : (n : ℕ) → 2 ≤ n → nat_le 2 n ≡ true
at_least_test n h = grind arith

pub tuple_short : (ts : TextTrees) (types : List Ty) → AreOf ty_tree ty_written ts types → length types < 2 → IsNoTy (list (more (word (codes "t")) ts))
tuple_short ts types a few = tuple_only ts (λ us p e. omega (arith, at_least (length us) (both _ _ p).0, ap length (tys_same us types (sym e ∙ a.are))))

pub tuple_is : (ts : TextTrees) (types : List Ty) → AreOf ty_tree ty_written ts types → 2 ≤ length types → IsTy (list (more (word (codes "t")) ts)) (ty.Tuple types)
tuple_is ts types a many = record {
  fits = written-Tuple types ∙ ap₂ (λ (x y : Bool). x && y) (at_least_test (length types) many) a.fit;
  is = ap (λ us. list (more (word (codes "t")) us)) a.are ∙ sym (ap ty_tree (sym (ty.rolls-Tuple types)) ∙ ty-tree (Ty-F.Tuple types));
}

-- ---- answers that are passed on

pub passed_ty : {X : Type 0} (P : X → Type 0) (t : TextTree) (Q : Type 0) (fault : TextFault) (result : Result Ty TextFault) → (Q → IsNoTy t) → Answers {T = X} (Err fault) P Q → result ≡ Err fault
    → Reads ty_tree ty_written t result
passed_ty P t Q (Malformed line) result n said is = subst (Reads ty_tree ty_written t) (sym is) (said.0, n said.1)
passed_ty P t Q Memory result n said is = subst (Reads ty_tree ty_written t) (sym is) tt

pub passed_tys : {X : Type 0} (P : X → Type 0) (ts : TextTrees) (Q : Type 0) (fault : TextFault) (result : Result (List Ty) TextFault) → (Q → AreOfNone ty_tree ty_written ts) → Answers {T = X} (Err fault) P Q → result ≡ Err fault
    → ReadsAll ty_tree ty_written ts result
passed_tys P ts Q (Malformed line) result n said is = subst (ReadsAll ty_tree ty_written ts) (sym is) (said.0, n said.1)
passed_tys P ts Q Memory result n said is = subst (ReadsAll ty_tree ty_written ts) (sym is) tt
