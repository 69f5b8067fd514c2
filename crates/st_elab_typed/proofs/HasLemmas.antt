-- Which type an expression has, by those of at most three operands.
use Rattle.std.proofs.Common.{◌≡◌, sym, subst, List, [], ◌∷◌, Some}
use Rattle.std.specs.Prelude.{IsTrue}
use Rattle.st_il.specs.declared.definition.Il.{Il}
use Rattle.st_il.specs.declared.definition.Listed.{Listed}
use Rattle.st_il.specs.declared.expression.IlExp.{IlExp, out-IlExp}
use Rattle.st_il.specs.declared.ty.Ty.{Ty}
use Rattle.st_type_table.specs.Meaning.{Means}
use Rattle.st_type_table.specs.Same.{Same}
use Rattle.st_type_table.proofs.SameLemmas.{Same-refl}
use Rattle.st_il.specs.Definitions.{syntaxes}
use Rattle.st_semantics.specs.OperationTypes.{Level}
use Rattle.st_ilcheck.specs.FoundTypes.{origin, TypeFrom}
use Rattle.st_ilcheck.specs.Naming.{names_kept}
use Rattle.st_ilcheck.specs.Parts.{parts_at, standing}
use Rattle.st_ilcheck.specs.Rules.{Asks, AsksOfPath}
use Rattle.st_ilcheck.specs.Typings.{HaveTypings, none}
use Rattle.st_elab_typed.specs.inner.IsPlaced.{ArePlaced}
use Rattle.st_elab_typed.proofs.IsPlacedLemmas.{IsPlaced-at, ArePlaced-first}
use Rattle.st_elab_typed.proofs.HasTypingLemmas.{HasTyping-made, HaveTypings-more, HaveTypings-one, HaveTypings-two}
use Rattle.st_elab_typed.proofs.Claims.{Has, Equals, Exactly}

module _ (il : Il) (Ok : List Listed → Type 0) where
  -- what holds of the one type holds of the other
  pub Has-where : (P Q : Ty → Type 0) (x : IlExp) → ((o : Ty) → P o → Q o) → Has il Ok P x → Has il Ok Q x
  Has-where P Q x goes h ls ok k = let r = h ls ok k in (r.0, (r.1.0, goes r.0 r.1.1))

  -- ---- by the operands

  module _ (x : IlExp) (y : Level) (is : out-IlExp x ≡ y) (names : (ls : List Listed) → IsTrue (names_kept ls y)) where
    pub Has-none : ((ls : List Listed) → parts_at ls y ≡ []) → (Q : Ty → Type 0) (t : Ty) → Asks il y [] → AsksOfPath (syntaxes il) y [] → ((ls : List Listed) → TypeFrom (syntaxes il) (origin il ls y) [] (Some t)) → Q t
        → Has il Ok Q x
    Has-none parts Q t asks path from q ls ok k =
        (t, (HasTyping-made il ls x y is [] (subst (λ z. HaveTypings il z [] []) (sym (parts ls)) none) (Some t) (from ls) asks path (names ls), q))

    pub Has-one : (a : IlExp) → ((ls : List Listed) → parts_at ls y ≡ standing ls (a ∷ [])) → (P Q : Ty → Type 0) (f : Ty → Ty)
        → ((o : Ty) → P o → Asks il y (Some o ∷ [])) → ((o : Ty) → AsksOfPath (syntaxes il) y (Some o ∷ []))
        → ((ls : List Listed) (o : Ty) → P o → TypeFrom (syntaxes il) (origin il ls y) (Some o ∷ []) (Some (f o))) → ((o : Ty) → P o → Q (f o))
        → Has il Ok P a → Has il Ok Q x
    Has-one a parts P Q f asks path from goes h ls ok k =
        let n = IsPlaced-at ls x y is k in
        let r = h ls ok (ArePlaced-first (ls, a) [] (subst ArePlaced (parts ls) n.parts)).0 in (
          f r.0,
          (
            HasTyping-made il ls x y is (Some r.0 ∷ []) (subst (λ z. HaveTypings il z (Some r.0 ∷ []) []) (sym (parts ls)) (HaveTypings-one il ls a r.0 r.1.0))
                (Some (f r.0)) (from ls r.0 r.1.1) (asks r.0 r.1.1) (path r.0) (names ls),
            goes r.0 r.1.1,
          ),
        )

    pub Has-two : (a b : IlExp) → ((ls : List Listed) → parts_at ls y ≡ standing ls (a ∷ b ∷ [])) → (P R Q : Ty → Type 0) (f : Ty → Ty)
        → ((o p : Ty) → P o → R p → Asks il y (Some o ∷ Some p ∷ [])) → ((o p : Ty) → AsksOfPath (syntaxes il) y (Some o ∷ Some p ∷ []))
        → ((ls : List Listed) (o p : Ty) → P o → TypeFrom (syntaxes il) (origin il ls y) (Some o ∷ Some p ∷ []) (Some (f o))) → ((o : Ty) → P o → Q (f o))
        → Has il Ok P a → Has il Ok R b → Has il Ok Q x
    Has-two a b parts P R Q f asks path from goes h g ls ok k =
        let n = ArePlaced-first (ls, a) (standing ls (b ∷ [])) (subst ArePlaced (parts ls) (IsPlaced-at ls x y is k).parts) in
        let r = h ls ok n.0 in
        let s = g ls ok (ArePlaced-first (ls, b) [] n.1).0 in (
          f r.0,
          (
            HasTyping-made il ls x y is (Some r.0 ∷ Some s.0 ∷ []) (subst (λ z. HaveTypings il z (Some r.0 ∷ Some s.0 ∷ []) []) (sym (parts ls)) (HaveTypings-two il ls a b r.0 s.0 r.1.0 s.1.0))
                (Some (f r.0)) (from ls r.0 s.0 r.1.1) (asks r.0 s.0 r.1.1 s.1.1) (path r.0 s.0) (names ls),
            goes r.0 r.1.1,
          ),
        )

    pub Has-three : (a b c : IlExp) → ((ls : List Listed) → parts_at ls y ≡ standing ls (a ∷ b ∷ c ∷ [])) → (P R Q : Ty → Type 0) (f : Ty → Ty)
        → ((o p q : Ty) → P o → R p → R q → Asks il y (Some o ∷ Some p ∷ Some q ∷ [])) → ((o p q : Ty) → AsksOfPath (syntaxes il) y (Some o ∷ Some p ∷ Some q ∷ []))
        → ((ls : List Listed) (o p q : Ty) → P o → TypeFrom (syntaxes il) (origin il ls y) (Some o ∷ Some p ∷ Some q ∷ []) (Some (f o))) → ((o : Ty) → P o → Q (f o))
        → Has il Ok P a → Has il Ok R b → Has il Ok R c → Has il Ok Q x
    Has-three a b c parts P R Q f asks path from goes h g m ls ok k =
        let n = ArePlaced-first (ls, a) (standing ls (b ∷ c ∷ [])) (subst ArePlaced (parts ls) (IsPlaced-at ls x y is k).parts) in
        let r = h ls ok n.0 in
        let l = ArePlaced-first (ls, b) (standing ls (c ∷ [])) n.1 in
        let s = g ls ok l.0 in
        let t = m ls ok (ArePlaced-first (ls, c) [] l.1).0 in (
          f r.0,
          (
            HasTyping-made il ls x y is (Some r.0 ∷ Some s.0 ∷ Some t.0 ∷ []) (subst (λ z. HaveTypings il z (Some r.0 ∷ Some s.0 ∷ Some t.0 ∷ []) []) (sym (parts ls))
                (HaveTypings-more il (ls, a) (standing ls (b ∷ c ∷ [])) (Some r.0) (Some s.0 ∷ Some t.0 ∷ []) r.1.0 (HaveTypings-two il ls b c s.0 t.0 s.1.0 t.1.0)))
                (Some (f r.0)) (from ls r.0 s.0 t.0 r.1.1) (asks r.0 s.0 t.0 r.1.1 s.1.1 t.1.1) (path r.0 s.0 t.0) (names ls),
            goes r.0 r.1.1,
          ),
        )

  module _ (total : (t : Ty) → (u : Ty) × Means (syntaxes il) t u) where
    -- an expression of exactly this type is of it
    pub Has-exactly : (x : IlExp) (t : Ty) → Has il Ok (Exactly t) x → Has il Ok (Equals il t) x
    Has-exactly x t = Has-where (Exactly t) (Equals il t) x (λ o e. subst (λ z. Same (syntaxes il) z t) (sym e) (Same-refl (syntaxes il) total t))

  -- so it is of each type that is equal to this one
  pub Has-equal : (x : IlExp) (t u : Ty) → Same (syntaxes il) t u → Has il Ok (Exactly t) x → Has il Ok (Equals il u) x
  Has-equal x t u same = Has-where (Exactly t) (Equals il u) x (λ o e. subst (λ z. Same (syntaxes il) z u) (sym e) same)
