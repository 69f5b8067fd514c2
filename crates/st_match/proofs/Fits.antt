-- What a pattern that has a value says of its parts.
use Rattle.std.proofs.Common.{◌≡◌, ℕ, suc, ◌≤◌, refl, sym, ◌∙◌, ap, subst, List, [], ◌∷◌, ◌++◌, map, length, take, drop, zip, true, Option, Some, None, option_map, arith, length-append}
use Rattle.std.specs.List.{list_all}
use Rattle.std.proofs.lemmas.List.{take_at, drop_at}
use Rattle.st_il.specs.declared.definition.SyntaxDef.{SyntaxDef}
use Rattle.st_il.specs.declared.expression.IlExp.{IlExp, out-IlExp}
use Rattle.st_il.specs.declared.expression.IlExp.TheOpen.{IlExp-F, ListItem-F}
use Rattle.st_il.specs.declared.expression.IlExp.TheVariants as exp
use Rattle.st_il.specs.declared.expression.Iteration.{Iteration}
use Rattle.st_il.specs.declared.expression.ListItem.{ListItem, out-ListItem}
use Rattle.st_il.specs.declared.ty.Ty.{Ty}
use Rattle.st_il.specs.declared.ty.Ty.TheVariants as ty
use Rattle.st_il.specs.declared.value.Env.{Env}
use Rattle.st_il.specs.declared.value.Value.{Value}
use Rattle.st_il.specs.declared.value.Value.TheVariants as value
use Rattle.st_type_table.specs.Cases.{HasFields}
use Rattle.st_semantics.specs.declared.outcome.Outcome.TheVariants.{Val}
use Rattle.st_semantics.specs.declared.outcome.Outcome.{Outcome}
use Rattle.st_il.specs.Names.{Name}
use Rattle.st_semantics.specs.Environments.{value_in}
use Rattle.st_semantics.specs.Parts.{Operation, elements, limited, unary, binary, unchanged, with_both}
use Rattle.st_semantics.specs.Operators.{concatenation}
use Rattle.st_semantics.specs.Operands.{item_at, item_exp}
use Rattle.st_semantics.specs.Forms.{Form, Strict, Variable, Calls, Iterates, form_at, building, listing, spliced, HasForm, by_itself, structure, absent_list, absent_option}
use Rattle.st_semantics.specs.Evaluation.{Gives, strict, variable, call, iteration_ends, iteration}
use Rattle.st_semantics.specs.Matching.{no_answers}
use Rattle.st_semantics.specs.Patterns.{is_pattern}
use Rattle.st_semantics.proofs.PatternParts.{pattern-form}
use Rattle.st_semantics.proofs.Inverse.{operands, variable_value, Elements, elements_in}
use Rattle.st_semantics.proofs.Values.{two_values}
use Rattle.st_semantics.proofs.Lengths.{limited_is, made_is, some_one, Chunk, Spliced, splice_parts}
use Rattle.st_semantics.proofs.Columns.{list_of_elements}
use Rattle.st_match.specs.inner.Fitting.{Fits, FitAll, FitItems, FitSplit}
use Rattle.st_match.specs.inner.Covering.{IsVariable}

list_made : (o : Option (List Value)) (v : Value) → option_map value.List o ≡ Some v → (vs : List Value) × (o ≡ Some vs) × (value.List vs ≡ v)
list_made None v e = cc
list_made (Some vs) v e = (vs, refl, some_one e)

module _ (defs : List SyntaxDef) (s : Env) where
  pub Fits-Var : (p : IlExp) (x : Name) (v : Value) → out-IlExp p ≡ IlExp-F.Var x → Fits defs p v s → value_in s x ≡ Some v
  Fits-Var p x v o g = variable_value defs no_answers s p x v (by_itself (ap form_at o)) g

  pub Fits-Case : (p : IlExp) (t tag : Name) (ps : List IlExp) (v : Value) → out-IlExp p ≡ IlExp-F.Case t tag ps → Fits defs p v s
      → (vs : List Value) × FitAll defs ps vs s × (value.Case tag vs ≡ v)
  Fits-Case p t tag ps v o g =
      let r = operands defs no_answers s p ps (λ vs. limited (value.Case tag vs)) v (by_itself (ap form_at o)) g in
      (r.0, r.1, limited_is (value.Case tag r.0) v r.2)

  pub Fits-Tuple : (p : IlExp) (ps : List IlExp) (v : Value) → out-IlExp p ≡ IlExp-F.Tuple ps → Fits defs p v s
      → (vs : List Value) × FitAll defs ps vs s × (value.Tuple vs ≡ v)
  Fits-Tuple p ps v o g =
      let r = operands defs no_answers s p ps (λ vs. limited (value.Tuple vs)) v (by_itself (ap form_at o)) g in
      (r.0, r.1, limited_is (value.Tuple r.0) v r.2)

  pub Fits-List : (p : IlExp) (t : Ty) (items : List ListItem) (v : Value) → out-IlExp p ≡ IlExp-F.List t items → Fits defs p v s
      → (vs : List Value) × FitItems defs items vs s × (value.List vs ≡ v)
  Fits-List p t items v o g =
      let r = operands defs no_answers s p (map item_exp items) (listing items) v (by_itself (ap form_at o)) g in
      let m = list_made (spliced items r.0) v (made_is (option_map value.List (spliced items r.0)) v r.2) in
      (m.0, record { parts = r.0; fit = r.1; are = m.1 }, m.2)

  one_operand : (p e : IlExp) (f : Operation) (v : Value) → HasForm defs p (Strict (e ∷ []) f) → Fits defs p v s → (w : Value) × Fits defs e w s × (f (w ∷ []) ≡ Val v)
  one_operand p e f v h g = let r = operands defs no_answers s p (e ∷ []) f v h g in at r.0 r.1 r.2
    where
      at : (vs : List Value) → FitAll defs (e ∷ []) vs s → f vs ≡ Val v → (w : Value) × Fits defs e w s × (f (w ∷ []) ≡ Val v)
      at [] a k = absurd a
      at (w ∷ []) a k = (w, a.0, k)
      at (w ∷ z ∷ ws) a k = absurd a.1

  pub Fits-Present : (p e : IlExp) (v : Value) → out-IlExp p ≡ IlExp-F.Present e → Fits defs p v s → (w : Value) × Fits defs e w s × (value.Opt (Some w) ≡ v)
  Fits-Present p e v o g =
      let r = one_operand p e (unary (λ v. Some (value.Opt (Some v)))) v (by_itself (ap form_at o)) g in
      (r.0, r.1, limited_is (value.Opt (Some r.0)) v r.2)

  pub Fits-Up : (p : IlExp) (t : Ty) (e : IlExp) (v : Value) → out-IlExp p ≡ IlExp-F.Up t e → Fits defs p v s → Fits defs e v s
  Fits-Up p t e v o g =
      let r = one_operand p e unchanged v (by_itself (ap form_at o)) g in
      let both : Val r.0 ≡ Val v = r.2 in
      let same : r.0 ≡ v = cc in subst (λ z. Fits defs e z s) same r.1

  joined_of : (y z v : Value) → binary concatenation (y ∷ z ∷ []) ≡ Val v → (xs : List Value) × (ys : List Value) × (elements y ≡ Some xs) × (elements z ≡ Some ys) × (value.List (xs ++ ys) ≡ v)
  joined_of y z v e = at (elements y) (elements z) refl refl (made_is (concatenation y z) v e)
    where
      at : (o p : Option (List Value)) → elements y ≡ o → elements z ≡ p → with_both (λ (xs ys : List Value). Some (value.List (xs ++ ys))) o p ≡ Some v
          → (xs : List Value) × (ys : List Value) × (elements y ≡ Some xs) × (elements z ≡ Some ys) × (value.List (xs ++ ys) ≡ v)
      at None p j k e = cc
      at (Some xs) None j k e = cc
      at (Some xs) (Some ys) j k e = (xs, ys, j, k, some_one e)

  pub Fits-Cat : (p e g : IlExp) (v : Value) → out-IlExp p ≡ IlExp-F.Cat e g → Fits defs p v s
      → (xs : List Value) × (ys : List Value) × Fits defs e (value.List xs) s × Fits defs g (value.List ys) s × (value.List (xs ++ ys) ≡ v)
  Fits-Cat p e g v o f =
      let r = two_values defs no_answers s p e g (binary concatenation) v (by_itself (ap form_at o)) f in
      let j = joined_of r.0 r.1 v r.4 in
      (j.0, j.1, subst (λ z. Fits defs e z s) (list_of_elements r.0 j.0 j.2) r.2, subst (λ z. Fits defs g z s) (list_of_elements r.1 j.1 j.3) r.3, j.4)

  pub Fits-Iter : (p : IlExp) (how : Iteration) (xs : List Name) (body : IlExp) (v : Value) → out-IlExp p ≡ IlExp-F.Iter how xs body → Fits defs p v s → Elements defs no_answers s how xs body v
  Fits-Iter p how xs body v o g = elements_in defs no_answers s p how xs body v (by_itself (ap form_at o)) g

  -- ---- records

  form_of : (p : IlExp) (o : Outcome) → Gives defs no_answers s p o → (f : Form) × HasForm defs p f
  form_of p o (strict es f r fe all oe) = (Strict es f, fe)
  form_of p o (variable x fe oe) = (Variable x, fe)
  form_of p o (call g es r fe all c) = (Calls g es, fe)
  form_of p o (iteration_ends k xs body r fe all we) = (Iterates k xs body, fe)
  form_of p o (iteration k xs body r envs t fe all we every oe) = (Iterates k xs body, fe)

  -- the declared fields of a record
  abbrev Declared : Name → List IlExp → Type 0
  Declared t ps = (declared : List (Name × Ty)) × HasFields defs (ty.Name t) declared × (length ps ≡ length declared)

  declared_of : (p : IlExp) (t : Name) (ps : List IlExp) (f : Form) → out-IlExp p ≡ IlExp-F.Fields t ps → HasForm defs p f → Declared t ps
  declared_of p t ps f o (by_itself is) = let bad : None ≡ Some f = sym (ap form_at o) ∙ is in cc
  declared_of p t ps f o (structure u es declared is has long k) =
      let both : IlExp-F.Fields u es ≡ IlExp-F.Fields t ps = sym is ∙ o in
      let names : u ≡ t = cc in
      let parts : es ≡ ps = cc in
      (declared, subst (λ z. HasFields defs (ty.Name z) declared) names has, ap length (sym parts) ∙ long)
  declared_of p t ps f o (absent_list u element is means k) = let bad : IlExp-F.Absent u ≡ IlExp-F.Fields t ps = sym is ∙ o in cc
  declared_of p t ps f o (absent_option u element is means k) = let bad : IlExp-F.Absent u ≡ IlExp-F.Fields t ps = sym is ∙ o in cc

  -- the values of the parts of a record stand in its fields, in their order
  pub Fits-Fields : (p : IlExp) (t : Name) (ps : List IlExp) (v : Value) → out-IlExp p ≡ IlExp-F.Fields t ps → is_pattern p ≡ true → Fits defs p v s
      → (list_all is_pattern ps ≡ true) × (names : List Name) × (vs : List Value) × FitAll defs ps vs s × (length names ≡ length vs) × (value.Fields (zip names vs) ≡ v)
  Fits-Fields p t ps v o pat g =
      let h = form_of p (Val v) g in
      let d = declared_of p t ps h.0 o h.1 in
      let f : HasForm defs p (Strict ps (building d.0)) = structure t ps d.0 o d.1 d.2 refl in
      let r = operands defs no_answers s p ps (building d.0) v f g in
      let names = map (λ (x : Name × Ty). x.0) d.0 in (
        pattern-form defs p (Strict ps (building d.0)) f pat,
        names,
        r.0,
        r.1,
        names_long d.0 ∙ (sym d.2 ∙ all_long ps r.0 r.1),
        limited_is (value.Fields (zip names r.0)) v r.2,
      )
    where
      names_long : (ds : List (Name × Ty)) → length (map (λ (x : Name × Ty). x.0) ds) ≡ length ds
      names_long [] = refl
      names_long (d ∷ ds) = ap suc (names_long ds)

      all_long : (ps : List IlExp) (vs : List Value) → FitAll defs ps vs s → length ps ≡ length vs
      all_long [] [] a = refl
      all_long [] (v ∷ vs) a = absurd a
      all_long (p ∷ ps) [] a = absurd a
      all_long (p ∷ ps) (v ∷ vs) a = ap suc (all_long ps vs a.1)

  -- ---- the parts of a list

  pub FitItems-none : (vs : List Value) → FitItems defs [] vs s → vs ≡ []
  FitItems-none vs f = at f.parts f.fit f.are
    where
      at : (parts : List Value) → FitAll defs [] parts s → spliced [] parts ≡ Some vs → vs ≡ []
      at [] a e = sym (some_one e)
      at (w ∷ ws) a e = absurd a

  pub FitItems-One : (i : ListItem) (e : IlExp) (rest : List ListItem) (vs : List Value) → out-ListItem i ≡ ListItem-F.One e → FitItems defs (i ∷ rest) vs s
      → (w : Value) × (ws : List Value) × (w ∷ ws ≡ vs) × Fits defs e w s × FitItems defs rest ws s
  FitItems-One i e rest vs o f = at f.parts f.fit f.are
    where
      cut : (w : Value) (parts : List Value) (k : Spliced i rest w parts vs) → Gives defs no_answers s (item_exp i) (Val w) → FitAll defs (map item_exp rest) parts s
          → (w : Value) × (ws : List Value) × (w ∷ ws ≡ vs) × Fits defs e w s × FitItems defs rest ws s
      cut w parts k g a =
          let first : k.0 ≡ w ∷ [] = subst (λ z. Chunk z w k.0) o k.2 in
          (w, k.1, ap (λ z. z ++ k.1) (sym first) ∙ k.4, subst (λ z. Fits defs z w s) (ap item_at o) g, record { parts = parts; fit = a; are = k.3 })

      at : (parts : List Value) → FitAll defs (map item_exp (i ∷ rest)) parts s → spliced (i ∷ rest) parts ≡ Some vs
          → (w : Value) × (ws : List Value) × (w ∷ ws ≡ vs) × Fits defs e w s × FitItems defs rest ws s
      at [] a k = absurd a
      at (w ∷ parts) a k = cut w parts (splice_parts i rest w parts vs k) a.0 a.1

  pub FitItems-All : (i : ListItem) (e : IlExp) (rest : List ListItem) (vs : List Value) → out-ListItem i ≡ ListItem-F.All e → FitItems defs (i ∷ rest) vs s
      → (n : ℕ) × (n ≤ length vs) × FitSplit defs e rest vs n s
  FitItems-All i e rest vs o f = at f.parts f.fit f.are
    where
      split : (us ws parts : List Value) → us ++ ws ≡ vs → Fits defs e (value.List us) s → FitItems defs rest ws s → (n : ℕ) × (n ≤ length vs) × FitSplit defs e rest vs n s
      split us ws parts is g h =
          let front : us ≡ take (length us) vs = sym (take_at us ws (length us) refl) ∙ ap (take (length us)) is in
          let back : ws ≡ drop (length us) vs = sym (drop_at us ws (length us) refl) ∙ ap (drop (length us)) is in
          (length us, omega (arith, length-append us ws, ap length is), (subst (λ z. Fits defs e (value.List z) s) front g, subst (λ z. FitItems defs rest z s) back h))

      cut : (w : Value) (parts : List Value) (k : Spliced i rest w parts vs) → Gives defs no_answers s (item_exp i) (Val w) → FitAll defs (map item_exp rest) parts s
          → (n : ℕ) × (n ≤ length vs) × FitSplit defs e rest vs n s
      cut w parts k g a =
          let chunk : elements w ≡ Some k.0 = subst (λ z. Chunk z w k.0) o k.2 in
          split k.0 k.1 parts k.4 (subst (λ z. Fits defs e z s) (list_of_elements w k.0 chunk) (subst (λ z. Fits defs z w s) (ap item_at o) g)) (record { parts = parts; fit = a; are = k.3 })

      at : (parts : List Value) → FitAll defs (map item_exp (i ∷ rest)) parts s → spliced (i ∷ rest) parts ≡ Some vs → (n : ℕ) × (n ≤ length vs) × FitSplit defs e rest vs n s
      at [] a k = absurd a
      at (w ∷ parts) a k = cut w parts (splice_parts i rest w parts vs k) a.0 a.1

-- ---- a pattern that is a variable

pub IsVariable-Var : (p : IlExp) (x : Name) → p ≡ exp.Var x → IsVariable p x
IsVariable-Var p x is = record { value = λ defs s v f. Fits-Var defs s p x v (ap out-IlExp is ∙ exp.outs-Var x) f }

pub IsVariable-Up : (p : IlExp) (t : Ty) (e g : IlExp) (x : Name) → p ≡ exp.Up t e → g ≡ e → g ≡ exp.Var x → IsVariable p x
IsVariable-Up p t e g x is same there = record {
  value = λ defs s v f.
      Fits-Var defs s e x v (ap out-IlExp (sym same ∙ there) ∙ exp.outs-Var x) (Fits-Up defs s p t e v (ap out-IlExp is ∙ exp.outs-Up t e) f);
}
