-- The forms of expressions, by their levels, and what of an expression that has a form in all parts its parts have.
use Rattle.std.proofs.Common.{◌≡◌, ℕ, zero, suc, ◌<◌, sym, ◌∙◌, ap, subst, List, [], ◌∷◌, length, get_or, Some, arith}
use Rattle.st_il.specs.declared.definition.SyntaxDef.{SyntaxDef}
use Rattle.st_il.specs.declared.expression.IlExp.{IlExp, out-IlExp, roll-IlExp, roll-out-IlExp}
use Rattle.st_il.specs.declared.expression.IlExp.TheVariants as exp
use Rattle.st_il.specs.declared.expression.IlExp.TheOpen.{IlExp-F}
use Rattle.st_il.specs.declared.expression.Iteration.{Iteration}
use Rattle.st_il.specs.declared.expression.ListItem.{ListItem}
use Rattle.st_il.specs.declared.expression.PathSeg.{PathSeg}
use Rattle.st_il.specs.Names.{Name}
use Rattle.st_semantics.specs.Operands.{operands_at, item_exp, segment_exps}
use Rattle.st_semantics.specs.Parts.{Operation}
use Rattle.st_semantics.specs.Forms.{Strict, Variable, Calls, Iterates, form_at, operation_at, HasForm, by_itself, structure, absent_list, absent_option}
use Rattle.st_semantics.specs.Formed.{IsFormed, AreFormed}
use Rattle.st_semantics.specs.Formed as formed
use Rattle.st_semantics.specs.Iterations.{count_of}
use Rattle.std.specs.Borrow.{Bor}
use Rattle.st_semantics.specs.References.{exps_now}
use Rattle.st_semantics.proofs.Singles.{HasForm-single}

abbrev Level : Type 0
Level = IlExp-F IlExp Iteration ListItem PathSeg

-- the operands and the operation of a strict form
abbrev pub IsStrict : Level → List IlExp → Operation → Type 0
IsStrict y es f = (operands_at item_exp segment_exps y ≡ es) × (operation_at y ≡ f)

both : (es gs : List IlExp) (f g : Operation) → Some (Strict es f) ≡ Some (Strict gs g) → (es ≡ gs) × (f ≡ g)
both es gs f g h = (cc, cc)

pub strict_level : (y : Level) (es : List IlExp) (f : Operation) → form_at y ≡ Some (Strict es f) → IsStrict y es f
strict_level (IlExp-F.Bool truth) es f k = both _ es _ f k
strict_level (IlExp-F.Number n) es f k = both _ es _ f k
strict_level (IlExp-F.Text text) es f k = both _ es _ f k
strict_level (IlExp-F.Var x) es f k = cc
strict_level (IlExp-F.Not e) es f k = both _ es _ f k
strict_level (IlExp-F.And e g) es f k = both _ es _ f k
strict_level (IlExp-F.Or e g) es f k = both _ es _ f k
strict_level (IlExp-F.Imp e g) es f k = both _ es _ f k
strict_level (IlExp-F.Iff e g) es f k = both _ es _ f k
strict_level (IlExp-F.Neg e) es f k = both _ es _ f k
strict_level (IlExp-F.Add type e g) es f k = both _ es _ f k
strict_level (IlExp-F.Sub type e g) es f k = both _ es _ f k
strict_level (IlExp-F.Mul type e g) es f k = both _ es _ f k
strict_level (IlExp-F.Div type e g) es f k = both _ es _ f k
strict_level (IlExp-F.Rem type e g) es f k = both _ es _ f k
strict_level (IlExp-F.Pow type e g) es f k = both _ es _ f k
strict_level (IlExp-F.Eq e g) es f k = both _ es _ f k
strict_level (IlExp-F.Ne e g) es f k = both _ es _ f k
strict_level (IlExp-F.Lt e g) es f k = both _ es _ f k
strict_level (IlExp-F.Gt e g) es f k = both _ es _ f k
strict_level (IlExp-F.Le e g) es f k = both _ es _ f k
strict_level (IlExp-F.Ge e g) es f k = both _ es _ f k
strict_level (IlExp-F.Member e g) es f k = both _ es _ f k
strict_level (IlExp-F.Case type tag gs) es f k = both _ es _ f k
strict_level (IlExp-F.Fields type gs) es f k = cc
strict_level (IlExp-F.Dot e name) es f k = both _ es _ f k
strict_level (IlExp-F.Set e path g) es f k = both _ es _ f k
strict_level (IlExp-F.Extend e path g) es f k = both _ es _ f k
strict_level (IlExp-F.Tuple gs) es f k = both _ es _ f k
strict_level (IlExp-F.List type items) es f k = both _ es _ f k
strict_level (IlExp-F.Cat e g) es f k = both _ es _ f k
strict_level (IlExp-F.Join e g) es f k = both _ es _ f k
strict_level (IlExp-F.Empty type) es f k = both _ es _ f k
strict_level (IlExp-F.Present e) es f k = both _ es _ f k
strict_level (IlExp-F.Absent type) es f k = cc
strict_level (IlExp-F.Len e) es f k = both _ es _ f k
strict_level (IlExp-F.IlExp::At e g) es f k = both _ es _ f k
strict_level (IlExp-F.IlExp::Slice e g h) es f k = both _ es _ f k
strict_level (IlExp-F.Call fun gs) es f k = cc
strict_level (IlExp-F.Up type e) es f k = both _ es _ f k
strict_level (IlExp-F.Iter how names body) es f k = cc

pub variable_level : (y : Level) (x : Name) → form_at y ≡ Some (Variable x) → y ≡ IlExp-F.Var x
variable_level (IlExp-F.Bool truth) z k = cc
variable_level (IlExp-F.Number n) z k = cc
variable_level (IlExp-F.Text text) z k = cc
variable_level (IlExp-F.Var x) z k = let same : x ≡ z = cc in ap IlExp-F.Var same
variable_level (IlExp-F.Not e) z k = cc
variable_level (IlExp-F.And e g) z k = cc
variable_level (IlExp-F.Or e g) z k = cc
variable_level (IlExp-F.Imp e g) z k = cc
variable_level (IlExp-F.Iff e g) z k = cc
variable_level (IlExp-F.Neg e) z k = cc
variable_level (IlExp-F.Add type e g) z k = cc
variable_level (IlExp-F.Sub type e g) z k = cc
variable_level (IlExp-F.Mul type e g) z k = cc
variable_level (IlExp-F.Div type e g) z k = cc
variable_level (IlExp-F.Rem type e g) z k = cc
variable_level (IlExp-F.Pow type e g) z k = cc
variable_level (IlExp-F.Eq e g) z k = cc
variable_level (IlExp-F.Ne e g) z k = cc
variable_level (IlExp-F.Lt e g) z k = cc
variable_level (IlExp-F.Gt e g) z k = cc
variable_level (IlExp-F.Le e g) z k = cc
variable_level (IlExp-F.Ge e g) z k = cc
variable_level (IlExp-F.Member e g) z k = cc
variable_level (IlExp-F.Case type tag es) z k = cc
variable_level (IlExp-F.Fields type es) z k = cc
variable_level (IlExp-F.Dot e name) z k = cc
variable_level (IlExp-F.Set e path g) z k = cc
variable_level (IlExp-F.Extend e path g) z k = cc
variable_level (IlExp-F.Tuple es) z k = cc
variable_level (IlExp-F.List type items) z k = cc
variable_level (IlExp-F.Cat e g) z k = cc
variable_level (IlExp-F.Join e g) z k = cc
variable_level (IlExp-F.Empty type) z k = cc
variable_level (IlExp-F.Present e) z k = cc
variable_level (IlExp-F.Absent type) z k = cc
variable_level (IlExp-F.Len e) z k = cc
variable_level (IlExp-F.IlExp::At e g) z k = cc
variable_level (IlExp-F.IlExp::Slice e g h) z k = cc
variable_level (IlExp-F.Call fun es) z k = cc
variable_level (IlExp-F.Up type e) z k = cc
variable_level (IlExp-F.Iter how names body) z k = cc

pub call_level : (y : Level) (f : Name) (gs : List IlExp) → form_at y ≡ Some (Calls f gs) → y ≡ IlExp-F.Call f gs
call_level (IlExp-F.Bool truth) f gs k = cc
call_level (IlExp-F.Number n) f gs k = cc
call_level (IlExp-F.Text text) f gs k = cc
call_level (IlExp-F.Var x) f gs k = cc
call_level (IlExp-F.Not e) f gs k = cc
call_level (IlExp-F.And e g) f gs k = cc
call_level (IlExp-F.Or e g) f gs k = cc
call_level (IlExp-F.Imp e g) f gs k = cc
call_level (IlExp-F.Iff e g) f gs k = cc
call_level (IlExp-F.Neg e) f gs k = cc
call_level (IlExp-F.Add type e g) f gs k = cc
call_level (IlExp-F.Sub type e g) f gs k = cc
call_level (IlExp-F.Mul type e g) f gs k = cc
call_level (IlExp-F.Div type e g) f gs k = cc
call_level (IlExp-F.Rem type e g) f gs k = cc
call_level (IlExp-F.Pow type e g) f gs k = cc
call_level (IlExp-F.Eq e g) f gs k = cc
call_level (IlExp-F.Ne e g) f gs k = cc
call_level (IlExp-F.Lt e g) f gs k = cc
call_level (IlExp-F.Gt e g) f gs k = cc
call_level (IlExp-F.Le e g) f gs k = cc
call_level (IlExp-F.Ge e g) f gs k = cc
call_level (IlExp-F.Member e g) f gs k = cc
call_level (IlExp-F.Case type tag es) f gs k = cc
call_level (IlExp-F.Fields type es) f gs k = cc
call_level (IlExp-F.Dot e name) f gs k = cc
call_level (IlExp-F.Set e path g) f gs k = cc
call_level (IlExp-F.Extend e path g) f gs k = cc
call_level (IlExp-F.Tuple es) f gs k = cc
call_level (IlExp-F.List type items) f gs k = cc
call_level (IlExp-F.Cat e g) f gs k = cc
call_level (IlExp-F.Join e g) f gs k = cc
call_level (IlExp-F.Empty type) f gs k = cc
call_level (IlExp-F.Present e) f gs k = cc
call_level (IlExp-F.Absent type) f gs k = cc
call_level (IlExp-F.Len e) f gs k = cc
call_level (IlExp-F.IlExp::At e g) f gs k = cc
call_level (IlExp-F.IlExp::Slice e g h) f gs k = cc
call_level (IlExp-F.Call fun es) f gs k = cc
call_level (IlExp-F.Up type e) f gs k = cc
call_level (IlExp-F.Iter how names body) f gs k = cc

pub iteration_level : (y : Level) (k : Iteration) (xs : List Name) (b : IlExp) → form_at y ≡ Some (Iterates k xs b) → y ≡ IlExp-F.Iter k xs b
iteration_level (IlExp-F.Bool truth) k xs b c = cc
iteration_level (IlExp-F.Number n) k xs b c = cc
iteration_level (IlExp-F.Text text) k xs b c = cc
iteration_level (IlExp-F.Var x) k xs b c = cc
iteration_level (IlExp-F.Not e) k xs b c = cc
iteration_level (IlExp-F.And e g) k xs b c = cc
iteration_level (IlExp-F.Or e g) k xs b c = cc
iteration_level (IlExp-F.Imp e g) k xs b c = cc
iteration_level (IlExp-F.Iff e g) k xs b c = cc
iteration_level (IlExp-F.Neg e) k xs b c = cc
iteration_level (IlExp-F.Add type e g) k xs b c = cc
iteration_level (IlExp-F.Sub type e g) k xs b c = cc
iteration_level (IlExp-F.Mul type e g) k xs b c = cc
iteration_level (IlExp-F.Div type e g) k xs b c = cc
iteration_level (IlExp-F.Rem type e g) k xs b c = cc
iteration_level (IlExp-F.Pow type e g) k xs b c = cc
iteration_level (IlExp-F.Eq e g) k xs b c = cc
iteration_level (IlExp-F.Ne e g) k xs b c = cc
iteration_level (IlExp-F.Lt e g) k xs b c = cc
iteration_level (IlExp-F.Gt e g) k xs b c = cc
iteration_level (IlExp-F.Le e g) k xs b c = cc
iteration_level (IlExp-F.Ge e g) k xs b c = cc
iteration_level (IlExp-F.Member e g) k xs b c = cc
iteration_level (IlExp-F.Case type tag es) k xs b c = cc
iteration_level (IlExp-F.Fields type es) k xs b c = cc
iteration_level (IlExp-F.Dot e name) k xs b c = cc
iteration_level (IlExp-F.Set e path g) k xs b c = cc
iteration_level (IlExp-F.Extend e path g) k xs b c = cc
iteration_level (IlExp-F.Tuple es) k xs b c = cc
iteration_level (IlExp-F.List type items) k xs b c = cc
iteration_level (IlExp-F.Cat e g) k xs b c = cc
iteration_level (IlExp-F.Join e g) k xs b c = cc
iteration_level (IlExp-F.Empty type) k xs b c = cc
iteration_level (IlExp-F.Present e) k xs b c = cc
iteration_level (IlExp-F.Absent type) k xs b c = cc
iteration_level (IlExp-F.Len e) k xs b c = cc
iteration_level (IlExp-F.IlExp::At e g) k xs b c = cc
iteration_level (IlExp-F.IlExp::Slice e g h) k xs b c = cc
iteration_level (IlExp-F.Call fun es) k xs b c = cc
iteration_level (IlExp-F.Up type e) k xs b c = cc
iteration_level (IlExp-F.Iter how names body) k xs b c = cc

module _ (defs : List SyntaxDef) where
  -- the operands of a strict form are those of its level
  pub operands_form : (e : IlExp) (es : List IlExp) (f : Operation) → HasForm defs e (Strict es f) → operands_at item_exp segment_exps (out-IlExp e) ≡ es
  operands_form e es f (by_itself is) = (strict_level (out-IlExp e) es f is).0
  operands_form e es f (structure type gs declared is has long k) = let same : es ≡ gs = cc in ap (operands_at item_exp segment_exps) is ∙ sym same
  operands_form e es f (absent_list type element is means k) = let same : es ≡ [] = cc in ap (operands_at item_exp segment_exps) is ∙ sym same
  operands_form e es f (absent_option type element is means k) = let same : es ≡ [] = cc in ap (operands_at item_exp segment_exps) is ∙ sym same

  variable_form : (e : IlExp) (x : Name) → HasForm defs e (Variable x) → out-IlExp e ≡ IlExp-F.Var x
  variable_form e x (by_itself is) = variable_level (out-IlExp e) x is
  variable_form e x (structure type gs declared is has long k) = cc
  variable_form e x (absent_list type element is means k) = cc
  variable_form e x (absent_option type element is means k) = cc

  call_form : (e : IlExp) (f : Name) (gs : List IlExp) → HasForm defs e (Calls f gs) → out-IlExp e ≡ IlExp-F.Call f gs
  call_form e f gs (by_itself is) = call_level (out-IlExp e) f gs is
  call_form e f gs (structure type es declared is has long k) = cc
  call_form e f gs (absent_list type element is means k) = cc
  call_form e f gs (absent_option type element is means k) = cc

  iteration_form : (e : IlExp) (how : Iteration) (xs : List Name) (body : IlExp) → HasForm defs e (Iterates how xs body) → out-IlExp e ≡ IlExp-F.Iter how xs body
  iteration_form e how xs body (by_itself is) = iteration_level (out-IlExp e) how xs body is
  iteration_form e how xs body (structure type es declared is has long k) = cc
  iteration_form e how xs body (absent_list type element is means k) = cc
  iteration_form e how xs body (absent_option type element is means k) = cc

  -- an expression that is no variable, no call and no iteration has a strict form
  pub record IsPlain (e : IlExp) : Type 0 where
    pub no_variable : (x : Name) → out-IlExp e ≡ IlExp-F.Var x → ⊥
    pub no_call : (f : Name) (gs : List IlExp) → out-IlExp e ≡ IlExp-F.Call f gs → ⊥
    pub no_iteration : (how : Iteration) (xs : List Name) (body : IlExp) → out-IlExp e ≡ IlExp-F.Iter how xs body → ⊥

  pub record HasStrict (e : IlExp) : Type 0 where
    pub operation : Operation
    pub form : HasForm defs e (Strict (operands_at item_exp segment_exps (out-IlExp e)) operation)
    pub parts : AreFormed defs (operands_at item_exp segment_exps (out-IlExp e))

  has_strict : (e : IlExp) (es gs : List IlExp) (f : Operation) → gs ≡ es → HasForm defs e (Strict es f) → AreFormed defs es
      → HasForm defs e (Strict gs f) × AreFormed defs gs
  has_strict e es gs f same h all = (subst (λ z. HasForm defs e (Strict z f)) (sym same) h, subst (AreFormed defs) (sym same) all)

  pub plain_strict : (e : IlExp) → IsFormed defs e → IsPlain e → HasStrict e
  plain_strict e (formed.strict es f h all) plain =
      let r = has_strict e es (operands_at item_exp segment_exps (out-IlExp e)) f (operands_form e es f h) h all in
      record { operation = f; form = r.0; parts = r.1 }
  plain_strict e (formed.variable x h) plain = absurd (plain.no_variable x (variable_form e x h))
  plain_strict e (formed.call fun args h all) plain = absurd (plain.no_call fun args (call_form e fun args h))
  plain_strict e (formed.iteration how xs body h count b) plain = absurd (plain.no_iteration how xs body (iteration_form e how xs body h))

  -- the arguments of a call have forms
  pub call_parts : (e : IlExp) (fun : Name) (args : List IlExp) → out-IlExp e ≡ IlExp-F.Call fun args → IsFormed defs e → AreFormed defs args
  call_parts e fun args is (formed.strict es f h all) = let same = HasForm-single defs e _ _ h (by_itself (ap form_at is)) in cc
  call_parts e fun args is (formed.variable x h) = let same = HasForm-single defs e _ _ h (by_itself (ap form_at is)) in cc
  call_parts e fun args is (formed.call fun' args' h all) =
      let same = HasForm-single defs e _ _ h (by_itself (ap form_at is)) in
      let aa : args' ≡ args = cc in subst (AreFormed defs) aa all
  call_parts e fun args is (formed.iteration how xs body h count b) = let same = HasForm-single defs e _ _ h (by_itself (ap form_at is)) in cc

  -- the count and the body of an iteration have
  pub iteration_parts : (e : IlExp) (how : Iteration) (xs : List Name) (body : IlExp) → out-IlExp e ≡ IlExp-F.Iter how xs body → IsFormed defs e
      → AreFormed defs (count_of how) × IsFormed defs body
  iteration_parts e how xs body is (formed.strict es f h all) = let same = HasForm-single defs e _ _ h (by_itself (ap form_at is)) in cc
  iteration_parts e how xs body is (formed.variable x h) = let same = HasForm-single defs e _ _ h (by_itself (ap form_at is)) in cc
  iteration_parts e how xs body is (formed.call fun args h all) = let same = HasForm-single defs e _ _ h (by_itself (ap form_at is)) in cc
  iteration_parts e how xs body is (formed.iteration how' xs' body' h count b) =
      let same = HasForm-single defs e _ _ h (by_itself (ap form_at is)) in
      let kk : how' ≡ how = cc in
      let bb : body' ≡ body = cc in
      (subst (λ z. AreFormed defs (count_of z)) kk count, subst (IsFormed defs) bb b)

  -- each of several expressions that have forms has one
  pub formed_element : (es : List (Bor IlExp)) (i : ℕ) (x : Bor IlExp) → i < length es → x ≡ get_or es i x → AreFormed defs (exps_now es) → IsFormed defs x.now
  formed_element [] i x h is all = absurd (omega (arith, h))
  formed_element (e ∷ es) zero x h is (formed.more first rest) = subst (λ (z : Bor IlExp). IsFormed defs z.now) (sym is) first
  formed_element (e ∷ es) (suc i) x h is (formed.more first rest) = formed_element es i x (omega (arith, h)) is rest

  pub plain_by : (e : IlExp) → ((x : Name) → e ≡ exp.Var x → ⊥) → ((f : Name) (gs : List IlExp) → e ≡ exp.Call f gs → ⊥)
      → ((how : Iteration) (xs : List Name) (body : IlExp) → e ≡ exp.Iter how xs body → ⊥) → IsPlain e
  plain_by e v f k = record {
    no_variable = λ x h. v x (sym (roll-out-IlExp e) ∙ (ap roll-IlExp h ∙ exp.rolls-Var x));
    no_call = λ fun gs h. f fun gs (sym (roll-out-IlExp e) ∙ (ap roll-IlExp h ∙ exp.rolls-Call fun gs));
    no_iteration = λ how xs body h. k how xs body (sym (roll-out-IlExp e) ∙ (ap roll-IlExp h ∙ exp.rolls-Iter how xs body));
  }
