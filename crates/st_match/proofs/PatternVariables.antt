-- The variables of a pattern, by those of its parts.
use Rattle.std.proofs.Common.{◌≡◌, sym, ◌∙◌, ap, ap₂, List, [], ◌∷◌, ◌++◌, append_assoc, append-nil, map}
use Rattle.st_il.specs.declared.expression.IlExp.{IlExp, out-IlExp}
use Rattle.st_il.specs.declared.expression.IlExp.TheOpen.{IlExp-F}
use Rattle.st_il.specs.declared.expression.IlExp.TheVariants as exp
use Rattle.st_il.specs.declared.expression.Iteration.{Iteration}
use Rattle.st_il.specs.declared.expression.ListItem.{ListItem}
use Rattle.st_il.specs.declared.ty.Ty.{Ty}
use Rattle.st_il.specs.Names.{Name, without}
use Rattle.st_semantics.specs.Operands.{item_exp}
use Rattle.st_semantics.specs.Forms.{Strict, Iterates, form_at, by_itself}
use Rattle.st_semantics.specs.Iterations.{count_of, index_of}
use Rattle.st_semantics.specs.Variables.{vars, vars_of}
use Rattle.st_semantics.proofs.Names.{vars-form}

pub vars-Iter : (p : IlExp) (how : Iteration) (xs : List Name) (body : IlExp) → out-IlExp p ≡ IlExp-F.Iter how xs body → vars p ≡ vars_of (count_of how) ++ xs ++ without (index_of how) (vars body)
vars-Iter p how xs body o = vars-form [] p (Iterates how xs body) (by_itself (ap form_at o))

pub vars-List : (p : IlExp) (t : Ty) (items js : List ListItem) → p ≡ exp.List t items → js ≡ items → vars_of (map item_exp js) ≡ vars p
vars-List p t items js is same =
    ap (λ z. vars_of (map item_exp z)) same ∙ sym (vars-form [] p (Strict (map item_exp items) _) (by_itself (ap form_at (ap out-IlExp is ∙ exp.outs-List t items))))

-- what two lists add
pub added-Cat : (p e g a b : IlExp) (old first : List Name) → p ≡ exp.Cat e g → a ≡ e → b ≡ g → first ≡ old ++ vars a → first ++ vars b ≡ old ++ vars p
added-Cat p e g a b old first is ea eb h =
    let whole : vars p ≡ vars_of (e ∷ g ∷ []) = vars-form [] p (Strict (e ∷ g ∷ []) _) (by_itself (ap form_at (ap out-IlExp is ∙ exp.outs-Cat e g))) in
    let both : vars p ≡ vars a ++ vars b = whole ∙ (ap (λ z. vars e ++ z) (append-nil (vars g)) ∙ ap₂ (λ x y. vars x ++ vars y) (sym ea) (sym eb)) in
    ap (λ z. z ++ vars b) h ∙ (append_assoc old (vars a) (vars b) ∙ ap (λ z. old ++ z) (sym both))

-- what an iteration adds
pub added-Iter : (p : IlExp) (how : Iteration) (xs ys zs : List Name) (body g : IlExp) (old first second inner names : List Name) → p ≡ exp.Iter how xs body → ys ≡ xs → g ≡ body
    → first ≡ old ++ vars_of (count_of how) → second ≡ first ++ ys → names ≡ [] → inner ≡ names ++ vars g → zs ≡ inner → second ++ without (index_of how) zs ≡ old ++ vars p
added-Iter p how xs ys zs body g old first second inner names is same part a b none c d =
    let inside : zs ≡ vars body = d ∙ (c ∙ (ap (λ z. z ++ vars g) none ∙ ap vars part)) in
    let front : second ≡ (old ++ vars_of (count_of how)) ++ xs = b ∙ (ap (λ z. z ++ ys) a ∙ ap (λ z. (old ++ vars_of (count_of how)) ++ z) same) in
    ap (λ z. z ++ without (index_of how) zs) front ∙ (ap (λ z. ((old ++ vars_of (count_of how)) ++ xs) ++ without (index_of how) z) inside ∙
    (assoc old (vars_of (count_of how)) xs (without (index_of how) (vars body)) ∙
    ap (λ z. old ++ z) (sym (vars-Iter p how xs body (ap out-IlExp is ∙ exp.outs-Iter how xs body)))))
  where
    assoc : (a b c d : List Name) → ((a ++ b) ++ c) ++ d ≡ a ++ (b ++ c ++ d)
    assoc a b c d = ap (λ z. z ++ d) (append_assoc a b c) ∙ append_assoc a (b ++ c) d
