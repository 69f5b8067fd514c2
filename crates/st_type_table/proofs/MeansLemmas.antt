-- A type has at most one meaning, and one where aliases end.
use Rattle.std.proofs.Common.{◌≡◌, sym, ◌∙◌, subst, List}
use Rattle.st_il.specs.declared.ty.Ty.{Ty}
use Rattle.st_il.specs.declared.definition.SyntaxDef.{SyntaxDef}
use Rattle.st_type_table.specs.Meaning.{Means, itself, alias}

pub Means-single : (defs : List SyntaxDef) (t u w : Ty) → Means defs t u → Means defs t w → u ≡ w
Means-single defs t u w (itself p q) (itself r s) = sym q ∙ s
Means-single defs t u w (itself p q) (alias y r s) = cc
Means-single defs t u w (alias x p q) (itself r s) = cc
Means-single defs t u w (alias x p q) (alias y r s) =
    let e : x ≡ y = cc in
    Means-single defs x u w q (subst (λ z. Means defs z w) (sym e) s)
