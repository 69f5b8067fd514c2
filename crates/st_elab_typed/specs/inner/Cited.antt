-- What an expression cites is declared.
use Rattle.std.specs.Prelude.{◌≡◌, ℕ, List, [], ◌∷◌, length}
use Rattle.std.specs.List.{AllByRecursion}
use Rattle.st_il.specs.declared.expression.IlExp.{IlExp, out-IlExp}
use Rattle.st_il.specs.declared.expression.IlExp.TheOpen.{IlExp-F}
use Rattle.st_il.specs.declared.expression.Iteration.{Iteration}
use Rattle.st_il.specs.declared.expression.ListItem.{ListItem}
use Rattle.st_il.specs.declared.expression.PathSeg.{PathSeg}
use Rattle.st_semantics.specs.Iterations.{count_of}
use Rattle.st_semantics.specs.Operands.{operands_at, item_exp, segment_exps}
use Rattle.st_ilcheck.specs.Declarations.{IsTag}
use Rattle.st_elab_table.specs.declared.decls.Decls.{Decls}
use Rattle.st_elab_table.specs.declared.decls.Scope.{Scope}
use Rattle.st_elab_table.specs.Iterations.{Variable}
use Rattle.st_elab_typed.specs.Citations.{IsSyntax, IsFunction, IsKnown}
use Rattle.st_elab_typed.specs.inner.Named.{IsNoIteration}

-- the names in the types of the variables of a scope are declared
abbrev pub ScopeKnown : Decls → Scope → Type 0
ScopeKnown D S = AllByRecursion (λ (v : Variable). IsKnown D v.1) S.variables

-- what a level cites by itself is declared, and its tag is a template with a hole for each operand
abbrev pub OwnKnown : Decls → IlExp-F IlExp Iteration ListItem PathSeg → Type 0
OwnKnown D (IlExp-F.Case type tag es) = IsSyntax D type × IsTag (tag, length es)
OwnKnown D (IlExp-F.Fields type es) = IsSyntax D type
OwnKnown D (IlExp-F.List t items) = IsKnown D t
OwnKnown D (IlExp-F.Empty t) = IsKnown D t
OwnKnown D (IlExp-F.Absent t) = IsKnown D t
OwnKnown D (IlExp-F.Up t e) = IsKnown D t
OwnKnown D (IlExp-F.Call f es) = IsFunction D f
OwnKnown D level = Unit {0}

mutual
  -- what an expression cites is declared
  pub data Cites (D : Decls) : IlExp → Type 0 where
    by_parts : {x : IlExp} → IsNoIteration (out-IlExp x) → OwnKnown D (out-IlExp x)
        → AllCite D (operands_at item_exp segment_exps (out-IlExp x)) → Cites D x
    by_body : {x : IlExp} (how : Iteration) (names : List (List ℕ)) (body : IlExp)
        → out-IlExp x ≡ IlExp-F.Iter how names body → Cites D body → AllCite D (count_of how)
        → Cites D x

  -- what these cite is declared
  pub data AllCite (D : Decls) : List IlExp → Type 0 where
    none : AllCite D []
    more : {x : IlExp} {xs : List IlExp} → Cites D x → AllCite D xs → AllCite D (x ∷ xs)
