-- One level of two types, as the code compares them.
use Rattle.std.specs.Prelude.{◌≡◌, List}
use Rattle.st_il.specs.declared.ty.Ty.{Ty}
use Rattle.st_il.specs.declared.ty.Ty.TheOpen.{Ty-F}
use Rattle.st_il.specs.declared.definition.SyntaxDef.{SyntaxDef}
use Rattle.st_type_table.specs.Same.{Same, SameAll}

-- two meanings are equal through aliases
abbrev pub SameAt : List SyntaxDef → Ty-F Ty → Ty-F Ty → Type 0
SameAt defs Ty-F.Bool Ty-F.Bool = Unit {0}
SameAt defs Ty-F.Nat Ty-F.Nat = Unit {0}
SameAt defs Ty-F.Int Ty-F.Int = Unit {0}
SameAt defs Ty-F.Text Ty-F.Text = Unit {0}
SameAt defs (Ty-F.Name x) (Ty-F.Name y) = x ≡ y
SameAt defs (Ty-F.List x) (Ty-F.List y) = Same defs x y
SameAt defs (Ty-F.Opt x) (Ty-F.Opt y) = Same defs x y
SameAt defs (Ty-F.Tuple xs) (Ty-F.Tuple ys) = SameAll defs xs ys
SameAt defs _ _ = ⊥
