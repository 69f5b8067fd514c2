-- The key of a template: its top sign,
-- or else its first element where that is an atom or a bracket, or else none.
use Rattle.std.specs.Prelude.{ℕ, List, [], ◌∷◌}
use Rattle.st_num.specs.declared.mark.Mark.{Mark}
use Rattle.st_il.specs.declared.key.Key.{Key}
use Rattle.st_il.specs.declared.key.Key.TheVariants as code
use Rattle.st_il.specs.declared.template.Template.{Template, out-Template}
use Rattle.st_il.specs.declared.template.Template.TheOpen.{Template-F}

-- what a key is: a sign, an opening bracket, an atom, or none of them
pub data PlainKey : Type 0 where
  sign : Mark → PlainKey
  bracket : Mark → PlainKey
  atom : List ℕ → PlainKey
  free : PlainKey

-- the key of an element of a sequence
abbrev pub element_key : {X : Type 0} → Template-F X → PlainKey
element_key (Template-F.Atom name) = atom name
element_key Template-F.Hole = free
element_key (Template-F.Seq parts) = free
element_key (Template-F.Infix left top right) = free
element_key (Template-F.Bracket opening inside) = bracket opening

-- the key of the first element of a sequence
abbrev pub first_key : List Template → PlainKey
first_key [] = free
first_key (t ∷ ts) = element_key (out-Template t)

-- the key of a template, by its top
abbrev pub key_at : Template-F Template → PlainKey
key_at (Template-F.Atom name) = atom name
key_at Template-F.Hole = free
key_at (Template-F.Seq parts) = first_key parts
key_at (Template-F.Infix left top right) = sign top
key_at (Template-F.Bracket opening inside) = bracket opening

-- the key of a template
abbrev pub key : Template → PlainKey
key t = key_at (out-Template t)

-- what a key of the code is
abbrev pub plain : Key → PlainKey
plain (code.Sign top) = sign top
plain (code.Bracket opening) = bracket opening
plain (code.Atom name) = atom name.now
plain code.Free = free
