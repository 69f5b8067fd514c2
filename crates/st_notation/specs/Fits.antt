-- How an expression fits a template, and what then fills the holes.
use Rattle.std.specs.Prelude.{◌≡◌, ℕ, ◌+◌, List, [], ◌∷◌, ◌++◌, length, take, drop, IsTrue, Option, Some, None}
use Rattle.st_num.specs.declared.mark.Mark.{Mark}
use Rattle.st_el.specs.declared.expression.Exp.{Exp}
use Rattle.st_el.specs.declared.expression.Count.TheOpen.{Node-F}
use Rattle.st_il.specs.declared.template.Template.{Template, out-Template}
use Rattle.st_il.specs.declared.template.Template.TheOpen.{Template-F}
use Rattle.st_notation.specs.declared.filled.Shape.{Shape}
use Rattle.st_notation.specs.declared.filled.Shape.TheVariants as shape
use Rattle.st_notation.specs.Elements.{opened, bare, elements, is_atom, before}

-- what fills a hole
pub data Filling : Type 0 where
  -- one expression
  one : Exp → Filling
  -- the elements that a hole of list type takes
  run : List Exp → Filling
  -- nothing, where the hole is of option type
  missing : Filling

-- ---- a hole in a sequence

-- what fills a hole, and how many elements it takes
pub record Take : Type 0 where
  pub filling : Filling
  pub count : ℕ

-- a hole takes the first of the elements that are left
abbrev pub one_element : List Exp → Option Take
one_element [] = None
one_element (e ∷ es) = Some (record { filling = one e; count = 1 })

-- the first so many of the elements, as the share of a hole of list type
abbrev pub shared_run : List Exp → ℕ → Take
shared_run es count = record { filling = run (take count es); count = count }

-- a hole of list type takes the first so many of the elements
abbrev pub run_to : List Exp → ℕ → Option Take
run_to es count = Some (shared_run es count)

-- A hole of list type that is directly followed by an atom
-- takes all elements up to the first such atom, or else to the end.
abbrev pub run_up_to : Template-F Template → List Exp → Option Take
run_up_to (Template-F.Atom name) es = run_to es (before name es)
run_up_to Template-F.Hole es = one_element es
run_up_to (Template-F.Seq parts) es = one_element es
run_up_to (Template-F.Infix left sign right) es = one_element es
run_up_to (Template-F.Bracket opening inside) es = one_element es

-- A hole of list type that is last takes all elements that are left.
abbrev pub list_takes : List Template → List Exp → Option Take
list_takes [] es = run_to es (length es)
list_takes (next ∷ behind) es = run_up_to (out-Template next) es

-- A hole of option type that is last may be missing.
abbrev pub option_takes : List Template → List Exp → Option Take
option_takes [] [] = Some (record { filling = missing; count = 0 })
option_takes [] (e ∷ es) = one_element (e ∷ es)
option_takes (next ∷ behind) es = one_element es

-- what a hole of this shape takes of the elements that are left, with these parts behind it
abbrev pub takes : Shape → List Template → List Exp → Option Take
takes shape.Plain behind es = one_element es
takes shape.List behind es = list_takes behind es
takes shape.Opt behind es = option_takes behind es

-- ---- fitting

mutual
  -- The expression, which may stand in parentheses, fits the template.
  -- The first shapes are those of its holes, and the fillings are in their order.
  pub data Fits : Template → List Shape → Exp → List Filling → Type 0 where
    hole : {t : Template} {ss : List Shape} {e : Exp} → out-Template t ≡ Template-F.Hole
        → Fits t ss e (one e ∷ [])
    atom : {t : Template} {ss : List Shape} {e : Exp} (name : List ℕ)
        → out-Template t ≡ Template-F.Atom name → IsTrue (is_atom name (bare e)) → Fits t ss e []
    bracket : {t : Template} {ss : List Shape} {e : Exp} {fs : List Filling} (opening : Mark)
        (inside : Template) (inner : Exp)
        → out-Template t ≡ Template-F.Bracket opening inside
        → opened (bare e) ≡ Node-F.Bracket opening inner
        → Fits inside ss inner fs → Fits t ss e fs
    sides : {t : Template} {ss : List Shape} {e : Exp} {fs gs : List Filling}
        (left : Template) (sign : Mark) (right : Template) (before behind : Exp)
        → out-Template t ≡ Template-F.Infix left sign right
        → opened (bare e) ≡ Node-F.Infix before sign behind
        → Fits left ss before fs → Fits right (drop (length fs) ss) behind gs
        → Fits t ss e (fs ++ gs)
    sequence : {t : Template} {ss : List Shape} {e : Exp} {fs : List Filling}
        (parts : List Template)
        → out-Template t ≡ Template-F.Seq parts → FitInOrder parts ss (elements (bare e)) fs
        → Fits t ss e fs

  -- the elements fit the parts of a sequence one after another
  pub data FitInOrder : List Template → List Shape → List Exp → List Filling → Type 0 where
    end : {ss : List Shape} → FitInOrder [] ss [] []
    next_atom : {t : Template} {ts : List Template} {ss : List Shape} {e : Exp} {es : List Exp}
        {fs : List Filling} (name : List ℕ)
        → out-Template t ≡ Template-F.Atom name → IsTrue (is_atom name e) → FitInOrder ts ss es fs
        → FitInOrder (t ∷ ts) ss (e ∷ es) fs
    next_bracket : {t : Template} {ts : List Template} {ss : List Shape} {e : Exp} {es : List Exp}
        {fs gs : List Filling}
        (opening : Mark) (inside : Template) (inner : Exp)
        → out-Template t ≡ Template-F.Bracket opening inside
        → opened e ≡ Node-F.Bracket opening inner → Fits inside ss inner fs
        → FitInOrder ts (drop (length fs) ss) es gs → FitInOrder (t ∷ ts) ss (e ∷ es) (fs ++ gs)
    next_hole : {t : Template} {ts : List Template} {s : Shape} {ss : List Shape} {es : List Exp}
        {fs : List Filling} (taken : Take)
        → out-Template t ≡ Template-F.Hole → takes s ts es ≡ Some taken
        → FitInOrder ts ss (drop taken.count es) fs
        → FitInOrder (t ∷ ts) (s ∷ ss) es (taken.filling ∷ fs)

-- The expression fits the template as a whole:
-- a hole that is the whole template takes it without its parentheses.
abbrev pub FitsWhole : Template → List Shape → Exp → List Filling → Type 0
FitsWhole t ss e fs = Fits t ss (bare e) fs
