-- What is claimed of each answer says that it is erased back.
use Rattle.st_il.specs.declared.definition.Il.{Il}
use Rattle.st_notation.specs.Fits.{Filling, one, run, missing}
use Rattle.st_erase.specs.declared.erased.Erased.{Erased}
use Rattle.st_erase.specs.Erasure.{erased}
use Rattle.st_elab_table.specs.declared.decls.Decls.{Decls}
use Rattle.st_elab_table.specs.declared.decls.Scope.{Scope}
use Rattle.st_elab_table.specs.Questions.{Question, check, infer, item, hole, Made, Gives}
use Rattle.st_elab_table.specs.Elaboration.{Answered}
use Rattle.st_elab_law.specs.Agreement.{IsTableOf}
use Rattle.st_elab_law.specs.Law.{FillsAs, IsErasedBack}
use Rattle.st_elab_law.proofs.Claims.{IsFilledBy, Claim}
use Rattle.st_elab_law.proofs.Writing.{whole_source}
use Rattle.st_elab_law.proofs.Table.{Answered-claims}

fills_as : (Alone : Type 0) (f : Filling) (x : Erased) → IsFilledBy Alone f x → FillsAs f x
fills_as Alone (one e) x h = whole_source x e h.same
fills_as Alone (run es) x h = h
fills_as Alone missing x h = h

module _ (il : Il) (D : Decls) where
  is_back : (q : Question) (m : Made) → Claim il.defs D q m → IsErasedBack il q m
  is_back (check w at p e t) m h = whole_source (erased il.defs m.exp) e h.same
  is_back (infer w at e) m h = whole_source (erased il.defs m.exp) e h.same
  is_back (item w t element e) m h = whole_source (erased il.defs m.exp) e h
  is_back (hole w at passed filling t) m h = fills_as _ filling (erased il.defs m.exp) h

  pub Answered-erases : (S : Scope) → IsTableOf il.defs D → (q : Question) (m : Made) → Answered D S q (Gives m) → IsErasedBack il q m
  Answered-erases S table q m h = is_back q m (Answered-claims il.defs D S table q m h)
