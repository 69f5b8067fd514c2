-- A path that is walked, one step after another.
use Rattle.std.proofs.Common.{◌≡◌, sym, subst, ℕ, ◌+◌, ◌<◌, List, [], ◌∷◌, ◌++◌, length, drop, get_or, append_assoc}
use Rattle.std.specs.Prelude.{Result, Err}
use Rattle.st_num.specs.declared.span.Span.{Span}
use Rattle.st_el.specs.declared.expression.Seg.{Seg, out-Seg}
use Rattle.st_il.specs.declared.ty.Ty.{Ty}
use Rattle.st_il.specs.declared.expression.PathSeg.{PathSeg}
use Rattle.st_elab_table.specs.declared.decls.Decls.{Decls}
use Rattle.st_elab_table.specs.declared.decls.Scope.{Scope}
use Rattle.st_dims.specs.declared.within.Within.{Within}
use Rattle.st_num.specs.declared.fault.Fault.{Fault as ExpFault}
use Rattle.st_elab_table.specs.Questions.{Made, Answer, Gives, Fails, Step}
use Rattle.st_elab_table.specs.Paths.{step_row, along}
use Rattle.st_elab_table.specs.Elaboration.{Leads}
use Rattle.st_elab_rows.specs.declared.asking.Context.{Context}
use Rattle.st_elab_rows.specs.declared.path.Walked.{Walked}
use Rattle.st_elab_rows.specs.Told.{Leading}
use Rattle.st_elab_rows.specs.inner.Walks.{Walks}
use Rattle.st_elab_rows.proofs.Builds.{Told-stops, from_place}

-- the steps that are left follow those that are done
abbrev after : List PathSeg → (List PathSeg → Ty → Step) → List PathSeg → Ty → Step
after done next ps v = next (done ++ ps) v

one_more : (done : List PathSeg) (p : PathSeg) (next : List PathSeg → Ty → Step) → after (done ++ p ∷ []) next ≡ (λ ps v. next (done ++ p ∷ ps) v)
one_more done p next = λ k ps v. next (append_assoc done (p ∷ []) ps k) v

module _ (D : Decls) (S : Scope) where
  pub walks_more : (w : Within) (at : Span) (path : List Seg) (i : ℕ) (s : Seg) (t u : Ty) (p : PathSeg) (done now : List PathSeg) (next : List PathSeg → Ty → Step) (a : Answer)
      → i < length path → s ≡ get_or path i s → now ≡ done ++ p ∷ []
      → ((next : PathSeg → Ty → Step) (a : Answer) → Leads D S (next p u) a → Leads D S (step_row D w at t next (out-Seg s)) a)
      → Leads D S (along D w at (drop (i + 1) path) u (λ ps v. next (now ++ ps) v)) a
      → Leads D S (along D w at (drop i path) t (λ ps v. next (done ++ ps) v)) a
  walks_more w at path i s t u p done now next a inside is pushed steps h =
      subst (λ z. Leads D S (along D w at z t (λ ps v. next (done ++ ps) v)) a) (sym (from_place path i s inside is))
      (steps (λ q v. along D w at (drop (i + 1) path) v (λ ps x. next (done ++ q ∷ ps) x)) a
      (subst (λ z. Leads D S (along D w at (drop (i + 1) path) u z) a) (one_more done p next)
      (subst (λ z. Leads D S (along D w at (drop (i + 1) path) u (λ ps v. next (z ++ ps) v)) a) pushed h)))

-- a breach on the way
pub walk_stops : {A : Type 0} (x : Context) (steps : (List PathSeg → Ty → Step) → Step) (next : List PathSeg → Ty → Step) (f : A → Made) (r : Result Walked ExpFault) (s : Result A ExpFault) (e : ExpFault)
    → r ≡ Err e → s ≡ Err e → Walks x steps r → Leading x.decls.now x.scope.now (steps next) f s
walk_stops x steps next f r s e is out h =
    Told-stops (λ (y : Walked). (next : List PathSeg → Ty → Step) (a : Answer) → Leads x.decls.now x.scope.now (next y.path y.ty) a → Leads x.decls.now x.scope.now (steps next) a)
    (λ y. Leads x.decls.now x.scope.now (steps next) (Gives (f y)))
    (λ b. (next : List PathSeg → Ty → Step) → Leads x.decls.now x.scope.now (steps next) (Fails b))
    (λ b. Leads x.decls.now x.scope.now (steps next) (Fails b)) r s e is out (λ b k. k next) h
