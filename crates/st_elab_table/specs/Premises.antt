-- Premises: what they are in the internal language, and the first breach in them.
use Rattle.std.specs.Prelude.{◌≡◌, ◌⊎◌, ℕ, List, [], ◌∷◌, Some, None}
use Rattle.st_num.specs.declared.span.Span.{Span}
use Rattle.st_num.specs.declared.rule.RuleId.TheVariants.{B2}
use Rattle.st_el.specs.declared.expression.Exp.{Exp}
use Rattle.st_el.specs.declared.expression.Count.{Count, out-Count}
use Rattle.st_el.specs.declared.definition.Prem.{Prem, out-Prem}
use Rattle.st_el.specs.declared.definition.PremNode.{PremNode, out-PremNode}
use Rattle.st_el.specs.declared.definition.PremNode.TheOpen.{PremNode-F}
use Rattle.st_il.specs.declared.ty.Ty.TheVariants as ty
use Rattle.st_il.specs.declared.expression.IlExp.{IlExp}
use Rattle.st_il.specs.declared.expression.IlPrem.{IlPrem}
use Rattle.st_il.specs.declared.expression.IlPrem.TheVariants as premise
use Rattle.st_il.specs.declared.expression.Iteration.{Iteration}
use Rattle.st_il.specs.declared.definition.RelationDef.{RelationDef}
use Rattle.st_il.specs.Occurrences.{occurs_in_prem}
use Rattle.st_elab_table.specs.declared.decls.Decls.{Decls}
use Rattle.st_elab_table.specs.declared.decls.Scope.{Scope}
use Rattle.st_dims.specs.declared.within.Within.{Within}
use Rattle.st_elab_table.specs.Questions.{Breach}
use Rattle.st_dims.specs.Around.{inside}
use Rattle.st_elab_table.specs.Iterations.{iterated}
use Rattle.st_elab_table.specs.Collections.{counted_at}
use Rattle.st_elab_table.specs.Elaboration.{Reached, Stopped}
use Rattle.st_elab_table.specs.Inside.{ElabInside, InsideBreach}
use Rattle.st_elab_table.specs.Judgements.{broken, relation_named, Judged, JudgedBreach}

-- where a premise stands
abbrev pub place_of : Prem → Span
place_of p = (out-Prem p).at

-- the condition, judgement, `otherwise` or iteration that a premise is
abbrev pub node_of : Prem → PremNode-F PremNode Prem
node_of p = out-PremNode (out-Prem p).node

-- A premise is elaborated, inside of this.
pub data ElabPrem (D : Decls) (S : Scope) : Within → Prem → IlPrem → Type 0 where
  condition : {w : Within} {p : Prem} (e : Exp) (x : IlExp) → node_of p ≡ PremNode-F.If e
      → ElabInside D S w e ty.Bool x → ElabPrem D S w p (premise.If x)
  judgement : {w : Within} {p : Prem} (name : List ℕ) (e : Exp) (R : RelationDef) (xs : List IlExp)
      → node_of p ≡ PremNode-F.Goal name e → relation_named D.relations name ≡ Some R
      → Judged D S w R e xs → ElabPrem D S w p (premise.Goal name xs)
  otherwise : {w : Within} {p : Prem} → node_of p ≡ PremNode-F.Otherwise
      → ElabPrem D S w p premise.Otherwise
  each : {w : Within} {p : Prem} (q : Prem) (c : Count) (x : IlPrem) (k : Iteration)
      → node_of p ≡ PremNode-F.Each q c → ElabPrem D S (inside w c) q x
      → Reached D S (counted_at w (out-Count c)) k
      → ElabPrem D S w p
      (premise.Each k (iterated S w c (λ name. occurs_in_prem name x)) x)

-- The first breach in a premise. The count of an iteration comes behind its premise.
pub data PremBreach (D : Decls) (S : Scope) : Within → Prem → Breach → Type 0 where
  in_condition : {w : Within} {p : Prem} {b : Breach} (e : Exp) → node_of p ≡ PremNode-F.If e
      → InsideBreach D S w e ty.Bool b → PremBreach D S w p b
  undeclared : {w : Within} {p : Prem} (name : List ℕ) (e : Exp)
      → node_of p ≡ PremNode-F.Goal name e → relation_named D.relations name ≡ None
      → PremBreach D S w p (broken (place_of p) B2)
  in_judgement : {w : Within} {p : Prem} {b : Breach} (name : List ℕ) (e : Exp) (R : RelationDef)
      → node_of p ≡ PremNode-F.Goal name e → relation_named D.relations name ≡ Some R
      → JudgedBreach D S w R e b → PremBreach D S w p b
  in_premise : {w : Within} {p : Prem} {b : Breach} (q : Prem) (c : Count)
      → node_of p ≡ PremNode-F.Each q c → PremBreach D S (inside w c) q b → PremBreach D S w p b
  in_count : {w : Within} {p : Prem} {b : Breach} (q : Prem) (c : Count) (x : IlPrem)
      → node_of p ≡ PremNode-F.Each q c → ElabPrem D S (inside w c) q x
      → Stopped D S (counted_at w (out-Count c)) b → PremBreach D S w p b

-- each premise is elaborated, in order
abbrev pub ElabPrems : Decls → Scope → Within → List Prem → List IlPrem → Type 0
ElabPrems D S w [] [] = Unit {0}
ElabPrems D S w (p ∷ ps) (x ∷ xs) = ElabPrem D S w p x × ElabPrems D S w ps xs
ElabPrems D S w [] (x ∷ xs) = ⊥
ElabPrems D S w (p ∷ ps) [] = ⊥

-- one premise has this breach, and those before it are elaborated
abbrev pub PremsBreach : Decls → Scope → Within → List Prem → Breach → Type 0
PremsBreach D S w [] b = ⊥
PremsBreach D S w (p ∷ ps) b =
    PremBreach D S w p b ⊎ ((x : IlPrem) × ElabPrem D S w p x × PremsBreach D S w ps b)
