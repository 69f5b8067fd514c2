-- What each row keeps holds of each answer.
use Rattle.std.proofs.Common.{sym, subst, [], true}
use Rattle.st_il.specs.declared.expression.IlExp.{IlExp, out-IlExp}
use Rattle.st_il.specs.declared.expression.IlExp.TheOpen.{IlExp-F}
use Rattle.st_il.specs.declared.expression.IlExp.TheVariants as il
use Rattle.st_il.specs.declared.expression.Iteration.{Iteration}
use Rattle.st_il.specs.declared.expression.ListItem.{ListItem}
use Rattle.st_il.specs.declared.expression.PathSeg.{PathSeg}
use Rattle.st_il.specs.declared.ty.Ty.{Ty}
use Rattle.st_il.specs.declared.ty.Ty.TheVariants as ty
use Rattle.st_type_table.specs.Meaning.{Means}
use Rattle.st_elab_table.specs.declared.decls.Decls.{Decls}
use Rattle.st_elab_table.specs.declared.decls.Scope.{Scope}
use Rattle.st_elab_table.specs.Choice.{IsCaseOf}
use Rattle.st_elab_table.specs.Questions.{Question, Made, Answer, Gives, Fails, Chosen, Step, Ends, Asks, Tests, Opens, Fills}
use Rattle.st_elab_table.specs.Steps.{made, give}
use Rattle.st_elab_table.specs.Elaboration.{row, Holds, Answered, by_row, Leads, ends, goes_on, stops, passes, misses, opens, fills, fits_none, Reached}

-- What holds of a step where P holds of the answers to questions and Q of what is given at the end.
abbrev pub Keeps : Decls → (Question → Made → Type 0) → (Made → Type 0) → Step → Type 0
Keeps D P Q (Ends (Gives m)) = Q m
Keeps D P Q (Ends (Fails b)) = Unit {0}
Keeps D P Q (Asks q next) = (m : Made) → P q m → Keeps D P Q (next m)
Keeps D P Q (Tests c first second) = (Holds D c → Keeps D P Q first) × ((Holds D c → ⊥) → Keeps D P Q second)
Keeps D P Q (Opens t next) = (u : Ty) → Means D.types t u → Keeps D P Q (next u)
Keeps D P Q (Fills t e next unfit) =
    ((c : Chosen) → IsCaseOf D.types t e c → Keeps D P Q (next c)) × (((c : Chosen) → IsCaseOf D.types t e c → ⊥) → Keeps D P Q unfit)

-- P holds of what an answer gives
abbrev pub HoldsOf : (Made → Type 0) → Answer → Type 0
HoldsOf Q (Gives m) = Q m
HoldsOf Q (Fails b) = Unit {0}

mutual
  pub Answered-keeps : (D : Decls) (S : Scope) (P : Question → Made → Type 0) → ((q : Question) → Keeps D P (P q) (row D S q))
      → (q : Question) (a : Answer) → Answered D S q a → HoldsOf (P q) a
  Answered-keeps D S P rows q a (by_row h) = Leads-keeps D S P rows (P q) (row D S q) a h (rows q)

  pub Leads-keeps : (D : Decls) (S : Scope) (P : Question → Made → Type 0) → ((q : Question) → Keeps D P (P q) (row D S q))
      → (Q : Made → Type 0) (s : Step) (a : Answer) → Leads D S s a → Keeps D P Q s → HoldsOf Q a
  Leads-keeps D S P rows Q (Ends (Gives m)) a ends k = k
  Leads-keeps D S P rows Q (Ends (Fails b)) a ends k = tt
  Leads-keeps D S P rows Q (Asks q next) a (goes_on m h t) k =
      Leads-keeps D S P rows Q (next m) a t (k m (Answered-keeps D S P rows q (Gives m) h))
  Leads-keeps D S P rows Q (Asks q next) a (stops b h) k = tt
  Leads-keeps D S P rows Q (Tests c first second) a (passes p h) k = Leads-keeps D S P rows Q first a h (k.0 p)
  Leads-keeps D S P rows Q (Tests c first second) a (misses p h) k = Leads-keeps D S P rows Q second a h (k.1 p)
  Leads-keeps D S P rows Q (Opens t next) a (opens u m h) k = Leads-keeps D S P rows Q (next u) a h (k u m)
  Leads-keeps D S P rows Q (Fills t e next unfit) a (fills c p h) k = Leads-keeps D S P rows Q (next c) a h (k.0 c p)
  Leads-keeps D S P rows Q (Fills t e next unfit) a (fits_none p h) k = Leads-keeps D S P rows Q unfit a h (k.1 p)

-- ---- steps that go on with an iteration

-- an expression that shows the iteration
abbrev shown : Iteration → IlExp
shown k = il.Iter k [] (il.Bool true)

-- R holds of the iteration that an expression shows
abbrev ShowsAt : (Iteration → Type 0) → IlExp-F IlExp Iteration ListItem PathSeg → Type 0
ShowsAt R (IlExp-F.Iter k names x) = R k
ShowsAt R y = Unit {0}

-- Where steps go on only with iterations of which R holds, R holds of the one with which they do.
pub Reached-keeps : (D : Decls) (S : Scope) (P : Question → Made → Type 0) → ((q : Question) → Keeps D P (P q) (row D S q))
    → (R : Iteration → Type 0) (steps : (Iteration → Step) → Step)
    → ((Q : Made → Type 0) (next : Iteration → Step) → ((l : Iteration) → R l → Keeps D P Q (next l)) → Keeps D P Q (steps next))
    → (k : Iteration) → Reached D S steps k → R k
Reached-keeps D S P rows R steps kept k h =
    subst (ShowsAt R) (il.outs-Iter k [] (il.Bool true))
    (Leads-keeps D S P rows (λ (m : Made). ShowsAt R (out-IlExp m.exp)) (steps (λ l. give (shown l) ty.Bool)) (Gives (made (shown k) ty.Bool)) (h (λ l. give (shown l) ty.Bool) (Gives (made (shown k) ty.Bool)) ends)
    (kept (λ (m : Made). ShowsAt R (out-IlExp m.exp)) (λ l. give (shown l) ty.Bool) (λ l r. subst (ShowsAt R) (sym (il.outs-Iter l [] (il.Bool true))) r)))
