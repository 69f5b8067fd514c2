-- Building one action after another.
use Rattle.std.proofs.Common.{arith, ◌≡◌, ℕ, List, [], ◌∷◌, ◌++◌, length, Option, Some, None, OnSome, option_and_then, reverse, refl, sym, ap, subst, ◌∙◌, length-append, append-nil}
use Rattle.std.proofs.lemmas.List.{length-map, length-reverse}
use Rattle.st_num.specs.declared.token.Token.{Token}
use Rattle.st_el.specs.declared.expression.Exp.{Exp}
use Rattle.st_grammar.specs.declared.action.Action.{Action}
use Rattle.st_grammar.specs.declared.action.Action.TheVariants as action
use Rattle.st_parse_builder.specs.declared.piece.Piece.{Piece}
use Rattle.st_parse_builder.specs.Meaning.{changed}
use Rattle.st_num.specs.declared.mark.Mark.{Mark}
use Rattle.st_el.specs.declared.expression.Seg.{Seg}
use Rattle.st_parse_builder.specs.declared.built.Built.{Built}
use Rattle.st_parse_builder.specs.declared.piece.Piece.TheVariants.{Done}
use Rattle.st_parse_builder.specs.Heights.{height}
use Rattle.st_parse_builder.specs.Variables.{Occurrence, occurrence, occurrences}
use Rattle.st_parse_builder.specs.inner.Building as exps
use Rattle.st_parse_builder.specs.inner.NotationBuilding as notations
use Rattle.st_parse_builder.specs.inner.PieceVariables.{stack_variables}
use Rattle.st_parse_builder.specs.inner.Parts.{built, untold, over, raised, both, Makes, made_or}
use Rattle.st_parse_builder.specs.inner.Entries as entry
use Rattle.st_parse_builder.specs.inner.Entries.{entries, noted, Stands, alone, the_exp, exp_part}
use Rattle.st_parse_builder.specs.inner.NotationEntries.{entries as notation_entries}
use Rattle.st_parse_builder.proofs.Tops.{on_some}
use Rattle.st_parse_builder.proofs.OnTop.{at, done_on}

-- nothing stands on the stack before the first action
pub stands_first : (seen : List Token) (s : exps.Stack) → Some [] ≡ Some s → Stands (occurrences seen) s [] seen
stands_first seen s h = let is : [] ≡ s = cc in subst (λ v. Stands (occurrences seen) v [] seen) is (refl, sym (append-nil (occurrences seen)))

pub notations_first : (s : notations.Stack) → Some [] ≡ Some s → [] ≡ notation_entries s
notations_first s h = let is : [] ≡ s = cc in ap notation_entries is

-- the stacks before and behind one action among others
pub run_at : (front : List Action) (a : Action) (back : List Action) (s u : exps.Stack) {P : Type 0} → exps.run (front ++ a ∷ back) s ≡ Some u
    → ((v w : exps.Stack) → exps.run front s ≡ Some v → exps.applied a v ≡ Some w → exps.run back w ≡ Some u → P) → P
run_at [] a back s u h k = on_some (exps.applied a s) u (exps.run back) h (λ w i j. k s w refl i j)
run_at (b ∷ front) a back s u h k =
    on_some (exps.applied b s) u (exps.run (front ++ a ∷ back)) h
    (λ t i j. run_at front a back t u j (λ v w l m n. k v w (ap (option_and_then (exps.run front)) i ∙ l) m n))

pub notation_run_at : (front : List Action) (a : Action) (back : List Action) (s u : notations.Stack) {P : Type 0} → notations.run (front ++ a ∷ back) s ≡ Some u
    → ((v w : notations.Stack) → notations.run front s ≡ Some v → notations.applied a v ≡ Some w → notations.run back w ≡ Some u → P) → P
notation_run_at [] a back s u h k = on_some (notations.applied a s) u (notations.run back) h (λ w i j. k s w refl i j)
notation_run_at (b ∷ front) a back s u h k =
    on_some (notations.applied b s) u (notations.run (front ++ a ∷ back)) h
    (λ t i j. notation_run_at front a back t u j (λ v w l m n. k v w (ap (option_and_then (notations.run front)) i ∙ l) m n))

-- what is made where an action fits
pub finished_is : {P : Type 0} (o : Option (List P)) (made : Option P) (p : P) (rest new u : List P) → Makes o rest made → o ≡ Some u → new ≡ made_or made p ∷ rest → new ≡ u
finished_is o None p rest new u m e f = absurd (cc)
finished_is o (Some q) p rest new u m e f = let is : q ∷ rest ≡ u = cc in f ∙ is

pub made_some : {P : Type 0} (o : Option (List P)) (made : Option P) (rest u : List P) {Q : Type 0} → Makes o rest made → o ≡ Some u → OnSome made Q → Q
made_some o None rest u m e q = absurd (cc)
made_some o (Some p) rest u m e q = q

pub noted_same : (a : Action) (s t : entry.Stack) (o p q u : List Occurrence) → s ≡ t → o ≡ p → noted a s o ≡ Some q → noted a t p ≡ Some u → q ≡ u
noted_same a s t o p q u e f h k =
    let is : Some q ≡ Some u = sym h ∙ ap (λ v. noted a v o) e ∙ ap (noted a t) f ∙ k in cc

-- how many variables are seen
pub seen_count : (before : List Occurrence) (s : exps.Stack) (seen : List Token) → occurrences seen ≡ before ++ stack_variables s → length seen ≡ at (length before) s
seen_count before s seen e = sym (length-map seen occurrence) ∙ ap length e ∙ length-append before (stack_variables s)

pub exp_given : (before : ℕ) (e : Exp) → the_exp (entries before (Done e ∷ [])) ≡ Some (exp_part before e)
exp_given before e =
    let zero : at before [] ≡ before = omega arith in
    ap (option_and_then (λ t. alone t.0 t.1)) (done_on before e []) ∙ ap (λ n. Some (built n (height e) e)) zero

none_left : {P : Type 0} (r : List P) → reverse r ≡ [] → r ≡ []
none_left [] h = refl
none_left (x ∷ xs) h = let n : length (reverse (x ∷ xs)) ≡ 0 = ap length h in absurd (omega (arith, n, length-reverse (x ∷ xs)))

-- where no expression is on top
pub exp_wanting : (s : entry.Stack) (from : ℕ) → entry.top_done s ≡ None → untold from ≡ made_or (the_exp s) (untold from)
exp_wanting s from h = sym (ap (λ o. made_or (option_and_then (λ u. alone u.0 u.1) o) (untold from)) h)

-- a part on others is no expression alone
pub exp_with_more : (s r : entry.Stack) (t : Built Exp) (from : ℕ) → entry.top_done s ≡ Some (t, reverse r) → (r ≡ [] → ⊥) → untold from ≡ made_or (the_exp s) (untold from)
exp_with_more s r t from e k = by (reverse r) refl ∙ sym (ap (λ o. made_or (option_and_then (λ u. alone u.0 u.1) o) (untold from)) e)
  where
    by : (q : entry.Stack) → reverse r ≡ q → untold from ≡ made_or (alone t q) (untold from)
    by [] i = absurd (k (none_left r i))
    by (x ∷ q) i = refl

-- a part on nothing
pub exp_alone : (s r : entry.Stack) (t : Built Exp) (from : ℕ) → entry.top_done s ≡ Some (t, reverse r) → r ≡ [] → t ≡ made_or (the_exp s) (untold from)
exp_alone s r t from e k =
    ap (λ q. made_or (alone t (reverse q)) (untold from)) (sym k)
    ∙ sym (ap (λ o. made_or (option_and_then (λ u. alone u.0 u.1) o) (untold from)) e)

-- a part that is changed at a path
pub change_applied : (m : Mark) (s t u v : entry.Stack) (new : Built Exp) (path : Built (List Seg)) (whole : Built Exp) (made : Built Piece)
    → entry.top_done s ≡ Some (new, t) → entry.top_path t ≡ Some (path, u) → entry.top_done u ≡ Some (whole, v)
    → made ≡ over (λ x. Done (changed m x.0 x.1.0 x.1.1)) (raised (both whole (both path new))) → entry.applied 0 (action.Change m) s ≡ Some (made ∷ v)
change_applied m s t u v new path whole made e f g is =
    ap (option_and_then (λ o. entry.with_path o.1 (λ y r. entry.with_done r (λ z. entry.put (over changes (raised (both z (both y o.0)))))))) e
    ∙ ap (option_and_then (λ o. entry.with_done o.1 (λ z. entry.put (over changes (raised (both z (both o.0 new))))))) f
    ∙ ap (option_and_then (λ o. entry.put (over changes (raised (both o.0 (both path new)))) o.1)) g
    ∙ ap (λ p. Some (p ∷ v)) (sym is)
  where
    changes : Exp × (List Seg × Exp) → Piece
    changes x = Done (changed m x.0 x.1.0 x.1.1)
