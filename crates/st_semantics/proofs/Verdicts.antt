-- A line has one verdict at most, where calls come to one outcome at most.
use Rattle.std.proofs.Common.{◌≡◌, ℕ, refl, sym, ◌∙◌, ap, subst, List, [], ◌∷◌, Option, Some, None, inl, inr, true, false}
use Rattle.st_deriv.specs.declared.line.Line.{Line}
use Rattle.st_deriv.specs.declared.line.Line.TheVariants.{Head, From, Node, Step, End}
use Rattle.st_deriv.specs.declared.line.NodeLine.{NodeLine}
use Rattle.st_deriv.specs.declared.line.Ref.{Ref, out-Ref}
use Rattle.st_deriv.specs.declared.line.Ref.TheOpen.{Ref-F}
use Rattle.st_il.specs.declared.definition.Il.{Il}
use Rattle.st_il.specs.declared.definition.RuleDef.{RuleDef}
use Rattle.st_il.specs.declared.expression.IlExp.{IlExp}
use Rattle.st_il.specs.declared.expression.IlPrem.{IlPrem}
use Rattle.st_il.specs.declared.value.Env.{Env}
use Rattle.st_il.specs.declared.value.Value.{Value}
use Rattle.st_il.specs.declared.value.Value.TheVariants as value
use Rattle.st_semantics.specs.declared.verify_rule.VerifyRule.{VerifyRule}
use Rattle.st_semantics.specs.declared.verify_rule.VerifyRule.TheVariants.{V7, V8, V9}
use Rattle.st_semantics.specs.declared.notes.Notes.{Notes}
use Rattle.st_semantics.specs.declared.outcome.Outcome.TheVariants.{Val}
use Rattle.st_semantics.specs.declared.outcome.Outcomes.{Outcomes}
use Rattle.st_semantics.specs.declared.outcome.Outcomes.TheVariants.{Values, Stopped}
use Rattle.st_il.specs.Names.{Name}
use Rattle.st_il.specs.Definitions.{syntaxes}
use Rattle.st_semantics.specs.Iterations.{count_of}
use Rattle.st_semantics.specs.Evaluation.{tasks, way, Ends, Goes}
use Rattle.st_semantics.specs.Holding.{Instance, each_instance}
use Rattle.st_semantics.specs.Calls.{CallAt}
use Rattle.st_semantics.specs.Checks.{Answer, Test, accepts, refuses, asks, forbids, and_then, evaluates, evaluate_each, refusal, checking_depth}
use Rattle.st_semantics.specs.Variables.{cites}
use Rattle.st_semantics.specs.Walks.{ComeTo, judged, rule_at, TakenChild, IsTakenFor, IsOneLine, TakenBy, Tests, Walks, otherwise, condition, goal, on_line, of_many, each_refused, of_one, ends, at_once, each, done, left_over, missing, goes, stops}
use Rattle.st_semantics.specs.Verdict.{Found, rule_named, tests_node, tests, Verdict}
use Rattle.st_semantics.specs.Evidence.{tries, try_each, try_all, excludes}
use Rattle.st_semantics.specs.Laws.{LawOfVerdicts}
use Rattle.st_semantics.proofs.Singles.{IsSingle, Gives-single, GivesAll-single, same_way}

-- a test gives one answer at most
abbrev pub Single : Test → Type 0
Single test = (a b : Answer) → test a → test b → a ≡ b

accepts-single : Single accepts
accepts-single a b p q = p ∙ sym q

refuses-single : (rule : VerifyRule) → Single (refuses rule)
refuses-single rule a b p q = p ∙ sym q

asks-single : (P : Type 0) (rule : VerifyRule) → Single (asks P rule)
asks-single P rule a b (inl p) (inl q) = p.1 ∙ sym q.1
asks-single P rule a b (inl p) (inr q) = absurd (q.0 p.0)
asks-single P rule a b (inr p) (inl q) = absurd (p.0 q.0)
asks-single P rule a b (inr p) (inr q) = p.1 ∙ sym q.1

forbids-single : (P : Type 0) (rule : VerifyRule) → Single (forbids P rule)
forbids-single P rule a b (inl p) (inl q) = p.1 ∙ sym q.1
forbids-single P rule a b (inl p) (inr q) = absurd (p.0 q.0)
forbids-single P rule a b (inr p) (inl q) = absurd (q.0 p.0)
forbids-single P rule a b (inr p) (inr q) = p.1 ∙ sym q.1

and_then-single : (first second : Test) → Single first → Single second → Single (and_then first second)
and_then-single first second one two a b (inl p) (inl q) = two a b p.1 q.1
and_then-single first second one two a b (inl p) (inr q) = let bad : None ≡ Some q.0 = one None (Some q.0) p.0 q.1 in cc
and_then-single first second one two a b (inr p) (inl q) = let bad : Some p.0 ≡ None = one (Some p.0) None p.1 q.0 in cc
and_then-single first second one two a b (inr p) (inr q) =
    let same : Some p.0 ≡ Some q.0 = one (Some p.0) (Some q.0) p.1 q.1 in p.2 ∙ same ∙ sym q.2

none_some : (rule : VerifyRule) → None ≡ Some rule → ⊥
none_some rule e = cc

module _ (il : Il) (notes : Notes) (one : IsSingle (CallAt il checking_depth)) where
  all_single : (env : Env) (es : List IlExp) (r s : Outcomes) → ComeTo il env es r → ComeTo il env es s → r ≡ s
  all_single env es r s a b = GivesAll-single (syntaxes il) (CallAt il checking_depth) one (tasks env es) r s a b

  evaluates-single : (rule : VerifyRule) (env : Env) (e : IlExp) (v : Value) → Single (evaluates il rule env e v)
  evaluates-single rule env e v a b (inl p) (inl q) = p.1 ∙ sym q.1
  evaluates-single rule env e v a b (inl p) (inr q) =
      absurd (q.2 (Gives-single (syntaxes il) (CallAt il checking_depth) one env e q.0 (Val v) q.1 p.0))
  evaluates-single rule env e v a b (inr p) (inl q) =
      absurd (p.2 (Gives-single (syntaxes il) (CallAt il checking_depth) one env e p.0 (Val v) p.1 q.0))
  evaluates-single rule env e v a b (inr p) (inr q) =
      let same : p.0 ≡ q.0 = Gives-single (syntaxes il) (CallAt il checking_depth) one env e p.0 q.0 p.1 q.1 in
      p.3 ∙ ap (λ o. Some (refusal rule o)) same ∙ sym q.3

  evaluate_each-single : (env : Env) (es : List IlExp) (vs : List Value) → Single (evaluate_each il env es vs)
  evaluate_each-single env [] vs = accepts-single
  evaluate_each-single env (e ∷ es) [] = refuses-single V7
  evaluate_each-single env (e ∷ es) (v ∷ vs) =
      and_then-single _ _ (evaluates-single V7 env e v) (evaluate_each-single env es vs)

  judged-single : (line : ℕ) (relation : Name) (r : Outcomes) → Single (judged notes line relation r)
  judged-single line relation (Values vs) = asks-single _ V9
  judged-single line relation (Stopped o) = refuses-single (refusal V9 o)

  taken-single : (xs ys : List Ref) (taken : TakenChild) → IsTakenFor xs taken → IsTakenFor ys taken → xs ≡ ys
  taken-single xs ys None p q = p ∙ sym q
  taken-single xs ys (Some child) p q = let same : Ref-F.Many xs ≡ Ref-F.Many ys = sym p ∙ q in cc

  one_or_many : (child : Ref) (inner : List Ref) (taken : TakenChild) → taken ≡ Some child → IsOneLine child → IsTakenFor inner taken → ⊥
  one_or_many child inner taken is line many =
      let at : IsTakenFor inner (Some child) = subst (IsTakenFor inner) is many in
      let bad : Ref-F.Line line.0 ≡ Ref-F.Many inner = sym line.1 ∙ at in cc

  -- what a premise takes is one
  taken_one : (p : IlPrem) (cs : List Ref) (taken taken' : TakenChild) (others others' : List Ref) → TakenBy p cs taken others → TakenBy p cs taken' others' → (taken ≡ taken') × (others ≡ others')
  taken_one p cs None None others others' t u = (refl, sym t.1 ∙ u.1)
  taken_one p cs None (Some child) others others' t u = let bad : false ≡ true = sym t.0 ∙ u.0 in cc
  taken_one p cs (Some child) None others others' t u = let bad : true ≡ false = sym t.0 ∙ u.0 in cc
  taken_one p cs (Some child) (Some child') others others' t u =
      let both : child ∷ others ≡ child' ∷ others' = sym t.1 ∙ u.1 in
      let first : child ≡ child' = cc in
      let rest : others ≡ others' = cc in
      (ap Some first, rest)

  -- where a premise cites a relation, it takes a child
  none_missing : (p : IlPrem) (taken : TakenChild) (others : List Ref) → cites p ≡ true → TakenBy p [] taken others → ⊥
  none_missing p None others c t = let bad : true ≡ false = sym c ∙ t.0 in cc
  none_missing p (Some child) others c t = let bad : [] ≡ child ∷ others = t.1 in cc

  mutual
    Tests-single : (at : Instance) (taken : TakenChild) (a b : Answer) → Tests il notes at taken a → Tests il notes at taken b → a ≡ b
    Tests-single at taken a b (at_once (otherwise is p)) (at_once (otherwise is' p')) = p ∙ sym p'
    Tests-single at taken a b (at_once (otherwise is p)) (at_once (condition e' is' p')) = cc
    Tests-single at taken a b (at_once (otherwise is p)) (at_once (goal rel' es' child' is' t' (on_line line' r' l' come' p'))) = cc
    Tests-single at taken a b (at_once (otherwise is p)) (at_once (goal rel' es' child' is' t' (of_many n' p'))) = cc
    Tests-single at taken a b (at_once (otherwise is p)) (at_once (each_refused how' xs' body' is' (of_one child' t' n' p'))) = cc
    Tests-single at taken a b (at_once (otherwise is p)) (at_once (each_refused how' xs' body' is' (ends inner' r' o' t' come' w' p'))) = cc
    Tests-single at taken a b (at_once (otherwise is p)) (each how' xs' body' inner' r' envs' is' t' come' w' p') = cc
    Tests-single at taken a b (at_once (condition e is p)) (at_once (otherwise is' p')) = cc
    Tests-single at taken a b (at_once (condition e is p)) (at_once (condition e' is' p')) =
        let ee : e' ≡ e = cc in evaluates-single V8 at.0 e (value.Bool true) a b p (subst (λ z. evaluates il V8 at.0 z (value.Bool true) b) ee p')
    Tests-single at taken a b (at_once (condition e is p)) (at_once (goal rel' es' child' is' t' (on_line line' r' l' come' p'))) = cc
    Tests-single at taken a b (at_once (condition e is p)) (at_once (goal rel' es' child' is' t' (of_many n' p'))) = cc
    Tests-single at taken a b (at_once (condition e is p)) (at_once (each_refused how' xs' body' is' (of_one child' t' n' p'))) = cc
    Tests-single at taken a b (at_once (condition e is p)) (at_once (each_refused how' xs' body' is' (ends inner' r' o' t' come' w' p'))) = cc
    Tests-single at taken a b (at_once (condition e is p)) (each how' xs' body' inner' r' envs' is' t' come' w' p') = cc
    Tests-single at taken a b (at_once (goal rel es child is t (on_line line r l come p))) (at_once (otherwise is' p')) = cc
    Tests-single at taken a b (at_once (goal rel es child is t (on_line line r l come p))) (at_once (condition e' is' p')) = cc
    Tests-single at taken a b (at_once (goal rel es child is t (on_line line r l come p))) (at_once (goal rel' es' child' is' t' (on_line line' r' l' come' p'))) =
        let rr : rel' ≡ rel = cc in
        let ee : es' ≡ es = cc in
        let cc' : child' ≡ child = cc in
        let ll : line' ≡ line = cc in
        let ss : r' ≡ r = sym (all_single at.0 es r r' come (subst (λ z. ComeTo il at.0 z r') ee come')) in
        judged-single line rel r a b p
        (subst (λ z. judged notes line rel z b) ss (subst (λ z. judged notes line z r' b) rr (subst (λ z. judged notes z rel' r' b) ll p')))
    Tests-single at taken a b (at_once (goal rel es child is t (on_line line r l come p))) (at_once (goal rel' es' child' is' t' (of_many n' p'))) = let same : child ≡ child' = cc in absurd (n' line (ap out-Ref (sym same) ∙ l))
    Tests-single at taken a b (at_once (goal rel es child is t (on_line line r l come p))) (at_once (each_refused how' xs' body' is' (of_one child' t' n' p'))) = cc
    Tests-single at taken a b (at_once (goal rel es child is t (on_line line r l come p))) (at_once (each_refused how' xs' body' is' (ends inner' r' o' t' come' w' p'))) = cc
    Tests-single at taken a b (at_once (goal rel es child is t (on_line line r l come p))) (each how' xs' body' inner' r' envs' is' t' come' w' p') = cc
    Tests-single at taken a b (at_once (goal rel es child is t (of_many n p))) (at_once (otherwise is' p')) = cc
    Tests-single at taken a b (at_once (goal rel es child is t (of_many n p))) (at_once (condition e' is' p')) = cc
    Tests-single at taken a b (at_once (goal rel es child is t (of_many n p))) (at_once (goal rel' es' child' is' t' (on_line line' r' l' come' p'))) = let same : child ≡ child' = cc in absurd (n line' (ap out-Ref same ∙ l'))
    Tests-single at taken a b (at_once (goal rel es child is t (of_many n p))) (at_once (goal rel' es' child' is' t' (of_many n' p'))) = p ∙ sym p'
    Tests-single at taken a b (at_once (goal rel es child is t (of_many n p))) (at_once (each_refused how' xs' body' is' (of_one child' t' n' p'))) = cc
    Tests-single at taken a b (at_once (goal rel es child is t (of_many n p))) (at_once (each_refused how' xs' body' is' (ends inner' r' o' t' come' w' p'))) = cc
    Tests-single at taken a b (at_once (goal rel es child is t (of_many n p))) (each how' xs' body' inner' r' envs' is' t' come' w' p') = cc
    Tests-single at taken a b (at_once (each_refused how xs body is (of_one child t n p))) (at_once (otherwise is' p')) = cc
    Tests-single at taken a b (at_once (each_refused how xs body is (of_one child t n p))) (at_once (condition e' is' p')) = cc
    Tests-single at taken a b (at_once (each_refused how xs body is (of_one child t n p))) (at_once (goal rel' es' child' is' t' (on_line line' r' l' come' p'))) = cc
    Tests-single at taken a b (at_once (each_refused how xs body is (of_one child t n p))) (at_once (goal rel' es' child' is' t' (of_many n' p'))) = cc
    Tests-single at taken a b (at_once (each_refused how xs body is (of_one child t n p))) (at_once (each_refused how' xs' body' is' (of_one child' t' n' p'))) = p ∙ sym p'
    Tests-single at taken a b (at_once (each_refused how xs body is (of_one child t n p))) (at_once (each_refused how' xs' body' is' (ends inner' r' o' t' come' w' p'))) = absurd (one_or_many child inner' taken t n t')
    Tests-single at taken a b (at_once (each_refused how xs body is (of_one child t n p))) (each how' xs' body' inner' r' envs' is' t' come' w' p') = absurd (one_or_many child inner' taken t n t')
    Tests-single at taken a b (at_once (each_refused how xs body is (ends inner r o t come w p))) (at_once (otherwise is' p')) = cc
    Tests-single at taken a b (at_once (each_refused how xs body is (ends inner r o t come w p))) (at_once (condition e' is' p')) = cc
    Tests-single at taken a b (at_once (each_refused how xs body is (ends inner r o t come w p))) (at_once (goal rel' es' child' is' t' (on_line line' r' l' come' p'))) = cc
    Tests-single at taken a b (at_once (each_refused how xs body is (ends inner r o t come w p))) (at_once (goal rel' es' child' is' t' (of_many n' p'))) = cc
    Tests-single at taken a b (at_once (each_refused how xs body is (ends inner r o t come w p))) (at_once (each_refused how' xs' body' is' (of_one child' t' n' p'))) = absurd (one_or_many child' inner taken t' n' t)
    Tests-single at taken a b (at_once (each_refused how xs body is (ends inner r o t come w p))) (at_once (each_refused how' xs' body' is' (ends inner' r' o' t' come' w' p'))) =
        let kk : how' ≡ how = cc in
        let xx : xs' ≡ xs = cc in
        let bb : body' ≡ body = cc in
        let rr : r ≡ r' = all_single at.0 (count_of how) r r' come (subst (λ z. ComeTo il at.0 (count_of z) r') kk come') in
        let ww : way how xs at.0 r ≡ way how' xs' at.0 r' = cc in
        let ends : Ends o ≡ Ends o' = same_way w w' ww in
        let oo : o ≡ o' = cc in
        p ∙ ap (λ z. Some (refusal (rule_at at.1) z)) oo ∙ sym p'
    Tests-single at taken a b (at_once (each_refused how xs body is (ends inner r o t come w p))) (each how' xs' body' inner' r' envs' is' t' come' w' p') =
        let kk : how' ≡ how = cc in
        let xx : xs' ≡ xs = cc in
        let bb : body' ≡ body = cc in
        let rr : r ≡ r' = all_single at.0 (count_of how) r r' come (subst (λ z. ComeTo il at.0 (count_of z) r') kk come') in
        let ww : way how xs at.0 r ≡ way how' xs' at.0 r' = cc in
        let bad : Ends o ≡ Goes envs' = same_way w w' ww in cc
    Tests-single at taken a b (each how xs body inner r envs is t come w p) (at_once (otherwise is' p')) = cc
    Tests-single at taken a b (each how xs body inner r envs is t come w p) (at_once (condition e' is' p')) = cc
    Tests-single at taken a b (each how xs body inner r envs is t come w p) (at_once (goal rel' es' child' is' t' (on_line line' r' l' come' p'))) = cc
    Tests-single at taken a b (each how xs body inner r envs is t come w p) (at_once (goal rel' es' child' is' t' (of_many n' p'))) = cc
    Tests-single at taken a b (each how xs body inner r envs is t come w p) (at_once (each_refused how' xs' body' is' (of_one child' t' n' p'))) = absurd (one_or_many child' inner taken t' n' t)
    Tests-single at taken a b (each how xs body inner r envs is t come w p) (at_once (each_refused how' xs' body' is' (ends inner' r' o' t' come' w' p'))) =
        let kk : how' ≡ how = cc in
        let xx : xs' ≡ xs = cc in
        let bb : body' ≡ body = cc in
        let rr : r ≡ r' = all_single at.0 (count_of how) r r' come (subst (λ z. ComeTo il at.0 (count_of z) r') kk come') in
        let ww : way how xs at.0 r ≡ way how' xs' at.0 r' = cc in
        let bad : Goes envs ≡ Ends o' = same_way w w' ww in cc
    Tests-single at taken a b (each how xs body inner r envs is t come w p) (each how' xs' body' inner' r' envs' is' t' come' w' p') =
        let kk : how' ≡ how = cc in
        let xx : xs' ≡ xs = cc in
        let bb : body' ≡ body = cc in
        let rr : r ≡ r' = all_single at.0 (count_of how) r r' come (subst (λ z. ComeTo il at.0 (count_of z) r') kk come') in
        let ww : way how xs at.0 r ≡ way how' xs' at.0 r' = cc in
        let goes : Goes envs ≡ Goes envs' = same_way w w' ww in
        let ee : envs' ≡ envs = cc in
        let ii : inner' ≡ inner = sym (taken-single inner inner' taken t t') in
        let same : each_instance envs' body' ≡ each_instance envs body = cc in
        Walks-single (each_instance envs body) inner a b p
        (subst (λ z. Walks il notes (each_instance envs body) z b) ii (subst (λ z. Walks il notes z inner' b) same p'))

    Walks-single : (ps : List Instance) (cs : List Ref) (a b : Answer) → Walks il notes ps cs a → Walks il notes ps cs b → a ≡ b
    Walks-single ps cs a b (done p) (done q) = p ∙ sym q
    Walks-single ps cs a b (left_over p) (left_over q) = p ∙ sym q
    Walks-single ps cs a b (missing c p) (missing d q) = p ∙ sym q
    Walks-single ps cs a b (missing {at = at} c p) (goes taken others t x rest) = absurd (none_missing at.1 taken others c t)
    Walks-single ps cs a b (missing {at = at} c p) (stops taken others rule t x q) = absurd (none_missing at.1 taken others c t)
    Walks-single ps cs a b (goes {at = at} taken others t x rest) (missing d q) = absurd (none_missing at.1 taken others d t)
    Walks-single ps cs a b (stops {at = at} taken others rule t x p) (missing d q) = absurd (none_missing at.1 taken others d t)
    Walks-single ps cs a b (goes {at = at} {rest = ps'} taken others t x rest) (goes taken' others' u y more) =
        let one = taken_one at.1 cs taken taken' others others' t u in
        Walks-single ps' others a b rest (subst (λ z. Walks il notes ps' z b) (sym one.1) more)
    Walks-single ps cs a b (goes {at = at} taken others t x rest) (stops taken' others' rule u y q) =
        let one = taken_one at.1 cs taken taken' others others' t u in
        absurd (none_some rule (Tests-single at taken None (Some rule) x (subst (λ z. Tests il notes at z (Some rule)) (sym one.0) y)))
    Walks-single ps cs a b (stops {at = at} taken others rule t x p) (goes taken' others' u y more) =
        let one = taken_one at.1 cs taken taken' others others' t u in
        absurd (none_some rule (sym (Tests-single at taken (Some rule) None x (subst (λ z. Tests il notes at z None) (sym one.0) y))))
    Walks-single ps cs a b (stops {at = at} taken others rule t x p) (stops taken' others' other u y q) =
        let one = taken_one at.1 cs taken taken' others others' t u in
        p ∙ Tests-single at taken (Some rule) (Some other) x (subst (λ z. Tests il notes at z (Some other)) (sym one.0) y) ∙ sym q

  tries-single : (inputs : List Value) (rule : RuleDef) (order : List ℕ) → Single (tries il inputs rule order)
  tries-single inputs rule order =
      and_then-single _ _ (asks-single _ _) (and_then-single _ _ (forbids-single _ _) (forbids-single _ _))

  try_each-single : (inputs : List Value) (rs : List RuleDef) (orders : List (List ℕ)) → Single (try_each il inputs rs orders)
  try_each-single inputs [] [] = accepts-single
  try_each-single inputs [] (o ∷ os) = refuses-single _
  try_each-single inputs (r ∷ rs) [] = refuses-single _
  try_each-single inputs (r ∷ rs) (o ∷ os) = and_then-single _ _ (tries-single inputs r o) (try_each-single inputs rs os)

  try_all-single : (inputs : List Value) (rs : List RuleDef) (orders : Option (List (List ℕ))) → Single (try_all il inputs rs orders)
  try_all-single inputs rs None = accepts-single
  try_all-single inputs rs (Some orders) = try_each-single inputs rs orders

  excludes-single : (node : NodeLine) (number : ℕ) (rule : RuleDef) → Single (excludes il node number rule)
  excludes-single node number rule = and_then-single _ _ (asks-single _ _) (try_all-single _ _ node.evidence)

  tests_node-single : (node : NodeLine) (found : Option Found) → Single (tests_node il notes node found)
  tests_node-single node None = refuses-single _
  tests_node-single node (Some (number, rule)) =
      and_then-single _ _ (asks-single _ _) (and_then-single _ _ (asks-single _ _) (and_then-single _ _ (asks-single _ _)
      (and_then-single _ _ (evaluate_each-single _ _ _) (and_then-single _ _ (Walks-single _ _) (excludes-single node number rule)))))

  tests-single : (line : Line) → Single (tests il notes line)
  tests-single (Head format relation) = asks-single _ _
  tests-single (From values) = asks-single _ _
  tests-single (Node node) = tests_node-single node (rule_named il node)
  tests-single (Step line) = and_then-single _ _ (asks-single _ _) (asks-single _ _)
  tests-single (End ending) = accepts-single

  pub Verdict-single : (line : Line) → Single (Verdict il notes line)
  Verdict-single line = and_then-single _ _ (asks-single _ _) (tests-single line)

pub law_of_verdicts : LawOfVerdicts
law_of_verdicts il one notes line a b p q = Verdict-single il notes (one checking_depth) line a b p q
