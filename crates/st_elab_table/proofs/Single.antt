-- A question has one answer at most.
use Rattle.std.proofs.Common.{◌≡◌, refl, subst}
use Rattle.st_type_table.proofs.MeansLemmas.{Means-single}
use Rattle.st_elab_table.specs.declared.decls.Decls.{Decls}
use Rattle.st_elab_table.specs.declared.decls.Scope.{Scope}
use Rattle.st_elab_table.specs.Questions.{Question, Answer, Gives, Fails, Step, Ends, Asks, Tests, Opens, Fills}
use Rattle.st_elab_table.specs.Elaboration.{row, Answered, by_row, Leads, ends, goes_on, stops, passes, misses, opens, fills, fits_none}
use Rattle.st_elab_table.proofs.ChoiceLemmas.{CaseOf-single}

mutual
  -- a question has one answer at most
  pub Answered-single : (D : Decls) (S : Scope) (q : Question) (a b : Answer) → Answered D S q a → Answered D S q b → a ≡ b
  Answered-single D S q a b (by_row h) (by_row k) = Leads-single D S (row D S q) a b h k

  pub Leads-single : (D : Decls) (S : Scope) (s : Step) (a b : Answer) → Leads D S s a → Leads D S s b → a ≡ b
  Leads-single D S (Ends x) a b ends ends = refl
  Leads-single D S (Asks q next) a b (goes_on m h t) (goes_on n k u) =
      let e : Gives m ≡ Gives n = Answered-single D S q (Gives m) (Gives n) h k in
      let f : n ≡ m = cc in
      Leads-single D S (next m) a b t (subst (λ z. Leads D S (next z) b) f u)
  Leads-single D S (Asks q next) a b (goes_on m h t) (stops c k) =
      let e : Gives m ≡ Fails c = Answered-single D S q (Gives m) (Fails c) h k in cc
  Leads-single D S (Asks q next) a b (stops c k) (goes_on m h t) =
      let e : Fails c ≡ Gives m = Answered-single D S q (Fails c) (Gives m) k h in cc
  Leads-single D S (Asks q next) a b (stops c k) (stops d l) = Answered-single D S q (Fails c) (Fails d) k l
  Leads-single D S (Tests c first second) a b (passes p h) (passes q k) = Leads-single D S first a b h k
  Leads-single D S (Tests c first second) a b (passes p h) (misses q k) = absurd (q p)
  Leads-single D S (Tests c first second) a b (misses p h) (passes q k) = absurd (p q)
  Leads-single D S (Tests c first second) a b (misses p h) (misses q k) = Leads-single D S second a b h k
  Leads-single D S (Opens t next) a b (opens u m h) (opens v n k) =
      Leads-single D S (next u) a b h (subst (λ z. Leads D S (next z) b) (Means-single D.types t v u n m) k)
  Leads-single D S (Fills t e next unfit) a b (fills c p h) (fills d q k) =
      Leads-single D S (next c) a b h (subst (λ z. Leads D S (next z) b) (CaseOf-single D.types t e d c q p) k)
  Leads-single D S (Fills t e next unfit) a b (fills c p h) (fits_none q k) = absurd (q c p)
  Leads-single D S (Fills t e next unfit) a b (fits_none p h) (fills d q k) = absurd (p d q)
  Leads-single D S (Fills t e next unfit) a b (fits_none p h) (fits_none q k) = Leads-single D S unfit a b h k
