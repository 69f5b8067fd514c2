-- A text has one reading or one first breach, and not both.
use Rattle.std.proofs.Common.{◌≡◌, ℕ, ◌≤◌, ◌<◌, refl, sym, ap, ◌∙◌, subst, List, [], ◌∷◌, map, length, inl, inr, Option, Some, None, arith}
use Rattle.std.specs.Prelude.{Result, Ok, Err}
use Rattle.st_num.specs.declared.fault.Fault.{Fault}
use Rattle.st_num.specs.declared.fault.Fault.TheVariants as fault
use Rattle.st_num.specs.declared.span.Span.{Span}
use Rattle.st_num.specs.declared.rule.RuleId.{RuleId}
use Rattle.st_num.specs.declared.token.Token.{Token}
use Rattle.st_scan.specs.Tokens.{Tokens}
use Rattle.st_scan.specs.Faults.{FirstFault}
use Rattle.st_scan.proofs.Answers.{only_list, only_fault}
use Rattle.st_el.specs.declared.expression.Exp.{Exp}
use Rattle.st_parse_builder.specs.Heights.{highest, height}
use Rattle.st_parse_faults.specs.Place.{place_at}
use Rattle.st_parse.specs.ExpressionFaults as file
use Rattle.st_parse.specs.ExpressionSource.{ParseExps, FaultAt}
use Rattle.st_parse.proofs.ExpressionBroken.{one_broken, never_kept}
use Rattle.st_parse.proofs.ExpressionParsing.{one_meaning}
use Rattle.st_elab_table.specs.declared.decls.Decls.{Decls}
use Rattle.st_elab_table.specs.declared.decls.Scope.{Scope}
use Rattle.st_elab_table.specs.Questions.{Question, Made, Breach, Answer, Gives, Fails}
use Rattle.st_elab_table.specs.Elaboration.{Answered}
use Rattle.st_elab_table.proofs.Single.{Answered-single}
use Rattle.st_elab_rows.specs.Told.{Told}
use Rattle.st_elab_table.specs.Parts.{Asked, Breaks, AskedAs}
use Rattle.st_elab_exp.specs.Exactly.{IsGiven, IsRefused}
use Rattle.st_elab_exp.specs.Single.{HasOneOutcome}
use Rattle.st_term.specs.Reading.{variables_of, IsTextOf, TextBreach, no_token, no_file, too_high, IsReading, IsBreach, in_text, in_expressions}

-- ---- what is told of one outcome is told exactly

pub told_given : {A : Type 0} (P : A → Type 0) (F : Breach → Type 0) (r : Result A Fault) (x : A) → HasOneOutcome P F → Told P F r → P x → IsGiven x r
told_given P F (Ok y) x one h g = one.one y x h g
told_given P F (Err (fault.Refused at rule)) x one h g = absurd (one.not_both x (record { at = at; rule = rule }) g h)
told_given P F (Err fault.Memory) x one h g = tt

pub told_refused : {A : Type 0} (P : A → Type 0) (F : Breach → Type 0) (r : Result A Fault) (b : Breach) → HasOneOutcome P F → Told P F r → F b → IsRefused b r
told_refused P F (Ok y) b one h g = one.not_both y b h g
told_refused P F (Err (fault.Refused at rule)) b one h g = one.one_breach (record { at = at; rule = rule }) b h g
told_refused P F (Err fault.Memory) b one h g = tt

-- ---- questions one after another

made_is : (m n : Made) → Gives m ≡ Gives n → m ≡ n
made_is m n e = cc

breach_is : (b c : Breach) → Fails b ≡ Fails c → b ≡ c
breach_is b c e = cc

gives_no_breach : (m : Made) (b : Breach) → Gives m ≡ Fails b → ⊥
gives_no_breach m b e = cc

module _ (D : Decls) (S : Scope) where
  pub one_made : (q : Question) (m n : Made) → Answered D S q (Gives m) → Answered D S q (Gives n) → m ≡ n
  one_made q m n h k = made_is m n (Answered-single D S q (Gives m) (Gives n) h k)

  pub one_failure : (q : Question) (b c : Breach) → Answered D S q (Fails b) → Answered D S q (Fails c) → b ≡ c
  one_failure q b c h k = breach_is b c (Answered-single D S q (Fails b) (Fails c) h k)

  pub made_no_failure : (q : Question) (m : Made) (b : Breach) → Answered D S q (Gives m) → Answered D S q (Fails b) → ⊥
  made_no_failure q m b h k = gives_no_breach m b (Answered-single D S q (Gives m) (Fails b) h k)

  one_asked : (qs : List Question) (ms ns : List Made) → Asked D S qs ms → Asked D S qs ns → ms ≡ ns
  one_asked [] [] [] h k = refl
  one_asked [] [] (n ∷ ns) h k = absurd k
  one_asked [] (m ∷ ms) ns h k = absurd h
  one_asked (q ∷ qs) [] ns h k = absurd h
  one_asked (q ∷ qs) (m ∷ ms) [] h k = absurd k
  one_asked (q ∷ qs) (m ∷ ms) (n ∷ ns) (h, hs) (k, ks) =
      let e = one_made q m n h k in
      let f = one_asked qs ms ns hs ks in
      λ i. e i ∷ f i

  one_breaks : (qs : List Question) (b c : Breach) → Breaks D S qs b → Breaks D S qs c → b ≡ c
  one_breaks [] b c h k = absurd h
  one_breaks (q ∷ qs) b c (inl h) (inl k) = one_failure q b c h k
  one_breaks (q ∷ qs) b c (inl h) (inr (m, k, ks)) = absurd (made_no_failure q m b k h)
  one_breaks (q ∷ qs) b c (inr (m, h, hs)) (inl k) = absurd (made_no_failure q m c h k)
  one_breaks (q ∷ qs) b c (inr (m, h, hs)) (inr (n, k, ks)) = one_breaks qs b c hs ks

  asked_no_breach : (qs : List Question) (ms : List Made) (b : Breach) → Asked D S qs ms → Breaks D S qs b → ⊥
  asked_no_breach [] ms b h k = k
  asked_no_breach (q ∷ qs) [] b h k = h
  asked_no_breach (q ∷ qs) (m ∷ ms) b (h, hs) (inl k) = made_no_failure q m b h k
  asked_no_breach (q ∷ qs) (m ∷ ms) b (h, hs) (inr (n, k, ks)) = asked_no_breach qs ms b hs ks

  pub asked_one : {A : Type 0} (qs : List Question) (part : Made → A) → HasOneOutcome (AskedAs D S qs A part) (Breaks D S qs)
  asked_one {A} qs part = record {
    one = λ xs ys h k. sym h.parts ∙ ap (map part) (one_asked qs h.mades k.mades h.asked k.asked) ∙ k.parts;
    one_breach = one_breaks qs;
    not_both = λ xs b h k. asked_no_breach qs h.mades b h.asked k;
  }

-- ---- texts

abbrev breach_of : Span → RuleId → Breach
breach_of at rule = record { at = at; rule = rule }

pub same_breach : (b c : Breach) → b.at ≡ c.at → b.rule ≡ c.rule → b ≡ c
same_breach b c p q = ap (λ z. breach_of z b.rule) p ∙ ap (λ z. breach_of c.at z) q

too_low : (top a b : ℕ) → top < a → b ≤ top → a ≡ b → ⊥
too_low top a b h k e = omega arith

module _ (D : Decls) (bytes : List ℕ) where
  abbrev names : List (List ℕ)
  names = variables_of D

  one_list : (a b : List Token) → Tokens 0 bytes a → Tokens 0 bytes b → a ≡ b
  one_list a b h k = (only_list 0 bytes b k).only a h

  no_tokens : (at : Span) (rule : RuleId) (tokens : List Token) → FirstFault 0 bytes at rule → Tokens 0 bytes tokens → ⊥
  no_tokens at rule tokens h k = (only_list 0 bytes tokens k).faultless at rule h

  pub one_text : (a b : List Exp) → IsTextOf D bytes a → IsTextOf D bytes b → a ≡ b
  one_text a b h k =
      one_meaning names h.tokens a b h.parsed.1 (subst (λ z. ParseExps names z b) (one_list k.tokens h.tokens k.scanned h.scanned) k.parsed.1)

  text_no_breach : (exps : List Exp) (b : Breach) → IsTextOf D bytes exps → TextBreach D bytes b → ⊥
  text_no_breach exps b h (no_token f) = no_tokens b.at b.rule h.tokens f h.scanned
  text_no_breach exps b h (no_file tokens k f) =
      let same = one_list tokens h.tokens k h.scanned in
      never_kept names h.tokens f.0 b.rule (subst (λ z. file.FirstFault names z f.0 b.rule) same f.1) h.parsed.0
  text_no_breach exps b h (too_high tokens k f) =
      let same = one_list tokens h.tokens k h.scanned in
      let is : f.0 ≡ exps = one_meaning names h.tokens f.0 exps (subst (λ z. ParseExps names z f.0) same f.1.1) h.parsed.1 in
      too_low _ _ _ f.2 h.low (ap (λ es. highest (map height es)) is)

  -- two faults of tokens in one list
  one_fault_at : (tokens others : List Token) (b c : Breach) → others ≡ tokens → FaultAt names tokens b.at b.rule → FaultAt names others c.at c.rule → b ≡ c
  one_fault_at tokens others b c same f g =
      let h = subst (λ z. FaultAt names z c.at c.rule) same g in
      let e = one_broken names tokens f.0 h.0 b.rule c.rule f.1 h.1 in
      let p : f.0 ≡ h.0 = e.0 in
      let at : b.at ≡ c.at = f.2 ∙ (ap (λ k. place_at tokens k) p ∙ sym h.2) in
      same_breach b c at e.1

  one_text_breach : (b c : Breach) → TextBreach D bytes b → TextBreach D bytes c → b ≡ c
  one_text_breach b c (no_token f) (no_token g) = let e = (only_fault 0 bytes c.at c.rule g).only b.at b.rule f in same_breach b c e.0 e.1
  one_text_breach b c (no_token f) (no_file tokens k g) = absurd (no_tokens b.at b.rule tokens f k)
  one_text_breach b c (no_token f) (too_high tokens k g) = absurd (no_tokens b.at b.rule tokens f k)
  one_text_breach b c (no_file tokens k f) (no_token g) = absurd (no_tokens c.at c.rule tokens g k)
  one_text_breach b c (no_file tokens k f) (no_file others l g) = one_fault_at tokens others b c (one_list others tokens l k) f g
  one_text_breach b c (no_file tokens k f) (too_high others l g) =
      absurd (never_kept names tokens f.0 b.rule f.1 (subst (λ z. file.Faultless names z) (one_list others tokens l k) g.1.0))
  one_text_breach b c (too_high tokens k f) (no_token g) = absurd (no_tokens c.at c.rule tokens g k)
  one_text_breach b c (too_high tokens k f) (no_file others l g) =
      absurd (never_kept names others g.0 c.rule g.1 (subst (λ z. file.Faultless names z) (one_list tokens others k l) f.1.0))
  one_text_breach b c (too_high tokens k f) (too_high others l g) =
      let same = one_list tokens others k l in
      same_breach b c (f.4 ∙ (ap (λ z. place_at z 0) same ∙ sym g.4)) (f.3 ∙ sym g.3)

  -- ---- texts, and what their expressions are read as

  module _ {A : Type 0} (Reads : List Exp → A → Type 0) (Refuses : List Exp → Breach → Type 0) (one : (exps : List Exp) → HasOneOutcome (Reads exps) (Refuses exps)) where
    one_reading : (x y : A) → IsReading D bytes A Reads x → IsReading D bytes A Reads y → x ≡ y
    one_reading x y h k = (one h.exps).one x y h.reads (subst (λ z. Reads z y) (one_text k.exps h.exps k.text h.text) k.reads)

    one_breach : (b c : Breach) → IsBreach D bytes Refuses b → IsBreach D bytes Refuses c → b ≡ c
    one_breach b c (in_text f) (in_text g) = one_text_breach b c f g
    one_breach b c (in_text f) (in_expressions exps t g) = absurd (text_no_breach exps b t f)
    one_breach b c (in_expressions exps t f) (in_text g) = absurd (text_no_breach exps c t g)
    one_breach b c (in_expressions exps t f) (in_expressions others u g) =
        (one exps).one_breach b c f (subst (λ z. Refuses z c) (one_text others exps u t) g)

    not_both : (x : A) (b : Breach) → IsReading D bytes A Reads x → IsBreach D bytes Refuses b → ⊥
    not_both x b h (in_text f) = text_no_breach h.exps b h.text f
    not_both x b h (in_expressions exps t f) = (one exps).not_both x b (subst (λ z. Reads z x) (one_text h.exps exps h.text t) h.reads) f

    pub reading_one : HasOneOutcome (IsReading D bytes A Reads) (IsBreach D bytes Refuses)
    reading_one = record { one = one_reading; one_breach = one_breach; not_both = not_both }
