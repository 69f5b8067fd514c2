-- What has one outcome at most, put together.
use Rattle.std.proofs.Common.{◌≡◌, refl, sym, ap, ◌∙◌, subst, List, [], ◌∷◌, map, inl, inr}
use Rattle.std.specs.Prelude.{Result, Ok, Err, ◌⊎◌}
use Rattle.st_el.specs.declared.expression.Exp.{Exp}
use Rattle.st_il.specs.declared.ty.Ty.{Ty}
use Rattle.st_elab_table.specs.declared.decls.Decls.{Decls}
use Rattle.st_elab_table.specs.declared.decls.Scope.{Scope}
use Rattle.st_num.specs.declared.fault.Fault.{Fault as ExpFault}
use Rattle.st_num.specs.declared.fault.Fault.TheVariants as fault
use Rattle.st_dims.specs.declared.within.Within.{Within}
use Rattle.st_elab_table.specs.Questions.{Question, Made, Breach, Gives, Fails}
use Rattle.st_elab_table.specs.Steps.{made, asked, exp_of}
use Rattle.st_elab_table.specs.Elaboration.{Answered}
use Rattle.st_elab_table.proofs.Single.{Answered-single}
use Rattle.st_elab_rows.specs.Told.{Told}
use Rattle.st_elab_table.specs.Parts.{Asked, Breaks, AskedAs}
use Rattle.st_elab_exp.specs.Exactly.{IsGiven, IsRefused}
use Rattle.st_elab_table.specs.Inside.{ElabInside, InsideBreach}
use Rattle.st_elab_exp.specs.Single.{HasOneOutcome}

-- ---- what is told of one outcome is told exactly

pub told_given : {A : Type 0} (P : A → Type 0) (F : Breach → Type 0) (r : Result A ExpFault) (x : A) → HasOneOutcome P F → Told P F r → P x → IsGiven x r
told_given P F (Ok y) x one h g = one.one y x h g
told_given P F (Err (fault.Refused at rule)) x one h g = absurd (one.not_both x (record { at = at; rule = rule }) g h)
told_given P F (Err fault.Memory) x one h g = tt

pub told_refused : {A : Type 0} (P : A → Type 0) (F : Breach → Type 0) (r : Result A ExpFault) (b : Breach) → HasOneOutcome P F → Told P F r → F b → IsRefused b r
told_refused P F (Ok y) b one h g = one.not_both y b h g
told_refused P F (Err (fault.Refused at rule)) b one h g = one.one_breach (record { at = at; rule = rule }) b h g
told_refused P F (Err fault.Memory) b one h g = tt

-- what is told by other words
pub told_by : {A : Type 0} (P Q : A → Type 0) (F G : Breach → Type 0) (r : Result A ExpFault) → ((x : A) → P x → Q x) → ((b : Breach) → F b → G b) → Told P F r → Told Q G r
told_by P Q F G (Ok x) f g h = f x h
told_by P Q F G (Err (fault.Refused at rule)) f g h = g (record { at = at; rule = rule }) h
told_by P Q F G (Err fault.Memory) f g h = tt

-- ---- one outcome after another

abbrev pub Then : {A B : Type 0} → (A → Type 0) → (A → B → Type 0) → B → Type 0
Then {A} P Q y = (x : A) × P x × Q x y

abbrev pub Or : {A : Type 0} → (Breach → Type 0) → (A → Type 0) → (A → Breach → Type 0) → Breach → Type 0
Or {A} F P G b = F b ⊎ ((x : A) × P x × G x b)

pub then_one : {A B : Type 0} (P : A → Type 0) (F : Breach → Type 0) (Q : A → B → Type 0) (G : A → Breach → Type 0)
    → HasOneOutcome P F → ((x : A) → P x → HasOneOutcome (Q x) (G x)) → HasOneOutcome (Then P Q) (Or F P G)
then_one {A} {B} P F Q G first next = record { one = one; one_breach = one_breach; not_both = not_both }
  where
    one : (x y : B) → Then P Q x → Then P Q y → x ≡ y
    one x y (a, h, q) (c, k, r) = (next a h).one x y q (subst (λ z. Q z y) (first.one c a k h) r)

    one_breach : (b c : Breach) → Or F P G b → Or F P G c → b ≡ c
    one_breach b c (inl h) (inl k) = first.one_breach b c h k
    one_breach b c (inl h) (inr (x, k, g)) = absurd (first.not_both x b k h)
    one_breach b c (inr (x, h, g)) (inl k) = absurd (first.not_both x c h k)
    one_breach b c (inr (x, h, g)) (inr (y, k, i)) = (next x h).one_breach b c g (subst (λ z. G z c) (first.one y x k h) i)

    not_both : (x : B) (b : Breach) → Then P Q x → Or F P G b → ⊥
    not_both x b (a, h, q) (inl k) = first.not_both a b h k
    not_both x b (a, h, q) (inr (c, k, g)) = (next a h).not_both x b q (subst (λ z. G z b) (first.one c a k h) g)

-- what is said in other words
pub one_by : {A : Type 0} (P Q : A → Type 0) (F G : Breach → Type 0) → ((x : A) → P x → Q x) → ((b : Breach) → F b → G b) → HasOneOutcome Q G → HasOneOutcome P F
one_by P Q F G f g h = record {
  one = λ x y p q. h.one x y (f x p) (f y q);
  one_breach = λ b c p q. h.one_breach b c (g b p) (g c q);
  not_both = λ x b p q. h.not_both x b (f x p) (g b q);
}

-- this alone, and no breach
pub this_one : {A : Type 0} (x : A) → HasOneOutcome (λ (y : A). y ≡ x) (λ (b : Breach). ⊥)
this_one x = record { one = λ y z e f. e ∙ sym f; one_breach = λ b c h k. absurd h; not_both = λ y b e h. h }

-- this breach alone
pub this_breach : {A : Type 0} (b : Breach) → HasOneOutcome (λ (y : A). ⊥) (λ (c : Breach). c ≡ b)
this_breach b = record { one = λ y z e f. absurd e; one_breach = λ c d h k. h ∙ sym k; not_both = λ y c e h. e }

-- ---- questions

made_is : (m n : Made) → Gives m ≡ Gives n → m ≡ n
made_is m n e = cc

breach_is : (b c : Breach) → Fails b ≡ Fails c → b ≡ c
breach_is b c e = cc

gives_no_breach : (m : Made) (b : Breach) → Gives m ≡ Fails b → ⊥
gives_no_breach m b e = cc

module _ (D : Decls) (S : Scope) where
  pub question_one : (q : Question) → HasOneOutcome (λ m. Answered D S q (Gives m)) (λ b. Answered D S q (Fails b))
  question_one q = record {
    one = λ m n h k. made_is m n (Answered-single D S q (Gives m) (Gives n) h k);
    one_breach = λ b c h k. breach_is b c (Answered-single D S q (Fails b) (Fails c) h k);
    not_both = λ m b h k. gives_no_breach m b (Answered-single D S q (Gives m) (Fails b) h k);
  }

  pub inside_one : (w : Within) (e : Exp) (t : Ty) → HasOneOutcome (ElabInside D S w e t) (InsideBreach D S w e t)
  inside_one w e t =
      let one = question_one (asked w e t) in
      record {
        one = λ x y h k. ap exp_of (one.one (made x t) (made y t) h k);
        one_breach = one.one_breach;
        not_both = λ x b h k. one.not_both (made x t) b h k;
      }

  one_asked : (qs : List Question) (ms ns : List Made) → Asked D S qs ms → Asked D S qs ns → ms ≡ ns
  one_asked [] [] [] h k = refl
  one_asked [] [] (n ∷ ns) h k = absurd k
  one_asked [] (m ∷ ms) ns h k = absurd h
  one_asked (q ∷ qs) [] ns h k = absurd h
  one_asked (q ∷ qs) (m ∷ ms) [] h k = absurd k
  one_asked (q ∷ qs) (m ∷ ms) (n ∷ ns) (h, hs) (k, ks) =
      let e = (question_one q).one m n h k in
      let f = one_asked qs ms ns hs ks in
      λ i. e i ∷ f i

  one_breaks : (qs : List Question) (b c : Breach) → Breaks D S qs b → Breaks D S qs c → b ≡ c
  one_breaks [] b c h k = absurd h
  one_breaks (q ∷ qs) b c (inl h) (inl k) = (question_one q).one_breach b c h k
  one_breaks (q ∷ qs) b c (inl h) (inr (m, k, ks)) = absurd ((question_one q).not_both m b k h)
  one_breaks (q ∷ qs) b c (inr (m, h, hs)) (inl k) = absurd ((question_one q).not_both m c h k)
  one_breaks (q ∷ qs) b c (inr (m, h, hs)) (inr (n, k, ks)) = one_breaks qs b c hs ks

  asked_no_breach : (qs : List Question) (ms : List Made) (b : Breach) → Asked D S qs ms → Breaks D S qs b → ⊥
  asked_no_breach [] ms b h k = k
  asked_no_breach (q ∷ qs) [] b h k = h
  asked_no_breach (q ∷ qs) (m ∷ ms) b (h, hs) (inl k) = (question_one q).not_both m b h k
  asked_no_breach (q ∷ qs) (m ∷ ms) b (h, hs) (inr (n, k, ks)) = asked_no_breach qs ms b hs ks

  pub asked_one : {A : Type 0} (qs : List Question) (part : Made → A) → HasOneOutcome (AskedAs D S qs A part) (Breaks D S qs)
  asked_one {A} qs part = record {
    one = λ xs ys h k. sym h.parts ∙ ap (map part) (one_asked qs h.mades k.mades h.asked k.asked) ∙ k.parts;
    one_breach = one_breaks qs;
    not_both = λ xs b h k. asked_no_breach qs h.mades b h.asked k;
  }
