-- What a derivation gives of its files.
use Rattle.std.proofs.Common.{◌≡◌, ℕ, List, inl, inr, sym, subst, refl, Bool, true, false, nat_eq, not, ◌∙◌}
use Rattle.std.specs.Prelude.{Result, Ok, Err, IfOk, Option, None, Some, IfSome, MatchOption}
use Rattle.std.specs.Cmp.Lexicographic.{pointwise, same_text}
use denote.Ref.{Bor}
use Rattle.st_num.specs.declared.memory.NoMemory.{NoMemory}
use Rattle.st_answers.specs.declared.answer.Answer.{Answer}
use Rattle.st_il.specs.declared.small.Small.{Small}
use Rattle.st_commands.specs.Derived.{DeriveGives, IsDerivationText, IsRunnable, IsStart, IsTerm}
use Rattle.st_answers.specs.Unbuilt.{IsUnbuilt}
use Rattle.st_small.specs.SmallText.{IsTextOf}
use Rattle.st_commands.specs.inner.Starts.{HasNoTerm, HasNoStart}

abbrev NoRun : List ℕ → List ℕ → List ℕ → Type 0
NoRun relation term file = (small : Small) (atom : List ℕ) → IsRunnable relation term file small atom → ⊥

abbrev pub SaysUnbuilt : Result Answer NoMemory → Type 0
SaysUnbuilt result = IfOk result (λ answer. IsUnbuilt answer.status answer.bytes.items)

-- the bytes are the text of this specification, and of no other
pub record IsSmallSource (small : Small) (file : List ℕ) : Type 0 where
  pub is_text : IsTextOf small file
  pub only : (other : Small) → IsTextOf other file → small ≡ other

-- what was read is the source
pub source_read : (read : Option Small) (small : Small) (file : List ℕ) → read ≡ Some small → IfSome read (λ s. IsTextOf s file)
    → ((s : Small) → IsTextOf s file → read ≡ Some s) → IsSmallSource small file
source_read read small file is some only = record {
  is_text = subst (λ r. IfSome r (λ s. IsTextOf s file)) is some;
  only = λ other text. let other_is = only other text in cc (is, other_is);
}

unbuilt_runs : (relation term file : List ℕ) (result : Result Answer NoMemory) → NoRun relation term file → SaysUnbuilt result
    → IfOk result (λ answer. DeriveGives relation term file answer.status answer.bytes.items)
unbuilt_runs relation term file (Ok a) none is = inr (none, is)
unbuilt_runs relation term file (Err e) none is = tt

-- there is no term to begin at
pub no_start : (relation term file : List ℕ) (small : Small) (result : Result Answer NoMemory) → IsSmallSource small file → HasNoStart small relation term → SaysUnbuilt result
    → IfOk result (λ answer. DeriveGives relation term file answer.status answer.bytes.items)
no_start relation term file small result is none = unbuilt_runs relation term file result
    (λ other atom runnable. none atom (subst (λ s. IsStart s relation term atom) (sym (is.only other runnable.source)) runnable.start))

-- it runs
pub runs_here : (relation term file atom : List ℕ) (small : Small) (result : Result Answer NoMemory) → IsSmallSource small file → IsStart small relation term atom
    → IfOk result (λ answer. IsDerivationText small atom answer.status answer.bytes.items)
    → IfOk result (λ answer. DeriveGives relation term file answer.status answer.bytes.items)
runs_here relation term file atom small (Ok a) is start run = inl (small, atom, record { source = is.is_text; start = start }, run)
runs_here relation term file atom small (Err e) is start run = tt

-- the term of a run
pub start_found : (small : Small) (relation term : List ℕ) (found : Option (Bor (List ℕ))) → small.relation ≡ relation
    → MatchOption found (HasNoTerm small term) (λ atom. IsTerm small term atom.now)
    → MatchOption found (HasNoStart small relation term) (λ atom. IsStart small relation term atom.now)
start_found small relation term None named none = λ atom start. none atom start.term
start_found small relation term (Some atom) named is = record { relation_is = named; term = is }

-- names that `!=` does not tell apart are the same
pub not_differ : (one other : List ℕ) (b : Bool) → b ≡ not (pointwise nat_eq one other) → b ≡ false → one ≡ other
not_differ one other b e same = same_text one other (sym (turned (pointwise nat_eq one other) (sym e ∙ same)))
  where
    turned : (x : Bool) → not x ≡ false → x ≡ true
    turned true is = refl
    turned false is = cc
