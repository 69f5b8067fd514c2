-- Goals that are solved: by what all rules of a relation find, or by a chain.
use Rattle.std.proofs.Common.{arith, ◌≡◌, refl, sym, subst, ℕ, suc, ◌+◌, ◌<◌, List, [], ◌∷◌, None, Ok, Err, ◌⊎◌, inl, inr, All, Result, IfErr}
use Rattle.std.specs.List.{AllByRecursion}
use Rattle.std.specs.Result.{IsErrAnd}
use Rattle.std.proofs.lemmas.Result.{err_from_is_err_and}
use Rattle.std.proofs.lemmas.List.Elements.{All-cons, All-nil}
use Rattle.st_il.specs.declared.definition.Il.{Il}
use Rattle.st_semantics.specs.Goals.{Goal, IsGoal}
use Rattle.st_search.specs.declared.answer.Chain.{Chain}
use Rattle.st_search.specs.declared.answer.Output.{Output}
use Rattle.st_search.specs.declared.answer.Outputs.{Outputs}
use Rattle.st_search.specs.declared.answer.SearchFault.{SearchFault}
use Rattle.st_search.specs.declared.answer.SearchFault.TheVariants as fault
use Rattle.st_search.specs.declared.found.Found.{Found}
use Rattle.st_search.specs.Answers.{told, AreSorted, AreOutputs, IsOutput, IsAnswer}
use Rattle.st_search.specs.inner.Chains.{IsCalm, IsChainBy, EndsBehind, fault_before}
use Rattle.st_search.specs.inner.Rules.{CanBeSearched, goal_seeks}
use Rattle.st_search.specs.inner.Search.{IsSolved, Solvings}
use Rattle.st_search.specs.inner.Contracts.{IsShort}
use Rattle.st_search.specs.inner.Sought.{Finds}
use Rattle.st_search.proofs.ChainLaws.{IsCalm-next, calm_shallow, chain_is}
use Rattle.st_search.proofs.AddedFinds.{has_values}

-- the greater of two lengths is short where both are
pub short_greater : (il : Il) (n : ℕ) (A : Solvings) (a b c : ℕ) → (c ≡ a) ⊎ (c ≡ b) → IsShort il n A a → IsShort il n A b → IsShort il n A c
short_greater il n A a b c (inl e) f g left some answers = subst (λ z. z < left) (sym e) (f left some answers)
short_greater il n A a b c (inr e) f g left some answers = subst (λ z. z < left) (sym e) (g left some answers)

-- what a call ends by is what the caller ends by
pub told_again : {T E : Type 0} (P : E → Type 0) (r : Result T E) (f : E) → IsErrAnd r (λ (y : E). y ≡ f) → P f → IfErr r P
told_again P r f h p = let w = err_from_is_err_and r h in subst (λ z. IfErr z P) (sym w.1) (subst P (sym w.2) p)

pub short_none : (il : Il) (n : ℕ) (A : Solvings) → IsShort il n A 0
short_none il n A left some answers = some

module _ (il : Il) (n : ℕ) (g : Goal) where
  -- where one goal is left, it is a chain
  pub one_left : (left : ℕ) (chain : Chain) → left ≡ 1 → chain ≡ record { goals = told g ∷ []; at = None } → IsSolved il n left g (Err (fault.Deep chain))
  one_left left chain one is can typed = subst (IsChainBy il n left g) (sym is) (record {
    more = [];
    at = None;
    typed = All-cons (IsGoal il) g [] typed (All-nil (IsGoal il));
    linked = tt;
    cut = sym one;
    goals_are = refl;
    at_is = tt;
  })

  module _ (left less : ℕ) (is : left ≡ suc less) where
    -- what all rules find
    pub solved_found : (longest longer : ℕ) (found : Found Output) → longest < less → longer ≡ longest + 1 → found.longest ≡ longer → (CanBeSearched il g.relation → Finds il n longest (goal_seeks il n g) found.items) → IsSolved il n left g (Ok found)
    solved_found longest longer found short is_longer same finds = (
      omega (arith, is, short, is_longer, same),
      λ can.
          let f = finds can in
          let next : suc longest ≡ found.longest = omega (arith, is_longer, same) in record {
            sound = f.sound;
            complete = f.complete;
            calm = subst (λ z. IsCalm il n z g) next (IsCalm-next il n longest g f.calm (λ number premise meets. f.shallow (number, premise, meets)));
          },
    )

    -- what is told behind the goal
    pub solved_fault : (f told_of : SearchFault) → told_of ≡ fault_before g f → (CanBeSearched il g.relation → EndsBehind il n less g f) → IsSolved il n left g (Err told_of)
    solved_fault (fault.Deep chain) told_of e ends =
        subst (λ z. IsSolved il n left g (Err z)) (sym e) (λ can typed. subst (λ z. IsChainBy il n z g (record chain { goals = told g ∷ chain.goals })) (sym is) (ends can typed))
    solved_fault fault.Memory told_of e ends = subst (λ z. IsSolved il n left g (Err z)) (sym e) tt

-- what is solved is an answer
pub answer_found : (il : Il) (n : ℕ) (g : Goal) (found : Found Output) (outputs : Outputs) → CanBeSearched il g.relation → IsSolved il n n g (Ok found) → AreSorted found.items → outputs.found ≡ found.items → IsAnswer il n g (Ok outputs)
answer_found il n g found outputs can solved sorted is =
    let s = solved.1 can in (
      subst (AreOutputs il n g) (sym is) (record {
        sound = all_of (IsOutput il n g) found.items s.sound;
        complete = λ vs d. has_values found.items vs (s.complete vs d);
        sorted = sorted;
      }),
      calm_shallow il n found.longest g s.calm solved.0,
    )
  where
    all_of : (P : Output → Type 0) (xs : List Output) → AllByRecursion P xs → All P xs
    all_of P [] h = All-nil P
    all_of P (x ∷ xs) h = All-cons P x xs h.0 (all_of P xs h.1)

pub answer_fault : (il : Il) (n : ℕ) (g : Goal) (f : SearchFault) → CanBeSearched il g.relation → IsGoal il g → IsSolved il n n g (Err f) → IsAnswer il n g (Err f)
answer_fault il n g (fault.Deep chain) can typed solved = chain_is il n g chain (solved can typed)
answer_fault il n g fault.Memory can typed solved = tt
