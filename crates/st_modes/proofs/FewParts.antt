-- Whether the rules among some definitions have few premises, definition by definition.
use Rattle.std.proofs.Common.{◌≡◌, sym, ◌∙◌, subst, ℕ, ◌+◌, ◌<◌, ◌≤◌, ◌^◌, Bool, true, false, true≢false, List, ◌∷◌, length, get_or, drop, leb-true, le-leb, arith}
use Rattle.std.specs.Prelude.{◌↔◌, IsTrue, nat_le}
use Rattle.std.proofs.lemmas.Bool.{false≢true}
use Rattle.std.proofs.lemmas.List.Elements.{All-nil, All-cons, All-head, All-tail}
use Rattle.st_il.specs.declared.definition.IlDef.{IlDef}
use Rattle.st_il.specs.declared.definition.IlDef.TheVariants as def
use Rattle.st_il.specs.declared.definition.RuleDef.{RuleDef}
use Rattle.st_il.specs.Definitions.{rules_in}
use Rattle.st_modes.specs.inner.Few.{HasFewPremises, AllHaveFew}
use Rattle.st_semantics.proofs.HoleSums.{drop_there}
use Rattle.st_order.proofs.HoleParts.{drop_all}

-- a rule has few
abbrev IsFew : RuleDef → Type 0
IsFew r = length r.premises < 2 ^ 32

pub few_test : (n : ℕ) → IsTrue (nat_le n 4294967295) ↔ (n < 2 ^ 32)
few_test n = (λ h. let le = leb-true n 4294967295 h in omega (arith, le), λ h. le-leb n 4294967295 (omega (arith, h)))

pub few_rule : (d : IlDef) (r : RuleDef) (b : Bool) (n : ℕ) → d ≡ def.Rule r → n ≡ length r.premises → IsTrue b ↔ (n < 2 ^ 32) → IsTrue b ↔ HasFewPremises d
few_rule d r b n is len few = subst (λ z. IsTrue b ↔ HasFewPremises z) (sym is) (subst (λ z. IsTrue b ↔ (z < 2 ^ 32)) len few)

all_cons : (d : IlDef) (ds : List IlDef) → HasFewPremises d → AllHaveFew ds → AllHaveFew (d ∷ ds)
all_cons (def.Rule r) ds h all = All-cons IsFew r (rules_in ds) h all
all_cons (def.Syntax s) ds h all = all
all_cons (def.Var x t) ds h all = all
all_cons (def.Relation r) ds h all = all
all_cons (def.Fun f) ds h all = all
all_cons (def.Clause c) ds h all = all

all_tail : (d : IlDef) (ds : List IlDef) → AllHaveFew (d ∷ ds) → AllHaveFew ds
all_tail (def.Rule r) ds all = All-tail IsFew r (rules_in ds) all
all_tail (def.Syntax s) ds all = all
all_tail (def.Var x t) ds all = all
all_tail (def.Relation r) ds all = all
all_tail (def.Fun f) ds all = all
all_tail (def.Clause c) ds all = all

all_head : (d : IlDef) (ds : List IlDef) → AllHaveFew (d ∷ ds) → HasFewPremises d
all_head (def.Rule r) ds all = All-head IsFew r (rules_in ds) all
all_head (def.Syntax s) ds all = tt
all_head (def.Var x t) ds all = tt
all_head (def.Relation r) ds all = tt
all_head (def.Fun f) ds all = tt
all_head (def.Clause c) ds all = tt

module _ (defs : List IlDef) (i : ℕ) (d : IlDef) (h : i < length defs) (is : d ≡ get_or defs i d) (has : Bool) (few : IsTrue has ↔ HasFewPremises d) (inv : AllHaveFew defs ↔ AllHaveFew (drop i defs)) where
  front : drop i defs ≡ d ∷ drop (i + 1) defs
  front = drop_there defs i d h is

  -- this one has few
  pub few_next : has ≡ true → AllHaveFew defs ↔ AllHaveFew (drop (i + 1) defs)
  few_next this = (
    λ all. all_tail d (drop (i + 1) defs) (subst AllHaveFew front (inv.0 all)),
    λ all. inv.1 (subst AllHaveFew (sym front) (all_cons d (drop (i + 1) defs) (few.0 this) all)),
  )

  -- it has not
  pub few_not : has ≡ false → {B : Type 0} → IsTrue false ↔ (B × AllHaveFew defs)
  few_not none {B} = (λ z. absurd (false≢true z), λ (b, all). absurd (true≢false (sym (few.1 (all_head d (drop (i + 1) defs) (subst AllHaveFew front (inv.0 all)))) ∙ none)))

-- all have
pub few_end : (all defs : List IlDef) (i : ℕ) (b : Bool) (n : ℕ) → defs ≡ all → n ≡ length defs → length defs ≤ i → IsTrue b ↔ (n < 2 ^ 32) → AllHaveFew defs ↔ AllHaveFew (drop i defs)
    → IsTrue b ↔ ((length all < 2 ^ 32) × AllHaveFew all)
few_end all defs i b n same len beyond few inv =
    subst (λ z. IsTrue b ↔ ((length z < 2 ^ 32) × AllHaveFew z)) same (
      λ h. (subst (λ z. z < 2 ^ 32) len (few.0 h), inv.1 (subst AllHaveFew (sym (drop_all defs i beyond)) (All-nil IsFew))),
      λ (l, rest). few.1 (subst (λ z. z < 2 ^ 32) (sym len) l),
    )
