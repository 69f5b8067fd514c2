-- Tiny examples of the definitions.
use Rattle.std.proofs.Common.{◌≡◌, refl, sym, subst, ℕ, List, [], ◌∷◌, None, rules, arith, ap, inl, inr, Some, ◌∙◌}
use Rattle.std.specs.Prelude.{◌≤◌, ◌<◌, ◌^◌, pos, true, false, codes}
use Rattle.std.specs.List.{All}
use Rattle.st_num.specs.Number.{IsNumber, sum}
use Rattle.st_il.specs.declared.definition.RelationDef.{RelationDef}
use Rattle.st_il.specs.declared.definition.RuleDef.{RuleDef}
use Rattle.st_il.specs.declared.definition.SyntaxDef.{SyntaxDef}
use Rattle.st_il.specs.declared.definition.Il.{Il}
use Rattle.st_il.specs.declared.definition.IlDef.TheVariants as def
use Rattle.st_il.specs.declared.expression.IlExp.{IlExp}
use Rattle.st_il.specs.declared.expression.IlExp.TheVariants as exp
use Rattle.st_il.specs.declared.expression.Iteration.TheVariants as iteration
use Rattle.st_il.specs.declared.tree.Tree.{Tree}
use Rattle.st_il.specs.declared.value.Env.{Env}
use Rattle.st_il.specs.declared.value.Value.{Value, out-Value, the_lemmas}
use Rattle.st_il.specs.declared.value.Value.TheVariants as value
use Rattle.st_il.specs.declared.ty.Ty.TheVariants as ty
use Rattle.st_il.specs.declared.ty.NumTy.TheVariants as numbers
use Rattle.st_il.specs.Height.{height}
use Rattle.st_num.specs.Texts.{IsText}
use Rattle.st_il.specs.Value.{texts_of}
use Rattle.st_type_table.specs.Meaning.{itself, alias_of}
use Rattle.st_type_table.specs.HasType.{natural}
use Rattle.st_semantics.specs.declared.outcome.Outcome.TheVariants.{Val, NoValue}
use Rattle.st_semantics.specs.declared.outcome.Outcomes.TheVariants.{Values}
use Rattle.st_deriv.specs.declared.line.Line.TheVariants.{Node}
use Rattle.st_deriv.specs.declared.line.NodeLine.{NodeLine}
use Rattle.st_semantics.specs.declared.verify_rule.VerifyRule.TheVariants.{V7, V8, V9}
use Rattle.st_semantics.specs.declared.notes.Notes.{Notes}
use Rattle.st_semantics.specs.Checks.{evaluates}
use Rattle.st_semantics.specs.Verdict.{Verdict, IsNode}
use Rattle.st_semantics.specs.Variables.{cites}
use Rattle.st_semantics.specs.Holding.{Instance}
use Rattle.st_semantics.specs.Walks as w
use Rattle.st_semantics.specs.Walks.{Walks, Tests}
use Rattle.st_il.specs.Names.{Name}
use Rattle.st_il.specs.Definitions.{rules_of}
use Rattle.st_semantics.specs.Directions.{mask, inputs_of, outputs_of}
use Rattle.st_semantics.specs.Environments.{EnvOk, HasListed, IsOrdered, IsTypedValue, numbers_of}
use Rattle.st_semantics.specs.Forms.{by_itself}
use Rattle.st_semantics.specs.Iterations.{spread, Misfit, count_of}
use Rattle.st_semantics.specs.Evaluation.{Answers, Gives, iteration_ends, strict, variable, none, next}
use Rattle.st_semantics.specs.Derivation.{Derivable, IsValid, node, done}
use Rattle.st_semantics.specs.Calls.{CallAt}
use Rattle.st_semantics.specs.Parts.{constant, binary}
use Rattle.st_semantics.specs.Operators.{arithmetic}

-- ---- lists of unequal length under one iteration have no value

abbrev xs : List Name
xs = codes "a" ∷ codes "b" ∷ []

abbrev uneven : Env
uneven = record {
  entries =
      (codes "a", value.List (value.Bool true ∷ value.Bool true ∷ []))
      ∷ (codes "b", value.List (value.Bool true ∷ [])) ∷ [];
}

no_count : count_of iteration.Star ≡ []
no_count = simp (iteration.outs-Star) refl

misfit : spread iteration.Star xs uneven [] ≡ Misfit
misfit = simp (iteration.outs-Star, value.outs-List (value.Bool true ∷ value.Bool true ∷ []), value.outs-List (value.Bool true ∷ [])) refl

pub uneven_has_no_value : (defs : List SyntaxDef) (C : Answers) (body : IlExp) → Gives defs C uneven (exp.Iter iteration.Star xs body) NoValue
uneven_has_no_value defs C body =
    iteration_ends iteration.Star xs body (Values []) (by_itself (simp (exp.outs-Iter iteration.Star xs body) refl))
    (simp no_count (none refl)) (simp misfit refl)

-- ---- `relation R: nat -> nat hint(mode out in)`, `rule R/a: $(n + 1) -> n`: 5 is derived from 4

abbrev R : RelationDef
R = record { name = codes "R"; tag = codes "% -> %"; holes = ty.Nat ∷ ty.Nat ∷ []; mode = false ∷ true ∷ [] }

abbrev more : IlExp
more = exp.Add numbers.Nat (exp.Var (codes "n")) (exp.Number 1)

abbrev rule_a : RuleDef
rule_a = record {
  relation = codes "R";
  name = codes "a";
  variables = record { name = codes "n"; ty = ty.Nat; dim = [] } ∷ [];
  conclusion = more ∷ exp.Var (codes "n") ∷ [];
  premises = [];
}

abbrev il : Il
il = record { defs = def.Relation R ∷ def.Rule rule_a ∷ [] }

abbrev five : Value
five = value.Num (pos 5)

abbrev four : Value
four = value.Num (pos 4)

mask_is : mask il (codes "R") ≡ false ∷ true ∷ []
mask_is = refl

inputs_are : inputs_of il (codes "R") (five ∷ four ∷ []) ≡ four ∷ []
inputs_are = refl

outputs_are : outputs_of il (codes "R") (five ∷ four ∷ []) ≡ five ∷ []
outputs_are = refl

rule_is : rules_of il (codes "R") ≡ rule_a ∷ []
rule_is = refl

no_alias : (name : List ℕ) → alias_of [] ty.Nat ≡ None
no_alias name = simp (ty.outs-Nat) refl

low : (n : ℕ) → height (value.Num (pos n)) ≡ 1
low n = search (rules, the_lemmas)

no_texts : (n : ℕ) → texts_of (value.Num (pos n)) ≡ []
no_texts n = search (rules, the_lemmas)

one_number : (n : ℕ) → numbers_of (value.Num (pos n)) ≡ pos n ∷ []
one_number n = search (rules, the_lemmas)

none_of : {A : Type 0} (P : A → Type 0) → All P []
none_of P = search (rules)

all_one : {A : Type 0} (P : A → Type 0) (x : A) → P x → All P (x ∷ [])
all_one P x p = search (rules, p)

is_nat : (n : ℕ) → n < 2 ^ 128 → IsTypedValue [] ty.Nat (value.Num (pos n))
is_nat n small = record {
  form = natural n refl (itself (no_alias (codes "nat")) refl);
  value = record { height = subst (λ h. h ≤ 1000) (sym (low n)) (omega arith); texts = subst (All IsText) (sym (no_texts n)) (none_of IsText) };
  numbers = subst (All IsNumber) (sym (one_number n)) (all_one IsNumber (pos n) small);
}

abbrev at_four : Env
at_four = record { entries = (codes "n", four) ∷ [] }

abbrev tree : Tree
tree = record { relation = 0; rule = 0; env = at_four; values = five ∷ four ∷ []; children = [] }

n_is : (C : Answers) → Gives [] C at_four (exp.Var (codes "n")) (Val four)
n_is C = variable (codes "n") (by_itself (simp (exp.outs-Var (codes "n")) refl)) refl

one_is : (C : Answers) → Gives [] C at_four (exp.Number 1) (Val (value.Num (pos 1)))
one_is C = strict [] (constant (value.Num (pos 1))) (Values []) (by_itself (simp (exp.outs-Number 1) refl)) (none refl) refl

sum_is : binary (arithmetic sum numbers.Nat) (four ∷ value.Num (pos 1) ∷ []) ≡ Val five
sum_is = simp (value.outs-Num (pos 4), value.outs-Num (pos 1), low 5) refl

more_is : (C : Answers) → Gives [] C at_four more (Val five)
more_is C =
    strict (exp.Var (codes "n") ∷ exp.Number 1 ∷ []) (binary (arithmetic sum numbers.Nat)) (Values (four ∷ value.Num (pos 1) ∷ []))
    (by_itself (simp (exp.outs-Add numbers.Nat (exp.Var (codes "n")) (exp.Number 1)) refl))
    (next four (Values (value.Num (pos 1) ∷ [])) (n_is C) (next (value.Num (pos 1)) (Values []) (one_is C) (none refl) refl) refl)
    (sym sum_is)

one_ordered : (x : Name) (v : Value) → IsOrdered (record { entries = (x, v) ∷ [] })
one_ordered x v = search (rules)

env_ok : EnvOk [] rule_a.variables at_four
env_ok = record {
  ordered = one_ordered (codes "n") four;
  no_other = refl;
  typed = all_one (HasListed [] at_four) (record { name = codes "n"; ty = ty.Nat; dim = [] }) (is_nat 4 (omega arith));
}

is_valid : IsValid il tree
is_valid =
    node (codes "R") rule_a (R, refl, refl) refl env_ok
    ((0, more_is (CallAt il 0)), ((0, n_is (CallAt il 0)), tt)) done

-- the outputs are the first hole, and the inputs the second
pub derives_backwards : Derivable il (codes "R") (four ∷ []) (five ∷ [])
derives_backwards = record {
  values = five ∷ four ∷ [];
  is_derived = record { tree = tree; valid = is_valid; relation_is = (R, refl, refl); values_are = refl };
  inputs_are = refl;
  outputs_are = refl;
}

-- ---- the node line of that tree is accepted, and with another output it is refused by V7

abbrev node_line : List Value → NodeLine
node_line vs = record {
  relation = codes "R";
  rule = codes "a";
  env = at_four;
  children = [];
  values = vs;
  evidence = None;
}

abbrev noted_so : Notes
noted_so = record { lines = None ∷ None ∷ []; relation = Some (codes "R"); term = Some (four ∷ []); steps = 0; ended = false }

first_hole : evaluates il V7 at_four more five None
first_hole = inl (more_is (CallAt il 500), refl)

second_hole : evaluates il V7 at_four (exp.Var (codes "n")) four None
second_hole = inl (n_is (CallAt il 500), refl)

pub accepted : Verdict il noted_so (Node (node_line (five ∷ four ∷ []))) None
accepted =
    inl (
      inl ((omega arith, refl), refl),
      inl (
        inl (env_ok, refl),
        inl (
          inl (none_of (IsNode noted_so), refl),
          inl (
            inl (refl, refl),
            inl (inl (first_hole, inl (second_hole, refl)), inl (w.done refl, inl (inl (tt, refl), refl))),
          ),
        ),
      ),
    )

not_six : Val five ≡ Val (value.Num (pos 6)) → ⊥
not_six e =
    let same : five ≡ value.Num (pos 6) = cc in
    let opened = sym (value.outs-Num (pos 5)) ∙ ap out-Value same ∙ value.outs-Num (pos 6) in cc

pub refused : Verdict il noted_so (Node (node_line (value.Num (pos 6) ∷ four ∷ []))) (Some V7)
refused =
    inl (
      inl ((omega arith, refl), refl),
      inl (
        inl (env_ok, refl),
        inl (
          inl (none_of (IsNode noted_so), refl),
          inl (
            inl (refl, refl),
            inr (V7, inr (V7, inr (Val five, more_is (CallAt il 500), not_six, refl), refl), refl),
          ),
        ),
      ),
    )

-- ---- a goal without its child and a condition that is false: the first in written order refuses

pub goal_first : (il : Il) (notes : Notes) (goal condition : Instance) → cites goal.1 ≡ true → Walks il notes (goal ∷ condition ∷ []) [] (Some V9)
goal_first _ notes goal condition c = w.missing c refl

pub condition_first : (il : Il) (notes : Notes) (goal condition : Instance) → cites condition.1 ≡ false → Tests il notes condition None (Some V8)
    → Walks il notes (condition ∷ goal ∷ []) [] (Some V8)
condition_first _ notes goal condition c t = w.stops None [] V8 (c, refl) t refl
