-- The lines of a derivation of a small specification have texts.
use Rattle.std.proofs.Common.{◌≡◌, ℕ, suc, ◌<◌, ◌^◌, List, [], ◌∷◌, Bool, true, false, sym, ap, refl, subst, arith, inl, nat_le, ◌&&◌, ◌||◌}
use Rattle.std.proofs.lemmas.Bool.{le-leb}
use Rattle.std.proofs.lemmas.List.Elements.{All-nil, All-cons}
use Rattle.std.proofs.lemmas.List.Sums.{list_all-from_AllPass}
use Rattle.st_deriv.specs.declared.line.Line.TheVariants.{Head, From, Node, Step, End}
use Rattle.st_deriv.specs.LineText.{IsPlainCase, IsRelationName, tag_at, tag_of, HasText}
use Rattle.st_il.specs.declared.small.Small.{Small}
use Rattle.st_il.specs.declared.small.SmallRule.{SmallRule}
use Rattle.st_il.specs.declared.value.Value.TheVariants.{Case, outs-Case}
use Rattle.st_il.specs.Small.{IsUpper, IsWordOf, IsSmall, IsSmallRule}
use Rattle.st_num.specs.Texts.{IsText}
use Rattle.st_text.specs.Text.{is_word_byte, IsWord}
use Rattle.st_text.proofs.NumberWords.{decimal-IsWord}
use Rattle.st_commands.proofs.SmallTexts.{upper_text, lower_text}
use Rattle.st_runs.specs.declared.transcript.Ending.{Ending}
use Rattle.st_runs.specs.declared.transcript.Ending.TheVariants.{Stuck, Fuel}
use Rattle.st_commands.specs.Derivation.{last_line}
use Rattle.st_commands.specs.inner.Nodes.{rule_node}
use Rattle.st_runs.specs.Transcript.{atom_term}

-- the value of an atom is a case without operands, whose tag is the atom
tag_is : (atom : List ℕ) → tag_of (Case atom []) ≡ atom
tag_is atom = ap tag_at (outs-Case atom [])

plain_case : (atom : List ℕ) → IsPlainCase (Case atom [])
plain_case atom = ap (λ tag. Case tag []) (sym (tag_is atom))

tag_text : (atom : List ℕ) → IsWordOf IsUpper atom → IsText (tag_of (Case atom []))
tag_text atom upper = subst IsText (sym (tag_is atom)) (upper_text atom upper)

-- upper-case letters are a word, and the name of a relation
upper_byte : (b : ℕ) → IsUpper b → is_word_byte b ≡ true
upper_byte b (low, high) = rw (le-leb 65 b low, le-leb b 90 high, either (nat_le 97 b && nat_le b 122)) refl
  where
    either : (x : Bool) → (x || true) ≡ true
    either true = refl
    either false = refl

upper_word : (w : List ℕ) → IsWordOf IsUpper w → IsWord w
upper_word [] upper = absurd (upper.0 refl)
upper_word (b ∷ bytes) upper = (omega arith, list_all-from_AllPass is_word_byte (b ∷ bytes) (λ k d h. upper_byte _ (upper.1 k d h)))

upper_name : (w : List ℕ) → IsWordOf IsUpper w → IsRelationName w
upper_name [] upper = absurd (upper.0 refl)
upper_name (b ∷ bytes) upper = (upper.1 0 b (omega arith), λ k d h. inl (upper.1 (suc k) d (omega arith)))

pub head_text : (s : Small) → IsSmall s → HasText (Head 1 s.relation)
head_text s small = record {
  plain = (refl, upper_name s.relation small.relation);
  spelled = record {
    spelled = ((omega arith, refl), ((omega arith, refl), (upper_word s.relation small.relation, tt)));
    shallow = omega arith;
  };
}

pub from_text : (atom : List ℕ) → IsWordOf IsUpper atom → HasText (From (atom_term atom))
from_text atom upper = record {
  plain = All-cons IsPlainCase (Case atom []) [] (plain_case atom) (All-nil IsPlainCase);
  spelled = record {
    spelled = ((omega arith, refl), (((omega arith, refl), (tag_text atom upper, tt)), tt));
    shallow = omega arith;
  };
}

pub node_text : (s : Small) (rule : SmallRule) → IsSmall s → IsWordOf IsUpper rule.from → IsWordOf IsUpper rule.to → IsSmallRule s.atoms rule
    → HasText (Node (rule_node s.relation rule))
node_text s rule small from to is = record {
  plain = record {
    env = refl;
    children = refl;
    evidence = refl;
    values = All-cons IsPlainCase (Case rule.from []) (Case rule.to [] ∷ []) (plain_case rule.from)
        (All-cons IsPlainCase (Case rule.to []) [] (plain_case rule.to) (All-nil IsPlainCase));
  };
  spelled = record {
    spelled = (
      (omega arith, refl),
      (
        upper_text s.relation small.relation,
        (
          lower_text rule.name is.name,
          (
            tt,
            (
              tt,
              (
                ((((omega arith, refl), (tag_text rule.from from, tt)), (((omega arith, refl), (tag_text rule.to to, tt)), tt))),
                tt,
              ),
            ),
          ),
        ),
      ),
    );
    shallow = omega arith;
  };
}

pub step_text : (n : ℕ) → n < 2 ^ 128 → HasText (Step n)
step_text n few = record {
  plain = few;
  spelled = record { spelled = ((omega arith, refl), (decimal-IsWord n few, tt)); shallow = omega arith };
}

pub end_text : (ending : Ending) → HasText (End (last_line ending))
end_text Stuck = record { plain = tt; spelled = record { spelled = ((omega arith, refl), ((omega arith, refl), tt)); shallow = omega arith } }
end_text Fuel = record { plain = tt; spelled = record { spelled = ((omega arith, refl), ((omega arith, refl), tt)); shallow = omega arith } }
