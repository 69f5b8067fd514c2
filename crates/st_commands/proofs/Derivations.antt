-- A run and its lines, step by step.
use Rattle.std.proofs.Common.{◌≡◌, ℕ, ◌+◌, ◌*◌, ◌<◌, List, [], ◌∷◌, ◌++◌, length, ◌∙◌, sym, ap, refl, subst, arith, append_assoc, length-append}
use Rattle.std.specs.Prelude.{slice_get, Some, Contains, All, Result, Ok, Err, IfOk}
use Rattle.std.proofs.lemmas.List.Elements.{All-nil, All-cons, All-push, All-contains}
use Rattle.std.proofs.lemmas.Option.{get_or_from_slice_get, slice_get_within}
use Rattle.st_deriv.specs.declared.line.Line.{Line}
use Rattle.st_deriv.specs.declared.line.Line.TheVariants.{Head, From, Node, Step, End}
use Rattle.st_deriv.specs.LineText.{HasText, lines_text}
use Rattle.st_il.specs.declared.small.Small.{Small}
use Rattle.st_il.specs.declared.small.SmallRule.{SmallRule}
use Rattle.st_il.specs.Small.{il_of, IsSmall, IsSmallRule, IsUpper, IsWordOf}
use Rattle.st_num.specs.declared.memory.NoMemory.{NoMemory}
use Rattle.st_answers.specs.declared.answer.Answer.{Answer}
use Rattle.st_runs.specs.declared.transcript.Ending.{Ending}
use Rattle.st_commands.specs.Derived.{IsDerivationText, default_fuel}
use Rattle.st_commands.specs.Derivation.{IsStepTree, StepLines, begins, goes_on, last_line}
use Rattle.st_commands.specs.inner.Nodes.{rule_node}
use Rattle.st_commands.specs.inner.Step.{IsNextRule}
use Rattle.st_semantics.specs.Transcript.{Term}
use Rattle.st_runs.specs.Runs.{Reaches, begins as starts, goes_on as comes}
use Rattle.st_runs.specs.inner.Reaches.{EndsBehind}
use Rattle.st_runs.specs.Transcript.{atom_term, status_of}
use Rattle.st_commands.proofs.Derives.{step_tree, node_of_rule}
use Rattle.st_commands.proofs.LineTexts.{head_text, from_text, node_text, step_text, end_text}
use Rattle.st_commands.proofs.LineVerdicts.{IsAt, head_verdict, behind_head, from_verdict, at_start, node_verdict, step_verdict, at_next, end_verdict}
use Rattle.st_runs.proofs.Reaching.{transcript_of}
use Rattle.st_verify.proofs.SmallModes.{keep_modes}
use Rattle.st_verify.proofs.SmallTrees.{tree_of_rule}
use Rattle.st_semantics.specs.declared.notes.Notes.{Notes}
use Rattle.st_semantics.specs.Accepts.{ReadsTo, none, more}
use Rattle.st_semantics.specs.Notes.{noted}

-- so many steps of a run are derived: it has come to this atom, by these lines
pub record HasDerived (s : Small) (start atom : List ℕ) (k : ℕ) (lines : List Line) : Type 0 where
  pub before : List Term
  pub reaches : Reaches (il_of s) s.relation (atom_term start) before (atom_term atom)
  pub count : length before ≡ k
  pub takes : StepLines (il_of s) s.relation (atom_term start) before (atom_term atom) lines
  pub long : length lines ≡ 2 * k + 2
  pub notes : Notes
  pub read : ReadsTo (il_of s) lines notes
  pub at : IsAt s atom lines notes
  pub texts : All HasText lines

-- an atom of the specification is a word
atom_word : (s : Small) (atom : List ℕ) → IsSmall s → Contains s.atoms atom → IsWordOf IsUpper atom
atom_word s atom small known = All-contains (IsWordOf IsUpper) s.atoms atom small.atoms known

small_rule : (s : Small) (k : ℕ) (rule : SmallRule) → IsSmall s → slice_get s.rules k ≡ Some rule → IsSmallRule s.atoms rule
small_rule s k rule small at =
    subst (IsSmallRule s.atoms) (get_or_from_slice_get s.rules k rule rule at) (small.rules k rule (slice_get_within s.rules k rule at))

-- before the first step
pub before_steps : (s : Small) (start : List ℕ) (lines : List Line) → IsSmall s → Contains s.atoms start
    → lines ≡ Head 1 s.relation ∷ From (atom_term start) ∷ [] → HasDerived s start start 0 lines
before_steps s start lines small known are =
    let head = Head 1 s.relation in
    let from = From (atom_term start) in
    let read_head = more {lines = []} {all = head ∷ []} head (none refl) (head_verdict s) refl refl in
    record {
      before = [];
      reaches = starts;
      count = refl;
      takes = begins are;
      long = ap length are;
      notes = noted (il_of s) (behind_head s) from;
      read = more from read_head (from_verdict s start small known) are refl;
      at = at_start s start lines (ap length are);
      texts = subst (All HasText) (sym are)
          (All-cons HasText head (from ∷ []) (head_text s small) (All-cons HasText from [] (from_text start (atom_word s start small known)) (All-nil HasText)));
    }

-- one step more
pub one_step : (s : Small) (start atom : List ℕ) (k : ℕ) (lines all : List Line) (rule : SmallRule) → IsSmall s → k < 1000 → HasDerived s start atom k lines
    → IsNextRule s atom rule → all ≡ lines ++ Node (rule_node s.relation rule) ∷ Step (length lines + 1) ∷ [] → HasDerived s start rule.to (k + 1) all
one_step s start atom k lines all rule small below derived next are =
    let node = Node (rule_node s.relation rule) in
    let step = Step (length lines + 1) in
    let is = small_rule s next.number rule small next.is_rule in
    let tree = tree_of_rule next.number rule in
    let apart : all ≡ (lines ++ node ∷ []) ++ step ∷ [] = are ∙ sym (append_assoc lines (node ∷ []) (step ∷ [])) in
    let longer : length all ≡ length lines + 2 = ap length are ∙ length-append lines (node ∷ step ∷ []) in
    let read_node = more {all = lines ++ node ∷ []} node derived.read (node_verdict s atom lines derived.notes next.number rule small derived.at next.is_rule) refl refl in
    record {
      before = derived.before ++ atom_term atom ∷ [];
      reaches = comes derived.reaches next.next;
      count = omega (arith, derived.count, length-append derived.before (atom_term atom ∷ []));
      takes = goes_on tree (rule_node s.relation rule) derived.takes
          (subst (λ a. IsStepTree (il_of s) s.relation (atom_term a) (atom_term rule.to) tree) next.goes (step_tree s next.number rule next.is_rule))
          (node_of_rule s next.number rule next.is_rule) are;
      long = omega (arith, derived.long, longer);
      notes = noted (il_of s) (noted (il_of s) derived.notes node) step;
      read = more step read_node (step_verdict s atom lines derived.notes rule derived.at next.goes) apart refl;
      at = at_next s atom lines all derived.notes rule derived.at longer;
      texts = subst (All HasText) (sym apart)
          (All-push HasText (lines ++ node ∷ []) step
          (All-push HasText lines node derived.texts (node_text s rule small (atom_word s rule.from small is.from) (atom_word s rule.to small is.to) is))
          (step_text (length lines + 1) (omega (arith, derived.long, below))));
    }

-- the answer of a run that ends here
pub derived_answer : (s : Small) (start atom : List ℕ) (k : ℕ) (lines : List Line) (ending : Ending) (result : Result Answer NoMemory)
    → IsSmall s → HasDerived s start atom k lines → EndsBehind (il_of s) s.relation default_fuel k (atom_term atom) ending
    → IfOk result (λ answer. answer.status ≡ status_of ending) → IfOk result (λ answer. answer.bytes.items ≡ lines_text (lines ++ End (last_line ending) ∷ []))
    → IfOk result (λ answer. IsDerivationText s start answer.status answer.bytes.items)
derived_answer s start atom k lines ending (Err e) small derived ends status bytes = tt
derived_answer s start atom k lines ending (Ok answer) small derived ends status bytes =
    let end = End (last_line ending) in
    record {
      ending = ending;
      lines = lines ++ end ∷ [];
      derivation = record {
        before = derived.before;
        last = atom_term atom;
        transcript = transcript_of (il_of s) s.relation default_fuel (atom_term start) derived.before (atom_term atom) ending derived.reaches
            (subst (λ n. EndsBehind (il_of s) s.relation default_fuel n (atom_term atom) ending) (sym derived.count) ends);
        steps = lines;
        takes = derived.takes;
        lines_are = refl;
      };
      accepted = record {
        typed = record { source = s; small = small; means = refl };
        modes = keep_modes s;
        notes = noted (il_of s) derived.notes end;
        read = more end derived.read (end_verdict s atom lines derived.notes ending derived.at) refl refl;
        before = lines;
        ending = last_line ending;
        ended = refl;
      };
      status_is = status;
      text = record { have = All-push HasText lines end derived.texts (end_text ending); is = bytes };
    }
