use Rattle.std.proofs.Common.{◌≡◌, ◌++◌, refl, sym, ◌∙◌, ap, subst, Some}
use Rattle.std.specs.List.{flat_map}
use Rattle.st_il.specs.declared.small.Small.{Small as Specification}
use Rattle.st_small.specs.SmallText.{text_of, relation_line, rule_line}
use Rattle.st_small.specs.inner.SmallForm.{IsOfWords}
use Rattle.st_small.proofs.ReaderForm.{same_small, text_parts, text_made}
use Rattle.st_small.proofs.reader.read_form.Goals as goal

pub returns-in_default-clause-only : goal.returns-in_default-clause-only
returns-in_default-clause-only c = λ small words e.
    absurd (c.in_default.ensures.only small.syntax _ words.syntax (e ∙ text_parts small))

pub returns-in_default-2-clause-only : goal.returns-in_default-2-clause-only
returns-in_default-2-clause-only c = λ small words e.
    let atoms_only = rw c.in_default-2.is at c.in_ok-atoms.ensures.only in
    let e1 = c.in-Some.ensures.only small.syntax _ words.syntax (e ∙ text_parts small) in
    absurd (atoms_only small.atoms _ words.atoms e1.1)

pub returns-in_default-read_relation_line-clause-only :
    goal.returns-in_default-read_relation_line-clause-only
returns-in_default-read_relation_line-clause-only c = λ small words e.
    let atoms_only = rw c.in-Some-2.is at c.in_ok-atoms.ensures.only in
    let e1 = c.in-Some.ensures.only small.syntax _ words.syntax (e ∙ text_parts small) in
    let e2 = atoms_only small.atoms _ words.atoms e1.1 in
    let e3 = e2.1 ∙ ap (λ x. relation_line small.relation x ++ flat_map (rule_line small.relation) small.rules) (sym e1.0) in
    absurd (c.in_default-read_relation_line.ensures.only small.relation _ words.relation e3)

pub returns-in_default-3-clause-only : goal.returns-in_default-3-clause-only
returns-in_default-3-clause-only c = λ small words e.
    let atoms_only = rw c.in-Some-2.is at c.in_ok-atoms.ensures.only in
    let e1 = c.in-Some.ensures.only small.syntax _ words.syntax (e ∙ text_parts small) in
    let e2 = atoms_only small.atoms _ words.atoms e1.1 in
    let e3 = e2.1 ∙ ap (λ x. relation_line small.relation x ++ flat_map (rule_line small.relation) small.rules) (sym e1.0) in
    let e4 = c.in-Some-read_relation_line.ensures.only small.relation _ words.relation e3 in
    let e5 = c.in_ok-rules.ensures.only small.rules words.rules (e4.1 ∙ ap (λ r. flat_map (rule_line r) small.rules) (sym e4.0)) in
    let none = c.in_default-3.is in
    absurd (cc)

pub returns-clause-only : goal.returns-clause-only
returns-clause-only c = λ small words e.
    let atoms_only = rw c.in-Some-2.is at c.in_ok-atoms.ensures.only in
    let e1 = c.in-Some.ensures.only small.syntax _ words.syntax (e ∙ text_parts small) in
    let e2 = atoms_only small.atoms _ words.atoms e1.1 in
    let e3 = e2.1 ∙ ap (λ x. relation_line small.relation x ++ flat_map (rule_line small.relation) small.rules) (sym e1.0) in
    let e4 = c.in-Some-read_relation_line.ensures.only small.relation _ words.relation e3 in
    let e5 = c.in_ok-rules.ensures.only small.rules words.rules (e4.1 ∙ ap (λ r. flat_map (rule_line r) small.rules) (sym e4.0)) in
    let some = c.in-Some-3.is in
    let rules : c.in-Some-3.rules ≡ small.rules = cc in
    ap (λ s. Some s) (same_small _ small (c.in_ok-from_slice.ensures ∙ e1.0) (c.atoms.view_is ∙ e2.0) (c.in_ok-from_slice-2.ensures ∙ e4.0) rules)

pub returns-clause-read : goal.returns-clause-read
returns-clause-read c =
    let made : Specification = record {
      syntax = c.in-Some.syntax.now;
      atoms = c.in-Some-2.atoms;
      relation = c.in-Some-read_relation_line.relation.now;
      rules = c.in-Some-3.rules;
    } in
    let P : Specification → Type 0 = λ s. IsOfWords s × (c.args.bytes.now ≡ text_of s) in
    let atoms_read = rw c.in-Some-2.is at c.in_ok-atoms.ensures.read in
    let rules_read = rw c.in-Some-3.is at c.in_ok-rules.ensures.read in
    subst P (same_small made _ (sym c.in_ok-from_slice.ensures) (sym c.atoms.view_is) (sym c.in_ok-from_slice-2.ensures) refl) (
      record {
        syntax = c.in-Some.ensures.read.0;
        atoms = atoms_read.0;
        relation = c.in-Some-read_relation_line.ensures.read.0;
        rules = rules_read.0;
      },
      text_made _ _ _ _ made c.in-Some.ensures.read.1 atoms_read.1 c.in-Some-read_relation_line.ensures.read.1 rules_read.1,
    )
