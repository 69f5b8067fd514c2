use Rattle.std.proofs.Common.{refl, Some, sym, ap, ◌∙◌, subst}
use Rattle.indexmap.specs.IndexMap.{insert_entry}
use Rattle.st_num.specs.Names.{same_name}
use Rattle.st_il.specs.Key.{plain}
use Rattle.st_type_table.specs.inner.KeyIndexes.{Gains, HasNumber}
use Rattle.st_type_table.proofs.KeyIndexLemmas.{gains-sign, gains-bracket, gains-atom, gains-free}
use Rattle.st_type_table.proofs.key_index.KeyIndex.insert.Goals as goal

pub returns-in_ok-push-in-Sign : goal.returns-in_ok-push-in-Sign
returns-in_ok-push-in-Sign c = subst (λ k. Gains c.args.self.now (record { signs = c.push.new.self; brackets = c.args.self.now.brackets; atoms = c.args.self.now.atoms; free = c.args.self.now.free }) k c.args.number)
    (sym (ap plain c.in-Sign.is)) (gains-sign c.args.self.now c.args.number c.in-Sign.sign c.push.new.self c.in_ok-push-in-Sign.ensures.ok)

pub returns-in_ok-push-in-Bracket : goal.returns-in_ok-push-in-Bracket
returns-in_ok-push-in-Bracket c = subst (λ k. Gains c.args.self.now (record { signs = c.args.self.now.signs; brackets = c.push-in-Bracket.new.self; atoms = c.args.self.now.atoms; free = c.args.self.now.free }) k c.args.number)
    (sym (ap plain c.in-Bracket.is)) (gains-bracket c.args.self.now c.args.number c.in-Bracket.opening c.push-in-Bracket.new.self c.in_ok-push-in-Bracket.ensures.ok)

pub returns-in_ok-insert-in-Atom : goal.returns-in_ok-insert-in-Atom
returns-in_ok-insert-in-Atom c = subst (λ k. Gains c.args.self.now (record { signs = c.args.self.now.signs; brackets = c.args.self.now.brackets; atoms = c.insert.new.self; free = c.args.self.now.free }) k c.args.number)
    (sym (ap plain c.in-Atom.is))
    (gains-atom c.args.self.now c.args.number (record { signs = c.args.self.now.signs; brackets = c.args.self.now.brackets; atoms = c.insert.new.self; free = c.args.self.now.free }) c.in-Atom.name.now refl refl refl
    (λ n. subst (λ k. HasNumber c.args.self.now (plain k) n → ⊥) c.in-Atom.is (c.requires n))
    (c.in_ok-insert-in-Atom.ensures.entries ∙ ap (λ name. insert_entry same_name c.args.self.now.atoms.entries name c.args.number) c.in_ok-copy-in-Atom.ensures))

pub returns-in-Free : goal.returns-in-Free
returns-in-Free c = subst (λ k. Gains c.args.self.now (record { signs = c.args.self.now.signs; brackets = c.args.self.now.brackets; atoms = c.args.self.now.atoms; free = Some c.args.number }) k c.args.number)
    (sym (ap plain c.in-Free.is)) (gains-free c.args.self.now c.args.number (λ n. subst (λ k. HasNumber c.args.self.now (plain k) n → ⊥) c.in-Free.is (c.requires n)))
