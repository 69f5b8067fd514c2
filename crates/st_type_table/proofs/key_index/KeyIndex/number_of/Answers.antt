use Rattle.std.proofs.Common.{ℕ, refl, sym, subst}
use Rattle.std.specs.Prelude.{MatchOption}
use Rattle.std.specs.Map.{lookup}
use Rattle.st_num.specs.Names.{same_name}
use Rattle.st_il.specs.Key.{plain}
use Rattle.st_type_table.specs.inner.KeyIndexes.{HasMark, HasNumber}
use Rattle.st_type_table.proofs.KeyIndexLemmas.{number-is}
use Rattle.st_type_table.proofs.key_index.KeyIndex.number_of.Goals as goal

pub returns-in-Sign : goal.returns-in-Sign
returns-in-Sign c = subst (λ k. MatchOption c.number_of_mark.result ((n : ℕ) → HasNumber c.args.self.now (plain k) n → ⊥) (λ n. HasNumber c.args.self.now (plain k) n)) (sym c.in-Sign.is)
    (subst (λ ms. MatchOption c.number_of_mark.result ((n : ℕ) → HasMark ms c.in-Sign.sign n → ⊥) (λ n. HasMark ms c.in-Sign.sign n)) c.as_slice.ensures c.number_of_mark.ensures)

pub returns-in-Bracket : goal.returns-in-Bracket
returns-in-Bracket c = subst (λ k. MatchOption c.number_of_mark-in-Bracket.result ((n : ℕ) → HasNumber c.args.self.now (plain k) n → ⊥) (λ n. HasNumber c.args.self.now (plain k) n)) (sym c.in-Bracket.is)
    (subst (λ ms. MatchOption c.number_of_mark-in-Bracket.result ((n : ℕ) → HasMark ms c.in-Bracket.opening n → ⊥) (λ n. HasMark ms c.in-Bracket.opening n)) c.as_slice-in-Bracket.ensures c.number_of_mark-in-Bracket.ensures)

pub returns-in-Atom : goal.returns-in-Atom
returns-in-Atom c = subst (λ k. MatchOption c.number_of_atom.result ((n : ℕ) → HasNumber c.args.self.now (plain k) n → ⊥) (λ n. HasNumber c.args.self.now (plain k) n)) (sym c.in-Atom.is)
    (number-is c.number_of_atom.result (lookup (same_name c.in-Atom.name.now) c.args.self.now.atoms.entries) c.number_of_atom.ensures)

pub returns-in-Free : goal.returns-in-Free
returns-in-Free c = subst (λ k. MatchOption c.args.self.now.free ((n : ℕ) → HasNumber c.args.self.now (plain k) n → ⊥) (λ n. HasNumber c.args.self.now (plain k) n)) (sym c.in-Free.is)
    (number-is c.args.self.now.free c.args.self.now.free refl)
