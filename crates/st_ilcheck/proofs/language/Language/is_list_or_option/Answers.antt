use Rattle.std.proofs.Common.{◌≡◌, sym, subst, rules}
use Rattle.st_type_table.specs.Meaning.{Means}
use Rattle.st_il.specs.Definitions.{syntaxes}
use Rattle.st_ilcheck.proofs.ElementLemmas.{sequence-exact, no-sequence}
use Rattle.st_ilcheck.proofs.language.Language.is_list_or_option.Goals as goal

pub returns-in-Some : goal.returns-in-Some
returns-in-Some c = let same : c.self.inside.table.now ≡ syntaxes c.args.self.now = cc in
    sequence-exact (syntaxes c.args.self.now) c.args.ty.now c.in-Some.meaning.now c.is_sequence.result (subst (λ z. Means z c.args.ty.now c.in-Some.meaning.now) same c.in-Some.ensures) c.is_sequence.ensures

pub returns-in-None : goal.returns-in-None
returns-in-None c = let same : c.self.inside.table.now ≡ syntaxes c.args.self.now = cc in (λ f. search rules, λ h. absurd (no-sequence (syntaxes c.args.self.now) c.args.ty.now (λ u m. c.in-None.ensures u (subst (λ z. Means z c.args.ty.now u) (sym same) m)) h))
