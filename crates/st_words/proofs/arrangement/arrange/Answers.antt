use Rattle.std.proofs.Common.{◌≡◌, ◌∙◌, ap, sym, subst, [], ◌∷◌, Some, codes, map, string_bytes, false}
use Rattle.std.specs.Prelude.{option_map}
use Rattle.clap.specs.Words.{found_of, is_simple, rows_of, subcommand_of}
use Rattle.clap.specs.Faults.{fault_of, is_simple_and_free}
use Rattle.st_words.specs.Names.{name_spelling}
use Rattle.st_words.specs.Arranged.{IsArranged}
use Rattle.st_words.specs.inner.Fronts.{has_dash_value}
use Rattle.st_words.specs.inner.Program.{program_app}
use Rattle.st_words.proofs.ParsedLemmas.{all-utf8, dash-unread, given-texts, memory_alone, names-rows, parsed, reading-passes}
use Rattle.st_words.proofs.arrangement.arrange.Goals as goal

pub returns-then-has_dash_value-clause-usage : goal.returns-then-has_dash_value-clause-usage
returns-then-has_dash_value-clause-usage c = λ _. dash-unread (map string_bytes c.args.words.now) (cc)

pub returns-in-Err-clause-usage : goal.returns-in-Err-clause-usage
returns-in-Err-clause-usage c = λ is command reads.
    let words = map string_bytes c.args.words.now in
    let no_dash : has_dash_value words ≡ false = cc in
    let failed = c.in-Err.ensures.kinds (ap is_simple_and_free c.in_ok-program.ensures) in
    let quiet = ap (λ a. fault_of a words) c.in_ok-program.ensures ∙ reading-passes words command (all-utf8 c.args.words.now) no_dash reads in
    c.fault_of.ensures.usage (cc is) (c.kind.ensures ∙ memory_alone _ c.in-Err.error quiet failed)

pub returns-in_default-name_of-clause-usage : goal.returns-in_default-name_of-clause-usage
returns-in_default-name_of-clause-usage c = λ is command reads.
    let words = map string_bytes c.args.words.now in
    let no_dash : has_dash_value words ≡ false = cc in
    let quiet : fault_of program_app words ≡ [] = ap (λ a. fault_of a words) (sym c.in_ok-program.ensures) ∙ c.in-Ok.ensures.kinds (ap is_simple_and_free c.in_ok-program.ensures) in
    let found = parsed words (all-utf8 c.args.words.now) no_dash quiet in
    let rows = (c.in-Ok.ensures.matches (ap is_simple c.in_ok-program.ensures)).1 ∙ ap (λ a. subcommand_of a words) c.in_ok-program.ensures ∙ found.found in
    let named : Some c.in-Some.name.now ≡ Some (name_spelling found.name) = c.in-Some.ensures.name ∙ sym (names-rows _) ∙ ap (option_map (λ p. p.0)) rows in
    c.in_default-name_of.ensures found.name (cc named)

pub returns-clause-ok : goal.returns-clause-ok
returns-clause-ok c =
    let words = map string_bytes c.args.words.now in
    let no_dash : has_dash_value words ≡ false = cc in
    let quiet : fault_of program_app words ≡ [] = ap (λ a. fault_of a words) (sym c.in_ok-program.ensures) ∙ c.in-Ok.ensures.kinds (ap is_simple_and_free c.in_ok-program.ensures) in
    let found = parsed words (all-utf8 c.args.words.now) no_dash quiet in
    let both = (c.in-Ok.ensures.matches (ap is_simple c.in_ok-program.ensures)).1 ∙ ap (λ a. subcommand_of a words) c.in_ok-program.ensures ∙ found.found in
    let named : Some c.in-Some.name.now ≡ Some (name_spelling found.name) = c.in-Some.ensures.name ∙ sym (names-rows _) ∙ ap (option_map (λ p. p.0)) both in
    let rows_are : Some (rows_of (found_of c.in-Some.given.now)) ≡ Some found.rows = c.in-Some.ensures.rows ∙ ap (option_map (λ p. p.1)) both in
    let rows : rows_of (found_of c.in-Some.given.now) ≡ found.rows = cc rows_are in
    let name : name_spelling found.name ≡ name_spelling c.in-Some-name_of.name = cc (named, c.in-Some-name_of.ensures) in
    let plain = c.in_ok-plain.ensures ∙ given-texts c.get_strs.result (found_of c.in-Some.given.now) (codes "words") found.given.plain found.rows rows found.plain c.get_strs.ensures in
    let fuels = c.in_ok-fuels.ensures ∙ given-texts c.get_strs-2.result (found_of c.in-Some.given.now) (codes "fuel") found.given.fuels found.rows rows found.fuels c.get_strs-2.ensures in
    let depths = c.in_ok-depths.ensures ∙ given-texts c.get_strs-3.result (found_of c.in-Some.given.now) (codes "depth") found.given.depths found.rows rows found.depths c.get_strs-3.ensures in (
      found.behind,
      found.first ∙ ap (λ s. s ∷ found.behind) name,
      subst (λ p. IsArranged found.behind (record { plain = p; fuels = c.in_ok-fuels.fuels; depths = c.in_ok-depths.depths })) (sym plain)
          (subst (λ f. IsArranged found.behind (record { plain = found.given.plain; fuels = f; depths = c.in_ok-depths.depths })) (sym fuels)
          (subst (λ d. IsArranged found.behind (record { plain = found.given.plain; fuels = found.given.fuels; depths = d })) (sym depths) found.right)),
    )
