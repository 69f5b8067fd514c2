-- Tokens that are judged and taken one after another.
use Rattle.std.proofs.Common.{◌≡◌, ℕ, ◌+◌, ◌<◌, List, length, get_or, Some, refl, subst}
use Rattle.std.proofs.lemmas.Option.{slice_get_read}
use Rattle.st_num.specs.declared.rule.RuleId.{RuleId}
use Rattle.st_num.specs.declared.token.Token.{Token}
use Rattle.st_grammar.specs.Terminals.{terminal}
use Rattle.st_grammar.specs.declared.action.Action.{Action}
use Rattle.st_parse_automaton.specs.declared.position.Advance.{Advance}
use Rattle.st_parse_automaton.specs.declared.position.Progress.{Progress}
use Rattle.st_parse_automaton.specs.declared.position.TokenClass.{TokenClass}
use Rattle.st_parse_automaton.specs.inner.Shapes.{class_of}
use Rattle.st_parse_faults.specs.declared.judge.Seen.{Seen}
use Rattle.st_parse_faults.specs.declared.judge.TokenVerdict.{TokenVerdict}
use Rattle.st_parse_faults.specs.declared.judge.TokenVerdict.TheVariants.{Passed, Broken}
use Rattle.st_parse.specs.inner.Readers.{Judging, Taking, Runs, more, Stops, at_token}

-- a token that breaks a rule
pub stopped : (Judges : Judging) (names : List (List ℕ)) (tokens : List Token) (k : ℕ) (known : Seen) (x : Token) (l : TokenClass) (v : TokenVerdict) (rule : RuleId) (last : Progress)
    → k < length tokens → x ≡ get_or tokens k x → l ≡ class_of (terminal names x) → Judges known l x v → v ≡ Broken rule last
    → Stops Judges names tokens k known last (Some (record { token = k; rule = rule }))
stopped Judges names tokens k known x l v rule last h t c j e =
    at_token x rule (slice_get_read tokens (length tokens) k x refl h t) refl
    (subst (λ m. Judges known m x (Broken rule last)) c (subst (Judges known l x) e j))

-- a token that passes
pub one_more : {R : Type 0} (Judges : Judging) (Takes : Taking R) (names : List (List ℕ)) (tokens : List Token) (start : Seen) (old : R) (k : ℕ) (known next : Seen) (kept new : R) (x : Token) (l : TokenClass) (v : TokenVerdict) (advance : Advance) (added : List Action)
    → k < length tokens → x ≡ get_or tokens k x → l ≡ class_of (terminal names x) → Judges known l x v → v ≡ Passed next advance added → Takes advance next.progress l x added kept new
    → Runs Judges Takes names tokens start old k known kept → Runs Judges Takes names tokens start old (k + 1) next new
one_more Judges Takes names tokens start old k known next kept new x l v advance added h t c j e n r =
    more x r refl (slice_get_read tokens (length tokens) k x refl h t)
    (record {
      advance = advance;
      added = added;
      judged = subst (λ m. Judges known m x (Passed next advance added)) c (subst (Judges known l x) e j);
      taken = subst (λ m. Takes advance next.progress m x added kept new) c n;
    })
