-- Expressions that pass are read.
use Rattle.std.proofs.Common.{◌≡◌, ℕ, List, [], ◌∷◌, take, map, Bool, true, false, Option, Some, None, option_and_then, ap, ◌∙◌}
use Rattle.std.proofs.lemmas.List.{take-map}
use Rattle.st_num.specs.declared.rule.RuleId.TheVariants.{S2, S3}
use Rattle.st_num.specs.declared.token.Token.{Token}
use Rattle.st_grammar.specs.Terminals.{terminal}
use Rattle.st_parse.specs.Expressions.{terminals_of}
use Rattle.st_parse.specs.inner.ExpressionReading.{State, start, step, reading}
use Rattle.st_parse_faults.specs.inner.Judging.{passed, limited, judge_all}
use Rattle.st_parse_faults.proofs.JudgingLemmas.{never_passes}
use Rattle.st_parse.specs.inner.ExpressionFolding.{Seen, opens_too_many, passes_limit, seen_after, refusal, judged, judge, verdict, nothing_seen}

passes_reads : (names : List (List ℕ)) (seen last : Seen) (xs : List Token) → judge_all (judge names) (passed seen) xs ≡ passed last
    → reading seen.state (map (terminal names) xs) ≡ Some last.state
passes_reads names seen last [] e = let f : seen ≡ last = cc in ap (λ s. Some s.state) f
passes_reads names seen last (x ∷ xs) e = go (step seen.state (terminal names x)) (λ next f. passes_reads names next last xs f) e
  where
    keeps : (next : Seen) (b c : Bool) → (judge_all (judge names) (passed next) xs ≡ passed last → reading next.state (map (terminal names) xs) ≡ Some last.state)
        → judge_all (judge names) (limited b c next) xs ≡ passed last → reading next.state (map (terminal names) xs) ≡ Some last.state
    keeps next true c rest f = absurd (never_passes Seen (judge names) S2 xs last f)
    keeps next false true rest f = absurd (never_passes Seen (judge names) S3 xs last f)
    keeps next false false rest f = rest f

    go : (o : Option State) → ((next : Seen) → judge_all (judge names) (passed next) xs ≡ passed last → reading next.state (map (terminal names) xs) ≡ Some last.state)
        → judge_all (judge names) (judged seen x (terminal names x) o) xs ≡ passed last
        → option_and_then (λ next. reading next (map (terminal names) xs)) o ≡ Some last.state
    go None rest f = absurd (never_passes Seen (judge names) (refusal seen x) xs last f)
    go (Some next) rest f =
        let s = seen_after seen (terminal names x) next in
        keeps s (opens_too_many s (terminal names x)) (passes_limit s) (rest s) f

pub verdict_reads : (names : List (List ℕ)) (tokens : List Token) (k : ℕ) (seen : Seen) → verdict names tokens k ≡ passed seen → reading start (take k (terminals_of names tokens)) ≡ Some seen.state
verdict_reads names tokens k seen e =
    ap (reading start) (take-map (terminal names) k tokens)
    ∙ passes_reads names nothing_seen seen (take k tokens) e
