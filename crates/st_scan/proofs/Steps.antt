-- One step from token to token.
use Rattle.std.proofs.Common.{◌≡◌, ◌≢◌, ℕ, suc, ◌+◌, ◌-◌, ◌≤◌, ◌<◌, List, [], ◌∷◌, ◌++◌, length, take, drop, refl, sym, ap, ◌∙◌, subst, arith, ◌==◌, append_assoc, ◌⊎◌, inl, inr}
use Rattle.std.proofs.lemmas.Bool.{false≢true, cases_lt}
use Rattle.std.proofs.lemmas.Bool.Decides.{nat_tests}
use Rattle.std.proofs.lemmas.List.{take_at, drop_at, drop_all, take-append-drop, drop-drop, length-append}
use Rattle.std.proofs.lemmas.List.Prefix.{end_rest}
use Rattle.st_num.specs.declared.span.Span.{Span}
use Rattle.st_num.specs.declared.rule.RuleId.{RuleId}
use Rattle.st_scan.specs.declared.line_column.LineColumn.{LineColumn}
use Rattle.st_scan.specs.declared.read.Reading.{Reading}
use Rattle.st_scan.specs.declared.read.Stop.{Stop}
use Rattle.st_scan.specs.declared.read.Stop.TheVariants.{Refused, Memory}
use Rattle.st_num.specs.declared.token.Token.{Token}
use Rattle.st_num.specs.declared.token.TokenKind.TheVariants.{Number}
use Rattle.st_scan.specs.Gaps.{gap, between, opens_comment}
use Rattle.st_scan.specs.Places.{offset, place, IsBehind, line_behind}
use Rattle.st_scan.specs.Spelling.{Spells}
use Rattle.st_scan.specs.Tokens.{Longest, Next, Run, IsInRange}
use Rattle.st_scan.specs.Faults.{Cause, comment_open, text_open, text_wrong, large, no_token, is_wrong}
use Rattle.st_scan.specs.inner.Readings.{IsReading, Stops, farther}
use Rattle.st_scan.specs.inner.Steps.{IsAt, StopsNext, StopsFile}
use Rattle.st_scan.proofs.Gaps.{gap_is_end}
use Rattle.st_scan.proofs.Spelled.{spelled_some}

-- ---- the bytes before a rest

pub before_is : (file front rest : List ℕ) → file ≡ front ++ rest → take (offset file rest) file ≡ front
before_is file front rest e =
    let all : length file ≡ length front + length rest = ap length e ∙ length-append front rest in
    let from : length front ≡ offset file rest = omega (arith, all) in
    ap (take (offset file rest)) e ∙ take_at front rest (offset file rest) from

pub at_moves : (file rest front here : List ℕ) (p q : LineColumn) → IsAt file rest p → rest ≡ front ++ here → IsBehind (take (offset file rest) file ++ front) q → IsAt file here q
at_moves file rest front here p q at e behind =
    let before : List ℕ = take (offset file rest) file in
    let joined : file ≡ (take (offset file rest) file ++ front) ++ here = at.split ∙ ap (λ u. take (offset file rest) file ++ u) e ∙ sym (append_assoc (take (offset file rest) file) front here) in
    let is : take (offset file here) file ≡ take (offset file rest) file ++ front = before_is file (take (offset file rest) file ++ front) here joined in
    record { split = joined ∙ ap (λ u. u ++ here) (sym is); behind = subst (λ u. IsBehind u q) (sym is) behind }

pub place_is : (number : ℕ) (file here : List ℕ) (q : LineColumn) (s : Span) → s ≡ record { file = number; line = q.line; column = q.column } → IsAt file here q → s ≡ place number file here
place_is number file here q s e at =
    e ∙ ap (λ n. span_of n q.column) at.behind.line ∙ ap (λ n. span_of (line_behind (take (offset file here) file)) n) at.behind.column
  where
    span_of : ℕ → ℕ → Span
    span_of line column = record { file = number; line = line; column = column }

at_start : (file : List ℕ) (p : LineColumn) → IsBehind [] p → IsAt file file p
at_start file p h =
    let is : take (offset file file) file ≡ [] = before_is file [] file refl in
    record { split = ap (λ u. u ++ file) (sym is); behind = subst (λ u. IsBehind u p) (sym is) h }

-- the place behind so many bytes from the start on
pub at_skipped : (file : List ℕ) (n : ℕ) (p q : LineColumn) → IsBehind [] p → ((before : List ℕ) → IsBehind before p → IsBehind (before ++ take n file) q) → IsAt file (drop n file) q
at_skipped file n p q start moved =
    let at : IsAt file file p = at_start file p start in
    at_moves file file (take n file) (drop n file) p q at (sym (take-append-drop n file)) (moved (take (offset file file) file) at.behind)

-- ---- the gap

pub gap_short : (rest : List ℕ) → length (gap between rest) ≤ length rest
gap_short rest =
    let h = gap_is_end rest in
    let all : length rest ≡ length h.front + length (gap between rest) = ap length h.joined ∙ length-append h.front (gap between rest) in
    omega (arith, all)

pub gap_split : (rest : List ℕ) → rest ≡ take (length rest - length (gap between rest)) rest ++ gap between rest
gap_split rest =
    let h = gap_is_end rest in
    h.joined ∙ ap (λ u. u ++ gap between rest) (sym (before_is rest h.front (gap between rest) h.joined))

pub gap_drop : (rest : List ℕ) → drop (length rest - length (gap between rest)) rest ≡ gap between rest
gap_drop rest = let h = gap_is_end rest in end_rest rest (gap between rest) h.front h.joined

touches : (m n : ℕ) → n ≤ m → ((m - n) == 0) ≡ (n == m)
touches m n h = grind (arith, nat_tests)

-- ---- a token

module _ (number : ℕ) (file rest here : List ℕ) (p q : LineColumn) (is : here ≡ gap between rest) (at : IsAt file rest p) (moved : (before : List ℕ) → IsBehind before p → IsBehind (before ++ take (length rest - length here) rest) q) where
  pub at_here : IsAt file here q
  at_here =
      let split : rest ≡ take (length rest - length here) rest ++ here = subst (λ u. rest ≡ take (length rest - length u) rest ++ u) (sym is) (gap_split rest) in
      at_moves file rest (take (length rest - length here) rest) here p q at split (moved (take (offset file rest) file) at.behind)

  pub token_next : (reading : Reading) (token : Token) → (s : Span) → s ≡ record { file = number; line = q.line; column = q.column } → token.at ≡ s → token.touching ≡ ((length rest - length here) == 0) → token.kind ≡ reading.kind → IsReading here reading → Next number file rest token (drop reading.length here)
  token_next reading token s span told touching kind h = record {
    text = h.text;
    longest = subst (λ u. Longest u h.text (drop reading.length here) token.kind) is
        (subst (λ u. Longest here h.text u token.kind) (sym behind) (subst (Longest here h.text h.rest) (sym kind) h.longest));
    in_range = subst IsInRange (sym kind) h.in_range;
    at = told ∙ place_is number file here q s span at_here ∙ ap (place number file) is;
    touching = touching ∙ touches (length rest) (length here) (subst (λ u. length u ≤ length rest) (sym is) (gap_short rest)) ∙ ap (λ u. length u == length rest) is;
  }
    where
      behind : drop reading.length here ≡ h.rest
      behind = ap (drop reading.length) h.longest.split ∙ drop_at h.text h.rest reading.length (sym h.taken)

-- what is left behind a token is shorter
pub left_shorter : (here : List ℕ) (reading : Reading) → IsReading here reading → (reading.length ≤ length here) × (0 < reading.length)
left_shorter here reading h = (omega (arith, ap length h.longest.split, length-append h.text h.rest, h.taken), some h.text refl)
  where
    some : (t : List ℕ) → h.text ≡ t → 0 < reading.length
    some [] e = absurd (spelled_some reading.kind (subst (λ u. Spells u reading.kind) e h.longest.spelled))
    some (b ∷ bs) e = let long : length h.text ≡ suc (length bs) = ap length e in omega (arith, long, h.taken)

-- ---- a fault

pub stops_next : (rest here : List ℕ) (stop : Stop) → here ≡ gap between rest → Stops here stop → StopsNext rest (farther (length rest - length here) stop)
stops_next rest here (Refused skipped rule) is s =
    let short : length here ≤ length rest = subst (λ u. length u ≤ length rest) (sym is) (gap_short rest) in
    let same : drop skipped here ≡ drop ((length rest - length here) + skipped) rest =
    ap (drop skipped) (subst (λ u. u ≡ drop (length rest - length u) rest) (sym is) (sym (gap_drop rest))) ∙ drop-drop skipped (length rest - length here) rest in
    (subst (λ u. Cause u (drop ((length rest - length here) + skipped) rest) rule) is (subst (λ u. Cause here u rule) same s.0), omega (arith, short, s.1))
stops_next rest here Memory is s = tt

-- ---- all tokens

pub run_more : (number : ℕ) (file rest : List ℕ) (ts : List Token) (middle left : List ℕ) (t : Token) → Run number file rest ts middle → Next number file middle t left → Run number file rest (ts ++ t ∷ []) left
run_more number file rest [] middle left t run next = (left, subst (λ u. Next number file u t left) (sym run) next, refl)
run_more number file rest (u ∷ us) middle left t run next = (run.0, run.1, run_more number file run.0 us middle left t run.2 next)

-- a fault is at something
pub cause_here : (bytes here : List ℕ) (rule : RuleId) → Cause bytes here rule → here ≢ []
cause_here bytes here rule (comment_open o) e = false≢true (ap opens_comment (sym e) ∙ o)
cause_here bytes here rule (text_open behind q unclosed) e = absurd (cc (sym q ∙ e))
cause_here bytes here rule (text_wrong behind text wrong q closed split right bad) e = false≢true (ap is_wrong (sym e) ∙ bad)
cause_here bytes here rule (large text rest n long big) e = nothing text refl
  where
    nothing : (t : List ℕ) → text ≡ t → ⊥
    nothing [] is = spelled_some (Number n) (subst (λ u. Spells u (Number n)) is long.spelled)
    nothing (b ∷ bs) is = absurd (cc (sym (long.split ∙ ap (λ u. u ++ rest) is) ∙ e))
cause_here bytes here rule (no_token some none closed quoteless) e = some e

pub stops_file : (number : ℕ) (file rest : List ℕ) (ts : List Token) (p : LineColumn) (stop : Stop) → IsAt file rest p → Run number file file ts rest → StopsNext rest stop → StopsFile number file (farther (length file - length rest) stop)
stops_file number file rest ts p (Refused skipped rule) at run s =
    let rest_is : drop (offset file rest) file ≡ rest = end_rest file rest (take (offset file rest) file) at.split in
    let same : drop skipped rest ≡ drop (offset file rest + skipped) file = ap (drop skipped) (sym rest_is) ∙ drop-drop skipped (offset file rest) file in
    let short : length rest ≤ length file = (omega (arith, ap length at.split, length-append (take (offset file rest) file) rest)) in
    (record { tokens = ts; left = rest; run = run; cause = subst (λ u. Cause (gap between rest) u rule) same s.0 }, inside (cause_here (gap between rest) (drop skipped rest) rule s.0) (omega (arith, short)))
  where
    inside : drop skipped rest ≢ [] → length rest ≤ length file → offset file rest + skipped < length file
    inside some short = go (cases_lt skipped (length rest))
      where
        go : (skipped < length rest) ⊎ (length rest ≤ skipped) → offset file rest + skipped < length file
        go (inl h) = omega (arith, h, short)
        go (inr h) = absurd (some (drop_all skipped rest h))
stops_file number file rest ts p Memory at run s = tt
