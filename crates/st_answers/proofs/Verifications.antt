-- A verifier that is given the lines of a derivation, and what it says at the end.
use Rattle.std.proofs.Common.{◌≡◌, ℕ, suc, ◌+◌, ◌≤◌, List, [], ◌∷◌, ◌++◌, Some, None, true, false, length, ◌∙◌, sym, ap, ap₂, refl, subst, arith, inl, inr, append_assoc, append-nil, length-append}
use Rattle.std.specs.Prelude.{Contains, All, Result, Ok, Err, IfOk, MatchOption, Option, Bool}
use Rattle.std.specs.Bool.{MatchBool}
use Rattle.std.proofs.lemmas.List.Elements.{All-nil, All-push}
use Rattle.st_deriv.specs.declared.line.Ending.{Ending}
use Rattle.st_deriv.specs.declared.line.Line.{Line}
use Rattle.st_deriv.specs.declared.line.Line.TheVariants.{Head, From, Node, Step, End}
use Rattle.st_deriv.specs.LineText.{HasText, line_text, LineText, lines_text}
use Rattle.st_deriv.specs.LineText.{IsNoLine}
use Rattle.st_deriv.proofs.LineFeeds.{no_line_feed}
use Rattle.st_il.specs.declared.definition.Il.{Il}
use Rattle.st_il.specs.declared.type_rule.TypeRule.{TypeRule}
use Rattle.st_ilcheck.specs.Typed.{Typed}
use Rattle.st_ilread.specs.IlReading.{IsNoIl, IsFirstNoLine}
use Rattle.st_iltext.specs.IlText.{IlText}
use Rattle.st_iltext.proofs.Lines.{line_unique, no_line}
use Rattle.st_num.specs.declared.memory.NoMemory.{NoMemory}
use Rattle.st_answers.specs.declared.answer.Answer.{Answer}
use Rattle.st_answers.specs.declared.status.Status.{Status}
use Rattle.st_answers.specs.declared.status.Status.TheVariants.{Verification}
use Rattle.st_answers.specs.inner.Checks.{TakesFirst, Takes, HasTaken, going, refused, TakenTo, HasNoLines, EndsNow, Ends, Tells}
use Rattle.st_answers.specs.Verification.{VerifyGives, malformed, untyped, judged, unjudged, IsUnjudged, steps_in, Verified, accepted, refused as refuses, unfinished, endless}
use Rattle.st_answers.specs.Unbuilt.{IsUnbuilt}
use Rattle.st_answers.specs.VerdictTexts.{accepted_text, refused_text, refused_il_text, untyped_text}
use Rattle.st_verify.specs.declared.accepted.Accepted.{Accepted}
use Rattle.st_verify.specs.declared.fault.VerifyFault.{VerifyFault}
use Rattle.st_verify.specs.declared.fault.VerifyFault.TheVariants.{Refused}
use Rattle.st_semantics.specs.declared.verify_rule.VerifyRule.{VerifyRule}
use Rattle.st_semantics.specs.declared.verify_rule.VerifyRule.TheVariants.{V1, V3, V12}
use Rattle.st_semantics.specs.declared.notes.Notes.{Notes}
use Rattle.st_il.specs.Small.{IsSmallIl}
use Rattle.st_semantics.specs.Accepts.{ReadsTo, none, more, Accepts}
use Rattle.st_semantics.specs.Notes.{nothing_noted, noted}
use Rattle.st_semantics.specs.Verdict.{Verdict, IsInPlace}
use Rattle.st_verify.specs.Typing.{IsUntyped}
use Rattle.st_verify.specs.Verifier.{Checking, Feeds, FeedsNext}
use Rattle.st_verify.proofs.SmallModes.{small_keeps_modes}
use Rattle.st_verify.proofs.SmallNotings.{length-noted, accepted_place}

-- ---- what is noted of lines

pub read_length : (il : Il) (lines : List Line) (notes : Notes) → ReadsTo il lines notes → length notes.lines ≡ length lines
read_length il lines notes (none is) = ap (λ (n : Notes). length n.lines) is
read_length il all notes (more {lines} {before = before} line read verdict are is) =
    ap (λ (n : Notes). length n.lines) is ∙ length-noted il before line ∙ ap suc (read_length il lines before read)
    ∙ sym (ap length are ∙ longer lines)
  where
    longer : (xs : List Line) → length (xs ++ line ∷ []) ≡ suc (length xs)
    longer xs = omega (arith, length-append xs (line ∷ []))

abbrev steps_one : Line → ℕ
steps_one line = steps_in (line ∷ [])

steps_in-append : (lines others : List Line) → steps_in (lines ++ others) ≡ steps_in lines + steps_in others
steps_in-append [] others = omega arith
steps_in-append (Head format relation ∷ lines) others = steps_in-append lines others
steps_in-append (From values ∷ lines) others = steps_in-append lines others
steps_in-append (Node node ∷ lines) others = steps_in-append lines others
steps_in-append (Step number ∷ lines) others = omega (arith, steps_in-append lines others)
steps_in-append (End ending ∷ lines) others = steps_in-append lines others

steps-noted : (il : Il) (notes : Notes) (line : Line) → (noted il notes line).steps ≡ notes.steps + steps_one line
steps-noted il notes (Head format relation) = omega arith
steps-noted il notes (From values) = omega arith
steps-noted il notes (Node node) = omega arith
steps-noted il notes (Step number) = omega arith
steps-noted il notes (End ending) = omega arith

read_steps : (il : Il) (lines : List Line) (notes : Notes) → ReadsTo il lines notes → notes.steps ≡ steps_in lines
read_steps il lines notes (none is) = ap (λ (n : Notes). n.steps) is
read_steps il all notes (more {lines} {before = before} line read verdict are is) =
    ap (λ (n : Notes). n.steps) is ∙ steps-noted il before line ∙ ap (λ n. n + steps_one line) (read_steps il lines before read)
    ∙ sym (ap steps_in are ∙ steps_in-append lines (line ∷ []))

-- where the end was taken, the last line is an end line
in_place : (il : Il) (notes : Notes) (line : Line) → Verdict il notes line None → IsInPlace notes line
in_place il notes line verdict = accepted_place il notes line verdict

record EndsLine (lines : List Line) : Type 0 where
  before : List Line
  ending : Ending
  is : lines ≡ before ++ End ending ∷ []

last_ended : (il : Il) (before : Notes) (lines all : List Line) (line : Line) → Verdict il before line None → all ≡ lines ++ line ∷ [] → (noted il before line).ended ≡ true → EndsLine all
last_ended il before lines all (End ending) verdict are ended = record { before = lines; ending = ending; is = are }
last_ended il before lines all (Head format relation) verdict are ended = let place = in_place il before (Head format relation) verdict in cc (place.1, ended)
last_ended il before lines all (From values) verdict are ended = let place = in_place il before (From values) verdict in cc (place.1, ended)
last_ended il before lines all (Node node) verdict are ended = let place = in_place il before (Node node) verdict in cc (place.1, ended)
last_ended il before lines all (Step number) verdict are ended = let place = in_place il before (Step number) verdict in cc (place.1, ended)

accepts : (il : Il) (lines : List Line) (notes : Notes) → IsSmallIl il → ReadsTo il lines notes → notes.ended ≡ true → Accepts IsSmallIl il lines
accepts il lines notes small (none is) ended = cc
accepts il all notes small (more {lines} {before = before} line read verdict are is) ended =
    let last = last_ended il before lines all line verdict are (sym (ap (λ (n : Notes). n.ended) is) ∙ ended) in
    record { typed = small; modes = small_keeps_modes il small; notes = notes; read = more line read verdict are is; before = last.before; ending = last.ending; ended = last.is }

-- ---- a verifier takes lines

pub take_more : (il : Il) (lines : List Line) (line : Line) (old new : Checking) → HasTaken il lines old → Takes old line new → HasTaken il (lines ++ line ∷ []) new
take_more il lines line old new (going notes read is) takes = first (subst (λ o. Takes o line new) is takes)
  where
    first : TakesFirst (record { il = il; notes = notes; refusal = None }) line new → HasTaken il (lines ++ line ∷ []) new
    first (inl (verdict, then)) = going (noted il notes line) (more line read verdict refl refl) then
    first (inr (rule, verdict, then)) = refused lines [] line notes rule refl read verdict then
take_more il lines line old new (refused good after bad notes rule parts read verdict is) takes =
    let same = subst (λ o. Takes o line new) is takes in
    refused good (after ++ line ∷ []) bad notes rule (ap (λ ls. ls ++ line ∷ []) parts ∙ append_assoc good (bad ∷ after) (line ∷ [])) read verdict same

-- a verifier that is fed a line takes it, also where it answers a refusal
abbrev TakesSome : Checking → List ℕ → Checking → Type 0
TakesSome old bytes new = (line : Line) × LineText line bytes × Takes old line new

takes_fed : (old new : Checking) (bytes : List ℕ) (line : Line) (rule : VerifyRule) (at : ℕ) (typing : Option TypeRule) (refusal : Option VerifyFault) → old.refusal ≡ refusal
    → LineText line bytes → MatchOption refusal (FeedsNext old bytes (Err (Refused rule at typing)) new) (λ fault. (◌≡◌ {A = Result (Unit {0}) VerifyFault} (Err (Refused rule at typing)) (Err fault)) × (new ≡ old))
    → TakesSome old bytes new
takes_fed old new bytes line rule at typing None fresh text (inl (fed, is, (verdict, (answer, then)))) =
    (fed, is, subst (λ r. MatchOption r (TakesFirst old fed new) (λ fault. new ≡ old)) (sym fresh) (inr (rule, verdict, then)))
takes_fed old new bytes line rule at typing None fresh text (inr (no_text, broken)) = absurd (no_text.never line text)
takes_fed old new bytes line rule at typing (Some fault) stale text (answer, same) =
    (line, text, subst (λ r. MatchOption r (TakesFirst old line new) (λ fault. new ≡ old)) (sym stale) same)

pub takes_refused : (old new : Checking) (bytes : List ℕ) (is_line : Bool) (result : Result (Unit {0}) VerifyFault) (rule : VerifyRule) (at : ℕ) (typing : Option TypeRule)
    → result ≡ Err (Refused rule at typing) → Feeds old bytes result new → is_line ≡ true → MatchBool is_line ((line : Line) × LineText line bytes) (IsNoLine bytes)
    → TakesSome old bytes new
takes_refused old new bytes is_line result rule at typing is feeds known read =
    let (line, text) = subst (λ b. MatchBool b ((line : Line) × LineText line bytes) (IsNoLine bytes)) known read in
    takes_fed old new bytes line rule at typing old.refusal refl text (subst (λ r. Feeds old bytes r new) is feeds)

-- no more lines are noted than were taken
pub taken_length : (il : Il) (lines : List Line) (checking : Checking) → HasTaken il lines checking → length checking.notes.lines ≤ length lines
taken_length il lines checking (going notes read is) = omega (arith, ap (λ (c : Checking). length c.notes.lines) is, read_length il lines notes read)
taken_length il lines checking (refused good after bad notes rule parts read verdict is) =
    omega (arith, ap (λ (c : Checking). length c.notes.lines) is, read_length il good notes read, ap length parts, length-append good (bad ∷ after))

-- each line has a byte at least
lines_long : (lines : List Line) → length lines ≤ length (lines_text lines)
lines_long [] = omega arith
lines_long (line ∷ lines) = omega (arith, lines_long lines, length-append (line_text line ++ 10 ∷ []) (lines_text lines), length-append (line_text line) (10 ∷ []))

pub noted_few : (il : Il) (bytes rest : List ℕ) (checking : Checking) → TakenTo il bytes checking rest → length checking.notes.lines ≤ length bytes
noted_few il bytes rest checking taken =
    omega (arith, taken_length il taken.lines checking taken.taken, lines_long taken.lines, ap length taken.texts.is, ap length taken.parts, length-append taken.front rest)

-- before the first line
pub nothing_taken : (il : Il) (bytes : List ℕ) (checking : Checking) → checking ≡ record { il = il; notes = nothing_noted; refusal = None } → TakenTo il bytes checking bytes
nothing_taken il bytes checking is =
    record { lines = []; front = []; texts = record { have = All-nil HasText; is = refl }; parts = refl; taken = going nothing_noted (none refl) is }

-- one line more
lines_text-push : (lines : List Line) (line : Line) → lines_text (lines ++ line ∷ []) ≡ lines_text lines ++ (line_text line ++ 10 ∷ [])
lines_text-push [] line = append-nil (line_text line ++ 10 ∷ [])
lines_text-push (one ∷ lines) line =
    ap (λ t. (line_text one ++ 10 ∷ []) ++ t) (lines_text-push lines line) ∙ sym (append_assoc (line_text one ++ 10 ∷ []) (lines_text lines) (line_text line ++ 10 ∷ []))

pub taken_more : (il : Il) (bytes rest text behind : List ℕ) (line : Line) (old new : Checking) → TakenTo il bytes old rest → rest ≡ text ++ 10 ∷ behind
    → LineText line text → Takes old line new → TakenTo il bytes new behind
taken_more il bytes rest text behind line old new taken parts is takes =
    record {
      lines = taken.lines ++ line ∷ [];
      front = taken.front ++ (text ++ 10 ∷ []);
      texts = record {
        have = All-push HasText taken.lines line taken.texts.have is.has;
        is = ap₂ (λ front t. front ++ (t ++ 10 ∷ [])) taken.texts.is is.is ∙ sym (lines_text-push taken.lines line);
      };
      parts = taken.parts ∙ ap (λ r. taken.front ++ r) (parts ∙ sym (append_assoc text (10 ∷ []) behind)) ∙ sym (append_assoc taken.front (text ++ 10 ∷ []) behind);
      taken = take_more il taken.lines line old new taken.taken takes;
    }

pub taken_next : (il : Il) (bytes rest text behind : List ℕ) (is_line : Bool) (old new : Checking) → TakenTo il bytes old rest → rest ≡ text ++ 10 ∷ behind → is_line ≡ true
    → MatchBool is_line ((line : Line) × LineText line text × Takes old line new) (IsNoLine text) → TakenTo il bytes new behind
taken_next il bytes rest text behind is_line old new taken parts known read =
    let (line, is, takes) = subst (λ b. MatchBool b ((line : Line) × LineText line text × Takes old line new) (IsNoLine text)) known read in
    taken_more il bytes rest text behind line old new taken parts is takes

-- ---- bytes that are no lines

line_feeds : (line : Line) → HasText line → Contains (line_text line) 10 → ⊥
line_feeds line has (k, below, is) = no_line_feed line (line_text line) (record { has = has; is = refl }) k 10 below is

first_line : (lines : List Line) (line : Line) (rest : List ℕ) → lines_text (line ∷ lines) ++ rest ≡ line_text line ++ 10 ∷ (lines_text lines ++ rest)
first_line lines line rest = append_assoc (line_text line ++ 10 ∷ []) (lines_text lines) rest ∙ append_assoc (line_text line) (10 ∷ []) (lines_text lines ++ rest)

no_line_here : (lines others : List Line) (text behind rest : List ℕ) → All HasText lines → All HasText others → (Contains text 10 → ⊥) → IsNoLine text → (Contains rest 10 → ⊥)
    → lines_text lines ++ (text ++ 10 ∷ behind) ≡ lines_text others ++ rest → ⊥
no_line_here [] [] text behind rest have other single no_line_text ends same = no_line rest text behind ends (sym same)
no_line_here [] (other ∷ others) text behind rest have has single no_line_text ends same =
    let first = has 0 other (omega arith) in
    let apart = line_unique text (line_text other) behind (lines_text others ++ rest) single (line_feeds other first) (same ∙ first_line others other rest) in
    no_line_text.never other (record { has = first; is = apart.0 })
no_line_here (line ∷ lines) [] text behind rest have has single no_line_text ends same =
    no_line rest (line_text line) (lines_text lines ++ (text ++ 10 ∷ behind)) ends (sym same ∙ first_line lines line (text ++ 10 ∷ behind))
no_line_here (line ∷ lines) (other ∷ others) text behind rest have has single no_line_text ends same =
    let apart = line_unique (line_text line) (line_text other) (lines_text lines ++ (text ++ 10 ∷ behind)) (lines_text others ++ rest)
    (line_feeds line (have 0 line (omega arith))) (line_feeds other (has 0 other (omega arith)))
    (sym (first_line lines line (text ++ 10 ∷ behind)) ∙ same ∙ first_line others other rest) in
    no_line_here lines others text behind rest (λ k d h. have (suc k) d (omega arith)) (λ k d h. has (suc k) d (omega arith)) single no_line_text ends apart.1

pub no_lines : (il : Il) (bytes rest text behind : List ℕ) (old : Checking) → TakenTo il bytes old rest → rest ≡ text ++ 10 ∷ behind → (Contains text 10 → ⊥) → IsNoLine text
    → HasNoLines bytes
no_lines il bytes rest text behind old taken parts single no_text lines left are =
    no_line_here taken.lines lines text behind left taken.texts.have are.texts.have single no_text are.rest_has_no_end
    (ap₂ ◌++◌ (sym taken.texts.is) (sym parts) ∙ sym taken.parts ∙ are.parts ∙ ap (λ front. front ++ left) are.texts.is)

pub not_taken : (il : Il) (bytes rest text behind : List ℕ) (is_line : Bool) (old new : Checking) → TakenTo il bytes old rest → rest ≡ text ++ 10 ∷ behind → (Contains text 10 → ⊥)
    → is_line ≡ false → MatchBool is_line ((line : Line) × LineText line text × Takes old line new) (IsNoLine text) → HasNoLines bytes
not_taken il bytes rest text behind is_line old new taken parts single known read =
    no_lines il bytes rest text behind old taken parts single
    (subst (λ b. MatchBool b ((line : Line) × LineText line text × Takes old line new) (IsNoLine text)) known read)

-- ---- the answer

told : (il : Il) (lines : List Line) (rest : List ℕ) (notes : Notes) (result : Result Accepted VerifyFault) (status : Status) (bytes : List ℕ) → IsSmallIl il → ReadsTo il lines notes
    → EndsNow (record { il = il; notes = notes; refusal = None }) rest result → Tells result status bytes → Verified il lines rest status bytes
told il lines rest notes (Ok a) status bytes small read (empty, ended, count, steps) (is, text) =
    subst (λ s. Verified il lines rest s bytes) (sym is)
    (accepted (accepts il lines notes small read ended) empty
    (text ∙ ap₂ accepted_text (count ∙ read_length il lines notes read) (steps ∙ read_steps il lines notes read)))
told il lines rest notes (Err fault) status bytes small read (inl (empty, ended, is)) tells =
    let (status_is, text) = subst (λ f. Tells (Err f) status bytes) is tells in
    subst (λ s. Verified il lines rest s bytes) (sym status_is)
    (endless notes read ended empty (text ∙ ap (λ n. refused_text (n + 1) V12) (read_length il lines notes read)))
told il lines rest notes (Err fault) status bytes small read (inr (some, is)) tells =
    let (status_is, text) = subst (λ f. Tells (Err f) status bytes) is tells in
    subst (λ s. Verified il lines rest s bytes) (sym status_is)
    (unfinished notes read some (text ∙ ap (λ n. refused_text (n + 1) V3) (read_length il lines notes read)))

verified : (il : Il) (lines : List Line) (rest : List ℕ) (checking : Checking) (result : Result Accepted VerifyFault) (status : Status) (bytes : List ℕ) → IsSmallIl il → HasTaken il lines checking
    → Ends checking rest result → Tells result status bytes → Verified il lines rest status bytes
verified il lines rest checking result status bytes small (going notes read is) ends tells =
    told il lines rest notes result status bytes small read (subst (λ c. Ends c rest result) is ends) tells
verified il lines rest checking result status bytes small (refused good after line notes rule parts read verdict is) ends tells =
    let result_is = subst (λ c. Ends c rest result) is ends in
    let (status_is, text) = subst (λ r. Tells r status bytes) result_is tells in
    subst (λ s. Verified il lines rest s bytes) (sym status_is)
    (refuses good after line notes rule parts read verdict (text ∙ ap (λ n. refused_text (n + 1) rule) (read_length il good notes read)))

pub verify_answer : (il_bytes derivation rest : List ℕ) (il : Il) (checking : Checking) (verdict : Result Accepted VerifyFault) (result : Result Answer NoMemory)
    → IlText il il_bytes → Typed il → IsSmallIl il → TakenTo il derivation checking rest → (Contains rest 10 → ⊥) → Ends checking rest verdict
    → IfOk result (λ answer. Tells verdict answer.status answer.bytes.items)
    → IfOk result (λ answer. VerifyGives il_bytes derivation answer.status answer.bytes.items)
verify_answer il_bytes derivation rest il checking verdict (Err e) text typed small taken ends says tells = tt
verify_answer il_bytes derivation rest il checking verdict (Ok answer) text typed small taken ends says tells =
    judged il taken.lines rest typed small
    (record { language = text; lines_are = record { front = taken.front; texts = taken.texts; rest_has_no_end = ends; parts = taken.parts } })
    (verified il taken.lines rest checking verdict answer.status answer.bytes.items small taken.taken says tells)

abbrev GivesVerdict : List ℕ → List ℕ → Result Answer NoMemory → Type 0
GivesVerdict il_bytes derivation result = IfOk result (λ answer. VerifyGives il_bytes derivation answer.status answer.bytes.items)

-- the text of no internal language is refused at its first line that is none
pub no_language : (il_bytes derivation : List ℕ) (line : ℕ) (result : Result Answer NoMemory) → IsNoIl il_bytes × IsFirstNoLine il_bytes line
    → IfOk result (λ answer. answer.status ≡ Verification) → IfOk result (λ answer. answer.bytes.items ≡ refused_il_text line V1)
    → GivesVerdict il_bytes derivation result
no_language il_bytes derivation line (Err e) (no_il, first) status bytes = tt
no_language il_bytes derivation line (Ok answer) (no_il, first) status bytes =
    subst (λ s. VerifyGives il_bytes derivation s answer.bytes.items) (sym status) (malformed line no_il first bytes)

-- an internal language that breaks a rule on types is refused at its first definition that does
pub no_typing : (il_bytes derivation : List ℕ) (il : Il) (rule : VerifyRule) (line : ℕ) (typing : Option TypeRule) (least : TypeRule) (result : Result Answer NoMemory) → IlText il il_bytes
    → IsUntyped il rule line typing → typing ≡ Some least → IfOk result (λ answer. answer.status ≡ Verification) → IfOk result (λ answer. answer.bytes.items ≡ untyped_text line least)
    → GivesVerdict il_bytes derivation result
no_typing il_bytes derivation il rule line typing least (Err e) text breach is status bytes = tt
no_typing il_bytes derivation il rule line typing least (Ok answer) text breach is status bytes =
    let told : Some least ≡ Some breach.broken = sym is ∙ breach.typing_is in
    let same : least ≡ breach.broken = cc in
    subst (λ s. VerifyGives il_bytes derivation s answer.bytes.items) (sym status)
    (untyped il breach.place breach.broken text breach.breach (bytes ∙ ap₂ untyped_text breach.line_is same))

-- over other internal languages, and of other lines, nothing is judged
not_judged : (il_bytes derivation : List ℕ) (il : Il) (result : Result Answer NoMemory) → IlText il il_bytes → Typed il → IsUnjudged il derivation
    → IfOk result (λ answer. IsUnbuilt answer.status answer.bytes.items) → GivesVerdict il_bytes derivation result
not_judged il_bytes derivation il (Err e) text typed not_yet unbuilt = tt
not_judged il_bytes derivation il (Ok answer) text typed not_yet unbuilt =
    subst (λ s. VerifyGives il_bytes derivation s answer.bytes.items) (sym unbuilt.0) (unjudged il text typed not_yet unbuilt.1)

pub no_small : (il_bytes derivation : List ℕ) (il : Il) (result : Result Answer NoMemory) → IlText il il_bytes → Typed il → (IsSmallIl il → ⊥)
    → IfOk result (λ answer. IsUnbuilt answer.status answer.bytes.items) → GivesVerdict il_bytes derivation result
no_small il_bytes derivation il result text typed not_small unbuilt = not_judged il_bytes derivation il result text typed (inl not_small) unbuilt

pub no_derivation : (il_bytes derivation : List ℕ) (il : Il) (result : Result Answer NoMemory) → IlText il il_bytes → Typed il → HasNoLines derivation
    → IfOk result (λ answer. IsUnbuilt answer.status answer.bytes.items) → GivesVerdict il_bytes derivation result
no_derivation il_bytes derivation il result text typed no_lines_are unbuilt = not_judged il_bytes derivation il result text typed (inr no_lines_are) unbuilt
