-- A file has one list of tokens or one first fault.
use Rattle.std.proofs.Common.{◌≡◌, ℕ, ◌≤◌, ◌<◌, ◌^◌, List, [], ◌∷◌, ◌++◌, length, take, drop, Bool, true, false, refl, sym, ap, ◌∙◌, subst, arith, ◌⊎◌, inl, inr}
use Rattle.std.proofs.lemmas.Bool.{false≢true, cases_order}
use Rattle.std.proofs.lemmas.List.{take_at, drop_at, take_all}
use Rattle.std.specs.List.{flat_map, list_all}
use Rattle.std.specs.Str.{IsUtf8, IsValidUpTo}
use Rattle.st_num.specs.declared.span.Span.{Span}
use Rattle.st_num.specs.declared.rule.RuleId.{RuleId}
use Rattle.st_num.specs.declared.token.Token.{Token}
use Rattle.st_num.specs.declared.token.TokenKind.{TokenKind}
use Rattle.st_num.specs.declared.token.TokenKind.TheVariants.{Number}
use Rattle.st_scan.specs.Bytes.{is_text_byte}
use Rattle.st_scan.specs.Gaps.{gap, between, opens_comment}
use Rattle.st_scan.specs.Places.{place}
use Rattle.st_scan.specs.Spelling.{Spells}
use Rattle.st_num.specs.Texts.{escaped}
use Rattle.st_scan.specs.Tokens.{Longest, Next, Run, Tokens, IsInRange}
use Rattle.st_scan.specs.Faults.{Cause, comment_open, text_open, text_wrong, large, no_token, TokenFault, FirstFault, of_token, of_utf8, IsQuote, NoToken, closes_text, is_wrong}
use Rattle.st_scan.proofs.Texts.{tail_of, text_not_wrong, text_closes, wrong_unique, quoted_behind}
use Rattle.st_scan.proofs.Spelled.{group, group_at, spelled_group, spelled_some, same_kind, as_text}

-- ---- the next token is one

pub longest_unique : (bytes text rest other left : List ℕ) (k j : TokenKind) → Longest bytes text rest k → Longest bytes other left j → (text ≡ other) × (rest ≡ left) × (k ≡ j)
longest_unique bytes text rest other left k j a b =
    let one : length other ≤ length text = a.longest other left j b.split b.spelled in
    let two : length text ≤ length other = b.longest text rest k a.split a.spelled in
    let long : length text ≡ length other = omega arith in
    let joined : text ++ rest ≡ other ++ left = sym a.split ∙ b.split in
    let same : text ≡ other = sym (take_at text rest (length text) refl) ∙ ap (take (length text)) joined ∙ take_at other left (length text) (sym long) in
    let behind : rest ≡ left = sym (drop_at text rest (length text) refl) ∙ ap (drop (length text)) joined ∙ drop_at other left (length text) (sym long) in
    (same, behind, same_kind text k j a.spelled (subst (λ t. Spells t j) (sym same) b.spelled))

token_of : Span → Bool → TokenKind → Token
token_of at touching kind = record { at = at; touching = touching; kind = kind }

same_token : (t u : Token) → t.at ≡ u.at → t.touching ≡ u.touching → t.kind ≡ u.kind → t ≡ u
unfolding token_of
same_token t u a b c =
    ap (λ x. token_of x t.touching t.kind) a ∙ ap (λ x. token_of u.at x t.kind) b ∙ ap (λ x. token_of u.at u.touching x) c

pub next_unique : (number : ℕ) (file rest : List ℕ) (t u : Token) (l m : List ℕ) → Next number file rest t l → Next number file rest u m → (t ≡ u) × (l ≡ m)
next_unique number file rest t u l m a b =
    let same = longest_unique (gap between rest) a.text l b.text m t.kind u.kind a.longest b.longest in
    (same_token t u (a.at ∙ sym b.at) (a.touching ∙ sym b.touching) same.2, same.1)

-- ---- a cause keeps a token from being next

quote_group : (bytes behind : List ℕ) → IsQuote bytes behind → group_at bytes ≡ 2
quote_group bytes behind q = ap group_at q

-- a token that begins with a quote is a text
text_there : (bytes behind text rest : List ℕ) (kind : TokenKind) → IsQuote bytes behind → bytes ≡ text ++ rest → Spells text kind → (c : List ℕ) × (behind ≡ flat_map escaped c ++ 34 ∷ rest) × (list_all is_text_byte c ≡ true)
text_there bytes behind text rest kind q split spelled =
    let second : 2 ≡ group kind = sym (quote_group bytes behind q) ∙ ap group_at split ∙ spelled_group text rest kind spelled in
    let found = as_text text kind (sym second) spelled in
    (found.0, ap tail_of (sym q ∙ split ∙ ap (λ u. u ++ rest) found.2 ∙ quoted_behind found.0 rest), found.3)

pub open_text : (bytes behind : List ℕ) → IsQuote bytes behind → closes_text behind ≡ false → NoToken bytes
open_text bytes behind q unclosed text rest kind split spelled =
    let found = text_there bytes behind text rest kind q split spelled in
    false≢true (sym unclosed ∙ ap closes_text found.1 ∙ text_closes found.0 rest)

pub wrong_text : (bytes behind text wrong : List ℕ) → IsQuote bytes behind → behind ≡ flat_map escaped text ++ wrong → is_wrong wrong ≡ true → NoToken bytes
wrong_text bytes behind content wrong q split bad text rest kind parted spelled =
    let found = text_there bytes behind text rest kind q parted spelled in
    text_not_wrong content found.0 wrong rest bad found.2 (sym split ∙ found.1)

-- no token can be next
abbrev pub Stuck : ℕ → List ℕ → List ℕ → Type 0
Stuck number file rest = (t : Token) (left : List ℕ) → ¬ (Next number file rest t left)

out_of_range : (kind : TokenKind) (n : ℕ) → kind ≡ Number n → IsInRange kind → n < 2 ^ 128
out_of_range kind n e h = subst IsInRange e h

pub cause_stuck : (number : ℕ) (file rest here : List ℕ) (rule : RuleId) → Cause (gap between rest) here rule → Stuck number file rest
cause_stuck number file rest here rule (comment_open opens) t left next = false≢true (sym next.longest.no_comment ∙ opens)
cause_stuck number file rest here rule (text_open behind q unclosed) t left next = open_text (gap between rest) behind q unclosed next.text left t.kind next.longest.split next.longest.spelled
cause_stuck number file rest here rule (text_wrong behind text wrong q closed split right bad) t left next = wrong_text (gap between rest) behind text wrong q split bad next.text left t.kind next.longest.split next.longest.spelled
cause_stuck number file rest here rule (large text after n long big) t left next =
    let same = longest_unique (gap between rest) next.text left text after t.kind (Number n) next.longest long in
    let small : n < 2 ^ 128 = out_of_range t.kind n same.2 next.in_range in
    absurd (omega (arith, small, big))
cause_stuck number file rest here rule (no_token some none closed quoteless) t left next = none next.text left t.kind next.longest.split next.longest.spelled

pub ended_stuck : (number : ℕ) (file rest : List ℕ) → gap between rest ≡ [] → Stuck number file rest
ended_stuck number file rest e t left next = nothing next.text (sym e ∙ next.longest.split) next.longest.spelled
  where
    nothing : (text : List ℕ) → [] ≡ text ++ left → ¬ (Spells text t.kind)
    nothing [] h s = spelled_some t.kind s
    nothing (b ∷ bs) h s = absurd (cc)

-- ---- a cause is one

quote_opens : (bytes behind : List ℕ) → IsQuote bytes behind → opens_comment bytes ≡ false
quote_opens bytes [] q = ap opens_comment q
quote_opens bytes (b ∷ bs) q = ap opens_comment q

not_both : (bytes behind : List ℕ) → IsQuote bytes behind → ¬ (opens_comment bytes ≡ true)
not_both bytes behind q o = false≢true (sym (quote_opens bytes behind q) ∙ o)

-- what stands behind a quote is one
one_behind : (bytes behind other : List ℕ) → IsQuote bytes behind → IsQuote bytes other → behind ≡ other
one_behind bytes behind other q r = ap tail_of (sym q ∙ r)

pub cause_unique : (bytes here there : List ℕ) (r s : RuleId) → Cause bytes here r → Cause bytes there s → (here ≡ there) × (r ≡ s)
cause_unique bytes here there r s (comment_open o) (comment_open p) = (refl, refl)
cause_unique bytes here there r s (comment_open o) (text_open behind q unclosed) = absurd (not_both bytes behind q o)
cause_unique bytes here there r s (comment_open o) (text_wrong behind text wrong q closed split right bad) = absurd (not_both bytes behind q o)
cause_unique bytes here there r s (comment_open o) (large text rest n long big) = absurd (false≢true (sym long.no_comment ∙ o))
cause_unique bytes here there r s (comment_open o) (no_token some none closed quoteless) = absurd (false≢true (sym closed ∙ o))
cause_unique bytes here there r s (text_open behind q unclosed) (comment_open p) = absurd (not_both bytes behind q p)
cause_unique bytes here there r s (text_open behind q unclosed) (text_open other p also) = (refl, refl)
cause_unique bytes here there r s (text_open behind q unclosed) (text_wrong other text wrong p closed split right bad) = absurd (false≢true (sym unclosed ∙ ap closes_text (one_behind bytes behind other q p) ∙ closed))
cause_unique bytes here there r s (text_open behind q unclosed) (large text rest n long big) = absurd (open_text bytes behind q unclosed text rest (Number n) long.split long.spelled)
cause_unique bytes here there r s (text_open behind q unclosed) (no_token some none closed quoteless) = absurd (quoteless behind q)
cause_unique bytes here there r s (text_wrong behind text wrong q closed split right bad) (comment_open p) = absurd (not_both bytes behind q p)
cause_unique bytes here there r s (text_wrong behind text wrong q closed split right bad) (text_open other p unclosed) = absurd (false≢true (sym unclosed ∙ ap closes_text (one_behind bytes other behind p q) ∙ closed))
cause_unique bytes here there r s (text_wrong behind text wrong q closed split right bad) (text_wrong other more worse p shut parted fine poor) =
    (wrong_unique text more wrong worse bad poor right fine (sym split ∙ one_behind bytes behind other q p ∙ parted), refl)
cause_unique bytes here there r s (text_wrong behind text wrong q closed split right bad) (large found rest n long big) = absurd (wrong_text bytes behind text wrong q split bad found rest (Number n) long.split long.spelled)
cause_unique bytes here there r s (text_wrong behind text wrong q closed split right bad) (no_token some none shut quoteless) = absurd (quoteless behind q)
cause_unique bytes here there r s (large text rest n long big) (comment_open p) = absurd (false≢true (sym long.no_comment ∙ p))
cause_unique bytes here there r s (large text rest n long big) (text_open behind q unclosed) = absurd (open_text bytes behind q unclosed text rest (Number n) long.split long.spelled)
cause_unique bytes here there r s (large found rest n long big) (text_wrong behind text wrong q closed split right bad) = absurd (wrong_text bytes behind text wrong q split bad found rest (Number n) long.split long.spelled)
cause_unique bytes here there r s (large text rest n long big) (large other more m also huge) = (refl, refl)
cause_unique bytes here there r s (large text rest n long big) (no_token some none closed quoteless) = absurd (none text rest (Number n) long.split long.spelled)
cause_unique bytes here there r s (no_token some none closed quoteless) (comment_open p) = absurd (false≢true (sym closed ∙ p))
cause_unique bytes here there r s (no_token some none closed quoteless) (text_open behind q unclosed) = absurd (quoteless behind q)
cause_unique bytes here there r s (no_token some none closed quoteless) (text_wrong behind text wrong q shut split right bad) = absurd (quoteless behind q)
cause_unique bytes here there r s (no_token some none closed quoteless) (large text rest n long big) = absurd (none text rest (Number n) long.split long.spelled)
cause_unique bytes here there r s (no_token some none closed quoteless) (no_token also any shut unquoted) = (refl, refl)

-- nothing is wrong where a file has ended
pub cause_some : (here : List ℕ) (rule : RuleId) → ¬ (Cause [] here rule)
cause_some here rule (comment_open o) = false≢true o
cause_some here rule (text_open behind q unclosed) = absurd (cc q)
cause_some here rule (text_wrong behind text wrong q closed split right bad) = absurd (cc q)
cause_some here rule (large text rest n long big) = empty text long.split long.spelled
  where
    empty : (t : List ℕ) → [] ≡ t ++ rest → ¬ (Spells t (Number n))
    empty [] h s = spelled_some (Number n) s
    empty (b ∷ bs) h s = absurd (cc)
cause_some here rule (no_token some none closed quoteless) = some refl

-- ---- a file is read in one way

pub runs_meet : (number : ℕ) (file rest : List ℕ) (ts us : List Token) (l m : List ℕ) → Run number file rest ts l → Run number file rest us m → Stuck number file l → Stuck number file m → (ts ≡ us) × (l ≡ m)
runs_meet number file rest [] [] l m a b p q = (refl, sym a ∙ b)
runs_meet number file rest [] (u ∷ us) l m a b p q = absurd (p u b.0 (subst (λ r. Next number file r u b.0) a b.1))
runs_meet number file rest (t ∷ ts) [] l m a b p q = absurd (q t a.0 (subst (λ r. Next number file r t a.0) b a.1))
runs_meet number file rest (t ∷ ts) (u ∷ us) l m a b p q =
    let first = next_unique number file rest t u a.0 b.0 a.1 b.1 in
    let more = runs_meet number file a.0 ts us l m a.2 (subst (λ r. Run number file r us m) (sym first.1) b.2) p q in
    (ap (λ x. x ∷ ts) first.0 ∙ ap (λ xs. u ∷ xs) more.0, more.1)

pub tokens_unique : (number : ℕ) (file : List ℕ) (ts us : List Token) → Tokens number file ts → Tokens number file us → ts ≡ us
tokens_unique number file ts us a b =
    (runs_meet number file file ts us a.left b.left a.run b.run (ended_stuck number file a.left a.ended) (ended_stuck number file b.left b.ended)).0

-- a run to the end of a file meets no fault
pub no_token_fault : (number : ℕ) (file : List ℕ) (ts : List Token) (left here : List ℕ) (rule : RuleId) → Run number file file ts left → gap between left ≡ [] → ¬ (TokenFault number file here rule)
no_token_fault number file ts left here rule run ended f =
    let meet = runs_meet number file file ts f.tokens left f.left run f.run (ended_stuck number file left ended) (cause_stuck number file f.left here rule f.cause) in
    cause_some here rule (subst (λ u. Cause u here rule) (sym (ap (gap between) meet.1) ∙ ended) f.cause)

pub token_fault_unique : (number : ℕ) (file here there : List ℕ) (r s : RuleId) → TokenFault number file here r → TokenFault number file there s → (here ≡ there) × (r ≡ s)
token_fault_unique number file here there r s a b =
    let meet = runs_meet number file file a.tokens b.tokens a.left b.left a.run b.run (cause_stuck number file a.left here r a.cause) (cause_stuck number file b.left there s b.cause) in
    cause_unique (gap between a.left) here there r s a.cause (subst (λ u. Cause (gap between u) there s) (sym meet.1) b.cause)

pub valid_unique : (file : List ℕ) (n m : ℕ) → IsValidUpTo file n → IsValidUpTo file m → n ≡ m
valid_unique file n m a b = go (cases_order n m)
  where
    go : (n ≡ m) ⊎ ((n < m) ⊎ (m < n)) → n ≡ m
    go (inl e) = e
    go (inr (inl h)) = absurd (a.longest m h b.front)
    go (inr (inr h)) = absurd (b.longest n h a.front)

pub first_fault_unique : (number : ℕ) (file : List ℕ) (at there : Span) (r s : RuleId) → FirstFault number file at r → FirstFault number file there s → (at ≡ there) × (r ≡ s)
first_fault_unique number file at there r s (of_token here rule f e h) (of_token other also g d k) =
    let same = token_fault_unique number file here other rule also f g in
    (e ∙ ap (place number file) same.0 ∙ sym d, same.1)
first_fault_unique number file at there r s (of_token here rule f e h) (of_utf8 n v d k) = absurd (omega (arith, h n v, k here rule f))
first_fault_unique number file at there r s (of_utf8 n v e h) (of_token other also g d k) = absurd (omega (arith, k n v, h other also g))
first_fault_unique number file at there r s (of_utf8 n v e h) (of_utf8 m w d k) =
    (e ∙ ap (λ i. place number file (drop i file)) (valid_unique file n m v w) ∙ sym d, refl)

-- what is UTF-8 ends nowhere before the file does
pub valid_whole : (file : List ℕ) (n : ℕ) → IsUtf8 file → ¬ (IsValidUpTo file n)
valid_whole file n u v =
    let whole : take (length file) file ≡ file = take_all (length file) file (omega arith) in
    v.longest (length file) v.short (subst IsUtf8 (sym whole) u)

pub no_first_fault : (number : ℕ) (file : List ℕ) (ts : List Token) (at : Span) (rule : RuleId) → Tokens number file ts → ¬ (FirstFault number file at rule)
no_first_fault number file ts at rule a (of_token here r f e h) = no_token_fault number file ts a.left here r a.run a.ended f
no_first_fault number file ts at rule a (of_utf8 n v e h) = valid_whole file n a.utf8 v
