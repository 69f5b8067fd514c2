-- What a scan answers, from what its parts say.
use Rattle.std.proofs.Common.{◌≡◌, ℕ, ◌≤◌, ◌<◌, List, [], length, drop, refl, sym, subst, arith, ◌⊎◌, inl, inr}
use Rattle.std.proofs.lemmas.Bool.{cases_lt}
use Rattle.std.proofs.lemmas.List.{length-drop}
use Rattle.std.specs.Str.{IsValidUpTo}
use Rattle.st_num.specs.declared.span.Span.{Span}
use Rattle.st_num.specs.declared.rule.RuleId.{RuleId}
use Rattle.st_num.specs.declared.rule.RuleId.TheVariants.{L4}
use Rattle.st_num.specs.declared.token.Token.{Token}
use Rattle.st_num.specs.declared.fault.Fault.{Fault as LexFault}
use Rattle.st_num.specs.declared.fault.Fault.TheVariants.{Refused, Memory}
use Rattle.st_scan.specs.Places.{place, offset}
use Rattle.st_scan.specs.Tokens.{Tokens}
use Rattle.st_scan.specs.Faults.{TokenFault, FirstFault, of_token, of_utf8}
use Rattle.st_scan.specs.inner.Steps.{ReadsAll, IsUtf8Length}
use Rattle.st_scan.specs.Answers.{HaveTexts, IsOnlyList, IsOnlyFault, TellsFirst, TellsOnly}
use Rattle.st_scan.proofs.TextBytes.{run_texts}
use Rattle.st_scan.proofs.Runs.{tokens_unique, no_first_fault, first_fault_unique, no_token_fault, token_fault_unique, valid_whole, valid_unique}

offset_of : (file : List ℕ) (n : ℕ) → n ≤ length file → offset file (drop n file) ≡ n
offset_of file n h = omega (arith, length-drop n file)

pub tokens_found : (number : ℕ) (file : List ℕ) (tokens : List Token) (size : ℕ) → ReadsAll number file tokens → IsUtf8Length file size → length file ≤ size → Tokens number file tokens
tokens_found number file tokens size reads valid all = record { utf8 = valid.whole all; left = reads.left; run = reads.run; ended = reads.ended }

pub only_list : (number : ℕ) (file : List ℕ) (tokens : List Token) → Tokens number file tokens → IsOnlyList number file tokens
only_list number file tokens h = record {
  only = λ others g. tokens_unique number file others tokens g h;
  faultless = λ at rule. no_first_fault number file tokens at rule h;
}

pub only_fault : (number : ℕ) (file : List ℕ) (at : Span) (rule : RuleId) → FirstFault number file at rule → IsOnlyFault number file at rule
only_fault number file at rule h = record {
  only = λ there other g. first_fault_unique number file there at other rule g h;
  tokenless = λ tokens g. no_first_fault number file tokens at rule g h;
}

pub tells_only : (number : ℕ) (file : List ℕ) (fault : LexFault) → TellsFirst number file fault → TellsOnly number file fault
tells_only number file (Refused at rule) h = only_fault number file at rule h
tells_only number file Memory h = tt

-- all tokens are read, but the file is not UTF-8
pub unread_utf8 : (number : ℕ) (file : List ℕ) (tokens : List Token) (size : ℕ) → ReadsAll number file tokens → IsUtf8Length file size → size < length file → FirstFault number file (place number file (drop size file)) L4
unread_utf8 number file tokens size reads valid short =
    of_utf8 size (valid.part short) refl (λ here rule f. absurd (no_token_fault number file tokens reads.left here rule reads.run reads.ended f))

module _ (number : ℕ) (file : List ℕ) (skipped size : ℕ) (rule : RuleId) (fault : TokenFault number file (drop skipped file) rule) (inside : skipped < length file) (valid : IsUtf8Length file size) where
  pub utf8_first : size ≤ skipped → FirstFault number file (place number file (drop size file)) L4
  utf8_first before = of_utf8 size (valid.part (omega arith)) refl
      (λ here other f. let same = (token_fault_unique number file here (drop skipped file) other rule f fault).0 in
      subst (λ u. size ≤ offset file u) (sym same) (omega (arith, offset_of file skipped (omega arith))))

  pub token_first : skipped < size → FirstFault number file (place number file (drop skipped file)) rule
  token_first before = of_token (drop skipped file) rule fault refl (λ n v. go n v (cases_lt size (length file)))
    where
      go : (n : ℕ) → IsValidUpTo file n → (size < length file) ⊎ (length file ≤ size) → offset file (drop skipped file) < n
      go n v (inl h) = let same : n ≡ size = valid_unique file n size v (valid.part h) in omega (arith, same, offset_of file skipped (omega arith))
      go n v (inr h) = absurd (valid_whole file n (valid.whole h) v)

pub told : (number : ℕ) (file : List ℕ) (fault : LexFault) (at : Span) (rule : RuleId) → fault ≡ Refused at rule → FirstFault number file at rule → TellsFirst number file fault
told number file fault at rule is h = subst (TellsFirst number file) (sym is) h

pub tokens_texts : (number : ℕ) (file : List ℕ) (tokens : List Token) → Tokens number file tokens → HaveTexts tokens
tokens_texts number file tokens h = run_texts number file [] file tokens h.left h.utf8 refl h.run
