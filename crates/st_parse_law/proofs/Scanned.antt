-- Tokens that are written apart are scanned as these tokens.
use Rattle.std.proofs.Common.{◌≡◌, ℕ, ◌<◌, List, [], ◌∷◌, ◌++◌, length, map, Bool, true, false, refl, sym, ap, ◌∙◌, subst, arith, ◌==◌}
use Rattle.std.proofs.lemmas.Bool.{ne_eqb}
use Rattle.std.proofs.lemmas.Bool.Decides.{Decides-eqb}
use Rattle.st_num.specs.declared.token.Token.{Token}
use Rattle.st_num.specs.declared.token.TokenKind.{TokenKind}
use Rattle.st_num.specs.declared.token.TokenKind.TheVariants.{Text}
use Rattle.st_scan.specs.Gaps.{gap, between}
use Rattle.st_scan.specs.Places.{place}
use Rattle.st_scan.specs.Spelling.{Spells}
use Rattle.st_scan.specs.Tokens.{IsInRange, Longest, Next, Run, Tokens}
use Rattle.st_scan.proofs.Gaps.{gap_blank, gap_empty}
use Rattle.st_parse_law.specs.Written.{Piece, space, token, bytes_of, ends_before, IsAllowed, AreApart, shape, shapes, shapes_behind}
use Rattle.st_parse_law.proofs.Longest.{written_longest, token_open, gap_open}
use Rattle.st_parse_law.proofs.Encodings.{apart_utf8}

-- Blanks stand before these bytes in the rest of a file, or nothing does.
abbrev IsFar : Bool → List ℕ → List ℕ → Type 0
IsFar true rest xs = rest ≡ xs
IsFar false rest xs = length xs < length rest

record Before (touching : Bool) (rest xs : List ℕ) : Type 0 where
  same : gap between rest ≡ gap between xs
  far : IsFar touching rest xs

before_space : (t : Bool) (rest xs : List ℕ) → Before t rest (32 ∷ xs) → Before false rest xs
before_space true rest xs h = record {
  same = h.same ∙ gap_blank 32 (32 ∷ xs) xs refl refl;
  far = omega (arith, ap length h.far);
}
before_space false rest xs h = record {
  same = h.same ∙ gap_blank 32 (32 ∷ xs) xs refl refl;
  far = omega (arith, h.far);
}

touches : (t : Bool) (rest xs : List ℕ) → IsFar t rest xs → t ≡ (length xs == length rest)
touches true rest xs h = sym ((Decides-eqb (length xs) (length rest)).1 (ap length (sym h)))
touches false rest xs h = sym (ne_eqb (length xs) (length rest) (λ same. absurd (omega (arith, h, same))))

ranged : (k : TokenKind) → IsAllowed k → IsInRange k
ranged (Text text) a = tt
ranged _ a = a

module _ (number : ℕ) (file : List ℕ) where
  -- the token at the front of the rest
  abbrev token_at : List ℕ → Bool → TokenKind → Token
  token_at rest t k = record { at = place number file (gap between rest); touching = t; kind = k }

  next : (t : Bool) (rest text more : List ℕ) (k : TokenKind) → Before t rest (text ++ more)
      → Spells text k → IsAllowed k → ends_before k more ≡ true → Next number file rest (token_at rest t k) more
  next t rest text more k before spelled allowed ends =
      let front = before.same ∙ gap_open (text ++ more) (token_open text more k spelled ends) in
      record {
        text = text;
        longest = subst (λ u. Longest u text more k) (sym front) (written_longest text more k spelled ends);
        in_range = ranged k allowed;
        at = refl;
        touching = touches t rest (text ++ more) before.far ∙ ap (λ u. length u == length rest) (sym front);
      }

  record Scanned (t : Bool) (rest : List ℕ) (ps : List Piece) : Type 0 where
    tokens : List Token
    left : List ℕ
    run : Run number file rest tokens left
    ended : gap between left ≡ []
    same : map shape tokens ≡ shapes_behind t ps

  scanned : (t : Bool) (rest : List ℕ) (ps : List Piece) → Before t rest (bytes_of ps) → AreApart ps → Scanned t rest ps
  scanned t rest [] before h =
      record { tokens = []; left = rest; run = refl; ended = before.same ∙ sym (gap_empty [] refl); same = refl }
  scanned t rest (space ∷ ps) before h =
      let more = scanned false rest ps (before_space t rest (bytes_of ps) before) h in
      record { tokens = more.tokens; left = more.left; run = more.run; ended = more.ended; same = more.same }
  scanned t rest (token k text ∷ ps) before h =
      let more = scanned true (bytes_of ps) ps (record { same = refl; far = refl }) h.3 in
      record {
        tokens = token_at rest t k ∷ more.tokens;
        left = more.left;
        run = (bytes_of ps, next t rest text (bytes_of ps) k before h.0 h.1 h.2, more.run);
        ended = more.ended;
        same = ap (λ us. (k, t) ∷ us) more.same;
      }

pub written_tokens : (number : ℕ) (ps : List Piece) → AreApart ps
    → (tokens : List Token) × Tokens number (bytes_of ps) tokens × (map shape tokens ≡ shapes ps)
written_tokens number ps h =
    let found = scanned number (bytes_of ps) true (bytes_of ps) ps (record { same = refl; far = refl }) h in
    (found.tokens, record { utf8 = apart_utf8 ps h; left = found.left; run = found.run; ended = found.ended }, found.same)
