-- The files in which the tokens of all files stand.
use Rattle.std.proofs.Common.{◌≡◌, ◌≢◌, ℕ, zero, suc, ◌+◌, ◌-◌, ◌<◌, List, [], ◌∷◌, length, Bool, true, false, nat_lt, refl, sym, ap, subst, arith}
use Rattle.std.specs.Prelude.{slice_get}
use Rattle.st_parse_faults.specs.Place.{place_of, place_at}
use Rattle.st_num.specs.declared.span.Span.{Span}
use Rattle.st_parse.proofs.Standing.{both}
use Rattle.st_num.specs.declared.token.Token.{Token}
use Rattle.st_scan.specs.Tokens.{Run}
use Rattle.st_source.specs.BreachesStand.{StandBefore}
use Rattle.st_source.specs.Faults.{AllTokens}

run_before : (n number : ℕ) (file rest left : List ℕ) (tokens : List Token) → number < n → Run number file rest tokens left → StandBefore n tokens
run_before n number file rest left [] small run = tt
run_before n number file rest left (t ∷ ts) small (middle, next, more) =
    (subst (λ m. m < n) (sym (ap (λ (s : Span). s.file) next.at)) small, run_before n number file middle left ts small more)

pub all_before : (n number : ℕ) (files : List (List ℕ)) (tokens : List Token) → n ≡ number + length files → AllTokens number files tokens → StandBefore n tokens
all_before n number [] tokens e none = subst (StandBefore n) (sym none) tt
all_before n number (file ∷ files) tokens e (first, later, here, rest, is) =
    let small : number < n = omega (arith, e) in
    let next : n ≡ suc number + length files = omega (arith, e) in
    subst (StandBefore n) (sym is)
    (both (λ (t : Token). t.at.file < n) first later (run_before n number file file here.left first small here.run) (all_before n (suc number) files later next rest))

token_before : (n : ℕ) (tokens : List Token) (k : ℕ) → StandBefore n tokens → k < length tokens → (place_of (slice_get tokens k)).file < n
token_before n [] k all small = absurd (omega (arith, small))
token_before n (t ∷ ts) zero (h, hs) small = h
token_before n (t ∷ ts) (suc k) (h, hs) small = token_before n ts k hs (omega (arith, small))

-- the place of a token, or of the last one, is in one of the files
pub place_before : (files : List (List ℕ)) (tokens : List Token) (k : ℕ) → AllTokens 0 files tokens → tokens ≢ [] → (place_at tokens k).file < length files
place_before files [] k all some = absurd (some refl)
place_before files (t ∷ ts) k all some = go (nat_lt k (length (t ∷ ts))) refl
  where
    before : StandBefore (length files) (t ∷ ts)
    before = all_before (length files) 0 files (t ∷ ts) (omega arith) all

    go : (b : Bool) → nat_lt k (length (t ∷ ts)) ≡ b → (place_at (t ∷ ts) k).file < length files
    go true e = let small : k < length (t ∷ ts) = grind arith in rw e (token_before (length files) (t ∷ ts) k before small)
    go false e =
        let last : length (t ∷ ts) - 1 ≡ length ts = omega arith in
        rw e (subst (λ j. (place_of (slice_get (t ∷ ts) j)).file < length files) (sym last) (token_before (length files) (t ∷ ts) (length ts) before (omega arith)))
