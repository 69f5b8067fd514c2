-- Pieces one behind the other, their bytes and their tokens.
use Rattle.std.proofs.Common.{◌≡◌, ℕ, List, [], ◌∷◌, ◌++◌, map, Bool, true, false, refl, sym, ap, ◌∙◌, append_assoc}
use Rattle.std.proofs.lemmas.List.{map-append}
use Rattle.st_num.specs.declared.token.Token.{Token}
use Rattle.st_num.specs.declared.token.TokenKind.{TokenKind}
use Rattle.st_grammar.specs.Terminals.{Terminal, terminal, kind_terminal}
use Rattle.st_parse_law.specs.Written.{Piece, space, token, bytes_of, shape, shapes_behind}

-- whether what comes behind these pieces touches them, where this says whether they touch
abbrev pub touch : Bool → List Piece → Bool
touch b [] = b
touch b (space ∷ ps) = touch false ps
touch b (token k t ∷ ps) = touch true ps

pub touch-append : (b : Bool) (ps qs : List Piece) → touch b (ps ++ qs) ≡ touch (touch b ps) qs
touch-append b [] qs = refl
touch-append b (space ∷ ps) qs = touch-append false ps qs
touch-append b (token k t ∷ ps) qs = touch-append true ps qs

pub bytes-append : (ps qs : List Piece) → bytes_of (ps ++ qs) ≡ bytes_of ps ++ bytes_of qs
bytes-append [] qs = refl
bytes-append (space ∷ ps) qs = ap (λ w. 32 ∷ w) (bytes-append ps qs)
bytes-append (token k t ∷ ps) qs = ap (λ w. t ++ w) (bytes-append ps qs) ∙ sym (append_assoc t (bytes_of ps) (bytes_of qs))

pub shapes-append :
    (b : Bool) (ps qs : List Piece) → shapes_behind b (ps ++ qs) ≡ shapes_behind b ps ++ shapes_behind (touch b ps) qs
shapes-append b [] qs = refl
shapes-append b (space ∷ ps) qs = shapes-append false ps qs
shapes-append b (token k t ∷ ps) qs = ap (λ w. (k, b) ∷ w) (shapes-append true ps qs)

-- the tokens of a front and of a back
pub record Cut (xs : List Token) (front back : List (TokenKind × Bool)) : Type 0 where
  pub ahead : List Token
  pub behind : List Token
  pub whole : xs ≡ ahead ++ behind
  pub fronts : map shape ahead ≡ front
  pub backs : map shape behind ≡ back

first_shape : {A : Type 0} (a b : A) (us vs : List A) → a ≡ b → us ≡ vs → a ∷ us ≡ b ∷ vs
first_shape a b us vs e f = cc

pub cut : (xs : List Token) (front back : List (TokenKind × Bool)) → map shape xs ≡ front ++ back → Cut xs front back
cut xs [] back e = record { ahead = []; behind = xs; whole = refl; fronts = refl; backs = e }
cut [] (s ∷ front) back e = absurd (cc)
cut (x ∷ xs) (s ∷ front) back e =
    let first : shape x ≡ s = cc in
    let more = cut xs front back (cc) in
    record {
      ahead = x ∷ more.ahead;
      behind = more.behind;
      whole = ap (λ w. x ∷ w) more.whole;
      fronts = first_shape (shape x) s (map shape more.ahead) front first more.fronts;
      backs = more.backs;
    }

-- the tokens of pieces that stand one behind the other
pub parted :
    (b : Bool) (ps qs : List Piece) (xs : List Token) → map shape xs ≡ shapes_behind b (ps ++ qs)
    → Cut xs (shapes_behind b ps) (shapes_behind (touch b ps) qs)
parted b ps qs xs e = cut xs (shapes_behind b ps) (shapes_behind (touch b ps) qs) (e ∙ shapes-append b ps qs)

-- the one token of a piece
pub record Single (xs : List Token) (k : TokenKind) (b : Bool) : Type 0 where
  pub only : Token
  pub is : xs ≡ only ∷ []
  pub kind : only.kind ≡ k
  pub touching : only.touching ≡ b

pub single : (xs : List Token) (k : TokenKind) (b : Bool) → map shape xs ≡ (k, b) ∷ [] → Single xs k b
single [] k b e = absurd (cc)
single (x ∷ []) k b e =
    let same : shape x ≡ (k, b) = cc in
    record { only = x; is = refl; kind = ap (λ s. s.0) same; touching = ap (λ s. s.1) same }
single (x ∷ y ∷ xs) k b e = absurd (cc)

-- ---- tokens as the grammar sees them

pub terminal_is : (names : List (List ℕ)) (x : Token) (k : TokenKind) → x.kind ≡ k → terminal names x ≡ kind_terminal names k x
terminal_is names x k e = ap (λ k. kind_terminal names k x) e

pub one_terminal :
    (names : List (List ℕ)) (xs : List Token) (k : TokenKind) (b : Bool) (s : Single xs k b)
    → map (terminal names) xs ≡ kind_terminal names k s.only ∷ []
one_terminal names xs k b s = ap (map (terminal names)) s.is ∙ ap (λ l. l ∷ []) (terminal_is names s.only k s.kind)

pub terminals_of_both :
    (names : List (List ℕ)) (xs ahead behind : List Token) (us vs : List Terminal) → xs ≡ ahead ++ behind
    → map (terminal names) ahead ≡ us → map (terminal names) behind ≡ vs → map (terminal names) xs ≡ us ++ vs
terminals_of_both names xs ahead behind us vs w u v =
    ap (map (terminal names)) w ∙ map-append (terminal names) ahead behind
    ∙ ap (λ l. l ++ map (terminal names) behind) u ∙ ap (λ l. us ++ l) v
