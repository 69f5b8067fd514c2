-- What the readers of quoted texts need.
use Rattle.std.proofs.Common.{subst, ◌≡◌, ℕ, suc, ◌≤◌, ◌<◌, List, [], ◌∷◌, ◌++◌, length, flat_map, true, refl, sym, ap, ap₂, ◌∙◌, append_assoc, append-nil, arith, rules, ◌⊎◌, inl, inr}
use Rattle.std.specs.List.{All, list_all}
use Rattle.std.specs.Prelude.{IsUtf8}
use Rattle.std.proofs.lemmas.List.Elements.{All-nil, All-push}
use Rattle.std.proofs.lemmas.Grind.{flat_map-append}
use Rattle.st_num.specs.Texts.{IsTextByte}
use Rattle.st_text.specs.Text.{TextTree, word, quote, list, escape_letter, escaped, is_word_byte, Ends}
use Rattle.st_text.specs.inner.Fronts.{Reads, ReadsNoTree, ReadsContent, ReadsNoContent, unescape}
use Rattle.st_text.specs.Trees.{tree_of}
use Rattle.st_text.specs.declared.tree.TextTree.{Quote, the_lemmas}
use Rattle.st_text.proofs.Bytes.{heads, tails, and_true, escaped_forms, escaped-unique, escaped-no_quote, content_unique}
use Rattle.st_text.proofs.Unique.{quote_tail}

-- ---- the first byte

pub letter_form : (x : ℕ) → 0 < unescape x → escaped (unescape x) ≡ 92 ∷ x ∷ []
unfolding escaped
letter_form x h = grind arith

pub text_byte_of_letter : (x : ℕ) → 0 < unescape x → IsTextByte (unescape x)
text_byte_of_letter x h = grind arith

pub escaped_letter : (x : ℕ) → 0 < unescape x → IsTextByte (unescape x) × (escaped (unescape x) ≡ 92 ∷ x ∷ [])
escaped_letter x h = (text_byte_of_letter x h, letter_form x h)

pub plain_byte : (b : ℕ) → 32 ≤ b → (b ≡ 34 → ⊥) → (b ≡ 92 → ⊥) → IsTextByte b × (escaped b ≡ b ∷ [])
unfolding escaped
plain_byte b h k l = (inl h, grind arith)

pub letter_back : (a : ℕ) → 0 < escape_letter a → unescape (escape_letter a) ≡ a
letter_back a h = grind arith

pub letter_positive : (a : ℕ) → 0 < escape_letter a → 0 < a
letter_positive a h = grind arith

pub no_control_byte : (a : ℕ) → escape_letter a ≡ 0 → IsTextByte a → a < 32 → ⊥
no_control_byte a h k l = grind arith

pub All-tail : (x : ℕ) (xs : List ℕ) → All IsTextByte (x ∷ xs) → All IsTextByte xs
All-tail x xs all = λ k d h. all (suc k) d (omega arith)

pub All-head : (x : ℕ) (xs : List ℕ) → All IsTextByte (x ∷ xs) → IsTextByte x
All-head x xs all = all 0 0 (omega arith)

pub All-behind : (xs ys : List ℕ) → All IsTextByte (xs ++ ys) → All IsTextByte ys
All-behind [] ys all = all
All-behind (x ∷ xs) ys all = All-behind xs ys (All-tail x (xs ++ ys) all)

-- the two ways in which the first byte may be written
content_front : (bytes s w : List ℕ) (a : ℕ) → ReadsContent bytes (a ∷ s) w
    → ((u : List ℕ) × (bytes ≡ 92 ∷ escape_letter a ∷ u) × (0 < escape_letter a)) ⊎ ((u : List ℕ) × (bytes ≡ a ∷ u) × (escape_letter a ≡ 0) × IsTextByte a)
content_front bytes s w a r =
    let u = flat_map escaped s ++ 34 ∷ w in
    let e : bytes ≡ escaped a ++ u = r.is ∙ append_assoc (escaped a) (flat_map escaped s) (34 ∷ w) in
    elim (escaped_forms a) [
      | inl p ↦ inl (u, e ∙ ap (λ v. v ++ u) p.0, p.1)
      | inr p ↦ inr (u, e ∙ ap (λ v. v ++ u) p.0, p.1, All-head a s r.printable)
    ]

content_empty : (s w : List ℕ) → ReadsContent [] s w → ⊥
content_empty [] w r = cc (r.is)
content_empty (a ∷ s) w r = elim (content_front [] s w a r) [ inl p ↦ cc (p.1) | inr p ↦ cc (p.1) ]

content_cut : (s w : List ℕ) → ReadsContent (92 ∷ []) s w → ⊥
content_cut [] w r = absurd (omega (arith, heads r.is))
content_cut (a ∷ s) w r = elim (content_front (92 ∷ []) s w a r) [
  | inl p ↦ (let e : [] ≡ escape_letter a ∷ p.0 = tails p.1 in cc (e))
  | inr p ↦ (let e : 92 ≡ a = heads p.1 in absurd (omega (arith, p.2, ap escape_letter e)))
]

content_bad_letter : (x : ℕ) (others s w : List ℕ) → unescape x ≡ 0 → ReadsContent (92 ∷ x ∷ others) s w → ⊥
content_bad_letter x others [] w h r = absurd (omega (arith, heads r.is))
content_bad_letter x others (a ∷ s) w h r = elim (content_front (92 ∷ x ∷ others) s w a r) [
  | inl p ↦ (let e : x ≡ escape_letter a = heads (tails p.1) in omega (arith, ap unescape e, letter_back a p.2, letter_positive a p.2))
  | inr p ↦ (let e : 92 ≡ a = heads p.1 in absurd (omega (arith, p.2, ap escape_letter e)))
]

content_control : (b : ℕ) (others s w : List ℕ) → b < 32 → ReadsContent (b ∷ others) s w → ⊥
content_control b others [] w h r = absurd (omega (arith, heads r.is))
content_control b others (a ∷ s) w h r = elim (content_front (b ∷ others) s w a r) [
  | inl p ↦ omega (arith, heads p.1)
  | inr p ↦ (let e : b ≡ a = heads p.1 in no_control_byte a p.2 p.3 (omega arith))
]

pub no_cut : (b : ℕ) (others : List ℕ) → b ≡ 92 → length others ≡ 0 → ReadsNoContent (b ∷ others)
no_cut b (x ∷ others) e f = absurd (omega arith)
no_cut b [] e f = record { never = λ s w r. content_cut s w (subst (λ u. ReadsContent u s w) (ap (λ v. v ∷ []) e) r) }

pub no_letter : (b x : ℕ) (others rest : List ℕ) → b ≡ 92 → others ≡ x ∷ rest → unescape x ≡ 0 → ReadsNoContent (b ∷ others)
no_letter b x others rest e f h = record { never = λ s w r. content_bad_letter x rest s w h (subst (λ u. ReadsContent u s w) (ap₂ ◌∷◌ e f) r) }

pub no_control : (b : ℕ) (others : List ℕ) → b < 32 → ReadsNoContent (b ∷ others)
no_control b others h = record { never = λ s w. content_control b others s w h }

-- ---- byte by byte

-- these bytes are read, and the rest is to be read
pub record SoFar (bytes found rest : List ℕ) : Type 0 where
  pub printable : All IsTextByte found
  pub is : bytes ≡ flat_map escaped found ++ rest

-- what is read so far is the front of all that the bytes may be
content_split : (f s r w : List ℕ) → flat_map escaped s ++ (34 ∷ w) ≡ flat_map escaped f ++ r → (others : List ℕ) × (s ≡ f ++ others) × (r ≡ flat_map escaped others ++ (34 ∷ w))
content_split [] s r w e = (s, refl, sym e)
content_split (a ∷ f) [] r w e = absurd (escaped-no_quote a w (flat_map escaped f ++ r) (e ∙ append_assoc (escaped a) (flat_map escaped f) r))
content_split (a ∷ f) (b ∷ s) r w e =
    let k = escaped-unique b a (flat_map escaped s ++ 34 ∷ w) (flat_map escaped f ++ r) (sym (append_assoc (escaped b) (flat_map escaped s) (34 ∷ w)) ∙ e ∙ append_assoc (escaped a) (flat_map escaped f) r) in
    let i = content_split f s r w k.1 in
    (i.0, ap₂ ◌∷◌ k.0 i.1, i.2)

flat_map-push : (xs : List ℕ) (y : ℕ) → flat_map escaped (xs ++ y ∷ []) ≡ flat_map escaped xs ++ escaped y
flat_map-push xs y = flat_map-append escaped xs (y ∷ []) ∙ ap (λ u. flat_map escaped xs ++ u) (append-nil (escaped y))

pub content_start : (bytes found : List ℕ) → found ≡ [] → SoFar bytes found bytes
content_start bytes found e = record { printable = subst (All IsTextByte) (sym e) (All-nil IsTextByte); is = ap (λ f. flat_map escaped f ++ bytes) (sym e) }

pub content_step : (bytes found longer rest others : List ℕ) (b : ℕ) → SoFar bytes found rest → rest ≡ escaped b ++ others → IsTextByte b → longer ≡ found ++ b ∷ [] → SoFar bytes longer others
content_step bytes found longer rest others b s e p g = subst (λ u. SoFar bytes u others) (sym g) (record {
  printable = All-push IsTextByte found b s.printable p;
  is = s.is ∙ ap (λ u. flat_map escaped found ++ u) e ∙ sym (append_assoc (flat_map escaped found) (escaped b) others) ∙ ap (λ u. u ++ others) (sym (flat_map-push found b));
})

content_refused : (bytes found rest : List ℕ) → SoFar bytes found rest → ((s w : List ℕ) → ReadsContent rest s w → ⊥) → (s w : List ℕ) → ReadsContent bytes s w → ⊥
content_refused bytes found rest f never s w r =
    let k = content_split found s rest w (sym r.is ∙ f.is) in
    never k.0 w (record { printable = All-behind found k.0 (subst (All IsTextByte) k.1 r.printable); is = k.2 })

pub content_none : (bytes found rest : List ℕ) → SoFar bytes found rest → ReadsNoContent rest → ReadsNoContent bytes
content_none bytes found rest f n = record { never = content_refused bytes found rest f n.never }

pub content_end : (bytes found rest : List ℕ) → SoFar bytes found rest → length rest ≡ 0 → ReadsNoContent bytes
content_end bytes found (x ∷ rest) f e = absurd (omega arith)
content_end bytes found [] f e = content_none bytes found [] f (record { never = content_empty })

pub content_ok : (bytes found rest others : List ℕ) (b : ℕ) → SoFar bytes found rest → rest ≡ b ∷ others → b ≡ 34 → ReadsContent bytes found others
content_ok bytes found rest others b f e k = record { printable = f.printable; is = f.is ∙ ap (λ u. flat_map escaped found ++ u) (e ∙ ap (λ c. c ∷ others) k) }

pub content_shorter : (rest others : List ℕ) (b : ℕ) → rest ≡ escaped b ++ others → length others < length rest
content_shorter rest others b e = elim (escaped_forms b) [
  | inl p ↦ omega (arith, ap length (e ∙ ap (λ v. v ++ others) p.0))
  | inr p ↦ omega (arith, ap length (e ∙ ap (λ v. v ++ others) p.0))
]

-- ---- a quoted text

pub tree_of-Quote : (s : List ℕ) → tree_of (Quote s) ≡ quote s
tree_of-Quote s = search (rules, the_lemmas)

pub quote_answer : (limit : ℕ) (bytes s w : List ℕ) → ReadsContent bytes s w → IsUtf8 s → Ends w → Reads limit (34 ∷ bytes) (tree_of (Quote s)) w
quote_answer limit bytes s w r u k = subst (λ t. Reads limit (34 ∷ bytes) t w) (sym (tree_of-Quote s))
    (record { spelled = record { utf8 = u; printable = r.printable }; shallow = omega arith; is = ap (λ v. 34 ∷ v) (r.is ∙ sym (quote_tail s w)); ends = k })

quote_content : (limit : ℕ) (bytes s w : List ℕ) → Reads limit (34 ∷ bytes) (quote s) w → ReadsContent bytes s w
quote_content limit bytes s w r = record { printable = r.spelled.printable; is = tails r.is ∙ quote_tail s w }

-- what begins with a quote is a quoted text or nothing
quote_only : (limit : ℕ) (bytes : List ℕ) → ((s w : List ℕ) → ReadsContent bytes s w → IsUtf8 s → Ends w → ⊥) → ReadsNoTree limit (34 ∷ bytes)
quote_only limit bytes n = record { never = go }
  where
    go : (t : TextTree) (w : List ℕ) → Reads limit (34 ∷ bytes) t w → ⊥
    go (word []) w r = absurd (omega (arith, r.spelled.0))
    go (word (b ∷ a)) w r = let e : 34 ≡ b = heads r.is in let yes : is_word_byte b ≡ true = (and_true (is_word_byte b) (list_all is_word_byte a) r.spelled.1).0 in let same : is_word_byte 34 ≡ is_word_byte b = ap is_word_byte e in absurd (cc)
    go (quote s) w r = n s w (quote_content limit bytes s w r) r.spelled.utf8 r.ends
    go (list ts) w r = absurd (omega (arith, heads r.is))

pub quote_none : (limit : ℕ) (bytes : List ℕ) → ReadsNoContent bytes → ReadsNoTree limit (34 ∷ bytes)
quote_none limit bytes n = quote_only limit bytes (λ s w r u k. n.never s w r)

pub quote_no_utf8 : (limit : ℕ) (bytes s w : List ℕ) → ReadsContent bytes s w → (IsUtf8 s → ⊥) → ReadsNoTree limit (34 ∷ bytes)
quote_no_utf8 limit bytes s w r n = quote_only limit bytes (λ t x q u k. n (subst IsUtf8 (content_unique t s x w (sym q.is ∙ r.is)).0 u))

pub quote_no_end : (limit : ℕ) (bytes s w : List ℕ) → ReadsContent bytes s w → (Ends w → ⊥) → ReadsNoTree limit (34 ∷ bytes)
quote_no_end limit bytes s w r n = quote_only limit bytes (λ t x q u k. n (subst Ends (content_unique t s x w (sym q.is ∙ r.is)).1 k))

-- ---- what each reader's goals need

pub ruleset byte_steps = (no_cut, no_letter, no_control, escaped_letter, plain_byte)

pub ruleset content_steps = (content_start, content_step, content_ok, content_end, content_none, content_shorter)

pub ruleset quote_steps = (quote_answer, quote_none, quote_no_end, quote_no_utf8)
