-- Each notation of height at most 100 is read as itself.
use Rattle.std.proofs.Common.{◌≡◌, refl, sym, ◌∙◌, ap, subst, ℕ, ◌+◌, ◌<◌, ◌≤◌, max, List, [], ◌∷◌, ◌++◌, map, length, append_assoc, append-nil, Bool, true, false, arith}
use Rattle.std.specs.Prelude.{◌==◌, Option, Some, None, nat_le, nat_lt, if◌then◌else◌}
use Rattle.std.specs.Option.{option_map, option_and_then}
use Rattle.std.proofs.lemmas.Bool.{eqb-true}
use Rattle.std.proofs.lemmas.Bool.Decides.{nat_tests}
use Rattle.st_num.specs.declared.mark.Mark.{Mark}
use Rattle.st_num.specs.declared.mark.Mark.TheVariants.{Turnstile, ReverseTurnstile, SquigglyArrowStar, SquigglyArrow, Colon, Subtype, Supertype, Approximately, Define, Semicolon, Arrow, DotDot}
use Rattle.st_il.specs.declared.template.Enclosure.{Enclosure}
use Rattle.st_il.specs.declared.template.Enclosure.TheVariants.{Parens, Brackets, Braces}
use Rattle.st_il.specs.declared.template.Role.{Role}
use Rattle.st_il.specs.declared.template.Role.TheVariants.{Divides, Opens, Closes, Other}
use Rattle.st_il.specs.declared.template.Template.{Template, out-Template}
use Rattle.st_il.specs.declared.template.Template.TheOpen.{Template-F}
use Rattle.st_il.specs.declared.template.Template.TheVariants as template
use Rattle.st_il.specs.declared.template.TagPart.{TagPart}
use Rattle.st_il.specs.declared.template.TagPart.TheVariants as tag_part
use Rattle.st_il.specs.declared.reading.Frame.{Frame}
use Rattle.st_il.specs.declared.reading.Frame.TheVariants.{Open, Left, Elements}
use Rattle.st_il.specs.Height.{highest}
use Rattle.st_num.specs.Signs.{left_of, right_of, left_gap, right_gap, grouping_at}
use Rattle.st_num.specs.declared.mark.Grouping.{Grouping}
use Rattle.st_num.specs.declared.mark.Grouping.TheVariants as grouping
use Rattle.st_il.specs.Notation.{role_of, closing, closing_of, closing_by, IsNotation, atom, hole, bracket, sequence, divided, without_left, AreElements, none, more}
use Rattle.st_il.specs.Template.{tag_parts_of, template_height, IsTemplate}
use Rattle.st_il.specs.Reading.{State, expecting, read, sign_level, divided_at, level_at, level_of, is_outermost, begin_sign, extend, binds, closed, limited, reduce, divide, is_same, shut, after_sign, run, whole, finish, reads}
use Rattle.st_il.proofs.TemplateForms.{tag_parts_all, tag_parts-Atom, tag_parts-Hole, tag_parts-Seq, tag_parts-Infix, tag_parts-Bracket, height-Seq, height-Infix, height-Bracket, level-Atom, level-Hole, level-Seq, level-Infix, level-Bracket}

-- ---- levels

pub divides-range : (sign : Mark) (n : ℕ) → role_of sign ≡ Divides n → (7 ≤ n) × (n ≤ 12)
divides-range Turnstile n e = let same : 7 ≡ n = cc in (omega arith, omega arith)
divides-range ReverseTurnstile n e = let same : 7 ≡ n = cc in (omega arith, omega arith)
divides-range SquigglyArrow n e = let same : 8 ≡ n = cc in (omega arith, omega arith)
divides-range SquigglyArrowStar n e = let same : 8 ≡ n = cc in (omega arith, omega arith)
divides-range Colon n e = let same : 9 ≡ n = cc in (omega arith, omega arith)
divides-range Subtype n e = let same : 9 ≡ n = cc in (omega arith, omega arith)
divides-range Supertype n e = let same : 9 ≡ n = cc in (omega arith, omega arith)
divides-range Approximately n e = let same : 9 ≡ n = cc in (omega arith, omega arith)
divides-range Define n e = let same : 9 ≡ n = cc in (omega arith, omega arith)
divides-range Semicolon n e = let same : 10 ≡ n = cc in (omega arith, omega arith)
divides-range Arrow n e = let same : 11 ≡ n = cc in (omega arith, omega arith)
divides-range DotDot n e = let same : 12 ≡ n = cc in (omega arith, omega arith)
divides-range _ n e = absurd (cc)

pub sign_level-range : (sign : Mark) → sign_level sign ≤ 12
sign_level-range sign = go (role_of sign) refl
  where
    go : (r : Role) → role_of sign ≡ r → divided_at r ≤ 12
    go (Divides n) e = (divides-range sign n e).1
    go (Opens enclosure) e = omega arith
    go (Closes enclosure) e = omega arith
    go Other e = omega arith

pub right-gap : (n : ℕ) → (n ≤ right_of n) × (right_of n ≤ n + 1)
right-gap n = go (grouping_at n)
  where
    go : (g : Grouping) → (n ≤ n + right_gap g) × (n + right_gap g ≤ n + 1)
    go grouping.None = (omega arith, omega arith)
    go grouping.Left = (omega arith, omega arith)
    go grouping.Right = (omega arith, omega arith)

pub left-gap : (n : ℕ) → (n ≤ left_of n) × (left_of n ≤ n + 1)
left-gap n = go (grouping_at n)
  where
    go : (g : Grouping) → (n ≤ n + left_gap g) × (n + left_gap g ≤ n + 1)
    go grouping.None = (omega arith, omega arith)
    go grouping.Left = (omega arith, omega arith)
    go grouping.Right = (omega arith, omega arith)

-- only from 8 on, since the signs of level 7 do not group
right-eight : (n : ℕ) → 7 ≤ n → 8 ≤ right_of n
right-eight n h = go (n == 7) refl
  where
    go : (b : Bool) → (n == 7) ≡ b → 8 ≤ right_of n
    go true e = subst (λ m. 8 ≤ right_of m) (sym (eqb-true n 7 e)) (omega arith)
    go false e =
        let above : 7 < n = grind (arith, nat_tests) in
        let wider : n ≤ right_of n = (right-gap n).0 in
        omega arith

-- a sign that takes a side of level n as its left one does not bind into its right edge
sign_after : (m n : ℕ) → left_of m ≤ n → m < right_of n
sign_after m n h = by_grouping (grouping_at m) refl h
  where
    wider : n ≤ right_of n
    wider = (right-gap n).0

    at_same : grouping_at m ≡ grouping.Left → m ≤ n → (b : Bool) → (m == n) ≡ b → m < right_of n
    at_same e k true f = subst (λ i. m < right_of i) (eqb-true m n f) (subst (λ g. m < m + right_gap g) (sym e) (omega arith))
    at_same e k false f = let below : m < n = grind (arith, nat_tests) in omega (arith, wider)

    by_grouping : (g : Grouping) → grouping_at m ≡ g → m + left_gap g ≤ n → m < right_of n
    by_grouping grouping.None e k = omega (arith, wider)
    by_grouping grouping.Right e k = omega (arith, wider)
    by_grouping grouping.Left e k = at_same e (omega arith) (m == n) refl

-- a part binds into the right edge of a template only from this level on
abbrev pub edge_at : Template-F Template → ℕ
edge_at (Template-F.Atom name) = 16
edge_at Template-F.Hole = 16
edge_at (Template-F.Seq parts) = 14
edge_at (Template-F.Infix left sign right) = right_of (sign_level sign)
edge_at (Template-F.Bracket opening inside) = 16

abbrev pub edge : Template → ℕ
edge t = edge_at (out-Template t)

level_edge_at : (x : Template-F Template) → level_at x ≤ edge_at x
level_edge_at (Template-F.Infix left sign right) = (right-gap (sign_level sign)).0
level_edge_at _ = omega arith

left_ends_at : (x : Template-F Template) (n : ℕ) → n ≤ 12 → left_of n ≤ level_at x → n < edge_at x
left_ends_at (Template-F.Infix left sign right) n h k = sign_after n (sign_level sign) k
left_ends_at _ n h k = omega arith

tight_edge_at : (x : Template-F Template) → 15 ≤ level_at x → 16 ≤ edge_at x
tight_edge_at (Template-F.Infix left sign right) h = absurd (omega (arith, sign_level-range sign))
tight_edge_at (Template-F.Seq parts) h = absurd (omega arith)
tight_edge_at _ h = omega arith

-- how tightly a part binds to what stands before it
abbrev pub grip_of : Role → ℕ
grip_of (Divides n) = n
grip_of (Opens enclosure) = 14
grip_of (Closes enclosure) = 0
grip_of Other = 14

abbrev pub grip : TagPart → ℕ
grip tag_part.Hole = 14
grip (tag_part.Atom name) = 14
grip (tag_part.Sign sign) = grip_of (role_of sign)

abbrev pub Ends : ℕ → List TagPart → Type 0
Ends m [] = Unit {0}
Ends m (w ∷ ws) = grip w < m

grip-low : (w : TagPart) → grip w ≤ 14
grip-low tag_part.Hole = omega arith
grip-low (tag_part.Atom name) = omega arith
grip-low (tag_part.Sign sign) = go (role_of sign) refl
  where
    go : (r : Role) → role_of sign ≡ r → grip_of r ≤ 14
    go (Divides n) e = omega (arith, divides-range sign n e)
    go (Opens enclosure) e = omega arith
    go (Closes enclosure) e = omega arith
    go Other e = omega arith

Ends-more : (m n : ℕ) (ws : List TagPart) → m ≤ n → Ends m ws → Ends n ws
Ends-more m n [] h e = tt
Ends-more m n (w ∷ ws) h e = omega arith

Ends-tight : (t : Template) (ws : List TagPart) → 15 ≤ level_of t → Ends (edge t) ws
Ends-tight t [] h = tt
Ends-tight t (w ∷ ws) h = omega (arith, tight_edge_at (out-Template t) h, grip-low w)

-- the least level that is due
abbrev pub least : List Frame → ℕ
least [] = 7
least (Open opening enclosure ∷ fs) = 7
least (Left left sign ∷ fs) = max 8 (right_of (sign_level sign))
least (Elements parts ∷ fs) = 15

-- a notation has the level of its place
pub level-least : {n : ℕ} {t : Template} → IsNotation n t → n ≤ 15 → n ≤ level_of t
level-least (atom name e a) h = omega (arith, ap level_of e, level-Atom name)
level-least (hole e) h = omega (arith, ap level_of e, level-Hole)
level-least (bracket opening enclosure inside e r d) h = omega (arith, ap level_of e, level-Bracket opening inside)
level-least (sequence parts k e d l) h = omega (arith, ap level_of e, level-Seq parts)
level-least (divided level left sign right k e r d f) h = omega (arith, ap level_of e, level-Infix left sign right, ap divided_at r)
level-least (without_left right k e d) h = omega (arith, ap level_of e, level-Infix (template.Seq []) Turnstile right)

-- ---- the steps of the reading

limited-low : (t : Template) → template_height t ≤ 100 → limited t ≡ Some t
limited-low t h = ap (λ b. if b then Some t else None) (le-is (template_height t) 100 h)
  where
    le-is : (m n : ℕ) → m ≤ n → nat_le m n ≡ true
    le-is m n h = grind (arith, nat_tests)

-- how tight a frame binds what is read
abbrev tightness : Frame → ℕ
tightness (Open opening enclosure) = 0
tightness (Left left sign) = right_of (sign_level sign)
tightness (Elements parts) = 14

binds-tight : (f : Frame) (n : ℕ) → n < tightness f → binds f n ≡ true
binds-tight (Open opening enclosure) n h = absurd (omega arith)
binds-tight (Left left sign) n h = grind (arith, nat_tests)
binds-tight (Elements parts) n h = refl

reduce-binds : (n : ℕ) (t : Template) (f : Frame) (fs : List Frame) → n < tightness f → template_height (closed f t) ≤ 100 → reduce n t (f ∷ fs) ≡ reduce n (closed f t) fs
reduce-binds n t f fs h k =
    ap (λ b. if b then option_and_then (λ grown. reduce n grown fs) (limited (closed f t)) else Some (t, f ∷ fs)) (binds-tight f n h)
    ∙ ap (option_and_then (λ grown. reduce n grown fs)) (limited-low (closed f t) k)

-- the template of all parts, from what a part made
abbrev goes_on : Option State → List TagPart → Option Template
goes_on o ws = option_and_then finish (option_and_then (λ next. run next ws) o)

-- what ends a frame closes it
grow : (t : Template) (f : Frame) (fs : List Frame) (ws : List TagPart) → Ends (tightness f) ws → 1 ≤ tightness f → tightness f ≤ 14 → template_height (closed f t) ≤ 100
    → reads (read t (f ∷ fs)) ws ≡ reads (read (closed f t) fs) ws
grow t f fs [] e p q k = ap (option_and_then (λ p. whole p.0 p.1)) (reduce-binds 0 t f fs (omega arith) k)
grow t f fs (tag_part.Hole ∷ ws) e p q k = absurd (omega arith)
grow t f fs (tag_part.Atom name ∷ ws) e p q k = absurd (omega arith)
grow t f fs (tag_part.Sign sign ∷ ws) e p q k = go (role_of sign) e
  where
    go : (r : Role) → grip_of r < tightness f → goes_on (after_sign t (f ∷ fs) sign r) ws ≡ goes_on (after_sign (closed f t) fs sign r) ws
    go (Divides n) e = ap (λ o. goes_on (option_and_then (divide sign n) o) ws) (reduce-binds n t f fs e k)
    go (Opens enclosure) e = absurd (omega arith)
    go (Closes enclosure) e = ap (λ o. goes_on (option_and_then (λ p. shut enclosure p.0 p.1) o) ws) (reduce-binds 0 t f fs e k)
    go Other e = absurd (omega arith)

-- a sign that its place allows divides
reduce-stops : (n : ℕ) (t : Template) (fs : List Frame) → n ≤ 12 → least fs ≤ n → reduce n t fs ≡ Some (t, fs)
reduce-stops n t [] h k = refl
reduce-stops n t (Open opening enclosure ∷ fs) h k = refl
reduce-stops n t (Left left sign ∷ fs) h k = ap (λ b. if b then option_and_then (λ grown. reduce n grown fs) (limited (closed (Left left sign) t)) else Some (t, Left left sign ∷ fs)) (lt-not n (right_of (sign_level sign)) (omega arith))
  where
    lt-not : (m n : ℕ) → n ≤ m → nat_lt m n ≡ false
    lt-not m n h = grind (arith, nat_tests)
reduce-stops n t (Elements parts ∷ fs) h k = absurd (omega arith)

divide-takes : (n : ℕ) (t : Template) (sign : Mark) (fs : List Frame) → left_of n ≤ level_of t → divide sign n (t, fs) ≡ Some (expecting (Left t sign ∷ fs))
divide-takes n t sign fs h = ap (λ b. if b then Some (expecting (Left t sign ∷ fs)) else None) (le-is (left_of n) (level_of t) h)
  where
    le-is : (m n : ℕ) → m ≤ n → nat_le m n ≡ true
    le-is m n h = grind (arith, nat_tests)

read_sign : (n : ℕ) (t : Template) (sign : Mark) (fs : List Frame) (ws : List TagPart) → role_of sign ≡ Divides n → least fs ≤ n → left_of n ≤ level_of t
    → reads (read t fs) (tag_part.Sign sign ∷ ws) ≡ reads (expecting (Left t sign ∷ fs)) ws
read_sign n t sign fs ws r h k =
    ap (λ role. goes_on (after_sign t fs sign role) ws) r
    ∙ ap (λ o. goes_on (option_and_then (divide sign n) o) ws) (reduce-stops n t fs (divides-range sign n r).1 h)
    ∙ ap (λ o. goes_on o ws) (divide-takes n t sign fs k)

same-enclosure : (enclosure : Enclosure) → is_same enclosure enclosure ≡ true
same-enclosure Parens = refl
same-enclosure Brackets = refl
same-enclosure Braces = refl

closes-it : (enclosure : Enclosure) → role_of (closing_of enclosure) ≡ Closes enclosure
closes-it Parens = refl
closes-it Brackets = refl
closes-it Braces = refl

pub closing-role : (opening : Mark) (enclosure : Enclosure) → role_of opening ≡ Opens enclosure → role_of (closing opening) ≡ Closes enclosure
closing-role opening enclosure r = ap (λ role. role_of (closing_by opening role)) r ∙ closes-it enclosure

read_closing : (t : Template) (opening : Mark) (enclosure : Enclosure) (fs : List Frame) (ws : List TagPart) → role_of opening ≡ Opens enclosure → template_height (template.Bracket opening t) ≤ 100
    → reads (read t (Open opening enclosure ∷ fs)) (tag_part.Sign (closing opening) ∷ ws) ≡ reads (read (template.Bracket opening t) fs) ws
read_closing t opening enclosure fs ws r h =
    ap (λ role. goes_on (after_sign t (Open opening enclosure ∷ fs) (closing opening) role) ws) (closing-role opening enclosure r)
    ∙ ap (λ b. goes_on (if b then option_map (λ bracket. read bracket fs) (limited (template.Bracket opening t)) else None) ws) (same-enclosure enclosure)
    ∙ ap (λ o. goes_on (option_map (λ bracket. read bracket fs) o) ws) (limited-low (template.Bracket opening t) h)

-- ---- a template that is read at each place that it fits

abbrev pub Readable : Template → Type 0
Readable t = (fs : List Frame) (ws : List TagPart) → template_height t ≤ 100 → least fs ≤ level_of t → Ends (edge t) ws → reads (expecting fs) (tag_parts_of t ++ ws) ≡ reads (read t fs) ws

-- behind an element it begins a further one
abbrev Follows : Template → Type 0
Follows t = (u : Template) (fs : List Frame) (ws : List TagPart) → reads (read u fs) (tag_parts_of t ++ ws) ≡ reads (expecting (extend u fs)) (tag_parts_of t ++ ws)

read_atom : (name : List ℕ) → Readable (template.Atom name)
read_atom name fs ws h k e = ap (λ vs. reads (expecting fs) (vs ++ ws)) (tag_parts-Atom name)

read_hole : Readable template.Hole
read_hole fs ws h k e = ap (λ vs. reads (expecting fs) (vs ++ ws)) tag_parts-Hole

read_bracket : (opening : Mark) (enclosure : Enclosure) (inside : Template) → role_of opening ≡ Opens enclosure → 7 ≤ level_of inside → Readable inside → Readable (template.Bracket opening inside)
read_bracket opening enclosure inside r l d fs ws h k e =
    let low : template_height inside ≤ 100 = omega (arith, height-Bracket opening inside) in
    let ends : Ends (edge inside) (tag_part.Sign (closing opening) ∷ ws) = omega (arith, ap grip_of (closing-role opening enclosure r), level_edge_at (out-Template inside)) in
    ap (λ vs. reads (expecting fs) (vs ++ ws)) (tag_parts-Bracket opening inside)
    ∙ ap (λ role. goes_on (begin_sign fs opening role) ((tag_parts_of inside ++ tag_part.Sign (closing opening) ∷ []) ++ ws)) r
    ∙ ap (reads (expecting (Open opening enclosure ∷ fs))) (append_assoc (tag_parts_of inside) (tag_part.Sign (closing opening) ∷ []) ws)
    ∙ d (Open opening enclosure ∷ fs) (tag_part.Sign (closing opening) ∷ ws) low l ends
    ∙ read_closing inside opening enclosure fs ws r h

read_divided : (n : ℕ) (left : Template) (sign : Mark) (right : Template) → role_of sign ≡ Divides n → left_of n ≤ level_of left → right_of n ≤ level_of right → Readable left → Readable right → Readable (template.Infix left sign right)
read_divided n left sign right r hl hr dl dr fs ws h k e =
    let range = divides-range sign n r in
    let level : sign_level sign ≡ n = ap divided_at r in
    let low_left : template_height left ≤ 100 = omega (arith, height-Infix left sign right) in
    let low_right : template_height right ≤ 100 = omega (arith, height-Infix left sign right) in
    let place : least fs ≤ n = omega (arith, level-Infix left sign right) in
    let gap = right-gap n in
    let ends : Ends (edge right) ws = Ends-more (right_of n) (edge right) ws (omega (arith, level_edge_at (out-Template right))) (subst (λ m. Ends m ws) (ap edge_at (template.outs-Infix left sign right) ∙ ap right_of level) e) in
    let tight : tightness (Left left sign) ≡ right_of n = ap right_of level in
    ap (λ vs. reads (expecting fs) (vs ++ ws)) (tag_parts-Infix left sign right)
    ∙ ap (reads (expecting fs)) (append_assoc (tag_parts_of left) (tag_part.Sign sign ∷ tag_parts_of right) ws)
    ∙ dl fs (tag_part.Sign sign ∷ (tag_parts_of right ++ ws)) low_left (omega (arith, left-gap n)) (omega (arith, ap grip_of r, left_ends_at (out-Template left) n range.1 hl))
    ∙ read_sign n left sign fs (tag_parts_of right ++ ws) r place hl
    ∙ dr (Left left sign ∷ fs) ws low_right (omega (arith, tight, right-eight n range.0)) ends
    ∙ grow right (Left left sign) fs ws (subst (λ m. Ends m ws) (ap edge_at (template.outs-Infix left sign right)) e) (omega (arith, tight)) (omega (arith, tight)) h

outermost : (fs : List Frame) → least fs ≤ 7 → is_outermost fs ≡ true
outermost [] h = refl
outermost (Open opening enclosure ∷ fs) h = refl
outermost (Left left sign ∷ fs) h = absurd (omega arith)
outermost (Elements parts ∷ fs) h = absurd (omega arith)

read_without_left : (right : Template) → 8 ≤ level_of right → Readable right → Readable (template.Infix (template.Seq []) Turnstile right)
read_without_left right hr dr fs ws h k e =
    let nothing = template.Seq [] in
    let low_right : template_height right ≤ 100 = omega (arith, height-Infix nothing Turnstile right) in
    let place : least fs ≤ 7 = omega (arith, level-Infix nothing Turnstile right) in
    let at : Ends 8 ws = subst (λ m. Ends m ws) (ap edge_at (template.outs-Infix nothing Turnstile right)) e in
    ap (λ vs. reads (expecting fs) (vs ++ ws)) (tag_parts-Infix nothing Turnstile right ∙ ap (λ vs. vs ++ tag_part.Sign Turnstile ∷ tag_parts_of right) (tag_parts-Seq []))
    ∙ ap (λ b. goes_on (if b then Some (expecting (Left nothing Turnstile ∷ fs)) else None) (tag_parts_of right ++ ws)) (outermost fs place)
    ∙ dr (Left nothing Turnstile ∷ fs) ws low_right hr (Ends-more 8 (edge right) ws (omega (arith, level_edge_at (out-Template right))) at)
    ∙ grow right (Left nothing Turnstile) fs ws at (omega arith) (omega arith) h

-- ---- sequences

-- the elements before one, where there are some
abbrev under : List Template → List Frame → List Frame
under [] fs = fs
under (t ∷ ts) fs = Elements (t ∷ ts) ∷ fs

under-more : (ts : List Template) (t : Template) (fs : List Frame) → under (ts ++ t ∷ []) fs ≡ Elements (ts ++ t ∷ []) ∷ fs
under-more [] t fs = refl
under-more (u ∷ us) t fs = refl

extend-under : (ts : List Template) (t : Template) (fs : List Frame) → least fs ≤ 14 → extend t (under ts fs) ≡ Elements (ts ++ t ∷ []) ∷ fs
extend-under [] t [] h = refl
extend-under [] t (Open opening enclosure ∷ fs) h = refl
extend-under [] t (Left left sign ∷ fs) h = refl
extend-under [] t (Elements parts ∷ fs) h = absurd (omega arith)
extend-under (u ∷ us) t fs h = refl

follows_sign : (opening : Mark) (enclosure : Enclosure) (u : Template) (fs : List Frame) (ws : List TagPart) → role_of opening ≡ Opens enclosure → reads (read u fs) (tag_part.Sign opening ∷ ws) ≡ reads (expecting (extend u fs)) (tag_part.Sign opening ∷ ws)
follows_sign opening enclosure u fs ws r = ap (λ role. goes_on (after_sign u fs opening role) ws) r

follows : {n : ℕ} {t : Template} → IsNotation n t → 15 ≤ n → Follows t
follows (atom name e a) h u fs ws =
    let is = ap tag_parts_of e ∙ tag_parts-Atom name in
    subst (λ vs. reads (read u fs) (vs ++ ws) ≡ reads (expecting (extend u fs)) (vs ++ ws)) (sym is) refl
follows (hole e) h u fs ws =
    let is = ap tag_parts_of e ∙ tag_parts-Hole in
    subst (λ vs. reads (read u fs) (vs ++ ws) ≡ reads (expecting (extend u fs)) (vs ++ ws)) (sym is) refl
follows (bracket opening enclosure inside e r d) h u fs ws =
    let is = ap tag_parts_of e ∙ tag_parts-Bracket opening inside in
    subst (λ vs. reads (read u fs) (vs ++ ws) ≡ reads (expecting (extend u fs)) (vs ++ ws)) (sym is)
    (follows_sign opening enclosure u fs ((tag_parts_of inside ++ tag_part.Sign (closing opening) ∷ []) ++ ws) r)
follows (sequence parts k e d l) h u fs ws = absurd (omega arith)
follows (divided level left sign right k e r d f) h u fs ws = absurd (omega (arith, divides-range sign level r))
follows (without_left right k e d) h u fs ws = absurd (omega arith)

-- an element that is read at each place and behind each other
pub record Element (t : Template) : Type 0 where
  pub readable : Readable t
  pub follows : Follows t
  pub tight : 15 ≤ level_of t

abbrev pub Elements_of : List Template → Type 0
Elements_of [] = Unit {0}
Elements_of (t ∷ ts) = Element t × Elements_of ts

read_more : (ts : List Template) (t : Template) (us : List Template) (fs : List Frame) (ws : List TagPart) → Elements_of us → least fs ≤ 14 → 1 ≤ length ts + length us
    → template_height (template.Seq (ts ++ t ∷ us)) ≤ 100 → highest (map template_height us) ≤ 99 → Ends 14 ws
    → reads (read t (under ts fs)) (tag_parts_all us ++ ws) ≡ reads (read (template.Seq (ts ++ t ∷ us)) fs) ws
read_more [] t [] fs ws d p l h k e = absurd (omega arith)
read_more (v ∷ vs) t [] fs ws d p l h k e = grow t (Elements (v ∷ vs)) fs ws e (omega arith) (omega arith) h
read_more ts t (u ∷ us) fs ws d p l h k e =
    let low : template_height u ≤ 100 = omega arith in
    let rest : highest (map template_height us) ≤ 99 = omega arith in
    let behind = tag_parts_all us ++ ws in
    let same = append_assoc ts (t ∷ []) (u ∷ us) in
    ap (reads (read t (under ts fs))) (append_assoc (tag_parts_of u) (tag_parts_all us) ws)
    ∙ d.0.follows t (under ts fs) behind
    ∙ ap (λ gs. reads (expecting gs) (tag_parts_of u ++ behind)) (extend-under ts t fs p)
    ∙ d.0.readable (Elements (ts ++ t ∷ []) ∷ fs) behind low d.0.tight (Ends-tight u behind d.0.tight)
    ∙ ap (λ gs. reads (read u gs) behind) (sym (under-more ts t fs))
    ∙ read_more (ts ++ t ∷ []) u us fs ws d.1 p (omega (arith, length-more ts t)) (subst (λ parts. template_height (template.Seq parts) ≤ 100) (sym same) h) rest e
    ∙ ap (λ parts. reads (read (template.Seq parts) fs) ws) same
  where
    length-more : (xs : List Template) (x : Template) → length (xs ++ x ∷ []) ≡ length xs + 1
    length-more [] x = refl
    length-more (y ∷ xs) x = grind (arith, length-more xs x)

read_sequence : (parts : List Template) → 2 ≤ length parts → Elements_of parts → Readable (template.Seq parts)
read_sequence [] l d fs ws h k e = absurd (omega arith)
read_sequence (t ∷ ts) l d fs ws h k e =
    let high : highest (map template_height (t ∷ ts)) ≤ 99 = omega (arith, height-Seq (t ∷ ts)) in
    let low : template_height t ≤ 100 = omega arith in
    let rest : highest (map template_height ts) ≤ 99 = omega arith in
    let place : least fs ≤ 14 = omega (arith, level-Seq (t ∷ ts)) in
    let behind = tag_parts_all ts ++ ws in
    ap (λ vs. reads (expecting fs) (vs ++ ws)) (tag_parts-Seq (t ∷ ts))
    ∙ ap (reads (expecting fs)) (append_assoc (tag_parts_of t) (tag_parts_all ts) ws)
    ∙ d.0.readable fs behind low (omega (arith, d.0.tight)) (Ends-tight t behind d.0.tight)
    ∙ read_more [] t ts fs ws d.1 place (omega arith) h rest (subst (λ m. Ends m ws) (ap edge_at (template.outs-Seq (t ∷ ts))) e)

-- ---- each notation

mutual
  pub readable : {n : ℕ} {t : Template} → IsNotation n t → Readable t
  readable (atom name e a) = subst Readable (sym e) (read_atom name)
  readable (hole e) = subst Readable (sym e) read_hole
  readable (bracket opening enclosure inside e r d) = subst Readable (sym e) (read_bracket opening enclosure inside r (level-least d (omega arith)) (readable d))
  readable (sequence parts k e d l) = subst Readable (sym e) (read_sequence parts l (elements d))
  readable (divided level left sign right k e r d f) =
      let range = divides-range sign level r in
      let below_left : left_of level ≤ 15 = omega (arith, left-gap level) in
      let below_right : right_of level ≤ 15 = omega (arith, right-gap level) in
      subst Readable (sym e) (read_divided level left sign right r (level-least d below_left) (level-least f below_right) (readable d) (readable f))
  readable (without_left right k e d) = subst Readable (sym e) (read_without_left right (level-least d (omega arith)) (readable d))

  pub elements : {ts : List Template} → AreElements ts → Elements_of ts
  elements none = tt
  elements (more d ds) = (record { readable = readable d; follows = follows d (omega arith); tight = level-least d (omega arith) }, elements ds)

-- a template is read as itself
pub complete : (t : Template) → IsTemplate t → reads (expecting []) (tag_parts_of t) ≡ Some t
complete t is =
    ap (reads (expecting [])) (sym (append-nil (tag_parts_of t)))
    ∙ readable is.notation [] [] is.height (level-least is.notation (omega arith)) tt
    ∙ refl
