-- What is read is a template, and its parts are those that were read.
use Rattle.std.proofs.Common.{◌≡◌, refl, sym, ◌∙◌, ap, subst, ℕ, ◌+◌, ◌≤◌, List, [], ◌∷◌, ◌++◌, length, append_assoc, append-nil, Bool, true, false, inl, inr, ◌⊎◌, arith}
use Rattle.std.specs.Prelude.{Option, Some, None, ◌&&◌, nat_le, if◌then◌else◌}
use Rattle.std.specs.Option.{option_map, option_and_then}
use Rattle.std.proofs.lemmas.Bool.Decides.{nat_tests}
use Rattle.st_num.specs.declared.mark.Mark.{Mark}
use Rattle.st_num.specs.declared.mark.Mark.TheVariants.{Turnstile, CloseParen, CloseBracket, CloseBrace}
use Rattle.st_il.specs.declared.template.Enclosure.{Enclosure}
use Rattle.st_il.specs.declared.template.Enclosure.TheVariants.{Parens, Brackets, Braces}
use Rattle.st_il.specs.declared.template.Role.{Role}
use Rattle.st_il.specs.declared.template.Role.TheVariants.{Divides, Opens, Closes, Other}
use Rattle.st_il.specs.declared.template.Template.{Template}
use Rattle.st_il.specs.declared.template.Template.TheVariants as template
use Rattle.st_il.specs.declared.template.TagPart.{TagPart}
use Rattle.st_il.specs.declared.template.TagPart.TheVariants as tag_part
use Rattle.st_il.specs.declared.reading.Frame.{Frame}
use Rattle.st_il.specs.declared.reading.Frame.TheVariants.{Open, Left, Elements}
use Rattle.st_num.specs.Signs.{left_of, right_of}
use Rattle.st_il.specs.Notation.{role_of, closing, closing_of, closing_by, IsNotation, atom, hole, bracket, sequence, divided, without_left, AreElements, none, more}
use Rattle.st_il.specs.Template.{tag_parts_of, template_height, IsTemplate, IsTagPart}
use Rattle.std.specs.List.{AllByRecursion}
use Rattle.st_il.specs.Reading.{State, expecting, read, sign_level, divided_at, level_of, may_lack_left, is_outermost, begin, begin_sign, extend, binds, closed, limited, reduce, divide, is_same, shut, after_sign, step, run, whole, finish, reads}
use Rattle.st_il.proofs.TemplateForms.{tag_parts_all, tag_parts_all-append, tag_parts-Atom, tag_parts-Hole, tag_parts-Seq, tag_parts-Infix, tag_parts-Bracket, height-Atom, height-Hole, level-Seq, level-Infix}
use Rattle.st_il.proofs.ReadingComplete.{divides-range, sign_level-range, right-gap}

-- the parts that led to a frame, and to a state
abbrev pub seen_by : Frame → List TagPart
seen_by (Open opening enclosure) = tag_part.Sign opening ∷ []
seen_by (Left left sign) = tag_parts_of left ++ tag_part.Sign sign ∷ []
seen_by (Elements parts) = tag_parts_all parts

abbrev pub before : List Frame → List TagPart
before [] = []
before (f ∷ fs) = before fs ++ seen_by f

abbrev pub seen : State → List TagPart
seen (expecting fs) = before fs
seen (read t fs) = before fs ++ tag_parts_of t

-- the level that is due
abbrev pub place : List Frame → ℕ
place [] = 7
place (Open opening enclosure ∷ fs) = 7
place (Left left sign ∷ fs) = right_of (sign_level sign)
place (Elements parts ∷ fs) = 15

abbrev pub IsLeft : Template → Mark → Type 0
IsLeft left sign = IsNotation (left_of (sign_level sign)) left ⊎ ((left ≡ template.Seq []) × (sign ≡ Turnstile))

-- each frame holds what its place allows
abbrev pub Stand : List Frame → Type 0
Stand [] = Unit {0}
Stand (Open opening enclosure ∷ fs) = Stand fs × (role_of opening ≡ Opens enclosure)
Stand (Left left sign ∷ fs) = Stand fs × (role_of sign ≡ Divides (sign_level sign)) × IsLeft left sign × (place fs ≤ sign_level sign)
Stand (Elements parts ∷ fs) = Stand fs × AreElements parts × (1 ≤ length parts) × (place fs ≤ 14)

-- the template stands well in the frames
pub record Placed (t : Template) (fs : List Frame) : Type 0 where
  pub frames : Stand fs
  pub notation : IsNotation (place fs) t
  pub low : template_height t ≤ 100

-- an element stands well in the frames
pub record Rests (t : Template) (fs : List Frame) : Type 0 where
  pub frames : Stand fs
  pub notation : IsNotation 15 t
  pub low : template_height t ≤ 100

abbrev pub Holds : State → Type 0
Holds (expecting fs) = Stand fs
Holds (read t fs) = Rests t fs

-- a state that stands well, reached by these parts
pub record Reached (ws : List TagPart) (st : State) : Type 0 where
  pub holds : Holds st
  pub spelled : seen st ≡ ws

abbrev pub ReachedBy : List TagPart → Option State → Type 0
ReachedBy ws None = Unit {0}
ReachedBy ws (Some st) = Reached ws st

-- ---- levels

-- what may stand at a tighter place may stand at a looser one
loosen : {m : ℕ} {t : Template} (n : ℕ) → n ≤ m → IsNotation m t → IsNotation n t
loosen n h (atom name e a) = atom name e a
loosen n h (hole e) = hole e
loosen n h (bracket opening enclosure inside e r d) = bracket opening enclosure inside e r d
loosen n h (sequence parts k e d l) = sequence parts (omega arith) e d l
loosen n h (divided level left sign right k e r d f) = divided level left sign right (omega arith) e r d f
loosen n h (without_left right k e d) = without_left right (omega arith) e d

-- it may stand at each place of its level
tighten : {m : ℕ} {t : Template} (n : ℕ) → n ≤ level_of t → IsNotation m t → IsNotation n t
tighten n h (atom name e a) = atom name e a
tighten n h (hole e) = hole e
tighten n h (bracket opening enclosure inside e r d) = bracket opening enclosure inside e r d
tighten n h (sequence parts k e d l) = sequence parts (omega (arith, ap level_of e, level-Seq parts)) e d l
tighten n h (divided level left sign right k e r d f) = divided level left sign right (omega (arith, ap level_of e, level-Infix left sign right, ap divided_at r)) e r d f
tighten n h (without_left right k e d) = without_left right (omega (arith, ap level_of e, level-Infix (template.Seq []) Turnstile right)) e d

place-low : (fs : List Frame) → place fs ≤ 15
place-low [] = omega arith
place-low (Open opening enclosure ∷ fs) = omega arith
place-low (Left left sign ∷ fs) = omega (arith, sign_level-range sign, right-gap (sign_level sign))
place-low (Elements parts ∷ fs) = omega arith

settled : (t : Template) (fs : List Frame) → Rests t fs → Placed t fs
settled t fs r = record { frames = r.frames; notation = loosen (place fs) (place-low fs) r.notation; low = r.low }

-- ---- a frame that closes

elements-more : {ts : List Template} {t : Template} → AreElements ts → IsNotation 15 t → AreElements (ts ++ t ∷ [])
elements-more none d = more d none
elements-more (more e es) d = more e (elements-more es d)

length-more : (xs : List Template) (x : Template) → length (xs ++ x ∷ []) ≡ length xs + 1
length-more [] x = refl
length-more (y ∷ xs) x = grind (arith, length-more xs x)

without : (left : Template) (sign : Mark) (t : Template) (n : ℕ) → left ≡ template.Seq [] → sign ≡ Turnstile → n ≤ sign_level sign → IsNotation (right_of (sign_level sign)) t → IsNotation n (template.Infix left sign t)
without left sign t n e f h d =
    let level : sign_level sign ≡ 7 = ap sign_level f in
    let right : right_of (sign_level sign) ≡ 8 = ap right_of level in
    without_left t (omega arith) (λ i. template.Infix (e i) (f i) t) (subst (λ m. IsNotation m t) right d)

closed_notation : (t : Template) (f : Frame) (fs : List Frame) (n : ℕ) → binds f n ≡ true → Placed t (f ∷ fs) → IsNotation (place fs) (closed f t)
closed_notation t (Open opening enclosure) fs n b p = absurd (cc)
closed_notation t (Left left sign) fs n b p = go p.frames.2
  where
    go : IsLeft left sign → IsNotation (place fs) (template.Infix left sign t)
    go (inl d) = divided (sign_level sign) left sign t p.frames.3 refl p.frames.1 d p.notation
    go (inr e) = without left sign t (place fs) e.0 e.1 p.frames.3 p.notation
closed_notation t (Elements parts) fs n b p = sequence (parts ++ t ∷ []) p.frames.3 refl (elements-more p.frames.1 p.notation) (omega (arith, p.frames.2, length-more parts t))

frames_below : (f : Frame) (fs : List Frame) → Stand (f ∷ fs) → Stand fs
frames_below (Open opening enclosure) fs s = s.0
frames_below (Left left sign) fs s = s.0
frames_below (Elements parts) fs s = s.0

closed_tag_parts : (t : Template) (f : Frame) (fs : List Frame) (n : ℕ) → binds f n ≡ true → before fs ++ tag_parts_of (closed f t) ≡ before (f ∷ fs) ++ tag_parts_of t
closed_tag_parts t (Open opening enclosure) fs n b = absurd (cc)
closed_tag_parts t (Left left sign) fs n b =
    ap (λ ws. before fs ++ ws) (tag_parts-Infix left sign t ∙ sym (append_assoc (tag_parts_of left) (tag_part.Sign sign ∷ []) (tag_parts_of t)))
    ∙ sym (append_assoc (before fs) (tag_parts_of left ++ tag_part.Sign sign ∷ []) (tag_parts_of t))
closed_tag_parts t (Elements parts) fs n b =
    ap (λ ws. before fs ++ ws) (tag_parts-Seq (parts ++ t ∷ []) ∙ tag_parts_all-append parts (t ∷ []) ∙ ap (λ ws. tag_parts_all parts ++ ws) (append-nil (tag_parts_of t)))
    ∙ sym (append_assoc (before fs) (tag_parts_all parts) (tag_parts_of t))

-- ---- frames that end

-- a sign of this level ends no more of the frames
abbrev Stops : ℕ → List Frame → Type 0
Stops n [] = Unit {0}
Stops n (f ∷ fs) = binds f n ≡ false

pub record Reduced (ws : List TagPart) (n : ℕ) (t : Template) (fs : List Frame) : Type 0 where
  pub placed : Placed t fs
  pub spelled : before fs ++ tag_parts_of t ≡ ws
  pub stops : Stops n fs

abbrev ReducedBy : List TagPart → ℕ → Option (Template × List Frame) → Type 0
ReducedBy ws n None = Unit {0}
ReducedBy ws n (Some p) = Reduced ws n p.0 p.1

le-from : (m n : ℕ) → nat_le m n ≡ true → m ≤ n
le-from m n e = grind (arith, nat_tests)

reduces : (n : ℕ) (t : Template) (fs : List Frame) → Placed t fs → ReducedBy (before fs ++ tag_parts_of t) n (reduce n t fs)
reduces n t [] p = record { placed = p; spelled = refl; stops = tt }
reduces n t (f ∷ fs) p = go (λ q. reduces n (closed f t) fs q) (binds f n) refl
  where
    Rest : Type 0
    Rest = Placed (closed f t) fs → ReducedBy (before fs ++ tag_parts_of (closed f t)) n (reduce n (closed f t) fs)

    ended : Rest → binds f n ≡ true → (b : Bool) → nat_le (template_height (closed f t)) 100 ≡ b
        → ReducedBy (before (f ∷ fs) ++ tag_parts_of t) n (option_and_then (λ grown. reduce n grown fs) (if b then Some (closed f t) else None))
    ended rest e false g = tt
    ended rest e true g =
        subst (λ ws. ReducedBy ws n (reduce n (closed f t) fs)) (closed_tag_parts t f fs n e)
        (rest (record { frames = frames_below f fs p.frames; notation = closed_notation t f fs n e p; low = le-from (template_height (closed f t)) 100 g }))

    go : Rest → (b : Bool) → binds f n ≡ b → ReducedBy (before (f ∷ fs) ++ tag_parts_of t) n (if b then option_and_then (λ grown. reduce n grown fs) (limited (closed f t)) else Some (t, f ∷ fs))
    go rest false e = record { placed = p; spelled = refl; stops = e }
    go rest true e = ended rest e (nat_le (template_height (closed f t)) 100) refl

stops-place : (n : ℕ) (fs : List Frame) → 7 ≤ n → Stops n fs → place fs ≤ n
stops-place n [] h s = h
stops-place n (Open opening enclosure ∷ fs) h s = h
stops-place n (Left left sign ∷ fs) h s = grind (arith, nat_tests)
stops-place n (Elements parts ∷ fs) h s = absurd (cc)

-- ---- steps

divides : (ws : List TagPart) (sign : Mark) (n : ℕ) → role_of sign ≡ Divides n → (o : Option (Template × List Frame)) → ReducedBy ws n o → ReachedBy (ws ++ tag_part.Sign sign ∷ []) (option_and_then (divide sign n) o)
divides ws sign n r None q = tt
divides ws sign n r (Some p) q = go (nat_le (left_of n) (level_of p.0)) refl
  where
    level : n ≡ sign_level sign
    level = sym (ap divided_at r)

    go : (b : Bool) → nat_le (left_of n) (level_of p.0) ≡ b → ReachedBy (ws ++ tag_part.Sign sign ∷ []) (if b then Some (expecting (Left p.0 sign ∷ p.1)) else None)
    go false e = tt
    go true e =
        let left = tighten (left_of n) (le-from (left_of n) (level_of p.0) e) q.placed.notation in
        record {
          holds = (q.placed.frames, subst (λ m. role_of sign ≡ Divides m) level r, inl (subst (λ m. IsNotation (left_of m) p.0) level left), subst (λ m. place p.1 ≤ m) level (stops-place n p.1 (divides-range sign n r).0 q.stops));
          spelled = sym (append_assoc (before p.1) (tag_parts_of p.0) (tag_part.Sign sign ∷ [])) ∙ ap (λ vs. vs ++ tag_part.Sign sign ∷ []) q.spelled;
        }

is-same : (a b : Enclosure) → is_same a b ≡ true → a ≡ b
is-same Parens Parens e = refl
is-same Brackets Brackets e = refl
is-same Braces Braces e = refl
is-same _ _ e = absurd (cc)

closing-is : (sign : Mark) (enclosure : Enclosure) → role_of sign ≡ Closes enclosure → closing_of enclosure ≡ sign
closing-is CloseParen enclosure e = let same : Parens ≡ enclosure = cc in ap closing_of (sym same)
closing-is CloseBracket enclosure e = let same : Brackets ≡ enclosure = cc in ap closing_of (sym same)
closing-is CloseBrace enclosure e = let same : Braces ≡ enclosure = cc in ap closing_of (sym same)
closing-is _ enclosure e = absurd (cc)

shuts : (ws : List TagPart) (sign : Mark) (enclosure : Enclosure) → role_of sign ≡ Closes enclosure → (t : Template) (fs : List Frame) → Reduced ws 0 t fs → ReachedBy (ws ++ tag_part.Sign sign ∷ []) (shut enclosure t fs)
shuts ws sign enclosure r t [] q = tt
shuts ws sign enclosure r t (Left left s ∷ fs) q = tt
shuts ws sign enclosure r t (Elements parts ∷ fs) q = tt
shuts ws sign enclosure r t (Open opening opened ∷ fs) q = go (is_same opened enclosure) refl
  where
    opens : role_of opening ≡ Opens opened
    opens = q.placed.frames.1

    ended : is_same opened enclosure ≡ true → (b : Bool) → nat_le (template_height (template.Bracket opening t)) 100 ≡ b
        → ReachedBy (ws ++ tag_part.Sign sign ∷ []) (option_map (λ it. read it fs) (if b then Some (template.Bracket opening t) else None))
    ended e false g = tt
    ended e true g =
        let ends : closing opening ≡ sign = ap (closing_by opening) opens ∙ ap closing_of (is-same opened enclosure e) ∙ closing-is sign enclosure r in
        let tag_parts : tag_parts_of (template.Bracket opening t) ≡ tag_part.Sign opening ∷ (tag_parts_of t ++ tag_part.Sign sign ∷ []) = tag_parts-Bracket opening t ∙ ap (λ s. tag_part.Sign opening ∷ (tag_parts_of t ++ tag_part.Sign s ∷ [])) ends in
        record {
          holds = record { frames = q.placed.frames.0; notation = bracket opening opened t refl opens q.placed.notation; low = le-from (template_height (template.Bracket opening t)) 100 g };
          spelled =
              ap (λ vs. before fs ++ vs) tag_parts
              ∙ sym (append_assoc (before fs) (tag_part.Sign opening ∷ []) (tag_parts_of t ++ tag_part.Sign sign ∷ []))
              ∙ sym (append_assoc (before fs ++ tag_part.Sign opening ∷ []) (tag_parts_of t) (tag_part.Sign sign ∷ []))
              ∙ ap (λ vs. vs ++ tag_part.Sign sign ∷ []) q.spelled;
        }

    go : (b : Bool) → is_same opened enclosure ≡ b → ReachedBy (ws ++ tag_part.Sign sign ∷ []) (if b then option_map (λ it. read it fs) (limited (template.Bracket opening t)) else None)
    go false e = tt
    go true e = ended e (nat_le (template_height (template.Bracket opening t)) 100) refl

closes : (ws : List TagPart) (sign : Mark) (enclosure : Enclosure) → role_of sign ≡ Closes enclosure → (o : Option (Template × List Frame)) → ReducedBy ws 0 o → ReachedBy (ws ++ tag_part.Sign sign ∷ []) (option_and_then (λ p. shut enclosure p.0 p.1) o)
closes ws sign enclosure r None q = tt
closes ws sign enclosure r (Some p) q = shuts ws sign enclosure r p.0 p.1 q

lacks : (sign : Mark) → may_lack_left sign ≡ true → sign ≡ Turnstile
lacks Turnstile e = refl
lacks _ e = absurd (cc)

outermost-place : (fs : List Frame) → is_outermost fs ≡ true → place fs ≡ 7
outermost-place [] e = refl
outermost-place (Open opening enclosure ∷ fs) e = refl
outermost-place (Left left sign ∷ fs) e = absurd (cc)
outermost-place (Elements parts ∷ fs) e = absurd (cc)

both-true : (a b : Bool) → (a && b) ≡ true → (a ≡ true) × (b ≡ true)
both-true true b e = (refl, e)
both-true false b e = absurd (cc)

leads : (fs : List Frame) (sign : Mark) (n : ℕ) → role_of sign ≡ Divides n → Stand fs → ReachedBy (before fs ++ tag_part.Sign sign ∷ []) (begin_sign fs sign (Divides n))
leads fs sign n r s = go (may_lack_left sign && is_outermost fs) refl
  where
    go : (b : Bool) → (may_lack_left sign && is_outermost fs) ≡ b → ReachedBy (before fs ++ tag_part.Sign sign ∷ []) (if b then Some (expecting (Left (template.Seq []) sign ∷ fs)) else None)
    go false e = tt
    go true e =
        let b = both-true (may_lack_left sign) (is_outermost fs) e in
        let is : sign ≡ Turnstile = lacks sign b.0 in
        let level : n ≡ sign_level sign = sym (ap divided_at r) in
        record {
          holds = (s, subst (λ m. role_of sign ≡ Divides m) level r, inr (refl, is), omega (arith, ap sign_level is, outermost-place fs b.1));
          spelled = ap (λ vs. before fs ++ (vs ++ tag_part.Sign sign ∷ [])) (tag_parts-Seq []);
        }

begins : (fs : List Frame) (w : TagPart) → Stand fs → IsTagPart w → ReachedBy (before fs ++ w ∷ []) (begin fs w)
begins fs tag_part.Hole s a = record { holds = record { frames = s; notation = hole refl; low = omega (arith, height-Hole) }; spelled = ap (λ ws. before fs ++ ws) tag_parts-Hole }
begins fs (tag_part.Atom name) s a = record { holds = record { frames = s; notation = atom name refl a; low = omega (arith, height-Atom name) }; spelled = ap (λ ws. before fs ++ ws) (tag_parts-Atom name) }
begins fs (tag_part.Sign sign) s a = go (role_of sign) refl
  where
    go : (r : Role) → role_of sign ≡ r → ReachedBy (before fs ++ tag_part.Sign sign ∷ []) (begin_sign fs sign r)
    go (Divides n) e = leads fs sign n e s
    go (Opens enclosure) e = record { holds = (s, e); spelled = refl }
    go (Closes enclosure) e = tt
    go Other e = tt

extends : (t : Template) (fs : List Frame) → Rests t fs → Stand (extend t fs)
extends t [] r = (r.frames, more r.notation none, omega arith, omega arith)
extends t (Open opening enclosure ∷ fs) r = (r.frames, more r.notation none, omega arith, omega arith)
extends t (Left left sign ∷ fs) r = (r.frames, more r.notation none, omega arith, omega (arith, sign_level-range sign, right-gap (sign_level sign)))
extends t (Elements parts ∷ fs) r = (r.frames.0, elements-more r.frames.1 r.notation, omega (arith, length-more parts t), r.frames.3)

extend-tag_parts : (t : Template) (fs : List Frame) → before (extend t fs) ≡ before fs ++ tag_parts_of t
extend-tag_parts t [] = append-nil (tag_parts_of t)
extend-tag_parts t (Open opening enclosure ∷ fs) = ap (λ ws. before (Open opening enclosure ∷ fs) ++ ws) (append-nil (tag_parts_of t))
extend-tag_parts t (Left left sign ∷ fs) = ap (λ ws. before (Left left sign ∷ fs) ++ ws) (append-nil (tag_parts_of t))
extend-tag_parts t (Elements parts ∷ fs) = ap (λ ws. before fs ++ ws) (tag_parts_all-append parts (t ∷ []) ∙ ap (λ ws. tag_parts_all parts ++ ws) (append-nil (tag_parts_of t))) ∙ sym (append_assoc (before fs) (tag_parts_all parts) (tag_parts_of t))

next_begins : (t : Template) (fs : List Frame) (w : TagPart) → Rests t fs → IsTagPart w → ReachedBy (before fs ++ tag_parts_of t ++ w ∷ []) (begin (extend t fs) w)
next_begins t fs w r a = subst (λ ws. ReachedBy (ws ++ w ∷ []) (begin (extend t fs) w)) (extend-tag_parts t fs) (begins (extend t fs) w (extends t fs r) a)

steps : (st : State) (w : TagPart) → Holds st → IsTagPart w → ReachedBy (seen st ++ w ∷ []) (step st w)
steps (expecting fs) w h a = begins fs w h a
steps (read t fs) tag_part.Hole h a = next_begins t fs tag_part.Hole h a
steps (read t fs) (tag_part.Atom name) h a = next_begins t fs (tag_part.Atom name) h a
steps (read t fs) (tag_part.Sign sign) h a = go (role_of sign) refl
  where
    go : (r : Role) → role_of sign ≡ r → ReachedBy (before fs ++ tag_parts_of t ++ tag_part.Sign sign ∷ []) (after_sign t fs sign r)
    go (Divides n) e = divides (before fs ++ tag_parts_of t) sign n e (reduce n t fs) (reduces n t fs (settled t fs h))
    go (Opens enclosure) e = next_begins t fs (tag_part.Sign sign) h a
    go (Closes enclosure) e = closes (before fs ++ tag_parts_of t) sign enclosure e (reduce 0 t fs) (reduces 0 t fs (settled t fs h))
    go Other e = next_begins t fs (tag_part.Sign sign) h a

pub runs : (ws : List TagPart) (st : State) (vs : List TagPart) → AllByRecursion IsTagPart ws → Reached vs st → ReachedBy (vs ++ ws) (run st ws)
runs [] st vs a r = record { holds = r.holds; spelled = r.spelled ∙ sym (append-nil vs) }
runs (w ∷ ws) st vs a r = go (step st w) (subst (λ u. ReachedBy (u ++ w ∷ []) (step st w)) r.spelled (steps st w r.holds a.0)) (λ next h. runs ws next (vs ++ w ∷ []) a.1 h)
  where
    go : (o : Option State) → ReachedBy (vs ++ w ∷ []) o → ((next : State) → Reached (vs ++ w ∷ []) next → ReachedBy (vs ++ w ∷ [] ++ ws) (run next ws)) → ReachedBy (vs ++ w ∷ ws) (option_and_then (λ next. run next ws) o)
    go None h rest = tt
    go (Some next) h rest = subst (λ u. ReachedBy u (run next ws)) (append_assoc vs (w ∷ []) ws) (rest next h)

-- the template has these parts
pub record HasWords (t : Template) (ws : List TagPart) : Type 0 where
  pub template : IsTemplate t
  pub spelled : tag_parts_of t ≡ ws

finishes : (t : Template) (ws : List TagPart) (o : Option (Template × List Frame)) → ReducedBy ws 0 o → option_and_then (λ p. whole p.0 p.1) o ≡ Some t → HasWords t ws
finishes t ws None q e = absurd (cc)
finishes t ws (Some p) q e = go p.0 p.1 q e
  where
    go : (u : Template) (fs : List Frame) → Reduced ws 0 u fs → whole u fs ≡ Some t → HasWords t ws
    go u [] q e =
        let same : u ≡ t = cc in
        subst (λ v. HasWords v ws) same (record { template = record { notation = q.placed.notation; height = q.placed.low }; spelled = q.spelled })
    go u (f ∷ fs) q e = absurd (cc)

ends : (t : Template) (ws : List TagPart) (o : Option State) → ReachedBy ws o → option_and_then finish o ≡ Some t → HasWords t ws
ends t ws None r e = absurd (cc)
ends t ws (Some (expecting fs)) r e = absurd (cc)
ends t ws (Some (read u fs)) r e = finishes t ws (reduce 0 u fs) (subst (λ vs. ReducedBy vs 0 (reduce 0 u fs)) r.spelled (reduces 0 u fs (settled u fs r.holds))) e

-- what all parts are read as is a template of these parts
pub sound : (ws : List TagPart) (t : Template) → AllByRecursion IsTagPart ws → reads (expecting []) ws ≡ Some t → HasWords t ws
sound ws t a e = ends t ws (run (expecting []) ws) (runs ws (expecting []) [] a (record { holds = tt; spelled = refl })) e
