-- An arrow at the top of a notation is the one that is found in its tag.
use Rattle.std.proofs.Common.{rules, ◌≡◌, refl, sym, ◌∙◌, ap, ap₂, subst, ℕ, ◌+◌, ◌-◌, ◌≤◌, ◌<◌, ◌⊎◌, inl, inr, Bool, true, false, true≢false, not, ◌&&◌, List, [], ◌∷◌, ◌++◌, append_assoc, append-nil, length, length-append, map, sum, replicate, find, Option, Some, None, if◌then◌else◌, bytes_eq, arith}
use Rattle.std.specs.Borrow.{Bor}
use Rattle.std.specs.Prelude.{◌≢◌, ◌==◌, codes, nat_eq, MatchOption}
use Rattle.std.specs.Char.{is_ascii_uppercase}
use Rattle.std.specs.List.{All, AllByRecursion, slice_split, list_all}
use Rattle.std.specs.Option.{option_map, option_and_then}
use Rattle.std.proofs.lemmas.Bool.Decides.{nat_tests}
use Rattle.std.proofs.lemmas.List.Elements.{All-nil, All-cons}
use Rattle.std.proofs.lemmas.List.Splits.{slice_split_none, slice_split_at}
use Rattle.std.proofs.lemmas.List.Sums.{sum_by-cons}
use Rattle.std.proofs.lemmas.Slice.Eq.{bytes_eq-Decides}
use Rattle.st_num.specs.Signs.{spelling, left_of, right_of}
use Rattle.st_num.specs.declared.mark.Mark.{Mark}
use Rattle.st_num.specs.declared.mark.Mark.TheVariants.{Turnstile, ReverseTurnstile, SquigglyArrowStar, SquigglyArrow, Colon, Subtype, Supertype, Approximately, Define, Semicolon, Arrow, DotDot, CloseParen, CloseBracket, CloseBrace, TickParen, TickBracket, TickBrace}
use Rattle.st_num.specs.declared.mark.TheConstants.Mark.{ALL}
use Rattle.st_il.specs.declared.template.Enclosure.{Enclosure}
use Rattle.st_il.specs.declared.template.Role.TheVariants.{Divides, Opens, Other}
use Rattle.st_il.specs.declared.template.Template.{Template, out-Template, the_lemmas}
use Rattle.st_il.specs.declared.template.Template.TheVariants as template
use Rattle.st_il.specs.declared.template.TagPart.{TagPart}
use Rattle.st_il.specs.declared.template.TagPart.TheVariants as tag_part
use Rattle.st_il.specs.Notation.{role_of, closing, IsUpName, IsAtom, single, dotted, IsNotation, atom, hole, bracket, sequence, divided, without_left, AreElements, none, more}
use Rattle.st_il.specs.Template.{holes, tag_parts_of, written, spaced, IsTagPart, AreTagParts, HasTag}
use Rattle.st_il.specs.Tags.{template_of, IsTemplateOf}
use Rattle.st_il.proofs.TemplateForms.{tag_parts_all, tag_parts-Atom, tag_parts-Hole, tag_parts-Seq, tag_parts-Infix, tag_parts-Bracket}
use Rattle.st_il.proofs.ReadingComplete.{left-gap, right-gap}
use Rattle.st_il.proofs.TagParts.{NoSpace, written-no_space}
use Rattle.st_il.proofs.Tags.{tag-tag_parts, one_template}
use Rattle.st_il.proofs.TagTemplates.{is_template}
use Rattle.st_semantics.specs.Directions.{is_arrow, direction_at}
use Rattle.st_order.specs.declared.arrow.Piece.{Piece}
use Rattle.st_order.specs.declared.arrow.Piece.TheVariants as piece
use Rattle.st_order.specs.declared.arrow.Scan.{Scan}
use Rattle.st_order.specs.declared.arrow.Sides.{Sides}
use Rattle.st_order.specs.inner.Arrow.{is_written, piece_of_sign, piece_found, piece_of, pieces, started, taken, leads, told_by}

-- ---- holes

holes-Atom : (name : List ℕ) → holes (template.Atom name) ≡ 0
holes-Atom name = search (rules, the_lemmas)

holes-Hole : holes template.Hole ≡ 1
holes-Hole = search (rules, the_lemmas)

holes-Seq : (ts : List Template) → holes (template.Seq ts) ≡ sum (map holes ts)
holes-Seq ts = search (rules, the_lemmas)

holes-Infix : (left : Template) (sign : Mark) (right : Template) → holes (template.Infix left sign right) ≡ holes left + holes right
holes-Infix left sign right = search (rules, the_lemmas)

holes-Bracket : (opening : Mark) (body : Template) → holes (template.Bracket opening body) ≡ holes body
holes-Bracket opening body = search (rules, the_lemmas)

-- ---- signs

-- what a sign that divides is to an arrow, by its level
data Kind (sign : Mark) (level : ℕ) : Type 0 where
  looser : piece_of_sign sign ≡ piece.Looser → is_arrow sign ≡ false → level ≡ 7 → Kind sign level
  arrow : piece_of_sign sign ≡ piece.Arrow → is_arrow sign ≡ true → level ≡ 8 → Kind sign level
  tighter : piece_of_sign sign ≡ piece.Other → is_arrow sign ≡ false → 9 ≤ level → Kind sign level

kind : (sign : Mark) (level : ℕ) → role_of sign ≡ Divides level → Kind sign level
kind Turnstile level e = let same : level ≡ 7 = cc in looser refl refl same
kind ReverseTurnstile level e = let same : level ≡ 7 = cc in looser refl refl same
kind SquigglyArrow level e = let same : level ≡ 8 = cc in arrow refl refl same
kind SquigglyArrowStar level e = let same : level ≡ 8 = cc in arrow refl refl same
kind Colon level e = let same : level ≡ 9 = cc in tighter refl refl (omega arith)
kind Subtype level e = let same : level ≡ 9 = cc in tighter refl refl (omega arith)
kind Supertype level e = let same : level ≡ 9 = cc in tighter refl refl (omega arith)
kind Approximately level e = let same : level ≡ 9 = cc in tighter refl refl (omega arith)
kind Define level e = let same : level ≡ 9 = cc in tighter refl refl (omega arith)
kind Semicolon level e = let same : level ≡ 10 = cc in tighter refl refl (omega arith)
kind Arrow level e = let same : level ≡ 11 = cc in tighter refl refl (omega arith)
kind DotDot level e = let same : level ≡ 12 = cc in tighter refl refl (omega arith)
kind _ level e = absurd (cc)

opens : (opening : Mark) (enclosure : Enclosure) → role_of opening ≡ Opens enclosure → piece_of_sign opening ≡ piece.Opening
opens TickParen enclosure e = refl
opens TickBracket enclosure e = refl
opens TickBrace enclosure e = refl
opens _ enclosure e = absurd (cc)

closes : (opening : Mark) (enclosure : Enclosure) → role_of opening ≡ Opens enclosure → piece_of_sign (closing opening) ≡ piece.Closing
closes TickParen enclosure e = refl
closes TickBracket enclosure e = refl
closes TickBrace enclosure e = refl
closes _ enclosure e = absurd (cc)

-- ---- the scan, by parts

abbrev at : ℕ → ℕ → Option ℕ → Scan
at d h b = record { depth = d; holes = h; before = b }

-- what a part is to an arrow
abbrev piece_at : TagPart → Piece
piece_at tag_part.Hole = piece.Hole
piece_at (tag_part.Atom name) = piece.Other
piece_at (tag_part.Sign sign) = piece_of_sign sign

-- what is found from here on
abbrev found : Scan → List TagPart → Option Sides
found scan ws = leads scan (map piece_at ws)

abbrev go_on : List TagPart → Option Scan → Option Sides
go_on ws o = option_and_then (λ (next : Scan). leads next (map piece_at ws)) o

-- the place is inside brackets, or takes only signs that are tighter than an arrow
abbrev Apart : ℕ → ℕ → Type 0
Apart d n = (1 ≤ d) ⊎ (9 ≤ n)

apart-more : (d m n : ℕ) → m ≤ n → Apart d m → Apart d n
apart-more d m n h (inl k) = inl k
apart-more d m n h (inr k) = inr (omega arith)

apart-deep : (d n : ℕ) → n ≤ 8 → Apart d n → 1 ≤ d
apart-deep d n h (inl k) = k
apart-deep d n h (inr k) = absurd (omega arith)

deep-not : (d : ℕ) → 1 ≤ d → nat_eq d 0 ≡ false
deep-not d h = grind (arith, nat_tests)

-- there a sign changes nothing
sign-apart : (sign : Mark) (level d h : ℕ) (b : Option ℕ) (ws : List TagPart) → Kind sign level → Apart d level → found (at d h b) (tag_part.Sign sign ∷ ws) ≡ found (at d h b) ws
sign-apart sign level d h b ws (looser p i l) a =
    ap (λ q. go_on ws (taken (at d h b) q)) p ∙ ap (λ z. go_on ws (if z then None else Some (at d h b))) (deep-not d (apart-deep d level (omega arith) a))
sign-apart sign level d h b ws (arrow p i l) a =
    ap (λ q. go_on ws (taken (at d h b) q)) p ∙ ap (λ z. go_on ws (Some (if z then at d h (Some h) else at d h b))) (deep-not d (apart-deep d level (omega arith) a))
sign-apart sign level d h b ws (tighter p i l) a = ap (λ q. go_on ws (taken (at d h b) q)) p

-- ---- a notation that is apart

-- of it the holes alone are noted
abbrev Passes : ℕ → ℕ → Option ℕ → List TagPart → Template → Type 0
Passes d h b ws t = found (at d h b) (tag_parts_of t ++ ws) ≡ found (at d (h + holes t) b) ws

counts : (d h m n : ℕ) (b : Option ℕ) (ws : List TagPart) → m ≡ n → found (at d (h + m) b) ws ≡ found (at d (h + n) b) ws
counts d h m n b ws e = ap (λ k. found (at d (h + k) b) ws) e

counts-both : (d h m n : ℕ) (b : Option ℕ) (ws : List TagPart) → found (at d (h + m + n) b) ws ≡ found (at d (h + (m + n)) b) ws
counts-both d h m n b ws = let e : h + m + n ≡ h + (m + n) = omega arith in ap (λ k. found (at d k b) ws) e

mutual
  inside : {n : ℕ} {t : Template} → IsNotation n t → (d h : ℕ) (b : Option ℕ) (ws : List TagPart) → Apart d n → Passes d h b ws t
  inside {n} {t} (atom name e a) d h b ws p =
      let same : h ≡ h + 0 = omega arith in
      subst (Passes d h b ws) (sym e)
      (ap (λ vs. found (at d h b) (vs ++ ws)) (tag_parts-Atom name) ∙ ap (λ k. found (at d k b) ws) same ∙ counts d h 0 (holes (template.Atom name)) b ws (sym (holes-Atom name)))
  inside {n} {t} (hole e) d h b ws p =
      subst (Passes d h b ws) (sym e) (ap (λ vs. found (at d h b) (vs ++ ws)) tag_parts-Hole ∙ counts d h 1 (holes template.Hole) b ws (sym holes-Hole))
  inside {n} {t} (bracket opening enclosure body e r f) d h b ws p =
      let back : d + 1 - 1 ≡ d = omega arith in
      subst (Passes d h b ws) (sym e)
      (ap (λ vs. found (at d h b) (vs ++ ws)) (tag_parts-Bracket opening body)
      ∙ ap (λ q. go_on ((tag_parts_of body ++ tag_part.Sign (closing opening) ∷ []) ++ ws) (taken (at d h b) q)) (opens opening enclosure r)
      ∙ ap (found (at (d + 1) h b)) (append_assoc (tag_parts_of body) (tag_part.Sign (closing opening) ∷ []) ws)
      ∙ inside f (d + 1) h b (tag_part.Sign (closing opening) ∷ ws) (inl (omega arith))
      ∙ ap (λ q. go_on ws (taken (at (d + 1) (h + holes body) b) q)) (closes opening enclosure r)
      ∙ ap (λ k. found (at k (h + holes body) b) ws) back
      ∙ counts d h (holes body) (holes (template.Bracket opening body)) b ws (sym (holes-Bracket opening body)))
  inside {n} {t} (sequence parts k e f l) d h b ws p =
      subst (Passes d h b ws) (sym e)
      (ap (λ vs. found (at d h b) (vs ++ ws)) (tag_parts-Seq parts) ∙ elements-inside f d h b ws ∙ counts d h (sum (map holes parts)) (holes (template.Seq parts)) b ws (sym (holes-Seq parts)))
  inside {n} {t} (divided level left sign right k e r f g) d h b ws p =
      let on_left : n ≤ left_of level = omega (arith, (left-gap level).0) in
      let on_right : n ≤ right_of level = omega (arith, (right-gap level).0) in
      subst (Passes d h b ws) (sym e)
      (ap (λ vs. found (at d h b) (vs ++ ws)) (tag_parts-Infix left sign right)
      ∙ ap (found (at d h b)) (append_assoc (tag_parts_of left) (tag_part.Sign sign ∷ tag_parts_of right) ws)
      ∙ inside f d h b (tag_part.Sign sign ∷ (tag_parts_of right ++ ws)) (apart-more d n (left_of level) on_left p)
      ∙ sign-apart sign level d (h + holes left) b (tag_parts_of right ++ ws) (kind sign level r) (apart-more d n level k p)
      ∙ inside g d (h + holes left) b ws (apart-more d n (right_of level) on_right p)
      ∙ counts-both d h (holes left) (holes right) b ws
      ∙ counts d h (holes left + holes right) (holes (template.Infix left sign right)) b ws (sym (holes-Infix left sign right)))
  inside {n} {t} (without_left right k e f) d h b ws p =
      let nothing = template.Seq [] in
      let deep : 1 ≤ d = apart-deep d n (omega arith) p in
      let none_left : holes nothing ≡ 0 = holes-Seq [] in
      let same : holes right ≡ holes (template.Infix nothing Turnstile right) = omega (arith, holes-Infix nothing Turnstile right) in
      subst (Passes d h b ws) (sym e)
      (ap (λ vs. found (at d h b) (vs ++ ws)) (tag_parts-Infix nothing Turnstile right ∙ ap (λ vs. vs ++ tag_part.Sign Turnstile ∷ tag_parts_of right) (tag_parts-Seq []))
      ∙ sign-apart Turnstile 7 d h b (tag_parts_of right ++ ws) (looser refl refl refl) (inl deep)
      ∙ inside f d h b ws (inl deep)
      ∙ counts d h (holes right) (holes (template.Infix nothing Turnstile right)) b ws same)

  elements-inside : {ts : List Template} → AreElements ts → (d h : ℕ) (b : Option ℕ) (ws : List TagPart) → found (at d h b) (tag_parts_all ts ++ ws) ≡ found (at d (h + sum (map holes ts)) b) ws
  elements-inside none d h b ws = let same : h ≡ h + 0 = omega arith in ap (λ k. found (at d k b) ws) same
  elements-inside (more {t = t} {ts = ts} f fs) d h b ws =
      ap (found (at d h b)) (append_assoc (tag_parts_of t) (tag_parts_all ts) ws)
      ∙ inside f d h b (tag_parts_all ts ++ ws) (inr (omega arith))
      ∙ elements-inside fs d (h + holes t) b ws
      ∙ counts-both d h (holes t) (sum (map holes ts)) b ws
      ∙ counts d h (holes t + sum (map holes ts)) (sum (map holes (t ∷ ts))) b ws (sym (sum_by-cons (λ n. n) (holes t) (map holes ts)))

-- ---- a sign at the top

at_arrow : (left : Template) (sign : Mark) (right : Template) → IsNotation 9 left → piece_of_sign sign ≡ piece.Arrow → IsNotation 9 right → (h : ℕ) (b : Option ℕ) (ws : List TagPart)
    → found (at 0 h b) (tag_parts_of (template.Infix left sign right) ++ ws) ≡ found (at 0 (h + holes (template.Infix left sign right)) (Some (h + holes left))) ws
at_arrow left sign right f p g h b ws =
    ap (λ vs. found (at 0 h b) (vs ++ ws)) (tag_parts-Infix left sign right)
    ∙ ap (found (at 0 h b)) (append_assoc (tag_parts_of left) (tag_part.Sign sign ∷ tag_parts_of right) ws)
    ∙ inside f 0 h b (tag_part.Sign sign ∷ (tag_parts_of right ++ ws)) (inr (omega arith))
    ∙ ap (λ q. go_on (tag_parts_of right ++ ws) (taken (at 0 (h + holes left) b) q)) p
    ∙ inside g 0 (h + holes left) (Some (h + holes left)) ws (inr (omega arith))
    ∙ counts-both 0 h (holes left) (holes right) (Some (h + holes left)) ws
    ∙ counts 0 h (holes left + holes right) (holes (template.Infix left sign right)) (Some (h + holes left)) ws (sym (holes-Infix left sign right))

-- beside a looser sign an arrow may be met
abbrev Meets : ℕ → Option ℕ → List TagPart → Template → Type 0
Meets h b ws t = (c : Option ℕ) × (found (at 0 h b) (tag_parts_of t ++ ws) ≡ found (at 0 (h + holes t) c) ws)

meets : {n : ℕ} {t : Template} → IsNotation n t → 8 ≤ n → (h : ℕ) (b : Option ℕ) (ws : List TagPart) → Meets h b ws t
meets {n} {t} (atom name e a) k h b ws = let d : IsNotation 9 t = atom name e a in (b, inside d 0 h b ws (inr (omega arith)))
meets {n} {t} (hole e) k h b ws = let d : IsNotation 9 t = hole e in (b, inside d 0 h b ws (inr (omega arith)))
meets {n} {t} (bracket opening enclosure body e r f) k h b ws = let d : IsNotation 9 t = bracket opening enclosure body e r f in (b, inside d 0 h b ws (inr (omega arith)))
meets {n} {t} (sequence parts j e f l) k h b ws = let d : IsNotation 9 t = sequence parts (omega arith) e f l in (b, inside d 0 h b ws (inr (omega arith)))
meets {n} {t} (without_left right j e f) k h b ws = absurd (omega arith)
meets {n} {t} (divided level left sign right j e r f g) k h b ws = by (kind sign level r)
  where
    by : Kind sign level → Meets h b ws t
    by (looser p i l) = absurd (omega arith)
    by (arrow p i l) =
        let on_left : IsNotation 9 left = subst (λ m. IsNotation (left_of m) left) l f in
        let on_right : IsNotation 9 right = subst (λ m. IsNotation (right_of m) right) l g in
        subst (Meets h b ws) (sym e) (Some (h + holes left), at_arrow left sign right on_left p on_right h b ws)
    by (tighter p i l) = let d : IsNotation 9 t = divided level left sign right l e r f g in (b, inside d 0 h b ws (inr (omega arith)))

-- what is found in the parts of a notation is its direction
abbrev Tells : Template → Type 0
Tells t = option_map told_by (found started (tag_parts_of t)) ≡ direction_at (out-Template t)

tells-none : (t : Template) → IsNotation 9 t → option_map told_by (found started (tag_parts_of t)) ≡ None
tells-none t d = ap (λ vs. option_map told_by (found started vs)) (sym (append-nil (tag_parts_of t))) ∙ ap (option_map told_by) (inside d 0 0 None [] (inr (omega arith)))

-- the holes on the left are inputs, and those on the right outputs
abbrev mask : Template → Template → List Bool
mask left right = replicate (holes left) true ++ replicate (holes right) false

tells : {t : Template} → IsNotation 7 t → Tells t
tells {t} (atom name e a) = tells-none t (atom name e a) ∙ sym (ap (λ u. direction_at (out-Template u)) e ∙ ap direction_at (template.outs-Atom name))
tells {t} (hole e) = tells-none t (hole e) ∙ sym (ap (λ u. direction_at (out-Template u)) e ∙ ap direction_at template.outs-Hole)
tells {t} (bracket opening enclosure body e r f) =
    tells-none t (bracket opening enclosure body e r f) ∙ sym (ap (λ u. direction_at (out-Template u)) e ∙ ap direction_at (template.outs-Bracket opening body))
tells {t} (sequence parts j e f l) = tells-none t (sequence parts (omega arith) e f l) ∙ sym (ap (λ u. direction_at (out-Template u)) e ∙ ap direction_at (template.outs-Seq parts))
tells {t} (without_left right j e f) =
    ap (λ vs. option_map told_by (found started vs))
    (ap tag_parts_of e ∙ tag_parts-Infix (template.Seq []) Turnstile right ∙ ap (λ vs. vs ++ tag_part.Sign Turnstile ∷ tag_parts_of right) (tag_parts-Seq []))
    ∙ sym (ap (λ u. direction_at (out-Template u)) e ∙ ap direction_at (template.outs-Infix (template.Seq []) Turnstile right))
tells {t} (divided level left sign right j e r f g) = by (kind sign level r)
  where
    direction_is : direction_at (out-Template t) ≡ (if is_arrow sign then Some (mask left right) else None)
    direction_is = ap (λ u. direction_at (out-Template u)) e ∙ ap direction_at (template.outs-Infix left sign right)

    by : Kind sign level → Tells t
    by (looser p i l) =
        let on_left : IsNotation 8 left = subst (λ m. IsNotation (left_of m) left) l f in
        let met : Meets 0 None (tag_part.Sign sign ∷ tag_parts_of right) left = meets on_left (omega arith) 0 None (tag_part.Sign sign ∷ tag_parts_of right) in
        ap (option_map told_by)
        (ap (found started) (ap tag_parts_of e ∙ tag_parts-Infix left sign right) ∙ met.1 ∙ ap (λ q. go_on (tag_parts_of right) (taken (at 0 (0 + holes left) met.0) q)) p)
        ∙ sym (direction_is ∙ ap (λ z. if z then Some (mask left right) else None) i)
    by (arrow p i l) =
        let on_left : IsNotation 9 left = subst (λ m. IsNotation (left_of m) left) l f in
        let on_right : IsNotation 9 right = subst (λ m. IsNotation (right_of m) right) l g in
        let whole : Template = template.Infix left sign right in
        let before_is : 0 + holes left ≡ holes left = omega arith in
        let behind_is : 0 + holes whole - (0 + holes left) ≡ holes right = omega (arith, holes-Infix left sign right) in
        ap (option_map told_by)
        (ap (found started) (ap tag_parts_of e ∙ sym (append-nil (tag_parts_of whole))) ∙ at_arrow left sign right on_left p on_right 0 None [])
        ∙ ap₂ (λ m n. Some (replicate m true ++ replicate n false)) before_is behind_is
        ∙ sym (direction_is ∙ ap (λ z. if z then Some (mask left right) else None) i)
    by (tighter p i l) =
        tells-none t (divided level left sign right l e r f g) ∙ sym (direction_is ∙ ap (λ z. if z then Some (mask left right) else None) i)

-- ---- parts, by how they are written

abbrev begins : List ℕ → Bool
begins [] = false
begins (byte ∷ bytes) = is_ascii_uppercase byte

name-begins : (bytes rest : List ℕ) → IsUpName bytes → begins (bytes ++ rest) ≡ true
name-begins [] rest h = absurd h
name-begins (byte ∷ bytes) rest h = h.0

atom-begins : {bytes : List ℕ} → IsAtom bytes → begins bytes ≡ true
atom-begins {bytes} (single u) = ap begins (sym (append-nil bytes)) ∙ name-begins bytes [] u
atom-begins (dotted first rest e u d) = ap begins e ∙ name-begins first (46 ∷ rest) u

differ : (xs ys : List ℕ) → (xs ≡ ys → ⊥) → bytes_eq xs ys ≡ false
differ xs ys n = by (bytes_eq xs ys) refl
  where
    by : (b : Bool) → bytes_eq xs ys ≡ b → b ≡ false
    by true e = absurd (n ((bytes_eq-Decides xs ys).0 e))
    by false e = refl

-- no sign is written as a name
no_sign : (name : List ℕ) → begins name ≡ true → (signs : List Mark) → list_all (λ (s : Mark). not (begins (spelling s))) signs ≡ true → find (is_written name) signs ≡ None
no_sign name n [] all = refl
no_sign name n (s ∷ ss) all = by (begins (spelling s)) refl all (no_sign name n ss)
  where
    by : (b : Bool) → begins (spelling s) ≡ b → (not b && list_all (λ (s : Mark). not (begins (spelling s))) ss) ≡ true
        → (list_all (λ (s : Mark). not (begins (spelling s))) ss ≡ true → find (is_written name) ss ≡ None) → find (is_written name) (s ∷ ss) ≡ None
    by true e h deeper = absurd (true≢false (sym h))
    by false e h deeper =
        ap (λ z. if z then Some s else find (is_written name) ss) (differ (spelling s) name (λ same. true≢false (sym n ∙ ap begins (sym same) ∙ e))) ∙ deeper h

piece-written : (w : TagPart) → IsTagPart w → piece_of (written w) ≡ piece_at w
piece-written tag_part.Hole h = refl
piece-written (tag_part.Atom name) h =
    let n : begins name ≡ true = atom-begins h in
    ap (λ z. if z then piece.Hole else piece_found (find (is_written name) ALL)) (differ name (codes "%") (λ same. true≢false (sym n ∙ ap begins same)))
    ∙ ap piece_found (no_sign name n ALL refl)
piece-written (tag_part.Sign Turnstile) h = refl
piece-written (tag_part.Sign ReverseTurnstile) h = refl
piece-written (tag_part.Sign SquigglyArrowStar) h = refl
piece-written (tag_part.Sign SquigglyArrow) h = refl
piece-written (tag_part.Sign Colon) h = refl
piece-written (tag_part.Sign Subtype) h = refl
piece-written (tag_part.Sign Supertype) h = refl
piece-written (tag_part.Sign Approximately) h = refl
piece-written (tag_part.Sign Define) h = refl
piece-written (tag_part.Sign Semicolon) h = refl
piece-written (tag_part.Sign Arrow) h = refl
piece-written (tag_part.Sign DotDot) h = refl
piece-written (tag_part.Sign CloseParen) h = refl
piece-written (tag_part.Sign CloseBracket) h = refl
piece-written (tag_part.Sign CloseBrace) h = refl
piece-written (tag_part.Sign TickParen) h = refl
piece-written (tag_part.Sign TickBracket) h = refl
piece-written (tag_part.Sign TickBrace) h = refl
piece-written (tag_part.Sign _) h = absurd (h refl)

pieces-written : (ws : List TagPart) → AllByRecursion IsTagPart ws → map piece_of (map written ws) ≡ map piece_at ws
pieces-written [] h = refl
pieces-written (w ∷ ws) h = ap₂ (λ p ps. p ∷ ps) (piece-written w h.0) (pieces-written ws h.1)

-- ---- parts with spaces between them

abbrev is_space : ℕ → Bool
is_space byte = byte == 32

not_space : (byte : ℕ) → byte ≢ 32 → is_space byte ≡ false
not_space byte n = grind (arith, nat_tests)

no_spaces : (bytes : List ℕ) → NoSpace bytes → All (λ byte. is_space byte ≡ false) bytes
no_spaces [] h = All-nil (λ byte. is_space byte ≡ false)
no_spaces (byte ∷ bytes) h = All-cons (λ byte. is_space byte ≡ false) byte bytes (not_space byte h.0) (no_spaces bytes h.1)

pieces-spaced : (w : TagPart) (ws : List TagPart) → AllByRecursion IsTagPart (w ∷ ws) → slice_split is_space (spaced (w ∷ ws)) ≡ map written (w ∷ ws)
pieces-spaced w [] h = slice_split_none is_space (written w) (no_spaces (written w) (written-no_space w h.0))
pieces-spaced w (v ∷ vs) h =
    slice_split_at is_space (written w) 32 (spaced (v ∷ vs)) (no_spaces (written w) (written-no_space w h.0)) refl ∙ ap (λ texts. written w ∷ texts) (pieces-spaced v vs h.1)

pieces-tag : (ws : List TagPart) (tag : List ℕ) → AreTagParts ws tag → pieces tag ≡ map piece_at ws
pieces-tag [] tag a = absurd (a.some refl)
pieces-tag (w ∷ ws) tag a =
    ap pieces (sym a.spelled) ∙ ap (map piece_of) (pieces-spaced w ws a.tag_parts) ∙ pieces-written (w ∷ ws) a.tag_parts

template-is : (t : Template) (tag : List ℕ) → HasTag t tag → template_of tag ≡ Some t
template-is t tag h = by (template_of tag) (is_template tag)
  where
    by : (o : Option Template) → IsTemplateOf tag o → o ≡ Some t
    by None i = absurd (i t h)
    by (Some u) i = ap Some (one_template tag u t i h)

-- what is found in the tag of a notation is the direction by its arrow
pub tells-tag : (t : Template) (tag : List ℕ) → HasTag t tag
    → option_map told_by (leads started (pieces tag)) ≡ option_and_then (λ (u : Template). direction_at (out-Template u)) (template_of tag)
tells-tag t tag h =
    ap (λ ps. option_map told_by (leads started ps)) (pieces-tag (tag_parts_of t) tag (tag-tag_parts t tag h))
    ∙ tells h.template.notation ∙ ap (option_and_then (λ (u : Template). direction_at (out-Template u))) (sym (template-is t tag h))

-- ---- one part after another

all_not_space : (bytes : List ℕ) → All (λ byte. byte ≢ 32) bytes → All (λ byte. is_space byte ≡ false) bytes
all_not_space bytes a = λ k d within. not_space _ (a k d within)

pieces-next : (rest text others : List ℕ) → All (λ byte. byte ≢ 32) text → rest ≡ text ++ 32 ∷ others → pieces rest ≡ piece_of text ∷ pieces others
pieces-next rest text others a e = ap pieces e ∙ ap (map piece_of) (slice_split_at is_space text 32 others (all_not_space text a) refl)

pieces-last : (rest text : List ℕ) → All (λ byte. byte ≢ 32) text → rest ≡ text → pieces rest ≡ piece_of text ∷ []
pieces-last rest text a e = ap pieces e ∙ ap (map piece_of) (slice_split_none is_space text (all_not_space text a))

pub taken-low : (scan next : Scan) (p : Piece) → taken scan p ≡ Some next → (next.depth ≤ scan.depth + 1) × (next.holes ≤ scan.holes + 1)
taken-low scan next piece.Hole e = let same : record { depth = scan.depth; holes = scan.holes + 1; before = scan.before } ≡ next = cc in (omega (arith, ap (λ (s : Scan). s.depth) same), omega (arith, ap (λ (s : Scan). s.holes) same))
taken-low scan next piece.Opening e = let same : record { depth = scan.depth + 1; holes = scan.holes; before = scan.before } ≡ next = cc in (omega (arith, ap (λ (s : Scan). s.depth) same), omega (arith, ap (λ (s : Scan). s.holes) same))
taken-low scan next piece.Closing e = let same : record { depth = scan.depth - 1; holes = scan.holes; before = scan.before } ≡ next = cc in (omega (arith, ap (λ (s : Scan). s.depth) same), omega (arith, ap (λ (s : Scan). s.holes) same))
taken-low scan next piece.Arrow e = by (nat_eq scan.depth 0) e
  where
    by : (z : Bool) → ◌≡◌ {A = Option Scan} (Some (if z then record { depth = scan.depth; holes = scan.holes; before = Some scan.holes } else scan)) (Some next) → (next.depth ≤ scan.depth + 1) × (next.holes ≤ scan.holes + 1)
    by true f = let same : record { depth = scan.depth; holes = scan.holes; before = Some scan.holes } ≡ next = cc in (omega (arith, ap (λ (s : Scan). s.depth) same), omega (arith, ap (λ (s : Scan). s.holes) same))
    by false f = let same : scan ≡ next = cc in (omega (arith, ap (λ (s : Scan). s.depth) same), omega (arith, ap (λ (s : Scan). s.holes) same))
taken-low scan next piece.Looser e = by (nat_eq scan.depth 0) e
  where
    by : (z : Bool) → ◌≡◌ {A = Option Scan} (if z then None else Some scan) (Some next) → (next.depth ≤ scan.depth + 1) × (next.holes ≤ scan.holes + 1)
    by true f = absurd (cc)
    by false f = let same : scan ≡ next = cc in (omega (arith, ap (λ (s : Scan). s.depth) same), omega (arith, ap (λ (s : Scan). s.holes) same))
taken-low scan next piece.Other e = let same : scan ≡ next = cc in (omega (arith, ap (λ (s : Scan). s.depth) same), omega (arith, ap (λ (s : Scan). s.holes) same))

module _ (scan : Scan) (rest text tag : List ℕ) (a : All (λ byte. byte ≢ 32) text) (same : leads scan (pieces rest) ≡ leads started (pieces tag)) where
  fails : (ps : List Piece) → pieces rest ≡ piece_of text ∷ ps → taken scan (piece_of text) ≡ None → None ≡ leads started (pieces tag)
  fails ps e t = ap (option_and_then (λ (next : Scan). leads next ps)) (sym t) ∙ ap (leads scan) (sym e) ∙ same

  -- the arrow is not at the top
  pub scan-fails : (behind : Option (Bor (List ℕ))) → MatchOption behind (rest ≡ text) (λ others. rest ≡ text ++ 32 ∷ others.now) → taken scan (piece_of text) ≡ None
      → None ≡ leads started (pieces tag)
  scan-fails None m t = fails [] (pieces-last rest text a m) t
  scan-fails (Some others) m t = fails (pieces others.now) (pieces-next rest text others.now a m) t

  pub scan-goes_on : (next : Scan) (others : List ℕ) → rest ≡ text ++ 32 ∷ others → taken scan (piece_of text) ≡ Some next → leads next (pieces others) ≡ leads started (pieces tag)
  scan-goes_on next others e t =
      ap (option_and_then (λ (next : Scan). leads next (pieces others))) (sym t) ∙ ap (leads scan) (sym (pieces-next rest text others a e)) ∙ same

  pub scan-ends : (next : Scan) → rest ≡ text → taken scan (piece_of text) ≡ Some next → leads next [] ≡ leads started (pieces tag)
  scan-ends next e t = ap (option_and_then (λ (next : Scan). leads next [])) (sym t) ∙ ap (leads scan) (sym (pieces-last rest text a e)) ∙ same

pub shorter : (rest text others : List ℕ) → rest ≡ text ++ 32 ∷ others → length others < length rest
shorter rest text others e = omega (arith, ap length e, length-append text (32 ∷ others))

-- neither more brackets nor more holes than bytes
pub scan-low : (scan next : Scan) (p : Piece) (rest text others : List ℕ) (n : ℕ) → taken scan p ≡ Some next → rest ≡ text ++ 32 ∷ others → scan.depth + length rest ≤ n → scan.holes + length rest ≤ n
    → (next.depth + length others ≤ n) × (next.holes + length others ≤ n)
scan-low scan next p rest text others n t e depth holes =
    let low = taken-low scan next p t in
    let less : length others < length rest = shorter rest text others e in
    let deeper : next.depth ≤ scan.depth + 1 = low.0 in
    let more : next.holes ≤ scan.holes + 1 = low.1 in
    (omega arith, omega arith)
