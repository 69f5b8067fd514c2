-- The template of a tag is the one that has it.
use Rattle.std.proofs.Common.{◌≡◌, refl, sym, ◌∙◌, ap, ℕ, List, [], ◌∷◌, ◌++◌, length, ◌+◌, map, Bool, true, false, arith}
use Rattle.std.specs.Prelude.{◌≢◌, ◌==◌, ◌&&◌, Option, Some, None, IfSome, IfNone, bytes_eq, codes, if◌then◌else◌}
use Rattle.std.specs.Char.{is_ascii_uppercase}
use Rattle.std.specs.List.{All, AllByRecursion, slice_split, join_with_byte, count_by}
use Rattle.std.specs.Option.{option_and_then}
use Rattle.std.proofs.lemmas.Bool.Decides.{nat_tests}
use Rattle.std.proofs.lemmas.List.Elements.{All-nil, All-cons}
use Rattle.std.proofs.lemmas.List.Splits.{slice_split_none, slice_split_at, length-slice_split, join_with_byte-slice_split}
use Rattle.std.proofs.lemmas.Slice.Eq.{bytes_eq-Decides}
use Rattle.st_num.specs.declared.mark.Mark.{Mark}
use Rattle.st_num.specs.Signs.{spelling}
use Rattle.st_il.specs.declared.template.Role.{Role}
use Rattle.st_il.specs.declared.template.Role.TheVariants.{Other}
use Rattle.st_il.specs.declared.template.Template.{Template}
use Rattle.st_il.specs.declared.template.TagPart.{TagPart}
use Rattle.st_il.specs.declared.template.TagPart.TheVariants as tag_part
use Rattle.st_num.specs.declared.mark.TheConstants.Mark.{ALL}
use Rattle.st_il.specs.Notation.{role_of, is_role, has_role, is_name_byte}
use Rattle.st_il.specs.Reading.{expecting, reads}
use Rattle.st_il.specs.Template.{written, spaced, IsTagPart, AreTagParts, HasTag, HasOneTemplate}
use Rattle.st_il.proofs.Atoms.{is_rest, atom_from, atom-read}
use Rattle.st_il.proofs.TagParts.{Differs, NoSpace, written-no_space, no_sign}
use Rattle.st_il.proofs.Tags.{found, not_found, no_tag}
use Rattle.st_il.specs.Tags.{ends_atom, sign_in, tag_part_of, onto, tag_parts_of, template_of, IsTemplateOf}

-- ---- texts with spaces between them

abbrev is_space : ℕ → Bool
is_space byte = byte == 32

joined : (ws : List TagPart) → spaced ws ≡ join_with_byte 32 (map written ws)
joined [] = refl
joined (w ∷ []) = refl
joined (w ∷ v ∷ ws) = ap (λ r. written w ++ 32 ∷ r) (joined (v ∷ ws))

other : (byte : ℕ) → byte ≢ 32 → is_space byte ≡ false
other byte n = grind (arith, nat_tests)

passed : (bytes : List ℕ) → NoSpace bytes → All (λ byte. is_space byte ≡ false) bytes
passed [] h = All-nil (λ byte. is_space byte ≡ false)
passed (byte ∷ bytes) h = All-cons (λ byte. is_space byte ≡ false) byte bytes (other byte h.0) (passed bytes h.1)

split : (w : TagPart) (ws : List TagPart) → AllByRecursion IsTagPart (w ∷ ws) → slice_split is_space (spaced (w ∷ ws)) ≡ map written (w ∷ ws)
split w [] h = slice_split_none is_space (written w) (passed (written w) (written-no_space w h.0))
split w (v ∷ ws) h =
    slice_split_at is_space (written w) 32 (spaced (v ∷ ws)) (passed (written w) (written-no_space w h.0)) refl
    ∙ ap (λ texts. written w ∷ texts) (split v ws h.1)

split-tag : (ws : List TagPart) (tag : List ℕ) → AreTagParts ws tag → map written ws ≡ slice_split is_space tag
split-tag [] tag a = absurd (a.some refl)
split-tag (w ∷ ws) tag a = sym (split w ws a.tag_parts) ∙ ap (slice_split is_space) a.spelled

-- ---- a part by how it is written

ends-rest : (begins : Bool) (bytes : List ℕ) → ends_atom begins bytes ≡ is_rest begins bytes
ends-rest begins [] = refl
ends-rest true (byte ∷ bytes) = ap (λ b. is_ascii_uppercase byte && b) (ends-rest false bytes)
ends-rest false (byte ∷ bytes) =
    ap (λ b. if byte == 46 then b else (is_name_byte byte && ends_atom false bytes)) (ends-rest true bytes)
    ∙ ap (λ b. if byte == 46 then is_rest true bytes else (is_name_byte byte && b)) (ends-rest false bytes)

abbrev Told : List ℕ → Option TagPart → Type 0
Told text (Some w) = IsTagPart w × (written w ≡ text)
Told text None = (w : TagPart) → IsTagPart w → written w ≢ text

-- what the search for a sign tells
abbrev Found : List Mark → List ℕ → Option TagPart → Type 0
Found signs text (Some w) = IsTagPart w × (written w ≡ text)
Found signs text None = All (Differs text) signs

has_role-is : (sign : Mark) → has_role sign ≡ true → role_of sign ≢ Other
has_role-is sign e f = let same : is_role (role_of sign) ≡ false = ap is_role f in absurd (cc)

is_role-not : (r : Role) → is_role r ≡ false → r ≡ Other
is_role-not Other e = refl
is_role-not _ e = absurd (cc)

sign_found : (signs : List Mark) (text : List ℕ) → Found signs text (sign_in signs text)
sign_found [] text = All-nil (Differs text)
sign_found (sign ∷ signs) text = by_role (has_role sign) refl (bytes_eq (spelling sign) text) refl (sign_in signs text) (sign_found signs text)
  where
    other : bytes_eq (spelling sign) text ≡ false → Differs text sign
    other e h f = let same : bytes_eq (spelling sign) text ≡ true = (bytes_eq-Decides (spelling sign) text).1 f in absurd (cc)

    on : Differs text sign → (o : Option TagPart) → Found signs text o → Found (sign ∷ signs) text o
    on d (Some w) f = f
    on d None f = All-cons (Differs text) sign signs d f

    by_role : (r : Bool) → has_role sign ≡ r → (b : Bool) → bytes_eq (spelling sign) text ≡ b → (o : Option TagPart) → Found signs text o → Found (sign ∷ signs) text (if r && b then Some (tag_part.Sign sign) else o)
    by_role false r b e o f = on (λ h. absurd (h (is_role-not (role_of sign) r))) o f
    by_role true r true e o f = (has_role-is sign r, (bytes_eq-Decides (spelling sign) text).0 e)
    by_role true r false e o f = on (other e) o f

told : (text : List ℕ) → Told text (tag_part_of text)
told text = by_hole (bytes_eq text (codes "%")) refl
  where
    no_hole : bytes_eq text (codes "%") ≡ false → codes "%" ≢ text
    no_hole e f = let same : bytes_eq text (codes "%") ≡ true = (bytes_eq-Decides text (codes "%")).1 (sym f) in absurd (cc)

    none : codes "%" ≢ text → ends_atom true text ≡ false → All (Differs text) ALL → (w : TagPart) → IsTagPart w → written w ≢ text
    none n e f tag_part.Hole h same = n same
    none n e f (tag_part.Atom name) h same = let ends : ends_atom true text ≡ true = ends-rest true text ∙ ap (is_rest true) (sym same) ∙ atom-read h in absurd (cc)
    none n e f (tag_part.Sign sign) h same = no_sign None text f sign h same

    by_sign : codes "%" ≢ text → ends_atom true text ≡ false → (o : Option TagPart) → Found ALL text o → Told text o
    by_sign n e (Some w) f = f
    by_sign n e None f = none n e f

    by_atom : codes "%" ≢ text → (b : Bool) → ends_atom true text ≡ b → Told text (if b then Some (tag_part.Atom text) else sign_in ALL text)
    by_atom n true e = (atom_from text (sym (ends-rest true text) ∙ e), refl)
    by_atom n false e = by_sign n e (sign_in ALL text) (sign_found ALL text)

    by_hole : (b : Bool) → bytes_eq text (codes "%") ≡ b → Told text (if b then Some tag_part.Hole else if ends_atom true text then Some (tag_part.Atom text) else sign_in ALL text)
    by_hole true e = (tt, sym ((bytes_eq-Decides text (codes "%")).0 e))
    by_hole false e = by_atom (no_hole e) (ends_atom true text) refl

-- ---- parts

abbrev TagParts : List (List ℕ) → Option (List TagPart) → Type 0
TagParts texts (Some ws) = AllByRecursion IsTagPart ws × (map written ws ≡ texts)
TagParts texts None = (ws : List TagPart) → AllByRecursion IsTagPart ws → map written ws ≢ texts

are_tag_parts : (texts : List (List ℕ)) → TagParts texts (tag_parts_of texts)
are_tag_parts [] = (tt, refl)
are_tag_parts (text ∷ texts) = by_tag_part (tag_part_of text) (told text) (tag_parts_of texts) (are_tag_parts texts)
  where
    no_first : ((w : TagPart) → IsTagPart w → written w ≢ text) → (ws : List TagPart) → AllByRecursion IsTagPart ws → map written ws ≢ text ∷ texts
    no_first n [] a e = absurd (cc)
    no_first n (w ∷ ws) a e = let same : written w ≡ text = cc in n w a.0 same

    no_others : ((ws : List TagPart) → AllByRecursion IsTagPart ws → map written ws ≢ texts) → (ws : List TagPart) → AllByRecursion IsTagPart ws → map written ws ≢ text ∷ texts
    no_others n [] a e = absurd (cc)
    no_others n (w ∷ ws) a e = let same : map written ws ≡ texts = cc in n ws a.1 same

    by_tag_part : (o : Option TagPart) → Told text o → (p : Option (List TagPart)) → TagParts texts p → TagParts (text ∷ texts) (option_and_then (λ (w : TagPart). onto w p) o)
    by_tag_part None t p h = no_first t
    by_tag_part (Some w) t None h = no_others h
    by_tag_part (Some w) t (Some ws) h = ((t.0, h.0), (λ i. t.1 i ∷ h.1 i))

-- ---- templates

pub is_template : (tag : List ℕ) → IsTemplateOf tag (template_of tag)
is_template tag = by_tag_parts (tag_parts_of (slice_split is_space tag)) (are_tag_parts (slice_split is_space tag))
  where
    by_reading : (ws : List TagPart) → AreTagParts ws tag → (p : Option Template) → reads (expecting []) ws ≡ p → IsTemplateOf tag p
    by_reading ws a None e = not_found ws tag a e
    by_reading ws a (Some t) e = found ws tag t a e

    some : (ws : List TagPart) → map written ws ≡ slice_split is_space tag → ws ≢ []
    some ws e f =
        let parts : length (slice_split is_space tag) ≡ count_by is_space tag + 1 = length-slice_split is_space tag in
        let none : length (slice_split is_space tag) ≡ 0 = sym (ap length e) ∙ ap (λ vs. length (map written vs)) f in
        absurd (omega (arith, parts, none))

    by_tag_parts : (o : Option (List TagPart)) → TagParts (slice_split is_space tag) o → IsTemplateOf tag (option_and_then (reads (expecting [])) o)
    by_tag_parts None h = no_tag tag (λ ws a. h ws a.tag_parts (split-tag ws tag a))
    by_tag_parts (Some ws) h = by_reading ws (record { some = some ws h.1; tag_parts = h.0; spelled = joined ws ∙ ap (join_with_byte 32) h.1 ∙ join_with_byte-slice_split 32 tag }) (reads (expecting []) ws) refl

-- ---- what the code answers

pub template-told : (o : Option Template) (tag : List ℕ) → IfSome o (λ t. HasTag t tag) → IfNone o ((t : Template) → HasTag t tag → ⊥) → HasOneTemplate tag → o ≡ template_of tag
template-told o tag h k one = same o (template_of tag) h k (is_template tag)
  where
    same : (o p : Option Template) → IfSome o (λ t. HasTag t tag) → IfNone o ((t : Template) → HasTag t tag → ⊥) → IsTemplateOf tag p → o ≡ p
    same None None h k i = refl
    same (Some t) (Some u) h k i = ap Some (one t u h i)
    same None (Some u) h k i = absurd (k u i)
    same (Some t) None h k i = absurd (i t h)
