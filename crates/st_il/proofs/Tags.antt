-- A tag has at most one template, and that is the one that is read.
use Rattle.std.proofs.Common.{◌≡◌, refl, sym, ◌∙◌, ap, subst, ℕ, List, [], ◌∷◌, ◌++◌}
use Rattle.std.specs.Prelude.{◌≢◌, Option, Some, None, IfSome, IfNone}
use Rattle.std.specs.List.{AllByRecursion}
use Rattle.st_num.specs.declared.mark.Mark.{Mark}
use Rattle.st_num.specs.declared.mark.Mark.TheVariants.{Turnstile}
use Rattle.st_il.specs.declared.template.Role.TheVariants.{Divides, Opens, Closes, Other}
use Rattle.st_il.specs.declared.template.Template.{Template}
use Rattle.st_il.specs.declared.template.Template.TheVariants as template
use Rattle.st_il.specs.declared.template.TagPart.{TagPart}
use Rattle.st_il.specs.declared.template.TagPart.TheVariants as tag_part
use Rattle.st_il.specs.Notation.{role_of, closing, IsNotation, atom, hole, bracket, sequence, divided, without_left, AreElements, none, more}
use Rattle.st_il.specs.Template.{tag_parts_of, IsTagPart, AreTagParts, HasTag, HasOneTemplate}
use Rattle.st_il.specs.Reading.{expecting, reads}
use Rattle.st_il.proofs.TemplateForms.{tag_parts_all, tag_parts-Atom, tag_parts-Hole, tag_parts-Seq, tag_parts-Infix, tag_parts-Bracket}
use Rattle.st_il.proofs.ReadingComplete.{complete, closing-role}
use Rattle.st_il.proofs.ReadingSound.{sound}
use Rattle.st_il.proofs.TagParts.{one_list}

abbrev AllWords : List TagPart → Type 0
AllWords = AllByRecursion IsTagPart

tag_parts-append : (ws vs : List TagPart) → AllWords ws → AllWords vs → AllWords (ws ++ vs)
tag_parts-append [] vs h k = k
tag_parts-append (w ∷ ws) vs h k = (h.0, tag_parts-append ws vs h.1 k)

divides-tag_part : (sign : Mark) (level : ℕ) → role_of sign ≡ Divides level → role_of sign ≢ Other
divides-tag_part sign level r e = absurd (cc)

opens-tag_part : (sign : Mark) (enclosure : _) → role_of sign ≡ Opens enclosure → role_of sign ≢ Other
opens-tag_part sign enclosure r e = absurd (cc)

closes-tag_part : (sign : Mark) (enclosure : _) → role_of sign ≡ Closes enclosure → role_of sign ≢ Other
closes-tag_part sign enclosure r e = absurd (cc)

-- the parts of a notation may stand in a tag
mutual
  pub notation-tag_parts : {n : ℕ} {t : Template} → IsNotation n t → AllWords (tag_parts_of t)
  notation-tag_parts (atom name e a) = subst AllWords (sym (ap tag_parts_of e ∙ tag_parts-Atom name)) (a, tt)
  notation-tag_parts (hole e) = subst AllWords (sym (ap tag_parts_of e ∙ tag_parts-Hole)) (tt, tt)
  notation-tag_parts (bracket opening enclosure inside e r d) =
      let last = closes-tag_part (closing opening) enclosure (closing-role opening enclosure r) in
      subst AllWords (sym (ap tag_parts_of e ∙ tag_parts-Bracket opening inside)) (opens-tag_part opening enclosure r, tag_parts-append (tag_parts_of inside) (tag_part.Sign (closing opening) ∷ []) (notation-tag_parts d) (last, tt))
  notation-tag_parts (sequence parts k e d l) = subst AllWords (sym (ap tag_parts_of e ∙ tag_parts-Seq parts)) (elements-tag_parts d)
  notation-tag_parts (divided level left sign right k e r d f) =
      subst AllWords (sym (ap tag_parts_of e ∙ tag_parts-Infix left sign right)) (tag_parts-append (tag_parts_of left) (tag_part.Sign sign ∷ tag_parts_of right) (notation-tag_parts d) (divides-tag_part sign level r, notation-tag_parts f))
  notation-tag_parts (without_left right k e d) =
      subst AllWords (sym (ap tag_parts_of e ∙ tag_parts-Infix (template.Seq []) Turnstile right ∙ ap (λ ws. ws ++ tag_part.Sign Turnstile ∷ tag_parts_of right) (tag_parts-Seq [])))
      (divides-tag_part Turnstile 7 refl, notation-tag_parts d)

  elements-tag_parts : {ts : List Template} → AreElements ts → AllWords (tag_parts_all ts)
  elements-tag_parts none = tt
  elements-tag_parts (more {t = t} {ts = ts} d ds) = tag_parts-append (tag_parts_of t) (tag_parts_all ts) (notation-tag_parts d) (elements-tag_parts ds)

-- a template's parts are those of its tag
pub tag-tag_parts : (t : Template) (tag : List ℕ) → HasTag t tag → AreTagParts (tag_parts_of t) tag
tag-tag_parts t tag h = record { some = some; tag_parts = notation-tag_parts h.template.notation; spelled = h.spelled }
  where
    some : tag_parts_of t ≢ []
    some e = let whole = complete t h.template in let nothing : reads (expecting []) (tag_parts_of t) ≡ None = ap (reads (expecting [])) e in absurd (cc)

pub one_template : (tag : List ℕ) → HasOneTemplate tag
one_template tag a b h k =
    let same : tag_parts_of a ≡ tag_parts_of b = one_list (tag_parts_of a) (tag_parts_of b) tag (tag-tag_parts a tag h) (tag-tag_parts b tag k) in
    let first = complete a h.template in
    let second = complete b k.template in
    let both : Some a ≡ Some b = sym first ∙ ap (reads (expecting [])) same ∙ second in
    cc

pub found : (ws : List TagPart) (tag : List ℕ) (t : Template) → AreTagParts ws tag → reads (expecting []) ws ≡ Some t → HasTag t tag
found ws tag t h e =
    let is = sound ws t h.tag_parts e in
    record { template = is.template; spelled = (subst (λ vs. AreTagParts vs tag) (sym is.spelled) h).spelled }

pub not_found : (ws : List TagPart) (tag : List ℕ) → AreTagParts ws tag → reads (expecting []) ws ≡ None → (t : Template) → HasTag t tag → ⊥
not_found ws tag h e t k =
    let same : tag_parts_of t ≡ ws = one_list (tag_parts_of t) ws tag (tag-tag_parts t tag k) h in
    let whole = complete t k.template in
    let nothing : reads (expecting []) (tag_parts_of t) ≡ None = ap (reads (expecting [])) same ∙ e in
    absurd (cc)

pub no_tag : (tag : List ℕ) → ((ws : List TagPart) → AreTagParts ws tag → ⊥) → (t : Template) → HasTag t tag → ⊥
no_tag tag nothing t k = nothing (tag_parts_of t) (tag-tag_parts t tag k)

-- ---- what the code answers

abbrev Found : List ℕ → Option (List TagPart) → Type 0
Found tag o = IfSome o (λ ws. AreTagParts ws tag)

some_list : (o : Option (List TagPart)) (ws : List TagPart) (tag : List ℕ) → o ≡ Some ws → Found tag o → AreTagParts ws tag
some_list o ws tag e h = subst (Found tag) e h

pub answer_no_tag_parts : (o : Option (List TagPart)) (tag : List ℕ) → o ≡ None → IfNone o ((ws : List TagPart) → AreTagParts ws tag → ⊥) → (t : Template) → HasTag t tag → ⊥
answer_no_tag_parts o tag e h = no_tag tag (subst (λ p. IfNone p ((ws : List TagPart) → AreTagParts ws tag → ⊥)) e h)

pub answer_some : (o : Option (List TagPart)) (ws vs : List TagPart) (tag : List ℕ) (p : Option Template) → o ≡ Some ws → IfSome o (λ ws. AreTagParts ws tag) → vs ≡ ws → p ≡ reads (expecting []) vs → IfSome p (λ t. HasTag t tag)
answer_some o ws vs tag None e h s f = tt
answer_some o ws vs tag (Some t) e h s f = found ws tag t (some_list o ws tag e h) (ap (reads (expecting [])) (sym s) ∙ sym f)

pub answer_none : (o : Option (List TagPart)) (ws vs : List TagPart) (tag : List ℕ) (p : Option Template) → o ≡ Some ws → IfSome o (λ ws. AreTagParts ws tag) → vs ≡ ws → p ≡ reads (expecting []) vs → IfNone p ((t : Template) → HasTag t tag → ⊥)
answer_none o ws vs tag None e h s f = not_found ws tag (some_list o ws tag e h) (ap (reads (expecting [])) (sym s) ∙ sym f)
answer_none o ws vs tag (Some t) e h s f = tt
