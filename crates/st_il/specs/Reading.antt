-- How the parts of a tag are read, one after another: what waits, the innermost first, and what
-- each part makes of it. That a tag leads to the one template that has it, and to none where none
-- has, is a law (AreTemplates): it tells what is read without these steps.
use Rattle.std.specs.Prelude.{ℕ, List, [], ◌∷◌, ◌++◌, Option, Some, None, Bool, true, false, ◌&&◌, nat_le, nat_lt, if◌then◌else◌}
use Rattle.std.specs.Option.{option_map, option_and_then}
use Rattle.st_num.specs.declared.mark.Mark.{Mark}
use Rattle.st_num.specs.declared.mark.Mark.TheVariants.{Turnstile}
use Rattle.st_il.specs.declared.template.Enclosure.{Enclosure}
use Rattle.st_il.specs.declared.template.Enclosure.TheVariants.{Parens, Brackets, Braces}
use Rattle.st_il.specs.declared.template.Role.{Role}
use Rattle.st_il.specs.declared.template.Role.TheVariants.{Divides, Opens, Closes, Other}
use Rattle.st_il.specs.declared.template.Template.{Template, out-Template}
use Rattle.st_il.specs.declared.template.Template.TheOpen.{Template-F}
use Rattle.st_il.specs.declared.template.Template.TheVariants as template
use Rattle.st_il.specs.declared.template.TagPart.{TagPart}
use Rattle.st_il.specs.declared.template.TagPart.TheVariants as tag_part
use Rattle.st_il.specs.declared.reading.Frame.{Frame}
use Rattle.st_il.specs.declared.reading.Frame.TheVariants.{Open, Left, Elements}
use Rattle.st_num.specs.Signs.{left_of, right_of}
use Rattle.st_num.specs.declared.limit.TheConstants.{HIGHEST_TREE}
use Rattle.st_il.specs.Notation.{role_of}
use Rattle.st_il.specs.Template.{template_height}

-- how far the parts of a tag are read, with the frames that are open
pub data State : Type 0 where
  -- an operand is due
  expecting : List Frame → State
  -- this element is read
  read : Template → List Frame → State

-- the level at which a sign of this role divides, and 0 where it does not divide
abbrev pub divided_at : Role → ℕ
divided_at (Divides level) = level
divided_at _ = 0

-- the level at which a sign divides
abbrev pub sign_level : Mark → ℕ
sign_level sign = divided_at (role_of sign)

-- the level of a template, by its top
abbrev pub level_at : {X : Type 0} → Template-F X → ℕ
level_at (Template-F.Atom name) = 15
level_at Template-F.Hole = 15
level_at (Template-F.Seq parts) = 14
level_at (Template-F.Infix left sign right) = sign_level sign
level_at (Template-F.Bracket opening inside) = 15

-- the level of a template
abbrev pub level_of : Template → ℕ
level_of t = level_at (out-Template t)

-- whether the left side of the sign may be absent
abbrev pub may_lack_left : Mark → Bool
may_lack_left Turnstile = true
may_lack_left _ = false

-- whether nothing waits between the innermost bracket and what is read
abbrev pub is_outermost : List Frame → Bool
is_outermost [] = true
is_outermost (Open opening enclosure ∷ fs) = true
is_outermost (Left left sign ∷ fs) = false
is_outermost (Elements parts ∷ fs) = false

-- what a sign of this role makes where an operand is due
abbrev pub begin_sign : List Frame → Mark → Role → Option State
begin_sign fs sign (Divides level) =
    if may_lack_left sign && is_outermost fs then Some (expecting (Left (template.Seq []) sign ∷ fs))
    else None
begin_sign fs sign (Opens enclosure) = Some (expecting (Open sign enclosure ∷ fs))
begin_sign fs sign (Closes enclosure) = None
begin_sign fs sign Other = None

-- what a part makes where an operand is due
abbrev pub begin : List Frame → TagPart → Option State
begin fs tag_part.Hole = Some (read template.Hole fs)
begin fs (tag_part.Atom name) = Some (read (template.Atom name) fs)
begin fs (tag_part.Sign sign) = begin_sign fs sign (role_of sign)

-- the template is an element of a sequence that goes on
abbrev pub extend : Template → List Frame → List Frame
extend t [] = Elements (t ∷ []) ∷ []
extend t (Open opening enclosure ∷ fs) = Elements (t ∷ []) ∷ Open opening enclosure ∷ fs
extend t (Left left sign ∷ fs) = Elements (t ∷ []) ∷ Left left sign ∷ fs
extend t (Elements parts ∷ fs) = Elements (parts ++ t ∷ []) ∷ fs

-- whether a frame binds what is read tighter than a sign of this level does
abbrev pub binds : Frame → ℕ → Bool
binds (Open opening enclosure) level = false
binds (Left left sign) level = nat_lt level (right_of (sign_level sign))
binds (Elements parts) level = true

-- a frame with what stands behind it
abbrev pub closed : Frame → Template → Template
closed (Open opening enclosure) t = template.Bracket opening t
closed (Left left sign) t = template.Infix left sign t
closed (Elements parts) t = template.Seq (parts ++ t ∷ [])

-- the template, where it is not too high
abbrev pub limited : Template → Option Template
limited t = if nat_le (template_height t) HIGHEST_TREE then Some t else None

-- the frames that bind tighter than a sign of this level end
abbrev pub reduce : ℕ → Template → List Frame → Option (Template × List Frame)
reduce level t [] = Some (t, [])
reduce level t (f ∷ fs) =
    if binds f level then option_and_then (λ grown. reduce level grown fs) (limited (closed f t))
    else Some (t, f ∷ fs)

-- the template is the left side of a sign
abbrev pub divide : Mark → ℕ → Template × List Frame → Option State
divide sign level p =
    if nat_le (left_of level) (level_of p.0) then Some (expecting (Left p.0 sign ∷ p.1)) else None

-- two enclosures are the same
abbrev pub is_same : Enclosure → Enclosure → Bool
is_same Parens Parens = true
is_same Brackets Brackets = true
is_same Braces Braces = true
is_same _ _ = false

-- the innermost bracket ends, where it is one of these
abbrev pub shut : Enclosure → Template → List Frame → Option State
shut enclosure t [] = None
shut enclosure t (Open opening opened ∷ fs) =
    if is_same opened enclosure
    then option_map (λ bracket. read bracket fs) (limited (template.Bracket opening t))
    else None
shut enclosure t (Left left sign ∷ fs) = None
shut enclosure t (Elements parts ∷ fs) = None

-- what a sign of this role makes behind an element
abbrev pub after_sign : Template → List Frame → Mark → Role → Option State
after_sign t fs sign (Divides level) = option_and_then (divide sign level) (reduce level t fs)
after_sign t fs sign (Opens enclosure) = begin (extend t fs) (tag_part.Sign sign)
after_sign t fs sign (Closes enclosure) =
    option_and_then (λ p. shut enclosure p.0 p.1) (reduce 0 t fs)
after_sign t fs sign Other = begin (extend t fs) (tag_part.Sign sign)

-- what a part makes behind an element
abbrev pub after : Template → List Frame → TagPart → Option State
after t fs tag_part.Hole = begin (extend t fs) tag_part.Hole
after t fs (tag_part.Atom name) = begin (extend t fs) (tag_part.Atom name)
after t fs (tag_part.Sign sign) = after_sign t fs sign (role_of sign)

-- what a part makes of a state
abbrev pub step : State → TagPart → Option State
step (expecting fs) w = begin fs w
step (read t fs) w = after t fs w

-- the state behind these parts
abbrev pub run : State → List TagPart → Option State
run st [] = Some st
run st (w ∷ ws) = option_and_then (λ next. run next ws) (step st w)

-- the template, where no frame is open
abbrev pub whole : Template → List Frame → Option Template
whole t [] = Some t
whole t (f ∷ fs) = None

-- the template of all the parts
abbrev pub finish : State → Option Template
finish (expecting fs) = None
finish (read t fs) = option_and_then (λ p. whole p.0 p.1) (reduce 0 t fs)

-- the template that is read when these parts end, from this state on
abbrev pub reads : State → List TagPart → Option Template
reads st ws = option_and_then finish (run st ws)
