-- The table of names has them all, and no two are spelled alike.
use Rattle.std.proofs.Common.{◌≡◌, ℕ, ◌<◌, get_or, refl, sym, ap, ◌∙◌, arith, if◌then◌else◌, ◌==◌}
use Rattle.std.specs.Prelude.{sum}
use Rattle.st_words.specs.Names.{name_spelling}
use Rattle.st_words.specs.declared.name.TheConstants.{NAMES}
use Rattle.st_words.specs.declared.name.CommandName.{CommandName}
use Rattle.st_words.specs.declared.name.CommandName.TheVariants.{Check, Il, Groups, Order, Eval, Next, Run, Derive, Verify, Prose, Latex, Make}

-- where a name stands in the table
abbrev pub name_place : CommandName → ℕ
name_place Check = 0
name_place Il = 1
name_place Groups = 2
name_place Order = 3
name_place Eval = 4
name_place Next = 5
name_place Run = 6
name_place Derive = 7
name_place Verify = 8
name_place Prose = 9
name_place Latex = 10
name_place Make = 11

pub name_there : (name : CommandName) → get_or NAMES (name_place name) Check ≡ name
name_there Check = refl
name_there _ = refl

pub name_place_below : (name : CommandName) → name_place name < 12
name_place_below Check = omega arith
name_place_below _ = omega arith

-- the name whose bytes have this sum, since no two have the same
abbrev named_by : ℕ → CommandName
named_by total =
    if total == 510 then Check
    else if total == 213 then Il
    else if total == 672 then Groups
    else if total == 540 then Order
    else if total == 424 then Eval
    else if total == 447 then Next
    else if total == 341 then Run
    else if total == 639 then Derive
    else if total == 661 then Verify
    else if total == 553 then Prose
    else if total == 542 then Latex
    else Make

named : (name : CommandName) → named_by (sum (name_spelling name)) ≡ name
named Check = refl
named _ = refl

pub name_only : (name other : CommandName) → name_spelling name ≡ name_spelling other → name ≡ other
name_only name other same = sym (named name) ∙ ap (λ bytes. named_by (sum bytes)) same ∙ named other
