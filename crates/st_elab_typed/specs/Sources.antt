-- The premises of a source that can stand in the internal language.
use Rattle.std.specs.Prelude.{◌≡◌, Bool, true, false}
use Rattle.st_el.specs.declared.definition.Prem.{Prem, Prem-F, fold-Prem, out-Prem}
use Rattle.st_el.specs.declared.definition.PremNode.{PremNode, out-PremNode}
use Rattle.st_el.specs.declared.definition.PremNode.TheOpen.{PremNode-F}

-- whether what a premise is is an `otherwise`, where this is told of the premise that it repeats
abbrev pub otherwise_node : PremNode-F Bool Bool → Bool
otherwise_node (PremNode-F.If e) = false
otherwise_node (PremNode-F.Goal name e) = false
otherwise_node PremNode-F.Otherwise = true
otherwise_node (PremNode-F.Each prem count) = prem

-- the same of the premise
abbrev pub otherwise_prem : Prem-F Bool Bool → Bool
otherwise_prem prem = prem.node

-- whether a premise of a source is an `otherwise`, iterated or not
abbrev pub is_otherwise : Prem → Bool
is_otherwise = fold-Prem Bool Bool otherwise_node otherwise_prem

-- whether what a premise is repeats an `otherwise`
abbrev pub repeats_otherwise : PremNode-F PremNode Prem → Bool
repeats_otherwise (PremNode-F.Each prem count) = is_otherwise prem
repeats_otherwise node = false

-- No iteration in the premise repeats an `otherwise`.
abbrev pub RepeatsNoOtherwise : Prem → Type 0
RepeatsNoOtherwise p = repeats_otherwise (out-PremNode (out-Prem p).node) ≡ false
