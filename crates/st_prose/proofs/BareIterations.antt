-- An iteration whose body is a name without letters is printed as its mark alone.
use Rattle.std.proofs.Common.{◌≡◌, refl, ◌∙◌, ap, ℕ, List, [], ◌++◌, append-nil}
use Rattle.st_el.specs.declared.context.Around.TheVariants.{Brackets}
use Rattle.st_el.specs.declared.context.Behind.{Behind}
use Rattle.st_el.specs.declared.context.Behind.TheVariants as behind
use Rattle.st_el.specs.declared.context.Context.{Context}
use Rattle.st_el.specs.declared.expression.Count.{Count}
use Rattle.st_el.specs.declared.expression.Count.TheOpen.{Node-F}
use Rattle.st_el.specs.declared.expression.Exp.{Exp, Exp-F, fold_out-Exp, out-roll-Exp}
use Rattle.st_el.specs.declared.expression.Node.{Node, out-Node, fold_out-Node}
use Rattle.st_el.specs.declared.expression.Node.TheVariants as node
use Rattle.st_el.specs.Contexts.{operand_before, whole}
use Rattle.st_el.specs.Plain.{nowhere}
use Rattle.st_el.specs.SourceText.{parts_printed, printed, printed_node, printed_mark, printed_mark_at, printed_node_at, printed_step_at, printed_exp_at, text_at, source_text}
use Rattle.st_el.specs.Wrappings.{IterationText, Printed}
use Rattle.st_erase.specs.declared.erased.Erased.{Erased}
use Rattle.st_erase.specs.Places as places
use Rattle.st_erase.specs.Erasure.{Item, plain_form, exp_at, iteration_at, item_at, segment_at, erased, erased_iteration, erased_item, erased_segment}
use Rattle.st_el.specs.declared.expression.Seg.{Seg}
use Rattle.st_il.specs.declared.definition.Il.{Il}
use Rattle.st_il.specs.declared.definition.IlDef.{IlDef}
use Rattle.st_il.specs.declared.expression.IlExp.{IlExp, out-IlExp, fold_out-IlExp, map-IlExp}
use Rattle.st_il.specs.declared.expression.IlExp.TheOpen.{IlExp-F}
use Rattle.st_il.specs.declared.expression.IlExp.TheVariants as il_exp
use Rattle.st_il.specs.declared.expression.Iteration.{Iteration}
use Rattle.st_il.specs.declared.expression.ListItem.{ListItem}
use Rattle.st_il.specs.declared.expression.PathSeg.{PathSeg}
use Rattle.st_prose.specs.Sentences.{exp_text, mark_text}

-- ---- erasure

erased-level : (defs : List IlDef) (e : IlExp) (y : IlExp-F IlExp Iteration ListItem PathSeg) → out-IlExp e ≡ y
    → erased defs e ≡ exp_at defs (map-IlExp IlExp Iteration ListItem PathSeg Erased Count Item Seg (erased defs) (erased_iteration defs) (erased_item defs) (erased_segment defs) y)
erased-level defs e y is =
    fold_out-IlExp Erased Count Item Seg (exp_at defs) (iteration_at defs) (item_at defs) (segment_at defs) e
    ∙ ap (λ z. exp_at defs (map-IlExp IlExp Iteration ListItem PathSeg Erased Count Item Seg (erased defs) (erased_iteration defs) (erased_item defs) (erased_segment defs) z)) is

-- a name without letters
abbrev bare : Exp
bare = places.exp (node.Name [])

erased-bare : (defs : List IlDef) → erased defs (il_exp.Var []) ≡ plain_form (node.Name [])
erased-bare defs = erased-level defs (il_exp.Var []) (IlExp-F.Var []) (il_exp.outs-Var [])

erased-iteration : (defs : List IlDef) (how : Iteration) → erased defs (il_exp.Iter how [] (il_exp.Var [])) ≡ plain_form (node.Iter bare (erased_iteration defs how))
erased-iteration defs how =
    erased-level defs (il_exp.Iter how [] (il_exp.Var [])) (IlExp-F.Iter how [] (il_exp.Var [])) (il_exp.outs-Iter how [] (il_exp.Var []))
    ∙ ap (λ (x : Erased). exp_at defs (IlExp-F.Iter (erased_iteration defs how) [] x)) (erased-bare defs)

-- ---- the text

printed-exp : (n : Node) (y : Node-F Count Node Seg Exp) (context : Context) → out-Node n ≡ y → (printed (places.exp n)).at context ≡ text_at (parts_printed y) context
printed-exp n y context is =
    ap (λ (p : Printed). p.at context)
    (fold_out-Exp IterationText Printed (List ℕ) Printed printed_mark_at printed_node_at printed_step_at printed_exp_at (places.exp n)
    ∙ ap (λ (x : Exp-F Count Node Seg Exp). printed_node x.node) (out-roll-Exp (record { at = nowhere; node = n }))
    ∙ fold_out-Node IterationText Printed (List ℕ) Printed printed_mark_at printed_node_at printed_step_at printed_exp_at n)
    ∙ ap (λ z. text_at (parts_printed z) context) is

-- a name without letters is printed as nothing, whatever stands behind it
bare-text : (b : Behind) → text_at (Node-F.Name []) (operand_before Brackets b) ≡ []
bare-text behind.Other = refl
bare-text behind.Dot = refl
bare-text behind.Plus = refl

printed-bare : (b : Behind) → (printed bare).at (operand_before Brackets b) ≡ []
printed-bare b = printed-exp (node.Name []) (Node-F.Name []) (operand_before Brackets b) (node.outs-Name []) ∙ bare-text b

printed-iteration : (mark : Count) → source_text (places.exp (node.Iter bare mark)) ≡ (printed_mark mark).text
printed-iteration mark =
    printed-exp (node.Iter bare mark) (Node-F.Iter bare mark) (whole Brackets) (node.outs-Iter bare mark)
    ∙ ap (λ z. z ++ (printed_mark mark).text ++ []) (printed-bare (printed_mark mark).behind)
    ∙ append-nil (printed_mark mark).text

pub exp_text-mark : (il : Il) (how : Iteration) → exp_text il (il_exp.Iter how [] (il_exp.Var [])) ≡ mark_text il how
exp_text-mark il how =
    ap (λ (x : Erased). source_text (places.whole x)) (erased-iteration il.defs how) ∙ printed-iteration (erased_iteration il.defs how)

-- the same where its parts are known to be these
pub bare_iteration : (il : Il) (how it : Iteration) (names : List (List ℕ)) (body : IlExp) → it ≡ how → names ≡ [] → body ≡ il_exp.Var [] → exp_text il (il_exp.Iter it names body) ≡ mark_text il how
bare_iteration il how it names body h n b =
    ap (λ z. exp_text il (il_exp.Iter z names body)) h
    ∙ ap (λ z. exp_text il (il_exp.Iter how z body)) n
    ∙ ap (λ z. exp_text il (il_exp.Iter how [] z)) b
    ∙ exp_text-mark il how
