-- What is mentioned in each form of expression.
use Rattle.std.proofs.Common.{arith, ◌≡◌, ◌⊎◌, inl, inr, ℕ, List, [], ◌++◌, map, ap, ◌∙◌}
use Rattle.std.proofs.lemmas.Grind.{common_steps}
use Rattle.st_num.specs.declared.span.Span.{Span}
use Rattle.st_el.specs.declared.expression.Exp.{Exp}
use Rattle.st_el.specs.declared.expression.Node.{Node, out-Node, map-Node, fold_out-Node}
use Rattle.st_el.specs.declared.expression.Node.TheVariants as v
use Rattle.st_el.specs.declared.expression.Count.{Count}
use Rattle.st_el.specs.declared.expression.Count.TheOpen.{Node-F}
use Rattle.st_el.specs.declared.expression.Seg.{Seg}
use Rattle.st_dims.specs.declared.within.Within.{Within}
use Rattle.st_dims.specs.declared.mention.Mention.{Mention}
use Rattle.st_dims.specs.declared.mention.Mention.TheVariants.{Indexes}
use Rattle.st_dims.specs.Mentions.{Sees, CountMeaning, count_meaning, count_meaning_at, mentions_node_at, mentions_seg_at, mentions_exp_at, mentions_exp, mentions_node, mentions_seg, iterated, seen_in, fields_seen, field_mentions, iteration, body_round}

-- a level with what is mentioned in its parts
abbrev pub parts_seen : Node-F Count Node Seg Exp → Node-F CountMeaning (Span → Sees) Sees Sees
parts_seen = map-Node Count Node Seg Exp CountMeaning (Span → Sees) Sees Sees count_meaning mentions_node mentions_seg mentions_exp

node-seen : (node : Node) → mentions_node node ≡ mentions_node_at (parts_seen (out-Node node))
node-seen node = fold_out-Node CountMeaning (Span → Sees) Sees Sees count_meaning_at mentions_node_at mentions_seg_at mentions_exp_at node

node-opened :
    (node : Node) (level : Node-F Count Node Seg Exp) (at : Span) (within : Within) → out-Node node ≡ level
    → mentions_node node at within ≡ mentions_node_at (parts_seen level) at within
node-opened node level at within is =
    ap (λ sees. sees at within) (node-seen node) ∙ ap (λ l. mentions_node_at (parts_seen l) at within) is

pub node-At :
    (node : Node) (whole from : Exp) (at : Span) (within : Within) → node ≡ v.At whole from
    → mentions_node node at within ≡ mentions_exp whole within ++ mentions_exp from within
node-At node whole from at within is = node-opened node _ at within (ap out-Node is ∙ v.outs-At whole from)

pub node-Slice :
    (node : Node) (whole from length : Exp) (at : Span) (within : Within) → node ≡ v.Slice whole from length
    → mentions_node node at within ≡ mentions_exp whole within ++ mentions_exp from within ++ mentions_exp length within
node-Slice node whole from length at within is = node-opened node _ at within (ap out-Node is ∙ v.outs-Slice whole from length)

node-Update :
    (node : Node) (whole : Exp) (path : List Seg) (part : Exp) (at : Span) (within : Within) → node ≡ v.Update whole path part
    → mentions_node node at within ≡ mentions_exp whole within ++ seen_in (map mentions_seg path) within ++ mentions_exp part within
node-Update node whole path part at within is = node-opened node _ at within (ap out-Node is ∙ v.outs-Update whole path part)

node-Extend :
    (node : Node) (whole : Exp) (path : List Seg) (part : Exp) (at : Span) (within : Within) → node ≡ v.Extend whole path part
    → mentions_node node at within ≡ mentions_exp whole within ++ seen_in (map mentions_seg path) within ++ mentions_exp part within
node-Extend node whole path part at within is = node-opened node _ at within (ap out-Node is ∙ v.outs-Extend whole path part)

pub node-Change :
    (node : Node) (whole : Exp) (path : List Seg) (part : Exp) (at : Span) (within : Within)
    → (node ≡ v.Update whole path part) ⊎ (node ≡ v.Extend whole path part)
    → mentions_node node at within ≡ mentions_exp whole within ++ seen_in (map mentions_seg path) within ++ mentions_exp part within
node-Change node whole path part at within (inl is) = node-Update node whole path part at within is
node-Change node whole path part at within (inr is) = node-Extend node whole path part at within is

pub node-Iter :
    (node : Node) (body : Exp) (count : Count) (at : Span) (within : Within) → node ≡ v.Iter body count
    → mentions_node node at within ≡ iterated (count_meaning count) (mentions_exp body) at within
node-Iter node body count at within is = node-opened node _ at within (ap out-Node is ∙ v.outs-Iter body count)

pub node-Fields :
    (node : Node) (fields : List (List ℕ × Exp)) (at : Span) (within : Within) → node ≡ v.Fields fields
    → mentions_node node at within ≡ fields_seen (map field_mentions fields) within
node-Fields node fields at within is = node-opened node _ at within (ap out-Node is ∙ v.outs-Fields fields)

-- ---- what stands behind what was there

pub two_end :
    {A : Type 0} (old first a b whole : List A) → first ≡ old ++ a → whole ≡ a ++ b → first ++ b ≡ old ++ whole
two_end old first a b whole f w = grind (arith, common_steps)

pub three_end :
    {A : Type 0} (old first second a b c whole : List A) → first ≡ old ++ a → second ≡ first ++ b → whole ≡ a ++ b ++ c
    → second ++ c ≡ old ++ whole
three_end old first second a b c whole f s w = grind (arith, common_steps)

four_end :
    {A : Type 0} (old first a b c d : List A) → first ≡ old ++ a ++ b ++ c → first ++ d ≡ old ++ (a ++ b ++ c ++ d)
four_end old first a b c d f = grind (arith, common_steps)

pub iterated_end :
    (mark : CountMeaning) (sees : Sees) (at : Span) (within inner : Within) (body old first : List Mention)
    → inner ≡ body_round mark within → body ≡ [] ++ sees inner
    → first ≡ old ++ iteration mark at within body ++ map Indexes mark.index ++ body
    → first ++ mark.count within ≡ old ++ iterated mark sees at within
iterated_end mark sees at within inner body old first i b f =
    let is : body ≡ sees (body_round mark within) = b ∙ ap sees i in
    four_end old first (iteration mark at within body) (map Indexes mark.index) body (mark.count within) f
    ∙ ap (λ x. old ++ (iteration mark at within x ++ map Indexes mark.index ++ x ++ mark.count within)) is
