-- What the mark of an iteration says, by its count.
use Rattle.std.proofs.Common.{◌≡◌, refl, ap, ◌∙◌, ℕ, List, Bool}
use Rattle.st_num.specs.declared.span.Span.{Span}
use Rattle.st_num.specs.declared.dim.Kind.{Kind}
use Rattle.st_el.specs.declared.expression.Exp.{Exp}
use Rattle.st_el.specs.declared.expression.Node.{Node}
use Rattle.st_el.specs.declared.expression.Count.{Count, out-Count, map-Count, fold_out-Count}
use Rattle.st_el.specs.declared.expression.Count.TheOpen.{Count-F}
use Rattle.st_el.specs.declared.expression.Seg.{Seg}
use Rattle.st_dims.specs.declared.within.Within.{Within}
use Rattle.st_dims.specs.Around.{kind_at, index_at, entered, inside}
use Rattle.st_dims.specs.Mentions.{Sees, CountMeaning, count_meaning, count_meaning_at, must_iterate_at, body_round, mentions_node_at, mentions_seg_at, mentions_exp_at, mentions_exp, mentions_node, mentions_seg}

-- a count with what is mentioned in it
abbrev count_seen : Count-F Count Node Seg Exp → Count-F CountMeaning (Span → Sees) Sees Sees
count_seen = map-Count Count Node Seg Exp CountMeaning (Span → Sees) Sees Sees count_meaning mentions_node mentions_seg mentions_exp

count_meaning-opened : (count : Count) → count_meaning count ≡ count_meaning_at (count_seen (out-Count count))
count_meaning-opened count = fold_out-Count CountMeaning (Span → Sees) Sees Sees count_meaning_at mentions_node_at mentions_seg_at mentions_exp_at count

same_kind : (level : Count-F Count Node Seg Exp) → kind_at (count_seen level) ≡ kind_at level
same_kind Count-F.Star = refl
same_kind Count-F.Plus = refl
same_kind Count-F.Quest = refl
same_kind (Count-F.Times times) = refl
same_kind (Count-F.Below index times) = refl

same_index : (level : Count-F Count Node Seg Exp) → index_at (count_seen level) ≡ index_at level
same_index Count-F.Star = refl
same_index Count-F.Plus = refl
same_index Count-F.Quest = refl
same_index (Count-F.Times times) = refl
same_index (Count-F.Below index times) = refl

same_must : (level : Count-F Count Node Seg Exp) → must_iterate_at (count_seen level) ≡ must_iterate_at level
same_must Count-F.Star = refl
same_must Count-F.Plus = refl
same_must Count-F.Quest = refl
same_must (Count-F.Times times) = refl
same_must (Count-F.Below index times) = refl

pub marked_kind : (count : Count) → (count_meaning count).kind ≡ kind_at (out-Count count)
marked_kind count = ap (λ (mark : CountMeaning). mark.kind) (count_meaning-opened count) ∙ same_kind (out-Count count)

pub marked_index : (count : Count) → (count_meaning count).index ≡ index_at (out-Count count)
marked_index count = ap (λ (mark : CountMeaning). mark.index) (count_meaning-opened count) ∙ same_index (out-Count count)

pub marked_must : (count : Count) → (count_meaning count).must_iterate ≡ must_iterate_at (out-Count count)
marked_must count = ap (λ (mark : CountMeaning). mark.must_iterate) (count_meaning-opened count) ∙ same_must (out-Count count)

-- what stands round the body of an iteration, by its mark
pub marked_round : (within : Within) (count : Count) → body_round (count_meaning count) within ≡ inside within count
marked_round within count =
    ap (λ kind. entered kind (count_meaning count).index within) (marked_kind count)
    ∙ ap (λ index. entered (kind_at (out-Count count)) index within) (marked_index count)
