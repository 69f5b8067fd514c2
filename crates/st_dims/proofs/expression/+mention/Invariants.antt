use Rattle.std.proofs.Common.{◌≡◌, ◌++◌, map, take}
use Rattle.st_dims.specs.Mentions.{mentions_exp, mentions_seg, seen_in, fields_seen, field_mentions}
use Rattle.st_dims.proofs.expression.+mention.Given as goal

abbrev pub invariant-mention_exps-loop-exp : goal.invariant-mention_exps-loop-exp
invariant-mention_exps-loop-exp l =
    l.mentions.items ≡ l.initial.mentions.items ++ seen_in (map mentions_exp (take l.exp-index l.exps)) l.within

abbrev pub invariant-mention_fields-loop-field : goal.invariant-mention_fields-loop-field
invariant-mention_fields-loop-field l =
    l.mentions.items ≡ l.initial.mentions.items ++ fields_seen (map field_mentions (take l.field-index l.fields)) l.within

abbrev pub invariant-mention_path-loop-seg : goal.invariant-mention_path-loop-seg
invariant-mention_path-loop-seg l =
    l.mentions.items ≡ l.initial.mentions.items ++ seen_in (map mentions_seg (take l.seg-index l.path)) l.within
