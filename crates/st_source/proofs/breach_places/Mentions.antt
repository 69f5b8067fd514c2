-- What is mentioned in a rule or clause stands where its expressions and premises do.
use Rattle.std.proofs.Common.{◌≡◌, sym, ◌∙◌, subst, ℕ, List, [], ◌∷◌, ◌++◌, map, length, Bool, true, false}
use Rattle.std.specs.Prelude.{if◌then◌else◌, filter, Some}
use Rattle.std.specs.List.{AllByRecursion}
use Rattle.st_num.specs.Names.{is_among}
use Rattle.st_num.specs.declared.span.Span.{Span}
use Rattle.st_el.specs.declared.expression.Exp.{Exp, out-Exp, fold_out-Exp}
use Rattle.st_el.specs.declared.expression.Node.{Node, map-Node, fold_out-Node}
use Rattle.st_el.specs.declared.expression.Count.{Count, out-Count, map-Count, fold_out-Count}
use Rattle.st_el.specs.declared.expression.Count.TheOpen.{Node-F, Count-F, Seg-F}
use Rattle.st_el.specs.declared.expression.Seg.{Seg, out-Seg, map-Seg, fold_out-Seg}
use Rattle.st_el.specs.declared.definition.Prem.{Prem, out-Prem, fold_out-Prem}
use Rattle.st_el.specs.declared.definition.PremNode.{PremNode, map-PremNode, fold_out-PremNode}
use Rattle.st_el.specs.declared.definition.PremNode.TheOpen.{PremNode-F}
use Rattle.st_dims.specs.declared.within.Within.{Within}
use Rattle.st_dims.specs.declared.mention.Mention.{Mention}
use Rattle.st_dims.specs.declared.mention.Mention.TheVariants.{Occurs, Indexes, Iterates}
use Rattle.st_dims.specs.declared.mention.Occurrence.{Occurrence}
use Rattle.st_dims.specs.declared.mention.Iteration.{Iteration}
use Rattle.st_dims.specs.Around.{outside}
use Rattle.st_dims.specs.Mentions.{Sees, CountMeaning, occurrences_in, iterations_in, count_meaning, count_meaning_at, mentions_node_at, mentions_seg_at, mentions_exp_at, mentions_exp, mentions_node, mentions_seg, body_round, names_in, iteration, iterated, seen_in, fields_seen, field_mentions, mentions_prem_node_at, mentions_prem_at, mentions_prem, mentions_prem_node, mentions_in}
use Rattle.st_dims.specs.Breaches.{IsFirst}
use Rattle.st_elab_table.specs.Forms.{place}
use Rattle.st_notation.specs.Elements.{opened}
use Rattle.st_elab_table.specs.Premises.{place_of, node_of}
use Rattle.st_parse.proofs.Standing.{both}
use Rattle.st_elab_law.proofs.ExpStands.{ExpStands, stands, NodeStands, of_name, of_atom, of_bool, of_number, of_text, of_eps, of_seq, of_infix, of_binary, of_not, of_neg, of_arith, of_paren, of_bracket, of_tuple, of_fields, of_dot, of_at, of_slice, of_update, of_extend, of_len, of_call, of_iter, ExpsStand, no_exps, exps, FieldsStand, no_fields, fields, SegsStand, no_steps, steps, SegStands, at_field, at_position, at_slice, CountStands, by_star, by_plus, by_quest, by_times, by_below}
use Rattle.st_source.proofs.breach_places.Definitions.{PremStands, prem_stands, PremNodeStands, of_if, of_goal, of_otherwise, of_each, PremsStand, no_prems, prems}

-- ---- levels

abbrev node_parts : Node-F Count Node Seg Exp → Node-F CountMeaning (Span → Sees) Sees Sees
node_parts = map-Node Count Node Seg Exp CountMeaning (Span → Sees) Sees Sees count_meaning mentions_node mentions_seg mentions_exp

abbrev seg_parts : Seg-F Count Node Seg Exp → Seg-F CountMeaning (Span → Sees) Sees Sees
seg_parts = map-Seg Count Node Seg Exp CountMeaning (Span → Sees) Sees Sees count_meaning mentions_node mentions_seg mentions_exp

abbrev count_parts : Count-F Count Node Seg Exp → Count-F CountMeaning (Span → Sees) Sees Sees
count_parts = map-Count Count Node Seg Exp CountMeaning (Span → Sees) Sees Sees count_meaning mentions_node mentions_seg mentions_exp

abbrev prem_parts : PremNode-F PremNode Prem → PremNode-F (Span → Sees) Sees
prem_parts = map-PremNode PremNode Prem (Span → Sees) Sees mentions_prem_node mentions_prem

exp-level : (e : Exp) (w : Within) → mentions_exp e w ≡ mentions_node_at (node_parts (opened e)) (place e) w
exp-level e w =
    (λ i. fold_out-Exp CountMeaning (Span → Sees) Sees Sees count_meaning_at mentions_node_at mentions_seg_at mentions_exp_at e i w)
    ∙ (λ i. fold_out-Node CountMeaning (Span → Sees) Sees Sees count_meaning_at mentions_node_at mentions_seg_at mentions_exp_at (out-Exp e).node i (out-Exp e).at w)

seg-level : (s : Seg) (w : Within) → mentions_seg s w ≡ mentions_seg_at (seg_parts (out-Seg s)) w
seg-level s w = λ i. fold_out-Seg CountMeaning (Span → Sees) Sees Sees count_meaning_at mentions_node_at mentions_seg_at mentions_exp_at s i w

count-level : (c : Count) → count_meaning c ≡ count_meaning_at (count_parts (out-Count c))
count-level c = fold_out-Count CountMeaning (Span → Sees) Sees Sees count_meaning_at mentions_node_at mentions_seg_at mentions_exp_at c

prem-level : (p : Prem) (w : Within) → mentions_prem p w ≡ mentions_prem_node_at (prem_parts (node_of p)) (place_of p) w
prem-level p w =
    (λ i. fold_out-Prem (Span → Sees) Sees mentions_prem_node_at mentions_prem_at p i w)
    ∙ (λ i. fold_out-PremNode (Span → Sees) Sees mentions_prem_node_at mentions_prem_at (out-Prem p).node i (out-Prem p).at w)

module _ (P : Span → Type 0) where
  -- what is mentioned stands at such a place
  abbrev pub MentionStands : Mention → Type 0
  MentionStands (Occurs occurrence) = P occurrence.at
  MentionStands (Indexes name) = Unit {0}
  MentionStands (Iterates iteration) = P iteration.at

  abbrev pub MentionsStand : List Mention → Type 0
  MentionsStand = AllByRecursion MentionStands

  two : (xs ys : List Mention) → MentionsStand xs → MentionsStand ys → MentionsStand (xs ++ ys)
  two xs ys h k = both MentionStands xs ys h k

  -- the part stands, whatever is round it
  abbrev SeesStand : Sees → Type 0
  SeesStand part = (w : Within) → MentionsStand (part w)

  three : (a b c : Sees) → SeesStand a → SeesStand b → SeesStand c → (w : Within) → MentionsStand (a w ++ b w ++ c w)
  three a b c h k l w = two (a w ++ b w) (c w) (two (a w) (b w) (h w) (k w)) (l w)

  name_stands : (b : Bool) (o : Occurrence) → P o.at → MentionsStand (if b then [] else Occurs o ∷ [])
  name_stands true o h = tt
  name_stands false o h = (h, tt)

  indices_stand : (names : List (List ℕ)) → MentionsStand (map Indexes names)
  indices_stand [] = tt
  indices_stand (name ∷ names) = (tt, indices_stand names)

  iterating_stands : (b : Bool) (o : Iteration) → P o.at → MentionsStand (if b then Iterates o ∷ [] else [])
  iterating_stands true o h = (h, tt)
  iterating_stands false o h = tt

  iterated_stands : (mark : CountMeaning) (body : Sees) (at : Span) → P at → SeesStand body → SeesStand mark.count → (w : Within) → MentionsStand (iterated mark body at w)
  iterated_stands mark body at p h k w =
      let there = iterating_stands mark.must_iterate (record { at = at; depth = length w.kinds; names = names_in (body (body_round mark w)) }) p in
      two (iteration mark at w (body (body_round mark w)) ++ map Indexes mark.index ++ body (body_round mark w)) (mark.count w)
      (two (iteration mark at w (body (body_round mark w)) ++ map Indexes mark.index) (body (body_round mark w))
      (two (iteration mark at w (body (body_round mark w))) (map Indexes mark.index) there (indices_stand mark.index)) (h (body_round mark w))) (k w)

  mutual
    exp_stands : {e : Exp} → ExpStands P e → SeesStand (mentions_exp e)
    exp_stands {e} (stands p parts) w = subst MentionsStand (sym (exp-level e w)) (node_stands parts (place e) p w)

    node_stands : {y : Node-F Count Node Seg Exp} → NodeStands P y → (at : Span) → P at → (w : Within) → MentionsStand (mentions_node_at (node_parts y) at w)
    node_stands (of_name {x}) at p w = name_stands (is_among x w.indices) (record { name = x; at = at; chain = w.kinds }) p
    node_stands of_atom at p w = tt
    node_stands of_bool at p w = tt
    node_stands of_number at p w = tt
    node_stands of_text at p w = tt
    node_stands of_eps at p w = tt
    node_stands (of_seq h) at p w = exps_stand h w
    node_stands (of_infix {l} {r} h k) at p w = two (mentions_exp l w) (mentions_exp r w) (exp_stands h w) (exp_stands k w)
    node_stands (of_binary {l} {r} h k) at p w = two (mentions_exp l w) (mentions_exp r w) (exp_stands h w) (exp_stands k w)
    node_stands (of_not h) at p w = exp_stands h w
    node_stands (of_neg h) at p w = exp_stands h w
    node_stands (of_arith h) at p w = exp_stands h w
    node_stands (of_paren h) at p w = exp_stands h w
    node_stands (of_bracket h) at p w = exp_stands h w
    node_stands (of_tuple h) at p w = exps_stand h w
    node_stands (of_fields h) at p w = fields_stand h w
    node_stands (of_dot h) at p w = exp_stands h w
    node_stands (of_at {e} {i} h k) at p w = two (mentions_exp e w) (mentions_exp i w) (exp_stands h w) (exp_stands k w)
    node_stands (of_slice {e} {i} {n} h k l) at p w = three (mentions_exp e) (mentions_exp i) (mentions_exp n) (exp_stands h) (exp_stands k) (exp_stands l) w
    node_stands (of_update {e} {x} {path} h k l) at p w = three (mentions_exp e) (seen_in (map mentions_seg path)) (mentions_exp x) (exp_stands h) (segs_stand k) (exp_stands l) w
    node_stands (of_extend {e} {x} {path} h k l) at p w = three (mentions_exp e) (seen_in (map mentions_seg path)) (mentions_exp x) (exp_stands h) (segs_stand k) (exp_stands l) w
    node_stands (of_len h) at p w = exp_stands h w
    node_stands (of_call h) at p w = exps_stand h w
    node_stands (of_iter {e} {c} h k) at p w =
        iterated_stands (count_meaning c) (mentions_exp e) at p (exp_stands h) (λ v. subst (λ (m : CountMeaning). MentionsStand (m.count v)) (sym (count-level c)) (count_stands k v)) w

    exps_stand : {es : List Exp} → ExpsStand P es → SeesStand (seen_in (map mentions_exp es))
    exps_stand no_exps w = tt
    exps_stand (exps {e} {es} h hs) w = two (mentions_exp e w) (seen_in (map mentions_exp es) w) (exp_stands h w) (exps_stand hs w)

    fields_stand : {fs : List (List ℕ × Exp)} → FieldsStand P fs → (w : Within) → MentionsStand (fields_seen (map field_mentions fs) w)
    fields_stand no_fields w = tt
    fields_stand (fields {f} {fs} h hs) w = two (mentions_exp f.1 w) (fields_seen (map field_mentions fs) w) (exp_stands h w) (fields_stand hs w)

    segs_stand : {ss : List Seg} → SegsStand P ss → SeesStand (seen_in (map mentions_seg ss))
    segs_stand no_steps w = tt
    segs_stand (steps {s} {ss} h hs) w = two (mentions_seg s w) (seen_in (map mentions_seg ss) w) (subst MentionsStand (sym (seg-level s w)) (seg_stands h w)) (segs_stand hs w)

    seg_stands : {y : Seg-F Count Node Seg Exp} → SegStands P y → (w : Within) → MentionsStand (mentions_seg_at (seg_parts y) w)
    seg_stands at_field w = tt
    seg_stands (at_position h) w = exp_stands h w
    seg_stands (at_slice {i} {n} h k) w = two (mentions_exp i w) (mentions_exp n w) (exp_stands h w) (exp_stands k w)

    count_stands : {y : Count-F Count Node Seg Exp} → CountStands P y → (w : Within) → MentionsStand ((count_meaning_at (count_parts y)).count w)
    count_stands by_star w = tt
    count_stands by_plus w = tt
    count_stands by_quest w = tt
    count_stands (by_times h) w = exp_stands h w
    count_stands (by_below h) w = exp_stands h w

  mutual
    prem_mentioned : {p : Prem} → PremStands P p → SeesStand (mentions_prem p)
    prem_mentioned {p} (prem_stands h parts) w = subst MentionsStand (sym (prem-level p w)) (prem_node_mentioned parts (place_of p) h w)

    prem_node_mentioned : {y : PremNode-F PremNode Prem} → PremNodeStands P y → (at : Span) → P at → (w : Within) → MentionsStand (mentions_prem_node_at (prem_parts y) at w)
    prem_node_mentioned (of_if h) at p w = exp_stands h w
    prem_node_mentioned (of_goal h) at p w = exp_stands h w
    prem_node_mentioned of_otherwise at p w = tt
    prem_node_mentioned (of_each {p = q} {c} h k) at p w =
        iterated_stands (count_meaning c) (mentions_prem q) at p (prem_mentioned h) (λ v. subst (λ (m : CountMeaning). MentionsStand (m.count v)) (sym (count-level c)) (count_stands k v)) w

  prems_mentioned : {ps : List Prem} → PremsStand P ps → SeesStand (seen_in (map mentions_prem ps))
  prems_mentioned no_prems w = tt
  prems_mentioned (prems {p} {ps} h hs) w = two (mentions_prem p w) (seen_in (map mentions_prem ps) w) (prem_mentioned h w) (prems_mentioned hs w)

  -- what is mentioned in these parts and premises
  pub MentionsStand-in : (es : List Exp) (ps : List Prem) → ExpsStand P es → PremsStand P ps → MentionsStand (mentions_in es ps)
  MentionsStand-in es ps h k = two (seen_in (map mentions_exp es) outside) (seen_in (map mentions_prem ps) outside) (exps_stand h outside) (prems_mentioned k outside)

  -- ---- places of what is mentioned

  abbrev OccurrenceStands : Occurrence → Type 0
  OccurrenceStands o = P o.at

  abbrev IterationStands : Iteration → Type 0
  IterationStands i = P i.at

  pub occurrences_stand : (ms : List Mention) → MentionsStand ms → AllByRecursion OccurrenceStands (occurrences_in ms)
  occurrences_stand [] h = tt
  occurrences_stand (Occurs o ∷ ms) h = (h.0, occurrences_stand ms h.1)
  occurrences_stand (Indexes name ∷ ms) h = occurrences_stand ms h.1
  occurrences_stand (Iterates i ∷ ms) h = occurrences_stand ms h.1

  pub iterations_stand : (ms : List Mention) → MentionsStand ms → AllByRecursion IterationStands (iterations_in ms)
  iterations_stand [] h = tt
  iterations_stand (Occurs o ∷ ms) h = iterations_stand ms h.1
  iterations_stand (Indexes name ∷ ms) h = iterations_stand ms h.1
  iterations_stand (Iterates i ∷ ms) h = (h.0, iterations_stand ms h.1)

  kept_first : {A : Type 0} → (at_of : A → Span) (b : Bool) (x : A) (xs : List A) (at : Span) → P (at_of x) → (IsFirst (Some at) (map at_of xs) → P at) → IsFirst (Some at) (map at_of (if b then x ∷ xs else xs)) → P at
  kept_first at_of true x xs at h k (rest, is) = let same : at_of x ≡ at = cc in subst P same h
  kept_first at_of false x xs at h k l = k l

  -- the first of the places of those that pass a test
  pub first_stands : {A : Type 0} → (at_of : A → Span) (f : A → Bool) (xs : List A) (at : Span) → AllByRecursion (λ (x : A). P (at_of x)) xs → IsFirst (Some at) (map at_of (filter f xs)) → P at
  first_stands at_of f [] at h (rest, is) = absurd (cc)
  first_stands at_of f (x ∷ xs) at h k = kept_first at_of (f x) x (filter f xs) at h.0 (first_stands at_of f xs at h.1) k
