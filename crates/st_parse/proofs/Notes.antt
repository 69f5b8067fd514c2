-- What is noted of variables behind parts and changes.
use Rattle.std.proofs.Common.{◌≡◌, ◌≢◌, ℕ, ◌+◌, ◌<◌, List, [], ◌∷◌, ◌++◌, length, get_or, take, drop, flat_map, Bool, true, false, ◌⊎◌, inl, inr, Option, Some, None, option_map, option_and_then, Result, Ok, Err, IfOk, OnOk, refl, sym, ap, subst, ◌∙◌, append_assoc, append-nil}
use Rattle.std.specs.Option.{option_or}
use Rattle.st_num.specs.declared.limit.TheConstants.{MOST_PREMISES}
use Rattle.st_num.specs.declared.memory.NoMemory.{NoMemory}
use Rattle.st_num.specs.declared.mark.Mark.{Mark}
use Rattle.st_num.specs.declared.mark.Mark.TheVariants as mark
use Rattle.st_num.specs.declared.span.Span.{Span}
use Rattle.st_num.specs.declared.token.Token.{Token}
use Rattle.st_parse_automaton.specs.declared.part_automaton.Shape.{Shape}
use Rattle.st_parse_automaton.specs.declared.part_automaton.Shape.TheVariants as shape
use Rattle.st_parse_automaton.specs.declared.position.TokenClass.{TokenClass}
use Rattle.st_parse_automaton.specs.declared.position.Slot.{Slot}
use Rattle.st_parse_automaton.specs.declared.position.Slot.TheVariants as slot
use Rattle.st_el.specs.declared.expression.Exp.{Exp}
use Rattle.st_el.specs.declared.expression.Count.{Count}
use Rattle.st_el.specs.declared.definition.Def.{Def}
use Rattle.st_el.specs.declared.definition.DefNode.{DefNode}
use Rattle.st_el.specs.declared.definition.Prem.{Prem}
use Rattle.st_el.specs.declared.definition.PremNode.TheVariants as prem
use Rattle.st_el.specs.Plain.{nowhere}
use Rattle.st_grammar.specs.declared.action.Action.{Action}
use Rattle.st_parse_builder.specs.declared.piece.Piece.{Piece}
use Rattle.st_parse_builder.specs.declared.piece.Piece.TheVariants.{Done, Parts, Fields, Path, Label, Here}
use Rattle.st_parse_builder.specs.inner.Building.{run}
use Rattle.st_parse_builder.specs.inner.NotationBuilding.{typ_built}
use Rattle.st_parse_builder.specs.Meaning.{mark_count}
use Rattle.st_parse_builder.specs.Definitions.{prem_at}
use Rattle.st_parse_builder.specs.Variables.{Occurrence, Times, occurrences, without, variables, times, iterated, prem_variables, def_node_variables}
use Rattle.st_parse_builder.specs.Limits.{place_past}
use Rattle.st_parse_builder.proofs.Occurring.{one_behind, without-none}
use Rattle.st_parse_builder.proofs.Premises.{in_if, in_goal, in_otherwise, in_each, times_mark, times_times, times_below}
use Rattle.st_draft.specs.declared.change.Change.{Change}
use Rattle.st_draft.specs.declared.change.Change.TheVariants as change
use Rattle.st_draft.specs.declared.change.DefinitionEnd.{DefinitionEnd}
use Rattle.st_draft.specs.declared.change.DefinitionEnd.TheVariants as ending
use Rattle.st_draft.specs.declared.draft.Draft.{Draft}
use Rattle.st_draft.specs.inner.Parts.{the_exp, exp_built, all_built, count_with, index_in, redrafted, refilled}
use Rattle.st_draft.specs.inner.Drafts.{whole_prem, condition_node, each_of, shape_count, node_of, def_put, ended, begun, with_sides, params_put, args_put, exp_filled, condition_filled, count_filled}
use Rattle.st_draft.specs.inner.Ready.{in_some, told, asked, Ends, MayEnd, Ready, Awaits}
use Rattle.st_draft.proofs.Endings.{open_behind}
use Rattle.st_draft.proofs.Arguments.{next_built}
use Rattle.st_parse.specs.declared.variables.Variables.{Variables}
use Rattle.st_parse.specs.Limits.{variable_past, first_that}
use Rattle.st_parse.specs.inner.Kept.{Notes}

-- ---- what there is

pub mapped : (A B : Type 0) (f : A → B) (o : Option A) (b : B) → option_map f o ≡ Some b → (a : A) × (o ≡ Some a) × (f a ≡ b)
mapped A B f None b e = absurd (cc)
mapped A B f (Some a) b e = (a, refl, cc)

pub some_is : {A : Type 0} {a b : A} → Some a ≡ Some b → a ≡ b
some_is e = cc

pub or_none : (o : Option Span) → option_or o None ≡ o
or_none None = refl
or_none (Some at) = refl

pub first_behind : (f : Def → Option Span) (ds : List Def) (d : Def) → first_that f (ds ++ d ∷ []) ≡ option_or (first_that f ds) (f d)
first_behind f [] d = or_none (f d)
first_behind f (e ∷ ds) d = ap (option_or (f e)) (first_behind f ds d) ∙ again (f e) (first_that f ds) (f d)
  where
    again : (a b c : Option Span) → option_or a (option_or b c) ≡ option_or (option_or a b) c
    again None b c = refl
    again (Some at) b c = refl

one_built : (made : Option (List Piece)) (e : Exp) → option_and_then the_exp made ≡ Some e → made ≡ Some (Done e ∷ [])
one_built None e h = absurd (cc)
one_built (Some []) e h = absurd (cc)
one_built (Some (Done f ∷ [])) e h = let same : f ≡ e = cc in ap (λ g. Some (Done g ∷ [])) same
one_built (Some (Done f ∷ q ∷ s)) e h = absurd (cc)
one_built (Some (Parts at es ∷ s)) e h = absurd (cc)
one_built (Some (Fields at fs ∷ s)) e h = absurd (cc)
one_built (Some (Path ps ∷ s)) e h = absurd (cc)
one_built (Some (Label name ∷ s)) e h = absurd (cc)
one_built (Some (Here at ∷ s)) e h = absurd (cc)

-- the actions of an expression leave it alone on the stack
pub exp_run : (actions : List Action) (e : Exp) → exp_built actions ≡ Some e → run actions [] ≡ Some (Done e ∷ [])
exp_run actions e h = one_built (run actions []) e h

-- ---- counts

index_of : (o : Option (List ℕ)) (e : Exp) (vs : List Occurrence) → o ≡ None → without (times (count_with o e)).index vs ≡ vs
index_of o e vs is =
    ap (λ q. without (times (count_with q e)).index vs) is ∙ ap (λ (t : Times). without t.index vs) (times_times e) ∙ without-none vs

-- without an index all stay
pub all_stay : (o : Option (List ℕ)) (e : Exp) (old new : List Token) → o ≡ None → new ≡ old → occurrences new ≡ without (times (count_with o e)).index (occurrences old)
all_stay o e old new is same = ap occurrences same ∙ sym (index_of o e (occurrences old) is)

-- with one all others stay
others_stay : (o : Option (List ℕ)) (name index : List ℕ) (e : Exp) (old new : List Token) → o ≡ Some name → index ≡ name
    → occurrences new ≡ take 0 (occurrences old) ++ without (index ∷ []) (drop 0 (occurrences old)) → occurrences new ≡ without (times (count_with o e)).index (occurrences old)
others_stay o name index e old new is same left =
    left ∙ ap (λ i. without (i ∷ []) (occurrences old)) same
    ∙ sym (ap (λ q. without (times (count_with q e)).index (occurrences old)) is ∙ ap (λ (t : Times). without t.index (occurrences old)) (times_below name e))

pub index_left : (r : Result (Unit {0}) NoMemory) (o : Option (List ℕ)) (name index : List ℕ) (e : Exp) (old new : List Token) → o ≡ Some name → index ≡ name
    → OnOk r (occurrences new ≡ take 0 (occurrences old) ++ without (index ∷ []) (drop 0 (occurrences old))) → IfOk r (λ z. occurrences new ≡ without (times (count_with o e)).index (occurrences old))
index_left (Err f) o name index e old new is same left = tt
index_left (Ok z) o name index e old new is same left = others_stay o name index e old new is same left

count_in : (o : Option (List ℕ)) (e : Exp) → (times (count_with o e)).count ≡ variables e
count_in None e = ap (λ (t : Times). t.count) (times_times e)
count_in (Some name) e = ap (λ (t : Times). t.count) (times_below name e)

pub counted : {A : Type 0} (r : Result A NoMemory) (o : Option (List ℕ)) (e : Exp) (old left new : List Occurrence) → left ≡ without (times (count_with o e)).index old → IfOk r (λ z. new ≡ left ++ variables e)
    → IfOk r (λ z. new ≡ iterated old (times (count_with o e)))
counted (Err f) o e old left new l n = tt
counted (Ok z) o e old left new l n =
    n ∙ ap (λ vs. vs ++ variables e) l ∙ ap (λ vs. without (times (count_with o e)).index old ++ vs) (sym (count_in o e))

-- ---- several arguments

pub next_argument : (arguments : List (List Action)) (i : ℕ) (actions : List Action) (es : List Exp) (start old new : List Occurrence) → i < length arguments → actions ≡ get_or arguments i actions
    → all_built exp_built (take (i + 1) arguments) ≡ Some es
    → ((ds : List Exp) → all_built exp_built (take i arguments) ≡ Some ds → old ≡ start ++ flat_map variables ds)
    → ((e : Exp) → exp_built actions ≡ Some e → new ≡ old ++ variables e)
    → new ≡ start ++ flat_map variables es
next_argument arguments i actions es start old new h is all before here =
    let b = next_built Exp exp_built arguments i actions es h is all in
    here b.last b.builds ∙ ap (λ vs. vs ++ variables b.last) (before b.before b.built)
    ∙ append_assoc start (flat_map variables b.before) (variables b.last)
    ∙ ap (λ vs. start ++ vs) (sym (one_behind variables b.before b.last) ∙ ap (flat_map variables) b.is)

-- ---- drafts

-- What changes nothing of variables keeps what is noted.
pub same_notes : (v w : Variables) (d e : Draft) → w ≡ v → e.defs ≡ d.defs → told e ≡ told d → asked e ≡ asked d → Notes v d → Notes w e
same_notes v w d e same f g h n =
    subst (λ u. Notes u e) (sym same) (record { past = n.past ∙ ap (first_that variable_past) (sym f); before = n.before ∙ sym g; inside = n.inside ∙ sym h })

-- ---- parts

-- a conclusion, or the result of a clause
pub rule_part : {A : Type 0} (s : Slot) (n : ℕ) (actions : List Action) (words : List (TokenClass × Token)) (d e : Draft) (v w : Variables) (r : Result A NoMemory) → s ≡ slot.Rule → Notes v d → Awaits s d → refilled s n actions words d ≡ Some e
    → w.past ≡ v.past → w.inside ≡ v.inside → ((x : Exp) → exp_built actions ≡ Some x → IfOk r (λ z. occurrences w.before ≡ occurrences v.before ++ variables x)) → IfOk r (λ z. Notes w e)
rule_part s n actions words d e v w (Err f) is h a g p i k = tt
rule_part s n actions words d e v w (Ok z) is h a g p i k =
    let m = mapped Exp Draft (λ x. exp_filled x d) (exp_built actions) e (subst (λ q. refilled q n actions words d ≡ Some e) is g) in
    let free : (d.sides.exp ≡ None) × (d.premises.whole ≡ []) = subst (λ q. Awaits q d) is a in
    let given = flat_map variables d.sides.args in
    let x : Exp = m.0 in
    let before : told d ≡ given =
    ap (λ o. given ++ (in_some variables o ++ flat_map prem_variables d.premises.whole)) free.0 ∙ ap (λ ps. given ++ flat_map prem_variables ps) free.1 ∙ append-nil given in
    let behind : told (exp_filled x d) ≡ given ++ variables x =
    ap (λ ps. given ++ (variables x ++ flat_map prem_variables ps)) free.1 ∙ ap (λ vs. given ++ vs) (append-nil (variables x)) in
    subst (Notes w) m.2 (record {
      past = p ∙ h.past;
      before = k x m.1 ∙ ap (λ vs. vs ++ variables x) (h.before ∙ before) ∙ sym behind;
      inside = ap occurrences i ∙ h.inside;
    })

condition_has : (at : Span) (goal : Option (List ℕ)) (x : Exp) → prem_variables (prem_at at (condition_node goal x)) ≡ variables x
condition_has at None x = in_if at x
condition_has at (Some name) x = in_goal at name x

pub condition_part : {A : Type 0} (s : Slot) (n : ℕ) (actions : List Action) (words : List (TokenClass × Token)) (d e : Draft) (v w : Variables) (r : Result A NoMemory) → s ≡ slot.Condition → Notes v d → Awaits s d → refilled s n actions words d ≡ Some e
    → w.past ≡ v.past → w.before ≡ v.before → ((x : Exp) → exp_built actions ≡ Some x → IfOk r (λ z. occurrences w.inside ≡ occurrences v.inside ++ variables x)) → IfOk r (λ z. Notes w e)
condition_part s n actions words d e v w (Err f) is h a g p b k = tt
condition_part s n actions words d e v w (Ok z) is h a g p b k =
    let m = mapped Exp Draft (λ x. condition_filled x d) (exp_built actions) e (subst (λ q. refilled q n actions words d ≡ Some e) is g) in
    let free : d.premises.prem ≡ None = subst (λ q. Awaits q d) is a in
    let none : occurrences v.inside ≡ [] = h.inside ∙ ap (in_some prem_variables) free in
    subst (Notes w) m.2 (record {
      past = p ∙ h.past;
      before = ap occurrences b ∙ h.before;
      inside = k m.0 m.1 ∙ ap (λ vs. vs ++ variables m.0) none ∙ sym (condition_has d.premises.start d.premises.goal m.0);
    })

each_has : (at : Span) (c : Count) (o : Option Prem) (p : Prem) → o ≡ Some p → in_some prem_variables (each_of at c o) ≡ iterated (in_some prem_variables o) (times c)
each_has at c o p is =
    ap (λ q. in_some prem_variables (each_of at c q)) is ∙ in_each at p c ∙ ap (λ q. iterated (in_some prem_variables q) (times c)) (sym is)

pub count_part : {A : Type 0} (s : Slot) (n : ℕ) (actions : List Action) (words : List (TokenClass × Token)) (d e : Draft) (v w : Variables) (r : Result A NoMemory) → s ≡ slot.Count → Notes v d → Awaits s d → refilled s n actions words d ≡ Some e
    → w.past ≡ v.past → w.before ≡ v.before
    → ((x : Exp) → exp_built actions ≡ Some x → IfOk r (λ z. occurrences w.inside ≡ iterated (occurrences v.inside) (times (count_with (index_in words) x)))) → IfOk r (λ z. Notes w e)
count_part s n actions words d e v w (Err f) is h a g p b k = tt
count_part s n actions words d e v w (Ok z) is h a g p b k =
    let m = mapped Exp Draft (λ x. count_filled n (count_with (index_in words) x) d) (exp_built actions) e (subst (λ q. refilled q n actions words d ≡ Some e) is g) in
    let open_prem : (q : Prem) × (d.premises.prem ≡ Some q) = subst (λ q. Awaits q d) is a in
    let c : Count = count_with (index_in words) m.0 in
    subst (Notes w) m.2 (record {
      past = p ∙ h.past;
      before = ap occurrences b ∙ h.before;
      inside = k m.0 m.1 ∙ ap (λ vs. iterated vs (times c)) h.inside ∙ sym (each_has _ c d.premises.prem open_prem.0 open_prem.1);
    })

-- ---- definitions that end

ended_behind : (d : Draft) (o : Option DefNode) (node : DefNode) (vs : List Occurrence) → o ≡ Some node → def_node_variables node ≡ vs
    → option_or (first_that variable_past d.defs) (place_past MOST_PREMISES vs) ≡ first_that variable_past (def_put d o)
ended_behind d o node vs is same =
    ap (λ us. option_or (first_that variable_past d.defs) (place_past MOST_PREMISES us)) (sym same)
    ∙ sym (first_behind variable_past d.defs (record { at = d.head.at; hints = d.hints; node = node }))
    ∙ ap (λ q. first_that variable_past (def_put d q)) (sym is)

past_ends : (e : DefinitionEnd) (d : Draft) → Ends e d → option_or (first_that variable_past d.defs) (place_past MOST_PREMISES (told d ++ asked d)) ≡ first_that variable_past (ended e d)
past_ends e d m = ended_behind d (node_of e d.head d.members d.sides d.premises) m.node (told d ++ asked d) m.is m.same

-- the first variable past the limit, where the open definition is one more
pub past_ended : (e : DefinitionEnd) (d : Draft) → MayEnd e d → option_or (first_that variable_past d.defs) (place_past MOST_PREMISES (told d ++ asked d)) ≡ first_that variable_past (ended e d)
past_ended ending.Nothing d m = ap (λ vs. option_or (first_that variable_past d.defs) (place_past MOST_PREMISES vs)) m.none ∙ or_none (first_that variable_past d.defs)
past_ended ending.Fields d m = past_ends ending.Fields d m
past_ended (ending.Cases b) d m = past_ends (ending.Cases b) d m
past_ended ending.Var d m = past_ends ending.Var d m
past_ended ending.Relation d m = past_ends ending.Relation d m
past_ended ending.Fun d m = past_ends ending.Fun d m
past_ended ending.Rule d m = past_ends ending.Rule d m
past_ended ending.Condition d m = past_ends ending.Condition d m

pub turned : (e : DefinitionEnd) (d : Draft) (at : Span) (v w : Variables) → Notes v d → MayEnd e d
    → w.past ≡ option_or v.past (place_past MOST_PREMISES (occurrences v.before ++ occurrences v.inside)) → w.before ≡ [] → w.inside ≡ [] → Notes w (begun (ended e d) at)
turned e d at v w h m p b i = record {
  past =
      p ∙ ap (λ o. option_or o (place_past MOST_PREMISES (occurrences v.before ++ occurrences v.inside))) h.past
      ∙ ap (λ vs. option_or (first_that variable_past d.defs) (place_past MOST_PREMISES (vs ++ occurrences v.inside))) h.before
      ∙ ap (λ vs. option_or (first_that variable_past d.defs) (place_past MOST_PREMISES (told d ++ vs))) h.inside
      ∙ past_ended e d m;
  before = ap occurrences b;
  inside = ap occurrences i;
}

-- ---- changes

-- a definition ends and a next one begins, or none
turns : (c : Change) (sh : Shape) (x : Token) (arguments : List (List Action)) (d e : Draft) (v w : Variables) → ((f : DefinitionEnd) × (c ≡ change.Begin f)) ⊎ ((f : DefinitionEnd) × (c ≡ change.End f))
    → Notes v d → Ready c d → redrafted c sh x arguments d ≡ Some e
    → w.past ≡ option_or v.past (place_past MOST_PREMISES (occurrences v.before ++ occurrences v.inside)) → w.before ≡ [] → w.inside ≡ [] → Notes w e
turns c sh x arguments d e v w (inl f) h m g p b i =
    let is : begun (ended f.0 d) x.at ≡ e = (let j : Some (begun (ended f.0 d) x.at) ≡ Some e = subst (λ q. redrafted q sh x arguments d ≡ Some e) f.1 g in cc) in
    subst (Notes w) is (turned f.0 d x.at v w h (subst (λ q. Ready q d) f.1 m) p b i)
turns c sh x arguments d e v w (inr f) h m g p b i =
    let is : begun (ended f.0 d) nowhere ≡ e = (let j : Some (begun (ended f.0 d) nowhere) ≡ Some e = subst (λ q. redrafted q sh x arguments d ≡ Some e) f.1 g in cc) in
    subst (Notes w) is (turned f.0 d nowhere v w h (subst (λ q. Ready q d) f.1 m) p b i)

pub turn_change : (r : Result (Unit {0}) NoMemory) (c : Change) (sh : Shape) (x : Token) (arguments : List (List Action)) (d e : Draft) (v w : Variables) → ((f : DefinitionEnd) × (c ≡ change.Begin f)) ⊎ ((f : DefinitionEnd) × (c ≡ change.End f))
    → Notes v d → Ready c d → redrafted c sh x arguments d ≡ Some e
    → IfOk r (λ z. w.past ≡ option_or v.past (place_past MOST_PREMISES (occurrences v.before ++ occurrences v.inside))) → IfOk r (λ z. w.before ≡ []) → IfOk r (λ z. w.inside ≡ []) → IfOk r (λ z. Notes w e)
turn_change (Err k) c sh x arguments d e v w is h m g p b i = tt
turn_change (Ok z) c sh x arguments d e v w is h m g p b i = turns c sh x arguments d e v w is h m g p b i

-- a premise begins, behind one that is open or not
premise_begins : (c : Change) (b : Bool) (sh : Shape) (x : Token) (arguments : List (List Action)) (d e : Draft) (v w : Variables) → c ≡ change.Premise b → Notes v d → Ready c d → redrafted c sh x arguments d ≡ Some e
    → w.past ≡ v.past → occurrences w.before ≡ occurrences v.before ++ occurrences v.inside → w.inside ≡ [] → Notes w e
premise_begins c b sh x arguments d e v w is h m g p k i =
    go b (subst (λ q. Ready q d) is m) (subst (λ q. redrafted q sh x arguments d ≡ Some e) is g)
  where
    given : List Occurrence
    given = flat_map variables d.sides.args

    result : List Occurrence
    result = in_some variables d.sides.exp

    all : occurrences w.before ≡ told d ++ asked d
    all = k ∙ ap (λ vs. vs ++ occurrences v.inside) h.before ∙ ap (λ vs. told d ++ vs) h.inside

    go : (b : Bool) → Ready (change.Premise b) d → redrafted (change.Premise b) sh x arguments d ≡ Some e → Notes w e
    go true m g =
        let whole = flat_map prem_variables d.premises.whole in
        let behind : told d ++ asked d ≡ given ++ (result ++ flat_map prem_variables (d.premises.whole ++ whole_prem d.premises.at d.premises.prem)) =
        append_assoc given (result ++ whole) (asked d) ∙ ap (λ vs. given ++ vs) (append_assoc result whole (asked d))
        ∙ ap (λ vs. given ++ (result ++ vs)) (sym (open_behind d.premises.at d.premises.whole d.premises.prem)) in
        subst (Notes w) (some_is g) (record { past = p ∙ h.past; before = all ∙ behind; inside = ap occurrences i })
    go false m g =
        let none : asked d ≡ [] = ap (in_some prem_variables) m in
        subst (Notes w) (some_is g) (record { past = p ∙ h.past; before = all ∙ ap (λ vs. told d ++ vs) none ∙ append-nil (told d); inside = ap occurrences i })

pub premise_change : (r : Result (Unit {0}) NoMemory) (c : Change) (b : Bool) (sh : Shape) (x : Token) (arguments : List (List Action)) (d e : Draft) (v w : Variables) → c ≡ change.Premise b → Notes v d → Ready c d → redrafted c sh x arguments d ≡ Some e
    → w.past ≡ v.past → IfOk r (λ z. occurrences w.before ≡ occurrences v.before ++ occurrences v.inside) → IfOk r (λ z. w.inside ≡ []) → IfOk r (λ z. Notes w e)
premise_change (Err f) c b sh x arguments d e v w is h m g p k i = tt
premise_change (Ok z) c b sh x arguments d e v w is h m g p k i = premise_begins c b sh x arguments d e v w is h m g p k i

otherwise_has : (d : Draft) → flat_map prem_variables (d.premises.whole ++ prem_at d.premises.at prem.Otherwise ∷ []) ≡ flat_map prem_variables d.premises.whole
otherwise_has d =
    one_behind prem_variables d.premises.whole (prem_at d.premises.at prem.Otherwise) ∙ ap (λ vs. flat_map prem_variables d.premises.whole ++ vs) (in_otherwise d.premises.at)
    ∙ append-nil (flat_map prem_variables d.premises.whole)

-- the arguments of a clause
pub args_change : {A : Type 0} (c : Change) (sh : Shape) (x : Token) (arguments : List (List Action)) (d e : Draft) (v w : Variables) (r : Result A NoMemory) → c ≡ change.Args → Notes v d → Ready c d → redrafted c sh x arguments d ≡ Some e
    → w.past ≡ v.past → w.inside ≡ v.inside → ((es : List Exp) → all_built exp_built arguments ≡ Some es → IfOk r (λ z. occurrences w.before ≡ occurrences v.before ++ flat_map variables es)) → IfOk r (λ z. Notes w e)
args_change c sh x arguments d e v w (Err f) is h m g p i k = tt
args_change c sh x arguments d e v w (Ok z) is h m g p i k =
    let a = mapped (List Exp) Draft (λ es. with_sides (args_put es d.sides) d) (all_built exp_built arguments) e (subst (λ q. redrafted q sh x arguments d ≡ Some e) is g) in
    let free : (d.sides.args ≡ []) × (d.sides.exp ≡ None) × (d.premises.whole ≡ []) = subst (λ q. Ready q d) is m in
    let none : told d ≡ [] =
    ap (λ es. flat_map variables es ++ (in_some variables d.sides.exp ++ flat_map prem_variables d.premises.whole)) free.0
    ∙ ap (λ o. in_some variables o ++ flat_map prem_variables d.premises.whole) free.1
    ∙ ap (flat_map prem_variables) free.2 in
    let given = flat_map variables a.0 in
    let behind : given ++ (in_some variables d.sides.exp ++ flat_map prem_variables d.premises.whole) ≡ given =
    ap (λ o. given ++ (in_some variables o ++ flat_map prem_variables d.premises.whole)) free.1 ∙ ap (λ ps. given ++ flat_map prem_variables ps) free.2 ∙ append-nil given in
    subst (Notes w) a.2 (record {
      past = p ∙ h.past;
      before = k a.0 a.1 ∙ ap (λ vs. vs ++ given) (h.before ∙ none) ∙ sym behind;
      inside = ap occurrences i ∙ h.inside;
    })

mark_has : (at : Span) (k : Mark) (p : Prem) → prem_variables (prem_at at (prem.Each p (mark_count k))) ≡ prem_variables p
mark_has at k p =
    in_each at p (mark_count k) ∙ ap (iterated (prem_variables p)) (times_mark k) ∙ append-nil (without [] (prem_variables p)) ∙ without-none (prem_variables p)

shape_has : (at : Span) (sh : Shape) (o : Option Prem) → in_some prem_variables (each_of at (shape_count sh) o) ≡ in_some prem_variables o
shape_has at sh None = refl
shape_has at (shape.Single k) (Some p) = mark_has at mark.Question p
shape_has at (shape.Dot b) (Some p) = mark_has at mark.Question p
shape_has at (shape.Sign k) (Some p) = mark_has at k p
shape_has at (shape.Open k b) (Some p) = mark_has at mark.Question p
shape_has at (shape.Close k) (Some p) = mark_has at mark.Question p
shape_has at shape.Other (Some p) = mark_has at mark.Question p

pub other_change : (c : Change) (sh : Shape) (x : Token) (arguments : List (List Action)) (d e : Draft) (v w : Variables) → ((f : DefinitionEnd) → c ≡ change.Begin f → ⊥) → ((f : DefinitionEnd) → c ≡ change.End f → ⊥)
    → ((b : Bool) → c ≡ change.Premise b → ⊥) → (c ≡ change.Args → ⊥) → w ≡ v → Notes v d → Ready c d → redrafted c sh x arguments d ≡ Some e → Notes w e
other_change (change.Begin f) sh x arguments d e v w i j k l same h m g = absurd (i f refl)
other_change (change.End f) sh x arguments d e v w i j k l same h m g = absurd (j f refl)
other_change (change.Premise b) sh x arguments d e v w i j k l same h m g = absurd (k b refl)
other_change change.Otherwise sh x arguments d e v w i j k l same h m g =
    subst (Notes w) (some_is g) (same_notes v w d _ same refl (ap (λ vs. flat_map variables d.sides.args ++ (in_some variables d.sides.exp ++ vs)) (otherwise_has d)) (sym (ap (in_some prem_variables) m)) h)
other_change change.Args sh x arguments d e v w i j k l same h m g = absurd (l refl)
other_change change.Params sh x arguments d e v w i j k l same h m g =
    let a = mapped _ Draft (λ ts. with_sides (params_put ts d.sides) d) (all_built typ_built arguments) e g in subst (Notes w) a.2 (same_notes v w d _ same refl refl refl h)
other_change (change.Mark n) sh x arguments d e v w i j k l same h m g = subst (Notes w) (some_is g) (same_notes v w d _ same refl refl (shape_has _ sh d.premises.prem) h)
other_change change.Nothing sh x arguments d e v w i j k l same h m g = subst (Notes w) (some_is g) (same_notes v w d _ same refl refl refl h)
other_change change.Name sh x arguments d e v w i j k l same h m g = subst (Notes w) (some_is g) (same_notes v w d _ same refl refl refl h)
other_change change.Id sh x arguments d e v w i j k l same h m g = subst (Notes w) (some_is g) (same_notes v w d _ same refl refl refl h)
other_change change.HintName sh x arguments d e v w i j k l same h m g = subst (Notes w) (some_is g) (same_notes v w d _ same refl refl refl h)
other_change change.HintWord sh x arguments d e v w i j k l same h m g = subst (Notes w) (some_is g) (same_notes v w d _ same refl refl refl h)
other_change (change.HintEnd b) sh x arguments d e v w i j k l same h m g = subst (Notes w) (some_is g) (same_notes v w d _ same refl refl refl h)
other_change change.Dots sh x arguments d e v w i j k l same h m g = subst (Notes w) (some_is g) (same_notes v w d _ same refl refl refl h)
other_change change.Label sh x arguments d e v w i j k l same h m g = subst (Notes w) (some_is g) (same_notes v w d _ same refl refl refl h)
other_change change.Parenthesis sh x arguments d e v w i j k l same h m g = subst (Notes w) (some_is g) (same_notes v w d _ same refl refl refl h)
other_change change.If sh x arguments d e v w i j k l same h m g = subst (Notes w) (some_is g) (same_notes v w d _ same refl refl refl h)
other_change change.Goal sh x arguments d e v w i j k l same h m g = subst (Notes w) (some_is g) (same_notes v w d _ same refl refl refl h)

-- ---- changes with arguments

args_or_not : (c : Change) → (c ≡ change.Args) ⊎ (c ≢ change.Args)
args_or_not change.Args = inl refl
args_or_not c = inr (λ e. absurd (cc))

-- what is noted behind a change, and its arguments where they are patterns
pub parts_change : {A : Type 0} (r : Result A NoMemory) (c : Change) (sh : Shape) (x : Token) (arguments : List (List Action)) (d e : Draft) (v u : Variables) (seen : List Token) → Notes v d → Ready c d → redrafted c sh x arguments d ≡ Some e
    → (c ≢ change.Args → Notes u e) → (c ≡ change.Args → u ≡ v)
    → (c ≡ change.Args → (es : List Exp) → all_built exp_built arguments ≡ Some es → IfOk r (λ z. occurrences seen ≡ occurrences u.before ++ flat_map variables es)) → (c ≢ change.Args → seen ≡ u.before)
    → IfOk r (λ z. Notes (record { past = u.past; before = seen; inside = u.inside }) e)
parts_change {A} r c sh x arguments d e v u seen h m g others same args rest = go (args_or_not c)
  where
    next : Variables
    next = record { past = u.past; before = seen; inside = u.inside }

    still : (q : Result A NoMemory) → Notes next e → IfOk q (λ z. Notes next e)
    still (Err f) n = tt
    still (Ok z) n = n

    go : (c ≡ change.Args) ⊎ (c ≢ change.Args) → IfOk r (λ z. Notes next e)
    go (inl is) = args_change c sh x arguments d e u next r is (subst (λ q. Notes q d) (sym (same is)) h) m g refl refl (args is)
    go (inr not) = still r (subst (λ ts. Notes (record { past = u.past; before = ts; inside = u.inside }) e) (sym (rest not)) (others not))
