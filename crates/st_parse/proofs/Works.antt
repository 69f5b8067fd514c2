-- What is kept of a work behind each token.
use Rattle.std.proofs.Common.{◌≡◌, ℕ, List, [], ◌++◌, length, map, Option, Some, None, option_map, option_and_then, Result, Ok, Err, IfOk, refl, sym, ap, subst, ◌∙◌}
use Rattle.std.specs.Option.{option_or}
use Rattle.st_num.specs.declared.limit.TheConstants.{MOST_PREMISES}
use Rattle.st_num.specs.declared.memory.NoMemory.{NoMemory}
use Rattle.st_num.specs.declared.token.Token.{Token}
use Rattle.st_grammar.specs.declared.sort.Bracket.{Bracket}
use Rattle.st_parse_automaton.specs.declared.part_automaton.Part.{Part}
use Rattle.st_parse_automaton.specs.declared.part_automaton.Reading.{Reading}
use Rattle.st_parse_automaton.specs.declared.position.TokenClass.{TokenClass}
use Rattle.st_parse_automaton.specs.declared.position.Slot.{Slot}
use Rattle.st_parse_automaton.specs.declared.position.Advance.{Advance}
use Rattle.st_parse_automaton.specs.declared.position.Advance.TheVariants as advance
use Rattle.st_parse_automaton.specs.declared.position.Position.{Position}
use Rattle.st_parse_automaton.specs.declared.position.Progress.{Progress}
use Rattle.st_parse_automaton.specs.declared.position.Progress.TheVariants as code
use Rattle.st_parse_automaton.specs.inner.Readings.{progress_of}
use Rattle.st_parse_automaton.specs.inner.PartAutomaton as parts
use Rattle.st_parse_automaton.specs.inner.DefinitionAutomaton as definitions
use Rattle.st_el.specs.declared.definition.Def.{Def}
use Rattle.st_grammar.specs.declared.action.Action.{Action}
use Rattle.st_parse_builder.specs.inner.Building.{Stack, run}
use Rattle.st_parse_builder.specs.Variables.{Occurrence, occurrences}
use Rattle.st_parse_builder.specs.Limits.{place_past}
use Rattle.st_draft.specs.declared.draft.Draft.{Draft}
use Rattle.st_draft.specs.declared.parts.Parts.{Parts}
use Rattle.st_draft.specs.inner.Changes.{change_of, ending_of}
use Rattle.st_draft.specs.inner.Drafts.{arguments_after, ended}
use Rattle.st_draft.specs.inner.Parts.{word_of, redrafted, refilled}
use Rattle.st_draft.specs.inner.Ready.{told, MayEnd, Ready, Awaits}
use Rattle.st_draft.specs.inner.Work.{Work, work_of, arguments_with, worded_work, added_work, redrafted_work, ended_work, filled_work, turned_work, MayTurn, ended_defs, MayClose}
use Rattle.st_parse.specs.declared.kept.Kept.{Kept}
use Rattle.st_parse.specs.declared.variables.Variables.{Variables}
use Rattle.st_parse.specs.inner.Kept.{Notes, Draws, Keeps}
use Rattle.st_parse.specs.inner.Cuts.{cut, of_open, past_in, Counts, Parted, Opens}
use Rattle.st_parse.proofs.Notes.{mapped, some_is}

chained : (A B : Type 0) (f : A → Option B) (o : Option A) (b : B) → option_and_then f o ≡ Some b → (a : A) × (o ≡ Some a) × (f a ≡ Some b)
chained A B f None b e = absurd (cc)
chained A B f (Some a) b e = (a, refl, e)

-- a work by its fields
abbrev work : Draft → List (List Action) → List Action → List (TokenClass × Token) → Work
work d given acts words = record { draft = d; arguments = given; actions = acts; words = words }

same_work : (d : Draft) (given given' : List (List Action)) (acts acts' : List Action) (words words' : List (TokenClass × Token)) → given ≡ given' → acts ≡ acts' → words ≡ words' → work d given acts words ≡ work d given' acts' words'
same_work d given given' acts acts' words words' e f h = ap (λ y. work d y acts words) e ∙ ap (λ y. work d given' y words) f ∙ ap (work d given' acts') h

-- ---- a part goes on

-- the work with more actions is kept
pub added_keeps : (k : Kept) (acts : List Action) (p q : Parts) (w : Work) → Keeps k p w → ((d : Draft) → work_of d q ≡ added_work acts (work_of d p)) → Keeps k q (added_work acts w)
added_keeps k acts p q w h made = record { drawn = h.drawn; same = made w.draft ∙ ap (added_work acts) h.same }

worded : (k : Kept) (slot : Slot) (l : TokenClass) (x : Token) (p q : Parts) (b a : Work) → Keeps k p b → worded_work slot l x b ≡ a → ((d : Draft) → work_of d q ≡ worded_work slot l x (work_of d p)) → Keeps k q a
worded k slot l x p q b a h e made = subst (Keeps k q) e (record { drawn = h.drawn; same = made b.draft ∙ ap (worded_work slot l x) h.same })

pub words_keep : (r : Result (Unit {0}) NoMemory) (k : Kept) (a : Advance) (next : definitions.State) (slot : Slot) (l : TokenClass) (x : Token) (p q : Parts) (b c : Work) → a ≡ advance.On slot → Keeps k p b → turned_work a next l x b ≡ Some c
    → ((d : Draft) → IfOk r (λ z. work_of d q ≡ worded_work slot l x (work_of d p))) → IfOk r (λ z. Keeps k q c)
words_keep (Err f) k a next slot l x p q b c is h e made = tt
words_keep (Ok z) k a next slot l x p q b c is h e made = worded k slot l x p q b c h (some_is (ap (λ v. turned_work v next l x b) (sym is) ∙ e)) made

-- ---- positions

-- what a token between parts makes
pub redrafted_keeps : (kept new : Kept) (p q : Parts) (b a : Work) (next : definitions.State) (position : Position) (l : TokenClass) (x : Token) (given : List (List Action)) → Keeps kept p b → Ready (change_of position next) b.draft
    → redrafted_work next position l x b ≡ Some a → given ≡ p.arguments
    → ((d e : Draft) → Draws kept d → Ready (change_of position next) d → redrafted (change_of position next) l.shape x given d ≡ Some e → Draws new e)
    → q.arguments ≡ arguments_after (change_of position next) p.arguments → q.actions ≡ p.actions → q.words ≡ p.words → Keeps new q a
redrafted_keeps kept new p q b a next position l x given h ready e is changes given_up acts words =
    let c = change_of position next in
    let args : p.arguments ≡ b.arguments = ap (λ (w : Work). w.arguments) h.same in
    let m = mapped Draft Work (λ d. work d (arguments_after c b.arguments) b.actions b.words) (redrafted c l.shape x b.arguments b.draft) a e in
    subst (Keeps new q) m.2 (record {
      drawn = changes b.draft m.0 h.drawn ready (ap (λ g. redrafted c l.shape x g b.draft) (is ∙ args) ∙ m.1);
      same = same_work m.0 q.arguments (arguments_after c b.arguments) q.actions b.actions (map word_of q.words) b.words
          (given_up ∙ ap (arguments_after c) args)
          (acts ∙ ap (λ (w : Work). w.actions) h.same)
          (ap (map word_of) words ∙ ap (λ (w : Work). w.words) h.same);
    })

-- ---- a part ends

-- what a part makes that ends
pub part_keeps : (r : Result (Unit {0}) NoMemory) (kept new : Kept) (p q : Parts) (b a : Work) (slot : Slot) (n : ℕ) (acts : List Action) (words : List (TokenClass × Token)) → Keeps kept p b → Awaits slot b.draft → ended_work slot n b ≡ Some a
    → acts ≡ p.actions → words ≡ map word_of p.words → ((d e : Draft) → Draws kept d → Awaits slot d → refilled slot n acts words d ≡ Some e → Draws new e)
    → IfOk r (λ z. q.arguments ≡ arguments_with slot p.actions p.arguments) → IfOk r (λ z. (q.actions ≡ []) × (q.words ≡ [])) → IfOk r (λ z. Keeps new q a)
part_keeps (Err f) kept new p q b a slot n acts words h awaits e is same fills given rest = tt
part_keeps (Ok z) kept new p q b a slot n acts words h awaits e is same fills given rest =
    let actions : p.actions ≡ b.actions = ap (λ (w : Work). w.actions) h.same in
    let args : p.arguments ≡ b.arguments = ap (λ (w : Work). w.arguments) h.same in
    let tokens : words ≡ b.words = same ∙ ap (λ (w : Work). w.words) h.same in
    let m = mapped Draft Work (λ d. work d (arguments_with slot b.actions b.arguments) [] []) (refilled slot n b.actions b.words b.draft) a e in
    subst (Keeps new q) m.2 (record {
      drawn = fills b.draft m.0 h.drawn awaits (ap (λ y. refilled slot n y words b.draft) (is ∙ actions) ∙ ap (λ y. refilled slot n b.actions y b.draft) tokens ∙ m.1);
      same = same_work m.0 q.arguments (arguments_with slot b.actions b.arguments) q.actions [] (map word_of q.words) []
          (given ∙ ap (λ y. arguments_with slot y p.arguments) actions ∙ ap (arguments_with slot b.actions) args)
          rest.0
          (ap (map word_of) rest.1);
    })

-- ---- each token

-- where a part ends, and the token leads on behind it
pub record Left (next : definitions.State) (slot : Slot) (n : ℕ) (p : Position) (l : TokenClass) (x : Token) (b a : Work) : Type 0 where
  pub mid : Work
  pub awaits : Awaits slot b.draft
  pub filled : ended_work slot n b ≡ Some mid
  pub ready : Ready (change_of p next) mid.draft
  pub leads : redrafted_work next p l x mid ≡ Some a

pub left : (how : Advance) (next : definitions.State) (slot : Slot) (n : ℕ) (p : Position) (l : TokenClass) (x : Token) (b a : Work) → how ≡ advance.Behind slot n p → MayTurn how next b → turned_work how next l x b ≡ Some a → Left next slot n p l x b a
left how next slot n p l x b a is may e =
    let asked : MayTurn (advance.Behind slot n p) next b = subst (λ h. MayTurn h next b) is may in
    let m = chained Work Work (redrafted_work next p l x) (ended_work slot n b) a (ap (λ h. turned_work h next l x b) (sym is) ∙ e) in
    record { mid = m.0; awaits = asked.0; filled = m.1; ready = asked.1 m.0 m.1; leads = m.2 }

-- ---- what is cut off

-- what is noted of a draft is all that it has
noted_counts : (v : Variables) (d : Draft) (vs : List Occurrence) → Notes v d → of_open d ≡ vs → Counts v d.defs vs
noted_counts v d vs n e = record { past = n.past; all = ap (λ os. os ++ occurrences v.inside) n.before ∙ ap (λ os. told d ++ os) n.inside ∙ e }

pub part_ended : (r : Result (Unit {0}) NoMemory) (k : Kept) (q : Parts) (w : Work) (slot : Slot) (st : parts.State) (n : ℕ) (ks : List Bracket) (part : Part) (o : Option Part) (vs : List Occurrence) → o ≡ Some part → n ≡ length ks → Parted slot st ks w vs o
    → ((after : Work) → Awaits slot w.draft → filled_work slot n st w ≡ Some after → IfOk r (λ z. Keeps k q after)) → IfOk r (λ z. Counts k.variables w.draft.defs vs)
part_ended (Err f) k q w slot st n ks part o vs is e h ends = tt
part_ended (Ok z) k q w slot st n ks part o vs is e h ends =
    let p : Parted slot st ks w vs (Some part) = subst (Parted slot st ks w vs) is h in
    let mid = p.1.0 in
    let keeps = ends mid p.0 (ap (λ m. filled_work slot m st w) e ∙ p.1.1) in
    subst (λ ds. Counts k.variables ds vs) p.1.2 (noted_counts k.variables mid.draft vs keeps.drawn.noted p.1.3)

pub part_cut : (r : Result (Unit {0}) NoMemory) (old : Kept) (v : Variables) (q : Parts) (w : Work) (slot : Slot) (st : parts.State) (ks : List Bracket) (o : Option Part) (acts : List Action) (vs : List Occurrence) → o ≡ None → Keeps old q w → Parted slot st ks w vs o
    → acts ≡ q.actions → v.past ≡ old.variables.past
    → ((u : Stack) → run acts [] ≡ Some u → IfOk r (λ z. occurrences v.before ++ occurrences v.inside ≡ (occurrences old.variables.before ++ occurrences old.variables.inside) ++ cut slot u))
    → IfOk r (λ z. Counts v w.draft.defs vs)
part_cut (Err f) old v q w slot st ks o acts vs is h p same past all = tt
part_cut (Ok z) old v q w slot st ks o acts vs is h p same past all =
    let c : Parted slot st ks w vs None = subst (Parted slot st ks w vs) is p in
    let counts = noted_counts old.variables w.draft (of_open w.draft) h.drawn.noted refl in
    record {
      past = past ∙ counts.past;
      all = all c.0 (ap (λ y. run y []) (same ∙ ap (λ (y : Work). y.actions) h.same) ∙ c.1) ∙ ap (λ os. os ++ cut slot c.0) counts.all ∙ c.2;
    }

-- the variables that are counted are those of these definitions and of the open one
pub counted_past : (r : Result (Unit {0}) NoMemory) (v w : Variables) (defs : List Def) (vs : List Occurrence) → Counts v defs vs
    → IfOk r (λ z. w.past ≡ option_or v.past (place_past MOST_PREMISES (occurrences v.before ++ occurrences v.inside))) → IfOk r (λ z. w.past ≡ past_in defs vs)
counted_past (Err f) v w defs vs c p = tt
counted_past (Ok z) v w defs vs c p =
    p ∙ ap (λ o. option_or o (place_past MOST_PREMISES (occurrences v.before ++ occurrences v.inside))) c.past ∙ ap (past_in defs) c.all

pub opened_or : (n : Progress) (k : Kept) (q : Parts) (w : Work) (vs : List Occurrence) → ((s : Slot) (r : Reading) (ks : List Bracket) → n ≡ code.Inside s r ks → ⊥) → Keeps k q w → Opens (progress_of n) w vs → Counts k.variables w.draft.defs vs
opened_or (code.At a) k q w vs never h o = noted_counts k.variables w.draft vs h.drawn.noted o
opened_or (code.Inside s r ks) k q w vs never h o = absurd (never s r ks refl)

-- ---- the end

-- where a part is open at the end
pub record Closes (slot : Slot) (st : parts.State) (ks : List Bracket) (part : Part) (b : Work) (defs : List Def) : Type 0 where
  pub mid : Work
  pub awaits : Awaits slot b.draft
  pub filled : filled_work slot (length ks) st b ≡ Some mid
  pub may : MayEnd (ending_of (definitions.filled slot part)) mid.draft
  pub done : ended (ending_of (definitions.filled slot part)) mid.draft ≡ defs

pub closes : (from : definitions.State) (slot : Slot) (st : parts.State) (ks : List Bracket) (part : Part) (b : Work) (defs : List Def) → from ≡ definitions.inside slot st ks → parts.finish st ≡ Some part → MayClose from b → ended_defs from b ≡ Some defs
    → Closes slot st ks part b defs
closes from slot st ks part b defs is ends may e =
    let asked : MayClose (definitions.inside slot st ks) b = subst (λ f. MayClose f b) is may in
    let worked : option_map (λ v. ended (ending_of (definitions.filled slot part)) v.draft) (filled_work slot (length ks) st b) ≡ Some defs =
    ap (option_and_then (λ y. option_map (λ v. ended (ending_of (definitions.filled slot y)) v.draft) (filled_work slot (length ks) st b))) (sym ends)
    ∙ ap (λ f. ended_defs f b) (sym is) ∙ e in
    let m = mapped Work (List Def) (λ v. ended (ending_of (definitions.filled slot part)) v.draft) (filled_work slot (length ks) st b) defs worked in
    record { mid = m.0; awaits = asked.0; filled = m.1; may = asked.1 part m.0 ends m.1; done = m.2 }
