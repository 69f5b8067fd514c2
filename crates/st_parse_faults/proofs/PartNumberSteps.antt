-- Each token of a part of definitions adds its entry, also the one that enters it.
use Rattle.std.proofs.Common.{◌≡◌, ◌⊎◌, inl, inr, ◌+◌, ◌-◌, List, [], ◌∷◌, ◌++◌, true, false, ◌||◌, Option, Some, None, refl, sym, ap, subst, ◌∙◌, append_assoc, arith}
use Rattle.std.specs.List.{list_any}
use Rattle.st_grammar.specs.declared.sort.Sort.{Sort}
use Rattle.st_grammar.specs.Terminals.{Terminal}
use Rattle.st_grammar.specs.Trees.{none}
use Rattle.st_grammar.specs.Reading as part
use Rattle.st_grammar.specs.Positions.{Slot, field_slot, case_slot, var_slot, notation_slot, fun_slot, arg_slot, rule_slot, cond_slot, count_slot, slot_sort, entering, at, inside, enter, enter_other}
use Rattle.st_parse_faults.specs.declared.counts.Counts.{Counts}
use Rattle.st_parse_faults.specs.declared.counts.Event.TheVariants.{Member, Nothing}
use Rattle.st_parse_faults.specs.inner.Counts.{member_due, event, counts_after, counts_pass}
use Rattle.st_parse_faults.specs.Number.{Number, too_many}
use Rattle.st_parse_faults.specs.Numbers.{Context}
use Rattle.st_parse_faults.specs.Nesting.{nesting_after}
use Rattle.st_parse_faults.specs.inner.Limits.{part_passes}
use Rattle.st_parse_faults.specs.inner.Numbering.{state_numbers}
use Rattle.st_parse_faults.specs.inner.PositionNumbers.{slot_numbers, slot_begins, slot_context, slot_counts, inner_counts, counts_in}
use Rattle.st_parse_faults.proofs.KeptTallies.{neither}
use Rattle.st_parse_faults.proofs.NumberBegins as inner
use Rattle.st_parse_faults.proofs.NumberSteps.{part_steps}
use Rattle.st_parse_faults.proofs.PositionNumberFacts.{event_entry, event_passes, slot_shallow}
use Rattle.st_parse_faults.proofs.NumberedSteps.{front_of, Ready, Step, StepTo}
use Rattle.st_parse_faults.proofs.DefinitionNumberSteps.{other_steps}

-- ---- a token of a part

-- something is read of the part
abbrev pub Started : part.State → Type 0
Started (part.want (part.bottom σ)) = ⊥
Started st = Unit {0}

no_end : (ns : List (List Number)) (e : List Number) → [] ≡ ns ++ e ∷ [] → ⊥
no_end [] e h = absurd (cc)
no_end (n ∷ ns) e h = absurd (cc)

started : (c : Context) (st : part.State) (ns : List (List Number)) (e : List Number) → state_numbers c st ≡ ns ++ e ∷ [] → Started st
started c (part.want (part.bottom σ)) ns e h = no_end ns e h
started c (part.want (part.within k us q fs)) ns e h = tt
started c (part.want (part.over g fs)) ns e h = tt
started c (part.want (part.timing v m y fs)) ns e h = tt
started c (part.got v fs) ns e h = tt
started c (part.naming k us q fs) ns e h = tt
started c (part.pathed p fs) ns e h = tt
started c (part.indexing a fs) ns e h = tt
started c (part.comparing a j fs) ns e h = tt

pub inner_is : (s : Slot) (st : part.State) → Started st → counts_in (inside s st) ≡ inner_counts s
inner_is s (part.want (part.bottom σ)) h = absurd h
inner_is s (part.want (part.within k us q fs)) h = refl
inner_is s (part.want (part.over g fs)) h = refl
inner_is s (part.want (part.timing v m y fs)) h = refl
inner_is s (part.got v fs) h = refl
inner_is s (part.naming k us q fs) h = refl
inner_is s (part.pathed p fs) h = refl
inner_is s (part.indexing a fs) h = refl
inner_is s (part.comparing a j fs) h = refl

abbrev pub SlotReady : Slot → Type 0
SlotReady (case_slot h ms pre) = ⊥
SlotReady s = Unit {0}

ready_start : (s : Slot) (st : part.State) → Ready (inside s st) → Started st ⊎ SlotReady s
ready_start (case_slot h ms pre) (part.want (part.bottom σ)) r = absurd r
ready_start (case_slot h ms pre) (part.want (part.within k us q fs)) r = inl tt
ready_start (case_slot h ms pre) (part.want (part.over g fs)) r = inl tt
ready_start (case_slot h ms pre) (part.want (part.timing v m y fs)) r = inl tt
ready_start (case_slot h ms pre) (part.got v fs) r = inl tt
ready_start (case_slot h ms pre) (part.naming k us q fs) r = inl tt
ready_start (case_slot h ms pre) (part.pathed p fs) r = inl tt
ready_start (case_slot h ms pre) (part.indexing a fs) r = inl tt
ready_start (case_slot h ms pre) (part.comparing a j fs) r = inl tt
ready_start (field_slot h o ms pre) st r = inr tt
ready_start (var_slot ds w x c) st r = inr tt
ready_start (notation_slot ds w q hs c) st r = inr tt
ready_start (fun_slot ds w f a c) st r = inr tt
ready_start (arg_slot ds w f o ts pre) st r = inr tt
ready_start (rule_slot q) st r = inr tt
ready_start (cond_slot q t ps d os ls) st r = inr tt
ready_start (count_slot q t ps d os ls u i l) st r = inr tt

started_ready : (s : Slot) (st : part.State) → Started st → Ready (inside s st)
started_ready (case_slot h ms pre) (part.want (part.bottom σ)) r = absurd r
started_ready (case_slot h ms pre) (part.want (part.within k us q fs)) r = tt
started_ready (case_slot h ms pre) (part.want (part.over g fs)) r = tt
started_ready (case_slot h ms pre) (part.want (part.timing v m y fs)) r = tt
started_ready (case_slot h ms pre) (part.got v fs) r = tt
started_ready (case_slot h ms pre) (part.naming k us q fs) r = tt
started_ready (case_slot h ms pre) (part.pathed p fs) r = tt
started_ready (case_slot h ms pre) (part.indexing a fs) r = tt
started_ready (case_slot h ms pre) (part.comparing a j fs) r = tt
started_ready (field_slot h o ms pre) st r = tt
started_ready (var_slot ds w x c) st r = tt
started_ready (notation_slot ds w q hs c) st r = tt
started_ready (fun_slot ds w f a c) st r = tt
started_ready (arg_slot ds w f o ts pre) st r = tt
started_ready (rule_slot q) st r = tt
started_ready (cond_slot q t ps d os ls) st r = tt
started_ready (count_slot q t ps d os ls u i l) st r = tt

-- in a part nothing is due and no definition, premise or member begins
pub nothing_due : (s : Slot) (st : part.State) → Started st → member_due (inside s st) ≡ false
nothing_due (arg_slot ds w f o ts pre) (part.want (part.bottom σ)) r = absurd r
nothing_due (arg_slot ds w f o ts pre) (part.want (part.within k us q fs)) r = refl
nothing_due (arg_slot ds w f o ts pre) (part.want (part.over g fs)) r = refl
nothing_due (arg_slot ds w f o ts pre) (part.want (part.timing v m y fs)) r = refl
nothing_due (arg_slot ds w f o ts pre) (part.got v fs) r = refl
nothing_due (arg_slot ds w f o ts pre) (part.naming k us q fs) r = refl
nothing_due (arg_slot ds w f o ts pre) (part.pathed p fs) r = refl
nothing_due (arg_slot ds w f o ts pre) (part.indexing a fs) r = refl
nothing_due (arg_slot ds w f o ts pre) (part.comparing a j fs) r = refl
nothing_due (field_slot h o ms pre) st r = refl
nothing_due (case_slot h ms pre) st r = refl
nothing_due (var_slot ds w x c) st r = refl
nothing_due (notation_slot ds w q hs c) st r = refl
nothing_due (fun_slot ds w f a c) st r = refl
nothing_due (rule_slot q) st r = refl
nothing_due (cond_slot q t ps d os ls) st r = refl
nothing_due (count_slot q t ps d os ls u i l) st r = refl

nothing_begins : (s : Slot) (st : part.State) → Started st → event false (inside s st) ≡ Nothing
nothing_begins (count_slot q t ps d os ls u i l) (part.want (part.bottom σ)) r = absurd r
nothing_begins (count_slot q t ps d os ls u i l) (part.want (part.within k us p fs)) r = refl
nothing_begins (count_slot q t ps d os ls u i l) (part.want (part.over g fs)) r = refl
nothing_begins (count_slot q t ps d os ls u i l) (part.want (part.timing v m y fs)) r = refl
nothing_begins (count_slot q t ps d os ls u i l) (part.got v fs) r = refl
nothing_begins (count_slot q t ps d os ls u i l) (part.naming k us p fs) r = refl
nothing_begins (count_slot q t ps d os ls u i l) (part.pathed p fs) r = refl
nothing_begins (count_slot q t ps d os ls u i l) (part.indexing a fs) r = refl
nothing_begins (count_slot q t ps d os ls u i l) (part.comparing a j fs) r = refl
nothing_begins (field_slot h o ms pre) st r = refl
nothing_begins (case_slot h ms pre) st r = refl
nothing_begins (var_slot ds w x c) st r = refl
nothing_begins (notation_slot ds w q hs c) st r = refl
nothing_begins (fun_slot ds w f a c) st r = refl
nothing_begins (arg_slot ds w f o ts pre) st r = refl
nothing_begins (rule_slot q) st r = refl
nothing_begins (cond_slot q t ps d os ls) st r = refl

-- what a token of a part begins beside its part, and what is counted behind it
pub record Beside (s : Slot) (st next : part.State) : Type 0 where
  pub counted : counts_in (inside s next) ≡ counts_after (counts_in (inside s st)) (event (member_due (inside s st)) (inside s next))
  pub begins : list_any too_many (inner.outer_of (slot_context s) st) ≡ list_any too_many (event_entry (event (member_due (inside s st)) (inside s next)) (counts_in (inside s next)))

quiet_beside : (s : Slot) (st next : part.State) → inner.outer_of (slot_context s) st ≡ [] → member_due (inside s st) ≡ false → counts_in (inside s st) ≡ inner_counts s → Started next → Beside s st next
quiet_beside s st next b d k r =
    let none : event (member_due (inside s st)) (inside s next) ≡ Nothing = ap (λ v. event v (inside s next)) d ∙ nothing_begins s next r in
    record {
      counted = inner_is s next r ∙ sym k ∙ ap (counts_after (counts_in (inside s st))) (sym none);
      begins = ap (list_any too_many) b ∙ ap (λ e. list_any too_many (event_entry e (counts_in (inside s next)))) (sym none);
    }

start_beside : (s : Slot) (σ : Sort) (next : part.State) → SlotReady s → Started next → Beside s (part.want (part.bottom σ)) next
start_beside (case_slot h ms pre) σ next p r = absurd p
start_beside (arg_slot ds w f o ts pre) σ next p r = record {
  counted = inner_is (arg_slot ds w f o ts pre) next r;
  begins = ap (λ (c : Counts). list_any too_many (event_entry Member c)) (sym (inner_is (arg_slot ds w f o ts pre) next r));
}
start_beside (field_slot h o ms pre) σ next p r = quiet_beside (field_slot h o ms pre) (part.want (part.bottom σ)) next refl refl refl r
start_beside (var_slot ds w x c) σ next p r = quiet_beside (var_slot ds w x c) (part.want (part.bottom σ)) next refl refl refl r
start_beside (notation_slot ds w q hs c) σ next p r = quiet_beside (notation_slot ds w q hs c) (part.want (part.bottom σ)) next refl refl refl r
start_beside (fun_slot ds w f a c) σ next p r = quiet_beside (fun_slot ds w f a c) (part.want (part.bottom σ)) next refl refl refl r
start_beside (rule_slot q) σ next p r = quiet_beside (rule_slot q) (part.want (part.bottom σ)) next refl refl refl r
start_beside (cond_slot q t ps d os ls) σ next p r = quiet_beside (cond_slot q t ps d os ls) (part.want (part.bottom σ)) next refl refl refl r
start_beside (count_slot q t ps d os ls u i l) σ next p r = quiet_beside (count_slot q t ps d os ls u i l) (part.want (part.bottom σ)) next refl refl refl r

begins_nothing : (c : Context) (st : part.State) → Started st → inner.outer_of c st ≡ []
begins_nothing c (part.want (part.bottom σ)) r = absurd r
begins_nothing c (part.want (part.within k us q fs)) r = refl
begins_nothing c (part.want (part.over g fs)) r = refl
begins_nothing c (part.want (part.timing v m y fs)) r = refl
begins_nothing c (part.got v fs) r = refl
begins_nothing c (part.naming k us q fs) r = refl
begins_nothing c (part.pathed p fs) r = refl
begins_nothing c (part.indexing a fs) r = refl
begins_nothing c (part.comparing a j fs) r = refl

started_beside : (s : Slot) (st next : part.State) → Started st → Started next → Beside s st next
started_beside s st next q r = quiet_beside s st next (begins_nothing (slot_context s) st q) (nothing_due s st q) (inner_is s st q) r

-- at the start of a part or behind it
is_started : (st : part.State) → Started st ⊎ ((σ : Sort) × (st ≡ part.want (part.bottom σ)))
is_started (part.want (part.bottom σ)) = inr (σ, refl)
is_started (part.want (part.within k us q fs)) = inl tt
is_started (part.want (part.over g fs)) = inl tt
is_started (part.want (part.timing v m y fs)) = inl tt
is_started (part.got v fs) = inl tt
is_started (part.naming k us q fs) = inl tt
is_started (part.pathed p fs) = inl tt
is_started (part.indexing a fs) = inl tt
is_started (part.comparing a j fs) = inl tt

part_beside : (s : Slot) (st next : part.State) → Ready (inside s st) → Started next → Beside s st next
part_beside s st next p r = go (is_started st) (ready_start s st p)
  where
    go : Started st ⊎ ((σ : Sort) × (st ≡ part.want (part.bottom σ))) → Started st ⊎ SlotReady s → Beside s st next
    go (inl q) x = started_beside s st next q r
    go (inr q) (inl y) = started_beside s st next y r
    go (inr q) (inr y) = subst (λ v. Beside s v next) (sym q.1) (start_beside s q.0 next y r)

pub inner_step : (s : Slot) (st : part.State) (l : Terminal) (next : part.State) → Ready (inside s st) → inner.Step (slot_context s) (inner.front_of (slot_context s) st) l next → Step (front_of (inside s st)) l (inside s next)
inner_step s st l next p r =
    let q = started (slot_context s) next (state_numbers (slot_context s) st) r.entry r.grown in
    let b = part_beside s st next p q in
    record {
      entry = r.entry;
      grown = ap (λ v. slot_numbers s ++ v) r.grown ∙ sym (append_assoc (slot_numbers s) (state_numbers (slot_context s) st) (r.entry ∷ []));
      counted = b.counted;
      limit = λ h.
          let d = neither (counts_pass (counts_in (inside s st))) (part_passes (inside s st)) h in
          r.limit d.1
          ∙ ap (λ v. v || part_passes (inside s next))
          (b.begins
          ∙ ap (λ c. list_any too_many (event_entry (event (member_due (inside s st)) (inside s next)) c)) b.counted
          ∙ event_passes (counts_in (inside s st)) (event (member_due (inside s st)) (inside s next)) d.0
          ∙ ap counts_pass (sym b.counted));
      nests = r.nests;
      opens = r.opens;
      stays = λ h. omega (arith, r.stays h);
      ready = started_ready s next q;
    }

-- ---- a part is entered

abbrev pub EntrySlot : Slot → Type 0
EntrySlot s = Ready (at (entering s))

entry_counts : (s : Slot) (next : part.State) → EntrySlot s → Started next → counts_in (inside s next) ≡ counts_after (slot_counts s) (event true (inside s next))
entry_counts (case_slot h ms pre) next p r = inner_is (case_slot h ms pre) next r
entry_counts (arg_slot ds w f o ts pre) next p r = inner_is (arg_slot ds w f o ts pre) next r
entry_counts (field_slot h o ms pre) next p r = absurd p
entry_counts (var_slot ds w x c) next p r = absurd p
entry_counts (notation_slot ds w q hs c) next p r = absurd p
entry_counts (fun_slot ds w f a c) next p r = absurd p
entry_counts (rule_slot q) next p r = absurd p
entry_counts (cond_slot q t ps d os ls) next p r = absurd p
entry_counts (count_slot q t ps d os ls u i l) next p r = absurd p

entry_begins : (s : Slot) (next : part.State) → EntrySlot s → Started next → list_any too_many (slot_begins s) ≡ list_any too_many (event_entry (event true (inside s next)) (counts_in (inside s next)))
entry_begins (case_slot h ms pre) next p r = ap (λ (c : Counts). list_any too_many (event_entry Member c)) (sym (inner_is (case_slot h ms pre) next r))
entry_begins (arg_slot ds w f o ts pre) next p r = ap (λ (c : Counts). list_any too_many (event_entry Member c)) (sym (inner_is (arg_slot ds w f o ts pre) next r))
entry_begins (field_slot h o ms pre) next p r = absurd p
entry_begins (var_slot ds w x c) next p r = absurd p
entry_begins (notation_slot ds w q hs c) next p r = absurd p
entry_begins (fun_slot ds w f a c) next p r = absurd p
entry_begins (rule_slot q) next p r = absurd p
entry_begins (cond_slot q t ps d os ls) next p r = absurd p
entry_begins (count_slot q t ps d os ls u i l) next p r = absurd p

entry_step : (s : Slot) (l : Terminal) (next : part.State) → EntrySlot s → inner.Step (slot_context s) (inner.front_of (slot_context s) (part.start (slot_sort s))) l next → Step (front_of (at (entering s))) l (inside s next)
entry_step s l next p r =
    let q = started (slot_context s) next [] r.entry r.grown in
    record {
      entry = r.entry;
      grown = ap (λ v. slot_numbers s ++ v) r.grown;
      counted = entry_counts s next p q;
      limit = λ h.
          let d = neither (counts_pass (slot_counts s)) (part_passes (at (entering s))) h in
          r.limit d.1
          ∙ ap (λ v. v || part_passes (inside s next))
          (entry_begins s next p q
          ∙ ap (λ c. list_any too_many (event_entry (event true (inside s next)) c)) (entry_counts s next p q)
          ∙ event_passes (slot_counts s) (event true (inside s next)) d.0
          ∙ ap counts_pass (sym (entry_counts s next p q)));
      nests = r.nests ∙ ap (λ v. nesting_after v l) (omega arith);
      opens = λ h. r.opens (omega (arith, h));
      stays = λ h. omega (arith, r.stays h);
      ready = started_ready s next q;
    }

pub enter_steps : (s : Slot) (l : Terminal) → EntrySlot s → StepTo (front_of (at (entering s))) l (enter s (part.step (part.start (slot_sort s)) l) (enter_other s l))
enter_steps s l p = go (part.step (part.start (slot_sort s)) l) (part_steps (slot_context s) (slot_shallow s) (part.start (slot_sort s)) l (tt, tt))
  where
    go : (o : Option part.State) → inner.StepTo (slot_context s) (inner.front_of (slot_context s) (part.start (slot_sort s))) l o → StepTo (front_of (at (entering s))) l (enter s o (enter_other s l))
    go None r = other_steps s l
    go (Some next) r = entry_step s l next p r
