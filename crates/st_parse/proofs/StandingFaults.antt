-- A fault stands at a token.
use Rattle.std.proofs.Common.{ℕ, List, [], ◌∷◌, ◌++◌, inl, inr, map, take, zero, suc, Some, sym, ap, subst, ◌∙◌}
use Rattle.std.specs.List.{AllByRecursion}
use Rattle.st_num.specs.declared.limit.TheConstants.{MOST_PREMISES}
use Rattle.st_num.specs.declared.rule.RuleId.{RuleId}
use Rattle.st_num.specs.declared.span.Span.{Span}
use Rattle.st_num.specs.declared.token.Token.{Token}
use Rattle.st_grammar.specs.Terminals.{Terminal, terminal, declared_names}
use Rattle.st_grammar.specs.Trees.{text, texts}
use Rattle.st_grammar.specs.Definitions.{hints_text, members_text, args_text, iterations_text, premises_text, defs_text}
use Rattle.st_grammar.specs.Positions.{Head, syntax_head, Rule, rule_head, clause_head, Host, of_syntax, of_field, of_case, of_var, of_relation, of_notation, of_fun, Slot, field_slot, case_slot, var_slot, notation_slot, fun_slot, arg_slot, rule_slot, cond_slot, count_slot, Position, between, syntax_name, var_name, var_colon, relation_name, rule_name, rule_colon, fun_name, fun_named, argued, args_closed, syntax_id, rule_id, hinted, hint_open, hint_name, hint_words, entering, dotted, field_name, premised, premise_open, goal_colon, iterated, State, at, inside}
use Rattle.st_grammar.proofs.Sound as sound
use Rattle.st_grammar.proofs.PositionTexts.{head_text, rule_text, ruled_text, host_text, slot_text, position_text, seen, Reached}
use Rattle.st_grammar.proofs.PositionReading.{reached_by}
use Rattle.st_parse_automaton.specs.Refusal.{terminals_of}
use Rattle.st_parse_faults.specs.Place.{place_at}
use Rattle.st_parse_builder.specs.Definitions.{defs_meaning}
use Rattle.st_parse_builder.specs.Limits.{place_past}
use Rattle.st_parse.specs.Before.{head_before, rule_before, host_before, slot_before, position_before, before}
use Rattle.st_grammar.proofs.TerminalTokens.{terminal_token}
use Rattle.st_parse.specs.Limits.{variable_past, too_tall, first_that}
use Rattle.st_parse.specs.Open.{open_variables}
use Rattle.st_parse.specs.Source.{Past, FaultAt}
use Rattle.st_parse.proofs.Standing.{Stand, first}
use Rattle.st_parse.proofs.StandingDefs.{place_stands, past_stands, tall_is_there, told, first_stands}
use Rattle.st_parse.proofs.StandingOpen.{open_occurs}

module _ (P : Span → Type 0) where
  -- ---- the definitions before the open one

  in_head : (h : Head) → Stand P (head_text h) → Stand P (defs_text (head_before h))
  in_head (syntax_head ds w x ls hs e) s = first P (defs_text ds) (w ∷ x ∷ (ls ++ (hints_text hs ++ e ∷ []))) s

  in_rule : (r : Rule) → Stand P (rule_text r) → Stand P (defs_text (rule_before r))
  in_rule (rule_head ds w r ls c) s = first P (defs_text ds) (w ∷ r ∷ (ls ++ c ∷ [])) s
  in_rule (clause_head ds w f a e) s = first P (defs_text ds) (w ∷ f ∷ (args_text a ++ e ∷ [])) s

  in_host : (h : Host) → Stand P (host_text h) → Stand P (defs_text (host_before h))
  in_host (of_syntax ds w x ls) s = first P (defs_text ds) (w ∷ x ∷ ls) s
  in_host (of_field h o ms pre t) s = in_head h (first P (head_text h) (o ∷ (members_text ms ++ (pre ++ text t))) s)
  in_host (of_case h ms pre t) s = in_head h (first P (head_text h) (members_text ms ++ (pre ++ text t)) s)
  in_host (of_var ds w x c t) s = first P (defs_text ds) (w ∷ x ∷ c ∷ text t) s
  in_host (of_relation ds w r) s = first P (defs_text ds) (w ∷ r ∷ []) s
  in_host (of_notation ds w r hs c t) s = first P (defs_text ds) (w ∷ r ∷ (hints_text hs ++ (c ∷ text t))) s
  in_host (of_fun ds w f a c t) s = first P (defs_text ds) (w ∷ f ∷ (args_text a ++ (c ∷ text t))) s

  in_slot : (l : Slot) → Stand P (slot_text l) → Stand P (defs_text (slot_before l))
  in_slot (field_slot h o ms pre) s = in_head h (first P (head_text h) (o ∷ (members_text ms ++ pre)) s)
  in_slot (case_slot h ms pre) s = in_head h (first P (head_text h) (members_text ms ++ pre) s)
  in_slot (var_slot ds w x c) s = first P (defs_text ds) (w ∷ x ∷ c ∷ []) s
  in_slot (notation_slot ds w r hs c) s = first P (defs_text ds) (w ∷ r ∷ (hints_text hs ++ c ∷ [])) s
  in_slot (fun_slot ds w f a c) s = first P (defs_text ds) (w ∷ f ∷ (args_text a ++ c ∷ [])) s
  in_slot (arg_slot ds w f o ts pre) s = first P (defs_text ds) (w ∷ f ∷ o ∷ (texts ts ++ pre)) s
  in_slot (rule_slot r) s = in_rule r s
  in_slot (cond_slot r t ps d os ls) s = in_rule r (first P (rule_text r) (text t ++ premises_text ps) (first P (ruled_text r t ps) (d ∷ (os ++ ls)) s))
  in_slot (count_slot r t ps d os ls u i l) s =
      in_rule r (first P (rule_text r) (text t ++ premises_text ps) (first P (ruled_text r t ps) (d ∷ (os ++ (ls ++ (text u ++ (iterations_text i ++ l ∷ []))))) s))

  in_position : (p : Position) → Stand P (position_text p) → Stand P (defs_text (position_before p))
  in_position (between ds) s = s
  in_position (syntax_name ds w) s = first P (defs_text ds) (w ∷ []) s
  in_position (var_name ds w) s = first P (defs_text ds) (w ∷ []) s
  in_position (var_colon ds w x) s = first P (defs_text ds) (w ∷ x ∷ []) s
  in_position (relation_name ds w) s = first P (defs_text ds) (w ∷ []) s
  in_position (rule_name ds w) s = first P (defs_text ds) (w ∷ []) s
  in_position (rule_colon ds w r) s = first P (defs_text ds) (w ∷ r ∷ []) s
  in_position (fun_name ds w) s = first P (defs_text ds) (w ∷ []) s
  in_position (fun_named ds w f) s = first P (defs_text ds) (w ∷ f ∷ []) s
  in_position (argued ds w f o ts) s = first P (defs_text ds) (w ∷ f ∷ o ∷ texts ts) s
  in_position (args_closed ds w f o ts c) s = first P (defs_text ds) (w ∷ f ∷ o ∷ (texts ts ++ c ∷ [])) s
  in_position (syntax_id ds w x ls d) s = first P (defs_text ds) (w ∷ x ∷ ls) s
  in_position (rule_id ds w r ls d) s = first P (defs_text ds) (w ∷ r ∷ ls) s
  in_position (hinted h hs) s = in_host h (first P (host_text h) (hints_text hs) s)
  in_position (hint_open h hs w) s = in_host h (first P (host_text h) (hints_text hs ++ w ∷ []) s)
  in_position (hint_name h hs w o) s = in_host h (first P (host_text h) (hints_text hs ++ w ∷ o ∷ []) s)
  in_position (hint_words h hs w o n ws cs) s = in_host h (first P (host_text h) (hints_text hs ++ (w ∷ o ∷ n ∷ ws)) s)
  in_position (entering l) s = in_slot l s
  in_position (dotted h d) s = in_head h (first P (head_text h) (d ∷ []) s)
  in_position (field_name h o ms pre) s = in_head h (first P (head_text h) (o ∷ (members_text ms ++ pre)) s)
  in_position (premised r t ps) s = in_rule r (first P (rule_text r) (text t ++ premises_text ps) s)
  in_position (premise_open r t ps d os) s = in_rule r (first P (rule_text r) (text t ++ premises_text ps) (first P (ruled_text r t ps) (d ∷ os) s))
  in_position (goal_colon r t ps d os n) s = in_rule r (first P (rule_text r) (text t ++ premises_text ps) (first P (ruled_text r t ps) (d ∷ (os ++ n ∷ [])) s))
  in_position (iterated r t ps d os ls u i) s =
      in_rule r (first P (rule_text r) (text t ++ premises_text ps) (first P (ruled_text r t ps) (d ∷ (os ++ (ls ++ (text u ++ iterations_text i)))) s))

  in_state : (st : State) → Stand P (seen st) → Stand P (defs_text (before st))
  in_state (at p) s = in_position p s
  in_state (inside l st) s = in_slot l (first P (slot_text l) (sound.seen st) s)

  -- ---- tokens

  abbrev pub TokensStand : List Token → Type 0
  TokensStand xs = AllByRecursion (λ (x : Token). P x.at) xs

  terminals_stand : (names : List (List ℕ)) (xs : List Token) → TokensStand xs → Stand P (map (terminal names) xs)
  terminals_stand names [] h = tt
  terminals_stand names (x ∷ xs) h = (subst (λ (y : Token). P y.at) (sym (terminal_token names x)) h.0, terminals_stand names xs h.1)

  front_stands : (k : ℕ) (ls : List Terminal) → Stand P ls → Stand P (take k ls)
  front_stands zero [] h = tt
  front_stands zero (l ∷ ls) h = tt
  front_stands (suc k) [] h = tt
  front_stands (suc k) (l ∷ ls) h = (h.0, front_stands k ls h.1)

  -- ---- faults

  -- the first variable that is past the limit
  past_place : (tokens : List Token) (place : Span) → TokensStand tokens → Past tokens (Some place) → P place
  past_place tokens place s (front, e) =
      let us = take front.count (terminals_of tokens) in
      let st = front.state in
      let reached : Reached us st = reached_by us st front.read in
      let stands : Stand P (seen st) =
      subst (Stand P) (sym reached.spelled) (front_stands front.count (terminals_of tokens) (terminals_stand (declared_names tokens) tokens s)) in
      told P (first_that variable_past (defs_meaning (before st))) (place_past MOST_PREMISES (open_variables st)) place
      (first_stands P variable_past (before st) place (past_stands P) (in_state st stands))
      (place_stands P (open_variables st) place (open_occurs P st reached.holds stands))
      e

  -- A fault stands at such a place, where each token does.
  pub fault_stands : (tokens : List Token) (place : Span) (rule : RuleId) → TokensStand tokens → ((k : ℕ) → P (place_at tokens k)) → FaultAt tokens place rule → P place
  fault_stands tokens place rule s each (inl many) = past_place tokens place s many.0
  fault_stands tokens place rule s each (inr (inl fault)) = subst P (sym fault.1.2) (each fault.1.0)
  fault_stands tokens place rule s each (inr (inr tall)) =
      let parse = tall.1.1 in
      first_stands P too_tall parse.trees place (tall_is_there P)
      (subst (Stand P) parse.grammar.spelled (terminals_stand (declared_names tokens) tokens s))
      (ap (first_that too_tall) parse.meant ∙ tall.3)
