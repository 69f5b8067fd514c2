-- A walk through bodies goes by one syntax.
use Rattle.std.proofs.Common.{[], ◌≡◌, refl, sym, ap, ◌∙◌, subst, ℕ, ◌+◌, ◌<◌, ◌≤◌, ◌^◌, Bool, true, false, inl, inr, if◌then◌else◌, Some, None, List, ◌∷◌, ◌++◌, length, take, drop, append-nil, arith}
use Rattle.std.specs.Prelude.{Option}
use Rattle.std.specs.List.{list_any}
use Rattle.std.proofs.lemmas.Grind.{common_steps}
use Rattle.std.proofs.lemmas.Option.{slice_get_within}
use Rattle.st_num.specs.Names.{same_name}
use Rattle.st_num.specs.declared.rule.RuleId.TheVariants.{B5}
use Rattle.st_num.specs.declared.span.Span.{Span}
use Rattle.st_el.specs.Erasure.{is_fragment, is_fragment_node}
use Rattle.st_el.specs.declared.definition.Body.{Body}
use Rattle.st_el.specs.declared.definition.Body.TheVariants.{Alias, Cases, Fields}
use Rattle.st_el.specs.declared.definition.Def.{Def}
use Rattle.st_el.specs.declared.definition.DefNode.TheVariants.{Syntax}
use Rattle.st_il.specs.declared.definition.Alternative.{Alternative}
use Rattle.st_il.specs.declared.definition.SyntaxBody.TheVariants as body
use Rattle.st_type_table.specs.Breach.{FindsAt}
use Rattle.st_elab_table.specs.declared.decls.Decls.{Decls}
use Rattle.st_elab_table.specs.Questions.{Breach as PartBreach}
use Rattle.st_elab_table.specs.Judgements.{broken}
use Rattle.st_elab_def.specs.declared.bodies.Source.{Source}
use Rattle.st_elab_def.specs.declared.bodies.Walk.{Walk}
use Rattle.st_elab_def.specs.declared.parts.Begun.{Begun}
use Rattle.st_elab_def.specs.Declarations.{declare_same}
use Rattle.st_elab_def.specs.Definitions.{Definition}
use Rattle.st_elab_def.specs.DeclsOf.{body_of, decls_of}
use Rattle.st_elab_def.specs.Fragments.{dots_suit, has_fragment, joins}
use Rattle.st_elab_def.specs.Phases.{on_body, alternatives_before}
use Rattle.st_elab_def.specs.inner.Bodies.{IsSyntax, own, parts_asked, body_asked, BodyPasses, HasBegun, IsBegun, here_of, ComesTo, GoesBy, IsNoSyntax}
use Rattle.st_elab_def.specs.inner.Gathering.{body_with}
use Rattle.st_ilcheck.specs.Index.{at}
use Rattle.st_elab_def.specs.inner.Last.{is_past}
use Rattle.st_elab_def.specs.inner.Walk.{AllPassAt, FirstBreachAt}
use Rattle.st_elab_def.proofs.ComesTo.{body-asked, nothing-asked, IsCases, later-cases, first-cases, cases-body, cases-advance, no-syntax, whole-syntax, later-syntax, first-syntax, begun-more, begun-there, begun-parts, begun-put, ahead-same, new-there, new-ahead, begun-skip, no-fragment, once}
use Rattle.st_elab_def.proofs.Gathered.{parts-none}

-- ---- the dots, and then the parts

module _ (D : Decls) (d : Definition) (name : List ℕ) (fragment : Option (List ℕ)) (before behind : Bool) (parts : List Alternative) (b : Body) (place : Span)
    (is : d.def.at ≡ place) (suits : joins d name fragment b ≡ dots_suit before behind b) where
  pub dots-fail : (x : PartBreach) → (dots_suit before behind b ≡ true → ⊥) × (x ≡ broken place B5) → FirstBreachAt D (body_asked d name fragment parts b) x
  dots-fail x (not, e) = inl ((λ h. not (sym suits ∙ h)), e ∙ ap (λ a. broken a B5) (sym is))

  module _ (on : dots_suit before behind b ≡ true) where
    pub dots-pass : (k to : ℕ) → BodyPasses D (parts_asked place name parts b) k parts b to → BodyPasses D (body_asked d name fragment parts b) k parts b to
    dots-pass k to h = record {
      passes = (suits ∙ on, subst (λ a. AllPassAt D (parts_asked a name parts b)) (sym is) h.passes);
      advances = h.advances;
    }

    pub dots-breach : (x : PartBreach) → FirstBreachAt D (parts_asked place name parts b) x → FirstBreachAt D (body_asked d name fragment parts b) x
    dots-breach x h = inr (suits ∙ on, subst (λ a. FirstBreachAt D (parts_asked a name parts b) x) (sym is) h)

whole-body : (b : Body) (parts : List Alternative) → parts ≡ [] → body_with b (parts ++ (own b ++ [])) ≡ body_of b
whole-body (Alias t) parts none = refl
whole-body (Cases dots cases more) parts none = ap body.Variant (ap (λ xs. xs ++ (own (Cases dots cases more) ++ [])) none ∙ append-nil (own (Cases dots cases more)))
whole-body (Fields fields) parts none = refl

-- ---- one syntax

module _ (source : Source) (number : ℕ) (def : Def) (walk : Walk) (comes : ComesTo source number def walk) where
  abbrev D : Decls
  D = decls_of source.defs.now

  abbrev before : List Def
  before = take number source.defs.now

  abbrev behind : List Def
  behind = drop (number + 1) source.defs.now

  abbrev d : Definition
  d = here_of source.defs.now number def

  within : (name : List ℕ) (b : _) → IsSyntax D walk.next name b → walk.next < length source.bodies
  within name b there = subst (λ ts. walk.next < length ts) (sym comes.syntaxes) (slice_get_within D.types walk.next (record { name = name; body = b }) there)

  pub few-more : walk.next + 1 < 2 ^ 33
  few-more = let few : walk.next ≤ length before = comes.come.few in let all : length before < 2 ^ 32 = comes.within in omega arith

  few-behind : walk.next + 1 ≤ length (before ++ def ∷ [])
  few-behind = let few : walk.next ≤ length before = comes.come.few in grind (arith, common_steps)

  few-same : walk.next ≤ length (before ++ def ∷ [])
  few-same = let few : walk.next ≤ length before = comes.come.few in grind (arith, common_steps)

  pub goes-breach : (name : List ℕ) (fragment : Option (List ℕ)) (b : Body) → def.node ≡ Syntax name fragment b → (x : PartBreach)
      → FirstBreachAt D (body_asked d name fragment (alternatives_before name before) b) x → FirstBreachAt D (on_body d) x
  goes-breach name fragment b is x h = subst (λ ps. FirstBreachAt D ps x) (sym (body-asked d name fragment b is)) h

  -- ---- no syntax

  pub none-goes : IsNoSyntax def.node → GoesBy D d walk
  none-goes h = record {
    passes = subst (AllPassAt D) (sym (nothing-asked d def.node h)) tt;
    come = record {
      ahead = ahead-same D before behind def walk comes.come (no-syntax before behind def h);
      begun = begun-skip D before behind def walk comes.come (no-fragment def.node h);
      few = few-same;
    };
  }

  -- ---- a syntax that is no fragment

  module _ (name : List ℕ) (b : Body) (is : def.node ≡ Syntax name None b) where
    none-before : alternatives_before name before ≡ []
    none-before =
        parts-none name before
        (once name b before (ap (λ node. list_any (λ (other : Def). declare_same node other.node) before) (sym is) ∙ comes.declared))

    pub whole-count : length (alternatives_before name before) ≡ 0
    whole-count = ap length none-before

    there : IsSyntax D walk.next name (body_of b)
    there = new-there D before behind def walk comes.come name (body_of b) (whole-syntax before behind def name b is)

    pub whole-within : walk.next < length source.bodies
    whole-within = within name (body_of b) there

    pub whole-there : IsSyntax D walk.next name (body_with b (alternatives_before name before ++ (own b ++ [])))
    whole-there = subst (IsSyntax D walk.next name) (sym (whole-body b (alternatives_before name before) none-before)) there

    whole-fragment : (q : List ℕ) → is_fragment q def ≡ false
    whole-fragment q = ap (is_fragment_node q) is

    pub whole-goes : (new : Walk) → new.next ≡ walk.next + 1 → new.begun.entries ≡ walk.begun.entries → (k to : ℕ)
        → BodyPasses D (body_asked d name None (alternatives_before name before) b) k (alternatives_before name before) b to → GoesBy D d new
    whole-goes new next same k to h = record {
      passes = subst (AllPassAt D) (sym (body-asked d name None b is)) h.passes;
      come = record {
        ahead = ap (λ n. drop n D.types) next ∙ new-ahead D before behind def walk comes.come name (body_of b) (whole-syntax before behind def name b is);
        begun = λ q. subst (λ es. IsBegun D (before ++ def ∷ []) behind q (at es q)) (sym same) (begun-skip D before behind def walk comes.come whole-fragment q);
        few = subst (λ n. n ≤ length (before ++ def ∷ [])) (sym next) few-behind;
      };
    }

  -- ---- a fragment

  module _ (name piece : List ℕ) (b : Body) (is : def.node ≡ Syntax name (Some piece) b) where
    pub suits : (has more : Bool) → has_fragment name before ≡ has → more ≡ is_past number (at source.last.entries name)
        → joins d name (Some piece) b ≡ dots_suit has more b
    suits has more one two = λ i. dots_suit (one i) ((comes.behind name ∙ sym two) i) b

    module _ (first : at walk.begun.entries name ≡ None) where
      pub first-has : has_fragment name before ≡ false
      first-has = subst (IsBegun D before (def ∷ behind) name) first (comes.come.begun name)

      none-first : alternatives_before name before ≡ []
      none-first = parts-none name before first-has

      pub first-count : length (alternatives_before name before) ≡ 0
      first-count = ap length none-first

      first-at : IsSyntax D walk.next name (body_with b (own b ++ alternatives_before name behind))
      first-at = new-there D before behind def walk comes.come name (body_with b (own b ++ alternatives_before name behind)) (first-syntax before behind def name piece b is first-has)

      pub first-within : walk.next < length source.bodies
      first-within = within name (body_with b (own b ++ alternatives_before name behind)) first-at

      pub first-there : IsSyntax D walk.next name (body_with b (alternatives_before name before ++ (own b ++ alternatives_before name behind)))
      first-there = subst (λ xs. IsSyntax D walk.next name (body_with b (xs ++ (own b ++ alternatives_before name behind)))) (sym none-first) first-at

      first-begun : (to : ℕ) → BodyPasses D (body_asked d name (Some piece) (alternatives_before name before) b) walk.next (alternatives_before name before) b to
          → has_fragment name behind ≡ true → HasBegun D (before ++ def ∷ []) behind name (record { syntax = walk.next; alternatives = to })
      first-begun to h on =
          let cases : IsCases b = first-cases (has_fragment name behind) b on (ap (λ c. dots_suit c (has_fragment name behind) b) (sym first-has) ∙ h.passes.0) in
          begun-more D before behind def name piece b is walk.next to
          (subst (IsSyntax D walk.next name) (cases-body b (alternatives_before name before ++ (own b ++ alternatives_before name behind)) cases) first-there)
          (cases-advance D walk.next (alternatives_before name before) b to cases h.advances)

      pub first-goes : (new : Walk) (to : ℕ) → new.next ≡ walk.next + 1
          → ((q : List ℕ) → at new.begun.entries q ≡ (if same_name q name then Some (record { syntax = walk.next; alternatives = to }) else at walk.begun.entries q))
          → BodyPasses D (body_asked d name (Some piece) (alternatives_before name before) b) walk.next (alternatives_before name before) b to → GoesBy D d new
      first-goes new to next put h = record {
        passes = subst (AllPassAt D) (sym (body-asked d name (Some piece) b is)) h.passes;
        come = record {
          ahead = ap (λ n. drop n D.types) next
              ∙ new-ahead D before behind def walk comes.come name (body_with b (own b ++ alternatives_before name behind)) (first-syntax before behind def name piece b is first-has);
          begun = begun-put D before behind def name piece b is new.begun.entries walk.begun.entries (record { syntax = walk.next; alternatives = to }) put (first-begun to h) comes.come.begun;
          few = subst (λ n. n ≤ length (before ++ def ∷ [])) (sym next) few-behind;
        };
      }

    module _ (k : Begun) (later : at walk.begun.entries name ≡ Some k) where
      kept : IsBegun D before (def ∷ behind) name (Some k)
      kept = subst (IsBegun D before (def ∷ behind) name) later (comes.come.begun name)

      pub later-has : has_fragment name before ≡ true
      later-has = kept.0

      begun : HasBegun D before (def ∷ behind) name k
      begun = begun-there D before behind def name piece b is k kept

      pub later-count : length (alternatives_before name before) ≡ k.alternatives
      later-count = begun.been.count

      at-variant : IsSyntax D k.syntax name (body.Variant (alternatives_before name before ++ (own b ++ alternatives_before name behind)))
      at-variant = begun-parts D before behind def name piece b is k begun

      pub later-within : k.syntax < length source.bodies
      later-within = subst (λ ts. k.syntax < length ts) (sym comes.syntaxes) (slice_get_within D.types k.syntax _ at-variant)

      pub later-been : FindsAt source.bodies k.syntax 0 k.alternatives None
      later-been = subst (λ ts. FindsAt ts k.syntax 0 k.alternatives None) (sym comes.syntaxes) begun.been.asked

      pub later-there : (more : Bool) → dots_suit true more b ≡ true → IsSyntax D k.syntax name (body_with b (alternatives_before name before ++ (own b ++ alternatives_before name behind)))
      later-there more on =
          subst (IsSyntax D k.syntax name) (sym (cases-body b (alternatives_before name before ++ (own b ++ alternatives_before name behind)) (later-cases more b on))) at-variant

      later-begun : (to : ℕ) → BodyPasses D (body_asked d name (Some piece) (alternatives_before name before) b) k.syntax (alternatives_before name before) b to
          → HasBegun D (before ++ def ∷ []) behind name (record { syntax = k.syntax; alternatives = to })
      later-begun to h =
          let cases : IsCases b = later-cases (has_fragment name behind) b (ap (λ c. dots_suit c (has_fragment name behind) b) (sym later-has) ∙ h.passes.0) in
          begun-more D before behind def name piece b is k.syntax to at-variant (cases-advance D k.syntax (alternatives_before name before) b to cases h.advances)

      pub later-goes : (new : Walk) (to : ℕ) → new.next ≡ walk.next
          → ((q : List ℕ) → at new.begun.entries q ≡ (if same_name q name then Some (record { syntax = k.syntax; alternatives = to }) else at walk.begun.entries q))
          → BodyPasses D (body_asked d name (Some piece) (alternatives_before name before) b) k.syntax (alternatives_before name before) b to → GoesBy D d new
      later-goes new to next put h = record {
        passes = subst (AllPassAt D) (sym (body-asked d name (Some piece) b is)) h.passes;
        come = record {
          ahead = ap (λ n. drop n D.types) next ∙ ahead-same D before behind def walk comes.come (later-syntax before behind def name piece b is later-has);
          begun = begun-put D before behind def name piece b is new.begun.entries walk.begun.entries (record { syntax = k.syntax; alternatives = to }) put (λ on. later-begun to h) comes.come.begun;
          few = subst (λ n. n ≤ length (before ++ def ∷ [])) (sym next) few-same;
        };
      }
