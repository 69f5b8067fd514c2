-- No question is without an answer.
use Rattle.std.proofs.Common.{◌≡◌, refl, sym, ◌∙◌, ap, subst, ℕ, zero, suc, ◌<◌, ◌≤◌, List, [], ◌∷◌, ◌++◌, map, Bool, true, false, arith}
use Rattle.std.specs.Prelude.{Option, Some, None, if◌then◌else◌}
use Rattle.std.specs.List.{AllByRecursion}
use Rattle.std.specs.Option.{option_map}
use Rattle.st_num.specs.Names.{same_name, is_among}
use Rattle.st_num.specs.declared.span.Span.{Span}
use Rattle.st_el.specs.declared.expression.Exp.{Exp}
use Rattle.st_el.specs.declared.expression.Node.{Node}
use Rattle.st_el.specs.declared.expression.Count.{Count}
use Rattle.st_el.specs.declared.expression.Count.TheOpen.{Node-F}
use Rattle.st_el.specs.declared.expression.Seg.{Seg}
use Rattle.st_il.specs.declared.ty.Ty.{Ty, out-Ty}
use Rattle.st_il.specs.declared.ty.Ty.TheOpen.{Ty-F}
use Rattle.st_il.specs.declared.definition.SyntaxDef.{SyntaxDef}
use Rattle.st_il.specs.declared.definition.SyntaxBody.{SyntaxBody}
use Rattle.st_il.specs.declared.definition.Alternative.{Alternative}
use Rattle.st_il.specs.declared.expression.IlExp.TheVariants as il
use Rattle.st_type_table.specs.Meaning.{body_of, named_at, listed, Means}
use Rattle.st_type_table.proofs.MeansLemmas.{Means-single}
use Rattle.st_dims.specs.declared.within.Within.{Within}
use Rattle.st_notation.specs.declared.filled.Shape.{Shape}
use Rattle.st_notation.specs.Elements.{opened}
use Rattle.st_notation.specs.Fits.{Filling, one, run, missing}
use Rattle.st_elab_table.specs.declared.decls.Decls.{Decls}
use Rattle.st_elab_table.specs.declared.decls.Scope.{Scope}
use Rattle.st_elab_table.specs.Forms.{place}
use Rattle.st_elab_table.specs.Questions.{Manner, Question, check, infer, item, hole, Made, Answer, Gives, Fails, Chosen, Step, Ends, Asks, Tests, Opens, Fills, asks}
use Rattle.st_elab_table.specs.Steps.{give, holes, holes_behind, is_collection, exps}
use Rattle.st_elab_table.specs.Collections.{other_row}
use Rattle.st_elab_table.specs.Choice.{IsCaseOf}
use Rattle.st_elab_table.specs.Records.{is_omissible, omitted, aligned, filled_fields, passed_on, case_row}
use Rattle.st_elab_table.specs.Elaboration.{row, Holds, Answered, by_row, Leads, ends, goes_on, stops, passes, misses, opens, fills, fits_none}
use Rattle.st_elab_law.specs.Totality.{HasAnswer, EachIsAnswered}
use Rattle.st_elab_law.proofs.AliasesEnd.{AliasesEnd, AliasesEnd-sound}
use Rattle.st_elab_law.proofs.Unpassed.{unpassed, unpassed-fewer}
use Rattle.st_elab_law.proofs.AsksOnly.{AsksOnly, IsAskable, AllAskable, FieldsAskable, PartsAskable, only_asks, only_inferred_row, only_item, only_run_at, AskableAlone, only_other, only_plain, only_checked}
use Rattle.st_elab_law.proofs.Sizes.{size, AllBelow, elements-below, parts-askable}
use Rattle.st_elab_law.proofs.FillingSizes.{FillsBelow, FitsWhole-below}

-- what has cases and is a name is declared
declared-case : (defs : List SyntaxDef) (t u : Ty) (v : List ℕ) (o : Option SyntaxBody) (alternatives : List Alternative) → named_at defs (out-Ty u) ≡ o → listed o ≡ Some alternatives → out-Ty u ≡ Ty-F.Name v
    → (b : SyntaxBody) × (body_of defs v ≡ Some b)
declared-case defs t u v None alternatives is has name = absurd (cc)
declared-case defs t u v (Some b) alternatives is has name = (b, sym (ap (named_at defs) name) ∙ is)

-- ---- steps lead somewhere

module _ (D : Decls) (S : Scope) (ending : AliasesEnd D.types) where
  abbrev Somewhere : Step → Type 0
  Somewhere s = ((a : Answer) → Leads D S s a → ⊥) → ⊥

  leads : (s : Step) → AsksOnly D (HasAnswer D S) s → Somewhere s
  leads (Ends a) h none = none a ends
  leads (Asks q next) h none = h.0 (by (λ m. leads (next m) (h.1 m)) none)
    where
      by : ((m : Made) → Somewhere (next m)) → ((a : Answer) → Leads D S (Asks q next) a → ⊥) → (a : Answer) → Answered D S q a → ⊥
      by go none (Gives m) k = go m (λ a l. none a (goes_on m k l))
      by go none (Fails b) k = none (Fails b) (stops b k)
  leads (Tests c first second) h none =
      let holds : Holds D c → ⊥ = λ k. leads first (h.0 k) (λ a l. none a (passes k l)) in
      leads second (h.1 holds) (λ a l. none a (misses holds l))
  leads (Opens t next) h none = let m = ending t in leads (next m.0) (h m.0 m.1) (λ a l. none a (opens m.0 m.1 l))
  leads (Fills t e next unfit) h none =
      let no : (c : Chosen) → IsCaseOf D.types t e c → ⊥ = λ c k. leads (next c) (h.0 c k) (λ a l. none a (fills c k l)) in
      leads unfit (h.1 no) (λ a l. none a (fits_none no l))

  -- a question has an answer where those that its row asks have
  answered : (q : Question) → AsksOnly D (HasAnswer D S) (row D S q) → HasAnswer D S q
  answered q h none = leads (row D S q) h (λ a l. none a (by_row l))

  abbrev Askable : Exp → Type 0
  Askable = IsAskable (HasAnswer D S)

  -- ---- items and holes

  items-answered : (w : Within) (t x : Ty) (es : List Exp) → AllAskable (HasAnswer D S) es → AllByRecursion (HasAnswer D S) (map (item w t x) es)
  items-answered w t x [] g = tt
  items-answered w t x (e ∷ es) g = (answered (item w t x e) (only_item D (HasAnswer D S) w t x e g.0), items-answered w t x es g.1)

  -- an expression in a hole is asked at each type, where it is being asked at these variants
  abbrev InHole : List (List ℕ) → Exp → Type 0
  InHole passed e = (w : Within) (at : Span) (inside : Bool) (t : Ty) → HasAnswer D S (check w at (record { in_parentheses = inside; passed = passed }) e t)

  abbrev FillingAskable : List (List ℕ) → Filling → Type 0
  FillingAskable passed (one e) = InHole passed e
  FillingAskable passed (run []) = Unit {0}
  FillingAskable passed (run (e ∷ [])) = InHole passed e
  FillingAskable passed (run (e ∷ f ∷ es)) = AllAskable (HasAnswer D S) (e ∷ f ∷ es)
  FillingAskable passed missing = Unit {0}

  hole-answered : (w : Within) (at : Span) (passed : List (List ℕ)) (f : Filling) (t : Ty) → FillingAskable passed f → HasAnswer D S (hole w at passed f t)
  hole-answered w at passed (one e) t g = answered (hole w at passed (one e) t) (g w (place e) false t, λ m. tt)
  hole-answered w at passed (run []) t g = answered (hole w at passed (run []) t) tt
  hole-answered w at passed (run (e ∷ [])) t g = answered (hole w at passed (run (e ∷ [])) t) (g w (place e) true t, λ m. tt)
  hole-answered w at passed (run (e ∷ f ∷ es)) t g =
      answered (hole w at passed (run (e ∷ f ∷ es)) t) (λ u _. only_run_at D (HasAnswer D S) w at (e ∷ f ∷ es) t (out-Ty u) (λ x. items-answered w t x (e ∷ f ∷ es) g))
  hole-answered w at passed missing t g = answered (hole w at passed missing t) tt

  holes-answered : (w : Within) (at : Span) (passed : List (List ℕ)) (fs : List Filling) (ts : List Ty) → AllByRecursion (FillingAskable passed) fs → AllByRecursion (HasAnswer D S) (holes_behind w at passed fs ts)
  holes-answered w at passed [] ts g = tt
  holes-answered w at passed (f ∷ fs) [] g = tt
  holes-answered w at passed (f ∷ fs) (t ∷ ts) g = (hole-answered w at passed f t g.0, holes-answered w at passed fs ts g.1)

  -- ---- fields

  in-hole : (passed : List (List ℕ)) (e : Exp) → Askable e → InHole passed e
  in-hole passed e g = λ w at inside t. g.checked w at (record { in_parentheses = inside; passed = passed }) t

  abbrev FieldsFilled : Option (List Filling) → Type 0
  FieldsFilled None = Unit {0}
  FieldsFilled (Some fs) = AllByRecursion (FillingAskable []) fs

  omitted-askable : (s : Shape) (o : Option (List Filling)) → FieldsFilled o → FieldsFilled (omitted s o)
  omitted-askable s o g = by (is_omissible s) o g
    where
      by : (b : Bool) (o : Option (List Filling)) → FieldsFilled o → FieldsFilled (if b then option_map (λ (fs : List Filling). missing ∷ fs) o else None)
      by false o g = tt
      by true None g = tt
      by true (Some fs) g = (tt, g)

  given-askable : (e : Exp) (o : Option (List Filling)) → Askable e → FieldsFilled o → FieldsFilled (option_map (λ (fs : List Filling). one e ∷ fs) o)
  given-askable e None k g = tt
  given-askable e (Some fs) k g = (in-hole [] e k, g)

  aligned-askable : (names : List (List ℕ)) (ss : List Shape) (given : List (List ℕ × Exp)) → FieldsAskable (HasAnswer D S) given → FieldsFilled (aligned names ss given)
  aligned-askable [] ss [] g = tt
  aligned-askable [] ss (f ∷ given) g = tt
  aligned-askable (name ∷ names) [] given g = tt
  aligned-askable (name ∷ names) (s ∷ ss) [] g = omitted-askable s (aligned names ss []) (aligned-askable names ss [] g)
  aligned-askable (name ∷ names) (s ∷ ss) (f ∷ given) g = by (same_name name f.0) (aligned-askable names ss given g.1) (aligned-askable names ss (f ∷ given) g)
    where
      by : (b : Bool) → FieldsFilled (aligned names ss given) → FieldsFilled (aligned names ss (f ∷ given))
          → FieldsFilled (if b then option_map (λ (fs : List Filling). one f.1 ∷ fs) (aligned names ss given) else omitted s (aligned names ss (f ∷ given)))
      by true k l = given-askable f.1 (aligned names ss given) g.0 k
      by false k l = omitted-askable s (aligned names ss (f ∷ given)) l

  fields-asked : (w : Within) (at : Span) (name : List ℕ) (ts : List Ty) (t : Ty) (o : Option (List Filling)) → FieldsFilled o → AsksOnly D (HasAnswer D S) (filled_fields w at name ts t o)
  fields-asked w at name ts t None g = tt
  fields-asked w at name ts t (Some fs) g = only_asks D (HasAnswer D S) (holes w at fs ts) (λ ms. give (il.Fields name (exps ms)) t) (holes-answered w at [] fs ts g) (λ ms. tt)

  -- ---- expressions of a size

  module _ (n : ℕ) (small : (x : Exp) → size x < n → Askable x) where
    abbrev parts-of : (e : Exp) (y : Node-F Count Node Seg Exp) → opened e ≡ y → size e ≤ n → PartsAskable (HasAnswer D S) y
    parts-of = parts-askable (HasAnswer D S) n small

    found-answered : (e : Exp) → size e ≤ n → (w : Within) (at : Span) → HasAnswer D S (infer w at e)
    found-answered e h w at = answered (infer w at e) (only_inferred_row D (HasAnswer D S) S w at e (opened e) (parts-of e (opened e) refl h))

    below-askable : (m : ℕ) (es : List Exp) → m ≤ n → AllBelow m es → AllAskable (HasAnswer D S) es
    below-askable m [] l h = tt
    below-askable m (e ∷ es) l h = (let k : size e < m = h.0 in small e (omega (arith, k, l)), below-askable m es l h.1)

    -- the questions with so few variants that are not passed have answers
    abbrev Answers : ℕ → Type 0
    Answers r = (e : Exp) → size e ≤ n → (w : Within) (at : Span) (p : Manner) (t : Ty) → unpassed D.types p.passed < r → HasAnswer D S (check w at p e t)

    module _ (r : ℕ) (again : Answers r) (e : Exp) (h : size e ≤ n) (w : Within) (at : Span) (p : Manner) (less : unpassed D.types p.passed < suc r) where
      filling-askable : (whole : Bool) (variant : List ℕ) (b : SyntaxBody) (f : Filling) → body_of D.types variant ≡ Some b → is_among variant p.passed ≡ false
          → FillsBelow whole (size e) f → FillingAskable (passed_on whole p.passed variant) f
      filling-askable true variant b (one x) is fresh k = λ w at inside t.
          let fewer = unpassed-fewer D.types p.passed variant b is fresh in
          again x (omega (arith, h, k)) w at (record { in_parentheses = inside; passed = p.passed ++ variant ∷ [] }) t (omega (arith, fewer, less))
      filling-askable true variant b (run []) is fresh k = tt
      filling-askable true variant b (run (x ∷ [])) is fresh k = λ w at inside t.
          let fewer = unpassed-fewer D.types p.passed variant b is fresh in
          again x (omega (arith, h, k)) w at (record { in_parentheses = inside; passed = p.passed ++ variant ∷ [] }) t (omega (arith, fewer, less))
      filling-askable true variant b (run (x ∷ y ∷ xs)) is fresh k = below-askable (size e) (x ∷ y ∷ xs) h k
      filling-askable true variant b missing is fresh k = tt
      filling-askable false variant b (one x) is fresh k = in-hole [] x (small x (omega (arith, h, k)))
      filling-askable false variant b (run []) is fresh k = tt
      filling-askable false variant b (run (x ∷ [])) is fresh k = in-hole [] x (small x (omega (arith, h, k)))
      filling-askable false variant b (run (x ∷ y ∷ xs)) is fresh k = below-askable (size e) (x ∷ y ∷ xs) h k
      filling-askable false variant b missing is fresh k = tt

      fillings-askable : (whole : Bool) (variant : List ℕ) (b : SyntaxBody) (fs : List Filling) → body_of D.types variant ≡ Some b → is_among variant p.passed ≡ false
          → AllByRecursion (FillsBelow whole (size e)) fs → AllByRecursion (FillingAskable (passed_on whole p.passed variant)) fs
      fillings-askable whole variant b [] is fresh k = tt
      fillings-askable whole variant b (f ∷ fs) is fresh k = (filling-askable whole variant b f is fresh k.0, fillings-askable whole variant b fs is fresh k.1)

      case-asked : (t u : Ty) (variant : List ℕ) → Means D.types t u → out-Ty u ≡ Ty-F.Name variant → is_among variant p.passed ≡ false → AsksOnly D (HasAnswer D S) (case_row w at p.passed e t variant)
      case-asked t u variant means name fresh = (of_case, λ _. tt)
        where
          of_case : (c : Chosen) → IsCaseOf D.types t e c
              → AsksOnly D (HasAnswer D S) (asks (holes_behind w at (passed_on c.whole p.passed variant) c.fillings c.operands) (λ ms. give (il.Case c.name c.tag (exps ms)) t))
          of_case c k =
              let same : k.has.variant ≡ u = Means-single D.types t k.has.variant u k.has.means means in
              let found = declared-case D.types t u variant (named_at D.types (out-Ty u)) k.has.alternatives refl (ap (λ z. listed (named_at D.types (out-Ty z))) (sym same) ∙ k.has.declared) name in
              let below = FitsWhole-below k.filled.template k.filled.shapes e c.fillings k.filled.fits in
              only_asks D (HasAnswer D S) (holes_behind w at (passed_on c.whole p.passed variant) c.fillings c.operands) (λ ms. give (il.Case c.name c.tag (exps ms)) t)
              (holes-answered w at (passed_on c.whole p.passed variant) c.fillings c.operands
              (fillings-askable c.whole variant found.0 c.fillings found.1 fresh (subst (λ z. AllByRecursion (FillsBelow z (size e)) c.fillings) (sym k.whole) below)))
              (λ ms. tt)

      asked-at : (t : Ty) → ((u : Ty) → Means D.types t u → AsksOnly D (HasAnswer D S) (other_row w at p e t (out-Ty u))) → HasAnswer D S (check w at p e t)
      asked-at t others =
          answered (check w at p e t)
          (only_checked D (HasAnswer D S) S w at p e t
          (record {
            parts = λ y is. parts-of e y is h;
            own = found-answered e h w at;
            items = λ es is x. items-answered w t x es (below-askable (size e) es h (elements-below e es is));
            others = others;
            fields = λ fs is name declared ss.
                fields-asked w at name (map (λ (f : List ℕ × Ty). f.1) declared) t (aligned (map (λ (f : List ℕ × Ty). f.0) declared) ss fs)
                (aligned-askable (map (λ (f : List ℕ × Ty). f.0) declared) ss fs (parts-of e (Node-F.Fields fs) is h));
            cases = λ u variant means name fresh. case-asked t u variant means name fresh;
          }) (opened e) refl)

      alone : AskableAlone D (HasAnswer D S) w at p e
      alone x v means plain = asked-at x (λ u other.
          let same : v ≡ u = Means-single D.types x v u means other in
          only_plain D (HasAnswer D S) w at p e x u (ap is_collection (sym same) ∙ plain))

      at-any : (t : Ty) → HasAnswer D S (check w at p e t)
      at-any t = asked-at t (λ u means. only_other D (HasAnswer D S) w at p e t (out-Ty u) alone)

    with-passed : (r : ℕ) → Answers r
    with-passed zero e h w at p t less = absurd (omega (arith, less))
    with-passed (suc r) e h w at p t less = at-any r (with-passed r) e h w at p less t

    askable-here : (e : Exp) → size e ≤ n → Askable e
    askable-here e h = record {
      checked = λ w at p t. with-passed (suc (unpassed D.types p.passed)) e h w at p t (omega arith);
      found = λ w at. found-answered e h w at;
    }

  askable-of : (n : ℕ) (e : Exp) → size e < n → Askable e
  askable-of zero e h = absurd (omega (arith, h))
  askable-of (suc n) e h = askable-here n (askable-of n) e (omega (arith, h))

  askable : (e : Exp) → Askable e
  askable e = askable-of (suc (size e)) e (omega arith)

  all-of : (es : List Exp) → AllAskable (HasAnswer D S) es
  all-of [] = tt
  all-of (e ∷ es) = (askable e, all-of es)

  any-filling : (passed : List (List ℕ)) (f : Filling) → FillingAskable passed f
  any-filling passed (one e) = in-hole passed e (askable e)
  any-filling passed (run []) = tt
  any-filling passed (run (e ∷ [])) = in-hole passed e (askable e)
  any-filling passed (run (e ∷ f ∷ es)) = all-of (e ∷ f ∷ es)
  any-filling passed missing = tt

  question-answered : (q : Question) → HasAnswer D S q
  question-answered (check w at p e t) = (askable e).checked w at p t
  question-answered (infer w at e) = (askable e).found w at
  question-answered (item w t x e) = answered (item w t x e) (only_item D (HasAnswer D S) w t x e (askable e))
  question-answered (hole w at passed f t) = hole-answered w at passed f t (any-filling passed f)

pub each-answered : EachIsAnswered
each-answered D S sound q = question-answered D S (AliasesEnd-sound D.types sound) q
