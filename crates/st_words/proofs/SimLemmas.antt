-- A parse by `clap` of the words behind a name finds their arrangement, or fails.
use Rattle.std.proofs.Common.{◌≡◌, ◌∙◌, refl, sym, ap, subst, Bool, true, false, ◌&&◌, ℕ, List, [], ◌∷◌, ◌++◌, Option, Some, None, codes, true≢false, append_assoc}
use Rattle.std.specs.Prelude.{fold, ⊤, ◌==◌, if◌then◌else◌}
use Rattle.std.specs.List.{AllByRecursion as All}
use Rattle.std.specs.Str.{bytes_eq, IsUtf8}
use Rattle.std.specs.Cmp.Lexicographic.{bytes_decides}
use Rattle.std.proofs.lemmas.List.{append-nil}
use Rattle.clap.specs.Walk.{Held, Text, Waiting, Walk, idle, option, positional, arg_by_long, pushed, reacted, settled, walked}
use Rattle.clap.specs.Faults.{settle_fault}
use Rattle.clap.specs.Kinds.{Kinds, or_else}
use Rattle.st_words.specs.declared.arrangement.Arrangement.{Arrangement}
use Rattle.st_words.specs.Arranged.{begins_with_dash, is_dashed}
use Rattle.st_words.specs.inner.Fronts.{with_plain, with_fuel, with_depth, prepended, arranged, dash_value_from, is_dash, names_option}
use Rattle.st_words.proofs.FrontsLemmas.{Kind, is_plain, is_double_dash, is_fuel, is_depth, is_fuel_joined, is_depth_joined, is_unknown, kind, arranged-plain, arranged-end, arranged-fuel, arranged-depth, arranged-fuel_joined, arranged-depth_joined, prepended-fuel, prepended-depth, prepended-all, prepended-none}
use Rattle.st_words.proofs.DashLemmas.{dash_value-first, dash_value-there, dash_value-other}
use Rattle.st_words.proofs.DashedLemmas.{Dashed, double, long, short, dashed_is, plain_is, spelled}
use Rattle.st_words.proofs.RowsLemmas.{row_if}
use Rattle.st_words.proofs.LeafLemmas.{option_built, rules, found_now, at, is_free, Good, or_else-parts, or_else-nil, total, turn, total-step, total-fault, total-nil, plain-walked, plain-turn, behind-walked, behind-turn, end-walked, end-turn, long-unknown, short-unknown}
use Rattle.st_words.proofs.OptionsWalked.{waiting_held, fuel_joined-walked, fuel_joined-turn, depth_joined-walked, depth_joined-turn, fuel-walked, fuel-turn, depth-walked, depth-turn, fuel_value-walked, fuel_value-turn, depth_value-walked, depth_value-turn, fuel-settles, depth-settles, repeat-none, repeat-some, known, good-plain, good-fuel, good-depth}

-- ---- which arrangements a command takes

abbrev pub at_most_one : List Text → Bool
at_most_one [] = true
at_most_one (value ∷ []) = true
at_most_one (value ∷ other ∷ values) = false

abbrev pub is_none : List Text → Bool
is_none [] = true
is_none (value ∷ values) = false

-- each option at most once, or no option
abbrev pub allowed : Bool → Arrangement → Bool
allowed options given =
    if options then at_most_one given.fuels && at_most_one given.depths
    else is_none given.fuels && is_none given.depths

abbrev pub Refused : Bool → Option Arrangement → Type 0
Refused options None = ⊤
Refused options (Some given) = allowed options given ≡ false

-- what is wrong with words, and what is found of them, go by their arrangement
abbrev pub Tells : Bool → Kinds → Held → Option Arrangement → Type 0
Tells options wrong end None = wrong ≡ [] → ⊥
Tells options wrong end (Some given) = (allowed options given ≡ true → (wrong ≡ []) × Good options end given) × (allowed options given ≡ false → wrong ≡ [] → ⊥)

joined-quiet : (a b : Kinds) → a ≡ [] → b ≡ [] → or_else (or_else a (or_else b [])) [] ≡ []
joined-quiet a b first second = rw (first, second) refl

tells-refused : (options : Bool) (wrong : Kinds) (end : Held) (found : Option Arrangement) → Refused options found → (wrong ≡ [] → ⊥) → Tells options wrong end found
tells-refused options wrong end None refused fails = fails
tells-refused options wrong end (Some given) refused fails = (λ fine. absurd (true≢false (sym fine ∙ refused)), λ _. fails)

and-right : (a b : Bool) → b ≡ false → (a && b) ≡ false
and-right true b is = is
and-right false b is = refl

and-both : (a b c d : Bool) → (a ≡ false → c ≡ false) → (b ≡ false → d ≡ false) → (a && b) ≡ false → (c && d) ≡ false
and-both true b c d left right is = and-right c d (right is)
and-both false b c d left right is = rw (left refl) refl

most-more : (xs ys : List Text) → at_most_one xs ≡ false → at_most_one (xs ++ ys) ≡ false
most-more [] ys is = absurd (cc is)
most-more (x ∷ []) ys is = absurd (cc is)
most-more (x ∷ y ∷ xs) ys is = refl

none-more : (xs ys : List Text) → is_none xs ≡ false → is_none (xs ++ ys) ≡ false
none-more [] ys is = absurd (cc is)
none-more (x ∷ xs) ys is = refl

refused-more : (options : Bool) (given : Arrangement) (rest : Option Arrangement) → allowed options given ≡ false → Refused options (prepended given rest)
refused-more options given None is = tt
refused-more true given (Some rest) is = and-both _ _ _ _ (most-more given.fuels rest.fuels) (most-more given.depths rest.depths) is
refused-more false given (Some rest) is = and-both _ _ _ _ (none-more given.fuels rest.fuels) (none-more given.depths rest.depths) is

none-there : (xs : List Text) (value : Text) → is_none (xs ++ value ∷ []) ≡ false
none-there [] value = refl
none-there (x ∷ xs) value = refl

twice : (first value : Text) (xs : List Text) → at_most_one ((first ∷ xs) ++ value ∷ []) ≡ false
twice first value [] = refl
twice first value (x ∷ xs) = refl

fuel-fine : (given : Arrangement) (value : Text) → given.fuels ≡ [] → allowed true given ≡ true → allowed true (record given { fuels = given.fuels ++ value ∷ [] }) ≡ true
fuel-fine given value is fine =
    ap (λ fs. at_most_one (fs ++ value ∷ []) && at_most_one given.depths) is ∙ ap (λ fs. at_most_one fs && at_most_one given.depths) (sym is) ∙ fine

depth-fine : (given : Arrangement) (value : Text) → given.depths ≡ [] → allowed true given ≡ true → allowed true (record given { depths = given.depths ++ value ∷ [] }) ≡ true
depth-fine given value is fine =
    ap (λ ds. at_most_one given.fuels && at_most_one (ds ++ value ∷ [])) is ∙ ap (λ ds. at_most_one given.fuels && at_most_one ds) (sym is) ∙ fine

fuel-over : (given : Arrangement) (value : Text) → at_most_one (given.fuels ++ value ∷ []) ≡ false → allowed true (record given { fuels = given.fuels ++ value ∷ [] }) ≡ false
fuel-over given value over = ap (λ b. b && at_most_one given.depths) over

depth-over : (given : Arrangement) (value : Text) → at_most_one (given.depths ++ value ∷ []) ≡ false → allowed true (record given { depths = given.depths ++ value ∷ [] }) ≡ false
depth-over given value over = and-right (at_most_one given.fuels) _ over

fuel-lacks : (given : Arrangement) (value : Text) → allowed false (record given { fuels = given.fuels ++ value ∷ [] }) ≡ false
fuel-lacks given value = ap (λ b. b && is_none given.depths) (none-there given.fuels value)

depth-lacks : (given : Arrangement) (value : Text) → allowed false (record given { depths = given.depths ++ value ∷ [] }) ≡ false
depth-lacks given value = and-right (is_none given.fuels) _ (none-there given.depths value)

none-mid : (xs : List Text) (value : Text) (ys : List Text) → is_none (xs ++ value ∷ ys) ≡ false
none-mid [] value ys = refl
none-mid (x ∷ xs) value ys = refl

none-fuel : (given rest : Arrangement) (value : Text) → Refused false (prepended given (with_fuel value (Some rest)))
none-fuel given rest value = ap (λ b. b && is_none (given.depths ++ rest.depths)) (none-mid given.fuels value rest.fuels)

none-depth : (given rest : Arrangement) (value : Text) → Refused false (prepended given (with_depth value (Some rest)))
none-depth given rest value = and-right (is_none (given.fuels ++ rest.fuels)) _ (none-mid given.depths value rest.depths)

prepended-plain : (given : Arrangement) (word : List ℕ) (rest : Option Arrangement)
    → prepended (record given { plain = given.plain ++ word ∷ [] }) rest ≡ prepended given (with_plain word rest)
prepended-plain given word (Some rest) = simp append_assoc
prepended-plain given word None = refl

-- ---- the words that follow

pub names_none : (word : List ℕ) → is_dashed word ≡ false → names_option word ≡ false
names_none [] none = refl
names_none (a ∷ []) none = by (a == 45) refl
  where
    by : (b : Bool) → (a == 45) ≡ b → names_option (a ∷ []) ≡ false
    by true is = rw is refl
    by false is = rw is refl
names_none (a ∷ b ∷ rest) none = rw none refl

no_dash_no : (word : List ℕ) → is_dashed word ≡ false → is_dash word ≡ false → begins_with_dash word ≡ false
no_dash_no [] none no_dash = refl
no_dash_no (a ∷ []) none no_dash = by (a == 45) refl
  where
    by : (b : Bool) → (a == 45) ≡ b → begins_with_dash (a ∷ []) ≡ false
    by true is = absurd (cc (rw is at no_dash))
    by false is = is
no_dash_no (a ∷ b ∷ rest) none no_dash = none

dashed_begins : (word : List ℕ) → is_dashed word ≡ true → begins_with_dash word ≡ true
dashed_begins [] is = absurd (cc is)
dashed_begins (a ∷ []) is = absurd (cc is)
dashed_begins (a ∷ b ∷ rest) is = is

module _ (name : Text) where
  abbrev pub end_of : Bool → Walk → List Text → Held
  end_of options w words = (fold (walked (rules options) []) w words).held

  tells-step : (options : Bool) (w after : Walk) (word : Text) (words : List Text) (found : Option Arrangement)
      → walked (rules options) [] w word ≡ after → turn name options w word ≡ []
      → Tells options (total name options after words) (end_of options after words) found
      → Tells options (total name options w (word ∷ words)) (end_of options w (word ∷ words)) found
  tells-step options w after word words found is quiet told =
      let same = total-step name options w after word words is quiet in
      let end : end_of options w (word ∷ words) ≡ end_of options after words = ap (λ v. end_of options v words) is in
      subst (λ k. Tells options k (end_of options w (word ∷ words)) found) (sym same)
      (subst (λ e. Tells options (total name options after words) e found) (sym end) told)

  -- behind `--`
  tells-behind : (options : Bool) (words : List Text) (h : Held) (waiting : Waiting) (given : Arrangement) → Good options h given → allowed options given ≡ true
      → Tells options (total name options (at h waiting true) words) (end_of options (at h waiting true) words) (Some (record given { plain = given.plain ++ words }))
  tells-behind options [] h waiting given good fine = (
    λ fine_now. (total-nil name options (at h waiting true) ∙ good.quiet, subst (λ ps. Good options h (record given { plain = ps })) (sym (append-nil given.plain)) good),
    λ over. absurd (true≢false (sym fine ∙ over)),
  )
  tells-behind options (word ∷ words) h waiting given good fine =
      tells-step options (at h waiting true) _ word words (Some (record given { plain = given.plain ++ word ∷ words })) (behind-walked name options h waiting word) (behind-turn name options h waiting word ∙ good.quiet)
      (subst (λ ps. Tells options (total name options (at (pushed (codes "words") word (settled (rules options) h)) positional true) words) (end_of options (at (pushed (codes "words") word (settled (rules options) h)) positional true) words) (Some (record given { plain = ps })))
      (append_assoc given.plain (word ∷ []) words)
      (tells-behind options words (pushed (codes "words") word (settled (rules options) h)) positional (record given { plain = given.plain ++ word ∷ [] }) (good-plain options h word given good) fine))

  -- what is wrong stays wrong
  wrong-behind : (options : Bool) (h : Held) (waiting : Waiting) (words : List Text) → (settle_fault (rules options) false h ≡ [] → ⊥) → total name options (at h waiting true) words ≡ [] → ⊥
  wrong-behind options h waiting [] wrong quiet = wrong (sym (total-nil name options (at h waiting true)) ∙ quiet)
  wrong-behind options h waiting (word ∷ words) wrong quiet = total-fault name options (at h waiting true) word words (λ q. wrong (sym (behind-turn name options h waiting word) ∙ q)) quiet

  wrong-dashed : (h : Held) (waiting : Waiting) (word : Text) (words : List Text) → (settle_fault (rules true) false h ≡ [] → ⊥) → h.skip ≡ 0 → IsUtf8 word → Dashed word
      → total name true (at h waiting false) (word ∷ words) ≡ [] → ⊥
  wrong-dashed h waiting word words wrong skip utf8 (double is) quiet =
      let now : total name true (at h waiting false) (codes "--" ∷ words) ≡ [] = ap (λ w. total name true (at h waiting false) (w ∷ words)) (sym is) ∙ quiet in
      wrong-behind true h waiting words wrong (sym (total-step name true (at h waiting false) (at h waiting true) (codes "--") words (end-walked name true h waiting) (end-turn name true h waiting)) ∙ now)
  wrong-dashed h waiting word words wrong skip utf8 (long id value no_end is _) quiet =
      by (bytes_eq (codes "fuel") id) refl (bytes_eq (codes "depth") id) refl
    where
      by : (fuel : Bool) → bytes_eq (codes "fuel") id ≡ fuel → (depth : Bool) → bytes_eq (codes "depth") id ≡ depth → ⊥
      by true so _ _ =
          let id_is = sym ((bytes_decides (codes "fuel") id).0 so) in
          total-fault name true (at h waiting false) word words (λ q. wrong (fuel-settles name h waiting word value no_end (is ∙ ap (λ i. Some (i, value)) id_is) q)) quiet
      by false _ true so =
          let id_is = sym ((bytes_decides (codes "depth") id).0 so) in
          total-fault name true (at h waiting false) word words (λ q. wrong (depth-settles name h waiting word value no_end (is ∙ ap (λ i. Some (i, value)) id_is) q)) quiet
      by false no_fuel false no_depth =
          total-fault name true (at h waiting false) word words (long-unknown name true h waiting word id value no_end is (known id no_fuel no_depth)) quiet
  wrong-dashed h waiting word words wrong skip utf8 (short x xs no_end no_long is word_is) quiet =
      total-fault name true (at h waiting false) word words (short-unknown name true h waiting word x xs skip utf8 word_is no_end no_long is) quiet

  wrong-free : (h : Held) (waiting : Waiting) (words : List Text) → is_free waiting ≡ true → (settle_fault (rules true) false h ≡ [] → ⊥) → h.skip ≡ 0 → All IsUtf8 words
      → total name true (at h waiting false) words ≡ [] → ⊥
  wrong-free h waiting [] free wrong skip utf8 quiet = wrong (sym (total-nil name true (at h waiting false)) ∙ quiet)
  wrong-free h waiting (word ∷ words) free wrong skip utf8 quiet = by (is_dashed word) refl
    where
      by : (b : Bool) → is_dashed word ≡ b → ⊥
      by true is = wrong-dashed h waiting word words wrong skip utf8.0 (dashed_is word is) quiet
      by false none = total-fault name true (at h waiting false) word words (λ q. wrong (sym (plain-turn name true h waiting word free none) ∙ q)) quiet

  -- the words are told rightly wherever a parse comes to them
  abbrev Sim : Bool → List Text → Type 0
  Sim options words = (h : Held) (waiting : Waiting) (given : Arrangement) → is_free waiting ≡ true → Good options h given → allowed options given ≡ true
      → All IsUtf8 words → dash_value_from false words ≡ false
      → Tells options (total name options (at h waiting false) words) (end_of options (at h waiting false) words) (prepended given (arranged words))

  sim-plain : (options : Bool) (word : Text) (words : List Text) → is_dashed word ≡ false → Sim options words → Sim options (word ∷ words)
  sim-plain options word words none all = λ h waiting given free good fine utf8 no_dash.
      let left : dash_value_from false words ≡ false = ap (λ b. dash_value_from b words) (sym (names_none word none)) ∙ sym (dash_value-first word words (plain_is word none).0) ∙ no_dash in
      let found : prepended (record given { plain = given.plain ++ word ∷ [] }) (arranged words) ≡ prepended given (arranged (word ∷ words)) =
      prepended-plain given word (arranged words) ∙ ap (prepended given) (sym (arranged-plain word words none)) in
      subst (Tells options (total name options (at h waiting false) (word ∷ words)) (end_of options (at h waiting false) (word ∷ words))) found
      (tells-step options (at h waiting false) _ word words _ (plain-walked name options h waiting word free none) (plain-turn name options h waiting word free none ∙ good.quiet)
      (all (pushed (codes "words") word (settled (rules options) h)) positional (record given { plain = given.plain ++ word ∷ [] }) refl (good-plain options h word given good) fine utf8.1 left))

  sim-end : (options : Bool) (words : List Text) → Sim options (codes "--" ∷ words)
  sim-end options words = λ h waiting given free good fine utf8 no_dash.
      let found : Some (record given { plain = given.plain ++ words }) ≡ prepended given (arranged (codes "--" ∷ words)) =
      sym (ap (prepended given) (arranged-end words) ∙ prepended-all given words) in
      subst (Tells options (total name options (at h waiting false) (codes "--" ∷ words)) (end_of options (at h waiting false) (codes "--" ∷ words))) found
      (tells-step options (at h waiting false) (at h waiting true) (codes "--") words (Some (record given { plain = given.plain ++ words })) (end-walked name options h waiting) (end-turn name options h waiting)
      (tells-behind options words h waiting given good fine))

  -- the option with its value in one word
  sim-fuel_joined : (options : Bool) (value : Text) (words : List Text) → Sim options words → Sim options ((codes "--fuel=" ++ value) ∷ words)
  sim-fuel_joined options value words all = λ h waiting given free good fine utf8 no_dash.
      let left : dash_value_from false words ≡ false = sym (dash_value-first (codes "--fuel=" ++ value) words refl) ∙ no_dash in
      let found : prepended (record given { fuels = given.fuels ++ value ∷ [] }) (arranged words) ≡ prepended given (arranged ((codes "--fuel=" ++ value) ∷ words)) =
      prepended-fuel given value (arranged words) ∙ ap (prepended given) (sym (arranged-fuel_joined value words)) in
      subst (Tells options (total name options (at h waiting false) ((codes "--fuel=" ++ value) ∷ words)) (end_of options (at h waiting false) ((codes "--fuel=" ++ value) ∷ words))) found
      (by options all h waiting given free good fine utf8.1 left given.fuels refl)
    where
      by : (options : Bool) → Sim options words → (h : Held) (waiting : Waiting) (given : Arrangement) → is_free waiting ≡ true → Good options h given → allowed options given ≡ true
          → All IsUtf8 words → dash_value_from false words ≡ false → (fuels : List Text) → given.fuels ≡ fuels
          → Tells options (total name options (at h waiting false) ((codes "--fuel=" ++ value) ∷ words)) (end_of options (at h waiting false) ((codes "--fuel=" ++ value) ∷ words)) (prepended (record given { fuels = given.fuels ++ value ∷ [] }) (arranged words))
      by false all h waiting given free good fine utf8 left fuels is =
          tells-refused false _ _ _ (refused-more false _ (arranged words) (fuel-lacks given value))
          (total-fault name false (at h waiting false) (codes "--fuel=" ++ value) words (long-unknown name false h waiting (codes "--fuel=" ++ value) (codes "fuel") (Some value) refl refl refl))
      by true all h waiting given free good fine utf8 left [] is =
          let once = repeat-none (codes "fuel") (found_now true h) (good.fuels ∙ ap (row_if (codes "fuel")) is) in
          let quiet : turn name true (at h waiting false) (codes "--fuel=" ++ value) ≡ [] = fuel_joined-turn name h waiting value ∙ joined-quiet _ _ good.quiet once in
          tells-step true (at h waiting false) _ (codes "--fuel=" ++ value) words _ (fuel_joined-walked name h waiting value) quiet
          (all (reacted (rules true) (option_built (codes "fuel")) (value ∷ []) h) idle (record given { fuels = given.fuels ++ value ∷ [] }) refl
          (good-fuel h (reacted (rules true) (option_built (codes "fuel")) (value ∷ []) h) value given good is refl refl refl)
          (fuel-fine given value is fine) utf8 left)
      by true all h waiting given free good fine utf8 left (first ∷ rest) is =
          let again = repeat-some (codes "fuel") first rest (found_now true h) (good.fuels ∙ ap (row_if (codes "fuel")) is) in
          let over : at_most_one (given.fuels ++ value ∷ []) ≡ false = ap (λ fs. at_most_one (fs ++ value ∷ [])) is ∙ twice first value rest in
          tells-refused true _ _ _ (refused-more true _ (arranged words) (fuel-over given value over))
          (total-fault name true (at h waiting false) (codes "--fuel=" ++ value) words
          (λ q. again (or_else-parts _ _ (or_else-parts _ _ (or_else-parts _ _ (sym (fuel_joined-turn name h waiting value) ∙ q)).0).1).0))

  sim-depth_joined : (options : Bool) (value : Text) (words : List Text) → Sim options words → Sim options ((codes "--depth=" ++ value) ∷ words)
  sim-depth_joined options value words all = λ h waiting given free good fine utf8 no_dash.
      let left : dash_value_from false words ≡ false = sym (dash_value-first (codes "--depth=" ++ value) words refl) ∙ no_dash in
      let found : prepended (record given { depths = given.depths ++ value ∷ [] }) (arranged words) ≡ prepended given (arranged ((codes "--depth=" ++ value) ∷ words)) =
      prepended-depth given value (arranged words) ∙ ap (prepended given) (sym (arranged-depth_joined value words)) in
      subst (Tells options (total name options (at h waiting false) ((codes "--depth=" ++ value) ∷ words)) (end_of options (at h waiting false) ((codes "--depth=" ++ value) ∷ words))) found
      (by options all h waiting given free good fine utf8.1 left given.depths refl)
    where
      by : (options : Bool) → Sim options words → (h : Held) (waiting : Waiting) (given : Arrangement) → is_free waiting ≡ true → Good options h given → allowed options given ≡ true
          → All IsUtf8 words → dash_value_from false words ≡ false → (depths : List Text) → given.depths ≡ depths
          → Tells options (total name options (at h waiting false) ((codes "--depth=" ++ value) ∷ words)) (end_of options (at h waiting false) ((codes "--depth=" ++ value) ∷ words)) (prepended (record given { depths = given.depths ++ value ∷ [] }) (arranged words))
      by false all h waiting given free good fine utf8 left depths is =
          tells-refused false _ _ _ (refused-more false _ (arranged words) (depth-lacks given value))
          (total-fault name false (at h waiting false) (codes "--depth=" ++ value) words (long-unknown name false h waiting (codes "--depth=" ++ value) (codes "depth") (Some value) refl refl refl))
      by true all h waiting given free good fine utf8 left [] is =
          let once = repeat-none (codes "depth") (found_now true h) (good.depths ∙ ap (row_if (codes "depth")) is) in
          let quiet : turn name true (at h waiting false) (codes "--depth=" ++ value) ≡ [] = depth_joined-turn name h waiting value ∙ joined-quiet _ _ good.quiet once in
          tells-step true (at h waiting false) _ (codes "--depth=" ++ value) words _ (depth_joined-walked name h waiting value) quiet
          (all (reacted (rules true) (option_built (codes "depth")) (value ∷ []) h) idle (record given { depths = given.depths ++ value ∷ [] }) refl
          (good-depth h (reacted (rules true) (option_built (codes "depth")) (value ∷ []) h) value given good is refl refl refl)
          (depth-fine given value is fine) utf8 left)
      by true all h waiting given free good fine utf8 left (first ∷ rest) is =
          let again = repeat-some (codes "depth") first rest (found_now true h) (good.depths ∙ ap (row_if (codes "depth")) is) in
          let over : at_most_one (given.depths ++ value ∷ []) ≡ false = ap (λ fs. at_most_one (fs ++ value ∷ [])) is ∙ twice first value rest in
          tells-refused true _ _ _ (refused-more true _ (arranged words) (depth-over given value over))
          (total-fault name true (at h waiting false) (codes "--depth=" ++ value) words
          (λ q. again (or_else-parts _ _ (or_else-parts _ _ (or_else-parts _ _ (sym (depth_joined-turn name h waiting value) ∙ q)).0).1).0))

  -- the option with its value in the next word
  sim-fuel : (options : Bool) (words : List Text) → ((value : Text) (left : List Text) → words ≡ value ∷ left → Sim options left) → Sim options (codes "--fuel" ∷ words)
  sim-fuel false [] apart = λ h waiting given free good fine utf8 no_dash.
      total-fault name false (at h waiting false) (codes "--fuel") [] (long-unknown name false h waiting (codes "--fuel") (codes "fuel") None refl refl refl)
  sim-fuel false (value ∷ left) apart = λ h waiting given free good fine utf8 no_dash.
      tells-refused false _ _ _ (by given (begins_with_dash value) (arranged left))
      (total-fault name false (at h waiting false) (codes "--fuel") (value ∷ left) (long-unknown name false h waiting (codes "--fuel") (codes "fuel") None refl refl refl))
    where
      by : (given : Arrangement) (dash : Bool) (rest : Option Arrangement) → Refused false (prepended given (if dash then None else with_fuel value rest))
      by given true rest = tt
      by given false None = tt
      by given false (Some rest) = none-fuel given rest value
  sim-fuel true [] apart = λ h waiting given free good fine utf8 no_dash.
      tells-step true (at h waiting false) (at (waiting_held (codes "fuel") h) (option (codes "fuel")) false) (codes "--fuel") [] None
      (fuel-walked name h waiting) (fuel-turn name h waiting ∙ (or_else-nil _ ∙ good.quiet))
      (λ q. absurd (cc (sym (total-nil name true (at (waiting_held (codes "fuel") h) (option (codes "fuel")) false)) ∙ q)))
  sim-fuel true (value ∷ left) apart = λ h waiting given free good fine utf8 no_dash.
      tells-step true (at h waiting false) (at (waiting_held (codes "fuel") h) (option (codes "fuel")) false) (codes "--fuel") (value ∷ left) _
      (fuel-walked name h waiting) (fuel-turn name h waiting ∙ (or_else-nil _ ∙ good.quiet))
      (by (apart value left refl) h given good fine utf8.1 (sym (dash_value-first (codes "--fuel") (value ∷ left) refl) ∙ no_dash) (is_dashed value) refl (is_dash value) refl given.fuels refl)
    where
      by : Sim true left → (h : Held) (given : Arrangement) → Good true h given → allowed true given ≡ true → All IsUtf8 (value ∷ left) → dash_value_from true (value ∷ left) ≡ false
          → (dashed : Bool) → is_dashed value ≡ dashed → (dash : Bool) → is_dash value ≡ dash → (fuels : List Text) → given.fuels ≡ fuels
          → Tells true (total name true (at (waiting_held (codes "fuel") h) (option (codes "fuel")) false) (value ∷ left)) (end_of true (at (waiting_held (codes "fuel") h) (option (codes "fuel")) false) (value ∷ left)) (prepended given (arranged (codes "--fuel" ∷ value ∷ left)))
      by all h given good fine utf8 no_dash true dashed _ _ _ _ =
          let found : None ≡ prepended given (arranged (codes "--fuel" ∷ value ∷ left)) = rw (dashed_begins value dashed) refl in
          subst (Tells true (total name true (at (waiting_held (codes "fuel") h) (option (codes "fuel")) false) (value ∷ left)) (end_of true (at (waiting_held (codes "fuel") h) (option (codes "fuel")) false) (value ∷ left))) found
          (wrong-dashed (waiting_held (codes "fuel") h) (option (codes "fuel")) value left (λ q. absurd (cc q)) good.skip utf8.0 (dashed_is value dashed))
      by all h given good fine utf8 no_dash false none true dash _ _ =
          absurd (true≢false (sym (dash_value-there value left (plain_is value none).0 dash) ∙ no_dash))
      by all h given good fine utf8 no_dash false none false dash [] is =
          let after = pushed (codes "fuel") value (waiting_held (codes "fuel") h) in
          let once = repeat-none (codes "fuel") (found_now true h) (good.fuels ∙ ap (row_if (codes "fuel")) is) in
          let next : dash_value_from false left ≡ false = ap (λ b. dash_value_from b left) (sym (names_none value none)) ∙ sym (dash_value-other true value left (plain_is value none).0 dash) ∙ no_dash in
          let found : prepended (record given { fuels = given.fuels ++ value ∷ [] }) (arranged left) ≡ prepended given (arranged (codes "--fuel" ∷ value ∷ left)) =
          prepended-fuel given value (arranged left) ∙ ap (prepended given) (sym (arranged-fuel value left (no_dash_no value none dash))) in
          subst (Tells true (total name true (at (waiting_held (codes "fuel") h) (option (codes "fuel")) false) (value ∷ left)) (end_of true (at (waiting_held (codes "fuel") h) (option (codes "fuel")) false) (value ∷ left))) found
          (tells-step true (at (waiting_held (codes "fuel") h) (option (codes "fuel")) false) (at after idle false) value left _ (fuel_value-walked name h value none) (fuel_value-turn name h value none)
          (all after idle (record given { fuels = given.fuels ++ value ∷ [] }) refl (good-fuel h after value given good is refl (or_else-nil _ ∙ once) refl) (fuel-fine given value is fine) utf8.1 next))
      by all h given good fine utf8 no_dash false none false dash (first ∷ rest) is =
          let after = pushed (codes "fuel") value (waiting_held (codes "fuel") h) in
          let again = repeat-some (codes "fuel") first rest (found_now true h) (good.fuels ∙ ap (row_if (codes "fuel")) is) in
          let over : at_most_one (given.fuels ++ value ∷ []) ≡ false = ap (λ fs. at_most_one (fs ++ value ∷ [])) is ∙ twice first value rest in
          let found : prepended (record given { fuels = given.fuels ++ value ∷ [] }) (arranged left) ≡ prepended given (arranged (codes "--fuel" ∷ value ∷ left)) =
          prepended-fuel given value (arranged left) ∙ ap (prepended given) (sym (arranged-fuel value left (no_dash_no value none dash))) in
          subst (Tells true (total name true (at (waiting_held (codes "fuel") h) (option (codes "fuel")) false) (value ∷ left)) (end_of true (at (waiting_held (codes "fuel") h) (option (codes "fuel")) false) (value ∷ left))) found
          (tells-step true (at (waiting_held (codes "fuel") h) (option (codes "fuel")) false) (at after idle false) value left _ (fuel_value-walked name h value none) (fuel_value-turn name h value none)
          (tells-refused true _ _ _ (refused-more true (record given { fuels = given.fuels ++ value ∷ [] }) (arranged left) (fuel-over given value over))
          (wrong-free after idle left refl (λ q. again (or_else-parts _ _ q).0) good.skip utf8.1)))

  sim-depth : (options : Bool) (words : List Text) → ((value : Text) (left : List Text) → words ≡ value ∷ left → Sim options left) → Sim options (codes "--depth" ∷ words)
  sim-depth false [] apart = λ h waiting given free good fine utf8 no_dash.
      total-fault name false (at h waiting false) (codes "--depth") [] (long-unknown name false h waiting (codes "--depth") (codes "depth") None refl refl refl)
  sim-depth false (value ∷ left) apart = λ h waiting given free good fine utf8 no_dash.
      tells-refused false _ _ _ (by given (begins_with_dash value) (arranged left))
      (total-fault name false (at h waiting false) (codes "--depth") (value ∷ left) (long-unknown name false h waiting (codes "--depth") (codes "depth") None refl refl refl))
    where
      by : (given : Arrangement) (dash : Bool) (rest : Option Arrangement) → Refused false (prepended given (if dash then None else with_depth value rest))
      by given true rest = tt
      by given false None = tt
      by given false (Some rest) = none-depth given rest value
  sim-depth true [] apart = λ h waiting given free good fine utf8 no_dash.
      tells-step true (at h waiting false) (at (waiting_held (codes "depth") h) (option (codes "depth")) false) (codes "--depth") [] None
      (depth-walked name h waiting) (depth-turn name h waiting ∙ (or_else-nil _ ∙ good.quiet))
      (λ q. absurd (cc (sym (total-nil name true (at (waiting_held (codes "depth") h) (option (codes "depth")) false)) ∙ q)))
  sim-depth true (value ∷ left) apart = λ h waiting given free good fine utf8 no_dash.
      tells-step true (at h waiting false) (at (waiting_held (codes "depth") h) (option (codes "depth")) false) (codes "--depth") (value ∷ left) _
      (depth-walked name h waiting) (depth-turn name h waiting ∙ (or_else-nil _ ∙ good.quiet))
      (by (apart value left refl) h given good fine utf8.1 (sym (dash_value-first (codes "--depth") (value ∷ left) refl) ∙ no_dash) (is_dashed value) refl (is_dash value) refl given.depths refl)
    where
      by : Sim true left → (h : Held) (given : Arrangement) → Good true h given → allowed true given ≡ true → All IsUtf8 (value ∷ left) → dash_value_from true (value ∷ left) ≡ false
          → (dashed : Bool) → is_dashed value ≡ dashed → (dash : Bool) → is_dash value ≡ dash → (depths : List Text) → given.depths ≡ depths
          → Tells true (total name true (at (waiting_held (codes "depth") h) (option (codes "depth")) false) (value ∷ left)) (end_of true (at (waiting_held (codes "depth") h) (option (codes "depth")) false) (value ∷ left)) (prepended given (arranged (codes "--depth" ∷ value ∷ left)))
      by all h given good fine utf8 no_dash true dashed _ _ _ _ =
          let found : None ≡ prepended given (arranged (codes "--depth" ∷ value ∷ left)) = rw (dashed_begins value dashed) refl in
          subst (Tells true (total name true (at (waiting_held (codes "depth") h) (option (codes "depth")) false) (value ∷ left)) (end_of true (at (waiting_held (codes "depth") h) (option (codes "depth")) false) (value ∷ left))) found
          (wrong-dashed (waiting_held (codes "depth") h) (option (codes "depth")) value left (λ q. absurd (cc q)) good.skip utf8.0 (dashed_is value dashed))
      by all h given good fine utf8 no_dash false none true dash _ _ =
          absurd (true≢false (sym (dash_value-there value left (plain_is value none).0 dash) ∙ no_dash))
      by all h given good fine utf8 no_dash false none false dash [] is =
          let after = pushed (codes "depth") value (waiting_held (codes "depth") h) in
          let once = repeat-none (codes "depth") (found_now true h) (good.depths ∙ ap (row_if (codes "depth")) is) in
          let next : dash_value_from false left ≡ false = ap (λ b. dash_value_from b left) (sym (names_none value none)) ∙ sym (dash_value-other true value left (plain_is value none).0 dash) ∙ no_dash in
          let found : prepended (record given { depths = given.depths ++ value ∷ [] }) (arranged left) ≡ prepended given (arranged (codes "--depth" ∷ value ∷ left)) =
          prepended-depth given value (arranged left) ∙ ap (prepended given) (sym (arranged-depth value left (no_dash_no value none dash))) in
          subst (Tells true (total name true (at (waiting_held (codes "depth") h) (option (codes "depth")) false) (value ∷ left)) (end_of true (at (waiting_held (codes "depth") h) (option (codes "depth")) false) (value ∷ left))) found
          (tells-step true (at (waiting_held (codes "depth") h) (option (codes "depth")) false) (at after idle false) value left _ (depth_value-walked name h value none) (depth_value-turn name h value none)
          (all after idle (record given { depths = given.depths ++ value ∷ [] }) refl (good-depth h after value given good is refl (or_else-nil _ ∙ once) refl) (depth-fine given value is fine) utf8.1 next))
      by all h given good fine utf8 no_dash false none false dash (first ∷ rest) is =
          let after = pushed (codes "depth") value (waiting_held (codes "depth") h) in
          let again = repeat-some (codes "depth") first rest (found_now true h) (good.depths ∙ ap (row_if (codes "depth")) is) in
          let over : at_most_one (given.depths ++ value ∷ []) ≡ false = ap (λ fs. at_most_one (fs ++ value ∷ [])) is ∙ twice first value rest in
          let found : prepended (record given { depths = given.depths ++ value ∷ [] }) (arranged left) ≡ prepended given (arranged (codes "--depth" ∷ value ∷ left)) =
          prepended-depth given value (arranged left) ∙ ap (prepended given) (sym (arranged-depth value left (no_dash_no value none dash))) in
          subst (Tells true (total name true (at (waiting_held (codes "depth") h) (option (codes "depth")) false) (value ∷ left)) (end_of true (at (waiting_held (codes "depth") h) (option (codes "depth")) false) (value ∷ left))) found
          (tells-step true (at (waiting_held (codes "depth") h) (option (codes "depth")) false) (at after idle false) value left _ (depth_value-walked name h value none) (depth_value-turn name h value none)
          (tells-refused true _ _ _ (refused-more true (record given { depths = given.depths ++ value ∷ [] }) (arranged left) (depth-over given value over))
          (wrong-free after idle left refl (λ q. again (or_else-parts _ _ q).0) good.skip utf8.1)))

  -- a word that no arrangement has
  sim-unknown : (options : Bool) (word : Text) (words : List Text) → ((behind : List Text) → arranged (word ∷ behind) ≡ None) → Sim options (word ∷ words)
  sim-unknown options word words none = λ h waiting given free good fine utf8 no_dash.
      subst (Tells options (total name options (at h waiting false) (word ∷ words)) (end_of options (at h waiting false) (word ∷ words))) (sym (prepended-none given (arranged (word ∷ words)) (none words)))
      (by h waiting given good utf8.0 (is_dashed word) refl)
    where
      with_tests : (id : Text) (value : Option Text) → word ≡ codes "--" ++ spelled id value → (fuel : Bool) → bytes_eq (codes "fuel") id ≡ fuel → (depth : Bool) → bytes_eq (codes "depth") id ≡ depth → arg_by_long (rules true) id ≡ None
      with_tests id value is false no_fuel false no_depth = known id no_fuel no_depth
      with_tests id None is true so _ _ =
          let word_is : word ≡ codes "--fuel" = is ∙ ap (λ i. codes "--" ++ i) (sym ((bytes_decides (codes "fuel") id).0 so)) in
          absurd (cc (none (codes "a" ∷ []), ap (λ w. arranged (w ∷ codes "a" ∷ [])) word_is, arranged-fuel (codes "a") [] refl))
      with_tests id (Some v) is true so _ _ =
          let word_is : word ≡ codes "--fuel=" ++ v = is ∙ ap (λ i. codes "--" ++ i ++ 61 ∷ v) (sym ((bytes_decides (codes "fuel") id).0 so)) in
          absurd (cc (none [], ap (λ w. arranged (w ∷ [])) word_is, arranged-fuel_joined v []))
      with_tests id None is false _ true so =
          let word_is : word ≡ codes "--depth" = is ∙ ap (λ i. codes "--" ++ i) (sym ((bytes_decides (codes "depth") id).0 so)) in
          absurd (cc (none (codes "a" ∷ []), ap (λ w. arranged (w ∷ codes "a" ∷ [])) word_is, arranged-depth (codes "a") [] refl))
      with_tests id (Some v) is false _ true so =
          let word_is : word ≡ codes "--depth=" ++ v = is ∙ ap (λ i. codes "--" ++ i ++ 61 ∷ v) (sym ((bytes_decides (codes "depth") id).0 so)) in
          absurd (cc (none [], ap (λ w. arranged (w ∷ [])) word_is, arranged-depth_joined v []))

      lacks : (options : Bool) (id : Text) (value : Option Text) → word ≡ codes "--" ++ spelled id value → arg_by_long (rules options) id ≡ None
      lacks false id value is = refl
      lacks true id value is = with_tests id value is (bytes_eq (codes "fuel") id) refl (bytes_eq (codes "depth") id) refl

      by_kind : (h : Held) (waiting : Waiting) (given : Arrangement) → Good options h given → IsUtf8 word → Dashed word → total name options (at h waiting false) (word ∷ words) ≡ [] → ⊥
      by_kind h waiting given good utf8 (double is) quiet = absurd (cc (none [], ap (λ w. arranged (w ∷ [])) is, arranged-end []))
      by_kind h waiting given good utf8 (long id value no_end is word_is) quiet =
          total-fault name options (at h waiting false) word words (long-unknown name options h waiting word id value no_end is (lacks options id value word_is)) quiet
      by_kind h waiting given good utf8 (short x xs no_end no_long is word_is) quiet =
          total-fault name options (at h waiting false) word words (short-unknown name options h waiting word x xs good.skip utf8 word_is no_end no_long is) quiet

      by : (h : Held) (waiting : Waiting) (given : Arrangement) → Good options h given → IsUtf8 word → (dashed : Bool) → is_dashed word ≡ dashed → total name options (at h waiting false) (word ∷ words) ≡ [] → ⊥
      by h waiting given good utf8 true dashed quiet = by_kind h waiting given good utf8 (dashed_is word dashed) quiet
      by h waiting given good utf8 false plain quiet = absurd (cc (none [], arranged-plain word [] plain))

  sim-front : (options : Bool) (word : Text) (words : List Text) → Kind word → Sim options words → ((value : Text) (left : List Text) → words ≡ value ∷ left → Sim options left) → Sim options (word ∷ words)
  sim-front options word words (is_plain none) all apart = sim-plain options word words none all
  sim-front options word words (is_double_dash is) all apart = subst (λ w. Sim options (w ∷ words)) (sym is) (sim-end options words)
  sim-front options word words (is_fuel is) all apart = subst (λ w. Sim options (w ∷ words)) (sym is) (sim-fuel options words apart)
  sim-front options word words (is_depth is) all apart = subst (λ w. Sim options (w ∷ words)) (sym is) (sim-depth options words apart)
  sim-front options word words (is_fuel_joined value is) all apart = subst (λ w. Sim options (w ∷ words)) (sym is) (sim-fuel_joined options value words all)
  sim-front options word words (is_depth_joined value is) all apart = subst (λ w. Sim options (w ∷ words)) (sym is) (sim-depth_joined options value words all)
  sim-front options word words (is_unknown none) all apart = sim-unknown options word words none

  sim-nil : (options : Bool) → Sim options []
  sim-nil options = λ h waiting given free good fine utf8 no_dash. (
    λ fine_now. (total-nil name options (at h waiting false) ∙ good.quiet, subst (Good options h) (sym (nothing_more given)) good),
    λ over. absurd (true≢false (sym fine ∙ ap (allowed options) (sym (nothing_more given)) ∙ over)),
  )
    where
      nothing_more : (given : Arrangement) → record { plain = given.plain ++ []; fuels = given.fuels ++ []; depths = given.depths ++ [] } ≡ given
      nothing_more given = simp append-nil

  pub sim : (options : Bool) (words : List Text) → Sim options words
  sim options [] = sim-nil options
  sim options (word ∷ []) = sim-front options word [] (kind word) (sim-nil options) (λ value left is. absurd (cc is))
  sim options (word ∷ next ∷ words) =
      sim-front options word (next ∷ words) (kind word) (sim options (next ∷ words))
      (λ value left is. subst (Sim options) (left_is value left is) (sim options words))
    where
      left_is : (value : Text) (left : List Text) → next ∷ words ≡ value ∷ left → words ≡ left
      left_is value left is = cc
