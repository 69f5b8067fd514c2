-- Loads in order: how many were made, and what they gave.
use Rattle.std.proofs.Common.{◌≡◌, ℕ, ◌+◌, ◌<◌, ◌≤◌, List, [], ◌∷◌, ◌++◌, length, take, ap, ◌∙◌, sym, refl, subst, Some, get_or, add-one}
use Rattle.std.specs.Prelude.{slice_get, IfSome}
use Rattle.std.proofs.Math.Seq.{take-suc}
use Rattle.std.proofs.lemmas.Option.{slice_get-get_or}
use Rattle.st_outside.specs.Files.{bytes_of, IsLonger, MarksFault}
use Rattle.st_outside.specs.declared.files.LoadFault.{LoadFault}
use Rattle.st_outside.specs.declared.files.LoadFault.TheVariants as fault
use Rattle.std.specs.Prelude.{Err}
use Rattle.st_outside.specs.Counts.{one_more}
use Rattle.st_tool.specs.Loads.{Held, Counts, raised, IsGiven, AreGiven, FailsAt, IsTooLongAt}

-- the files of the first names were given
pub record HasGiven (held : Held) (limit : ℕ) (names : List (List ℕ)) (number : ℕ) (files : List (List ℕ)) (before now : Counts) : Type 0 where
  pub given : AreGiven held limit (take number names) files
  pub loads : now.loads ≡ raised before.loads number
  pub faults : now.faults ≡ before.faults
  pub last : now.last ≡ before.last

-- one more after some more
pub one_more-raised : (n k : ℕ) → one_more (raised n k) ≡ raised n (k + 1)
one_more-raised n k = ap (raised n) (sym (add-one k))

pub AreGiven-more : (held : Held) (limit : ℕ) (names files : List (List ℕ)) (name bytes : List ℕ) → AreGiven held limit names files → IsGiven held limit name bytes
    → AreGiven held limit (names ++ name ∷ []) (files ++ bytes ∷ [])
AreGiven-more held limit [] [] name bytes given more = (more, tt)
AreGiven-more held limit [] (b ∷ files) name bytes given more = absurd given
AreGiven-more held limit (n ∷ names) [] name bytes given more = absurd given
AreGiven-more held limit (n ∷ names) (b ∷ files) name bytes given more = (given.0, AreGiven-more held limit names files name bytes given.1 more)

abbrev FilesTold : Held → List ℕ → List ℕ → Type 0
FilesTold at name bytes = IfSome at (λ entries. bytes_of entries name ≡ Some bytes)

-- one file more was given
pub given_more : (held at : Held) (limit : ℕ) (names files : List (List ℕ)) (number : ℕ) (item name bytes : List ℕ) (before now next : Counts)
    → HasGiven held limit names number files before now → number < length names → item ≡ get_or names number item → name ≡ item → at ≡ held
    → length bytes ≤ limit → IfSome at (λ entries. bytes_of entries name ≡ Some bytes)
    → next.loads ≡ one_more now.loads → (next.faults ≡ now.faults) × (next.last ≡ now.last)
    → HasGiven held limit names (number + 1) (files ++ bytes ∷ []) before next
given_more held at limit names files number item name bytes before now next has below item_is name_is at_is short told loads (faults, last) =
    let fronts : take (number + 1) names ≡ take number names ++ item ∷ [] = ap (λ n. take n names) (add-one number) ∙ take-suc names number item below ∙ ap (λ x. take number names ++ x ∷ []) (sym item_is) in
    let told_here = subst (λ h. FilesTold h item bytes) at_is (subst (λ n. FilesTold at n bytes) name_is told) in
    record {
      given = subst (λ front. AreGiven held limit front (files ++ bytes ∷ [])) (sym fronts)
          (AreGiven-more held limit (take number names) files item bytes has.given (record { short = short; holds = told_here }));
      loads = loads ∙ ap one_more has.loads ∙ one_more-raised before.loads number;
      faults = faults ∙ has.faults;
      last = last ∙ has.last;
    }

-- what a failed load does to the counts
abbrev pub Marks : List ℕ → Counts → Counts → LoadFault → Type 0
Marks name now next why = MarksFault {V = List ℕ} name now.faults next.faults now.last next.last (Err why)

-- the name of that number
name_at : (names : List (List ℕ)) (number : ℕ) (item : List ℕ) → number < length names → item ≡ get_or names number item → slice_get names number ≡ Some item
name_at names number item below item_is = slice_get-get_or names number item below ∙ ap Some (sym item_is)

-- the next load failed
pub fails_next : (held : Held) (limit : ℕ) (names files : List (List ℕ)) (number : ℕ) (item name : List ℕ) (before now next : Counts)
    → HasGiven held limit names number files before now → number < length names → item ≡ get_or names number item → name ≡ item
    → next.loads ≡ one_more now.loads → (why : LoadFault) → why ≡ fault.Failed → Marks name now next why
    → FailsAt held limit names number before next
fails_next held limit names files number item name before now next has below item_is name_is loads why is marks =
    let (faults, last) = subst (Marks name now next) is marks in
    record {
      name = item;
      is_name = name_at names number item below item_is;
      files = files;
      given = has.given;
      loads = loads ∙ ap one_more has.loads ∙ one_more-raised before.loads number;
      faults = faults ∙ ap one_more has.faults;
      last = last ∙ ap Some name_is;
    }

-- the next file is too long
pub too_long_next : (held at : Held) (limit : ℕ) (names files : List (List ℕ)) (number : ℕ) (item name : List ℕ) (before now next : Counts)
    → HasGiven held limit names number files before now → number < length names → item ≡ get_or names number item → name ≡ item → at ≡ held
    → IfSome at (IsLonger limit name)
    → next.loads ≡ one_more now.loads → (why : LoadFault) → why ≡ fault.TooLong → Marks name now next why
    → IsTooLongAt held limit names number before next
too_long_next held at limit names files number item name before now next has below item_is name_is at_is longer loads why is marks =
    let (faults, last) = subst (Marks name now next) is marks in
    record {
      name = item;
      is_name = name_at names number item below item_is;
      longer = subst (λ h. IfSome h (IsLonger limit item)) at_is (subst (λ n. IfSome at (IsLonger limit n)) name_is longer);
      files = files;
      given = has.given;
      loads = loads ∙ ap one_more has.loads ∙ one_more-raised before.loads number;
      faults = faults ∙ has.faults;
      last = last ∙ has.last;
    }

-- before the first load
pub nothing_given : (held : Held) (limit : ℕ) (names files : List (List ℕ)) (before : Counts) → files ≡ [] → HasGiven held limit names 0 files before before
nothing_given held limit names files before none = record {
  given = subst (λ f. AreGiven held limit [] f) (sym none) tt;
  loads = refl;
  faults = refl;
  last = refl;
}

-- one file more was given, and kept
pub given_next : (held at : Held) (limit : ℕ) (names files more : List (List ℕ)) (number : ℕ) (item name bytes : List ℕ) (before now next : Counts)
    → HasGiven held limit names number files before now → number < length names → item ≡ get_or names number item → name ≡ item → at ≡ held
    → length bytes ≤ limit → IfSome at (λ entries. bytes_of entries name ≡ Some bytes)
    → next.loads ≡ one_more now.loads → (next.faults ≡ now.faults) × (next.last ≡ now.last)
    → more ≡ files ++ bytes ∷ [] → HasGiven held limit names (number + 1) more before next
given_next held at limit names files more number item name bytes before now next has below item_is name_is at_is short told loads marks kept =
    subst (λ f. HasGiven held limit names (number + 1) f before next) (sym kept)
    (given_more held at limit names files number item name bytes before now next has below item_is name_is at_is short told loads marks)
