-- The one arrangement that words may have is the one that they have.
use Rattle.std.proofs.Common.{◌≡◌, ℕ, refl, sym, subst, ap, ◌∙◌, Bool, true, false, List, [], ◌∷◌, ◌++◌, drop, length, codes, nat_eq, Option, Some, None, inl, inr, append_assoc}
use Rattle.std.proofs.lemmas.Bool.Decides.{Decides-eqb}
use Rattle.std.proofs.lemmas.List.{append-nil}
use Rattle.std.proofs.lemmas.Slice.Eq.{starts_is}
use Rattle.std.specs.List.{starts_with}
use Rattle.std.specs.Cmp.Lexicographic.{pointwise, bytes_decides}
use Rattle.st_words.specs.declared.arrangement.Arrangement.{Arrangement}
use Rattle.st_words.specs.Arranged.{begins_with_dash, is_dashed, is_end, plain_words, IsOption, IsArranged, empty, ended, plain, fuel, depth}
use Rattle.st_words.specs.inner.Fronts.{as_value, with_plain, with_fuel, with_depth, prepended, arranged}

-- a plain word in front
pub arranged-plain : (word : List ℕ) (behind : List (List ℕ)) → is_dashed word ≡ false
    → arranged (word ∷ behind) ≡ with_plain word (arranged behind)
arranged-plain word [] none = rw none
arranged-plain word (next ∷ words) none = rw none

-- `--` in front
pub arranged-end : (behind : List (List ℕ)) → arranged (codes "--" ∷ behind) ≡ Some (plain_words behind)
arranged-end [] = refl
arranged-end (next ∷ words) = refl

-- an option whose value is the next word
pub arranged-fuel : (value : List ℕ) (left : List (List ℕ)) → begins_with_dash value ≡ false
    → arranged (codes "--fuel" ∷ value ∷ left) ≡ with_fuel value (arranged left)
arranged-fuel value left none = rw none

pub arranged-depth : (value : List ℕ) (left : List (List ℕ)) → begins_with_dash value ≡ false
    → arranged (codes "--depth" ∷ value ∷ left) ≡ with_depth value (arranged left)
arranged-depth value left none = rw none

-- an option with its value in one word
pub arranged-fuel_joined : (value : List ℕ) (behind : List (List ℕ))
    → arranged ((codes "--fuel=" ++ value) ∷ behind) ≡ with_fuel value (arranged behind)
arranged-fuel_joined value [] = refl
arranged-fuel_joined value (next ∷ words) = refl

pub arranged-depth_joined : (value : List ℕ) (behind : List (List ℕ))
    → arranged ((codes "--depth=" ++ value) ∷ behind) ≡ with_depth value (arranged behind)
arranged-depth_joined value [] = refl
arranged-depth_joined value (next ∷ words) = refl

-- what a word in front may be
pub data Kind (word : List ℕ) : Type 0 where
  is_plain : is_dashed word ≡ false → Kind word
  is_double_dash : word ≡ codes "--" → Kind word
  is_fuel : word ≡ codes "--fuel" → Kind word
  is_depth : word ≡ codes "--depth" → Kind word
  is_fuel_joined : (value : List ℕ) → word ≡ codes "--fuel=" ++ value → Kind word
  is_depth_joined : (value : List ℕ) → word ≡ codes "--depth=" ++ value → Kind word
  is_unknown : ((behind : List (List ℕ)) → arranged (word ∷ behind) ≡ None) → Kind word

-- a word that is none of these
unknown : (word : List ℕ) (behind : List (List ℕ)) → is_dashed word ≡ true → is_end word ≡ false
    → pointwise nat_eq word (codes "--fuel") ≡ false
    → pointwise nat_eq word (codes "--depth") ≡ false
    → starts_with nat_eq word (codes "--fuel=") ≡ false
    → starts_with nat_eq word (codes "--depth=") ≡ false
    → arranged (word ∷ behind) ≡ None
unknown word [] dashed no_end no_fuel no_depth no_fuel_joined no_depth_joined = rw (dashed, no_end, no_fuel, no_depth, no_fuel_joined, no_depth_joined)
unknown word (next ∷ words) dashed no_end no_fuel no_depth no_fuel_joined no_depth_joined = rw (dashed, no_end, no_fuel, no_depth, no_fuel_joined, no_depth_joined)

-- a text that begins with another
begins : (word front : List ℕ) → starts_with nat_eq word front ≡ true → word ≡ front ++ drop (length front) word
begins word front is = (starts_is Decides-eqb word front _ refl).0 is

pub kind : (word : List ℕ) → Kind word
kind word = with_tests (is_dashed word) refl (is_end word) refl (pointwise nat_eq word (codes "--fuel")) refl (pointwise nat_eq word (codes "--depth")) refl (starts_with nat_eq word (codes "--fuel=")) refl (starts_with nat_eq word (codes "--depth=")) refl
  where
    with_tests : (dashed : Bool) → is_dashed word ≡ dashed → (end : Bool) → is_end word ≡ end
        → (fuel : Bool) → pointwise nat_eq word (codes "--fuel") ≡ fuel
        → (depth : Bool) → pointwise nat_eq word (codes "--depth") ≡ depth
        → (fuel_joined : Bool) → starts_with nat_eq word (codes "--fuel=") ≡ fuel_joined
        → (depth_joined : Bool) → starts_with nat_eq word (codes "--depth=") ≡ depth_joined
        → Kind word
    with_tests false is _ _ _ _ _ _ _ _ _ _ = is_plain is
    with_tests true dashed true is _ _ _ _ _ _ _ _ = is_double_dash ((bytes_decides word (codes "--")).0 is)
    with_tests true dashed false no_end true is _ _ _ _ _ _ = is_fuel ((bytes_decides word (codes "--fuel")).0 is)
    with_tests true dashed false no_end false no_fuel true is _ _ _ _ = is_depth ((bytes_decides word (codes "--depth")).0 is)
    with_tests true dashed false no_end false no_fuel false no_depth true is _ _ = is_fuel_joined _ (begins word (codes "--fuel=") is)
    with_tests true dashed false no_end false no_fuel false no_depth false no_fuel_joined true is = is_depth_joined _ (begins word (codes "--depth=") is)
    with_tests true dashed false no_end false no_fuel false no_depth false no_fuel_joined false no_depth_joined =
        is_unknown (λ behind. unknown word behind dashed no_end no_fuel no_depth no_fuel_joined no_depth_joined)

-- what is given, then one more word, then the rest
pub prepended-fuel : (given : Arrangement) (value : List ℕ) (rest : Option Arrangement)
    → prepended (record given { fuels = given.fuels ++ value ∷ [] }) rest ≡ prepended given (with_fuel value rest)
prepended-fuel given value (Some rest) = simp append_assoc
prepended-fuel given value None = refl

pub prepended-depth : (given : Arrangement) (value : List ℕ) (rest : Option Arrangement)
    → prepended (record given { depths = given.depths ++ value ∷ [] }) rest ≡ prepended given (with_depth value rest)
prepended-depth given value (Some rest) = simp append_assoc
prepended-depth given value None = refl

-- behind `--`
pub prepended-all : (given : Arrangement) (words : List (List ℕ))
    → prepended given (Some (plain_words words)) ≡ Some (record given { plain = given.plain ++ words })
prepended-all given words = simp append-nil

pub prepended-none : (given : Arrangement) (rest : Option Arrangement) → rest ≡ None → prepended given rest ≡ None
prepended-none given rest is = rw is

-- words that are arranged are arranged so alone
pub arranged-complete : (words : List (List ℕ)) (given : Arrangement) → IsArranged words given → arranged words ≡ Some given
arranged-complete _ _ empty = refl
arranged-complete _ _ (ended words) = arranged-end words
arranged-complete _ _ (plain word words rest none right) = arranged-plain word words none ∙ ap (with_plain word) (arranged-complete words rest right)
arranged-complete _ _ (fuel value option words rest option_is right) =
    by_option value option words rest option_is (arranged-complete words rest right)
  where
    by_option : (value : List ℕ) (option words : List (List ℕ)) (rest : Arrangement) → IsOption (codes "--fuel") value option → arranged words ≡ Some rest → arranged (option ++ words) ≡ with_fuel value (Some rest)
    by_option value option words rest (inl (is, none)) so = rw is (arranged-fuel value words none ∙ ap (with_fuel value) so)
    by_option value option words rest (inr is) so = rw is (arranged-fuel_joined value words ∙ ap (with_fuel value) so)
arranged-complete _ _ (depth value option words rest option_is right) =
    by_option value option words rest option_is (arranged-complete words rest right)
  where
    by_option : (value : List ℕ) (option words : List (List ℕ)) (rest : Arrangement) → IsOption (codes "--depth") value option → arranged words ≡ Some rest → arranged (option ++ words) ≡ with_depth value (Some rest)
    by_option value option words rest (inl (is, none)) so = rw is (arranged-depth value words none ∙ ap (with_depth value) so)
    by_option value option words rest (inr is) so = rw is (arranged-depth_joined value words ∙ ap (with_depth value) so)

pub arranged-only : (words : List (List ℕ)) (given other : Arrangement) → IsArranged words given → IsArranged words other → given ≡ other
arranged-only words given other is so = let one = arranged-complete words given is in let two = arranged-complete words other so in cc

-- an arrangement with a word more in front comes from one behind
pub from-plain : (word : List ℕ) (rest : Option Arrangement) (given : Arrangement) → with_plain word rest ≡ Some given
    → (behind : Arrangement) × (rest ≡ Some behind) × (record behind { plain = word ∷ behind.plain } ≡ given)
from-plain word (Some behind) given is = (behind, refl, cc)
from-plain word None given is = absurd (cc)

pub from-fuel : (value : List ℕ) (rest : Option Arrangement) (given : Arrangement) → with_fuel value rest ≡ Some given
    → (behind : Arrangement) × (rest ≡ Some behind) × (record behind { fuels = value ∷ behind.fuels } ≡ given)
from-fuel value (Some behind) given is = (behind, refl, cc)
from-fuel value None given is = absurd (cc)

pub from-depth : (value : List ℕ) (rest : Option Arrangement) (given : Arrangement) → with_depth value rest ≡ Some given
    → (behind : Arrangement) × (rest ≡ Some behind) × (record behind { depths = value ∷ behind.depths } ≡ given)
from-depth value (Some behind) given is = (behind, refl, cc)
from-depth value None given is = absurd (cc)

-- words are arranged so wherever they may be
abbrev Behind : List (List ℕ) → Type 0
Behind words = (given : Arrangement) → arranged words ≡ Some given → IsArranged words given

-- the value in front has no dash
valued : (add : List ℕ → Option Arrangement → Option Arrangement) (value : List ℕ) (rest : Option Arrangement) (given : Arrangement)
    → as_value add value rest ≡ Some given → (begins_with_dash value ≡ false) × (add value rest ≡ Some given)
valued add value rest given is = by (begins_with_dash value) refl
  where
    by : (dash : Bool) → begins_with_dash value ≡ dash → (begins_with_dash value ≡ false) × (add value rest ≡ Some given)
    by false none = (none, rw none at is)
    by true dash = absurd (cc (rw dash at is))

found-fuel : (behind : List (List ℕ)) (given : Arrangement)
    → ((value : List ℕ) (left : List (List ℕ)) → behind ≡ value ∷ left → Behind left)
    → arranged (codes "--fuel" ∷ behind) ≡ Some given → IsArranged (codes "--fuel" ∷ behind) given
found-fuel [] given apart is = absurd (cc)
found-fuel (value ∷ left) given apart is =
    let (none, added) = valued with_fuel value (arranged left) given is in
    let (rest, was, now) = from-fuel value (arranged left) given added in
    subst (IsArranged (codes "--fuel" ∷ value ∷ left)) now
    (fuel value (codes "--fuel" ∷ value ∷ []) left rest (inl (refl, none)) (apart value left refl rest was))

found-depth : (behind : List (List ℕ)) (given : Arrangement)
    → ((value : List ℕ) (left : List (List ℕ)) → behind ≡ value ∷ left → Behind left)
    → arranged (codes "--depth" ∷ behind) ≡ Some given → IsArranged (codes "--depth" ∷ behind) given
found-depth [] given apart is = absurd (cc)
found-depth (value ∷ left) given apart is =
    let (none, added) = valued with_depth value (arranged left) given is in
    let (rest, was, now) = from-depth value (arranged left) given added in
    subst (IsArranged (codes "--depth" ∷ value ∷ left)) now
    (depth value (codes "--depth" ∷ value ∷ []) left rest (inl (refl, none)) (apart value left refl rest was))

found-front : (word : List ℕ) (behind : List (List ℕ)) → Kind word → Behind behind
    → ((value : List ℕ) (left : List (List ℕ)) → behind ≡ value ∷ left → Behind left)
    → Behind (word ∷ behind)
found-front word behind (is_plain none) all apart = λ given is.
    let (rest, was, now) = from-plain word (arranged behind) given (sym (arranged-plain word behind none) ∙ is) in
    subst (IsArranged (word ∷ behind)) now (plain word behind rest none (all rest was))
found-front word behind (is_double_dash so) all apart = λ given is.
    let end : arranged (codes "--" ∷ behind) ≡ Some given = ap (λ w. arranged (w ∷ behind)) (sym so) ∙ is in
    let now : plain_words behind ≡ given = cc (arranged-end behind) in
    subst (λ w. IsArranged (w ∷ behind) given) (sym so) (subst (IsArranged (codes "--" ∷ behind)) now (ended behind))
found-front word behind (is_fuel so) all apart = λ given is.
    subst (λ w. IsArranged (w ∷ behind) given) (sym so) (found-fuel behind given apart (ap (λ w. arranged (w ∷ behind)) (sym so) ∙ is))
found-front word behind (is_depth so) all apart = λ given is.
    subst (λ w. IsArranged (w ∷ behind) given) (sym so) (found-depth behind given apart (ap (λ w. arranged (w ∷ behind)) (sym so) ∙ is))
found-front word behind (is_fuel_joined value so) all apart = λ given is.
    let (rest, was, now) = from-fuel value (arranged behind) given (sym (arranged-fuel_joined value behind) ∙ ap (λ w. arranged (w ∷ behind)) (sym so) ∙ is) in
    subst (λ w. IsArranged (w ∷ behind) given) (sym so)
    (subst (IsArranged ((codes "--fuel=" ++ value) ∷ behind)) now (fuel value ((codes "--fuel=" ++ value) ∷ []) behind rest (inr refl) (all rest was)))
found-front word behind (is_depth_joined value so) all apart = λ given is.
    let (rest, was, now) = from-depth value (arranged behind) given (sym (arranged-depth_joined value behind) ∙ ap (λ w. arranged (w ∷ behind)) (sym so) ∙ is) in
    subst (λ w. IsArranged (w ∷ behind) given) (sym so)
    (subst (IsArranged ((codes "--depth=" ++ value) ∷ behind)) now (depth value ((codes "--depth=" ++ value) ∷ []) behind rest (inr refl) (all rest was)))
found-front word behind (is_unknown none) all apart = λ given is. absurd (cc (none behind))

pub arranged-sound : (words : List (List ℕ)) (given : Arrangement) → arranged words ≡ Some given → IsArranged words given
arranged-sound [] given is = let now : plain_words [] ≡ given = cc in subst (IsArranged []) now empty
arranged-sound (word ∷ []) given is =
    found-front word [] (kind word) (λ rest was. arranged-sound [] rest was) (λ value left e. absurd (cc e)) given is
arranged-sound (word ∷ next ∷ words) given is =
    found-front word (next ∷ words) (kind word) (λ rest was. arranged-sound (next ∷ words) rest was)
    (λ value left e rest was. subst (λ ws. IsArranged ws rest) (left_is value left e) (arranged-sound words rest (ap arranged (left_is value left e) ∙ was))) given is
  where
    left_is : (value : List ℕ) (left : List (List ℕ)) → next ∷ words ≡ value ∷ left → words ≡ left
    left_is value left e = cc
