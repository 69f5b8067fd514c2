-- What a parse has found for an argument, after one more value of it.
use Rattle.std.proofs.Common.{◌≡◌, ◌∙◌, refl, ap, Bool, true, false, cond, List, [], ◌∷◌, ◌++◌, Option, Some, None}
use Rattle.std.specs.Prelude.{find, is_some, unwrap_or}
use Rattle.std.specs.Str.{bytes_eq}
use Rattle.std.specs.Cmp.Lexicographic.{bytes_decides}
use Rattle.clap.specs.Walk.{Row, Text, more_values, stronger, with_values, without, has_row}
use Rattle.clap.specs.declared.builder.value_parser.Reading.TheVariants.{AsWritten}
use Rattle.clap.specs.declared.parser.matches.ValueSource.TheVariants.{CommandLine}

-- the first row of an argument
abbrev pub look : Text → List Row → Option Row
look id rows = find (λ r. bytes_eq r.id id) rows

-- the row of an argument with these values, which words gave
abbrev pub row_with : Text → List Text → Row
row_with id values = record { id = id; values = values; count = None; source = Some CommandLine; reading = AsWritten }

-- the same, where there is a value
abbrev pub row_if : Text → List Text → Option Row
row_if id [] = None
row_if id (value ∷ values) = Some (row_with id (value ∷ values))

-- the rows with one more value of an argument
abbrev pub one_more : Text → Text → List Row → List Row
one_more id value rows = with_values id AsWritten CommandLine (value ∷ []) rows

differ : (id other text : Text) → bytes_eq id other ≡ false → bytes_eq text id ≡ true → bytes_eq text other ≡ false
differ id other text apart is = ap (λ t. bytes_eq t other) ((bytes_decides text id).0 is) ∙ apart

-- another argument has what it had
pub look-other : (id other value : Text) (rows : List Row) → bytes_eq id other ≡ false → look other (one_more id value rows) ≡ look other rows
look-other id other value [] apart = rw apart refl
look-other id other value (r ∷ rows) apart = by (look-other id other value rows apart) (bytes_eq r.id id) refl
  where
    changed : (r : Row) → bytes_eq r.id other ≡ false → look other (more_values CommandLine (value ∷ []) r ++ rows) ≡ look other (r ∷ rows)
    changed r other_id = rw other_id refl

    by : look other (one_more id value rows) ≡ look other rows → (b : Bool) → bytes_eq r.id id ≡ b → look other (one_more id value (r ∷ rows)) ≡ look other (r ∷ rows)
    by more true is = rw is (changed r (differ id other r.id apart is))
    by more false is = rw is (ap (λ found. cond (bytes_eq r.id other) (Some r) found) more)

past : (id : Text) (r : Row) (rows : List Row) → bytes_eq r.id id ≡ false → look id (r ∷ rows) ≡ look id rows
past id r rows other = rw other refl

-- the argument has one value more
pub look-same : (id value : Text) (values : List Text) (rows : List Row) → bytes_eq id id ≡ true → look id rows ≡ row_if id values
    → look id (one_more id value rows) ≡ row_if id (values ++ value ∷ [])
look-same id value [] [] self is = rw self refl
look-same id value (v ∷ vs) [] self is = absurd (cc is)
look-same id value values (r ∷ rows) self is = by (λ so. look-same id value values rows self so) (bytes_eq r.id id) refl
  where
    changed : (vs : List Text) (q : Row) → bytes_eq q.id id ≡ true → Some q ≡ row_if id vs
        → look id (more_values CommandLine (value ∷ []) q ++ rows) ≡ row_if id (vs ++ value ∷ [])
    changed [] q same so = absurd (cc so)
    changed (v ∷ vs) q same so =
        let q_is : q ≡ row_with id (v ∷ vs) = ap (λ o. unwrap_or o q) so in
        rw same (ap (λ (p : Row). Some (record p { values = p.values ++ value ∷ []; source = Some (stronger p.source CommandLine) })) q_is)

    by : (look id rows ≡ row_if id values → look id (one_more id value rows) ≡ row_if id (values ++ value ∷ []))
        → (b : Bool) → bytes_eq r.id id ≡ b → look id (one_more id value (r ∷ rows)) ≡ row_if id (values ++ value ∷ [])
    by more true same = rw same (changed values r same (rw same at is))
    by more false other = rw other (past id r (one_more id value rows) other ∙ more (rw other at is))

-- an argument that was not found has no row to take out
pub without-none : (id : Text) (rows : List Row) → look id rows ≡ None → without id rows ≡ rows
without-none id [] is = refl
without-none id (r ∷ rows) is = by (λ so. without-none id rows so) (bytes_eq r.id id) refl
  where
    by : (look id rows ≡ None → without id rows ≡ rows) → (b : Bool) → bytes_eq r.id id ≡ b → without id (r ∷ rows) ≡ r ∷ rows
    by more true same = let bad : Some r ≡ None = rw same at is in absurd (cc bad)
    by more false other = rw other (ap (λ rs. r ∷ rs) (more (rw other at is)))

pub has_row-look : (id : Text) (rows : List Row) → has_row id rows ≡ is_some (look id rows)
has_row-look id [] = refl
has_row-look id (r ∷ rows) = by (has_row-look id rows) (bytes_eq r.id id) refl
  where
    by : has_row id rows ≡ is_some (look id rows) → (b : Bool) → bytes_eq r.id id ≡ b → has_row id (r ∷ rows) ≡ is_some (look id (r ∷ rows))
    by more true same = rw same refl
    by more false other = rw other more
