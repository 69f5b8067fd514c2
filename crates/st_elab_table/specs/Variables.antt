-- The type of a variable, which its name leads to.
use Rattle.std.specs.Prelude.{ℕ, List, [], ◌∷◌, ◌++◌, map, codes, if◌then◌else◌, nat_eq, Option, Some, None}
use Rattle.std.specs.Option.{option_map, option_or}
use Rattle.std.specs.Map.{lookup}
use Rattle.std.specs.Str.{byte}
use Rattle.st_num.specs.Names.{same_name}
use Rattle.st_il.specs.declared.ty.Ty.{Ty}
use Rattle.st_il.specs.declared.ty.Ty.TheVariants as ty
use Rattle.st_type_table.specs.Meaning.{body_of}
use Rattle.st_elab_table.specs.declared.decls.Decls.{Decls}

-- ---- the names that remain of a name

-- a byte put before a name without primes at its end; a prime alone is dropped
abbrev pub before_end : ℕ → List ℕ → List ℕ
before_end c [] = if nat_eq c (byte "'") then [] else c ∷ []
before_end c (d ∷ ds) = c ∷ d ∷ ds

-- the name without the primes at its end
abbrev pub unprimed : List ℕ → List ℕ
unprimed [] = []
unprimed (c ∷ cs) = before_end c (unprimed cs)

-- what stands before each `_`, the longest first
abbrev pub fronts : List ℕ → List (List ℕ)
fronts [] = []
fronts (c ∷ cs) =
    map (λ front. c ∷ front) (fronts cs) ++ (if nat_eq c (byte "_") then [] ∷ [] else [])

-- The primes at the end are dropped,
-- and then again and again the last part from `_` on with the primes before it.
abbrev pub remaining : List ℕ → List (List ℕ)
remaining name = unprimed name ∷ map unprimed (fronts name)

-- ---- what a name leads to

-- the type that is written by this word
abbrev pub written_type : List ℕ → Option Ty
written_type name =
    if same_name name (codes "bool") then Some ty.Bool
    else if same_name name (codes "nat") then Some ty.Nat
    else if same_name name (codes "int") then Some ty.Int
    else if same_name name (codes "text") then Some ty.Text
    else None

-- the type of this name, where it is that of a syntax
abbrev pub syntax_type : Decls → List ℕ → Option Ty
syntax_type D name = option_map (λ body. ty.Name name) (body_of D.types name)

-- the type declared by `var`, or else the syntax of this name, or else the type that is a word
abbrev pub named_type : Decls → List ℕ → Option Ty
named_type D name =
    option_or (lookup (same_name name) D.vars) (option_or (syntax_type D name) (written_type name))

-- the type of the first name that has one
abbrev pub first_type : Decls → List (List ℕ) → Option Ty
first_type D [] = None
first_type D (name ∷ names) = option_or (named_type D name) (first_type D names)

-- the type that the name of a variable leads to
abbrev pub type_of_name : Decls → List ℕ → Option Ty
type_of_name D name = first_type D (remaining name)
