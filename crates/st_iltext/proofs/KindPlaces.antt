-- Where each kind stands in the list of all kinds.
use Rattle.std.proofs.Common.{◌≡◌, ℕ, ◌<◌, get_or, refl, arith}
use Rattle.st_iltext.specs.declared.kind.Unary.TheVariants as unary
use Rattle.st_iltext.specs.declared.kind.Binary.TheVariants as binary
use Rattle.st_iltext.specs.declared.kind.Arithmetic.TheVariants as arithmetic
use Rattle.st_iltext.specs.declared.kind.Kind.{Kind}
use Rattle.st_iltext.specs.declared.kind.Kind.TheVariants as kind
use Rattle.st_iltext.specs.declared.kind.TheConstants.Kind.{ALL as KINDS}

abbrev pub place : Kind → ℕ
place (kind.Unary unary.Not) = 0
place (kind.Unary unary.Neg) = 1
place (kind.Unary unary.Present) = 2
place (kind.Unary unary.Len) = 3
place (kind.Binary binary.And) = 4
place (kind.Binary binary.Or) = 5
place (kind.Binary binary.Imp) = 6
place (kind.Binary binary.Iff) = 7
place (kind.Binary binary.Eq) = 8
place (kind.Binary binary.Ne) = 9
place (kind.Binary binary.Lt) = 10
place (kind.Binary binary.Gt) = 11
place (kind.Binary binary.Le) = 12
place (kind.Binary binary.Ge) = 13
place (kind.Binary binary.Member) = 14
place (kind.Binary binary.Cat) = 15
place (kind.Binary binary.Join) = 16
place (kind.Binary binary.At) = 17
place (kind.Arithmetic arithmetic.Add) = 18
place (kind.Arithmetic arithmetic.Sub) = 19
place (kind.Arithmetic arithmetic.Mul) = 20
place (kind.Arithmetic arithmetic.Div) = 21
place (kind.Arithmetic arithmetic.Rem) = 22
place (kind.Arithmetic arithmetic.Pow) = 23
place kind.Var = 24
place kind.Case = 25
place kind.Fields = 26
place kind.Call = 27
place kind.Dot = 28
place kind.Set = 29
place kind.Extend = 30
place kind.Tuple = 31
place kind.List = 32
place kind.Empty = 33
place kind.Absent = 34
place kind.Slice = 35
place kind.Up = 36
place kind.Iter = 37

pub place_below : (k : Kind) → place k < 38
place_below (kind.Unary unary.Not) = omega arith
place_below (kind.Unary unary.Neg) = omega arith
place_below (kind.Unary unary.Present) = omega arith
place_below (kind.Unary unary.Len) = omega arith
place_below (kind.Binary binary.And) = omega arith
place_below (kind.Binary binary.Or) = omega arith
place_below (kind.Binary binary.Imp) = omega arith
place_below (kind.Binary binary.Iff) = omega arith
place_below (kind.Binary binary.Eq) = omega arith
place_below (kind.Binary binary.Ne) = omega arith
place_below (kind.Binary binary.Lt) = omega arith
place_below (kind.Binary binary.Gt) = omega arith
place_below (kind.Binary binary.Le) = omega arith
place_below (kind.Binary binary.Ge) = omega arith
place_below (kind.Binary binary.Member) = omega arith
place_below (kind.Binary binary.Cat) = omega arith
place_below (kind.Binary binary.Join) = omega arith
place_below (kind.Binary binary.At) = omega arith
place_below (kind.Arithmetic arithmetic.Add) = omega arith
place_below (kind.Arithmetic arithmetic.Sub) = omega arith
place_below (kind.Arithmetic arithmetic.Mul) = omega arith
place_below (kind.Arithmetic arithmetic.Div) = omega arith
place_below (kind.Arithmetic arithmetic.Rem) = omega arith
place_below (kind.Arithmetic arithmetic.Pow) = omega arith
place_below kind.Var = omega arith
place_below kind.Case = omega arith
place_below kind.Fields = omega arith
place_below kind.Call = omega arith
place_below kind.Dot = omega arith
place_below kind.Set = omega arith
place_below kind.Extend = omega arith
place_below kind.Tuple = omega arith
place_below kind.List = omega arith
place_below kind.Empty = omega arith
place_below kind.Absent = omega arith
place_below kind.Slice = omega arith
place_below kind.Up = omega arith
place_below kind.Iter = omega arith

pub there : (k : Kind) → get_or KINDS (place k) kind.Var ≡ k
there (kind.Unary unary.Not) = refl
there (kind.Unary unary.Neg) = refl
there (kind.Unary unary.Present) = refl
there (kind.Unary unary.Len) = refl
there (kind.Binary binary.And) = refl
there (kind.Binary binary.Or) = refl
there (kind.Binary binary.Imp) = refl
there (kind.Binary binary.Iff) = refl
there (kind.Binary binary.Eq) = refl
there (kind.Binary binary.Ne) = refl
there (kind.Binary binary.Lt) = refl
there (kind.Binary binary.Gt) = refl
there (kind.Binary binary.Le) = refl
there (kind.Binary binary.Ge) = refl
there (kind.Binary binary.Member) = refl
there (kind.Binary binary.Cat) = refl
there (kind.Binary binary.Join) = refl
there (kind.Binary binary.At) = refl
there (kind.Arithmetic arithmetic.Add) = refl
there (kind.Arithmetic arithmetic.Sub) = refl
there (kind.Arithmetic arithmetic.Mul) = refl
there (kind.Arithmetic arithmetic.Div) = refl
there (kind.Arithmetic arithmetic.Rem) = refl
there (kind.Arithmetic arithmetic.Pow) = refl
there kind.Var = refl
there kind.Case = refl
there kind.Fields = refl
there kind.Call = refl
there kind.Dot = refl
there kind.Set = refl
there kind.Extend = refl
there kind.Tuple = refl
there kind.List = refl
there kind.Empty = refl
there kind.Absent = refl
there kind.Slice = refl
there kind.Up = refl
there kind.Iter = refl
