use Rattle.std.proofs.Common.{◌≡◌, ◌++◌, map, flat_map, drop}
use Rattle.st_term.specs.TermText.{pieces_of}
use Rattle.st_term.specs.inner.Pieces.{piece_now}
use Rattle.st_term.proofs.piece.+pieces.Given as goal

abbrev pub invariant-push_all-loop-part : goal.invariant-push_all-loop-part
invariant-push_all-loop-part l =
    map piece_now l.pieces ++ flat_map (λ part. part) (map pieces_of (drop l.part-index l.parts))
    ≡ map piece_now l.initial.pieces ++ flat_map (λ part. part) (map pieces_of l.parts)
