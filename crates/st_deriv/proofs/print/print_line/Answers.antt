use Rattle.std.proofs.Common.{codes}
use Rattle.st_deriv.proofs.Printing.{written_twice, head_text}
use Rattle.st_deriv.proofs.print.print_line.Goals as goal

pub returns-in_ok-extend_from_slice-in-Head-2-clause-ok :
    goal.returns-in_ok-extend_from_slice-in-Head-2-clause-ok
returns-in_ok-extend_from_slice-in-Head-2-clause-ok c =
    written_twice _ _ _ _ (codes "derivation 1 ") _ c.in_ok-extend_from_slice-in-Head.ensures.items c.in_ok-extend_from_slice-in-Head-2.ensures.items
    (head_text _ _ _ _ c.in-Head.is c.as_slice.ensures)
