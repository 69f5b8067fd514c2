use Rattle.std.proofs.Common.{rules}
use Rattle.st_ilcheck.proofs.keeping.are_equal_lists.Goals as goal

pub returns-then-not-is_list : goal.returns-then-not-is_list
returns-then-not-is_list c = (λ f. search rules, λ h. c.if-not-is_list.ensures.1 h.0)

pub returns : goal.returns
returns c = (λ y. (c.if-not-is_list.ensures.0 (search rules), c.in_ok-kept.ensures.0 y), λ h. c.in_ok-kept.ensures.1 h.1)
