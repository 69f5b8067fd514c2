-- The least of some names, from the last one on.
use Rattle.std.proofs.Common.{◌≡◌, sym, ◌∙◌, ap, ℕ, ◌+◌, ◌<◌, List, length, get_or, drop, Option}
use Rattle.std.specs.Borrow.{Bor}
use Rattle.st_il.specs.Names.{Name, lesser, least}
use Rattle.st_order.specs.inner.Index.{names_in}
use Rattle.st_semantics.proofs.HoleSums.{drop_there}

-- a name before those whose least is known
pub least_step : (names : List (Bor (List ℕ))) (n m k : ℕ) (name : Bor (List ℕ)) (new old : Option Name) → n < length names → name ≡ get_or names n name → m ≡ n → k ≡ n + 1
    → new ≡ lesser name.now old → old ≡ least (names_in (drop k names)) → new ≡ least (names_in (drop m names))
least_step names n m k name new old h e m_is k_is one inv =
    one ∙ ap (lesser name.now) (inv ∙ ap (λ z. least (names_in (drop z names))) k_is)
    ∙ ap (λ z. least (names_in z)) (sym (drop_there names n name h e)) ∙ ap (λ z. least (names_in (drop z names))) (sym m_is)
