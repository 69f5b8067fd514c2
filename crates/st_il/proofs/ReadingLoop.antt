-- The loop over the parts of a tag.
use Rattle.std.proofs.Common.{◌≡◌, refl, sym, ◌∙◌, ap, ℕ, ◌+◌, ◌<◌, ◌≤◌, List, [], ◌∷◌, ◌++◌, length, take, drop, get_or}
use Rattle.std.specs.Prelude.{Option, Some, None}
use Rattle.std.specs.Option.{option_map, option_and_then}
use Rattle.std.proofs.lemmas.List.{take_more, take_all, drop_more, take-append-drop}
use Rattle.st_il.specs.declared.reading.State as code
use Rattle.st_il.specs.declared.template.Template.{Template}
use Rattle.st_il.specs.declared.template.TagPart.{TagPart}
use Rattle.st_il.specs.Reading.{State, expecting, step, run, finish, reads}
use Rattle.st_il.specs.inner.States.{state_of}

run-append : (st : State) (xs ys : List TagPart) → run st (xs ++ ys) ≡ option_and_then (λ next. run next ys) (run st xs)
run-append st [] ys = refl
run-append st (x ∷ xs) ys = go (step st x) (λ next. run-append next xs ys)
  where
    go : (o : Option State) → ((next : State) → run next (xs ++ ys) ≡ option_and_then (λ last. run last ys) (run next xs)) → option_and_then (λ next. run next (xs ++ ys)) o ≡ option_and_then (λ last. run last ys) (option_and_then (λ next. run next xs) o)
    go None h = refl
    go (Some next) h = h next

run-split : (ws : List TagPart) (i : ℕ) (st : State) → run (expecting []) (take i ws) ≡ Some st → run (expecting []) ws ≡ run st (drop i ws)
run-split ws i st e =
    ap (run (expecting [])) (sym (take-append-drop i ws)) ∙ run-append (expecting []) (take i ws) (drop i ws) ∙ ap (option_and_then (λ next. run next (drop i ws))) e

-- a part that the state takes
pub goes_on : (ws : List TagPart) (i : ℕ) (w : TagPart) (st : State) (next : Option code.State) (last : code.State) → i < length ws → run (expecting []) (take i ws) ≡ Some st → w ≡ get_or ws i w
    → option_map state_of next ≡ step st w → next ≡ Some last → run (expecting []) (take (i + 1) ws) ≡ Some (state_of last)
goes_on ws i w st next last h e at s n =
    ap (run (expecting [])) (take_more ws i w h ∙ ap (λ v. take i ws ++ v ∷ []) (sym at))
    ∙ run-append (expecting []) (take i ws) (w ∷ [])
    ∙ ap (option_and_then (λ st. run st (w ∷ []))) e
    ∙ ap (option_and_then (λ st. run st [])) (sym s ∙ ap (option_map state_of) n)

-- a part that it does not take
pub stops : (ws : List TagPart) (i : ℕ) (w : TagPart) (st : State) (next : Option code.State) → i < length ws → run (expecting []) (take i ws) ≡ Some st → w ≡ get_or ws i w
    → option_map state_of next ≡ step st w → next ≡ None → None ≡ reads (expecting []) ws
stops ws i w st next h e at s n =
    sym (ap (option_and_then finish) (run-split ws i st e ∙ ap (run st) (drop_more ws i w h ∙ ap (λ v. v ∷ drop (i + 1) ws) (sym at)) ∙ ap (option_and_then (λ st. run st (drop (i + 1) ws))) (sym s ∙ ap (option_map state_of) n)))

-- the end
pub ends : (ws : List TagPart) (i : ℕ) (st : State) (found : Option Template) → length ws ≤ i → run (expecting []) (take i ws) ≡ Some st → found ≡ finish st → found ≡ reads (expecting []) ws
ends ws i st found h e f = f ∙ sym (ap (option_and_then finish) (ap (run (expecting [])) (sym (take_all i ws h)) ∙ e))
