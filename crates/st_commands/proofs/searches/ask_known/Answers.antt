use Rattle.std.proofs.Common.{◌≤◌, sym, ap, subst}
use Rattle.std.specs.Prelude.{IfOk}
use Rattle.st_semantics.specs.Goals.{AreInputs}
use Rattle.st_runs.specs.Runs.{NextSays}
use Rattle.st_commands.specs.inner.Asking.{asks_steps}
use Rattle.st_commands.proofs.AskLemmas.{next_is_said, run_is_said}
use Rattle.st_commands.proofs.searches.ask_known.Goals as goal

pub next-requires : goal.next-requires
next-requires c = record {
  can = record { relation = c.requires.mark; plain = c.requires.plain; depth = subst (λ n. 1 ≤ n) (sym c.depth_of.ensures) c.requires.depth };
  typed = c.requires.typed;
  term = subst (AreInputs c.args.language.now c.args.relation.now) (sym c.as_slice.ensures) c.requires.term;
}

pub returns-in-Next : goal.returns-in-Next
returns-in-Next c =
    next_is_said c.args.asked c.args.language.now c.args.relation.now c.depth_of.result c.in-Next.field-0 c.args.term c.next.result c.in-Next.is c.depth_of.ensures
    (subst (λ t. IfOk c.next.result (λ given. NextSays c.args.language.now c.args.relation.now c.depth_of.result t given.status given.bytes.items)) c.as_slice.ensures c.next.ensures)

pub run-requires : goal.run-requires
run-requires c = record {
  can = record { relation = c.requires.mark; plain = c.requires.plain; depth = subst (λ n. 1 ≤ n) (sym c.depth_of.ensures) c.requires.depth };
  leads = c.requires.leads (ap asks_steps c.in-Run.is);
  start = c.requires.term;
}

pub returns-in-Run : goal.returns-in-Run
returns-in-Run c =
    run_is_said c.args.asked c.args.language.now c.args.relation.now c.in-Run.fuel c.depth_of.result c.in-Run.field-1 c.args.term c.run.result c.in-Run.is c.depth_of.ensures c.run.ensures
