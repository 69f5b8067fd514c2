use Rattle.std.proofs.Common.{arith}
use Rattle.st_commands.specs.inner.Asking.{asks_steps, asked_says}
use Rattle.st_commands.proofs.SaysLemmas.{accepted, are_refused, are_specified}
use Rattle.st_commands.proofs.searches.ask_files.Goals as goal

pub ask_language-requires : goal.ask_language-requires
ask_language-requires c = record {
  accepted = accepted c.args.names.now c.args.files.now _ c.in-Accepted.definitions c.in-Accepted.elaborated c.in-Accepted.modes c.in_ok-specification.ensures c.in-Accepted.is;
  depth = c.requires.depth;
  few = omega (arith, c.requires.short_text);
}

pub returns-in-Accepted : goal.returns-in-Accepted
returns-in-Accepted c =
    are_specified (asks_steps c.args.asked) (asked_says c.args.asked c.args.relation.now) c.args.names.now c.args.relation.now c.args.text.now c.args.files.now _ c.in-Accepted.definitions
    c.in-Accepted.elaborated c.in-Accepted.modes c.ask_language.result c.in_ok-specification.ensures c.in-Accepted.is c.ask_language.ensures

pub returns : goal.returns
returns c =
    are_refused (asks_steps c.args.asked) (asked_says c.args.asked c.args.relation.now) c.args.names.now c.args.relation.now c.args.text.now c.args.files.now _ c.in-Refused.answer
    c.in_ok-specification.ensures c.in-Refused.is
