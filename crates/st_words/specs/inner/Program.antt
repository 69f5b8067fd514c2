-- What a parse by `clap` reads of the commands.
use Rattle.std.specs.Prelude.{ℕ, List, [], ◌∷◌, map, codes, Bool, true, false, Some, if◌then◌else◌}
use Rattle.clap.specs.Simple.{App, Shape, new_rule, new_shape}
use Rattle.clap.specs.Walk.{Rule}
use Rattle.clap.specs.declared.builder.action.ArgAction.TheVariants.{Set, Append}
use Rattle.st_words.specs.declared.name.CommandName.{CommandName}
use Rattle.st_words.specs.declared.name.CommandName.TheVariants.{Check, Il, Groups, Order, Eval, Next, Run, Derive, Verify, Prose, Latex, Make}
use Rattle.st_words.specs.Names.{name_spelling}

-- whether the command takes options
abbrev pub takes_options : CommandName → Bool
takes_options Run = true
takes_options Derive = true
takes_options _ = false

-- the plain words of a command
abbrev pub plain_rule : Rule
plain_rule = record (new_rule (codes "words")) { action = Some Append; required = true }

-- an option of this name
abbrev pub option_rule : List ℕ → Rule
option_rule name = record (new_rule name) { long = Some name; action = Some Set }

abbrev pub option_rules : Bool → List Rule
option_rules options =
    if options then option_rule (codes "fuel") ∷ option_rule (codes "depth") ∷ [] else []

-- a command of this name, which takes options or not
abbrev pub shape_with : List ℕ → Bool → Shape
shape_with name options =
    record (new_shape name) { rules = plain_rule ∷ option_rules options }

abbrev pub shape_named : CommandName → Shape
shape_named name = shape_with (name_spelling name) (takes_options name)

abbrev are_none : List Shape → Bool
are_none [] = true
are_none (command ∷ commands) = false

-- the command whose subcommands are these
abbrev pub program_with : List Shape → App
program_with commands = record {
  top = record (new_shape (codes "spectec")) {
    is_leaf = are_none commands;
    no_binary_name = true;
    disable_help_flag = true;
    disable_help_subcommand = true;
    disable_version_flag = true;
    subcommand_required = true;
  };
  subs = commands;
}

abbrev pub all_names : List CommandName
all_names = Check ∷ Il ∷ Groups ∷ Order ∷ Eval ∷ Next ∷ Run ∷ Derive ∷ Verify ∷ Prose ∷ Latex ∷ Make ∷ []

-- the command whose subcommands are all commands
abbrev pub program_app : App
program_app = program_with (map shape_named all_names)
