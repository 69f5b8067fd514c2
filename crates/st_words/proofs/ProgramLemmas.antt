-- What `clap` is told of the commands.
use Rattle.std.proofs.Common.{◌≡◌, ◌∙◌, refl, ap, true, ℕ, zero, suc, arith, ◌+◌, ◌<◌, List, [], ◌∷◌, ◌++◌, map, take, length, get_or, codes}
use Rattle.clap.specs.Simple.{App, Shape, app_of_fields, new_app, with_subcommand}
use Rattle.clap.specs.declared.builder.command.Command.{Command}
use Rattle.clap.specs.declared.builder.command.Command.TheOpen.{Command-F}
use Rattle.st_words.specs.declared.name.CommandName.{CommandName}
use Rattle.st_words.specs.inner.Program.{program_with, shape_named, all_names}

-- the settings, one by one
pub settings_app : (made binary flag subcommand version required : Command-F Command)
    → app_of_fields made ≡ new_app (codes "spectec")
    → binary ≡ record made { no_binary_name = true }
    → flag ≡ record binary { disable_help_flag = true }
    → subcommand ≡ record flag { disable_help_subcommand = true }
    → version ≡ record subcommand { disable_version_flag = true }
    → required ≡ record version { subcommand_required = true }
    → app_of_fields required ≡ program_with []
settings_app made binary flag subcommand version required made_is binary_is flag_is subcommand_is version_is required_is =
    let all : required ≡ record made { no_binary_name = true; disable_help_flag = true; disable_help_subcommand = true; disable_version_flag = true; subcommand_required = true } =
    required_is ∙ ap (λ (f : Command-F Command). record f { subcommand_required = true }) (version_is
    ∙ ap (λ (f : Command-F Command). record f { disable_version_flag = true }) (subcommand_is
    ∙ ap (λ (f : Command-F Command). record f { disable_help_subcommand = true }) (flag_is
    ∙ ap (λ (f : Command-F Command). record f { disable_help_flag = true }) binary_is))) in
    ap app_of_fields all
    ∙ ap (λ (a : App). record a { top = record a.top { no_binary_name = true; disable_help_flag = true; disable_help_subcommand = true; disable_version_flag = true; subcommand_required = true } }) made_is

with_more : (commands : List Shape) (command : Shape) → with_subcommand (program_with commands) command ≡ program_with (commands ++ command ∷ [])
with_more [] command = refl
with_more (one ∷ commands) command = refl

take_one_more : (names : List CommandName) (i : ℕ) (d : CommandName) → i < length names → map shape_named (take i names) ++ shape_named (get_or names i d) ∷ [] ≡ map shape_named (take (suc i) names)
take_one_more [] i d within = absurd (omega (arith, within))
take_one_more (name ∷ names) zero d within = refl
take_one_more (name ∷ names) (suc i) d within = ap (λ rest. shape_named name ∷ rest) (take_one_more names i d (omega (arith, within)))

-- one more command
pub one_more_command : (i : ℕ) (d : CommandName) → i < 12
    → with_subcommand (program_with (map shape_named (take i all_names))) (shape_named (get_or all_names i d)) ≡ program_with (map shape_named (take (i + 1) all_names))
one_more_command i d within =
    let next : suc i ≡ i + 1 = omega arith in
    with_more (map shape_named (take i all_names)) (shape_named (get_or all_names i d))
    ∙ ap program_with (take_one_more all_names i d within)
    ∙ ap (λ n. program_with (map shape_named (take n all_names))) next
