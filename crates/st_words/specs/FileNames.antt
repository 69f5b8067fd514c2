-- The files that a command loads.
use Rattle.std.specs.Prelude.{ℕ, List, [], ◌∷◌}
use Rattle.st_words.specs.declared.command.Command.{Command}
use Rattle.st_words.specs.declared.command.Command.TheVariants.{Check, Il, Groups, Order, Eval, Next, Run, Derive, Verify, Prose, Latex, Make}

-- the names of the files that a command loads, in the order of its words
abbrev pub file_names : Command → List (List ℕ)
file_names (Check files) = files
file_names (Il files) = files
file_names (Groups files) = files
file_names (Order files) = files
file_names (Eval term files) = term ∷ files
file_names (Next relation term files) = term ∷ files
file_names (Run relation term files fuel depth) = term ∷ files
file_names (Derive relation term files fuel depth) = term ∷ files
file_names (Verify il derivation) = il ∷ derivation ∷ []
file_names (Prose files) = files
file_names (Latex files) = files
file_names (Make n) = []
