-- The program's arguments: what the parser knows of the program, and the task that arguments name.
-- Source: this profile. The parser's own arguments are those of the crate clap.
use Rattle.std.specs.Prelude.{◌≡◌, ◌⊎◌, List, [], ◌∷◌, Option, Some, None, codes, if◌then◌else◌, option_map, Bool, true, false}
use Rattle.std.specs.Borrow.{Bor}
use Rattle.std.specs.Str.{bytes_eq}
use Rattle.clap.specs.Simple.{on_top}
use Rattle.clap.specs.Words.{App, Row, Rule, Text, first_of, new_app, new_rule, with_rule, with_subcommand}
use Rattle.clap.specs.declared.builder.command.Command.{Command}
use Rattle.clap.specs.declared.builder.command.Command.TheViews.{out-Command}
use Rattle.clap.specs.declared.error.kind.ErrorKind.{ErrorKind}
use Rattle.clap.specs.declared.error.kind.ErrorKind.TheVariants as kind
use Rattle.clap.specs.declared.builder.action.ArgAction.TheVariants.{SetTrue}
use Rattle.ob_script_tree.specs.declared.picture.Picture.{Picture}
use Rattle.ob_script_tree.specs.declared.picture.Picture.TheVariants.{Lines, Json}
use Rattle.ob_tree.specs.declared.style.Style.TheVariants.{Boxes, Ascii}
use Rattle.std.specs.Option.{option_map_or}
use Rattle.ob_shell.specs.declared.planning.Task.{Task}
use Rattle.ob_shell.specs.declared.planning.Task.TheVariants as task

-- the path that a subcommand takes: one argument, which must be there
abbrev pub file_rule : Rule
file_rule = record (new_rule (codes "FILE")) { required = true }

-- the subcommand `run`
abbrev pub run_app : App
run_app = with_rule (new_app (codes "run")) file_rule

-- the subcommand `threads`
abbrev pub threads_app : App
threads_app = with_rule (new_app (codes "threads")) file_rule

-- the subcommand `replay`
abbrev pub replay_app : App
replay_app = with_rule (new_app (codes "replay")) file_rule

-- the subcommand `check`
abbrev pub check_app : App
check_app = with_rule (new_app (codes "check")) file_rule

-- the subcommand `session`, which takes no argument
abbrev pub session_app : App
session_app = new_app (codes "session")

-- the path that a subcommand may take, and a switch
abbrev pub input_rule : Rule
input_rule = new_rule (codes "FILE")

abbrev pub switch_rule : Text → Rule
switch_rule name = record (new_rule name) { long = Some name; action = Some SetTrue }

-- the subcommand `tree`
abbrev pub tree_app : App
tree_app = with_rule (with_rule (with_rule (new_app (codes "tree")) (switch_rule (codes "ascii"))) (switch_rule (codes "json"))) input_rule

-- a command that has a version: the parser adds the flags `--version` and `-V` to it, and to none of its subcommands
abbrev pub with_version : App → App
with_version app = on_top (λ shape. record shape { has_version = true }) app

-- the program: it has the subcommands `run`, `threads`, `replay`, `check`, `session` and `tree`, a version, what the parser adds to ask for help, and nothing else
abbrev pub ntns : App
ntns = with_version
    (with_subcommand (with_subcommand (with_subcommand (with_subcommand (with_subcommand (with_subcommand (new_app (codes "ntns")) run_app.top) threads_app.top) replay_app.top) check_app.top)
    session_app.top) tree_app.top)

-- a text that help shows, where there is one
abbrev pub text_of : Option (Bor Text) → Option Text
text_of text = option_map (λ t. t.now) text

-- what help says that a command does
abbrev pub about_of : Command → Option Text
about_of command = text_of (out-Command command).about

-- what help says at its end
abbrev pub examples_of : Command → Option Text
examples_of command = text_of (out-Command command).after_help

-- what `--version` prints after a command's name
abbrev pub version_of : Command → Option Text
version_of command = text_of (out-Command command).version

-- the program's version, and the kit and the logic that it is proved with
abbrev pub ntns_version : Text
ntns_version = codes "1.0.0 (rattle-kit-13f logic dac8208d650f15bf)"

-- what help says of the program, of each subcommand, and of the path
abbrev pub ntns_about : Text
ntns_about = codes "Runs a script of namespace commands, by default from standard input, and prints one reply a line"

-- an example of each task
abbrev pub ntns_examples : Text
ntns_examples = codes "Examples:\n  ntns < script.ntns                       Runs the script on standard input\n  ntns run script.ntns                     Runs the script in a file\n  ntns threads workers.ntns > journal.txt  Runs a script with workers, and keeps its journal\n  ntns replay journal.txt                  Checks that journal\n  ntns check script.ntns                   Reports the lines that are wrong, and runs none\n  ntns session                             Replies to each line as it is typed\n  ntns tree script.ntns                    Shows the namespace that a script leaves"

abbrev pub run_about : Text
run_about = codes "Runs the script in FILE"

abbrev pub threads_about : Text
threads_about = codes "Runs the script with workers in FILE, and prints its journal"

abbrev pub replay_about : Text
replay_about = codes "Checks the journal in FILE, and prints the verdict"

abbrev pub check_about : Text
check_about = codes "Reports each line of the script in FILE that is wrong, and its column, and runs none"

abbrev pub session_about : Text
session_about = codes "Runs each line of standard input as it comes, and prints its reply before it reads the next one"

abbrev pub tree_about : Text
tree_about = codes "Runs the script in FILE, and shows the namespace that it leaves in place of replies"

abbrev pub input_help : Text
input_help = codes "The path of the file, taken as it is; standard input without it"

abbrev pub file_help : Text
file_help = codes "The path of the file, taken as it is"

-- a task by its arguments
pub data Named : Type 0 where
  script : Named
  run : Text → Named
  threads : Text → Named
  replay : Text → Named
  check : Text → Named
  session : Named
  tree : Picture → Option Text → Named

abbrev pub named : Task → Named
named task.Script = script
named (task.Run file) = run file.now
named (task.Threads file) = threads file.now
named (task.Replay file) = replay file.now
named (task.Check file) = check file.now
named task.Session = session
named (task.Tree file picture) = tree picture (text_of file)

-- whether a switch is set, and the form of a tree that the switches ask for
abbrev pub is_set : Text → List Row → Bool
is_set name rows = option_map_or (λ value. bytes_eq value (codes "true")) (first_of name rows) false

abbrev pub picture_in : List Row → Picture
picture_in rows = if is_set (codes "json") rows then Json else (if is_set (codes "ascii") rows then Lines Ascii else Lines Boxes)

-- the task that a subcommand names, where there is one
abbrev pub task_of : Option (Text × List Row) → Option Named
task_of None = Some script
task_of (Some used) = if bytes_eq used.0 (codes "run") then option_map run (first_of (codes "FILE") used.1)
    else (if bytes_eq used.0 (codes "threads") then option_map threads (first_of (codes "FILE") used.1)
    else (if bytes_eq used.0 (codes "replay") then option_map replay (first_of (codes "FILE") used.1)
    else (if bytes_eq used.0 (codes "check") then option_map check (first_of (codes "FILE") used.1)
    else (if bytes_eq used.0 (codes "session") then Some session
    else (if bytes_eq used.0 (codes "tree") then Some (tree (picture_in used.1) (first_of (codes "FILE") used.1)) else None)))))

-- no argument follows the program's name, or `--` alone, which ends the flags
abbrev pub IsBare : List Text → Type 0
IsBare [] = Unit {0}
IsBare (name ∷ []) = Unit {0}
IsBare (name ∷ argument ∷ []) = argument ≡ codes "--"
IsBare (name ∷ argument ∷ next ∷ rest) = ⊥

-- the arguments after a subcommand are the file's path, with `--` before or after it or without
abbrev pub IsFileIn : Text → List Text → Type 0
IsFileIn file [] = ⊥
IsFileIn file (argument ∷ []) = argument ≡ file
IsFileIn file (argument ∷ next ∷ []) = ((argument ≡ codes "--") × (next ≡ file)) ⊎ ((argument ≡ file) × (next ≡ codes "--"))
IsFileIn file (argument ∷ next ∷ last ∷ rest) = ⊥

-- the arguments are the program's name, the subcommand's, and the file's path
abbrev pub IsOverFile : Text → Text → List Text → Type 0
IsOverFile command file [] = ⊥
IsOverFile command file (name ∷ []) = ⊥
IsOverFile command file (name ∷ argument ∷ rest) = (argument ≡ command) × IsFileIn file rest

-- nothing follows a subcommand that takes no argument, or `--` alone
abbrev pub IsNothingMore : List Text → Type 0
IsNothingMore [] = Unit {0}
IsNothingMore (argument ∷ []) = argument ≡ codes "--"
IsNothingMore (argument ∷ next ∷ rest) = ⊥

-- the arguments are the program's name and the subcommand's
abbrev pub IsAlone : Text → List Text → Type 0
IsAlone command [] = ⊥
IsAlone command (name ∷ []) = ⊥
IsAlone command (name ∷ argument ∷ rest) = (argument ≡ command) × IsNothingMore rest

-- the arguments are the program's name, the subcommand's, and others
abbrev pub IsUnder : Text → List Text → Type 0
IsUnder command [] = ⊥
IsUnder command (name ∷ []) = ⊥
IsUnder command (name ∷ argument ∷ rest) = argument ≡ command

-- the arguments that name the task
abbrev pub Spells : List Text → Named → Type 0
Spells arguments script = IsBare arguments
Spells arguments (run file) = IsOverFile (codes "run") file arguments
Spells arguments (threads file) = IsOverFile (codes "threads") file arguments
Spells arguments (replay file) = IsOverFile (codes "replay") file arguments
Spells arguments (check file) = IsOverFile (codes "check") file arguments
Spells arguments session = IsAlone (codes "session") arguments
Spells arguments (tree picture file) = IsUnder (codes "tree") arguments

-- a mistake in the arguments, or out of memory
abbrev pub IsMistakeOrWant : ErrorKind → Type 0
IsMistakeOrWant k = (k ≡ kind.InvalidValue) ⊎ (k ≡ kind.OutOfMemory)
