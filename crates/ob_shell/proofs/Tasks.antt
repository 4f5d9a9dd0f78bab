-- Lemmas on the task that the parser's matches name.
use Rattle.std.proofs.Common.{◌≡◌, ◌∙◌, List, Option, Some, None, true, false, option_map, Box, ap, refl, sym, subst, codes, bytes_eq}
use Rattle.std.proofs.lemmas.Slice.Eq.{bytes_eq-Decides}
use Rattle.std.specs.Borrow.{Bor}
use Rattle.std.specs.Box.{box_value}
use Rattle.std.specs.Option.{option_map_or}
use Rattle.clap.specs.Words.{Row, Text, first_of, first_value, rows_of, subcommand_name_of, subcommand_rows_of}
use Rattle.clap.specs.Simple.{subcommand_rows}
use Rattle.clap.specs.declared.parser.matches.ArgMatches.{ArgMatches}
use Rattle.clap.specs.declared.parser.matches.ArgMatches.TheViews.{out-ArgMatches, out-SubCommand}
use Rattle.clap.specs.declared.parser.matches.Found.{Found}
use Rattle.clap.specs.declared.parser.matches.SubCommand.{SubCommand}
use Rattle.clap.proofs.WalkLemmas.{first_value-rows}
use Rattle.ob_script_tree.specs.declared.picture.Picture.{Picture}
use Rattle.ob_shell.specs.Plan.{Named, check, is_set, picture_in, replay, run, task_of, text_of, threads, tree}

-- a subcommand with its name and its rows
used_as : {Z : Type 0} (used : Option (Box SubCommand Z)) (name : Text) (rows : List Row)
    → Some name ≡ option_map (λ b. (out-SubCommand (box_value b)).name.now) used
    → Some rows ≡ option_map (λ p. p.1) (subcommand_rows used) → subcommand_rows used ≡ Some (name, rows)
used_as None name rows same_name same_rows = cc
used_as (Some b) name rows same_name same_rows = cc

-- the subcommand `run` names the task of its path
run_is_named : (name : Text) (rows : List Row) → bytes_eq name (codes "run") ≡ true
    → task_of (Some (name, rows)) ≡ option_map run (first_of (codes "FILE") rows)
run_is_named name rows is_run = rw is_run refl

-- so does the subcommand `threads`
threads_is_named : (name : Text) (rows : List Row) → bytes_eq name (codes "threads") ≡ true
    → task_of (Some (name, rows)) ≡ option_map threads (first_of (codes "FILE") rows)
threads_is_named name rows is_threads =
    subst (λ argument. task_of (Some (argument, rows)) ≡ option_map threads (first_of (codes "FILE") rows))
    (sym ((bytes_eq-Decides name (codes "threads")).0 is_threads)) refl

-- so does the subcommand `replay`
replay_is_named : (name : Text) (rows : List Row) → bytes_eq name (codes "replay") ≡ true
    → task_of (Some (name, rows)) ≡ option_map replay (first_of (codes "FILE") rows)
replay_is_named name rows is_replay =
    subst (λ argument. task_of (Some (argument, rows)) ≡ option_map replay (first_of (codes "FILE") rows))
    (sym ((bytes_eq-Decides name (codes "replay")).0 is_replay)) refl

-- and so does the subcommand `check`
check_is_named : (name : Text) (rows : List Row) → bytes_eq name (codes "check") ≡ true
    → task_of (Some (name, rows)) ≡ option_map check (first_of (codes "FILE") rows)
check_is_named name rows is_check =
    subst (λ argument. task_of (Some (argument, rows)) ≡ option_map check (first_of (codes "FILE") rows))
    (sym ((bytes_eq-Decides name (codes "check")).0 is_check)) refl

-- so matches with a subcommand that names a task name that of the path in its matches
task_of_file : (make : Text → Named) (m : ArgMatches) (name : Text) (inside : Found) (file : Option Text)
    → Some name ≡ subcommand_name_of m → Some (rows_of inside) ≡ option_map (λ p. p.1) (subcommand_rows_of m)
    → task_of (Some (name, rows_of inside)) ≡ option_map make (first_of (codes "FILE") (rows_of inside)) → file ≡ first_value inside (codes "FILE")
    → option_map make file ≡ task_of (subcommand_rows_of m)
task_of_file make m name inside file same_name same_rows is_named is_file =
    ap (option_map make) (is_file ∙ first_value-rows inside (codes "FILE"))
    ∙ sym (ap task_of (used_as (out-ArgMatches m).subcommand name (rows_of inside) same_name same_rows) ∙ is_named)

-- by `run`
pub task_of_run : (m : ArgMatches) (name : Text) (inside : Found) (file : Option Text)
    → Some name ≡ subcommand_name_of m → Some (rows_of inside) ≡ option_map (λ p. p.1) (subcommand_rows_of m)
    → bytes_eq name (codes "run") ≡ true → file ≡ first_value inside (codes "FILE")
    → option_map run file ≡ task_of (subcommand_rows_of m)
task_of_run m name inside file same_name same_rows is_run =
    task_of_file run m name inside file same_name same_rows (run_is_named name (rows_of inside) is_run)

-- by `threads`
pub task_of_threads : (m : ArgMatches) (name : Text) (inside : Found) (file : Option Text)
    → Some name ≡ subcommand_name_of m → Some (rows_of inside) ≡ option_map (λ p. p.1) (subcommand_rows_of m)
    → bytes_eq name (codes "threads") ≡ true → file ≡ first_value inside (codes "FILE")
    → option_map threads file ≡ task_of (subcommand_rows_of m)
task_of_threads m name inside file same_name same_rows is_threads =
    task_of_file threads m name inside file same_name same_rows (threads_is_named name (rows_of inside) is_threads)

-- by `replay`
pub task_of_replay : (m : ArgMatches) (name : Text) (inside : Found) (file : Option Text)
    → Some name ≡ subcommand_name_of m → Some (rows_of inside) ≡ option_map (λ p. p.1) (subcommand_rows_of m)
    → bytes_eq name (codes "replay") ≡ true → file ≡ first_value inside (codes "FILE")
    → option_map replay file ≡ task_of (subcommand_rows_of m)
task_of_replay m name inside file same_name same_rows is_replay =
    task_of_file replay m name inside file same_name same_rows (replay_is_named name (rows_of inside) is_replay)

-- and by `check`
pub task_of_check : (m : ArgMatches) (name : Text) (inside : Found) (file : Option Text)
    → Some name ≡ subcommand_name_of m → Some (rows_of inside) ≡ option_map (λ p. p.1) (subcommand_rows_of m)
    → bytes_eq name (codes "check") ≡ true → file ≡ first_value inside (codes "FILE")
    → option_map check file ≡ task_of (subcommand_rows_of m)
task_of_check m name inside file same_name same_rows is_check =
    task_of_file check m name inside file same_name same_rows (check_is_named name (rows_of inside) is_check)

-- a switch that has a value, or none
pub set_by : (inside : Found) (id : Text) (value : Text) → Some value ≡ first_value inside id → bytes_eq value (codes "true") ≡ is_set id (rows_of inside)
set_by inside id value is = ap (λ o. option_map_or (λ v. bytes_eq v (codes "true")) o false) (is ∙ first_value-rows inside id)

pub unset_by : (inside : Found) (id : Text) → None ≡ first_value inside id → false ≡ is_set id (rows_of inside)
unset_by inside id is = ap (λ o. option_map_or (λ v. bytes_eq v (codes "true")) o false) (is ∙ first_value-rows inside id)

-- the task of a form and of a path or none
pub tree_named : (inside : Found) (picture : Picture) (file : Option (Bor Text)) → picture ≡ picture_in (rows_of inside) → text_of file ≡ first_value inside (codes "FILE")
    → tree picture (text_of file) ≡ tree (picture_in (rows_of inside)) (first_of (codes "FILE") (rows_of inside))
tree_named inside picture file is_picture is_file =
    ap (λ p. tree p (text_of file)) is_picture ∙ ap (tree (picture_in (rows_of inside))) (is_file ∙ first_value-rows inside (codes "FILE"))
