-- Which arguments are no fault of the program's, and which task they name.
use Rattle.std.proofs.Common.{◌≡◌, ◌⊎◌, ◌∙◌, ◌||◌, Bool, true, false, if◌then◌else◌, List, [], ◌∷◌, Option, Some, None, refl, sym, ap, subst, bytes_eq, codes, inl, inr, option_map}
use Rattle.std.proofs.lemmas.Slice.Eq.{bytes_eq-Decides}
use Rattle.clap.specs.Walk.{Held, Names, Step, Walk, after_step, arg_by_index, finished, has_long, has_short, idle, long_or_other, nothing_held, rows_after, stop_after, subcommand_or_other, to_positional, trailing, value, walk_from, walked}
use Rattle.clap.specs.Faults.{entered_fault, flag_word_fault, level_fault, other_fault, step_fault, turn_fault, walk_fault}
use Rattle.clap.specs.Kinds.{Kinds, or_else}
use Rattle.clap.specs.Lexer.{long_of}
use Rattle.clap.specs.Simple.{Shape, built_leaf, entered, inherited, marked_built, names_of, with_leaf_noted}
use Rattle.clap.specs.declared.error.Error.{Error}
use Rattle.clap.specs.Words.{App, HasKind, Row, Text, built, fault_of, first_of, is_simple, is_simple_and_free, new_app, subcommand_of, with_rule}
use Rattle.clap.proofs.OnLiterals.{clap_on_literals}
use Rattle.clap.proofs.WalkLemmas.{walk_stopped}
use Rattle.ob_shell.specs.Plan.{IsFileIn, IsNothingMore, Named, Spells, check, file_rule, ntns, picture_in, replay, run, script, session, task_of, threads, tree, tree_app}
use Rattle.ob_shell.proofs.Flags.{HasOnlyRequests, dashes, dashes_alone, help, long_is_plain, or_else_next, or_else_none, version}

-- the program, as the parser builds it
abbrev top : Shape
top = (built ntns).top

abbrev names : Names
names = names_of (built ntns)

abbrev run_argument : Text
run_argument = codes "run"

abbrev threads_argument : Text
threads_argument = codes "threads"

abbrev replay_argument : Text
replay_argument = codes "replay"

abbrev check_argument : Text
check_argument = codes "check"

abbrev session_argument : Text
session_argument = codes "session"

abbrev tree_argument : Text
tree_argument = codes "tree"

abbrev help_argument : Text
help_argument = codes "help"

top_has_only_requests : HasOnlyRequests top.rules
top_has_only_requests = record {
  by_long = λ name. (has_long help name, (has_long version name, refl));
  by_short = λ letter. (has_short help letter, (has_short version letter, refl));
}

-- the names of the subcommands, which have no others
abbrev run_name : Text × List Text
run_name = (run_argument, [])

abbrev threads_name : Text × List Text
threads_name = (threads_argument, [])

abbrev replay_name : Text × List Text
replay_name = (replay_argument, [])

abbrev check_name : Text × List Text
check_name = (check_argument, [])

abbrev session_name : Text × List Text
session_name = (session_argument, [])

abbrev tree_name : Text × List Text
tree_name = (tree_argument, [])

abbrev help_name : Text × List Text
help_name = (help_argument, [])

-- the subcommand that a argument names, by the names
abbrev met_by : Bool → Bool → Bool → Bool → Bool → Bool → Bool → Option Text
met_by is_run is_threads is_replay is_check is_session is_tree is_help = option_map (λ s. s.0)
    (if is_run || false then Some run_name else (if is_threads || false then Some threads_name
    else (if is_replay || false then Some replay_name else (if is_check || false then Some check_name
    else (if is_session || false then Some session_name else (if is_tree || false then Some tree_name else (if is_help || false then Some help_name else None)))))))

-- a first argument is `run`, `threads`, `replay`, `check`, `session`, `tree` or `--`
abbrev IsFirst : Bool → Bool → Bool → Bool → Bool → Bool → Text → Type 0
IsFirst is_run is_threads is_replay is_check is_session is_tree argument =
    (is_run ≡ true) ⊎ ((is_threads ≡ true) ⊎ ((is_replay ≡ true) ⊎ ((is_check ≡ true) ⊎ ((is_session ≡ true) ⊎ ((is_tree ≡ true) ⊎ (argument ≡ dashes))))))

first_turn : (is_run is_threads is_replay is_check is_session is_tree is_help : Bool) (argument : Text)
    → or_else (other_fault top (met_by is_run is_threads is_replay is_check is_session is_tree is_help) argument nothing_held)
    (step_fault top 1
    (subcommand_or_other top.rules (met_by is_run is_threads is_replay is_check is_session is_tree is_help) idle 1 argument nothing_held).0
    (subcommand_or_other top.rules (met_by is_run is_threads is_replay is_check is_session is_tree is_help) idle 1 argument nothing_held).1) ≡ []
    → IsFirst is_run is_threads is_replay is_check is_session is_tree argument
first_turn true is_threads is_replay is_check is_session is_tree is_help argument none = inl refl
first_turn false true is_replay is_check is_session is_tree is_help argument none = inr (inl refl)
first_turn false false true is_check is_session is_tree is_help argument none = inr (inr (inl refl))
first_turn false false false true is_session is_tree is_help argument none = inr (inr (inr (inl refl)))
first_turn false false false false true is_tree is_help argument none = inr (inr (inr (inr (inl refl))))
first_turn false false false false false true is_help argument none = inr (inr (inr (inr (inr (inl refl)))))
first_turn false false false false false false true argument none = cc
first_turn false false false false false false false argument none =
    inr (inr (inr (inr (inr (inr (dashes_alone top top_has_only_requests 1 refl None argument none))))))

-- what a first argument without a fault is
abbrev IsFirstArgument : Text → Type 0
IsFirstArgument argument =
    (argument ≡ run_argument) ⊎ ((argument ≡ threads_argument) ⊎ ((argument ≡ replay_argument) ⊎ ((argument ≡ check_argument) ⊎ ((argument ≡ session_argument)
    ⊎ ((argument ≡ tree_argument) ⊎ (argument ≡ dashes))))))

first_argument : (argument : Text) → turn_fault top names (walk_from nothing_held) argument ≡ [] → IsFirstArgument argument
first_argument argument none =
    elim (first_turn (bytes_eq run_argument argument) (bytes_eq threads_argument argument) (bytes_eq replay_argument argument) (bytes_eq check_argument argument) (bytes_eq session_argument argument) (bytes_eq tree_argument argument) (bytes_eq help_argument argument) argument none) [
      | inl is_run ↦ inl (sym ((bytes_eq-Decides run_argument argument).0 is_run))
      | inr (inl is_threads) ↦ inr (inl (sym ((bytes_eq-Decides threads_argument argument).0 is_threads)))
      | inr (inr (inl is_replay)) ↦ inr (inr (inl (sym ((bytes_eq-Decides replay_argument argument).0 is_replay))))
      | inr (inr (inr (inl is_check))) ↦ inr (inr (inr (inl (sym ((bytes_eq-Decides check_argument argument).0 is_check)))))
      | inr (inr (inr (inr (inl is_session)))) ↦ inr (inr (inr (inr (inl (sym ((bytes_eq-Decides session_argument argument).0 is_session))))))
      | inr (inr (inr (inr (inr (inl is_tree))))) ↦ inr (inr (inr (inr (inr (inl (sym ((bytes_eq-Decides tree_argument argument).0 is_tree)))))))
      | inr (inr (inr (inr (inr (inr is_dashes))))) ↦ inr (inr (inr (inr (inr (inr is_dashes)))))
    ]

-- ---- the arguments behind a subcommand

module _ (command : Text) where
  -- the subcommand, as the parser builds it
  abbrev inner : Shape
  inner = built_leaf (inherited (with_leaf_noted (marked_built ntns.top)) (with_rule (new_app command) file_rule).top)

  inner_has_only_requests : HasOnlyRequests inner.rules
  inner_has_only_requests = record {
    by_long = λ name. (has_long help name, (false, refl));
    by_short = λ letter. (has_short help letter, (false, refl));
  }

  -- where the walk over them stands after a argument that is the path
  abbrev after_file : Text → Walk
  after_file file = to_positional inner.rules (arg_by_index inner.rules 1) file (walk_from nothing_held) nothing_held

  dashes_or_plain : (is_dashes : Bool) (argument : Text) (more : Kinds)
      → or_else (if is_dashes then [] else flag_word_fault inner.rules false (long_of argument) argument nothing_held) more ≡ []
      → (is_dashes ≡ true) ⊎ ((if is_dashes then (nothing_held, trailing 1) else long_or_other inner.rules idle argument (long_of argument) nothing_held) ≡ (nothing_held, value))
  dashes_or_plain true argument more none = inl refl
  dashes_or_plain false argument more none = inr (long_is_plain inner.rules inner_has_only_requests None argument (long_of argument) (or_else_none _ _ none))

  -- the first of them is `--` or the path
  inner_argument : (argument : Text) → turn_fault inner [] (walk_from nothing_held) argument ≡ []
      → (argument ≡ dashes) ⊎ (walked inner.rules [] (walk_from nothing_held) argument ≡ after_file argument)
  unfolding walked
  inner_argument argument none = elim (dashes_or_plain (bytes_eq argument dashes) argument _ none) [
    | inl is_dashes ↦ inl ((bytes_eq-Decides argument dashes).0 is_dashes)
    | inr same ↦ inr (ap (λ (met : Held × Step). after_step inner.rules argument (walk_from nothing_held) met.0 met.1) same)
  ]

  -- a argument behind the path is `--`
  next_argument : (file argument : Text) → turn_fault inner [] (after_file file) argument ≡ [] → argument ≡ dashes
  next_argument file argument none = dashes_alone inner inner_has_only_requests 2 refl (Some (codes "FILE", file ∷ [])) argument none

  -- and a argument behind that is a fault
  last_is_fault : (file last : Text) (rest : List Text) → walk_fault inner [] (walked inner.rules [] (after_file file) dashes) (last ∷ rest) ≡ [] → ⊥
  unfolding walk_fault walked
  last_is_fault file last rest none = cc

  behind_file : (file : Text) (rest : List Text) → walk_fault inner [] (after_file file) rest ≡ [] → (rest ≡ []) ⊎ (rest ≡ dashes ∷ [])
  unfolding walk_fault
  behind_file file [] none = inl refl
  behind_file file (argument ∷ []) none = inr (ap (λ (w : Text). w ∷ []) (next_argument file argument (or_else_none _ _ none)))
  behind_file file (argument ∷ last ∷ rest) none =
      let same : argument ≡ dashes = next_argument file argument (or_else_none _ _ none) in
      let later : walk_fault inner [] (walked inner.rules [] (after_file file) argument) (last ∷ rest) ≡ [] = or_else_next _ _ none in
      absurd (last_is_fault file last rest (subst (λ w. walk_fault inner [] (walked inner.rules [] (after_file file) w) (last ∷ rest) ≡ []) same later))

  abbrev rows_after_walk : Walk → List Row
  rows_after_walk w = finished inner.rules w.held

  -- the arguments name a file, which the rows hold
  abbrev NamesFile : List Text → Type 0
  NamesFile arguments = (file : Text) × ((first_of (codes "FILE") (rows_after inner.rules [] arguments) ≡ Some file) × IsFileIn file arguments)

  abbrev no_fault : List Text → Type 0
  no_fault arguments = level_fault inner [] nothing_held arguments false [] ≡ []

  none_is_fault : no_fault [] → ⊥
  unfolding clap_on_literals
  none_is_fault none = cc

  behind_dashes : (rest : List Text) → no_fault (dashes ∷ rest) → NamesFile (dashes ∷ rest)
  unfolding clap_on_literals
  behind_dashes [] none = cc
  behind_dashes (file ∷ []) none = (file, (refl, inl (refl, refl)))
  behind_dashes (file ∷ argument ∷ rest) none = cc

  rows_before_dashes : (file : Text) → first_of (codes "FILE") (rows_after_walk (walked inner.rules [] (after_file file) dashes)) ≡ Some file
  unfolding walked
  rows_before_dashes file = refl

  names_plain : (file : Text) (rest : List Text) → walked inner.rules [] (walk_from nothing_held) file ≡ after_file file
      → (rest ≡ []) ⊎ (rest ≡ dashes ∷ []) → NamesFile (file ∷ rest)
  names_plain file rest same (inl end) = subst (λ arguments. NamesFile (file ∷ arguments)) (sym end)
      (file, (ap (λ (w : Walk). first_of (codes "FILE") (rows_after_walk w)) same, refl))
  names_plain file rest same (inr end) = subst (λ arguments. NamesFile (file ∷ arguments)) (sym end)
      (file, (ap (λ (w : Walk). first_of (codes "FILE") (rows_after_walk (walked inner.rules [] w dashes))) same ∙ rows_before_dashes file, inr (refl, refl)))

  turns : (argument : Text) (rest : List Text) → no_fault (argument ∷ rest)
      → (turn_fault inner [] (walk_from nothing_held) argument ≡ []) × (walk_fault inner [] (walked inner.rules [] (walk_from nothing_held) argument) rest ≡ [])
  unfolding walk_fault
  turns argument rest none = (or_else_none _ _ (or_else_none _ _ none), or_else_next _ _ (or_else_none _ _ none))

  names_by_first : (argument : Text) (rest : List Text) → no_fault (argument ∷ rest)
      → (argument ≡ dashes) ⊎ (walked inner.rules [] (walk_from nothing_held) argument ≡ after_file argument) → NamesFile (argument ∷ rest)
  names_by_first argument rest none (inl same) =
      subst (λ w. NamesFile (w ∷ rest)) (sym same) (behind_dashes rest (subst (λ w. no_fault (w ∷ rest)) same none))
  names_by_first argument rest none (inr same) =
      names_plain argument rest same (behind_file argument rest (subst (λ w. walk_fault inner [] w rest ≡ []) same (turns argument rest none).1))

  names_file : (arguments : List Text) → no_fault arguments → NamesFile arguments
  names_file [] none = absurd (none_is_fault none)
  names_file (argument ∷ rest) none = names_by_first argument rest none (inner_argument argument (turns argument rest none).0)

-- ---- the arguments behind the program's name

-- what follows a subcommand is left to it
left_to_run : (rest : List Text) → stop_after top.rules names (run_argument ∷ rest) ≡ Some (run_argument, rest)
unfolding walked
left_to_run rest = sym (ap (λ (w : Walk). w.stopped) (walk_stopped top.rules names (walk_from nothing_held) run_argument [] rest))

left_to_threads : (rest : List Text) → stop_after top.rules names (threads_argument ∷ rest) ≡ Some (threads_argument, rest)
unfolding walked
left_to_threads rest = sym (ap (λ (w : Walk). w.stopped) (walk_stopped top.rules names (walk_from nothing_held) threads_argument [] rest))

left_to_replay : (rest : List Text) → stop_after top.rules names (replay_argument ∷ rest) ≡ Some (replay_argument, rest)
unfolding walked
left_to_replay rest = sym (ap (λ (w : Walk). w.stopped) (walk_stopped top.rules names (walk_from nothing_held) replay_argument [] rest))

left_to_check : (rest : List Text) → stop_after top.rules names (check_argument ∷ rest) ≡ Some (check_argument, rest)
unfolding walked
left_to_check rest = sym (ap (λ (w : Walk). w.stopped) (walk_stopped top.rules names (walk_from nothing_held) check_argument [] rest))

left_to_session : (rest : List Text) → stop_after top.rules names (session_argument ∷ rest) ≡ Some (session_argument, rest)
unfolding walked
left_to_session rest = sym (ap (λ (w : Walk). w.stopped) (walk_stopped top.rules names (walk_from nothing_held) session_argument [] rest))

left_to_tree : (rest : List Text) → stop_after top.rules names (tree_argument ∷ rest) ≡ Some (tree_argument, rest)
unfolding walked
left_to_tree rest = sym (ap (λ (w : Walk). w.stopped) (walk_stopped top.rules names (walk_from nothing_held) tree_argument [] rest))

no_fault_below : (name : Text) (arguments : List Text) → fault_of ntns (name ∷ arguments) ≡ [] → entered_fault (built ntns) (stop_after top.rules names arguments) ≡ []
no_fault_below name arguments none = or_else_none _ _ (or_else_next _ _ none)

-- the arguments name a task
abbrev NamesTask : List Text → Type 0
NamesTask arguments = (task : Named) × ((task_of (subcommand_of ntns arguments) ≡ Some task) × Spells arguments task)

names_run : (name : Text) (rest : List Text) → fault_of ntns (name ∷ run_argument ∷ rest) ≡ [] → NamesTask (name ∷ run_argument ∷ rest)
names_run name rest none =
    let below : no_fault run_argument rest = subst (λ stop. entered_fault (built ntns) stop ≡ []) (left_to_run rest) (no_fault_below name (run_argument ∷ rest) none) in
    let found : NamesFile run_argument rest = names_file run_argument rest below in
    let rows : subcommand_of ntns (name ∷ run_argument ∷ rest) ≡ Some (run_argument, rows_after (inner run_argument).rules [] rest) = ap (entered (built ntns)) (left_to_run rest) in
    (run found.0, (ap task_of rows ∙ ap (option_map run) found.1.0, (refl, found.1.1)))

names_threads : (name : Text) (rest : List Text) → fault_of ntns (name ∷ threads_argument ∷ rest) ≡ [] → NamesTask (name ∷ threads_argument ∷ rest)
names_threads name rest none =
    let below : no_fault threads_argument rest = subst (λ stop. entered_fault (built ntns) stop ≡ []) (left_to_threads rest) (no_fault_below name (threads_argument ∷ rest) none) in
    let found : NamesFile threads_argument rest = names_file threads_argument rest below in
    let rows : subcommand_of ntns (name ∷ threads_argument ∷ rest) ≡ Some (threads_argument, rows_after (inner threads_argument).rules [] rest) = ap (entered (built ntns)) (left_to_threads rest) in
    (threads found.0, (ap task_of rows ∙ ap (option_map threads) found.1.0, (refl, found.1.1)))

names_replay : (name : Text) (rest : List Text) → fault_of ntns (name ∷ replay_argument ∷ rest) ≡ [] → NamesTask (name ∷ replay_argument ∷ rest)
names_replay name rest none =
    let below : no_fault replay_argument rest = subst (λ stop. entered_fault (built ntns) stop ≡ []) (left_to_replay rest) (no_fault_below name (replay_argument ∷ rest) none) in
    let found : NamesFile replay_argument rest = names_file replay_argument rest below in
    let rows : subcommand_of ntns (name ∷ replay_argument ∷ rest) ≡ Some (replay_argument, rows_after (inner replay_argument).rules [] rest) = ap (entered (built ntns)) (left_to_replay rest) in
    (replay found.0, (ap task_of rows ∙ ap (option_map replay) found.1.0, (refl, found.1.1)))

names_check : (name : Text) (rest : List Text) → fault_of ntns (name ∷ check_argument ∷ rest) ≡ [] → NamesTask (name ∷ check_argument ∷ rest)
names_check name rest none =
    let below : no_fault check_argument rest = subst (λ stop. entered_fault (built ntns) stop ≡ []) (left_to_check rest) (no_fault_below name (check_argument ∷ rest) none) in
    let found : NamesFile check_argument rest = names_file check_argument rest below in
    let rows : subcommand_of ntns (name ∷ check_argument ∷ rest) ≡ Some (check_argument, rows_after (inner check_argument).rules [] rest) = ap (entered (built ntns)) (left_to_check rest) in
    (check found.0, (ap task_of rows ∙ ap (option_map check) found.1.0, (refl, found.1.1)))

-- the subcommand `session`, as the parser builds it
abbrev alone : Shape
alone = built_leaf (inherited (with_leaf_noted (marked_built ntns.top)) (new_app session_argument).top)

alone_has_only_requests : HasOnlyRequests alone.rules
alone_has_only_requests = record {
  by_long = λ name. (has_long help name, (false, refl));
  by_short = λ letter. (has_short help letter, (false, refl));
}

-- an argument after it is `--`
argument_alone : (argument : Text) → turn_fault alone [] (walk_from nothing_held) argument ≡ [] → argument ≡ dashes
argument_alone argument none = dashes_alone alone alone_has_only_requests 1 refl None argument none

abbrev no_fault_alone : List Text → Type 0
no_fault_alone arguments = level_fault alone [] nothing_held arguments false [] ≡ []

first_alone : (argument : Text) (rest : List Text) → no_fault_alone (argument ∷ rest) → turn_fault alone [] (walk_from nothing_held) argument ≡ []
unfolding walk_fault
first_alone argument rest none = or_else_none _ _ (or_else_none _ _ none)

dashes_last : (argument : Text) (rest : List Text) → no_fault_alone (dashes ∷ argument ∷ rest) → ⊥
unfolding clap_on_literals
dashes_last argument rest none = cc

is_nothing : (arguments : List Text) → no_fault_alone arguments → IsNothingMore arguments
is_nothing [] none = tt
is_nothing (argument ∷ []) none = argument_alone argument (first_alone argument [] none)
is_nothing (argument ∷ next ∷ rest) none =
    let same : argument ≡ dashes = argument_alone argument (first_alone argument (next ∷ rest) none) in
    absurd (dashes_last next rest (subst (λ w. no_fault_alone (w ∷ next ∷ rest)) same none))

names_session : (name : Text) (rest : List Text) → fault_of ntns (name ∷ session_argument ∷ rest) ≡ [] → NamesTask (name ∷ session_argument ∷ rest)
names_session name rest none =
    let below : no_fault_alone rest = subst (λ stop. entered_fault (built ntns) stop ≡ []) (left_to_session rest) (no_fault_below name (session_argument ∷ rest) none) in
    let rows : subcommand_of ntns (name ∷ session_argument ∷ rest) ≡ Some (session_argument, rows_after alone.rules [] rest) = ap (entered (built ntns)) (left_to_session rest) in
    (session, (ap task_of rows, (refl, is_nothing rest below)))

-- the subcommand `tree`, as the parser builds it
abbrev drawn : Shape
drawn = built_leaf (inherited (with_leaf_noted (marked_built ntns.top)) tree_app.top)

names_tree : (name : Text) (rest : List Text) → NamesTask (name ∷ tree_argument ∷ rest)
names_tree name rest =
    let rows : subcommand_of ntns (name ∷ tree_argument ∷ rest) ≡ Some (tree_argument, rows_after drawn.rules [] rest) = ap (entered (built ntns)) (left_to_tree rest) in
    let found : List Row = rows_after drawn.rules [] rest in
    (tree (picture_in found) (first_of (codes "FILE") found), (ap task_of rows, refl))

names_dashes : (name : Text) (rest : List Text) → fault_of ntns (name ∷ dashes ∷ rest) ≡ [] → NamesTask (name ∷ dashes ∷ rest)
unfolding clap_on_literals
names_dashes name [] none = (script, (refl, refl))
names_dashes name (argument ∷ rest) none = cc

names_by : (name argument : Text) (rest : List Text) → fault_of ntns (name ∷ argument ∷ rest) ≡ [] → IsFirstArgument argument → NamesTask (name ∷ argument ∷ rest)
names_by name argument rest none (inl same) =
    subst (λ w. NamesTask (name ∷ w ∷ rest)) (sym same) (names_run name rest (subst (λ w. fault_of ntns (name ∷ w ∷ rest) ≡ []) same none))
names_by name argument rest none (inr (inl same)) =
    subst (λ w. NamesTask (name ∷ w ∷ rest)) (sym same) (names_threads name rest (subst (λ w. fault_of ntns (name ∷ w ∷ rest) ≡ []) same none))
names_by name argument rest none (inr (inr (inl same))) =
    subst (λ w. NamesTask (name ∷ w ∷ rest)) (sym same) (names_replay name rest (subst (λ w. fault_of ntns (name ∷ w ∷ rest) ≡ []) same none))
names_by name argument rest none (inr (inr (inr (inl same)))) =
    subst (λ w. NamesTask (name ∷ w ∷ rest)) (sym same) (names_check name rest (subst (λ w. fault_of ntns (name ∷ w ∷ rest) ≡ []) same none))
names_by name argument rest none (inr (inr (inr (inr (inl same))))) =
    subst (λ w. NamesTask (name ∷ w ∷ rest)) (sym same) (names_session name rest (subst (λ w. fault_of ntns (name ∷ w ∷ rest) ≡ []) same none))
names_by name argument rest none (inr (inr (inr (inr (inr (inl same)))))) = subst (λ w. NamesTask (name ∷ w ∷ rest)) (sym same) (names_tree name rest)
names_by name argument rest none (inr (inr (inr (inr (inr (inr same)))))) =
    subst (λ w. NamesTask (name ∷ w ∷ rest)) (sym same) (names_dashes name rest (subst (λ w. fault_of ntns (name ∷ w ∷ rest) ≡ []) same none))

first_turn_passes : (name argument : Text) (rest : List Text) → fault_of ntns (name ∷ argument ∷ rest) ≡ [] → turn_fault top names (walk_from nothing_held) argument ≡ []
unfolding walk_fault
first_turn_passes name argument rest none = or_else_none _ _ (or_else_none _ _ none)

-- arguments without a fault name a task
pub faultless_names : (arguments : List Text) → fault_of ntns arguments ≡ [] → (task : Named) × ((task_of (subcommand_of ntns arguments) ≡ Some task) × Spells arguments task)
faultless_names [] none = (script, (refl, tt))
faultless_names (name ∷ []) none = (script, (refl, tt))
faultless_names (name ∷ argument ∷ rest) none = names_by name argument rest none (first_argument argument (first_turn_passes name argument rest none))

-- ---- what the parser states for an app that is the program, it states for the program

pub faultless_as_stated : (app : App) (arguments : List Text) → app ≡ ntns → (is_simple_and_free app ≡ true → fault_of app arguments ≡ []) → fault_of ntns arguments ≡ []
faultless_as_stated app arguments same none =
    let simple : is_simple_and_free app ≡ true = ap is_simple_and_free same in
    subst (λ a. fault_of a arguments ≡ []) same (none simple)

pub kinds_as_stated : (app : App) (arguments : List Text) (fault : Error) → app ≡ ntns → (is_simple_and_free app ≡ true → HasKind (fault_of app arguments) fault) → HasKind (fault_of ntns arguments) fault
kinds_as_stated app arguments fault same has =
    let simple : is_simple_and_free app ≡ true = ap is_simple_and_free same in
    subst (λ a. HasKind (fault_of a arguments) fault) same (has simple)

pub used_as_stated : {X : Type 0} (app : App) (arguments : List Text) (used : Option (Text × List Row)) → app ≡ ntns
    → (is_simple app ≡ true → X × (used ≡ subcommand_of app arguments)) → used ≡ subcommand_of ntns arguments
used_as_stated app arguments used same stated =
    let simple : is_simple app ≡ true = ap is_simple same in
    subst (λ a. used ≡ subcommand_of a arguments) same (stated simple).1

none_is_some : (task : Named) → ◌≡◌ {A = Option Named} None (Some task) → ⊥
none_is_some task same = cc

same_some : (one other : Named) → ◌≡◌ {A = Option Named} (Some one) (Some other) → one ≡ other
same_some one other same = cc

-- so a task is named,
pub some_task : (arguments : List Text) (used : Option (Text × List Row)) → fault_of ntns arguments ≡ [] → used ≡ subcommand_of ntns arguments → None ≡ task_of used → ⊥
some_task arguments used none same nothing =
    let found = faultless_names arguments none in
    none_is_some found.0 (nothing ∙ ap task_of same ∙ found.1.0)

-- and the arguments spell it
pub task_is_spelled : (arguments : List Text) (used : Option (Text × List Row)) (task : Named) → fault_of ntns arguments ≡ [] → used ≡ subcommand_of ntns arguments
    → Some task ≡ task_of used → Spells arguments task
task_is_spelled arguments used task none same is_task =
    let found = faultless_names arguments none in
    subst (Spells arguments) (sym (same_some task found.0 (is_task ∙ ap task_of same ∙ found.1.0))) found.1.1
