-- Variables: the processes that process variables name, and what is kept for the handle variables of each process.
--
-- Source: this profile.
use Rattle.std.specs.Prelude.{ℕ, Bool, ◌&&◌, ◌==◌, if◌then◌else◌, List, codes}
use Rattle.std.specs.List.{list_any}
use Rattle.std.specs.Str.{bytes_eq}

-- the process of each process variable, and what is kept for each handle variable of each process: 0 where a variable was
-- never set, which is no process and no handle
pub record Variables : Type 0 where
  pub processes : List ℕ → ℕ
  pub values : ℕ → List ℕ → ℕ
  -- the context that is kept for each handle variable of each process: where the next page of a directory begins
  pub contexts : ℕ → List ℕ → ℕ
  -- the ticket of the open that waits under each handle variable of each process: 0 where none does
  pub tickets : ℕ → List ℕ → ℕ

-- at first `p1` is process 1, and no other variable was set
abbrev pub first_variables : Variables
first_variables = record {
  processes = λ variable. if bytes_eq variable (codes "p1") then 1 else 0;
  values = λ process variable. 0;
  contexts = λ process variable. 0;
  tickets = λ process variable. 0;
}

module _ {N : Type 0} where
  -- the same numbers of variables, except for one variable
  abbrev pub with_number : (List ℕ → N) → List ℕ → N → List ℕ → N
  with_number numbers variable number w = if bytes_eq variable w then number else numbers w

  -- the same numbers of each process, except for those of one process
  abbrev pub with_own : (ℕ → N) → ℕ → N → ℕ → N
  with_own numbers process own p = if process == p then own else numbers p

-- the same numbers of the variables of each process, except for one variable of one process
abbrev pub with_number_of : {N : Type 0} → (ℕ → List ℕ → N) → ℕ → List ℕ → N → ℕ → List ℕ → N
with_number_of numbers process variable number = with_own numbers process (with_number (numbers process) variable number)

-- the same variables, except for one process variable
abbrev pub with_process : Variables → List ℕ → ℕ → Variables
with_process variables variable process = record variables { processes = with_number variables.processes variable process }

-- the same variables, but the handle variables of one process have these values, and none of them a context
abbrev pub with_variables : Variables → ℕ → (List ℕ → ℕ) → Variables
with_variables variables process values = record variables { values = with_own variables.values process values; contexts = with_own variables.contexts process (λ variable. 0) }

-- the same variables, but one handle variable of a process has this value, and no context
abbrev pub with_variable : Variables → ℕ → List ℕ → ℕ → Variables
with_variable variables process variable value =
    record variables { values = with_number_of variables.values process variable value; contexts = with_number_of variables.contexts process variable 0 }

-- the same variables, but no handle variable of this process is set
abbrev pub without_variables : Variables → ℕ → Variables
without_variables variables process = with_variables variables process (λ variable. 0)

-- the same variables, but this context is kept for one handle variable of a process
abbrev pub with_context : Variables → ℕ → List ℕ → ℕ → Variables
with_context variables process variable context = record variables { contexts = with_number_of variables.contexts process variable context }

-- the same variables, but the open that waits under one handle variable of a process has this ticket; 0: none waits
abbrev pub with_ticket : Variables → ℕ → List ℕ → ℕ → Variables
with_ticket variables process variable ticket = record variables { tickets = with_number_of variables.tickets process variable ticket }

-- the value is one of these
abbrev pub is_among : List ℕ → ℕ → Bool
is_among handles value = list_any (λ handle. handle == value) handles

-- the variables of a process that are handed on, where any are: those whose values are among these
abbrev pub handed_on : (List ℕ → ℕ) → Bool → List ℕ → List ℕ → ℕ
handed_on values inherit handles variable = if inherit && is_among handles (values variable) then values variable else 0
