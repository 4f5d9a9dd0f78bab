-- Tables: how what is kept for variables lies.
--
-- Source: this profile.
use Rattle.std.specs.Prelude.{◌≡◌, ◌⊎◌, ℕ, Bool, true, false, List, Option, None, Some, MatchOption, slice_get, unwrap_or}
use Rattle.std.specs.BTreeMap.{is_at}
use Rattle.std.specs.Map.{lookup}
use Rattle.std.specs.Option.{is_some, option_map_or}
use Rattle.std.specs.Ordering.{nat_cmp}
use Rattle.std.specs.Str.{bytes_eq}
use Rattle.smallvec.specs.SmallVec.{SmallVec}
use Rattle.indexmap.specs.IndexMap.{IndexMap}
use Rattle.ob_requests.specs.Variables.{Variables}
use Rattle.ob_requests.specs.Rows.{no_row}
use Rattle.ob_requests.specs.declared.variable.Variable.{Variable}
use Rattle.ob_requests.specs.declared.variable_tables.VariableTables.{VariableTables}
use Rattle.ob_requests.specs.declared.variables.Variables as declared

module _ {N : Type 0} where
  -- the number that entries keep for a variable: that of its first entry, and `none` where it has none
  abbrev pub number_among : N → List (SmallVec ℕ × N) → List ℕ → N
  number_among none entries variable = unwrap_or (lookup (λ key. bytes_eq variable key.items) entries) none

  -- the entry of a variable is in this slot
  abbrev pub IsIn : List (SmallVec ℕ × N) → ℕ → List ℕ → Type 0
  IsIn entries slot variable = (entry : SmallVec ℕ × N) × (slice_get entries slot ≡ Some entry) × (bytes_eq variable entry.0.items ≡ true)

module _ {S N : Type 0} where
  -- the numbers that variables have in a table, and `none` where they have none
  abbrev pub number_or : N → IndexMap (SmallVec ℕ) N S → List ℕ → N
  number_or none table variable = number_among none table.entries variable

  -- there is room for a variable
  abbrev pub has_variable : IndexMap (SmallVec ℕ) N S → List ℕ → Bool
  has_variable table variable = is_some (lookup (λ key. bytes_eq variable key.items) table.entries)

  -- the place of a variable: its slot, or none where there is no room for it
  abbrev pub IsSlotOf : IndexMap (SmallVec ℕ) N S → List ℕ → Option ℕ → Type 0
  IsSlotOf table variable None = has_variable table variable ≡ false
  IsSlotOf table variable (Some slot) = IsIn table.entries slot variable

  -- the table of a process
  abbrev pub table_at : List (ℕ × IndexMap (SmallVec ℕ) N S) → ℕ → Option (IndexMap (SmallVec ℕ) N S)
  table_at tables process = lookup (is_at (nat_cmp process)) tables

  -- the numbers that variables of processes have in such tables, each kept for the process of its number, and `none` where
  -- they have none
  abbrev pub numbers_among : N → List (ℕ × IndexMap (SmallVec ℕ) N S) → ℕ → List ℕ → N
  numbers_among none tables process variable = option_map_or (λ table. number_or none table variable) (table_at tables process) none

-- the numbers that variables have in a table: 0 where they have none
abbrev pub number_in : {S : Type 0} → IndexMap (SmallVec ℕ) ℕ S → List ℕ → ℕ
number_in table = number_or 0 table

module _ {S : Type 0} where
  -- what a table keeps for handle variables
  abbrev pub row_in : IndexMap (SmallVec ℕ) Variable S → List ℕ → Variable
  row_in table = number_or no_row table

  -- the values of handle variables in a table
  abbrev pub value_in : IndexMap (SmallVec ℕ) Variable S → List ℕ → ℕ
  value_in table variable = (row_in table variable).value

  -- between two tables at most values differ
  abbrev pub DifferInValues : IndexMap (SmallVec ℕ) Variable S → IndexMap (SmallVec ℕ) Variable S → Type 0
  DifferInValues old new = (variable : List ℕ) → ((row_in new variable).context ≡ (row_in old variable).context) × ((row_in new variable).ticket ≡ (row_in old variable).ticket)

  -- the variables of a process can begin by a table: none has a context there, and under each the same open waits as now
  abbrev pub CanBegin : Variables → ℕ → IndexMap (SmallVec ℕ) Variable S → Type 0
  CanBegin variables process table = (variable : List ℕ) → ((row_in table variable).context ≡ 0) × ((row_in table variable).ticket ≡ variables.tickets process variable)

-- what is kept for the handle variables of processes
abbrev pub rows_in : VariableTables → ℕ → List ℕ → Variable
rows_in variables = numbers_among no_row variables.tables.entries

-- there is room for the variables of a process
abbrev pub HasTable : VariableTables → ℕ → Type 0
HasTable variables process = is_some (table_at variables.tables.entries process) ≡ true

-- there is room for a variable of a process
abbrev pub HasRoom : VariableTables → ℕ → List ℕ → Type 0
HasRoom variables process variable = MatchOption (table_at variables.tables.entries process) ⊥ (λ table. has_variable table variable ≡ true)

-- the room that there is for variables stays
abbrev pub KeepsRoom : VariableTables → VariableTables → Type 0
KeepsRoom old new = (process : ℕ) (variable : List ℕ) → HasRoom old process variable → HasRoom new process variable

-- the variables that are kept
abbrev pub variables_in : declared.Variables → Variables
variables_in variables = record {
  processes = number_in variables.processes;
  values = λ process variable. (rows_in variables.handles process variable).value;
  contexts = λ process variable. (rows_in variables.handles process variable).context;
  tickets = λ process variable. (rows_in variables.handles process variable).ticket;
}

-- A number was kept by a test, which may say this of it: it stays where it passes, and is 0 where it
-- doesn't; the number 0 isn't asked for.
abbrev pub IsKept : (ℕ → Bool → Type 0) → ℕ → ℕ → Type 0
IsKept Says old new = ((new ≡ old) × Says old true) ⊎ ((new ≡ 0) × Says old false) ⊎ ((new ≡ 0) × (old ≡ 0))
