-- The abstract state of a namespace, put together of its parts.
use Rattle.std.specs.Prelude.{ℕ, List, []}
use Rattle.ob_model.specs.declared.state.Object.{Object}
use Rattle.ob_model.specs.declared.state.Row.{Row}
use Rattle.ob_model.specs.declared.state.Held.{Held}
use Rattle.ob_model.specs.declared.state.PendingOpen.{PendingOpen}
use Rattle.ob_model.specs.State.{State}
use Rattle.ob_objects.specs.Store.{Entries, objects_of, rows_of}
use Rattle.ob_processes.specs.Running.{Running}
use Rattle.ob_space.specs.declared.space.Space.TheInside.{Inside}

-- the parts of a namespace: the value of the set, the store's entries, the processes that run, the pending opens, and
-- the numbers that the next ones get
pub record Parts (K T F I : Type 0) : Type 0 where
  pub set : T
  pub store : Entries F I
  pub processes : Running
  pub pending : List (PendingOpen K)
  pub next_id : ℕ
  pub next_stamp : ℕ
  pub next_process : ℕ
  pub next_order : ℕ

-- those of a namespace, as its struct has them
abbrev pub parts : {T H K F I : Type 0} → Inside T H K F I → Parts K T F I
parts a = record {
  set = a.set;
  store = a.store;
  processes = a.processes;
  pending = a.pending;
  next_id = a.next_id;
  next_stamp = a.next_stamp;
  next_process = a.next_process;
  next_order = a.next_order;
}

-- the state of these parts: the objects and the rows are those of the store, the processes and their
-- handles those that run
abbrev pub state_of : (K : Type 0) {T F I : Type 0} → Parts K T F I → State K T F I
state_of K a = record {
  objects = objects_of a.store;
  rows = rows_of a.store;
  handles = a.processes.handles;
  processes = a.processes.processes;
  pending = a.pending;
  set = a.set;
  next_id = a.next_id;
  next_stamp = a.next_stamp;
  next_process = a.next_process;
  next_order = a.next_order;
}

-- a state with this value of the set, these objects and rows, and these processes with their handles, for
-- what reads nothing else
abbrev pub holding : {K T F I : Type 0} → T → List (Object F I) → List Row → Running → State K T F I
holding set objects rows running = record {
  objects = objects;
  rows = rows;
  handles = running.handles;
  processes = running.processes;
  pending = [];
  set = set;
  next_id = 0;
  next_stamp = 0;
  next_process = 0;
  next_order = 0;
}

-- the same, for what doesn't read the value of the set
abbrev pub listed : {F I : Type 0} → List (Object F I) → List Row → Running → State (Unit {0}) (Unit {0}) F I
listed objects rows running = holding tt objects rows running

-- a state with these objects, rows, processes with their handles, and pending opens, for what reads nothing
-- else
abbrev pub with_opens : {K F I : Type 0} → List (Object F I) → List Row → Running → List (PendingOpen K) → State K (Unit {0}) F I
with_opens objects rows running pending = record (holding tt objects rows running) { pending = pending }

-- no process runs
abbrev pub none_running : Running
none_running = record { processes = []; handles = [] }

-- the state of rows alone, of processes with their handles alone, and of handles alone
abbrev pub rows_alone : List Row → State (Unit {0}) (Unit {0}) (Unit {0}) (Unit {0})
rows_alone rows = listed [] rows none_running

abbrev pub running_alone : Running → State (Unit {0}) (Unit {0}) (Unit {0}) (Unit {0})
running_alone running = listed [] [] running

abbrev pub handles_alone : List Held → State (Unit {0}) (Unit {0}) (Unit {0}) (Unit {0})
handles_alone handles = running_alone (record { processes = []; handles = handles })
