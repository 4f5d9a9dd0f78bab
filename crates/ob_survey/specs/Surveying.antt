-- The survey of a state, which a tree shows.
--
-- Source: this profile.
use Rattle.std.specs.Prelude.{ℕ, zero, suc, ◌==◌, List, [], ◌∷◌, map, Option}
use Rattle.std.specs.List.{find}
use Rattle.std.specs.Option.{option_and_then, option_map_or}
use Rattle.ob_model.specs.declared.state.Held.{Held}
use Rattle.ob_model.specs.Enumeration.{body_type_name}
use Rattle.ob_model.specs.Grants.{is_exclusive}
use Rattle.ob_model.specs.Naming.{row_of, target_of}
use Rattle.ob_model.specs.Procedures.{Procedures}
use Rattle.ob_model.specs.Settle.{is_permanent}
use Rattle.ob_model.specs.State.{State, body_of, handle_count, shadow_in, table_size}
use Rattle.ob_core.specs.Listed.{handle_after, process_after}
use Rattle.ob_processes.specs.Pending.{pins_of}
use Rattle.ob_tree.specs.declared.survey.Seen.{Seen}
use Rattle.ob_tree.specs.declared.survey.SeenProcess.{SeenProcess}
use Rattle.ob_tree.specs.Surveyed.{Surveyed}

module _ {K T F I : Type 0} where
  -- an object of this id: its name, its type, what holds of it, and how many handles and pending opens lead to it
  abbrev pub seen_of : Procedures K T F I → State K T F I → ℕ → Seen
  seen_of g s o = record {
    id = o;
    row = row_of s o;
    type_name = option_map_or (body_type_name g) (body_of s o) [];
    shadow = option_and_then shadow_in (body_of s o);
    target = option_and_then target_of (body_of s o);
    permanent = is_permanent s o;
    exclusive = is_exclusive s o;
    handles = handle_count s o;
    pins = pins_of s.pending o;
  }

  -- at most so many handles of a process, those opened after an order of opening, one after another
  abbrev pub handles_from : ℕ → State K T F I → ℕ → ℕ → List Held
  handles_from zero s p order = []
  handles_from (suc n) s p order = option_map_or (λ h. h ∷ handles_from n s p h.order) (handle_after s p order) []

  -- a process: the directory of its device map, and its handles in the order of opening
  abbrev pub process_seen : State K T F I → ℕ → SeenProcess
  process_seen s p = record {
    number = p;
    map = option_and_then (λ x. x.map) (find (λ x. x.number == p) s.processes);
    handles = handles_from (table_size s p) s p 0;
  }

  -- at most so many processes, those of numbers above another, one after another
  abbrev pub processes_from : ℕ → State K T F I → ℕ → List SeenProcess
  processes_from zero s p = []
  processes_from (suc n) s p = option_map_or (λ q. process_seen s q ∷ processes_from n s q) (process_after s p) []

  -- the objects by rising ids, and the processes by rising numbers
  abbrev pub survey_of : Procedures K T F I → State K T F I → Surveyed
  survey_of g s = record { objects = map (λ o. seen_of g s o.id) s.objects; processes = processes_from s.next_process s 0 }
