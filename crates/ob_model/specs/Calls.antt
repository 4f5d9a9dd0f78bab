-- The calls of the set's procedures on one object of the set: the accepted opens, the closes with the
-- handles that are left after each, and the delete, in this order. A step's calls follow from its event,
-- its answer and the states before and after it, and of a run by its steps one after another.
-- Directories and links have no procedures.
--
-- Source: Windows Internals, Object Manager (open, close and delete methods; the close method is
-- given the handles left in the process and in the system).
use Rattle.std.specs.Prelude.{◌≡◌, ℕ, ◌+◌, Bool, true, false, ◌&&◌, ◌||◌, not, ◌==◌, nat_lt, if◌then◌else◌, List, [], ◌∷◌, ◌++◌, length, filter, map, count_by, Option, None, Some}
use Rattle.std.specs.Option.{is_some, option_and_then, option_map_or}
use Rattle.ob_base.specs.Handle.{key_of}
use Rattle.ob_model.specs.declared.command.Command.{Command}
use Rattle.ob_model.specs.declared.command.Command.TheVariants.{CreateDirectory, CreateShadowed, CreateLink, CreateObject, OpenDirectory, OpenLink, OpenObject, Close, QueryLink, QueryName, QueryDirectory, Duplicate, MakeTemporary, MakePermanent, SetDeviceMap, NewProcess, ExitProcess}
use Rattle.ob_model.specs.declared.reply.Answer.{Answer}
use Rattle.ob_model.specs.declared.reply.Answer.TheVariants.{Done, Ticket}
use Rattle.ob_model.specs.declared.reply.Event.{Event}
use Rattle.ob_model.specs.declared.reply.Event.TheVariants.{Start, Resume, Abandon}
use Rattle.ob_model.specs.declared.reply.Given.{Given}
use Rattle.ob_model.specs.declared.reply.Given.TheVariants.{Nothing, Handle, Text, Process, Page}
use Rattle.ob_model.specs.declared.state.Body.{Body}
use Rattle.ob_model.specs.declared.state.Body.TheVariants.{Directory, Link, Other}
use Rattle.ob_model.specs.declared.state.Held.{Held}
use Rattle.ob_model.specs.State.{State, object_of, body_of, is_live, held_of, handle_count, handle_count_in}
use Rattle.ob_model.specs.PendingOpens.{pending_of}
use Rattle.ob_model.specs.Parses.{IsBrought}
use Rattle.ob_model.specs.declared.terms.Reason.{Reason}
use Rattle.ob_model.specs.Procedures.{Procedures, ParseOutcome, EndsItself, EndsMade, EndsReparse, EndsRefused}
use Rattle.ob_model.specs.declared.terms.Reason.TheVariants.{Created as ForCreate, Opened as ForOpen, Duplicated as ForDuplicate, Inherited as ForChild}
use Rattle.ob_model.specs.Step.{Step}
use Rattle.ob_model.specs.Run.{Entry}

-- a call of a procedure: an accepted open with its reason, a close with the handles that are left in
-- the process and in the system, or the delete
pub data Call : Type 0 where
  Opened : Reason → Call
  Closed : ℕ → ℕ → Call
  Deleted : Call

-- the handle that an answer gives
abbrev pub handle_in : Given → Option ℕ
handle_in Nothing = None
handle_in (Handle value) = Some value
handle_in (Text text) = None
handle_in (Process child values) = None
handle_in (Page entries context) = None

abbrev pub handle_given : Answer → Option ℕ
handle_given (Done reply) = handle_in reply.given
handle_given (Ticket number) = None

-- a handle, where there is one, leads to an object
abbrev pub leads_to : Option Held → ℕ → Bool
leads_to found o = option_map_or (λ h. h.object == o) found false

-- whether a body is that of an object of the set
abbrev pub is_set_body : {F I : Type 0} → Body F I → Bool
is_set_body (Directory shadow) = false
is_set_body (Link target) = false
is_set_body (Other face inner) = true

-- whether a command makes an object of the set
abbrev pub is_set_create : {K : Type 0} → Command K → Bool
is_set_create (CreateDirectory where_to attrs) = false
is_set_create (CreateShadowed where_to attrs shadow) = false
is_set_create (CreateLink where_to attrs target) = false
is_set_create (CreateObject where_to attrs kind args) = true
is_set_create (OpenDirectory root name attrs) = false
is_set_create (OpenLink root name attrs) = false
is_set_create (OpenObject root name attrs want) = false
is_set_create (Close handle) = false
is_set_create (QueryLink handle) = false
is_set_create (QueryName handle) = false
is_set_create (QueryDirectory handle context room single restart) = false
is_set_create (Duplicate handle to inherit) = false
is_set_create (MakeTemporary handle) = false
is_set_create (MakePermanent handle) = false
is_set_create (SetDeviceMap handle) = false
is_set_create (NewProcess inherit) = false
is_set_create ExitProcess = false

-- whether a parse made an instance
abbrev pub is_made : {F I : Type 0} → Option (ParseOutcome F I) → Bool
is_made None = false
is_made (Some EndsItself) = false
is_made (Some (EndsMade face inner)) = true
is_made (Some (EndsReparse text)) = false
is_made (Some (EndsRefused k)) = false

-- the closes of the handles that go, in the order in which they were opened, where `stays` says
-- the others: of all handles to one object, those that were passed already and stay, and the rest
abbrev pub closes : (Held → Bool) → List Held → List Held → List Call
closes stays passed [] = []
closes stays passed (h ∷ hs) =
    if stays h then closes stays (passed ++ h ∷ []) hs
    else Closed (count_by (λ x. x.process == h.process) (passed ++ hs)) (length (passed ++ hs)) ∷ closes stays passed hs

module _ {K T F I : Type 0} where
  -- the handles that lead to an object
  abbrev pub handles_to : State K T F I → ℕ → List Held
  handles_to s o = filter (λ h. h.object == o) s.handles

  -- an object is there, and is one of the set
  abbrev pub is_of_set : State K T F I → ℕ → Bool
  is_of_set s o = option_map_or is_set_body (body_of s o) false

  -- ---- the calls of one step, from the state s to the state t

  -- an object is opened for its create in the step that makes it, and else for an open
  abbrev pub open_reason : State K T F I → ℕ → Reason
  open_reason s o = if is_some (object_of s o) then ForOpen else ForCreate

  -- a process that is given a handle to an object had its open accepted
  abbrev pub calls_of_grant : Reason → State K T F I → ℕ → Option ℕ → ℕ → List Call
  calls_of_grant reason t p given o = if is_of_set t o && leads_to (option_and_then (held_of t p) given) o then Opened reason ∷ [] else []

  -- a process that is new has all its handles by inheritance
  abbrev pub calls_of_child : State K T F I → ℕ → ℕ → List Call
  calls_of_child t child o = if is_of_set t o then map (λ _. Opened ForChild) (filter (λ h. h.process == child) (handles_to t o)) else []

  -- a live process that closes a handle to an object: the handles that are left are those of the state after
  abbrev pub calls_of_close : State K T F I → State K T F I → ℕ → ℕ → ℕ → List Call
  calls_of_close s t p handle o =
      if is_live s p && is_of_set s o && leads_to (option_and_then (held_of s p) (key_of handle)) o then Closed (handle_count_in t p o) (handle_count t o) ∷ []
      else []

  -- the closes of an object's handles where a process ends
  abbrev pub closes_at_end : State K T F I → ℕ → ℕ → List Call
  closes_at_end s p o = closes (λ h. not (h.process == p)) [] (handles_to s o)

  -- a number is drawn for an object of the set that the command makes
  abbrev pub is_drawn : State K T F I → State K T F I → Command K → ℕ → Bool
  is_drawn s t command o = is_set_create command && (o == s.next_id) && nat_lt s.next_id t.next_id

  -- an object that was there or came in the step, and isn't there after it, is deleted: it is taken away at
  -- the end of the step, or its open was refused at its create or after its parse
  abbrev pub calls_of_end : State K T F I → State K T F I → (came : Bool) → ℕ → List Call
  calls_of_end s t came o = if (is_of_set s o || came) && not (is_some (object_of t o)) then Deleted ∷ [] else []

  -- what a pending open opens, where it is resumed
  abbrev pub calls_of_resume : State K T F I → State K T F I → ℕ → Option ℕ → ℕ → List Call
  calls_of_resume s t ticket given o = option_map_or (λ x. calls_of_grant ForOpen t x.process given o) (pending_of s ticket) []

  -- what a command opens or closes
  abbrev pub calls_of_command : State K T F I → State K T F I → ℕ → Command K → Option ℕ → ℕ → List Call
  calls_of_command s t p (CreateDirectory where_to attrs) given o = calls_of_grant (open_reason s o) t p given o
  calls_of_command s t p (CreateShadowed where_to attrs shadow) given o = calls_of_grant (open_reason s o) t p given o
  calls_of_command s t p (CreateLink where_to attrs target) given o = calls_of_grant (open_reason s o) t p given o
  calls_of_command s t p (CreateObject where_to attrs kind args) given o = calls_of_grant (open_reason s o) t p given o
  calls_of_command s t p (OpenDirectory root name attrs) given o = calls_of_grant (open_reason s o) t p given o
  calls_of_command s t p (OpenLink root name attrs) given o = calls_of_grant (open_reason s o) t p given o
  calls_of_command s t p (OpenObject root name attrs want) given o = calls_of_grant (open_reason s o) t p given o
  calls_of_command s t p (Close handle) given o = calls_of_close s t p handle o
  calls_of_command s t p (QueryLink handle) given o = []
  calls_of_command s t p (QueryName handle) given o = []
  calls_of_command s t p (QueryDirectory handle context room single restart) given o = []
  calls_of_command s t p (Duplicate handle to inherit) given o = calls_of_grant ForDuplicate t to given o
  calls_of_command s t p (MakeTemporary handle) given o = []
  calls_of_command s t p (MakePermanent handle) given o = []
  calls_of_command s t p (SetDeviceMap handle) given o = []
  calls_of_command s t p (NewProcess inherit) given o = calls_of_child t s.next_process o
  calls_of_command s t p ExitProcess given o = if is_live s p && is_of_set s o then closes_at_end s p o else []

  -- the calls of a step on an object, given what is brought with its event
  abbrev pub calls_of_step : State K T F I → Event K → Option (ParseOutcome F I) → Answer → State K T F I → ℕ → List Call
  calls_of_step s (Start p command) outcome answer t o = calls_of_command s t p command (handle_given answer) o ++ calls_of_end s t (is_drawn s t command o) o
  calls_of_step s (Resume ticket parse) outcome answer t o = calls_of_resume s t ticket (handle_given answer) o ++ calls_of_end s t (is_made outcome && (o == ticket)) o
  calls_of_step s (Abandon ticket parse) outcome answer t o = calls_of_end s t (is_made outcome && (o == ticket)) o

-- ---- the calls of a run

-- a step that was made: its entry, what was brought with its event, and the state that it left
pub record Passed (K T F I : Type 0) : Type 0 where
  pub entry : Entry K
  pub outcome : Option (ParseOutcome F I)
  pub after : State K T F I

module _ {K T F I : Type 0} where
  -- these steps are made one after another, from the state s, after n entries
  abbrev pub Passes : Procedures K T F I → State K T F I → ℕ → List (Passed K T F I) → Type 0
  Passes g s n [] = Unit {0}
  Passes g s n (x ∷ xs) =
      (x.entry.number ≡ n + 1) × IsBrought g s x.entry.event x.outcome × Step g s x.entry.event x.entry.answer x.after × Passes g x.after (n + 1) xs

  -- the state that the last of these steps left
  abbrev pub left_by : State K T F I → List (Passed K T F I) → State K T F I
  left_by s [] = s
  left_by s (x ∷ xs) = left_by x.after xs

  -- the calls of these steps on an object, one step's after another's
  abbrev pub calls_of_run : State K T F I → List (Passed K T F I) → ℕ → List Call
  calls_of_run s [] o = []
  calls_of_run s (x ∷ xs) o = calls_of_step s x.entry.event x.outcome x.entry.answer x.after o ++ calls_of_run x.after xs o
