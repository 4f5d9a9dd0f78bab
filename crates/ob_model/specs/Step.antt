-- The steps of the abstract machine: for each command the refusals in their order, and then what it
-- answers and what it leaves; and how a pending open ends. The value of a new handle is the one free choice.
--
-- Sources: ZwCreateDirectoryObject, ZwOpenDirectoryObject, ZwCreateSymbolicLinkObject,
-- ZwOpenSymbolicLinkObject, ZwQuerySymbolicLinkObject, ZwQueryDirectoryObject, ZwCreateEvent, ZwOpenEvent, ZwClose, ZwDuplicateObject,
-- ZwMakeTemporaryObject, ZwMakePermanentObject, ObQueryNameString and OBJECT_ATTRIBUTES structure (Windows Driver Kit);
-- NtCreateDirectoryObjectEx (a shadow directory); NtSetInformationProcess (ProcessDeviceMap); Windows
-- Internals, Object Manager and Processes.
-- The order of refusals, and that a shadow has no shadow, are this profile.
use Rattle.std.specs.Prelude.{◌≡◌, ℕ, Bool, true, false, not, nat_lt, [], ◌∷◌, List, Option, None, Some, MatchOption}
use Rattle.std.specs.Option.{is_some, option_and_then}
use Rattle.ob_base.specs.declared.status.Status.{Status}
use Rattle.ob_base.specs.declared.status.Status.TheVariants.{Success, InvalidParameter, InvalidHandle, ObjectTypeMismatch, ProcessGone}
use Rattle.ob_base.specs.Handle.{key_of}
use Rattle.ob_model.specs.declared.command.Place.{Place}
use Rattle.ob_model.specs.declared.command.Place.TheVariants as place
use Rattle.ob_model.specs.declared.command.Command.{Command}
use Rattle.ob_model.specs.declared.command.Command.TheVariants.{CreateDirectory, CreateShadowed, CreateLink, CreateObject, OpenDirectory, OpenLink, OpenObject, Close, QueryLink, QueryName, QueryDirectory, Duplicate, MakeTemporary, MakePermanent, SetDeviceMap, NewProcess, ExitProcess}
use Rattle.ob_model.specs.declared.reply.Answer.{Answer}
use Rattle.ob_model.specs.declared.reply.Event.{Event}
use Rattle.ob_model.specs.declared.reply.Event.TheVariants.{Start, Resume, Abandon}
use Rattle.ob_model.specs.declared.state.Held.{Held}
use Rattle.ob_model.specs.declared.state.Wanted.{Wanted}
use Rattle.ob_model.specs.declared.state.Wanted.TheVariants as wanted
use Rattle.ob_model.specs.State.{State, is_live, is_directory, shadow_of, held_of}
use Rattle.ob_model.specs.Looks.{Look, LooksUp, most_reparses}
use Rattle.ob_model.specs.PendingOpens.{pending_of}
use Rattle.ob_model.specs.Parses.{IsBrought, Resumes, Abandons}
use Rattle.ob_model.specs.Procedures.{Procedures, ParseOutcome}
use Rattle.ob_model.specs.Settle.{settle}
use Rattle.ob_model.specs.Closing.{closed_handle}
use Rattle.ob_model.specs.Permanence.{turned}
use Rattle.ob_model.specs.Maps.{with_map}
use Rattle.ob_model.specs.Refusals.{answers, create_refusals, open_refusals, IsRefused, Unless}
use Rattle.ob_model.specs.Creates.{Making, MakesDirectory, MakesLink, MakesObject, is_fit, create_mode, Makes, Creates}
use Rattle.ob_model.specs.Opens.{Opens, type_wanted, open_mode}
use Rattle.ob_model.specs.Naming.{TellsName, TellsTarget}
use Rattle.ob_model.specs.Enumeration.{enumerated, largest_room, context_used, page_answer}
use Rattle.ob_model.specs.Processes.{Duplicates, MakesChild, Exits}

module _ {K T F I : Type 0} where
  -- a step that uses a handle of the caller, its low two bits ignored: the process is gone, it has no
  -- such handle, or what the step does with it
  abbrev pub WithHandle : State K T F I → ℕ → ℕ → Answer → State K T F I → (Held → Type 0) → Type 0
  WithHandle s p handle answer t Does =
      Unless ((not (is_live s p), ProcessGone) ∷ []) s answer t
      (MatchOption (option_and_then (held_of s p) (key_of handle)) (IsRefused s InvalidHandle answer t) Does)

  -- a step that uses a root handle of the caller, where one is given, past the refusals of its name:
  -- the process has no such handle, or what the step does with the object that it leads to
  abbrev pub WithRoot : State K T F I → ℕ → (root : Option ℕ) → Answer → State K T F I → (Option ℕ → Type 0) → Type 0
  WithRoot s p None answer t Does = Does None
  WithRoot s p (Some handle) answer t Does =
      MatchOption (option_and_then (held_of s p) (key_of handle)) (IsRefused s InvalidHandle answer t) (λ h. Does (Some h.object))

  -- the refusals of a shadow: it is no directory, or it has a shadow itself
  abbrev pub shadow_refusals : State K T F I → ℕ → List (Bool × Status)
  shadow_refusals s o = (not (is_directory s o), ObjectTypeMismatch) ∷ (is_some (shadow_of s o), InvalidParameter) ∷ []

  -- a step that uses a handle of the caller to a shadow, where one is given: the process has no such handle, its
  -- object can be no shadow, or what the step does with it
  abbrev pub WithShadow : State K T F I → ℕ → (shadow : Option ℕ) → Answer → State K T F I → (Option ℕ → Type 0) → Type 0
  WithShadow s p None answer t Does = Does None
  WithShadow s p (Some handle) answer t Does =
      MatchOption (option_and_then (held_of s p) (key_of handle)) (IsRefused s InvalidHandle answer t)
      (λ h. Unless (shadow_refusals s h.object) s answer t (Does (Some h.object)))

  -- a query of a link's target changes nothing
  abbrev pub QueriesLink : State K T F I → ℕ → ℕ → Answer → State K T F I → Type 0
  QueriesLink s p handle answer t = WithHandle s p handle answer t (λ h. TellsTarget s h.object answer × (t ≡ s))

  -- nor does one of an object's path
  abbrev pub QueriesName : State K T F I → ℕ → ℕ → Answer → State K T F I → Type 0
  QueriesName s p handle answer t = WithHandle s p handle answer t (λ h. TellsName s h.object answer × (t ≡ s))

-- the refusals of a page before its handle is looked at, for a process that is live or isn't
abbrev pub page_refusals : Bool → ℕ → List (Bool × Status)
page_refusals live room = (not live, ProcessGone) ∷ (nat_lt largest_room room, InvalidParameter) ∷ []

module _ {K T F I : Type 0} (g : Procedures K T F I) where
  -- what a create does past its refusals, at a name and without one. The shadow of what it makes, where a
  -- handle to one is given, is judged after the root handle and before the lookup
  abbrev pub CreatesIn : State K T F I → ℕ → Place → ℕ → (shadow : Option ℕ) → (Option ℕ → Making K) → Answer → State K T F I → Type 0
  CreatesIn s p (place.At root name) attrs shadow making answer t =
      WithRoot s p root answer t
      (λ at. WithShadow s p shadow answer t
      (λ d. (look : Look) × LooksUp g s p (create_mode attrs) most_reparses at name look × Creates g s p attrs (making d) look answer t))
  CreatesIn s p place.Unnamed attrs shadow making answer t = WithShadow s p shadow answer t (λ d. Makes g s p attrs (making d) None answer t)

  -- a create
  abbrev pub CreatesAt : State K T F I → ℕ → Place → ℕ → (shadow : Option ℕ) → (Option ℕ → Making K) → Answer → State K T F I → Type 0
  CreatesAt s p where_to attrs shadow making answer t =
      Unless (create_refusals (is_live s p) (is_fit (making None)) where_to attrs) s answer t (CreatesIn s p where_to attrs shadow making answer t)

  -- an open
  abbrev pub OpensName : State K T F I → ℕ → Option ℕ → List ℕ → ℕ → Wanted K → Answer → State K T F I → Type 0
  OpensName s p root name attrs wanted answer t =
      Unless (open_refusals (is_live s p) name attrs) s answer t
      (WithRoot s p root answer t
      (λ at. (look : Look) × LooksUp g s p (open_mode wanted attrs) most_reparses at name look × Opens g s p attrs wanted look answer t))

  -- a close takes a handle of the caller
  abbrev pub Closes : State K T F I → ℕ → ℕ → Answer → State K T F I → Type 0
  Closes s p handle answer t = WithHandle s p handle answer t (λ h. (answer ≡ answers Success) × (t ≡ settle g (closed_handle g s h)))

  -- the object of a handle of the caller is made permanent or temporary
  abbrev pub Turns : State K T F I → ℕ → ℕ → Bool → Answer → State K T F I → Type 0
  Turns s p handle permanent answer t = WithHandle s p handle answer t (λ h. (answer ≡ answers Success) × (t ≡ settle g (turned s h.object permanent)))

  -- the directory of a handle of the caller becomes its device map; what isn't a directory is of another type
  abbrev pub SetsMap : State K T F I → ℕ → ℕ → Answer → State K T F I → Type 0
  SetsMap s p handle answer t =
      WithHandle s p handle answer t
      (λ h. Unless ((not (is_directory s h.object), ObjectTypeMismatch) ∷ []) s answer t ((answer ≡ answers Success) × (t ≡ settle g (with_map s p h.object))))

  -- A page of the directory of a handle of the caller changes nothing. The room is judged before the handle;
  -- what isn't a directory is of another type.
  abbrev pub TellsPage : State K T F I → (o context room : ℕ) → (single : Bool) → Answer → State K T F I → Type 0
  TellsPage s o context room single answer t =
      Unless ((not (is_directory s o), ObjectTypeMismatch) ∷ []) s answer t ((answer ≡ page_answer (enumerated g s o context room single)) × (t ≡ s))

  abbrev pub QueriesDirectory : State K T F I → (p handle context room : ℕ) → (single restart : Bool) → Answer → State K T F I → Type 0
  QueriesDirectory s p handle context room single restart answer t =
      Unless (page_refusals (is_live s p) room) s answer t
      (MatchOption (option_and_then (held_of s p) (key_of handle)) (IsRefused s InvalidHandle answer t)
      (λ h. TellsPage s h.object (context_used restart context) room single answer t))

  -- a step for a command that a process starts
  abbrev pub Starts : State K T F I → ℕ → Command K → Answer → State K T F I → Type 0
  Starts s p (CreateDirectory where_to attrs) answer t = CreatesAt s p where_to attrs None MakesDirectory answer t
  Starts s p (CreateShadowed where_to attrs shadow) answer t = CreatesAt s p where_to attrs (Some shadow) MakesDirectory answer t
  Starts s p (CreateLink where_to attrs target) answer t = CreatesAt s p where_to attrs None (λ shadow. MakesLink target) answer t
  Starts s p (CreateObject where_to attrs kind args) answer t = CreatesAt s p where_to attrs None (λ shadow. MakesObject kind args) answer t
  Starts s p (OpenDirectory root name attrs) answer t = OpensName s p root name attrs wanted.Directory answer t
  Starts s p (OpenLink root name attrs) answer t = OpensName s p root name attrs wanted.Link answer t
  Starts s p (OpenObject root name attrs want) answer t = OpensName s p root name attrs (type_wanted want) answer t
  Starts s p (Close handle) answer t = Closes s p handle answer t
  Starts s p (QueryLink handle) answer t = QueriesLink s p handle answer t
  Starts s p (QueryName handle) answer t = QueriesName s p handle answer t
  Starts s p (QueryDirectory handle context room single restart) answer t = QueriesDirectory s p handle context room single restart answer t
  Starts s p (Duplicate handle to inherit) answer t = Duplicates g s p handle to inherit answer t
  Starts s p (MakeTemporary handle) answer t = Turns s p handle false answer t
  Starts s p (MakePermanent handle) answer t = Turns s p handle true answer t
  Starts s p (SetDeviceMap handle) answer t = SetsMap s p handle answer t
  Starts s p (NewProcess inherit) answer t = MakesChild g s p inherit answer t
  Starts s p ExitProcess answer t = Exits g s p answer t

  -- From the state s the machine may answer the event so, and go on to the state t. A resume or an abandon of an
  -- open that isn't pending is no step.
  abbrev pub Step : State K T F I → Event K → Answer → State K T F I → Type 0
  Step s (Start p command) answer t = Starts s p command answer t
  Step s (Resume ticket parse) answer t =
      (outcome : Option (ParseOutcome F I)) × IsBrought g s (Resume ticket parse) outcome × MatchOption (pending_of s ticket) ⊥ (λ x. Resumes g s x outcome answer t)
  Step s (Abandon ticket parse) answer t =
      (outcome : Option (ParseOutcome F I)) × IsBrought g s (Abandon ticket parse) outcome × MatchOption (pending_of s ticket) ⊥ (λ x. Abandons g s x outcome answer t)
