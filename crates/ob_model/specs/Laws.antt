-- Laws, which show that the definitions say what they should: the statements of the law functions in
-- src/laws.rt, which prove them.
use Rattle.std.specs.Prelude.{◌≡◌, ◌≢◌, ℕ, ◌+◌, ◌<◌, ◌≤◌, Bool, true, false, ◌&&◌, ◌||◌, ◌==◌, List, [], ◌∷◌, ◌++◌, length, map, All, AllPairs, Contains, Option, None, Some, MatchOption, if◌then◌else◌}
use Rattle.std.specs.List.{find}
use Rattle.std.specs.Option.{option_and_then}
use Rattle.ob_base.specs.declared.status.Status.TheVariants.{Success, ObjectNameExists}
use Rattle.ob_base.specs.Handle.{key_of}
use Rattle.ob_model.specs.declared.state.Body.{Body}
use Rattle.ob_model.specs.declared.state.Body.TheVariants.{Directory}
use Rattle.ob_model.specs.declared.state.Held.{Held}
use Rattle.ob_model.specs.declared.state.Object.{Object}
use Rattle.ob_model.specs.declared.state.Row.{Row}
use Rattle.ob_model.specs.declared.reply.Answer.{Answer}
use Rattle.ob_model.specs.declared.reply.Given.TheVariants.{Handle, Text}
use Rattle.ob_model.specs.declared.reply.Event.{Event}
use Rattle.ob_model.specs.declared.reply.Event.TheVariants.{Start, Resume, Abandon}
use Rattle.ob_model.specs.declared.reply.ParseRun.{ParseRun}
use Rattle.ob_model.specs.declared.command.Command.{Command}
use Rattle.ob_model.specs.declared.command.Command.TheVariants.{CreateShadowed, QueryName, SetDeviceMap}
use Rattle.ob_model.specs.declared.command.Place.{Place}
use Rattle.ob_model.specs.Names.{separator, joined, IsRest, IsSplit, substituted, ends_in_separator, begins_with_separator}
use Rattle.ob_model.specs.State.{State, root_id, insert_object, object_of, body_of, is_directory, shadow_of, process_of, is_live, held_of}
use Rattle.ob_model.specs.Opening.{opening}
use Rattle.ob_model.specs.Paths.{Origin, found, is_match, IsPath, directory_at}
use Rattle.ob_model.specs.declared.terms.Reason.{Reason}
use Rattle.ob_model.specs.Procedures.{Procedures, ParseOutcome, ParseEnds, FrontIsUsed}
use Rattle.ob_model.specs.Parses.{IsBrought}
use Rattle.ob_model.specs.declared.terms.Mode.{Mode}
use Rattle.ob_model.specs.Looks.{Look, At, Looks, LooksUp}
use Rattle.ob_model.specs.Settle.{IsSettled, settle, is_permanent, has_handle, has_name}
use Rattle.ob_model.specs.Closing.{is_handle, closed_handle}
use Rattle.ob_model.specs.Permanence.{turned}
use Rattle.ob_model.specs.Maps.{map_of}
use Rattle.ob_model.specs.Refusals.{answers, gives}
use Rattle.ob_model.specs.Grants.{with_open, with_handle}
use Rattle.ob_model.specs.Creates.{Spot, created}
use Rattle.ob_model.specs.Naming.{IsWayUp, path_text}
use Rattle.ob_model.specs.Sound.{IsSound, IsDirectory, Stands}
use Rattle.ob_model.specs.Exclusive.{AreAlone}
use Rattle.ob_model.specs.PendingOpens.{pending_of}
use Rattle.ob_model.specs.Alike.{AreAlike, AreAlikeCommands, AreAlikeAnswers, LeadOn, HoldOn, IsClosedBy, receiver}
use Rattle.ob_model.specs.Processes.{handles_in, inherited_from, with_child, accepted, begun, ended, Duplicates}
use Rattle.ob_model.specs.Step.{Step}
use Rattle.ob_model.specs.Run.{Entry, RunFrom, Run}
use Rattle.ob_model.specs.Calls.{Passed, Passes, left_by}

-- a text has one split at each length: as many components leave the same components and rest
abbrev pub SplitIsUnique : Type 0
SplitIsUnique =
    (text : List ℕ) (cs ds : List (List ℕ)) (rest others : List ℕ)
    → IsSplit text cs rest → IsSplit text ds others → length cs ≡ length ds → (cs ≡ ds) × (rest ≡ others)

-- joining the components of a split and the rest gives the text back
abbrev pub SplitJoinsBack : Type 0
SplitJoinsBack = (text : List ℕ) (cs : List (List ℕ)) (rest : List ℕ) → IsSplit text cs rest → joined cs ++ rest ≡ text

-- a substitution has the bytes of the target and of the rest, except for the one separator that is
-- dropped where two meet
abbrev pub SubstitutedLength : Type 0
SubstitutedLength =
    (target rest : List ℕ)
    → length (substituted target rest) + (if ends_in_separator target && begins_with_separator rest then 1 else 0) ≡ length target + length rest

-- where two separators meet, the target is whole and the rest lacks its first byte
abbrev pub SubstitutedDropsOne : Type 0
SubstitutedDropsOne =
    (front rest : List ℕ) → substituted (front ++ separator ∷ []) (separator ∷ rest) ≡ front ++ separator ∷ rest

-- what is found is a row of the directory with an equal name, and none of these has a lesser stamp
pub record IsFoundRow {K T F I : Type 0} (s : State K T F I) (d : ℕ) (c : List ℕ) (fold : Bool) (r : Row) : Type 0 where
  pub stands : Contains s.rows r
  pub matches : is_match d c fold r ≡ true
  pub least : All (λ q. is_match d c fold q ≡ true → r.stamp ≤ q.stamp) s.rows

-- An object more is put in order of numbers. Where all numbers are below its own it is the last; where no
-- object has its number, numbers that rise still do, and its number leads to it.
module _ (F I : Type 0) where
  abbrev pub NewestIsLast : Type 0
  NewestIsLast = (x : Object F I) (objects : List (Object F I)) → All (λ o. o.id < x.id) objects → insert_object x objects ≡ objects ++ x ∷ []

  abbrev pub NumbersStayRising : Type 0
  NumbersStayRising =
      (x : Object F I) (objects : List (Object F I)) → All (λ o. o.id ≢ x.id) objects
      → AllPairs (λ a b. a.id < b.id) objects → AllPairs (λ a b. a.id < b.id) (insert_object x objects)

  abbrev pub NewIsFound : Type 0
  NewIsFound =
      (x : Object F I) (objects : List (Object F I)) → All (λ o. o.id ≢ x.id) objects
      → find (λ o. o.id == x.id) (insert_object x objects) ≡ Some x

  -- any other number leads to what it led to, and there is one object more
  abbrev pub OthersAreFound : Type 0
  OthersAreFound =
      (x : Object F I) (objects : List (Object F I)) (id : ℕ) → id ≢ x.id
      → find (λ o. o.id == id) (insert_object x objects) ≡ find (λ o. o.id == id) objects

  abbrev pub OneObjectMore : Type 0
  OneObjectMore = (x : Object F I) (objects : List (Object F I)) → length (insert_object x objects) ≡ length objects + 1

-- a handle without its process and its order: its value, its object and whether it can be inherited; and what a
-- child gets of it
abbrev pub without_order : Held → ℕ × ℕ × Bool
without_order h = (h.value, h.object, h.inherit)

abbrev pub handed_on : Held → ℕ × ℕ × Bool
handed_on h = (h.value, h.object, true)

-- how a name is looked up as it is: with case, and as a create does, so that a link that the last component
-- names is not followed
abbrev pub as_it_is : Mode
as_it_is = record { create = true; fold = false; follow = false }

module _ (K T F I : Type 0) where
  -- found is the row of least stamp among those whose names are equal, and none where there is none
  abbrev pub FoundIsLeast : Type 0
  FoundIsLeast =
      (s : State K T F I) (d : ℕ) (c : List ℕ) (fold : Bool)
      → MatchOption (found s d c fold) (All (λ q. is_match d c fold q ≡ false) s.rows) (IsFoundRow s d c fold)

  -- components lead from a place to at most one object
  abbrev pub PathIsUnique : Type 0
  PathIsUnique =
      (s : State K T F I) (place : Origin) (cs : List (List ℕ)) (own fold : Bool) (a b : ℕ)
      → IsPath s place cs own fold a → IsPath s place cs own fold b → a ≡ b

  -- a lookup has at most one end
  abbrev pub LookIsUnique : Type 0
  LookIsUnique =
      (g : Procedures K T F I) (s : State K T F I) (p : ℕ) (mode : Mode) (n : ℕ) (place : Origin) (text : List ℕ) (a b : Look)
      → Looks g s p mode n place text a → Looks g s p mode n place text b → a ≡ b

  -- in a sound state a lookup from a place that is a directory, of a text that begins with a
  -- separator or is empty, has an end
  abbrev pub LookIsTotal : Type 0
  LookIsTotal =
      (g : Procedures K T F I) (s : State K T F I) (p : ℕ) (mode : Mode) (n : ℕ) (place : Origin) (text : List ℕ)
      → IsSound s → IsDirectory s (directory_at s place) → IsRest text → (look : Look) × Looks g s p mode n place text look

  -- a name is looked up with at most one end
  abbrev pub NameLookIsUnique : Type 0
  NameLookIsUnique =
      (g : Procedures K T F I) (s : State K T F I) (p : ℕ) (mode : Mode) (n : ℕ) (root : Option ℕ) (name : List ℕ) (a b : Look)
      → LooksUp g s p mode n root name a → LooksUp g s p mode n root name b → a ≡ b

  -- in a sound state every name has an end, where the object of its root handle is there
  abbrev pub NameLookIsTotal : Type 0
  NameLookIsTotal =
      (g : Procedures K T F I) (s : State K T F I) (p : ℕ) (mode : Mode) (n : ℕ) (root : Option ℕ) (name : List ℕ)
      → IsSound s → MatchOption root (Unit {0}) (Stands s) → (look : Look) × LooksUp g s p mode n root name look

  -- in a sound state the path of an object, looked up as it is by any process, with any number of reparses
  -- left, ends at the object
  abbrev pub PathsNameTheirObjects : Type 0
  PathsNameTheirObjects =
      (g : Procedures K T F I) (s : State K T F I) (o : ℕ) (cs : List (List ℕ)) (p n : ℕ)
      → IsSound s → IsWayUp s o cs → LooksUp g s p as_it_is n None (path_text cs) (At o)

  -- so in each state of a run the text that a query of a path answers, where it isn't empty, ends at the
  -- object of the handle
  abbrev pub AnswersNameTheirObjects : Type 0
  AnswersNameTheirObjects =
      (g : Procedures K T F I) (first : T) (entries : List (Entry K)) (s t : State K T F I) (p handle : ℕ) (text : List ℕ) (q n : ℕ)
      → Run g first entries s → Step g s (Start p (QueryName handle)) (gives Success (Text text)) t → text ≢ []
      → (h : Held) × (option_and_then (held_of s p) (key_of handle) ≡ Some h) × LooksUp g s q as_it_is n None text (At h.object)

  -- settling a settled state changes nothing
  abbrev pub SettleIsIdempotent : Type 0
  SettleIsIdempotent = (g : Procedures K T F I) (s : State K T F I) → settle g (settle g s) ≡ settle g s

  -- the root stays, and so does an object with a handle
  abbrev pub RootStays : Type 0
  RootStays = (g : Procedures K T F I) (s : State K T F I) → object_of (settle g s) root_id ≡ object_of s root_id

  abbrev pub HeldStays : Type 0
  HeldStays =
      (g : Procedures K T F I) (s : State K T F I) (o : ℕ) → has_handle s o ≡ true → object_of (settle g s) o ≡ object_of s o

  -- the opening state is sound, and a step from a sound state leads to a sound one
  abbrev pub OpeningIsSound : Type 0
  OpeningIsSound = (set : T) → IsSound (opening {K = K} {F = F} {I = I} set)

  abbrev pub StepStaysSound : Type 0
  StepStaysSound =
      (g : Procedures K T F I) (s t : State K T F I) (event : Event K) (answer : Answer)
      → IsSound s → Step g s event answer t → IsSound t

  -- in a sound state every event has an answer, and a state that it leads to, whatever is brought with it; a
  -- start, with which nothing is brought, always has
  abbrev pub StepIsTotal : Type 0
  StepIsTotal =
      (g : Procedures K T F I) (s : State K T F I) (event : Event K) (outcome : Option (ParseOutcome F I))
      → IsSound s → IsBrought g s event outcome → (answer : Answer) × (t : State K T F I) × Step g s event answer t

  -- where each parse procedure uses a front of its rest, as in a lawful set, a parse ends, over every rest; and every
  -- parse ends in one way
  abbrev pub ParseHasAnEnd : Type 0
  ParseHasAnEnd =
      (g : Procedures K T F I) → FrontIsUsed g → (face : F) (rest : List ℕ) → (outcome : ParseOutcome F I) × ParseEnds g face rest outcome

  abbrev pub ParseHasOneEnd : Type 0
  ParseHasOneEnd =
      (g : Procedures K T F I) (face : F) (rest : List ℕ) (a b : ParseOutcome F I) → ParseEnds g face rest a → ParseEnds g face rest b → a ≡ b

  -- a step with its answer leads to one state alone, and so does a list of entries
  abbrev pub StepHasOneEnd : Type 0
  StepHasOneEnd =
      (g : Procedures K T F I) (s t u : State K T F I) (event : Event K) (answer : Answer)
      → Step g s event answer t → Step g s event answer u → t ≡ u

  abbrev pub RunHasOneEnd : Type 0
  RunHasOneEnd =
      (g : Procedures K T F I) (s : State K T F I) (n : ℕ) (entries : List (Entry K)) (t u : State K T F I)
      → RunFrom g s n entries t → RunFrom g s n entries u → t ≡ u

  -- a run is made of steps that were passed one after another, from which its calls follow
  abbrev pub RunIsPassed : Type 0
  RunIsPassed =
      (g : Procedures K T F I) (s : State K T F I) (n : ℕ) (entries : List (Entry K)) (t : State K T F I) → RunFrom g s n entries t
      → (steps : List (Passed K T F I)) × (map (λ x. x.entry) steps ≡ entries) × Passes g s n steps × (left_by s steps ≡ t)

  -- every list of commands, each with the seat whose caller asks and the process for which it does, has a run
  abbrev pub RunIsTotal : Type 0
  RunIsTotal =
      (g : Procedures K T F I) (first : T) (asked : List (ℕ × ℕ × Command K))
      → (entries : List (Entry K)) × (t : State K T F I) × (map (λ e. (e.seat, e.event)) entries ≡ map {B = ℕ × Event K} (λ x. (x.0, Start x.1 x.2)) asked) × Run g first entries t

  -- in every state of a run the handles of an exclusive object are in one process, and no child inherits one
  abbrev pub ExclusiveIsAlone : Type 0
  ExclusiveIsAlone = (g : Procedures K T F I) (first : T) (entries : List (Entry K)) (t : State K T F I) → Run g first entries t → AreAlone t

  -- a process that begins or ends, and a duplicate of a handle, leave a sound state
  abbrev pub ProcessesStaySound : Type 0
  ProcessesStaySound =
      (g : Procedures K T F I) (s : State K T F I) (p : ℕ) (inherit : Bool) → IsSound s
      → IsSound (begun g s p inherit) × IsSound (ended g s p)

  abbrev pub DuplicateStaysSound : Type 0
  DuplicateStaysSound =
      (g : Procedures K T F I) (s t : State K T F I) (p handle to : ℕ) (inherit : Bool) (answer : Answer)
      → IsSound s → Duplicates g s p handle to inherit answer t → IsSound t

  -- a process that has ended has no handle and is not live
  abbrev pub EndedHoldsNothing : Type 0
  EndedHoldsNothing = (g : Procedures K T F I) (s : State K T F I) (p : ℕ) → handles_in (ended g s p) p ≡ []

  abbrev pub EndedIsGone : Type 0
  EndedIsGone = (g : Procedures K T F I) (s : State K T F I) (p : ℕ) → is_live (ended g s p) p ≡ false

  -- one that begins has the handles of its parent that are inherited and whose opens the set accepts, in
  -- their order, each under its value, to its object, and to be inherited again
  abbrev pub ChildHoldsTheAccepted : Type 0
  ChildHoldsTheAccepted =
      (g : Procedures K T F I) (s : State K T F I) (p : ℕ) (inherit : Bool) → IsSound s
      → map without_order (handles_in (begun g s p inherit) s.next_process)
      ≡ map handed_on (accepted g (with_child s p) s.next_process (inherited_from s p inherit))

  -- one that inherits nothing begins without a handle: the handles are as they were
  abbrev pub BeginsWithoutHandles : Type 0
  BeginsWithoutHandles = (g : Procedures K T F I) (s : State K T F I) (p : ℕ) → (begun g s p false).handles ≡ s.handles

  -- an object that is made temporary isn't permanent, and one with a name that is made permanent is; making
  -- one without a name permanent changes nothing, and every other object is left as it was
  abbrev pub MadeTemporary : Type 0
  MadeTemporary = (s : State K T F I) (o : ℕ) → is_permanent (turned s o false) o ≡ false

  abbrev pub MadePermanent : Type 0
  MadePermanent = (s : State K T F I) (o : ℕ) → Stands s o → has_name s o ≡ true → is_permanent (turned s o true) o ≡ true

  abbrev pub NamelessIsLeft : Type 0
  NamelessIsLeft = (s : State K T F I) (o : ℕ) → has_name s o ≡ false → turned s o true ≡ s

  abbrev pub OthersAreLeft : Type 0
  OthersAreLeft = (s : State K T F I) (o m : ℕ) (permanent : Bool) → m ≢ o → object_of (turned s o permanent) m ≡ object_of s m

  -- a process that sets its map with success has the directory of its handle as its map then, and every other
  -- process is left as it was, whatever is answered
  abbrev pub MapIsSet : Type 0
  MapIsSet =
      (g : Procedures K T F I) (s t : State K T F I) (p handle : ℕ) → Step g s (Start p (SetDeviceMap handle)) (answers Success) t
      → (h : Held) × (option_and_then (held_of s p) (key_of handle) ≡ Some h) × (is_directory s h.object ≡ true) × (map_of t p ≡ Some h.object)

  abbrev pub OtherMapsAreLeft : Type 0
  OtherMapsAreLeft =
      (g : Procedures K T F I) (s t : State K T F I) (p handle : ℕ) (answer : Answer) (q : ℕ) → q ≢ p → Step g s (Start p (SetDeviceMap handle)) answer t
      → process_of t q ≡ process_of s q

  -- the directory of a live process's map stays, and is there after each step
  abbrev pub MappedStays : Type 0
  MappedStays = (g : Procedures K T F I) (s : State K T F I) (p d : ℕ) → map_of s p ≡ Some d → object_of (settle g s) d ≡ object_of s d

  abbrev pub MapIsDirectory : Type 0
  MapIsDirectory =
      (g : Procedures K T F I) (s t : State K T F I) (event : Event K) (answer : Answer) (p d : ℕ)
      → IsSound s → Step g s event answer t → map_of t p ≡ Some d → IsDirectory t d

  -- in a sound state the shadow of a directory is a directory, and it stays where its directory does
  abbrev pub ShadowIsDirectory : Type 0
  ShadowIsDirectory = (s : State K T F I) (d shadow : ℕ) → IsSound s → shadow_of s d ≡ Some shadow → IsDirectory s shadow

  abbrev pub ShadowStays : Type 0
  ShadowStays =
      (g : Procedures K T F I) (s : State K T F I) (d shadow : ℕ)
      → IsSound s → shadow_of (settle g s) d ≡ Some shadow → object_of (settle g s) shadow ≡ object_of s shadow

  -- the object that a create with a shadow makes is a directory with this shadow; where the create opens an object,
  -- that is a directory, which keeps the shadow that it has or has none
  abbrev pub MadeHasItsShadow : Type 0
  MadeHasItsShadow =
      (g : Procedures K T F I) (s t : State K T F I) (p : ℕ) (where_to : Place) (attrs shadow value : ℕ)
      → IsSound s → Step g s (Start p (CreateShadowed where_to attrs shadow)) (gives Success (Handle value)) t
      → (h : Held) × (k : Held) × (option_and_then (held_of s p) (key_of shadow) ≡ Some h) × (held_of t p value ≡ Some k)
      × (body_of t k.object ≡ Some (Directory (Some h.object)))

  abbrev pub OpenedKeepsItsShadow : Type 0
  OpenedKeepsItsShadow =
      (g : Procedures K T F I) (s t : State K T F I) (p : ℕ) (where_to : Place) (attrs shadow value : ℕ)
      → Step g s (Start p (CreateShadowed where_to attrs shadow)) (gives ObjectNameExists (Handle value)) t
      → (k : Held) × (held_of t p value ≡ Some k) × (is_directory s k.object ≡ true) × (body_of t k.object ≡ body_of s k.object)

  -- a child begins with its parent's map
  abbrev pub ChildHasItsMap : Type 0
  ChildHasItsMap =
      (g : Procedures K T F I) (s : State K T F I) (p : ℕ) (inherit : Bool) → IsSound s → map_of (begun g s p inherit) s.next_process ≡ map_of s p

  -- settling leaves a settled state, and a settled state as it is
  abbrev pub SettlingSettles : Type 0
  SettlingSettles = (g : Procedures K T F I) (s : State K T F I) → IsSettled (settle g s)

  abbrev pub SettledStays : Type 0
  SettledStays = (g : Procedures K T F I) (s : State K T F I) → IsSettled s → settle g s ≡ s

  -- the opening state is settled, and a step from a settled state leads to a settled one
  abbrev pub OpeningIsSettled : Type 0
  OpeningIsSettled = (set : T) → IsSettled (opening {K = K} {F = F} {I = I} set)

  abbrev pub StepStaysSettled : Type 0
  StepStaysSettled =
      (g : Procedures K T F I) (s t : State K T F I) (event : Event K) (answer : Answer)
      → IsSettled s → Step g s event answer t → IsSettled t

  -- a handle that is granted leaves a settled state, and so does an object that comes with one
  abbrev pub GrantStaysSettled : Type 0
  GrantStaysSettled =
      (g : Procedures K T F I) (s : State K T F I) (p value o : ℕ) (reason : Reason) (inherit : Bool)
      → IsSettled s → IsSettled (with_handle (with_open g s o reason) p value o inherit)

  -- and so does a child that begins with handles
  abbrev pub ChildStaysSettled : Type 0
  ChildStaysSettled = (g : Procedures K T F I) (s : State K T F I) (p : ℕ) (inherit : Bool) → IsSettled s → IsSettled (begun g s p inherit)

  abbrev pub CreateStaysSettled : Type 0
  CreateStaysSettled =
      (g : Procedures K T F I) (s : State K T F I) (p : ℕ) (spot : Spot) (body : Body F I) (attrs value : ℕ)
      → IsSettled s → IsSettled (created g s p spot body attrs value)

  -- so does an object with a handle that is made permanent or temporary
  abbrev pub TurnStaysSettled : Type 0
  TurnStaysSettled =
      (s : State K T F I) (o : ℕ) (permanent : Bool) → IsSettled s → has_handle s o ≡ true → IsSettled (turned s o permanent)

  -- and so does a close of a handle whose object's names stay, where all handles of its process and value
  -- lead to that object, which has a name if it is permanent
  abbrev pub CloseStaysSettled : Type 0
  CloseStaysSettled =
      (g : Procedures K T F I) (s : State K T F I) (h : Held) → IsSettled s
      → All (λ k. is_handle h.process h.value k ≡ true → k.object ≡ h.object) s.handles
      → (is_permanent s h.object ≡ true → ((h.object == root_id) || has_name s h.object) ≡ true)
      → (is_permanent (closed_handle g s h) h.object || has_handle (closed_handle g s h) h.object) ≡ true
      → IsSettled (closed_handle g s h)

  -- two sound states that are alike, and alike commands of a process: whatever steps the machine makes, the
  -- answers are alike, and so are the states that it leaves
  abbrev pub StepsStayAlike : Type 0
  StepsStayAlike =
      (g : Procedures K T F I) (s t : State K T F I) (p : ℕ) (one other : Command K) (a b : Answer) (u v : State K T F I)
      → IsSound s → IsSound t → AreAlike s t → AreAlikeCommands s t p one other → Step g s (Start p one) a u → Step g t (Start p other) b v
      → AreAlikeAnswers a b × AreAlike u v

  -- and what led alike leads alike then, so that the next commands can be alike too
  abbrev pub HandlesLeadOn : Type 0
  HandlesLeadOn =
      (g : Procedures K T F I) (s t : State K T F I) (p : ℕ) (one other : Command K) (a b : Answer) (u v : State K T F I)
      → IsSound s → IsSound t → AreAlike s t → AreAlikeCommands s t p one other → Step g s (Start p one) a u → Step g t (Start p other) b v
      → LeadOn s t p (receiver p one) a b u v

  -- So it is where one pending open is resumed, or given up, in both, and the same became of its parse: the answers
  -- and the states are alike, and for the process that asked what led alike goes on to, and all is held on.
  abbrev pub StaysAlike : State K T F I → State K T F I → ℕ → Answer → Answer → State K T F I → State K T F I → Type 0
  StaysAlike s t ticket a b u v =
      MatchOption (pending_of s ticket) ⊥
      (λ x. AreAlikeAnswers a b × AreAlike u v × LeadOn s t x.process x.process a b u v × HoldOn s (λ p value. ⊥) x.process a u)

  abbrev pub ResumesStayAlike : Type 0
  ResumesStayAlike =
      (g : Procedures K T F I) (s t : State K T F I) (ticket : ℕ) (parse : ParseRun) (a b : Answer) (u v : State K T F I)
      → AreAlike s t → Step g s (Resume ticket parse) a u → Step g t (Resume ticket parse) b v → StaysAlike s t ticket a b u v

  abbrev pub AbandonsStayAlike : Type 0
  AbandonsStayAlike =
      (g : Procedures K T F I) (s t : State K T F I) (ticket : ℕ) (parse : ParseRun) (a b : Answer) (u v : State K T F I)
      → AreAlike s t → Step g s (Abandon ticket parse) a u → Step g t (Abandon ticket parse) b v → StaysAlike s t ticket a b u v

  -- what a step doesn't close is held on, and the handle that it gives is new
  abbrev pub HandlesHoldOn : Type 0
  HandlesHoldOn =
      (g : Procedures K T F I) (s : State K T F I) (p : ℕ) (command : Command K) (a : Answer) (u : State K T F I)
      → IsSound s → Step g s (Start p command) a u → HoldOn s (IsClosedBy p command) (receiver p command) a u
