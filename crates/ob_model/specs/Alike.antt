-- States, commands and answers that are alike: the same except for the values of handles.
--
-- Source: this profile, by which the machine may choose the value of a new handle.
use Rattle.std.specs.Prelude.{◌≡◌, ℕ, Bool, true, false, List, [], map, Option, None, Some}
use Rattle.std.specs.List.{list_any}
use Rattle.std.specs.Option.{option_map_or}
use Rattle.ob_base.specs.Handle.{key_of}
use Rattle.ob_model.specs.declared.command.Place.{Place}
use Rattle.ob_model.specs.declared.command.Place.TheVariants.{At, Unnamed}
use Rattle.ob_model.specs.declared.command.Command.{Command}
use Rattle.ob_model.specs.declared.command.Command.TheVariants.{CreateDirectory, CreateShadowed, CreateLink, CreateObject, OpenDirectory, OpenLink, OpenObject, Close, QueryLink, QueryName, QueryDirectory, Duplicate, MakeTemporary, MakePermanent, SetDeviceMap, NewProcess, ExitProcess}
use Rattle.ob_model.specs.declared.reply.Answer.{Answer}
use Rattle.ob_model.specs.declared.reply.Answer.TheVariants.{Done, Ticket}
use Rattle.ob_model.specs.declared.reply.Given.{Given}
use Rattle.ob_model.specs.declared.reply.Given.TheVariants.{Nothing, Handle, Text, Process, Page}
use Rattle.ob_model.specs.declared.state.Held.{Held}
use Rattle.ob_model.specs.State.{State}
use Rattle.ob_model.specs.Closing.{is_handle}
use Rattle.ob_model.specs.Grants.{IsFreeValue}
use Rattle.ob_model.specs.Processes.{values_in}

-- a handle with 0 in place of its value
abbrev pub unvalued_handle : Held → Held
unvalued_handle h = record h { value = 0 }

-- what is given, with 0 in place of each value of a handle, and an answer that gives it
abbrev pub unvalued_given : Given → Given
unvalued_given Nothing = Nothing
unvalued_given (Handle value) = Handle 0
unvalued_given (Text text) = Text text
unvalued_given (Process number values) = Process number (map (λ value. 0) values)
unvalued_given (Page entries context) = Page entries context

abbrev pub unvalued_answer : Answer → Answer
unvalued_answer (Done reply) = Done (record reply { given = unvalued_given reply.given })
unvalued_answer (Ticket number) = Ticket number

-- two answers have the same status, and give handles, the same text, the same page, the same process with as
-- many handles, or nothing
abbrev pub AreAlikeAnswers : Answer → Answer → Type 0
AreAlikeAnswers a b = unvalued_answer a ≡ unvalued_answer b

-- the handle that an answer gives, where it gives one, and the process that it names
abbrev pub handle_in : Given → Option ℕ
handle_in Nothing = None
handle_in (Handle value) = Some value
handle_in (Text text) = None
handle_in (Process number values) = None
handle_in (Page entries context) = None

abbrev pub process_in : Given → Option ℕ
process_in Nothing = None
process_in (Handle value) = None
process_in (Text text) = None
process_in (Process number values) = Some number
process_in (Page entries context) = None

abbrev pub handle_given : Answer → Option ℕ
handle_given (Done reply) = handle_in reply.given
handle_given (Ticket number) = None

abbrev pub process_given : Answer → Option ℕ
process_given (Done reply) = process_in reply.given
process_given (Ticket number) = None

-- the values of handles that an answer gives with a process
abbrev pub values_in_given : Given → List ℕ
values_in_given Nothing = []
values_in_given (Handle value) = []
values_in_given (Text text) = []
values_in_given (Process number values) = values
values_in_given (Page entries context) = []

abbrev pub values_given : Answer → List ℕ
values_given (Done reply) = values_in_given reply.given
values_given (Ticket number) = []

-- the process that gets the handle which a command of a process asks for
abbrev pub receiver : {K : Type 0} → ℕ → Command K → ℕ
receiver p (Duplicate value to inherit) = to
receiver p command = p

-- the handles that a command of a process closes, where it is done: the one that it names, or all of the process
abbrev pub IsClosedBy : {K : Type 0} → ℕ → Command K → ℕ → ℕ → Type 0
IsClosedBy p (Close value) q other = (q ≡ p) × (key_of other ≡ key_of value)
IsClosedBy p ExitProcess q other = q ≡ p
IsClosedBy p command q other = ⊥

-- a handle is the one that a process names by a value, its low two bits ignored
abbrev pub is_named : ℕ → ℕ → Held → Bool
is_named p value h = option_map_or (λ key. is_handle p key h) (key_of value) false

module _ {K T F I : Type 0} where
  -- a state with 0 in place of the value of each handle
  abbrev pub unvalued : State K T F I → State K T F I
  unvalued s = record s { handles = map unvalued_handle s.handles }

  -- two states are the same except for the values of handles
  abbrev pub AreAlike : State K T F I → State K T F I → Type 0
  AreAlike s t = unvalued s ≡ unvalued t

  -- what a process names by one value in one state and by another in the other is at the same place
  -- of the list of handles, or is in neither
  abbrev pub LeadAlike : State K T F I → State K T F I → ℕ → ℕ → ℕ → Type 0
  LeadAlike s t p value other = map (is_named p value) s.handles ≡ map (is_named p other) t.handles

  -- a process has a handle that it names by this value
  abbrev pub IsHeld : State K T F I → ℕ → ℕ → Type 0
  IsHeld s p value = list_any (is_named p value) s.handles ≡ true

  -- The handles that a step leaves to processes, from the state s to u, for a command that gives a handle
  -- to the process r: what isn't closed is held on; the value of a handle that is given was free, and is held; and
  -- the values that an answer gives with a process are those of its handles.
  pub record HoldOn (s : State K T F I) (IsClosed : ℕ → ℕ → Type 0) (r : ℕ) (a : Answer) (u : State K T F I) : Type 0 where
    pub stays : (p value : ℕ) → IsHeld s p value → (IsClosed p value → ⊥) → IsHeld u p value
    pub given : (value : ℕ) → handle_given a ≡ Some value → IsFreeValue s r value × IsHeld u r value
    pub told : (child : ℕ) → process_given a ≡ Some child → values_given a ≡ values_in u child

  -- The values that lead alike after two steps, from the states s and t to u and v, for a command of the
  -- process p that gives a handle to the process r: values of handles that are there go on to lead alike, for
  -- every process; so do the values of the handles that both give; and values that led alike for p do so for a
  -- child of it, whether it inherits what they name or not.
  pub record LeadOn (s t : State K T F I) (p r : ℕ) (a b : Answer) (u v : State K T F I) : Type 0 where
    pub held : (q value other : ℕ) → IsHeld s q value → LeadAlike s t q value other → LeadAlike u v q value other
    pub granted : (value other : ℕ) → handle_given a ≡ Some value → handle_given b ≡ Some other → LeadAlike u v r value other
    pub inherited : (child value other : ℕ) → process_given a ≡ Some child → LeadAlike s t p value other → LeadAlike u v child value other

module _ {K T F I : Type 0} (s t : State K T F I) (p : ℕ) where
  -- no root handle in both places, or root handles that lead alike
  pub data AreAlikeRoots : Option ℕ → Option ℕ → Type 0 where
    no_root : AreAlikeRoots None None
    roots : {value other : ℕ} → LeadAlike s t p value other → AreAlikeRoots (Some value) (Some other)

  -- the same name, below root handles that lead alike, or no name
  pub data AreAlikePlaces : Place → Place → Type 0 where
    no_name : AreAlikePlaces Unnamed Unnamed
    names : {root other : Option ℕ} {name : List ℕ} → AreAlikeRoots root other → AreAlikePlaces (At root name) (At other name)

  -- two commands of a process are the same except for the values of handles, which lead alike
  pub data AreAlikeCommands : Command K → Command K → Type 0 where
    create_directories : {place other : Place} {attrs : ℕ} → AreAlikePlaces place other → AreAlikeCommands (CreateDirectory place attrs) (CreateDirectory other attrs)
    create_shadowed : {place other : Place} {attrs shadow same : ℕ} → AreAlikePlaces place other → LeadAlike s t p shadow same
        → AreAlikeCommands (CreateShadowed place attrs shadow) (CreateShadowed other attrs same)
    create_links : {place other : Place} {attrs : ℕ} {target : List ℕ} → AreAlikePlaces place other → AreAlikeCommands (CreateLink place attrs target) (CreateLink other attrs target)
    create_objects : {place other : Place} {attrs : ℕ} {kind : K} {args : List ℕ} → AreAlikePlaces place other
        → AreAlikeCommands (CreateObject place attrs kind args) (CreateObject other attrs kind args)
    open_directories : {root other : Option ℕ} {name : List ℕ} {attrs : ℕ} → AreAlikeRoots root other → AreAlikeCommands (OpenDirectory root name attrs) (OpenDirectory other name attrs)
    open_links : {root other : Option ℕ} {name : List ℕ} {attrs : ℕ} → AreAlikeRoots root other → AreAlikeCommands (OpenLink root name attrs) (OpenLink other name attrs)
    open_objects : {root other : Option ℕ} {name : List ℕ} {attrs : ℕ} {want : Option K} → AreAlikeRoots root other
        → AreAlikeCommands (OpenObject root name attrs want) (OpenObject other name attrs want)
    closes : {value other : ℕ} → LeadAlike s t p value other → AreAlikeCommands (Close value) (Close other)
    queries_of_links : {value other : ℕ} → LeadAlike s t p value other → AreAlikeCommands (QueryLink value) (QueryLink other)
    queries_of_names : {value other : ℕ} → LeadAlike s t p value other → AreAlikeCommands (QueryName value) (QueryName other)
    queries_of_directories : {value other context room : ℕ} {single restart : Bool} → LeadAlike s t p value other
        → AreAlikeCommands (QueryDirectory value context room single restart) (QueryDirectory other context room single restart)
    duplicates : {value other to : ℕ} {inherit : Bool} → LeadAlike s t p value other → AreAlikeCommands (Duplicate value to inherit) (Duplicate other to inherit)
    temporaries : {value other : ℕ} → LeadAlike s t p value other → AreAlikeCommands (MakeTemporary value) (MakeTemporary other)
    permanents : {value other : ℕ} → LeadAlike s t p value other → AreAlikeCommands (MakePermanent value) (MakePermanent other)
    device_maps : {value other : ℕ} → LeadAlike s t p value other → AreAlikeCommands (SetDeviceMap value) (SetDeviceMap other)
    new_processes : {inherit : Bool} → AreAlikeCommands (NewProcess inherit) (NewProcess inherit)
    exits : AreAlikeCommands ExitProcess ExitProcess
