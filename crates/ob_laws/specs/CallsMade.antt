-- That the calls of a run are those that the machine makes: one after another they make of the set's first value,
-- and of the inner values with which objects come to be, the set's value and the inner values that the run leaves.
use Rattle.std.specs.Prelude.{◌≡◌, ℕ, ◌==◌, true, if◌then◌else◌, List, [], ◌∷◌, filter, map, Option, None, Some}
use Rattle.std.specs.Option.{is_some, option_map_or, option_and_then, option_or}
use Rattle.ob_model.specs.declared.command.Command.{Command}
use Rattle.ob_model.specs.declared.command.Command.TheVariants.{CreateObject}
use Rattle.ob_model.specs.declared.reply.Event.{Event}
use Rattle.ob_model.specs.declared.reply.Event.TheVariants.{Start, Resume, Abandon}
use Rattle.ob_model.specs.declared.state.Body.{Body}
use Rattle.ob_model.specs.declared.state.Body.TheVariants.{Directory, Link, Other}
use Rattle.ob_model.specs.State.{State, body_of}
use Rattle.ob_model.specs.Opening.{opening}
use Rattle.ob_model.specs.Procedures.{Procedures, ParseOutcome, EndsItself, EndsMade, EndsReparse, EndsRefused}
use Rattle.ob_model.specs.Calls.{Call, Opened, Closed, Deleted, is_drawn, Passed, Passes, left_by, calls_of_run}

-- a call on the object of a number
pub record Made : Type 0 where
  pub object : ℕ
  pub call : Call

-- of these calls those on one object, in their order
abbrev pub calls_on : List Made → ℕ → List Call
calls_on log o = map (λ m. m.call) (filter (λ m. m.object == o) log)

-- the set's value, and the inner value of each object of the set that is there
pub record Inside (T I : Type 0) : Type 0 where
  pub set : T
  pub inner : ℕ → Option I

-- the inner value of an object of the set, by its body
abbrev pub inner_of : {F I : Type 0} → Body F I → Option I
inner_of (Directory shadow) = None
inner_of (Link target) = None
inner_of (Other face inner) = Some inner

-- the inner value of an object that is there and is one of the set
abbrev pub inner_in : {K T F I : Type 0} → State K T F I → ℕ → Option I
inner_in s o = option_and_then inner_of (body_of s o)

-- what the set's value and the inner values are in a state
abbrev pub inside : {K T F I : Type 0} → State K T F I → Inside T I
inside s = record { set = s.set; inner = inner_in s }

-- the inner value of the instance that a parse made, where it made one
abbrev pub made_by_parse : {F I : Type 0} → Option (ParseOutcome F I) → Option I
made_by_parse None = None
made_by_parse (Some EndsItself) = None
made_by_parse (Some (EndsMade face inner)) = Some inner
made_by_parse (Some (EndsReparse text)) = None
made_by_parse (Some (EndsRefused k)) = None

-- ---- what calls make of them

module _ {K T F I : Type 0} (g : Procedures K T F I) where
  -- what one call makes of the set's value and of its object's inner value, which a delete takes away
  abbrev pub called : Call → T → I → T × Option I
  called (Opened reason) set inner = let left = g.opened set inner reason in (left.0, Some left.1)
  called (Closed process_left system_left) set inner = let left = g.closed set inner process_left system_left in (left.0, Some left.1)
  called Deleted set inner = (g.deleted set inner, None)

  -- a call on an object without an inner value changes nothing
  abbrev pub after_call : Inside T I → Made → Inside T I
  after_call v m =
      option_map_or (λ inner. let left = called m.call v.set inner in record { set = left.0; inner = λ o. if o == m.object then left.1 else v.inner o }) (v.inner m.object) v

  -- one call after another
  abbrev pub after_calls : Inside T I → List Made → Inside T I
  after_calls v [] = v
  after_calls v (m ∷ log) = after_calls (after_call v m) log

  -- the number with which the set refuses a call: an open alone may be refused
  abbrev pub refuses : Call → T → I → Option ℕ
  refuses (Opened reason) set inner = g.refuses_to_open set inner reason
  refuses (Closed process_left system_left) set inner = None
  refuses Deleted set inner = None

  -- each of these calls is on an object that has its inner value then, and is not refused
  abbrev pub FindValues : Inside T I → List Made → Type 0
  FindValues v [] = Unit {0}
  FindValues v (m ∷ log) =
      (is_some (v.inner m.object) ≡ true) × (option_and_then (refuses m.call v.set) (v.inner m.object) ≡ None) × FindValues (after_call v m) log

  -- ---- the inner values with which objects come to be

  -- what a create makes is there under the number that it draws, also where the set then refuses to open it
  abbrev pub made_by_command : State K T F I → State K T F I → Command K → ℕ → Option I
  made_by_command s t (CreateObject where_to attrs kind args) o = if is_drawn s t (CreateObject where_to attrs kind args) o then Some ((g.made kind args).1) else None
  made_by_command s t command o = None

  -- an object comes to be by a create, or under the ticket of a pending open that ends
  abbrev pub made_by_event : State K T F I → State K T F I → Event K → Option (ParseOutcome F I) → ℕ → Option I
  made_by_event s t (Start p command) outcome o = made_by_command s t command o
  made_by_event s t (Resume ticket parse) outcome o = if o == ticket then made_by_parse outcome else None
  made_by_event s t (Abandon ticket parse) outcome o = if o == ticket then made_by_parse outcome else None

  abbrev pub made_in_step : State K T F I → Passed K T F I → ℕ → Option I
  made_in_step s x o = made_by_event s x.after x.entry.event x.outcome o

  -- the first of these steps in which it comes to be
  abbrev pub made_in_run : State K T F I → List (Passed K T F I) → ℕ → Option I
  made_in_run s [] o = None
  made_in_run s (x ∷ xs) o = option_or (made_in_step s x o) (made_in_run x.after xs o)

  -- what the calls of a run begin with: the first value of the set, and the inner values that come to be in the run
  abbrev pub begins_with : T → List (Passed K T F I) → Inside T I
  begins_with first steps = record { set = first; inner = made_in_run (opening first) steps }

-- ---- the law

module _ (K T F I : Type 0) where
  -- The log holds, of each object, the calls of the run. No call is on an object that has no inner value then, and no
  -- open is one that the set refuses then. The calls make of the first value, and of the inner values with which objects
  -- come to be, what the run leaves.
  pub record AreMade (g : Procedures K T F I) (first : T) (steps : List (Passed K T F I)) (log : List Made) : Type 0 where
    pub told : (o : ℕ) → calls_on log o ≡ calls_of_run (opening first) steps o
    pub found : FindValues g (begins_with g first steps) log
    pub set : (after_calls g (begins_with g first steps) log).set ≡ (left_by (opening first) steps).set
    pub inner : (o : ℕ) → (after_calls g (begins_with g first steps) log).inner o ≡ inner_in (left_by (opening first) steps) o

  -- The calls of each run are made, in an order in which each object's are as in its steps. It holds of each front
  -- of a run, which is a run too, and so after each step.
  abbrev pub CallsAreMade : Type 0
  CallsAreMade =
      (g : Procedures K T F I) (first : T) (steps : List (Passed K T F I)) → Passes g (opening first) 0 steps
      → (log : List Made) × AreMade g first steps log
