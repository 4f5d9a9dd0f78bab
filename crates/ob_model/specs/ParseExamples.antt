-- Worked examples of pending opens: what is left of a small namespace where one is resumed or given up.
--
-- Source: this profile.
use Rattle.std.specs.Prelude.{◌≡◌, ℕ, ◌+◌, ◌==◌, if◌then◌else◌, false, true, List, [], ◌∷◌, ◌++◌, Option, None, Some, codes}
use Rattle.ob_base.specs.declared.status.Status.TheVariants.{Success, ObjectTypeMismatch, ReparseLimit, ProcessGone, TypeRefused}
use Rattle.ob_model.specs.declared.reply.Answer.{Answer}
use Rattle.ob_model.specs.declared.reply.Event.{Event}
use Rattle.ob_model.specs.declared.reply.Event.TheVariants.{Resume, Abandon}
use Rattle.ob_model.specs.declared.reply.Given.TheVariants.{Handle}
use Rattle.ob_model.specs.declared.reply.ParseRun.TheVariants.{Unrun, Ran}
use Rattle.ob_model.specs.declared.state.Body.TheVariants.{Other}
use Rattle.ob_model.specs.declared.state.Wanted.{Wanted}
use Rattle.ob_model.specs.declared.state.Wanted.TheVariants.{Anything, Kind}
use Rattle.ob_model.specs.declared.terms.Reason.TheVariants.{Opened as ForOpen}
use Rattle.ob_model.specs.Procedures.{Procedures, ParseAnswer, Itself, Front, Reparse, Refused as ParseRefused, ParseOutcome, EndsItself, EndsMade, EndsReparse, EndsRefused}
use Rattle.ob_model.specs.State.{object_of, global_id}
use Rattle.ob_model.specs.Opening.{opening}
use Rattle.ob_model.specs.Parses.{parsed_state}
use Rattle.ob_model.specs.Grants.{with_open, with_handle}
use Rattle.ob_model.specs.Settle.{settle}
use Rattle.ob_model.specs.Refusals.{gives, answers}
use Rattle.ob_model.specs.Calls.{Call, Opened, Deleted, Passed, Passes, calls_of_run}
use Rattle.ob_model.specs.Examples.{recording, Recorded}

-- a parse that takes a rest byte by byte, to the instance of the next face each, whose inner value is the
-- byte; it refuses `!` with 5, and looks `\DosDevices` up at `@`
abbrev pub parsed_byte : ℕ → List ℕ → ParseAnswer ℕ ℕ
parsed_byte face [] = Itself
parsed_byte face (b ∷ bs) = if b == 33 then ParseRefused 5 else if b == 64 then Reparse (codes "\\DosDevices") else Front 1 (face + 1) b

-- a set whose value is the list of the calls that it got, and whose objects parse so
abbrev pub parsing : Procedures ℕ (List (ℕ × Call)) ℕ ℕ
parsing = record recording { parses = λ kind. true; parsed = parsed_byte }

-- process 1's open with the ticket 8 is pending at object 7, which has no name and no handle, with this rest for
-- its parse, so many reparses left, and a type that is asked for
abbrev pub with_open_at : List ℕ → ℕ → Wanted ℕ → Recorded
with_open_at rest n wanted =
    let start : Recorded = opening [] in
    record start {
      objects = start.objects ++ record { id = 7; body = Other 1 1; permanent = false; exclusive = false } ∷ [];
      pending = record { ticket = 8; process = 1; object = 7; rest = rest; left = n; attrs = 0; wanted = wanted } ∷ [];
      next_id = 9;
    }

-- a run of one step, of process 1's seat
abbrev pub one_step : Event ℕ → Option (ParseOutcome ℕ ℕ) → Answer → Recorded → List (Passed ℕ (List (ℕ × Call)) ℕ ℕ)
one_step event outcome answer after =
    record { entry = record { number = 1; seat = 1; event = event; answer = answer }; outcome = outcome; after = after } ∷ []

-- the end of a pending open is judged, and process 1 is given the handle 4 to an object; or it is refused
abbrev pub granted : Recorded → Option (ParseOutcome ℕ ℕ) → ℕ → Recorded
granted s outcome o = with_handle (with_open parsing (parsed_state s 8 outcome) o ForOpen) 1 4 o false

abbrev pub given_to : Recorded → Option (ParseOutcome ℕ ℕ) → ℕ → Recorded
given_to s outcome o = settle parsing (granted s outcome o)

abbrev pub given_none : Recorded → Option (ParseOutcome ℕ ℕ) → Recorded
given_none s outcome = settle parsing (parsed_state s 8 outcome)

-- what the parse made is opened, under the ticket; the object that parsed goes, since nothing else holds it
abbrev pub MadeIsOpened : Type 0
MadeIsOpened =
    let s = with_open_at (codes "ab") 32 Anything in
    let made = Some (EndsMade 3 98) in
    let t = given_to s made 8 in
    let run = one_step (Resume 8 Ran) made (gives Success (Handle 4)) t in
    Passes parsing s 0 run
    × (object_of t 8 ≡ Some (record { id = 8; body = Other 3 98; permanent = false; exclusive = false })) × (object_of t 7 ≡ None) × (t.pending ≡ [])
    × (calls_of_run s run 8 ≡ Opened ForOpen ∷ []) × (calls_of_run s run 7 ≡ Deleted ∷ []) × (t.set ≡ (98, Opened ForOpen) ∷ (1, Deleted) ∷ [])

-- what the parse made is of another type than was asked for: it goes unopened, before the object that parsed
abbrev pub MadeOfAnotherTypeGoes : Type 0
MadeOfAnotherTypeGoes =
    let s = with_open_at (codes "ab") 32 (Kind 5) in
    let made = Some (EndsMade 3 98) in
    let t = given_none s made in
    let run = one_step (Resume 8 Ran) made (answers ObjectTypeMismatch) t in
    Passes parsing s 0 run × (object_of t 8 ≡ None) × (t.pending ≡ []) × (calls_of_run s run 8 ≡ Deleted ∷ []) × (t.set ≡ (98, Deleted) ∷ (1, Deleted) ∷ [])

-- no rest is left: the object that parsed is opened, though it has no name, and stays
abbrev pub ItselfIsOpened : Type 0
ItselfIsOpened =
    let s = with_open_at [] 32 (Kind 1) in
    let t = given_to s (Some EndsItself) 7 in
    let run = one_step (Resume 8 Ran) (Some EndsItself) (gives Success (Handle 4)) t in
    Passes parsing s 0 run × (object_of t 7 ≡ Some (record { id = 7; body = Other 1 1; permanent = false; exclusive = false })) × (t.pending ≡ [])
    × (t.set ≡ (1, Opened ForOpen) ∷ [])

-- a refusal of the parse is the answer
abbrev pub ParseIsRefused : Type 0
ParseIsRefused =
    let s = with_open_at (codes "a!") 32 Anything in
    Passes parsing s 0 (one_step (Resume 8 Ran) (Some (EndsRefused 5)) (answers (TypeRefused 5)) (given_none s (Some (EndsRefused 5))))

-- the process that asked is gone: what the parse made goes, whoever resumes
abbrev pub AskerIsGone : Type 0
AskerIsGone =
    let s = record (with_open_at (codes "ab") 32 Anything) { processes = [] } in
    let made = Some (EndsMade 3 98) in
    let t = given_none s made in
    Passes parsing s 0 (one_step (Resume 8 Ran) made (answers ProcessGone) t) × (t.set ≡ (98, Deleted) ∷ (1, Deleted) ∷ [])

-- an open is given up before its parse was run, or after it: then what the parse made goes
abbrev pub OpenIsGivenUp : Type 0
OpenIsGivenUp =
    let s = with_open_at (codes "ab") 32 Anything in
    let made = Some (EndsMade 3 98) in
    Passes parsing s 0 (one_step (Abandon 8 Unrun) None (answers Success) (given_none s None)) × ((given_none s None).set ≡ (1, Deleted) ∷ [])
    × Passes parsing s 0 (one_step (Abandon 8 Ran) made (answers Success) (given_none s made)) × ((given_none s made).set ≡ (98, Deleted) ∷ (1, Deleted) ∷ [])

-- a text to look up takes one of the reparses that are left, and a link in it another one; where none is left
-- that is the answer
abbrev pub ReparsesAreCounted : Type 0
ReparsesAreCounted =
    let text = Some (EndsReparse (codes "\\DosDevices")) in
    let two = with_open_at (codes "a@") 2 Anything in
    let one = with_open_at (codes "a@") 1 Anything in
    let none = with_open_at (codes "a@") 0 Anything in
    Passes parsing two 0 (one_step (Resume 8 Ran) text (gives Success (Handle 4)) (given_to two text global_id))
    × Passes parsing one 0 (one_step (Resume 8 Ran) text (answers ReparseLimit) (given_none one text))
    × Passes parsing none 0 (one_step (Resume 8 Ran) text (answers ReparseLimit) (given_none none text))
