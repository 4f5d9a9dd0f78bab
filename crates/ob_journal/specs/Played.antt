-- A journal as far as it was played again: the state, and the position in the journal.
--
-- Source: this profile.
use Rattle.std.specs.Prelude.{Bool, true, false, ◌≡◌, ◌⊎◌, ℕ, ◌+◌, ◌<◌, List, ◌∷◌, ◌++◌, length, Option, None, Some}
use Rattle.ob_model.specs.declared.reply.Answer.{Answer}
use Rattle.ob_model.specs.declared.reply.Event.{Event}
use Rattle.ob_model.specs.declared.reply.Event.TheVariants.{Start, Resume, Abandon}
use Rattle.ob_model.specs.declared.reply.ParseRun.TheVariants.{Unrun, Ran, NoMemory}
use Rattle.ob_model.specs.Alike.{handle_given}
use Rattle.ob_model.specs.Grants.{IsFreeValue}
use Rattle.ob_model.specs.Run.{Entry}
use Rattle.ob_model.specs.Step.{Step}
use Rattle.ob_types.specs.Parse.{ToRun}
use Rattle.ob_runner.specs.Begun.{AreAwaited}
use Rattle.ob_runner.specs.Repeated.{AreAllKept}
use Rattle.ob_model.specs.Choice.{answer_under, receiver_of}
use Rattle.ob_standard.specs.Standard.{StandardKind, StandardFace, standard}
use Rattle.ob_standard_core.specs.Machine.{Space}
use Rattle.ob_entries.specs.Segments.{most_entries}
use Rattle.ob_reader.specs.declared.header.Header.{Header}
use Rattle.ob_reader.specs.declared.line.Line.{Line}
use Rattle.ob_reader.specs.declared.line.SegmentLine.TheVariants as says
use Rattle.ob_reader.specs.declared.said.Gift.{Gift}
use Rattle.ob_reader.specs.declared.said.Gift.TheVariants.{Nothing, Handle, Text, Process, Page}
use Rattle.ob_reader.specs.declared.said.Said.{Said}
use Rattle.ob_reader.specs.declared.said.Said.TheVariants.{Ticket, Done}
use Rattle.ob_reader.specs.Reading.{said_of, line_about}
use Rattle.ob_journal.specs.declared.choice.Choice.{Choice}
use Rattle.ob_journal.specs.declared.position.Position.{Position}
use Rattle.ob_journal.specs.declared.report.Cause.{Cause}
use Rattle.ob_journal.specs.declared.report.CheckFault.{CheckFault}
use Rattle.ob_journal.specs.declared.report.CheckFault.TheVariants as check
use Rattle.ob_journal.specs.declared.replay.Stop.{Stop}
use Rattle.ob_journal.specs.declared.replay.Stop.TheVariants.{Refused, Memory}
use Rattle.ob_journal.specs.Journal.{after_entry, after_header, first_of, said_after, seats_of, AreOfRun, BeginsSegment, IsRefusedLine}

pub record Played : Type 0 where
  pub state : Space
  pub position : Position

-- what is kept beside a core: the parses of all its pending opens
pub record IsKeptBeside (s : Space) (parses : List (ToRun StandardFace)) : Type 0 where
  pub awaited : AreAwaited s parses
  pub all : AreAllKept s parses

-- what a line says is played: it is the next entry, whose step leads from the one state to the other
pub record PlaysEntry (p : Played) (line : Line) (q : Played) : Type 0 where
  pub entry : Entry StandardKind
  pub told : line ≡ line_about entry
  pub next : entry.number ≡ p.position.count + 1
  pub room : p.position.count + 1 < first_of p.position.header + most_entries
  pub seat : entry.seat < seats_of p.position.header
  pub step : Step standard p.state entry.event entry.answer q.state
  pub position : q.position ≡ after_entry p.position

-- a line is played: it begins the next segment, or says the next entry
abbrev pub PlaysLine : Played → List ℕ → Played → Type 0
PlaysLine p text q =
    (BeginsSegment p.position text × (q ≡ record { state = p.state; position = after_header p.position }))
    ⊎ ((line : Line) × (said_after p.position.header text ≡ says.Entry (Some line)) × PlaysEntry p line q)

-- an open is resumed whose parse was not run
abbrev pub resumes_unrun : Event StandardKind → Bool
resumes_unrun (Start p command) = false
resumes_unrun (Resume ticket Unrun) = true
resumes_unrun (Resume ticket Ran) = false
resumes_unrun (Resume ticket NoMemory) = false
resumes_unrun (Abandon ticket parse) = false

-- ---- the value of a handle

-- the value of the handle that a line says is given, where it says one
abbrev pub value_in : Gift → Option ℕ
value_in Nothing = None
value_in (Handle value) = Some value
value_in (Text text) = None
value_in (Process process handles) = None
value_in (Page entries context) = None

abbrev pub value_said : Said → Option ℕ
value_said (Ticket ticket) = None
value_said (Done status gift) = value_in gift

-- a value that the line says may be chosen for a handle that its step gives: the process which gets it doesn't use it
pub record MayChoose (s : Space) (line : Line) (choice : Choice) : Type 0 where
  pub said : value_said line.reply ≡ Some choice.value
  pub receiver : receiver_of s line.step ≡ Some choice.process
  pub free : IsFreeValue s choice.process choice.value

-- this value may be chosen for the handle that an answer gives, and the line says the answer with it in place of its
-- own
pub record IsTaken (line : Line) (choice : Option Choice) (a : Answer) (one : Choice) (chosen : ℕ) : Type 0 where
  pub one_is : choice ≡ Some one
  pub given : handle_given a ≡ Some chosen
  pub said : said_of (answer_under one.value a) ≡ line.reply

-- no value may be chosen
abbrev pub MayChooseNone : Space → Line → Type 0
MayChooseNone s line = (choice : Choice) → MayChoose s line choice → ⊥

-- why a line wasn't played: for this cause, or since memory ran out
abbrev pub IfRefused : Stop → (Cause → Type 0) → Type 0
IfRefused (Refused why) fact = fact why
IfRefused Memory fact = Unit {0}

-- a fault of the check of the lines after the first, the first of which is line 2
abbrev pub IsFaultBehind : Header → List (List ℕ) → CheckFault → Type 0
IsFaultBehind header lines (check.Refused number why) =
    (before behind : List (List ℕ)) × (line : List ℕ) × (state : Space) × (position : Position) × (lines ≡ before ++ line ∷ behind)
    × AreOfRun header before state position × IsRefusedLine state position line why × (number ≡ length before + 2)
IsFaultBehind header lines check.Memory = Unit {0}
