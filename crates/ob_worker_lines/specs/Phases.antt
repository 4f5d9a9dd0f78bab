-- Phases: where in a script with workers a line is, and which lines are right there.
--
-- Source: this profile.
use Rattle.std.specs.Prelude.{◌≡◌, ◌⊎◌, ◌↔◌, ℕ, ◌+◌, ◌≤◌, ◌<◌, ◌==◌, if◌then◌else◌, List, [], ◌∷◌, ⊤, codes}
use Rattle.ob_lines.specs.declared.misfit.Expected.{Expected}
use Rattle.ob_lines.specs.declared.misfit.Expected.TheVariants as expected
use Rattle.ob_lines.specs.declared.misfit.Misfit.{Misfit}
use Rattle.ob_lines.specs.Misfits.{IsMisfit, expected_text}
use Rattle.ob_worker_lines.specs.declared.phase.Phase.{Phase}
use Rattle.ob_worker_lines.specs.declared.phase.Phase.TheVariants.{Before, Worker, After}
use Rattle.ob_worker_lines.specs.Cuts.{CanBeCut, IsSeatLine, Lines, join_line, most_workers, thread_line}

-- there are no more workers than there may be
abbrev pub HasFewWorkers : Phase → Type 0
HasFewWorkers Before = ⊤
HasFewWorkers (Worker number) = number ≤ most_workers
HasFewWorkers After = ⊤

-- the phase that a line `thread` begins: the first worker's, or the next one's
abbrev pub BeginsWorker : Phase → Phase → Type 0
BeginsWorker Before next = next ≡ Worker 1
BeginsWorker (Worker number) next = (number < most_workers) × (next ≡ Worker (number + 1))
BeginsWorker After next = ⊥

-- the phase that a line `join` begins: it follows a worker's
abbrev pub EndsWorkers : Phase → Phase → Type 0
EndsWorkers Before next = ⊥
EndsWorkers (Worker number) next = next ≡ After
EndsWorkers After next = ⊥

-- the line is right in a phase, and the line after it is in the next: a line of a seat, `thread` or `join`
abbrev pub IsRight : Phase → List ℕ → Phase → Type 0
IsRight phase line next =
    (IsSeatLine line × (next ≡ phase)) ⊎ (((line ≡ thread_line) × BeginsWorker phase next) ⊎ ((line ≡ join_line) × EndsWorkers phase next))

-- The line is wrong in a phase: it is no line of a script with workers, or is in a wrong place. The misfit is that of a line of a script
-- without workers, so a `thread` or a `join` in a wrong place stops at its beginning.
abbrev pub IsWrong : Phase → List ℕ → Misfit → Type 0
IsWrong phase line misfit = ((next : Phase) → ¬ IsRight phase line next) × IsMisfit line misfit

-- all lines are right, from this phase on
abbrev pub AreRight : Phase → Lines → Type 0
AreRight phase [] = ⊤
AreRight phase (line ∷ lines) = (next : Phase) × IsRight phase line next × AreRight next lines

-- all lines of a script are right where it can be cut into the lines of its seats, and only there
abbrev pub RightScriptsAreCut : Type 0
RightScriptsAreCut = (lines : Lines) → AreRight Before lines ↔ CanBeCut lines

-- with what a line of a phase may begin, in the words of docs/script.md
abbrev pub start_text : Phase → List ℕ
start_text Before = codes "P, stat, seal or thread"
start_text (Worker number) = if number == most_workers then codes "P, stat, seal or join" else codes "P, stat, seal, thread or join"
start_text After = codes "P, stat or seal"

-- what is expected of a line of a phase
abbrev pub expected_there : Phase → Expected → List ℕ
expected_there phase expected.Line = start_text phase
expected_there phase expected.Verb = expected_text expected.Verb
expected_there phase (expected.Parts parts last) = expected_text (expected.Parts parts last)
expected_there phase expected.End = expected_text expected.End
