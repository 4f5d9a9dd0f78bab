-- What a run that ended so writes.
use Rattle.std.proofs.Common.{◌≡◌, ◌∙◌, ◌+◌, ℕ, List, [], ◌∷◌, ◌++◌, Ok, Err, map, length, ap, refl, sym}
use Rattle.std.proofs.lemmas.List.{length-map}
use Rattle.ob_entries.specs.Lines.{journal_lines}
use Rattle.ob_entries.specs.Segments.{Segment, joined}
use Rattle.ob_lines.specs.Lines.{lines_of}
use Rattle.ob_standard.specs.Standard.{StandardKind, standard}
use Rattle.ob_worker_lines.specs.declared.script.WorkerScript.{WorkerScript}
use Rattle.ob_worker_lines.specs.Cuts.{IsCut, Lines}
use Rattle.ob_worker_lines.specs.Parts.{AreNumbered, lines_in}
use Rattle.ob_seats.specs.declared.stop.Stop.{Stop}
use Rattle.ob_seats.specs.declared.stop.Stop.TheVariants.{Memory, Refused}
use Rattle.ob_seats.specs.Received.{Entries}
use Rattle.ob_threads.specs.Ended.{SeatOutcome, ending_of, stopped_ending}
use Rattle.ob_threads.specs.Played.{IsPlayed, IsPlayedOf}
use Rattle.ob_threads.specs.Run.{IsFinished, IsRunTo}
use Rattle.ob_threads.specs.Written.{IsJournal, IsOutput}

stopped_output : (script text : List ℕ) (why : Stop) (line seats : ℕ) (journal : Entries) → IsJournal seats journal text → IsRunTo (lines_of script) journal seats (Err (record { line = line; why = why }))
    → IsOutput script (stopped_ending why line) text
stopped_output script text Memory line seats journal is run = (seats, journal, is, run)
stopped_output script text Refused line seats journal is run = (seats, journal, is, run)

module _ (script : Lines) (parts : WorkerScript) (cut : IsCut script (lines_in parts.before) (map lines_in parts.workers.items) (lines_in parts.behind)) (numbers : AreNumbered script parts) (seats : ℕ)
    (seated : seats ≡ length parts.workers.items + 1) where
  is_played : (journal : Entries) → IsPlayedOf (lines_in parts.before) (map lines_in parts.workers.items) (lines_in parts.behind) journal → IsPlayed script journal seats
  is_played journal played = record {
    before = lines_in parts.before;
    workers = map lines_in parts.workers.items;
    behind = lines_in parts.behind;
    cut = cut;
    seated = seated ∙ ap (λ n. n + 1) (sym (length-map parts.workers.items lines_in));
    played = played;
  }

  module _ (sealed : List (Segment StandardKind)) (last : Segment StandardKind) where
    -- a journal in segments, as it is written
    journal_of : (ended : SeatOutcome) → IsFinished parts sealed last ended → IsJournal seats (joined sealed ++ last.entries) (journal_lines standard.type_name seats (sealed ++ last ∷ []))
    journal_of ended is = record {
      first = is.first;
      state = is.state;
      run = is.machine;
      sealed = sealed;
      unsealed = last.entries;
      order = is.are_sealed;
      whole = refl;
      lines = ap (λ (s : Segment StandardKind). journal_lines standard.type_name seats (sealed ++ s ∷ [])) is.last_is;
    }

    run_to : (ended : SeatOutcome) → IsFinished parts sealed last ended → IsRunTo script (joined sealed ++ last.entries) seats ended
    run_to ended is = record { script = parts; cut = cut; numbers = numbers; seated = seated; run = is.run }

-- what a run leaves is written as an output of the script
pub output_of : (script : List ℕ) (parts : WorkerScript) (seats : ℕ) (sealed : List (Segment StandardKind)) (last : Segment StandardKind) (ended : SeatOutcome)
    → IsCut (lines_of script) (lines_in parts.before) (map lines_in parts.workers.items) (lines_in parts.behind) → AreNumbered (lines_of script) parts → seats ≡ length parts.workers.items + 1 → IsFinished parts sealed last ended
    → IsOutput script (ending_of ended) (journal_lines standard.type_name seats (sealed ++ last ∷ []))
output_of script parts seats sealed last (Ok done) cut numbers seated is = (
  seats,
  joined sealed ++ last.entries,
  journal_of (lines_of script) parts cut numbers seats seated sealed last (Ok done) is,
  is_played (lines_of script) parts cut numbers seats seated (joined sealed ++ last.entries) is.played,
)
output_of script parts seats sealed last (Err stopped) cut numbers seated is =
    stopped_output script (journal_lines standard.type_name seats (sealed ++ last ∷ [])) stopped.why stopped.line seats (joined sealed ++ last.entries)
    (journal_of (lines_of script) parts cut numbers seats seated sealed last (Err stopped) is) (run_to (lines_of script) parts cut numbers seats seated sealed last (Err stopped) is)
