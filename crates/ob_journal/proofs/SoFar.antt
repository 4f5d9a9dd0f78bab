-- A journal whose lines were played up to a place.
use Rattle.std.proofs.Common.{◌≡◌, ◌∙◌, ℕ, ◌+◌, ◌<◌, ◌≤◌, List, [], ◌∷◌, ◌++◌, length, None, Some, Result, Ok, Err, IfErr, refl, ap, sym, subst, arith, length-append, append_assoc, append-nil}
use Rattle.ob_model.specs.Opening.{opening}
use Rattle.ob_standard.specs.Standard.{Standard, IsFresh}
use Rattle.ob_standard_core.specs.Machine.{Space}
use Rattle.ob_lines.specs.Lines.{lines_of}
use Rattle.ob_reader.specs.declared.header.Header.{Header}
use Rattle.ob_journal.specs.declared.position.Position.{Position}
use Rattle.ob_journal.specs.declared.report.Cause.{Cause}
use Rattle.ob_journal.specs.declared.report.Cause.TheVariants as cause
use Rattle.ob_journal.specs.declared.report.CheckFault.{CheckFault}
use Rattle.ob_journal.specs.declared.report.CheckFault.TheVariants.{Refused, Memory}
use Rattle.ob_journal.specs.declared.report.Report.{Report}
use Rattle.ob_journal.specs.Journal.{after_first, first_header_for, report_of, AreOfRun, IsRefusedLine, IsFault, StopsAt, no_line, no_header, at_line}
use Rattle.ob_journal.specs.Played.{Played, PlaysLine, IsFaultBehind}
use Rattle.ob_journal.proofs.Runs.{none_played, one_more_played}

-- the lines of a text in front of the rest are played, and the next one has this number, which grows no further than the text's length
pub record IsPlayedTo (header : Header) (text : List ℕ) (p : Played) (rest : List ℕ) (number : ℕ) : Type 0 where
  pub played : List (List ℕ)
  pub all : lines_of text ≡ played ++ lines_of rest
  pub of_run : AreOfRun header played p.state p.position
  pub next : number ≡ length played + 2
  pub low : number + length rest ≤ length text + 2

pub at_first : (header : Header) (text : List ℕ) (first : Standard) → IsFresh first → (p : Played) → p ≡ record { state = opening first; position = after_first header } → IsPlayedTo header text p text 2
at_first header text first fresh p is = subst (λ q. IsPlayedTo header text q text 2) (sym is)
    (record { played = []; all = refl; of_run = none_played header first fresh; next = refl; low = omega arith })

module _ (header : Header) (text : List ℕ) (p : Played) (rest : List ℕ) (number : ℕ) (so_far : IsPlayedTo header text p rest number) where
  module _ (line behind : List ℕ) (begins : lines_of rest ≡ line ∷ lines_of behind) where
    pub one_more : length behind < length rest → (q : Played) → PlaysLine p line q → IsPlayedTo header text q behind (number + 1)
    one_more shorter q plays = record {
      played = so_far.played ++ line ∷ [];
      all = so_far.all ∙ ap (λ ls. so_far.played ++ ls) begins ∙ sym (append_assoc so_far.played (line ∷ []) (lines_of behind));
      of_run = one_more_played header p q so_far.played line so_far.of_run plays;
      next = omega (arith, length-append so_far.played (line ∷ []), so_far.next);
      low = omega (arith, so_far.low, shorter);
    }

    pub refused_here : (why : Cause) → IsRefusedLine p.state p.position line why → IsFaultBehind header (lines_of text) (Refused number why)
    refused_here why refused =
        (so_far.played, lines_of behind, line, p.state, p.position, so_far.all ∙ ap (λ ls. so_far.played ++ ls) begins, so_far.of_run, refused, so_far.next)

  pub at_last : rest ≡ [] → (report : Report) → report ≡ report_of p.position p.state
      → (state : Space) × (end : Position) × AreOfRun header (lines_of text) state end × (report ≡ report_of end state)
  at_last ends report told = (p.state, p.position, subst (λ ls. AreOfRun header ls p.state p.position) (sym whole) so_far.of_run, told)
    where
      whole : lines_of text ≡ so_far.played
      whole = so_far.all ∙ ap (λ r. so_far.played ++ lines_of r) ends ∙ append-nil so_far.played

pub err_weaker : {T E : Type 0} (r : Result T E) (P Q : E → Type 0) → ((x : E) → P x → Q x) → IfErr r P → IfErr r Q
err_weaker (Ok x) P Q follows h = tt
err_weaker (Err e) P Q follows h = follows e h

-- a fault of the lines after the first is one of the journal
module _ (text line rest : List ℕ) (begins : lines_of text ≡ line ∷ lines_of rest) where
  pub fault_behind : (header : Header) → first_header_for line ≡ Some header → (fault : CheckFault) → IsFaultBehind header (lines_of rest) fault → IsFault text fault
  fault_behind header headed Memory h = tt
  fault_behind header headed (Refused number why) (before, behind, here, state, position, all, of_run, refused, numbered) =
      subst (λ n. StopsAt text n why) (sym numbered) (at_line header before behind here state position why (line, begins ∙ ap (λ ls. line ∷ ls) all, headed) of_run refused)

  pub no_header_there : first_header_for line ≡ None → StopsAt text 1 cause.Header
  no_header_there none = no_header line (lines_of rest) begins none

pub no_line_there : (text : List ℕ) → text ≡ [] → StopsAt text 1 cause.Header
no_line_there text none = no_line (ap lines_of none)
