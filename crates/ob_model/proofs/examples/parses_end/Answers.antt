-- Each case by computing.
use Rattle.std.proofs.Common.{arith, refl, ℕ}
use Rattle.std.specs.Prelude.{Option, Some, codes, Ok, [], None, List}
use Rattle.ob_base.specs.declared.status.Status.TheVariants.{ReparseLimit}
use Rattle.ob_model.proofs.Computed.{ends_as_computed}
use Rattle.ob_model.proofs.Lookup.{looked_up}
use Rattle.ob_model.proofs.Walk.{walk}
use Rattle.ob_model.specs.Looks.{At, Refused}
use Rattle.ob_model.specs.Opens.{open_mode}
use Rattle.ob_model.specs.ParseExamples.{parsing, with_open_at, granted, given_to}
use Rattle.ob_model.specs.Parses.{parsed_state}
use Rattle.ob_model.specs.Procedures.{ends_itself, ends_reparse, ends_refused, ends_made, goes_on, ParseOutcome, ParseEnds, EndsMade, EndsItself, EndsRefused, EndsReparse}
use Rattle.ob_model.specs.declared.state.Wanted.TheVariants.{Anything, Kind}
use Rattle.ob_model.proofs.examples.parses_end.Goals as goal

pub returns-clause-parse_runs_end : goal.returns-clause-parse_runs_end
returns-clause-parse_runs_end c = (
  goes_on refl (omega arith) (ends_made refl refl),
  goes_on refl (omega arith) (ends_refused refl),
  goes_on refl (omega arith) (ends_reparse refl),
  ends_itself refl,
)

pub returns-clause-made_is_opened : goal.returns-clause-made_is_opened
returns-clause-made_is_opened c =
    let s = with_open_at (codes "ab") 32 Anything in
    let out : Option (ParseOutcome ℕ ℕ) = Some (EndsMade 3 98) in
    let brought : ParseEnds parsing 1 (codes "ab") (EndsMade 3 98) = goes_on refl (omega arith) (ends_made refl refl) in (
      (refl, brought, (out, brought, (given_to s out 8, (Ok 4, granted s out 8, (refl, ((1, refl, omega arith, omega arith), refl), refl), (refl, refl)), refl)), tt),
      refl,
      refl,
      refl,
      refl,
      refl,
      refl,
    )

pub returns-clause-made_of_another_type_goes : goal.returns-clause-made_of_another_type_goes
returns-clause-made_of_another_type_goes c =
    let s = with_open_at (codes "ab") 32 (Kind 5) in
    let out : Option (ParseOutcome ℕ ℕ) = Some (EndsMade 3 98) in
    let brought : ParseEnds parsing 1 (codes "ab") (EndsMade 3 98) = goes_on refl (omega arith) (ends_made refl refl) in (
      (refl, brought, (out, brought, (parsed_state s 8 out, (refl, refl), refl)), tt),
      refl,
      refl,
      refl,
      refl,
    )

pub returns-clause-itself_is_opened : goal.returns-clause-itself_is_opened
returns-clause-itself_is_opened c =
    let s = with_open_at [] 32 (Kind 1) in
    let out : Option (ParseOutcome ℕ ℕ) = Some EndsItself in (
      (refl, ends_itself refl, (out, ends_itself refl, (given_to s out 7, (Ok 4, granted s out 7, (refl, ((1, refl, omega arith, omega arith), refl), refl), (refl, refl)), refl)), tt),
      refl,
      refl,
      refl,
    )

pub returns-clause-parse_is_refused : goal.returns-clause-parse_is_refused
returns-clause-parse_is_refused c =
    let s = with_open_at (codes "a!") 32 Anything in
    let out : Option (ParseOutcome ℕ ℕ) = Some (EndsRefused 5) in
    let brought : ParseEnds parsing 1 (codes "a!") (EndsRefused 5) = goes_on refl (omega arith) (ends_refused refl) in
    (refl, brought, (out, brought, (parsed_state s 8 out, (refl, refl), refl)), tt)

pub returns-clause-asker_is_gone : goal.returns-clause-asker_is_gone
returns-clause-asker_is_gone c =
    let s = record (with_open_at (codes "ab") 32 Anything) { processes = [] } in
    let out : Option (ParseOutcome ℕ ℕ) = Some (EndsMade 3 98) in
    let brought : ParseEnds parsing 1 (codes "ab") (EndsMade 3 98) = goes_on refl (omega arith) (ends_made refl refl) in (
      (refl, brought, (out, brought, (parsed_state s 8 out, (refl, refl), refl)), tt),
      refl,
    )

pub returns-clause-open_is_given_up : goal.returns-clause-open_is_given_up
returns-clause-open_is_given_up c =
    let out : Option (ParseOutcome ℕ ℕ) = Some (EndsMade 3 98) in
    let brought : ParseEnds parsing 1 (codes "ab") (EndsMade 3 98) = goes_on refl (omega arith) (ends_made refl refl) in (
      (refl, refl, (None, refl, (refl, refl)), tt),
      refl,
      (refl, brought, (out, brought, (refl, refl)), tt),
      refl,
    )

pub returns-clause-reparses_are_counted : goal.returns-clause-reparses_are_counted
unfolding walk looked_up
returns-clause-reparses_are_counted c =
    let two = with_open_at (codes "a@") 2 Anything in
    let one = with_open_at (codes "a@") 1 Anything in
    let none = with_open_at (codes "a@") 0 Anything in
    let text : List ℕ = codes "\\DosDevices" in
    let out : Option (ParseOutcome ℕ ℕ) = Some (EndsReparse text) in
    let mode = open_mode {K = ℕ} Anything 0 in
    let brought : ParseEnds parsing 1 (codes "a@") (EndsReparse text) = goes_on refl (omega arith) (ends_reparse refl) in (
      (refl, brought, (out, brought, (given_to two out 2, (At 2, ends_as_computed parsing (parsed_state two 8 out) refl 1 mode 1 text (At 2) refl, (Ok 4, granted two out 2, (refl, ((1, refl, omega arith, omega arith), refl), refl), (refl, refl))), refl)), tt),
      (refl, brought, (out, brought, (parsed_state one 8 out, (Refused ReparseLimit, ends_as_computed parsing (parsed_state one 8 out) refl 1 mode 0 text (Refused ReparseLimit) refl, (refl, refl)), refl)), tt),
      (refl, brought, (out, brought, (parsed_state none 8 out, (Refused ReparseLimit, refl, (refl, refl)), refl)), tt),
    )
