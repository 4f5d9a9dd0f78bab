-- What the table has keeps what holds of every table.
use Rattle.std.proofs.Common.{◌≢◌, All}
use Rattle.std.specs.Prelude.{AllPairs}
use Rattle.std.proofs.lemmas.List.Elements.{All-filter}
use Rattle.std.proofs.lemmas.List.Kept.{AllPairs-filter}
use Rattle.ob_model.specs.Grants.{IsHandleValue}
use Rattle.ob_processes.proofs.Handing.{of_list}
use Rattle.ob_processes.proofs.live.Live.inheritable.Goals as goal

pub returns-clause-values : goal.returns-clause-values
returns-clause-values g c =
    of_list (λ hs. All (λ h. IsHandleValue h.value) hs) c.inheritable.result _ c.inheritable.ensures
    (All-filter (λ h. h.inherit) (λ h. IsHandleValue h.value) _ c.self.invariant.table.values)

pub returns-clause-apart : goal.returns-clause-apart
returns-clause-apart g c =
    of_list (AllPairs (λ a b. a.value ≢ b.value)) c.inheritable.result _ c.inheritable.ensures
    (AllPairs-filter (λ a b. a.value ≢ b.value) (λ h. h.inherit) _ c.self.invariant.table.apart)
