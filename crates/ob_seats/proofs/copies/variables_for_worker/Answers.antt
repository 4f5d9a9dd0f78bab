-- The copies have the same numbers, and no open waits.
use Rattle.std.proofs.Common.{◌≡◌, sym}
use Rattle.ob_requests.specs.Tables.{number_in}
use Rattle.ob_requests.proofs.Tables.{cloned, cloned_bytes}
use Rattle.ob_seats.proofs.copies.variables_for_worker.Goals as goal

pub returns : goal.returns
returns c =
    let was = c.args.variables.now in
    let p : number_in c.in_ok-processes.processes ≡ number_in was.processes =
    cloned 0 _ _ (λ x y z. cloned_bytes x.items y.items z) (λ x y same. sym same) was.processes c.in_ok-processes.processes c.in_ok-processes.ensures.cases in
    λ i. record {
      processes = p i;
      values = λ q w. (c.in_ok-handles.ensures q w i).value;
      contexts = λ q w. (c.in_ok-handles.ensures q w i).context;
      tickets = λ q w. (c.in_ok-handles.ensures q w i).ticket;
    }
