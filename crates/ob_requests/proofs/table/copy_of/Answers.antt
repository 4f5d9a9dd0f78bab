-- A clone's variables have the same rows, of which the values stay.
use Rattle.std.proofs.Common.{List, ℕ, sym, ap, ◌∙◌}
use Rattle.ob_requests.specs.declared.variable.Variable.{Variable}
use Rattle.ob_requests.specs.declared.variable.Write.TheVariants.{Alone}
use Rattle.ob_requests.specs.Rows.{no_row, written}
use Rattle.ob_requests.proofs.Tables.{cloned, cloned_bytes}
use Rattle.ob_requests.proofs.table.copy_of.Goals as goal

pub returns : goal.returns
returns c = λ variable.
    c.write_all.ensures variable
    ∙ ap (λ (rows : List ℕ → Variable). written (rows variable) Alone)
    (cloned no_row _ _ (λ x y z. cloned_bytes x.items y.items z) (λ x y same. sym same) c.args.table.now c.in_ok-copy.copy c.in_ok-copy.ensures.cases)
