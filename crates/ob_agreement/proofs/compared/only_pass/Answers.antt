-- A second pass of the seat is met.
use Rattle.std.proofs.Common.{◌≡◌, ◌∙◌, true, Option, None, Some, refl, sym}
use Rattle.std.specs.Borrow.{Bor}
use Rattle.std.specs.Option.{is_some}
use Rattle.std.specs.Prelude.{option_copied}
use Rattle.ob_agreement.proofs.Seats.{second}
use Rattle.ob_agreement.proofs.compared.only_pass.Goals as goal

there : {X : Type 0} (found : Option (Bor X)) → is_some found ≡ true → is_some (option_copied found) ≡ true
there None is = is
there (Some x) is = refl

pub returns-then-is_some : goal.returns-then-is_some
returns-then-is_some g c =
    sym (second c.args.seat c.args.passes.now c.loop-pass.pass-index c.pass-item.result (option_copied c.loop-pass.found) c.loop-pass-test.true c.pass-item.is
    (sym c.seat.ensures ∙ c.if-seat.true) c.loop-pass.invariant (there c.loop-pass.found (sym c.if-is_some.ensures)))
