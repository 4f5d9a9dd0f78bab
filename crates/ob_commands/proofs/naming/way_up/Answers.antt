-- One name further; and where no name is for what was reached, there is no way up.
use Rattle.std.proofs.Common.{ℕ, List, [], ◌∷◌, ◌++◌, map, ap, sym, ◌∙◌, subst}
use Rattle.std.proofs.lemmas.List.{map-append, append-nil}
use Rattle.ob_model.specs.Naming.{IsWayUp}
use Rattle.ob_model.specs.State.{root_id}
use Rattle.ob_objects.specs.Named.{row_of_named}
use Rattle.ob_objects.specs.Store.{rows_of}
use Rattle.ob_space.specs.Namespace.{rows_alone}
use Rattle.ob_commands.proofs.WaysUp.{differ, agree, falls, no_row, onward, behind}
use Rattle.ob_commands.proofs.naming.way_up.Goals as goal

pub returns-in_default : goal.returns-in_default
returns-in_default g c = λ names way.
    let other = differ c.loop-current.current root_id c.loop-current-test.ensures in
    let led = c.loop-current.invariant.onward names way in
    no_row (rows_alone (rows_of c.args.store.now)) c.loop-current.current led.0 other (sym c.in_default.ensures) led.1

pub loop-current-preserved : goal.loop-current-preserved
loop-current-preserved g c =
    let s = rows_alone (rows_of c.args.store.now) in
    let current = c.loop-current.current in
    let named = c.in-Some.named in
    let other = differ current root_id c.loop-current-test.ensures in
    let more = ap (map (λ name. name.now)) c.in_ok-push.ensures.items ∙ map-append (λ name. name.now) c.loop-current.way.items (c.name.result ∷ []) ∙ ap (λ name. map (λ name. name.now) c.loop-current.way.items ++ name ∷ []) c.name.ensures in
    record {
      behind = behind s c.args.object current (row_of_named named) _ _ other (sym c.in-Some.ensures) more c.loop-current.invariant.behind;
      onward = λ names way.
          let led = c.loop-current.invariant.onward names way in
          onward s current (row_of_named named) led.0 other (sym c.in-Some.ensures) led.1;
    }

pub loop-current-smaller : goal.loop-current-smaller
loop-current-smaller g c = falls (rows_alone (rows_of c.args.store.now)) c.loop-current.current (row_of_named c.in-Some.named) c.requires (sym c.in-Some.ensures)

pub returns : goal.returns
returns g c =
    let s = rows_alone (rows_of c.args.store.now) in
    let whole = c.loop-current.invariant.behind [] (agree c.loop-current.current root_id c.loop-current-test.ensures) in
    subst (λ (names : List (List ℕ)). IsWayUp s c.args.object names) (append-nil (map (λ name. name.now) c.loop-current.way.items)) whole
