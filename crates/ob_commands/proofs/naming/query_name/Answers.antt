-- The path that the rows say is told, or that they say none.
use Rattle.std.proofs.Common.{ℕ, List, ◌<◌, map, ap, sym, subst, ◌∙◌, arith}
use Rattle.std.specs.Prelude.{All}
use Rattle.ob_base.specs.declared.status.Status.TheVariants.{Success}
use Rattle.ob_model.specs.declared.reply.Answer.TheVariants.{Done}
use Rattle.ob_model.specs.declared.reply.Given.TheVariants.{Text}
use Rattle.ob_model.specs.Naming.{IsWayUp, path_text}
use Rattle.ob_model.specs.Refusals.{gives}
use Rattle.ob_model.specs.State.{State}
use Rattle.ob_objects.specs.Store.{rows_of}
use Rattle.ob_space.specs.Namespace.{rows_alone}
use Rattle.ob_commands.proofs.Queries.{at_none, at_some, queries, tells_none, tells_path, answer_long, answer_short}
use Rattle.ob_commands.proofs.naming.query_name.Goals as goal

pub way_up-requires-after_bounds : goal.way_up-requires-after_bounds
way_up-requires-after_bounds g c κs within = subst (λ (s : State _ _ _ _). All (λ r. r.directory < r.object) s.rows) (sym c.space.view_is) c.requires

pub returns-in_default-2-clause-step : goal.returns-in_default-2-clause-step
returns-in_default-2-clause-step g c =
    let s = c.args.space.now in
    let held = c.in-Some.held in
    let rows = rows_of c.space.inside.store in
    let none = at_none c.in_ok-way.field-0 ((names : List (List ℕ)) → IsWayUp (rows_alone rows) held.object names → ⊥)
    (λ way. IsWayUp (rows_alone rows) held.object (map (λ name. name.now) way.items)) c.in_default-2.is c.in_ok-way.ensures in
    let told = ap Done c.with_text.ensures ∙ ap (λ (text : List ℕ). gives Success (Text text)) (c.new-in_default-2.ensures ∙ c.new.ensures.items) in
    queries s c.args.process c.args.handle (Done c.with_text.result) held (sym c.is_live.ensures ∙ c.if-not-is_live.false) c.in-Some.ensures
    (tells_none s rows held.object (Done c.with_text.result) (ap (λ x. x.rows) c.space.view_is) none told)

pub returns-then-len-gt-LONGEST_NAME-clause-step : goal.returns-then-len-gt-LONGEST_NAME-clause-step
returns-then-len-gt-LONGEST_NAME-clause-step g c =
    let s = c.args.space.now in
    let held = c.in-Some.held in
    let rows = rows_of c.space.inside.store in
    let answer = Done c.status_alone-then-len-gt-LONGEST_NAME.result in
    let text = c.in_ok-text.text.items in
    let way = at_some c.in_ok-way.field-0 ((names : List (List ℕ)) → IsWayUp (rows_alone rows) held.object names → ⊥)
    (λ way. IsWayUp (rows_alone rows) held.object (map (λ name. name.now) way.items)) c.in-Some-2.way c.in-Some-2.is c.in_ok-way.ensures in
    let says = c.in_ok-text.ensures ∙ ap (λ (passed : List _). path_text (map (λ name. name.now) passed)) c.deref.ensures.value in
    let told = ap Done c.status_alone-then-len-gt-LONGEST_NAME.ensures ∙ sym (answer_long text (omega (arith, c.in_ok-text.text.ok))) in
    queries s c.args.process c.args.handle answer held (sym c.is_live.ensures ∙ c.if-not-is_live.false) c.in-Some.ensures
    (tells_path s rows held.object _ text answer (ap (λ x. x.rows) c.space.view_is) way says told)

pub returns-clause-step : goal.returns-clause-step
returns-clause-step g c =
    let s = c.args.space.now in
    let held = c.in-Some.held in
    let rows = rows_of c.space.inside.store in
    let answer = Done c.with_text-2.result in
    let text = c.in_ok-text.text.items in
    let way = at_some c.in_ok-way.field-0 ((names : List (List ℕ)) → IsWayUp (rows_alone rows) held.object names → ⊥)
    (λ way. IsWayUp (rows_alone rows) held.object (map (λ name. name.now) way.items)) c.in-Some-2.way c.in-Some-2.is c.in_ok-way.ensures in
    let says = c.in_ok-text.ensures ∙ ap (λ (passed : List _). path_text (map (λ name. name.now) passed)) c.deref.ensures.value in
    let told = ap Done c.with_text-2.ensures ∙ ap (λ (bytes : List ℕ). gives Success (Text bytes)) c.new-2.ensures ∙ sym (answer_short text (omega (arith, c.in_ok-text.text.ok))) in
    queries s c.args.process c.args.handle answer held (sym c.is_live.ensures ∙ c.if-not-is_live.false) c.in-Some.ensures
    (tells_path s rows held.object _ text answer (ap (λ x. x.rows) c.space.view_is) way says told)
