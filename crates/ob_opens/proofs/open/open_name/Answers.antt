-- An open is judged and looked up, and then refused or done.
use Rattle.std.proofs.Common.{◌≡◌, true, ap, sym, ◌∙◌, subst, List, ℕ}
use Rattle.ob_model.specs.declared.reply.Answer.TheVariants.{Done}
use Rattle.ob_model.specs.Looks.{At, Parse, Refused, LooksUp, most_reparses}
use Rattle.ob_model.specs.Opens.{Begins, open_mode, options_by}
use Rattle.ob_lookup.specs.Look.{look_of}
use Rattle.ob_opens.specs.Waiting.{answer_of}
use Rattle.ob_space.proofs.Naming.{judged_live, opens_served, opens_looked}
use Rattle.ob_space.proofs.Looked.{root_stands}
use Rattle.ob_space.proofs.InPlace.{at_its_end, end_refused, isnt, never, open_ignores}
use Rattle.ob_space.proofs.Results.{IfOk-map}
use Rattle.ob_space.specs.Found.{is_open_refused_at, is_refused_at}
use Rattle.ob_model.specs.declared.terms.Mode.{Mode}
use Rattle.ob_opens.proofs.open.open_name.Goals as goal

pub look_up-requires-clause-root : goal.look_up-requires-clause-root
look_up-requires-clause-root g c κs within =
    let s = c.args.space.now in
    root_stands s c.requires.between.sound c.args.process c.args.root c.in-Ok-root_object.root c.in-Ok-root_object.ensures

pub open_at-requires-clause-live : goal.open_at-requires-clause-live
open_at-requires-clause-live g c κs within = rw c.look_up.ensures.unchanged (sym c.is_live.ensures ∙ judged_live c.is_live.result c.args.name.now c.args.attrs c.in-Ok.ensures.1)

pub returns-in-Refused-clause-step : goal.returns-in-Refused-clause-step
returns-in-Refused-clause-step g c =
    let s = c.args.space.now in
    let name = c.args.name.now in
    let root = c.in-Ok-root_object.root in
    let mode = c.open_mode-mode.result in
    opens_served g.T.TypeSet.procedures s c.look_up.new.space c.args.process c.args.attrs c.in-Ok.lawful (Done c.status_alone-in-Refused.result) c.is_live.result c.is_live.ensures c.args.root name c.args.wanted c.in-Ok.ensures.0 c.in-Ok.ensures.1
    (opens_looked g.T.TypeSet.procedures s c.look_up.new.space c.args.process c.in-Ok.lawful (Done c.status_alone-in-Refused.result) c.args.root root c.in-Ok-root_object.ensures name mode (Refused c.in-Refused.status)
    (subst (λ (bytes : List ℕ). LooksUp g.T.TypeSet.procedures s c.args.process mode most_reparses root bytes (Refused c.in-Refused.status)) c.new.ensures
    (subst (λ look. LooksUp g.T.TypeSet.procedures s c.args.process mode most_reparses root c.new.result (look_of look)) c.in-Refused.is c.in_ok-status.ensures.end))
    c.args.wanted c.open_mode-mode.ensures (ap Done c.status_alone-in-Refused.ensures, c.look_up.ensures.unchanged))

pub returns-in-Ok-open_at-clause-step : goal.returns-in-Ok-open_at-clause-step
returns-in-Ok-open_at-clause-step g c =
    let s = c.args.space.now in
    let t = c.open_at.new.space in
    let name = c.args.name.now in
    let root = c.in-Ok-root_object.root in
    let mode = c.open_mode-mode.result in
    opens_served g.T.TypeSet.procedures s t c.args.process c.args.attrs c.in-Ok.lawful (Done c.in-Ok-open_at.reply) c.is_live.result c.is_live.ensures c.args.root name c.args.wanted c.in-Ok.ensures.0 c.in-Ok.ensures.1
    (opens_looked g.T.TypeSet.procedures s t c.args.process c.in-Ok.lawful (Done c.in-Ok-open_at.reply) c.args.root root c.in-Ok-root_object.ensures name mode (At c.in-At.object)
    (subst (λ (bytes : List ℕ). LooksUp g.T.TypeSet.procedures s c.args.process mode most_reparses root bytes (At c.in-At.object)) c.new.ensures
    (subst (λ look. LooksUp g.T.TypeSet.procedures s c.args.process mode most_reparses root c.new.result (look_of look)) c.in-At.is c.in_ok-status.ensures.end))
    c.args.wanted c.open_mode-mode.ensures (rw (← c.look_up.ensures.unchanged) c.in-Ok-open_at.ensures.step))

pub returns-in-Parse-clause-step : goal.returns-in-Parse-clause-step
returns-in-Parse-clause-step g c =
    let s = c.args.space.now in
    let t = c.begin.new.space in
    let name = c.args.name.now in
    let root = c.in-Ok-root_object.root in
    let mode = c.open_mode-mode.result in
    let look = Parse c.in-Parse.object c.in-Parse.rest c.in-Parse.left in
    IfOk-map _ _ c.begin.result (λ started begun.
    opens_served g.T.TypeSet.procedures s t c.args.process c.args.attrs c.in-Ok.lawful (answer_of started) c.is_live.result c.is_live.ensures c.args.root name c.args.wanted c.in-Ok.ensures.0 c.in-Ok.ensures.1
    (opens_looked g.T.TypeSet.procedures s t c.args.process c.in-Ok.lawful (answer_of started) c.args.root root c.in-Ok-root_object.ensures name mode look
    (subst (λ (bytes : List ℕ). LooksUp g.T.TypeSet.procedures s c.args.process mode most_reparses root bytes look) c.new.ensures
    (subst (λ look. LooksUp g.T.TypeSet.procedures s c.args.process mode most_reparses root c.new.result (look_of look)) c.in-Parse.is c.in_ok-status.ensures.end))
    c.args.wanted c.open_mode-mode.ensures
    (subst (λ (flags : ℕ). Begins g.T.TypeSet.procedures s c.args.process flags c.args.wanted c.in-Parse.object c.in-Parse.rest c.in-Parse.left (answer_of started) t) (sym c.in-Ok.ensures.0)
    (rw (← c.look_up.ensures.unchanged) begun)))) c.begin.ensures.begun

pub returns-in-Err-open_at-clause-found : goal.returns-in-Err-open_at-clause-found
returns-in-Err-open_at-clause-found g c =
    let s = c.args.space.now in
    let p = c.args.process in
    let name = c.args.name.now in
    let root = c.in-Ok-root_object.root in
    let wanted = c.args.wanted in
    let attrs = c.args.attrs in
    let mode = c.open_mode-mode.result in
    never (end_refused g.T.TypeSet.procedures s p (open_mode wanted attrs) c.args.root name (is_open_refused_at g.T.TypeSet.procedures s p attrs wanted) (open_ignores g.T.TypeSet.procedures s p attrs wanted) root c.in-Ok-root_object.ensures most_reparses (At c.in-At.object)
    (subst (λ (m : Mode). LooksUp g.T.TypeSet.procedures s p m most_reparses root name (At c.in-At.object)) (c.open_mode-mode.ensures ∙ ap (open_mode wanted) c.in-Ok.ensures.0)
    (subst (λ (bytes : List ℕ). LooksUp g.T.TypeSet.procedures s p mode most_reparses root bytes (At c.in-At.object)) c.new.ensures
    (subst (λ look. LooksUp g.T.TypeSet.procedures s p mode most_reparses root c.new.result (look_of look)) c.in-At.is c.in_ok-status.ensures.end)))
    (subst (λ (flags : ℕ). is_refused_at g.T.TypeSet.procedures s p (options_by flags) wanted c.in-At.object ≡ true → ⊥) c.in-Ok.ensures.0 (rw (← c.look_up.ensures.unchanged) (isnt c.in-Err-open_at.ensures.early))))

pub returns-in-Parse-clause-found : goal.returns-in-Parse-clause-found
returns-in-Parse-clause-found g c = λ refused.
    let s = c.args.space.now in
    let p = c.args.process in
    let name = c.args.name.now in
    let root = c.in-Ok-root_object.root in
    let wanted = c.args.wanted in
    let attrs = c.args.attrs in
    let mode = c.open_mode-mode.result in
    let look = Parse c.in-Parse.object c.in-Parse.rest c.in-Parse.left in
    c.begin.ensures.full (rw c.look_up.ensures.unchanged (at_its_end g.T.TypeSet.procedures s p (open_mode wanted attrs) c.args.root name (is_open_refused_at g.T.TypeSet.procedures s p attrs wanted) (open_ignores g.T.TypeSet.procedures s p attrs wanted) root c.in-Ok-root_object.ensures most_reparses look
    (subst (λ (m : Mode). LooksUp g.T.TypeSet.procedures s p m most_reparses root name look) (c.open_mode-mode.ensures ∙ ap (open_mode wanted) c.in-Ok.ensures.0)
    (subst (λ (bytes : List ℕ). LooksUp g.T.TypeSet.procedures s p mode most_reparses root bytes look) c.new.ensures
    (subst (λ look. LooksUp g.T.TypeSet.procedures s p mode most_reparses root c.new.result (look_of look)) c.in-Parse.is c.in_ok-status.ensures.end))) refused))
