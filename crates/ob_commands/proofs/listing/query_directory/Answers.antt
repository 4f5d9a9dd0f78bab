-- The page that the store tells is the machine's.
use Rattle.std.proofs.Common.{◌∙◌, true, false, ap, sym, refl, arith, le-ltb}
use Rattle.std.proofs.lemmas.Bool.{false≢true}
use Rattle.ob_model.specs.declared.reply.Answer.TheVariants.{Done}
use Rattle.ob_model.specs.declared.reply.Given.TheVariants as given
use Rattle.ob_model.specs.Enumeration.{enumerated, largest_room, page_answer}
use Rattle.ob_objects.specs.declared.listing.Page.{Page}
use Rattle.ob_commands.proofs.Listings.{page_told, no_page_told, not_refused}
use Rattle.ob_commands.proofs.Mapped.{directory_shown}
use Rattle.ob_commands.proofs.listing.query_directory.Goals as goal
use Rattle.ob_space.proofs.Shown.{shown}

pub returns-clause-step : goal.returns-clause-step
returns-clause-step g c =
    let s = c.args.space.now in
    let d = c.in-Some.held.object in
    let told =
    ap Done c.with_page.ensures
    ∙ ap (λ (page : Page). Done (record { status = page.status; given = given.Page page.entries page.context })) (c.in_ok-page.ensures.page s (shown c.space.inside.store (sym c.space.view_is) refl refl))
    ∙ ap (λ context. page_answer (enumerated g.T.TypeSet.procedures s d context c.args.request.room c.args.request.single)) c.context_used-context.ensures in
    page_told g.T.TypeSet.procedures s c.args.process c.args.handle c.args.request.context c.args.request.room c.args.request.single c.args.request.restart (Done c.with_page.result) c.in-Some.held
    (sym c.is_live.ensures ∙ c.if-not-is_live.false) (le-ltb largest_room c.args.request.room (omega (arith, c.if-request-gt-LARGEST_ROOM.false))) c.in-Some.ensures
    (directory_shown c.space.view_is d true (sym c.if-not-is_directory.false ∙ c.is_directory.ensures)) told

pub returns-then-not-is_directory-clause-step : goal.returns-then-not-is_directory-clause-step
returns-then-not-is_directory-clause-step g c =
    no_page_told g.T.TypeSet.procedures c.args.space.now c.args.process c.args.handle c.args.request.context c.args.request.room c.args.request.single c.args.request.restart
    (Done c.status_alone-then-not-is_directory.result) c.in-Some.held (sym c.is_live.ensures ∙ c.if-not-is_live.false)
    (le-ltb largest_room c.args.request.room (omega (arith, c.if-request-gt-LARGEST_ROOM.false))) c.in-Some.ensures
    (directory_shown c.space.view_is c.in-Some.held.object false (sym c.if-not-is_directory.true ∙ c.is_directory.ensures)) (ap Done c.status_alone-then-not-is_directory.ensures)

pub returns-in_err-page-clause-early : goal.returns-in_err-page-clause-early
returns-in_err-page-clause-early g c = λ refused.
    let not_so = not_refused c.args.space.now c.args.process c.args.handle c.args.request.room c.in-Some.held (sym c.is_live.ensures ∙ c.if-not-is_live.false)
    (le-ltb largest_room c.args.request.room (omega (arith, c.if-request-gt-LARGEST_ROOM.false))) c.in-Some.ensures
    (directory_shown c.space.view_is c.in-Some.held.object true (sym c.if-not-is_directory.false ∙ c.is_directory.ensures)) in
    absurd (false≢true (sym not_so ∙ refused))
