-- The object of the handle is a directory without a shadow, or is refused.
use Rattle.std.proofs.Common.{◌∙◌, true, false, ap, sym}
use Rattle.std.specs.Prelude.{Some}
use Rattle.std.specs.Option.{is_some}
use Rattle.ob_commands.proofs.Mapped.{directory_shown}
use Rattle.ob_commands.proofs.Shadowed.{no_directory_refused, shadowed_refused, shadow_fits, shadow_shown}
use Rattle.ob_commands.proofs.shadows.shadow_object.Goals as goal

pub returns-then-not-is_directory : goal.returns-then-not-is_directory
returns-then-not-is_directory g c =
    no_directory_refused c.args.space.now c.args.process c.args.shadow c.in-Some.object (c.in_ok-object.ensures ∙ ap Some c.in-Some.is)
    (directory_shown c.space.view_is c.in-Some.object false (sym c.if-not-is_directory.true ∙ c.is_directory.ensures))

pub returns-then-is_some : goal.returns-then-is_some
returns-then-is_some g c =
    shadowed_refused c.args.space.now c.args.process c.args.shadow c.in-Some.object (c.in_ok-object.ensures ∙ ap Some c.in-Some.is)
    (directory_shown c.space.view_is c.in-Some.object true (sym c.if-not-is_directory.false ∙ c.is_directory.ensures))
    (shadow_shown c.space.view_is c.in-Some.object true (sym c.if-is_some.true ∙ c.is_some.ensures ∙ ap is_some c.shadow_of.ensures))

pub returns : goal.returns
returns g c = (
  c.in_ok-object.ensures ∙ ap Some c.in-Some.is,
  shadow_fits c.args.space.now c.args.process c.args.shadow c.in-Some.object (c.in_ok-object.ensures ∙ ap Some c.in-Some.is)
      (directory_shown c.space.view_is c.in-Some.object true (sym c.if-not-is_directory.false ∙ c.is_directory.ensures))
      (shadow_shown c.space.view_is c.in-Some.object false (sym c.if-is_some.false ∙ c.is_some.ensures ∙ ap is_some c.shadow_of.ensures)),
)
