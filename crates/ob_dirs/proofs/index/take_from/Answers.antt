-- The first one that is equal is removed.
use Rattle.std.proofs.Common.{◌∙◌, ◌==◌, ℕ, Bool, ap, sym}
use Rattle.std.specs.List.{position}
use Rattle.ob_dirs.proofs.Lists.{remove-position, remove_key-none}
use Rattle.ob_dirs.proofs.index.take_from.Goals.{in-Some, in_default}
use Rattle.ob_dirs.proofs.index.take_from.Goals as goal

pub returns-clause-others : goal.returns-clause-others
returns-clause-others c =
    let test : ℕ → Bool = λ s. s == c.args.stamp in
    let place = c.place_of.ensures ∙ ap (position test) c.as_slice.ensures.value in
    elim c.match-place_of.branch [
      | in-Some w ↦ ap (λ v. v.items) w.stamps-is ∙ w.remove.ensures.items ∙ remove-position test c.args.stamps.now.items w.in-Some.place (sym w.in-Some.is ∙ place)
      | in_default w ↦ ap (λ v. v.items) w.stamps-is ∙ remove_key-none test c.args.stamps.now.items (sym w.in_default.is ∙ place)
    ]
