-- The entry of the stamp is at the place of the first one that isn't below it, and goes from there, or nothing changes.
use Rattle.std.proofs.Common.{◌≡◌, ◌∙◌, ap, sym, subst, refl, Some, filter}
use Rattle.ob_dirs.specs.Runs.{IsPlaceOf, joined}
use Rattle.ob_dirs.proofs.Found.{all_stay, below-found, cut-found, find-none, found_here, none-below, not_found, others-stay, read_twice, runs-left, some-there, without_it}
use Rattle.ob_dirs.proofs.Joined.{run_at-read}
use Rattle.ob_dirs.proofs.runs.EntryRuns.remove.Goals as goal

pub returns-in_err-place-clause-there : goal.returns-in_err-place-clause-there
returns-in_err-place-clause-there c =
    let all = c.args.self.now in
    let below = below-found c.args.stamp c.self.inside.runs.items c.deref.result.now all c.self.view_is c.deref.ensures.value c.in_err-place.ensures in
    c.from_residual.ensures ∙ sym (find-none c.args.stamp all (none-below c.args.stamp all below))

pub returns-in_err-place-clause-others : goal.returns-in_err-place-clause-others
returns-in_err-place-clause-others c =
    let all = c.args.self.now in
    let below = below-found c.args.stamp c.self.inside.runs.items c.deref.result.now all c.self.view_is c.deref.ensures.value c.in_err-place.ensures in
    sym (others-stay c.args.stamp all (none-below c.args.stamp all below))

pub returns-then-index-stamp-clause-there : goal.returns-then-index-stamp-clause-there
returns-then-index-stamp-clause-there c =
    not_found
    (cut-found c.index.result.now c.index-2.result.now c.args.self.now c.self.invariant c.self.view_is c.deref.ensures.value c.in_ok-place.ensures c.index.ensures c.index-2.ensures)
    c.if-index-stamp.true

pub returns-then-index-stamp-clause-others : goal.returns-then-index-stamp-clause-others
returns-then-index-stamp-clause-others c =
    all_stay
    (cut-found c.index.result.now c.index-2.result.now c.args.self.now c.self.invariant c.self.view_is c.deref.ensures.value c.in_ok-place.ensures c.index.ensures c.index-2.ensures)
    c.if-index-stamp.true

pub overflow_sub-self : goal.overflow_sub-self
overflow_sub-self c =
    some-there c.self.invariant
    (cut-found c.index.result.now c.index-2.result.now (joined c.self.inside.runs.items) c.self.invariant refl c.deref.ensures.value c.in_ok-place.ensures c.index.ensures c.index-2.ensures)

pub invariant_of-self : goal.invariant_of-self
invariant_of-self c =
    runs-left c.self.invariant c.take_at-entry.ensures.filled
    (cut-found c.index.result.now c.index-2.result.now (joined c.self.inside.runs.items) c.self.invariant refl c.deref.ensures.value c.in_ok-place.ensures c.index.ensures c.index-2.ensures)
    c.if-index-stamp.false c.take_at-entry.ensures.others

pub returns-clause-there : goal.returns-clause-there
returns-clause-there c =
    let runs = c.self.inside.runs.items in
    let place = subst (λ l. IsPlaceOf l c.args.stamp c.in_ok-place.place.run c.in_ok-place.place.at) c.deref.ensures.value c.in_ok-place.ensures in
    let run = run_at-read runs c.in_ok-place.place.run c.index.result.now place.here.run_in c.index.ensures in
    let read = c.index-2.ensures ∙ ap (λ l. Rattle.std.proofs.Common.get_or l c.in_ok-place.place.at c.index-2.result.now) (sym run) in
    ap Some (read_twice _ c.in_ok-place.place.at c.take_at-entry.result c.index-2.result.now place.here.at_in c.take_at-entry.ensures.entry read)
    ∙ found_here
    (cut-found c.index.result.now c.index-2.result.now c.args.self.now c.self.invariant c.self.view_is c.deref.ensures.value c.in_ok-place.ensures c.index.ensures c.index-2.ensures)
    c.if-index-stamp.false

pub returns-clause-others : goal.returns-clause-others
returns-clause-others c =
    c.take_at-entry.ensures.others
    ∙ without_it
    (cut-found c.index.result.now c.index-2.result.now c.args.self.now c.self.invariant c.self.view_is c.deref.ensures.value c.in_ok-place.ensures c.index.ensures c.index-2.ensures)
    c.if-index-stamp.false
