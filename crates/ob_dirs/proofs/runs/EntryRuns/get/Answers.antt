-- The entry of the stamp is at the place of the first one that isn't below it, or nowhere.
use Rattle.std.proofs.Common.{◌∙◌, ap, sym}
use Rattle.std.specs.Option.{option_copied}
use Rattle.ob_dirs.proofs.Found.{below-found, cut-found, find-none, found_here, none-below, not_found}
use Rattle.ob_dirs.proofs.runs.EntryRuns.get.Goals as goal

pub returns-in_err-place : goal.returns-in_err-place
returns-in_err-place c =
    let all = c.args.self.now in
    let below = below-found c.args.stamp c.self.inside.runs.items c.deref.result.now all c.self.view_is c.deref.ensures.value c.in_err-place.ensures in
    ap option_copied c.from_residual.ensures ∙ sym (find-none c.args.stamp all (none-below c.args.stamp all below))

pub returns-then-entry-stamp : goal.returns-then-entry-stamp
returns-then-entry-stamp c =
    found_here
    (cut-found c.index.result.now c.index-entry.result.now c.args.self.now c.self.invariant c.self.view_is c.deref.ensures.value c.in_ok-place.ensures c.index.ensures c.index-entry.ensures)
    c.if-entry-stamp.true

pub returns-else-entry-stamp : goal.returns-else-entry-stamp
returns-else-entry-stamp c =
    not_found
    (cut-found c.index.result.now c.index-entry.result.now c.args.self.now c.self.invariant c.self.view_is c.deref.ensures.value c.in_ok-place.ensures c.index.ensures c.index-entry.ensures)
    c.if-entry-stamp.false
