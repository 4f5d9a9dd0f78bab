-- Behind the context stand the entries from the place of the first one that isn't below it, but for the one that has it.
use Rattle.std.proofs.Common.{◌≡◌, ◌∙◌, ◌<◌, ◌+◌, ap, sym, subst, length, rules}
use Rattle.ob_dirs.specs.Runs.{AreFilled, IsPlaceOf}
use Rattle.std.proofs.lemmas.List.Elements.{All-drop, All-take}
use Rattle.ob_dirs.proofs.Found.{below-found, behind_it, cut-found, few-behind, first-from_on, from_it_on, lent, none_behind}
use Rattle.ob_dirs.proofs.Joined.{Run, run_at-read}
use Rattle.ob_dirs.proofs.runs.EntryRuns.behind.Goals as goal

pub returns-in_default-clause-entries : goal.returns-in_default-clause-entries
returns-in_default-clause-entries c =
    let all = c.args.self.now in
    let below = below-found c.args.context c.self.inside.runs.items c.deref.result.now all c.self.view_is c.deref.ensures.value c.in_default.ensures in
    c.none.ensures ∙ sym (none_behind c.args.context all below)

pub returns-then-index-context-clause-entries : goal.returns-then-index-context-clause-entries
returns-then-index-context-clause-entries c =
    let runs = c.self.inside.runs.items in
    let place = subst (λ l. IsPlaceOf l c.args.context c.in-Some.place.run c.in-Some.place.at) c.deref.ensures.value c.in-Some.ensures in
    c.new.ensures
    ∙ lent runs c.deref-2.result.now c.in-Some.place.run (c.in-Some.place.at + 1) c.index-run.result.now c.deref-then-index-context.result.now place.here.run_in c.index-run.ensures c.deref-then-index-context.ensures.value c.deref-2.ensures.value
    ∙ behind_it (cut-found c.index-run.result.now c.index.result.now c.args.self.now c.self.invariant c.self.view_is c.deref.ensures.value c.in-Some.ensures c.index-run.ensures c.index.ensures) c.if-index-context.true

pub new-requires-2 : goal.new-requires-2
new-requires-2 c = record {
  filled =
      All-take (λ (run : Run). 0 < length run.items) _ _
      (All-drop (λ (run : Run). 0 < length run.items) _ _ (subst AreFilled (sym c.deref-2.ensures.value) c.self.invariant.filled));
}

pub returns-clause-entries : goal.returns-clause-entries
returns-clause-entries c =
    let runs = c.self.inside.runs.items in
    let place = subst (λ l. IsPlaceOf l c.args.context c.in-Some.place.run c.in-Some.place.at) c.deref.ensures.value c.in-Some.ensures in
    let run = run_at-read runs c.in-Some.place.run c.index-run.result.now place.here.run_in c.index-run.ensures in
    let entry = c.index.result.now in
    c.new-2.ensures
    ∙ lent runs c.deref-2.result.now c.in-Some.place.run c.in-Some.place.at c.index-run.result.now c.deref-3.result.now place.here.run_in c.index-run.ensures c.deref-3.ensures.value c.deref-2.ensures.value
    ∙ first-from_on runs c.in-Some.place.run c.in-Some.place.at entry place.here.at_in (c.index.ensures ∙ ap (λ l. Rattle.std.proofs.Common.get_or l c.in-Some.place.at entry) (sym run))
    ∙ from_it_on (cut-found c.index-run.result.now entry c.args.self.now c.self.invariant c.self.view_is c.deref.ensures.value c.in-Some.ensures c.index-run.ensures c.index.ensures) c.if-index-context.false

pub returns-then-index-context-clause-counted : goal.returns-then-index-context-clause-counted
returns-then-index-context-clause-counted c =
    few-behind c.args.self.now c.new.result c.args.context c.self.invariant c.self.view_is (returns-then-index-context-clause-entries c)

pub returns-clause-counted : goal.returns-clause-counted
returns-clause-counted c =
    few-behind c.args.self.now c.new-2.result c.args.context c.self.invariant c.self.view_is (returns-clause-entries c)
