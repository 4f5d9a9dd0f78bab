-- The cache leads the walk on, or the walk comes to where it goes on, and the cache keeps what it has come through.
use Rattle.std.proofs.Common.{ℕ, List, ◌∙◌, sym, subst}
use Rattle.ob_prefixes.specs.Cache.{after_put}
use Rattle.ob_lookup.specs.Prefixes.{IsPrefixAt, ArePaths}
use Rattle.ob_lookup.proofs.Steps.{led_start}
use Rattle.ob_lookup.proofs.Kept.{found_leads, found_there, found_are_paths, walked_are_paths, of_either}
use Rattle.ob_lookup.proofs.onward.onward.Goals as goal
use Rattle.ob_lookup.proofs.onward.onward.Goals.{in-Some-directory_reached, in_default-directory_reached}

pub returns-in_default-clause-leads : goal.returns-in_default-clause-leads
returns-in_default-clause-leads g c = λ s p shows of. led_start s p c.args.start c.args.create c.args.fold

pub returns-in_default-prefix_at-clause-leads : goal.returns-in_default-prefix_at-clause-leads
returns-in_default-prefix_at-clause-leads g c = λ s p shows of. led_start s p c.args.start c.args.create c.args.fold

pub returns-in-Some-find-clause-directory : goal.returns-in-Some-find-clause-directory
returns-in-Some-find-clause-directory g c =
    found_there c.args.store.now c.args.cache.now c.requires.paths c.in-Ok.prefix c.in-Some-find.directory (sym c.find.ensures.found ∙ c.in-Some-find.is)

pub returns-in-Some-find-clause-leads : goal.returns-in-Some-find-clause-leads
returns-in-Some-find-clause-leads g c =
    found_leads c.args.store.now c.args.cache.now c.requires.paths c.args.view.now c.args.start c.args.create c.args.fold c.in-Ok.prefix c.in-Some.last c.in-Some-find.directory
    (c.in-Some.front, c.in-Some.ensures.parts.0, c.in-Some.ensures.parts.1, (subst (λ (bytes : List ℕ). IsPrefixAt c.args.view.now c.args.start.place c.args.fold bytes c.in-Ok.prefix) c.as_slice.ensures.bytes c.in-Ok.ensures.prefix)) (sym c.find.ensures.found ∙ c.in-Some-find.is)

pub returns-in-Some-find-clause-paths : goal.returns-in-Some-find-clause-paths
returns-in-Some-find-clause-paths g c =
    subst (ArePaths g.row.T-Kind.Denot g.row.T.Denot g.row.T-Face.Denot g.row.T-Inner.Denot c.args.store.now) (sym c.find.ensures.cache)
    (found_are_paths c.args.store.now c.args.cache.now c.requires.paths c.in-Ok.prefix)

pub returns-clause-paths : goal.returns-clause-paths
returns-clause-paths g c =
    let are = subst (ArePaths g.row.T-Kind.Denot g.row.T.Denot g.row.T-Face.Denot g.row.T-Inner.Denot c.args.store.now) (sym c.find.ensures.cache)
    (found_are_paths c.args.store.now c.args.cache.now c.requires.paths c.in-Ok.prefix) in
    elim c.match-directory_reached.branch [
      | in-Some-directory_reached w ↦
          let walked = walked_are_paths c.args.store.now c.find.new.self are c.args.view.now c.requires.view c.args.start c.to_last-reached.result c.args.create c.args.fold
          c.in-Ok.prefix c.in-Some.last c.as_slice-left.result.now w.in-Some-directory_reached.directory (c.in-Some.front, c.in-Some.ensures.parts.0, c.in-Some.ensures.parts.1, (subst (λ (bytes : List ℕ). IsPrefixAt c.args.view.now c.args.start.place c.args.fold bytes c.in-Ok.prefix) c.as_slice.ensures.bytes c.in-Ok.ensures.prefix)) c.to_last-reached.ensures.leads
          c.as_slice-left.ensures.bytes (sym c.directory_reached.ensures ∙ w.in-Some-directory_reached.is) c.to_last-reached.ensures.directory in
          subst (ArePaths g.row.T-Kind.Denot g.row.T.Denot g.row.T-Face.Denot g.row.T-Inner.Denot c.args.store.now) (sym w.cache-is)
          (of_either (ArePaths g.row.T-Kind.Denot g.row.T.Denot g.row.T-Face.Denot g.row.T-Inner.Denot c.args.store.now) w.put.result
          (after_put c.in-Ok.prefix w.in-Some-directory_reached.directory c.find.new.self) c.find.new.self w.put.new.self
          w.put.ensures.cache w.put.ensures.unchanged walked are)
      | in_default-directory_reached w ↦
          subst (ArePaths g.row.T-Kind.Denot g.row.T.Denot g.row.T-Face.Denot g.row.T-Inner.Denot c.args.store.now) (sym w.cache-is) are
    ]
