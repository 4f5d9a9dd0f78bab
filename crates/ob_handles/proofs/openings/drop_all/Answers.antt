-- What is retained leads to handles.
use Rattle.std.proofs.Common.{is_some, rules, tests}
use Rattle.std.proofs.lemmas.Fn.{filter_same}
use Rattle.slab.specs.Slab.{get}
use Rattle.ob_handles.specs.Openings.{held_by}
use Rattle.ob_handles.proofs.openings.drop_all.Goals as goal

pub returns : goal.returns
returns c =
    filter_same _ (λ o. is_some (held_by (get c.args.rows.now) o)) _ (λ x b f k. search (rules, tests)) c.args.opened.now.items c.retain.new.self.items c.retain.ensures.filtered
