-- After all steps that are asked for, the copy keeps the rule and has all publications that are recorded.
use Rattle.std.proofs.Common.{◌∙◌, drop}
use Rattle.ob_published.specs.Ahead.{asked}
use Rattle.ob_published.specs.Shown.{after_steps}
use Rattle.ob_published.proofs.Steps.{asked_is_shown, asked_log, showing_shown}
use Rattle.ob_published.proofs.showing.Showing.show.Goals as goal

pub show_left-requires : goal.show_left-requires
show_left-requires g c =
    let own = c.self.inside in
    let reach = c.reach-reach.ensures in
    record {
      rule =
          asked_is_shown g.J.Naming.book g.J.Naming.opening g.J.Naming.leads own.start own.last own.left.items own.behind own.writer.desk.shown.value
          (drop own.writer.behind own.writer.log.items) c.self.invariant c.reach-reach.result reach.publications reach.entries reach.seen.0 reach.seen.1 reach.leads;
    }

pub invariant_of-self-2 : goal.invariant_of-self-2
invariant_of-self-2 g c =
    let own = c.self.inside in
    let reach = c.reach-reach.ensures in
    let new = c.show_left.new in
    let pending = drop own.writer.behind own.writer.log.items in
    let told = c.in_ok-show_left.ensures in
    showing_shown g.J.Naming.book g.J.Naming.opening g.J.Naming.leads own.start own.last c.self.invariant.from_none new.left.items new.writer.desk.shown.value
    (drop new.writer.behind new.writer.log.items) told.none.0 told.none.1 (after_steps own.writer.desk.shown.value (asked pending own.left.items c.reach-reach.result)) told.shown
    (asked_is_shown g.J.Naming.book g.J.Naming.opening g.J.Naming.leads own.start own.last own.left.items own.behind own.writer.desk.shown.value pending c.self.invariant
    c.reach-reach.result reach.publications reach.entries reach.seen.0 reach.seen.1 reach.leads)
    (asked_log g.J.Naming.book g.J.Naming.opening g.J.Naming.leads own.start own.last own.left.items own.writer.desk.shown.value pending c.reach-reach.result reach.seen.1
    new.writer.desk.shown.value told.shown)
