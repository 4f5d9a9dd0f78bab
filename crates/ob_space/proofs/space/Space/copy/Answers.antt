-- Each part of the copy is the same.
use Rattle.std.proofs.Common.{◌∙◌}
use Rattle.ob_space.proofs.space.Space.copy.Goals as goal

pub returns : goal.returns
returns g c =
    (λ i. record {
      objects = c.in_ok-copy.ensures.objects i;
      rows = c.in_ok-copy.ensures.rows i;
      handles = (c.in_ok-copy-2.ensures i).handles;
      processes = (c.in_ok-copy-2.ensures i).processes;
      pending = c.in_ok-copy-3.ensures i;
      set = c.in_ok-copied.ensures i;
      next_id = c.self.inside.next_id;
      next_stamp = c.self.inside.next_stamp;
      next_process = c.self.inside.next_process;
      next_order = c.self.inside.next_order;
    })
    ∙ c.self.view_is
