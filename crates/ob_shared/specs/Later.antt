-- Histories that go on.
--
-- Source: this profile.
use Rattle.std.specs.Prelude.{◌≡◌, List, ◌++◌, length}
use Rattle.ob_model.specs.Procedures.{Procedures}
use Rattle.ob_model.specs.Run.{Entry, Run, RunFrom}
use Rattle.ob_segments.specs.Journal.{whole}
use Rattle.ob_locked.specs.Locked.{History}

-- A history is later than another: that one's journal is a run, and goes on with some entries, which lead from its state to
-- the later one.
pub record IsLater {K T F I : Type 0} (g : Procedures K T F I) (h later : History K T F I) : Type 0 where
  pub run : Run g h.first (whole h.journal) h.state
  pub first : later.first ≡ h.first
  pub since : List (Entry K)
  pub journal : whole later.journal ≡ whole h.journal ++ since
  pub onward : RunFrom g h.state (length (whole h.journal)) since later.state
