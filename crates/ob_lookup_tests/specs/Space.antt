-- The small namespaces of the tests.
use Rattle.std.specs.Prelude.{ℕ, ◌<◌, All}
use Rattle.ob_objects.specs.Store.{Entries, rows_of}
use Rattle.ob_lookup.specs.Closed.{IsClosed}

-- A closed store, whose ids and stamps are all below the next number.
pub record IsSpace {F I : Type 0} (store : Entries F I) (next : ℕ) : Type 0 where
  pub closed : IsClosed store
  pub ids : All (λ e. e.0 < next) store
  pub stamps : All (λ r. r.stamp < next) (rows_of store)
