-- The machine that a script runs: the abstract machine with the standard set of types.
--
-- Source: this profile.
use Rattle.std.specs.Prelude.{length}
use Rattle.ob_model.specs.State.{State}
use Rattle.ob_plain.specs.Counting.{opens_of, closes_of, deletes_of}
use Rattle.ob_output.specs.declared.counts.Totals.{Totals}
use Rattle.ob_standard.specs.Standard.{StandardKind, StandardFace, StandardInner, Standard}

-- the states of the machine
abbrev pub Space : Type 0
Space = State StandardKind Standard StandardFace StandardInner

-- what a state counts: its objects and handles now, and its set's accepted opens, closes and deletes
abbrev pub counts_of : Space → Totals
counts_of s = record {
  objects = length s.objects;
  handles = length s.handles;
  opens = opens_of s.set;
  closes = closes_of s.set;
  deletes = deletes_of s.set;
}
