-- The machine that a caller in C runs: the abstract machine with the set of a caller's own objects.
--
-- Source: this profile.
use Rattle.std.specs.Prelude.{List}
use Rattle.ob_model.specs.State.{State}
use Rattle.ob_model.specs.Procedures.{Procedures}
use Rattle.ob_host.specs.Host.{host_procedures}
use Rattle.ob_host.specs.Kept.{Kept}
use Rattle.ob_host.specs.declared.kind.Kind.{Kind}
use Rattle.ob_host.specs.declared.object.HostObject.{HostObject}
use Rattle.ob_host.specs.declared.set.HostSet.{HostSet}
use Rattle.ob_runner.specs.Begun.{AreAwaited}
use Rattle.ob_runner.specs.Repeated.{AreAllKept}
use Rattle.ob_types.specs.Parse.{ToRun}

-- the states of the machine
abbrev pub Space : Type 0
Space = State Kind HostSet HostObject Kept

-- the procedures of the set
abbrev pub host : Procedures Kind HostSet HostObject Kept
host = host_procedures

-- the parses that are kept are those that the pending opens wait for, each under its open's ticket
abbrev pub KeepsParses : Space → List (ToRun HostObject) → Type 0
KeepsParses s parses = AreAwaited s parses × AreAllKept s parses
