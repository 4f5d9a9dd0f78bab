-- What begins with no part of the sort's own kind begins with no part of the sort.
use Rattle.ob_parts.specs.Parts.{handle_seen}
use Rattle.ob_parts.proofs.sort.rest_after.Goals as goal

pub returns-in_err-take_handle-in-Handle-clause-none : goal.returns-in_err-take_handle-in-Handle-clause-none
returns-in_err-take_handle-in-Handle-clause-none c =
    rw (c.from_residual-in_err-take_handle-in-Handle.ensures, c.in-Handle.is) (λ r s. c.in_err-take_handle-in-Handle.ensures.none s.0 r s.1)

pub returns-in_err-take_flags-in-Flags-clause-none : goal.returns-in_err-take_flags-in-Flags-clause-none
returns-in_err-take_flags-in-Flags-clause-none c =
    rw (c.from_residual-in_err-take_flags-in-Flags.ensures, c.in-Flags.is) (λ r s. c.in_err-take_flags-in-Flags.ensures.none s.0 r s.1)

pub returns-in_err-take_room-in-Room-clause-none : goal.returns-in_err-take_room-in-Room-clause-none
returns-in_err-take_room-in-Room-clause-none c =
    rw (c.from_residual-in_err-take_room-in-Room.ensures, c.in-Room.is) (λ r s. c.in_err-take_room-in-Room.ensures.none s.0 r s.1)

pub returns-in_ok-take_handle-in-Handle-clause-found : goal.returns-in_ok-take_handle-in-Handle-clause-found
returns-in_ok-take_handle-in-Handle-clause-found c =
    rw c.in-Handle.is (handle_seen c.in_ok-take_handle-in-Handle.field-0.0, c.in_ok-take_handle-in-Handle.ensures.found)
