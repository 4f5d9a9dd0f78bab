-- The parse procedures of the standard set use a front of their rest.
use Rattle.std.proofs.Common.{rules}
use Rattle.ob_model.specs.Procedures.{FrontIsUsed}
use Rattle.ob_types.specs.Both.{both_procedures}
use Rattle.ob_types.specs.BothLaws.{both_front}
use Rattle.ob_plain.specs.Plain.{plain_procedures}
use Rattle.ob_plain.specs.Fronts.{counted_front}
use Rattle.ob_device.specs.Device.{device_procedures}
use Rattle.ob_device.specs.DeviceLaws.{device_front}
use Rattle.ob_key.specs.Key.{key_procedures}
use Rattle.ob_key.specs.KeyLaws.{key_front}
use Rattle.ob_standard.specs.Standard.{standard}

plain_front : FrontIsUsed plain_procedures
plain_front = λ _ _ _ _ _ told. Prim.search rules

pub standard_front : FrontIsUsed standard
standard_front =
    counted_front (both_procedures plain_procedures (both_procedures device_procedures key_procedures))
    (both_front plain_procedures (both_procedures device_procedures key_procedures) plain_front (both_front device_procedures key_procedures device_front key_front))
