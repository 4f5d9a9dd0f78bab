-- The store of the opening state.
use Rattle.std.specs.Prelude.{true, false, List, [], ◌∷◌, None, codes}
use Rattle.ob_objects.specs.declared.object.StoredBody.{StoredBody}
use Rattle.ob_objects.specs.declared.object.StoredBody.TheVariants.{Directory, Link}
use Rattle.ob_objects.specs.declared.object.StoredObject.{StoredObject}
use Rattle.ob_objects.specs.Store.{Entries, NameEntry}

module _ {F I : Type 0} where
  -- an object of the opening state: permanent, and not exclusive
  abbrev pub standing : StoredBody F I → StoredObject F I
  standing body = record { permanent = true; exclusive = false; body = body }

  -- its objects after the root, in which these entries lie
  abbrev pub opening_with : List NameEntry → Entries F I
  opening_with entries =
      (1, standing (Directory entries None)) ∷ (2, standing (Directory [] None)) ∷ (3, standing (Link (codes "\\??")))
      ∷ (4, standing (Directory [] None)) ∷ (5, standing (Directory [] None)) ∷ (6, standing (Directory [] None)) ∷ []

  -- without a name
  abbrev pub opening_objects : Entries F I
  opening_objects = opening_with []

  -- with their names
  abbrev pub opening_entries : Entries F I
  opening_entries =
      opening_with
      (record { stamp = 1; name = codes "GLOBAL??"; object = 2 } ∷ record { stamp = 2; name = codes "DosDevices"; object = 3 }
      ∷ record { stamp = 3; name = codes "Device"; object = 4 } ∷ record { stamp = 4; name = codes "BaseNamedObjects"; object = 5 }
      ∷ record { stamp = 5; name = codes "Sessions"; object = 6 } ∷ [])
