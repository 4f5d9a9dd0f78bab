-- Alike variables ask alike: what a handle in a line means leads to what its variable's value leads to.
use Rattle.std.proofs.Common.{◌≡◌, ◌∙◌, ℕ, ◌+◌, ◌*◌, ◌<◌, ◌≤◌, ◌==◌, min, false, cond, List, map, None, Some, refl, ap, sym, subst, arith}
use Rattle.std.specs.Option.{option_map, option_map_or}
use Rattle.std.proofs.lemmas.Bool.{ne_eqb}
use Rattle.ob_base.specs.Handle.{key_of, without_low_bits}
use Rattle.ob_model.specs.declared.command.Command.{Command}
use Rattle.ob_model.specs.declared.command.Command.TheVariants as command
use Rattle.ob_model.specs.declared.command.Place.{Place}
use Rattle.ob_model.specs.declared.command.Place.TheVariants as place
use Rattle.ob_model.specs.State.{State}
use Rattle.ob_model.specs.Closing.{is_handle}
use Rattle.ob_model.specs.Grants.{IsHandleValue}
use Rattle.ob_model.specs.Alike.{is_named, AreAlike, LeadAlike, AreAlikeRoots, no_root, roots, AreAlikePlaces, no_name, names, AreAlikeCommands, create_directories, create_shadowed, create_links, create_objects, open_directories, open_links, open_objects, closes, queries_of_links, queries_of_names, queries_of_directories, duplicates, temporaries, permanents, device_maps, new_processes, exits}
use Rattle.ob_model.proofs.AlikeHandles.{plain_places}
use Rattle.ob_standard.specs.Standard.{StandardKind}
use Rattle.ob_parts.specs.declared.handle.HandleForm.{HandleForm}
use Rattle.ob_parts.specs.declared.handle.Offset.{Offset}
use Rattle.ob_parts.specs.declared.handle.Offset.TheVariants.{Zero, One, Two, Three}
use Rattle.ob_parts.specs.declared.name.NameForm.{NameForm}
use Rattle.ob_parts.specs.declared.name.NameForm.TheVariants.{Absolute, Relative}
use Rattle.ob_parts.specs.declared.name.PlaceForm.{PlaceForm}
use Rattle.ob_parts.specs.declared.name.PlaceForm.TheVariants.{Named, Unnamed}
use Rattle.ob_lines.specs.declared.request.Request.{Request}
use Rattle.ob_lines.specs.declared.request.Request.TheVariants.{CreateDirectory, CreateShadowed, CreateLink, CreateObject, OpenDirectory, OpenLink, OpenObject, Close, QueryLink, QueryName, QueryDirectory, Duplicate, MakeTemporary, MakePermanent, SetDeviceMap, NewProcess, ExitProcess}
use Rattle.ob_parts.specs.Pages.{is_first, is_single}
use Rattle.ob_parts.specs.Parts.{offset_value, text_of}
use Rattle.ob_parts.proofs.Spelled.{spells_alike}
use Rattle.ob_requests.specs.Variables.{Variables}
use Rattle.ob_requests.specs.Commands.{kind_meant, greatest_named, handle_meant, root_of, IsPlace, IsCommand}
use Rattle.ob_requests.specs.Alike.{AreAlikeValues, unset, set, AreAlikeVariables}

-- an offset is at most 3
pub offset_small : (o : Offset) → offset_value o ≤ 3
offset_small Zero = omega arith
offset_small One = omega arith
offset_small Two = omega arith
offset_small Three = omega arith

-- a handle value with an offset has the value for its key, and 0 with one has none
pub key_of_value : (value more : ℕ) → IsHandleValue value → more ≤ 3 → key_of (min (value + more) greatest_named) ≡ Some value
key_of_value value more is small =
    let n : ℕ = is.0 in
    let four : value ≡ 4 * n = is.1 in
    let some : 0 < n = is.2 in
    let least : value ≤ 262140 = is.3 in
    let sum : min (value + more) greatest_named ≡ value + more = omega (arith, least, small) in
    let cleared : without_low_bits (value + more) ≡ value = omega (arith, four, small) in
    let other : (value == 0) ≡ false = ne_eqb value 0 (λ zero. omega (arith, zero, four, some)) in
    ap key_of sum ∙ (λ i. cond (cleared i == 0) None (Some (cleared i))) ∙ ap (λ b. cond b None (Some value)) other

pub key_of_zero : (value more : ℕ) → value ≡ 0 → more ≤ 3 → key_of (min (value + more) greatest_named) ≡ None
key_of_zero value more zero small =
    let sum : min (value + more) greatest_named ≡ more = omega (arith, zero, small) in
    let cleared : without_low_bits more ≡ 0 = omega (arith, small) in
    ap key_of sum ∙ (λ i. cond (cleared i == 0) None (Some (cleared i)))

pub own_key : (value : ℕ) → IsHandleValue value → key_of value ≡ Some value
own_key value is =
    let least : value ≤ 262140 = is.3 in
    let sum : min (value + 0) greatest_named ≡ value = omega (arith, least) in
    sym (ap key_of sum) ∙ key_of_value value 0 is (omega arith)

module _ {T F I : Type 0} (s t : State StandardKind T F I) (alike : AreAlike s t) (p : ℕ) where
  -- a value leads where another of the same key does
  same_key : (value other : ℕ) → key_of value ≡ key_of other → (u : State StandardKind T F I) → map (is_named p value) u.handles ≡ map (is_named p other) u.handles
  same_key value other same u = λ i. map (λ h. option_map_or (λ key. is_handle p key h) (same i) false) u.handles

  -- and one without a key leads nowhere
  no_key : (value other : ℕ) → key_of value ≡ None → key_of other ≡ None → LeadAlike s t p value other
  no_key value other none none_too =
      (λ i. map (λ h. option_map_or (λ key. is_handle p key h) (none i) false) s.handles)
      ∙ plain_places (λ h. false) s.handles t.handles (ap (λ x. x.handles) alike) (λ h. refl)
      ∙ (λ i. map (λ h. option_map_or (λ key. is_handle p key h) (sym none_too i) false) t.handles)

  meant_alike : (value other more : ℕ) → more ≤ 3 → AreAlikeValues s t p value other → LeadAlike s t p (min (value + more) greatest_named) (min (other + more) greatest_named)
  meant_alike value other more small (unset zero zero_too) =
      no_key (min (value + more) greatest_named) (min (other + more) greatest_named) (key_of_zero value more zero small) (key_of_zero other more zero_too small)
  meant_alike value other more small (set held lead is is_too) =
      same_key (min (value + more) greatest_named) value (key_of_value value more is small ∙ sym (own_key value is)) s ∙ lead
      ∙ same_key other (min (other + more) greatest_named) (own_key other is_too ∙ sym (key_of_value other more is_too small)) t

module _ {T F I : Type 0} (s t : State StandardKind T F I) (alike : AreAlike s t) (p : ℕ) (variables others : Variables) (same : AreAlikeVariables s t variables others) where
  handles_alike : (handle : HandleForm (List ℕ)) → LeadAlike s t p (handle_meant handle (variables.values p)) (handle_meant handle (others.values p))
  handles_alike handle =
      meant_alike s t alike p (variables.values p handle.variable) (others.values p handle.variable) (offset_value handle.offset) (offset_small handle.offset) (same.values p handle.variable)

  roots_alike : (name : NameForm (List ℕ)) → AreAlikeRoots s t p (root_of name (variables.values p)) (root_of name (others.values p))
  roots_alike (Absolute text) = no_root
  roots_alike (Relative root text) = roots (handles_alike root)

  places_alike : (form : PlaceForm (List ℕ)) (where_to where_else : Place) → IsPlace form (variables.values p) where_to → IsPlace form (others.values p) where_else → AreAlikePlaces s t p where_to where_else
  places_alike (Named name) where_to where_else h k =
      let bytes : k.0 ≡ h.0 = spells_alike (text_of name) k.0 h.0 k.1 h.1 in
      subst (λ x. AreAlikePlaces s t p x where_else) (sym h.2)
      (subst (λ x. AreAlikePlaces s t p (place.At (root_of name (variables.values p)) h.0) x) (sym (k.2 ∙ ap (λ (b : List ℕ). place.At (root_of name (others.values p)) b) bytes)) (names (roots_alike name)))
  places_alike Unnamed where_to where_else h k =
      subst (λ x. AreAlikePlaces s t p x where_else) (sym h) (subst (λ x. AreAlikePlaces s t p place.Unnamed x) (sym k) no_name)

  told : (c d c_told d_told : Command StandardKind) → c ≡ c_told → d ≡ d_told → AreAlikeCommands s t p c_told d_told → AreAlikeCommands s t p c d
  told c d c_told d_told c_is d_is is = subst (λ x. AreAlikeCommands s t p x d) (sym c_is) (subst (λ x. AreAlikeCommands s t p c_told x) (sym d_is) is)

  commands_alike : (request : Request (List ℕ)) (c d : Command StandardKind) → IsCommand request variables p c → IsCommand request others p d → AreAlikeCommands s t p c d
  commands_alike (CreateDirectory form attrs variable) c d h k =
      told c d (command.CreateDirectory h.0 attrs) (command.CreateDirectory k.0 attrs) h.2 k.2 (create_directories (places_alike form h.0 k.0 h.1 k.1))
  commands_alike (CreateShadowed shadow form attrs variable) c d h k =
      told c d (command.CreateShadowed h.0 attrs (handle_meant shadow (variables.values p))) (command.CreateShadowed k.0 attrs (handle_meant shadow (others.values p))) h.2 k.2
      (create_shadowed (places_alike form h.0 k.0 h.1 k.1) (handles_alike shadow))
  commands_alike (CreateLink form attrs target variable) c d h k =
      let bytes : k.1 ≡ h.1 = spells_alike target k.1 h.1 k.3 h.3 in
      told c d (command.CreateLink h.0 attrs h.1) (command.CreateLink k.0 attrs h.1) h.4 (k.4 ∙ ap (λ (b : List ℕ). command.CreateLink k.0 attrs b) bytes)
      (create_links (places_alike form h.0 k.0 h.2 k.2))
  commands_alike (CreateObject kind form attrs args variable) c d h k =
      let bytes : k.1 ≡ h.1 = spells_alike args k.1 h.1 k.3 h.3 in
      told c d (command.CreateObject h.0 attrs (kind_meant kind) h.1) (command.CreateObject k.0 attrs (kind_meant kind) h.1) h.4 (k.4 ∙ ap (λ (b : List ℕ). command.CreateObject k.0 attrs (kind_meant kind) b) bytes)
      (create_objects (places_alike form h.0 k.0 h.2 k.2))
  commands_alike (OpenDirectory name attrs variable) c d h k =
      let bytes : k.0 ≡ h.0 = spells_alike (text_of name) k.0 h.0 k.1 h.1 in
      told c d (command.OpenDirectory (root_of name (variables.values p)) h.0 attrs) (command.OpenDirectory (root_of name (others.values p)) h.0 attrs) h.2
      (k.2 ∙ ap (λ (b : List ℕ). command.OpenDirectory (root_of name (others.values p)) b attrs) bytes) (open_directories (roots_alike name))
  commands_alike (OpenLink name attrs variable) c d h k =
      let bytes : k.0 ≡ h.0 = spells_alike (text_of name) k.0 h.0 k.1 h.1 in
      told c d (command.OpenLink (root_of name (variables.values p)) h.0 attrs) (command.OpenLink (root_of name (others.values p)) h.0 attrs) h.2
      (k.2 ∙ ap (λ (b : List ℕ). command.OpenLink (root_of name (others.values p)) b attrs) bytes) (open_links (roots_alike name))
  commands_alike (OpenObject want name attrs variable) c d h k =
      let bytes : k.0 ≡ h.0 = spells_alike (text_of name) k.0 h.0 k.1 h.1 in
      told c d (command.OpenObject (root_of name (variables.values p)) h.0 attrs (option_map kind_meant want)) (command.OpenObject (root_of name (others.values p)) h.0 attrs (option_map kind_meant want)) h.2
      (k.2 ∙ ap (λ (b : List ℕ). command.OpenObject (root_of name (others.values p)) b attrs (option_map kind_meant want)) bytes) (open_objects (roots_alike name))
  commands_alike (Close handle) c d h k = told c d _ _ h k (closes (handles_alike handle))
  commands_alike (QueryLink handle) c d h k = told c d _ _ h k (queries_of_links (handles_alike handle))
  commands_alike (QueryName handle) c d h k = told c d _ _ h k (queries_of_names (handles_alike handle))
  commands_alike (QueryDirectory handle room mode) c d h k =
      told c d _ _ h
      (k ∙ ap (λ (n : ℕ). command.QueryDirectory (handle_meant handle (others.values p)) n room (is_single mode) (is_first mode)) (sym (same.contexts p handle.variable)))
      (queries_of_directories (handles_alike handle))
  commands_alike (Duplicate handle to inherit variable) c d h k =
      told c d _ _ h (k ∙ ap (λ (n : ℕ). command.Duplicate (handle_meant handle (others.values p)) n inherit) (sym (same.processes to))) (duplicates (handles_alike handle))
  commands_alike (MakeTemporary handle) c d h k = told c d _ _ h k (temporaries (handles_alike handle))
  commands_alike (MakePermanent handle) c d h k = told c d _ _ h k (permanents (handles_alike handle))
  commands_alike (SetDeviceMap handle) c d h k = told c d _ _ h k (device_maps (handles_alike handle))
  commands_alike (NewProcess inherit child) c d h k = told c d _ _ h k new_processes
  commands_alike ExitProcess c d h k = told c d _ _ h k exits

pub asks_alike : {T F I : Type 0} (s t : State StandardKind T F I) (p : ℕ) (request : Request (List ℕ)) (variables others : Variables) (c d : Command StandardKind)
    → AreAlike s t → AreAlikeVariables s t variables others → IsCommand request variables p c → IsCommand request others p d → AreAlikeCommands s t p c d
asks_alike s t p request variables others c d alike same h k = commands_alike s t alike p variables others same request c d h k
