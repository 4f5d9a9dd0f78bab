-- What changes of a store leave of the types that are kept beside it.
use Rattle.std.proofs.Common.{◌≡◌, ◌∙◌, ℕ, Bool, true, false, cond, suc, [], ◌∷◌, length, map, get_or, ◌<◌, Option, None, Some, option_map, refl, ap, sym, subst}
use Rattle.std.proofs.lemmas.List.Elements.{All-head, All-tail}
use Rattle.std.proofs.lemmas.Option.{same_Some}
use Rattle.std.specs.BTreeMap.{is_at}
use Rattle.std.specs.List.Sorted.{IsStrictlySortedBy}
use Rattle.std.specs.Map.{keys_of, lookup, set_value}
use Rattle.std.specs.Option.{option_map_or}
use Rattle.std.specs.Ordering.{nat_cmp}
use Rattle.ob_model.specs.Enumeration.{body_type_name}
use Rattle.ob_model.specs.declared.terms.Reason.{Reason}
use Rattle.ob_model.specs.Procedures.{Procedures}
use Rattle.ob_dirs.specs.declared.entry.DirEntry.{DirEntry}
use Rattle.ob_objects.specs.declared.object.StoredBody.{StoredBody}
use Rattle.ob_objects.specs.declared.object.StoredBody.TheVariants.{Directory, Link, Other}
use Rattle.ob_objects.specs.declared.object.StoredObject.{StoredObject}
use Rattle.ob_objects.specs.declared.types.StoredType.{StoredType}
use Rattle.ob_objects.specs.Changes.{body_with_name, body_without_name, stored_opened, stored_closed}
use Rattle.ob_objects.specs.Listing.{type_name_at}
use Rattle.ob_objects.specs.Store.{Entries, stored_at, body_of_stored}
use Rattle.ob_objects.specs.Types.{Types, IsAhead, KeepsTypes, type_of_body, name_of_type, type_name_among}
use Rattle.ob_model.proofs.Ids.{lookup-id}
use Rattle.ob_objects.proofs.ById.{same_where_found}

-- ---- what is ahead in a walk stands among the types

module _ {K : Type 0} where
  -- what a map has at the keys of a range is ahead
  pub range_is_ahead : (types range : Types K)
      → ((k : ℕ) (d : ℕ × StoredType K) → k < length range → lookup (is_at (nat_cmp (get_or range k d).0)) types ≡ Some (get_or range k d).1) → IsAhead types range
  range_is_ahead types range all k d within = all k d within

  -- what comes next stands among them, and so does what is behind it
  pub next_stands : (types ahead rest : Types K) (id : ℕ) (x : StoredType K) → IsAhead types ahead → ahead ≡ (id, x) ∷ rest → lookup (is_at (nat_cmp id)) types ≡ Some x
  next_stands types ahead rest id x is next = All-head (λ e. lookup (is_at (nat_cmp e.0)) types ≡ Some e.1) (id, x) rest (subst (IsAhead types) next is)

  pub rest_is_ahead : (types ahead rest : Types K) (id : ℕ) (x : StoredType K) → IsAhead types ahead → ahead ≡ (id, x) ∷ rest → IsAhead types rest
  rest_is_ahead types ahead rest id x is next = All-tail (λ e. lookup (is_at (nat_cmp e.0)) types ≡ Some e.1) (id, x) rest (subst (IsAhead types) next is)

module _ {K T F I : Type 0} (g : Procedures K T F I) where
  -- ---- what is done to an object leaves its type

  pub with_name_type : (entry : DirEntry) (body : StoredBody F I) → type_of_body g (body_with_name entry body) ≡ type_of_body g body
  with_name_type entry (Directory entries shadow) = refl
  with_name_type entry (Link target) = refl
  with_name_type entry (Other face inner) = refl

  pub without_name_type : (stamp : ℕ) (body : StoredBody F I) → type_of_body g (body_without_name stamp body) ≡ type_of_body g body
  without_name_type stamp (Directory entries shadow) = refl
  without_name_type stamp (Link target) = refl
  without_name_type stamp (Other face inner) = refl

  pub opened_type : (set : T) (reason : Reason) (body : StoredBody F I) → type_of_body g (stored_opened g set reason body) ≡ type_of_body g body
  opened_type set reason (Directory entries shadow) = refl
  opened_type set reason (Link target) = refl
  opened_type set reason (Other face inner) = refl

  pub closed_type : (set : T) (process_left system_left : ℕ) (body : StoredBody F I) → type_of_body g (stored_closed g set process_left system_left body) ≡ type_of_body g body
  closed_type set process_left system_left (Directory entries shadow) = refl
  closed_type set process_left system_left (Link target) = refl
  closed_type set process_left system_left (Other face inner) = refl

  -- ---- an object comes, and goes; each is told by what a search finds then

  abbrev type_of : StoredObject F I → StoredType K
  type_of x = type_of_body g x.body

  pub types_come : (inside new : Entries F I) (types more : Types K) (key : ℕ) (x : StoredObject F I) → KeepsTypes g inside types
      → ((id : ℕ) → lookup (is_at (nat_cmp id)) more ≡ cond (is_at (nat_cmp key) id) (Some (type_of_body g x.body)) (lookup (is_at (nat_cmp id)) types))
      → ((id : ℕ) → lookup (is_at (nat_cmp id)) new ≡ cond (is_at (nat_cmp key) id) (Some x) (lookup (is_at (nat_cmp id)) inside))
      → KeepsTypes g new more
  types_come inside new types more key x keeps put stored id =
      put id ∙ go (is_at (nat_cmp key) id) ∙ ap (option_map type_of) (sym (stored id) ∙ lookup-id id new)
    where
      go : (t : Bool) → cond t (Some (type_of x)) (lookup (is_at (nat_cmp id)) types) ≡ option_map type_of (cond t (Some x) (lookup (is_at (nat_cmp id)) inside))
      go true = refl
      go false = keeps id ∙ ap (option_map type_of) (sym (lookup-id id inside))

  pub types_go : (inside new : Entries F I) (types left : Types K) (key : ℕ) → KeepsTypes g inside types
      → ((id : ℕ) → lookup (is_at (nat_cmp id)) left ≡ cond (is_at (nat_cmp key) id) None (lookup (is_at (nat_cmp id)) types))
      → ((id : ℕ) → lookup (is_at (nat_cmp id)) new ≡ cond (is_at (nat_cmp key) id) None (lookup (is_at (nat_cmp id)) inside))
      → KeepsTypes g new left
  types_go inside new types left key keeps taken gone id =
      taken id ∙ go (is_at (nat_cmp key) id) ∙ ap (option_map type_of) (sym (gone id) ∙ lookup-id id new)
    where
      go : (t : Bool) → cond t None (lookup (is_at (nat_cmp id)) types) ≡ option_map type_of (cond t None (lookup (is_at (nat_cmp id)) inside))
      go true = refl
      go false = keeps id ∙ ap (option_map type_of) (sym (lookup-id id inside))

  -- ---- an object is written over, and keeps its type

  same_types : (key id : ℕ) (x w : StoredObject F I) (es : Entries F I) → lookup (is_at (nat_cmp key)) es ≡ Some x → type_of_body g w.body ≡ type_of_body g x.body
      → option_map type_of (lookup (is_at (nat_cmp id)) (set_value (is_at (nat_cmp key)) es w)) ≡ option_map type_of (lookup (is_at (nat_cmp id)) es)
  same_types key id x w [] found same = refl
  same_types key id x w (e ∷ es) found same = go (is_at (nat_cmp key) e.0) found (same_types key id x w es)
    where
      written : e.1 ≡ x → (s : Bool) → option_map type_of (cond s (Some w) (lookup (is_at (nat_cmp id)) es)) ≡ option_map type_of (cond s (Some e.1) (lookup (is_at (nat_cmp id)) es))
      written is true = ap Some (same ∙ ap type_of (sym is))
      written is false = refl

      behind : option_map type_of (lookup (is_at (nat_cmp id)) (set_value (is_at (nat_cmp key)) es w)) ≡ option_map type_of (lookup (is_at (nat_cmp id)) es) → (s : Bool)
          → option_map type_of (cond s (Some e.1) (lookup (is_at (nat_cmp id)) (set_value (is_at (nat_cmp key)) es w))) ≡ option_map type_of (cond s (Some e.1) (lookup (is_at (nat_cmp id)) es))
      behind more true = refl
      behind more false = more

      go : (t : Bool) → cond t (Some e.1) (lookup (is_at (nat_cmp key)) es) ≡ Some x
          → (lookup (is_at (nat_cmp key)) es ≡ Some x → type_of_body g w.body ≡ type_of_body g x.body
          → option_map type_of (lookup (is_at (nat_cmp id)) (set_value (is_at (nat_cmp key)) es w)) ≡ option_map type_of (lookup (is_at (nat_cmp id)) es))
          → option_map type_of (lookup (is_at (nat_cmp id)) (cond t ((e.0, w) ∷ es) (e ∷ set_value (is_at (nat_cmp key)) es w)))
          ≡ option_map type_of (lookup (is_at (nat_cmp id)) (e ∷ es))
      go true is more = written (same_Some e.1 x is) (is_at (nat_cmp id) e.0)
      go false is more = behind (more is same) (is_at (nat_cmp id) e.0)

  pub types_stay : (new inside : Entries F I) (types : Types K) (key : ℕ) (change : StoredObject F I → StoredObject F I) (x w : StoredObject F I) → KeepsTypes g inside types
      → lookup (is_at (nat_cmp key)) inside ≡ Some x → new ≡ set_value (is_at (nat_cmp key)) inside w → w ≡ change x
      → ((y : StoredObject F I) → type_of_body g (change y).body ≡ type_of_body g y.body) → KeepsTypes g new types
  types_stay new inside types key change x w keeps found e is_change same id =
      keeps id ∙ ap (option_map type_of) (sym (lookup-id id inside))
      ∙ sym (same_types key id x w inside found (ap type_of is_change ∙ same x))
      ∙ ap (λ s. option_map type_of (lookup (is_at (nat_cmp id)) s)) (sym e) ∙ ap (option_map type_of) (lookup-id id new)

  -- ---- the names of the types that are kept are those of the objects

  pub named_alike : (store : Entries F I) (types : Types K) → KeepsTypes g store types → type_name_among g types ≡ type_name_at g store
  named_alike store types keeps = λ i id. same id i
    where
      type_named : (body : StoredBody F I) → name_of_type g (type_of_body g body) ≡ body_type_name g (body_of_stored body)
      type_named (Directory entries shadow) = refl
      type_named (Link target) = refl
      type_named (Other face inner) = refl

      go : (o : Option (StoredObject F I)) → option_map_or (name_of_type g) (option_map type_of o) [] ≡ option_map_or (λ x. body_type_name g (body_of_stored x.body)) o []
      go None = refl
      go (Some x) = type_named x.body

      same : (id : ℕ) → type_name_among g types id ≡ type_name_at g store id
      same id = ap (λ o. option_map_or (name_of_type g) o []) (keeps id) ∙ go (stored_at store id)

  -- ---- as many types are kept as there are objects

  abbrev pub typed : Entries F I → Types K
  typed store = map (λ e. (e.0, type_of e.1)) store

  typed_keys : (store : Entries F I) → keys_of (typed store) ≡ keys_of store
  typed_keys [] = refl
  typed_keys (e ∷ store) = ap (λ ks. e.0 ∷ ks) (typed_keys store)

  typed_finds : (q : ℕ) (store : Entries F I) → lookup (is_at (nat_cmp q)) (typed store) ≡ option_map type_of (lookup (is_at (nat_cmp q)) store)
  typed_finds q [] = refl
  typed_finds q (e ∷ store) = go (is_at (nat_cmp q) e.0) (typed_finds q store)
    where
      go : (t : Bool) → lookup (is_at (nat_cmp q)) (typed store) ≡ option_map type_of (lookup (is_at (nat_cmp q)) store)
          → cond t (Some (type_of e.1)) (lookup (is_at (nat_cmp q)) (typed store)) ≡ option_map type_of (cond t (Some e.1) (lookup (is_at (nat_cmp q)) store))
      go true more = refl
      go false more = more

  typed_length : (store : Entries F I) → length (typed store) ≡ length store
  typed_length [] = refl
  typed_length (e ∷ store) = ap suc (typed_length store)

  pub types_are : (store : Entries F I) (types : Types K) → KeepsTypes g store types → IsStrictlySortedBy nat_cmp (keys_of store) → IsStrictlySortedBy nat_cmp (keys_of types)
      → types ≡ typed store
  types_are store types keeps rising types_rise =
      same_where_found types (typed store) types_rise (subst (IsStrictlySortedBy nat_cmp) (sym (typed_keys store)) rising)
      (λ q. keeps q ∙ ap (option_map type_of) (sym (lookup-id q store)) ∙ sym (typed_finds q store))

  pub as_many_types : (store : Entries F I) (types : Types K) → KeepsTypes g store types → IsStrictlySortedBy nat_cmp (keys_of store) → IsStrictlySortedBy nat_cmp (keys_of types)
      → length types ≡ length store
  as_many_types store types keeps rising types_rise = ap length (types_are store types keeps rising types_rise) ∙ typed_length store
