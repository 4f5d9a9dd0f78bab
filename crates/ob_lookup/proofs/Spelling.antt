-- Components in another spelling: where the case of letters doesn't count, they lead to the same.
use Rattle.std.proofs.Common.{◌≡◌, ◌≢◌, ℕ, ◌==◌, Bool, true, false, ◌&&◌, List, [], ◌∷◌, ◌++◌, map, filter, eqb, All, refl, ap, sym, ◌∙◌, subst, arith}
use Rattle.std.proofs.lemmas.Bool.Decides.{nat_tests}
use Rattle.std.proofs.lemmas.List.Elements.{All-nil, All-cons, All-head, All-tail}
use Rattle.std.specs.Cmp.Derive.Mapped.{pointwise-map}
use Rattle.std.specs.Cmp.Lexicographic.{pointwise}
use Rattle.std.specs.Option.{option_map, option_and_then, option_or}
use Rattle.ob_model.specs.declared.state.Row.{Row}
use Rattle.ob_model.specs.Names.{separator, upper, same_name, joined, IsComponent}
use Rattle.ob_model.specs.State.{State, global_id, shadow_of}
use Rattle.ob_model.specs.Paths.{InDirectory, IsPath, is_none_left, earliest, found, named_object}
use Rattle.ob_prefixes.specs.Prefix.{folded, entry_from, LeadsFrom}

-- the parts of a list that is mapped alike
map_parts : (f : ℕ → ℕ) (a b text : List ℕ) → map f (a ++ b) ≡ map f text
    → (c : List ℕ) × (d : List ℕ) × (text ≡ c ++ d) × (map f a ≡ map f c) × (map f b ≡ map f d)
map_parts f [] b text e = ([], text, refl, refl, e)
map_parts f (x ∷ a) b [] e = cc
map_parts f (x ∷ a) b (y ∷ text) e =
    let head : f x ≡ f y = cc in
    let tail : map f (a ++ b) ≡ map f text = cc in
    let parts = map_parts f a b text tail in
    (y ∷ parts.0, parts.1, ap (λ (l : List ℕ). y ∷ l) parts.2, (λ i. head i ∷ parts.3 i), parts.4)

-- a separator is no letter
only_separator : (b : ℕ) → upper separator ≡ upper b → b ≡ separator
only_separator b e = grind (arith, nat_tests, e)

-- a component in another spelling is one
inner_spelled : (c d : List ℕ) → map upper c ≡ map upper d → All (λ b. b ≢ separator) c → All (λ b. b ≢ separator) d
inner_spelled c [] e each = All-nil (λ b. b ≢ separator)
inner_spelled [] (y ∷ d) e each = cc
inner_spelled (x ∷ c) (y ∷ d) e each =
    let head : upper x ≡ upper y = cc in
    let tail : map upper c ≡ map upper d = cc in
    All-cons (λ b. b ≢ separator) y d
    (λ is. All-head (λ b. b ≢ separator) x c each (only_separator x (ap upper (sym is) ∙ sym head)))
    (inner_spelled c d tail (All-tail (λ b. b ≢ separator) x c each))

component_spelled : (c d : List ℕ) → map upper c ≡ map upper d → IsComponent c → IsComponent d
component_spelled c d e component = (some c d e component.0, inner_spelled c d e component.1)
  where
    some : (c d : List ℕ) → map upper c ≡ map upper d → c ≢ [] → d ≢ []
    some [] d e not = absurd (not refl)
    some (x ∷ c) [] e not = cc
    some (x ∷ c) (y ∷ d) e not = λ bad. cc

-- the components, in the spelling of a text that is equal to what they make
respelled : (cs : List (List ℕ)) (text : List ℕ) → All IsComponent cs → map upper (joined cs) ≡ map upper text
    → (ds : List (List ℕ)) × (joined ds ≡ text) × All IsComponent ds × (map (map upper) cs ≡ map (map upper) ds)
respelled [] [] each e = ([], refl, All-nil IsComponent, refl)
respelled [] (x ∷ text) each e = cc
respelled (c ∷ cs) [] each e = cc
respelled (c ∷ cs) (x ∷ text) each e =
    let head : upper separator ≡ upper x = cc in
    let tail : map upper (c ++ joined cs) ≡ map upper text = cc in
    let parts = map_parts upper c (joined cs) text tail in
    let more = respelled cs parts.1 (All-tail IsComponent c cs each) parts.4 in (
      parts.0 ∷ more.0,
      (λ i. sym (only_separator x head) i ∷ ((ap (λ (l : List ℕ). parts.0 ++ l) more.1 ∙ sym parts.2) i)),
      All-cons IsComponent parts.0 more.0 (component_spelled c parts.0 parts.3 (All-head IsComponent c cs each)) more.2,
      (λ i. parts.3 i ∷ more.3 i),
    )

-- components are equal, one by one
abbrev pub AreSpelled : Bool → List (List ℕ) → List (List ℕ) → Type 0
AreSpelled true cs ds = map (map upper) cs ≡ map (map upper) ds
AreSpelled false cs ds = cs ≡ ds

-- the components of a text whose bytes, as a key has them, are those of others
pub spelled_as : (fold : Bool) (cs : List (List ℕ)) (front : List ℕ) → All IsComponent cs → folded fold (joined cs) ≡ separator ∷ folded fold front
    → (ds : List (List ℕ)) × (joined ds ≡ separator ∷ front) × All IsComponent ds × AreSpelled fold cs ds
spelled_as true cs front each e = respelled cs (separator ∷ front) each e
spelled_as false cs front each e = (cs, e, each, refl)

-- what a key has of a text
pub folded_text : (fold : Bool) (front : List ℕ) → folded fold (separator ∷ front) ≡ separator ∷ folded fold front
folded_text true front = refl
folded_text false front = refl

module _ {K T F I : Type 0} (s : State K T F I) where
  -- a component in another spelling names the same
  same_spelled : (name c d : List ℕ) → map upper c ≡ map upper d → same_name true name c ≡ same_name true name d
  same_spelled name c d e = sym (pointwise-map upper eqb name c) ∙ ap (pointwise eqb (map upper name)) e ∙ pointwise-map upper eqb name d

  found_spelled : (d : ℕ) (a b : List ℕ) → map upper a ≡ map upper b → found s d a true ≡ found s d b true
  found_spelled d a b e = λ i. earliest (filter (λ (r : Row). (r.directory == d) && same_spelled r.name a b e i) s.rows)

  named_spelled : (d : ℕ) (a b : List ℕ) (own : Bool) → map upper a ≡ map upper b → named_object s d a own true ≡ named_object s d b own true
  named_spelled d a b true e = λ i. option_map (λ (r : Row). r.object) (found_spelled d a b e i)
  named_spelled d a b false e = λ i. option_map (λ (r : Row). r.object) (option_or (found_spelled d a b e i) (option_and_then (λ shadow. found_spelled shadow a b e i) (shadow_of s d)))

  entry_spelled : (in_view : Bool) (d : ℕ) (a b : List ℕ) → map upper a ≡ map upper b → entry_from s in_view d a true ≡ entry_from s in_view d b true
  entry_spelled false d a b e = named_spelled d a b false e
  entry_spelled true d a b e = λ i. option_or (named_spelled d a b false e i) (named_spelled global_id a b false e i)

  -- as many are left
  left_spelled : (cs ds : List (List ℕ)) → map (map upper) cs ≡ map (map upper) ds → is_none_left cs ≡ is_none_left ds
  left_spelled [] [] e = refl
  left_spelled [] (d ∷ ds) e = cc
  left_spelled (c ∷ cs) [] e = cc
  left_spelled (c ∷ cs) (d ∷ ds) e = refl

  path_spelled : (m : ℕ) (cs ds : List (List ℕ)) (o : ℕ) → map (map upper) cs ≡ map (map upper) ds → IsPath s (InDirectory m) cs false true o → IsPath s (InDirectory m) ds false true o
  path_spelled m [] [] o e path = path
  path_spelled m [] (d ∷ ds) o e path = cc
  path_spelled m (c ∷ cs) [] o e path = cc
  path_spelled m (c ∷ cs) (d ∷ ds) o e path =
      let head : map upper c ≡ map upper d = cc in
      let tail : map (map upper) cs ≡ map (map upper) ds = cc in
      (path.0, path.1, ap (λ b. named_object s m d (b && false) true) (sym (left_spelled cs ds tail)) ∙ sym (named_spelled m c d (is_none_left cs && false) head) ∙ path.2, path_spelled path.0 cs ds o tail path.3)

  folded_leads : (in_view : Bool) (place : ℕ) (cs ds : List (List ℕ)) (o : ℕ) → map (map upper) cs ≡ map (map upper) ds
      → LeadsFrom s in_view place cs true o → LeadsFrom s in_view place ds true o
  folded_leads in_view place [] ds o e leads = absurd leads
  folded_leads in_view place (c ∷ cs) [] o e leads = cc
  folded_leads in_view place (c ∷ cs) (d ∷ ds) o e leads =
      let head : map upper c ≡ map upper d = cc in
      let tail : map (map upper) cs ≡ map (map upper) ds = cc in
      (leads.0, leads.1, sym (entry_spelled in_view place c d head) ∙ leads.2, path_spelled leads.0 cs ds o tail leads.3)

  -- they lead to the same
  pub leads_spelled : (in_view : Bool) (place : ℕ) (fold : Bool) (cs ds : List (List ℕ)) (o : ℕ) → AreSpelled fold cs ds
      → LeadsFrom s in_view place cs fold o → LeadsFrom s in_view place ds fold o
  leads_spelled in_view place true cs ds o e leads = folded_leads in_view place cs ds o e leads
  leads_spelled in_view place false cs ds o e leads = subst (λ (x : List (List ℕ)). LeadsFrom s in_view place x false o) e leads
