-- The path of an object, looked up as it is, leads to the object again.
use Rattle.std.proofs.Common.{◌≡◌, ◌≢◌, ◌∙◌, ℕ, zero, suc, ◌<◌, ◌≤◌, ◌==◌, Bool, true, false, ◌&&◌, not, nat_lt, List, [], ◌∷◌, ◌++◌, append-nil, append_assoc, length, take, drop, get_or, find, All, Contains, Option, None, Some, MatchOption, option_map, cond, if◌then◌else◌, codes, nat_eq, bytes_eq, inl, inr, ◌⊎◌, refl, ap, sym, subst, arith, eq-eqb, eqb-true}
use Rattle.std.specs.List.{starts_with}
use Rattle.std.specs.Option.{option_and_then, option_or}
use Rattle.std.specs.Cmp.Lexicographic.{bytes_decides}
use Rattle.std.proofs.lemmas.Bool.{and_from, false≢true, cases_order}
use Rattle.std.proofs.lemmas.List.{get_or_default, take-append-drop}
use Rattle.std.proofs.lemmas.List.Elements.{All-nil, All-push, All-head}
use Rattle.ob_base.specs.declared.status.Status.TheVariants.{Success, InvalidHandle, ObjectPathSyntaxBad, NameTooLong, ProcessGone}
use Rattle.ob_base.specs.declared.status.Status.{Status}
use Rattle.ob_base.specs.Handle.{key_of}
use Rattle.ob_model.specs.declared.reply.Answer.{Answer}
use Rattle.ob_model.specs.declared.reply.Answer.TheVariants.{Done, Ticket}
use Rattle.ob_model.specs.declared.reply.Given.{Given}
use Rattle.ob_model.specs.declared.reply.Given.TheVariants.{Nothing, Handle, Text, Process, Page}
use Rattle.ob_model.specs.declared.state.Held.{Held}
use Rattle.ob_model.specs.declared.state.Body.{Body}
use Rattle.ob_model.specs.declared.state.Body.TheVariants.{Directory, Link, Other}
use Rattle.ob_model.specs.declared.state.Row.{Row}
use Rattle.ob_model.specs.Names.{longest_name, separator, IsComponent, IsRest, joined}
use Rattle.ob_model.specs.Naming.{row_of, IsWayUp, names_joined, path_text, TellsName}
use Rattle.ob_model.specs.Laws.{IsFoundRow, as_it_is}
use Rattle.ob_model.specs.Looks.{At, Parse, Refused, Reached, Over, named_or_mismatch, at_body, IsNext, Looks, LooksUp}
use Rattle.ob_model.specs.Paths.{Origin, InDirectory, IsPath, IsReach, is_match, found, named_object, entry, origin_of}
use Rattle.ob_model.specs.Procedures.{Procedures}
use Rattle.ob_model.specs.Sound.{IsSound, IsDirectory, Stands, is_barred}
use Rattle.ob_model.specs.Refusals.{gives, answers, IsRefused, Unless}
use Rattle.ob_model.specs.State.{State, root_id, body_of, is_live, held_of}
use Rattle.ob_model.specs.Step.{QueriesName}
use Rattle.ob_model.proofs.Earliest.{found_least}
use Rattle.ob_model.proofs.Places.{IsComponent-from_test, own_name}
use Rattle.ob_model.proofs.SoundPaths.{find_of, of_some, body_from_stands, stands_from_directory}
use Rattle.ob_model.proofs.Splits.{first_unique}
use Rattle.ob_model.proofs.Walk.{place_behind-in_directory}
use Rattle.ob_model.proofs.Onward.{IsPath-push}

-- what can't be true is false
never : (b : Bool) → (b ≡ true → ⊥) → b ≡ false
never true h = absurd (h refl)
never false h = refl

-- ---- texts

-- the names on a way up, the last first
abbrev names_down : List (List ℕ) → List (List ℕ)
names_down [] = []
names_down (c ∷ cs) = names_down cs ++ c ∷ []

-- a name more at the end
joined-push : (cs : List (List ℕ)) (c : List ℕ) → joined (cs ++ c ∷ []) ≡ joined cs ++ separator ∷ c
joined-push [] c = append-nil (separator ∷ c)
joined-push (d ∷ cs) c = ap (λ (text : List ℕ). (separator ∷ d) ++ text) (joined-push cs c) ∙ sym (append_assoc (separator ∷ d) (joined cs) (separator ∷ c))

joined-down : (cs : List (List ℕ)) → names_joined cs ≡ joined (names_down cs)
joined-down [] = refl
joined-down (c ∷ cs) = ap (λ (text : List ℕ). text ++ separator ∷ c) (joined-down cs) ∙ sym (joined-push (names_down cs) c)

-- there is one where there was one
some_down : (c : List ℕ) (cs : List (List ℕ)) → names_down (c ∷ cs) ≡ [] → ⊥
some_down c cs e = go (names_down cs) e
  where
    go : (ds : List (List ℕ)) → ds ++ c ∷ [] ≡ [] → ⊥
    go [] e = cc
    go (d ∷ ds) e = cc

-- a text whose first component isn't `??` begins at the root
module _ (c rest : List ℕ) (component : IsComponent c) (bounded : IsRest rest) (other : c ≢ codes "??") where
  abbrev whole : List ℕ
  whole = (separator ∷ c) ++ rest

  first_is : (others : List ℕ) → IsRest others → c ++ rest ≡ codes "??" ++ others → ⊥
  first_is others after e = other (first_unique c (codes "??") rest others component.1 (IsComponent-from_test (codes "??") refl).1 bounded after e).0

  not_root : bytes_eq whole (codes "\\") ≡ false
  not_root = never (bytes_eq whole (codes "\\")) (λ h. let e = (bytes_decides whole (codes "\\")).0 h in go c component.0 (cc))
    where
      go : (b : List ℕ) → b ≢ [] → b ++ rest ≡ [] → ⊥
      go [] some e = some refl
      go (x ∷ b) some e = cc

  not_view : bytes_eq whole (codes "\\??") ≡ false
  not_view = never (bytes_eq whole (codes "\\??")) (λ h. let e = (bytes_decides whole (codes "\\??")).0 h in first_is [] tt (cc))

  not_below : starts_with nat_eq whole (codes "\\??\\") ≡ false
  not_below =
      never (starts_with nat_eq whole (codes "\\??\\"))
      (λ h.
      let e = (bytes_decides (codes "\\??\\") (take 4 whole)).0 h in
      let joins : separator ∷ (c ++ rest) ≡ separator ∷ (codes "??" ++ separator ∷ drop 4 whole) = sym (take-append-drop 4 whole) ∙ ap (λ (front : List ℕ). front ++ drop 4 whole) (sym e) in
      first_is (separator ∷ drop 4 whole) refl (cc))

  at_root : {K T F I : Type 0} (s : State K T F I) (p : ℕ) (create : Bool) → origin_of s p create whole ≡ Some (InDirectory root_id, whole)
  at_root s p create = rw (not_root, not_view, not_below) refl

-- ---- the row of an object is found in its directory

-- what is found passes
passes : {X : Type 0} (test : X → Bool) (xs : List X) (x : X) → find test xs ≡ Some x → test x ≡ true
passes test [] x e = cc
passes {X} test (y ∷ xs) x e = go (test y) refl e (passes test xs x)
  where
    go : (b : Bool) → test y ≡ b → cond b (Some y) (find test xs) ≡ Some x → (find test xs ≡ Some x → test x ≡ true) → test x ≡ true
    go true is e rest = let same : y ≡ x = cc in ap test (sym same) ∙ is
    go false is e rest = rest e

-- each element is in its list
all_in : {X : Type 0} (xs : List X) → All (Contains xs) xs
all_in xs k d within = (k, within, get_or_default xs k (get_or xs k d) d within)

module _ {K T F I : Type 0} (s : State K T F I) (sound : IsSound s) where
  -- of two rows at one place the later one would have the name of the earlier one
  found_one : (r q : Row) → Contains s.rows r → IsFoundRow s r.directory r.name false q → q ≡ r
  found_one r q (k, within, at) first = go first.stands
    where
      own : is_match r.directory r.name false r ≡ true
      own = and_from (r.directory == r.directory) _ (eq-eqb r.directory r.directory refl) (own_name r.name)

      go : Contains s.rows q → q ≡ r
      go (j, below, there) = order (cases_order j k)
        where
          there' : get_or s.rows j r ≡ q
          there' = get_or_default s.rows j r q below ∙ there

          order : (j ≡ k) ⊎ ((j < k) ⊎ (k < j)) → q ≡ r
          order (inl same) = sym there' ∙ ap (λ (n : ℕ). get_or s.rows n r) same ∙ at
          order (inr (inl less)) =
              let apart : is_match (get_or s.rows k r).directory (get_or s.rows k r).name false (get_or s.rows j r) ≡ false = sound.rows.apart j k r less within in
              absurd (false≢true (sym (subst (λ (x : Row). is_match x.directory x.name false q ≡ false) at
              (subst (λ (x : Row). is_match (get_or s.rows k r).directory (get_or s.rows k r).name false x ≡ false) there' apart)) ∙ first.matches))
          order (inr (inr less)) =
              let rising : (get_or s.rows k r).stamp < (get_or s.rows j r).stamp = sound.rows.rising k j r less below in
              let later : r.stamp < q.stamp = subst (λ (x : Row). x.stamp < q.stamp) at (subst (λ (x : Row). (get_or s.rows k r).stamp < x.stamp) there' rising) in
              let least : q.stamp ≤ r.stamp = subst (λ (x : Row). is_match r.directory r.name false x ≡ true → q.stamp ≤ x.stamp) at (first.least k r within) own in
              absurd (omega (arith, later, least))

  found_itself : (r : Row) → Contains s.rows r → found s r.directory r.name false ≡ Some r
  found_itself r (k, within, at) = go (found s r.directory r.name false) (found_least s r.directory r.name false)
    where
      go : (o : Option Row) → MatchOption o (All (λ q. is_match r.directory r.name false q ≡ false) s.rows) (IsFoundRow s r.directory r.name false) → o ≡ Some r
      go None none =
          let other : is_match r.directory r.name false r ≡ false = subst (λ (x : Row). is_match r.directory r.name false x ≡ false) at (none k r within) in
          absurd (false≢true (sym other ∙ and_from (r.directory == r.directory) _ (eq-eqb r.directory r.directory refl) (own_name r.name)))
      go (Some q) first = ap Some (found_one r q (k, within, at) first)

  -- ---- the way down

  -- by an own entry, which is seen first too, a path goes on with one component more
  path_push : (root : ℕ) (cs : List (List ℕ)) (d m : ℕ) (c : List ℕ) (own : Bool) → IsPath s (InDirectory root) cs false false d → IsDirectory s d
      → option_map (λ r. r.object) (found s d c false) ≡ Some m → IsPath s (InDirectory root) (cs ++ c ∷ []) own false m
  path_push root cs d m c own path directory named =
      IsPath-push s (InDirectory root) cs c own false d m path directory
      (subst (λ (x : Origin). entry s x c own false ≡ Some m) (sym (place_behind-in_directory s root cs false false d path)) (by_own own))
    where
      seen_first : (r : Option Row) (other : Option Row) → option_map (λ r. r.object) r ≡ Some m → option_map (λ r. r.object) (option_or r other) ≡ Some m
      seen_first None other e = cc
      seen_first (Some r) other e = e

      by_own : (own : Bool) → named_object s d c own false ≡ Some m
      by_own true = named
      by_own false = seen_first (found s d c false) _ named

  -- the row of an object is one of the rows, and names it
  row_stands : (o : ℕ) (r : Row) → row_of s o ≡ Some r → Contains s.rows r
  row_stands o r e = of_some (Contains s.rows) (row_of s o) r e (find_of (Contains s.rows) (λ x. x.object == o) s.rows (all_in s.rows))

  row_names : (o : ℕ) (r : Row) → row_of s o ≡ Some r → r.object ≡ o
  row_names o r e = eqb-true r.object o (passes (λ x. x.object == o) s.rows r e)

  -- what holds of each row holds of it
  of_row : (P : Row → Type 0) → All P s.rows → (o : ℕ) (r : Row) → row_of s o ≡ Some r → P r
  of_row P all o r e = of_some P (row_of s o) r e (find_of P (λ x. x.object == o) s.rows all)

  -- the names on a way up lead down again, by own entries and by what is seen
  way_down : (o : ℕ) (cs : List (List ℕ)) (own : Bool) → IsWayUp s o cs → IsPath s (InDirectory root_id) (names_down cs) own false o
  way_down o [] own up = up
  way_down o (c ∷ cs) own up =
      let r = up.1.0 in
      let e = up.1.1 in
      path_push root_id (names_down cs) r.directory o c own (way_down r.directory cs false up.1.3) (of_row (λ x. IsDirectory s x.directory) sound.rows.inside o r e)
      (ap (λ (name : List ℕ). option_map (λ (x : Row). x.object) (found s r.directory name false)) up.1.2 ∙ ap (option_map (λ x. x.object)) (found_itself r (row_stands o r e)) ∙ ap Some (row_names o r e))

  components_down : (o : ℕ) (cs : List (List ℕ)) → IsWayUp s o cs → All IsComponent (names_down cs)
  components_down o [] up = All-nil IsComponent
  components_down o (c ∷ cs) up =
      All-push IsComponent (names_down cs) c (components_down up.1.0.directory cs up.1.3)
      (subst IsComponent (sym up.1.2) (of_row (λ x. IsComponent x.name) sound.rows.named o up.1.0 up.1.1))

  -- the object of a way up is there
  way_stands : (o : ℕ) (cs : List (List ℕ)) → IsWayUp s o cs → Stands s o
  way_stands o [] up = subst (Stands s) (sym up) (stands_from_directory s root_id sound.objects.root)
  way_stands o (c ∷ cs) up = subst (Stands s) (row_names o up.1.0 up.1.1) (of_row (λ x. Stands s x.object) sound.rows.standing o up.1.0 up.1.1)

  -- no way down from the root begins with `??`
  first_is_other : (o : ℕ) (ups : List (List ℕ)) (c : List ℕ) (cs : List (List ℕ)) → IsWayUp s o ups → names_down ups ≡ c ∷ cs → c ≢ codes "??"
  first_is_other o [] c cs up e same = cc
  first_is_other o (u ∷ []) c cs up e same =
      let r = up.1.0 in
      let first : u ≡ c = cc in
      let plain = of_row (λ x. is_barred x.directory x.name ≡ false) sound.rows.plain o r up.1.1 in
      let barred = and_from (r.directory == root_id) (bytes_eq r.name (codes "??")) (eq-eqb r.directory root_id up.1.3) ((bytes_decides r.name (codes "??")).1 (sym up.1.2 ∙ first ∙ same)) in
      false≢true (sym plain ∙ barred)
  first_is_other o (u ∷ v ∷ us) c cs up e same = go (names_down (v ∷ us)) refl e (λ d ds f. first_is_other up.1.0.directory (v ∷ us) d ds up.1.3 f)
    where
      go : (ds : List (List ℕ)) → names_down (v ∷ us) ≡ ds → ds ++ u ∷ [] ≡ c ∷ cs
          → ((d : List ℕ) (ds : List (List ℕ)) → names_down (v ∷ us) ≡ d ∷ ds → d ≢ codes "??") → ⊥
      go [] f e more = some_down v us f
      go (d ∷ ds) f e more = let first : d ≡ c = cc in more d ds f (first ∙ same)

  module _ (g : Procedures K T F I) (p : ℕ) where
    -- where nothing is left of a name that is looked up as it is, its object is what it ends with
    next_is_over : (n o : ℕ) → Stands s o → IsNext g s as_it_is n (Reached o []) (Over (At o))
    next_is_over n o stands = go (body_of s o) (body_from_stands s o stands)
      where
        there : (body : Body F I) → Over (At o) ≡ at_body g as_it_is o body [] n
        there (Directory shadow) = refl
        there (Link target) = refl
        there (Other face inner) = other (g.parses (g.kind_of face))
          where
            other : (b : Bool) → Over (At o) ≡ Over (if b && false then Parse o [] n else named_or_mismatch o [])
            other true = refl
            other false = refl

        go : (x : Option (Body F I)) → (body : Body F I) × (x ≡ Some body) → MatchOption x ⊥ (λ body. Over (At o) ≡ at_body g as_it_is o body [] n)
        go None h = absurd (let e = h.1 in cc)
        go (Some body) h = there body

    looks_at : (n o : ℕ) (text : List ℕ) → Stands s o → IsReach s (InDirectory root_id) text true false o [] → Looks g s p as_it_is n (InDirectory root_id) text (At o)
    looks_at zero o text stands reach = (Reached o [], Over (At o), reach, next_is_over zero o stands, refl)
    looks_at (suc n) o text stands reach = (Reached o [], Over (At o), reach, next_is_over (suc n) o stands, refl)

    -- components that lead from the root to an object, as a name
    names_itself : (n o : ℕ) (cs : List (List ℕ)) → Stands s o → All IsComponent cs → IsPath s (InDirectory root_id) cs true false o
        → ((c : List ℕ) (ds : List (List ℕ)) → cs ≡ c ∷ ds → c ≢ codes "??") → (cs ≡ [] → ⊥) → LooksUp g s p as_it_is n None (joined cs) (At o)
    names_itself n o [] stands each path other some = absurd (some refl)
    names_itself n o (c ∷ cs) stands each path other some =
        subst (λ (at : Option (Origin × List ℕ)). MatchOption at (At o ≡ Refused ObjectPathSyntaxBad) (λ at. Looks g s p as_it_is n at.0 at.1 (At o)))
        (sym (at_root c (joined cs) (All-head IsComponent c cs each) (after cs) (other c cs refl) s p true))
        (looks_at n o (joined (c ∷ cs)) stands (c ∷ cs, record { each = each; whole = sym (append-nil (joined (c ∷ cs))); bounded = tt }, path, inr refl))
      where
        after : (cs : List (List ℕ)) → IsRest (joined cs)
        after [] = tt
        after (c ∷ cs) = refl

    pub path_names : (o : ℕ) (cs : List (List ℕ)) (n : ℕ) → IsWayUp s o cs → LooksUp g s p as_it_is n None (path_text cs) (At o)
    path_names o [] n up = looks_at n o [] (way_stands o [] up) ([], record { each = All-nil IsComponent; whole = refl; bounded = tt }, up, inr refl)
    path_names o (c ∷ cs) n up =
        subst (λ (text : List ℕ). LooksUp g s p as_it_is n None text (At o)) (sym (joined-down (c ∷ cs)))
        (names_itself n o (names_down (c ∷ cs)) (way_stands o (c ∷ cs) up) (components_down o (c ∷ cs) up) (way_down o (c ∷ cs) true up)
        (λ d ds e. first_is_other o (c ∷ cs) d ds up e) (some_down c cs))

-- the status of an answer, and the text that it gives
abbrev status_of : Answer → Status
status_of (Done reply) = reply.status
status_of (Ticket number) = Success

abbrev text_in : Given → List ℕ
text_in Nothing = []
text_in (Handle value) = []
text_in (Text text) = text
text_in (Process number values) = []
text_in (Page entries context) = []

abbrev text_of : Answer → List ℕ
text_of (Done reply) = text_in reply.given
text_of (Ticket number) = []

module _ {K T F I : Type 0} (g : Procedures K T F I) (s t : State K T F I) (sound : IsSound s) (p handle : ℕ) (text : List ℕ) (q n : ℕ) (some : text ≢ []) where
  abbrev Named : Type 0
  Named = (h : Held) × (option_and_then (held_of s p) (key_of handle) ≡ Some h) × LooksUp g s q as_it_is n None text (At h.object)

  -- a path that is told names its object
  told_names : (o : ℕ) → TellsName s o (gives Success (Text text)) → LooksUp g s q as_it_is n None text (At o)
  told_names o (inl (cs, up, told)) = go (nat_lt longest_name (length (path_text cs))) told
    where
      go : (long : Bool) → gives Success (Text text) ≡ (if long then answers NameTooLong else gives Success (Text (path_text cs))) → LooksUp g s q as_it_is n None text (At o)
      go true e = absurd (let differ : Success ≡ NameTooLong = ap status_of e in cc)
      go false e = subst (λ (name : List ℕ). LooksUp g s q as_it_is n None name (At o)) (sym (ap text_of e)) (path_names s sound g q o cs n up)
  told_names o (inr (none, told)) = absurd (some (ap text_of told))

  pub answer_names : QueriesName s p handle (gives Success (Text text)) t → Named
  answer_names h = live (is_live s p) h
    where
      Tells : Held → Type 0
      Tells x = TellsName s x.object (gives Success (Text text)) × (t ≡ s)

      found : (o : Option Held) → option_and_then (held_of s p) (key_of handle) ≡ o → MatchOption o (IsRefused s InvalidHandle (gives Success (Text text)) t) Tells → Named
      found None is h = absurd (let differ : Success ≡ InvalidHandle = ap status_of h.0 in cc)
      found (Some x) is h = (x, is, told_names x.object h.0)

      live : (b : Bool) → Unless ((not b, ProcessGone) ∷ []) s (gives Success (Text text)) t
          (MatchOption (option_and_then (held_of s p) (key_of handle)) (IsRefused s InvalidHandle (gives Success (Text text)) t) Tells) → Named
      live true h = found (option_and_then (held_of s p) (key_of handle)) refl h
      live false h = absurd (let differ : Success ≡ ProcessGone = ap status_of h.0 in cc)
