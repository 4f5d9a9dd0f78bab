-- A prefix in a cache leads to its directory: by a walk that begins with it, and by one that came there.
use Rattle.std.proofs.Common.{◌≡◌, ◌∙◌, ℕ, suc, ◌==◌, Bool, true, false, List, [], ◌∷◌, ◌++◌, length, filter, not, ◌||◌, ◌&&◌, Option, None, Some, IsSome, All, Result, Ok, Err, OnOk, OnErr, if◌then◌else◌, length-append, inl, inr, refl, ap, sym, subst, arith, eqb-true}
use Rattle.std.specs.Option.{option_map, option_and_then, option_map_or, option_or}
use Rattle.lru.specs.LruCache.{lru_cache}
use Rattle.lru.proofs.CallerLemmas.{Contains-lookup, Contains-promoted, Contains-put_entries}
use Rattle.lru.proofs.Splits.{Contains-nil}
use Rattle.std.specs.Map.{lookup}
use Rattle.ob_model.specs.declared.state.Body.{Body}
use Rattle.ob_model.specs.declared.state.Body.TheVariants.{Directory, Link, Other}
use Rattle.ob_model.specs.declared.state.Object.{Object}
use Rattle.ob_model.specs.declared.state.Row.{Row}
use Rattle.ob_model.specs.Names.{separator, joined, IsComponent}
use Rattle.ob_model.specs.State.{State, global_id, body_of, is_directory, is_directory_among, is_directory_body, shadow_in, shadow_of, shadow_among}
use Rattle.ob_model.specs.Paths.{IsPath, is_none_left, earliest, is_match, found, named_object, place_behind}
use Rattle.ob_model.specs.Paths as paths
use Rattle.ob_devmap.specs.declared.view.View.{View}
use Rattle.ob_devmap.specs.View.{IsViewOf}
use Rattle.ob_objects.specs.Store.{Entries, Shows, directory_at, entries_at, objects_of, rows_of}
use Rattle.ob_prefixes.specs.declared.prefix.Prefix.{Prefix}
use Rattle.ob_lookup.specs.declared.start.Standpoint.{Standpoint}
use Rattle.ob_lookup.specs.declared.start.Standpoint.TheVariants.{InDirectory, InView}
use Rattle.ob_lookup.specs.declared.start.Start.{Start}
use Rattle.ob_prefixes.specs.Cache.{Kept, kept, after_find, after_put}
use Rattle.ob_lookup.specs.Prefixes.{is_view, IsPrefixAt, ArePaths, PathsAreShown, NoneArePaths}
use Rattle.ob_lookup.specs.Closed.{IsViewThere}
use Rattle.ob_lookup.specs.Onward.{Led, Leads, reached_at, IsKeyOf}
use Rattle.ob_prefixes.specs.Prefix.{folded, is_local, same_prefix, entry_from, LeadsFrom, LeadsTo}
use Rattle.ob_prefixes.specs.PrefixLaws.{AreSame, same_prefix-parts}
use Rattle.ob_lookup.specs.Walk.{rest_of, directory_of, origin_at, shadow_at, text_of}
use Rattle.ob_lookup.proofs.Seen.{local_seen, entries_there, is_directory_there, shadow_shown, directory_stored}
use Rattle.ob_lookup.proofs.Spelling.{spelled_as, folded_text, leads_spelled}

-- what is no directory has no shadow
no_shadow : {K T F I : Type 0} (s : State K T F I) (d : ℕ) → is_directory s d ≡ false → shadow_of s d ≡ None
no_shadow {F = F} {I = I} s d none = go (body_of s d) none
  where
    go : (o : Option (Body F I)) → option_map_or is_directory_body o false ≡ false → option_and_then shadow_in o ≡ None
    go None e = refl
    go (Some (Directory shadow)) e = cc
    go (Some (Link target)) e = refl
    go (Some (Other face inner)) e = refl

-- what is there by one or else by another is there still, where the other still has it
or_still : (a b b' : Option ℕ) (m : ℕ) → option_or a b ≡ Some m → (b ≡ Some m → b' ≡ Some m) → option_or a b' ≡ Some m
or_still None b b' m e stays = stays e
or_still (Some x) b b' m e stays = e

-- ---- two states of the same rows, where each directory of one is a directory of the other, of the same shadow

abbrev pub KeepDirectories : {K T L U F I : Type 0} → State K T F I → State L U F I → Type 0
KeepDirectories s r = (d : ℕ) → is_directory s d ≡ true → (is_directory r d ≡ true) × (shadow_of r d ≡ shadow_of s d)

module _ {K T L U F I : Type 0} (s : State K T F I) (r : State L U F I) (directories : KeepDirectories s r) (rows : s.rows ≡ r.rows) where
  found_shown : (d : ℕ) (c : List ℕ) (fold : Bool) → found s d c fold ≡ found r d c fold
  found_shown d c fold = ap (λ (l : List Row). earliest (filter (is_match d c fold) l)) rows

  -- a directory names what it named
  named_shown : (d : ℕ) (c : List ℕ) (own fold : Bool) → is_directory s d ≡ true → named_object s d c own fold ≡ named_object r d c own fold
  named_shown d c true fold there = ap (option_map (λ (x : Row). x.object)) (found_shown d c fold)
  named_shown d c false fold there =
      (λ i. option_map (λ (x : Row). x.object) (option_or (found_shown d c fold i) (option_and_then (λ shadow. found_shown shadow c fold i) ((sym (directories d there).1) i))))

  -- what it named, be it a directory or not, it names
  named_still : (d : ℕ) (c : List ℕ) (fold : Bool) (m : ℕ) → named_object s d c false fold ≡ Some m → named_object r d c false fold ≡ Some m
  named_still d c fold m named = at (is_directory s d) refl
    where
      own : (o : Option Row) → found s d c fold ≡ o → option_map (λ (x : Row). x.object) (option_or o None) ≡ Some m → named_object r d c false fold ≡ Some m
      own None here e = cc
      own (Some x) here e =
          ap (λ (o : Option Row). option_map (λ (y : Row). y.object) (option_or o (option_and_then (λ shadow. found r shadow c fold) (shadow_of r d)))) (sym (found_shown d c fold) ∙ here) ∙ e

      at : (t : Bool) → is_directory s d ≡ t → named_object r d c false fold ≡ Some m
      at true there = sym (named_shown d c false fold there) ∙ named
      at false none =
          own (found s d c fold) refl
          (ap (λ (o : Option ℕ). option_map (λ (y : Row). y.object) (option_or (found s d c fold) (option_and_then (λ shadow. found s shadow c fold) o))) (sym (no_shadow s d none)) ∙ named)

  entry_shown : (in_view : Bool) (d : ℕ) (c : List ℕ) (fold : Bool) (m : ℕ) → is_directory s d ≡ true → entry_from s in_view d c fold ≡ Some m → entry_from r in_view d c fold ≡ Some m
  entry_shown false d c fold m there named = sym (named_shown d c false fold there) ∙ named
  entry_shown true d c fold m there named =
      or_still (named_object r d c false fold) (named_object s global_id c false fold) (named_object r global_id c false fold) m
      (ap (λ (o : Option ℕ). option_or o (named_object s global_id c false fold)) (sym (named_shown d c false fold there)) ∙ named) (named_still global_id c fold m)

  path_shown : (m : ℕ) (cs : List (List ℕ)) (own fold : Bool) (o : ℕ) → IsPath s (paths.InDirectory m) cs own fold o → IsPath r (paths.InDirectory m) cs own fold o
  path_shown m [] own fold o path = path
  path_shown m (c ∷ cs) own fold o path =
      (path.0, (directories m path.1).0, sym (named_shown m c (is_none_left cs && own) fold path.1) ∙ path.2, path_shown path.0 cs own fold o path.3)

  -- components that lead there in the one do so in the other
  leads_shown : (in_view : Bool) (d : ℕ) (cs : List (List ℕ)) (fold : Bool) (o : ℕ) → LeadsFrom s in_view d cs fold o → LeadsFrom r in_view d cs fold o
  leads_shown in_view d [] fold o leads = leads
  leads_shown in_view d (c ∷ cs) fold o leads =
      (leads.0, (directories d leads.1).0, entry_shown in_view d c fold leads.0 leads.1 leads.2, path_shown leads.0 cs false fold o leads.3)

  prefix_shown : (prefix : Prefix) (o : ℕ) → LeadsTo s prefix o → LeadsTo r prefix o
  prefix_shown prefix o leads =
      (leads.0, leads.1, leads.2, leads_shown prefix.in_view prefix.place leads.0 prefix.fold o leads.3, (directories o leads.4).0)

-- the directories of two states of the same objects are the same
same_directories : {K T L U F I : Type 0} (s : State K T F I) (r : State L U F I) → s.objects ≡ r.objects → KeepDirectories s r
same_directories {F = F} {I = I} s r objects d there =
    (ap (λ (l : List (Object F I)). is_directory_among l d) (sym objects) ∙ there, ap (λ (l : List (Object F I)). shadow_among l d) (sym objects))

-- ---- prefixes that are the same

module _ {K T F I : Type 0} (s : State K T F I) where
  leads_moved : (v w : Bool) (d e : ℕ) (f g : Bool) (cs : List (List ℕ)) (o : ℕ) → v ≡ w → d ≡ e → f ≡ g → LeadsFrom s v d cs f o → LeadsFrom s w e cs g o
  leads_moved v w d e f g cs o views places folds leads =
      subst (λ (x : Bool). LeadsFrom s x e cs g o) views
      (subst (λ (x : ℕ). LeadsFrom s v x cs g o) places
      (subst (λ (x : Bool). LeadsFrom s v d cs x o) folds leads))

  -- they lead to the same
  leads_same : (a b : Prefix) (o : ℕ) → AreSame a b → LeadsTo s a o → LeadsTo s b o
  leads_same a b o same leads = (
    leads.0,
    leads.1,
    ap (λ (f : Bool). folded f (joined leads.0)) (sym same.fold) ∙ leads.2 ∙ ap (λ (x : List ℕ). separator ∷ x) same.bytes,
    leads_moved a.in_view b.in_view a.place b.place a.fold b.fold leads.0 o same.in_view same.place same.fold leads.3,
    leads.4,
  )

-- ---- a walk of a process

-- no component of a prefix is asked for by own entries alone
pub flag_off : (cs : List (List ℕ)) → (is_none_left cs && false) ≡ false
flag_off [] = refl
flag_off (c ∷ cs) = refl

module _ {K T F I : Type 0} (s : State K T F I) (p : ℕ) (view : View) (of : IsViewOf s p view) where
  -- what leads from a key's place is a path from the place of the walk
  leads_path : (at : Standpoint) (fold : Bool) (cs : List (List ℕ)) (o : ℕ) → LeadsFrom s (is_view at) (directory_of view at) cs fold o
      → IsPath s (origin_at p at) cs false fold o × (place_behind (origin_at p at) cs o ≡ paths.InDirectory o)
  leads_path at fold [] o leads = absurd leads
  leads_path (InDirectory id) fold (c ∷ cs) o leads = ((leads.0, leads.1, ap (λ b. named_object s id c b fold) (flag_off cs) ∙ leads.2, leads.3), refl)
  leads_path InView fold (c ∷ cs) o leads = (
    (
      leads.0,
      ap (is_directory s) (local_seen s p view of) ∙ leads.1,
      (λ i. option_or (named_object s (local_seen s p view of i) c (flag_off cs i) fold) (named_object s global_id c (flag_off cs i) fold)) ∙ leads.2,
      leads.3,
    ),
    refl,
  )

  -- and a path of some components leads from there
  path_leads : (at : Standpoint) (fold : Bool) (c : List ℕ) (cs : List (List ℕ)) (o : ℕ) → IsPath s (origin_at p at) (c ∷ cs) false fold o
      → LeadsFrom s (is_view at) (directory_of view at) (c ∷ cs) fold o
  path_leads (InDirectory id) fold c cs o path = (path.0, path.1, ap (λ b. named_object s id c b fold) (sym (flag_off cs)) ∙ path.2, path.3)
  path_leads InView fold c cs o path = (
    path.0,
    ap (is_directory s) (sym (local_seen s p view of)) ∙ path.1,
    sym (λ i. option_or (named_object s (local_seen s p view of i) c (flag_off cs i) fold) (named_object s global_id c (flag_off cs i) fold)) ∙ path.2,
    path.3,
  )

  -- what is kept under a prefix leads the walk to its last component
  pub led_by_kept : (start : Start) (create fold : Bool) (prefix found : Prefix) (last : List ℕ) (d : ℕ) → IsKeyOf view start fold prefix last
      → same_prefix prefix found ≡ true → LeadsTo s found d → Led s p start create fold (paths.InDirectory d) (separator ∷ last)
  led_by_kept start create fold prefix found last d key same found_leads =
      let is = key.3 in
      let leads = leads_same s found prefix d (turned (same_prefix-parts prefix found same)) found_leads in
      let text : folded fold (joined leads.0) ≡ separator ∷ folded fold key.0
      = ap (λ (f : Bool). folded f (joined leads.0)) (sym is.fold) ∙ leads.2 ∙ ap (λ (x : List ℕ). separator ∷ x) is.bytes in
      let spelled = spelled_as fold leads.0 key.0 leads.1 text in
      let path = leads_path start.place fold spelled.0 d
      (leads_spelled s (is_view start.place) (directory_of view start.place) fold leads.0 spelled.0 d spelled.3
      (leads_moved s prefix.in_view (is_view start.place) prefix.place (directory_of view start.place) prefix.fold fold leads.0 d is.in_view is.place is.fold leads.3)) in (
        spelled.0,
        record {
          each = spelled.2;
          whole = ap rest_of key.1 ∙ ap (λ (x : List ℕ). x ++ separator ∷ last) (sym spelled.1);
          bounded = refl;
        },
        path.0,
        path.1,
      )
    where
      turned : {a b : Prefix} → AreSame a b → AreSame b a
      turned same = record { place = sym same.place; in_view = sym same.in_view; fold = sym same.fold; bytes = sym same.bytes }

-- ---- a walk that came to the last component

-- a directory of a store is one of each state that shows it
is_directory_shown : {K T F I : Type 0} (store : Entries F I) (s : State K T F I) → Shows s store → (d : ℕ) → IsSome (directory_at store d) → is_directory s d ≡ true
is_directory_shown store s shows d inside =
    is_directory_there s store shows d (entries_at store d) (entries_there store d inside)

-- two texts with ends of one length have the same front
same_front : (a b c d : List ℕ) → a ++ b ≡ c ++ d → length b ≡ length d → a ≡ c
same_front [] b [] d e l = refl
same_front [] b (y ∷ c) d e l = let longer = ap length e in absurd (omega (arith, longer, l, length-append c d))
same_front (x ∷ a) b [] d e l = let longer = ap length e in absurd (omega (arith, longer, l, length-append a b))
same_front (x ∷ a) b (y ∷ c) d e l =
    let head : x ≡ y = cc in
    let tail : a ++ b ≡ c ++ d = cc in
    (λ i. head i ∷ same_front a b c d tail l i)

-- where it is one, the walk stands in that directory, and so many bytes are left
pub reached_parts : (at : Standpoint) (behind : Option (List ℕ)) (n d : ℕ) → reached_at at behind n ≡ Some d
    → (rest : List ℕ) × (at ≡ InDirectory d) × (behind ≡ Some rest) × (length rest ≡ n)
reached_parts InView behind n d e = cc
reached_parts (InDirectory id) None n d e = cc
reached_parts (InDirectory id) (Some rest) n d e = go (length rest == n) refl e
  where
    go : (t : Bool) → (length rest == n) ≡ t → (if t then Some id else None) ≡ Some d
        → (text : List ℕ) × (InDirectory id ≡ InDirectory d) × (Some rest ≡ Some text) × (length text ≡ n)
    go true same e = let is : id ≡ d = cc in (rest, ap InDirectory is, refl, eqb-true (length rest) n same)
    go false same e = cc

module _ {K T F I : Type 0} (store : Entries F I) (view : View) (there : IsViewThere store view) where
  -- the state, with one process, of this view
  abbrev seen_by_one : State K T F I → State K T F I
  seen_by_one s = record s { processes = record { number = 0; map = view.local } ∷ [] }

  -- the prefix leads to that directory
  pub leads_by_walk : (s : State K T F I) → Shows s store → (start from : Start) (create fold : Bool) (prefix : Prefix) (last : List ℕ) (d : ℕ)
      → IsKeyOf view start fold prefix last → Leads K T F I store view start create fold from.place (text_of from)
      → reached_at from.place from.behind (length last) ≡ Some d → IsSome (directory_at store d) → LeadsTo s prefix d
  leads_by_walk s shows start from create fold prefix last d key leads reached inside = go led.0 led.1.each front led.2
    where
      one : State K T F I
      one = seen_by_one s

      of : IsViewOf one 0 view
      of = (refl, there.is_global)

      parts : (rest : List ℕ) × (from.place ≡ InDirectory d) × (from.behind ≡ Some rest) × (length rest ≡ length last)
      parts = reached_parts from.place from.behind (length last) d reached

      led : Led one 0 start create fold (paths.InDirectory d) (separator ∷ parts.0)
      led =
          subst (λ (x : Option (List ℕ)). Led one 0 start create fold (paths.InDirectory d) (rest_of x)) parts.2
          (subst (λ (x : Standpoint). Led one 0 start create fold (origin_at 0 x) (rest_of from.behind)) parts.1
          (leads one 0 (record { objects = shows.objects; rows = shows.rows }) of))

      front : joined led.0 ≡ separator ∷ key.0
      front =
          same_front (joined led.0) (separator ∷ parts.0) (separator ∷ key.0) (separator ∷ last) (sym led.1.whole ∙ ap rest_of key.1)
          (ap suc parts.3)

      is : IsPrefixAt view start.place fold key.0 prefix
      is = key.3

      go : (cs : List (List ℕ)) → All IsComponent cs → joined cs ≡ separator ∷ key.0 → IsPath one (origin_at 0 start.place) cs false fold d → LeadsTo s prefix d
      go [] each e path = cc
      go (c ∷ cs) each e path = (
        c ∷ cs,
        each,
        ap (λ (f : Bool). folded f (joined (c ∷ cs))) is.fold ∙ ap (folded fold) e ∙ folded_text fold key.0 ∙ ap (λ (x : List ℕ). separator ∷ x) (sym is.bytes),
        leads_moved s (is_view start.place) prefix.in_view (directory_of view start.place) prefix.place fold prefix.fold (c ∷ cs) d
            (sym is.in_view) (sym is.place) (sym is.fold)
            (leads_shown one s (same_directories one s refl) refl (is_view start.place) (directory_of view start.place) (c ∷ cs) fold d (path_leads one 0 view of start.place fold c cs d path)),
        is_directory_shown store s shows d inside,
      )

-- ---- the cache

module _ {K T F I : Type 0} (store : Entries F I) (cache : Kept) (are : ArePaths K T F I store cache) where
  -- what a look-up leaves was there
  pub found_are_paths : (prefix : Prefix) → ArePaths K T F I store (after_find prefix cache)
  found_are_paths prefix = record {
    there = λ e among. are.there e (Contains-promoted (same_prefix prefix) cache.entries e among);
    paths = λ s shows e among. are.paths s shows e (Contains-promoted (same_prefix prefix) cache.entries e among);
  }

  -- what is put there leads to its directory
  pub put_are_paths : (prefix : Prefix) (d : ℕ) → IsSome (directory_at store d) → ((s : State K T F I) → Shows s store → LeadsTo s prefix d)
      → ArePaths K T F I store (after_put prefix d cache)
  put_are_paths prefix d inside leads = record {
    there = λ e among. elim (Contains-put_entries same_prefix (lru_cache cache.entries cache.room) prefix d e among) [
      | inl old ↦ are.there e old
      | inr put ↦ subst (λ (x : ℕ). IsSome (directory_at store x)) (sym put.0) inside
    ];
    paths = λ s shows e among. elim (Contains-put_entries same_prefix (lru_cache cache.entries cache.room) prefix d e among) [
      | inl old ↦ are.paths s shows e old
      | inr put ↦ subst (λ (x : ℕ). LeadsTo s e.0 x) (sym put.0) (elim put.1 [
        | inl same ↦ subst (λ (x : Prefix). LeadsTo s x d) (sym same) (leads s shows)
        | inr was ↦ leads_same s prefix e.0 d (same_prefix-parts prefix e.0 was.2) (leads s shows)
      ])
    ];
  }

  -- a directory that is found is one of the store
  pub found_there : (prefix : Prefix) (d : ℕ) → lookup (same_prefix prefix) cache.entries ≡ Some d → IsSome (directory_at store d)
  found_there prefix d found = let entry = Contains-lookup (same_prefix prefix) cache.entries d found in are.there (entry.0, d) entry.1

  -- and the walk goes on there
  pub found_leads : (view : View) (start : Start) (create fold : Bool) (prefix : Prefix) (last : List ℕ) (d : ℕ) → IsKeyOf view start fold prefix last
      → lookup (same_prefix prefix) cache.entries ≡ Some d → Leads K T F I store view start create fold (InDirectory d) (separator ∷ last)
  found_leads view start create fold prefix last d key found = λ s p shows of.
      let entry = Contains-lookup (same_prefix prefix) cache.entries d found in
      led_by_kept s p view of start create fold prefix entry.0 last d key entry.2 (are.paths s shows (entry.0, d) entry.1)

  -- what a walk came through is put there
  pub walked_are_paths : (view : View) (there : IsViewThere store view) (start from : Start) (create fold : Bool) (prefix : Prefix) (last text : List ℕ) (d : ℕ)
      → IsKeyOf view start fold prefix last → Leads K T F I store view start create fold from.place (text_of from) → text ≡ last
      → reached_at from.place from.behind (length text) ≡ Some d → IsSome (directory_at store (directory_of view from.place))
      → ArePaths K T F I store (after_put prefix d cache)
  walked_are_paths view there start from create fold prefix last text d key leads same reached inside =
      let here : IsSome (directory_at store d)
      = subst (λ (x : Standpoint). IsSome (directory_at store (directory_of view x))) (reached_parts from.place from.behind (length text) d reached).1 inside in
      put_are_paths prefix d here
      (λ s shows. leads_by_walk store view there s shows start from create fold prefix last d key leads
      (subst (λ (x : List ℕ). reached_at from.place from.behind (length x) ≡ Some d) same reached) here)

  -- Where the store changes, and its rows stay, and each of its directories is one of what it becomes, with the same shadow,
  -- each prefix leads there still.
  pub paths_stay : (new : Entries F I) → rows_of new ≡ rows_of store
      → ((d : ℕ) → IsSome (directory_at store d) → IsSome (directory_at new d) × (shadow_at new d ≡ shadow_at store d)) → ArePaths K T F I new cache
  paths_stay new rows directories = record {
    there = λ e among. (directories e.1 (are.there e among)).0;
    paths = λ s shows e among.
        let before : State K T F I = record s { objects = objects_of store; rows = rows_of store } in
        let shown : Shows before store = record { objects = refl; rows = refl } in
        prefix_shown before s
        (λ d is.
        let stays = directories d (directory_stored before store shown d is) in
        (is_directory_shown new s shows d stays.0, shadow_shown s new shows d ∙ stays.1 ∙ sym (shadow_shown before store shown d)))
        (sym (shows.rows ∙ rows)) e.0 e.1 (are.paths before shown e among);
  }

-- what holds of either end holds of what is there then
pub of_either : {X E S : Type 0} (P : S → Type 0) (r : Result X E) (a b new : S) → OnOk r (new ≡ a) → OnErr r (new ≡ b) → P a → P b → P new
of_either P (Ok x) a b new ok err done kept = subst P (sym ok) done
of_either P (Err e) a b new ok err done kept = subst P (sym err) kept

-- ---- the laws

pub paths_are_shown : {K T F I : Type 0} → PathsAreShown K T F I
paths_are_shown s store cache shows has = record {
  there = λ e among. directory_stored s store shows e.1 (has e among).4;
  paths = λ r shown e among. prefix_shown s r (same_directories s r (shows.objects ∙ sym shown.objects)) (shows.rows ∙ sym shown.rows) e.0 e.1 (has e among);
}

pub none_are_paths : {K T F I : Type 0} → NoneArePaths K T F I
none_are_paths store room hits = record {
  there = λ e among. absurd (Contains-nil e among);
  paths = λ s shows e among. absurd (Contains-nil e among);
}

-- ---- prefixes of views
