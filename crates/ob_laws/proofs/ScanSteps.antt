-- A scan of a directory, step by step: all that it shows behind a context has stamps that rise from there, each entry
-- stands at its step, and a row above the context that stands throughout is shown once, where some page told that
-- no entry is left.
use Rattle.std.proofs.Common.{◌≡◌, ◌∙◌, ℕ, suc, ◌+◌, ◌<◌, ◌≤◌, ◌==◌, ◌&&◌, nat_lt, Bool, true, false, cond, List, [], ◌∷◌, ◌++◌, map, filter, All, Option, None, Some, refl, ap, sym, subst, arith, eq-eqb, eqb-true}
use Rattle.std.specs.Prelude.{AllPairs, Contains}
use Rattle.std.specs.Option.{option_map_or}
use Rattle.std.proofs.lemmas.List.Elements.{All-nil, All-cons, All-head, All-tail, All-map, All-filter, All-contains, All-contains_itself, filter_passes, Contains-append_right}
use Rattle.std.proofs.lemmas.List.Kept.{AllPairs-filter}
use Rattle.ob_base.specs.declared.status.Status.TheVariants.{Success, NoMoreEntries}
use Rattle.ob_model.specs.declared.state.Row.{Row}
use Rattle.ob_model.specs.State.{State}
use Rattle.ob_model.specs.Opening.{opening}
use Rattle.ob_model.specs.Procedures.{Procedures}
use Rattle.ob_model.specs.Enumeration.{Shown, Page, last_stamp, shown_row, entries_left}
use Rattle.ob_model.specs.Calls.{Passed, Passes, left_by}
use Rattle.ob_model.specs.Scans.{shown_in, ShowsPage, ScansOn, Scans, StandsAt, StandAtTheirSteps, StandsThroughout}
use Rattle.ob_model.specs.Sound.{IsSound}
use Rattle.ob_model.proofs.Soundness.{opening_sound}
use Rattle.ob_model.proofs.Steps.{step_sound}
use Rattle.ob_laws.specs.WholeRuns.{IsWholeScan}
use Rattle.ob_laws.proofs.Fronts.{Climbs, times, climbs_rise, climbs_append, climbs_apart, times_append, never_below, never_behind, among_cons, once_among, IsFront, page_front}
use Rattle.ob_laws.proofs.Stamps.{run_stamps}

-- ---- the rows of one state

-- rows that rise and lie above a context climb, as they are shown
rows_climb : (f : Row → Shown) → ((r : Row) → (f r).stamp ≡ r.stamp) → (context : ℕ) (rows : List Row) → AllPairs (λ a b. a.stamp < b.stamp) rows → All (λ r. context < r.stamp) rows
    → Climbs context (map f rows)
rows_climb f stamps context [] rising above = tt
rows_climb f stamps context (r ∷ rows) rising above = (
  subst (λ n. context < n) (sym (stamps r)) (All-head (λ x. context < x.stamp) r rows above),
  subst (λ n. Climbs n (map f rows)) (sym (stamps r))
      (rows_climb f stamps r.stamp rows (λ i j d less within. rising (suc i) (suc j) d (omega (arith, less)) (omega (arith, within))) (λ k d within. rising 0 (suc k) d (omega arith) (omega (arith, within)))),
)

left_of_both : (a b : Bool) → (a && b) ≡ true → a ≡ true
left_of_both true b e = refl
left_of_both false b e = cc

right_of_both : (a b : Bool) → (a && b) ≡ true → b ≡ true
right_of_both true b e = e
right_of_both false b e = cc

less_by_test : (n m : ℕ) → nat_lt n m ≡ true → n < m
less_by_test n m e = grind arith

not_less_by_test : (n m : ℕ) → nat_lt n m ≡ false → m ≤ n
not_less_by_test n m e = grind arith

test_by_less : (n m : ℕ) → n < m → nat_lt n m ≡ true
test_by_less n m less = grind arith

-- what is in a list is in what a filter keeps of it, where it passes
in_filter : {X : Type 0} (test : X → Bool) (x : X) (xs : List X) → test x ≡ true → Contains xs x → Contains (filter test xs) x
in_filter test x [] passes (k, within, at) = absurd (omega (arith, within))
in_filter {X} test x (y ∷ xs) passes among =
    among_cons (Contains (filter test (y ∷ xs)) x) y x xs among
    (λ same. subst (λ b. Contains (cond b (y ∷ filter test xs) (filter test xs)) x) (sym (ap test same ∙ passes)) (0, omega arith, same))
    (λ other. more (test y) (in_filter test x xs passes other))
  where
    more : (b : Bool) → Contains (filter test xs) x → Contains (cond b (y ∷ filter test xs) (filter test xs)) x
    more true there = Contains-append_right (y ∷ []) (filter test xs) x there
    more false there = there

-- and what a map makes of it in the map
in_map : {X Y : Type 0} (f : X → Y) (x : X) (xs : List X) → Contains xs x → Contains (map f xs) (f x)
in_map f x [] (k, within, at) = absurd (omega (arith, within))
in_map f x (y ∷ xs) among =
    among_cons (Contains (map f (y ∷ xs)) (f x)) y x xs among (λ same. (0, omega arith, ap f same)) (λ other. Contains-append_right (f y ∷ []) (map f xs) (f x) (in_map f x xs other))

-- pages that are one have one status
status_of : (page other : Page) → Some page ≡ Some other → page.status ≡ other.status
status_of page other same = ap (λ (o : Option Page). option_map_or (λ (p : Page). p.status) o Success) same

module _ {K T F I : Type 0} (g : Procedures K T F I) where
  -- whether a row is of a directory and behind a context
  abbrev is_left : ℕ → ℕ → Row → Bool
  is_left d context r = (r.directory == d) && nat_lt context r.stamp

  left_climbs : (s : State K T F I) (d context : ℕ) → IsSound s → Climbs context (entries_left g s d context)
  left_climbs s d context sound =
      rows_climb (shown_row g s) (λ r. refl) context (filter (is_left d context) s.rows) (AllPairs-filter (λ a b. a.stamp < b.stamp) (is_left d context) s.rows sound.rows.rising)
      (λ k e within. less_by_test context _ (right_of_both _ _ (filter_passes (is_left d context) s.rows k e within)))

  left_stands : (s : State K T F I) (d context : ℕ) → All (StandsAt g s d) (entries_left g s d context)
  left_stands s d context =
      All-map (StandsAt g s d) (shown_row g s) (filter (is_left d context) s.rows)
      (λ k e within. (
        _,
        All-filter (is_left d context) (Contains s.rows) s.rows (All-contains_itself s.rows) k e within,
        eqb-true _ d (left_of_both _ _ (filter_passes (is_left d context) s.rows k e within)),
        refl,
      ))

  -- a row behind the context is left
  row_is_left : (s : State K T F I) (d context : ℕ) (r : Row) → Contains s.rows r → r.directory ≡ d → context < r.stamp → Contains (entries_left g s d context) (shown_row g s r)
  row_is_left s d context r among inside above =
      in_map (shown_row g s) r (filter (is_left d context) s.rows)
      (in_filter (is_left d context) r s.rows (ap (λ b. b && nat_lt context r.stamp) (eq-eqb r.directory d inside) ∙ test_by_less context r.stamp above) among)

  -- ---- one page

  -- a page that is shown is a front of what is left
  shown_front : (s : State K T F I) (d context : ℕ) (x : Passed K T F I) (page : Page) → ShowsPage g s d context x page → IsFront (entries_left g s d context) context page
  shown_front s d context x page shows =
      subst (IsFront (entries_left g s d context) context) (sym shows.shows) (page_front (entries_left g s d context) context shows.room shows.single)

  -- so its entries climb, and what else is left climbs behind them
  page_climbs : (s : State K T F I) (d context : ℕ) (page : Page) → IsSound s → (front : IsFront (entries_left g s d context) context page)
      → Climbs context page.entries × Climbs (last_stamp context page.entries) front.rest
  page_climbs s d context page sound front = climbs_apart context page.entries front.rest (subst (Climbs context) front.front (left_climbs s d context sound))

  page_stands : (s : State K T F I) (d context : ℕ) (page : Page) → IsFront (entries_left g s d context) context page → All (StandsAt g s d) page.entries
  page_stands s d context page front = front_of page.entries front.rest (subst (All (StandsAt g s d)) front.front (left_stands s d context))
    where
      front_of : (xs ys : List Shown) → All (StandsAt g s d) (xs ++ ys) → All (StandsAt g s d) xs
      front_of [] ys each = All-nil (StandsAt g s d)
      front_of (x ∷ xs) ys each =
          All-cons (StandsAt g s d) x xs (All-head (StandsAt g s d) x (xs ++ ys) each) (front_of xs ys (All-tail (StandsAt g s d) x (xs ++ ys) each))

  -- a row behind the context is left once
  left_once : (s : State K T F I) (d context : ℕ) (r : Row) → IsSound s → Contains s.rows r → r.directory ≡ d → context < r.stamp → times r.stamp (entries_left g s d context) ≡ 1
  left_once s d context r sound among inside above =
      once_among context (shown_row g s r) (entries_left g s d context) (left_climbs s d context sound) (row_is_left s d context r among inside above)

  -- ---- the steps

  -- the state behind a step is sound
  next_sound : (s : State K T F I) (n : ℕ) (x : Passed K T F I) (xs : List (Passed K T F I)) → IsSound s → Passes g s n (x ∷ xs) → IsSound x.after
  next_sound s n x xs sound run = step_sound g s x.after x.entry.event x.entry.answer sound run.2

  -- all that is shown climbs from the context
  scan_climbs : (s : State K T F I) (n d context : ℕ) (xs : List (Passed K T F I)) (pages : List (Option Page))
      → IsSound s → Passes g s n xs → ScansOn g s d context xs pages → Climbs context (shown_in pages)
  scan_climbs s n d context [] [] sound run scan = tt
  scan_climbs s n d context [] (page ∷ pages) sound run scan = absurd scan
  scan_climbs s n d context (x ∷ xs) [] sound run scan = absurd scan
  scan_climbs s n d context (x ∷ xs) (None ∷ pages) sound run scan = scan_climbs x.after (n + 1) d context xs pages (next_sound s n x xs sound run) run.3 scan
  scan_climbs s n d context (x ∷ xs) (Some page ∷ pages) sound run scan =
      let front = shown_front s d context x page scan.0 in
      climbs_append context page.entries (shown_in pages) (page_climbs s d context page sound front).0
      (subst (λ c. Climbs c (shown_in pages)) front.last (scan_climbs x.after (n + 1) d page.context xs pages (next_sound s n x xs sound run) run.3 scan.1))

  -- each entry stands at its step
  scan_stands : (s : State K T F I) (d context : ℕ) (xs : List (Passed K T F I)) (pages : List (Option Page)) → ScansOn g s d context xs pages → StandAtTheirSteps g s d xs pages
  scan_stands s d context [] [] scan = tt
  scan_stands s d context [] (page ∷ pages) scan = absurd scan
  scan_stands s d context (x ∷ xs) [] scan = absurd scan
  scan_stands s d context (x ∷ xs) (None ∷ pages) scan = scan_stands x.after d context xs pages scan
  scan_stands s d context (x ∷ xs) (Some page ∷ pages) scan =
      (page_stands s d context page (shown_front s d context x page scan.0), scan_stands x.after d page.context xs pages scan.1)

  -- what stands throughout stands behind each step
  stands_on : (r : Row) (s : State K T F I) (x : Passed K T F I) (xs : List (Passed K T F I)) → StandsThroughout r s (x ∷ xs) → StandsThroughout r x.after xs
  stands_on r s x xs stands = (All-head (λ y. Contains y.after.rows r) x xs stands.1, All-tail (λ y. Contains y.after.rows r) x xs stands.1)

  -- a row above the context that stands throughout is shown once, where a page told that no entry is left
  scan_shows_once : (s : State K T F I) (n d context : ℕ) (xs : List (Passed K T F I)) (pages : List (Option Page)) (last : Page) (r : Row)
      → IsSound s → Passes g s n xs → ScansOn g s d context xs pages → Contains pages (Some last) → last.status ≡ NoMoreEntries
      → r.directory ≡ d → StandsThroughout r s xs → context < r.stamp → times r.stamp (shown_in pages) ≡ 1
  scan_shows_once s n d context [] [] last r sound run scan (k, within, at) none inside stands above = absurd (omega (arith, within))
  scan_shows_once s n d context [] (page ∷ pages) last r sound run scan among none inside stands above = absurd scan
  scan_shows_once s n d context (x ∷ xs) [] last r sound run scan among none inside stands above = absurd scan
  scan_shows_once s n d context (x ∷ xs) (None ∷ pages) last r sound run scan among none inside stands above =
      among_cons (times r.stamp (shown_in pages) ≡ 1) None (Some last) pages among (λ same. cc)
      (λ later.
      scan_shows_once x.after (n + 1) d context xs pages last r (next_sound s n x xs sound run) run.3 scan later none inside (stands_on r s x xs stands) above)
  scan_shows_once s n d context (x ∷ xs) (Some page ∷ pages) last r sound run scan among none inside stands above =
      times_append r.stamp page.entries (shown_in pages)
      ∙ go (nat_lt page.context r.stamp) refl
      (λ behind later. scan_shows_once x.after (n + 1) d page.context xs pages last r (next_sound s n x xs sound run) run.3 scan.1 later none inside (stands_on r s x xs stands) behind)
    where
      front : IsFront (entries_left g s d context) context page
      front = shown_front s d context x page scan.0

      climbs : Climbs context page.entries × Climbs (last_stamp context page.entries) front.rest
      climbs = page_climbs s d context page sound front

      left : times r.stamp (entries_left g s d context) ≡ 1
      left = left_once s d context r sound stands.0 inside above

      parts : times r.stamp page.entries + times r.stamp front.rest ≡ 1
      parts = sym (times_append r.stamp page.entries front.rest) ∙ ap (times r.stamp) (sym front.front) ∙ left

      not_last : page.status ≡ NoMoreEntries → ⊥
      not_last e = let never : times r.stamp (entries_left g s d context) ≡ 0 = ap (times r.stamp) (front.none e) in omega (arith, never, left)

      go : (behind : Bool) → nat_lt page.context r.stamp ≡ behind → (page.context < r.stamp → Contains pages (Some last) → times r.stamp (shown_in pages) ≡ 1)
          → times r.stamp page.entries + times r.stamp (shown_in pages) ≡ 1
      go true behind more =
          let above_page : page.context < r.stamp = less_by_test page.context r.stamp behind in
          let before : times r.stamp page.entries ≡ 0 = never_behind context r.stamp page.entries (subst (λ c. c < r.stamp) front.last above_page) climbs.0 in
          let once : times r.stamp (shown_in pages) ≡ 1 =
          among_cons (times r.stamp (shown_in pages) ≡ 1) (Some page) (Some last) pages among
          (λ same. absurd (not_last (status_of page last same ∙ none)))
          (λ later. more above_page later) in
          omega (arith, before, once)
      go false passed more =
          let within : r.stamp ≤ page.context = not_less_by_test page.context r.stamp passed in
          let rest : times r.stamp front.rest ≡ 0 = never_below (last_stamp context page.entries) r.stamp front.rest (subst (λ c. r.stamp ≤ c) front.last within) climbs.1 in
          let later : times r.stamp (shown_in pages) ≡ 0 =
          never_below page.context r.stamp (shown_in pages) within (scan_climbs x.after (n + 1) d page.context xs pages (next_sound s n x xs sound run) run.3 scan.1) in
          omega (arith, parts, rest, later)

  -- ---- a scan within a run

  -- a run behind its first steps, whose states are sound
  run_behind : (s : State K T F I) (n : ℕ) (before steps : List (Passed K T F I)) → IsSound s → Passes g s n (before ++ steps)
      → Passes g s n before × IsSound (left_by s before) × ((m : ℕ) × Passes g (left_by s before) m steps)
  run_behind s n [] steps sound run = (tt, sound, (n, run))
  run_behind s n (x ∷ before) steps sound run =
      let more = run_behind x.after (n + 1) before steps (next_sound s n x (before ++ steps) sound run) run.3 in
      ((run.0, run.1, run.2, more.0), more.1, more.2)

  pub scans_are_whole : (first : T) (before steps : List (Passed K T F I)) (d : ℕ) (pages : List (Option Page))
      → Passes g (opening first) 0 (before ++ steps) → Scans g (left_by (opening first) before) d steps pages
      → IsWholeScan K T F I g (left_by (opening first) before) d steps pages
  scans_are_whole first before steps d pages run scan =
      let behind = run_behind (opening first) 0 before steps (opening_sound first) run in
      let s = left_by (opening first) before in
      record {
        rising = climbs_rise 0 (shown_in pages) (scan_climbs s behind.2.0 d 0 steps pages behind.1 behind.2.1 scan);
        standing = scan_stands s d 0 steps pages scan;
        once = λ page among none r inside stands.
            scan_shows_once s behind.2.0 d 0 steps pages page r behind.1 behind.2.1 scan among none inside stands
            (All-contains (λ x. 0 < x.stamp) s.rows r (run_stamps g first before behind.0).1 stands.0);
      }
