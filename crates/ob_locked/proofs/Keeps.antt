-- The state under the lock keeps its invariant, step for step.
use Rattle.std.proofs.Common.{◌≡◌, ◌∙◌, ℕ, ◌+◌, ◌*◌, ◌^◌, ◌-◌, ◌<◌, ◌≤◌, ◌==◌, not, List, [], ◌∷◌, ◌++◌, length, filter, Option, None, Some, MatchOption, Result, Ok, Err, OnOk, OnErr, inr, refl, ap, sym, subst, arith, append_assoc, append-nil, length-append}
use Rattle.std.specs.Option.{option_map_or}
use Rattle.ob_model.specs.declared.reply.Answer.{Answer}
use Rattle.ob_model.specs.declared.reply.Answer.TheVariants.{Done, Ticket}
use Rattle.ob_model.specs.declared.reply.Event.{Event}
use Rattle.ob_model.specs.declared.reply.Reply.{Reply}
use Rattle.ob_model.specs.declared.state.PendingOpen.{PendingOpen}
use Rattle.ob_model.specs.Opening.{opening}
use Rattle.ob_model.specs.PendingOpens.{pending_of}
use Rattle.ob_model.specs.Procedures.{Procedures}
use Rattle.ob_model.specs.Run.{Entry, Run}
use Rattle.ob_model.specs.State.{State}
use Rattle.ob_model.specs.Step.{Step}
use Rattle.ob_model.proofs.Runs.{run_sound}
use Rattle.ob_opens.proofs.BegunAgain.{last_found}
use Rattle.ob_entries.specs.Segments.{Segment, AreSealed, joined, most_entries, most_sealed, open_after}
use Rattle.ob_segments.specs.Journal.{Journal, Placed, whole, with_entry, with_seal, open_segment}
use Rattle.ob_locked.specs.Entered.{entered, HasFew, PendingAfter, EndedAfter}
use Rattle.ob_locked.specs.Locked.{History, IsKept}
use Rattle.ob_types.specs.Parse.{ToRun}
use Rattle.ob_opens.specs.Waiting.{IsNotTaken}
use Rattle.ob_locked.specs.Passed.{Passed, IsKnown}
use Rattle.ob_locked.specs.Steps.{sealed_then, IsMade, IsNotResumed}
use Rattle.ob_base.specs.declared.fault.Fault.{Fault}
use Rattle.ob_base.specs.declared.fault.Fault.TheVariants.{Memory, Refused}
use Rattle.ob_locked.specs.Places.{places_for, places_of, places_of_start}
use Rattle.ob_locked.proofs.Placed.{places-push, places-without, run_on}

-- the places of the newest open
pub newest_places : {K T F I : Type 0} (t : State K T F I) (m : ℕ) (before : List (PendingOpen K)) (Few : ℕ → Type 0) → PendingAfter Few before (Ticket m) t.pending
    → (y : PendingOpen K) × (places_of t m ≡ y.left + 1) × (places_for t.pending ≡ places_for before + (y.left + 1)) × Few y.left
newest_places {K} t m before Few (y, after, ticket, few, below) = (
  y,
  ap (λ (xs : List (PendingOpen K)). option_map_or (λ (x : PendingOpen K). x.left + 1) (find_under xs) 0) after ∙ ap (λ (o : Option (PendingOpen K)). option_map_or (λ x. x.left + 1) o 0) (last_found m y before below ticket),
  ap places_for after ∙ places-push before y,
  few,
)
  where
    find_under : List (PendingOpen K) → Option (PendingOpen K)
    find_under xs = pending_of (record t { pending = xs }) m

-- sealed segments have at most so many entries
joined_few : {K : Type 0} (number first : ℕ) (ss : List (Segment K)) → AreSealed number first ss → length (joined ss) ≤ length ss * most_entries
joined_few number first [] sealed = omega arith
joined_few number first (s ∷ ss) (own, begins, some, few, sealed) =
    omega (arith, length-append s.entries (joined ss), few, joined_few (number + 1) (first + length s.entries) ss sealed)

-- sealed segments with one more have its entries after theirs
pub joined_on : {K : Type 0} (ss : List (Segment K)) (s : Segment K) → joined (ss ++ s ∷ []) ≡ joined ss ++ s.entries
joined_on [] s = append-nil s.entries
joined_on (x ∷ ss) s = ap (λ l. x.entries ++ l) (joined_on ss s) ∙ sym (append_assoc x.entries (joined ss) s.entries)

-- a seal leaves all entries as they are
pub sealed_whole : {K : Type 0} (j : Journal K) → whole (with_seal j) ≡ whole j
sealed_whole j = append-nil (joined (j.sealed ++ open_segment j ∷ [])) ∙ joined_on j.sealed (open_segment j)

-- all entries of a journal can be counted
pub whole_few : {K : Type 0} (j : Journal K) → AreSealed 1 1 j.sealed → length j.sealed ≤ most_sealed → length j.unsealed ≤ most_entries → length (whole j) < 2 ^ 61
whole_few j sealed many few = omega (arith, length-append (joined j.sealed) j.unsealed, joined_few 1 1 j.sealed sealed, many, few)

-- the open segment, by how many are sealed and how many entries there are in all
pub open_first : {K : Type 0} (ss : List (Segment K)) (entries : List (Entry K)) (number first count : ℕ) → number ≡ length ss + 1 → count ≡ length (joined ss ++ entries) → first ≡ count - length entries + 1
    → record { number = number; first = first; entries = entries } ≡ open_after ss entries
open_first ss entries number first count numbered counted is =
    let before : first ≡ length (joined ss) + 1 = omega (arith, counted, is, length-append (joined ss) entries) in
    λ i. record { number = numbered i; first = before i; entries = entries }

-- so many steps are counted
pub all_few : {K T F I : Type 0} (g : Procedures K T F I) (h : History K T F I) (places cap total : ℕ) → IsKept g h places cap total → AreSealed 1 1 h.journal.sealed → length h.journal.sealed ≤ most_sealed
    → total < 2 ^ 61
all_few g h places cap total kept sealed many =
    omega (arith, kept.counted, whole_few h.journal sealed many (omega (arith, kept.few)))

module _ {K T F I : Type 0} (g : Procedures K T F I) (h : History K T F I) (places cap total : ℕ) (kept : IsKept g h places cap total) where
  -- the same with more room
  pub kept_roomier : (cap' : ℕ) → cap ≤ cap' → IsKept g h places cap' total
  kept_roomier cap' more = record { run = kept.run; reserved = kept.reserved; few = kept.few; room = omega (arith, kept.room, more); counted = kept.counted }

  -- the same after a seal, if the new open segment has room for all reserved places
  pub kept_sealed : (cap' : ℕ) → places ≤ cap' → IsKept g (sealed_then h) places cap' total
  kept_sealed cap' room = record {
    run = subst (λ es. Run g h.first es h.state) (sym (sealed_whole h.journal)) kept.run;
    reserved = kept.reserved;
    few = omega (arith, kept.few);
    room = omega (arith, room);
    counted = kept.counted ∙ ap length (sym (sealed_whole h.journal));
  }

  -- after a step whose entry was added
  module _ (t : State K T F I) (event : Event K) (answer : Answer) (number seat : ℕ) (e : Entry K) (js : Journal K) (step : Step g h.state event answer t)
      (is : e ≡ entered number seat event answer) (next : number ≡ length (whole h.journal) + 1) (added : js ≡ with_entry h.journal e) where
    grown : whole js ≡ whole h.journal ++ e ∷ []
    grown = ap whole added ∙ sym (append_assoc (joined h.journal.sealed) h.journal.unsealed (e ∷ []))

    goes_on : Run g h.first (whole js) t
    goes_on =
        subst (λ xs. Run g h.first xs t) (sym grown)
        (run_on g (opening h.first) h.state t 0 (whole h.journal) e kept.run (omega (arith, next, ap (λ (x : Entry K). x.number) is))
        (subst (λ (x : Entry K). Step g h.state x.event x.answer t) (sym is) step))

    longer : length js.unsealed ≡ length h.journal.unsealed + 1
    longer = ap (λ (j : Journal K). length j.unsealed) added ∙ length-append h.journal.unsealed (e ∷ [])

    longer_whole : length (whole js) ≡ length (whole h.journal) + 1
    longer_whole = ap length grown ∙ length-append (whole h.journal) (e ∷ [])

    -- the opens that wait are as they were
    pub kept_behind_reply : (cap' total' : ℕ) → t.pending ≡ h.state.pending → length h.journal.unsealed + places + 1 ≤ most_entries → length h.journal.unsealed + places + 1 ≤ cap' → total' ≡ total + 1
        → IsKept g (record { first = h.first; journal = js; state = t }) places cap' total'
    kept_behind_reply cap' total' same few room counted = record {
      run = goes_on;
      reserved = kept.reserved ∙ ap places_for (sym same);
      few = omega (arith, longer, few);
      room = omega (arith, longer, room);
      counted = omega (arith, longer_whole, counted, kept.counted);
    }

    -- or one more waits, and has its places
    pub kept_behind_ticket : (cap' total' m : ℕ) → PendingAfter HasFew h.state.pending (Ticket m) t.pending
        → length h.journal.unsealed + places + places_of_start ≤ most_entries → length h.journal.unsealed + places + places_of_start ≤ cap' → total' ≡ total + 1
        → IsKept g (record { first = h.first; journal = js; state = t }) (places + places_of t m) cap' total'
    kept_behind_ticket cap' total' m pending few room counted =
        let new = newest_places t m h.state.pending HasFew pending in record {
          run = goes_on;
          reserved = omega (arith, new.1, new.2, kept.reserved);
          few = omega (arith, longer, few, new.1, new.3);
          room = omega (arith, longer, room, new.1, new.3);
          counted = omega (arith, longer_whole, counted, kept.counted);
        }

    -- the open of a ticket waits no longer, and has given its places back
    module _ (ticket : ℕ) (ended : EndedAfter h.state.pending ticket answer t.pending) where
      -- the open that waited
      abbrev Waited : Type 0
      Waited =
          (x : PendingOpen K) × (places_of h.state ticket ≡ x.left + 1)
          × (places ≡ x.left + 1 + places_for (filter (λ y. not (y.ticket == ticket)) h.state.pending))
          × PendingAfter (λ n. n < x.left) (filter (λ y. not (y.ticket == ticket)) h.state.pending) answer t.pending

      waited : Waited
      waited = go (pending_of h.state ticket) refl ended
        where
          go : (found : Option (PendingOpen K)) → pending_of h.state ticket ≡ found
              → MatchOption found ⊥ (λ x. PendingAfter (λ n. n < x.left) (filter (λ y. not (y.ticket == ticket)) h.state.pending) answer t.pending) → Waited
          go None e after = absurd after
          go (Some x) e after = (
            x,
            ap (λ (o : Option (PendingOpen K)). option_map_or (λ y. y.left + 1) o 0) e,
            kept.reserved ∙ places-without ticket h.state.pending x (run_sound g h.first (whole h.journal) h.state kept.run).pending.awaited e,
            after,
          )

      pub kept_behind_end : (left cap' total' : ℕ) (reply : Reply) → answer ≡ Done reply → left ≡ places - places_of h.state ticket → cap ≤ cap' → total' ≡ total + 1
          → IsKept g (record { first = h.first; journal = js; state = t }) left cap' total'
      kept_behind_end left cap' total' reply done is more counted =
          let (x, freed, held, after) = waited in
          let same : t.pending ≡ filter (λ y. not (y.ticket == ticket)) h.state.pending =
          subst (λ a. PendingAfter (λ n. n < x.left) (filter (λ y. not (y.ticket == ticket)) h.state.pending) a t.pending) done after in
          record {
            run = goes_on;
            reserved = omega (arith, is, freed, held, ap places_for same);
            few = omega (arith, longer, is, freed, held, kept.few);
            room = omega (arith, longer, is, freed, held, kept.room, more);
            counted = omega (arith, longer_whole, counted, kept.counted);
          }

      pub kept_behind_next : (left cap' total' m : ℕ) → answer ≡ Ticket m → left ≡ places - places_of h.state ticket → cap ≤ cap' → total' ≡ total + 1
          → IsKept g (record { first = h.first; journal = js; state = t }) (left + places_of t m) cap' total'
      kept_behind_next left cap' total' m waits is more counted =
          let (x, freed, held, after) = waited in
          let new = newest_places t m (filter (λ y. not (y.ticket == ticket)) h.state.pending) (λ n. n < x.left)
          (subst (λ a. PendingAfter (λ n. n < x.left) (filter (λ y. not (y.ticket == ticket)) h.state.pending) a t.pending) waits after) in
          record {
            run = goes_on;
            reserved = omega (arith, is, freed, held, new.1, new.2);
            few = omega (arith, longer, is, freed, held, kept.few, new.1, new.3);
            room = omega (arith, longer, is, freed, held, kept.room, more, new.1, new.3);
            counted = omega (arith, longer_whole, counted, kept.counted);
          }

      -- there is a place for its entry
      pub place_behind_end : length h.journal.unsealed + 1 ≤ cap
      place_behind_end = let (x, freed, held, after) = waited in omega (arith, held, kept.room)

-- the same after a call that may have sealed
pub kept_by_seal : {K T F I A : Type 0} (g : Procedures K T F I) (first : T) (s : State K T F I) (old new : Placed K) (held total : ℕ) → IsKept g (record { first = first; journal = old.journal; state = s }) held old.places total
    → (r : Result A Fault) → OnOk r (new.journal ≡ with_seal old.journal) → OnOk r (held ≤ new.places) → OnErr r (new ≡ old) → IsKept g (record { first = first; journal = new.journal; state = s }) held new.places total
kept_by_seal g first s old new held total kept (Ok segment) sealed room same =
    subst (λ j. IsKept g (record { first = first; journal = j; state = s }) held new.places total) (sym sealed)
    (kept_sealed g (record { first = first; journal = old.journal; state = s }) held old.places total kept new.places room)
kept_by_seal {K} g first s old new held total kept (Err fault) sealed room same =
    subst (λ (x : Placed K). IsKept g (record { first = first; journal = x.journal; state = s }) held x.places total) (sym same) kept

-- what a step adds, from what its parts say
pub is_made : {K T F I : Type 0} (g : Procedures K T F I) (h h' : History K T F I) (p p' : Passed K) (event asked : Event K) (answer told : Answer) (number seat : ℕ) (entry receipt : Entry K)
    → asked ≡ event → told ≡ answer → Step g h.state asked told h'.state → h'.first ≡ h.first → h'.journal ≡ with_entry h.journal entry
    → p' ≡ record { seat = p.seat; receipts = p.receipts ++ receipt ∷ [] } → entry ≡ entered number seat asked told → receipt ≡ entry → number ≡ length (whole h.journal) + 1 → seat ≡ p.seat
    → IsMade g h p event answer h' p'
is_made {K} g h h' p p' event asked answer told number seat entry receipt same_event same_answer step first journal pass is same next own =
    let e : entry ≡ entered (length (whole h.journal) + 1) p.seat event answer = is ∙ (λ i. entered (next i) (own i) (same_event i) (same_answer i)) in
    record {
      step = subst (λ a. Step g h.state event a h'.state) same_answer (subst (λ v. Step g h.state v told h'.state) same_event step);
      first = first;
      journal = journal ∙ ap (λ (x : Entry K). with_entry h.journal x) e;
      receipts = ap (λ (x : Passed K). x.receipts) pass ∙ ap (λ (x : Entry K). p.receipts ++ x ∷ []) (same ∙ e);
      seat = ap (λ (x : Passed K). x.seat) pass;
    }

-- why the core took no parse is why none is resumed
pub not_resumed : {K T F I : Type 0} (g : Procedures K T F I) (h : History K T F I) (p : Passed K) (asked other : ToRun F) (fault : Fault) → asked ≡ other → IsKnown (whole h.journal) p.receipts
    → IsNotTaken g h.state asked fault → IsNotResumed g h p other fault
not_resumed {F = F} g h p asked other fault same known why = subst (λ (x : ToRun F). IsNotResumed g h p x fault) same (go fault why)
  where
    go : (f : Fault) → IsNotTaken g h.state asked f → IsNotResumed g h p asked f
    go Memory why = (known, why)
    go (Refused status) why = (why.0, inr (known, why.1))
