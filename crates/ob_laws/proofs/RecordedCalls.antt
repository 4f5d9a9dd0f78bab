-- The list of a recorder after a run: the calls that are made, one after another, each under its object's serial.
use Rattle.std.proofs.Common.{◌≡◌, ◌≢◌, ◌∙◌, ℕ, ◌+◌, ◌-◌, ◌^◌, min, ◌==◌, Bool, true, false, ◌&&◌, if◌then◌else◌, List, [], ◌∷◌, length, take, Option, None, Some, is_some, MatchOption, refl, ap, sym, subst, arith, eqb-true, eq-eqb}
use Rattle.std.specs.Option.{option_map_or, option_and_then, option_or}
use Rattle.std.proofs.lemmas.Bool.{false≢true, ne_eqb}
use Rattle.std.proofs.lemmas.List.{length-map, take_all}
use Rattle.ob_model.specs.declared.command.Command.{Command}
use Rattle.ob_model.specs.declared.command.Command.TheVariants.{CreateObject}
use Rattle.ob_model.specs.declared.reply.Event.{Event}
use Rattle.ob_model.specs.declared.reply.Event.TheVariants.{Start, Resume, Abandon}
use Rattle.ob_model.specs.declared.reply.ParseRun.{ParseRun}
use Rattle.ob_model.specs.declared.reply.ParseRun.TheVariants as run
use Rattle.ob_model.specs.declared.state.PendingOpen.{PendingOpen}
use Rattle.ob_model.specs.declared.terms.Reason.{Reason}
use Rattle.ob_model.specs.State.{State}
use Rattle.ob_model.specs.Opening.{opening}
use Rattle.ob_model.specs.PendingOpens.{face_of, pending_of}
use Rattle.ob_model.specs.Parses.{IsParsed, IsBrought}
use Rattle.ob_model.specs.Procedures.{Procedures, ParseAnswer, Itself, Front, Reparse, Refused, ParseOutcome, ParseEnds, ends_itself, ends_reparse, ends_refused, ends_made, goes_on}
use Rattle.ob_model.specs.Calls.{Call, Opened, Closed, Deleted, is_drawn, Passed, Passes, left_by, calls_of_run}
use Rattle.ob_plain.specs.Calls.{none_kept, noted, all_noted}
use Rattle.ob_plain.specs.Counting.{counted}
use Rattle.ob_plain.specs.Recorder.{recording_procedures, kept_of, last_of, call, opened_by, serial_after, last_after, unopened_answer}
use Rattle.ob_plain.specs.declared.recorder.Recorder.{Recorder}
use Rattle.ob_plain.specs.declared.recorder.Recorded.{Recorded}
use Rattle.ob_plain.proofs.FirstCalls.{none_then_kept, none_then_lost}
use Rattle.ob_laws.specs.CallsMade.{Made, calls_on, AreMade, Inside, called, refuses, after_call, after_calls, FindValues, made_by_parse, made_by_command, made_by_event, made_in_run, begins_with}
use Rattle.ob_laws.specs.Recorded.{number_in, opened_behind, serial_in, told, under_serials, IsRecorded}
use Rattle.ob_laws.proofs.WholeLives.{whole_life}
use Rattle.ob_laws.proofs.CallsOfRun.{calls_made}
use Rattle.ob_laws.proofs.Serials.{number_own, other_behind, BeginsOpen, life_begins, noted_from, noted_is_told}

-- an inner value, where there is one, has this serial
abbrev HasSerial : {I : Type 0} → ℕ → Option (Recorded I) → Type 0
HasSerial n None = Unit {0}
HasSerial n (Some inner) = inner.serial ≡ n

-- ---- an open's serial

-- the first open of an object draws the next serial, and a later one leaves it
drawn : (opened : List ℕ) (x last serial : ℕ) → last ≡ min (length opened) (2 ^ 64 - 1) → serial ≡ min (number_in opened x) (2 ^ 64 - 1) → (b : Bool) → (number_in opened x == 0) ≡ b
    → (serial_after last serial ≡ min (number_in (if true && b then x ∷ opened else opened) x) (2 ^ 64 - 1)) × (last_after last serial ≡ min (length (if true && b then x ∷ opened else opened)) (2 ^ 64 - 1))
drawn opened x last serial is_last is_own true e =
    let none = eqb-true (number_in opened x) 0 e in
    let zero : serial ≡ 0 = omega (arith, is_own, none) in
    let here : (serial == 0) ≡ true = eq-eqb serial 0 zero in
    let own : counted last ≡ min (number_in (x ∷ opened) x) (2 ^ 64 - 1) = omega (arith, is_last, number_own x opened) in
    let longer : counted last ≡ min (length (x ∷ opened)) (2 ^ 64 - 1) = omega (arith, is_last) in
    (ap (λ b. if b then counted last else serial) here ∙ own, ap (λ b. if b then counted last else last) here ∙ longer)
drawn opened x last serial is_last is_own false e =
    let some : serial ≢ 0 = λ zero. false≢true (sym e ∙ eq-eqb (number_in opened x) 0 (omega (arith, is_own, zero))) in
    let there : (serial == 0) ≡ false = ne_eqb serial 0 some in
    (ap (λ b. if b then counted last else serial) there ∙ is_own, ap (λ b. if b then counted last else last) there ∙ is_last)

-- two numbers that differ, the other way round
either_way : (o x : ℕ) → (o == x) ≡ false → (x == o) ≡ false
either_way o x other = ne_eqb x o (λ same. false≢true (sym other ∙ eq-eqb o x (sym same)))

module _ {K T F I : Type 0} (below : Procedures K T F I) where
  abbrev recording : Procedures K (Recorder T) F (Recorded I)
  recording = recording_procedures below

  -- ---- calls, one after another

  -- where these objects were opened, the last serial is their number, and each object's serial is its own
  record Agrees (opened : List ℕ) (v : Inside (Recorder T) (Recorded I)) : Type 0 where
    last : last_of v.set ≡ min (length opened) (2 ^ 64 - 1)
    serials : (o : ℕ) → HasSerial (min (number_in opened o) (2 ^ 64 - 1)) (v.inner o)

  -- a call is noted under the serial of its object, and that still holds
  record IsNoted (opened : List ℕ) (v : Inside (Recorder T) (Recorded I)) (m : Made) (w : Inside (Recorder T) (Recorded I)) : Type 0 where
    kept : kept_of w.set ≡ noted (kept_of v.set) (call (min (number_in (opened_behind opened m) m.object) (2 ^ 64 - 1)) (told m.call))
    agrees : Agrees (opened_behind opened m) w

  -- what an open leaves that is not refused
  open_noted : (opened : List ℕ) (v : Inside (Recorder T) (Recorded I)) (x : ℕ) (inner : Recorded I) (reason : Reason) (left : T × I) → Agrees opened v
      → inner.serial ≡ min (number_in opened x) (2 ^ 64 - 1)
      → IsNoted opened v (record { object = x; call = Opened reason })
      (record { set = (opened_by None v.set inner reason left).0; inner = λ o. if o == x then Some ((opened_by None v.set inner reason left).1) else v.inner o })
  open_noted opened v x inner reason left agrees own = record {
    kept = ap (λ n. noted (kept_of v.set) (call n (told (Opened reason)))) next.0;
    agrees = record {
      last = next.1;
      serials = λ o. go o (o == x) refl;
    };
  }
    where
      now : List ℕ
      now = opened_behind opened (record { object = x; call = Opened reason })

      next : (serial_after (last_of v.set) inner.serial ≡ min (number_in now x) (2 ^ 64 - 1)) × (last_after (last_of v.set) inner.serial ≡ min (length now) (2 ^ 64 - 1))
      next = drawn opened x (last_of v.set) inner.serial agrees.last own (number_in opened x == 0) refl

      go : (o : ℕ) (b : Bool) → (o == x) ≡ b → HasSerial (min (number_in now o) (2 ^ 64 - 1)) (if b then Some ((opened_by None v.set inner reason left).1) else v.inner o)
      go o true same = next.0 ∙ ap (λ n. min (number_in now n) (2 ^ 64 - 1)) (sym (eqb-true o x same))
      go o false other =
          subst (λ n. HasSerial (min n (2 ^ 64 - 1)) (v.inner o)) (sym (other_behind opened (record { object = x; call = Opened reason }) o (either_way o x other))) (agrees.serials o)

  -- what a call leaves that is not refused
  called_noted : (opened : List ℕ) (v : Inside (Recorder T) (Recorded I)) (x : ℕ) (inner : Recorded I) (what : Call) → Agrees opened v
      → inner.serial ≡ min (number_in opened x) (2 ^ 64 - 1) → refuses recording what v.set inner ≡ None
      → IsNoted opened v (record { object = x; call = what })
      (record { set = (called recording what v.set inner).0; inner = λ o. if o == x then (called recording what v.set inner).1 else v.inner o })
  called_noted opened v x inner (Opened reason) agrees own taken =
      subst
      (λ r. IsNoted opened v (record { object = x; call = Opened reason })
      (record { set = (opened_by r v.set inner reason (below.opened v.set.part inner.part reason)).0; inner = λ o. if o == x then Some ((opened_by r v.set inner reason (below.opened v.set.part inner.part reason)).1) else v.inner o }))
      (sym taken) (open_noted opened v x inner reason (below.opened v.set.part inner.part reason) agrees own)
  called_noted opened v x inner (Closed process_left system_left) agrees own taken = record {
    kept = ap (λ n. noted (kept_of v.set) (call n (told (Closed process_left system_left)))) own;
    agrees = record { last = agrees.last; serials = λ o. go o (o == x) refl };
  }
    where
      go : (o : ℕ) (b : Bool) → (o == x) ≡ b → HasSerial (min (number_in opened o) (2 ^ 64 - 1)) (if b then (called recording (Closed process_left system_left) v.set inner).1 else v.inner o)
      go o true same = own ∙ ap (λ n. min (number_in opened n) (2 ^ 64 - 1)) (sym (eqb-true o x same))
      go o false other = agrees.serials o
  called_noted opened v x inner Deleted agrees own taken = record {
    kept = ap (λ n. noted (kept_of v.set) (call n (told Deleted))) own;
    agrees = record { last = agrees.last; serials = λ o. go o (o == x) };
  }
    where
      go : (o : ℕ) (b : Bool) → HasSerial (min (number_in opened o) (2 ^ 64 - 1)) (if b then None else v.inner o)
      go o true = tt
      go o false = agrees.serials o

  -- a call in the log, which finds the inner value of its object
  noted_call : (opened : List ℕ) (v : Inside (Recorder T) (Recorded I)) (m : Made) → Agrees opened v → is_some (v.inner m.object) ≡ true
      → option_and_then (refuses recording m.call v.set) (v.inner m.object) ≡ None → IsNoted opened v m (after_call recording v m)
  noted_call opened v m agrees some taken = go (v.inner m.object) (agrees.serials m.object) some taken
    where
      go : (found : Option (Recorded I)) → HasSerial (min (number_in opened m.object) (2 ^ 64 - 1)) found → is_some found ≡ true → option_and_then (refuses recording m.call v.set) found ≡ None
          → IsNoted opened v m
          (option_map_or (λ inner. record { set = (called recording m.call v.set inner).0; inner = λ o. if o == m.object then (called recording m.call v.set inner).1 else v.inner o }) found v)
      go None own some taken = absurd (false≢true some)
      go (Some inner) own some taken = called_noted opened v m.object inner m.call agrees own taken

  -- the calls of a log, one after another
  noted_calls : (opened : List ℕ) (v : Inside (Recorder T) (Recorded I)) (log : List Made) → Agrees opened v → FindValues recording v log
      → kept_of (after_calls recording v log).set ≡ all_noted (kept_of v.set) (noted_from opened log)
  noted_calls opened v [] agrees finds = refl
  noted_calls opened v (m ∷ log) agrees finds =
      let one = noted_call opened v m agrees finds.0 finds.1 in
      noted_calls (opened_behind opened m) (after_call recording v m) log one.agrees finds.2 ∙ ap (λ kept. all_noted kept (noted_from (opened_behind opened m) log)) one.kept

  -- ---- what comes to be has no serial yet

  -- what a parse procedure answers
  unopened_front : (a : ParseAnswer F I) (used : ℕ) (next : F) (inner : Recorded I) → unopened_answer a ≡ Front used next inner → inner.serial ≡ 0
  unopened_front Itself used next inner e = cc
  unopened_front (Front n face part) used next inner e = cc
  unopened_front (Reparse text) used next inner e = cc
  unopened_front (Refused k) used next inner e = cc

  -- what a parse ends with, and what is brought of it
  parse_unopened : {face : F} {rest : List ℕ} {outcome : ParseOutcome F (Recorded I)} → ParseEnds recording face rest outcome → HasSerial 0 (made_by_parse (Some outcome))
  parse_unopened (ends_itself e) = tt
  parse_unopened (ends_reparse e) = tt
  parse_unopened (ends_refused e) = tt
  parse_unopened {face = face} {rest = rest} (ends_made {next = next} {used = used} {inner = inner} e all) = unopened_front (below.parsed face rest) used next inner e
  parse_unopened (goes_on e less later) = parse_unopened later

  parsed_unopened : (s : State K (Recorder T) F (Recorded I)) (x : PendingOpen K) (parse : ParseRun) (outcome : Option (ParseOutcome F (Recorded I))) → IsParsed recording s x parse outcome → HasSerial 0 (made_by_parse outcome)
  parsed_unopened s x run.Unrun outcome h = subst (λ a. HasSerial 0 (made_by_parse a)) (sym h) tt
  parsed_unopened s x run.NoMemory outcome h = subst (λ a. HasSerial 0 (made_by_parse a)) (sym h) tt
  parsed_unopened s x run.Ran None h = tt
  parsed_unopened s x run.Ran (Some outcome) h = go (face_of s x.object) h
    where
      go : (face : Option F) → MatchOption face ⊥ (λ f. ParseEnds recording f x.rest outcome) → HasSerial 0 (made_by_parse (Some outcome))
      go None h = absurd h
      go (Some face) h = parse_unopened h

  pending_unopened : (s : State K (Recorder T) F (Recorded I)) (found : Option (PendingOpen K)) (parse : ParseRun) (outcome : Option (ParseOutcome F (Recorded I)))
      → MatchOption found ⊥ (λ x. IsParsed recording s x parse outcome) → HasSerial 0 (made_by_parse outcome)
  pending_unopened s None parse outcome h = absurd h
  pending_unopened s (Some x) parse outcome h = parsed_unopened s x parse outcome h

  -- what comes to be in a step, and in a run
  brought_unopened : (b : Bool) (made : Option (Recorded I)) → HasSerial 0 made → HasSerial 0 (if b then made else None)
  brought_unopened true made h = h
  brought_unopened false made h = tt

  command_unopened : (s t : State K (Recorder T) F (Recorded I)) (command : Command K) (o : ℕ) → HasSerial 0 (made_by_command recording s t command o)
  command_unopened s t (CreateObject where_to attrs kind args) o = brought_unopened (is_drawn s t (CreateObject where_to attrs kind args) o) (Some (((recording).made kind args).1)) refl
  command_unopened s t command o = tt

  event_unopened : (s t : State K (Recorder T) F (Recorded I)) (event : Event K) (outcome : Option (ParseOutcome F (Recorded I))) (o : ℕ) → IsBrought recording s event outcome → HasSerial 0 (made_by_event recording s t event outcome o)
  event_unopened s t (Start p command) outcome o h = command_unopened s t command o
  event_unopened s t (Resume ticket run.Unrun) outcome o h = absurd h
  event_unopened s t (Resume ticket run.Ran) outcome o h = brought_unopened (o == ticket) (made_by_parse outcome) (pending_unopened s (pending_of s ticket) run.Ran outcome h)
  event_unopened s t (Resume ticket run.NoMemory) outcome o h = brought_unopened (o == ticket) (made_by_parse outcome) (pending_unopened s (pending_of s ticket) run.NoMemory outcome h)
  event_unopened s t (Abandon ticket parse) outcome o h = brought_unopened (o == ticket) (made_by_parse outcome) (pending_unopened s (pending_of s ticket) parse outcome h)

  either_unopened : (one other : Option (Recorded I)) → HasSerial 0 one → HasSerial 0 other → HasSerial 0 (option_or one other)
  either_unopened None other first second = second
  either_unopened (Some inner) other first second = first

  run_unopened : (s : State K (Recorder T) F (Recorded I)) (n : ℕ) (steps : List (Passed K (Recorder T) F (Recorded I))) (o : ℕ) → Passes recording s n steps → HasSerial 0 (made_in_run recording s steps o)
  run_unopened s n [] o passes = tt
  run_unopened s n (x ∷ xs) o passes =
      either_unopened (made_by_event recording s x.after x.entry.event x.outcome o) (made_in_run recording x.after xs o) (event_unopened s x.after x.entry.event x.outcome o passes.1)
      (run_unopened x.after (n + 1) xs o passes.3)

  -- ---- the whole run

  pub recorded_calls : (first : Recorder T) (room : ℕ) (steps : List (Passed K (Recorder T) F (Recorded I)))
      → kept_of first ≡ none_kept room → last_of first ≡ 0 → Passes recording (opening first) 0 steps → (log : List Made) × IsRecorded K T F I below first room steps log
  recorded_calls first room steps empty undrawn passes = (log, record { made = made; all = all; front = front; others = others })
    where
      log : List Made
      log = (calls_made recording first steps passes).0

      made : AreMade K (Recorder T) F (Recorded I) recording first steps log
      made = (calls_made recording first steps passes).1

      begins : (o : ℕ) → BeginsOpen (calls_on log o)
      begins o =
          let life = whole_life recording first steps o passes in
          subst BeginsOpen (sym (made.told o)) (life_begins (calls_of_run (opening first) steps o) life.counted life.deleted)

      agrees : Agrees [] (begins_with recording first steps)
      agrees = record {
        last = undrawn;
        serials = λ o. run_unopened (opening first) 0 steps o passes;
      }

      list : kept_of (left_by (opening first) steps).set ≡ all_noted (none_kept room) (under_serials log)
      list =
          ap kept_of (sym made.set) ∙ noted_calls [] (begins_with recording first steps) log agrees made.found
          ∙ (λ i. all_noted (empty i) (noted_is_told [] log (λ o none. begins o) i))

      front : (kept_of (left_by (opening first) steps).set).calls ≡ take room (under_serials log)
      front = ap (λ kept. kept.calls) list ∙ none_then_kept room (under_serials log)

      as_long : length (under_serials log) ≡ length log
      as_long = length-map log (λ m. call (serial_in log m.object) (told m.call))

      others : (kept_of (left_by (opening first) steps).set).lost ≡ min (length log - room) (2 ^ 64 - 1)
      others = ap (λ kept. kept.lost) list ∙ none_then_lost room (under_serials log) ∙ ap (λ n. min (n - room) (2 ^ 64 - 1)) as_long

      all : (kept_of (left_by (opening first) steps).set).lost ≡ 0 → (kept_of (left_by (opening first) steps).set).calls ≡ under_serials log
      all none = front ∙ take_all room (under_serials log) (omega (arith, as_long, others, none))
