-- An open that begins to be pending, or is pending no longer, and an object under its ticket, leave a sound state.
use Rattle.std.proofs.Common.{◌≡◌, ◌≢◌, ℕ, ◌<◌, ◌+◌, ◌==◌, true, false, not, List, get_or, All, Option, None, Some, filter, ap, ◌∙◌, sym, arith, eq-eqb}
use Rattle.std.specs.Prelude.{MatchOption}
use Rattle.std.proofs.lemmas.List.Elements.{All-push, All-weaker, All-filter}
use Rattle.std.proofs.lemmas.List.Elements.{filter_passes}
use Rattle.std.proofs.lemmas.List.Kept.{AllPairs-filter}
use Rattle.std.proofs.lemmas.List.Quantifiers.{all_pairs_push}
use Rattle.ob_model.specs.declared.state.Body.TheVariants.{Other}
use Rattle.ob_model.specs.declared.state.Object.{Object}
use Rattle.ob_model.specs.declared.state.PendingOpen.{PendingOpen}
use Rattle.ob_model.specs.declared.state.Wanted.{Wanted}
use Rattle.ob_model.specs.Procedures.{ParseOutcome, EndsItself, EndsMade, EndsReparse, EndsRefused}
use Rattle.ob_model.specs.State.{State}
use Rattle.ob_model.specs.PendingOpens.{pending_of, with_pending, without_pending, with_instance}
use Rattle.ob_model.specs.Parses.{parsed_state}
use Rattle.ob_model.specs.Sound.{IsSound, Stands}
use Rattle.ob_model.proofs.SoundPaths.{find_of}
use Rattle.ob_model.proofs.Soundness.{stands_drawn, inserted_sound, set_sound}

module _ {K T F I : Type 0} (s : State K T F I) where
  pub begun_pending_sound : (p attrs : ℕ) (wanted : Wanted K) (o : ℕ) (rest : List ℕ) (n : ℕ) → IsSound s → Stands s o → IsSound (with_pending s p attrs wanted o rest n)
  begun_pending_sound p attrs wanted o rest n sound stands =
      let drawn = set_sound s s.set (s.next_id + 1) (omega arith) sound in
      record {
        objects = drawn.objects;
        processes = sound.processes;
        rows = sound.rows;
        handles = sound.handles;
        pending = record {
          standing = All-push (λ x. Stands s x.object) s.pending _ sound.pending.standing stands;
          ticketed = All-push (λ x. x.ticket < s.next_id + 1) s.pending _ drawn.pending.ticketed (omega arith);
          later = All-push (λ x. x.object < x.ticket) s.pending _ sound.pending.later (stands_drawn s.next_id s.objects o sound.objects.drawn stands);
          reserved = All-push (λ x. All (λ y. y.id ≢ x.ticket) s.objects) s.pending _ sound.pending.reserved
              (All-weaker (λ y. y.id < s.next_id) (λ y. y.id ≢ s.next_id) (λ y less same. omega (arith, less, same)) s.objects sound.objects.drawn);
          awaited = all_pairs_push (λ a b. a.ticket < b.ticket) s.pending _ sound.pending.awaited sound.pending.ticketed;
        };
      }

  pub without_pending_sound : (ticket : ℕ) → IsSound s → IsSound (without_pending s ticket)
  without_pending_sound ticket sound = record {
    objects = sound.objects;
    processes = sound.processes;
    rows = sound.rows;
    handles = sound.handles;
    pending = record {
      standing = All-filter (λ x. not (x.ticket == ticket)) (λ x. Stands s x.object) s.pending sound.pending.standing;
      ticketed = All-filter (λ x. not (x.ticket == ticket)) (λ x. x.ticket < s.next_id) s.pending sound.pending.ticketed;
      later = All-filter (λ x. not (x.ticket == ticket)) (λ x. x.object < x.ticket) s.pending sound.pending.later;
      reserved = All-filter (λ x. not (x.ticket == ticket)) (λ x. All (λ y. y.id ≢ x.ticket) s.objects) s.pending sound.pending.reserved;
      awaited = AllPairs-filter (λ a b. a.ticket < b.ticket) (λ x. not (x.ticket == ticket)) s.pending sound.pending.awaited;
    };
  }

  module _ (ticket : ℕ) (face : F) (inner : I) (free : All (λ y. y.id ≢ ticket) s.objects) where
    abbrev pub new : Object F I
    new = record { id = ticket; body = Other face inner; permanent = false; exclusive = false }

    abbrev pub t : State K T F I
    t = with_instance s ticket face inner

    pub instance_sound : ticket < s.next_id → All (λ x. x.ticket ≢ ticket) s.pending → IsSound s → IsSound t
    instance_sound drawn others sound = inserted_sound s new s.next_id (omega arith) drawn tt free (λ k d within same. others k d within (sym same)) sound

-- what isn't kept away by a test of its ticket has another ticket
other_tickets : {K : Type 0} (ticket : ℕ) (xs : List (PendingOpen K)) → All (λ x. x.ticket ≢ ticket) (filter (λ x. not (x.ticket == ticket)) xs)
other_tickets ticket xs k d within = λ same.
    let passes : not ((get_or (filter (λ x. not (x.ticket == ticket)) xs) k d).ticket == ticket) ≡ true = filter_passes (λ x. not (x.ticket == ticket)) xs k d within in
    let is : ((get_or (filter (λ x. not (x.ticket == ticket)) xs) k d).ticket == ticket) ≡ true = eq-eqb _ ticket same in
    let opposite : not true ≡ true = ap not (sym is) ∙ passes in
    cc

module _ {K T F I : Type 0} (s : State K T F I) where
  -- the state in which the end of a pending open is judged
  pub parsed_sound : (ticket : ℕ) (outcome : Option (ParseOutcome F I)) → All (λ y. y.id ≢ ticket) s.objects → ticket < s.next_id → IsSound s → IsSound (parsed_state s ticket outcome)
  parsed_sound ticket None free drawn sound = without_pending_sound s ticket sound
  parsed_sound ticket (Some EndsItself) free drawn sound = without_pending_sound s ticket sound
  parsed_sound ticket (Some (EndsReparse text)) free drawn sound = without_pending_sound s ticket sound
  parsed_sound ticket (Some (EndsRefused k)) free drawn sound = without_pending_sound s ticket sound
  parsed_sound ticket (Some (EndsMade face inner)) free drawn sound =
      instance_sound (without_pending s ticket) ticket face inner free drawn (other_tickets ticket s.pending) (without_pending_sound s ticket sound)

  -- the pending open of a ticket, where there is one, has a number of its own, which was drawn
  abbrev pub HasTicket : PendingOpen K → Type 0
  HasTicket x = All (λ y. y.id ≢ x.ticket) s.objects × (x.ticket < s.next_id)

  pub has_ticket : (ticket : ℕ) → IsSound s → MatchOption (pending_of s ticket) (Unit {0}) HasTicket
  has_ticket ticket sound = find_of HasTicket (λ x. x.ticket == ticket) s.pending (λ k d within. (sound.pending.reserved k d within, sound.pending.ticketed k d within))
