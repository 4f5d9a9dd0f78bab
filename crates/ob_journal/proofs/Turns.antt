-- A line that is read, that nothing is found wrong with and whose step is made, is played.
use Rattle.std.proofs.Common.{◌≡◌, ◌∙◌, ◌+◌, ◌==◌, Bool, true, false, not, ◌||◌, nat_lt, [], ◌∷◌, None, Result, Ok, Err, IfOk, refl, sym, eqb-true}
use Rattle.std.proofs.lemmas.Bool.{ltb-true}
use Rattle.ob_model.specs.declared.reply.Answer.{Answer}
use Rattle.ob_model.specs.Step.{Step}
use Rattle.ob_standard.specs.Standard.{standard}
use Rattle.ob_entries.specs.Segments.{most_entries}
use Rattle.ob_reader.specs.declared.line.Line.{Line}
use Rattle.ob_reader.specs.Reading.{said_of}
use Rattle.ob_journal.specs.declared.report.Cause.TheVariants as cause
use Rattle.ob_journal.specs.Journal.{early_causes, first_cause, first_of, has_room, lacks_ticket, seats_of}
use Rattle.ob_journal.specs.Played.{Played, PlaysEntry}

pub ok_weaker : {T E : Type 0} (r : Result T E) (P Q : T → Type 0) → ((x : T) → P x → Q x) → IfOk r P → IfOk r Q
ok_weaker (Ok x) P Q follows h = follows x h
ok_weaker (Err e) P Q follows h = tt

-- no cause is found early
none_early : (turn seat ticket : Bool) → first_cause ((turn, cause.Number) ∷ (seat, cause.Seat) ∷ (ticket, cause.Ticket) ∷ []) ≡ None → (turn ≡ false) × (seat ≡ false)
none_early false false false e = (refl, refl)
none_early true seat ticket e = cc
none_early false true ticket e = cc
none_early false false true e = cc

both_yes : (a b : Bool) → (not a || not b) ≡ false → (a ≡ true) × (b ≡ true)
both_yes true true e = (refl, refl)
both_yes true false e = cc
both_yes false b e = cc

yes_of : (a : Bool) → not a ≡ false → a ≡ true
yes_of true e = refl
yes_of false e = cc

module _ (p : Played) (line : Line) (early : first_cause (early_causes p.state p.position line) ≡ None) where
  pub entry_is_played : (q : Played)
      → (a : Answer) × Step standard p.state line.step a q.state × (said_of a ≡ line.reply) × (q.position ≡ record { header = p.position.header; count = line.number }) → PlaysEntry p line q
  entry_is_played q (a, step, said, there) =
      let parts = none_early (not (line.number == p.position.count + 1) || not (has_room p.position)) (not (nat_lt line.seat (seats_of p.position.header))) (lacks_ticket p.state line.step) early in
      let turn = both_yes (line.number == p.position.count + 1) (has_room p.position) parts.0 in
      let next = eqb-true line.number (p.position.count + 1) turn.0 in
      record {
        entry = record { number = line.number; seat = line.seat; event = line.step; answer = a };
        told = λ i. record { number = line.number; seat = line.seat; step = line.step; reply = sym said i };
        next = next;
        room = ltb-true (p.position.count + 1) (first_of p.position.header + most_entries) turn.1;
        seat = ltb-true line.seat (seats_of p.position.header) (yes_of (nat_lt line.seat (seats_of p.position.header)) parts.1);
        step = step;
        position = there ∙ (λ i. record { header = p.position.header; count = next i });
      }
