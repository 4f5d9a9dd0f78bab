-- Lines that a seat has played so far, and opens that it has given up so far.
use Rattle.std.proofs.Common.{◌≡◌, ◌∙◌, ◌⊎◌, inl, inr, ℕ, ◌+◌, Bool, true, false, List, [], ◌∷◌, ◌++◌, map, length, None, Some, ap, refl, sym, subst, arith}
use Rattle.std.proofs.lemmas.List.{append_assoc, length-append, map-append}
use Rattle.ob_base.specs.declared.status.Status.TheVariants.{Success}
use Rattle.ob_model.specs.declared.reply.Event.TheVariants.{Abandon}
use Rattle.ob_model.specs.declared.reply.ParseRun.TheVariants.{Unrun}
use Rattle.ob_model.specs.Refusals.{answers}
use Rattle.ob_model.specs.Run.{Entry}
use Rattle.ob_standard.specs.Standard.{StandardKind}
use Rattle.ob_runner.specs.Completes.{step_of}
use Rattle.ob_lines.specs.Lines.{lines_of}
use Rattle.ob_worker_lines.specs.declared.form.SeatForm.{SeatForm}
use Rattle.ob_worker_lines.specs.Cuts.{AreSeatLines, Lines}
use Rattle.ob_worker_lines.specs.Forms.{BeginsWithSeatLine, IsLineOfSeat}
use Rattle.ob_worker_lines.proofs.Forms.{form_of_seat}
use Rattle.ob_requests.specs.Variables.{Variables}
use Rattle.ob_effects.specs.Waiting.{AreTickets, given_up}
use Rattle.ob_seats.specs.Received.{Entries, IsReceived}
use Rattle.ob_seats.specs.Played.{AreGivenUp, ArePlayed, IsLinePlayed, IsSeatPlayed}
use Rattle.ob_base.specs.declared.fault.Fault.{Fault}
use Rattle.ob_seats.specs.declared.stop.Stop.{Stop}
use Rattle.ob_seats.specs.declared.stop.Stopped.{Stopped}
use Rattle.ob_seats.specs.Stopped.{AreAmongGivenUp, AreLetGo, IsEndStopped, IsLineBegun, IsPartStopped, IsRequestBegun, IsSeatStopped, IsStepBegun, IsStopAt}
use Rattle.ob_lines.specs.declared.form.Form.TheVariants.{Nothing, Stat, Asks, Waits}
use Rattle.ob_lines.specs.declared.pending.PendingForm.{PendingForm}
use Rattle.ob_lines.specs.declared.pending.PendingForm.TheVariants.{Begin, End, Drop}
use Rattle.ob_lines.specs.declared.request.Request.{Request}
use Rattle.ob_worker_lines.specs.declared.form.SeatForm.TheVariants.{Seal, Line}
use Rattle.ob_seats.specs.declared.stop.Stop.TheVariants.{Refused}
use Rattle.ob_seats.proofs.Told.{adds_none}

-- one line more is played
pub played_more : (done : Lines) (was variables variables' : Variables) (entries front : Entries) (line : List ℕ) (form : SeatForm (List ℕ)) → ArePlayed done was entries variables → IsLineOfSeat line form
    → IsLinePlayed form variables front variables' → ArePlayed (done ++ line ∷ []) was (entries ++ front) variables'
played_more [] was variables variables' entries front line form (none, same) is played = (
  form,
  is,
  front,
  [],
  variables',
  ap (λ es. es ++ front) none ∙ adds_none front,
  subst (λ w. IsLinePlayed form w front variables') same played,
  (refl, refl),
)
played_more (l ∷ ls) was variables variables' entries front line form (first, its, head, tail, between, whole, first_played, others) is played = (
  first,
  its,
  head,
  tail ++ front,
  between,
  ap (λ es. es ++ front) whole ∙ append_assoc head tail front,
  first_played,
  played_more ls between variables variables' tail front line form others is played,
)

-- the lines of a text were played as far as this rest
pub record IsPlaying (text : List ℕ) (first : ℕ) (was : Variables) (receipts : Entries) (rest : List ℕ) (number : ℕ) (variables : Variables) (receipts' : Entries) : Type 0 where
  pub done : Lines
  pub entries : Entries
  pub whole : lines_of text ≡ done ++ lines_of rest
  pub numbered : number ≡ first + length done
  pub left : AreSeatLines (lines_of rest)
  pub received : receipts' ≡ receipts ++ entries
  pub played : ArePlayed done was entries variables

pub plays_none : (text : List ℕ) (first : ℕ) (was : Variables) (receipts : Entries) → AreSeatLines (lines_of text) → IsPlaying text first was receipts text first was receipts
plays_none text first was receipts all = record {
  done = [];
  entries = [];
  whole = refl;
  numbered = omega arith;
  left = all;
  received = adds_none receipts;
  played = (refl, refl);
}

module _ (text : List ℕ) (first : ℕ) (was : Variables) (receipts : Entries) (rest : List ℕ) (number : ℕ) (variables : Variables) (receipts' : Entries) (playing : IsPlaying text first was receipts rest number variables receipts') where
  module _ (behind : List ℕ) (form : SeatForm (List ℕ)) (begins : BeginsWithSeatLine rest (Some form) behind) where
    pub plays_more : (variables'' : Variables) (receipts'' front : Entries) → receipts'' ≡ receipts' ++ front → IsLinePlayed form variables front variables''
        → IsPlaying text first was receipts behind (number + 1) variables'' receipts''
    plays_more variables'' receipts'' front told played = record {
      done = playing.done ++ begins.0 ∷ [];
      entries = playing.entries ++ front;
      whole = playing.whole ∙ (ap (λ ls. playing.done ++ ls) begins.1 ∙ sym (append_assoc playing.done (begins.0 ∷ []) (lines_of behind)));
      numbered = ap (λ n. n + 1) playing.numbered ∙ (omega arith ∙ ap (λ n. first + n) (sym (length-append playing.done (begins.0 ∷ []))));
      left = (subst AreSeatLines begins.1 playing.left).1;
      received = told ∙ (ap (λ es. es ++ front) playing.received ∙ append_assoc receipts playing.entries front);
      played = played_more playing.done was variables variables'' playing.entries front begins.0 form playing.played begins.2 played;
    }

    -- or it stops
    pub stops_here : (known : Fault → Type 0) (variables'' : Variables) (receipts'' front : Entries) (why : Stop) → receipts'' ≡ receipts' ++ front → IsLineBegun known form variables front why variables''
        → (entries : Entries) × (receipts'' ≡ receipts ++ entries) × IsPartStopped known first (lines_of text) was entries (record { line = number; why = why }) variables''
    stops_here known variables'' receipts'' front why told begun = (
      playing.entries ++ front,
      told ∙ (ap (λ es. es ++ front) playing.received ∙ append_assoc receipts playing.entries front),
      record {
        front = playing.done;
        line = begins.0;
        later = lines_of behind;
        whole = playing.whole ∙ ap (λ ls. playing.done ++ ls) begins.1;
        number_is = playing.numbered;
        own = playing.entries;
        begun = front;
        received = refl;
        between = variables;
        played = playing.played;
        form = form;
        is_form = begins.2;
        stops = begun;
      },
    )

  pub has_form : (behind : List ℕ) → BeginsWithSeatLine rest None behind → ⊥
  has_form behind (line, is, none) = let form = form_of_seat line (subst AreSeatLines is playing.left).0 in none form.0 form.1

  module _ (over : rest ≡ []) where
    all_done : lines_of text ≡ playing.done
    all_done = playing.whole ∙ (ap (λ r. playing.done ++ lines_of r) over ∙ sym (adds_none playing.done))

    pub plays_all : (entries : Entries) × (receipts' ≡ receipts ++ entries) × ArePlayed (lines_of text) was entries variables
    plays_all = (playing.entries, playing.received, subst (λ ls. ArePlayed ls was playing.entries variables) (sym all_done) playing.played)

    pub numbers_all : number ≡ first + length (lines_of text)
    numbers_all = playing.numbered ∙ ap (λ ls. first + length ls) (sym all_done)

-- opens were given up so far, and these are left
pub record AreGoing (tickets left : List ℕ) (receipts receipts' : Entries) : Type 0 where
  pub gone : List ℕ
  pub entries : Entries
  pub whole : tickets ≡ gone ++ left
  pub received : receipts' ≡ receipts ++ entries
  pub given : map step_of entries ≡ map given_up gone

pub none_gone : (tickets : List ℕ) (receipts : Entries) → AreGoing tickets tickets receipts receipts
none_gone tickets receipts = record { gone = []; entries = []; whole = refl; received = adds_none receipts; given = refl }

pub one_gone : (tickets left left' : List ℕ) (receipts receipts' receipts'' : Entries) (n : ℕ) (e : Entry StandardKind) → left ≡ n ∷ left' → receipts'' ≡ receipts' ++ e ∷ [] → step_of e ≡ given_up n
    → AreGoing tickets left receipts receipts' → AreGoing tickets left' receipts receipts''
one_gone tickets left left' receipts receipts' receipts'' n e first told step going = record {
  gone = going.gone ++ n ∷ [];
  entries = going.entries ++ e ∷ [];
  whole = going.whole ∙ (ap (λ ks. going.gone ++ ks) first ∙ sym (append_assoc going.gone (n ∷ []) left'));
  received = told ∙ (ap (λ es. es ++ e ∷ []) going.received ∙ append_assoc receipts going.entries (e ∷ []));
  given = map-append step_of going.entries (e ∷ []) ∙ (ap (λ xs. xs ++ step_of e ∷ []) going.given ∙ (ap (λ x. map given_up going.gone ++ x ∷ []) step ∙ sym (map-append given_up going.gone (n ∷ []))));
}

pub all_gone : (variables : Variables) (tickets left : List ℕ) (receipts receipts' : Entries) → left ≡ [] → AreTickets variables.tickets tickets → AreGoing tickets left receipts receipts'
    → (entries : Entries) × (receipts' ≡ receipts ++ entries) × AreGivenUp variables entries
all_gone variables tickets left receipts receipts' none listed going = (
  going.entries,
  going.received,
  (tickets, listed, going.given ∙ ap (map given_up) (adds_none going.gone ∙ (ap (λ ks. going.gone ++ ks) (sym none) ∙ sym going.whole))),
)

-- some opens were given up so far by steps, and these are left
pub record AreLeaving (tickets left : List ℕ) (receipts receipts' : Entries) : Type 0 where
  pub gone : List ℕ
  pub entries : Entries
  pub whole : tickets ≡ gone ++ left
  pub received : receipts' ≡ receipts ++ entries
  pub given : AreAmongGivenUp gone entries

pub none_left : (tickets : List ℕ) (receipts : Entries) → AreLeaving tickets tickets receipts receipts
none_left tickets receipts = record { gone = []; entries = []; whole = refl; received = adds_none receipts; given = refl }

among_more : (gone : List ℕ) (entries : Entries) (n : ℕ) → AreAmongGivenUp gone entries → AreAmongGivenUp (gone ++ n ∷ []) entries
among_more [] entries n none = inl none
among_more (g ∷ gone) entries n (inl later) = inl (among_more gone entries n later)
among_more (g ∷ gone) entries n (inr (e, es, is, step, later)) = inr (e, es, is, step, among_more gone es n later)

among_one : (gone : List ℕ) (entries : Entries) (n : ℕ) (e : Entry StandardKind) → step_of e ≡ given_up n → AreAmongGivenUp gone entries
    → AreAmongGivenUp (gone ++ n ∷ []) (entries ++ e ∷ [])
among_one [] entries n e step none = inr (e, [], ap (λ (es : Entries). es ++ e ∷ []) none, step, refl)
among_one (g ∷ gone) entries n e step (inl later) = inl (among_one gone entries n e step later)
among_one (g ∷ gone) entries n e step (inr (f, es, is, its, later)) = inr (f, es ++ e ∷ [], ap (λ (xs : Entries). xs ++ e ∷ []) is, its, among_one gone es n e step later)

leaves_more : (tickets left left' : List ℕ) (receipts receipts' receipts'' : Entries) (n : ℕ) → left ≡ n ∷ left' → receipts'' ≡ receipts'
    → AreLeaving tickets left receipts receipts' → AreLeaving tickets left' receipts receipts''
leaves_more tickets left left' receipts receipts' receipts'' n first same leaving = record {
  gone = leaving.gone ++ n ∷ [];
  entries = leaving.entries;
  whole = leaving.whole ∙ (ap (λ ks. leaving.gone ++ ks) first ∙ sym (append_assoc leaving.gone (n ∷ []) left'));
  received = same ∙ leaving.received;
  given = among_more leaving.gone leaving.entries n leaving.given;
}

leaves_one : (tickets left left' : List ℕ) (receipts receipts' receipts'' : Entries) (n : ℕ) (e : Entry StandardKind) → left ≡ n ∷ left' → receipts'' ≡ receipts' ++ e ∷ [] → step_of e ≡ given_up n
    → AreLeaving tickets left receipts receipts' → AreLeaving tickets left' receipts receipts''
leaves_one tickets left left' receipts receipts' receipts'' n e first told step leaving = record {
  gone = leaving.gone ++ n ∷ [];
  entries = leaving.entries ++ e ∷ [];
  whole = leaving.whole ∙ (ap (λ ks. leaving.gone ++ ks) first ∙ sym (append_assoc leaving.gone (n ∷ []) left'));
  received = told ∙ (ap (λ es. es ++ e ∷ []) leaving.received ∙ append_assoc receipts leaving.entries (e ∷ []));
  given = among_one leaving.gone leaving.entries n e step leaving.given;
}

-- one more doesn't wait any longer, by a step or by none
pub leaves : (tickets left left' : List ℕ) (receipts receipts' receipts'' : Entries) (n : ℕ) (made : Bool) → left ≡ n ∷ left'
    → (made ≡ true → IsReceived receipts' (Abandon n Unrun) (answers Success) receipts'') → (made ≡ false → receipts'' ≡ receipts')
    → AreLeaving tickets left receipts receipts' → AreLeaving tickets left' receipts receipts''
leaves tickets left left' receipts receipts' receipts'' n true first one none leaving =
    let told = one refl in leaves_one tickets left left' receipts receipts' receipts'' n told.0 first told.1 (λ i. (told.2 i, told.3 i)) leaving
leaves tickets left left' receipts receipts' receipts'' n false first one none leaving = leaves_more tickets left left' receipts receipts' receipts'' n first (none refl) leaving

pub all_let_go : (variables : Variables) (tickets left : List ℕ) (receipts receipts' : Entries) → left ≡ [] → AreTickets variables.tickets tickets → AreLeaving tickets left receipts receipts'
    → (entries : Entries) × (receipts' ≡ receipts ++ entries) × AreLetGo variables entries
all_let_go variables tickets left receipts receipts' none listed leaving = (
  leaving.entries,
  leaving.received,
  (
    tickets,
    listed,
    subst (λ ks. AreAmongGivenUp ks leaving.entries) (adds_none leaving.gone ∙ (ap (λ ks. leaving.gone ++ ks) (sym none) ∙ sym leaving.whole)) leaving.given,
  ),
)

-- a seat that stops drops what waits: at one of its lines, or at its end
seat_stopped : (known : Fault → Type 0) (first : ℕ) (lines : Lines) (was left : Variables) (stopped : Stopped) (receipts receipts' receipts'' : Entries)
    → (entries : Entries) × (receipts' ≡ receipts ++ entries) × (IsPartStopped known first lines was entries stopped left ⊎ IsEndStopped first lines was entries stopped left)
    → (entries : Entries) × (receipts'' ≡ receipts' ++ entries) × AreLetGo left entries
    → (entries : Entries) × (receipts'' ≡ receipts ++ entries) × IsSeatStopped known first lines was entries stopped
seat_stopped known first lines was left stopped receipts receipts' receipts'' (own, is, stops) (ended, more, let_go) = (
  own ++ ended,
  more ∙ (ap (λ es. es ++ ended) is ∙ append_assoc receipts own ended),
  record { own = own; ended = ended; left = left; whole = refl; stops = stops; let_go = let_go },
)

-- what is known of a fault is known in other variables
module _ (known known' : Fault → Type 0) (on : (fault : Fault) → known fault → known' fault) where
  stops_so : (why : Stop) → IsStopAt known why → IsStopAt known' why
  stops_so why (fault, is, same) = (fault, on fault is, same)

  request_so : (request : Request (List ℕ)) (process : ℕ) (variables : Variables) (entries : Entries) (why : Stop) (variables' : Variables)
      → IsRequestBegun known request process variables entries why variables' → IsRequestBegun known' request process variables entries why variables'
  request_so request process variables entries why variables' (inl none) = inl none
  request_so request process variables entries why variables' (inr (inl (c, is, off, stop, same))) = inr (inl (c, is, off, stops_so why stop, same))
  request_so request process variables entries why variables' (inr (inr ran)) = inr (inr ran)

  step_so : (pending : PendingForm (List ℕ)) (process : ℕ) (variables : Variables) (entries : Entries) (why : Stop) (variables' : Variables)
      → IsStepBegun known pending process variables entries why variables' → IsStepBegun known' pending process variables entries why variables'
  step_so (Begin want name attrs variable) process variables entries why variables' (inl (none, inl memory, same)) = inl (none, inl memory, same)
  step_so (Begin want name attrs variable) process variables entries why variables' (inl (none, inr stop, same)) = inl (none, inr (stops_so why stop), same)
  step_so (Begin want name attrs variable) process variables entries why variables' (inr not) = inr not
  step_so (End variable) process variables entries why variables' (inl none) = inl none
  step_so (End variable) process variables entries why variables' (inr (inl (gone, stop, same))) = inr (inl (gone, stops_so why stop, same))
  step_so (End variable) process variables entries why variables' (inr (inr not)) = inr (inr not)
  step_so (Drop variable) process variables entries why variables' stranger = stranger

  line_so : (form : SeatForm (List ℕ)) (variables : Variables) (entries : Entries) (why : Stop) (variables' : Variables)
      → IsLineBegun known form variables entries why variables' → IsLineBegun known' form variables entries why variables'
  line_so Seal variables entries why variables' begun = begun
  line_so (Line Nothing) variables entries why variables' begun = begun
  line_so (Line Stat) variables entries why variables' begun = begun
  line_so (Line (Asks process request)) variables entries why variables' begun = request_so request (variables.processes process) variables entries why variables' begun
  line_so (Line (Waits process pending)) variables entries why variables' (makes, begun) = (makes, step_so pending (variables.processes process) variables entries why variables' begun)

  part_so : (first : ℕ) (lines : Lines) (was : Variables) (entries : Entries) (stopped : Stopped) (left : Variables)
      → IsPartStopped known first lines was entries stopped left → IsPartStopped known' first lines was entries stopped left
  part_so first lines was entries stopped left part = record {
    front = part.front;
    line = part.line;
    later = part.later;
    whole = part.whole;
    number_is = part.number_is;
    own = part.own;
    begun = part.begun;
    received = part.received;
    between = part.between;
    played = part.played;
    form = part.form;
    is_form = part.is_form;
    stops = line_so part.form part.between part.begun stopped.why left part.stops;
  }

  -- so a seat that stops at one of its lines
  pub part_stopped : (first : ℕ) (lines : Lines) (was left : Variables) (stopped : Stopped) (receipts receipts' receipts'' : Entries)
      → (entries : Entries) × (receipts' ≡ receipts ++ entries) × IsPartStopped known first lines was entries stopped left
      → (entries : Entries) × (receipts'' ≡ receipts' ++ entries) × AreLetGo left entries
      → (entries : Entries) × (receipts'' ≡ receipts ++ entries) × IsSeatStopped known' first lines was entries stopped
  part_stopped first lines was left stopped receipts receipts' receipts'' (own, is, part) ended =
      seat_stopped known' first lines was left stopped receipts receipts' receipts'' (own, is, inl (part_so first lines was own stopped left part)) ended

-- and one that stops at its end
pub end_stopped : (known : Fault → Type 0) (first : ℕ) (lines : Lines) (was left : Variables) (line : ℕ) (receipts receipts' receipts'' : Entries)
    → line ≡ first + length lines → (entries : Entries) × (receipts' ≡ receipts ++ entries) × ArePlayed lines was entries left
    → (entries : Entries) × (receipts'' ≡ receipts' ++ entries) × AreLetGo left entries
    → (entries : Entries) × (receipts'' ≡ receipts ++ entries) × IsSeatStopped known first lines was entries (record { line = line; why = Refused })
end_stopped known first lines was left line receipts receipts' receipts'' number (own, is, played) ended =
    seat_stopped known first lines was left (record { line = line; why = Refused }) receipts receipts' receipts'' (own, is, inr (record { played = played; number_is = number; refused = refl })) ended

-- a seat plays its lines and gives up what waits
pub seat_played : (lines : Lines) (was behind : Variables) (receipts receipts' receipts'' : Entries) → (entries : Entries) × (receipts' ≡ receipts ++ entries) × ArePlayed lines was entries behind
    → (entries : Entries) × (receipts'' ≡ receipts' ++ entries) × AreGivenUp behind entries → (entries : Entries) × (receipts'' ≡ receipts ++ entries) × IsSeatPlayed lines was entries
seat_played lines was behind receipts receipts' receipts'' (own, is, played) (ended, more, given) = (
  own ++ ended,
  more ∙ (ap (λ es. es ++ ended) is ∙ append_assoc receipts own ended),
  record { own = own; ended = ended; behind = behind; whole = refl; played = played; given_up = given },
)
