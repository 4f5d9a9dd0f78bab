-- What the workers of a script have played, of what became of each.
use Rattle.std.proofs.Common.{◌≡◌, ◌∙◌, ℕ, List, [], ◌∷◌, ◌++◌, All, OnOk, IfErr, Ok, Err, map, ap, refl, sym, subst}
use Rattle.std.proofs.lemmas.List.Elements.{All-head, All-tail, All-nil, All-cons}
use Rattle.std.specs.List.{AllZip}
use Rattle.ob_base.specs.declared.fault.Fault.{Fault}
use Rattle.ob_requests.specs.Variables.{Variables}
use Rattle.ob_seats.specs.Played.{IsSeatPlayed}
use Rattle.ob_seats.specs.Received.{Entries}
use Rattle.ob_seats.specs.Stopped.{IsSeatStopped}
use Rattle.ob_worker_lines.specs.declared.part.Part.{Part}
use Rattle.ob_worker_lines.specs.Parts.{lines_in}
use Rattle.ob_threads.specs.Ended.{SeatOutcome, told_in}
use Rattle.ob_threads.specs.Run.{AreWorkersRun}
use Rattle.ob_threads.specs.Worked.{IsSeatRun, IsWorked}

pub mapped : {A B C : Type 0} (f : B → C) (g : A → B) (xs : List A) → map f (map g xs) ≡ map (λ x. f (g x)) xs
mapped f g [] = refl
mapped f g (x ∷ xs) = λ i. f (g x) ∷ mapped f g xs i

pub all_of_map : {A B : Type 0} (P : B → Type 0) (f : A → B) (xs : List A) → All P (map f xs) → All (λ x. P (f x)) xs
all_of_map P f [] all = All-nil (λ x. P (f x))
all_of_map P f (x ∷ xs) all = All-cons (λ y. P (f y)) x xs (All-head P (f x) (map f xs) all) (all_of_map P f xs (All-tail P (f x) (map f xs) all))

pub map_of_all : {A B : Type 0} (P : B → Type 0) (f : A → B) (xs : List A) → All (λ x. P (f x)) xs → All P (map f xs)
map_of_all P f [] all = All-nil P
map_of_all P f (x ∷ xs) all = All-cons P (f x) (map f xs) (All-head (λ y. P (f y)) x xs all) (map_of_all P f xs (All-tail (λ y. P (f y)) x xs all))

-- a seat runs its part to the end or stops
pub seat_runs : (known : Fault → Type 0) (part : Part) (variables : Variables) (receipts receipts' : Entries) (ended : SeatOutcome) → OnOk ended ((entries : Entries) × (receipts' ≡ receipts ++ entries) × IsSeatPlayed (lines_in part) variables entries)
    → IfErr ended (λ stopped. (entries : Entries) × (receipts' ≡ receipts ++ entries) × IsSeatStopped known part.first (lines_in part) variables entries stopped)
    → (entries : Entries) × (receipts' ≡ receipts ++ entries) × IsSeatRun known part variables entries ended
seat_runs known part variables receipts receipts' (Ok done) played stopped = played
seat_runs known part variables receipts receipts' (Err e) played stopped = stopped

module _ {J W : Type 0} (known : Fault → Type 0) (part : J → Part) (variables : J → Variables) (seat : J → ℕ) (receipts : J → Entries) (seat' : W → ℕ) (receipts' : W → Entries) (ended : W → SeatOutcome) where
  abbrev AreWorked : List J → List W → Type 0
  AreWorked = AllZip (λ j w. IsWorked known (part j) (variables j) (seat j) (seat' w) (receipts j) (receipts' w) (ended w))

  -- their seats stay
  pub seats_stay : (js : List J) (ws : List W) → AreWorked js ws → map seat' ws ≡ map seat js
  seats_stay [] [] worked = refl
  seats_stay [] (w ∷ ws) worked = absurd worked
  seats_stay (j ∷ js) [] worked = absurd worked
  seats_stay (j ∷ js) (w ∷ ws) worked = λ i. worked.0.0 i ∷ seats_stay js ws worked.1 i

  runs : (v : Variables) (j : J) (w : W) → IsWorked known (part j) (variables j) (seat j) (seat' w) (receipts j) (receipts' w) (ended w) → receipts j ≡ [] → variables j ≡ v → IsSeatRun known (part j) v (receipts' w) (ended w)
  runs v j w worked fresh same =
      let is : receipts' w ≡ worked.1.0 = worked.1.1 ∙ ap (λ es. es ++ worked.1.0) fresh in
      subst (λ x. IsSeatRun known (part j) x (receipts' w) (ended w)) same (subst (λ es. IsSeatRun known (part j) (variables j) es (ended w)) (sym is) worked.1.2)

  -- each has run its part
  all_run : (v : Variables) (js : List J) (ws : List W) → AreWorked js ws → All (λ j. receipts j ≡ []) js → All (λ j. variables j ≡ v) js
      → AllZip (λ p (run : Entries × SeatOutcome). IsSeatRun known p v run.0 run.1) (map part js) (map (λ w. (receipts' w, ended w)) ws)
  all_run v [] [] worked fresh same = tt
  all_run v [] (w ∷ ws) worked fresh same = absurd worked
  all_run v (j ∷ js) [] worked fresh same = absurd worked
  all_run v (j ∷ js) (w ∷ ws) worked fresh same = (
    runs v j w worked.0 (All-head (λ x. receipts x ≡ []) j js fresh) (All-head (λ x. variables x ≡ v) j js same),
    all_run v js ws worked.1 (All-tail (λ x. receipts x ≡ []) j js fresh) (All-tail (λ x. variables x ≡ v) j js same),
  )

  pub are_run : (v : Variables) (js : List J) (ws : List W) (theirs : List Entries) (one : SeatOutcome) → AreWorked js ws → All (λ j. receipts j ≡ []) js → All (λ j. variables j ≡ v) js → theirs ≡ map receipts' ws → one ≡ told_in (map ended ws)
      → AreWorkersRun known (map part js) v theirs one
  are_run v js ws theirs one worked fresh same theirs_are told = record {
    runs = map (λ w. (receipts' w, ended w)) ws;
    each = all_run v js ws worked fresh same;
    theirs_are = theirs_are ∙ sym (mapped (λ (run : Entries × SeatOutcome). run.0) (λ w. (receipts' w, ended w)) ws);
    told = told ∙ ap told_in (sym (mapped (λ (run : Entries × SeatOutcome). run.1) (λ w. (receipts' w, ended w)) ws));
  }

  -- and where all came to their ends, they have played their lines
  pub all_play : (v : Variables) (js : List J) (ws : List W) → AreWorked js ws → All (λ w. ended w ≡ Ok tt) ws → All (λ j. receipts j ≡ []) js → All (λ j. variables j ≡ v) js
      → AllZip (λ l es. IsSeatPlayed l v es) (map (λ j. lines_in (part j)) js) (map receipts' ws)
  all_play v [] [] worked done fresh same = tt
  all_play v [] (w ∷ ws) worked done fresh same = absurd worked
  all_play v (j ∷ js) [] worked done fresh same = absurd worked
  all_play v (j ∷ js) (w ∷ ws) worked done fresh same = (
    subst (λ e. IsSeatRun known (part j) v (receipts' w) e) (All-head (λ x. ended x ≡ Ok tt) w ws done) (runs v j w worked.0 (All-head (λ x. receipts x ≡ []) j js fresh) (All-head (λ x. variables x ≡ v) j js same)),
    all_play v js ws worked.1 (All-tail (λ x. ended x ≡ Ok tt) w ws done) (All-tail (λ x. receipts x ≡ []) j js fresh) (All-tail (λ x. variables x ≡ v) j js same),
  )
