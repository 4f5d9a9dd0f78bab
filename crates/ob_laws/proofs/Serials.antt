-- Serials: what an object's is once it was opened, and that the calls noted one after another are those of the log.
use Rattle.std.proofs.Common.{◌≡◌, ◌≢◌, ◌∙◌, ℕ, ◌+◌, ◌-◌, ◌^◌, min, ◌==◌, Bool, true, false, cond, ◌&&◌, if◌then◌else◌, List, [], ◌∷◌, length, filter, map, refl, ap, sym, subst, arith, eqb-true, eq-eqb}
use Rattle.std.proofs.lemmas.Bool.{false≢true}
use Rattle.ob_model.specs.Calls.{Call, Opened, Closed, Deleted}
use Rattle.ob_model.specs.Lifetimes.{is_open, ClosesAreCounted, DeleteIsLast}
use Rattle.ob_plain.specs.Recorder.{call}
use Rattle.ob_plain.specs.declared.calls.Call as recorder
use Rattle.ob_laws.specs.CallsMade.{Made, calls_on}
use Rattle.ob_laws.specs.Recorded.{number_in, opened_behind, opened_by, told}

-- the object that was opened last
pub number_own : (o : ℕ) (opened : List ℕ) → number_in (o ∷ opened) o ≡ length opened + 1
number_own o opened =
    let more : length (o ∷ opened) ≡ length opened + 1 = omega arith in
    ap (λ b. if b then length (o ∷ opened) else number_in opened o) (eq-eqb o o refl) ∙ more

-- an object that comes with its open leaves the others' numbers
number_kept : (x : ℕ) (opened : List ℕ) (o : ℕ) → number_in opened x ≡ 0 → number_in opened o ≢ 0 → number_in (x ∷ opened) o ≡ number_in opened o
number_kept x opened o new some = go (x == o) refl
  where
    go : (b : Bool) → (x == o) ≡ b → (if b then length (x ∷ opened) else number_in opened o) ≡ number_in opened o
    go true same = absurd (some (sym (ap (number_in opened) (eqb-true x o same)) ∙ new))
    go false other = refl

-- and so does one call more
kept_behind : (opened : List ℕ) (m : Made) (o : ℕ) → number_in opened o ≢ 0 → number_in (opened_behind opened m) o ≡ number_in opened o
kept_behind opened m o some = go (is_open m.call) (number_in opened m.object == 0) refl
  where
    go : (a b : Bool) → (number_in opened m.object == 0) ≡ b → number_in (if a && b then m.object ∷ opened else opened) o ≡ number_in opened o
    go true true e = number_kept m.object opened o (eqb-true (number_in opened m.object) 0 e) some
    go true false e = refl
    go false true e = refl
    go false false e = refl

-- and so do more of them
kept_by : (opened : List ℕ) (log : List Made) (o : ℕ) → number_in opened o ≢ 0 → number_in (opened_by opened log) o ≡ number_in opened o
kept_by opened [] o some = refl
kept_by opened (m ∷ log) o some =
    let same = kept_behind opened m o some in
    kept_by (opened_behind opened m) log o (λ none. some (sym same ∙ none)) ∙ same

-- a call on another object leaves an object's number
pub other_behind : (opened : List ℕ) (m : Made) (o : ℕ) → (m.object == o) ≡ false → number_in (opened_behind opened m) o ≡ number_in opened o
other_behind opened m o other = go (is_open m.call) (number_in opened m.object == 0)
  where
    go : (a b : Bool) → number_in (if a && b then m.object ∷ opened else opened) o ≡ number_in opened o
    go true true = ap (λ b. if b then length (m.object ∷ opened) else number_in opened o) other
    go true false = refl
    go false true = refl
    go false false = refl

-- what has no number behind a call had none before it
none_before : (opened : List ℕ) (m : Made) (o : ℕ) → number_in (opened_behind opened m) o ≡ 0 → number_in opened o ≡ 0
none_before opened m o none = go (number_in opened o == 0) refl
  where
    go : (b : Bool) → (number_in opened o == 0) ≡ b → number_in opened o ≡ 0
    go true e = eqb-true (number_in opened o) 0 e
    go false e =
        let some : number_in opened o ≢ 0 = λ zero. false≢true (sym e ∙ eq-eqb (number_in opened o) 0 zero) in
        sym (kept_behind opened m o some) ∙ none

-- the call that leaves its object without a number is no open
unopened_call : (opened : List ℕ) (m : Made) → number_in (opened_behind opened m) m.object ≡ 0 → is_open m.call ≡ false
unopened_call opened m = go (is_open m.call) (number_in opened m.object == 0) refl
  where
    go : (a b : Bool) → (number_in opened m.object == 0) ≡ b → number_in (if a && b then m.object ∷ opened else opened) m.object ≡ 0 → a ≡ false
    go true true e none = absurd (omega (arith, number_own m.object opened, none))
    go true false e none = absurd (false≢true (sym e ∙ eq-eqb (number_in opened m.object) 0 none))
    go false b e none = refl

-- ---- the calls on one object

-- its first call is an open, or it has one call alone, its delete, or none
abbrev pub BeginsOpen : List Call → Type 0
BeginsOpen [] = Unit {0}
BeginsOpen (Opened reason ∷ calls) = Unit {0}
BeginsOpen (Closed process_left system_left ∷ calls) = ⊥
BeginsOpen (Deleted ∷ calls) = calls ≡ []

-- so it is of every object in a run, since closes are counted and a delete is last
pub life_begins : (calls : List Call) → ClosesAreCounted calls → DeleteIsLast calls → BeginsOpen calls
life_begins [] counted deleted = tt
life_begins (Opened reason ∷ calls) counted deleted = tt
life_begins (Closed process_left system_left ∷ calls) counted deleted =
    let e = counted [] calls process_left system_left refl in
    absurd (omega (arith, e))
life_begins (Deleted ∷ calls) counted deleted = (deleted [] calls refl).0

-- behind a first call that is no open stands none
alone : (first : Call) (calls : List Call) → BeginsOpen (first ∷ calls) → is_open first ≡ false → calls ≡ []
alone (Opened reason) calls begins e = absurd (false≢true (sym e))
alone (Closed process_left system_left) calls begins e = absurd begins
alone Deleted calls begins e = begins

-- the calls on the object of the first call, and on another
calls_on-own : (m : Made) (log : List Made) → calls_on (m ∷ log) m.object ≡ m.call ∷ calls_on log m.object
calls_on-own m log = ap (λ b. map (λ x. x.call) (cond b (m ∷ filter (λ x. x.object == m.object) log) (filter (λ x. x.object == m.object) log))) (eq-eqb m.object m.object refl)

calls_on-other : (m : Made) (log : List Made) (o : ℕ) → (m.object == o) ≡ false → calls_on (m ∷ log) o ≡ calls_on log o
calls_on-other m log o other = ap (λ b. map (λ x. x.call) (cond b (m ∷ filter (λ x. x.object == o) log) (filter (λ x. x.object == o) log))) other

-- an object without calls keeps its number
uncalled : (opened : List ℕ) (log : List Made) (o : ℕ) → calls_on log o ≡ [] → number_in (opened_by opened log) o ≡ number_in opened o
uncalled opened [] o none = refl
uncalled opened (m ∷ log) o none = go (m.object == o) refl (uncalled (opened_behind opened m) log o)
  where
    now : ℕ
    now = number_in (opened_by (opened_behind opened m) log) o

    go : (b : Bool) → (m.object == o) ≡ b → (calls_on log o ≡ [] → now ≡ number_in (opened_behind opened m) o) → now ≡ number_in opened o
    go true same rest = absurd (itself (sym (calls_on-own m log) ∙ ap (calls_on (m ∷ log)) (eqb-true m.object o same) ∙ none))
      where
        itself : m.call ∷ calls_on log m.object ≡ [] → ⊥
        itself e = cc
    go false other rest = rest (sym (calls_on-other m log o other) ∙ none) ∙ other_behind opened m o other

-- ---- the calls of a log

-- as they are noted one after another, each under the number that its object has then
abbrev pub noted_from : List ℕ → List Made → List recorder.Call
noted_from opened [] = []
noted_from opened (m ∷ log) = call (min (number_in (opened_behind opened m) m.object) (2 ^ 64 - 1)) (told m.call) ∷ noted_from (opened_behind opened m) log

-- that is the number that it has in the end, where each object's calls begin with an open
pub noted_is_told : (opened : List ℕ) (log : List Made) → ((o : ℕ) → number_in opened o ≡ 0 → BeginsOpen (calls_on log o))
    → noted_from opened log ≡ map (λ m. call (min (number_in (opened_by opened log) m.object) (2 ^ 64 - 1)) (told m.call)) log
noted_is_told opened [] begins = refl
noted_is_told opened (m ∷ log) begins = λ i. call (min (same i) (2 ^ 64 - 1)) (told m.call) ∷ noted_is_told now log later i
  where
    now : List ℕ
    now = opened_behind opened m

    last : number_in now m.object ≡ 0 → calls_on log m.object ≡ []
    last none =
        alone m.call (calls_on log m.object) (subst BeginsOpen (calls_on-own m log) (begins m.object (none_before opened m m.object none))) (unopened_call opened m none)

    same : number_in now m.object ≡ number_in (opened_by now log) m.object
    same = go (number_in now m.object == 0) refl
      where
        go : (b : Bool) → (number_in now m.object == 0) ≡ b → number_in now m.object ≡ number_in (opened_by now log) m.object
        go true e = sym (uncalled now log m.object (last (eqb-true (number_in now m.object) 0 e)))
        go false e = sym (kept_by now log m.object (λ none. false≢true (sym e ∙ eq-eqb (number_in now m.object) 0 none)))

    later : (o : ℕ) → number_in now o ≡ 0 → BeginsOpen (calls_on log o)
    later o none = go (m.object == o) refl
      where
        go : (b : Bool) → (m.object == o) ≡ b → BeginsOpen (calls_on log o)
        go true here =
            let it = eqb-true m.object o here in
            subst (λ n. BeginsOpen (calls_on log n)) it (subst BeginsOpen (sym (last (ap (number_in now) it ∙ none))) tt)
        go false other = subst BeginsOpen (calls_on-other m log o other) (begins o (none_before opened m o none))
