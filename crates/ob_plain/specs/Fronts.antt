-- The laws of parse procedures of a set that counts and of one that records, from those of the set below.
use Rattle.std.proofs.Common.{◌≡◌, ℕ, refl}
use Rattle.ob_model.specs.Procedures.{Procedures, ParseAnswer, Itself, Front, Reparse, Refused, FrontIsUsed, ItselfIsAtEnd, ParsedIsIdle}
use Rattle.ob_plain.specs.Counting.{counting_procedures}
use Rattle.ob_plain.specs.Recorder.{recording_procedures, unopened, unopened_answer, IsRecordedIdle}
use Rattle.ob_plain.specs.declared.recorder.Recorded.{Recorded}

-- an answer of a recorder, and the one below it
front_below : {F I : Type 0} (a : ParseAnswer F I) (used : ℕ) (next : F) (inner : Recorded I) → unopened_answer a ≡ Front used next inner → (part : I) × (a ≡ Front used next part) × (inner ≡ unopened part)
front_below Itself used next inner e = cc
front_below (Front n face part) used next inner e = (part, cc, cc)
front_below (Reparse text) used next inner e = cc
front_below (Refused k) used next inner e = cc

itself_below : {F I : Type 0} (a : ParseAnswer F I) → unopened_answer a ≡ Itself → a ≡ Itself
itself_below Itself e = refl
itself_below (Front n face part) e = cc
itself_below (Reparse text) e = cc
itself_below (Refused k) e = cc

module _ {K T F I : Type 0} (g : Procedures K T F I) where
  pub counted_front : FrontIsUsed g → FrontIsUsed (counting_procedures g)
  counted_front law face next rest used inner e =
      let uses = law face next rest used inner e in
      record { within = uses.within; some_bytes = uses.some_bytes; onward = uses.onward }

  pub recorded_front : FrontIsUsed g → FrontIsUsed (recording_procedures g)
  recorded_front law face next rest used inner e =
      let below = front_below (g.parsed face rest) used next inner e in
      let uses = law face next rest used below.0 below.1 in
      record { within = uses.within; some_bytes = uses.some_bytes; onward = uses.onward }

  pub recorded_itself : ItselfIsAtEnd g → ItselfIsAtEnd (recording_procedures g)
  recorded_itself law face rest e = law face rest (itself_below (g.parsed face rest) e)

  pub recorded_idle : (Idle : I → Type 0) → ParsedIsIdle g Idle → ParsedIsIdle (recording_procedures g) (IsRecordedIdle Idle)
  recorded_idle Idle law face next rest used inner e =
      let below = front_below (g.parsed face rest) used next inner e in
      let idle = law face next rest used below.0 below.1 in
      rw below.2 idle
