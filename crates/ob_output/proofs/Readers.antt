-- Lemmas on what a reader has given while it is read part by part.
use Rattle.std.proofs.Common.{◌≡◌, ◌+◌, ◌-◌, ◌≤◌, ℕ, List, ◌++◌, length, Option, subst, arith, length-append}
use Rattle.std.specs.Io.KnownBytes.{Consumes}
use Rattle.std.proofs.KnownBytes.{Consumes-trans}
use Rattle.ob_output.specs.declared.fault.ShellFault.{ShellFault}
use Rattle.ob_output.specs.declared.fault.ShellFault.TheVariants.{Read, Write, TooLong, Memory, Mismatch}
use Rattle.ob_output.specs.Reading.{TakesAtMost, TakesExactly, StopsReadingAt, StopsReadingAfter}

-- the text has all bytes that the reader has given
pub record ReadsUpTo (old new : Option (List ℕ)) (text : List ℕ) (limit : ℕ) : Type 0 where
  pub within : length text ≤ limit
  pub taken : Consumes old new text

-- bytes that the reader gave behind those of the text, up to a limit, are up to a limit in all
pub at_most_after : (old mid new : Option (List ℕ)) (text : List ℕ) (limit : ℕ) → ReadsUpTo old mid text limit
    → TakesAtMost mid new (limit - length text) → TakesAtMost old new limit
at_most_after old mid new text limit so_far stop = record {
  front = text ++ stop.front;
  taken = Consumes-trans old mid new text stop.front so_far.taken stop.taken;
  bounded = omega (arith, length-append text stop.front, so_far.within, stop.bounded);
}

-- so are bytes of an exact number
pub exactly_after : (old mid new : Option (List ℕ)) (text : List ℕ) (limit : ℕ) → ReadsUpTo old mid text limit
    → TakesExactly mid new (limit + 1 - length text) → TakesExactly old new (limit + 1)
exactly_after old mid new text limit so_far stop = record {
  front = text ++ stop.front;
  taken = Consumes-trans old mid new text stop.front so_far.taken stop.taken;
  counted = omega (arith, length-append text stop.front, so_far.within, stop.counted);
}

-- a fault behind the bytes of the text is that fault of the whole reading
pub stops_behind : (fault : ShellFault) (old mid new : Option (List ℕ)) (text : List ℕ) (limit : ℕ) → ReadsUpTo old mid text limit
    → StopsReadingAfter limit (length text) fault mid new → StopsReadingAt limit fault old new
stops_behind TooLong old mid new text limit so_far stop = exactly_after old mid new text limit so_far stop
stops_behind (Read unread) old mid new text limit so_far stop = at_most_after old mid new text limit so_far stop
stops_behind Memory old mid new text limit so_far stop = at_most_after old mid new text limit so_far stop
stops_behind (Write unwritten) old mid new text limit so_far stop = absurd stop
stops_behind Mismatch old mid new text limit so_far stop = absurd stop

-- the same, with the text's length by another name
pub stops_after : (fault : ShellFault) (old mid new : Option (List ℕ)) (text : List ℕ) (limit had : ℕ) → had ≡ length text
    → ReadsUpTo old mid text limit → StopsReadingAfter limit had fault mid new → StopsReadingAt limit fault old new
stops_after fault old mid new text limit had same so_far stop =
    stops_behind fault old mid new text limit so_far (subst (λ n. StopsReadingAfter limit n fault mid new) same stop)
