-- A cache of prefixes: what it keeps, what its look-ups change, and that each of its prefixes leads where it says.
--
-- Source: this profile.
use Rattle.std.specs.Prelude.{◌≡◌, ℕ, Bool, false, ◌+◌, ◌-◌, ◌^◌, min, if◌then◌else◌, List, [], Contains}
use Rattle.std.specs.Map.{lookup}
use Rattle.std.specs.Option.{is_some}
use Rattle.lru.specs.LruCache.{lru_cache, promoted, put_entries}
use Rattle.ob_model.specs.State.{State}
use Rattle.ob_prefixes.specs.declared.prefix.Prefix.{Prefix}
use Rattle.ob_prefixes.specs.Prefix.{same_prefix, is_local, LeadsTo}

-- the most prefixes that are kept, where nothing else is said
abbrev pub most : ℕ
most = 256

-- the most prefixes that are kept; those that are, with the directories to which they led, the most recently used
-- first; and the hits
pub record Kept : Type 0 where
  pub room : ℕ
  pub entries : List (Prefix × ℕ)
  pub hits : ℕ

abbrev pub kept : ℕ → List (Prefix × ℕ) → ℕ → Kept
kept room entries hits = record { room = room; entries = entries; hits = hits }

-- the hits, and one more, up to the greatest 64-bit number
abbrev pub one_more : ℕ → ℕ
one_more hits = min (hits + 1) (2 ^ 64 - 1)

-- the cache after a look-up of the prefix: where it is there, it is the most recently used, and a hit
abbrev pub after_find : Prefix → Kept → Kept
after_find prefix cache =
    kept cache.room (promoted (same_prefix prefix) cache.entries) (if is_some (lookup (same_prefix prefix) cache.entries) then one_more cache.hits else cache.hits)

-- the cache once the prefix was put there
abbrev pub after_put : Prefix → ℕ → Kept → Kept
after_put prefix directory cache = kept cache.room (put_entries same_prefix (lru_cache cache.entries cache.room) prefix directory) cache.hits

-- no prefix is of a view whose local directory is another than `\GLOBAL??`, and so it is where this is false
abbrev pub NoneIsLocal : List (Prefix × ℕ) → Type 0
NoneIsLocal entries = (e : Prefix × ℕ) → Contains entries e → is_local e.0 ≡ false

abbrev pub TellsLocal : Bool → List (Prefix × ℕ) → Type 0
TellsLocal local entries = local ≡ false → NoneIsLocal entries

-- in the state each prefix of the cache leads to its directory
abbrev pub HasPaths : {K T F I : Type 0} → State K T F I → Kept → Type 0
HasPaths s cache = (e : Prefix × ℕ) → Contains cache.entries e → LeadsTo s e.0 e.1
