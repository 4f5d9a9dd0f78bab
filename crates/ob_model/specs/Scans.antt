-- Scans: pages of one directory that are asked for one after another, the first from the beginning and each other
-- one after the context that the page before it gave. Other steps may come between them, and the pages may be
-- asked for by any processes, with any room.
--
-- Source: ZwQueryDirectoryObject (Windows Driver Kit).
use Rattle.std.specs.Prelude.{◌≡◌, ℕ, Bool, List, [], ◌∷◌, ◌++◌, All, Contains, Option, None, Some}
use Rattle.std.specs.Option.{option_and_then, option_map}
use Rattle.ob_base.specs.Handle.{key_of}
use Rattle.ob_model.specs.declared.command.Command.TheVariants.{QueryDirectory}
use Rattle.ob_model.specs.declared.reply.Event.TheVariants.{Start}
use Rattle.ob_model.specs.declared.state.Row.{Row}
use Rattle.ob_model.specs.State.{State, held_of}
use Rattle.ob_model.specs.Procedures.{Procedures}
use Rattle.ob_model.specs.Enumeration.{Shown, Page, context_used, page_answer, shown_row, enumerated}
use Rattle.ob_model.specs.Calls.{Passed}

-- the entries of these pages, one page's after another's; of a step that shows none there is none
abbrev pub shown_in : List (Option Page) → List Shown
shown_in [] = []
shown_in (None ∷ pages) = shown_in pages
shown_in (Some page ∷ pages) = page.entries ++ shown_in pages

module _ {K T F I : Type 0} (g : Procedures K T F I) where
  -- a step shows a page of a directory, of what follows a context: a process asks for it by a handle to the
  -- directory, and this page is the answer
  pub record ShowsPage (s : State K T F I) (d context : ℕ) (x : Passed K T F I) (page : Page) : Type 0 where
    pub process : ℕ
    pub handle : ℕ
    pub asked : ℕ
    pub room : ℕ
    pub single : Bool
    pub restart : Bool
    pub event : x.entry.event ≡ Start process (QueryDirectory handle asked room single restart)
    pub leads : option_map (λ h. h.object) (option_and_then (held_of s process) (key_of handle)) ≡ Some d
    pub begins : context_used restart asked ≡ context
    pub shows : page ≡ enumerated g s d context room single
    pub answer : x.entry.answer ≡ page_answer page

  -- From the state s on, these steps show these pages of a directory, each after the context that the one before it
  -- gave, and the first one after this context. A step that isn't of the scan shows none of them.
  abbrev pub ScansOn : State K T F I → (d context : ℕ) → List (Passed K T F I) → List (Option Page) → Type 0
  ScansOn s d context [] [] = Unit {0}
  ScansOn s d context [] (page ∷ pages) = ⊥
  ScansOn s d context (x ∷ xs) [] = ⊥
  ScansOn s d context (x ∷ xs) (None ∷ pages) = ScansOn x.after d context xs pages
  ScansOn s d context (x ∷ xs) (Some page ∷ pages) = ShowsPage s d context x page × ScansOn x.after d page.context xs pages

  -- a scan begins after 0, which no row's stamp is, as a restart does
  abbrev pub Scans : State K T F I → ℕ → List (Passed K T F I) → List (Option Page) → Type 0
  Scans s d xs pages = ScansOn s d 0 xs pages

  -- each entry of these pages is that of a row which is in the directory at its step
  abbrev pub StandsAt : State K T F I → ℕ → Shown → Type 0
  StandsAt s d e = (r : Row) × Contains s.rows r × (r.directory ≡ d) × (e ≡ shown_row g s r)

  abbrev pub StandAtTheirSteps : State K T F I → ℕ → List (Passed K T F I) → List (Option Page) → Type 0
  StandAtTheirSteps s d xs [] = Unit {0}
  StandAtTheirSteps s d [] (page ∷ pages) = ⊥
  StandAtTheirSteps s d (x ∷ xs) (None ∷ pages) = StandAtTheirSteps x.after d xs pages
  StandAtTheirSteps s d (x ∷ xs) (Some page ∷ pages) = All (StandsAt s d) page.entries × StandAtTheirSteps x.after d xs pages

module _ {K T F I : Type 0} where
  -- a row is in the state s and after each of these steps
  abbrev pub StandsThroughout : Row → State K T F I → List (Passed K T F I) → Type 0
  StandsThroughout r s xs = Contains s.rows r × All (λ x. Contains x.after.rows r) xs
