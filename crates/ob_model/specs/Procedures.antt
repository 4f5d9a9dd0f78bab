-- A set of types: the procedures of its types, what makes it lawful, and what a parse run ends with.
--
-- Sources: Windows Internals, Object Manager (object types and their methods: open, close, delete,
-- parse). Each procedure's form, and the laws, are this profile.
use Rattle.ob_model.specs.declared.terms.Reason.{Reason}
use Rattle.std.specs.Prelude.{◌≡◌, ◌≢◌, ℕ, ◌≤◌, ◌<◌, Bool, true, List, [], length, drop, Option, None, Some}

-- what a parse procedure answers: the object itself; a front of the rest, so many bytes, leads to a
-- new instance with this face and this inner value; look again with this text; or a refusal
pub data ParseAnswer (F I : Type 0) : Type 0 where
  Itself : ParseAnswer F I
  Front : ℕ → F → I → ParseAnswer F I
  Reparse : List ℕ → ParseAnswer F I
  Refused : ℕ → ParseAnswer F I

-- how a parse run ends: with the object itself, with an instance that it made, with a text to look
-- up again, or with a refusal
pub data ParseOutcome (F I : Type 0) : Type 0 where
  EndsItself : ParseOutcome F I
  EndsMade : F → I → ParseOutcome F I
  EndsReparse : List ℕ → ParseOutcome F I
  EndsRefused : ℕ → ParseOutcome F I

-- The procedures of a set of types, each as a function of what it is given (a lack of memory aside).
-- A refusal is a number below 2^16.
pub record Procedures (K T F I : Type 0) : Type 0 where
  -- the name of a type
  pub type_name : K → List ℕ
  -- the kind of an object with this face
  pub kind_of : F → K
  -- two kinds are one
  pub same_kind : K → K → Bool
  -- objects of the kind have a parse procedure
  pub parses : K → Bool
  -- two faces are those of one object
  pub same_face : F → F → Bool
  -- making refuses these arguments; else what is made, its face and its inner value
  pub refuses_to_make : K → List ℕ → Option ℕ
  pub made : K → List ℕ → F × I
  -- what the parse procedure answers to a rest
  pub parsed : F → List ℕ → ParseAnswer F I
  -- opening refuses; the set's value and the inner value that an open leaves
  pub refuses_to_open : T → I → Reason → Option ℕ
  pub opened : T → I → Reason → T × I
  -- what a close leaves, given the handles that are left in the process and in the system
  pub closed : T → I → ℕ → ℕ → T × I
  -- the set's value that a delete leaves
  pub deleted : T → I → T

module _ {K T F I : Type 0} (g : Procedures K T F I) where
  -- the parse run from a face over a rest ends so: by the answers of the faces on the way
  pub data ParseEnds : F → List ℕ → ParseOutcome F I → Type 0 where
    ends_itself : {face : F} {rest : List ℕ} → g.parsed face rest ≡ Itself → ParseEnds face rest EndsItself
    ends_reparse : {face : F} {rest text : List ℕ} → g.parsed face rest ≡ Reparse text → ParseEnds face rest (EndsReparse text)
    ends_refused : {face : F} {rest : List ℕ} {k : ℕ} → g.parsed face rest ≡ Refused k → ParseEnds face rest (EndsRefused k)
    ends_made : {face next : F} {rest : List ℕ} {used : ℕ} {inner : I} → g.parsed face rest ≡ Front used next inner → used ≡ length rest → ParseEnds face rest (EndsMade next inner)
    goes_on : {face next : F} {rest : List ℕ} {used : ℕ} {inner : I} {outcome : ParseOutcome F I} → g.parsed face rest ≡ Front used next inner → used < length rest → ParseEnds next (drop used rest) outcome → ParseEnds face rest outcome

  -- a front of the rest is used, more than nothing of one that isn't empty, and what is left of it
  -- is for an instance that parses
  pub record UsesFront (rest : List ℕ) (used : ℕ) (next : F) : Type 0 where
    pub within : used ≤ length rest
    pub some_bytes : rest ≢ [] → 0 < used
    pub onward : used < length rest → g.parses (g.kind_of next) ≡ true

  -- an open that is refused leaves the set and the inner value as they were
  abbrev pub RefusedOpenKeeps : Type 0
  RefusedOpenKeeps = (set : T) (inner : I) (reason : Reason) (k : ℕ) → g.refuses_to_open set inner reason ≡ Some k → g.opened set inner reason ≡ (set, inner)

  -- what is made is idle: it counts no open handle
  abbrev pub MadeIsIdle : (I → Type 0) → Type 0
  MadeIsIdle Idle = (kind : K) (args : List ℕ) → g.refuses_to_make kind args ≡ None → Idle ((g.made kind args).1)

  -- a close that leaves no handle in the system leaves an idle inner value
  abbrev pub LastClosedIsIdle : (I → Type 0) → Type 0
  LastClosedIsIdle Idle = (set : T) (inner : I) (process_left : ℕ) → Idle ((g.closed set inner process_left 0).1)

  -- kinds that are found the same are one kind
  abbrev pub SameKindIsOne : Type 0
  SameKindIsOne = (a b : K) → g.same_kind a b ≡ true → a ≡ b

  -- a kind is found the same as itself
  abbrev pub OwnKindIsSame : Type 0
  OwnKindIsSame = (a : K) → g.same_kind a a ≡ true

  -- a parse procedure uses a front of the rest, and leaves what follows it to an instance that parses
  abbrev pub FrontIsUsed : Type 0
  FrontIsUsed = (face next : F) (rest : List ℕ) (used : ℕ) (inner : I) → g.parsed face rest ≡ Front used next inner → UsesFront rest used next

  -- the object itself is answered only to the empty rest
  abbrev pub ItselfIsAtEnd : Type 0
  ItselfIsAtEnd = (face : F) (rest : List ℕ) → g.parsed face rest ≡ Itself → rest ≡ []

  -- an instance that a parse procedure makes is idle
  abbrev pub ParsedIsIdle : (I → Type 0) → Type 0
  ParsedIsIdle Idle = (face next : F) (rest : List ℕ) (used : ℕ) (inner : I) → g.parsed face rest ≡ Front used next inner → Idle inner

  -- a face is found the same as itself
  abbrev pub OwnFaceIsSame : Type 0
  OwnFaceIsSame = (face : F) → g.same_face face face ≡ true

  -- faces that are found the same give the same answer to every rest
  abbrev pub SameFacesAnswerAlike : Type 0
  SameFacesAnswerAlike = (a b : F) (rest : List ℕ) → g.same_face a b ≡ true → g.parsed a rest ≡ g.parsed b rest

  -- The laws of parse procedures, where Idle is the fact that an inner value has no open
  -- handle.
  pub record IsLawfulParse (Idle : I → Type 0) : Type 0 where
    pub front : FrontIsUsed
    pub itself : ItselfIsAtEnd
    pub parsed_idle : ParsedIsIdle Idle
    pub own_face : OwnFaceIsSame
    pub same_answers : SameFacesAnswerAlike

  -- A lawful set, where Idle is the fact that an inner value counts no open handle.
  pub record IsLawful (Idle : I → Type 0) : Type 0 where
    pub refused_open : RefusedOpenKeeps
    pub made_idle : MadeIsIdle Idle
    pub closed_idle : LastClosedIsIdle Idle
    pub one_kind : SameKindIsOne
    pub own_kind : OwnKindIsSame
    pub parse : IsLawfulParse Idle
