-- Kinds that are found the same are one.
use Rattle.std.proofs.Common.{◌≡◌, ◌∙◌, true, List, [], ◌∷◌, Some, slice_get, refl, sym, ap}
use Rattle.std.proofs.lemmas.Bool.{eqb-true, eq-eqb}
use Rattle.std.specs.Cmp.{IsEquivalence, decided}
use Rattle.ob_host.specs.Kinds.{index_of, same_kind}
use Rattle.ob_host.specs.declared.kind.Kind.{Kind}
use Rattle.ob_host.specs.declared.kind.Kind.TheVariants.{Event, Mutant, Semaphore, Timer, Section, Job, IoCompletion, AlpcPort, Key, Device, Driver, File, WindowStation, Desktop, Process, Thread, Token, Callback, Profile, KeyedEvent, Session, Partition, Controller, Adapter, EtwRegistration, TmTm, TmTx, TmRm, TmEn, WaitablePort, TpWorkerFactory, FilterConnectionPort, PowerRequest, DebugObject, EtwConsumer, WmiGuid}

-- the kinds in their order
kinds : List Kind
kinds = Event ∷ Mutant ∷ Semaphore ∷ Timer ∷ Section ∷ Job ∷ IoCompletion ∷ AlpcPort ∷ Key ∷ Device ∷ Driver ∷ File ∷ WindowStation ∷ Desktop ∷ Process ∷ Thread ∷ Token ∷ Callback ∷ Profile ∷ KeyedEvent ∷ Session ∷ Partition ∷ Controller ∷ Adapter ∷ EtwRegistration ∷ TmTm ∷ TmTx ∷ TmRm ∷ TmEn ∷ WaitablePort ∷ TpWorkerFactory ∷ FilterConnectionPort ∷ PowerRequest ∷ DebugObject ∷ EtwConsumer ∷ WmiGuid ∷ []

at_index : (kind : Kind) → slice_get kinds (index_of kind) ≡ Some kind
unfolding kinds
at_index Event = refl
at_index Mutant = refl
at_index Semaphore = refl
at_index Timer = refl
at_index Section = refl
at_index Job = refl
at_index IoCompletion = refl
at_index AlpcPort = refl
at_index Key = refl
at_index Device = refl
at_index Driver = refl
at_index File = refl
at_index WindowStation = refl
at_index Desktop = refl
at_index Process = refl
at_index Thread = refl
at_index Token = refl
at_index Callback = refl
at_index Profile = refl
at_index KeyedEvent = refl
at_index Session = refl
at_index Partition = refl
at_index Controller = refl
at_index Adapter = refl
at_index EtwRegistration = refl
at_index TmTm = refl
at_index TmTx = refl
at_index TmRm = refl
at_index TmEn = refl
at_index WaitablePort = refl
at_index TpWorkerFactory = refl
at_index FilterConnectionPort = refl
at_index PowerRequest = refl
at_index DebugObject = refl
at_index EtwConsumer = refl
at_index WmiGuid = refl

some_is_one : (a b : Kind) → Some a ≡ Some b → a ≡ b
some_is_one a b e = cc

pub same_kind_is_one : (a b : Kind) → same_kind a b ≡ true → a ≡ b
same_kind_is_one a b e =
    some_is_one a b (sym (at_index a) ∙ ap (slice_get kinds) (eqb-true (index_of a) (index_of b) e) ∙ at_index b)

pub own_kind_is_same : (a : Kind) → same_kind a a ≡ true
own_kind_is_same a = eq-eqb (index_of a) (index_of a) refl

pub kinds_decide : (a b : Kind) → (same_kind a b ≡ true → a ≡ b) × (a ≡ b → same_kind a b ≡ true)
kinds_decide a b = (same_kind_is_one a b, λ e. ap (same_kind a) (sym e) ∙ own_kind_is_same a)

pub kinds_equiv : IsEquivalence same_kind
kinds_equiv = decided same_kind kinds_decide
