-- Kinds that were compared by their names, one after another.
use Rattle.std.proofs.Common.{◌≡◌, ◌∙◌, ℕ, ◌+◌, ◌<◌, Bool, true, false, ◌==◌, nat_eq, List, refl, sym, ap, arith}
use Rattle.std.proofs.lemmas.Bool.{eqb-true, eq-eqb}
use Rattle.std.specs.Cmp.Lexicographic.{pointwise, bytes_decides}
use Rattle.ob_host.specs.Kinds.{index_of, name_of, kind_count}
use Rattle.ob_host.specs.KindLaws.{same_kind_is_one}
use Rattle.ob_host.specs.declared.kind.Kind.{Kind}
use Rattle.ob_host.specs.declared.kind.Kind.TheVariants.{Event, Mutant, Semaphore, Timer, Section, Job, IoCompletion, AlpcPort, Key, Device, Driver, File, WindowStation, Desktop, Process, Thread, Token, Callback, Profile, KeyedEvent, Session, Partition, Controller, Adapter, EtwRegistration, TmTm, TmTx, TmRm, TmEn, WaitablePort, TpWorkerFactory, FilterConnectionPort, PowerRequest, DebugObject, EtwConsumer, WmiGuid}

-- each kind has one of the indexes
pub is_few : (kind : Kind) → index_of kind < kind_count
is_few Event = omega arith
is_few Mutant = omega arith
is_few Semaphore = omega arith
is_few Timer = omega arith
is_few Section = omega arith
is_few Job = omega arith
is_few IoCompletion = omega arith
is_few AlpcPort = omega arith
is_few Key = omega arith
is_few Device = omega arith
is_few Driver = omega arith
is_few File = omega arith
is_few WindowStation = omega arith
is_few Desktop = omega arith
is_few Process = omega arith
is_few Thread = omega arith
is_few Token = omega arith
is_few Callback = omega arith
is_few Profile = omega arith
is_few KeyedEvent = omega arith
is_few Session = omega arith
is_few Partition = omega arith
is_few Controller = omega arith
is_few Adapter = omega arith
is_few EtwRegistration = omega arith
is_few TmTm = omega arith
is_few TmTx = omega arith
is_few TmRm = omega arith
is_few TmEn = omega arith
is_few WaitablePort = omega arith
is_few TpWorkerFactory = omega arith
is_few FilterConnectionPort = omega arith
is_few PowerRequest = omega arith
is_few DebugObject = omega arith
is_few EtwConsumer = omega arith
is_few WmiGuid = omega arith

apart : true ≡ false → ⊥
apart e = cc

-- no kind with an index below this one has the name
abbrev pub NoneBelow : List ℕ → ℕ → Type 0
NoneBelow name n = (kind : Kind) → index_of kind < n → name ≡ name_of kind → ⊥

-- the kind with the next index hasn't either, since its name was found another
pub none_more : (name other : List ℕ) (n : ℕ) (k : Kind) → index_of k ≡ n → other ≡ name_of k → false ≡ pointwise nat_eq other name → NoneBelow name n → NoneBelow name (n + 1)
none_more name other n k at is differs below kind low same = split (index_of kind == n) refl
  where
    here : index_of kind ≡ n → ⊥
    here e =
        let one : kind ≡ k = same_kind_is_one kind k (eq-eqb (index_of kind) (index_of k) (e ∙ sym at)) in
        let equal : other ≡ name = is ∙ ap name_of (sym one) ∙ sym same in
        apart (sym ((bytes_decides other name).1 equal) ∙ sym differs)

    split : (b : Bool) → (index_of kind == n) ≡ b → ⊥
    split true e = here (eqb-true (index_of kind) n e)
    split false e = below kind (omega (arith, low, λ (i : index_of kind ≡ n). here i)) same
