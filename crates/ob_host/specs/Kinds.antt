-- The kinds of a caller's objects: their order, and the names of their types.
--
-- Sources: Windows Internals, Object Manager (object types), for the names; the order is this profile.
use Rattle.std.specs.Prelude.{ℕ, Bool, ◌==◌, List, codes}
use Rattle.ob_host.specs.declared.kind.Kind.{Kind}
use Rattle.ob_host.specs.declared.kind.Kind.TheVariants.{Event, Mutant, Semaphore, Timer, Section, Job, IoCompletion, AlpcPort, Key, Device, Driver, File, WindowStation, Desktop, Process, Thread, Token, Callback, Profile, KeyedEvent, Session, Partition, Controller, Adapter, EtwRegistration, TmTm, TmTx, TmRm, TmEn, WaitablePort, TpWorkerFactory, FilterConnectionPort, PowerRequest, DebugObject, EtwConsumer, WmiGuid}

-- how many kinds there are
abbrev pub kind_count : ℕ
kind_count = 36

-- how many kinds come before this one
abbrev pub index_of : Kind → ℕ
index_of Event = 0
index_of Mutant = 1
index_of Semaphore = 2
index_of Timer = 3
index_of Section = 4
index_of Job = 5
index_of IoCompletion = 6
index_of AlpcPort = 7
index_of Key = 8
index_of Device = 9
index_of Driver = 10
index_of File = 11
index_of WindowStation = 12
index_of Desktop = 13
index_of Process = 14
index_of Thread = 15
index_of Token = 16
index_of Callback = 17
index_of Profile = 18
index_of KeyedEvent = 19
index_of Session = 20
index_of Partition = 21
index_of Controller = 22
index_of Adapter = 23
index_of EtwRegistration = 24
index_of TmTm = 25
index_of TmTx = 26
index_of TmRm = 27
index_of TmEn = 28
index_of WaitablePort = 29
index_of TpWorkerFactory = 30
index_of FilterConnectionPort = 31
index_of PowerRequest = 32
index_of DebugObject = 33
index_of EtwConsumer = 34
index_of WmiGuid = 35

-- the name of the kind's type
abbrev pub name_of : Kind → List ℕ
name_of Event = codes "Event"
name_of Mutant = codes "Mutant"
name_of Semaphore = codes "Semaphore"
name_of Timer = codes "Timer"
name_of Section = codes "Section"
name_of Job = codes "Job"
name_of IoCompletion = codes "IoCompletion"
name_of AlpcPort = codes "ALPC Port"
name_of Key = codes "Key"
name_of Device = codes "Device"
name_of Driver = codes "Driver"
name_of File = codes "File"
name_of WindowStation = codes "WindowStation"
name_of Desktop = codes "Desktop"
name_of Process = codes "Process"
name_of Thread = codes "Thread"
name_of Token = codes "Token"
name_of Callback = codes "Callback"
name_of Profile = codes "Profile"
name_of KeyedEvent = codes "KeyedEvent"
name_of Session = codes "Session"
name_of Partition = codes "Partition"
name_of Controller = codes "Controller"
name_of Adapter = codes "Adapter"
name_of EtwRegistration = codes "EtwRegistration"
name_of TmTm = codes "TmTm"
name_of TmTx = codes "TmTx"
name_of TmRm = codes "TmRm"
name_of TmEn = codes "TmEn"
name_of WaitablePort = codes "WaitablePort"
name_of TpWorkerFactory = codes "TpWorkerFactory"
name_of FilterConnectionPort = codes "FilterConnectionPort"
name_of PowerRequest = codes "PowerRequest"
name_of DebugObject = codes "DebugObject"
name_of EtwConsumer = codes "EtwConsumer"
name_of WmiGuid = codes "WmiGuid"

-- two kinds are one
abbrev pub same_kind : Kind → Kind → Bool
same_kind a b = index_of a == index_of b
