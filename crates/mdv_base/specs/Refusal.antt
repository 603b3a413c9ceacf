-- The text of each refusal, by its number, its name and the values that it carries.
use Rattle.std.specs.Prelude.{ℕ, List, [], ◌∷◌, ◌++◌, codes, decimal}
use Rattle.mdv_base.specs.declared.refusal.Refusal.{Refusal}
use Rattle.mdv_base.specs.declared.refusal.Refusal.TheVariants.{BadLine, NoDatabase, NeedForce, NoSuchVolume, NameTaken, NoSuchSlice, SliceInUse, TooFew, TooMany, TooSmall, HasParent, WrongKind, WrongState, LastCopy, NoSpace, Nested, ReplicaFull, NotOwner, OwnedByOther, NoSuchSet, NoSuchHost, OutOfRange, IoFault, OutOfMemory, BadInterlace, NoSuchPool, SpareInUse, SetNoQuorum, LineTooLong}
use Rattle.mdv_base.specs.declared.state_word.StateWord.{StateWord}
use Rattle.mdv_base.specs.declared.state_word.StateWord.TheVariants.{Okay, Resyncing, Maintenance, LastErred, Initializing, Offline, Online, Absent, Down, Inactive, Pending, Mediated, Owner, Available, InUse, Broken, TwoDatabases}

abbrev pub word_of : StateWord → List ℕ
word_of Okay = codes "Okay"
word_of Resyncing = codes "Resyncing"
word_of Maintenance = codes "Maintenance"
word_of LastErred = codes "LastErred"
word_of Initializing = codes "Initializing"
word_of Offline = codes "Offline"
word_of Online = codes "Online"
word_of Absent = codes "Absent"
word_of Down = codes "Down"
word_of Inactive = codes "Inactive"
word_of Pending = codes "Pending"
word_of Mediated = codes "Mediated"
word_of Owner = codes "Owner"
word_of Available = codes "Available"
word_of InUse = codes "InUse"
word_of Broken = codes "Broken"
word_of TwoDatabases = codes "TwoDatabases"

abbrev pub number_of : Refusal → ℕ
number_of BadLine = 1
number_of NoDatabase = 2
number_of NeedForce = 3
number_of NoSuchVolume = 4
number_of NameTaken = 5
number_of NoSuchSlice = 6
number_of SliceInUse = 7
number_of TooFew = 8
number_of TooMany = 9
number_of TooSmall = 10
number_of HasParent = 11
number_of WrongKind = 12
number_of (WrongState w) = 13
number_of LastCopy = 14
number_of (NoSpace n) = 15
number_of Nested = 16
number_of (ReplicaFull bytes room) = 17
number_of NotOwner = 18
number_of (OwnedByOther host) = 19
number_of NoSuchSet = 20
number_of NoSuchHost = 21
number_of OutOfRange = 22
number_of IoFault = 23
number_of OutOfMemory = 24
number_of BadInterlace = 25
number_of NoSuchPool = 26
number_of SpareInUse = 27
number_of (SetNoQuorum readable needed) = 28
number_of LineTooLong = 29

abbrev pub name_of : Refusal → List ℕ
name_of BadLine = codes "BadLine"
name_of NoDatabase = codes "NoDatabase"
name_of NeedForce = codes "NeedForce"
name_of NoSuchVolume = codes "NoSuchVolume"
name_of NameTaken = codes "NameTaken"
name_of NoSuchSlice = codes "NoSuchSlice"
name_of SliceInUse = codes "SliceInUse"
name_of TooFew = codes "TooFew"
name_of TooMany = codes "TooMany"
name_of TooSmall = codes "TooSmall"
name_of HasParent = codes "HasParent"
name_of WrongKind = codes "WrongKind"
name_of (WrongState w) = codes "WrongState"
name_of LastCopy = codes "LastCopy"
name_of (NoSpace n) = codes "NoSpace"
name_of Nested = codes "Nested"
name_of (ReplicaFull bytes room) = codes "ReplicaFull"
name_of NotOwner = codes "NotOwner"
name_of (OwnedByOther host) = codes "OwnedByOther"
name_of NoSuchSet = codes "NoSuchSet"
name_of NoSuchHost = codes "NoSuchHost"
name_of OutOfRange = codes "OutOfRange"
name_of IoFault = codes "IoFault"
name_of OutOfMemory = codes "OutOfMemory"
name_of BadInterlace = codes "BadInterlace"
name_of NoSuchPool = codes "NoSuchPool"
name_of SpareInUse = codes "SpareInUse"
name_of (SetNoQuorum readable needed) = codes "SetNoQuorum"
name_of LineTooLong = codes "LineTooLong"

-- each carried value behind a blank
abbrev pub values_of : Refusal → List ℕ
values_of (WrongState w) = 32 ∷ word_of w
values_of (NoSpace n) = 32 ∷ decimal n
values_of (ReplicaFull bytes room) = 32 ∷ decimal bytes ++ 32 ∷ decimal room
values_of (OwnedByOther host) = 32 ∷ host
values_of (SetNoQuorum readable needed) = 32 ∷ decimal readable ++ 32 ∷ decimal needed
values_of _ = []

-- as `refused E3 NeedForce`
abbrev pub refusal_text : Refusal → List ℕ
refusal_text r = codes "refused E" ++ decimal (number_of r) ++ 32 ∷ name_of r ++ values_of r
