-- What a run's boots settle: blocks of a volume whose drives the last boot brought up, and that are steady since, are read and written only where one value of each was found since it began.
use Rattle.std.specs.Prelude.{ℕ, ◌+◌, ◌≤◌, List, length, Contains}
use Rattle.mdv_engine_law.specs.Below.{Acknowledges, Answers, Begins, Boots, Crashes, Creation, Deletes, Drives, Event, Flushes, History, IsThere, IsUpon, Map, Geometry, Issues, Key, MayHappen, OfDatabase, OfVolume, Reads, Shows, Stops, Unsettles, VolId, VolumeEvent, Woke}
use Rattle.mdv_volumes.specs.Events as lives
use Rattle.mdv_engine_law.specs.declared.host.Host.{Host}
use Rattle.mdv_engine_law.specs.Line.{is_in}

-- of each of these blocks of the volume one value was found, where the last boot brought its drives up, and each is steady since
abbrev pub AreFound : Geometry → History → Key → VolId → ℕ → ℕ → Type 0
AreFound g h key volume at count = (v : Map) → IsThere g h.databases key volume v → IsUpon (is_in (h.up key)) v → at + count ≤ h.woken key volume

abbrev pub IsAwakeOf : Geometry → History → Key → VolId → VolumeEvent → Type 0
IsAwakeOf g h key volume (Issues at blocks) = AreFound g h key volume at (length blocks)
IsAwakeOf g h key volume (Answers at blocks) = Unit {0}
IsAwakeOf g h key volume (Flushes at count) = Unit {0}
IsAwakeOf g h key volume (Begins from logs) = Unit {0}
IsAwakeOf g h key volume lives.Crashes = Unit {0}
IsAwakeOf g h key volume (Woke count content) = Unit {0}

abbrev pub IsAwakeAt : Geometry → History → Event → Type 0
IsAwakeAt g h (Creation key identity) = Unit {0}
IsAwakeAt g h (OfDatabase key identity e) = Unit {0}
IsAwakeAt g h (OfVolume key volume e) = IsAwakeOf g h key volume e
IsAwakeAt g h (Reads key volume at blocks) = AreFound g h key volume at (length blocks)
IsAwakeAt g h (Acknowledges place key volume at blocks) = Unit {0}
IsAwakeAt g h (Shows place key volume at blocks) = Unit {0}
IsAwakeAt g h (Deletes place key) = Unit {0}
IsAwakeAt g h (Boots key up) = Unit {0}
IsAwakeAt g h (Unsettles key drive) = Unit {0}
IsAwakeAt g h Stops = Unit {0}
IsAwakeAt g h Crashes = Unit {0}

-- when each event may happen in the lives of a host's drives
abbrev pub Happening : Host → History → Event → Type 0
Happening host h e = MayHappen host.drives h e × IsAwakeAt host.drives h e

-- a boot of the key that brings these drives up begins among these events
abbrev pub BootBegins : Key → Drives → List Event → Type 0
BootBegins key up es = Contains es (Boots key up)
