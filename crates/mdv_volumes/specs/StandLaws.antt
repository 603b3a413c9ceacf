-- Laws of one volume's standing, by its map: over its requests, over those of others, over crashes and boots, and where a log begins.
use Rattle.std.specs.Prelude.{◌≡◌, ℕ, ◌+◌, ◌<◌, ◌≤◌, List, [], ◌∷◌, length}
use Rattle.mdv_volumes.specs.Below.{AllOnDisk, AllRead, Among, AreApart, AreDisjoint, Area, Begun, Follows, IsDisjoint, IsImage, KeptOutside, Map, Rewriting, Start, Tale, VolumeLog, area_of_map, last, opening, readings, run_map}
use Rattle.mdv_shelf.specs.Calls.{Shows}
use Rattle.mdv_shelf.specs.Settle.{IsSettled, IsSynced, Settling}
use Rattle.mdv_volumes.specs.Events.{AreReadable, Answers, Begins, Crashes, Flushes, Issues, Woke}
use Rattle.mdv_volumes.specs.Standing.{AreKept, GoesBy, HaveCopies, HaveOneValue, HoldWhatWas, LeavesNoMore}

-- blocks of the volume are written
pub record WritesStand : Type 0 where
  -- at each moment their values were issued
  pub issued : (v : Map) (at : ℕ) (blocks : List (List ℕ)) (log : VolumeLog) (t m : Tale) → IsDisjoint v → at + length blocks ≤ v.blocks → Rewriting v at blocks t m → Follows v log t
      → GoesBy v log (Issues at blocks ∷ []) m
  -- once each copy reads them they were answered
  pub answered : (v : Map) (at : ℕ) (blocks : List (List ℕ)) (log : VolumeLog) (t u : Tale) → IsDisjoint v → at + length blocks ≤ v.blocks → Rewriting v at blocks t u → AllRead v at blocks u → Follows v log t
      → GoesBy v log (Issues at blocks ∷ Answers at blocks ∷ []) u
  -- and once they are on the disk they can be acknowledged
  pub done : (v : Map) (at : ℕ) (blocks : List (List ℕ)) (log : VolumeLog) (t u : Tale) → IsDisjoint v → at + length blocks ≤ v.blocks → Rewriting v at blocks t u → AllRead v at blocks u
      → AllOnDisk v at (length blocks) u → Follows v log t → GoesBy v log (Issues at blocks ∷ Answers at blocks ∷ Flushes at (length blocks) ∷ []) u
  -- so are those of earlier writes
  pub flushed : (v : Map) (at count : ℕ) (log : VolumeLog) (t : Tale) → AllOnDisk v at count t → Follows v log t → GoesBy v log (Flushes at count ∷ []) t

-- blocks of the volume are read
pub record ReadsStand : Type 0 where
  pub still : (v : Map) (at : ℕ) (log : VolumeLog) (t m : Tale) → IsDisjoint v → at ≤ v.blocks → Rewriting v at [] t m → Follows v log t → Follows v log m
  -- each of which has a copy: what was read a read may give
  pub seen : (v : Map) (at : ℕ) (blocks : List (List ℕ)) (log : VolumeLog) (t : Tale) → at + length blocks ≤ v.blocks → HaveCopies v at (length blocks) → AllRead v at blocks t → Follows v log t → AreReadable log at blocks

-- other blocks of the drives are written
pub record FramesStand : Type 0 where
  pub kept : (v : Map) (log : VolumeLog) (t m : Tale) → AreKept v t m → Follows v log t → Follows v log m
  -- those of a volume that shares none of them
  pub elsewhere : (v w : Map) (at : ℕ) (news : List (List ℕ)) (log : VolumeLog) (t m : Tale) → IsDisjoint v → AreDisjoint v w → at + length news ≤ w.blocks → Rewriting w at news t m → Follows v log t → Follows v log m
  -- or those of an area apart, as that of a database
  pub outside : (v : Map) (area : Area) (log : VolumeLog) (t m : Tale) → IsDisjoint v → AreApart area (area_of_map v) → KeptOutside area t m → Follows v log t → Follows v log m

-- drives begin anew
pub record RestartsStand : Type 0 where
  pub goes : (v : Map) (log : VolumeLog) (t u : Tale) → LeavesNoMore t u → Follows v log t → GoesBy v log (Crashes ∷ []) u
  -- all of them by one crash
  pub crashed : (t : Tale) (start : Start) → IsImage t start.block → LeavesNoMore t (Begun start)
  -- each by itself: one was lost and is back, another went on
  pub back : (t : Tale) (start : Start) → HoldWhatWas t start → LeavesNoMore t (Begun start)
  -- or none
  pub same : (t : Tale) → LeavesNoMore t t

-- a boot finds one value of each block
pub record BootsStand : Type 0 where
  pub woken : (v : Map) (content : ℕ → List ℕ) (log : VolumeLog) (t : Tale) → HaveOneValue v content t → Follows v log t → GoesBy v log (Woke v.blocks content ∷ []) t
  -- as where each copy reads that one, and is on the disk
  pub one : (v : Map) (content : ℕ → List ℕ) (t : Tale) → HaveCopies v 0 v.blocks → ((b : ℕ) (x : List ℕ) → b < v.blocks → Among (readings v (last t) b) x → x ≡ content b)
      → AllOnDisk v 0 v.blocks t → HaveOneValue v content t
  -- so it is of blocks that lie together on a drive that is synced
  pub run : (drive first count : ℕ) (t : Tale) → IsSynced drive t → HaveOneValue (run_map drive first count) (λ b. last t drive (first + b)) t

-- a log begins with what a read gives and a crash may leave
pub record BeginningsStand : Type 0 where
  pub made : (v : Map) (log : VolumeLog) (t : Tale) → GoesBy v log (Begins 0 (opening v t) ∷ []) t
  -- from some block on, where those before it have theirs
  pub grown : (v : Map) (from : ℕ) (log : VolumeLog) (t : Tale) → Follows (record v { blocks = from }) log t → GoesBy v log (Begins from (opening v t) ∷ []) t

-- blocks that lie together on a drive, where they are written, synced and read as such
pub record RunsStand : Type 0 where
  pub written : (drive first count at : ℕ) (blocks : List (List ℕ)) (t m : Tale) → Settling drive (first + at) blocks t m → Rewriting (run_map drive first count) at blocks t m
  pub settled : (drive first count at : ℕ) (blocks : List (List ℕ)) (u : Tale) → IsSettled drive (first + at) blocks u → AllRead (run_map drive first count) at blocks u × AllOnDisk (run_map drive first count) at (length blocks) u
  pub read : (drive first count at : ℕ) (blocks : List (List ℕ)) (t : Tale) → Shows t drive (first + at) blocks → AllRead (run_map drive first count) at blocks t
  pub copies : (drive first count at number : ℕ) → HaveCopies (run_map drive first count) at number
