-- How blocks are found for a soft partition in the free runs of its base.
use Rattle.std.specs.Prelude.{◌+◌, ◌-◌, ℕ, nat_lt, min, sum_by, List, [], ◌∷◌, ◌++◌, length, Option, Some, None, Result, Ok, Err, if◌then◌else◌}
use Rattle.std.specs.List.{find}
use Rattle.mdv_extent.specs.declared.run.Run.{Run}
use Rattle.mdv_extent.specs.declared.share.SpaceFault.{SpaceFault}
use Rattle.mdv_extent.specs.declared.share.SpaceFault.TheVariants.{NoSpace, TooMany}

-- how many blocks a free run can give: its first block is for the header
abbrev pub room : Run → ℕ
room r = r.blocks - 1

abbrev pub room_in : List Run → ℕ
room_in free = sum_by room free

-- an extent that has its header in the run's first block
abbrev pub extent_in : Run → ℕ → Run
extent_in r blocks = record { at = r.at + 1; blocks = blocks }

-- what the run gives where so many blocks are needed: all that it can, or what is needed
abbrev pub given : Run → ℕ → List Run
given r need = if nat_lt 0 (min (room r) need) then extent_in r (min (room r) need) ∷ [] else []

-- what run after run gives
abbrev pub shared : List Run → ℕ → List Run
shared [] need = []
shared (r ∷ free) need = given r need ++ shared free (need - room r)

-- blocks of several runs
abbrev pub gathered : List Run → ℕ → Result (List Run) SpaceFault
gathered free need =
    if nat_lt (room_in free) need then Err (NoSpace (room_in free)) else (if nat_lt 16 (length (shared free need)) then Err TooMany else Ok (shared free need))

-- blocks of one run that has them all, else of several
abbrev pub placed : Option Run → List Run → ℕ → Result (List Run) SpaceFault
placed (Some r) free need = Ok (extent_in r need ∷ [])
placed None free need = gathered free need

-- the first run that is longer than the need gives it; where there is none, several do
unfoldable pub allotted : List Run → ℕ → Result (List Run) SpaceFault
allotted free need = placed (find (λ (r : Run). nat_lt need r.blocks) free) free need
