-- The lines on pools of hot spares. `all` in front of the parts stands for every pool.
use Rattle.std.specs.Prelude.{ℕ, Bool, true, false, if◌then◌else◌, Option, None, Some, List, [], ◌∷◌, codes}
use Rattle.mdv_command.specs.Below.{Part, Pool, Slice, behind, front, on_some, pool_of}
use Rattle.mdv_command.specs.Given.{has, only}
use Rattle.mdv_command.specs.Volumes.{some_slices, all_of}
use Rattle.mdv_command.specs.declared.given.Given.{Given}
use Rattle.mdv_command.specs.declared.command.Pools.{Pools}
use Rattle.mdv_command.specs.declared.command.Command.{Command}

-- `POOL` or `all`, and the parts behind it
abbrev pub pools_of : Bool → List Part → Option (Pools × List Part)
pools_of true ps = Some (Pools.All, ps)
pools_of false (Pool p ∷ ps) = Some (Pools.One p, ps)
pools_of false _ = None

-- `metahs -a POOL|all slice ..`
abbrev pub added_spares_of : Option (List ℕ) → Option (Pools × List Part) → Option Command
added_spares_of set None = None
added_spares_of set (Some (pools, ps)) = on_some (some_slices ps) (λ ss. Some (Command.AddSpares set pools ss))

-- `metahs -d POOL|all slice ..`
abbrev pub deleted_spares_of : Option (List ℕ) → Option (Pools × List Part) → Option Command
deleted_spares_of set None = None
deleted_spares_of set (Some (pools, ps)) = on_some (some_slices ps) (λ ss. Some (Command.DeleteSpares set pools ss))

-- `metahs -r POOL|all old new`
abbrev pub replaced_spare_of : Option (List ℕ) → Option (Pools × List Part) → Option Command
replaced_spare_of set (Some (pools, Slice old ∷ Slice new ∷ [])) = Some (Command.ReplaceSpare set pools old new)
replaced_spare_of set _ = None

-- `metahs -e slice ..`
abbrev pub enabled_spares_of : Option (List ℕ) → Bool → List Part → Option Command
enabled_spares_of set true ps = None
enabled_spares_of set false ps = on_some (some_slices ps) (λ ss. Some (Command.EnableSpares set ss))

-- `metahs -i [POOL ..]`
abbrev pub listed_pools_of : Option (List ℕ) → Bool → List Part → Option Command
listed_pools_of set true ps = None
listed_pools_of set false ps = on_some (all_of (front pool_of ps) (behind pool_of ps)) (λ pools. Some (Command.ListPools set pools))

-- with one of `-a`, `-d`, `-r`, `-e` and `-i`
abbrev pub metahs_of : List Given → Option (List ℕ) → Bool → List Part → Option Command
metahs_of gs set all ps =
    if has 97 gs then (if only (codes "as") gs then added_spares_of set (pools_of all ps) else None) else
    (if has 100 gs then (if only (codes "ds") gs then deleted_spares_of set (pools_of all ps) else None) else
    (if has 114 gs then (if only (codes "rs") gs then replaced_spare_of set (pools_of all ps) else None) else
    (if has 101 gs then (if only (codes "es") gs then enabled_spares_of set all ps else None) else
    (if has 105 gs then (if only (codes "is") gs then listed_pools_of set all ps else None) else None))))
