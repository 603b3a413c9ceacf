-- The lines on replicas, volumes and pools, by their options and the parts of their operands.
use Rattle.std.specs.Prelude.{nat_le, ℕ, Bool, if◌then◌else◌, Option, None, Some, List, [], ◌∷◌, codes}
use Rattle.mdv_command.specs.Below.{Component, Named, Part, SliceName, VolId, VolName, Pool, Replicas, Volume}
use Rattle.mdv_command.specs.Below.{behind, component_of, entry_of, front, late_interlace, on_some, size_of, slice_of}
use Rattle.mdv_command.specs.Given.{has, only, count_given, length_given, interlace_given}
use Rattle.mdv_command.specs.declared.given.Given.{Given}
use Rattle.mdv_command.specs.declared.command.Command.{Command}

-- one or more, and nothing behind them
abbrev pub some_of : {A : Type 0} → List A → List Part → Option (List A)
some_of [] ps = None
some_of (x ∷ xs) [] = Some (x ∷ xs)
some_of (x ∷ xs) (p ∷ ps) = None

-- any number of them, and nothing behind them
abbrev pub all_of : {A : Type 0} → List A → List Part → Option (List A)
all_of xs [] = Some xs
all_of xs (p ∷ ps) = None

abbrev pub some_slices : List Part → Option (List SliceName)
some_slices ps = some_of (front slice_of ps) (behind slice_of ps)

-- a volume or a pool
abbrev pub named_of : Part → Option Named
named_of (Volume v) = Some (Named.Volume v)
named_of (Pool p) = Some (Named.Pool p)
named_of _ = None

-- `metadb -a [-f] mddbNN`, or `metadb -a [-f] [-c n] [-l blocks] slice ..`
abbrev pub added_of : List Given → List Part → Option Command
added_of gs (Replicas n ∷ []) = if only (codes "af") gs then Some (Command.AddListed n (has 102 gs)) else None
added_of gs ps = on_some (some_slices ps) (λ ss. Some (Command.AddReplicas ss (record { count = count_given gs; blocks = length_given gs }) (has 102 gs)))

-- `metadb [-i]`
abbrev pub listed_of : List Given → Option (List ℕ) → List Part → Option Command
listed_of gs set [] = Some (Command.ListReplicas set (has 105 gs))
listed_of gs set (p ∷ ps) = None

-- `metadb -d [-f] slice ..`
abbrev pub deleted_of : List Given → List Part → Option Command
deleted_of gs ps = on_some (some_slices ps) (λ ss. Some (Command.DeleteReplicas ss (has 102 gs)))

abbrev pub metadb_of : List Given → Option (List ℕ) → List Part → Option Command
metadb_of gs set ps =
    if has 97 gs then (if only (codes "afcl") gs then added_of gs ps else None) else
    (if has 100 gs then (if only (codes "df") gs then deleted_of gs ps else None) else
    (if only (codes "is") gs then listed_of gs set ps else None))

-- `metainit [-f] NAME` of a volume or a pool, or `metainit [-f] ENTRY` but of replicas
abbrev pub made_of : Bool → Option (List ℕ) → List Part → Option Command
made_of force set (Volume v ∷ []) = Some (Command.MakeNamed set (Named.Volume v) force)
made_of force set (Pool p ∷ []) = Some (Command.MakeNamed set (Named.Pool p) force)
made_of force set (Replicas n ∷ ps) = None
made_of force set ps = on_some (entry_of set ps) (λ e. Some (Command.Make e force))

-- `metainit -a`
abbrev pub all_made_of : List Part → Option Command
all_made_of [] = Some Command.MakeAll
all_made_of (p ∷ ps) = None

abbrev pub metainit_of : List Given → Option (List ℕ) → List Part → Option Command
metainit_of gs set ps = if has 97 gs then (if only (codes "a") gs then all_made_of ps else None) else made_of (has 102 gs) set ps

-- `metaclear -a [-f]`
abbrev pub all_cleared_of : Option (List ℕ) → List Part → Option Command
all_cleared_of set [] = Some (Command.ClearAll set)
all_cleared_of set (p ∷ ps) = None

-- `metaclear [-r] [-f] NAME ..`
abbrev pub metaclear_of : List Given → Option (List ℕ) → List Part → Option Command
metaclear_of gs set ps =
    if has 97 gs then (if only (codes "afs") gs then all_cleared_of set ps else None) else
    on_some (some_of (front named_of ps) (behind named_of ps)) (λ ns. Some (Command.Clear set ns (has 114 gs)))

abbrev pub ends_attach : VolName → List Component → Option (Option ℕ × List Part) → Option Command
ends_attach name [] read = None
ends_attach name (c ∷ cs) None = None
ends_attach name (c ∷ cs) (Some (interlace, [])) = Some (Command.Attach name (c ∷ cs) interlace)
ends_attach name (c ∷ cs) (Some (interlace, p ∷ ps)) = None

-- `[-i interlace]` in front or last, one component or more between
abbrev pub attached_of : VolName → Option ℕ → List Part → Option Command
attached_of name interlace ps = ends_attach name (front component_of ps) (late_interlace interlace (behind component_of ps))

-- the size that the only part says
abbrev pub only_size : List Part → Option ℕ
only_size (p ∷ []) = size_of p
only_size _ = None

-- a size of one block or more, or components
abbrev pub sized_of : VolName → List Given → List Part → Option ℕ → Option Command
sized_of name gs ps None = attached_of name (interlace_given gs) ps
sized_of name gs ps (Some blocks) = if only (codes "s") gs then (if nat_le 1 blocks then Some (Command.Grow name blocks) else None) else None

-- behind the first operand
abbrev pub attach_of : VolName → List Given → List Part → Option Command
attach_of name gs ps = sized_of name gs ps (only_size ps)

-- `metattach VOLUME ..`
abbrev pub metattach_of : List Given → Option (List ℕ) → List Part → Option Command
metattach_of gs set (Volume v ∷ ps) = attach_of (record { set = set; volume = v }) gs ps
metattach_of gs set _ = None

-- `MIRROR SUB`
abbrev pub submirror_of : Option (List ℕ) → List Part → Option (VolName × VolId)
submirror_of set (Volume m ∷ Volume s ∷ []) = Some (record { set = set; volume = m }, s)
submirror_of set _ = None

-- `metadetach [-f] MIRROR SUB`
abbrev pub metadetach_of : List Given → Option (List ℕ) → List Part → Option Command
metadetach_of gs set ps = on_some (submirror_of set ps) (λ p. Some (Command.Detach p.0 p.1 (has 102 gs)))

-- `metaoffline MIRROR SUB`
abbrev pub metaoffline_of : Option (List ℕ) → List Part → Option Command
metaoffline_of set ps = on_some (submirror_of set ps) (λ p. Some (Command.Offline p.0 p.1))

-- `metaonline MIRROR SUB`
abbrev pub metaonline_of : Option (List ℕ) → List Part → Option Command
metaonline_of set ps = on_some (submirror_of set ps) (λ p. Some (Command.Online p.0 p.1))

-- `metareplace -e VOL comp`
abbrev pub enabled_of : Option (List ℕ) → List Part → Option Command
enabled_of set (Volume v ∷ p ∷ []) = on_some (component_of p) (λ c. Some (Command.Enable (record { set = set; volume = v }) c))
enabled_of set _ = None

-- `metareplace VOL old new`
abbrev pub replaced_of : Option (List ℕ) → List Part → Option Command
replaced_of set (Volume v ∷ p ∷ q ∷ []) = on_some (component_of p) (λ old. on_some (component_of q) (λ new. Some (Command.Replace (record { set = set; volume = v }) old new)))
replaced_of set _ = None

abbrev pub metareplace_of : List Given → Option (List ℕ) → List Part → Option Command
metareplace_of gs set ps = if has 101 gs then enabled_of set ps else replaced_of set ps

-- `metastat [-p] [NAME ..]`
abbrev pub metastat_of : List Given → Option (List ℕ) → List Part → Option Command
metastat_of gs set ps = on_some (all_of (front named_of ps) (behind named_of ps)) (λ ns. Some (Command.Status set ns (has 112 gs)))
