-- Options that may stand in any order: each is looked for in turn, where it isn't given yet.
use Rattle.std.specs.Prelude.{ℕ, Bool, true, false, if◌then◌else◌, Option, None, Some, List, [], ◌∷◌}
use Rattle.mdv_base.specs.declared.name.PoolId.{PoolId}
use Rattle.mdv_parts.specs.declared.part.Part.{Part}
use Rattle.mdv_parts.specs.Runs.{pool_of}
use Rattle.mdv_parts.specs.Options.{has_letter, at_letter, split_interlace, number_within}
use Rattle.mdv_tab.specs.declared.entry.MirrorOptions.{MirrorOptions}
use Rattle.mdv_tab.specs.declared.entry.RaidOptions.{RaidOptions}
use Rattle.mdv_tab.specs.declared.entry.ReadFrom.{ReadFrom}

abbrev pub on_some : {A B : Type 0} → Option A → (A → Option B) → Option B
on_some None next = None
on_some (Some x) next = next x

-- a letter without a value
abbrev pub flag_option : ℕ → Bool → List Part → Bool × List Part
flag_option letter true ps = (true, ps)
flag_option letter false [] = (false, [])
flag_option letter false (p ∷ ps) = if has_letter letter p then (true, ps) else (false, p ∷ ps)

-- `-g` or `-r`
abbrev pub read_option : Option ReadFrom → List Part → Option ReadFrom × List Part
read_option (Some read) ps = (Some read, ps)
read_option None [] = (None, [])
read_option None (p ∷ ps) = if has_letter 103 p then (Some ReadFrom.Geometric, ps) else (if has_letter 114 p then (Some ReadFrom.First, ps) else (None, p ∷ ps))

-- `-S` stands behind the other or in front of it
abbrev pub mirror_options : List Part → MirrorOptions × List Part
mirror_options ps =
    let a = read_option None ps in
    let b = flag_option 83 false a.1 in
    let c = read_option a.0 b.1 in (record { read = c.0; serial = b.0 }, c.1)

-- the pass stands last, and is 1 where none stands there
abbrev pub pass_of : List Part → Option ℕ
pass_of [] = Some 1
pass_of (p ∷ []) = number_within 1 9 p
pass_of (p ∷ q ∷ ps) = None

abbrev pub late_interlace : Option ℕ → List Part → Option (Option ℕ × List Part)
late_interlace (Some blocks) ps = Some (Some blocks, ps)
late_interlace None ps = split_interlace ps

abbrev pub late_pool : Option PoolId → List Part → Option (Option PoolId × List Part)
late_pool (Some pool) ps = Some (Some pool, ps)
late_pool None ps = at_letter 104 pool_of ps

abbrev pub with_keep : Option ℕ → Option PoolId → Bool × List Part → Option (RaidOptions × List Part)
with_keep interlace spares (keep, ps) = Some (record { interlace = interlace; spares = spares; keep = keep }, ps)

-- `-i SIZE`, `-h POOL` and `-k`, as far as they stand in this order
abbrev pub raid_round : RaidOptions → List Part → Option (RaidOptions × List Part)
raid_round o ps = on_some (late_interlace o.interlace ps) (λ a. on_some (late_pool o.spares a.1) (λ b. with_keep a.0 b.0 (flag_option 107 o.keep b.1)))

abbrev pub no_raid_option : RaidOptions
no_raid_option = record { interlace = None; spares = None; keep = false }

-- in any order
abbrev pub raid_options : List Part → Option (RaidOptions × List Part)
raid_options ps = on_some (raid_round no_raid_option ps) (λ a. on_some (raid_round a.0 a.1) (λ b. raid_round b.0 b.1))
