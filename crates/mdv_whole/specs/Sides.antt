-- The record of a table: each part of the plan with what is noted of it beside it.
use Rattle.std.specs.Prelude.{◌==◌, ℕ, Bool, List, [], ◌∷◌, ◌++◌, length, drop, map, Option, None, Some, find}
use Rattle.mdv_whole.specs.Below.{SliceName, VolId, Recorded, RecordedFront, RecordedKind, RecordedMirror, RecordedOptions, RecordedPart, RecordedPool, RecordedRaid, RecordedRow, RecordedSoft, RecordedSpare, RecordedStripe, RecordedSubmirror, RecordedVolume}
use Rattle.mdv_whole.specs.Below.{slice_code, Lists, Plan, Pool, Spare, KindStatus, PartStatus, RaidState, SpareState, SpareStatus, VolumeStatus, Table, Component, Mirror, Raid, Row, Soft, Stripe, Volume, VolumeKind}
use Rattle.mdv_codec.specs.declared.recorded.RecordedKind.TheVariants.{Stripe as StripeRecorded, Mirror as MirrorRecorded, Raid as RaidRecorded, Soft as SoftRecorded}
use Rattle.mdv_plan.specs.declared.status.KindStatus.TheVariants.{Stripe as StripeNoted, Mirror as MirrorNoted, Raid as RaidNoted, Soft as SoftNoted}
use Rattle.mdv_plan.specs.declared.status.RaidState.TheVariants.{Okay}
use Rattle.mdv_plan.specs.declared.status.SpareState.TheVariants.{Available}
use Rattle.mdv_plan.specs.declared.volume.VolumeKind.TheVariants.{Stripe as StripeKind, Mirror as MirrorKind, Raid as RaidKind, Soft as SoftKind}

-- two lists side by side, as far as both go
abbrev pub beside : {A B C : Type 0} → (A → B → C) → List A → List B → List C
beside f [] ys = []
beside f (x ∷ xs) [] = []
beside f (x ∷ xs) (y ∷ ys) = f x y ∷ beside f xs ys

-- their texts, one pair behind another
abbrev pub pairs_text : {A B : Type 0} → (A → B → List ℕ) → List A → List B → List ℕ
pairs_text text [] ys = []
pairs_text text (x ∷ xs) [] = []
pairs_text text (x ∷ xs) (y ∷ ys) = text x y ++ pairs_text text xs ys

abbrev pub part_of : Component → PartStatus → RecordedPart
part_of c s = record { component = c; status = s }

abbrev pub row_of : Row → List PartStatus → RecordedRow
row_of r states = record { interlace = r.interlace; parts = beside part_of r.components states }

-- the states of a stripe volume's components stand in one list over all rows
abbrev pub rows_of : List Row → List PartStatus → List RecordedRow
rows_of [] states = []
rows_of (r ∷ rs) states = row_of r states ∷ rows_of rs (drop (length r.components) states)

abbrev pub submirror_of : VolId → Bool → RecordedSubmirror
submirror_of v offline = record { volume = v; offline = offline }

-- what is noted of a volume; nothing where it is noted of another kind
abbrev pub part_states : KindStatus → List PartStatus
part_states (StripeNoted states) = states
part_states (MirrorNoted m) = []
part_states (RaidNoted r) = r.columns
part_states SoftNoted = []

abbrev pub offline_of : KindStatus → List Bool
offline_of (MirrorNoted m) = m.offline
offline_of _ = []

abbrev pub dirty_of : KindStatus → List ℕ
dirty_of (MirrorNoted m) = m.dirty
dirty_of _ = []

abbrev pub raid_state_of : KindStatus → RaidState
raid_state_of (RaidNoted r) = r.state
raid_state_of _ = Okay

abbrev pub stripe_of : Stripe → KindStatus → RecordedStripe
stripe_of s k = record { spares = s.spares; rows = rows_of s.rows (part_states k) }

abbrev pub options_of : Mirror → RecordedOptions
options_of m = record { read = m.read; write = m.write; pass = m.pass }

abbrev pub mirror_of : Mirror → KindStatus → RecordedMirror
mirror_of m k =
    record {
      options = options_of m;
      submirrors = beside submirror_of m.submirrors (offline_of k);
      blocks = m.blocks;
      dirty = dirty_of k;
    }

abbrev pub raid_of : Raid → KindStatus → RecordedRaid
raid_of r k =
    record {
      spares = r.spares;
      interlace = r.interlace;
      columns = record { units = r.units; state = raid_state_of k; parts = beside part_of r.columns (part_states k) };
    }

abbrev pub soft_of : Soft → RecordedSoft
soft_of s = record { base = s.base; start = s.start; extents = s.extents }

abbrev pub kind_of : VolumeKind → KindStatus → RecordedKind
kind_of (StripeKind s) k = StripeRecorded (stripe_of s k)
kind_of (MirrorKind m) k = MirrorRecorded (mirror_of m k)
kind_of (RaidKind r) k = RaidRecorded (raid_of r k)
kind_of (SoftKind s) k = SoftRecorded (soft_of s)

abbrev pub volume_of : Volume → VolumeStatus → RecordedVolume
volume_of v s = record { number = v.number; kind = kind_of v.kind s.kind }

abbrev pub spare_key : SpareStatus → ℕ
spare_key s = slice_code s.slice

abbrev pub state_or_available : Option SpareStatus → SpareState
state_or_available None = Available
state_or_available (Some s) = s.state

-- the one state of a spare, wherever it stands
abbrev pub state_in : List SpareStatus → SliceName → SpareState
state_in states name = state_or_available (find (λ s. spare_key s == slice_code name) states)

abbrev pub spare_of : List SpareStatus → Spare → RecordedSpare
spare_of states s = record { spare = s; state = state_in states s.slice }

abbrev pub pool_of : List SpareStatus → Pool → RecordedPool
pool_of states p = record { number = p.number; spares = map (spare_of states) p.spares }

-- the front of the record, with these lists of places
abbrev pub front_with : Plan → Lists → RecordedFront
front_with p lists = record { lists = lists; set = p.set; pending = p.pending }

-- plan and status side by side, with these lists in place of the plan's own
abbrev pub recorded_with : Table → Lists → Recorded
recorded_with t lists =
    record {
      front = front_with t.plan lists;
      pools = map (pool_of t.status.spares) t.plan.pools;
      volumes = beside volume_of t.plan.volumes t.status.volumes;
    }

-- and with the plan's own
abbrev pub front_of : Plan → RecordedFront
front_of p = front_with p p.lists

abbrev pub recorded_of : Table → Recorded
recorded_of t = recorded_with t t.plan.lists
