-- An entry of replicas names a slice or more, and numbers that replicas may have.
use Rattle.std.proofs.Common.{ℕ, ◌≤◌, Bool, true, false, cond, Option, None, Some, List, [], ◌∷◌, length, arith}
use Rattle.std.specs.Prelude.{IfSome, nat_le}
use Rattle.mdv_base.specs.declared.drive.SliceName.{SliceName}
use Rattle.mdv_base.specs.declared.name.PoolId.{PoolId}
use Rattle.mdv_base.specs.declared.name.VolId.{VolId}
use Rattle.mdv_name.specs.declared.volume.PoolName.{PoolName}
use Rattle.mdv_name.specs.declared.volume.VolName.{VolName}
use Rattle.mdv_parts.specs.declared.component.Component.{Component}
use Rattle.mdv_parts.specs.declared.options.ReplicaOptions.{ReplicaOptions}
use Rattle.mdv_parts.specs.declared.part.Part.{Part}
use Rattle.mdv_parts.specs.declared.part.Part.TheVariants.{Number, Pool, Replicas, Volume}
use Rattle.mdv_parts.specs.Options.{at_letter, has_letter, split_replica_options}
use Rattle.mdv_parts.specs.Runs.{behind, component_of, front, pool_of, slice_of, volume_of}
use Rattle.mdv_tab.specs.declared.entry.Entry.{Entry}
use Rattle.mdv_tab.specs.declared.entry.MirrorOptions.{MirrorOptions}
use Rattle.mdv_tab.specs.declared.entry.RaidOptions.{RaidOptions}
use Rattle.mdv_tab.specs.declared.entry.Row.{Row}
use Rattle.mdv_tab.specs.Form.{ends_mirror, mirror_with, mirror_of, raid_with, raid_of, soft_of, room_of, ends_pool, ends_replicas, replicas_of, lettered_of, volume_entry, entry_of}
use Rattle.mdv_tab.specs.Options.{mirror_options, on_some, pass_of, raid_options}
use Rattle.mdv_tab.specs.Stripe.{ends_stripe, split_rows, stripe_of, with_rows}
use Rattle.mdv_words.proofs.Options.{AreBounded, options_bounded}

-- what holds of either of two, and of what follows
pub if_either : {A : Type 0} (P : A → Type 0) (b : Bool) (x y : Option A) → IfSome x P → IfSome y P → IfSome (cond b x y) P
if_either P true x y first second = first
if_either P false x y first second = second

pub if_then : {A B : Type 0} (P : A → Type 0) (o : Option B) (next : B → Option A) → ((b : B) → IfSome (next b) P) → IfSome (on_some o next) P
if_then P None next holds = tt
if_then P (Some b) next holds = holds b

abbrev pub KeepsEntry : Entry → Type 0
KeepsEntry (Entry.Replicas number options slices) = (1 ≤ length slices) × AreBounded options
KeepsEntry _ = Unit {0}

abbrev pub Kept : Option Entry → Type 0
Kept entry = IfSome entry KeepsEntry

mirror_keeps : (name : VolName) (vs : List VolId) (read : MirrorOptions × List Part) → Kept (mirror_with name vs read)
mirror_keeps name [] (options, ps) = tt
mirror_keeps name (v ∷ vs) (options, ps) = by (pass_of ps) where
  by : (pass : Option ℕ) → Kept (ends_mirror name (v ∷ vs) options pass)
  by None = tt
  by (Some pass) = tt

raid_keeps : (name : VolName) (cs : List Component) (read : Option (RaidOptions × List Part)) → Kept (raid_with name cs read)
raid_keeps name [] read = tt
raid_keeps name (c ∷ cs) None = tt
raid_keeps name (c ∷ cs) (Some (options, [])) = tt
raid_keeps name (c ∷ cs) (Some (options, p ∷ ps)) = tt

soft_keeps : (name : VolName) (ps : List Part) → Kept (soft_of name ps)
soft_keeps name [] = tt
soft_keeps name (p ∷ ps) =
    if_then KeepsEntry (component_of p) (λ (base : Component). on_some (room_of ps) (λ room. Some (Entry.Soft name base room))) (λ base.
    if_then KeepsEntry (room_of ps) (λ room. Some (Entry.Soft name base room)) (λ room. tt))

pool_keeps : (name : PoolName) (slices : List SliceName) (ps : List Part) → Kept (ends_pool name slices ps)
pool_keeps name slices [] = tt
pool_keeps name slices (p ∷ ps) = tt

replicas_end : (number : ℕ) (options : ReplicaOptions) (slices : List SliceName) (ps : List Part) → AreBounded options → Kept (ends_replicas number options slices ps)
replicas_end number options [] ps are = tt
replicas_end number options (s ∷ ss) [] are = (omega arith, are)
replicas_end number options (s ∷ ss) (p ∷ ps) are = tt

replicas_keep : (number : ℕ) (ps : List Part) → Kept (replicas_of number ps)
replicas_keep number ps = by (split_replica_options ps) (options_bounded ps) where
  by : (read : Option (ReplicaOptions × List Part)) → IfSome read (λ r. AreBounded r.0) → Kept (on_some read (λ r. ends_replicas number r.0 (front slice_of r.1) (behind slice_of r.1)))
  by None are = tt
  by (Some r) are = replicas_end number r.0 (front slice_of r.1) (behind slice_of r.1) are

rows_keep : (name : VolName) (read : Option (List Row × List Part)) → Kept (with_rows name read)
rows_keep name None = tt
rows_keep name (Some (rows, ps)) = by (at_letter 104 pool_of ps) where
  by : (read : Option (Option PoolId × List Part)) → Kept (ends_stripe name rows read)
  by None = tt
  by (Some (spares, [])) = tt
  by (Some (spares, p ∷ ps)) = tt

stripe_keeps : (name : VolName) (count : ℕ) (ps : List Part) → Kept (stripe_of name count ps)
stripe_keeps name count ps = if_either KeepsEntry (nat_le 1 count) (with_rows name (split_rows count ps)) None (rows_keep name (split_rows count ps)) tt

lettered_keeps : (name : VolName) (p : Part) (ps : List Part) → Kept (lettered_of name p ps)
lettered_keeps name p ps =
    let soft : Option Entry = cond (has_letter 112 p) (soft_of name ps) None in
    let raid : Option Entry = cond (has_letter 114 p) (raid_of name ps) soft in
    let softly = if_either KeepsEntry (has_letter 112 p) (soft_of name ps) None (soft_keeps name ps) tt in
    let raided = if_either KeepsEntry (has_letter 114 p) (raid_of name ps) soft (raid_keeps name (front component_of ps) (raid_options (behind component_of ps))) softly in
    if_either KeepsEntry (has_letter 109 p) (mirror_of name ps) raid (mirror_keeps name (front volume_of ps) (mirror_options (behind volume_of ps))) raided

volume_keeps : (name : VolName) (ps : List Part) → Kept (volume_entry name ps)
volume_keeps name [] = tt
volume_keeps name (Number n ∷ ps) = stripe_keeps name n ps
volume_keeps name (p ∷ ps) = lettered_keeps name p ps

pub entry_keeps : (set : Option (List ℕ)) (ps : List Part) → Kept (entry_of set ps)
entry_keeps set [] = tt
entry_keeps set (Volume v ∷ ps) = volume_keeps (record { set = set; volume = v }) ps
entry_keeps set (Pool p ∷ ps) = pool_keeps (record { set = set; pool = p }) (front slice_of ps) (behind slice_of ps)
entry_keeps None (Replicas n ∷ ps) = replicas_keep n ps
entry_keeps (Some s) (Replicas n ∷ ps) = tt
entry_keeps set (p ∷ ps) = tt
