-- A table of which all is noted stays one.
use Rattle.std.proofs.Common.{◌≡◌, ◌==◌, ℕ, zero, suc, refl, sym, ◌∙◌, ap, Bool, true, false, List, [], ◌∷◌, length, map, Option, None, Some, inl, inr, arith}
use Rattle.std.specs.Prelude.{if◌then◌else◌, fold, unwrap_or}
use Rattle.std.specs.List.{find, AllZip}
use Rattle.std.specs.Option.{option_map}
use Rattle.std.proofs.lemmas.Bool.{cases_lt}
use Rattle.std.proofs.lemmas.Bool.Decides.{nat_tests}
use Rattle.mdv_plan.specs.Sorted.{with_put}
use Rattle.mdv_whole.specs.Below.{Pool, Spare, Volume, VolumeKind}
use Rattle.mdv_whole.specs.Noted.{IsKindNoted, IsNoted, IsVolumeNoted}
use Rattle.mdv_whole.specs.Parted.{spare_states, with_pool, with_spare, with_spares}
use Rattle.mdv_whole.specs.Sides.{pool_of, spare_of, state_in, state_or_available}
use Rattle.mdv_plan.specs.declared.volume.VolumeKind.TheVariants.{Stripe as StripeKind, Mirror as MirrorKind, Raid as RaidKind, Soft as SoftKind}
use Rattle.mdv_notes.specs.Below.{VolId, SliceName, slice_code, KindStatus, StripeNoted, MirrorNoted, RaidNoted, SoftNoted, PartStatus, SpareState, SpareStatus, SpareUse, VolumeStatus, Table, Available, InUse, Broken}
use Rattle.mdv_notes.specs.Flags.{flags_noted, subs_of}
use Rattle.mdv_notes.specs.Named.{is_slice}
use Rattle.mdv_notes.specs.Noted.{noted_of, restated, with_flag, with_part, with_parts, with_raid_done, with_regions}
use Rattle.mdv_notes.specs.Parts.{changed_at, part_noted, part_resumed}
use Rattle.mdv_notes.specs.Regions.{has_dirty}
use Rattle.mdv_notes.specs.Spares.{spare_key, spare_noted, spares_noted, spares_after}
use Rattle.mdv_notes.specs.Told.{dirty_of, spare_under, state_in as told_state}
use Rattle.mdv_notes.specs.declared.note.Note.{Note}
use Rattle.mdv_notes.specs.declared.note.Note.TheVariants.{Part, SpareBroken, SpareAvailable, RegionsDirty, RegionsClean, SubOffline, SubOnline, RaidOkay}
use Rattle.mdv_notes.specs.declared.note.PartNote.{PartNote}
use Rattle.mdv_notes.specs.declared.note.PartNote.TheVariants.{Okay as NowOkay, Resyncing as NowResyncing, Failed, Spared, LastErred as NowLastErred, Enabled}
use Rattle.mdv_notes.specs.declared.note.RegionRange.{RegionRange}
use Rattle.mdv_notes.proofs.Finding.{none_noted, same_or_other}
use Rattle.mdv_notes.proofs.SpareStates.{spare_other, spare_own, told}

-- as many states as before
abbrev Keeps : (KindStatus → KindStatus) → Type 0
Keeps f = (k : VolumeKind) (n : KindStatus) → IsKindNoted k n → IsKindNoted k (f n)

length-changed_at : {T : Type 0} (f : T → T) (n : ℕ) (xs : List T) → length (changed_at n f xs) ≡ length xs
length-changed_at f n [] = refl
length-changed_at f zero (x ∷ xs) = refl
length-changed_at f (suc n) (x ∷ xs) = ap suc (length-changed_at f n xs)

pub length-flags : (v : VolId) (is : Bool) (vs : List VolId) (flags : List Bool) → length (flags_noted v is vs flags) ≡ length flags
length-flags v is [] [] = refl
length-flags v is [] (flag ∷ flags) = refl
length-flags v is (w ∷ ws) [] = refl
length-flags v is (w ∷ ws) (flag ∷ flags) = ap suc (length-flags v is ws flags)

length-mapped : (f : PartStatus → PartStatus) (xs : List PartStatus) → length (map f xs) ≡ length xs
length-mapped f [] = refl
length-mapped f (x ∷ xs) = ap suc (length-mapped f xs)

part_keeps : (at : ℕ) (f : PartStatus → PartStatus) → Keeps (with_part at f)
part_keeps at f (StripeKind s) (StripeNoted parts) is = rw (length-changed_at f at parts) is
part_keeps at f (MirrorKind m) (StripeNoted parts) is = absurd is
part_keeps at f (RaidKind r) (StripeNoted parts) is = absurd is
part_keeps at f (SoftKind s) (StripeNoted parts) is = absurd is
part_keeps at f k (MirrorNoted n) is = is
part_keeps at f (RaidKind r) (RaidNoted n) is = length-changed_at f at n.columns ∙ is
part_keeps at f (StripeKind s) (RaidNoted n) is = absurd is
part_keeps at f (MirrorKind m) (RaidNoted n) is = absurd is
part_keeps at f (SoftKind s) (RaidNoted n) is = absurd is
part_keeps at f k SoftNoted is = is

parts_keep : (f : PartStatus → PartStatus) → Keeps (with_parts f)
parts_keep f (StripeKind s) (StripeNoted parts) is = rw (length-mapped f parts) is
parts_keep f (MirrorKind m) (StripeNoted parts) is = absurd is
parts_keep f (RaidKind r) (StripeNoted parts) is = absurd is
parts_keep f (SoftKind s) (StripeNoted parts) is = absurd is
parts_keep f k (MirrorNoted n) is = is
parts_keep f k (RaidNoted n) is = is
parts_keep f k SoftNoted is = is

regions_keep : (range : RegionRange) (dirty : Bool) → Keeps (with_regions range dirty)
regions_keep range dirty k (StripeNoted parts) is = is
regions_keep range dirty (MirrorKind m) (MirrorNoted n) is = is
regions_keep range dirty (StripeKind s) (MirrorNoted n) is = absurd is
regions_keep range dirty (RaidKind r) (MirrorNoted n) is = absurd is
regions_keep range dirty (SoftKind s) (MirrorNoted n) is = absurd is
regions_keep range dirty k (RaidNoted n) is = is
regions_keep range dirty k SoftNoted is = is

flag_keeps : (vs : List VolId) (v : VolId) (to : Bool) → Keeps (with_flag vs v to)
flag_keeps vs v to k (StripeNoted parts) is = is
flag_keeps vs v to (MirrorKind m) (MirrorNoted n) is = length-flags v to vs n.offline ∙ is
flag_keeps vs v to (StripeKind s) (MirrorNoted n) is = absurd is
flag_keeps vs v to (RaidKind r) (MirrorNoted n) is = absurd is
flag_keeps vs v to (SoftKind s) (MirrorNoted n) is = absurd is
flag_keeps vs v to k (RaidNoted n) is = is
flag_keeps vs v to k SoftNoted is = is

done_keeps : Keeps with_raid_done
done_keeps k (StripeNoted parts) is = is
done_keeps k (MirrorNoted n) is = is
done_keeps (RaidKind r) (RaidNoted n) is = is
done_keeps (StripeKind s) (RaidNoted n) is = absurd is
done_keeps (MirrorKind m) (RaidNoted n) is = absurd is
done_keeps (SoftKind s) (RaidNoted n) is = absurd is
done_keeps k SoftNoted is = is

-- of each volume of the plan something is noted, and of no other
volumes_keep : (v : VolId) (f : KindStatus → KindStatus) → Keeps f → (vs : List Volume) (xs : List VolumeStatus) → AllZip IsVolumeNoted vs xs → AllZip IsVolumeNoted vs (map (restated v f) xs)
volumes_keep v f keeps [] [] all = all
volumes_keep v f keeps [] (x ∷ xs) all = absurd all
volumes_keep v f keeps (w ∷ ws) [] all = absurd all
volumes_keep v f keeps (w ∷ ws) (x ∷ xs) all = (one (x.number.0 == v.0) all.0, volumes_keep v f keeps ws xs all.1)
  where
    one : (b : Bool) → IsVolumeNoted w x → IsVolumeNoted w (if b then record x { kind = f x.kind } else x)
    one true is = record { number = is.number; kind = keeps w.kind x.kind is.kind }
    one false is = is

state_told : (o : Option SpareStatus) → state_or_available o ≡ unwrap_or (option_map told_state o) Available
state_told None = refl
state_told (Some s) = refl

module _ (name : SliceName) (state : SpareState) where
  key_kept : (x : SpareStatus) → spare_key (spare_noted name state x) ≡ spare_key x
  key_kept x = by_key (spare_key x == slice_code name)
    where
      by_key : (b : Bool) → spare_key (if b then record x { state = state } else x) ≡ spare_key x
      by_key true = refl
      by_key false = refl

  -- noted before it is put in, or behind
  put_noted : (x : SpareStatus) (acc : List SpareStatus) → with_put spare_key (spare_noted name state x) (spares_noted name state acc) ≡ spares_noted name state (with_put spare_key x acc)
  put_noted x [] = refl
  put_noted x (y ∷ ys) =
      let kx = key_kept x in
      let ky = key_kept y in
      let rest = put_noted x ys in
      elim (cases_lt (spare_key x) (spare_key y)) [
        | inl below ↦ grind (arith, nat_tests, kx, ky)
        | inr at_least ↦ elim (same_or_other (spare_key y) (spare_key x)) [ inl same ↦ grind (arith, nat_tests, kx, ky) | inr other ↦ grind (arith, nat_tests, kx, ky, rest) ]
      ]

  module _ (states : List SpareStatus) (old : SpareStatus) (found : find (λ x. spare_key x == slice_code name) states ≡ Some old) where
    -- a spare with the state that is noted is the one that was, noted
    spare_made : (s : SliceName) → (let made : SpareStatus = record { slice = s; state = state_in (spares_noted name state states) s } in made) ≡ spare_noted name state (record { slice = s; state = state_in states s })
    spare_made s = by_name (slice_code s == slice_code name) refl
      where
        by_name : (b : Bool) → (slice_code s == slice_code name) ≡ b → (let made : SpareStatus = record { slice = s; state = state_in (spares_noted name state states) s } in made) ≡ (if b then record { slice = s; state = state } else record { slice = s; state = state_in states s })
        by_name true is =
            let same : slice_code s ≡ slice_code name = grind (arith, nat_tests) in
            let named : is_slice name s ≡ true = grind (arith, nat_tests) in
            let here : find (λ x. spare_key x == slice_code s) states ≡ Some old = ap (λ (k : ℕ). find (λ x. spare_key x == k) states) same ∙ found in
            let noted : told s (spares_noted name state states) ≡ Some state = spare_own name s state states named ∙ ap (λ (o : Option SpareStatus). option_map (λ was. state) (option_map told_state o)) here in
            let at : state_in (spares_noted name state states) s ≡ state = state_told (find (λ x. spare_key x == slice_code s) (spares_noted name state states)) ∙ ap (λ (o : Option SpareState). unwrap_or o Available) noted in
            λ i. record { slice = s; state = at i }
        by_name false is =
            let named : is_slice name s ≡ false = grind (arith, nat_tests) in
            let at : state_in (spares_noted name state states) s ≡ state_in states s =
            state_told (find (λ x. spare_key x == slice_code s) (spares_noted name state states))
            ∙ ap (λ (o : Option SpareState). unwrap_or o Available) (spare_other name s state states named)
            ∙ sym (state_told (find (λ x. spare_key x == slice_code s) states)) in
            λ i. record { slice = s; state = at i }

    spare_put : (acc : List SpareStatus) (s : Spare) → with_spare (spares_noted name state acc) (spare_of (spares_noted name state states) s) ≡ spares_noted name state (with_spare acc (spare_of states s))
    spare_put acc s =
        ap (λ (x : SpareStatus). with_put spare_key x (spares_noted name state acc)) (spare_made s.slice) ∙ put_noted (record { slice = s.slice; state = state_in states s.slice }) acc

    spares_folded : (acc : List SpareStatus) (ss : List Spare) → with_spares (spares_noted name state acc) (map (spare_of (spares_noted name state states)) ss) ≡ spares_noted name state (with_spares acc (map (spare_of states) ss))
    spares_folded acc [] = refl
    spares_folded acc (s ∷ ss) =
        ap (λ (xs : List SpareStatus). with_spares xs (map (spare_of (spares_noted name state states)) ss)) (spare_put acc s) ∙ spares_folded (with_spare acc (spare_of states s)) ss

    pools_folded : (acc : List SpareStatus) (ps : List Pool) → fold with_pool (spares_noted name state acc) (map (pool_of (spares_noted name state states)) ps) ≡ spares_noted name state (fold with_pool acc (map (pool_of states) ps))
    pools_folded acc [] = refl
    pools_folded acc (p ∷ ps) =
        ap (λ (xs : List SpareStatus). fold with_pool xs (map (pool_of (spares_noted name state states)) ps)) (spares_folded acc p.spares) ∙ pools_folded (with_pool acc (pool_of states p)) ps

  -- the spares' states are those that the pools have
  spares_stay : (pools : List Pool) (states : List SpareStatus) → spare_states (map (pool_of states) pools) ≡ states → spare_states (map (pool_of (spares_noted name state states)) pools) ≡ spares_noted name state states
  spares_stay pools states is = by_found (find (λ x. spare_key x == slice_code name) states) refl
    where
      by_found : (o : Option SpareStatus) → find (λ x. spare_key x == slice_code name) states ≡ o → spare_states (map (pool_of (spares_noted name state states)) pools) ≡ spares_noted name state states
      by_found None none = let same = none_noted name state states none in ap (λ (xs : List SpareStatus). spare_states (map (pool_of xs) pools)) (sym same) ∙ is ∙ same
      by_found (Some old) found = pools_folded states old found [] pools ∙ ap (spares_noted name state) is

after_stays : (note : PartNote) (under : Option SpareUse) (pools : List Pool) (states : List SpareStatus) → spare_states (map (pool_of states) pools) ≡ states → spare_states (map (pool_of (spares_after note under states)) pools) ≡ spares_after note under states
after_stays NowOkay None pools states is = is
after_stays NowOkay (Some u) pools states is = is
after_stays (NowResyncing resync) None pools states is = is
after_stays (NowResyncing resync) (Some u) pools states is = is
after_stays Failed None pools states is = is
after_stays Failed (Some u) pools states is = spares_stay u.slice Broken pools states is
after_stays (Spared w) None pools states is = spares_stay w.slice InUse pools states is
after_stays (Spared w) (Some u) pools states is = spares_stay w.slice InUse pools (spares_noted u.slice Broken states) (spares_stay u.slice Broken pools states is)
after_stays NowLastErred None pools states is = is
after_stays NowLastErred (Some u) pools states is = is
after_stays Enabled None pools states is = is
after_stays Enabled (Some u) pools states is = spares_stay u.slice Available pools states is

pub stays_noted : (t : Table) (n : Note) → IsNoted t → IsNoted (noted_of t n)
stays_noted t (Part at note) is = record {
  volumes = volumes_keep at.volume (with_part at.place (part_noted note)) (part_keeps at.place (part_noted note)) t.plan.volumes t.status.volumes is.volumes;
  spares = after_stays note (spare_under t.status at) t.plan.pools t.status.spares is.spares;
}
stays_noted t (SpareBroken s) is = record { volumes = is.volumes; spares = spares_stay s Broken t.plan.pools t.status.spares is.spares }
stays_noted t (SpareAvailable s) is = record { volumes = is.volumes; spares = spares_stay s Available t.plan.pools t.status.spares is.spares }
stays_noted t (RegionsDirty m range) is = record { volumes = volumes_keep m (with_regions range true) (regions_keep range true) t.plan.volumes t.status.volumes is.volumes; spares = is.spares }
stays_noted t (RegionsClean m range) is = record { volumes = volumes_keep m (with_regions range false) (regions_keep range false) t.plan.volumes t.status.volumes is.volumes; spares = is.spares }
stays_noted t (SubOffline m v) is = record { volumes = volumes_keep m (with_flag (subs_of t.plan m) v true) (flag_keeps (subs_of t.plan m) v true) t.plan.volumes t.status.volumes is.volumes; spares = is.spares }
stays_noted t (SubOnline m v) is = record {
  volumes =
      volumes_keep v (with_parts (part_resumed (has_dirty (dirty_of t.status m)))) (parts_keep (part_resumed (has_dirty (dirty_of t.status m)))) t.plan.volumes (map (restated m (with_flag (subs_of t.plan m) v false)) t.status.volumes)
      (volumes_keep m (with_flag (subs_of t.plan m) v false) (flag_keeps (subs_of t.plan m) v false) t.plan.volumes t.status.volumes is.volumes);
  spares = is.spares;
}
stays_noted t (RaidOkay v) is = record { volumes = volumes_keep v with_raid_done done_keeps t.plan.volumes t.status.volumes is.volumes; spares = is.spares }
