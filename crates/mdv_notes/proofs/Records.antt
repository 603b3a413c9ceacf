-- The record of a table after a note, and how long its text is.
use Rattle.std.proofs.Common.{◌≡◌, ◌+◌, ◌==◌, ℕ, zero, suc, refl, sym, ◌∙◌, ap, Bool, true, false, List, [], ◌∷◌, ◌++◌, length, map, arith}
use Rattle.std.specs.Prelude.{AllPairs, if◌then◌else◌}
use Rattle.std.specs.List.{AllZip}
use Rattle.mdv_fields.specs.Names.{pool_id_text}
use Rattle.mdv_fields.specs.Numbers.{u32_text}
use Rattle.mdv_fields.specs.Parts.{spare_state_text, spare_text}
use Rattle.mdv_fields.specs.Reading.{long_text}
use Rattle.mdv_codec.specs.Record.{body_text, front_text, head_text, IsBehindPool, IsBehindVolume, IsRecord, record_text}
use Rattle.mdv_codec.specs.Recorded.{PoolPartFits, pool_part_text, SparePartFits, spare_part_text, VolumeFits, volume_text}
use Rattle.mdv_whole.specs.Below.{Pool, Spare}
use Rattle.mdv_whole.specs.Sides.{beside, front_of, part_states, pool_of, recorded_of, spare_of, volume_of}
use Rattle.mdv_whole.specs.Text.{table_text}
use Rattle.mdv_notes.specs.Below.{VolId, KindStatus, StripeNoted, MirrorNoted, RaidNoted, SoftNoted, PartStatus, SpareState, SpareStatus, Status, VolumeStatus, OneVolume, Table, Available, InUse, Broken}
use Rattle.mdv_notes.specs.Flags.{subs_of}
use Rattle.mdv_notes.specs.Kept.{KeepsText, NoteFits, PartNoteFits}
use Rattle.mdv_notes.specs.Noted.{status_after, restated, with_flag, with_part, with_parts, with_raid_done, with_regions}
use Rattle.mdv_notes.specs.Parts.{changed_at, part_noted, part_resumed}
use Rattle.mdv_notes.specs.Regions.{has_dirty, regions_noted}
use Rattle.mdv_notes.specs.Told.{dirty_of}
use Rattle.mdv_notes.specs.declared.note.Note.{Note}
use Rattle.mdv_notes.specs.declared.note.Note.TheVariants.{Part, SpareBroken, SpareAvailable, RegionsDirty, RegionsClean, SubOffline, SubOnline, RaidOkay}
use Rattle.mdv_notes.specs.declared.note.PartNote.{PartNote}
use Rattle.mdv_notes.specs.declared.note.PartNote.TheVariants.{Okay as NowOkay, Resyncing as NowResyncing, Failed, Spared, LastErred as NowLastErred, Enabled}
use Rattle.mdv_notes.specs.declared.note.RegionRange.{RegionRange}
use Rattle.mdv_notes.proofs.Alike.{IsAlike, appended, zip_pairs, long_alike}
use Rattle.mdv_notes.proofs.Staying.{length-flags}
use Rattle.mdv_notes.proofs.Texts.{IsKindAlike, IsPartAlike, volume_alike}

-- a byte
state_size : (s : SpareState) → length (spare_state_text s) ≡ 1
state_size Available = refl
state_size InUse = refl
state_size Broken = refl

-- given what makes the states of a note fit
module _ (Given : Type 0) where
  module _ (old new : List SpareStatus) where
    spare_alike : (s : Spare) → IsAlike Given SparePartFits spare_part_text (spare_of old s) (spare_of new s)
    unfolding spare_part_text
    spare_alike s =
        let was = (spare_of old s).state in
        let is = (spare_of new s).state in
        record {
          size = appended (spare_text s) (spare_state_text was) (spare_text s) (spare_state_text is) refl (state_size is ∙ sym (state_size was));
          fits = λ given f. f;
        }

    spares_alike : (ss : List Spare) → AllZip (IsAlike Given SparePartFits spare_part_text) (map (spare_of old) ss) (map (spare_of new) ss)
    spares_alike [] = tt
    spares_alike (s ∷ ss) = (spare_alike s, spares_alike ss)

    pool_alike : (p : Pool) → IsAlike Given PoolPartFits pool_part_text (pool_of old p) (pool_of new p)
    unfolding pool_part_text
    pool_alike p =
        let spares = long_alike Given SparePartFits spare_part_text 100 (map (spare_of old) p.spares) (map (spare_of new) p.spares) (spares_alike p.spares) in
        record {
          size = appended (pool_id_text p.number) (long_text spare_part_text (map (spare_of old) p.spares)) (pool_id_text p.number) (long_text spare_part_text (map (spare_of new) p.spares)) refl spares.size;
          fits = λ given f. (f.0, spares.fits given f.1);
        }

    pools_alike : (ps : List Pool) → AllZip (IsAlike Given PoolPartFits pool_part_text) (map (pool_of old) ps) (map (pool_of new) ps)
    pools_alike [] = tt
    pools_alike (p ∷ ps) = (pool_alike p, pools_alike ps)

    pools_rise : (ps : List Pool) → AllPairs IsBehindPool (map (pool_of old) ps) → AllPairs IsBehindPool (map (pool_of new) ps)
    pools_rise ps rising = zip_pairs (λ a b. a.number.0 ≡ b.number.0) IsBehindPool (λ a b c d first second behind. omega (arith, first, second, behind)) (map (pool_of old) ps) (map (pool_of new) ps) (numbers ps) rising
      where
        numbers : (ps : List Pool) → AllZip (λ a b. a.number.0 ≡ b.number.0) (map (pool_of old) ps) (map (pool_of new) ps)
        numbers [] = tt
        numbers (p ∷ ps) = (refl, numbers ps)

  -- a volume's states before and after
  pub record IsStatusAlike (a b : VolumeStatus) : Type 0 where
    pub kind : IsKindAlike Given a.kind b.kind

  volumes_alike : (vs : List OneVolume) (xs ys : List VolumeStatus) → AllZip IsStatusAlike xs ys → AllZip (IsAlike Given VolumeFits volume_text) (beside volume_of vs xs) (beside volume_of vs ys)
  volumes_alike [] xs ys all = tt
  volumes_alike (v ∷ vs) [] [] all = tt
  volumes_alike (v ∷ vs) [] (y ∷ ys) all = absurd all
  volumes_alike (v ∷ vs) (x ∷ xs) [] all = absurd all
  volumes_alike (v ∷ vs) (x ∷ xs) (y ∷ ys) all = (volume_alike Given v x.number y.number x.kind y.kind all.0.kind, volumes_alike vs xs ys all.1)

  volumes_rise : (vs : List OneVolume) (xs ys : List VolumeStatus) → AllZip IsStatusAlike xs ys → AllPairs IsBehindVolume (beside volume_of vs xs) → AllPairs IsBehindVolume (beside volume_of vs ys)
  volumes_rise vs xs ys all rising = zip_pairs (λ a b. a.number.0 ≡ b.number.0) IsBehindVolume (λ a b c d first second behind. omega (arith, first, second, behind)) (beside volume_of vs xs) (beside volume_of vs ys) (numbers vs xs ys all) rising
    where
      numbers : (vs : List OneVolume) (xs ys : List VolumeStatus) → AllZip IsStatusAlike xs ys → AllZip (λ a b. a.number.0 ≡ b.number.0) (beside volume_of vs xs) (beside volume_of vs ys)
      numbers [] xs ys all = tt
      numbers (v ∷ vs) [] [] all = tt
      numbers (v ∷ vs) [] (y ∷ ys) all = absurd all
      numbers (v ∷ vs) (x ∷ xs) [] all = absurd all
      numbers (v ∷ vs) (x ∷ xs) (y ∷ ys) all = (refl, numbers vs xs ys all.1)

  -- the same plan with states like these
  record_alike : (t : Table) (status : Status) → AllZip IsStatusAlike t.status.volumes status.volumes → IsAlike Given (λ u. IsRecord (recorded_of u)) table_text t (record t { status = status })
  unfolding record_text body_text
  record_alike t status all =
      let front = front_text (front_of t.plan) in
      let pa = map (pool_of t.status.spares) t.plan.pools in
      let pb = map (pool_of status.spares) t.plan.pools in
      let va = beside volume_of t.plan.volumes t.status.volumes in
      let vb = beside volume_of t.plan.volumes status.volumes in
      let pools = long_alike Given PoolPartFits pool_part_text 1000 pa pb (pools_alike t.status.spares status.spares t.plan.pools) in
      let volumes = long_alike Given VolumeFits volume_text 8192 va vb (volumes_alike t.plan.volumes t.status.volumes status.volumes all) in
      let behind = appended (long_text pool_part_text pa) (long_text volume_text va) (long_text pool_part_text pb) (long_text volume_text vb) pools.size volumes.size in
      let body = appended front (long_text pool_part_text pa ++ long_text volume_text va) front (long_text pool_part_text pb ++ long_text volume_text vb) refl behind in
      let ba = front ++ (long_text pool_part_text pa ++ long_text volume_text va) in
      let bb = front ++ (long_text pool_part_text pb ++ long_text volume_text vb) in
      let sized = ap (λ (n : ℕ). length (u32_text (12 + n))) body in
      record {
        size = appended (head_text tt) (u32_text (12 + length ba) ++ ba) (head_text tt) (u32_text (12 + length bb) ++ bb) refl (appended (u32_text (12 + length ba)) ba (u32_text (12 + length bb)) bb sized body);
        fits = λ given is. record {
          fits = record {
            front = is.fits.front;
            pools = record { list = pools.fits given is.fits.pools.list; ascending = pools_rise t.status.spares status.spares t.plan.pools is.fits.pools.ascending };
            volumes = record { list = volumes.fits given is.fits.volumes.list; ascending = volumes_rise t.plan.volumes t.status.volumes status.volumes all is.fits.volumes.ascending };
          };
          short = omega (arith, is.short, body);
        };
      }

  same_parts : (ps : List PartStatus) → AllZip (IsPartAlike Given) ps ps
  same_parts [] = tt
  same_parts (p ∷ ps) = ((λ given f. f), same_parts ps)

  -- one changed, so that it fits
  changed_parts : (f : PartStatus → PartStatus) → ((p : PartStatus) → IsPartAlike Given p (f p)) → (n : ℕ) (ps : List PartStatus) → AllZip (IsPartAlike Given) ps (changed_at n f ps)
  changed_parts f fit n [] = tt
  changed_parts f fit zero (p ∷ ps) = (fit p, same_parts ps)
  changed_parts f fit (suc n) (p ∷ ps) = ((λ given f. f), changed_parts f fit n ps)

  mapped_parts : (f : PartStatus → PartStatus) → ((p : PartStatus) → IsPartAlike Given p (f p)) → (ps : List PartStatus) → AllZip (IsPartAlike Given) ps (map f ps)
  mapped_parts f fit [] = tt
  mapped_parts f fit (p ∷ ps) = (fit p, mapped_parts f fit ps)

  length-regions : (range : RegionRange) (dirty : Bool) (at : ℕ) (bytes : List ℕ) → length (regions_noted range dirty at bytes) ≡ length bytes
  length-regions range dirty at [] = refl
  length-regions range dirty at (b ∷ bs) = ap suc (length-regions range dirty (at + 8) bs)

  same_kind : (k : KindStatus) → IsKindAlike Given k k
  same_kind k = record { parts = same_parts (part_states k); flags = refl; dirty = refl }

  -- a change that leaves as many states, each of which fits where the old one did
  abbrev IsMild : (KindStatus → KindStatus) → Type 0
  IsMild f = (k : KindStatus) → IsKindAlike Given k (f k)

  module _ (f : PartStatus → PartStatus) (fit : (p : PartStatus) → IsPartAlike Given p (f p)) where
    part_mild : (n : ℕ) → IsMild (with_part n f)
    part_mild n (StripeNoted parts) = record { parts = changed_parts f fit n parts; flags = refl; dirty = refl }
    part_mild n (MirrorNoted m) = same_kind (MirrorNoted m)
    part_mild n (RaidNoted r) = record { parts = changed_parts f fit n r.columns; flags = refl; dirty = refl }
    part_mild n SoftNoted = same_kind SoftNoted

    parts_mild : IsMild (with_parts f)
    parts_mild (StripeNoted parts) = record { parts = mapped_parts f fit parts; flags = refl; dirty = refl }
    parts_mild (MirrorNoted m) = same_kind (MirrorNoted m)
    parts_mild (RaidNoted r) = same_kind (RaidNoted r)
    parts_mild SoftNoted = same_kind SoftNoted

  regions_mild : (range : RegionRange) (dirty : Bool) → IsMild (with_regions range dirty)
  regions_mild range dirty (StripeNoted parts) = same_kind (StripeNoted parts)
  regions_mild range dirty (MirrorNoted m) = record { parts = tt; flags = refl; dirty = length-regions range dirty 0 m.dirty }
  regions_mild range dirty (RaidNoted r) = same_kind (RaidNoted r)
  regions_mild range dirty SoftNoted = same_kind SoftNoted

  flag_mild : (vs : List VolId) (v : VolId) (is : Bool) → IsMild (with_flag vs v is)
  flag_mild vs v is (StripeNoted parts) = same_kind (StripeNoted parts)
  flag_mild vs v is (MirrorNoted m) = record { parts = tt; flags = length-flags v is vs m.offline; dirty = refl }
  flag_mild vs v is (RaidNoted r) = same_kind (RaidNoted r)
  flag_mild vs v is SoftNoted = same_kind SoftNoted

  done_mild : IsMild with_raid_done
  done_mild (StripeNoted parts) = same_kind (StripeNoted parts)
  done_mild (MirrorNoted m) = same_kind (MirrorNoted m)
  done_mild (RaidNoted r) = record { parts = same_parts r.columns; flags = refl; dirty = refl }
  done_mild SoftNoted = same_kind SoftNoted

  same_states : (xs : List VolumeStatus) → AllZip IsStatusAlike xs xs
  same_states [] = tt
  same_states (x ∷ xs) = (record { kind = same_kind x.kind }, same_states xs)

  restated_alike : (v : VolId) (f : KindStatus → KindStatus) → IsMild f → (xs : List VolumeStatus) → AllZip IsStatusAlike xs (map (restated v f) xs)
  restated_alike v f mild [] = tt
  restated_alike v f mild (x ∷ xs) = (one (x.number.0 == v.0), restated_alike v f mild xs)
    where
      one : (b : Bool) → IsStatusAlike x (if b then record x { kind = f x.kind } else x)
      one true = record { kind = mild x.kind }
      one false = record { kind = same_kind x.kind }

  -- two changes, one behind the other
  twice_alike : (xs ys zs : List VolumeStatus) → AllZip IsStatusAlike xs ys → AllZip IsStatusAlike ys zs → AllZip IsStatusAlike xs zs
  twice_alike [] [] zs first second = second
  twice_alike [] (y ∷ ys) zs first second = absurd first
  twice_alike (x ∷ xs) [] zs first second = absurd first
  twice_alike (x ∷ xs) (y ∷ ys) [] first second = absurd second
  twice_alike (x ∷ xs) (y ∷ ys) (z ∷ zs) first second = (record { kind = kinds x.kind y.kind z.kind first.0.kind second.0.kind }, twice_alike xs ys zs first.1 second.1)
    where
      parts : (ps qs rs : List PartStatus) → AllZip (IsPartAlike Given) ps qs → AllZip (IsPartAlike Given) qs rs → AllZip (IsPartAlike Given) ps rs
      parts [] [] rs a b = b
      parts [] (q ∷ qs) rs a b = absurd a
      parts (p ∷ ps) [] rs a b = absurd a
      parts (p ∷ ps) (q ∷ qs) [] a b = absurd b
      parts (p ∷ ps) (q ∷ qs) (r ∷ rs) a b = ((λ given f. b.0 given (a.0 given f)), parts ps qs rs a.1 b.1)

      kinds : (k l m : KindStatus) → IsKindAlike Given k l → IsKindAlike Given l m → IsKindAlike Given k m
      kinds k l m a b = record { parts = parts (part_states k) (part_states l) (part_states m) a.parts b.parts; flags = b.flags ∙ a.flags; dirty = b.dirty ∙ a.dirty }

-- what a note makes of a component fits where the note does
noted_fits : (note : PartNote) (p : PartStatus) → IsPartAlike (PartNoteFits note) p (part_noted note p)
noted_fits NowOkay p given is = is
noted_fits (NowResyncing resync) p given is = is
noted_fits Failed p given is = tt
noted_fits (Spared u) p given is = given
noted_fits NowLastErred p given is = is
noted_fits Enabled p given is = tt

resumed_fits : (Given : Type 0) (dirty : Bool) (p : PartStatus) → IsPartAlike Given p (part_resumed dirty p)
resumed_fits Given dirty p given is = is

states_alike : (t : Table) (n : Note) → AllZip (IsStatusAlike (NoteFits n)) t.status.volumes (status_after t n).volumes
states_alike t (Part at note) = restated_alike (PartNoteFits note) at.volume (with_part at.place (part_noted note)) (part_mild (PartNoteFits note) (part_noted note) (noted_fits note) at.place) t.status.volumes
states_alike t (SpareBroken s) = same_states (Unit {0}) t.status.volumes
states_alike t (SpareAvailable s) = same_states (Unit {0}) t.status.volumes
states_alike t (RegionsDirty m range) = restated_alike (Unit {0}) m (with_regions range true) (regions_mild (Unit {0}) range true) t.status.volumes
states_alike t (RegionsClean m range) = restated_alike (Unit {0}) m (with_regions range false) (regions_mild (Unit {0}) range false) t.status.volumes
states_alike t (SubOffline m v) = restated_alike (Unit {0}) m (with_flag (subs_of t.plan m) v true) (flag_mild (Unit {0}) (subs_of t.plan m) v true) t.status.volumes
states_alike t (SubOnline m v) =
    let flags = with_flag (subs_of t.plan m) v false in
    let dirty = has_dirty (dirty_of t.status m) in
    let between = map (restated m flags) t.status.volumes in
    twice_alike (Unit {0}) t.status.volumes between (map (restated v (with_parts (part_resumed dirty))) between)
    (restated_alike (Unit {0}) m flags (flag_mild (Unit {0}) (subs_of t.plan m) v false) t.status.volumes)
    (restated_alike (Unit {0}) v (with_parts (part_resumed dirty)) (parts_mild (Unit {0}) (part_resumed dirty) (resumed_fits (Unit {0}) dirty)) between)
states_alike t (RaidOkay v) = restated_alike (Unit {0}) v with_raid_done (done_mild (Unit {0})) t.status.volumes

pub keeps_text : (t : Table) (n : Note) → KeepsText t n
keeps_text t n = let alike = record_alike (NoteFits n) t (status_after t n) (states_alike t n) in record { size = alike.size; fits = alike.fits }
