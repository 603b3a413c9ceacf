-- A call on the image of one drive, told of the whole bench.
use Rattle.std.proofs.Common.{◌≡◌, ◌≢◌, ◌⊎◌, ℕ, Ok, Err, Result, OnErr, OnOk, ◌<◌, ◌≤◌, List, length, get_or, set, refl, sym, ◌∙◌, ap, inl, inr, arith}
use Rattle.std.proofs.lemmas.List.{map-set, get_or-map, get_or-set_same, get_or-set_other, length-map}
use Rattle.std.proofs.lemmas.Bool.{cases_eq}
use Rattle.std.proofs.Math.Seq.{map-set_same}
use Rattle.mdv_base.specs.Causes.{HasCause}
use Rattle.mdv_shelf.specs.Calls.{Part, OnDrive, OnReplies, HasDriveCause}
use Rattle.mdv_files.specs.declared.image.Image.{Image}
use Rattle.mdv_files.specs.Image.{IsRead, IsChange, one_more}
use Rattle.mdv_files.specs.Bench.{fault_counts, faults_of, sizes_of}

-- what any call leaves: the blocks, and a count that rises exactly with a failure
pub record IsCounted {T E : Type 0} (old : Image) (result : Result T E) (new : Image) : Type 0 where
  pub blocks : new.blocks ≡ old.blocks
  pub failed : OnErr result (new.faults ≡ one_more old.faults)
  pub calm : OnOk result (new.faults ≡ old.faults)
  pub no_fewer : old.faults ≤ new.faults

pub of_read : {T E : Type 0} (old : Image) (result : Result T E) (new : Image) → IsRead old result new → IsCounted old result new
of_read old (Ok value) new call = record { blocks = ap (λ (x : Image). x.blocks) call.done; failed = tt; calm = ap (λ (x : Image). x.faults) call.done; no_fewer = call.no_fewer }
of_read old (Err error) new call = record {
  blocks = ap (λ (x : Image). x.blocks) call.failed;
  failed = ap (λ (x : Image). x.faults) call.failed;
  calm = tt;
  no_fewer = call.no_fewer;
}

pub of_change : {T E : Type 0} (old : Image) (result : Result T E) (new : Image) → IsChange old result new → IsCounted old result new
of_change old (Ok value) new call = record { blocks = ap (λ (x : Image). x.blocks) call.done; failed = tt; calm = ap (λ (x : Image). x.faults) call.done; no_fewer = call.no_fewer }
of_change old (Err error) new call = record {
  blocks = ap (λ (x : Image). x.blocks) call.failed;
  failed = ap (λ (x : Image). x.faults) call.failed;
  calm = tt;
  no_fewer = call.no_fewer;
}

module _ (images : List Image) (i : ℕ) (inside : i < length images) (was now : Image) (found : was ≡ get_or images i was) where
  count_was : get_or (fault_counts images) i 0 ≡ was.faults
  count_was = get_or-map (λ (x : Image). x.faults) images i was 0 inside ∙ ap (λ (x : Image). x.faults) (sym found)

  count_now : get_or (fault_counts (set images i now)) i 0 ≡ now.faults
  count_now =
      ap (λ (l : List ℕ). get_or l i 0) (map-set (λ (x : Image). x.faults) images i now)
      ∙ get_or-set_same (fault_counts images) i now.faults 0 (omega (arith, inside, length-map images (λ (x : Image). x.faults)))

  count_other : (k : ℕ) → k ≢ i → get_or (fault_counts (set images i now)) k 0 ≡ get_or (fault_counts images) k 0
  count_other k other =
      ap (λ (l : List ℕ). get_or l k 0) (map-set (λ (x : Image). x.faults) images i now)
      ∙ get_or-set_other (fault_counts images) i k now.faults 0 other

  pub call_sizes : {T E : Type 0} (result : Result T E) → IsCounted was result now → sizes_of (set images i now) ≡ sizes_of images
  call_sizes result call = map-set_same (λ (x : Image). x.blocks) images i now was (call.blocks ∙ ap (λ (x : Image). x.blocks) found)

  pub call_no_fewer : {T E : Type 0} (result : Result T E) → IsCounted was result now → (replies : ℕ) (part : Part) → faults_of images replies part ≤ faults_of (set images i now) replies part
  call_no_fewer result call replies OnReplies = omega arith
  call_no_fewer result call replies (OnDrive k) = at k (cases_eq k i)
    where
      at : (k : ℕ) → (k ≡ i) ⊎ (k ≢ i) → get_or (fault_counts images) k 0 ≤ get_or (fault_counts (set images i now)) k 0
      at k (inl same) = omega (
        arith,
        call.no_fewer,
        ap (λ (j : ℕ). get_or (fault_counts images) j 0) same,
        ap (λ (j : ℕ). get_or (fault_counts (set images i now)) j 0) same,
        count_was,
        count_now,
      )
      at k (inr other) = omega (arith, count_other k other)

  call_cause : {T E : Type 0} (result : Result T E) → IsCounted was result now → HasCause {T = T} {E = E} (get_or (fault_counts images) i 0) (get_or (fault_counts (set images i now)) i 0) result
  call_cause (Ok value) call = record { later = omega (arith, call.no_fewer, count_was, count_now); failed = tt; calm = omega (arith, call.calm, count_was, count_now) }
  call_cause (Err error) call = record {
    later = omega (arith, call.no_fewer, count_was, count_now);
    failed = omega (arith, call.failed, count_was, count_now);
    calm = tt;
  }

  call_others : (replies : ℕ) (part : Part) → part ≢ OnDrive i → faults_of (set images i now) replies part ≡ faults_of images replies part
  call_others replies OnReplies other = refl
  call_others replies (OnDrive k) other = count_other k (λ e. other (ap OnDrive e))

  pub call_drive_cause : {T E : Type 0} (result : Result T E) → IsCounted was result now → (replies : ℕ) → HasDriveCause {T = T} {E = E} (faults_of images replies) (faults_of (set images i now) replies) i result
  call_drive_cause result call replies = record { own = call_cause result call; others = call_others replies }
