-- Blocks that lie together on a drive, where they are written, synced and read as such.
use Rattle.std.proofs.Common.{◌≡◌, inl, inr, ⊎_elim, ℕ, ◌+◌, ◌-◌, ◌<◌, List, [], length, slice_index_or, refl, sym, ◌∙◌, ap, subst, arith}
use Rattle.mdv_shelf.proofs.Blocks.{both_ways}
use Rattle.mdv_shelf.proofs.Settled.{covered}
use Rattle.mdv_shelf.specs.Calls.{Shows}
use Rattle.mdv_shelf.specs.Settle.{IsOldOrNew, IsSettled, Settling}
use Rattle.mdv_map.proofs.Combining.{in_run}
use Rattle.mdv_map.proofs.Covering.{drive_of, from_of, to_of}
use Rattle.mdv_map.specs.Requests.{IsOff}
use Rattle.mdv_volumes.specs.Below.{AllOnDisk, AllRead, IsKept, MayLeave, Rewriting, Tale, last, range, run_map}
use Rattle.mdv_volumes.specs.StandLaws.{RunsStand}

module _ (drive first count at : ℕ) (blocks : List (List ℕ)) where
  -- a block that a request writes there
  old_or_new : (t m : Tale) → Settling drive (first + at) blocks t m → (k : ℕ) → k < length blocks → IsOldOrNew t m drive (first + (at + k)) (slice_index_or blocks k [])
  old_or_new t m settling k lt =
      let place : (first + at) + k ≡ first + (at + k) = omega arith in
      let index : ((first + at) + k) - (first + at) ≡ k = omega arith in
      let there = settling.inside ((first + at) + k) (covered drive (first + at) (length blocks) k lt) in
      subst (λ (b : ℕ). IsOldOrNew t m drive b (slice_index_or blocks k [])) place (subst (λ (i : ℕ). IsOldOrNew t m drive ((first + at) + k) (slice_index_or blocks i [])) index there)

  kept_off : (t m : Tale) → Settling drive (first + at) blocks t m → (other block : ℕ) → IsOff (run_map drive first count) at (length blocks) other block → IsKept t m other block
  kept_off t m settling other block off = elim (both_ways (range drive (first + at) (length blocks) other block)) [
    | inl inside ↦
        let from = from_of drive (first + at) (length blocks) other block inside in
        let to = to_of drive (first + at) (length blocks) other block inside in
        absurd (off (block - (first + at)) (omega arith) (inl (sym (drive_of drive (first + at) (length blocks) other block inside), omega arith)))
    | inr outside ↦ settling.outside other block outside
  ]

  rewriting : (t m : Tale) → Settling drive (first + at) blocks t m → Rewriting (run_map drive first count) at blocks t m
  rewriting t m settling = record {
    inside = λ k other block lt has.
        let is = in_run drive first count (at + k) other block has in
        subst (λ (d : ℕ). IsOldOrNew t m d block (slice_index_or blocks k [])) (sym is.0) (subst (λ (b : ℕ). IsOldOrNew t m drive b (slice_index_or blocks k [])) (sym is.1) (old_or_new t m settling k lt));
    outside = kept_off t m settling;
    quiet = settling.quiet;
  }

  all_read : (t : Tale) → Shows t drive (first + at) blocks → AllRead (run_map drive first count) at blocks t
  all_read t shows k x lt reading = ⊎_elim (λ same. same ∙ ap (λ (b : ℕ). last t drive b) (omega arith) ∙ sym (shows k lt)) (λ none. absurd none) reading

  all_on_disk : (t : Tale) → IsSettled drive (first + at) blocks t → AllOnDisk (run_map drive first count) at (length blocks) t
  all_on_disk t settled k other block x lt has left =
      let is = in_run drive first count (at + k) other block has in
      settled.synced block x (subst (λ (d : ℕ). MayLeave t d block x) is.0 left) ∙ ap (λ (d : ℕ). last t d block) (sym is.0)

pub runs_stand : RunsStand
runs_stand = record {
  written = λ drive first count at blocks t m settling. rewriting drive first count at blocks t m settling;
  settled = λ drive first count at blocks u settled. (all_read drive first count at blocks u settled.shows, all_on_disk drive first count at blocks u settled);
  read = λ drive first count at blocks t shows. all_read drive first count at blocks t shows;
  copies = λ drive first count at number k lt. (drive, first + (at + k), inl (refl, refl));
}
