-- The moments of a write and a sync.
use Rattle.std.proofs.Common.{◌≡◌, ◌⊎◌, inl, inr, ⊎_elim, ℕ, ◌+◌, ◌-◌, ◌<◌, Bool, true, false, ◌&&◌, List, [], length, Option, refl, sym, ◌∙◌, ap, slice_index_or, arith, eq-eqb}
use Rattle.std.proofs.lemmas.List.{append-nil}
use Rattle.std.proofs.lemmas.Bool.Decides.{nat_tests}
use Rattle.mdv_shelf.specs.Tale.{Tale, Then, Call, Wrote, Tore, Synced, covers, writes, written, told}
use Rattle.mdv_shelf.specs.Area.{IsKept}
use Rattle.mdv_shelf.specs.Settle.{IsOldOrNew, IsSynced, Settling, IsSettled}
use Rattle.mdv_shelf.specs.Moments.{Moments, Ends}
use Rattle.mdv_shelf.specs.Calls.{and_then}
use Rattle.mdv_shelf.proofs.Moments.{grew_one, grew_more, moments_none}
use Rattle.mdv_shelf.proofs.Blocks.{both_ways, last_written, last_unwritten, left_written, left_synced, kept_unwritten}

-- nothing is told by a write or a sync
pub told_wrote : (t : Tale) (drive at : ℕ) (blocks : List (List ℕ)) → told (Then t (Wrote drive at blocks)) ≡ told t
unfolding told
told_wrote t drive at blocks = append-nil (told t)

pub told_tore : (t : Tale) (drive at : ℕ) (blocks : List (List ℕ)) (took : List Bool) → told (Then t (Tore drive at blocks took)) ≡ told t
unfolding told
told_tore t drive at blocks took = append-nil (told t)

pub told_synced : (t : Tale) (drive : ℕ) → told (Then t (Synced drive)) ≡ told t
unfolding told
told_synced t drive = append-nil (told t)

pub same_block : (t : Tale) (drive block : ℕ) (new : List ℕ) → IsOldOrNew t t drive block new
same_block t drive block new = record { last = inl refl; left = λ x left. inl left }

pub same_kept : (t : Tale) (drive block : ℕ) → IsKept t t drive block
same_kept t drive block = record { last = refl; left = λ x left. left; unwritten = refl }

and_false : (a b : Bool) → a ≡ false → a && b ≡ false
and_false a b is = rw is

module _ (t : Tale) (drive at : ℕ) (blocks : List (List ℕ)) where
  -- before the write
  pub settling_starts : Settling drive at blocks t t
  settling_starts = record {
    inside = λ block in_range. same_block t drive block (slice_index_or blocks (block - at) []);
    outside = λ other block out. same_kept t other block;
    quiet = refl;
  }

  -- a block that the call writes has the new value, or one that it had
  fresh : (c : Call) (block : ℕ) (new : List ℕ) → writes c drive block ≡ true → written c block ≡ new → IsOldOrNew t (Then t c) drive block new
  fresh c block new does is = record {
    last = inr (last_written t c drive block does ∙ is);
    left = λ x left. ⊎_elim (λ e. inr (e ∙ is)) (λ old. inl old) (left_written t c drive block x does left);
  }

  stale : (c : Call) (block : ℕ) (new : List ℕ) → writes c drive block ≡ false → IsOldOrNew t (Then t c) drive block new
  stale c block new not = record {
    last = inl (last_unwritten t c drive block not);
    left = λ x left. inl ((kept_unwritten t c drive block not).left x left);
  }

  pub settling_wrote : Settling drive at blocks t (Then t (Wrote drive at blocks))
  settling_wrote = record {
    inside = λ block in_range. fresh (Wrote drive at blocks) block (slice_index_or blocks (block - at) []) in_range refl;
    outside = λ other block out. kept_unwritten t (Wrote drive at blocks) other block out;
    quiet = told_wrote t drive at blocks;
  }

  pub settling_tore : (took : List Bool) → Settling drive at blocks t (Then t (Tore drive at blocks took))
  settling_tore took = record {
    inside = λ block in_range. elim (both_ways (writes (Tore drive at blocks took) drive block)) [
      | inl does ↦ fresh (Tore drive at blocks took) block (slice_index_or blocks (block - at) []) does refl
      | inr not ↦ stale (Tore drive at blocks took) block (slice_index_or blocks (block - at) []) not
    ];
    outside = λ other block out. kept_unwritten t (Tore drive at blocks took) other block
        (and_false (covers drive at (length blocks) other block) (slice_index_or took (block - at) false) out);
    quiet = told_tore t drive at blocks took;
  }

  -- a sync after it
  pub settling_synced : (m : Tale) → Settling drive at blocks t m → Settling drive at blocks t (Then m (Synced drive))
  settling_synced m so_far = record {
    inside = λ block in_range.
        let was = so_far.inside block in_range in
        let kept = kept_unwritten m (Synced drive) drive block refl in
        record {
          last = ⊎_elim (λ old. inl (kept.last ∙ old)) (λ new. inr (kept.last ∙ new)) was.last;
          left = λ x left. was.left x (kept.left x left);
        };
    outside = λ other block out.
        let was = so_far.outside other block out in
        let kept = kept_unwritten m (Synced drive) other block refl in
        record { last = kept.last ∙ was.last; left = λ x left. was.left x (kept.left x left); unwritten = kept.unwritten ∙ was.unwritten };
    quiet = told_synced m drive ∙ so_far.quiet;
  }

pub covered : (drive at count k : ℕ) → k < count → covers drive at count drive (at + k) ≡ true
covered drive at count k lt = grind (arith, nat_tests)

-- what a sync leaves
pub synced_drive : (t : Tale) (drive : ℕ) → IsSynced drive (Then t (Synced drive))
synced_drive t drive block x left =
    let is = left_synced t (Synced drive) drive block x refl (eq-eqb drive drive refl) left in is ∙ sym (last_unwritten t (Synced drive) drive block refl)

-- in the end
pub settled_both : (t : Tale) (drive at : ℕ) (blocks : List (List ℕ)) → IsSettled drive at blocks (Then (Then t (Wrote drive at blocks)) (Synced drive))
settled_both t drive at blocks = record {
  shows = λ k lt.
      let here : writes (Wrote drive at blocks) drive (at + k) ≡ true = covered drive at (length blocks) k lt in
      ap (λ (i : ℕ). slice_index_or blocks i []) (sym (omega arith)) ∙ sym (last_written t (Wrote drive at blocks) drive (at + k) here) ∙ sym (last_unwritten (Then t (Wrote drive at blocks)) (Synced drive) drive (at + k) refl);
  synced = synced_drive (Then t (Wrote drive at blocks)) drive;
}

module _ (drive at : ℕ) (blocks : List (List ℕ)) (old : Option Tale) where
  -- the write failed
  pub moments_tore : (new : Option Tale) → (new ≡ old) ⊎ ((took : List Bool) × (new ≡ and_then old (Tore drive at blocks took))) → Moments (Settling drive at blocks) old new
  moments_tore new (inl same) = moments_none (Settling drive at blocks) old new same (λ t. settling_starts t drive at blocks)
  moments_tore new (inr (took, is)) = λ t told_so. (
    Then t (Tore drive at blocks took),
    is ∙ ap (λ (o : Option Tale). and_then o (Tore drive at blocks took)) told_so,
    grew_one (Settling drive at blocks t) t (Tore drive at blocks took) (settling_starts t drive at blocks) (settling_tore t drive at blocks took),
  )

  -- it succeeded
  pub moments_wrote : (mid : Option Tale) → mid ≡ and_then old (Wrote drive at blocks) → Moments (Settling drive at blocks) old mid
  moments_wrote mid is t told_so = (
    Then t (Wrote drive at blocks),
    is ∙ ap (λ (o : Option Tale). and_then o (Wrote drive at blocks)) told_so,
    grew_one (Settling drive at blocks t) t (Wrote drive at blocks) (settling_starts t drive at blocks) (settling_wrote t drive at blocks),
  )

  -- and so did the sync
  pub moments_settled : (mid new : Option Tale) → mid ≡ and_then old (Wrote drive at blocks) → new ≡ and_then mid (Synced drive) → Moments (Settling drive at blocks) old new
  moments_settled mid new wrote synced t told_so =
      let u = Then t (Wrote drive at blocks) in
      let first = grew_one (Settling drive at blocks t) t (Wrote drive at blocks) (settling_starts t drive at blocks) (settling_wrote t drive at blocks) in
      let second = grew_one (Settling drive at blocks t) u (Synced drive) (settling_wrote t drive at blocks) (settling_synced t drive at blocks u (settling_wrote t drive at blocks)) in (
        Then u (Synced drive),
        synced ∙ ap (λ (o : Option Tale). and_then o (Synced drive)) (wrote ∙ ap (λ (o : Option Tale). and_then o (Wrote drive at blocks)) told_so),
        grew_more (Settling drive at blocks t) t u (Then u (Synced drive)) first second,
      )

  pub ends_settled : (mid new : Option Tale) → mid ≡ and_then old (Wrote drive at blocks) → new ≡ and_then mid (Synced drive) → Ends (λ t u. IsSettled drive at blocks u) old new
  ends_settled mid new wrote synced t told_so = (
    Then (Then t (Wrote drive at blocks)) (Synced drive),
    synced ∙ ap (λ (o : Option Tale). and_then o (Synced drive)) (wrote ∙ ap (λ (o : Option Tale). and_then o (Wrote drive at blocks)) told_so),
    settled_both t drive at blocks,
  )

-- a drive of which no block is written stays synced
pub synced_still : (drive : ℕ) (t m : Tale) → ((block : ℕ) → IsKept t m drive block) → IsSynced drive t → IsSynced drive m
synced_still drive t m kept synced block x left = synced block x ((kept block).left x left) ∙ sym (kept block).last
