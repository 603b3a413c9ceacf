-- What every crash leaves, over a restart, where less may be left, beside what is done, and on a synced drive.
use Rattle.std.proofs.Common.{◌≡◌, inl, inr, ℕ, true, List, refl, sym, subst, cond, arith}
use Rattle.std.proofs.lemmas.Bool.Decides.{nat_tests}
use Rattle.mdv_shelf.specs.Tale.{Tale, Begun, Start, IsImage, MayLeave, last, values}
use Rattle.mdv_shelf.specs.Area.{Area, AreApart, KeptOutside, nowhere, range}
use Rattle.mdv_shelf.specs.Everywhere.{Image, Everywhere, RestsOn}
use Rattle.mdv_shelf.specs.Settle.{IsSynced}
use Rattle.mdv_shelf.proofs.Blocks.{both_ways, last_may_be_left}

-- what a read gives is an image
pub last_image : (t : Tale) → IsImage t (last t)
last_image t = record { each = λ drive block. last_may_be_left t drive block }

-- an image with what a read gave in an area
abbrev pub with_last : Area → Tale → Image → Image
with_last area t image drive block = cond (area drive block) (last t drive block) (image drive block)

pub with_last_image : (area : Area) (t m : Tale) → KeptOutside area t m → (image : Image) → IsImage m image → IsImage t (with_last area t image)
with_last_image area t m kept image is = record {
  each = λ drive block. elim (both_ways (area drive block)) [
    | inl inside ↦ rw inside (last_may_be_left t drive block)
    | inr outside ↦ rw outside ((kept drive block outside).left (image drive block) (is.each drive block))
  ];
}

pub covers_one : (drive at other block : ℕ) → range drive at 1 other block ≡ true → (other ≡ drive) × (block ≡ at)
covers_one drive at other block is = (grind (arith, nat_tests), grind (arith, nat_tests))

-- what a crash may leave in a block some image has there
abbrev pub with_one : ℕ → ℕ → List ℕ → Image → Image
with_one drive at x image other block = cond (range drive at 1 other block) x (image other block)

with_one_image : (drive at : ℕ) (x : List ℕ) (t : Tale) → MayLeave t drive at x → IsImage t (with_one drive at x (last t))
with_one_image drive at x t left = record {
  each = λ other block. elim (both_ways (range drive at 1 other block)) [
    | inl inside ↦
        let here = covers_one drive at other block inside in
        rw inside (subst (λ (n : ℕ). MayLeave t n block x) (sym here.0) (subst (λ (b : ℕ). MayLeave t drive b x) (sym here.1) left))
    | inr outside ↦ rw outside (last_may_be_left t other block)
  ];
}

pub everywhere_left : (Q : List ℕ → Type 0) (drive at : ℕ) (x : List ℕ) (t : Tale) → Everywhere (λ image. Q (image drive at)) t → MayLeave t drive at x → Q x
everywhere_left Q drive at x t each left =
    let here : range drive at 1 drive at ≡ true = grind (arith, nat_tests) in
    rw here at (each (with_one drive at x (last t)) (with_one_image drive at x t left))

-- a synced drive has what a read gives
pub image_synced : (drive : ℕ) (t : Tale) → IsSynced drive t → (image : Image) → IsImage t image → image drive ≡ last t drive
image_synced drive t synced image is = λ i block. synced block (image drive block) (is.each drive block) i

-- a tale that just began has one image
begun_image : (start : Start) (image : Image) → IsImage (Begun start) image → image ≡ start.block
unfolding MayLeave values
begun_image start image is = λ i drive block. only drive block i where
  only : (drive block : ℕ) → image drive block ≡ start.block drive block
  only drive block = elim (is.each drive block) [ inl same ↦ same | inr none ↦ absurd none ]

module _ (P : Image → Type 0) where
  pub everywhere_begun : (start : Start) → P start.block → Everywhere P (Begun start)
  everywhere_begun start here image is = subst P (sym (begun_image start image is)) here

  -- where nothing is done
  pub everywhere_kept : (t m : Tale) → KeptOutside nowhere t m → Everywhere P t → Everywhere P m
  everywhere_kept t m kept each image is = each image (record { each = λ drive block. (kept drive block refl).left (image drive block) (is.each drive block) })

  -- where all that is done lies apart from the area of which it speaks
  pub everywhere_apart : (mine area : Area) (t m : Tale) → RestsOn mine P → AreApart area mine → KeptOutside area t m → Everywhere P t → Everywhere P m
  everywhere_apart mine area t m rests apart kept each image is =
      rests (with_last area t image) image there (each (with_last area t image) (with_last_image area t m kept image is))
    where
      there : (drive block : ℕ) → mine drive block ≡ true → image drive block ≡ with_last area t image drive block
      there drive block here = elim (both_ways (area drive block)) [
        | inl within ↦ absurd (apart drive block within here)
        | inr out ↦ rw out
      ]

pub everywhere_synced : (Q : (ℕ → List ℕ) → Type 0) (drive : ℕ) (t : Tale) → IsSynced drive t → Q (last t drive) → Everywhere (λ image. Q (image drive)) t
everywhere_synced Q drive t synced here image is = subst Q (sym (image_synced drive t synced image is)) here
