-- From what calls do at each moment to what a crash leaves then.
use Rattle.std.proofs.Common.{◌≡◌, ◌⊎◌, inl, inr, ⊎_elim, ℕ, zero, suc, ◌+◌, ◌<◌, Bool, List, [], ◌∷◌, length, slice_index_or, refl, sym, ◌∙◌, ap, subst, cond, arith}
use Rattle.mdv_replica.specs.Below.{Mark, Image, Leaves, Tale, last, MayLeave, IsImage, Area, KeptOutside, range, Shows, Settling, IsSettled, IsSynced, IsFixed}
use Rattle.mdv_shelf.proofs.Blocks.{both_ways}
use Rattle.mdv_shelf.proofs.Everywhere.{covers_one, with_last, with_last_image}
use Rattle.mdv_shelf.proofs.Frame.{settling_one, settled_one}
use Rattle.mdv_replica.specs.declared.forms.Gate.TheVariants.{Open}
use Rattle.mdv_replica.specs.declared.forms.Master.{Master}
use Rattle.mdv_replica.specs.declared.replica.PlaceAt.{PlaceAt}
use Rattle.mdv_replica.specs.declared.replica.Slot.{Slot}
use Rattle.mdv_replica.specs.Forms.{master_text, gate_text, block_of}
use Rattle.mdv_replica.specs.Replica.{starting, between, ending, Formatting, SlotWriting, IsSlotWritten, gate_at, body_at, head_area, slot_area, formatted_rest}
use Rattle.mdv_replica.specs.Images.{IsSame, SameOutside, Overwrites, MayFormat, untouched, blanked, formatted, Fills, MayFill, closed, filled}

-- one that has in the only block that changed what a crash might have left before, might have been left before
image_before : (drive at : ℕ) (t m : Tale) → KeptOutside (range drive at 1) t m → (image : Image) → IsImage m image → MayLeave t drive at (image drive at) → IsImage t image
image_before drive at t m kept image is old = record {
  each = λ other block. elim (both_ways (range drive at 1 other block)) [
    | inl inside ↦
        let here = covers_one drive at other block inside in
        subst (λ (n : ℕ). MayLeave t n block (image n block)) (sym here.0) (subst (λ (b : ℕ). MayLeave t drive b (image drive b)) (sym here.1) old)
    | inr outside ↦ (kept other block outside).left (image other block) (is.each other block)
  ];
}

with_last_outside : (area : Area) (t : Tale) (image : Image) → SameOutside area (with_last area t image) image
with_last_outside area t image drive block out = sym (ap (λ (b : Bool). cond b (last t drive block) (image drive block)) out)

-- where only an area changed, an image comes from one that is the same outside
pub came_from : (Change : Image → Image → Type 0) (area : Area) (t m : Tale) → KeptOutside area t m → (image : Image) → IsImage m image → ((old : Image) → SameOutside area old image → Change old image) → (old : Image) × IsImage t old × Change old image
came_from Change area t m kept image is change = (with_last area t image, with_last_image area t m kept image is, change (with_last area t image) (with_last_outside area t image))

pub leaves_weaker : (Change Other : Image → Image → Type 0) (t m : Tale) → ((old new : Image) → Change old new → Other old new) → Leaves Change t m → Leaves Other t m
leaves_weaker Change Other t m weaker leaves image is = let from = leaves image is in (from.0, from.1, weaker from.0 image from.2)

-- one change after another
pub leaves_more : (First Second : Image → Image → Type 0) (t u m : Tale) → Leaves First t u → Leaves Second u m → Leaves (λ old new. (mid : Image) × First old mid × Second mid new) t m
leaves_more First Second t u m first second image is =
    let from = second image is in
    let before = first from.0 from.1 in (before.0, before.1, (from.0, before.2, from.2))

-- one block
one_here : (drive at : ℕ) (x : List ℕ) (new : Image) → new drive at ≡ x → (k : ℕ) → k < length (x ∷ []) → new drive (at + k) ≡ slice_index_or (x ∷ []) k []
one_here drive at x new here zero lt = ap (new drive) (omega arith) ∙ here
one_here drive at x new here (suc k) lt = absurd (omega arith)

-- one block that is written alone
pub leaves_settling : (drive at : ℕ) (x : List ℕ) (t m : Tale) → Settling drive at (x ∷ []) t m → Leaves (λ old new. IsSame old new ⊎ Overwrites drive at (x ∷ []) old new) t m
leaves_settling drive at x t m settling image is = ⊎_elim
    (λ old. (image, image_before drive at t m settling.outside image is old, inl (λ other block. refl)))
    (λ new. came_from (λ old new. IsSame old new ⊎ Overwrites drive at (x ∷ []) old new) (range drive at 1) t m settling.outside image is (λ old same. inr (record { elsewhere = same; here = one_here drive at x image new })))
    (settling_one drive at x t m settling (image drive at) (is.each drive at))

-- what stands in the end
shown_here : (drive at : ℕ) (blocks : List (List ℕ)) (u : Tale) → Shows u drive at blocks → IsSynced drive u → (image : Image) → IsImage u image → (k : ℕ) → k < length blocks → image drive (at + k) ≡ slice_index_or blocks k []
shown_here drive at blocks u shows synced image is k lt = synced (at + k) (image drive (at + k)) (is.each drive (at + k)) ∙ sym (shows k lt)

pub settled_here : (drive at : ℕ) (blocks : List (List ℕ)) (u : Tale) → IsSettled drive at blocks u → (image : Image) → IsImage u image → (k : ℕ) → k < length blocks → image drive (at + k) ≡ slice_index_or blocks k []
settled_here drive at blocks u settled = shown_here drive at blocks u settled.shows settled.synced

pub leaves_settled : (drive at : ℕ) (blocks : List (List ℕ)) (t u : Tale) → KeptOutside (range drive at (length blocks)) t u → IsSettled drive at blocks u → Leaves (Overwrites drive at blocks) t u
leaves_settled drive at blocks t u kept settled image is =
    came_from (Overwrites drive at blocks) (range drive at (length blocks)) t u kept image is (λ old same. record { elsewhere = same; here = settled_here drive at blocks u settled image is })

-- blocks that a crash leaves no other way
fixed_here : (drive at : ℕ) (blocks : List (List ℕ)) (m : Tale) → IsFixed drive at blocks m → (image : Image) → IsImage m image → (k : ℕ) → k < length blocks → image drive (at + k) ≡ slice_index_or blocks k []
fixed_here drive at blocks m fixed image is k lt = fixed.fixed_only k lt (image drive (at + k)) (is.each drive (at + k))

head_here : (drive at : ℕ) (x : List ℕ) (rest : List (List ℕ)) (m : Tale) (image : Image) → IsImage m image → image drive at ≡ x → IsFixed drive (at + 1) rest m → (k : ℕ) → k < length (x ∷ rest) → image drive (at + k) ≡ slice_index_or (x ∷ rest) k []
head_here drive at x rest m image is here fixed zero lt = ap (image drive) (omega arith) ∙ here
head_here drive at x rest m image is here fixed (suc k) lt = ap (image drive) (omega arith) ∙ fixed_here drive (at + 1) rest m fixed image is k (omega arith)

pub leaves_formatting : (at : PlaceAt) (master : Master) (claim : ℕ) (t m : Tale) → Formatting at master claim t m → Leaves (MayFormat at master claim) t m
leaves_formatting at master claim t m formatting image is =
    let came = came_from (MayFormat at master claim) (head_area at) t m formatting.outside image is in
    let text = block_of (master_text master) in
    elim (formatting.stretch) [
      | starting (only, kept) ↦ ⊎_elim
          (λ old. (image, image_before at.drive.0 at.first t m kept image is old, untouched (λ drive block. refl)))
          (λ blank. came (λ old same. blanked same blank))
          (only (image at.drive.0 at.first) (is.each at.drive.0 at.first))
      | between only ↦ came (λ old same. blanked same (only (image at.drive.0 at.first) (is.each at.drive.0 at.first)))
      | ending (only, fixed) ↦ ⊎_elim
          (λ blank. came (λ old same. blanked same blank))
          (λ new. came (λ old same. formatted (record { elsewhere = same; here = head_here at.drive.0 at.first text (formatted_rest claim) m image is new fixed })))
          (only (image at.drive.0 at.first) (is.each at.drive.0 at.first))
    ]

-- a slot
module _ (at : PlaceAt) (slot : Slot) (mark : Mark) (bytes : ℕ) (body : List (List ℕ)) where
  pub leaves_slotting : (t m : Tale) → SlotWriting at slot mark bytes body t m → Leaves (MayFill at slot mark bytes body) t m
  leaves_slotting t m writing image is =
      let came = came_from (MayFill at slot mark bytes body) (slot_area at slot (length body)) t m writing.outside image is in
      elim (writing.stretch) [
        | starting (only, kept) ↦ ⊎_elim
            (λ old. (image, image_before at.drive.0 (gate_at at slot) t m kept image is old, untouched (λ drive block. refl)))
            (λ shut. came (λ old same. closed same shut))
            (only (image at.drive.0 (gate_at at slot)) (is.each at.drive.0 (gate_at at slot)))
        | between only ↦ came (λ old same. closed same (only (image at.drive.0 (gate_at at slot)) (is.each at.drive.0 (gate_at at slot))))
        | ending (only, fixed) ↦ ⊎_elim
            (λ shut. came (λ old same. closed same shut))
            (λ opened. came (λ old same. filled (record { elsewhere = same; opened = opened; here = fixed_here at.drive.0 (body_at at slot) body m fixed image is })))
            (only (image at.drive.0 (gate_at at slot)) (is.each at.drive.0 (gate_at at slot)))
      ]

  pub leaves_slotted : (t u : Tale) → KeptOutside (slot_area at slot (length body)) t u → IsSlotWritten at slot mark bytes body u → Leaves (Fills at slot mark bytes body) t u
  leaves_slotted t u kept written image is =
      came_from (Fills at slot mark bytes body) (slot_area at slot (length body)) t u kept image is (λ old same. record {
        elsewhere = same;
        opened = written.gate_settled.synced (gate_at at slot) (image at.drive.0 (gate_at at slot)) (is.each at.drive.0 (gate_at at slot)) ∙ settled_one at.drive.0 (gate_at at slot) (block_of (gate_text (Open mark bytes))) u written.gate_settled;
        here = shown_here at.drive.0 (body_at at slot) body u written.body_settled.shows written.body_settled.synced image is;
      })
