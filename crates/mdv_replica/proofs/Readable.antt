-- How a readable replica stays readable where its blocks are kept, claimed or written.
use Rattle.std.proofs.Common.{◌≡◌, ◌≢◌, ◌⊎◌, inl, inr, ℕ, ◌+◌, ◌≤◌, ◌<◌, ◌^◌, List, [], length, take, slice_index_or, sym, ◌∙◌, ap, subst, arith}
use Rattle.mdv_replica.specs.Below.{Mark, Place}
use Rattle.mdv_replica.specs.declared.forms.Gate.{Gate}
use Rattle.mdv_replica.specs.declared.forms.Gate.TheVariants.{Closed, Open}
use Rattle.mdv_replica.specs.declared.replica.PlaceAt.{PlaceAt}
use Rattle.mdv_replica.specs.declared.replica.Head.{Head}
use Rattle.mdv_replica.specs.declared.replica.Slot.{Slot}
use Rattle.mdv_replica.specs.declared.replica.Slot.TheVariants.{First, Second}
use Rattle.mdv_replica.specs.Forms.{claim_text, gate_text, block_of, IsGate}
use Rattle.mdv_replica.specs.Replica.{with_blocks, gate_at, body_at, slot_blocks}
use Rattle.mdv_replica.specs.Form.{IsReadable, IsTable, SlotFits, with_slot, with_claim}
use Rattle.mdv_replica.proofs.Bodies.{bytes_of_same, take-bytes_of_written}

module _ (Counts : Place → List ℕ → Type 0) where
  -- a slot rests on its body alone
  pub fits_kept : (at : PlaceAt) (slot : Slot) (gate : Gate) (old new : ℕ → List ℕ) → ((block : ℕ) → body_at at slot ≤ block → block < body_at at slot + slot_blocks at.place.blocks → new block ≡ old block) → SlotFits Counts at slot gate old → SlotFits Counts at slot gate new
  fits_kept at slot Closed old new same fits = tt
  fits_kept at slot (Open mark bytes) old new same fits =
      (fits.0, subst (Counts at.place) (sym (ap (take bytes) (bytes_of_same old new (body_at at slot) (slot_blocks at.place.blocks) same))) fits.1)

  -- a table that stands in a slot fits it
  pub table_fits : (at : PlaceAt) (slot : Slot) (mark : Mark) (bytes : ℕ) (body : List (List ℕ)) (new : ℕ → List ℕ) → IsTable Counts at mark bytes body → ((k : ℕ) → k < length body → new (body_at at slot + k) ≡ slice_index_or body k []) → SlotFits Counts at slot (Open mark bytes) new
  table_fits at slot mark bytes body new table here =
      (table.in_room, subst (Counts at.place) (sym (take-bytes_of_written new (body_at at slot) (slot_blocks at.place.blocks) bytes body table.in_slot table.in_body here)) table.as_record)

  module _ (at : PlaceAt) (size : ℕ) (old new : ℕ → List ℕ) (head : Head) (is : IsReadable Counts at size old head) where
    abbrev pub sized : PlaceAt
    sized = with_blocks at head.master.blocks

    -- all blocks of the place are the same
    pub readable_kept : ((block : ℕ) → at.first ≤ block → block < at.first + head.master.blocks → new block ≡ old block) → IsReadable Counts at size new head
    readable_kept same =
        let least : 16 ≤ head.master.blocks = is.of_head.lies.least in
        record {
          of_head = record {
            master = is.of_head.master;
            master_block = same at.first (omega arith) (omega arith) ∙ is.of_head.master_block;
            lies = is.of_head.lies;
            claim = is.of_head.claim;
            claim_block = same (at.first + 1) (omega arith) (omega arith) ∙ is.of_head.claim_block;
            first = is.of_head.first;
            first_block = same (at.first + 2) (omega arith) (omega arith) ∙ is.of_head.first_block;
            second = is.of_head.second;
            second_block = same (at.first + 3) (omega arith) (omega arith) ∙ is.of_head.second_block;
          };
          of_first = fits_kept sized First head.first old new (λ block from to. same block (omega arith) (omega arith)) is.of_first;
          of_second = fits_kept sized Second head.second old new (λ block from to. same block (omega arith) (omega arith)) is.of_second;
        }

    -- another claim
    pub readable_claimed : (number : ℕ) → number < 2 ^ 63 → new (at.first + 1) ≡ block_of (claim_text number) → ((block : ℕ) → block ≢ at.first + 1 → new block ≡ old block) → IsReadable Counts at size new (with_claim head number)
    readable_claimed number small here others =
        let least : 16 ≤ head.master.blocks = is.of_head.lies.least in
        record {
          of_head = record {
            master = is.of_head.master;
            master_block = others at.first (λ e. omega arith) ∙ is.of_head.master_block;
            lies = is.of_head.lies;
            claim = small;
            claim_block = here;
            first = is.of_head.first;
            first_block = others (at.first + 2) (λ e. omega arith) ∙ is.of_head.first_block;
            second = is.of_head.second;
            second_block = others (at.first + 3) (λ e. omega arith) ∙ is.of_head.second_block;
          };
          of_first = fits_kept sized First head.first old new (λ block from to. others block (λ e. omega arith)) is.of_first;
          of_second = fits_kept sized Second head.second old new (λ block from to. others block (λ e. omega arith)) is.of_second;
        }

    -- the slot's gate and body are others, and fit one another
    pub readable_slotted : (slot : Slot) (gate : Gate) → IsGate gate → new (gate_at sized slot) ≡ block_of (gate_text gate) → SlotFits Counts sized slot gate new
        → ((block : ℕ) → block ≢ gate_at sized slot → (block < body_at sized slot) ⊎ (body_at sized slot + slot_blocks head.master.blocks ≤ block) → new block ≡ old block) → IsReadable Counts at size new (with_slot head slot gate)
    readable_slotted First gate form here fits others =
        let least : 16 ≤ head.master.blocks = is.of_head.lies.least in
        record {
          of_head = record {
            master = is.of_head.master;
            master_block = others at.first (λ e. omega arith) (inl (omega arith)) ∙ is.of_head.master_block;
            lies = is.of_head.lies;
            claim = is.of_head.claim;
            claim_block = others (at.first + 1) (λ e. omega arith) (inl (omega arith)) ∙ is.of_head.claim_block;
            first = form;
            first_block = here;
            second = is.of_head.second;
            second_block = others (at.first + 3) (λ e. omega arith) (inl (omega arith)) ∙ is.of_head.second_block;
          };
          of_first = fits;
          of_second = fits_kept sized Second head.second old new (λ block from to. others block (λ e. omega arith) (inr (omega arith))) is.of_second;
        }
    readable_slotted Second gate form here fits others =
        let least : 16 ≤ head.master.blocks = is.of_head.lies.least in
        record {
          of_head = record {
            master = is.of_head.master;
            master_block = others at.first (λ e. omega arith) (inl (omega arith)) ∙ is.of_head.master_block;
            lies = is.of_head.lies;
            claim = is.of_head.claim;
            claim_block = others (at.first + 1) (λ e. omega arith) (inl (omega arith)) ∙ is.of_head.claim_block;
            first = is.of_head.first;
            first_block = others (at.first + 2) (λ e. omega arith) (inl (omega arith)) ∙ is.of_head.first_block;
            second = form;
            second_block = here;
          };
          of_first = fits_kept sized First head.first old new (λ block from to. others block (λ e. omega arith) (inl (omega arith))) is.of_first;
          of_second = fits;
        }
