-- What a place shows of a replica while it is written.
use Rattle.std.proofs.Common.{◌≡◌, ◌≢◌, ◌⊎◌, inl, inr, ⊎_elim, ℕ, ◌+◌, ◌≤◌, ◌<◌, ◌^◌, false, List, [], length, sym, ◌∙◌, ap, subst, arith}
use Rattle.std.proofs.lemmas.Bool.Decides.{nat_tests}
use Rattle.mdv_replica.specs.Below.{Image, Identity, Mark, Key, Place, range}
use Rattle.mdv_shelf.proofs.Frame.{before_range, behind_range}
use Rattle.mdv_replica.specs.declared.forms.Gate.TheVariants.{Closed, Open}
use Rattle.mdv_replica.specs.declared.replica.PlaceAt.{PlaceAt}
use Rattle.mdv_replica.specs.declared.replica.Head.{Head}
use Rattle.mdv_replica.specs.declared.replica.Slot.{Slot}
use Rattle.mdv_replica.specs.Forms.{claim_text, gate_text, block_of, IsMaster}
use Rattle.mdv_replica.specs.Replica.{IsHead, LiesAt, with_blocks, master_of, gate_at, body_at, slot_blocks, head_area, slot_area, claim_blocks, blank_master, formatted_blocks}
use Rattle.mdv_replica.specs.Form.{IsReadable, IsTable, HasNoHead, formatted_head, with_slot, with_claim}
use Rattle.mdv_replica.specs.Images.{IsSame, SameOutside, Claims, MayClaim, Wipes, MayWipe, Formats, MayFormat, untouched, blanked, formatted, Fills, MayFill, closed, filled}
use Rattle.mdv_replica.specs.Laws.{FormatsShow, WipesShow, ClaimsShow, SlotsShow, Passes}
use Rattle.mdv_replica.proofs.Heads.{no_blank_master}
use Rattle.mdv_replica.proofs.Leaving.{leaves_weaker, leaves_settling, leaves_settled, leaves_formatting, leaves_slotting, leaves_slotted}
use Rattle.mdv_replica.proofs.Readable.{table_fits, readable_kept, readable_claimed, readable_slotted}

-- a blank master is none
pub no_head_blank : (at : PlaceAt) (size : ℕ) (content : ℕ → List ℕ) → content at.first ≡ block_of [] → HasNoHead at size content
no_head_blank at size content blank head is = no_blank_master head.master (sym blank ∙ is.master_block)

pub head_formatted : (at : PlaceAt) (key : Key) (identity : Identity) (claim size : ℕ) (old new : Image) → IsMaster (master_of at key identity) → LiesAt at size (master_of at key identity) → claim < 2 ^ 63 → Formats at (master_of at key identity) claim old new → IsHead at size (new at.drive.0) (formatted_head at key identity claim)
head_formatted at key identity claim size old new form lies small formats = record {
  master = form;
  master_block = ap (new at.drive.0) (omega arith) ∙ formats.here 0 (omega arith);
  lies = lies;
  claim = small;
  claim_block = formats.here 1 (omega arith);
  first = tt;
  first_block = formats.here 2 (omega arith);
  second = tt;
  second_block = formats.here 3 (omega arith);
}

format_shown : (at : PlaceAt) (key : Key) (identity : Identity) (claim size : ℕ) (old new : Image) → IsMaster (master_of at key identity) → LiesAt at size (master_of at key identity) → claim < 2 ^ 63 → MayFormat at (master_of at key identity) claim old new
    → SameOutside (head_area at) old new × (IsSame old new ⊎ (HasNoHead at size (new at.drive.0) ⊎ IsHead at size (new at.drive.0) (formatted_head at key identity claim)))
format_shown at key identity claim size old new form lies small (untouched same) = (λ drive block out. same drive block, inl same)
format_shown at key identity claim size old new form lies small (blanked others blank) = (others, inr (inl (no_head_blank at size (new at.drive.0) blank)))
format_shown at key identity claim size old new form lies small (formatted formats) = (formats.elsewhere, inr (inr (head_formatted at key identity claim size old new form lies small formats)))

pub formats_show : FormatsShow
formats_show = record {
  moments = λ at key identity claim size t m form lies small formatting.
      leaves_weaker (MayFormat at (master_of at key identity) claim) _ t m (λ old new. format_shown at key identity claim size old new form lies small) (leaves_formatting at (master_of at key identity) claim t m formatting);
  end = λ at key identity claim size t u form lies small formatting settled.
      leaves_weaker (Formats at (master_of at key identity) claim) _ t u (λ old new formats. (formats.elsewhere, head_formatted at key identity claim size old new form lies small formats))
      (leaves_settled at.drive.0 at.first (formatted_blocks (master_of at key identity) claim) t u formatting.outside settled);
}

no_head_wiped : (at : PlaceAt) (size : ℕ) (old new : Image) → Wipes at old new → HasNoHead at size (new at.drive.0)
no_head_wiped at size old new wipes = no_head_blank at size (new at.drive.0) (ap (new at.drive.0) (omega arith) ∙ wipes.here 0 (omega arith))

pub wipes_show : WipesShow
wipes_show = record {
  moments = λ at size t m settling.
      leaves_weaker (MayWipe at) _ t m (λ old new change. ⊎_elim
      (λ same. (λ drive block out. same drive block, inl same)) (λ wipes. (wipes.elsewhere, inr (no_head_wiped at size old new wipes))) change)
      (leaves_settling at.drive.0 at.first (block_of []) t m settling);
  end = λ at size t u settling settled.
      leaves_weaker (Wipes at) _ t u (λ old new wipes. (wipes.elsewhere, no_head_wiped at size old new wipes)) (leaves_settled at.drive.0 at.first blank_master t u settling.outside settled);
}

pub apart_range : (drive at block : ℕ) → block ≢ at → range drive at 1 drive block ≡ false
apart_range drive at block apart = grind (arith, nat_tests)

module _ (Counts : Place → List ℕ → Type 0) (at : PlaceAt) (size : ℕ) (old new : Image) (head : Head) (is : IsReadable Counts at size (old at.drive.0) head) where
  pub readable_same : IsSame old new → IsReadable Counts at size (new at.drive.0) head
  readable_same same = readable_kept Counts at size (old at.drive.0) (new at.drive.0) head is (λ block from to. same at.drive.0 block)

  pub readable_with_claim : (number : ℕ) → number < 2 ^ 63 → Claims at number old new → IsReadable Counts at size (new at.drive.0) (with_claim head number)
  readable_with_claim number small claims =
      readable_claimed Counts at size (old at.drive.0) (new at.drive.0) head is number small (ap (new at.drive.0) (omega arith) ∙ claims.here 0 (omega arith))
      (λ block apart. claims.elsewhere at.drive.0 block (apart_range at.drive.0 (at.first + 1) block apart))

  -- the place with the length that the master names
  module _ (slot : Slot) where
    abbrev pub own : PlaceAt
    own = with_blocks at head.master.blocks

    slot_others : (count : ℕ) → count ≤ slot_blocks head.master.blocks → SameOutside (slot_area own slot count) old new
        → (block : ℕ) → block ≢ gate_at own slot → (block < body_at own slot) ⊎ (body_at own slot + slot_blocks head.master.blocks ≤ block) → new at.drive.0 block ≡ old at.drive.0 block
    slot_others count fits others block from_gate from_body =
        let one = apart_range at.drive.0 (gate_at own slot) block from_gate in
        let other : range at.drive.0 (body_at own slot) count at.drive.0 block ≡ false = ⊎_elim
        (λ before. before_range at.drive.0 (body_at own slot) count block before)
        (λ behind. behind_range at.drive.0 (body_at own slot) count block (omega arith)) from_body in
        others at.drive.0 block (rw (one, other))

    pub readable_closed : (count : ℕ) → count ≤ slot_blocks head.master.blocks → SameOutside (slot_area own slot count) old new → new at.drive.0 (gate_at own slot) ≡ block_of (gate_text Closed) → IsReadable Counts at size (new at.drive.0) (with_slot head slot Closed)
    readable_closed count fits others shut = readable_slotted Counts at size (old at.drive.0) (new at.drive.0) head is slot Closed tt shut tt (slot_others count fits others)

    pub readable_filled : (mark : Mark) (bytes : ℕ) (body : List (List ℕ)) → IsTable Counts own mark bytes body → Fills own slot mark bytes body old new → IsReadable Counts at size (new at.drive.0) (with_slot head slot (Open mark bytes))
    readable_filled mark bytes body table fills =
        let most = is.of_head.lies.most in
        let room = table.in_room in
        let small : bytes < 2 ^ 32 = omega arith in
        readable_slotted Counts at size (old at.drive.0) (new at.drive.0) head is slot (Open mark bytes) (table.of_mark, small) fills.opened (table_fits Counts own slot mark bytes body (new at.drive.0) table fills.here)
        (slot_others (length body) table.in_slot fills.elsewhere)

    pub slot_shown : (mark : Mark) (bytes : ℕ) (body : List (List ℕ)) → IsTable Counts own mark bytes body → MayFill own slot mark bytes body old new
        → IsReadable Counts at size (new at.drive.0) head ⊎ (IsReadable Counts at size (new at.drive.0) (with_slot head slot Closed) ⊎ IsReadable Counts at size (new at.drive.0) (with_slot head slot (Open mark bytes)))
    slot_shown mark bytes body table (untouched same) = inl (readable_same same)
    slot_shown mark bytes body table (closed others shut) = inr (inl (readable_closed (length body) table.in_slot others shut))
    slot_shown mark bytes body table (filled fills) = inr (inr (readable_filled mark bytes body table fills))

may_fill_outside : (at : PlaceAt) (slot : Slot) (mark : Mark) (bytes : ℕ) (body : List (List ℕ)) (old new : Image) → MayFill at slot mark bytes body old new → SameOutside (slot_area at slot (length body)) old new
may_fill_outside at slot mark bytes body old new (untouched same) = λ drive block out. same drive block
may_fill_outside at slot mark bytes body old new (closed others shut) = others
may_fill_outside at slot mark bytes body old new (filled fills) = fills.elsewhere

pub claims_show : ClaimsShow
claims_show = record {
  moments = λ counts at number size t m small settling.
      leaves_weaker (MayClaim at number) _ t m (λ old new change. ⊎_elim
      (λ same. (λ drive block out. same drive block, λ head is. inl (readable_same (Passes counts) at size old new head is same)))
      (λ claims. (claims.elsewhere, λ head is. inr (readable_with_claim (Passes counts) at size old new head is number small claims))) change)
      (leaves_settling at.drive.0 (at.first + 1) (block_of (claim_text number)) t m settling);
  end = λ counts at number size t u small settling settled.
      leaves_weaker (Claims at number) _ t u (λ old new claims. (claims.elsewhere, λ head is. readable_with_claim (Passes counts) at size old new head is number small claims))
      (leaves_settled at.drive.0 (at.first + 1) (claim_blocks number) t u settling.outside settled);
}

-- a replica of that length lies at the place itself
pub own_place : (at : PlaceAt) (blocks : ℕ) → blocks ≡ at.place.blocks → at ≡ with_blocks at blocks
own_place at blocks same = sym (ap (with_blocks at) same)

pub slots_show : SlotsShow
slots_show = record {
  moments = λ counts at slot mark bytes body size t m table writing.
      leaves_weaker (MayFill at slot mark bytes body) _ t m (λ old new change. (
        may_fill_outside at slot mark bytes body old new change,
        λ head length is. slot_shown (Passes counts) at size old new head is slot mark bytes body
            (subst (λ (p : PlaceAt). IsTable (Passes counts) p mark bytes body) (own_place at head.master.blocks length) table)
            (subst (λ (p : PlaceAt). MayFill p slot mark bytes body old new) (own_place at head.master.blocks length) change),
      )) (leaves_slotting at slot mark bytes body t m writing);
  end = λ counts at slot mark bytes body size t u table writing written.
      leaves_weaker (Fills at slot mark bytes body) _ t u (λ old new fills. (
        fills.elsewhere,
        λ head length is. readable_filled (Passes counts) at size old new head is slot mark bytes body
            (subst (λ (p : PlaceAt). IsTable (Passes counts) p mark bytes body) (own_place at head.master.blocks length) table)
            (subst (λ (p : PlaceAt). Fills p slot mark bytes body old new) (own_place at head.master.blocks length) fills),
      )) (leaves_slotted at slot mark bytes body t u writing.outside written);
}
