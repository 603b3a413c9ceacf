-- What is found while a claim or a slot is written, whosever it is.
use Rattle.std.proofs.Common.{◌≡◌, inl, inr, ⊎_elim, ℕ, ◌+◌, ◌-◌, ◌<◌, ◌≤◌, ◌^◌, refl, sym, ◌∙◌, ap, subst, List, length, arith}
use Rattle.mdv_shown.specs.Below.{Mark, SliceLine, IsReadable, IsTable, IsMasterAt, IsSame, Master, Head, PlaceAt, Slot, Closed, Open, claimed_head, with_slot, gate_at, slot_area, slot_blocks, block_of, gate_text, with_blocks}
use Rattle.mdv_shown.specs.Below.{Claims, MayClaim, MayFill, Fills, untouched, closed, filled, Image, SameOutside, range}
use Rattle.mdv_shelf.proofs.Frame.{before_range, within_range}
use Rattle.mdv_replica.proofs.Heads.{one_head}
use Rattle.mdv_replica.proofs.Showing.{readable_with_claim, readable_closed, readable_filled, own_place}
use Rattle.mdv_shown.specs.Site.{Site, IsSite, size_on, place_on}
use Rattle.mdv_shown.specs.Found.{Counts, IsFound}
use Rattle.mdv_shown.specs.Laws.{Reads}
use Rattle.mdv_shown.specs.Kept.{AreFoundBefore, AreFoundStill, FoundsLast, FoundsStay}
use Rattle.mdv_shown.proofs.Elsewhere.{IsThere, there_of, elsewhere, found_kept}
use Rattle.mdv_shown.proofs.Writes.{master_slotted, slot_within}

module _ {Table : Type 0} (Spells : List ℕ → Table → Type 0) (site : Site) (L : SliceLine) (K : ℕ) (F : Master) (head : Head) (old new : Image)
    (its : IsFound Spells (record site { key = head.master.key }) L K (old L.at.drive.0) F head) where
  abbrev at : PlaceAt
  at = place_on L F.blocks F.count K

  there : IsThere Spells site L K (old L.at.drive.0) F head
  there = there_of Spells site head.master.key L K (old L.at.drive.0) F head its

  least : 16 ≤ F.blocks
  least = its.located.lies.least

  sized : at ≡ with_blocks at head.master.blocks
  sized = own_place at head.master.blocks its.here.length

  -- the replica as one of this key, where it has it
  as_mine : head.master.key ≡ site.key → IsFound Spells site L K (old L.at.drive.0) F head
  as_mine key = record {
    one_of = its.one_of;
    located = its.located;
    numbered = its.numbered;
    within = its.within;
    before = λ j lt. (let c = its.before j lt in (c.0, record { readable = c.1.readable; length = c.1.length }));
    here = record { readable = its.here.readable; length = its.here.length };
    of_key = key;
  }

  -- the replica is readable in both images, under one master, and no block in front of its claim or behind it changed
  pub record IsRewrite : Type 0 where
    pub next : Head
    pub behind : SameOutside (range L.at.drive.0 (at.first + 1) (F.blocks - 1)) old new
    pub now : IsReadable (Counts Spells) at (size_on site L) (new L.at.drive.0) next
    pub master : next.master ≡ head.master

  pub claim_rewrites : (number : ℕ) → number < 2 ^ 63 → Claims at number old new → IsRewrite
  claim_rewrites number small claims = record {
    next = claimed_head head number;
    behind = λ drive block out. claims.elsewhere drive block (within_range L.at.drive.0 (at.first + 1) 1 (at.first + 1) (F.blocks - 1) drive block (omega arith) (omega (arith, least)) out);
    now = readable_with_claim (Counts Spells) at (size_on site L) old new head there.here.readable number small claims;
    master = refl;
  }

  module _ (slot : Slot) (mark : Mark) (bytes : ℕ) (body : List (List ℕ)) (table : IsTable (Counts Spells) at mark bytes body) where
    pub closed_rewrites : SameOutside (slot_area at slot (length body)) old new → new L.at.drive.0 (gate_at at slot) ≡ block_of (gate_text Closed) → IsRewrite
    closed_rewrites others shut = record {
      next = with_slot head slot Closed;
      behind = λ drive block out. others drive block (slot_within at slot (length body) drive block table.in_slot least out);
      now = readable_closed (Counts Spells) at (size_on site L) old new head there.here.readable slot (length body)
          (subst (λ (b : ℕ). length body ≤ slot_blocks b) (sym there.here.length) table.in_slot)
          (subst (λ (p : PlaceAt). SameOutside (slot_area p slot (length body)) old new) sized others)
          (subst (λ (p : PlaceAt). new L.at.drive.0 (gate_at p slot) ≡ block_of (gate_text Closed)) sized shut);
      master = master_slotted head slot Closed;
    }

    pub filled_rewrites : Fills at slot mark bytes body old new → IsRewrite
    filled_rewrites fills = record {
      next = with_slot head slot (Open mark bytes);
      behind = λ drive block out. fills.elsewhere drive block (slot_within at slot (length body) drive block table.in_slot least out);
      now = readable_filled (Counts Spells) at (size_on site L) old new head there.here.readable slot mark bytes body
          (subst (λ (p : PlaceAt). IsTable (Counts Spells) p mark bytes body) sized table)
          (subst (λ (p : PlaceAt). Fills p slot mark bytes body old new) sized fills);
      master = master_slotted head slot (Open mark bytes);
    }

  module _ (r : IsRewrite) where
    pub located_new : IsMasterAt (place_on L 8192 0 0) (size_on site L) (new L.at.drive.0 (L.at.start + 16)) F
    located_new = record {
      form = there.located.form;
      spelled = r.behind L.at.drive.0 (L.at.start + 16) (before_range L.at.drive.0 (at.first + 1) (F.blocks - 1) (L.at.start + 16) (omega arith)) ∙ there.located.spelled;
      lies = there.located.lies;
    }

    pub there_new : IsThere Spells site L K (new L.at.drive.0) F r.next
    there_new = record { one_of = there.one_of; located = located_new; numbered = there.numbered; within = there.within; here = record { readable = r.now; length = ap (λ (m : Master). m.blocks) r.master ∙ there.here.length } }

    -- each other one is still found
    found_still : IsSite site → AreFoundStill Spells site L K old new
    found_still ok line k first h found =
        elim (elsewhere Spells site ok old new L K F r.next there_new r.behind there.located line k first h found) [
          | inl e ↦ inl (e.0, e.1)
          | inr kept ↦ inr (record { found = kept.found; same = kept.same })
        ]

    -- what is found at its number has its master
    same_master : (h : Head) → IsFound Spells site L K (new L.at.drive.0) F h → head.master ≡ h.master
    same_master h found =
        let c = new L.at.drive.0 in
        let same : h ≡ r.next = one_head at (size_on site L) (c at.first) (c (at.first + 1)) (c (at.first + 2)) (c (at.first + 3)) h r.next found.here.readable.of_head r.now.of_head in
        sym (ap (λ (x : Head). x.master) same ∙ r.master)

    here_before : (h : Head) → IsFound Spells site L K (new L.at.drive.0) F h → (was : Head) × IsFound Spells site L K (old L.at.drive.0) F was × (was.master ≡ h.master)
    here_before h found = (let same = same_master h found in (head, as_mine (ap (λ (m : Master). m.key) same ∙ found.of_key), same))

    pub found_before : IsSite site → AreFoundBefore Spells site old new
    found_before ok line k first h found =
        elim (elsewhere Spells site ok new old L K F head there (λ drive block out. sym (r.behind drive block out)) located_new line k first h found) [
          | inr kept ↦ (h, kept.found, refl)
          | inl e ↦
              let at_line = subst (λ (l : SliceLine). IsFound Spells site l k (new l.at.drive.0) first h) e.0 found in
              let at_number = subst (λ (i : ℕ). IsFound Spells site L i (new L.at.drive.0) first h) e.1 at_line in
              let at_first = subst (λ (m : Master). IsFound Spells site L K (new L.at.drive.0) m h) e.2 at_number in
              subst (λ (l : SliceLine). (was : Head) × IsFound Spells site l k (old l.at.drive.0) first was × (was.master ≡ h.master)) (sym e.0)
              (subst (λ (i : ℕ). (was : Head) × IsFound Spells site L i (old L.at.drive.0) first was × (was.master ≡ h.master)) (sym e.1)
              (subst (λ (m : Master). (was : Head) × IsFound Spells site L K (old L.at.drive.0) m was × (was.master ≡ h.master)) (sym e.2) (here_before h at_first)))
        ]

  same_before : IsSame old new → AreFoundBefore Spells site old new
  same_before same line k first h found = (h, found_kept Spells site line (new line.at.drive.0) (old line.at.drive.0) first k h (λ block from to. sym (same line.at.drive.0 block)) found, refl)

  same_still : IsSame old new → AreFoundStill Spells site L K old new
  same_still same line k first h found = inr (record {
    found = found_kept Spells site line (old line.at.drive.0) (new line.at.drive.0) first k h (λ block from to. same line.at.drive.0 block) found;
    same = λ block from to. same line.at.drive.0 block;
  })

  pub claims_before : IsSite site → (number : ℕ) → number < 2 ^ 63 → MayClaim at number old new → AreFoundBefore Spells site old new
  claims_before ok number small change = ⊎_elim same_before (λ claims. found_before (claim_rewrites number small claims) ok) change

  pub slots_before : IsSite site → (slot : Slot) (mark : Mark) (bytes : ℕ) (body : List (List ℕ)) → IsTable (Counts Spells) at mark bytes body → MayFill at slot mark bytes body old new → AreFoundBefore Spells site old new
  slots_before ok slot mark bytes body table (untouched same) = same_before same
  slots_before ok slot mark bytes body table (closed others shut) = found_before (closed_rewrites slot mark bytes body table others shut) ok
  slots_before ok slot mark bytes body table (filled fills) = found_before (filled_rewrites slot mark bytes body table fills) ok

  pub claims_still : IsSite site → (number : ℕ) → number < 2 ^ 63 → MayClaim at number old new → AreFoundStill Spells site L K old new
  claims_still ok number small change = ⊎_elim same_still (λ claims. found_still (claim_rewrites number small claims) ok) change

  pub slots_still : IsSite site → (slot : Slot) (mark : Mark) (bytes : ℕ) (body : List (List ℕ)) → IsTable (Counts Spells) at mark bytes body → MayFill at slot mark bytes body old new → AreFoundStill Spells site L K old new
  slots_still ok slot mark bytes body table (untouched same) = same_still same
  slots_still ok slot mark bytes body table (closed others shut) = found_still (closed_rewrites slot mark bytes body table others shut) ok
  slots_still ok slot mark bytes body table (filled fills) = found_still (filled_rewrites slot mark bytes body table fills) ok

pub law_stay : (T : Type 0) → FoundsStay T
law_stay T = record {
  claims = λ read site old new line k first head number ok its small change. claims_before (Reads read) site line k first head old new its ok number small change;
  slots = λ read site old new line k first head slot mark bytes body ok its table change. slots_before (Reads read) site line k first head old new its ok slot mark bytes body table change;
}

pub law_last : (T : Type 0) → FoundsLast T
law_last T = record {
  claims = λ read site old new line k first head number ok its small change. claims_still (Reads read) site line k first head old new its ok number small change;
  slots = λ read site old new line k first head slot mark bytes body ok its table change. slots_still (Reads read) site line k first head old new its ok slot mark bytes body table change;
}
