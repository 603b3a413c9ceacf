-- A claim is written, a slot is closed, and a slot is filled.
use Rattle.std.proofs.Common.{◌≡◌, inl, inr, ℕ, ◌+◌, ◌-◌, ◌<◌, ◌≤◌, ◌^◌, false, refl, sym, ◌∙◌, subst, List, length, Option, None, Some, arith}
use Rattle.std.proofs.lemmas.Bool.{or_from}
use Rattle.mdv_shown.specs.Below.{Identity, Mark, SliceLine, IsSpare, IsSpareSlot, IsTable, Master, Head, PlaceAt, Slot, First, Second, Gate, Closed, Open, gate_of, other_slot, claimed_head, with_slot, gate_at, body_at, slot_area, slot_blocks, block_of, gate_text, with_blocks}
use Rattle.mdv_shown.specs.Below.{Claims, Fills, Image, SameOutside, range, place_at, put_at, table_at, with_claim, with_newest, Spot, SpotState, Version}
use Rattle.mdv_votes.proofs.PlacesAt.{put_same, put_other}
use Rattle.mdv_shelf.proofs.Frame.{before_range, behind_range, within_range}
use Rattle.mdv_replica.proofs.Showing.{readable_with_claim, readable_closed, readable_filled, own_place}
use Rattle.mdv_shown.specs.Site.{Site, IsSite, size_on, place_on, spot_on}
use Rattle.mdv_shown.specs.Found.{Counts, IsOwn}
use Rattle.mdv_shown.specs.Shown.{SlotShows, IsNewestOf, NewestIs, IsPlaceWith, ShowsPlaces}
use Rattle.mdv_shown.specs.Steps.{IsBodyOf, IsAbove, IsRewrittenAt}
use Rattle.mdv_shown.proofs.Slots.{slot_cases, shows_kept, shows_filled, shows_some}
use Rattle.mdv_shown.proofs.Rewritten.{body_within, newest_same, own_new, rewritten_shows}

gates_claimed : (head : Head) (number : ℕ) (slot : Slot) → gate_of (claimed_head head number) slot ≡ gate_of head slot
gates_claimed head number First = refl
gates_claimed head number Second = refl

gate_here : (head : Head) (slot : Slot) (gate : Gate) → gate_of (with_slot head slot gate) slot ≡ gate
gate_here head First gate = refl
gate_here head Second gate = refl

gate_other : (head : Head) (slot : Slot) (gate : Gate) → gate_of (with_slot head slot gate) (other_slot slot) ≡ gate_of head (other_slot slot)
gate_other head First gate = refl
gate_other head Second gate = refl

pub master_slotted : (head : Head) (slot : Slot) (gate : Gate) → (with_slot head slot gate).master ≡ head.master
master_slotted head First gate = refl
master_slotted head Second gate = refl

claim_slotted : (head : Head) (slot : Slot) (gate : Gate) → head.claim ≡ (with_slot head slot gate).claim
claim_slotted head First gate = refl
claim_slotted head Second gate = refl

other_twice : (slot : Slot) → other_slot (other_slot slot) ≡ slot
other_twice First = refl
other_twice Second = refl

shut_never : (mark : Mark) (bytes : ℕ) → Closed ≡ Open mark bytes → ⊥
shut_never mark bytes e = cc

-- the blocks of a slot lie behind the master, and none of them is in the other slot's body
pub slot_within : (at : PlaceAt) (slot : Slot) (count drive block : ℕ) → count ≤ slot_blocks at.place.blocks → 16 ≤ at.place.blocks
    → range at.drive.0 (at.first + 1) (at.place.blocks - 1) drive block ≡ false → slot_area at slot count drive block ≡ false
slot_within at First count drive block fits least out =
    or_from _ _
    (within_range at.drive.0 (at.first + 2) 1 (at.first + 1) (at.place.blocks - 1) drive block (omega arith) (omega (arith, least)) out)
    (within_range at.drive.0 (at.first + 4) count (at.first + 1) (at.place.blocks - 1) drive block (omega arith) (omega (arith, fits, least)) out)
slot_within at Second count drive block fits least out =
    or_from _ _
    (within_range at.drive.0 (at.first + 3) 1 (at.first + 1) (at.place.blocks - 1) drive block (omega arith) (omega (arith, least)) out)
    (within_range at.drive.0 (at.first + 4 + slot_blocks at.place.blocks) count (at.first + 1) (at.place.blocks - 1) drive block (omega arith) (omega (arith, fits, least)) out)

body_other : (at : PlaceAt) (slot : Slot) (count block : ℕ) → count ≤ slot_blocks at.place.blocks
    → body_at at (other_slot slot) ≤ block → block < body_at at (other_slot slot) + slot_blocks at.place.blocks → slot_area at slot count at.drive.0 block ≡ false
body_other at First count block fits from to =
    or_from _ _ (behind_range at.drive.0 (at.first + 2) 1 block (omega (arith, from))) (behind_range at.drive.0 (at.first + 4) count block (omega (arith, from, fits)))
body_other at Second count block fits from to =
    or_from _ _ (behind_range at.drive.0 (at.first + 3) 1 block (omega (arith, from)))
    (before_range at.drive.0 (at.first + 4 + slot_blocks at.place.blocks) count block (omega (arith, to)))

module _ {Table : Type 0} (Spells : List ℕ → Table → Type 0) (site : Site) (ok : IsSite site) (identity : Identity) (L : SliceLine) (K : ℕ) (F : Master) (head : Head) (old new : Image)
    (own : IsOwn Spells site identity L K old F head) where
  abbrev at : PlaceAt
  at = place_on L F.blocks F.count K

  abbrev spot : Spot
  spot = spot_on L F.blocks K

  least : 16 ≤ F.blocks
  least = own.found.located.lies.least

  -- the place with the length that its master says
  sized : at ≡ with_blocks at head.master.blocks
  sized = own_place at head.master.blocks own.found.here.length

  module _ (number : ℕ) (small : number < 2 ^ 63) (claims : Claims at number old new) where
    claim_rewrites : IsRewrittenAt Spells site identity L K F head (claimed_head head number) old new
    claim_rewrites = record {
      own = own;
      elsewhere = λ drive block out.
          claims.elsewhere drive block (within_range L.at.drive.0 (at.first + 1) 1 (at.first + 1) (F.blocks - 1) drive block (omega arith) (omega (arith, least)) out);
      now = readable_with_claim (Counts Spells) at (size_on site L) old new head own.found.here.readable number small claims;
      master = refl;
    }

    pub own_claimed : IsOwn Spells site identity L K new F (claimed_head head number)
    own_claimed = own_new Spells site ok identity L K F head (claimed_head head number) old new claim_rewrites

    pub claimed_shows : (tables : ℕ → Table) (family : List Version) (places : List SpotState) → ShowsPlaces Spells site identity tables family places old
        → ShowsPlaces Spells site identity tables family (put_at places spot (with_claim number)) new
    claimed_shows tables family places shows =
        let next = claimed_head head number in
        let was = shows.each L K F head own in
        let x = place_at places spot in
        rewritten_shows Spells site ok identity L K F head next old new claim_rewrites tables family places (put_at places spot (with_claim number)) shows
        (subst (λ (y : SpotState). IsPlaceWith Spells tables family at (new L.at.drive.0) next y) (sym (put_same places spot (with_claim number) (λ y. refl))) (record {
          holds = was.holds;
          claim = refl;
          newest = newest_same Spells tables family at (old L.at.drive.0) (new L.at.drive.0) head next (gates_claimed head number)
              (λ slot block from to.
              let w = body_within at slot block least from to in
              claims.elsewhere L.at.drive.0 block (behind_range L.at.drive.0 (at.first + 1) 1 block (omega (arith, w.0))))
              x.newest was.newest;
        }))
        (λ q apart. put_other places spot q (with_claim number) (λ y. refl) apart)

  module _ (slot : Slot) where
    kept_other : (count : ℕ) → count ≤ slot_blocks F.blocks → SameOutside (slot_area at slot count) old new
        → (block : ℕ) → body_at at (other_slot slot) ≤ block → block < body_at at (other_slot slot) + slot_blocks F.blocks → new L.at.drive.0 block ≡ old L.at.drive.0 block
    kept_other count fits others block from to = others L.at.drive.0 block (body_other at slot count block fits from to)

    -- the slot is closed
    module _ (count : ℕ) (fits : count ≤ slot_blocks F.blocks) (others : SameOutside (slot_area at slot count) old new) (shut : new L.at.drive.0 (gate_at at slot) ≡ block_of (gate_text Closed)) where
      abbrev shut_head : Head
      shut_head = with_slot head slot Closed

      close_rewrites : IsRewrittenAt Spells site identity L K F head shut_head old new
      close_rewrites = record {
        own = own;
        elsewhere = λ drive block out. others drive block (slot_within at slot count drive block fits least out);
        now = readable_closed (Counts Spells) at (size_on site L) old new head own.found.here.readable slot count
            (subst (λ (b : ℕ). count ≤ slot_blocks b) (sym own.found.here.length) fits)
            (subst (λ (p : PlaceAt). SameOutside (slot_area p slot count) old new) sized others)
            (subst (λ (p : PlaceAt). new L.at.drive.0 (gate_at p slot) ≡ block_of (gate_text Closed)) sized shut);
        master = master_slotted head slot Closed;
      }

      pub own_closed : IsOwn Spells site identity L K new F shut_head
      own_closed = own_new Spells site ok identity L K F head shut_head old new close_rewrites

      -- a closed slot shows nothing
      shows_nothing : (mark : Mark) (table : Table) → SlotShows Spells at (new L.at.drive.0) shut_head slot mark table → ⊥
      shows_nothing mark table is = shut_never mark is.bytes (sym (gate_here head slot Closed) ∙ is.gate)

      other_on : (mark : Mark) (table : Table) → SlotShows Spells at (old L.at.drive.0) head (other_slot slot) mark table → SlotShows Spells at (new L.at.drive.0) shut_head (other_slot slot) mark table
      other_on mark table = shows_kept Spells at (old L.at.drive.0) (new L.at.drive.0) head shut_head (other_slot slot) mark table (gate_other head slot Closed) (kept_other count fits others)

      other_back : (mark : Mark) (table : Table) → SlotShows Spells at (new L.at.drive.0) shut_head (other_slot slot) mark table → SlotShows Spells at (old L.at.drive.0) head (other_slot slot) mark table
      other_back mark table =
          shows_kept Spells at (new L.at.drive.0) (old L.at.drive.0) shut_head head (other_slot slot) mark table (sym (gate_other head slot Closed)) (λ block from to. sym (kept_other count fits others block from to))

      -- a spare slot isn't the one that shows the newest table
      spare_never : (gate : Gate) → gate_of head (other_slot slot) ≡ gate → (mark : Mark) (table : Table) → IsSpareSlot head slot → IsNewestOf Spells at (old L.at.drive.0) head slot mark table → ⊥
      spare_never gate e mark table spare is = at_gate gate e (subst (λ (g : Gate). IsSpare (gate_of head slot) g) e spare)
        where
          at_gate : (g : Gate) → gate_of head (other_slot slot) ≡ g → IsSpare (gate_of head slot) g → ⊥
          at_gate Closed s never = subst (λ (h : Gate). IsSpare h Closed) is.shows.gate never
          at_gate (Open other more) s never =
              let some = shows_some Spells at (size_on site L) (old L.at.drive.0) head (other_slot slot) other more own.found.here.readable s in
              subst (λ (h : Gate). IsSpare h (Open other more)) is.shows.gate never
              (is.last other some.0 (subst (λ (p : PlaceAt). SlotShows Spells p (old L.at.drive.0) head (other_slot slot) other some.0) (sym sized) some.1))

      newest_closed : (tables : ℕ → Table) (family : List Version) (o : Option ℕ) → IsSpareSlot head slot → NewestIs Spells tables family at (old L.at.drive.0) head o → NewestIs Spells tables family at (new L.at.drive.0) shut_head o
      newest_closed tables family None spare none = λ s mark table is. elim (slot_cases slot s) [
        | inl e ↦ shows_nothing mark table (subst (λ (k : Slot). SlotShows Spells at (new L.at.drive.0) shut_head k mark table) (sym e) is)
        | inr e ↦ none (other_slot slot) mark table (other_back mark table (subst (λ (k : Slot). SlotShows Spells at (new L.at.drive.0) shut_head k mark table) e is))
      ]
      newest_closed tables family (Some i) spare n =
          elim (slot_cases slot n.slot) [
            | inl e ↦
                absurd (spare_never (gate_of head (other_slot slot)) refl (table_at family i).mark (tables i) spare
                (subst (λ (k : Slot). IsNewestOf Spells at (old L.at.drive.0) head k (table_at family i).mark (tables i)) (sym e) n.is))
            | inr e ↦
                let is = subst (λ (k : Slot). IsNewestOf Spells at (old L.at.drive.0) head k (table_at family i).mark (tables i)) e n.is in
                record {
                  slot = other_slot slot;
                  is = record {
                    shows = other_on (table_at family i).mark (tables i) is.shows;
                    last = λ other t it. absurd (shows_nothing other t (subst (λ (k : Slot). SlotShows Spells at (new L.at.drive.0) shut_head k other t) (other_twice slot) it));
                  };
                }
          ]

      pub closed_shows : (tables : ℕ → Table) (family : List Version) (places : List SpotState) → IsSpareSlot head slot → ShowsPlaces Spells site identity tables family places old
          → ShowsPlaces Spells site identity tables family places new
      closed_shows tables family places spare shows =
          let was = shows.each L K F head own in
          rewritten_shows Spells site ok identity L K F head shut_head old new close_rewrites tables family places places shows (record {
            holds = was.holds;
            claim = was.claim ∙ claim_slotted head slot Closed;
            newest = newest_closed tables family (place_at places spot).newest spare was.newest;
          }) (λ q apart. refl)

    -- the slot is filled with the family's table of this number
    module _ (tables : ℕ → Table) (family : List Version) (i bytes : ℕ) (body : List (List ℕ)) (is : IsBodyOf Spells at (table_at family i).mark bytes body (tables i)) (fills : Fills at slot (table_at family i).mark bytes body old new) where
      abbrev full_head : Head
      full_head = with_slot head slot (Open (table_at family i).mark bytes)

      fill_rewrites : IsRewrittenAt Spells site identity L K F head full_head old new
      fill_rewrites = record {
        own = own;
        elsewhere = λ drive block out. fills.elsewhere drive block (slot_within at slot (length body) drive block is.is.in_slot least out);
        now = readable_filled (Counts Spells) at (size_on site L) old new head own.found.here.readable slot (table_at family i).mark bytes body
            (subst (λ (p : PlaceAt). IsTable (Counts Spells) p (table_at family i).mark bytes body) sized is.is)
            (subst (λ (p : PlaceAt). Fills p slot (table_at family i).mark bytes body old new) sized fills);
        master = master_slotted head slot (Open (table_at family i).mark bytes);
      }

      pub own_filled : IsOwn Spells site identity L K new F full_head
      own_filled = own_new Spells site ok identity L K F head full_head old new fill_rewrites

      pub filled_shows : (places : List SpotState) → IsAbove (table_at family i).mark head → ShowsPlaces Spells site identity tables family places old
          → ShowsPlaces Spells site identity tables family (put_at places spot (with_newest i)) new
      filled_shows places above shows =
          let was = shows.each L K F head own in
          rewritten_shows Spells site ok identity L K F head full_head old new fill_rewrites tables family places (put_at places spot (with_newest i)) shows
          (subst (λ (y : SpotState). IsPlaceWith Spells tables family at (new L.at.drive.0) full_head y) (sym (put_same places spot (with_newest i) (λ y. refl))) (record {
            holds = was.holds;
            claim = was.claim ∙ claim_slotted head slot (Open (table_at family i).mark bytes);
            newest = record {
              slot = slot;
              is = record {
                shows = shows_filled Spells at old new full_head slot (table_at family i).mark bytes body (tables i) fills is.is.in_slot is.is.in_body is.spelled
                    (gate_here head slot (Open (table_at family i).mark bytes));
                last = λ other t it. above (other_slot slot) other it.bytes (sym (gate_other head slot (Open (table_at family i).mark bytes)) ∙ it.gate);
              };
            };
          }))
          (λ q apart. put_other places spot q (with_newest i) (λ y. refl) apart)
