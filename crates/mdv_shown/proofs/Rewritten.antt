-- What an image shows where one replica's claim or slot was written.
use Rattle.std.proofs.Common.{◌≡◌, inl, inr, ℕ, ◌+◌, ◌-◌, ◌*◌, ◌<◌, ◌≤◌, true, false, refl, sym, ◌∙◌, ap, subst, List, Option, None, Some, arith}
use Rattle.std.proofs.lemmas.Bool.{cases_Bool, false≢true, false_from_ne_true}
use Rattle.mdv_shown.specs.Below.{Identity, Mark, SliceLine, Master, Head, PlaceAt, Slot, First, Second, gate_of, other_slot, body_at, slot_blocks, Image, place_at, Spot, SpotState, Version}
use Rattle.mdv_votes.specs.Spots.{same_spot}
use Rattle.mdv_votes.proofs.Meeting.{same_is, same_self}
use Rattle.mdv_shelf.proofs.Frame.{before_range}
use Rattle.mdv_replica.proofs.Heads.{one_head}
use Rattle.mdv_shown.specs.Site.{Site, IsSite, size_on, place_on, spot_on}
use Rattle.mdv_shown.specs.Found.{IsOwn}
use Rattle.mdv_shown.specs.Shown.{SlotShows, NewestIs, IsPlaceWith, ShowsPlaces}
use Rattle.mdv_shown.specs.Steps.{IsRewrittenAt}
use Rattle.mdv_shown.proofs.Slots.{shows_kept}
use Rattle.mdv_shown.proofs.Elsewhere.{chain_kept, elsewhere, places_step, there_of}

-- the bodies of two slots are within the place
pub body_within : (at : PlaceAt) (slot : Slot) (block : ℕ) → 16 ≤ at.place.blocks → body_at at slot ≤ block → block < body_at at slot + slot_blocks at.place.blocks
    → (at.first + 4 ≤ block) × (block < at.first + at.place.blocks)
body_within at First block least from to = (omega (arith, from), omega (arith, from, to, least))
body_within at Second block least from to = (omega (arith, from), omega (arith, from, to, least))

module _ {Table : Type 0} (Spells : List ℕ → Table → Type 0) (tables : ℕ → Table) (family : List Version) (at : PlaceAt) (old new : ℕ → List ℕ) (head next : Head) where
  -- a replica whose gates and bodies are the same shows the same
  module _ (gates : (slot : Slot) → gate_of next slot ≡ gate_of head slot)
      (bodies : (slot : Slot) (block : ℕ) → body_at at slot ≤ block → block < body_at at slot + slot_blocks at.place.blocks → new block ≡ old block) where
    slot_on : (slot : Slot) (mark : Mark) (table : Table) → SlotShows Spells at old head slot mark table → SlotShows Spells at new next slot mark table
    slot_on slot mark table = shows_kept Spells at old new head next slot mark table (gates slot) (bodies slot)

    slot_back : (slot : Slot) (mark : Mark) (table : Table) → SlotShows Spells at new next slot mark table → SlotShows Spells at old head slot mark table
    slot_back slot mark table = shows_kept Spells at new old next head slot mark table (sym (gates slot)) (λ block from to. sym (bodies slot block from to))

    pub newest_same : (o : Option ℕ) → NewestIs Spells tables family at old head o → NewestIs Spells tables family at new next o
    newest_same None none = λ slot mark table is. none slot mark table (slot_back slot mark table is)
    newest_same (Some i) n = record {
      slot = n.slot;
      is = record {
        shows = slot_on n.slot _ _ n.is.shows;
        last = λ other t is. n.is.last other t (slot_back (other_slot n.slot) other t is);
      };
    }

module _ {Table : Type 0} (Spells : List ℕ → Table → Type 0) (tables : ℕ → Table) (family : List Version) where
  -- a place whose blocks are the same
  pub place_same : (at : PlaceAt) (old new : ℕ → List ℕ) (head : Head) (x : SpotState) → 16 ≤ at.place.blocks
      → ((block : ℕ) → at.first ≤ block → block < at.first + at.place.blocks → new block ≡ old block)
      → IsPlaceWith Spells tables family at old head x → IsPlaceWith Spells tables family at new head x
  place_same at old new head x least same is = record {
    holds = is.holds;
    claim = is.claim;
    newest = newest_same Spells tables family at old new head head (λ slot. refl)
        (λ slot block from to. (let w = body_within at slot block least from to in same block (omega (arith, w.0)) w.1)) x.newest is.newest;
  }

module _ {Table : Type 0} (Spells : List ℕ → Table → Type 0) (site : Site) (ok : IsSite site) (identity : Identity) (L : SliceLine) (K : ℕ) (F : Master) (head next : Head) (old new : Image)
    (r : IsRewrittenAt Spells site identity L K F head next old new) where
  abbrev spot : Spot
  spot = spot_on L F.blocks K

  front : (block : ℕ) → block < L.at.start + (16 + K * F.blocks) + 1 → new L.at.drive.0 block ≡ old L.at.drive.0 block
  front block to = r.elsewhere L.at.drive.0 block (before_range L.at.drive.0 (L.at.start + (16 + K * F.blocks) + 1) (F.blocks - 1) block to)

  pub own_new : IsOwn Spells site identity L K new F next
  own_new =
      let f = r.own.found in
      record {
        found = record {
          one_of = f.one_of;
          located = record { form = f.located.form; spelled = front (L.at.start + 16) (omega arith) ∙ f.located.spelled; lies = f.located.lies };
          numbered = f.numbered;
          within = f.within;
          before = λ j lt.
              let c = f.before j lt in
              let step = places_step j K F.blocks lt in
              (c.0, chain_kept Spells site L (old L.at.drive.0) (new L.at.drive.0) F c.0 j (λ block from to. front block (omega (arith, to, step))) c.1);
          here = record { readable = r.now; length = ap (λ (m : Master). m.blocks) r.master ∙ f.here.length };
          of_key = ap (λ (m : Master). m.key) r.master ∙ f.of_key;
        };
        of_identity = ap (λ (m : Master). m.identity) r.master ∙ r.own.of_identity;
      }

  -- the one replica that is there now
  now_one : (h : Head) → IsOwn Spells site identity L K new F h → next ≡ h
  now_one h is =
      let at = place_on L F.blocks F.count K in
      let c = new L.at.drive.0 in
      one_head at (size_on site L) (c at.first) (c (at.first + 1)) (c (at.first + 2)) (c (at.first + 3)) next h r.now.of_head is.found.here.readable.of_head

  same_place : (line : SliceLine) (k : ℕ) (first : Master) → (line ≡ L) × (k ≡ K) × (first ≡ F) → spot_on line first.blocks k ≡ spot
  same_place line k first e i = spot_on (e.0 i) ((e.2 i).blocks) (e.1 i)

  pub rewritten_shows : (tables : ℕ → Table) (family : List Version) (places after : List SpotState) → ShowsPlaces Spells site identity tables family places old
      → IsPlaceWith Spells tables family (place_on L F.blocks F.count K) (new L.at.drive.0) next (place_at after spot)
      → ((q : Spot) → same_spot spot q ≡ false → place_at after q ≡ place_at places q)
      → ShowsPlaces Spells site identity tables family after new
  rewritten_shows tables family places after shows here others = record {
    each = λ line k first h own. elim (elsewhere Spells site ok new old L K F head (there_of Spells site site.key L K (old L.at.drive.0) F head r.own.found) (λ drive block out. sym (r.elsewhere drive block out)) own_new.found.located line k first h own.found) [
      | inl e ↦
          subst (λ (l : SliceLine). IsOwn Spells site identity l k new first h → IsPlaceWith Spells tables family (place_on l first.blocks first.count k) (new l.at.drive.0) h (place_at after (spot_on l first.blocks k))) (sym e.0)
          (subst (λ (n : ℕ). IsOwn Spells site identity L n new first h → IsPlaceWith Spells tables family (place_on L first.blocks first.count n) (new L.at.drive.0) h (place_at after (spot_on L first.blocks n))) (sym e.1)
          (subst (λ (m : Master). IsOwn Spells site identity L K new m h → IsPlaceWith Spells tables family (place_on L m.blocks m.count K) (new L.at.drive.0) h (place_at after (spot_on L m.blocks K))) (sym e.2)
          (λ mine. subst (λ (n : Head). IsPlaceWith Spells tables family (place_on L F.blocks F.count K) (new L.at.drive.0) n (place_at after spot)) (now_one h mine) here))) own
      | inr kept ↦
          let was = shows.each line k first h (record { found = kept.found; of_identity = own.of_identity }) in
          subst (λ (x : SpotState). IsPlaceWith Spells tables family (place_on line first.blocks first.count k) (new line.at.drive.0) h x) (sym (others (spot_on line first.blocks k) kept.apart))
          (place_same Spells tables family (place_on line first.blocks first.count k) (old line.at.drive.0) (new line.at.drive.0) h (place_at places (spot_on line first.blocks k)) own.found.located.lies.least
          (λ block from to. sym (kept.same block from to)) was)
    ];
    only = λ q kind holds. elim (cases_Bool (same_spot spot q)) [
      | inl is ↦ record { line = L; number = K; first = F; head = next; own = own_new; spot = sym (same_is spot q is) }
      | inr isnt ↦
          let was = shows.only q kind (sym (ap (λ (x : SpotState). x.holds) (others q isnt)) ∙ holds) in
          elim (elsewhere Spells site ok old new L K F next (there_of Spells site site.key L K (new L.at.drive.0) F next own_new.found) r.elsewhere r.own.found.located was.line was.number was.first was.head was.own.found) [
            | inl e ↦
                absurd (false≢true (sym isnt ∙ subst (λ (s : Spot). same_spot spot s ≡ true) (sym (same_place was.line was.number was.first e) ∙ sym was.spot) (same_self spot)))
            | inr kept ↦ record {
              line = was.line;
              number = was.number;
              first = was.first;
              head = was.head;
              own = record { found = kept.found; of_identity = was.own.of_identity };
              spot = was.spot;
            }
          ]
    ];
    seats = λ q kind holds.
        let apart : same_spot spot q ≡ false = false_from_ne_true (same_spot spot q) (λ is. false≢true (ap (λ (s : Spot). s.mediator) (same_is spot q is) ∙ kind)) in
        shows.seats q kind (sym (ap (λ (x : SpotState). x.holds) (others q apart)) ∙ holds);
  }
