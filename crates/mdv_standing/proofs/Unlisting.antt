-- Places that the newest version doesn't list are blanked.
use Rattle.std.proofs.Common.{◌≡◌, inl, inr, ⊎_elim, ℕ, ◌+◌, ◌-◌, ◌*◌, ◌<◌, ◌≤◌, true, false, List, [], refl, sym, ◌∙◌, ap, subst, arith}
use Rattle.std.proofs.lemmas.Bool.{cases_lt, false≢true}
use Rattle.std.specs.Prelude.{max}
use Rattle.mdv_replica.specs.Images.{Wipes}
use Rattle.mdv_shelf.proofs.Frame.{before_range}
use Rattle.mdv_shown.specs.Site.{size_on}
use Rattle.mdv_shown.specs.Wipes.{spots_behind, wiped_all}
use Rattle.mdv_shown.proofs.Elsewhere.{found_kept, one_master, places_step}
use Rattle.mdv_shown.proofs.Wiped.{from_in, in_from, wipe_ends, wipe_goes}
use Rattle.mdv_standing.specs.Below.{Core, Head, Identity, Image, IsOwn, Log, Master, MayWipe, PlaceAt, Site, SliceLine, Spot, Table, Version, is_in, is_named, place_on, spot_on}
use Rattle.mdv_standing.specs.Listed.{HavePlaces}
use Rattle.mdv_standing.specs.Matching.{lists_of, tables_of}
use Rattle.mdv_standing.specs.Placing.{AreWipedOrNone, IsIdle, IsUnlisted}
use Rattle.mdv_standing.specs.Worlds.{IsReadyWith, Turned}
use Rattle.mdv_standing.proofs.Idle.{AreUnnamed, cut_turns, places_kept}
use Rattle.mdv_standing.proofs.Within.{wipe_within}

-- a place of a slice is no seat
pub behind_places : (line : SliceLine) (first : Master) (k : ℕ) (q : Spot) → is_in (spots_behind line first k) q ≡ true → q.mediator ≡ false
behind_places line first k q has = (let from = in_from line first.blocks k (max 1 first.count - k) q has in ap (λ (s : Spot). s.mediator) (sym from.spot))

module _ (Spells : List ℕ → Table → Type 0) (site : Site) (identity : Identity) (log : Log) (w : Core) (old new : Image) (v : Version) (took : List Spot) (line : SliceLine) (k : ℕ) (first : Master)
    (i : IsIdle Spells site identity log w old v took) (u : IsUnlisted site v old line k first) where
  abbrev spots : List Spot
  spots = spots_behind line first k

  abbrev at : PlaceAt
  at = place_on line first.blocks first.count k

  unnamed : AreUnnamed (lists_of site v) spots
  unnamed q has = (behind_places line first k q has, u.none q has)

  front : MayWipe at old new → (block : ℕ) → block < at.first → new line.at.drive.0 block ≡ old line.at.drive.0 block
  front change block below = ⊎_elim (λ same. same line.at.drive.0 block) (λ (w : Wipes at old new). w.elsewhere line.at.drive.0 block (before_range line.at.drive.0 at.first 1 block below)) change

  -- a replica of the slice that the version lists lies in front
  on_slice : MayWipe at old new → (j : ℕ) (m : Master) (head : Head) → IsOwn Spells site identity line j old m head → is_named (lists_of site v) (spot_on line m.blocks j) ≡ true → IsOwn Spells site identity line j new m head
  on_slice change j m head own named =
      let same : m ≡ first = one_master line (size_on site line) (old line.at.drive.0 (line.at.start + 16)) m first own.found.located u.has.located in
      elim (cases_lt j k) [
        | inl less ↦
            let step = places_step j k first.blocks less in
            let blocks : m.blocks ≡ first.blocks = ap (λ (x : Master). x.blocks) same in
            let end : line.at.start + (16 + j * m.blocks) + m.blocks ≡ line.at.start + (16 + j * first.blocks) + first.blocks = ap (λ (b : ℕ). line.at.start + (16 + j * b) + b) blocks in
            record {
              found = found_kept Spells site line (old line.at.drive.0) (new line.at.drive.0) m j head (λ block from to. front change block (omega (arith, to, end, step))) own.found;
              of_identity = own.of_identity;
            }
        | inr more ↦
            let within = own.found.within in
            let fits : 16 + j * first.blocks + first.blocks ≤ line.at.blocks = subst (λ (x : Master). 16 + j * x.blocks + x.blocks ≤ line.at.blocks) same within in
            let count : j < max 1 first.count = ⊎_elim (λ none. omega (arith, none)) (λ less. omega (arith, less, ap (λ (x : Master). x.count) same)) own.found.numbered in
            let inside : is_in spots (spot_on line first.blocks j) ≡ true = from_in line first.blocks k (max 1 first.count - k) j (omega (arith, more)) (omega (arith, more, count)) fits in
            absurd (false≢true (sym (u.none (spot_on line first.blocks j) inside) ∙ subst (λ (x : Master). is_named (lists_of site v) (spot_on line x.blocks j) ≡ true) same named))
      ]

  kept : MayWipe at old new → HavePlaces Spells site identity log new
  kept change = places_kept Spells site identity log w old v took i line new u.has.one_of (wipe_within line k first.blocks first.count old new u.within change) (λ place has on named.
      let own = subst (λ (l : SliceLine). IsOwn Spells site identity l has.number old has.first has.head) on has.own in
      record {
        line = line;
        number = has.number;
        first = has.first;
        head = has.head;
        own = on_slice change has.number has.first has.head own (subst (λ (l : SliceLine). is_named (lists_of site v) (spot_on l has.first.blocks has.number) ≡ true) on named);
        is = has.is ∙ ap (λ (l : SliceLine). (place_on l has.first.blocks has.first.count has.number).place) on;
      })

  pub unlisted_wiped : Wipes at old new → Turned Spells site identity log w new (λ es. es ≡ wiped_all spots) (IsReadyWith took)
  unlisted_wiped wipes =
      cut_turns Spells site identity log w old v took i spots unnamed new (kept (inr wipes)) (wipe_ends Spells site identity (tables_of log.family) w old new line k first u.has u.within i.world.shows wipes)

  pub unlisted_wiping : MayWipe at old new → Turned Spells site identity log w new (AreWipedOrNone spots) (IsReadyWith took)
  unlisted_wiping change = elim (wipe_goes Spells site identity (tables_of log.family) w old new line k first u.has u.within i.world.shows change) [
    | inl same ↦ record { events = []; are = inl refl; may = tt; world = record { reached = i.world.reached; matches = i.world.matches; shows = same; listed = inl (kept change) }; known = i.known }
    | inr cut ↦ (let to = cut_turns Spells site identity log w old v took i spots unnamed new (kept change) cut in record { events = to.events; are = inr to.are; may = to.may; world = to.world; known = to.known })
  ]
