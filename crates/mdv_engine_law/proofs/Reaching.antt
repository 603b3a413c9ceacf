-- Where a change of places writes: on slices where the host's replicas may lie, and where the line may that asks it.
use Rattle.std.proofs.Common.{◌≡◌, ◌⊎◌, inl, inr, not, ◌+◌, ◌-◌, ◌*◌, ◌≤◌, ℕ, Bool, true, false, List, [], ◌∷◌, ◌++◌, filter, filter_map, Option, Some, None, Contains, refl, sym, ◌∙◌, ap, subst, arith}
use Rattle.std.specs.List.{cons_option, list_any}
use Rattle.std.proofs.lemmas.Bool.{cases_Bool, false≢true}
use Rattle.std.proofs.lemmas.List.Concat.{flat_map-cons}
use Rattle.std.proofs.lemmas.List.Elements.{Contains-append_left}
use Rattle.mdv_acts.specs.Wipes.{place_in}
use Rattle.mdv_name.proofs.Finding.{slice_at-some}
use Rattle.mdv_name.specs.SliceIndex.{slice_at}
use Rattle.mdv_places.proofs.Adding.{claims_area, either_replica}
use Rattle.mdv_places.proofs.Coming.{keeps, passes}
use Rattle.mdv_places.proofs.Dropping.{dropped_lacks, dropped_one}
use Rattle.mdv_places.proofs.Fronting.{placed_of, starts_of}
use Rattle.mdv_places.specs.Asked.{Adds, Asks, Drops, KeepsFirst, dropped, is_on, list_after, list_less, places_asked, seats_added}
use Rattle.mdv_places.specs.Changing.{both_of}
use Rattle.mdv_places.specs.Ending.{EndMoment}
use Rattle.mdv_places.specs.Moments.{MoveMoment, area_moved, found_at, master_area, places_dropped}
use Rattle.mdv_places.specs.Outcomes.{IsMoved, TakesBoth, seats_coming, till_wiped}
use Rattle.mdv_plan.specs.Slices.{meets_db}
use Rattle.mdv_shelf.specs.Failing.{Outcomes}
use Rattle.mdv_shelf.proofs.Frame.{kept_outside_more, kept_outside_wider, within_range}
use Rattle.mdv_store.proofs.Seating.{or_yes}
use Rattle.mdv_store.proofs.Sitting.{contains_behind, contains_first, first_or_behind, left_replica, replica_of, seat_of}
use Rattle.mdv_store.specs.Create.{seats_asked}
use Rattle.mdv_store.specs.Listing.{is_listed_in}
use Rattle.mdv_store.specs.Seats.{replica_area, replicas_of}
use Rattle.mdv_survey.specs.declared.replica.Replica.{Replica}
use Rattle.mdv_config.proofs.Beside.{among-true}
use Rattle.mdv_config.specs.Lists.{last_of}
use Rattle.mdv_config.specs.Table.{IsListsOf, IsOfGeometry, IsPlaceOf}
use Rattle.mdv_plan.specs.declared.lists.Lists.TheVariants.{Two}
use Rattle.mdv_engine_law.specs.Below.{Geometry, Key, KeptOutside, Opened, Place, PlaceAt, Replicas, Seat, SliceAt, SliceLine, SliceName, Tale, joined, listed_by, seats_area, site_area}
use Rattle.mdv_engine_law.specs.declared.host.Host.{Host}
use Rattle.mdv_engine_law.specs.Hosts.{IsReady, dropped_area, line_at, lines_asked, listed_area, masters_area, opened_area, places_area}
use Rattle.mdv_engine_law.specs.Line.{Memory, ToDrop, ToMake, ToMakeListed}
use Rattle.mdv_engine_law.specs.Places.{are_all, is_empty, list_of}
use Rattle.mdv_engine_law.specs.Refusals.{is_plain}
use Rattle.mdv_engine_law.specs.Standing.{WritesOnly}
use Rattle.mdv_engine_law.proofs.Allowed.{either_left, either_right, none_passes}
use Rattle.mdv_engine_law.proofs.Places.{asked_sites, outside_asked}
use Rattle.mdv_engine_law.proofs.Within.{none_in, out_of_line, outside_places}

-- The masters of places, as their slices lie.
module _ (g : Geometry) (drive block : ℕ) where
  abbrev at_place : Place → Option PlaceAt
  at_place p = found_at p (slice_at g.slices p.slice)

  abbrev places_at : List Place → List PlaceAt
  places_at places = filter_map at_place places

  abbrev in_master : PlaceAt → Bool
  in_master at = master_area at drive block

  -- a block is none of them, where it is none of each
  each_master : (places : List Place) → ((p : Place) (at : PlaceAt) → Contains places p → at_place p ≡ Some at → in_master at ≡ false) → list_any in_master (places_at places) ≡ false
  each_master [] each = refl
  each_master (p ∷ places) each = by (at_place p) refl (each_master places (λ q at has. each q at (contains_behind p q places has))) where
    by : (found : Option PlaceAt) → at_place p ≡ found → list_any in_master (places_at places) ≡ false → list_any in_master (cons_option found (places_at places)) ≡ false
    by None is rest = rest
    by (Some at) is rest = or_yes (in_master at) (list_any in_master (places_at places)) (each p at (contains_first p places) is) rest

  one_master : (places : List Place) → list_any in_master (places_at places) ≡ false → (p : Place) (at : PlaceAt) → Contains places p → at_place p ≡ Some at → in_master at ≡ false
  one_master [] out p at has is = absurd (omega (arith, has.1))
  one_master (q ∷ places) out p at has is = by (at_place q) refl out (first_or_behind q p places has) (λ rest behind. one_master places rest p at behind is) where
    by : (found : Option PlaceAt) → at_place q ≡ found → list_any in_master (cons_option found (places_at places)) ≡ false → (q ≡ p) ⊎ Contains places p → (list_any in_master (places_at places) ≡ false → Contains places p → in_master at ≡ false) → in_master at ≡ false
    by None none rest (inl here) more = absurd (let same = ap at_place here in cc (none, is, same))
    by None none rest (inr behind) more = more rest behind
    by (Some a) some rest (inl here) more =
        let same : ◌≡◌ {A = Option PlaceAt} (Some a) (Some at) = sym some ∙ ap at_place here ∙ is in
        let one : a ≡ at = cc (same) in
        subst (λ (x : PlaceAt). in_master x ≡ false) one (either_left (in_master a) (list_any in_master (places_at places)) rest)
    by (Some a) some rest (inr behind) more = more (either_right (in_master a) (list_any in_master (places_at places)) rest) behind

  pub masters_fewer : (some all : List Place) → ((p : Place) → Contains some p → Contains all p) → masters_area g all drive block ≡ false → masters_area g some drive block ≡ false
  masters_fewer some all among out = each_master some (λ p at has is. one_master all out p at (among p has) is)

-- a block outside some replicas and outside others is outside both
outside_both : (xs ys : List Seat) (drive block : ℕ) → seats_area xs drive block ≡ false → seats_area ys drive block ≡ false → seats_area (xs ++ ys) drive block ≡ false
outside_both xs ys drive block out_xs out_ys = none_in (replicas_of (xs ++ ys)) drive block (λ r has. elim (either_replica xs ys r has) [
  | inl one ↦ none_passes (λ (x : Replica). replica_area x drive block) (replicas_of xs) out_xs r one
  | inr other ↦ none_passes (λ (x : Replica). replica_area x drive block) (replicas_of ys) out_ys r other
])

-- The places that are dropped.
module _ (was : List Place) where
  -- none, where places are added
  none_dropped : (lines : List SliceLine) (count blocks : ℕ) (p : Place) → Contains (dropped (Adds lines count blocks) was) p → ⊥
  none_dropped lines count blocks p gone =
      let lacks = dropped_lacks (Adds lines count blocks) was p gone in
      let has = Contains-append_left was (places_asked lines count blocks) p lacks.0 in
      false≢true (sym (ap not ((among-true (was ++ places_asked lines count blocks) p).1 has)) ∙ lacks.1)

  -- those of these slices
  on_slices : (slices : List SliceName) (p : Place) → Contains was p → (Contains (list_less slices was) p → ⊥) → Contains (filter (is_on slices) was) p
  on_slices slices p has never = elim (cases_Bool (is_on slices p)) [
    | inl on ↦ keeps (is_on slices) was p has on
    | inr off ↦ absurd (never (keeps (λ (x : Place). not (is_on slices x)) was p has (ap not off)))
  ]

  some_dropped : (slices : List SliceName) (p : Place) → Contains (dropped (Drops slices) was) p → Contains (filter (is_on slices) was) p
  some_dropped slices p gone =
      let lacks = dropped_lacks (Drops slices) was p gone in
      on_slices slices p lacks.0 (λ has. false≢true (sym (ap not ((among-true (list_less slices was) p).1 has)) ∙ lacks.1))

  none_left : (places : List Place) → is_empty places ≡ true → (p : Place) → Contains places p → ⊥
  none_left [] empty p has = omega (arith, has.1)
  none_left (q ∷ places) empty p has = cc (empty)

  all_dropped : (slices : List SliceName) → is_empty (list_less slices was) ≡ true → (p : Place) → Contains (dropped KeepsFirst was) p → Contains (filter (is_on slices) was) p
  all_dropped slices all p gone = on_slices slices p (dropped_one KeepsFirst was p gone) (none_left (list_less slices was) all p)

-- A block is outside all that a change of places may write.
module _ (g : Geometry) (o : Opened) (asked : Asks) (drive block : ℕ) where
  pub outside_moved : seats_area o.seats drive block ≡ false → seats_area (seats_added o asked) drive block ≡ false → masters_area g (dropped asked (list_of o)) drive block ≡ false → area_moved g o asked drive block ≡ false
  outside_moved seats added masters =
      or_yes (seats_area (both_of o asked).seats drive block) (list_any (λ (at : PlaceAt). master_area at drive block) (places_dropped g o asked)) (outside_both o.seats (seats_added o asked) drive block seats added) masters

outside_added : (o : Opened) (lines : List SliceLine) (count blocks : ℕ) (drive block : ℕ) → places_area lines count blocks drive block ≡ false → seats_area (seats_added o (Adds lines count blocks)) drive block ≡ false
outside_added o lines count blocks drive block out =
    claims_area o.mark.boot (seats_asked o.key o.identity lines count blocks) drive block ∙ outside_asked o.key o.identity lines count blocks drive block out

-- Where the line may write.
module _ (host : Host) (memory : Memory) (o : Opened) (opened : memory.opened ≡ Some o) (t m : Tale) (kept : KeptOutside (site_area host.site) t m) where
  open_area : (drive block : ℕ) → opened_area memory.opened drive block ≡ false → seats_area o.seats drive block ≡ false
  open_area drive block out = subst (λ (x : Option Opened). opened_area x drive block ≡ false) opened out

  adds_within : (lines : List SliceLine) (count blocks : ℕ) → MoveMoment host.drives o (Adds lines count blocks) t m → KeptOutside (joined (places_area lines count blocks) (opened_area memory.opened)) t m
  adds_within lines count blocks moment =
      kept_outside_wider (area_moved host.drives o (Adds lines count blocks)) (joined (places_area lines count blocks) (opened_area memory.opened)) t m (λ drive block out.
      outside_moved host.drives o (Adds lines count blocks) drive block
      (open_area drive block (either_right (places_area lines count blocks drive block) (opened_area memory.opened drive block) out))
      (outside_added o lines count blocks drive block (either_left (places_area lines count blocks drive block) (opened_area memory.opened drive block) out))
      (each_master host.drives drive block (dropped (Adds lines count blocks) (list_of o)) (λ p at has is. absurd (none_dropped (list_of o) lines count blocks p has)))) moment.quiet.outside

  pub adds_writes : (key : Key) (lines : List SliceLine) (count blocks : ℕ) → MoveMoment host.drives o (Adds lines count blocks) t m → WritesOnly host (ToMake key lines count blocks) memory t m
  adds_writes key lines count blocks moment = (kept, adds_within lines count blocks moment)

  -- as a kept entry says
  pub listed_writes : (key : Key) (number : ℕ) (r : Replicas) → listed_by memory.entries number ≡ Some r → MoveMoment host.drives o (Adds (lines_asked host r.slices) r.count r.blocks) t m → WritesOnly host (ToMakeListed key number) memory t m
  listed_writes key number r is moment = (
    kept,
    subst (λ (x : Option Replicas). KeptOutside (joined (listed_area host x) (opened_area memory.opened)) t m) (sym is) (adds_within (lines_asked host r.slices) r.count r.blocks moment),
  )

  drops_within : (key : Key) (slices : List SliceName) (force : Bool) (asked : Asks) → (seats_added o asked ≡ []) → ((p : Place) → Contains (dropped asked (list_of o)) p → Contains (filter (is_on slices) (list_of o)) p) → MoveMoment host.drives o asked t m → WritesOnly host (ToDrop key slices force) memory t m
  drops_within key slices force asked none among moment = (
    kept,
    kept_outside_wider (area_moved host.drives o asked) (joined (opened_area memory.opened) (dropped_area host.drives memory.opened slices)) t m (λ drive block out.
        outside_moved host.drives o asked drive block (open_area drive block (either_left (opened_area memory.opened drive block) (dropped_area host.drives memory.opened slices drive block) out))
        (ap (λ (l : List Seat). seats_area l drive block) none)
        (masters_fewer host.drives drive block (dropped asked (list_of o)) (filter (is_on slices) (list_of o)) among
        (subst (λ (x : Option Opened). dropped_area host.drives x slices drive block ≡ false) opened (either_right (opened_area memory.opened drive block) (dropped_area host.drives memory.opened slices drive block) out)))) moment.quiet.outside,
  )

  -- some are left
  pub drops_writes : (key : Key) (slices : List SliceName) (force : Bool) → MoveMoment host.drives o (Drops slices) t m → WritesOnly host (ToDrop key slices force) memory t m
  drops_writes key slices force = drops_within key slices force (Drops slices) refl (some_dropped (list_of o) slices)

  -- all go, and first all but the first one
  pub first_writes : (key : Key) (slices : List SliceName) (force : Bool) → are_all o slices ≡ true → MoveMoment host.drives o KeepsFirst t m → WritesOnly host (ToDrop key slices force) memory t m
  first_writes key slices force all = drops_within key slices force KeepsFirst refl (all_dropped (list_of o) slices all)

-- The replica that is left lies where one of those did.
module _ (calls : Outcomes) (g : Geometry) (o new : Opened) (asked : Asks) (none : seats_added o asked ≡ []) (clean : Bool) (moved : IsMoved calls g o asked new clean) where
  was_there : (r : Replica) → Contains (replicas_of (seats_coming calls g o asked)) r → Contains (replicas_of o.seats) r
  was_there r has =
      let s = seat_of (seats_coming calls g o asked) r has in
      let among = (passes (is_listed_in (list_after asked (last_of o.table.plan.lists))) (both_of o asked).seats s.0 s.1).0 in
      elim (either_replica o.seats (seats_added o asked) r (replica_of (both_of o asked).seats s.0 r among s.2)) [
        | inl here ↦ here
        | inr added ↦ (let none_has = subst (λ (l : List Seat). Contains (replicas_of l) r) none added in absurd (omega (arith, none_has.1)))
      ]

  pub left_area : (drive block : ℕ) → seats_area o.seats drive block ≡ false → seats_area new.seats drive block ≡ false
  left_area drive block out = none_in (replicas_of new.seats) drive block (λ n has.
      let was = left_replica (till_wiped calls g o asked) (TakesBoth calls g o asked) (seats_coming calls g o asked) new.seats n moved.left has in
      ap (λ (x : Replica). replica_area x drive block) was.2.2.2 ∙ ap (λ (x : Replica). replica_area x drive block) was.2.1.2
      ∙ none_passes (λ (x : Replica). replica_area x drive block) (replicas_of o.seats) out was.0 (was_there was.0 was.1))

-- behind that its master is blanked
module _ (host : Host) (memory : Memory) (o new : Opened) (opened : memory.opened ≡ Some o) (seats : (drive block : ℕ) → seats_area o.seats drive block ≡ false → seats_area new.seats drive block ≡ false) (t u m : Tale) where
  pub end_writes : (key : Key) (slices : List SliceName) (force : Bool) → WritesOnly host (ToDrop key slices force) memory t u → KeptOutside (site_area host.site) u m → EndMoment new u m → WritesOnly host (ToDrop key slices force) memory t m
  end_writes key slices force first kept last = (
    kept_outside_more (site_area host.site) t u m first.0 kept,
    kept_outside_more (joined (opened_area memory.opened) (dropped_area host.drives memory.opened slices)) t u m first.1
        (kept_outside_wider (seats_area new.seats) (joined (opened_area memory.opened) (dropped_area host.drives memory.opened slices)) u m (λ drive block out.
        seats drive block (subst (λ (x : Option Opened). opened_area x drive block ≡ false) opened (either_left (opened_area memory.opened drive block) (dropped_area host.drives memory.opened slices drive block) out))) last.quiet.outside),
  )

same_place_at : (a b : PlaceAt) → ◌≡◌ {A = Option PlaceAt} (Some a) (Some b) → a ≡ b
same_place_at a b same = cc (same)

-- A change of places writes on the slices where the host's replicas may lie.
module _ (host : Host) (sizes : List ℕ) (ready : IsReady host sizes) (o : Opened) (asked : Asks) (placed : IsOfGeometry host.drives (both_of o asked).table) (seated : (drive block : ℕ) → site_area host.site drive block ≡ false → seats_area o.seats drive block ≡ false) where
  abbrev was : List Place
  was = list_of o

  lists : IsListsOf host.drives (Two was (list_after asked was))
  lists = placed.lists

  -- the slice of a listed place is one of those
  line_of : (p : Place) (at : SliceAt) → Contains was p → slice_at host.drives.slices p.slice ≡ Some at → Contains host.site.lines (record { name = p.slice; at = at }) × (16 ≤ p.start) × (p.start + 16 ≤ at.blocks)
  line_of p at has is =
      let of : IsPlaceOf host.drives p = placed_of host.drives ready.sound was (list_after asked was) lists p has in
      let start = (starts_of host.drives ready.sound was (list_after asked was) lists p has).0 in
      let same : of.at ≡ at = some_at of.at at (sym ((slice_at-some host.drives p.slice of.at ready.sound).1 of.has) ∙ is) in
      let within : p.start + p.blocks ≤ at.blocks = subst (λ (x : SliceAt). p.start + p.blocks ≤ x.blocks) same of.lies.within in
      let least = of.lies.least in (
        asked_sites host sizes ready (p.slice ∷ [])
            (λ slice one. subst (λ (s : SliceName). is_plain (slice_at host.drives.slices s) ≡ false) (only slice one) (ap is_plain is ∙ ap not (subst (λ (x : SliceAt). x.db ≡ true) same of.lies.db)))
            (λ slice one. subst (λ (s : SliceName). meets_db host.drives s ≡ false) (only slice one) of.clear) (record { name = p.slice; at = at })
            (subst (λ (l : List SliceLine). Contains l (record { name = p.slice; at = at })) (sym (flat_map-cons (λ (s : SliceName). line_at s (slice_at host.drives.slices s)) p.slice []))
            (subst (λ (x : Option SliceAt). Contains (line_at p.slice x ++ []) (record { name = p.slice; at = at })) (sym is) (contains_first (record { name = p.slice; at = at }) [])))
            (omega (arith, start, least, within)),
        start,
        omega (arith, least, within),
      )
    where
      some_at : (a b : SliceAt) → ◌≡◌ {A = Option SliceAt} (Some a) (Some b) → a ≡ b
      some_at a b same = cc (same)

      only : (slice : SliceName) → Contains (p.slice ∷ []) slice → p.slice ≡ slice
      only slice one = elim (first_or_behind p.slice slice [] one) [ inl here ↦ here | inr none ↦ absurd (omega (arith, none.1)) ]

  -- each of its masters lies there
  masters_site : (drive block : ℕ) → site_area host.site drive block ≡ false → masters_area host.drives (dropped asked was) drive block ≡ false
  masters_site drive block out = each_master host.drives drive block (dropped asked was) (λ p at has is. by p (slice_at host.drives.slices p.slice) refl at (dropped_one asked was p has) is) where
    by : (p : Place) (found : Option SliceAt) → slice_at host.drives.slices p.slice ≡ found → (at : PlaceAt) → Contains was p → found_at p found ≡ Some at → master_area at drive block ≡ false
    by p None none at has is = absurd (cc (is))
    by p (Some s) some at has is =
        let line = line_of p s has some in
        let start = line.1 in
        let end = line.2 in
        let one : place_in s p ≡ at = same_place_at (place_in s p) at is in
        subst (λ (x : PlaceAt). master_area x drive block ≡ false) one
        (within_range s.drive.0 (s.start + p.start) 1 (s.start + 16) (s.blocks - 16) drive block (omega (arith, start)) (omega (arith, start, end)) (out_of_line host.site drive block (record { name = p.slice; at = s }) line.0 out))

  -- the slices that get more have room, and lie there
  abbrev pub HaveRoom : Asks → Type 0
  HaveRoom (Adds lines count blocks) = (line : SliceLine) → Contains lines line → Contains host.site.lines line × (16 + count * blocks ≤ line.at.blocks)
  HaveRoom (Drops slices) = Unit {0}
  HaveRoom KeepsFirst = Unit {0}

  added_site : (a : Asks) → HaveRoom a → (drive block : ℕ) → site_area host.site drive block ≡ false → seats_area (seats_added o a) drive block ≡ false
  added_site (Adds lines count blocks) room drive block out =
      outside_added o lines count blocks drive block (outside_places host.site lines count blocks (λ line has. (room line has).0) (λ line has. (room line has).1) drive block out)
  added_site (Drops slices) room drive block out = refl
  added_site KeepsFirst room drive block out = refl

  pub moved_site : HaveRoom asked → (t m : Tale) → MoveMoment host.drives o asked t m → KeptOutside (site_area host.site) t m
  moved_site room t m moment = kept_outside_wider (area_moved host.drives o asked) (site_area host.site) t m (λ drive block out.
      outside_moved host.drives o asked drive block (seated drive block out) (added_site asked room drive block out) (masters_site drive block out)) moment.quiet.outside
