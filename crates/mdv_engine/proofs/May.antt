-- Where nothing refuses it places may come and go: what a change of places asks of an open database is so.
use Rattle.std.proofs.Common.{◌≡◌, inl, inr, ◌+◌, ◌*◌, ◌<◌, ◌≤◌, ◌^◌, not, ℕ, Bool, true, false, List, [], ◌∷◌, ◌++◌, Contains, Option, Some, None, ap, arith, flat_map, length, length-append, refl, subst, sym, take, ◌∙◌}
use Rattle.std.specs.Prelude.{◌==◌, AllPairs, is_some, slice_index_or}
use Rattle.std.proofs.lemmas.Bool.{false≢true}
use Rattle.std.proofs.lemmas.Bool.Decides.{nat_tests}
use Rattle.std.proofs.lemmas.List.{length-map}
use Rattle.std.proofs.lemmas.List.Elements.{All-contains}
use Rattle.std.proofs.lemmas.List.Filters.{length-filter_both}
use Rattle.std.proofs.lemmas.List.Kept.{AllPairs-filter}
use Rattle.mdv_acts.specs.Asked.{AreAsked}
use Rattle.mdv_acts.specs.Wipes.{AreLaidOn, place_in}
use Rattle.mdv_plan.specs.declared.lists.Lists.TheVariants.{Two as TwoLists}
use Rattle.mdv_fields.specs.Sets.{are_spaced}
use Rattle.mdv_name.proofs.Finding.{same_slice-refl, slice_at-some}
use Rattle.mdv_plan.specs.Slices.{meets_db}
use Rattle.mdv_places.proofs.Adding.{added_slice, asked_places}
use Rattle.mdv_places.specs.Asked.{Adds, AreAskedOn, Asks, Drops, KeepsFirst, is_on, list_after, names_of, places_asked}
use Rattle.mdv_places.specs.Changing.{AreFree, IsEnough, MayMove, both_of}
use Rattle.mdv_places.specs.Moments.{AreOfSite, IsFront, MayShow}
use Rattle.mdv_replica.specs.Replica.{IsPlaced}
use Rattle.mdv_shown.specs.Site.{size_on}
use Rattle.mdv_store.proofs.Spotting.{asked_length as asked_length_of}
use Rattle.mdv_store.specs.Create.{seats_asked}
use Rattle.mdv_store.specs.Shares.{short_in}
use Rattle.mdv_store.specs.declared.seats.Need.TheVariants.{Half}
use Rattle.mdv_store_law.specs.Changes.{places_on}
use Rattle.mdv_config.specs.Lists.{last_of}
use Rattle.mdv_config.specs.Table.{IsPlaceOf, IsPlacesOf}
use Rattle.mdv_plan.specs.declared.lists.Lists.{Lists}
use Rattle.mdv_plan.specs.declared.lists.Lists.TheVariants.{One}
use Rattle.mdv_volumes.proofs.Lists.{contains_behind, contains_first, first_or_behind, in_filter}
use Rattle.mdv_words.specs.Line.{IsCount, IsLength}
use Rattle.mdv_engine_law.specs.Below.{Place}
use Rattle.mdv_engine_law.specs.Hosts.{line_at}
use Rattle.mdv_engine_law.specs.Places.{are_all, bytes_with, is_empty, list_less, list_more, list_of, or_first, room_with}
use Rattle.mdv_engine_law.specs.Refusals.{Case, has_replica, is_behind, is_plain, places_open, rest_of, told_of_others}
use Rattle.mdv_engine_law.proofs.Allowed.{allowed_apart, allowed_beside, allowed_lists, allowed_slice, dropped_enough, dropped_fits, dropped_front, fits_room, none_passes, not_not}
use Rattle.mdv_engine_law.proofs.Places.{asked_length, asked_line, asked_sites}
use Rattle.mdv_engine_law.proofs.Placing.{asked as line_asked, asked_on_site, asked_placed}
use Rattle.mdv_engine_law.proofs.Refusing.{opened_has}
use Rattle.mdv_engine.specs.Below.{AddPlaces, AreLaid, DropPlaces, Geometry, Host, IsAllowed, IsOfGeometry, IsOpenedAt, IsReady, Memory, Opened, Seat, Site, SliceAt, SliceLine, SliceName, Tale, identity_of, key_of, lines_asked, same_slice, site_of, slice_at}
use Rattle.mdv_engine.specs.Engine.{IsHeldBy, IsWell}
use Rattle.mdv_engine.proofs.Both.{both_fit, last_placed, more_placed, more_spaced, part_placed, part_spaced, starts_late}

module _ (host : Host) (sizes : List ℕ) (ready : IsReady host sizes) (memory : Memory) (well : IsWell host memory) (o : Opened) (opened : memory.opened ≡ Some o) where
  abbrev case : Case
  case = record { host = host; memory = memory }

  abbrev g : Geometry
  g = host.drives

  abbrev places : List Place
  places = list_of o

  pub held : IsHeldBy host o
  held = opened_has memory o (IsHeldBy host) opened well.database

  pub laid : AreLaid sizes o.seats
  laid = subst (λ (s : List ℕ). AreLaid s o.seats) ready.on_shelf.sizes_are held.laid

  -- it has one list
  pub one : o.table.plan.lists ≡ One places
  one = held.one.1 ∙ ap (λ (l : Lists). One (last_of l)) (sym held.one.1)

  pub was : IsPlacesOf g places
  was = last_placed g o.table.plan.lists held.of_geometry.lists

  -- each place lies on a slice of the host's site
  pub record IsOnLine (p : Place) : Type 0 where
    pub is : IsPlaceOf g p
    pub line : Contains host.site.lines (record { name = p.slice; at = is.at })

  pub on_line : (p : Place) → Contains places p → IsOnLine p
  on_line p has =
      let late = starts_late g places was p has in
      let room = is.lies.within in
      let least = is.lies.least in
      record {
        is = is;
        line = asked_sites host sizes ready (p.slice ∷ []) aside clear (record { name = p.slice; at = is.at }) among (omega (arith, late, room, least));
      }
    where
      is : IsPlaceOf g p
      is = All-contains (IsPlaceOf g) places p was.each has

      lies : slice_at g.slices p.slice ≡ Some is.at
      lies = (slice_at-some g p.slice is.at ready.sound).1 is.has

      only : (slice : SliceName) → Contains (p.slice ∷ []) slice → p.slice ≡ slice
      only slice among = elim (first_or_behind p.slice slice [] among) [ inl same ↦ same | inr none ↦ absurd (omega (arith, none.1)) ]

      aside : (slice : SliceName) → Contains (p.slice ∷ []) slice → is_plain (slice_at g.slices slice) ≡ false
      aside slice among = ap (λ (s : SliceName). is_plain (slice_at g.slices s)) (sym (only slice among)) ∙ ap is_plain lies ∙ ap not is.lies.db

      clear : (slice : SliceName) → Contains (p.slice ∷ []) slice → meets_db g slice ≡ false
      clear slice among = ap (meets_db g) (sym (only slice among)) ∙ is.clear

      among : Contains (lines_asked host (p.slice ∷ [])) (record { name = p.slice; at = is.at })
      among = subst (λ (found : Option SliceAt). Contains (line_at p.slice found ++ []) (record { name = p.slice; at = is.at })) (sym lies) (contains_first (record { name = p.slice; at = is.at }) [])

  -- and within its drive
  placed : AreLaidOn sizes g places
  placed p has = record { some = (there.is.at, there.is.has); placed = λ other found. subst (λ (x : SliceAt). IsPlaced sizes (place_in x p)) (ready.sound.once p.slice there.is.at other there.is.has found) lies } where
    there : IsOnLine p
    there = on_line p has

    lies : IsPlaced sizes (place_in there.is.at p)
    lies =
        let inside = subst (λ (s : List ℕ). there.is.at.start + there.is.at.blocks ≤ slice_index_or s there.is.at.drive.0 0) ready.on_shelf.sizes_are (ready.on_shelf.within (record { name = p.slice; at = there.is.at }) there.line) in
        let room = there.is.lies.within in
        record {
          drive = (ready.on_shelf.drives.each there.is.at.drive (ready.on_shelf.brought (record { name = p.slice; at = there.is.at }) there.line)).known;
          least = there.is.lies.least;
          within = omega (arith, inside, room);
          size = subst (λ (s : List ℕ). slice_index_or s there.is.at.drive.0 0 < 2 ^ 64) ready.on_shelf.sizes_are (ready.on_shelf.small (record { name = p.slice; at = there.is.at }) there.line);
        }

  -- so a change may be asked that adds places there are, and leaves some, and not too many
  may : (asked : Asks) → AreAskedOn sizes asked → AreFree asked places → 1 ≤ length (list_after asked places) → length (list_after asked places) ≤ 50 → IsEnough o asked → MayMove sizes g o asked
  may asked within free some few enough = record {
    sound = ready.sound;
    drives = ready.on_shelf.drives.few;
    one = (places, one);
    differ = was.differ;
    placed = placed;
    within = within;
    free = free;
    some = some;
    few = few;
    enough = enough;
  }

  -- the table with both lists is one of the table of drives
  fitting : (asked : Asks) → IsPlacesOf g (list_after asked places) → are_spaced (TwoLists places (list_after asked places)) ≡ true → IsOfGeometry g (both_of o asked).table
  fitting asked coming spaced = both_fit g ready.sound o.table places (list_after asked places) one held.of_geometry coming spaced

  pub may_show : (asked : Asks) → IsOfGeometry g (both_of o asked).table → AreOfSite g o asked → IsFront asked places → (t : Tale) → IsOpenedAt g o t → MayShow g o asked t
  may_show asked fit sites front t is = record { opened = is; of_geometry = fit; sites = sites; front = front }

  -- Places are added.
  module _ (slices : List SliceName) (force : Bool) (count blocks : ℕ) (free : IsAllowed case (AddPlaces slices force count blocks)) (some : 1 ≤ length slices) (more : IsCount count) (sized : IsLength blocks) where
    abbrev lines : List SliceLine
    lines = lines_asked host slices

    abbrev adding : Asks
    adding = Adds lines count blocks

    abbrev new : List Place
    new = places_asked lines count blocks

    pub are_asked : AreAsked sizes lines count blocks
    are_asked = line_asked case sizes ready slices force count blocks free some more.0 sized.0 sized.1

    pub on_site : (line : SliceLine) → Contains lines line → Contains host.site.lines line
    on_site = asked_on_site case sizes ready slices force count blocks free more.0 sized.0

    coming : IsPlacesOf g new
    coming = subst (λ (ps : List Place). IsPlacesOf g ps) (asked_places (key_of host) (identity_of host memory.begun) count blocks lines)
        (asked_placed case sizes ready slices force count blocks free some more.0 sized.0 sized.1 (identity_of host memory.begun)).lists

    -- on none of the slices a place lies
    free_of : (line : SliceLine) → Contains lines line → (p : Place) → Contains places p → p.slice ≡ line.name → ⊥
    free_of line has p in_it same =
        let is = asked_line host slices line has in
        let apart = subst (λ (x : Option Opened). has_replica x is.slice ≡ false) opened (allowed_apart case slices force count blocks free is.slice is.among) in
        let differs = none_passes (λ (q : Place). same_slice q.slice is.slice) places apart p in_it in
        false≢true (sym differs ∙ ap (same_slice p.slice) (sym (same ∙ is.named)) ∙ same_slice-refl p.slice)

    counted : length new ≡ length slices * count
    counted =
        ap (λ (ps : List Place). length ps) (sym (asked_places (key_of host) (identity_of host memory.begun) count blocks lines)) ∙ length-map (seats_asked (key_of host) (identity_of host memory.begun) lines count blocks) (λ (s : Seat). s.place)
        ∙ asked_length_of (key_of host) (identity_of host memory.begun) count blocks lines ∙ ap (λ (n : ℕ). n * count) (asked_length host slices (allowed_slice case slices force count blocks free))

    few : length (places ++ new) ≤ 50
    few =
        let all = subst (λ (x : Option Opened). length (places_open x) + length slices * count ≤ 50) opened (allowed_beside case slices force count blocks free) in
        let both = length-append places new in
        let each = counted in
        omega (arith, all, both, each)

    beside_those : (p q : Place) → Contains places p → Contains new q → p.slice ≡ q.slice → ⊥
    beside_those p q in_p in_q same = (let on = added_slice count blocks lines q in_q in free_of on.0 on.1 p in_p (same ∙ on.2))

    pub may_add : MayMove sizes g o adding
    may_add =
        let first = was.some in
        let both = length-append places new in
        may adding are_asked free_of (omega (arith, first, both)) few tt

    pub add_fits : IsOfGeometry g (both_of o adding).table
    add_fits = fitting adding (more_placed g places was new coming few beside_those) (more_spaced g places was new coming few beside_those)

    pub add_sites : AreOfSite g o adding
    add_sites line has =
        let site : host.site ≡ site_of g o.key = ready.site ∙ ap (site_of g) (sym held.its) in
        (subst (λ (s : Site). Contains s.lines line) site (on_site line has), subst (λ (s : Site). line.at.start + line.at.blocks ≤ size_on s line) site (ready.on_shelf.within line (on_site line has)))

    -- the names of the lines are the slices
    named : (names : List SliceName) → ((slice : SliceName) → Contains names slice → is_some (slice_at g.slices slice) ≡ true) → names_of (lines_asked host names) ≡ names
    named [] each = refl
    named (slice ∷ names) each = by (slice_at g.slices slice) (each slice (contains_first slice names)) (named names (λ other has. each other (contains_behind slice other names has))) where
      by : (found : Option SliceAt) → is_some found ≡ true → names_of (lines_asked host names) ≡ names → names_of (line_at slice found ++ lines_asked host names) ≡ slice ∷ names
      by (Some at) is rest = ap (λ (l : List SliceName). slice ∷ l) rest
      by None is rest = absurd (cc (is))

    pub add_room : bytes_with o (list_after adding places) ≤ room_with o (list_after adding places)
    add_room = subst (λ (names : List SliceName). bytes_with o (places ++ flat_map (places_on count blocks) names) ≤ room_with o (places ++ flat_map (places_on count blocks) names)) (sym (named slices (allowed_slice case slices force count blocks free)))
        (fits_room o (list_more slices count blocks places) (subst (λ (x : Option Opened). told_of_others x slices count blocks ≡ None) opened (allowed_lists case slices force count blocks free)))

  -- Places go.
  module _ (slices : List SliceName) (force : Bool) (free : IsAllowed case (DropPlaces slices force)) where
    abbrev rest : List Place
    rest = list_less slices places

    first_few : (ps : List Place) → length (take 1 ps) ≤ 1
    first_few [] = omega arith
    first_few (p ∷ ps) = omega arith

    -- some are left
    module _ (left : are_all o slices ≡ false) where
      still : rest_of o slices ≡ rest
      still = by rest left where
        by : (ps : List Place) → is_empty ps ≡ false → or_first ps places ≡ ps
        by [] is = absurd (cc (is))
        by (p ∷ ps) is = refl

      some_left : 1 ≤ length rest
      some_left = by rest left where
        by : (ps : List Place) → is_empty ps ≡ false → 1 ≤ length ps
        by [] is = absurd (cc (is))
        by (p ∷ ps) is = omega arith

      few_left : length rest ≤ 50
      few_left =
          let parts = length-filter_both (λ (p : Place). not (is_on slices p)) (λ (p : Place). not (not (is_on slices p))) (λ p. refl) places in
          let all = was.few in
          omega (arith, parts, all)

      of_rest : (p : Place) → Contains rest p → Contains places p
      of_rest p has = (in_filter (λ (q : Place). not (is_on slices q)) places p has).0

      differ_left : AllPairs (λ (p q : Place). p ≡ q → ⊥) rest
      differ_left = AllPairs-filter (λ (p q : Place). p ≡ q → ⊥) (λ (p : Place). not (is_on slices p)) places was.differ

      pub drop_enough : short_in Half o.seats rest ≡ None
      drop_enough = ap (short_in Half o.seats) (sym still) ∙ dropped_enough case o opened slices force free

      pub may_drop : MayMove sizes g o (Drops slices)
      may_drop = may (Drops slices) tt tt some_left few_left drop_enough

      pub drop_fits : IsOfGeometry g (both_of o (Drops slices)).table
      drop_fits = fitting (Drops slices) (part_placed g places was rest some_left few_left differ_left of_rest) (part_spaced g places was rest some_left few_left differ_left of_rest)

      pub drop_room : bytes_with o rest ≤ room_with o rest
      drop_room = subst (λ (ps : List Place). bytes_with o ps ≤ room_with o ps) still (dropped_fits case o opened slices force free)

    -- all go
    module _ (all : are_all o slices ≡ true) where
      abbrev first : List Place
      first = take 1 places

      sole : rest_of o slices ≡ first
      sole = by rest all where
        by : (ps : List Place) → is_empty ps ≡ true → or_first ps places ≡ first
        by [] is = refl
        by (p ∷ ps) is = absurd (cc (is))

      some_first : 1 ≤ length first
      some_first = by places was.some where
        by : (ps : List Place) → 1 ≤ length ps → 1 ≤ length (take 1 ps)
        by [] some = absurd (omega (arith, some))
        by (p ∷ ps) some = omega arith

      few_first : length first ≤ 50
      few_first = (let few = first_few places in omega (arith, few))

      of_first : (p : Place) → Contains first p → Contains places p
      of_first = by places where
        by : (ps : List Place) (p : Place) → Contains (take 1 ps) p → Contains ps p
        by [] p has = has
        by (q ∷ ps) p has = elim (first_or_behind q p [] has) [ inl same ↦ subst (Contains (q ∷ ps)) same (contains_first q ps) | inr none ↦ absurd (omega (arith, none.1)) ]

      differ_first : AllPairs (λ (p q : Place). p ≡ q → ⊥) first
      differ_first = λ i j d below lt. absurd (let few = first_few places in omega (arith, few, below, lt))

      pub keep_enough : short_in Half o.seats first ≡ None
      keep_enough = ap (short_in Half o.seats) (sym sole) ∙ dropped_enough case o opened slices force free

      pub may_keep : MayMove sizes g o KeepsFirst
      may_keep = may KeepsFirst tt tt some_first few_first keep_enough

      pub keep_fits : IsOfGeometry g (both_of o KeepsFirst).table
      keep_fits = fitting KeepsFirst (part_placed g places was first some_first few_first differ_first of_first) (part_spaced g places was first some_first few_first differ_first of_first)

      pub keep_front : IsFront KeepsFirst places
      keep_front = by places (dropped_front case o opened slices force free all) where
        by : (ps : List Place) → is_behind ps ≡ false → IsFront KeepsFirst ps
        by [] is = tt
        by (p ∷ ps) is = grind (arith, nat_tests, not_not (p.start == 16) is)

      pub keep_room : bytes_with o first ≤ room_with o first
      keep_room = subst (λ (ps : List Place). bytes_with o ps ≤ room_with o ps) sole (dropped_fits case o opened slices force free)
