-- What is given where places are added: the slices are free of the open database's places, and its newest version names none there.
use Rattle.std.proofs.Common.{◌≡◌, ◌⊎◌, inl, inr, ℕ, ◌+◌, ◌*◌, ◌<◌, ◌≤◌, ◌^◌, true, List, ◌++◌, length, slice_index_or, Contains, None, sym, ◌∙◌, ap, subst, arith}
use Rattle.std.proofs.lemmas.Bool.{or_right}
use Rattle.std.proofs.lemmas.List.{map-append}
use Rattle.std.proofs.lemmas.List.Folds.{Any-from_list_any}
use Rattle.mdv_acts.proofs.Asked.{within_line}
use Rattle.mdv_acts.specs.Asked.{AreAsked}
use Rattle.mdv_replica.specs.Forms.{name_of_key}
use Rattle.mdv_base.specs.Name.{IsName}
use Rattle.mdv_shelf.proofs.Everywhere.{last_image}
use Rattle.mdv_shelf.specs.Area.{AreApart}
use Rattle.mdv_shelf.specs.Everywhere.{Image}
use Rattle.mdv_shelf.specs.Tale.{last}
use Rattle.mdv_shown.proofs.Elsewhere.{in_range, range_has}
use Rattle.mdv_shown.proofs.Sites.{lines_apart, site_is}
use Rattle.mdv_shown.specs.Found.{IsOwn}
use Rattle.mdv_shown.specs.Site.{IsSite, line_area, size_on, spot_on}
use Rattle.mdv_shown.specs.declared.site.Site.{Site}
use Rattle.mdv_standing.proofs.Named.{line_found}
use Rattle.mdv_standing.proofs.Naming.{bare_named}
use Rattle.mdv_standing.proofs.Versions.{has_version}
use Rattle.mdv_standing.specs.Matching.{lists_of, spots_in, spots_of as lists_of_spots}
use Rattle.mdv_standing.specs.Placing.{AllLie, AreNamed, IsBare}
use Rattle.mdv_standing.specs.PlacesTracing.{IsAnswered}
use Rattle.mdv_standing.specs.Worlds.{IsWorld}
use Rattle.mdv_store.proofs.Given.{ArePairsApart, IsOwner, apart_for, given_for}
use Rattle.mdv_store.proofs.Passes.{unmapped}
use Rattle.mdv_store.proofs.Passing.{has_mapped}
use Rattle.mdv_store.proofs.Putting.{IsGiven}
use Rattle.mdv_store.proofs.Seated.{replica_is}
use Rattle.mdv_store.proofs.Shares.{some_enough}
use Rattle.mdv_store.proofs.Sitting.{seat_of, some_active}
use Rattle.mdv_store.proofs.Spotting.{asked_named, in_asked, in_right}
use Rattle.mdv_store.specs.Opened.{AreSeatsOf}
use Rattle.mdv_store.specs.Records.{Spells}
use Rattle.mdv_store.specs.Seats.{replica_area, spot_of}
use Rattle.mdv_store.specs.declared.seats.Need.TheVariants.{Half}
use Rattle.mdv_store_law.specs.Log.{Version}
use Rattle.mdv_config.specs.Lists.{first_of}
use Rattle.mdv_votes.proofs.Meeting.{same_is}
use Rattle.mdv_votes.specs.Spots.{is_in, is_named, same_spot}
use Rattle.mdv_places.specs.Asked.{places_asked}
use Rattle.mdv_places.specs.Below.{Core, Geometry, Identity, IsOpenedAt, Key, Lists, Log, Mark, One, Opened, Place, Replica, Seat, SliceLine, Spot, Table, Tale, Two, at_of, last_of, places_of, replicas_of, seats_area, seats_asked, shortage, site_of, spots_of}
use Rattle.mdv_places.specs.Moments.{IsLogOf}
use Rattle.mdv_places.proofs.Adding.{asked_places, place_of_seat}

-- The slices are some on which a boot of the key looks, and the one list of the open database has no place there.
pub record IsAddition (sizes : List ℕ) (g : Geometry) (old : Opened) (lines : List SliceLine) (count blocks : ℕ) (t : Tale) : Type 0 where
  pub asked : AreAsked sizes lines count blocks
  pub one : old.table.plan.lists ≡ One (last_of old.table.plan.lists)
  pub free : (line : SliceLine) → Contains lines line → (p : Place) → Contains (last_of old.table.plan.lists) p → p.slice ≡ line.name → ⊥
  pub seats : AreSeatsOf old.table old.seats
  pub half : shortage old ≡ None
  pub boot : old.mark.boot < 2 ^ 63
  pub small : old.mark.count + 1 < 2 ^ 63
  pub opened : IsOpenedAt g old t
  pub sites : (line : SliceLine) → Contains lines line → Contains (site_of g old.key).lines line
  pub laid : (line : SliceLine) → Contains lines line → line.at.start + line.at.blocks ≤ size_on (site_of g old.key) line

module _ (sizes : List ℕ) (g : Geometry) (old : Opened) (lines : List SliceLine) (count blocks : ℕ) (t : Tale) (a : IsAddition sizes g old lines count blocks t) where
  abbrev site : Site
  site = site_of g old.key

  abbrev olds : List Place
  olds = last_of old.table.plan.lists

  abbrev more : List Place
  more = places_asked lines count blocks

  abbrev added : List Seat
  added = seats_asked old.key old.identity lines count blocks

  pub ok : IsSite site
  ok = site_is g old.key a.opened.sound

  pub found : AreNamed site
  found line has = line_found g a.opened.sound old.key line has

  -- an active place says whose database it is
  first : (r : Replica) × Contains (replicas_of old.seats) r
  first = some_active old.seats (some_enough Half old.seats old.table a.seats a.half)

  pub own_of : (r : Replica) → Contains (replicas_of old.seats) r → IsOwn (Spells g) site old.identity r.line r.number (last t) r.first r.head
  own_of r has = a.opened.held.each r has (last t) (last_image t)

  owner : IsOwner old.key old.identity
  owner =
      let its = own_of first.0 first.1 in
      let form = its.found.here.readable.of_head.master in
      record {
        fresh = subst (λ (i : Identity). i.fresh < 2 ^ 64) its.of_identity form.fresh;
        number = subst (λ (i : Identity). i.number < 2 ^ 32) its.of_identity form.number;
        name = subst (λ (k : Key). IsName (name_of_key k)) its.found.of_key form.name;
      }

  pub given : IsGiven g old.key old.identity lines count blocks old.mark.boot
  given = given_for g old.key old.identity lines count blocks sizes owner a.asked a.opened.sound a.sites a.laid old.mark.boot a.boot

  pub pairs : ArePairsApart lines
  pairs = apart_for g old.key old.identity lines count blocks sizes owner a.asked a.opened.sound a.sites a.laid lines (λ line has. has) a.asked.once

  -- The active places lie on other slices.
  its_place : (r : Replica) → Contains (replicas_of old.seats) r → Contains olds (at_of r).place
  its_place r has =
      let s = seat_of old.seats r has in
      let listed : Contains (places_of old.table.plan.lists) s.0.place = subst (λ (l : List Place). Contains l s.0.place) a.seats.places (has_mapped place_of_seat old.seats s.0 s.1) in
      subst (Contains olds) (sym (a.seats.at s.0 r s.1 s.2)) (subst (λ (l : Lists). Contains (places_of l) s.0.place) a.one listed)

  pub line_beside : (r : Replica) → Contains (replicas_of old.seats) r → (line : SliceLine) → Contains lines line → AreApart (line_area line) (line_area r.line)
  line_beside r has line among = elim (lines_apart g a.opened.sound old.key old.key line r.line (a.sites line among) (own_of r has).found.one_of) [
    | inl same ↦ absurd (a.free line among (at_of r).place (its_place r has) (ap (λ (l : SliceLine). l.name) (sym same)))
    | inr apart ↦ apart
  ]

  -- a block of an added place is one of its slice
  in_line : (r : Replica) → Contains (replicas_of added) r → (drive block : ℕ) → replica_area r drive block ≡ true → (line : SliceLine) × Contains lines line × (line_area line drive block ≡ true)
  in_line r has drive block here =
      let one = replica_is old.key old.identity count blocks lines r has in
      let line = one.line in
      let fits = within_line line count blocks one.number (a.asked.within line one.among) one.lt in
      let its = in_range line.at.drive.0 (line.at.start + (16 + one.number * blocks)) blocks drive block (subst (λ (x : Replica). replica_area x drive block ≡ true) one.is here) in
      let from = its.1 in
      let to = its.2 in
      (line, one.among, subst (λ (d : ℕ). line_area line d block ≡ true) its.0 (range_has line.at.drive.0 line.at.start line.at.blocks block (omega (arith, from)) (omega (arith, to, fits))))

  pub added_apart : (r : Replica) → Contains (replicas_of old.seats) r → AreApart (seats_area added) (line_area r.line)
  added_apart r has drive block in_added in_old =
      let any = Any-from_list_any (λ (x : Replica). replica_area x drive block) (replicas_of added) in_added in
      let at = in_line any.1 (any.0, any.2, any.3) drive block any.4 in
      line_beside r has at.0 at.1 drive block at.2 in_old

  -- The table with both lists names each added place.
  pub names_added : (line : SliceLine) (k : ℕ) → Contains lines line → k < count → is_named (lists_of_spots site (Two olds (olds ++ more))) (spot_on line blocks k) ≡ true
  names_added line k among lt =
      let p = spot_on line blocks k in
      let asked : spots_in site more ≡ spots_of added = sym (ap (spots_in site) (asked_places old.key old.identity count blocks lines)) ∙ asked_named g a.opened.sound old.key old.identity count blocks lines a.sites in
      let new : spots_in site (olds ++ more) ≡ spots_in site olds ++ spots_in site more = map-append _ olds more in
      or_right (is_in (spots_in site olds) p) (is_in (spots_in site (olds ++ more)) p)
      (subst (λ (l : List Spot). is_in l p ≡ true) (sym new)
      (in_right (spots_in site olds) (spots_in site more) p (subst (λ (l : List Spot). is_in l p ≡ true) (sym asked) (in_asked old.key old.identity count blocks lines line k among lt))))

  -- Of the log's newest version.
  module _ (log : Log) (known : IsLogOf g old log) where
    abbrev v : Version
    v = known.newest.newest.version

    pub table_is : v.table ≡ old.table
    table_is = known.newest.newest.same

    pub claim_is : v.mark.boot ≡ old.mark.boot
    claim_is = ap (λ (m : Mark). m.boot) known.newest.newest.marked

    pub lists_are : v.table.plan.lists ≡ One olds
    lists_are = ap (λ (x : Table). x.plan.lists) table_is ∙ a.one

    pub small_count : v.mark.count + 1 < 2 ^ 63
    small_count = subst (λ (m : Mark). m.count + 1 < 2 ^ 63) (sym known.newest.newest.marked) a.small

    in_list : (place : Place) → Contains (first_of v.table.plan.lists) place ⊎ Contains (last_of v.table.plan.lists) place → Contains olds place
    in_list place has = elim has [
      | inl one ↦ subst (λ (l : Lists). Contains (first_of l) place) lists_are one
      | inr other ↦ subst (λ (l : Lists). Contains (last_of l) place) lists_are other
    ]

    -- each of its places lies on a slice of the site
    all_lie : (w : Core) (image : Image) → IsWorld (Spells g) site old.identity log w image → AllLie site v
    all_lie w image world place has =
        let i = has_version log.family v (0, subst (λ (l : List Version). 0 < length l) (sym known.newest.newest.family) (omega arith), ap (λ (l : List Version). slice_index_or l 0 v) known.newest.newest.family) in
        let its = world.matches.each i.0 (subst (λ (n : ℕ). i.0 < n) (sym world.matches.as_many) i.1) in
        its.lie place (subst (λ (x : Version). Contains (places_of x.table.plan.lists) place) (sym i.2) (subst (λ (l : Lists). Contains (places_of l) place) (sym lists_are) (in_list place has)))

    pub bare : (w : Core) (image : Image) → IsWorld (Spells g) site old.identity log w image → (line : SliceLine) → Contains lines line → IsBare site v line
    bare w image world line among =
        bare_named site ok found v (all_lie w image world) line (a.sites line among) (λ place has slice. absurd (a.free line among place (in_list place has) slice))

    named : (q : Spot) → is_in (spots_of old.seats) q ≡ true → is_named (lists_of site v) q ≡ true
    named q here =
        let any = Any-from_list_any (λ (s : Spot). same_spot s q) (spots_of old.seats) here in
        let r = unmapped spot_of (replicas_of old.seats) any.1 (any.0, any.2, any.3) in
        subst (λ (x : Table). is_named (lists_of_spots site x.plan.lists) q ≡ true) (sym table_is)
        (subst (λ (s : Spot). is_named (lists_of_spots site old.table.plan.lists) s ≡ true) (r.2 ∙ same_is any.1 q any.4) (a.opened.named r.0 r.1))

    -- for the log, and for one that has noted places
    pub answered : (next : Log) → next.family ≡ log.family → IsAnswered site next v (spots_of old.seats)
    answered next same = record { site_is = ok; lines = found; older = known.newest.newest.older; newest = same ∙ known.newest.newest.family; written = known.newest.written; named = named }
