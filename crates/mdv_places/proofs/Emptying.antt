-- The masters of places that the newest version doesn't list are blanked, one after another, as far as they come.
use Rattle.std.proofs.Common.{◌≡◌, ◌⊎◌, inl, inr, ⊎_elim, ℕ, ◌+◌, ◌-◌, ◌*◌, ◌<◌, ◌≤◌, true, false, List, [], ◌∷◌, ◌++◌, map, Contains, refl, sym, ◌∙◌, ap, subst, arith}
use Rattle.std.proofs.lemmas.Bool.{cases_lt, false≢true, or_cases, or_parts}
use Rattle.std.proofs.lemmas.List.Elements.{Contains-append_cases}
use Rattle.std.specs.List.{list_any}
use Rattle.mdv_acts.proofs.Members.{contains_behind, contains_first, first_or_behind}
use Rattle.mdv_acts.specs.Wipes.{AreTrying, MayBeWiping, place_in}
use Rattle.mdv_look.specs.Quiet.{IsQuiet}
use Rattle.mdv_look.proofs.Quiet.{quiet_more, quiet_same, quiet_wider}
use Rattle.mdv_name.specs.Sound.{IsSound}
use Rattle.mdv_quorum.specs.declared.event.Event.TheVariants.{Wiped}
use Rattle.mdv_encoding.specs.Parsing.{read_of}
use Rattle.mdv_replica.specs.Form.{other_slot}
use Rattle.mdv_replica.specs.Forms.{block_of}
use Rattle.mdv_replica.specs.Images.{MayWipe, SameOutside, Wipes}
use Rattle.mdv_replica.specs.Replica.{Wiping}
use Rattle.mdv_replica.proofs.Leaving.{leaves_settling}
use Rattle.mdv_shelf.specs.Everywhere.{Leaves}
use Rattle.mdv_shelf.proofs.Frame.{before_range}
use Rattle.mdv_shown.specs.Shown.{IsNewestOf}
use Rattle.mdv_shown.specs.Below.{IsMasterAt, Master}
use Rattle.mdv_shown.specs.Site.{line_area, place_on, size_on}
use Rattle.mdv_shown.specs.Wipes.{spots_behind}
use Rattle.mdv_shown.proofs.Elsewhere.{found_kept, one_master, places_step}
use Rattle.mdv_shown.proofs.Rewritten.{body_within}
use Rattle.mdv_shown.proofs.Sites.{site_is}
use Rattle.mdv_shown.proofs.Slots.{shows_kept}
use Rattle.mdv_standing.specs.Below.{Core, is_in, last_number}
use Rattle.mdv_standing.specs.Placing.{AllLie, AreWipedOrNone, IsIdle, LieInFront}
use Rattle.mdv_standing.specs.PlacesTracing.{IsAnswered}
use Rattle.mdv_standing.specs.Rest.{RestMayBeTaken}
use Rattle.mdv_standing.specs.Worlds.{IsReadyWith, IsWorld, Turned}
use Rattle.mdv_standing.proofs.Blanking.{taken_before}
use Rattle.mdv_standing.proofs.Clearing.{world_rests}
use Rattle.mdv_standing.proofs.Naming.{unlisted_named}
use Rattle.mdv_standing.proofs.Taking.{last_version, some_table}
use Rattle.mdv_standing.proofs.Tracing.{trace_by, trace_here, trace_more}
use Rattle.mdv_standing.proofs.Unlisting.{unlisted_wiping}
use Rattle.mdv_standing.proofs.Within.{line_still, wipe_within}
use Rattle.mdv_config.specs.Lists.{first_of, last_of, places_of}
use Rattle.mdv_store.specs.Below.{Database, Event, Everywhere, Geometry, Identity, Image, IsOwn, Key, Log, Mark, Replica, RestStands, Site, SliceLine, Slot, Spot, Table, Tale, Traces, Version, at_of, lists_of_spots, is_named, same_spot, site_of}
use Rattle.mdv_store.specs.Blank.{IsBlank, StayBlank}
use Rattle.mdv_store.specs.Records.{Spells}
use Rattle.mdv_store.specs.Seats.{AreNamed, IsShown, drive_of, replicas_of, spot_of, spots_of}
use Rattle.mdv_store.proofs.Blanks.{blank_before}
use Rattle.mdv_store.proofs.Passes.{unmapped}
use Rattle.mdv_votes.proofs.Meeting.{same_is}
use Rattle.mdv_places.specs.Below.{Area, Lists, One, Place, PlaceAt, Seat}
use Rattle.mdv_places.specs.Moments.{IsWiping, master_area}
use Rattle.mdv_places.proofs.Blanking.{IsDue, as_any, as_number, due_still, rest_wiped, wiped_before}

-- a place on a slice on which a boot of the key looks, behind the blocks in front of the first one
pub record IsSpotted (site : Site) (a : PlaceAt) : Type 0 where
  pub line : SliceLine
  pub one_of : Contains site.lines line
  pub is : a ≡ place_in line.at a.place
  pub slice : a.place.slice ≡ line.name
  pub from : 16 ≤ a.place.start
  pub to : a.place.start < line.at.blocks

abbrev pub AreSpotted : Site → List PlaceAt → Type 0
AreSpotted site places = (a : PlaceAt) → Contains places a → IsSpotted site a

-- What each of them leaves stays, as far as they come.
module _ (places : List PlaceAt) (P : Tale → Type 0) (step : (a : PlaceAt) (u v : Tale) → Contains places a → P u → Wiping a u v → P v) where
  may_step : (a : PlaceAt) (u v : Tale) → Contains places a → P u → MayBeWiping a u v → P v
  may_step a u v has so (inl same) = subst P (sym same) so
  may_step a u v has so (inr goes) = step a u v has so goes

  from_here : (rest : List PlaceAt) → ((a : PlaceAt) → Contains rest a → Contains places a) → (u m : Tale) → P u → AreTrying rest u m → P m
  from_here [] some u m so is = subst P (sym is) so
  from_here (a ∷ rest) some u m so (inl here) = may_step a u m (some a (contains_first a rest)) so here
  from_here (a ∷ rest) some u m so (inr behind) =
      from_here rest (λ b has. some b (contains_behind a b rest has)) behind.0 m (may_step a u behind.0 (some a (contains_first a rest)) so behind.1) behind.2

  pub trying : (u m : Tale) → P u → AreTrying places u m → P m
  trying u m so is = from_here places (λ a has. has) u m so is

-- Nothing is done but to their masters.
module _ (places : List PlaceAt) where
  one_area : (a : PlaceAt) (ps : List PlaceAt) → Contains ps a → (drive block : ℕ) → list_any (λ (b : PlaceAt). master_area b drive block) ps ≡ false → master_area a drive block ≡ false
  one_area a [] has drive block out = absurd (omega (arith, has.1))
  one_area a (x ∷ xs) has drive block out = elim (first_or_behind x a xs has) [
    | inl here ↦ subst (λ (b : PlaceAt). master_area b drive block ≡ false) here (or_parts _ _ out).0
    | inr behind ↦ one_area a xs behind drive block (or_parts _ _ out).1
  ]

  abbrev pub masters : Area
  masters drive block = list_any (λ (b : PlaceAt). master_area b drive block) places

  pub wipes_quiet : (u m : Tale) → AreTrying places u m → IsQuiet masters u m
  wipes_quiet u m is = trying places (IsQuiet masters u) (λ a v w has so wiping. quiet_more masters u v w so (quiet_wider (master_area a) masters v w (one_area a places has) (record { outside = wiping.outside; quiet = wiping.quiet })))
      u m (quiet_same masters u) is

-- what is blanked at a place, in an image
leaves_at : (site : Site) (a : PlaceAt) (s : IsSpotted site a) (u v : Tale) → Wiping a u v → Leaves (MayWipe (place_in s.line.at a.place)) u v
leaves_at site a s u v wiping = subst (λ (x : PlaceAt). Leaves (MayWipe x) u v) s.is (leaves_settling a.drive.0 a.first (block_of []) u v wiping)

-- those of a list's events
abbrev pub AreWipes : List Event → Type 0
AreWipes es = (e : Event) → Contains es e → IsWiping e

pub no_wipes : AreWipes []
no_wipes e has = absurd (omega (arith, has.1))

pub more_wipes : (es fs : List Event) → AreWipes es → AreWipes fs → AreWipes (es ++ fs)
more_wipes es fs first second e has = elim (Contains-append_cases es fs e has) [ inl here ↦ first e here | inr there ↦ second e there ]

wiped_or_none : (spots : List Spot) (es : List Event) → AreWipedOrNone spots es → AreWipes es
wiped_or_none spots es (inl none) = subst AreWipes (sym none) no_wipes
wiped_or_none spots es (inr all) = subst AreWipes (sym all) (λ e has. (let one = unmapped Wiped spots e has in (one.0, sym one.2)))

-- a spot of some seats is that of one of their replicas
among_spots : (rs : List Replica) (q : Spot) → is_in (map spot_of rs) q ≡ true → (r : Replica) × Contains rs r × (spot_of r ≡ q)
among_spots [] q is = absurd (false≢true is)
among_spots (r ∷ rs) q is = elim (or_cases (same_spot (spot_of r) q) (is_in (map spot_of rs) q) is) [
  | inl here ↦ (r, contains_first r rs, same_is (spot_of r) q here)
  | inr there ↦ (let one = among_spots rs q there in (one.0, contains_behind r one.0 rs one.1, one.2))
]

pub spots_named : (site : Site) (table : Table) (seats : List Seat) → AreNamed site table seats → (q : Spot) → is_in (spots_of seats) q ≡ true → is_named (lists_of_spots site table.plan.lists) q ≡ true
spots_named site table seats named q has = (let one = among_spots (replicas_of seats) q has in subst (λ (s : Spot). is_named (lists_of_spots site table.plan.lists) s ≡ true) one.2 (named one.0 one.1))

module _ (g : Geometry) (sound : IsSound g) (key : Key) (places : List PlaceAt) (spotted : AreSpotted (site_of g key) places) where
  abbrev site : Site
  site = site_of g key

  -- where the slices that they lie on lead, whatever a crash leaves
  abbrev pub AreDue : Image → Type 0
  AreDue image = (a : PlaceAt) (has : Contains places a) → IsDue site image (spotted a has).line a.place.start

  leaves : (a : PlaceAt) (has : Contains places a) (u v : Tale) → Wiping a u v → Leaves (MayWipe (place_in (spotted a has).line.at a.place)) u v
  leaves a has = leaves_at site a (spotted a has)

  due_step : (a : PlaceAt) (u v : Tale) → Contains places a → Everywhere AreDue u → Wiping a u v → Everywhere AreDue v
  due_step a u v has due wiping image is b one =
      let from = leaves a has u v wiping image is in
      due_still (place_in (spotted a has).line.at a.place) from.0 image from.2 site (spotted b one).line b.place.start (due from.0 from.1 b one)

  module _ (t : Tale) (due : Everywhere AreDue t) where
    pub still_due : (m : Tale) → AreTrying places t m → Everywhere AreDue m
    still_due m is = trying places (Everywhere AreDue) due_step t m due is

    -- What is known beside.
    module _ (P : Tale → Type 0) (step : (a : PlaceAt) (has : Contains places a) (u v : Tale) → Everywhere AreDue u → P u → Leaves (MayWipe (place_in (spotted a has).line.at a.place)) u v → P v) where
      pub trying_due : (m : Tale) → P t → AreTrying places t m → P m
      trying_due m so is = (trying places (λ u. Everywhere AreDue u × P u) (λ a u v has both wiping. (due_step a u v has both.0 wiping, step a has u v both.0 both.1 (leaves a has u v wiping))) t m (due, so) is).1

    -- The others.
    module _ (identity : Identity) where
      pub wipes_blank : (m : Tale) → AreTrying places t m → StayBlank g identity t m
      wipes_blank m is ask other another blank = trying_due (IsBlank g ask other) (λ a has u v due so leaves image is.
          let from = leaves image is in
          let s = spotted a has in
          blank_before g from.0 image (wiped_before s.line a.place from.0 image from.2 g sound key s.one_of s.from s.to (due from.0 from.1 a has)) ask other (so from.0 from.1)) m blank is

      module _ (all : List Database) where
        pub record AreRest (u : Tale) : Type 0 where
          pub rest : RestStands (Spells g) g all identity u
          pub taken : (a : PlaceAt) (has : Contains places a) → RestMayBeTaken (Spells g) g all identity (spotted a has).line u

        pub wipes_rest : (m : Tale) → AreRest t → AreTrying places t m → RestStands (Spells g) g all identity m
        wipes_rest m so is = (trying_due AreRest (λ a has u v due so leaves. rest_step a has u v due so leaves) m so is).rest where
          rest_step : (a : PlaceAt) (has : Contains places a) (u v : Tale) → Everywhere AreDue u → AreRest u → Leaves (MayWipe (place_in (spotted a has).line.at a.place)) u v → AreRest v
          rest_step a has u v due so leaves =
              let s = spotted a has in
              record {
                rest = λ image is. (let from = leaves image is in rest_wiped s.line a.place from.0 image from.2 g sound key s.one_of s.from s.to (due from.0 from.1 a has) all identity (so.rest from.0 from.1) (so.taken a has from.0 from.1));
                taken = λ b one image is d of_rest.
                    let from = leaves image is in
                    taken_before (Spells g) g from.0 image (wiped_before s.line a.place from.0 image from.2 g sound key s.one_of s.from s.to (due from.0 from.1 a has)) (spotted b one).line d (so.taken b one from.0 from.1 d of_rest);
              }

    -- The worlds, where the newest version, whose write was answered, has one list, and of that none on these slices but in front of each.
    module _ (identity : Identity) (log : Log) (v : Version) (took : List Spot) (answered : IsAnswered site log v took) (list : List Place) (one : v.table.plan.lists ≡ One list)
        (front : (a : PlaceAt) (has : Contains places a) → (q : Place) → Contains list q → q.slice ≡ (spotted a has).line.name → q.start < a.place.start) where
      abbrev pub WipesTrace : Tale → Type 0
      WipesTrace m = Traces (Spells g) site identity log log (IsReadyWith took) AreWipes (IsReadyWith took) t m

      listed : (lists : Lists) (q : Place) → lists ≡ One list → Contains (first_of lists) q ⊎ Contains (last_of lists) q → Contains (places_of lists) q × Contains list q
      listed lists q is in_it = subst (λ (l : Lists). Contains (first_of l) q ⊎ Contains (last_of l) q → Contains (places_of l) q × Contains list q) (sym is) (λ has. ⊎_elim (λ here. (here, here)) (λ here. (here, here)) has) in_it

      all_lie : (w : Core) (image : Image) → IsWorld (Spells g) site identity log w image → AllLie site v
      all_lie w image world q in_it =
          let m = world.matches in
          let some = some_table site log w m v answered.older answered.newest in
          (m.each (last_number w) (omega (arith, some))).lie q (subst (λ (x : Version). Contains (places_of x.table.plan.lists) q) (sym (last_version site log w m v answered.older answered.newest)) (listed v.table.plan.lists q one in_it).0)

      in_front : (a : PlaceAt) (has : Contains places a) → LieInFront v (spotted a has).line a.place.start
      in_front a has q in_it same = front a has q (listed v.table.plan.lists q one in_it).1 same

      turned : (a : PlaceAt) (has : Contains places a) (w : Core) (old new : Image) → IsDue site old (spotted a has).line a.place.start → IsWorld (Spells g) site identity log w old → IsReadyWith took w
          → MayWipe (place_in (spotted a has).line.at a.place) old new → Turned (Spells g) site identity log w new AreWipes (IsReadyWith took)
      turned a has w old new (inl none) world known change =
          let s = spotted a has in
          let from = s.from in
          let to = s.to in
          record {
            events = [];
            are = no_wipes;
            may = tt;
            world = world_rests (read_of g) site identity log w old new s.line (a.place.start - 16) 1 1 answered.site_is s.one_of (omega (arith, from, to)) none (as_any s.line a.place old new change from) world;
            known = known;
          }
      turned a has w old new (inr n) world known change =
          let s = spotted a has in
          let idle : IsIdle (Spells g) site identity log w old v took = record { site_is = answered.site_is; lines = answered.lines; world = world; older = answered.older; newest = answered.newest; written = answered.written; known = known; named = answered.named } in
          let within : 16 + n.number * n.first.blocks < s.line.at.blocks = subst (λ (k : ℕ). k < s.line.at.blocks) n.is s.to in
          let unlisted = unlisted_named site answered.site_is answered.lines v (all_lie w old world) s.line s.one_of old n.number n.first n.has within (subst (LieInFront v s.line) n.is (in_front a has)) in
          let to = unlisted_wiping (Spells g) site identity log w old new v took s.line n.number n.first idle unlisted (as_number s.line a.place old new change n.first.blocks n.first.count n.number n.is) in
          record { events = to.events; are = wiped_or_none (spots_behind s.line n.first n.number) to.events to.are; may = to.may; world = to.world; known = to.known }

      pub wipes_trace : (m : Tale) → AreTrying places t m → WipesTrace m
      wipes_trace m is = trying_due WipesTrace (λ a has u x due so leaves.
          trace_more (Spells g) site identity log log log (IsReadyWith took) (IsReadyWith took) (IsReadyWith took) AreWipes AreWipes AreWipes t u x more_wipes so
          (trace_by (Spells g) site identity (MayWipe (place_in (spotted a has).line.at a.place)) log log (IsReadyWith took) AreWipes (IsReadyWith took) u x leaves
          (λ w old new from world known change. turned a has w old new (due old from a has) world known change))) m
          (trace_here (Spells g) site identity log log (IsReadyWith took) AreWipes (IsReadyWith took) t (λ w image from world known. record { events = []; are = no_wipes; may = tt; world = world; known = known })) is

    -- The replicas of the database that lie on other slices, or in front of each.
    module _ (identity : Identity) (r : Replica) (front : (a : PlaceAt) (has : Contains places a) → r.line ≡ (spotted a has).line → (at_of r).place.start < a.place.start) where
      abbrev Own : Image → Type 0
      Own image = IsOwn (Spells g) site identity r.line r.number image r.first r.head

      module _ (a : PlaceAt) (has : Contains places a) (old new : Image) (own : Own old) (lies : IsDue site old (spotted a has).line a.place.start) (change : MayWipe (place_in (spotted a has).line.at a.place) old new) where
        abbrev s : IsSpotted site a
        s = spotted a has

        outside : SameOutside (line_area s.line) old new
        outside = (let from = s.from in let to = s.to in wipe_within s.line 1 (a.place.start - 16) 1 old new (omega (arith, from, to)) (as_any s.line a.place old new change from))

        before_it : (block : ℕ) → block < s.line.at.start + a.place.start → new s.line.at.drive.0 block ≡ old s.line.at.drive.0 block
        before_it block below = ⊎_elim (λ same. same s.line.at.drive.0 block) (λ (wipes : Wipes (place_in s.line.at a.place) old new). wipes.elsewhere s.line.at.drive.0 block (before_range s.line.at.drive.0 (s.line.at.start + a.place.start) 1 block below)) change

        -- it ends in front of that place
        ends_before : r.line ≡ s.line → r.line.at.start + (16 + r.number * r.first.blocks) + r.first.blocks ≤ s.line.at.start + a.place.start
        ends_before same = elim lies [
          | inl none ↦ absurd (none r.first (subst (λ (l : SliceLine). IsMasterAt (place_on l 8192 0 0) (size_on site l) (old l.at.drive.0 (l.at.start + 16)) r.first) same own.found.located))
          | inr n ↦
              let located = subst (λ (l : SliceLine). IsMasterAt (place_on l 8192 0 0) (size_on site l) (old l.at.drive.0 (l.at.start + 16)) r.first) same own.found.located in
              let one : r.first ≡ n.first = one_master s.line (size_on site s.line) (old s.line.at.drive.0 (s.line.at.start + 16)) r.first n.first located n.has.located in
              let blocks : r.first.blocks ≡ n.first.blocks = ap (λ (m : Master). m.blocks) one in
              let low : 16 + r.number * r.first.blocks < a.place.start = front a has same in
              let at : a.place.start ≡ 16 + n.number * r.first.blocks = n.is ∙ ap (λ (b : ℕ). 16 + n.number * b) (sym blocks) in
              let start : r.line.at.start ≡ s.line.at.start = ap (λ (l : SliceLine). l.at.start) same in
              elim (cases_lt r.number n.number) [
                | inl less ↦ (let step = places_step r.number n.number r.first.blocks less in omega (arith, step, at, start))
                | inr more ↦ (let up = row_least n.number r.number r.first.blocks more in absurd (omega (arith, up, at, low)))
              ]
        ]
          where
            row_least : (x y n : ℕ) → x ≤ y → x * n ≤ y * n
            row_least x y n le = elim (cases_lt x y) [
              | inl less ↦ (let step = places_step x y n less in omega (arith, step))
              | inr more ↦ (let same : x ≡ y = omega (arith, le, more) in subst (λ (z : ℕ). x * n ≤ z * n) same (omega arith))
            ]

        kept : (block : ℕ) → r.line.at.start + 16 ≤ block → block < r.line.at.start + (16 + r.number * r.first.blocks) + r.first.blocks → new r.line.at.drive.0 block ≡ old r.line.at.drive.0 block
        kept block low high = elim ((site_is g key sound).apart s.line r.line s.one_of own.found.one_of) [
          | inr apart ↦ (let fits = own.found.within in line_still s.line r.line apart old new outside block (omega (arith, low)) (omega (arith, high, fits)))
          | inl same ↦
              let ends = ends_before (sym same) in
              let drive : s.line.at.drive.0 ≡ r.line.at.drive.0 = ap (λ (l : SliceLine). l.at.drive.0) same in
              subst (λ (d : ℕ). new d block ≡ old d block) drive (before_it block (omega (arith, high, ends)))
        ]

        own_stays : Own new
        own_stays = record { found = found_kept (Spells g) site r.line (old r.line.at.drive.0) (new r.line.at.drive.0) r.first r.number r.head kept own.found; of_identity = own.of_identity }

        shown_stays : (mark : Mark) (table : Table) (slot : Slot) → IsNewestOf (Spells g) (at_of r) (old (drive_of r)) r.head slot mark table → IsNewestOf (Spells g) (at_of r) (new (drive_of r)) r.head slot mark table
        shown_stays mark table slot was =
            let least : 16 ≤ r.first.blocks = own.found.located.lies.least in
            record {
              shows = shows_kept (Spells g) (at_of r) (old (drive_of r)) (new (drive_of r)) r.head r.head slot mark table refl (λ block from to. (let w = body_within (at_of r) slot block least from to in kept block (omega (arith, w.0)) w.1)) was.shows;
              last = λ other x it. was.last other x
                  (shows_kept (Spells g) (at_of r) (new (drive_of r)) (old (drive_of r)) r.head r.head (other_slot slot) other x refl (λ block from to. (let w = body_within (at_of r) (other_slot slot) block least from to in sym (kept block (omega (arith, w.0)) w.1))) it);
            }

      pub wipes_own : (m : Tale) → Everywhere Own t → AreTrying places t m → Everywhere Own m
      wipes_own m so is = trying_due (Everywhere Own) (λ a has u v due mine leaves image here. (let from = leaves image here in own_stays a has from.0 image (mine from.0 from.1) (due from.0 from.1 a has) from.2)) m so is

      pub wipes_shown : (mark : Mark) (table : Table) (m : Tale) → Everywhere Own t → IsShown g mark table r t → AreTrying places t m → IsShown g mark table r m
      wipes_shown mark table m so shown is = (trying_due (λ u. Everywhere Own u × IsShown g mark table r u) (λ a has u v due both leaves. (
        λ image here. (let from = leaves image here in own_stays a has from.0 image (both.0 from.0 from.1) (due from.0 from.1 a has) from.2),
        record {
          slot = both.1.slot;
          each = λ image here. (let from = leaves image here in shown_stays a has from.0 image (both.0 from.0 from.1) (due from.0 from.1 a has) from.2 mark table both.1.slot (both.1.each from.0 from.1));
        },
      )) m (so, shown) is).1
