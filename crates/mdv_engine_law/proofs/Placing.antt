-- A creation that nothing refuses is asked for places that there are, and the table that lists them is one of the table of drives.
use Rattle.std.proofs.Common.{◌≡◌, ◌+◌, ◌-◌, ◌*◌, ◌%◌, ◌<◌, ◌≤◌, ◌==◌, ◌&&◌, ◌^◌, ℕ, zero, suc, Bool, true, not, List, [], ◌∷◌, ◌++◌, length, map, All, Contains, refl, sym, ◌∙◌, ap, subst, arith, eq-eqb}
use Rattle.std.specs.Prelude.{AllPairs, nat_le, slice_index_or}
use Rattle.std.specs.List.{list_all}
use Rattle.std.proofs.Math.Nat.{mul-le-mul_right, mul-mod_left}
use Rattle.std.proofs.lemmas.Bool.{and_from, le-leb, ne_eqb, not_from_false, or_right}
use Rattle.std.proofs.lemmas.List.{length-map, map-append}
use Rattle.std.proofs.lemmas.List.Concat.{flat_map-cons}
use Rattle.std.proofs.lemmas.List.Elements.{All-append, All-cons, All-contains, All-nil}
use Rattle.std.proofs.lemmas.List.Sums.{list_all-from_AllPass}
use Rattle.mdv_fields.specs.Sets.{agrees, is_spaced, starts_well}
use Rattle.mdv_name.specs.SliceIndex.{same_slice}
use Rattle.mdv_shown.proofs.Elsewhere.{places_step}
use Rattle.mdv_acts.proofs.Asked.{few_of, start_short, within_line}
use Rattle.mdv_store.proofs.Sitting.{contains_behind, contains_first}
use Rattle.mdv_store.proofs.Spotting.{asked_length as seats_length}
use Rattle.mdv_acts.specs.Asked.{AreAsked}
use Rattle.mdv_store.specs.Create.{seats_asked, seats_on, table_of}
use Rattle.mdv_config.proofs.Pairs.{AllPairs-cons, AllPairs-first, AllPairs-rest}
use Rattle.mdv_config.specs.Table.{IsKindOf, IsOfGeometry, IsPlaceOf, volume_key}
use Rattle.mdv_config.specs.Slices.{Overlaps}
use Rattle.mdv_volumes.proofs.Clear.{set_aside}
use Rattle.mdv_engine_law.specs.Below.{AddPlaces, Geometry, HasSlice, Identity, IsSound, Key, Place, Seat, Site, SliceLine, SliceName, Volume, site_of}
use Rattle.mdv_engine_law.specs.Commands.{IsAllowed}
use Rattle.mdv_engine_law.specs.Hosts.{IsReady, key_of, lines_asked}
use Rattle.mdv_engine_law.specs.Refusals.{Case}
use Rattle.mdv_engine_law.proofs.Allowed.{allowed_aside, allowed_clear, allowed_few, allowed_once, allowed_room, allowed_slice}
use Rattle.mdv_engine_law.proofs.Places.{asked_length, asked_once, asked_room, asked_sites}

-- the places of so many replicas of so many blocks on some slices
module _ (key : Key) (identity : Identity) (count blocks : ℕ) where
  abbrev place : SliceLine → ℕ → Place
  place line k = record { slice = line.name; start = 16 + k * blocks; blocks = blocks }

  abbrev places : List SliceLine → List Place
  places lines = map (λ (s : Seat). s.place) (seats_asked key identity lines count blocks)

  abbrev places_on : SliceLine → ℕ → ℕ → List Place
  places_on line k n = map (λ (s : Seat). s.place) (seats_on key identity line count blocks k n)

  places_more : (line : SliceLine) (lines : List SliceLine) → places (line ∷ lines) ≡ places_on line 0 count ++ places lines
  places_more line lines =
      ap (λ (l : List Seat). map (λ (s : Seat). s.place) l) (flat_map-cons (λ (l : SliceLine). seats_on key identity l count blocks 0 count) line lines)
      ∙ map-append (λ (s : Seat). s.place) (seats_on key identity line count blocks 0 count) (seats_asked key identity lines count blocks)

  -- what is so of each place of a slice, and of all slices
  each_on : (P : Place → Type 0) (line : SliceLine) (k n : ℕ) → ((j : ℕ) → k ≤ j → j < k + n → P (place line j)) → All P (places_on line k n)
  each_on P line k zero each = All-nil P
  each_on P line k (suc n) each =
      All-cons P (place line k) (places_on line (k + 1) n) (each k (omega arith) (omega arith)) (each_on P line (k + 1) n (λ j from lt. each j (omega (arith, from)) (omega (arith, lt))))

  each_of : (P : Place → Type 0) (lines : List SliceLine) → ((line : SliceLine) → Contains lines line → (j : ℕ) → j < count → P (place line j)) → All P (places lines)
  each_of P [] each = All-nil P
  each_of P (line ∷ lines) each =
      subst (λ (l : List Place). All P l) (sym (places_more line lines))
      (All-append P (places_on line 0 count) (places lines) (each_on P line 0 count (λ j from lt. each line (contains_first line lines) j (omega (arith, lt))))
      (each_of P lines (λ other has j lt. each other (contains_behind line other lines has) j lt)))

  module _ (least : 16 ≤ blocks) where
    abbrev Differ : Place → Place → Type 0
    Differ p q = p ≡ q → ⊥

    later_differ : (line : SliceLine) (j k : ℕ) → j < k → Differ (place line j) (place line k)
    later_differ line j k lt same =
        let first : 16 + j * blocks ≡ 16 + k * blocks = ap (λ (p : Place). p.start) same in
        let step = places_step j k blocks lt in
        omega (arith, first, step, least)

    pairs_on : (line : SliceLine) (k n : ℕ) (behind : List Place) → k + n ≤ count → AllPairs Differ behind → ((j : ℕ) → j < count → All (Differ (place line j)) behind) → AllPairs Differ (places_on line k n ++ behind)
    pairs_on line k zero behind within pairs beside = pairs
    pairs_on line k (suc n) behind within pairs beside =
        AllPairs-cons Differ (place line k) (places_on line (k + 1) n ++ behind)
        (All-append (Differ (place line k)) (places_on line (k + 1) n) behind (each_on (Differ (place line k)) line (k + 1) n (λ j from lt. later_differ line k j (omega (arith, from)))) (beside k (omega (arith, within))))
        (pairs_on line (k + 1) n behind (omega (arith, within)) pairs beside)

    -- no two are one, where slices that differ have other names
    places_differ : (lines : List SliceLine) → AllPairs (λ (a b : SliceLine). a ≡ b → ⊥) lines → ((a b : SliceLine) → Contains lines a → Contains lines b → a.name ≡ b.name → a ≡ b) → AllPairs Differ (places lines)
    places_differ [] once named = λ i j d below lt. absurd (omega (arith, lt))
    places_differ (line ∷ lines) once named =
        let rest = places_differ lines (AllPairs-rest Apart line lines once) (λ a b in_a in_b. named a b (contains_behind line a lines in_a) (contains_behind line b lines in_b)) in
        subst (λ (l : List Place). AllPairs Differ l) (sym (places_more line lines)) (pairs_on line 0 count (places lines) (omega arith) rest (λ j lt. each_of (Differ (place line j)) lines (λ other has k below same.
        All-contains (λ (b : SliceLine). line ≡ b → ⊥) lines other (AllPairs-first Apart line lines once) has
        (named line other (contains_first line lines) (contains_behind line other lines has) (ap (λ (p : Place). p.slice) same)))))
      where
        Apart : SliceLine → SliceLine → Type 0
        Apart a b = a ≡ b → ⊥

    -- each starts where a replica may, and has as many blocks as all others
    well_started : (k : ℕ) (line : SliceLine) → starts_well (place line k) ≡ true
    well_started k line =
        let behind : 16 + k * blocks - 16 ≡ k * blocks = omega arith in
        let step : (16 + k * blocks - 16) % blocks ≡ 0 = ap (λ (n : ℕ). n % blocks) behind ∙ mul-mod_left k blocks in
        and_from (not (blocks == 0)) (nat_le 16 (16 + k * blocks) && ((16 + k * blocks - 16) % blocks == 0)) (not_from_false (blocks == 0) (ne_eqb blocks 0 (λ none. omega (arith, none, least))))
        (and_from (nat_le 16 (16 + k * blocks)) ((16 + k * blocks - 16) % blocks == 0) (le-leb 16 (16 + k * blocks) (omega arith)) (eq-eqb ((16 + k * blocks - 16) % blocks) 0 step))

    all_agree : (lines : List SliceLine) (p : Place) → p.blocks ≡ blocks → list_all (agrees p) (places lines) ≡ true
    all_agree lines p sized =
        list_all-from_AllPass (agrees p) (places lines) (each_of (λ (q : Place). agrees p q ≡ true) lines (λ line has j lt. or_right (not (same_slice p.slice line.name)) (p.blocks == blocks) (eq-eqb p.blocks blocks sized)))

    all_spaced : (lines : List SliceLine) → list_all (is_spaced (places lines)) (places lines) ≡ true
    all_spaced lines = list_all-from_AllPass (is_spaced (places lines)) (places lines) (each_of (λ (p : Place). is_spaced (places lines) p ≡ true) lines (λ line has j lt.
        and_from (starts_well (place line j)) (list_all (agrees (place line j)) (places lines)) (well_started j line) (all_agree lines (place line j) refl)))

-- They are one of a sound table of drives, where the slices are some of the key's site and have room.
pub placed : (g : Geometry) (key : Key) (identity : Identity) (sizes : List ℕ) (lines : List SliceLine) (count blocks : ℕ) → IsSound g → AreAsked sizes lines count blocks → ((line : SliceLine) → Contains lines line → Contains (site_of g key).lines line)
    → IsOfGeometry g (table_of (seats_asked key identity lines count blocks))
placed g key identity sizes lines count blocks sound asked sites = record {
  lists = record {
    some = (let all = counted in let each = few_of (length lines) count asked.some in let more = asked.more in omega (arith, all, each, more));
    few = (let all = counted in let few = asked.few in omega (arith, all, few));
    spaced = all_spaced key identity count blocks asked.least lines;
    differ = places_differ key identity count blocks asked.least lines asked.once named;
    each = each_of key identity count blocks (IsPlaceOf g) lines place_of;
  };
  numbers = record { ascending = λ i j d below lt. absurd (omega (arith, lt)); keys = All-nil (λ (v : Volume). volume_key v < 8192) };
  kinds = All-nil (λ (v : Volume). IsKindOf g v.kind);
  apart = record { components = λ i j d below lt. absurd (omega (arith, lt)); replicas = All-nil (λ (n : SliceName). All (λ (p : Place). Overlaps g.slices p.slice n → ⊥) (places key identity count blocks lines)) };
  alone = record { set = refl; pending = refl; pools = refl };
  quiet = refl;
} where
  counted : length (places key identity count blocks lines) ≡ length lines * count
  counted = length-map (seats_asked key identity lines count blocks) (λ (s : Seat). s.place) ∙ seats_length key identity count blocks lines

  named : (a b : SliceLine) → Contains lines a → Contains lines b → a.name ≡ b.name → a ≡ b
  named a b in_a in_b same =
      let of_a = set_aside g key a (sites a in_a) in
      let of_b = set_aside g key b (sites b in_b) in
      let at = sound.once b.name a.at b.at (subst (λ (n : SliceName). HasSlice g.slices n a.at) same of_a.has) of_b.has in
      λ i. record { name = same i; at = at i }

  place_of : (line : SliceLine) → Contains lines line → (j : ℕ) → j < count → IsPlaceOf g (place key identity count blocks line j)
  place_of line has j lt =
      let is = set_aside g key line (sites line has) in
      let each = few_of (length lines) count asked.some in
      let few = asked.few in
      record {
        at = line.at;
        has = is.has;
        lies = record { db = is.db; start = start_short j blocks (omega (arith, lt, each, few)) asked.most; least = asked.least; most = asked.most; within = within_line line count blocks j (asked.within line has) lt };
        clear = is.clear;
      }

-- A creation that nothing refuses, of a script's line: some slices, and some replicas on each, of a size that they may have.
module _ (case : Case) (sizes : List ℕ) (ready : IsReady case.host sizes) (slices : List SliceName) (force : Bool) (count blocks : ℕ) (free : IsAllowed case (AddPlaces slices force count blocks)) where
  abbrev lines : List SliceLine
  lines = lines_asked case.host slices

  -- its slices have room
  pub asked_within : (line : SliceLine) → Contains lines line → 16 + count * blocks ≤ line.at.blocks
  asked_within = asked_room case.host sizes ready slices (16 + count * blocks) (allowed_room case slices force count blocks free)

  -- and are some of the host's site
  pub asked_on_site : 1 ≤ count → 16 ≤ blocks → (line : SliceLine) → Contains lines line → Contains case.host.site.lines line
  asked_on_site more least line has =
      let room = asked_within line has in
      let one = mul-le-mul_right blocks more in
      asked_sites case.host sizes ready slices (allowed_aside case slices force count blocks free) (allowed_clear case slices force count blocks free) line has (omega (arith, room, one, least))

  module _ (some : 1 ≤ length slices) (more : 1 ≤ count) (least : 16 ≤ blocks) (most : blocks ≤ 8192) where
    on_site : (line : SliceLine) → Contains lines line → Contains case.host.site.lines line
    on_site = asked_on_site more least

    pub asked : AreAsked sizes lines count blocks
    asked = record {
      some = (let all = counted in omega (arith, all, some));
      more = more;
      few = subst (λ (n : ℕ). n * count ≤ 50) (sym counted) (allowed_few case slices force count blocks free);
      least = least;
      most = most;
      within = asked_within;
      drive = λ line has. (ready.on_shelf.drives.each line.at.drive (ready.on_shelf.brought line (on_site line has))).known;
      laid = λ line has. subst (λ (s : List ℕ). line.at.start + line.at.blocks ≤ slice_index_or s line.at.drive.0 0) ready.on_shelf.sizes_are (ready.on_shelf.within line (on_site line has));
      small = λ line has. subst (λ (s : List ℕ). slice_index_or s line.at.drive.0 0 < 2 ^ 64) ready.on_shelf.sizes_are (ready.on_shelf.small line (on_site line has));
      once = asked_once case.host slices (allowed_once case slices force count blocks free);
    }
      where
        counted : length lines ≡ length slices
        counted = asked_length case.host slices (allowed_slice case slices force count blocks free)

    -- and the first table is one of the host's table of drives
    pub asked_placed : (identity : Identity) → IsOfGeometry case.host.drives (table_of (seats_asked (key_of case.host) identity lines count blocks))
    asked_placed identity = placed case.host.drives (key_of case.host) identity sizes lines count blocks ready.sound asked (λ line has. subst (λ (s : Site). Contains s.lines line) ready.site (on_site line has))
