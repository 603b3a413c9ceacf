-- The places of a creation: where they lie, and on which slices.
use Rattle.std.proofs.Common.{◌≡◌, inl, inr, ◌&&◌, not, ◌+◌, ◌*◌, ◌<◌, ◌≤◌, ℕ, zero, suc, Bool, true, false, List, [], ◌∷◌, ◌++◌, length, filter, flat_map, nat_le, Option, Some, None, Contains, refl, sym, ◌∙◌, ap, subst, arith, length-append}
use Rattle.std.specs.Prelude.{AllPairs, is_some}
use Rattle.std.specs.List.{list_any}
use Rattle.std.proofs.lemmas.List.Concat.{flat_map-cons}
use Rattle.std.proofs.lemmas.Bool.{and_from, false≢true, le-leb, not_from_false}
use Rattle.std.proofs.lemmas.List.Elements.{All-contains_itself, Contains-append_cases}
use Rattle.std.proofs.lemmas.List.Folds.{list_any_at}
use Rattle.mdv_home.proofs.Owning.{drives_are_own, of_host}
use Rattle.mdv_home.proofs.Viewing.{view_is_own}
use Rattle.mdv_home.specs.Drives.{is_own}
use Rattle.mdv_name.proofs.Finding.{same_slice-refl, slice_at-some}
use Rattle.mdv_name.specs.declared.drive_line.DriveKind.TheVariants.{Own}
use Rattle.mdv_name.specs.SliceIndex.{same_slice, slice_at}
use Rattle.mdv_plan.specs.Slices.{meets_db}
use Rattle.mdv_shelf.proofs.Blocks.{both_ways}
use Rattle.mdv_shelf.proofs.Frame.{kept_outside_wider, within_range}
use Rattle.mdv_shown.proofs.Elsewhere.{places_step}
use Rattle.mdv_shown.specs.Sites.{is_line_of, is_reached, is_reached_at, is_reached_line, is_slice_of, takes_replicas}
use Rattle.mdv_store.proofs.Sitting.{contains_behind, contains_first, first_or_behind, seat_of}
use Rattle.mdv_store.specs.Create.{replica_on, seat_on, seats_asked, seats_on}
use Rattle.mdv_store.specs.Seats.{replica_area, replicas_of}
use Rattle.mdv_survey.specs.declared.replica.Replica.{Replica}
use Rattle.mdv_config.proofs.Pairs.{AllPairs-cons}
use Rattle.mdv_engine_law.specs.Below.{Geometry, HasSlice, Identity, Key, KeptOutside, Local, Seat, Site, SliceAt, SliceLine, SliceName, Tale, own_view, range, seats_area}
use Rattle.mdv_engine_law.specs.Hosts.{IsReady, key_of, line_at, lines_asked, places_area}
use Rattle.mdv_engine_law.specs.Refusals.{blocks_at, is_doubled, is_plain}
use Rattle.mdv_engine_law.specs.declared.host.Host.{Host}
use Rattle.mdv_engine_law.proofs.Allowed.{either_left, either_right, none_passes, not_not}
use Rattle.mdv_engine_law.proofs.Within.{none_in}

-- the line of a slice
in_line_at : (slice : SliceName) (o : Option SliceAt) (line : SliceLine) → Contains (line_at slice o) line → (o ≡ Some line.at) × (line.name ≡ slice)
in_line_at slice None line has = absurd (omega (arith, has.1))
in_line_at slice (Some at) line has = elim (first_or_behind (record { name = slice; at = at }) line [] has) [
  | inl here ↦ (ap (λ (l : SliceLine). Some l.at) here, ap (λ (l : SliceLine). l.name) (sym here))
  | inr none ↦ absurd (omega (arith, none.1))
]

length_line : (slice : SliceName) (o : Option SliceAt) → is_some o ≡ true → length (line_at slice o) ≡ 1
length_line slice None is = absurd (cc (is))
length_line slice (Some at) is = refl

-- what is there and passes a test is among what passes it
still_there : {X : Type 0} (p : X → Bool) (xs : List X) (x : X) → Contains xs x → p x ≡ true → Contains (filter p xs) x
still_there p [] x has passes = absurd (omega (arith, has.1))
still_there {X} p (y ∷ xs) x has passes = elim (both_ways (p y)) [
  | inl does ↦ rw does (elim (first_or_behind y x xs has) [
    | inl same ↦ subst (Contains (y ∷ filter p xs)) same (contains_first y (filter p xs))
    | inr more ↦ contains_behind y x (filter p xs) (still_there p xs x more passes)
  ])
  | inr never ↦ rw never (elim (first_or_behind y x xs has) [ inl same ↦ absurd (cc (never, ap p same, passes)) | inr more ↦ still_there p xs x more passes ])
]

-- the lines of the slices that a creation is asked for
module _ (host : Host) where
  abbrev line_of : SliceName → List SliceLine
  line_of slice = line_at slice (slice_at host.drives.slices slice)

  asked_more : (slice : SliceName) (slices : List SliceName) → lines_asked host (slice ∷ slices) ≡ line_of slice ++ lines_asked host slices
  asked_more slice slices = flat_map-cons line_of slice slices

  -- each is that of one of them
  pub record IsLineOf (slices : List SliceName) (line : SliceLine) : Type 0 where
    pub slice : SliceName
    pub among : Contains slices slice
    pub lies : slice_at host.drives.slices slice ≡ Some line.at
    pub named : line.name ≡ slice

  pub asked_line : (slices : List SliceName) (line : SliceLine) → Contains (lines_asked host slices) line → IsLineOf slices line
  asked_line [] line has = absurd (omega (arith, has.1))
  asked_line (slice ∷ slices) line has = elim (Contains-append_cases (line_of slice) (lines_asked host slices) line (subst (λ (l : List SliceLine). Contains l line) (asked_more slice slices) has)) [
    | inl here ↦ (let is = in_line_at slice (slice_at host.drives.slices slice) line here in record { slice = slice; among = contains_first slice slices; lies = is.0; named = is.1 })
    | inr there ↦ (let is = asked_line slices line there in record { slice = is.slice; among = contains_behind slice is.slice slices is.among; lies = is.lies; named = is.named })
  ]

  -- as many as they are, where each is there
  pub asked_length : (slices : List SliceName) → ((slice : SliceName) → Contains slices slice → is_some (slice_at host.drives.slices slice) ≡ true) → length (lines_asked host slices) ≡ length slices
  asked_length [] each = refl
  asked_length (slice ∷ slices) each =
      let here = length_line slice (slice_at host.drives.slices slice) (each slice (contains_first slice slices)) in
      let rest = asked_length slices (λ other has. each other (contains_behind slice other slices has)) in
      let both = ap (λ (l : List SliceLine). length l) (asked_more slice slices) ∙ length-append (line_of slice) (lines_asked host slices) in
      omega (arith, here, rest, both)

  -- and no two are one, where none is named twice
  pub asked_once : (slices : List SliceName) → is_doubled slices ≡ false → AllPairs (λ (a b : SliceLine). a ≡ b → ⊥) (lines_asked host slices)
  asked_once [] once = λ i j d below lt. absurd (omega (arith, lt))
  asked_once (slice ∷ slices) once =
      let rest = asked_once slices (either_right (list_any (same_slice slice) slices) (is_doubled slices) once) in
      subst (λ (l : List SliceLine). AllPairs Apart l) (sym (asked_more slice slices)) (by (slice_at host.drives.slices slice) rest)
    where
      Apart : SliceLine → SliceLine → Type 0
      Apart a b = a ≡ b → ⊥

      other : (at : SliceAt) (line : SliceLine) → Contains (lines_asked host slices) line → Apart (record { name = slice; at = at }) line
      other at line has same =
          let is = asked_line slices line has in
          let named : slice ≡ is.slice = ap (λ (l : SliceLine). l.name) same ∙ is.named in
          let differs = none_passes (same_slice slice) slices (either_left (list_any (same_slice slice) slices) (is_doubled slices) once) is.slice is.among in
          false≢true (sym differs ∙ ap (same_slice slice) (sym named) ∙ same_slice-refl slice)

      by : (o : Option SliceAt) → AllPairs Apart (lines_asked host slices) → AllPairs Apart (line_at slice o ++ lines_asked host slices)
      by None rest = rest
      by (Some at) rest = AllPairs-cons Apart (record { name = slice; at = at }) (lines_asked host slices) (λ k d lt. other at _ (All-contains_itself (lines_asked host slices) k d lt)) rest

  module _ (sizes : List ℕ) (ready : IsReady host sizes) (slices : List SliceName) where
    -- it lies on one of the host's own drives
    reached : (line : SliceLine) → Contains host.drives.slices line → is_reached_at host.drives (key_of host) line.at.drive.0 ≡ true
    reached line has =
        let seen = (view_is_own.seen ready.table ready.name line.name line.at).0 (subst (λ (g : Geometry). HasSlice g.slices line.name line.at) ready.view has) in
        let own = (drives_are_own.own ready.table ready.name line.at.drive).0 seen.1 in
        let named : is_own ready.name (Own own.name ready.name) ≡ true = of_host ready.name (Own own.name ready.name) (record { name = own.name; own = refl }) in
        ap (λ (g : Geometry). is_reached_at g (key_of host) line.at.drive.0) ready.view ∙ ap (λ (k : Key). is_reached_at (own_view ready.table ready.name) k line.at.drive.0) ready.key
        ∙ ap (is_reached_line (Local ready.name)) own.place ∙ ap (is_reached (Local ready.name)) own.own ∙ named

    -- a slice that is set aside for replicas, meets no other one that is, and has room for one is one of the host's site
    pub asked_sites : ((slice : SliceName) → Contains slices slice → is_plain (slice_at host.drives.slices slice) ≡ false) → ((slice : SliceName) → Contains slices slice → meets_db host.drives slice ≡ false)
        → (line : SliceLine) → Contains (lines_asked host slices) line → 32 ≤ line.at.blocks → Contains host.site.lines line
    asked_sites aside clear line asked room =
        let is = asked_line slices line asked in
        let there : HasSlice host.drives.slices is.slice line.at = (slice_at-some host.drives is.slice line.at ready.sound).0 is.lies in
        let has : Contains host.drives.slices line = subst (λ (n : SliceName). HasSlice host.drives.slices n line.at) (sym is.named) there in
        let db : line.at.db ≡ true = not_not line.at.db (sym (ap is_plain is.lies) ∙ aside is.slice is.among) in
        let alone : not (meets_db host.drives line.name) ≡ true = not_from_false (meets_db host.drives line.name) (ap (meets_db host.drives) is.named ∙ clear is.slice is.among) in
        let takes : takes_replicas host.drives line ≡ true =
        and_from (line.at.db && nat_le 32 line.at.blocks) (not (meets_db host.drives line.name)) (and_from line.at.db (nat_le 32 line.at.blocks) db (le-leb 32 line.at.blocks room)) alone in
        let lies : (is_slice_of (key_of host) line.name && is_reached_at host.drives (key_of host) line.at.drive.0) ≡ true =
        and_from (is_slice_of (key_of host) line.name) (is_reached_at host.drives (key_of host) line.at.drive.0) (ap (λ (k : Key). is_slice_of k line.name) ready.key) (reached line has) in
        subst (λ (s : Site). Contains s.lines line) (sym ready.site)
        (still_there (is_line_of host.drives (key_of host)) host.drives.slices line has
        (and_from (is_slice_of (key_of host) line.name && is_reached_at host.drives (key_of host) line.at.drive.0) (takes_replicas host.drives line) lies takes))

    -- one that has room does so where it lies
    pub asked_room : (least : ℕ) → ((slice : SliceName) → Contains slices slice → least ≤ blocks_at (slice_at host.drives.slices slice)) → (line : SliceLine) → Contains (lines_asked host slices) line → least ≤ line.at.blocks
    asked_room least room line asked = (let is = asked_line slices line asked in subst (λ (o : Option SliceAt). least ≤ blocks_at o) is.lies (room is.slice is.among))

-- the seats that a creation is asked for
module _ (key : Key) (identity : Identity) (lines : List SliceLine) (count blocks : ℕ) where
  in_line : (line : SliceLine) (k n : ℕ) (s : Seat) → Contains (seats_on key identity line count blocks k n) s → (j : ℕ) × (j < k + n) × (seat_on key identity line count blocks j ≡ s)
  in_line line k zero s has = absurd (omega (arith, has.1))
  in_line line k (suc n) s has = elim (first_or_behind (seat_on key identity line count blocks k) s (seats_on key identity line count blocks (k + 1) n) has) [
    | inl here ↦ (k, omega arith, here)
    | inr there ↦ (let rest = in_line line (k + 1) n s there in (rest.0, omega (arith, rest.1), rest.2))
  ]

  in_lines : (ls : List SliceLine) (s : Seat) → Contains (flat_map (λ (line : SliceLine). seats_on key identity line count blocks 0 count) ls) s → (line : SliceLine) × Contains ls line × (j : ℕ) × (j < count) × (seat_on key identity line count blocks j ≡ s)
  in_lines [] s has = absurd (omega (arith, has.1))
  in_lines (line ∷ ls) s has =
      let on = λ (l : SliceLine). seats_on key identity l count blocks 0 count in
      elim (Contains-append_cases (on line) (flat_map on ls) s (subst (λ (l : List Seat). Contains l s) (flat_map-cons on line ls) has)) [
        | inl here ↦ (let one = in_line line 0 count s here in (line, contains_first line ls, one.0, omega (arith, one.1), one.2))
        | inr there ↦ (let rest = in_lines ls s there in (rest.0, contains_behind line rest.0 ls rest.1, rest.2, rest.3, rest.4))
      ]

  some_replica : (a b : Replica) → ◌≡◌ {A = Option Replica} (Some a) (Some b) → a ≡ b
  some_replica a b same = cc (same)

  -- a block outside the places is outside each of them
  pub outside_asked : (drive block : ℕ) → places_area lines count blocks drive block ≡ false → seats_area (seats_asked key identity lines count blocks) drive block ≡ false
  outside_asked drive block out = none_in (replicas_of (seats_asked key identity lines count blocks)) drive block each where
    place : SliceLine → Bool
    place line = range line.at.drive.0 (line.at.start + 16) (count * blocks) drive block

    out_of : (line : SliceLine) → Contains lines line → place line ≡ false
    out_of line has = by (place line) refl where
      by : (b : Bool) → place line ≡ b → place line ≡ false
      by false is = is
      by true is = absurd (let any : list_any place lines ≡ true = list_any_at place lines has.0 line has.1 (ap place has.2 ∙ is) in cc (out, any))

    on_line : (line : SliceLine) (j : ℕ) → j < count → Contains lines line → replica_area (replica_on key identity line count blocks j) drive block ≡ false
    on_line line j lt has =
        let step = places_step j count blocks lt in
        within_range line.at.drive.0 (line.at.start + (16 + j * blocks)) blocks (line.at.start + 16) (count * blocks) drive block (omega arith) (omega (arith, step)) (out_of line has)

    each : (r : Replica) → Contains (replicas_of (seats_asked key identity lines count blocks)) r → replica_area r drive block ≡ false
    each r has =
        let s = seat_of (seats_asked key identity lines count blocks) r has in
        let one = in_lines lines s.0 s.1 in
        let same : replica_on key identity one.0 count blocks one.2 ≡ r = some_replica _ _ (ap (λ (x : Seat). x.replica) one.4 ∙ s.2) in
        subst (λ (x : Replica). replica_area x drive block ≡ false) same (on_line one.0 one.2 one.3 one.1)

  pub asked_kept : (t m : Tale) → KeptOutside (seats_area (seats_asked key identity lines count blocks)) t m → KeptOutside (places_area lines count blocks) t m
  asked_kept t m kept = kept_outside_wider (seats_area (seats_asked key identity lines count blocks)) (places_area lines count blocks) t m outside_asked kept
