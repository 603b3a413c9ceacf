-- The places that a creation's first table lists: as many on each of its slices. So where more than half of the slices pass a test, so do more than half of the places.
use Rattle.std.proofs.Common.{◌≡◌, ℕ, zero, suc, ◌+◌, ◌*◌, ◌≤◌, ◌<◌, Bool, true, false, cond, List, [], ◌∷◌, ◌++◌, length, map, Option, Some, None, Contains, refl, sym, ◌∙◌, ap, subst, arith, inl, inr}
use Rattle.std.specs.Prelude.{count_by, is_some}
use Rattle.std.proofs.lemmas.List.{length-map, map-append}
use Rattle.std.proofs.lemmas.List.Elements.{Contains-append_left, Contains-append_right}
use Rattle.std.proofs.lemmas.List.Sums.{sum_by-append}
use Rattle.std.proofs.lemmas.Nat.{mul-le}
use Rattle.std.proofs.Math.Nat.{mul_assoc}
use Rattle.mdv_base.specs.declared.drive.SliceName.{SliceName}
use Rattle.mdv_base.specs.declared.mark.Identity.{Identity}
use Rattle.mdv_base.specs.declared.name.Key.{Key}
use Rattle.mdv_base.specs.declared.place.Place.{Place}
use Rattle.mdv_engine_law.specs.Commands.{IsAllowed}
use Rattle.mdv_engine_law.specs.Hosts.{line_at, lines_asked}
use Rattle.mdv_engine_law.specs.declared.host.Host.{Host}
use Rattle.mdv_engine_law.proofs.Allowed.{allowed_slice}
use Rattle.mdv_engine_law.proofs.Places.{asked_length}
use Rattle.mdv_name.proofs.Finding.{same_slice-equal, same_slice-refl}
use Rattle.mdv_name.specs.SliceIndex.{HasSlice, same_slice, slice_at}
use Rattle.mdv_name.specs.Sound.{IsSound}
use Rattle.mdv_name.specs.declared.slice_lines.SliceAt.{SliceAt}
use Rattle.mdv_name.specs.declared.slice_lines.SliceLine.{SliceLine}
use Rattle.mdv_run_law.proofs.Extents.{SeesOwn}
use Rattle.mdv_shown.specs.Site.{place_on}
use Rattle.mdv_look.proofs.Bringing.{count_cons}
use Rattle.mdv_store.proofs.Spotting.{asked_length as asked_seats}
use Rattle.mdv_store.specs.Create.{replica_on, seat_on, seats_asked, seats_on}
use Rattle.mdv_store.proofs.Sitting.{replica_of}
use Rattle.mdv_store.specs.Seats.{replicas_of}
use Rattle.mdv_store.specs.declared.seats.Seat.{Seat}
use Rattle.mdv_survey.specs.declared.replica.Replica.{Replica}
use Rattle.mdv_engine_law.specs.Line.{Memory}
use Rattle.mdv_volumes.proofs.Lists.{contains_behind, contains_first, first_or_behind}
use Rattle.mdv_words.specs.declared.command.Command.TheVariants.{AddPlaces}
use Rattle.mdv_theorem.proofs.Lines.{never_in}
use Rattle.mdv_databases.specs.Meeting.{is_on}
use Rattle.mdv_databases.proofs.Finding.{count_weaker}

abbrev pub places_in : List Seat → List Place
places_in seats = map (λ (s : Seat). s.place) seats

count_append : {X : Type 0} (p : X → Bool) (xs ys : List X) → count_by p (xs ++ ys) ≡ count_by p xs + count_by p ys
count_append p xs ys = sum_by-append (λ x. cond (p x) 1 0) xs ys

-- a test of a place's slice
module _ (t : SliceName → Bool) (key : Key) (identity : Identity) (count blocks : ℕ) where
  abbrev of_place : Place → Bool
  of_place place = t place.slice

  count_on : (line : SliceLine) (k n : ℕ) → count_by of_place (places_in (seats_on key identity line count blocks k n)) ≡ cond (t line.name) n 0
  count_on line k zero = by (t line.name) where
    by : (b : Bool) → ◌≡◌ {A = ℕ} 0 (cond b 0 0)
    by true = refl
    by false = refl
  count_on line k (suc n) = count_cons of_place (place_on line blocks count k).place (places_in (seats_on key identity line count blocks (k + 1) n)) ∙ by (t line.name) (count_on line (k + 1) n) where
    by : (b : Bool) → count_by of_place (places_in (seats_on key identity line count blocks (k + 1) n)) ≡ cond b n 0 → cond b 1 0 + count_by of_place (places_in (seats_on key identity line count blocks (k + 1) n)) ≡ cond b (suc n) 0
    by true rest = omega (arith, rest)
    by false rest = omega (arith, rest)

  module _ (host : Host) where
    abbrev places : List SliceName → List Place
    places slices = places_in (seats_asked key identity (lines_asked host slices) count blocks)

    count_more : (slice : SliceName) (o : Option SliceAt) (at : SliceAt) (slices : List SliceName) → o ≡ Some at → count_by of_place (places slices) ≡ count_by t slices * count
        → count_by of_place (places_in (seats_asked key identity (line_at slice o ++ lines_asked host slices) count blocks)) ≡ (cond (t slice) 1 0 + count_by t slices) * count
    count_more slice None at slices is rest = absurd (cc (is))
    count_more slice (Some here) at slices is rest =
        let line : SliceLine = record { name = slice; at = here } in
        ap (count_by of_place) (map-append (λ (s : Seat). s.place) (seats_on key identity line count blocks 0 count) (seats_asked key identity (lines_asked host slices) count blocks))
        ∙ count_append of_place (places_in (seats_on key identity line count blocks 0 count)) (places slices) ∙ by (t slice) (count_on line 0 count) rest
      where
        by : (b : Bool) → count_by of_place (places_in (seats_on key identity (record { name = slice; at = here }) count blocks 0 count)) ≡ cond b count 0 → count_by of_place (places slices) ≡ count_by t slices * count
            → count_by of_place (places_in (seats_on key identity (record { name = slice; at = here }) count blocks 0 count)) + count_by of_place (places slices) ≡ (cond b 1 0 + count_by t slices) * count
        by true one more = omega (arith, one, more)
        by false one more = omega (arith, one, more)

    count_all : (slices : List SliceName) → ((slice : SliceName) → Contains slices slice → (at : SliceAt) × (slice_at host.drives.slices slice ≡ Some at)) → count_by of_place (places slices) ≡ count_by t slices * count
    count_all [] there = omega arith
    count_all (slice ∷ slices) there =
        let here = there slice (contains_first slice slices) in
        count_more slice (slice_at host.drives.slices slice) here.0 slices here.1 (count_all slices (λ other has. there other (contains_behind slice other slices has)))
        ∙ ap (λ (n : ℕ). n * count) (sym (count_cons t slice slices))

-- so many times as many are fewer than twice as many, and no more where they aren't
half_times : (n c count : ℕ) → n < 2 * c → 1 ≤ count → n * count < 2 * (c * count)
half_times n c count less some =
    let all = mul-le (1 + n) count (2 * c) count (omega (arith, less)) (omega arith) in
    let same = mul_assoc 2 c count in
    omega (arith, all, same, some)

-- places that were made on these slices, which are some of these lines: as many on each
pub record AreMadeOn (lines : List SliceLine) (slices : List SliceName) (places : List Place) : Type 0 where
  pub there : (slice : SliceName) → Contains slices slice → (at : SliceAt) × HasSlice lines slice at
  pub count : ℕ
  pub some : 1 ≤ count
  pub long : length places ≡ length slices * count
  pub each : (t : SliceName → Bool) → count_by (λ (place : Place). t place.slice) places ≡ count_by t slices * count

-- the first place on each slice
module _ (key : Key) (identity : Identity) (count blocks : ℕ) where
  first_seat : (line : SliceLine) (n : ℕ) → 1 ≤ n → Contains (seats_on key identity line count blocks 0 n) (seat_on key identity line count blocks 0)
  first_seat line zero some = absurd (omega (arith, some))
  first_seat line (suc n) some = contains_first (seat_on key identity line count blocks 0) (seats_on key identity line count blocks (0 + 1) n)

  seat_has : (lines : List SliceLine) (line : SliceLine) → Contains lines line → 1 ≤ count → Contains (seats_asked key identity lines count blocks) (seat_on key identity line count blocks 0)
  seat_has [] line has some = absurd (never_in line has)
  seat_has (x ∷ xs) line has some = elim (first_or_behind x line xs has) [
    | inl here ↦ Contains-append_left (seats_on key identity x count blocks 0 count) (seats_asked key identity xs count blocks) (seat_on key identity line count blocks 0)
        (subst (λ (l : SliceLine). Contains (seats_on key identity x count blocks 0 count) (seat_on key identity l count blocks 0)) here (first_seat x count some))
    | inr behind ↦ Contains-append_right (seats_on key identity x count blocks 0 count) (seats_asked key identity xs count blocks) (seat_on key identity line count blocks 0) (seat_has xs line behind some)
  ]

module _ (host : Host) (sound : IsSound host.drives) (sees : SeesOwn host) where
  -- the line of a slice that is asked
  line_has : (slices : List SliceName) (slice : SliceName) (at : SliceAt) → Contains slices slice → slice_at host.drives.slices slice ≡ Some at → Contains (lines_asked host slices) (record { name = slice; at = at })
  line_has [] slice at has is = absurd (never_in slice has)
  line_has (s ∷ slices) slice at has is = elim (first_or_behind s slice slices has) [
    | inl here ↦ Contains-append_left (line_at s (slice_at host.drives.slices s)) (lines_asked host slices) line (subst (λ (l : List SliceLine). Contains l line) (sym (ap (λ (n : SliceName). line_at n (slice_at host.drives.slices n)) here ∙ ap (line_at slice) is)) (contains_first line []))
    | inr behind ↦ Contains-append_right (line_at s (slice_at host.drives.slices s)) (lines_asked host slices) line (line_has slices slice at behind is)
  ]
    where
      line : SliceLine
      line = record { name = slice; at = at }

  -- A creation that nothing refuses: each of its replicas was found where a boot looks.
  module _ (key : Key) (identity : Identity) (memory : Memory) (slices : List SliceName) (force : Bool) (count blocks : ℕ) (some : 1 ≤ count) (free : IsAllowed (record { host = host; memory = memory }) (AddPlaces slices force count blocks))
      (formed : (r : Replica) → Contains (replicas_of (seats_asked key identity (lines_asked host slices) count blocks)) r → Contains host.site.lines r.line) where
    abbrev lines : List SliceLine
    lines = lines_asked host slices

    is_there : (slice : SliceName) → Contains slices slice → is_some (slice_at host.drives.slices slice) ≡ true
    is_there = allowed_slice (record { host = host; memory = memory }) slices force count blocks free

    lies_there : (slice : SliceName) → Contains slices slice → (at : SliceAt) × (slice_at host.drives.slices slice ≡ Some at)
    lies_there slice has = by (slice_at host.drives.slices slice) refl (is_there slice has) where
      by : (o : Option SliceAt) → slice_at host.drives.slices slice ≡ o → is_some o ≡ true → (at : SliceAt) × (slice_at host.drives.slices slice ≡ Some at)
      by None is some_one = absurd (cc (some_one))
      by (Some at) is some_one = (at, is)

    -- so each of its slices is one of the site
    in_site : (slice : SliceName) → Contains slices slice → (at : SliceAt) × HasSlice host.site.lines slice at
    in_site slice has =
        let at = lies_there slice has in
        let line : SliceLine = record { name = slice; at = at.0 } in
        let seat = seat_has key identity count blocks lines line (line_has slices slice at.0 has at.1) some in
        (at.0, formed (replica_on key identity line count blocks 0) (replica_of (seats_asked key identity lines count blocks) (seat_on key identity line count blocks 0) (replica_on key identity line count blocks 0) seat refl))

    pub made_on : AreMadeOn host.site.lines slices (places_in (seats_asked key identity lines count blocks))
    made_on = record {
      there = in_site;
      count = count;
      some = some;
      long = length-map (seats_asked key identity lines count blocks) (λ (s : Seat). s.place) ∙ asked_seats key identity count blocks lines ∙ ap (λ (n : ℕ). n * count) (asked_length host slices is_there);
      each = λ t. count_all t key identity count blocks host slices lies_there;
    }

  -- such a slice is on a drive that passes the test, if each line with its name is
  on_here : (up : ℕ → Bool) (lines : List SliceLine) (slice : SliceName) (at : SliceAt) → HasSlice lines slice at → ((other : SliceAt) → HasSlice lines slice other → up other.drive.0 ≡ true) → is_on up (slice_at lines slice) ≡ true
  on_here up [] slice at has are = absurd (never_in (record { name = slice; at = at }) has)
  on_here up (line ∷ lines) slice at has are = by (same_slice line.name slice) refl (λ behind. on_here up lines slice at behind (λ other there. are other (contains_behind line (record { name = slice; at = other }) lines there))) where
    by : (b : Bool) → same_slice line.name slice ≡ b → (HasSlice lines slice at → is_on up (slice_at lines slice) ≡ true) → is_on up (cond b (Some line.at) (slice_at lines slice)) ≡ true
    by true is rest = are line.at (subst (λ (name : SliceName). Contains (line ∷ lines) (record { name = name; at = line.at })) (same_slice-equal line.name slice is) (contains_first line lines))
    by false is rest = elim (first_or_behind line (record { name = slice; at = at }) lines has) [
      | inl here ↦ absurd (let same : same_slice line.name slice ≡ true = ap (λ (l : SliceLine). same_slice l.name slice) here ∙ same_slice-refl slice in cc (same, is))
      | inr behind ↦ rest behind
    ]

  -- Of places made on slices as many lie on such drives, slice by slice, as these do.
  module _ (slices : List SliceName) (places : List Place) (chosen : SliceName → Bool) (up : ℕ → Bool) (made : AreMadeOn host.site.lines slices places) (each : (slice : SliceName) (at : SliceAt) → chosen slice ≡ true → HasSlice host.site.lines slice at → up at.drive.0 ≡ true) where
    abbrev on : SliceName → Bool
    on slice = is_on up (slice_at host.site.lines slice)

    counted : count_by chosen slices ≤ count_by on slices
    counted = count_weaker chosen on slices (λ slice has is. (let there = made.there slice has in on_here up host.site.lines slice there.0 there.1 (λ other also. each slice other is also)))

    -- so where more than half of the slices do more than half of the places do
    pub most_up : length slices < 2 * count_by chosen slices → length places < 2 * count_by (λ (place : Place). on place.slice) places
    most_up most =
        let times = half_times (length slices) (count_by on slices) made.count (omega (arith, most, counted)) made.some in
        omega (arith, times, made.long, made.each on)
