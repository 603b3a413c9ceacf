-- What was read, as the votes see it.
use Rattle.std.proofs.Common.{◌≡◌, inl, inr, ◌<◌, ◌≤◌, ◌+◌, ◌*◌, ◌^◌, max, ℕ, Bool, true, false, ◌&&◌, cond, List, [], ◌∷◌, ◌++◌, None, Some, Contains, map, slice_get, slice_index_or, refl, sym, ◌∙◌, subst, ap, arith}
use Rattle.std.specs.Prelude.{nat_le, not}
use Rattle.std.specs.List.{AllPairs, find, list_any}
use Rattle.std.proofs.lemmas.Bool.{leb-true, or_left, or_right}
use Rattle.std.proofs.lemmas.Bool.Decides.{nat_tests}
use Rattle.std.proofs.lemmas.List.Elements.{Contains-append_cases}
use Rattle.mdv_shelf.proofs.Everywhere.{image_synced, last_image}
use Rattle.mdv_shelf.specs.Everywhere.{Everywhere}
use Rattle.mdv_shown.proofs.Elsewhere.{one_master, range_has}
use Rattle.mdv_shown.proofs.Sites.{site_is}
use Rattle.mdv_shown.specs.Choice.{IsChosen, Seen, greatest_seen, spots_seen}
use Rattle.mdv_shown.specs.Found.{IsFound}
use Rattle.mdv_shown.specs.Shown.{SlotShows}
use Rattle.mdv_shown.specs.Site.{line_area, place_on, size_on}
use Rattle.mdv_shown.specs.Sites.{lines_of}
use Rattle.mdv_standing.specs.Adopting.{AreOwn}
use Rattle.mdv_survey.specs.Choice.{is_of, place_of, same_identity}
use Rattle.mdv_survey.specs.Newest.{IsGreatest}
use Rattle.mdv_replica.specs.Form.{shows}
use Rattle.mdv_replica.specs.Seen.{IsMasterAt}
use Rattle.mdv_survey.specs.Replica.{IsFoundIn, IsOnShelf, IsSeated}
use Rattle.mdv_survey.specs.declared.replica.Newest.{Newest}
use Rattle.mdv_config.proofs.Testing.{same_place-true}
use Rattle.mdv_config.specs.Lists.{beside}
use Rattle.mdv_config.specs.Lists.{same_place}
use Rattle.mdv_plan.specs.declared.lists.Lists.{Lists}
use Rattle.mdv_plan.specs.declared.lists.Lists.TheVariants.{One, Two}
use Rattle.mdv_votes.proofs.Meeting.{same_is, same_self}
use Rattle.mdv_votes.specs.Spots.{is_in}
use Rattle.mdv_store.specs.Below.{Drives, Geometry, Identity, IsOfGeometry, IsOwn, Key, Open, Place, Replica, Site, SliceLine, Spot, Table, Tale, at_of, gate_of, greatest, has_drive, is_named, last, lists_of_spots, places_of, record_bytes, same_spot, site_of, slot_blocks, spot_on}
use Rattle.mdv_store.specs.Adopting.{AreJustOn, WasReadOf}
use Rattle.mdv_store.specs.Booting.{WasReadOn}
use Rattle.mdv_store.specs.Boot.{greatest_number, is_seated, seat_for}
use Rattle.mdv_store.specs.Settled.{again_of}
use Rattle.mdv_store.specs.Opened.{AreSeatsOf}
use Rattle.mdv_store.specs.Records.{Spells}
use Rattle.mdv_store.specs.Seats.{AreHeld, AreNamed, IsLaid, drive_of, replicas_of, spot_of, spots_of}
use Rattle.mdv_store.specs.Shares.{short_of}
use Rattle.mdv_store.specs.Taking.{IsHandOf, IsReadied, IsToAdopt}
use Rattle.mdv_store.specs.Text.{blocks_for}
use Rattle.mdv_store.specs.declared.booting.Hand.{Hand}
use Rattle.mdv_store.specs.declared.seats.Need.TheVariants.{More}
use Rattle.mdv_store.specs.declared.seats.Seat.{Seat}
use Rattle.mdv_store.proofs.Halves.{spot_at, spot_is}
use Rattle.mdv_look.proofs.Looks.{and_first, and_second}
use Rattle.mdv_store.proofs.Passes.{mapped, unmapped}
use Rattle.mdv_store.proofs.Quorums.{enough_read}
use Rattle.mdv_store.proofs.Records.{spelled_of}
use Rattle.mdv_store.proofs.Rows.{part_filter, part_has}
use Rattle.mdv_store.proofs.Seating.{greatest_most, seat_of_replica, seated_at, seats_once, seats_places}
use Rattle.mdv_store.proofs.Shares.{some_more}
use Rattle.mdv_store.proofs.Sitting.{active_most, contains_behind, contains_first, first_or_behind, seat_of}
use Rattle.mdv_config.proofs.Listed.{listed_once}

abbrev pub seen_of : Replica → Seen
seen_of r = record { line = r.line; number = r.number; first = r.first; head = r.head }

-- those of one identity
abbrev pub own_seen : Identity → List Replica → List Seen
own_seen identity [] = []
own_seen identity (r ∷ rs) = cond (is_of identity r) (seen_of r ∷ own_seen identity rs) (own_seen identity rs)

own_is : (identity : Identity) (rs : List Replica) (s : Seen) → Contains (own_seen identity rs) s → (r : Replica) × Contains rs r × (is_of identity r ≡ true) × (seen_of r ≡ s)
own_is identity [] s has = absurd (omega (arith, has.1))
own_is identity (x ∷ rs) s has = by (is_of identity x) refl has (own_is identity rs s) where
  by : (b : Bool) → is_of identity x ≡ b → Contains (cond b (seen_of x ∷ own_seen identity rs) (own_seen identity rs)) s → (Contains (own_seen identity rs) s → (r : Replica) × Contains rs r × (is_of identity r ≡ true) × (seen_of r ≡ s))
      → (r : Replica) × Contains (x ∷ rs) r × (is_of identity r ≡ true) × (seen_of r ≡ s)
  by true own has rest = elim (first_or_behind (seen_of x) s (own_seen identity rs) has) [
    | inl here ↦ (x, contains_first x rs, own, here)
    | inr there ↦ (let one = rest there in (one.0, contains_behind x one.0 rs one.1, one.2, one.3))
  ]
  by false own has rest = (let one = rest has in (one.0, contains_behind x one.0 rs one.1, one.2, one.3))

own_has : (identity : Identity) (rs : List Replica) (r : Replica) → Contains rs r → is_of identity r ≡ true → Contains (own_seen identity rs) (seen_of r)
own_has identity [] r has own = absurd (omega (arith, has.1))
own_has identity (x ∷ rs) r has own = elim (first_or_behind x r rs has) [
  | inl here ↦ rw (ap (is_of identity) here ∙ own) (subst (λ (s : Seen). Contains (seen_of x ∷ own_seen identity rs) s) (ap seen_of here) (contains_first (seen_of x) (own_seen identity rs)))
  | inr there ↦ by (is_of identity x) (own_has identity rs r there own)
] where
  by : (b : Bool) → Contains (own_seen identity rs) (seen_of r) → Contains (cond b (seen_of x ∷ own_seen identity rs) (own_seen identity rs)) (seen_of r)
  by true rest = contains_behind (seen_of x) (seen_of r) (own_seen identity rs) rest
  by false rest = rest

pub own_greatest : (identity : Identity) (rs : List Replica) → greatest_seen (own_seen identity rs) ≡ greatest_number identity rs
own_greatest identity [] = refl
own_greatest identity (x ∷ rs) = by (is_of identity x) (own_greatest identity rs) where
  by : (b : Bool) → greatest_seen (own_seen identity rs) ≡ greatest_number identity rs → greatest_seen (cond b (seen_of x ∷ own_seen identity rs) (own_seen identity rs)) ≡ cond b (max (greatest x.head) (greatest_number identity rs)) (greatest_number identity rs)
  by true rest = ap (λ (n : ℕ). max (greatest x.head) n) rest
  by false rest = rest

pub in_mapped : {X : Type 0} (f : X → Spot) (xs : List X) (x : X) → Contains xs x → is_in (map f xs) (f x) ≡ true
in_mapped f [] x has = absurd (omega (arith, has.1))
in_mapped f (y ∷ ys) x has = elim (first_or_behind y x ys has) [
  | inl here ↦ or_left (same_spot (f y) (f x)) (is_in (map f ys) (f x)) (ap (λ z. same_spot (f z) (f x)) here ∙ same_self (f x))
  | inr there ↦ or_right (same_spot (f y) (f x)) (is_in (map f ys) (f x)) (in_mapped f ys x there)
]

pub same_identity_is : (a b : Identity) → same_identity a b ≡ true → a ≡ b
same_identity_is a b is =
    let one : a.fresh ≡ b.fresh = grind (arith, nat_tests) in
    let two : a.number ≡ b.number = grind (arith, nat_tests) in
    λ i. record { fresh = one i; number = two i }

-- where a replica lies, as its master says
pub lies_at : (site : Site) (r : Replica) → IsSeated site r → place_of r ≡ (at_of r).place
lies_at site r is = λ i. record { slice = is.formed.of_place.slice i; start = is.formed.of_place.start i; blocks = is.length i }

pub seated_place : (site : Site) (identity : Identity) (p : Place) (text : ℕ) (r : Replica) → IsSeated site r → is_seated identity p text r ≡ true → (at_of r).place ≡ p
seated_place site identity p text r is seated =
    sym (lies_at site r is) ∙ (same_place-true (place_of r) p).0 (and_first (same_place (place_of r) p) (nat_le text (slot_blocks r.first.blocks)) (and_second (is_of identity r) (same_place (place_of r) p && nat_le text (slot_blocks r.first.blocks)) seated))

pub seated_own : (identity : Identity) (p : Place) (text : ℕ) (r : Replica) → is_seated identity p text r ≡ true → is_of identity r ≡ true
seated_own identity p text r seated = and_first (is_of identity r) (same_place (place_of r) p && nat_le text (slot_blocks r.first.blocks)) seated

seated_room : (identity : Identity) (p : Place) (text : ℕ) (r : Replica) → is_seated identity p text r ≡ true → text ≤ slot_blocks r.first.blocks
seated_room identity p text r seated =
    leb-true text (slot_blocks r.first.blocks) (and_second (same_place (place_of r) p) (nat_le text (slot_blocks r.first.blocks)) (and_second (is_of identity r) (same_place (place_of r) p && nat_le text (slot_blocks r.first.blocks)) seated))

-- What is in hand is in order, whatever the drives have.
module _ (site : Site) (replicas : List Replica) (newest : Newest) (hand : Hand) (is : IsHandOf replicas newest hand) (seated : (r : Replica) → Contains replicas r → IsSeated site r) (enough : short_of More hand.seats newest.table.plan.lists ≡ None) where
  abbrev text : ℕ
  text = blocks_for (record_bytes newest.table)

  abbrev places : List Place
  places = places_of newest.table.plan.lists

  -- a replica of the hand
  pub in_hand_is : (r : Replica) → Contains (replicas_of hand.seats) r → (p : Place) × Contains replicas r × (is_seated hand.identity p text r ≡ true)
  in_hand_is r has = (let one = seated_at replicas hand.identity text places r (subst (λ (ss : List Seat). Contains (replicas_of ss) r) is.seats_are has) in (one.0, one.1, one.2))

  pub hand_seats : AreSeatsOf newest.table hand.seats
  hand_seats = record {
    places = ap (map (λ (s : Seat). s.place)) is.seats_are ∙ seats_places replicas hand.identity text places;
    some = omega (arith, some_more hand.seats newest.table.plan.lists enough, active_most hand.seats);
    few = is.few;
    at = λ s r has some.
        let one = seat_of_replica replicas hand.identity text places s r (subst (λ (ss : List Seat). Contains ss s) is.seats_are has) some in
        seated_place site hand.identity s.place text r (seated r one.found) one.seated;
  }

  pub hand_ready : hand.number < 2 ^ 63 → IsReadied hand newest.table
  hand_ready small = record {
    seats = hand_seats;
    enough = enough;
    room = λ r has. (let one = in_hand_is r has in seated_room hand.identity one.0 text r one.2);
    one = λ s t has_s has_t same.
        let a = unmapped (seat_for replicas hand.identity text) places s (subst (λ (ss : List Seat). Contains ss s) is.seats_are has_s) in
        let b = unmapped (seat_for replicas hand.identity text) places t (subst (λ (ss : List Seat). Contains ss t) is.seats_are has_t) in
        ap (λ (x : Seat). x.replica) (sym a.2) ∙ ap (λ (p : Place). find (is_seated hand.identity p text) replicas) (ap (λ (x : Seat). x.place) a.2 ∙ same ∙ sym (ap (λ (x : Seat). x.place) b.2)) ∙ ap (λ (x : Seat). x.replica) b.2;
    next = ap (map (λ (s : Seat). s.place)) is.next_are ∙ seats_places replicas hand.identity text (again_of newest.table.plan.lists);
    next_few = is.next_few;
    whole = is.room_is;
    short = λ r has. (let one = in_hand_is r has in let at = seated r one.1 in omega (arith, at.formed.of_place.most, at.length));
    small = small;
    above = λ r has. (let one = in_hand_is r has in let most = greatest_most hand.identity replicas r one.1 (seated_own hand.identity one.0 text r one.2) in omega (arith, most, is.number_is));
  }

-- a replica lies within its drive
pub seated_laid : (sizes : List ℕ) (site : Site) (r : Replica) → IsOnShelf sizes site → IsSeated site r → IsLaid sizes r
seated_laid sizes site r on at = record {
  placed = record {
    drive = (on.drives.each r.line.at.drive (on.brought r.line at.one_of)).known;
    least = omega (arith, at.formed.of_place.least, at.length);
    within = subst (λ (s : List ℕ). (at_of r).first + r.first.blocks ≤ slice_index_or s r.line.at.drive.0 0) on.sizes_are (omega (arith, at.formed.of_place.within, at.length));
    size = subst (λ (s : List ℕ). slice_index_or s r.line.at.drive.0 0 < 2 ^ 64) on.sizes_are (on.small r.line at.one_of);
  };
  short = omega (arith, at.formed.of_place.most, at.length);
}

-- and of what was read
module _ (g : Geometry) (key : Key) (replicas : List Replica) (newest : Newest) (hand : Hand) (is : IsHandOf replicas newest hand) (seated : (r : Replica) → Contains replicas r → IsSeated (site_of g key) r)
    (enough : short_of More hand.seats newest.table.plan.lists ≡ None) (marks : IsGreatest replicas newest) (t : Tale) (was : WasReadOf g (site_of g key) replicas newest t) where
  abbrev at : Site
  at = site_of g key

  abbrev Sp : List ℕ → Table → Type 0
  Sp = Spells g

  abbrev seen : List Seen
  seen = own_seen hand.identity replicas

  own_at : (r : Replica) → Contains replicas r → is_of hand.identity r ≡ true → Everywhere (λ image. IsOwn Sp at hand.identity r.line r.number image r.first r.head) t
  own_at r has own image im = record {
    found = subst (λ (c : ℕ → List ℕ). IsFound Sp at r.line r.number c r.first r.head) (sym (image_synced r.line.at.drive.0 t (was.synced r has) image im))
        (was.each r has);
    of_identity = same_identity_is r.head.master.identity hand.identity own;
  }

  own_seen_at : Everywhere (λ image. AreOwn Sp at hand.identity image seen) t
  own_seen_at image im s has =
      let one = own_is hand.identity replicas s has in
      subst (λ (x : Seen). IsOwn Sp at hand.identity x.line x.number image x.first x.head) one.3 (own_at one.0 one.1 one.2 image im)

  -- no two of different places are at one spot
  one_spot : (r x : Replica) → Contains replicas r → Contains replicas x → spot_of r ≡ spot_of x → (at_of r).place ≡ (at_of x).place
  one_spot r x has_r has_x same = elim ((site_is g key was.sound).apart r.line x.line (seated r has_r).one_of (seated x has_x).one_of) [
    | inl lines ↦ same_line r x (seated r has_r) (seated x has_x) (was.each r has_r) (was.each x has_x) lines (ap (λ (p : Spot). p.first) same)
    | inr apart ↦ absurd (apart (drive_of r) (at_of r).first
        (range_has (drive_of r) r.line.at.start r.line.at.blocks (at_of r).first (omega arith) (let one = seated r has_r in omega (arith, one.within, one.formed.of_place.least, one.length)))
        (subst (λ (d : ℕ). line_area x.line d (at_of r).first ≡ true) (sym (ap (λ (p : Spot). p.drive.0) same)) (subst (λ (b : ℕ). line_area x.line (drive_of x) b ≡ true) (sym (ap (λ (p : Spot). p.first) same))
        (range_has (drive_of x) x.line.at.start x.line.at.blocks (at_of x).first (omega arith) (let one = seated x has_x in omega (arith, one.within, one.formed.of_place.least, one.length))))))
  ]
    where
      same_line : (r x : Replica) → IsSeated at r → IsSeated at x → IsFoundIn g at (last t) r → IsFoundIn g at (last t) x → r.line ≡ x.line → (at_of r).first ≡ (at_of x).first → (at_of r).place ≡ (at_of x).place
      same_line r x one two found other lines firsts =
          let first : r.first ≡ x.first =
          one_master x.line (size_on at x.line) (last t x.line.at.drive.0 (x.line.at.start + 16)) r.first x.first
          (subst (λ (l : SliceLine). IsMasterAt (place_on l 8192 0 0) (size_on at l) (last t l.at.drive.0 (l.at.start + 16)) r.first) lines found.located) other.located in
          let start : 16 + r.number * r.first.blocks ≡ 16 + x.number * x.first.blocks = omega (arith, firsts, ap (λ (l : SliceLine). l.at.start) lines) in
          λ i. record { slice = (lines i).name; start = start i; blocks = (first i).blocks }

  apart_spots : (p q : Place) (r x : Replica) → Contains replicas r → Contains replicas x → is_seated hand.identity p (blocks_for (record_bytes newest.table)) r ≡ true → is_seated hand.identity q (blocks_for (record_bytes newest.table)) x ≡ true
      → (p ≡ q → ⊥) → same_spot (spot_of r) (spot_of x) ≡ false
  apart_spots p q r x has_r has_x seat_r seat_x differ = by (same_spot (spot_of r) (spot_of x)) refl where
    equal : same_spot (spot_of r) (spot_of x) ≡ true → ⊥
    equal so =
        let one = seated_place at hand.identity p (blocks_for (record_bytes newest.table)) r (seated r has_r) seat_r in
        let two = seated_place at hand.identity q (blocks_for (record_bytes newest.table)) x (seated x has_x) seat_x in
        differ (sym one ∙ one_spot r x has_r has_x (same_is (spot_of r) (spot_of x) so) ∙ two)

    by : (b : Bool) → same_spot (spot_of r) (spot_of x) ≡ b → same_spot (spot_of r) (spot_of x) ≡ false
    by true so = absurd (equal so)
    by false so = so

  its_record : IsOfGeometry g newest.table
  its_record = (spelled_of g _ newest.table was.sound was.table.shows.text).of_geometry

  held : AreHeld g key hand.identity hand.seats t
  held = record {
    each = λ r has. (let one = in_hand_is at replicas newest hand is seated enough r has in own_at r one.1 (seated_own hand.identity one.0 _ r one.2));
    once = subst (λ (ss : List Seat). AllPairs (λ (p q : Spot). same_spot p q ≡ false) (spots_of ss)) (sym is.seats_are)
        (seats_once replicas hand.identity (blocks_for (record_bytes newest.table)) apart_spots (places_of newest.table.plan.lists) (listed_once g newest.table.plan.lists its_record.lists));
  }

  abbrev are : AreSeatsOf newest.table hand.seats
  are = hand_seats at replicas newest hand is seated enough

  lie : (r : Replica) → Contains (replicas_of hand.seats) r → Contains (lines_of g key) r.line
  lie r has = (let one = in_hand_is at replicas newest hand is seated enough r has in (seated r one.1).one_of)

  in_seen : (r : Replica) → Contains (replicas_of hand.seats) r → is_in (spots_seen seen) (spot_of r) ≡ true
  in_seen r has =
      let one = in_hand_is at replicas newest hand is seated enough r has in
      in_mapped (λ (s : Seen). spot_on s.line s.first.blocks s.number) seen (seen_of r) (own_has hand.identity replicas r one.1 (seated_own hand.identity one.0 _ r one.2))

  named : AreNamed at newest.table hand.seats
  named r has = by newest.table.plan.lists are.places where
    seat : (s : Seat) × Contains hand.seats s × (s.replica ≡ Some r)
    seat = seat_of hand.seats r has

    listed : (ps : List Place) → map (λ (s : Seat). s.place) hand.seats ≡ ps → Contains ps seat.0.place
    listed ps same = subst (λ (l : List Place). Contains l seat.0.place) same (mapped (λ (s : Seat). s.place) hand.seats seat.0 seat.1)

    in_list : (ps : List Place) → Contains ps seat.0.place → is_in (map (spot_at g key was.sound) ps) (spot_of r) ≡ true
    in_list ps there =
        let spot = spot_is g key was.sound r seat.0.place (lie r has) (are.at seat.0 r seat.1 seat.2) in
        subst (λ (p : Spot). is_in (map (spot_at g key was.sound) ps) p ≡ true) spot (in_mapped (spot_at g key was.sound) ps seat.0.place there)

    by : (lists : Lists) → map (λ (s : Seat). s.place) hand.seats ≡ places_of lists → is_named (lists_of_spots at lists) (spot_of r) ≡ true
    by (One ps) same = or_left (is_in (map (spot_at g key was.sound) ps) (spot_of r)) false (in_list ps (listed ps same))
    by (Two old new) same = elim (Contains-append_cases old (beside old new) seat.0.place (listed (old ++ beside old new) same)) [
      | inl first ↦ or_left (is_in (map (spot_at g key was.sound) old) (spot_of r)) (is_in (map (spot_at g key was.sound) new) (spot_of r)) (in_list old first)
      | inr last ↦ or_right (is_in (map (spot_at g key was.sound) old) (spot_of r)) (is_in (map (spot_at g key was.sound) new) (spot_of r)) (in_list new (part_has (beside old new) new seat.0.place (part_filter (λ (p : Place). not (list_any (same_place p) old)) new) last))
    ]

  -- the replica that shows it
  module _ (replica : Replica) (one_of : slice_get replicas newest.replica ≡ Some replica) (has_one : Contains replicas replica) (own_one : is_of hand.identity replica ≡ true) where
    same_one : (r : Replica) → slice_get replicas newest.replica ≡ Some r → r ≡ replica
    same_one r is_r = cc (is_r, one_of)

    chosen : IsChosen seen (seen_of replica) newest.slot newest.mark
    chosen = record {
      one_of = own_has hand.identity replicas replica has_one own_one;
      bytes = marks.bytes;
      gate = subst (λ (r : Replica). gate_of r.head newest.slot ≡ Open newest.mark marks.bytes) (same_one marks.replica marks.one_of) marks.gate;
      greatest = λ o other m n has is_open below.
          let one = own_is hand.identity replicas o has in
          marks.greatest one.0 one.1 other m n (subst (λ (s : Seen). gate_of s.head other ≡ Open m n) (sym one.3) is_open) below;
    }

    shows_at : Everywhere (λ image. SlotShows Sp (at_of replica) (image replica.line.at.drive.0) replica.head newest.slot newest.mark newest.table) t
    shows_at image im =
        let there = subst (λ (r : Replica). SlotShows Sp (at_of r) (last t r.line.at.drive.0) r.head newest.slot newest.mark newest.table) (same_one was.table.replica was.table.one_of) was.table.shows in
        subst (λ (c : ℕ → List ℕ). SlotShows Sp (at_of replica) c replica.head newest.slot newest.mark newest.table) (sym (image_synced replica.line.at.drive.0 t (was.synced replica has_one) image im))
        (record { bytes = there.bytes; gate = there.gate; text = there.text })

    pub to_adopt : IsToAdopt g key hand newest.table t
    to_adopt = record {
      sound = was.sound;
      of_geometry = its_record;
      seen = seen;
      s = seen_of replica;
      slot = newest.slot;
      mark = newest.mark;
      read = record { own = own_seen_at; chosen = chosen; shows = shows_at; quorum = enough_read g key was.sound newest.table hand.seats (is_in (spots_seen seen)) are lie in_seen enough };
      number_is = is.number_is ∙ ap (λ (n : ℕ). n + 1) (sym (own_greatest hand.identity replicas));
      held = held;
      named = named;
    }

    -- and what was read of these drives, if these replicas are all that lie there, and no other database's shows a table
    pub read_on : (up : Drives) → AreJustOn g at up replicas t → hand.number < 2 ^ 63 → ((r : Replica) → Contains replicas r → shows r.head ≡ true → is_of hand.identity r ≡ true)
        → WasReadOn up g at hand.identity newest.table.plan.lists (last t) to_adopt.seen to_adopt.mark
    unfolding to_adopt
    read_on up just small alone = record {
      sound = was.sound;
      own = own_seen_at (last t) (last_image t);
      on = λ s has. (let one = own_is hand.identity replicas s has in subst (λ (x : Seen). has_drive up x.line.at.drive ≡ true) one.3 (just.on one.0 one.1));
      all = λ r found so own. own_has hand.identity replicas r (just.all r found so) own;
      one = λ r found so shown. alone r (just.all r found so) shown;
      s = seen_of replica;
      slot = newest.slot;
      table = newest.table;
      chosen = chosen;
      shown = shows_at (last t) (last_image t);
      listed = refl;
      quorum = to_adopt.read.quorum;
      small = omega (arith, small, is.number_is, own_greatest hand.identity replicas);
    }
