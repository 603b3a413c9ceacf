-- The seats that are asked for, one by one.
use Rattle.std.proofs.Common.{◌≡◌, ◌⊎◌, inl, inr, ℕ, zero, suc, ◌+◌, ◌*◌, ◌<◌, ◌≤◌, false, true, List, [], ◌∷◌, ◌++◌, length, map, Contains, Some, refl, sym, ◌∙◌, ap, subst, arith}
use Rattle.std.specs.Prelude.{All, AllPairs}
use Rattle.std.proofs.lemmas.Bool.{false_from_ne_true}
use Rattle.std.proofs.lemmas.List.{length-map}
use Rattle.std.proofs.lemmas.List.Elements.{All-append, All-cons, All-nil, Contains-append_left, Contains-append_right}
use Rattle.mdv_encoding.proofs.Lengths.{bytes_are, length-lists_text, length-record_text, rest_bytes}
use Rattle.mdv_encoding.specs.Room.{least_slot_bytes}
use Rattle.mdv_fields.specs.Numbers.{u16_text}
use Rattle.mdv_fields.specs.Reading.{long_text, short_text}
use Rattle.mdv_fields.specs.Sets.{set_text}
use Rattle.mdv_plan.specs.Table.{empty_table}
use Rattle.mdv_shelf.specs.Area.{AreApart}
use Rattle.mdv_shown.proofs.Elsewhere.{places_step, range_has}
use Rattle.mdv_shown.specs.Site.{line_area}
use Rattle.mdv_store.specs.Below.{Identity, Key, Place, Replica, SliceLine, Spot, at_of, places_of, record_bytes, record_text, same_spot, spot_on}
use Rattle.mdv_acts.specs.Asked.{AreAsked}
use Rattle.mdv_store.specs.Create.{replica_on, seat_on, seats_asked, seats_on, table_of}
use Rattle.mdv_store.specs.Opened.{AreSeatsOf, least_room}
use Rattle.mdv_store.specs.Seats.{AreLaid, HaveRoom, IsLaid, replicas_of, spots_of}
use Rattle.mdv_store.specs.Text.{blocks_for}
use Rattle.mdv_store.specs.declared.seats.Seat.{Seat}
use Rattle.mdv_config.proofs.Pairs.{AllPairs-cons}
use Rattle.mdv_votes.proofs.Meeting.{same_is}
use Rattle.mdv_acts.proofs.Asked.{few_of, placed_asked, within_line}
use Rattle.mdv_store.proofs.Given.{ArePairsApart}
use Rattle.mdv_store.proofs.Rooms.{have_room}
use Rattle.mdv_store.proofs.Sitting.{contains_behind, contains_first, first_or_behind, replica_of, seat_of}
use Rattle.mdv_store.proofs.Spotting.{asked_length, spots_more}

in_either : {X : Type 0} (xs ys : List X) (x : X) → Contains (xs ++ ys) x → Contains xs x ⊎ Contains ys x
in_either [] ys x has = inr has
in_either (y ∷ xs) ys x has = elim (first_or_behind y x (xs ++ ys) has) [
  | inl here ↦ inl (subst (λ z. Contains (y ∷ xs) z) here (contains_first y xs))
  | inr behind ↦ elim (in_either xs ys x behind) [ inl front ↦ inl (contains_behind y x xs front) | inr back ↦ inr back ]
]

-- a table of places alone has 22 bytes beside them
empty_rest : (places : List Place) → rest_bytes (empty_table places) ≡ 22
unfolding set_text short_text long_text u16_text
empty_rest places = refl

some_same : {A : Type 0} (a b : A) → Some a ≡ Some b → a ≡ b
some_same a b e = cc (e)

module _ (key : Key) (identity : Identity) (count blocks : ℕ) where
  -- the seat of this number on that slice
  pub record IsSeatOf (lines : List SliceLine) (s : Seat) : Type 0 where
    pub line : SliceLine
    pub number : ℕ
    pub among : Contains lines line
    pub lt : number < count
    pub is : s ≡ seat_on key identity line count blocks number

  seat_from : (line : SliceLine) (k n : ℕ) (s : Seat) → Contains (seats_on key identity line count blocks k n) s → (j : ℕ) × (j < k + n) × (s ≡ seat_on key identity line count blocks j)
  seat_from line k zero s has = absurd (omega (arith, has.1))
  seat_from line k (suc n) s has = elim (first_or_behind (seat_on key identity line count blocks k) s (seats_on key identity line count blocks (k + 1) n) has) [
    | inl here ↦ (k, omega arith, sym here)
    | inr behind ↦ (let rest = seat_from line (k + 1) n s behind in let below = rest.1 in (rest.0, omega (arith, below), rest.2))
  ]

  pub seat_is : (lines : List SliceLine) (s : Seat) → Contains (seats_asked key identity lines count blocks) s → IsSeatOf lines s
  seat_is [] s has = absurd (omega (arith, has.1))
  seat_is (line ∷ lines) s has = elim (in_either (seats_on key identity line count blocks 0 count) (seats_asked key identity lines count blocks) s has) [
    | inl here ↦ (let one = seat_from line 0 count s here in let below = one.1 in record { line = line; number = one.0; among = contains_first line lines; lt = omega (arith, below); is = one.2 })
    | inr behind ↦ (let rest = seat_is lines s behind in record { line = rest.line; number = rest.number; among = contains_behind line rest.line lines rest.among; lt = rest.lt; is = rest.is })
  ]

  from_has : (line : SliceLine) (k n j : ℕ) → k ≤ j → j < k + n → Contains (seats_on key identity line count blocks k n) (seat_on key identity line count blocks j)
  from_has line k zero j up lt = absurd (omega (arith, up, lt))
  from_has line k (suc n) j up lt = elim (at_or_behind k j up) [
    | inl here ↦ subst (λ (i : ℕ). Contains (seats_on key identity line count blocks k (suc n)) (seat_on key identity line count blocks i)) here (contains_first (seat_on key identity line count blocks k) (seats_on key identity line count blocks (k + 1) n))
    | inr behind ↦ contains_behind (seat_on key identity line count blocks k) (seat_on key identity line count blocks j) (seats_on key identity line count blocks (k + 1) n) (from_has line (k + 1) n j behind (omega (arith, lt)))
  ]
    where
      at_or_behind : (k j : ℕ) → k ≤ j → (k ≡ j) ⊎ (k + 1 ≤ j)
      at_or_behind k j up = grind (arith, up)

  pub seats_have : (lines : List SliceLine) (line : SliceLine) (j : ℕ) → Contains lines line → j < count → Contains (seats_asked key identity lines count blocks) (seat_on key identity line count blocks j)
  seats_have [] line j has lt = absurd (omega (arith, has.1))
  seats_have (x ∷ lines) line j has lt = elim (first_or_behind x line lines has) [
    | inl here ↦ Contains-append_left (seats_on key identity x count blocks 0 count) (seats_asked key identity lines count blocks) (seat_on key identity line count blocks j)
        (subst (λ (l : SliceLine). Contains (seats_on key identity x count blocks 0 count) (seat_on key identity l count blocks j)) here (from_has x 0 count j (omega arith) (omega (arith, lt))))
    | inr behind ↦ Contains-append_right (seats_on key identity x count blocks 0 count) (seats_asked key identity lines count blocks) (seat_on key identity line count blocks j) (seats_have lines line j behind lt)
  ]

  module _ (lines : List SliceLine) where
    abbrev seats : List Seat
    seats = seats_asked key identity lines count blocks

    -- each replica is that of a seat
    pub record IsReplicaOf (r : Replica) : Type 0 where
      pub line : SliceLine
      pub number : ℕ
      pub among : Contains lines line
      pub lt : number < count
      pub is : r ≡ replica_on key identity line count blocks number

    pub replica_is : (r : Replica) → Contains (replicas_of seats) r → IsReplicaOf r
    replica_is r has =
        let seat = seat_of seats r has in
        let one = seat_is lines seat.0 seat.1 in
        record {
          line = one.line;
          number = one.number;
          among = one.among;
          lt = one.lt;
          is = some_same r (replica_on key identity one.line count blocks one.number) (sym seat.2 ∙ ap (λ (s : Seat). s.replica) one.is);
        }

    pub replicas_have : (line : SliceLine) (j : ℕ) → Contains lines line → j < count → Contains (replicas_of seats) (replica_on key identity line count blocks j)
    replicas_have line j has lt = replica_of seats (seat_on key identity line count blocks j) (replica_on key identity line count blocks j) (seats_have lines line j has lt) refl

    module _ (sizes : List ℕ) (asked : AreAsked sizes lines count blocks) where
      pub some_asked : 1 ≤ length lines * count
      some_asked = (let each = few_of (length lines) count asked.some in let more = asked.more in omega (arith, each, more))

      pub seats_of_table : AreSeatsOf (table_of seats) seats
      seats_of_table = record {
        places = refl;
        some = (let all = asked_length key identity count blocks lines in let one = some_asked in omega (arith, all, one));
        few = (let all = asked_length key identity count blocks lines in let few = asked.few in omega (arith, all, few));
        at = λ s r has is.
            let one = seat_is lines s has in
            let same : r ≡ replica_on key identity one.line count blocks one.number = some_same r (replica_on key identity one.line count blocks one.number) (sym is ∙ ap (λ (x : Seat). x.replica) one.is) in
            ap (λ (x : Replica). (at_of x).place) same ∙ ap (λ (x : Seat). x.place) (sym one.is);
      }

      pub seats_laid : AreLaid sizes seats
      seats_laid r has =
          let one = replica_is r has in
          subst (λ (x : Replica). IsLaid sizes x) (sym one.is) (record { placed = (placed_asked sizes lines count blocks one.line asked one.among one.number one.lt).placed; short = asked.most })

      -- the smallest slot, and the table's text
      room_least : (some : List Seat) → ((s : Seat) → Contains some s → s.place.blocks ≡ blocks) → 6 ≤ least_room (map (λ (s : Seat). s.place) some)
      room_least [] sized = omega arith
      room_least (s ∷ some) sized =
          let here = sized s (contains_first s some) in
          let rest = room_least some (λ x has. sized x (contains_behind s x some has)) in
          let least = asked.least in
          omega (arith, here, rest, least)

      pub room_asked : 6 ≤ least_room (map (λ (s : Seat). s.place) seats)
      room_asked = room_least seats (λ s has. (let one = seat_is lines s has in ap (λ (x : Seat). x.place.blocks) one.is))

      pub text_asked : record_bytes (table_of seats) ≡ 24 + 12 * (length lines * count)
      text_asked =
          let places = map (λ (s : Seat). s.place) seats in
          let counted : length places ≡ length lines * count = length-map seats (λ (s : Seat). s.place) ∙ asked_length key identity count blocks lines in
          let bytes : length (record_text (table_of seats)) ≡ 24 + 12 * (length lines * count) = omega (arith, length-record_text (table_of seats), length-lists_text (table_of seats).plan.lists, empty_rest places, counted) in
          let few = asked.few in
          bytes_are (table_of seats) (omega (arith, bytes, few)) ∙ bytes

      pub text_fits : record_bytes (table_of seats) ≤ least_slot_bytes (places_of (table_of seats).plan.lists)
      text_fits =
          let bytes = text_asked in
          let few = asked.few in
          let least = room_asked in
          omega (arith, bytes, few, least)

      pub room_for_text : HaveRoom (blocks_for (record_bytes (table_of seats))) seats
      room_for_text =
          let bytes = text_asked in
          have_room (table_of seats) seats (record_bytes (table_of seats)) seats_of_table (omega (arith, bytes)) text_fits

  -- No two of their spots are one.
  abbrev Differ : Spot → Spot → Type 0
  Differ p q = same_spot p q ≡ false

  differ : (p q : Spot) → (p ≡ q → ⊥) → Differ p q
  differ p q none = false_from_ne_true (same_spot p q) (λ is. none (same_is p q is))

  module _ (least : 16 ≤ blocks) where
    later_differ : (line : SliceLine) (j k : ℕ) → j < k → Differ (spot_on line blocks j) (spot_on line blocks k)
    later_differ line j k lt = differ (spot_on line blocks j) (spot_on line blocks k) (λ same.
        let first : line.at.start + (16 + j * blocks) ≡ line.at.start + (16 + k * blocks) = ap (λ (p : Spot). p.first) same in
        let step = places_step j k blocks lt in
        omega (arith, first, step, least))

    all_later : (line : SliceLine) (j k n : ℕ) → j < k → All (Differ (spot_on line blocks j)) (spots_of (seats_on key identity line count blocks k n))
    all_later line j k zero lt = All-nil (Differ (spot_on line blocks j))
    all_later line j k (suc n) lt = All-cons (Differ (spot_on line blocks j)) (spot_on line blocks k) (spots_of (seats_on key identity line count blocks (k + 1) n)) (later_differ line j k lt) (all_later line j (k + 1) n (omega (arith, lt)))

    module _ (a b : SliceLine) (apart : AreApart (line_area a) (line_area b)) where
      beside_differ : (j k : ℕ) → 16 + j * blocks + blocks ≤ a.at.blocks → 16 + k * blocks + blocks ≤ b.at.blocks → Differ (spot_on a blocks j) (spot_on b blocks k)
      beside_differ j k fits also = differ (spot_on a blocks j) (spot_on b blocks k) (λ same.
          let in_a = range_has a.at.drive.0 a.at.start a.at.blocks (a.at.start + (16 + j * blocks)) (omega arith) (omega (arith, fits, least)) in
          let in_b = range_has b.at.drive.0 b.at.start b.at.blocks (b.at.start + (16 + k * blocks)) (omega arith) (omega (arith, also, least)) in
          let drive : b.at.drive.0 ≡ a.at.drive.0 = ap (λ (p : Spot). p.drive.0) (sym same) in
          let first : b.at.start + (16 + k * blocks) ≡ a.at.start + (16 + j * blocks) = ap (λ (p : Spot). p.first) (sym same) in
          apart a.at.drive.0 (a.at.start + (16 + j * blocks)) in_a (subst (λ (n : ℕ). line_area b n (a.at.start + (16 + j * blocks)) ≡ true) drive (subst (λ (x : ℕ). line_area b b.at.drive.0 x ≡ true) first in_b)))

      all_beside : (j k n : ℕ) → 16 + j * blocks + blocks ≤ a.at.blocks → 16 + count * blocks ≤ b.at.blocks → k + n ≤ count → All (Differ (spot_on a blocks j)) (spots_of (seats_on key identity b count blocks k n))
      all_beside j k zero fits also within = All-nil (Differ (spot_on a blocks j))
      all_beside j k (suc n) fits also within =
          All-cons (Differ (spot_on a blocks j)) (spot_on b blocks k) (spots_of (seats_on key identity b count blocks (k + 1) n)) (beside_differ j k fits (within_line b count blocks k also (omega (arith, within)))) (all_beside j (k + 1) n fits also (omega (arith, within)))

    abbrev SpotsOf : List SliceLine → List Spot
    SpotsOf lines = spots_of (seats_asked key identity lines count blocks)

    all_others : (line : SliceLine) (j : ℕ) → 16 + j * blocks + blocks ≤ line.at.blocks → (lines : List SliceLine) → ((other : SliceLine) → Contains lines other → AreApart (line_area line) (line_area other))
        → ((other : SliceLine) → Contains lines other → 16 + count * blocks ≤ other.at.blocks) → All (Differ (spot_on line blocks j)) (SpotsOf lines)
    all_others line j fits [] apart within = All-nil (Differ (spot_on line blocks j))
    all_others line j fits (x ∷ lines) apart within =
        subst (λ (l : List Spot). All (Differ (spot_on line blocks j)) l) (sym (spots_more (seats_on key identity x count blocks 0 count) (seats_asked key identity lines count blocks)))
        (All-append (Differ (spot_on line blocks j)) (spots_of (seats_on key identity x count blocks 0 count)) (SpotsOf lines) (all_beside line x (apart x (contains_first x lines)) j 0 count fits (within x (contains_first x lines)) (omega arith))
        (all_others line j fits lines (λ l has. apart l (contains_behind x l lines has)) (λ l has. within l (contains_behind x l lines has))))

    pairs_from : (line : SliceLine) (k n : ℕ) (behind : List Spot) → k + n ≤ count → AllPairs Differ behind → ((j : ℕ) → j < count → All (Differ (spot_on line blocks j)) behind) → AllPairs Differ (spots_of (seats_on key identity line count blocks k n) ++ behind)
    pairs_from line k zero behind within pairs beside = pairs
    pairs_from line k (suc n) behind within pairs beside =
        AllPairs-cons Differ (spot_on line blocks k) (spots_of (seats_on key identity line count blocks (k + 1) n) ++ behind)
        (All-append (Differ (spot_on line blocks k)) (spots_of (seats_on key identity line count blocks (k + 1) n)) behind (all_later line k (k + 1) n (omega arith)) (beside k (omega (arith, within))))
        (pairs_from line (k + 1) n behind (omega (arith, within)) pairs beside)

    pub spots_once : (lines : List SliceLine) → ArePairsApart lines → ((other : SliceLine) → Contains lines other → 16 + count * blocks ≤ other.at.blocks) → AllPairs Differ (SpotsOf lines)
    spots_once [] apart within = λ i j d below lt. absurd (omega (arith, lt))
    spots_once (line ∷ lines) apart within =
        let behind = spots_once lines apart.1 (λ l has. within l (contains_behind line l lines has)) in
        subst (λ (l : List Spot). AllPairs Differ l) (sym (spots_more (seats_on key identity line count blocks 0 count) (seats_asked key identity lines count blocks)))
        (pairs_from line 0 count (SpotsOf lines) (omega arith) behind
        (λ j lt. all_others line j (within_line line count blocks j (within line (contains_first line lines)) lt) lines apart.0 (λ l has. within l (contains_behind line l lines has))))
