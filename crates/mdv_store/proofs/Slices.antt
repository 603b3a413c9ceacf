-- The places of all slices are formatted, slice by slice.
use Rattle.std.proofs.Common.{◌≡◌, ◌⊎◌, inl, inr, ℕ, zero, suc, ◌+◌, ◌<◌, ◌≤◌, List, [], ◌∷◌, ◌++◌, Contains, refl, sym, ◌∙◌, ap, subst, append_assoc, append-nil, arith}
use Rattle.std.specs.Prelude.{flat_map}
use Rattle.std.proofs.lemmas.Bool.{cases_eq}
use Rattle.mdv_shelf.specs.Area.{AreApart}
use Rattle.mdv_shown.specs.Site.{line_area}
use Rattle.mdv_acts.specs.Acts.{Act, AreDoing, AreDone, IsDone, form_on, forms_from, forms_on}
use Rattle.mdv_store.specs.Below.{Identity, Key, SliceLine, Spot, Tale, spot_on}
use Rattle.mdv_store.specs.Create.{seats_asked, seats_on}
use Rattle.mdv_store.specs.Seats.{spots_of}
use Rattle.mdv_acts.proofs.Acting.{done_split, doing_split}
use Rattle.mdv_store.proofs.Given.{ArePairsApart}
use Rattle.mdv_store.proofs.Places.{AreNow, GoesOn, IsNext, OfPlaces}
use Rattle.mdv_store.proofs.Sitting.{contains_behind, contains_first, first_or_behind}
use Rattle.mdv_store.proofs.Spotting.{spots_more}

flip : (a b : SliceLine) → AreApart (line_area a) (line_area b) → AreApart (line_area b) (line_area a)
flip a b apart drive block in_b in_a = apart drive block in_a in_b

module _ (key : Key) (identity : Identity) (lines : List SliceLine) (count blocks claim : ℕ) (State : OfPlaces → OfPlaces → List Spot → List Spot → Tale → Type 0) (At : Tale → Type 0) (steps : GoesOn key identity lines count blocks claim State At) where
  -- One slice.
  module _ (Done Blank : OfPlaces) (line : SliceLine) (one_of : Contains lines line) (apart_done : (other : SliceLine) (j : ℕ) → Done other j → AreApart (line_area line) (line_area other))
      (apart_blank : (other : SliceLine) (from : ℕ) → Blank other from → AreApart (line_area line) (line_area other)) where
    abbrev DoneTo : ℕ → OfPlaces
    DoneTo k other j = Done other j ⊎ ((other ≡ line) × (j < k))

    abbrev BlankTo : ℕ → OfPlaces
    BlankTo k other from = Blank other from ⊎ ((other ≡ line) × (k + 1 ≤ from))

    beside : (k : ℕ) (other : SliceLine) (j : ℕ) → DoneTo k other j → ((other ≡ line) × (j < k)) ⊎ AreApart (line_area line) (line_area other)
    beside k other j (inl done) = inr (apart_done other j done)
    beside k other j (inr same) = inl same

    front : (k : ℕ) → (k ≡ 0) ⊎ ((j : ℕ) × (k ≡ j + 1) × DoneTo k line j)
    front zero = inl refl
    front (suc j) = inr (j, omega arith, inr (refl, omega arith))

    back : (k : ℕ) (other : SliceLine) (j : ℕ) → DoneTo (k + 1) other j → DoneTo k other j ⊎ ((other ≡ line) × (j ≡ k))
    back k other j (inl done) = inl (inl done)
    back k other j (inr same) = (let below = same.1 in elim (cases_eq j k) [ inl here ↦ inr (same.0, here) | inr differs ↦ inl (inr (same.0, omega (arith, below, differs))) ])

    to : (k : ℕ) (other : SliceLine) (j : ℕ) → DoneTo k other j → DoneTo (k + 1) other j
    to k other j (inl done) = inl done
    to k other j (inr same) = (let below = same.1 in inr (same.0, omega (arith, below)))

    less : (k : ℕ) (other : SliceLine) (from : ℕ) → BlankTo (k + 1) other from → BlankTo k other from × (((other ≡ line) × (k < from)) ⊎ AreApart (line_area line) (line_area other))
    less k other from (inl blank) = (inl blank, inr (apart_blank other from blank))
    less k other from (inr same) = (let up = same.1 in (inr (same.0, omega (arith, up)), inl (same.0, omega (arith, up))))

    abbrev Spots : ℕ → ℕ → List Spot
    Spots k n = spots_of (seats_on key identity line count blocks k n)

    -- its places from this number on
    slice_from : (n k : ℕ) (part due : List Spot) (u : Tale) → k + n ≡ count → State (DoneTo k) (BlankTo k) part (Spots k n ++ due) u
        → ((m : Tale) → AreDoing (forms_from key identity claim line count blocks k n) u m → At m) × ((v : Tale) → AreDone (forms_from key identity claim line count blocks k n) u v → State (DoneTo count) (BlankTo count) (part ++ Spots k n) due v)
    slice_from zero k part due u whole s =
        let last : k ≡ count = omega (arith, whole) in (
          λ m is. subst At (sym is) (steps.here (DoneTo k) (BlankTo k) part due u s),
          λ v is. subst (λ (w : Tale). State (DoneTo count) (BlankTo count) (part ++ []) due w) (sym is)
              (subst (λ (l : List Spot). State (DoneTo count) (BlankTo count) l due u) (sym (append-nil part)) (subst (λ (i : ℕ). State (DoneTo i) (BlankTo i) part due u) last s)),
        )
    slice_from (suc n) k part due u whole s =
        let lt : k < count = omega (arith, whole) in
        let next : k + 1 + n ≡ count = omega (arith, whole) in
        let rest : List Spot = Spots (k + 1) n ++ due in
        let comes : IsNext lines count (DoneTo k) (BlankTo k) line k = record { among = one_of; lt = lt; beside = beside k; blank = inr (refl, omega arith); front = front k } in
        let now : AreNow (DoneTo k) (BlankTo k) line k (DoneTo (k + 1)) (BlankTo (k + 1)) = record { back = back k; to = to k; new = inr (refl, omega arith); less = less k } in
        let one = steps.forming (DoneTo k) (BlankTo k) part rest u line k comes s in
        let formed = λ (w : Tale) (done : IsDone (form_on key identity claim line count blocks k) u w).
        slice_from n (k + 1) (part ++ spot_on line blocks k ∷ []) due w next (steps.formed (DoneTo k) (BlankTo k) (DoneTo (k + 1)) (BlankTo (k + 1)) part rest u line k comes now s w done) in (
          λ m is. elim is [
            | inl same ↦ subst At (sym same) (steps.here (DoneTo k) (BlankTo k) part (spot_on line blocks k ∷ rest) u s)
            | inr begun ↦ elim begun [
              | inl doing ↦ one m doing
              | inr behind ↦ (formed behind.0 behind.1).0 m behind.2
            ]
          ],
          λ v is.
              subst (λ (l : List Spot). State (DoneTo count) (BlankTo count) l due v) (append_assoc part (spot_on line blocks k ∷ []) (Spots (k + 1) n))
              ((formed is.0 is.1).1 v is.2),
        )

  -- All slices.
  abbrev BlankOf : List SliceLine → OfPlaces
  BlankOf rest other from = Contains rest other × (1 ≤ from)

  abbrev done_after : OfPlaces → List SliceLine → OfPlaces
  done_after Done [] = Done
  done_after Done (line ∷ rest) = done_after (λ other j. Done other j ⊎ ((other ≡ line) × (j < count))) rest

  has_after : (rest : List SliceLine) (Done : OfPlaces) (line : SliceLine) (j : ℕ) → (Contains rest line × (j < count)) ⊎ Done line j → done_after Done rest line j
  has_after [] Done line j (inl none) = absurd (let has = none.0 in omega (arith, has.1))
  has_after [] Done line j (inr done) = done
  has_after (x ∷ rest) Done line j (inl is) = elim (first_or_behind x line rest is.0) [
    | inl here ↦ has_after rest (λ other i. Done other i ⊎ ((other ≡ x) × (i < count))) line j (inr (inr (sym here, is.1)))
    | inr behind ↦ has_after rest (λ other i. Done other i ⊎ ((other ≡ x) × (i < count))) line j (inl (behind, is.1))
  ]
  has_after (x ∷ rest) Done line j (inr done) = has_after rest (λ other i. Done other i ⊎ ((other ≡ x) × (i < count))) line j (inr (inl done))

  abbrev SpotsOf : List SliceLine → List Spot
  SpotsOf rest = spots_of (seats_asked key identity rest count blocks)

  abbrev ActsOf : List SliceLine → List Act
  ActsOf rest = flat_map (forms_on key identity claim count blocks) rest

  slices : (rest : List SliceLine) (Done : OfPlaces) (part : List Spot) (u : Tale) → ((line : SliceLine) → Contains rest line → Contains lines line) → ArePairsApart rest
      → ((line other : SliceLine) (j : ℕ) → Contains rest line → Done other j → AreApart (line_area line) (line_area other)) → State Done (BlankOf rest) part (SpotsOf rest) u
      → ((m : Tale) → AreDoing (ActsOf rest) u m → At m) × ((v : Tale) → AreDone (ActsOf rest) u v → State (done_after Done rest) (λ other from. ⊥) (part ++ SpotsOf rest) [] v)
  slices [] Done part u within pairs apart s = (
    λ m is. subst At (sym is) (steps.here Done (BlankOf []) part [] u s),
    λ v is. subst (λ (w : Tale). State Done (λ other from. ⊥) (part ++ []) [] w) (sym is)
        (subst (λ (l : List Spot). State Done (λ other from. ⊥) l [] u) (sym (append-nil part))
        (steps.recast Done (BlankOf []) Done (λ other from. ⊥) part [] u (record { to = λ other j done. done; back = λ other j done. done; less = λ other from none. absurd none }) s)),
  )
  slices (line ∷ rest) Done part u within pairs apart s =
      let on : List Spot = spots_of (seats_on key identity line count blocks 0 count) in
      let has : Contains lines line = within line (contains_first line rest) in
      let apart_done : (other : SliceLine) (j : ℕ) → Done other j → AreApart (line_area line) (line_area other) = λ other j done. apart line other j (contains_first line rest) done in
      let apart_blank : (other : SliceLine) (from : ℕ) → BlankOf rest other from → AreApart (line_area line) (line_area other) = λ other from blank. pairs.0 other blank.0 in
      let split : spots_of (seats_asked key identity (line ∷ rest) count blocks) ≡ on ++ SpotsOf rest = spots_more (seats_on key identity line count blocks 0 count) (seats_asked key identity rest count blocks) in
      let start : State (DoneTo Done (BlankOf rest) line has apart_done apart_blank 0) (BlankTo Done (BlankOf rest) line has apart_done apart_blank 0) part (on ++ SpotsOf rest) u =
      steps.recast Done (BlankOf (line ∷ rest)) (DoneTo Done (BlankOf rest) line has apart_done apart_blank 0) (BlankTo Done (BlankOf rest) line has apart_done apart_blank 0) part (on ++ SpotsOf rest) u
      (record {
        to = λ other j done. inl done;
        back = λ other j is. elim is [ inl done ↦ done | inr none ↦ absurd (let below = none.1 in omega (arith, below)) ];
        less = λ other from is. elim is [
          | inl blank ↦ (contains_behind line other rest blank.0, blank.1)
          | inr same ↦ (let up = same.1 in (subst (λ (l : SliceLine). Contains (line ∷ rest) l) (sym same.0) (contains_first line rest), omega (arith, up)))
        ];
      })
      (subst (λ (d : List Spot). State Done (BlankOf (line ∷ rest)) part d u) split s) in
      let one = slice_from Done (BlankOf rest) line has apart_done apart_blank count 0 part (SpotsOf rest) u (omega arith) start in
      let Next : OfPlaces = λ other j. Done other j ⊎ ((other ≡ line) × (j < count)) in
      let more = λ (w : Tale) (done : AreDone (forms_on key identity claim count blocks line) u w).
      slices rest Next (part ++ on) w (λ l among. within l (contains_behind line l rest among)) pairs.1
      (λ l other j among is. elim is [
        | inl before ↦ apart l other j (contains_behind line l rest among) before
        | inr same ↦ subst (λ (x : SliceLine). AreApart (line_area l) (line_area x)) (sym same.0) (flip line l (pairs.0 l among))
      ])
      (steps.recast (DoneTo Done (BlankOf rest) line has apart_done apart_blank count) (BlankTo Done (BlankOf rest) line has apart_done apart_blank count) Next (BlankOf rest) (part ++ on) (SpotsOf rest) w
      (record { to = λ other j is. is; back = λ other j is. is; less = λ other from blank. inl blank }) (one.1 w done)) in (
        λ m is. elim (doing_split (forms_on key identity claim count blocks line) (ActsOf rest) u m is) [
          | inl here ↦ one.0 m here
          | inr behind ↦ (more behind.0 behind.1).0 m behind.2
        ],
        λ v is.
            let two = done_split (forms_on key identity claim count blocks line) (ActsOf rest) u v is in
            subst (λ (l : List Spot). State (done_after Next rest) (λ other from. ⊥) l [] v) (append_assoc part on (SpotsOf rest) ∙ ap (λ (l : List Spot). part ++ l) (sym split)) ((more two.0 two.1).1 v two.2),
      )

  -- none is formatted, and the masters behind the first of each slice are blank
  abbrev pub Begun : Tale → Type 0
  Begun u = State (λ other j. ⊥) (BlankOf lines) [] (SpotsOf lines) u

  -- all are
  abbrev pub Ended : Tale → Type 0
  Ended v = State (done_after (λ other j. ⊥) lines) (λ other from. ⊥) (SpotsOf lines) [] v

  pub in_end : (line : SliceLine) (j : ℕ) → Contains lines line → j < count → done_after (λ other i. ⊥) lines line j
  in_end line j among lt = has_after lines (λ other i. ⊥) line j (inl (among, lt))

  module _ (pairs : ArePairsApart lines) (u : Tale) (s : Begun u) where
    both : ((m : Tale) → AreDoing (ActsOf lines) u m → At m) × ((v : Tale) → AreDone (ActsOf lines) u v → Ended v)
    both = slices lines (λ other j. ⊥) [] u (λ l among. among) pairs (λ l other j among none. absurd none) s

    pub all_forming : (m : Tale) → AreDoing (ActsOf lines) u m → At m
    all_forming m is = both.0 m is

    pub all_formed : (v : Tale) → AreDone (ActsOf lines) u v → Ended v
    all_formed v is = both.1 v is
