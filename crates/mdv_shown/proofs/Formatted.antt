-- What an image shows where a place was formatted for this database.
use Rattle.std.proofs.Common.{◌≡◌, ◌⊎◌, inl, inr, ℕ, ◌+◌, ◌*◌, ◌<◌, ◌≤◌, true, false, refl, sym, ◌∙◌, ap, subst, List, Option, None, arith}
use Rattle.std.proofs.lemmas.Bool.{cases_Bool, false≢true, false_from_ne_true}
use Rattle.mdv_shown.specs.Below.{Identity, SliceLine, Master, Head, Slot, Closed, gate_of, Image, Mark, Open}
use Rattle.mdv_shown.specs.Below.{Core, place_at, put_at, Spot, SpotState, Version, AreApart, is_in}
use Rattle.mdv_votes.specs.Family.{formatted as formatted_spot}
use Rattle.mdv_votes.specs.Spots.{same_spot}
use Rattle.mdv_votes.proofs.Meeting.{same_is, same_self}
use Rattle.mdv_votes.proofs.PlacesAt.{put_same, put_other}
use Rattle.mdv_shown.specs.Site.{Site, IsSite, place_on, spot_on, line_area}
use Rattle.mdv_shown.specs.Found.{IsFound, IsOwn, IsOwnAt}
use Rattle.mdv_shown.specs.Shown.{NewestIs, IsPlaceWith, ShowsPlaces, Shows}
use Rattle.mdv_shown.proofs.Elsewhere.{places_step, found_kept}
use Rattle.mdv_shown.proofs.Rewritten.{place_same}
use Rattle.mdv_shown.proofs.Wiped.{IsWiped, lines_spots}

-- one slice on which a place was formatted: what is found there before and after
pub record IsFormattedAt {Table : Type 0} (Spells : List ℕ → Table → Type 0) (site : Site) (identity : Identity) (line : SliceLine) (k : ℕ) (first : Master) (head : Head) (gone : List Spot) (old new : Image) : Type 0 where
  pub site_is : IsSite site
  pub own : IsOwn Spells site identity line k new first head
  pub shut : (slot : Slot) → gate_of head slot ≡ Closed
  pub others : (other : SliceLine) → AreApart (line_area line) (line_area other) → (block : ℕ) → other.at.start ≤ block → block < other.at.start + other.at.blocks
      → new other.at.drive.0 block ≡ old other.at.drive.0 block
  pub front : (block : ℕ) → block < line.at.start + (16 + k * first.blocks) → new line.at.drive.0 block ≡ old line.at.drive.0 block
  -- in the new image those in front and itself
  pub now : (j : ℕ) (m : Master) (h : Head) → IsFound Spells site line j (new line.at.drive.0) m h → ((j < k) × (m ≡ first)) ⊎ ((j ≡ k) × (m ≡ first) × (h ≡ head))
  -- in the old one those in front, maybe one at its spot, and those that are lost
  pub was : (j : ℕ) (m : Master) (h : Head) → IsFound Spells site line j (old line.at.drive.0) m h
      → ((j < k) × (m ≡ first)) ⊎ ((spot_on line m.blocks j ≡ spot_on line first.blocks k) ⊎ (is_in gone (spot_on line m.blocks j) ≡ true))
  pub gone_here : (other : SliceLine) (j blocks : ℕ) → AreApart (line_area line) (line_area other) → 16 + j * blocks + blocks ≤ other.at.blocks → 16 ≤ blocks → is_in gone (spot_on other blocks j) ≡ false
  pub gone_behind : (j : ℕ) → j < k → is_in gone (spot_on line first.blocks j) ≡ false

module _ {Table : Type 0} (Spells : List ℕ → Table → Type 0) (site : Site) (identity : Identity) (line : SliceLine) (k : ℕ) (first : Master) (head : Head) (gone : List Spot) (old new : Image)
    (f : IsFormattedAt Spells site identity line k first head gone old new) (tables : ℕ → Table) (w v : Core) (wiped_is : IsWiped w v gone) (shows : Shows Spells site identity tables w old) where
  abbrev spot : Spot
  spot = spot_on line first.blocks k

  abbrev after : List SpotState
  after = put_at v.places spot (formatted_spot head.claim None)

  least : 16 ≤ first.blocks
  least = f.own.found.located.lies.least

  -- a place that was there, and isn't this one
  place_stays : (l : SliceLine) (j : ℕ) (m : Master) (h : Head) → same_spot spot (spot_on l m.blocks j) ≡ false → is_in gone (spot_on l m.blocks j) ≡ false
      → IsPlaceWith Spells tables w.family (place_on l m.blocks m.count j) (new l.at.drive.0) h (place_at w.places (spot_on l m.blocks j))
      → IsPlaceWith Spells tables v.family (place_on l m.blocks m.count j) (new l.at.drive.0) h (place_at after (spot_on l m.blocks j))
  place_stays l j m h apart out is =
      let q = spot_on l m.blocks j in
      let same : place_at after q ≡ place_at v.places q = put_other v.places spot q (formatted_spot head.claim None) (λ x. refl) apart in
      record {
        holds = ap (λ (x : SpotState). x.holds) same ∙ wiped_is.kept q out ∙ is.holds;
        claim = ap (λ (x : SpotState). x.claim) same ∙ wiped_is.claim q ∙ is.claim;
        newest = subst (λ (g : List Version). NewestIs Spells tables g (place_on l m.blocks m.count j) (new l.at.drive.0) h (place_at after q).newest) (sym wiped_is.family)
            (subst (λ (o : Option ℕ). NewestIs Spells tables w.family (place_on l m.blocks m.count j) (new l.at.drive.0) h o) (sym (ap (λ (x : SpotState). x.newest) same ∙ wiped_is.newest q)) is.newest);
      }

  not_here : (l : SliceLine) (j : ℕ) (m : Master) → (spot ≡ spot_on l m.blocks j → ⊥) → same_spot spot (spot_on l m.blocks j) ≡ false
  not_here l j m never = false_from_ne_true (same_spot spot (spot_on l m.blocks j)) (λ is. never (same_is spot (spot_on l m.blocks j) is))

  each_other : (other : SliceLine) → AreApart (line_area line) (line_area other) → (j : ℕ) (m : Master) (h : Head) → IsOwn Spells site identity other j new m h
      → IsPlaceWith Spells tables v.family (place_on other m.blocks m.count j) (new other.at.drive.0) h (place_at after (spot_on other m.blocks j))
  each_other other apart j m h own =
      let d = other.at.drive.0 in
      let within = own.found.within in
      let also : 16 ≤ m.blocks = own.found.located.lies.least in
      let back = found_kept Spells site other (new d) (old d) m j h (λ block from to. sym (f.others other apart block (omega (arith, from)) (omega (arith, to, within)))) own.found in
      place_stays other j m h (not_here other j m (lines_spots line other apart k first.blocks j m.blocks f.own.found.within least within also))
      (f.gone_here other j m.blocks apart within also)
      (place_same Spells tables w.family (place_on other m.blocks m.count j) (old d) (new d) h (place_at w.places (spot_on other m.blocks j)) also
      (λ block from to. f.others other apart block (omega (arith, from)) (omega (arith, to, within)))
      (shows.each other j m h (record { found = back; of_identity = own.of_identity })))

  front_same : (j : ℕ) → j < k → (block : ℕ) → block < line.at.start + (16 + j * first.blocks) + first.blocks → new line.at.drive.0 block ≡ old line.at.drive.0 block
  front_same j lt block to = f.front block (let step = places_step j k first.blocks lt in omega (arith, to, step))

  each_front : (j : ℕ) (h : Head) → j < k → IsOwn Spells site identity line j new first h
      → IsPlaceWith Spells tables v.family (place_on line first.blocks first.count j) (new line.at.drive.0) h (place_at after (spot_on line first.blocks j))
  each_front j h lt own =
      let d = line.at.drive.0 in
      let step = places_step j k first.blocks lt in
      let back = found_kept Spells site line (new d) (old d) first j h (λ block from to. sym (front_same j lt block to)) own.found in
      place_stays line j first h (not_here line j first (λ e. (let firsts = ap (λ (s : Spot). s.first) e in absurd (omega (arith, firsts, step, least)))))
      (f.gone_behind j lt)
      (place_same Spells tables w.family (place_on line first.blocks first.count j) (old d) (new d) h (place_at w.places (spot_on line first.blocks j)) least
      (λ block from to. front_same j lt block to)
      (shows.each line j first h (record { found = back; of_identity = own.of_identity })))

  each_here : IsPlaceWith Spells tables v.family (place_on line first.blocks first.count k) (new line.at.drive.0) head (place_at after spot)
  each_here =
      let same : place_at after spot ≡ formatted_spot head.claim None (place_at v.places spot) = put_same v.places spot (formatted_spot head.claim None) (λ x. refl) in
      record {
        holds = ap (λ (x : SpotState). x.holds) same;
        claim = ap (λ (x : SpotState). x.claim) same;
        newest = subst (λ (o : Option ℕ). NewestIs Spells tables v.family (place_on line first.blocks first.count k) (new line.at.drive.0) head o) (sym (ap (λ (x : SpotState). x.newest) same))
            (λ slot mark table is. never mark is.bytes (sym (f.shut slot) ∙ is.gate));
      }
    where
      never : (mark : Mark) (bytes : ℕ) → Closed ≡ Open mark bytes → ⊥
      never mark bytes e = cc

  each_own : (j : ℕ) (m : Master) (h : Head) → IsOwn Spells site identity line j new m h
      → IsPlaceWith Spells tables v.family (place_on line m.blocks m.count j) (new line.at.drive.0) h (place_at after (spot_on line m.blocks j))
  each_own j m h own = elim (f.now j m h own.found) [
    | inl c ↦
        subst (λ (n : Master). IsOwn Spells site identity line j new n h → IsPlaceWith Spells tables v.family (place_on line n.blocks n.count j) (new line.at.drive.0) h (place_at after (spot_on line n.blocks j)))
        (sym c.1) (each_front j h c.0) own
    | inr c ↦
        subst (λ (n : Master). IsPlaceWith Spells tables v.family (place_on line n.blocks n.count j) (new line.at.drive.0) h (place_at after (spot_on line n.blocks j))) (sym c.1)
        (subst (λ (i : ℕ). IsPlaceWith Spells tables v.family (place_on line first.blocks first.count i) (new line.at.drive.0) h (place_at after (spot_on line first.blocks i))) (sym c.0)
        (subst (λ (n : Head). IsPlaceWith Spells tables v.family (place_on line first.blocks first.count k) (new line.at.drive.0) n (place_at after spot)) (sym c.2) each_here))
  ]

  -- what still holds something was found, and is
  only_own : (q : Spot) (j : ℕ) (m : Master) (h : Head) → same_spot spot q ≡ false → (place_at v.places q).holds ≡ true → IsOwn Spells site identity line j old m h → q ≡ spot_on line m.blocks j
      → IsOwnAt Spells site identity new q
  only_own q j m h isnt holds own at = elim (f.was j m h own.found) [
    | inl c ↦
        subst (λ (n : Master). IsOwn Spells site identity line j old n h → q ≡ spot_on line n.blocks j → IsOwnAt Spells site identity new q) (sym c.1)
        (λ mine here. record {
          line = line;
          number = j;
          first = first;
          head = h;
          own = record {
            found = found_kept Spells site line (old line.at.drive.0) (new line.at.drive.0) first j h (λ block from to. front_same j c.0 block to) mine.found;
            of_identity = mine.of_identity;
          };
          spot = here;
        })
        own at
    | inr more ↦ elim more [
      | inl same ↦ absurd (false≢true (sym isnt ∙ subst (λ (s : Spot). same_spot spot s ≡ true) (sym same ∙ sym at) (same_self spot)))
      | inr lost ↦ absurd (wiped_is.gone q (subst (λ (s : Spot). is_in gone s ≡ true) (sym at) lost) holds)
    ]
  ]

  pub formatted_shows : ShowsPlaces Spells site identity tables v.family after new
  formatted_shows = record {
    each = λ other j m h own. elim (f.site_is.apart line other f.own.found.one_of own.found.one_of) [
      | inr apart ↦ each_other other apart j m h own
      | inl e ↦
          subst (λ (l : SliceLine). IsOwn Spells site identity l j new m h → IsPlaceWith Spells tables v.family (place_on l m.blocks m.count j) (new l.at.drive.0) h (place_at after (spot_on l m.blocks j))) e
          (each_own j m h) own
    ];
    only = λ q kind holds. elim (cases_Bool (same_spot spot q)) [
      | inl is ↦ record { line = line; number = k; first = first; head = head; own = f.own; spot = sym (same_is spot q is) }
      | inr isnt ↦
          let still = sym (ap (λ (x : SpotState). x.holds) (put_other v.places spot q (formatted_spot head.claim None) (λ x. refl) isnt)) ∙ holds in
          let was = shows.only q kind (wiped_is.held q still) in
          elim (f.site_is.apart line was.line f.own.found.one_of was.own.found.one_of) [
            | inr apart ↦ (let within = was.own.found.within in record {
              line = was.line;
              number = was.number;
              first = was.first;
              head = was.head;
              own = record {
                found = found_kept Spells site was.line (old was.line.at.drive.0) (new was.line.at.drive.0) was.first was.number was.head
                    (λ block from to. f.others was.line apart block (omega (arith, from)) (omega (arith, to, within))) was.own.found;
                of_identity = was.own.of_identity;
              };
              spot = was.spot;
            })
            | inl e ↦
                subst (λ (l : SliceLine). IsOwn Spells site identity l was.number old was.first was.head → q ≡ spot_on l was.first.blocks was.number → IsOwnAt Spells site identity new q) e
                (only_own q was.number was.first was.head isnt still) was.own was.spot
          ]
    ];
    seats = λ q kind holds.
        let isnt : same_spot spot q ≡ false = false_from_ne_true (same_spot spot q) (λ is. false≢true (ap (λ (s : Spot). s.mediator) (same_is spot q is) ∙ kind)) in
        shows.seats q kind (wiped_is.held q (sym (ap (λ (x : SpotState). x.holds) (put_other v.places spot q (formatted_spot head.claim None) (λ x. refl) isnt)) ∙ holds));
  }
