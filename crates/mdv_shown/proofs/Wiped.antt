-- What an image shows where a master is blank, and what the events are to its world.
use Rattle.std.proofs.Common.{◌≡◌, ◌⊎◌, inl, inr, ⊎_elim, ℕ, zero, suc, ◌+◌, ◌-◌, ◌*◌, ◌<◌, ◌≤◌, Bool, true, false, refl, sym, ◌∙◌, ap, subst, List, [], ◌∷◌, cond, Option, Some, arith}
use Rattle.std.proofs.lemmas.Bool.{cases_Bool, cases_lt, cases_eq, false≢true, false_from_ne_true, or_cases, or_left, or_right, or_parts, leb-true, le-leb, cond-true, cond-false}
use Rattle.std.specs.Prelude.{max, nat_le}
use Rattle.mdv_shown.specs.Below.{Identity, SliceLine, Master, Head, Image, SameOutside, range, MayWipe, Wipes, block_of, Core, Stage, Reading, Creating, Claiming, Writing, Ready, Wiped, after_all, happens, last_table, place_at, Spot, SpotState, Version, AreApart}
use Rattle.mdv_votes.specs.Family.{change_at, changed_at, wiped}
use Rattle.mdv_votes.specs.Spots.{is_in, is_named, same_spot}
use Rattle.mdv_votes.proofs.Meeting.{same_is, same_self}
use Rattle.mdv_votes.proofs.PlacesAt.{spot_at, wipe_at, wiped_newest, wiped_claim, wiped_held, wiped_other, wiped_itself}
use Rattle.mdv_quorum.specs.World.{given_up, wiped_at}
use Rattle.mdv_shelf.proofs.Frame.{before_range}
use Rattle.mdv_replica.proofs.Heads.{no_blank_master}
use Rattle.mdv_replica.proofs.Showing.{no_head_blank}
use Rattle.mdv_shown.specs.Site.{Site, size_on, place_on, spot_on, line_area}
use Rattle.mdv_shown.specs.Found.{IsInChain, IsFound, IsOwn, IsOwnAt}
use Rattle.mdv_shown.specs.Shown.{NewestIs, IsPlaceWith, Shows}
use Rattle.mdv_shown.specs.Laws.{Reads}
use Rattle.mdv_shown.specs.Wipes.{spots_from, spots_behind, wiped_all, HasFirst, WipesGo}
use Rattle.mdv_shown.proofs.Elsewhere.{one_master, places_step, found_kept, in_range, range_has}
use Rattle.mdv_shown.proofs.Rewritten.{place_same}
use Rattle.mdv_shown.proofs.Framed.{shows_same}

-- which spots are among those
module _ (line : SliceLine) (b : ℕ) where
  pub record IsFrom (k n : ℕ) (q : Spot) : Type 0 where
    pub number : ℕ
    pub from : k ≤ number
    pub to : number < k + n
    pub within : 16 + number * b + b ≤ line.at.blocks
    pub spot : spot_on line b number ≡ q

  from_more : (k n : ℕ) (q : Spot) → IsFrom (k + 1) n q → IsFrom k (suc n) q
  from_more k n q f = record { number = f.number; from = (let h = f.from in omega (arith, h)); to = (let h = f.to in omega (arith, h)); within = f.within; spot = f.spot }

  pub in_from : (k n : ℕ) (q : Spot) → is_in (spots_from line b k n) q ≡ true → IsFrom k n q
  in_from k zero q has = absurd (false≢true has)
  in_from k (suc n) q has =
      let rest = spots_from line b (k + 1) n in
      elim (cases_Bool (nat_le (16 + k * b + b) line.at.blocks)) [
        | inl fits ↦
            let here : is_in (spot_on line b k ∷ rest) q ≡ true = sym (ap (λ (l : List Spot). is_in l q) (cond-true (nat_le (16 + k * b + b) line.at.blocks) (spot_on line b k ∷ rest) rest fits)) ∙ has in
            elim (or_cases (same_spot (spot_on line b k) q) (is_in rest q) here) [
              | inl is ↦ record { number = k; from = omega arith; to = omega arith; within = leb-true (16 + k * b + b) line.at.blocks fits; spot = same_is (spot_on line b k) q is }
              | inr more ↦ from_more k n q (in_from (k + 1) n q more)
            ]
        | inr past ↦
            from_more k n q (in_from (k + 1) n q (sym (ap (λ (l : List Spot). is_in l q) (cond-false (nat_le (16 + k * b + b) line.at.blocks) (spot_on line b k ∷ rest) rest past)) ∙ has))
      ]

  pub from_in : (k n j : ℕ) → k ≤ j → j < k + n → 16 + j * b + b ≤ line.at.blocks → is_in (spots_from line b k n) (spot_on line b j) ≡ true
  from_in k zero j from to within = absurd (omega (arith, from, to))
  from_in k (suc n) j from to within =
      let rest = spots_from line b (k + 1) n in
      let test = nat_le (16 + k * b + b) line.at.blocks in
      let later : (k ≡ j → ⊥) → is_in rest (spot_on line b j) ≡ true = λ other. from_in (k + 1) n j (omega (arith, from, other)) (omega (arith, to)) within in
      elim (cases_eq k j) [
        | inl e ↦
            let fits : test ≡ true = le-leb (16 + k * b + b) line.at.blocks (subst (λ (i : ℕ). 16 + i * b + b ≤ line.at.blocks) (sym e) within) in
            ap (λ (l : List Spot). is_in l (spot_on line b j)) (cond-true test (spot_on line b k ∷ rest) rest fits)
            ∙ or_left (same_spot (spot_on line b k) (spot_on line b j)) (is_in rest (spot_on line b j))
            (subst (λ (i : ℕ). same_spot (spot_on line b k) (spot_on line b i) ≡ true) e (same_self (spot_on line b k)))
        | inr other ↦ elim (cases_Bool test) [
          | inl fits ↦
              ap (λ (l : List Spot). is_in l (spot_on line b j)) (cond-true test (spot_on line b k ∷ rest) rest fits)
              ∙ or_right (same_spot (spot_on line b k) (spot_on line b j)) (is_in rest (spot_on line b j)) (later other)
          | inr past ↦ ap (λ (l : List Spot). is_in l (spot_on line b j)) (cond-false test (spot_on line b k ∷ rest) rest past) ∙ later other
        ]
      ]

-- places of two slices have two spots
pub lines_spots : (a b : SliceLine) → AreApart (line_area a) (line_area b) → (i x j y : ℕ) → 16 + i * x + x ≤ a.at.blocks → 16 ≤ x → 16 + j * y + y ≤ b.at.blocks → 16 ≤ y
    → spot_on a x i ≡ spot_on b y j → ⊥
lines_spots a b apart i x j y fits least within also e =
    let drives : a.at.drive.0 ≡ b.at.drive.0 = ap (λ (s : Spot). s.drive.0) e in
    let firsts : a.at.start + (16 + i * x) ≡ b.at.start + (16 + j * y) = ap (λ (s : Spot). s.first) e in
    apart b.at.drive.0 (b.at.start + (16 + j * y))
    (subst (λ (d : ℕ). range a.at.drive.0 a.at.start a.at.blocks d (b.at.start + (16 + j * y)) ≡ true) drives
    (range_has a.at.drive.0 a.at.start a.at.blocks (b.at.start + (16 + j * y)) (omega (arith, firsts)) (omega (arith, firsts, fits, least))))
    (range_has b.at.drive.0 b.at.start b.at.blocks (b.at.start + (16 + j * y)) (omega arith) (omega (arith, within, also)))

-- what is written within a place of one slice leaves the others
pub others_same : (a b : SliceLine) → AreApart (line_area a) (line_area b) → (i x count : ℕ) (old new : Image) → 16 + i * x + count ≤ a.at.blocks
    → SameOutside (range a.at.drive.0 (a.at.start + (16 + i * x)) count) old new
    → (block : ℕ) → b.at.start ≤ block → block < b.at.start + b.at.blocks → new b.at.drive.0 block ≡ old b.at.drive.0 block
others_same a b apart i x count old new fits outside block from to =
    outside b.at.drive.0 block (false_from_ne_true (range a.at.drive.0 (a.at.start + (16 + i * x)) count b.at.drive.0 block) (λ is.
    let r = in_range a.at.drive.0 (a.at.start + (16 + i * x)) count b.at.drive.0 block is in
    apart b.at.drive.0 block
    (subst (λ (d : ℕ). range a.at.drive.0 a.at.start a.at.blocks d block ≡ true) r.0
    (range_has a.at.drive.0 a.at.start a.at.blocks block (omega (arith, r.1)) (omega (arith, r.2, fits))))
    (range_has b.at.drive.0 b.at.start b.at.blocks block from to)))

-- what blanking does to the places, whatever the stage
abbrev IsBlanked : Core → Spot → Core → Type 0
IsBlanked w p v = (v.places ≡ change_at w.places p wiped) × (v.family ≡ w.family)

blanked : (w : Core) (p : Spot) (s : Stage) → IsBlanked w p (wiped_at w p s)
blanked w p (Reading read) = (refl, refl)
blanked w p (Creating next) = (refl, refl)
blanked w p (Claiming i next taken) = (refl, refl)
blanked w p (Writing boot took) = (refl, refl)
blanked w p (Ready next) = at (is_named (last_table w).lists p)
  where
    at : (k : Bool) → IsBlanked w p (cond k (record w { places = change_at w.places p wiped; deleted = Some p; stage = Reading [] }) (record w { places = change_at w.places p wiped; stage = Ready (given_up p next) }))
    at true = (refl, refl)
    at false = (refl, refl)

apart_back : (p q : Spot) → same_spot p q ≡ false → same_spot q p ≡ false
apart_back p q isnt = false_from_ne_true (same_spot q p) (λ e. false≢true (sym isnt ∙ subst (λ (s : Spot). same_spot s q ≡ true) (same_is q p e) (same_self q)))

-- what blanking places does to the world
pub record IsWiped (w v : Core) (spots : List Spot) : Type 0 where
  pub family : v.family ≡ w.family
  pub claim : (q : Spot) → (place_at v.places q).claim ≡ (place_at w.places q).claim
  pub newest : (q : Spot) → (place_at v.places q).newest ≡ (place_at w.places q).newest
  pub held : (q : Spot) → (place_at v.places q).holds ≡ true → (place_at w.places q).holds ≡ true
  pub kept : (q : Spot) → is_in spots q ≡ false → (place_at v.places q).holds ≡ (place_at w.places q).holds
  pub gone : (q : Spot) → is_in spots q ≡ true → (place_at v.places q).holds ≡ true → ⊥

pub all_wiped : (w : Core) (spots : List Spot) → IsWiped w (after_all w (wiped_all spots)) spots
all_wiped w [] = record {
  family = refl;
  claim = λ q. refl;
  newest = λ q. refl;
  held = λ q h. h;
  kept = λ q out. refl;
  gone = λ q has. absurd (false≢true has);
}
all_wiped w (p ∷ ps) =
    let v = happens w (Wiped p) in
    let b = blanked w p w.stage in
    let rest = all_wiped v ps in
    let step : (q : Spot) → place_at v.places q ≡ changed_at p wiped (place_at w.places q) = λ q. ap (λ (l : List SpotState). place_at l q) b.0 ∙ wipe_at w.places p q in
    record {
      family = rest.family ∙ b.1;
      claim = λ q. rest.claim q ∙ ap (λ (x : SpotState). x.claim) (step q) ∙ wiped_claim p (place_at w.places q);
      newest = λ q. rest.newest q ∙ ap (λ (x : SpotState). x.newest) (step q) ∙ wiped_newest p (place_at w.places q);
      held = λ q h. wiped_held p (place_at w.places q) (sym (ap (λ (x : SpotState). x.holds) (step q)) ∙ rest.held q h);
      kept = λ q out.
          let parts = or_parts (same_spot p q) (is_in ps q) out in
          rest.kept q parts.1 ∙ ap (λ (x : SpotState). x.holds) (step q)
          ∙ wiped_other p (place_at w.places q) (ap (λ (s : Spot). same_spot s p) (spot_at w.places q) ∙ apart_back p q parts.0);
      gone = λ q has holds. elim (or_cases (same_spot p q) (is_in ps q) has) [
        | inl is ↦
            let now = sym (ap (λ (x : SpotState). x.holds) (step q)) ∙ rest.held q holds in
            let itself : same_spot (place_at w.places q).spot p ≡ true
            = ap (λ (s : Spot). same_spot s p) (spot_at w.places q) ∙ subst (λ (s : Spot). same_spot s p ≡ true) (same_is p q is) (same_self p) in
            false≢true (sym (wiped_itself p (place_at w.places q) itself) ∙ now)
        | inr more ↦ rest.gone q more holds
      ];
    }

-- An image in which the replicas of one slice from a number on aren't found any more, and all others are as they were.
pub record IsCutAt {Table : Type 0} (Spells : List ℕ → Table → Type 0) (site : Site) (identity : Identity) (line : SliceLine) (k : ℕ) (first : Master) (old new : Image) : Type 0 where
  -- on other slices nothing changed
  pub others : (other : SliceLine) → AreApart (line_area line) (line_area other) → (block : ℕ) → other.at.start ≤ block → block < other.at.start + other.at.blocks
      → new other.at.drive.0 block ≡ old other.at.drive.0 block
  -- nor in front of it
  pub front : (block : ℕ) → block < line.at.start + (16 + k * first.blocks) → new line.at.drive.0 block ≡ old line.at.drive.0 block
  -- and none of those is found there
  pub cut : (j : ℕ) (m : Master) (head : Head) → IsOwn Spells site identity line j new m head → (j < k) × (m ≡ first)

module _ {Table : Type 0} (Spells : List ℕ → Table → Type 0) (site : Site) (identity : Identity) (line : SliceLine) (k : ℕ) (first : Master) (old new : Image)
    (has : HasFirst site old line first) (cut : IsCutAt Spells site identity line k first old new) where
  abbrev gone : List Spot
  gone = spots_behind line first k

  blocks_least : 16 ≤ first.blocks
  blocks_least = has.located.lies.least

  -- on another slice it is found in both, and isn't one of those
  pub other_found : (other : SliceLine) → AreApart (line_area line) (line_area other) → (j : ℕ) (m : Master) (head : Head)
      → (IsFound Spells site other j (old other.at.drive.0) m head → IsFound Spells site other j (new other.at.drive.0) m head)
      × (IsFound Spells site other j (new other.at.drive.0) m head → IsFound Spells site other j (old other.at.drive.0) m head)
  other_found other apart j m head = (
    λ is.
        let within = is.within in
        found_kept Spells site other (old other.at.drive.0) (new other.at.drive.0) m j head (λ block from to. cut.others other apart block (omega (arith, from)) (omega (arith, to, within))) is,
    λ is.
        let within = is.within in
        found_kept Spells site other (new other.at.drive.0) (old other.at.drive.0) m j head (λ block from to. sym (cut.others other apart block (omega (arith, from)) (omega (arith, to, within)))) is,
  )

  other_kept : (other : SliceLine) → AreApart (line_area line) (line_area other) → (j : ℕ) (m : Master) (head : Head) → IsFound Spells site other j (old other.at.drive.0) m head
      → is_in gone (spot_on other m.blocks j) ≡ false
  other_kept other apart j m head is =
      false_from_ne_true (is_in gone (spot_on other m.blocks j)) (λ among.
      let f = in_from line first.blocks k (max 1 first.count - k) (spot_on other m.blocks j) among in
      lines_spots line other apart f.number first.blocks j m.blocks f.within blocks_least is.within is.located.lies.least f.spot)

  -- in front of it it is found in both, and isn't one of those
  front_same : (j : ℕ) → j < k → (block : ℕ) → block < line.at.start + (16 + j * first.blocks) + first.blocks → new line.at.drive.0 block ≡ old line.at.drive.0 block
  front_same j lt block to = cut.front block (let step = places_step j k first.blocks lt in omega (arith, to, step))

  front_kept : (j : ℕ) → j < k → is_in gone (spot_on line first.blocks j) ≡ false
  front_kept j lt =
      false_from_ne_true (is_in gone (spot_on line first.blocks j)) (λ among.
      let f = in_from line first.blocks k (max 1 first.count - k) (spot_on line first.blocks j) among in
      let from = f.from in
      let step = places_step j f.number first.blocks (omega (arith, lt, from)) in
      let firsts : line.at.start + (16 + f.number * first.blocks) ≡ line.at.start + (16 + j * first.blocks) = ap (λ (s : Spot). s.first) f.spot in
      absurd (omega (arith, firsts, step, blocks_least)))

  -- one that isn't one of those, and is found in the old image on the slice, lies in front
  behind_gone : (j : ℕ) (head : Head) → IsFound Spells site line j (old line.at.drive.0) first head → k ≤ j → is_in gone (spot_on line first.blocks j) ≡ true
  behind_gone j head is up =
      let told : j < max 1 first.count = elim is.numbered [ inl e ↦ omega (arith, e) | inr lt ↦ omega (arith, lt) ] in
      from_in line first.blocks k (max 1 first.count - k) j up (omega (arith, told, up)) is.within

  module _ (w v : Core) (wiped_is : IsWiped w v gone) (tables : ℕ → Table) (shows : Shows Spells site identity tables w old) where
    place_wiped : (l : SliceLine) (j : ℕ) (m : Master) (head : Head) → is_in gone (spot_on l m.blocks j) ≡ false
        → IsPlaceWith Spells tables w.family (place_on l m.blocks m.count j) (new l.at.drive.0) head (place_at w.places (spot_on l m.blocks j))
        → IsPlaceWith Spells tables v.family (place_on l m.blocks m.count j) (new l.at.drive.0) head (place_at v.places (spot_on l m.blocks j))
    place_wiped l j m head out is =
        let q = spot_on l m.blocks j in
        record {
          holds = wiped_is.kept q out ∙ is.holds;
          claim = wiped_is.claim q ∙ is.claim;
          newest = subst (λ (f : List Version). NewestIs Spells tables f (place_on l m.blocks m.count j) (new l.at.drive.0) head (place_at v.places q).newest) (sym wiped_is.family)
              (subst (λ (o : Option ℕ). NewestIs Spells tables w.family (place_on l m.blocks m.count j) (new l.at.drive.0) head o) (sym (wiped_is.newest q)) is.newest);
        }

    each_other : (other : SliceLine) → AreApart (line_area line) (line_area other) → (j : ℕ) (m : Master) (head : Head) → IsOwn Spells site identity other j new m head
        → IsPlaceWith Spells tables v.family (place_on other m.blocks m.count j) (new other.at.drive.0) head (place_at v.places (spot_on other m.blocks j))
    each_other other apart j m head own =
        let d = other.at.drive.0 in
        let back = (other_found other apart j m head).1 own.found in
        let within = own.found.within in
        place_wiped other j m head (other_kept other apart j m head back)
        (place_same Spells tables w.family (place_on other m.blocks m.count j) (old d) (new d) head (place_at w.places (spot_on other m.blocks j)) own.found.located.lies.least
        (λ block from to. cut.others other apart block (omega (arith, from)) (omega (arith, to, within)))
        (shows.each other j m head (record { found = back; of_identity = own.of_identity })))

    each_front : (j : ℕ) (head : Head) → j < k → IsOwn Spells site identity line j new first head
        → IsPlaceWith Spells tables v.family (place_on line first.blocks first.count j) (new line.at.drive.0) head (place_at v.places (spot_on line first.blocks j))
    each_front j head lt own =
        let d = line.at.drive.0 in
        let back = found_kept Spells site line (new d) (old d) first j head (λ block from to. sym (front_same j lt block to)) own.found in
        place_wiped line j first head (front_kept j lt)
        (place_same Spells tables w.family (place_on line first.blocks first.count j) (old d) (new d) head (place_at w.places (spot_on line first.blocks j)) blocks_least
        (λ block from to. front_same j lt block to)
        (shows.each line j first head (record { found = back; of_identity = own.of_identity })))

    each_own : (j : ℕ) (m : Master) (head : Head) → IsOwn Spells site identity line j new m head
        → IsPlaceWith Spells tables v.family (place_on line m.blocks m.count j) (new line.at.drive.0) head (place_at v.places (spot_on line m.blocks j))
    each_own j m head own =
        let c = cut.cut j m head own in
        subst (λ (n : Master). IsOwn Spells site identity line j new n head → IsPlaceWith Spells tables v.family (place_on line n.blocks n.count j) (new line.at.drive.0) head (place_at v.places (spot_on line n.blocks j)))
        (sym c.1) (each_front j head c.0) own

    only_own : (q : Spot) (j : ℕ) (m : Master) (head : Head) → (place_at v.places q).holds ≡ true → IsOwn Spells site identity line j old m head → q ≡ spot_on line m.blocks j → IsOwnAt Spells site identity new q
    only_own q j m head holds own at =
        let same : first ≡ m = one_master line (size_on site line) (old line.at.drive.0 (line.at.start + 16)) first m has.located own.found.located in
        subst (λ (n : Master). IsOwn Spells site identity line j old n head → q ≡ spot_on line n.blocks j → IsOwnAt Spells site identity new q) same
        (λ mine here. elim (cases_lt j k) [
          | inl lt ↦ record {
            line = line;
            number = j;
            first = first;
            head = head;
            own = record {
              found = found_kept Spells site line (old line.at.drive.0) (new line.at.drive.0) first j head (λ block from to. front_same j lt block to) mine.found;
              of_identity = mine.of_identity;
            };
            spot = here;
          }
          | inr up ↦ absurd (wiped_is.gone q (subst (λ (s : Spot). is_in gone s ≡ true) (sym here) (behind_gone j head mine.found up)) holds)
        ])
        own at

    pub cut_shows : Shows Spells site identity tables v new
    cut_shows = record {
      each = λ other j m head own. elim (has.site_is.apart line other has.one_of own.found.one_of) [
        | inr apart ↦ each_other other apart j m head own
        | inl e ↦
            subst (λ (l : SliceLine). IsOwn Spells site identity l j new m head → IsPlaceWith Spells tables v.family (place_on l m.blocks m.count j) (new l.at.drive.0) head (place_at v.places (spot_on l m.blocks j))) e
            (each_own j m head) own
      ];
      only = λ q kind holds.
          let was = shows.only q kind (wiped_is.held q holds) in
          elim (has.site_is.apart line was.line has.one_of was.own.found.one_of) [
            | inr apart ↦ record {
              line = was.line;
              number = was.number;
              first = was.first;
              head = was.head;
              own = record { found = (other_found was.line apart was.number was.first was.head).0 was.own.found; of_identity = was.own.of_identity };
              spot = was.spot;
            }
            | inl e ↦
                subst (λ (l : SliceLine). IsOwn Spells site identity l was.number old was.first was.head → q ≡ spot_on l was.first.blocks was.number → IsOwnAt Spells site identity new q) e
                (only_own q was.number was.first was.head holds) was.own was.spot
          ];
      seats = λ q kind holds. shows.seats q kind (wiped_is.held q holds);
    }

-- a master is blanked, and maybe what follows it in its place
module _ {Table : Type 0} (Spells : List ℕ → Table → Type 0) (site : Site) (line : SliceLine) (k : ℕ) (first : Master) (old new : Image)
    (has : HasFirst site old line first) (count : ℕ) (within : 16 + k * first.blocks + count ≤ line.at.blocks)
    (outside : SameOutside (range line.at.drive.0 (line.at.start + (16 + k * first.blocks)) count) old new) (blank_here : new line.at.drive.0 (line.at.start + (16 + k * first.blocks)) ≡ block_of []) where
  -- no replica of this number is in a chain
  none_there : (m : Master) (head : Head) → m ≡ first → IsInChain Spells site line k (new line.at.drive.0) m head → ⊥
  none_there m head e is =
      let mine = subst (λ (n : Master). IsInChain Spells site line k (new line.at.drive.0) n head) e is in
      no_head_blank (place_on line first.blocks first.count k) (size_on site line) (new line.at.drive.0) blank_here head mine.readable.of_head

  wipe_front : (block : ℕ) → block < line.at.start + (16 + k * first.blocks) → new line.at.drive.0 block ≡ old line.at.drive.0 block
  wipe_front block to = outside line.at.drive.0 block (before_range line.at.drive.0 (line.at.start + (16 + k * first.blocks)) count block to)

  -- the slice's first master is blank, or as it was
  first_cut : (j : ℕ) (m : Master) (head : Head) → IsFound Spells site line j (new line.at.drive.0) m head → (0 < k) × (m ≡ first)
  first_cut j m head is = elim (cases_lt 0 k) [
    | inl some ↦
        let least : 16 ≤ first.blocks = has.located.lies.least in
        let step = places_step 0 k first.blocks some in
        let same = wipe_front (line.at.start + 16) (omega (arith, step, least)) in (
          some,
          one_master line (size_on site line) (old line.at.drive.0 (line.at.start + 16)) m first
              (record { form = is.located.form; spelled = sym same ∙ is.located.spelled; lies = is.located.lies }) has.located,
        )
    | inr none ↦
        let zeroth : k ≡ 0 = omega (arith, none) in
        let here : line.at.start + (16 + k * first.blocks) ≡ line.at.start + 16 = ap (λ (i : ℕ). line.at.start + (16 + i * first.blocks)) zeroth ∙ omega arith in
        absurd (no_blank_master m (sym blank_here ∙ ap (new line.at.drive.0) here ∙ is.located.spelled))
  ]

  pub wipe_cuts : (identity : Identity) → IsCutAt Spells site identity line k first old new
  wipe_cuts identity = record {
    others = λ other apart. others_same line other apart k first.blocks count old new within outside;
    front = wipe_front;
    cut = λ j m head own.
        let is = own.found in
        let f = first_cut j m head is in
        elim (cases_lt j k) [
          | inl lt ↦ (lt, f.1)
          | inr up ↦ elim (cases_eq j k) [
            | inl e ↦ absurd (none_there m head f.1 (subst (λ (i : ℕ). IsInChain Spells site line i (new line.at.drive.0) m head) e is.here))
            | inr other ↦ (let c = is.before k (omega (arith, up, other)) in absurd (none_there m c.0 f.1 c.1))
          ]
        ];
  }

module _ {Table : Type 0} (Spells : List ℕ → Table → Type 0) (site : Site) (identity : Identity) (tables : ℕ → Table) (w : Core) (old new : Image) (line : SliceLine) (k : ℕ) (first : Master)
    (has : HasFirst site old line first) (within : 16 + k * first.blocks < line.at.blocks) (shows : Shows Spells site identity tables w old) where
  pub wipe_ends : Wipes (place_on line first.blocks first.count k) old new → Shows Spells site identity tables (after_all w (wiped_all (spots_behind line first k))) new
  wipe_ends wipes =
      cut_shows Spells site identity line k first old new has (wipe_cuts Spells site line k first old new has 1 (omega (arith, within)) wipes.elsewhere (ap (new line.at.drive.0) (omega arith) ∙ wipes.here 0 (omega arith)) identity) w (after_all w (wiped_all (spots_behind line first k)))
      (all_wiped w (spots_behind line first k)) tables shows

  pub wipe_goes : MayWipe (place_on line first.blocks first.count k) old new
      → Shows Spells site identity tables w new ⊎ Shows Spells site identity tables (after_all w (wiped_all (spots_behind line first k))) new
  wipe_goes change = ⊎_elim (λ same. inl (shows_same Spells site identity tables w.family w.places old new same shows)) (λ wipes. inr (wipe_ends wipes)) change

pub law_wipes : (T : Type 0) → WipesGo T
law_wipes T = record {
  moments = λ read site identity tables w old new line k first has within shows change. wipe_goes (Reads read) site identity tables w old new line k first has within shows change;
  end = λ read site identity tables w old new line k first has within shows wipes. wipe_ends (Reads read) site identity tables w old new line k first has within shows wipes;
}
