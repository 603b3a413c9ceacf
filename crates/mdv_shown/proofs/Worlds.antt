-- What the events of claims and slots are to an image that shows the world.
use Rattle.std.proofs.Common.{◌≡◌, ◌⊎◌, inl, inr, ⊎_elim, ℕ, ◌+◌, ◌-◌, ◌<◌, ◌^◌, Bool, true, false, refl, sym, ◌∙◌, ap, subst, List, [], ◌∷◌, ◌++◌, length, map, Option, None, Some}
use Rattle.std.proofs.lemmas.Bool.{false≢true}
use Rattle.std.proofs.lemmas.List.{get_or_append_left}
use Rattle.mdv_shown.specs.Below.{Identity, Mark, SliceLine, Master, Head, PlaceAt, Slot, Image, IsSpareSlot, Claims, Fills, MayClaim, MayFill, untouched, closed, filled, Core, Stage, Reading, Creating, Claiming, Writing, Ready, may, happens, last_table, IsFamily, Claimed, Slotted, Holds, LeftClosed, greatest_of, place_at, put_at, with_claim, with_newest, Spot, SpotState, Version}
use Rattle.mdv_votes.specs.Family.{newest_of, no_table, with_since}
use Rattle.mdv_votes.specs.Spots.{is_in, last_list}
use Rattle.mdv_votes.specs.Quorum.{is_written}
use Rattle.mdv_votes.proofs.PlacesAt.{map_at}
use Rattle.mdv_quorum.specs.May.{may_claim, may_choose}
use Rattle.mdv_quorum.specs.World.{chosen, claimed, settled, slotted, slotted_next, taken_after, with_table, wrote}
use Rattle.mdv_shown.specs.Site.{Site, IsSite, place_on, spot_on}
use Rattle.mdv_shown.specs.Found.{IsOwn}
use Rattle.mdv_shown.specs.Shown.{IsNewestOf, NewestIs, ShowsPlaces, Shows}
use Rattle.mdv_shown.specs.Steps.{IsBodyOf, IsAbove, claim_at, last_number}
use Rattle.mdv_shown.proofs.Framed.{shows_rest, shows_same}
use Rattle.mdv_shown.specs.Laws.{Reads}
use Rattle.mdv_shown.specs.Worlds.{ClaimsGo, TablesBegin, SlotsGo, Frames}
use Rattle.mdv_shown.proofs.Writes.{claimed_shows, closed_shows, filled_shows, own_claimed, own_filled}

some_same : {A : Type 0} (a b : A) → Some a ≡ Some b → a ≡ b
some_same a b e = cc

none_never : {A : Type 0} (a : A) → None ≡ Some a → ⊥
none_never a e = cc

module _ {Table : Type 0} (Spells : List ℕ → Table → Type 0) (site : Site) (identity : Identity) (tables : ℕ → Table) (image : Image) where
  -- which list a place is on is no matter of the image
  settled_places : (family : List Version) (places : List SpotState) (i : ℕ) (list : List Spot) → ShowsPlaces Spells site identity tables family places image
      → ShowsPlaces Spells site identity tables family (map (with_since i list) places) image
  settled_places family places i list shows =
      let same : (q : Spot) → ((place_at (map (with_since i list) places) q).holds ≡ (place_at places q).holds)
      × ((place_at (map (with_since i list) places) q).claim ≡ (place_at places q).claim) × ((place_at (map (with_since i list) places) q).newest ≡ (place_at places q).newest)
      = λ q. elim (map_at places q (with_since i list) (λ x. refl)) [
        | inl a ↦ (ap (λ (x : SpotState). x.holds) a, ap (λ (x : SpotState). x.claim) a, ap (λ (x : SpotState). x.newest) a)
        | inr b ↦ (ap (λ (x : SpotState). x.holds) (b.0 ∙ sym b.1), ap (λ (x : SpotState). x.claim) (b.0 ∙ sym b.1), ap (λ (x : SpotState). x.newest) (b.0 ∙ sym b.1))
      ] in
      record {
        each = λ line k first head own.
            let was = shows.each line k first head own in
            let s = same (spot_on line first.blocks k) in
            record {
              holds = s.0 ∙ was.holds;
              claim = s.1 ∙ was.claim;
              newest = subst (λ (o : Option ℕ). NewestIs Spells tables family (place_on line first.blocks first.count k) (image line.at.drive.0) head o) (sym s.2) was.newest;
            };
        only = λ p kind holds. shows.only p kind (sym (same p).0 ∙ holds);
        seats = λ p kind holds. shows.seats p kind (sym (same p).0 ∙ holds);
      }

  pub settled_shows : (w : Core) (t : Version) (b : Bool) → Shows Spells site identity tables w image → Shows Spells site identity tables (settled w t b) image
  settled_shows w t true shows = settled_places w.family w.places (length w.family - 1) (last_list t.lists) shows
  settled_shows w t false shows = shows

  -- one table more in the family, which no place shows
  newest_more : (family : List Version) (t : Version) (line : SliceLine) (k : ℕ) (first : Master) (head : Head) (o : Option ℕ) → ((i : ℕ) → o ≡ Some i → i < length family)
      → NewestIs Spells tables family (place_on line first.blocks first.count k) (image line.at.drive.0) head o
      → NewestIs Spells tables (family ++ t ∷ []) (place_on line first.blocks first.count k) (image line.at.drive.0) head o
  newest_more family t line k first head None known none = none
  newest_more family t line k first head (Some i) known n = record {
    slot = n.slot;
    is = subst (λ (m : Mark). IsNewestOf Spells (place_on line first.blocks first.count k) (image line.at.drive.0) head n.slot m (tables i))
        (sym (ap (λ (v : Version). v.mark) (get_or_append_left family (t ∷ []) no_table i (known i refl)))) n.is;
  }

  longer_shows : (family : List Version) (t : Version) (places : List SpotState) → ((p : Spot) (i : ℕ) → (place_at places p).newest ≡ Some i → i < length family)
      → ShowsPlaces Spells site identity tables family places image → ShowsPlaces Spells site identity tables (family ++ t ∷ []) places image
  longer_shows family t places known shows = record {
    each = λ line k first head own.
        let was = shows.each line k first head own in
        let p = spot_on line first.blocks k in
        record { holds = was.holds; claim = was.claim; newest = newest_more family t line k first head (place_at places p).newest (known p) was.newest };
    only = shows.only;
    seats = shows.seats;
  }

  -- a table is written to no place yet
  wrote_none : (w : Core) (p : Spot) (boot : Option ℕ) (took : List Spot) → Shows Spells site identity tables w image → Shows Spells site identity tables (wrote w p LeftClosed boot took) image
  wrote_none w p boot took shows =
      settled_shows (record w { stage = Writing boot took }) (last_table w) (is_written (last_table w) (is_in took)) shows

  first_none : (w : Core) (p : Spot) (boot : Option ℕ) (t : Version) → IsFamily w → Shows Spells site identity tables w image → Shows Spells site identity tables (wrote (with_table w t) p LeftClosed boot []) image
  first_none w p boot t known shows = wrote_none (with_table w t) p boot [] (longer_shows w.family t w.places known.shown shows)

  next_none : (w : Core) (p : Spot) (next : Option Version) → IsFamily w → Shows Spells site identity tables w image → Shows Spells site identity tables (slotted_next w p LeftClosed next) image
  next_none w p None known shows = shows
  next_none w p (Some t) known shows = first_none w p None t known shows

  slotted_none : (w : Core) (p : Spot) (s : Stage) → IsFamily w → Shows Spells site identity tables w image → Shows Spells site identity tables (slotted w p LeftClosed s) image
  slotted_none w p (Reading read) known shows = shows
  slotted_none w p (Creating next) known shows = first_none w p None next known shows
  slotted_none w p (Claiming i next taken) known shows = first_none w p (Some i) next known shows
  slotted_none w p (Writing boot took) known shows = wrote_none w p boot took shows
  slotted_none w p (Ready next) known shows = next_none w p next known shows

  pub begun_shows : (w : Core) (p : Spot) → IsFamily w → Shows Spells site identity tables w image → Shows Spells site identity tables (happens w (Slotted p LeftClosed)) image
  begun_shows w p known shows = slotted_none w p w.stage known shows

  -- a place has a claim of this number
  claim_happens : (w : Core) (p : Spot) (number : ℕ) (s : Stage) → may_claim w p s ≡ true → claim_at w s ≡ Some number
      → ShowsPlaces Spells site identity tables w.family (put_at w.places p (with_claim number)) image → Shows Spells site identity tables (claimed w p s) image
  claim_happens w p number (Reading read) may is shows = at (newest_of w.family w.places None read) may
    where
      at : (o : Option ℕ) → may_choose w p read o ≡ true → Shows Spells site identity tables (chosen w p read o) image
      at None never = absurd (false≢true never)
      at (Some i) m = subst (λ (n : ℕ). ShowsPlaces Spells site identity tables w.family (put_at w.places p (with_claim n)) image) (sym (some_same (greatest_of w.family w.places 0 read + 1) number is)) shows
  claim_happens w p number (Creating next) may is shows = absurd (false≢true may)
  claim_happens w p number (Claiming i next taken) may is shows =
      subst (λ (n : ℕ). ShowsPlaces Spells site identity tables w.family (put_at w.places p (with_claim n)) image) (sym (some_same next.mark.boot number is)) shows
  claim_happens w p number (Writing boot took) may is shows =
      subst (λ (n : ℕ). ShowsPlaces Spells site identity tables w.family (put_at w.places p (with_claim n)) image) (sym (some_same (last_table w).mark.boot number is)) shows
  claim_happens w p number (Ready next) may is shows = absurd (false≢true may)

  -- a place has the last table
  slot_happens : (w : Core) (p : Spot) (boot : Option ℕ) (took : List Spot) → w.stage ≡ Writing boot took
      → ShowsPlaces Spells site identity tables w.family (put_at w.places p (with_newest (last_number w))) image → Shows Spells site identity tables (happens w (Slotted p Holds)) image
  slot_happens w p boot took stage shows =
      subst (λ (s : Stage). Shows Spells site identity tables (slotted w p Holds s) image) (sym stage)
      (settled_shows (record w { places = put_at w.places p (with_newest (last_number w)); stage = Writing boot (taken_after took p Holds) }) (last_table w)
      (is_written (last_table w) (is_in (taken_after took p Holds))) shows)

module _ {Table : Type 0} (Spells : List ℕ → Table → Type 0) (site : Site) (ok : IsSite site) (identity : Identity) (tables : ℕ → Table) (w : Core)
    (line : SliceLine) (k : ℕ) (first : Master) (head : Head) (old new : Image)
    (own : IsOwn Spells site identity line k old first head) (shows : Shows Spells site identity tables w old) where
  abbrev spot : Spot
  spot = spot_on line first.blocks k

  abbrev at : PlaceAt
  at = place_on line first.blocks first.count k

  module _ (number : ℕ) (small : number < 2 ^ 63) (fits : may w (Claimed spot) ≡ true) (is : claim_at w w.stage ≡ Some number) where
    pub claim_ends : Claims at number old new → Shows Spells site identity tables (happens w (Claimed spot)) new
    claim_ends claims =
        claim_happens Spells site identity tables new w spot number w.stage fits is
        (claimed_shows Spells site ok identity line k first head old new own number small claims tables w.family w.places shows)

    pub claim_goes : MayClaim at number old new → Shows Spells site identity tables w new ⊎ Shows Spells site identity tables (happens w (Claimed spot)) new
    claim_goes change = ⊎_elim (λ same. inl (shows_same Spells site identity tables w.family w.places old new same shows)) (λ claims. inr (claim_ends claims)) change

  module _ (boot : Option ℕ) (took : List Spot) (stage : w.stage ≡ Writing boot took) (slot : Slot) (bytes : ℕ) (body : List (List ℕ))
      (is : IsBodyOf Spells at (last_table w).mark bytes body (tables (last_number w))) (above : IsAbove (last_table w).mark head) where
    pub slot_ends : Fills at slot (last_table w).mark bytes body old new → Shows Spells site identity tables (happens w (Slotted spot Holds)) new
    slot_ends fills =
        slot_happens Spells site identity tables new w spot boot took stage
        (filled_shows Spells site ok identity line k first head old new own slot tables w.family (last_number w) bytes body is fills w.places above shows)

    pub slot_goes : IsSpareSlot head slot → MayFill at slot (last_table w).mark bytes body old new → Shows Spells site identity tables w new ⊎ Shows Spells site identity tables (happens w (Slotted spot Holds)) new
    slot_goes spare (untouched same) = inl (shows_same Spells site identity tables w.family w.places old new same shows)
    slot_goes spare (closed others shut) = inl (closed_shows Spells site ok identity line k first head old new own slot (length body) is.is.in_slot others shut tables w.family w.places spare shows)
    slot_goes spare (filled fills) = inr (slot_ends fills)

-- for texts that a function reads
pub law_claims : (T : Type 0) → ClaimsGo T
law_claims T = record {
  moments = λ read site identity tables w old new line k first head number is c change.
      claim_goes (Reads read) site is.site_is identity tables w line k first head old new is.own is.shows number c.small c.fits c.number_is change;
  end = λ read site identity tables w old new line k first head number is c claims. record {
    site_is = is.site_is;
    shows = claim_ends (Reads read) site is.site_is identity tables w line k first head old new is.own is.shows number c.small c.fits c.number_is claims;
    own = own_claimed (Reads read) site is.site_is identity line k first head old new is.own number c.small claims;
  };
}

pub law_begin : (T : Type 0) → TablesBegin T
law_begin T read site identity tables w image p known shows = begun_shows (Reads read) site identity tables image w p known shows

pub law_slots : (T : Type 0) → SlotsGo T
law_slots T = record {
  moments = λ read site identity tables w old new line k first head slot bytes body is l spare change.
      slot_goes (Reads read) site is.site_is identity tables w line k first head old new is.own is.shows l.boot l.took l.stage slot bytes body l.body_is l.above spare change;
  end = λ read site identity tables w old new line k first head slot bytes body is l fills. record {
    site_is = is.site_is;
    shows = slot_ends (Reads read) site is.site_is identity tables w line k first head old new is.own is.shows l.boot l.took l.stage slot bytes body l.body_is l.above fills;
    own = own_filled (Reads read) site is.site_is identity line k first head old new is.own slot tables w.family (last_number w) bytes body l.body_is fills;
  };
}

pub law_frames : (T : Type 0) → Frames T
law_frames T read site identity tables family places = shows_rest (Reads read) site identity tables family places
