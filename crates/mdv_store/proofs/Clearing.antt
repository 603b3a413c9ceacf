-- Masters are blanked for a database, slice by slice: what shows no table, whatever lies on the drives; and how its worlds and all other databases go on.
use Rattle.std.proofs.Common.{◌≡◌, ◌⊎◌, inl, inr, ℕ, zero, suc, ◌+◌, ◌-◌, ◌*◌, ◌<◌, ◌≤◌, Bool, true, false, if◌then◌else◌, List, [], ◌∷◌, ◌++◌, Contains, refl, sym, subst, arith}
use Rattle.std.specs.Prelude.{flat_map, nat_lt}
use Rattle.std.proofs.lemmas.Bool.Decides.{nat_tests}
use Rattle.mdv_quorum.specs.declared.event.Event.{Event}
use Rattle.mdv_encoding.specs.Parsing.{read_of}
use Rattle.mdv_replica.specs.Forms.{block_of}
use Rattle.mdv_replica.specs.Images.{MayWipe, Wipes}
use Rattle.mdv_replica.specs.Replica.{IsWiped, Wiping, blank_master}
use Rattle.mdv_replica.specs.declared.replica.PlaceAt.{PlaceAt}
use Rattle.mdv_replica.proofs.Leaving.{leaves_settled, leaves_settling}
use Rattle.mdv_shelf.specs.Everywhere.{Everywhere, Leaves}
use Rattle.mdv_shelf.specs.Tale.{IsImage}
use Rattle.mdv_standing.specs.Blanking.{AreBlank, HasNoFirst, MayClear}
use Rattle.mdv_standing.specs.Creating.{IsCreating, issued_log}
use Rattle.mdv_standing.specs.Rest.{RestMayBeTaken, RestStands}
use Rattle.mdv_standing.specs.Tracing.{IsCreationBegin, IsStart, Traces}
use Rattle.mdv_standing.proofs.Blanking.{AreAllBefore, blank_more, blank_wiping, clears_later, first_place_before, no_first_now, no_first_still, none_before, rest_first_place, rest_later, taken_before, unled_before}
use Rattle.mdv_standing.proofs.Stretches.{traced_clearing, traced_creation}
use Rattle.mdv_standing.proofs.Tracing.{run_traced, trace_more}
use Rattle.mdv_acts.specs.Acts.{AreDoing, AreDone, blanks_asked, blanks_behind, blanks_on}
use Rattle.mdv_store.specs.Below.{Database, Geometry, Identity, Image, Key, Log, Site, SliceLine, Tale, place_on, site_of}
use Rattle.mdv_store.specs.Blank.{IsBlank}
use Rattle.mdv_store.specs.Records.{Spells}
use Rattle.mdv_store.specs.Seats.{spots_of}
use Rattle.mdv_acts.proofs.Acting.{done_split, doing_split}
use Rattle.mdv_store.proofs.Blanks.{StayDark, blank_before, stay_dark}
use Rattle.mdv_store.proofs.Forming.{IsFormedTo}
use Rattle.mdv_store.proofs.Locating.{first_of}
use Rattle.mdv_store.proofs.Putting.{ArePut, IsGiven, lists, named, seats}
use Rattle.mdv_store.proofs.Sitting.{contains_behind, contains_first, first_or_behind}

-- a place's master is being blanked, and was
wiping : (at : PlaceAt) (u m : Tale) → Wiping at u m → Leaves (MayWipe at) u m
wiping at u m is = leaves_settling at.drive.0 at.first (block_of []) u m is

wiped : (at : PlaceAt) (u v : Tale) → Wiping at u v → IsWiped at v → Leaves (Wipes at) u v
wiped at u v is done = leaves_settled at.drive.0 at.first blank_master u v is.outside done

-- What is known stays while the first place of a slice is blanked, whatever first master it has; and while any place is of a slice that has none.
pub record StaysKnown (site : Site) (lines : List SliceLine) (count blocks : ℕ) (Known : Tale → Type 0) : Type 0 where
  pub first : (line : SliceLine) (u m : Tale) → Contains lines line → Leaves (MayWipe (place_on line blocks count 0)) u m → Known u → Known m
  pub later : (line : SliceLine) (k : ℕ) (u m : Tale) → Contains lines line → k < count → HasNoFirst site line u → Leaves (MayWipe (place_on line blocks count k)) u m → Known u → Known m

module _ (site : Site) (lines : List SliceLine) (count blocks : ℕ) (some : 1 ≤ count) (Known : Tale → Type 0) (stays : StaysKnown site lines count blocks Known) where
  -- the masters behind the first one are blank on these slices
  pub record IsCleared (Blanked : SliceLine → Type 0) (u : Tale) : Type 0 where
    pub known : Known u
    pub blank : (line : SliceLine) → Blanked line → Everywhere (AreBlank line blocks 1 count) u

  -- and on this one from this number on, which has no first master
  record IsBehind (Blanked : SliceLine → Type 0) (line : SliceLine) (from : ℕ) (u : Tale) : Type 0 where
    cleared : IsCleared Blanked u
    none : HasNoFirst site line u
    here : Everywhere (AreBlank line blocks from count) u

  still_blank : (Blanked : SliceLine → Type 0) (u m : Tale) (at : PlaceAt) → Leaves (MayWipe at) u m → ((line : SliceLine) → Blanked line → Everywhere (AreBlank line blocks 1 count) u) → (line : SliceLine) → Blanked line → Everywhere (AreBlank line blocks 1 count) m
  still_blank Blanked u m at leaves blank line is image of = (let was = leaves image of in blank_wiping line blocks 1 count was.0 image at was.2 (blank line is was.0 was.1))

  module _ (Blanked : SliceLine → Type 0) (line : SliceLine) (among : Contains lines line) where
    abbrev At : ℕ → PlaceAt
    At k = place_on line blocks count k

    later : (k : ℕ) (u m : Tale) → k < count → IsBehind Blanked line (k + 1) u → Leaves (MayWipe (At k)) u m → IsCleared Blanked m
    later k u m lt s leaves = record { known = stays.later line k u m among lt s.none leaves s.cleared.known; blank = still_blank Blanked u m (At k) leaves s.cleared.blank }

    -- those from this number down to the second one
    behind : (n : ℕ) (u : Tale) → n < count → IsBehind Blanked line (n + 1) u
        → ((m : Tale) → AreDoing (blanks_behind line count blocks n) u m → Known m) × ((v : Tale) → AreDone (blanks_behind line count blocks n) u v → IsBehind Blanked line 1 v)
    behind zero u lt s = (
      λ m is. subst Known (sym is) s.cleared.known,
      λ v is. subst (λ (w : Tale). IsBehind Blanked line 1 w) (sym is) s,
    )
    behind (suc n) u lt s =
        let up : n + 1 < count = omega (arith, lt) in
        let below : n < count = omega (arith, lt) in
        let next : suc n + 1 ≡ n + 1 + 1 = omega arith in
        let now : IsBehind Blanked line (n + 1 + 1) u = subst (λ (i : ℕ). IsBehind Blanked line i u) next s in
        let then_behind = λ (v : Tale) (is : Wiping (At (n + 1)) u v) (done : IsWiped (At (n + 1)) v).
        let leaves = wiping (At (n + 1)) u v is in
        let wipes = wiped (At (n + 1)) u v is done in
        let state : IsBehind Blanked line (n + 1) v = record {
          cleared = later (n + 1) u v up now leaves;
          none = λ image of. (let was = leaves image of in no_first_still site line (At (n + 1)) was.0 image was.2 (s.none was.0 was.1));
          here = λ image of. (let was = wipes image of in blank_more line blocks count (n + 1) was.0 image was.2 (now.here was.0 was.1));
        } in
        behind n v below state in (
          λ m is. elim is [
            | inl same ↦ subst Known (sym same) s.cleared.known
            | inr begun ↦ elim begun [
              | inl doing ↦ (later (n + 1) u m up now (wiping (At (n + 1)) u m doing)).known
              | inr done ↦ (then_behind done.0 done.1.0 done.1.1).0 m done.2
            ]
          ],
          λ v is. (then_behind is.0 is.1.0 is.1.1).1 v is.2,
        )

    -- all of the slice
    on : (u : Tale) → IsCleared Blanked u
        → ((m : Tale) → AreDoing (blanks_on count blocks line) u m → Known m) × ((v : Tale) → AreDone (blanks_on count blocks line) u v → IsBehind Blanked line 1 v)
    on u s =
        let last : count - 1 < count = omega (arith, some) in
        let front = λ (m : Tale) (is : Wiping (At 0) u m).
        let leaves = wiping (At 0) u m is in
        let state : IsCleared Blanked m = record { known = stays.first line u m among leaves s.known; blank = still_blank Blanked u m (At 0) leaves s.blank } in
        state in
        let then_behind = λ (v : Tale) (is : Wiping (At 0) u v) (done : IsWiped (At 0) v).
        let wipes = wiped (At 0) u v is done in
        let state : IsBehind Blanked line (count - 1 + 1) v = record {
          cleared = front v is;
          none = λ image of. (let was = wipes image of in no_first_now site line blocks count was.0 image was.2);
          here = λ image of j up lt fits. absurd (omega (arith, up, lt));
        } in
        behind (count - 1) v last state in (
          λ m is. elim is [
            | inl same ↦ subst Known (sym same) s.known
            | inr begun ↦ elim begun [
              | inl doing ↦ (front m doing).known
              | inr done ↦ (then_behind done.0 done.1.0 done.1.1).0 m done.2
            ]
          ],
          λ v is. (then_behind is.0 is.1.0 is.1.1).1 v is.2,
        )

  slices : (rest : List SliceLine) (Blanked : SliceLine → Type 0) (u : Tale) → ((line : SliceLine) → Contains rest line → Contains lines line) → IsCleared Blanked u
      → ((m : Tale) → AreDoing (flat_map (blanks_on count blocks) rest) u m → Known m) × ((v : Tale) → AreDone (flat_map (blanks_on count blocks) rest) u v → IsCleared (λ line. Blanked line ⊎ Contains rest line) v)
  slices [] Blanked u within s = (
    λ m is. subst Known (sym is) s.known,
    λ v is. subst (λ (w : Tale). IsCleared (λ line. Blanked line ⊎ Contains [] line) w) (sym is)
        (record { known = s.known; blank = λ line blanked. elim blanked [ inl was ↦ s.blank line was | inr none ↦ absurd (omega (arith, none.1)) ] }),
  )
  slices (x ∷ rest) Blanked u within s =
      let one = on Blanked x (within x (contains_first x rest)) u s in
      let Next : SliceLine → Type 0 = λ line. Blanked line ⊎ (line ≡ x) in
      let more = λ (w : Tale) (done : AreDone (blanks_on count blocks x) u w).
      let e = one.1 w done in
      slices rest Next w (λ l among. within l (contains_behind x l rest among))
      (record {
        known = e.cleared.known;
        blank = λ line is. elim is [ inl was ↦ e.cleared.blank line was | inr same ↦ subst (λ (l : SliceLine). Everywhere (AreBlank l blocks 1 count) w) (sym same) e.here ];
      }) in (
        λ m is. elim (doing_split (blanks_on count blocks x) (flat_map (blanks_on count blocks) rest) u m is) [
          | inl here ↦ one.0 m here
          | inr behind ↦ (more behind.0 behind.1).0 m behind.2
        ],
        λ v is.
            let two = done_split (blanks_on count blocks x) (flat_map (blanks_on count blocks) rest) u v is in
            let e = (more two.0 two.1).1 v two.2 in
            record {
              known = e.known;
              blank = λ line is. elim is [
                | inl was ↦ e.blank line (inl (inl was))
                | inr has ↦ elim (first_or_behind x line rest has) [
                  | inl here ↦ e.blank line (inl (inr (sym here)))
                  | inr behind ↦ e.blank line (inr behind)
                ]
              ];
            },
      )

  -- Where all of them are blanked, or each slice has one place alone, they may be formatted.
  abbrev pub AreCleared : Tale → Type 0
  AreCleared u = IsCleared (λ line. Contains lines line) u

  module _ (t : Tale) (known : Known t) where
    none_yet : IsCleared (λ line. ⊥) t
    none_yet = record { known = known; blank = λ line none. absurd none }

    one_each : count ≡ 1 → AreCleared t
    one_each one = record { known = known; blank = λ line among image is j up lt fits. absurd (omega (arith, up, lt, one)) }

    clearing : ((m : Tale) → AreDoing (blanks_asked lines count blocks) t m → Known m) × ((u : Tale) → AreDone (blanks_asked lines count blocks) t u → AreCleared u)
    clearing = by (nat_lt 1 count) refl where
      by : (b : Bool) → nat_lt 1 count ≡ b
          → ((m : Tale) → AreDoing (if b then flat_map (blanks_on count blocks) lines else []) t m → Known m) × ((u : Tale) → AreDone (if b then flat_map (blanks_on count blocks) lines else []) t u → AreCleared u)
      by true several =
          let all = slices lines (λ line. ⊥) t (λ l among. among) none_yet in (
            all.0,
            λ u is. (let e = all.1 u is in record { known = e.known; blank = λ line among. e.blank line (inr among) }),
          )
      by false one = (
        λ m is. subst Known (sym is) known,
        λ u is. subst AreCleared (sym is) (one_each (let few : count ≤ 1 = grind (arith, nat_tests) in omega (arith, few, some))),
      )

    pub all_clearing : (m : Tale) → AreDoing (blanks_asked lines count blocks) t m → Known m
    all_clearing m is = clearing.0 m is

    pub all_cleared : (u : Tale) → AreDone (blanks_asked lines count blocks) t u → AreCleared u
    all_cleared u is = clearing.1 u is

module _ (g : Geometry) (key : Key) (identity : Identity) (lines : List SliceLine) (count blocks claim : ℕ) (given : IsGiven g key identity lines count blocks claim) (some : 1 ≤ count) (t : Tale) where
  abbrev site : Site
  site = site_of g key

  -- What shows no table: nothing is found that wasn't, while a master is blanked.
  dark_at : (u m : Tale) (at : PlaceAt) → Leaves (MayWipe at) u m → ((old new : Image) → IsImage u old → MayWipe at old new → AreAllBefore (Spells g) g old new) → StayDark g key identity t u → StayDark g key identity t m
  dark_at u m at leaves before dark =
      let still = λ (ask : Key) (other : Identity) (blank : IsBlank g ask other u) (image : Image) (is : IsImage m image).
      let from = leaves image is in
      blank_before g from.0 image (before from.0 image from.1 from.2) ask other (blank from.0 from.1) in
      record { others = λ ask other another blank. still ask other (dark.others ask other another blank); own = λ blank. still key identity (dark.own blank) }

  within_line : (line : SliceLine) (k : ℕ) → Contains lines line → k < count → 16 + k * blocks < line.at.blocks
  within_line line k among lt =
      let f = given.format line k among lt in
      let fits = f.within in
      let least = f.lies.least in
      omega (arith, fits, least)

  looks_on : (line : SliceLine) → Contains lines line → Contains site.lines line
  looks_on line among = (given.format line 0 among (omega (arith, some))).one_of

  front_before : (line : SliceLine) → Contains lines line → (old new : Image) → MayWipe (place_on line blocks count 0) old new → AreAllBefore (Spells g) g old new
  front_before line among old new change = first_place_before (read_of g) g given.sound key line (looks_on line among) old new blocks count (within_line line 0 among (omega (arith, some))) change

  pub dark_known : StaysKnown site lines count blocks (StayDark g key identity t)
  dark_known = record {
    first = λ line u m among leaves dark. dark_at u m (place_on line blocks count 0) leaves (λ old new is change. front_before line among old new change) dark;
    later = λ line k u m among lt none leaves dark.
        dark_at u m (place_on line blocks count k) leaves (λ old new is change. unled_before (read_of g) g given.sound key line (looks_on line among) old new blocks count k (within_line line k among lt) (none old is) change) dark;
  }

  pub dark_now : StayDark g key identity t t
  dark_now = stay_dark g key identity t

  pub may_put : (u : Tale) → IsCleared site lines count blocks some (StayDark g key identity t) dark_known (λ line. Contains lines line) u → ArePut g key identity lines count blocks claim t (λ other j. ⊥) (λ other from. Contains lines other × (1 ≤ from)) u
  may_put u s = record {
    dark = s.known;
    own = λ line j none. absurd none;
    blank = λ line from is image of j up lt fits. (let one = is.1 in s.blank line is.0 image of j (omega (arith, one, up)) lt fits);
  }

  -- Where all databases stand.
  module _ (all : List Database) where
    abbrev log : Log
    log = issued_log identity

    abbrev Rests : Tale → Type 0
    Rests m = Traces (Spells g) site identity log log (IsStart site) (λ es. es ≡ []) (IsStart site) t m

    abbrev Clear : Tale → Type 0
    Clear u = MayClear (Spells g) g all key identity lines u

    -- the rest stands, and may be taken on the slices
    pub record IsRested (u : Tale) : Type 0 where
      pub rest : RestStands (Spells g) g all identity u
      pub taken : (line : SliceLine) → Contains lines line → RestMayBeTaken (Spells g) g all identity line u

    -- so it is while the first place of a slice is blanked, whatever first master it has
    rests_front : (line : SliceLine) (u m : Tale) → Contains lines line → Leaves (MayWipe (place_on line blocks count 0)) u m → IsRested u → IsRested m
    rests_front line u m among leaves s =
        let f = given.format line 0 among (omega (arith, some)) in
        record {
          rest = λ image is.
              let from = leaves image is in
              let before = first_of site from.0 line in
              rest_first_place (read_of g) g given.sound key line f.one_of from.0 image all identity (s.rest from.0 from.1) blocks count claim before.0 f before.1 (s.taken line among from.0 from.1) from.2;
          taken = λ other has image is d of_rest.
              let from = leaves image is in
              taken_before (Spells g) g from.0 image (front_before line among from.0 image from.2) other d (s.taken other has from.0 from.1 d of_rest);
        }

    -- and while any place is of a slice that has none
    rests_later : (line : SliceLine) (k : ℕ) (u m : Tale) → Contains lines line → k < count → HasNoFirst site line u → Leaves (MayWipe (place_on line blocks count k)) u m → IsRested u → IsRested m
    rests_later line k u m among lt none leaves s = record {
      rest = λ image is.
          let from = leaves image is in
          rest_later (read_of g) g given.sound key line (looks_on line among) from.0 image all identity (s.rest from.0 from.1) blocks count k (within_line line k among lt) (none from.0 from.1) from.2;
      taken = λ other has image is d of_rest.
          let from = leaves image is in
          taken_before (Spells g) g from.0 image (unled_before (read_of g) g given.sound key line (looks_on line among) from.0 image blocks count k (within_line line k among lt) (none from.0 from.1) from.2) other d (s.taken other has from.0 from.1 d of_rest);
    }

    pub rested_known : StaysKnown site lines count blocks IsRested
    rested_known = record { first = rests_front; later = rests_later }

    -- nothing happened to the database
    pub record IsClearing (m : Tale) : Type 0 where
      pub clear : Clear m
      pub traces : Rests m

    clearing_at : (u m : Tale) (at : PlaceAt) → Leaves (MayWipe at) u m → Clear m → IsClearing u → IsClearing m
    clearing_at u m at leaves after s = record {
      clear = after;
      traces =
          trace_more (Spells g) site identity log log log (IsStart site) (IsStart site) (IsStart site) (λ es. es ≡ []) (λ es. es ≡ []) (λ es. es ≡ []) t u m (λ es fs a b i. a i ++ b i) s.traces
          (traced_clearing (Spells g) site identity log u (MayWipe at) m refl refl after.none leaves);
    }

    -- the first place of a slice is blanked, whatever first master it has
    clears_front : (line : SliceLine) (u m : Tale) → Contains lines line → Leaves (MayWipe (place_on line blocks count 0)) u m → Clear u → Clear m
    clears_front line u m among leaves clear =
        let rested = rests_front line u m among leaves (record { rest = clear.rest; taken = clear.taken }) in
        record {
          none = λ image is. (let from = leaves image is in none_before (Spells g) g from.0 image (front_before line among from.0 image from.2) key identity (clear.none from.0 from.1));
          rest = rested.rest;
          taken = rested.taken;
        }

    pub clear_known : StaysKnown site lines count blocks IsClearing
    clear_known = record {
      first = λ line u m among leaves s. clearing_at u m (place_on line blocks count 0) leaves (clears_front line u m among leaves s.clear) s;
      later = λ line k u m among lt none leaves s.
          clearing_at u m (place_on line blocks count k) leaves (clears_later (read_of g) g all key identity lines u m s.clear given.sound line blocks count k (looks_on line among) (within_line line k among lt) none leaves) s;
    }

    pub clear_now : Clear t → IsClearing t
    clear_now clear = record { clear = clear; traces = λ image is. (image, is, λ w world known. record { events = []; are = refl; may = tt; world = world; known = known }) }

-- The masters of a creation were blanked, so its places may be formatted.
module _ (g : Geometry) (key : Key) (identity : Identity) (lines : List SliceLine) (count blocks : ℕ) (given : IsGiven g key identity lines count blocks 1) (some : 1 ≤ count) (t : Tale) (all : List Database) where
  pub may_form : (u : Tale) → IsClearing g key identity lines count blocks 1 given some t all u → ArePut g key identity lines count blocks 1 t (λ other j. ⊥) (λ other from. Contains lines other × (1 ≤ from)) u
      → IsFormedTo g all key identity lines count blocks t (λ other j. ⊥) (λ other from. Contains lines other × (1 ≤ from)) [] (spots_of (seats g key identity lines count blocks)) u
  may_form u s put = record {
    put = put;
    whole = refl;
    made = [];
    traces =
        run_traced (Spells g) (site_of g key) identity (issued_log identity) (issued_log identity) (IsStart (site_of g key)) (IsCreating (named g key identity lines count blocks) []) (IsCreationBegin (named g key identity lines count blocks)) t u
        (trace_more (Spells g) (site_of g key) identity (issued_log identity) (issued_log identity) (issued_log identity) (IsStart (site_of g key)) (IsStart (site_of g key)) (IsCreating (named g key identity lines count blocks) []) (λ es. es ≡ []) (IsCreationBegin (named g key identity lines count blocks)) (IsCreationBegin (named g key identity lines count blocks)) t u u
        (λ es fs none begins. subst (λ (l : List Event). IsCreationBegin (named g key identity lines count blocks) (l ++ fs)) (sym none) begins) s.traces
        (traced_creation (Spells g) (site_of g key) identity (issued_log identity) u s.clear.none (lists g key identity lines count blocks)));
    only = λ q is. absurd (cc (is));
    has = λ line j none. absurd none;
    rest = s.clear.rest;
    taken = s.clear.taken;
  }
