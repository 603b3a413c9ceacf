-- What is written for another database.
use Rattle.std.proofs.Common.{◌≡◌, ◌⊎◌, inl, inr, ℕ, zero, suc, ◌+◌, ◌-◌, ◌*◌, ◌<◌, ◌≤◌, ◌^◌, true, false, List, [], ◌∷◌, refl, sym, ◌∙◌, ap, subst, Contains, Option, None, Some, arith}
use Rattle.std.proofs.lemmas.Bool.{and_from, cases_Bool, cond-false, cond-true, false≢true, false_from_ne_true, not_from_false}
use Rattle.std.proofs.lemmas.List.Folds.{Any-from_list_any}
use Rattle.std.specs.Prelude.{max, nat_le, not}
use Rattle.mdv_name.specs.Sound.{IsSound}
use Rattle.mdv_replica.specs.Images.{SameOutside}
use Rattle.mdv_shelf.specs.Area.{AreApart, range}
use Rattle.mdv_quorum.specs.May.{MayAll, is_firm_in, may_wipe}
use Rattle.mdv_quorum.specs.World.{crashed, wiped_at, without}
use Rattle.mdv_shown.specs.Formats.{lost_with}
use Rattle.mdv_shown.specs.Found.{Counts}
use Rattle.mdv_shown.specs.Others.{IsOther}
use Rattle.mdv_shown.specs.Shown.{ShowsPlaces}
use Rattle.mdv_shown.specs.Site.{line_area}
use Rattle.mdv_shown.specs.Sites.{site_of}
use Rattle.mdv_shown.specs.Wipes.{spots_behind, spots_from, wiped_all}
use Rattle.mdv_shown.proofs.Elsewhere.{in_range, range_has}
use Rattle.mdv_shown.proofs.Formatting.{others_first, others_later}
use Rattle.mdv_shown.proofs.Framed.{shows_rest}
use Rattle.mdv_shown.proofs.Others.{other_claims, other_slots}
use Rattle.mdv_shown.proofs.Sites.{lines_apart, site_is}
use Rattle.mdv_shown.proofs.Wiped.{IsWiped, all_wiped, in_from}
use Rattle.mdv_standing.specs.Below.{Lives, Core, Crash, FamilyTable, FirstIs, Geometry, HasFirst, Head, Identity, Image, IsFormat, IsTable, Key, Log, Mark, Master, MayClaim, MayFill, MayFormat, PlaceAt, Reading, Shows, Site, SliceLine, Slot, Spot, Stage, Table, after_all, is_in, master_on, place_at, place_on, site_area, spot_on}
use Rattle.mdv_standing.specs.Laws.{ShowsNoTable}
use Rattle.mdv_standing.specs.Listed.{IsUnshown}
use Rattle.mdv_standing.specs.Matching.{Matches, spot_floor, tables_of}
use Rattle.mdv_standing.specs.Others.{Anything, IsAnother, IsBeside, IsLoss, MayLose}
use Rattle.mdv_standing.specs.Worlds.{IsWorld, Turned}
use Rattle.mdv_standing.proofs.Reaching.{reached_more}
use Rattle.mdv_standing.proofs.Lawful.{not_firm, nothing_shown}
use Rattle.mdv_standing.proofs.Listed.{AreStill, claim_still, frame_still, listed_still, slot_still}
use Rattle.mdv_standing.proofs.Shedding.{IsOnLine, crashes, sheds}
use Rattle.mdv_standing.proofs.Within.{apart_or_in, claim_within, fill_within, format_for, format_within, found_for}
use Rattle.mdv_standing.proofs.Cutting.{cut_is}
use Rattle.mdv_standing.proofs.Creating.{floor_wiped, places_agree, since_wiped, wipe_each}

-- what is done on a slice that isn't one of the site's leaves the blocks of the site
site_kept : (site : Site) (L : SliceLine) (old new : Image) → ((b : SliceLine) → Contains site.lines b → AreApart (line_area L) (line_area b)) → SameOutside (line_area L) old new
    → (drive block : ℕ) → site_area site drive block ≡ true → new drive block ≡ old drive block
site_kept site L old new apart outside drive block is =
    let found = Any-from_list_any (λ (line : SliceLine). range line.at.drive.0 (line.at.start + 16) (line.at.blocks - 16) drive block) site.lines is in
    let b = found.1 in
    let r = in_range b.at.drive.0 (b.at.start + 16) (b.at.blocks - 16) drive block found.4 in
    let its : line_area b drive block ≡ true =
    subst (λ (d : ℕ). range b.at.drive.0 b.at.start b.at.blocks d block ≡ true) r.0 (range_has b.at.drive.0 b.at.start b.at.blocks block (omega (arith, r.1)) (omega (arith, r.1, r.2))) in
    outside drive block (false_from_ne_true (line_area L drive block) (λ has. apart b (found.0, found.2, found.3) drive block has its))

module _ (Spells : List ℕ → Table → Type 0) (g : Geometry) (key : Key) (identity : Identity) (log : Log) (w : Core) (old new : Image) where
  abbrev site : Site
  site = site_of g key

  -- the slice isn't one on which a boot of this key looks
  pub world_apart : (L : SliceLine) → ((b : SliceLine) → Contains site.lines b → AreApart (line_area L) (line_area b)) → SameOutside (line_area L) old new → IsWorld Spells site identity log w old → IsWorld Spells site identity log w new
  world_apart L apart outside world = record {
    reached = world.reached;
    matches = world.matches;
    shows = shows_rest Spells site identity (tables_of log.family) w.family w.places old new (site_kept site L old new apart outside) world.shows;
    listed = listed_still Spells site identity log w old new (frame_still Spells site identity old new (site_kept site L old new apart outside)) world.listed;
  }

  module _ (other : Key) (line : SliceLine) (k : ℕ) (first : Master) (head : Head) (is : IsBeside Spells g key identity other old line k first head) (world : IsWorld Spells site identity log w old) where
    abbrev at : PlaceAt
    at = place_on line first.blocks first.count k

    cases : Contains site.lines line ⊎ ((b : SliceLine) → Contains site.lines b → AreApart (line_area line) (line_area b))
    cases = apart_or_in site.lines line (λ b has. lines_apart g is.sound other key line b is.found.one_of has)

    as_other : Contains site.lines line → IsOther Spells site identity old line k first head
    as_other has = record {
      site_is = site_is g key is.sound;
      found = found_for g other key line has Spells k (old line.at.drive.0) first head is.found;
      other = λ same. is.another (sym is.found.of_key ∙ same);
    }

    stays : AreStill Spells site identity old new → Shows Spells site identity (tables_of log.family) w new → IsWorld Spells site identity log w new
    stays still shows = record { reached = world.reached; matches = world.matches; shows = shows; listed = listed_still Spells site identity log w old new still world.listed }

    pub claims_leave : (number : ℕ) → number < 2 ^ 63 → MayClaim at number old new → IsWorld Spells site identity log w new
    claims_leave number small change = elim cases [
      | inl has ↦ stays (claim_still Spells site identity old new (site_is g key is.sound) line k first head (as_other has).found number small change) (other_claims Spells site identity line k first head old new (as_other has) (tables_of log.family) w number small world.shows change)
      | inr apart ↦ world_apart line apart (claim_within line k first.blocks first.count old new is.found.within is.found.located.lies.least number change) world
    ]

    pub slots_leave : (slot : Slot) (mark : Mark) (bytes : ℕ) (body : List (List ℕ)) → IsTable (Counts Spells) at mark bytes body → MayFill at slot mark bytes body old new → IsWorld Spells site identity log w new
    slots_leave slot mark bytes body table change = elim cases [
      | inl has ↦ stays (slot_still Spells site identity old new (site_is g key is.sound) line k first head (as_other has).found slot mark bytes body table change) (other_slots Spells site identity line k first head old new (as_other has) (tables_of log.family) w slot mark bytes body table world.shows change)
      | inr apart ↦ world_apart line apart (fill_within line k first.blocks first.count old new is.found.within is.found.located.lies.least slot mark bytes body table.in_slot change) world
    ]

pub ArePlaces : List Spot → Type 0
ArePlaces [] = Unit {0}
ArePlaces (p ∷ ps) = (p.mediator ≡ false) × ArePlaces ps

pub none_places : ArePlaces []
unfolding ArePlaces
none_places = tt

cut_may : (spots : List Spot) (w : Core) → w.stage ≡ Reading [] → w.firm ≡ None → ArePlaces spots → MayAll w (wiped_all spots)
unfolding ArePlaces
cut_may [] w e none are = tt
cut_may (p ∷ ps) w e none are = (
  subst (λ (s : Stage). may_wipe w p s ≡ true) (sym e) (and_from (not p.mediator) (not (is_firm_in w.family w.firm p)) (not_from_false p.mediator are.0)
      (not_from_false (is_firm_in w.family w.firm p) (ap (λ (o : Option ℕ). is_firm_in w.family o p) none))),
  subst (λ (v : Core). MayAll v (wiped_all ps)) (sym (ap (wiped_at w p) e)) (cut_may ps (without w p) e none are.1),
)

pub from_places : (line : SliceLine) (b k n : ℕ) → ArePlaces (spots_from line b k n)
unfolding ArePlaces
from_places line b k zero = tt
from_places line b k (suc n) =
    let rest = spots_from line b (k + 1) n in
    elim (cases_Bool (nat_le (16 + k * b + b) line.at.blocks)) [
      | inl fits ↦ subst ArePlaces (sym (cond-true (nat_le (16 + k * b + b) line.at.blocks) (spot_on line b k ∷ rest) rest fits)) (refl, from_places line b (k + 1) n)
      | inr past ↦ subst ArePlaces (sym (cond-false (nat_le (16 + k * b + b) line.at.blocks) (spot_on line b k ∷ rest) rest past)) (from_places line b (k + 1) n)
    ]

lost_places : (line : SliceLine) (before : Option Master) → ArePlaces (lost_with line before)
unfolding ArePlaces
lost_places line None = tt
lost_places line (Some first) = from_places line first.blocks 0 (max 1 first.count - 0)

module _ (Spells : List ℕ → Table → Type 0) (site : Site) (identity : Identity) (log : Log) (w : Core) (old new : Image) (world : IsWorld Spells site identity log w old) (lives : log.fate ≡ Lives) (none : ShowsNoTable Spells site identity old) where
  no_firm : w.firm ≡ None
  no_firm = by w.firm refl
    where
      by : (o : Option ℕ) → w.firm ≡ o → w.firm ≡ None
      by None e = e
      by (Some f) e = absurd (not_firm Spells site identity log w old world none lives f e)

  pub loses : (spots : List Spot) → ArePlaces spots → Shows Spells site identity (tables_of log.family) (after_all w (wiped_all spots)) new → Turned Spells site identity log w new IsLoss Anything
  loses spots are shows =
      let es = Crash ∷ wiped_all spots in
      let fits : MayAll w es = (refl, cut_may spots (crashed w) refl no_firm are) in
      let leads : after_all w es ≡ record (crashed w) { places = wipe_each w.places spots } = cut_is spots (crashed w) refl in
      let m = world.matches in
      record {
        events = es;
        are = (spots, refl);
        may = fits;
        world = record {
          reached = reached_more site w es world.reached fits;
          matches = subst (Matches site log) (sym leads) (record {
            kind = m.kind;
            book = m.book;
            as_many = m.as_many;
            each = m.each;
            answered = m.answered;
            dropped = λ p i e. m.dropped p i (sym (since_wiped spots w.places p) ∙ e);
            steady = m.steady;
            reused = λ p. subst (λ (f : ℕ). f ≤ spot_floor site log p) (sym (floor_wiped spots w.places p)) (m.reused p);
            there = m.there;
            gone = m.gone;
          });
          shows = subst (λ (v : Core). Shows Spells site identity (tables_of log.family) v new) (sym leads) (cut_shows shows leads);
          listed = inr (inl (subst IsUnshown (sym leads) (cut_unshown leads)));
        };
        known = tt;
      }
    where
      cut_unshown : after_all w (Crash ∷ wiped_all spots) ≡ record (crashed w) { places = wipe_each w.places spots } → IsUnshown (record (crashed w) { places = wipe_each w.places spots })
      cut_unshown leads =
          let b : IsWiped (crashed w) (record (crashed w) { places = wipe_each w.places spots }) spots = subst (λ (v : Core). IsWiped (crashed w) v spots) leads (all_wiped (crashed w) spots) in
          record {
            read = [];
            stage = refl;
            none = λ q i has. elim (cases_Bool (is_in spots q)) [
              | inl inside ↦ b.gone q inside has.holds
              | inr out ↦ nothing_shown Spells site identity log w old world none q i (record { holds = sym (b.kept q out) ∙ has.holds; newest = sym (b.newest q) ∙ has.newest })
            ];
          }

      cut_shows : Shows Spells site identity (tables_of log.family) (after_all w (wiped_all spots)) new → after_all w (Crash ∷ wiped_all spots) ≡ record (crashed w) { places = wipe_each w.places spots }
          → Shows Spells site identity (tables_of log.family) (record (crashed w) { places = wipe_each w.places spots }) new
      cut_shows shown leads =
          let a : IsWiped w (after_all w (wiped_all spots)) spots = all_wiped w spots in
          let b : IsWiped (crashed w) (record (crashed w) { places = wipe_each w.places spots }) spots = subst (λ (v : Core). IsWiped (crashed w) v spots) leads (all_wiped (crashed w) spots) in
          places_agree Spells site identity (tables_of log.family) w.family (after_all w (wiped_all spots)).places (wipe_each w.places spots) new
          (λ q. record {
            holds = elim (cases_Bool (is_in spots q)) [
              | inl inside ↦ false_from_ne_true (place_at (wipe_each w.places spots) q).holds (λ h. b.gone q inside h) ∙ sym (false_from_ne_true (place_at (after_all w (wiped_all spots)).places q).holds (λ h. a.gone q inside h))
              | inr out ↦ b.kept q out ∙ sym (a.kept q out)
            ];
            claim = b.claim q ∙ sym (a.claim q);
            newest = b.newest q ∙ sym (a.newest q);
          })
          (subst (λ (f : List FamilyTable). ShowsPlaces Spells site identity (tables_of log.family) f (after_all w (wiped_all spots)).places new) a.family shown)

module _ (Spells : List ℕ → Table → Type 0) (g : Geometry) (key : Key) (identity : Identity) (log : Log) (w : Core) (old new : Image) (other : Key) (its : Identity) (line : SliceLine) (sound : IsSound g) (another : IsAnother key identity other its)
    (world : IsWorld Spells (site_of g key) identity log w old) (lose : MayLose Spells g key identity log old line) where
  abbrev mine : Site
  mine = site_of g key

  within : (blocks count k number : ℕ) → IsFormat (site_of g other) its old line blocks count k number → MayFormat (place_on line blocks count k) (master_on (site_of g other) its line blocks count k) number old new
      → SameOutside (line_area line) old new
  within blocks count k number f change = format_within line k blocks count old new f.within f.lies.least (master_on (site_of g other) its line blocks count k) number change

  beside : (blocks count k number : ℕ) → IsFormat (site_of g other) its old line blocks count k number → ((b : SliceLine) → Contains mine.lines b → AreApart (line_area line) (line_area b))
      → MayFormat (place_on line blocks count k) (master_on (site_of g other) its line blocks count k) number old new → Turned Spells mine identity log w new IsLoss Anything
  beside blocks count k number f apart change =
      crashes Spells mine identity log w new (world_apart Spells g key identity log w old new line apart (within blocks count k number f change) world)

  -- what is found there is lost, or nothing
  lost_by : (spots : List Spot) → Contains mine.lines line → SameOutside (line_area line) old new → ((q : Spot) → is_in spots q ≡ true → (q.mediator ≡ false) × IsOnLine line q) → ArePlaces spots
      → Shows Spells mine identity (tables_of log.family) (after_all w (wiped_all spots)) new → Turned Spells mine identity log w new IsLoss Anything
  lost_by spots has outside on are shown = elim lose [
    | inl (lives, none) ↦ loses Spells mine identity log w old new world lives none spots are shown
    | inr loose ↦ sheds Spells g sound key identity log w old new world line has loose outside spots on shown
  ]

  none_lost : (q : Spot) → is_in [] q ≡ true → (q.mediator ≡ false) × IsOnLine line q
  none_lost q e = absurd (false≢true e)

  on_line : (b from n : ℕ) → 16 ≤ b → (q : Spot) → is_in (spots_from line b from n) q ≡ true → (q.mediator ≡ false) × IsOnLine line q
  on_line b from n least q e =
      let is = in_from line b from n q e in
      (ap (λ (s : Spot). s.mediator) (sym is.spot), record { number = is.number; blocks = b; least = least; within = is.within; spot = is.spot })

  lost_on : (before : Option Master) → FirstIs (site_of g other) old line before → (q : Spot) → is_in (lost_with line before) q ≡ true → (q.mediator ≡ false) × IsOnLine line q
  lost_on None known q e = absurd (false≢true e)
  lost_on (Some first) known q e = on_line first.blocks 0 (max 1 first.count - 0) known.lies.least q e

  pub first_formats_take : (blocks count number : ℕ) (before : Option Master) → IsFormat (site_of g other) its old line blocks count 0 number → FirstIs (site_of g other) old line before
      → MayFormat (place_on line blocks count 0) (master_on (site_of g other) its line blocks count 0) number old new → Turned Spells mine identity log w new IsLoss Anything
  first_formats_take blocks count number before f known change = elim (apart_or_in mine.lines line (λ b has. lines_apart g sound other key line b f.one_of has)) [
    | inr apart ↦ beside blocks count 0 number f apart change
    | inl has ↦ elim (others_first Spells mine identity (tables_of log.family) w old new line world.shows other its (λ k i. another k i) blocks count number before (format_for g other key line has sound its old blocks count 0 number f) (first_mine before known) change) [
      | inl same ↦ lost_by [] has (within blocks count 0 number f change) none_lost none_places same
      | inr lost ↦ lost_by (lost_with line before) has (within blocks count 0 number f change) (lost_on before known) (lost_places line before) lost
    ]
  ]
    where
      first_mine : (o : Option Master) → FirstIs (site_of g other) old line o → FirstIs mine old line o
      first_mine None is = is
      first_mine (Some m) is = is

  pub later_formats_take : (k number : ℕ) (first : Master) → 0 < k → IsFormat (site_of g other) its old line first.blocks first.count k number → HasFirst (site_of g other) old line first
      → MayFormat (place_on line first.blocks first.count k) (master_on (site_of g other) its line first.blocks first.count k) number old new → Turned Spells mine identity log w new IsLoss Anything
  later_formats_take k number first some f has_first change = elim (apart_or_in mine.lines line (λ b has. lines_apart g sound other key line b f.one_of has)) [
    | inr apart ↦ beside first.blocks first.count k number f apart change
    | inl has ↦ elim (others_later Spells mine identity (tables_of log.family) w old new line world.shows other its (λ c i. another c i) k number first some (format_for g other key line has sound its old first.blocks first.count k number f)
        (record { site_is = site_is g key sound; one_of = has; located = has_first.located }) change) [
          | inl same ↦ lost_by [] has (within first.blocks first.count k number f change) none_lost none_places same
          | inr lost ↦
              lost_by (spots_behind line first k) has (within first.blocks first.count k number f change) (on_line first.blocks k (max 1 first.count - k) has_first.located.lies.least)
              (from_places line first.blocks k (max 1 first.count - k)) lost
        ]
  ]
