-- The last table is taken by places, until enough of them have it.
use Rattle.std.proofs.Common.{◌≡◌, inl, inr, ⊎_elim, ℕ, ◌+◌, ◌-◌, ◌<◌, ◌≤◌, Bool, true, false, List, [], ◌∷◌, ◌++◌, length, refl, sym, ◌∙◌, ap, subst, Contains, Option, None, Some, arith}
use Rattle.std.proofs.lemmas.Bool.{and_from, false≢true, or_cases, or_right}
use Rattle.mdv_votes.specs.Family.{put_at, with_newest}
use Rattle.mdv_votes.specs.Quorum.{is_written_list}
use Rattle.mdv_votes.specs.Spots.{same_spot}
use Rattle.mdv_votes.specs.declared.version.SpotState.{SpotState}
use Rattle.mdv_votes.proofs.Growing.{writes_grow}
use Rattle.mdv_votes.proofs.PlacesAt.{put_cases}
use Rattle.mdv_config.specs.Lists.{places_of}
use Rattle.mdv_quorum.specs.May.{IsReady, may, may_slot, may_tell}
use Rattle.mdv_quorum.specs.Standing.{ArePlaced, IsLastFirm, Standing}
use Rattle.mdv_quorum.specs.World.{happens, settled, slotted, told_at, told_of}
use Rattle.mdv_replica.specs.Images.{filled as is_filled}
use Rattle.mdv_shown.proofs.Worlds.{slot_ends, slot_goes}
use Rattle.mdv_standing.specs.Below.{Identity, Mark, SliceLine, Master, Head, Slot, Site, place_on, spot_on, IsAbove, IsBodyOf, IsSpareSlot, Fills, MayFill, Image, Core, Stage, Writing, Ready, Slotted, Told, Filled, Log, Version, Written, log_after, Table, FamilyTable, Spot, SpotLists, covers, is_in, is_named, is_written, last_list, last_number, last_table, place_at, table_at, Shows}
use Rattle.mdv_standing.specs.Listed.{HavePlaces}
use Rattle.mdv_standing.specs.Matching.{Matches, lists_of, spot_floor, spots_of, tables_of, version_at}
use Rattle.mdv_standing.specs.Worlds.{IsWorld, Turned, IsNoneOr, HasLast, IsTaking, IsReadyWith}
use Rattle.mdv_standing.specs.Adopting.{IsSlotWrite, IsTaken}
use Rattle.mdv_standing.proofs.Listed.{own_found, past_reading, places_answered, places_still, slot_still}
use Rattle.mdv_standing.proofs.Since.{answered_not_behind}
use Rattle.mdv_standing.proofs.Versions.{answered_length, answered_same, version_newest}
use Rattle.mdv_standing.proofs.Reaching.{reached_more, standing, tables_agree}
use Rattle.mdv_standing.proofs.Following.{floor_put, matches_follow, one_more, settled_family, settled_follows, settled_place, settled_stage, since_put, steady_last}

-- the last table of a world is the log's newest version
module _ (site : Site) (log : Log) (w : Core) (m : Matches site log w) (v : Version) (older : List Version) (newest : log.family ≡ v ∷ older) where
  long : length w.family ≡ length older + 1
  long = (let all : length log.family ≡ length (v ∷ older) = ap length newest in omega (arith, m.as_many, all))

  pub some_table : 0 < length w.family
  some_table = omega (arith, long)

  pub last_version : version_at log.family (last_number w) ≡ v
  last_version = ap (λ (l : List Version). version_at l (last_number w)) newest ∙ version_newest v older (last_number w) (omega (arith, long))

  pub last_lists : (last_table w).lists ≡ lists_of site v
  last_lists = (m.each (last_number w) (omega (arith, long))).lists ∙ ap (lists_of site) last_version

module _ (Spells : List ℕ → Table → Type 0) (site : Site) (identity : Identity) (log : Log) (w : Core) (old : Image) (line : SliceLine) (k : ℕ) (first : Master) (head : Head) (v : Version) (bytes : ℕ) (body : List (List ℕ)) (by_majority : Bool)
    (took : List Spot) (s : IsSlotWrite Spells site identity log w old line k first head v bytes body by_majority took) where
  abbrev p : Spot
  p = spot_on line first.blocks k

  known : IsTaking by_majority v.mark took w
  known = s.known

  version : version_at log.family (last_number w) ≡ v
  version = last_version site log w s.world.matches v s.older s.newest

  here : (place_at w.places p).holds ≡ true
  here = (s.world.shows.each line k first head s.own).holds

  fits : may w (Slotted p Filled) ≡ true
  fits = subst (λ (g : Stage). may_slot w p g ≡ true) (sym known.stage)
      (and_from (place_at w.places p).holds (is_named (last_table w).lists p) here
      (subst (λ (l : SpotLists). is_named l p ≡ true) (sym (last_lists site log w s.world.matches v s.older s.newest)) s.named))

  -- what the write makes of the world: first the place, then whether the table is firm
  abbrev taken_by : Core
  taken_by = record w { places = put_at w.places p (with_newest (last_number w)); stage = Writing known.boot (known.all ++ p ∷ []) }

  abbrev suffices : Bool
  suffices = is_written (last_table w) (is_in (known.all ++ p ∷ []))

  leads : happens w (Slotted p Filled) ≡ settled taken_by (last_table w) suffices
  leads = ap (slotted w p Filled) known.stage

  taken_matches : Matches site log taken_by
  taken_matches = matches_follow site log w taken_by (record {
    set = refl;
    family = refl;
    changes = refl;
    floors = λ q. subst (λ (f : ℕ). f ≤ spot_floor site log q) (sym (floor_put w.places p q (with_newest (last_number w)) (λ x. refl) (λ x. refl))) (s.world.matches.reused q);
    deleted = refl;
    firm = λ f e. (f, e, omega arith);
    dropped = λ q i e. s.world.matches.dropped q i (sym (since_put w.places p q (with_newest (last_number w)) (λ x. refl) (λ x. refl)) ∙ e);
    steady = s.world.matches.steady;
  }) s.world.matches

  taken_placed : ArePlaced taken_by
  taken_placed q e = (standing site w s.world.reached).placed q (sym (since_put w.places p q (with_newest (last_number w)) (λ x. refl) (λ x. refl)) ∙ e)

  settled_matches : Matches site log (settled taken_by (last_table w) suffices)
  settled_matches = matches_follow site log taken_by (settled taken_by (last_table w) suffices)
      (settled_follows site log taken_by taken_matches (some_table site log w s.world.matches v s.older s.newest) (standing site w s.world.reached).descent.known taken_placed suffices) taken_matches

  -- a place that took the table has it as its newest
  took_last : (q : Spot) → is_in (p ∷ took) q ≡ true → HasLast taken_by q
  took_last q e = elim (put_cases w.places p q (with_newest (last_number w)) (λ x. refl)) [
    | inl same ↦ record {
      holds = ap (λ (x : SpotState). x.holds) same.1 ∙ subst (λ (z : Spot). (place_at w.places z).holds ≡ true) same.0 here;
      newest = ap (λ (x : SpotState). x.newest) same.1;
    }
    | inr other ↦ elim (or_cases (same_spot p q) (is_in took q) e) [
      | inl same ↦ absurd (false≢true (sym other.0 ∙ same))
      | inr before ↦ (let was = known.taken q before in record { holds = ap (λ (x : SpotState). x.holds) other.1 ∙ was.holds; newest = ap (λ (x : SpotState). x.newest) other.1 ∙ was.newest })
    ]
  ]

  settled_last : last_table (settled taken_by (last_table w) suffices) ≡ last_table w
  settled_last = ap (λ (l : List FamilyTable). table_at l (length l - 1)) (settled_family taken_by (last_table w) suffices)

  settled_taking : IsTaking by_majority v.mark (p ∷ took) (settled taken_by (last_table w) suffices)
  settled_taking = record {
    boot = known.boot;
    all = known.all ++ p ∷ [];
    stage = settled_stage taken_by (last_table w) suffices;
    marked = ap (λ (t : FamilyTable). t.mark) settled_last ∙ known.marked;
    kind = ap (λ (t : FamilyTable). t.by_majority) settled_last ∙ known.kind;
    within = one_more p took known.all known.within;
    taken = λ q e. (let is = took_last q e in let same = settled_place taken_by (last_table w) suffices q in record {
      holds = same.0 ∙ is.holds;
      newest = same.1 ∙ is.newest ∙ ap (λ (l : List FamilyTable). Some (length l - 1)) (sym (settled_family taken_by (last_table w) suffices));
    });
  }

  taking : IsTaking by_majority v.mark (p ∷ took) (happens w (Slotted p Filled))
  taking = subst (IsTaking by_majority v.mark (p ∷ took)) (sym leads) settled_taking

  fewer : (x : Core) → IsTaking by_majority v.mark (p ∷ took) x → IsTaking by_majority v.mark took x
  fewer x t = record {
    boot = t.boot;
    all = t.all;
    stage = t.stage;
    marked = t.marked;
    kind = t.kind;
    within = λ q e. t.within q (or_right (same_spot p q) (is_in took q) e);
    taken = λ q e. t.taken q (or_right (same_spot p q) (is_in took q) e);
  }

  listed : (new : Image) (slot : Slot) → MayFill (place_on line first.blocks first.count k) slot v.mark bytes body old new → HavePlaces Spells site identity log new
  listed new slot change =
      places_still Spells site identity log old new
      (slot_still Spells site identity old new s.site_is line k first head (own_found Spells site identity line k old first head s.own) slot v.mark bytes body s.body_is.is change)
      (⊎_elim (λ have. have) (λ none. absurd (past_reading site w s.world.reached (Writing known.boot known.all) known.stage (λ read same. cc (same)) none)) s.world.listed)

  world_taken : (new : Image) → HavePlaces Spells site identity log new → Shows Spells site identity (tables_of log.family) (happens w (Slotted p Filled)) new → IsWorld Spells site identity log (happens w (Slotted p Filled)) new
  world_taken new have shows = record {
    reached = reached_more site w (Slotted p Filled ∷ []) s.world.reached (fits, tt);
    matches = subst (Matches site log) (sym leads) settled_matches;
    shows = shows;
    listed = inl have;
  }

  body_is : IsBodyOf Spells (place_on line first.blocks first.count k) (last_table w).mark bytes body (tables_of log.family (last_number w))
  body_is = subst (λ (m : Mark). IsBodyOf Spells (place_on line first.blocks first.count k) m bytes body (tables_of log.family (last_number w))) (sym known.marked)
      (subst (λ (t : Table). IsBodyOf Spells (place_on line first.blocks first.count k) v.mark bytes body t) (ap (λ (x : Version). x.table) (sym version)) s.body_is)

  above : IsAbove (last_table w).mark head
  above = subst (λ (m : Mark). IsAbove m head) (sym known.marked) s.above

  pub slotting : (new : Image) (slot : Slot) → IsSpareSlot head slot → MayFill (place_on line first.blocks first.count k) slot v.mark bytes body old new
      → Turned Spells site identity log w new (IsNoneOr (Slotted p Filled)) (IsTaking by_majority v.mark took)
  slotting new slot spare change =
      elim (slot_goes Spells site s.site_is identity (tables_of log.family) w line k first head old new s.own s.world.shows known.boot known.all known.stage slot bytes body body_is above spare
      (subst (λ (m : Mark). MayFill (place_on line first.blocks first.count k) slot m bytes body old new) (sym known.marked) change)) [
        | inl same ↦ record { events = []; are = inl refl; may = tt; world = record { reached = s.world.reached; matches = s.world.matches; shows = same; listed = inl (listed new slot change) }; known = known }
        | inr filled ↦ record { events = Slotted p Filled ∷ []; are = inr refl; may = (fits, tt); world = world_taken new (listed new slot change) filled; known = fewer (happens w (Slotted p Filled)) taking }
      ]

  pub slot_taken : (new : Image) (slot : Slot) → Fills (place_on line first.blocks first.count k) slot v.mark bytes body old new
      → Turned Spells site identity log w new (λ es. es ≡ Slotted p Filled ∷ []) (IsTaking by_majority v.mark (p ∷ took))
  slot_taken new slot fills = record {
    events = Slotted p Filled ∷ [];
    are = refl;
    may = (fits, tt);
    world = world_taken new (listed new slot (is_filled fills)) (slot_ends Spells site s.site_is identity (tables_of log.family) w line k first head old new s.own s.world.shows known.boot known.all known.stage slot bytes body body_is above
        (subst (λ (m : Mark). Fills (place_on line first.blocks first.count k) slot m bytes body old new) (sym known.marked) fills));
    known = taking;
  }

-- the newest version's write was answered, where the last table is firm
pub matches_answered : (site : Site) (log : Log) (w : Core) → Matches site log w → w.firm ≡ Some (last_number w) → Matches site (log_after log Written) w
matches_answered site log w m firm = record {
  kind = m.kind;
  book = m.book;
  as_many = m.as_many ∙ sym (answered_length log.family);
  each = λ i known.
      let was = m.each i known in
      let same = answered_same log.family i (subst (λ (n : ℕ). i < n) m.as_many known) in
      record { mark = was.mark ∙ sym same.mark; lists = was.lists ∙ ap (λ (t : Table). spots_of site t.plan.lists) (sym same.table); some = was.some; changes = same.changes ∙ was.changes; numbered = was.numbered; lie = λ place listed. was.lie place (subst (λ (t : Table). Contains (places_of t.plan.lists) place) same.table listed) };
  answered = λ i known written. (last_number w, firm, omega (arith, known));
  dropped = λ p i e.
      let was = m.dropped p i e in
      let same = answered_same log.family i was.known in
      record {
        known = subst (λ (n : ℕ). i < n) (sym (answered_length log.family)) was.known;
        lacks = subst (λ (t : Table). is_in (last_list (spots_of site t.plan.lists)) p ≡ false) (sym same.table) was.lacks;
        by = answered_not_behind site p log.family i was.known was.by;
      };
  steady = steady_last site (log_after log Written) w firm;
  reused = m.reused;
  there = m.there;
  gone = m.gone;
}

module _ (Spells : List ℕ → Table → Type 0) (site : Site) (identity : Identity) (log : Log) (w : Core) (image : Image) (v : Version) (by_majority : Bool) (took : List Spot)
    (t : IsTaken Spells site identity log w image v by_majority took) where
  enough_took : may w Told ≡ true
  enough_took =
      let last = last_table w in
      let lists = last_lists site log w t.world.matches v t.older t.newest in
      let few : is_written last (is_in took) ≡ true =
      subst (λ (b : Bool). covers (is_written_list b last.lists.mediators (is_in took)) last.lists ≡ true) (sym t.known.kind)
      (subst (λ (l : SpotLists). covers (is_written_list by_majority l.mediators (is_in took)) l ≡ true) (sym lists) t.enough) in
      subst (λ (g : Stage). may_tell w g ≡ true) (sym t.known.stage) (writes_grow last (is_in took) (is_in t.known.all) t.known.within few)

  told_by : happens w Told ≡ told_of w t.known.boot
  told_by = ap (told_at w) t.known.stage

  record IsTold (x : Core) : Type 0 where
    stage : x.stage ≡ Ready None
    matches : x.firm ≡ Some (last_number x) → Matches site (log_after log Written) x
    shows : Shows Spells site identity (tables_of (log_after log Written).family) x image
    taken : (p : Spot) → is_in took p ≡ true → HasLast x p

  shows_answered : Shows Spells site identity (tables_of (log_after log Written).family) w image
  shows_answered = tables_agree Spells site identity (tables_of log.family) (tables_of (log_after log Written).family) w image (standing site w t.world.reached).family
      (λ i lt. sym (answered_same log.family i (subst (λ (n : ℕ). i < n) t.world.matches.as_many lt)).table) t.world.shows

  told_is : (boot : Option ℕ) → IsTold (told_of w boot)
  told_is None = record {
    stage = refl;
    matches = λ firm. (let m = matches_answered site log w t.world.matches firm in record { kind = m.kind; book = m.book; as_many = m.as_many; each = m.each; answered = m.answered; dropped = m.dropped; steady = m.steady; reused = m.reused; there = m.there; gone = m.gone });
    shows = record { each = shows_answered.each; only = shows_answered.only; seats = shows_answered.seats };
    taken = λ p e. (let was = t.known.taken p e in record { holds = was.holds; newest = was.newest });
  }
  told_is (Some i) = record {
    stage = refl;
    matches = λ firm. (let m = matches_answered site log w t.world.matches firm in record { kind = m.kind; book = m.book; as_many = m.as_many; each = m.each; answered = m.answered; dropped = m.dropped; steady = m.steady; reused = m.reused; there = m.there; gone = m.gone });
    shows = record { each = shows_answered.each; only = shows_answered.only; seats = shows_answered.seats };
    taken = λ p e. (let was = t.known.taken p e in record { holds = was.holds; newest = was.newest });
  }

  have : HavePlaces Spells site identity log image
  have = ⊎_elim (λ places. places) (λ none. absurd (past_reading site w t.world.reached (Writing t.known.boot t.known.all) t.known.stage (λ read same. cc (same)) none)) t.world.listed

  is_told : IsTold (happens w Told)
  is_told = subst IsTold (sym told_by) (told_is t.known.boot)

  pub answers : Turned Spells site identity (log_after log Written) w image (λ es. es ≡ Told ∷ []) (IsReadyWith took)
  answers =
      let reached = reached_more site w (Told ∷ []) t.world.reached (enough_took, tt) in
      let ready : Standing (happens w Told) = standing site (happens w Told) reached in
      let firm : IsLastFirm (happens w Told) = ready.ready (subst IsReady (sym is_told.stage) tt) in
      record {
        events = Told ∷ [];
        are = refl;
        may = (enough_took, tt);
        world = record { reached = reached; matches = is_told.matches firm.1; shows = is_told.shows; listed = inl (places_answered Spells site identity log image have) };
        known = record { in_hand = None; stage = is_told.stage; taken = is_told.taken };
      }
