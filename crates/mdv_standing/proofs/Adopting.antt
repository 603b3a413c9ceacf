-- What a boot's choice, claims and slots do to the worlds and the log of the database that it adopts.
use Rattle.std.proofs.Common.{◌≡◌, inl, inr, ⊎_elim, ℕ, ◌+◌, ◌<◌, ◌≤◌, ◌^◌, ◌&&◌, Bool, true, List, [], ◌∷◌, ◌++◌, length, refl, sym, ◌∙◌, ap, subst, Contains, Option, None, Some, arith}
use Rattle.std.proofs.lemmas.Bool.{and_from, lt-ltb, or_right}
use Rattle.std.specs.List.{filter_map}
use Rattle.std.specs.Prelude.{nat_lt, reverse}
use Rattle.mdv_votes.specs.Family.{put_at, with_claim}
use Rattle.mdv_votes.specs.Spots.{same_spot}
use Rattle.mdv_votes.proofs.Growing.{claims_grow}
use Rattle.mdv_quorum.specs.May.{is_fair, is_target, may, may_choose, may_claim, may_slot}
use Rattle.mdv_quorum.specs.Standing.{Adopts, Standing}
use Rattle.mdv_quorum.specs.World.{chosen, claimed, happens, rewritten, slotted}
use Rattle.mdv_shown.specs.Steps.{claim_at}
use Rattle.mdv_shown.specs.Worlds.{IsClaimable}
use Rattle.mdv_shown.proofs.Choice.{chosen_voted, enough, greatest_is}
use Rattle.mdv_shown.proofs.Worlds.{claim_ends, claim_goes}
use Rattle.mdv_config.specs.Lists.{places_of}
use Rattle.mdv_standing.specs.Below.{IsBelow, Identity, Mark, Geometry, SliceLine, Master, Head, Place, Slot, Seen, HaveRead, IsChosen, greatest_seen, spot_seen, spots_seen, Site, place_on, spot_on, Claims, MayClaim, Image, Core, Stage, Claiming, Claimed, Slotted, LeftClosed, Log, MayHappen, Version, WritesLog, log_after, Table, FamilyTable, Spot, SpotLists, covers, is_claimed, is_in, is_majority, is_named, is_none, is_read, knows_above, last_list, no_table, place_at, table_at, Shows}
use Rattle.mdv_standing.specs.Listed.{HasPlace, HavePlaces, IsShut}
use Rattle.mdv_standing.specs.Matching.{HasStaleVote, IsVersionAt, by_majority_of, is_set, lists_of, spot_floor, tables_of, version_at}
use Rattle.mdv_standing.specs.Worlds.{IsWorld, Turned, IsNoneOr, HasClaimed, MayBeClaimed, not_yet, claimed as has_claimed, IsTaking}
use Rattle.mdv_standing.specs.Adopting.{IsFoundVersion, IsClaim, IsBeginning, again, drawn}
use Rattle.mdv_standing.proofs.Versions.{version_has}
use Rattle.mdv_standing.proofs.Reaching.{reached_more, standing}
use Rattle.mdv_standing.proofs.Listed.{claim_still, not_over, own_found, past_reading, places_still}
use Rattle.mdv_standing.proofs.Beginning.{LeadsBy, begun_taking, begun_world, none_in}
use Rattle.mdv_standing.proofs.Voting.{all_that, below, boots, in_log, is_fair_in, lists_are, not_older, version_is}
use Rattle.mdv_standing.proofs.Following.{Follows, GoesOn, floor_put, matches_follow, one_more, since_put}

module _ (Spells : List ℕ → Table → Type 0) (site : Site) (identity : Identity) (log : Log) (w : Core) (image : Image) (world : IsWorld Spells site identity log w image) where
  stands : Standing w
  stands = standing site w world.reached

  module _ (seen : List Seen) (r : HaveRead Spells site identity (tables_of log.family) w image seen) (s : Seen) (slot : Slot) where
    pub finds : (mark : Mark) → IsChosen seen s slot mark → IsFoundVersion Spells log image s slot mark
    finds mark c =
        let voted = chosen_voted Spells site identity (tables_of log.family) w image seen r s slot mark c in
        let known = stands.family.shown _ voted.number voted.newest in
        record {
          version = version_at log.family voted.number;
          is = record {
            one_of = version_has log.family voted.number (in_log site log w world.reached world.matches voted.number known);
            marked = sym (world.matches.each voted.number known).mark ∙ voted.marked;
          };
          shows = voted.shows;
        }

    pub draws : (v : Version) → IsChosen seen s slot v.mark → Contains log.family v → covers (is_majority (is_in (spots_seen seen))) (lists_of site v) ≡ true
        → (HasStaleVote site log seen v.mark → ⊥) → MayBeClaimed v.mark (greatest_seen seen + 1) [] w
    draws v c has most fair =
        let voted = chosen_voted Spells site identity (tables_of log.family) w image seen r s slot v.mark c in
        let i = voted.number in
        let known = stands.family.shown _ i voted.newest in
        let t = table_at w.family i in
        not_yet refl (record {
          read = spots_seen seen;
          stage = r.stage;
          table = i;
          known = known;
          voted = voted.voted;
          place = spot_seen s;
          shown = record { holds = (world.shows.each s.line s.number s.first s.head (r.own s c.one_of)).holds; newest = voted.newest };
          marked = voted.marked;
          quorum = enough (is_in (spots_seen seen)) t (knows_above w.family w.places t)
              (subst (λ (l : SpotLists). covers (is_majority (is_in (spots_seen seen))) l ≡ true) (sym (lists_are site log w world.reached world.matches i v known has voted.marked)) most);
          drawn = ap (λ (n : ℕ). n + 1) (greatest_is Spells site identity (tables_of log.family) w image seen r);
          fair = is_fair_in Spells site identity log w image world.matches seen r i v.mark known voted.marked fair;
        })

-- Claims.
module _ (Spells : List ℕ → Table → Type 0) (site : Site) (identity : Identity) (log : Log) (w : Core) (old : Image) (line : SliceLine) (k : ℕ) (first : Master) (head : Head) (v : Version) (number : ℕ) (ok : List Spot)
    (c : IsClaim Spells site identity log w old line k first head v number ok) where
  abbrev p : Spot
  p = spot_on line first.blocks k

  target : (lists : SpotLists) → lists ≡ lists_of site v → is_target w lists p ≡ true
  target lists e =
      and_from (place_at w.places p).holds (is_named lists p) (c.world.shows.each line k first head c.own).holds (subst (λ (l : SpotLists). is_named l p ≡ true) (sym e) c.named)

  -- what a claim makes of the world
  abbrev with : ℕ → ℕ → FamilyTable → List Spot → Core
  with n i next taken = record w { places = put_at w.places p (with_claim n); stage = Claiming i next taken }

  -- that the claim may happen, and what is known then
  pub record IsClaimed (v' : Core) : Type 0 where
    pub claimable : IsClaimable w p number
    pub follows : Follows site log w v'
    pub known : HasClaimed v.mark number (p ∷ ok) v'

  with_follows : (n i : ℕ) (next : FamilyTable) (taken : List Spot) → Follows site log w (with n i next taken)
  with_follows n i next taken = record {
    set = refl;
    family = refl;
    changes = refl;
    floors = λ q. subst (λ (f : ℕ). f ≤ spot_floor site log q) (sym (floor_put w.places p q (with_claim n) (λ x. refl) (λ x. refl))) (c.world.matches.reused q);
    deleted = refl;
    firm = λ f e. (f, e, omega arith);
    dropped = λ q j e. c.world.matches.dropped q j (sym (since_put w.places p q (with_claim n) (λ x. refl) (λ x. refl)) ∙ e);
    steady = c.world.matches.steady;
  }

  pub claim_is : IsClaimed (happens w (Claimed p))
  claim_is = elim c.known [
    | not_yet none a ↦
        let lists = lists_are site log w c.world.reached c.world.matches a.table v a.known c.one_of a.marked in
        let next = rewritten w a.read a.table in
        let same : happens w (Claimed p) ≡ with next.mark.boot a.table next (p ∷ []) = ap (claimed w p) a.stage ∙ ap (chosen w p a.read) a.voted in
        let reads = is_read (table_at w.family a.table) (is_in a.read) (knows_above w.family w.places (table_at w.family a.table)) in
        let adopts = is_target w (table_at w.family a.table).lists p && nat_lt next.mark.boot (2 ^ 63) in
        let choose : may_choose w p a.read (Some a.table) ≡ true =
        and_from (reads && adopts) (is_fair w a.table a.read)
        (and_from reads adopts a.quorum
        (and_from (is_target w (table_at w.family a.table).lists p) (nat_lt next.mark.boot (2 ^ 63)) (target (table_at w.family a.table).lists lists)
        (lt-ltb next.mark.boot (2 ^ 63) (subst (λ (n : ℕ). n < 2 ^ 63) (sym a.drawn) c.small))))
        a.fair in
        subst IsClaimed (sym same) (record {
          claimable = record {
            fits = subst (λ (g : Stage). may_claim w p g ≡ true) (sym a.stage) (subst (λ (o : Option ℕ). may_choose w p a.read o ≡ true) (sym a.voted) choose);
            number_is = subst (λ (g : Stage). claim_at w g ≡ Some number) (sym a.stage) (ap Some a.drawn);
            small = c.small;
          };
          follows = with_follows next.mark.boot a.table next (p ∷ []);
          known = record {
            table = a.table;
            next = next;
            claimed = p ∷ [];
            stage = refl;
            known = a.known;
            marked = a.marked;
            drawn = ap (λ (n : ℕ). record { boot = n; count = 0 }) a.drawn;
            lists = refl;
            kind = refl;
            within = λ q e. subst (λ (l : List Spot). is_in (p ∷ l) q ≡ true) none e;
          };
        })
    | has_claimed h ↦
        let lists = h.lists ∙ lists_are site log w c.world.reached c.world.matches h.table v h.known c.one_of h.marked in
        let same : happens w (Claimed p) ≡ with h.next.mark.boot h.table h.next (h.claimed ++ p ∷ []) = ap (claimed w p) h.stage in
        subst IsClaimed (sym same) (record {
          claimable = record {
            fits = subst (λ (g : Stage). may_claim w p g ≡ true) (sym h.stage) (target h.next.lists lists);
            number_is = subst (λ (g : Stage). claim_at w g ≡ Some number) (sym h.stage) (ap (λ (m : Mark). Some m.boot) h.drawn);
            small = c.small;
          };
          follows = with_follows h.next.mark.boot h.table h.next (h.claimed ++ p ∷ []);
          known = record {
            table = h.table;
            next = h.next;
            claimed = h.claimed ++ p ∷ [];
            stage = refl;
            known = h.known;
            marked = h.marked;
            drawn = h.drawn;
            lists = h.lists;
            kind = h.kind;
            within = one_more p ok h.claimed h.within;
          };
        })
  ]

  -- the boot read a place that shows a table, or has claimed
  past : IsShut w → ⊥
  past (inl none) = elim c.known [
    | not_yet empty a ↦ none.none a.place a.table a.shown
    | has_claimed h ↦ past_reading site w c.world.reached (Claiming h.table h.next h.claimed) h.stage (λ read same. cc (same)) (inl none)
  ]
  past (inr (p', gone)) =
      let then = happens w (Claimed p) in
      let h = claim_is.known in
      past_reading site then (reached_more site w (Claimed p ∷ []) c.world.reached (claim_is.claimable.fits, tt)) (Claiming h.table h.next h.claimed) h.stage (λ read same. cc (same))
      (inr (p', claim_is.follows.deleted ∙ gone))

  listed : (new : Image) → MayClaim (place_on line first.blocks first.count k) number old new → HavePlaces Spells site identity log new
  listed new change =
      places_still Spells site identity log old new
      (claim_still Spells site identity old new c.site_is line k first head (own_found Spells site identity line k old first head c.own) number c.small change)
      (⊎_elim (λ have. have) (λ none. absurd (past none)) c.world.listed)

  fewer : (x : Core) → HasClaimed v.mark number (p ∷ ok) x → HasClaimed v.mark number ok x
  fewer x h = record {
    table = h.table;
    next = h.next;
    claimed = h.claimed;
    stage = h.stage;
    known = h.known;
    marked = h.marked;
    drawn = h.drawn;
    lists = h.lists;
    kind = h.kind;
    within = λ q e. h.within q (or_right (same_spot p q) (is_in ok q) e);
  }

  module _ (new : Image) (change : MayClaim (place_on line first.blocks first.count k) number old new) (shows : Shows Spells site identity (tables_of log.family) (happens w (Claimed p)) new) where
    world_claimed : IsWorld Spells site identity log (happens w (Claimed p)) new
    world_claimed = record {
      reached = reached_more site w (Claimed p ∷ []) c.world.reached (claim_is.claimable.fits, tt);
      matches = matches_follow site log w (happens w (Claimed p)) claim_is.follows c.world.matches;
      shows = shows;
      listed = inl (listed new change);
    }

    pub claim_taken : Turned Spells site identity log w new (λ es. es ≡ Claimed p ∷ []) (MayBeClaimed v.mark number (p ∷ ok))
    claim_taken = record { events = Claimed p ∷ []; are = refl; may = (claim_is.claimable.fits, tt); world = world_claimed; known = has_claimed claim_is.known }

    claim_took : Turned Spells site identity log w new (IsNoneOr (Claimed p)) (MayBeClaimed v.mark number ok)
    claim_took = record { events = Claimed p ∷ []; are = inr refl; may = (claim_is.claimable.fits, tt); world = world_claimed; known = has_claimed (fewer (happens w (Claimed p)) claim_is.known) }

  claim_untaken : (new : Image) → MayClaim (place_on line first.blocks first.count k) number old new → Shows Spells site identity (tables_of log.family) w new
      → Turned Spells site identity log w new (IsNoneOr (Claimed p)) (MayBeClaimed v.mark number ok)
  claim_untaken new change shows = record { events = []; are = inl refl; may = tt; world = record { reached = c.world.reached; matches = c.world.matches; shows = shows; listed = inl (listed new change) }; known = c.known }

  pub claiming : (new : Image) → MayClaim (place_on line first.blocks first.count k) number old new → Turned Spells site identity log w new (IsNoneOr (Claimed p)) (MayBeClaimed v.mark number ok)
  claiming new change =
      let is = claim_is.claimable in
      elim (claim_goes Spells site c.site_is identity (tables_of log.family) w line k first head old new c.own c.world.shows number is.small is.fits is.number_is change) [
        | inl same ↦ claim_untaken new change same
        | inr took ↦ claim_took new change took
      ]

  pub claim_answered : (new : Image) → Claims (place_on line first.blocks first.count k) number old new → Turned Spells site identity log w new (λ es. es ≡ Claimed p ∷ []) (MayBeClaimed v.mark number (p ∷ ok))
  claim_answered new claims =
      let is = claim_is.claimable in
      claim_taken new (inr claims) (claim_ends Spells site c.site_is identity (tables_of log.family) w line k first head old new c.own c.world.shows number is.small is.fits is.number_is claims)

-- The adopted version begins to be written anew.
module _ (Spells : List ℕ → Table → Type 0) (site : Site) (identity : Identity) (log : Log) (w : Core) (image : Image) (p : Spot) (v : Version) (number : ℕ) (ok : List Spot)
    (b : IsBeginning Spells site identity log w image p v number ok) where
  -- a claim was answered, so the boot has chosen
  chose : HasClaimed v.mark number ok w
  chose = elim b.known [ not_yet none a ↦ absurd (none_in p (subst (λ (l : List Spot). is_in l p ≡ true) none b.answered)) | has_claimed h ↦ h ]

  abbrev next : FamilyTable
  next = chose.next

  is_version : version_at log.family chose.table ≡ v
  is_version = version_is site log w b.world.reached b.world.matches chose.table v chose.known b.one_of chose.marked

  lists : next.lists ≡ lists_of site v
  lists = chose.lists ∙ lists_are site log w b.world.reached b.world.matches chose.table v chose.known b.one_of chose.marked

  pub may_write : (g : Geometry) → MayHappen g log (WritesLog (drawn number) None v.changes v.table)
  may_write g = (
    (
      all_that (λ x. IsBelow x.mark (drawn number)) log.family (λ x has. inl (below site log w b.world.reached b.world.matches v number ok chose x has)),
      not_over site log w b.world.matches (boots site log w b.world.reached b.world.matches v number ok chose).0.there,
    ),
    inr (record {
      parent = v;
      one_of = b.one_of;
      changes = refl;
      made = inl refl;
      not_older = all_that (λ x. x.is_written ≡ true → IsBelow v.mark x.mark → ⊥) log.family (not_older site log w b.world.reached b.world.matches v number ok chose);
      settles = inl refl;
    }),
  )

  abbrev written : Log
  written = log_after log (WritesLog (drawn number) None v.changes v.table)

  -- the table in hand is that version
  next_is : IsVersionAt site b.world.matches.book w.changes next (again number v)
  next_is =
      let was = b.world.matches.each chose.table chose.known in record {
        mark = chose.drawn;
        lists = lists;
        some = ap (λ (l : SpotLists). is_none l.first) chose.lists ∙ was.some;
        changes = ap (λ (x : Version). x.changes) (sym is_version) ∙ was.changes ∙ ap (λ (l : List ℕ). reverse (filter_map b.world.matches.book l)) (sym (boots site log w b.world.reached b.world.matches v number ok chose).1);
        lie = λ place listed. was.lie place (subst (λ (x : Version). Contains (places_of x.table.plan.lists) place) (sym is_version) listed);
        numbered = λ n has. was.numbered n (subst (λ (l : List ℕ). Contains l n) (boots site log w b.world.reached b.world.matches v number ok chose).1 has);
      }

  adopts : Adopts w chose.table next.mark.boot (length w.family)
  adopts = (boots site log w b.world.reached b.world.matches v number ok chose).0

  -- it isn't older than the firm one
  goes_on : GoesOn site log w (again number v)
  goes_on f firm unwritten =
      let up = adopts.above f firm ((standing site w b.world.reached).descent.known f firm) in
      ap (λ (x : Version). last_list (lists_of site x)) (sym is_version) ∙ b.world.matches.steady f chose.table firm up chose.known unwritten

  leads : LeadsBy w next (Some chose.table) p
  leads = ap (slotted w p LeftClosed) chose.stage

  fits : may w (Slotted p LeftClosed) ≡ true
  fits =
      let claims : is_claimed w.set next (is_in chose.claimed) ≡ true =
      claims_grow w.set next (is_in ok) (is_in chose.claimed) chose.within
      (subst (λ (s : Bool). is_claimed s next (is_in ok) ≡ true) (sym b.world.matches.kind)
      (subst (λ (l : SpotLists). is_claimed (is_set site.key) (record no_table { lists = l }) (is_in ok) ≡ true) (sym lists) b.enough)) in
      let holds : (place_at w.places p).holds ≡ true =
      subst (λ (q : Spot). (place_at w.places q).holds ≡ true) (sym b.own.spot) (b.world.shows.each b.own.line b.own.number b.own.first b.own.head b.own.own).holds in
      subst (λ (g : Stage). may_slot w p g ≡ true) (sym chose.stage)
      (and_from (is_claimed w.set next (is_in chose.claimed)) (is_target w next.lists p) claims
      (and_from (place_at w.places p).holds (is_named next.lists p) holds (subst (λ (l : SpotLists). is_named l p ≡ true) (sym lists) b.named)))

  kind : next.by_majority ≡ by_majority_of site v
  kind = chose.kind ∙ ap (λ (s : Bool). s && is_none next.lists.mediators) b.world.matches.kind ∙ ap (λ (l : SpotLists). is_set site.key && is_none l.mediators) lists

  have : HavePlaces Spells site identity log image
  have = ⊎_elim (λ places. places) (λ none. absurd (past_reading site w b.world.reached (Claiming chose.table chose.next chose.claimed) chose.stage (λ read same. cc (same)) none)) b.world.listed

  its : (place : Place) → Contains (places_of v.table.plan.lists) place → HasPlace Spells site identity image place
  its place listed = have v place b.one_of (all_that (λ x. x.is_written ≡ true → IsBelow v.mark x.mark → ⊥) log.family (not_older site log w b.world.reached b.world.matches v number ok chose)) listed

  pub begins : Turned Spells site identity written w image (λ es. es ≡ Slotted p LeftClosed ∷ []) (IsTaking (by_majority_of site v) (drawn number) [])
  begins = record {
    events = Slotted p LeftClosed ∷ [];
    are = refl;
    may = (fits, tt);
    world = begun_world Spells site identity log w image b.world next (again number v) next_is refl goes_on adopts.there p (Some chose.table) leads fits have its;
    known = begun_taking Spells site identity log w image b.world next (again number v) next_is refl goes_on adopts.there p (Some chose.table) leads fits (by_majority_of site v) kind;
  }
