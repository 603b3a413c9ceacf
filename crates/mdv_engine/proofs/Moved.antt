-- What a change of the open database's places leaves, told of the host.
use Rattle.std.proofs.Common.{◌≡◌, ◌⊎◌, inl, inr, ◌+◌, ◌≤◌, ◌++◌, ℕ, Bool, List, [], ◌∷◌, length, Contains, Some, Result, Ok, Err, ap, arith, refl, subst, sym, ◌∙◌}
use Rattle.std.specs.Prelude.{not}
use Rattle.std.proofs.lemmas.List.Filters.{length-filter_both}
use Rattle.mdv_store.proofs.Shares.{first_enough}
use Rattle.mdv_store.specs.declared.seats.Need.TheVariants.{Half}
use Rattle.mdv_places.proofs.Adding.{either_replica}
use Rattle.mdv_places.specs.Asked.{Asks, list_after, lists_after, seats_added}
use Rattle.mdv_places.specs.Changing.{both_of, drives_moved}
use Rattle.mdv_places.specs.Moments.{AreBlanked, IsShownBy, MoveEnds, MoveMoment, MoveShows, area_moved}
use Rattle.mdv_places.specs.Outcomes.{IsLostBoth, IsLostLast, IsLostMove, IsMoved, TakesBoth, seats_coming, till_wiped}
use Rattle.mdv_places.specs.declared.changing.PlacesFault.{PlacesFault}
use Rattle.mdv_places.specs.declared.changing.PlacesFault.TheVariants as unmoved
use Rattle.mdv_shelf.proofs.Everywhere.{last_image}
use Rattle.mdv_shelf.proofs.Moments.{ends_both, moments_end, moments_weaker}
use Rattle.mdv_shelf.specs.Shelves.{AtEachTale, AtEnd, DriveFailures}
use Rattle.mdv_shelf.specs.declared.shelf.Shelf.{Ghosts}
use Rattle.mdv_store.proofs.Sitting.{active_most, left_count, left_replica, replica_of, seat_of}
use Rattle.mdv_store.specs.Commit.{next_mark}
use Rattle.mdv_store.specs.Listing.{MayNotList, is_listed_in}
use Rattle.mdv_store.specs.Seats.{AreTheirs}
use Rattle.mdv_store.specs.declared.store.CommitFault.TheVariants as unwritten
use Rattle.mdv_store.specs.declared.seats.Share.{Share}
use Rattle.mdv_places.proofs.Coming.{passes}
use Rattle.mdv_store_law.specs.Changes.{Change}
use Rattle.mdv_config.proofs.Settled.{settled_of}
use Rattle.mdv_config.specs.Lists.{first_of}
use Rattle.mdv_plan.specs.declared.lists.Lists.{Lists}
use Rattle.mdv_plan.specs.declared.lists.Lists.TheVariants.{One, Two}
use Rattle.mdv_engine_law.specs.Below.{Mark, Place}
use Rattle.mdv_engine_law.specs.Answers.{accepted, refusing}
use Rattle.mdv_engine_law.specs.Line.{AreCalmBeside, Ask, deeds}
use Rattle.mdv_engine_law.specs.Moves.{IsLostChange, IsMovedOn, IsSpentChange, LeavesLists}
use Rattle.mdv_engine_law.specs.Places.{bytes_with, list_of, room_with}
use Rattle.mdv_engine_law.specs.Replies.{AcksAnswer}
use Rattle.mdv_engine_law.specs.Standing.{WritesOnly}
use Rattle.mdv_engine_law.specs.declared.answer.Answer.TheVariants.{Over, Said}
use Rattle.mdv_engine_law.specs.declared.answer.Ended.TheVariants as ended
use Rattle.mdv_engine_law.specs.declared.answer.Outcome.TheVariants as outcome
use Rattle.mdv_engine_law.proofs.Keeping.{open_on, same_beside}
use Rattle.mdv_engine_law.proofs.Moving.{IsMoveOf, moved_half, moved_or_lost, moved_to, moving_moment, unmoved_to}
use Rattle.mdv_engine_law.proofs.Refusing.{knows_its, refused_still, spent_still}
use Rattle.mdv_engine.specs.Below.{AreLaid, CarriedTo, CarryMoment, Changed, Geometry, IoFault, IsOfGeometry, IsOpenedAt, IsReady, KeptOutside, Knows, Memory, Opened, OutOfMemory, Outcomes, Replica, Seat, Tale, kept_at, key_of, last, replicas_of, site_area}
use Rattle.mdv_engine.specs.Ends.{LeavesBoth}
use Rattle.mdv_engine.specs.Engine.{IsHeldBy, IsWell, LiesOn}
use Rattle.mdv_engine.specs.Moving.{HasChanged}
use Rattle.mdv_engine.specs.declared.engine.Engine.{Engine}
use Rattle.mdv_engine.proofs.Committing.{with_open}
use Rattle.mdv_engine.proofs.Creating.{calm_beside}

-- two lists are no single one
two_not_one : (a b c : List Place) → Two a b ≡ One c → ⊥
two_not_one a b c same = cc (same)

-- nor is a later mark the one before it
later_mark : (m : Mark) → next_mark m ≡ m → ⊥
later_mark m same = (let count : m.count + 1 ≡ m.count = ap (λ (x : Mark). x.count) same in omega (arith, count))

-- What is asked of the open database, and that it may be.
module _ {S : Type 0} (shelf : Ghosts S) (a b : S) (v : Engine) (ready : IsReady v.host (shelf.sizes a)) (well : IsWell v.host v.state) (o : Opened) (opened : v.state.opened ≡ Some o) (held : IsHeldBy v.host o) (asked : Asks) (change : Change) (is : IsMoveOf v.host o asked change) where
  abbrev pub g : Geometry
  g = v.host.drives

  abbrev calls : Outcomes
  calls = DriveFailures shelf a b

  abbrev after : Opened → Engine
  after now = record v { state = with_open v.state now }

  pub as_before : (now : Opened) → now ≡ o → after now ≡ v
  as_before now same = (λ i. record v { state = record v.state { opened = (ap (λ (x : Opened). Some x) same ∙ sym opened) i } })

  may_show : (t : Tale) → Knows v.host v.state t → IsOpenedAt g o t
  may_show t known = (knows_its v.host v.state o opened t known).1

  -- what the places show in the end
  pub shows_then : (now : Opened) (came : Result Bool PlacesFault) (t u : Tale) → MoveShows g o now asked came t u → Knows v.host v.state t → IsShownBy g o now asked came t u
  shows_then now came t u shows known = shows (record { opened = may_show t known; of_geometry = is.of_geometry; sites = is.sites; front = is.front })

  -- the record of both lists isn't too long
  pub never_long : (list : List Place) → list ≡ list_after asked (list_of o) → bytes_with o list ≤ room_with o list → (bytes room : ℕ) (fault : _) → MayNotList o (lists_after asked o.table.plan.lists) (unwritten.TooLong fault) → ⊥
  never_long list same fits bytes room fault long =
      let size = long.1 in
      let least = long.2 in
      let more = long.3 in
      let within : bytes_with o (list_after asked (list_of o)) ≤ room_with o (list_after asked (list_of o)) = subst (λ (l : List Place). bytes_with o l ≤ room_with o l) same fits in
      omega (arith, size, least, more, within)

  module _ (came : Result Bool PlacesFault) (new : Engine) (has : HasChanged shelf a b v o asked came new) where
    abbrev pub now : Opened
    now = has.now

    calm : AreCalmBeside (drives_moved g o asked) calls
    calm = calm_beside shelf a b (drives_moved g o asked) has.kept

    same_sizes : v.host.site.sizes ≡ shelf.sizes b
    same_sizes = ready.on_shelf.sizes_are ∙ sym has.kept.keeps.same_sizes

    abbrev pub All : Tale → Tale → Type 0
    All t u = MoveMoment g o asked t u × MoveEnds g o now asked came t u × MoveShows g o now asked came t u

    -- the last moment, and what is known and shown then
    pub all_ends : AtEnd shelf All a b
    all_ends t start =
        let moment = moments_end (MoveMoment g o asked) (shelf.tale a) (shelf.tale b) has.moments t start in
        let both = ends_both (MoveMoment g o asked) (λ t u. MoveEnds g o now asked came t u) (λ t u. MoveMoment g o asked t u × MoveEnds g o now asked came t u) (shelf.tale a) (shelf.tale b) (λ t u one two. (one, two))
        (moments_end (MoveMoment g o asked) (shelf.tale a) (shelf.tale b) has.moments) has.end in
        ends_both (λ t u. MoveMoment g o asked t u × MoveEnds g o now asked came t u) (MoveShows g o now asked came) All (shelf.tale a) (shelf.tale b) (λ t u one two. (one.0, one.1, two)) both has.answer.shown t start

  -- Its new list is the only one.
  module _ (clean : Bool) (new : Engine) (has : HasChanged shelf a b v o asked (Ok clean) new) where
    abbrev moved : IsMoved calls g o asked has.now clean
    moved = has.answer.by

    abbrev left : Opened
    left = has.now

    lists : left.table.plan.lists ≡ One (list_after asked (list_of o))
    lists = ap (λ (x : Opened). x.table.plan.lists) moved.is

    -- some are active
    some : 1 ≤ length left.seats
    some =
        let listed : 1 ≤ length (first_of left.table.plan.lists) = subst (λ (l : Lists). 1 ≤ length (first_of l)) (sym lists) is.of_geometry.lists.1.some in
        let active = first_enough Half left.seats left.table.plan.lists listed moved.enough in
        let most = active_most left.seats in
        omega (arith, active, most)

    -- no more than those of both lists
    few : length (o.seats ++ seats_added o asked) ≤ 50 → length left.seats ≤ 50
    few both =
        let counted = left_count (till_wiped calls g o asked) (TakesBoth calls g o asked) (seats_coming calls g o asked) left.seats moved.left in
        let parts = length-filter_both (is_listed_in (list_after asked (list_of o))) (λ (s : Seat). not (is_listed_in (list_after asked (list_of o)) s)) (λ s. refl) (o.seats ++ seats_added o asked) in
        omega (arith, counted, parts, both)

    coming : (r : Replica) → Contains (replicas_of (seats_coming calls g o asked)) r → Contains (replicas_of o.seats) r ⊎ Contains (replicas_of (seats_added o asked)) r
    coming r there =
        let s = seat_of (seats_coming calls g o asked) r there in
        let among = (passes (is_listed_in (list_after asked (list_of o))) (both_of o asked).seats s.0 s.1).0 in
        either_replica o.seats (seats_added o asked) r (replica_of (both_of o asked).seats s.0 r among s.2)

    -- so the database is the host's still, where added places lie on its slices
    module _ (added : (r : Replica) → Contains (replicas_of (seats_added o asked)) r → LiesOn v.host.site r) (both_few : length (o.seats ++ seats_added o asked) ≤ 50) where
      seated : (n : Replica) → Contains (replicas_of left.seats) n → LiesOn v.host.site n
      seated n there =
          let from = left_replica (till_wiped calls g o asked) (TakesBoth calls g o asked) (seats_coming calls g o asked) left.seats n moved.left there in
          let first : LiesOn v.host.site from.0 = elim (coming from.0 from.1) [ inl old ↦ held.seated from.0 old | inr more ↦ added from.0 more ] in
          let second : LiesOn v.host.site from.2.0 = subst (λ (x : Replica). LiesOn v.host.site x) (sym from.2.1.2) (record { one_of = first.one_of; within = first.within }) in
          subst (λ (x : Replica). LiesOn v.host.site x) (sym from.2.2.2) (record { one_of = second.one_of; within = second.within })

      pub still_held : IsHeldBy v.host left
      still_held = record {
        its = ap (λ (x : Opened). x.key) moved.is ∙ held.its;
        some = some;
        few = few both_few;
        one = (list_after asked (list_of o), lists);
        half = moved.enough;
        of_geometry = subst (λ (t : _). IsOfGeometry g t) (sym (ap (λ (x : Opened). x.table) moved.is)) (settled_of g (both_of o asked).table is.of_geometry);
        laid = subst (λ (s : List ℕ). AreLaid s left.seats) (sym (same_sizes (Ok clean) new has)) has.answer.laid;
        seated = seated;
      }

      pub still_well : IsWell v.host (with_open v.state left)
      still_well = record { database = still_held; entries = well.entries }

    -- what came of it is there
    pub moved_on : (t u : Tale) → MoveMoment g o asked t u → IsShownBy g o left asked (Ok clean) t u → AreBlanked calls g o asked clean u → IsMovedOn calls v.host o asked clean (kept_at v.state t) (kept_at (with_open v.state left) u)
    moved_on t u moment shown blank = record {
      opened = left;
      moved = moved;
      calm = calm (Ok clean) new has;
      memory = refl;
      content = open_on g left u shown.0;
      formed = λ r there. shown.1 r there (last u) (last_image u);
      wiped = record { all = λ on p there. blank.all on p there (last u) (last_image u); each = λ p there never. blank.each p there never (last u) (last_image u) };
      beside = same_beside (area_moved g o asked) t u moment.quiet.outside;
    }

    -- with which masters are blank
    pub blank_ends : AtEnd shelf (λ t u. All (Ok clean) new has t u × AreBlanked calls g o asked clean u) a b
    blank_ends = ends_both (All (Ok clean) new has) (λ t u. AreBlanked calls g o asked clean u) (λ t u. All (Ok clean) new has t u × AreBlanked calls g o asked clean u) (shelf.tale a) (shelf.tale b) (λ t u one two. (one, two)) (all_ends (Ok clean) new has) has.answer.wiped

  -- Of a list too few took a table.
  module _ (active listed : ℕ) (new : Engine) (has : HasChanged shelf a b v o asked (Err (unmoved.Lost active listed)) new) where
    abbrev share : Share
    share = record { active = active; listed = listed }

    abbrev Both : Type 0
    Both = IsLostBoth calls g o asked has.now share ⊎ IsLostLast calls g o asked has.now share

    lost_so : IsLostMove calls g o asked has.now share → Both
    lost_so (inl (still, short)) = absurd (let none = held.half in cc (none, short))
    lost_so (inr lost) = lost

    pub lost : IsLostChange calls g o asked active listed
    lost = record { new = has.now; calm = calm (Err (unmoved.Lost active listed)) new has; lost = lost_so has.answer.by }

    -- a record was written
    not_still : Both → has.now ≡ o → ⊥
    not_still (inl both) same = two_not_one (list_of o) (list_after asked (list_of o)) held.one.0 (sym (ap (λ (x : Opened). x.table.plan.lists) both.is) ∙ ap (λ (x : Opened). x.table.plan.lists) same ∙ held.one.1)
    not_still (inr one) same = later_mark o.mark (sym (ap (λ (x : Opened). x.mark) one.is) ∙ ap (λ (x : Opened). x.mark) same)

    shown_lost : (t u : Tale) → IsShownBy g o has.now asked (Err (unmoved.Lost active listed)) t u → IsOpenedAt g (record has.now { mark = next_mark has.now.mark }) u × AreTheirs g o.key o.identity (seats_added o asked) u
    unfolding lost
    shown_lost t u (inl still) = absurd (not_still lost.lost still.0)
    shown_lost t u (inr shown) = shown

    pub leaves_lists : (t u : Tale) → MoveMoment g o asked t u → IsShownBy g o has.now asked (Err (unmoved.Lost active listed)) t u → (next : Memory) → LeavesLists calls v.host o asked active listed (kept_at v.state t) (kept_at next u)
    unfolding lost
    leaves_lists t u moment shown next = record {
      lost = lost;
      left = open_on g (record has.now { mark = next_mark has.now.mark }) u (shown_lost t u shown).0;
      formed = λ r there. (shown_lost t u shown).1 r there (last u) (last_image u);
      beside = same_beside (area_moved g o asked) t u moment.quiet.outside;
    }

    pub leaves_both : (t u : Tale) → IsShownBy g o has.now asked (Err (unmoved.Lost active listed)) t u → LeavesBoth calls v.host o asked active listed u
    unfolding lost
    leaves_both t u shown = (let both = shown_lost t u shown in record { lost = lost; left = both.0; formed = both.1 })

  -- The number is spent.
  module _ (new : Engine) (has : HasChanged shelf a b v o asked (Err unmoved.Spent) new) where
    pub spent : (t u : Tale) → u ≡ t → IsSpentChange calls o (kept_at v.state t) (kept_at (with_open v.state has.now) u)
    spent t u same = record {
      calm = has.answer.by.0.1;
      spent = has.answer.by.1.2;
      stays = record { memory = ap (λ (e : Engine). e.state) (as_before has.now has.answer.by.0.0); content = λ drive block. ap (λ (x : Tale). last x drive block) same };
    }

  -- A line asks it.
  module _ (ask : Ask) (one_of : Contains (deeds ask) (Changed (key_of v.host) change)) (site : (t m : Tale) → MoveMoment g o asked t m → KeptOutside (site_area v.host.site) t m)
      (writes : (t m : Tale) → KeptOutside (site_area v.host.site) t m → MoveMoment g o asked t m → WritesOnly v.host ask v.state t m) where
    abbrev sizes : List ℕ
    sizes = shelf.sizes a

    pub carry_moment : (t m : Tale) → MoveMoment g o asked t m → CarryMoment v.host ask v.state t m
    carry_moment t m moment = moving_moment v.host sizes ready v.state o opened ask asked change is one_of t m (site t m moment) moment (writes t m (site t m moment) moment)

    pub carry_moments : AtEachTale shelf (MoveMoment g o asked) a b → AtEachTale shelf (CarryMoment v.host ask v.state) a b
    carry_moments moments = moments_weaker (MoveMoment g o asked) (CarryMoment v.host ask v.state) (shelf.tale a) (shelf.tale b) carry_moment moments

    pub carried_moved : (clean : Bool) (new : Engine) (has : HasChanged shelf a b v o asked (Ok clean) new) → AcksAnswer ask (Said outcome.Ok) (Changed (key_of v.host) change ∷ []) → (t u : Tale) → All (Ok clean) new has t u → CarriedTo v.host ask v.state accepted (with_open v.state has.now) t u
    carried_moved clean new has acks t u (moment, ends, shows) =
        moved_to v.host sizes ready v.state o opened ask asked change is one_of t u (site t u moment) moment calls has.now clean has.answer.by ends shows (with_open v.state has.now) refl acks

    pub carried_half : (clean : Bool) (new : Engine) (has : HasChanged shelf a b v o asked (Ok clean) new) (t u : Tale) → All (Ok clean) new has t u → CarriedTo v.host ask v.state (refusing IoFault) (with_open v.state has.now) t u
    carried_half clean new has t u (moment, ends, shows) =
        moved_half v.host sizes ready v.state o opened ask asked change is one_of t u (site t u moment) moment calls has.now clean has.answer.by ends shows (with_open v.state has.now) refl

    pub carried_unmoved : (new : Engine) (has : HasChanged shelf a b v o asked (Err unmoved.Failed) new) (t u : Tale) → All (Err unmoved.Failed) new has t u → CarriedTo v.host ask v.state (refusing IoFault) v.state t u
    carried_unmoved new has t u (moment, ends, shows) = unmoved_to v.host sizes ready v.state o opened ask asked change is one_of t u (site t u moment) moment has.now ends shows

    pub carried_lost : (active listed : ℕ) (next : Memory) (t u : Tale) → MoveMoment g o asked t u → CarriedTo v.host ask v.state (Over (ended.Lost active listed)) next t u
    carried_lost active listed next t u moment = moved_or_lost v.host sizes ready v.state o opened ask asked change is one_of t u (site t u moment) moment active listed next

    pub carried_spent : (next : Memory) (t u : Tale) → u ≡ t → CarriedTo v.host ask v.state (Over ended.Spent) next t u
    carried_spent next t u same = subst (λ (x : Tale). CarriedTo v.host ask v.state (Over ended.Spent) next t x) (sym same) (spent_still v.host ask v.state next t)

    pub carried_wanting : (t u : Tale) → u ≡ t → CarriedTo v.host ask v.state (refusing OutOfMemory) v.state t u
    carried_wanting t u same = subst (λ (x : Tale). CarriedTo v.host ask v.state (refusing OutOfMemory) v.state t x) (sym same) (refused_still v.host ask v.state v.state t refl refl refl refl (omega arith) OutOfMemory)
