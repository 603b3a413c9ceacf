-- A change of the open database's places, put together: its answer and its calls.
use Rattle.std.proofs.Common.{◌≡◌, ◌⊎◌, inl, inr, ◌+◌, ◌*◌, ◌≤◌, ℕ, Bool, false, List, [], ◌∷◌, ◌++◌, length, length-append, Contains, Option, Some, None, Result, Ok, Err, ap, arith, refl, subst, sym, ◌∙◌}
use Rattle.std.specs.List.{cons_option}
use Rattle.std.specs.Prelude.{MatchOption}
use Rattle.std.proofs.lemmas.List.Elements.{Contains-append_cases}
use Rattle.mdv_acts.specs.Acts.{AreDoing}
use Rattle.mdv_places.proofs.Adding.{claims_replica, either_replica}
use Rattle.mdv_places.proofs.Dropping.{dropped_one}
use Rattle.mdv_places.specs.Asked.{Adds, Asks, acts_moved, change_of, dropped, list_after, lists_after, seats_added}
use Rattle.mdv_places.specs.Changing.{HasFailedOn, both_of, drives_dropped, drives_moved, drives_under}
use Rattle.mdv_places.specs.Moments.{AreOfSite, MoveMoment}
use Rattle.mdv_places.specs.Outcomes.{IsLostBoth, IsLostLast}
use Rattle.mdv_places.specs.declared.changing.PlacesFault.{PlacesFault}
use Rattle.mdv_places.specs.declared.changing.PlacesFault.TheVariants as unmoved
use Rattle.mdv_shelf.proofs.Among.{among_none}
use Rattle.mdv_shelf.proofs.Moments.{ends_both, moments_end, some_is}
use Rattle.mdv_shelf.specs.Drives.{KeptAmong}
use Rattle.mdv_shelf.specs.Shelves.{DriveFailures}
use Rattle.mdv_shelf.specs.declared.shelf.Shelf.{Ghosts}
use Rattle.mdv_shown.proofs.Elsewhere.{places_step}
use Rattle.mdv_store.proofs.Acted.{acts_quiet}
use Rattle.mdv_store.proofs.Passes.{unmapped}
use Rattle.mdv_store.proofs.Seated.{replica_is}
use Rattle.mdv_store.proofs.Shares.{half_less}
use Rattle.mdv_store.specs.Create.{seats_asked}
use Rattle.mdv_store.specs.Listing.{MayNotList}
use Rattle.mdv_store.specs.Seats.{drives_of}
use Rattle.mdv_store.specs.declared.store.CommitFault.TheVariants as unwritten
use Rattle.mdv_store_law.specs.Changes.{Change}
use Rattle.mdv_store_law.specs.Changes as changes
use Rattle.mdv_name.proofs.Finding.{slice_at-some}
use Rattle.mdv_plan.specs.declared.lists.Lists.{Lists}
use Rattle.mdv_plan.specs.declared.lists.Lists.TheVariants.{One}
use Rattle.mdv_volumes.proofs.Lists.{contains_behind, contains_first, first_or_behind}
use Rattle.mdv_words.specs.Line.{IsCount, IsLength}
use Rattle.mdv_engine_law.specs.Below.{Place}
use Rattle.mdv_engine_law.specs.Answers.{IsSaid, accepted, refusing}
use Rattle.mdv_engine_law.specs.Commands as came
use Rattle.mdv_engine_law.specs.Commands.{LeavesPlaces, MaySpend, blame_of, blame_of_more, blame_of_places}
use Rattle.mdv_engine_law.specs.Line.{Ask, IsCreated, IsUnbegun, IsUncreated, Stays, deeds}
use Rattle.mdv_engine_law.specs.Moves.{HasMovedOn, IsLostChange, IsSpentChange, IsUnmovedOn, LeavesLists}
use Rattle.mdv_engine_law.specs.Places.{list_of}
use Rattle.mdv_engine_law.specs.Replies.{AcksAnswer, HasAnswerCause}
use Rattle.mdv_engine_law.specs.Standing.{LeavesFormed, WritesOnly}
use Rattle.mdv_engine_law.specs.declared.answer.Answer.TheVariants.{Over}
use Rattle.mdv_engine_law.specs.declared.answer.Ended.TheVariants as ended
use Rattle.std.proofs.lemmas.List.{length-map}
use Rattle.mdv_places.specs.Asked.{claims}
use Rattle.mdv_store.proofs.Spotting.{asked_length}
use Rattle.mdv_store.specs.Opened.{AreSeatsOf}
use Rattle.mdv_config.specs.Lists.{last_of, places_of}
use Rattle.mdv_engine_law.specs.Refusals.{places_open}
use Rattle.mdv_engine_law.proofs.Places.{asked_length as lines_length}
use Rattle.mdv_engine_law.proofs.Allowed.{allowed_beside, allowed_few, allowed_slice}
use Rattle.mdv_engine_law.proofs.Keeping.{open_on, same_beside}
use Rattle.mdv_engine_law.proofs.Moving.{IsMoveOf, move_listed, move_of}
use Rattle.mdv_engine_law.proofs.Places.{asked_kept}
use Rattle.mdv_engine_law.proofs.Placing.{asked_within}
use Rattle.mdv_engine_law.proofs.Plain.{fault_plain, memory_plain}
use Rattle.mdv_engine_law.proofs.Reaching.{adds_writes, listed_writes, moved_site}
use Rattle.mdv_engine_law.proofs.Refusing.{refused_still}
use Rattle.mdv_engine.specs.Below.{AddPlaces, Answer, Changed, Command, Created, DriveNo, Geometry, IoFault, IsAllowed, IsOfGeometry, IsPlainAnswer, IsReady, KeptOutside, Knows, OnDrive, Opened, OutOfMemory, Outcomes, Replica, Seat, SliceAt, SliceLine, SliceName, Tale, kept_at, key_of, lines_asked, places_area, replicas_of, seats_area, site_area, slice_at}
use Rattle.mdv_engine.specs.Counts.{IsCommandCounted}
use Rattle.mdv_engine.specs.Ends.{AsksPlaces, HasAnswered, KeptAsAsked, LeavesBoth, LeavesMade, LeavesReplicas, WasCarriedOut, by_entry, by_slices, drives_more}
use Rattle.mdv_engine.specs.Engine.{FailedOnSite, IsHeldBy, IsLostOnSite, IsWell, LiesOn, case_at}
use Rattle.mdv_engine.specs.Moving.{HasChanged, IsAnswerOf}
use Rattle.mdv_engine.specs.declared.engine.Engine.{Engine}
use Rattle.mdv_engine.proofs.Blocks.{moments_still}
use Rattle.mdv_engine.proofs.Committing.{seats_on, with_open}
use Rattle.mdv_engine.proofs.Counted.{adds_counted}
use Rattle.mdv_engine.proofs.Counting.{formats_fault, none_within}
use Rattle.mdv_engine.proofs.Creating.{calm_beside}
use Rattle.mdv_engine.proofs.Makes.{moved as numbers}
use Rattle.mdv_engine.proofs.May as may
use Rattle.mdv_engine.proofs.Moved as moved

abbrev drive_on : Option SliceAt → Option DriveNo
drive_on None = None
drive_on (Some at) = Some at.drive

-- a place under one of these drives
module _ (g : Geometry) where
  pub record IsUnder (places : List Place) (drive : DriveNo) : Type 0 where
    pub place : Place
    pub one_of : Contains places place
    pub at : SliceAt
    pub lies : slice_at g.slices place.slice ≡ Some at
    pub on : at.drive ≡ drive

  under : (places : List Place) (drive : DriveNo) → Contains (drives_under g places) drive → IsUnder places drive
  under [] drive has = absurd (omega (arith, has.1))
  under (p ∷ places) drive has = by (slice_at g.slices p.slice) refl has (under places drive) where
    behind : IsUnder places drive → IsUnder (p ∷ places) drive
    behind one = record { place = one.place; one_of = contains_behind p one.place places one.one_of; at = one.at; lies = one.lies; on = one.on }

    by : (found : Option SliceAt) → slice_at g.slices p.slice ≡ found → Contains (cons_option (drive_on found) (drives_under g places)) drive → (Contains (drives_under g places) drive → IsUnder places drive) → IsUnder (p ∷ places) drive
    by None is there rest = behind (rest there)
    by (Some at) is there rest = elim (first_or_behind at.drive drive (drives_under g places) there) [ inl same ↦ record { place = p; one_of = contains_first p places; at = at; lies = is; on = same } | inr more ↦ behind (rest more) ]

-- What a line asks that may come to a change of places, and where it may write.
pub record IsMoveAsk (v : Engine) (o : Opened) (asked : Asks) (ask : Ask) : Type 0 where
  pub change : Change
  pub is : IsMoveOf v.host o asked change
  pub one_of : Contains (deeds ask) (Changed (key_of v.host) change)
  pub acks : AcksAnswer ask accepted (Changed (key_of v.host) change ∷ [])
  pub writes : (t m : Tale) → KeptOutside (site_area v.host.site) t m → MoveMoment v.host.drives o asked t m → WritesOnly v.host ask v.state t m

module _ {S : Type 0} (shelf : Ghosts S) (a b : S) (v : Engine) (ready : IsReady v.host (shelf.sizes a)) (well : IsWell v.host v.state) (o : Opened) (opened : v.state.opened ≡ Some o) where
  abbrev g : Geometry
  g = v.host.drives

  abbrev calls : Outcomes
  calls = DriveFailures shelf a b

  abbrev sizes : List ℕ
  sizes = shelf.sizes a

  pub held : IsHeldBy v.host o
  held = may.held v.host sizes ready v.state well o opened

  abbrev after : Opened → Engine
  after now = record v { state = with_open v.state now }

  pub seated : (drive block : ℕ) → site_area v.host.site drive block ≡ false → seats_area o.seats drive block ≡ false
  seated = seats_on v.host o held

  -- whatever is asked: where added places lie on the host's slices
  module _ (asked : Asks) (added : (r : Replica) → Contains (replicas_of (seats_added o asked)) r → LiesOn v.host.site r) where
    lies : (r : Replica) → Contains (replicas_of (o.seats ++ seats_added o asked)) r → LiesOn v.host.site r
    lies r has = elim (either_replica o.seats (seats_added o asked) r has) [ inl old ↦ held.seated r old | inr more ↦ added r more ]

    failed_on_site : HasFailedOn (drives_moved g o asked) calls → FailedOnSite calls v.host
    failed_on_site (drive, has, some) = elim (Contains-append_cases (drives_of (o.seats ++ seats_added o asked)) (drives_dropped g o asked) drive has) [
      | inl seat ↦
          let one = unmapped (λ (r : Replica). r.line.at.drive) (replicas_of (o.seats ++ seats_added o asked)) drive seat in
          record { line = one.0.line; one_of = (lies one.0 one.1).one_of; here = subst (λ (d : DriveNo). (calls d.0).some) (sym one.2) some }
      | inr gone ↦
          let one = under g (dropped asked (list_of o)) drive gone in
          let there = may.on_line v.host sizes ready v.state well o opened one.place (dropped_one asked (list_of o) one.place one.one_of) in
          let same : there.is.at ≡ one.at = ready.sound.once one.place.slice there.is.at one.at there.is.has ((slice_at-some g one.place.slice one.at ready.sound).0 one.lies) in
          let on : there.is.at.drive ≡ drive = ap (λ (x : SliceAt). x.drive) same ∙ one.on in
          record { line = record { name = one.place.slice; at = there.is.at }; one_of = there.line; here = subst (λ (d : DriveNo). (calls d.0).some) (sym on) some }
    ]

    pub lost_on_site : (active listed : ℕ) → IsLostChange calls g o asked active listed → IsLostOnSite calls v.host active listed
    lost_on_site active listed change = by change.lost where
      by : IsLostBoth calls g o asked change.new (record { active = active; listed = listed }) ⊎ IsLostLast calls g o asked change.new (record { active = active; listed = listed }) → IsLostOnSite calls v.host active listed
      by (inl both) = (failed_on_site both.failed, half_less change.new.seats change.new.table.plan.lists (record { active = active; listed = listed }) both.few)
      by (inr last) = (failed_on_site last.failed, half_less change.new.seats change.new.table.plan.lists (record { active = active; listed = listed }) last.few)

  -- Places are added.
  module _ (slices : List SliceName) (count blocks : ℕ) (form : (1 ≤ length slices) × IsCount count × IsLength blocks) (force : Bool) (free : IsAllowed (case_at v) (AddPlaces slices force count blocks)) where
    abbrev lines : List SliceLine
    lines = lines_asked v.host slices

    abbrev adding : Asks
    adding = Adds lines count blocks

    abbrev command : Command
    command = AddPlaces slices force count blocks

    fits : IsOfGeometry g (both_of o adding).table
    fits = may.add_fits v.host sizes ready v.state well o opened slices force count blocks free form.0 form.1 form.2

    sites : AreOfSite g o adding
    sites = may.add_sites v.host sizes ready v.state well o opened slices force count blocks free form.0 form.1 form.2

    on_lines : (line : SliceLine) → Contains lines line → Contains v.host.site.lines line
    on_lines = may.on_site v.host sizes ready v.state well o opened slices force count blocks free form.0 form.1 form.2

    within : (line : SliceLine) → Contains lines line → 16 + count * blocks ≤ line.at.blocks
    within = asked_within (case_at v) sizes ready slices force count blocks free

    added : (r : Replica) → Contains (replicas_of (seats_added o adding)) r → LiesOn v.host.site r
    added r has =
        let one = claims_replica o.mark.boot (seats_asked o.key o.identity lines count blocks) r has in
        let is = replica_is o.key o.identity count blocks lines one.0 one.1 in
        let step = places_step is.number count blocks is.lt in
        let room = within is.line is.among in
        let there : LiesOn v.host.site one.0 = subst (λ (x : Replica). LiesOn v.host.site x) (sym is.is) (record { one_of = on_lines is.line is.among; within = omega (arith, step, room) }) in
        subst (λ (x : Replica). LiesOn v.host.site x) (sym one.2) (record { one_of = there.one_of; within = there.within })

    -- the places of both lists are no more than those of the one that comes
    both_few : AreSeatsOf o.table o.seats → length (o.seats ++ seats_added o adding) ≤ 50
    both_few are =
        let seats = ap (λ (l : List Place). length l) (are.places ∙ ap (λ (l : Lists). places_of l) held.one.1) in
        let old = length-map o.seats (λ (s : Seat). s.place) in
        let more = length-map (seats_asked o.key o.identity lines count blocks) (claims o.mark.boot) in
        let new = asked_length o.key o.identity count blocks lines in
        let listed = lines_length v.host slices (allowed_slice (case_at v) slices force count blocks free) in
        let product = ap (λ (n : ℕ). n * count) listed in
        let all = by_length (λ l. l + length slices * count ≤ 50) held.one.1 (subst (λ (x : Option Opened). length (places_open x) + length slices * count ≤ 50) opened (allowed_beside (case_at v) slices force count blocks free)) in
        let both = length-append o.seats (seats_added o adding) in
        omega (arith, seats, old, more, new, product, all, both)
      where
        by_length : (P : ℕ → Type 0) → {ls : List Place} → o.table.plan.lists ≡ One ls → P (length (list_of o)) → P (length ls)
        by_length P is it = subst (λ (l : Lists). P (length (last_of l))) is it

    on_site : (t m : Tale) → MoveMoment g o adding t m → KeptOutside (site_area v.host.site) t m
    on_site = moved_site v.host sizes ready o adding fits seated (λ line has. (on_lines line has, within line has))

    -- the line says the slices itself, or names an entry that does
    asks : (ask : Ask) → AsksPlaces v slices count blocks ask → IsMoveAsk v o adding ask
    asks ask (by_slices is) = subst (IsMoveAsk v o adding) (sym is) (record {
      change = change_of adding;
      is = move_of v.host o adding fits sites tt;
      one_of = contains_behind (Created (key_of v.host)) (Changed (key_of v.host) (change_of adding)) (Changed (key_of v.host) (change_of adding) ∷ []) (contains_first (Changed (key_of v.host) (change_of adding)) []);
      acks = (Changed (key_of v.host) (change_of adding), contains_behind (Created (key_of v.host)) (Changed (key_of v.host) (change_of adding)) (Changed (key_of v.host) (change_of adding) ∷ []) (contains_first (Changed (key_of v.host) (change_of adding)) []), refl);
      writes = λ t m kept moment. adds_writes v.host v.state o opened t m kept (key_of v.host) lines count blocks moment;
    })
    asks ask (by_entry number said is) = subst (IsMoveAsk v o adding) (sym is) (record {
      change = changes.AddListed number;
      is = move_listed v.host o lines count blocks number fits sites;
      one_of = contains_behind (Created (key_of v.host)) (Changed (key_of v.host) (changes.AddListed number)) (Changed (key_of v.host) (changes.AddListed number) ∷ []) (contains_first (Changed (key_of v.host) (changes.AddListed number)) []);
      acks = (Changed (key_of v.host) (changes.AddListed number), contains_behind (Created (key_of v.host)) (Changed (key_of v.host) (changes.AddListed number)) (Changed (key_of v.host) (changes.AddListed number) ∷ []) (contains_first (Changed (key_of v.host) (changes.AddListed number)) []), refl);
      writes = λ t m kept moment. listed_writes v.host v.state o opened t m kept (key_of v.host) number (record { slices = slices; count = count; blocks = blocks }) said moment;
    })

    -- told of what is open
    by_open : (P : Option Opened → Type 0) → P (Some o) → P v.state.opened
    by_open P it = subst P (sym opened) it

    abbrev Cause : Answer → Type 0
    Cause answer = HasAnswerCause (blame_of_more calls v.host o lines count blocks) (Unit {0}) answer

    cause : (answer : Answer) → Cause answer → HasAnswerCause (blame_of calls v.host v.state command) (MaySpend v.state command) answer
    cause answer it = by_open (λ x. HasAnswerCause (blame_of_places calls v.host v.state x lines count blocks) (MatchOption x ⊥ (λ _. Unit {0})) answer) it

    abbrev Counted : Answer → Option Opened → Type 0
    Counted answer now = IsCommandCounted shelf a b v.host command answer v.state.opened now

    counted : (answer : Answer) (now : Option Opened) → IsCommandCounted shelf a b v.host command answer (Some o) now → Counted answer now
    counted answer now it = by_open (λ x. IsCommandCounted shelf a b v.host command answer x now) it

    -- so it was carried out for a line that asks this
    module _ (ask : Ask) (of : AsksPlaces v slices count blocks ask) where
      abbrev asking : IsMoveAsk v o adding ask
      asking = asks ask of

      abbrev Out : Answer → Engine → Type 0
      Out answer new = WasCarriedOut shelf a b ask command v answer new

      as_it_was : (answer : Answer) (now : Opened) → now ≡ o → Out answer v → Out answer (after now)
      as_it_was answer now same out = subst (λ (e : Engine). Out answer e) (sym (moved.as_before shelf a b v ready well o opened held adding asking.change asking.is now same)) out

      long : {fault : _} → MayNotList o (lists_after adding o.table.plan.lists) (unwritten.TooLong fault) → ⊥
      long {fault} why = moved.never_long shelf a b v ready well o opened held adding asking.change asking.is (list_after adding (list_of o)) refl (may.add_room v.host sizes ready v.state well o opened slices force count blocks free form.0 form.1 form.2) 0 0 fault why

      kept_so : KeptAmong shelf a b (drives_moved g o adding) → KeptAsAsked shelf a b v.host v.state command
      kept_so kept = by_open (λ x. KeptAmong shelf a b (drives_more v.host x lines count blocks)) kept

      answered : (answer : Answer) (new : Engine) → IsPlainAnswer answer → Cause answer → ((active listed : ℕ) → answer ≡ Over (ended.Lost active listed) → IsLostOnSite calls v.host active listed) → new.host ≡ v.host → (IsSaid answer → IsWell v.host new.state) → new.state.begun ≡ v.state.begun
          → HasAnswered calls command v answer new
      answered answer new plain why lost host still begun = record {
        plain = plain;
        cause = cause answer why;
        lost = lost;
        free = λ on has closed. absurd (cc (opened, closed));
        few = inr (allowed_few (case_at v) slices force count blocks free);
        host = host;
        well = still;
        begun = omega (arith, begun);
      }

      done : (clean : Bool) (new : Engine) (has : HasChanged shelf a b v o adding (Ok clean) new) → Out accepted (after has.now)
      done clean new has = record {
        moments = moved.carry_moments shelf a b v ready well o opened held adding asking.change asking.is ask asking.one_of on_site asking.writes has.moments;
        end = λ t start.
            let end = moved.blank_ends shelf a b v ready well o opened held adding asking.change asking.is clean new has t start in
            let u = end.0 in
            let all = end.2.0 in
            let shown = λ (known : Knows v.host v.state t). moved.shows_then shelf a b v ready well o opened held adding asking.change asking.is has.now (Ok clean) t u all.2 known in (
              u,
              end.1,
              record {
                carry = record {
                  answered = λ known. came.done free (
                    refl,
                    by_open (λ x. MatchOption x (IsCreated calls v.host lines count blocks (kept_at v.state t) (kept_at (with_open v.state has.now) u)) (λ old. HasMovedOn calls v.host old adding (kept_at v.state t) (kept_at (with_open v.state has.now) u)))
                        (clean, moved.moved_on shelf a b v ready well o opened held adding asking.change asking.is clean new has t u all.0 (shown known) end.2.1),
                  );
                  carried = moved.carried_moved shelf a b v ready well o opened held adding asking.change asking.is ask asking.one_of on_site asking.writes clean new has asking.acks t u all;
                };
                done = λ known on. by_open (λ x. LeavesFormed v.host v.state x lines count blocks u) (shown known).1;
                lost = λ known active listed is. absurd (cc (is));
                torn = λ known is. tt;
              },
            );
        answer = answered accepted (after has.now) tt (calm_beside shelf a b (drives_moved g o adding) has.kept) (λ active listed is. absurd (cc (is))) refl
            (λ on. moved.still_well shelf a b v ready well o opened held adding asking.change asking.is clean new has added (both_few has.answer.by.may.seats)) refl;
        counted = counted accepted (Some has.now) (adds_counted shelf a b o v.host held.half has.now (Some has.now) slices force count blocks (Ok clean) has.counted has.answer.came (λ c is. refl) accepted refl);
        kept = kept_so has.kept;
      }

      failed : (new : Engine) (has : HasChanged shelf a b v o adding (Err unmoved.Failed) new) → Out (refusing IoFault) v
      failed new has = record {
        moments = moved.carry_moments shelf a b v ready well o opened held adding asking.change asking.is ask asking.one_of on_site asking.writes has.moments;
        end = λ t start.
            let both = ends_both (λ t u. moved.All shelf a b v ready well o opened held adding asking.change asking.is (Err unmoved.Failed) new has t u) (AreDoing (acts_moved o adding)) (λ t u. moved.All shelf a b v ready well o opened held adding asking.change asking.is (Err unmoved.Failed) new has t u × AreDoing (acts_moved o adding) t u) (shelf.tale a) (shelf.tale b) (λ t u one two. (one, two))
            (moved.all_ends shelf a b v ready well o opened held adding asking.change asking.is (Err unmoved.Failed) new has) (moments_end (AreDoing (acts_moved o adding)) (shelf.tale a) (shelf.tale b) has.answer.came.0.moments) t start in
            let u = both.0 in
            let end = both.2.0 in
            let doing = both.2.1 in (
              u,
              both.1,
              record {
                carry = record {
                  answered = λ known. came.faulted free refl (by_open (λ x. MatchOption x (IsUncreated calls v.host lines count blocks (kept_at v.state t) (kept_at v.state u)) (λ old. IsUnmovedOn calls v.host old lines count blocks (kept_at v.state t) (kept_at v.state u)))
                      (record {
                        unmoved = has.answer.by.0;
                        memory = refl;
                        content = open_on g o u (moved.shows_then shelf a b v ready well o opened held adding asking.change asking.is has.now (Err unmoved.Failed) t u end.2 known);
                        beside = same_beside (places_area lines count blocks) t u (asked_kept o.key o.identity lines count blocks t u (acts_quiet o.key o.identity lines count blocks o.mark.boot form.2.0 form.1.0 t u doing).outside);
                      }));
                  carried = moved.carried_unmoved shelf a b v ready well o opened held adding asking.change asking.is ask asking.one_of on_site asking.writes new has t u end;
                };
                done = λ known on. absurd on;
                lost = λ known active listed is. absurd (cc (is));
                torn = λ known is. tt;
              },
            );
        answer = answered (refusing IoFault) v fault_plain has.answer.by.0 (λ active listed is. absurd (cc (is))) refl (λ on. well) refl;
        counted = counted (refusing IoFault) v.state.opened (formats_fault shelf a b v.host slices force count blocks (Some o) v.state.opened has.counted);
        kept = kept_so has.kept;
      }

      lost : (active listed : ℕ) (new : Engine) (has : HasChanged shelf a b v o adding (Err (unmoved.Lost active listed)) new) → Out (Over (ended.Lost active listed)) (after has.now)
      lost active listed new has = record {
        moments = moved.carry_moments shelf a b v ready well o opened held adding asking.change asking.is ask asking.one_of on_site asking.writes has.moments;
        end = λ t start.
            let end = moved.all_ends shelf a b v ready well o opened held adding asking.change asking.is (Err (unmoved.Lost active listed)) new has t start in
            let u = end.0 in
            let shown = λ (known : Knows v.host v.state t). moved.shows_then shelf a b v ready well o opened held adding asking.change asking.is has.now (Err (unmoved.Lost active listed)) t u end.2.2 known in (
              u,
              end.1,
              record {
                carry = record {
                  answered = λ known. came.over (ended.Lost active listed) free refl (by_open (λ x. MatchOption x (LeavesPlaces calls v.host lines count blocks active listed (kept_at v.state t) (kept_at (with_open v.state has.now) u)) (λ old. LeavesLists calls v.host old adding active listed (kept_at v.state t) (kept_at (with_open v.state has.now) u)))
                      (moved.leaves_lists shelf a b v ready well o opened held adding asking.change asking.is active listed new has t u end.2.0 (shown known) (with_open v.state has.now)));
                  carried = moved.carried_lost shelf a b v ready well o opened held adding asking.change asking.is ask asking.one_of on_site asking.writes active listed (with_open v.state has.now) t u end.2.0;
                };
                done = λ known on. absurd on;
                lost = λ known one two is. numbers (λ x y. LeavesMade calls v.host v.state command x y u) active listed one two is (by_open (λ x. MatchOption x (LeavesReplicas calls v.host v.state.begun lines count blocks active listed u) (λ old. LeavesBoth calls v.host old adding active listed u))
                    (moved.leaves_both shelf a b v ready well o opened held adding asking.change asking.is active listed new has t u (shown known)));
                torn = λ known is. tt;
              },
            );
        answer = answered (Over (ended.Lost active listed)) (after has.now) tt (moved.lost shelf a b v ready well o opened held adding asking.change asking.is active listed new has)
            (λ one two is. numbers (λ x y. IsLostOnSite calls v.host x y) active listed one two is (lost_on_site adding added active listed (moved.lost shelf a b v ready well o opened held adding asking.change asking.is active listed new has))) refl (λ on. absurd on) refl;
        counted = counted (Over (ended.Lost active listed)) (Some has.now) (adds_counted shelf a b o v.host held.half has.now (Some has.now) slices force count blocks (Err (unmoved.Lost active listed)) has.counted has.answer.came (λ c is. absurd (cc (is))) (Over (ended.Lost active listed)) refl);
        kept = kept_so has.kept;
      }

      spent : (new : Engine) (has : HasChanged shelf a b v o adding (Err unmoved.Spent) new) → Out (Over ended.Spent) (after has.now)
      spent new has = record {
        moments = moved.carry_moments shelf a b v ready well o opened held adding asking.change asking.is ask asking.one_of on_site asking.writes has.moments;
        end = λ t start.
            let end = moved.all_ends shelf a b v ready well o opened held adding asking.change asking.is (Err unmoved.Spent) new has t start in
            let u = end.0 in
            let same : u ≡ t = some_is (shelf.tale b) u t end.1 (ap shelf.tale has.counted ∙ start) in (
              u,
              end.1,
              record {
                carry = record {
                  answered = λ known. came.over ended.Spent free refl (by_open (λ x. MatchOption x ⊥ (λ old. IsSpentChange calls old (kept_at v.state t) (kept_at (with_open v.state has.now) u)))
                      (moved.spent shelf a b v ready well o opened held adding asking.change asking.is new has t u same));
                  carried = moved.carried_spent shelf a b v ready well o opened held adding asking.change asking.is ask asking.one_of on_site asking.writes (with_open v.state has.now) t u same;
                };
                done = λ known on. absurd on;
                lost = λ known active listed is. absurd (cc (is));
                torn = λ known is. tt;
              },
            );
        answer = answered (Over ended.Spent) (after has.now) tt (has.answer.by.0.1, tt) (λ active listed is. absurd (cc (is))) refl (λ on. absurd on) refl;
        counted = counted (Over ended.Spent) (Some has.now) has.counted;
        kept = kept_so has.kept;
      }

      -- memory was wanting, for the lines or for the change
      pub still_wanting : b ≡ a → Out (refusing OutOfMemory) v
      still_wanting same = record {
        moments = moments_still v.host ask v.state (shelf.tale a) (shelf.tale b) (ap shelf.tale same);
        end = λ t start. (
          t,
          ap shelf.tale same ∙ start,
          record {
            carry = record {
              answered = λ known. came.wanting still refl (free, by_open (λ x. MatchOption x (IsUnbegun (kept_at v.state t) (kept_at v.state t)) (λ old. Stays (kept_at v.state t) (kept_at v.state t))) (record { memory = refl; content = λ drive block. refl }));
              carried = refused_still v.host ask v.state v.state t refl refl refl refl (omega arith) OutOfMemory;
            };
            done = λ known on. absurd on;
            lost = λ known active listed is. absurd (cc (is));
            torn = λ known is. tt;
          },
        );
        answer = answered (refusing OutOfMemory) v memory_plain still (λ active listed is. absurd (cc (is))) refl (λ on. well) refl;
        counted = counted (refusing OutOfMemory) v.state.opened (none_within shelf a b 0 0 same, ap shelf.tale same);
        kept = kept_so (subst (λ (x : S). KeptAmong shelf a x (drives_moved g o adding)) (sym same) (among_none shelf a (drives_moved g o adding)));
      } where
        still : (drive : ℕ) → (calls drive).none
        still drive = ap (λ (x : S). shelf.faults x (OnDrive drive)) same

      -- by what came of it
      by_came : (came : Result Bool PlacesFault) (new : Engine) (has : HasChanged shelf a b v o adding came new) (answer : Answer) → IsAnswerOf came answer → Out answer (after has.now)
      by_came (Ok clean) new has answer is = subst (λ (x : Answer). Out x (after has.now)) (sym is) (done clean new has)
      by_came (Err unmoved.Failed) new has answer is = subst (λ (x : Answer). Out x (after has.now)) (sym is) (as_it_was (refusing IoFault) has.now has.answer.by.1 (failed new has))
      by_came (Err (unmoved.TooLong fault)) new has answer is = absurd (long has.answer.by.1)
      by_came (Err (unmoved.Lost active listed)) new has answer is = subst (λ (x : Answer). Out x (after has.now)) (sym is) (lost active listed new has)
      by_came (Err unmoved.Spent) new has answer is = subst (λ (x : Answer). Out x (after has.now)) (sym is) (spent new has)
      by_came (Err unmoved.Memory) new has answer is = subst (λ (x : Answer). Out x (after has.now)) (sym is) (as_it_was (refusing OutOfMemory) has.now has.answer.by.0.0 (still_wanting has.counted))

      pub added_out : (came : Result Bool PlacesFault) (new : Engine) → HasChanged shelf a b v o adding came new → (answer : Answer) → IsAnswerOf came answer → Out answer new
      added_out came new has answer is = subst (λ (e : Engine). Out answer e) (sym has.is) (by_came came new has answer is)
