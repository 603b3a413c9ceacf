-- How a database with one place ends: its master is blanked.
use Rattle.std.proofs.Common.{◌≡◌, ◌⊎◌, inl, inr, ◌<◌, ◌≤◌, ◌+◌, ◌*◌, ℕ, zero, suc, true, false, List, [], ◌∷◌, ◌++◌, Contains, Some, refl, sym, ◌∙◌, ap, subst, append-nil, slice_index_or, ◌^◌, ◌||◌, Option, arith}
use Rattle.std.proofs.lemmas.Bool.{false_from_ne_true, false≢true, or_cases}
use Rattle.mdv_acts.proofs.Members.{contains_first}
use Rattle.mdv_acts.specs.Acts.{AreDoing, AreDone, Blanks}
use Rattle.mdv_look.proofs.Quiet.{quiet_same}
use Rattle.mdv_look.specs.Quiet.{IsQuiet}
use Rattle.mdv_quorum.specs.Standing.{BootsAt}
use Rattle.mdv_quorum.specs.declared.event.Event.TheVariants.{Wiped}
use Rattle.mdv_encoding.specs.Parsing.{read_of}
use Rattle.mdv_replica.proofs.Leaving.{leaves_settled, leaves_settling}
use Rattle.mdv_replica.specs.Images.{MayWipe, Wipes}
use Rattle.mdv_replica.specs.Replica.{Wiping, blank_master}
use Rattle.mdv_shelf.proofs.Everywhere.{last_image}
use Rattle.mdv_shelf.proofs.Frame.{kept_outside_wider, within_range}
use Rattle.mdv_shelf.specs.Everywhere.{Everywhere, Image, Leaves}
use Rattle.mdv_shelf.specs.Tale.{IsImage, last}
use Rattle.mdv_shown.proofs.Elsewhere.{places_step}
use Rattle.mdv_shown.proofs.Sites.{site_is}
use Rattle.mdv_shown.specs.Found.{IsFound, IsOwn}
use Rattle.mdv_shown.specs.Site.{place_on, spot_on}
use Rattle.mdv_shown.specs.declared.site.Site.{Site}
use Rattle.mdv_shown.specs.Wipes.{HasFirst, spots_behind, wiped_all}
use Rattle.mdv_standing.proofs.Blanking.{AreAllBefore, first_place_before, rest_first_place}
use Rattle.mdv_standing.proofs.Listed.{not_over}
use Rattle.mdv_standing.proofs.Named.{line_found}
use Rattle.mdv_standing.proofs.PlacesTracing.{traced_ended, traced_ending, traced_ends}
use Rattle.mdv_standing.proofs.Reaching.{standing}
use Rattle.mdv_standing.proofs.Tracing.{trace_here, trace_more, trace_weaker}
use Rattle.mdv_base.specs.Name.{IsName}
use Rattle.mdv_replica.specs.Forms.{block_of, name_of_key}
use Rattle.mdv_standing.specs.Blanking.{IsFormatOn}
use Rattle.mdv_standing.specs.Matching.{IsDeleted, lists_of, spot_in, spot_of_place, spots_of as lists_of_spots}
use Rattle.mdv_standing.specs.Standing.{CoversWith}
use Rattle.mdv_standing.specs.Placing.{AreNamed, AreWipedOrNone}
use Rattle.mdv_standing.specs.PlacesTracing.{IsAnswered, IsToEnd}
use Rattle.mdv_standing.specs.Tracing.{Traces}
use Rattle.mdv_standing.specs.Worlds.{IsWorld}
use Rattle.mdv_store.proofs.Blanks.{blank_before}
use Rattle.mdv_store.proofs.Passes.{unmapped}
use Rattle.mdv_store.specs.Blank.{StayBlank}
use Rattle.mdv_store.specs.Commit.{AnyWorld}
use Rattle.mdv_store.specs.Records.{Spells}
use Rattle.mdv_store.specs.Seats.{replica_area, spot_of}
use Rattle.mdv_store_law.specs.Log.{Clearing, Ends, Gone, IsClearable, Lives, Over, Version, log_after}
use Rattle.mdv_votes.proofs.Meeting.{same_is}
use Rattle.mdv_votes.specs.Spots.{is_in, is_named, same_spot}
use Rattle.mdv_places.specs.Below.{Area, Core, Database, Event, Geometry, IsReadyWith, Lists, Log, One, Opened, Place, PlaceAt, Replica, RestStands, Seat, SliceAt, SliceLine, Spot, Table, Tale, at_of, last_of, range, replicas_of, seats_area, site_of, spots_of}
use Rattle.mdv_places.specs.Ending.{AreWipes, EndEnds, EndGoes, EndMoment, IsSole, MayEnd, RestMayEnd}
use Rattle.mdv_places.specs.Moments.{IsFront, IsLogOf}
use Rattle.mdv_places.specs.Asked.{KeepsFirst}

-- The log of a database that was deleted may say so.
over_lives : Over ≡ Lives → ⊥
over_lives e = cc

deleted_over : (Spells : List ℕ → Table → Type 0) (site : Site) (identity : _) (log : Log) (w : Core) (image : Image) → IsWorld Spells site identity log w image → IsDeleted w → IsWorld Spells site identity (log_after log Gone) w image
deleted_over Spells site identity log w image world deleted = (let m = world.matches in record {
  reached = world.reached;
  matches = record {
    kind = m.kind;
    book = m.book;
    as_many = m.as_many;
    each = m.each;
    answered = m.answered;
    dropped = λ p i e. (let was = m.dropped p i e in record { known = was.known; lacks = was.lacks; by = was.by });
    steady = m.steady;
    reused = m.reused;
    there = λ lives. absurd (over_lives lives);
    gone = λ over. deleted;
  };
  shows = world.shows;
  listed = inr (inr deleted);
})

-- a place that begins behind the first blocks of its slice is the first one there
number_none : (n blocks : ℕ) → 16 + n * blocks ≡ 16 → 16 ≤ blocks → n ≡ 0
number_none zero blocks is least = refl
number_none (suc n) blocks is least = absurd (let step = places_step 0 (suc n) blocks (omega arith) in omega (arith, step, is, least))

wipes_none : AreWipes []
wipes_none e has = absurd (omega (arith, has.1))

wipes_all : (spots : List Spot) → AreWipes (wiped_all spots)
wipes_all spots e has = (let q = unmapped Wiped spots e has in (q.0, sym q.2))

wipes_or_none : (spots : List Spot) (es : List Event) → AreWipedOrNone spots es → AreWipes es
wipes_or_none spots es (inl none) = subst AreWipes (sym none) wipes_none
wipes_or_none spots es (inr all) = subst AreWipes (sym all) (wipes_all spots)

-- What is done at the place.
module _ (at : PlaceAt) (t m : Tale) where
  doing_leaves : AreDoing (Blanks at ∷ []) t m → Leaves (MayWipe at) t m
  doing_leaves (inl is) = λ image of. (image, subst (λ (u : Tale). IsImage u image) is of, inl (λ drive block. refl))
  doing_leaves (inr (inl wiping)) = leaves_settling at.drive.0 at.first (block_of []) t m wiping
  doing_leaves (inr (inr done)) = leaves_settling at.drive.0 at.first (block_of []) t m (subst (λ (u : Tale). Wiping at t u) (sym done.2) done.1.0)

  done_leaves : AreDone (Blanks at ∷ []) t m → Leaves (Wipes at) t m
  done_leaves done = subst (λ (u : Tale). Leaves (Wipes at) t u) (sym done.2) (leaves_settled at.drive.0 at.first blank_master t done.0 done.1.0.outside done.1.1)

  doing_quiet : (area : Area) → ((drive block : ℕ) → area drive block ≡ false → range at.drive.0 at.first 1 drive block ≡ false) → AreDoing (Blanks at ∷ []) t m → IsQuiet area t m
  doing_quiet area within (inl is) = subst (λ (u : Tale). IsQuiet area t u) (sym is) (quiet_same area t)
  doing_quiet area within (inr (inl wiping)) = record { outside = kept_outside_wider (range at.drive.0 at.first 1) area t m within wiping.outside; quiet = wiping.quiet }
  doing_quiet area within (inr (inr done)) =
      subst (λ (u : Tale). IsQuiet area t u) (sym done.2) (record { outside = kept_outside_wider (range at.drive.0 at.first 1) area t done.0 within done.1.0.outside; quiet = done.1.0.quiet })

-- The only place is active.
module _ (o : Opened) (s : IsSole o) where
  abbrev r : Replica
  r = s.replica

  abbrev on : SliceLine
  on = r.line

  pub sole_has : Contains (replicas_of o.seats) r
  sole_has = subst (λ (ss : List Seat). Contains (replicas_of ss) r) (sym s.seats) (contains_first r [])

  -- the first of the seats is its
  pub sole_first : (seats : List Seat) (seat : Seat) (found : Replica) → seats ≡ o.seats → seat ≡ slice_index_or seats 0 seat → seat.replica ≡ Some found → found ≡ r
  sole_first seats seat found all is has =
      let one : seat ≡ record { place = s.place; replica = Some r } = is ∙ ap (λ (ss : List Seat). slice_index_or ss 0 seat) (all ∙ s.seats) in
      cc (sym has ∙ ap (λ (x : Seat). x.replica) one)

  -- its master is one of its blocks
  master_within : 16 ≤ r.first.blocks → (drive block : ℕ) → seats_area o.seats drive block ≡ false → range (at_of r).drive.0 (at_of r).first 1 drive block ≡ false
  master_within least drive block out =
      let one = subst (λ (ss : List Seat). seats_area ss drive block ≡ false) s.seats out in
      within_range (at_of r).drive.0 (at_of r).first 1 (at_of r).first r.first.blocks drive block (omega arith) (omega (arith, least))
      (false_from_ne_true (replica_area r drive block) (λ is. false≢true (sym one ∙ ap (λ b. b || false) is)))

  -- What an end starts from.
  module _ (at : (at_of r).place ≡ s.place) (g : Geometry) (t : Tale) (may : MayEnd g o t) where
    abbrev site : Site
    site = site_of g o.key

    own : Everywhere (λ image. IsOwn (Spells g) site o.identity on r.number image r.first r.head) t
    own = may.opened.held.each r sole_has

    abbrev found : IsFound (Spells g) site on r.number (last t on.at.drive.0) r.first r.head
    found = (own (last t) (last_image t)).found

    named : AreNamed site
    named line looks = line_found g may.opened.sound o.key line looks

    -- it is the first one of its slice
    first_one : r.number ≡ 0
    first_one =
        let front = subst (λ (l : Lists). IsFront KeepsFirst (last_of l)) s.only may.front in
        number_none r.number r.first.blocks (ap (λ (p : Place). p.start) at ∙ front) found.located.lies.least

    has_first : Everywhere (λ image. HasFirst site image on r.first) t
    has_first image is = (let f = (own image is).found in record { site_is = site_is g o.key may.opened.sound; one_of = f.one_of; located = f.located })

    fits : 16 + 0 * r.first.blocks + r.first.blocks ≤ on.at.blocks
    fits = subst (λ (n : ℕ). 16 + n * r.first.blocks + r.first.blocks ≤ on.at.blocks) first_one found.within

    here : (m : Tale) → Leaves (MayWipe (at_of r)) t m → Leaves (MayWipe (place_on on r.first.blocks r.first.count 0)) t m
    here m leaves = subst (λ (n : ℕ). Leaves (MayWipe (place_on on r.first.blocks r.first.count n)) t m) first_one leaves

    -- Other databases.
    on_format : IsFormatOn site o.identity on r.first.blocks r.first.count 0 0
    on_format =
        let l = found.located in
        let h = found.here.readable.of_head.master in
        let slice = l.lies.slice in
        let within = l.lies.within in
        record {
          site_is = site_is g o.key may.opened.sound;
          one_of = found.one_of;
          within = fits;
          numbered = inl refl;
          form = record {
            fresh = subst (λ i. i.fresh < 2 ^ 64) (own (last t) (last_image t)).of_identity h.fresh;
            number = subst (λ i. i.number < 2 ^ 32) (own (last t) (last_image t)).of_identity h.number;
            name = subst (λ k. IsName (name_of_key k)) found.of_key h.name;
            controller = subst (λ n. n.drive.controller < 256) slice l.form.controller;
            target = subst (λ n. n.drive.target < 256) slice l.form.target;
            disk = subst (λ n. n.drive.disk < 256) slice l.form.disk;
            slice = subst (λ n. n.slice < 256) slice l.form.slice;
            start = omega arith;
            blocks = l.form.blocks;
            index = omega arith;
            count = l.form.count;
          };
          lies = record { slice = refl; start = refl; least = l.lies.least; most = l.lies.most; in_place = omega arith; within = omega (arith, within) };
          small = omega arith;
        }

    module _ (m : Tale) (leaves : Leaves (MayWipe (at_of r)) t m) where
      all_before : (image : Image) (is : IsImage m image) → AreAllBefore (Spells g) g (here m leaves image is).0 image
      all_before image is = (let from = here m leaves image is in first_place_before (read_of g) g may.opened.sound o.key on found.one_of from.0 image r.first.blocks r.first.count (let least = found.located.lies.least in let all = fits in omega (arith, all, least)) from.2)

      stay_blank : StayBlank g o.identity t m
      stay_blank ask other another blank image is = (let from = here m leaves image is in blank_before g from.0 image (all_before image is) ask other (blank from.0 from.1))

      rest_stands : (all : List Database) → RestMayEnd g all o t → RestStands (Spells g) g all o.identity m
      rest_stands all rest image is =
          let from = here m leaves image is in
          rest_first_place (read_of g) g may.opened.sound o.key on found.one_of from.0 image all o.identity (rest.rest from.0 from.1) r.first.blocks r.first.count 0 (Some r.first) on_format (has_first from.0 from.1).located (rest.taken s from.0 from.1) from.2

    -- The log, and its worlds.
    module _ (log : Log) (covers : CoversWith (Spells g) site o.identity (λ image w. IsReadyWith (spots_of o.seats) w) log t) (known : IsLogOf g o log) where
      abbrev version : Version
      version = known.newest.newest.version

      abbrev ending : Log
      ending = log_after log Clearing

      only : version.table.plan.lists ≡ One (s.place ∷ [])
      only = ap (λ (x : Table). x.plan.lists) known.newest.newest.same ∙ s.only

      clearable : IsClearable log
      clearable = record {
        there = (let w = covers (last t) (last_image t) in not_over site log w.0 w.1.matches (subst (BootsAt w.0) w.2.stage (standing site w.0 w.1.reached).boots));
        newest = version;
        older = known.newest.newest.older;
        is = known.newest.newest.family;
        written = known.newest.written;
        place = s.place;
        only = only;
      }

      listed : (q : Spot) → is_in (spots_of o.seats) q ≡ true → is_named (lists_of site version) q ≡ true
      listed q is =
          let one = subst (λ (ss : List Seat). is_in (spots_of ss) q ≡ true) s.seats is in
          elim (or_cases (same_spot (spot_of r) q) false one) [
            | inl same ↦
                subst (λ (x : Spot). is_named (lists_of site version) x ≡ true) (same_is (spot_of r) q same)
                (subst (λ (x : Table). is_named (lists_of_spots site x.plan.lists) (spot_of r) ≡ true) (sym known.newest.newest.same) (may.opened.named r sole_has))
            | inr none ↦ absurd (false≢true none)
          ]

      answered : IsAnswered site ending version (spots_of o.seats)
      answered = record {
        site_is = site_is g o.key may.opened.sound;
        lines = named;
        older = known.newest.newest.older;
        newest = known.newest.newest.family;
        written = known.newest.written;
        named = listed;
      }

      spot : spot_of_place site s.place ≡ spot_on on r.first.blocks 0
      spot =
          ap (spot_of_place site) (sym at) ∙ ap (λ (found_at : Option SliceAt). spot_in found_at (at_of r).place) (named on found.one_of) ∙ ap (spot_on on r.first.blocks) first_one

      to_end : IsToEnd site ending version t on r.first
      to_end = record { place = s.place; only = only; spot = spot; has = has_first; fits = fits; ends = refl }

      abbrev Ready : Core → Type 0
      Ready w = IsReadyWith (spots_of o.seats) w

      begun : Traces (Spells g) site o.identity log ending Ready (λ es. es ≡ []) Ready t t
      begun = traced_ends (Spells g) site o.identity log t Ready

      ending_traced : (m : Tale) → Leaves (MayWipe (at_of r)) t m → Traces (Spells g) site o.identity log ending Ready AreWipes AnyWorld t m
      ending_traced m leaves =
          trace_more (Spells g) site o.identity log ending ending Ready Ready AnyWorld (λ es. es ≡ []) AreWipes AreWipes t t m (λ es fs none are. subst (λ (l : List Event). AreWipes (l ++ fs)) (sym none) are) begun
          (trace_weaker (Spells g) site o.identity ending ending Ready Ready (λ w. Ready w ⊎ IsDeleted w) AnyWorld (AreWipedOrNone (spots_behind on r.first 0)) AreWipes t m (λ w is. is) (wipes_or_none (spots_behind on r.first 0)) (λ w is. tt)
          (traced_ending (Spells g) site o.identity ending t m version (spots_of o.seats) answered on r.first to_end (here m leaves)))

      ended_traced : (u : Tale) → Leaves (Wipes (at_of r)) t u → Traces (Spells g) site o.identity log (log_after ending Gone) Ready AreWipes IsDeleted t u
      ended_traced u leaves =
          let wipes = subst (λ (n : ℕ). Leaves (Wipes (place_on on r.first.blocks r.first.count n)) t u) first_one leaves in
          let done = traced_ended (Spells g) site o.identity ending t u version (spots_of o.seats) answered on r.first to_end wipes in
          let over = trace_here (Spells g) site o.identity ending (log_after ending Gone) IsDeleted (λ es. es ≡ []) IsDeleted u
          (λ w image is world deleted. record { events = []; are = refl; may = tt; world = deleted_over (Spells g) site o.identity ending w image world deleted; known = deleted }) in
          trace_more (Spells g) site o.identity log ending (log_after ending Gone) Ready Ready IsDeleted (λ es. es ≡ []) AreWipes AreWipes t t u (λ es fs none are. subst (λ (l : List Event). AreWipes (l ++ fs)) (sym none) are) begun
          (trace_more (Spells g) site o.identity ending ending (log_after ending Gone) Ready IsDeleted IsDeleted (λ es. es ≡ wiped_all (spots_behind on r.first 0)) (λ es. es ≡ []) AreWipes t u u
          (λ es fs all none. subst AreWipes (sym (ap (λ (l : List Event). es ++ l) none ∙ append-nil es ∙ all)) (wipes_all (spots_behind on r.first 0))) done over)

    pub goes_on : (m : Tale) → Leaves (MayWipe (at_of r)) t m → EndGoes g o (Clearing ∷ []) AnyWorld (λ log. log.fate ≡ Ends) t m
    goes_on m leaves log covers known = (
      record {
        es = Clearing ∷ [];
        course = (clearable log covers known, tt);
        come = record { tells = refl; issues = (tt, tt); begins = tt };
        traces = ending_traced log covers known m leaves;
        after = refl;
      },
      refl,
    )

    pub goes_over : (u : Tale) → Leaves (Wipes (at_of r)) t u → EndGoes g o (Clearing ∷ Gone ∷ []) IsDeleted (λ log. log.fate ≡ Over) t u
    goes_over u leaves log covers known = (
      record {
        es = Clearing ∷ Gone ∷ [];
        course = (clearable log covers known, (refl, tt));
        come = record { tells = refl; issues = (tt, (tt, tt)); begins = tt };
        traces = ended_traced log covers known u leaves;
        after = refl;
      },
      refl,
    )

  -- no two are the only one
  one_sole : (a : IsSole o) → at_of a.replica ≡ at_of r
  one_sole a = ap at_of (sole_first o.seats (record { place = a.place; replica = Some a.replica }) a.replica refl (ap (λ (ss : List Seat). slice_index_or ss 0 (record { place = a.place; replica = Some a.replica })) (sym a.seats)) refl)

  module _ (at : (at_of r).place ≡ s.place) (least : 16 ≤ r.first.blocks) where
    pub end_moment : (t m : Tale) → AreDoing (Blanks (at_of r) ∷ []) t m → EndMoment o t m
    end_moment t m doing = record {
      quiet = doing_quiet (at_of r) t m (seats_area o.seats) (master_within least) doing;
      only = λ a. subst (λ (p : PlaceAt). AreDoing (Blanks p ∷ []) t m) (sym (one_sole a)) doing;
      goes = λ g may. goes_on at g t may m (doing_leaves (at_of r) t m doing);
      rest = λ g all may rest. rest_stands at g t may m (doing_leaves (at_of r) t m doing) all rest;
      blank = λ g may. stay_blank at g t may m (doing_leaves (at_of r) t m doing);
    }

    pub end_ends : (t u : Tale) → AreDone (Blanks (at_of r) ∷ []) t u → EndEnds o t u
    end_ends t u done = record {
      gone = λ g may. goes_over at g t may u (done_leaves (at_of r) t u done);
      only = λ a. subst (λ (p : PlaceAt). AreDone (Blanks p ∷ []) t u) (sym (one_sole a)) done;
    }
