-- What the beginning of a change does to the worlds and the log of a database.
use Rattle.std.proofs.Common.{◌≡◌, ◌⊎◌, ⊎_elim, suc, inl, inr, ℕ, ◌+◌, ◌<◌, ◌^◌, ◌==◌, ◌&&◌, ◌||◌, Bool, true, false, List, [], ◌∷◌, ◌++◌, refl, sym, ◌∙◌, ap, subst, map, cond, All, Contains, Option, None, Some, append-nil, arith}
use Rattle.std.proofs.lemmas.Bool.{and_from, cases_lt, cond-false, cond-true, eq-eqb, false_from_ne_true, false≢true, eqb-true, lt-ltb, or_left, or_right}
use Rattle.std.proofs.lemmas.List.{reverse-append}
use Rattle.std.proofs.lemmas.List.Elements.{All-contains, Contains-append_cases, Contains-get_or, Contains-push_cases, filter_map-append}
use Rattle.std.specs.Prelude.{nat_lt, not, reverse}
use Rattle.std.specs.List.{cons_option, filter_map, list_all}
use Rattle.mdv_votes.specs.Spots.{same_spot, same_spots}
use Rattle.mdv_votes.proofs.Meeting.{same_self}
use Rattle.mdv_quorum.specs.May.{IsReady, all_second, is_distinct, is_lists, is_one_more, is_place, may, may_follow, may_list, moves_on, same_second}
use Rattle.mdv_quorum.specs.Standing.{BootsAt, IsLastFirm}
use Rattle.mdv_quorum.specs.World.{changed, happens, lists_at}
use Rattle.mdv_shown.proofs.Slots.{never_below}
use Rattle.mdv_store_law.specs.Log.{IsMade, with_asked}
use Rattle.mdv_config.specs.Lists.{beside, places_of}
use Rattle.mdv_config.proofs.Settled.{all_of_last}
use Rattle.mdv_standing.specs.Below.{Change, Core, FamilyTable, Geometry, Identity, Image, IsBelow, LeftClosed, Lists, Log, Mark, MayHappen, NextLists, One, Two, Place, Ready, Site, Slotted, Spot, SpotLists, Stage, Table, Version, WritesLog, is_named, is_none, last_list, last_number, last_of, last_table, log_after, place_at, slice_at, table_at}
use Rattle.mdv_standing.specs.Listed.{HasPlace, HavePlaces}
use Rattle.mdv_standing.specs.Matching.{IsVersionAt, Matches, Reached, lists_of, spot_in, spots_in, spots_of, version_at}
use Rattle.mdv_standing.specs.Worlds.{IsTaking, IsWorld, Turned}
use Rattle.mdv_standing.specs.Committing.{IsCommit, MayChangeLists, MayFollow, next_mark}
use Rattle.mdv_standing.proofs.Reaching.{reached_more, standing}
use Rattle.mdv_standing.proofs.Voting.{all_that, numbered}
use Rattle.mdv_standing.proofs.Listed.{has_lies, not_over, past_reading}
use Rattle.mdv_standing.proofs.Following.{GoesOn, some_is}
use Rattle.mdv_standing.proofs.Beginning.{LeadsBy, begun_taking, begun_world}
use Rattle.mdv_standing.proofs.Taking.{last_lists, last_version, some_table}

-- a plan's changes, where the book agrees on its numbers
kept_same : (book other : ℕ → Option Change) (plan : List ℕ) → ((n : ℕ) → Contains plan n → other n ≡ book n) → filter_map other plan ≡ filter_map book plan
kept_same book other [] same = refl
kept_same book other (n ∷ plan) same =
    let here = same n (0, omega arith, refl) in
    let rest = kept_same book other plan (λ k has. same k (suc has.0, omega (arith, has.1), has.2)) in
    ap (λ (o : Option Change). cons_option o (filter_map other plan)) here ∙ ap (cons_option (book n)) rest

-- the lists of a table are places, each as itself
module _ (site : Site) where
  abbrev spot : Place → Spot
  spot place = spot_in (slice_at site.lines place.slice) place

  all_places : (places : List Place) → list_all is_place (map spot places) ≡ true
  all_places [] = refl
  all_places (x ∷ places) = and_from (is_place (spot x)) (list_all is_place (map spot places)) (by (slice_at site.lines x.slice)) (all_places places)
    where
      by : (o : _) → is_place (spot_in o x) ≡ true
      by None = refl
      by (Some at) = refl

  same_list : (list : List Spot) → same_spots list list ≡ true
  same_list [] = refl
  same_list (p ∷ ps) = and_from (same_spot p p) (same_spots ps ps) (same_self p) (same_list ps)

  abbrev MayListAsNext : Bool → SpotLists → SpotLists → Type 0
  MayListAsNext set l next = (is_lists set next ≡ true) × (may_follow l next ≡ true) × (same_spots l.mediators next.mediators ≡ true)

  abbrev MayListAgain : Bool → SpotLists → Type 0
  MayListAgain set l = MayListAsNext set l l

  list_again : (set : Bool) (places : List Place) (second : Option (List Spot)) → all_second second ≡ true → same_second second second ≡ true → MayListAgain set (record { first = spots_in site places; second = second; mediators = [] })
  list_again set places second all same =
      let l : SpotLists = record { first = spots_in site places; second = second; mediators = [] } in (
        and_from (list_all is_place l.first && all_second second) ((list_all (λ (p : Spot). p.mediator) l.mediators && is_distinct l.mediators) && (set || is_none l.mediators))
            (and_from (list_all is_place l.first) (all_second second) (all_places places) all) (or_right set true refl),
        or_left ((same_spots l.first l.first && same_second second second) && (is_one_more l.mediators l.mediators || is_one_more l.mediators l.mediators)) (moves_on l.first second l.first second && same_spots l.mediators l.mediators)
            (and_from (same_spots l.first l.first && same_second second second) (is_one_more l.mediators l.mediators || is_one_more l.mediators l.mediators)
            (and_from (same_spots l.first l.first) (same_second second second) (same_list l.first) same) refl),
        refl,
      )

  pub may_list_again : (set : Bool) (lists : Lists) → MayListAgain set (spots_of site lists)
  may_list_again set (One places) = list_again set places None refl refl
  may_list_again set (Two old new) = list_again set old (Some (spots_in site new)) (all_places new) (same_list (spots_in site new))

  -- the second list comes in the place of both
  may_list_last : (set : Bool) (lists : Lists) → MayListAsNext set (spots_of site lists) (spots_of site (One (last_of lists)))
  may_list_last set (One places) = may_list_again set (One places)
  may_list_last set (Two old new) =
      let l : SpotLists = spots_of site (Two old new) in
      let next : SpotLists = spots_of site (One new) in (
        (may_list_again set (One new)).0,
        or_right ((same_spots l.first next.first && same_second l.second next.second) && (is_one_more l.mediators next.mediators || is_one_more next.mediators l.mediators))
            (moves_on l.first l.second next.first next.second && same_spots l.mediators next.mediators)
            (and_from (same_spots (spots_in site new) (spots_in site new)) (same_spots [] []) (same_list (spots_in site new)) refl),
        refl,
      )

  -- a second list comes beside the one that was
  pub may_second : (old new : List Place) → may_follow (spots_of site (One old)) (spots_of site (Two old new)) ≡ true
  may_second old new =
      let l : SpotLists = spots_of site (One old) in
      let next : SpotLists = spots_of site (Two old new) in
      or_right ((same_spots l.first next.first && same_second l.second next.second) && (is_one_more l.mediators next.mediators || is_one_more next.mediators l.mediators))
      (moves_on l.first l.second next.first next.second && same_spots l.mediators next.mediators)
      (and_from (same_spots (spots_in site old) (spots_in site old)) (same_spots [] []) (same_list (spots_in site old)) refl)

  pub may_list_next : (set : Bool) (was next : Lists) → MayFollow was next → MayListAsNext set (spots_of site was) (spots_of site next)
  may_list_next set was next (inl same) = subst (λ (l : Lists). MayListAsNext set (spots_of site was) (spots_of site l)) (sym same) (may_list_again set was)
  may_list_next set was next (inr over) = subst (λ (l : Lists). MayListAsNext set (spots_of site was) (spots_of site l)) (sym over) (may_list_last set was)

  -- lists that name a place aren't empty
  named_some : (places : List Place) (p : Spot) → is_named (spots_of site (One places)) p ≡ true → is_none (spots_of site (One places)).first ≡ false
  named_some [] p named = absurd (by p.mediator named)
    where
      by : (mediator : Bool) → cond mediator false false ≡ true → ⊥
      by true e = false≢true e
      by false e = false≢true e
  named_some (x ∷ places) p named = refl

  next_some : (was next : Lists) (p : Spot) → MayFollow was next → is_none (spots_of site was).first ≡ false → is_named (spots_of site next) p ≡ true → is_none (spots_of site next).first ≡ false
  next_some was next p (inl same) some named = ap (λ (l : Lists). is_none (spots_of site l).first) same ∙ some
  next_some was next p (inr over) some named =
      ap (λ (l : Lists). is_none (spots_of site l).first) over ∙ named_some (last_of was) p (ap (λ (l : Lists). is_named (spots_of site l) p) (sym over) ∙ named)

  -- the last list stays
  -- the lists of a second one are those that were, first
  second_next : (set : Bool) (old new : List Place) → MayListAsNext set (spots_of site (One old)) (spots_of site (Two old new))
  second_next set old new = ((may_list_again set (Two old new)).0, may_second old new, refl)

  next_last : (was next : Lists) → MayFollow was next → last_list (spots_of site next) ≡ last_list (spots_of site was)
  next_last was next (inl same) = ap (λ (l : Lists). last_list (spots_of site l)) same
  next_last was next (inr over) = ap (λ (l : Lists). last_list (spots_of site l)) over ∙ last was
    where
      last : (l : Lists) → last_list (spots_of site (One (last_of l))) ≡ last_list (spots_of site l)
      last (One places) = refl
      last (Two old new) = refl

  -- their places are among those that were listed
  next_listed : (was next : Lists) (place : Place) → MayFollow was next → Contains (places_of next) place → Contains (places_of was) place
  next_listed was next place (inl same) listed = subst (λ (l : Lists). Contains (places_of l) place) same listed
  next_listed was next place (inr over) listed =
      let all : All (Contains (places_of was)) (places_of was) = λ k d lt. Contains-get_or (places_of was) k d lt in
      All-contains (Contains (places_of was)) (last_of was) place (all_of_last (Contains (places_of was)) was all) (subst (λ (l : Lists). Contains (places_of l) place) over listed)

module _ (Spells : List ℕ → Table → Type 0) (site : Site) (identity : Identity) (log : Log) (w : Core) (image : Image) (p : Spot) (v : Version) (table : Table) (took : List Spot)
    (b : IsCommit Spells site identity log w image p v table took) where
  m : Matches site log w
  m = b.world.matches

  have : HavePlaces Spells site identity log image
  have = ⊎_elim (λ places. places) (λ none. absurd (past_reading site w b.world.reached (Ready b.known.in_hand) b.known.stage (λ read same. cc (same)) none)) b.world.listed

  abbrev lists : SpotLists
  lists = spots_of site table.plan.lists

  last_is : (last_table w).lists ≡ lists_of site v
  last_is = last_lists site log w m v b.older b.newest

  last_mark : (last_table w).mark ≡ v.mark
  last_mark = (m.each (last_number w) (omega (arith, some_table site log w m v b.older b.newest))).mark ∙ ap (λ (x : Version). x.mark) (last_version site log w m v b.older b.newest)

  -- the newest version is above the others
  at_most : (x : Version) → Contains log.family x → (x.mark ≡ v.mark) ⊎ IsBelow x.mark v.mark
  at_most x has =
      let i = numbered site log w b.world.reached m x has in
      let f = (standing site w b.world.reached).family in
      let some = some_table site log w m v b.older b.newest in
      elim (cases_lt i.0 (last_number w)) [
        | inl less ↦ inr (subst (λ (k : Mark). IsBelow x.mark k) last_mark (subst (λ (k : Mark). IsBelow k (last_table w).mark) i.3 (f.marks i.0 (last_number w) less (omega (arith, some)))))
        | inr more ↦
            let same : i.0 ≡ last_number w = omega (arith, more, i.1) in
            inl (sym i.3 ∙ ap (λ (n : ℕ). (table_at w.family n).mark) same ∙ last_mark)
      ]

  below_next : (x : Version) → Contains log.family x → IsBelow x.mark (next_mark v)
  below_next x has = elim (at_most x has) [
    | inl same ↦ subst (λ (k : Mark). IsBelow k (next_mark v)) (sym same) (inr (refl, omega arith))
    | inr less ↦ elim less [
      | inl boot ↦ inl boot
      | inr count ↦ inr (count.0, omega (arith, count.1))
    ]
  ]

  none_newer : (x : Version) → Contains log.family x → x.is_written ≡ true → IsBelow v.mark x.mark → ⊥
  none_newer x has written up = elim (at_most x has) [
    | inl same ↦ (let itself = subst (λ (k : Mark). IsBelow v.mark k) same up in never_below v.mark v.mark itself itself)
    | inr less ↦ never_below x.mark v.mark less up
  ]

  its : (place : Place) → Contains (places_of table.plan.lists) place → HasPlace Spells site identity image place
  its place listed = elim b.follows [
    | inl follows ↦ old (next_listed site v.table.plan.lists table.plan.lists place follows listed)
    | inr (written, second) ↦ elim (Contains-append_cases second.old (beside second.old second.new) place (subst (λ (l : Lists). Contains (places_of l) place) second.two listed)) [
      | inl before ↦ old (subst (λ (l : Lists). Contains (places_of l) place) (sym second.one) before)
      | inr comes ↦ second.have place comes
    ]
  ]
    where
      old : Contains (places_of v.table.plan.lists) place → HasPlace Spells site identity image place
      old was = have v place (subst (λ (l : List Version). Contains l v) (sym b.newest) (0, omega arith, refl)) (all_that (λ x. x.is_written ≡ true → IsBelow v.mark x.mark → ⊥) log.family none_newer) was

  -- what the votes ask of the next lists
  may_next : (set : Bool) → MayListAsNext site set (lists_of site v) lists
  may_next set = elim b.follows [
    | inl follows ↦ may_list_next site set v.table.plan.lists table.plan.lists follows
    | inr (written, second) ↦
        subst (λ (l : Lists). MayListAsNext site set (lists_of site v) (spots_of site l)) (sym second.two)
        (subst (λ (l : Lists). MayListAsNext site set (spots_of site l) (spots_of site (Two second.old second.new))) (sym second.one) (second_next site set second.old second.new))
  ]

  some_next : is_none (lists_of site v).first ≡ false → is_none lists.first ≡ false
  some_next some = elim b.follows [
    | inl follows ↦ next_some site v.table.plan.lists table.plan.lists p follows some b.named
    | inr (written, second) ↦ ap (λ (l : Lists). is_none (spots_of site l).first) second.two ∙ ap (λ (l : Lists). is_none (spots_of site l).first) (sym second.one) ∙ some
  ]

  pub may_commit_it : (g : Geometry) (asked : Option Change) → IsMade g asked v.table table → MayChangeLists v table → MayHappen g log (WritesLog (next_mark v) asked v.changes table)
  may_commit_it g asked made change = (
    (
      all_that (λ x. IsBelow x.mark (next_mark v)) log.family below_next,
      not_over site log w b.world.matches (subst (BootsAt w) b.known.stage (standing site w b.world.reached).boots),
    ),
    inr (record {
      parent = v;
      one_of = subst (λ (l : List Version). Contains l v) (sym b.newest) (0, omega arith, refl);
      changes = refl;
      made = made;
      not_older = all_that (λ x. x.is_written ≡ true → IsBelow v.mark x.mark → ⊥) log.family none_newer;
      settles = ⊎_elim (λ same. inl same) (λ written. inr (written, record { older = b.older; is = b.newest })) change;
    }),
  )

  module _ (asked : Option Change) where
    abbrev version : Version
    version = record { mark = next_mark v; table = table; changes = with_asked asked v.changes; is_written = false }

    -- the change has the next number
    abbrev book : ℕ → Option Change
    book n = cond (n == w.changes) asked (m.book n)

    book_old : (n : ℕ) → n < w.changes → book n ≡ m.book n
    book_old n lt = cond-false (n == w.changes) asked (m.book n) (false_from_ne_true (n == w.changes) (λ e. omega (arith, lt, eqb-true n w.changes e)))

    book_new : book w.changes ≡ asked
    book_new = cond-true (w.changes == w.changes) asked (m.book w.changes) (eq-eqb w.changes w.changes refl)

    abbrev listed : Core
    listed = changed w lists (not (same_spots (last_table w).lists.mediators lists.mediators))

    abbrev next : FamilyTable
    next = record {
      mark = record { boot = (last_table w).mark.boot; count = (last_table w).mark.count + 1 };
      parent = Some (last_number w);
      change = Some w.changes;
      lists = lists;
      by_majority = not (same_spots (last_table w).lists.mediators lists.mediators);
      plan = (last_table w).plan ++ w.changes ∷ [];
    }

    lists_by : happens w (NextLists lists) ≡ listed
    lists_by = ap (lists_at w lists) b.known.stage

    longer_kept : (old : List Change) → reverse (old ++ cons_option asked []) ≡ with_asked asked (reverse old)
    longer_kept old = by asked
      where
        by : (o : Option Change) → reverse (old ++ cons_option o []) ≡ with_asked o (reverse old)
        by None = ap reverse (append-nil old)
        by (Some change) = reverse-append old (change ∷ [])

    -- one version with a longer book
    booked : (t : FamilyTable) (x : Version) → IsVersionAt site m.book w.changes t x → IsVersionAt site book (w.changes + 1) t x
    booked t x is = record {
      mark = is.mark;
      lists = is.lists;
      some = is.some;
      changes = is.changes ∙ ap reverse (sym (kept_same m.book book t.plan (λ n has. book_old n (is.numbered n has))));
      numbered = λ n has. omega (arith, is.numbered n has);
      lie = is.lie;
    }

    listed_matches : Matches site log listed
    listed_matches = record {
      kind = m.kind;
      book = book;
      as_many = m.as_many;
      each = λ i known. booked (table_at w.family i) (version_at log.family i) (m.each i known);
      answered = m.answered;
      dropped = m.dropped;
      steady = m.steady;
      reused = m.reused;
      there = m.there;
      gone = m.gone;
    }

    last_was : IsVersionAt site m.book w.changes (last_table w) v
    last_was = subst (λ (x : Version). IsVersionAt site m.book w.changes (last_table w) x) (last_version site log w m v b.older b.newest) (m.each (last_number w) (omega (arith, some_table site log w m v b.older b.newest)))

    next_is : IsVersionAt site book (w.changes + 1) next version
    next_is = record {
      mark = ap (λ (k : Mark). record { boot = k.boot; count = k.count + 1 }) last_mark;
      lists = refl;
      some = some_next (ap (λ (l : SpotLists). is_none l.first) (sym last_was.lists) ∙ last_was.some);
      changes =
          ap (with_asked asked) (last_was.changes ∙ ap reverse (sym (kept_same m.book book (last_table w).plan (λ n has. book_old n (last_was.numbered n has)))))
          ∙ sym (longer_kept (filter_map book (last_table w).plan))
          ∙ ap (λ (o : Option Change). reverse (filter_map book (last_table w).plan ++ cons_option o [])) (sym book_new)
          ∙ ap reverse (sym (filter_map-append book (last_table w).plan (w.changes ∷ [])));
      numbered = λ n has. elim (Contains-push_cases (last_table w).plan w.changes n has) [
        | inl old ↦ omega (arith, last_was.numbered n old)
        | inr new ↦ omega (arith, new)
      ];
      lie = λ place listed. has_lies Spells site identity image place (its place listed);
    }

    lists_fit : may w (NextLists lists) ≡ true
    lists_fit =
        let again = may_next w.set in
        subst (λ (g : Stage). may_list w lists g ≡ true) (sym b.known.stage)
        (and_from (is_lists w.set lists) (may_follow (last_table w).lists lists && nat_lt ((last_table w).mark.count + 1) (2 ^ 63)) again.0
        (and_from (may_follow (last_table w).lists lists) (nat_lt ((last_table w).mark.count + 1) (2 ^ 63))
        (subst (λ (l : SpotLists). may_follow l lists ≡ true) (sym last_is) again.1)
        (lt-ltb ((last_table w).mark.count + 1) (2 ^ 63) (subst (λ (k : Mark). k.count + 1 < 2 ^ 63) (sym last_mark) b.small))))

    world_listed : IsWorld Spells site identity log listed image
    world_listed = record {
      reached = subst (Reached site) lists_by (reached_more site w (NextLists lists ∷ []) b.world.reached (lists_fit, tt));
      matches = listed_matches;
      shows = record { each = b.world.shows.each; only = b.world.shows.only; seats = b.world.shows.seats };
      listed = inl have;
    }

    slot_fits : may listed (Slotted p LeftClosed) ≡ true
    slot_fits =
        and_from (place_at w.places p).holds (is_named lists p)
        (subst (λ (q : Spot). (place_at w.places q).holds ≡ true) (sym b.own.spot) (b.world.shows.each b.own.line b.own.number b.own.first b.own.head b.own.own).holds) b.named

    -- the newest version is firm, and the next one has its last list, or the write of that one was answered
    goes_on : GoesOn site log listed version
    goes_on f firm unwritten =
        let ready : IsLastFirm w = (standing site w b.world.reached).ready (subst IsReady (sym b.known.stage) tt) in
        let same : f ≡ last_number w = some_is f (last_number w) (sym firm ∙ ready.1) in
        let last : version_at log.family f ≡ v = ap (version_at log.family) same ∙ last_version site log w m v b.older b.newest in
        elim b.follows [
          | inl follows ↦ next_last site v.table.plan.lists table.plan.lists follows ∙ ap (λ (x : Version). last_list (lists_of site x)) (sym last)
          | inr (written, second) ↦ absurd (false≢true (sym unwritten ∙ ap (λ (x : Version). x.is_written) last ∙ written))
        ]

    there : w.deleted ≡ None
    there = subst (BootsAt w) b.known.stage (standing site w b.world.reached).boots

    leads : LeadsBy listed next None p
    leads = refl

    pub commit_begins : Turned Spells site identity (log_after log (WritesLog (next_mark v) asked v.changes table)) w image (λ es. es ≡ NextLists lists ∷ (Slotted p LeftClosed ∷ [])) (IsTaking false (next_mark v) [])
    unfolding world_listed listed_matches
    commit_begins =
        let majority : next.by_majority ≡ false =
        ap not (ap (λ (l : SpotLists). same_spots l.mediators lists.mediators) last_is ∙ (may_next w.set).2) in
        record {
          events = NextLists lists ∷ (Slotted p LeftClosed ∷ []);
          are = refl;
          may = (lists_fit, (subst (λ (x : Core). may x (Slotted p LeftClosed) ≡ true) (sym lists_by) slot_fits, tt));
          world = subst (λ (x : Core). IsWorld Spells site identity (log_after log (WritesLog (next_mark v) asked v.changes table)) (happens x (Slotted p LeftClosed)) image) (sym lists_by)
              (begun_world Spells site identity log listed image world_listed next version next_is refl goes_on there p None leads slot_fits have its);
          known = subst (λ (x : Core). IsTaking false (next_mark v) [] (happens x (Slotted p LeftClosed))) (sym lists_by)
              (begun_taking Spells site identity log listed image world_listed next version next_is refl goes_on there p None leads slot_fits false majority);
        }
