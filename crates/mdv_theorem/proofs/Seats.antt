-- Seats whose places lie on drives that pass a test, as each does on which no call fails: each is active, and stays so, whatever a line changes. So where half of a list, or more, lies on such drives, half of it is active.
use Rattle.std.proofs.Common.{◌≡◌, ◌⊎◌, ◌*◌, ◌≤◌, inl, inr, ⊎_elim, ℕ, Bool, true, false, List, [], ◌∷◌, map, length, Option, Some, None, MatchOption, Contains, refl, sym, ◌∙◌, ap, subst, arith}
use Rattle.std.specs.Prelude.{count_by}
use Rattle.std.proofs.lemmas.Bool.{false≢true, le-leb}
use Rattle.std.proofs.lemmas.List.{length-map}
use Rattle.std.proofs.lemmas.List.Elements.{Contains-append_cases, Contains-append_left, Contains-append_right}
use Rattle.mdv_base.specs.Causes.{Failures}
use Rattle.mdv_base.specs.declared.drive.DriveNo.{DriveNo}
use Rattle.mdv_base.specs.declared.drive.SliceName.{SliceName}
use Rattle.mdv_base.specs.declared.mark.Identity.{Identity}
use Rattle.mdv_base.specs.declared.name.Key.{Key}
use Rattle.mdv_base.specs.declared.place.Place.{Place}
use Rattle.mdv_engine_law.specs.Hosts.{key_of}
use Rattle.mdv_engine_law.specs.Moves.{IsLostChange}
use Rattle.mdv_engine_law.specs.declared.host.Host.{Host}
use Rattle.mdv_look.proofs.Looks.{count_within}
use Rattle.mdv_look.proofs.Bringing.{count_cons}
use Rattle.mdv_name.specs.SliceIndex.{HasSlice}
use Rattle.mdv_name.specs.declared.geometry.Geometry.{Geometry}
use Rattle.mdv_name.specs.declared.slice_lines.SliceAt.{SliceAt}
use Rattle.mdv_name.specs.declared.slice_lines.SliceLine.{SliceLine}
use Rattle.mdv_places.proofs.Adding.{place_of_seat}
use Rattle.mdv_places.proofs.Coming.{keeps}
use Rattle.mdv_places.proofs.Halves.{active_by, seat_active}
use Rattle.mdv_places.proofs.Moving.{added_places}
use Rattle.mdv_places.specs.Asked.{claimed, claims, Adds, Asks, Drops, KeepsFirst, list_after, lists_after, places_added, seats_added}
use Rattle.mdv_places.specs.Changing.{both_of}
use Rattle.mdv_places.specs.Outcomes.{IsMoved, TakesBoth, till_wiped}
use Rattle.mdv_run_law.specs.Lives.{host_of}
use Rattle.mdv_shelf.specs.Failing.{Outcomes}
use Rattle.mdv_shown.specs.Sites.{is_line_of}
use Rattle.mdv_store.proofs.Passes.{mapped, unmapped}
use Rattle.mdv_store.proofs.Shares.{list_none, lists_none}
use Rattle.mdv_store.proofs.Sitting.{left_places, left_seat}
use Rattle.mdv_store.proofs.Seated.{seat_is}
use Rattle.mdv_store.specs.Commit as commit
use Rattle.mdv_store.specs.Create as create
use Rattle.mdv_store.proofs.Sitting.{replica_of}
use Rattle.mdv_store.specs.Create.{replica_on, seats_asked}
use Rattle.mdv_store.specs.Seats.{replicas_of}
use Rattle.mdv_store.specs.Listing.{is_listed_in, seats_in}
use Rattle.mdv_store.specs.Opened.{Opened, shortage}
use Rattle.mdv_store.specs.Seats.{AreLeft, TakesSlot, drive_of}
use Rattle.mdv_store.specs.Shares.{has_active, short_of}
use Rattle.mdv_store.specs.declared.seats.Need.TheVariants.{Half}
use Rattle.mdv_store.specs.declared.seats.Seat.{Seat}
use Rattle.mdv_store.specs.declared.seats.Share.{Share}
use Rattle.mdv_survey.specs.declared.replica.Replica.{Replica}
use Rattle.mdv_config.proofs.Beside.{among-true}
use Rattle.mdv_config.specs.Lists.{last_of}
use Rattle.mdv_plan.specs.declared.lists.Lists.{Lists}
use Rattle.mdv_plan.specs.declared.lists.Lists.TheVariants.{One, Two}
use Rattle.mdv_plan.specs.declared.table.Table.{Table}
use Rattle.mdv_volumes.proofs.Lists.{contains_first, first_or_behind, in_filter}
use Rattle.mdv_theorem.specs.Observed.{HalfLieOn}
use Rattle.mdv_theorem.proofs.Lines.{never_in}
use Rattle.mdv_theorem.proofs.Slices.{slices_of}

-- each list of these
abbrev pub OfEach : (List Place → Type 0) → Lists → Type 0
OfEach P (One list) = P list
OfEach P (Two was list) = P was × P list

-- a place of the list that comes is one of the old list, or is added
coming_of : (asked : Asks) (places : List Place) (p : Place) → Contains (list_after asked places) p → Contains places p ⊎ Contains (places_added asked) p
coming_of (Adds lines count blocks) places p has = Contains-append_cases places (places_added (Adds lines count blocks)) p has
coming_of (Drops slices) places p has = inl (in_filter _ places p has).0
coming_of KeepsFirst [] p has = absurd (never_in p has)
coming_of KeepsFirst (x ∷ places) p has = elim (first_or_behind x p [] has) [
  | inl here ↦ inl (subst (λ (q : Place). Contains (x ∷ places) q) here (contains_first x places))
  | inr none ↦ absurd (never_in p none)
]

count_map : (chosen : SliceName → Bool) (places : List Place) → count_by chosen (slices_of places) ≡ count_by (λ (p : Place). chosen p.slice) places
count_map chosen [] = refl
count_map chosen (p ∷ places) =
    let rest = count_map chosen places in
    let one = count_cons chosen p.slice (slices_of places) in
    let other = count_cons (λ (q : Place). chosen q.slice) p places in
    omega (arith, rest, one, other)

module _ (host : Host) (calm : ℕ → Bool) where
  -- a replica on such a drive
  abbrev pub has_borne : Option Replica → Bool
  has_borne None = false
  has_borne (Some r) = calm (drive_of r)

  -- Its place lies on a slice on which a boot looks; and where that is on such a drive it is active, by a replica on one.
  pub record IsSeated (s : Seat) : Type 0 where
    pub at : SliceAt
    pub lies : HasSlice host.site.lines s.place.slice at
    pub borne : calm at.drive.0 ≡ true → has_borne s.replica ≡ true

  abbrev pub AreSeated : List Seat → Type 0
  AreSeated seats = (s : Seat) → Contains seats s → IsSeated s

  -- each place of the list has its seat
  abbrev pub Covers : List Seat → List Place → Type 0
  Covers seats list = (p : Place) → Contains list p → Contains (map place_of_seat seats) p

  -- half of the list, or more, lies on such drives
  pub record IsHalf (list : List Place) : Type 0 where
    pub chosen : Place → Bool
    pub half : length list ≤ 2 * count_by chosen list
    pub each : (p : Place) (at : SliceAt) → chosen p ≡ true → HasSlice host.site.lines p.slice at → calm at.drive.0 ≡ true

  half_active : (seats : List Seat) (list : List Place) → AreSeated seats → Covers seats list → IsHalf list → short_of Half seats (One list) ≡ None
  half_active seats list seated covers half =
      let least = count_within half.chosen (has_active seats) list there in
      list_none Half seats list (le-leb (length list) (2 * count_by (has_active seats) list) (omega (arith, half.half, least)))
    where
      there : (p : Place) → Contains list p → half.chosen p ≡ true → has_active seats p ≡ true
      there p has is = by at.0.replica refl (its.borne (half.each p its.at is (subst (λ (q : Place). HasSlice host.site.lines q.slice its.at) at.2 its.lies))) where
        at : (s : Seat) × Contains seats s × (s.place ≡ p)
        at = unmapped place_of_seat seats p (covers p has)

        its : IsSeated at.0
        its = seated at.0 at.1

        by : (o : Option Replica) → at.0.replica ≡ o → has_borne o ≡ true → has_active seats p ≡ true
        by None is_none never = absurd (false≢true never)
        by (Some r) is_some_one does = active_by seats at.0 p at.1 (seat_active at.0 p r is_some_one at.2)

  lists_active : (seats : List Seat) (lists : Lists) → AreSeated seats → OfEach (Covers seats) lists → OfEach IsHalf lists → short_of Half seats lists ≡ None
  lists_active seats (One list) seated covers half = half_active seats list seated covers half
  lists_active seats (Two was list) seated covers half = lists_none Half seats (Two was list) (half_active seats was seated covers.0 half.0) (half_active seats list seated covers.1 half.1)

  -- so no list is short of active places
  pub never_few : (seats : List Seat) (lists : Lists) (share : Share) → AreSeated seats → OfEach (Covers seats) lists → OfEach IsHalf lists → short_of Half seats lists ≡ Some share → ⊥
  never_few seats lists share seated covers half few = (let none = lists_active seats lists seated covers half in cc (none, few))

  -- what is open
  pub record IsBorne (o : Opened) : Type 0 where
    pub one : o.table.plan.lists ≡ One (last_of o.table.plan.lists)
    pub seated : AreSeated o.seats
    pub covers : Covers o.seats (last_of o.table.plan.lists)

  -- seats of which each replica lies where a boot looks
  pub asked_seated : (key : Key) (identity : Identity) (lines : List SliceLine) (count blocks : ℕ) → ((r : Replica) → Contains (replicas_of (seats_asked key identity lines count blocks)) r → Contains host.site.lines r.line) → AreSeated (seats_asked key identity lines count blocks)
  asked_seated key identity lines count blocks own s has =
      let is = seat_is key identity count blocks lines s has in
      let r = replica_on key identity is.line count blocks is.number in
      let some : s.replica ≡ Some r = ap (λ (x : Seat). x.replica) is.is in
      let lies : Contains host.site.lines is.line = own r (replica_of (seats_asked key identity lines count blocks) s r has some) in
      subst IsSeated (sym is.is) (record { at = is.line.at; lies = lies; borne = λ on. on })

  -- so it is of those that are added
  pub added_seated : (o : Opened) (asked : Asks) → ((r : Replica) → Contains (replicas_of (seats_added o asked)) r → Contains host.site.lines r.line) → AreSeated (seats_added o asked)
  added_seated o (Adds lines count blocks) own s has =
      let one = unmapped (claims o.mark.boot) (seats_asked o.key o.identity lines count blocks) s has in
      let is = seat_is o.key o.identity count blocks lines one.0 one.1 in
      let r = replica_on o.key o.identity is.line count blocks is.number in
      let some : s.replica ≡ claimed o.mark.boot (Some r) = ap (λ (x : Seat). x.replica) (sym one.2) ∙ ap (λ (x : Seat). claimed o.mark.boot x.replica) is.is in
      let lies : Contains host.site.lines is.line = own (record r { head = record r.head { claim = o.mark.boot } }) (replica_of (seats_added o (Adds lines count blocks)) s (record r { head = record r.head { claim = o.mark.boot } }) has some) in
      subst IsSeated (ap (claims o.mark.boot) (sym is.is) ∙ one.2) (record { at = is.line.at; lies = lies; borne = λ on. on })
  added_seated o (Drops slices) own s has = absurd (never_in s has)
  added_seated o KeepsFirst own s has = absurd (never_in s has)

  -- Calls of which none failed on such a drive.
  module _ (calls : Outcomes) (unfailed : (drive : ℕ) → calm drive ≡ true → (calls drive).some → ⊥) where
    module _ (failed : ℕ → Failures) (less : (drive : ℕ) → (failed drive).some → (calls drive).some) (Took : Replica → Replica → Type 0) (line_kept : (r n : Replica) → Took r n → n.line ≡ r.line) where
      left_borne : (o m : Option Replica) → MatchOption o (m ≡ None) (λ (r : Replica). MatchOption m (failed (drive_of r)).some (λ (x : Replica). (failed (drive_of r)).none × Took r x)) → has_borne o ≡ true → has_borne m ≡ true
      left_borne None m is so = absurd (false≢true so)
      left_borne (Some r) None gone so = absurd (unfailed (drive_of r) so (less (drive_of r) gone))
      left_borne (Some r) (Some x) took so = ap (λ (l : SliceLine). calm l.at.drive.0) (line_kept r x took.1) ∙ so

      -- each such seat stays behind a pass
      pub left_seated : (old new : List Seat) → AreLeft failed Took old new → AreSeated old → AreSeated new
      left_seated old new left seated n has =
          let one = left_seat failed Took old new n left has in
          let s = seated one.0 one.1 in
          record {
            at = s.at;
            lies = subst (λ (p : Place). HasSlice host.site.lines p.slice s.at) (sym one.2.0) s.lies;
            borne = λ on. left_borne one.0.replica n.replica one.2.1 (s.borne on);
          }

      pub left_covers : (old new : List Seat) (list : List Place) → AreLeft failed Took old new → Covers old list → Covers new list
      left_covers old new list left covers p has = subst (λ (l : List Place). Contains l p) (sym (left_places failed Took old new left)) (covers p has)

      pub left_each : (old new : List Seat) (lists : Lists) → AreLeft failed Took old new → OfEach (Covers old) lists → OfEach (Covers new) lists
      left_each old new (One list) left covers = left_covers old new list left covers
      left_each old new (Two was list) left covers = (left_covers old new was left covers.0, left_covers old new list left covers.1)

    -- a creation
    pub made_borne : (key : Key) (identity : Identity) (lines : List SliceLine) (count blocks : ℕ) (o : Opened) → AreSeated (seats_asked key identity lines count blocks) → create.IsMade calls key identity lines count blocks o → IsBorne o
    made_borne key identity lines count blocks o seated made =
        let seats = seats_asked key identity lines count blocks in
        let lists : o.table.plan.lists ≡ One (map place_of_seat seats) = ap (λ (x : Opened). x.table.plan.lists) made.is in
        record {
          one = lists ∙ ap (λ (l : Lists). One (last_of l)) (sym lists);
          seated = left_seated calls (λ drive some. some) (TakesSlot _ _) (λ r n took. ap (λ (x : Replica). x.line) took.2) seats o.seats made.tried seated;
          covers = subst (λ (l : Lists). Covers o.seats (last_of l)) (sym lists)
              (left_covers calls (λ drive some. some) (TakesSlot _ _) (λ r n took. ap (λ (x : Replica). x.line) took.2) seats o.seats (map place_of_seat seats) made.tried (λ p has. has));
        }

    -- a change of the plan
    pub changed_borne : (old new : Opened) (table : Table) → table.plan.lists ≡ old.table.plan.lists → IsBorne old → commit.IsCommitted calls old new table → IsBorne new
    changed_borne old new table same borne is =
        let lists : new.table.plan.lists ≡ old.table.plan.lists = ap (λ (x : Opened). x.table.plan.lists) is.is ∙ same in
        record {
          one = lists ∙ borne.one ∙ ap (λ (l : Lists). One (last_of l)) (sym lists);
          seated = left_seated calls (λ drive some. some) (TakesSlot _ _) (λ r n took. ap (λ (x : Replica). x.line) took.2) old.seats new.seats is.tried.left borne.seated;
          covers = subst (λ (l : Lists). Covers new.seats (last_of l)) (sym lists)
              (left_covers calls (λ drive some. some) (TakesSlot _ _) (λ r n took. ap (λ (x : Replica). x.line) took.2) old.seats new.seats (last_of old.table.plan.lists) is.tried.left borne.covers);
        }

    pub lost_change_never : (old new : Opened) (table : Table) (share : Share) → IsBorne old → IsHalf (last_of old.table.plan.lists) → commit.IsLostNow calls old new table → shortage new ≡ Some share → ⊥
    lost_change_never old new table share borne half lost few =
        never_few new.seats (One (last_of old.table.plan.lists)) share
        (left_seated calls (λ drive some. some) (TakesSlot _ _) (λ r n took. ap (λ (x : Replica). x.line) took.2) old.seats new.seats lost.tried.left borne.seated)
        (left_covers calls (λ drive some. some) (TakesSlot _ _) (λ r n took. ap (λ (x : Replica). x.line) took.2) old.seats new.seats (last_of old.table.plan.lists) lost.tried.left borne.covers) half
        (ap (short_of Half new.seats) (sym borne.one) ∙ ap (λ (t : Table). short_of Half new.seats t.plan.lists) (sym (ap (λ (x : Opened). x.table) lost.is)) ∙ few)

    -- A change of places, where those that are added are seated.
    module _ (old : Opened) (asked : Asks) (borne : IsBorne old) (added : AreSeated (seats_added old asked)) where
      abbrev places : List Place
      places = last_of old.table.plan.lists

      abbrev list : List Place
      list = list_after asked places

      abbrev all : List Seat
      all = (both_of old asked).seats

      all_seated : AreSeated all
      all_seated s has = ⊎_elim (borne.seated s) (added s) (Contains-append_cases old.seats (seats_added old asked) s has)

      seat_all : (p : Place) → Contains places p ⊎ Contains (places_added asked) p → Contains (map place_of_seat all) p
      seat_all p (inl was) = (let s = unmapped place_of_seat old.seats p (borne.covers p was) in subst (λ (q : Place). Contains (map place_of_seat all) q) s.2 (mapped place_of_seat all s.0 (Contains-append_left old.seats (seats_added old asked) s.0 s.1)))
      seat_all p (inr new) =
          let s = unmapped place_of_seat (seats_added old asked) p (subst (λ (l : List Place). Contains l p) (sym (added_places old asked)) new) in
          subst (λ (q : Place). Contains (map place_of_seat all) q) s.2 (mapped place_of_seat all s.0 (Contains-append_right old.seats (seats_added old asked) s.0 s.1))

      list_all : Covers all list
      list_all p has = seat_all p (coming_of asked places p has)

      coming_seated : AreSeated (seats_in list all)
      coming_seated s has = all_seated s (in_filter (is_listed_in list) all s has).0

      coming_covers : Covers (seats_in list all) list
      coming_covers p has =
          let s = unmapped place_of_seat all p (list_all p has) in
          let in_list : is_listed_in list s.0 ≡ true = (among-true list s.0.place).1 (subst (λ (q : Place). Contains list q) (sym s.2) has) in
          subst (λ (q : Place). Contains (map place_of_seat (seats_in list all)) q) s.2 (mapped place_of_seat (seats_in list all) s.0 (keeps (is_listed_in list) all s.0 s.1 in_list))

      twice_kept : (r n : Replica) → TakesBoth calls host.drives old asked r n → n.line ≡ r.line
      twice_kept r n (m, one, two) = ap (λ (x : Replica). x.line) two.2 ∙ ap (λ (x : Replica). x.line) one.2

      pub moved_borne : (new : Opened) (clean : Bool) → IsMoved calls host.drives old asked new clean → IsBorne new
      moved_borne new clean is =
          let lists : new.table.plan.lists ≡ One list = ap (λ (x : Opened). x.table.plan.lists) is.is in
          record {
            one = lists ∙ ap (λ (l : Lists). One (last_of l)) (sym lists);
            seated = left_seated (till_wiped calls host.drives old asked) (λ drive some. some) (TakesBoth calls host.drives old asked) twice_kept (seats_in list all) new.seats is.left coming_seated;
            covers = subst (λ (l : Lists). Covers new.seats (last_of l)) (sym lists)
                (left_covers (till_wiped calls host.drives old asked) (λ drive some. some) (TakesBoth calls host.drives old asked) twice_kept (seats_in list all) new.seats list is.left coming_covers);
          }

      -- it doesn't tell that places were lost, where half of both lists, or more, lies on such drives
      pub lost_move_never : IsHalf places → IsHalf list → (active listed : ℕ) → IsLostChange calls host.drives old asked active listed → ⊥
      lost_move_never was comes active listed is = elim is.lost [
        | inl both ↦
            let lists = lists_after asked old.table.plan.lists in
            never_few is.new.seats lists share (left_seated calls (λ drive some. some) (TakesSlot _ _) (λ r n took. ap (λ (x : Replica). x.line) took.2) all is.new.seats both.left all_seated)
            (left_each calls (λ drive some. some) (TakesSlot _ _) (λ r n took. ap (λ (x : Replica). x.line) took.2) all is.new.seats lists both.left ((λ p has. seat_all p (inl has)), list_all)) (was, comes)
            (ap (λ (t : Table). short_of Half is.new.seats t.plan.lists) (sym (ap (λ (x : Opened). x.table) both.is)) ∙ both.few)
        | inr last ↦
            never_few is.new.seats (One list) share (left_seated calls (λ drive some. some) (TakesBoth calls host.drives old asked) twice_kept (seats_in list all) is.new.seats last.left coming_seated)
            (left_covers calls (λ drive some. some) (TakesBoth calls host.drives old asked) twice_kept (seats_in list all) is.new.seats list last.left coming_covers) comes
            (ap (λ (t : Table). short_of Half is.new.seats t.plan.lists) (sym (ap (λ (x : Opened). x.table) last.is)) ∙ last.few)
      ]
        where
          share : Share
          share = record { active = active; listed = listed }

-- half of a list's slices, or more, lie on such drives
pub half_of : (drives : Geometry) (name : List ℕ) (fresh : ℕ) (calm : ℕ → Bool) (list : List Place) → HalfLieOn drives name (λ (drive : DriveNo). calm drive.0 ≡ true) (slices_of list) → IsHalf (host_of drives name fresh) calm list
half_of drives name fresh calm list half = record {
  chosen = λ p. half.chosen p.slice;
  half = (let long = length-map list (λ (p : Place). p.slice) in let count = count_map half.chosen list in let least = half.half in omega (arith, long, count, least));
  each = λ p at is has. half.each p.slice at is (in_filter (is_line_of host.drives (key_of host)) host.drives.slices (record { name = p.slice; at = at }) has).0;
} where
  host : Host
  host = host_of drives name fresh
