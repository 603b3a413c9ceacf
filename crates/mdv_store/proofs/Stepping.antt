-- A pass, step by step: what has come of the places so far, of the moments and of the counts.
use Rattle.std.proofs.Common.{◌≡◌, ◌≢◌, ◌⊎◌, inl, inr, ℕ, zero, suc, ◌+◌, ◌-◌, ◌*◌, ◌<◌, ◌≤◌, List, [], ◌∷◌, ◌++◌, length, map, Contains, Option, None, Some, Result, Ok, Err, MatchOption, slice_index_or, refl, sym, ◌∙◌, ap, subst, append_assoc, append-nil, mul-add, mul-le-mul_left, arith}
use Rattle.std.specs.Prelude.{slice_get, slice_set}
use Rattle.std.specs.List.{cons_option}
use Rattle.std.proofs.lemmas.Bool.{cases_eq}
use Rattle.std.proofs.lemmas.Option.{get_or_from_slice_get, slice_get-get_or}
use Rattle.std.proofs.lemmas.List.{get_or_default, length-append, length-map, map-append}
use Rattle.std.proofs.lemmas.List.Elements.{Contains-append_right, filter_map-append}
use Rattle.mdv_base.specs.Causes.{RoseOnce}
use Rattle.mdv_base.specs.declared.drive.DriveNo.{DriveNo}
use Rattle.mdv_base.specs.declared.drive.Failed.{Failed}
use Rattle.mdv_shelf.specs.Between.{RoseByAtLeast}
use Rattle.mdv_shelf.specs.Calls.{OnDrive}
use Rattle.mdv_shelf.specs.Drives.{KeptAmong}
use Rattle.mdv_shelf.specs.Shelves.{AtEachTale, AtEnd, DriveFailures, KeptOn, MadeCalls}
use Rattle.mdv_shelf.proofs.Among.{among_none, among_then}
use Rattle.mdv_shelf.proofs.Between.{between_none, between_of, between_then, between_wider, rose_at_least}
use Rattle.mdv_shelf.proofs.Counts.{took_more}
use Rattle.mdv_shelf.proofs.Moments.{ends_more, moments_after, moments_end, moments_none}
use Rattle.mdv_store.specs.Below.{Ghosts, Replica}
use Rattle.mdv_store.specs.Counts.{ArePassCounted, MadeCallsBetween, different, drives_lost, drives_under}
use Rattle.mdv_store.specs.Passing.{AreThen, IsActiveAt, IsFailed, IsPassing, IsStep, IsStepAt, IsTaken, IsTried, IsWriteOf, Passed, WentBy, WentOver, Writing, begun, beside, left_on, lost, took}
use Rattle.mdv_store.specs.Passing as step
use Rattle.mdv_store.specs.Seats.{AreLeft, IsLeft, active_of, drive_of, drives_of, replicas_of}
use Rattle.mdv_store.specs.declared.seats.Seat.{Seat}
use Rattle.mdv_store.proofs.Losing.{as_many, lies_here, one_less, rose_less, rose_then}
use Rattle.mdv_store.proofs.Leaving.{IsSame, beside_is, due_is, inactive, left_append, left_fewer, left_here, left_length, left_lost, left_same, left_still}
use Rattle.mdv_store.proofs.Passing.{has_first}
use Rattle.mdv_store.proofs.Rows.{at_front, part_filter, part_length, set_front}

-- one place more, that has this replica or none
found_push : (done : List Seat) (s : Seat) (o : Option Replica) → s.replica ≡ o → replicas_of (done ++ s ∷ []) ≡ replicas_of done ++ cons_option o []
found_push done s o is = filter_map-append (λ (x : Seat). x.replica) done (s ∷ []) ∙ ap (λ (p : Option Replica). replicas_of done ++ cons_option p []) is

found_first : (s : Seat) (due : List Seat) (o : Option Replica) → s.replica ≡ o → replicas_of (s ∷ due) ≡ cons_option o (replicas_of due)
found_first s due o is = ap (λ (p : Option Replica). cons_option p (replicas_of due)) is

pushed_none : (done : List Seat) (s : Seat) → s.replica ≡ None → replicas_of (done ++ s ∷ []) ≡ replicas_of done
pushed_none done s is = found_push done s None is ∙ append-nil (replicas_of done)

count_push : (done : List Seat) (s : Seat) (r : Replica) → s.replica ≡ Some r → active_of (done ++ s ∷ []) ≡ active_of done + 1
count_push done s r is = ap (λ (rs : List Replica). length rs) (found_push done s (Some r) is) ∙ length-append (replicas_of done) (r ∷ [])

count_none : (done : List Seat) (s : Seat) → s.replica ≡ None → active_of (done ++ s ∷ []) ≡ active_of done
count_none done s is = ap (λ (rs : List Replica). length rs) (pushed_none done s is)

count_first : (s : Seat) (due : List Seat) (r : Replica) → s.replica ≡ Some r → active_of (s ∷ due) ≡ active_of due + 1
count_first s due r is = ap (λ (rs : List Replica). length rs) (found_first s due (Some r) is) ∙ omega arith

count_split : (xs ys : List Seat) → active_of (xs ++ ys) ≡ active_of xs + active_of ys
count_split xs ys = ap (λ (rs : List Replica). length rs) (filter_map-append (λ (x : Seat). x.replica) xs ys) ∙ length-append (replicas_of xs) (replicas_of ys)

count_left : (drive : DriveNo) (ns : List Seat) → active_of (map (left_on drive) ns) ≤ active_of ns
count_left drive ns =
    let same = ap (λ (rs : List Replica). length rs) (beside_is drive ns) in
    let below = part_length (beside drive (replicas_of ns)) (replicas_of ns) (part_filter _ (replicas_of ns)) in
    omega (arith, same, below)

-- the first of the places that are due
record First {S : Type 0} (shelf : Ghosts S) (old now : S) (behind due : List Seat) : Type 0 where
  o : Seat
  s : Seat
  rest : List Seat
  left : List Seat
  behind_is : behind ≡ o ∷ rest
  due_is : due ≡ s ∷ left
  here : IsLeft (DriveFailures shelf old now) IsSame o s
  others : AreLeft (DriveFailures shelf old now) IsSame rest left

first_of : {S : Type 0} (shelf : Ghosts S) (old now : S) (behind due : List Seat) → AreLeft (DriveFailures shelf old now) IsSame behind due → 0 < length due → First shelf old now behind due
first_of shelf old now [] [] left some = absurd (omega (arith, some))
first_of shelf old now [] (s ∷ due) left some = absurd left
first_of shelf old now (o ∷ behind) [] left some = absurd left
first_of shelf old now (o ∷ behind) (s ∷ due) left some = record { o = o; s = s; rest = behind; left = due; behind_is = refl; due_is = refl; here = left.0; others = left.1 }

none_due : {S : Type 0} (shelf : Ghosts S) (old now : S) (behind due : List Seat) → AreLeft (DriveFailures shelf old now) IsSame behind due → length due ≤ 0 → (behind ≡ []) × (due ≡ [])
none_due shelf old now [] [] left none = (refl, refl)
none_due shelf old now [] (s ∷ due) left none = absurd left
none_due shelf old now (o ∷ behind) [] left none = absurd left
none_due shelf old now (o ∷ behind) (s ∷ due) left none = absurd (omega (arith, none))

module _ {S : Type 0} (shelf : Ghosts S) (w : Writing) (old : S) (ss : List Seat) where
  -- These places were passed, and those are due.
  pub record Come (now : S) (before behind done due : List Seat) : Type 0 where
    pub ss_is : ss ≡ before ++ behind
    pub left_done : AreLeft (DriveFailures shelf old now) w.Took before done
    pub left_due : AreLeft (DriveFailures shelf old now) IsSame behind due
    pub moments : AtEachTale shelf (IsPassing w (replicas_of ss)) old now
    pub end : AtEnd shelf (λ t u. Passed w (replicas_of ss) t (replicas_of done) (replicas_of due) u) old now
    pub none : active_of before ≡ 0 → now ≡ old
    pub all : 0 < active_of before → active_of done + active_of due ≡ active_of ss → MadeCalls shelf old now (w.calls * active_of before) (w.blocks * active_of before)
    pub some : MadeCallsBetween shelf old now (w.calls * active_of done + drives_lost ss (done ++ due)) (w.calls * active_of before) (w.blocks * active_of before)
    pub wrote : RoseByAtLeast (w.blocks * active_of done + drives_lost ss (done ++ due)) (shelf.written old) (shelf.written now)
    pub kept : KeptAmong shelf old now (drives_of ss)

  pub record SoFar (now : S) (ns : List Seat) (index : ℕ) : Type 0 where
    pub before : List Seat
    pub behind : List Seat
    pub done : List Seat
    pub due : List Seat
    pub ns_is : ns ≡ done ++ due
    pub index_is : length done ≡ index
    pub come : Come now before behind done due

  pub so_far_none : SoFar old ss 0
  so_far_none = record {
    before = [];
    behind = ss;
    done = [];
    due = ss;
    ns_is = refl;
    index_is = refl;
    come = record {
      ss_is = refl;
      left_done = tt;
      left_due = left_same (DriveFailures shelf old old) (λ drive. refl) ss;
      moments = moments_none (IsPassing w (replicas_of ss)) (shelf.tale old) (shelf.tale old) refl (λ t. ([], replicas_of ss, begun));
      end = λ t is. (t, is, begun);
      none = λ zero. refl;
      all = λ some. absurd (omega (arith, some));
      some = between_wider shelf.calls shelf.written old old 0 0 0 (w.calls * 0 + drives_lost ss ss) (w.calls * 0) (w.blocks * 0) (omega arith) (omega arith) (omega arith) (between_none shelf.calls shelf.written old old 0 0 refl);
      wrote = rose_less 0 (w.blocks * 0 + drives_lost ss ss) (shelf.written old) (shelf.written old) (omega arith) (between_none shelf.written shelf.written old old 0 0 refl).at_least;
      kept = among_none shelf old (drives_of ss);
    };
  }

  count_all : (now : S) (before behind done due : List Seat) → Come now before behind done due → (active_of ss ≡ active_of before + active_of behind) × (active_of done ≤ active_of before) × (active_of due ≤ active_of behind)
  count_all now before behind done due come = (
    ap active_of come.ss_is ∙ count_split before behind,
    left_fewer (DriveFailures shelf old now) w.Took before done come.left_done,
    left_fewer (DriveFailures shelf old now) IsSame behind due come.left_due,
  )

  -- The place is passed over.
  module _ (now : S) (before rest done left : List Seat) (o s : Seat) (come : Come now before (o ∷ rest) done (s ∷ left)) (idle : s.replica ≡ None) where
    more_before : (p : Option Replica) → o.replica ≡ p → (active_of (before ++ o ∷ []) ≡ active_of before) ⊎ ((active_of (before ++ o ∷ []) ≡ active_of before + 1) × (active_of (o ∷ rest) ≡ active_of rest + 1))
    more_before None is = inl (count_none before o is)
    more_before (Some r) is = inr (count_push before o r is, count_first o rest r is)

    over_ss : ss ≡ (before ++ o ∷ []) ++ rest
    over_ss = come.ss_is ∙ sym (append_assoc before (o ∷ []) rest)

    over_done : active_of (done ++ s ∷ []) ≡ active_of done
    over_done = count_none done s idle

    over_due : active_of (s ∷ left) ≡ active_of left
    over_due = ap (λ (rs : List Replica). length rs) (found_first s left None idle)

    over_end : AtEnd shelf (λ t u. Passed w (replicas_of ss) t (replicas_of (done ++ s ∷ [])) (replicas_of left) u) old now
    over_end = subst (λ (rs : List Replica). AtEnd shelf (λ t u. Passed w (replicas_of ss) t rs (replicas_of left) u) old now) (sym (pushed_none done s idle))
        (subst (λ (rs : List Replica). AtEnd shelf (λ t u. Passed w (replicas_of ss) t (replicas_of done) rs u) old now) (found_first s left None idle) come.end)

    abbrev a : ℕ
    a = active_of (before ++ o ∷ [])

    no_fewer : (active_of before ≤ a) × ((a ≡ active_of before) ⊎ (active_of done + active_of left < active_of ss))
    no_fewer = elim (more_before o.replica refl) [
      | inl same ↦ (omega (arith, same), inl same)
      | inr more ↦
          let counts = count_all now before (o ∷ rest) done (s ∷ left) come in
          let fewer = left_fewer (DriveFailures shelf old now) IsSame rest left come.left_due.1 in
          (omega (arith, more.0), inr (omega (arith, more.0, more.1, counts.0, counts.1, fewer)))
    ]

    over_all : (a ≡ active_of before) ⊎ (active_of done + active_of left < active_of ss) → 0 < a → active_of (done ++ s ∷ []) + active_of left ≡ active_of ss → MadeCalls shelf old now (w.calls * a) (w.blocks * a)
    over_all (inl same) some every =
        subst (λ (n : ℕ). MadeCalls shelf old now (w.calls * n) (w.blocks * n)) (sym same) (come.all (omega (arith, same, some)) (omega (arith, every, over_done, over_due)))
    over_all (inr fewer) some every = absurd (omega (arith, fewer, every, over_done))

    over_drives : drives_lost ss ((done ++ s ∷ []) ++ left) ≡ drives_lost ss (done ++ s ∷ left)
    over_drives = ap (drives_lost ss) (append_assoc done (s ∷ []) left)

    pub passed_over : Come now (before ++ o ∷ []) rest (done ++ s ∷ []) left
    passed_over = record {
      ss_is = over_ss;
      left_done = left_append (DriveFailures shelf old now) w.Took before done o s come.left_done (inactive (DriveFailures shelf old now) w.Took o s idle come.left_due.0);
      left_due = come.left_due.1;
      moments = come.moments;
      end = over_end;
      none = λ zero. come.none (omega (arith, zero, no_fewer.0));
      all = over_all no_fewer.1;
      some =
          let more_calls = mul-le-mul_left w.calls no_fewer.0 in
          let more_blocks = mul-le-mul_left w.blocks no_fewer.0 in
          let same_calls = ap (λ (n : ℕ). w.calls * n) over_done in
          between_wider shelf.calls shelf.written old now (w.calls * active_of done + drives_lost ss (done ++ s ∷ left)) (w.calls * active_of before) (w.blocks * active_of before)
          (w.calls * active_of (done ++ s ∷ []) + drives_lost ss ((done ++ s ∷ []) ++ left)) (w.calls * a) (w.blocks * a)
          (omega (arith, over_drives, same_calls)) (omega (arith, more_calls)) (omega (arith, more_blocks)) come.some;
      wrote =
          let same_blocks = ap (λ (n : ℕ). w.blocks * n) over_done in
          rose_less (w.blocks * active_of done + drives_lost ss (done ++ s ∷ left)) (w.blocks * active_of (done ++ s ∷ []) + drives_lost ss ((done ++ s ∷ []) ++ left)) (shelf.written old) (shelf.written now)
          (omega (arith, over_drives, same_blocks)) come.wrote;
      kept = come.kept;
    }

  -- The place has a replica, which is written to.
  module _ (stays : (r n : Replica) → w.Took r n → drive_of n ≡ drive_of r) (now next : S) (before rest done left : List Seat) (o s : Seat) (r : Replica) (come : Come now before (o ∷ rest) done (s ∷ left)) (some : s.replica ≡ Some r)
      (moments : AtEachTale shelf (w.Goes r) now next) (kept : KeptOn shelf now next (OnDrive (drive_of r))) where
    was : (o.replica ≡ Some r) × (DriveFailures shelf old now (drive_of r)).none
    was = due_is (DriveFailures shelf old now) o s r some come.left_due.0

    begun_at : AtEnd shelf (λ t u. Passed w (replicas_of ss) t (replicas_of done) (r ∷ replicas_of left) u) old now
    begun_at = subst (λ (rs : List Replica). AtEnd shelf (λ t u. Passed w (replicas_of ss) t (replicas_of done) rs u) old now) (found_first s left (Some r) some) come.end

    in_ss : Contains (replicas_of ss) r
    in_ss =
        let there : Contains (replicas_of (o ∷ rest)) r = subst (λ (rs : List Replica). Contains rs r) (sym (found_first o rest (Some r) was.0)) (has_first r (replicas_of rest)) in
        subst (λ (rs : List Replica). Contains rs r) (sym (ap replicas_of come.ss_is ∙ filter_map-append (λ (x : Seat). x.replica) before (o ∷ rest)))
        (Contains-append_right (replicas_of before) (replicas_of (o ∷ rest)) r there)

    has_drive : (rs : List Replica) → Contains rs r → Contains (map (λ (x : Replica). x.line.at.drive) rs) r.line.at.drive
    has_drive rs has = (has.0, (let long = length-map rs (λ (x : Replica). x.line.at.drive) in omega (arith, long, has.1)), drive_at rs has.0 r ∙ ap (λ (x : Replica). x.line.at.drive) has.2)
      where
        drive_at : (xs : List Replica) (k : ℕ) (d : Replica) → slice_index_or (map (λ (x : Replica). x.line.at.drive) xs) k d.line.at.drive ≡ (slice_index_or xs k d).line.at.drive
        drive_at [] k d = refl
        drive_at (x ∷ xs) zero d = refl
        drive_at (x ∷ xs) (suc k) d = drive_at xs k d

    tried_kept : KeptAmong shelf old next (drives_of ss)
    tried_kept = among_then shelf old now next (drives_of ss) r.line.at.drive (has_drive (replicas_of ss) in_ss) was.1 come.kept kept

    tried_moments : AtEachTale shelf (IsPassing w (replicas_of ss)) old next
    tried_moments =
        moments_after (IsPassing w (replicas_of ss)) (λ t u. Passed w (replicas_of ss) t (replicas_of done) (r ∷ replicas_of left) u) (w.Goes r) (IsPassing w (replicas_of ss)) (shelf.tale old) (shelf.tale now) (shelf.tale next)
        (λ t m is. is) (λ t u m passed goes. (beside r.line.at.drive (replicas_of done), beside r.line.at.drive (replicas_of left), lost (replicas_of done) (replicas_of left) r u m passed goes)) come.moments begun_at moments

    tried_ss : ss ≡ (before ++ o ∷ []) ++ rest
    tried_ss = come.ss_is ∙ sym (append_assoc before (o ∷ []) rest)

    count_o : active_of (before ++ o ∷ []) ≡ active_of before + 1
    count_o = count_push before o r was.0

    others_still : (drive : ℕ) → drive ≢ drive_of r → shelf.faults next (OnDrive drive) ≡ shelf.faults now (OnDrive drive)
    others_still drive apart = kept.others (OnDrive drive) (λ e. apart (cc (e)))

    tried_none : active_of (before ++ o ∷ []) ≡ 0 → next ≡ old
    tried_none nothing = absurd (omega (arith, nothing, count_o))

    times : (c : ℕ) → c * active_of (before ++ o ∷ []) ≡ c * active_of before + c
    times c = ap (λ (n : ℕ). c * n) count_o ∙ mul-add c (active_of before) 1 ∙ omega arith

    -- the replicas that are done or due
    these : replicas_of (done ++ s ∷ left) ≡ replicas_of done ++ r ∷ replicas_of left
    these = filter_map-append (λ (x : Seat). x.replica) done (s ∷ left) ∙ ap (λ (rs : List Replica). replicas_of done ++ rs) (found_first s left (Some r) some)

    -- it took that
    module _ (n : Replica) (is : IsTaken shelf w now next r n) where
      abbrev x : Seat
      x = record s { replica = Some n }

      all_still : (drive : ℕ) → shelf.faults next (OnDrive drive) ≡ shelf.faults now (OnDrive drive)
      all_still drive = elim (cases_eq drive (drive_of r)) [
        | inl same ↦ subst (λ (d : ℕ). shelf.faults next (OnDrive d) ≡ shelf.faults now (OnDrive d)) (sym same) is.calm
        | inr apart ↦ others_still drive apart
      ]

      abbrev counted : S → ℕ → ℕ
      counted at drive = shelf.faults at (OnDrive drive)

      left_x : IsLeft (DriveFailures shelf old next) w.Took o x
      left_x = (
        come.left_due.0.0,
        subst (λ (p : Option Replica). MatchOption p (Some n ≡ None) (λ (q : Replica). (DriveFailures shelf old next (drive_of q)).none × w.Took q n)) (sym was.0) (all_still (drive_of r) ∙ was.1, is.took),
      )

      count_x : active_of (done ++ x ∷ []) ≡ active_of done + 1
      count_x = count_push done x n refl

      count_s : active_of (s ∷ left) ≡ active_of left + 1
      count_s = count_first s left r some

      taken_times : (c : ℕ) → c * active_of (done ++ x ∷ []) ≡ c * active_of done + c
      taken_times c = ap (λ (k : ℕ). c * k) count_x ∙ mul-add c (active_of done) 1 ∙ omega arith

      taken_drives : drives_lost ss ((done ++ x ∷ []) ++ left) ≡ drives_lost ss (done ++ s ∷ left)
      taken_drives = ap (λ (k : ℕ). drives_under ss - k)
          (ap drives_under (append_assoc done (x ∷ []) left) ∙ ap (λ (rs : List Replica). different (map drive_of rs)) (filter_map-append (λ (y : Seat). y.replica) done (x ∷ left))
          ∙ as_many (replicas_of done) (replicas_of left) r n (stays r n is.took) ∙ ap (λ (rs : List Replica). different (map drive_of rs)) (sym these))

      taken_end : AtEnd shelf (λ t u. Passed w (replicas_of ss) t (replicas_of (done ++ x ∷ [])) (replicas_of left) u) old next
      taken_end = subst (λ (rs : List Replica). AtEnd shelf (λ t u. Passed w (replicas_of ss) t rs (replicas_of left) u) old next) (sym (found_push done x (Some n) refl))
          (ends_more (λ t u. Passed w (replicas_of ss) t (replicas_of done) (r ∷ replicas_of left) u) (w.Ends r n) (λ t u. Passed w (replicas_of ss) t (replicas_of done ++ n ∷ []) (replicas_of left) u) (shelf.tale old) (shelf.tale now) (shelf.tale next)
          (λ t u v passed ends. took (replicas_of done) (replicas_of left) r n u v passed is.took ends) begun_at is.end)

      taken_calls : (active_of before ≡ 0) ⊎ (0 < active_of before) → active_of (done ++ x ∷ []) + active_of left ≡ active_of ss
          → MadeCalls shelf old next (w.calls * active_of (before ++ o ∷ [])) (w.blocks * active_of (before ++ o ∷ []))
      taken_calls (inl nothing) every =
          let one : active_of (before ++ o ∷ []) ≡ 1 = count_o ∙ omega (arith, nothing) in
          let calls : w.calls ≡ w.calls * active_of (before ++ o ∷ []) = sym (ap (λ (k : ℕ). w.calls * k) one ∙ omega arith) in
          let blocks : w.blocks ≡ w.blocks * active_of (before ++ o ∷ []) = sym (ap (λ (k : ℕ). w.blocks * k) one ∙ omega arith) in
          subst (λ (k : ℕ). MadeCalls shelf old next k (w.blocks * active_of (before ++ o ∷ []))) calls
          (subst (λ (k : ℕ). MadeCalls shelf old next w.calls k) blocks (subst (λ (a : S). MadeCalls shelf a next w.calls w.blocks) (come.none nothing) is.made))
      taken_calls (inr more) every =
          took_more shelf.calls shelf.written old now next (w.calls * active_of before) w.calls (w.blocks * active_of before) w.blocks (w.calls * active_of (before ++ o ∷ [])) (w.blocks * active_of (before ++ o ∷ []))
          (sym (times w.calls)) (sym (times w.blocks)) (come.all more (omega (arith, every, count_x, count_s))) is.made

      pub come_taken : Come next (before ++ o ∷ []) rest (done ++ x ∷ []) left
      come_taken = record {
        ss_is = tried_ss;
        left_done = left_append (DriveFailures shelf old next) w.Took before done o x (left_still (counted old) w.Took (counted now) (counted next) before done all_still come.left_done) left_x;
        left_due = left_still (counted old) IsSame (counted now) (counted next) rest left all_still come.left_due.1;
        moments = tried_moments;
        end = taken_end;
        none = tried_none;
        all = λ more every. taken_calls (none_or (active_of before)) every;
        some =
            let calls = times w.calls in
            let blocks = times w.blocks in
            let calls_taken = taken_times w.calls in
            between_then shelf.calls shelf.written old now next (w.calls * active_of done + drives_lost ss (done ++ s ∷ left)) (w.calls * active_of before) (w.blocks * active_of before)
            w.calls w.calls w.blocks
            (w.calls * active_of (done ++ x ∷ []) + drives_lost ss ((done ++ x ∷ []) ++ left)) (w.calls * active_of (before ++ o ∷ [])) (w.blocks * active_of (before ++ o ∷ []))
            (omega (arith, calls_taken, taken_drives)) (omega (arith, calls)) (omega (arith, blocks)) come.some
            (between_of shelf.calls shelf.written now next w.calls w.blocks w.calls w.calls w.blocks (omega arith) (omega arith) (omega arith) is.made);
        wrote =
            let blocks_taken = taken_times w.blocks in
            rose_then (w.blocks * active_of done + drives_lost ss (done ++ s ∷ left)) w.blocks (w.blocks * active_of (done ++ x ∷ []) + drives_lost ss ((done ++ x ∷ []) ++ left)) (shelf.written old) (shelf.written now) (shelf.written next)
            (omega (arith, blocks_taken, taken_drives)) come.wrote (rose_at_least w.blocks w.blocks (shelf.written now) (shelf.written next) (omega arith) is.made.in_blocks);
        kept = tried_kept;
      }
        where
          none_or : (k : ℕ) → (k ≡ 0) ⊎ (0 < k)
          none_or zero = inl refl
          none_or (suc k) = inr (omega arith)

    -- its drive is left
    module _ (wrote : RoseByAtLeast 1 (shelf.written now) (shelf.written next)) (is : IsFailed shelf w now next r) where
      abbrev drive : DriveNo
      drive = r.line.at.drive

      abbrev counted_at : S → ℕ → ℕ
      counted_at at d = shelf.faults at (OnDrive d)

      failed_now : RoseOnce (shelf.faults old (OnDrive drive.0)) (shelf.faults next (OnDrive drive.0))
      failed_now = subst (λ (k : ℕ). RoseOnce k (shelf.faults next (OnDrive drive.0))) was.1 is.failed

      none_left : (left_on drive s).replica ≡ None
      none_left = ap (step.unless_on drive) some ∙ left_here r

      left_s : IsLeft (DriveFailures shelf old next) w.Took o (left_on drive s)
      left_s = (
        come.left_due.0.0,
        subst (λ (p : Option Replica). MatchOption p ((left_on drive s).replica ≡ None) (λ (q : Replica). MatchOption (left_on drive s).replica (DriveFailures shelf old next (drive_of q)).some (λ (n : Replica). (DriveFailures shelf old next (drive_of q)).none × w.Took q n))) (sym was.0)
            (subst (λ (p : Option Replica). MatchOption p (DriveFailures shelf old next (drive_of r)).some (λ (n : Replica). (DriveFailures shelf old next (drive_of r)).none × w.Took r n)) (sym none_left) failed_now),
      )

      abbrev gone : List Seat
      gone = map (left_on drive) done ++ left_on drive s ∷ []

      count_gone : active_of gone ≤ active_of done
      count_gone =
          let same = count_none (map (left_on drive) done) (left_on drive s) none_left in
          let below = count_left drive done in
          omega (arith, same, below)

      -- one drive more is left
      one_drive : drives_under (gone ++ map (left_on drive) left) + 1 ≡ drives_under (done ++ s ∷ left)
      one_drive =
          let there : Contains (replicas_of (done ++ s ∷ left)) r = subst (λ (rs : List Replica). Contains rs r) (sym these) (Contains-append_right (replicas_of done) (r ∷ replicas_of left) r (has_first r (replicas_of left))) in
          ap (λ (l : List Seat). drives_under l + 1) (append_assoc (map (left_on drive) done) (left_on drive s ∷ []) (map (left_on drive) left) ∙ sym (map-append (left_on drive) done (s ∷ left)))
          ∙ ap (λ (rs : List Replica). different (map drive_of rs) + 1) (beside_is drive (done ++ s ∷ left)) ∙ one_less drive (replicas_of (done ++ s ∷ left)) (lies_here (replicas_of (done ++ s ∷ left)) r there)

      lost_end : AtEnd shelf (λ t u. Passed w (replicas_of ss) t (replicas_of gone) (replicas_of (map (left_on drive) left)) u) old next
      lost_end = subst (λ (rs : List Replica). AtEnd shelf (λ t u. Passed w (replicas_of ss) t rs (replicas_of (map (left_on drive) left)) u) old next)
          (sym (pushed_none (map (left_on drive) done) (left_on drive s) none_left ∙ beside_is drive done))
          (subst (λ (rs : List Replica). AtEnd shelf (λ t u. Passed w (replicas_of ss) t (beside drive (replicas_of done)) rs u) old next) (sym (beside_is drive left))
          (ends_more (λ t u. Passed w (replicas_of ss) t (replicas_of done) (r ∷ replicas_of left) u) (w.Goes r) (λ t u. Passed w (replicas_of ss) t (beside drive (replicas_of done)) (beside drive (replicas_of left)) u) (shelf.tale old) (shelf.tale now) (shelf.tale next)
          (λ t u v passed goes. lost (replicas_of done) (replicas_of left) r u v passed goes) begun_at (moments_end (w.Goes r) (shelf.tale now) (shelf.tale next) moments)))

      fewer_now : active_of gone + active_of (map (left_on drive) left) < active_of ss
      fewer_now =
          let counts = count_all now before (o ∷ rest) done (s ∷ left) come in
          let due = count_first s left r some in
          let below = count_left drive left in
          omega (arith, counts.0, counts.1, counts.2, due, below, count_gone)

      pub come_lost : Come next (before ++ o ∷ []) rest gone (map (left_on drive) left)
      come_lost = record {
        ss_is = tried_ss;
        left_done = left_append (DriveFailures shelf old next) w.Took before (map (left_on drive) done) o (left_on drive s)
            (left_lost (counted_at old) w.Took stays (counted_at now) (counted_at next) drive failed_now others_still before done come.left_done) left_s;
        left_due = left_lost (counted_at old) IsSame (λ p q same. ap drive_of same) (counted_at now) (counted_at next) drive failed_now others_still rest left come.left_due.1;
        moments = tried_moments;
        end = lost_end;
        none = tried_none;
        all = λ more every. absurd (omega (arith, fewer_now, every));
        some =
            let calls = times w.calls in
            let blocks = times w.blocks in
            let fewer_calls = mul-le-mul_left w.calls count_gone in
            between_then shelf.calls shelf.written old now next (w.calls * active_of done + drives_lost ss (done ++ s ∷ left)) (w.calls * active_of before) (w.blocks * active_of before)
            1 w.calls w.blocks
            (w.calls * active_of gone + drives_lost ss (gone ++ map (left_on drive) left)) (w.calls * active_of (before ++ o ∷ [])) (w.blocks * active_of (before ++ o ∷ []))
            (omega (arith, fewer_calls, one_drive)) (omega (arith, calls)) (omega (arith, blocks)) come.some is.made;
        wrote =
            let fewer_blocks = mul-le-mul_left w.blocks count_gone in
            rose_then (w.blocks * active_of done + drives_lost ss (done ++ s ∷ left)) 1 (w.blocks * active_of gone + drives_lost ss (gone ++ map (left_on drive) left)) (shelf.written old) (shelf.written now) (shelf.written next)
            (omega (arith, fewer_blocks, one_drive)) come.wrote wrote;
        kept = tried_kept;
      }

  -- One step of the pass.
  module _ (stays : (r n : Replica) → w.Took r n → drive_of n ≡ drive_of r) (now next : S) (ns later : List Seat) (index : ℕ) (so : SoFar now ns index) (within : index < length ns) (one : IsStep shelf w now next ns index later) where
    first : First shelf old now so.behind so.due
    first =
        let long = ap length so.ns_is ∙ length-append so.done so.due in
        first_of shelf old now so.behind so.due so.come.left_due (omega (arith, long, within, so.index_is))

    abbrev here : Seat
    here = first.s

    ns_split : ns ≡ so.done ++ here ∷ first.left
    ns_split = so.ns_is ∙ ap (λ (l : List Seat). so.done ++ l) first.due_is

    come_here : Come now so.before (first.o ∷ first.rest) so.done (here ∷ first.left)
    come_here = subst (λ (l : List Seat). Come now so.before l so.done (here ∷ first.left)) first.behind_is (subst (λ (l : List Seat). Come now so.before so.behind so.done l) first.due_is so.come)

    here_at : slice_get ns index ≡ Some here
    here_at = ap (λ (l : List Seat). slice_get l index) ns_split ∙ ap (λ (i : ℕ). slice_get (so.done ++ here ∷ first.left) i) (sym so.index_is) ∙ at_front so.done first.left here

    next_index : (s : Seat) (done : List Seat) → length done ≡ index → length (done ++ s ∷ []) ≡ index + 1
    next_index s done is = length-append done (s ∷ []) ∙ ap (λ (i : ℕ). i + 1) is

    came : (r : Replica) → here.replica ≡ Some r → (result : Result Replica Failed) → IsWriteOf shelf w now next r result → AreThen ns index later here r result → SoFar next later (index + 1)
    came r some (Ok n) is later_is = record {
      before = so.before ++ first.o ∷ [];
      behind = first.rest;
      done = so.done ++ record here { replica = Some n } ∷ [];
      due = first.left;
      ns_is = later_is ∙ ap (λ (l : List Seat). slice_set l index (record here { replica = Some n })) ns_split
          ∙ ap (λ (i : ℕ). slice_set (so.done ++ here ∷ first.left) i (record here { replica = Some n })) (sym so.index_is)
          ∙ set_front so.done first.left here (record here { replica = Some n }) ∙ sym (append_assoc so.done (record here { replica = Some n } ∷ []) first.left);
      index_is = next_index (record here { replica = Some n }) so.done so.index_is;
      come = come_taken stays now next so.before first.rest so.done first.left first.o here r come_here some is.moments is.kept n is.came;
    }
    came r some (Err fault) is later_is =
        let drive = r.line.at.drive in
        record {
          before = so.before ++ first.o ∷ [];
          behind = first.rest;
          done = map (left_on drive) so.done ++ left_on drive here ∷ [];
          due = map (left_on drive) first.left;
          ns_is = later_is ∙ ap (map (left_on drive)) ns_split ∙ map-append (left_on drive) so.done (here ∷ first.left) ∙ sym (append_assoc (map (left_on drive) so.done) (left_on drive here ∷ []) (map (left_on drive) first.left));
          index_is = next_index (left_on drive here) (map (left_on drive) so.done) (length-map so.done (left_on drive) ∙ so.index_is);
          come = come_lost stays now next so.before first.rest so.done first.left first.o here r come_here some is.moments is.kept is.wrote is.came;
        }

    stepped : (p : Option Replica) → here.replica ≡ p → IsStepAt shelf w now next ns index later here p → SoFar next later (index + 1)
    stepped None idle same =
        subst (λ (x : S). SoFar x later (index + 1)) (sym same.0) (subst (λ (l : List Seat). SoFar now l (index + 1)) (sym same.1) (record {
          before = so.before ++ first.o ∷ [];
          behind = first.rest;
          done = so.done ++ here ∷ [];
          due = first.left;
          ns_is = ns_split ∙ sym (append_assoc so.done (here ∷ []) first.left);
          index_is = next_index here so.done so.index_is;
          come = passed_over now so.before first.rest so.done first.left first.o here come_here idle;
        }))
    stepped (Some r) some tried = came r some tried.result tried.written tried.left

    pub so_far_more : SoFar next later (index + 1)
    so_far_more = stepped here.replica refl (one here here_at)

  -- as many places as there were
  pub so_far_length : (now : S) (ns : List Seat) (index : ℕ) → SoFar now ns index → length ns ≡ length ss
  so_far_length now ns index so =
      let front = left_length (DriveFailures shelf old now) w.Took so.before so.done so.come.left_done in
      let back = left_length (DriveFailures shelf old now) IsSame so.behind so.due so.come.left_due in
      let new = ap length so.ns_is ∙ length-append so.done so.due in
      let all = ap length so.come.ss_is ∙ length-append so.before so.behind in
      omega (arith, front, back, new, all)

  -- a replica that is due is one of those at the start
  pub so_far_active : (now : S) (ns : List Seat) (index : ℕ) → SoFar now ns index → (r : Replica) → IsActiveAt ns index r → Contains (replicas_of ss) r
  so_far_active now ns index so r active =
      let long = ap length so.ns_is ∙ length-append so.done so.due in
      let within = get_within ns index active.0 active.1 in
      let first = first_of shelf old now so.behind so.due so.come.left_due (omega (arith, long, within, so.index_is)) in
      let split = so.ns_is ∙ ap (λ (l : List Seat). so.done ++ l) first.due_is in
      let there : slice_get ns index ≡ Some first.s =
      ap (λ (l : List Seat). slice_get l index) split ∙ ap (λ (i : ℕ). slice_get (so.done ++ first.s ∷ first.left) i) (sym so.index_is) ∙ at_front so.done first.left first.s in
      let same : active.0 ≡ first.s = some_one active.0 first.s (sym active.1 ∙ there) in
      let was = due_is (DriveFailures shelf old now) first.o first.s r (ap (λ (s : Seat). s.replica) (sym same) ∙ active.2) first.here in
      let mine : Contains (replicas_of (first.o ∷ first.rest)) r = subst (λ (rs : List Replica). Contains rs r) (sym (found_first first.o first.rest (Some r) was.0)) (has_first r (replicas_of first.rest)) in
      subst (λ (rs : List Replica). Contains rs r) (sym (ap replicas_of (so.come.ss_is ∙ ap (λ (l : List Seat). so.before ++ l) first.behind_is) ∙ filter_map-append (λ (x : Seat). x.replica) so.before (first.o ∷ first.rest)))
      (Contains-append_right (replicas_of so.before) (replicas_of (first.o ∷ first.rest)) r mine)
    where
      get_within : (l : List Seat) (i : ℕ) (s : Seat) → slice_get l i ≡ Some s → i < length l
      get_within [] i s is = absurd (cc (is))
      get_within (x ∷ l) zero s is = omega arith
      get_within (x ∷ l) (suc i) s is = (let below = get_within l i s is in omega (arith, below))

      some_one : (a b : Seat) → Some a ≡ Some b → a ≡ b
      some_one a b is = cc (is)

  -- Behind the last place.
  module _ (now : S) (ns : List Seat) (index : ℕ) (so : SoFar now ns index) (over : length ns ≤ index) where
    nothing_due : (so.behind ≡ []) × (so.due ≡ [])
    nothing_due =
        let long = ap length so.ns_is ∙ length-append so.done so.due in
        none_due shelf old now so.behind so.due so.come.left_due (omega (arith, long, over, so.index_is))

    all_before : ss ≡ so.before
    all_before = so.come.ss_is ∙ ap (λ (l : List Seat). so.before ++ l) nothing_due.0 ∙ append-nil so.before

    all_done : ns ≡ so.done
    all_done = so.ns_is ∙ ap (λ (l : List Seat). so.done ++ l) nothing_due.1 ∙ append-nil so.done

    come_over : Come now ss [] ns []
    come_over =
        subst (λ (l : List Seat). Come now l [] ns []) (sym all_before) (subst (λ (l : List Seat). Come now so.before [] l []) (sym all_done)
        (subst (λ (l : List Seat). Come now so.before [] so.done l) nothing_due.1 (subst (λ (l : List Seat). Come now so.before l so.done so.due) nothing_due.0 so.come)))

    pub whole_left : AreLeft (DriveFailures shelf old now) w.Took ss ns
    whole_left = come_over.left_done

    pub whole_end : AtEnd shelf (λ t u. Passed w (replicas_of ss) t (replicas_of ns) [] u) old now
    whole_end = come_over.end

    whole_counted : ArePassCounted shelf old now w.calls w.blocks ss ns
    whole_counted = record {
      none = come_over.none;
      all = λ some every. come_over.all some (omega (arith, every));
      some =
          subst (λ (l : List Seat). MadeCallsBetween shelf old now (w.calls * active_of ns + drives_lost ss l) (w.calls * active_of ss) (w.blocks * active_of ss)) (append-nil ns) come_over.some;
      wrote = subst (λ (l : List Seat). RoseByAtLeast (w.blocks * active_of ns + drives_lost ss l) (shelf.written old) (shelf.written now)) (append-nil ns) come_over.wrote;
    }

    index_over : index ≡ length ss
    index_over =
        let long = ap length so.ns_is ∙ length-append so.done so.due in
        let same = so_far_length now ns index so in
        omega (arith, long, same, over, so.index_is)

    pub whole_over : WentBy shelf w old ss index now ns → WentOver shelf w old now ss ns
    whole_over steps = record { steps = subst (λ (k : ℕ). WentBy shelf w old ss k now ns) index_over steps; counted = whole_counted }

-- What was written to the replica at the place of this number, as the list was read there, and what became of the list.
module _ {S : Type 0} (shelf : Ghosts S) (w : Writing) (old new : S) (before now read : List Seat) (index : ℕ) (one other : Seat) (r : Replica) (within : index < length before) (same : read ≡ before)
    (some : (slice_index_or read index other).replica ≡ Some r) where
  abbrev d : Seat
  d = slice_index_or read index other

  read_is : d ≡ slice_index_or before index d
  read_is = ap (λ (l : List Seat). slice_index_or l index other) same ∙ get_or_default before index other d within

  at_here : (s : Seat) → d ≡ s → IsTried shelf w old new before index now d r → IsStepAt shelf w old new before index now s s.replica
  at_here s here tried = subst (λ (x : Seat). IsStepAt shelf w old new before index now x x.replica) here (subst (λ (p : Option Replica). IsStepAt shelf w old new before index now d p) (sym some) tried)

  here_is : (s : Seat) → slice_get before index ≡ Some s → d ≡ s
  here_is s at = read_is ∙ get_or_from_slice_get before index s d at

  one_place : (n : Replica) → record { place = (slice_index_or read index one).place; replica = Some n } ≡ record d { replica = Some n }
  one_place n = ap (λ (s : Seat). record s { replica = Some n }) (get_or_default read index one other (subst (λ (l : List Seat). index < length l) (sym same) within))

  pub step_taken : (n : Replica) → IsWriteOf {E = Failed} shelf w old new r (Ok n) → now ≡ slice_set before index (record { place = (slice_index_or read index one).place; replica = Some n }) → IsStep shelf w old new before index now
  step_taken n is set s at = at_here s (here_is s at) (record { result = Ok n; written = is; left = set ∙ ap (λ (x : Seat). slice_set before index x) (one_place n) })

  pub step_failed : (fault : Failed) → IsWriteOf shelf w old new r (Err fault) → now ≡ map (left_on r.line.at.drive) before → IsStep shelf w old new before index now
  step_failed fault is left s at = at_here s (here_is s at) (record { result = Err fault; written = is; left = left })

  pub active_here : IsActiveAt before index r
  active_here = (d, slice_get-get_or before index d within ∙ ap (λ (s : Seat). Some s) (sym read_is), some)
