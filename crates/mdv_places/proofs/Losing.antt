-- Which drives are lost behind a record, and behind several stretches of calls.
use Rattle.std.proofs.Common.{◌≡◌, ◌⊎◌, inl, inr, ◌<◌, ◌≤◌, ◌&&◌, ◌||◌, ℕ, zero, suc, Bool, true, false, List, [], ◌∷◌, ◌++◌, Contains, Option, None, Some, length, slice_index_or, refl, sym, ◌∙◌, ap, subst, arith}
use Rattle.std.proofs.lemmas.Bool.{cases_lt}
use Rattle.std.proofs.lemmas.List.Elements.{Contains-append_cases, Contains-append_left, Contains-push}
use Rattle.std.specs.Bool.{MatchBool}
use Rattle.std.specs.Prelude.{Result, not, replicate}
use Rattle.mdv_acts.proofs.Members.{first_or_behind}
use Rattle.mdv_acts.specs.Wipes.{AreLostBy}
use Rattle.mdv_base.specs.Causes.{RoseOnce, failures_of}
use Rattle.mdv_base.specs.DriveSet.{Drives, has_drive, no_drives}
use Rattle.mdv_look.proofs.Among.{is_one_of}
use Rattle.mdv_look.proofs.Bringing.{is_drive, one_number, same_drive}
use Rattle.mdv_shelf.specs.Calls.{OnDrive}
use Rattle.mdv_shelf.specs.Shelves.{DriveFailures}
use Rattle.mdv_store.proofs.Marks.{slot_stays}
use Rattle.mdv_store.proofs.Passes.{left_calm, left_told, mapped, unmapped}
use Rattle.mdv_store.proofs.Sitting.{replica_of, seat_of}
use Rattle.mdv_store.specs.Listing.{WasListed}
use Rattle.mdv_store.specs.Writing.{text_size}
use Rattle.mdv_places.specs.Below.{AreLaid, AreLeft, DriveNo, Failures, Ghosts, Opened, PlaceAt, Replica, Seat, Share, TakesSlot, drives_of, next_mark, replicas_of}
use Rattle.mdv_places.specs.Losing.{AreApart, AreDrivesOf, AreLost, AreMissed, AreNumbered, HasJoined}

pub no_both : (b : Bool) → b ≡ true → b ≡ false → ⊥
no_both b so not_so = cc (so, not_so)

pub either_is : (b : Bool) → (b ≡ true) ⊎ (b ≡ false)
either_is true = inl refl
either_is false = inr refl

-- The drives of active places.
abbrev pub drive_under : Replica → DriveNo
drive_under r = r.line.at.drive

pub drive_in : (seats : List Seat) (r : Replica) → Contains (replicas_of seats) r → Contains (drives_of seats) (drive_under r)
drive_in seats r has = mapped drive_under (replicas_of seats) r has

on_true : (set : Drives) (seats : List Seat) → AreDrivesOf set seats → (d : DriveNo) → has_drive set d ≡ true → Contains (drives_of seats) d
on_true set seats are d is = subst (λ (b : Bool). MatchBool b (Contains (drives_of seats) d) (Contains (drives_of seats) d → ⊥)) is (are d)

on_false : (set : Drives) (seats : List Seat) → AreDrivesOf set seats → (d : DriveNo) → has_drive set d ≡ false → Contains (drives_of seats) d → ⊥
on_false set seats are d is = subst (λ (b : Bool). MatchBool b (Contains (drives_of seats) d) (Contains (drives_of seats) d → ⊥)) is (are d)

just : (b : Bool) (X : Type 0) → (b ≡ true → X) → (b ≡ false → X → ⊥) → MatchBool b X (X → ⊥)
just true X some none = some refl
just false X some none = none refl

pub none_in : (n k : ℕ) → slice_index_or (replicate n false) k false ≡ false
none_in zero k = refl
none_in (suc n) zero = refl
none_in (suc n) (suc k) = none_in n k

-- one place more
module _ (seats : List Seat) (s : Seat) where
  was_in : (d : DriveNo) → Contains (drives_of seats) d → Contains (drives_of (seats ++ s ∷ [])) d
  was_in d has =
      let r = unmapped drive_under (replicas_of seats) d has in
      let t = seat_of seats r.0 r.1 in
      subst (Contains (drives_of (seats ++ s ∷ []))) r.2 (drive_in (seats ++ s ∷ []) r.0 (replica_of (seats ++ s ∷ []) t.0 r.0 (Contains-append_left seats (s ∷ []) t.0 t.1) t.2))

  new_in : (r : Replica) → s.replica ≡ Some r → Contains (drives_of (seats ++ s ∷ [])) (drive_under r)
  new_in r is = drive_in (seats ++ s ∷ []) r (replica_of (seats ++ s ∷ []) s r (Contains-push seats s) is)

  of_push : (d : DriveNo) → Contains (drives_of (seats ++ s ∷ [])) d → Contains (drives_of seats) d ⊎ ((r : Replica) × (s.replica ≡ Some r) × (drive_under r ≡ d))
  of_push d has =
      let r = unmapped drive_under (replicas_of (seats ++ s ∷ [])) d has in
      let t = seat_of (seats ++ s ∷ []) r.0 r.1 in
      elim (Contains-append_cases seats (s ∷ []) t.0 t.1) [
        | inl was ↦ inl (subst (Contains (drives_of seats)) r.2 (drive_in seats r.0 (replica_of seats t.0 r.0 was t.2)))
        | inr one ↦ elim (first_or_behind s t.0 [] one) [
          | inl here ↦ inr (r.0, ap (λ (x : Seat). x.replica) here ∙ t.2, r.2)
          | inr none ↦ absurd (omega (arith, none.1))
        ]
      ]

  pub drives_push : (set now : Drives) → AreDrivesOf set seats → HasJoined set s.replica now → AreDrivesOf now (seats ++ s ∷ [])
  drives_push set now are joined d = by s.replica refl joined where
    All : Type 0
    All = Contains (drives_of (seats ++ s ∷ [])) d

    unsome : (a b : Replica) → Some a ≡ Some b → b ≡ a
    unsome a b same = cc (same)

    by : (o : Option Replica) → s.replica ≡ o → HasJoined set o now → MatchBool (has_drive now d) All (All → ⊥)
    by None is same = just (has_drive now d) All (λ has. was_in d (on_true set seats are d (sym (ap (λ (ds : Drives). has_drive ds d) same) ∙ has)))
        (λ none has. elim (of_push d has) [
          | inl was ↦ on_false set seats are d (sym (ap (λ (ds : Drives). has_drive ds d) same) ∙ none) was
          | inr new ↦ (let both : None ≡ Some new.0 = sym is ∙ new.1 in cc (both))
        ])
    by (Some r) is one = elim (is_drive d (drive_under r)) [
      | inl here ↦ just (has_drive now d) All (λ has. subst (Contains (drives_of (seats ++ s ∷ []))) (sym here) (new_in r is)) (λ none has. no_both (has_drive now d) (ap (has_drive now) here ∙ one.added) none)
      | inr other ↦ just (has_drive now d) All (λ has. was_in d (on_true set seats are d (sym (one.others d other) ∙ has)))
          (λ none has. elim (of_push d has) [
            | inl was ↦ on_false set seats are d (sym (one.others d other) ∙ none) was
            | inr new ↦ other (sym new.2 ∙ ap drive_under (unsome r new.0 (sym is ∙ new.1)))
          ])
    ]

-- by whether it was lost before, was tried, and is up
lost_if : (was : Bool) (tried up : Bool) → was ≡ false → tried ≡ true → (was || (tried && not up)) ≡ not up
lost_if was tried up free is = ap (λ (b : Bool). b || (tried && not up)) free ∙ ap (λ (b : Bool). b && not up) is

lost_as_was : (was : Bool) (tried up : Bool) → tried ≡ false → (was || (tried && not up)) ≡ was
lost_as_was true tried up untried = refl
lost_as_was false tried up untried = ap (λ (b : Bool). b && not up) untried

-- how a drive stands, by whether it was lost before and is
abbrev pub IsLostAs : Bool → Bool → Failures → Type 0
IsLostAs lost now failed = MatchBool lost ((now ≡ true) × failed.none) (MatchBool now failed.some failed.none)

module _ (failed : ℕ → Failures) (Took : Replica → Replica → Type 0) (before now : List Seat) (left : AreLeft failed Took before now) (stays : (r m : Replica) → Took r m → drive_under m ≡ drive_under r) (small : AreNumbered before)
    (calm : (d : DriveNo) → (Contains (drives_of before) d → ⊥) → (failed d.0).none) where
  -- a drive with an active place had no failed call
  up_calm : (d : DriveNo) → Contains (drives_of now) d → Contains (drives_of before) d × (failed d.0).none
  up_calm d has =
      let m = unmapped drive_under (replicas_of now) d has in
      let r = left_calm failed Took before now left m.0 m.1 in
      let same : drive_under r.0 ≡ d = sym (stays r.0 m.0 r.3) ∙ m.2 in
      (subst (Contains (drives_of before)) same (drive_in before r.0 r.1), subst (λ (x : DriveNo). (failed x.0).none) same r.2)

  -- one that has none any more had one
  down_failed : (d : DriveNo) → Contains (drives_of before) d → (Contains (drives_of now) d → ⊥) → (failed d.0).some
  down_failed d has none =
      let r = unmapped drive_under (replicas_of before) d has in
      elim (left_told failed Took before now left r.0 r.1) [
        | inl lost ↦ subst (λ (x : DriveNo). (failed x.0).some) r.2 lost
        | inr m ↦ absurd (none (subst (Contains (drives_of now)) (stays r.0 m.0 m.3 ∙ r.2) (drive_in now m.0 m.1)))
      ]

  below : (d : DriveNo) → Contains (drives_of before) d → d.0 < 256
  below d has = (let r = unmapped drive_under (replicas_of before) d has in subst (λ (x : DriveNo). x.0 < 256) r.2 (small r.0 r.1))

  module _ (tried up lost after : Drives) (tried_is : AreDrivesOf tried before) (up_is : AreDrivesOf up now) (apart : AreApart lost before) (missed : AreMissed 256 lost tried up after) where
    lost_here : (d : DriveNo) → Contains (drives_of before) d → has_drive after d ≡ not (has_drive up d)
    lost_here d has =
        let is : has_drive tried d ≡ true = elim (either_is (has_drive tried d)) [ inl so ↦ so | inr none ↦ absurd (on_false tried before tried_is d none has) ] in
        missed.within d (below d has) ∙ lost_if (has_drive lost d) (has_drive tried d) (has_drive up d) (apart d has) is

    lost_out : (d : DriveNo) → (Contains (drives_of before) d → ⊥) → has_drive after d ≡ has_drive lost d
    lost_out d out =
        let is : has_drive tried d ≡ false = elim (either_is (has_drive tried d)) [ inl so ↦ absurd (out (on_true tried before tried_is d so)) | inr none ↦ none ] in
        elim (cases_lt d.0 256) [
          | inl low ↦ missed.within d low ∙ lost_as_was (has_drive lost d) (has_drive tried d) (has_drive up d) is
          | inr high ↦ missed.behind d high
        ]

    by_here : (d : DriveNo) → Contains (drives_of before) d → IsLostAs (has_drive lost d) (has_drive after d) (failed d.0)
    by_here d has = subst (λ (b : Bool). IsLostAs b (has_drive after d) (failed d.0)) (sym (apart d has)) (elim (either_is (has_drive up d)) [
      | inl so ↦ subst (λ (b : Bool). MatchBool b (failed d.0).some (failed d.0).none) (sym (lost_here d has ∙ ap not so)) (up_calm d (on_true up now up_is d so)).1
      | inr none ↦ subst (λ (b : Bool). MatchBool b (failed d.0).some (failed d.0).none) (sym (lost_here d has ∙ ap not none)) (down_failed d has (on_false up now up_is d none))
    ])

    by_out : (b : Bool) (f : Failures) → f.none → IsLostAs b b f
    by_out true f none = (refl, none)
    by_out false f none = none

    -- the drives on which a call of the record failed are lost
    pub pass_lost : AreLost failed lost after now
    pass_lost = record {
      by = λ d. elim (is_one_of (drives_of before) d) [
        | inl has ↦ by_here d has
        | inr out ↦ subst (λ (b : Bool). IsLostAs (has_drive lost d) b (failed d.0)) (sym (lost_out d out)) (by_out (has_drive lost d) (failed d.0) (calm d out))
      ];
      apart = λ d has. lost_here d (up_calm d has).0 ∙ ap not (elim (either_is (has_drive up d)) [ inl so ↦ so | inr none ↦ absurd (on_false up now up_is d none has) ]);
    }

-- a set of drives holds those of places within a shelf's drives
pub numbered : (sizes : List ℕ) (seats : List Seat) → length sizes ≤ 256 → AreLaid sizes seats → AreNumbered seats
numbered sizes seats few laid r has = (let drive = (laid r has).placed.drive in omega (arith, drive, few))

-- A record that was written to these places.
module _ {S : Type 0} (shelf : Ghosts S) (from to : S) (before : Opened) (now : Opened) (result : Result (Unit {0}) Share) (wrote : WasListed shelf from to before now result) (few : length (shelf.sizes from) ≤ 256) (laid : AreLaid (shelf.sizes from) before.seats) where
  abbrev Takes : Replica → Replica → Type 0
  Takes = TakesSlot (next_mark before.mark) (text_size before.table)

  stays : (r m : Replica) → Takes r m → drive_under m ≡ drive_under r
  stays r m took = ap (λ (a : PlaceAt). a.drive) (slot_stays (next_mark before.mark) (text_size before.table) r m took)

  small : AreNumbered before.seats
  small = numbered (shelf.sizes from) before.seats few laid

  pub small_now : AreNumbered now.seats
  small_now m has = (let r = left_calm (DriveFailures shelf from to) Takes before.seats now.seats wrote.wrote.left m has in subst (λ (d : DriveNo). d.0 < 256) (sym (stays r.0 m r.3)) (small r.0 r.1))

  calm_out : (d : DriveNo) → (Contains (drives_of before.seats) d → ⊥) → (DriveFailures shelf from to d.0).none
  calm_out d out = wrote.wrote.kept.others (OnDrive d.0) (λ one. out (subst (Contains (drives_of before.seats)) (sym (same_drive d one.0 (one_number d.0 one.0.0 one.2))) one.1))

  pub listed_lost : (tried up lost after : Drives) → AreDrivesOf tried before.seats → AreDrivesOf up now.seats → AreApart lost before.seats → AreMissed 256 lost tried up after → AreLost (DriveFailures shelf from to) lost after now.seats
  listed_lost tried up lost after tried_is up_is apart missed =
      pass_lost (DriveFailures shelf from to) Takes before.seats now.seats wrote.wrote.left stays small calm_out tried up lost after tried_is up_is apart missed

-- Failures over two stretches.
then_as : (l m n : Bool) (a b c : ℕ) → IsLostAs l m (failures_of a b) → IsLostAs m n (failures_of b c) → IsLostAs l n (failures_of a c)
then_as true true n a b c first second = (second.0, second.1 ∙ first.1)
then_as true false n a b c first second = absurd (no_both false first.0 refl)
then_as false true true a b c first second = second.1 ∙ first
then_as false true false a b c first second = absurd (no_both false second.0 refl)
then_as false false true a b c first second = subst (λ (k : ℕ). RoseOnce k c) first second
then_as false false false a b c first second = second ∙ first

module _ {S : Type 0} (shelf : Ghosts S) where
  pub lost_then : (a b c : S) (l m n : Drives) → AreLostBy (DriveFailures shelf a b) l m → AreLostBy (DriveFailures shelf b c) m n → AreLostBy (DriveFailures shelf a c) l n
  lost_then a b c l m n first second d = then_as (has_drive l d) (has_drive m d) (has_drive n d) (shelf.faults a (OnDrive d.0)) (shelf.faults b (OnDrive d.0)) (shelf.faults c (OnDrive d.0)) (first d) (second d)

  -- behind a stretch in which none failed
  pub lost_calm : (a b c : S) (l m : Drives) → ((drive : ℕ) → (DriveFailures shelf a b drive).none) → AreLostBy (DriveFailures shelf b c) l m → AreLostBy (DriveFailures shelf a c) l m
  lost_calm a b c l m calm second d = subst (λ (k : ℕ). IsLostAs (has_drive l d) (has_drive m d) (failures_of k (shelf.faults c (OnDrive d.0)))) (calm d.0) (second d)

-- where none was lost before
pub since_none : (failed : ℕ → Failures) (now : Drives) → AreLostBy failed no_drives now → (d : DriveNo) → MatchBool (has_drive now d) (failed d.0).some (failed d.0).none
since_none failed now by d = subst (λ (b : Bool). IsLostAs b (has_drive now d) (failed d.0)) (none_in 256 d.0) (by d)

pub lost_failed : (failed : ℕ → Failures) (now : Drives) → AreLostBy failed no_drives now → (d : DriveNo) → has_drive now d ≡ true → (failed d.0).some
lost_failed failed now by d is = subst (λ (b : Bool). MatchBool b (failed d.0).some (failed d.0).none) is (since_none failed now by d)

pub free_calm : (failed : ℕ → Failures) (now : Drives) → AreLostBy failed no_drives now → (d : DriveNo) → has_drive now d ≡ false → (failed d.0).none
free_calm failed now by d is = subst (λ (b : Bool). MatchBool b (failed d.0).some (failed d.0).none) is (since_none failed now by d)
