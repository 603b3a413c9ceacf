-- Drives become unsteady, on which calls of a write of some blocks failed.
use Rattle.std.proofs.Common.{◌≡◌, ◌⊎◌, inl, inr, ◌+◌, ◌<◌, ◌≤◌, ◌==◌, ◌&&◌, ◌||◌, ℕ, zero, suc, Bool, true, false, if◌then◌else◌, List, [], ◌∷◌, map, All, refl, sym, ◌∙◌, ap, subst, arith}
use Rattle.std.specs.List.{list_any}
use Rattle.std.proofs.lemmas.Bool.{false≢true}
use Rattle.std.proofs.lemmas.Bool.Decides.{nat_tests}
use Rattle.std.proofs.lemmas.List.Elements.{All-cons, All-nil}
use Rattle.mdv_dev.proofs.Copies.{drive_is, has_copy, one_place}
use Rattle.mdv_dev.proofs.Counting.{same_number}
use Rattle.mdv_dev.specs.Pieces.{LiesAt, drive_of, has_drive}
use Rattle.mdv_engine_law.specs.Below.{Deed, DriveNo, Event, HasDriveBlock, History, Key, Map, Unsettles, VolId, history_after, history_after_all}
use Rattle.mdv_shelf.proofs.Blocks.{both_ways}
use Rattle.mdv_store_law.specs.Machine.{AreAll}
use Rattle.mdv_volumes.specs.Happening.{IsIssue}
use Rattle.mdv_volumes.specs.HistoryLaws.{HasCopyOn}
use Rattle.mdv_engine_law.specs.declared.host.Host.{Host}
use Rattle.mdv_engine_law.specs.Standing.{IsOfRun}
use Rattle.mdv_engine_law.proofs.Going.{AllAwake}

-- such events change nothing but which drives are up
module _ (key : Key) where
  abbrev pub unsettled : List DriveNo → List Event
  unsettled drives = map (Unsettles key) drives

  pub databases_kept : (drives : List DriveNo) (h : History) → (history_after_all h (unsettled drives)).databases ≡ h.databases
  databases_kept [] h = refl
  databases_kept (drive ∷ drives) h = databases_kept drives (history_after h (Unsettles key drive))

  pub woken_kept : (drives : List DriveNo) (h : History) (other : Key) (volume : VolId) → (history_after_all h (unsettled drives)).woken other volume ≡ h.woken other volume
  woken_kept [] h other volume = refl
  woken_kept (drive ∷ drives) h other volume = woken_kept drives (history_after h (Unsettles key drive)) other volume

  pub unsettled_awake : (host : Host) (drives : List DriveNo) (h : History) → AllAwake host h (unsettled drives)
  unsettled_awake host [] h = tt
  unsettled_awake host (drive ∷ drives) h = (tt, unsettled_awake host drives (history_after h (Unsettles key drive)))

  pub unsettled_issues : (host : Host) (asks : List Deed) (drives : List DriveNo) → AreAll (IsIssue (IsOfRun host asks)) (unsettled drives)
  unsettled_issues host asks [] = tt
  unsettled_issues host asks (drive ∷ drives) = (tt, unsettled_issues host asks drives)

abbrev numbered : ℕ → DriveNo
numbered drive = record { 0 = drive }

-- blocks of a map, each of which lies in one place; on some of their drives calls failed
module _ (v : Map) (at count : ℕ) (place : (k : ℕ) → k < count → (drive : ℕ) × (block : ℕ) × LiesAt v (at + k) drive block) where
  -- one of the first of them is this block of the drive, or none
  abbrev pub OneOrOff : ℕ → ℕ → ℕ → Type 0
  OneOrOff drive b n = ((k : ℕ) × (k < n) × HasDriveBlock (v.copies (at + k)) drive b) ⊎ ((k : ℕ) → k < n → HasDriveBlock (v.places (at + k)) drive b → ⊥)

  pub one_or_off : (drive b n : ℕ) → n ≤ count → OneOrOff drive b n
  one_or_off drive b zero le = inr (λ k lt has. absurd (omega (arith, lt)))
  one_or_off drive b (suc n) le =
      let at_n = place n (omega (arith, le)) in
      by at_n.0 at_n.1 at_n.2 (at_n.0 == drive) (at_n.1 == b) refl refl (one_or_off drive b n (omega (arith, le)))
    where
      same : (x y : ℕ) → x == y ≡ true → x ≡ y
      same x y is = grind (arith, nat_tests)

      differ : (x y : ℕ) → x == y ≡ false → y ≡ x → ⊥
      differ x y is also = false≢true (sym is ∙ (let equal : x == y ≡ true = grind (arith, nat_tests) in equal))

      none_more : (HasDriveBlock (v.places (at + n)) drive b → ⊥) → OneOrOff drive b n → OneOrOff drive b (suc n)
      none_more never (inl found) = inl (found.0, (let lt = found.1 in omega (arith, lt)), found.2)
      none_more never (inr off) = inr (λ k lt has. elim (both_ways (k == n)) [
        | inl is ↦ never (subst (λ (m : ℕ). HasDriveBlock (v.places (at + m)) drive b) (same k n is) has)
        | inr other ↦ off k (let isnt = differ k n other in below k lt isnt) has
      ])
        where
          below : (k : ℕ) → k < suc n → (n ≡ k → ⊥) → k < n
          below k lt isnt = omega (arith, lt, isnt)

      by : (d c : ℕ) → LiesAt v (at + n) d c → (on here : Bool) → d == drive ≡ on → c == b ≡ here → OneOrOff drive b n → OneOrOff drive b (suc n)
      by d c lies true true is_on is_here which =
          inl (n, omega arith, subst (λ (x : ℕ). HasDriveBlock (v.copies (at + n)) x b) (same d drive is_on) (subst (λ (y : ℕ). HasDriveBlock (v.copies (at + n)) d y) (same c b is_here) (has_copy v (at + n) d c lies)))
      by d c lies false here is_on is_here which = none_more (λ has. differ d drive is_on (one_place v (at + n) d c lies drive b has).0) which
      by d c lies on false is_on is_here which = none_more (λ has. differ c b is_here (one_place v (at + n) d c lies drive b has).1) which

  module _ (failing : ℕ → Bool) (on : (drive : ℕ) → failing drive ≡ true → has_drive v at count drive ≡ true) where
    abbrev drive_at : ℕ → ℕ
    drive_at n = drive_of (v.copies (at + n))

    -- those of the first blocks that failed
    abbrev failed_of : ℕ → List DriveNo
    failed_of zero = []
    failed_of (suc n) = if failing (drive_at n) then numbered (drive_at n) ∷ failed_of n else failed_of n

    abbrev pub failed_drives : List DriveNo
    failed_drives = failed_of count

    have_copies : (n : ℕ) → n ≤ count → All (HasCopyOn v at count) (failed_of n)
    have_copies zero le = All-nil (HasCopyOn v at count)
    have_copies (suc n) le = by (failing (drive_at n)) (have_copies n (omega (arith, le))) where
      here : HasCopyOn v at count (numbered (drive_at n))
      here =
          let at_n = place n (omega (arith, le)) in
          let is = drive_is v (at + n) at_n.0 at_n.1 at_n.2 in
          record { number = n; within = omega (arith, le); block = at_n.1; lies = subst (λ (d : ℕ). HasDriveBlock (v.copies (at + n)) d at_n.1) (sym is) (has_copy v (at + n) at_n.0 at_n.1 at_n.2) }

      by : (fails : Bool) → All (HasCopyOn v at count) (failed_of n) → All (HasCopyOn v at count) (if fails then numbered (drive_at n) ∷ failed_of n else failed_of n)
      by true rest = All-cons (HasCopyOn v at count) (numbered (drive_at n)) (failed_of n) here rest
      by false rest = rest

    -- on each of them one of the blocks has a copy
    pub failed_have : All (HasCopyOn v at count) failed_drives
    failed_have = have_copies count (omega arith)

    abbrev is_one : ℕ → List DriveNo → Bool
    is_one drive ds = list_any (λ (d : DriveNo). drive == d.0) ds

    both_orders : (x y : ℕ) → (x == y) ≡ (y == x)
    both_orders x y = elim (both_ways (x == y)) [
      | inl is ↦ is ∙ sym (let other : y == x ≡ true = grind (arith, nat_tests) in other)
      | inr not_it ↦ not_it ∙ sym (let other : y == x ≡ false = grind (arith, nat_tests) in other)
    ]

    none_and : (b : Bool) → false ≡ b && false
    none_and true = refl
    none_and false = refl

    failed_among : (drive n : ℕ) → is_one drive (failed_of n) ≡ failing drive && has_drive v at n drive
    unfolding has_drive
    failed_among drive zero = none_and (failing drive)
    failed_among drive (suc n) = by (failed_among drive n) (failing (drive_at n)) (drive_at n == drive) refl refl where
      mixed : (fails here rest : Bool) → (here ≡ true → fails ≡ true) → here || (fails && rest) ≡ fails && (here || rest)
      mixed true true rest so = refl
      mixed true false rest so = refl
      mixed false true rest so = absurd (false≢true (so refl))
      mixed false false rest so = refl

      apart : (fails here rest : Bool) → (here ≡ true → fails ≡ false) → fails && rest ≡ fails && (here || rest)
      apart true true rest so = absurd (false≢true (sym (so refl)))
      apart true false rest so = refl
      apart false here rest so = refl

      by : is_one drive (failed_of n) ≡ failing drive && has_drive v at n drive → (fails here : Bool) → failing (drive_at n) ≡ fails → (drive_at n == drive) ≡ here → is_one drive (if fails then numbered (drive_at n) ∷ failed_of n else failed_of n) ≡ failing drive && (here || has_drive v at n drive)
      by rest true here is at_it =
          ap (λ (b : Bool). b || is_one drive (failed_of n)) (both_orders drive (drive_at n) ∙ at_it)
          ∙ ap (λ (b : Bool). here || b) rest
          ∙ mixed (failing drive) here (has_drive v at n drive) (λ yes. ap failing (sym (same_number (drive_at n) drive (at_it ∙ yes))) ∙ is)
      by rest false here is at_it =
          rest ∙ apart (failing drive) here (has_drive v at n drive) (λ yes. ap failing (sym (same_number (drive_at n) drive (at_it ∙ yes))) ∙ is)

    -- and they are all that failed
    pub failed_are : (drive : ℕ) → list_any (λ (d : DriveNo). drive == d.0) failed_drives ≡ failing drive
    failed_are drive = failed_among drive count ∙ by (failing drive) (on drive) where
      by : (fails : Bool) → (fails ≡ true → has_drive v at count drive ≡ true) → fails && has_drive v at count drive ≡ fails
      by true so = so refl
      by false so = refl
