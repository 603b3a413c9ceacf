-- The places behind a step of a pass, and how many of them are active.
use Rattle.std.proofs.Common.{◌≡◌, ◌≢◌, inl, inr, ℕ, suc, ◌≤◌, ◌==◌, Bool, true, false, not, List, [], ◌∷◌, ◌++◌, length, map, Option, None, Some, MatchOption, refl, sym, ◌∙◌, ap, subst, cond, arith}
use Rattle.std.specs.List.{cons_option}
use Rattle.std.proofs.lemmas.Bool.{cases_Bool}
use Rattle.std.proofs.lemmas.Bool.Decides.{nat_tests}
use Rattle.mdv_base.specs.Causes.{Failures, RoseOnce, failures_of}
use Rattle.mdv_store_law.specs.Part.{IsPart}
use Rattle.mdv_store.specs.Below.{DriveNo, Replica}
use Rattle.mdv_store.specs.Passing.{beside, left_on, unless_on}
use Rattle.mdv_store.specs.Seats.{AreLeft, IsLeft, active_of, drive_of, replicas_of}
use Rattle.mdv_store.specs.declared.seats.Seat.{Seat}

-- a replica that wasn't written to yet
abbrev pub IsSame : Replica → Replica → Type 0
IsSame r n = n ≡ r

-- what a seat's replica became
abbrev Became : (ℕ → Failures) → (Replica → Replica → Type 0) → Option Replica → Option Replica → Type 0
Became failed Took old new = MatchOption old (new ≡ None) (λ (r : Replica). MatchOption new (failed (drive_of r)).some (λ (n : Replica). (failed (drive_of r)).none × Took r n))

module _ (failed : ℕ → Failures) where
  -- where no call failed
  became_same : ((drive : ℕ) → (failed drive).none) → (o : Option Replica) → Became failed IsSame o o
  became_same none None = refl
  became_same none (Some r) = (none (drive_of r), refl)

  pub left_same : ((drive : ℕ) → (failed drive).none) → (ss : List Seat) → AreLeft failed IsSame ss ss
  left_same none [] = tt
  left_same none (s ∷ ss) = ((refl, became_same none s.replica), left_same none ss)

  module _ (Took : Replica → Replica → Type 0) where
    pub left_append : (before done : List Seat) (o n : Seat) → AreLeft failed Took before done → IsLeft failed Took o n → AreLeft failed Took (before ++ o ∷ []) (done ++ n ∷ [])
    left_append [] [] o n left one = (one, tt)
    left_append [] (m ∷ done) o n left one = absurd left
    left_append (b ∷ before) [] o n left one = absurd left
    left_append (b ∷ before) (m ∷ done) o n left one = (left.0, left_append before done o n left.1 one)

    pub left_length : (ss ns : List Seat) → AreLeft failed Took ss ns → length ns ≡ length ss
    left_length [] [] left = refl
    left_length [] (n ∷ ns) left = absurd left
    left_length (s ∷ ss) [] left = absurd left
    left_length (s ∷ ss) (n ∷ ns) left = ap (λ (k : ℕ). suc k) (left_length ss ns left.1)

    fewer : (o p : Option Replica) (rs qs : List Replica) → Became failed Took o p → length qs ≤ length rs → length (cons_option p qs) ≤ length (cons_option o rs)
    fewer None None rs qs is below = below
    fewer None (Some n) rs qs is below = absurd (cc (is))
    fewer (Some r) None rs qs is below = omega (arith, below)
    fewer (Some r) (Some n) rs qs is below = omega (arith, below)

    -- no more are active
    pub left_fewer : (ss ns : List Seat) → AreLeft failed Took ss ns → active_of ns ≤ active_of ss
    left_fewer [] [] left = omega arith
    left_fewer [] (n ∷ ns) left = absurd left
    left_fewer (s ∷ ss) [] left = absurd left
    left_fewer (s ∷ ss) (n ∷ ns) left = fewer s.replica n.replica (replicas_of ss) (replicas_of ns) left.0.1 (left_fewer ss ns left.1)

  -- a place that isn't active counts as behind the pass
  pub inactive : (Took : Replica → Replica → Type 0) (o s : Seat) → s.replica ≡ None → IsLeft failed IsSame o s → IsLeft failed Took o s
  inactive Took o s none left = (left.0, passed o.replica s.replica none left.1)
    where
      passed : (p q : Option Replica) → q ≡ None → Became failed IsSame p q → Became failed Took p q
      passed None q e is = is
      passed (Some r) None e is = is
      passed (Some r) (Some n) e is = absurd (cc (e))

  -- an active one that is due is as it was, and no call on its drive failed
  pub due_is : (o s : Seat) (r : Replica) → s.replica ≡ Some r → IsLeft failed IsSame o s → (o.replica ≡ Some r) × (failed (drive_of r)).none
  due_is o s r some left = found o.replica s.replica some left.1
    where
      found : (p q : Option Replica) → q ≡ Some r → Became failed IsSame p q → (p ≡ Some r) × (failed (drive_of r)).none
      found None q e is = absurd (cc (e, is))
      found (Some t) None e is = absurd (cc (e))
      found (Some t) (Some n) e is =
          let same : t ≡ r = sym is.1 ∙ cc (e) in
          (ap (λ (x : Replica). Some x) same, subst (λ (x : Replica). (failed (drive_of x)).none) same is.0)

  part_due : (o p : Option Replica) (rs qs : List Replica) → Became failed IsSame o p → IsPart qs rs → IsPart (cons_option p qs) (cons_option o rs)
  part_due None None rs qs is part = part
  part_due None (Some n) rs qs is part = absurd (cc (is))
  part_due (Some r) None rs [] is part = tt
  part_due (Some r) None rs (q ∷ qs) is part = inr part
  part_due (Some r) (Some n) rs qs is part = inl (is.1, part)

  -- the replicas that are due are among those at the start
  pub left_part : (ss ns : List Seat) → AreLeft failed IsSame ss ns → IsPart (replicas_of ns) (replicas_of ss)
  left_part [] [] left = tt
  left_part [] (n ∷ ns) left = absurd left
  left_part (s ∷ ss) [] left = absurd left
  left_part (s ∷ ss) (n ∷ ns) left = part_due s.replica n.replica (replicas_of ss) (replicas_of ns) left.0.1 (left_part ss ns left.1)

-- By the counts of failures.
module _ (old : ℕ → ℕ) where
  abbrev pub FailedBy : (ℕ → ℕ) → ℕ → Failures
  FailedBy now drive = failures_of (old drive) (now drive)

  pub left_still : (Took : Replica → Replica → Type 0) (now next : ℕ → ℕ) (ss ns : List Seat) → ((drive : ℕ) → next drive ≡ now drive) → AreLeft (FailedBy now) Took ss ns → AreLeft (FailedBy next) Took ss ns
  left_still Took now next ss ns same = subst (λ (c : ℕ → ℕ). AreLeft (FailedBy c) Took ss ns) (λ i drive. sym (same drive) i)

  -- a call failed on a drive on which none did before
  module _ (Took : Replica → Replica → Type 0) (stays : (r n : Replica) → Took r n → drive_of n ≡ drive_of r) (now next : ℕ → ℕ) (drive : DriveNo) (failed : RoseOnce (old drive.0) (next drive.0))
      (others : (other : ℕ) → other ≢ drive.0 → next other ≡ now other) where
    some_still : (other : ℕ) → (FailedBy now other).some → (FailedBy next other).some
    some_still other some = elim (cases_Bool (other == drive.0)) [
      | inl is ↦ (let same : other ≡ drive.0 = grind (arith, nat_tests) in subst (λ (d : ℕ). RoseOnce (old d) (next d)) (sym same) failed)
      | inr isnt ↦ (let apart : other ≢ drive.0 = λ e. grind (arith, nat_tests) in others other apart ∙ some)
    ]

    lost_one : (r n : Replica) → Took r n → (FailedBy now (drive_of r)).none → (b : Bool) → (drive_of n == drive.0) ≡ b → Became (FailedBy next) Took (Some r) (cond b None (Some n))
    lost_one r n took none true is =
        let here : drive_of n ≡ drive.0 = grind (arith, nat_tests) in
        subst (λ (d : ℕ). RoseOnce (old d) (next d)) (sym (sym (stays r n took) ∙ here)) failed
    lost_one r n took none false is =
        let apart : drive_of r ≢ drive.0 = λ e. (let there : drive_of n ≡ drive.0 = stays r n took ∙ e in grind (arith, nat_tests)) in
        (others (drive_of r) apart ∙ none, took)

    became_lost : (o p : Option Replica) → Became (FailedBy now) Took o p → Became (FailedBy next) Took o (unless_on drive p)
    became_lost None p is = ap (unless_on drive) is
    became_lost (Some r) None is = some_still (drive_of r) is
    became_lost (Some r) (Some n) is = lost_one r n is.1 is.0 (drive_of n == drive.0) refl

    pub left_lost : (ss ns : List Seat) → AreLeft (FailedBy now) Took ss ns → AreLeft (FailedBy next) Took ss (map (left_on drive) ns)
    left_lost [] [] left = tt
    left_lost [] (n ∷ ns) left = absurd left
    left_lost (s ∷ ss) [] left = absurd left
    left_lost (s ∷ ss) (n ∷ ns) left = ((left.0.0, became_lost s.replica n.replica left.0.1), left_lost ss ns left.1)

-- The replicas that don't lie on a drive are those at the places that are left.
beside_one : (drive : DriveNo) (r : Replica) (b : Bool) (rs qs : List Replica) → rs ≡ qs → cons_option (cond b None (Some r)) rs ≡ cond (not b) (r ∷ qs) qs
beside_one drive r true rs qs same = same
beside_one drive r false rs qs same = ap (λ (l : List Replica). r ∷ l) same

beside_found : (drive : DriveNo) (o : Option Replica) (rs qs : List Replica) → rs ≡ beside drive qs → cons_option (unless_on drive o) rs ≡ beside drive (cons_option o qs)
beside_found drive None rs qs same = same
beside_found drive (Some r) rs qs same = beside_one drive r (drive_of r == drive.0) rs (beside drive qs) same

pub beside_is : (drive : DriveNo) (ns : List Seat) → replicas_of (map (left_on drive) ns) ≡ beside drive (replicas_of ns)
beside_is drive [] = refl
beside_is drive (n ∷ ns) = beside_found drive n.replica (replicas_of (map (left_on drive) ns)) (replicas_of ns) (beside_is drive ns)

-- the place of a replica of the drive is left
pub left_here : (r : Replica) → unless_on r.line.at.drive (Some r) ≡ None
left_here r = one (drive_of r == drive_of r) (grind (arith, nat_tests))
  where
    one : (b : Bool) → b ≡ true → cond b None (Some r) ≡ None
    one true e = refl
    one false e = absurd (cc (e))
