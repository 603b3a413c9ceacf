-- Images that a boot can't tell apart, behind what a boot, a change or a creation wrote there: the same of both.
use Rattle.std.proofs.Common.{◌≡◌, ◌⊎◌, inl, inr, ℕ, zero, suc, ◌+◌, ◌*◌, ◌<◌, ◌≤◌, Bool, true, false, ◌||◌, List, [], ◌∷◌, Option, None, Some, Contains, refl, sym, ◌∙◌, ap, subst, arith}
use Rattle.std.specs.List.{cons_option, list_any}
use Rattle.std.proofs.lemmas.Bool.{cases_lt, false_from_ne_true, false≢true}
use Rattle.mdv_base.specs.declared.mark.Identity.{Identity}
use Rattle.mdv_base.specs.declared.name.Key.{Key}
use Rattle.mdv_name.specs.declared.geometry.Geometry.{Geometry}
use Rattle.mdv_name.specs.declared.slice_lines.SliceLine.{SliceLine}
use Rattle.mdv_replica.specs.declared.replica.Head.{Head}
use Rattle.mdv_shelf.specs.Area.{range}
use Rattle.mdv_shelf.specs.Everywhere.{Image}
use Rattle.mdv_shown.specs.Found.{IsFound}
use Rattle.mdv_shown.specs.Site.{IsSite, site_area}
use Rattle.mdv_shown.specs.declared.site.Site.{Site}
use Rattle.mdv_shown.specs.Sites.{site_of}
use Rattle.mdv_shown.proofs.Elsewhere.{in_range, range_has}
use Rattle.mdv_survey.specs.declared.replica.Replica.{Replica}
use Rattle.mdv_store.specs.Create.{replica_on, seats_asked}
use Rattle.mdv_store.specs.Opened.{Opened}
use Rattle.mdv_store.specs.Records.{Spells}
use Rattle.mdv_store.specs.Seats.{replicas_of, seats_area}
use Rattle.mdv_store.specs.declared.seats.Seat.{Seat}
use Rattle.mdv_store.proofs.Seated.{replica_is, replicas_have}
use Rattle.mdv_store.proofs.Sitting.{contains_behind, contains_first, first_or_behind}
use Rattle.mdv_run_law.proofs.Moving.{AreHere, AreOne, AreShown, IsAlike, IsAway, IsChanged, IsClear, IsThere, alike_changed, any_has, any_of, area_at, areas, areas_in_site, changed_made, changed_written, here_of, one_text}
use Rattle.mdv_run_law.proofs.Passing.{became, seats_with}
use Rattle.mdv_engine_law.specs.Hosts.{places_area}
use Rattle.mdv_engine_law.specs.Line.{IsOpenOn, IsSameBeside}

-- a replica with another head
abbrev pub headed : (Replica → Head) → Replica → Replica
headed head r = record r { head = head r }

-- the replicas of seats whose replicas have other heads
module _ (head : Replica → Head) where
  abbrev now : List Seat → List Seat
  now seats = seats_with (headed head) seats

  has_now : (seats : List Seat) (n : Replica) → Contains (replicas_of (now seats)) n → (r : Replica) × Contains (replicas_of seats) r × (n ≡ headed head r)
  has_now [] n has = absurd (omega (arith, has.1))
  has_now (s ∷ ss) n has = by s.replica has (has_now ss n) where
    by : (o : Option Replica) → Contains (cons_option (became (headed head) o) (replicas_of (now ss))) n → (Contains (replicas_of (now ss)) n → (r : Replica) × Contains (replicas_of ss) r × (n ≡ headed head r))
        → (r : Replica) × Contains (cons_option o (replicas_of ss)) r × (n ≡ headed head r)
    by None has rest = rest has
    by (Some r) has rest = elim (first_or_behind (headed head r) n (replicas_of (now ss)) has) [
      | inl here ↦ (r, contains_first r (replicas_of ss), sym here)
      | inr there ↦ (let more = rest there in (more.0, contains_behind r more.0 (replicas_of ss) more.1, more.2))
    ]

  now_has : (seats : List Seat) (r : Replica) → Contains (replicas_of seats) r → Contains (replicas_of (now seats)) (headed head r)
  now_has [] r has = absurd (omega (arith, has.1))
  now_has (s ∷ ss) r has = by s.replica has (now_has ss r) where
    by : (o : Option Replica) → Contains (cons_option o (replicas_of ss)) r → (Contains (replicas_of ss) r → Contains (replicas_of (now ss)) (headed head r)) → Contains (cons_option (became (headed head) o) (replicas_of (now ss))) (headed head r)
    by None has rest = rest has
    by (Some x) has rest = elim (first_or_behind x r (replicas_of ss) has) [
      | inl here ↦ subst (λ (y : Replica). Contains (headed head x ∷ replicas_of (now ss)) (headed head y)) here (contains_first (headed head x) (replicas_of (now ss)))
      | inr there ↦ contains_behind (headed head x) (headed head r) (replicas_of (now ss)) (rest there)
    ]

  -- they lie on the same blocks
  same_area : (seats : List Seat) (drive block : ℕ) → areas (replicas_of (now seats)) drive block ≡ seats_area seats drive block
  same_area [] drive block = refl
  same_area (s ∷ ss) drive block = by s.replica (same_area ss drive block) where
    by : (o : Option Replica) → areas (replicas_of (now ss)) drive block ≡ seats_area ss drive block
        → list_any (λ (r : Replica). area_at r drive block) (cons_option (became (headed head) o) (replicas_of (now ss))) ≡ list_any (λ (r : Replica). area_at r drive block) (cons_option o (replicas_of ss))
    by None rest = rest
    by (Some r) rest = ap (λ (b : Bool). area_at r drive block || b) rest

-- a block of places that lie one behind another is one of some place
in_some : (count start blocks block : ℕ) → start ≤ block → block < start + count * blocks → (k : ℕ) × (k < count) × (start + k * blocks ≤ block) × (block < start + k * blocks + blocks)
in_some zero start blocks block from to = absurd (omega (arith, from, to))
in_some (suc n) start blocks block from to = elim (cases_lt block (start + n * blocks)) [
  | inl less ↦ (let one = in_some n start blocks block from less in let few = one.1 in (one.0, omega (arith, few), one.2, one.3))
  | inr most ↦ (n, omega arith, most, omega (arith, to))
]

module _ (g : Geometry) (site : Site) (ok : IsSite site) where
  module _ (o : Opened) (key : site ≡ site_of g o.key) where
    pub its_each : (image : Image) → IsOpenOn g o image → (r : Replica) → Contains (replicas_of o.seats) r → IsThere g site ok image r
    its_each image opens r has = (let own = subst (λ (s : Site). Found s r) (sym key) (opens.each r has).found in here_of (Spells g) (one_text g) site ok image r own) where
      Found : Site → Replica → Type 0
      Found s r = IsFound (Spells g) s r.line r.number (image r.line.at.drive.0) r.first r.head

    its_shown : (image : Image) → IsOpenOn g o image → AreShown (Spells g) (one_text g) site ok image (replicas_of o.seats) o.mark o.table
    its_shown image opens r has = opens.shown r has

    -- Replicas were written that were found before.
    module _ (head : Replica → Head) (seats : List Seat) (is : o.seats ≡ seats_with (headed head) seats) where
      area_is : (drive block : ℕ) → areas (replicas_of o.seats) drive block ≡ seats_area seats drive block
      area_is drive block = ap (λ (s : List Seat). areas (replicas_of s) drive block) is ∙ same_area head seats drive block

      before : (c : Image) → ((r : Replica) → Contains (replicas_of seats) r → IsThere g site ok c r) → AreHere (Spells g) (one_text g) site ok c (replicas_of o.seats)
      before c found n has =
          let was = has_now head seats n (subst (λ (s : List Seat). Contains (replicas_of s) n) is has) in
          (was.0.head, subst (λ (x : Replica). IsThere g site ok c (record { line = x.line; number = x.number; first = x.first; head = was.0.head })) (sym was.2) (found was.0 was.1))

      pub written : (c n : Image) → ((r : Replica) → Contains (replicas_of seats) r → IsThere g site ok c r) → IsSameBeside (seats_area seats) c n → IsOpenOn g o n
          → IsChanged (Spells g) (one_text g) site ok (IsAway (Spells g) (one_text g) site ok (replicas_of o.seats)) (replicas_of o.seats) c n
      written c n found same opens =
          changed_written (Spells g) (one_text g) site ok (replicas_of o.seats) c n (λ drive block out. same drive block (sym (area_is drive block) ∙ out)) (before c found) (its_each n opens)

    -- two images that were alike are, where the same database was written to both
    pub alike_behind : (Away : Replica → Type 0) (c d n m : Image) → IsAlike g site ok c d → IsChanged (Spells g) (one_text g) site ok Away (replicas_of o.seats) c n → IsChanged (Spells g) (one_text g) site ok Away (replicas_of o.seats) d m
        → IsOpenOn g o n → IsOpenOn g o m → IsAlike g site ok n m
    alike_behind Away c d n m alike one other opens also =
        alike_changed (Spells g) (one_text g) site ok Away (replicas_of o.seats) c d n m o.mark o.table alike one other (its_shown n opens) (its_shown m also)

    -- Slices were written whole.
    module _ (head : Replica → Head) (k : Key) (identity : Identity) (lines : List SliceLine) (count blocks : ℕ) (is : o.seats ≡ seats_with (headed head) (seats_asked k identity lines count blocks)) where
      abbrev rs : List Replica
      rs = replicas_of o.seats

      abbrev on : SliceLine → ℕ → Replica
      on line j = headed head (replica_on k identity line count blocks j)

      its : (s : Replica) → Contains rs s → (line : SliceLine) × Contains lines line × (j : ℕ) × (j < count) × (s ≡ on line j)
      its s has =
          let was = has_now head (seats_asked k identity lines count blocks) s (subst (λ (l : List Seat). Contains (replicas_of l) s) is has) in
          let one = replica_is k identity count blocks lines was.0 was.1 in
          (one.line, one.among, one.number, one.lt, was.2 ∙ ap (headed head) one.is)

      pub have : (line : SliceLine) (j : ℕ) → Contains lines line → j < count → Contains rs (on line j)
      have line j has less =
          subst (λ (l : List Seat). Contains (replicas_of l) (on line j)) (sym is) (now_has head (seats_asked k identity lines count blocks) (replica_on k identity line count blocks j) (replicas_have k identity count blocks lines line j has less))

      whole : (s : Replica) → Contains rs s → (j : ℕ) → (j ≡ 0) ⊎ (j < s.first.count) → (n : Replica) × Contains rs n × AreOne (Spells g) (one_text g) site ok (record { line = s.line; number = j; first = s.first; head = s.head }) n
      whole s has j numbered =
          let one = its s has in
          let few = one.3 in
          let count_is : s.first.count ≡ count = ap (λ (r : Replica). r.first.count) one.4 in
          let less : j < count = elim numbered [ inl none ↦ omega (arith, none, few) | inr below ↦ omega (arith, below, count_is) ] in
          (on one.0 j, have one.0 j one.1 less, record { line = ap (λ (r : Replica). r.line) one.4; first = ap (λ (r : Replica). r.first) one.4; number = refl })

      beside : (c n : Image) → IsSameBeside (places_area lines count blocks) c n → (drive block : ℕ) → areas rs drive block ≡ false → n drive block ≡ c drive block
      beside c n same drive block out = same drive block (false_from_ne_true (places_area lines count blocks drive block) (λ hit.
          let line = any_of (λ (l : SliceLine). range l.at.drive.0 (l.at.start + 16) (count * blocks) drive block) lines hit in
          let at = in_range line.0.at.drive.0 (line.0.at.start + 16) (count * blocks) drive block line.2 in
          let place = in_some count (line.0.at.start + 16) blocks block at.1 at.2 in
          let from = place.2 in
          let to = place.3 in
          let own : area_at (on line.0 place.0) drive block ≡ true =
          subst (λ (d : ℕ). range line.0.at.drive.0 (line.0.at.start + (16 + place.0 * blocks)) blocks d block ≡ true) at.0
          (range_has line.0.at.drive.0 (line.0.at.start + (16 + place.0 * blocks)) blocks block (omega (arith, from)) (omega (arith, to))) in
          false≢true (sym out ∙ any_has (λ (r : Replica). area_at r drive block) rs (on line.0 place.0) (have line.0 place.0 line.1 place.1) own)))

      pub made : (c n : Image) → IsSameBeside (places_area lines count blocks) c n → IsOpenOn g o n → IsChanged (Spells g) (one_text g) site ok (IsClear (Spells g) (one_text g) site ok rs) rs c n
      made c n same opens = changed_made (Spells g) (one_text g) site ok rs c n (beside c n same) (its_each n opens) whole

      -- and nothing else
      pub made_beside : (c n : Image) → IsSameBeside (places_area lines count blocks) c n → IsOpenOn g o n → IsSameBeside (site_area site) c n
      made_beside c n same opens drive block out = beside c n same drive block (areas_in_site (Spells g) (one_text g) site ok n rs (its_each n opens) drive block out)
