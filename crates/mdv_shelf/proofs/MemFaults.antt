-- What one drive's counts do to those of the shelf.
use Rattle.std.proofs.Common.{◌≡◌, ◌≢◌, ◌⊎◌, ℕ, Err, ◌+◌, ◌-◌, ◌^◌, ◌<◌, ◌≤◌, min, Bool, false, List, [], ◌∷◌, length, map, get_or, set, replicate, refl, sym, ◌∙◌, ap, subst, inl, inr, arith}
use Rattle.std.proofs.lemmas.List.{length-replicate, get_or-replicate, get_or_past, map-set, length-map, get_or-set_same, get_or-set_other, get_or-map}
use Rattle.std.proofs.lemmas.Bool.{cases_lt}
use Rattle.std.proofs.Math.Seq.{map-set_same}
use Rattle.mdv_shelf.specs.Calls.{Part, OnDrive, OnReplies, HasDriveCause, Keeps}
use Rattle.mdv_shelf.proofs.InTime.{is_part}
use Rattle.mdv_base.specs.Causes.{HasCause}
use Rattle.mdv_shelf.specs.MemShelf.{faults_in, fault_count, shelf_sizes, nothing, HasFailed}
use Rattle.mdv_shelf.specs.declared.mem_shelf.MemShelf.{MemShelf}
use Rattle.mdv_shelf.specs.declared.mem_shelf.Health.{Health}

-- a drive that was never lost and never failed
abbrev pub fresh : Health
fresh = record { lost = false; faults = 0 }

module _ (list : List Health) (i : ℕ) (h after : Health) (is : h ≡ get_or list i h) where
  pub same_lost : after.lost ≡ h.lost → map (λ (x : Health). x.lost) (set list i after) ≡ map (λ (x : Health). x.lost) list
  same_lost same = map-set_same (λ (x : Health). x.lost) list i after h (same ∙ ap (λ (x : Health). x.lost) is)

  pub same_fault_list : after.faults ≡ h.faults → map (λ (x : Health). x.faults) (set list i after) ≡ map (λ (x : Health). x.faults) list
  same_fault_list same = map-set_same (λ (x : Health). x.faults) list i after h (same ∙ ap (λ (x : Health). x.faults) is)

  pub one_more : (n : ℕ) → i < length list → after.faults ≡ min (h.faults + n) (2 ^ 64 - 1)
      → get_or (map (λ (x : Health). x.faults) (set list i after)) i 0 ≡ min (get_or (map (λ (x : Health). x.faults) list) i 0 + n) (2 ^ 64 - 1)
  one_more n lt rose =
      ap (λ (l : List ℕ). get_or l i 0) (map-set (λ (x : Health). x.faults) list i after)
      ∙ get_or-set_same (map (λ (x : Health). x.faults) list) i after.faults 0 (omega (arith, length-map list (λ (x : Health). x.faults)))
      ∙ rose
      ∙ ap (λ (k : ℕ). min (k + n) (2 ^ 64 - 1)) (ap (λ (x : Health). x.faults) is ∙ sym (get_or-map (λ (x : Health). x.faults) list i h 0 lt))

  pub one_no_fewer : i < length list → h.faults ≤ after.faults → get_or (map (λ (x : Health). x.faults) list) i 0 ≤ get_or (map (λ (x : Health). x.faults) (set list i after)) i 0
  one_no_fewer lt le = omega (
    arith,
    le,
    ap (λ (l : List ℕ). get_or l i 0) (map-set (λ (x : Health). x.faults) list i after)
        ∙ get_or-set_same (map (λ (x : Health). x.faults) list) i after.faults 0 (omega (arith, length-map list (λ (x : Health). x.faults))),
    ap (λ (x : Health). x.faults) is ∙ sym (get_or-map (λ (x : Health). x.faults) list i h 0 lt),
  )

  pub others_same : (q : ℕ) → q ≢ i → get_or (map (λ (x : Health). x.faults) (set list i after)) q 0 ≡ get_or (map (λ (x : Health). x.faults) list) q 0
  others_same q other =
      ap (λ (l : List ℕ). get_or l q 0) (map-set (λ (x : Health). x.faults) list i after)
      ∙ get_or-set_other (map (λ (x : Health). x.faults) list) i q after.faults 0 other

-- every count is the same where both lists are
pub same_faults : (new old : List Health) (replies : ℕ) → map (λ (x : Health). x.faults) new ≡ map (λ (x : Health). x.faults) old → (part : Part) → faults_in new replies part ≡ faults_in old replies part
same_faults new old replies same (OnDrive q) = ap (λ (l : List ℕ). get_or l q 0) same
same_faults new old replies same OnReplies = refl

-- only one drive's count changed
pub other_faults : (new old : List Health) (replies i : ℕ) → ((q : ℕ) → q ≢ i → get_or (map (λ (x : Health). x.faults) new) q 0 ≡ get_or (map (λ (x : Health). x.faults) old) q 0)
    → (part : Part) → part ≢ OnDrive i → faults_in new replies part ≡ faults_in old replies part
other_faults new old replies i drives (OnDrive q) other = drives q (λ e. other (ap OnDrive e))
other_faults new old replies i drives OnReplies other = refl

-- only the replies' count changed
pub drive_faults : (health : List Health) (now before : ℕ) (part : Part) → part ≢ OnReplies → faults_in health now part ≡ faults_in health before part
drive_faults health now before (OnDrive q) other = refl
drive_faults health now before OnReplies other = absurd (other refl)

-- new drives never failed
pub no_faults : (n : ℕ) (health : List Health) → health ≡ replicate n fresh → (part : Part) → faults_in health 0 part ≡ 0
no_faults n health is OnReplies = refl
no_faults n health is (OnDrive q) = ap (λ (l : List Health). get_or (map (λ (x : Health). x.faults) l) q 0) is ∙ none n q
  where
    none : (n q : ℕ) → get_or (map (λ (x : Health). x.faults) (replicate n fresh)) q 0 ≡ 0
    none n q = elim (cases_lt q n) [
      | inl inside ↦ get_or-map (λ (x : Health). x.faults) (replicate n fresh) q fresh 0 (omega (arith, inside, length-replicate n fresh))
          ∙ ap (λ (x : Health). x.faults) (get_or-replicate n q fresh fresh inside)
      | inr past ↦ get_or_past (map (λ (x : Health). x.faults) (replicate n fresh)) q 0 (omega (arith, past, length-map (replicate n fresh) (λ (x : Health). x.faults), length-replicate n fresh))
    ]

pub none_lost : (sizes : List ℕ) (health : List Health) → health ≡ replicate (length sizes) fresh → map (λ (x : Health). x.lost) health ≡ map (λ (n : ℕ). false) sizes
none_lost sizes health is = ap (λ (l : List Health). map (λ (x : Health). x.lost) l) is ∙ each sizes
  where
    each : (sizes : List ℕ) → map (λ (x : Health). x.lost) (replicate (length sizes) fresh) ≡ map (λ (n : ℕ). false) sizes
    each [] = refl
    each (x ∷ sizes) = ap (λ (l : List Bool). false ∷ l) (each sizes)

-- a failure that rose one count is a cause, and lets no count fall
module _ (old mid new : MemShelf) (part : Part) (blocks : ℕ) (failed : HasFailed part blocks mid new) (before : (p : Part) → fault_count mid p ≡ fault_count old p) where
  pub failed_cause : {T E : Type 0} (e : E) → HasCause {T = T} {E = E} (fault_count old part) (fault_count new part) (Err e)
  failed_cause e = record {
    later = omega (arith, before part, failed.no_fewer_faults);
    failed = omega (arith, before part, failed.fault);
    calm = tt;
  }

  pub failed_others : (p : Part) → p ≢ part → fault_count new p ≡ fault_count old p
  failed_others p other = failed.no_other_fault p other ∙ before p

  no_fewer : (p : Part) → ((p ≡ part) ⊎ (p ≢ part)) → fault_count old p ≤ fault_count new p
  no_fewer p (inl same) = subst (λ (q : Part). fault_count old q ≤ fault_count new q) (sym same) (omega (arith, before part, failed.no_fewer_faults))
  no_fewer p (inr other) = omega (arith, before p, failed.no_other_fault p other)

  pub failed_keeps : shelf_sizes mid ≡ shelf_sizes old → Keeps shelf_sizes fault_count nothing nothing old new
  failed_keeps sizes = record {
    same_sizes = failed.same_sizes ∙ sizes;
    same_rest = refl;
    same_held = refl;
    no_fewer_faults = λ p. no_fewer p (is_part p part);
  }

-- so it is one of a call on a drive
pub failed_on_drive : {T E : Type 0} (old mid new : MemShelf) (drive blocks : ℕ) → HasFailed (OnDrive drive) blocks mid new → ((p : Part) → fault_count mid p ≡ fault_count old p) → (e : E)
    → HasDriveCause {T = T} {E = E} (fault_count old) (fault_count new) drive (Err e)
failed_on_drive old mid new drive blocks failed before e = record {
  own = failed_cause old mid new (OnDrive drive) blocks failed before e;
  others = failed_others old mid new (OnDrive drive) blocks failed before;
}
