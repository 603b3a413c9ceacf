-- Blocks that stretches of calls leave as they were.
use Rattle.std.proofs.Common.{◌≡◌, ◌⊎◌, inl, inr, ⊎_elim, ℕ, zero, suc, ◌+◌, ◌-◌, ◌<◌, ◌≤◌, Bool, true, false, ◌||◌, List, [], ◌∷◌, length, refl, sym, ◌∙◌, ap, slice_index_or, arith}
use Rattle.std.proofs.lemmas.Bool.Decides.{nat_tests}
use Rattle.mdv_shelf.specs.Tale.{Tale, last, MayLeave, covers}
use Rattle.mdv_shelf.specs.Area.{Area, IsKept, KeptOutside, joined, nowhere}
use Rattle.mdv_shelf.specs.Calls.{Shows}
use Rattle.mdv_shelf.specs.Settle.{Settling, IsSettled, IsFixed}
use Rattle.mdv_shelf.proofs.Settled.{same_kept, synced_still}

pub kept_more : (t u v : Tale) (drive block : ℕ) → IsKept t u drive block → IsKept u v drive block → IsKept t v drive block
kept_more t u v drive block first second = record {
  last = second.last ∙ first.last;
  left = λ x left. first.left x (second.left x left);
  unwritten = second.unwritten ∙ first.unwritten;
}

pub kept_outside_same : (area : Area) (t : Tale) → KeptOutside area t t
kept_outside_same area t drive block out = same_kept t drive block

pub kept_outside_more : (area : Area) (t u v : Tale) → KeptOutside area t u → KeptOutside area u v → KeptOutside area t v
kept_outside_more area t u v first second drive block out = kept_more t u v drive block (first drive block out) (second drive block out)

-- outside a larger area more is kept
pub kept_outside_wider : (small large : Area) (t u : Tale) → ((drive block : ℕ) → large drive block ≡ false → small drive block ≡ false) → KeptOutside small t u → KeptOutside large t u
kept_outside_wider small large t u within kept drive block out = kept drive block (within drive block out)

pub neither : (a b : Bool) → a || b ≡ false → (a ≡ false) × (b ≡ false)
neither true b is = cc
neither false true is = cc
neither false false is = (refl, refl)

pub kept_outside_left : (a b : Area) (t u : Tale) → KeptOutside a t u → KeptOutside (joined a b) t u
kept_outside_left a b t u kept drive block out = kept drive block (neither (a drive block) (b drive block) out).0

pub kept_outside_right : (a b : Area) (t u : Tale) → KeptOutside b t u → KeptOutside (joined a b) t u
kept_outside_right a b t u kept drive block out = kept drive block (neither (a drive block) (b drive block) out).1

pub before_range : (drive at count block : ℕ) → block < at → covers drive at count drive block ≡ false
before_range drive at count block lt = grind (arith, nat_tests)

pub behind_range : (drive at count block : ℕ) → at + count ≤ block → covers drive at count drive block ≡ false
behind_range drive at count block le = grind (arith, nat_tests)

-- a range within a range
pub within_range : (drive small_at small large_at large other block : ℕ) → large_at ≤ small_at → small_at + small ≤ large_at + large → covers drive large_at large other block ≡ false → covers drive small_at small other block ≡ false
within_range drive small_at small large_at large other block from to out = grind (arith, nat_tests)

-- a block that is written alone
module _ (drive at : ℕ) (x : List ℕ) where
  alone : covers drive at 1 drive at ≡ true
  alone = grind (arith, nat_tests)

  pub settling_one : (t m : Tale) → Settling drive at (x ∷ []) t m → (y : List ℕ) → MayLeave m drive at y → MayLeave t drive at y ⊎ (y ≡ x)
  settling_one t m settling y left =
      let zeroth : at - at ≡ 0 = omega arith in
      let is : slice_index_or (x ∷ []) (at - at) [] ≡ x = ap (λ (i : ℕ). slice_index_or (x ∷ []) i []) zeroth in
      ⊎_elim (λ old. inl old) (λ new. inr (new ∙ is)) ((settling.inside at alone).left y left)

  pub settled_one : (u : Tale) → IsSettled drive at (x ∷ []) u → last u drive at ≡ x
  settled_one u settled = ap (λ (b : ℕ). last u drive b) (omega arith) ∙ sym (settled.shows 0 (omega arith))

  pub settled_only : (u : Tale) → IsSettled drive at (x ∷ []) u → (y : List ℕ) → MayLeave u drive at y → y ≡ x
  settled_only u settled y left = settled.synced at y left ∙ settled_one u settled

pub fixed_settled : (drive at : ℕ) (blocks : List (List ℕ)) (u : Tale) → IsSettled drive at blocks u → IsFixed drive at blocks u
fixed_settled drive at blocks u settled = record {
  fixed_shows = settled.shows;
  fixed_only = λ k lt x left. settled.synced (at + k) x left ∙ sym (settled.shows k lt);
}

pub fixed_kept : (drive at : ℕ) (blocks : List (List ℕ)) (t m : Tale) → ((k : ℕ) → k < length blocks → IsKept t m drive (at + k)) → IsFixed drive at blocks t → IsFixed drive at blocks m
fixed_kept drive at blocks t m kept fixed = record {
  fixed_shows = λ k lt. fixed.fixed_shows k lt ∙ sym (kept k lt).last;
  fixed_only = λ k lt x left. fixed.fixed_only k lt x ((kept k lt).left x left);
}

-- one block more in front
pub shows_more : (t : Tale) (drive at : ℕ) (x : List ℕ) (blocks : List (List ℕ)) → last t drive at ≡ x → Shows t drive (at + 1) blocks → Shows t drive at (x ∷ blocks)
shows_more t drive at x blocks here behind zero lt = sym here ∙ ap (λ (b : ℕ). last t drive b) (omega arith)
shows_more t drive at x blocks here behind (suc k) lt = behind k (omega arith) ∙ ap (λ (b : ℕ). last t drive b) (omega arith)

-- blocks that are on the disk stay there
pub settled_still : (drive at : ℕ) (blocks : List (List ℕ)) (t m : Tale) → KeptOutside nowhere t m → IsSettled drive at blocks t → IsSettled drive at blocks m
settled_still drive at blocks t m kept settled = record {
  shows = λ k lt. settled.shows k lt ∙ sym (kept drive (at + k) refl).last;
  synced = synced_still drive t m (λ block. kept drive block refl) settled.synced;
}
