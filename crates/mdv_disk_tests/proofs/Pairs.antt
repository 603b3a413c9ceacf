-- The stripe of two components that the tests write and read: where its blocks lie.
use Rattle.std.proofs.Common.{◌≡◌, ◌<◌, ℕ, zero, suc, List, [], ◌∷◌, length, map, arith, sym, subst, refl, inl}
use Rattle.mdv_map.specs.Maps.{AreDisjoint, IsDisjoint, Map, column_at, run_map}
use Rattle.mdv_map.proofs.Covering.{runs_lie}
use Rattle.mdv_dev.specs.Pieces.{IsOn}
use Rattle.mdv_dev.specs.declared.run.DriveRun.{DriveRun}
use Rattle.mdv_dev.proofs.Runs.{run_on}
use Rattle.mdv_stripe.specs.Stripes.{striped}
use Rattle.mdv_stripe.proofs.Legs.{stripes_stand}

abbrev pair : List Map
pair = run_map 0 100 70 ∷ (run_map 1 0 79 ∷ [])

abbrev drives : List ℕ
drives = 170 ∷ (79 ∷ [])

each_on : (i : ℕ) → i < length pair → IsOn drives (column_at pair i)
each_on zero lt = run_on 0 100 70 drives (omega arith) (omega arith)
each_on (suc zero) lt = run_on 1 0 79 drives (omega arith) (omega arith)
each_on (suc (suc i)) lt = absurd (omega (arith, lt))

each_apart : (i j : ℕ) → i < length pair → j < length pair → (i ≡ j → ⊥) → AreDisjoint (column_at pair i) (column_at pair j)
each_apart zero zero a b other = absurd (other refl)
each_apart zero (suc zero) a b other = runs_lie.apart 0 100 70 1 0 79 (inl (λ same. absurd (omega (arith, same))))
each_apart (suc zero) zero a b other = runs_lie.apart 1 0 79 0 100 70 (inl (λ same. absurd (omega (arith, same))))
each_apart (suc zero) (suc zero) a b other = absurd (other refl)
each_apart (suc (suc i)) j a b other = absurd (omega (arith, a))
each_apart zero (suc (suc j)) a b other = absurd (omega (arith, b))
each_apart (suc zero) (suc (suc j)) a b other = absurd (omega (arith, b))

each_disjoint : (i : ℕ) → i < length pair → IsDisjoint (column_at pair i)
each_disjoint zero lt = runs_lie.disjoint 0 100 70
each_disjoint (suc zero) lt = runs_lie.disjoint 1 0 79
each_disjoint (suc (suc i)) lt = absurd (omega (arith, lt))

abbrev components : List DriveRun
components = record { drive = record { 0 = 0 }; first = 100; count = 70 } ∷ (record { drive = record { 0 = 1 }; first = 0; count = 79 } ∷ [])

abbrev map_of_run : DriveRun → Map
map_of_run run = run_map run.drive.0 run.first run.count

-- it lies on the drives
pub pair_on : (sizes : List ℕ) (interlace : ℕ) (runs : List DriveRun) → sizes ≡ drives → interlace ≡ 16 → runs ≡ components → IsOn sizes (striped interlace (map map_of_run runs))
pair_on sizes interlace runs sizes_are interlace_is are =
    subst (λ (ss : List ℕ). IsOn ss (striped interlace (map map_of_run runs))) (sym sizes_are)
    (subst (λ (n : ℕ). IsOn drives (striped n (map map_of_run runs))) (sym interlace_is)
    (subst (λ (rs : List DriveRun). IsOn drives (striped 16 (map map_of_run rs))) (sym are) (stripes_stand.on drives 16 pair (omega arith) each_on)))

-- each block of it on one block of them
pub pair_disjoint : (interlace : ℕ) (runs : List DriveRun) → interlace ≡ 16 → runs ≡ components → IsDisjoint (striped interlace (map map_of_run runs))
pair_disjoint interlace runs interlace_is are =
    subst (λ (n : ℕ). IsDisjoint (striped n (map map_of_run runs))) (sym interlace_is)
    (subst (λ (rs : List DriveRun). IsDisjoint (striped 16 (map map_of_run rs))) (sym are) (stripes_stand.disjoint 16 pair (omega arith) (record { each = each_disjoint; apart = each_apart })))
