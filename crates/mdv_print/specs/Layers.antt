-- Plans whose volumes lie in layers, and each volume told once.
use Rattle.std.specs.Prelude.{◌≡◌, ◌≢◌, ◌<◌, ◌≤◌, ◌==◌, ℕ, true, Some, List, All, AllPairs}
use Rattle.std.specs.List.{find}
use Rattle.mdv_plan.specs.Parents.{names_volume}
use Rattle.mdv_plan.specs.Sorted.{IsAscending}
use Rattle.mdv_print.specs.Below.{OneVolume, Plan, VolId}
use Rattle.mdv_print.specs.Order.{volume_of}

-- each volume lies higher than those that it names, and none lies higher than so much; volumes stand in ascending order
pub record IsLayered (p : Plan) : Type 0 where
  pub ascending : IsAscending (λ x. x.number.0) p.volumes
  pub height : ℕ → ℕ
  pub most : ℕ
  pub bounded : (n : ℕ) → height n ≤ most
  pub lower : (x : OneVolume) (v : VolId) → volume_of p x.number ≡ Some x → names_volume v x.kind ≡ true → height v.0 < height x.number.0

-- the volumes are those of the plan, each once
pub record AreAllVolumes (p : Plan) (told : List OneVolume) : Type 0 where
  pub of_plan : All (λ x. volume_of p x.number ≡ Some x) told
  pub once : AllPairs (λ x y. x.number.0 ≢ y.number.0) told
  pub each : (v : VolId) (w : OneVolume) → volume_of p v ≡ Some w → find (λ x. x.number.0 == v.0) told ≡ Some w
