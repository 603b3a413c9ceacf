-- What what is to be printed is refused for.
use Rattle.std.proofs.Common.{Bor, ◌≡◌, if◌then◌else◌, not, Bool, true, false, List, ◌++◌, Option, Some, None, refl, sym, ap, ◌∙◌}
use Rattle.std.specs.List.{list_any}
use Rattle.std.specs.Option.{is_none}
use Rattle.std.specs.Prelude.{is_some, option_copied}
use Rattle.mdv_components.specs.Bases.{volume_of}
use Rattle.mdv_base.specs.Order.{first_refusal, where_so}
use Rattle.mdv_base.specs.declared.name.Named.{Named}
use Rattle.mdv_base.specs.declared.name.Named.TheVariants as named
use Rattle.mdv_base.specs.declared.name.VolId.{VolId}
use Rattle.mdv_base.specs.declared.refusal.Refusal.TheVariants.{NoSuchPool, NoSuchVolume}
use Rattle.mdv_engine_law.specs.Refusals.{held_of_names, names_no_volume, names_pool}
use Rattle.mdv_plan.specs.declared.plan.Plan.{Plan}
use Rattle.mdv_plan.specs.declared.volume.Volume.{Volume}

-- by whether a volume of that number is found
pub names_by : (p : Plan) (number : VolId) (found : Option (Bor Volume)) (b : Bool) → is_some found ≡ not b → option_copied found ≡ volume_of p number → b ≡ names_no_volume p (named.Volume number)
names_by p number found b is same = by found b is ∙ ap is_none same where
  by : (o : Option (Bor Volume)) (b : Bool) → is_some o ≡ not b → b ≡ is_none (option_copied o)
  by None true is = refl
  by None false is = absurd (cc (is))
  by (Some v) true is = absurd (cc (is))
  by (Some v) false is = refl

-- the first of the two causes
pub first_of_names : (missing pools : Bool) → first_refusal (where_so missing NoSuchVolume ++ where_so pools NoSuchPool) ≡ (if missing then Some NoSuchVolume else (if pools then Some NoSuchPool else None))
first_of_names true true = refl
first_of_names true false = refl
first_of_names false true = refl
first_of_names false false = refl

pub told_of_names : (p : Plan) (names : List Named) (missing pools : Bool) → list_any (names_no_volume p) names ≡ missing → list_any names_pool names ≡ pools
    → (if missing then Some NoSuchVolume else (if pools then Some NoSuchPool else None)) ≡ first_refusal (held_of_names p names)
told_of_names p names missing pools one two =
    sym (first_of_names missing pools) ∙ sym (λ i. first_refusal (where_so (one i) NoSuchVolume ++ where_so (two i) NoSuchPool))
