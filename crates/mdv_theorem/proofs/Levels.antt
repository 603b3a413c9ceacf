-- Each volume that goes with others, since it lies below them, is there.
use Rattle.std.proofs.Common.{◌≡◌, ◌&&◌, ◌||◌, not, cond, Bool, true, false, List, [], ◌∷◌, filter, flat_map, refl, sym, ◌∙◌}
use Rattle.std.proofs.lemmas.Bool.{or_parts}
use Rattle.std.proofs.lemmas.List.Folds.{list_any-append}
use Rattle.std.specs.List.{list_any}
use Rattle.std.specs.Option.{is_some}
use Rattle.mdv_base.specs.declared.name.VolId.{VolId}
use Rattle.mdv_change.specs.Clear.{is_named, is_no_volume}
use Rattle.mdv_change.specs.Levels.{below_of, falls, is_used_beside, with_level, with_levels}
use Rattle.mdv_components.specs.Bases.{volume_of}
use Rattle.mdv_plan.specs.declared.plan.Plan.{Plan}

module _ (p : Plan) where
  kept_there : (there rest : Bool) (v : VolId) (vs : List VolId) → is_some (volume_of p v) ≡ there → list_any (is_no_volume p) vs ≡ false → list_any (is_no_volume p) (cond (there && rest) (v ∷ vs) vs) ≡ false
  kept_there true true v vs is none = λ i. not (is i) || none i
  kept_there true false v vs is none = none
  kept_there false rest v vs is none = none

  none_falls : (volumes vs : List VolId) → list_any (is_no_volume p) (filter (falls p volumes) vs) ≡ false
  none_falls volumes [] = refl
  none_falls volumes (v ∷ vs) = kept_there (is_some (volume_of p v)) (not (is_named volumes v) && not (is_used_beside p volumes v)) v (filter (falls p volumes) vs) refl (none_falls volumes vs)

  level_there : (volumes : List VolId) → list_any (is_no_volume p) volumes ≡ false → list_any (is_no_volume p) (with_level p volumes) ≡ false
  level_there volumes free =
      let below = flat_map (below_of p) volumes in
      list_any-append (is_no_volume p) volumes (filter (falls p volumes) below) ∙ (λ i. free i || none_falls volumes below i)

  -- where these are there, none is missing with all below them
  pub levels_there : (volumes : List VolId) → list_any (is_no_volume p) volumes ≡ false → list_any (is_no_volume p) (with_levels p volumes) ≡ false
  levels_there volumes free = level_there (with_level p (with_level p volumes)) (level_there (with_level p volumes) (level_there volumes free))

  -- and where none is missing with these they are there
  level_has : (volumes : List VolId) → list_any (is_no_volume p) (with_level p volumes) ≡ false → list_any (is_no_volume p) volumes ≡ false
  level_has volumes free =
      let below = filter (falls p volumes) (flat_map (below_of p) volumes) in
      (or_parts (list_any (is_no_volume p) volumes) (list_any (is_no_volume p) below) (sym (list_any-append (is_no_volume p) volumes below) ∙ free)).0

  pub levels_have : (volumes : List VolId) → list_any (is_no_volume p) (with_levels p volumes) ≡ false → list_any (is_no_volume p) volumes ≡ false
  levels_have volumes free = level_has volumes (level_has (with_level p volumes) (level_has (with_level p (with_level p volumes)) free))
