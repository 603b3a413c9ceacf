-- As long as no log has two lists of places, each place that a table lists has a replica.
use Rattle.std.proofs.Common.{◌≡◌, List, [], ◌∷◌, refl, sym, ◌∙◌, subst, Contains, true, ℕ, arith}
use Rattle.std.proofs.lemmas.List.Elements.{All-cons}
use Rattle.mdv_shown.proofs.Slots.{never_below}
use Rattle.mdv_store_law.specs.Anew.{IsAnew}
use Rattle.mdv_store_law.specs.Log.{IsNotOlder, IsRising}
use Rattle.mdv_config.specs.Lists.{places_of}
use Rattle.mdv_standing.specs.Below.{Identity, Image, IsBelow, Lists, Log, Place, Site, Table, Version}
use Rattle.mdv_standing.specs.Listed.{HasPlace, HavePlaces}

-- no table is newer than the newest one
pub newest_found : (v : Version) (older : List Version) → IsRising (v ∷ older) → IsNotOlder v.mark (v ∷ older)
newest_found v older rising =
    All-cons (λ (x : Version). x.is_written ≡ true → IsBelow v.mark x.mark → ⊥) v older (λ written below. never_below v.mark v.mark below below)
    (λ k d lt written below. never_below _ v.mark (rising.0 k d lt) below)

pub all_places : (Spells : List ℕ → Table → Type 0) (site : Site) (identity : Identity) (log : Log) (image : Image) → IsAnew log → IsRising log.family → HavePlaces Spells site identity log image
    → (v : Version) (place : Place) → Contains log.family v → Contains (places_of v.table.plan.lists) place → HasPlace Spells site identity image place
all_places Spells site identity log image anew rising have v place one_of listed = by log.family refl
  where
    by : (family : List Version) → log.family ≡ family → HasPlace Spells site identity image place
    by [] e = absurd (none (subst (λ (f : List Version). Contains f v) e one_of))
      where
        none : Contains [] v → ⊥
        none has = absurd (omega (arith, has.1))
    by (newest ∷ older) e =
        let here : Contains log.family newest = subst (λ (f : List Version). Contains f newest) (sym e) (0, omega arith, refl) in
        let same : v.table.plan.lists ≡ newest.table.plan.lists = anew.each v one_of ∙ sym (anew.each newest here) in
        have newest place here (subst (IsNotOlder newest.mark) (sym e) (newest_found newest older (subst IsRising e rising))) (subst (λ (l : Lists). Contains (places_of l) place) same listed)
