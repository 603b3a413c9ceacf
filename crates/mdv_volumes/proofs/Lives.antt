-- What a history says of one volume is what happened to that volume.
use Rattle.std.proofs.Common.{◌≡◌, inl, inr, List, [], ◌∷◌, refl, sym, ◌∙◌, subst}
use Rattle.mdv_shelf.proofs.Blocks.{both_ways}
use Rattle.mdv_store_law.proofs.Machine.{after_more, course_more}
use Rattle.mdv_volumes.specs.Below.{Geometry, Key, VolId}
use Rattle.mdv_volumes.specs.Databases.{is_volume}
use Rattle.mdv_volumes.specs.Events as lives
use Rattle.mdv_volumes.specs.Happening.{IsCourse, MayHappen}
use Rattle.mdv_volumes.specs.History.{Deletes, Event, Creation, OfDatabase, OfVolume, Reads, Acknowledges, Shows, Boots, Unsettles, Stops, Crashes, History, events_at, events_of, history_after, history_after_all}
use Rattle.mdv_volumes.specs.HistoryLaws.{VolumesLive}
use Rattle.mdv_volumes.proofs.Databases.{volume_key, volume_number}

module _ (key : Key) (volume : VolId) where
  live_is : (h : History) (es : List Event) → (history_after_all h es).volumes key volume ≡ lives.log_after_all (h.volumes key volume) (events_of key volume es)
  live_is h [] = refl
  live_is h (e ∷ es) = live_is (history_after h e) es ∙ sym (after_more lives.log_after (h.volumes key volume) (events_at key volume e) (events_of key volume es))

  one_may : (g : Geometry) (h : History) (e : Event) → MayHappen g h e → lives.IsCourse (h.volumes key volume) (events_at key volume e)
  one_may g h (Creation other identity) may = tt
  one_may g h (OfDatabase other identity e) may = tt
  one_may g h (OfVolume other beside e) may = elim (both_ways (is_volume key volume other beside)) [
    | inl does ↦ rw does (
      subst (λ (k : Key). lives.MayHappen (h.volumes k volume) e) (sym (volume_key key volume other beside does))
          (subst (λ (v : VolId). lives.MayHappen (h.volumes other v) e) (sym (volume_number key volume other beside does)) may.0),
      tt,
    )
    | inr never ↦ rw never tt
  ]
  one_may g h (Reads other beside at blocks) may = tt
  one_may g h (Acknowledges place other beside at blocks) may = tt
  one_may g h (Shows place other beside at blocks) may = tt
  one_may g h (Deletes place other) may = tt
  one_may g h (Boots other up) may = tt
  one_may g h (Unsettles other drive) may = tt
  one_may g h Stops may = tt
  one_may g h Crashes may = (tt, tt)

  live_may : (g : Geometry) (h : History) (es : List Event) → IsCourse g h es → lives.IsCourse (h.volumes key volume) (events_of key volume es)
  live_may g h [] course = tt
  live_may g h (e ∷ es) course =
      course_more lives.log_after lives.MayHappen (h.volumes key volume) (events_at key volume e) (events_of key volume es) (one_may g h e course.0) (live_may g (history_after h e) es course.1)

pub volumes_live : VolumesLive
volumes_live = record { is = λ key volume h es. live_is key volume h es; may = λ key volume g h es course. live_may key volume g h es course }
