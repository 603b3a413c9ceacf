-- A history over drives that begin anew, or go on as they were.
use Rattle.std.proofs.Common.{ℕ, List, [], ◌∷◌, refl}
use Rattle.mdv_databases.proofs.Lasting.{stand_elsewhere, stand_fewer, stand_new}
use Rattle.mdv_volumes.specs.Below.{Area, Geometry, IsDisjoint, IsImage, Key, KeptOutside, Map, Tale, VolId}
use Rattle.mdv_volumes.specs.Histories.{Stands}
use Rattle.mdv_volumes.specs.History.{Crashes, History, Stops, history_after_all}
use Rattle.mdv_volumes.specs.Happening.{IsNamed}
use Rattle.mdv_volumes.specs.HistoryLaws.{IsElsewhere, RestartsGo}
use Rattle.mdv_volumes.specs.Standing.{LeavesNoMore}
use Rattle.mdv_volumes.proofs.Found.{none_found}
use Rattle.mdv_volumes.proofs.Standing.{frames_stand, restarts_stand}

left_image : (t u : Tale) (image : ℕ → ℕ → List ℕ) → LeavesNoMore t u → IsImage u image → IsImage t image
left_image t u image less is = record { each = λ drive block. less drive block (image drive block) (is.each drive block) }

crashed_stands : (g : Geometry) (h : History) (t u : Tale) → LeavesNoMore t u → Stands g h t → Stands g (history_after_all h (Stops ∷ Crashes ∷ [])) u
crashed_stands g h t u less stands = record {
  databases = stand_fewer g h.databases t u (λ image is. left_image t u image less is) stands.databases;
  laid = stands.laid;
  apart = stands.apart;
  volumes = λ key volume v named. (restarts_stand.goes v (h.volumes key volume) t u less (stands.volumes key volume v named)).follows;
}

elsewhere_stands : (g : Geometry) (h : History) (area : Area) (t m : Tale) → IsElsewhere g h.databases area → KeptOutside area t m → Stands g h t → Stands g h m
elsewhere_stands g h area t m apart kept stands = record {
  databases = stand_elsewhere g area apart.slices t m kept h.databases stands.databases;
  laid = stands.laid;
  apart = stands.apart;
  volumes = λ key volume v named. frames_stand.outside v area (h.volumes key volume) t m (disjoint key volume v named) (apart.volumes key volume v named) kept (stands.volumes key volume v named);
} where
  disjoint : (key : Key) (volume : VolId) (v : Map) → IsNamed g h.databases key volume v → IsDisjoint v
  disjoint key volume v named = (stands.laid key named.version named.found).disjoint volume v named.map

pub restarts_go : RestartsGo
restarts_go = record {
  crashed = λ g h t u less stands. record { course = (tt, ((refl, refl), tt)); begins = refl; tells = refl; stands = crashed_stands g h t u less stands };
  ended = λ g h t stands. record {
    course = (tt, tt);
    begins = refl;
    tells = refl;
    stands = record { databases = stands.databases; laid = stands.laid; apart = stands.apart; volumes = stands.volumes };
  };
  elsewhere = elsewhere_stands;
  new_drives = λ g image told none. record {
    databases = stand_new g image told none;
    laid = λ key version found. absurd (none_found version found);
    apart = λ key other volume beside v w differ named. absurd (none_found named.version named.found);
    volumes = λ key volume v named. absurd (none_found named.version named.found);
  };
}
