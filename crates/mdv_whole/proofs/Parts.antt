-- Volumes that are parted in place, one after another.
use Rattle.std.proofs.Common.{◌≡◌, ◌<◌, ◌+◌, ℕ, sym, ◌∙◌, ap, List, [], ◌∷◌, ◌++◌, length, get_or, set, take, drop, map, arith}
use Rattle.std.proofs.lemmas.Grind.{drop_more_same}
use Rattle.std.proofs.lemmas.List.{drop-set-lt, get_or-drop, map_more}
use Rattle.mdv_whole.specs.Below.{RecordedVolume, Volume, VolumeStatus}
use Rattle.mdv_whole.specs.Parted.{plan_volume, noted_volume}

-- as far as the first so many; those behind are as they were
pub record AreParted (was now : List RecordedVolume) (i : ℕ) (planned : List Volume) (noted : List VolumeStatus) : Type 0 where
  pub plan : planned ≡ map plan_volume (take i was)
  pub notes : noted ≡ map noted_volume (take i was)
  pub behind : drop i now ≡ drop i was

first_of : {A : Type 0} (i : ℕ) (xs : List A) (d : A) → get_or (drop i xs) 0 d ≡ get_or xs i d
first_of i xs d = let here : i + 0 ≡ i = omega arith in get_or-drop i xs 0 d ∙ ap (λ (n : ℕ). get_or xs n d) here

pub parted_more : {was now new : List RecordedVolume} {i : ℕ} {planned : List Volume} {noted : List VolumeStatus} (v w : RecordedVolume) (p : Volume) (n : VolumeStatus) → i < length was → v ≡ get_or now i v → p ≡ plan_volume v → n ≡ noted_volume v → new ≡ set now i w → AreParted was now i planned noted → AreParted was new (i + 1) (planned ++ p ∷ []) (noted ++ n ∷ [])
parted_more {was} {now} {new} {i} v w p n within is one other set_is parted =
    let same : v ≡ get_or was i v = is ∙ sym (first_of i now v) ∙ ap (λ (l : List RecordedVolume). get_or l 0 v) parted.behind ∙ first_of i was v in
    record {
      plan =
          ap (λ (l : List Volume). l ++ p ∷ []) parted.plan
          ∙ ap (λ (q : Volume). map plan_volume (take i was) ++ q ∷ []) (one ∙ ap plan_volume same)
          ∙ sym (map_more plan_volume was i v within);
      notes =
          ap (λ (l : List VolumeStatus). l ++ n ∷ []) parted.notes
          ∙ ap (λ (q : VolumeStatus). map noted_volume (take i was) ++ q ∷ []) (other ∙ ap noted_volume same)
          ∙ sym (map_more noted_volume was i v within);
      behind = ap (drop (i + 1)) set_is ∙ drop-set-lt (i + 1) now i w (omega arith) ∙ drop_more_same now was i parted.behind;
    }
