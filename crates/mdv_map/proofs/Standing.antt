-- What requests know of their blocks, while others work.
use Rattle.std.proofs.Common.{◌⊎◌, inl, inr, ⊎_elim, ℕ, ◌+◌, ◌≤◌, Bool, List, length, sym, ◌∙◌, arith}
use Rattle.mdv_map.specs.Below.{Tale, last}
use Rattle.mdv_map.specs.Maps.{Map, IsDisjoint, AreDisjoint, cut_map, mirror_map}
use Rattle.mdv_map.specs.Requests.{AllOnDisk, AllRead, AreCopiesKept, AreRead, OnDrives, Rewriting}
use Rattle.mdv_map.specs.Laws.{RequestsStand}
use Rattle.mdv_map.proofs.Combining.{cut_copies}
use Rattle.mdv_map.proofs.Copies.{reading_of, copy_of, in_either}

module _ (v : Map) (at : ℕ) (t m : Tale) where
  reads_stay : (count : ℕ) (blocks : List (List ℕ)) → AreCopiesKept v at count t m → AreRead v at count blocks t → AreRead v at count blocks m
  reads_stay count blocks kept all k x lt reading =
      let copy = copy_of (last m) (v.copies (at + k)) x reading in
      copy.is ∙ (kept k copy.drive copy.block lt copy.has).last ∙ all k (last t copy.drive copy.block) lt (reading_of (last t) (v.copies (at + k)) copy.drive copy.block copy.has)

  on_drives_stay : (passes : ℕ → Bool) (count : ℕ) → AreCopiesKept v at count t m → OnDrives v passes at count t → OnDrives v passes at count m
  on_drives_stay passes count kept on k drive block x lt has listed left =
      let same = kept k drive block lt has in on k drive block x lt has listed (same.left x left) ∙ sym same.last

  on_disk_stays : (count : ℕ) → AreCopiesKept v at count t m → AllOnDisk v at count t → AllOnDisk v at count m
  on_disk_stays count kept on k drive block x lt has left = let same = kept k drive block lt has in on k drive block x lt has (same.left x left) ∙ sym same.last

  kept_beside : (count from : ℕ) (news : List (List ℕ)) → IsDisjoint v → at + count ≤ v.blocks → from + length news ≤ v.blocks → (at + count ≤ from) ⊎ (from + length news ≤ at) → Rewriting v from news t m → AreCopiesKept v at count t m
  kept_beside count from news one within in_v away rewriting k drive block lt has =
      rewriting.outside drive block (λ j below owned.
      let same = one.apart (from + j) (at + k) drive block (omega arith) (omega arith) owned (one.within (at + k) drive block (omega arith) has) in
      elim away [ inl before ↦ absurd (omega (arith, before, same)) | inr behind ↦ absurd (omega (arith, behind, same)) ])

  kept_elsewhere : (w : Map) (count from : ℕ) (news : List (List ℕ)) → IsDisjoint v → AreDisjoint v w → at + count ≤ v.blocks → from + length news ≤ w.blocks → Rewriting w from news t m → AreCopiesKept v at count t m
  kept_elsewhere w count from news one apart within in_w rewriting k drive block lt has =
      rewriting.outside drive block (λ j below owned. apart (at + k) (from + j) drive block (omega arith) (omega arith) (one.within (at + k) drive block (omega arith) has) owned)

both_read : (v w : Map) (at : ℕ) (blocks : List (List ℕ)) (t : Tale) → AllRead v at blocks t → AllRead w at blocks t → AllRead (mirror_map v w) at blocks t
both_read v w at blocks t one other k x lt reading =
    let copy = copy_of (last t) ((mirror_map v w).copies (at + k)) x reading in
    copy.is
    ∙ ⊎_elim (λ left. one k (last t copy.drive copy.block) lt (reading_of (last t) (v.copies (at + k)) copy.drive copy.block left))
    (λ right. other k (last t copy.drive copy.block) lt (reading_of (last t) (w.copies (at + k)) copy.drive copy.block right))
    (in_either (v.copies (at + k)) (w.copies (at + k)) copy.drive copy.block copy.has)

fewer_read : (usable : ℕ → Bool) (v : Map) (at : ℕ) (blocks : List (List ℕ)) (t : Tale) → AllRead v at blocks t → AllRead (cut_map usable v) at blocks t
fewer_read usable v at blocks t all k x lt reading =
    let copy = copy_of (last t) ((cut_map usable v).copies (at + k)) x reading in
    let has = (cut_copies usable v (at + k) copy.drive copy.block copy.has).1 in
    copy.is ∙ all k (last t copy.drive copy.block) lt (reading_of (last t) (v.copies (at + k)) copy.drive copy.block has)

pub requests_stand : RequestsStand
requests_stand = record {
  reads = λ v at count blocks t m kept all. reads_stay v at t m count blocks kept all;
  on_drives = λ v passes at count t m kept on. on_drives_stay v at t m passes count kept on;
  on_disk = λ v at count t m kept on. on_disk_stays v at t m count kept on;
  beside = λ v at count from news t m one within in_v away rewriting. kept_beside v at t m count from news one within in_v away rewriting;
  elsewhere = λ v w at count from news t m one apart within in_w rewriting. kept_elsewhere v at t m w count from news one apart within in_w rewriting;
  everywhere = λ v passes at count t listed on k drive block x lt has left. on k drive block x lt has (listed k drive block lt has) left;
  both = both_read;
  fewer = fewer_read;
}
