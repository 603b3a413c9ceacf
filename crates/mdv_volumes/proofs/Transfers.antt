-- Blocks of a volume are written and read.
use Rattle.std.proofs.Common.{◌≡◌, ◌+◌, ◌<◌, ◌≤◌, ℕ, true, false, List, [], ◌∷◌, ◌++◌, filter, length, map, slice_index_or, All, Contains, refl, sym, ◌∙◌, ap, subst, arith}
use Rattle.std.proofs.lemmas.Bool.Decides.{nat_tests}
use Rattle.std.proofs.lemmas.List.Elements.{All-head, All-tail}
use Rattle.mdv_map.proofs.Covering.{areas_cover}
use Rattle.mdv_map.proofs.Following.{answers_follow, copies_follow, flushes_follow, issues_follow}
use Rattle.mdv_databases.proofs.Lasting.{stand_elsewhere}
use Rattle.mdv_volumes.specs.Below.{AllOnDisk, AllRead, Among, AreLastIssued, BlockLog, DriveNo, Follows, Geometry, HasDriveBlock, IsDisjoint, Key, Map, Rewriting, Stand, Tale, VolId, VolumeLog, area_of_map, is_among, last, only}
use Rattle.mdv_volumes.specs.Databases.{is_volume}
use Rattle.mdv_volumes.specs.Events.{Answers, Flushes, Issues, VolumeEvent}
use Rattle.mdv_volumes.specs.Events as lives
use Rattle.mdv_volumes.specs.Happening.{HasRange, HaveOnly, IsNamed, IsThere}
use Rattle.mdv_volumes.specs.Histories.{Happens, Stands}
use Rattle.mdv_volumes.specs.History.{Deed, Wrote, OfVolume, Unsettles, History, events_of, history_after, is_within}
use Rattle.mdv_volumes.specs.HistoryLaws.{HasCopyOn, IsWritten, ReadsGo, WritesGo}
use Rattle.mdv_volumes.specs.Tables.{AreLaid}
use Rattle.mdv_volumes.proofs.Databases.{volume_itself}
use Rattle.mdv_volumes.proofs.Lives.{volumes_live}
use Rattle.mdv_volumes.proofs.Logs.{writes_last}
use Rattle.mdv_volumes.proofs.Standing.{frames_stand, reads_stand, writes_stand}
use Rattle.mdv_volumes.proofs.Volumes.{after_own, other_map, same_map, stands_after, there_found, there_named}

more_than_one : (ys : List (List ℕ)) (y x z : List ℕ) → y ∷ ys ≡ x ∷ [] → Among ys z → ⊥
more_than_one [] y x z same none = none
more_than_one (w ∷ ws) y x z same among = cc same

-- drives on each of which one of these blocks has a copy, and isn't one value, become unsteady
unsettled : (g : Geometry) (key : Key) (volume : VolId) (v : Map) (at count : ℕ) → at + count ≤ v.blocks → (m : Tale) (drives : List DriveNo) (h : History) → IsThere g h.databases key volume v
    → ((k drive block : ℕ) → k < count → HasDriveBlock (v.copies (at + k)) drive block → (x : List ℕ) → h.volumes key volume (at + k) ≡ only x → ⊥)
    → All (HasCopyOn v at count) drives → Stands g h m → Happens g h (map (Unsettles key) drives) [] [] m
unsettled g key volume v at count within m [] h there torn each stands = record { course = tt; begins = refl; tells = refl; stands = stands }
unsettled g key volume v at count within m (drive ∷ drives) h there torn each stands =
    let on = All-head (HasCopyOn v at count) drive drives each in
    let below = on.within in
    let then : Stands g (history_after h (Unsettles key drive)) m = record { databases = stands.databases; laid = stands.laid; apart = stands.apart; volumes = stands.volumes } in
    let rest = unsettled g key volume v at count within m drives (history_after h (Unsettles key drive)) there torn (All-tail (HasCopyOn v at count) drive drives each) then in
    record {
      course = (record { volume = volume; map = v; there = there; number = at + on.number; below = omega (arith, within, below); block = on.block; lies = on.lies; torn = torn on.number drive.0 on.block below on.lies }, rest.course);
      begins = rest.begins;
      tells = rest.tells;
      stands = rest.stands;
    }

module _ (g : Geometry) (h : History) (key : Key) (volume : VolId) (at : ℕ) (blocks : List (List ℕ)) (t : Tale) (range : HasRange g h.databases key volume at (length blocks)) (stands : Stands g h t) where
  laid : AreLaid g range.there.newest.table
  laid = stands.laid key range.there.newest (there_found g h t stands key volume range.map range.there)

  one : IsDisjoint range.map
  one = laid.disjoint volume range.map range.there.map

  -- no database has a block of it
  databases_stay : (m : Tale) → Rewriting range.map at blocks t m → Stand g h.databases m
  databases_stay m rewriting = stand_elsewhere g (area_of_map range.map) (laid.clear volume range.map range.there.map) t m (areas_cover.kept range.map at blocks t m range.within rewriting) h.databases stands.databases

  others_stay : (m : Tale) → Rewriting range.map at blocks t m → (other : Key) (beside : VolId) (w : Map) → is_volume other beside key volume ≡ false → IsNamed g h.databases other beside w → Follows w (h.volumes other beside) m
  others_stay m rewriting other beside w away named =
      let laid = stands.laid other named.version named.found in
      frames_stand.elsewhere w range.map at blocks (h.volumes other beside) t m (laid.disjoint beside w named.map) (other_map g h t stands key volume range.map range.there other beside w away named) range.within rewriting
      (stands.volumes other beside w named)

  follows : Follows range.map (h.volumes key volume) t
  follows = stands.volumes key volume range.map (there_named g h t stands key volume range.map range.there)

  -- they are issued
  pub issued_goes : (m : Tale) → Rewriting range.map at blocks t m → Happens g h (OfVolume key volume (Issues at blocks) ∷ []) (Wrote key volume at blocks ∷ []) [] m
  issued_goes m rewriting = record {
    course = ((tt, range), tt);
    begins = refl;
    tells = refl;
    stands = stands_after g h key volume (Issues at blocks) t m stands (databases_stay m rewriting)
        (λ w named. subst (λ (x : Map). Follows x (lives.log_after (h.volumes key volume) (Issues at blocks)) m) (sym (same_map g h t stands key volume range.map range.there w named))
        (writes_stand.issued range.map at blocks (h.volumes key volume) t m one range.within rewriting follows).follows) (others_stay m rewriting);
  }

  -- then a block of theirs that has a copy isn't one value: a read gave another before, or the same
  torn_at : (k drive block : ℕ) → k < length blocks → HasDriveBlock (range.map.copies (at + k)) drive block → (x : List ℕ) → (history_after h (OfVolume key volume (Issues at blocks))).volumes key volume (at + k) ≡ only x → ⊥
  torn_at k drive block lt has x is =
      let within = range.within in
      let old = (copies_follow.each range.map (h.volumes key volume) t follows).reads (at + k) drive block (omega (arith, within, lt)) has in
      let new = issues_follow.reads at blocks (h.volumes key volume) k lt in
      let own = ap (λ (l : VolumeLog). (l (at + k)).reads) (after_own g h key volume (Issues at blocks) t t stands) in
      more_than_one (h.volumes key volume (at + k)).reads (slice_index_or blocks k []) x (last t drive block) (sym new ∙ sym own ∙ ap (λ (l : BlockLog). l.reads) is) old

  pub torn_goes : (m : Tale) (drives : List DriveNo) → Rewriting range.map at blocks t m → All (HasCopyOn range.map at (length blocks)) drives → Happens g h (OfVolume key volume (Issues at blocks) ∷ map (Unsettles key) drives) (Wrote key volume at blocks ∷ []) [] m
  torn_goes m drives rewriting each =
      let issued = issued_goes m rewriting in
      let rest = unsettled g key volume range.map at (length blocks) range.within m drives (history_after h (OfVolume key volume (Issues at blocks))) range.there torn_at each issued.stands in
      record { course = (issued.course.0, rest.course); begins = ap (λ (l : List Deed). Wrote key volume at blocks ∷ l) rest.begins; tells = rest.tells; stands = rest.stands }

-- an event of a volume where nothing is done on the drives
module _ (g : Geometry) (h : History) (key : Key) (volume : VolId) (e : VolumeEvent) (t : Tale) (stands : Stands g h t) where
  pub noted : ((w : Map) → IsNamed g h.databases key volume w → Follows w (lives.log_after (h.volumes key volume) e) t) → Stands g (history_after h (OfVolume key volume e)) t
  noted own = stands_after g h key volume e t t stands stands.databases own (λ other beside w away named. stands.volumes other beside w named)

among_own : (at count k : ℕ) → k < count → is_among at count (at + k) ≡ true
among_own at count k lt = grind (arith, nat_tests)

contains_one : {A : Type 0} (x : A) (xs ys : List A) → Contains ((x ∷ xs) ++ ys) x
contains_one x xs ys = (0, omega arith, refl)

module _ (g : Geometry) (h : History) (key : Key) (volume : VolId) (at : ℕ) (blocks : List (List ℕ)) (t u : Tale) (range : HasRange g h.databases key volume at (length blocks)) (stands : Stands g h t)
    (rewriting : Rewriting range.map at blocks t u) (read : AllRead range.map at blocks u) (on : AllOnDisk range.map at (length blocks) u) where
  abbrev first : History
  first = history_after h (OfVolume key volume (Issues at blocks))

  abbrev second : History
  second = history_after first (OfVolume key volume (Answers at blocks))

  is_map : (w : Map) → IsNamed g h.databases key volume w → range.map ≡ w
  is_map w named = sym (same_map g h t stands key volume range.map range.there w named)

  first_stands : Stands g first u
  first_stands = (issued_goes g h key volume at blocks t range stands u rewriting).stands

  second_stands : Stands g second u
  second_stands = noted g first key volume (Answers at blocks) u first_stands (λ w named.
      answers_follow.follows w at blocks (first.volumes key volume) u (subst (λ (x : Map). AllRead x at blocks u) (is_map w named) read) (first_stands.volumes key volume w named))

  third_stands : Stands g (history_after second (OfVolume key volume (Flushes at (length blocks)))) u
  third_stands = noted g second key volume (Flushes at (length blocks)) u second_stands (λ w named.
      flushes_follow.follows w at (length blocks) (second.volumes key volume) u (subst (λ (x : Map). AllOnDisk x at (length blocks) u) (is_map w named) on) (second_stands.volumes key volume w named))

  last_issued : AreLastIssued (first.volumes key volume) at blocks
  last_issued = subst (λ (l : VolumeLog). AreLastIssued l at blocks) (sym (after_own g h key volume (Issues at blocks) t u stands)) (issues_follow.newest at blocks (h.volumes key volume))

  within_itself : is_within key volume at (length blocks) (Wrote key volume at blocks) ≡ true
  within_itself = let here = volume_itself key volume in rw here (grind (arith, nat_tests))

  -- then each block has its value alone
  abbrev settled : List VolumeEvent
  settled = Answers at blocks ∷ Flushes at (length blocks) ∷ []

  settled_events : events_of key volume (OfVolume key volume (Answers at blocks) ∷ OfVolume key volume (Flushes at (length blocks)) ∷ []) ≡ settled
  settled_events = let here = volume_itself key volume in rw here refl

  have_only : HaveOnly ((history_after second (OfVolume key volume (Flushes at (length blocks)))).volumes key volume) at blocks
  have_only k lt =
      let is = volumes_live.is key volume first (OfVolume key volume (Answers at blocks) ∷ OfVolume key volume (Flushes at (length blocks)) ∷ []) ∙ ap (lives.log_after_all (first.volumes key volume)) settled_events in
      subst (λ (l : VolumeLog). l (at + k) ≡ only (slice_index_or blocks k [])) (sym is) (writes_last.flushed (first.volumes key volume) at blocks [] at (length blocks) k lt (last_issued, tt) tt tt refl (among_own at (length blocks) k lt))

  pub written_goes : IsWritten g h key volume at blocks u
  written_goes = record {
    happens = record { course = ((tt, range), ((last_issued, range), ((tt, tt), tt))); begins = refl; tells = refl; stands = third_stands };
    can_tell = record {
      untold = let is = within_itself in rw is (contains_one (Wrote key volume at blocks) (filter (is_within key volume at (length blocks)) h.answered) h.untold);
      range = range;
      only = have_only;
    };
  }

pub writes_go : WritesGo
writes_go = record {
  issued = λ g h key volume at blocks t m range stands rewriting. issued_goes g h key volume at blocks t range stands m rewriting;
  torn = λ g h key volume at blocks t m range drives stands rewriting each. torn_goes g h key volume at blocks t range stands m drives rewriting each;
  done = λ g h key volume at blocks t u range stands rewriting read on. written_goes g h key volume at blocks t u range stands rewriting read on;
}

pub reads_go : ReadsGo
reads_go g h key volume at blocks t range stands copies read = record {
  happens = record {
    course = ((range, reads_stand.seen range.map at blocks (h.volumes key volume) t range.within copies read (follows g h key volume at blocks t range stands)), tt);
    begins = refl;
    tells = refl;
    stands = record { databases = stands.databases; laid = stands.laid; apart = stands.apart; volumes = stands.volumes };
  };
  untold = (0, omega arith, refl);
}
