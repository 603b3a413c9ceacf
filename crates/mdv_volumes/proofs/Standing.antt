-- One volume's standing over requests, crashes and boots, and where its log begins.
use Rattle.std.proofs.Common.{◌≡◌, inl, inr, ⊎_elim, ℕ, ◌+◌, ◌<◌, ◌≤◌, nat_le, true, false, Bool, List, [], ◌∷◌, length, refl, sym, ◌∙◌, subst, arith}
use Rattle.mdv_shelf.specs.Tale.{MayLeave, values}
use Rattle.mdv_shelf.proofs.Blocks.{both_ways, last_may_be_left}
use Rattle.mdv_shelf.proofs.Everywhere.{last_image}
use Rattle.mdv_map.specs.Maps.{cut_map}
use Rattle.mdv_map.proofs.Combining.{cut_copies}
use Rattle.mdv_map.proofs.Copies.{copy_of, reading_of}
use Rattle.mdv_map.proofs.Covering.{areas_cover}
use Rattle.mdv_map.proofs.Following.{all_copies, answers_follow, beginnings_follow, each_copy, flushes_follow, issues_follow, narrower_maps_follow, rewritings_follow}
use Rattle.mdv_volumes.specs.Below.{AllOnDisk, AllRead, Among, Begun, Follows, HasDriveBlock, IsDisjoint, Map, Rewriting, Start, Tale, VolumeLog, after_begin, after_issue, area_of_map, last, left_in, only, opening, readings}
use Rattle.mdv_volumes.specs.Events.{Answers, Begins, Flushes, Issues, MayBeLeft, after_waking}
use Rattle.mdv_volumes.specs.Standing.{AreKept, GoesBy, LeavesNoMore}
use Rattle.mdv_volumes.specs.StandLaws.{BeginningsStand, BootsStand, FramesStand, ReadsStand, RestartsStand, WritesStand}
use Rattle.mdv_volumes.proofs.Logs.{goes_test}

module _ (v : Map) (at : ℕ) (blocks : List (List ℕ)) (log : VolumeLog) (t m : Tale) (one : IsDisjoint v) (within : at + length blocks ≤ v.blocks) (rewriting : Rewriting v at blocks t m) (follows : Follows v log t) where
  issued_follows : Follows v (after_issue at blocks log) m
  issued_follows = rewritings_follow v at blocks (after_issue at blocks log) t m one within (issues_follow.issued at blocks log) rewriting (issues_follow.follows v at blocks log t follows)

  pub issued_goes : GoesBy v log (Issues at blocks ∷ []) m
  issued_goes = record { course = (tt, tt); follows = issued_follows }

  pub answered_goes : AllRead v at blocks m → GoesBy v log (Issues at blocks ∷ Answers at blocks ∷ []) m
  answered_goes read = record {
    course = (tt, (issues_follow.newest at blocks log, tt));
    follows = answers_follow.follows v at blocks (after_issue at blocks log) m read issued_follows;
  }

  pub done_goes : AllRead v at blocks m → AllOnDisk v at (length blocks) m → GoesBy v log (Issues at blocks ∷ Answers at blocks ∷ Flushes at (length blocks) ∷ []) m
  done_goes read on = let before = answered_goes read in record {
    course = (before.course.0, (before.course.1.0, (tt, tt)));
    follows = flushes_follow.follows v at (length blocks) _ m on before.follows;
  }

pub writes_stand : WritesStand
writes_stand = record {
  issued = issued_goes;
  answered = λ v at blocks log t u one within rewriting read follows. answered_goes v at blocks log t u one within rewriting follows read;
  done = λ v at blocks log t u one within rewriting read on follows. done_goes v at blocks log t u one within rewriting follows read on;
  flushed = λ v at count log t on follows. record { course = (tt, tt); follows = flushes_follow.follows v at count log t on follows };
}

pub reads_stand : ReadsStand
reads_stand = record {
  still = λ v at log t m one within rewriting follows. rewritings_follow v at [] log t m one (omega arith) (λ k lt. absurd (omega (arith, lt))) rewriting follows;
  seen = λ v at blocks log t within copies read follows k lt.
      let copy = copies k lt in
      let reading = reading_of (last t) (v.copies (at + k)) copy.0 copy.1 copy.2 in
      subst (λ (x : List ℕ). Among (log (at + k)).reads x) (read k (last t copy.0 copy.1) lt reading) (follows.reads (at + k) (last t copy.0 copy.1) (omega arith) reading);
}

kept_follows : (v : Map) (log : VolumeLog) (t m : Tale) → AreKept v t m → Follows v log t → Follows v log m
kept_follows v log t m kept follows =
    let each = each_copy v log t follows in
    all_copies v log m (record {
      reads = λ b drive block lt has. subst (λ (x : List ℕ). Among (log b).reads x) (sym (kept b drive block lt has).last) (each.reads b drive block lt has);
      leaves = λ b drive block x lt has left. each.leaves b drive block x lt has ((kept b drive block lt has).left x left);
    })

-- what belongs to the volume isn't outside its area
in_area : (v : Map) (b drive block : ℕ) → b < v.blocks → HasDriveBlock (v.places b) drive block → area_of_map v drive block ≡ true
in_area v b drive block lt has = elim (both_ways (area_of_map v drive block)) [
  | inl does ↦ does
  | inr not ↦ absurd (areas_cover.outside v b 1 drive block (omega arith) not 0 (omega arith) (subst (λ (i : ℕ). HasDriveBlock (v.places i) drive block) (omega arith) has))
]

out_of : (a : Bool) → (a ≡ true → ⊥) → a ≡ false
out_of true never = absurd (never refl)
out_of false never = refl

pub frames_stand : FramesStand
frames_stand = record {
  kept = kept_follows;
  elsewhere = λ v w at news log t m one apart within rewriting follows.
      kept_follows v log t m (λ b drive block lt has. rewriting.outside drive block (λ k below owned. apart b (at + k) drive block lt (omega arith) (one.within b drive block lt has) owned)) follows;
  outside = λ v area log t m one apart kept follows.
      kept_follows v log t m (λ b drive block lt has. kept drive block (out_of (area drive block) (λ inside. apart drive block inside (in_area v b drive block lt (one.within b drive block lt has))))) follows;
}

begun_left : (start : Start) (drive block : ℕ) (x : List ℕ) → MayLeave (Begun start) drive block x → x ≡ start.block drive block
unfolding MayLeave values
begun_left start drive block x (inl is) = is
begun_left start drive block x (inr none) = absurd none

no_more : (t : Tale) (start : Start) → ((drive block : ℕ) → MayLeave t drive block (start.block drive block)) → LeavesNoMore t (Begun start)
no_more t start each drive block x left = subst (λ (y : List ℕ). MayLeave t drive block y) (sym (begun_left start drive block x left)) (each drive block)

pub restarts_stand : RestartsStand
restarts_stand = record {
  goes = λ v log t u less follows.
      let each = each_copy v log t follows in
      record {
        course = (tt, tt);
        follows = all_copies v (λ b. record (log b) { reads = (log b).leaves }) u (record {
          reads = λ b drive block lt has. each.leaves b drive block (last u drive block) lt has (less drive block (last u drive block) (last_may_be_left u drive block));
          leaves = λ b drive block x lt has left. each.leaves b drive block x lt has (less drive block x left);
        });
      };
  crashed = λ t start is. no_more t start is.each;
  back = λ t start held. no_more t start (λ drive block. ⊎_elim (λ same. subst (λ (y : List ℕ). MayLeave t drive block y) (sym (same block)) (last_may_be_left t drive block)) (λ left. left block) (held drive));
  same = λ t drive block x left. left;
}

waking_one : (count : ℕ) (content : ℕ → List ℕ) (log : VolumeLog) (b : ℕ) → b < count → after_waking count content log b ≡ only (content b)
waking_one count content log b lt = rw (goes_test b count lt)

pub boots_stand : BootsStand
boots_stand = record {
  woken = λ v content log t is follows. record {
    course = ((λ b lt. (follows.reads b (content b) lt (is.some b lt), follows.leaves (last t) b (content b) (last_image t) lt (is.some b lt))), tt);
    follows = record {
      reads = λ b x lt reading. rw (goes_test b v.blocks lt) (inl (is.alone (last t) b x (last_image t) lt reading));
      leaves = λ image b x is_image lt reading. rw (goes_test b v.blocks lt) (inl (is.alone image b x is_image lt reading));
    };
  };
  one = λ v content t copies reads on. record {
    some = λ b lt.
        let copy = copies b lt in
        let reading = reading_of (last t) (v.copies (0 + b)) copy.0 copy.1 copy.2 in
        let here = subst (λ (i : ℕ). Among (readings v (last t) i) (last t copy.0 copy.1)) (omega arith) reading in
        subst (λ (x : List ℕ). Among (readings v (last t) b) x) (reads b (last t copy.0 copy.1) lt here) here;
    alone = λ image b x is_image lt reading.
        let copy = copy_of image (v.copies b) x reading in
        let there = subst (λ (i : ℕ). HasDriveBlock (v.copies i) copy.drive copy.block) (omega arith) copy.has in
        let same = on b copy.drive copy.block (image copy.drive copy.block) lt there (is_image.each copy.drive copy.block) in
        copy.is ∙ same ∙ reads b (last t copy.drive copy.block) lt (reading_of (last t) (v.copies b) copy.drive copy.block copy.has);
  };
  run = λ drive first count t synced. record {
    some = λ b lt. inl refl;
    alone = λ image b x is lt reading. ⊎_elim (λ same. same ∙ synced (first + b) (image drive (first + b)) (is.each drive (first + b))) (λ none. absurd none) reading;
  };
}

-- what a read gives a crash may leave, as a log begins
opening_within : (v : Map) (t : Tale) (b : ℕ) → MayBeLeft (opening v t b)
opening_within v t b x reading =
    let w : Map = record v { blocks = b + 1 } in
    let each = each_copy w (opening w t) t (beginnings_follow.made w t) in
    let copy = copy_of (last t) (v.copies b) x reading in
    subst (λ (y : List ℕ). Among (left_in t (v.copies b)) y) (sym copy.is) (each.leaves b copy.drive copy.block (last t copy.drive copy.block) (omega arith) copy.has (last_may_be_left t copy.drive copy.block))

begun_from : (v : Map) (from : ℕ) (log : VolumeLog) (t : Tale) → Follows (record v { blocks = from }) log t → Follows v (after_begin from (opening v t) log) t
begun_from v from log t front =
    beginnings_follow.behind v from log (opening v t) t front
    (narrower_maps_follow v (cut_map (λ b. nat_le from b) v) (opening v t) t (omega arith) (λ b drive block lt has. (cut_copies (λ b. nat_le from b) v b drive block has).1) (beginnings_follow.made v t))

nothing_before : (v : Map) (log : VolumeLog) (t : Tale) → Follows (record v { blocks = 0 }) log t
nothing_before v log t = record {
  reads = λ b x lt reading. absurd (omega (arith, lt));
  leaves = λ image b x is lt reading. absurd (omega (arith, lt));
}

grown_goes : (v : Map) (from : ℕ) (log : VolumeLog) (t : Tale) → Follows (record v { blocks = from }) log t → GoesBy v log (Begins from (opening v t) ∷ []) t
grown_goes v from log t front = record { course = ((λ b le. opening_within v t b), tt); follows = begun_from v from log t front }

pub beginnings_stand : BeginningsStand
beginnings_stand = record {
  made = λ v log t. grown_goes v 0 log t (nothing_before v log t);
  grown = grown_goes;
}
