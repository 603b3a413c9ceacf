-- Logs that the drives follow.
use Rattle.std.proofs.Common.{◌≡◌, inl, inr, ⊎_elim, ℕ, ◌+◌, ◌-◌, ◌<◌, ◌≤◌, ◌&&◌, ◌==◌, nat_le, nat_lt, true, false, List, [], ◌∷◌, length, slice_index_or, if◌then◌else◌, refl, sym, ◌∙◌, ap, subst, arith, eq-eqb}
use Rattle.std.proofs.lemmas.Bool.Decides.{nat_tests}
use Rattle.mdv_shelf.proofs.Blocks.{both_ways, last_may_be_left}
use Rattle.mdv_shelf.specs.Tale.{MayLeave, last, values}
use Rattle.mdv_map.specs.Below.{Among, Begun, Image, IsImage, Start, Tale}
use Rattle.mdv_map.specs.Maps.{DriveBlock, Map, HasDriveBlock, IsDisjoint, readings}
use Rattle.mdv_map.specs.Logs.{VolumeLog, AreIssued, AreLastIssued, Follows, is_among, after_issue, after_answer, after_flush, after_crash, left_in, opening}
use Rattle.mdv_map.specs.Requests.{AllOnDisk, AllRead, Rewriting}
use Rattle.mdv_map.specs.Laws.{FollowsEachCopy, CopiesFollow, NarrowerMapsFollow, RewritingsFollow, IssuesFollow, AnswersFollow, FlushesFollow, CrashesFollow, BootsFollow, BeginningsFollow}
use Rattle.mdv_map.proofs.Copies.{reading_of, copy_of, among_first, among_second, among_at, is_among_range, below_test, lt_of_test, place_among, same_block, same_drive}

-- what a read gives, but for one block
abbrev with_value : Tale → ℕ → ℕ → List ℕ → Image
with_value t at_drive at_block x drive block = if drive == at_drive && block == at_block then x else last t drive block

value_there : (t : Tale) (drive block : ℕ) (x : List ℕ) → with_value t drive block x drive block ≡ x
value_there t drive block x = rw (eq-eqb drive drive refl, eq-eqb block block refl)

-- a crash may leave it so
value_left : (t : Tale) (drive block : ℕ) (x : List ℕ) → MayLeave t drive block x → IsImage t (with_value t drive block x)
value_left t drive block x left = record {
  each = λ d b. elim (both_ways (d == drive && b == block)) [
    | inl does ↦
        let here : d ≡ drive = same_drive d drive b block does in
        let there : b ≡ block = same_block d drive b block does in
        rw does (subst (λ (e : ℕ). MayLeave t e b x) (sym here) (subst (λ (c : ℕ). MayLeave t drive c x) (sym there) left))
    | inr not ↦ rw not (last_may_be_left t d b)
  ];
}

pub each_copy : (v : Map) (log : VolumeLog) (t : Tale) → Follows v log t → FollowsEachCopy v log t
each_copy v log t follows = record {
  reads = λ b drive block lt has. follows.reads b (last t drive block) lt (reading_of (last t) (v.copies b) drive block has);
  leaves = λ b drive block x lt has left.
      let image = with_value t drive block x in
      subst (λ (y : List ℕ). Among (log b).leaves y) (value_there t drive block x)
      (follows.leaves image b (image drive block) (value_left t drive block x left) lt (reading_of image (v.copies b) drive block has));
}

pub all_copies : (v : Map) (log : VolumeLog) (t : Tale) → FollowsEachCopy v log t → Follows v log t
all_copies v log t each = record {
  reads = λ b x lt reading.
      let copy = copy_of (last t) (v.copies b) x reading in subst (λ (y : List ℕ). Among (log b).reads y) (sym copy.is) (each.reads b copy.drive copy.block lt copy.has);
  leaves = λ image b x is_image lt reading.
      let copy = copy_of image (v.copies b) x reading in
      each.leaves b copy.drive copy.block x lt copy.has (subst (λ (y : List ℕ). MayLeave t copy.drive copy.block y) (sym copy.is) (is_image.each copy.drive copy.block));
}

pub copies_follow : CopiesFollow
copies_follow = record { each = each_copy; all = all_copies }

pub narrower_maps_follow : NarrowerMapsFollow
narrower_maps_follow v w log t fewer within follows =
    let each = each_copy v log t follows in
    all_copies w log t (record {
      reads = λ b drive block lt has. each.reads b drive block (omega arith) (within b drive block lt has);
      leaves = λ b drive block x lt has left. each.leaves b drive block x (omega arith) (within b drive block lt has) left;
    })

module _ (v : Map) (at : ℕ) (news : List (List ℕ)) (log : VolumeLog) (t m : Tale) (one : IsDisjoint v) (within : at + length news ≤ v.blocks) (issued : AreIssued log at news) (rewriting : Rewriting v at news t m)
    (each : FollowsEachCopy v log t) where
  reads_on : (b drive block : ℕ) → b < v.blocks → HasDriveBlock (v.copies b) drive block → Among (log b).reads (last m drive block)
  reads_on b drive block lt has =
      let owned = one.within b drive block lt has in
      elim (place_among at (length news) b) [
        | inl place ↦
            let moved = subst (λ (i : ℕ). HasDriveBlock (v.places i) drive block) place.is owned in
            let new = subst (λ (i : ℕ). Among (log i).reads (slice_index_or news place.index [])) (sym place.is) (issued place.index place.below).0 in
            ⊎_elim (λ same. subst (λ (x : List ℕ). Among (log b).reads x) (sym same) (each.reads b drive block lt has)) (λ is. subst (λ (x : List ℕ). Among (log b).reads x) (sym is) new)
            (rewriting.inside place.index drive block place.below moved).last
        | inr away ↦
            let kept = rewriting.outside drive block (λ k below other. away k below (one.apart (at + k) b drive block (omega arith) lt other owned)) in
            subst (λ (x : List ℕ). Among (log b).reads x) (sym kept.last) (each.reads b drive block lt has)
      ]

  leaves_on : (b drive block : ℕ) (x : List ℕ) → b < v.blocks → HasDriveBlock (v.copies b) drive block → MayLeave m drive block x → Among (log b).leaves x
  leaves_on b drive block x lt has left =
      let owned = one.within b drive block lt has in
      elim (place_among at (length news) b) [
        | inl place ↦
            let moved = subst (λ (i : ℕ). HasDriveBlock (v.places i) drive block) place.is owned in
            let new = subst (λ (i : ℕ). Among (log i).leaves (slice_index_or news place.index [])) (sym place.is) (issued place.index place.below).1 in
            ⊎_elim (λ old. each.leaves b drive block x lt has old) (λ is. subst (λ (y : List ℕ). Among (log b).leaves y) (sym is) new)
            ((rewriting.inside place.index drive block place.below moved).left x left)
        | inr away ↦
            let kept = rewriting.outside drive block (λ k below other. away k below (one.apart (at + k) b drive block (omega arith) lt other owned)) in
            each.leaves b drive block x lt has (kept.left x left)
      ]

pub rewritings_follow : RewritingsFollow
rewritings_follow v at news log t m one within issued rewriting follows =
    let each = each_copy v log t follows in
    all_copies v log m (record { reads = reads_on v at news log t m one within issued rewriting each; leaves = leaves_on v at news log t m one within issued rewriting each })

in_front : (at k : ℕ) → (at + k) - at ≡ k
in_front at k = omega arith

module _ (at : ℕ) (blocks : List (List ℕ)) (log : VolumeLog) where
  issue_reads : (k : ℕ) → k < length blocks → (after_issue at blocks log (at + k)).reads ≡ slice_index_or blocks k [] ∷ (log (at + k)).reads
  issue_reads k lt = rw (is_among_range at (length blocks) k lt) (ap (λ (i : ℕ). slice_index_or blocks i [] ∷ (log (at + k)).reads) (in_front at k))

  issue_leaves : (k : ℕ) → k < length blocks → (after_issue at blocks log (at + k)).leaves ≡ slice_index_or blocks k [] ∷ (log (at + k)).leaves
  issue_leaves k lt = rw (is_among_range at (length blocks) k lt) (ap (λ (i : ℕ). slice_index_or blocks i [] ∷ (log (at + k)).leaves) (in_front at k))

  issued_now : AreIssued (after_issue at blocks log) at blocks
  issued_now k lt =
      let test = is_among_range at (length blocks) k lt in
      let same : slice_index_or blocks k [] ≡ slice_index_or blocks ((at + k) - at) [] = ap (λ (i : ℕ). slice_index_or blocks i []) (sym (in_front at k)) in
      (rw test (inl same), rw test (inl same))

  newest_now : AreLastIssued (after_issue at blocks log) at blocks
  newest_now k lt =
      let test = is_among_range at (length blocks) k lt in
      ((log (at + k)).reads, rw test (ap (λ (i : ℕ). slice_index_or blocks i [] ∷ (log (at + k)).reads) (in_front at k)))

  issue_follows : (v : Map) (t : Tale) → Follows v log t → Follows v (after_issue at blocks log) t
  issue_follows v t follows = record {
    reads = λ b x lt reading. elim (both_ways (is_among at (length blocks) b)) [
      | inl does ↦ rw does (inr (follows.reads b x lt reading))
      | inr not ↦ rw not (follows.reads b x lt reading)
    ];
    leaves = λ image b x is_image lt reading. elim (both_ways (is_among at (length blocks) b)) [
      | inl does ↦ rw does (inr (follows.leaves image b x is_image lt reading))
      | inr not ↦ rw not (follows.leaves image b x is_image lt reading)
    ];
  }

  answer_follows : (v : Map) (t : Tale) → AllRead v at blocks t → Follows v log t → Follows v (after_answer at blocks log) t
  answer_follows v t all follows = record {
    reads = λ b x lt reading. elim (both_ways (is_among at (length blocks) b)) [
      | inl does ↦
          let place = among_at at (length blocks) b does in
          let is = all place.index x place.below (subst (λ (i : ℕ). Among (readings v (last t) i) x) place.is reading) in
          rw does (inl (is ∙ ap (λ (i : ℕ). slice_index_or blocks i []) (sym (in_front at place.index) ∙ ap (λ (i : ℕ). i - at) (sym place.is))))
      | inr not ↦ rw not (follows.reads b x lt reading)
    ];
    leaves = λ image b x is_image lt reading. elim (both_ways (is_among at (length blocks) b)) [
      | inl does ↦ rw does (follows.leaves image b x is_image lt reading)
      | inr not ↦ rw not (follows.leaves image b x is_image lt reading)
    ];
  }

  answer_one : (k : ℕ) → k < length blocks → (after_answer at blocks log (at + k)).reads ≡ slice_index_or blocks k [] ∷ []
  answer_one k lt = rw (is_among_range at (length blocks) k lt) (ap (λ (i : ℕ). slice_index_or blocks i [] ∷ []) (in_front at k))

  answer_leaves : (b : ℕ) → (after_answer at blocks log b).leaves ≡ (log b).leaves
  answer_leaves b = elim (both_ways (is_among at (length blocks) b)) [ inl does ↦ rw does | inr not ↦ rw not ]

pub issues_follow : IssuesFollow
issues_follow = record {
  follows = λ v at blocks log t follows. issue_follows at blocks log v t follows;
  issued = issued_now;
  newest = newest_now;
  reads = issue_reads;
  leaves = issue_leaves;
  others = λ at blocks log b not. rw not;
}

pub answers_follow : AnswersFollow
answers_follow = record {
  follows = λ v at blocks log t all follows. answer_follows at blocks log v t all follows;
  one = answer_one;
  leaves = answer_leaves;
  others = λ at blocks log b not. rw not;
}

flush_same : (at count : ℕ) (log : VolumeLog) (k : ℕ) → k < count → (after_flush at count log (at + k)).leaves ≡ (log (at + k)).reads
flush_same at count log k lt = rw (is_among_range at count k lt)

flush_reads : (at count : ℕ) (log : VolumeLog) (b : ℕ) → (after_flush at count log b).reads ≡ (log b).reads
flush_reads at count log b = elim (both_ways (is_among at count b)) [ inl does ↦ rw does | inr not ↦ rw not ]

flush_follows : (v : Map) (at count : ℕ) (log : VolumeLog) (t : Tale) → AllOnDisk v at count t → Follows v log t → Follows v (after_flush at count log) t
flush_follows v at count log t all follows =
    let each = each_copy v log t follows in
    all_copies v (after_flush at count log) t (record {
      reads = λ b drive block lt has. elim (both_ways (is_among at count b)) [
        | inl does ↦ rw does (each.reads b drive block lt has)
        | inr not ↦ rw not (each.reads b drive block lt has)
      ];
      leaves = λ b drive block x lt has left. elim (both_ways (is_among at count b)) [
        | inl does ↦
            let place = among_at at count b does in
            let is = all place.index drive block x place.below (subst (λ (i : ℕ). HasDriveBlock (v.copies i) drive block) place.is has) left in
            rw does (subst (λ (y : List ℕ). Among (log b).reads y) (sym is) (each.reads b drive block lt has))
        | inr not ↦ rw not (each.leaves b drive block x lt has left)
      ];
    })

pub flushes_follow : FlushesFollow
flushes_follow = record {
  follows = flush_follows;
  same = flush_same;
  reads = flush_reads;
  others = λ at count log b not. rw not;
}

-- at a start a read gives what the drives hold, and a crash leaves it
last_begun : (start : Start) (drive block : ℕ) → last (Begun start) drive block ≡ start.block drive block
unfolding last
last_begun start drive block = refl

left_begun : (start : Start) (drive block : ℕ) (x : List ℕ) → MayLeave (Begun start) drive block x → x ≡ start.block drive block
unfolding MayLeave values
left_begun start drive block x (inl is) = is
left_begun start drive block x (inr none) = absurd none

pub crashes_follow : CrashesFollow
crashes_follow = record {
  reads = λ log b. refl;
  leaves = λ log b. refl;
  crashed = λ v log t start is_image follows.
      let each = each_copy v log t follows in
      all_copies v (after_crash log) (Begun start) (record {
        reads = λ b drive block lt has. subst (λ (y : List ℕ). Among (log b).leaves y) (sym (last_begun start drive block)) (each.leaves b drive block (start.block drive block) lt has (is_image.each drive block));
        leaves = λ b drive block x lt has left.
            subst (λ (y : List ℕ). Among (log b).leaves y) (sym (left_begun start drive block x left)) (each.leaves b drive block (start.block drive block) lt has (is_image.each drive block));
      });
  ended = λ v log t start same follows.
      let each = each_copy v log t follows in
      all_copies v log (Begun start) (record {
        reads = λ b drive block lt has. subst (λ (y : List ℕ). Among (log b).reads y) (sym (last_begun start drive block ∙ same drive block)) (each.reads b drive block lt has);
        leaves = λ b drive block x lt has left.
            subst (λ (y : List ℕ). Among (log b).leaves y) (sym (left_begun start drive block x left ∙ same drive block)) (each.leaves b drive block (last t drive block) lt has (last_may_be_left t drive block));
      });
}

last_is_image : (t : Tale) → IsImage t (last t)
last_is_image t = record { each = λ drive block. last_may_be_left t drive block }

pub boots_follow : BootsFollow
boots_follow = record {
  woken = λ v content log t one. record {
    reads = λ b x lt reading. inl (one (last t) b x (last_is_image t) lt reading);
    leaves = λ image b x is_image lt reading. inl (one image b x is_image lt reading);
  };
  one = λ content log b. refl;
  left = λ v log t b drive block lt has follows. (each_copy v log t follows).leaves b drive block (last t drive block) lt has (last_may_be_left t drive block);
}

left_of : (t : Tale) (cs : List DriveBlock) (drive block : ℕ) (x : List ℕ) → HasDriveBlock cs drive block → MayLeave t drive block x → Among (left_in t cs) x
unfolding MayLeave
left_of t [] drive block x none left = absurd none
left_of t (s ∷ ss) drive block x (inl (d, b)) left =
    among_first (values t s.drive s.block) (left_in t ss) x (subst (λ (e : ℕ). Among (values t e s.block) x) d (subst (λ (c : ℕ). Among (values t drive c) x) b left))
left_of t (s ∷ ss) drive block x (inr rest) left = among_second (values t s.drive s.block) (left_in t ss) x (left_of t ss drive block x rest left)

from_there : (b from : ℕ) → nat_lt b from ≡ false → nat_le from b ≡ true
from_there b from not = grind (arith, nat_tests)

not_below : (b from : ℕ) → from ≤ b → nat_lt b from ≡ false
not_below b from le = grind (arith, nat_tests)

pub beginnings_follow : BeginningsFollow
beginnings_follow = record {
  made = λ v t. all_copies v (opening v t) t (record {
    reads = λ b drive block lt has. reading_of (last t) (v.copies b) drive block has;
    leaves = λ b drive block x lt has left. left_of t (v.copies b) drive block x has left;
  });
  behind = λ v from log logs t front rest. record {
    reads = λ b x lt reading. elim (both_ways (nat_lt b from)) [
      | inl does ↦ rw does (front.reads b x (lt_of_test b from does) reading)
      | inr not ↦ let test = from_there b from not in rw not (rest.reads b x lt (rw test reading))
    ];
    leaves = λ image b x is_image lt reading. elim (both_ways (nat_lt b from)) [
      | inl does ↦ rw does (front.leaves image b x is_image (lt_of_test b from does) reading)
      | inr not ↦ let test = from_there b from not in rw not (rest.leaves image b x is_image lt (rw test reading))
    ];
  };
  before = λ from log logs b lt. rw (below_test b from lt);
  beyond = λ from log logs b le. rw (not_below b from le);
}
