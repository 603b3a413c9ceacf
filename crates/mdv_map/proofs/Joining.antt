-- Moments of requests, one after another and part of one another.
use Rattle.std.proofs.Common.{◌≡◌, inl, inr, ⊎_elim, ℕ, ◌+◌, ◌<◌, ◌≤◌, List, [], length, slice_index_or, refl, sym, ◌∙◌, ap, subst, arith}
use Rattle.mdv_shelf.proofs.Frame.{kept_more}
use Rattle.mdv_shelf.proofs.Settled.{same_block, same_kept}
use Rattle.mdv_map.specs.Below.{IsKept, IsOldOrNew, Tale}
use Rattle.mdv_map.specs.Maps.{Map, HasDriveBlock, IsDisjoint, AreDisjoint, mirror_map, soft_map}
use Rattle.mdv_map.specs.Requests.{Rewriting}
use Rattle.mdv_map.specs.Laws.{IsPartOf, RewritingsJoin}
use Rattle.mdv_map.proofs.Copies.{in_either, in_first, in_second, place_among}

-- old or new twice is old or new
pub old_or_new_more : (t u m : Tale) (drive block : ℕ) (new : List ℕ) → IsOldOrNew t u drive block new → IsOldOrNew u m drive block new → IsOldOrNew t m drive block new
old_or_new_more t u m drive block new first second = record {
  last = ⊎_elim (λ same. ⊎_elim (λ old. inl (same ∙ old)) (λ is. inr (same ∙ is)) first.last) (λ is. inr is) second.last;
  left = λ x left. ⊎_elim (λ before. first.left x before) (λ is. inr is) (second.left x left);
}

-- what is kept is old
pub kept_is_old : (t m : Tale) (drive block : ℕ) (new : List ℕ) → IsKept t m drive block → IsOldOrNew t m drive block new
kept_is_old t m drive block new kept = record { last = inl kept.last; left = λ x left. inl (kept.left x left) }

pub still : (v : Map) (at : ℕ) (news : List (List ℕ)) (t : Tale) → Rewriting v at news t t
still v at news t = record {
  inside = λ k drive block lt has. same_block t drive block (slice_index_or news k []);
  outside = λ drive block off. same_kept t drive block;
  quiet = refl;
}

pub more : (v : Map) (at : ℕ) (news : List (List ℕ)) (t u m : Tale) → Rewriting v at news t u → Rewriting v at news u m → Rewriting v at news t m
more v at news t u m first second = record {
  inside = λ k drive block lt has. old_or_new_more t u m drive block (slice_index_or news k []) (first.inside k drive block lt has) (second.inside k drive block lt has);
  outside = λ drive block off. kept_more t u m drive block (first.outside drive block off) (second.outside drive block off);
  quiet = second.quiet ∙ first.quiet;
}

pub parts : (v : Map) (at : ℕ) (news : List (List ℕ)) (w : Map) (from : ℕ) (all : List (List ℕ)) (t m : Tale) → IsPartOf v at news w from all → Rewriting v at news t m → Rewriting w from all t m
parts v at news w from all t m part rewriting = record {
  inside = λ k drive block lt has. elim (part.inside k drive block lt has) [
    | inl (j, below, owned, same) ↦ subst (λ (x : List ℕ). IsOldOrNew t m drive block x) same (rewriting.inside j drive block below owned)
    | inr off ↦ kept_is_old t m drive block (slice_index_or all k []) (rewriting.outside drive block off)
  ];
  outside = λ drive block off. rewriting.outside drive block (part.outside drive block off);
  quiet = rewriting.quiet;
}

module _ (v : Map) (at done : ℕ) (news all : List (List ℕ)) (one : IsDisjoint v) (within : at + length all ≤ v.blocks) (room : done + length news ≤ length all)
    (same : (k : ℕ) → k < length news → slice_index_or news k [] ≡ slice_index_or all (done + k) []) where
  slice_is_part : IsPartOf v (at + done) news v at all
  slice_is_part = record {
    inside = λ k drive block lt has. elim (place_among done (length news) k) [
      | inl place ↦ inl (
        place.index,
        place.below,
        subst (λ (i : ℕ). HasDriveBlock (v.places i) drive block) (ap (λ (i : ℕ). at + i) place.is ∙ omega arith) has,
        same place.index place.below ∙ ap (λ (i : ℕ). slice_index_or all i []) (sym place.is),
      )
      | inr away ↦ inr (λ j below owned. let there = one.apart (at + done + j) (at + k) drive block (omega arith) (omega arith) owned has in away j below (omega arith))
    ];
    outside = λ drive block off k lt has. off (done + k) (omega arith) (subst (λ (i : ℕ). HasDriveBlock (v.places i) drive block) (omega arith) has);
  }

module _ (pick : ℕ → ℕ) (count : ℕ) (v : Map) (at : ℕ) (news : List (List ℕ)) (together : (k : ℕ) → k < length news → pick (at + k) ≡ pick at + k) where
  soft_is_part : IsPartOf v (pick at) news (soft_map pick count v) at news
  soft_is_part = record {
    inside = λ k drive block lt has. inl (k, lt, subst (λ (i : ℕ). HasDriveBlock (v.places i) drive block) (together k lt) has, refl);
    outside = λ drive block off k lt has. off k lt (subst (λ (i : ℕ). HasDriveBlock (v.places i) drive block) (sym (together k lt)) has);
  }

module _ (v w : Map) (at : ℕ) (news : List (List ℕ)) (apart : AreDisjoint v w) (in_v : at + length news ≤ v.blocks) (in_w : at + length news ≤ w.blocks) where
  left_is_part : IsPartOf v at news (mirror_map v w) at news
  left_is_part = record {
    inside = λ k drive block lt has. elim (in_either (v.places (at + k)) (w.places (at + k)) drive block has) [
      | inl here ↦ inl (k, lt, here, refl)
      | inr there ↦ inr (λ j below owned. apart (at + j) (at + k) drive block (omega arith) (omega arith) owned there)
    ];
    outside = λ drive block off k lt has. off k lt (in_first (v.places (at + k)) (w.places (at + k)) drive block has);
  }

  right_is_part : IsPartOf w at news (mirror_map v w) at news
  right_is_part = record {
    inside = λ k drive block lt has. elim (in_either (v.places (at + k)) (w.places (at + k)) drive block has) [
      | inl there ↦ inr (λ j below owned. apart (at + k) (at + j) drive block (omega arith) (omega arith) there owned)
      | inr here ↦ inl (k, lt, here, refl)
    ];
    outside = λ drive block off k lt has. off k lt (in_second (v.places (at + k)) (w.places (at + k)) drive block has);
  }

pub rewritings_join : RewritingsJoin
rewritings_join = record {
  still = still;
  more = more;
  parts = parts;
  slice = λ v at done news all t m one within room same rewriting. parts v (at + done) news v at all t m (slice_is_part v at done news all one within room same) rewriting;
  soft = λ pick count v at news t m together rewriting. parts v (pick at) news (soft_map pick count v) at news t m (soft_is_part pick count v at news together) rewriting;
  left = λ v w at news t m apart in_v in_w rewriting. parts v at news (mirror_map v w) at news t m (left_is_part v w at news apart in_v in_w) rewriting;
  right = λ v w at news t m apart in_v in_w rewriting. parts w at news (mirror_map v w) at news t m (right_is_part v w at news apart in_v in_w) rewriting;
}
