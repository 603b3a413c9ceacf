-- Maps made of other maps.
use Rattle.std.proofs.Common.{◌≡◌, ◌⊎◌, inl, inr, ℕ, ◌+◌, ◌-◌, ◌<◌, ◌≤◌, Bool, true, false, nat_lt, List, ◌++◌, refl, sym, ◌∙◌, ap, subst, arith}
use Rattle.std.proofs.lemmas.Bool.Decides.{nat_tests}
use Rattle.std.proofs.lemmas.List.{map-append}
use Rattle.mdv_shelf.proofs.Blocks.{both_ways}
use Rattle.mdv_map.specs.Below.{Image}
use Rattle.mdv_map.specs.Maps.{DriveBlock, Map, HasDriveBlock, IsDisjoint, AreDisjoint, run_map, chain_map, mirror_map, cut_map, held, readings}
use Rattle.mdv_map.specs.Laws.{ChainsLie, CutsLie, MirrorsLie, SoftPartitionsLie}
use Rattle.mdv_map.proofs.Copies.{in_either, in_first, in_second, below_test, le_of_test, lt_of_test}

-- a block of a run is one block of its drive
pub in_run : (drive first count b other block : ℕ) → HasDriveBlock ((run_map drive first count).places b) other block → (other ≡ drive) × (block ≡ first + b)
in_run drive first count b other block (inl here) = here
in_run drive first count b other block (inr none) = absurd none

pub run_disjoint : (drive first count : ℕ) → IsDisjoint (run_map drive first count)
run_disjoint drive first count = record {
  apart = λ a b other block below above in_a in_b.
      let one = in_run drive first count a other block in_a in
      let two = in_run drive first count b other block in_b in omega (arith, one.1, two.1);
  within = λ b other block below has. has;
}

pub runs_apart : (drive first count other from length : ℕ) → (drive ≡ other → ⊥) ⊎ ((first + count ≤ from) ⊎ (from + length ≤ first)) → AreDisjoint (run_map drive first count) (run_map other from length)
runs_apart drive first count other from length away a b at block below above in_a in_b =
    let one = in_run drive first count a at block in_a in
    let two = in_run other from length b at block in_b in
    elim away [
      | inl elsewhere ↦ elsewhere (sym one.0 ∙ two.0)
      | inr beside ↦ elim beside [ inl before ↦ absurd (omega (arith, before, one.1, two.1)) | inr behind ↦ absurd (omega (arith, behind, one.1, two.1)) ]
    ]

above_test : (b n : ℕ) → nat_lt (n + b) n ≡ false
above_test b n = grind (arith, nat_tests)

module _ (v w : Map) where
  chain_front : (b : ℕ) → b < v.blocks → ((chain_map v w).places b ≡ v.places b) × ((chain_map v w).copies b ≡ v.copies b)
  chain_front b lt = let test = below_test b v.blocks lt in (rw test, rw test)

  chain_back : (b : ℕ) → ((chain_map v w).places (v.blocks + b) ≡ w.places b) × ((chain_map v w).copies (v.blocks + b) ≡ w.copies b)
  chain_back b =
      let test = above_test b v.blocks in
      let same : (v.blocks + b) - v.blocks ≡ b = omega arith in (rw test (ap w.places same), rw test (ap w.copies same))

  -- a block of a concatenation is one of the first part, or one of the second
  record InSecond (b : ℕ) : Type 0 where
    behind : ℕ
    is : b ≡ v.blocks + behind
    below : behind < w.blocks

  in_part : (b : ℕ) → b < v.blocks + w.blocks → (b < v.blocks) ⊎ InSecond b
  in_part b lt = elim (both_ways (nat_lt b v.blocks)) [
    | inl does ↦ inl (lt_of_test b v.blocks does)
    | inr not ↦ inr (let le : v.blocks ≤ b = le_of_test b v.blocks not in record { behind = b - v.blocks; is = omega arith; below = omega arith })
  ]

  module _ (drive block : ℕ) where
    abbrev Has : List DriveBlock → Type 0
    Has blocks = HasDriveBlock blocks drive block

    front_places : (b : ℕ) → b < v.blocks → Has ((chain_map v w).places b) → Has (v.places b)
    front_places b lt has = subst Has (chain_front b lt).0 has

    back_places : (b : ℕ) (in_w : InSecond b) → Has ((chain_map v w).places b) → Has (w.places in_w.behind)
    back_places b in_w has = subst Has (ap (chain_map v w).places in_w.is ∙ (chain_back in_w.behind).0) has

  chain_disjoint : IsDisjoint v → IsDisjoint w → AreDisjoint v w → IsDisjoint (chain_map v w)
  chain_disjoint one two apart = record {
    apart = λ a b drive block below above in_a in_b. elim (in_part a below) [
      | inl a_front ↦ elim (in_part b above) [
        | inl b_front ↦ one.apart a b drive block a_front b_front (front_places drive block a a_front in_a) (front_places drive block b b_front in_b)
        | inr b_back ↦ absurd (apart a b_back.behind drive block a_front b_back.below (front_places drive block a a_front in_a) (back_places drive block b b_back in_b))
      ]
      | inr a_back ↦ elim (in_part b above) [
        | inl b_front ↦ absurd (apart b a_back.behind drive block b_front a_back.below (front_places drive block b b_front in_b) (back_places drive block a a_back in_a))
        | inr b_back ↦
            let same = two.apart a_back.behind b_back.behind drive block a_back.below b_back.below (back_places drive block a a_back in_a) (back_places drive block b b_back in_b) in
            omega (arith, same, a_back.is, b_back.is)
      ]
    ];
    within = λ b drive block below has. elim (in_part b below) [
      | inl front ↦ subst (Has drive block) (sym (chain_front b front).0) (one.within b drive block front (subst (Has drive block) (chain_front b front).1 has))
      | inr back ↦
          let copies = ap (chain_map v w).copies back.is ∙ (chain_back back.behind).1 in
          let places = ap (chain_map v w).places back.is ∙ (chain_back back.behind).0 in
          subst (Has drive block) (sym places) (two.within back.behind drive block back.below (subst (Has drive block) copies has))
    ];
  }

  chain_apart : (u : Map) → AreDisjoint v u → AreDisjoint w u → AreDisjoint (chain_map v w) u
  chain_apart u one two a b drive block below above in_a in_b = elim (in_part a below) [
    | inl front ↦ one a b drive block front above (front_places drive block a front in_a) in_b
    | inr back ↦ two back.behind b drive block back.below above (back_places drive block a back in_a) in_b
  ]

  mirror_reads : (image : Image) (b : ℕ) → readings (mirror_map v w) image b ≡ readings v image b ++ readings w image b
  mirror_reads image b = map-append (held image) (v.copies b) (w.copies b)

  mirror_either : (b drive block : ℕ) → HasDriveBlock ((mirror_map v w).places b) drive block → HasDriveBlock (v.places b) drive block ⊎ HasDriveBlock (w.places b) drive block
  mirror_either b drive block has = in_either (v.places b) (w.places b) drive block has

  mirror_disjoint : v.blocks ≤ w.blocks → IsDisjoint v → IsDisjoint w → AreDisjoint v w → IsDisjoint (mirror_map v w)
  mirror_disjoint room one two apart = record {
    apart = λ a b drive block below above in_a in_b. elim (mirror_either a drive block in_a) [
      | inl a_left ↦ elim (mirror_either b drive block in_b) [
        | inl b_left ↦ one.apart a b drive block below above a_left b_left
        | inr b_right ↦ absurd (apart a b drive block below (omega arith) a_left b_right)
      ]
      | inr a_right ↦ elim (mirror_either b drive block in_b) [
        | inl b_left ↦ absurd (apart b a drive block above (omega arith) b_left a_right)
        | inr b_right ↦ two.apart a b drive block (omega arith) (omega arith) a_right b_right
      ]
    ];
    within = λ b drive block below has. elim (in_either (v.copies b) (w.copies b) drive block has) [
      | inl left ↦ in_first (v.places b) (w.places b) drive block (one.within b drive block below left)
      | inr right ↦ in_second (v.places b) (w.places b) drive block (two.within b drive block (omega arith) right)
    ];
  }

  mirror_apart : (u : Map) → v.blocks ≤ w.blocks → AreDisjoint v u → AreDisjoint w u → AreDisjoint (mirror_map v w) u
  mirror_apart u room one two a b drive block below above in_a in_b = elim (mirror_either a drive block in_a) [
    | inl left ↦ one a b drive block below above left in_b
    | inr right ↦ two a b drive block (omega arith) above right in_b
  ]

pub chains_lie : ChainsLie
chains_lie = record { front = chain_front; back = chain_back; blocks = λ v w. refl; disjoint = chain_disjoint; apart = chain_apart }

pub mirrors_lie : MirrorsLie
mirrors_lie = record {
  reads = mirror_reads;
  places = λ v w b. refl;
  blocks = λ v w. refl;
  either = mirror_either;
  disjoint = mirror_disjoint;
  apart = mirror_apart;
}

pub cut_copies : (usable : ℕ → Bool) (v : Map) (b drive block : ℕ) → HasDriveBlock ((cut_map usable v).copies b) drive block → (usable b ≡ true) × HasDriveBlock (v.copies b) drive block
cut_copies usable v b drive block has = elim (both_ways (usable b)) [
  | inl does ↦ (does, rw does at has)
  | inr not ↦ absurd (rw not at has)
]

pub cuts_lie : CutsLie
cuts_lie = record {
  copies = cut_copies;
  others = λ usable v b is. rw is;
  places = λ usable v b. refl;
  blocks = λ usable v. refl;
  disjoint = λ usable v one. record {
    apart = one.apart;
    within = λ b drive block below has. one.within b drive block below (cut_copies usable v b drive block has).1;
  };
}

pub soft_partitions_lie : SoftPartitionsLie
soft_partitions_lie = record {
  copies = λ pick count v b. refl;
  places = λ pick count v b. refl;
  blocks = λ pick count v. refl;
  within = λ pick count v picks b drive block below has. (pick b, picks b below, has);
  disjoint = λ pick count v picks one_to_one one. record {
    apart = λ a b drive block below above in_a in_b. one_to_one a b below above (one.apart (pick a) (pick b) drive block (picks a below) (picks b above) in_a in_b);
    within = λ b drive block below has. one.within (pick b) drive block (picks b below) has;
  };
  apart = λ v w u within one a b drive block below above in_a in_b. (let inner = within a drive block below in_a in one inner.0 b drive block inner.1 above inner.2 in_b);
}
