-- A map each of whose blocks has one copy: whether all its drives pass a test, and what its blocks hold.
use Rattle.std.proofs.Common.{◌≡◌, ◌⊎◌, inl, inr, ⊎_elim, ℕ, zero, suc, ◌<◌, ◌≤◌, Bool, true, List, [], map, slice_index_or, sym, ◌∙◌, ap, subst, arith}
use Rattle.std.proofs.lemmas.Bool.{cases_lt, false≢true}
use Rattle.mdv_dev.proofs.Copies.{has_copy, one_copy, one_reading, reads_there}
use Rattle.mdv_map.specs.Maps.{DriveBlock, held}
use Rattle.mdv_shelf.proofs.Blocks.{both_ways}
use Rattle.mdv_volumes.specs.Below.{Among, HasDriveBlock, IsOneCopy, LiesAt, Map, MayLeave, Tale, last, readings}
use Rattle.mdv_volumes.specs.HistoryLaws.{IsUpon}
use Rattle.mdv_volumes.specs.Standing.{HaveOneValue}

module _ (v : Map) (one : IsOneCopy v) where
  module _ (test : ℕ → Bool) where
    -- those of the first blocks pass it
    abbrev PassBelow : ℕ → Type 0
    PassBelow n = (b drive block : ℕ) → b < n → HasDriveBlock (v.copies b) drive block → test drive ≡ true

    one_more : (n drive block : ℕ) → LiesAt v n drive block → test drive ≡ true → PassBelow n → PassBelow (suc n)
    one_more n drive block at does before b other from lt has = elim (cases_lt b n) [
      | inl below ↦ before b other from below has
      | inr above ↦
          let same : b ≡ n = omega (arith, lt, above) in
          ap test (one_copy v n drive block at other from (subst (λ (k : ℕ). HasDriveBlock (v.copies k) other from) same has)).0 ∙ does
    ]

    pass_below : (n : ℕ) → n ≤ v.blocks → PassBelow n ⊎ (IsUpon test v → ⊥)
    pass_below zero le = inl (λ b drive block lt. absurd (omega (arith, lt)))
    pass_below (suc n) le =
        let at = one n (omega (arith, le)) in
        elim (both_ways (test at.0)) [
          | inl does ↦ ⊎_elim (λ before. inl (one_more n at.0 at.1 at.2 does before)) (λ never. inr never) (pass_below n (omega (arith, le)))
          | inr never ↦ inr (λ upon. false≢true (sym never ∙ upon n at.0 at.1 (omega (arith, le)) (has_copy v n at.0 at.1 at.2)))
        ]

    pub upon_or_not : IsUpon test v ⊎ (IsUpon test v → ⊥)
    upon_or_not = pass_below v.blocks (omega arith)

  -- what a read gives of each block
  abbrev pub content : Tale → ℕ → List ℕ
  content t b = slice_index_or (readings v (last t) b) 0 []

  content_is : (t : Tale) (b drive block : ℕ) → LiesAt v b drive block → content t b ≡ last t drive block
  content_is t b drive block at = ap (λ (ss : List DriveBlock). slice_index_or (map (held (last t)) ss) 0 []) at.copies

  -- where a crash leaves just that on the drives that pass a test, as all of its drives do, each block has that one value
  pub one_value : (t : Tale) (test : ℕ → Bool) → ((b drive block : ℕ) → b < v.blocks → LiesAt v b drive block → test drive ≡ true → (x : List ℕ) → MayLeave t drive block x → x ≡ last t drive block) → IsUpon test v → HaveOneValue v (content t) t
  one_value t test still upon = record {
    some = λ b lt. (let at = one b lt in subst (λ (x : List ℕ). Among (readings v (last t) b) x) (sym (content_is t b at.0 at.1 at.2)) (reads_there v b at.0 at.1 at.2 (last t)));
    alone = λ image b x is lt among.
        let at = one b lt in
        one_reading v b at.0 at.1 at.2 image x among ∙ still b at.0 at.1 lt at.2 (upon b at.0 at.1 lt (has_copy v b at.0 at.1 at.2)) (image at.0 at.1) (is.each at.0 at.1) ∙ sym (content_is t b at.0 at.1 at.2);
  }
