-- Pieces of a concatenation.
use Rattle.std.proofs.Common.{◌≡◌, inl, inr, ℕ, ◌+◌, ◌-◌, ◌<◌, ◌≤◌, true, false, ◌&&◌, ◌==◌, nat_lt, refl, sym, ◌∙◌, ap, subst, arith}
use Rattle.std.proofs.lemmas.Bool.Decides.{nat_tests}
use Rattle.mdv_shelf.proofs.Blocks.{both_ways}
use Rattle.mdv_map.proofs.Combining.{chains_lie}
use Rattle.mdv_map.proofs.Copies.{le_of_test, lt_of_test}
use Rattle.mdv_dev.specs.Below.{Map, chain_map}
use Rattle.mdv_dev.specs.Pieces.{IsPiece, LiesAt, goes_on, is_next, joined_piece}
use Rattle.mdv_dev.specs.declared.piece.Piece.{Piece}
use Rattle.mdv_dev.proofs.Lying.{goes_where}

same_drive : (a b c d : ℕ) → a == b && c == d ≡ true → a ≡ b
same_drive a b c d is = grind (arith, nat_tests)

same_block : (a b c d : ℕ) → a == b && c == d ≡ true → c ≡ d
same_block a b c d is = grind (arith, nat_tests)

turned_round : (a b c d e : ℕ) → a == b && c == d ≡ false → c ≡ e → b == a && d == e ≡ false
turned_round a b c d e is same = grind (arith, nat_tests)

module _ (v w : Map) where
  lies_front : (b drive block : ℕ) → b < v.blocks → LiesAt v b drive block → LiesAt (chain_map v w) b drive block
  lies_front b drive block lt there = let same = chains_lie.front v w b lt in record { copies = same.1 ∙ there.copies; places = same.0 ∙ there.places }

  lies_back : (a b drive block : ℕ) → a ≡ v.blocks + b → LiesAt w b drive block → LiesAt (chain_map v w) a drive block
  lies_back a b drive block is there =
      let same = chains_lie.back v w b in
      subst (λ (i : ℕ). LiesAt (chain_map v w) i drive block) (sym is) (record { copies = same.1 ∙ there.copies; places = same.0 ∙ there.places })

  goes_front : (b : ℕ) → b + 1 < v.blocks → goes_on (chain_map v w) b ≡ goes_on v b
  goes_front b lt =
      let here = (chains_lie.front v w b (omega arith)).1 in
      let next = (chains_lie.front v w (b + 1) lt).1 in
      ap (λ (c : _). is_next c ((chain_map v w).copies (b + 1))) here ∙ ap (λ (c : _). is_next (v.copies b) c) next

  goes_back : (a b : ℕ) → a ≡ v.blocks + b → goes_on (chain_map v w) a ≡ goes_on w b
  goes_back a b is =
      let behind : a + 1 ≡ v.blocks + (b + 1) = omega arith in
      let here = ap (chain_map v w).copies is ∙ (chains_lie.back v w b).1 in
      let next = ap (chain_map v w).copies behind ∙ (chains_lie.back v w (b + 1)).1 in
      ap (λ (c : _). is_next c ((chain_map v w).copies (a + 1))) here ∙ ap (λ (c : _). is_next (w.copies b) c) next

  pub back_piece : (at count : ℕ) (piece : Piece) → v.blocks ≤ at → IsPiece w (at - v.blocks) count piece → IsPiece (chain_map v w) at count piece
  back_piece at count piece behind is = record {
    some = is.some;
    within = is.within;
    lies = λ k lt. lies_back (at + k) (at - v.blocks + k) piece.drive.0 (piece.block + k) (omega arith) (is.lies k lt);
    longest = λ k last below. goes_back (at + k) (at - v.blocks + k) (omega arith) ∙ is.longest k last below;
    fits = is.fits;
  }

  -- and what may go on into the back
  module _ (at count : ℕ) (p q : Piece) (front : at < v.blocks) (more : v.blocks - at < count) (whole : p.count ≡ v.blocks - at) (one : IsPiece v at (v.blocks - at) p) (two : IsPiece w 0 (count - (v.blocks - at)) q) where
    lies_in : (drive : ℕ) → q.drive.0 ≡ drive → p.block + p.count ≡ q.block → p.drive.0 ≡ drive → (k : ℕ) → k < p.count + q.count → LiesAt (chain_map v w) (at + k) drive (p.block + k)
    lies_in drive on_q next on_p k lt = elim (both_ways (nat_lt k p.count)) [
      | inl does ↦
          let below = lt_of_test k p.count does in
          subst (λ (d : ℕ). LiesAt (chain_map v w) (at + k) d (p.block + k)) on_p (lies_front (at + k) p.drive.0 (p.block + k) (omega arith) (one.lies k below))
      | inr not ↦
          let above = le_of_test k p.count not in
          let there = two.lies (k - p.count) (omega arith) in
          let block : q.block + (k - p.count) ≡ p.block + k = omega arith in
          let moved = subst (λ (b : ℕ). LiesAt w (0 + (k - p.count)) q.drive.0 b) block there in
          lies_back (at + k) (0 + (k - p.count)) drive (p.block + k) (omega arith) (subst (λ (d : ℕ). LiesAt w (0 + (k - p.count)) d (p.block + k)) on_q moved)
    ]

    pub join_piece : IsPiece (chain_map v w) at count (joined_piece p q)
    join_piece = elim (both_ways (p.drive.0 == q.drive.0 && p.block + p.count == q.block)) [
      | inl does ↦
          let on = same_drive p.drive.0 q.drive.0 (p.block + p.count) q.block does in
          let next = same_block p.drive.0 q.drive.0 (p.block + p.count) q.block does in
          let some = two.some in
          let few = two.within in
          let fits = two.fits in
          rw does (record {
            some = omega arith;
            within = omega arith;
            lies = lies_in p.drive.0 (sym on) next refl;
            longest = λ k last below. goes_back (at + k) (0 + (k - p.count)) (omega arith) ∙ two.longest (k - p.count) (omega arith) (omega arith);
            fits = omega arith;
          })
      | inr not ↦
          let some = two.some in
          rw not (record {
            some = one.some;
            within = omega arith;
            lies = λ k lt. lies_front (at + k) p.drive.0 (p.block + k) (omega arith) (one.lies k lt);
            longest = λ k last below.
                let end : at + k + 1 ≡ v.blocks + 0 = omega arith in
                let next : p.block + p.count ≡ p.block + k + 1 = omega arith in
                goes_where (chain_map v w) (at + k) p.drive.0 (p.block + k) (q.block + 0) q.drive.0 (lies_front (at + k) p.drive.0 (p.block + k) (omega arith) (one.lies k (omega arith)))
                (lies_back (at + k + 1) (0 + 0) q.drive.0 (q.block + 0) (omega arith) (two.lies 0 some))
                ∙ turned_round p.drive.0 q.drive.0 (p.block + p.count) (q.block + 0) (p.block + k + 1) (let zeroth : q.block ≡ q.block + 0 = omega arith in subst (λ (b : ℕ). p.drive.0 == q.drive.0 && p.block + p.count == b ≡ false) zeroth not) next;
            fits = one.fits;
          })
    ]
