-- Pieces of a device that are made of pieces of its parts.
use Rattle.std.proofs.Common.{◌≡◌, inl, inr, ℕ, ◌+◌, ◌-◌, ◌≤◌, true, false, ◌&&◌, ◌==◌, nat_lt, ◌∙◌, subst, arith}
use Rattle.mdv_shelf.proofs.Blocks.{both_ways}
use Rattle.mdv_map.specs.Maps.{Map}
use Rattle.mdv_map.proofs.Copies.{le_of_test, lt_of_test, same_block, same_drive}
use Rattle.mdv_dev.specs.Pieces.{IsPiece, LiesAt}
use Rattle.mdv_dev.specs.Together.{LieTogether}
use Rattle.mdv_dev.specs.declared.piece.Piece.{Piece}
use Rattle.mdv_dev.proofs.Lying.{goes_where}

-- blocks, and others behind them on the same drive
module _ (v : Map) (at count : ℕ) (p q : Piece) (one : LieTogether v at count p) (two : LieTogether v (at + p.count) (count - p.count) q) where
  pub join_pieces : (q.drive.0 == p.drive.0 && q.block == p.block + p.count) ≡ true → LieTogether v at count (record p { count = p.count + q.count })
  join_pieces is =
      let on = same_drive q.drive.0 p.drive.0 q.block (p.block + p.count) is in
      let behind = same_block q.drive.0 p.drive.0 q.block (p.block + p.count) is in
      let first = one.some in
      let few = one.within in
      let more = two.within in
      let fits = two.fits in
      record {
        some = omega arith;
        within = omega arith;
        lies = λ k lt. elim (both_ways (nat_lt k p.count)) [
          | inl does ↦ one.lies k (lt_of_test k p.count does)
          | inr not ↦
              let above = le_of_test k p.count not in
              let there = two.lies (k - p.count) (omega arith) in
              let here : at + p.count + (k - p.count) ≡ at + k = omega arith in
              let block : q.block + (k - p.count) ≡ p.block + k = omega arith in
              let moved = subst (λ (b : ℕ). LiesAt v (at + p.count + (k - p.count)) q.drive.0 b) block there in
              let placed = subst (λ (i : ℕ). LiesAt v i q.drive.0 (p.block + k)) here moved in
              subst (λ (d : ℕ). LiesAt v (at + k) d (p.block + k)) on placed
        ];
        fits = omega arith;
      }

  pub ends_here : (q.drive.0 == p.drive.0 && q.block == p.block + p.count) ≡ false → IsPiece v at count p
  ends_here not =
      let some = two.some in
      record {
        some = one.some;
        within = one.within;
        lies = one.lies;
        longest = λ k last below.
            let next : at + p.count + 0 ≡ at + k + 1 = omega arith in
            let here = one.lies k (omega arith) in
            let there = subst (λ (i : ℕ). LiesAt v i q.drive.0 (q.block + 0)) next (two.lies 0 some) in
            goes_where v (at + k) p.drive.0 (p.block + k) (q.block + 0) q.drive.0 here there ∙ not_behind k last;
        fits = one.fits;
      }
    where
      not_behind : (k : ℕ) → k + 1 ≡ p.count → (q.drive.0 == p.drive.0 && q.block + 0 == p.block + k + 1) ≡ false
      not_behind k last =
          let first : q.block + 0 ≡ q.block = omega arith in
          let second : p.block + k + 1 ≡ p.block + p.count = omega arith in rw (first, second) not

pub whole_piece : (v : Map) (at count : ℕ) (p : Piece) → LieTogether v at count p → count ≤ p.count → IsPiece v at count p
whole_piece v at count p one all = record {
  some = one.some;
  within = one.within;
  lies = one.lies;
  longest = λ k last below. absurd (omega arith);
  fits = one.fits;
}
