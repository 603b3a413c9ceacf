-- Blocks of a buffer that are given to a call, and those that come back.
use Rattle.std.proofs.Common.{◌≡◌, ℕ, ◌+◌, ◌-◌, ◌<◌, ◌≤◌, List, [], ◌++◌, length, take, drop, slice_index_or, sym, ◌∙◌, ap, arith, length-take, length-drop}
use Rattle.std.proofs.lemmas.List.{get_or-drop, get_or-take, length-take-le}
use Rattle.std.proofs.lemmas.Slice.{drop-put_mid, take-put_mid, take-put_mid_below}
use Rattle.std.proofs.lemmas.List.{get_or-append-add}
use borrow.Rule.Slice.PartMut.{put_mid, same_len_mid}

module _ (from count : ℕ) (buffer : List (List ℕ)) (room : from + count ≤ length buffer) where
  abbrev pub Part : List (List ℕ)
  Part = take (from + count - from) (drop from buffer)

  pub part_long : length Part ≡ count
  part_long = simp (length-take, length-drop) (omega arith)

  pub part_is : (k : ℕ) → k < length Part → slice_index_or Part k [] ≡ slice_index_or buffer (from + k) []
  part_is k lt = let long = part_long in get_or-take (from + count - from) (drop from buffer) k [] (omega arith) ∙ get_or-drop from buffer k []

  module _ (news : List (List ℕ)) (long : length news ≡ count) where
    abbrev pub Filled : List (List ℕ)
    Filled = put_mid from (from + count - from) buffer news

    pub filled_front : (k : ℕ) → k < from → slice_index_or Filled k [] ≡ slice_index_or buffer k []
    filled_front k lt =
        sym (get_or-take from Filled k [] lt) ∙ ap (λ (l : List (List ℕ)). slice_index_or l k []) (take-put_mid_below from (from + count - from) buffer news from (omega arith) (omega arith)) ∙ get_or-take from buffer k [] lt

    pub filled_part : (j : ℕ) → j < count → slice_index_or Filled (from + j) [] ≡ slice_index_or news j []
    filled_part j lt =
        let front = length-take-le from buffer (omega arith) in
        sym (get_or-take (from + count) Filled (from + j) [] (omega arith))
        ∙ ap (λ (l : List (List ℕ)). slice_index_or l (from + j) []) (take-put_mid from (from + count - from) buffer news (from + count) (omega arith) (omega arith))
        ∙ ap (λ (n : ℕ). slice_index_or (take from buffer ++ news) (n + j) []) (sym front)
        ∙ get_or-append-add (take from buffer) news j []

    pub filled_long : length Filled ≡ length buffer
    filled_long = same_len_mid from (from + count - from) buffer news (long ∙ sym part_long)

    pub filled_before : take from Filled ≡ take from buffer
    filled_before = take-put_mid_below from (from + count - from) buffer news from (omega arith) (omega arith)

    pub filled_behind : drop (from + count) Filled ≡ drop (from + count) buffer
    filled_behind = drop-put_mid from (from + count - from) buffer news (from + count) (omega arith) (omega arith) (omega (arith, long))
